-- The readers of a body's options, which come in any order, each at most once: where none may come, any token is
-- wrong.
use Rattle.std.proofs.Common.{◌≡◌, ℕ, suc, Bool, true, false, List, [], ◌∷◌, Some, Result, Err, refl, sym, ◌∙◌, subst}
use Rattle.std.proofs.Common.{inl, inr, arith}
use Rattle.std.specs.Prelude.{codes, not, ◌&&◌, ◌||◌, is_none, if◌then◌else◌}
use Rattle.rt_lemmas.proofs.Bools.{or_left, or_right}
use Rattle.rt_ids.specs.declared.limit.Limit.TheVariants as limit
use Rattle.rt_ids.specs.declared.limits.TheConstants.{CAPACITY}
use Rattle.rt_lex.specs.Token.{Token, is_this_word, is_this_sign}
use Rattle.rt_ast.specs.declared.app.ListedTree.{ListedTree}
use Rattle.rt_grammar.specs.Mark.{Mark}
use Rattle.rt_grammar.specs.Language.{Language, gives, ◌>>=◌, ◌or◌, only_if}
use Rattle.rt_grammar.specs.Tokens.{free, word, sign, name, number, limited_number, list, adds, names}
use Rattle.rt_grammar.specs.Limits.{within}
use Rattle.rt_grammar.specs.Options.{Options, no_options, Owner, is_task, is_init, listed_resource, priority_option}
use Rattle.rt_grammar.specs.Options.{capacity_option, shared_option, local_option, option, options}
use Rattle.rt_parse.specs.Inside.Reading as reading
use Rattle.rt_parse.specs.Inside.Reading.{Reader, begins_with, fault_found_at, token_at}
use Rattle.rt_parse.specs.Inside.ReadingExpression.{is_name}
use Rattle.rt_parse.specs.Inside.ReadingOptions.{option_comes, binds_at, priority_at, capacity_at, ref_resource_at}
use Rattle.rt_parse.specs.Inside.ReadingOptions.{named_resource_at, listed_resource_at, shared_list_at, local_list_at}
use Rattle.rt_parse.specs.Inside.ReadingOptions.{option_at, some_options_at, options_at}
use Rattle.rt_parse.specs.declared.stop.Found.{Found}
use Rattle.rt_parse.proofs.Exact.{Outcome, IsInhabited, Starts, ReadsAfter, ReadsOrNone, IsForm, IsNone, nothing}
use Rattle.rt_parse.proofs.ExactOutcome.{outcome_blocked}
use Rattle.rt_parse.proofs.ExactThen.{some_then, reads_same, reads_only_if}
use Rattle.rt_parse.proofs.ExactStarts.{starts_then, starts_or, starts_wider, starts_only_if, blocked_starts}
use Rattle.rt_parse.proofs.ExactStarts.{avoids_apart, some_left}
use Rattle.rt_parse.proofs.ExactChoice.{reads_choice, reads_alone, reads_alone', none_only_if}
use Rattle.rt_parse.proofs.ExactSigns.{signs_apart, starts_sign, starts_word}
use Rattle.rt_parse.proofs.ExactItems.{reads_list_or_none}
use Rattle.rt_parse.proofs.ReadsWords.{of_words, is_other, words_no_sign, starts_one, starts_words, reads_words}
use Rattle.rt_parse.proofs.ReadsWords.{list_some}
use Rattle.rt_parse.proofs.ReadsHead.{name_starts, name_apart, form_list, names_form}
use Rattle.rt_parse.proofs.ReadsForm.{Form, form_word, form_sign, form_name, form_number, form_then, form_map}
use Rattle.rt_parse.proofs.ReadsForm.{form_fewer, form_goes, form_optional}

-- Where the next token is not a form's first, it is wrong.
reads_tested : {A B C : Type 0} {before : Token → Bool} {goes stops : A → Token → Bool} {longer : ℕ → ℕ} {value : A → C}
    {L : Language A} {reader reader' : Reader C} (test : Token → Bool)
    → Starts test L → IsInhabited L → ((tokens : List Token) → reader' tokens ≡ Err (fault_found_at tokens))
    → ReadsAfter B before goes stops longer value L reader
    → ReadsAfter B before goes stops longer value L (λ tokens. if begins_with test tokens then reader tokens else
    reader' tokens)
reads_tested {A} {B} {C} {L = L} {reader = reader} {reader' = reader'} test starts some wrong reads = record {
  exact = λ behind read most any avoids exact tokens le stop. choose behind read tokens any (begins_with test tokens)
      refl (reads.exact behind read most any avoids exact tokens le stop);
}
  where
    choose : (K : A → Language B) (read : C → List Token → Result B Found) (tokens : List Token)
        → ((x : A) → IsInhabited (K x)) → (b : Bool) → begins_with test tokens ≡ b
        → Outcome (L >>= K) tokens (reading.◌>>=◌ (reader tokens) (λ got. read got.0 got.1))
        → Outcome (L >>= K) tokens (reading.◌>>=◌ (if b then reader tokens else reader' tokens)
        (λ got. read got.0 got.1))
    choose K read tokens any true e o = o
    choose K read tokens any false e o = subst (λ (r : Result (C × List Token) Found). Outcome (L >>= K) tokens
        (reading.◌>>=◌ r (λ got. read got.0 got.1))) (sym (wrong tokens))
        (outcome_blocked (L >>= K) tokens (blocked_starts test tokens (starts_then K starts) e) (some_then some any))

no_take : {C : Type 0} (text : List ℕ) (reader reader' : Reader C) (tokens : List Token) → reader' tokens
    ≡ (if begins_with (option_comes false text) tokens then reader tokens else reader' tokens)
no_take text reader reader' [] = refl
no_take text reader reader' (t ∷ tokens) = refl

-- one option that may come here or not, or others
choice_or_none : {A B : Type 0} {L M : Language A} {reader reader' : Reader A} (allowed : Bool) (text : List ℕ)
    (texts : List (List ℕ)) → is_other text texts ≡ true
    → Starts (is_this_word text) L → Starts (of_words texts) M → Form B (λ t. false) nothing nothing suc (λ x. x) L
    reader → ReadsOrNone B nothing (λ x. x) M reader'
    → ReadsOrNone B nothing (λ x. x) (only_if allowed L or M)
    (λ tokens. if begins_with (option_comes allowed text) tokens then reader tokens else reader' tokens)
choice_or_none {L = L} {M = M} true text texts other l m first (IsForm second) = IsForm
    (reads_words text texts other (starts_only_if l) m (reads_only_if refl first.reads) second)
choice_or_none {L = L} {M = M} true text texts other l m first (IsNone none wrong) = IsForm
    (reads_alone M none (reads_tested (is_this_word text) (starts_only_if l)
    (first.some.0, first.some.1, (refl, first.some.2)) wrong (reads_only_if refl first.reads)))
choice_or_none {L = L} {M = M} {reader = reader} {reader' = reader'} false text texts other l m first (IsForm second) =
    IsForm
    (reads_same (λ marks x l. l) (λ marks x l. l) (no_take text reader reader')
    (reads_alone' (only_if false L) (none_only_if L refl) second))
choice_or_none {L = L} {M = M} {reader = reader} {reader' = reader'} false text texts other l m first
    (IsNone none wrong) = IsNone
    none_of
    (λ tokens. sym (no_take text reader reader' tokens) ∙ wrong tokens)
  where
    none_of : (marks : List Mark) (x : _) → (only_if false L or M) marks x → ⊥
    none_of marks x (inl l) = none_only_if L refl marks x l
    none_of marks x (inr m) = none marks x m

-- one option alone
last_or_none : {A B : Type 0} {L : Language A} {reader : Reader A} (allowed : Bool) (text : List ℕ)
    → Starts (is_this_word text) L → Form B (λ t. false) nothing nothing suc (λ x. x) L reader
    → ReadsOrNone B nothing (λ x. x) (only_if allowed L)
    (λ tokens. if begins_with (option_comes allowed text) tokens then reader tokens else Err (fault_found_at tokens))
last_or_none {L = L} {reader = reader} true text l first =
    IsForm (reads_tested (is_this_word text) (starts_only_if l) (first.some.0, first.some.1, (refl, first.some.2))
    (λ tokens. refl) (reads_only_if refl first.reads))
last_or_none {L = L} {reader = reader} false text l first = IsNone (none_only_if L refl)
    (λ tokens. sym (no_take text reader (λ tokens. Err (fault_found_at tokens)) tokens))

-- The options.

binds_of : Options → Language Options
binds_of o = word (codes "binds") >>= λ at. sign (codes "=") >>= λ at. name >>= λ x. gives (record o { binds = Some x })

binds_form : {B : Type 0} {before : Token → Bool} (o : Options) → Form B before nothing nothing suc (λ x. x)
    (binds_of o) (binds_at o)
unfolding binds_of binds_at
binds_form o = form_fewer (λ n. omega arith)
    (form_then _ form_word (λ at. form_then _ form_sign (λ at. form_map (λ x. record o { binds = Some x })
    (λ x. record o { binds = Some x }) (form_name free) (λ x. refl))))

priority_of : Options → Language Options
priority_of o = word (codes "priority") >>= λ at. sign (codes "=") >>= λ at. number >>= λ n. gives
    (record o { priority = Some n })

priority_form : {B : Type 0} {before : Token → Bool} (o : Options) → Form B before nothing nothing suc (λ x. x)
    (priority_of o) (priority_at o)
unfolding priority_of priority_at
priority_form o = form_fewer (λ n. omega arith)
    (form_then _ form_word (λ at. form_then _ form_sign (λ at. form_map (λ n. record o { priority = Some n })
    (λ n. record o { priority = Some n }) (form_number (λ n. free)) (λ n. refl))))

capacity_of : Options → Language Options
capacity_of o = word (codes "capacity") >>= λ at. sign (codes "=") >>= λ at. limited_number
    (within 1 CAPACITY limit.Capacity) >>= λ n. gives (record o { capacity = Some n.value })

capacity_form : {B : Type 0} {before : Token → Bool} (o : Options) → Form B before nothing nothing suc (λ x. x)
    (capacity_of o) (capacity_at o)
unfolding capacity_of capacity_at
capacity_form o = form_fewer (λ n. omega arith)
    (form_then _ form_word (λ at. form_then _ form_sign
    (λ at. form_map (λ n. record o { capacity = Some n.value }) (λ n. record o { capacity = Some n.value })
    (form_number (within 1 CAPACITY limit.Capacity)) (λ n. refl))))

by_ref_of : Language ListedTree
by_ref_of = sign (codes "&") >>= λ at. name >>= λ x. gives (record { name = x; by_ref = true; at = at })

plainly_of : Language ListedTree
plainly_of = name >>= λ x. gives (record { name = x; by_ref = false; at = x.at })

by_ref_starts : Starts (is_this_sign (codes "&")) by_ref_of
unfolding by_ref_of
by_ref_starts = starts_then _ (starts_sign (codes "&") free)

plainly_starts : Starts is_name plainly_of
unfolding plainly_of
plainly_starts = starts_then _ (name_starts free)

by_ref_form : {B : Type 0} {before : Token → Bool} → Form B before nothing nothing suc (λ x. x) by_ref_of
    ref_resource_at
unfolding by_ref_of ref_resource_at
by_ref_form = form_fewer (λ n. omega arith)
    (form_then _ form_sign (λ at. form_map (λ x. record { name = x; by_ref = true; at = at })
    (λ x. record { name = x; by_ref = true; at = at }) (form_name free) (λ x. refl)))

plainly_form : {B : Type 0} {before : Token → Bool} → Form B before nothing nothing suc (λ x. x) plainly_of
    named_resource_at
unfolding plainly_of named_resource_at
plainly_form = form_map (λ x. record { name = x; by_ref = false; at = x.at })
    (λ x. record { name = x; by_ref = false; at = x.at }) (form_name free) (λ x. refl)

begins_listed : Token → Bool
begins_listed t = is_this_sign (codes "&") t || is_name t

listed_starts : Starts begins_listed listed_resource
unfolding by_ref_of plainly_of begins_listed
listed_starts = starts_or (starts_wider (is_this_sign (codes "&")) begins_listed
    (λ t e. or_left (is_this_sign (codes "&") t) (is_name t) e) by_ref_starts)
    (starts_wider is_name begins_listed (λ t e. or_right (is_this_sign (codes "&") t) (is_name t) e) plainly_starts)

listed_apart : (t : Token) → begins_listed t ≡ true → is_this_sign (codes "]") t ≡ false
unfolding begins_listed
listed_apart t e = go (is_this_sign (codes "&") t) refl e
  where
    go : (b : Bool) → is_this_sign (codes "&") t ≡ b → (b || is_name t) ≡ true → is_this_sign (codes "]") t ≡ false
    go true f e = signs_apart (codes "&") (codes "]") refl t f
    go false f e = name_apart (codes "]") t e

listed_form : {B : Type 0} {before : Token → Bool} → Form B before nothing nothing suc (λ x. x) listed_resource
    listed_resource_at
unfolding listed_resource_at by_ref_of plainly_of
listed_form = record {
  reads = reads_choice (is_this_sign (codes "&")) by_ref_starts
      (λ K avoids. avoids_apart is_name (is_this_sign (codes "&")) (name_apart (codes "&")) plainly_starts K)
      by_ref_form.reads plainly_form.reads;
  some = some_left (by_ref_form {B = ℕ} {before = λ t. false}).some;
}

listed_none : listed_resource_at [] ≡ Err (fault_found_at [])
unfolding listed_resource_at named_resource_at token_at
listed_none = refl

shared_of : Options → Language Options
shared_of o = word (codes "shared") >>= λ at. sign (codes "=") >>= λ at. sign (codes "[") >>= λ at. list (codes "]")
    (adds (λ before. listed_resource)) [] >>= λ xs. gives (record o { shared = Some xs })

shared_form : {B : Type 0} {before : Token → Bool} (o : Options) → Form B before nothing nothing suc (λ x. x)
    (shared_of o) (shared_list_at o)
unfolding shared_of shared_list_at
shared_form o = form_fewer (λ n. omega arith)
    (form_then _ form_word (λ at. form_then _ form_sign (λ at. form_then _ form_sign
    (λ at. form_map (λ xs. record o { shared = Some xs }) (λ xs. record o { shared = Some xs })
    (form_list (codes "]") begins_listed (λ n. listed_resource) (λ n. listed_resource_at) refl (λ n. listed_starts)
    listed_apart (λ n. listed_none) (λ n. listed_form)) (λ xs. refl)))))

local_of : Options → Language Options
local_of o = word (codes "local") >>= λ at. sign (codes "=") >>= λ at. names >>= λ xs. gives
    (record o { local = Some xs })

local_form : {B : Type 0} {before : Token → Bool} (o : Options) → Form B before nothing nothing suc (λ x. x)
    (local_of o) (local_list_at o)
unfolding local_of local_list_at
local_form o = form_fewer (λ n. omega arith)
    (form_then _ form_word (λ at. form_then _ form_sign (λ at. form_map (λ xs. record o { local = Some xs })
    (λ xs. record o { local = Some xs }) names_form (λ xs. refl))))

-- the words that options begin with; each list begins with the word of its name
abbrev of_local : List (List ℕ)
of_local = codes "local" ∷ []

abbrev of_shared : List (List ℕ)
of_shared = codes "shared" ∷ of_local

abbrev of_capacity : List (List ℕ)
of_capacity = codes "capacity" ∷ of_shared

abbrev of_priority : List (List ℕ)
of_priority = codes "priority" ∷ of_capacity

abbrev of_binds : List (List ℕ)
of_binds = codes "binds" ∷ of_priority

module _ (owner : Owner) (o : Options) where
  local_starts : Starts (of_words of_local) (local_option owner o)
  local_starts = starts_one (codes "local") (starts_only_if (starts_then _ (starts_word (codes "local") free)))

  shared_starts : Starts (of_words of_shared) (shared_option owner o or local_option owner o)
  shared_starts = starts_words (codes "shared") of_local
      (starts_only_if (starts_then _ (starts_word (codes "shared") free))) local_starts

  capacity_starts : Starts (of_words of_capacity) (capacity_option owner o or shared_option owner o or local_option
      owner o)
  capacity_starts = starts_words (codes "capacity") of_shared
      (starts_only_if (starts_then _ (starts_word (codes "capacity") free))) shared_starts

  priority_starts : Starts (of_words of_priority) (priority_option owner o or capacity_option owner o or shared_option
      owner o or local_option owner o)
  priority_starts = starts_words (codes "priority") of_capacity
      (starts_only_if (starts_then _ (starts_word (codes "priority") free))) capacity_starts

  option_starts : Starts (of_words of_binds) (option owner o)
  option_starts = starts_words (codes "binds") of_priority
      (starts_only_if (starts_then _ (starts_word (codes "binds") free))) priority_starts

  option_reads : {B : Type 0} → ReadsOrNone B nothing (λ x. x) (option owner o) (option_at owner o)
  unfolding option_at binds_of priority_of capacity_of shared_of local_of
  option_reads = choice_or_none (is_task owner && is_none o.binds) (codes "binds") of_priority refl
      (starts_then _ (starts_word (codes "binds") free)) priority_starts (binds_form o)
      (choice_or_none (is_task owner && is_none o.priority) (codes "priority") of_capacity refl
      (starts_then _ (starts_word (codes "priority") free)) capacity_starts (priority_form o)
      (choice_or_none (is_task owner && is_none o.capacity) (codes "capacity") of_shared refl
      (starts_then _ (starts_word (codes "capacity") free)) shared_starts (capacity_form o)
      (choice_or_none (not (is_init owner) && is_none o.shared) (codes "shared") of_local refl
      (starts_then _ (starts_word (codes "shared") free)) local_starts (shared_form o)
      (last_or_none (is_none o.local) (codes "local") (starts_then _ (starts_word (codes "local") free))
      (local_form o)))))

-- options, or none
pub options_form : {B : Type 0} {before : Token → Bool} (owner : Owner)
    → Form B before (λ x. is_this_sign (codes "(")) nothing (λ n. n) (λ x. x) (options owner) (options_at owner)
unfolding options_at some_options_at
options_form owner = form_optional (is_this_sign (codes "(")) no_options
    (starts_then _ (starts_sign (codes "(") free)) (λ t e. e) (λ n. omega arith)
    (form_goes {goes = nothing} (λ x t e. absurd cc)
    (form_then _ form_sign (λ at. record {
      reads = reads_list_or_none {goes = nothing} (codes ")") (of_words of_binds) (option owner) (option_at owner) refl
          (option_starts owner) (words_no_sign of_binds (codes ")")) (λ xs t e. refl) (λ xs t e. refl)
          (λ o. option_reads owner o) no_options;
      some = list_some (codes ")") (option owner) no_options;
    })))
