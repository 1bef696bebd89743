-- The readers of the declarations after the first.
use Rattle.std.proofs.Common.{◌≡◌, ℕ, suc, ◌-◌, Bool, true, false, List, [], length, Option, Some, None, Err, refl}
use Rattle.std.proofs.Common.{arith}
use Rattle.std.specs.Prelude.{codes, ◌||◌, bytes_eq}
use Rattle.rt_lemmas.proofs.Bools.{or_left, or_right}
use Rattle.rt_ids.specs.declared.limit.Limit.{Limit}
use Rattle.rt_ids.specs.declared.limit.Limit.TheVariants as limit
use Rattle.rt_ids.specs.declared.limits.TheConstants.{SHARED, LOCALS, IRQS, IRQ_NUMBERS}
use Rattle.rt_lex.specs.Token.{Token, is_this_word, is_this_sign}
use Rattle.rt_ast.specs.declared.app.MonoTree.{MonoTree}
use Rattle.rt_ast.specs.declared.app.SharedTree.{SharedTree}
use Rattle.rt_ast.specs.declared.app.LocalTree.{LocalTree}
use Rattle.rt_grammar.specs.Language.{Language, gives, ◌>>=◌, ◌>>◌, ◌or◌}
use Rattle.rt_grammar.specs.Tokens.{free, word, sign, name, number, list, adds, name_limit, limited_name, names}
use Rattle.rt_grammar.specs.Limits.{within, at_most}
use Rattle.rt_grammar.specs.Resources.{interrupt, interrupts, monotonic, first_value, lock_free, locked_resource}
use Rattle.rt_grammar.specs.Resources.{shared_resources, local, locals}
use Rattle.rt_parse.specs.Inside.Reading.{Reader, fault_found_at, name_at, token_at}
use Rattle.rt_parse.specs.Inside.ReadingList.{items_at, adds_at, names_at}
use Rattle.rt_parse.specs.Inside.ReadingExpression.{is_name}
use Rattle.rt_parse.specs.Inside.ReadingResources.{interrupt_at, interrupts_at, clock_at, monotonic_at, first_value_at}
use Rattle.rt_parse.specs.Inside.ReadingResources.{lock_free_at, locked_resource_at, resource_at, resources_at}
use Rattle.rt_parse.specs.Inside.ReadingResources.{shared_resources_at, local_at, local_resources_at, locals_at}
use Rattle.rt_parse.proofs.Exact.{Starts, nothing}
use Rattle.rt_parse.proofs.ExactStarts.{starts_token, starts_then, starts_or, starts_wider, avoids_apart, some_left}
use Rattle.rt_parse.proofs.ExactChoice.{reads_choice}
use Rattle.rt_parse.proofs.ExactSigns.{starts_word, word_no_sign}
use Rattle.rt_parse.proofs.ExactAtom.{name_kind}
use Rattle.rt_parse.proofs.ReadsWords.{list_some, adds_list_reads}
use Rattle.rt_parse.proofs.ReadsBlock as block
use Rattle.rt_parse.proofs.ReadsBlock.{name_no_sign}
use Rattle.rt_parse.proofs.ReadsForm.{Form, form_word, form_sign, form_name, form_number, form_then, form_map}
use Rattle.rt_parse.proofs.ReadsForm.{form_fewer, form_goes, form_optional}

pub name_starts : (what : Option Limit) → Starts is_name (limited_name what)
name_starts what = starts_token (name_limit what) is_name (λ t x e. name_kind t.kind t.text t.at x e)

pub name_apart : (text : List ℕ) (t : Token) → is_name t ≡ true → is_this_sign text t ≡ false
name_apart text t e = name_no_sign t.kind _ e

-- a list of items that are added
pub form_list : {A B : Type 0} {before : Token → Bool} (closing : List ℕ) (test : Token → Bool) (item : ℕ → Language A)
    (reader : ℕ → Reader A)
    → bytes_eq (codes ",") closing ≡ false → ((n : ℕ) → Starts test (item n))
    → ((t : Token) → test t ≡ true → is_this_sign closing t ≡ false)
    → ((n : ℕ) → reader n [] ≡ Err (fault_found_at []))
    → ((n : ℕ) → Form B (λ t. false) nothing nothing suc (λ x. x) (item n) (reader n))
    → Form B before nothing nothing suc (λ xs. xs) (list closing (adds item) [])
    (λ tokens. items_at closing (adds_at reader) (length tokens) [] tokens)
form_list closing test item reader no_comma starts apart none reads =
    record {
      reads = adds_list_reads closing test item reader no_comma starts apart none (λ n. (reads n).reads);
      some =
          list_some closing (adds item) [];
    }

pub names_form : {B : Type 0} {before : Token → Bool} → Form B before nothing nothing suc (λ xs. xs) names names_at
unfolding names_at token_at
names_form = form_fewer (λ n. omega arith) (form_then _ form_sign (λ at. form_list (codes "]") is_name (λ n. name)
    (λ n. name_at) refl (λ n. name_starts free) (name_apart (codes "]")) (λ n. refl) (λ n. form_name free)))

interrupt_form : {B : Type 0} {before : Token → Bool} (n : ℕ) → Form B before nothing nothing suc (λ x. x) (interrupt n)
    (interrupt_at n)
unfolding interrupt_at
interrupt_form n = form_fewer (λ n. omega arith)
    (form_then _ (form_name (at_most IRQS limit.Interrupts n)) (λ x. form_then _ form_sign
    (λ at. form_map (λ n. record { name = x; number = n }) (λ n. record { name = x; number = n })
    (form_number (within 0 (IRQ_NUMBERS - 1) limit.Interrupt)) (λ n. refl))))

pub interrupts_form : {B : Type 0} {before : Token → Bool} → Form B before nothing nothing suc (λ x. x) interrupts
    interrupts_at
unfolding interrupts_at interrupt_at token_at
interrupts_form = form_fewer (λ n. omega arith)
    (form_then _ form_word (λ at. form_then _ form_sign
    (λ at. form_list (codes "}") is_name interrupt interrupt_at refl
    (λ n. starts_then _ (name_starts (at_most IRQS limit.Interrupts n))) (name_apart (codes "}")) (λ n. refl)
    interrupt_form)))

unfoldable pub clock_of : Language (Option MonoTree)
clock_of = do
  word (codes "monotonic")
  sign (codes "(")
  word (codes "binds")
  sign (codes "=")
  irq ← name
  sign (codes ",")
  word (codes "priority")
  sign (codes "=")
  n ← number
  sign (codes ")")
  sign (codes ";")
  gives (Some (record { binds = irq; priority = n }))

clock_form : {B : Type 0} {before : Token → Bool} → Form B before nothing nothing suc (λ x. x) clock_of clock_at
unfolding clock_of clock_at
clock_form = form_fewer (λ n. omega arith)
    (form_then _ form_word (λ at. form_then _ form_sign (λ at. form_then _ form_word
    (λ at. form_then _ form_sign (λ at. form_then _ (form_name free)
    (λ irq. form_then _ form_sign (λ at. form_then _ form_word
    (λ at. form_then _ form_sign (λ at. form_then _ (form_number (λ n. free))
    (λ n. form_then _ form_sign (λ at. form_map (λ at. Some (record { binds = irq; priority = n }))
    (λ at. Some (record { binds = irq; priority = n })) form_sign (λ at. refl))))))))))))

pub clock_starts : Starts (is_this_word (codes "monotonic")) clock_of
unfolding clock_of
clock_starts = starts_then _ (starts_word (codes "monotonic") free)

pub monotonic_form : {B : Type 0} {before : Token → Bool} → Form B before (λ x. is_this_word (codes "monotonic"))
    nothing (λ n. n) (λ x. x) monotonic monotonic_at
unfolding monotonic_at clock_of
monotonic_form = form_optional (is_this_word (codes "monotonic")) None clock_starts (λ t e. e) (λ n. omega arith)
    (form_goes {goes = nothing} (λ x t e. absurd cc) clock_form)

first_value_form : {B : Type 0} {before : Token → Bool} → Form B before nothing nothing suc (λ x. x) first_value
    first_value_at
unfolding first_value_at
first_value_form = form_fewer (λ n. omega arith) (form_then _ form_sign
    (λ at. form_map (λ n. n.value) (λ n. n.value) (form_number (λ n. free)) (λ n. refl)))

lock_free_form : {B : Type 0} {before : Token → Bool} (n : ℕ) → Form B before nothing nothing suc (λ x. x) (lock_free n)
    (lock_free_at n)
unfolding lock_free_at
lock_free_form n = form_fewer (λ n. omega arith)
    (form_then _ form_word (λ at. form_then _ (form_name free)
    (λ x. form_map (λ first. record { name = x; first = first; lock_free = true })
    (λ first. record { name = x; first = first; lock_free = true }) first_value_form (λ first. refl))))

locked_form : {B : Type 0} {before : Token → Bool} (n : ℕ) → Form B before nothing nothing suc (λ x. x)
    (locked_resource n) (locked_resource_at n)
unfolding locked_resource_at
locked_form n = form_fewer (λ n. omega arith)
    (form_then _ (form_name (at_most SHARED limit.Shared n))
    (λ x. form_map (λ first. record { name = x; first = first; lock_free = false })
    (λ first. record { name = x; first = first; lock_free = false }) first_value_form (λ first. refl)))

name_no_word : (text : List ℕ) (t : Token) → is_name t ≡ true → is_this_word text t ≡ false
name_no_word text t e = block.name_no_word t.kind _ e

resource_form : {B : Type 0} {before : Token → Bool} (n : ℕ) → Form B before nothing nothing suc (λ x. x)
    (lock_free n or locked_resource n) (resource_at n)
unfolding resource_at
resource_form n = record {
  reads = reads_choice (is_this_word (codes "lock_free"))
      (starts_then _ (starts_word (codes "lock_free") (at_most SHARED limit.Shared n)))
      (λ K avoids. avoids_apart is_name (is_this_word (codes "lock_free")) (name_no_word (codes "lock_free"))
      (starts_then _ (name_starts (at_most SHARED limit.Shared n))) K)
      (lock_free_form n).reads (locked_form n).reads;
  some = some_left (lock_free_form {B = ℕ} {before = λ t. false} n).some;
}

begins_resource : Token → Bool
begins_resource t = is_this_word (codes "lock_free") t || is_name t

resource_starts : (n : ℕ) → Starts begins_resource (lock_free n or locked_resource n)
unfolding begins_resource
resource_starts n = starts_or (starts_wider (is_this_word (codes "lock_free")) begins_resource
    (λ t e. or_left (is_this_word (codes "lock_free") t) (is_name t) e)
    (starts_then _ (starts_word (codes "lock_free") (at_most SHARED limit.Shared n))))
    (starts_wider is_name begins_resource (λ t e. or_right (is_this_word (codes "lock_free") t) (is_name t) e)
    (starts_then _ (name_starts (at_most SHARED limit.Shared n))))

resource_apart : (t : Token) → begins_resource t ≡ true → is_this_sign (codes "}") t ≡ false
unfolding begins_resource
resource_apart t e = go (is_this_word (codes "lock_free") t) refl e
  where
    go : (b : Bool) → is_this_word (codes "lock_free") t ≡ b → (b || is_name t) ≡ true → is_this_sign (codes "}") t
        ≡ false
    go true f e = word_no_sign (codes "lock_free") (codes "}") t f
    go false f e = name_apart (codes "}") t e

unfoldable pub resources_of : Language (List SharedTree)
resources_of = word (codes "shared") >>= λ at. sign (codes "{") >>= λ at. list (codes "}")
    (adds (λ before. lock_free before or locked_resource before)) []

pub shared_starts : Starts (is_this_word (codes "shared")) resources_of
unfolding resources_of
shared_starts = starts_then _ (starts_word (codes "shared") free)

resource_none : (n : ℕ) → resource_at n [] ≡ Err (fault_found_at [])
unfolding resource_at locked_resource_at token_at
resource_none n = refl

pub shared_form : {B : Type 0} {before : Token → Bool} → Form B before (λ x. is_this_word (codes "shared")) nothing
    (λ n. n) (λ x. x) shared_resources shared_resources_at
unfolding shared_resources_at resources_at resources_of
shared_form = form_optional (is_this_word (codes "shared")) [] shared_starts (λ t e. e) (λ n. omega arith)
    (form_goes {goes = nothing} (λ x t e. absurd cc)
    (form_then _ form_word (λ at. form_then _ form_sign (λ at. form_list (codes "}") begins_resource
    (λ n. lock_free n or locked_resource n) resource_at refl resource_starts resource_apart resource_none
    resource_form))))

local_form : {B : Type 0} {before : Token → Bool} (n : ℕ) → Form B before nothing nothing suc (λ x. x) (local n)
    (local_at n)
unfolding local_at
local_form n = form_fewer (λ n. omega arith)
    (form_then _ (form_name (at_most LOCALS limit.Locals n))
    (λ x. form_map (λ first. record { name = x; first = first }) (λ first. record { name = x; first = first })
    first_value_form (λ first. refl)))

local_none : (n : ℕ) → local_at n [] ≡ Err (fault_found_at [])
unfolding local_at token_at
local_none n = refl

unfoldable pub local_resources_of : Language (List LocalTree)
local_resources_of = word (codes "local") >>= λ at. sign (codes "{") >>= λ at. list (codes "}") (adds local) []

pub locals_starts : Starts (is_this_word (codes "local")) local_resources_of
unfolding local_resources_of
locals_starts = starts_then _ (starts_word (codes "local") free)

pub locals_form : {B : Type 0} {before : Token → Bool} → Form B before (λ x. is_this_word (codes "local")) nothing
    (λ n. n) (λ x. x) locals locals_at
unfolding locals_at local_resources_at local_resources_of
locals_form = form_optional (is_this_word (codes "local")) [] locals_starts (λ t e. e) (λ n. omega arith)
    (form_goes {goes = nothing} (λ x t e. absurd cc)
    (form_then _ form_word (λ at. form_then _ form_sign (λ at. form_list (codes "}") is_name local local_at refl
    (λ n. starts_then _ (name_starts (at_most LOCALS limit.Locals n))) (name_apart (codes "}")) local_none
    local_form))))
