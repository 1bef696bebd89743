-- The reader of a list up to the sign that closes it.
use Rattle.std.proofs.Common.{◌≡◌, ℕ, zero, suc, ◌≤◌, Bool, true, false, List, [], ◌∷◌, length, None, Result, Ok, Err}
use Rattle.std.proofs.Common.{refl, sym, ap, ◌∙◌, subst, inl, inr, arith}
use Rattle.std.specs.Prelude.{codes, bytes_eq, if◌then◌else◌}
use Rattle.rt_lex.specs.Token.{Token, is_this_sign}
use Rattle.rt_grammar.specs.Mark.{Mark}
use Rattle.rt_grammar.specs.Language.{Language, ◌>>=◌}
use Rattle.rt_grammar.specs.Tokens.{sign_of, list, free}
use Rattle.rt_parse.specs.Inside.Reading as reading
use Rattle.rt_parse.specs.Inside.Reading.{Reader, begins_with, token_at, sign_at, fault_found_at}
use Rattle.rt_parse.specs.Inside.ReadingList.{comma_at, items_at}
use Rattle.rt_parse.specs.declared.stop.Found.{Found}
use Rattle.rt_parse.proofs.Exact.{Outcome, IsExact, IsInhabited, Avoids, Starts, ReadsAfter, Reads, ReadsOrNone, IsForm}
use Rattle.rt_parse.proofs.Exact.{IsNone, nothing}
use Rattle.rt_parse.proofs.ExactOutcome.{outcome_wider, outcome_blocked}
use Rattle.rt_parse.proofs.ExactLaws.{same_outcome, or_swap, read_then}
use Rattle.rt_parse.proofs.ExactToken.{begins_with-none, begins_with-nothing, exact_token}
use Rattle.rt_parse.proofs.ExactThen.{some_then}
use Rattle.rt_parse.proofs.ExactStarts.{starts_then, starts_or, starts_wider, starts_within, blocked_starts}
use Rattle.rt_parse.proofs.ExactStarts.{blocked_avoids, avoids_apart, avoids_or, some_left}
use Rattle.rt_parse.proofs.ExactSigns.{some_sign, starts_sign, signs_apart}
use Rattle.rt_parse.proofs.ExactList.{end_of, rest_of, more_of, next_of, rest_list, list_rest, end_rest, next_rest}
use Rattle.rt_parse.proofs.ExactList.{rest_either}

end_at : {C : Type 0} → List ℕ → C → Reader C
end_at closing c tokens = reading.◌>>=◌ (sign_at closing tokens) (λ end. Ok (c, end.1))

-- where the closing sign comes next, any reader of items takes it
closed : {C : Type 0} (closing : List ℕ) (reader : C → Reader C) (n : ℕ) (c : C) (tokens : List Token)
    → begins_with (is_this_sign closing) tokens ≡ true → items_at closing reader n c tokens ≡ end_at closing c tokens
unfolding end_at items_at
closed closing reader zero c tokens e = refl
closed {C} closing reader (suc n) c tokens e =
    ap (λ (b : Bool). if b then end_at closing c tokens else
    (reading.◌>>=◌ (reader c tokens) (λ x. reading.◌>>=◌ (comma_at closing x.1)
    (λ behind. items_at closing reader n x.0 behind)))) e

-- the rest of a list after an item
behind_item : {C : Type 0} → List ℕ → (C → Reader C) → ℕ → C → Reader C
behind_item closing reader n c tokens = reading.◌>>=◌ (comma_at closing tokens)
    (λ behind. items_at closing reader n c behind)

skip_then : {A C B E : Type 0} (r : Result (A × C) E) (f : C → Result B E)
    → reading.◌>>=◌ (reading.◌>>=◌ r (λ got. Ok got.1)) f ≡ reading.◌>>=◌ r (λ got. f got.1)
skip_then (Ok x) f = refl
skip_then (Err e) f = refl

behind_closed : {C : Type 0} (closing : List ℕ) (reader : C → Reader C) (n : ℕ) (c : C) (tokens : List Token)
    → begins_with (is_this_sign closing) tokens ≡ true → behind_item closing reader n c tokens ≡ end_at closing c tokens
unfolding behind_item
behind_closed closing reader n c tokens e =
    ap (λ (b : Bool). reading.◌>>=◌ (if b then Ok tokens else
    (reading.◌>>=◌ (sign_at (codes ",") tokens) (λ got. Ok got.1))) (λ behind. items_at closing reader n c behind))
    e
    ∙ closed closing reader n c tokens e

behind_open : {B C : Type 0} (closing : List ℕ) (reader : C → Reader C) (n : ℕ) (c : C) (tokens : List Token)
    (read : C × List Token → Result B Found) → begins_with (is_this_sign closing) tokens ≡ false
    → reading.◌>>=◌ (behind_item closing reader n c tokens) read ≡ reading.◌>>=◌ (sign_at (codes ",") tokens)
    (λ got. reading.◌>>=◌ (items_at closing reader n c got.1) read)
unfolding behind_item
behind_open {B} {C} closing reader n c tokens read e =
    ap (λ (b : Bool). reading.◌>>=◌ (reading.◌>>=◌ (if b then Ok tokens else
    (reading.◌>>=◌ (sign_at (codes ",") tokens) (λ got. Ok got.1))) (λ behind. items_at closing reader n c behind))
    read) e
    ∙ ap (λ (r : Result (C × List Token) Found). reading.◌>>=◌ r read)
    (skip_then (sign_at (codes ",") tokens) (items_at closing reader n c))
    ∙ read_then (sign_at (codes ",") tokens) (λ got. items_at closing reader n c got.1) read

module _ {S B C : Type 0} {goes : S → Token → Bool} {value : S → C} (closing : List ℕ) (test : Token → Bool)
    (item : S → Language S) (reader : C → Reader C)
    (no_comma : bytes_eq (codes ",") closing ≡ false)
    (starts : (s : S) → Starts test (item s)) (apart : (t : Token) → test t ≡ true → is_this_sign closing t ≡ false)
    (goes_closing : (s : S) (t : Token) → is_this_sign closing t ≡ true → goes s t ≡ false)
    (goes_comma : (s : S) (t : Token) → is_this_sign (codes ",") t ≡ true → goes s t ≡ false)
    (items : (s : S) → ReadsOrNone B goes value (item s) (reader (value s))) where
  module _ (behind : S → Language B) (read : C → List Token → Result B Found) (most : ℕ)
      (any : (x : S) → IsInhabited (behind x)) (exact : (x : S) → IsExact (behind x) (read (value x)) most) where
    then_read : Result (C × List Token) Found → Result B Found
    then_read r = reading.◌>>=◌ r (λ got. read got.0 got.1)

    end_some : (s : S) → IsInhabited (end_of closing item behind s)
    end_some s = some_then (some_sign closing free) (λ z. any s)

    rest_some : (s : S) → IsInhabited (rest_of closing item behind s)
    rest_some s = let i : IsInhabited (end_of closing item behind s) = end_some s in
        (i.0, i.1, end_rest closing item behind s i.0 i.1 i.2)

    end_exact : (s : S) (tokens : List Token) → length tokens ≤ suc most
        → Outcome (end_of closing item behind s) tokens (then_read (end_at closing (value s) tokens))
    unfolding then_read end_at
    end_exact s tokens le =
        subst (Outcome (end_of closing item behind s) tokens)
        (sym (read_then (sign_at closing tokens) (λ end. Ok (value s, end.1)) (λ got. read got.0 got.1)))
        (exact_token (sign_of closing) (λ z. None) (λ z. behind s) (λ z. read (value s)) most (λ z. any s)
        (λ z. exact s) (end_some s) tokens le)

    rest_closed : (s : S) (tokens : List Token) → length tokens ≤ suc most → begins_with (is_this_sign closing) tokens
        ≡ true → Outcome (rest_of closing item behind s) tokens (then_read (end_at closing (value s) tokens))
    rest_closed s tokens le e =
        outcome_wider (end_of closing item behind s) (rest_of closing item behind s)
        (item s >>= next_of closing item behind) tokens (end_rest closing item behind s)
        (rest_either closing item behind s)
        (blocked_avoids (is_this_sign closing) tokens (avoids_apart test (is_this_sign closing) apart (starts s)
        (next_of closing item behind)) e) (then_read (end_at closing (value s) tokens)) (end_exact s tokens le)

    next_closed : (n : ℕ) (s : S) (tokens : List Token) → length tokens ≤ suc most
        → begins_with (is_this_sign closing) tokens ≡ true
        → Outcome (next_of closing item behind s) tokens (then_read (behind_item closing reader n (value s) tokens))
    next_closed n s tokens le e = subst (λ (r : Result (C × List Token) Found). Outcome (next_of closing item behind s)
        tokens (then_read r)) (sym (behind_closed closing reader n (value s) tokens e))
        (outcome_wider (end_of closing item behind s) (next_of closing item behind s) (more_of closing item behind s)
        tokens (λ marks y l. inl l) (λ marks y l. l)
        (blocked_avoids (is_this_sign closing) tokens (avoids_apart (is_this_sign (codes ",")) (is_this_sign closing)
        (signs_apart (codes ",") closing no_comma) (starts_sign (codes ",") free)
        (λ z. rest_of closing item behind s)) e)
        (then_read (end_at closing (value s) tokens)) (end_exact s tokens le))

    next_more : (n m : ℕ) (s : S) (tokens : List Token)
        → ((x : S) → IsExact (rest_of closing item behind x)
        (λ tokens. then_read (items_at closing reader n (value x) tokens)) m)
        → length tokens ≤ suc m → begins_with (is_this_sign closing) tokens ≡ false
        → Outcome (next_of closing item behind s) tokens (then_read (behind_item closing reader n (value s) tokens))
    unfolding then_read
    next_more n m s tokens rest le e = subst (Outcome (next_of closing item behind s) tokens)
        (sym (behind_open closing reader n (value s) tokens (λ got. read got.0 got.1) e))
        (outcome_wider (more_of closing item behind s) (next_of closing item behind s) (end_of closing item behind s)
        tokens (λ marks y l. inr l)
        (λ marks y l. or_swap (end_of closing item behind s) (more_of closing item behind s) marks y l)
        (blocked_starts (is_this_sign closing) tokens (starts_then (λ z. behind s) (starts_sign closing free)) e)
        (reading.◌>>=◌ (sign_at (codes ",") tokens) (λ got. reading.◌>>=◌ (items_at closing reader n (value s) got.1)
        (λ got. read got.0 got.1)))
        (exact_token (sign_of (codes ",")) (λ z. None) (λ z. rest_of closing item behind s)
        (λ z tokens. then_read (items_at closing reader n (value s) tokens)) m (λ z. rest_some s) (λ z. rest s)
        (some_then (some_sign (codes ",") free) (λ z. rest_some s)) tokens le))

    next_exact : (n m : ℕ) (s : S) → ((x : S) → IsExact (rest_of closing item behind x)
        (λ tokens. then_read (items_at closing reader n (value x) tokens)) m) → m ≤ suc most
        → IsExact (next_of closing item behind s) (λ tokens. then_read (behind_item closing reader n (value s) tokens))
        m
    next_exact n m s rest le tokens lt = go (begins_with (is_this_sign closing) tokens) refl
      where
        go : (b : Bool) → begins_with (is_this_sign closing) tokens ≡ b
            → Outcome (next_of closing item behind s) tokens (then_read (behind_item closing reader n (value s) tokens))
        go true e = next_closed n s tokens (omega arith) e
        go false e = next_more n m s tokens rest (omega arith) e

    next_some : (s : S) → IsInhabited (next_of closing item behind s)
    next_some s = some_left (end_some s)

    -- what follows an item goes on with none
    next_avoids : (s : S) → Avoids (goes s) (next_of closing item behind s)
    next_avoids s = avoids_or (goes s)
        (avoids_apart (is_this_sign closing) (goes s) (goes_closing s) (starts_sign closing free) (λ z. behind s))
        (avoids_apart (is_this_sign (codes ",")) (goes s) (goes_comma s) (starts_sign (codes ",") free)
        (λ z. rest_of closing item behind s))

    rest_form : (n m : ℕ) (s : S) (tokens : List Token) → Reads B goes nothing suc value (item s) (reader (value s))
        → ((x : S) → IsExact (rest_of closing item behind x)
        (λ tokens. then_read (items_at closing reader n (value x) tokens)) m)
        → m ≤ suc most → length tokens ≤ suc m → begins_with (is_this_sign closing) tokens ≡ false
        → Outcome (rest_of closing item behind s) tokens
        (then_read (reading.◌>>=◌ (reader (value s) tokens) (λ x. behind_item closing reader n x.0 x.1)))
    unfolding then_read
    rest_form n m s tokens reads rest le lt e =
        outcome_wider (item s >>= next_of closing item behind) (rest_of closing item behind s)
        (end_of closing item behind s) tokens (next_rest closing item behind s)
        (λ marks y l. or_swap (end_of closing item behind s) (item s >>= next_of closing item behind) marks y
        (rest_either closing item behind s marks y l))
        (blocked_starts (is_this_sign closing) tokens (starts_then (λ z. behind s) (starts_sign closing free)) e)
        (then_read (reading.◌>>=◌ (reader (value s) tokens) (λ x. behind_item closing reader n x.0 x.1)))
        (subst (Outcome (item s >>= next_of closing item behind) tokens)
        (sym (read_then (reader (value s) tokens) (λ x. behind_item closing reader n x.0 x.1)
        (λ got. read got.0 got.1)))
        (reads.exact (next_of closing item behind) (λ c tokens. then_read (behind_item closing reader n c tokens)) m
        next_some next_avoids
        (λ x tokens lt stop. next_exact n m x rest le tokens lt) tokens lt (begins_with-none tokens)))

    -- where no item may come, only the closing sign goes on
    rest_none : (s : S) (tokens : List Token) → ((marks : List Mark) (x : S) → item s marks x → ⊥)
        → begins_with (is_this_sign closing) tokens ≡ false → Outcome (rest_of closing item behind s) tokens
        (Err (fault_found_at tokens))
    rest_none s tokens none e = outcome_blocked (rest_of closing item behind s) tokens
        (blocked_starts (is_this_sign closing) tokens (starts_within (rest_either closing item behind s)
        (starts_or (starts_then (λ z. behind s) (starts_sign closing free)) (λ marks y l. absurd (none l.1 l.0 l.3))))
        e)
        (rest_some s)

    rest_open : (n m : ℕ) (s : S) (tokens : List Token)
        → ((x : S) → IsExact (rest_of closing item behind x)
        (λ tokens. then_read (items_at closing reader n (value x) tokens)) m)
        → m ≤ suc most → length tokens ≤ suc m → begins_with (is_this_sign closing) tokens ≡ false
        → Outcome (rest_of closing item behind s) tokens
        (then_read (reading.◌>>=◌ (reader (value s) tokens) (λ x. behind_item closing reader n x.0 x.1)))
    unfolding then_read
    rest_open n m s tokens rest le lt e = go (items s)
      where
        go : ReadsOrNone B goes value (item s) (reader (value s)) → Outcome (rest_of closing item behind s) tokens
            (then_read (reading.◌>>=◌ (reader (value s) tokens) (λ x. behind_item closing reader n x.0 x.1)))
        go (IsForm reads) = rest_form n m s tokens reads rest le lt e
        go (IsNone none wrong) = subst (λ (r : Result (C × List Token) Found). Outcome (rest_of closing item behind s)
            tokens (then_read (reading.◌>>=◌ r (λ x. behind_item closing reader n x.0 x.1)))) (sym (wrong tokens))
            (rest_none s tokens none e)

    rest_empty : (s : S) → Outcome (rest_of closing item behind s) [] (Err (fault_found_at []))
    rest_empty s = outcome_blocked (rest_of closing item behind s) []
        (blocked_starts (λ t. true) [] (starts_within (rest_either closing item behind s)
        (starts_or (starts_wider (is_this_sign closing) (λ t. true) (λ t e. refl)
        (starts_then (λ z. behind s) (starts_sign closing free)))
        (starts_wider test (λ t. true) (λ t e. refl) (starts_then (next_of closing item behind) (starts s))))) refl)
        (rest_some s)

    rest_choose : (n m : ℕ) (s : S) (tokens : List Token)
        → ((x : S) → IsExact (rest_of closing item behind x)
        (λ tokens. then_read (items_at closing reader n (value x) tokens)) m)
        → m ≤ suc most → length tokens ≤ suc m → length tokens ≤ suc most → (b : Bool)
        → begins_with (is_this_sign closing) tokens ≡ b
        → Outcome (rest_of closing item behind s) tokens
        (then_read (if b then end_at closing (value s) tokens else reading.◌>>=◌ (reader (value s) tokens)
        (λ x. behind_item closing reader n x.0 x.1)))
    rest_choose n m s tokens rest le lt lt' true e = rest_closed s tokens lt' e
    rest_choose n m s tokens rest le lt lt' false e = rest_open n m s tokens rest le lt e

    list_exact : (n m : ℕ) → m ≤ n → m ≤ suc most → (s : S) → IsExact (rest_of closing item behind s)
        (λ tokens. then_read (items_at closing reader n (value s) tokens)) m
    unfolding then_read items_at end_at behind_item token_at
    list_exact zero m le le' s [] lt = rest_empty s
    list_exact zero m le le' s (t ∷ tokens) lt = absurd (omega arith)
    list_exact (suc n) zero le le' s tokens lt = rest_choose n zero s tokens
        (list_exact n zero (omega arith) (omega arith)) (omega arith) (omega arith) (omega arith)
        (begins_with (is_this_sign closing) tokens) refl
    list_exact (suc n) (suc m) le le' s tokens lt = rest_choose n m s tokens
        (list_exact n m (omega arith) (omega arith)) (omega arith) lt (omega arith)
        (begins_with (is_this_sign closing) tokens) refl

    list_whole : (s : S) → IsExact (list closing item s >>= behind)
        (λ tokens. then_read (items_at closing reader (length tokens) (value s) tokens)) (suc most)
    list_whole s tokens le = same_outcome (rest_of closing item behind s) (list closing item s >>= behind) tokens
        (then_read (items_at closing reader (length tokens) (value s) tokens)) (rest_list closing item behind s)
        (list_rest closing item behind s)
        (list_exact (length tokens) (length tokens) (omega arith) le s tokens (omega arith))

  pub reads_list_or_none : {before : Token → Bool} (s : S) → ReadsAfter B before nothing nothing suc value
      (list closing item s) (λ tokens. items_at closing reader (length tokens) (value s) tokens)
  unfolding then_read
  reads_list_or_none s = record {
    exact = λ behind read most any avoids exact tokens le stop. list_whole behind read
        most any (λ x tokens le. exact x tokens le (begins_with-nothing x tokens)) s tokens le;
  }

pub reads_list : {S B C : Type 0} {before : Token → Bool} {goes : S → Token → Bool} {value : S → C} (closing : List ℕ)
    (test : Token → Bool) (item : S → Language S) (reader : C → Reader C)
    → bytes_eq (codes ",") closing ≡ false → ((s : S) → Starts test (item s))
    → ((t : Token) → test t ≡ true → is_this_sign closing t ≡ false)
    → ((s : S) (t : Token) → is_this_sign closing t ≡ true → goes s t ≡ false)
    → ((s : S) (t : Token) → is_this_sign (codes ",") t ≡ true → goes s t ≡ false)
    → ((s : S) → Reads B goes nothing suc value (item s) (reader (value s)))
    → (s : S) → ReadsAfter B before nothing nothing suc value (list closing item s)
    (λ tokens. items_at closing reader (length tokens) (value s) tokens)
reads_list closing test item reader no_comma starts apart goes_closing goes_comma items s =
    reads_list_or_none closing test item reader no_comma starts apart goes_closing goes_comma (λ s. IsForm (items s)) s
