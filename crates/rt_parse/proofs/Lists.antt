-- A loop of the parser and the list that it reads.
use Rattle.std.proofs.Common.{◌≡◌, ℕ, zero, suc, ◌<◌, ◌≤◌, Bool, true, false, not, cond, codes, List, [], ◌∷◌, ◌++◌}
use Rattle.std.proofs.Common.{length, Result, Ok, Err, refl, ap, sym, ◌∙◌, arith}
use Rattle.rt_lex.specs.Token.{Token, is_this_sign}
use Rattle.rt_parse.specs.Inside.Reading.{Reader, ◌>>=◌, Stops, sign_at, begins_with, token_at, fault_found_at}
use Rattle.rt_parse.specs.Inside.ReadingList.{items_at, adds_at, comma_at, goes_past}
use Rattle.rt_parse.specs.declared.stop.Stop.{Stop}
use Rattle.rt_parse.specs.declared.stop.Stop.TheVariants as stop
use Rattle.rt_parse.specs.declared.stop.Found.{Found}
use Rattle.rt_parse.proofs.Shorter.{IsShorter, IsNoLonger, shorter_no_longer, shorter_token, no_longer_then}
use Rattle.rt_parse.proofs.Shorter.{no_longer_ok, no_longer_if, bind_ok, rest_is, same_rest}

-- a loop has come to this state and these tokens, from a start
pub record IsListing {S : Type 0} (closing : List ℕ) (item : S → Reader S) (s : S) (rest : List Token) (start : S)
    (all : List Token) : Type 0 where
  pub turns : ℕ
  pub enough : length rest ≤ turns
  pub goes : items_at closing item turns s rest ≡ items_at closing item (length all) start all

comma_no_longer : (closing : List ℕ) (tokens after : List Token) → comma_at closing tokens ≡ Ok after
    → length after ≤ length tokens
comma_no_longer closing tokens after e = by_test (begins_with (is_this_sign closing) tokens) e
  where
    by_test : (b : Bool) → cond b (Ok tokens) (sign_at (codes ",") tokens >>= λ got. Ok got.1) ≡ Ok after
        → length after ≤ length tokens
    by_test true e = let same = rest_is tokens after e in omega (arith, ap length same)
    by_test false e =
        let p = bind_ok (sign_at (codes ",") tokens) (λ got. Ok got.1) after e in
        let less = shorter_token _ _ tokens p.0.0 p.0.1 p.1 in
        let same = rest_is p.0.1 after p.2 in
        omega (arith, ap length same)

pub item_shortens : (closing : List ℕ) (rest behind after : List Token) → length behind < length rest
    → comma_at closing behind ≡ Ok after → length after < length rest
item_shortens closing rest behind after less e = let k = comma_no_longer closing behind after e in omega arith

-- a list that goes on
not_closing : (closing : List ℕ) (rest : List Token) → goes_past closing rest ≡ true
    → begins_with (is_this_sign closing) rest ≡ false
not_closing closing [] e = refl
not_closing closing (t ∷ rest) e = by_test (is_this_sign closing t) e
  where
    by_test : (b : Bool) → not b ≡ true → b ≡ false
    by_test true e = absurd cc
    by_test false e = refl

some_token : (closing : List ℕ) (rest : List Token) → goes_past closing rest ≡ true → 0 < length rest
some_token closing [] e = absurd cc
some_token closing (t ∷ rest) e = omega arith

module _ {S : Type 0} (closing : List ℕ) (item : S → Reader S) (s : S) (rest : List Token) where
  turn : (n : ℕ) (r : Result (S × List Token) Found) → goes_past closing rest ≡ true → item s rest ≡ r
      → items_at closing item (suc n) s rest ≡ (r >>= λ x. comma_at closing x.1 >>= λ behind. items_at closing item n
      x.0 behind)
  unfolding items_at
  turn n r open_ e = rw (not_closing closing rest open_, e) refl

  by_rest : (rest : List Token) → item s [] ≡ Err (fault_found_at []) → goes_past closing rest ≡ false → (n : ℕ)
      → items_at closing item n s rest ≡ (sign_at closing rest >>= λ end. Ok (s, end.1))
  unfolding items_at token_at
  by_rest [] nothing e zero = refl
  by_rest [] nothing e (suc n) = rw nothing refl
  by_rest (t ∷ rest) nothing e zero = refl
  by_rest (t ∷ rest) nothing e (suc n) = by_test (is_this_sign closing t) refl
    where
      by_test : (b : Bool) → is_this_sign closing t ≡ b → items_at closing item (suc n) s (t ∷ rest)
          ≡ (sign_at closing (t ∷ rest) >>= λ end. Ok (s, end.1))
      by_test true is = rw is refl
      by_test false is = absurd cc

  module _ (start : S) (all : List Token) where
    pub lists_on : (t : S) (behind after : List Token) → length behind < length rest → goes_past closing rest ≡ true
        → item s rest ≡ Ok (t, behind) → comma_at closing behind ≡ Ok after
        → IsListing closing item s rest start all → IsListing closing item t after start all
    lists_on t behind after less open_ e f so = of_turns so.turns so.enough so.goes
      where
        of_turns : (n : ℕ) → length rest ≤ n → items_at closing item n s rest
            ≡ items_at closing item (length all) start all → IsListing closing item t after start all
        of_turns zero enough goes = absurd (omega arith)
        of_turns (suc n) enough goes =
            let one : items_at closing item (suc n) s rest ≡ items_at closing item n t after =
            rw (turn n (Ok (t, behind)) open_ e, f) refl in
            record { turns = n; enough = omega (arith, comma_no_longer closing behind after f); goes = sym one ∙ goes }

    pub item_stops : (why : Stop) → goes_past closing rest ≡ true → Stops why (item s rest)
        → IsListing closing item s rest start all → Stops why (items_at closing item (length all) start all)
    item_stops stop.Memory open_ e so = tt
    item_stops (stop.At found) open_ e so = of_turns so.turns so.enough so.goes
      where
        of_turns : (n : ℕ) → length rest ≤ n → items_at closing item n s rest
            ≡ items_at closing item (length all) start all → items_at closing item (length all) start all ≡ Err found
        of_turns zero enough goes = absurd (omega (arith, some_token closing rest open_))
        of_turns (suc n) enough goes = sym goes ∙ turn n (Err found) open_ e

    pub comma_stops : (why : Stop) (t : S) (behind : List Token) → length behind < length rest → goes_past closing rest
        ≡ true → item s rest ≡ Ok (t, behind) → Stops why (comma_at closing behind)
        → IsListing closing item s rest start all → Stops why (items_at closing item (length all) start all)
    comma_stops stop.Memory t behind less open_ e f so = tt
    comma_stops (stop.At found) t behind less open_ e f so = of_turns so.turns so.enough so.goes
      where
        of_turns : (n : ℕ) → length rest ≤ n → items_at closing item n s rest
            ≡ items_at closing item (length all) start all → items_at closing item (length all) start all ≡ Err found
        of_turns zero enough goes = absurd (omega arith)
        of_turns (suc n) enough goes = sym goes ∙ rw (turn n (Ok (t, behind)) open_ e, f) refl

    pub closes : item s [] ≡ Err (fault_found_at []) → goes_past closing rest ≡ false
        → IsListing closing item s rest start all → items_at closing item (length all) start all
        ≡ (sign_at closing rest >>= λ end. Ok (s, end.1))
    closes nothing closed so = sym so.goes ∙ by_rest rest nothing closed so.turns

    pub sign_stops : (why : Stop) → item s [] ≡ Err (fault_found_at []) → goes_past closing rest ≡ false
        → Stops why (sign_at closing rest) → IsListing closing item s rest start all
        → Stops why (items_at closing item (length all) start all)
    sign_stops stop.Memory nothing closed e so = tt
    sign_stops (stop.At found) nothing closed e so = closes nothing closed so ∙ rw e refl

-- one more item, where its reader gave one, or none
pub added : {A : Type 0} (item : ℕ → Reader A) (xs : List A) (rest : List Token) (x : A) (behind : List Token)
    (closing : List ℕ) → goes_past closing rest ≡ true → item (length xs) rest ≡ Ok (x, behind) → adds_at item xs rest
    ≡ Ok (xs ++ x ∷ [], behind)
unfolding adds_at
added item xs [] x behind closing open_ e = absurd cc
added item xs (t ∷ rest) x behind closing open_ e = rw e refl

pub not_added : {A : Type 0} (item : ℕ → Reader A) (xs : List A) (rest : List Token) (why : Stop) (closing : List ℕ)
    → goes_past closing rest ≡ true → Stops why (item (length xs) rest) → Stops why (adds_at item xs rest)
unfolding adds_at
not_added item xs rest stop.Memory closing open_ e = tt
not_added item xs [] (stop.At found) closing open_ e = absurd cc
not_added item xs (t ∷ rest) (stop.At found) closing open_ e = rw e refl

pub none_added : {A : Type 0} (item : ℕ → Reader A) (xs : List A) → adds_at item xs [] ≡ Err (fault_found_at [])
unfolding adds_at
none_added item xs = refl

pub shorter_adds : {A : Type 0} (item : ℕ → Reader A) → ((before : ℕ) → IsShorter (item before)) → (xs : List A)
    → IsShorter (adds_at item xs)
unfolding adds_at
shorter_adds item h xs [] x rest e = absurd cc
shorter_adds item h xs (t ∷ tokens) x rest e =
    let p = bind_ok (item (length xs) (t ∷ tokens)) (λ x. Ok (xs ++ x.0 ∷ [], x.1)) (x, rest) e in
    let less = h (length xs) (t ∷ tokens) p.0.0 p.0.1 p.1 in
    let same = same_rest (xs ++ p.0.0 ∷ []) x p.0.1 rest p.2 in
    omega (arith, ap length same)

no_longer_behind : {S : Type 0} (closing : List ℕ) (read : List Token → Result (S × List Token) Found) → IsNoLonger read
    → IsNoLonger (λ tokens. comma_at closing tokens >>= λ after. read after)
no_longer_behind closing read h tokens y rest e =
    let p = bind_ok (comma_at closing tokens) (λ after. read after) (y, rest) e in
    let a = comma_no_longer closing tokens p.0 p.1 in
    let b = h p.0 y rest p.2 in
    omega arith

pub no_longer_items : {S : Type 0} (closing : List ℕ) (item : S → Reader S) → ((s : S) → IsNoLonger (item s))
    → (n : ℕ) (s : S) → IsNoLonger (items_at closing item n s)
unfolding items_at
no_longer_items closing item h zero s = no_longer_then (shorter_no_longer (shorter_token _ _)) (λ _. no_longer_ok s)
no_longer_items closing item h (suc n) s =
    no_longer_if (begins_with (is_this_sign closing)) _ _
    (no_longer_then (shorter_no_longer (shorter_token _ _)) (λ _. no_longer_ok s))
    (no_longer_then (h s) (λ x. no_longer_behind closing (items_at closing item n x)
    (no_longer_items closing item h n x)))
