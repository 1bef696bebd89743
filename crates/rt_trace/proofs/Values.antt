-- One value more of a message.
use Rattle.std.proofs.Common.{◌≡◌, ◌<◌, ◌^◌, ◌+◌, ◌-◌, ℕ, suc, List, [], ◌∷◌, ◌++◌, length, take, map, decimal, Result}
use Rattle.std.proofs.Common.{Ok, Err, refl}
use Rattle.std.proofs.Common.{ap, sym, ◌∙◌, arith, append_assoc}
use Rattle.std.proofs.Math.ListN.{set}
use Rattle.std.specs.List.{AllByRecursion}
use Rattle.rt_ids.specs.Names.{Names}
use Rattle.std.proofs.lemmas.List.{take_more_set}
use Rattle.rt_lines.specs.Answers.{and_then, and_make}
use Rattle.rt_lines.specs.Table.{numbers_at, IsWritten, Number32, operand_word}
use Rattle.rt_lines.specs.Operand.{number_at}
use Rattle.rt_lines.specs.declared.operand.Wrong.{Wrong}

made_twice : {A B C : Type 0} (x : Result A Wrong) (f : A → B) (g : B → C) (h : A → C) → ((a : A) → h a ≡ g (f a))
    → and_make x h ≡ and_make (and_make x f) g
made_twice (Ok a) f g h same = ap (λ c. Ok c) (same a)
made_twice (Err e) f g h same = refl

read_then : (word : List ℕ) (v : ℕ) (rest : Result (List ℕ) Wrong) → number_at (2 ^ 32) word ≡ Ok v
    → and_then (number_at (2 ^ 32) word) (λ v. and_make rest (λ vs. v ∷ vs)) ≡ and_make rest (λ vs. v ∷ vs)
read_then word v rest h = ap (λ (n : Result ℕ Wrong). and_then n (λ v. and_make rest (λ vs. v ∷ vs))) h

pub values_step : (all : List ℕ) (count v : ℕ) (word : List ℕ) (words : List (List ℕ)) → count < 4 → count < length all
    → number_at (2 ^ 32) word ≡ Ok v
    → and_make (numbers_at (4 - (count + 1)) words) (λ vs. take (count + 1) (set all count v) ++ vs)
    ≡ and_make (numbers_at (4 - count) (word ∷ words)) (λ vs. take count all ++ vs)
values_step all count v word words few within h =
    let room : 4 - count ≡ suc (4 - (count + 1)) = omega arith in
    let rest = numbers_at (4 - (count + 1)) words in
    made_twice rest (λ (vs : List ℕ). v ∷ vs) (λ (vs : List ℕ). take count all ++ vs)
    (λ (vs : List ℕ). take (count + 1) (set all count v) ++ vs)
    (λ vs. ap (λ (front : List ℕ). front ++ vs) (take_more_set all count v within)
    ∙ append_assoc (take count all) (v ∷ []) vs)
    ∙ (sym (ap (λ (r : Result (List ℕ) Wrong). and_make r (λ vs. take count all ++ vs)) (read_then word v rest h))
    ∙ ap (λ (k : ℕ). and_make (numbers_at k (word ∷ words)) (λ vs. take count all ++ vs)) (sym room))

-- values of 32 bits have words
pub values_written : (names : Names) (ns : List ℕ) → AllByRecursion (λ n. n < 2 ^ 32) ns
    → AllByRecursion (IsWritten names) (map (λ n. (Number32, n)) ns)
values_written names [] all = tt
values_written names (n ∷ ns) all = (all.0, values_written names ns all.1)

-- and what they are written as
pub values_words : (names : Names) (ns : List ℕ)
    → map (operand_word names) (map (λ n. (Number32, n)) ns) ≡ map decimal ns
values_words names [] = refl
values_words names (n ∷ ns) = ap (λ ws. decimal n ∷ ws) (values_words names ns)
