-- The last elements of a list are lent, and others are written there. The list has m elements, and n of them are lent.
use Rattle.std.proofs.Common.{◌≡◌, ℕ, ◌+◌, ◌-◌, ◌≤◌, List, ◌++◌, length, take, drop, ap, ◌∙◌, arith, append-nil}
use Rattle.std.proofs.Common.{length-append, length-take, length-drop, drop_of_length-le, take_all, slice_range}
use Rattle.std.proofs.Math.Seq.{take-append-add}
use Rattle.std.proofs.lemmas.List.{take-append-le}
use Rattle.std.specs.List.{refill}

-- what is lent
pub range-last : (n m k : ℕ) (xs : List ℕ) → m ≡ length xs → n ≤ m → k ≡ m - n
    → slice_range xs k m ≡ drop (length xs - n) xs
range-last n m k xs long within from =
    let index : k ≡ length xs - n = omega arith in
    take_all (m - k) (drop k xs) (omega (arith, length-drop k xs)) ∙ ap (λ j. drop j xs) index

-- what is written there leaves all below
pub refill-from : (m n k : ℕ) (xs ws : List ℕ) → m ≡ length xs → k + n ≡ m
    → refill m xs (take k xs ++ (ws ++ drop (length ws) (drop k xs))) ≡ take k xs ++ refill n (drop k xs) ws
refill-from m n k xs ws long parts =
    let rest : List ℕ = ws ++ drop (length ws) (drop k xs) in
    let all : List ℕ = take k xs ++ rest in
    let front : m ≡ length (take k xs) + n = omega (arith, length-take k xs) in
    let enough : m ≤ length all =
    omega (
      arith,
      front,
      length-append (take k xs) rest,
      length-append ws (drop (length ws) (drop k xs)),
      length-drop (length ws) (drop k xs),
      length-drop k xs,
    ) in
    take-append-le m all (drop (length all) xs) enough
    ∙ ap (λ i. take i all) front ∙ take-append-add (take k xs) rest n

-- the same, where k is counted from the end
pub refill-last : (m n k : ℕ) (xs ws : List ℕ) → m ≡ length xs → n ≤ m → k ≡ m - n
    → refill m xs (take k xs ++ (ws ++ drop (length ws) (drop k xs)))
    ≡ take (length xs - n) xs ++ refill n (drop (length xs - n) xs) ws
refill-last m n k xs ws long within from =
    let index : k ≡ length xs - n = omega arith in
    refill-from m n k xs ws long (omega arith) ∙ ap (λ j. take j xs ++ refill n (drop j xs) ws) index

-- a list of the wanted length stands there as it is
pub refill-same : (n : ℕ) (xs ws : List ℕ) → length xs ≡ n → length ws ≡ n → refill n xs ws ≡ ws
refill-same n xs ws long same =
    ap (λ rest. take n (ws ++ rest)) (drop_of_length-le xs (omega arith))
    ∙ ap (take n) (append-nil ws) ∙ take_all n ws (omega arith)
