-- On the longest front of a list whose items pass a test.
use Rattle.std.proofs.Common.{◌≡◌, ℕ, zero, suc, ◌+◌, ◌<◌, ◌≤◌, Bool, true, false, cond, ◌&&◌, List, [], ◌∷◌, length}
use Rattle.std.proofs.Common.{take, refl, ap, ◌∙◌, arith, ◌++◌}
use Rattle.std.specs.List.{take_while, prefix_len, list_all}
use Rattle.std.proofs.lemmas.List.Sums.{prefix_len-le-length}
use Rattle.std.proofs.lemmas.List.Folds.{length-prefix_len}
use Rattle.rt_lemmas.proofs.Bools.{and_both, and_right, and_left}
use Rattle.rt_lemmas.proofs.Numbers.{one_add}
use Rattle.std.proofs.Math.Seq.{take-append_seam}

pub run_some : (p : ℕ → Bool) (b : ℕ) (text : List ℕ) → p b ≡ true → 0 < length (take_while p (b ∷ text))
run_some p b text h =
    let e : prefix_len p (b ∷ text) ≡ 1 + prefix_len p text = rw h refl in
    omega (arith, e, length-prefix_len p (b ∷ text))

pub run_at_first : (test : Bool) (len n : ℕ) (rest : Bool) → cond test (1 + len) 0 < suc n → (len < n → rest ≡ false)
    → (test && rest) ≡ false
run_at_first true len n rest h k = k (omega (arith, h))
run_at_first false len n rest h k = refl

pub run_passes_at : (p : ℕ → Bool) (b : ℕ) (text : List ℕ) (test : Bool) → p b ≡ test → list_all p (take_while p text)
    ≡ true → list_all p (take (cond test (1 + prefix_len p text) 0) (b ∷ text)) ≡ true
run_passes_at p b text true h all = rw (one_add (prefix_len p text))
    (and_both (p b) (list_all p (take_while p text)) h all)
run_passes_at p b text false h all = refl

pub run_within : (p : ℕ → Bool) (text : List ℕ) → length (take_while p text) ≤ length text
run_within p text = omega (arith, length-prefix_len p text, prefix_len-le-length p text)

-- more bytes than a run do not all pass
pub run_ends : (p : ℕ → Bool) (text : List ℕ) (n : ℕ) → prefix_len p text < n → n ≤ length text
    → list_all p (take n text) ≡ false
run_ends p [] n h k = absurd (omega (arith, h, k))
run_ends p (b ∷ text) zero h k = absurd (omega (arith, h))
run_ends p (b ∷ text) (suc n) h k = run_at_first (p b) (prefix_len p text) n (list_all p (take n text)) h
    (λ i. run_ends p text n i (omega (arith, k)))

-- a run behind a first byte that passes
pub run_from : (p : ℕ → Bool) (b : ℕ) (text : List ℕ) → p b ≡ true → take_while p (b ∷ text) ≡ b ∷ take_while p text
run_from p b text h =
    let e : prefix_len p (b ∷ text) ≡ suc (prefix_len p text) = rw h (one_add (prefix_len p text)) in
    ap (λ (n : ℕ). take n (b ∷ text)) e

pub run_passes : (p : ℕ → Bool) (text : List ℕ) → list_all p (take_while p text) ≡ true
run_passes p [] = refl
run_passes p (b ∷ text) = run_passes_at p b text (p b) refl (run_passes p text)

-- the bytes of a run are the run
pub run_whole : (p : ℕ → Bool) (text : List ℕ) → take (length (take_while p text)) text ≡ take_while p text
run_whole p text = ap (λ (n : ℕ). take n text) (length-prefix_len p text)

pub prefix_at : (p : ℕ → Bool) (Y : List ℕ) → (test : Bool) → test ≡ false → cond test (1 + prefix_len p Y) 0 ≡ 0
prefix_at p Y test e = rw e refl

pub prefix_before : (p : ℕ → Bool) (text Y : List ℕ) → list_all p text ≡ true → prefix_len p Y ≡ 0
    → prefix_len p (text ++ Y) ≡ length text
prefix_before p [] Y h stop = stop
prefix_before p (b ∷ text) Y h stop =
    let here : p b ≡ true = and_left (p b) _ h in
    rw (here, prefix_before p text Y (and_right (p b) _ h) stop) (omega arith)

pub run_before : (p : ℕ → Bool) (text Y : List ℕ) → list_all p text ≡ true → prefix_len p Y ≡ 0
    → take_while p (text ++ Y) ≡ text
run_before p text Y h stop = ap (λ (n : ℕ). take n (text ++ Y)) (prefix_before p text Y h stop)
    ∙ take-append_seam text Y
