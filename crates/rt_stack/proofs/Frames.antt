-- Frames at the end of a region: what was pushed is on top, and a loan of the top leaves what is below.
use Rattle.std.proofs.Common.{◌≡◌, ℕ, ◌-◌, ◌≤◌, List, ◌++◌, length, take, drop, ap, ◌∙◌, arith}
use Rattle.std.proofs.Common.{length-append, length-drop}
use Rattle.std.proofs.Math.Seq.{take-append_seam, drop-append_seam}
use Rattle.std.specs.List.{refill}
use Rattle.rt_stack.specs.Region.{Region, used_words, top, below}
use Rattle.rt_stack.specs.Top.{with_top}
use Rattle.rt_stack.proofs.Loan.{refill-last, refill-same}

-- where the last n of m words were lent, from index k on, the region has what is written there
pub with_top-lent : (m n k size : ℕ) (xs ws : List ℕ) (r : Region) → m ≡ length xs → n ≤ m → k ≡ m - n
    → record { words = xs; size = size } ≡ r
    → record { words = refill m xs (take k xs ++ (ws ++ drop (length ws) (drop k xs))); size = size } ≡ with_top r n ws
with_top-lent m n k size xs ws r long within from is =
    (λ i. record { words = refill-last m n k xs ws long within from i; size = size }) ∙ ap (λ f. with_top f n ws) is

-- the region with other words behind those that stay
abbrev behind : Region → List ℕ → List ℕ → Region
behind r xs ws = record r { words = xs ++ ws }

pub top-behind : (r : Region) (xs ws : List ℕ) (n : ℕ) → length ws ≡ n → top (behind r xs ws) n ≡ ws
top-behind r xs ws n same =
    let index : length (xs ++ ws) - n ≡ length xs = omega (arith, length-append xs ws) in
    ap (λ k. drop k (xs ++ ws)) index ∙ drop-append_seam xs ws

pub below-behind : (r : Region) (xs ws : List ℕ) (n : ℕ) → length ws ≡ n → below (behind r xs ws) n ≡ xs
below-behind r xs ws n same =
    let index : length (xs ++ ws) - n ≡ length xs = omega (arith, length-append xs ws) in
    ap (λ k. take k (xs ++ ws)) index ∙ take-append_seam xs ws

module _ (r : Region) (n : ℕ) (ws : List ℕ) (within : n ≤ used_words r) (same : length ws ≡ n) where
  pub with_top-same : with_top r n ws ≡ record r { words = below r n ++ ws }
  with_top-same =
      let long : length (top r n) ≡ n = omega (arith, length-drop (used_words r - n) r.words) in
      λ i. record r { words = below r n ++ refill-same n (top r n) ws long same i }
