-- Values of a counter on its way to a limit that it has to hit.
use Rattle.std.proofs.Common.{◌≡◌, ◌≢◌, ◌<◌, ◌+◌, ◌-◌, ◌*◌, ℕ, zero, suc, not, ◌==◌, true, false, Option, Some, None}
use Rattle.std.proofs.Common.{MatchOption, arith}
use Rattle.std.proofs.Math.Nat.{mul-lt-mul_of_pos_right}
use Rattle.rt_bounds.specs.Inside.Turns.{Hits, IsNever, IsFirst}
use Rattle.rt_bounds.specs.declared.counting.Direction.TheVariants.{Rises, Falls}
use Rattle.rt_bounds.specs.declared.turns.Staying.TheVariants.{Except}

-- fewer steps lead less far
less_far : (k n s d : ℕ) → k < n → 0 < s → n * s ≡ d → k * s < d
less_far k n s d less some is = let h : k * s < n * s = mul-lt-mul_of_pos_right less some in omega (arith, h, is)

apart : (a b : ℕ) → a ≢ b → not (a == b) ≡ true
apart a b e = grind (arith, e)

same : (a b : ℕ) → a ≡ b → not (a == b) ≡ false
same a b e = grind (arith, e)

-- no steps lead over a distance: it is not hit
missed : (d s n : ℕ) → 0 < d → ((m : ℕ) → ¬ Hits d s m) → n * s ≢ d
missed d zero n far none = λ e. omega (arith, e, far)
missed d (suc s) n far none = λ e. none n (omega arith, e)

pub rises_to : (start step limit : ℕ) → start < limit → (r : Option ℕ)
    → MatchOption r ((n : ℕ) → ¬ Hits (limit - start) step n) (Hits (limit - start) step)
    → MatchOption r (IsNever Rises start step (Except limit)) (IsFirst Rises start step (Except limit))
rises_to start step limit less None none =
    λ n fits. apart (start + n * step) limit
    (λ e. missed (limit - start) step n (omega (arith, less)) none (omega (arith, e, less)))
rises_to start step limit less (Some n) hits = record {
  before = λ k few.
      let short = less_far k n step (limit - start) few hits.0 hits.1 in
      apart (start + k * step) limit (λ e. omega (arith, e, short, less));
  left = λ fits. let far = hits.1 in same (start + n * step) limit (omega (arith, far, less));
}

pub falls_to : (start step limit : ℕ) → limit < start → (r : Option ℕ)
    → MatchOption r ((n : ℕ) → ¬ Hits (start - limit) step n) (Hits (start - limit) step)
    → MatchOption r (IsNever Falls start step (Except limit)) (IsFirst Falls start step (Except limit))
falls_to start step limit less None none =
    λ n fits. apart (start - n * step) limit
    (λ e. missed (start - limit) step n (omega (arith, less)) none (omega (arith, e, less, fits)))
falls_to start step limit less (Some n) hits = record {
  before = λ k few.
      let short = less_far k n step (start - limit) few hits.0 hits.1 in
      apart (start - k * step) limit (λ e. omega (arith, e, short, less));
  left = λ fits. let far = hits.1 in same (start - n * step) limit (omega (arith, far, less));
}
