-- A priority has one response time.
use Rattle.std.proofs.Common.{◌≡◌, ℕ, ◌≤◌, List, Option, refl, sym, ap, ◌∙◌, arith}
use Rattle.std.specs.List.{AllByRecursion}
use Rattle.rt_bounds.specs.declared.longest.Longest.{Longest}
use Rattle.rt_image_times.specs.Laws.{OneResponseTime}
use Rattle.rt_image_times.specs.Response.{needed, Suffices, IsResponse}
use Rattle.rt_image_times.specs.Inside.Sums.{IsPositive}
use Rattle.rt_image_times.specs.declared.load.Load.{Load}
use Rattle.rt_image_times.specs.declared.needed.Needed.{Needed}
use Rattle.rt_image_times.specs.declared.needed.Needed.TheVariants as needs
use Rattle.rt_image_times.specs.declared.response.Response.{Response}
use Rattle.rt_image_times.specs.declared.response.Response.TheVariants as response
use Rattle.rt_image_times.proofs.Rising.{needed_rises, loop_behind}

-- no number is a loop
apart : (x : Needed) (a n : ℕ) → x ≡ needs.Loop a → x ≡ needs.Steps n → ⊥
apart x a n loop steps = absurd cc

-- the loop of what is asked for
abbrev told : Needed → Response
told (needs.Loop a) = response.Loop a
told (needs.Steps n) = response.Over

module _ (all : List Load) (wait : Option Longest) (positive : AllByRecursion IsPositive all) where
  no_loop : (steps a : ℕ) → Suffices all wait steps → needed all wait 1 ≡ needs.Loop a → ⊥
  no_loop steps a enough loop =
      apart (needed all wait steps) a enough.need
      (loop_behind (needed all wait 1) (needed all wait steps) a
      (needed_rises 1 steps enough.some all wait positive) loop) enough.needs

  once : (one other : Response) → IsResponse all wait one → IsResponse all wait other → one ≡ other
  once (response.Steps m) (response.Steps n) first second =
      let less : m ≤ n = first.2 n second.0 in let more : n ≤ m = second.2 m first.0 in
      ap (λ s. response.Steps s) (omega (arith, less, more))
  once (response.Steps m) (response.Loop a) first second = absurd (no_loop m a first.0 second)
  once (response.Steps m) response.Over first second = absurd (second.1 m first.1 first.0)
  once (response.Loop a) (response.Steps n) first second = absurd (no_loop n a second.0 first)
  once (response.Loop a) (response.Loop b) first second = ap told (sym first ∙ second)
  once (response.Loop a) response.Over first second =
      absurd (apart (needed all wait 1) a second.0.0 first second.0.1)
  once response.Over (response.Steps n) first second = absurd (first.1 n second.1 second.0)
  once response.Over (response.Loop b) first second =
      absurd (apart (needed all wait 1) b first.0.0 second first.0.1)
  once response.Over response.Over first second = refl

pub one_response_time : OneResponseTime
one_response_time all wait positive one other first second = once all wait positive one other first second
