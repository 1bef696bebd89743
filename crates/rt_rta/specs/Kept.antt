-- Runs whose requests keep limits: response times hold of these alone.
use Rattle.std.specs.Prelude.{◌≡◌, ℕ, ◌≤◌, List, ◌∷◌, ◌++◌, Contains, Some, IsSome}
use Rattle.rt_ids.specs.declared.ids.BodyId.TheVariants as body
use Rattle.rt_trace.specs.Label.{Label, Arrived, Stepped, steps_of}
use Rattle.rt_trace.specs.declared.item.What.TheVariants as what
use Rattle.rt_rta.specs.Limits.{every_of}
use Rattle.rt_rta.specs.declared.limits.Limit.{Limit}

-- The requests of a run keep these limits, as those of sporadic tasks do; an interrupt without one is never requested.
pub record Kept (limits : List Limit) (labels : List Label) : Type 0 where
  -- nothing is requested before `init` ends
  pub late : (front behind : List Label) (irq : ℕ) → labels ≡ front ++ Arrived irq ∷ behind
      → Contains front (Stepped (Some (what.End body.Init)))
  -- between two requests of an interrupt lie at least so many core steps
  pub apart : (front between behind : List Label) (irq every : ℕ) → every_of limits irq ≡ Some every
      → labels ≡ front ++ Arrived irq ∷ (between ++ Arrived irq ∷ behind) → every ≤ steps_of between
  -- what has no limit is never requested
  pub limited : (front behind : List Label) (irq : ℕ) → labels ≡ front ++ Arrived irq ∷ behind
      → IsSome (every_of limits irq)

-- the step in which `init` ends; an application without `init` begins with it
abbrev pub end_of_init : Label
end_of_init = Stepped (Some (what.End body.Init))

-- `init` ends in these labels: so much comes during it, and so much behind its end
pub record InitEnds (labels during behind : List Label) : Type 0 where
  pub parts : labels ≡ during ++ end_of_init ∷ behind
  pub first_end : ¬ Contains during end_of_init

-- Behind the end of `init` requests keep these limits, where an interrupt that was requested during `init`, however
-- often, counts as requested once, at the end.
pub record KeptFromEnd (limits : List Limit) (during behind : List Label) : Type 0 where
  -- between two requests of an interrupt lie at least so many core steps
  pub apart : (front between rest : List Label) (irq every : ℕ) → every_of limits irq ≡ Some every
      → behind ≡ front ++ Arrived irq ∷ (between ++ Arrived irq ∷ rest) → every ≤ steps_of between
  -- and so do they between the end of `init` and a request of an interrupt that was requested during `init`
  pub apart_from_end : (between rest : List Label) (irq every : ℕ) → every_of limits irq ≡ Some every
      → Contains during (Arrived irq) → behind ≡ between ++ Arrived irq ∷ rest → every ≤ steps_of between

-- The requests of a run keep these limits once `init` ends. Interrupts may be requested during `init` too, and as often
-- as they like: `init` runs with all of them masked (the RTIC 1 book, `init`), so at its end each is pending once or
-- not at all.
pub record KeptOnceInitEnds (limits : List Limit) (labels : List Label) : Type 0 where
  pub from_end : (during behind : List Label) → InitEnds labels during behind → KeptFromEnd limits during behind
  -- what has no limit is never requested
  pub limited : (front behind : List Label) (irq : ℕ) → labels ≡ front ++ Arrived irq ∷ behind
      → IsSome (every_of limits irq)
