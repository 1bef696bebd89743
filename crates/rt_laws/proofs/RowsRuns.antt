-- Worked examples: a trace that is a run, and items that no run has there.
use Rattle.std.proofs.Common.{◌≡◌, ℕ, ◌<◌, List, [], ◌∷◌, ◌++◌, Option, Some, None, refl, ap, arith}
use Rattle.rt_ids.specs.declared.ids.BodyId.TheVariants as body
use Rattle.rt_ids.specs.declared.ids.Section.TheVariants as section
use Rattle.rt_trace.specs.Label.{Label, Arrived}
use Rattle.rt_trace.specs.declared.item.Item.{Item}
use Rattle.rt_trace.specs.declared.item.What.{What}
use Rattle.rt_trace.specs.declared.item.What.TheVariants as what
use Rattle.rt_laws.specs.State.{State, first}
use Rattle.rt_laws.specs.Allowed.{Turn, May}
use Rattle.rt_laws.specs.Run.{RunsOn, Run}
use Rattle.rt_laws.specs.ByItems.{after_all, silent}
use Rattle.rt_laws.proofs.RowParts.{shows}
use Rattle.rt_laws.proofs.RowsLocks.{locks, ended, inside}

-- `lo` alone: the lock is left with two silent steps in it, and the value is emitted after one more
alone : List Label
alone =
    Arrived 0 ∷ shows (what.End body.Init) ∷ shows (what.Take 0 48) ∷ shows (what.Enter (section.Res 0))
    ∷ silent 2 ++ shows (what.Leave (section.Res 0) (Some 6)) ∷ silent 1 ++ shows (what.Emit 9) ∷ shows (what.Ret 0)
    ∷ []

-- its items, each with the number of core steps before it
items : List Item
items =
    record { step = 0; what = what.Pend 0 } ∷ record { step = 0; what = what.End body.Init }
    ∷ record { step = 1; what = what.Take 0 48 } ∷ record { step = 2; what = what.Enter (section.Res 0) }
    ∷ record { step = 5; what = what.Leave (section.Res 0) (Some 6) } ∷ record { step = 7; what = what.Emit 9 }
    ∷ record { step = 8; what = what.Ret 0 } ∷ []

lo_runs : RunsOn locks (first locks) alone
unfolding locks alone
lo_runs = (
  (refl, refl),
  (
    (record { not_owing = refl; quiet = refl; step = (omega arith, tt) }, refl),
    (
      (refl, refl),
      (
        (record { not_owing = refl; quiet = refl; step = (omega arith, tt) }, refl),
        (
          record { not_owing = refl; quiet = refl; step = (omega arith, (omega arith, tt)) },
          (
            record { not_owing = refl; quiet = refl; step = (omega arith, (omega arith, tt)) },
            (
              (record { not_owing = refl; quiet = refl; step = (omega arith, (omega arith, tt)) }, refl),
              (
                record { not_owing = refl; quiet = refl; step = (omega arith, tt) },
                (
                  (record { not_owing = refl; quiet = refl; step = (omega arith, tt) }, refl),
                  ((record { not_owing = refl; quiet = refl; step = (omega arith, tt) }, refl), tt),
                ),
              ),
            ),
          ),
        ),
      ),
    ),
  ),
)

lo_is_run : Run locks items 9
unfolding locks alone items
lo_is_run = record { labels = alone; shows = refl; steps = refl; allowed = lo_runs }

-- the number that an item emits
abbrev emitted : Option What → ℕ
emitted (Some (what.Emit n)) = n
emitted w = 0

behind_lock : State
behind_lock = after_all locks (first locks)
    (ended ++ shows (what.Take 0 48) ∷ shows (what.Enter (section.Res 0)) ∷ shows
    (what.Leave (section.Res 0) (Some 6)) ∷ [])

-- another value is not allowed
wrong_value : May locks behind_lock (shows (what.Emit 8)) → ⊥
unfolding locks ended behind_lock
wrong_value may = let same : ◌≡◌ {A = ℕ} 9 8 = ap emitted may.1 in absurd (omega arith)

-- no step is allowed while `hi` is to be taken
while_pending : Turn locks (after_all locks (first locks)
    (inside ++ shows (what.Leave (section.Res 0) (Some 6)) ∷ [])) → ⊥
unfolding locks ended inside
while_pending turn = let none : ◌≡◌ {A = Option ℕ} (Some 2) None = turn.quiet in cc

-- nor a step of a section past its cost
past_cost : Turn locks (after_all locks (first locks)
    (ended ++ shows (what.Take 0 48) ∷ shows (what.Enter (section.Res 0)) ∷ silent 5)) → ⊥
unfolding locks ended
past_cost turn = let left : 0 < 0 = turn.step.1.0 in absurd (omega arith)
