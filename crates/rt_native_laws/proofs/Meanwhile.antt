-- What others do meanwhile leaves a job in the tail of an `alarm`.
use Rattle.std.proofs.Common.{◌≡◌, ◌∙◌, ℕ}
use Rattle.std.proofs.Common.{Bool, true, false, List, sym, refl, ap, subst, arith}
use Rattle.std.specs.Prelude.{if◌then◌else◌, drop, slice_index}
use Rattle.rt_code.specs.Image.{Image}
use Rattle.rt_core.specs.Core.{Core}
use Rattle.rt_native.specs.declared.outside.Outside.{Outside}
use Rattle.rt_thumb.specs.Machine.{Machine}
use Rattle.rt_thumb.specs.Step.{Program}
use Rattle.rt_native_laws.specs.Own.{Spans}
use Rattle.rt_native_laws.specs.Phases.{OthersRan}
use Rattle.rt_native_laws.specs.Standing.{IsLaidOut, StandsFor, HoldsWords, frames_end}
use Rattle.rt_native_laws.specs.InTail.{IsInTail, Knows, Stage, AtTime, AtCompare, AtBranch, AtNone, AtStore, AtNumber}
use Rattle.rt_native_laws.specs.InTail.{AtLow, AtTop, AtRequest, alarm_tail}
use Rattle.rt_native_laws.specs.Tail.{Meanwhile, TailIsKept}
use Rattle.rt_native_laws.specs.InTail.{passed, rung}
use Rattle.rt_native_laws.proofs.Phases.{stands_again}

address_of : (line : ℕ) (b : Bool) (c u : Core) → c ≡ (if b then rung line u else u)
    → c.processor.address ≡ u.processor.address
address_of line true c u e = ap (λ (y : Core). y.processor.address) e
address_of line false c u e = ap (λ (y : Core). y.processor.address) e

module _ (at : Outside) (bottom : ℕ) (img : Image) (places : List ℕ) (p : Program) (c d v : Core) (owes : Bool)
    (top : ℕ) (m n : Machine) (x : IsInTail at bottom img places p c top m)
    (o : OthersRan at (m.register 13) top x.unpaid v m n) (w : Meanwhile x.irq x.instant x.owes owes x.unpaid v)
    (debt : d ≡ (if owes then rung x.irq v else v)) where
  abbrev now : Machine
  now = record m {
    memory = n.memory;
    is_pending = n.is_pending;
    is_unsettled = n.is_unsettled;
    seen = n.seen;
  }

  same_address : c.processor.address ≡ d.processor.address
  same_address =
      address_of x.irq x.owes c x.unpaid x.debt ∙ (sym (ap (λ (y : Core). y.processor.address) o.core)
      ∙ sym (address_of x.irq owes d v debt))

  abbrev old_end : ℕ
  old_end = slice_index places c.processor.address

  same_end : old_end ≡ slice_index places d.processor.address
  same_end = ap (slice_index places) same_address

  known : (stage : Stage) → Knows at x.irq x.instant x.owes x.unpaid m stage
      → Knows at x.irq x.instant owes v now stage
  known AtTime (r0, r1, owed) = (r0, r1, λ e. omega (arith, owed (w.debt e), w.later))
  known AtCompare (r0, r1, r2, owed) = (r0, r1, omega (arith, r2, w.later), λ e. owed (w.debt e))
  known AtBranch (r1, come, owed) = (r1, (λ e. omega (arith, come e, w.later)), λ e. owed (w.debt e))
  known AtNone (r1, come) = (r1, omega (arith, come, w.later))
  known AtStore (r1, r2, come) = (r1, r2, omega (arith, come, w.later))
  known AtNumber (come, none) = (omega (arith, come, w.later), w.none none)
  known AtLow (r0, come, none) = (r0, omega (arith, come, w.later), w.none none)
  known AtTop (r0, r1, come, none) = (r0, r1, omega (arith, come, w.later), w.none none)
  known AtRequest (r0, r1, come, none) = (r0, r1, omega (arith, come, w.later), w.none none)

  stands_now : StandsFor at bottom places v (record now { address = slice_index places d.processor.address })
  stands_now =
      subst (λ (y : ℕ). StandsFor at bottom places v (record now { address = y })) same_end
      (subst (λ (y : Core). StandsFor at bottom places y (record now { address = old_end })) (sym o.core)
      (stands_again at bottom places x.unpaid (record m { address = old_end }) x.stands v.time v.alarm v.pending
      v.processor.cells n.memory n.is_pending n.is_unsettled n.seen
      (λ k f t. o.processor.memory k f (omega (arith, t, x.ends))) o.cells o.time o.alarm o.pending))

  tail_again : IsInTail at bottom img places p d top now
  tail_again = record {
    irq = x.irq;
    small = x.small;
    instant = x.instant;
    stage = x.stage;
    code = subst (λ (y : ℕ). Spans p m.address (drop (passed x.stage) (alarm_tail x.irq)) y) same_end x.code;
    unpaid = v;
    owes = owes;
    debt = debt;
    has_come = w.has_come;
    set = w.set;
    knows = known x.stage x.knows;
    laid = subst (IsLaidOut at bottom) (sym o.as_many) x.laid;
    stands = stands_now;
    ends = ap (λ (y : Core). frames_end y m) o.core ∙ x.ends;
    settled = o.settled;
    words = subst HoldsWords o.processor.rest o.words;
  }

  abbrev Again : Machine → Type 0
  Again y =
      (again : IsInTail at bottom img places p d top y) × (again.irq ≡ x.irq) × (again.instant ≡ x.instant)
      × (again.owes ≡ owes) × (again.unpaid ≡ v)

  kept_so : Again n
  unfolding tail_again
  kept_so = subst Again (sym o.processor.rest) (tail_again, refl, refl, refl, refl)

pub tail_is_kept : TailIsKept
tail_is_kept at bottom img places p c d v owes top m n x o w debt =
    kept_so at bottom img places p c d v owes top m n x o w debt
