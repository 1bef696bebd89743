-- The section of an application's timer queue on the window: how it may be entered, what is open inside it, and what is
-- left of the window outside it.
use Rattle.rt_gen_queue.proofs.Vocabulary.{AllByRecursion, App, OpenSection, HoldsOff, IsAccepted, IsSome, IsWithin}
use Rattle.rt_gen_queue.proofs.Vocabulary.{List}
use Rattle.rt_gen_queue.proofs.Vocabulary.{Mono, None, Option, Some, accepted_are_sound, ap, arith, false, irq_number}
use Rattle.rt_gen_queue.proofs.Vocabulary.{is_open, length, memory, option_map, or_zero, refl, saved_slots, storage}
use Rattle.rt_gen_queue.proofs.Vocabulary.{sym, then_from, ℕ, ◌<◌, ◌∙◌, ◌∷◌, ◌≡◌}
use Rattle.rt_lemmas.proofs.Indices.{there_is}
use Rattle.rt_ids.specs.declared.ids.Section.TheVariants as section
use Rattle.rt_app.{proofs.LaidTimer.timer_is_home, specs.Accepted.IsMonoPlaced}
use Rattle.rt_gen_queue.proofs.{Entering.MayEnter, Entering.opened, Layer.Here, Layer.Setting, Owning.is_inside}
use Rattle.rt_gen_queue.proofs.{Owning.nobody_keeps}
use Rattle.rt_gen_timer.{proofs.Acting.Columns, proofs.Window.Slots, specs.TimerCode.queue_of}

-- the interrupt of the monotonic
pub timer_irq : (app : App) → IsAccepted app → IsSome app.mono
    → (storage app).timer ≡ Some (or_zero (storage app).timer)
unfolding storage
timer_irq app accepted timed = go app.mono accepted.mono timed
  where
    go : (o : Option Mono) → IsMonoPlaced app o → IsSome o
        → then_from o (λ mono. irq_number app mono.irq)
        ≡ Some (or_zero (then_from o (λ mono. irq_number app mono.irq)))
    go None placed some = absurd cc
    go (Some mono) placed some =
        let one = there_is app.irqs mono.irq placed in
        let is : irq_number app mono.irq ≡ Some one.0.number = ap (option_map (λ d. d.number)) one.1 in
        is ∙ ap (λ o. Some (or_zero o)) (sym is)

-- what is asked for to enter the section of the timer queue
pub record MayOpen (z : Setting) (f : Slots) (threshold : ℕ) (h : Here) : Type 0 where
  pub accepted : IsAccepted z.app
  pub timed : IsSome z.app.mono
  pub masks : AllByRecursion (λ d. d < f.slot) (saved_slots h.held)
  pub off : HoldsOff z.app z.who z.who h.held threshold
  pub within : IsWithin (storage z.app) z.who z.who section.Timer
  pub closed : is_open h.held section.Timer ≡ false

pub may_enter : {z : Setting} {f : Slots} {threshold : ℕ} {h : Here} → MayOpen z f threshold h
    → MayEnter z f h section.Timer threshold
may_enter {z = z} may = record {
  room = omega arith;
  masks = may.masks;
  off = may.off;
  top = (accepted_are_sound z.app may.accepted).ceilings section.Timer may.timed;
  within = may.within;
  closed = may.closed;
  nobody = nobody_keeps z.app z.who z.who section.Timer tt;
}

-- inside it its cells are the columns
pub columns_inside : (z : Setting) (f : Slots) (threshold : ℕ) (outer : List OpenSection) → IsSome z.app.mono
    → {cells : List ℕ}
    → length cells ≡ length (memory z.app)
    → Columns z (queue_of z.app) (opened z f section.Timer threshold ∷ outer) cells
columns_inside z f threshold outer timed long = record {
  opens = is_inside z.app z.who outer (opened z f section.Timer threshold) section.Timer refl;
  long = long;
  homes = timer_is_home z.app timed;
}
