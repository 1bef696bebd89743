-- What happens meanwhile leads both moments on alike, and a tick pays.
use Rattle.std.proofs.Common.{◌≡◌, ◌≢◌, ◌∙◌, ℕ, suc, ◌<◌, ◌≤◌, Bool, true, false, List, [], ◌∷◌, Option, Some, None}
use Rattle.std.proofs.Common.{IfSome, refl, sym, ap, subst, arith, length, ⊎_elim, ◌⊎◌, inl, inr}
use Rattle.std.proofs.lemmas.Bool.{cases_eq, false≢true}
use Rattle.std.proofs.lemmas.List.{get_or-set_same, set_comm}
use Rattle.std.specs.Prelude.{if◌then◌else◌, nat_le, option_map, slice_get, slice_index_or, slice_set}
use Rattle.rt_ids.specs.Event.{Arrive, Step, Tick}
use Rattle.rt_lemmas.proofs.Membership.{all_at}
use Rattle.rt_code.specs.Image.{Image}
use Rattle.rt_code.specs.declared.image.Handler.{Handler}
use Rattle.rt_code.specs.declared.image.IrqRow.{IrqRow}
use Rattle.rt_code.specs.declared.instr.Instr.{Instr}
use Rattle.rt_code.specs.declared.instr.Instr.TheVariants as instr
use Rattle.rt_code.specs.declared.instr.Note.{Note}
use Rattle.rt_core.specs.Core.{Core}
use Rattle.rt_core.specs.Priority.{execution, mask_value, pick, running_value, value_or_none}
use Rattle.rt_core.specs.Stepping.{step}
use Rattle.rt_core.specs.Trace.{happen, ring, tick}
use Rattle.rt_trace.specs.Label.{Label, Rang, Stepped}
use Rattle.rt_trace.specs.declared.item.What.{What}
use Rattle.rt_native_laws.specs.Alike.{IsNotTaken, SetsNoAlarm}
use Rattle.rt_native_laws.specs.Behaving.{GoesWell, IsGood}
use Rattle.rt_native_laws.specs.Moments.{Comes, Fills, Loads, Moment, Puts, Taking, after_instruction, after_return}
use Rattle.rt_native_laws.specs.Moments.{after_step, instruction_at, moment_after}
use Rattle.rt_native_laws.specs.Owing.{CeilingsHoldOff, HappeningsAreAlike, NoneAboveSetsAlarms}
use Rattle.rt_native_laws.specs.Owing.{TailsOweSo, TicksInTails, TicksLeaveOwed, TicksPay, rung_moment}
use Rattle.rt_native_laws.specs.InTail.{rung}
use Rattle.rt_native_laws.specs.Tail.{IsOwing, Meanwhile}
use Rattle.rt_native_laws.proofs.Alike.{same_pick, steps_are_alike}
use Rattle.rt_native_laws.proofs.Tail.{holds_at_most, tail_owes}
use Rattle.rt_native_laws.proofs.Tests.{at_most, not_at_most}

pub mask_is_small : (b : Bool) → mask_value b ≤ 256
mask_is_small true = omega arith
mask_is_small false = omega arith

pub ceilings_hold_off : CeilingsHoldOff
ceilings_hold_off img ceiling irq c held low row there e =
    by_handler row.handler
    (all_at (λ (r : IrqRow). r.number ≡ irq → IfSome r.handler (λ h. ceiling ≤ h.value)) img.irqs there.0 row held
    there.1 e)
  where
    by_handler : (o : Option Handler) → IfSome o (λ h. ceiling ≤ h.value) → execution c ≤ value_or_none o
    by_handler None h = omega (arith, mask_is_small c.processor.primask)
    by_handler (Some k) h = omega (arith, h, low)

module _ (img : Image) (ceiling : ℕ) (s : Moment) (good : IsGood img ceiling s)
    (above : running_value s.core.below < ceiling) (none : pick img s.core ≡ None) where
  by_kind : (i : Instr) → GoesWell img ceiling s i → SetsNoAlarm (Some i)
  by_kind (instr.Alarm slot irq) well =
      let own = well.at_ceiling.own in omega (arith, own, above)
  by_kind instr.NoAlarm well = let own = well.own in omega (arith, own, above)
  by_kind i well = tt

  by_line : (o : Option (Instr × Option Note)) → slice_get img.code s.core.processor.address ≡ o
      → SetsNoAlarm (option_map (λ l. l.0) o)
  by_line None e = tt
  by_line (Some line) e = by_kind line.0 (good.instruction line.0 line.1 e none)

  sets_none : SetsNoAlarm (instruction_at img s.core)
  sets_none = by_line (slice_get img.code s.core.processor.address) refl

pub none_above_sets_alarms : NoneAboveSetsAlarms
none_above_sets_alarms img ceiling s good above none = sets_none img ceiling s good above none

-- a request more, in either order
pub both_asked : (old : List Bool) (irq other : ℕ)
    → slice_set (slice_set old irq true) other true ≡ slice_set (slice_set old other true) irq true
both_asked old irq other =
    ⊎_elim
    (λ (e : irq ≡ other). ap (λ (x : ℕ). slice_set (slice_set old irq true) x true) (sym e)
    ∙ ap (λ (x : ℕ). slice_set (slice_set old x true) irq true) e)
    (λ (e : irq ≢ other). set_comm old irq other true true e) (cases_eq irq other)

module _ (img : Image) (irq : ℕ) (s : Moment) where
  returned_alike : (d : Core) (takings : List Taking)
      → after_return (rung irq d) takings ≡ rung_moment irq (after_return d takings)
  returned_alike d [] = refl
  returned_alike d (x ∷ takings) = refl

  instructed_alike : (d : Core) (o : Option Instr)
      → after_instruction img (rung_moment irq s) (rung irq d) o ≡ rung_moment irq (after_instruction img s d o)
  instructed_alike d (Some instr.Ret) = returned_alike d s.takings
  instructed_alike d o = refl

  stepped_alike : (d : Core) (o : Option IrqRow)
      → after_step img (rung_moment irq s) (rung irq d) o ≡ rung_moment irq (after_step img s d o)
  stepped_alike d None = instructed_alike d (instruction_at img s.core)
  stepped_alike d (Some row) = refl

  module _ (free : IsNotTaken img irq s.core)
      (none : pick img s.core ≡ None → SetsNoAlarm (instruction_at img s.core)) where
    alike : step img (rung irq s.core) ≡ (rung irq (step img s.core).0, (step img s.core).1)
    alike = steps_are_alike img irq s.core free none

    step_alike : moment_after img (rung_moment irq s) (Comes Step) ≡ rung_moment irq (moment_after img s (Comes Step))
    step_alike =
        ap (λ (x : Core × Option What). after_step img (rung_moment irq s) x.0 (pick img (rung irq s.core))) alike
        ∙ (ap (after_step img (rung_moment irq s) (rung irq (step img s.core).0)) (same_pick img irq s.core free)
        ∙ stepped_alike (step img s.core).0 (pick img s.core))

pub happenings_are_alike : HappeningsAreAlike
unfolding happen
happenings_are_alike img irq s (Comes (Arrive other)) quiet free none = (
  ap (λ (ps : List Bool). record s { core = record (rung irq s.core) { pending = ps } })
      (both_asked s.core.pending irq other),
  refl,
)
happenings_are_alike img irq s (Comes Tick) quiet free none = absurd quiet
happenings_are_alike img irq s (Comes Step) quiet free none = (
  step_alike img irq s free none,
  ap (λ (x : Core × Option What). Stepped x.1 ∷ []) (alike img irq s free none),
)
happenings_are_alike img irq s (Fills words) quiet free none = (refl, refl)
happenings_are_alike img irq s (Loads input word) quiet free none = (refl, refl)
happenings_are_alike img irq s (Puts cell word) quiet free none = (refl, refl)

pub ticks_pay : TicksPay
ticks_pay c a there due =
    sym (ap (λ (x : Core × List Label). x.0)
    (ap (ring (record c { time = suc c.time })) there
    ∙ ap (λ (b : Bool). if b then (rung a.irq (record c { time = suc c.time }), Rang ∷ [])
    else (record c { time = suc c.time }, [])) (holds_at_most a.instant (suc c.time) due)))

pub ticks_leave_owed : TicksLeaveOwed
ticks_leave_owed irq c none =
    sym (ap (λ (x : Core × List Label). rung irq x.0) (ap (ring (record c { time = suc c.time })) none))

pub tails_owe_so : TailsOweSo
tails_owe_so at bottom img places p c top m x = tail_owes at bottom img places p c top m x

-- a tick in a tail
module _ (irq instant : ℕ) (owed : Bool) (u : Core) (x : IsOwing irq instant owed u) (there : irq < length u.pending)
  where
    abbrev c : Core
    c = if owed then rung irq u else u

    abbrev later : Core
    later = record u { time = suc u.time }

    abbrev After : Core → Type 0
    After k = (owes : Bool) × Meanwhile irq instant owed owes u k × ((tick c).0 ≡ (if owes then rung irq k else k))

    free : owed ≡ false → c ≡ u
    free e = ap (λ (t : Bool). if t then rung irq u else u) e

    is_owed : owed ≡ true → c ≡ rung irq u
    is_owed e = ap (λ (t : Bool). if t then rung irq u else u) e

    -- it is set, and due now or not
    pays : (b : Bool) → owed ≡ b → u.alarm ≡ Some (record { instant = instant; irq = irq })
        → instant ≤ suc u.time → (tick c).0 ≡ (tick u).0
    pays true e set due =
        ap (λ (y : Core). (tick y).0) (is_owed e) ∙ ticks_pay u (record { instant = instant; irq = irq }) set due
    pays false e set due = ap (λ (y : Core). (tick y).0) (free e)

    rings : u.alarm ≡ Some (record { instant = instant; irq = irq }) → (b : Bool)
        → nat_le instant (suc u.time) ≡ b → (tick u).0 ≡ (if b then rung irq later else later)
    rings set true e =
        ap (λ (y : Core × List Label). y.0) (ap (ring later) set
        ∙ ap (λ (b : Bool). if b then (rung irq later, Rang ∷ []) else (later, [])) e)
    rings set false e =
        ap (λ (y : Core × List Label). y.0) (ap (ring later) set
        ∙ ap (λ (b : Bool). if b then (rung irq later, Rang ∷ []) else (later, [])) e)

    asked : slice_index_or (slice_set u.pending irq true) irq false ≡ true
    asked = get_or-set_same u.pending irq true false there

    by_due : u.alarm ≡ Some (record { instant = instant; irq = irq }) → (b : Bool)
        → nat_le instant (suc u.time) ≡ b → After (tick u).0
    by_due set true e =
        let is = rings set true e in
        subst After (sym is) (
          false,
          record {
            later = omega arith;
            debt = λ f. absurd (false≢true f);
            has_come = λ f g. (refl, asked);
            none = λ f. refl;
            set = inr (refl, λ f. asked);
          },
          pays owed refl set (at_most instant (suc u.time) e) ∙ is,
        )
    by_due set false e =
        let is = rings set false e in
        let early = not_at_most instant (suc u.time) e in
        subst After (sym is) (
          false,
          record {
            later = omega arith;
            debt = λ f. absurd (false≢true f);
            has_come = λ f g. absurd (omega (arith, early, g));
            none = λ f. f;
            set = inl set;
          },
          none_owed owed refl early is,
        )
      where
        none_owed : (b : Bool) → owed ≡ b → suc u.time < instant → (tick u).0 ≡ later → (tick c).0 ≡ later
        none_owed true f early is = let due = x.due f in absurd (omega (arith, due, early))
        none_owed false f early is = ap (λ (y : Core). (tick y).0) (free f) ∙ is

    -- its word is none
    stays_owed : u.alarm ≡ None → (owes : Bool) → owed ≡ owes
        → (tick c).0 ≡ (if owes then rung irq (tick u).0 else (tick u).0)
    stays_owed none true e = ap (λ (y : Core). (tick y).0) (is_owed e) ∙ ticks_leave_owed irq u none
    stays_owed none false e = ap (λ (y : Core). (tick y).0) (free e)

    by_set : (u.alarm ≡ Some (record { instant = instant; irq = irq }))
        ⊎ ((u.alarm ≡ None) × (owed ≡ false → slice_index_or u.pending irq false ≡ true)) → After (tick u).0
    by_set (inl set) = by_due set (nat_le instant (suc u.time)) refl
    by_set (inr (none, come)) =
        let is : (tick u).0 ≡ later = ap (λ (y : Core × List Label). y.0) (ap (ring later) none) in
        subst After (sym is) (
          owed,
          record {
            later = omega arith;
            debt = λ f. f;
            has_come = λ f g. (none, come f);
            none = λ f. f;
            set = inr (none, come);
          },
          stays_owed none owed refl ∙ ap (λ (k : Core). if owed then rung irq k else k) is,
        )

pub ticks_in_tails : TicksInTails
ticks_in_tails irq instant owed u x there = by_set irq instant owed u x there x.set
