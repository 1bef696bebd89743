-- A moment is good at which the core is coupled, whatever words its frames hold; and counts, as the definitions have
-- them.
use Rattle.std.proofs.Common.{◌≡◌, ℕ, suc, ◌+◌, ◌<◌, ◌≤◌, true}
use Rattle.std.proofs.Common.{List, [], ◌∷◌, length, map, slice_get}
use Rattle.std.proofs.Common.{count_by, cond, Option, Some, None, option_map}
use Rattle.std.proofs.Common.{IfSome, refl, sym, ap, subst, ◌∙◌, arith}
use Rattle.std.specs.List.{AllByRecursion}
use Rattle.std.proofs.lemmas.List.Sums.{sum_by-cons}
use Rattle.std.proofs.lemmas.Option.{none-some}
use Rattle.rt_lemmas.proofs.Membership.{all_weaker}
use Rattle.rt_ids.specs.Lists.{or_zero, then_from}
use Rattle.rt_ids.specs.Priority.{hardware}
use Rattle.rt_ids.specs.declared.ids.Section.TheVariants as section
use Rattle.rt_ids.specs.declared.limits.TheConstants.{IRQ_NUMBERS}
use Rattle.rt_app.specs.Accepted.{IsAccepted}
use Rattle.rt_app.specs.Ceiling.{ceiling}
use Rattle.rt_app.specs.Handlers.{Service, irq_number}
use Rattle.rt_app.specs.Holding.{storage}
use Rattle.rt_app.specs.Tree.{App}
use Rattle.rt_app.specs.declared.app.Mono.{Mono}
use Rattle.rt_app.proofs.Sound.{accepted_are_sound}
use Rattle.rt_app.proofs.TimerCeilings.{timer_within}
use Rattle.rt_build.specs.Entries.{handler_row, irq_rows}
use Rattle.rt_build.specs.Image.{IsImageOf}
use Rattle.rt_code.specs.Image.{Image}
use Rattle.rt_code.specs.Owning.{is_open}
use Rattle.rt_code.specs.Stack.{words_of}
use Rattle.rt_code.specs.Standing.{Stands, spend_step}
use Rattle.rt_code.specs.declared.image.BodyRow.{BodyRow}
use Rattle.rt_code.specs.declared.image.IrqRow.{IrqRow}
use Rattle.rt_code.specs.declared.instr.Instr.{Instr}
use Rattle.rt_code.specs.declared.instr.Instr.TheVariants as instr
use Rattle.rt_code.specs.declared.instr.Note.{Note}
use Rattle.rt_core.specs.Core.{Core}
use Rattle.rt_core.specs.Priority.{base_value, execution, pick, running_value}
use Rattle.rt_trace.specs.Label.{Label, Arrived, Ticked, Rang, Stepped, items_of}
use Rattle.rt_trace.specs.declared.item.Item.{Item}
use Rattle.rt_laws.specs.Services.{service_at, timer_number}
use Rattle.rt_laws.specs.State.{State}
use Rattle.rt_laws.proofs.Dispatchers.{timer_serves, timer_small}
use Rattle.rt_native_laws.specs.Behaving.{CallsWell, ComesBackWell, GoesWell, IsAsTaken, IsAtCeiling}
use Rattle.rt_native_laws.specs.Behaving.{IsGood, IsHeldOff, ReturnsWell}
use Rattle.rt_native_laws.specs.Moments.{Happening, Moment}
use Rattle.rt_native_laws.specs.Moments.{Taking}
use Rattle.rt_sim.specs.Good.{is_arming}
use Rattle.rt_sim.specs.Inside.Coupling.{configuration_of, job_of}
use Rattle.rt_sim.specs.Inside.PartInvariant.{who, AreOfKind}
use Rattle.rt_sim.proofs.Armed.{armed}
use Rattle.rt_sim.proofs.Choosing.{IsServed, all_served}
use Rattle.rt_sim.proofs.Fitting.{Fits}
use Rattle.rt_native_runs.specs.Laws.{brings_tick}
use Rattle.rt_native_runs.specs.Lying.{LiesWell}
use Rattle.rt_native_runs.proofs.Bases.{base_under, bases_are, bases_of}
use Rattle.rt_native_runs.proofs.Coupled.{Coupled, all_kinds}
use Rattle.rt_native_runs.proofs.Facts.{at_ceiling, at_line, at_return, falls_or_stays, raises_only}
use Rattle.rt_native_runs.proofs.Frames.{coupled_back, coupled_call}
use Rattle.rt_native_runs.proofs.Lines.{alarm_here, no_alarm_here}
use Rattle.rt_native_runs.proofs.Parts.{HaveFrames, IsPlaced}
use Rattle.rt_native_runs.proofs.Steps.{base_after, coupled_return, goes_on, runs}
use Rattle.rt_native_runs.proofs.Filled.{Well, actual}
use Rattle.rt_native_runs.proofs.Refilled.{bases_of_takings}

-- counts, as the definitions have them
abbrev pub ticks_in : List Happening → ℕ
ticks_in [] = 0
ticks_in (happening ∷ more) = cond (brings_tick happening) 1 0 + ticks_in more

pub ticks_counted : (happened : List Happening) → count_by brings_tick happened ≡ ticks_in happened
ticks_counted [] = refl
ticks_counted (happening ∷ more) =
    let one = sum_by-cons (λ h. cond (brings_tick h) 1 0) happening more in
    let rest = ticks_counted more in
    omega (arith, one, rest)

pub armed_items : (n : ℕ) (ls : List Label) → count_by (λ (item : Item). is_arming item.what) (items_of n ls) ≡ armed ls
armed_items n [] = refl
armed_items n (Arrived irq ∷ ls) = let rest = armed_items n ls in omega (arith, rest)
armed_items n (Ticked ∷ ls) = let rest = armed_items n ls in omega (arith, rest)
armed_items n (Rang ∷ ls) = let rest = armed_items n ls in omega (arith, rest)
armed_items n (Stepped None ∷ ls) = let rest = armed_items (suc n) ls in omega (arith, rest)
armed_items n (Stepped (Some w) ∷ ls) =
    let item : Item = record { step = n; what = w } in
    let more = sum_by-cons (λ (item : Item). cond (is_arming item.what) 1 0) item (items_of (suc n) ls) in
    let rest = armed_items (suc n) ls in
    omega (arith, more, rest)

module _ (app : App) (img : Image) (accepted : IsAccepted app) (is_image : IsImageOf app img) (lies : LiesWell img)
  where
    -- the ceiling of the alarm
    abbrev pub alarm_ceiling : ℕ
    alarm_ceiling = hardware app.bits (ceiling app section.Timer)

    module _ (b : State) (n : ℕ) (s : Moment) (well : Well app img accepted is_image lies b n s) (fit : Fits app n)
      where
        x : Coupled app img accepted is_image b n (bases_of_takings s.takings) s.core
        x = actual app img accepted is_image lies b n s well

        line_there : (i : Instr) (told : Option Note) → slice_get img.code s.core.processor.address ≡ Some (i, told)
            → slice_get img.code x.coupling.running.address ≡ Some (i, told)
        line_there i told at =
            subst (λ (d : Core). slice_get img.code d.processor.address ≡ Some (i, told)) x.is at

        ceiling_here : is_open x.coupling.running.held section.Timer ≡ true → IsAtCeiling alarm_ceiling s.core
        ceiling_here opens =
            let at = at_ceiling app img accepted is_image x.coupling x.invariant opens in
            record {
              holds_off = subst (λ (d : Core). execution d ≤ alarm_ceiling) (sym x.is) at.0;
              own = subst (λ (d : Core). alarm_ceiling ≤ running_value d.below) (sym x.is) at.1;
            }

        calls_well : (row from : ℕ) (told : Option Note) → pick img s.core ≡ None
            → slice_get img.code s.core.processor.address ≡ Some (instr.Call row from, told) → (body : BodyRow)
            → slice_get img.bodies row ≡ Some body → CallsWell body from s.core
        calls_well row from told picked at body there =
            let called = coupled_call app img accepted is_image b n
            (bases_of_takings s.takings) s.core x fit row from told
            picked at in
            let placed = lies.placed s.core.processor.address (instr.Call row from) told at in
            let part : HaveFrames img s.core.processor.address s.core.processor.slots None =
            subst (λ o. HaveFrames img s.core.processor.address s.core.processor.slots o) called.caller
            (subst (λ bs. IsPlaced img bs s.core.processor.address s.core.processor.slots s.core.caller) called.below
            well.parts.running.1) in
            record {
              frame = sym part ∙ placed.frame;
              few = placed.few body there;
              arguments = λ k less. let most = placed.arguments body there in omega (arith, most, less);
              slot = placed.slot;
            }

        backs_well : (told : Option Note) → pick img s.core ≡ None
            → slice_get img.code s.core.processor.address ≡ Some (instr.Back, told) → ComesBackWell img s.core
        backs_well told picked at =
            let back = coupled_back app img accepted is_image b n
            (bases_of_takings s.takings) s.core x fit told picked at in
            let part : HaveFrames img s.core.processor.address s.core.processor.slots (Some back.frame) =
            subst (λ o. HaveFrames img s.core.processor.address s.core.processor.slots o) back.caller
            (subst (λ bs. IsPlaced img bs s.core.processor.address s.core.processor.slots s.core.caller) back.below
            well.parts.running.1) in
            record { frame = part.0; caller = ap (λ o. length (words_of o)) back.caller ∙ part.1 }

        returns_well : (told : Option Note) → pick img s.core ≡ None
            → slice_get img.code s.core.processor.address ≡ Some (instr.Ret, told) → ReturnsWell img s
        returns_well told picked at =
            let back = coupled_return app img accepted is_image b n
            (bases_of_takings s.takings) s.core x fit told picked
            at in
            let its = at_return app img accepted is_image x.coupling x.invariant told (line_there instr.Ret told at) in
            let part : HaveFrames img s.core.processor.address s.core.processor.slots None =
            subst (λ o. HaveFrames img s.core.processor.address s.core.processor.slots o) back.caller
            (subst (λ bs. IsPlaced img bs s.core.processor.address s.core.processor.slots s.core.caller) back.below
            well.parts.running.1) in
            let kinds : AllByRecursion (λ q. AreOfKind app img is_image.at.idle (who q) q.held)
            (its.other ∷ its.others) =
            subst (λ ps. AllByRecursion (λ q. AreOfKind app img is_image.at.idle (who q) q.held) ps) its.below
            (all_kinds app img accepted is_image x.coupling x.invariant).1 in
            let base : s.core.processor.basepri ≡ base_under app (map job_of (its.other ∷ its.others)) =
            ap (λ (d : Core). d.processor.basepri) x.is ∙ its.basepri
            ∙ bases_are app img is_image.at.idle accepted.limits.least_bits accepted.limits.most_bits
            (its.other ∷ its.others) kinds in
            let left : bases_of_takings s.takings ≡ bases_of app (map job_of (its.other ∷ its.others)) =
            x.left ∙ ap (λ ps. bases_of app (map job_of ps)) its.below in
            record {
              frame = part;
              base_priority = by s.takings left base;
              primask = ap (λ (d : Core). d.processor.primask) x.is ∙ its.primask;
            }
          where
            by : {b v : ℕ} {bs : List ℕ} (takings : List Taking) → bases_of_takings takings ≡ b ∷ bs → v ≡ b
                → IsAsTaken v takings
            by [] is same = absurd (cc (is))
            by {b = b} (t ∷ takings) is same = let one : t.base_priority ≡ b = cc (is) in same ∙ sym one

        held_off : (mono : Mono) → app.mono ≡ Some mono
            → IsHeldOff alarm_ceiling (timer_number app) img.irqs
        held_off mono is =
            subst (λ rows. IsHeldOff alarm_ceiling (timer_number app) rows) (sym is_image.tables.irqs)
            (all_weaker (IsServed app is_image.at accepted.limits.least_bits accepted.limits.most_bits
            (accepted_are_sound app accepted))
            (λ (row : IrqRow). row.number ≡ timer_number app → IfSome row.handler (λ h. alarm_ceiling ≤ h.value))
            (λ row served same. by row (service_at app row.number) refl served same)
            (irq_rows app is_image.at 0 app.irqs)
            (all_served app is_image.at accepted.limits.least_bits accepted.limits.most_bits
            (accepted_are_sound app accepted)))
          where
            by : (row : IrqRow) (o : Option Service) → service_at app row.number ≡ o
                → row.handler ≡ option_map (handler_row app is_image.at) (service_at app row.number)
                → row.number ≡ timer_number app → IfSome row.handler (λ h. alarm_ceiling ≤ h.value)
            by row None at served same =
                subst (λ o. IfSome o (λ h. alarm_ceiling ≤ h.value))
                (sym (served ∙ ap (option_map (handler_row app is_image.at)) at)) tt
            by row (Some v) at served same =
                let its = timer_serves app accepted mono is v (ap (service_at app) (sym same) ∙ at) in
                let within = timer_within app mono is in
                let low = falls_or_stays app img accepted is_image v.priority (ceiling app section.Timer)
                (let e = its.1 in omega (arith, e, within)) in
                subst (λ o. IfSome o (λ h. alarm_ceiling ≤ h.value))
                (sym (served ∙ ap (option_map (handler_row app is_image.at)) at)) low

        timed : (irq : ℕ) → (storage app).timer ≡ Some irq → (mono : Mono) × (app.mono ≡ Some mono)
        unfolding storage
        timed irq is = by app.mono refl is
          where
            by : (o : Option Mono) → app.mono ≡ o → then_from o (λ mono. irq_number app mono.irq) ≡ Some irq
                → (mono : Mono) × (app.mono ≡ Some mono)
            by None same some = absurd (none-some irq some)
            by (Some mono) same some = (mono, same)

        number_of_timer : (irq : ℕ) → (storage app).timer ≡ Some irq → irq ≡ timer_number app
        unfolding storage
        number_of_timer irq is = ap or_zero (sym is)

        goes_well : (i : Instr) (told : Option Note) → pick img s.core ≡ None
            → slice_get img.code s.core.processor.address ≡ Some (i, told) → GoesWell img alarm_ceiling s i
        goes_well (instr.Raise d v) told picked at =
            subst (λ (e : Core). base_value v ≤ base_value e.processor.basepri) (sym x.is)
            (raises_only app img accepted is_image x.coupling x.invariant d v told
            (line_there (instr.Raise d v) told at))
        goes_well (instr.Post irq) told picked at = lies.placed s.core.processor.address (instr.Post irq) told at
        goes_well (instr.Alarm slot irq) told picked at =
            let line = at_line app img accepted is_image x.coupling x.invariant (instr.Alarm slot irq) told
            (line_there (instr.Alarm slot irq) told at) (λ e. cc (e)) in
            let sets = alarm_here (storage app) img.code x.coupling.running.rows is_image.at.idle
            (who x.coupling.running)
            (spend_step (configuration_of x.coupling.cells x.coupling.queues x.coupling.running))
            (Stands (storage app) img.code x.coupling.running.rows is_image.at.idle (who x.coupling.running) line.steps)
            slot irq told line.fits in
            let placed = lies.placed s.core.processor.address (instr.Alarm slot irq) told at in
            let mono = timed irq sets.0 in
            record {
              timer = placed;
              number = subst (λ k. k < IRQ_NUMBERS) (sym (number_of_timer irq sets.0))
                  (timer_small app accepted mono.0 mono.1);
              held_off = subst (λ k. IsHeldOff alarm_ceiling k img.irqs) (sym (number_of_timer irq sets.0))
                  (held_off mono.0 mono.1);
              at_ceiling = ceiling_here sets.1;
            }
        goes_well instr.NoAlarm told picked at =
            let line = at_line app img accepted is_image x.coupling x.invariant instr.NoAlarm told
            (line_there instr.NoAlarm told at) (λ e. cc (e)) in
            ceiling_here (no_alarm_here (storage app) img.code x.coupling.running.rows is_image.at.idle
            (who x.coupling.running)
            (spend_step (configuration_of x.coupling.cells x.coupling.queues x.coupling.running))
            (Stands (storage app) img.code x.coupling.running.rows is_image.at.idle (who x.coupling.running) line.steps)
            told line.fits)
        goes_well (instr.Call row from) told picked at = calls_well row from told picked at
        goes_well instr.Back told picked at = backs_well told picked at
        goes_well instr.Ret told picked at = returns_well told picked at
        goes_well i told picked at = tt

        pub good : IsGood img alarm_ceiling s
        good = record {
          goes = runs app img accepted is_image b n (bases_of_takings s.takings) s.core x fit;
          no_trap = goes_on app img accepted is_image b n (bases_of_takings s.takings) s.core x fit;
          base_priority = base_after app img accepted is_image b n (bases_of_takings s.takings) s.core x fit;
          frames = let even = well.parts.running.0.0 in let calls = well.parts.running.0.1 in omega
              (arith, even, calls);
          instruction = λ i told at picked. goes_well i told picked at;
        }
