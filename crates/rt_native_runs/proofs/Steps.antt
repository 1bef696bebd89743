-- A coupled core is coupled behind its steps: an instruction that asks for no frame, and a return.
use Rattle.std.proofs.Common.{◌≡◌, ℕ, suc, ◌+◌, ◌^◌, ◌<◌, false, List, [], ◌∷◌, length, drop, slice_get, Option}
use Rattle.std.proofs.Common.{Some, None, refl, sym, ap, subst, ◌∙◌, arith}
use Rattle.rt_app.specs.Accepted.{IsAccepted}
use Rattle.rt_app.specs.Tree.{App}
use Rattle.rt_build.specs.Image.{IsImageOf}
use Rattle.rt_code.specs.Effect.{effect}
use Rattle.rt_code.specs.Image.{Image}
use Rattle.rt_code.specs.Stack.{interrupted_context}
use Rattle.rt_code.specs.declared.instr.Instr.{Instr}
use Rattle.rt_code.specs.declared.instr.Instr.TheVariants as instr
use Rattle.rt_code.specs.declared.instr.Note.{Note}
use Rattle.rt_core.specs.Core.{Core, Context}
use Rattle.rt_core.specs.Leading.{in_context}
use Rattle.rt_core.specs.Outcome.{settle}
use Rattle.rt_core.specs.Priority.{pick}
use Rattle.rt_core.specs.Stepping.{go_on, step}
use Rattle.rt_core.specs.Transfer.{outcome_of_return}
use Rattle.rt_core.proofs.Happening.{steps_by_cause}
use Rattle.rt_core.proofs.Keeping.{step_keeps_time}
use Rattle.rt_trace.specs.Label.{Stepped}
use Rattle.rt_trace.specs.declared.item.What.{What}
use Rattle.rt_trace.specs.declared.item.What.TheVariants as what
use Rattle.rt_laws.specs.Allowed.{May, after}
use Rattle.rt_laws.specs.State.{State}
use Rattle.rt_sim.specs.Inside.Agrees.{StepsBoth}
use Rattle.rt_sim.specs.Inside.Coupling.{Coupling, jobs_of, whereabouts_of}
use Rattle.rt_sim.specs.Inside.States.{core_of, state_of}
use Rattle.rt_sim.proofs.Armed.{arming_in}
use Rattle.rt_sim.proofs.Fitting.{Fits, FitIn}
use Rattle.rt_sim.proofs.Reached.{steps_both}
use Rattle.rt_native_runs.proofs.Bases.{base_small}
use Rattle.rt_native_runs.proofs.Coupled.{Coupled, base_is, contexts_long, coupled_behind, left_stays, left_falls}
use Rattle.rt_native_runs.proofs.Facts.{AtReturn, at_return}
use Rattle.rt_native_runs.proofs.Parts.{GoesTo, goes_to}
use Rattle.rt_native_runs.proofs.Sorts.{IsOther}

module _ (app : App) (img : Image) (accepted : IsAccepted app) (is_image : IsImageOf app img) where
  module _ (s : State) (n : ℕ) (bases : List ℕ) (c : Core) (x : Coupled app img accepted is_image s n bases c)
      (fit : Fits app n) where
    fit_in : FitIn app x.coupling
    fit_in mono is = let most = fit mono is in omega (arith, most, x.few)

    pub both : StepsBoth app img is_image.at.idle (core_of app.bits x.coupling) (state_of x.coupling)
        (whereabouts_of x.coupling)
    both = steps_both app img accepted is_image x.coupling x.invariant x.well.queued fit_in

    -- Baker's machine may do it too
    pub may : May app s (Stepped (step img c).1)
    may = subst (λ t. May app t (Stepped (step img c).1)) (sym x.state)
        (subst (λ o. May app (state_of x.coupling) (Stepped o))
        (sym (ap (λ (d : Core). (step img d).1) x.is ∙ ap (λ (r : Core × Option What). r.1) both.is)) both.may)

    pub goes_on : (step img c).0.stopped ≡ false
    goes_on = ap (λ (d : Core). (step img d).0.stopped) x.is ∙ ap (λ (r : Core × Option What). r.0.stopped) both.is
        ∙ ap (λ (d : Core). d.stopped) both.agrees.core

    pub runs : c.stopped ≡ false
    runs = ap (λ (d : Core). d.stopped) x.is

    pub core_steps : (step img c).0 ≡ core_of app.bits both.agrees.coupling
    core_steps = ap (λ (d : Core). (step img d).0) x.is ∙ ap (λ (r : Core × Option What). r.0) both.is
        ∙ both.agrees.core

    -- BASEPRI has eight bits then
    pub base_after : (step img c).0.processor.basepri < 2 ^ 8
    base_after =
        let small = base_small app img is_image.at.idle accepted.limits.least_bits accepted.limits.most_bits
        (jobs_of both.agrees.coupling.running both.agrees.coupling.below) in
        let is = ap (λ (d : Core). d.processor.basepri) core_steps
        ∙ base_is app img accepted is_image both.agrees.coupling both.agrees.invariant in
        omega (arith, small, is)

    -- whatever coupling has the state that is behind what was shown, its time is as before
    pub time_stays : (o : Coupling) → after app (state_of x.coupling) (Stepped both.shown) ≡ state_of o
        → o.time ≡ x.coupling.time
    time_stays o state =
        ap (λ (s : State). s.time) (sym state) ∙ ap (λ (s : State). s.time) both.agrees.state
        ∙ ap (λ (d : Core). d.time) (sym both.agrees.core)
        ∙ ap (λ (r : Core × Option What). r.0.time) (sym both.is)
        ∙ step_keeps_time img (core_of app.bits x.coupling)

    deep_before : length c.below ≡ length x.coupling.below
    deep_before = ap (λ (d : Core). length d.below) x.is ∙ contexts_long app.bits x.coupling.below _ _

    deep_after : length (step img c).0.below ≡ length both.agrees.coupling.below
    deep_after = ap (λ (d : Core). length d.below) core_steps ∙ contexts_long app.bits both.agrees.coupling.below _ _

    -- an instruction that asks for no frame
    pub coupled_plain : (i : Instr) (told : Option Note) → pick img c ≡ None
        → slice_get img.code c.processor.address ≡ Some (i, told) → IsOther i
        → Coupled app img accepted is_image (after app s (Stepped (step img c).1)) (n + arming_in (step img c).1) bases
        (step img c).0
    coupled_plain i told picked at other =
        let goes : GoesTo c (step img c).0 i = goes_to img c i told runs picked at other goes_on in
        let same : length both.agrees.coupling.below ≡ length x.coupling.below =
        sym deep_after ∙ ap length goes.below ∙ deep_before in
        coupled_behind app img accepted is_image s n bases c x both.core both.shown both.is both.may
        both.agrees.coupling
        both.agrees.invariant both.agrees.state (time_stays both.agrees.coupling both.agrees.state) (step img c).0
        core_steps bases
        (left_stays app img accepted is_image s n bases c x both.core both.shown both.is both.may both.agrees.coupling
        both.agrees.invariant both.agrees.state (time_stays both.agrees.coupling both.agrees.state) same)

    -- what a return leads to
    pub record Returned : Type 0 where
      pub first : Context
      pub others : List Context
      pub below : c.below ≡ first ∷ others
      pub caller : c.caller ≡ None
      pub is : step img c ≡ (in_context c first others, Some (what.Ret first.irq))
      pub behind : Coupled app img accepted is_image (after app s (Stepped (step img c).1)) (n + arming_in
          (step img c).1)
          (drop 1 bases) (step img c).0

    pub coupled_return : (told : Option Note) → pick img c ≡ None
        → slice_get img.code c.processor.address ≡ Some (instr.Ret, told) → Returned
    coupled_return told picked at = by c.below refl
      where
        its : AtReturn app img accepted is_image x.coupling told
        its = at_return app img accepted is_image x.coupling x.invariant told
            (subst (λ (d : Core). slice_get img.code d.processor.address ≡ Some (instr.Ret, told)) x.is at)

        caller : c.caller ≡ None
        caller = ap (λ (d : Core). d.caller) x.is ∙ its.caller

        by : (bs : List Context) → c.below ≡ bs → Returned
        by [] is =
            absurd (let none = ap length is in let some = ap length its.below in
            omega (arith, none, some, deep_before))
        by (first ∷ others) is =
            let stepped : step img c ≡ (in_context c first others, Some (what.Ret first.irq)) =
            steps_by_cause.line img c (instr.Ret, told) runs picked at
            ∙ ap (λ t. settle (go_on img c t (effect instr.Ret c.time c.processor))) its.plain
            ∙ ap (λ o. settle (outcome_of_return c (interrupted_context o c.below))) caller
            ∙ ap (λ bs. settle (outcome_of_return c (interrupted_context None bs))) is in
            let fewer : suc (length both.agrees.coupling.below) ≡ length x.coupling.below =
            ap suc (sym deep_after ∙ ap (λ (r : Core × Option What). length r.0.below) stepped)
            ∙ sym (ap length is) ∙ deep_before in
            record {
              first = first;
              others = others;
              below = is;
              caller = caller;
              is = stepped;
              behind = coupled_behind app img accepted is_image s n bases c x both.core both.shown both.is both.may
                  both.agrees.coupling both.agrees.invariant both.agrees.state
                  (time_stays both.agrees.coupling both.agrees.state) (step img c).0 core_steps (drop 1 bases)
                  (left_falls app img accepted is_image s n bases c x both.core both.shown both.is both.may
                  both.agrees.coupling both.agrees.invariant both.agrees.state
                  (time_stays both.agrees.coupling both.agrees.state) fewer);
            }
