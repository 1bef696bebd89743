-- Native code does what its image does, move after move, where functions of C run beside.
use Rattle.std.proofs.Common.{◌≡◌, ◌∙◌, ℕ, ◌+◌, ◌^◌, ◌<◌, Bool, true, List, [], ◌∷◌, ◌++◌}
use Rattle.std.proofs.Common.{Option, Some, None, refl, sym, ap, subst, arith}
use Rattle.std.proofs.lemmas.List.{append-nil}
use Rattle.std.specs.Prelude.{if◌then◌else◌, ◌==◌}
use Rattle.rt_code.specs.Image.{Image}
use Rattle.rt_native.specs.Layout.{outside, places}
use Rattle.rt_native.specs.Service.{is_called}
use Rattle.rt_native.specs.Target.{Target}
use Rattle.rt_thumb.specs.Exceptions.{systick, taken}
use Rattle.rt_thumb.specs.Machine.{Machine}
use Rattle.rt_thumb.specs.Step as processor
use Rattle.rt_thumb.specs.Step.{Program, executing, going}
use Rattle.rt_thumb.specs.declared.instruction.Instruction.{Instruction}
use Rattle.rt_thumb.specs.declared.instruction.Instruction.TheVariants as instruction
use Rattle.rt_native_laws.specs.Behaving.{HasEvenFrames, StaysGood}
use Rattle.rt_native_laws.specs.Devices.{is_devices}
use Rattle.rt_native_laws.specs.InCall.{AtBranch, AtFall, AtKeep, AtRise, AtTake, CallStage, IsInCall}
use Rattle.rt_native_laws.specs.InCall.{Within as InFunction}
use Rattle.rt_native_laws.specs.Moments.{AllCanHappen, Fills, Happening, Moment, at_reset, moment_after_all}
use Rattle.rt_native_laws.specs.Phases.{AlreadyDone, Calling, Calls, Entering, FunctionCall, IsInFrame, Phase, Reads}
use Rattle.rt_native_laws.specs.Phases.{Tails}
use Rattle.rt_native_laws.specs.Phases.{ToCome, call_of}
use Rattle.rt_native_laws.specs.Relating.{IsInPlace, IsOwnInstruction, IsWhere, call_here, lowest}
use Rattle.rt_native_laws.specs.Simulating.{CanCome, IsBeside, ticks}
use Rattle.rt_native_laws.specs.WithFunctions.{CallsAsAgreed, ExecutesAt, Functions, IsBesideRun, IsFree}
use Rattle.rt_native_laws.specs.WithFunctions.{KeepToTheirs}
use Rattle.rt_native_laws.specs.WithFunctions.{LeadsOutNever, LinkedSimulates, Move, MovesBeside, Own, Runs, RunsOn}
use Rattle.rt_native_laws.specs.WithFunctions.{called_back, called_by, called_going, called_then, inputs_beside}
use Rattle.rt_native_laws.specs.WithFunctions.{ticks_of}
use Rattle.rt_native_laws.proofs.CallingFunctions.{branch_leads_on, irq_is, is_of, room_fits}
use Rattle.rt_native_laws.proofs.Events.{At, Led, Stands, Within, deep, leads, one_if, owed_then}
use Rattle.rt_native_laws.proofs.Events.{some_is_no_none, stays_behind}
use Rattle.rt_native_laws.proofs.Fewer.{can_beside_more, good_beside_fewer}
use Rattle.rt_native_laws.proofs.Following.{at_most_one, filled, start, there_is, where_is}
use Rattle.rt_native_laws.proofs.InTick.{one_is_not_none, tick_goes_on}
use Rattle.rt_native_laws.proofs.LeadingInCall.{fresh_of_call}
use Rattle.rt_native_laws.proofs.Marking.{marks_are_done}
use Rattle.rt_native_laws.proofs.RunningFunctions.{function_leads_on}
use Rattle.rt_native_laws.proofs.Tests.{same_number}

some_is_none : (n : Machine) → None ≡ Some n → ⊥
some_is_none n e = cc

state_is_none : (y : Machine) → Some y ≡ None → ⊥
state_is_none y f = cc

-- functions are as they were, where none is called
module _ (p : Program) (m next : Machine) (called : ℕ → Option Machine) where
  at_thread : m.exception ≡ 0
      → (λ (e : ℕ). if m.exception == 0 then called e else if e == m.exception then Some next else called e) ≡ called
  at_thread is =
      ap (λ (b : Bool). λ (e : ℕ). if b then called e else if e == m.exception then Some next else called e)
      (same_number m.exception 0 is)

  by_instructions : (o b : Option Instruction)
      → ((d : ℕ) → o ≡ Some (instruction.Call d) → b ≡ None → m.exception ≡ 0) → called_by o b m next called ≡ called
  by_instructions (Some (instruction.Call d)) None none = at_thread (none d refl refl)
  by_instructions (Some (instruction.Call d)) (Some i) none = refl
  by_instructions (Some i) b none = refl
  by_instructions None b none = refl

  by_taken : (o : Option ℕ) → (o ≡ None → LeadsOutNever p m next) → called_going o p m next called ≡ called
  by_taken None none = by_instructions (p.code m.address) (p.code next.address) (none refl)
  by_taken (Some e) none = refl

  still_called : (event : processor.Event) → (ExecutesAt p m event → LeadsOutNever p m next)
      → called_then p m event next called ≡ called
  still_called (processor.Arrives irq) none = refl
  still_called (processor.Changes address value) none = refl
  still_called processor.Ticks none = refl
  still_called processor.Goes none = by_taken (taken m) none
  still_called processor.GoesLate none = by_instructions (p.code m.address) (p.code next.address) (none tt)

fall_branch : AtFall ≡ AtBranch → ⊥
fall_branch e = cc

fall_function : AtFall ≡ InFunction → ⊥
fall_function e = cc

keep_branch : AtKeep ≡ AtBranch → ⊥
keep_branch e = cc

keep_function : AtKeep ≡ InFunction → ⊥
keep_function e = cc

take_branch : AtTake ≡ AtBranch → ⊥
take_branch e = cc

take_function : AtTake ≡ InFunction → ⊥
take_function e = cc

rise_branch : AtRise ≡ AtBranch → ⊥
rise_branch e = cc

rise_function : AtRise ≡ InFunction → ⊥
rise_function e = cc

-- one tick at a move at most
own_ticks : (event : processor.Event) (moves : List Move) → ticks_of (Own event ∷ moves) ≡ ticks
    (event ∷ []) + ticks_of moves
own_ticks (processor.Arrives irq) moves = omega arith
own_ticks (processor.Changes address value) moves = omega arith
own_ticks processor.Ticks moves = omega arith
own_ticks processor.Goes moves = omega arith
own_ticks processor.GoesLate moves = omega arith

module _ (img : Image) (target : Target) (functions : Functions) (p : Program) (there : IsInPlace img target p)
    (keep : KeepToTheirs img target functions p) (ceiling : ℕ) (even_frames : HasEvenFrames img) where
  abbrev Where : (ℕ → Option Machine) → (List Happening → Bool) → Moment → Machine → Type 0
  Where called fits s m = Stands img target p there ceiling called even_frames fits s m

  abbrev owed_at : (called : ℕ → Option Machine) (fits : List Happening → Bool) (s : Moment) (m : Machine)
      → Where called fits s m → ℕ
  owed_at called fits s m stands = owed_then img target p there ceiling called even_frames fits s m stands

  -- it stands there, and the time has room for so many ticks
  abbrev InTime : ℕ → (List Happening → Bool) → Moment → Machine → (ℕ → Option Machine) → Type 0
  InTime left fits s m called =
      (stands : Where called fits s m) × (s.core.time + owed_at called fits s m stands + left + 2 < 2 ^ 32)

  -- what an event comes to
  record Moved (left : ℕ) (called : ℕ → Option Machine) (fits : List Happening → Bool) (s : Moment) (m : Machine)
      (event : processor.Event) : Type 0 where
    happened : List Happening
    next : Machine
    beside : IsBeside img target p s happened m event next
    agreed : CallsAsAgreed img target functions p m event next
    later : InTime left (λ more. fits (happened ++ more)) (moment_after_all img s happened) next
        (called_then p m event next called)

  from_led : (left : ℕ) (called : ℕ → Option Machine) (fits : List Happening → Bool) (s : Moment) (m : Machine)
      (event : processor.Event) → Led img target p there ceiling called even_frames left fits s m event
      → Moved left called fits s m event
  from_led left called fits s m event l = record {
    happened = l.happened;
    next = l.next;
    beside = l.beside;
    agreed = λ executes d found out inside. absurd (inside (l.calls_none executes d found out));
    later = subst (InTime left (λ more. fits (l.happened ++ more)) (moment_after_all img s l.happened) l.next)
        (sym (still_called p m l.next called event l.calls_none)) (l.stands, l.bound);
  }

  module _ (left : ℕ) (called : ℕ → Option Machine) (fits : List Happening → Bool) (s : Moment) (m : Machine)
      (stays : StaysGood img target.inputs ceiling fits s) (w : IsWhere img target p ceiling called s m) where
    abbrev ItsPhase : Type 0
    ItsPhase = Phase (outside img target) (lowest img target p) img (places img target) p w.unpaid w.top m

    abbrev ItsCall : Type 0
    ItsCall = IsInCall (outside img target) (lowest img target p) img (places img target) p w.unpaid w.top m

    abbrev InItsFrame : ItsCall → Type 0
    InItsFrame x = IsInFrame (outside img target) (lowest img target p) img (places img target) p w.unpaid w.top m x

    abbrev CallOf : ItsPhase → Option FunctionCall
    CallOf phase = call_of (outside img target) (lowest img target p) img (places img target) p w.unpaid w.top m phase

    -- what is next: an instruction of the program that calls no function, or one that does, or one of a function's
    data WhatIsNext : Type 0 where
      Program_goes : IsOwnInstruction (CallOf w.phase) → WhatIsNext
      Branches : (x : ItsCall) (f : InItsFrame x) → w.phase ≡ Calls x f → x.stage ≡ AtBranch → WhatIsNext
      Function_runs : (x : ItsCall) (f : InItsFrame x) → w.phase ≡ Calls x f → x.stage ≡ InFunction → WhatIsNext

    ours : (phase : ItsPhase) → w.phase ≡ phase → IsOwnInstruction (CallOf phase) → WhatIsNext
    ours phase e own = Program_goes (subst (λ (q : ItsPhase). IsOwnInstruction (CallOf q)) (sym e) own)

    by_stage : (x : ItsCall) (f : InItsFrame x) → w.phase ≡ Calls x f → (stage : CallStage) → x.stage ≡ stage
        → WhatIsNext
    by_stage x f e AtBranch is = Branches x f e is
    by_stage x f e InFunction is = Function_runs x f e is
    by_stage x f e AtFall is =
        ours (Calls x f) e (λ h. fall_branch (sym is ∙ h), λ h. fall_function (sym is ∙ h))
    by_stage x f e AtKeep is =
        ours (Calls x f) e (λ h. keep_branch (sym is ∙ h), λ h. keep_function (sym is ∙ h))
    by_stage x f e AtTake is =
        ours (Calls x f) e (λ h. take_branch (sym is ∙ h), λ h. take_function (sym is ∙ h))
    by_stage x f e AtRise is =
        ours (Calls x f) e (λ h. rise_branch (sym is ∙ h), λ h. rise_function (sym is ∙ h))

    what_is_next : (phase : ItsPhase) → w.phase ≡ phase → WhatIsNext
    what_is_next (Calls x f) e = by_stage x f e x.stage refl
    what_is_next (ToCome x) e = ours (ToCome x) e tt
    what_is_next (AlreadyDone x) e = ours (AlreadyDone x) e tt
    what_is_next (Entering x) e = ours (Entering x) e tt
    what_is_next (Calling x) e = ours (Calling x) e tt
    what_is_next (Reads x) e = ours (Reads x) e tt
    what_is_next (Tails core x same) e = ours (Tails core x same) e tt

    -- a function is called
    branches : taken m ≡ None → (x : ItsCall) (f : InItsFrame x) → w.phase ≡ Calls x f → x.stage ≡ AtBranch
        → s.core.time + one_if (m.is_pending systick) + left + 2 < 2 ^ 32
        → Moved left called fits s m processor.Goes
    branches takes x f is before bound =
        let b = branch_leads_on img target p there ceiling called fits s m stays w x f is before in
        let l = b.leads in
        let now = called_by (Some (instruction.Call b.displacement)) None m b.next called in
        let room = room_fits img target p there ceiling called fits s m stays w x f is functions keep in
        record {
          happened = l.happened;
          next = b.next;
          beside = record {
            no_fault = ap (going p m) takes ∙ b.no_fault;
            can = l.can;
            arrivals = l.arrivals;
            few = l.few;
            words = l.words;
            seen = l.seen;
            deep = (let low = deep img target p there ceiling now even_frames (moment_after_all img s l.happened) b.next
                l.here in omega (arith, low));
          };
          agreed = λ executes d found out inside. (
            subst (λ (k : ℕ). is_called target.calls k ≡ true)
                (sym (irq_is img target p there ceiling called fits s m stays w x f is))
                (is_of img target p there ceiling called fits s m stays w x f is),
            record {
              address = refl;
              stack = b.as_agreed.stack;
              free = omega (arith, b.as_agreed.free, room);
              link = b.as_agreed.link;
              settled = b.as_agreed.settled;
              words = b.as_agreed.words;
            },
          );
          later = subst (InTime left (λ more. fits (l.happened ++ more)) (moment_after_all img s l.happened) b.next)
              (sym (ap (λ (o : Option ℕ). called_going o p m b.next called) takes
              ∙ (ap (λ (o : Option Instruction). called_by o (p.code b.next.address) m b.next called) b.found
              ∙ ap (λ (o : Option Instruction). called_by (Some
              (instruction.Call b.displacement)) o m b.next called) b.out))) (
                At (l.here, λ e. l.marks (ap fits (sym (append-nil l.happened)) ∙ e)),
                omega (arith, bound, l.time, ap one_if l.ticks),
              );
        }

  -- an event leads on, and a function that it calls is called as is agreed
  moved : (left : ℕ) (called : ℕ → Option Machine) (event : processor.Event) (fits : List Happening → Bool) (s : Moment)
      (m : Machine) → StaysGood img target.inputs ceiling fits s → (stands : Where called fits s m) → fits [] ≡ true
      → CanCome target m event → IsFree called m event
      → s.core.time + owed_at called fits s m stands + ticks (event ∷ []) + left + 2 < 2 ^ 32
      → Moved left called fits s m event
  moved left called (processor.Arrives irq) fits s m stays stands fitting can_come is_free bound =
      from_led left called fits s m (processor.Arrives irq) (leads img target p there ceiling called even_frames left
      (processor.Arrives irq) fits s m stays stands fitting can_come tt bound)
  moved left called (processor.Changes address value) fits s m stays stands fitting can_come is_free bound =
      from_led left called fits s m (processor.Changes address value) (leads img target p there ceiling called
      even_frames left (processor.Changes address value) fits s m stays stands fitting can_come tt bound)
  moved left called processor.Ticks fits s m stays stands fitting can_come is_free bound =
      from_led left called fits s m processor.Ticks (leads img target p there ceiling called even_frames left
      processor.Ticks fits s m stays stands fitting can_come tt bound)
  moved left called processor.GoesLate fits s m stays stands fitting can_come is_free bound =
      from_led left called fits s m processor.GoesLate (leads img target p there ceiling called even_frames left
      processor.GoesLate fits s m stays stands fitting can_come tt bound)
  moved left called processor.Goes fits s m stays (Within last here x low) fitting can_come is_free bound =
      from_led left called fits s m processor.Goes (leads img target p there ceiling called even_frames left
      processor.Goes fits s m stays (Within last here x low) fitting can_come (λ takes. tt) bound)
  moved left called processor.Goes fits s m stays (At here) fitting can_come is_free bound = by_taken_here
      (taken m) refl
    where
      goes : (taken m ≡ None → IsOwnInstruction (call_here img target p ceiling called s m here.0))
          → Moved left called fits s m processor.Goes
      goes own =
          from_led left called fits s m processor.Goes (leads img target p there ceiling called even_frames left
          processor.Goes fits s m stays (At here) fitting can_come own bound)

      by_next : taken m ≡ None → WhatIsNext left called fits s m stays here.0
          → Moved left called fits s m processor.Goes
      by_next takes (Program_goes own) = goes (λ e. own)
      by_next takes (Branches x f is before) =
          branches left called fits s m stays here.0 takes x f is before (omega (arith, bound))
      by_next takes (Function_runs x f is within) =
          let under_way = (fresh_of_call img target p there ceiling called fits s m stays here.0 x f is).3.1 within in
          absurd (state_is_none x.called (sym under_way ∙ (sym (ap called x.exception) ∙ is_free takes)))

      by_taken_here : (o : Option ℕ) → taken m ≡ o → Moved left called fits s m processor.Goes
      by_taken_here (Some e) takes = goes (λ none. absurd (some_is_no_none e (sym takes ∙ none)))
      by_taken_here None takes =
          by_next takes (what_is_next left called fits s m stays here.0 here.0.phase refl)

  -- what a machine instruction of a function comes to
  record Ran (left : ℕ) (called : ℕ → Option Machine) (fits : List Happening → Bool) (s : Moment) (m next : Machine)
      : Type 0 where
    happened : List Happening
    beside : IsBesideRun img target functions p s happened m next
    later : InTime left (λ more. fits (happened ++ more)) (moment_after_all img s happened) next
        (called_back (p.code next.address) m.exception called)

  ran : (left : ℕ) (called : ℕ → Option Machine) (fits : List Happening → Bool) (s : Moment) (m next function : Machine)
      → StaysGood img (inputs_beside target functions) ceiling fits s → (stands : Where called fits s m)
      → fits [] ≡ true → called m.exception ≡ Some function → RunsOn img target functions p function m next
      → s.core.time + owed_at called fits s m stands + left + 2 < 2 ^ 32 → Ran left called fits s m next
  ran left called fits s m next function stays_beside (Within last here x low) fitting under_way runs bound =
      let y = tick_goes_on img target p there (is_devices target) m last x in
      absurd (some_is_none y.next (sym (ap (executing p.port m) runs.outside_program) ∙ y.no_fault))
  ran left called fits s m next function stays_beside (At here) fitting under_way runs bound =
      by_next (what_is_next left called fits s m stays here.0 here.0.phase refl)
    where
      stays : StaysGood img target.inputs ceiling fits s
      stays = good_beside_fewer img target.inputs functions.inputs ceiling fits s stays_beside

      by_next : WhatIsNext left called fits s m stays here.0 → Ran left called fits s m next
      by_next (Program_goes own) =
          let l = leads img target p there ceiling called even_frames left processor.Goes fits s m stays
          (At here) fitting tt
          (λ e. own) (omega (arith, bound)) in
          absurd (some_is_none l.next
          (sym (ap (going p m) runs.none_taken ∙ ap (executing p.port m) runs.outside_program) ∙ l.beside.no_fault))
      by_next (Branches x f is before) =
          let b = branch_leads_on img target p there ceiling called fits s m stays here.0 x f is before in
          absurd (one_is_not_none (instruction.Call b.displacement) (sym b.found ∙ runs.outside_program))
      by_next (Function_runs x f is within) =
          let y = function_leads_on img target functions p there keep ceiling called fits s m stays_beside here.0 x f is
          within function next under_way runs in
          let now = called_back (p.code next.address) m.exception called in
          record {
            happened = y.happened;
            beside = record {
              can = y.can;
              arrivals = y.arrivals;
              few = y.few;
              words = y.from;
              seen = y.seen;
              deep = (let low = deep img target p there ceiling now even_frames (moment_after_all img s y.happened) next
                  y.there_then in omega (arith, low));
            };
            later = (
              At (y.there_then, λ e. y.marks (ap fits (sym (append-nil y.happened)) ∙ e)),
              omega (arith, bound, y.time, ap one_if y.ticks),
            );
          }

  -- from where the processor stands it follows, where the time has room for all ticks
  pub follow_moves : (moves : List Move) (called : ℕ → Option Machine) (fits : List Happening
      → Bool) (s : Moment) (m : Machine)
      → StaysGood img (inputs_beside target functions) ceiling fits s → (stands : Where called fits s m)
      → s.core.time + owed_at called fits s m stands + ticks_of moves + 2 < 2 ^ 32
      → MovesBeside img target functions p fits called s m moves
  follow_moves [] called fits s m stays stands bound = tt
  follow_moves (Own event ∷ moves) called fits s m stays stands bound = λ fitting can_come is_free.
      let y = moved (ticks_of moves) called event fits s m
      (good_beside_fewer img target.inputs functions.inputs ceiling fits s stays) stands fitting can_come is_free
      (omega (arith, bound, own_ticks event moves)) in (
        y.happened,
        y.next,
        y.beside,
        y.agreed,
        follow_moves moves (called_then p m event y.next called) (λ more. fits (y.happened ++ more))
            (moment_after_all img s y.happened) y.next
            (stays_behind img (inputs_beside target functions) ceiling fits s y.happened
            (can_beside_more img target.inputs functions.inputs s y.happened y.beside.can) stays) y.later.0 y.later.1,
      )
  follow_moves (Runs next ∷ moves) called fits s m stays stands bound = λ fitting function under_way runs.
      let y = ran (ticks_of moves) called fits s m next function stays stands fitting under_way runs
      (omega (arith, bound)) in (
        y.happened,
        y.beside,
        follow_moves moves (called_back (p.code next.address) m.exception called) (λ more. fits (y.happened ++ more))
            (moment_after_all img s y.happened) next
            (stays_behind img (inputs_beside target functions) ceiling fits s y.happened y.beside.can stays) y.later.0
            y.later.1,
      )

pub linked_simulates : LinkedSimulates
linked_simulates img target functions p fits words m moves image well linked stands keep few =
    let there = there_is img target p words m image linked stands in
    let ceiling = well.ceiling in
    let called : ℕ → Option Machine = λ e. None in
    let start_here = start img target p words m image linked stands in
    let fill = filled img target p words m image linked stands in
    let fewer = good_beside_fewer img target.inputs functions.inputs ceiling fits (at_reset img) well.moments in
    let stays = stays_behind img target.inputs ceiling fits (at_reset img) (Fills words ∷ []) (fill, tt) fewer in
    let marked = marks_are_done img target p there ceiling called (λ more. fits (Fills words ∷ more)) start_here m stays
    (where_is img target p words m image linked stands ceiling called) in
    let first = Fills words ∷ marked.happened in
    let can : AllCanHappen img target.inputs (at_reset img) first = (fill, marked.can) in
    record {
      first = first;
      can = can;
      arrivals = marked.arrivals;
      unseen = marked.seen;
      follows = follow_moves img target functions p there keep ceiling well.frames moves called
          (λ more. fits (first ++ more)) (moment_after_all img (at_reset img) first) m
          (stays_behind img (inputs_beside target functions) ceiling fits (at_reset img) first
          (can_beside_more img target.inputs functions.inputs (at_reset img) first can) well.moments)
          (At (marked.here, λ f. marked.marks (ap fits (sym (append-nil first)) ∙ f)))
          (omega (arith, few, marked.time, at_most_one (m.is_pending systick)));
    }
