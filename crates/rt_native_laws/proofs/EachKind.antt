-- Every kind of instruction goes on, from every phase.
use Rattle.std.proofs.Common.{◌≡◌, ◌≢◌, ◌∙◌, ℕ, ◌+◌, ◌/◌, ◌%◌, ◌≤◌, Bool, true, false}
use Rattle.std.proofs.Common.{List, [], ◌∷◌, Option, Some, None, refl, sym, ap, subst, arith, length, ⊎_elim}
use Rattle.std.proofs.lemmas.List.{length-set, get_or-set_other}
use Rattle.std.specs.Prelude.{if◌then◌else◌, ◌==◌, option_map, slice_get, slice_index}
use Rattle.rt_lemmas.proofs.Bools.{and_parts}
use Rattle.rt_code.specs.Image.{Image}
use Rattle.rt_code.specs.Stack.{arguments_fit, interrupted_context, last_slot, words_of}
use Rattle.rt_code.specs.declared.image.BodyRow.{BodyRow}
use Rattle.rt_code.specs.declared.instr.Instr.{Instr}
use Rattle.rt_code.specs.declared.instr.Instr.TheVariants as instr
use Rattle.rt_code.specs.declared.instr.Note.{Note}
use Rattle.rt_code.specs.declared.processor.Trap.TheVariants as trap
use Rattle.rt_core.specs.Core.{Context, Core, stack_in_use}
use Rattle.rt_core.specs.Outcome.{Done, Trapped}
use Rattle.rt_core.specs.Transfer.{back_to, call_fits, call_row, has_room, may_call, outcome_of_return}
use Rattle.rt_native.specs.Frames.{body_words, handler_words}
use Rattle.rt_native.specs.Sequences.{sequence}
use Rattle.rt_native.specs.declared.outside.Outside.{Outside}
use Rattle.rt_native.specs.declared.target.Input.{Input}
use Rattle.rt_thumb.specs.Exceptions.{popped, return_to_handler, return_to_thread, returned}
use Rattle.rt_thumb.specs.Machine.{Machine}
use Rattle.rt_thumb.specs.Step.{Program}
use Rattle.rt_thumb.specs.declared.instruction.Instruction.{Instruction}
use Rattle.rt_trace.specs.declared.item.What.{What}
use Rattle.rt_native_laws.specs.Behaving.{CallsWell, ComesBackWell, GoesWell, ReturnsWell}
use Rattle.rt_native_laws.specs.Doing.{CanCall, IsBody, UnlessTrapped, with_slots}
use Rattle.rt_native_laws.specs.Going.{HasCode, IsNothing, IsOneStep, IsOneStepOrNone, IsPlain, Nothing, OneStep}
use Rattle.rt_native_laws.specs.Going.{StepsBy}
use Rattle.rt_native_laws.specs.EachKind.{BySteps, ByReturn, EachGoes, EachKindGoesOn, HasOneCommit, Silently}
use Rattle.rt_native_laws.specs.InTail.{Debt}
use Rattle.rt_native_laws.specs.Moments.{CameBack, Moment, Taking, instruction_at, last_after, settled_words}
use Rattle.rt_native_laws.specs.Own.{AreSteady, Executes, RunsPrivately}
use Rattle.rt_native_laws.specs.Phases.{AlreadyDone, Calling, Calls, Entering, IsButForWords, IsDone, IsOrdinary, Reads}
use Rattle.rt_native_laws.specs.Phases.{Tails}
use Rattle.rt_native_laws.specs.Phases.{IsNoCall, IsToCome, Phase, ToCome, kept_words}
use Rattle.rt_native_laws.specs.Standing.{HoldsWords, IsLaidOut, StandsFor, caller_words, frames_end}
use Rattle.rt_native_laws.specs.Waiting.{FunctionCalls, Waiting, return_value}
use Rattle.rt_native_laws.proofs.Beginning.{calling_goes, entering_goes, same_words}
use Rattle.rt_native_laws.proofs.Calling.{call_begins}
use Rattle.rt_native_laws.proofs.Deep.{stack_is_no_deeper}
use Rattle.rt_native_laws.proofs.Faultless.{back_has_next, call_has_next, calling_has_next, done_has_next}
use Rattle.rt_native_laws.proofs.Faultless.{entering_has_next, ret_has_next}
use Rattle.rt_native_laws.proofs.Going.{goes_behind, no_call, one_event_is_one_step_or_none, plain_has_next, to_come_at}
use Rattle.rt_native_laws.proofs.Leaving.{back_goes_on, ret_goes_on, same_stack}
use Rattle.rt_native_laws.proofs.Prefixes.{same_some}
use Rattle.rt_native_laws.proofs.Shapes.{back_has_first, plain_has_first, ret_has_first}
use Rattle.rt_native_laws.proofs.Stepping.{after_step}
use Rattle.rt_native_laws.proofs.Tests.{at_most}

-- a frame of machine code's is the model's but for its last word
back_words : (places : List ℕ) (caller : Option (List ℕ)) (d : Core) → d.processor.slots ≡ words_of caller
    → IsButForWords (settled_words CameBack (length d.processor.slots)) d
    (record d { processor = record d.processor { slots = caller_words places caller } })
back_words places None d e = record {
  core = refl;
  long = sym (ap (length {A = ℕ}) e);
  words = λ k l. ap (λ (ws : List ℕ). slice_index ws k) (sym e);
}
back_words places (Some slots) d e = record {
  core = refl;
  long = length-set slots (last_slot slots) _ ∙ sym (ap (length {A = ℕ}) e);
  words = λ k l.
      get_or-set_other slots (last_slot slots) k _ 0 (λ f. omega (arith, f, l, ap (length {A = ℕ}) e))
      ∙ ap (λ (ws : List ℕ). slice_index ws k) (sym e);
}

no_return : (row from : ℕ) → instr.Call row from ≡ instr.Ret → ⊥
no_return row from e = cc

back_is_no_return : instr.Back ≡ instr.Ret → ⊥
back_is_no_return e = cc

-- what a body goes back to
back_frame : (img : Image) (c d : Core) (said : Option What) → StepsBy img instr.Back c d said
    → d.processor.slots ≡ words_of c.caller
back_frame img c d said st =
    after_step img instr.Back c d said st (λ k own. k.processor.slots ≡ words_of c.caller) (by_caller c.caller)
  where
    by_caller : (o : Option (List ℕ)) → UnlessTrapped (back_to c o) (λ k own. k.processor.slots ≡ words_of o)
    by_caller None = tt
    by_caller (Some slots) = refl

-- what a handler returns to
pub record HasContext (c : Core) : Type 0 where
  pub free : c.caller ≡ None
  pub context : Context
  pub others : List Context
  pub below : c.below ≡ context ∷ others

pub return_context : (img : Image) (c d : Core) (said : Option What) → StepsBy img instr.Ret c d said → HasContext c
return_context img c d said st =
    after_step img instr.Ret c d said st (λ k own. HasContext c) (by_parts c.caller c.below refl refl)
  where
    by_parts : (o : Option (List ℕ)) (b : List Context) → c.caller ≡ o → c.below ≡ b
        → UnlessTrapped (outcome_of_return c (interrupted_context o b)) (λ k own. HasContext c)
    by_parts None [] e f = tt
    by_parts None (x ∷ b) e f = record { free = e; context = x; others = b; below = f }
    by_parts (Some slots) [] e f = tt
    by_parts (Some slots) (x ∷ b) e f = tt

-- the body that is called, and its room
record HasBody (img : Image) (row s : ℕ) (c : Core) : Type 0 where
  body : BodyRow
  found : slice_get img.bodies row ≡ Some body
  fits : call_fits img c body s ≡ true

called_body : (img : Image) (row s : ℕ) (c d : Core) (said : Option What) → StepsBy img (instr.Call row s) c d said
    → HasBody img row s c
called_body img row s c d said st =
    after_step img (instr.Call row s) c d said st (λ k own. HasBody img row s c)
    (by_may (may_call c) (by_row (slice_get img.bodies row) refl))
  where
    by_fits : (body : BodyRow) (b : Bool) (after : Core) → slice_get img.bodies row ≡ Some body
        → call_fits img c body s ≡ b
        → UnlessTrapped (if b then Done after None else Trapped c trap.Stack) (λ k own. HasBody img row s c)
    by_fits body true after e f = record { body = body; found = e; fits = f }
    by_fits body false after e f = tt

    by_row : (o : Option BodyRow) → slice_get img.bodies row ≡ o
        → UnlessTrapped (call_row img c o s) (λ k own. HasBody img row s c)
    by_row None e = tt
    by_row (Some body) e = by_fits body (call_fits img c body s) _ e refl

    by_may : (b : Bool) → UnlessTrapped (call_row img c (slice_get img.bodies row) s) (λ k own. HasBody img row s c)
        → UnlessTrapped (if b then call_row img c (slice_get img.bodies row) s else Trapped c trap.Stack)
        (λ k own. HasBody img row s c)
    by_may true h = h
    by_may false h = tt

-- EXC_RETURN is one of two values
link_high : (exception : ℕ) → 0xF0000000 ≤ return_value exception
link_high exception = by_test (exception == 0)
  where
    by_test : (b : Bool) → 0xF0000000 ≤ (if b then return_to_thread else return_to_handler)
    by_test true = omega arith
    by_test false = omega arith

-- in a handler LR has EXC_RETURN, as those who wait will find it
pub link_is_high : (at : Outside) (bottom highest ceiling : ℕ) (inputs : List Input) (calls : FunctionCalls)
    (img : Image) (places : List ℕ) (p : Program) (tail : Option Debt) (c : Core) (top : ℕ) (m : Machine)
    (takings : List Taking) (below : List Context)
    → Waiting at bottom highest ceiling inputs calls img places p tail takings below c top m → m.exception ≢ 0
    → 0xF0000000 ≤ m.register 14
link_is_high at bottom highest ceiling inputs calls img places p tail c top m [] [] jobs inside = absurd (inside jobs.1)
link_is_high at bottom highest ceiling inputs calls img places p tail c top m [] (x ∷ below) jobs inside = absurd jobs
link_is_high at bottom highest ceiling inputs calls img places p tail c top m (taking ∷ takings) [] jobs inside =
    absurd jobs
link_is_high at bottom highest ceiling inputs calls img places p tail c top m (taking ∷ takings)
    (x ∷ below) jobs inside =
    subst (λ (v : ℕ). 0xF0000000 ≤ v) (sym jobs.4) (link_high _)

-- the kinds
data KindOf (i : Instr) : Type 0 where
  Plain : IsPlain i → KindOf i
  IsCall : (row from : ℕ) → i ≡ instr.Call row from → KindOf i
  IsBack : i ≡ instr.Back → KindOf i
  IsRet : i ≡ instr.Ret → KindOf i

kind_of : (img : Image) (ceiling : ℕ) (s : Moment) (i : Instr) → HasOneCommit i → GoesWell img ceiling s i → KindOf i
kind_of img ceiling s (instr.Post irq) one well = Plain well
kind_of img ceiling s (instr.Alarm slot irq) one well = absurd one
kind_of img ceiling s instr.Mark one well = absurd one
kind_of img ceiling s (instr.Call row from) one well = IsCall row from refl
kind_of img ceiling s instr.Back one well = IsBack refl
kind_of img ceiling s instr.Ret one well = IsRet refl
kind_of img ceiling s i one well = Plain tt

module _ (at : Outside) (bottom highest ceiling : ℕ) (inputs : List Input) (calls : FunctionCalls) (img : Image)
    (places : List ℕ)
    (p : Program) (i : Instr) (tail : Option Debt) (s : Moment) (d : Core) (said : Option What) (top : ℕ) (m : Machine)
    (code : HasCode at img places p)
    (laid : IsLaidOut at bottom (length s.core.processor.cells)) (reach : highest ≡ bottom + img.stack_bytes)
    (whole : img.stack_bytes % 4 ≡ 0) (st : StepsBy img i s.core d said) (well : GoesWell img ceiling s i)
    (words : HoldsWords m) where
  abbrev c : Core
  c = s.core

  abbrev Goes : ℕ → Type 0
  Goes kept = (executed : Instruction) × (n : Machine) × Executes p executed m n
      × EachGoes at bottom img places p c top m n kept d said

  abbrev all_words : ℕ
  all_words = length c.processor.slots

  at_it : instruction_at img c ≡ Some i
  at_it = ap (option_map (λ line. line.0)) st.line

  by_step_or_none : (kept : ℕ) (n : Machine) → (i ≡ instr.Ret → ⊥)
      → IsOneStepOrNone at bottom img places p c top m n kept d said
      → EachGoes at bottom img places p c top m n kept d said
  by_step_or_none kept n never (Nothing y) = Silently y
  by_step_or_none kept n never (OneStep y) =
      BySteps d (same_words _ d) (λ e. never (same_some i instr.Ret (sym at_it ∙ e))) y

  same_instruction : (x : IsToCome at bottom img places p c top m) → x.instruction ≡ i
  same_instruction x = ap (λ (y : Instr × Option Note). y.0)
      (same_some (x.instruction, x.note) (i, st.note) (sym x.line ∙ st.line))

  module _ (jobs : Waiting at bottom highest ceiling inputs calls img places p tail s.takings c.below c top m) where
    -- the handler that returns
    record Link : Type 0 where
      inside : m.exception ≢ 0
      high : 0xF0000000 ≤ m.register 14
      link : m.register 13 ≡ top → m.register 14 ≡ return_value (popped m).exception

    link_of : (tail : Option Debt) (takings : List Taking) (x : Context) (below : List Context)
        → Waiting at bottom highest ceiling inputs calls img places p tail takings (x ∷ below) c top m → Link
    link_of tail [] x below waits = absurd waits
    link_of tail (taking ∷ takings) x below
        (aligned, small, runs, active, link, up, next, within, fits, higher, phase, fresh, more) = record {
          inside = λ e. omega (arith, runs, e);
          high = subst (λ (v : ℕ). 0xF0000000 ≤ v) (sym link) (link_high _);
          link = λ e. link ∙ ap (λ (y : Machine). return_value (popped y).exception) (same_stack top m e);
        }

    -- an instruction that is to come
    plain_goes : IsPlain i → IsToCome at bottom img places p c top m → (phase : Phase at bottom img places p c top m)
        → IsOrdinary at bottom img places p c top m phase
        → Goes (kept_words at bottom img places p c top m phase)
    plain_goes plain x phase unread =
        let y = plain_has_next at bottom img places p code i plain c d said st top m x in (
          y.0,
          y.1,
          y.2,
          by_step_or_none _ y.1 (λ e. subst IsPlain e plain)
              (one_event_is_one_step_or_none at bottom img places p i c d said top m y.1 y.0 code laid plain st phase
              unread y.2),
        )

    ret_goes : i ≡ instr.Ret → IsToCome at bottom img places p c top m → Goes all_words
    ret_goes e x =
        let st_now : StepsBy img instr.Ret c d said = subst (λ (j : Instr). StepsBy img j c d said) e st in
        let ends : ReturnsWell img s = subst (GoesWell img ceiling s) e well in
        let there = return_context img c d said st_now in
        let l = link_of tail s.takings there.context there.others
        (subst (λ (b : List Context). Waiting at bottom highest ceiling inputs calls img places p tail s.takings b c
        top m)
        there.below
        jobs) in
        let is = same_instruction x ∙ e in
        let y = ret_has_next at bottom img places p code c top m x is there.free ends.frame l.inside l.high l.link in (
          y.0,
          y.1,
          y.2,
          ⊎_elim
              (λ (z : IsNothing at bottom img places p c top m y.1 all_words). Silently z)
              (λ (z : (m.register 13 ≡ top) × (returned (m.register 14) m ≡ Some y.1)).
              ByReturn (at_it ∙ ap (λ (j : Instr). Some j) e) z.0 z.1)
              (ret_goes_on at bottom img places p c top m y.1 y.0 code x is there.free ends.frame l.inside l.high y.2),
        )

    back_goes : i ≡ instr.Back → IsToCome at bottom img places p c top m → Goes all_words
    back_goes e x =
        let st_now : StepsBy img instr.Back c d said = subst (λ (j : Instr). StepsBy img j c d said) e st in
        let ends : ComesBackWell img c = subst (GoesWell img ceiling s) e well in
        let body : IsBody at bottom img places p c = record { frame = ends.frame; caller = ends.caller } in
        let y = back_has_next at bottom img places p code c top m x d said st_now body in
        let last : instruction_at img c ≡ Some instr.Back = at_it ∙ ap (λ (j : Instr). Some j) e in
        let later = with_slots at bottom img places p (caller_words places c.caller) d in (
          y.0,
          y.1,
          y.2,
          ⊎_elim
              (λ (z : IsNothing at bottom img places p c top m y.1 all_words). Silently z)
              (λ (z : IsOneStep at bottom img places p c top m y.1 later said).
              BySteps later
              (subst (λ (o : Option Instr). IsButForWords (settled_words (last_after img o) (length
              d.processor.slots)) d
              later) (sym last) (back_words places c.caller d (back_frame img c d said st_now)))
              (λ f. back_is_no_return (same_some instr.Back instr.Ret (sym last ∙ f))) z)
              (back_goes_on at bottom img places p c d said top m y.1 y.0 code st_now body words x y.2),
        )

    to_come : KindOf i → (x : IsToCome at bottom img places p c top m) → Goes all_words
    to_come (Plain plain) x = plain_goes plain x (ToCome x) tt
    to_come (IsCall row from e) x = absurd (subst IsNoCall (same_instruction x ∙ e) x.kind)
    to_come (IsBack e) x = back_goes e x
    to_come (IsRet e) x = ret_goes e x

    -- between two instructions
    module _ (x : IsDone at bottom img places p c top m) (here : x.last ≡ m) where
      stands : StandsFor at bottom places c m
      stands = subst (StandsFor at bottom places c) here x.stands

      coming : (y : Instruction) × (ys : List Instruction) × (sequence at img places c.processor.address i ≡ y ∷ ys)
          → IsNoCall i → IsToCome at bottom img places p c top m
      coming first kind =
          (to_come_at at bottom img places p c top m i st.note code first kind st.line laid stands
          (subst (λ (k : Machine). frames_end c k ≡ top) here x.ends)
          (subst (λ (k : Machine). k.is_unsettled ≡ false) here x.settled) (subst HoldsWords here x.words)).0

      call_goes : (row from : ℕ) → i ≡ instr.Call row from → Goes all_words
      call_goes row from e =
          let st_now : StepsBy img (instr.Call row from) c d said =
          subst (λ (j : Instr). StepsBy img j c d said) e st in
          let b = called_body img row from c d said st_now in
          let goes_well : CallsWell b.body from c = subst (GoesWell img ceiling s) e well b.body b.found in
          let deep = stack_is_no_deeper at bottom highest ceiling inputs calls img places p tail s.takings c top m laid
          code.port
          (AlreadyDone x)
          jobs in
          let room = at_most (stack_in_use img c + b.body.frame) (img.stack_bytes / 4)
          (and_parts (arguments_fit c.processor.slots b.body from) (has_room img c b.body.frame) b.fits).1 in
          let can : CanCall at bottom img places p b.body from c m = record {
            frame = goes_well.frame;
            few = goes_well.few;
            arguments = goes_well.arguments;
            slots = goes_well.slot;
            room = omega (arith, deep, room, reach, whole);
          } in
          let y = call_has_next at bottom img places p code c top m row from b.body st_now.note b.found st_now.line
          stands in (
            y.0,
            y.1,
            y.2,
            by_step_or_none all_words y.1 (λ f. no_return row from (sym e ∙ f))
                (call_begins at bottom img places p row from b.body c d said top m y.1 y.0 code laid b.found st_now can
                x y.2),
          )

      between : KindOf i → Goes all_words
      between (Plain plain) =
          plain_goes plain (coming (plain_has_first at img places c.processor.address i plain) (no_call i plain))
          (AlreadyDone x) tt
      between (IsCall row from e) = call_goes row from e
      between (IsBack e) =
          back_goes e (coming (subst (λ (j : Instr). (y : Instruction) × (ys : List Instruction)
          × (sequence at img places c.processor.address j ≡ y ∷ ys)) (sym e)
          (back_has_first (body_words img.bodies c.processor.address))) (subst IsNoCall (sym e) tt))
      between (IsRet e) =
          ret_goes e (coming (subst (λ (j : Instr). (y : Instruction) × (ys : List Instruction)
          × (sequence at img places c.processor.address j ≡ y ∷ ys)) (sym e)
          (ret_has_first (handler_words img.irqs c.processor.address))) (subst IsNoCall (sym e) tt))

    by_left : KindOf i → (x : IsDone at bottom img places p c top m) (left : List Instruction) → AreSteady left
        → RunsPrivately p (x.last.register 13) top left m x.last → Goes all_words
    by_left kind x [] steady run = between x run kind
    by_left kind x (j ∷ js) steady run =
        let y = done_has_next p (x.last.register 13) top j js m x.last run in (
          y.0,
          y.1,
          y.2,
          Silently (goes_behind at bottom img places p code c laid top m y.1 y.0 y.2 x j js steady run),
        )

    by_phase : KindOf i → (phase : Phase at bottom img places p c top m)
        → IsOrdinary at bottom img places p c top m phase
        → Goes (kept_words at bottom img places p c top m phase)
    by_phase kind (ToCome x) unread = to_come kind x
    by_phase kind (AlreadyDone x) unread = by_left kind x x.left x.steady x.completes
    by_phase kind (Entering x) unread =
        let y = entering_has_next at bottom img places p code c top m x in
        (y.0, y.1, y.2, Silently (entering_goes at bottom img places p code c top m y.1 y.0 y.2 x))
    by_phase kind (Reads x) unread = absurd unread
    by_phase kind (Calls x f) unread = absurd unread
    by_phase kind (Tails core x same) unread = absurd unread
    by_phase kind (Calling x) unread =
        let y = calling_has_next at bottom img places p code c top m x in
        (y.0, y.1, y.2, Silently (calling_goes at bottom img places p code c top m y.1 y.0 y.2 x))

pub each_kind_goes_on : EachKindGoesOn
each_kind_goes_on at bottom highest ceiling inputs calls img places p i tail s d said top m code laid reach whole one
    st well
    words phase
    unread jobs =
    by_phase at bottom highest ceiling inputs calls img places p i tail s d said top m code laid reach whole st well
    words
    jobs
    (kind_of img ceiling s i one well) phase unread
