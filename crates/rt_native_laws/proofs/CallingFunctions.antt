-- A handler calls its function of C, as is agreed; and the function's machine instructions lead on.
use Rattle.std.proofs.Common.{◌≡◌, ◌≢◌, ◌∙◌, ℕ, ◌+◌, ◌*◌, ◌≤◌, Bool, true, List, []}
use Rattle.std.proofs.Common.{◌∷◌, Option, Some, None, IfSome, refl, sym, ap, subst, arith}
use Rattle.std.specs.List.{AllByRecursion}
use Rattle.std.specs.Prelude.{if◌then◌else◌, ◌==◌, map}
use Rattle.rt_lemmas.proofs.Membership.{all_at}
use Rattle.rt_code.specs.Image.{Image}
use Rattle.rt_code.specs.declared.image.Handler.{Handler}
use Rattle.rt_code.specs.declared.image.IrqRow.{IrqRow}
use Rattle.rt_core.specs.Core.{Context, Core}
use Rattle.rt_native.specs.Layout.{outside, places, stack_top}
use Rattle.rt_native.specs.Service.{is_called}
use Rattle.rt_native.specs.Target.{Target}
use Rattle.rt_native.specs.declared.outside.Outside.{Outside}
use Rattle.rt_priorities.specs.Agreeing.{AreNested, IsActiveAs}
use Rattle.rt_thumb.specs.Exceptions.{external}
use Rattle.rt_thumb.specs.Machine.{Machine}
use Rattle.rt_thumb.specs.Step.{Program, executed, executing}
use Rattle.rt_thumb.specs.declared.instruction.Instruction.TheVariants as instruction
use Rattle.rt_native_laws.specs.Behaving.{StaysGood}
use Rattle.rt_native_laws.specs.Functions.{IsCalled}
use Rattle.rt_native_laws.specs.GoingInCall.{LeadsOnFrom}
use Rattle.rt_native_laws.specs.InCall.{AtBranch, CallStage, IsInCall, IsOwnCode, Within}
use Rattle.rt_native_laws.specs.InTail.{Debt}
use Rattle.rt_native_laws.specs.Moments.{Happening, Moment}
use Rattle.rt_native_laws.specs.Phases.{Calls, IsInFrame, Phase, call_of, tail_of, viewed}
use Rattle.rt_native_laws.specs.Relating.{IsInPlace, IsWhere, LeadsOn, calls_of, lowest, program_flash}
use Rattle.rt_native_laws.specs.Waiting.{Waiting, others_tail}
use Rattle.rt_native_laws.specs.WithFunctions.{Functions, KeepToTheirs, called_by, interrupt_of}
use Rattle.rt_native_laws.proofs.InCall.{branch_executes, call_goes_on}
use Rattle.rt_native_laws.proofs.Interrupting.{exception_is, none_is_it}
use Rattle.rt_native_laws.proofs.LeadingInCall.{branch_differs, fresh_of_call, in_call}
use Rattle.rt_native_laws.proofs.Recalling.{RestAreOthers, jobs_again}
use Rattle.rt_native_laws.proofs.Tests.{not_equal, same_number}
use Rattle.rt_native_laws.proofs.Viewing.{view_rest}

-- a list of numbers is that of some contexts
all_mapped : (P : ℕ → Type 0) (below : List Context) → AllByRecursion P (map (λ x. external x.irq) below)
    → AllByRecursion (λ x. P (external x.irq)) below
all_mapped P [] h = tt
all_mapped P (x ∷ below) h = (h.0, all_mapped P below h.1)

module _ (img : Image) (target : Target) (p : Program) (there : IsInPlace img target p) (ceiling : ℕ)
    (called : ℕ → Option Machine) (fits : List Happening → Bool) (s : Moment) (m : Machine)
    (stays : StaysGood img target.inputs ceiling fits s) (w : IsWhere img target p ceiling called s m)
    (x : IsInCall (outside img target) (lowest img target p) img (places img target) p w.unpaid w.top m)
    (f : IsInFrame (outside img target) (lowest img target p) img (places img target) p w.unpaid w.top m x)
    (is : w.phase ≡ Calls x f) where
  abbrev at : Outside
  at = outside img target

  abbrev pl : List ℕ
  pl = places img target

  abbrev bottom : ℕ
  bottom = lowest img target p

  abbrev c : Core
  c = w.unpaid

  abbrev own : Option Debt
  own = tail_of at bottom img pl p c w.top m w.phase

  pub irq_is : interrupt_of m.exception ≡ x.irq
  irq_is = omega (arith, x.exception)

  pub is_of : is_called target.calls x.irq ≡ true
  is_of = (fresh_of_call img target p there ceiling called fits s m stays w x f is).3.0

  -- the function's part of the stack is in the handler's frame
  pub room_fits : (functions : Functions) → KeepToTheirs img target functions p
      → functions.room (interrupt_of m.exception) ≤ x.room
  room_fits functions keep =
      let all = all_at (λ (r : IrqRow). is_called target.calls r.number ≡ true
      → IfSome r.handler (λ h. functions.room r.number + 8 ≤ 4 * h.frame)) img.irqs f.place f.row keep.rooms f.found in
      let one : functions.room f.row.number + 8 ≤ 4 * x.handler.frame =
      subst (λ (o : Option Handler). IfSome o (λ h. functions.room f.row.number + 8 ≤ 4 * h.frame)) f.handled
      (all (subst (λ (k : ℕ). is_called target.calls k ≡ true) (sym f.number) is_of)) in
      let same : functions.room f.row.number ≡ functions.room (interrupt_of m.exception) =
      ap functions.room (f.number ∙ sym irq_is) in
      omega (arith, one, same, f.room)

  -- the interrupts below are others
  pub others_below : (below : List Context) → c.below ≡ below → m.exception ≡ external x.irq
      → AllByRecursion (IsActiveAs m) below → AreNested below
      → Waiting at bottom (stack_top img target) ceiling target.inputs (calls_of target called) img pl p
      (others_tail own w.tail) s.takings below c w.top (viewed at bottom img pl p c w.top m w.phase)
      → RestAreOthers at bottom (stack_top img target) ceiling target.inputs target.calls called called img pl p x.irq
      (λ k e. refl) below
  others_below [] e runs values nested jobs = tt
  others_below (y ∷ below) e runs values nested jobs =
      let same : external y.irq ≡ external x.irq =
      sym (exception_is at bottom (stack_top img target) ceiling target.inputs (calls_of target called) img pl p
      (others_tail own w.tail) c w.top (viewed at bottom img pl p c w.top m w.phase) s.takings (y ∷ below) jobs)
      ∙ (ap (λ (z : Machine). z.exception) (view_rest at bottom img pl p c w.top m w.phase) ∙ runs) in
      all_mapped (λ k. k ≢ external x.irq) below
      (subst (λ (i : ℕ). AllByRecursion (λ k. k ≢ i) (map (λ z. external z.irq) below)) same
      (none_is_it m y.irq y.value below values.0.value nested.0 values.1 nested.1))

  -- the states at which functions are called, with a new one
  module _ (now : ℕ → Option Machine) (same : (k : ℕ) → k ≢ x.irq → now (external k) ≡ called (external k))
      (before : x.stage ≡ AtBranch) where
    abbrev recalled : IsWhere img target p ceiling now s m
    recalled = record {
      tail = w.tail;
      of_timer = w.of_timer;
      unpaid = w.unpaid;
      owed = w.owed;
      top = w.top;
      phase = w.phase;
      fresh = (
        w.fresh.0,
        w.fresh.1,
        w.fresh.2,
        subst (λ (q : Phase at bottom img pl p c w.top m). IfSome (call_of at bottom img pl p c w.top m q) (λ call.
            (is_called target.calls call.irq ≡ true) × (call.stage ≡ Within
            → now (external call.irq) ≡ Some call.called)))
            (sym is) (
              (fresh_of_call img target p there ceiling called fits s m stays w x f is).3.0,
              λ e. absurd (branch_differs (sym before ∙ e)),
            ),
      );
      waiting = jobs_again at bottom (stack_top img target) ceiling target.inputs target.calls called now img pl p x.irq
          same (others_tail own w.tail) s.takings c.below c w.top (viewed at bottom img pl p c w.top m w.phase)
          (others_below c.below refl x.exception w.agrees.values w.agrees.nested w.waiting) w.waiting;
      agrees = w.agrees;
      words = w.words;
      placed = w.placed;
      loaded = w.loaded;
      tick = w.tick;
      requests = w.requests;
      alarm = w.alarm;
      cells = w.cells;
      frames = w.frames;
    }

  -- What the BL of its call leads to: the function is called as is agreed.
  pub record LeadsToFunction : Type 0 where
    pub displacement : ℕ
    pub found : p.code m.address ≡ Some (instruction.Call displacement)
    pub next : Machine
    pub no_fault : executed p m ≡ Some next
    pub out : p.code next.address ≡ None
    pub as_agreed : IsCalled bottom x.room x.function next
    pub leads : LeadsOn img target p ceiling (called_by (Some
        (instruction.Call displacement)) None m next called) fits s m
        next

  inside : m.exception ≢ 0
  inside e = omega (arith, sym x.exception ∙ e)

  pub branch_leads_on : x.stage ≡ AtBranch → LeadsToFunction
  branch_leads_on before =
      let y = branch_executes at bottom img pl p c w.top m x there.has.port before in
      let n = y.1 in
      let outside_function = subst (λ (o : CallStage). IsOwnCode o) (sym before) tt in
      let g = call_goes_on at bottom img pl p (program_flash img target p) [] c w.top m n
      (instruction.Call y.0) there.has there.flash x outside_function y.2 in
      let now = called_by (Some (instruction.Call y.0)) None m n called in
      let same : (k : ℕ) → k ≢ x.irq → now (external k) ≡ called (external k) =
      λ k other.
      ap (λ (b : Bool). if b then called (external k) else if external k == m.exception then Some n else called
      (external k))
      (not_equal m.exception 0 inside)
      ∙ ap (λ (b : Bool). if b then Some n else called (external k))
      (not_equal (external k) m.exception (λ e. other (omega (arith, e, x.exception)))) in
      let here : now (external x.irq) ≡ Some n =
      ap (λ (b : Bool). if b then called (external x.irq) else if external x.irq == m.exception then Some n
      else called (external x.irq)) (not_equal m.exception 0 inside)
      ∙ ap (λ (b : Bool). if b then Some n else called (external x.irq))
      (same_number (external x.irq) m.exception (sym x.exception)) in
      let on = subst (LeadsOnFrom at bottom img pl p (program_flash img target p) [] c w.top m n x) before g.leads in
      let out : p.code n.address ≡ None = ap p.code on.1.address ∙ f.elsewhere in
      record {
        displacement = y.0;
        found = y.2.found;
        next = n;
        no_fault = ap (executing p.port m) y.2.found ∙ y.2.does;
        out = out;
        as_agreed = on.1;
        leads = in_call img target p there ceiling now fits s m stays (recalled now same before) x f is
            (instruction.Call y.0) n y.2 g.ours Within n on.0 (omega (arith, on.1.stack)) (λ e. here);
      }
