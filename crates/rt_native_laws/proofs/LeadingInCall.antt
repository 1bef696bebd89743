-- A job that calls a function of C goes on: before and behind the function, at its call, and within it.
use Rattle.std.proofs.Common.{◌≡◌, ◌≢◌, ◌∙◌, ℕ, ◌+◌, ◌*◌, ◌/◌, ◌%◌, ◌^◌, ◌<◌, ◌≤◌, Bool, List, [], ◌++◌}
use Rattle.std.proofs.Common.{true, Option, Some, None, refl, sym, ap, subst, arith, length, ⊎_elim}
use Rattle.std.proofs.lemmas.Bool.{cases_eq}
use Rattle.std.specs.Prelude.{reverse}
use Rattle.rt_code.specs.Image.{Image}
use Rattle.rt_core.specs.Core.{Core}
use Rattle.rt_native.specs.Layout.{outside, places, stack_top}
use Rattle.rt_native.specs.Service.{is_called, timer_irq}
use Rattle.rt_native.specs.Target.{Target}
use Rattle.rt_native.specs.declared.outside.Outside.{Outside}
use Rattle.rt_native.specs.declared.target.Input.{Input}
use Rattle.rt_thumb.specs.Exceptions.{external, systick}
use Rattle.rt_thumb.specs.Machine.{Machine, Returned, Seen}
use Rattle.rt_thumb.specs.Step.{Program, executed, executing}
use Rattle.rt_thumb.specs.declared.instruction.Instruction.{Instruction}
use Rattle.rt_native_laws.specs.Behaving.{StaysGood}
use Rattle.rt_native_laws.specs.Functions.{LeavesOurs, OfFlash, OfStack, OfSystem}
use Rattle.rt_native_laws.specs.GoingInCall.{GoesOnIn, LeadsOnFrom}
use Rattle.rt_native_laws.specs.InCall.{AtBranch, AtFall, AtKeep, AtRise, AtTake, CallStage, IsAtStage, IsInCall}
use Rattle.rt_native_laws.specs.InCall.{IsOwnCode, PreservesRegisters, Within}
use Rattle.rt_native_laws.specs.Inputs.{Enters, IsAtInputs, Reads as ReadsMore}
use Rattle.rt_native_laws.specs.InTail.{Debt, paid}
use Rattle.rt_native_laws.specs.Moments.{Happening, HasJustRead, IsTaken, Moment, settled_words, with_core}
use Rattle.rt_native_laws.specs.Own.{Executes}
use Rattle.rt_native_laws.specs.Phases.{Calls, Entering, IsInFrame, Phase, Reads, tail_of, viewed}
use Rattle.rt_native_laws.specs.Relating.{CallsNone, IsAlarmOf, IsInPlace, IsWhere, LeadsOn, calls_of, lowest}
use Rattle.rt_native_laws.specs.Relating.{program_flash}
use Rattle.rt_native_laws.specs.Simulating.{compared}
use Rattle.rt_native_laws.specs.Standing.{HoldsWords}
use Rattle.rt_native_laws.specs.Waiting.{IsFresh, KeepsTail, Waiting, others_tail}
use Rattle.rt_native_laws.proofs.Above.{words_stay}
use Rattle.rt_native_laws.proofs.Branching.{not_longer}
use Rattle.rt_native_laws.proofs.CallKept.{frame_again}
use Rattle.rt_native_laws.proofs.Even.{goes_to_even}
use Rattle.rt_native_laws.proofs.InCall.{call_goes_on, call_is_no_fault, is_no_branch}
use Rattle.rt_native_laws.proofs.Leading.{none_settled}
use Rattle.rt_native_laws.proofs.Marking.{marks_are_done}
use Rattle.rt_native_laws.proofs.Relating.{KeepsService, in_no_tail, is_where_by}
use Rattle.rt_native_laws.proofs.Tails.{tail_same}
use Rattle.rt_native_laws.proofs.Unpaid.{owing}
use Rattle.rt_native_laws.proofs.Viewing.{views_keep}

-- the function does not run
own_of : (stage : CallStage) → stage ≢ Within → IsOwnCode stage
own_of AtFall other = tt
own_of AtKeep other = tt
own_of AtBranch other = tt
own_of Within other = absurd (other refl)
own_of AtTake other = tt
own_of AtRise other = tt

-- SP is a multiple of 4 where the function does not run
stage_aligned : (begins top link room : ℕ) (called m : Machine) (stage : CallStage) → stage ≢ Within
    → IsAtStage begins top link room called m stage → top % 8 ≡ 0 → 8 ≤ top → m.register 13 % 4 ≡ 0
stage_aligned begins top link room called m AtFall other t eights deep = omega (arith, t.1, eights)
stage_aligned begins top link room called m AtKeep other t eights deep = omega (arith, t.1, eights, deep)
stage_aligned begins top link room called m AtBranch other t eights deep = omega (arith, t.1, eights, deep)
stage_aligned begins top link room called m Within other t eights deep = absurd (other refl)
stage_aligned begins top link room called m AtTake other t eights deep = omega (arith, t.1, eights, deep)
stage_aligned begins top link room called m AtRise other t eights deep = omega (arith, t.1, eights, deep)

keep_differs : AtKeep ≡ Within → ⊥
keep_differs e = cc

pub branch_differs : AtBranch ≡ Within → ⊥
branch_differs e = cc

rise_differs : AtRise ≡ Within → ⊥
rise_differs e = cc

-- What is left to others leaves the system's registers and the vector table.
pub service_left : (img : Image) (target : Target) (p : Program) (there : IsInPlace img target p) (written : List ℕ)
    (top : ℕ) (m n : Machine) → target.flash.address % 4 ≡ 0
    → LeavesOurs (outside img target) (program_flash img target p) written top m n → KeepsService img target p there m n
service_left img target p there written top m n aligned ours = record {
  system = λ a h f. ours.memory (a / 4) (OfSystem (omega (arith, h)) (omega (arith, f)));
  vectors = λ k l.
      ours.memory ((target.flash.address + 4 * k) / 4)
      (OfFlash (omega (arith, aligned)) (omega (arith, aligned, there.table k l)));
}

module _ (img : Image) (target : Target) (p : Program) (there : IsInPlace img target p) (ceiling : ℕ)
    (called : ℕ → Option Machine) (fits : List Happening → Bool) (s : Moment) (m : Machine)
    (stays : StaysGood img target.inputs ceiling fits s) (w : IsWhere img target p ceiling called s m)
    (x : IsInCall (outside img target) (lowest img target p) img (places img target) p w.unpaid w.top m)
    (f : IsInFrame (outside img target) (lowest img target p) img (places img target) p w.unpaid w.top m x)
    (is : w.phase ≡ Calls x f) where
  abbrev at : Outside
  at = outside img target

  abbrev pl : List ℕ
  pl = places img target

  abbrev bottom : ℕ
  bottom = lowest img target p

  abbrev c : Core
  c = w.unpaid

  abbrev Own : (k : Core) (y : Machine) → Phase at bottom img pl p k w.top y → Option Debt
  Own k y phase = tail_of at bottom img pl p k w.top y phase

  abbrev View : (k : Core) (y : Machine) → Phase at bottom img pl p k w.top y → Machine
  View k y phase = viewed at bottom img pl p k w.top y phase

  abbrev Fresh : (ℕ → Option Machine) → (k : Core) (y : Machine) → Phase at bottom img pl p k w.top y → Type 0
  Fresh now k y phase =
      IsFresh at bottom (stack_top img target) ceiling target.inputs (calls_of target now) img pl p w.tail s.last k
      w.top y phase

  -- who waits, by the functions that are under way
  abbrev pub Jobs : (ℕ → Option Machine) → Type 0
  Jobs now =
      Waiting at bottom (stack_top img target) ceiling target.inputs (calls_of target now) img pl p
      (others_tail (Own c m w.phase) w.tail) s.takings c.below c w.top (View c m w.phase)

  pub fresh_of_call : Fresh called c m (Calls x f)
  fresh_of_call = subst (Fresh called c m) is w.fresh

  pub first : IsTaken s.last
  first = fresh_of_call.1.0

  pub settled_first : (words : ℕ) → settled_words s.last words ≤ 0
  settled_first words = none_settled s.last words first

  flash_aligned : target.flash.address % 4 ≡ 0
  flash_aligned = omega (arith, w.loaded.loaded.region.0)

  -- it leads to a core with as many cells, and to a phase of it that is seen as before
  module _ (written : List ℕ) (n : Machine) (ours : LeavesOurs at (program_flash img target p) written w.top m n)
      (now : ℕ → Option Machine) (recall : Jobs called → Jobs now) (d : Core)
      (phase : Phase at bottom img pl p d w.top n) (fresh : Fresh now d n phase)
      (no_tail : Own d n phase ≡ None)
      (registers : (k : ℕ) → 4 ≤ k → k ≢ 12 → k ≢ 13 → (View d n phase).register k ≡ x.registers k)
      (words : HoldsWords n) (placed : (n.address % 2 ≡ 0) × (n.address < 2 ^ 32))
      (same : d ≡ record c { processor = record c.processor { cells = d.processor.cells } })
      (as_many : length d.processor.cells ≡ length c.processor.cells) where
    keeps_tail : KeepsTail w.tail w.tail c d
    keeps_tail =
        tail_same w.tail c d (owing img target p ceiling called s m w) (ap (λ (k : Core). k.time) same)
        (ap (λ (k : Core). k.alarm) same) (ap (λ (k : Core). k.pending) same)

    pub where_called : IsWhere img target p ceiling now (with_core s (paid w.tail d)) n
    where_called =
        is_where_by img target p there ceiling called now s m n w recall w.tail w.of_timer d s.last phase fresh
        (in_no_tail (Own c m w.phase) (Own d n phase) w.tail c d (ap (Own c m) is) no_tail keeps_tail)
        (views_keep at bottom img pl p c d w.top w.top m n w.phase phase w.top
        (λ k h g i. registers k h g i ∙ sym (ap (λ (q : Phase at bottom img pl p c w.top m).
        (View c m q).register k) is))
        (λ k h g. ours.memory k (OfStack h g)) ours.exception ours.active)
        (service_left img target p there written w.top m n flash_aligned ours) words placed
        (ap (λ (k : Core). k.below) same) as_many (ap (λ (k : Core). length k.pending) same)
        (ap (λ (k : Core). k.stopped) same)
        (subst (λ (k : Core). IsAlarmOf img k.alarm) (sym same) w.alarm)

  -- an instruction of the program
  module _ (j : Instruction) (n : Machine) (exec : Executes p j m n)
      (ours : LeavesOurs at (program_flash img target p) [] w.top m n) where
    placed_then : (n.address % 2 ≡ 0) × (n.address < 2 ^ 32)
    placed_then =
        goes_to_even p.port m n w.placed.0 (there.has.low m.address j exec.found) w.words j
        (there.has.encodable m.address j exec.found) exec.does

    leads : (here : IsWhere img target p ceiling called s n) → LeadsOn img target p ceiling called fits s m n
    leads here =
        let marked = marks_are_done img target p there ceiling called fits s n stays here in
        record {
          happened = marked.happened;
          can = marked.can;
          arrivals = marked.arrivals;
          few = omega (arith, marked.few);
          words = marked.words m;
          seen = ap (compared (timer_irq img.code))
              (ours.seen ∙ sym (ap (λ (xs : List Seen). reverse xs ++ m.seen) marked.seen));
          ticks = ours.requests systick;
          time = marked.time;
          here = marked.here;
          marks = marked.marks;
        }

    same_place : IsWhere img target p ceiling called (with_core s (paid w.tail c)) n
        → IsWhere img target p ceiling called s n
    same_place here = subst (λ (k : Core). IsWhere img target p ceiling called (with_core s k) n) (sym w.owed) here

    aligned_then : (stage : CallStage) (at_call : Machine)
        → (g : GoesOnIn at bottom img pl p w.top c c m n x stage at_call) → (stage ≡ Within → ⊥)
        → n.register 13 % 4 ≡ 0
    aligned_then stage at_call g differs =
        stage_aligned g.call.begins w.top (g.call.registers 14) g.call.room g.call.called n g.call.stage
        (λ e. differs (sym g.at_stage ∙ e)) g.call.there x.eights (omega (arith, x.for_function))

    -- still in the call
    pub in_call : (stage : CallStage) (at_call : Machine)
        → (g : GoesOnIn at bottom img pl p w.top c c m n x stage at_call)
        → n.register 13 % 4 ≡ 0
        → (stage ≡ Within → called (external x.irq) ≡ Some at_call) → LeadsOn img target p ceiling called fits s m n
    in_call stage at_call g aligned function =
        let again = frame_again at bottom img pl p c c w.top m n x stage at_call g f aligned in
        leads (same_place (where_called [] n ours called (λ jobs. jobs) c (Calls g.call again) (
          settled_first (length c.processor.slots),
          (first, g.declared ∙ fresh_of_call.1.1),
          tt,
          (
            subst (λ (k : ℕ). is_called target.calls k ≡ true) (sym g.irq) fresh_of_call.3.0,
            λ e. ap (λ (k : ℕ). called (external k)) g.irq ∙ (function (sym g.at_stage ∙ e)
                ∙ sym (ap (λ (y : Machine). Some y) g.called_at)),
          ),
        ) refl (λ k h i j. ap (λ (r : ℕ → ℕ). r k) g.registers) g.call.words placed_then refl refl))

    given : PreservesRegisters x.registers n → n.register 14 ≡ x.registers 14 → (k : ℕ) → 4 ≤ k → k ≢ 12 → k ≢ 13
        → n.register k ≡ x.registers k
    given preserved link k h g i =
        ⊎_elim
        (λ (e : k ≡ 14). ap n.register e ∙ (link ∙ sym (ap x.registers e)))
        (λ (e : k ≢ 14). preserved k h g i e) (cases_eq k 14)

    -- behind it
    behind : IsAtInputs at bottom img pl p x.declared c w.top n → PreservesRegisters x.registers n
        → n.register 14 ≡ x.registers 14 → HoldsWords n → LeadsOn img target p ceiling called fits s m n
    behind (ReadsMore y same) preserved link words =
        leads (same_place (where_called [] n ours called (λ jobs. jobs) c (Reads y) (
          settled_first (length c.processor.slots),
          (
            subst (λ (r : Option (Input × ℕ)). HasJustRead r s.last)
                (sym (ap (λ (r : List Input × Option (Input × ℕ)). r.1) same)) first,
            ap (λ (r : List Input × Option (Input × ℕ)). r.0) same ∙ fresh_of_call.1.1,
          ),
          tt,
          tt,
        ) refl
        (λ k h g i. given preserved link k h g i) words placed_then refl refl))
    behind (Enters y) preserved link words =
        leads (same_place (where_called [] n ours called (λ jobs. jobs) c (Entering y)
        (settled_first (length c.processor.slots), tt, tt, tt) refl (λ k h g i. given preserved link k h g i) words
        placed_then refl refl))

    by_stage : (stage : CallStage) → stage ≢ AtBranch → stage ≢ Within
        → LeadsOnFrom at bottom img pl p (program_flash img target p) [] c w.top m n x stage
        → LeadsOn img target p ceiling called fits s m n
    by_stage AtFall no_branch no_function g =
        in_call AtKeep x.called g (aligned_then AtKeep x.called g keep_differs)
        (λ e. absurd (keep_differs e))
    by_stage AtKeep no_branch no_function g =
        in_call AtBranch x.called g (aligned_then AtBranch x.called g branch_differs)
        (λ e. absurd (branch_differs e))
    by_stage AtBranch no_branch no_function g = absurd (no_branch refl)
    by_stage Within no_branch no_function g = absurd (no_function refl)
    by_stage AtTake no_branch no_function g =
        in_call AtRise x.called g (aligned_then AtRise x.called g rise_differs)
        (λ e. absurd (rise_differs e))
    by_stage AtRise no_branch no_function (inputs, preserved, link) =
        behind inputs preserved link
        (words_stay at img pl p j m n there.has exec w.words
        (λ e seen. not_longer (Returned e) m.seen (sym ours.seen ∙ seen)))

  -- It is no fault, and leads on, where the function is not called next and does not run.
  pub call_leads_on : x.stage ≢ AtBranch → x.stage ≢ Within
      → (n : Machine) × (executed p m ≡ Some n) × LeadsOn img target p ceiling called fits s m n × CallsNone p m
  call_leads_on no_branch no_function =
      let own = own_of x.stage no_function in
      let y = call_is_no_fault at bottom img pl p c w.top m there.has x own in
      let g = call_goes_on at bottom img pl p
      (program_flash img target p) [] c w.top m y.1 y.0 there.has there.flash x own
      y.2 in (
        y.1,
        ap (executing p.port m) y.2.found ∙ y.2.does,
        by_stage y.0 y.1 y.2 g.ours x.stage no_branch no_function g.leads,
        λ d e. absurd (is_no_branch at bottom img pl p c w.top m x there.has.port no_branch no_function d e),
      )
