-- While the tail of an alarm owes its coming, the processor stands for a core without it: what it is beside the
-- moment's core, and what a step of the one is to the other.
use Rattle.std.proofs.Common.{◌≡◌, ◌∙◌, ℕ, ◌^◌, ◌<◌, ◌≤◌, Bool, true, false, List, [], ◌∷◌, length, Option}
use Rattle.std.proofs.Common.{Some, None, IfSome, refl, sym, ap, subst, arith}
use Rattle.std.proofs.lemmas.List.{length-set}
use Rattle.std.specs.Prelude.{if◌then◌else◌, option_map, slice_get}
use Rattle.rt_ids.specs.Event.{Step}
use Rattle.rt_code.specs.Image.{Image}
use Rattle.rt_code.specs.Processor.{Processor}
use Rattle.rt_code.specs.declared.instr.Instr.{Instr}
use Rattle.rt_code.specs.declared.instr.Instr.TheVariants as instr
use Rattle.rt_core.specs.Core.{Context, Core}
use Rattle.rt_core.specs.Priority.{execution, pick, running_value}
use Rattle.rt_core.specs.Stepping.{step}
use Rattle.rt_native.specs.Layout.{outside, places, stack_top}
use Rattle.rt_native.specs.Target.{Target}
use Rattle.rt_native.specs.declared.outside.Outside.{Outside}
use Rattle.rt_native.specs.declared.target.Input.{Input}
use Rattle.rt_thumb.specs.Machine.{Machine}
use Rattle.rt_thumb.specs.Step.{Program}
use Rattle.rt_native_laws.specs.Alike.{IsNotTaken, SetsNoAlarm}
use Rattle.rt_native_laws.specs.Behaving.{GoesWell, IsGood}
use Rattle.rt_native_laws.specs.InTail.{Debt, paid, rung}
use Rattle.rt_native_laws.specs.Moments.{Comes, Last, Moment, Taking, instruction_at, moment_after, with_core}
use Rattle.rt_native_laws.specs.Phases.{AlreadyDone, Calling, Calls, Entering, Phase, Reads, Tails, ToCome, tail_of}
use Rattle.rt_native_laws.specs.Phases.{viewed}
use Rattle.rt_native_laws.specs.Relating.{calls_of, IsOfTimer, IsWhere, lowest}
use Rattle.rt_native_laws.specs.Tail.{IsOwing}
use Rattle.rt_native_laws.specs.Waiting.{FunctionCalls, IsFresh, Waiting, interrupted_core, others_tail, resumed}
use Rattle.rt_native_laws.proofs.Alike.{same_pick, steps_are_alike}
use Rattle.rt_native_laws.proofs.Owing.{ceilings_hold_off, happenings_are_alike, none_above_sets_alarms}
use Rattle.rt_native_laws.proofs.Tail.{tail_owes}
use Rattle.rt_native_laws.proofs.Tails.{IsOwingSo}

-- what is so where nothing is owed, and where an alarm has come, is so of what is owed
pub by_debt : (P : (Core → Core) → Type 0) → (tail : Option Debt) → P (λ (u : Core). u)
    → ((t : Debt) → tail ≡ Some t → P (λ (u : Core). rung t.irq u)) → P (λ (u : Core). paid tail u)
by_debt P None h k = h
by_debt P (Some t) h k = by_owes t.owes
  where
    by_owes : (b : Bool) → P (λ (u : Core). if b then rung t.irq u else u)
    by_owes true = k t refl
    by_owes false = h

-- two cores that differ in the alarm and what is pending alone
pub record IsSameButAlarm (c u : Core) : Type 0 where
  pub processor : c.processor ≡ u.processor
  pub caller : c.caller ≡ u.caller
  pub below : c.below ≡ u.below
  pub time : c.time ≡ u.time
  pub stopped : c.stopped ≡ u.stopped
  pub requests : length c.pending ≡ length u.pending

pub paid_same : (tail : Option Debt) (u : Core) → IsSameButAlarm (paid tail u) u
paid_same tail u =
    by_debt (λ (f : Core → Core). IsSameButAlarm (f u) u) tail
    (record { processor = refl; caller = refl; below = refl; time = refl; stopped = refl; requests = refl })
    (λ t e. record {
      processor = refl;
      caller = refl;
      below = refl;
      time = refl;
      stopped = refl;
      requests = length-set u.pending t.irq true;
    })

if_some : (tail : Option Debt) (A B : Type 0) → (A → B) → IfSome tail (λ t. A) → IfSome tail (λ t. B)
if_some None A B f h = tt
if_some (Some t) A B f h = f h

pub of_some : (P : Debt → Type 0) (tail : Option Debt) (t : Debt) → tail ≡ Some t → IfSome tail P → P t
of_some P tail t e h = subst (λ (o : Option Debt). IfSome o P) e h

owing_there : (priority : ℕ) (x : Context) (below : List Context) (c : Core) (tail : Option Debt)
    → IsOwingSo tail (interrupted_core priority c x below) → IsOwingSo tail c
owing_there priority x below c None h = tt
owing_there priority x below c (Some t) h = record { due = h.due; has_come = h.has_come; set = h.set }

-- what interrupted jobs say of a tail in which one of them is
module _ (at : Outside) (bottom highest ceiling : ℕ) (inputs : List Input) (calls : FunctionCalls) (img : Image)
    (places : List ℕ)
    (p : Program) where
  abbrev Own : (c : Core) (top : ℕ) (m : Machine) → Phase at bottom img places p c top m → Option Debt
  Own c top m phase = tail_of at bottom img places p c top m phase

  abbrev Fresh : Option Debt → Last → (c : Core) (top : ℕ) (m : Machine) → Phase at bottom img places p c top m
      → Type 0
  Fresh tail last c top m phase = IsFresh at bottom highest ceiling inputs calls img places p tail last c top m phase

  abbrev Jobs : Option Debt → List Taking → List Context → Core → ℕ → Machine → Type 0
  Jobs tail takings below c top m = Waiting at bottom highest ceiling inputs calls img places p tail takings below c
      top m

  abbrev view : (c : Core) (top : ℕ) (m : Machine) → Phase at bottom img places p c top m → Machine
  view c top m phase = viewed at bottom img places p c top m phase

  pub phase_owing : (tail : Option Debt) (last : Last) (c : Core) (top : ℕ) (m : Machine)
      → (phase : Phase at bottom img places p c top m) → Fresh tail last c top m phase
      → (Own c top m phase ≡ None → IsOwingSo tail c) → IsOwingSo tail c
  phase_owing tail last c top m (ToCome x) fresh rest = rest refl
  phase_owing tail last c top m (AlreadyDone x) fresh rest = rest refl
  phase_owing tail last c top m (Entering x) fresh rest = rest refl
  phase_owing tail last c top m (Calling x) fresh rest = rest refl
  phase_owing tail last c top m (Reads x) fresh rest = rest refl
  phase_owing tail last c top m (Calls x f) fresh rest = rest refl
  phase_owing tail last c top m (Tails core x same) fresh rest =
      subst (λ (o : Option Debt). IsOwingSo o c) (sym fresh.2.0)
      (subst (λ (y : Core). IsOwing x.irq x.instant x.owes y) same (tail_owes at bottom img places p core top m x))

  pub phase_holds : (tail : Option Debt) (last : Last) (c : Core) (top : ℕ) (m : Machine)
      → (phase : Phase at bottom img places p c top m) → Fresh tail last c top m phase
      → (Own c top m phase ≡ None → IfSome tail (λ t. execution c ≤ ceiling))
      → IfSome tail (λ t. execution c ≤ ceiling)
  phase_holds tail last c top m (ToCome x) fresh rest = rest refl
  phase_holds tail last c top m (AlreadyDone x) fresh rest = rest refl
  phase_holds tail last c top m (Entering x) fresh rest = rest refl
  phase_holds tail last c top m (Calling x) fresh rest = rest refl
  phase_holds tail last c top m (Reads x) fresh rest = rest refl
  phase_holds tail last c top m (Calls x f) fresh rest = rest refl
  phase_holds tail last c top m (Tails core x same) fresh rest =
      subst (λ (o : Option Debt). IfSome o (λ t. execution c ≤ ceiling)) (sym fresh.2.0) fresh.2.1

  pub same_others : (tail : Option Debt) (takings : List Taking) (below : List Context) (c : Core) (top : ℕ)
      (m : Machine) (phase : Phase at bottom img places p c top m) → Own c top m phase ≡ None
      → Jobs (others_tail (Own c top m phase) tail) takings below c top (view c top m phase)
      → Jobs tail takings below c top (view c top m phase)
  same_others tail takings below c top m phase e jobs =
      subst (λ (o : Option Debt). Jobs (others_tail o tail) takings below c top (view c top m phase)) e jobs

  pub waiting_owing : (tail : Option Debt) (takings : List Taking) (below : List Context) (c : Core) (top : ℕ)
      (m : Machine) → Jobs tail takings below c top m → IsOwingSo tail c
  waiting_owing tail [] [] c top m jobs = subst (λ (o : Option Debt). IsOwingSo o c) (sym jobs.3) tt
  waiting_owing tail [] (x ∷ below) c top m jobs = absurd jobs
  waiting_owing tail (taking ∷ takings) [] c top m jobs = absurd jobs
  waiting_owing tail (taking ∷ takings) (x ∷ below) c top m
      (aligned, small, runs, active, link, up, next, within, fits, higher, phase, fresh, more) =
      let priority = taking.base_priority in
      let back = resumed priority top m in
      let there = interrupted_core priority c x below in
      owing_there priority x below c tail
      (phase_owing tail taking.last there next back phase fresh (λ e.
      waiting_owing tail takings below there next (view there next back phase)
      (same_others tail takings below there next back phase e more)))

  -- who runs above it has a priority above the ceiling
  pub waiting_below : (tail : Option Debt) (takings : List Taking) (below : List Context) (c : Core) (top : ℕ)
      (m : Machine) → Jobs tail takings below c top m → IfSome tail (λ t. running_value below < ceiling)
  waiting_below tail [] [] c top m jobs =
      subst (λ (o : Option Debt). IfSome o (λ t. running_value [] < ceiling)) (sym jobs.3) tt
  waiting_below tail [] (x ∷ below) c top m jobs = absurd jobs
  waiting_below tail (taking ∷ takings) [] c top m jobs = absurd jobs
  waiting_below tail (taking ∷ takings) (x ∷ below) c top m
      (aligned, small, runs, active, link, up, next, within, fits, higher, phase, fresh, more) =
      let priority = taking.base_priority in
      let back = resumed priority top m in
      let there = interrupted_core priority c x below in
      if_some tail (execution there ≤ ceiling) (x.value < ceiling) (λ h. omega (arith, h, higher))
      (phase_holds tail taking.last there next back phase fresh (λ e.
      if_some tail (running_value below < ceiling) (execution there ≤ ceiling) (λ h. omega (arith, h))
      (waiting_below tail takings below there next (view there next back phase)
      (same_others tail takings below there next back phase e more))))

-- An instruction goes well at a core with its alarm come as it does at the one without.
module _ (img : Image) (ceiling irq : ℕ) (s : Moment) (u : Core) where
  abbrev s_rung : Moment
  s_rung = with_core s (rung irq u)

  abbrev s_unpaid : Moment
  s_unpaid = with_core s u

  well_without : (i : Instr) → GoesWell img ceiling s_rung i → GoesWell img ceiling s_unpaid i
  well_without (instr.Raise d v) well = well
  well_without (instr.Post k) well = well
  well_without (instr.Alarm slot k) well = record {
    timer = well.timer;
    number = well.number;
    held_off = well.held_off;
    at_ceiling = record { holds_off = well.at_ceiling.holds_off; own = well.at_ceiling.own };
  }
  well_without instr.NoAlarm well = record { holds_off = well.holds_off; own = well.own }
  well_without (instr.Call row from) well = λ body found.
      let calls = well body found in
      record { frame = calls.frame; few = calls.few; arguments = calls.arguments; slot = calls.slot }
  well_without instr.Back well = record { frame = well.frame; caller = well.caller }
  well_without instr.Ret well =
      record { frame = well.frame; base_priority = well.base_priority; primask = well.primask }
  well_without i well = tt

  good_without : IsNotTaken img irq u → (pick img u ≡ None → SetsNoAlarm (instruction_at img u))
      → IsGood img ceiling s_rung → IsGood img ceiling s_unpaid
  good_without free none good =
      let is = steps_are_alike img irq u free none in
      record {
        goes = good.goes;
        no_trap = sym (ap (λ x. x.0.stopped) is) ∙ good.no_trap;
        base_priority = subst (λ (b : ℕ). b < 2 ^ 8) (ap (λ x. x.0.processor.basepri) is) good.base_priority;
        frames = good.frames;
        instruction = λ i note line picks.
            well_without i (good.instruction i note line (same_pick img irq u free ∙ picks));
      }

module _ (img : Image) (target : Target) (p : Program) (ceiling : ℕ)
    (called : ℕ → Option Machine) (s : Moment) (m : Machine)
    (w : IsWhere img target p ceiling called s m) where
  abbrev u : Core
  u = w.unpaid

  abbrev own : Option Debt
  own = tail_of (outside img target) (lowest img target p) img (places img target) p u w.top m w.phase

  -- the processor as those who wait will find it
  abbrev seen : Machine
  seen = viewed (outside img target) (lowest img target p) img (places img target) p u w.top m w.phase

  -- what is owed is so of the core
  pub owing : IsOwingSo w.tail u
  owing =
      phase_owing (outside img target) (lowest img target p) (stack_top img target) ceiling target.inputs
      (calls_of target called) img
      (places img target) p w.tail s.last u w.top m w.phase w.fresh (λ e.
      waiting_owing (outside img target) (lowest img target p) (stack_top img target) ceiling target.inputs
      (calls_of target called) img
      (places img target) p w.tail s.takings u.below u w.top seen
      (same_others (outside img target) (lowest img target p) (stack_top img target) ceiling target.inputs
      (calls_of target called) img
      (places img target) p w.tail s.takings u.below u w.top m w.phase e w.waiting))

  -- who is in no tail runs above the ceiling of one in which another is
  pub above : own ≡ None → IfSome w.tail (λ t. running_value u.below < ceiling)
  above e =
      waiting_below (outside img target) (lowest img target p) (stack_top img target) ceiling target.inputs
      (calls_of target called) img
      (places img target) p w.tail s.takings u.below u w.top seen
      (same_others (outside img target) (lowest img target p) (stack_top img target) ceiling target.inputs
      (calls_of target called) img
      (places img target) p w.tail s.takings u.below u w.top m w.phase e w.waiting)

  pub holds : IfSome w.tail (λ t. execution u ≤ ceiling)
  holds =
      phase_holds (outside img target) (lowest img target p) (stack_top img target) ceiling target.inputs
      (calls_of target called) img
      (places img target) p w.tail s.last u w.top m w.phase w.fresh (λ e.
      if_some w.tail (running_value u.below < ceiling) (execution u ≤ ceiling) (λ h. omega (arith, h)) (above e))

  -- so its interrupt is not taken
  pub free : (t : Debt) → w.tail ≡ Some t → IsNotTaken img t.irq u
  free t e =
      ceilings_hold_off img ceiling t.irq u
      (of_some (IsOfTimer img ceiling) w.tail t e w.of_timer).0
      (of_some (λ t. execution u ≤ ceiling) w.tail t e holds)

  pub picks_same : pick img s.core ≡ pick img u
  picks_same =
      ap (pick img) w.owed
      ∙ by_debt (λ (f : Core → Core). pick img (f u) ≡ pick img u) w.tail refl
      (λ t e. same_pick img t.irq u (free t e))

  pub parts_same : IsSameButAlarm s.core u
  parts_same = subst (λ (c : Core). IsSameButAlarm c u) (sym w.owed) (paid_same w.tail u)

  -- it sets no alarm, if one is owed and no interrupt is taken
  abbrev pub IsQuiet : Type 0
  IsQuiet = (t : Debt) → w.tail ≡ Some t → pick img u ≡ None → SetsNoAlarm (instruction_at img u)

  pub quiet_above : IsGood img ceiling s → own ≡ None → IsQuiet
  quiet_above good e t is none =
      let higher = of_some (λ t. running_value u.below < ceiling) w.tail t is (above e) in
      subst (λ (q : Processor). SetsNoAlarm (option_map (λ line. line.0) (slice_get img.code q.address)))
      parts_same.processor
      (none_above_sets_alarms img ceiling s good
      (subst (λ (b : List Context). running_value b < ceiling) (sym parts_same.below) higher)
      (picks_same ∙ none))

  module _ (quiet : IsQuiet) where
    pub good_unpaid : IsGood img ceiling s → IsGood img ceiling (with_core s u)
    good_unpaid good =
        by_debt (λ (f : Core → Core). IsGood img ceiling (with_core s (f u)) → IsGood img ceiling (with_core s u))
        w.tail (λ g. g) (λ t e g. good_without img ceiling t.irq s u (free t e) (quiet t e) g)
        (subst (λ (c : Core). IsGood img ceiling (with_core s c)) w.owed good)

    pub step_same : step img s.core ≡ (paid w.tail (step img u).0, (step img u).1)
    step_same =
        ap (step img) w.owed
        ∙ by_debt (λ (f : Core → Core). step img (f u) ≡ (f (step img u).0, (step img u).1)) w.tail refl
        (λ t e. steps_are_alike img t.irq u (free t e) (quiet t e))

    pub moment_same : moment_after img s (Comes Step)
        ≡ with_core (moment_after img (with_core s u) (Comes Step))
        (paid w.tail (moment_after img (with_core s u) (Comes Step)).core)
    moment_same =
        let z = moment_after img (with_core s u) (Comes Step) in
        ap (λ (c : Core). moment_after img (with_core s c) (Comes Step)) w.owed
        ∙ by_debt (λ (f : Core → Core). moment_after img (with_core s (f u)) (Comes Step) ≡ with_core z (f z.core))
        w.tail refl
        (λ t e. (happenings_are_alike img t.irq (with_core s u) (Comes Step) tt (free t e) (quiet t e)).0)
