-- An `alarm` leads on: its store, and each machine instruction of its tail.
use Rattle.std.proofs.Common.{◌≡◌, ◌∙◌, ℕ, ◌+◌, ◌/◌, ◌^◌, ◌<◌, ◌≤◌, ◌⊎◌, inl, inr, Bool, true, false, List, ◌∷◌}
use Rattle.std.proofs.Common.{◌++◌, Option, Some, None, IfSome, refl, sym, ap, subst, arith, length, flat_map, ⊎_elim}
use Rattle.std.specs.Prelude.{if◌then◌else◌, ◌==◌, not, option_map, reverse, slice_index_or, min}
use Rattle.rt_ids.specs.Event.{Step}
use Rattle.rt_ids.specs.Lists.{is_some_and}
use Rattle.rt_ids.specs.declared.limits.TheConstants.{IRQ_NUMBERS}
use Rattle.rt_code.specs.Effect.{next}
use Rattle.rt_code.specs.Image.{Image}
use Rattle.rt_code.specs.Processor.{Processor}
use Rattle.rt_code.specs.declared.instr.Instr.TheVariants as instr
use Rattle.rt_core.specs.Core.{Context, Core}
use Rattle.rt_core.specs.Priority.{base_value, execution, mask_value, running_value}
use Rattle.rt_core.specs.Stepping.{step}
use Rattle.rt_native.specs.Layout.{outside, places, stack_top}
use Rattle.rt_native.specs.Service.{timer_irq}
use Rattle.rt_native.specs.Target.{Target}
use Rattle.rt_native.specs.declared.outside.Outside.{Outside}
use Rattle.rt_priorities.specs.Ticking.{alarm_word}
use Rattle.rt_thumb.specs.Machine.{Machine, Posted, Seen}
use Rattle.rt_thumb.specs.Step.{Program}
use Rattle.rt_thumb.specs.declared.instruction.Instruction.{Instruction}
use Rattle.rt_trace.specs.Label.{Stepped}
use Rattle.rt_trace.specs.declared.item.What.{What}
use Rattle.rt_trace.specs.declared.item.What.TheVariants as what
use Rattle.rt_native_laws.specs.Behaving.{IsHeldOff, SetsTheAlarm, StaysGood}
use Rattle.rt_native_laws.specs.Doing.{seen_of}
use Rattle.rt_native_laws.specs.Going.{LeavesOthers, StepsBy}
use Rattle.rt_native_laws.specs.InTail.{Debt, IsInTail, paid}
use Rattle.rt_native_laws.specs.Moments.{Comes, Happening, Last, Moment, Went, after_instruction, after_step}
use Rattle.rt_native_laws.specs.Moments.{instruction_at, moment_after, shown, with_core}
use Rattle.rt_native_laws.specs.Own.{Executes}
use Rattle.rt_native_laws.specs.Phases.{AlreadyDone, IsDone, Phase, Tails, tail_of, viewed}
use Rattle.rt_native_laws.specs.Relating.{calls_of, IsAlarmOf, IsInPlace, IsOfTimer, IsWhere, LeadsOn, lowest}
use Rattle.rt_native_laws.specs.Simulating.{compared, seen_of_label}
use Rattle.rt_native_laws.specs.Standing.{HoldsWords, IsLaidOut}
use Rattle.rt_native_laws.specs.Tail.{TailGoes}
use Rattle.rt_native_laws.specs.Waiting.{IsFresh, KeepsTail, others_tail}
use Rattle.rt_native_laws.proofs.Above.{steps_keep_above, words_stay_in_steps}
use Rattle.rt_native_laws.proofs.Deep.{phases_are_within_frames}
use Rattle.rt_native_laws.proofs.Leading.{placed}
use Rattle.rt_native_laws.proofs.Marking.{marks_are_done, step_seen}
use Rattle.rt_native_laws.proofs.Relating.{is_where_on, steps_keep_outside}
use Rattle.rt_native_laws.proofs.Settled.{settled_within}
use Rattle.rt_native_laws.proofs.Storing.{alarm_is_unseen}
use Rattle.rt_native_laws.proofs.Tail.{tail_goes_on}
use Rattle.rt_native_laws.proofs.Tails.{debt}
use Rattle.rt_native_laws.proofs.Tests.{same_number}
use Rattle.rt_native_laws.proofs.Unpaid.{IsQuiet, IsSameButAlarm, by_debt, moment_same, of_some, paid_same}
use Rattle.rt_native_laws.proofs.Unpaid.{parts_same, step_same}
use Rattle.rt_native_laws.proofs.Viewing.{IsAlone, view_above}

-- a request of the interrupt that alarms pend is not compared
pub posted_unseen : (timer : Option ℕ) (irq : ℕ) → timer ≡ Some irq → (seen : List Seen)
    → compared timer (Posted irq ∷ seen) ≡ compared timer seen
posted_unseen timer irq e seen =
    let rest = compared timer seen in
    ap (λ (t : Option ℕ). if not (is_some_and (λ t. t == irq) t) then Posted irq ∷ rest else rest) e
    ∙ ap (λ (b : Bool). if not b then Posted irq ∷ rest else rest) (same_number irq irq refl)

item_unseen : (timer : Option ℕ) (irq : ℕ) → timer ≡ Some irq → (said : Option What)
    → (said ≡ None) ⊎ (said ≡ Some (what.Post irq)) → (seen : List Seen)
    → compared timer (seen_of said ++ seen) ≡ compared timer seen
item_unseen timer irq e said (inl none) seen = ap (λ (o : Option What). compared timer (seen_of o ++ seen)) none
item_unseen timer irq e said (inr posts) seen =
    ap (λ (o : Option What). compared timer (seen_of o ++ seen)) posts ∙ posted_unseen timer irq e seen

-- both are the same but in the alarm, so they have one priority
same_but : (c u v : Core) → IsSameButAlarm c u → IsSameButAlarm c v → IsSameButAlarm v u
same_but c u v x y = record {
  processor = sym y.processor ∙ x.processor;
  caller = sym y.caller ∙ x.caller;
  below = sym y.below ∙ x.below;
  time = sym y.time ∙ x.time;
  stopped = sym y.stopped ∙ x.stopped;
  requests = sym y.requests ∙ x.requests;
}

priority_by : (v u : Core) → v.processor.basepri ≡ u.processor.basepri → v.processor.primask ≡ u.processor.primask
    → v.below ≡ u.below → execution v ≡ execution u
priority_by v u base mask below =
    ap (λ (b : ℕ). min (running_value v.below) (min (base_value b) (mask_value v.processor.primask))) base
    ∙ (ap (λ (b : Bool). min (running_value v.below) (min (base_value u.processor.basepri) (mask_value b))) mask
    ∙ ap (λ (b : List Context). min (running_value b) (min (base_value u.processor.basepri)
    (mask_value u.processor.primask))) below)

-- an alarm in whose tail a job is
alarm_there : (img : Image) (at : Outside) (bottom : ℕ) (pl : List ℕ) (p : Program) (core : Core) (top : ℕ)
    (m : Machine) (x : IsInTail at bottom img pl p core top m) → timer_irq img.code ≡ Some x.irq
    → x.irq < IRQ_NUMBERS → IsAlarmOf img x.unpaid.alarm
alarm_there img at bottom pl p core top m x timer small =
    ⊎_elim
    (λ (e : x.unpaid.alarm ≡ Some (record { instant = x.instant; irq = x.irq })).
    let word : m.memory ((at.time + 4) / 4) ≡ x.instant = x.stands.alarm ∙ ap alarm_word e in
    subst (IsAlarmOf img) (sym e)
    (subst (λ (k : ℕ). k < 2 ^ 32) word (x.words.memory ((at.time + 4) / 4)), timer, small))
    (λ (e : (x.unpaid.alarm ≡ None) × (x.owes ≡ false → slice_index_or x.unpaid.pending x.irq false ≡ true)).
    subst (IsAlarmOf img) (sym e.0) tt) x.set

module _ (img : Image) (target : Target) (p : Program) (there : IsInPlace img target p) (ceiling : ℕ)
    (called : ℕ → Option Machine)
    (fits : List Happening → Bool) (s : Moment) (m n : Machine)
    (stays : StaysGood img target.inputs ceiling fits s) (w : IsWhere img target p ceiling called s m)
    (executed : Instruction) (exec : Executes p executed m n) where
  abbrev at : Outside
  at = outside img target

  abbrev pl : List ℕ
  pl = places img target

  abbrev bottom : ℕ
  bottom = lowest img target p

  abbrev u : Core
  u = w.unpaid

  abbrev Own : (c : Core) (y : Machine) → Phase at bottom img pl p c w.top y → Option Debt
  Own c y phase = tail_of at bottom img pl p c w.top y phase

  abbrev View : (c : Core) (y : Machine) → Phase at bottom img pl p c w.top y → Machine
  View c y phase = viewed at bottom img pl p c w.top y phase

  laid : IsLaidOut at bottom (length u.processor.cells)
  laid = subst (IsLaidOut at bottom) (sym w.cells) there.laid

  low : bottom ≤ m.register 13
  low = (phases_are_within_frames at bottom img pl p u w.top m laid there.has.port w.phase).low

  -- it leads to a core, and to a phase of it, and others see at most a request that is not compared
  module _ (tail : Option Debt) (of_timer : IfSome tail (IsOfTimer img ceiling)) (d : Core) (last : Last)
      (phase : Phase at bottom img pl p d w.top n)
      (fresh : IsFresh at bottom (stack_top img target) ceiling target.inputs
      (calls_of target called) img pl p tail last d w.top n phase)
      (meanwhile : KeepsTail (others_tail (Own u m w.phase) w.tail) (others_tail (Own d n phase) tail) u d)
      (said : Option What) (others : LeavesOthers at w.top said m n) (words : HoldsWords n) (below : d.below ≡ u.below)
      (as_many : length d.processor.cells ≡ length u.processor.cells) (requests : length d.pending ≡ length u.pending)
      (stopped : d.stopped ≡ u.stopped) (alarm : IsAlarmOf img d.alarm) (before : View u m w.phase ≡ m)
      (behind : View d n phase ≡ n) where
    low_now : bottom ≤ n.register 13
    low_now =
        (phases_are_within_frames at bottom img pl p d w.top n (subst (IsLaidOut at bottom) (sym as_many) laid)
        there.has.port phase).low

    where_now : IsWhere img target p ceiling called (record { core = paid tail d; last = last; takings = s.takings }) n
    where_now =
        is_where_on img target p there ceiling called called s m n w
        (λ jobs. jobs) tail of_timer d last phase fresh meanwhile
        (view_above at w.top m n (View u m w.phase) (View d n phase) before behind
        (steps_keep_above at w.top said m n others)) (steps_keep_outside at bottom w.top said m n low low_now others)
        words (placed img target p there ceiling called fits s m n stays w executed exec) below as_many requests
        stopped alarm

  -- in the tail
  module _ (core : Core) (x : IsInTail at bottom img pl p core w.top m) (same : x.unpaid ≡ u)
      (is : w.phase ≡ Tails core x same) where
    abbrev own : Debt
    own = debt x.irq x.instant x.owes

    seen_as : View u m w.phase ≡ m
    seen_as = ap (View u m) is

    own_is : Own u m w.phase ≡ Some own
    own_is = ap (Own u m) is

    tail_is : w.tail ≡ Some own
    tail_is =
        (of_some (λ t. (w.tail ≡ Some t) × (execution u ≤ ceiling)) (Own u m w.phase) own own_is w.fresh.2).0

    holds : execution u ≤ ceiling
    holds = (of_some (λ t. (w.tail ≡ Some t) × (execution u ≤ ceiling)) (Own u m w.phase) own own_is w.fresh.2).1

    timed : IsOfTimer img ceiling own
    timed = of_some (IsOfTimer img ceiling) w.tail own tail_is w.of_timer

    core_is : s.core ≡ core
    core_is =
        w.owed ∙ (ap (λ (o : Option Debt). paid o u) tail_is
        ∙ (ap (λ (k : Core). paid (Some own) k) (sym same) ∙ sym x.debt))

    core_same : IsSameButAlarm core u
    core_same = subst (λ (c : Core). IsSameButAlarm c u) core_is (parts_same img target p ceiling called s m w)

    none_others : (tail : Option Debt) (d : Core) → tail ≡ None
        → KeepsTail (others_tail (Own u m w.phase) w.tail) tail u d
    none_others tail d e =
        subst (λ (o : Option Debt). KeepsTail (others_tail o w.tail) tail u d) (sym own_is)
        (subst (λ (o : Option Debt). KeepsTail None o u d) (sym e) tt)

    y : TailGoes at bottom img pl p core w.top x.irq x.instant x.owes m n
    y = tail_goes_on at bottom img pl p core w.top m n executed there.has x exec

    words_now : HoldsWords n
    words_now =
        words_stay_in_steps at img pl p executed w.top y.said m n there.has exec y.others w.words

    -- still in it
    goes_on : (again : IsInTail at bottom img pl p core w.top n) → again.irq ≡ x.irq
        → IsWhere img target p ceiling called s n
    goes_on again irq =
        let now = debt again.irq again.instant again.owes in
        let alike = same_but core u again.unpaid core_same
        (subst (λ (c : Core). IsSameButAlarm c again.unpaid) (sym again.debt) (paid_same (Some now) again.unpaid)) in
        let timed_now : IsOfTimer img ceiling now =
        subst (λ (k : ℕ). IsHeldOff ceiling k img.irqs × (timer_irq img.code ≡ Some k) × (k < IRQ_NUMBERS)) (sym irq)
        timed in
        let priority : execution again.unpaid ≡ execution u =
        priority_by again.unpaid u (ap (λ (q : Processor). q.basepri) alike.processor)
        (ap (λ (q : Processor). q.primask) alike.processor) alike.below in
        subst (λ (c : Core). IsWhere img target p ceiling called (with_core s c) n) (sym (core_is ∙ again.debt))
        (where_now (Some now) timed_now again.unpaid s.last (Tails core again refl) (
          settled_within s.last (length again.unpaid.processor.slots),
          tt,
          (refl, omega (arith, priority, holds)),
          tt,
        ) (none_others None again.unpaid refl) y.said y.others words_now alike.below
        (ap (λ (q : Processor). length q.cells) alike.processor) alike.requests alike.stopped
        (alarm_there img at bottom pl p core w.top n again timed_now.1 timed_now.2) seen_as refl)

    -- it ends, and nothing is owed
    ends : IsDone at bottom img pl p core w.top n → IsWhere img target p ceiling called s n
    ends done =
        subst (λ (c : Core). IsWhere img target p ceiling called (with_core s c) n) (sym core_is)
        (where_now None tt core s.last (AlreadyDone done)
        (settled_within s.last (length core.processor.slots), tt, tt, tt) (none_others None core refl) y.said y.others
        words_now core_same.below (ap (λ (q : Processor). length q.cells) core_same.processor) core_same.requests
        core_same.stopped
        (subst (λ (c : Core). IsAlarmOf img c.alarm) (sym w.owed ∙ core_is)
        (by_debt (λ (f : Core → Core). IsAlarmOf img (f u).alarm) w.tail w.alarm (λ t e. tt))) seen_as refl)

    here : IsWhere img target p ceiling called s n
    here =
        ⊎_elim
        (λ (z : (again : IsInTail at bottom img pl p core w.top n) × (again.irq ≡ x.irq)
        × (again.instant ≡ x.instant) × (again.owes ≡ x.owes)). goes_on z.0 z.1)
        (λ (z : IsDone at bottom img pl p core w.top n). ends z) y.phase

    pub tail_leads_on : LeadsOn img target p ceiling called fits s m n
    tail_leads_on =
        let marked = marks_are_done img target p there ceiling called fits s n stays here in
        record {
          happened = marked.happened;
          can = marked.can;
          arrivals = marked.arrivals;
          few = omega (arith, marked.few);
          words = marked.words m;
          seen = ap (compared (timer_irq img.code)) y.others.seen
              ∙ (item_unseen (timer_irq img.code) x.irq timed.1 y.said y.request m.seen
              ∙ ap (compared (timer_irq img.code))
              (sym (ap (λ (xs : List Seen). reverse xs ++ m.seen) marked.seen)));
          ticks = y.others.tick;
          time = marked.time;
          here = marked.here;
          marks = marked.marks;
        }

  -- the store of an alarm
  module _ (own : IsAlone at bottom img pl p u w.top m w.phase) (none_owed : w.tail ≡ None)
      (quiet : IsQuiet img target p ceiling called s m w)
      (slot irq : ℕ) (st : StepsBy img (instr.Alarm slot irq) u (step img u).0 (step img u).1)
      (well : SetsTheAlarm img ceiling irq u) (x : IsInTail at bottom img pl p (step img u).0 w.top n)
      (same_irq : x.irq ≡ irq) (set : x.unpaid ≡ record u {
        processor = next u.processor;
        alarm = Some (record { instant = x.instant; irq = irq });
      }) (others : LeavesOthers at w.top None m n) where
    abbrev d : Core
    d = (step img u).0

    abbrev now : Debt
    now = debt x.irq x.instant x.owes

    at_it : instruction_at img u ≡ Some (instr.Alarm slot irq)
    at_it = ap (option_map (λ line. line.0)) st.line

    abbrev went : Core → Moment
    went c = record { core = c; last = Went; takings = s.takings }

    timed_now : IsOfTimer img ceiling now
    timed_now =
        subst (λ (k : ℕ). IsHeldOff ceiling k img.irqs × (timer_irq img.code ≡ Some k) × (k < IRQ_NUMBERS))
        (sym same_irq) (well.held_off, well.timer, well.number)

    priority : execution x.unpaid ≡ execution u
    priority =
        priority_by x.unpaid u (ap (λ (c : Core). c.processor.basepri) set) (ap (λ (c : Core). c.processor.primask) set)
        (ap (λ (c : Core). c.below) set)

    next_is : moment_after img s (Comes Step)
        ≡ record { core = paid (Some now) x.unpaid; last = Went; takings = s.takings }
    next_is =
        moment_same img target p ceiling called s m w quiet
        ∙ (ap (λ (z : Moment). with_core z (paid w.tail z.core))
        (ap (after_step img (with_core s u) d) st.takes_none ∙ ap (after_instruction img (with_core s u) d) at_it)
        ∙ (ap (λ (o : Option Debt). went (paid o d)) none_owed ∙ ap went x.debt))

    stored : IsWhere img target p ceiling called (moment_after img s (Comes Step)) n
    stored =
        subst (λ (z : Moment). IsWhere img target p ceiling called z n) (sym next_is)
        (where_now (Some now) timed_now x.unpaid Went (Tails d x refl) (
          settled_within Went (length x.unpaid.processor.slots),
          tt,
          (refl, (let at_ceiling = well.at_ceiling.holds_off in omega (arith, priority, at_ceiling))),
          tt,
        )
        (subst (λ (o : Option Debt). KeepsTail (others_tail o w.tail) None u x.unpaid) (sym own.tail)
        (subst (λ (o : Option Debt). KeepsTail o None u x.unpaid) (sym none_owed) tt))
        None others
        (words_stay_in_steps at img pl p executed w.top None m n there.has exec others w.words)
        (ap (λ (c : Core). c.below) set) (ap (λ (c : Core). length c.processor.cells) set)
        (ap (λ (c : Core). length c.pending) set) (ap (λ (c : Core). c.stopped) set)
        (alarm_there img at bottom pl p d w.top n x timed_now.1 timed_now.2) own.view refl)

    time_is : (moment_after img s (Comes Step)).core.time ≡ s.core.time
    time_is =
        ap (λ (z : Moment). z.core.time) next_is
        ∙ ((paid_same (Some now) x.unpaid).time ∙ (ap (λ (c : Core). c.time) set
        ∙ sym (parts_same img target p ceiling called s m w).time))

    pub store_leads_on : LeadsOn img target p ceiling called fits s m n
    store_leads_on =
        let s1 = moment_after img s (Comes Step) in
        let marked = marks_are_done img target p there ceiling called (λ more. fits (Comes Step ∷ more)) s1 n
        (λ more ok f. stays (Comes Step ∷ more) (tt, ok) f) stored in
        record {
          happened = Comes Step ∷ marked.happened;
          can = (tt, marked.can);
          arrivals = marked.arrivals;
          few = omega (arith, marked.few);
          words = (tt, marked.words m);
          seen = ap (compared (timer_irq img.code)) (others.seen
              ∙ sym (ap (λ (xs : List Seen). reverse xs ++ m.seen)
              (step_seen img s marked.happened
              ∙ (ap (λ (xs : List Seen). xs ++ flat_map seen_of_label (shown img s1 marked.happened))
              (ap (λ (z : Core × Option What). seen_of_label (Stepped z.1))
              (step_same img target p ceiling called s m w quiet) ∙ alarm_is_unseen img slot irq u d (step img u).1 st)
              ∙ marked.seen))));
          ticks = others.tick;
          time = marked.time ∙ time_is;
          here = marked.here;
          marks = marked.marks;
        }
