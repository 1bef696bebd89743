-- A tick begins: what it leads to is where the image is after its own tick.
use Rattle.std.proofs.Common.{◌≡◌, ◌≢◌, ◌∙◌, ℕ, suc, ◌+◌, ◌*◌, ◌/◌, ◌%◌, ◌^◌, ◌<◌, ◌≤◌, ◌⊎◌, inl, inr, Bool}
use Rattle.std.proofs.Common.{true, false}
use Rattle.std.proofs.Common.{List, [], ◌∷◌, ◌++◌, Option, Some, None, refl, sym, ap, subst, arith, length}
use Rattle.std.proofs.Common.{flat_map, IfSome, ⊎_elim}
use Rattle.std.proofs.lemmas.Bool.{cases_eq, cases_lt}
use Rattle.std.proofs.lemmas.List.{length-set}
use Rattle.std.specs.List.{AllByRecursion}
use Rattle.std.specs.Prelude.{if◌then◌else◌, nat_le}
use mathlib.Core.Path.{fun_ext}
use Rattle.rt_ids.specs.Event.{Tick}
use Rattle.rt_code.specs.Image.{Image}
use Rattle.rt_code.specs.Processor.{Processor}
use Rattle.rt_core.specs.Core.{Core, depth, exception_number}
use Rattle.rt_core.specs.Trace.{happen, ring, tick}
use Rattle.rt_core.specs.Transfer.{core_after_pend}
use Rattle.rt_core.specs.declared.alarm.Alarm.{Alarm}
use Rattle.rt_native.specs.Layout.{TICK_BYTES, outside, places, stack_top}
use Rattle.rt_native.specs.Service.{timer_irq}
use Rattle.rt_native.specs.Target.{Target}
use Rattle.rt_native.specs.declared.outside.Outside.{Outside}
use Rattle.rt_native.specs.declared.target.Input.{Input}
use Rattle.rt_priorities.specs.Ticking.{HasTicked, TicksAtOnce, alarm_word, requested}
use Rattle.rt_priorities.proofs.Ticking.{number_is_small, ticks_are_one_event}
use Rattle.rt_thumb.specs.Exceptions.{entered, status_word, systick, taken}
use Rattle.rt_thumb.specs.Machine.{Entered, Flags, Machine, Posted, Returned, Seen}
use Rattle.rt_thumb.specs.Step.{Program}
use Rattle.rt_trace.specs.Label.{Label, Rang}
use Rattle.rt_native_laws.specs.Behaving.{HasEvenFrames, IsGood}
use Rattle.rt_native_laws.specs.Deep.{IsWithinFrames}
use Rattle.rt_native_laws.specs.Devices.{is_devices}
use Rattle.rt_native_laws.specs.InTail.{Debt, paid}
use Rattle.rt_native_laws.specs.Moments.{Comes, Happening, Moment, moment_after, shown, with_core}
use Rattle.rt_native_laws.specs.Phases.{OthersRan, tail_of, viewed}
use Rattle.rt_native_laws.specs.Relating.{calls_of, IsAlarmOf, IsEvenFrame, IsInPlace, IsOfTimer, IsWhere, lowest}
use Rattle.rt_native_laws.specs.Saving.{CanBeInterrupted}
use Rattle.rt_native_laws.specs.Simulating.{compared, seen_of_label}
use Rattle.rt_native_laws.specs.Standing.{HoldsWords, IsLaidOut, LieFrom, Shows, frame_bytes}
use Rattle.rt_native_laws.specs.Waiting.{FunctionCalls, KeepsAbove, KeepsTail, others_tail}
use Rattle.rt_native_laws.proofs.Above.{tick_leaves, ticks_keep_above}
use Rattle.rt_native_laws.proofs.Deep.{phases_are_within_frames, no_deeper_with_padding}
use Rattle.rt_native_laws.proofs.Devices.{devices_aside, devices_outside}
use Rattle.rt_native_laws.proofs.Eights.{phase_is_rounded}
use Rattle.rt_native_laws.proofs.Interrupting.{exception_is, top_is_eight}
use Rattle.rt_native_laws.proofs.Linked.{linked_service_lies}
use Rattle.rt_native_laws.proofs.Owing.{ticks_in_tails}
use Rattle.rt_native_laws.proofs.Relating.{KeepsOutside, is_where_on}
use Rattle.rt_native_laws.proofs.Saving.{entry_pushes_below, stack_is as pushed_stack}
use Rattle.rt_native_laws.proofs.Showing.{job_is_kept, phases_show}
use Rattle.rt_native_laws.proofs.Tailing.{posted_unseen}
use Rattle.rt_native_laws.proofs.Tails.{IsOwingSo, debt}
use Rattle.rt_native_laws.proofs.Unpaid.{IsSameButAlarm, by_debt, owing, parts_same}
use Rattle.rt_native_laws.proofs.Viewing.{view_rest, views_keep}
use Rattle.rt_native_laws.proofs.Waiting.{pushed_words, status_small}

-- what a tick leaves of the core; and nobody else sees what is shown of it
pub record TickShape (c d : Core) (said : List Label) : Type 0 where
  pub core : d ≡ record c { time = suc c.time; alarm = d.alarm; pending = d.pending }
  requests : length d.pending ≡ length c.pending
  alarm : (d.alarm ≡ c.alarm) ⊎ (d.alarm ≡ None)
  unseen : (more : List Label) → flat_map seen_of_label (said ++ more) ≡ flat_map seen_of_label more

pub tick_shape : (c : Core) → TickShape c (tick c).0 (tick c).1
tick_shape c = by_alarm c.alarm refl
  where
    by_due : (a : Alarm) → c.alarm ≡ Some a → (b : Bool) → (x : Core × List Label)
        → x ≡ (if b then (record (core_after_pend (record c { time = suc c.time }) a.irq) { alarm = None }, Rang ∷ [])
        else (record c { time = suc c.time }, [])) → TickShape c x.0 x.1
    by_due a there true x e =
        subst (λ (y : Core × List Label). TickShape c y.0 y.1) (sym e)
        (record { core = refl; requests = length-set c.pending a.irq true; alarm = inr refl; unseen = λ more. refl })
    by_due a there false x e =
        subst (λ (y : Core × List Label). TickShape c y.0 y.1) (sym e)
        (record { core = refl; requests = refl; alarm = inl refl; unseen = λ more. refl })

    by_alarm : (o : Option Alarm) → c.alarm ≡ o
        → TickShape c (ring (record c { time = suc c.time }) o).0 (ring (record c { time = suc c.time }) o).1
    by_alarm None e = record { core = refl; requests = refl; alarm = inl refl; unseen = λ more. refl }
    by_alarm (Some a) e =
        by_due a e (nat_le a.instant (suc c.time)) (ring (record c { time = suc c.time }) (Some a)) refl

-- the word of an alarm is a word
alarm_small : (img : Image) (o : Option Alarm) → IsAlarmOf img o → alarm_word o < 2 ^ 32
alarm_small img None h = omega arith
alarm_small img (Some a) h = h.0

-- what a tick pends is not compared
pending_unseen : (img : Image) (time : ℕ) (o : Option Alarm) → IsAlarmOf img o → (seen : List Seen)
    → compared (timer_irq img.code) (Returned systick ∷ (requested time o ++ Entered systick ∷ seen))
    ≡ compared (timer_irq img.code) (Entered systick ∷ seen)
pending_unseen img time None h seen = refl
pending_unseen img time (Some a) h seen = by_due (nat_le a.instant time)
  where
    by_due : (b : Bool)
        → compared (timer_irq img.code) ((if b then Posted a.irq ∷ [] else []) ++ Entered systick ∷ seen)
        ≡ compared (timer_irq img.code) (Entered systick ∷ seen)
    by_due false = refl
    by_due true = posted_unseen (timer_irq img.code) a.irq h.1 (Entered systick ∷ seen)

-- what an entry pushes are words
entry_words_small : (e : ℕ) (m : Machine) → HoldsWords m → m.address < 2 ^ 32 → m.exception < 2 ^ 9 → (k : ℕ)
    → (entered e m).memory k < 2 ^ 32
entry_words_small e m words low small k =
    let r = m.register in
    let status : ℕ = status_word m.flags (r 13 / 4 % 2) m.exception in
    let last : AllByRecursion (λ w. w < 2 ^ 32) (m.address ∷ status ∷ []) =
    (low, (status_small m.flags (r 13 / 4 % 2) m.exception (omega arith) small, tt)) in
    let more : AllByRecursion (λ w. w < 2 ^ 32) (r 12 ∷ r 14 ∷ m.address ∷ status ∷ []) =
    (words.registers 12, (words.registers 14, last)) in
    let most : AllByRecursion (λ w. w < 2 ^ 32) (r 2 ∷ r 3 ∷ r 12 ∷ r 14 ∷ m.address ∷ status ∷ []) =
    (words.registers 2, (words.registers 3, more)) in
    pushed_words (r 0 ∷ r 1 ∷ r 2 ∷ r 3 ∷ r 12 ∷ r 14 ∷ m.address ∷ status ∷ []) _ m
    (words.registers 0, (words.registers 1, most)) words.memory k

module _ (img : Image) (target : Target) (p : Program) (ceiling : ℕ)
    (called : ℕ → Option Machine) (fits : List Happening → Bool) (s : Moment)
    (m : Machine) (there : IsInPlace img target p) (even_frames : HasEvenFrames img)
    (good : IsGood img ceiling s) (w : IsWhere img target p ceiling called s m)
    (fits_in : s.core.time + 2 < 2 ^ 32) (ticks : taken m ≡ Some systick) where
  abbrev at : Outside
  at = outside img target

  abbrev pl : List ℕ
  pl = places img target

  abbrev bottom : ℕ
  bottom = lowest img target p

  abbrev highest : ℕ
  highest = stack_top img target

  abbrev inputs : List Input
  inputs = target.inputs

  abbrev calls : FunctionCalls
  calls = calls_of target called

  abbrev c : Core
  c = w.unpaid

  abbrev others : Option Debt
  others = others_tail (tail_of at bottom img pl p c w.top m w.phase) w.tail

  abbrev d : Core
  d = (tick c).0

  laid : IsLaidOut at bottom (length c.processor.cells)
  laid = subst (IsLaidOut at bottom) (sym w.cells) there.laid

  within : IsWithinFrames at bottom c w.top m
  within = phases_are_within_frames at bottom img pl p c w.top m laid there.has.port w.phase

  shows : Shows at c m
  shows = phases_show at bottom img pl p c w.top m laid there.has.port w.phase

  same : IsSameButAlarm s.core c
  same = parts_same img target p ceiling called s m w

  even_here : IsEvenFrame c.caller c.processor.slots
  even_here =
      subst (λ (o : Option (List ℕ)). IsEvenFrame o c.processor.slots) same.caller
      (subst (λ (q : Processor). IsEvenFrame s.core.caller q.slots) same.processor good.frames)

  highest_eight : highest % 8 ≡ 0
  highest_eight = omega (arith, there.image.ram.0)

  -- the processor as those who wait will find it
  abbrev seen_now : Machine
  seen_now = viewed at bottom img pl p c w.top m w.phase

  rounded : (m.register 13 % 4 ≡ 0) × (w.top + m.register 13 % 8 ≤ m.register 13 + frame_bytes c)
  rounded =
      phase_is_rounded at bottom img pl p there.has even_frames c w.top m
      (top_is_eight at bottom highest ceiling inputs calls img pl p others c w.top seen_now s.takings c.below w.waiting
      highest_eight)
      even_here within w.phase

  exception_here : m.exception ≡ exception_number c.below
  exception_here =
      sym (ap (λ (y : Machine). y.exception) (view_rest at bottom img pl p c w.top m w.phase))
      ∙ exception_is at bottom highest ceiling inputs calls img pl p others c w.top seen_now s.takings c.below w.waiting

  -- the stack is no deeper than the image's, with an entry's padding
  pub low_here : highest + m.register 13 % 8 ≤ m.register 13 + depth img s.core
  low_here =
      let deep = no_deeper_with_padding at bottom highest ceiling inputs calls img pl p others s.takings c w.top m
      seen_now laid there.has.port rounded.1 w.waiting in
      let depth_same : depth img s.core ≡ depth img c =
      ap (λ (k : Core). depth img k) w.owed
      ∙ by_debt (λ (f : Core → Core). depth img (f c) ≡ depth img c) w.tail refl (λ t e. refl) in
      omega (arith, deep, depth_same)

  room : 40 ≤ m.register 13
  room = omega (arith, within.low, there.reach, there.image.above_zero)

  bottom_eight : bottom % 8 ≡ 0
  bottom_eight = omega (arith, there.reach, highest_eight, there.image.runnable.sizes.stack_pairs)

  cells_below : at.cells ≤ at.time
  cells_below = omega (arith, there.laid.time)

  shape : TickShape c d (tick c).1
  shape = tick_shape c

  core_is : d ≡ record c { time = suc c.time; alarm = d.alarm; pending = d.pending }
  core_is = shape.core

  time_here : d.time ≡ suc c.time
  time_here = ap (λ (y : Core). y.time) core_is

  pub time_is : (tick s.core).0.time ≡ suc s.core.time
  time_is = ap (λ (y : Core). y.time) (tick_shape s.core).core

  -- the tail in which a job is then, and what is paid of it
  ticked : (tail : Option Debt) → IsOwingSo tail c → IfSome tail (IsOfTimer img ceiling)
      → (now : Option Debt) × IfSome now (IsOfTimer img ceiling) × KeepsTail tail now c d
      × ((tick (paid tail c)).0 ≡ paid now d)
  ticked None owing of_timer = (None, tt, tt, refl)
  ticked (Some t) owing of_timer =
      let x = ticks_in_tails t.irq t.instant t.owes c owing (omega (arith, of_timer.2, w.requests)) in
      (Some (debt t.irq t.instant x.0), of_timer, (refl, refl, x.1), x.2)

  after : (now : Option Debt) × IfSome now (IsOfTimer img ceiling) × KeepsTail w.tail now c d
      × ((tick (paid w.tail c)).0 ≡ paid now d)
  after = ticked w.tail (owing img target p ceiling called s m w) w.of_timer

  alarm_then : IsAlarmOf img d.alarm
  alarm_then =
      ⊎_elim (λ (e : d.alarm ≡ c.alarm). subst (IsAlarmOf img) (sym e) w.alarm)
      (λ (e : d.alarm ≡ None). subst (IsAlarmOf img) (sym e) tt) shape.alarm

  can : CanBeInterrupted m
  can = record {
    stack = rounded.0;
    room = omega (arith, room);
    address = w.placed.0;
    exception = subst (λ (x : ℕ). x < 2 ^ 9) (sym exception_here) (number_is_small m c.below w.agrees.values);
  }

  pub once : TicksAtOnce p (is_devices target) img at c m
  once =
      ticks_are_one_event p (is_devices target) img at (timer_irq img.code) c m w.agrees w.requests (record {
        taken = ticks;
        highest = w.tick;
        exception = exception_here;
        address = w.placed.0;
        aligned = rounded.0;
        room = omega (arith, room);
      }) (linked_service_lies img target w.loaded.addresses w.loaded.object p m w.loaded.loaded w.loaded.linked).0
      (record {
        aligned = omega (arith, there.laid.aligned, there.laid.time);
        in_memory = there.laid.in_memory;
        above_stack = omega (arith, within.high, within.below_cells, cells_below);
        port_is_elsewhere = ⊎_elim
            (λ (x : at.port < bottom). inl (omega (
              arith,
              x,
              there.has.port,
              within.low,
              within.high,
              within.below_cells,
              cells_below,
            )))
            (λ (x : at.time + 8 ≤ at.port). inr (omega (arith, x, there.has.port))) there.laid.port_apart;
        port_is_no_request = λ e. there.laid.port_is_no_request (sym there.has.port ∙ e);
      }) (record {
        apart = λ k f. ⊎_elim
            (λ (x : 4 * k + 4 + TICK_BYTES ≤ bottom). inl (omega
            (arith, x, within.low, pushed_stack systick m can, can.room, bottom_eight, rounded.0)))
            (λ (x : at.time + 8 ≤ 4 * k). inr x) (devices_aside img target p there.image.fits there.image.ram k f);
        system = devices_outside target;
      }) (record { time = shows.time; alarm = shows.alarm }) (record {
        time = omega (arith, fits_in, same.time);
        alarm = w.alarm;
      })

  abbrev pub tick_last : Machine
  tick_last = once.last

  abbrev last : Machine
  last = once.last

  t : HasTicked img at c m last
  t = once.has_ticked

  -- memory but for the time and the alarm, and for the frame
  memory_is : (k : ℕ) → (k < at.time / 4) ⊎ ((at.time + 8) / 4 ≤ k)
      → (4 * k + 4 + 32 + m.register 13 % 8 ≤ m.register 13) ⊎ (m.register 13 ≤ 4 * k) → last.memory k ≡ m.memory k
  memory_is k beside away = t.others k beside ∙ entry_pushes_below systick m can k away

  keeps : KeepsOutside at bottom m last
  keeps k beside =
      ⊎_elim
      (λ (x : 4 * k + 4 + TICK_BYTES ≤ bottom).
      memory_is k (inl (omega (arith, x, within.low, within.high, within.below_cells, cells_below)))
      (inl (omega (arith, x, within.low, bottom_eight, rounded.0))))
      (λ (x : at.time + 8 ≤ 4 * k).
      memory_is k (inr (omega (arith, x, there.laid.aligned, there.laid.time)))
      (inr (omega (arith, x, within.high, within.below_cells, cells_below)))) beside

  whole_word : (k : ℕ) → 4 * k / 4 ≡ k
  whole_word k = omega arith

  above_stack : (k : ℕ) → m.register 13 ≤ 4 * k → 4 * k + 4 ≤ at.cells → last.memory k ≡ m.memory k
  above_stack k h f =
      ap last.memory (sym (whole_word k))
      ∙ (t.memory (4 * k) h (inl (omega (arith, f, cells_below))) ∙ ap m.memory (whole_word k))

  word_small : (k : ℕ) → last.memory k < 2 ^ 32
  word_small k =
      ⊎_elim
      (λ (e : k ≡ at.time / 4).
      subst (λ (x : ℕ). x < 2 ^ 32) (sym (ap last.memory e ∙ (t.tells.time ∙ time_here)))
      (omega (arith, fits_in, same.time)))
      (λ (e : k ≢ at.time / 4).
      ⊎_elim
      (λ (f : k ≡ (at.time + 4) / 4).
      subst (λ (x : ℕ). x < 2 ^ 32)
      (sym (ap last.memory f ∙ t.tells.alarm)) (alarm_small img d.alarm alarm_then))
      (λ (f : k ≢ (at.time + 4) / 4).
      subst (λ (x : ℕ). x < 2 ^ 32) (sym (t.others k (aside k e f)))
      (entry_words_small systick m w.words w.placed.1 can.exception k))
      (cases_eq k ((at.time + 4) / 4)))
      (cases_eq k (at.time / 4))
    where
      aside : (k : ℕ) → k ≢ at.time / 4 → k ≢ (at.time + 4) / 4 → (k < at.time / 4) ⊎ ((at.time + 8) / 4 ≤ k)
      aside k e f =
          ⊎_elim (λ (x : k < at.time / 4). inl x)
          (λ (x : at.time / 4 ≤ k). inr (omega (arith, x, e, f, there.laid.aligned, there.laid.time)))
          (cases_lt k (at.time / 4))

  words_last : HoldsWords last
  words_last = record {
    registers = λ k. subst (λ (x : ℕ). x < 2 ^ 32) (sym (t.registers k)) (w.words.registers k);
    memory = word_small;
    base_priority = subst (λ (x : ℕ). x < 2 ^ 8)
        (sym (t.agrees.base_priority ∙ (ap (λ (y : Core). y.processor.basepri) core_is ∙ sym w.agrees.base_priority)))
        w.words.base_priority;
  }

  same_base : last.base_priority ≡ m.base_priority
  same_base =
      t.agrees.base_priority ∙ (ap (λ (y : Core). y.processor.basepri) core_is ∙ sym w.agrees.base_priority)

  same_mask : last.is_masked ≡ m.is_masked
  same_mask = t.agrees.is_masked ∙ (ap (λ (y : Core). y.processor.primask) core_is ∙ sym w.agrees.is_masked)

  same_active : last.active ≡ m.active
  same_active = (ticks_keep_above at img w.top c m last cells_below within.high w.agrees t).active

  -- the state, by what is as it was
  abbrev made : (ℕ → ℕ) → ℕ → Flags → ℕ → List ℕ → ℕ → Bool → Machine
  made register address flags exception active base_priority is_masked = record last {
    register = register;
    address = address;
    flags = flags;
    exception = exception;
    active = active;
    base_priority = base_priority;
    is_masked = is_masked;
  }

  rest_is : last ≡ record m {
    memory = last.memory;
    is_pending = last.is_pending;
    is_unsettled = last.is_unsettled;
    seen = last.seen;
  }
  rest_is =
      ap (λ f. made f last.address last.flags last.exception last.active last.base_priority last.is_masked)
      (fun_ext t.registers)
      ∙ (ap (λ f. made m.register f last.flags last.exception last.active last.base_priority last.is_masked) t.address
      ∙ (ap (λ f. made m.register m.address f last.exception last.active last.base_priority last.is_masked) t.flags
      ∙ (ap (λ f. made m.register m.address m.flags f last.active last.base_priority last.is_masked) t.exception
      ∙ (ap (λ f. made m.register m.address m.flags m.exception f last.base_priority last.is_masked) same_active
      ∙ (ap (λ f. made m.register m.address m.flags m.exception m.active f last.is_masked) same_base
      ∙ ap (made m.register m.address m.flags m.exception m.active m.base_priority) same_mask)))))

  cells_last : LieFrom last at.cells d.processor.cells
  cells_last =
      subst (λ (y : Core). LieFrom last at.cells y.processor.cells) (sym core_is) (λ k l.
      memory_is ((at.cells + 4 * k) / 4)
      (inl (omega (arith, l, laid.aligned, laid.time)))
      (inr (omega (arith, within.high, within.below_cells, laid.aligned)))
      ∙ shows.cells k l)

  ran : OthersRan at (m.register 13) w.top c d m last
  ran = record {
    core = subst (λ (y : Core). y ≡ record c {
      time = y.time;
      alarm = y.alarm;
      pending = y.pending;
      processor = record c.processor { cells = y.processor.cells };
    }) (sym core_is) refl;
    as_many = ap (λ (y : Core). length y.processor.cells) core_is;
    processor = record {
      rest = rest_is;
      memory = λ k f g. above_stack k f (omega (arith, g, within.below_cells, there.laid.aligned));
    };
    settled = t.settled;
    cells = cells_last;
    time = t.tells.time;
    alarm = t.tells.alarm;
    pending = λ irq l. t.agrees.pending irq
        (omega (arith, l, shape.requests, w.requests));
    words = words_last;
  }

  above : KeepsAbove at w.top m last
  above = ticks_keep_above at img w.top c m last cells_below within.high w.agrees t

  pub where_last : IsWhere img target p ceiling called
      (record { core = (tick s.core).0; last = s.last; takings = s.takings }) last
  where_last =
      let job = job_is_kept at bottom img pl p c d w.top m last laid there.has.port ran highest ceiling inputs calls
      w.tail
      after.0 s.last after.2 w.phase w.fresh in
      subst (λ (k : Core). IsWhere img target p ceiling called (with_core s k) last)
      (sym (ap (λ (k : Core). (tick k).0) w.owed ∙ after.3))
      (is_where_on img target p there ceiling called called s m last w
      (λ jobs. jobs) after.0 after.1 d s.last job.0 job.1 job.2
      (views_keep at bottom img pl p c d w.top w.top m last w.phase job.0 w.top
      (λ k h f g. ap (λ (r : ℕ → ℕ). r k) job.3) above.memory above.exception above.active) keeps words_last
      (subst (λ (a : ℕ). (a % 2 ≡ 0) × (a < 2 ^ 32)) (sym t.address) w.placed) (tick_leaves c) ran.as_many
      shape.requests (ap (λ (y : Core). y.stopped) core_is) alarm_then)

  pub stack_last : last.register 13 ≡ m.register 13
  stack_last = t.registers 13

  pub frame_deep : last.register 13 ≤ (entered systick m).register 13 + 32 + last.register 13 % 8
  frame_deep = omega (arith, t.registers 13, pushed_stack systick m can)

  pub seen_is : compared (timer_irq img.code) last.seen ≡ compared (timer_irq img.code) (entered systick m).seen
  seen_is =
      ap (compared (timer_irq img.code)) t.seen ∙ pending_unseen img (suc c.time) c.alarm w.alarm m.seen

-- the moment after a tick, and what is shown of it
pub tick_moment : (img : Image) (s : Moment)
    → moment_after img s (Comes Tick) ≡ record { core = (tick s.core).0; last = s.last; takings = s.takings }
unfolding happen
tick_moment img s = refl

pub tick_shown : (img : Image) (s : Moment) (more : List Happening)
    → flat_map seen_of_label (shown img s (Comes Tick ∷ more))
    ≡ Entered systick ∷ flat_map seen_of_label (shown img (moment_after img s (Comes Tick)) more)
unfolding happen
tick_shown img s more =
    ap (λ (xs : List Seen). Entered systick ∷ xs) ((tick_shape s.core).unseen
    (shown img (record { core = (tick s.core).0; last = s.last; takings = s.takings }) more))
