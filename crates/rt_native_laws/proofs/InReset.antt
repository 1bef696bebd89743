-- Within the code of reset: events that end before it does.
use Rattle.std.proofs.Common.{◌≡◌, ◌∙◌, ℕ, suc, ◌-◌, ◌*◌, ◌/◌, ◌<◌, ◌≤◌, Bool, true, false, List, [], ◌∷◌, ◌++◌, Some}
use Rattle.std.proofs.Common.{refl, sym, ap, subst, arith, append_assoc, flat_map, length, map, option_map}
use Rattle.std.proofs.lemmas.List.{length-replicate}
use Rattle.std.specs.List.{AllByRecursion}
use Rattle.std.specs.Prelude.{◌||◌}
use Rattle.rt_ids.specs.Event.{Arrive}
use Rattle.rt_ids.specs.declared.limits.TheConstants.{IRQ_NUMBERS}
use Rattle.rt_code.specs.Image.{Image}
use Rattle.rt_core.specs.Core.{depth}
use Rattle.rt_core.specs.Trace.{happen}
use Rattle.rt_native.specs.Layout.{stack_top}
use Rattle.rt_native.specs.Target.{Target}
use Rattle.rt_native.specs.declared.outside.Outside.{Outside}
use Rattle.rt_native.specs.declared.target.Input.{Input}
use Rattle.rt_priorities.proofs.Plain.{IsPlain}
use Rattle.rt_priorities.specs.Setting.{IsOutsideSystem}
use Rattle.rt_priorities.proofs.Setting.{masked, masked_changed, none_enabled, still_disabled}
use Rattle.rt_thumb.specs.Exceptions.{external, is_enabled, systick}
use Rattle.rt_thumb.specs.Machine.{Machine, Seen, with_word}
use Rattle.rt_thumb.specs.Step.{Program, Event, Arrives, Changes, Ticks, Goes, GoesLate, after, executing, going}
use Rattle.rt_thumb.specs.Step.{pended}
use Rattle.rt_thumb.specs.declared.instruction.Instruction.{Instruction}
use Rattle.rt_thumb.specs.declared.instruction.Instruction.TheVariants as instruction
use Rattle.rt_thumb_laws.specs.Undisturbed.{ChangeOnly, RunAtTop, goings}
use Rattle.rt_thumb_laws.proofs.Beside.{effects_beside}
use Rattle.rt_thumb_laws.proofs.Undisturbed.{alone_changed, alone_with, effects_with, none_at_top, top_now}
use Rattle.rt_native_laws.specs.FromReset.{HasNoTickAtFirst}
use Rattle.rt_native_laws.specs.Going.{HasCode}
use Rattle.rt_native_laws.specs.InReset.{IsInReset, arrived}
use Rattle.rt_native_laws.specs.Moments.{AllCanHappen, Comes, Happening, Moment, at_reset, moment_after}
use Rattle.rt_native_laws.specs.Moments.{moment_after_all, shown}
use Rattle.rt_native_laws.specs.Own.{is_steady}
use Rattle.rt_native_laws.specs.Simulating.{arrivals_at, arrivals_of, seen_of_label}
use Rattle.rt_native_laws.proofs.Copying.{IsWithin, RunWithin, at_top}
use Rattle.rt_native_laws.proofs.Growing.{Grows, adds_to_seen, grows_on, run_adds}
use Rattle.rt_native_laws.proofs.InTick.{none_behind}
use Rattle.rt_native_laws.proofs.Leaving.{no_front}
use Rattle.rt_native_laws.proofs.Steady.{stack_after}
use Rattle.rt_native_laws.proofs.Tests.{not_equal}

-- arrivals come to an image, and nothing else: others see nothing of it, and the stack is as deep as before
module _ (img : Image) where
  abbrev come : List ℕ → List Happening
  come numbers = map (λ irq. Comes (Arrive irq)) numbers

  can_come : (inputs : List Input) (numbers : List ℕ) (s : Moment) → AllCanHappen img inputs s (come numbers)
  can_come inputs [] s = tt
  can_come inputs (irq ∷ numbers) s = (tt, can_come inputs numbers (moment_after img s (Comes (Arrive irq))))

  come_unseen : (numbers : List ℕ) (s : Moment) → flat_map seen_of_label (shown img s (come numbers)) ≡ []
  unfolding happen
  come_unseen [] s = refl
  come_unseen (irq ∷ numbers) s = come_unseen numbers (moment_after img s (Comes (Arrive irq)))

  as_deep : (numbers : List ℕ) (s : Moment)
      → depth img (moment_after_all img s (come numbers)).core ≡ depth img s.core
  unfolding happen
  as_deep [] s = refl
  as_deep (irq ∷ numbers) s = as_deep numbers (moment_after img s (Comes (Arrive irq)))

  they_come : (numbers : List ℕ) → flat_map arrivals_of (come numbers) ≡ numbers
  they_come [] = refl
  they_come (irq ∷ numbers) = ap (λ (xs : List ℕ). irq ∷ xs) (they_come numbers)

  thread_frame : depth img (at_reset img).core ≡ 4 * img.thread_words
  thread_frame = let long = length-replicate {A = ℕ} img.thread_words 0 in omega (arith, long)

-- Some events lead from one state to another on the way to a third, without a fault.
pub record IsOnTheWay (p : Program) (floor top : ℕ) (m : Machine) (events : List Event) (last : Machine)
    : Type 0 where
  pub next : Machine
  pub no_fault : after p events (Some m) ≡ Some next
  pub within : IsWithin floor top next
  pub behind : Grows m next
  pub before : Grows next last

-- what is seen no more at the end was not seen on the way
unseen_between : (m n last : Machine) → Grows m n → Grows n last → last.seen ≡ m.seen → n.seen ≡ m.seen
unseen_between m n last g h same =
    let all : (h.0 ++ g.0) ++ m.seen ≡ m.seen =
    append_assoc h.0 g.0 m.seen ∙ (ap (λ (xs : List Seen). h.0 ++ xs) (sym g.1) ∙ (sym h.1 ∙ same)) in
    g.1 ∙ ap (λ (xs : List Seen). xs ++ m.seen) (none_behind h.0 g.0 (no_front (h.0 ++ g.0) m.seen all))

module _ (p : Program) (foreign : ℕ → Bool) (floor top : ℕ) where
  run_within_with : (e : ℕ) (is : List Instruction) (m last : Machine) → RunWithin p foreign floor top is m last
      → RunWithin p foreign floor top is (pended e m) (pended e last)
  run_within_with e [] m last run = ap (pended e) run
  run_within_with e (i ∷ is) m last (within, first, found, (next, does, rest)) = (
    within,
    alone_with e foreign i m first,
    found,
    (
      pended e next,
      effects_with e m p.port i ∙ ap (option_map (pended e)) does,
      run_within_with e is next last rest,
    ),
  )

  run_within_changed : (address value : ℕ) (is : List Instruction) (m last : Machine)
      → foreign (address / 4) ≡ true → RunWithin p foreign floor top is m last
      → RunWithin p foreign floor top is (with_word address value m) (with_word address value last)
  run_within_changed address value [] m last is_foreign run = ap (with_word address value) run
  run_within_changed address value (i ∷ is) m last is_foreign (within, first, found, (next, does, rest)) = (
    within,
    alone_changed foreign address value i m is_foreign first,
    found,
    (
      with_word address value next,
      effects_beside address value m p.port i (first.apart (address / 4) is_foreign)
          ∙ ap (option_map (with_word address value)) does,
      run_within_changed address value is next last is_foreign rest,
    ),
  )

  starts : (is : List Instruction) (m last : Machine) → RunWithin p foreign floor top is m last
      → IsWithin floor top last
      → IsWithin floor top m
  starts [] m last run ends =
      let same = ap (λ (x : Machine). x.register 13) run in (omega (arith, ends.0, same), omega (arith, ends.1, same))
  starts (i ∷ is) m last run ends = run.0

  goes_on : (m n last : Machine) (event : Event) (events : List Event)
      → after p (event ∷ events) (Some m) ≡ after p events (Some n) → Grows m n
      → IsOnTheWay p floor top n events last → IsOnTheWay p floor top m (event ∷ events) last
  goes_on m n last event events goes grows x = record {
    next = x.next;
    no_fault = goes ∙ x.no_fault;
    within = x.within;
    behind = grows_on m n x.next grows x.behind;
    before = x.before;
  }

  requested : (e : ℕ) (m last : Machine) (event : Event) (events : List Event)
      → after p (event ∷ events) (Some m) ≡ after p events (Some (pended e m))
      → IsOnTheWay p floor top (pended e m) events (pended e last)
      → IsOnTheWay p floor top m (event ∷ events) last
  requested e m last event events goes x = record {
    next = x.next;
    no_fault = goes ∙ x.no_fault;
    within = x.within;
    behind = x.behind;
    before = x.before;
  }

  changed : (address value : ℕ) (m last : Machine) (events : List Event)
      → IsOnTheWay p floor top (with_word address value m) events (with_word address value last)
      → IsOnTheWay p floor top m (Changes address value ∷ events) last
  changed address value m last events x = record {
    next = x.next;
    no_fault = x.no_fault;
    within = x.within;
    behind = x.behind;
    before = x.before;
  }

  -- so it is within a run, whatever comes
  on_the_way : (is : List Instruction) (events : List Event) (m last : Machine) → ChangeOnly foreign events
      → RunWithin p foreign floor top is m last
      → IsWithin floor top last → goings events ≤ length is → IsOnTheWay p floor top m events last
  on_the_way is [] m last only run ends few = record {
    next = m;
    no_fault = refl;
    within = starts is m last run ends;
    behind = ([], refl);
    before = run_adds p foreign is m last (at_top p foreign floor top is m last run);
  }
  on_the_way is (Arrives irq ∷ events) m last only run ends few =
      requested (external irq) m last (Arrives irq) events refl
      (on_the_way is events (pended (external irq) m) (pended (external irq) last) only
      (run_within_with (external irq) is m last run) ends few)
  on_the_way is (Ticks ∷ events) m last only run ends few =
      requested systick m last Ticks events refl
      (on_the_way is events (pended systick m) (pended systick last) only (run_within_with systick is m last run) ends
      few)
  on_the_way is (Changes address value ∷ events) m last only run ends few =
      changed address value m last events
      (on_the_way is events (with_word address value m) (with_word address value last) only.1
      (run_within_changed address value is m last only.0 run) ends few)
  on_the_way [] (Goes ∷ events) m last only run ends few = absurd (omega (arith, few))
  on_the_way (i ∷ is) (Goes ∷ events) m last only (within, first, found, (next, does, rest)) ends few =
      goes_on m next last Goes events
      (ap (after p events) (ap (going p m) (none_at_top m (top_now foreign i m first)) ∙ (ap
      (executing p.port m) found ∙ does)))
      (adds_to_seen p.port m next i does) (on_the_way is events next last only rest ends (omega (arith, few)))
  on_the_way [] (GoesLate ∷ events) m last only run ends few = absurd (omega (arith, few))
  on_the_way (i ∷ is) (GoesLate ∷ events) m last only (within, first, found, (next, does, rest)) ends few =
      goes_on m next last GoesLate events (ap (after p events) (ap (executing p.port m) found ∙ does))
      (adds_to_seen p.port m next i does) (on_the_way is events next last only rest ends (omega (arith, few)))

  -- and from the first instruction on, which masks interrupts
  from_first : (is : List Instruction) (events : List Event) (m last : Machine)
      → ((irq : ℕ) → irq < IRQ_NUMBERS → is_enabled m (external irq) ≡ false) → m.is_pending systick ≡ false
      → p.code m.address ≡ Some instruction.DisableInterrupts → ChangeOnly foreign events
      → (outside : IsOutsideSystem foreign) → RunWithin p foreign floor top is (masked m) last
      → IsWithin floor top last → HasNoTickAtFirst events → goings events ≤ suc (length is)
      → IsOnTheWay p floor top m events last
  from_first is [] m last enabled quiet found only outside run ends early few = record {
    next = m;
    no_fault = refl;
    within = starts is (masked m) last run ends;
    behind = ([], refl);
    before = run_adds p foreign is (masked m) last (at_top p foreign floor top is (masked m) last run);
  }
  from_first is (Arrives irq ∷ events) m last enabled quiet found only outside run ends early few =
      requested (external irq) m last (Arrives irq) events refl
      (from_first is events (pended (external irq) m) (pended (external irq) last) enabled
      (ap (λ (b : Bool). b || m.is_pending systick) (not_equal systick (external irq) (λ e. omega (arith, e))) ∙ quiet)
      found only outside (run_within_with (external irq) is (masked m) last run) ends early few)
  from_first is (Ticks ∷ events) m last enabled quiet found only outside run ends early few = absurd early
  from_first is (Changes address value ∷ events) m last enabled quiet found only outside run ends early few =
      changed address value m last events
      (from_first is events (with_word address value m) (with_word address value last)
      (still_disabled foreign outside address value m only.0 enabled) quiet found only.1 outside
      (subst (λ (k : Machine). RunWithin p foreign floor top is k (with_word address value last))
      (sym (masked_changed address value m))
      (run_within_changed address value is (masked m) last only.0 run)) ends early few)
  from_first is (Goes ∷ events) m last enabled quiet found only outside run ends early few =
      goes_on m (masked m) last Goes events
      (ap (after p events) (ap (going p m) (none_enabled m enabled quiet) ∙ ap (executing p.port m) found)) ([], refl)
      (on_the_way is events (masked m) last only run ends (omega (arith, few)))
  from_first is (GoesLate ∷ events) m last enabled quiet found only outside run ends early few =
      goes_on m (masked m) last GoesLate events (ap (after p events) (ap (executing p.port m) found)) ([], refl)
      (on_the_way is events (masked m) last only run ends (omega (arith, few)))

-- code that only advances leaves the stack pointer
plain_is_steady : (i : Instruction) → IsPlain i → is_steady i ≡ true
plain_is_steady (instruction.BranchExchange r) plain = absurd plain
plain_is_steady (instruction.AddStack n) plain = absurd plain
plain_is_steady (instruction.SubtractStack n) plain = absurd plain
plain_is_steady (instruction.AddStackWide n) plain = absurd plain
plain_is_steady (instruction.SubtractStackWide n) plain = absurd plain
plain_is_steady i plain = refl

module _ (at : Outside) (img : Image) (places : List ℕ) (p : Program) (code : HasCode at img places p)
    (foreign : ℕ → Bool) (floor top : ℕ) where
  pub plain_within : (is : List Instruction) (m last : Machine) → AllByRecursion IsPlain is
      → RunAtTop p foreign is m last → IsWithin floor top m → RunWithin p foreign floor top is m last
  plain_within [] m last plain run within = run
  plain_within (i ∷ is) m last plain (first, found, (next, does, rest)) within =
      let same = stack_after at img places p code i m next (plain_is_steady i plain.0)
      (record { found = found; does = does }) in (
        within,
        first,
        found,
        (
          next,
          does,
          plain_within is next last plain.1 rest (omega (arith, within.0, same), omega (arith, within.1, same)),
        ),
      )

module _ (img : Image) (target : Target) (p : Program) (foreign : ℕ → Bool) (outside : IsOutsideSystem foreign)
    (m last : Machine) (is : List Instruction)
    (enabled : (irq : ℕ) → irq < IRQ_NUMBERS → is_enabled m (external irq) ≡ false)
    (quiet : m.is_pending systick ≡ false) (found : p.code m.address ≡ Some instruction.DisableInterrupts)
    (room : 4 * img.thread_words ≤ img.stack_bytes) where
  abbrev floor : ℕ
  floor = stack_top img target - 4 * img.thread_words

  pub is_in_reset : RunWithin p foreign floor (stack_top img target) is (masked m) last
      → IsWithin floor (stack_top img target) last → last.seen ≡ m.seen → (events : List Event)
      → goings events ≤ suc (length is) → HasNoTickAtFirst events → ChangeOnly foreign events
      → IsInReset img target p m events
  is_in_reset run ends same events few early only =
      let way = from_first p foreign floor (stack_top img target) is events m last enabled quiet found only outside run
      ends early few in
      let numbers = flat_map arrivals_at events in
      let deep : depth img (moment_after_all img (at_reset img) (arrived events)).core ≡ 4 * img.thread_words =
      as_deep img numbers (at_reset img) ∙ thread_frame img in
      record {
        next = way.next;
        no_fault = way.no_fault;
        seen = unseen_between m way.next last way.behind way.before same;
        can = can_come img target.inputs numbers (at_reset img);
        arrivals = they_come img numbers;
        unseen = come_unseen img numbers (at_reset img);
        low = omega (arith, way.within.0, room);
        high = way.within.1;
        deep = omega (arith, way.within.0, deep);
        frame = deep;
      }
