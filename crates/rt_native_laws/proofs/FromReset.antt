-- From reset on.
use Rattle.std.proofs.Common.{◌≡◌, ◌∙◌, ℕ, suc, ◌+◌, ◌-◌, ◌*◌, ◌/◌, ◌%◌, ◌^◌, ◌<◌, ◌≤◌, inl, inr, Bool, false}
use Rattle.std.proofs.Common.{List, [], ◌∷◌, Some, refl, sym, ap, subst, arith, length}
use Rattle.std.proofs.Common.{⊎_elim}
use Rattle.std.specs.List.{AllByRecursion}
use Rattle.std.specs.Prelude.{◌||◌, slice_index}
use Rattle.rt_ids.specs.declared.limits.TheConstants.{IRQ_NUMBERS}
use Rattle.rt_code.specs.Image.{Image}
use Rattle.rt_core.specs.Core.{reset as model_reset}
use Rattle.rt_native.specs.Layout.{TICK_BYTES, flash_end, load_at, outside, places, reset_at, stack_top}
use Rattle.rt_native.specs.Pieces.{bytes_of}
use Rattle.rt_native.specs.Program.{vectors}
use Rattle.rt_native.specs.Service.{reset}
use Rattle.rt_native.specs.Target.{Target}
use Rattle.rt_native.specs.declared.outside.Outside.{Outside}
use Rattle.rt_native.proofs.Ends.{ends}
use Rattle.rt_priorities.specs.Agreeing.{AgreesWith}
use Rattle.rt_priorities.specs.Lying.{LieFrom as CodeLies}
use Rattle.rt_priorities.specs.Setting.{IsOutsideSystem, IsSetUp, first_part, settings}
use Rattle.rt_priorities.specs.Vectors.{IsLoaded}
use Rattle.rt_priorities.proofs.Keeping.{others_keep_agreeing}
use Rattle.rt_priorities.proofs.Plain.{IsPlain, rows_plain}
use Rattle.rt_priorities.proofs.Setting.{masked, masked_changed, none_enabled, sets_up_masked, still_disabled}
use Rattle.rt_priorities.proofs.Vectors.{length_vectors}
use Rattle.rt_thumb.specs.Exceptions.{even, external, is_enabled, priority_of, systick}
use Rattle.rt_thumb.specs.Machine.{Machine, word_at, with_word}
use Rattle.rt_thumb.specs.Step.{Program, Event, Arrives, Changes, Ticks, Goes, GoesLate, after, executing, going}
use Rattle.rt_thumb.specs.Step.{pended}
use Rattle.rt_thumb.specs.declared.instruction.Instruction.{Instruction}
use Rattle.rt_thumb.specs.declared.instruction.Instruction.TheVariants as instruction
use Rattle.rt_thumb_laws.specs.Registers.{IsElsewhere}
use Rattle.rt_thumb_laws.specs.Undisturbed.{ChangeOnly, RunAtTop, goings, with_arrivals}
use Rattle.rt_thumb_laws.proofs.Undisturbed.{nothing_disturbs, run_changed, run_with}
use Rattle.rt_native_laws.specs.Devices.{is_devices}
use Rattle.rt_native_laws.specs.FromReset.{ComesBehindReset, HasNoTickAtFirst, IsMapped, ResetLeadsBehind, table}
use Rattle.rt_native_laws.specs.FromReset.{StandsAtReset}
use Rattle.rt_native_laws.specs.Going.{HasCode}
use Rattle.rt_native_laws.specs.Laws.{IsNoReturn}
use Rattle.rt_native_laws.specs.Linked.{LiesLinked}
use Rattle.rt_native_laws.specs.Own.{Spans}
use Rattle.rt_native_laws.specs.Resetting.{IsAtSecondPart, LeadsToReset, second_part}
use Rattle.rt_native_laws.specs.Simulating.{IsFitFor, stack_bottom}
use Rattle.rt_native_laws.specs.Standing.{HoldsWords}
use Rattle.rt_native_laws.proofs.Copying.{IsWithin, Led, at_top, led_on}
use Rattle.rt_native_laws.proofs.Devices.{devices_aside, devices_change_only, devices_outside, not_in_flash}
use Rattle.rt_native_laws.proofs.InReset.{is_in_reset, plain_within}
use Rattle.rt_native_laws.proofs.Linked.{linked_code_is_there, linked_service_lies}
use Rattle.rt_native_laws.proofs.Loading.{even_reset}
use Rattle.rt_native_laws.proofs.ResetPlaces.{first_lies, second_spans}
use Rattle.rt_native_laws.proofs.Resetting.{IsBehind, behind_it, longer, result, result_last}
use Rattle.rt_native_laws.proofs.Steady.{words_after}
use Rattle.rt_native_laws.proofs.Tests.{not_equal}

-- what comes before the first instruction, and then the instructions, with interrupts masked
module _ (p : Program) (foreign : ℕ → Bool) (outside : IsOutsideSystem foreign) (is : List Instruction) where
  from_first : (events : List Event) (m last : Machine)
      → ((irq : ℕ) → irq < IRQ_NUMBERS → is_enabled m (external irq) ≡ false) → m.is_pending systick ≡ false
      → p.code m.address ≡ Some instruction.DisableInterrupts → RunAtTop p foreign is (masked m) last
      → HasNoTickAtFirst events → ChangeOnly foreign events → goings events ≡ suc (length is)
      → after p events (Some m) ≡ Some (with_arrivals events last)
  from_first [] m last enabled quiet found run early only many = absurd (omega (arith, many))
  from_first (Arrives irq ∷ events) m last enabled quiet found run early only many =
      from_first events (pended (external irq) m) (pended (external irq) last) enabled
      (ap (λ (b : Bool). b || m.is_pending systick) (not_equal systick (external irq) (λ e. omega (arith, e))) ∙ quiet)
      found (run_with p foreign (external irq) is (masked m) last run) early only many
  from_first (Ticks ∷ events) m last enabled quiet found run early only many = absurd early
  from_first (Changes address value ∷ events) m last enabled quiet found run early only many =
      from_first events (with_word address value m) (with_word address value last)
      (still_disabled foreign outside address value m only.0 enabled) quiet found
      (subst (λ (k : Machine). RunAtTop p foreign is k (with_word address value last))
      (sym (masked_changed address value m))
      (run_changed p foreign address value is (masked m) last only.0 run)) early only.1 many
  from_first (Goes ∷ events) m last enabled quiet found run early only many =
      ap (after p events) (ap (going p m) (none_enabled m enabled quiet) ∙ ap (executing p.port m) found)
      ∙ nothing_disturbs p foreign is events (masked m) last only run (omega (arith, many))
  from_first (GoesLate ∷ events) m last enabled quiet found run early only many =
      ap (after p events) (ap (executing p.port m) found)
      ∙ nothing_disturbs p foreign is events (masked m) last only run (omega (arith, many))

-- code that only advances is no return, so it leaves words
plain_is_no_return : (i : Instruction) (m : Machine) → IsPlain i → IsNoReturn i m
plain_is_no_return (instruction.BranchExchange r) m plain = absurd plain
plain_is_no_return i m plain = tt

module _ (at : Outside) (img : Image) (places : List ℕ) (p : Program) (code : HasCode at img places p) where
  words_at_top : (foreign : ℕ → Bool) (is : List Instruction) (m last : Machine) → AllByRecursion IsPlain is
      → RunAtTop p foreign is m last → HoldsWords m → HoldsWords last
  words_at_top foreign [] m last plain run words = subst HoldsWords (sym run) words
  words_at_top foreign (i ∷ is) m last plain run words =
      words_at_top foreign is run.2.0 last plain.1 run.2.2
      (words_after at img places p code i m run.2.0 (record { found = run.1; does = run.2.1 })
      (plain_is_no_return i m plain.0) words)

module _ (img : Image) (target : Target) (p : Program) (m : Machine) (image : IsFitFor img target p)
    (mapped : IsMapped img target p) (linked : LiesLinked img target p m) (start : StandsAtReset img target p m) where
  abbrev at : Outside
  at = outside img target

  abbrev pl : List ℕ
  pl = places img target

  abbrev bottom : ℕ
  bottom = stack_bottom img target p

  abbrev load : ℕ
  load = load_at img target

  -- the words that devices change
  abbrev foreign : ℕ → Bool
  foreign = is_devices target

  -- the thread's frame
  abbrev floor : ℕ
  floor = stack_top img target - 4 * img.thread_words

  abbrev top : ℕ
  top = stack_top img target

  has : HasCode at img pl p
  has = linked_code_is_there img target linked.addresses linked.object p m linked.loaded linked.executed linked.linked
      start.executed

  -- the code of reset
  begun_here : CodeLies p (reset_at img target) (reset at target.tick img load)
  begun_here =
      (linked_service_lies img target linked.addresses linked.object p m linked.loaded linked.linked).1

  -- the first two words of the vector table
  table_is : (k : ℕ) → k < 16 → word_at m (table m + 4 * k) ≡ slice_index (vectors img target) k
  table_is k l =
      ap (λ (a : ℕ). word_at m (a + 4 * k)) linked.loaded.table
      ∙ linked.loaded.words k (omega (arith, l, length_vectors img target))

  stack_is : m.register 13 ≡ stack_top img target
  stack_is =
      start.reset.stack
      ∙ (ap (λ (a : ℕ). a - a % 4) (ap (word_at m) (omega arith) ∙ table_is 0 (omega arith))
      ∙ omega (arith, image.ram.0))

  reset_low : reset_at img target + 1 < 2 ^ 32
  reset_low =
      let all = ends img target in
      omega (arith, all.reset, all.start, all.code, all.load, linked.loaded.fits, start.executed.flash)

  address_is : m.address ≡ reset_at img target
  address_is =
      start.reset.address
      ∙ (ap even (table_is 1 (omega arith)) ∙ omega
      (arith, even_reset img target linked.object m linked.loaded, reset_low))

  end_is : load + 4 * (length img.cells + 2) ≤ 0xE0000000
  end_is = omega (arith, (ends img target).load, linked.loaded.fits, start.executed.flash)

  -- the first part
  code_first : CodeLies p m.address (first_part img)
  code_first =
      subst (λ (a : ℕ). CodeLies p a (first_part img)) (sym address_is) (first_lies img target p begun_here)

  elsewhere : IsElsewhere (Some p.port)
  elsewhere =
      ⊎_elim (λ (y : target.port < 0xE000E000). inl (omega (arith, y, start.executed.port)))
      (λ (y : 0xE000F000 ≤ target.port). inr (omega (arith, y, start.executed.port))) mapped.port

  led : (last : Machine) × RunAtTop p foreign (settings img) (masked m) last × IsSetUp img m last
  led = sets_up_masked p foreign img m image.set elsewhere (devices_outside target) start.reset.interrupts code_first

  middle : Machine
  middle = led.0

  set : IsSetUp img m middle
  unfolding middle
  set = led.2

  run : RunAtTop p foreign (settings img) (masked m) middle
  unfolding middle
  run = led.1

  first_words : HoldsWords middle
  first_words =
      words_at_top at img pl p has foreign (settings img) (masked m) middle (rows_plain img.irqs) run (record {
        registers = start.reset.words.registers;
        memory = start.reset.words.memory;
        base_priority = start.reset.words.base_priority;
      })

  middle_address : middle.address ≡ reset_at img target + bytes_of (first_part img)
  middle_address = set.address ∙ ap (λ (a : ℕ). a + bytes_of (first_part img)) address_is

  at_second : IsAtSecondPart at bottom target.tick img load pl p foreign middle
  at_second = record {
    laid = mapped.laid;
    has = has;
    port = mapped.port;
    code = subst (λ (a : ℕ). Spans p a (second_part at target.tick img load) (slice_index pl 0)) (sym middle_address)
        (second_spans img target p begun_here);
    is_masked = set.agrees.is_masked;
    base_priority = set.agrees.base_priority;
    stack = set.stack ∙ stack_is;
    room = omega (arith, image.runnable.sizes.thread_fits);
    values = λ k l.
        set.memory (load + 4 * k) (omega (arith, l, longer img.cells, end_is)) ∙ start.values k l;
    aligned = omega arith;
    in_space = omega (arith, end_is);
    apart = ⊎_elim
        (λ (y : flash_end img target ≤ target.ram.address). inl (omega (arith, y, (ends img target).load)))
        (λ (y : at.time + 8 ≤ target.flash.address).
        let all = ends img target in
        inr (omega (arith, y, all.fault, all.tick, all.stubs, all.reset, all.start, all.code))) mapped.apart;
    pending = λ irq l.
        ap (λ (f : ℕ → Bool). f (external irq)) set.is_pending ∙ start.reset.interrupts.pending irq l;
    words = first_words;
    stack_apart = λ k f. ⊎_elim (λ (y : 4 * k + 4 + TICK_BYTES ≤ bottom). inl (omega (arith, y)))
        (λ (y : at.time + 8 ≤ 4 * k). inr y) (devices_aside img target p image.fits image.ram k f);
    values_apart = λ k f.
        let all = ends img target in
        ⊎_elim (λ (y : 4 * k < target.flash.address). inl (omega (
          arith,
          y,
          image.flash.0,
          all.fault,
          all.tick,
          all.stubs,
          all.reset,
          all.start,
          all.code,
        )))
        (λ (y : target.flash.address + target.flash.size ≤ 4 * k). inr (omega (
          arith,
          y,
          all.load,
          image.fits.2,
        ))) (not_in_flash target k f);
    system_apart = devices_outside target;
  }

  -- the second part
  second : IsBehind at bottom target.tick img load pl p foreign middle at_second
  second = behind_it at bottom target.tick img load pl p foreign middle at_second

  led_to : LeadsToReset at bottom target.tick img load pl p foreign middle
  led_to = result at bottom target.tick img load pl p foreign middle at_second second

  same_last : led_to.last ≡ second.last
  unfolding led_to
  same_last = result_last at bottom target.tick img load pl p foreign middle at_second second

  whole : Led p foreign floor top (masked m) led_to.last
  whole =
      led_on p foreign floor top (masked m) middle led_to.last (record {
        executed = settings img;
        run = plain_within at img pl p has foreign floor top (settings img) (masked m) middle (rows_plain img.irqs) run
            (omega (arith, stack_is), omega (arith, stack_is));
      })
      (subst (λ (y : Machine). Led p foreign floor top middle y) (sym same_last) second.led)

  ends_within : IsWithin floor top led_to.last
  ends_within =
      let stack : led_to.last.register 13 ≡ floor = ap (λ (y : Machine). y.register 13) same_last ∙ second.stack in
      (omega (arith, stack), omega (arith, stack))

  system_kept : (a : ℕ) → 0xE000ED00 ≤ a → word_at led_to.last a ≡ word_at m a
  system_kept a h =
      led_to.system a (omega (arith, h)) (inr (omega (arith, h))) ∙ set.system a h

  flash_kept : (a : ℕ) → a % 4 ≡ 0 → target.flash.address ≤ a → a + 4 ≤ flash_end img target
      → word_at led_to.last a ≡ word_at m a
  flash_kept a whole_word low high =
      let all = ends img target in
      led_to.memory (a / 4)
      (⊎_elim (λ (y : flash_end img target ≤ target.ram.address). inl (omega (arith, y, high, whole_word)))
      (λ (y : at.time + 8 ≤ target.flash.address). inr (omega (arith, y, low, whole_word))) mapped.apart)
      (omega (arith, high, all.load, end_is))
      ∙ set.memory a (omega (arith, high, all.load, end_is))

  loaded_then : (object : Program) → IsLoaded img target object m → IsLoaded img target object led_to.last
  loaded_then object loaded = record {
    region = loaded.region;
    fits = loaded.fits;
    table = system_kept 0xE000ED08 (omega arith) ∙ loaded.table;
    words = λ k l.
        let all = ends img target in
        flash_kept (target.flash.address + 4 * k) (omega (arith, loaded.region.0)) (omega arith)
        (omega (
          arith,
          l,
          length_vectors img target,
          all.fault,
          all.tick,
          all.stubs,
          all.reset,
          all.start,
          all.code,
          all.load,
        )) ∙ loaded.words k l;
    code = loaded.code;
  }

  tick_then : priority_of led_to.last systick ≡ 0
  tick_then =
      ap (λ (w : ℕ). w / 2 ^ (8 * (0xE000ED23 % 4)) % 2 ^ 8) (system_kept 0xE000ED23 (omega arith)) ∙ start.reset.tick

  agrees_then : AgreesWith img (model_reset img) second.last
  agrees_then = others_keep_agreeing img (model_reset img) (model_reset img) middle second.last set.agrees (record {
    registers = λ a h f. second.system a (omega (arith, h)) (inr (omega (arith, h)));
    handlers = ap (λ (y : Machine). y.active) second.rest;
    contexts = refl;
    base_priority = ap (λ (y : Machine). y.base_priority) second.rest ∙ set.agrees.base_priority;
    is_masked = ap (λ (y : Machine). y.is_masked) second.rest ∙ set.agrees.is_masked;
    pending = λ irq l. ap (λ (y : Machine). y.is_pending (external irq)) second.rest ∙ set.agrees.pending irq l;
  })

  comes : ComesBehindReset img target p m
  comes = record {
    count = suc (length whole.executed);
    last = led_to.last;
    leads = λ events many early changes.
        from_first p foreign (devices_outside target) whole.executed events m led_to.last start.reset.interrupts.enabled
        start.reset.interrupts.tick code_first.0
        (at_top p foreign floor top whole.executed (masked m) led_to.last whole.run) early
        (devices_change_only target events changes) many;
    words = led_to.slots;
    stands = record {
      executed = start.executed;
      apart = mapped.apart;
      laid = mapped.laid;
      address = led_to.address;
      long = led_to.long;
      thread = led_to.thread;
      agrees = subst (AgreesWith img (model_reset img)) (sym same_last) agrees_then;
      exception = led_to.exception ∙ (set.exception ∙ start.reset.exception);
      tick = tick_then;
      holds_words = led_to.words;
    };
    still = loaded_then;
    no_tick = ap (λ (f : ℕ → Bool). f systick) (led_to.is_pending ∙ set.is_pending) ∙ start.reset.interrupts.tick;
    seen = led_to.seen ∙ set.seen;
    meanwhile = λ events few early changes.
        is_in_reset img target p foreign (devices_outside target) m led_to.last whole.executed start.reset.interrupts.enabled
        start.reset.interrupts.tick code_first.0 image.runnable.sizes.thread_fits whole.run ends_within
        (led_to.seen ∙ set.seen) events few early (devices_change_only target events changes);
  }

pub reset_leads_behind : ResetLeadsBehind
reset_leads_behind img target p m image mapped linked start = comes img target p m image mapped linked start
