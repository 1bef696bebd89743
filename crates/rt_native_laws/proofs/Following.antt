-- Native code does what its image does, event after event.
use Rattle.std.proofs.Common.{◌≡◌, ◌∙◌, ℕ, ◌+◌, ◌-◌, ◌*◌, ◌%◌, ◌^◌, ◌<◌, ◌≤◌, ◌⊎◌, inl, inr, Bool, true, false}
use Rattle.std.proofs.Common.{List, [], ◌∷◌, ◌++◌, Option, Some, None, refl, sym, ap, subst, arith, length, map}
use Rattle.std.proofs.Common.{IfSome, ⊎_elim}
use Rattle.std.proofs.lemmas.Bool.{false≢true}
use Rattle.std.proofs.lemmas.List.{append-nil, length-map, length-replicate}
use Rattle.std.proofs.lemmas.List.Sums.{sum-map}
use Rattle.std.specs.List.{AllByRecursion}
use Rattle.std.specs.Prelude.{slice_index}
use Rattle.rt_ids.specs.declared.limits.TheConstants.{IRQ_NUMBERS}
use Rattle.rt_code.specs.Image.{Image}
use Rattle.rt_code.specs.declared.image.Handler.{Handler}
use Rattle.rt_code.specs.declared.image.IrqRow.{IrqRow}
use Rattle.rt_native.specs.Layout.{TICK_BYTES, flash_end, outside, stack_top, stub_places, stubs_at}
use Rattle.rt_native.specs.Program.{vectors}
use Rattle.rt_native.specs.Service.{calls_first, entrance_size, is_called}
use Rattle.rt_native.specs.Target.{Target}
use Rattle.rt_native.specs.declared.outside.Outside.{Outside}
use Rattle.rt_native.proofs.Ends.{ends, reset_at_is}
use Rattle.rt_priorities.specs.Vectors.{IsLoaded}
use Rattle.rt_priorities.proofs.Vectors.{length_vectors, place_within}
use Rattle.rt_thumb.specs.Exceptions.{external, systick}
use Rattle.rt_thumb.specs.Machine.{Machine}
use Rattle.rt_thumb.specs.Step as processor
use Rattle.rt_thumb.specs.Step.{Program, executed}
use Rattle.rt_native_laws.specs.Behaving.{HasEvenFrames, StaysGood}
use Rattle.rt_native_laws.specs.Functions.{FlashIsApart}
use Rattle.rt_native_laws.specs.InCall.{Within as InFunction}
use Rattle.rt_native_laws.specs.Linked.{LiesLinked}
use Rattle.rt_native_laws.specs.Loading.{IsExecuted}
use Rattle.rt_native_laws.specs.Moments.{AllCanHappen, AreFillings, Fills, Happening, Moment, at_reset}
use Rattle.rt_native_laws.specs.Moments.{moment_after, moment_after_all}
use Rattle.rt_native_laws.specs.Phases.{AlreadyDone, FunctionCall}
use Rattle.rt_native_laws.specs.Relating.{IsInPlace, IsOwnInstruction, IsWhere}
use Rattle.rt_native_laws.specs.Relating.{call_here, lowest, program_flash}
use Rattle.rt_native_laws.specs.Simulating.{IsFitFor, NativeSimulates, StandsBehindReset, StaysBeside, ticks}
use Rattle.rt_native_laws.proofs.Events.{At, OwnAt, OwnIsNext, Stands, Within, leads, one_if, owed_then, stays_behind}
use Rattle.rt_native_laws.proofs.Linked.{linked_code_is_there}
use Rattle.rt_native_laws.proofs.Marking.{marks_are_done}

none_called : (irq : ℕ) → is_called [] irq ≡ true → ⊥
none_called irq e = false≢true e

none_first : (irq : ℕ) (o : Option Handler) → calls_first [] irq o ≡ true → ⊥
none_first irq None e = false≢true e
none_first irq (Some h) e = none_called irq e

module _ (img : Image) (target : Target) (p : Program) (there : IsInPlace img target p)
    (no_functions : target.calls ≡ [])
    (ceiling : ℕ) (called : ℕ → Option Machine) (even_frames : HasEvenFrames img) where
  abbrev Where : (List Happening → Bool) → Moment → Machine → Type 0
  Where fits s m = Stands img target p there ceiling called even_frames fits s m

  -- no function is called
  own_instruction : (fits : List Happening → Bool) (s : Moment) (m : Machine) → (stands : Where fits s m)
      → OwnIsNext img target p there ceiling called even_frames fits s m stands
  own_instruction fits s m (At here) = by_call (call_here img target p ceiling called s m here.0) here.0.fresh.3
    where
      by_call : (o : Option FunctionCall) → IfSome o (λ call. (is_called target.calls call.irq ≡ true)
          × (call.stage ≡ InFunction → called (external call.irq) ≡ Some call.called)) → IsOwnInstruction o
      by_call None fresh = tt
      by_call (Some call) fresh =
          absurd (none_called call.irq (subst (λ (cs : List ℕ). is_called cs call.irq ≡ true) no_functions fresh.0))
  own_instruction fits s m (Within last here x low) = tt

  own_at : (event : processor.Event) (fits : List Happening → Bool) (s : Moment) (m : Machine)
      → (stands : Where fits s m)
      → OwnAt img target p there ceiling called even_frames event fits s m stands
  own_at (processor.Arrives irq) fits s m stands = tt
  own_at (processor.Changes address value) fits s m stands = tt
  own_at processor.Ticks fits s m stands = tt
  own_at processor.Goes fits s m stands = λ takes. own_instruction fits s m stands
  own_at processor.GoesLate fits s m stands = tt

  one_by_one : (event : processor.Event) (events : List processor.Event)
      → ticks (event ∷ events) ≡ ticks (event ∷ []) + ticks events
  one_by_one (processor.Arrives irq) events = omega arith
  one_by_one (processor.Changes address value) events = omega arith
  one_by_one processor.Ticks events = omega arith
  one_by_one processor.Goes events = omega arith
  one_by_one processor.GoesLate events = omega arith

  -- from where the processor stands it follows, where the time has room for all ticks
  pub follow : (events : List processor.Event) (fits : List Happening → Bool) (s : Moment) (m : Machine)
      → StaysGood img target.inputs ceiling fits s → (stands : Where fits s m)
      → s.core.time + owed_then img target p there ceiling called even_frames fits s m stands + ticks events + 2 < 2 ^
      32
      → StaysBeside img target p fits s m events
  follow [] fits s m stays stands bound = tt
  follow (event ∷ events) fits s m stays stands bound = λ fitting can_come.
      let l = leads img target p there ceiling called even_frames (ticks events) event fits s m stays stands fitting
      can_come (own_at event fits s m stands) (omega (arith, bound, one_by_one event events)) in (
        l.happened,
        l.next,
        l.beside,
        follow events (λ more. fits (l.happened ++ more)) (moment_after_all img s l.happened) l.next
            (stays_behind img target.inputs ceiling fits s l.happened l.beside.can stays) l.stands l.bound,
      )

-- what no event changes
module _ (img : Image) (target : Target) (p : Program) (words : List ℕ) (m : Machine) (image : IsFitFor img target p)
    (linked : LiesLinked img target p m) (stands : StandsBehindReset img target p words m) where
  abbrev at : Outside
  at = outside img target

  reaches : stack_top img target ≡ lowest img target p + img.stack_bytes
  reaches = omega arith

  entrances_low : (k : ℕ) → slice_index (stub_places img target) k < 0xE0000000
  entrances_low k =
      let all = ends img target in
      omega (
        arith,
        place_within (stubs_at img target) (map (entrance_size at target) img.irqs) k,
        sum-map (entrance_size at target) img.irqs,
        reset_at_is img target,
        all.reset,
        all.start,
        all.code,
        all.load,
        linked.loaded.fits,
        stands.executed.flash,
      )

  vectors_apart : (k : ℕ) → k < length (vectors img target)
      → (target.flash.address + 4 * k + 4 + TICK_BYTES ≤ lowest img target p) ⊎ (at.time + 8 ≤ target.flash.address +
      4 * k)
  vectors_apart k l =
      let all = ends img target in
      ⊎_elim
      (λ (x : flash_end img target ≤ target.ram.address).
      inl (omega (
        arith,
        x,
        l,
        length_vectors img target,
        all.fault,
        all.tick,
        all.stubs,
        all.reset,
        all.start,
        all.code,
        all.load,
      )))
      (λ (x : at.time + 8 ≤ target.flash.address). inr (omega (arith, x))) stands.apart

  table_within : (k : ℕ) → k < length (vectors img target)
      → target.flash.address + 4 * k + 4 ≤ target.flash.address + (flash_end img target - target.flash.address)
  table_within k l =
      let all = ends img target in
      omega (
        arith,
        l,
        length_vectors img target,
        all.fault,
        all.tick,
        all.stubs,
        all.reset,
        all.start,
        all.code,
        all.load,
      )

  first_word : target.flash.address + 4 ≤ flash_end img target
  first_word = omega (arith, table_within 0 (omega (arith, length_vectors img target)))

  flash_is_apart : FlashIsApart at (lowest img target p) (program_flash img target p)
  flash_is_apart = (
    ⊎_elim (λ (x : flash_end img target ≤ target.ram.address). inl (omega (arith, x, first_word)))
        (λ (x : at.time + 8 ≤ target.flash.address). inr x) stands.apart,
    omega (arith, linked.loaded.fits, stands.executed.flash, first_word),
  )

  pub there_is : IsInPlace img target p
  there_is = record {
    image = image;
    table = table_within;
    flash = flash_is_apart;
    has = linked_code_is_there img target linked.addresses linked.object p m linked.loaded linked.executed linked.linked
        stands.executed;
    laid = stands.laid;
    reach = reaches;
    entrances = entrances_low;
    apart = vectors_apart;
  }

  abbrev pub start : Moment
  start = moment_after img (at_reset img) (Fills words)

  pub where_is : (ceiling : ℕ) (called : ℕ → Option Machine) → IsWhere img target p ceiling called start m
  where_is ceiling called = record {
    tail = None;
    of_timer = tt;
    unpaid = start.core;
    owed = refl;
    top = stack_top img target;
    phase = AlreadyDone stands.thread;
    fresh = (omega arith, tt, tt, tt);
    waiting = (refl, stands.exception, stands.agrees.active, refl);
    agrees = record {
      declared = stands.agrees.declared;
      undeclared = stands.agrees.undeclared;
      pending = stands.agrees.pending;
      base_priority = stands.agrees.base_priority;
      is_masked = stands.agrees.is_masked;
      active = stands.agrees.active;
      values = stands.agrees.values;
      nested = stands.agrees.nested;
    };
    words = stands.holds_words;
    placed = (
      ap (λ (a : ℕ). a % 2) stands.address ∙ there_is.has.halfwords 0,
      (let low = there_is.has.addresses 0 in let is = stands.address in omega (arith, low, is)),
    );
    loaded = linked;
    tick = stands.tick;
    requests = length-replicate IRQ_NUMBERS false;
    alarm = tt;
    cells = length-map img.cells (λ cell. cell.first);
    frames = tt;
  }

  pub filled : AreFillings (at_reset img) words
  filled = record {
    long = stands.long ∙ sym (length-replicate img.thread_words 0);
    settled = λ k l. absurd (omega (arith, l));
  }

pub at_most_one : (b : Bool) → one_if b ≤ 1
at_most_one true = omega arith
at_most_one false = omega arith

-- a program that is linked with no function
pub lies_alone : (img : Image) (target : Target) (p : Program) (m : Machine) → target.calls ≡ []
    → IsLoaded img target p m
    → IsExecuted target p → LiesLinked img target p m
lies_alone img target p m no_functions loaded executes = record {
  object = p;
  addresses = λ irq. 0;
  loaded = loaded;
  executed = executes;
  linked = record {
    port = refl;
    fixed = λ a i found h. found;
    calls = λ k row found h. absurd (none_first row.number row.handler
        (subst (λ (cs : List ℕ). calls_first cs row.number row.handler ≡ true) no_functions h));
  };
  reached = λ irq h. absurd (none_here irq h);
  elsewhere = λ irq h. absurd (none_here irq h);
  frames = no_frames img.irqs;
}
  where
    none_here : (irq : ℕ) → is_called target.calls irq ≡ true → ⊥
    none_here irq h = none_called irq (subst (λ (cs : List ℕ). is_called cs irq ≡ true) no_functions h)

    no_frames : (rows : List IrqRow)
        → AllByRecursion (λ row. is_called target.calls row.number ≡ true → IfSome row.handler (λ h. 2 ≤ h.frame)) rows
    no_frames [] = tt
    no_frames (row ∷ rows) = (λ h. absurd (none_here row.number h), no_frames rows)

pub native_simulates : NativeSimulates
native_simulates img target p fits words m events image well behind few =
    let linked = lies_alone img target p m image.no_functions behind.loaded behind.stands.executed in
    let there = there_is img target p words m image.fit linked behind.stands in
    let ceiling = well.ceiling in
    let called : ℕ → Option Machine = λ e. None in
    let start_here = start img target p words m image.fit linked behind.stands in
    let stays = stays_behind img target.inputs ceiling fits (at_reset img) (Fills words ∷ [])
    (filled img target p words m image.fit linked behind.stands, tt) well.moments in
    let marked = marks_are_done img target p there ceiling called (λ more. fits (Fills words ∷ more)) start_here m stays
    (where_is img target p words m image.fit linked behind.stands ceiling called) in
    let first = Fills words ∷ marked.happened in
    let can : AllCanHappen img target.inputs (at_reset img) first =
    (filled img target p words m image.fit linked behind.stands, marked.can) in
    record {
      first = first;
      can = can;
      arrivals = marked.arrivals;
      unseen = marked.seen;
      follows = follow img target p there image.no_functions ceiling called well.frames events
          (λ more. fits (first ++ more)) (moment_after_all img (at_reset img) first) m
          (stays_behind img target.inputs ceiling fits (at_reset img) first can well.moments)
          (At (marked.here, λ f. marked.marks (ap fits (sym (append-nil first)) ∙ f)))
          (omega (arith, few, marked.time, at_most_one (m.is_pending systick)));
    }
