-- A function of C runs first as an interrupt is taken.
use Rattle.std.proofs.Common.{◌≡◌, ◌≢◌, ◌∙◌, ℕ, ◌+◌, ◌-◌, ◌*◌, ◌/◌, ◌%◌, ◌^◌, ◌<◌, ◌≤◌}
use Rattle.std.proofs.Common.{List, [], ◌∷◌, ◌++◌, Option, Some, sym, refl, ap, subst, arith, length, ⊎_elim}
use Rattle.std.proofs.lemmas.Bool.{cases_eq}
use Rattle.std.proofs.lemmas.List.{get_or-set_same, get_or-set_other, length-set}
use Rattle.std.specs.List.{AllByRecursion, filter}
use Rattle.std.specs.Prelude.{if◌then◌else◌, ◌==◌, slice_index, slice_set}
use Rattle.rt_code.specs.Image.{Image}
use Rattle.rt_code.specs.Stack.{words_of}
use Rattle.rt_code.specs.declared.image.Handler.{Handler}
use Rattle.rt_core.specs.Core.{Core}
use Rattle.rt_core.specs.Transfer.{core_after_entry, core_after_word}
use Rattle.rt_ids.specs.Operation.{wrapped_number as word}
use Rattle.rt_native.specs.Service.{call_offset, keep_return, stub, take_return}
use Rattle.rt_native.specs.declared.outside.Outside.{Outside}
use Rattle.rt_native.specs.declared.target.Input.{Input}
use Rattle.rt_native.specs.declared.target.Region.{Region}
use Rattle.rt_thumb.specs.Exceptions.{even, external, entered}
use Rattle.rt_thumb.specs.Machine.{Machine, word_at}
use Rattle.rt_thumb.specs.Step.{Program}
use Rattle.rt_thumb.specs.declared.instruction.Instruction.{Instruction}
use Rattle.rt_thumb.specs.declared.instruction.Instruction.TheVariants as instruction
use Rattle.rt_native_laws.specs.Functions.{CallsFirst, EntryCallsFirst, FunctionsPutWords, FlashIsApart, HasComeBack}
use Rattle.rt_native_laws.specs.Functions.{IsCalled, IsOurs, OfCells, OfFlash, OfStack, OfSystem, OfTime, LeavesOurs}
use Rattle.rt_native_laws.specs.Functions.{RunsHarmlessly, cells_with, core_with_cells}
use Rattle.rt_native_laws.specs.Going.{HasCode}
use Rattle.rt_native_laws.specs.Inputs.{IsAtInputs}
use Rattle.rt_native_laws.specs.Moments.{HasBegun, with_core}
use Rattle.rt_native_laws.specs.Own.{Executes, Runs, Spans}
use Rattle.rt_native_laws.specs.Reading.{IsInput}
use Rattle.rt_native_laws.specs.Standing.{HoldsWords, IsLaidOut, LieFrom}
use Rattle.rt_native_laws.specs.InCall.{PreservesRegisters, displacement_to, linked_call, to_function}
use Rattle.rt_native_laws.proofs.Accesses.{caller_length}
use Rattle.rt_native_laws.proofs.Frames.{shifted}
use Rattle.rt_native_laws.proofs.Inputs.{among, begins, parts_of_stub}
use Rattle.rt_native_laws.proofs.Jumps.{leap_leads}
use Rattle.rt_native_laws.proofs.Keeping.{written as memory_with}
use Rattle.rt_native_laws.proofs.Pieces.{IsMemory, loading_is, moved, other, same, storing_is}
use Rattle.rt_native_laws.proofs.Reading.{all_inputs}
use Rattle.rt_native_laws.proofs.Steady.{words_after}
use Rattle.rt_native_laws.proofs.Unopened.{IsUnopened}
use Rattle.rt_native_laws.proofs.Waiting.{unopened_inside}

-- words that have come into cells: as many, and each is memory's or what it was
pub cells_long : (at : Outside) (m : Machine) (written cells : List ℕ)
    → length (cells_with at m written cells) ≡ length cells
cells_long at m [] cells = refl
cells_long at m (k ∷ written) cells =
    cells_long at m written (slice_set cells k (word_at m (at.cells + 4 * k)))
    ∙ length-set cells k (word_at m (at.cells + 4 * k))

-- where memory has all cells but those that are written
pub cells_lie : (at : Outside) (m : Machine) (written cells : List ℕ)
    → ((k : ℕ) → k < length cells → AllByRecursion (λ c. k ≢ c) written
    → word_at m (at.cells + 4 * k) ≡ slice_index cells k)
    → LieFrom m at.cells (cells_with at m written cells)
cells_lie at m [] cells lie = λ k l. lie k l tt
cells_lie at m (c ∷ written) cells lie =
    cells_lie at m written (slice_set cells c here) (λ k l none.
    let there : k < length cells = subst (λ (n : ℕ). k < n) (length-set cells c here) l in
    ⊎_elim
    (λ (e : k ≡ c).
    ap (λ (j : ℕ). word_at m (at.cells + 4 * j)) e
    ∙ (sym (get_or-set_same cells c here 0 (subst (λ (j : ℕ). j < length cells) e there))
    ∙ ap (slice_index (slice_set cells c here)) (sym e)))
    (λ (e : k ≢ c). lie k there (e, none) ∙ sym (get_or-set_other cells c k here 0 e)) (cases_eq k c))
  where
    here : ℕ
    here = word_at m (at.cells + 4 * c)

-- what a run of harmless instructions leaves
record IsKept (at : Outside) (flash : Region) (written : List ℕ) (called m n : Machine) : Type 0 where
  base_priority : n.base_priority ≡ m.base_priority
  is_masked : n.is_masked ≡ m.is_masked
  exception : n.exception ≡ m.exception
  active : n.active ≡ m.active
  requests : (e : ℕ) → n.is_pending e ≡ m.is_pending e
  settled : n.is_unsettled ≡ m.is_unsettled
  seen : n.seen ≡ m.seen
  memory : (k : ℕ) → IsOurs at flash written (called.register 13) k → n.memory k ≡ m.memory k
  words : HoldsWords n

kept : (at : Outside) (flash : Region) (written : List ℕ) (room : ℕ) (called : Machine) (between : List Machine)
    (m n : Machine) → HoldsWords m → RunsHarmlessly at flash written room called between m n
    → IsKept at flash written called m n
kept at flash written room called [] m n words e =
    subst (IsKept at flash written called m) (sym e) (record {
      base_priority = refl;
      is_masked = refl;
      exception = refl;
      active = refl;
      requests = λ k. refl;
      settled = refl;
      seen = refl;
      memory = λ k o. refl;
      words = words;
    })
kept at flash written room called (x ∷ between) m n words runs =
    let i = runs.0 in
    let r = kept at flash written room called between x n i.words runs.1 in
    record {
      base_priority = r.base_priority ∙ i.base_priority;
      is_masked = r.is_masked ∙ i.is_masked;
      exception = r.exception ∙ i.exception;
      active = r.active ∙ i.active;
      requests = λ e. r.requests e ∙ i.requests e;
      settled = r.settled ∙ i.settled;
      seen = r.seen ∙ i.seen;
      memory = λ k o. r.memory k o ∙ i.memory k o;
      words = r.words;
    }

-- how far a BL is from where its call begins
pub offset : call_offset ≡ 6
unfolding keep_return
offset = refl

-- none of some cells, said of their places
pub no_places : (at : Outside) (written : List ℕ) (j k : ℕ) → 4 * j ≡ at.cells + 4 * k
    → AllByRecursion (λ c. k ≢ c) written → AllByRecursion (λ c. 4 * j ≢ at.cells + 4 * c) written
no_places at [] j k e none = tt
no_places at (c ∷ written) j k e none =
    ((λ f. none.0 (omega (arith, e, f))), no_places at written j k e none.1)

module _ (at : Outside) (bottom : ℕ) (img : Image) (places : List ℕ) (p : Program) (inputs : List Input)
    (flash : Region) (written : List ℕ) (room function to irq : ℕ) (h : Handler) (c : Core) (m : Machine)
    (code : HasCode at img places p) (u : IsUnopened at bottom img places p to h c (m.register 13) m)
    (exception : m.exception ≡ external irq) (at_even : m.address % 2 ≡ 0) (eights : m.register 13 % 8 ≡ 0)
    (deep : bottom + room + 8 ≤ m.register 13) (reached : function < 2 ^ 32) (apart : FlashIsApart at bottom flash)
    (all : AllByRecursion (IsInput (length c.processor.cells)) (filter (λ i. i.irq == irq) inputs))
    (span : Spans p m.address (linked_call m.address function ++ stub at inputs places to irq (Some h)) to) where
  abbrev sp : ℕ
  sp = m.register 13

  -- where EXC_RETURN is kept
  abbrev kept_at : ℕ
  kept_at = sp - 8

  none : length (words_of c.caller) ≡ 0
  none = ap (λ (o : Option (List ℕ)). length (words_of o)) u.free

  below_cells : sp ≤ at.cells
  below_cells = omega (arith, u.stands.frames)

  falls : word (sp + (2 ^ 32 - 8)) ≡ kept_at
  falls = omega (arith, deep, u.words.registers 13)

  in_memory : IsMemory p.port kept_at
  in_memory = record {
    aligned = omega (arith, eights, deep);
    no_port = λ e.
        ⊎_elim (λ (y : at.port < bottom). omega (arith, y, e, code.port, deep))
        (λ (y : at.time + 8 ≤ at.port). omega (arith, y, e, code.port, below_cells, u.laid.time)) u.laid.port_apart;
    below = omega (arith, below_cells, u.laid.time, u.laid.in_memory);
  }

  abbrev fallen : Machine
  fallen = shifted m (λ k. if k == 13 then word (sp + (2 ^ 32 - 8)) else m.register k) (m.address + 2)

  abbrev stored : Machine
  stored = record fallen {
    memory = memory_with m.memory kept_at (m.register 14);
    address = m.address + 2 + 4;
  }

  abbrev called : Machine
  called = record stored {
    register = λ k. if k == 14 then m.address + 2 + 4 + 4 + 1 else stored.register k;
    address = word (m.address + 2 + 4 + 4 + displacement_to m.address function);
  }

  falls_by : Executes p (instruction.SubtractStack 8) m fallen
  unfolding keep_return
  falls_by = record { found = span.0; does = refl }

  stores_by : Executes p (instruction.StoreWide 14 13 0) fallen stored
  unfolding keep_return
  stores_by = record {
    found = span.1.0;
    does = storing_is p.port (instruction.StoreWide 14 13 0) 14 (word (fallen.register 13 + 0)) kept_at fallen
        (omega (arith, falls, in_memory.below)) in_memory;
  }

  calls_by : Executes p (instruction.Call (displacement_to m.address function)) stored called
  unfolding keep_return
  calls_by = record { found = span.1.1.0; does = refl }

  low : m.address + 2 + 4 < 0xE0000000
  low = code.low (m.address + 2 + 4) (instruction.Call (displacement_to m.address function)) calls_by.found

  called_words : HoldsWords called
  called_words =
      words_after at img places p code (instruction.Call (displacement_to m.address function)) stored called calls_by tt
      (words_after at img places p code (instruction.StoreWide 14 13 0) fallen stored stores_by tt
      (words_after at img places p code (instruction.SubtractStack 8) m fallen falls_by tt u.words))

  arrives : word (m.address + 2 + 4 + 4 + displacement_to m.address function) ≡ function
  arrives =
      leap_leads (m.address + 2 + 4) (m.address + call_offset + 4) function (omega (arith, offset))
      (omega (arith, offset, low)) reached

  runs : Runs p (to_function (displacement_to m.address function)) m called
  unfolding keep_return
  runs = (fallen, falls_by, (stored, stores_by, (called, calls_by, refl)))

  as_agreed : IsCalled bottom room function called
  as_agreed = record {
    address = arrives;
    stack = omega (arith, falls, eights, deep);
    free = omega (arith, falls, deep);
    link = omega (arith, at_even);
    settled = u.settled;
    words = called_words;
  }

  -- the word of EXC_RETURN is none of what waits, nor of what a core has
  not_kept : (k : ℕ) → IsOurs at flash written sp k → k ≢ kept_at / 4
  not_kept k ours e = by_kind ours
    where
      exact : 4 * k ≡ kept_at
      exact = omega (arith, e, in_memory.aligned)

      by_kind : IsOurs at flash written sp k → ⊥
      by_kind (OfStack from to) = omega (arith, from, exact, deep)
      by_kind (OfCells from to others) = omega (arith, from, exact, deep, below_cells)
      by_kind (OfTime from to) = omega (arith, from, exact, deep, below_cells, u.laid.time)
      by_kind (OfFlash from to) =
          ⊎_elim (λ (f : flash.address + flash.size ≤ bottom). omega (arith, to, exact, deep, f))
          (λ (f : at.time + 8 ≤ flash.address). omega (arith, from, exact, deep, below_cells, f, u.laid.time)) apart.0
      by_kind (OfSystem from to) = omega (arith, from, exact, in_memory.below)

  -- of the stack more is ours while the function runs
  ours_then : (k : ℕ) → IsOurs at flash written sp k → IsOurs at flash written (called.register 13) k
  ours_then k (OfStack from to) = OfStack (omega (arith, from, falls)) to
  ours_then k (OfCells from to others) = OfCells from to others
  ours_then k (OfTime from to) = OfTime from to
  ours_then k (OfFlash from to) = OfFlash from to
  ours_then k (OfSystem from to) = OfSystem from to

  module _ (back : Machine) (between : List Machine)
      (harmless : RunsHarmlessly at flash written room called between called back)
      (comes : HasComeBack called back) where
    r : IsKept at flash written called called back
    r = kept at flash written room called between called back called_words harmless

    back_at : back.address ≡ m.address + 2 + 4 + 4
    back_at =
        let e : even (m.address + 2 + 4 + 4 + 1) ≡ m.address + 2 + 4 + 4 = omega (arith, at_even) in comes.address ∙ e

    back_sp : back.register 13 ≡ kept_at
    back_sp = comes.stack ∙ falls

    -- EXC_RETURN is still there
    link_is : word_at back kept_at ≡ m.register 14
    link_is =
        r.memory (kept_at / 4)
        (OfStack (omega (arith, falls, in_memory.aligned)) (omega (arith, in_memory.aligned, below_cells, deep)))
        ∙ same (kept_at / 4) (m.register 14) (m.memory (kept_at / 4))

    abbrev loaded : Machine
    loaded = moved back (λ k. if k == 14 then word_at back kept_at else back.register k) back.flags (back.address + 4)

    abbrev last : Machine
    last = shifted loaded (λ k. if k == 13 then word (back.register 13 + 8) else loaded.register k)
        (back.address + 4 + 2)

    loads_by : Executes p (instruction.LoadWide 14 13 0) back loaded
    unfolding keep_return take_return
    loads_by = record {
      found = ap p.code back_at ∙ span.1.1.1.0;
      does = loading_is (instruction.LoadWide 14 13 0) 14 (word (back.register 13 + 0)) kept_at back
          (omega (arith, back_sp, in_memory.below)) in_memory.aligned;
    }

    rises_by : Executes p (instruction.AddStack 8) loaded last
    unfolding keep_return take_return
    rises_by = record {
      found = ap (λ (a : ℕ). p.code (a + 4)) back_at ∙ span.1.1.1.1.0;
      does = refl;
    }

    comes_by : Runs p take_return back last
    unfolding take_return
    comes_by = (loaded, loads_by, (last, rises_by, refl))

    last_sp : last.register 13 ≡ sp
    last_sp = omega (arith, back_sp, deep, u.words.registers 13)

    last_words : HoldsWords last
    last_words =
        words_after at img places p code (instruction.AddStack 8) loaded last rises_by tt
        (words_after at img places p code (instruction.LoadWide 14 13 0) back loaded loads_by tt r.words)

    -- a word that is ours is as at the entry
    ours_kept : (k : ℕ) → IsOurs at flash written sp k → last.memory k ≡ m.memory k
    ours_kept k ours =
        r.memory k (ours_then k ours) ∙ other k (kept_at / 4) (m.register 14) (m.memory k) (not_kept k ours)

    leaves : LeavesOurs at flash written sp m last
    leaves = record {
      memory = ours_kept;
      exception = r.exception;
      active = r.active;
      requests = r.requests;
      seen = r.seen;
    }

    registers_kept : PreservesRegisters m.register last
    registers_kept k f g h i =
        other k 13 _ _ h ∙ (other k 14 _ _ i ∙ (comes.registers k f g h i ∙ (other k 14 _ _ i ∙ other k 13 _ _ h)))

    abbrev cells : List ℕ
    cells = cells_with at last written c.processor.cells

    abbrev d : Core
    d = core_with_cells cells c

    as_many : length cells ≡ length c.processor.cells
    as_many = cells_long at last written c.processor.cells

    -- a word behind the cells
    value_kept : (a : ℕ) → a % 4 ≡ 0 → at.time ≤ a → a < at.time + 8 → word_at last a ≡ word_at m a
    value_kept a z from l = ours_kept (a / 4) (OfTime (omega (arith, z, from)) (omega (arith, z, l)))

    unopened : IsUnopened at bottom img places p to h d sp last
    unopened =
        let st = u.stands in
        record {
          low = u.low;
          addresses = u.addresses;
          laid = subst (IsLaidOut at bottom) (sym as_many) u.laid;
          entry = u.entry;
          frame = u.frame;
          free = u.free;
          room = omega (arith, u.room, last_sp);
          stands = record {
            address = st.address;
            base_priority = r.base_priority ∙ st.base_priority;
            is_masked = r.is_masked ∙ st.is_masked;
            aligned = omega (arith, st.aligned, last_sp);
            stack = omega (arith, st.stack, last_sp);
            frames = omega (arith, st.frames, last_sp);
            slots = λ k l. absurd (omega (arith, l));
            caller = λ k l. absurd (omega (arith, l, caller_length places c.caller, none));
            cells = cells_lie at last written c.processor.cells (λ k l apart_from.
                let a : 4 * ((at.cells + 4 * k) / 4) ≡ at.cells + 4 * k = omega (arith, u.laid.aligned) in
                ours_kept ((at.cells + 4 * k) / 4) (OfCells (omega (arith, a)) (omega (arith, a, l, u.laid.time))
                (no_places at written ((at.cells + 4 * k) / 4) k a apart_from)) ∙ st.cells k l);
            time = value_kept at.time (omega (arith, u.laid.aligned, u.laid.time)) (omega arith) (omega arith)
                ∙ st.time;
            alarm = value_kept (at.time + 4) (omega (arith, u.laid.aligned, u.laid.time)) (omega arith) (omega arith)
                ∙ st.alarm;
            pending = λ k l. r.requests (external k) ∙ st.pending k l;
          };
          ends = last_sp;
          settled = r.settled ∙ u.settled;
          words = last_words;
        }

    at_inputs : IsAtInputs at bottom img places p inputs d sp last
    unfolding keep_return take_return
    at_inputs =
        begins at bottom img places p to irq h d sp last unopened inputs (r.exception ∙ exception)
        (filter (λ i. i.irq == irq) inputs)
        (all_inputs (length c.processor.cells) (length cells) as_many (filter (λ i. i.irq == irq) inputs) all)
        (among irq inputs)
        (subst (λ (zs : List Instruction). Spans p last.address zs to) (parts_of_stub at inputs places to irq h)
        (subst (λ (a : ℕ). Spans p (a + 4 + 2) (stub at inputs places to irq (Some h)) to) (sym back_at)
        span.1.1.1.1.1))

  calls_first : CallsFirst at bottom img places p inputs flash written room function c m
  calls_first = record {
    called = called;
    calls = runs;
    as_agreed = as_agreed;
    behind = λ back between harmless comes. (
      last back between harmless comes,
      comes_by back between harmless comes,
      leaves back between harmless comes,
      registers_kept back between harmless comes,
      link_is back between harmless comes,
      at_inputs back between harmless comes,
    );
  }

pub entry_calls_first : EntryCallsFirst
entry_calls_first at bottom img places p inputs flash written room function to irq h c top m code laid can low inactive
    unmasked words fits within phase below all reached apart span frame deep =
    calls_first at bottom img places p inputs flash written room function to irq h (core_after_entry c irq h)
    (entered (external irq) m) code
    (unopened_inside at bottom img places p irq h c top m laid code.port can low inactive unmasked words fits within
    phase code to below frame) refl (omega arith) (omega (arith, can.stack, can.room)) (omega (arith, can.stack, deep))
    reached apart all span

-- one word after the other
pub functions_put_words : FunctionsPutWords
functions_put_words at img inputs irq [] s m all begun words = (tt, refl, refl)
functions_put_words at img inputs irq (k ∷ written) s m all begun words =
    let word_there = word_at m (at.cells + 4 * k) in
    let next = with_core s (core_after_word s.core k word_there) in
    let i = all.0 in
    let more = functions_put_words at img inputs irq written next m all.1 begun words in (
      (
        record {
          input = i.input;
          among = i.among;
          for_cell = i.for_cell;
          begun = subst (λ (n : ℕ). HasBegun n s.core.below s.last) (sym i.for_irq) begun;
          small = words.memory ((at.cells + 4 * k) / 4);
        },
        more.0,
      ),
      more.1,
      more.2,
    )
