-- `load`, `store`, `loadat`, `storeat`, `emit` and `clock`.
use Rattle.std.proofs.Common.{◌≡◌, ◌≢◌, ◌∙◌, ℕ, suc, ◌+◌, ◌*◌, ◌/◌, ◌%◌, ◌^◌, ◌<◌, ◌≤◌, ◌⊎◌, inr, Bool, true}
use Rattle.std.proofs.Common.{List, [], ◌∷◌, ◌++◌, Option, Some, None, sym, refl, ap, subst, arith, length}
use Rattle.std.proofs.Common.{⊎_elim}
use Rattle.std.proofs.lemmas.List.{length-set}
use Rattle.std.proofs.lemmas.Option.{slice_get-get_or}
use Rattle.std.specs.Prelude.{if◌then◌else◌, slice_get, slice_index, slice_set, option_map, ◌==◌, ◌&&◌, ◌||◌, nat_lt}
use Rattle.std.specs.Prelude.{nat_le, bit_or}
use Rattle.std.specs.Option.{option_to_list}
use Rattle.rt_ids.specs.Operation.{wrapped_number as word}
use Rattle.rt_code.specs.Access.{Loads, Stores, cell_of}
use Rattle.rt_code.specs.Effect.{next_with_cell}
use Rattle.rt_code.specs.Image.{Image}
use Rattle.rt_code.specs.Operands.{are_there}
use Rattle.rt_code.specs.Stack.{words_of}
use Rattle.rt_code.specs.declared.instr.Instr.{Instr}
use Rattle.rt_code.specs.declared.instr.Instr.TheVariants as instr
use Rattle.rt_core.specs.Core.{Core}
use Rattle.rt_native.specs.Pieces.{address, read_slot, write_slot}
use Rattle.rt_native.specs.Sequences.{cell, load_word, store_word, load_word_at, store_word_at}
use Rattle.rt_native.specs.declared.outside.Outside.{Outside}
use Rattle.rt_thumb.specs.Effect.{behind, storing, stored}
use Rattle.rt_thumb.specs.Exceptions.{external}
use Rattle.rt_thumb.specs.Machine.{Machine, Flags, Seen, Emitted, Posted, word_at, with_word}
use Rattle.rt_thumb.specs.Step.{Program}
use Rattle.rt_thumb.specs.declared.instruction.Instruction.{Instruction}
use Rattle.rt_thumb.specs.declared.instruction.Instruction.TheVariants as instruction
use Rattle.rt_trace.specs.declared.item.What.{What}
use Rattle.rt_trace.specs.declared.item.What.TheVariants as what
use Rattle.rt_native_laws.specs.Doing.{RunsInOne, IsAt, Becomes, LeadsInOne, seen_of}
use Rattle.rt_native_laws.specs.Laws.{LoadIsDone, StoreIsDone, LoadAtIsDone, StoreAtIsDone, EmitIsDone, ClockIsDone}
use Rattle.rt_native_laws.specs.Own.{Executes, RunsPrivately, Spans}
use Rattle.rt_native_laws.specs.Standing.{StandsFor, LieFrom, IsBeside, frames_end, caller_words}
use Rattle.rt_native_laws.proofs.Ending.{unless, first_there, slot_here, slot_ends, with_slot, place_stands, at_place}
use Rattle.rt_native_laws.proofs.Keeping.{written, words_kept, word_kept, words_written}
use Rattle.rt_native_laws.proofs.Pieces.{moved, IsSlot, IsMemory, slot_at, gets_slot, gets_address}
use Rattle.rt_native_laws.proofs.Pieces.{loading_is, storing_is, same, other}
use Rattle.rt_native_laws.proofs.Runs.{parts_of, runs_on}
use Rattle.rt_native_laws.proofs.Tests.{same_number}

-- a run within bounds, said otherwise
pub runs_within : (p : Program) (floor top floor2 top2 : ℕ) (code : List Instruction) (m n : Machine) → floor2 ≡ floor
    → top2 ≡ top → RunsPrivately p floor top code m n → RunsPrivately p floor2 top2 code m n
runs_within p floor top floor2 top2 code m n e f r =
    subst (λ (x : ℕ). RunsPrivately p x top2 code m n) (sym e)
    (subst (λ (x : ℕ). RunsPrivately p floor x code m n) (sym f) r)

-- a caller's frame has as many words as it had
pub caller_length : (places : List ℕ) (caller : Option (List ℕ))
    → length (caller_words places caller) ≡ length (words_of caller)
caller_length places None = refl
caller_length places (Some slots) = length-set slots _ _

module _ (at : Outside) (bottom : ℕ) (img : Image) (places : List ℕ) (p : Program) (i : Instr) (c : Core) (m : Machine)
    (here : IsAt at bottom img places p i c m) where
  -- where the code of the next instruction begins
  abbrev end : ℕ
  end = slice_index places (suc c.processor.address)

  -- an item of which others see nothing
  pub unseen : (after : Core) (said : Option What) (last : Machine) → seen_of said ≡ []
      → Becomes at bottom img places p c m after None last → Becomes at bottom img places p c m after said last
  unseen after said last e b = record {
    stands = b.stands;
    registers = b.registers;
    ends = b.ends;
    memory = b.memory;
    exception = b.exception;
    active = b.active;
    tick = b.tick;
    seen = b.seen ∙ ap (λ (x : List Seen). x ++ m.seen) (sym e);
  }

  -- the address of a cell
  pub cell_is : (k : ℕ) → k < length c.processor.cells → cell at k ≡ at.cells + 4 * k
  unfolding cell
  cell_is k l = let laid = here.laid in omega (arith, laid.time, laid.in_memory)

  pub cell_memory : (k : ℕ) → k < length c.processor.cells → IsMemory p.port (at.cells + 4 * k)
  cell_memory k l =
      let st = here.stands in let laid = here.laid in
      record {
        aligned = omega (arith, laid.aligned);
        no_port = λ e. ⊎_elim (λ (x : at.port < bottom). omega (arith, st.stack, st.frames, here.port))
            (λ (x : at.time + 8 ≤ at.port). omega (arith, laid.time, here.port)) laid.port_apart;
        below = omega (arith, laid.time, laid.in_memory);
      }

  -- a slot in r0, and an address in r1
  pub record Prepared (a s : ℕ) : Type 0 where
    pub register : ℕ → ℕ
    pub flags : Flags
    pub middle : ℕ
    pub runs : RunsPrivately p (m.register 13) (frames_end c m) (read_slot 0 s ++ address 1 a) m
        (moved m register flags middle)
    pub slot : register 0 ≡ slice_index c.processor.slots s
    pub address : register 1 ≡ a
    pub others : (k : ℕ) → 4 ≤ k → register k ≡ m.register k

  pub prepare : (a s : ℕ) (after : List Instruction) → s < length c.processor.slots
      → Spans p m.address ((read_slot 0 s ++ address 1 a) ++ after) end
      → (ready : Prepared a s) × Spans p ready.middle after end
  prepare a s after l code =
      let floor = m.register 13 in
      let top = frames_end c m in
      let qs = parts_of p m.address (read_slot 0 s ++ address 1 a) after end code in
      let ps = parts_of p m.address (read_slot 0 s) (address 1 a) qs.middle qs.first in
      let g = gets_slot p floor top 0 s m ps.middle refl (slot_here at bottom img places p i c m here s l) ps.first in
      let m1 = moved m g.register g.flags ps.middle in
      let h = gets_address p floor top 1 a m1 qs.middle refl ps.second in (
        record {
          register = h.register;
          flags = h.flags;
          middle = qs.middle;
          runs = runs_on p floor top (read_slot 0 s) (address 1 a) m m1 (moved m h.register h.flags qs.middle) g.runs
              h.runs;
          slot = h.others 0 (λ x. omega arith) (λ x. omega arith) ∙ (g.gets ∙ here.stands.slots s l);
          address = h.gets;
          others = λ k b. h.others k (λ x. omega arith) (λ x. omega arith)
              ∙ g.others k (λ x. omega arith) (λ x. omega arith);
        },
        qs.second,
      )

  -- a run with a load in its middle, and a slot written at its end
  pub loads_slot : (code front : List Instruction) (commit : Instruction) (d v : ℕ) (register : ℕ → ℕ) (flags : Flags)
      (from to : ℕ) → code ≡ front ++ commit ∷ write_slot 0 d → d < length c.processor.slots
      → RunsPrivately p (m.register 13) (frames_end c m) front m (moved m register flags from)
      → ((k : ℕ) → 4 ≤ k → register k ≡ m.register k)
      → Executes p commit (moved m register flags from) (moved m (λ k. if k == 0 then v else register k) flags to)
      → Spans p to (write_slot 0 d) end
      → (last : Machine)
      × RunsInOne p code (m.register 13) (frames_end c m) (last.register 13)
      (frames_end (with_slot at bottom img places p i c m here d v) last) m last
      × Becomes at bottom img places p c m (with_slot at bottom img places p i c m here d v) None last
      × (last.is_unsettled ≡ m.is_unsettled)
  loads_slot code front commit d v register flags from to parts l runs o commits span =
      let loaded : ℕ → ℕ = λ k. if k == 0 then v else register k in
      let e = slot_ends at bottom img places p i c m here d v l loaded flags to (same 0 v (register 0))
      (λ k g. other k 0 v (register k) (λ x. omega arith) ∙ o k g) span in
      let sp : (e.0).register 13 ≡ m.register 13 = e.2 in
      let long : length (slice_set c.processor.slots d v) ≡ length c.processor.slots =
      length-set c.processor.slots d v in
      let top : frames_end (with_slot at bottom img places p i c m here d v) e.0 ≡ frames_end c m = omega arith in (
        e.0,
        record {
          front = front;
          commit = commit;
          back = write_slot 0 d;
          parts = parts;
          ready = moved m register flags from;
          done = moved m loaded flags to;
          prepares = runs;
          commits = commits;
          completes = runs_within p (m.register 13) (frames_end c m) _ _ (write_slot 0 d) _ _ sp top e.1;
        },
        e.3,
        e.4,
      )

  -- the core with a cell written, at the next instruction
  abbrev pub with_cell : ℕ → ℕ → Core
  with_cell k v = record c { processor = next_with_cell c.processor k v }

  -- words beside the cells are none of them
  no_cell : (sp k : ℕ) → k < length c.processor.cells → (j : ℕ)
      → IsBeside at (m.register 13) sp (frames_end c m) j → j ≢ (at.cells + 4 * k) / 4
  no_cell sp k l j apart e =
      let st = here.stands in let laid = here.laid in
      let exact : 4 * j ≡ at.cells + 4 * k = omega (arith, laid.aligned) in
      ⊎_elim (λ (x : (4 * j + 4 ≤ m.register 13) × (4 * j + 4 ≤ sp)). omega (arith, x.0, st.frames))
      (λ (y : ((frames_end c m ≤ 4 * j) × (4 * j + 4 ≤ at.cells)) ⊎ (at.time + 8 ≤ 4 * j)).
      ⊎_elim (λ (x : (frames_end c m ≤ 4 * j) × (4 * j + 4 ≤ at.cells)). omega (arith, x.1))
      (λ (x : at.time + 8 ≤ 4 * j). omega (arith, laid.time)) y) apart

  -- the caller's frame lies below the cells
  pub caller_fits : m.register 13 + 4 * length c.processor.slots + 4 * length (caller_words places c.caller) ≤ at.cells
  caller_fits = omega (arith, here.stands.frames, caller_length places c.caller)

  -- the state behind a cell that is written
  pub cell_stands : (k v : ℕ) → k < length c.processor.cells → (register : ℕ → ℕ) (flags : Flags)
      → ((r : ℕ) → 4 ≤ r → register r ≡ m.register r)
      → Becomes at bottom img places p c m (with_cell k v) None
      (record (moved m register flags end) { memory = written m.memory (at.cells + 4 * k) v })
  cell_stands k v l register flags o =
      let st = here.stands in let laid = here.laid in
      let a = at.cells + 4 * k in
      let last = record (moved m register flags end) { memory = written m.memory a v } in
      let sp : register 13 ≡ m.register 13 = o 13 (omega arith) in
      let za : a % 4 ≡ 0 = omega (arith, laid.aligned) in
      let words : (base : ℕ) (ws : List ℕ) → base % 4 ≡ 0 → base + 4 * length ws ≤ at.cells → LieFrom m base ws
      → LieFrom last base ws = λ base ws z b h. words_kept m last a v base ws (λ j. refl) za z (inr (omega arith)) h in
      record {
        stands = record {
          address = refl;
          base_priority = st.base_priority;
          is_masked = st.is_masked;
          aligned = omega (arith, st.aligned);
          stack = omega (arith, st.stack);
          frames = omega (arith, st.frames);
          slots = subst (λ (x : ℕ). LieFrom last x c.processor.slots) (sym sp)
              (words (m.register 13) c.processor.slots st.aligned (omega (arith, st.frames)) st.slots);
          caller = subst (λ (x : ℕ). LieFrom last (x + 4 * length c.processor.slots) (caller_words places c.caller))
              (sym sp) (words (m.register 13 + 4 * length c.processor.slots) (caller_words places c.caller)
              (omega (arith, st.aligned)) caller_fits st.caller);
          cells = words_written m last v at.cells k c.processor.cells (λ j. refl) laid.aligned l st.cells;
          time = word_kept m last a v at.time c.time (λ j. refl) za (omega (arith, laid.aligned, laid.time))
              (omega (arith, laid.time)) st.time;
          alarm = word_kept m last a v (at.time + 4) _ (λ j. refl) za (omega (arith, laid.aligned, laid.time))
              (omega (arith, laid.time)) st.alarm;
          pending = st.pending;
        };
        registers = λ r g f. o r g;
        ends = omega arith;
        memory = λ j apart. other j (a / 4) v (m.memory j) (no_cell (register 13) k l j apart);
        exception = refl;
        active = refl;
        tick = refl;
        seen = refl;
      }

-- a cell whose number is computed is there
loads_there : (k s : ℕ) (slots cells : List ℕ) → s < length slots
    → are_there (option_to_list (option_map cell_of (option_map (λ n. Loads (k + n)) (slice_get slots s)))) cells ≡ true
    → k + slice_index slots s < length cells
loads_there k s slots cells l h =
    (first_there (k + slice_index slots s) [] cells (subst (λ (o : Option ℕ).
    are_there (option_to_list (option_map cell_of (option_map (λ n. Loads (k + n)) o))) cells ≡ true)
    (slice_get-get_or slots s 0 l) h)).0

stores_there : (k s : ℕ) (slots cells : List ℕ) → s < length slots
    → are_there (option_to_list (option_map cell_of (option_map (λ n. Stores (k + n)) (slice_get slots s)))) cells
    ≡ true
    → k + slice_index slots s < length cells
stores_there k s slots cells l h =
    (first_there (k + slice_index slots s) [] cells (subst (λ (o : Option ℕ).
    are_there (option_to_list (option_map cell_of (option_map (λ n. Stores (k + n)) o))) cells ≡ true)
    (slice_get-get_or slots s 0 l) h)).0

-- a load
pub load_is_done : LoadIsDone
unfolding load_word
load_is_done d k at bottom img places p c m here =
    unless img c (instr.Load d k) (LeadsInOne at bottom img places p (instr.Load d k) c m) (λ cells slots basepri.
    let i = instr.Load d k in
    let floor = m.register 13 in
    let top = frames_end c m in
    let there = (first_there k [] c.processor.cells cells).0 in
    let l = (first_there d [] c.processor.slots slots).0 in
    let a = cell at k in
    let exact = at.cells + 4 * k in
    let ps = parts_of p m.address (address 1 a) (instruction.Load 0 1 0 ∷ write_slot 0 d) _ here.code in
    let g = gets_address p floor top 1 a m ps.middle refl ps.first in
    let m1 = moved m g.register g.flags ps.middle in
    let is_cell : a ≡ exact = cell_is at bottom img places p i c m here k there in
    let mem : IsMemory p.port exact = cell_memory at bottom img places p i c m here k there in
    let to : word (g.register 1 + 0) ≡ exact = omega (arith, g.gets, is_cell, mem.below) in
    let value : word_at m exact ≡ slice_index c.processor.cells k = here.stands.cells k there in
    let found = loads_slot at bottom img places p i c m here (load_word a d) (address 1 a) (instruction.Load 0 1 0) d
    (slice_index c.processor.cells k) g.register g.flags ps.middle (ps.middle + 2) refl l g.runs
    (λ r h. g.others r (λ x. omega arith) (λ x. omega arith))
    (record {
      found = ps.second.0;
      does = loading_is (instruction.Load 0 1 0) 0 _ exact m1 to mem.aligned
          ∙ ap (λ (v : ℕ). Some (moved m (λ r. if r == 0 then v else g.register r) g.flags (ps.middle + 2))) value;
    }) ps.second.1 in
    (found.0, found.1, found.2, λ e. absurd (cc), λ r e. found.3 ∙ e))

pub clock_is_done : ClockIsDone
unfolding load_word
clock_is_done d at bottom img places p c m here =
    unless img c (instr.Clock d) (LeadsInOne at bottom img places p (instr.Clock d) c m) (λ cells slots basepri.
    let i = instr.Clock d in
    let laid = here.laid in
    let floor = m.register 13 in
    let top = frames_end c m in
    let l = (first_there d [] c.processor.slots slots).0 in
    let a = at.time in
    let ps = parts_of p m.address (address 1 a) (instruction.Load 0 1 0 ∷ write_slot 0 d) _ here.code in
    let g = gets_address p floor top 1 a m ps.middle refl ps.first in
    let m1 = moved m g.register g.flags ps.middle in
    let to : word (g.register 1 + 0) ≡ a = omega (arith, g.gets, laid.in_memory) in
    let found = loads_slot at bottom img places p i c m here (load_word a d) (address 1 a) (instruction.Load 0 1 0) d
    c.time g.register g.flags ps.middle (ps.middle + 2) refl l g.runs
    (λ r h. g.others r (λ x. omega arith) (λ x. omega arith))
    (record {
      found = ps.second.0;
      does = loading_is (instruction.Load 0 1 0) 0 _ a m1 to (omega (arith, laid.aligned, laid.time))
          ∙ ap (λ (v : ℕ). Some (moved m (λ r. if r == 0 then v else g.register r) g.flags (ps.middle + 2)))
          here.stands.time;
    }) ps.second.1 in (
      found.0,
      found.1,
      unseen at bottom img places p i c m here _ (Some (what.Clock c.time)) found.0 refl found.2,
      λ e. absurd (cc),
      λ r e. found.3 ∙ e,
    ))

pub load_at_is_done : LoadAtIsDone
unfolding load_word_at
load_at_is_done d k s at bottom img places p c m here =
    unless img c (instr.LoadAt d k s) (LeadsInOne at bottom img places p (instr.LoadAt d k s) c m)
    (λ cells slots basepri.
    let i = instr.LoadAt d k s in
    let ld = first_there d (s ∷ []) c.processor.slots slots in
    let ls = (first_there s [] c.processor.slots ld.1).0 in
    let n = slice_index c.processor.slots s in
    let there = loads_there k s c.processor.slots c.processor.cells ls cells in
    let a = cell at k in
    let exact = at.cells + 4 * (k + n) in
    let ready = prepare at bottom img places p i c m here a s (instruction.LoadIndexed 0 1 0 ∷ write_slot 0 d) ls
    here.code in
    let r = ready.0 in
    let m1 = moved m r.register r.flags r.middle in
    let base : a ≡ at.cells + 4 * k = cell_is at bottom img places p i c m here k (omega (arith, there)) in
    let mem : IsMemory p.port exact = cell_memory at bottom img places p i c m here (k + n) there in
    let to : word (r.register 1 + r.register 0 * 4) ≡ exact = omega (arith, r.address, r.slot, base, mem.below) in
    let value : word_at m exact ≡ slice_index c.processor.cells (k + n) = here.stands.cells (k + n) there in
    let found = loads_slot at bottom img places p i c m here (load_word_at a d s) (read_slot 0 s ++ address 1 a)
    (instruction.LoadIndexed 0 1 0) d (slice_index c.processor.cells (k + n)) r.register r.flags r.middle (r.middle + 4)
    refl ld.0 r.runs
    r.others
    (record {
      found = ready.1.0;
      does = loading_is (instruction.LoadIndexed 0 1 0) 0 _ exact m1 to mem.aligned
          ∙ ap (λ (v : ℕ). Some (moved m (λ x. if x == 0 then v else r.register x) r.flags (r.middle + 4))) value;
    }) ready.1.1 in
    (found.0, found.1, found.2, λ e. absurd (cc), λ r e. found.3 ∙ e))

-- a store: the commit is the last of its sequence
pub store_is_done : StoreIsDone
unfolding store_word
store_is_done k s at bottom img places p c m here =
    unless img c (instr.Store k s) (LeadsInOne at bottom img places p (instr.Store k s) c m) (λ cells slots basepri.
    let i = instr.Store k s in
    let there = (first_there k [] c.processor.cells cells).0 in
    let l = (first_there s [] c.processor.slots slots).0 in
    let a = cell at k in
    let exact = at.cells + 4 * k in
    let ready = prepare at bottom img places p i c m here a s (instruction.Store 0 1 0 ∷ []) l here.code in
    let r = ready.0 in
    let m1 = moved m r.register r.flags r.middle in
    let base : a ≡ exact = cell_is at bottom img places p i c m here k there in
    let mem : IsMemory p.port exact = cell_memory at bottom img places p i c m here k there in
    let to : word (r.register 1 + 0) ≡ exact = omega (arith, r.address, base, mem.below) in
    let v = slice_index c.processor.slots s in
    let last = record (moved m r.register r.flags (slice_index places (suc c.processor.address))) {
      memory = written m.memory exact v;
    } in (
      last,
      record {
        front = read_slot 0 s ++ address 1 a;
        commit = instruction.Store 0 1 0;
        back = [];
        parts = refl;
        ready = m1;
        done = last;
        prepares = r.runs;
        commits = record {
          found = ready.1.0;
          does = storing_is p.port (instruction.Store 0 1 0) 0 _ exact m1 to mem
              ∙ (ap (λ (x : ℕ). behind (instruction.Store 0 1 0) (with_word exact x m1)) r.slot
              ∙ ap (λ (x : ℕ). Some (record last { address = x })) (sym ready.1.1));
        };
        completes = refl;
      },
      cell_stands at bottom img places p i c m here k v there r.register r.flags r.others,
      λ e. absurd (cc),
      λ r e. e,
    ))

pub store_at_is_done : StoreAtIsDone
unfolding store_word_at
store_at_is_done k s from at bottom img places p c m here =
    unless img c (instr.StoreAt k s from)
    (LeadsInOne at bottom img places p (instr.StoreAt k s from) c m)
    (λ cells slots basepri.
    let i = instr.StoreAt k s from in
    let floor = m.register 13 in
    let top = frames_end c m in
    let ls = first_there s (from ∷ []) c.processor.slots slots in
    let lf = (first_there from [] c.processor.slots ls.1).0 in
    let n = slice_index c.processor.slots s in
    let v = slice_index c.processor.slots from in
    let there = stores_there k s c.processor.slots c.processor.cells ls.0 cells in
    let a = cell at k in
    let exact = at.cells + 4 * (k + n) in
    let outer = parts_of p m.address (read_slot 0 from ++ read_slot 2 s ++ address 1 a)
    (instruction.StoreIndexed 0 1 2 ∷ []) _ here.code in
    let inner = parts_of p m.address (read_slot 0 from ++ read_slot 2 s) (address 1 a) outer.middle outer.first in
    let reads = parts_of p m.address (read_slot 0 from) (read_slot 2 s) inner.middle inner.first in
    let f = gets_slot p floor top 0 from m reads.middle refl (slot_here at bottom img places p i c m here from lf)
    reads.first in
    let m1 = moved m f.register f.flags reads.middle in
    let sp : f.register 13 ≡ m.register 13 = f.others 13 (λ x. omega arith) (λ x. omega arith) in
    let ss = slot_here at bottom img places p i c m here s ls.0 in
    let slot : IsSlot top m1 s = record {
      aligned = omega (arith, ss.aligned);
      within = omega (arith, ss.within);
      memory = ss.memory;
    } in
    let g = gets_slot p floor top 2 s m1 inner.middle refl slot reads.second in
    let m2 = moved m g.register g.flags inner.middle in
    let h = gets_address p floor top 1 a m2 outer.middle refl inner.second in
    let m3 = moved m h.register h.flags outer.middle in
    let place : slot_at m1 s ≡ slot_at m s = omega arith in
    let r0 : h.register 0 ≡ v = h.others 0 (λ x. omega arith) (λ x. omega arith)
    ∙ (g.others 0 (λ x. omega arith) (λ x. omega arith) ∙ (f.gets ∙ here.stands.slots from lf)) in
    let r2 : h.register 2 ≡ n = h.others 2 (λ x. omega arith) (λ x. omega arith)
    ∙ (g.gets ∙ (ap (word_at m) place ∙ here.stands.slots s ls.0)) in
    let base : a ≡ at.cells + 4 * k = cell_is at bottom img places p i c m here k (omega (arith, there)) in
    let mem : IsMemory p.port exact = cell_memory at bottom img places p i c m here (k + n) there in
    let to : word (h.register 1 + h.register 2 * 4) ≡ exact = omega (arith, h.gets, r2, base, mem.below) in
    let last = record (moved m h.register h.flags (slice_index places (suc c.processor.address))) {
      memory = written m.memory exact v;
    } in (
      last,
      record {
        front = read_slot 0 from ++ read_slot 2 s ++ address 1 a;
        commit = instruction.StoreIndexed 0 1 2;
        back = [];
        parts = refl;
        ready = m3;
        done = last;
        prepares = runs_on p floor top (read_slot 0 from ++ read_slot 2 s) (address 1 a) m m2 m3
            (runs_on p floor top (read_slot 0 from) (read_slot 2 s) m m1 m2 f.runs g.runs) h.runs;
        commits = record {
          found = outer.second.0;
          does = storing_is p.port (instruction.StoreIndexed 0 1 2) 0 _ exact m3 to mem
              ∙ (ap (λ (x : ℕ). behind (instruction.StoreIndexed 0 1 2) (with_word exact x m3)) r0
              ∙ ap (λ (x : ℕ). Some (record last { address = x })) (sym outer.second.1));
        };
        completes = refl;
      },
      cell_stands at bottom img places p i c m here (k + n) v there h.register h.flags
          (λ k b. h.others k (λ x. omega arith) (λ x. omega arith) ∙ (g.others k (λ x. omega arith) (λ x. omega arith)
          ∙ f.others k (λ x. omega arith) (λ x. omega arith))),
      λ e. absurd (cc),
      λ r e. e,
    ))

-- what a store does that is not one to the port
abbrev pub otherwise : ℕ → ℕ → Machine → Machine
otherwise address value m =
    if address == 0xE000EF00
    then (let irq = value % 2 ^ 9 in
    record m {
      is_pending = λ k. (k == external irq) || m.is_pending k;
      is_unsettled = true;
      seen = Posted irq ∷ m.seen;
    })
    else if nat_le 0xE000E100 address && nat_lt address 0xE000E140
    then record (with_word address (bit_or (word_at m address) value) m) { is_unsettled = true }
    else with_word address value m

-- a store to the port
emitting_is : (port : ℕ) (i : Instruction) (t computed : ℕ) (m : Machine) → computed ≡ port → port % 4 ≡ 0
    → storing port i t computed m ≡ behind i (record m { seen = Emitted (m.register t) ∷ m.seen })
emitting_is port i t computed m e z =
    ap (λ (x : ℕ). storing port i t x m) e
    ∙ (ap (λ (x : ℕ). if x == 0 then behind i (stored port port (m.register t) m) else None) z
    ∙ ap (λ (x : Bool). behind i (if x then record m { seen = Emitted (m.register t) ∷ m.seen }
    else otherwise port (m.register t) m)) (same_number port port refl))

-- what others have seen is no part of what a state stands for
pub seen_stands : (at : Outside) (bottom : ℕ) (places : List ℕ) (c : Core) (m : Machine) (seen : List Seen)
    → StandsFor at bottom places c m → StandsFor at bottom places c (record m { seen = seen })
seen_stands at bottom places c m seen st = record {
  address = st.address;
  base_priority = st.base_priority;
  is_masked = st.is_masked;
  aligned = st.aligned;
  stack = st.stack;
  frames = st.frames;
  slots = st.slots;
  caller = st.caller;
  cells = st.cells;
  time = st.time;
  alarm = st.alarm;
  pending = st.pending;
}

pub emit_is_done : EmitIsDone
unfolding store_word
emit_is_done s at bottom img places p c m here =
    unless img c (instr.Emit s)
    (LeadsInOne at bottom img places p (instr.Emit s) c m)
    (λ cells slots basepri.
    let i = instr.Emit s in
    let l = (first_there s [] c.processor.slots slots).0 in
    let a = at.port in
    let ready = prepare at bottom img places p i c m here a s (instruction.Store 0 1 0 ∷ []) l here.code in
    let r = ready.0 in
    let m1 = moved m r.register r.flags r.middle in
    let laid = here.laid in
    let to : word (r.register 1 + 0) ≡ p.port = omega (arith, r.address, here.port, laid.port_is_word) in
    let v = slice_index c.processor.slots s in
    let plain = place_stands at bottom img places p i c m here (suc c.processor.address) r.register r.flags
    (slice_index places (suc c.processor.address)) r.others refl in
    let last = record (moved m r.register r.flags (slice_index places (suc c.processor.address))) {
      seen = Emitted v ∷ m.seen;
    } in (
      last,
      record {
        front = read_slot 0 s ++ address 1 a;
        commit = instruction.Store 0 1 0;
        back = [];
        parts = refl;
        ready = m1;
        done = last;
        prepares = r.runs;
        commits = record {
          found = ready.1.0;
          does = emitting_is p.port (instruction.Store 0 1 0) 0 _ m1 to (omega (arith, here.port, laid.port_aligned))
              ∙ (ap (λ (x : ℕ). behind (instruction.Store 0 1 0) (record m1 { seen = Emitted x ∷ m.seen })) r.slot
              ∙ ap (λ (x : ℕ). Some (record last { address = x })) (sym ready.1.1));
        };
        completes = refl;
      },
      record {
        stands = seen_stands at bottom places (at_place at bottom img places p i c m here (suc c.processor.address)) _
            (Emitted v ∷ m.seen) plain.stands;
        registers = plain.registers;
        ends = plain.ends;
        memory = plain.memory;
        exception = plain.exception;
        active = plain.active;
        tick = plain.tick;
        seen = refl;
      },
      λ e. absurd (cc),
      λ r e. e,
    ))
