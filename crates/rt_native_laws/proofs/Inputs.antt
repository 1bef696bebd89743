-- Inputs are read, one machine instruction after the other.
use Rattle.std.proofs.Common.{◌≡◌, ◌≢◌, ◌∙◌, ℕ, ◌+◌, ◌*◌, ◌/◌, ◌%◌, ◌^◌, ◌<◌, ◌≤◌, ◌⊎◌, inl, inr}
use Rattle.std.proofs.Common.{List, [], ◌∷◌, ◌++◌, Option, Some, sym, refl, ap, subst, arith, length, ⊎_elim}
use Rattle.std.proofs.Common.{append_assoc, flat_map, Bool, true, false, suc}
use Rattle.std.proofs.lemmas.List.{length-set}
use Rattle.std.specs.List.{AllByRecursion, filter}
use Rattle.std.specs.Prelude.{if◌then◌else◌, ◌==◌, drop, slice_index}
use Rattle.rt_code.specs.Image.{Image}
use Rattle.rt_code.specs.Stack.{words_of}
use Rattle.rt_code.specs.declared.image.Handler.{Handler}
use Rattle.rt_core.specs.Core.{Core}
use Rattle.rt_core.specs.Transfer.{core_after_entry, core_after_word}
use Rattle.rt_ids.specs.Choice.{IsIn}
use Rattle.rt_ids.specs.Operation.{wrapped_number as word}
use Rattle.rt_native.specs.Pieces.{address, open_frame}
use Rattle.rt_native.specs.Sequences.{branch, cell}
use Rattle.rt_native.specs.Service.{opening, read_input, stub}
use Rattle.rt_native.specs.declared.outside.Outside.{Outside}
use Rattle.rt_native.specs.declared.target.Input.{Input}
use Rattle.rt_priorities.proofs.Pieces.{halves}
use Rattle.rt_thumb.specs.Effect.{effect}
use Rattle.rt_thumb.specs.Exceptions.{external, entered}
use Rattle.rt_thumb.specs.Machine.{Machine, word_at}
use Rattle.rt_thumb.specs.Step.{Program}
use Rattle.rt_thumb.specs.declared.instruction.Instruction.{Instruction}
use Rattle.rt_thumb.specs.declared.instruction.Instruction.TheVariants as instruction
use Rattle.rt_native_laws.specs.Doing.{with_slots}
use Rattle.rt_native_laws.specs.Going.{HasCode}
use Rattle.rt_native_laws.specs.Inputs.{IsAtInputs, Reads, Enters, ReadingGoes, ReadingGoesOn}
use Rattle.rt_native_laws.specs.Inputs.{read_behind, EntryReadsInputs}
use Rattle.rt_native_laws.specs.Laws.{IsNoReturn}
use Rattle.rt_native_laws.specs.Own.{Executes, Spans}
use Rattle.rt_native_laws.specs.Reading.{IsInput, IsReading, Reading, AtLow, AtTop, AtLoad}
use Rattle.rt_native_laws.specs.Devices.{LoadsNext}
use Rattle.rt_native_laws.specs.Reading.{AtCellLow, AtCellTop, AtStore, Holds, passed, read_at}
use Rattle.rt_native_laws.specs.Standing.{IsLaidOut, StandsFor, HoldsWords, IsBeside}
use Rattle.rt_native_laws.proofs.Accesses.{caller_length}
use Rattle.rt_native_laws.proofs.Faultless.{HasNext}
use Rattle.rt_native_laws.proofs.Keeping.{written, word_kept, words_written}
use Rattle.rt_native_laws.proofs.Pieces.{moved, IsMemory, loading_is, storing_is, other}
use Rattle.rt_native_laws.proofs.Prefixes.{same_next}
use Rattle.rt_native_laws.proofs.Private.{equals}
use Rattle.rt_native_laws.proofs.Reading.{all_inputs}
use Rattle.rt_native_laws.proofs.Shapes.{stub_has_first}
use Rattle.rt_native_laws.proofs.Steady.{words_after}
use Rattle.rt_native_laws.proofs.Tail.{stands_with}
use Rattle.rt_native_laws.proofs.Unopened.{IsUnopened}
use Rattle.rt_native_laws.proofs.Waiting.{unopened_inside}

-- the load is none of the other stages
low_no_load : AtLow ≡ AtLoad → ⊥
low_no_load e = cc

top_no_load : AtTop ≡ AtLoad → ⊥
top_no_load e = cc

cell_no_load : AtCellLow ≡ AtLoad → ⊥
cell_no_load e = cc

cell_top_no_load : AtCellTop ≡ AtLoad → ⊥
cell_top_no_load e = cc

stages_differ : AtStore ≡ AtLoad → ⊥
stages_differ e = cc

-- words beside are no cell's
not_cell : (at : Outside) (bottom count : ℕ) → IsLaidOut at bottom count → (sp after top j k : ℕ) → sp ≤ at.cells
    → k < count → IsBeside at sp after top j → j ≢ (at.cells + 4 * k) / 4
not_cell at bottom count laid sp after top j k low there beside e =
    let exact : 4 * j ≡ at.cells + 4 * k = omega (arith, e, laid.aligned) in
    ⊎_elim (λ (y : (4 * j + 4 ≤ sp) × (4 * j + 4 ≤ after)). omega (arith, y.0, exact, low))
    (λ (z : ((top ≤ 4 * j) × (4 * j + 4 ≤ at.cells)) ⊎ (at.time + 8 ≤ 4 * j)).
    ⊎_elim (λ (y : (top ≤ 4 * j) × (4 * j + 4 ≤ at.cells)). omega (arith, y.1, exact))
    (λ (y : at.time + 8 ≤ 4 * j). omega (arith, y, exact, laid.time, there)) z) beside

module _ (at : Outside) (bottom : ℕ) (img : Image) (places : List ℕ) (p : Program) (to irq : ℕ) (h : Handler) (c : Core)
    (top : ℕ) (m : Machine) (u : IsUnopened at bottom img places p to h c top m) where
  pub begins : (declared : List Input) → m.exception ≡ external irq → (more : List Input)
      → AllByRecursion (IsInput (length c.processor.cells)) more
      → AllByRecursion (λ i. IsIn declared i × (i.irq ≡ irq)) more
      → Spans p m.address (flat_map (read_input at) more ++ stub at [] places to irq (Some h)) to
      → IsAtInputs at bottom img places p declared c top m
  unfolding read_input address
  begins declared inside [] all among span =
      let first = stub_has_first at places to irq h in
      Enters (record {
        to = to;
        irq = irq;
        handler = h;
        first = m;
        opens = record {
          laid = u.laid;
          addresses = u.addresses;
          low = u.low;
          code = span;
          entry = u.entry;
          frame = u.frame;
          free = u.free;
          room = u.room;
          stands = u.stands;
        };
        ends = u.ends;
        settled = u.settled;
        words = u.words;
        begun = record {
          passed = [];
          next = first.0;
          left = first.1;
          parts = first.2;
          fallen = omega arith;
          aligned = u.stands.aligned;
          prepares = refl;
        };
        deep = omega (arith, u.ends);
      })
  begins declared inside (j ∷ js) all among span =
      Reads (record {
        to = to;
        irq = irq;
        handler = h;
        input = j;
        more = js;
        inputs = all;
        declared = declared;
        among = among;
        exception = inside;
        stage = AtLow;
        value = 0;
        holds = tt;
        code = subst (λ (zs : List Instruction). Spans p m.address zs to)
            (append_assoc (read_input at j) (flat_map (read_input at) js) (stub at [] places to irq (Some h))) span;
        low = u.low;
        laid = u.laid;
        entry = u.entry;
        frame = u.frame;
        free = u.free;
        room = u.room;
        stands = u.stands;
        ends = u.ends;
        settled = u.settled;
        words = u.words;
      }) refl

module _ (at : Outside) (bottom : ℕ) (img : Image) (places : List ℕ) (p : Program) (c : Core) (top : ℕ) (m : Machine)
    (code : HasCode at img places p) (x : IsReading at bottom img places p c top m) where
  abbrev the_place : ℕ
  the_place = at.cells + 4 * x.input.cell

  is_there : x.input.cell < length c.processor.cells
  is_there = x.inputs.0.cell

  the_cell_is : cell at x.input.cell ≡ the_place
  unfolding cell
  the_cell_is = omega (arith, is_there, x.laid.time, x.laid.in_memory)

  memory_there : IsMemory p.port the_place
  memory_there = record {
    aligned = omega (arith, x.laid.aligned);
    no_port = λ e.
        ⊎_elim (λ (y : at.port < bottom). omega (arith, y, e, code.port, x.stands.stack, x.stands.frames))
        (λ (y : at.time + 8 ≤ at.port). omega (arith, y, e, code.port, is_there, x.laid.time)) x.laid.port_apart;
    below = omega (arith, is_there, x.laid.time, x.laid.in_memory);
  }

  abbrev left_of : Reading → List Instruction
  left_of stage =
      drop (passed stage) (read_input at x.input)
      ++ (flat_map (read_input at) x.more ++ stub at [] places x.to x.irq (Some x.handler))

  next_by : (stage : Reading) → Spans p m.address (left_of stage) x.to → Holds at x.input x.value m stage → HasNext p m
  unfolding read_input address
  next_by AtLow span holds = (_, _, record { found = span.0; does = refl })
  next_by AtTop span holds = (_, _, record { found = span.0; does = refl })
  next_by AtLoad span r1 = (
    instruction.Load 0 1 0,
    _,
    record {
      found = span.0;
      does = loading_is (instruction.Load 0 1 0) 0 (word (m.register 1 + 0)) x.input.address m
          (omega (arith, r1, x.inputs.0.address)) x.inputs.0.aligned;
    },
  )
  next_by AtCellLow span holds = (_, _, record { found = span.0; does = refl })
  next_by AtCellTop span holds = (_, _, record { found = span.0; does = refl })
  next_by AtStore span (r0, r1) = (
    instruction.Store 0 1 0,
    _,
    record {
      found = span.0;
      does = storing_is p.port (instruction.Store 0 1 0) 0 (word (m.register 1 + 0)) the_place m
          (omega (arith, r1, the_cell_is, memory_there.below)) memory_there;
    },
  )

  pub reading_has_next : HasNext p m
  reading_has_next = next_by x.stage x.code x.holds

module _ (at : Outside) (bottom : ℕ) (img : Image) (places : List ℕ) (p : Program) (c : Core) (top : ℕ) (m n : Machine)
    (executed : Instruction) (code : HasCode at img places p) (x : IsReading at bottom img places p c top m)
    (exec : Executes p executed m n) where
  abbrev count : ℕ
  count = length c.processor.cells

  abbrev input : Input
  input = x.input

  abbrev behind : List Instruction
  behind = flat_map (read_input at) x.more ++ stub at [] places x.to x.irq (Some x.handler)

  abbrev entry : ℕ
  entry = slice_index places x.handler.entry

  abbrev Result : Machine → Type 0
  Result y = ReadingGoes at bottom img places p c top x.stage input x.value x.declared m y

  none : length (words_of c.caller) ≡ 0
  none = ap (λ (o : Option (List ℕ)). length (words_of o)) x.free

  below_cells : m.register 13 ≤ at.cells
  below_cells = omega (arith, x.stands.frames)

  leads : (i : Instruction) (y : Machine) → p.code m.address ≡ Some i → effect p.port i m ≡ Some y → y ≡ n
  leads i y found does = same_next p i executed m y n (record { found = found; does = does }) exec

  words_then : (i : Instruction) (y : Machine) → p.code m.address ≡ Some i → effect p.port i m ≡ Some y
      → IsNoReturn i m → HoldsWords y
  words_then i y found does plain =
      words_after at img places p code i m y (record { found = found; does = does }) plain x.words

  -- registers alone are changed, and the next stage begins
  goes_to : (i : Instruction) (stage : Reading) (value : ℕ) (register : ℕ → ℕ) (to : ℕ)
      → read_at stage input value ≡ read_behind x.stage input x.value m
      → (x.stage ≡ AtLoad → LoadsNext p m input.address)
      → p.code m.address ≡ Some i → effect p.port i m ≡ Some (moved m register m.flags to) → IsNoReturn i m
      → ((k : ℕ) → 4 ≤ k → register k ≡ m.register k)
      → Spans p to (drop (passed stage) (read_input at input) ++ behind) x.to
      → Holds at input value (moved m register m.flags to) stage → Result n
  goes_to i stage value register to e loads found does plain o span holds =
      let y = moved m register m.flags to in
      let sp : register 13 ≡ m.register 13 = o 13 (omega arith) in
      let again : IsReading at bottom img places p c top y = record {
        to = x.to;
        irq = x.irq;
        handler = x.handler;
        input = input;
        more = x.more;
        inputs = x.inputs;
        declared = x.declared;
        among = x.among;
        exception = x.exception;
        stage = stage;
        value = value;
        holds = holds;
        code = span;
        low = x.low;
        laid = x.laid;
        entry = x.entry;
        frame = x.frame;
        free = x.free;
        room = omega (arith, sp, x.room);
        stands = stands_with at bottom places (with_slots at bottom img places p [] c) m entry register m.flags to sp
            x.stands;
        ends = sp ∙ x.ends;
        settled = x.settled;
        words = words_then i y found does plain;
      } in
      subst Result (leads i y found does) (record {
        phase = inl (again, ap (λ (r : Option (Input × ℕ)). (x.declared, r)) e);
        loads = loads;
        others = record {
          registers = λ k h g. o k h;
          memory = λ k h. refl;
          exception = refl;
          active = refl;
          tick = refl;
          seen = refl;
        };
      })

  abbrev place : ℕ
  place = at.cells + 4 * input.cell

  there : input.cell < count
  there = x.inputs.0.cell

  cell_is : cell at input.cell ≡ place
  cell_is = the_cell_is at bottom img places p c top m code x

  in_memory : IsMemory p.port place
  in_memory = memory_there at bottom img places p c top m code x

  abbrev after : Core
  after = core_after_word c input.cell x.value

  abbrev stored : Machine
  stored = record m { memory = written m.memory place x.value; address = m.address + 2 }

  as_many : length after.processor.cells ≡ count
  as_many = length-set c.processor.cells input.cell x.value

  stands_after : StandsFor at bottom places (with_slots at bottom img places p [] after)
      (record stored { address = entry })
  stands_after =
      let st = x.stands in
      let laid = x.laid in
      let before = record m { address = entry } in
      let last = record stored { address = entry } in
      let za : place % 4 ≡ 0 = omega (arith, laid.aligned) in
      record {
        address = st.address;
        base_priority = st.base_priority;
        is_masked = st.is_masked;
        aligned = st.aligned;
        stack = st.stack;
        frames = st.frames;
        slots = λ k l. absurd (omega (arith, l));
        caller = λ k l. absurd (omega (arith, l, caller_length places c.caller, none));
        cells = words_written before last x.value at.cells input.cell c.processor.cells (λ k. refl) laid.aligned there
            st.cells;
        time = word_kept before last place x.value at.time c.time (λ k. refl) za
            (omega (arith, laid.aligned, laid.time)) (λ e. omega (arith, e, there, laid.time)) st.time;
        alarm = word_kept before last place x.value (at.time + 4) _ (λ k. refl) za
            (omega (arith, laid.aligned, laid.time)) (λ e. omega (arith, e, there, laid.time)) st.alarm;
        pending = st.pending;
      }

  unopened : HoldsWords stored → IsUnopened at bottom img places p x.to x.handler after top stored
  unopened words = record {
    low = x.low;
    addresses = code.addresses;
    laid = subst (IsLaidOut at bottom) (sym as_many) x.laid;
    entry = x.entry;
    frame = x.frame;
    free = x.free;
    room = x.room;
    stands = stands_after;
    ends = x.ends;
    settled = x.settled;
    words = words;
  }

  stores : x.stage ≡ AtStore → p.code m.address ≡ Some (instruction.Store 0 1 0) → m.register 0 ≡ x.value
      → m.register 1 ≡ cell at input.cell → Spans p (m.address + 2) behind x.to → Result n
  stores stage found r0 r1 span =
      let i = instruction.Store 0 1 0 in
      let does : effect p.port i m ≡ Some stored =
      storing_is p.port i 0 (word (m.register 1 + 0)) place m (omega (arith, r1, cell_is, in_memory.below)) in_memory
      ∙ ap (λ (v : ℕ). Some (record stored { memory = written m.memory place v })) r0 in
      subst Result (leads i stored found does) (record {
        phase = inr (
          begins at bottom img places p x.to x.irq x.handler after top stored
              (unopened (words_then i stored found does tt)) x.declared x.exception x.more
              (all_inputs count (length after.processor.cells) as_many x.more x.inputs.1) x.among.1 span,
          subst (λ (v : ℕ). v < 2 ^ 32) r0 (x.words.registers 0),
          ap (λ (s : Reading). read_at s input x.value) stage,
        );
        loads = λ e. absurd (stages_differ (sym stage ∙ e));
        others = record {
          registers = λ k h g. refl;
          memory = λ k h. other k (place / 4) x.value (m.memory k)
              (not_cell at bottom count x.laid (m.register 13) (m.register 13) top k input.cell below_cells there h);
          exception = refl;
          active = refl;
          tick = refl;
          seen = refl;
        };
      })

  by_stage : (stage : Reading) → x.stage ≡ stage
      → Spans p m.address (drop (passed stage) (read_input at input) ++ behind) x.to
      → Holds at input x.value m stage → Result n
  unfolding read_input address
  by_stage AtLow e span holds =
      goes_to (instruction.MoveWide 1 (input.address % 2 ^ 16)) AtTop x.value
      (λ k. if k == 1 then input.address % 2 ^ 16 else m.register k) (m.address + 4)
      (ap (λ (y : Reading). read_behind y input x.value m) (sym e)) (λ f. absurd
      (low_no_load (sym e ∙ f))) span.0 refl tt
      (λ k h. other k 1 _ _ (λ f. omega (arith, f, h))) span.1 refl
  by_stage AtTop e span r1 =
      goes_to (instruction.MoveTop 1 (input.address / 2 ^ 16)) AtLoad x.value
      (λ k. if k == 1 then input.address / 2 ^ 16 * 2 ^ 16 + m.register 1 % 2 ^ 16 else m.register k) (m.address + 4)
      (ap (λ (y : Reading). read_behind y input x.value m) (sym e)) (λ f. absurd
      (top_no_load (sym e ∙ f))) span.0 refl tt
      (λ k h. other k 1 _ _ (λ f. omega (arith, f, h))) span.1
      (ap (λ (v : ℕ). input.address / 2 ^ 16 * 2 ^ 16 + v % 2 ^ 16) r1 ∙ halves input.address)
  by_stage AtLoad e span r1 =
      let i = instruction.Load 0 1 0 in
      let is = x.inputs.0 in
      let does = loading_is i 0 (word (m.register 1 + 0)) input.address m (omega (arith, r1, is.address)) is.aligned in
      goes_to i AtCellLow (word_at m input.address) (λ k. if k == 0 then word_at m input.address else m.register k)
      (m.address + 2) (ap (λ (y : Reading). read_behind y input x.value m) (sym e))
      (λ f. record {
        into = 0;
        base = 1;
        offset = 0;
        found = span.0;
        from = omega (arith, r1, is.address);
      }) span.0 does tt
      (λ k h. other k 0 _ _ (λ f. omega (arith, f, h))) span.1 refl
  by_stage AtCellLow e span r0 =
      goes_to (instruction.MoveWide 1 (cell at input.cell % 2 ^ 16)) AtCellTop x.value
      (λ k. if k == 1 then cell at input.cell % 2 ^ 16 else m.register k) (m.address + 4)
      (ap (λ (y : Reading). read_behind y input x.value m) (sym e)) (λ f. absurd
      (cell_no_load (sym e ∙ f))) span.0 refl tt
      (λ k h. other k 1 _ _ (λ f. omega (arith, f, h))) span.1 (r0, refl)
  by_stage AtCellTop e span (r0, r1) =
      goes_to (instruction.MoveTop 1 (cell at input.cell / 2 ^ 16)) AtStore x.value
      (λ k. if k == 1 then cell at input.cell / 2 ^ 16 * 2 ^ 16 + m.register 1 % 2 ^ 16 else m.register k)
      (m.address + 4) (ap (λ (y : Reading). read_behind y input x.value m) (sym e))
      (λ f. absurd (cell_top_no_load (sym e ∙ f))) span.0 refl tt
      (λ k h. other k 1 _ _ (λ f. omega (arith, f, h))) span.1
      (r0, ap (λ (v : ℕ). cell at input.cell / 2 ^ 16 * 2 ^ 16 + v % 2 ^ 16) r1 ∙ halves (cell at input.cell))
  by_stage AtStore e span (r0, r1) = stores e span.0 r0 r1 span.1

pub reading_goes_on : ReadingGoesOn
reading_goes_on at bottom img places p c top m n executed code x exec =
    by_stage at bottom img places p c top m n executed code x exec x.stage refl x.code x.holds

-- what an entry leads to, where inputs are read, in two parts
pub parts_of_stub : (at : Outside) (inputs : List Input) (places : List ℕ) (to irq : ℕ) (h : Handler)
    → stub at inputs places to irq (Some h)
    ≡ flat_map (read_input at) (filter (λ i. i.irq == irq) inputs) ++ stub at [] places to irq (Some h)
unfolding stub opening
parts_of_stub at inputs places to irq h =
    append_assoc (flat_map (read_input at) (filter (λ i. i.irq == irq) inputs)) (open_frame h.frame)
    (branch to (slice_index places h.entry))

-- the inputs of an interrupt are among all
one_later : (x : Input) (irq : ℕ) (xs ys : List Input) → AllByRecursion (λ i. IsIn xs i × (i.irq ≡ irq)) ys
    → AllByRecursion (λ i. IsIn (x ∷ xs) i × (i.irq ≡ irq)) ys
one_later x irq xs [] h = tt
one_later x irq xs (y ∷ ys) h = (((suc h.0.0.0, h.0.0.1), h.0.1), one_later x irq xs ys h.1)

pub among : (irq : ℕ) (xs : List Input)
    → AllByRecursion (λ i. IsIn xs i × (i.irq ≡ irq)) (filter (λ i. i.irq == irq) xs)
among irq [] = tt
among irq (x ∷ xs) =
    by_number (one_later x irq xs (filter (λ i. i.irq == irq) xs) (among irq xs)) (x.irq == irq) refl
  where
    by_number : AllByRecursion (λ i. IsIn (x ∷ xs) i × (i.irq ≡ irq)) (filter (λ i. i.irq == irq) xs) → (b : Bool)
        → (x.irq == irq) ≡ b
        → AllByRecursion (λ i. IsIn (x ∷ xs) i × (i.irq ≡ irq)) (if x.irq == irq
        then x ∷ filter (λ i. i.irq == irq) xs else filter (λ i. i.irq == irq) xs)
    by_number later true e =
        subst (λ (b : Bool). AllByRecursion (λ i. IsIn (x ∷ xs) i × (i.irq ≡ irq)) (if b
        then x ∷ filter (λ i. i.irq == irq) xs else filter (λ i. i.irq == irq) xs)) (sym e)
        (((0, refl), equals x.irq irq e), later)
    by_number later false e =
        subst (λ (b : Bool). AllByRecursion (λ i. IsIn (x ∷ xs) i × (i.irq ≡ irq)) (if b
        then x ∷ filter (λ i. i.irq == irq) xs else filter (λ i. i.irq == irq) xs)) (sym e) later

pub entry_reads_inputs : EntryReadsInputs
entry_reads_inputs at bottom img places p inputs to irq h c top m code laid can low inactive unmasked words fits within
    phase below all span room =
    begins at bottom img places p to irq h (core_after_entry c irq h) _ (entered (external irq) m)
    (unopened_inside at bottom img places p irq h c top m laid code.port can low inactive unmasked words fits within
    phase code to below room) inputs refl (filter (λ i. i.irq == irq) inputs) all (among irq inputs)
    (subst (λ (zs : List Instruction). Spans p (entered (external irq) m).address zs to)
    (parts_of_stub at inputs places to irq h) span)
