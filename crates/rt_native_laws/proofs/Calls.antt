-- `call`.
use Rattle.std.proofs.Common.{◌≡◌, ◌≢◌, ◌∙◌, ℕ, suc, ◌+◌, ◌-◌, ◌*◌, ◌/◌, ◌%◌, ◌<◌, ◌≤◌, ◌⊎◌, inl, inr, Bool, true}
use Rattle.std.proofs.Common.{false}
use Rattle.std.proofs.Common.{List, [], ◌∷◌, ◌++◌, Option, Some, None, sym, refl, ap, subst, arith, length, ⊎_elim}
use Rattle.std.proofs.Common.{take, drop, replicate, map}
use Rattle.std.proofs.lemmas.Bool.{cases_eq}
use Rattle.std.proofs.lemmas.List.{length-set, get_or-set_same, get_or-set_other, set-set, length-take, length-drop}
use Rattle.std.proofs.lemmas.List.{get_or-take}
use Rattle.std.proofs.lemmas.List.{get_or-drop, get_or_append_left, length-append, length-replicate}
use Rattle.std.proofs.lemmas.List.FromFn.{length-map-range_with_len, get_or-map-range_with_len}
use Rattle.std.specs.List.{range_with_len}
use Rattle.std.specs.Prelude.{if◌then◌else◌, slice_get, slice_index, slice_set, nat_le, is_none, ◌==◌, ◌||◌}
use Rattle.rt_lemmas.proofs.Bools.{and_parts}
use Rattle.rt_ids.specs.Operation.{wrapped_number as word}
use Rattle.rt_code.specs.Image.{Image}
use Rattle.rt_code.specs.Stack.{words_of, last_slot, caller_frame, body_frame, arguments_fit}
use Rattle.rt_code.specs.declared.image.BodyRow.{BodyRow}
use Rattle.rt_code.specs.declared.instr.Instr.TheVariants as instr
use Rattle.rt_code.specs.declared.processor.Trap.TheVariants as trap
use Rattle.rt_core.specs.Core.{Core}
use Rattle.rt_core.specs.Outcome.{Trapped, Done}
use Rattle.rt_core.specs.Transfer.{call_row, call_fits, core_after_call, may_call, has_room}
use Rattle.rt_native.specs.Pieces.{address, write_slot, open_frame, leap}
use Rattle.rt_native.specs.Sequences.{RETURN_SLOT, branch, call, read_arguments, write_arguments}
use Rattle.rt_native.specs.declared.outside.Outside.{Outside}
use Rattle.rt_thumb.specs.Machine.{Machine, Flags, word_at}
use Rattle.rt_thumb.specs.Step.{Program}
use Rattle.rt_thumb.specs.declared.instruction.Instruction.{Instruction}
use Rattle.rt_thumb.specs.declared.instruction.Instruction.TheVariants as instruction
use Rattle.rt_trace.specs.declared.item.What.{What}
use Rattle.rt_native_laws.specs.Doing.{IsAt, CanCall, Calls, UnlessTrapped, machine_code, with_slots}
use Rattle.rt_native_laws.specs.Laws.{CallIsDone}
use Rattle.rt_native_laws.specs.Own.{RunsPrivately, Spans}
use Rattle.rt_native_laws.specs.Standing.{LieFrom, IsBeside, frames_end, caller_words}
use Rattle.rt_native_laws.proofs.Arguments.{reading, writing, reads_many, writes_many, slot_still}
use Rattle.rt_native_laws.proofs.Ending.{slot_here, slot_memory}
use Rattle.rt_native_laws.proofs.Frames.{opens}
use Rattle.rt_native_laws.proofs.Jumps.{end, same_end, leaps}
use Rattle.rt_native_laws.proofs.Accesses.{runs_within}
use Rattle.rt_native_laws.proofs.Keeping.{written, words_kept, word_kept, words_written}
use Rattle.rt_native_laws.proofs.Pieces.{moved, steps, other, gets_address, IsSlot, IsMemory, slot_at, puts_slot}
use Rattle.rt_native_laws.proofs.Runs.{parts_of, runs_on}
use Rattle.rt_native_laws.proofs.Tests.{at_most}

-- the words that lie from an address on
abbrev pub words_from : Machine → ℕ → ℕ → List ℕ
words_from m a n = map (λ k. word_at m (a + 4 * k)) (range_with_len 0 n)

pub long_words : (m : Machine) (a n : ℕ) → length (words_from m a n) ≡ n
long_words m a n = length-map-range_with_len (λ k. word_at m (a + 4 * k)) 0 n

pub word_of : (m : Machine) (a n k : ℕ) → k < n → slice_index (words_from m a n) k ≡ word_at m (a + 4 * k)
word_of m a n k l = get_or-map-range_with_len (λ j. word_at m (a + 4 * j)) 0 n k k 0 l (omega arith)

-- what the frame of a body has of its caller's
argument_words : (slots : List ℕ) (body : BodyRow) (s k : ℕ) → k < body.args → s + body.args ≤ length slots
    → slice_index (body_frame slots body s) k ≡ slice_index slots (s + k)
argument_words slots body s k l fits =
    let long : length (take body.args (drop s slots)) ≡ body.args =
    length-take body.args (drop s slots) ∙ omega (arith, length-drop s slots) in
    get_or_append_left (take body.args (drop s slots)) (replicate (body.frame - body.args) 0) 0 k (omega (arith, long))
    ∙ (get_or-take body.args (drop s slots) k 0 l ∙ get_or-drop s slots k 0)

pub frame_length : (slots : List ℕ) (body : BodyRow) (s : ℕ) → body.args ≤ body.frame
    → (body.args ≡ 0) ⊎ (s + body.args ≤ length slots) → length (body_frame slots body s) ≡ body.frame
frame_length slots body s fits there =
    let long : length (take body.args (drop s slots)) ≡ body.args =
    length-take body.args (drop s slots) ∙ ⊎_elim (λ (x : body.args ≡ 0). omega (arith, length-drop s slots))
    (λ (x : s + body.args ≤ length slots). omega (arith, length-drop s slots)) there in
    length-append (take body.args (drop s slots)) (replicate (body.frame - body.args) 0)
    ∙ omega (arith, long, length-replicate {A = ℕ} (body.frame - body.args) 0)

-- the frame of a handler that calls, as machine code keeps it
kept_words : (places slots : List ℕ) (next : ℕ) → length slots ≡ RETURN_SLOT + 1
    → caller_words places (Some (caller_frame slots next))
    ≡ slice_set slots RETURN_SLOT (word (slice_index places next + 1))
kept_words places slots next h =
    let d : last_slot slots ≡ RETURN_SLOT = omega arith in
    let frame = slice_set slots RETURN_SLOT next in
    let f : last_slot frame ≡ RETURN_SLOT = omega (arith, length-set slots RETURN_SLOT next) in
    ap (λ (x : ℕ). caller_words places (Some (slice_set slots x next))) d
    ∙ (ap (λ (x : ℕ). slice_set frame x (word (slice_index places (slice_index frame x) + 1))) f
    ∙ (ap (λ (x : ℕ). slice_set frame RETURN_SLOT (word (slice_index places x + 1)))
    (get_or-set_same slots RETURN_SLOT next 0 (omega arith)) ∙ set-set slots RETURN_SLOT next _))

module _ (at : Outside) (bottom : ℕ) (img : Image) (places : List ℕ) (p : Program) (row s : ℕ) (body : BodyRow)
    (c : Core) (m : Machine) (found : slice_get img.bodies row ≡ Some body)
    (here : IsAt at bottom img places p (instr.Call row s) c m) (can : CanCall at bottom img places p body s c m) where
  abbrev floor : ℕ
  floor = m.register 13 - 4 * body.frame

  abbrev top : ℕ
  top = frames_end c m

  -- where the code of the body begins
  abbrev entry : ℕ
  entry = slice_index places body.entry

  abbrev leaping : Instruction
  leaping = instruction.Branch (leap (end at bottom img places p c m) entry)

  -- the return address
  abbrev link : ℕ
  link = word (end at bottom img places p c m + 1)

  -- where the arguments begin, or any slot where there are none
  enough : (body.args ≡ 0) ⊎ (s + body.args ≤ RETURN_SLOT)
  enough = ⊎_elim (λ (z : body.args ≡ 0). inl z) (λ (z : body.args ≢ 0).
      inr (omega (arith, can.arguments (body.args - 1) (omega arith)))) (cases_eq body.args 0)

  -- the state behind a call
  pub record Called : Type 0 where
    pub register : ℕ → ℕ
    pub flags : Flags
    pub memory : ℕ → ℕ
    pub runs : RunsPrivately p floor top (machine_code at bottom img places p (instr.Call row s) c) m
        (record (moved m register flags entry) { memory = memory })
    pub sp : register 13 ≡ floor
    pub others : (k : ℕ) → 4 ≤ k → k ≢ 13 → register k ≡ m.register k
    pub arguments : (k : ℕ) → k < body.args → memory ((register 13 + 4 * k) / 4) ≡ slice_index c.processor.slots (s + k)
    pub rest : (k : ℕ) → ((j : ℕ) → j < body.args → k ≢ (floor + 4 * j) / 4)
        → memory k ≡ written m.memory (slot_at m RETURN_SLOT) link k

  -- an argument is none of the last slot
  argument : (k : ℕ) → k < body.args → (v a sp : ℕ) → a ≡ slot_at m RETURN_SLOT → sp ≡ m.register 13
      → written m.memory a v ((sp + 4 * (s + k)) / 4) ≡ slice_index c.processor.slots (s + k)
  argument k l v a sp e f =
      let st = here.stands in
      let before = can.arguments k l in
      other ((sp + 4 * (s + k)) / 4) (a / 4) v (m.memory ((sp + 4 * (s + k)) / 4))
      (λ x. omega (arith, st.aligned, before))
      ∙ (ap (λ (x : ℕ). m.memory ((x + 4 * (s + k)) / 4)) f ∙ st.slots (s + k) (omega (arith, can.frame, before)))

  -- where the frames lie
  in_memory : top ≤ 0xE0000000
  in_memory = omega (arith, here.stands.frames, here.laid.time, here.laid.in_memory)

  sum_down : floor + 4 * body.frame ≡ m.register 13
  sum_down = omega (arith, can.room)

  no_less : (n : ℕ) → n ≤ n
  no_less n = omega arith

  below_top : (sp : ℕ) → sp ≡ m.register 13 → sp ≤ top
  below_top sp e = omega arith

  last_there : RETURN_SLOT < length c.processor.slots
  last_there = omega (arith, can.frame)

  read_slot_there : (n : Machine) → n.register 13 ≡ m.register 13 → (k : ℕ) → k < body.args → IsSlot top n (s + k)
  read_slot_there n e k l =
      slot_still top (s + k) m n e (slot_here at bottom img places p (instr.Call row s) c m here (s + k)
      (omega (arith, can.frame, can.arguments k l)))

  -- a slot of the body's frame
  body_slot : (n : Machine) → n.register 13 ≡ floor → (k : ℕ) → k < body.args → body.args ≤ body.frame
      → IsSlot top n k × IsMemory p.port (slot_at n k)
  body_slot n e k l fits =
      let st = here.stands in
      let laid = here.laid in
      let a = n.register 13 + 4 * k in
      let sum = sum_down in
      let under : a + 4 ≤ m.register 13 = omega (arith, sum) in (
        record {
          aligned = omega (arith, st.aligned, sum);
          within = omega (arith, under);
          memory = in_memory;
        },
        record {
          aligned = omega (arith, st.aligned, sum);
          no_port = λ x. ⊎_elim (λ (y : at.port < bottom). omega (arith, sum, can.room, here.port))
              (λ (y : at.time + 8 ≤ at.port). omega (arith, under, st.frames, laid.time, here.port)) laid.port_apart;
          below = omega (arith, under, in_memory);
        },
      )

  -- small facts of numbers
  few : 0 + body.args ≤ 4
  few = omega (arith, can.few)

  sp_high : 4 ≤ 13
  sp_high = omega arith

  no_zero : (k : ℕ) → 4 ≤ k → k ≢ 0
  no_zero k h e = omega arith

  no_three : (k : ℕ) → 4 ≤ k → k ≢ 3
  no_three k h e = omega arith

  no_three_low : (k : ℕ) → k < 3 → k ≢ 3
  no_three_low k l e = omega arith

  zero_low : 0 < 3
  zero_low = omega arith

  no_sp : (k : ℕ) → k < body.args → k ≢ 13
  no_sp k l e = omega (arith, can.few)

  at_least : (k : ℕ) → 0 ≤ k
  at_least k = omega arith

  from_zero : (n k : ℕ) → k < 0 + n → k < n
  from_zero n k l = omega arith

  to_zero : (n k : ℕ) → k < n → k < 0 + n
  to_zero n k l = omega arith

  -- the parts of the code
  abbrev linking : List Instruction
  linking = address 0 link ++ write_slot 0 RETURN_SLOT

  abbrev reads : List Instruction
  reads = reading p floor top s 0 body.args

  abbrev writes : List Instruction
  writes = writing p floor top 0 body.args

  -- memory with the return address
  abbrev linked : ℕ → ℕ
  linked = written m.memory (slot_at m RETURN_SLOT) link

  abbrev state : (ℕ → ℕ) → Flags → (ℕ → ℕ) → ℕ → Machine
  state register flags memory to = record (moved m register flags to) { memory = memory }

  record Linked (to : ℕ) : Type 0 where
    pub register : ℕ → ℕ
    pub flags : Flags
    pub runs : RunsPrivately p floor top linking m (state register flags linked to)
    pub sp : register 13 ≡ m.register 13
    pub others : (k : ℕ) → 4 ≤ k → register k ≡ m.register k

  links : (to : ℕ) → Spans p m.address linking to → Linked to
  links to code =
      let i = instr.Call row s in
      let ps = parts_of p m.address (address 0 link) (write_slot 0 RETURN_SLOT) to code in
      let g = gets_address p floor top 0 link m ps.middle refl ps.first in
      let m1 = moved m g.register g.flags ps.middle in
      let sp : g.register 13 ≡ m.register 13 = g.others 13 (no_zero 13 sp_high) (no_three 13 sp_high) in
      let slot = slot_here at bottom img places p i c m here RETURN_SLOT last_there in
      let place : slot_at m1 RETURN_SLOT ≡ slot_at m RETURN_SLOT = ap (λ (x : ℕ). x + 4 * RETURN_SLOT) sp in
      let mem = subst (IsMemory p.port) (sym place)
      (slot_memory at bottom img places p i c m here RETURN_SLOT last_there) in
      let w = puts_slot p floor top 0 RETURN_SLOT m1 to (no_three_low 0 zero_low)
      (slot_still top RETURN_SLOT m m1 sp slot) mem ps.second in
      let memory : written m.memory (slot_at m1 RETURN_SLOT) (g.register 0) ≡ linked =
      ap (λ (x : ℕ). written m.memory x (g.register 0)) place ∙ ap (written m.memory (slot_at m RETURN_SLOT)) g.gets in
      record {
        register = w.register;
        flags = w.flags;
        runs = runs_on p floor top (address 0 link) (write_slot 0 RETURN_SLOT) m m1 (state w.register w.flags linked to)
            g.runs (subst (λ (x : ℕ → ℕ). RunsPrivately p floor top (write_slot 0 RETURN_SLOT) m1
            (state w.register w.flags x to)) memory w.runs);
        sp = w.others 13 (no_three 13 sp_high) ∙ sp;
        others = λ k h. w.others k (no_three k h) ∙ g.others k (no_zero k h) (no_three k h);
      }

  record Gathered (to : ℕ) : Type 0 where
    pub register : ℕ → ℕ
    pub flags : Flags
    pub runs : RunsPrivately p floor top (linking ++ reads) m (state register flags linked to)
    pub sp : register 13 ≡ m.register 13
    pub others : (k : ℕ) → 4 ≤ k → register k ≡ m.register k
    pub read : (k : ℕ) → k < body.args → register k ≡ slice_index c.processor.slots (s + k)

  gathers : (to : ℕ) → Spans p m.address (linking ++ reads) to → Gathered to
  gathers to code =
      let ps = parts_of p m.address linking reads to code in
      let g = links ps.middle ps.first in
      let m1 = state g.register g.flags linked ps.middle in
      let r = reads_many p floor top body.args s 0 m1 to few can.slots
      (λ k a b. read_slot_there m1 g.sp k (from_zero body.args k b)) ps.second in
      record {
        register = r.register;
        flags = r.flags;
        runs = runs_on p floor top linking reads m m1 (state r.register r.flags linked to) g.runs r.runs;
        sp = r.others 13 sp_high ∙ g.sp;
        others = λ k h. r.others k h ∙ g.others k h;
        read = λ k l. r.read k (at_least k) (to_zero body.args k l)
            ∙ argument k l link (slot_at m RETURN_SLOT) (g.register 13) refl g.sp;
      }

  record Opened (to : ℕ) : Type 0 where
    pub register : ℕ → ℕ
    pub flags : Flags
    pub runs : RunsPrivately p floor top (linking ++ reads ++ open_frame body.frame) m (state register flags linked to)
    pub sp : register 13 ≡ floor
    pub others : (k : ℕ) → 4 ≤ k → k ≢ 13 → register k ≡ m.register k
    pub read : (k : ℕ) → k < body.args → register k ≡ slice_index c.processor.slots (s + k)

  opens_up : (to : ℕ) → Spans p m.address (linking ++ reads ++ open_frame body.frame) to → Opened to
  opens_up to code =
      let ps = parts_of p m.address (linking ++ reads) (open_frame body.frame) to code in
      let g = gathers ps.middle ps.first in
      let m1 = state g.register g.flags linked ps.middle in
      let o = opens p floor top body.frame m1 floor to (sum_down ∙ sym g.sp) (no_less floor)
      (below_top (g.register 13) g.sp) in_memory ps.second in
      record {
        register = o.register;
        flags = g.flags;
        runs = runs_on p floor top (linking ++ reads) (open_frame body.frame) m m1 (state o.register g.flags linked to)
            g.runs o.runs;
        sp = o.sp;
        others = λ k h n. o.others k n ∙ g.others k h;
        read = λ k l. o.others k (no_sp k l) ∙ g.read k l;
      }

  record Filled (to : ℕ) : Type 0 where
    pub register : ℕ → ℕ
    pub flags : Flags
    pub memory : ℕ → ℕ
    pub runs : RunsPrivately p floor top (linking ++ reads ++ open_frame body.frame ++ writes) m
        (state register flags memory to)
    pub sp : register 13 ≡ floor
    pub others : (k : ℕ) → 4 ≤ k → k ≢ 13 → register k ≡ m.register k
    pub arguments : (k : ℕ) → k < body.args → memory ((register 13 + 4 * k) / 4) ≡ slice_index c.processor.slots (s + k)
    pub rest : (k : ℕ) → ((j : ℕ) → j < body.args → k ≢ (floor + 4 * j) / 4) → memory k ≡ linked k

  fills : body.args ≤ body.frame → (to : ℕ)
      → Spans p m.address (linking ++ reads ++ open_frame body.frame ++ writes) to → Filled to
  fills fits to code =
      let ps = parts_of p m.address (linking ++ reads ++ open_frame body.frame) writes to code in
      let o = opens_up ps.middle ps.first in
      let m1 = state o.register o.flags linked ps.middle in
      let v = writes_many p floor top body.args 0 m1 to few
      (λ k a b. body_slot m1 o.sp k (from_zero body.args k b) fits) ps.second in
      record {
        register = o.register;
        flags = o.flags;
        memory = v.memory;
        runs = runs_on p floor top (linking ++ reads ++ open_frame body.frame) writes m m1
            (state o.register o.flags v.memory to) o.runs v.runs;
        sp = o.sp;
        others = o.others;
        arguments = λ k l. v.wrote k (at_least k) (to_zero body.args k l) ∙ o.read k l;
        rest = λ k apart. v.kept k (λ j a b. λ f. apart j (from_zero body.args j b)
            (f ∙ ap (λ (x : ℕ). (x + 4 * j) / 4) o.sp));
      }

  -- the code of a call of the body
  called_code : call places (end at bottom img places p c m) s (Some body)
      ≡ linking ++ reads ++ open_frame body.frame ++ writes ++ leaping ∷ []
  unfolding call read_arguments write_arguments branch
  called_code = refl

  called : body.args ≤ body.frame → Called
  called fits =
      let e = end at bottom img places p c m in
      let all = linking ++ reads ++ open_frame body.frame ++ writes in
      let same_code : machine_code at bottom img places p (instr.Call row s) c ≡ all ++ leaping ∷ [] =
      ap (λ (o : Option BodyRow). call places e s o) found ∙ called_code in
      let code : Spans p m.address (all ++ leaping ∷ []) (slice_index places (suc c.processor.address)) =
      subst (λ (x : List Instruction). Spans p m.address x (slice_index places (suc c.processor.address))) same_code
      here.code in
      let ps = parts_of p m.address all (leaping ∷ []) _ code in
      let f = fills fits ps.middle ps.first in
      let m1 = state f.register f.flags f.memory ps.middle in
      let last = state f.register f.flags f.memory entry in
      let arrives : word (ps.middle + 4 + leap e entry) ≡ entry =
      leaps at bottom img places p c m ps.middle body.entry here.addresses ps.second.1 in
      record {
        register = f.register;
        flags = f.flags;
        memory = f.memory;
        runs = subst (λ (x : List Instruction). RunsPrivately p floor top x m last) (sym same_code)
            (runs_on p floor top all (leaping ∷ []) m m1 last f.runs (
              last,
              steps p floor top leaping m1 last ps.second.0
                  (ap (λ (x : ℕ). Some (record m1 { address = x })) arrives) refl,
              refl,
            ));
        sp = f.sp;
        others = f.others;
        arguments = f.arguments;
        rest = f.rest;
      }

  -- words beside the frames, the cells and the clock's words
  beside : (memory : ℕ → ℕ)
      → ((k : ℕ) → ((j : ℕ) → j < body.args → k ≢ (floor + 4 * j) / 4)
      → memory k ≡ written m.memory (slot_at m RETURN_SLOT) link k)
      → (k sp : ℕ) → sp ≡ floor → IsBeside at (m.register 13) sp top k → body.args ≤ body.frame
      → memory k ≡ m.memory k
  beside memory rest k sp e apart fits =
      let st = here.stands in
      let laid = here.laid in
      let far : (4 * k + 4 ≤ floor) ⊎ (top ≤ 4 * k) = ⊎_elim
      (λ (x : (4 * k + 4 ≤ m.register 13) × (4 * k + 4 ≤ sp)). inl (omega (arith, x.1)))
      (λ (y : ((top ≤ 4 * k) × (4 * k + 4 ≤ at.cells)) ⊎ (at.time + 8 ≤ 4 * k)).
      ⊎_elim (λ (x : (top ≤ 4 * k) × (4 * k + 4 ≤ at.cells)). inr x.0)
      (λ (x : at.time + 8 ≤ 4 * k). inr (omega (arith, st.frames, laid.time))) y) apart in
      rest k (λ j l f. ⊎_elim (λ (x : 4 * k + 4 ≤ floor). omega (arith, st.aligned, can.room))
      (λ (x : top ≤ 4 * k). omega (arith, st.aligned, can.room, can.frame)) far)
      ∙ other k (slot_at m RETURN_SLOT / 4) link (m.memory k) (λ f. ⊎_elim
      (λ (x : 4 * k + 4 ≤ floor). omega (arith, st.aligned))
      (λ (x : top ≤ 4 * k). omega (arith, st.aligned, can.frame)) far)

  -- the state stands for the core after the call
  stands_called : body.args ≤ body.frame → c.caller ≡ None
      → Calls at bottom img places p row s body c m (core_after_call c body s) None
  stands_called fits free =
      let st = here.stands in
      let laid = here.laid in
      let x = called fits in
      let slots = c.processor.slots in
      let frame = caller_frame slots (suc c.processor.address) in
      let last = record (moved m x.register x.flags entry) { memory = x.memory } in
      let words = words_from last (x.register 13) body.frame in
      let long : length words ≡ body.frame = long_words last (x.register 13) body.frame in
      let after = with_slots at bottom img places p words (core_after_call c body s) in
      let none : length (words_of c.caller) ≡ 0 = ap (λ (o : Option (List ℕ)). length (words_of o)) free in
      let keeps : length frame ≡ length slots = length-set slots (last_slot slots) (suc c.processor.address) in
      let down : x.register 13 + 4 * body.frame ≡ m.register 13 = omega (arith, x.sp, can.room) in
      let ends : frames_end after last ≡ top = omega (arith, can.frame) in
      let middle = record m { memory = written m.memory (slot_at m RETURN_SLOT) link } in
      let far : (a : ℕ) → a % 4 ≡ 0 → m.register 13 ≤ a → word_at last a ≡ word_at middle a =
      λ a z h. x.rest (a / 4) (λ j l e. omega (arith, x.sp, can.room, st.aligned)) in
      let za : slot_at m RETURN_SLOT % 4 ≡ 0 = omega (arith, st.aligned) in
      let above : slot_at m RETURN_SLOT + 4 ≤ at.cells = omega (arith, st.frames, can.frame) in
      let kept : LieFrom middle (m.register 13) (caller_words places (Some frame)) =
      subst (LieFrom middle (m.register 13)) (sym (kept_words places slots (suc c.processor.address) can.frame
      ∙ ap (λ (y : ℕ). slice_set slots RETURN_SLOT (word (y + 1))) (same_end at bottom img places p c m)))
      (words_written m middle link (m.register 13) RETURN_SLOT slots (λ k. refl) st.aligned (omega (arith, can.frame))
      st.slots) in
      let cells : LieFrom middle at.cells c.processor.cells =
      words_kept m middle (slot_at m RETURN_SLOT) link at.cells c.processor.cells (λ k. refl) za laid.aligned
      (inl above) st.cells in
      record {
        slots = words;
        last = last;
        long = long ∙ sym (frame_length frame body s fits (⊎_elim (λ (z : body.args ≡ 0). inl z)
            (λ (z : s + body.args ≤ RETURN_SLOT). inr (omega (arith, keeps, can.frame))) enough));
        arguments = λ k l.
            word_of last (x.register 13) body.frame k (omega arith) ∙ (x.arguments k l
            ∙ sym (argument_words frame body s k l (⊎_elim (λ (z : body.args ≡ 0). absurd (omega arith))
            (λ (z : s + body.args ≤ RETURN_SLOT). omega (arith, keeps, can.frame)) enough)
            ∙ get_or-set_other slots (last_slot slots) (s + k) (suc c.processor.address) 0
            (λ e. omega (arith, can.arguments k l, can.frame))));
        runs = runs_within p floor top _ _ (machine_code at bottom img places p (instr.Call row s) c) m last x.sp ends
            x.runs;
        becomes = record {
          stands = record {
            address = refl;
            base_priority = st.base_priority;
            is_masked = st.is_masked;
            aligned = omega (arith, st.aligned);
            stack = omega (arith, can.room, x.sp);
            frames = omega (arith, ends, st.frames);
            slots = λ k l. sym (word_of last (x.register 13) body.frame k (omega (arith, long)));
            caller = subst (λ (y : ℕ). LieFrom last y (caller_words places (Some frame)))
                (sym (ap (λ (y : ℕ). x.register 13 + 4 * y) long ∙ down))
                (λ k l. far (m.register 13 + 4 * k) (omega (arith, st.aligned)) (omega arith) ∙ kept k l);
            cells = λ k l. far (at.cells + 4 * k) (omega (arith, laid.aligned)) (omega (arith, above)) ∙ cells k l;
            time = far at.time (omega (arith, laid.aligned, laid.time)) (omega (arith, above, laid.time))
                ∙ word_kept m middle (slot_at m RETURN_SLOT) link at.time c.time (λ k. refl) za
                (omega (arith, laid.aligned, laid.time)) (omega (arith, above, laid.time)) st.time;
            alarm = far (at.time + 4) (omega (arith, laid.aligned, laid.time)) (omega (arith, above, laid.time))
                ∙ word_kept m middle (slot_at m RETURN_SLOT) link (at.time + 4) _ (λ k. refl) za
                (omega (arith, laid.aligned, laid.time)) (omega (arith, above, laid.time)) st.alarm;
            pending = st.pending;
          };
          registers = x.others;
          ends = ends;
          memory = λ k apart. beside x.memory x.rest k (x.register 13) x.sp apart fits;
          exception = refl;
          active = refl;
          tick = refl;
          seen = refl;
        };
      }

-- the outcome of a call, by its tests
pub by_tests : (img : Image) (c : Core) (a b : Bool) (after : Core) (Holds : Core → Option What → Type 0)
    → (a ≡ true → b ≡ true → Holds after None)
    → UnlessTrapped (if a then (if b then Done after None else Trapped c trap.Stack) else Trapped c trap.Stack) Holds
by_tests img c true true after Holds h = h refl refl
by_tests img c true false after Holds h = tt
by_tests img c false b after Holds h = tt

-- no called body calls
pub is_free : (o : Option (List ℕ)) → is_none o ≡ true → o ≡ None
is_free None h = refl
is_free (Some ws) h = absurd (cc)

pub call_is_done : CallIsDone
call_is_done at bottom img places p row s body c m found here can =
    let Holds = Calls at bottom img places p row s body c m in
    subst
    (λ (o : Option BodyRow). UnlessTrapped (if may_call c then call_row img c o s else Trapped c trap.Stack) Holds)
    (sym found)
    (by_tests img c (may_call c) (call_fits img c body s) (core_after_call c body s) Holds (λ may fits.
    let free = is_free c.caller (and_parts (is_none c.caller) _ may).0 in
    let arguments = (and_parts (arguments_fit c.processor.slots body s) (has_room img c body.frame) fits).0 in
    let few = at_most body.args body.frame
    (and_parts ((body.args == 0) || nat_le (s + body.args) (length c.processor.slots)) (nat_le body.args body.frame)
    arguments).1 in
    stands_called at bottom img places p row s body c m found here can few free))
