-- A request comes.
use Rattle.std.proofs.Common.{◌≡◌, ◌≢◌, ◌∙◌, ℕ, ◌<◌, ◌≤◌, Bool, true, false, List, [], ◌∷◌, Option, None, Some}
use Rattle.std.proofs.Common.{sym, refl, ap, subst, arith, length, ⊎_elim, option_map}
use Rattle.std.proofs.lemmas.Bool.{cases_eq, cases_lt, false≢true}
use Rattle.std.proofs.lemmas.List.{length-set, get_or_past, get_or-set_same, get_or-set_other}
use Rattle.std.specs.Prelude.{if◌then◌else◌, ◌==◌, ◌||◌, slice_index, slice_index_or, slice_set}
use Rattle.rt_code.specs.Image.{Image}
use Rattle.rt_code.specs.declared.instr.Instr.{Instr}
use Rattle.rt_core.specs.Core.{Core}
use Rattle.rt_native.specs.declared.outside.Outside.{Outside}
use Rattle.rt_native.specs.declared.target.Input.{Input}
use Rattle.rt_thumb.specs.Exceptions.{external, systick}
use Rattle.rt_thumb.specs.Machine.{Machine}
use Rattle.rt_thumb.specs.Step.{Program, pended}
use Rattle.rt_thumb.specs.declared.instruction.Instruction.{Instruction}
use Rattle.rt_thumb.specs.declared.instruction.Instruction.TheVariants as instruction
use Rattle.rt_thumb_laws.proofs.Undisturbed.{effects_with}
use Rattle.rt_native_laws.specs.Arriving.{ArrivalsKeepPhases, IsAsFresh, PendingTicksKeepPhases}
use Rattle.rt_native_laws.specs.Doing.{IsAt, with_slots}
use Rattle.rt_native_laws.specs.InTail.{Debt, IsInTail, rung}
use Rattle.rt_native_laws.specs.Own.{RunsPrivately, StepsPrivately, is_private}
use Rattle.rt_native_laws.specs.Phases.{AlreadyDone, Calling, Entering, HasBegun, IsCalling, IsDone, IsEntering}
use Rattle.rt_native_laws.specs.Phases.{Calls, FunctionCall, IsSameAbove, IsToCome, OthersRan, Phase, Reads, Tails}
use Rattle.rt_native_laws.specs.Phases.{ToCome}
use Rattle.rt_native_laws.specs.Reading.{AtCellLow, AtCellTop, AtLoad, AtLow, AtStore, AtTop, Holds, IsReading, Reading}
use Rattle.rt_native_laws.specs.Reading.{reads_of}
use Rattle.rt_native_laws.specs.Standing.{HoldsWords, StandsFor}
use Rattle.rt_native_laws.specs.Tail.{Meanwhile}
use Rattle.rt_native_laws.proofs.CallKept.{call_again, call_is_kept, frame_again}
use Rattle.rt_native_laws.proofs.Meanwhile.{tail_is_kept}
use Rattle.rt_native_laws.proofs.Tail.{tail_owes}
use Rattle.rt_native_laws.proofs.Tails.{debt, debt_is, untouched}
use Rattle.rt_native_laws.proofs.Tests.{not_equal, same_number}

-- what is private goes on with something pending
module _ (p : Program) (e : ℕ) where
  same_private : (floor top : ℕ) (i : Instruction) (m : Machine) → is_private floor top i (pended e m)
      ≡ is_private floor top i m
  same_private floor top (instruction.BranchExchange r) m = refl
  same_private floor top i m = refl

  step_with : (floor top : ℕ) (i : Instruction) (m n : Machine) → StepsPrivately p floor top i m n
      → StepsPrivately p floor top i (pended e m) (pended e n)
  step_with floor top i m n s = record {
    executes = record {
      found = s.executes.found;
      does = effects_with e m p.port i ∙ ap (option_map (pended e)) s.executes.does;
    };
    is_private = same_private floor top i m ∙ s.is_private;
  }

  run_with : (floor top : ℕ) (is : List Instruction) (m n : Machine) → RunsPrivately p floor top is m n
      → RunsPrivately p floor top is (pended e m) (pended e n)
  run_with floor top [] m n r = ap (pended e) r
  run_with floor top (i ∷ is) m n r =
      (pended e r.0, step_with floor top i m r.0 r.1, run_with floor top is r.0 n r.2)

  above_with : (low : ℕ) (m n : Machine) → IsSameAbove low m n → IsSameAbove low (pended e m) (pended e n)
  above_with low m n x = record { rest = ap (pended e) x.rest; memory = x.memory }

  words_with : (m : Machine) → HoldsWords m → HoldsWords (pended e m)
  words_with m w = record { registers = w.registers; memory = w.memory; base_priority = w.base_priority }

  begun_with : (top : ℕ) (text : List Instruction) (first m : Machine) → HasBegun p top text first m
      → HasBegun p top text (pended e first) (pended e m)
  begun_with top text first m b = record {
    passed = b.passed;
    next = b.next;
    left = b.left;
    parts = b.parts;
    fallen = b.fallen;
    aligned = b.aligned;
    prepares = run_with (m.register 13) top b.passed first m b.prepares;
  }

  -- The core has these requests; those of the processor are the core's, with one more.
  module _ (at : Outside) (bottom : ℕ) (img : Image) (places : List ℕ) (requests : List Bool) where
    abbrev Tells : List Bool → Type 0
    Tells old =
        (pending : ℕ → Bool) → ((irq : ℕ) → irq < length old → pending (external irq) ≡ slice_index_or old irq false)
        → (irq : ℕ) → irq < length requests
        → ((external irq == e) || pending (external irq)) ≡ slice_index_or requests irq false

    -- none that was there is gone
    abbrev Keeps : List Bool → Type 0
    Keeps old = (irq : ℕ) → slice_index_or old irq false ≡ true → slice_index_or requests irq false ≡ true

    abbrev asked : Core → Core
    asked c = record c { pending = requests }

    stands_with : (c : Core) (m : Machine) → Tells c.pending → StandsFor at bottom places c m
        → StandsFor at bottom places (asked c) (pended e m)
    stands_with c m tells st = record {
      address = st.address;
      base_priority = st.base_priority;
      is_masked = st.is_masked;
      aligned = st.aligned;
      stack = st.stack;
      frames = st.frames;
      slots = st.slots;
      caller = st.caller;
      cells = st.cells;
      time = st.time;
      alarm = st.alarm;
      pending = tells m.is_pending st.pending;
    }

    is_at_with : (i : Instr) (c : Core) (m : Machine) → Tells c.pending → IsAt at bottom img places p i c m
        → IsAt at bottom img places p i (asked c) (pended e m)
    is_at_with i c m tells x = record {
      laid = x.laid;
      port = x.port;
      addresses = x.addresses;
      halfwords = x.halfwords;
      code = x.code;
      stands = stands_with c m tells x.stands;
      words = words_with m x.words;
    }

    held_with : (input : Input) (value : ℕ) (m : Machine) (stage : Reading) → Holds at input value m stage
        → Holds at input value (pended e m) stage
    held_with input value m AtLow h = h
    held_with input value m AtTop h = h
    held_with input value m AtLoad h = h
    held_with input value m AtCellLow h = h
    held_with input value m AtCellTop h = h
    held_with input value m AtStore h = h

    module _ (c : Core) (top : ℕ) (m : Machine) (tells : Tells c.pending) (keeps : Keeps c.pending) where
      to_come_with : IsToCome at bottom img places p c top m
          → IsToCome at bottom img places p (asked c) top (pended e m)
      to_come_with x = record {
        instruction = x.instruction;
        kind = x.kind;
        note = x.note;
        line = x.line;
        first = pended e x.first;
        stands = is_at_with x.instruction c x.first tells x.stands;
        ends = x.ends;
        settled = x.settled;
        passed = x.passed;
        next = x.next;
        left = x.left;
        parts = x.parts;
        reached = pended e x.reached;
        prepares = run_with (x.first.register 13) top x.passed x.first x.reached x.prepares;
        now = above_with (x.first.register 13) x.reached m x.now;
      }

      done_with : IsDone at bottom img places p c top m → IsDone at bottom img places p (asked c) top (pended e m)
      done_with x = record {
        left = x.left;
        steady = x.steady;
        last = pended e x.last;
        stack = x.stack;
        completes = run_with (x.last.register 13) top x.left m x.last x.completes;
        stands = stands_with c x.last tells x.stands;
        ends = x.ends;
        settled = x.settled;
        words = words_with x.last x.words;
      }

      entering_with : IsEntering at bottom img places p c top m
          → IsEntering at bottom img places p (asked c) top (pended e m)
      entering_with x = record {
        to = x.to;
        irq = x.irq;
        handler = x.handler;
        first = pended e x.first;
        opens = record {
          laid = x.opens.laid;
          addresses = x.opens.addresses;
          low = x.opens.low;
          code = x.opens.code;
          entry = x.opens.entry;
          frame = x.opens.frame;
          free = x.opens.free;
          room = x.opens.room;
          stands = stands_with (with_slots at bottom img places p [] c) (record x.first {
            address = slice_index
                places x.handler.entry;
          })
              tells x.opens.stands;
        };
        ends = x.ends;
        settled = x.settled;
        words = words_with x.first x.words;
        begun = begun_with top _ x.first m x.begun;
        deep = x.deep;
      }

      calling_with : (x : IsCalling at bottom img places p c top m) → Tells x.before.pending
          → (y : IsCalling at bottom img places p (asked c) top (pended e m)) × (y.body.args ≡ x.body.args)
      calling_with x tells_before = (
        record {
          row = x.row;
          slot = x.slot;
          body = x.body;
          found = x.found;
          before = asked x.before;
          may = x.may;
          fits = x.fits;
          called = record {
            core = ap asked x.called.core;
            long = x.called.long;
            words = x.called.words;
          };
          frame = x.frame;
          first = pended e x.first;
          stands = is_at_with _ x.before x.first tells_before x.stands;
          can = record {
            frame = x.can.frame;
            few = x.can.few;
            arguments = x.can.arguments;
            slots = x.can.slots;
            room = x.can.room;
          };
          ends = x.ends;
          settled = x.settled;
          begun = begun_with top _ x.first m x.begun;
          deep = x.deep;
        },
        refl,
      )

      reading_with : (x : IsReading at bottom img places p c top m)
          → (y : IsReading at bottom img places p (asked c) top (pended e m))
          × (reads_of at bottom img places p (asked c) top (pended e m) y ≡ reads_of at bottom img places p c top m x)
      reading_with x = (
        record {
          to = x.to;
          irq = x.irq;
          handler = x.handler;
          input = x.input;
          more = x.more;
          inputs = x.inputs;
          declared = x.declared;
          among = x.among;
          exception = x.exception;
          stage = x.stage;
          value = x.value;
          holds = held_with x.input x.value m x.stage x.holds;
          code = x.code;
          low = x.low;
          laid = x.laid;
          entry = x.entry;
          frame = x.frame;
          free = x.free;
          room = x.room;
          stands = stands_with (with_slots at bottom img places p [] c)
              (record m { address = slice_index places x.handler.entry }) tells x.stands;
          ends = x.ends;
          settled = x.settled;
          words = words_with m x.words;
        },
        refl,
      )

      tail_with : (core : Core) (x : IsInTail at bottom img places p core top m) (same : x.unpaid ≡ c)
          → IsAsFresh at bottom img places p c (asked c) top m (pended e m) (Tails core x same)
      tail_with core x same =
          let u = x.unpaid in
          let told : Tells u.pending = subst (λ (y : Core). Tells y.pending) (sym same) tells in
          let ran : OthersRan at (m.register 13) top u (asked u) m (pended e m) = record {
            core = refl;
            as_many = refl;
            processor = record { rest = refl; memory = λ k f g. refl };
            settled = x.settled;
            cells = x.stands.cells;
            time = x.stands.time;
            alarm = x.stands.alarm;
            pending = told m.is_pending x.stands.pending;
            words = words_with m x.words;
          } in
          let meanwhile : Meanwhile x.irq x.instant x.owes x.owes u (asked u) =
          untouched x.irq x.instant x.owes u (asked u) (tail_owes at bottom img places p core top m x) refl refl
          (subst (λ (y : Core). slice_index_or y.pending x.irq false ≡ true
          → slice_index_or requests x.irq false ≡ true) (sym same) (keeps x.irq)) in
          let settled : Core = if x.owes then rung x.irq (asked u) else asked u in
          let again = tail_is_kept at bottom img places p core settled (asked u) x.owes top m (pended e m) x ran
          meanwhile refl in (
            Tails settled again.0 (again.4 ∙ ap asked same),
            omega arith,
            refl,
            refl,
            ap (λ (t : Debt). Some t) (debt_is (debt again.0.irq again.0.instant again.0.owes)
                (debt x.irq x.instant x.owes) again.1 again.2 again.3),
            refl,
            refl,
          )

      phase_with : (phase : Phase at bottom img places p c top m)
          → IsAsFresh at bottom img places p c (asked c) top m (pended e m) phase
      phase_with (ToCome x) = (ToCome (to_come_with x), omega arith, refl, refl, refl, refl, refl)
      phase_with (AlreadyDone x) = (AlreadyDone (done_with x), omega arith, refl, refl, refl, refl, refl)
      phase_with (Entering x) = (Entering (entering_with x), omega arith, refl, refl, refl, refl, refl)
      phase_with (Calling x) =
          let same : c.pending ≡ x.before.pending = ap (λ (y : Core). y.pending) x.called.core in
          let y = calling_with x (subst Tells same tells) in
          (Calling y.0, omega (arith, y.1), refl, refl, refl, refl, refl)
      phase_with (Reads x) =
          let y = reading_with x in (
            Reads y.0,
            omega arith,
            refl,
            ap (λ (r : List Input × Option (Input × ℕ)). Some r) y.1,
            refl,
            refl,
            refl,
          )
      phase_with (Calls x f) =
          let ran : OthersRan at (m.register 13) top c (asked c) m (pended e m) = record {
            core = refl;
            as_many = refl;
            processor = record { rest = refl; memory = λ k h g. refl };
            settled = x.settled;
            cells = x.shows.cells;
            time = x.shows.time;
            alarm = x.shows.alarm;
            pending = tells m.is_pending x.shows.pending;
            words = words_with m x.words;
          } in
          let g = call_is_kept at bottom img places p c (asked c) top m (pended e m) x ran in
          let again = frame_again at bottom img places p c (asked c) top m (pended e m) x x.stage x.called g f
          f.aligned in (
            Calls g.call again,
            omega arith,
            refl,
            ap (λ (ds : List Input). Some (ds, None)) g.declared,
            refl,
            ap (λ (k : FunctionCall). Some k)
                (call_again at bottom img places p c (asked c) top m (pended e m) x x.stage x.called g),
            g.registers,
          )
      phase_with (Tails core x same) = tail_with core x same

-- what is pending, with one more
one_more : (old : List Bool) (irq : ℕ) (pending : ℕ → Bool)
    → ((k : ℕ) → k < length old → pending (external k) ≡ slice_index_or old k false) → (k : ℕ)
    → k < length (slice_set old irq true)
    → ((external k == external irq) || pending (external k)) ≡ slice_index_or (slice_set old irq true) k false
one_more old irq pending h k l =
    let there : k < length old = subst (λ (x : ℕ). k < x) (length-set old irq true) l in
    ⊎_elim
    (λ (e : k ≡ irq).
    ap (λ (b : Bool). b || pending (external k)) (same_number (external k) (external irq) (ap external e))
    ∙ (sym (get_or-set_same old irq true false (subst (λ (x : ℕ). x < length old) e there))
    ∙ ap (λ (x : ℕ). slice_index_or (slice_set old irq true) x false) (sym e)))
    (λ (e : k ≢ irq).
    ap (λ (b : Bool). b || pending (external k))
    (not_equal (external k) (external irq) (λ f. e (omega arith)))
    ∙ (h k there ∙ sym (get_or-set_other old irq k true false e)))
    (cases_eq k irq)

-- a request that is there is so with one more
pub still_there : (old : List Bool) (irq k : ℕ) → slice_index_or old k false ≡ true
    → slice_index_or (slice_set old irq true) k false ≡ true
still_there old irq k h =
    ⊎_elim
    (λ (e : k ≡ irq).
    ⊎_elim
    (λ (l : k < length old).
    ap (λ (x : ℕ). slice_index_or (slice_set old irq true) x false) e
    ∙ get_or-set_same old irq true false (subst (λ (x : ℕ). x < length old) e l))
    (λ (l : length old ≤ k). absurd (false≢true (sym (get_or_past old k false l) ∙ h))) (cases_lt k (length old)))
    (λ (e : k ≢ irq). get_or-set_other old irq k true false e ∙ h) (cases_eq k irq)

pub arrivals_keep_phases : ArrivalsKeepPhases
arrivals_keep_phases at bottom img places p c top irq m phase =
    phase_with p (external irq) at bottom img places (slice_set c.pending irq true) c top m
    (λ pending h k l. one_more c.pending irq pending h k l) (still_there c.pending irq) phase

pub pending_ticks_keep_phases : PendingTicksKeepPhases
pending_ticks_keep_phases at bottom img places p c top m phase =
    phase_with p systick at bottom img places c.pending c top m
    (λ pending h k l. ap (λ (b : Bool). b || pending (external k))
    (not_equal (external k) systick (λ e. omega (arith, e))) ∙ h k l) (λ k e. e) phase
