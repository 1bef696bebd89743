-- A device changes its register: what runs stays in its phase, and the processor is where the image is.
use Rattle.std.proofs.Common.{◌≡◌, ◌∙◌, ℕ, ◌+◌, ◌-◌, ◌*◌, ◌/◌, ◌^◌, ◌<◌, ◌≤◌, inl, inr, Bool, true, false}
use Rattle.std.proofs.Common.{List, [], ◌∷◌, Option, None, Some, IfSome, refl, sym, ap, subst, arith, length, ⊎_elim}
use Rattle.std.proofs.Common.{option_map}
use Rattle.std.proofs.lemmas.Bool.{false≢true, ne_eqb}
use Rattle.std.specs.Prelude.{if◌then◌else◌, ◌==◌, slice_index, slice_index_or}
use Rattle.rt_code.specs.Image.{Image}
use Rattle.rt_code.specs.declared.instr.Instr.{Instr}
use Rattle.rt_core.specs.Core.{Core}
use Rattle.rt_core.specs.Priority.{execution}
use Rattle.rt_native.specs.Layout.{outside, places, stack_top}
use Rattle.rt_native.specs.Service.{is_called}
use Rattle.rt_native.specs.Target.{Target}
use Rattle.rt_native.specs.declared.outside.Outside.{Outside}
use Rattle.rt_native.specs.declared.target.Input.{Input}
use Rattle.rt_thumb.specs.Exceptions.{external}
use Rattle.rt_thumb.specs.Machine.{Machine, word_at, with_word}
use Rattle.rt_thumb.specs.Step.{Program}
use Rattle.rt_thumb.specs.declared.instruction.Instruction.{Instruction}
use Rattle.rt_thumb.specs.declared.instruction.Instruction.TheVariants as instruction
use Rattle.rt_thumb_laws.proofs.Beside.{effects_beside, word_beside}
use Rattle.rt_native_laws.specs.Arriving.{ChangesKeepPhases, IsAside, IsAsFresh}
use Rattle.rt_native_laws.specs.Devices.{CanChange, is_devices}
use Rattle.rt_native_laws.specs.Doing.{IsAt, with_slots}
use Rattle.rt_native_laws.specs.GoingInCall.{GoesOnIn}
use Rattle.rt_native_laws.specs.InCall.{AtBranch, AtFall, AtKeep, AtRise, AtTake, CallStage, IsAtStage, IsInCall}
use Rattle.rt_native_laws.specs.InCall.{PreservesRegisters, Within, keeper}
use Rattle.rt_native_laws.specs.InTail.{Debt, IsInTail, rung}
use Rattle.rt_native_laws.specs.Laws.{IsApart}
use Rattle.rt_native_laws.specs.Moments.{HasJustRead, Moment, settled_words, with_core}
use Rattle.rt_native_laws.specs.Own.{RunsPrivately, StepsPrivately, is_private}
use Rattle.rt_native_laws.specs.Phases.{AlreadyDone, Calling, Entering, HasBegun, IsCalling, IsDone, IsEntering}
use Rattle.rt_native_laws.specs.Phases.{IsSameAbove, IsToCome, OthersRan, Phase, Reads, Tails, ToCome, kept_words}
use Rattle.rt_native_laws.specs.Phases.{Calls, FunctionCall, tail_of, viewed}
use Rattle.rt_native_laws.specs.Reading.{AtCellLow, AtCellTop, AtLoad, AtLow, AtStore, AtTop, Holds, IsReading, Reading}
use Rattle.rt_native_laws.specs.Reading.{reads_of}
use Rattle.rt_native_laws.specs.Relating.{ChangesLeadOn, calls_of, IsInPlace, IsPastMarks, IsWhere, Related, lowest}
use Rattle.rt_native_laws.specs.Standing.{HoldsWords, IsLaidOut, Shows, StandsFor}
use Rattle.rt_native_laws.specs.Tail.{Meanwhile}
use Rattle.rt_native_laws.specs.Waiting.{IsFresh, KeepsAbove, KeepsTail, others_tail}
use Rattle.rt_native_laws.proofs.Accesses.{caller_length}
use Rattle.rt_native_laws.proofs.CallKept.{call_again, frame_again, made}
use Rattle.rt_native_laws.proofs.Clear.{IsClear, private_apart}
use Rattle.rt_native_laws.proofs.Deep.{phases_are_within_frames}
use Rattle.rt_native_laws.proofs.Devices.{device_is_aside, devices_word}
use Rattle.rt_native_laws.proofs.Meanwhile.{tail_is_kept}
use Rattle.rt_native_laws.proofs.Phases.{apart_of}
use Rattle.rt_native_laws.proofs.Private.{private_is_unseen}
use Rattle.rt_native_laws.proofs.Relating.{KeepsChip, KeepsService, is_where_by, related_by, service_chip}
use Rattle.rt_native_laws.proofs.Requesting.{of_past, past_of}
use Rattle.rt_native_laws.proofs.Tail.{tail_owes}
use Rattle.rt_native_laws.proofs.Tails.{debt, debt_is, for_some, others_stay, tail_untouched, untouched}
use Rattle.rt_native_laws.proofs.Unpaid.{owing}
use Rattle.rt_native_laws.proofs.Viewing.{views_keep}
use Rattle.rt_native_laws.proofs.Waiting.{one_of}

module _ (p : Program) (address value : ℕ) where
  abbrev changed : Machine → Machine
  changed m = with_word address value m

  same_private : (floor top : ℕ) (i : Instruction) (m : Machine) → is_private floor top i (changed m)
      ≡ is_private floor top i m
  same_private floor top (instruction.BranchExchange r) m = refl
  same_private floor top i m = refl

  step_changed : (floor top : ℕ) (i : Instruction) (m n : Machine) → IsClear floor top (address / 4)
      → floor ≤ m.register 13
      → StepsPrivately p floor top i m n → StepsPrivately p floor top i (changed m) (changed n)
  step_changed floor top i m n clear low s = record {
    executes = record {
      found = s.executes.found;
      does = effects_beside address value m p.port i (private_apart floor top (address / 4) i m clear low s.is_private)
          ∙ ap (option_map changed) s.executes.does;
    };
    is_private = same_private floor top i m ∙ s.is_private;
  }

  run_changed : (floor top : ℕ) → IsApart p floor top → IsClear floor top (address / 4) → (is : List Instruction)
      (m n : Machine) → floor ≤ m.register 13 → m.register 13 ≤ top → RunsPrivately p floor top is m n
      → RunsPrivately p floor top is (changed m) (changed n)
  run_changed floor top apart clear [] m n low high r = ap changed r
  run_changed floor top apart clear (i ∷ is) m n low high r =
      let own = private_is_unseen p floor top (i ∷ []) m r.0 apart low high (r.0, r.1, refl) in (
        changed r.0,
        step_changed floor top i m r.0 clear low r.1,
        run_changed floor top apart clear is r.0 n own.stack.0 own.stack.1 r.2,
      )

  above_changed : (low : ℕ) (m n : Machine) → IsSameAbove low m n → IsSameAbove low (changed m) (changed n)
  above_changed low m n x = record {
    rest = ap changed x.rest;
    memory = λ k h. ap (λ (v : ℕ). if k == address / 4 then value else v) (x.memory k h);
  }

  words_changed : value < 2 ^ 32 → (m : Machine) → HoldsWords m → HoldsWords (changed m)
  words_changed small m w = record {
    registers = w.registers;
    memory = λ k. one_of (k == address / 4) value (m.memory k) small (w.memory k);
    base_priority = w.base_priority;
  }

  module _ (small : value < 2 ^ 32) (at : Outside) (bottom : ℕ) (img : Image) (places : List ℕ)
      (port : p.port ≡ at.port) (aside : IsAside at bottom address) where
    -- words of the stack and above it are as they were
    word_kept : (m : Machine) (a : ℕ) → bottom ≤ a → a < at.time + 8 → word_at (changed m) a ≡ word_at m a
    word_kept m a low high =
        word_beside address value m a (λ e.
        ⊎_elim (λ (y : address + 4 ≤ bottom). absurd (omega (arith, y, e, low, aside.aligned)))
        (λ (y : at.time + 8 ≤ address). absurd (omega (arith, y, e, high, aside.aligned))) aside.apart)

    clear_of : (floor top count : ℕ) → IsLaidOut at bottom count → bottom ≤ floor → top ≤ at.cells
        → IsClear floor top (address / 4)
    clear_of floor top count laid low high =
        ⊎_elim (λ (y : address + 4 ≤ bottom). inl (omega (arith, y, low, aside.aligned)))
        (λ (y : at.time + 8 ≤ address). inr (omega (arith, y, high, laid.time, aside.aligned))) aside.apart

    stands_changed : (c : Core) (m : Machine) → IsLaidOut at bottom (length c.processor.cells)
        → StandsFor at bottom places c m → StandsFor at bottom places c (changed m)
    stands_changed c m laid st = record {
      address = st.address;
      base_priority = st.base_priority;
      is_masked = st.is_masked;
      aligned = st.aligned;
      stack = st.stack;
      frames = st.frames;
      slots = λ k l.
          word_kept m (m.register 13 + 4 * k) (omega (arith, st.stack)) (omega (arith, l, st.frames, laid.time))
          ∙ st.slots k l;
      caller = λ k l.
          word_kept m (m.register 13 + 4 * length c.processor.slots + 4 * k) (omega (arith, st.stack))
          (omega (arith, l, st.frames, laid.time, caller_length places c.caller)) ∙ st.caller k l;
      cells = λ k l.
          word_kept m (at.cells + 4 * k) (omega (arith, st.stack, st.frames)) (omega (arith, l, laid.time))
          ∙ st.cells k l;
      time = word_kept m at.time (omega (arith, st.stack, st.frames, laid.time)) (omega arith) ∙ st.time;
      alarm = word_kept m (at.time + 4) (omega (arith, st.stack, st.frames, laid.time)) (omega arith) ∙ st.alarm;
      pending = st.pending;
    }

    is_at_changed : (i : Instr) (c : Core) (m : Machine) → IsAt at bottom img places p i c m
        → IsAt at bottom img places p i c (changed m)
    is_at_changed i c m x = record {
      laid = x.laid;
      port = x.port;
      addresses = x.addresses;
      halfwords = x.halfwords;
      code = x.code;
      stands = stands_changed c m x.laid x.stands;
      words = words_changed small m x.words;
    }

    begun_changed : (top count : ℕ) (text : List Instruction) (first m : Machine) → IsLaidOut at bottom count
        → bottom ≤ m.register 13 → first.register 13 ≤ top → top ≤ at.cells → HasBegun p top text first m
        → HasBegun p top text (changed first) (changed m)
    begun_changed top count text first m laid low within high b = record {
      passed = b.passed;
      next = b.next;
      left = b.left;
      parts = b.parts;
      fallen = b.fallen;
      aligned = b.aligned;
      prepares = run_changed (m.register 13) top (apart_of at bottom (m.register 13) top count p laid port low high)
          (clear_of (m.register 13) top count laid low high) b.passed first m b.fallen within b.prepares;
    }

    shows_changed : (c : Core) (m : Machine) → bottom ≤ at.cells → IsLaidOut at bottom (length c.processor.cells)
        → Shows at c m → Shows at c (changed m)
    shows_changed c m low laid sh = record {
      base_priority = sh.base_priority;
      is_masked = sh.is_masked;
      cells = λ k l.
          word_kept m (at.cells + 4 * k) (omega (arith, low)) (omega (arith, l, laid.time)) ∙ sh.cells k l;
      time = word_kept m at.time (omega (arith, low, laid.time)) (omega arith) ∙ sh.time;
      alarm = word_kept m (at.time + 4) (omega (arith, low, laid.time)) (omega arith) ∙ sh.alarm;
      pending = sh.pending;
    }

    held_changed : (input : Input) (v : ℕ) (m : Machine) (stage : Reading) → Holds at input v m stage
        → Holds at input v (changed m) stage
    held_changed input v m AtLow h = h
    held_changed input v m AtTop h = h
    held_changed input v m AtLoad h = h
    held_changed input v m AtCellLow h = h
    held_changed input v m AtCellTop h = h
    held_changed input v m AtStore h = h

    module _ (c : Core) (top : ℕ) (m : Machine) (laid : IsLaidOut at bottom (length c.processor.cells)) where
      abbrev count : ℕ
      count = length c.processor.cells

      to_come_changed : IsToCome at bottom img places p c top m → IsToCome at bottom img places p c top (changed m)
      to_come_changed x =
          let low = x.first.register 13 in
          let st = x.stands.stands in
          let high : top ≤ at.cells = omega (arith, x.ends, st.frames) in
          record {
            instruction = x.instruction;
            kind = x.kind;
            note = x.note;
            line = x.line;
            first = changed x.first;
            stands = is_at_changed x.instruction c x.first x.stands;
            ends = x.ends;
            settled = x.settled;
            passed = x.passed;
            next = x.next;
            left = x.left;
            parts = x.parts;
            reached = changed x.reached;
            prepares = run_changed low top (apart_of at bottom low top count p laid port st.stack high)
                (clear_of low top count laid st.stack high) x.passed x.first x.reached (omega arith)
                (omega (arith, x.ends)) x.prepares;
            now = above_changed low x.reached m x.now;
          }

      done_changed : IsDone at bottom img places p c top m → IsDone at bottom img places p c top (changed m)
      done_changed x =
          let low = x.last.register 13 in
          let high : top ≤ at.cells = omega (arith, x.ends, x.stands.frames) in
          record {
            left = x.left;
            steady = x.steady;
            last = changed x.last;
            stack = x.stack;
            completes = run_changed low top (apart_of at bottom low top count p laid port x.stands.stack high)
                (clear_of low top count laid x.stands.stack high) x.left m x.last (omega (arith, x.stack))
                (omega (arith, x.stack, x.ends)) x.completes;
            stands = stands_changed c x.last laid x.stands;
            ends = x.ends;
            settled = x.settled;
            words = words_changed small x.last x.words;
          }

      entering_changed : IsEntering at bottom img places p c top m
          → IsEntering at bottom img places p c top (changed m)
      entering_changed x =
          let high : top ≤ at.cells = omega (arith, x.ends, x.opens.stands.frames) in
          record {
            to = x.to;
            irq = x.irq;
            handler = x.handler;
            first = changed x.first;
            opens = record {
              laid = x.opens.laid;
              addresses = x.opens.addresses;
              low = x.opens.low;
              code = x.opens.code;
              entry = x.opens.entry;
              frame = x.opens.frame;
              free = x.opens.free;
              room = x.opens.room;
              stands = stands_changed (with_slots at bottom img places p [] c)
                  (record x.first { address = slice_index places x.handler.entry }) x.opens.laid x.opens.stands;
            };
            ends = x.ends;
            settled = x.settled;
            words = words_changed small x.first x.words;
            begun = begun_changed top count _ x.first m laid (omega (arith, x.deep, x.opens.room, x.ends))
                (omega (arith, x.ends)) high x.begun;
            deep = x.deep;
          }

      calling_changed : (x : IsCalling at bottom img places p c top m)
          → (y : IsCalling at bottom img places p c top (changed m)) × (y.body.args ≡ x.body.args)
      calling_changed x =
          let st = x.stands.stands in
          let high : top ≤ at.cells = omega (arith, x.ends, st.frames) in (
            record {
              row = x.row;
              slot = x.slot;
              body = x.body;
              found = x.found;
              before = x.before;
              may = x.may;
              fits = x.fits;
              called = x.called;
              frame = x.frame;
              first = changed x.first;
              stands = is_at_changed _ x.before x.first x.stands;
              can = record {
                frame = x.can.frame;
                few = x.can.few;
                arguments = x.can.arguments;
                slots = x.can.slots;
                room = x.can.room;
              };
              ends = x.ends;
              settled = x.settled;
              begun = begun_changed top (length x.before.processor.cells) _ x.first m x.stands.laid
                  (omega (arith, x.deep, x.can.room)) (omega (arith, x.ends)) high x.begun;
              deep = x.deep;
            },
            refl,
          )

      reading_changed : (x : IsReading at bottom img places p c top m)
          → (y : IsReading at bottom img places p c top (changed m))
          × (reads_of at bottom img places p c top (changed m) y ≡ reads_of at bottom img places p c top m x)
      reading_changed x = (
        record {
          to = x.to;
          irq = x.irq;
          handler = x.handler;
          input = x.input;
          more = x.more;
          inputs = x.inputs;
          declared = x.declared;
          among = x.among;
          exception = x.exception;
          stage = x.stage;
          value = x.value;
          holds = held_changed x.input x.value m x.stage x.holds;
          code = x.code;
          low = x.low;
          laid = x.laid;
          entry = x.entry;
          frame = x.frame;
          free = x.free;
          room = x.room;
          stands = stands_changed (with_slots at bottom img places p [] c)
              (record m { address = slice_index places x.handler.entry }) x.laid x.stands;
          ends = x.ends;
          settled = x.settled;
          words = words_changed small m x.words;
        },
        refl,
      )

      -- a word that a call keeps in its handler's frame is as it was
      call_changed : (x : IsInCall at bottom img places p c top m)
          → GoesOnIn at bottom img places p top c c m (changed m) x x.stage x.called
      call_changed x =
          made at bottom img places p c top m x c (changed m) x.stage x.called refl refl refl refl
          (held_at x.stage x.there) (kept_at x.stage x.keeps) refl
          (shows_changed c m (omega (arith, x.for_function, x.below_cells)) x.laid x.shows) x.settled
          (words_changed small m x.words)
        where
          kept_word : word_at m (top - 8) ≡ x.registers 14 → word_at (changed m) (top - 8) ≡ x.registers 14
          kept_word w =
              word_kept m (top - 8) (omega (arith, x.for_function))
              (omega (arith, x.for_function, x.below_cells, x.laid.time)) ∙ w

          held_at : (stage : CallStage) → IsAtStage x.begins top (x.registers 14) x.room x.called m stage
              → IsAtStage x.begins top (x.registers 14) x.room x.called (changed m) stage
          held_at AtFall t = t
          held_at AtKeep t = t
          held_at AtBranch (a, sp, w) = (a, sp, kept_word w)
          held_at Within (l, sp, w, low, deep) = (l, sp, kept_word w, low, deep)
          held_at AtTake (a, sp, w) = (a, sp, kept_word w)
          held_at AtRise t = t

          kept_at : (stage : CallStage)
              → PreservesRegisters x.registers (keeper x.begins top (x.registers 14) x.room x.called m stage)
              → PreservesRegisters x.registers (keeper x.begins top (x.registers 14) x.room x.called (changed m) stage)
          kept_at AtFall k = k
          kept_at AtKeep k = k
          kept_at AtBranch k = k
          kept_at Within k = k
          kept_at AtTake k = k
          kept_at AtRise k = k

      tail_changed : (core : Core) (x : IsInTail at bottom img places p core top m) (same : x.unpaid ≡ c)
          → IsAsFresh at bottom img places p c c top m (changed m) (Tails core x same)
      tail_changed core x same =
          let u = x.unpaid in
          let st = x.stands in
          let high : top ≤ at.cells = omega (arith, x.ends, st.frames) in
          let clear = clear_of (m.register 13) top (length u.processor.cells) x.laid st.stack high in
          let ran : OthersRan at (m.register 13) top u u m (changed m) = record {
            core = refl;
            as_many = refl;
            processor = record {
              rest = refl;
              memory = λ k f g. ap (λ (b : Bool). if b then value else m.memory k) (ne_eqb k (address / 4) (λ e.
                  ⊎_elim (λ (y : 4 * (address / 4) + 4 ≤ m.register 13). absurd (omega (arith, y, e, f)))
                  (λ (y : top ≤ 4 * (address / 4)). absurd (omega (arith, y, e, g))) clear));
            };
            settled = x.settled;
            cells = λ k l.
                word_kept m (at.cells + 4 * k) (omega (arith, st.stack, st.frames)) (omega (arith, l, x.laid.time))
                ∙ st.cells k l;
            time = word_kept m at.time (omega (arith, st.stack, st.frames, x.laid.time)) (omega arith) ∙ st.time;
            alarm = word_kept m (at.time + 4) (omega (arith, st.stack, st.frames, x.laid.time)) (omega arith)
                ∙ st.alarm;
            pending = st.pending;
            words = words_changed small m x.words;
          } in
          let meanwhile : Meanwhile x.irq x.instant x.owes x.owes u u =
          untouched x.irq x.instant x.owes u u (tail_owes at bottom img places p core top m x) refl refl (λ e. e) in
          let settled : Core = if x.owes then rung x.irq u else u in
          let again = tail_is_kept at bottom img places p core settled u x.owes top m (changed m) x ran meanwhile refl
          in (
            Tails settled again.0 (again.4 ∙ same),
            omega arith,
            refl,
            refl,
            ap (λ (t : Debt). Some t) (debt_is (debt again.0.irq again.0.instant again.0.owes)
                (debt x.irq x.instant x.owes) again.1 again.2 again.3),
            refl,
            refl,
          )

      phase_changed : (phase : Phase at bottom img places p c top m)
          → IsAsFresh at bottom img places p c c top m (changed m) phase
      phase_changed (ToCome x) = (ToCome (to_come_changed x), omega arith, refl, refl, refl, refl, refl)
      phase_changed (AlreadyDone x) = (AlreadyDone (done_changed x), omega arith, refl, refl, refl, refl, refl)
      phase_changed (Entering x) = (Entering (entering_changed x), omega arith, refl, refl, refl, refl, refl)
      phase_changed (Calling x) =
          let y = calling_changed x in (Calling y.0, omega (arith, y.1), refl, refl, refl, refl, refl)
      phase_changed (Reads x) =
          let y = reading_changed x in (
            Reads y.0,
            omega arith,
            refl,
            ap (λ (r : List Input × Option (Input × ℕ)). Some r) y.1,
            refl,
            refl,
            refl,
          )
      phase_changed (Calls x f) =
          let g = call_changed x in
          let again = frame_again at bottom img places p c c top m (changed m) x x.stage x.called g f f.aligned in (
            Calls g.call again,
            omega arith,
            refl,
            ap (λ (ds : List Input). Some (ds, None)) g.declared,
            refl,
            ap (λ (k : FunctionCall). Some k)
                (call_again at bottom img places p c c top m (changed m) x x.stage x.called g),
            g.registers,
          )
      phase_changed (Tails core x same) = tail_changed core x same

pub changes_keep_phases : ChangesKeepPhases
changes_keep_phases at bottom img places p c top m address value laid port aside small phase =
    phase_changed p address value small at bottom img places port aside c top m laid phase

-- The processor is where the image is, as before.
module _ (img : Image) (target : Target) (p : Program) (ceiling : ℕ) (called : ℕ → Option Machine)
    (there : IsInPlace img target p) (s : Moment) (m : Machine) (address value : ℕ)
    (can : CanChange target address value) (w : IsWhere img target p ceiling called s m)
  where
    abbrev at : Outside
    at = outside img target

    abbrev pl : List ℕ
    pl = places img target

    abbrev bottom : ℕ
    bottom = lowest img target p

    abbrev c : Core
    c = w.unpaid

    abbrev n : Machine
    n = with_word address value m

    laid : IsLaidOut at bottom (length c.processor.cells)
    laid = subst (IsLaidOut at bottom) (sym w.cells) there.laid

    aside : IsAside at bottom address
    aside = device_is_aside img target p there.image.fits there.image.ram address can.0

    fresh : IsAsFresh at bottom img pl p c c w.top m n w.phase
    fresh = changes_keep_phases at bottom img pl p c w.top m address value laid there.has.port aside can.1 w.phase

    abbrev own : Option Debt
    own = tail_of at bottom img pl p c w.top m w.phase

    kept : settled_words s.last (length c.processor.slots) ≤ kept_words at bottom img pl p c w.top m w.phase
    kept = w.fresh.0

    still_fresh : IsFresh at bottom (stack_top img target) ceiling target.inputs (calls_of target called) img pl p
        w.tail s.last c w.top n fresh.0
    still_fresh = (
      omega (arith, kept, fresh.1),
      subst (λ (o : Option (List Input × Option (Input × ℕ))). IfSome o
          (λ reads. HasJustRead reads.1 s.last × (reads.0 ≡ target.inputs))) (sym fresh.3) w.fresh.1,
      subst (λ (o : Option Debt). IfSome o (λ t. (w.tail ≡ Some t) × (execution c ≤ ceiling))) (sym fresh.4) w.fresh.2,
      subst (λ (o : Option FunctionCall). IfSome o (λ call. (is_called target.calls call.irq ≡ true)
          × (call.stage ≡ Within → called (external call.irq) ≡ Some call.called))) (sym fresh.5) w.fresh.3,
    )

    meanwhile : KeepsTail (others_tail own w.tail) (others_tail (tail_of at bottom img pl p c w.top n fresh.0) w.tail)
        c c
    meanwhile =
        subst (λ (o : Option Debt). KeepsTail (others_tail own w.tail) (others_tail o w.tail) c c) (sym fresh.4)
        (others_stay own w.tail c c
        (tail_untouched w.tail c c (owing img target p ceiling called s m w) refl
        (for_some w.tail (λ t. (c.alarm ≡ c.alarm)
        × (slice_index_or c.pending t.irq false ≡ true → slice_index_or c.pending t.irq false ≡ true))
        (λ t f. (refl, λ e. e)))))

    other_word : (k : ℕ) → (4 * k + 4 ≤ bottom → ⊥) → 4 * k < at.time + 8 → n.memory k ≡ m.memory k
    other_word k high low =
        ap (λ (b : Bool). if b then value else m.memory k) (ne_eqb k (address / 4) (λ e.
        ⊎_elim (λ (y : address + 4 ≤ bottom). high (omega (arith, y, e, aside.aligned)))
        (λ (y : at.time + 8 ≤ address). absurd (omega (arith, y, e, low, aside.aligned))) aside.apart))

    above : KeepsAbove at w.top (viewed at bottom img pl p c w.top m w.phase)
        (viewed at bottom img pl p c w.top n fresh.0)
    above =
        let within = phases_are_within_frames at bottom img pl p c w.top m laid there.has.port w.phase in
        views_keep at bottom img pl p c c w.top w.top m n w.phase fresh.0 w.top
        (λ k h f g. ap (λ (r : ℕ → ℕ). r k) fresh.6)
        (λ k h f.
        other_word k (λ low. absurd (omega (arith, low, h, within.low, within.high)))
        (omega (arith, f, there.laid.time))) refl refl

    chip : KeepsChip target at bottom m n
    chip k no_device beside =
        ap (λ (b : Bool). if b then value else m.memory k) (ne_eqb k (address / 4) (λ e.
        false≢true (sym no_device ∙ (ap (is_devices target) e ∙ devices_word target address can.0))))

    still_words : HoldsWords n
    still_words = words_changed p address value can.1 m w.words

    service : KeepsService img target p there m n
    service = service_chip img target p there m n (omega (arith, w.loaded.loaded.region.0)) chip

    pub changed_where : IsWhere img target p ceiling called s n
    changed_where =
        subst (λ (k : Core). IsWhere img target p ceiling called (with_core s k) n) (sym w.owed)
        (is_where_by img target p there ceiling called called s m n w (λ jobs. jobs) w.tail w.of_timer c s.last fresh.0
        still_fresh meanwhile above service still_words w.placed refl refl refl refl w.alarm)

    pub changed_related : IsPastMarks img target p c w.top m w.phase → Related img target p ceiling called s n
    changed_related marks =
        subst (λ (k : Core). Related img target p ceiling called (with_core s k) n) (sym w.owed)
        (related_by img target p there ceiling called called s m n w (λ jobs. jobs) w.tail w.of_timer c s.last fresh.0
        still_fresh meanwhile above service still_words w.placed refl refl refl refl w.alarm
        (past_of img target p ceiling called there s m w c n fresh.0 (λ f none at_mark.
        of_past img target p ceiling called there s m w w.phase marks (sym fresh.2 ∙ f) none at_mark)))

pub changes_lead_on : ChangesLeadOn
changes_lead_on img target p ceiling called s m address value there r can =
    changed_related img target p ceiling called there s m address value can r.here r.marks
