-- A frame that is coming into being is so after others have run.
use Rattle.std.proofs.Common.{◌≡◌, ◌∙◌, ℕ, ◌+◌, ◌*◌, ◌/◌, ◌%◌, ◌^◌, ◌<◌, ◌≤◌, ◌⊎◌, inr, Bool, false, ⊎_elim}
use Rattle.std.proofs.Common.{List, [], Option, sym, refl, ap, subst, arith, length}
use Rattle.std.specs.Prelude.{slice_index}
use mathlib.Core.Path.{fun_ext}
use Rattle.rt_lemmas.proofs.Bools.{not_so, true_and_false}
use Rattle.rt_code.specs.Image.{Image}
use Rattle.rt_code.specs.Stack.{words_of}
use Rattle.rt_core.specs.Core.{Core}
use Rattle.rt_native.specs.declared.outside.Outside.{Outside}
use Rattle.rt_thumb.specs.Machine.{Machine, Seen, word_at}
use Rattle.rt_thumb.specs.Step.{Program}
use Rattle.rt_thumb.specs.declared.instruction.Instruction.{Instruction}
use Rattle.rt_native_laws.specs.Doing.{with_slots}
use Rattle.rt_native_laws.specs.Laws.{IsApart}
use Rattle.rt_native_laws.specs.Own.{ChangesItsOwn, IsDisturbed, RunsPrivately}
use Rattle.rt_native_laws.specs.Phases.{HasBegun, IsEntering, IsCalling, OthersRan, EnteringIsKept, CallingIsKept}
use Rattle.rt_native_laws.specs.Standing.{IsLaidOut, HoldsWords}
use Rattle.rt_native_laws.proofs.Phases.{apart_of, either_side, mixed, mixed_inside, mixed_outside, stands_again}
use Rattle.rt_native_laws.proofs.Private.{private_is_unseen}
use Rattle.rt_native_laws.proofs.Undisturbed.{private_is_undisturbed}
use Rattle.rt_priorities.specs.Ticking.{alarm_word}

-- Some code has begun; others run; it has begun from a first state that has what they did.
module _ (p : Program) (top : ℕ) (text : List Instruction) (first m n : Machine) (b : HasBegun p top text first m)
    (apart : IsApart p (m.register 13) top) (high : first.register 13 ≤ top) (settled : first.is_unsettled ≡ false)
    (settled_now : n.is_unsettled ≡ false) (there : IsDisturbed (m.register 13) top m n) where
  abbrev low : ℕ
  low = m.register 13

  abbrev pub first_again : Machine
  first_again = record first {
    memory = mixed low top first.memory n.memory;
    is_pending = n.is_pending;
    is_unsettled = first.is_unsettled;
    seen = n.seen;
  }

  run : (last : Machine) × RunsPrivately p low top b.passed first_again last × IsDisturbed low top m last
  run = private_is_undisturbed p low top b.passed first m first_again apart b.fallen high b.prepares
      (record { rest = refl; memory = λ k f t. mixed_inside low top first.memory n.memory k f t })

  abbrev last : Machine
  last = run.0

  own : ChangesItsOwn low top first_again last
  own = private_is_unseen p low top b.passed first_again last apart b.fallen high run.1

  -- the state, by its parts that others may have changed
  abbrev told : (ℕ → ℕ) → (ℕ → Bool) → Bool → List Seen → Machine
  told memory pending unsettled seen =
      record m { memory = memory; is_pending = pending; is_unsettled = unsettled; seen = seen }

  same_word : (k : ℕ) → last.memory k ≡ n.memory k
  same_word k =
      ⊎_elim (λ (y : (low ≤ 4 * k) × (4 * k < top)). run.2.memory k y.0 y.1 ∙ sym (there.memory k y.0 y.1))
      (λ (y : (4 * k + 4 ≤ low) ⊎ (top ≤ 4 * k)).
      own.memory k y ∙ mixed_outside low top first.memory n.memory k y) (either_side low top k b.aligned)

  unsettled : last.is_unsettled ≡ n.is_unsettled
  unsettled =
      not_so last.is_unsettled (λ e. true_and_false first.is_unsettled (own.settled e) settled) ∙ sym settled_now

  same_last : last ≡ n
  same_last =
      run.2.rest
      ∙ (ap (λ (f : ℕ → ℕ). told f last.is_pending last.is_unsettled last.seen) (fun_ext same_word)
      ∙ (ap (λ (f : ℕ → Bool). told n.memory f last.is_unsettled last.seen)
      (ap (λ (y : Machine). y.is_pending) own.rest)
      ∙ (ap (λ (f : Bool). told n.memory n.is_pending f last.seen) unsettled
      ∙ (ap (λ (f : List Seen). told n.memory n.is_pending n.is_unsettled f) (ap (λ (y : Machine). y.seen) own.rest)
      ∙ sym there.rest))))

  same_stack : n.register 13 ≡ m.register 13
  same_stack = ap (λ (y : Machine). y.register 13) there.rest

  pub begun_again : HasBegun p top text first_again n
  begun_again = record {
    passed = b.passed;
    next = b.next;
    left = b.left;
    parts = b.parts;
    fallen = omega (arith, same_stack, b.fallen);
    aligned = omega (arith, same_stack, b.aligned);
    prepares = subst (λ (x : ℕ). RunsPrivately p x top b.passed first_again n) (sym same_stack)
        (subst (λ (y : Machine). RunsPrivately p low top b.passed first_again y) same_last run.1);
  }

  pub words_again : HoldsWords first → HoldsWords n → HoldsWords first_again
  words_again old new = record {
    registers = old.registers;
    memory = λ k.
        ⊎_elim (λ (y : (low ≤ 4 * k) × (4 * k < top)).
        subst (λ (w : ℕ). w < 2 ^ 32) (sym (mixed_inside low top first.memory n.memory k y.0 y.1)) (old.memory k))
        (λ (y : (4 * k + 4 ≤ low) ⊎ (top ≤ 4 * k)).
        subst (λ (w : ℕ). w < 2 ^ 32) (sym (mixed_outside low top first.memory n.memory k y)) (new.memory k))
        (either_side low top k b.aligned);
    base_priority = old.base_priority;
  }

  -- words that are none of the job's
  pub word_outside : (a w cells : ℕ) → top ≤ cells → cells ≤ a → a % 4 ≡ 0 → word_at n a ≡ w → word_at first_again a ≡ w
  word_outside a w cells l h z e =
      mixed_outside low top first.memory n.memory (a / 4) (inr (omega (arith, h, z, l))) ∙ e

  pub word_inside : (k : ℕ) → low ≤ 4 * k → 4 * k < top → first_again.memory k ≡ first.memory k
  word_inside k f t = mixed_inside low top first.memory n.memory k f t

-- A handler's frame.
module _ (at : Outside) (bottom : ℕ) (img : Image) (places : List ℕ) (p : Program) (c d : Core) (top : ℕ)
    (m n : Machine) (o : OthersRan at (m.register 13) top c d m n) where
  -- the core that others left
  abbrev left_core : Core
  left_core = record c {
    time = d.time;
    alarm = d.alarm;
    pending = d.pending;
    processor = record c.processor { cells = d.processor.cells };
  }

  module _ (port : p.port ≡ at.port) (x : IsEntering at bottom img places p c top m) where
    deep : bottom ≤ m.register 13
    deep = omega (arith, x.deep, x.opens.room, x.ends)

    below_cells : top ≤ at.cells
    below_cells = omega (arith, x.opens.stands.frames, x.ends)

    apart : IsApart p (m.register 13) top
    apart =
        apart_of at bottom (m.register 13) top (length c.processor.cells) p x.opens.laid port deep below_cells

    high : x.first.register 13 ≤ top
    high = omega (arith, x.ends)

    abbrev again : Machine
    again = first_again p top _ x.first m n x.begun apart high x.settled o.settled o.processor

    none : length (words_of c.caller) ≡ 0
    none = ap (λ (y : Option (List ℕ)). length (words_of y)) x.opens.free

    outside : (a w : ℕ) → at.cells ≤ a → a % 4 ≡ 0 → word_at n a ≡ w → word_at again a ≡ w
    outside a w h z e =
        word_outside p top _ x.first m n x.begun apart high x.settled o.settled o.processor a w at.cells below_cells h z
        e

    entering_again : IsEntering at bottom img places p left_core top n
    entering_again =
        let laid = x.opens.laid in
        let z : at.cells % 4 ≡ 0 = laid.aligned in
        let place = slice_index places x.handler.entry in
        record {
          to = x.to;
          irq = x.irq;
          handler = x.handler;
          first = again;
          opens = record {
            laid = subst (IsLaidOut at bottom) (sym o.as_many) laid;
            addresses = x.opens.addresses;
            low = x.opens.low;
            code = x.opens.code;
            entry = x.opens.entry;
            frame = x.opens.frame;
            free = x.opens.free;
            room = x.opens.room;
            stands = stands_again at bottom places (with_slots at bottom img places p [] c)
                (record x.first { address = place }) x.opens.stands d.time d.alarm d.pending d.processor.cells
                again.memory n.is_pending x.first.is_unsettled n.seen
                (λ k f t. absurd (omega (arith, f, t, none)))
                (λ k l. outside (at.cells + 4 * k) _ (omega arith) (omega (arith, z)) (o.cells k l))
                (outside at.time d.time (omega (arith, laid.time)) (omega (arith, z, laid.time)) o.time)
                (outside (at.time + 4) (alarm_word d.alarm) (omega (arith, laid.time)) (omega (arith, z, laid.time))
                o.alarm)
                o.pending;
          };
          ends = x.ends;
          settled = x.settled;
          words = words_again p top _ x.first m n x.begun apart high x.settled o.settled o.processor x.words o.words;
          begun = begun_again p top _ x.first m n x.begun apart high x.settled o.settled o.processor;
          deep = omega (arith, x.deep, ap (λ (y : Machine). y.register 13) o.processor.rest);
        }

  -- A body's frame.
  module _ (x : IsCalling at bottom img places p c top m) where
    same_cells : length c.processor.cells ≡ length x.before.processor.cells
    same_cells = ap (λ (y : Core). length y.processor.cells) x.called.core

    calling_deep : bottom ≤ m.register 13
    calling_deep = omega (arith, x.deep, x.can.room)

    calling_below : top ≤ at.cells
    calling_below = omega (arith, x.stands.stands.frames, x.ends)

    calling_apart : IsApart p (m.register 13) top
    calling_apart =
        apart_of at bottom (m.register 13) top (length x.before.processor.cells) p x.stands.laid x.stands.port
        calling_deep calling_below

    calling_high : x.first.register 13 ≤ top
    calling_high = omega (arith, x.ends)

    abbrev calling_first : Machine
    calling_first =
        first_again p top _ x.first m n x.begun calling_apart calling_high x.settled o.settled o.processor

    abbrev before_again : Core
    before_again = record x.before {
      time = d.time;
      alarm = d.alarm;
      pending = d.pending;
      processor = record x.before.processor { cells = d.processor.cells };
    }

    calling_outside : (a w : ℕ) → at.cells ≤ a → a % 4 ≡ 0 → word_at n a ≡ w → word_at calling_first a ≡ w
    calling_outside a w h z e =
        word_outside p top _ x.first m n x.begun calling_apart calling_high x.settled o.settled o.processor a w at.cells
        calling_below h z e

    abbrev calling_again : IsCalling at bottom img places p left_core top n
    calling_again =
        let laid = x.stands.laid in
        let z : at.cells % 4 ≡ 0 = laid.aligned in
        let same_stack = ap (λ (y : Machine). y.register 13) o.processor.rest in
        record {
          row = x.row;
          slot = x.slot;
          body = x.body;
          found = x.found;
          before = before_again;
          may = x.may;
          fits = x.fits;
          called = record {
            core = ap (λ (y : Core). record y {
              time = d.time;
              alarm = d.alarm;
              pending = d.pending;
              processor = record y.processor { cells = d.processor.cells };
            }) x.called.core;
            long = x.called.long;
            words = x.called.words;
          };
          frame = x.frame;
          first = calling_first;
          stands = record {
            laid = subst (IsLaidOut at bottom) (sym (o.as_many ∙ same_cells)) laid;
            port = x.stands.port;
            addresses = x.stands.addresses;
            halfwords = x.stands.halfwords;
            code = x.stands.code;
            stands = stands_again at bottom places x.before x.first x.stands.stands d.time d.alarm d.pending
                d.processor.cells calling_first.memory n.is_pending x.first.is_unsettled n.seen
                (λ k f t.
                word_inside p top _ x.first m n x.begun calling_apart calling_high x.settled o.settled o.processor k
                (omega (arith, f, x.begun.fallen)) (omega (arith, t, x.ends)))
                (λ k l. calling_outside (at.cells + 4 * k) _ (omega arith) (omega (arith, z)) (o.cells k l))
                (calling_outside at.time d.time (omega (arith, laid.time)) (omega (arith, z, laid.time)) o.time)
                (calling_outside (at.time + 4) (alarm_word d.alarm) (omega (arith, laid.time))
                (omega (arith, z, laid.time)) o.alarm)
                o.pending;
            words = words_again p top _ x.first m n x.begun calling_apart calling_high x.settled o.settled o.processor
                x.stands.words o.words;
          };
          can = record {
            frame = x.can.frame;
            few = x.can.few;
            arguments = x.can.arguments;
            slots = x.can.slots;
            room = x.can.room;
          };
          ends = x.ends;
          settled = x.settled;
          begun = begun_again p top _ x.first m n x.begun calling_apart calling_high x.settled o.settled o.processor;
          deep = omega (arith, x.deep, same_stack);
        }

pub entering_is_kept : EnteringIsKept
entering_is_kept at bottom img places p c d top m n port x o =
    subst (λ (y : Core). IsEntering at bottom img places p y top n) (sym o.core)
    (entering_again at bottom img places p c d top m n o port x)

-- it is the same body that is called
pub calling_is_kept_so : (at : Outside) (bottom : ℕ) (img : Image) (places : List ℕ) (p : Program) (c d : Core)
    (top : ℕ) (m n : Machine) (x : IsCalling at bottom img places p c top m) → OthersRan at (m.register 13) top c d m n
    → (y : IsCalling at bottom img places p d top n) × (y.body.args ≡ x.body.args)
calling_is_kept_so at bottom img places p c d top m n x o =
    subst (λ (k : Core). (y : IsCalling at bottom img places p k top n) × (y.body.args ≡ x.body.args)) (sym o.core)
    (calling_again at bottom img places p c d top m n o x, refl)

pub calling_is_kept : CallingIsKept
calling_is_kept at bottom img places p c d top m n x o =
    (calling_is_kept_so at bottom img places p c d top m n x o).0
