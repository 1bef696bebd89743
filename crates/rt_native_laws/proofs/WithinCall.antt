-- A function of C goes on within its call, others leave it there, and an entry begins it.
use Rattle.std.proofs.Common.{◌≡◌, ◌∙◌, ℕ, ◌+◌, ◌-◌, ◌*◌, ◌/◌}
use Rattle.std.proofs.Common.{List, refl, subst, arith}
use Rattle.rt_code.specs.Image.{Image}
use Rattle.rt_core.specs.Core.{Core}
use Rattle.rt_core.specs.Transfer.{core_after_entry}
use Rattle.rt_native.specs.declared.outside.Outside.{Outside}
use Rattle.rt_native.specs.declared.target.Region.{Region}
use Rattle.rt_thumb.specs.Exceptions.{even, external, entered}
use Rattle.rt_thumb.specs.Machine.{Machine, word_at}
use Rattle.rt_thumb.specs.Step.{Program}
use Rattle.rt_native_laws.specs.Functions.{IsHarmless, IsOurs, OfCells, OfFlash, OfStack, OfSystem, OfTime, cells_with}
use Rattle.rt_native_laws.specs.Functions.{core_with_cells}
use Rattle.rt_native_laws.specs.InCall.{PreservesRegisters, AtFall, AtTake, IsInCall}
use Rattle.rt_native_laws.specs.InCall.{CallStage, IsAtStage, Within, keeper}
use Rattle.rt_native_laws.specs.Standing.{Shows}
use Rattle.rt_native_laws.specs.GoingInCall.{EntryBeginsCall, FunctionGoes, FunctionGoesOn, GoesOnIn}
use Rattle.rt_native_laws.proofs.Functions.{cells_lie, cells_long, no_places}
use Rattle.rt_native_laws.proofs.Waiting.{unopened_inside}
use Rattle.rt_native_laws.proofs.CallKept.{made}

module _ (at : Outside) (bottom : ℕ) (img : Image) (places : List ℕ) (p : Program) (flash : Region) (written : List ℕ)
    (c : Core) (top : ℕ) (m n : Machine) (x : IsInCall at bottom img places p c top m)
    (i : IsHarmless at flash written x.room x.called m n)
    (t : IsAtStage x.begins top (x.registers 14) x.room x.called m Within)
    (keeps : PreservesRegisters x.registers x.called)
  where
    abbrev place : ℕ
    place = top - 8

    abbrev cells : List ℕ
    cells = cells_with at n written c.processor.cells

    abbrev d : Core
    d = core_with_cells cells c

    -- of the stack more is ours while the function runs
    ours_then : (k : ℕ) → IsOurs at flash written top k → n.memory k ≡ m.memory k
    ours_then k (OfStack from to) = i.memory k (OfStack (omega (arith, from, t.1)) to)
    ours_then k (OfCells from to others) = i.memory k (OfCells from to others)
    ours_then k (OfTime from to) = i.memory k (OfTime from to)
    ours_then k (OfFlash from to) = i.memory k (OfFlash from to)
    ours_then k (OfSystem from to) = i.memory k (OfSystem from to)

    link_still : word_at n place ≡ x.registers 14
    link_still =
        i.memory (place / 4)
        (OfStack (omega (arith, t.1, x.eights, x.for_function))
        (omega (arith, x.eights, x.for_function, x.below_cells)))
        ∙ t.2

    shows_then : Shows at d n
    shows_then = record {
      base_priority = i.base_priority ∙ x.shows.base_priority;
      is_masked = i.is_masked ∙ x.shows.is_masked;
      cells = cells_lie at n written c.processor.cells (λ k l none.
          let a : 4 * ((at.cells + 4 * k) / 4) ≡ at.cells + 4 * k = omega (arith, x.laid.aligned) in
          i.memory ((at.cells + 4 * k) / 4) (OfCells (omega (arith, a)) (omega (arith, a, l, x.laid.time))
          (no_places at written ((at.cells + 4 * k) / 4) k a none)) ∙ x.shows.cells k l);
      time = i.memory (at.time / 4) (OfTime (omega (arith, x.laid.aligned, x.laid.time)) (omega arith)) ∙ x.shows.time;
      alarm = i.memory ((at.time + 4) / 4) (OfTime (omega (arith, x.laid.aligned, x.laid.time)) (omega arith))
          ∙ x.shows.alarm;
      pending = λ k l. i.requests (external k) ∙ x.shows.pending k l;
    }

    goes_to : (stage : CallStage) → IsAtStage x.begins top (x.registers 14) x.room x.called n stage
        → PreservesRegisters x.registers (keeper x.begins top (x.registers 14) x.room x.called n stage)
        → GoesOnIn at bottom img places p top c d m n x stage x.called
    goes_to stage there kept =
        made at bottom img places p c top m x d n stage x.called (cells_long at n written c.processor.cells) refl refl
        refl there kept i.exception shows_then (i.settled ∙ x.settled) i.words

    goes : FunctionGoes at bottom img places p flash written c d top m n x
    goes = record {
      within = goes_to Within (
        t.0,
        t.1,
        link_still,
        omega (arith, i.stack.1, t.1),
        omega (arith, i.stack.0, t.1),
      ) keeps;
      back = λ b.
          let to : even (x.called.register 14) ≡ x.begins + 10 = omega (arith, t.0, x.halfword) in
          goes_to AtTake (b.address ∙ to, b.stack ∙ t.1, link_still)
          (λ k f g h j. b.registers k f g h j ∙ keeps k f g h j);
      ours = record {
        memory = ours_then;
        exception = i.exception;
        active = i.active;
        requests = i.requests;
        seen = i.seen;
      };
    }

pub function_goes_on : FunctionGoesOn
function_goes_on at bottom img places p flash written c top m n x e i =
    goes at bottom img places p flash written c top m n x i
    (subst (IsAtStage x.begins top (x.registers 14) x.room x.called m) e x.there)
    (subst (λ (s : CallStage).
    PreservesRegisters x.registers (keeper x.begins top (x.registers 14) x.room x.called m s)) e
    x.keeps)

pub entry_begins_call : EntryBeginsCall
entry_begins_call at bottom img places p inputs room function to irq h c top m code laid can low inactive unmasked words
    fits within phase below all reached span frame deep =
    let u = unopened_inside at bottom img places p irq h c top m laid code.port can low inactive unmasked words fits
    within phase code to below frame in
    let inside = entered (external irq) m in
    let begun : IsInCall at bottom img places p (core_after_entry c irq h) (inside.register 13) inside = record {
      to = to;
      irq = irq;
      handler = h;
      declared = inputs;
      inputs = all;
      function = function;
      reached = reached;
      room = room;
      begins = inside.address;
      halfword = omega arith;
      code = span;
      low = below;
      registers = inside.register;
      called = inside;
      stage = AtFall;
      there = (refl, refl, refl);
      keeps = λ k f g i j. refl;
      exception = refl;
      laid = u.laid;
      entry = u.entry;
      frame = u.frame;
      free = u.free;
      eights = omega (arith, can.stack, can.room);
      for_frame = u.room;
      for_function = omega (arith, can.stack, deep);
      below_cells = omega (arith, u.stands.frames);
      shows = record {
        base_priority = u.stands.base_priority;
        is_masked = u.stands.is_masked;
        cells = u.stands.cells;
        time = u.stands.time;
        alarm = u.stands.alarm;
        pending = u.stands.pending;
      };
      settled = refl;
      words = u.words;
    } in
    (begun, refl, refl, refl, refl, refl, refl, refl)
