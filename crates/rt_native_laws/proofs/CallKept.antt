-- A job stays where it is in its call, whatever others do; and the call is in its handler's frame as before.
use Rattle.std.proofs.Common.{◌≡◌, ◌∙◌, ℕ, ◌+◌, ◌-◌, ◌*◌, ◌/◌, ◌%◌, ◌^◌, ◌<◌, ◌≤◌, false}
use Rattle.std.proofs.Common.{List, Some, sym, refl, ap, subst, arith, length}
use Rattle.std.specs.List.{filter}
use Rattle.std.specs.Prelude.{◌==◌}
use Rattle.rt_code.specs.Image.{Image}
use Rattle.rt_code.specs.declared.image.Handler.{Handler}
use Rattle.rt_core.specs.Core.{Core}
use Rattle.rt_native.specs.declared.outside.Outside.{Outside}
use Rattle.rt_thumb.specs.Machine.{Machine, word_at}
use Rattle.rt_thumb.specs.Step.{Program}
use Rattle.rt_native_laws.specs.GoingInCall.{CallIsKept, GoesOnIn}
use Rattle.rt_native_laws.specs.InCall.{AtBranch, AtFall, AtKeep, AtRise, AtTake, CallStage, IsAtStage, IsInCall}
use Rattle.rt_native_laws.specs.InCall.{PreservesRegisters, Within, keeper}
use Rattle.rt_native_laws.specs.Phases.{FunctionCall, IsInFrame, OthersRan}
use Rattle.rt_native_laws.specs.Standing.{HoldsWords, IsLaidOut, Shows}
use Rattle.rt_native_laws.proofs.Reading.{all_inputs}

module _ (at : Outside) (bottom : ℕ) (img : Image) (places : List ℕ) (p : Program) (c : Core) (top : ℕ) (m : Machine)
    (x : IsInCall at bottom img places p c top m) where
  abbrev link : ℕ
  link = x.registers 14

  -- what is true of a job at a stage
  abbrev There : Machine → Machine → CallStage → Type 0
  There called n stage = IsAtStage x.begins top link x.room called n stage

  abbrev Keeps : Machine → Machine → CallStage → Type 0
  Keeps called n stage = PreservesRegisters x.registers (keeper x.begins top link x.room called n stage)

  -- the call goes on at a stage
  pub made : (d : Core) (n : Machine) (stage : CallStage) (called : Machine)
      → length d.processor.cells ≡ length c.processor.cells → d.processor.address ≡ c.processor.address
      → length d.processor.slots ≡ length c.processor.slots → d.caller ≡ c.caller → There called n stage
      → Keeps called n stage → n.exception ≡ m.exception → Shows at d n → n.is_unsettled ≡ false → HoldsWords n
      → GoesOnIn at bottom img places p top c d m n x stage called
  made d n stage called as_many address slots caller there keeps exception shows settled words = record {
    call = record {
      to = x.to;
      irq = x.irq;
      handler = x.handler;
      declared = x.declared;
      inputs = all_inputs (length c.processor.cells) (length d.processor.cells) as_many
          (filter (λ i. i.irq == x.irq) x.declared) x.inputs;
      function = x.function;
      reached = x.reached;
      room = x.room;
      begins = x.begins;
      halfword = x.halfword;
      code = x.code;
      low = x.low;
      registers = x.registers;
      called = called;
      stage = stage;
      there = there;
      keeps = keeps;
      exception = exception ∙ x.exception;
      laid = subst (IsLaidOut at bottom) (sym as_many) x.laid;
      entry = address ∙ x.entry;
      frame = slots ∙ x.frame;
      free = caller ∙ x.free;
      eights = x.eights;
      for_frame = x.for_frame;
      for_function = x.for_function;
      below_cells = x.below_cells;
      shows = shows;
      settled = settled;
      words = words;
    };
    at_stage = refl;
    called_at = refl;
    irq = refl;
    handler = refl;
    declared = refl;
    function = refl;
    room = refl;
    registers = refl;
  }

module _ (at : Outside) (bottom : ℕ) (img : Image) (places : List ℕ) (p : Program) (c d : Core) (top : ℕ)
    (m n : Machine) (x : IsInCall at bottom img places p c top m) (o : OthersRan at (m.register 13) top c d m n) where
  abbrev now : Machine
  now = record m {
    memory = n.memory;
    is_pending = n.is_pending;
    is_unsettled = n.is_unsettled;
    seen = n.seen;
  }

  abbrev core_now : Core
  core_now = record c {
    time = d.time;
    alarm = d.alarm;
    pending = d.pending;
    processor = record c.processor { cells = d.processor.cells };
  }

  word_still : m.register 13 ≤ top - 8 → word_at m (top - 8) ≡ x.registers 14 → word_at n (top - 8) ≡ x.registers 14
  word_still low w =
      o.processor.memory ((top - 8) / 4) (omega (arith, low, x.eights, x.for_function))
      (omega (arith, x.eights, x.for_function)) ∙ w

  held : (stage : CallStage) → IsAtStage x.begins top (x.registers 14) x.room x.called m stage
      → IsAtStage x.begins top (x.registers 14) x.room x.called now stage
  held AtFall t = t
  held AtKeep t = t
  held AtBranch (a, sp, w) = (a, sp, word_still (omega (arith, sp)) w)
  held Within (l, sp, w, low, deep) = (l, sp, word_still low w, low, deep)
  held AtTake (a, sp, w) = (a, sp, word_still (omega (arith, sp)) w)
  held AtRise t = t

  kept_by : (stage : CallStage)
      → PreservesRegisters x.registers (keeper x.begins top (x.registers 14) x.room x.called m stage)
      → PreservesRegisters x.registers (keeper x.begins top (x.registers 14) x.room x.called now stage)
  kept_by AtFall k = k
  kept_by AtKeep k = k
  kept_by AtBranch k = k
  kept_by Within k = k
  kept_by AtTake k = k
  kept_by AtRise k = k

  again : GoesOnIn at bottom img places p top c core_now m now x x.stage x.called
  again =
      made at bottom img places p c top m x core_now now x.stage x.called o.as_many refl refl refl
      (held x.stage x.there) (kept_by x.stage x.keeps) refl (record {
        base_priority = x.shows.base_priority;
        is_masked = x.shows.is_masked;
        cells = o.cells;
        time = o.time;
        alarm = o.alarm;
        pending = o.pending;
      }) o.settled (subst HoldsWords o.processor.rest o.words)

  kept_so : GoesOnIn at bottom img places p top c d m n x x.stage x.called
  kept_so =
      subst (λ (k : Core). GoesOnIn at bottom img places p top c k m n x x.stage x.called) (sym o.core)
      (subst (λ (y : Machine). GoesOnIn at bottom img places p top c core_now m y x x.stage x.called)
      (sym o.processor.rest) again)

pub call_is_kept : CallIsKept
call_is_kept at bottom img places p c d top m n x o = kept_so at bottom img places p c d top m n x o

-- a call, by its parts
abbrev pub call_made : ℕ → CallStage → Machine → FunctionCall
call_made irq stage called = record { irq = irq; stage = stage; called = called }

-- A call that goes on is in its handler's frame still.
module _ (at : Outside) (bottom : ℕ) (img : Image) (places : List ℕ) (p : Program) (c d : Core) (top : ℕ)
    (m n : Machine) (x : IsInCall at bottom img places p c top m) (stage : CallStage) (called : Machine)
    (g : GoesOnIn at bottom img places p top c d m n x stage called) where
  pub frame_again : IsInFrame at bottom img places p c top m x → n.register 13 % 4 ≡ 0
      → IsInFrame at bottom img places p d top n g.call
  frame_again f aligned = record {
    room = ap (λ (r : ℕ). r + 8) g.room ∙ (f.room ∙ ap (λ (h : Handler). 4 * h.frame) (sym g.handler));
    place = f.place;
    row = f.row;
    found = f.found;
    number = f.number ∙ sym g.irq;
    handled = f.handled ∙ ap (λ (h : Handler). Some h) (sym g.handler);
    aligned = aligned;
    given = λ k. subst (λ (r : ℕ → ℕ). r k < 2 ^ 32) (sym g.registers) (f.given k);
    elsewhere = ap p.code g.function ∙ f.elsewhere;
  }

  pub call_again : call_made g.call.irq g.call.stage g.call.called ≡ call_made x.irq stage called
  call_again =
      ap (λ (i : ℕ). call_made i g.call.stage g.call.called) g.irq
      ∙ (ap (λ (i : CallStage). call_made x.irq i g.call.called) g.at_stage ∙ ap (call_made x.irq stage) g.called_at)
