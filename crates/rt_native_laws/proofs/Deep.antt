-- The stack is no deeper than the model's.
use Rattle.std.proofs.Common.{◌≡◌, ℕ, suc, ◌+◌, ◌*◌, ◌%◌, ◌≤◌, Bool, true, false, List, [], ◌∷◌, Option, ap}
use Rattle.std.proofs.Common.{subst, arith, sum_by}
use Rattle.std.proofs.Common.{length, None}
use Rattle.std.proofs.lemmas.List.{length-set}
use Rattle.std.proofs.lemmas.List.Sums.{sum_by-cons}
use Rattle.std.specs.Prelude.{is_none}
use Rattle.rt_ids.specs.Exception as exception
use Rattle.rt_lemmas.proofs.Bools.{and_parts}
use Rattle.rt_code.specs.Image.{Image, entry_words}
use Rattle.rt_code.specs.Stack.{words_of, caller_frame, last_slot}
use Rattle.rt_core.specs.Core.{Context, Core, context_words, depth}
use Rattle.rt_native.specs.declared.outside.Outside.{Outside}
use Rattle.rt_native.specs.declared.target.Input.{Input}
use Rattle.rt_thumb.specs.Machine.{Machine}
use Rattle.rt_thumb.specs.Step.{Program}
use Rattle.rt_native_laws.specs.Deep.{IsWithinFrames, PhasesAreWithinFrames, StackIsNoDeeper}
use Rattle.rt_native_laws.specs.InCall.{AtBranch, AtFall, AtKeep, AtRise, AtTake, CallStage, IsAtStage, IsInCall}
use Rattle.rt_native_laws.specs.InCall.{Within}
use Rattle.rt_native_laws.specs.InTail.{Debt, IsInTail}
use Rattle.rt_native_laws.specs.Moments.{Taking}
use Rattle.rt_native_laws.specs.Phases.{AlreadyDone, Calling, Entering, IsCalling, IsDone, IsEntering, IsToCome, Phase}
use Rattle.rt_native_laws.specs.Phases.{Calls, IsInFrame, Reads, Tails, ToCome, tail_of, viewed}
use Rattle.rt_native_laws.specs.Reading.{IsReading}
use Rattle.rt_native_laws.specs.Standing.{IsLaidOut, frame_bytes}
use Rattle.rt_native_laws.specs.Waiting.{FunctionCalls, Waiting, interrupted_core, others_tail, resumed}
use Rattle.rt_native_laws.proofs.Calls.{is_free}
use Rattle.rt_native_laws.proofs.Phases.{apart_of}
use Rattle.rt_native_laws.proofs.Private.{private_is_unseen}

module _ (at : Outside) (bottom : ℕ) (img : Image) (places : List ℕ) (p : Program) (c : Core) (top : ℕ)
    (m : Machine) (port : p.port ≡ at.port) where
  to_come_within : IsToCome at bottom img places p c top m → IsWithinFrames at bottom c top m
  to_come_within x =
      let low = x.first.register 13 in
      let begun = x.stands.stands in
      let high : top ≤ at.cells = omega (arith, x.ends, begun.frames) in
      let apart = apart_of at bottom low top (length c.processor.cells) p x.stands.laid port begun.stack high in
      let own = private_is_unseen p low top x.passed x.first x.reached apart (omega arith) (omega (arith, x.ends))
      x.prepares in
      let sp : m.register 13 ≡ x.reached.register 13 = ap (λ (y : Machine). y.register 13) x.now.rest in
      record {
        low = omega (arith, sp, own.stack.0, begun.stack);
        high = omega (arith, sp, own.stack.1);
        frames = omega (arith, sp, own.stack.0, x.ends);
        below_cells = high;
      }

  done_within : IsDone at bottom img places p c top m → IsWithinFrames at bottom c top m
  done_within x = record {
    low = omega (arith, x.stack, x.stands.stack);
    high = omega (arith, x.stack, x.ends);
    frames = omega (arith, x.stack, x.ends);
    below_cells = omega (arith, x.ends, x.stands.frames);
  }

  entering_within : IsEntering at bottom img places p c top m → IsWithinFrames at bottom c top m
  entering_within x = record {
    low = omega (arith, x.deep, x.ends, x.opens.room);
    high = omega (arith, x.begun.fallen, x.ends);
    frames = omega (arith, x.deep, x.opens.frame);
    below_cells = omega (arith, x.ends, x.opens.stands.frames);
  }

  calling_within : IsCalling at bottom img places p c top m → IsWithinFrames at bottom c top m
  calling_within x =
      let free : x.before.caller ≡ None =
      is_free x.before.caller (and_parts (is_none x.before.caller) _ x.may).0 in
      let none : length (words_of x.before.caller) ≡ 0 =
      ap (λ (o : Option (List ℕ)). length (words_of o)) free in
      let long : length (caller_frame x.before.processor.slots (suc x.before.processor.address))
      ≡ length x.before.processor.slots =
      length-set x.before.processor.slots (last_slot x.before.processor.slots) (suc x.before.processor.address) in
      let caller : length (words_of c.caller)
      ≡ length (caller_frame x.before.processor.slots (suc x.before.processor.address)) =
      ap (λ (y : Core). length (words_of y.caller)) x.called.core in
      record {
        low = omega (arith, x.deep, x.can.room);
        high = omega (arith, x.begun.fallen, x.ends);
        frames = omega (arith, x.deep, x.ends, x.frame, none, long, caller);
        below_cells = omega (arith, x.ends, x.stands.stands.frames);
      }

  reading_within : IsReading at bottom img places p c top m → IsWithinFrames at bottom c top m
  reading_within x = record {
    low = omega (arith, x.room);
    high = omega (arith, x.ends);
    frames = omega (arith, x.ends);
    below_cells = omega (arith, x.ends, x.stands.frames);
  }

  tail_within : (core : Core) (x : IsInTail at bottom img places p core top m) → x.unpaid ≡ c
      → IsWithinFrames at bottom c top m
  tail_within core x same = subst (λ (y : Core). IsWithinFrames at bottom y top m) same (record {
    low = omega (arith, x.stands.stack);
    high = omega (arith, x.ends);
    frames = omega (arith, x.ends);
    below_cells = omega (arith, x.ends, x.stands.frames);
  })

  stage_within : (begins link room : ℕ) (called : Machine) (stage : CallStage)
      → IsAtStage begins top link room called m stage → bottom + room + 8 ≤ top
      → (m.register 13 ≤ top) × (top ≤ m.register 13 + room + 8)
  stage_within begins link room called AtFall t fits = (omega (arith, t.1), omega (arith, t.1))
  stage_within begins link room called AtKeep t fits = (omega (arith, t.1, fits), omega (arith, t.1, fits))
  stage_within begins link room called AtBranch t fits = (omega (arith, t.1, fits), omega (arith, t.1, fits))
  stage_within begins link room called Within t fits = (omega (arith, t.3, fits), omega (arith, t.4, fits))
  stage_within begins link room called AtTake t fits = (omega (arith, t.1, fits), omega (arith, t.1, fits))
  stage_within begins link room called AtRise t fits = (omega (arith, t.1, fits), omega (arith, t.1, fits))

  call_within : (x : IsInCall at bottom img places p c top m) → IsInFrame at bottom img places p c top m x
      → IsWithinFrames at bottom c top m
  call_within x f =
      let s = stage_within x.begins (x.registers 14) x.room x.called x.stage x.there x.for_function in
      record {
        low = omega (arith, s.1, x.for_function);
        high = s.0;
        frames = omega (arith, s.1, f.room, x.frame);
        below_cells = x.below_cells;
      }

  within : Phase at bottom img places p c top m → IsWithinFrames at bottom c top m
  within (ToCome x) = to_come_within x
  within (AlreadyDone x) = done_within x
  within (Entering x) = entering_within x
  within (Calling x) = calling_within x
  within (Reads x) = reading_within x
  within (Calls x f) = call_within x f
  within (Tails core x same) = tail_within core x same

pub phases_are_within_frames : PhasesAreWithinFrames
phases_are_within_frames at bottom img places p c top m laid port phase =
    within at bottom img places p c top m port phase

-- exception entry pushes eight words, or is counted for more
pub eight : (fpu : Bool) → 8 ≤ exception.entry_words fpu
eight true = omega arith
eight false = omega arith

module _ (at : Outside) (bottom highest ceiling : ℕ) (inputs : List Input) (calls : FunctionCalls) (img : Image)
    (places : List ℕ)
    (p : Program) (port : p.port ≡ at.port)
  where
    abbrev contexts : List Context → ℕ
    contexts below = sum_by (context_words (entry_words img)) below

    pub others_deep : (tail : Option Debt) (takings : List Taking) (below : List Context) (c : Core) (top : ℕ)
        (m : Machine) → IsLaidOut at bottom (length c.processor.cells)
        → Waiting at bottom highest ceiling inputs calls img places p tail takings below c top m
        → highest ≤ top + 4 * contexts below
    others_deep tail [] [] c top m laid jobs = omega (arith, jobs.0)
    others_deep tail [] (x ∷ below) c top m laid jobs = absurd jobs
    others_deep tail (taking ∷ takings) [] c top m laid jobs = absurd jobs
    others_deep tail (taking ∷ takings) (x ∷ below) c top m laid
        (aligned, small, runs, active, link, up, next, within, fits, higher, phase, fresh, more) =
        let back = resumed taking.base_priority top m in
        let there = interrupted_core taking.base_priority c x below in
        let rest = others_deep (others_tail (tail_of at bottom img places p there next back phase) tail) takings below
        there next (viewed at bottom img places p there next back phase) laid more in
        omega (arith, within.1, rest, sum_by-cons (context_words (entry_words img)) x below, eight img.fpu)

-- nor is it with an entry's padding, where the frames of what runs hold that
pub no_deeper_with_padding : (at : Outside) (bottom highest ceiling : ℕ) (inputs : List Input) (calls : FunctionCalls)
    (img : Image) (places : List ℕ) (p : Program) (tail : Option Debt) (takings : List Taking) (c : Core) (top : ℕ)
    (m v : Machine) → IsLaidOut at bottom (length c.processor.cells) → p.port ≡ at.port
    → top + m.register 13 % 8 ≤ m.register 13 + frame_bytes c
    → Waiting at bottom highest ceiling inputs calls img places p tail takings c.below c top v
    → highest + m.register 13 % 8 ≤ m.register 13 + depth img c
no_deeper_with_padding at bottom highest ceiling inputs calls img places p tail takings c top m v laid port deep jobs =
    let rest = others_deep at bottom highest ceiling inputs calls img places p port tail takings c.below c top v laid
    jobs in
    omega (arith, deep, rest)

pub stack_is_no_deeper : StackIsNoDeeper
stack_is_no_deeper at bottom highest ceiling inputs calls img places p tail takings c top m laid port phase jobs =
    let frames = (phases_are_within_frames at bottom img places p c top m laid port phase).frames in
    let rest = others_deep at bottom highest ceiling inputs calls img places p port tail takings c.below c top
    (viewed at bottom img places p c top m phase) laid jobs in
    omega (arith, frames, rest)
