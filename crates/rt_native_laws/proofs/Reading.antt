-- A job at its input stays there, whatever others do; and what is as new.
use Rattle.std.proofs.Common.{◌≡◌, ℕ, ◌≤◌, List, [], ◌∷◌, Option, sym, refl, ap, subst, arith, length}
use Rattle.std.specs.List.{AllByRecursion}
use Rattle.std.specs.Prelude.{slice_index}
use Rattle.rt_code.specs.Image.{Image}
use Rattle.rt_code.specs.Stack.{words_of}
use Rattle.rt_core.specs.Core.{Core}
use Rattle.rt_native.specs.declared.outside.Outside.{Outside}
use Rattle.rt_native.specs.declared.target.Input.{Input}
use Rattle.rt_thumb.specs.Machine.{Machine}
use Rattle.rt_thumb.specs.Step.{Program}
use Rattle.rt_native_laws.specs.Doing.{with_slots}
use Rattle.rt_native_laws.specs.Inputs.{ReadingIsKept}
use Rattle.rt_native_laws.specs.InTail.{Debt}
use Rattle.rt_native_laws.specs.Moments.{Last, settled_words}
use Rattle.rt_native_laws.specs.Phases.{AlreadyDone, Calling, Entering, IsNew, OthersRan, Phase, Reads, Tails, ToCome}
use Rattle.rt_native_laws.specs.Phases.{Calls}
use Rattle.rt_native_laws.specs.Reading.{AtCellLow, AtCellTop, AtLoad, AtLow, AtStore, AtTop, Holds, IsInput}
use Rattle.rt_native_laws.specs.Reading.{IsReading, Reading, reads_of}
use Rattle.rt_native_laws.specs.Standing.{IsLaidOut, HoldsWords}
use Rattle.rt_native_laws.specs.Waiting.{FunctionCalls, IsFresh}
use Rattle.rt_native_laws.proofs.Phases.{stands_again}

pub all_inputs : (count more : ℕ) → more ≡ count → (is : List Input) → AllByRecursion (IsInput count) is
    → AllByRecursion (IsInput more) is
all_inputs count more e is h = subst (λ (x : ℕ). AllByRecursion (IsInput x) is) (sym e) h

-- What others do leaves a job at its input.
module _ (at : Outside) (bottom : ℕ) (img : Image) (places : List ℕ) (p : Program) (c d : Core) (top : ℕ)
    (m n : Machine) (x : IsReading at bottom img places p c top m) (o : OthersRan at (m.register 13) top c d m n) where
  abbrev now : Machine
  now = record m {
    memory = n.memory;
    is_pending = n.is_pending;
    is_unsettled = n.is_unsettled;
    seen = n.seen;
  }

  no_caller : length (words_of c.caller) ≡ 0
  no_caller = ap (λ (y : Option (List ℕ)). length (words_of y)) x.free

  reading_again : IsReading at bottom img places p
      (record c {
        time = d.time;
        alarm = d.alarm;
        pending = d.pending;
        processor = record c.processor { cells = d.processor.cells };
      }) top now
  reading_again = record {
    to = x.to;
    irq = x.irq;
    handler = x.handler;
    input = x.input;
    more = x.more;
    inputs = all_inputs (length c.processor.cells) (length d.processor.cells) o.as_many (x.input ∷ x.more) x.inputs;
    declared = x.declared;
    among = x.among;
    exception = x.exception;
    stage = x.stage;
    value = x.value;
    holds = held x.stage x.holds;
    code = x.code;
    low = x.low;
    laid = subst (IsLaidOut at bottom) (sym o.as_many) x.laid;
    entry = x.entry;
    frame = x.frame;
    free = x.free;
    room = x.room;
    stands = stands_again at bottom places (with_slots at bottom img places p [] c)
        (record m { address = slice_index places x.handler.entry }) x.stands d.time d.alarm d.pending d.processor.cells
        n.memory n.is_pending n.is_unsettled n.seen (λ k f t. absurd (omega (arith, f, t, no_caller))) o.cells o.time
        o.alarm o.pending;
    ends = x.ends;
    settled = o.settled;
    words = subst HoldsWords o.processor.rest o.words;
  }
    where
      held : (stage : Reading) → Holds at x.input x.value m stage → Holds at x.input x.value now stage
      held AtLow h = h
      held AtTop h = h
      held AtLoad h = h
      held AtCellLow h = h
      held AtCellTop h = h
      held AtStore h = h

  abbrev Again : Core → Machine → Type 0
  Again k y =
      (again : IsReading at bottom img places p k top y)
      × (reads_of at bottom img places p k top y again ≡ reads_of at bottom img places p c top m x)

  kept_so : Again d n
  unfolding reading_again
  kept_so =
      subst (λ (k : Core). Again k n) (sym o.core)
      (subst (Again (record c {
        time = d.time;
        alarm = d.alarm;
        pending = d.pending;
        processor = record c.processor { cells = d.processor.cells };
      })) (sym o.processor.rest) (reading_again, refl))

pub reading_is_kept : ReadingIsKept
reading_is_kept at bottom img places p c d top m n x o = kept_so at bottom img places p c d top m n x o

-- What is new is fresh.
module _ (at : Outside) (bottom highest ceiling : ℕ) (inputs : List Input) (calls : FunctionCalls) (img : Image)
    (places : List ℕ)
    (p : Program) (tail : Option Debt) (c : Core) (top : ℕ) (m : Machine) where
  pub fresh_of : (kept : ℕ) (last : Last) (phase : Phase at bottom img places p c top m)
      → IsNew at bottom img places p c top m kept phase → settled_words last (length c.processor.slots) ≤ kept
      → IsFresh at bottom highest ceiling inputs calls img places p tail last c top m phase
  fresh_of kept last (ToCome x) new within = (omega (arith, new, within), tt, tt, tt)
  fresh_of kept last (AlreadyDone x) new within = (omega (arith, new, within), tt, tt, tt)
  fresh_of kept last (Entering x) new within = (omega (arith, new, within), tt, tt, tt)
  fresh_of kept last (Calling x) new within = (omega (arith, new, within), tt, tt, tt)
  fresh_of kept last (Reads x) new within = absurd new
  fresh_of kept last (Calls x f) new within = absurd new
  fresh_of kept last (Tails core x same) new within = absurd new
