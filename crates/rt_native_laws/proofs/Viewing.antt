-- What those who wait will find of a job that runs, or that waits itself: all that it has, but for registers in a call.
use Rattle.std.proofs.Common.{◌≡◌, ◌≢◌, ◌∙◌, ℕ, ◌+◌, ◌*◌, ◌≤◌, List, None, refl, sym, ap, subst}
use Rattle.rt_code.specs.Image.{Image}
use Rattle.rt_core.specs.Core.{Core}
use Rattle.rt_native.specs.declared.outside.Outside.{Outside}
use Rattle.rt_thumb.specs.Machine.{Machine}
use Rattle.rt_thumb.specs.Step.{Program}
use Rattle.rt_native_laws.specs.Phases.{AlreadyDone, Calling, Calls, Entering, IsNew, IsOrdinary, Phase}
use Rattle.rt_native_laws.specs.Phases.{Reads, Tails, ToCome, call_of, tail_of, viewed}
use Rattle.rt_native_laws.specs.Standing.{HoldsWords, Shows}
use Rattle.rt_native_laws.specs.Waiting.{KeepsAbove}

module _ (at : Outside) (bottom : ℕ) (img : Image) (places : List ℕ) (p : Program) (c : Core) (top : ℕ)
    (m : Machine) where
  abbrev ThePhase : Type 0
  ThePhase = Phase at bottom img places p c top m

  abbrev View : ThePhase → Machine
  View phase = viewed at bottom img places p c top m phase

  -- all but registers is the job's
  pub view_rest : (phase : ThePhase) → View phase ≡ record m { register = (View phase).register }
  view_rest (ToCome x) = refl
  view_rest (AlreadyDone x) = refl
  view_rest (Entering x) = refl
  view_rest (Calling x) = refl
  view_rest (Reads x) = refl
  view_rest (Calls x f) = refl
  view_rest (Tails core x same) = refl

  pub view_words : (phase : ThePhase) → HoldsWords m → HoldsWords (View phase)
  view_words (ToCome x) words = words
  view_words (AlreadyDone x) words = words
  view_words (Entering x) words = words
  view_words (Calling x) words = words
  view_words (Reads x) words = words
  view_words (Calls x f) words =
      record { registers = f.given; memory = words.memory; base_priority = words.base_priority }
  view_words (Tails core x same) words = words

  pub view_shows : (phase : ThePhase) → (k : Core) → Shows at k m → Shows at k (View phase)
  view_shows (ToCome x) k shows = shows
  view_shows (AlreadyDone x) k shows = shows
  view_shows (Entering x) k shows = shows
  view_shows (Calling x) k shows = shows
  view_shows (Reads x) k shows = shows
  view_shows (Calls x f) k shows = record {
    base_priority = shows.base_priority;
    is_masked = shows.is_masked;
    cells = shows.cells;
    time = shows.time;
    alarm = shows.alarm;
    pending = shows.pending;
  }
  view_shows (Tails core x same) k shows = shows

  -- It is in no tail and calls no function, so that it is as it is seen.
  pub record IsAlone (phase : ThePhase) : Type 0 where
    pub tail : tail_of at bottom img places p c top m phase ≡ None
    pub call : call_of at bottom img places p c top m phase ≡ None
    pub view : View phase ≡ m

  pub ordinary_alone : (phase : ThePhase) → IsOrdinary at bottom img places p c top m phase → IsAlone phase
  ordinary_alone (ToCome x) so = record { tail = refl; call = refl; view = refl }
  ordinary_alone (AlreadyDone x) so = record { tail = refl; call = refl; view = refl }
  ordinary_alone (Entering x) so = record { tail = refl; call = refl; view = refl }
  ordinary_alone (Calling x) so = record { tail = refl; call = refl; view = refl }
  ordinary_alone (Reads x) so = absurd so
  ordinary_alone (Calls x f) so = absurd so
  ordinary_alone (Tails core x same) so = absurd so

  pub new_alone : (kept : ℕ) (phase : ThePhase) → IsNew at bottom img places p c top m kept phase → IsAlone phase
  new_alone kept (ToCome x) new = record { tail = refl; call = refl; view = refl }
  new_alone kept (AlreadyDone x) new = record { tail = refl; call = refl; view = refl }
  new_alone kept (Entering x) new = record { tail = refl; call = refl; view = refl }
  new_alone kept (Calling x) new = record { tail = refl; call = refl; view = refl }
  new_alone kept (Reads x) new = absurd new
  new_alone kept (Calls x f) new = absurd new
  new_alone kept (Tails core x same) new = absurd new

-- what lies above jobs is kept, as it is seen
pub view_above : (at : Outside) (top : ℕ) (m n v w : Machine) → v ≡ m → w ≡ n → KeepsAbove at top m n
    → KeepsAbove at top v w
view_above at top m n v w e f above =
    subst (λ (y : Machine). KeepsAbove at top y w) (sym e) (subst (KeepsAbove at top m) (sym f) above)

-- a job before and behind what others do
module _ (at : Outside) (bottom : ℕ) (img : Image) (places : List ℕ) (p : Program) (c d : Core) (top next : ℕ)
    (m n : Machine) (phase : Phase at bottom img places p c top m) (again : Phase at bottom img places p d next n) where
  abbrev before : Machine
  before = viewed at bottom img places p c top m phase

  abbrev then : Machine
  then = viewed at bottom img places p d next n again

  rest_before : before ≡ record m { register = before.register }
  rest_before = view_rest at bottom img places p c top m phase

  rest_then : then ≡ record n { register = then.register }
  rest_then = view_rest at bottom img places p d next n again

  pub views_keep : (from : ℕ) → ((k : ℕ) → 4 ≤ k → k ≢ 12 → k ≢ 13 → then.register k ≡ before.register k)
      → ((k : ℕ) → from ≤ 4 * k → 4 * k + 4 ≤ at.cells → n.memory k ≡ m.memory k)
      → n.exception ≡ m.exception → n.active ≡ m.active → KeepsAbove at from before then
  views_keep from registers memory exception active = record {
    registers = registers;
    memory = λ k h f.
        ap (λ (y : Machine). y.memory k) rest_then
        ∙ (memory k h f ∙ sym (ap (λ (y : Machine). y.memory k) rest_before));
    exception = ap (λ (y : Machine). y.exception) rest_then
        ∙ (exception ∙ sym (ap (λ (y : Machine). y.exception) rest_before));
    active = ap (λ (y : Machine). y.active) rest_then
        ∙ (active ∙ sym (ap (λ (y : Machine). y.active) rest_before));
  }
