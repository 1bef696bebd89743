-- Where a job is while it runs generated code: what its configuration has, with the steps that it has done and its
-- deadlines in place of what is left of them.
use Rattle.rt_gen_queue.proofs.Vocabulary.{AllByRecursion, App, BodyRow, Doing, Entry, OpenSection, Location, Line}
use Rattle.rt_gen_queue.proofs.Vocabulary.{List, Option}
use Rattle.rt_gen_queue.proofs.Vocabulary.{Runner, Configuration, Values, [], all_weaker, ap, arith, map, refl, suc, ℕ}
use Rattle.rt_gen_queue.proofs.Vocabulary.{◌+◌, ◌-◌}
use Rattle.rt_gen_queue.proofs.Vocabulary.{◌<◌, ◌∙◌, ◌∷◌, ◌≡◌, ◌≤◌}
use Rattle.rt_lemmas.proofs.Lists.{all_map}
use Rattle.rt_code.specs.Standing.{HaveLeft}
use Rattle.rt_gen_queue.proofs.Numbers.{steps_and}

-- what is left to each deadline
abbrev pub left_at : ℕ → List ℕ → List ℕ
left_at k deadlines = map (λ d. d - k) deadlines

pub left_passed : (k : ℕ) (deadlines : List ℕ) → map (λ n. n - 1) (left_at k deadlines) ≡ left_at (suc k) deadlines
left_passed k [] = refl
left_passed k (d ∷ deadlines) =
    let e : (d - k) - 1 ≡ d - suc k = omega arith in
    ap (λ n. n ∷ map (λ m. m - 1) (left_at k deadlines)) e ∙ ap (λ ns. (d - suc k) ∷ ns) (left_passed k deadlines)

pub left_none : (deadlines : List ℕ) → left_at 0 deadlines ≡ deadlines
left_none [] = refl
left_none (d ∷ deadlines) = let e : d - 0 ≡ d = omega arith in
    ap (λ n. n ∷ left_at 0 deadlines) e ∙ ap (λ ns. d ∷ ns) (left_none deadlines)

-- so many steps are within each deadline
abbrev pub Lasts : ℕ → List ℕ → Type 0
Lasts k deadlines = AllByRecursion (λ d. k ≤ d) deadlines

pub lasts_less : (j k : ℕ) (deadlines : List ℕ) → j ≤ k → Lasts k deadlines → Lasts j deadlines
lasts_less j k deadlines less lasts = all_weaker (λ d. k ≤ d) (λ d. j ≤ d) (λ d within. omega arith) deadlines lasts

pub has_left : (k : ℕ) (deadlines : List ℕ) → Lasts (suc k) deadlines → HaveLeft (left_at k deadlines)
has_left k deadlines lasts =
    all_map (λ d. d - k) (λ d. suc k ≤ d) (λ n. 0 < n) (λ d within. omega arith) deadlines lasts

-- what is left to each lasts as long
pub lasts_left : (k more : ℕ) (deadlines : List ℕ) → Lasts (k + more) deadlines
    → AllByRecursion (λ n. more ≤ n) (left_at k deadlines)
lasts_left k more deadlines lasts =
    all_map (λ d. d - k) (λ d. k + more ≤ d) (λ n. more ≤ n) (λ d within. omega arith) deadlines lasts

-- code for a runner of an application, in a frame that a handler may have called
pub record Setting : Type 0 where
  pub app : App
  pub code : List Line
  pub bodies : List BodyRow
  pub thread : ℕ
  pub who : Runner
  pub caller : Option (List ℕ)

-- Where the job is. All is done within `until` steps of its own, of which it has done some.
pub record Here : Type 0 where
  pub held : List OpenSection
  pub done : ℕ
  pub until : ℕ
  pub deadlines : List ℕ
  pub places : List Entry
  pub slots : List ℕ
  pub at : ℕ
  pub cells : List ℕ
  pub queues : Location → List Entry
  pub rest : Doing Values

-- so many lines on
abbrev pub ahead : ℕ → Here → Here
ahead k h = record h { done = steps_and k h.done; at = steps_and k h.at }

-- so many steps of its own are within each of its deadlines
abbrev pub InTime : ℕ → Here → Type 0
InTime k h = Lasts k (h.until ∷ h.deadlines)

-- the same as a configuration
abbrev pub configuration : Setting → Here → Configuration
configuration z h = record {
  held = h.held;
  lefts = left_at h.done h.deadlines;
  places = h.places;
  slots = h.slots;
  caller = z.caller;
  address = h.at;
  cells = h.cells;
  queues = h.queues;
  rest = h.rest;
}
