-- Runs of lines on the window of the timer's code, and the cells of the timer queue while its section is open.
use Rattle.rt_gen_queue.proofs.Vocabulary.{At, Guarded, HasCodeAt, OpenSection, Line, List, [], ap, arith, drop}
use Rattle.rt_gen_queue.proofs.Vocabulary.{home_of}
use Rattle.rt_gen_queue.proofs.Vocabulary.{is_open, length, map, memory, refl, subst, suc, take, true, zero, ℕ, ◌*◌}
use Rattle.rt_gen_queue.proofs.Vocabulary.{◌+◌, ◌<◌, ◌∙◌, ◌∷◌, ◌≡◌, ◌≤◌}
use Rattle.rt_ids.specs.declared.ids.Section.TheVariants as section
use Rattle.rt_gen_queue.proofs.Layer.{Here, Lasts, MayRun, Now, Opens, S, Saves, Setting, Straight, all_fit, lasts_less}
use Rattle.rt_gen_queue.proofs.Layer.{placed}
use Rattle.rt_gen_timer.proofs.Window.{Slots, Words, words}
use Rattle.rt_gen_timer.specs.TimerLines.{armings_of, handle_count_of, handles_of, heap_of, instants_of, numbers_of}
use Rattle.rt_gen_timer.specs.declared.queue.TimerQueue.{TimerQueue}

-- Each end is so many steps away, and masks are kept where the window keeps them.
pub record Lasting (f : Slots) (steps : ℕ) (held : List OpenSection) (ends : List ℕ) : Type 0 where
  pub time : Lasts steps ends
  pub saves : Saves f held

-- so many steps of its own are within all ends of a job
abbrev pub Runs : Slots → ℕ → Here → Type 0
Runs f steps h = Lasting f steps h.held (h.until ∷ h.deadlines)

pub sooner : {f : Slots} {j k : ℕ} {held : List OpenSection} {ends : List ℕ} → Lasting f k held ends → j ≤ k
    → Lasting f j held ends
sooner {j = j} {k = k} {ends = ends} runs less = record {
  time = lasts_less j k ends less runs.time;
  saves = runs.saves;
}

-- a run of lines may begin
pub may_run : {f : Slots} {h : Here} {lines : List Line} {ws : List ℕ} {k : ℕ} → Runs f k h
    → h.done + length lines ≤ k → length ws ≡ 24 → all_fit 24 9 lines ≡ true → MayRun f lines h ws
may_run runs within long fit = let early = sooner runs within in
    record { time = early.time; saves = early.saves; long = long; fit = fit }

-- where a job is and what its window has, a run of lines that may begin leads on
pub run_stands : {z : Setting} {f : Slots} {k : ℕ} (h : Here) (w : Words) (lines : List Line) → Runs f k h
    → h.done + length lines ≤ k → all_fit 24 9 lines ≡ true → HasCodeAt z.code h.at (map (placed f.slot) lines)
    → Straight z f lines h (words w) → S z (Now f h (words w))
run_stands h w lines runs within fit has on = on.runs (may_run runs within refl fit) has

-- lines as they stand in code, from one of them on
code_from : (code : List Line) (k at : ℕ) (lines : List Line) → HasCodeAt code at lines
    → HasCodeAt code (at + k) (drop k lines)
code_from code zero at lines has =
    let e : at ≡ at + 0 = omega arith in subst (λ (a : ℕ). HasCodeAt code a lines) e has
code_from code (suc k) at [] has = tt
code_from code (suc k) at (line ∷ lines) (first, rest) =
    let e : suc at + k ≡ at + suc k = omega arith in
    subst (λ (a : ℕ). HasCodeAt code a (drop k lines)) e (code_from code k (suc at) lines rest)

pub code_first : (code : List Line) (n at : ℕ) (lines : List Line) → HasCodeAt code at lines
    → HasCodeAt code at (take n lines)
code_first code zero at lines has = tt
code_first code (suc n) at [] has = tt
code_first code (suc n) at (line ∷ lines) (first, rest) = (first, code_first code n (suc at) lines rest)

-- so many of them
pub code_part : (code : List Line) (at : ℕ) (lines : List Line) (k n : ℕ) → HasCodeAt code at lines
    → HasCodeAt code (at + k) (take n (drop k lines))
code_part code at lines k n has = code_first code n (at + k) (drop k lines) (code_from code k at lines has)

-- The section of the timer queue is open, and its cells are there: the counts, and the columns by row or by position.
pub record Columns (z : Setting) (q : TimerQueue) (held : List OpenSection) (cells : List ℕ) : Type 0 where
  pub opens : is_open held section.Timer ≡ true
  pub long : length cells ≡ length (memory z.app)
  pub homes : (j : ℕ) → j < 3 + 4 * q.messages → home_of z.app (q.at + j) ≡ At (Guarded section.Timer)

-- as many cells are there after a write
pub columns_on : {z : Setting} {q : TimerQueue} {held : List OpenSection} {cells after : List ℕ}
    → Columns z q held cells
    → length after ≡ length cells → Columns z q held after
columns_on columns long = record { opens = columns.opens; long = long ∙ columns.long; homes = columns.homes }

module _ {z : Setting} {q : TimerQueue} {h : Here} (columns : Columns z q h.held h.cells) where
  cell_open : {c : ℕ} (j : ℕ) → c ≡ q.at + j → j < 3 + 4 * q.messages → Opens z h section.Timer c
  cell_open j is less = record {
    opens = columns.opens;
    long = columns.long;
    home = ap (home_of z.app) is ∙ columns.homes j less;
  }

  pub count_open : Opens z h section.Timer q.at
  count_open = cell_open 0 (omega arith) (omega arith)

  pub armings_open : Opens z h section.Timer (armings_of q)
  armings_open = cell_open 1 (omega arith) (omega arith)

  pub given_open : Opens z h section.Timer (handle_count_of q)
  given_open = cell_open 2 (omega arith) (omega arith)

  pub first_open : 0 < q.messages → Opens z h section.Timer (heap_of q)
  first_open less = cell_open (3 + 3 * q.messages) (omega arith) (omega arith)

  pub heap_open : {position : ℕ} → position < q.messages → Opens z h section.Timer (heap_of q + position)
  heap_open {position = position} less = cell_open (3 + 3 * q.messages + position) (omega arith) (omega arith)

  pub instant_open : {row : ℕ} → row < q.messages → Opens z h section.Timer (instants_of q + row)
  instant_open {row = row} less = cell_open (3 + row) (omega arith) (omega arith)

  pub number_open : {row : ℕ} → row < q.messages → Opens z h section.Timer (numbers_of q + row)
  number_open {row = row} less = cell_open (3 + q.messages + row) (omega arith) (omega arith)

  pub handle_open : {row : ℕ} → row < q.messages → Opens z h section.Timer (handles_of q + row)
  handle_open {row = row} less = cell_open (3 + 2 * q.messages + row) (omega arith) (omega arith)
