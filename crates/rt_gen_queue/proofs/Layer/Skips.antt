-- A jump forward in a run: so many of the next lines are left out.
use Rattle.rt_gen_queue.proofs.Vocabulary.{HasCodeAt, Line, List, [], and_right, arith, drop, length, map, plain}
use Rattle.rt_gen_queue.proofs.Vocabulary.{slice_index, subst, suc, true, zero, ℕ, ◌+◌, ◌∷◌, ◌≡◌}
use Rattle.std.proofs.lemmas.List.{length-drop}
use Rattle.rt_code.specs.declared.instr.Instr.TheVariants as instr
use Rattle.rt_gen_queue.proofs.Layer.{Jobs.Here, Jobs.Setting, Jobs.lasts_less, Window.Frame}
use Rattle.rt_gen_queue.proofs.Layer.Runs.{MayRun, Straight, all_fit, fits, jumps, jumps_off, placed}

fit_behind : (size mask k : ℕ) (lines : List Line) → all_fit size mask lines ≡ true
    → all_fit size mask (drop k lines) ≡ true
fit_behind size mask zero lines fit = fit
fit_behind size mask (suc k) [] fit = fit
fit_behind size mask (suc k) (line ∷ lines) fit =
    fit_behind size mask k lines (and_right (fits size mask line.0) (all_fit size mask lines) fit)

-- the lines after so many
code_from : (slot : ℕ) (code : List Line) (at to k : ℕ) (lines : List Line) → to ≡ at + k
    → HasCodeAt code at (map (placed slot) lines) → HasCodeAt code to (map (placed slot) (drop k lines))
code_from slot code at to zero lines is has =
    let same : at ≡ to = omega arith in
    subst (λ a. HasCodeAt code a (map (placed slot) lines)) same has
code_from slot code at to (suc k) [] is has = tt
code_from slot code at to (suc k) (line ∷ lines) is has = code_from slot code (suc at) to k lines (omega arith) has.1

-- and so may they run
pub may_skip : {size mask : ℕ} {f : Frame size mask} {line : Line} {lines : List Line} {h : Here} {ws : List ℕ}
    (k to : ℕ) → MayRun f (line ∷ lines) h ws → MayRun f (drop k lines) (record h { done = suc h.done; at = to }) ws
may_skip {size = size} {mask = mask} {line = line} {lines = lines} {h = h} k to may = record {
  time =
      lasts_less (suc h.done + length (drop k lines)) (h.done + suc (length lines)) (h.until ∷ h.deadlines)
      (omega (arith, length-drop k lines)) may.time;
  saves = may.saves;
  long = may.long;
  fit = fit_behind size mask k lines (and_right (fits size mask line.0) (all_fit size mask lines) may.fit);
}

module _ {size mask : ℕ} {z : Setting} {f : Frame size mask} {lines : List Line} {h : Here} {ws : List ℕ} where
  -- by a jump
  pub skips : {to : ℕ} (k : ℕ) → to ≡ suc h.at + k
      → Straight z f (drop k lines) (record h { done = suc h.done; at = to }) ws
      → Straight z f (plain (instr.Jump to) ∷ lines) h ws
  skips {to = to} k is on = record {
    runs = λ may has.
        (jumps {lines = lines}
        (on.runs (may_skip k to may) (code_from f.slot z.code (suc h.at) to k lines is has.1))).runs may has;
  }

  -- by a jump where a slot is 0
  pub skips_off : {x to : ℕ} (k : ℕ) → to ≡ suc h.at + k → slice_index ws x ≡ 0
      → Straight z f (drop k lines) (record h { done = suc h.done; at = to }) ws
      → Straight z f (plain (instr.JumpZ x to) ∷ lines) h ws
  skips_off {to = to} k is off on = record {
    runs = λ may has.
        (jumps_off {lines = lines} off (on.runs (may_skip k to may)
        (code_from f.slot z.code (suc h.at) to k lines is has.1))).runs may has;
  }
