-- The lines that read the time and add a delay to it, but no more than the longest one: the instant of 32 bits does not
-- wrap, since the time is below 2^31.
use Rattle.rt_gen_queue.proofs.Vocabulary.{Agree, Clocks, Doing, Line, List, Values, ap, arith, cases_lt, does, inl}
use Rattle.rt_gen_queue.proofs.Vocabulary.{inr, le-ltb, lt-ltb, min, nat_lt, number_of, refl, storage, subst, sym, ℕ}
use Rattle.rt_gen_queue.proofs.Vocabulary.{◌++◌, ◌+◌, ◌<◌, ◌^◌, ◌≡◌, ◌≤◌}
use Rattle.rt_ids.specs.declared.limits.TheConstants.{LONGEST_DELAY}
use Rattle.rt_gen_queue.proofs.Layer.{Here, S, Setting, Straight, calculates, clocks, copies, sets, skips_off, stays}
use Rattle.rt_gen_queue.proofs.Numbers.{added, steps_and}
use Rattle.rt_gen_timer.proofs.Window.{Slots, Words, words}
use Rattle.rt_gen_timer.specs.{TimerLines.time_lines, declared.queue.TimerQueue.TimerQueue}

-- an address that is told otherwise
pub at_address : {z : Setting} {f : Slots} {lines : List Line} {h : Here} {ws : List ℕ} (to : ℕ) → to ≡ h.at
    → Straight z f lines (record h { at = to }) ws → Straight z f lines h ws
at_address {z = z} {f = f} {lines = lines} {h = h} {ws = ws} to same on =
    subst (λ a. Straight z f lines (record h { at = a }) ws) same on

pub at_here : {z : Setting} {h : Here} (to : ℕ) → to ≡ h.at → S z (record h { at = to }) → S z h
at_here {z = z} {h = h} to same on = subst (λ a. S z (record h { at = a })) same on

-- and what is left to do
pub rest_is : {z : Setting} {h : Here} (rest : Doing Values) → h.rest ≡ rest → S z (record h { rest = rest }) → S z h
rest_is {z = z} {h = h} rest same on = subst (λ r. S z (record h { rest = r })) (sym same) on

-- the words where a delay is at most the longest one, and the instant that it leads to from a time
abbrev pub delayed : Words → ℕ → ℕ → Words
delayed w time right = record w {
  answer = min w.answer LONGEST_DELAY;
  instant = time + min w.answer LONGEST_DELAY;
  other = LONGEST_DELAY;
  right = right;
}

-- the lines stand, within 6 steps; what is left goes on by the time
pub time_stands : {z : Setting} {f : Slots} {lines : List Line} {h : Here} (q : TimerQueue) (w : Words)
    {values : Values} {follows : ℕ → Values → Doing Values} → h.rest ≡ does Clocks values follows
    → ((time done right : ℕ) (vs : Values) → time < 2 ^ 31 → done ≤ h.done + 6
    → Agree (storage z.app) z.who h.held vs values
    → Straight z f lines (record h { done = done; at = h.at + 6; rest = follows time vs })
    (words (delayed w time right)))
    → Straight z f (time_lines q 0 h.at ++ lines) h (words w)
time_stands {z = z} {f = f} {lines = lines} {h = h} q w {follows = follows} doing on =
    clocks doing
    (λ time vs early agree.
    let right : ℕ = number_of (nat_lt LONGEST_DELAY w.answer) in
    let goes : ℕ → ℕ → Type 0 =
    λ done a. Straight z f lines (record h { done = done; at = h.at + 6; rest = follows time vs })
    (words (record w { answer = a; instant = time + a; other = LONGEST_DELAY; right = right })) in
    let last : (done : ℕ) → done ≤ h.done + 6 → goes done (min w.answer LONGEST_DELAY) =
    λ done soon. on time done right vs early soon agree in
    sets
    (calculates right refl
    (elim (cases_lt LONGEST_DELAY w.answer) [
      | inl more ↦
          (let is : right ≡ 1 = ap number_of (lt-ltb LONGEST_DELAY w.answer more) in
          let least : min w.answer LONGEST_DELAY ≡ LONGEST_DELAY = omega arith in
          stays (omega (arith, is))
          (copies
          (calculates (time + LONGEST_DELAY) (added time LONGEST_DELAY (time + LONGEST_DELAY) refl (omega arith))
          (at_address (h.at + 6) (omega arith)
          (subst (goes (steps_and 6 h.done)) least (last (steps_and 6 h.done) (omega arith)))))))
      | inr most ↦
          (let is : right ≡ 0 = ap number_of (le-ltb LONGEST_DELAY w.answer most) in
          let least : min w.answer LONGEST_DELAY ≡ w.answer = omega arith in
          skips_off 1 (omega arith) is
          (calculates (time + w.answer) (added time w.answer (time + w.answer) refl (omega arith))
          (at_address (h.at + 6) (omega arith)
          (subst (goes (steps_and 5 h.done)) least (last (steps_and 5 h.done) (omega arith))))))
    ])))
