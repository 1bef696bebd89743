-- Frames that come into being and go: the stack pointer moves by whole frames, in steps.
use Rattle.std.proofs.Common.{◌≡◌, ◌≢◌, ◌∙◌, ℕ, zero, suc, ◌+◌, ◌-◌, ◌*◌, ◌/◌, ◌%◌, ◌^◌, ◌<◌, ◌≤◌, Bool, true, false}
use Rattle.std.proofs.Common.{List, [], ◌∷◌, ◌++◌, Some, sym, refl, subst, arith, replicate}
use Rattle.std.proofs.lemmas.Bool.Decides.{nat_tests}
use Rattle.std.specs.Prelude.{if◌then◌else◌, nat_lt, ◌==◌}
use Rattle.rt_ids.specs.Operation.{wrapped_number as word}
use Rattle.rt_native.specs.Pieces.{STEP, rise, fall, open_frame, close_frame}
use Rattle.rt_thumb.specs.Effect.{effect}
use Rattle.rt_thumb.specs.Machine.{Machine}
use Rattle.rt_thumb.specs.Step.{Program}
use Rattle.rt_thumb.specs.declared.instruction.Instruction.{Instruction}
use Rattle.rt_thumb.specs.declared.instruction.Instruction.TheVariants as instruction
use Rattle.rt_native_laws.specs.Own.{is_private, stays_within, RunsPrivately, Spans}
use Rattle.rt_native_laws.proofs.Pieces.{steps, other}
use Rattle.rt_native_laws.proofs.Runs.{parts_of, runs_on}

-- the state with the stack pointer elsewhere, at an address
abbrev pub shifted : Machine → (ℕ → ℕ) → ℕ → Machine
shifted m register to = record m { register = register; address = to }

-- private code to an address, by which the stack pointer gets a value
pub record Shifts (p : Program) (floor top : ℕ) (code : List Instruction) (value : ℕ) (m : Machine) (to : ℕ)
    : Type 0 where
  pub register : ℕ → ℕ
  pub runs : RunsPrivately p floor top code m (shifted m register to)
  pub sp : register 13 ≡ value
  pub others : (k : ℕ) → k ≢ 13 → register k ≡ m.register k

within : (floor top computed sp : ℕ) → computed ≡ sp → floor ≤ sp → sp ≤ top → stays_within floor top computed ≡ true
within floor top computed sp e h l = grind (arith, nat_tests, e)

shifts_at : (p : Program) (floor top : ℕ) (code : List Instruction) (value : ℕ) (m : Machine) (from to : ℕ)
    → to ≡ from → Shifts p floor top code value m from → Shifts p floor top code value m to
shifts_at p floor top code value m from to e g = subst (λ (k : ℕ). Shifts p floor top code value m k) (sym e) g

-- no code
stays : (p : Program) (floor top value : ℕ) (m : Machine) (to : ℕ) → to ≡ m.address → m.register 13 ≡ value
    → Shifts p floor top [] value m to
stays p floor top value m to e f =
    shifts_at p floor top [] value m m.address to e (record {
      register = m.register;
      runs = refl;
      sp = f;
      others = λ k h. refl;
    })

-- one instruction
by_one : (p : Program) (floor top : ℕ) (i : Instruction) (computed value : ℕ) (m : Machine) (end to : ℕ)
    → p.code m.address ≡ Some i
    → effect p.port i m ≡ Some (shifted m (λ k. if k == 13 then computed else m.register k) end)
    → is_private floor top i m ≡ true → to ≡ end → computed ≡ value → Shifts p floor top (i ∷ []) value m to
by_one p floor top i computed value m end to found does own e f =
    shifts_at p floor top (i ∷ []) value m end to e (record {
      register = λ k. if k == 13 then computed else m.register k;
      runs = (_, steps p floor top i m _ found does own, refl);
      sp = f;
      others = λ k h. other k 13 computed (m.register k) h;
    })

-- one part behind the other
both : (p : Program) (floor top : ℕ) (xs ys : List Instruction) (middle value : ℕ) (m : Machine) (between to : ℕ)
    → (first : Shifts p floor top xs middle m between)
    → Shifts p floor top ys value (shifted m first.register between) to → Shifts p floor top (xs ++ ys) value m to
both p floor top xs ys middle value m between to first second = record {
  register = second.register;
  runs = runs_on p floor top xs ys m (shifted m first.register between) (shifted m second.register to) first.runs
      second.runs;
  sp = second.sp;
  others = λ k h. second.others k h ∙ first.others k h;
}

is_zero : (n : ℕ) → (n == 0) ≡ true → n ≡ 0
is_zero n h = grind (arith, nat_tests)

module _ (p : Program) (floor top : ℕ) where
  -- steps up, as many as these
  rises_many : (count : ℕ) (m : Machine) (to : ℕ) → floor ≤ m.register 13 → m.register 13 + count * STEP ≤ top
      → top ≤ 0xE0000000 → Spans p m.address (replicate count (instruction.AddStackWide STEP)) to
      → Shifts p floor top (replicate count (instruction.AddStackWide STEP)) (m.register 13 + count * STEP) m to
  rises_many zero m to low high memory code =
      stays p floor top (m.register 13 + 0 * STEP) m to code (omega arith)
  rises_many (suc count) m to low high memory code =
      let i = instruction.AddStackWide STEP in
      let sp : word (m.register 13 + STEP) ≡ m.register 13 + STEP = omega arith in
      let first = by_one p floor top i (word (m.register 13 + STEP)) (m.register 13 + STEP) m (m.address + 4)
      (m.address + 4) code.0 refl (within floor top _ _ sp (omega arith) (omega arith)) refl sp in
      let m1 = shifted m first.register (m.address + 4) in
      let here : m1.register 13 ≡ m.register 13 + STEP = first.sp in
      let rest = rises_many count m1 to (omega arith) (omega arith) memory code.1 in
      let end : m1.register 13 + count * STEP ≡ m.register 13 + suc count * STEP = omega arith in
      both p floor top (i ∷ []) (replicate count i) (m.register 13 + STEP) (m.register 13 + suc count * STEP) m
      (m.address + 4) to first
      (subst (λ (x : ℕ). Shifts p floor top (replicate count i) x m1 to) end rest)

  -- a step up that is not a whole one
  rises_by : (none short : Bool) (n : ℕ) (m : Machine) (to : ℕ) → (none ≡ true → n ≡ 0) → floor ≤ m.register 13
      → m.register 13 + n ≤ top → top ≤ 0xE0000000
      → Spans p m.address (if none then [] else if short then instruction.AddStack n ∷ []
      else instruction.AddStackWide n ∷ []) to
      → Shifts p floor top (if none then [] else if short then instruction.AddStack n ∷ []
      else instruction.AddStackWide n ∷ []) (m.register 13 + n) m to
  rises_by true short n m to empty low high memory code =
      let z : n ≡ 0 = empty refl in stays p floor top (m.register 13 + n) m to code (omega arith)
  rises_by false true n m to empty low high memory code =
      let sp : word (m.register 13 + n) ≡ m.register 13 + n = omega arith in
      by_one p floor top (instruction.AddStack n) (word (m.register 13 + n)) (m.register 13 + n) m (m.address + 2) to
      code.0 refl (within floor top _ _ sp (omega arith) high) code.1 sp
  rises_by false false n m to empty low high memory code =
      let sp : word (m.register 13 + n) ≡ m.register 13 + n = omega arith in
      by_one p floor top (instruction.AddStackWide n) (word (m.register 13 + n)) (m.register 13 + n) m (m.address + 4)
      to code.0 refl (within floor top _ _ sp (omega arith) high) code.1 sp

  rises : (n : ℕ) (m : Machine) (to : ℕ) → floor ≤ m.register 13 → m.register 13 + n ≤ top → top ≤ 0xE0000000
      → Spans p m.address (rise n) to → Shifts p floor top (rise n) (m.register 13 + n) m to
  unfolding rise
  rises n m to low high memory code =
      rises_by (n == 0) (nat_lt n (2 ^ 9)) n m to (λ e. is_zero n e) low high memory code

  -- a frame goes
  pub closes : (words : ℕ) (m : Machine) (to : ℕ) → floor ≤ m.register 13 → m.register 13 + 4 * words ≤ top
      → top ≤ 0xE0000000 → Spans p m.address (close_frame words) to
      → Shifts p floor top (close_frame words) (m.register 13 + 4 * words) m to
  unfolding close_frame
  closes words m to low high memory code =
      let n = word (4 * words) in
      let whole : n ≡ 4 * words = omega arith in
      let i = instruction.AddStackWide STEP in
      let parts : n / STEP * STEP + n % STEP ≡ n = omega arith in
      let ps = parts_of p m.address (replicate (n / STEP) i) (rise (n % STEP)) to code in
      let first = rises_many (n / STEP) m ps.middle low (omega arith) memory ps.first in
      let m1 = shifted m first.register ps.middle in
      let here : m1.register 13 ≡ m.register 13 + n / STEP * STEP = first.sp in
      let second = rises (n % STEP) m1 to (omega arith) (omega arith) memory ps.second in
      let end : m1.register 13 + n % STEP ≡ m.register 13 + 4 * words = omega arith in
      both p floor top (replicate (n / STEP) i) (rise (n % STEP)) (m.register 13 + n / STEP * STEP)
      (m.register 13 + 4 * words) m ps.middle to first
      (subst (λ (x : ℕ). Shifts p floor top (rise (n % STEP)) x m1 to) end second)

  -- steps down, as many as these
  falls_many : (count : ℕ) (m : Machine) (v to : ℕ) → v + count * STEP ≡ m.register 13 → floor ≤ v
      → m.register 13 ≤ top → top ≤ 0xE0000000
      → Spans p m.address (replicate count (instruction.SubtractStackWide STEP)) to
      → Shifts p floor top (replicate count (instruction.SubtractStackWide STEP)) v m to
  falls_many zero m v to sum low high memory code = stays p floor top v m to code (omega arith)
  falls_many (suc count) m v to sum low high memory code =
      let i = instruction.SubtractStackWide STEP in
      let w = v + count * STEP in
      let sp : word (m.register 13 + (2 ^ 32 - STEP)) ≡ w = omega arith in
      let first = by_one p floor top i (word (m.register 13 + (2 ^ 32 - STEP))) w m (m.address + 4) (m.address + 4)
      code.0 refl (within floor top _ _ sp (omega arith) (omega arith)) refl sp in
      let m1 = shifted m first.register (m.address + 4) in
      let here : m1.register 13 ≡ w = first.sp in
      let rest = falls_many count m1 v to (sym here) low (omega arith) memory code.1 in
      both p floor top (i ∷ []) (replicate count i) w v m (m.address + 4) to first rest

  -- a step down that is not a whole one
  falls_by : (none short : Bool) (n : ℕ) (m : Machine) (v to : ℕ) → (none ≡ true → n ≡ 0) → v + n ≡ m.register 13
      → floor ≤ v → m.register 13 ≤ top → top ≤ 0xE0000000 → n < STEP
      → Spans p m.address (if none then [] else if short then instruction.SubtractStack n ∷ []
      else instruction.SubtractStackWide n ∷ []) to
      → Shifts p floor top (if none then [] else if short then instruction.SubtractStack n ∷ []
      else instruction.SubtractStackWide n ∷ []) v m to
  falls_by true short n m v to empty sum low high memory step code =
      let z : n ≡ 0 = empty refl in stays p floor top v m to code (omega arith)
  falls_by false true n m v to empty sum low high memory step code =
      let sp : word (m.register 13 + (2 ^ 32 - n)) ≡ v = omega arith in
      by_one p floor top (instruction.SubtractStack n) (word (m.register 13 + (2 ^ 32 - n))) v m (m.address + 2) to
      code.0 refl (within floor top _ _ sp low (omega arith)) code.1 sp
  falls_by false false n m v to empty sum low high memory step code =
      let sp : word (m.register 13 + (2 ^ 32 - n)) ≡ v = omega arith in
      by_one p floor top (instruction.SubtractStackWide n) (word (m.register 13 + (2 ^ 32 - n))) v m (m.address + 4) to
      code.0 refl (within floor top _ _ sp low (omega arith)) code.1 sp

  falls : (n : ℕ) (m : Machine) (v to : ℕ) → v + n ≡ m.register 13 → floor ≤ v → m.register 13 ≤ top
      → top ≤ 0xE0000000 → n < STEP → Spans p m.address (fall n) to → Shifts p floor top (fall n) v m to
  unfolding fall
  falls n m v to sum low high memory step code =
      falls_by (n == 0) (nat_lt n (2 ^ 9)) n m v to (λ e. is_zero n e) sum low high memory step code

  -- a frame comes into being
  pub opens : (words : ℕ) (m : Machine) (v to : ℕ) → v + 4 * words ≡ m.register 13 → floor ≤ v → m.register 13 ≤ top
      → top ≤ 0xE0000000 → Spans p m.address (open_frame words) to → Shifts p floor top (open_frame words) v m to
  unfolding open_frame
  opens words m v to sum low high memory code =
      let n = word (4 * words) in
      let whole : n ≡ 4 * words = omega arith in
      let i = instruction.SubtractStackWide STEP in
      let parts : n / STEP * STEP + n % STEP ≡ n = omega arith in
      let small : n % STEP < STEP = omega arith in
      let ps = parts_of p m.address (replicate (n / STEP) i) (fall (n % STEP)) to code in
      let w = v + n % STEP in
      let first = falls_many (n / STEP) m w ps.middle (omega arith) (omega arith) high memory ps.first in
      let m1 = shifted m first.register ps.middle in
      let here : m1.register 13 ≡ w = first.sp in
      let second = falls (n % STEP) m1 v to (sym here) low (omega arith) memory small ps.second in
      both p floor top (replicate (n / STEP) i) (fall (n % STEP)) w v m ps.middle to first second
