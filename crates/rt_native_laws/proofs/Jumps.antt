-- `jump`, `jumpz`, `mark` and `wait`.
use Rattle.std.proofs.Common.{◌≡◌, ◌∙◌, ℕ, suc, ◌+◌, ◌-◌, ◌/◌, ◌%◌, ◌^◌, ◌<◌, ◌≤◌, Bool, true, false}
use Rattle.std.proofs.Common.{List, [], ◌∷◌, None, sym, refl, ap, subst, arith, add-one}
use Rattle.std.specs.Prelude.{if◌then◌else◌, slice_index, ◌==◌}
use Rattle.rt_ids.specs.Operation.{wrapped_number as word}
use Rattle.rt_code.specs.Image.{Image}
use Rattle.rt_code.specs.declared.instr.Instr.TheVariants as instr
use Rattle.rt_core.specs.Core.{Core}
use Rattle.rt_native.specs.Pieces.{read_slot, leap}
use Rattle.rt_native.specs.Sequences.{branch, branch_if_zero, wait}
use Rattle.rt_native.specs.declared.outside.Outside.{Outside}
use Rattle.rt_thumb.specs.Arithmetic.{add_with_carry, complement}
use Rattle.rt_thumb.specs.Effect.{branched, behind}
use Rattle.rt_thumb.specs.Machine.{Machine, Flags}
use Rattle.rt_thumb.specs.Step.{Program}
use Rattle.rt_thumb.specs.declared.instruction.Condition.TheVariants as condition
use Rattle.rt_thumb.specs.declared.instruction.Instruction.{Instruction}
use Rattle.rt_thumb.specs.declared.instruction.Instruction.TheVariants as instruction
use Rattle.rt_native_laws.specs.Doing.{IsAt, Becomes, LeadsPrivately, machine_code}
use Rattle.rt_native_laws.specs.Laws.{JumpIsDone, JumpIfZeroIsDone, MarkIsDone, WaitIsDone}
use Rattle.rt_native_laws.specs.Own.{RunsPrivately, Spans}
use Rattle.rt_native_laws.specs.Standing.{frames_end}
use Rattle.rt_native_laws.proofs.Calculating.{next}
use Rattle.rt_native_laws.proofs.Ending.{unless, first_there, slot_here, place_stands}
use Rattle.rt_native_laws.proofs.Pieces.{moved, steps, slot_at, gets_slot}
use Rattle.rt_native_laws.proofs.Runs.{parts_of, runs_on}

-- where a branch of four bytes at an address leads
pub leads_to : (address to target : ℕ) → to ≡ address + 4 → to < 2 ^ 32 → target < 2 ^ 32
    → (address + 4 + (target + (2 ^ 32 - to)) % 2 ^ 32) % 2 ^ 32 ≡ target
leads_to address to target e h l = omega arith

pub leap_leads : (address to target : ℕ) → to ≡ address + 4 → to < 2 ^ 32 → target < 2 ^ 32
    → word (address + 4 + leap to target) ≡ target
unfolding leap
leap_leads address to target e h l = leads_to address to target e h l

module _ (at : Outside) (bottom : ℕ) (img : Image) (places : List ℕ) (p : Program) (c : Core) (m : Machine) where
  -- where the code of the next instruction begins
  abbrev pub end : ℕ
  end = slice_index places (c.processor.address + 1)

  pub same_end : slice_index places (suc c.processor.address) ≡ end
  same_end = ap (slice_index places) (sym (add-one c.processor.address))

  -- a branch at an address, whose code ends where the next instruction's begins
  pub leaps : (from l : ℕ) → ((k : ℕ) → slice_index places k < 0xE0000000)
      → slice_index places (suc c.processor.address) ≡ from + 4
      → word (from + 4 + leap end (slice_index places l)) ≡ slice_index places l
  leaps from l low e =
      leap_leads from end (slice_index places l) (sym same_end ∙ e) (omega (arith, low (c.processor.address + 1)))
      (omega (arith, low l))

pub jump_is_done : JumpIsDone
unfolding branch
jump_is_done l at bottom img places p c m here =
    unless img c (instr.Jump l)
    (LeadsPrivately at bottom img places p (machine_code at bottom img places p (instr.Jump l) c) c m)
    (λ cells slots.
    let i = instruction.Branch (leap (end at bottom img places p c m) (slice_index places l)) in
    let n = next p i m in (
      n,
      (n, steps p (m.register 13) (frames_end c m) i m n here.code.0 refl refl, refl),
      place_stands at bottom img places p (instr.Jump l) c m here l m.register m.flags n.address (λ k h. refl)
          (leaps at bottom img places p c m m.address l here.addresses here.code.1),
    ))

pub mark_is_done : MarkIsDone
mark_is_done at bottom img places p c m here =
    unless img c instr.Mark
    (LeadsPrivately at bottom img places p (machine_code at bottom img places p instr.Mark c) c m)
    (λ cells slots. (
      m,
      refl,
      place_stands at bottom img places p instr.Mark c m here (suc c.processor.address) m.register m.flags
          m.address (λ k h. refl) (sym here.code),
    ))

pub wait_is_done : WaitIsDone
unfolding wait branch
wait_is_done at bottom img places p c m here =
    unless img c instr.Wait
    (LeadsPrivately at bottom img places p (machine_code at bottom img places p instr.Wait c) c m)
    (λ cells slots.
    let l = c.processor.address in
    let i = instruction.WaitForInterrupt in
    let j = instruction.Branch (leap (end at bottom img places p c m) (slice_index places l)) in
    let n1 = next p i m in
    let n2 = next p j n1 in
    let floor = m.register 13 in
    let top = frames_end c m in (
      n2,
      (
        n1,
        steps p floor top i m n1 here.code.0 refl refl,
        (
          n2,
          steps p floor top j n1 n2 here.code.1.0 refl refl,
          refl,
        ),
      ),
      place_stands at bottom img places p instr.Wait c m here l m.register m.flags n2.address (λ k h. refl)
          (leaps at bottom img places p c m n1.address l here.addresses here.code.1.1),
    ))

-- a word compared with 0
compared : (x : ℕ) → x < 2 ^ 32 → (add_with_carry x (complement 0) true).value ≡ x
compared x h = omega arith

module _ (at : Outside) (bottom : ℕ) (img : Image) (places : List ℕ) (p : Program) (s l : ℕ) (c : Core) (m : Machine)
    (here : IsAt at bottom img places p (instr.JumpZ s l) c m) where
  abbrev leaping : Instruction
  leaping = instruction.BranchIf condition.Equal (leap (end at bottom img places p c m) (slice_index places l))

  -- both ways of a branch, from where the slot is compared
  either : (b : Bool) (register : ℕ → ℕ) (flags : Flags) (from : ℕ) → flags.is_zero ≡ b
      → ((k : ℕ) → 4 ≤ k → register k ≡ m.register k)
      → Spans p from (leaping ∷ []) (slice_index places (suc c.processor.address))
      → (last : Machine)
      × RunsPrivately p (m.register 13) (frames_end c m) (leaping ∷ []) (moved m register flags from) last
      × Becomes at bottom img places p c m
      (record c {
        processor = if b then record c.processor { address = l }
            else record c.processor { address = suc c.processor.address };
      })
      None last
  either true register flags from e o code =
      let there = moved m register flags from in
      let x = leap (end at bottom img places p c m) (slice_index places l) in
      let to = word (from + 4 + x) in
      let last = moved m register flags to in (
        last,
        (
          last,
          steps p (m.register 13) (frames_end c m) leaping there last code.0
              (ap (λ (t : Bool). if t then branched x there else behind leaping there) e) refl,
          refl,
        ),
        place_stands at bottom img places p (instr.JumpZ s l) c m here l register flags to o
            (leaps at bottom img places p c m from l here.addresses code.1),
      )
  either false register flags from e o code =
      let there = moved m register flags from in
      let x = leap (end at bottom img places p c m) (slice_index places l) in
      let last = moved m register flags (from + 4) in (
        last,
        (
          last,
          steps p (m.register 13) (frames_end c m) leaping there last code.0
              (ap (λ (t : Bool). if t then branched x there else behind leaping there) e) refl,
          refl,
        ),
        place_stands at bottom img places p (instr.JumpZ s l) c m here (suc c.processor.address) register flags
            (from + 4) o (sym code.1),
      )

pub jump_if_zero_is_done : JumpIfZeroIsDone
unfolding branch_if_zero
jump_if_zero_is_done s l at bottom img places p c m here =
    unless img c (instr.JumpZ s l)
    (LeadsPrivately at bottom img places p (machine_code at bottom img places p (instr.JumpZ s l) c) c m)
    (λ cells slots.
    let floor = m.register 13 in
    let top = frames_end c m in
    let there = (first_there s [] c.processor.slots slots).0 in
    let i = instruction.CompareNumber 0 0 in
    let j = leaping at bottom img places p s l c m here in
    let ps = parts_of p m.address (read_slot 0 s) (i ∷ j ∷ []) _ here.code in
    let g = gets_slot p floor top 0 s m ps.middle refl
    (slot_here at bottom img places p (instr.JumpZ s l) c m here s there) ps.first in
    let m1 = moved m g.register g.flags ps.middle in
    let m2 = next p i m1 in
    let is_slot : g.register 0 ≡ slice_index c.processor.slots s = g.gets ∙ here.stands.slots s there in
    let low : g.register 0 < 2 ^ 32 =
    subst (λ (x : ℕ). x < 2 ^ 32) (sym g.gets) (here.words.memory (slot_at m s / 4)) in
    let zero : m2.flags.is_zero ≡ (slice_index c.processor.slots s == 0) =
    ap (λ (x : ℕ). x == 0) (compared (g.register 0) low ∙ is_slot) in
    let e = either at bottom img places p s l c m here (slice_index c.processor.slots s == 0) g.register m2.flags
    (ps.middle + 2) zero (λ k h. g.others k (λ x. omega arith) (λ x. omega arith)) ps.second.1 in (
      e.0,
      runs_on p floor top (read_slot 0 s) (i ∷ j ∷ []) m m1 e.0 g.runs
          (m2, steps p floor top i m1 m2 ps.second.0 refl refl, e.1),
      e.2,
    ))
