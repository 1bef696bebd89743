-- `set`, `copy` and the operations.
use Rattle.std.proofs.Common.{◌≡◌, ◌∙◌, ℕ, ◌/◌, ◌^◌, ◌<◌}
use Rattle.std.proofs.Common.{[], ◌∷◌, ◌++◌, sym, refl, ap, subst, arith}
use Rattle.std.specs.Prelude.{slice_index}
use Rattle.rt_code.specs.declared.instr.Instr.TheVariants as instr
use Rattle.rt_ids.specs.Operation.{operate}
use Rattle.rt_native.specs.Pieces.{write_slot, read_slot, number}
use Rattle.rt_native.specs.Sequences.{set_slot, copy_slot, calculate, calculation}
use Rattle.rt_thumb.specs.Machine.{word_at}
use Rattle.rt_native_laws.specs.Doing.{LeadsPrivately, machine_code}
use Rattle.rt_native_laws.specs.Laws.{SetIsDone, CopyIsDone, CalculationIsDone}
use Rattle.rt_native_laws.specs.Standing.{frames_end}
use Rattle.rt_native_laws.proofs.Calculating.{calculates}
use Rattle.rt_native_laws.proofs.Ending.{unless, first_there, slot_here, slot_ends}
use Rattle.rt_native_laws.proofs.Pieces.{moved, IsSlot, slot_at, gets_number, gets_slot}
use Rattle.rt_native_laws.proofs.Runs.{parts_of, runs_on}

-- the code of `set` is two pieces, and so on
pub set_is_done : SetIsDone
unfolding set_slot
set_is_done d v at bottom img places p c m here =
    unless img c (instr.Set d v)
    (LeadsPrivately at bottom img places p (machine_code at bottom img places p (instr.Set d v) c) c m)
    (λ cells slots.
    let l = (first_there d [] c.processor.slots slots).0 in
    let ps = parts_of p m.address (number 0 v) (write_slot 0 d) _ here.code in
    let g = gets_number p (m.register 13) (frames_end c m) 0 v m ps.middle refl ps.first in
    let e = slot_ends at bottom img places p (instr.Set d v) c m here d v l g.register g.flags ps.middle g.gets
    (λ k h. g.others k (λ x. omega arith) (λ x. omega arith)) ps.second in (
      e.0,
      runs_on p (m.register 13) (frames_end c m) (number 0 v) (write_slot 0 d) m
          (moved m g.register g.flags ps.middle) e.0 g.runs e.1,
      e.3,
    ))

pub copy_is_done : CopyIsDone
unfolding copy_slot
copy_is_done d s at bottom img places p c m here =
    unless img c (instr.Copy d s)
    (LeadsPrivately at bottom img places p (machine_code at bottom img places p (instr.Copy d s) c) c m)
    (λ cells slots.
    let first = first_there d (s ∷ []) c.processor.slots slots in
    let second = first_there s [] c.processor.slots first.1 in
    let ps = parts_of p m.address (read_slot 0 s) (write_slot 0 d) _ here.code in
    let g = gets_slot p (m.register 13) (frames_end c m) 0 s m ps.middle refl
    (slot_here at bottom img places p (instr.Copy d s) c m here s second.0) ps.first in
    let e = slot_ends at bottom img places p (instr.Copy d s) c m here d (slice_index c.processor.slots s) first.0
    g.register g.flags ps.middle (g.gets ∙ here.stands.slots s second.0)
    (λ k h. g.others k (λ x. omega arith) (λ x. omega arith)) ps.second in (
      e.0,
      runs_on p (m.register 13) (frames_end c m) (read_slot 0 s) (write_slot 0 d) m
          (moved m g.register g.flags ps.middle) e.0 g.runs e.1,
      e.3,
    ))

pub calculation_is_done : CalculationIsDone
unfolding calculate
calculation_is_done o d a b at bottom img places p c m here =
    unless img c (instr.Calc o d a b)
    (LeadsPrivately at bottom img places p (machine_code at bottom img places p (instr.Calc o d a b) c) c m)
    (λ cells slots.
    let i = instr.Calc o d a b in
    let floor = m.register 13 in
    let top = frames_end c m in
    let ld = first_there d (a ∷ b ∷ []) c.processor.slots slots in
    let la = first_there a (b ∷ []) c.processor.slots ld.1 in
    let lb = first_there b [] c.processor.slots la.1 in
    let outer = parts_of p m.address (read_slot 0 a ++ read_slot 1 b ++ calculation o) (write_slot 0 d) _ here.code in
    let inner = parts_of p m.address (read_slot 0 a ++ read_slot 1 b) (calculation o) outer.middle outer.first in
    let reads = parts_of p m.address (read_slot 0 a) (read_slot 1 b) inner.middle inner.first in
    let g = gets_slot p floor top 0 a m reads.middle refl (slot_here at bottom img places p i c m here a la.0)
    reads.first in
    let m1 = moved m g.register g.flags reads.middle in
    let sp : g.register 13 ≡ m.register 13 = g.others 13 (λ x. omega arith) (λ x. omega arith) in
    let sb = slot_here at bottom img places p i c m here b lb.0 in
    let slot : IsSlot top m1 b = record {
      aligned = omega (arith, sb.aligned);
      within = omega (arith, sb.within);
      memory = sb.memory;
    } in
    let h = gets_slot p floor top 1 b m1 inner.middle refl slot reads.second in
    let m2 = moved m h.register h.flags inner.middle in
    let r0 : h.register 0 ≡ slice_index c.processor.slots a =
    h.others 0 (λ x. omega arith) (λ x. omega arith) ∙ (g.gets ∙ here.stands.slots a la.0) in
    let place : slot_at m1 b ≡ slot_at m b = omega arith in
    let r1 : h.register 1 ≡ slice_index c.processor.slots b =
    h.gets ∙ (ap (word_at m) place ∙ here.stands.slots b lb.0) in
    let w0 : h.register 0 < 2 ^ 32 = subst (λ (x : ℕ). x < 2 ^ 32)
    (sym (h.others 0 (λ x. omega arith) (λ x. omega arith) ∙ g.gets)) (here.words.memory (slot_at m a / 4)) in
    let w1 : h.register 1 < 2 ^ 32 = subst (λ (x : ℕ). x < 2 ^ 32) (sym h.gets)
    (here.words.memory (slot_at m1 b / 4)) in
    let w2 : h.register 2 < 2 ^ 32 = subst (λ (x : ℕ). x < 2 ^ 32)
    (sym (h.others 2 (λ x. omega arith) (λ x. omega arith) ∙ g.others 2 (λ x. omega arith) (λ x. omega arith)))
    (here.words.registers 2) in
    let f = calculates p floor top m2 outer.middle o w0 w1 w2 inner.second in
    let e = slot_ends at bottom img places p i c m here d
    (operate o (slice_index c.processor.slots a) (slice_index c.processor.slots b)) ld.0
    f.register f.flags outer.middle
    (f.makes ∙ (ap (λ (x : ℕ). operate o x (h.register 1)) r0
    ∙ ap (operate o (slice_index c.processor.slots a)) r1))
    (λ k l. f.others k l ∙ (h.others k (λ x. omega arith) (λ x. omega arith)
    ∙ g.others k (λ x. omega arith) (λ x. omega arith))) outer.second in
    let m3 = moved m f.register f.flags outer.middle in (
      e.0,
      runs_on p floor top (read_slot 0 a ++ read_slot 1 b ++ calculation o) (write_slot 0 d) m m3 e.0
          (runs_on p floor top (read_slot 0 a ++ read_slot 1 b) (calculation o) m m2 m3
          (runs_on p floor top (read_slot 0 a) (read_slot 1 b) m m1 m2 g.runs h.runs) f.runs) e.1,
      e.3,
    ))
