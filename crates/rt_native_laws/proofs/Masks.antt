-- `raise`, `restore`, `mask`, `unmask`, `serve`, `post` and `noalarm`.
use Rattle.std.proofs.Common.{◌≡◌, ◌∙◌, ℕ, ◌+◌, ◌*◌, ◌%◌, ◌^◌, ◌≤◌, Bool, true, false}
use Rattle.std.proofs.Common.{[], ◌∷◌, ◌++◌, Option, None, sym, refl, ap, arith}
use Rattle.std.proofs.lemmas.Bool.Decides.{nat_tests}
use Rattle.std.specs.Prelude.{if◌then◌else◌, slice_index, ◌==◌, ◌||◌, nat_le, nat_lt, min}
use Rattle.rt_code.specs.Effect.{next, unmask}
use Rattle.rt_code.specs.Image.{Image}
use Rattle.rt_code.specs.Processor.{Traps, Leads}
use Rattle.rt_code.specs.declared.instr.Instr.TheVariants as instr
use Rattle.rt_code.specs.declared.processor.Request.TheVariants as request
use Rattle.rt_code.specs.declared.processor.Trap.TheVariants as trap
use Rattle.rt_core.specs.Core.{Core}
use Rattle.rt_core.specs.Stepping.{go_on}
use Rattle.rt_ids.specs.Operation.{number_of}
use Rattle.rt_native.specs.Pieces.{number, read_slot, write_slot}
use Rattle.rt_native.specs.Sequences.{raise, restore, mask, serve}
use Rattle.rt_thumb.specs.Exceptions.{least_value}
use Rattle.rt_thumb.specs.declared.instruction.Instruction.TheVariants as instruction
use Rattle.rt_thumb.specs.declared.instruction.Special.TheVariants as special
use Rattle.rt_trace.specs.declared.item.What.{What}
use Rattle.rt_native_laws.specs.Doing.{LeadsInOne, UnlessTrapped}
use Rattle.rt_native_laws.specs.Laws.{RaiseIsDone, RestoreIsDone, MaskIsDone, UnmaskIsDone, ServeIsDone}
use Rattle.rt_native_laws.specs.Standing.{frames_end}
use Rattle.rt_native_laws.proofs.Calculating.{next as stepped}
use Rattle.rt_native_laws.proofs.Ending.{unless, first_there, slot_here, slot_stands, puts_here, masks_stand}
use Rattle.rt_native_laws.proofs.Keeping.{written}
use Rattle.rt_native_laws.proofs.Pieces.{moved, steps, slot_at, gets_slot, gets_number}
use Rattle.rt_native_laws.proofs.Pieces.{other}
use Rattle.rt_native_laws.proofs.Runs.{parts_of, runs_on}
use Rattle.rt_native_laws.proofs.Tests.{at_most}

pub serve_is_done : ServeIsDone
unfolding serve
serve_is_done at bottom img places p c m here =
    unless img c instr.Serve
    (LeadsInOne at bottom img places p instr.Serve c m) (λ cells slots basepri.
    let i = instruction.EnableInterrupts in
    let j = instruction.SynchronizeInstructions in
    let n1 = stepped p i m in
    let n2 = stepped p j n1 in (
      n2,
      record {
        front = [];
        commit = i;
        back = j ∷ [];
        parts = refl;
        ready = m;
        done = n1;
        prepares = refl;
        commits = record { found = here.code.0; does = refl };
        completes = (n2, steps p _ _ j n1 n2 here.code.1.0 refl refl, refl);
      },
      masks_stand at bottom img places p instr.Serve c m here c.processor.basepri false n2 refl (sym here.code.1.1)
          here.stands.base_priority refl (λ k h. refl),
      λ e. refl,
      λ r e. refl,
    ))

pub restore_is_done : RestoreIsDone
unfolding restore
restore_is_done s at bottom img places p c m here =
    unless img c (instr.Restore s)
    (LeadsInOne at bottom img places p (instr.Restore s) c m)
    (λ cells slots basepri.
    let i = instr.Restore s in
    let floor = m.register 13 in
    let top = frames_end c m in
    let l = (first_there s [] c.processor.slots slots).0 in
    let v = slice_index c.processor.slots s in
    let w = instruction.WriteSpecial special.BasePriority 0 in
    let j = instruction.SynchronizeInstructions in
    let ps = parts_of p m.address (read_slot 0 s) (w ∷ j ∷ []) _ here.code in
    let g = gets_slot p floor top 0 s m ps.middle refl (slot_here at bottom img places p i c m here s l) ps.first in
    let m1 = moved m g.register g.flags ps.middle in
    let n1 = stepped p w m1 in
    let n2 = stepped p j n1 in
    let r0 : g.register 0 ≡ v = g.gets ∙ here.stands.slots s l in
    let priority : g.register 0 % 2 ^ 8 ≡ v = omega (arith, r0, basepri) in (
      n2,
      record {
        front = read_slot 0 s;
        commit = w;
        back = j ∷ [];
        parts = refl;
        ready = m1;
        done = n1;
        prepares = g.runs;
        commits = record { found = ps.second.0; does = refl };
        completes = (n2, steps p _ _ j n1 n2 ps.second.1.0 refl refl, refl);
      },
      masks_stand at bottom img places p i c m here v c.processor.primask n2 refl (sym ps.second.1.1) priority
          here.stands.is_masked (λ k h. g.others k (λ x. omega arith) (λ x. omega arith)),
      λ e. refl,
      λ r e. refl,
    ))

chosen : (img : Image) (c : Core) (b : Bool) (v : ℕ) (Holds : Core → Option What → Type 0)
    → (b ≡ true → Holds (record c { processor = record (next c.processor) { primask = v == 1 } }) None)
    → UnlessTrapped (go_on img c None (if b then Leads (record (next c.processor) { primask = v == 1 }) request.Nothing
    else Traps trap.Stack)) Holds
chosen img c true v Holds h = h refl
chosen img c false v Holds h = tt

small : (v : ℕ) → v ≤ 1 → v % 2 ≡ v
small v h = omega arith

-- an outcome where a word is 0 or 1
where_one : (img : Image) (c : Core) (v : ℕ) (Holds : Core → Option What → Type 0)
    → (v ≤ 1 → Holds (record c { processor = record (next c.processor) { primask = v == 1 } }) None)
    → UnlessTrapped (go_on img c None (unmask c.processor v)) Holds
where_one img c v Holds h = chosen img c (nat_le v 1) v Holds (λ e. h (at_most v 1 e))

-- PRIMASK from a word that is 0 or 1
is_one : (v : ℕ) → v ≤ 1 → (v % 2 == 1) ≡ (v == 1)
is_one v h = ap (λ (x : ℕ). x == 1) (small v h)

pub unmask_is_done : UnmaskIsDone
unfolding restore
unmask_is_done s at bottom img places p c m here =
    unless img c (instr.Unmask s)
    (LeadsInOne at bottom img places p (instr.Unmask s) c m)
    (λ cells slots.
    let i = instr.Unmask s in
    let floor = m.register 13 in
    let top = frames_end c m in
    let l = (first_there s [] c.processor.slots slots).0 in
    let v = slice_index c.processor.slots s in
    let w = instruction.WriteSpecial special.PriorityMask 0 in
    let j = instruction.SynchronizeInstructions in
    let ps = parts_of p m.address (read_slot 0 s) (w ∷ j ∷ []) _ here.code in
    let g = gets_slot p floor top 0 s m ps.middle refl (slot_here at bottom img places p i c m here s l) ps.first in
    let m1 = moved m g.register g.flags ps.middle in
    let n1 = stepped p w m1 in
    let n2 = stepped p j n1 in
    let r0 : g.register 0 ≡ v = g.gets ∙ here.stands.slots s l in
    where_one img c v
    (LeadsInOne at bottom img places p (instr.Unmask s) c m)
    (λ low basepri. (
      n2,
      record {
        front = read_slot 0 s;
        commit = w;
        back = j ∷ [];
        parts = refl;
        ready = m1;
        done = n1;
        prepares = g.runs;
        commits = record { found = ps.second.0; does = refl };
        completes = (n2, steps p _ _ j n1 n2 ps.second.1.0 refl refl, refl);
      },
      masks_stand at bottom img places p i c m here c.processor.basepri (v == 1) n2 refl (sym ps.second.1.1)
          here.stands.base_priority (ap (λ (x : ℕ). x % 2 == 1) r0 ∙ is_one v low)
          (λ k h. g.others k (λ x. omega arith) (λ x. omega arith)),
      λ e. refl,
      λ r e. refl,
    )))

-- what BASEPRI and PRIMASK hold the execution priority to
abbrev base_of : ℕ → ℕ
base_of v = if v == 0 then 256 else v

abbrev mask_of : Bool → ℕ
mask_of b = if b then 0 else 256

-- a priority that is no lower lets nothing be taken
no_later : (a b c k : ℕ) → c ≤ b → nat_lt (min a (min b k)) (min a (min c k)) ≡ false
no_later a b c k h = grind (arith, nat_tests)

no_less : (a b k : ℕ) → nat_lt (min a (min b k)) (min a (min b 0)) ≡ false
no_less a b k = grind (arith, nat_tests)

stays : (a b k : ℕ) (unsettled : Bool) → unsettled ≡ false
    → (unsettled || nat_lt (min a (min b k)) (min a (min b 0))) ≡ false
stays a b k false e = no_less a b k
stays a b k true e = absurd (cc)

rises : (a k v w : ℕ) (unsettled : Bool) → base_of w ≤ base_of v → unsettled ≡ false
    → (unsettled || nat_lt (min a (min (base_of v) k)) (min a (min (base_of w) k))) ≡ false
rises a k v w false h e = no_later a (base_of v) (base_of w) k h
rises a k v w true h e = absurd (cc)

-- a slot gets the mask, then the mask is written
pub mask_is_done : MaskIsDone
unfolding mask
mask_is_done d at bottom img places p c m here =
    unless img c (instr.Mask d)
    (LeadsInOne at bottom img places p (instr.Mask d) c m)
    (λ cells slots basepri.
    let i = instr.Mask d in
    let floor = m.register 13 in
    let top = frames_end c m in
    let l = (first_there d [] c.processor.slots slots).0 in
    let v = number_of c.processor.primask in
    let r = instruction.ReadSpecial 0 special.PriorityMask in
    let j = instruction.DisableInterrupts in
    let m1 = stepped p r m in
    let ps = parts_of p m.address (r ∷ write_slot 0 d) (j ∷ []) _ here.code in
    let w = puts_here at bottom img places p i c m here d l m1.register m1.flags m1.address ps.middle refl ps.first.1 in
    let m2 = record (moved m w.register w.flags ps.middle) {
      memory = written m.memory (m.register 13 + 4 * d) (m1.register 0);
    } in
    let n = stepped p j m2 in (
      n,
      record {
        front = r ∷ write_slot 0 d;
        commit = j;
        back = [];
        parts = refl;
        ready = m2;
        done = n;
        prepares = (m1, steps p floor top r m m1 ps.first.0 refl refl, w.runs);
        commits = record { found = ps.second.0; does = refl };
        completes = refl;
      },
      slot_stands at bottom img places p i c m here d v c.processor.basepri true l n refl (sym ps.second.1)
          here.stands.base_priority refl (λ k g. w.others k (λ x. omega arith) ∙ other k 0 _ _ (λ x. omega arith))
          (λ k. ap (λ (x : Bool). written m.memory (slot_at m d) (number_of x) k) here.stands.is_masked),
      λ e. absurd (cc),
      λ r e. stays (least_value m2 m2.active) (base_of m.base_priority) (mask_of m.is_masked) m.is_unsettled e,
    ))

pub raise_is_done : RaiseIsDone
unfolding raise
raise_is_done d v at bottom img places p c m here =
    unless img c (instr.Raise d v)
    (LeadsInOne at bottom img places p (instr.Raise d v) c m)
    (λ cells slots basepri.
    let i = instr.Raise d v in
    let floor = m.register 13 in
    let top = frames_end c m in
    let l = (first_there d [] c.processor.slots slots).0 in
    let r = instruction.ReadSpecial 0 special.BasePriority in
    let j = instruction.WriteSpecial special.BasePriority 1 in
    let m1 = stepped p r m in
    let outer = parts_of p m.address ((r ∷ write_slot 0 d) ++ number 1 v) (j ∷ []) _ here.code in
    let ps = parts_of p m.address (r ∷ write_slot 0 d) (number 1 v) outer.middle outer.first in
    let w = puts_here at bottom img places p i c m here d l m1.register m1.flags m1.address ps.middle refl ps.first.1 in
    let m2 = record (moved m w.register w.flags ps.middle) {
      memory = written m.memory (m.register 13 + 4 * d) (m1.register 0);
    } in
    let g = gets_number p floor top 1 v m2 outer.middle refl ps.second in
    let m3 = moved m2 g.register g.flags outer.middle in
    let n = stepped p j m3 in
    let priority : g.register 1 % 2 ^ 8 ≡ v = omega (arith, g.gets, basepri) in (
      n,
      record {
        front = (r ∷ write_slot 0 d) ++ number 1 v;
        commit = j;
        back = [];
        parts = refl;
        ready = m3;
        done = n;
        prepares = runs_on p floor top (r ∷ write_slot 0 d) (number 1 v) m m2 m3
            (m1, steps p floor top r m m1 ps.first.0 refl refl, w.runs) g.runs;
        commits = record { found = outer.second.0; does = refl };
        completes = refl;
      },
      slot_stands at bottom img places p i c m here d c.processor.basepri v c.processor.primask l n refl
          (sym outer.second.1) priority here.stands.is_masked
          (λ k h. g.others k (λ x. omega arith) (λ x. omega arith)
          ∙ (w.others k (λ x. omega arith) ∙ other k 0 _ _ (λ x. omega arith)))
          (λ k. ap (λ (x : ℕ). written m.memory (slot_at m d) x k) here.stands.base_priority),
      λ e. absurd (cc),
      λ r e. rises (least_value m3 m3.active) (mask_of m.is_masked) m.base_priority (g.register 1 % 2 ^ 8)
          m.is_unsettled (omega (arith, ap base_of priority, ap base_of here.stands.base_priority, r)) e,
    ))
