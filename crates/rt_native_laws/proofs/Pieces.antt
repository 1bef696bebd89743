-- What the pieces of sequences do: a number or a slot in a register, a register in a slot.
use Rattle.std.proofs.Common.{◌≡◌, ◌≢◌, ◌∙◌, ℕ, ◌+◌, ◌*◌, ◌/◌, ◌%◌, ◌^◌, ◌<◌, ◌≤◌, Bool, true, false}
use Rattle.std.proofs.Common.{List, [], ◌∷◌, ◌++◌, Some, None, sym, refl, ap, subst, arith}
use Rattle.std.proofs.lemmas.Bool.Decides.{nat_tests}
use Rattle.std.specs.Prelude.{if◌then◌else◌, nat_lt, nat_le, ◌==◌, ◌&&◌}
use Rattle.rt_ids.specs.Operation.{wrapped_number as word}
use Rattle.rt_native.specs.Pieces.{number, address, read_slot, write_slot, far_slot}
use Rattle.rt_priorities.proofs.Pieces.{halves}
use Rattle.rt_thumb.specs.Effect.{effect, loading, storing, stored, behind}
use Rattle.rt_thumb.specs.Machine.{Machine, Flags, word_at, with_word, with_register}
use Rattle.rt_thumb.specs.Step.{Program}
use Rattle.rt_thumb.specs.declared.instruction.Instruction.{Instruction}
use Rattle.rt_thumb.specs.declared.instruction.Instruction.TheVariants as instruction
use Rattle.rt_native_laws.specs.Own.{is_private, RunsPrivately, StepsPrivately, Spans, is_scratch, is_in_frames}
use Rattle.rt_native_laws.specs.Own.{reads_own}
use Rattle.rt_native_laws.proofs.Runs.{parts_of, runs_on}
use Rattle.rt_native_laws.proofs.Tests.{not_equal}

-- the state with other registers and flags, at an address
abbrev pub moved : Machine → (ℕ → ℕ) → Flags → ℕ → Machine
moved m register flags to = record m { register = register; flags = flags; address = to }

-- private code to an address, by which a register gets a value; of the others r3 alone may change
pub record Gets (p : Program) (floor top : ℕ) (code : List Instruction) (r value : ℕ) (m : Machine) (to : ℕ)
    : Type 0 where
  pub register : ℕ → ℕ
  pub flags : Flags
  pub runs : RunsPrivately p floor top code m (moved m register flags to)
  pub gets : register r ≡ value
  pub others : (k : ℕ) → k ≢ r → k ≢ 3 → register k ≡ m.register k

-- a register that was written
pub same : (r v w : ℕ) → (if r == r then v else w) ≡ v
same r v w = grind (arith, nat_tests)

pub other : (k r v w : ℕ) → k ≢ r → (if k == r then v else w) ≡ w
other k r v w h = grind (arith, nat_tests)

-- a private instruction that is executed
pub steps : (p : Program) (floor top : ℕ) (i : Instruction) (m n : Machine) → p.code m.address ≡ Some i
    → effect p.port i m ≡ Some n → is_private floor top i m ≡ true
    → StepsPrivately p floor top i m n
steps p floor top i m n found does own =
    record { executes = record { found = found; does = does }; is_private = own }

-- to where it ends
gets_at : (p : Program) (floor top : ℕ) (code : List Instruction) (r value : ℕ) (m : Machine) (from to : ℕ)
    → to ≡ from → Gets p floor top code r value m from → Gets p floor top code r value m to
gets_at p floor top code r value m from to e g = subst (λ (k : ℕ). Gets p floor top code r value m k) (sym e) g

-- one instruction that writes a register
gets_by : (p : Program) (floor top : ℕ) (i : Instruction) (r value : ℕ) (m : Machine) (flags : Flags) (end to : ℕ)
    → p.code m.address ≡ Some i
    → effect p.port i m ≡ Some (moved m (λ k. if k == r then value else m.register k) flags end)
    → is_private floor top i m ≡ true → to ≡ end
    → Gets p floor top (i ∷ []) r value m to
gets_by p floor top i r value m flags end to found does own e =
    gets_at p floor top (i ∷ []) r value m end to e (record {
      register = λ k. if k == r then value else m.register k;
      flags = flags;
      runs = (_, steps p floor top i m _ found does own, refl);
      gets = same r value (m.register r);
      others = λ k h g. other k r value (m.register k) h;
    })

-- an address in a register
pub gets_address : (p : Program) (floor top r n : ℕ) (m : Machine) (to : ℕ) → is_scratch r ≡ true
    → Spans p m.address (address r n) to → Gets p floor top (address r n) r n m to
unfolding address
gets_address p floor top r n m to low s =
    let first : ℕ → ℕ = λ k. if k == r then n % 2 ^ 16 else m.register k in
    gets_at p floor top (address r n) r n m (m.address + 4 + 4) to s.1.1 (record {
      register = λ k. if k == r then n / 2 ^ 16 * 2 ^ 16 + first r % 2 ^ 16 else first k;
      flags = m.flags;
      runs = (
        _,
        steps p floor top (instruction.MoveWide r (n % 2 ^ 16)) m _ s.0 refl low,
        (_, steps p floor top (instruction.MoveTop r (n / 2 ^ 16)) _ _ s.1.0 refl low, refl),
      );
      gets = same r _ _ ∙ (ap (λ (x : ℕ). n / 2 ^ 16 * 2 ^ 16 + x % 2 ^ 16) (same r (n % 2 ^ 16) (m.register r))
          ∙ halves n);
      others = λ k h g. other k r _ _ h ∙ other k r _ _ h;
    })

-- a number in a register, by any of three ways
gets_chosen : (short middle : Bool) (p : Program) (floor top r n : ℕ) (m : Machine) (to : ℕ) → is_scratch r ≡ true
    → Spans p m.address (if short then instruction.Move r n ∷ [] else if middle then instruction.MoveWide r n ∷ []
    else address r n) to
    → Gets p floor top (if short then instruction.Move r n ∷ [] else if middle then instruction.MoveWide r n ∷ []
    else address r n) r n m to
gets_chosen true middle p floor top r n m to low s =
    gets_by p floor top (instruction.Move r n) r n m _ (m.address + 2) to s.0 refl low s.1
gets_chosen false true p floor top r n m to low s =
    gets_by p floor top (instruction.MoveWide r n) r n m m.flags (m.address + 4) to s.0 refl low s.1
gets_chosen false false p floor top r n m to low s = gets_address p floor top r n m to low s

pub gets_number : (p : Program) (floor top r n : ℕ) (m : Machine) (to : ℕ) → is_scratch r ≡ true
    → Spans p m.address (number r n) to → Gets p floor top (number r n) r n m to
unfolding number
gets_number p floor top r n m to low s =
    gets_chosen (nat_lt n (2 ^ 8)) (nat_lt n (2 ^ 16)) p floor top r n m to low s

-- a slot in the job's part of the stack, which ends in memory
pub record IsSlot (top : ℕ) (m : Machine) (s : ℕ) : Type 0 where
  pub aligned : m.register 13 % 4 ≡ 0
  pub within : m.register 13 + 4 * s < top
  pub memory : top ≤ 0xE0000000

-- where a slot is
abbrev pub slot_at : Machine → ℕ → ℕ
slot_at m s = m.register 13 + 4 * s

pub slot_word : (top s : ℕ) (m : Machine) → IsSlot top m s → word (slot_at m s) ≡ slot_at m s
slot_word top s m h = omega (arith, h.within, h.memory)

pub slot_aligned : (top s : ℕ) (m : Machine) → IsSlot top m s → slot_at m s % 4 ≡ 0
slot_aligned top s m h = omega (arith, h.aligned)

-- a load and a store at an aligned address
pub loading_is : (i : Instruction) (t computed a : ℕ) (m : Machine) → computed ≡ a → a % 4 ≡ 0
    → loading i t computed m ≡ behind i (with_register t (word_at m a) m)
loading_is i t computed a m e z =
    ap (λ (x : ℕ). loading i t x m) e
    ∙ ap (λ (x : ℕ). if x == 0 then behind i (with_register t (word_at m a) m) else None) z

-- tests that fail
untrue : {A : Type 0} (a b c : Bool) (x y z w : A) → a ≡ false → b ≡ false → c ≡ false
    → (if a then x else if b then y else if c then z else w) ≡ w
untrue a b c x y z w d e f =
    ap (λ (t : Bool). if t then x else if b then y else if c then z else w) d
    ∙ (ap (λ (t : Bool). if t then y else if c then z else w) e ∙ ap (λ (t : Bool). if t then z else w) f)

pub not_within : (a b c : ℕ) → a < b → (nat_le b a && nat_lt a c) ≡ false
not_within a b c h = grind (arith, nat_tests)

-- an address in memory, which is neither the port's nor one of the system's
pub record IsMemory (port a : ℕ) : Type 0 where
  pub aligned : a % 4 ≡ 0
  pub no_port : a ≢ port
  pub below : a < 0xE0000000

pub storing_is : (port : ℕ) (i : Instruction) (t computed a : ℕ) (m : Machine) → computed ≡ a → IsMemory port a
    → storing port i t computed m ≡ behind i (with_word a (m.register t) m)
storing_is port i t computed a m e h =
    ap (λ (x : ℕ). storing port i t x m) e
    ∙ (ap (λ (x : ℕ). if x == 0 then behind i (stored port a (m.register t) m) else None) h.aligned
    ∙ ap (behind i) (untrue (a == port) (a == 0xE000EF00) (nat_le 0xE000E100 a && nat_lt a 0xE000E140) _ _ _ _
    (not_equal a port h.no_port) (not_equal a 0xE000EF00 (omega (arith, h.below)))
    (not_within a 0xE000E100 0xE000E140 (omega (arith, h.below)))))

-- tests of a slot's address
own_tests : (b : Bool) (sp a top : ℕ) → b ≡ true → sp ≤ a → a < top → (b && (nat_le sp a && nat_lt a top)) ≡ true
own_tests b sp a top low from to = grind (arith, nat_tests)

pub reads_slot : (top r computed s : ℕ) (m : Machine) → is_scratch r ≡ true → computed ≡ slot_at m s → IsSlot top m s
    → reads_own top m r computed ≡ true
reads_slot top r computed s m low e h =
    ap (reads_own top m r) e
    ∙ own_tests (is_scratch r) (m.register 13) (slot_at m s) top low (omega arith) h.within

pub writes_slot : (top computed s : ℕ) (m : Machine) → computed ≡ slot_at m s → IsSlot top m s
    → is_in_frames top m computed ≡ true
writes_slot top computed s m e h =
    ap (is_in_frames top m) e
    ∙ own_tests true (m.register 13) (slot_at m s) top refl (omega arith) h.within

-- r3 gets the address of a slot
pub gets_far_slot : (p : Program) (floor top s : ℕ) (m : Machine) (to : ℕ) → IsSlot top m s
    → Spans p m.address (far_slot s) to → Gets p floor top (far_slot s) 3 (slot_at m s) m to
unfolding far_slot
gets_far_slot p floor top s m to h code =
    let ps = parts_of p m.address (number 3 (word (4 * s))) (instruction.AddStackPointer 3 ∷ []) to code in
    let n = gets_number p floor top 3 (word (4 * s)) m ps.middle refl ps.first in
    let sp : n.register 13 ≡ m.register 13 = n.others 13 (omega arith) (omega arith) in
    let sum : word (n.register 13 + n.register 3) ≡ slot_at m s =
    ap (λ (x : ℕ). word (x + n.register 3)) sp ∙ (ap (λ (x : ℕ). word (m.register 13 + x)) n.gets
    ∙ omega (arith, h.within, h.memory)) in
    gets_at p floor top (far_slot s) 3 (slot_at m s) m (ps.middle + 2) to ps.second.1 (record {
      register = λ k. if k == 3 then word (n.register 13 + n.register 3) else n.register k;
      flags = n.flags;
      runs = runs_on p floor top (number 3 (word (4 * s))) (instruction.AddStackPointer 3 ∷ []) m
          (moved m n.register n.flags ps.middle) _ n.runs (
            _,
            steps p floor top (instruction.AddStackPointer 3) (moved m n.register n.flags ps.middle) _ ps.second.0
                refl refl,
            refl,
          );
      gets = sum;
      others = λ k a b. other k 3 _ _ b ∙ n.others k a b;
    })

-- a register gets a slot
gets_slot_by : (near middle : Bool) (p : Program) (floor top r s : ℕ) (m : Machine) (to : ℕ) → is_scratch r ≡ true
    → IsSlot top m s
    → Spans p m.address (if near then instruction.LoadStack r (4 * s) ∷ [] else if middle
    then instruction.LoadWide r 13 (4 * s) ∷ [] else far_slot s ++ instruction.Load r 3 0 ∷ []) to
    → Gets p floor top (if near then instruction.LoadStack r (4 * s) ∷ [] else if middle
    then instruction.LoadWide r 13 (4 * s) ∷ [] else far_slot s ++ instruction.Load r 3 0 ∷ []) r
    (word_at m (slot_at m s)) m to
gets_slot_by true middle p floor top r s m to low h code =
    gets_by p floor top (instruction.LoadStack r (4 * s)) r (word_at m (slot_at m s)) m m.flags (m.address + 2) to
    code.0 (loading_is (instruction.LoadStack r (4 * s)) r _ _ m (slot_word top s m h) (slot_aligned top s m h))
    (reads_slot top r _ s m low (slot_word top s m h) h) code.1
gets_slot_by false true p floor top r s m to low h code =
    gets_by p floor top (instruction.LoadWide r 13 (4 * s)) r (word_at m (slot_at m s)) m m.flags (m.address + 4) to
    code.0 (loading_is (instruction.LoadWide r 13 (4 * s)) r _ _ m (slot_word top s m h) (slot_aligned top s m h))
    (reads_slot top r _ s m low (slot_word top s m h) h) code.1
gets_slot_by false false p floor top r s m to low h code =
    let ps = parts_of p m.address (far_slot s) (instruction.Load r 3 0 ∷ []) to code in
    let n = gets_far_slot p floor top s m ps.middle h ps.first in
    let there = moved m n.register n.flags ps.middle in
    let sp : n.register 13 ≡ m.register 13 = n.others 13 (omega arith) (omega arith) in
    let at : word (n.register 3 + 0) ≡ slot_at m s =
    ap (λ (x : ℕ). word (x + 0)) n.gets ∙ omega (arith, h.within, h.memory) in
    let inside : (nat_le (n.register 13) (slot_at m s) && nat_lt (slot_at m s) top) ≡ true =
    ap (λ (x : ℕ). nat_le x (slot_at m s) && nat_lt (slot_at m s) top) sp ∙ writes_slot top _ s m refl h in
    gets_at p floor top (far_slot s ++ instruction.Load r 3 0 ∷ []) r (word_at m (slot_at m s)) m (ps.middle + 2) to
    ps.second.1 (record {
      register = λ k. if k == r then word_at m (slot_at m s) else n.register k;
      flags = n.flags;
      runs = runs_on p floor top (far_slot s) (instruction.Load r 3 0 ∷ []) m there _ n.runs (
        _,
        steps p floor top (instruction.Load r 3 0) there _ ps.second.0
            (loading_is (instruction.Load r 3 0) r _ _ there at (slot_aligned top s m h))
            (ap (reads_own top there r) at ∙ (ap (λ (x : Bool). x && (nat_le (n.register 13) (slot_at m s)
            && nat_lt (slot_at m s) top)) low ∙ inside)),
        refl,
      );
      gets = same r _ _;
      others = λ k a b. other k r _ _ a ∙ n.others k b b;
    })

pub gets_slot : (p : Program) (floor top r s : ℕ) (m : Machine) (to : ℕ) → is_scratch r ≡ true → IsSlot top m s
    → Spans p m.address (read_slot r s) to → Gets p floor top (read_slot r s) r (word_at m (slot_at m s)) m to
unfolding read_slot
gets_slot p floor top r s m to low h code =
    gets_slot_by (nat_lt s (2 ^ 8)) (nat_lt s (2 ^ 10)) p floor top r s m to low h code

-- the state with other registers and flags, with another word in memory, at an address
abbrev pub wrote : Machine → ℕ → ℕ → (ℕ → ℕ) → Flags → ℕ → Machine
wrote m a value register flags to =
    record (with_word a value m) { register = register; flags = flags; address = to }

-- private code to an address, by which a slot gets a value; of the registers r3 alone may change
pub record Puts (p : Program) (floor top : ℕ) (code : List Instruction) (s value : ℕ) (m : Machine) (to : ℕ)
    : Type 0 where
  pub register : ℕ → ℕ
  pub flags : Flags
  pub runs : RunsPrivately p floor top code m (wrote m (slot_at m s) value register flags to)
  pub others : (k : ℕ) → k ≢ 3 → register k ≡ m.register k

puts_at : (p : Program) (floor top : ℕ) (code : List Instruction) (s value : ℕ) (m : Machine) (from to : ℕ)
    → to ≡ from → Puts p floor top code s value m from → Puts p floor top code s value m to
puts_at p floor top code s value m from to e g = subst (λ (k : ℕ). Puts p floor top code s value m k) (sym e) g

puts_slot_by : (near middle : Bool) (p : Program) (floor top r s : ℕ) (m : Machine) (to : ℕ) → r ≢ 3
    → IsSlot top m s → IsMemory p.port (slot_at m s)
    → Spans p m.address (if near then instruction.StoreStack r (4 * s) ∷ [] else if middle
    then instruction.StoreWide r 13 (4 * s) ∷ [] else far_slot s ++ instruction.Store r 3 0 ∷ []) to
    → Puts p floor top (if near then instruction.StoreStack r (4 * s) ∷ [] else if middle
    then instruction.StoreWide r 13 (4 * s) ∷ [] else far_slot s ++ instruction.Store r 3 0 ∷ []) s (m.register r) m to
puts_slot_by true middle p floor top r s m to low h mem code =
    puts_at p floor top (instruction.StoreStack r (4 * s) ∷ []) s (m.register r) m (m.address + 2) to code.1 (record {
      register = m.register;
      flags = m.flags;
      runs = (
        _,
        steps p floor top (instruction.StoreStack r (4 * s)) m _ code.0
            (storing_is p.port (instruction.StoreStack r (4 * s)) r _ _ m (slot_word top s m h) mem)
            (writes_slot top _ s m (slot_word top s m h) h),
        refl,
      );
      others = λ k a. refl;
    })
puts_slot_by false true p floor top r s m to low h mem code =
    puts_at p floor top (instruction.StoreWide r 13 (4 * s) ∷ []) s (m.register r) m (m.address + 4) to code.1 (record {
      register = m.register;
      flags = m.flags;
      runs = (
        _,
        steps p floor top (instruction.StoreWide r 13 (4 * s)) m _ code.0
            (storing_is p.port (instruction.StoreWide r 13 (4 * s)) r _ _ m (slot_word top s m h) mem)
            (writes_slot top _ s m (slot_word top s m h) h),
        refl,
      );
      others = λ k a. refl;
    })
puts_slot_by false false p floor top r s m to low h mem code =
    let ps = parts_of p m.address (far_slot s) (instruction.Store r 3 0 ∷ []) to code in
    let n = gets_far_slot p floor top s m ps.middle h ps.first in
    let there = moved m n.register n.flags ps.middle in
    let sp : n.register 13 ≡ m.register 13 = n.others 13 (omega arith) (omega arith) in
    let at : word (n.register 3 + 0) ≡ slot_at m s =
    ap (λ (x : ℕ). word (x + 0)) n.gets ∙ omega (arith, h.within, h.memory) in
    let inside : (nat_le (n.register 13) (slot_at m s) && nat_lt (slot_at m s) top) ≡ true =
    ap (λ (x : ℕ). nat_le x (slot_at m s) && nat_lt (slot_at m s) top) sp ∙ writes_slot top _ s m refl h in
    puts_at p floor top (far_slot s ++ instruction.Store r 3 0 ∷ []) s (m.register r) m (ps.middle + 2) to ps.second.1
    (record {
      register = n.register;
      flags = n.flags;
      runs = runs_on p floor top (far_slot s) (instruction.Store r 3 0 ∷ []) m there _ n.runs (
        _,
        steps p floor top (instruction.Store r 3 0) there _ ps.second.0
            (storing_is p.port (instruction.Store r 3 0) r _ _ there at mem
            ∙ ap (λ (x : ℕ). behind (instruction.Store r 3 0) (with_word (slot_at m s) x there)) (n.others r low low))
            (ap (is_in_frames top there) at ∙ inside),
        refl,
      );
      others = λ k a. n.others k a a;
    })

pub puts_slot : (p : Program) (floor top r s : ℕ) (m : Machine) (to : ℕ) → r ≢ 3 → IsSlot top m s
    → IsMemory p.port (slot_at m s) → Spans p m.address (write_slot r s) to
    → Puts p floor top (write_slot r s) s (m.register r) m to
unfolding write_slot
puts_slot p floor top r s m to low h mem code =
    puts_slot_by (nat_lt s (2 ^ 8)) (nat_lt s (2 ^ 10)) p floor top r s m to low h mem code
