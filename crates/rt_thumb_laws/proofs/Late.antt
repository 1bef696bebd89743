-- Going late is going, and nothing else depends on the leave to be late.
use Rattle.std.proofs.Common.{◌≡◌, ℕ, ◌+◌, ◌*◌, ◌%◌, ◌==◌, ◌&&◌, not, Bool, true, false, nat_le, nat_lt}
use Rattle.std.proofs.Common.{Option, Some, None, option_map, if◌then◌else◌, refl, sym, ap}
use Rattle.rt_ids.specs.Operation.{wrapped_number as word}
use Rattle.rt_thumb.specs.Effect.{effect, operated, holds, branched, behind, loading, stored, storing, exchanged}
use Rattle.rt_thumb.specs.Exceptions.{taken, even, returned}
use Rattle.rt_thumb.specs.Machine.{Machine, word_at, with_register}
use Rattle.rt_thumb.specs.Step.{Program, Event, Arrives, Changes, Ticks, Goes, GoesLate, step, going, executing}
use Rattle.rt_thumb.specs.declared.instruction.Operation.{Operation}
use Rattle.rt_thumb.specs.declared.instruction.Operation.TheVariants as operation
use Rattle.rt_thumb.specs.declared.instruction.Special.TheVariants as special
use Rattle.rt_thumb.specs.declared.instruction.Instruction.{Instruction}
use Rattle.rt_thumb.specs.declared.instruction.Instruction.TheVariants as instruction
use Rattle.rt_thumb_laws.specs.Late.{LateIsPlain, settled, AreAlike, NothingElseDependsOnIt}
use Rattle.rt_thumb_laws.proofs.Stores.{stored_as}

pub late_is_plain : LateIsPlain
late_is_plain p m none = sym (ap (going p m) none)

either : (b : Bool) (x y v w : Option Machine) → AreAlike x v → AreAlike y w
    → AreAlike (if b then x else y) (if b then v else w)
either true x y v w h k = h
either false x y v w h k = k

module _ (m : Machine) where
  -- what an operation leaves is alike
  operated_alike : (op : Operation) (d b : ℕ) → settled (operated op d b (settled m)) ≡ settled (operated op d b m)
  operated_alike operation.And d b = refl
  operated_alike operation.ExclusiveOr d b = refl
  operated_alike operation.ShiftLeft d b = refl
  operated_alike operation.ShiftRight d b = refl
  operated_alike operation.AddWithCarry d b = refl
  operated_alike operation.SubtractWithCarry d b = refl
  operated_alike operation.Negate d b = refl
  operated_alike operation.Compare d b = refl
  operated_alike operation.Or d b = refl
  operated_alike operation.Multiply d b = refl

  stored_by : (address value : ℕ) (emits posts enables : Bool)
      → settled (stored_as emits posts enables address value (settled m))
      ≡ settled (stored_as emits posts enables address value m)
  stored_by address value true posts enables = refl
  stored_by address value false true enables = refl
  stored_by address value false false true = refl
  stored_by address value false false false = refl

  -- behind an instruction they are alike where they were
  behind_alike : (i : Instruction) (a b : Machine) → settled a ≡ settled b → AreAlike (behind i a) (behind i b)
  behind_alike i a b same = ap (λ x. option_map settled (behind i x)) same

  storing_alike : (port : ℕ) (i : Instruction) (t address : ℕ)
      → AreAlike (storing port i t address (settled m)) (storing port i t address m)
  storing_alike port i t address =
      either (address % 4 == 0) (behind i (stored port address (m.register t) (settled m))) None
      (behind i (stored port address (m.register t) m)) None
      (behind_alike i (stored port address (m.register t) (settled m)) (stored port address (m.register t) m)
      (stored_by address (m.register t) (address == port) (address == 0xE000EF00)
      (nat_le 0xE000E100 address && nat_lt address 0xE000E140)))
      refl

  loading_alike : (i : Instruction) (t address : ℕ)
      → AreAlike (loading i t address (settled m)) (loading i t address m)
  loading_alike i t address =
      either (address % 4 == 0) (behind i (with_register t (word_at m address) (settled m))) None
      (behind i (with_register t (word_at m address) m)) None refl refl

  exchanged_alike : (value : ℕ) → AreAlike (exchanged value (settled m)) (exchanged value m)
  exchanged_alike value =
      either (nat_le 0xF0000000 value && not (m.exception == 0)) (returned value (settled m))
      (if value % 2 == 1 then Some (record (settled m) { address = even value }) else None) (returned value m)
      (if value % 2 == 1 then Some (record m { address = even value }) else None) refl
      (either (value % 2 == 1) (Some (record (settled m) { address = even value })) None
      (Some (record m { address = even value })) None refl refl)

  effects_alike : (port : ℕ) (i : Instruction) → AreAlike (effect port i (settled m)) (effect port i m)
  effects_alike port (instruction.Operate op d b) =
      behind_alike (instruction.Operate op d b) (operated op d b (settled m)) (operated op d b m)
      (operated_alike op d b)
  effects_alike port (instruction.BranchExchange r) = exchanged_alike (m.register r)
  effects_alike port (instruction.Load t a n) = loading_alike (instruction.Load t a n) t (word (m.register a + n))
  effects_alike port (instruction.Store t a n) =
      storing_alike port (instruction.Store t a n) t (word (m.register a + n))
  effects_alike port (instruction.LoadStack t n) =
      loading_alike (instruction.LoadStack t n) t (word (m.register 13 + n))
  effects_alike port (instruction.StoreStack t n) =
      storing_alike port (instruction.StoreStack t n) t (word (m.register 13 + n))
  effects_alike port (instruction.LoadWide t a n) =
      loading_alike (instruction.LoadWide t a n) t (word (m.register a + n))
  effects_alike port (instruction.StoreWide t a n) =
      storing_alike port (instruction.StoreWide t a n) t (word (m.register a + n))
  effects_alike port (instruction.LoadIndexed t a x) =
      loading_alike (instruction.LoadIndexed t a x) t (word (m.register a + m.register x * 4))
  effects_alike port (instruction.StoreIndexed t a x) =
      storing_alike port (instruction.StoreIndexed t a x) t (word (m.register a + m.register x * 4))
  effects_alike port (instruction.WriteSpecial special.PriorityMask a) = refl
  effects_alike port (instruction.WriteSpecial special.BasePriority a) = refl
  effects_alike port (instruction.ReadSpecial d special.PriorityMask) = refl
  effects_alike port (instruction.ReadSpecial d special.BasePriority) = refl
  effects_alike port (instruction.BranchIf c x) =
      either (holds c m.flags) (branched x (settled m)) (behind (instruction.BranchIf c x) (settled m)) (branched x m)
      (behind (instruction.BranchIf c x) m) refl refl
  effects_alike port i = refl

  executing_alike : (port : ℕ) (o : Option Instruction) → AreAlike (executing port (settled m) o) (executing port m o)
  executing_alike port None = refl
  executing_alike port (Some i) = effects_alike port i

  going_alike : (p : Program) (o : Option ℕ) → AreAlike (going p (settled m) o) (going p m o)
  going_alike p None = executing_alike p.port (p.code m.address)
  going_alike p (Some e) = refl

  step_alike : (p : Program) (event : Event) → AreAlike (step p (settled m) event) (step p m event)
  step_alike p (Arrives irq) = refl
  step_alike p Ticks = refl
  step_alike p (Changes address value) = refl
  step_alike p Goes = going_alike p (taken m)
  step_alike p GoesLate = executing_alike p.port (p.code m.address)

pub nothing_else_depends_on_it : NothingElseDependsOnIt
nothing_else_depends_on_it p m event = step_alike m p event
