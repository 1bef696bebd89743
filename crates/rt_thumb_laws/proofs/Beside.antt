-- An instruction that leaves a word of memory alone does the same whatever the word is.
use Rattle.std.proofs.Common.{◌≡◌, ◌≢◌, ℕ, ◌+◌, ◌-◌, ◌*◌, ◌/◌, ◌%◌, ◌^◌, ◌<◌, ◌≤◌, ◌==◌, ◌&&◌, not, Bool, true, false, nat_le}
use Rattle.std.proofs.Common.{nat_lt, nat_eq, ◌∷◌, Option, Some, None, option_map, if◌then◌else◌}
use Rattle.std.proofs.Common.{refl, sym, ap, ◌∙◌, arith}
use Rattle.std.specs.List.{filter}
use Rattle.std.specs.Prelude.{bit_or}
use Rattle.std.proofs.lemmas.Bool.{eqb-true, leb-true, ltb-true, ne_eqb}
use mathlib.Core.Path.{fun_ext}
use Rattle.rt_ids.specs.Operation.{wrapped_number as word}
use Rattle.rt_thumb.specs.Effect.{effect, operated, holds, branched, behind, loading, stored, storing, exchanged}
use Rattle.rt_thumb.specs.Exceptions.{even, flags_of, popped, returned, return_to_thread, return_to_handler}
use Rattle.rt_thumb.specs.Machine.{Machine, Returned, word_at, with_byte, with_register, with_word}
use Rattle.rt_thumb.specs.declared.instruction.Operation.{Operation}
use Rattle.rt_thumb.specs.declared.instruction.Operation.TheVariants as operation
use Rattle.rt_thumb.specs.declared.instruction.Special.TheVariants as special
use Rattle.rt_thumb.specs.declared.instruction.Instruction.{Instruction}
use Rattle.rt_thumb.specs.declared.instruction.Instruction.TheVariants as instruction
use Rattle.rt_thumb_laws.specs.Undisturbed.{IsApartFrom}
use Rattle.rt_thumb_laws.proofs.Stores.{stored_as}

either : (b : Bool) (f : Machine → Machine) (x y v w : Option Machine) → x ≡ option_map f v → y ≡ option_map f w
    → (if b then x else y) ≡ option_map f (if b then v else w)
either true f x y v w h k = h
either false f x y v w h k = k

-- a machine after a return, of the words that were popped
abbrev popped_so : (ℕ → ℕ) → ℕ → ℕ → Machine → Machine
popped_so register address status m = record m {
  register = register;
  address = even address;
  flags = flags_of status;
  exception = status % 2 ^ 9;
  active = filter (λ e. not (nat_eq e m.exception)) m.active;
  is_unsettled = false;
  seen = Returned m.exception ∷ m.seen;
}

-- the registers then
abbrev registers_of : (ℕ → ℕ) → Machine → ℕ → ℕ
registers_of stacked m k =
    if nat_lt k 4 then stacked k
    else if k == 12 then stacked 4
    else if k == 13 then m.register 13 + 32 + 4 * (stacked 7 / 2 ^ 9 % 2)
    else if k == 14 then stacked 5
    else m.register k

-- memory with two other words
abbrev with_two : (ℕ → ℕ) → ℕ → ℕ → ℕ → ℕ → ℕ → ℕ
with_two memory x v y w k = if k == x then v else if k == y then w else memory k

module _ (a w : ℕ) (m : Machine) where
  abbrev with_it : Machine → Machine
  with_it = with_word a w

  -- a word elsewhere is as it was
  pub word_beside : (address : ℕ) → a / 4 ≢ address / 4 → word_at (with_it m) address ≡ word_at m address
  word_beside address apart =
      ap (λ b. if b then w else word_at m address) (ne_eqb (address / 4) (a / 4) (λ e. apart (sym e)))

  -- two words are written in either order
  two_words : (memory : ℕ → ℕ) (address v : ℕ) → a / 4 ≢ address / 4
      → with_two memory (address / 4) v (a / 4) w ≡ with_two memory (a / 4) w (address / 4) v
  two_words memory address v apart = fun_ext (λ k. by k (k == address / 4) (k == a / 4) refl refl)
    where
      by : (k : ℕ) (b d : Bool) → (k == address / 4) ≡ b → (k == a / 4) ≡ d
          → (if b then v else if d then w else memory k) ≡ (if d then w else if b then v else memory k)
      by k true true e f = absurd (apart (sym (eqb-true k (a / 4) f) ∙ eqb-true k (address / 4) e))
      by k true false e f = refl
      by k false true e f = refl
      by k false false e f = refl

  put_beside : (address v : ℕ) → a / 4 ≢ address / 4
      → with_word address v (with_it m) ≡ with_it (with_word address v m)
  put_beside address v apart =
      ap (λ (memory : ℕ → ℕ). record m { memory = memory }) (two_words m.memory address v apart)

  stored_beside : (address value : ℕ) (emits posts enables : Bool) → a / 4 ≢ address / 4
      → stored_as emits posts enables address value (with_it m)
      ≡ with_it (stored_as emits posts enables address value m)
  stored_beside address value true posts enables apart = refl
  stored_beside address value false true enables apart = refl
  stored_beside address value false false true apart =
      ap (λ (old : ℕ). record (with_word address (bit_or old value) (with_it m)) { is_unsettled = true })
      (word_beside address apart)
      ∙ ap (λ (x : Machine). record x { is_unsettled = true })
      (put_beside address (bit_or (word_at m address) value) apart)
  stored_beside address value false false false apart = put_beside address value apart

  storing_beside : (port : ℕ) (i : Instruction) (t address : ℕ) → a / 4 ≢ address / 4
      → storing port i t address (with_it m) ≡ option_map with_it (storing port i t address m)
  storing_beside port i t address apart =
      either (address % 4 == 0) with_it (behind i (stored port address (m.register t) (with_it m))) None
      (behind i (stored port address (m.register t) m)) None
      (ap (behind i) (stored_beside address (m.register t) (address == port) (address == 0xE000EF00)
      (nat_le 0xE000E100 address && nat_lt address 0xE000E140) apart))
      refl

  byte_beside : (i : Instruction) (address value : ℕ) → a / 4 ≢ address / 4
      → behind i (with_byte address value (with_it m)) ≡ option_map with_it (behind i (with_byte address value m))
  byte_beside i address value apart =
      let unit = 2 ^ (8 * (address % 4)) in
      ap (λ (old : ℕ). behind i (with_word address (old - old / unit % 2 ^ 8 * unit + value % 2 ^ 8 * unit) (with_it m)))
      (word_beside address apart)
      ∙ ap (behind i) (put_beside address
      (word_at m address - word_at m address / unit % 2 ^ 8 * unit + value % 2 ^ 8 * unit) apart)

  loading_beside : (i : Instruction) (t address : ℕ) → a / 4 ≢ address / 4
      → loading i t address (with_it m) ≡ option_map with_it (loading i t address m)
  loading_beside i t address apart =
      either (address % 4 == 0) with_it (behind i (with_register t (word_at (with_it m) address) (with_it m))) None
      (behind i (with_register t (word_at m address) m)) None
      (ap (λ (v : ℕ). behind i (with_register t v (with_it m))) (word_beside address apart))
      refl

  -- a branch to an address in a register
  abbrev jumped : ℕ → Machine → Option Machine
  jumped value k = if value % 2 == 1 then Some (record k { address = even value }) else None

  jumped_beside : (value : ℕ) → jumped value (with_it m) ≡ option_map with_it (jumped value m)
  jumped_beside value =
      either (value % 2 == 1) with_it (Some (record (with_it m) { address = even value })) None
      (Some (record m { address = even value })) None refl refl

  module _ (apart : (j : ℕ) → j < 8 → a / 4 ≢ (m.register 13 + 4 * j) / 4) where
    abbrev stacked : ℕ → ℕ
    stacked j = word_at m (m.register 13 + 4 * j)

    abbrev stacked_then : ℕ → ℕ
    stacked_then j = word_at (with_it m) (m.register 13 + 4 * j)

    same_stacked : (j : ℕ) → j < 8 → stacked_then j ≡ stacked j
    same_stacked j low = word_beside (m.register 13 + 4 * j) (apart j low)

    same_registers : registers_of stacked_then m ≡ registers_of stacked m
    same_registers = fun_ext (λ k. by k (nat_lt k 4) refl)
      where
        others : (k : ℕ)
            → (if k == 12 then stacked_then 4
            else if k == 13 then m.register 13 + 32 + 4 * (stacked_then 7 / 2 ^ 9 % 2)
            else if k == 14 then stacked_then 5
            else m.register k)
            ≡ (if k == 12 then stacked 4
            else if k == 13 then m.register 13 + 32 + 4 * (stacked 7 / 2 ^ 9 % 2)
            else if k == 14 then stacked 5
            else m.register k)
        others k =
            ap (λ (x : ℕ). if k == 12 then x
            else if k == 13 then m.register 13 + 32 + 4 * (stacked_then 7 / 2 ^ 9 % 2)
            else if k == 14 then stacked_then 5
            else m.register k) (same_stacked 4 (omega arith))
            ∙ (ap (λ (x : ℕ). if k == 12 then stacked 4
            else if k == 13 then m.register 13 + 32 + 4 * (x / 2 ^ 9 % 2)
            else if k == 14 then stacked_then 5
            else m.register k) (same_stacked 7 (omega arith))
            ∙ ap (λ (x : ℕ). if k == 12 then stacked 4
            else if k == 13 then m.register 13 + 32 + 4 * (stacked 7 / 2 ^ 9 % 2)
            else if k == 14 then x
            else m.register k) (same_stacked 5 (omega arith)))

        by : (k : ℕ) (b : Bool) → nat_lt k 4 ≡ b
            → registers_of stacked_then m k ≡ registers_of stacked m k
        by k true e =
            let low = ltb-true k 4 e in
            ap (λ (b : Bool). if b then stacked_then k else if k == 12 then stacked_then 4
            else if k == 13 then m.register 13 + 32 + 4 * (stacked_then 7 / 2 ^ 9 % 2)
            else if k == 14 then stacked_then 5
            else m.register k) e
            ∙ (same_stacked k (omega (arith, low))
            ∙ sym (ap (λ (b : Bool). if b then stacked k else if k == 12 then stacked 4
            else if k == 13 then m.register 13 + 32 + 4 * (stacked 7 / 2 ^ 9 % 2)
            else if k == 14 then stacked 5
            else m.register k) e))
        by k false e =
            ap (λ (b : Bool). if b then stacked_then k else if k == 12 then stacked_then 4
            else if k == 13 then m.register 13 + 32 + 4 * (stacked_then 7 / 2 ^ 9 % 2)
            else if k == 14 then stacked_then 5
            else m.register k) e
            ∙ (others k
            ∙ sym (ap (λ (b : Bool). if b then stacked k else if k == 12 then stacked 4
            else if k == 13 then m.register 13 + 32 + 4 * (stacked 7 / 2 ^ 9 % 2)
            else if k == 14 then stacked 5
            else m.register k) e))

    popped_beside : popped (with_it m) ≡ with_it (popped m)
    popped_beside =
        ap (λ (r : ℕ → ℕ). popped_so r (stacked_then 6) (stacked_then 7) (with_it m)) same_registers
        ∙ (ap (λ (x : ℕ). popped_so (registers_of stacked m) x (stacked_then 7) (with_it m))
        (same_stacked 6 (omega arith))
        ∙ ap (λ (x : ℕ). popped_so (registers_of stacked m) (stacked 6) x (with_it m))
        (same_stacked 7 (omega arith)))

    returned_beside : (value : ℕ) → returned value (with_it m) ≡ option_map with_it (returned value m)
    returned_beside value =
        ap (λ (x : Machine). if (value == return_to_thread) && (x.exception == 0) then Some x
        else if (value == return_to_handler) && not (nat_eq x.exception 0) then Some x
        else None) popped_beside
        ∙ either ((value == return_to_thread) && ((popped m).exception == 0)) with_it (Some (with_it (popped m)))
        (if (value == return_to_handler) && not (nat_eq (popped m).exception 0) then Some (with_it (popped m))
        else None) (Some (popped m))
        (if (value == return_to_handler) && not (nat_eq (popped m).exception 0) then Some (popped m) else None) refl
        (either ((value == return_to_handler) && not (nat_eq (popped m).exception 0)) with_it
        (Some (with_it (popped m))) None (Some (popped m)) None refl refl)

    exchanged_beside : (value : ℕ) → exchanged value (with_it m) ≡ option_map with_it (exchanged value m)
    exchanged_beside value =
        either (nat_le 0xF0000000 value && not (m.exception == 0)) with_it (returned value (with_it m))
        (jumped value (with_it m)) (returned value m) (jumped value m) (returned_beside value) (jumped_beside value)

  -- where it is no return the frame is not read
  exchanged_by : (value : ℕ) (b : Bool) → nat_le 0xF0000000 value ≡ b
      → (0xF0000000 ≤ value → (j : ℕ) → j < 8 → a / 4 ≢ (m.register 13 + 4 * j) / 4)
      → exchanged value (with_it m) ≡ option_map with_it (exchanged value m)
  exchanged_by value true e apart = exchanged_beside (apart (leb-true 0xF0000000 value e)) value
  exchanged_by value false e apart =
      ap (λ (b : Bool). if b && not (m.exception == 0) then returned value (with_it m) else jumped value (with_it m)) e
      ∙ (jumped_beside value
      ∙ sym (ap (λ (b : Bool). option_map with_it (if b && not (m.exception == 0) then returned value m
      else jumped value m)) e))

  operated_beside : (op : Operation) (d b : ℕ) → operated op d b (with_it m) ≡ with_it (operated op d b m)
  operated_beside operation.And d b = refl
  operated_beside operation.ExclusiveOr d b = refl
  operated_beside operation.ShiftLeft d b = refl
  operated_beside operation.ShiftRight d b = refl
  operated_beside operation.AddWithCarry d b = refl
  operated_beside operation.SubtractWithCarry d b = refl
  operated_beside operation.Negate d b = refl
  operated_beside operation.Compare d b = refl
  operated_beside operation.Or d b = refl
  operated_beside operation.Multiply d b = refl

  pub effects_beside : (port : ℕ) (i : Instruction) → IsApartFrom (a / 4) i m
      → effect port i (with_it m) ≡ option_map with_it (effect port i m)
  effects_beside port (instruction.Operate op d b) h =
      ap (behind (instruction.Operate op d b)) (operated_beside op d b)
  effects_beside port (instruction.BranchExchange r) h =
      exchanged_by (m.register r) (nat_le 0xF0000000 (m.register r)) refl h
  effects_beside port (instruction.Load t x n) h =
      loading_beside (instruction.Load t x n) t (word (m.register x + n)) h
  effects_beside port (instruction.Store t x n) h =
      storing_beside port (instruction.Store t x n) t (word (m.register x + n)) h
  effects_beside port (instruction.StoreByte t x n) h =
      byte_beside (instruction.StoreByte t x n) (word (m.register x + n)) (m.register t) h
  effects_beside port (instruction.LoadStack t n) h =
      loading_beside (instruction.LoadStack t n) t (word (m.register 13 + n)) h
  effects_beside port (instruction.StoreStack t n) h =
      storing_beside port (instruction.StoreStack t n) t (word (m.register 13 + n)) h
  effects_beside port (instruction.LoadWide t x n) h =
      loading_beside (instruction.LoadWide t x n) t (word (m.register x + n)) h
  effects_beside port (instruction.StoreWide t x n) h =
      storing_beside port (instruction.StoreWide t x n) t (word (m.register x + n)) h
  effects_beside port (instruction.LoadIndexed t x y) h =
      loading_beside (instruction.LoadIndexed t x y) t (word (m.register x + m.register y * 4)) h
  effects_beside port (instruction.StoreIndexed t x y) h =
      storing_beside port (instruction.StoreIndexed t x y) t (word (m.register x + m.register y * 4)) h
  effects_beside port instruction.EnableInterrupts h = absurd h
  effects_beside port instruction.DisableInterrupts h = absurd h
  effects_beside port (instruction.WriteSpecial s x) h = absurd h
  effects_beside port (instruction.ReadSpecial d special.PriorityMask) h = refl
  effects_beside port (instruction.ReadSpecial d special.BasePriority) h = refl
  effects_beside port (instruction.BranchIf c x) h =
      either (holds c m.flags) with_it (branched x (with_it m)) (behind (instruction.BranchIf c x) (with_it m))
      (branched x m) (behind (instruction.BranchIf c x) m) refl refl
  effects_beside port i h = refl

  -- it leaves another word alone as before
  pub apart_then : (k : ℕ) (i : Instruction) → IsApartFrom k i m → IsApartFrom k i (with_it m)
  apart_then k (instruction.Load t x n) h = h
  apart_then k i h = h
