-- Code that runs straight on while PRIMASK is 1.
use Rattle.std.proofs.Common.{◌≡◌, ℕ, ◌+◌, ◌*◌, ◌/◌, ◌%◌, ◌^◌, ◌==◌, ◌&&◌, Bool, true, false, nat_le, nat_lt, min, List}
use Rattle.std.proofs.Common.{[], ◌∷◌, ◌++◌, flat_map, Option, Some, None, if◌then◌else◌, refl, sym, ap, subst, ◌∙◌}
use Rattle.std.proofs.Common.{arith, add-zero}
use Rattle.std.specs.Prelude.{⊤}
use Rattle.std.specs.List.{AllByRecursion}
use Rattle.std.proofs.lemmas.List.Sums.{sum_by-cons}
use Rattle.std.proofs.lemmas.Option.{same_Some, none-some}
use Rattle.rt_ids.specs.Operation.{wrapped_number as word}
use Rattle.rt_lemmas.proofs.Membership.{all_append}
use Rattle.rt_code.specs.declared.image.Handler.{Handler}
use Rattle.rt_code.specs.declared.image.IrqRow.{IrqRow}
use Rattle.rt_native.specs.Pieces.{address, number, bytes_of}
use Rattle.rt_native.specs.Service.{enable, IPR, ISER}
use Rattle.rt_thumb.specs.Effect.{effect, behind, stored}
use Rattle.rt_thumb.specs.Encoding.{encode, size}
use Rattle.rt_thumb.specs.Exceptions.{least_value, execution_priority}
use Rattle.rt_thumb.specs.Machine.{Machine}
use Rattle.rt_thumb.specs.Step.{Program}
use Rattle.rt_thumb.specs.declared.instruction.Instruction.{Instruction}
use Rattle.rt_thumb.specs.declared.instruction.Instruction.TheVariants as instruction
use Rattle.rt_thumb_laws.specs.Undisturbed.{RunAtTop}
use Rattle.rt_thumb_laws.proofs.Stores.{stored_as}
use Rattle.rt_priorities.specs.Lying.{LieFrom}
use Rattle.rt_priorities.specs.Setting.{IsOutsideSystem}
use Rattle.rt_priorities.proofs.Pieces.{AllApart, in_turn, in_turn_none}

-- instructions that only advance, and leave PRIMASK
abbrev pub IsPlain : Instruction → Type 0
IsPlain (instruction.Move d n) = ⊤
IsPlain (instruction.MoveWide d n) = ⊤
IsPlain (instruction.MoveTop d n) = ⊤
IsPlain (instruction.StoreByte t a n) = ⊤
IsPlain (instruction.Store t a n) = ⊤
IsPlain i = ⊥

-- what comes of one, if anything
abbrev IsBehind : Instruction → Machine → Option Machine → Type 0
IsBehind i m None = ⊤
IsBehind i m (Some next) = (next.address ≡ m.address + size (encode i)) × (next.is_masked ≡ m.is_masked)

stored_behind : (i : Instruction) (m : Machine) (address value : ℕ) (emits posts enables : Bool)
    → IsBehind i m (behind i (stored_as emits posts enables address value m))
stored_behind i m address value true posts enables = (refl, refl)
stored_behind i m address value false true enables = (refl, refl)
stored_behind i m address value false false true = (refl, refl)
stored_behind i m address value false false false = (refl, refl)

if_behind : (i : Instruction) (m : Machine) (b : Bool) (o : Option Machine) → IsBehind i m o
    → IsBehind i m (if b then o else None)
if_behind i m true o is = is
if_behind i m false o is = tt

is_behind : (port : ℕ) (i : Instruction) (m : Machine) → IsPlain i → IsBehind i m (effect port i m)
is_behind port (instruction.Move d n) m plain = (refl, refl)
is_behind port (instruction.MoveWide d n) m plain = (refl, refl)
is_behind port (instruction.MoveTop d n) m plain = (refl, refl)
is_behind port (instruction.StoreByte t a n) m plain = (refl, refl)
is_behind port (instruction.Store t a n) m plain =
    let address = word (m.register a + n) in
    if_behind (instruction.Store t a n) m (address % 4 == 0)
    (behind (instruction.Store t a n) (stored port address (m.register t) m))
    (stored_behind (instruction.Store t a n) m address (m.register t) (address == port) (address == 0xE000EF00)
    (nat_le 0xE000E100 address && nat_lt address 0xE000E140))
is_behind port i m plain = absurd plain

-- while PRIMASK is 1 the execution priority is 0
pub masked_is_top : (m : Machine) → m.is_masked ≡ true → execution_priority m ≡ 0
masked_is_top m is =
    ap (λ b. min (least_value m m.active)
    (min (if m.base_priority == 0 then 256 else m.base_priority) (if b then 0 else 256))) is
    ∙ least (least_value m m.active) _
  where
    least : (x y : ℕ) → min x (min y 0) ≡ 0
    least x y = omega arith

-- what is executed in turn while PRIMASK is 1 runs at the execution priority 0, to where it ends
pub top_run : (p : Program) (foreign : ℕ → Bool) (outside : IsOutsideSystem foreign) (is : List Instruction)
    (m last : Machine) → AllByRecursion IsPlain is → m.is_masked ≡ true → LieFrom p m.address is
    → in_turn p.port is (Some m) ≡ Some last → AllApart p.port foreign outside is (Some m)
    → RunAtTop p foreign is m last × (last.address ≡ m.address + bytes_of is)
top_run p foreign outside [] m last plain masked code runs apart =
    let same = same_Some m last runs in (sym same, ap (λ x. x.address) (sym same) ∙ sym (add-zero m.address))
top_run p foreign outside (i ∷ is) m last plain masked code runs apart =
    by (effect p.port i m) refl (is_behind p.port i m plain.0)
    (λ next. top_run p foreign outside is next last plain.1)
  where
    joined : (a b d : ℕ) → a + b + d ≡ a + (b + d)
    joined a b d = omega arith

    by : (o : Option Machine) → effect p.port i m ≡ o → IsBehind i m o
        → ((next : Machine) → next.is_masked ≡ true → LieFrom p next.address is
        → in_turn p.port is (Some next) ≡ Some last → AllApart p.port foreign outside is (Some next)
        → RunAtTop p foreign is next last × (last.address ≡ next.address + bytes_of is))
        → RunAtTop p foreign (i ∷ is) m last × (last.address ≡ m.address + bytes_of (i ∷ is))
    by None is_none goes more =
        absurd (none-some last (sym (in_turn_none p.port foreign outside is) ∙ (sym (ap (in_turn p.port is) is_none) ∙ runs)))
    by (Some next) is_next goes more =
        let rest = more next (goes.1 ∙ masked)
        (subst (λ a. LieFrom p a is) (sym goes.0) code.1) (sym (ap (in_turn p.port is) is_next) ∙ runs)
        (subst (AllApart p.port foreign outside is) is_next apart.1) in (
          (
            record { at_top = λ memory same. masked_is_top (record m { memory = memory }) masked; apart = apart.0 },
            code.0,
            (next, is_next, rest.0),
          ),
          rest.1 ∙ (ap (λ a. a + bytes_of is) goes.0 ∙ (joined m.address (size (encode i)) (bytes_of is)
              ∙ ap (λ n. m.address + n) (sym (sum_by-cons (λ j. size (encode j)) i is)))),
        )

-- the code of a row is such code
number_plain : (d n : ℕ) → AllByRecursion IsPlain (number d n)
unfolding number address
number_plain d n = by (nat_lt n (2 ^ 8)) (nat_lt n (2 ^ 16))
  where
    by : (a b : Bool) → AllByRecursion IsPlain (if a then instruction.Move d n ∷ []
        else if b then instruction.MoveWide d n ∷ []
        else instruction.MoveWide d (n % 2 ^ 16) ∷ instruction.MoveTop d (n / 2 ^ 16) ∷ [])
    by true b = (tt, tt)
    by false true = (tt, tt)
    by false false = (tt, (tt, tt))

store_plain : (v a : ℕ) (i : Instruction) → IsPlain i → AllByRecursion IsPlain (number 0 v ++ address 1 a ++ i ∷ [])
unfolding address
store_plain v a i plain =
    all_append IsPlain (number 0 v ++ address 1 a) (i ∷ [])
    (all_append IsPlain (number 0 v) (address 1 a) (number_plain 0 v) (tt, (tt, tt))) (plain, tt)

enable_plain : (irq : ℕ) (o : Option Handler) → AllByRecursion IsPlain (enable irq o)
unfolding enable
enable_plain irq None = tt
enable_plain irq (Some h) =
    all_append IsPlain (number 0 h.value ++ address 1 (IPR + irq) ++ instruction.StoreByte 0 1 0 ∷ [])
    (number 0 (2 ^ (irq % 32)) ++ address 1 (ISER + 4 * (irq / 32)) ++ instruction.Store 0 1 0 ∷ [])
    (store_plain h.value (IPR + irq) (instruction.StoreByte 0 1 0) tt)
    (store_plain (2 ^ (irq % 32)) (ISER + 4 * (irq / 32)) (instruction.Store 0 1 0) tt)

pub rows_plain : (rows : List IrqRow) → AllByRecursion IsPlain (flat_map (λ row. enable row.number row.handler) rows)
rows_plain [] = tt
rows_plain (row ∷ rows) =
    all_append IsPlain (enable row.number row.handler) (flat_map (λ r. enable r.number r.handler) rows)
    (enable_plain row.number row.handler) (rows_plain rows)
