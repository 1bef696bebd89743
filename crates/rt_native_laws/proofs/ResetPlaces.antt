-- Where the code of reset lies, in its two parts.
use Rattle.std.proofs.Common.{◌≡◌, ◌∙◌, ℕ, ◌+◌, List, [], ◌∷◌, ◌++◌, refl, sym, ap, subst, arith}
use Rattle.std.specs.Prelude.{slice_index}
use Rattle.rt_code.specs.Image.{Image}
use Rattle.rt_native.specs.Layout.{code_at, fault_at, load_at, outside, places, places_from, reset_at, sizes_from}
use Rattle.rt_native.specs.Layout.{stub_places}
use Rattle.rt_native.specs.Pieces.{bytes_of}
use Rattle.rt_native.specs.Program.{sequences_from}
use Rattle.rt_native.specs.Service.{entrances_from, fault, reset, tick, timer_irq}
use Rattle.rt_native.specs.Target.{Target}
use Rattle.rt_native.proofs.Places.{joined, reset_begins, reset_bytes}
use Rattle.rt_priorities.specs.Lying.{LieFrom}
use Rattle.rt_priorities.specs.Setting.{first_part}
use Rattle.rt_priorities.specs.Vectors.{IsLoaded}
use Rattle.rt_priorities.proofs.Lying.{lie_front, lie_behind}
use Rattle.rt_thumb.specs.Machine.{Machine}
use Rattle.rt_thumb.specs.Step.{Program}
use Rattle.rt_thumb.specs.declared.instruction.Instruction.{Instruction}
use Rattle.rt_native_laws.specs.Own.{Spans}
use Rattle.rt_native_laws.specs.Resetting.{second_part}
use Rattle.rt_native_laws.proofs.Loading.{spans_of}
use Rattle.rt_native_laws.proofs.Resetting.{reset_has_two_parts}

-- the first of some places
pub first_place : (from : ℕ) (sizes : List ℕ) → slice_index (places_from from sizes) 0 ≡ from
first_place from [] = refl
first_place from (s ∷ sizes) = refl

module _ (img : Image) (target : Target) (p : Program) (m : Machine) (loaded : IsLoaded img target p m) where
  abbrev begun : List Instruction
  begun = reset (outside img target) target.tick img (load_at img target)

  abbrev served : List Instruction
  served = tick (outside img target) (timer_irq img.code)

  abbrev stubs : List Instruction
  stubs = entrances_from (outside img target) target (places img target) (stub_places img target) 0 img.irqs

  begins : fault_at img target + bytes_of (fault ++ served ++ stubs) ≡ reset_at img target
  begins =
      omega (arith, joined (fault ++ served) stubs, joined fault served, reset_begins img target)

  pub begun_lies : LieFrom p (reset_at img target) begun
  begun_lies =
      subst (λ (a : ℕ). LieFrom p a begun) begins
      (lie_behind p (fault ++ served ++ stubs) begun (fault_at img target)
      (lie_front p (fault ++ served ++ stubs ++ begun) (sequences_from img target 0 img.code) (fault_at img target)
      loaded.code))

-- what lies there, by its parts
module _ (img : Image) (target : Target) (p : Program)
    (lies : LieFrom p (reset_at img target) (reset (outside img target) target.tick img (load_at img target))) where
  abbrev first : List Instruction
  first = first_part img

  abbrev second : List Instruction
  second = second_part (outside img target) target.tick img (load_at img target)

  parts_lie : LieFrom p (reset_at img target) (first ++ second)
  parts_lie =
      subst (LieFrom p (reset_at img target))
      (reset_has_two_parts (outside img target) target.tick img (load_at img target)) lies

  pub first_lies : LieFrom p (reset_at img target) first
  first_lies = lie_front p first second (reset_at img target) parts_lie

  both_end : reset_at img target + bytes_of (first ++ second) ≡ code_at img target
  both_end =
      ap (λ (is : List Instruction). reset_at img target + bytes_of is)
      (sym (reset_has_two_parts (outside img target) target.tick img (load_at img target)))
      ∙ ap (λ (n : ℕ). reset_at img target + n)
      (reset_bytes (outside img target) target.tick img (load_at img target) 0)

  pub second_spans : Spans p (reset_at img target + bytes_of first) second (slice_index (places img target) 0)
  second_spans =
      spans_of p second (reset_at img target + bytes_of first) (slice_index (places img target) 0)
      (omega (
        arith,
        joined first second,
        both_end,
        first_place (code_at img target) (sizes_from img target 0 img.code),
      ))
      (lie_behind p first second (reset_at img target) parts_lie)
