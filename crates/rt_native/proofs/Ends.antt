-- Where the parts of a program end in flash: each no further than the next one.
use Rattle.std.proofs.Common.{◌≡◌, ◌≢◌, ◌∙◌, ℕ, ◌+◌, ◌<◌, ◌≤◌, List, [], ◌∷◌, Option, suc, ap, sym, refl}
use Rattle.std.proofs.Common.{sum, length, map, sum_by, slice_index, get_or, drop, add-zero, add_assoc, arith}
use Rattle.std.proofs.lemmas.List.{length-map}
use Rattle.std.proofs.lemmas.List.Sums.{sum_by-cons, sum-map}
use Rattle.rt_lemmas.proofs.Lists.{drop_as_cons}
use Rattle.rt_code.specs.Image.{Image}
use Rattle.rt_code.specs.declared.image.IrqRow.{IrqRow}
use Rattle.rt_code.specs.declared.instr.Instr.{Instr}
use Rattle.rt_code.specs.declared.instr.Note.{Note}
use Rattle.rt_native.specs.Fitting.{HasLines, FitsRam, IsUnfit}
use Rattle.rt_native.specs.Inside.Laid.{IsTooLong, Laid, laid_out}
use Rattle.rt_native.specs.Layout.{outside, places_from, sizes_from, fault_at, tick_at}
use Rattle.rt_native.specs.Layout.{stubs_at, reset_at, code_at, code_end, load_at, flash_end, in_words, values_size}
use Rattle.rt_native.specs.Pieces.{bytes_of}
use Rattle.rt_native.specs.Sequences.{sequence}
use Rattle.rt_native.specs.Service.{fault, entrance_size}
use Rattle.rt_native.specs.Target.{Target}
use Rattle.rt_native.specs.declared.target.Unfit.{Unfit}
use Rattle.rt_native.specs.declared.target.Unfit.TheVariants as unfit

-- the place behind the last of some sizes
pub last_place : (p : ℕ) (sizes : List ℕ) → slice_index (places_from p sizes) (length sizes) ≡ p + sum sizes
last_place p [] = sym (add-zero p)
last_place p (s ∷ sizes) =
    last_place (p + s) sizes ∙ (add_assoc p s (sum sizes) ∙ ap (λ n. p + n) (sym (sum_by-cons (λ x. x) s sizes)))

-- one size for each instruction
length_sizes : (img : Image) (target : Target) (n : ℕ) (lines : List (Instr × Option Note))
    → length (sizes_from img target n lines) ≡ length lines
length_sizes img target n [] = refl
length_sizes img target n (line ∷ lines) = ap (λ k. suc k) (length_sizes img target (n + 1) lines)

-- the sizes of the instructions that are left: of the next one, and of those behind it
pub sizes_next : (img : Image) (target : Target) (n i : ℕ) (lines : List (Instr × Option Note))
    (line : Instr × Option Note) → i < length lines → line ≡ get_or lines i line
    → sum (sizes_from img target n (drop i lines))
    ≡ bytes_of (sequence (outside img target) img [] n line.0)
    + sum (sizes_from img target (n + 1) (drop (i + 1) lines))
sizes_next img target n i lines line below is =
    ap (λ rest. sum (sizes_from img target n rest)) (drop_as_cons lines i line below is)
    ∙ sum_by-cons (λ x. x) (bytes_of (sequence (outside img target) img [] n line.0))
    (sizes_from img target (n + 1) (drop (i + 1) lines))

-- where the code of all instructions ends, from a place on
pub sizes_end : (img : Image) (target : Target) (place n : ℕ) → n ≡ length img.code
    → slice_index (places_from place (sizes_from img target 0 img.code)) n
    ≡ place + sum (sizes_from img target 0 img.code)
sizes_end img target place n e =
    ap (λ k. slice_index (places_from place (sizes_from img target 0 img.code)) k)
    (e ∙ sym (length_sizes img target 0 img.code))
    ∙ last_place place (sizes_from img target 0 img.code)

-- where what runs first as interrupts are taken ends, from a place on
pub rows_end : (place n : ℕ) (size : IrqRow → ℕ) (rows : List IrqRow) → n ≡ length rows
    → slice_index (places_from place (map size rows)) n ≡ place + sum_by size rows
rows_end place n size rows e =
    ap (λ k. slice_index (places_from place (map size rows)) k) (e ∙ sym (length-map rows size))
    ∙ (last_place place (map size rows) ∙ ap (λ k. place + k) (sum-map size rows))

-- where the code ends
pub code_end_is : (img : Image) (target : Target)
    → code_end img target ≡ code_at img target + sum (sizes_from img target 0 img.code)
code_end_is img target = sizes_end img target (code_at img target) (length img.code) refl

-- where what runs first as interrupts are taken ends
pub reset_at_is : (img : Image) (target : Target)
    → reset_at img target ≡ stubs_at img target + sum_by (entrance_size (outside img target) target) img.irqs
reset_at_is img target =
    rows_end (stubs_at img target) (length img.irqs) (entrance_size (outside img target) target) img.irqs refl

-- a multiple of 4 that is no less
in_words_above : (n : ℕ) → n ≤ in_words n
in_words_above n = omega arith

-- what serves faults has four bytes
pub fault_bytes : bytes_of fault ≡ 4
unfolding fault
fault_bytes = refl

-- each part ends no further than the program
pub record Ends (img : Image) (target : Target) : Type 0 where
  pub load : load_at img target + values_size img target ≡ flash_end img target
  pub code : code_end img target ≤ load_at img target
  pub start : code_at img target ≤ code_end img target
  pub reset : reset_at img target ≤ code_at img target
  pub stubs : stubs_at img target ≤ reset_at img target
  pub tick : tick_at img target ≤ stubs_at img target
  pub fault : fault_at img target ≤ tick_at img target

pub ends : (img : Image) (target : Target) → Ends img target
ends img target = record {
  load = refl;
  code = in_words_above (code_end img target);
  start = omega (arith, code_end_is img target);
  reset = omega arith;
  stubs = omega (arith, reset_at_is img target);
  tick = omega arith;
  fault = omega arith;
}

-- a part that ends past the flash is a reason
pub is_too_long : (img : Image) (target : Target) (why : Unfit) (place end : ℕ)
    → (why ≢ unfit.NoMemory → (why ≡ unfit.Flash) × (end < place)) → place ≤ flash_end img target
    → end ≡ target.flash.address + target.flash.size → IsTooLong img target why
is_too_long img target why place end h within is = λ memory.
    let cause = h memory in
    (cause.0, λ fits. omega (arith, cause.1, fits))

-- the same, where lines and RAM suffice
pub is_unfit : (img : Image) (target : Target) (why : Unfit) → HasLines img target → FitsRam img target
    → IsTooLong img target why → IsUnfit img target why
is_unfit img target unfit.Line lines ram h = let wrong : unfit.Line ≡ unfit.Flash = (h (λ e. cc)).0 in absurd (cc)
is_unfit img target unfit.Ram lines ram h = let wrong : unfit.Ram ≡ unfit.Flash = (h (λ e. cc)).0 in absurd (cc)
is_unfit img target unfit.Flash lines ram h = (lines, ram, (h (λ e. cc)).1)
is_unfit img target unfit.Reach lines ram h = let wrong : unfit.Reach ≡ unfit.Flash = (h (λ e. cc)).0 in absurd (cc)
is_unfit img target unfit.File lines ram h = let wrong : unfit.File ≡ unfit.Flash = (h (λ e. cc)).0 in absurd (cc)
is_unfit img target unfit.NoMemory lines ram h = tt

-- the bytes of 0 behind the code
pub laid_order : (img : Image) (target : Target) (laid : Laid) → laid ≡ laid_out img target → laid.end ≤ laid.load
laid_order img target laid e =
    let end : laid.end ≡ code_end img target = ap (λ l. l.end) e in
    let load : laid.load ≡ load_at img target = ap (λ l. l.load) e in
    let above : code_end img target ≤ load_at img target = in_words_above (code_end img target) in
    omega arith
