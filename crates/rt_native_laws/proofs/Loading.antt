-- Where a program lies in flash.
use Rattle.std.proofs.Common.{◌≡◌, ◌∙◌, ℕ, zero, suc, ◌+◌, ◌%◌, ◌<◌, List, [], ◌∷◌, ◌++◌, Option, Some}
use Rattle.std.proofs.Common.{None, sum_by, refl, sym, ap, subst, arith}
use Rattle.std.specs.Prelude.{slice_get, slice_index}
use Rattle.std.proofs.lemmas.List.Sums.{sum_by-cons}
use Rattle.rt_code.specs.Image.{Image}
use Rattle.rt_code.specs.Runnable.{HaveNumbersApart}
use Rattle.rt_code.specs.declared.image.Handler.{Handler}
use Rattle.rt_code.specs.declared.image.IrqRow.{IrqRow}
use Rattle.rt_code.specs.declared.instr.Instr.{Instr}
use Rattle.rt_code.specs.declared.instr.Note.{Note}
use Rattle.rt_native.specs.Layout.{outside, places, places_from, sizes_from, stub_places, code_at, fault_at}
use Rattle.rt_native.specs.Layout.{reset_at}
use Rattle.rt_native.specs.Pieces.{bytes_of}
use Rattle.rt_native.specs.Program.{instructions}
use Rattle.rt_native.specs.Sequences.{sequence}
use Rattle.rt_native.specs.Service.{entrance, entrance_size, fault, first_call, handler_size, opening, reset, tick}
use Rattle.rt_native.specs.Service.{timer_irq}
use Rattle.rt_native.specs.Target.{Target}
use Rattle.rt_native.specs.declared.outside.Outside.{Outside}
use Rattle.rt_native.specs.declared.target.Input.{Input}
use Rattle.rt_native.proofs.Ends.{code_end_is, ends, reset_at_is}
use Rattle.rt_native.proofs.Places.{code_has_its_places, stubs_have_their_places}
use Rattle.rt_priorities.specs.Lying.{LieFrom}
use Rattle.rt_priorities.specs.Vectors.{IsLoaded}
use Rattle.rt_priorities.proofs.Lying.{lie_front, lie_behind}
use Rattle.rt_priorities.proofs.Vectors.{bytes_even, entries_lead_to_their_code, place_within}
use Rattle.rt_thumb.specs.Encoding.{encode, size}
use Rattle.rt_thumb.specs.Exceptions.{external, entered}
use Rattle.rt_thumb.specs.Machine.{Machine}
use Rattle.rt_thumb.specs.Step.{Program}
use Rattle.rt_thumb.specs.declared.instruction.Instruction.{Instruction}
use Rattle.rt_native_laws.specs.Going.{HasCode}
use Rattle.rt_native_laws.specs.Loading.{IsExecuted, LoadedCodeIsThere, LoadedEntriesLead}
use Rattle.rt_native_laws.specs.Own.{Spans}

-- code that lies up to where it ends
pub spans_of : (p : Program) (xs : List Instruction) (from to : ℕ) → from + bytes_of xs ≡ to → LieFrom p from xs
    → Spans p from xs to
spans_of p [] from to e lies = sym e ∙ omega arith
spans_of p (x ∷ xs) from to e lies =
    let one = sum_by-cons (λ j. size (encode j)) x xs in
    (lies.0, spans_of p xs (from + size (encode x)) to (omega (arith, one, e)) lies.1)

-- places are even where sizes are
even_places : (sizes : List ℕ) → ((k : ℕ) → slice_index sizes k % 2 ≡ 0) → (from : ℕ) → from % 2 ≡ 0
    → (k : ℕ) → slice_index (places_from from sizes) k % 2 ≡ 0
even_places [] all from z zero = z
even_places [] all from z (suc k) = refl
even_places (s ∷ sizes) all from z zero = z
even_places (s ∷ sizes) all from z (suc k) =
    even_places sizes (λ j. all (suc j)) (from + s) (omega (arith, z, all 0)) k

even_sizes : (img : Image) (target : Target) (n : ℕ) (lines : List (Instr × Option Note)) (k : ℕ)
    → slice_index (sizes_from img target n lines) k % 2 ≡ 0
even_sizes img target n [] k = refl
even_sizes img target n (line ∷ lines) zero =
    bytes_even (sequence (outside img target) img [] n line.0)
even_sizes img target n (line ∷ lines) (suc k) = even_sizes img target (n + 1) lines k

-- what runs first as interrupts are taken has an even number of bytes
handler_even : (at : Outside) (inputs : List Input) (irq : ℕ) (h : Option Handler)
    → handler_size at inputs irq h % 2 ≡ 0
handler_even at inputs irq None = refl
handler_even at inputs irq (Some h) = omega (arith, bytes_even (opening at inputs irq h))

rows_even : (at : Outside) (target : Target) (rows : List IrqRow)
    → sum_by (entrance_size at target) rows % 2 ≡ 0
rows_even at target [] = refl
rows_even at target (row ∷ rows) =
    let all = sum_by-cons (entrance_size at target) row rows in
    omega (
      arith,
      all,
      bytes_even (first_call target.calls row.number row.handler),
      handler_even at target.inputs row.number row.handler,
      rows_even at target rows,
    )

module _ (img : Image) (target : Target) (p : Program) (m : Machine) (loaded : IsLoaded img target p m) where
  -- a part of the instructions lies at its place
  part_lies : (before code after : List Instruction) (begin : ℕ)
      → instructions img target ≡ before ++ (code ++ after) → fault_at img target + bytes_of before ≡ begin
      → LieFrom p begin code
  part_lies before code after begin parts e =
      lie_front p code after begin
      (subst (λ (n : ℕ). LieFrom p n (code ++ after)) e
      (lie_behind p before (code ++ after) (fault_at img target)
      (subst (λ (is : List Instruction). LieFrom p (fault_at img target) is) parts loaded.code)))

  even_start : fault_at img target % 2 ≡ 0
  even_start = omega (arith, loaded.region.0)

  pub even_reset : reset_at img target % 2 ≡ 0
  even_reset =
      omega (
        arith,
        even_start,
        bytes_even fault,
        bytes_even (tick (outside img target) (timer_irq img.code)),
        reset_at_is img target,
        rows_even (outside img target) target img.irqs,
      )

  module _ (is : IsExecuted target p) where
    low : (k : ℕ) → slice_index (places img target) k < 0xE0000000
    low k =
        let all = ends img target in
        omega (
          arith,
          place_within (code_at img target) (sizes_from img target 0 img.code) k,
          code_end_is img target,
          all.code,
          all.load,
          loaded.fits,
          is.flash,
        )

    even_code : code_at img target % 2 ≡ 0
    even_code =
        omega (
          arith,
          even_reset,
          bytes_even (reset (outside img target) target.tick img 0),
        )

    pub has_code : HasCode (outside img target) img (places img target) p
    has_code = record {
      port = is.port;
      encodable = is.encodable;
      low = is.low;
      addresses = low;
      halfwords = λ k.
          even_places (sizes_from img target 0 img.code) (even_sizes img target 0 img.code) (code_at img target)
          even_code k;
      code = λ n i note line.
          let lies = code_has_its_places img target n (i, note) line in
          let text = sequence (outside img target) img (places img target) n i in
          let next : slice_index (places img target) (n + 1) ≡ slice_index (places img target) (suc n) =
          ap (slice_index (places img target)) (omega arith) in
          spans_of p text (slice_index (places img target) n) (slice_index (places img target) (suc n))
          (lies.ends ∙ next)
          (part_lies lies.before text lies.after (slice_index (places img target) n) lies.parts lies.begins);
    }

  -- an entry leads to what runs first
  entry_spans : HaveNumbersApart img.irqs → (k : ℕ) (row : IrqRow) (h : Handler) → slice_get img.irqs k ≡ Some row
      → row.handler ≡ Some h
      → Spans p (entered (external row.number) m).address
      (entrance (outside img target) target (places img target) (slice_index (stub_places img target) (k + 1)) row)
      (slice_index (stub_places img target) (k + 1))
  entry_spans apart k row h here enabled =
      let leads = entries_lead_to_their_code img target p m loaded apart k row h here enabled in
      let lies = stubs_have_their_places img target k row here in
      let text =
      entrance (outside img target) target (places img target) (slice_index (stub_places img target) (k + 1)) row in
      spans_of p text (entered (external row.number) m).address (slice_index (stub_places img target) (k + 1))
      (ap (λ (a : ℕ). a + bytes_of text) leads.address ∙ lies.ends)
      (subst (λ (a : ℕ). LieFrom p a text) (sym leads.address) leads.lies)

pub loaded_code_is_there : LoadedCodeIsThere
loaded_code_is_there img target p m loaded is = has_code img target p m loaded is

pub loaded_entries_lead : LoadedEntriesLead
loaded_entries_lead img target p m loaded apart k row h here enabled =
    entry_spans img target p m loaded apart k row h here enabled
