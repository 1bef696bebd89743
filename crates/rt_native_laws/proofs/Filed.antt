-- A processor whose memory holds an image's file has the image's program.
use Rattle.std.proofs.Common.{◌≡◌, ◌∙◌, ℕ, suc, ◌+◌, ◌%◌, ◌^◌, ◌<◌, ◌≤◌, List, [], ◌∷◌, ◌++◌, length}
use Rattle.std.proofs.Common.{slice_get, Option, Some, None, refl, sym, ap, subst, arith, add-zero}
use Rattle.std.specs.Prelude.{◌==◌, slice_index, if◌then◌else◌}
use Rattle.std.specs.List.{AllByRecursion}
use Rattle.std.proofs.lemmas.List.Sums.{sum_by-cons}
use Rattle.std.proofs.lemmas.Option.{none-some, same_Some}
use native.Mathlib.Decide.{dec_le}
use Rattle.rt_code.specs.Image.{Image}
use Rattle.rt_code.specs.declared.instr.Instr.{Instr}
use Rattle.rt_code.specs.declared.instr.Note.{Note}
use Rattle.rt_elf.specs.File.{elf_of}
use Rattle.rt_elf.specs.Linking.{object_of}
use Rattle.rt_elf.specs.Word.{words}
use Rattle.rt_native.specs.File.{file}
use Rattle.rt_native.specs.Fitting.{Fits, IsRegion}
use Rattle.rt_native.specs.Layout.{code_at, code_end, fault_at, in_words, load_at, outside, places}
use Rattle.rt_native.specs.Layout.{sizes_from, stub_places}
use Rattle.rt_native.specs.Pieces.{bytes_of}
use Rattle.rt_native.specs.Program.{first_values, instructions, sequences_from, text, values}
use Rattle.rt_native.specs.Sequences.{sequence}
use Rattle.rt_native.specs.Service.{entrances_from, fault, reset, tick, timer_irq}
use Rattle.rt_native.specs.Object.{object}
use Rattle.rt_native.specs.Symbols.{executable}
use Rattle.rt_native.specs.Target.{Target}
use Rattle.rt_native.proofs.Ends.{ends}
use Rattle.rt_native.proofs.Places.{code_has_its_places, joined, reset_begins, reset_bytes}
use Rattle.rt_native_laws.specs.Filed.{FilesArePrograms, FlashHasAProgram, HoldsFile, IsFreshFromReset, IsInFlash}
use Rattle.rt_native_laws.specs.Filed.{IsWhatFlashHas}
use Rattle.rt_native_laws.specs.FromReset.{IsAtReset}
use Rattle.rt_native_laws.specs.Loading.{IsExecuted}
use Rattle.rt_native_laws.proofs.Decoding.{memory_has_a_program}
use Rattle.rt_native_laws.proofs.ResetPlaces.{first_place}
use Rattle.rt_native_laws.proofs.Segments.{parts_lie}
use Rattle.rt_priorities.specs.Loading.{BytesLie, HasText, ReadsMemory}
use Rattle.rt_priorities.specs.Lying.{LieFrom}
use Rattle.rt_priorities.specs.Vectors.{IsLoaded}
use Rattle.rt_priorities.proofs.Loading.{text_is_loaded, words_lie}
use Rattle.rt_thumb.specs.Encoding.{encode, size}
use Rattle.rt_thumb.specs.Machine.{Machine}
use Rattle.rt_thumb.specs.Step.{Program}
use Rattle.rt_thumb.specs.declared.instruction.Halfwords.{Halfwords}
use Rattle.rt_thumb.specs.declared.instruction.Halfwords.TheVariants as halfwords
use Rattle.rt_thumb.specs.declared.instruction.Instruction.{Instruction}

-- an encoding has two bytes at least
some_bytes : (w : Halfwords) → 2 ≤ size w
some_bytes (halfwords.Short h) = omega arith
some_bytes (halfwords.Wide first second) = omega arith

module _ (target : Target) where
  in_flash : (a : ℕ) (i : Instruction) → Dec (IsInFlash target a i)
  in_flash a i =
      by (dec_le target.flash.address a)
      (dec_le (a + size (encode i)) (target.flash.address + target.flash.size))
    where
      by : Dec (target.flash.address ≤ a)
          → Dec (a + size (encode i) ≤ target.flash.address + target.flash.size) → Dec (IsInFlash target a i)
      by (yes p) (yes q) = yes (p, q)
      by (yes p) (no h) = no (λ x. h x.1)
      by (no h) q = no (λ x. h x.0)

  -- an instruction where it lies in flash
  kept : (a : ℕ) (i : Instruction) → Dec (IsInFlash target a i) → Option Instruction
  kept a i (yes h) = Some i
  kept a i (no h) = None

  flashed : ℕ → Option Instruction → Option Instruction
  flashed a None = None
  flashed a (Some i) = kept a i (in_flash a i)

  kept_is : (a : ℕ) (i j : Instruction) (d : Dec (IsInFlash target a i)) → kept a i d ≡ Some j
      → (Some i ≡ Some j) × IsInFlash target a j
  unfolding kept
  kept_is a i j (yes h) e = (e, subst (IsInFlash target a) (same_Some i j e) h)
  kept_is a i j (no h) e = absurd (none-some j e)

  is_kept : (a : ℕ) (i : Instruction) (d : Dec (IsInFlash target a i)) → IsInFlash target a i → kept a i d ≡ Some i
  unfolding kept
  is_kept a i (yes h) is = refl
  is_kept a i (no h) is = absurd (h is)

  flashed_is : (a : ℕ) (o : Option Instruction) (j : Instruction) → flashed a o ≡ Some j
      → (o ≡ Some j) × IsInFlash target a j
  unfolding flashed
  flashed_is a None j e = absurd (none-some j e)
  flashed_is a (Some i) j e = kept_is a i j (in_flash a i) e

  is_flashed : (a : ℕ) (o : Option Instruction) (j : Instruction) → o ≡ Some j → IsInFlash target a j
      → flashed a o ≡ Some j
  unfolding flashed
  is_flashed a o j e is = ap (flashed a) e ∙ is_kept a j (in_flash a j) is

  -- of what memory has, what lies in flash
  part_of : (m : Machine) (q : Program) → q.port ≡ target.port → ReadsMemory q m
      → (p : Program) × IsWhatFlashHas target p m
  part_of m q port reads = (
    record { code = λ a. flashed a (q.code a); port = q.port },
    record {
      port = port;
      code = λ a i. (
        (λ e. let is = flashed_is a (q.code a) i e in let both = (reads a i).0 is.0 in (is.1, both.0, both.1)),
        (λ is. is_flashed a (q.code a) i ((reads a i).1 (is.1, is.2)) is.0),
      );
    },
  )

pub flash_has_a_program : FlashHasAProgram
flash_has_a_program target m =
    let all = memory_has_a_program m target.port in part_of target m all.0 all.1 all.2

-- first values lie at the address of a word
first_values_aligned : (n : ℕ) → in_words n % 4 ≡ 0
first_values_aligned n = omega arith

module _ (img : Image) (target : Target) where
  -- the code of the image's instructions, from one on, ends where the last place is
  code_ends : (n m : ℕ) (lines : List (Instr × Option Note))
      → ((k : ℕ) → slice_get img.code (n + k) ≡ slice_get lines k) → n + length lines ≡ m
      → slice_index (places img target) n + bytes_of (sequences_from img target n lines)
      ≡ slice_index (places img target) m
  code_ends n m [] here e =
      let none : slice_index (places img target) n + 0 ≡ slice_index (places img target) n = omega arith in
      none ∙ ap (slice_index (places img target)) (sym (add-zero n) ∙ e)
  code_ends n m (line ∷ lines) here e =
      let piece = sequence (outside img target) img (places img target) n line.0 in
      let same : n ≡ n + 0 = omega arith in
      let lies = code_has_its_places img target n line (ap (slice_get img.code) same ∙ here 0) in
      let parts = joined piece (sequences_from img target (n + 1) lines) in
      let rest = code_ends (n + 1) m lines
      (λ k. let next : n + 1 + k ≡ n + suc k = omega arith in ap (slice_get img.code) next ∙ here (suc k))
      (omega (arith, e)) in
      let ends = lies.ends in
      omega (arith, parts, rest, ends)

  -- all instructions end where the code does
  pub instructions_end : fault_at img target + bytes_of (instructions img target) ≡ code_end img target
  instructions_end =
      let served = tick (outside img target) (timer_irq img.code) in
      let taken = entrances_from (outside img target) target (places img target) (stub_places img target) 0 img.irqs in
      let begun = reset (outside img target) target.tick img (load_at img target) in
      let code = sequences_from img target 0 img.code in
      let a = joined fault served in
      let b = joined (fault ++ served) taken in
      let c = joined ((fault ++ served) ++ taken) begun in
      let d = joined (((fault ++ served) ++ taken) ++ begun) code in
      let e = reset_begins img target in
      let f = reset_bytes (outside img target) target.tick img (load_at img target) 0 in
      let g = first_place (code_at img target) (sizes_from img target 0 img.code) in
      let h = code_ends 0 (length img.code) img.code
      (λ k. let same : 0 + k ≡ k = omega arith in ap (slice_get img.code) same) (omega arith) in
      omega (arith, a, b, c, d, e, f, g, h)

module _ (target : Target) (p q : Program) (m : Machine) (is : IsWhatFlashHas target p m)
    (reads : ReadsMemory q m) where
  -- instructions that lie in flash
  lie_in_flash : (xs : List Instruction) (a : ℕ) → target.flash.address ≤ a
      → a + bytes_of xs ≤ target.flash.address + target.flash.size → LieFrom q a xs → LieFrom p a xs
  lie_in_flash [] a from to lies = tt
  lie_in_flash (x ∷ xs) a from to lies =
      let one = sum_by-cons (λ j. size (encode j)) x xs in
      let both = (reads a x).0 lies.0 in (
        (is.code a x).1 ((from, omega (arith, to, one)), both.0, both.1),
        lie_in_flash xs (a + size (encode x)) (omega (arith, from)) (omega (arith, to, one)) lies.1,
      )

module _ (target : Target) (p : Program) (m : Machine) (is : IsWhatFlashHas target p m) where
  executed : target.flash.address + target.flash.size ≤ 0xE0000000 → IsExecuted target p
  executed low = record {
    port = is.port;
    encodable = λ a i e. ((is.code a i).0 e).1;
    low = λ a i e. let place = ((is.code a i).0 e).0 in
        let some = some_bytes (encode i) in omega (arith, place.1, some, low);
    flash = low;
  }

module _ (img : Image) (target : Target) (p : Program) (m : Machine) (flash : IsRegion target.flash)
    (ram : IsRegion target.ram) (low : target.flash.address + target.flash.size ≤ 0xE0000000)
    (fits : Fits img target) (firsts : AllByRecursion (λ word. word < 2 ^ 32) (first_values img))
    (text_lies : BytesLie m target.flash.address (text img target))
    (values_lie : BytesLie m (load_at img target) (values img)) (fresh : IsFreshFromReset target m)
    (is : IsWhatFlashHas target p m) where
  loaded : IsLoaded img target p m
  loaded =
      let all = memory_has_a_program m target.port in
      let has : HasText img target m = record {
        words = fresh.reset.words.memory;
        table = fresh.vectors;
        bytes = text_lies;
      } in
      let whole = text_is_loaded img target all.0 m flash ram fits has all.2 in
      let end = instructions_end img target in
      let code = (ends img target).code in
      record {
        region = whole.region;
        fits = whole.fits;
        table = whole.table;
        words = whole.words;
        code = lie_in_flash target p all.0 m is all.2 (instructions img target) (fault_at img target) (omega arith)
            (omega (arith, end, code, fits.2)) whole.code;
      }

  is_at_reset : IsAtReset img target p m
  unfolding words
  is_at_reset =
      record {
        loaded = loaded;
        stands = record {
          executed = executed target p m is low;
          values = words_lie m fresh.reset.words.memory (first_values img) (load_at img target)
              (first_values_aligned (code_end img target)) firsts values_lie;
          reset = fresh.reset;
        };
      }

pub files_are_programs : FilesArePrograms
files_are_programs img target p m flash ram low no_functions fits firsts holds fresh is =
    let few = fits.4.0 (ap length no_functions) in
    let is_file : file img target ≡ elf_of (executable img target) =
    ap (λ (n : ℕ). if n == 0 then elf_of (executable img target) else object_of (object img target))
    (ap length no_functions) in
    let load = (ends img target).load in
    let parts = parts_lie (executable img target) m (omega (arith, flash.1)) (omega (arith, load, fits.2, flash.1)) few
    (subst (λ (bytes : List ℕ). HoldsFile bytes m) is_file holds) in
    is_at_reset img target p m flash ram low fits firsts parts.0 parts.1 fresh is
