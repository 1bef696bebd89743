-- Where memory holds an executable file, its parts lie where the file says.
use Rattle.std.proofs.Common.{◌≡◌, ◌∙◌, ℕ, zero, suc, ◌+◌, ◌*◌, ◌/◌, ◌%◌, ◌^◌, ◌<◌, List, ◌++◌, length, refl, sym, ap, arith}
use Rattle.std.proofs.Common.{length-append}
use Rattle.std.specs.Prelude.{slice_index}
use Rattle.std.proofs.lemmas.List.{get_or_append_left, get_or-append-add}
use Rattle.rt_elf.specs.Executable.{Executable, all_symbols}
use Rattle.rt_elf.specs.File.{elf_of}
use Rattle.rt_elf.specs.Headers.{file_header, section_headers, section_names, segment_headers}
use Rattle.rt_elf.specs.Offsets.{file_size, offsets_of}
use Rattle.rt_elf.specs.Symbols.{strings, symbol_table}
use Rattle.rt_elf.specs.Word.{halves, words}
use Rattle.rt_native_laws.specs.Filed.{HoldsFile, elf_word}
use Rattle.rt_priorities.specs.Loading.{BytesLie}
use Rattle.rt_thumb.specs.Machine.{Machine, byte_at}

-- a word is its bytes
of_four : (x : ℕ) → x < 2 ^ 32
    → x % 256 + 2 ^ 8 * (x / 256 ^ 1 % 256) + 2 ^ 16 * (x / 256 ^ 2 % 256 + 2 ^ 8 * (x / 256 ^ 3 % 256)) ≡ x
of_four x h = omega arith

-- the first parts of four, and of five
in_five : (x a b c d : List ℕ) (n : ℕ) → n < length x → slice_index ((((x ++ a) ++ b) ++ c) ++ d) n ≡ slice_index x n
in_five x a b c d n l =
    let one = length-append x a in
    let two = length-append (x ++ a) b in
    let three = length-append ((x ++ a) ++ b) c in
    get_or_append_left (((x ++ a) ++ b) ++ c) d 0 n (omega (arith, l, one, two, three))
    ∙ (get_or_append_left ((x ++ a) ++ b) c 0 n (omega (arith, l, one, two))
    ∙ (get_or_append_left (x ++ a) b 0 n (omega (arith, l, one)) ∙ get_or_append_left x a 0 n l))

module _ (e : Executable) where
  front : List ℕ
  front = file_header e (offsets_of e) ++ segment_headers e (offsets_of e)

  front_long : length front ≡ 116
  unfolding front file_header segment_headers halves words
  front_long = refl

  -- the bytes of `.text`, and of `.data`, in the file
  pub text_in : (k : ℕ) → k < length e.text → slice_index (elf_of e) (116 + k) ≡ slice_index e.text k
  unfolding front
  text_in k l =
      let long = front_long in
      let both = length-append front e.text in
      let more = length-append (front ++ e.text) e.values in
      let place : 116 + k ≡ length front + k = omega (arith, long) in
      in_five ((front ++ e.text) ++ e.values) (symbol_table (all_symbols e)) (section_headers e (offsets_of e))
      section_names (strings (all_symbols e)) (116 + k) (omega (arith, l, long, both, more))
      ∙ (get_or_append_left (front ++ e.text) e.values 0 (116 + k) (omega (arith, l, long, both))
      ∙ (ap (slice_index (front ++ e.text)) place ∙ get_or-append-add front e.text k 0))

  pub values_in : (k : ℕ) → k < length e.values
      → slice_index (elf_of e) (116 + length e.text + k) ≡ slice_index e.values k
  unfolding front
  values_in k l =
      let long = front_long in
      let both = length-append front e.text in
      let more = length-append (front ++ e.text) e.values in
      let place : 116 + length e.text + k ≡ length (front ++ e.text) + k = omega (arith, long, both) in
      in_five ((front ++ e.text) ++ e.values) (symbol_table (all_symbols e)) (section_headers e (offsets_of e))
      section_names (strings (all_symbols e)) (116 + length e.text + k) (omega (arith, l, long, both, more))
      ∙ (ap (slice_index ((front ++ e.text) ++ e.values)) place
      ∙ get_or-append-add (front ++ e.text) e.values k 0)

  module _ (m : Machine) (text_address : e.text_address < 2 ^ 32) (data_load : e.data_load < 2 ^ 32)
      (small : file_size e < 2 ^ 32) where
    -- the fields of the first header
    text_paddr : elf_word (elf_of e) 64 ≡ e.text_address
    unfolding file_header segment_headers halves words
    text_paddr = of_four e.text_address text_address

    text_filesz : elf_word (elf_of e) 68 ≡ length e.text
    unfolding file_header segment_headers halves words
    text_filesz = of_four (length e.text) (omega (arith, small))

    values_offset : elf_word (elf_of e) 88 ≡ 116 + length e.text
    unfolding file_header segment_headers halves words
    values_offset = of_four (116 + length e.text) (omega (arith, small))

    values_paddr : elf_word (elf_of e) 96 ≡ e.data_load
    unfolding file_header segment_headers halves words
    values_paddr = of_four e.data_load data_load

    values_filesz : elf_word (elf_of e) 100 ≡ length e.values
    unfolding file_header segment_headers halves words
    values_filesz = of_four (length e.values) (omega (arith, small))

    pub parts_lie : HoldsFile (elf_of e) m → BytesLie m e.text_address e.text × BytesLie m e.data_load e.values
    unfolding file_header segment_headers halves words
    parts_lie holds = (
      (λ k l. let few : 0 < 2 = omega arith in
          ap (λ (a : ℕ). byte_at m (a + k)) (sym text_paddr)
          ∙ (holds 0 few refl k (omega (arith, l, text_filesz)) ∙ text_in k l)),
      (λ k l. let few : 1 < 2 = omega arith in
          ap (λ (a : ℕ). byte_at m (a + k)) (sym values_paddr)
          ∙ (holds 1 few refl k (omega (arith, l, values_filesz))
          ∙ (ap (λ (a : ℕ). slice_index (elf_of e) (a + k)) values_offset ∙ values_in k l))),
    )

    -- and where they lie so, memory holds the file
    pub parts_held : BytesLie m e.text_address e.text → BytesLie m e.data_load e.values → HoldsFile (elf_of e) m
    unfolding file_header segment_headers halves words
    parts_held text values zero few is k l =
        let less : k < elf_word (elf_of e) 68 = l in
        let inside : k < length e.text = omega (arith, less, text_filesz) in
        ap (λ (a : ℕ). byte_at m (a + k)) text_paddr ∙ (text k inside ∙ sym (text_in k inside))
    parts_held text values (suc zero) few is k l =
        let less : k < elf_word (elf_of e) 100 = l in
        let inside : k < length e.values = omega (arith, less, values_filesz) in
        ap (λ (a : ℕ). byte_at m (a + k)) values_paddr ∙ (values k inside
        ∙ sym (ap (λ (a : ℕ). slice_index (elf_of e) (a + k)) values_offset ∙ values_in k inside))
    parts_held text values (suc (suc n)) few is k l = let two : suc (suc n) < 2 = few in absurd (omega (arith, two))
