-- A processor whose memory holds a file: the bytes of its parts, and VTOR; all else is 0.
use Rattle.std.proofs.Common.{◌≡◌, ◌≢◌, ◌∙◌, ℕ, zero, suc, ◌+◌, ◌-◌, ◌*◌, ◌/◌, ◌%◌, ◌^◌, ◌<◌, ◌≤◌, ◌==◌, ◌&&◌, nat_le, nat_lt}
use Rattle.std.proofs.Common.{Bool, true, false, if◌then◌else◌, List, [], ◌∷◌, ◌++◌, length, map, flat_map, inl, inr, refl}
use Rattle.std.proofs.Common.{sym, ap, subst, arith, length-append}
use Rattle.std.specs.Prelude.{slice_index}
use Rattle.std.specs.List.{AllByRecursion}
use Rattle.std.proofs.lemmas.Bool.{and_from, and_parts, and_right, cases_eq, cond-false, cond-true, cond_both, le-leb, le-ltb}
use Rattle.std.proofs.lemmas.Bool.{leb-true, lt-ltb, ltb-true, ne_eqb, or_from}
use Rattle.std.proofs.lemmas.List.{length-map, length-replicate}
use Rattle.std.proofs.lemmas.List.Sums.{sum_by-cons}
use Rattle.rt_code.specs.Image.{Image}
use Rattle.rt_elf.specs.File.{elf_of}
use Rattle.rt_elf.specs.Linking.{object_of}
use Rattle.rt_elf.specs.Word as elf
use Rattle.rt_elf.specs.Word.{words}
use Rattle.rt_native.specs.File.{file}
use Rattle.rt_native.specs.Layout.{code_end, in_words, load_at, values_size}
use Rattle.rt_native.specs.Object.{object}
use Rattle.rt_native.specs.Pieces.{bytes_of}
use Rattle.rt_native.specs.Program.{bytes_of_halfwords, first_values, instructions, padding, text, values, vectors}
use Rattle.rt_native.specs.Symbols.{executable}
use Rattle.rt_native.specs.Target.{Target}
use Rattle.rt_native_laws.specs.Existing.{FilesCanBeHeld}
use Rattle.rt_native_laws.specs.Filed.{HoldsFile, IsFreshFromReset}
use Rattle.rt_native_laws.proofs.Filed.{instructions_end}
use Rattle.rt_native_laws.proofs.Segments.{parts_held, text_in, values_in}
use Rattle.rt_priorities.specs.Loading.{BytesLie}
use Rattle.rt_priorities.specs.Setting.{IsReset}
use Rattle.rt_priorities.proofs.Loading.{halfwords_long, words_long}
use Rattle.rt_priorities.proofs.Vectors.{length_vectors}
use Rattle.rt_thumb.specs.Encoding.{encode, size}
use Rattle.rt_thumb.specs.Exceptions.{even, systick}
use Rattle.rt_thumb.specs.Machine.{Machine, byte_at}
use Rattle.rt_thumb.specs.declared.instruction.Instruction.{Instruction}

-- a byte of a word of four
first_byte : (a b c d : ℕ) → a < 2 ^ 8 → b < 2 ^ 8 → c < 2 ^ 8 → d < 2 ^ 8
    → (a + 2 ^ 8 * b + 2 ^ 16 * c + 2 ^ 24 * d) / 2 ^ 0 % 2 ^ 8 ≡ a
first_byte a b c d p q r s = omega arith

second_byte : (a b c d : ℕ) → a < 2 ^ 8 → b < 2 ^ 8 → c < 2 ^ 8 → d < 2 ^ 8
    → (a + 2 ^ 8 * b + 2 ^ 16 * c + 2 ^ 24 * d) / 2 ^ 8 % 2 ^ 8 ≡ b
second_byte a b c d p q r s = omega arith

third_byte : (a b c d : ℕ) → a < 2 ^ 8 → b < 2 ^ 8 → c < 2 ^ 8 → d < 2 ^ 8
    → (a + 2 ^ 8 * b + 2 ^ 16 * c + 2 ^ 24 * d) / 2 ^ 16 % 2 ^ 8 ≡ c
third_byte a b c d p q r s = omega arith

fourth_byte : (a b c d : ℕ) → a < 2 ^ 8 → b < 2 ^ 8 → c < 2 ^ 8 → d < 2 ^ 8
    → (a + 2 ^ 8 * b + 2 ^ 16 * c + 2 ^ 24 * d) / 2 ^ 24 % 2 ^ 8 ≡ d
fourth_byte a b c d p q r s = omega arith

in_word : (a b c d : ℕ) → a < 2 ^ 8 → b < 2 ^ 8 → c < 2 ^ 8 → d < 2 ^ 8
    → a + 2 ^ 8 * b + 2 ^ 16 * c + 2 ^ 24 * d < 2 ^ 32
in_word a b c d p q r s = omega arith

-- bytes are less than 256, and so is what stands for one that is not there
small_at : (bytes : List ℕ) → AllByRecursion (λ byte. byte < 2 ^ 8) bytes → (n : ℕ) → slice_index bytes n < 2 ^ 8
small_at [] all n = omega arith
small_at (byte ∷ bytes) (first, all) zero = first
small_at (byte ∷ bytes) (first, all) (suc n) = small_at bytes all n

-- two parts of memory, of which the second lies behind the first
module _ (text_address data_load : ℕ) (text values : List ℕ) (behind : text_address + length text ≤ data_load)
    (below : data_load + length values ≤ 0xE0000000) (text_small : (k : ℕ) → k < length text → slice_index text k < 2 ^ 8)
    (values_small : (k : ℕ) → k < length values → slice_index values k < 2 ^ 8) where
  abbrev is_in : ℕ → List ℕ → ℕ → Bool
  is_in from bytes a = nat_le from a && nat_lt a (from + length bytes)

  -- what lies at an address
  abbrev byte : ℕ → ℕ
  byte a = if is_in text_address text a then slice_index text (a - text_address) else
      if is_in data_load values a then slice_index values (a - data_load) else 0

  inside : (from : ℕ) (bytes : List ℕ) (k : ℕ) → k < length bytes → is_in from bytes (from + k) ≡ true
  inside from bytes k few =
      and_from (nat_le from (from + k)) (nat_lt (from + k) (from + length bytes)) (le-leb from (from + k) (omega arith))
      (lt-ltb (from + k) (from + length bytes) (omega (arith, few)))

  past : (from : ℕ) (bytes : List ℕ) (a : ℕ) → from + length bytes ≤ a → is_in from bytes a ≡ false
  past from bytes a far = and_right (nat_le from a) (nat_lt a (from + length bytes)) (le-ltb a (from + length bytes) far)

  text_byte : (k : ℕ) → k < length text → byte (text_address + k) ≡ slice_index text k
  text_byte k few =
      let same : text_address + k - text_address ≡ k = omega arith in
      cond-true _ _ _ (inside text_address text k few) ∙ ap (slice_index text) same

  values_byte : (k : ℕ) → k < length values → byte (data_load + k) ≡ slice_index values k
  values_byte k few =
      let same : data_load + k - data_load ≡ k = omega arith in
      cond-false _ _ _ (past text_address text (data_load + k) (omega (arith, behind)))
      ∙ (cond-true _ _ _ (inside data_load values k few) ∙ ap (slice_index values) same)

  -- nothing lies in the system's part of the address space
  high_byte : (a : ℕ) → 0xE0000000 ≤ a → byte a ≡ 0
  high_byte a high =
      cond-false _ _ _ (past text_address text a (omega (arith, behind, below, high)))
      ∙ cond-false _ _ _ (past data_load values a (omega (arith, below, high)))

  byte_small : (a : ℕ) → byte a < 2 ^ 8
  byte_small a = cond_both (is_in text_address text a) _ _ (λ b. b < 2 ^ 8)
      (λ here. let k = within text_address text a here in text_small (a - text_address) k)
      (λ apart. cond_both (is_in data_load values a) _ _ (λ b. b < 2 ^ 8)
      (λ here. let k = within data_load values a here in values_small (a - data_load) k) (λ none. omega arith))
    where
      within : (from : ℕ) (bytes : List ℕ) (a : ℕ) → is_in from bytes a ≡ true → a - from < length bytes
      within from bytes a here =
          let both = and_parts (nat_le from a) (nat_lt a (from + length bytes)) here in
          let low = leb-true from a both.0 in
          let high = ltb-true a (from + length bytes) both.1 in
          omega (arith, low, high)

  -- memory as words, with VTOR
  abbrev lying : ℕ → ℕ
  lying k = byte (4 * k + 0) + 2 ^ 8 * byte (4 * k + 1) + 2 ^ 16 * byte (4 * k + 2) + 2 ^ 24 * byte (4 * k + 3)

  abbrev VTOR : ℕ
  VTOR = 0xE000ED08 / 4

  abbrev memory : ℕ → ℕ
  memory k = if k == VTOR then text_address else lying k

  apart_is : (k : ℕ) → k ≢ VTOR → memory k ≡ lying k
  apart_is k apart = cond-false _ _ _ (ne_eqb k VTOR apart)

  lying_small : (k : ℕ) → lying k < 2 ^ 32
  lying_small k =
      in_word (byte (4 * k + 0)) (byte (4 * k + 1)) (byte (4 * k + 2)) (byte (4 * k + 3)) (byte_small (4 * k + 0))
      (byte_small (4 * k + 1)) (byte_small (4 * k + 2)) (byte_small (4 * k + 3))

  memory_small : (k : ℕ) → memory k < 2 ^ 32
  memory_small k = cond_both (k == VTOR) _ _ (λ w. w < 2 ^ 32) (λ is. omega (arith, behind, below)) (λ no. lying_small k)

  high_word : (k : ℕ) → 0xE0000000 ≤ 4 * k → k ≢ VTOR → memory k ≡ 0
  high_word k high apart =
      let a = high_byte (4 * k + 0) (omega (arith, high)) in
      let b = high_byte (4 * k + 1) (omega (arith, high)) in
      let c = high_byte (4 * k + 2) (omega (arith, high)) in
      let d = high_byte (4 * k + 3) (omega (arith, high)) in
      let zero_is : lying k ≡ 0 = omega (arith, a, b, c, d) in
      apart_is k apart ∙ zero_is

  digit : (q r : ℕ) → r < 4 → lying q / 2 ^ (8 * r) % 2 ^ 8 ≡ byte (4 * q + r)
  digit q r few = elim (cases_eq r 0) [
    | inl is ↦ at 0 is (first_byte (byte (4 * q + 0)) (byte (4 * q + 1)) (byte (4 * q + 2)) (byte (4 * q + 3)) (small 0)
        (small 1) (small 2) (small 3))
    | inr no_0 ↦ elim (cases_eq r 1) [
      | inl is ↦ at 1 is (second_byte (byte (4 * q + 0)) (byte (4 * q + 1)) (byte (4 * q + 2)) (byte (4 * q + 3))
          (small 0) (small 1) (small 2) (small 3))
      | inr no_1 ↦ elim (cases_eq r 2) [
        | inl is ↦ at 2 is (third_byte (byte (4 * q + 0)) (byte (4 * q + 1)) (byte (4 * q + 2)) (byte (4 * q + 3))
            (small 0) (small 1) (small 2) (small 3))
        | inr no_2 ↦ at 3 (omega (arith, few, no_0, no_1, no_2)) (fourth_byte (byte (4 * q + 0)) (byte (4 * q + 1))
            (byte (4 * q + 2)) (byte (4 * q + 3)) (small 0) (small 1) (small 2) (small 3))
      ]
    ]
  ]
    where
      small : (n : ℕ) → byte (4 * q + n) < 2 ^ 8
      small n = byte_small (4 * q + n)

      at : (n : ℕ) → r ≡ n → lying q / 2 ^ (8 * n) % 2 ^ 8 ≡ byte (4 * q + n)
          → lying q / 2 ^ (8 * r) % 2 ^ 8 ≡ byte (4 * q + r)
      at n is so = subst (λ n. lying q / 2 ^ (8 * n) % 2 ^ 8 ≡ byte (4 * q + n)) (sym is) so

  -- the processor as reset leaves it
  abbrev processor : Machine
  processor = record {
    register = λ k. if k == 13 then memory (text_address / 4) - memory (text_address / 4) % 4 else 0;
    address = even (memory ((text_address + 4) / 4));
    flags = record { is_negative = false; is_zero = false; is_carry = false; is_overflow = false };
    exception = 0;
    base_priority = 0;
    is_masked = false;
    memory = memory;
    is_pending = λ k. false;
    active = [];
    is_unsettled = false;
    seen = [];
  }

  lies_at : (a : ℕ) → a / 4 ≢ VTOR → byte_at processor a ≡ byte a
  lies_at a apart =
      let split : 4 * (a / 4) + a % 4 ≡ a = omega arith in
      ap (λ w. w / 2 ^ (8 * (a % 4)) % 2 ^ 8) (apart_is (a / 4) apart)
      ∙ (digit (a / 4) (a % 4) (omega arith) ∙ ap byte split)

  pub text_lies : BytesLie processor text_address text
  text_lies k few =
      lies_at (text_address + k) (λ e. omega (arith, e, few, behind, below)) ∙ text_byte k few

  pub values_lie : BytesLie processor data_load values
  values_lie k few = lies_at (data_load + k) (λ e. omega (arith, e, few, below)) ∙ values_byte k few

  is_reset : IsReset processor
  is_reset = record {
    enabled = λ irq few.
        let q = (16 + irq - 16) / 32 in
        let nothing = high_word ((0xE000E100 + 4 * q) / 4) (omega (arith, few)) (λ e. omega (arith, few, e)) in
        or_from (16 + irq == systick) _ (ne_eqb (16 + irq) systick (λ e. omega (arith, e)))
        (ap (λ w. w / 2 ^ ((16 + irq - 16) % 32) % 2 == 1) nothing ∙ ne_eqb _ 1 (no_bit ((16 + irq - 16) % 32)));
    pending = λ irq few. refl;
    tick = refl;
    active = refl;
    base_priority = refl;
  }
    where
      no_bit : (n : ℕ) → 0 / 2 ^ n % 2 ≢ 1
      no_bit n e = absurd (omega (arith, e))

  pub fresh : (target : Target) → target.flash.address ≡ text_address → IsFreshFromReset target processor
  fresh target is = record {
    vectors = sym is;
    reset = record {
      stack = refl;
      address = refl;
      exception = refl;
      interrupts = is_reset;
      is_masked = refl;
      is_unsettled = refl;
      tick = lies_at 0xE000ED23 (λ e. omega (arith, e)) ∙ high_byte 0xE000ED23 (omega arith);
      words = record {
        registers = λ k. cond_both (k == 13) _ _ (λ w. w < 2 ^ 32)
            (λ is. let s = memory_small (text_address / 4) in omega (arith, s)) (λ no. omega arith);
        memory = memory_small;
        base_priority = omega arith;
      };
    };
  }

-- instructions have so many bytes
code_long : (is : List Instruction) → length (flat_map (λ i. bytes_of_halfwords (encode i)) is) ≡ bytes_of is
code_long [] = refl
code_long (i ∷ is) =
    let parts = length-append (bytes_of_halfwords (encode i)) (flat_map (λ j. bytes_of_halfwords (encode j)) is) in
    let here = halfwords_long (encode i) in
    let rest = code_long is in
    let sum = sum_by-cons (λ j. size (encode j)) i is in
    omega (arith, parts, here, rest, sum)

module _ (img : Image) (target : Target) where
  text_long : target.flash.address + length (text img target) ≡ load_at img target
  unfolding words
  text_long =
      let table = flat_map elf.word (vectors img target) in
      let code = flat_map (λ i. bytes_of_halfwords (encode i)) (instructions img target) in
      let a = length-append (table ++ code) (padding img target) in
      let b = length-append table code in
      let c = words_long (vectors img target) in
      let d = length_vectors img target in
      let e = code_long (instructions img target) in
      let f = length-replicate {A = ℕ} (load_at img target - code_end img target) 0 in
      let g = instructions_end img target in
      let h : code_end img target ≤ load_at img target = rounded (code_end img target) in
      omega (arith, a, b, c, d, e, f, g, h)
    where
      rounded : (n : ℕ) → n ≤ in_words n
      rounded n = omega arith

  values_long : length (values img) ≡ values_size img target
  unfolding words
  values_long =
      let a = words_long (first_values img) in
      let b = length-append (map (λ cell. cell.first) img.cells) (0 ∷ (2 ^ 32 - 1) ∷ []) in
      let c = length-map img.cells (λ cell. cell.first) in
      omega (arith, a, b, c)

pub files_can_be_held : FilesCanBeHeld
files_can_be_held img target flash low no_functions fits small =
    let e = executable img target in
    let few = fits.4.0 (ap length no_functions) in
    let is_file : file img target ≡ elf_of e =
    ap (λ (n : ℕ). if n == 0 then elf_of (executable img target) else object_of (object img target))
    (ap length no_functions) in
    let all = subst (AllByRecursion (λ byte. byte < 2 ^ 8)) is_file small in
    let text_small : (k : ℕ) → k < length (text img target) → slice_index (text img target) k < 2 ^ 8 =
    λ k l. subst (λ b. b < 2 ^ 8) (text_in e k l) (small_at (elf_of e) all (116 + k)) in
    let values_small : (k : ℕ) → k < length (values img) → slice_index (values img) k < 2 ^ 8 =
    λ k l. subst (λ b. b < 2 ^ 8) (values_in e k l) (small_at (elf_of e) all (116 + length e.text + k)) in
    let long = text_long img target in
    let more = values_long img target in
    let behind : target.flash.address + length (text img target) ≤ load_at img target = omega (arith, long) in
    let below : load_at img target + length (values img) ≤ 0xE0000000 = omega (arith, more, fits.2, low) in
    let m = processor target.flash.address (load_at img target) (text img target) (values img) behind below text_small
    values_small in
    record {
      machine = m;
      holds = subst (λ (bytes : List ℕ). HoldsFile bytes m) (sym is_file)
          (parts_held e m (omega (arith, flash.1)) (omega (arith, below)) few
          (text_lies target.flash.address (load_at img target) (text img target) (values img) behind below text_small
          values_small)
          (values_lie target.flash.address (load_at img target) (text img target) (values img) behind below text_small
          values_small));
      fresh = fresh target.flash.address (load_at img target) (text img target) (values img) behind below text_small
          values_small target refl;
    }
