-- Bytes in flash make the program of an image.
use Rattle.std.proofs.Common.{◌≡◌, ◌∙◌, ℕ, zero, suc, ◌+◌, ◌*◌, ◌/◌, ◌%◌, ◌^◌, ◌<◌}
use Rattle.std.proofs.Common.{List, [], ◌∷◌, ◌++◌, map, length, replicate, refl, sym, ap, subst, arith, flat_map}
use Rattle.std.specs.Int.{w32, to_le_bytes}
use Rattle.std.specs.List.{AllByRecursion, range_with_len}
use Rattle.std.specs.Prelude.{slice_index}
use Rattle.std.proofs.lemmas.List.Elements.{recursion_from_All}
use Rattle.rt_lemmas.proofs.Lists.{all_append}
use Rattle.rt_code.specs.Image.{Image}
use Rattle.rt_elf.specs.Word.{words}
use Rattle.rt_elf.specs.Word as elf
use Rattle.rt_ids.specs.Operation.{wrapped_number as word}
use Rattle.rt_native.specs.Fitting.{Fits, IsRegion}
use Rattle.rt_native.specs.Layout.{stack_top, fault_at, tick_at, reset_at, line_count}
use Rattle.rt_native.specs.Program.{bytes_of_halfwords, instructions, padding, served_at, vectors}
use Rattle.rt_native.specs.Target.{Target}
use Rattle.rt_thumb.specs.Encoding.{encode, size}
use Rattle.rt_thumb.specs.Instruction.{IsEncodable}
use Rattle.rt_thumb.specs.Machine.{Machine, byte_at, word_at}
use Rattle.rt_thumb.specs.Step.{Program}
use Rattle.rt_thumb.specs.declared.instruction.Halfwords.{Halfwords}
use Rattle.rt_thumb.specs.declared.instruction.Halfwords.TheVariants as halfwords
use Rattle.rt_thumb.specs.declared.instruction.Instruction.{Instruction}
use Rattle.rt_priorities.specs.Loading.{BytesLie, HasText, ReadsMemory, TextIsLoaded}
use Rattle.rt_priorities.specs.Lying.{LieFrom}
use Rattle.rt_priorities.specs.Vectors.{IsLoaded}
use Rattle.rt_priorities.proofs.Vectors.{length_vectors}

-- parts of bytes that lie
module _ (m : Machine) where
  behind_one : (a x : ℕ) (xs : List ℕ) → BytesLie m a (x ∷ xs) → BytesLie m (a + 1) xs
  behind_one a x xs h k l =
      let same : a + 1 + k ≡ a + suc k = omega arith in ap (byte_at m) same ∙ h (suc k) (omega (arith, l))

  lie_first : (a : ℕ) (xs ys : List ℕ) → BytesLie m a (xs ++ ys) → BytesLie m a xs
  lie_first a [] ys h k l = absurd (omega (arith, l))
  lie_first a (x ∷ xs) ys h zero l = h zero (omega arith)
  lie_first a (x ∷ xs) ys h (suc k) l =
      let same : a + suc k ≡ a + 1 + k = omega arith in
      ap (byte_at m) same ∙ lie_first (a + 1) xs ys (behind_one a x (xs ++ ys) h) k (omega (arith, l))

  lie_second : (a : ℕ) (xs ys : List ℕ) → BytesLie m a (xs ++ ys) → BytesLie m (a + length xs) ys
  lie_second a [] ys h = let same : a ≡ a + 0 = omega arith in subst (λ (x : ℕ). BytesLie m x ys) same h
  lie_second a (x ∷ xs) ys h =
      let same : a + 1 + length xs ≡ a + length (x ∷ xs) = omega arith in
      subst (λ (y : ℕ). BytesLie m y ys) same (lie_second (a + 1) xs ys (behind_one a x (xs ++ ys) h))

  -- a byte of a word at a multiple of 4
  byte_is : (a j : ℕ) → a % 4 ≡ 0 → j < 4 → byte_at m (a + j) ≡ m.memory (a / 4) / 2 ^ (8 * j) % 2 ^ 8
  byte_is a j z l =
      let unit : (a + j) / 4 ≡ a / 4 = omega (arith, z, l) in
      let place : (a + j) % 4 ≡ j = omega (arith, z, l) in
      ap (λ (x : ℕ). m.memory x / 2 ^ (8 * ((a + j) % 4)) % 2 ^ 8) unit
      ∙ ap (λ (x : ℕ). m.memory (a / 4) / 2 ^ (8 * x) % 2 ^ 8) place

-- a word is its bytes
of_bytes : (x w : ℕ) → x < 2 ^ 32 → w < 2 ^ 32 → x / 2 ^ (8 * 0) % 2 ^ 8 ≡ w % 256
    → x / 2 ^ (8 * 1) % 2 ^ 8 ≡ w / 256 ^ 1 % 256 → x / 2 ^ (8 * 2) % 2 ^ 8 ≡ w / 256 ^ 2 % 256
    → x / 2 ^ (8 * 3) % 2 ^ 8 ≡ w / 256 ^ 3 % 256 → x ≡ w
of_bytes x w h i a b c d = omega arith

module _ (m : Machine) (small : (k : ℕ) → m.memory k < 2 ^ 32) where
  -- words by their bytes
  one_word : (a w : ℕ) → a % 4 ≡ 0 → w < 2 ^ 32 → BytesLie m a (to_le_bytes w32 w) → word_at m a ≡ w
  one_word a w z l h =
      let byte : (j : ℕ) → j < 4 → m.memory (a / 4) / 2 ^ (8 * j) % 2 ^ 8 ≡ slice_index (to_le_bytes w32 w) j =
      λ j i. sym (byte_is m a j z i) ∙ h j i in
      of_bytes (m.memory (a / 4)) w (small (a / 4)) l (byte 0 (omega arith)) (byte 1 (omega arith))
      (byte 2 (omega arith)) (byte 3 (omega arith))

  pub words_lie : (ws : List ℕ) (a : ℕ) → a % 4 ≡ 0 → AllByRecursion (λ w. w < 2 ^ 32) ws
      → BytesLie m a (flat_map elf.word ws) → (k : ℕ) → k < length ws → word_at m (a + 4 * k) ≡ slice_index ws k
  words_lie [] a z all h k l = absurd (omega (arith, l))
  words_lie (w ∷ ws) a z all h zero l =
      let same : a + 4 * 0 ≡ a = omega arith in
      ap (word_at m) same ∙ one_word a w z all.0 (lie_first m a (elf.word w) (flat_map elf.word ws) h)
  words_lie (w ∷ ws) a z all h (suc k) l =
      let same : a + 4 * suc k ≡ a + 4 + 4 * k = omega arith in
      ap (word_at m) same
      ∙ words_lie ws (a + 4) (omega (arith, z)) all.1 (lie_second m a (elf.word w) (flat_map elf.word ws) h) k
      (omega (arith, l))

-- so many bytes make words
pub words_long : (ws : List ℕ) → length (flat_map elf.word ws) ≡ 4 * length ws
words_long [] = refl
words_long (w ∷ ws) = let rest = words_long ws in omega (arith, rest)

-- instructions by their halfwords
pub halfwords_long : (h : Halfwords) → length (bytes_of_halfwords h) ≡ size h
halfwords_long (halfwords.Short a) = refl
halfwords_long (halfwords.Wide a b) = refl

code_lies : (p : Program) (m : Machine) → ReadsMemory p m → (is : List Instruction) (a : ℕ)
    → AllByRecursion IsEncodable is → BytesLie m a (flat_map (λ i. bytes_of_halfwords (encode i)) is) → LieFrom p a is
code_lies p m reads [] a all h = tt
code_lies p m reads (i ∷ is) a all h =
    let rest = flat_map (λ j. bytes_of_halfwords (encode j)) is in
    let here = bytes_of_halfwords (encode i) in (
      (reads a i).1 (all.0, lie_first m a here rest h),
      code_lies p m reads is (a + size (encode i)) all.1
          (subst (λ (x : ℕ). BytesLie m (a + x) rest) (halfwords_long (encode i)) (lie_second m a here rest h)),
    )

-- all vectors are words
wrapped : (x : ℕ) → word x < 2 ^ 32
wrapped x = omega arith

many : (n x : ℕ) → x < 2 ^ 32 → AllByRecursion (λ w. w < 2 ^ 32) (replicate n x)
many zero x h = tt
many (suc n) x h = (h, many n x h)

mapped : (f : ℕ → ℕ) (xs : List ℕ) → AllByRecursion (λ w. w < 2 ^ 32) (map (λ n. word (f n)) xs)
mapped f [] = tt
mapped f (x ∷ xs) = (wrapped (f x), mapped f xs)

module _ (img : Image) (target : Target) (flash : IsRegion target.flash) (ram : IsRegion target.ram)
    (fits : Fits img target) where
  top_small : stack_top img target < 2 ^ 32
  top_small = omega (arith, ram.1, fits.1)

  vectors_small : AllByRecursion (λ w. w < 2 ^ 32) (vectors img target)
  vectors_small =
      all_append (λ w. w < 2 ^ 32)
      (stack_top img target ∷ word (reset_at img target + 1) ∷ replicate 13 (word (fault_at img target + 1)))
      (word (tick_at img target + 1) ∷ map (λ n. word (served_at img target n + 1))
      (range_with_len 0 (line_count img.irqs))) (
        top_small,
        (
          wrapped (reset_at img target + 1),
          many 13 (word (fault_at img target + 1))
              (wrapped (fault_at img target + 1)),
        ),
      ) (
        wrapped (tick_at img target + 1),
        mapped (λ n. served_at img target n + 1)
            (range_with_len 0 (line_count img.irqs)),
      )

  loaded : (p : Program) (m : Machine) → HasText img target m → ReadsMemory p m → IsLoaded img target p m
  unfolding words
  loaded p m has reads =
      let table = flat_map elf.word (vectors img target) in
      let code = flat_map (λ i. bytes_of_halfwords (encode i)) (instructions img target) in
      let front = lie_first m target.flash.address (table ++ code) (padding img target) has.bytes in
      let long : length table ≡ 4 * (16 + line_count img.irqs) =
      words_long (vectors img target) ∙ ap (λ (n : ℕ). 4 * n) (length_vectors img target) in
      record {
        region = flash;
        fits = fits.2;
        table = has.table;
        words = words_lie m has.words (vectors img target) target.flash.address (omega (arith, flash.0)) vectors_small
            (lie_first m target.flash.address table code front);
        code = code_lies p m reads (instructions img target) (fault_at img target)
            (recursion_from_All IsEncodable (instructions img target) fits.3)
            (subst (λ (n : ℕ). BytesLie m (target.flash.address + n) code) long
            (lie_second m target.flash.address table code front));
      }

pub text_is_loaded : TextIsLoaded
text_is_loaded img target p m flash ram fits has reads = loaded img target flash ram fits p m has reads
