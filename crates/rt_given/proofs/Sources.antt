-- The words of a source.
use Rattle.std.proofs.Common.{◌≡◌, ℕ, zero, suc, ◌+◌, ◌*◌, ◌-◌, ◌/◌, ◌%◌, ◌^◌, ◌<◌, ◌≤◌, List, [], ◌∷◌, ◌++◌, map}
use Rattle.std.proofs.Common.{length, bit_xor, refl, ap, ◌∙◌, mod-lt, pow_pos, arith}
use Rattle.std.specs.List.{AllByRecursion, range_with_len}
use Rattle.std.proofs.lemmas.Nat.{or_lt}
use Rattle.std.proofs.Math.Nat.{div-le_self}
use Rattle.rand_pcg.specs.Lcg.{Lcg}
use Rattle.rand_pcg.specs.Pcg.{pcg32}
use Rattle.rt_script.specs.Generated.{drawn_words}
use Rattle.rt_given.specs.Words.{WordsAreDrawn, WordsCountUp, next_source, given_words, next_word}
use Rattle.rt_given.specs.declared.source.Source.{Source}
use Rattle.rt_given.specs.declared.source.Source.TheVariants.{Counting, Drawing}

-- the source behind so many words
abbrev pub source_after : ℕ → Source → Source
source_after zero s = s
source_after (suc n) s = source_after n (next_source s)

pub after_one : (n : ℕ) (s : Source) → source_after (suc n) s ≡ next_source (source_after n s)
after_one zero s = refl
after_one (suc n) s = after_one n (next_source s)

pub no_word : (s : Source) → given_words 0 s ≡ []
unfolding given_words
no_word s = refl

pub one_word_more : (n : ℕ) (s : Source) → given_words (suc n) s ≡ given_words n s ++ next_word (source_after n s) ∷ []
unfolding given_words
one_word_more zero s = refl
one_word_more (suc n) s = ap (λ (words : List ℕ). next_word s ∷ words) (one_word_more n (next_source s))

-- some words, and those behind them
pub words_split : (n more : ℕ) (s : Source) → given_words (n + more) s
    ≡ given_words n s ++ given_words more (source_after n s)
unfolding given_words
words_split zero more s = let same : zero + more ≡ more = omega arith in ap (λ k. given_words k s) same
words_split (suc n) more s =
    let same : suc n + more ≡ suc (n + more) = omega arith in
    ap (λ k. given_words k s) same ∙ ap (λ (words : List ℕ). next_word s ∷ words) (words_split n more (next_source s))

pub words_long : (n : ℕ) (s : Source) → length (given_words n s) ≡ n
unfolding given_words
words_long zero s = refl
words_long (suc n) s = ap suc (words_long n (next_source s))

-- a word has 32 bits
abbrev pub IsShort : ℕ → Type 0
IsShort word = word < 2 ^ 32

pub counted_short : (n first : ℕ) → first < 2 ^ 32 → AllByRecursion IsShort (given_words n (Counting first))
unfolding given_words
counted_short zero first short = tt
counted_short (suc n) first short = (short, counted_short n ((first + 1) % 2 ^ 32) (mod-lt (first + 1) (pow_pos 32)))

-- a word that the generator draws has 32 bits: it is another one turned round
word_short : (generator : Lcg) → (pcg32 generator).0 < 2 ^ 32
word_short generator =
    let state : ℕ = generator.state in
    let word : ℕ = bit_xor (state / 2 ^ 18) state / 2 ^ 27 % 2 ^ 32 in
    let by : ℕ = state / 2 ^ 59 % 32 in
    let short : word < 2 ^ 32 = mod-lt (bit_xor (state / 2 ^ 18) state / 2 ^ 27) (pow_pos 32) in
    let less : word / 2 ^ by ≤ word = div-le_self word (2 ^ by) in
    or_lt 32 (word / 2 ^ by) (word * 2 ^ ((32 - by) % 32) % 2 ^ 32) (omega (arith, short, less))
    (mod-lt (word * 2 ^ ((32 - by) % 32)) (pow_pos 32))

pub drawn_short : (n : ℕ) (generator : Lcg) → AllByRecursion IsShort (given_words n (Drawing generator))
unfolding given_words
drawn_short zero generator = tt
drawn_short (suc n) generator = (word_short generator, drawn_short n (pcg32 generator).1)

counted : (n first : ℕ) → given_words n (Counting (first % 2 ^ 32)) ≡ map (λ k. k % 2 ^ 32) (range_with_len first n)
unfolding given_words
counted zero first = refl
counted (suc n) first =
    let next : (first % 2 ^ 32 + 1) % 2 ^ 32 ≡ (first + 1) % 2 ^ 32 = omega arith in
    ap (λ (words : List ℕ). first % 2 ^ 32 ∷ words)
    (ap (λ k. given_words n (Counting k)) next ∙ counted n (first + 1))

pub count_up : WordsCountUp
count_up n first small =
    let same : first ≡ first % 2 ^ 32 = omega arith in ap (λ k. given_words n (Counting k)) same ∙ counted n first

pub are_drawn : WordsAreDrawn
unfolding given_words drawn_words
are_drawn zero generator = refl
are_drawn (suc n) generator =
    ap (λ (words : List ℕ). (pcg32 generator).0 ∷ words) (are_drawn n (pcg32 generator).1)
