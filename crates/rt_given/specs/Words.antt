-- The words that a line of a device gives. They count up from a number modulo 2^32, or O'Neill's generator PCG XSH RR
-- 64/32 draws them (PCG: A Family of Simple Fast Space-Efficient Statistically Good Algorithms for Random Number
-- Generation, 2014), started at the number as its state, with the device's number as its sequence.
use Rattle.std.specs.Prelude.{◌≡◌, ℕ, zero, suc, ◌+◌, ◌%◌, ◌^◌, ◌<◌, List, [], ◌∷◌, map, Option, Some, None}
use Rattle.std.specs.List.{range_with_len}
use Rattle.rand_pcg.specs.Lcg.{Lcg}
use Rattle.rand_pcg.specs.Pcg.{pcg32}
use Rattle.rt_script.specs.Generated.{drawn_words, generator_of}
use Rattle.rt_given.specs.Given.{count_of}
use Rattle.rt_given.specs.declared.line.GivenLine.{GivenLine}
use Rattle.rt_given.specs.declared.line.GivenLine.TheVariants.{Counts, Draws}
use Rattle.rt_given.specs.declared.source.Source.{Source}
use Rattle.rt_given.specs.declared.source.Source.TheVariants.{Counting, Drawing}

-- the next word of a source
abbrev pub next_word : Source → ℕ
next_word (Counting word) = word
next_word (Drawing generator) = (pcg32 generator).0

-- the source behind it
abbrev pub next_source : Source → Source
next_source (Counting word) = Counting ((word + 1) % 2 ^ 32)
next_source (Drawing generator) = Drawing (pcg32 generator).1

-- so many words of a source, from the next one on
unfoldable pub given_words : ℕ → Source → List ℕ
given_words zero source = []
given_words (suc n) source = next_word source ∷ given_words n (next_source source)

-- the source of a line's words, where it asks for words
abbrev pub source_of : GivenLine → Option Source
source_of (Counts d irq n local first) = Some (Counting first)
source_of (Draws d irq n local seed) = Some (Drawing (generator_of seed d))
source_of line = None

-- so many words of a source, where there is one
abbrev pub words_by : ℕ → Option Source → List ℕ
words_by n None = []
words_by n (Some source) = given_words n source

-- the words of a line, one for each of its requests
abbrev pub words_asked : GivenLine → List ℕ
words_asked line = words_by (count_of line) (source_of line)

-- The words that count up from a number are that number and those behind it, modulo 2^32.
abbrev pub WordsCountUp : Type 0
WordsCountUp = (n first : ℕ) → first < 2 ^ 32 → given_words n (Counting first)
    ≡ map (λ k. k % 2 ^ 32) (range_with_len first n)

-- The words that are drawn are those of the generator, in order.
abbrev pub WordsAreDrawn : Type 0
WordsAreDrawn = (n : ℕ) (generator : Lcg) → given_words n (Drawing generator) ≡ drawn_words n generator
