-- The script of a number and a stream: for each of the first 200 words of a pseudorandom generator a line. The
-- generator is O'Neill's PCG XSH RR 64/32 (PCG: A Family of Simple Fast Space-Efficient Statistically Good Algorithms
-- for Random Number Generation, 2014), started at the number as its state, with the stream as its sequence. What a word
-- asks for is this project's own.
use Rattle.std.specs.Prelude.{ℕ, zero, suc, ◌+◌, ◌/◌, ◌%◌, ◌==◌, nat_lt, if◌then◌else◌, List, [], ◌∷◌, length, map}
use Rattle.std.specs.Prelude.{slice_index}
use Rattle.rand_pcg.specs.Lcg.{Lcg, started, increment_of}
use Rattle.rand_pcg.specs.Pcg.{multiplier_64, pcg32}
use Rattle.rt_script.specs.declared.line.Line.{Line}
use Rattle.rt_script.specs.declared.line.Line.TheVariants.{Steps, Ticks, Pends}

-- so many words of a generator, from the next one on
unfoldable pub drawn_words : ℕ → Lcg → List ℕ
drawn_words zero generator = []
drawn_words (suc n) generator = (pcg32 generator).0 ∷ drawn_words n (pcg32 generator).1

-- the generator of a number and a stream, of which no word is drawn yet
abbrev pub generator_of : ℕ → ℕ → Lcg
generator_of number stream = started 64 multiplier_64 number (increment_of 64 stream)

-- a request of one of the interrupts, or a tick where there are none
abbrev pub request_of : List ℕ → ℕ → Line
request_of [] index = Ticks 1
request_of (irq ∷ irqs) index = Pends (slice_index (irq ∷ irqs) (index % length (irq ∷ irqs))) 1

-- The line of a word, by its remainder by 8: up to 64 steps for a remainder below 5, up to 16 ticks for 5, and a
-- request for 6 and 7. The quotient by 8 says how many, or which interrupt.
abbrev pub generated_line : List ℕ → ℕ → Line
generated_line irqs word =
    if nat_lt (word % 8) 5 then Steps (1 + word / 8 % 64)
    else if word % 8 == 5 then Ticks (1 + word / 8 % 16) else request_of irqs (word / 8)

-- the script, where these interrupts are declared, in order
abbrev pub generated : List ℕ → ℕ → ℕ → List Line
generated irqs number stream = map (generated_line irqs) (drawn_words 200 (generator_of number stream))
