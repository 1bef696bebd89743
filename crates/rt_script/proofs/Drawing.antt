-- The lines of a script, one more word drawn.
use Rattle.std.proofs.Common.{◌≡◌, ℕ, suc, ◌+◌, ◌-◌, ◌*◌, ◌<◌, ◌≤◌, List, [], ◌∷◌, ◌++◌, map, Bool, true, Result, Ok}
use Rattle.std.proofs.Common.{nat_le, ap, sym, ◌∙◌, append_assoc, arith}
use Rattle.std.proofs.lemmas.Bool.{le-leb}
use Rattle.std.proofs.lemmas.List.{append-nil}
use Rattle.std.proofs.lemmas.List.Sums.{sum_by_push}
use Rattle.rand_pcg.specs.Lcg.{Lcg}
use Rattle.rand_pcg.specs.Pcg.{pcg32}
use Rattle.rt_ids.specs.declared.limits.TheConstants.{SCRIPT_EVENTS}
use Rattle.rt_ids.specs.declared.memory.NoMemory.{NoMemory}
use Rattle.rt_script.specs.Generated.{drawn_words}
use Rattle.rt_script.specs.Script.{count, count_of}
use Rattle.rt_script.specs.declared.line.Line.{Line}

-- the lines of the words to come, the first of them drawn
pub lines_more : (f : ℕ → Line) (word count n : ℕ) (lines all : List Line) (g next : Lcg) → n < count
    → (word, next) ≡ pcg32 g → lines ++ map f (drawn_words (count - n) g) ≡ all
    → (lines ++ f word ∷ []) ++ map f (drawn_words (count - (n + 1)) next) ≡ all
unfolding drawn_words
lines_more f word count n lines all g next within drew before =
    let rest : ℕ = count - (n + 1) in
    let one : count - n ≡ suc rest = omega arith in
    append_assoc lines (f word ∷ []) (map f (drawn_words rest next))
    ∙ ap (λ (w : ℕ × Lcg). lines ++ f w.0 ∷ map f (drawn_words rest w.1)) drew
    ∙ ap (λ k. lines ++ map f (drawn_words k g)) (sym one)
    ∙ before

-- no word is to come
pub lines_all : (f : ℕ → Line) (count n : ℕ) (lines all : List Line) (g : Lcg) → count ≤ n
    → lines ++ map f (drawn_words (count - n) g) ≡ all → lines ≡ all
unfolding drawn_words
lines_all f count n lines all g over before =
    sym (append-nil lines)
    ∙ ap (λ k. lines ++ map f (drawn_words k g)) (let none : 0 ≡ count - n = omega arith in none) ∙ before

-- a line has room, so that it is pushed
pub has_room : (old new : List Line) (line : Line) (fits : Bool) (result : Result Bool NoMemory) → result ≡ Ok fits
    → fits ≡ nat_le (count old + count_of line) SCRIPT_EVENTS → count old + count_of line ≤ SCRIPT_EVENTS
    → (result ≡ Ok true → new ≡ old ++ line ∷ []) → new ≡ old ++ line ∷ []
has_room old new line fits result is tells few pushed =
    pushed (is ∙ ap Ok (tells ∙ le-leb (count old + count_of line) SCRIPT_EVENTS few))

-- a line more is so many events more
pub count_push : (old new : List Line) (line : Line) (k n : ℕ) → new ≡ old ++ line ∷ [] → count old ≤ k * n
    → count_of line ≤ k → count new ≤ k * (n + 1)
count_push old new line k n is few short =
    let more : count new ≡ count old + count_of line = ap count is ∙ sum_by_push count_of old line in
    grind (arith, more, few, short)
