-- What a device gives, part after part.
use Rattle.std.proofs.Common.{◌≡◌, ℕ, ◌+◌, ◌<◌, ◌≤◌, List, [], ◌∷◌, ◌++◌, length, take, drop}
use Rattle.std.proofs.Common.{get_or, Some, None, refl, ap, sym, subst, ◌∙◌, append_assoc, arith}
use Rattle.std.proofs.Common.{append-nil}
use Rattle.std.proofs.lemmas.List.{map-append, length-map, length-append}
use Rattle.std.proofs.lemmas.List.{take-append-drop}
use Rattle.std.proofs.lemmas.Grind.{flat_map-append}
use Rattle.rt_lemmas.proofs.Lists.{flat_map_next}
use Rattle.rt_values.specs.declared.call.Given.{Given}
use Rattle.rt_values.specs.declared.call.Call.{Call}
use Rattle.rt_values.specs.declared.call.Call.TheVariants.{Give}
use Rattle.rt_values.specs.Sides.{GiverSide}
use Rattle.rt_given.specs.Given.{count_of}
use Rattle.rt_given.specs.Words.{given_words, source_of, words_by, words_asked}
use Rattle.rt_given.specs.declared.line.GivenLine.{GivenLine}
use Rattle.rt_given.specs.declared.source.Source.{Source}
use Rattle.rt_live_inputs.specs.Giving.{Gave, word_given, words_in}
use Rattle.rt_live_inputs.specs.declared.device.GivingDevice.{GivingDevice}

-- the words of a line, by its source
pub words_none : (line : GivenLine) → source_of line ≡ None → words_asked line ≡ []
words_none line is = ap (words_by (count_of line)) is

pub words_some : (line : GivenLine) (s : Source) → source_of line ≡ Some s
    → words_asked line ≡ given_words (count_of line) s
words_some line s is = ap (words_by (count_of line)) is

-- no word
pub gave_none : (a : GivingDevice) → Gave [] a a
gave_none a = record {
  calls = [];
  given = refl;
  same =
      ap (λ (cs : List Call). record a { giver = record a.giver { calls = cs } }) (sym (append-nil a.giver.calls));
}

-- one word
pub gave_one : (a : GivingDevice) (giver : GiverSide) (word : ℕ) (answer : Given)
    → giver ≡ record a.giver { calls = a.giver.calls ++ Give word answer ∷ [] }
    → Gave (word ∷ []) a (record a { giver = giver })
gave_one a giver word answer is = record {
  calls = Give word answer ∷ [];
  given = refl;
  same = ap (λ (g : GiverSide). record a { giver = g }) is;
}

-- one part after another
pub gave_on : (words more : List ℕ) (a b c : GivingDevice) → Gave words a b → Gave more b c → Gave (words ++ more) a c
gave_on words more a b c p q = record {
  calls = p.calls ++ q.calls;
  given =
      map-append word_given p.calls q.calls
      ∙ (λ i. p.given i ++ q.given i)
      ∙ sym (map-append (λ (w : ℕ). Some w) words more);
  same =
      q.same
      ∙ ap (λ (d : GivingDevice). record d { giver = record d.giver { calls = d.giver.calls ++ q.calls } }) p.same
      ∙ ap (λ (cs : List Call). record a { giver = record a.giver { calls = cs } })
      (append_assoc a.giver.calls p.calls q.calls);
}

-- the giver has so many calls more
pub calls_length : (words : List ℕ) (a b : GivingDevice) → Gave words a b
    → length b.giver.calls ≡ length a.giver.calls + length words
calls_length words a b p =
    omega (
      arith,
      ap (λ (d : GivingDevice). length d.giver.calls) p.same,
      length-append a.giver.calls p.calls,
      length-map p.calls word_given,
      length-map words (λ (w : ℕ). Some w),
      ap length p.given,
    )

-- the words of some first lines are no more than all
words_few : (lines : List GivenLine) (i : ℕ) → length (words_in (take i lines)) ≤ length (words_in lines)
words_few lines i =
    omega (
      arith,
      ap (λ (s : List GivenLine). length (words_in s)) (take-append-drop i lines),
      ap length (flat_map-append words_asked (take i lines) (drop i lines)),
      length-append (words_in (take i lines)) (words_in (drop i lines)),
    )

-- a device that has given the words of the first lines, and the next line
module _ (a b : GivingDevice) (i : ℕ) (line : GivenLine) (below : i < length a.lines.items)
    (found : line ≡ get_or b.lines.items i line) (gave : Gave (words_in (take i a.lines.items)) a b) where
  abbrev lines : List GivenLine
  lines = a.lines.items

  words_more : words_in (take (i + 1) lines) ≡ words_in (take i lines) ++ words_asked line
  words_more =
      flat_map_next words_asked lines i line below
      (found ∙ ap (λ (d : GivingDevice). get_or d.lines.items i line) gave.same)

  pub words_grow : length (words_in (take (i + 1) lines)) ≡ length (words_in (take i lines)) + length (words_asked line)
  words_grow =
      omega (arith, ap length words_more, length-append (words_in (take i lines)) (words_asked line))

  -- the words so far, with the line's, are no more than all
  pub words_within : length (words_in (take i lines)) + length (words_asked line) ≤ length (words_in lines)
  words_within = omega (arith, words_grow, words_few lines (i + 1))

  -- the giver has room for the line
  pub room_left : (most : ℕ) → length a.giver.calls + length (words_in lines) < most
      → length b.giver.calls + length (words_asked line) < most
  room_left most room = omega (arith, words_within, calls_length (words_in (take i lines)) a b gave, room)

  pub line_done : (c : GivingDevice) → Gave (words_asked line) b c → Gave (words_in (take (i + 1) lines)) a c
  line_done c then =
      subst (λ (words : List ℕ). Gave words a c) (sym words_more)
      (gave_on (words_in (take i lines)) (words_asked line) a b c gave then)
