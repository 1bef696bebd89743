-- The words of the language by their first bytes.
use Rattle.std.specs.Prelude.{ℕ, Bool, bytes_eq, ◌==◌, List, slice_index, filter}
use Rattle.std.specs.List.{list_any}
use Rattle.rt_ids.specs.Word.{language_words}

-- whether a text is one of these
abbrev pub is_one_of : List (List ℕ) → List ℕ → Bool
is_one_of texts text = list_any (λ w. bytes_eq text w) texts

-- the words of the language that begin with this byte
abbrev pub words_from : ℕ → List (List ℕ)
words_from first = filter (λ w. slice_index w 0 == first) language_words
