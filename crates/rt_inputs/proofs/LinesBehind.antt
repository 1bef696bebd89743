-- The lines of labels and words, some behind others.
use Rattle.std.proofs.Common.{◌≡◌, ℕ, ◌+◌, List, [], ◌∷◌, ◌++◌, map, refl, sym, ap, ◌∙◌, append_assoc}
use Rattle.std.proofs.Common.{append-nil, arith}
use Rattle.std.proofs.lemmas.List.{map-append}
use Rattle.rt_trace.specs.Label.{Label, items_of, steps_of}
use Rattle.rt_trace.proofs.LabelsShown.{steps_cons}
use Rattle.rt_laws.specs.DeviceWords.{WithWords, One, Puts, ones, things}
use Rattle.rt_run.proofs.Advancing.{items-append}
use Rattle.rt_inputs.specs.Shown.{ShownLine, Shows, Input, lines_from}

-- behind a label no word is left to be shown
pub lines_behind : (front : List (WithWords Label)) (l : Label) (more : List (WithWords Label)) (n : ℕ)
    (words : List ShownLine)
    → lines_from n words (front ++ One l ∷ more)
    ≡ lines_from n words (front ++ One l ∷ [])
    ++ lines_from (n + steps_of (things (front ++ One l ∷ []))) [] more
lines_behind [] l more n words =
    let items = map Shows (items_of n (l ∷ [])) in
    let rest = lines_from (n + steps_of (l ∷ [])) [] more in
    sym (append_assoc items (words ++ []) rest ∙ ap (λ t. items ++ (t ++ rest)) (append-nil words))
lines_behind (One k ∷ front) l more n words =
    let items = map Shows (items_of n (k ∷ [])) in
    let m : ℕ = n + steps_of (k ∷ []) in
    let one = lines_from m [] (front ++ One l ∷ []) in
    let ls : List Label = things (front ++ One l ∷ []) in
    let behind = lines_from (m + steps_of ls) [] more in
    let count : m + steps_of ls ≡ n + steps_of (k ∷ ls) = omega (arith, steps_cons k ls) in
    ap (λ t. items ++ (words ++ t)) (lines_behind front l more m [])
    ∙ ap (λ t. items ++ t) (sym (append_assoc words one behind))
    ∙ sym (append_assoc items (words ++ one) behind)
    ∙ ap (λ j. (items ++ (words ++ one)) ++ lines_from j [] more) count
lines_behind (Puts local word ∷ front) l more n words =
    lines_behind front l more n (words ++ Input n local word ∷ [])

-- without words the lines are the items
pub lines_of_ones : (n : ℕ) (ls : List Label) → lines_from n [] (ones ls) ≡ map Shows (items_of n ls)
lines_of_ones n [] = refl
lines_of_ones n (l ∷ ls) =
    ap (λ t. map Shows (items_of n (l ∷ [])) ++ t) (lines_of_ones (n + steps_of (l ∷ [])) ls)
    ∙ sym (map-append Shows (items_of n (l ∷ [])) (items_of (n + steps_of (l ∷ [])) ls))
    ∙ ap (map Shows) (sym (items-append n (l ∷ []) ls))

-- words in front of a label
pub lines_of_words : (puts : List (WithWords Label)) (l : Label) (n : ℕ) (words : List ShownLine)
    → things puts ≡ []
    → lines_from n words (puts ++ One l ∷ []) ≡ map Shows (items_of n (l ∷ [])) ++ (words ++ lines_from n [] puts)
lines_of_words [] l n words only = refl
lines_of_words (One k ∷ puts) l n words only = absurd cc
lines_of_words (Puts local word ∷ puts) l n words only =
    lines_of_words puts l n (words ++ Input n local word ∷ []) only
    ∙ ap (λ t. map Shows (items_of n (l ∷ [])) ++ t)
    (append_assoc words (Input n local word ∷ []) (lines_from n [] puts)
    ∙ ap (λ t. words ++ t) (sym (alone puts n (Input n local word ∷ []) only)))
  where
    -- lines that are still to be shown come first
    alone : (puts : List (WithWords Label)) (n : ℕ) (words : List ShownLine) → things puts ≡ []
        → lines_from n words puts ≡ words ++ lines_from n [] puts
    alone [] n words only = sym (append-nil words)
    alone (One k ∷ puts) n words only = absurd cc
    alone (Puts local word ∷ puts) n words only =
        alone puts n (words ++ Input n local word ∷ []) only
        ∙ append_assoc words (Input n local word ∷ []) (lines_from n [] puts)
        ∙ ap (λ t. words ++ t) (sym (alone puts n (Input n local word ∷ []) only))
