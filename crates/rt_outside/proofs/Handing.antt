-- Lines of a text that go out as they end.
use Rattle.std.proofs.Common.{◌≡◌, ◌<◌, ℕ, suc, ◌+◌, Bool, true, false, cond, ◌==◌, List, [], ◌∷◌, ◌++◌, length, refl}
use Rattle.std.proofs.Common.{ap, sym, ◌∙◌, subst, arith, append_assoc, append-nil, length-append, if◌then◌else◌}
use Rattle.std.specs.List.{slice_split, onto_first}
use Rattle.std.proofs.lemmas.List.Splits.{slice_split-cons_no}
use Rattle.rt_ids.specs.Lists.{is_empty}
use Rattle.rt_lines.specs.Parts.{lines, lines_of_parts, parts}
use Rattle.rt_lines.proofs.Splitting.{split_some, not_empty}
use Rattle.rt_outside.specs.Lines.{HasHanded}
use Rattle.rt_outside.specs.Inside.Handed.{HoldsLast, IsUnended, LeavesOf}

no_end : (bs : List (List ℕ)) (last : List ℕ) → [] ≡ bs ++ last ∷ [] → ⊥
no_end [] last e = cc
no_end (b ∷ bs) last e = cc

-- what splits here splits so with these bytes behind it
abbrev Splits : (ℕ → Bool) → List ℕ → List ℕ → Type 0
Splits p xs ys =
    (before : List (List ℕ)) (last : List ℕ) → slice_split p xs ≡ before ++ last ∷ [] → slice_split p (xs ++ ys)
    ≡ before ++ slice_split p (last ++ ys)

split_at : (p : ℕ → Bool) (x : ℕ) (xs ys : List ℕ) (ends : Bool) → p x ≡ ends → Splits p xs ys
    → (before : List (List ℕ)) (last : List ℕ)
    → cond ends ([] ∷ slice_split p xs) (onto_first x (slice_split p xs)) ≡ before ++ last ∷ []
    → cond ends ([] ∷ slice_split p (xs ++ ys)) (onto_first x (slice_split p (xs ++ ys))) ≡ before
    ++ slice_split p (last ++ ys)
split_at p x xs ys true test on [] last e =
    let some = split_some p xs in
    let none : slice_split p xs ≡ [] = cc in
    let both : some.0 ∷ some.1 ≡ [] = sym some.2 ∙ none in
    absurd cc
split_at p x xs ys true test on (b ∷ bs) last e =
    let first : [] ≡ b = cc in
    let others : slice_split p xs ≡ bs ++ last ∷ [] = cc in
    ap (λ (l : List ℕ). l ∷ slice_split p (xs ++ ys)) first ∙ ap (λ (ls : List (List ℕ)). b ∷ ls) (on bs last others)
split_at p x xs ys false test on [] last e =
    let some = split_some p xs in
    let all : (x ∷ some.0) ∷ some.1 ≡ last ∷ [] = ap (onto_first x) (sym some.2) ∙ e in
    let first : x ∷ some.0 ≡ last = cc in
    let none : some.1 ≡ [] = cc in
    ap (onto_first x) (on [] some.0 (some.2 ∙ ap (λ (ls : List (List ℕ)). some.0 ∷ ls) none))
    ∙ sym (slice_split-cons_no p x (some.0 ++ ys) test)
    ∙ ap (λ (l : List ℕ). slice_split p (l ++ ys)) first
split_at p x xs ys false test on (b ∷ bs) last e =
    let some = split_some p xs in
    let all : (x ∷ some.0) ∷ some.1 ≡ b ∷ (bs ++ last ∷ []) = ap (onto_first x) (sym some.2) ∙ e in
    let first : x ∷ some.0 ≡ b = cc in
    let others : some.1 ≡ bs ++ last ∷ [] = cc in
    ap (onto_first x) (on (some.0 ∷ bs) last (some.2 ∙ ap (λ (ls : List (List ℕ)). some.0 ∷ ls) others))
    ∙ ap (λ (l : List ℕ). l ∷ (bs ++ slice_split p (last ++ ys))) first

-- a text is split as its last part is, with more behind it
split_on : (p : ℕ → Bool) (xs ys : List ℕ) → Splits p xs ys
split_on p [] ys [] last e = let none : [] ≡ last = cc in ap (λ (l : List ℕ). slice_split p (l ++ ys)) none
split_on p [] ys (b ∷ bs) last e = let more : [] ≡ bs ++ last ∷ [] = cc in absurd (no_end bs last more)
split_on p (x ∷ xs) ys before last e = split_at p x xs ys (p x) refl (split_on p xs ys) before last e

-- a beginning without an end belongs to the first part
first_at : (p : ℕ → Bool) (x : ℕ) (h rest line : List ℕ) (more : List (List ℕ)) (ends : Bool)
    → (slice_split p h ≡ h ∷ [] → slice_split p (h ++ rest) ≡ (h ++ line) ∷ more)
    → cond ends ([] ∷ slice_split p h) (onto_first x (slice_split p h)) ≡ (x ∷ h) ∷ []
    → cond ends ([] ∷ slice_split p (h ++ rest)) (onto_first x (slice_split p (h ++ rest))) ≡ (x ∷ (h ++ line)) ∷ more
first_at p x h rest line more true on e = let none : [] ≡ x ∷ h = cc in absurd cc
first_at p x h rest line more false on e =
    let some = split_some p h in
    let all : (x ∷ some.0) ∷ some.1 ≡ (x ∷ h) ∷ [] = ap (onto_first x) (sym some.2) ∙ e in
    let first : some.0 ≡ h = cc in
    let none : some.1 ≡ [] = cc in
    ap (onto_first x) (on (some.2 ∙ (ap (λ (l : List ℕ). l ∷ some.1) first ∙ ap (λ (ls : List (List ℕ)). h ∷ ls) none)))

first_on : (p : ℕ → Bool) (h rest line : List ℕ) (more : List (List ℕ)) → slice_split p h ≡ h ∷ [] → slice_split p rest
    ≡ line ∷ more → slice_split p (h ++ rest) ≡ (h ++ line) ∷ more
first_on p [] rest line more whole splits = splits
first_on p (x ∷ h) rest line more whole splits = first_at p x h rest line more (p x)
    (λ one. first_on p h rest line more one splits) whole

abbrev feeds : ℕ → Bool
feeds b = b == 10

module _ (came : List (List ℕ) → Type 0) where
  -- a piece more
  pub piece_comes : (text held piece : List ℕ) (count : ℕ) → HoldsLast came text held count
      → LeavesOf came (text ++ piece) (held ++ piece) count
  piece_comes text held piece count h = record {
    before = h.leaves.before;
    splits = split_on feeds text piece h.leaves.before held (h.leaves.splits
        ∙ ap (λ (ls : List (List ℕ)). h.leaves.before ++ ls) h.unended);
    number_is = h.leaves.number_is;
    are_out = h.leaves.are_out;
  }

  -- a line more is out
  pub line_goes : (later : List (List ℕ) → Type 0) (text held rest end behind : List ℕ) (count : ℕ)
      → LeavesOf came text (held ++ rest) count → IsUnended held → parts 10 rest ≡ end ∷ parts 10 behind
      → ((ls : List (List ℕ)) → suc (length ls) ≡ count + 1 → came ls → later (ls ++ (held ++ end) ∷ []))
      → LeavesOf later text behind (count + 1)
  line_goes later text held rest end behind count at unended cut goes =
      let number : count ≡ length at.before = at.number_is in
      record {
        before = at.before ++ (held ++ end) ∷ [];
        splits =
            at.splits
            ∙ (ap (λ (ls : List (List ℕ)). at.before ++ ls) (first_on feeds held rest end (parts 10 behind) unended cut)
            ∙ sym (append_assoc at.before ((held ++ end) ∷ []) (parts 10 behind)));
        number_is = omega (arith, number, length-append at.before ((held ++ end) ∷ []));
        are_out = goes at.before (omega (arith, number)) at.are_out;
      }

  -- no line ends in what is left
  pub rest_held : (text held rest : List ℕ) (count : ℕ) → LeavesOf came text (held ++ rest) count → IsUnended held
      → IsUnended rest → HoldsLast came text (held ++ rest) count
  rest_held text held rest count at unended none = record {
    leaves = at;
    unended =
        first_on feeds held rest rest [] unended none;
  }

lines_end : (before : List (List ℕ)) (held : List ℕ) → lines_of_parts (before ++ held ∷ []) ≡ before
    ++ (if is_empty held then [] else held ∷ [])
lines_end [] held = refl
lines_end (b ∷ []) held = refl
lines_end (b ∷ c ∷ bs) held = ap (λ (ls : List (List ℕ)). b ∷ ls) (lines_end (c ∷ bs) held)

lines_held : (came : List (List ℕ) → Type 0) (text held : List ℕ) (count : ℕ) → (h : HoldsLast came text held count)
    → lines text ≡ h.leaves.before ++ (if is_empty held then [] else held ∷ [])
lines_held came text held count h =
    ap lines_of_parts (h.leaves.splits ∙ ap (λ (ls : List (List ℕ)). h.leaves.before ++ ls) h.unended)
    ∙ lines_end h.leaves.before held

-- nothing is held at the end
pub all_out : (came : List (List ℕ) → Type 0) (text held : List ℕ) (count : ℕ) → held ≡ []
    → HoldsLast came text held count → (count ≡ length (lines text)) × came (lines text)
all_out came text held count none h =
    let number : count ≡ length h.leaves.before = h.leaves.number_is in
    let whole : lines text ≡ h.leaves.before =
    lines_held came text held count h
    ∙ (ap (λ (l : List ℕ). h.leaves.before ++ (if is_empty l then [] else l ∷ [])) none ∙ append-nil h.leaves.before) in
    (number ∙ ap length (sym whole), subst (λ (ls : List (List ℕ)). came ls) (sym whole) h.leaves.are_out)

-- the last line goes out at the end
pub last_goes : (came later : List (List ℕ) → Type 0) (text held : List ℕ) (count : ℕ) → 0 < length held
    → HoldsLast came text held count
    → ((ls : List (List ℕ)) → suc (length ls) ≡ count + 1 → came ls → later (ls ++ held ∷ []))
    → (count + 1 ≡ length (lines text)) × later (lines text)
last_goes came later text held count some h goes =
    let number : count ≡ length h.leaves.before = h.leaves.number_is in
    let whole : lines text ≡ h.leaves.before ++ held ∷ [] =
    lines_held came text held count h ∙ ap (λ (ls : List (List ℕ)). h.leaves.before ++ ls) (not_empty held some) in (
      omega (arith, number, ap length whole, length-append h.leaves.before (held ∷ [])),
      subst (λ (ls : List (List ℕ)). later ls) (sym whole)
          (goes h.leaves.before (omega (arith, number)) h.leaves.are_out),
    )

-- lines in front of a part go out before those of the part
lines_front : (before : List (List ℕ)) (part : List ℕ) (more : List (List ℕ)) → lines_of_parts (before ++ part ∷ more)
    ≡ before ++ lines_of_parts (part ∷ more)
lines_front [] part more = refl
lines_front (b ∷ []) part more = refl
lines_front (b ∷ c ∷ bs) part more = ap (λ (ls : List (List ℕ)). b ∷ ls) (lines_front (c ∷ bs) part more)

-- the lines that ended are out, what is held is not
pub handed_text : (came : List (List ℕ) → Type 0) (text held : List ℕ) (count : ℕ) → HoldsLast came text held count
    → HasHanded came text
handed_text came text held count h = record {
  first = h.leaves.before;
  others = if is_empty held then [] else held ∷ [];
  splits = lines_held came text held count h;
  are_out = h.leaves.are_out;
}

-- a piece more was given, whose lines are not out
pub handed_piece : (came : List (List ℕ) → Type 0) (text held piece : List ℕ) (count : ℕ)
    → HoldsLast came text held count → HasHanded came (text ++ piece)
handed_piece came text held piece count h =
    let more = piece_comes came text held piece count h in
    let some = split_some feeds (held ++ piece) in
    record {
      first = more.before;
      others = lines_of_parts (some.0 ∷ some.1);
      splits =
          ap lines_of_parts (more.splits ∙ ap (λ (ls : List (List ℕ)). more.before ++ ls) some.2)
          ∙ lines_front more.before some.0 some.1;
      are_out = more.are_out;
    }
