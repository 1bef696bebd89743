-- What a reader has read stands: the image so far is loadable, and its text so far is what was read.
use Rattle.std.proofs.Common.{◌≡◌, ◌⊎◌, ◌≤◌, ◌+◌, ℕ, zero, suc, Bool, true, false, not, ◌==◌, ◌||◌, List, [], ◌∷◌, ◌++◌}
use Rattle.std.proofs.Common.{length, flat_map, if◌then◌else◌, refl, ap, sym, ◌∙◌, arith, append_assoc, append-nil}
use Rattle.std.specs.List.{Contains}
use Rattle.std.proofs.lemmas.List.Concat.{flat_map-append}
use Rattle.rt_lines.specs.Numbers.{Is32Bits}
use Rattle.rt_lemmas.proofs.Bools.{not_true, left_of_none, right_of_none, true_and_false}
use Rattle.rt_ids.specs.Lists.{is_empty}
use Rattle.rt_ids.specs.Names.{Names, resource_of}
use Rattle.rt_ids.specs.declared.limits.TheConstants.{CODE_SIZE, SHARED}
use Rattle.rt_code.specs.Image.{Image}
use Rattle.rt_code.specs.Listable.{IsWord, blanks}
use Rattle.rt_listing.specs.Listing.{first_line, lines_with_numbers, cell_line, irq_line, body_line, code_line}
use Rattle.rt_load.specs.Loadable.{IsLoadable, has_dot}
use Rattle.rt_load.specs.Inside.Taking.{has_blank, may_name_cell, is_new_resource}
use Rattle.rt_load.specs.declared.front.Front.{Front}
use Rattle.rt_load.proofs.Declared.{IsNew, new_from}

-- the text of what was read
abbrev pub front_text : Front → List ℕ
front_text front =
    first_line front.image front.code front.cells ++ lines_with_numbers cell_line 0 front.image.cells
    ++ flat_map irq_line front.image.irqs ++ flat_map (body_line front.image.names) front.image.bodies
    ++ lines_with_numbers (code_line front.image.names) 0 front.image.code

-- nothing behind the cells is read
pub record IsInCells (img : Image) : Type 0 where
  pub irqs : img.irqs ≡ []
  pub bodies : img.bodies ≡ []
  pub code : img.code ≡ []

pub record Stands (front : Front) : Type 0 where
  pub loadable : IsLoadable front.image
  pub few_lines : front.code ≤ CODE_SIZE
  pub few_cells : Is32Bits front.cells
  pub cells : length front.image.cells ≤ front.cells
  pub code : length front.image.code ≤ front.code
  pub full : (length front.image.cells ≡ front.cells) ⊎ IsInCells front.image

numbered_push : {A : Type 0} (line : ℕ → A → List ℕ) (n : ℕ) (xs : List A) (x : A)
    → lines_with_numbers line n (xs ++ x ∷ []) ≡ lines_with_numbers line n xs ++ line (n + length xs) x
numbered_push line n [] x = let e : n + 0 ≡ n = omega arith in rw e (append-nil (line n x))
numbered_push line n (y ∷ xs) x =
    let e : suc n + length xs ≡ n + suc (length xs) = omega arith in
    ap (λ t. line n y ++ t) (numbered_push line (suc n) xs x ∙ ap (λ k. lines_with_numbers line (suc n) xs ++ line k x)
    e)
    ∙ sym (append_assoc (line n y) (lines_with_numbers line (suc n) xs) (line (n + suc (length xs)) x))

pub numbered_next : {A : Type 0} (line : ℕ → A → List ℕ) (xs : List A) (x : A)
    → lines_with_numbers line 0 (xs ++ x ∷ []) ≡ lines_with_numbers line 0 xs ++ line (length xs) x
numbered_next line xs x =
    let e : 0 + length xs ≡ length xs = omega arith in
    numbered_push line 0 xs x ∙ ap (λ k. lines_with_numbers line 0 xs ++ line k x) e

pub flat_push : {A : Type 0} (f : A → List ℕ) (xs : List A) (x : A) → flat_map f (xs ++ x ∷ []) ≡ flat_map f xs ++ f x
flat_push f xs x = flat_map-append f xs (x ∷ []) ∙ ap (λ t. flat_map f xs ++ t) (append-nil (f x))

pub empty_from : {A : Type 0} (xs : List A) → is_empty xs ≡ true → xs ≡ []
empty_from [] h = refl
empty_from (x ∷ xs) h = absurd (cc)

-- a name without blanks is a word
blank_is : (b : ℕ) → (((b == 9) || (b == 10)) || (b == 13) || (b == 32)) ≡ false → ¬ Contains blanks b
blank_is b h (zero, within, is) =
    let first = left_of_none (((b == 9) || (b == 10)) || (b == 13)) (b == 32) h in
    true_and_false (b == 9) (ap (λ n. n == 9) (sym is)) (left_of_none (b == 9) (b == 10)
    (left_of_none ((b == 9) || (b == 10)) (b == 13) first))
blank_is b h (suc zero, within, is) =
    let first = left_of_none (((b == 9) || (b == 10)) || (b == 13)) (b == 32) h in
    true_and_false (b == 10) (ap (λ n. n == 10) (sym is))
    (right_of_none (b == 9) (b == 10) (left_of_none ((b == 9) || (b == 10)) (b == 13) first))
blank_is b h (suc (suc zero), within, is) =
    let first = left_of_none (((b == 9) || (b == 10)) || (b == 13)) (b == 32) h in
    true_and_false (b == 13) (ap (λ n. n == 13) (sym is)) (right_of_none ((b == 9) || (b == 10)) (b == 13) first)
blank_is b h (suc (suc (suc zero)), within, is) =
    true_and_false (b == 32) (ap (λ n. n == 32) (sym is))
    (right_of_none (((b == 9) || (b == 10)) || (b == 13)) (b == 32) h)
blank_is b h (suc (suc (suc (suc k))), within, is) = absurd (omega arith)

word_from : (name : List ℕ) → has_blank name ≡ false → IsWord name
word_from [] h = tt
word_from (b ∷ name) h = (
  blank_is b (left_of_none ((((b == 9) || (b == 10)) || (b == 13)) || (b == 32)) (has_blank name) h),
  word_from name (right_of_none ((((b == 9) || (b == 10)) || (b == 13)) || (b == 32)) (has_blank name) h),
)

-- what a cell may be named
pub data CellNamed (names : Names) (name : List ℕ) : Type 0 where
  Dotted : (dot : has_dot name ≡ true) → (word : IsWord name) → CellNamed names name
  Resource : (no_dot : has_dot name ≡ false) → (new : IsNew name (resource_of names name) (length names.shared) SHARED)
      → CellNamed names name

pub cell_named : (names : Names) (name : List ℕ) → may_name_cell names name ≡ true → CellNamed names name
cell_named names name h = by (has_dot name) refl h
  where
    by : (b : Bool) → has_dot name ≡ b → (if b then not (has_blank name) else is_new_resource names name) ≡ true
        → CellNamed names name
    by true dot h = Dotted dot (word_from name (not_true (has_blank name) h))
    by false dot h = Resource dot (new_from name (resource_of names name) (length names.shared) SHARED h)
