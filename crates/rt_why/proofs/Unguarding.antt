-- A cell that is not guarded: its points are there, and they make the witness.
use Rattle.std.proofs.Common.{◌≡◌, ◌≢◌, ◌||◌, ◌==◌, Bool, true, false, not, ℕ, suc, List, [], ◌∷◌, length}
use Rattle.std.proofs.Common.{get_or, position, is_some, Option, Some, None, refl, sym, ap, subst}
use Rattle.std.proofs.Common.{◌∙◌, arith}
use Rattle.std.specs.List.{list_all, list_any}
use Rattle.std.proofs.lemmas.Bool.{eqb-true}
use Rattle.std.proofs.lemmas.List.Quantifiers.{position-Some}
use Rattle.std.proofs.lemmas.Option.{none-some, slice_get-get_or}
use Rattle.rt_lemmas.proofs.Bools.{not_false, not_true, and_both, left_of_none, right_of_none}
use Rattle.rt_lemmas.proofs.Membership.{all_has}
use Rattle.rt_ids.proofs.Lists.{is_some-position}
use Rattle.rt_ids.specs.Choice.{IsIn}
use Rattle.rt_ids.specs.declared.ids.Section.{Section}
use Rattle.rt_code.specs.Access.{Access}
use Rattle.rt_code.specs.Image.{Image}
use Rattle.rt_points.specs.ExecutionPriority.{owner_value}
use Rattle.rt_points.specs.Leading.{IsPoint}
use Rattle.rt_points.specs.Point.{Point}
use Rattle.rt_points.specs.Rules.{Touches, IsStore}
use Rattle.rt_judge.specs.Inside.Looks.{Looked}
use Rattle.rt_judge.specs.Inside.Touching.{Toucher, TellsOfTouching, IsTouching, SomeIfTrue, is_row_guarded}
use Rattle.rt_judge.specs.declared.findings.Findings.{Findings}
use Rattle.rt_judge.specs.declared.touching.Touching.{Touching}
use Rattle.rt_why.proofs.Breaking.{NoneIs}
use Rattle.rt_why.specs.Inside.Rows.{IsUnguardedRow}
use Rattle.rt_why.specs.Inside.Searches.{IsFound}
use Rattle.rt_why.specs.Inside.Wanted.{TouchAt}
use Rattle.rt_why.specs.Witness.{AreOutside, IsUnguarded}
use Rattle.rt_why.specs.declared.witness.Unguarded.{Unguarded}
use Rattle.rt_why.specs.declared.wanted.Wanted.TheVariants as want

-- all that is looked for of a cell is there
pub record AllAreThere (img : Image) (cell : ℕ) : Type 0 where
  pub stored : ¬ NoneIs img (want.Store cell)
  pub touched : ¬ NoneIs img (want.Touch cell)
  pub differ : (value : ℕ) → ¬ NoneIs img (want.Other cell value)
  pub outside : (x : Section) → ¬ NoneIs img (want.Outside cell x)

module _ (img : Image) (f : Findings) (looked : Looked img f) (cell : ℕ) where
  -- a toucher is at a point at which nothing is looked for
  at_point : (p : Point) (a : Access) → Toucher img looked.points cell p a → IsPoint img p
  at_point p a t = all_has (IsPoint img) looked.points p looked.sound t.seen

  there_of : (t : Touching) → IsTouching img looked.points cell t → (b : Bool)
      → SomeIfTrue b (λ p a. Toucher img looked.points cell p a × IsStore a) → (d : Bool)
      → SomeIfTrue d (λ p a. Toucher img looked.points cell p a × (owner_value img p.owner ≢ t.value))
      → (not b || (not d || not (length t.sections.items == 0))) ≡ false → AllAreThere img cell
  there_of t is false none d differ fail = absurd cc
  there_of t is true some false same fail = absurd cc
  there_of t is true (p, a, stores) true (q, b, differs) fail = record {
    stored = λ none.
        let s = stores.0 in
        none p (at_point p a s) s.instr s.told a s.outside s.stands s.by s.touches stores.1;
    touched = λ none.
        let s = stores.0 in
        none p (at_point p a s) s.instr s.told a s.outside s.stands s.by s.touches;
    differ = λ value none.
        let s = is.touches in
        let o = differs.0 in
        let first : owner_value img is.first.owner ≡ value =
        none is.first (at_point is.first is.access s) s.instr s.told is.access s.outside s.stands s.by s.touches in
        let second : owner_value img q.owner ≡ value = none q (at_point q b o) o.instr o.told b o.outside o.stands o.by
        o.touches in
        differs.1 (second ∙ sym first ∙ is.value);
    outside = λ x none. none_open t.sections.items refl fail x (is.guarding x (λ r c h. none r (at_point r c h) h.instr
        h.told c h.outside h.stands h.by h.touches));
  }
    where
      none_open : (xs : List Section) → xs ≡ t.sections.items → not (length xs == 0) ≡ false → (x : Section)
          → IsIn t.sections.items x → ⊥
      none_open [] e fail x inside = let bad : IsIn [] x = subst (λ ys. IsIn ys x) (sym e) inside in none-some x bad.1
      none_open (y ∷ xs) e fail x inside =
          absurd (let zero : suc (length xs) ≡ 0 = eqb-true (suc (length xs)) 0
          (not_false (suc (length xs) == 0) fail) in omega (arith, zero))

  there_in : (row : Option Touching) → TellsOfTouching img looked.points cell row → is_row_guarded row ≡ false
      → AllAreThere img cell
  there_in None none fail = absurd cc
  there_in (Some t) is fail = there_of t is t.stored is.stored t.differ is.differ fail

  pub all_are_there : IsUnguardedRow f.cells.rows.items cell → AllAreThere img cell
  all_are_there row = there_in row.row (looked.finds.cells cell row.row row.there) row.unguarded

-- a point at which the cell is touched
abbrev pub touches_at : (img : Image) (cell : ℕ) (P : Access → Type 0) (p : Point) → IsPoint img p
    → TouchAt img p cell P → Touches img cell p
touches_at img cell P p is t = record {
  outside = t.outside;
  instr = t.instr;
  told = t.told;
  stands = (is, t.stands);
  access = t.access;
  by = t.by;
  touches = t.touches;
}

-- the row of a cell that is not guarded, or each is
pub unguarded_at : (rows : List (Option Touching)) (cell : ℕ)
    → position (λ row. not (is_row_guarded row)) rows ≡ Some cell → IsUnguardedRow rows cell
unguarded_at rows cell at =
    let there = position-Some (λ (row : Option Touching). not (is_row_guarded row)) rows cell None at in
    record {
      row = get_or rows cell None;
      there = slice_get-get_or rows cell None there.0;
      unguarded = not_true (is_row_guarded (get_or rows cell None)) there.1;
    }

none_fails : {X : Type 0} (f : X → Bool) (xs : List X) → list_any (λ x. not (f x)) xs ≡ false → list_all f xs ≡ true
none_fails f [] none = refl
none_fails f (x ∷ xs) none = and_both (f x) (list_all f xs)
    (not_false (f x) (left_of_none (not (f x)) (list_any (λ y. not (f y)) xs) none))
    (none_fails f xs (right_of_none (not (f x)) (list_any (λ y. not (f y)) xs) none))

pub all_guarded : (rows : List (Option Touching)) → position (λ row. not (is_row_guarded row)) rows ≡ None
    → list_all is_row_guarded rows ≡ true
all_guarded rows none = none_fails is_row_guarded rows
    (sym (is_some-position (λ (row : Option Touching). not (is_row_guarded row)) rows) ∙ ap is_some none)

-- the points of a cell make the witness
pub makes_unguarded : (img : Image) (u : Unguarded) → IsFound img (want.Store u.cell) u.storer
    → IsFound img (want.Touch u.cell) u.one
    → IsFound img (want.Other u.cell (owner_value img u.one.owner)) u.other
    → AreOutside img u.cell u.one.inside u.outside.items → IsUnguarded img u
makes_unguarded img u stored one other outside = record {
  stored = touches_at img u.cell IsStore u.storer stored.0 stored.1;
  is_store = stored.1.is;
  one = touches_at img u.cell (λ a. Unit {0}) u.one one.0 one.1;
  other = touches_at img u.cell (λ a. owner_value img u.other.owner ≢ owner_value img u.one.owner) u.other other.0
      other.1;
  differ = λ same. other.1.is (sym same);
  outside = outside;
}
