-- What a line tells of whether a point is looked for.
use Rattle.std.proofs.Common.{◌≡◌, ◌≢◌, ◌↔◌, ℕ, ◌≤◌, Bool, true, false, not, IsTrue, MatchBool, option_map}
use Rattle.std.proofs.Common.{slice_get, Option, Some, None, refl, sym, ap, subst, ◌∙◌, ⊎_elim, arith}
use Rattle.std.specs.List.{list_any}
use Rattle.std.proofs.lemmas.Bool.{cases_eq}
use Rattle.rt_actions.specs.Location.{is_same_section}
use Rattle.rt_ids.specs.Choice.{IsIn}
use Rattle.rt_ids.specs.declared.ids.Section.{Section}
use Rattle.rt_code.specs.Access.{Access, cell_of}
use Rattle.rt_code.specs.Image.{Image}
use Rattle.rt_code.specs.declared.instr.Instr.{Instr}
use Rattle.rt_code.specs.declared.instr.Note.{Note}
use Rattle.rt_code.specs.declared.instr.Note.TheVariants as note
use Rattle.rt_points.specs.ExecutionPriority.{owner_value}
use Rattle.rt_points.specs.Point.{Point, sections}
use Rattle.rt_points.specs.declared.point.Owner.TheVariants.{Starting}
use Rattle.rt_points.specs.Rules.{IsOperable, IsNotedWell, touched_cell, IsStore}
use Rattle.rt_judge.specs.Inside.Touching.{is_stored}
use Rattle.rt_judge.specs.declared.touching.Touching.{Touching}
use Rattle.rt_judge.proofs.FindingsSoFar.{one_instr, one_note}
use Rattle.rt_judge.proofs.Seen.{any_inside, inside_any}
use Rattle.rt_judge.proofs.Touchings.{store_test, test_store}
use Rattle.rt_why.specs.Inside.Wanted.{IsWanted, IsUnwanted, EntersOpen, TouchAt, EachTouchAt, tells_more}
use Rattle.rt_why.specs.declared.wanted.Wanted.{Wanted}
use Rattle.rt_why.specs.declared.wanted.Wanted.TheVariants as want

module _ (img : Image) (p : Point) (i : Instr) (told : Option Note)
    (stands : slice_get img.code p.address ≡ Some (i, told)) where
  pub inoperable : (b : Bool) → IsTrue b ↔ IsOperable img p i
      → MatchBool (not b) (IsWanted img want.Inoperable p) (IsUnwanted img want.Inoperable p)
  inoperable true iff = λ j other there.
      subst (IsOperable img p) (one_instr img p i j told other stands there) (iff.0 refl)
  inoperable false iff = record {
    instr = i;
    told = told;
    stands = stands;
    is = λ operable. absurd (let yes = iff.1 operable in cc);
  }

  pub misnoted : (b : Bool) → IsTrue b ↔ IsNotedWell img p i told
      → MatchBool (not b) (IsWanted img want.Misnoted p) (IsUnwanted img want.Misnoted p)
  misnoted true iff = λ j other there.
      subst (λ k. IsNotedWell img p k other) (one_instr img p i j told other stands there)
      (subst (IsNotedWell img p i) (one_note img p i j told other stands there) (iff.0 refl))
  misnoted false iff = record {
    instr = i;
    told = told;
    stands = stands;
    is = λ noted. absurd (let yes = iff.1 noted in cc);
  }

  entering_again : (n : Option Note) → told ≡ n → EntersOpen n p.inside → IsWanted img want.Again p
  entering_again (Some (note.Enter x)) same inside = record {
    instr = i;
    section = x;
    enters = subst (λ (n : Option Note). slice_get img.code p.address ≡ Some (i, n)) same stands;
    is = inside;
  }
  entering_again None same inside = absurd inside
  entering_again (Some n) same inside = absurd inside

  pub again : (b : Bool) → IsTrue b ↔ EntersOpen told p.inside
      → MatchBool b (IsWanted img want.Again p) (IsUnwanted img want.Again p)
  again true iff = entering_again told refl (iff.0 refl)
  again false iff = λ j x enters inside. absurd (
      let is : EntersOpen told p.inside = subst (λ (n : Option Note). EntersOpen n p.inside)
      (sym (one_note img p i j told (Some (note.Enter x)) stands enters)) inside in
      let yes = iff.1 is in cc)

  module _ (x : Section) (value : ℕ) (enters : told ≡ Some (note.Enter x)) where
    entered : slice_get img.code p.address ≡ Some (i, Some (note.Enter x))
    entered = subst (λ (n : Option Note). slice_get img.code p.address ≡ Some (i, n)) enters stands

    pub enterer : (b : Bool) → IsTrue b ↔ ((p.owner ≢ Starting) × (owner_value img p.owner ≤ value))
        → MatchBool b (IsWanted img (want.Enterer x value) p) (IsUnwanted img (want.Enterer x value) p)
    enterer true iff =
        let both = iff.0 refl in
        record { instr = i; section = x; enters = entered; is = (refl, both.0, both.1) }
    enterer false iff = λ j there outside.
        let no : ¬ (owner_value img p.owner ≤ value) = λ le. (let yes = iff.1 (outside, le) in cc) in
        omega (arith, no)

  -- where another cell is touched, or none, this cell is not touched
  module _ (cell : ℕ) where
    abbrev IsTouch : Type 0
    IsTouch = (p.owner ≢ Starting) × (option_map cell_of (touched_cell i) ≡ Some cell)

    pub none_touches : (P : Access → Type 0) → ¬ IsTouch → EachTouchAt img p cell P
    none_touches P never = λ j other a outside there by touches. absurd (never (
      outside,
      ap (option_map cell_of) (ap touched_cell (one_instr img p i j told other stands there) ∙ by) ∙ ap Some touches,
    ))

    touching : (P : Access → Type 0) (a : Option Access) → touched_cell i ≡ a → option_map cell_of a ≡ Some cell
        → p.owner ≢ Starting → ((b : Access) → touched_cell i ≡ Some b → P b) → TouchAt img p cell P
    touching P None by touches outside is = absurd (let e : None ≡ Some cell = touches in cc)
    touching P (Some a) by touches outside is = record {
      outside = outside;
      instr = i;
      told = told;
      stands = stands;
      access = a;
      by = by;
      touches = let e : Some (cell_of a) ≡ Some cell = touches in cc;
      is = is a by;
    }

    -- each access of the line is the one
    one_access : (P : Access → Type 0) → ((b : Access) → touched_cell i ≡ Some b → P b) → EachTouchAt img p cell P
    one_access P is = λ j other a outside there by touches.
        is a (ap touched_cell (one_instr img p i j told other stands there) ∙ by)

    -- whether this cell is touched there
    pub touch : (b : Bool) → IsTrue b ↔ IsTouch
        → MatchBool b (IsWanted img (want.Touch cell) p) (IsUnwanted img (want.Touch cell) p)
    touch true iff =
        let is = iff.0 refl in touching (λ a. Unit {0}) (touched_cell i) refl is.1 is.0 (λ a by. tt)
    touch false iff = none_touches (λ a. ⊥) (λ is. (let yes = iff.1 is in cc))

    -- what a test tells, where the cell is touched there
    module _ (is : IsTouch) where
      pub store : (b : Bool) → b ≡ is_stored (touched_cell i)
          → MatchBool b (IsWanted img (want.Store cell) p) (IsUnwanted img (want.Store cell) p)
      store true e =
          touching IsStore (touched_cell i) refl is.1 is.0 (λ a by. store_test a (sym (e ∙ ap is_stored by)))
      store false e = one_access (λ a. ¬ IsStore a) (λ a by stores. (
          let yes = test_store a stores in let no : false ≡ is_stored (Some a) = e ∙ ap is_stored by in cc))

      pub other : (value : ℕ) (b : Bool) → IsTrue b ↔ ((p.owner ≢ Starting) × (owner_value img p.owner ≢ value))
          → MatchBool b (IsWanted img (want.Other cell value) p) (IsUnwanted img (want.Other cell value) p)
      other value true iff = touching (λ a. owner_value img p.owner ≢ value) (touched_cell i) refl is.1 is.0
          (λ a by. (iff.0 refl).1)
      other value false iff = one_access (λ a. owner_value img p.owner ≡ value) (λ a by. ⊎_elim (λ same. same)
          (λ apart. absurd (let yes = iff.1 (is.0, apart) in cc)) (cases_eq (owner_value img p.owner) value))

      pub outside : (x : Section) (b : Bool) → b ≡ list_any (λ o. is_same_section o.section x) p.inside
          → MatchBool (not b) (IsWanted img (want.Outside cell x) p) (IsUnwanted img (want.Outside cell x) p)
      outside x true e = one_access (λ a. IsIn (sections p.inside) x) (λ a by. any_inside x p.inside (sym e))
      outside x false e = touching (λ a. ¬ IsIn (sections p.inside) x) (touched_cell i) refl is.1 is.0
          (λ a by inside. (let yes = inside_any x p.inside inside in cc))

      pub more : (known : Touching) (b : Bool) → b ≡ tells_more img p.owner p.inside (touched_cell i) known
          → MatchBool b (IsWanted img (want.More cell known) p) (IsUnwanted img (want.More cell known) p)
      more known true e = touching (λ a. tells_more img p.owner p.inside (Some a) known ≡ true) (touched_cell i) refl
          is.1 is.0 (λ a by. sym (e ∙ ap (λ t. tells_more img p.owner p.inside t known) by))
      more known false e = one_access (λ a. tells_more img p.owner p.inside (Some a) known ≡ false)
          (λ a by. sym (e ∙ ap (λ t. tells_more img p.owner p.inside t known) by))

-- the same under another name for what is looked for
pub named : (img : Image) (p : Point) (b : Bool) (w v : Wanted) → w ≡ v
    → MatchBool b (IsWanted img v p) (IsUnwanted img v p) → MatchBool b (IsWanted img w p) (IsUnwanted img w p)
named img p b w v same is = subst (λ u. MatchBool b (IsWanted img u p) (IsUnwanted img u p)) (sym same) is
