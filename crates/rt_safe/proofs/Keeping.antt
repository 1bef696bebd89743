-- What holds of the open sections of each point: by induction over the lines that lead to it.
use Rattle.std.proofs.Common.{◌≡◌, ◌≢◌, zero, suc, ◌<◌, ◌≤◌, true, List, [], ◌∷◌, drop, Option, Some, refl, sym, ap}
use Rattle.std.proofs.Common.{subst, ◌∙◌, arith}
use Rattle.std.proofs.lemmas.Option.{same_Some, none-some}
use Rattle.rt_ids.specs.Choice.{IsIn}
use Rattle.rt_ids.specs.declared.ids.Section.{Section}
use Rattle.rt_code.specs.Image.{Image}
use Rattle.rt_code.specs.declared.instr.Instr.{Instr}
use Rattle.rt_code.specs.declared.instr.Instr.TheVariants as instr
use Rattle.rt_code.specs.declared.instr.Note.{Note}
use Rattle.rt_code.specs.declared.instr.Note.TheVariants as note
use Rattle.rt_points.specs.declared.point.SectionKind.{SectionKind}
use Rattle.rt_points.specs.declared.point.SectionKind.TheVariants.{Mark, Raise, Mask}
use Rattle.rt_points.specs.declared.point.Opened.{Opened}
use Rattle.rt_points.specs.declared.point.Owner.{Owner}
use Rattle.rt_points.specs.declared.point.Owner.TheVariants.{Starting, Handling}
use Rattle.rt_points.specs.declared.rule.Rule.TheVariants as rule
use Rattle.rt_points.specs.Checked.{IsChecked}
use Rattle.rt_points.specs.Leading.{IsPoint, Begins, Enters, Leads, StandsAt, owner_after, kind_of, inside_after}
use Rattle.rt_points.specs.ExecutionPriority.{owner_value, execution_priority}
use Rattle.rt_points.specs.Point.{Point, sections}
use Rattle.rt_points.specs.Rules.{closing_instr, EntersAt}
use Rattle.rt_safe.specs.Inside.Lines.{opening_instr, is_simple, ActsOnSections, Simply, Anew, Opens, Closes, EndsInit}
use Rattle.rt_safe.specs.Inside.Lines.{Returns}
use Rattle.rt_safe.proofs.PointPriorities.{IsRaisedWell, AreRaisedWell, lowered_falls}
use Rattle.rt_safe.proofs.Lines.{line_told}

-- who runs on behind a line that ends nothing
pub owner_of_simple : (i : Instr) (owner : Owner) → is_simple i ≡ true → owner_after i owner ≡ owner
owner_of_simple instr.Serve owner simple = absurd (cc)
owner_of_simple i owner simple = refl

pub owner_of_opening : (kind : SectionKind) (owner : Owner) → owner_after (opening_instr kind) owner ≡ owner
owner_of_opening Mark owner = refl
owner_of_opening (Raise slot value) owner = refl
owner_of_opening (Mask slot) owner = refl

pub owner_of_closing : (kind : SectionKind) (owner : Owner) → owner_after (closing_instr kind) owner ≡ owner
owner_of_closing Mark owner = refl
owner_of_closing (Raise slot value) owner = refl
owner_of_closing (Mask slot) owner = refl

pub kind_of_opening : (kind : SectionKind) → kind_of (opening_instr kind) ≡ kind
kind_of_opening Mark = refl
kind_of_opening (Raise slot value) = refl
kind_of_opening (Mask slot) = refl

module _ (img : Image) (checked : IsChecked img) where
  module _ (P : Owner → List Opened → Type 0) (none : (owner : Owner) → P owner [])
      (more : (p : Point) (x : Section) (kind : SectionKind) → EntersAt img p (opening_instr kind) x
      → P p.owner p.inside
      → P p.owner (record { section = x; kind = kind } ∷ p.inside))
      (less : (owner : Owner) (o : Opened) (outer : List Opened) → P owner (o ∷ outer) → P owner outer) where
    -- behind a line
    one_on : (p : Point) (i : Instr) (told : Option Note) → StandsAt img p i told → ActsOnSections p i told
        → P p.owner p.inside
        → P (owner_after i p.owner) (inside_after i told p.inside)
    one_on p i told at (Simply simple untold unsaved) before =
        subst (λ n. P (owner_after i p.owner) (inside_after i n p.inside)) (sym untold)
        (subst (λ o. P o p.inside) (sym (owner_of_simple i p.owner simple)) before)
    one_on p i told at (Anew to is tells thread) before =
        subst (λ n. P (owner_after i p.owner) (inside_after i n p.inside)) (sym tells)
        (subst (λ j. P (owner_after j p.owner) p.inside) (sym is) before)
    one_on p i told at (Opens x kind is tells) before =
        let line : (i, told) ≡ (opening_instr kind, Some (note.Enter x)) = λ k. (is k, tells k) in
        let enters : EntersAt img p (opening_instr kind) x = (at.0, at.1 ∙ ap (λ l. Some l) line) in
        subst (λ (l : Instr × Option Note). P (owner_after l.0 p.owner) (inside_after l.0 l.1 p.inside)) (sym line)
        (subst (λ o. P o (record { section = x; kind = kind_of (opening_instr kind) } ∷ p.inside))
        (sym (owner_of_opening kind p.owner))
        (subst (λ k. P p.owner (record { section = x; kind = k } ∷ p.inside)) (sym (kind_of_opening kind))
        (more p x kind enters before)))
    one_on p i told at (Closes x kind outer inside is tells) before =
        let line : (i, told) ≡ (closing_instr kind, Some (note.Leave x)) = λ k. (is k, tells k) in
        subst (λ (l : Instr × Option Note). P (owner_after l.0 p.owner) (inside_after l.0 l.1 p.inside)) (sym line)
        (subst (λ o. P o (drop 1 p.inside)) (sym (owner_of_closing kind p.owner))
        (subst (λ s. P p.owner (drop 1 s)) (sym inside)
        (less p.owner (record { section = x; kind = kind }) outer (subst (P p.owner) inside before))))
    one_on p i told at (EndsInit is tells owner inside) before =
        subst (λ n. P (owner_after i p.owner) (inside_after i n p.inside)) (sym tells)
        (subst (P (owner_after i p.owner)) (sym inside) (none (owner_after i p.owner)))
    one_on p i told at (Returns index is untold owner inside) before =
        subst (λ n. P (owner_after i p.owner) (inside_after i n p.inside)) (sym untold)
        (subst (P (owner_after i p.owner)) (sym inside) (none (owner_after i p.owner)))

    pub points_keep : (p : Point) → IsPoint img p → P p.owner p.inside
    points_keep p Begins = none Starting
    points_keep p (Enters index h is) = none (Handling index)
    points_keep p (Leads from q at leads) =
        let stands : StandsAt img from leads.line.0 leads.line.1 = (at, leads.stands) in
        let after = one_on from leads.line.0 leads.line.1 stands
        (line_told img checked from leads.line.0 leads.line.1 stands)
        (points_keep from at) in
        subst (λ o. P o p.inside) (sym leads.owner)
        (subst (P (owner_after leads.line.0 from.owner)) (sym leads.inside) after)

  -- each open raise has a value above 0 and below the execution priority outside it
  pub raised_well : (p : Point) → IsPoint img p → AreRaisedWell img p.owner p.inside
  raised_well = points_keep (AreRaisedWell img) (λ owner. tt) more (λ owner o outer all. all.1)
    where
      more : (p : Point) (x : Section) (kind : SectionKind) → EntersAt img p (opening_instr kind) x
          → AreRaisedWell img p.owner p.inside
          → AreRaisedWell img p.owner (record { section = x; kind = kind } ∷ p.inside)
      more p x kind enters before = (by kind enters, before)
        where
          by : (kind : SectionKind) → EntersAt img p (opening_instr kind) x
              → IsRaisedWell img kind (execution_priority img p.owner p.inside)
          by Mark enters = tt
          by (Raise slot value) enters =
              (checked rule.Notes p (instr.Raise slot value) (Some (note.Enter x)) enters).masks
          by (Mask slot) enters = tt

  -- inside a section everyone who enters it anywhere is held off, `init` aside
  abbrev pub HoldOff : Owner → List Opened → Type 0
  HoldOff owner [] = Unit {0}
  HoldOff owner (o ∷ outer) =
      ((q : Point) (j : Instr) → q.owner ≢ Starting → EntersAt img q j o.section
      → execution_priority img owner (o ∷ outer) ≤ owner_value img q.owner) × HoldOff owner outer

  pub hold_off : (p : Point) → IsPoint img p → HoldOff p.owner p.inside
  hold_off = points_keep HoldOff (λ owner. tt) more (λ owner o outer all. all.1)
    where
      more : (p : Point) (x : Section) (kind : SectionKind) → EntersAt img p (opening_instr kind) x
          → HoldOff p.owner p.inside
          → HoldOff p.owner (record { section = x; kind = kind } ∷ p.inside)
      more p x kind enters before = (
        λ q j outside others.
            subst (λ k. execution_priority img p.owner (record { section = x; kind = k } ∷ p.inside) ≤ owner_value img
            q.owner)
            (kind_of_opening kind) ((checked rule.Ceilings p (opening_instr kind) x enters).others q j outside others),
        before,
      )

  -- each open section was entered by its owner
  abbrev pub WereEntered : Owner → List Opened → Type 0
  WereEntered owner [] = Unit {0}
  WereEntered owner (o ∷ outer) =
      ((q : Point) × (j : Instr) × (q.owner ≡ owner) × EntersAt img q j o.section) × WereEntered owner outer

  pub were_entered : (p : Point) → IsPoint img p → WereEntered p.owner p.inside
  were_entered = points_keep WereEntered (λ owner. tt)
      (λ p x kind enters before. ((p, opening_instr kind, refl, enters), before))
      (λ owner o outer all. all.1)

  -- the execution priority is at most that inside each open section
  pub held_off_inside : (owner : Owner) (inside : List Opened) (x : Section) → HoldOff owner inside
      → IsIn (sections inside) x → (q : Point) (j : Instr) → q.owner ≢ Starting → EntersAt img q j x
      → execution_priority img owner inside ≤ owner_value img q.owner
  held_off_inside owner [] x all (k, at) q j outside enters = absurd (none-some x at)
  held_off_inside owner (o ∷ outer) x all (zero, at) q j outside enters =
      all.0 q j outside (subst (EntersAt img q j) (sym (same_Some o.section x at)) enters)
  held_off_inside owner (o ∷ outer) x all (suc k, at) q j outside enters =
      let before = held_off_inside owner outer x all.1 (k, at) q j outside enters in
      let less = lowered_falls img o.kind (execution_priority img owner outer) in
      omega (arith, before, less)

  pub entered_inside : (owner : Owner) (inside : List Opened) (x : Section) → WereEntered owner inside
      → IsIn (sections inside) x → (q : Point) × (j : Instr) × (q.owner ≡ owner) × EntersAt img q j x
  entered_inside owner [] x all (k, at) = absurd (none-some x at)
  entered_inside owner (o ∷ outer) x all (zero, at) =
      let one = all.0 in (one.0, one.1, one.2, subst (EntersAt img one.0 one.1) (same_Some o.section x at) one.3)
  entered_inside owner (o ∷ outer) x all (suc k, at) = entered_inside owner outer x all.1 (k, at)

  -- Who runs at a point whose value is below the execution priority of another is inside no section that is open there.
  pub are_apart : (p q : Point) (x : Section) → IsPoint img p → IsPoint img q → p.owner ≢ Starting
      → owner_value img p.owner < execution_priority img q.owner q.inside → IsIn (sections p.inside) x
      → IsIn (sections q.inside) x → ⊥
  are_apart p q x at_p at_q outside above mine theirs =
      let one = entered_inside p.owner p.inside x (were_entered p at_p) mine in
      let held = held_off_inside q.owner q.inside x (hold_off q at_q) theirs one.0 one.1
      (λ starting. outside (sym one.2 ∙ starting)) one.3 in
      let same : owner_value img one.0.owner ≡ owner_value img p.owner = ap (owner_value img) one.2 in
      absurd (omega (arith, held, same, above))

  -- and enters none there
  pub enters_apart : (p q : Point) (x : Section) (i : Instr) → EntersAt img p i x → IsPoint img q → p.owner ≢ Starting
      → owner_value img p.owner < execution_priority img q.owner q.inside → IsIn (sections q.inside) x → ⊥
  enters_apart p q x i enters at_q outside above theirs =
      let held = held_off_inside q.owner q.inside x (hold_off q at_q) theirs p i outside enters in
      absurd (omega (arith, held, above))
