-- What slots hold by the lines alone: a constant that was set on a run of lines with one way in is there, in each run.
use Rattle.std.proofs.Common.{◌≡◌, ◌≢◌, ℕ, suc, List, slice_get, slice_index, Option, Some, refl, sym, ap, subst, ◌∙◌}
use Rattle.std.proofs.lemmas.Option.{same_Some}
use Rattle.rt_code.specs.Image.{Image}
use Rattle.rt_code.specs.declared.instr.Instr.{Instr}
use Rattle.rt_code.specs.declared.instr.Instr.TheVariants as instr
use Rattle.rt_code.specs.declared.instr.Note.{Note}
use Rattle.rt_points.specs.Leading.{IsPoint, LeadsTo}
use Rattle.rt_points.specs.Point.{Point}
use Rattle.rt_points.specs.Rules.{written_slot}
use Rattle.rt_points.specs.declared.point.Owner.{Owner}
use Rattle.rt_bounds.specs.Holding.{BeginsAt, ComesOnlyFrom, HoldsAfter, HoldsAt, Sets, Keeps as KeepsOn}
use Rattle.rt_timely.proofs.Acting.{Acts, acts_keep, acts_set}

module _ (img : Image) (owner : Owner) where
  -- slots hold what they do where the line at an address begins
  abbrev pub AreHeld : ℕ → List ℕ → Type 0
  AreHeld address slots =
      (slot value : ℕ) → HoldsAt img owner slot value address → slice_index slots slot ≡ value

  -- and after that line
  abbrev pub AreHeldAfter : ℕ → List ℕ → Type 0
  AreHeldAfter address slots =
      (slot value : ℕ) → HoldsAfter img owner slot value address → slice_index slots slot ≡ value

  -- where an owner begins nothing is known
  pub held_first : (address : ℕ) (slots : List ℕ) → BeginsAt img owner address → AreHeld address slots
  held_first address slots begins slot value holds = absurd (holds.only.begins begins)

  -- nor where another leads to it
  pub held_behind : (p q : Point) (slots : List ℕ) → IsPoint img p → LeadsTo img p q → q.owner ≡ owner
      → p.owner ≢ owner → AreHeld q.address slots
  held_behind p q slots point leads mine other slot value holds =
      absurd (other (holds.only.alone p q point leads mine refl).0)

  module _ (p q : Point) (leads : LeadsTo img p q) (old new : List ℕ)
      (acts : Acts leads.line.0 p.address q.address old new) where
    -- the line of the step
    pub line_is : (a : ℕ) → a ≡ p.address → (line : Instr × Option Note) → slice_get img.code a ≡ Some line
        → leads.line ≡ line
    line_is a same line stands =
        same_Some leads.line line (sym leads.stands ∙ ap (slice_get img.code) (sym same) ∙ stands)

    -- what it makes of slots
    pub held_after : AreHeld p.address old → AreHeldAfter p.address new
    held_after held slot value holds = by p.address refl holds
      where
        by : (a : ℕ) → a ≡ p.address → HoldsAfter img owner slot value a → slice_index new slot ≡ value
        by a same (Sets at told stands) =
            acts_set leads.line.0 slot value p.address q.address old new
            (ap (λ (l : Instr × Option Note). l.0) (line_is at same (instr.Set slot value, told) stands)) acts
        by a same (KeepsOn at line stands keeps only before) =
            let here : HoldsAt img owner slot value p.address = record {
              before = at;
              next = sym same;
              only = subst (ComesOnlyFrom img owner at) same only;
              holds = before;
            } in
            let one : leads.line ≡ line = line_is (suc at) same line stands in
            let other : written_slot leads.line.0 ≢ Some slot = λ writes.
            keeps (ap (λ (l : Instr × Option Note). written_slot l.0) (sym one) ∙ writes)
            in
            acts_keep leads.line.0 p.address q.address old new acts slot other ∙ held slot value here

    -- so they are where it leads to
    pub held_on : IsPoint img p → q.owner ≡ owner → AreHeldAfter p.address new → AreHeld q.address new
    held_on point mine held slot value holds =
        let from : p.address ≡ holds.before = (holds.only.alone p q point leads mine refl).1 in
        held slot value (subst (HoldsAfter img owner slot value) (sym from) holds.holds)
