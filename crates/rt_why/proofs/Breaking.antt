-- That what is looked for is at some point, where a rule is broken; and the witness that its points make.
use Rattle.std.proofs.Common.{◌≡◌, false, ℕ}
use Rattle.std.proofs.Common.{subst, arith}
use Rattle.std.specs.List.{Contains}
use Rattle.rt_lemmas.proofs.Membership.{all_has, all_weaker}
use Rattle.rt_ids.specs.declared.ids.Section.{Section}
use Rattle.rt_code.specs.Image.{Image}
use Rattle.rt_points.specs.Leading.{IsPoint}
use Rattle.rt_points.specs.Point.{Point}
use Rattle.rt_points.specs.Rules.{OperatesWell, NotesWell}
use Rattle.rt_judge.specs.Inside.Entering.{IsEntering, IsLeastOrNone}
use Rattle.rt_judge.specs.Inside.Kept.{FreeAt}
use Rattle.rt_judge.specs.Inside.Looks.{Looked}
use Rattle.rt_judge.specs.declared.findings.Findings.{Findings}
use Rattle.rt_why.specs.Inside.Rows.{IsWeakRow}
use Rattle.rt_why.specs.Inside.Wanted.{IsUnwanted}
use Rattle.rt_why.specs.declared.wanted.Wanted.{Wanted}
use Rattle.rt_why.specs.declared.wanted.Wanted.TheVariants as want

-- no point of an image is one that is looked for
abbrev pub NoneIs : Image → Wanted → Type 0
NoneIs img wanted = (p : Point) → IsPoint img p → IsUnwanted img wanted p

pub inoperable : (img : Image) → ¬ OperatesWell img → ¬ NoneIs img want.Inoperable
inoperable img broken none = broken (λ p i told stands. none p stands.0 i told stands.1)

pub misnoted : (img : Image) → ¬ NotesWell img → ¬ NoneIs img want.Misnoted
misnoted img broken none = broken (λ p i told stands. none p stands.0 i told stands.1)

module _ (img : Image) (f : Findings) (looked : Looked img f) where
  seen_point : (p : Point) → Contains looked.points p → IsPoint img p
  seen_point p seen = all_has (IsPoint img) looked.points p looked.sound seen

  pub again : f.sections.free ≡ false → ¬ NoneIs img want.Again
  again fail none =
      let yes = looked.finds.sections.free.1 (all_weaker (IsPoint img) (FreeAt img) none looked.points looked.sound) in
      cc

  -- a section that does not hold off everyone who enters it
  module _ (x : Section) (least : ℕ) (row : IsWeakRow f.sections.rows.items x least) where
    entering : IsEntering img looked.points x row.row
    entering = subst (λ y. IsEntering img looked.points y row.row) row.section
        (all_has (λ r. IsEntering img looked.points r.section r) f.sections.rows.items row.row
        looked.finds.sections.rows row.there)

    pub weaker : ¬ NoneIs img (want.Weaker x least)
    weaker none =
        let great = entering.weakest in
        let low = none great.point (seen_point great.point great.enterer.seen) great.instr great.enterer.enters in
        let is = great.is in
        let high = row.weaker in
        absurd (omega (arith, low, is, high))

    pub enterer : ¬ NoneIs img (want.Enterer x least)
    enterer none =
        let lowest = subst (IsLeastOrNone img looked.points x) row.value entering.value in
        let high = none lowest.point (seen_point lowest.point lowest.enterer.seen) lowest.instr lowest.enterer.enters
        lowest.outside in
        let is = lowest.is in
        absurd (omega (arith, high, is))
