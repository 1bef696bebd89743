-- Where ways may be looked at from: where an owner begins, and where a section is entered.
use Rattle.std.proofs.Common.{◌≡◌, ◌≢◌, ◌+◌, ℕ, true, List, [], length, Option, Some, None}
use Rattle.std.proofs.Common.{refl, sym, ap, ◌∙◌, inl, inr, arith}
use Rattle.rt_code.specs.Image.{Image}
use Rattle.rt_code.specs.declared.instr.Instr.{Instr}
use Rattle.rt_code.specs.declared.instr.Instr.TheVariants as instr
use Rattle.rt_code.specs.declared.instr.Note.{Note}
use Rattle.rt_code.specs.declared.instr.Note.TheVariants as note
use Rattle.rt_points.specs.Checked.{IsChecked}
use Rattle.rt_points.specs.Point.{Point}
use Rattle.rt_points.specs.Rules.{opens}
use Rattle.rt_points.specs.declared.point.Opened.{Opened}
use Rattle.rt_points.specs.declared.point.Owner.{Owner}
use Rattle.rt_points.specs.declared.rule.Rule.TheVariants as rule
use Rattle.rt_judge.specs.Inside.Walks.{reached_by}
use Rattle.rt_judge.specs.declared.walk.Walk.{Walk}
use Rattle.rt_bounds.specs.Holding.{BeginsAt}
use Rattle.rt_bounds.specs.Inside.Aheads.{AreFolds, point_at}
use Rattle.rt_bounds.specs.Inside.Gathered.{EntersAt}
use Rattle.rt_bounds.specs.Inside.Ground.{IsMapped}
use Rattle.rt_bounds.specs.Inside.Surveys.{IsOpenTo}
use Rattle.rt_bounds.specs.declared.folds.Fold.{Fold}
use Rattle.rt_bounds.specs.declared.gathered.Entry.{Entry}
use Rattle.rt_bounds.proofs.Folding.{at_jump}
use Rattle.rt_bounds.proofs.Grounds.{at_is, at_point}
use Rattle.rt_bounds.proofs.Mapped.{has_all}

module _ (img : Image) (owner : Owner) (walk : Walk) (checked : IsChecked img) (mapped : IsMapped img owner walk)
    (folds : List (Option Fold)) (folded : AreFolds img owner (reached_by walk) (length img.code) folds) where
  pub begin_open : (depth entry : ℕ) (goal : Option ℕ) → depth ≡ 0 → goal ≡ None → BeginsAt img owner entry
      → reached_by walk entry ≡ Some [] → IsOpenTo img owner (reached_by walk) folds depth goal entry
  begin_open depth entry goal none no_goal begins there = record {
    last = length img.code;
    folded = folded;
    free = record {
      there = ([], there);
      wide = inl (omega (arith, none));
      outside = λ c counts deep inside. absurd (counts.loop.begins entry begins inside);
      measured = λ g is. absurd (let e : None ≡ Some g = sym no_goal ∙ is in cc);
      all = λ is. omega arith;
      aside = λ is. let e : None ≡ Some entry = sym no_goal ∙ is in cc;
    };
  }

  -- an instruction on which a section is entered is no jump
  no_jump : (i : Instr) → opens i ≡ true → (slot to : ℕ) → i ≢ instr.JumpZ slot to
  no_jump i is slot to = λ same. let e : opens (instr.JumpZ slot to) ≡ true = ap opens (sym same) ∙ is in cc

  pub enter_open : (d depth address : ℕ) (goal : Option ℕ) (e : Entry) → d ≡ depth + 1 → goal ≡ None
      → EntersAt img owner (reached_by walk) depth address e
      → IsOpenTo img owner (reached_by walk) folds d goal address
  enter_open d depth address goal e deeper no_goal enters =
      let all = has_all img owner walk checked mapped in
      let there : (inside : List Opened) × (reached_by walk address ≡ Some inside) = (enters.inside, enters.there) in
      let same = at_is img owner (reached_by walk) all address enters.inside enters.there in
      let point = at_point img owner (reached_by walk) all address there in
      let many = enters.many in
      let long : length (point_at owner (reached_by walk) address).inside ≡ depth =
      ap (λ (p : Point). length p.inside) same ∙ many in
      record {
        last = length img.code;
        folded = folded;
        free = record {
          there = there;
          wide = inr (λ slot to told stands.
              let i = enters.entry.instr in
              let line : Some (i, Some (note.Enter e.section)) ≡ Some (instr.JumpZ slot to, told) =
              sym enters.entry.stands ∙ stands in
              let pair : (i, Some (note.Enter e.section)) ≡ (instr.JumpZ slot to, told) = cc in
              no_jump i (checked rule.Notes (point_at owner (reached_by walk) address) i (Some (note.Enter e.section))
              (point, enters.entry.stands)).stands slot to (ap (λ (l : Instr × Option Note). l.0) pair));
          outside = λ c counts deep inside. absurd (
              let jp = at_jump img owner (reached_by walk) all c counts in
              let less = counts.loop.sections (point_at owner (reached_by walk) c.place.jump)
              (point_at owner (reached_by walk) address) jp
              (record { point = point; mine = refl; inside = inside }) refl in
              omega (arith, deep, less, long, deeper));
          measured = λ g is. absurd (let f : None ≡ Some g = sym no_goal ∙ is in cc);
          all = λ is. omega arith;
          aside = λ is. let f : None ≡ Some address = sym no_goal ∙ is in cc;
        };
      }
