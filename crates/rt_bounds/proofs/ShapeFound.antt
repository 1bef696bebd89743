-- Lines with one way in and one way out, as the code finds them and as they are.
use Rattle.std.proofs.Common.{◌≡◌, ◌<◌, ℕ, List, length, Some}
use Rattle.std.proofs.Common.{refl, sym, ap, ◌∙◌, ⊎_elim, arith}
use Rattle.rt_lemmas.proofs.Indices.{there_is}
use Rattle.rt_code.specs.Image.{Image}
use Rattle.rt_points.specs.Point.{Point}
use Rattle.rt_points.specs.declared.point.Owner.{Owner}
use Rattle.rt_judge.specs.Inside.Points.{point}
use Rattle.rt_judge.specs.Inside.Walks.{reached_by}
use Rattle.rt_judge.specs.declared.walk.Walk.{Walk}
use Rattle.rt_bounds.specs.Inside.Shapes.{AllClosed, LeavesOnce, KeepsFrom, IsShape, leaving}
use Rattle.rt_bounds.specs.Inside.Sources.{AreSources, nowhere}
use Rattle.rt_bounds.specs.declared.shape.Exit.{Exit}
use Rattle.rt_bounds.specs.declared.shape.Lines.{Lines}
use Rattle.rt_bounds.specs.declared.shape.Leaving.TheVariants.{Stays, Parts}
use Rattle.rt_bounds.specs.declared.sources.Sources.{Sources}
use Rattle.rt_bounds.proofs.Closedness.{all_are, are_all}
use Rattle.rt_bounds.proofs.Exiting.{one_exit, exit_once, same_parts}
use Rattle.rt_bounds.proofs.Grounds.{HasAll}

-- there is one way out
pub same_exit : (img : Image) (owner : Owner) (walk : Walk) (ls : Lines) (d e : Exit) → LeavesOnce img owner walk ls d
    → LeavesOnce img owner walk ls e → d ≡ e
same_exit img owner walk ls d e one other = ⊎_elim
    (λ same. same_parts d e (sym one.parts ∙ ap (leaving img owner walk ls) same ∙ other.parts))
    (λ is. absurd (let f : Parts d ≡ Stays = sym one.parts ∙ is in cc))
    (other.others d.jump one.jump)

module _ (img : Image) (owner : Owner) (walk : Walk) (ls : Lines) (mapped : HasAll img owner (reached_by walk))
    (rows : List Sources) (sources : AreSources img owner rows) (head : ℕ) (some : 0 < ls.first)
    (last : ls.last < nowhere) where
  pub shape_is : AllClosed walk ls rows head → (e : Exit) → LeavesOnce img owner walk ls e → KeepsFrom walk ls e.jump
      → IsShape img owner ls head e
  shape_is closed e once keeps = record {
    closed = all_are img owner walk ls mapped rows sources head some last closed;
    one = one_exit img owner walk ls mapped e once (λ p is. there_is img.code p.address (mapped.stays p is));
    deepest = λ p q one other at.
        let here : Some p.inside ≡ Some keeps.inside =
        sym (mapped.all p one.point one.mine) ∙ ap (reached_by walk) at ∙ keeps.there in
        let alike : p.inside ≡ keeps.inside = cc in
        let as_long = ap length alike in
        let least = keeps.all q.address q.inside other.inside (mapped.all q other.point other.mine) in
        omega (arith, as_long, least);
  }

  pub shape_closed : (e : Exit) → IsShape img owner ls head e → AllClosed walk ls rows head
  shape_closed e shape = are_all img owner walk ls mapped rows sources head some last shape.closed

  pub shape_once : (e : Exit) → IsShape img owner ls head e → LeavesOnce img owner walk ls e
  shape_once e shape = exit_once img owner walk ls mapped e shape.one

  pub shape_keeps : (e : Exit) → IsShape img owner ls head e → KeepsFrom walk ls e.jump
  shape_keeps e shape =
      let exit = shape.one.exit in
      let p = exit.at in
      record {
        inside = p.inside;
        there = ap (reached_by walk) (sym exit.here) ∙ mapped.all p exit.among.point exit.among.mine;
        all = λ a inside here reached.
            let q : Point = point a owner inside in
            shape.deepest p q exit.among
            (record {
              point = mapped.points (record { address = a; inside = inside }) reached;
              mine = refl;
              inside = here;
            }) exit.here;
      }
