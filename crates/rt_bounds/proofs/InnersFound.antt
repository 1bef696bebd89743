-- Loops that count, as they become known.
use Rattle.std.proofs.Common.{◌≡◌, ◌≢◌, ◌<◌, ℕ, zero, suc, List, length, replicate, slice_get, slice_set, Option, Some, None}
use Rattle.std.proofs.Common.{refl, sym, ap, subst, ◌∙◌, ⊎_elim, arith}
use Rattle.std.proofs.lemmas.Bool.{cases_eq}
use Rattle.rt_code.specs.Image.{Image}
use Rattle.rt_points.specs.declared.point.Owner.{Owner}
use Rattle.rt_judge.specs.Inside.Walks.{reached_by}
use Rattle.rt_judge.specs.declared.walk.Walk.{Walk}
use Rattle.rt_bounds.specs.Counting.{CountingLoop, IsCounting}
use Rattle.rt_bounds.specs.Inside.Inners.{All, AreInners}
use Rattle.rt_bounds.specs.Inside.Shapes.{IsShape}
use Rattle.rt_bounds.specs.Inside.Sources.{AreSources, nowhere}
use Rattle.rt_bounds.specs.declared.shape.Exit.{Exit}
use Rattle.rt_bounds.specs.declared.shape.Inner.{Inner}
use Rattle.rt_bounds.specs.declared.shape.Lines.{Lines}
use Rattle.rt_bounds.specs.declared.sources.Sources.{Sources}
use Rattle.rt_bounds.proofs.Grounds.{HasAll}
use Rattle.rt_bounds.proofs.LoopFound.{loop_shape}
use Rattle.rt_bounds.proofs.Marks.{set_here, set_apart}
use Rattle.rt_bounds.proofs.Measuring.{last_within}
use Rattle.rt_bounds.proofs.Skipping.{all_stay}
use Rattle.rt_bounds.proofs.ShapeFound.{shape_closed, shape_once, shape_keeps}

none_in : (count a : ℕ) (i : Inner) → slice_get (replicate count None) a ≢ Some (Some i)
none_in zero a i = λ is. let e = is in cc
none_in (suc count) zero i = λ is. let e = is in cc
none_in (suc count) (suc a) i = none_in count a i

none_known : (P : ℕ → Inner → Type 0) (count : ℕ) (inners : List (Option Inner)) → inners ≡ replicate count None
    → All P inners
none_known P count inners is first i there =
    absurd (none_in count first i (sym (ap (λ (is : List (Option Inner)). slice_get is first) is) ∙ there))

-- no loop is known
pub no_inners_yet : (img : Image) (owner : Owner) (walk : Walk) (rows : List Sources) (count : ℕ)
    (inners : List (Option Inner)) → inners ≡ replicate count None → AreInners img owner walk rows inners
no_inners_yet img owner walk rows count inners is = record {
  closed = none_known _ count inners is;
  left = none_known _ count inners is;
  kept = none_known _ count inners is;
  staying = none_known _ count inners is;
}

one_known : (P : ℕ → Inner → Type 0) (inners : List (Option Inner)) (first : ℕ) (i : Inner) → first < length inners
    → All P inners → P first i → All P (slice_set inners first (Some i))
one_known P inners first i within all is a j there = ⊎_elim
    (λ same.
    let here : Some (Some i) ≡ Some (Some j) =
    sym (set_here inners first (Some i) within) ∙ ap (slice_get (slice_set inners first (Some i))) same ∙ there in
    let one : i ≡ j = cc in
    subst (λ n. P n j) same (subst (P first) one is))
    (λ apart. all a j (sym (set_apart inners first a (Some i) apart) ∙ there))
    (cases_eq first a)

-- one more is
pub inners_more : (img : Image) (owner : Owner) (walk : Walk) (rows : List Sources)
    → (mapped : HasAll img owner (reached_by walk)) → AreSources img owner rows → (inners : List (Option Inner))
    → AreInners img owner walk rows inners → (c : CountingLoop) → IsCounting img owner c
    → c.place.first < length inners → c.place.last < nowhere
    → AreInners img owner walk rows
    (slice_set inners c.place.first (Some (record { last = c.place.last; jump = c.place.jump })))
inners_more img owner walk rows mapped sources inners known c counting within small =
    let i : Inner = record { last = c.place.last; jump = c.place.jump } in
    let lines : Lines = record { first = c.place.first; last = c.place.last } in
    let exit : Exit = record { jump = c.place.jump; stay = c.place.stay; out = c.place.out } in
    let next = counting.loop.before_first in
    let some : 0 < c.place.first = omega (arith, next) in
    let shape : IsShape img owner lines c.place.head exit = loop_shape img owner walk mapped c.place counting.loop
    counting.slot counting.to counting.told counting.jumps counting.parts in
    record {
      closed = one_known _ inners c.place.first i within known.closed
          (c.place.head, shape_closed img owner walk lines mapped rows sources c.place.head some small exit shape);
      left = one_known _ inners c.place.first i within known.left
          (exit, refl, shape_once img owner walk lines mapped rows sources c.place.head some small exit shape);
      kept = one_known _ inners c.place.first i within known.kept
          (shape_keeps img owner walk lines mapped rows sources c.place.head some small exit shape);
      staying = one_known _ inners c.place.first i within known.staying
          (all_stay img owner walk lines exit
          (shape_once img owner walk lines mapped rows sources c.place.head some small exit shape));
    }

-- and it begins in the code
pub first_within : (img : Image) (owner : Owner) (walk : Walk) → HasAll img owner (reached_by walk) → (c : CountingLoop)
    → IsCounting img owner c → c.place.first < length img.code
first_within img owner walk mapped c is =
    let few = last_within img owner (reached_by walk) mapped c is in
    let up = is.loop.head.0 in
    let high = is.loop.head.1 in
    omega (arith, few, up, high)
