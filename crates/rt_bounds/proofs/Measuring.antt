-- A loop that counts, measured: from its head and from where a turn begins, up to its jump.
use Rattle.std.proofs.Common.{◌≡◌, ◌≢◌, ◌≤◌, ◌<◌, ◌+◌, ◌==◌, ℕ, zero, suc, true, false, nat_le}
use Rattle.std.proofs.Common.{if◌then◌else◌, List, [], length, slice_get, slice_set, Option, Some, None}
use Rattle.std.proofs.Common.{refl, sym, ap, subst, ◌∙◌, inl, inr, ⊎_elim, arith, length-set, replicate}
use Rattle.std.proofs.lemmas.Bool.{cases_eq}
use Rattle.std.proofs.lemmas.List.{length-replicate}
use Rattle.rt_code.specs.Image.{Image}
use Rattle.rt_points.specs.Leading.{Leads}
use Rattle.rt_points.specs.Point.{Point}
use Rattle.rt_points.specs.declared.point.Owner.{Owner}
use Rattle.rt_judge.specs.Inside.Walks.{Reached}
use Rattle.rt_bounds.specs.Counting.{CountingLoop, IsCounting, IsIn, IsInside}
use Rattle.rt_bounds.specs.CountedWays.{Left, all_left, left_after}
use Rattle.rt_bounds.specs.Inside.Aheads.{Ahead, There, Stops, Goes_on, IsMostAhead, IsEndlessAhead, IsAhead, in_all, told}
use Rattle.rt_bounds.specs.Inside.Aheads.{length_of, again_of, fold_of, IsLength, IsFold, IsFoldAt, AreFolds}
use Rattle.rt_bounds.specs.Inside.Aheads.{IsMeasured, point_at}
use Rattle.rt_bounds.specs.Inside.Surveys.{IsOpenTo, IsBlank, IsBegun, IsForgotten}
use Rattle.rt_bounds.specs.Ways.{Comes, ComesToLoop}
use Rattle.rt_bounds.specs.declared.folds.Fold.{Fold}
use Rattle.rt_bounds.specs.declared.longest.Longest.{Longest}
use Rattle.rt_bounds.specs.declared.longest.Longest.TheVariants.{Steps, Loop}
use Rattle.rt_bounds.specs.declared.longest.TheConstants.{MOST_STEPS}
use Rattle.rt_bounds.specs.declared.survey.Survey.{Survey}
use Rattle.rt_bounds.proofs.Aheads.{with_left, shorter}
use Rattle.rt_bounds.proofs.Folding.{inside_or_not, no_more, at_jump, at_stay, at_head, open_in, goes_in, stay_point}
use Rattle.rt_bounds.proofs.Folding.{comes_there, elsewhere, through, and_then, IsTurned, begins_turning, all_turned}
use Rattle.rt_bounds.proofs.Folding.{turned_stay, up_to_jump, may_stay}
use Rattle.rt_bounds.proofs.Grounds.{HasAll, point_there}
use Rattle.rt_bounds.proofs.Looking.{loop_from}
use Rattle.rt_bounds.proofs.Loops.{comes_then}
use Rattle.rt_bounds.proofs.Marks.{set_here, set_apart}
use Rattle.rt_bounds.proofs.Nesting.{IsWithin, inside_too, nested, one_head, one_last}
use Rattle.rt_bounds.proofs.Tested.{jump_inside}

-- nothing is left before a goal that is here
pub here_already : (img : Image) (depth : ℕ) (owner : Owner) (reached : Reached) (start goal : ℕ) → start ≡ goal
    → IsMostAhead img depth (Some goal) (point_at owner reached start) 0
here_already img depth owner reached start goal same = record {
  way = There all_left (point_at owner reached start) (ap Some (sym same));
  most = λ m way.
      let none = no_more img depth (Some goal) all_left (point_at owner reached start) m (ap Some (sym same)) way in
      omega (arith, none);
}

module _ (img : Image) (owner : Owner) (reached : Reached) (mapped : HasAll img owner reached) (c : CountingLoop)
    (is : IsCounting img owner c) where
  abbrev at : ℕ → Point
  at a = point_at owner reached a

  abbrev deep : ℕ
  deep = length (at c.place.jump).inside

  -- from an address of the loop that inner loops are come to at their heads
  free_in : (folds : List (Option Fold)) → AreFolds img owner reached c.place.last folds → (depth a : ℕ) → depth ≡ deep
      → IsIn img owner c.place (at a) → a ≢ c.place.jump
      → ((d : CountingLoop) → IsCounting img owner d → IsInside d.place a → IsWithin d.place c.place
      → ¬ IsInside d.place c.place.jump → a ≡ d.place.head)
      → IsOpenTo img owner reached folds depth (Some c.place.jump) a
  free_in folds folded depth a same within apart entered =
      let jump = jump_inside img owner c.place is.loop in
      record {
        last = c.place.last;
        folded = folded;
        free = record {
          there = point_there img owner reached mapped (at a) within.point within.mine;
          wide = inl (open_in img owner reached mapped c is depth (omega (arith, same)) (at a) within);
          outside = λ d counts enough inside. ⊎_elim
              (λ outer. inr (c.place.jump, refl, inside_too c.place d.place outer c.place.jump jump))
              (λ inner. ⊎_elim
              (λ has. inr (c.place.jump, refl, has))
              (λ off. inl (entered d counts inside inner off))
              (inside_or_not d.place c.place.jump))
              (nested img owner c.place d.place is.loop counts.loop a within.inside inside);
          measured = λ g goal. by g (let e : c.place.jump ≡ g = cc in e);
          all = λ none. absurd (let e = none in cc);
          aside = λ e. apart (let f : c.place.jump ≡ a = cc in sym f);
        };
      }
    where
      by : (g : ℕ) → c.place.jump ≡ g → IsMeasured img owner reached depth g c.place.last a
      by g at_it = record {
        loop = c;
        counts = is;
        jump = at_it;
        here = within.inside;
        deep = same ∙ ap (λ n. length (at n).inside) at_it;
        last_is = refl;
      }

  pub open_stay : (folds : List (Option Fold)) → AreFolds img owner reached c.place.last folds → (depth : ℕ)
      → depth ≡ deep → c.place.stay ≢ c.place.jump
      → IsOpenTo img owner reached folds depth (Some c.place.jump) c.place.stay
  open_stay folds folded depth same apart =
      let s = stay_point img owner reached mapped c is in
      let jp = at_jump img owner reached mapped c is in
      free_in folds folded depth c.place.stay same (at_stay img owner reached mapped c is) apart
      (λ d counts inside inner off. ⊎_elim
      (λ from. absurd (off from))
      (λ before. sym (ap (λ (p : Point). p.address) s.2) ∙ before.1)
      (counts.loop.entered (at c.place.jump) s.0 jp.point s.1
      (record {
        point = s.3.point;
        mine = s.3.mine;
        inside = subst (IsInside d.place) (sym (ap (λ (p : Point). p.address) s.2)) inside;
      })).1)

  pub open_head : (folds : List (Option Fold)) → AreFolds img owner reached c.place.last folds → (depth : ℕ)
      → depth ≡ deep → c.place.head ≢ c.place.jump
      → IsOpenTo img owner reached folds depth (Some c.place.jump) c.place.head
  open_head folds folded depth same apart =
      let e = is.loop.enters in
      let from_there = e.from_there in
      let begins = is.loop.before_first in
      free_in folds folded depth c.place.head same (at_head img owner reached mapped c is) apart
      (λ d counts inside inner off. ⊎_elim
      (λ from.
      let low = from.0 in
      let lower = inner.low in
      absurd (omega (arith, low, lower, from_there, begins)))
      (λ before. sym e.to_here ∙ before.1)
      (counts.loop.entered e.before e.after e.point e.leads
      (record {
        point = Leads e.before e.after e.point e.leads;
        mine = e.still_mine;
        inside = subst (IsInside d.place) (sym e.to_here) inside;
      })).1)

  -- what was measured, as a fold
  module _ (depth : ℕ) (same : depth ≡ deep) where
    low : depth ≤ deep
    low = omega (arith, same)

    abbrev Up : ℕ → Longest → Type 0
    Up a l = IsAhead img depth (Some c.place.jump) (at a) l

    out_aside : (x : ℕ) → IsInside c.place x → Some c.place.out ≢ Some x
    out_aside x inside = λ e. let f : c.place.out ≡ x = cc in is.loop.out (subst (IsInside c.place) (sym f) inside)

    comes_head : (f : ℕ) → Up c.place.head (Steps f) → Comes img depth (at c.place.head) (at c.place.jump)
    comes_head f front = comes_there img owner reached mapped c is depth low depth all_left (at c.place.head) f
        (at_head img owner reached mapped c is) front.way

    comes_stay : (f : ℕ) → Up c.place.head (Steps f) → Comes img depth (at c.place.head) (at c.place.stay)
    comes_stay f front =
        let s = stay_point img owner reached mapped c is in
        let goes = goes_in img owner reached mapped c is depth low (at c.place.jump) s.0
        (at_jump img owner reached mapped c is) s.3 s.1 in
        subst (λ (p : Point). Comes img depth (at c.place.head) p) s.2
        (comes_then img depth (at c.place.head) (at c.place.jump) s.0 (comes_head f front) goes)

    pub again_is : (front round : Longest) → Up c.place.head front → Up c.place.stay round
        → ComesToLoop img depth (at c.place.head) (again_of c.place.jump front round)
    again_is (Loop a) round front turn = front.loop
    again_is (Steps f) (Loop a) front turn =
        loop_from img depth (at c.place.head) (at c.place.stay) a (comes_stay f front) turn.loop
    again_is (Steps f) (Steps r) front turn =
        let s = stay_point img owner reached mapped c is in
        record {
          turn = at c.place.jump;
          at = refl;
          comes = comes_head f front;
          next = s.0;
          goes = goes_in img owner reached mapped c is depth low (at c.place.jump) s.0
              (at_jump img owner reached mapped c is) s.3 s.1;
          again = subst (λ (p : Point). Comes img depth p (at c.place.jump)) (sym s.2)
              (comes_there img owner reached mapped c is depth low depth all_left (at c.place.stay) r
              (at_stay img owner reached mapped c is) turn.way);
        }

    -- so many steps, or too many
    told_is : (f r steps a : ℕ) → Up c.place.head (Steps f) → (0 < c.turns → Up c.place.stay (Steps r))
        → steps ≡ in_all c.turns f r → ComesToLoop img depth (at c.place.head) a
        → IsLength img owner reached depth c (told steps a)
    told_is f r steps a front turn sum again =
        elim (nat_le steps MOST_STEPS) as (λ b. nat_le steps MOST_STEPS ≡ b
        → IsLength img owner reached depth c (if b then Steps steps else Loop a)) [
          | true ↦ λ e. record {
            front = f;
            from_head = front;
            round = r;
            from_stay = turn;
            sum = sum;
            few = (let h : steps ≤ MOST_STEPS = grind (arith, e) in h);
          }
          | false ↦ λ e.
              let many : MOST_STEPS < steps = grind (arith, e) in
              record {
                loop = again;
                long = shorter img depth (Some c.place.out) all_left (at c.place.head) (in_all c.turns f r + 0) MOST_STEPS
                    (omega (arith, many, sum))
                    (through img owner reached mapped c is depth low (Some c.place.out) out_aside true depth f r front.way
                    (λ some. (turn some).way) 0
                    (λ l k turned. Stops l (at c.place.jump)
                    (out_aside c.place.jump (jump_inside img owner c.place is.loop)) (inl refl)));
              }
        ] refl

    -- a loop in a turn
    turn_endless : (f a : ℕ) → Up c.place.head (Steps f) → 0 < c.turns → Up c.place.stay (Loop a)
        → IsEndlessAhead img depth (Some c.place.out) (at c.place.head) a
    turn_endless f a front some turn = record {
      loop = loop_from img depth (at c.place.head) (at c.place.stay) a (comes_stay f front) turn.loop;
      long = shorter img depth (Some c.place.out) all_left (at c.place.head) (f + suc (suc MOST_STEPS)) MOST_STEPS
          (omega arith)
          (and_then img owner reached mapped c is depth low (Some c.place.out) out_aside true depth c.turns all_left
          (at c.place.head) f (at_head img owner reached mapped c is)
          (begins_turning img owner reached mapped c is c.turns all_left (at c.place.head)
          (all_turned img owner reached mapped c is)) front.way (suc (suc MOST_STEPS)) (by c.turns some));
    }
      where
        by : (k : ℕ) → 0 < k → (l : Left) → IsTurned img owner reached mapped c is k l
            → Ahead img depth (Some c.place.out) true l (at c.place.jump) (suc (suc MOST_STEPS))
        by zero none l turned = absurd (omega (arith, none))
        by (suc j) less l turned =
            let s = stay_point img owner reached mapped c is in
            let here : IsIn img owner c.place s.0 = s.3 in
            let after = turned_stay img owner reached mapped c is j l s.0 (ap (λ (p : Point). p.address) s.2) turned in
            let long : Ahead img depth (Some c.place.jump) true (left_after l (at c.place.jump) s.0) s.0 (suc MOST_STEPS) =
            with_left img owner depth (Some c.place.jump) true all_left (left_after l (at c.place.jump) s.0) s.0
            (suc MOST_STEPS) here.mine
            (λ d counts apart. sym (up_to_jump img owner reached mapped c is j
            (left_after l (at c.place.jump) s.0) after d counts apart))
            (subst (λ (p : Point). Ahead img depth (Some c.place.jump) true all_left p (suc MOST_STEPS)) (sym s.2)
            turn.long) in
            Goes_on l (at c.place.jump) s.0 (suc MOST_STEPS)
            (out_aside c.place.jump (jump_inside img owner c.place is.loop))
            (goes_in img owner reached mapped c is depth low (at c.place.jump) s.0 (at_jump img owner reached mapped c is)
            here s.1) (may_stay img owner reached mapped c is j l s.0 turned)
            (elsewhere img owner reached mapped c is depth low (Some c.place.out) out_aside depth c.place.jump (inl refl)
            (left_after l (at c.place.jump) s.0) s.0 (suc MOST_STEPS) here long MOST_STEPS refl)

    pub length_is : (front round : Longest) → Up c.place.head front → Up c.place.stay round → (a : ℕ)
        → ComesToLoop img depth (at c.place.head) a
        → IsLength img owner reached depth c (length_of c.turns front round a)
    length_is (Loop x) round front turn a again = record {
      loop = front.loop;
      long = elsewhere img owner reached mapped c is depth low (Some c.place.out) out_aside depth c.place.jump (inl refl)
          all_left (at c.place.head) (suc MOST_STEPS) (at_head img owner reached mapped c is) front.long MOST_STEPS refl;
    }
    length_is (Steps f) (Loop x) front turn a again =
        elim (c.turns == 0) as (λ b. (c.turns == 0) ≡ b
        → IsLength img owner reached depth c (if b then told (in_all 0 f 0) a else Loop x)) [
          | true ↦ λ e.
              let none : c.turns ≡ 0 = grind (arith, e) in
              told_is f 0 (in_all 0 f 0) a front (λ some. absurd (omega (arith, some, none)))
              (ap (λ n. in_all n f 0) (sym none)) again
          | false ↦ λ e.
              let some : c.turns ≢ 0 = grind (arith, e) in
              turn_endless f x front (omega (arith, some)) turn
        ] refl
    length_is (Steps f) (Steps r) front turn a again =
        elim (c.turns == 0) as (λ b. (c.turns == 0) ≡ b
        → IsLength img owner reached depth c (if b then told (in_all 0 f 0) a else told (in_all c.turns f r) a)) [
          | true ↦ λ e.
              let none : c.turns ≡ 0 = grind (arith, e) in
              told_is f 0 (in_all 0 f 0) a front (λ some. absurd (omega (arith, some, none)))
              (ap (λ n. in_all n f 0) (sym none)) again
          | false ↦ λ e. told_is f r (in_all c.turns f r) a front (λ some. turn) refl again
        ] refl

    pub fold_is : (front round : Longest) → Up c.place.head front → Up c.place.stay round
        → IsFold img owner reached c (fold_of depth c front round)
    fold_is front round from turn =
        let again = again_is front round from turn in
        record {
          counts = is;
          depth = same;
          out = refl;
          again = again;
          length_is = length_is front round from turn (again_of c.place.jump front round) again;
        }

-- the lines of a loop are in the code
pub last_within : (img : Image) (owner : Owner) (reached : Reached) → HasAll img owner reached → (c : CountingLoop)
    → IsCounting img owner c → c.place.last < length img.code
last_within img owner reached mapped c is =
    let few = mapped.stays is.loop.back is.loop.back_in.point in
    let at_it = is.loop.back_last in
    omega (arith, few, at_it)

-- its head is
pub head_within : (img : Image) (owner : Owner) (reached : Reached) → HasAll img owner reached → (c : CountingLoop)
    → IsCounting img owner c → c.place.head < length img.code
head_within img owner reached mapped c is =
    let few = last_within img owner reached mapped c is in
    let high = is.loop.head.1 in
    omega (arith, few, high)

-- where so many sections are open
pub ahead_again : (img : Image) (d e : ℕ) (goal : Option ℕ) (p : Point) (l : Longest) → d ≡ e → IsAhead img d goal p l
    → IsAhead img e goal p l
ahead_again img d e goal p l same is = subst (λ n. IsAhead img n goal p l) same is

-- one more loop folded, or none
module _ (img : Image) (owner : Owner) (reached : Reached) (last : ℕ) (folds : List (Option Fold))
    (folded : AreFolds img owner reached last folds) where
  later : (a : ℕ) (f : Fold) → IsFoldAt img owner reached a last f → IsFoldAt img owner reached a (last + 1) f
  later a f is =
      let before = is.before in
      record { loop = is.loop; head_is = is.head_is; before = omega (arith, before); fold = is.fold }

  pub folds_skip : ((c : CountingLoop) → c.place.last ≡ last → ¬ IsCounting img owner c)
      → AreFolds img owner reached (last + 1) folds
  folds_skip none = record {
    size = folded.size;
    each = λ a f there. later a f (folded.each a f there);
    all = λ c counts before. ⊎_elim
        (λ same. absurd (none c same counts))
        (λ apart. folded.all c counts (omega (arith, before, apart)))
        (cases_eq c.place.last last);
  }

  pub folds_more : (c : CountingLoop) (f : Fold) → c.place.last ≡ last → IsFold img owner reached c f
      → c.place.head < length folds → AreFolds img owner reached (last + 1) (slice_set folds c.place.head (Some f))
  folds_more c f at_last fold within = record {
    size = length-set folds c.place.head (Some f) ∙ folded.size;
    each = λ a g there. ⊎_elim
        (λ same.
        let is : Some (Some f) ≡ Some (Some g) =
        sym (set_here folds c.place.head (Some f) within)
        ∙ ap (slice_get (slice_set folds c.place.head (Some f))) same ∙ there in
        let one : f ≡ g = cc in
        record {
          loop = c;
          head_is = same;
          before = omega (arith, at_last);
          fold = subst (IsFold img owner reached c) one fold;
        })
        (λ apart. later a g (folded.each a g (sym (set_apart folds c.place.head a (Some f) apart) ∙ there)))
        (cases_eq c.place.head a);
    all = λ d counts before. ⊎_elim
        (λ same.
        let one : d ≡ c = one_last img owner d c counts fold.counts (same ∙ sym at_last) in (
          f,
          ap (λ (x : CountingLoop). slice_get (slice_set folds c.place.head (Some f)) x.place.head) one
              ∙ set_here folds c.place.head (Some f) within,
        ))
        (λ other.
        let less : d.place.last < last = omega (arith, before, other) in
        let old = folded.all d counts less in (
          old.0,
          set_apart folds c.place.head d.place.head (Some f)
              (λ same. other (ap (λ (x : CountingLoop). x.place.last)
              (one_head img owner d c counts fold.counts (sym same)) ∙ at_last)) ∙ old.1,
        ))
        (cases_eq d.place.last last);
  }

no_element : (count a : ℕ) (f : Fold) → slice_get (replicate count None) a ≢ Some (Some f)
no_element zero a f = λ is. let e = is in cc
no_element (suc count) zero f = λ is. let e = is in cc
no_element (suc count) (suc a) f = no_element count a f

-- where nothing is folded
pub no_folds_yet : (img : Image) (owner : Owner) (reached : Reached) (count : ℕ) (folds : List (Option Fold))
    → folds ≡ replicate count None → count ≡ length img.code → AreFolds img owner reached 0 folds
no_folds_yet img owner reached count folds is size = record {
  size = ap length is ∙ length-replicate count None ∙ size;
  each = λ a f there.
      absurd (no_element count a f (sym (ap (λ (fs : List (Option Fold)). slice_get fs a) is) ∙ there));
  all = λ c counts before. absurd (omega (arith, before));
}

-- a survey that was begun anew
pub begun_blank : (img : Image) (old new : Survey) (goal depth : ℕ) → IsBlank img old → IsBegun old new goal depth
    → IsBlank img new
begun_blank img old new goal depth blank begun = record {
  trail = ap (λ v. v.items) begun.trail ∙ blank.trail;
  size = ap (λ v. length v.items) begun.marks ∙ blank.size;
  seen = ap (λ v. v.items) begun.seen ∙ blank.seen;
  unseen = λ a m there. blank.unseen a m (sym (ap (λ v. slice_get v.items a) begun.marks) ∙ there);
}

-- and one of which all is forgotten
pub forgotten_blank : (img : Image) (old new : Survey) → old.trail.items ≡ [] → length old.marks.items ≡ length img.code
    → IsForgotten old new → IsBlank img new
forgotten_blank img old new empty size gone = record {
  trail = ap (λ v. v.items) gone.trail ∙ empty;
  size = gone.size ∙ size;
  seen = gone.seen;
  unseen = gone.unseen;
}
