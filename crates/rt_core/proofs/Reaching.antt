-- Core steps one after another, up to one that gives an item.
use Rattle.std.proofs.Common.{◌≡◌, ℕ, zero, suc, ◌+◌, ◌-◌, ◌<◌, ◌≤◌, List, [], ◌∷◌, ◌++◌, replicate, Result, Option}
use Rattle.std.proofs.Common.{Some, None, refl, ap, sym, subst, ◌∙◌, append_assoc, arith}
use Rattle.std.proofs.lemmas.List.{append-nil, replicate-append-replicate}
use Rattle.rt_ids.specs.Event.{Step}
use Rattle.rt_code.specs.Image.{Image}
use Rattle.rt_code.specs.declared.processor.Request.{Request}
use Rattle.rt_code.specs.declared.processor.Trap.{Trap}
use Rattle.rt_trace.specs.Label.{Label, Stepped}
use Rattle.rt_trace.specs.declared.item.What.{What}
use Rattle.rt_core.specs.Core.{Core}
use Rattle.rt_core.specs.Machine.{Machine}
use Rattle.rt_core.specs.Outcome.{settle}
use Rattle.rt_core.specs.Reaching.{Reaches, and_the_last, label_of_item}
use Rattle.rt_core.specs.Stepping.{step}
use Rattle.rt_core.specs.Trace.{happen, core_after, labels}
use Rattle.rt_core.specs.Inside.Begun.{outcome_of_rest}
use Rattle.rt_core.specs.declared.step.Begun.{Begun}
use Rattle.rt_core.proofs.Happening.{core_after-append, labels-append}

pub none_done : (img : Image) (c : Core) → Reaches img c c 0 None
unfolding core_after labels
none_done img c = record { silent = 0; count = refl; core = refl; shows = refl }

-- one step
pub one_step : (img : Image) (c d : Core) (shown : Option What) → step img c ≡ (d, shown) → Reaches img c d 1 shown
unfolding core_after labels happen
one_step img c d None is = record {
  silent = 1;
  count = refl;
  core = sym (ap (λ s. s.0) is);
  shows = ap (λ (s : Core × Option What). Stepped s.1 ∷ []) is;
}
one_step img c d (Some w) is = record {
  silent = 0;
  count = refl;
  core = sym (ap (λ s. s.0) is);
  shows = ap (λ (s : Core × Option What). Stepped s.1 ∷ []) is;
}

-- steps behind silent ones
pub further : (img : Image) (a b d : Core) (n m : ℕ) (shown : Option What) → Reaches img a b n None
    → Reaches img b d m shown → Reaches img a d (n + m) shown
further img a b d n m shown first second = record {
  silent = first.silent + second.silent;
  count = count_is shown second.count;
  core =
      second.core ∙ ap (λ c. core_after img c (replicate m Step)) first.core
      ∙ sym (core_after-append img a (replicate n Step) (replicate m Step))
      ∙ ap (core_after img a) (replicate-append-replicate n m Step);
  shows =
      ap (labels img a) (sym (replicate-append-replicate n m Step))
      ∙ labels-append img a (replicate n Step) (replicate m Step)
      ∙ ap (λ ls. ls ++ labels img (core_after img a (replicate n Step)) (replicate m Step))
      (first.shows ∙ append-nil (replicate first.silent (Stepped None)))
      ∙ ap (λ c. replicate first.silent (Stepped None) ++ labels img c (replicate m Step)) (sym first.core)
      ∙ ap (λ ls. replicate first.silent (Stepped None) ++ ls) second.shows
      ∙ sym (append_assoc (replicate first.silent (Stepped None)) (replicate second.silent (Stepped None))
      (label_of_item shown))
      ∙ ap (λ ls. ls ++ label_of_item shown)
      (replicate-append-replicate first.silent second.silent (Stepped None));
}
  where
    count_is : (shown : Option What) → m ≡ and_the_last second.silent shown
        → n + m ≡ and_the_last (first.silent + second.silent) shown
    count_is None is = let e : n + m ≡ first.silent + second.silent = omega (arith, first.count, is) in e
    count_is (Some w) is = let e : n + m ≡ suc (first.silent + second.silent) = omega (arith, first.count, is) in e

-- a core that stays as it is, in silence, does so for so many steps
pub stays : (img : Image) (c : Core) (n : ℕ) → step img c ≡ (c, None) → Reaches img c c n None
stays img c zero is = none_done img c
stays img c (suc n) is =
    subst (λ m. Reaches img c c m None) (let e : 1 + n ≡ suc n = omega arith in e)
    (further img c c c 1 n None (one_step img c c None is) (stays img c n is))

-- no step has been done
pub none_yet : (img : Image) (c : Core) (left : ℕ) → Reaches img c c (left - left) None
none_yet img c left = subst (λ n. Reaches img c c n None) (let e : 0 ≡ left - left = omega arith in e) (none_done img c)

-- some of those that are left
pub some_of_left : (old now : Machine) (d : Core) (shown : Option What) (most left fewer : ℕ)
    → Reaches old.image old.core now.core (most - left) None
    → now ≡ record old { core = now.core } → left ≤ most → fewer ≤ left
    → Reaches now.image now.core d (left - fewer) shown
    → Reaches old.image old.core d (most - fewer) shown
some_of_left old now d shown most left fewer first rest within down second =
    subst (λ n. Reaches old.image old.core d n shown)
    (let e : most - left + (left - fewer) ≡ most - fewer = omega (arith, within, down) in e)
    (further old.image old.core now.core d (most - left) (left - fewer) shown first
    (subst (λ (m : Machine). Reaches m.image now.core d (left - fewer) shown) rest second))

-- one of those that are left
pub one_of_left : (old now : Machine) (d : Core) (shown : Option What) (most left : ℕ)
    → Reaches old.image old.core now.core (most - left) None
    → now ≡ record old { core = now.core } → step now.image now.core ≡ (d, shown) → left ≤ most → 0 < left
    → Reaches old.image old.core d (most - (left - 1)) shown
one_of_left old now d shown most left first rest is within some =
    some_of_left old now d shown most left (left - 1) first rest within (omega arith)
    (subst (λ n. Reaches now.image now.core d n shown) (let e : 1 ≡ left - (left - 1) = omega (arith, some) in e)
    (one_step now.image now.core d shown is))

-- a step that began and was completed
pub completed : (now mid : Machine) (d : Core) (shown : Option What) (begun : Begun) (came : Result Request Trap)
    (address : ℕ)
    → step now.image now.core ≡ settle (outcome_of_rest now.image mid.core now.core.processor.address begun came) → mid
    ≡ record now { core = mid.core }
    → address ≡ now.core.processor.address → settle (outcome_of_rest mid.image mid.core address begun came) ≡ (d, shown)
    → step now.image now.core ≡ (d, shown)
completed now mid d shown begun came address begins rest there ends =
    begins
    ∙ ap (λ (m : Machine). settle (outcome_of_rest m.image mid.core now.core.processor.address begun came)) (sym rest)
    ∙ ap (λ a. settle (outcome_of_rest mid.image mid.core a begun came)) (sym there)
    ∙ ends

-- what the first of labels shows
abbrev first_shown : List Label → Option What
first_shown (Stepped shown ∷ ls) = shown
first_shown ls = None

-- where one step was done, the core is what it leaves, and it shows what the step gives
pub one_done : (img : Image) (old new : Core) (done : ℕ) (shown : Option What) → Reaches img old new done shown
    → done ≡ 1 → step img old ≡ (new, shown)
unfolding core_after labels happen
one_done img old new done shown goes one =
    ap (λ c. (c, (step img old).1)) (sym core_is) ∙ ap (λ w. (new, w)) (shown_is shown goes one)
  where
    core_is : new ≡ (step img old).0
    core_is = goes.core ∙ ap (λ n. core_after img old (replicate n Step)) one

    shown_is : (shown : Option What) → Reaches img old new done shown → done ≡ 1 → (step img old).1 ≡ shown
    shown_is None goes one =
        let silent : goes.silent ≡ 1 = sym goes.count ∙ one in
        ap first_shown (ap (λ n. labels img old (replicate n Step)) (sym one) ∙ goes.shows
        ∙ ap (λ n. replicate n (Stepped None) ++ []) silent)
    shown_is (Some w) goes one =
        let silent : goes.silent ≡ 0 = omega (arith, one, goes.count) in
        ap first_shown (ap (λ n. labels img old (replicate n Step)) (sym one) ∙ goes.shows
        ∙ ap (λ n. replicate n (Stepped None) ++ Stepped (Some w) ∷ []) silent)
