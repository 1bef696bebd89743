-- Sizes of code that are counted up to a greatest number.
use Rattle.std.proofs.Common.{◌≡◌, ℕ, ◌+◌, ◌<◌, min, Bool, ◌||◌, List, ◌++◌, length, get_or, map, drop, Option, sym, ap}
use Rattle.std.proofs.Common.{◌∙◌, arith}
use lib.Dec.{ltb}
use Rattle.std.proofs.lemmas.Bool.Decides.{nat_tests}
use Rattle.rt_lemmas.proofs.Lists.{drop_as_cons}
use Rattle.rt_ids.specs.declared.limits.TheConstants.{BODY_COST, CODE_SIZE}
use Rattle.rt_ids.specs.declared.rule.Rule.TheVariants as rule
use Rattle.rt_app.specs.Tree.{App}
use Rattle.rt_app.specs.Bodies.{Member}
use Rattle.rt_app.specs.BodyCost.{body_cost, cost_measure, size_measure}
use Rattle.rt_app.specs.Length.{too_long}
use Rattle.rt_app.specs.Violation.{when}
use Rattle.rt_app.specs.declared.violation.Violation.{Violation}
use Rattle.rt_rules.specs.Inside.First.{first_of}
use Rattle.rt_rules.proofs.Fold.{first_of_append}

over : (n limit most : ℕ) → limit < most → ltb limit (min n most) ≡ ltb limit n
over n limit most h = grind (arith, nat_tests)

-- whether the code is too large up to a body
outgrows : (size own before behind most limit : ℕ) → limit < most → before ≡ min size most → behind
    ≡ min (before + own) most → ltb limit behind ≡ ltb limit (size + own)
outgrows size own before behind most limit h e f =
    let all : behind ≡ min (size + own) most = omega arith in
    ap (λ n. ltb limit n) all ∙ over (size + own) limit most h

-- the violation of one more body
pub length_more : {A : Type 0} (seen : A → Member) (app : App) (ms : List A) (i : ℕ) (x : A)
    (size before own behind steps most : ℕ) (broken : Bool) (o p v : Option Violation)
    → i < length ms → x ≡ get_or ms i x → CODE_SIZE < most → before ≡ min size most
    → own ≡ body_cost (size_measure app) (seen x).body → behind ≡ min (before + own) most → steps
    ≡ body_cost (cost_measure app) (seen x).body
    → broken ≡ (ltb BODY_COST steps || ltb CODE_SIZE behind) → p ≡ first_of o
    (when broken rule.TooLongBody (seen x).body.at)
    → first_of o (too_long app size (map seen (drop i ms))) ≡ v
    → (behind ≡ min (size + own) most) × (first_of p (too_long app (size + own) (map seen (drop (i + 1) ms))) ≡ v)
length_more seen app ms i x size before own behind steps most broken o p v h e large so_far own_is behind_is steps_are
    is here was =
    let m = seen x in
    let rest = too_long app (size + own) (map seen (drop (i + 1) ms)) in
    let cost = body_cost (cost_measure app) m.body in
    let judged : broken ≡ (ltb BODY_COST cost || ltb CODE_SIZE (size + own)) =
    is ∙ ap (λ n. ltb BODY_COST n || ltb CODE_SIZE behind) steps_are
    ∙ ap (λ b. ltb BODY_COST cost || b) (outgrows size own before behind most CODE_SIZE large so_far behind_is) in
    let one = λ (n : ℕ). when (ltb BODY_COST cost || ltb CODE_SIZE (size + n)) rule.TooLongBody m.body.at in
    let whole : first_of o (one own ++ rest) ≡ v =
    ap (λ n. first_of o (one n ++ too_long app (size + n) (map seen (drop (i + 1) ms)))) own_is
    ∙ ap (λ ms. first_of o (too_long app size (map seen ms))) (sym (drop_as_cons ms i x h e)) ∙ was in (
      omega arith,
      ap (λ (w : Option Violation). first_of w rest) (here ∙ ap (λ b. first_of o (when b rule.TooLongBody m.body.at))
          judged) ∙ sym (first_of_append o (one own) rest) ∙ whole,
    )
