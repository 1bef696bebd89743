-- The priorities that have a handler, and the interrupt that goes deepest at each.
use Rattle.std.proofs.Common.{◌≡◌, ℕ, zero, suc, ◌+◌, ◌==◌, ◌≤◌, ◌&&◌, not, Bool, true, false, if◌then◌else◌, List, []}
use Rattle.std.proofs.Common.{◌∷◌, ◌++◌}
use Rattle.std.proofs.Common.{length, map, find, Option, Some, None, refl, ap, sym, ◌∙◌, arith, append-nil}
use Rattle.std.proofs.Common.{length-append}
use Rattle.std.specs.List.{list_any}
use Rattle.std.proofs.lemmas.List.{map-append}
use Rattle.std.proofs.lemmas.Option.{none-some}
use Rattle.rt_lemmas.proofs.Bools.{and_parts, or_left}
use Rattle.rt_lemmas.proofs.Membership.{any_passes}
use Rattle.rt_lemmas.proofs.Lists.{found_passes}
use Rattle.rt_ids.specs.Lists.{those_below, or_zero, then_from, greatest}
use Rattle.rt_ids.proofs.Lists.{those_next}
use Rattle.rt_app.specs.Tree.{Task, App}
use Rattle.rt_app.specs.Accepted.{IsAccepted}
use Rattle.rt_app.specs.Acceptance.{IsSound}
use Rattle.rt_app.specs.Frame.{frame_words}
use Rattle.rt_app.specs.Handlers.{irq_number, has_no_monotonic, bound_number}
use Rattle.rt_app.specs.Level.{is_software}
use Rattle.rt_app.specs.Stack.{is_bound_at, is_timed_at, has_handler, frames_of, need}
use Rattle.rt_app.proofs.Sound.{accepted_are_sound}
use Rattle.rt_lines.proofs.Found.{found_at}
use Rattle.rt_app.specs.Forms.{has_no_software, body_holds_no_pend, is_brief, has_deepest_script}
use Rattle.rt_reach.specs.Priorities.{deepest_task, deepest_irq}
use Rattle.rt_reach.proofs.Served.{IsDeepestAt, deepest_at, need_is}
use Rattle.rt_frames.proofs.Below.{below_none}

-- what the form says
pub record IsOfForm (app : App) : Type 0 where
  pub hardware : has_no_software app ≡ true
  pub untimed : has_no_monotonic app ≡ true
  pub quiet : body_holds_no_pend app.init ≡ true
  pub brief : is_brief app ≡ true

pub form_of : (app : App) → has_deepest_script app ≡ true → IsOfForm app
form_of app is =
    let parts = and_parts (has_no_software app && has_no_monotonic app) (body_holds_no_pend app.init && is_brief app)
    is in
    let alone = and_parts (has_no_software app) (has_no_monotonic app) parts.0 in
    let start = and_parts (body_holds_no_pend app.init) (is_brief app) parts.1 in
    record { hardware = alone.0; untimed = alone.1; quiet = start.0; brief = start.1 }

pub below_yes : (test : ℕ → Bool) (n : ℕ) → test n ≡ true → those_below test (suc n) ≡ those_below test n ++ n ∷ []
below_yes test n is = those_next test n ∙ ap (λ b. those_below test n ++ (if b then n ∷ [] else [])) is

pub below_no : (test : ℕ → Bool) (n : ℕ) → test n ≡ false → those_below test (suc n) ≡ those_below test n
below_no test n is =
    those_next test n ∙ ap (λ b. those_below test n ++ (if b then n ∷ [] else [])) is
    ∙ append-nil (those_below test n)

pub below_few : (test : ℕ → Bool) (n : ℕ) → length (those_below test n) ≤ n
below_few test zero = let none = ap length (below_none test) in omega (arith, none)
below_few test (suc n) = by (test n) refl (below_few test n)
  where
    by : (b : Bool) → test n ≡ b → length (those_below test n) ≤ n → length (those_below test (suc n)) ≤ suc n
    by true is few =
        let all = ap length (below_yes test n is) in
        omega (arith, few, all, length-append (those_below test n) (n ∷ []))
    by false is few = let all = ap length (below_no test n is) in omega (arith, few, all)

then_twice : {A : Type 0} (o : Option A) (f : A → Option ℕ) (g : ℕ → Option ℕ)
    → then_from (then_from o f) g ≡ then_from o (λ x. then_from (f x) g)
then_twice None f g = refl
then_twice (Some x) f g = refl

module _ (app : App) (accepted : IsAccepted app) (form : has_deepest_script app ≡ true) where
  abbrev sound : IsSound app
  sound = accepted_are_sound app accepted

  -- the deepest interrupt by the first task of the greatest frame
  pub deepest_by : (p words : ℕ) → words ≡ greatest (frames_of (is_bound_at p) app)
      → then_from (then_from (find (λ t. is_bound_at p t && (frame_words t.args t.body == words)) app.tasks)
      (λ t. t.binds)) (irq_number app) ≡ deepest_irq app p
  deepest_by p words is =
      let of_form = form_of app form in
      let all : words ≡ need app p = is ∙ sym (need_is app accepted sound of_form.hardware of_form.untimed p) in
      ap (λ w. then_from (then_from (find (λ (t : Task). is_bound_at p t && (frame_words t.args t.body == w)) app.tasks)
      (λ (t : Task). t.binds)) (irq_number app)) all
      ∙ then_twice (deepest_task app p) (λ (t : Task). t.binds) (irq_number app)

  pub deepest_handled : (p irq : ℕ) → deepest_irq app p ≡ Some irq → has_handler app p ≡ true
  deepest_handled p irq is = by (deepest_task app p) refl is
    where
      by : (o : Option Task) → deepest_task app p ≡ o → then_from o (bound_number app) ≡ Some irq
          → has_handler app p ≡ true
      by None at is = absurd (none-some irq is)
      by (Some t) at is =
          let test : Task → Bool = λ (u : Task). is_bound_at p u && (frame_words u.args u.body == need app p) in
          let index = found_at test app.tasks t at in
          let bound = (and_parts (is_bound_at p t) (frame_words t.args t.body == need app p)
          (found_passes test app.tasks t at)).0 in
          let priority = (and_parts (not (is_software t)) (t.priority == p) bound).1 in
          or_left (list_any (λ (u : Task). u.priority == p) app.tasks) (is_timed_at p app)
          (any_passes (λ (u : Task). u.priority == p) app.tasks index.0 t index.1 priority)

  pub handled_deepest : (p : ℕ) → has_handler app p ≡ true → (irq : ℕ) × IsDeepestAt app p irq
  handled_deepest p has = let of_form = form_of app form in
      deepest_at app accepted sound of_form.hardware of_form.untimed p has

  pub unhandled : (p : ℕ) → deepest_irq app p ≡ None → has_handler app p ≡ false
  unhandled p none = by (has_handler app p) refl
    where
      by : (b : Bool) → has_handler app p ≡ b → has_handler app p ≡ false
      by true is = let at = handled_deepest p is in absurd (none-some at.0 (sym none ∙ at.1.is))
      by false is = is

  -- those of the priorities below one
  abbrev pub irqs_below : ℕ → List ℕ
  irqs_below p = map (λ q. or_zero (deepest_irq app q)) (those_below (has_handler app) p)

  pub irqs_yes : (p irq : ℕ) → deepest_irq app p ≡ Some irq → irqs_below (suc p) ≡ irqs_below p ++ irq ∷ []
  irqs_yes p irq is =
      ap (map (λ q. or_zero (deepest_irq app q))) (below_yes (has_handler app) p (deepest_handled p irq is))
      ∙ map-append (λ q. or_zero (deepest_irq app q)) (those_below (has_handler app) p) (p ∷ [])
      ∙ ap (λ o. irqs_below p ++ or_zero o ∷ []) is

  pub irqs_no : (p : ℕ) → has_handler app p ≡ false → irqs_below (suc p) ≡ irqs_below p
  irqs_no p is = ap (map (λ q. or_zero (deepest_irq app q))) (below_no (has_handler app) p is)

  -- one priority more
  pub pushed : (p irq : ℕ) (irqs more : List ℕ) → irqs ≡ irqs_below p → deepest_irq app p ≡ Some irq
      → more ≡ irqs ++ irq ∷ [] → more ≡ irqs_below (p + 1)
  pushed p irq irqs more are is all =
      let next : suc p ≡ p + 1 = omega arith in
      all ∙ ap (λ ns. ns ++ irq ∷ []) are ∙ sym (irqs_yes p irq is) ∙ ap irqs_below next

  pub kept : (p : ℕ) (irqs more : List ℕ) → irqs ≡ irqs_below p → deepest_irq app p ≡ None → more ≡ irqs
      → more ≡ irqs_below (p + 1)
  kept p irqs more are none all =
      let next : suc p ≡ p + 1 = omega arith in
      all ∙ are ∙ sym (irqs_no p (unhandled p none)) ∙ ap irqs_below next
