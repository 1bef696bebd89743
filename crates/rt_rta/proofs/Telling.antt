-- What the lines of a limits text tell are limits.
use Rattle.std.proofs.Common.{◌≡◌, ℕ, ◌≤◌, ◌==◌, inl, inr, true, false, ◌||◌, nat_le, if◌then◌else◌, List, [], ◌∷◌}
use Rattle.std.proofs.Common.{◌++◌, map, find, option_map, option_to_list, Option, Some, None, Ok, Err, IfOk, IfSome}
use Rattle.std.proofs.Common.{refl, sym, subst, ◌∙◌, append-nil}
use Rattle.std.specs.Prelude.{is_some}
use Rattle.std.specs.List.{list_any}
use Rattle.std.proofs.lemmas.Bool.{cond_both, leb-true}
use Rattle.std.proofs.lemmas.List.{map-append}
use Rattle.rt_lemmas.proofs.Bools.{true_and_false}
use Rattle.rt_lemmas.proofs.Membership.{all_append, any_contained, contains_cases, contains_none}
use Rattle.rt_ids.specs.Lists.{AreDifferent, then_from}
use Rattle.rt_lines.specs.Numbers.{short_number}
use Rattle.rt_lines.specs.Parts.{spaced_words}
use Rattle.rt_lines.specs.Reading.{Lead}
use Rattle.rt_lines.proofs.Decoded.{if_ok_chosen, if_ok_then, if_ok_make}
use Rattle.rt_lines.proofs.Reading.{kept}
use Rattle.rt_app.specs.Tree.{App}
use Rattle.rt_app.proofs.Different.{different_append, different_cons, different_none}
use Rattle.rt_rta.specs.declared.limits.Limit.{Limit}
use Rattle.rt_rta.specs.declared.line.Wrong.TheVariants as wrong
use Rattle.rt_rta.specs.Limits.{is_bound, every_of, AreLimits}
use Rattle.rt_rta.specs.Text.{limits_reader}
use Rattle.rt_rta.specs.Wording.{irq_of, if_bound, bound_irq, distance_of, limit_for, limit_of, words_tell, limit_line}

module _ (app : App) (limits : List Limit) where
  abbrev IsBound : ℕ → Type 0
  IsBound irq = is_bound app irq ≡ true

  -- a limit that can come behind these
  record IsNew (l : Limit) : Type 0 where
    bound : IsBound l.irq
    positive : 1 ≤ l.every
    fresh : is_some (every_of limits l.irq) ≡ false

  irq_bound : (o : Option ℕ) → IfSome (then_from o (if_bound app)) IsBound
  irq_bound None = tt
  irq_bound (Some n) = cond_both (is_bound app n) (Some n) None (λ o. IfSome o IsBound) (λ is. is) (λ _. tt)

  distance_some : (o : Option ℕ) → IfOk (distance_of o) (λ n. 1 ≤ n)
  distance_some None = tt
  distance_some (Some n) =
      cond_both (nat_le 1 n) (Ok n) (Err wrong.Form) (λ r. IfOk r (λ n. 1 ≤ n)) (leb-true 1 n) (λ _. tt)

  for_new : (every : ℕ) (o : Option ℕ) → IfSome o IsBound → 1 ≤ every → IfOk (limit_for limits every o) IsNew
  for_new every None bound some = tt
  for_new every (Some irq) bound some =
      cond_both (is_some (every_of limits irq)) (Err wrong.Form) (Ok (record { irq = irq; every = every }))
      (λ r. IfOk r IsNew) (λ _. tt) (λ fresh. record { bound = bound; positive = some; fresh = fresh })

  limit_new : (name count : List ℕ) → IfOk (limit_of app limits name count) IsNew
  limit_new name count =
      if_ok_then IsNew (distance_of (short_number count)) (λ every. limit_for limits every (bound_irq app name)) _
      (distance_some (short_number count))
      (λ every. for_new every (bound_irq app name) (irq_bound (irq_of app.irqs name)))

  words_new : (words : List (List ℕ)) → IfOk (words_tell app limits words) IsNew
  words_new [] = tt
  words_new (verb ∷ []) = tt
  words_new (verb ∷ name ∷ []) = tt
  words_new (verb ∷ name ∷ count ∷ []) = let limit = limit_new name count in search (if_ok_chosen, limit)
  words_new (verb ∷ name ∷ count ∷ more ∷ words) = tt

  line_new : (line : List ℕ) → IfOk (limit_line app limits line) (λ told. IfSome told IsNew)
  line_new line =
      let tells = if_ok_make (λ told. IfSome told IsNew) (words_tell app limits (spaced_words line)) Some _
      (words_new (spaced_words line)) (λ told is. is) in
      search (if_ok_chosen, tells)

-- an interrupt that stands among the limits has one
pub has_limit : (limits : List Limit) (irq : ℕ)
    → is_some (every_of limits irq) ≡ list_any (λ n. n == irq) (map (λ l. l.irq) limits)
has_limit [] irq = refl
has_limit (l ∷ limits) irq =
    elim (l.irq == irq) as (λ b. is_some (option_map (λ (l : Limit). l.every)
    (if b then Some l else find (λ l. l.irq == irq) limits)) ≡ (b || list_any (λ n. n == irq) (map
    (λ l. l.irq) limits)))
    [ true ↦ refl | false ↦ has_limit limits irq ]

one_more : (app : App) (limits : List Limit) (l : Limit) → AreLimits app limits → IsNew app limits l
    → AreLimits app (limits ++ l ∷ [])
one_more app limits l fine new = record {
  bound = all_append (λ (limit : Limit). is_bound app limit.irq ≡ true) limits (l ∷ []) fine.bound (new.bound, tt);
  once =
      subst AreDifferent (sym (map-append (λ (limit : Limit). limit.irq) limits (l ∷ [])))
      (different_append (map (λ (limit : Limit). limit.irq) limits) (l.irq ∷ []) fine.once
      (different_cons l.irq [] (contains_none l.irq) different_none)
      (λ irq there here. elim (contains_cases l.irq [] irq here) [
        | inl same ↦ true_and_false (is_some (every_of limits irq))
            (has_limit limits irq ∙ any_contained irq (map (λ l. l.irq) limits) there)
            (subst (λ i. is_some (every_of limits i) ≡ false) same new.fresh)
        | inr none ↦ contains_none irq none
      ]));
  positive = all_append (λ (limit : Limit). 1 ≤ limit.every) limits (l ∷ []) fine.positive (new.positive, tt);
}

joined : (app : App) (limits : List Limit) (told : Option Limit) → AreLimits app limits → IfSome told (IsNew app limits)
    → AreLimits app (limits ++ option_to_list told)
joined app limits None fine new = subst (AreLimits app) (sym (append-nil limits)) fine
joined app limits (Some l) fine new = one_more app limits l fine new

-- what lines tell are limits
pub lead_fine : (app : App) (ls : List (List ℕ)) (limits : List Limit) → Lead (limits_reader app) [] ls limits
    → AreLimits app limits
lead_fine app ls limits lead =
    kept (limits_reader app) (AreLimits app)
    (λ limits line fine. if_ok_make (AreLimits app) (limit_line app limits line)
    (λ told. limits ++ option_to_list told) _
    (line_new app limits line) (λ told. joined app limits told fine))
    [] limits ls lead (record { bound = tt; once = different_none; positive = tt })
