-- What the lines of a limits text tell of an image are limits.
use Rattle.std.proofs.Common.{◌≡◌, ℕ, ◌≤◌, ◌==◌, inl, inr, Bool, true, false, ◌||◌, ◌&&◌, nat_le, if◌then◌else◌, List}
use Rattle.std.proofs.Common.{[], ◌∷◌, ◌++◌, map, find, bytes_eq, option_to_list, Option, Some, None, Ok}
use Rattle.std.proofs.Common.{Err, IfOk, IfSome, eq-eqb, refl, sym, ap, subst, ◌∙◌, append-nil}
use Rattle.std.specs.Prelude.{is_some}
use Rattle.std.specs.List.{list_any}
use Rattle.std.proofs.lemmas.Bool.{cond_both, leb-true}
use Rattle.std.proofs.lemmas.List.{map-append}
use Rattle.rt_lemmas.proofs.Bools.{or_right, true_and_false}
use Rattle.rt_lemmas.proofs.Membership.{all_append, any_contained, contains_cases, contains_none}
use Rattle.rt_ids.specs.Lists.{AreDifferent, then_from}
use Rattle.rt_lines.specs.Numbers.{short_number}
use Rattle.rt_lines.specs.Parts.{spaced_words}
use Rattle.rt_lines.specs.Reading.{Lead}
use Rattle.rt_lines.proofs.Decoded.{if_ok_chosen, if_ok_then, if_ok_make}
use Rattle.rt_lines.proofs.Reading.{kept}
use Rattle.rt_app.proofs.Different.{different_append, different_cons, different_none}
use Rattle.rt_code.specs.Image.{Image}
use Rattle.rt_code.specs.declared.image.IrqRow.{IrqRow}
use Rattle.rt_rta.specs.Limits.{every_of}
use Rattle.rt_rta.specs.Wording.{distance_of, limit_for}
use Rattle.rt_rta.specs.declared.limits.Limit.{Limit}
use Rattle.rt_rta.specs.declared.line.Wrong.TheVariants as wrong
use Rattle.rt_rta.proofs.Telling.{has_limit}
use Rattle.rt_image_times.specs.Limits.{has_enabled, AreImageLimits}
use Rattle.rt_image_times.specs.Text.{image_limits_reader}
use Rattle.rt_image_times.specs.Wording.{enabled_number, enabled_of, enabled_irq, named_limit, words_limit, line_limit}

-- whether a row is enabled and has this number
abbrev is_of : ℕ → IrqRow → Bool
is_of irq row = (row.number == irq) && is_some row.handler

weaker : (o : Option ℕ) (P Q : ℕ → Type 0) → ((n : ℕ) → P n → Q n) → IfSome o P → IfSome o Q
weaker None P Q means is = tt
weaker (Some n) P Q means is = means n is

-- the enabled interrupt of a name is one of them
named_enabled : (name : List ℕ) (rows : List IrqRow)
    → IfSome (enabled_of rows name) (λ irq. list_any (is_of irq) rows ≡ true)
named_enabled name [] = tt
named_enabled name (row ∷ rows) =
    elim (bytes_eq row.name name) as (λ b. IfSome (then_from
    (if b then Some row else find (λ (r : IrqRow). bytes_eq r.name name) rows) enabled_number)
    (λ irq. (is_of irq row || list_any (is_of irq) rows) ≡ true))
    [ true ↦ here (is_some row.handler) refl | false ↦ later (named_enabled name rows) ]
  where
    here : (b : Bool) → is_some row.handler ≡ b → IfSome (if b then Some row.number else None)
        (λ irq. (is_of irq row || list_any (is_of irq) rows) ≡ true)
    here true is =
        ap (λ b. (b && is_some row.handler) || list_any (is_of row.number) rows)
        (eq-eqb row.number row.number refl)
        ∙ ap (λ b. b || list_any (is_of row.number) rows) is
    here false is = tt

    later : IfSome (enabled_of rows name) (λ irq. list_any (is_of irq) rows ≡ true)
        → IfSome (enabled_of rows name) (λ irq. (is_of irq row || list_any (is_of irq) rows) ≡ true)
    later there = weaker (enabled_of rows name) (λ irq. list_any (is_of irq) rows ≡ true) _
        (λ irq is. or_right (is_of irq row) (list_any (is_of irq) rows) is) there

module _ (img : Image) (limits : List Limit) where
  abbrev IsEnabled : ℕ → Type 0
  IsEnabled irq = has_enabled img irq ≡ true

  -- a limit that can come behind these
  record IsNew (l : Limit) : Type 0 where
    enabled : IsEnabled l.irq
    positive : 1 ≤ l.every
    fresh : is_some (every_of limits l.irq) ≡ false

  distance_some : (o : Option ℕ) → IfOk (distance_of o) (λ n. 1 ≤ n)
  distance_some None = tt
  distance_some (Some n) =
      cond_both (nat_le 1 n) (Ok n) (Err wrong.Form) (λ r. IfOk r (λ n. 1 ≤ n)) (leb-true 1 n) (λ _. tt)

  for_new : (every : ℕ) (o : Option ℕ) → IfSome o IsEnabled → 1 ≤ every → IfOk (limit_for limits every o) IsNew
  for_new every None enabled some = tt
  for_new every (Some irq) enabled some =
      cond_both (is_some (every_of limits irq)) (Err wrong.Form) (Ok (record { irq = irq; every = every }))
      (λ r. IfOk r IsNew) (λ _. tt) (λ fresh. record { enabled = enabled; positive = some; fresh = fresh })

  limit_new : (name count : List ℕ) → IfOk (named_limit img limits name count) IsNew
  limit_new name count =
      if_ok_then IsNew (distance_of (short_number count)) (λ every. limit_for limits every (enabled_irq img name)) _
      (distance_some (short_number count))
      (λ every. for_new every (enabled_irq img name) (named_enabled name img.irqs))

  words_new : (words : List (List ℕ)) → IfOk (words_limit img limits words) IsNew
  words_new [] = tt
  words_new (verb ∷ []) = tt
  words_new (verb ∷ name ∷ []) = tt
  words_new (verb ∷ name ∷ count ∷ []) = let limit = limit_new name count in search (if_ok_chosen, limit)
  words_new (verb ∷ name ∷ count ∷ more ∷ words) = tt

  line_new : (line : List ℕ) → IfOk (line_limit img limits line) (λ told. IfSome told IsNew)
  line_new line =
      let tells = if_ok_make (λ told. IfSome told IsNew) (words_limit img limits (spaced_words line)) Some _
      (words_new (spaced_words line)) (λ told is. is) in
      search (if_ok_chosen, tells)

one_more : (img : Image) (limits : List Limit) (l : Limit) → AreImageLimits img limits → IsNew img limits l
    → AreImageLimits img (limits ++ l ∷ [])
one_more img limits l fine new = record {
  enabled = all_append (λ (limit : Limit). has_enabled img limit.irq ≡ true) limits (l ∷ []) fine.enabled
      (new.enabled, tt);
  once =
      subst AreDifferent (sym (map-append (λ (limit : Limit). limit.irq) limits (l ∷ [])))
      (different_append (map (λ (limit : Limit). limit.irq) limits) (l.irq ∷ []) fine.once
      (different_cons l.irq [] (contains_none l.irq) different_none)
      (λ irq there here. elim (contains_cases l.irq [] irq here) [
        | inl same ↦ true_and_false (is_some (every_of limits irq))
            (has_limit limits irq ∙ any_contained irq (map (λ l. l.irq) limits) there)
            (subst (λ i. is_some (every_of limits i) ≡ false) same new.fresh)
        | inr none ↦ contains_none irq none
      ]));
  positive = all_append (λ (limit : Limit). 1 ≤ limit.every) limits (l ∷ []) fine.positive (new.positive, tt);
}

joined : (img : Image) (limits : List Limit) (told : Option Limit) → AreImageLimits img limits
    → IfSome told (IsNew img limits) → AreImageLimits img (limits ++ option_to_list told)
joined img limits None fine new = subst (AreImageLimits img) (sym (append-nil limits)) fine
joined img limits (Some l) fine new = one_more img limits l fine new

-- what lines tell are limits
pub lead_fine : (img : Image) (ls : List (List ℕ)) (limits : List Limit) → Lead (image_limits_reader img) [] ls limits
    → AreImageLimits img limits
lead_fine img ls limits lead =
    kept (image_limits_reader img) (AreImageLimits img)
    (λ limits line fine. if_ok_make (AreImageLimits img) (line_limit img limits line)
    (λ told. limits ++ option_to_list told) _
    (line_new img limits line) (λ told. joined img limits told fine))
    [] limits ls lead (record { enabled = tt; once = different_none; positive = tt })
