-- What the lines of a limits text say are limits.
use Rattle.std.proofs.Common.{◌≡◌, ℕ, ◌≤◌, ◌==◌, inl, inr, true, false, ◌||◌, nat_le, if◌then◌else◌, List, []}
use Rattle.std.proofs.Common.{◌∷◌}
use Rattle.std.proofs.Common.{◌++◌, map, find, option_map, slice_get, Option, Some, None, Ok, Err, IfOk, IfSome}
use Rattle.std.proofs.Common.{eq-eqb, refl, sym, ap, subst, ◌∙◌}
use Rattle.std.specs.Prelude.{is_some, IsSome}
use Rattle.std.specs.List.{list_any}
use Rattle.std.proofs.lemmas.Bool.{cond_both, leb-true}
use Rattle.std.proofs.lemmas.List.{map-append}
use Rattle.rt_lemmas.proofs.Bools.{true_and_false}
use Rattle.rt_lemmas.proofs.Membership.{all_append, any_contained, any_passes, contains_cases, contains_none}
use Rattle.rt_ids.specs.Lists.{AreDifferent, then_from, is_some_and}
use Rattle.rt_lines.specs.Numbers.{short_number}
use Rattle.rt_lines.specs.Parts.{spaced_words}
use Rattle.rt_lines.specs.Reading.{Lead}
use Rattle.rt_lines.proofs.Decoded.{if_ok_chosen, if_ok_then, if_ok_make}
use Rattle.rt_lines.proofs.Reading.{kept}
use Rattle.rt_app.specs.Tree.{Task, App}
use Rattle.rt_app.specs.Level.{is_armed}
use Rattle.rt_app.specs.Handlers.{bound_number}
use Rattle.rt_app.proofs.Different.{different_append, different_cons, different_none}
use Rattle.rt_rta.specs.Limits.{is_bound}
use Rattle.rt_rta.specs.declared.limits.Limit.{Limit}
use Rattle.rt_respond.specs.Limits.{Limits, no_limits, every_of, delay_of, deadline_of, with_line, AreLimits}
use Rattle.rt_respond.specs.Text.{with_told, limits_reader}
use Rattle.rt_respond.specs.Wording.{hardware_task, bound_irq, software_task, if_armed, armed_task, judged_task}
use Rattle.rt_respond.specs.Wording.{number_of, if_new, every_line, delay_line, deadline_line, tick_line, named}
use Rattle.rt_respond.specs.Wording.{words_tell, limit_line}
use Rattle.rt_respond.specs.declared.limits.Delay.{Delay}
use Rattle.rt_respond.specs.declared.limits.Deadline.{Deadline}
use Rattle.rt_respond.specs.declared.line.Line.{Line}
use Rattle.rt_respond.specs.declared.line.Line.TheVariants as line
use Rattle.rt_respond.specs.declared.refusal.Cause.TheVariants as cause

module _ (app : App) (limits : Limits) where
  -- what can be said behind these limits
  abbrev IsNew : Line → Type 0
  IsNew (line.Every l) =
      (is_bound app l.irq ≡ true) × (1 ≤ l.every) × (is_some (every_of limits l.irq) ≡ false)
  IsNew (line.Tick steps) = (1 ≤ steps) × IsSome app.mono
  IsNew (line.Delay d) =
      (is_armed app d.task ≡ true) × (1 ≤ d.ticks) × (is_some (delay_of limits d.task) ≡ false)
  IsNew (line.Deadline d) = (1 ≤ d.steps) × (is_some (deadline_of limits d.task) ≡ false)

  -- the interrupt of a name is bound
  irq_bound : (name : List ℕ) → IfSome (bound_irq app name) (λ irq. is_bound app irq ≡ true)
  irq_bound name = by_task (hardware_task app name)
    where
      by_number : (n : ℕ) (t : Task) → slice_get app.tasks n ≡ Some t → (o : Option ℕ) → bound_number app t ≡ o
          → IfSome o (λ irq. is_bound app irq ≡ true)
      by_number n t at None is = tt
      by_number n t at (Some irq) is =
          any_passes (λ t. is_some_and (λ n. n == irq) (bound_number app t)) app.tasks n t at
          (ap (is_some_and (λ n. n == irq)) is ∙ eq-eqb irq irq refl)

      by_row : (n : ℕ) (o : Option Task) → slice_get app.tasks n ≡ o
          → IfSome (then_from o (bound_number app)) (λ irq. is_bound app irq ≡ true)
      by_row n None at = tt
      by_row n (Some t) at = by_number n t at (bound_number app t) refl

      by_task : (o : Option ℕ)
          → IfSome (then_from o (λ n. then_from (slice_get app.tasks n) (bound_number app)))
          (λ irq. is_bound app irq ≡ true)
      by_task None = tt
      by_task (Some n) = by_row n (slice_get app.tasks n) refl

  task_armed : (o : Option ℕ) → IfSome (then_from o (if_armed app)) (λ n. is_armed app n ≡ true)
  task_armed None = tt
  task_armed (Some n) =
      cond_both (is_armed app n) (Some n) None (λ o. IfSome o (λ n. is_armed app n ≡ true)) (λ is. is) (λ _. tt)

  number_some : (o : Option ℕ) → IfOk (number_of o) (λ n. 1 ≤ n)
  number_some None = tt
  number_some (Some n) =
      cond_both (nat_le 1 n) (Ok n) (Err cause.BadLine) (λ r. IfOk r (λ n. 1 ≤ n)) (leb-true 1 n) (λ _. tt)

  new_if : (before : Option ℕ) (said : Line) → (is_some before ≡ false → IsNew said) → IfOk (if_new before said) IsNew
  new_if before said new = cond_both (is_some before) (Err cause.BadLine) (Ok said) (λ r. IfOk r IsNew) (λ _. tt) new

  every_new : (n : ℕ) (o : Option ℕ) → 1 ≤ n → IfSome o (λ irq. is_bound app irq ≡ true)
      → IfOk (every_line limits n o) IsNew
  every_new n None some bound = tt
  every_new n (Some irq) some bound =
      new_if (every_of limits irq) (line.Every (record { irq = irq; every = n })) (λ fresh. (bound, some, fresh))

  delay_new : (n : ℕ) (o : Option ℕ) → 1 ≤ n → IfSome o (λ n. is_armed app n ≡ true)
      → IfOk (delay_line limits n o) IsNew
  delay_new n None some armed = tt
  delay_new n (Some task) some armed =
      new_if (delay_of limits task) (line.Delay (record { task = task; ticks = n })) (λ fresh. (armed, some, fresh))

  deadline_new : (n : ℕ) (o : Option ℕ) → 1 ≤ n → IfOk (deadline_line limits n o) IsNew
  deadline_new n None some = tt
  deadline_new n (Some task) some =
      new_if (deadline_of limits task) (line.Deadline (record { task = task; steps = n })) (λ fresh. (some, fresh))

  tick_new : (n : ℕ) → 1 ≤ n → IfOk (tick_line app limits n) IsNew
  tick_new n some =
      cond_both (is_some app.mono) (if_new limits.tick (line.Tick n)) (Err cause.UnknownName) (λ r. IfOk r IsNew)
      (λ timed. new_if limits.tick (line.Tick n) (λ fresh. (some, timed))) (λ _. tt)

  named_new : (verb name : List ℕ) (n : ℕ) → 1 ≤ n → IfOk (named app limits verb name n) IsNew
  named_new verb name n some =
      let every = every_new n (bound_irq app name) some (irq_bound name) in
      let delay = delay_new n (armed_task app name) some (task_armed (software_task app name)) in
      let deadline = deadline_new n (judged_task app name) some in
      search (if_ok_chosen, every, delay, deadline)

  words_new : (words : List (List ℕ)) → IfOk (words_tell app limits words) IsNew
  words_new [] = tt
  words_new (verb ∷ []) = tt
  words_new (verb ∷ count ∷ []) =
      let tick = if_ok_then IsNew (number_of (short_number count)) (tick_line app limits) _
      (number_some (short_number count)) tick_new in
      search (if_ok_chosen, tick)
  words_new (verb ∷ name ∷ count ∷ []) =
      let said = if_ok_then IsNew (number_of (short_number count)) (named app limits verb name) _
      (number_some (short_number count)) (named_new verb name) in
      search (if_ok_chosen, said)
  words_new (verb ∷ name ∷ count ∷ more ∷ words) = tt

  line_new : (line : List ℕ) → IfOk (limit_line app limits line) (λ told. IfSome told IsNew)
  line_new line =
      let tells = if_ok_make (λ told. IfSome told IsNew) (words_tell app limits (spaced_words line)) Some _
      (words_new (spaced_words line)) (λ told is. is) in
      search (if_ok_chosen, tells)

-- rows that have numbers of their own
module _ {A : Type 0} (key value : A → ℕ) where
  has_key : (rows : List A) (k : ℕ) → is_some (option_map value (find (λ r. key r == k) rows))
      ≡ list_any (λ n. n == k) (map key rows)
  has_key [] k = refl
  has_key (r ∷ rows) k =
      elim (key r == k) as (λ b. is_some (option_map value (if b then Some r else find (λ r. key r == k) rows))
      ≡ (b || list_any (λ n. n == k) (map key rows))) [ true ↦ refl | false ↦ has_key rows k ]

  different_more : (rows : List A) (r : A) → AreDifferent (map key rows)
      → is_some (option_map value (find (λ x. key x == key r) rows)) ≡ false → AreDifferent (map key (rows ++ r ∷ []))
  different_more rows r once fresh =
      subst AreDifferent (sym (map-append key rows (r ∷ [])))
      (different_append (map key rows) (key r ∷ []) once
      (different_cons (key r) [] (contains_none (key r)) different_none)
      (λ k there here. elim (contains_cases (key r) [] k here) [
        | inl same ↦ true_and_false (is_some (option_map value (find (λ x. key x == k) rows)))
            (has_key rows k ∙ any_contained k (map key rows) there)
            (subst (λ j. is_some (option_map value (find (λ x. key x == j) rows)) ≡ false) same fresh)
        | inr none ↦ contains_none k none
      ]))

one_more : (app : App) (limits : Limits) (said : Line) → AreLimits app limits → IsNew app limits said
    → AreLimits app (with_line limits said)
one_more app limits (line.Every l) fine new = record {
  every = record {
    bound = all_append (λ (limit : Limit). is_bound app limit.irq ≡ true) limits.every (l ∷ []) fine.every.bound
        (new.0, tt);
    once = different_more (λ (limit : Limit). limit.irq) (λ (limit : Limit). limit.every) limits.every l
        fine.every.once new.2;
    positive = all_append (λ (limit : Limit). 1 ≤ limit.every) limits.every (l ∷ []) fine.every.positive (new.1, tt);
  };
  tick = fine.tick;
  delayed = fine.delayed;
  delays_once = fine.delays_once;
  deadlines = fine.deadlines;
  deadlines_once = fine.deadlines_once;
}
one_more app limits (line.Tick steps) fine new = record {
  every = fine.every;
  tick = new;
  delayed = fine.delayed;
  delays_once = fine.delays_once;
  deadlines = fine.deadlines;
  deadlines_once = fine.deadlines_once;
}
one_more app limits (line.Delay d) fine new = record {
  every = fine.every;
  tick = fine.tick;
  delayed = all_append (λ (d : Delay). (1 ≤ d.ticks) × (is_armed app d.task ≡ true)) limits.delays (d ∷ [])
      fine.delayed ((new.1, new.0), tt);
  delays_once = different_more (λ (d : Delay). d.task) (λ (d : Delay). d.ticks) limits.delays d fine.delays_once new.2;
  deadlines = fine.deadlines;
  deadlines_once = fine.deadlines_once;
}
one_more app limits (line.Deadline d) fine new = record {
  every = fine.every;
  tick = fine.tick;
  delayed = fine.delayed;
  delays_once = fine.delays_once;
  deadlines = all_append (λ (d : Deadline). 1 ≤ d.steps) limits.deadlines (d ∷ []) fine.deadlines (new.0, tt);
  deadlines_once = different_more (λ (d : Deadline). d.task) (λ (d : Deadline). d.steps) limits.deadlines d
      fine.deadlines_once new.1;
}

joined : (app : App) (limits : Limits) (told : Option Line) → AreLimits app limits → IfSome told (IsNew app limits)
    → AreLimits app (with_told limits told)
joined app limits None fine new = fine
joined app limits (Some said) fine new = one_more app limits said fine new

-- what lines say are limits
pub lead_fine : (app : App) (ls : List (List ℕ)) (limits : Limits) → Lead (limits_reader app) no_limits ls limits
    → AreLimits app limits
lead_fine app ls limits lead =
    kept (limits_reader app) (AreLimits app)
    (λ limits line fine. if_ok_make (AreLimits app) (limit_line app limits line) (with_told limits) _
    (line_new app limits line) (λ told. joined app limits told fine))
    no_limits limits ls lead (record {
      every = record { bound = tt; once = different_none; positive = tt };
      tick = tt;
      delayed = tt;
      delays_once = different_none;
      deadlines = tt;
      deadlines_once = different_none;
    })
