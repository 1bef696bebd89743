-- After reset each place of a task stands once in its list of free places, and in no other queue.
use Rattle.std.proofs.Common.{◌≡◌, ℕ, zero, suc, ◌+◌, ◌-◌, ◌<◌, ◌≤◌, ◌==◌, ◌&&◌, ◌⊎◌, inl, inr, Bool, true, false}
use Rattle.std.proofs.Common.{List}
use Rattle.std.proofs.Common.{map, refl, sym, ap, ◌∙◌, arith}
use Rattle.std.specs.Prelude.{cond}
use Rattle.std.specs.List.{range_with_len}
use Rattle.std.proofs.lemmas.Bool.{eqb-true, eq-eqb}
use Rattle.std.proofs.lemmas.List.Sums.{sum_by-cons}
use Rattle.rt_lemmas.proofs.Bools.{true_and_false, and_parts}
use Rattle.rt_actions.specs.Entry.{Entry, is_same_entry, count}
use Rattle.rt_actions.specs.Location.{Location, Guarded, Own, is_same_location}
use Rattle.rt_ids.specs.declared.ids.Section.TheVariants as section
use Rattle.rt_app.specs.Tree.{App}
use Rattle.rt_app.specs.Sending.{capacity_of}
use Rattle.rt_app.proofs.LaidFirst.{first_queues}
use Rattle.rt_sim.specs.Inside.Counts.{IsOnce}

module _ (n capacity : ℕ) (e : Entry) where
  abbrev place : ℕ → Entry
  place k = record { task = n; place = capacity - 1 - k }

  abbrev places : ℕ → ℕ → List Entry
  places first more = map (λ k. record { task = n; place = capacity - 1 - k }) (range_with_len first more)

  counted : (first more : ℕ) (b : Bool) → is_same_entry e (place first) ≡ b
      → count e (places first (suc more)) ≡ cond b 1 0 + count e (places (first + 1) more)
  counted first more b is = sum_by-cons (λ x. cond (is_same_entry e x) 1 0) (place first) (places (first + 1) more)
      ∙ ap (λ c. cond c 1 0 + count e (places (first + 1) more)) is

  -- a place of another task is not there, nor is one above all
  of_other : (first more : ℕ) → (e.task == n) ≡ false → count e (places first more) ≡ 0
  of_other first zero other = refl
  of_other first (suc more) other =
      let c : count e (places first (suc more)) ≡ 0 + count e (places (first + 1) more)
      = counted first more false (ap (λ b. b && (e.place == capacity - 1 - first)) other) in
      omega (arith, c, of_other (first + 1) more other)

  above_all : (first more : ℕ) → capacity - 1 - first < e.place → count e (places first more) ≡ 0
  above_all first zero above = refl
  above_all first (suc more) above =
      let c : count e (places first (suc more)) ≡ 0 + count e (places (first + 1) more)
      = counted first more false (by (is_same_entry e (place first)) refl) in
      omega (arith, c, above_all (first + 1) more (omega (arith, above)))
    where
      by : (b : Bool) → is_same_entry e (place first) ≡ b → is_same_entry e (place first) ≡ false
      by false is = is
      by true is = absurd (let parts = and_parts (e.task == n) (e.place == capacity - 1 - first) is in
          omega (arith, above, eqb-true e.place (capacity - 1 - first) parts.1))

  at_most_once : (first more : ℕ) → first + more ≤ capacity → count e (places first more) ≤ 1
  at_most_once first zero few = omega arith
  at_most_once first (suc zero) few = by (is_same_entry e (place first)) refl
    where
      by : (b : Bool) → is_same_entry e (place first) ≡ b → count e (places first (suc zero)) ≤ 1
      by true is = let c : count e (places first (suc zero)) ≡ 1 + 0 = counted first zero true is in omega (arith, c)
      by false is = let c : count e (places first (suc zero)) ≡ 0 + 0 = counted first zero false is in omega (arith, c)
  at_most_once first (suc (suc more)) few =
      by (is_same_entry e (place first)) refl (at_most_once (first + 1) (suc more) (omega (arith, few)))
    where
      by : (b : Bool) → is_same_entry e (place first) ≡ b → count e (places (first + 1) (suc more)) ≤ 1
          → count e (places first (suc (suc more))) ≤ 1
      by true is rest =
          let parts = and_parts (e.task == n) (e.place == capacity - 1 - first) is in
          let here = eqb-true e.place (capacity - 1 - first) parts.1 in
          let c : count e (places first (suc (suc more))) ≡ 1 + count e (places (first + 1) (suc more))
          = counted first (suc more) true is in
          let none = above_all (first + 1) (suc more) (omega (arith, here, few)) in
          omega (arith, c, none)
      by false is rest =
          let c : count e (places first (suc (suc more))) ≡ 0 + count e (places (first + 1) (suc more))
          = counted first (suc more) false is in
          omega (arith, c, rest)

module _ (app : App) where
  one_first : (e : Entry) (h : Location) → count e (first_queues app h) ≤ 1
  one_first e (Guarded (section.Res r)) = omega arith
  one_first e (Guarded (section.Free n)) = at_most_once n (capacity_of app n) e 0 (capacity_of app n) (omega arith)
  one_first e (Guarded (section.Ready p)) = omega arith
  one_first e (Guarded section.Timer) = omega arith
  one_first e (Own n) = omega arith

  -- a location has no places at first, or they are of one task
  none_or_of : (e : Entry) (h : Location)
      → (count e (first_queues app h) ≡ 0) ⊎ (h ≡ Guarded (section.Free e.task))
  none_or_of e (Guarded (section.Res r)) = inl refl
  none_or_of e (Guarded (section.Free n)) = by (e.task == n) refl
    where
      by : (b : Bool) → (e.task == n) ≡ b
          → (count e (first_queues app (Guarded (section.Free n))) ≡ 0)
          ⊎ (Guarded (section.Free n) ≡ Guarded (section.Free e.task))
      by true is = inr (ap (λ k. Guarded (section.Free k)) (sym (eqb-true e.task n is)))
      by false is = inl (of_other n (capacity_of app n) e 0 (capacity_of app n) is)
  none_or_of e (Guarded (section.Ready p)) = inl refl
  none_or_of e (Guarded section.Timer) = inl refl
  none_or_of e (Own n) = inl refl

  pub first_once : IsOnce (first_queues app) (λ e. 0)
  first_once = record {
    one = λ e h. omega (arith, one_first e h);
    two = λ e g h differ. elim (none_or_of e g) [
      | inl none ↦ omega (arith, none, one_first e h)
      | inr first ↦ elim (none_or_of e h) [
        | inl none ↦ omega (arith, none, one_first e g)
        | inr second ↦ absurd (true_and_false (is_same_location g h)
            (ap (λ k. is_same_location k h) first ∙ ap (is_same_location (Guarded (section.Free e.task))) second
            ∙ eq-eqb e.task e.task refl) differ)
      ]
    ];
  }
