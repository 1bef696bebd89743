-- Of a list of armed messages: the least one, and the one of a handle, by the indices of the list.
use Rattle.rt_gen_queue.proofs.Vocabulary.{AllByRecursion, Armed, Bool, IfSome, List, None, Option, Some, []}
use Rattle.rt_gen_queue.proofs.Vocabulary.{all_weaker, ap, arith, message_of_handle, cond, eq-eqb, false, find, least}
use Rattle.rt_gen_queue.proofs.Vocabulary.{least_instant, min, ne_eqb, not, refl, suc, true, without_handle}
use Rattle.rt_gen_queue.proofs.Vocabulary.{without_least, ℕ, ◌++◌, ◌+◌, ◌<◌, ◌==◌, ◌∙◌, ◌∷◌, ◌≡◌, ◌≢◌, ◌≤◌, ◌⊎◌}
use Rattle.std.proofs.lemmas.Bool.{and_from, and_left, and_right}
use Rattle.std.specs.List.{position_or_len, remove}
use Rattle.rt_actions.specs.Content.{has_handle, has_instant, lesser}
use Rattle.rt_gen_timer.proofs.Numbered.{Along, all_around, along_before, along_others}

-- where none passes none is found
none_found : {X : Type 0} (test : X → Bool) (xs : List X) → AllByRecursion (λ y. test y ≡ false) xs
    → find test xs ≡ None
none_found test [] fail = refl
none_found test (x ∷ xs) fail = ap (λ b. cond b (Some x) (find test xs)) fail.0 ∙ none_found test xs fail.1

-- the first that passes is found, and the list without it is the rest
found_first : {X : Type 0} (test : X → Bool) (before behind : List X) (x : X)
    → AllByRecursion (λ y. test y ≡ false) before → test x ≡ true
    → (find test (before ++ x ∷ behind) ≡ Some x)
    × (remove (before ++ x ∷ behind) (position_or_len test (before ++ x ∷ behind)) ≡ before ++ behind)
found_first test [] behind x fail pass = (
  ap (λ b. cond b (Some x) (find test behind)) pass,
  ap (λ b. remove (x ∷ behind) (cond (not b) (1 + position_or_len test behind) 0)) pass,
)
found_first test (y ∷ before) behind x fail pass =
    let rest : List _ = before ++ x ∷ behind in
    let next : 1 + position_or_len test rest ≡ suc (position_or_len test rest) = omega arith in
    let deeper = found_first test before behind x fail.1 pass in (
      ap (λ b. cond b (Some y) (find test rest)) fail.0 ∙ deeper.0,
      ap (λ b. remove (y ∷ rest) (cond (not b) (1 + position_or_len test rest) 0)) fail.0
          ∙ ap (remove (y ∷ rest)) next ∙ ap (λ ys. y ∷ ys) deeper.1,
    )

-- a bound of all instants is a bound of the least
bounded : (i : ℕ) (armed : List Armed) → AllByRecursion (λ b. i ≤ b.instant) armed
    → IfSome (least_instant armed) (λ l. i ≤ l)
bounded i [] all = tt
bounded i (a ∷ armed) all = go (least_instant armed) all.0 (bounded i armed all.1)
  where
    go : (o : Option ℕ) → i ≤ a.instant → IfSome o (λ l. i ≤ l) → i ≤ lesser a.instant o
    go None first rest = first
    go (Some j) first rest = omega arith

-- The least instant is that of a message with none later before it, where those after it are no earlier.
least_instant_is : (before behind : List Armed) (a : Armed)
    → AllByRecursion (λ b. a.instant < b.instant) before → AllByRecursion (λ b. a.instant ≤ b.instant) behind
    → least_instant (before ++ a ∷ behind) ≡ Some a.instant
least_instant_is [] behind a later no_earlier =
    ap Some (go (least_instant behind) (bounded a.instant behind no_earlier))
  where
    go : (o : Option ℕ) → IfSome o (λ l. a.instant ≤ l) → lesser a.instant o ≡ a.instant
    go None rest = refl
    go (Some j) rest = omega arith
least_instant_is (b ∷ before) behind a later no_earlier =
    let first : min b.instant a.instant ≡ a.instant = omega (arith, later.0) in
    ap (λ o. Some (lesser b.instant o)) (least_instant_is before behind a later.1 no_earlier) ∙ ap Some first

-- that message is the least one, and the others are left without it
pub least_is : (before behind : List Armed) (a : Armed)
    → AllByRecursion (λ b. a.instant < b.instant) before → AllByRecursion (λ b. a.instant ≤ b.instant) behind
    → (least_instant (before ++ a ∷ behind) ≡ Some a.instant) × (least (before ++ a ∷ behind) ≡ Some a)
    × (without_least (before ++ a ∷ behind) ≡ before ++ behind)
least_is before behind a later no_earlier =
    let whole : List Armed = before ++ a ∷ behind in
    let is = least_instant_is before behind a later no_earlier in
    let found = found_first (has_instant (Some a.instant)) before behind a
    (all_weaker (λ b. a.instant < b.instant) (λ b. has_instant (Some a.instant) b ≡ false)
    (λ b less. ne_eqb b.instant a.instant (omega (arith, less))) before later)
    (eq-eqb a.instant a.instant refl) in (
      is,
      ap (λ o. find (has_instant o) whole) is ∙ found.0,
      ap (λ o. remove whole (position_or_len (has_instant o) whole)) is ∙ found.1,
    )

-- no two armed messages have one handle
abbrev pub AreApart : List Armed → Type 0
AreApart armed = Along (λ a b. a.handle ≢ b.handle) armed

-- a message of another handle is not of this one, nor is one of another task
other_handle : (task handle : ℕ) (b : Armed) → b.handle ≢ handle → has_handle task handle b ≡ false
other_handle task handle b other =
    and_right (b.message.task == task) (b.handle == handle) (ne_eqb b.handle handle other)

other_task : (task handle : ℕ) (b : Armed) → b.message.task ≢ task → has_handle task handle b ≡ false
other_task task handle b other =
    and_left (b.message.task == task) (b.handle == handle) (ne_eqb b.message.task task other)

-- where no message has a handle, none is found by it
pub none_has : (task handle : ℕ) (armed : List Armed) → AllByRecursion (λ b. b.handle ≢ handle) armed
    → message_of_handle task handle armed ≡ None
none_has task handle armed others =
    none_found (has_handle task handle) armed
    (all_weaker (λ b. b.handle ≢ handle) (λ b. has_handle task handle b ≡ false) (other_handle task handle) armed
    others)

module _ (before behind : List Armed) (a : Armed) (apart : AreApart (before ++ a ∷ behind)) where
  -- where handles are apart, a message is the one of its task and handle, and the others are left without it
  pub armed_as_is : (message_of_handle a.message.task a.handle (before ++ a ∷ behind) ≡ Some a)
      × (without_handle a.message.task a.handle (before ++ a ∷ behind) ≡ before ++ behind)
  armed_as_is =
      found_first (has_handle a.message.task a.handle) before behind a
      (all_weaker (λ b. b.handle ≢ a.handle) (λ b. has_handle a.message.task a.handle b ≡ false)
      (other_handle a.message.task a.handle) before (along_before (λ a b. a.handle ≢ b.handle) before behind a apart))
      (and_from (a.message.task == a.message.task) (a.handle == a.handle)
      (eq-eqb a.message.task a.message.task refl) (eq-eqb a.handle a.handle refl))

  -- the others have other handles
  pub others_apart : AllByRecursion (λ b. b.handle ≢ a.handle) (before ++ behind)
  others_apart =
      all_weaker (λ b. (b.handle ≢ a.handle) ⊎ (a.handle ≢ b.handle)) (λ b. b.handle ≢ a.handle)
      (λ b either. omega (arith, either)) (before ++ behind)
      (along_others (λ a b. a.handle ≢ b.handle) before behind a apart)

  -- no message of a task has the handle that one of another task has
  pub of_other_task : (task : ℕ) → a.message.task ≢ task → message_of_handle task a.handle (before ++ a ∷ behind) ≡ None
  of_other_task task other =
      none_found (has_handle task a.handle) (before ++ a ∷ behind)
      (all_around (λ b. has_handle task a.handle b ≡ false) before behind a (other_task task a.handle a other)
      (all_weaker (λ b. b.handle ≢ a.handle) (λ b. has_handle task a.handle b ≡ false) (other_handle task a.handle)
      (before ++ behind) others_apart))
