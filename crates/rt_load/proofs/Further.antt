-- Tables of names that go on with those words that could be names and are not in them.
use Rattle.std.proofs.Common.{◌≡◌, ◌<◌, ◌≤◌, ◌+◌, ◌==◌, ◌&&◌, ◌||◌, ℕ, zero, suc, Bool, true, false, not}
use Rattle.std.proofs.Common.{List}
use Rattle.std.proofs.Common.{[], ◌∷◌, ◌++◌, map, drop, find, position, bytes_eq, slice_get, Option, Some, None, IsSome}
use Rattle.std.proofs.Common.{option_map, Ok, Err, if◌then◌else◌, refl, ap, sym, ◌∙◌, subst, arith, append-nil}
use Rattle.std.proofs.Common.{append_assoc}
use Rattle.std.specs.List.{AllByRecursion, list_any}
use Rattle.std.specs.Option.{ok_or, option_or, unwrap_or}
use Rattle.std.proofs.lemmas.Bool.{false≢true, ne_eqb, eqb-true, eq-eqb}
use Rattle.std.proofs.lemmas.List.{map-append}
use Rattle.std.proofs.lemmas.List.Folds.{find-append}
use Rattle.std.proofs.lemmas.Option.{none-some, same_Some}
use Rattle.std.proofs.lemmas.Slice.Eq.{bytes_eq-Decides}
use Rattle.rt_lemmas.proofs.Bools.{and_left, and_right, not_true}
use Rattle.rt_lemmas.proofs.Lists.{all_front, all_behind, all_unmap, mapped_at, found_passes}
use Rattle.rt_lemmas.proofs.Membership.{any_left, any_right}
use Rattle.rt_lemmas.proofs.Texts.{same_text}
use Rattle.rt_ids.specs.Lists.{AreDifferent}
use Rattle.rt_ids.specs.Names.{Names, AreNames, irq_of}
use Rattle.rt_ids.specs.Naming.{irq_named, irq_name}
use Rattle.rt_ids.specs.Word.{is_identifier}
use Rattle.rt_ids.specs.declared.limits.TheConstants.{IRQ_NUMBERS}
use Rattle.rt_ids.proofs.Lists.{is_some-position, is_some-find}
use Rattle.rt_lines.specs.Answers.{and_then}
use Rattle.rt_lines.specs.Operand.{irq_at, if_first, first_irq_at}
use Rattle.rt_lines.specs.declared.operand.Wrong.TheVariants as wrong
use Rattle.rt_lines.proofs.Found.{found_at, key_found}
use Rattle.rt_lines.proofs.More.{IsOk, IsOkOrName, HasNames}
use Rattle.rt_lines.proofs.Spelled.{has_name}
use Rattle.rt_load.specs.Reading.{AreMore}
use Rattle.rt_ids.proofs.Declared.{differ_pushed}

-- a word could be a name, and is not in the table
abbrev is_new : List (List ℕ) → List ℕ → Bool
is_new texts w = is_identifier w && not (list_any (bytes_eq w) texts)

-- those words that are new, each once
abbrev new_words : List (List ℕ) → List (List ℕ) → List (List ℕ)
new_words texts [] = []
new_words texts (w ∷ ws) = if is_new texts w then w ∷ new_words (texts ++ w ∷ []) ws else new_words texts ws

-- a table has each word that could be a name
abbrev HasAll : List (List ℕ) → List (List ℕ) → Type 0
HasAll all ws = AllByRecursion (λ w. is_identifier w ≡ true → list_any (bytes_eq w) all ≡ true) ws

record AreGrown (texts new ws : List (List ℕ)) : Type 0 where
  named : AllByRecursion (λ name. is_identifier name ≡ true) new
  differ : AreDifferent (texts ++ new)
  has : HasAll (texts ++ new) ws

grown : (texts ws : List (List ℕ)) → AreDifferent texts → AreGrown texts (new_words texts ws) ws
grown texts [] differ = record {
  named = tt;
  differ = subst (λ (ns : List (List ℕ)). AreDifferent ns) (sym (append-nil texts)) differ;
  has = tt;
}
grown texts (w ∷ ws) differ =
    by (is_new texts w) refl (λ none. grown (texts ++ w ∷ []) ws (differ_pushed texts w none differ))
    (grown texts ws differ)
  where
    there : (b : Bool) → is_new texts w ≡ false → is_identifier w ≡ true → list_any (bytes_eq w) texts ≡ b → b ≡ true
    there true old named is = refl
    there false old named is = absurd (false≢true (sym old ∙ rw (named, is) refl))

    by : (new : Bool) → is_new texts w ≡ new
        → (list_any (bytes_eq w) texts ≡ false → AreGrown (texts ++ w ∷ []) (new_words (texts ++ w ∷ []) ws) ws)
        → AreGrown texts (new_words texts ws) ws
        → AreGrown texts (if new then w ∷ new_words (texts ++ w ∷ []) ws else new_words texts ws) (w ∷ ws)
    by true e more same =
        let rest = more (not_true (list_any (bytes_eq w) texts) (and_right _ _ e)) in
        let new = new_words (texts ++ w ∷ []) ws in
        let joined : (texts ++ w ∷ []) ++ new ≡ texts ++ (w ∷ new) = append_assoc texts (w ∷ []) new in
        record {
          named = (and_left _ _ e, rest.named);
          differ = subst (λ (ns : List (List ℕ)). AreDifferent ns) joined rest.differ;
          has = (
            (λ named. any_right (bytes_eq w) texts (w ∷ new) (ap (λ b. b || list_any (bytes_eq w) new) (same_text w))),
            subst (λ (all : List (List ℕ)). HasAll all ws) joined rest.has,
          );
        }
    by false e more same = record {
      named = same.named;
      differ = same.differ;
      has = ((λ named. any_left (bytes_eq w) texts (new_words texts ws) (there _ e named refl)), same.has);
    }

not_none : (o : Option ℕ) → IsSome o → o ≡ None → ⊥
not_none None some e = absurd (cc)
not_none (Some n) some e = absurd (cc)

-- rows of interrupts of these names, with numbers from this one on
abbrev rows_from : ℕ → List (List ℕ) → List (List ℕ × ℕ)
rows_from n [] = []
rows_from n (w ∷ ws) = (w, n) ∷ rows_from (suc n) ws

abbrev bare : List ℕ × ℕ → List ℕ
bare irq = irq.0

rows_named : (n : ℕ) (ws : List (List ℕ)) → map bare (rows_from n ws) ≡ ws
rows_named n [] = refl
rows_named n (w ∷ ws) = ap (λ (vs : List (List ℕ)). w ∷ vs) (rows_named (suc n) ws)

row_number : (n : ℕ) (ws : List (List ℕ)) (i x : ℕ) → slice_get (map (λ row. row.1) (rows_from n ws)) i ≡ Some x
    → x ≡ n + i
row_number n [] i x at = absurd (none-some x at)
row_number n (w ∷ ws) zero x at = let same : n ≡ x = same_Some n x at in omega (arith, same)
row_number n (w ∷ ws) (suc i) x at = omega (arith, row_number (suc n) ws i x at)

rows_differ : (n : ℕ) (ws : List (List ℕ)) → AreDifferent (map (λ row. row.1) (rows_from n ws))
rows_differ n ws i j x a b = omega (arith, row_number n ws i x a, row_number n ws j x b)

none_numbered : (k : ℕ) (irqs : List (List ℕ × ℕ)) → AllByRecursion (λ irq. irq.1 < IRQ_NUMBERS) irqs → IRQ_NUMBERS ≤ k
    → find (λ irq. irq.1 == k) irqs ≡ None
none_numbered k [] all high = refl
none_numbered k (irq ∷ irqs) all high =
    let below = all.0 in
    rw (ne_eqb irq.1 k (λ e. omega (arith, e, below, high))) (none_numbered k irqs all.1 high)

module _ (names : Names) (ws : List (List ℕ)) (are : AreNames names)
    (below : AllByRecursion (λ irq. irq.1 < IRQ_NUMBERS) names.irqs) where
  -- what could be the name of a task: a word, or what stands behind the dot of `free.`
  abbrev task_words : List (List ℕ)
  task_words = ws ++ map (drop 5) ws

  abbrev new_irqs : List (List ℕ × ℕ)
  new_irqs = rows_from IRQ_NUMBERS (new_words (map bare names.irqs) ws)

  abbrev pub with_words : Names
  with_words = record {
    irqs = names.irqs ++ new_irqs;
    tasks = names.tasks ++ new_words names.tasks task_words;
    shared = names.shared ++ new_words names.shared ws;
  }

  irqs_bare : map bare (names.irqs ++ new_irqs) ≡ map bare names.irqs ++ new_words (map bare names.irqs) ws
  irqs_bare = map-append bare names.irqs new_irqs
      ∙ ap (λ (vs : List (List ℕ)). map bare names.irqs ++ vs) (rows_named IRQ_NUMBERS (new_words
      (map bare names.irqs) ws))

  irqs_grown : AreGrown (map bare names.irqs) (new_words (map bare names.irqs) ws) ws
  irqs_grown = grown (map bare names.irqs) ws are.irqs_differ

  tasks_grown : AreGrown names.tasks (new_words names.tasks task_words) task_words
  tasks_grown = grown names.tasks task_words are.tasks_differ

  shared_grown : AreGrown names.shared (new_words names.shared ws) ws
  shared_grown = grown names.shared ws are.shared_differ

  rows_are_named : (n : ℕ) (vs : List (List ℕ)) → AllByRecursion (λ name. is_identifier name ≡ true) vs
      → AllByRecursion (λ irq. is_identifier irq.0 ≡ true) (rows_from n vs)
  rows_are_named n [] all = tt
  rows_are_named n (v ∷ vs) all = (all.0, rows_are_named (suc n) vs all.1)

  pub are_more : AreMore names with_words
  are_more =
      let i = irqs_grown in
      let t = tasks_grown in
      let s = shared_grown in
      record {
        irqs = new_irqs;
        tasks = new_words names.tasks task_words;
        shared = new_words names.shared ws;
        irqs_are = refl;
        tasks_are = refl;
        shared_are = refl;
        irqs_named = rows_are_named IRQ_NUMBERS (new_words (map bare names.irqs) ws) i.named;
        tasks_named = t.named;
        shared_named = s.named;
        irqs_differ = subst (λ (ns : List (List ℕ)). AreDifferent ns) (sym irqs_bare) i.differ;
        tasks_differ = t.differ;
        shared_differ = s.differ;
      }

  position_some : (w : List ℕ) (texts : List (List ℕ)) → list_any (bytes_eq w) texts ≡ true
      → IsSome (position (bytes_eq w) texts)
  position_some w texts e = is_some-position (bytes_eq w) texts ∙ e

  -- an interrupt of the name is found
  hit : (w : List ℕ) → list_any (bytes_eq w) (map bare names.irqs ++ new_words (map bare names.irqs) ws) ≡ true
      → IsSome (irq_of with_words w)
  hit w e = is_some-find (bytes_eq w) with_words.irqs ∙ ap (list_any (bytes_eq w)) irqs_bare ∙ e

  irq_there : (w : List ℕ) → list_any (bytes_eq w) (map bare names.irqs ++ new_words (map bare names.irqs) ws) ≡ true
      → is_identifier w ≡ true → IsOk (irq_at with_words w)
  irq_there w e named = by (is_identifier w) named (irq_of with_words w) (hit w e)
    where
      by : (b : Bool) → b ≡ true → (irq : Option ℕ) → IsSome irq
          → IsOk (if b then ok_or irq wrong.Name else Err wrong.Form)
      by true is None some = absurd (cc)
      by true is (Some irq) some = tt
      by false is irq some = absurd (false≢true is)

  named_with : (k : ℕ) → irq_named with_words k ≡ option_or (irq_named names k) (find (λ row. row.1 == k) new_irqs)
  named_with k = find-append (λ (row : List ℕ × ℕ). row.1 == k) names.irqs new_irqs

  -- a number of the further rows is written by the name of its row
  new_first : (row : List ℕ × ℕ) → (i : ℕ) → slice_get new_irqs i ≡ Some row → irq_name with_words row.1 ≡ row.0
  new_first row i at =
      let numbers = new_words (map bare names.irqs) ws in
      let number : row.1 ≡ IRQ_NUMBERS + i =
      row_number IRQ_NUMBERS numbers i row.1 (mapped_at (λ (r : List ℕ × ℕ). r.1) new_irqs i row at) in
      let here : find (λ r. r.1 == row.1) new_irqs ≡ Some row =
      key_found (λ (r : List ℕ × ℕ). r.1) (λ r. r.1 == row.1) new_irqs i row (rows_differ IRQ_NUMBERS numbers) at
      (λ y. (λ e. sym (eqb-true y.1 row.1 e), λ e. eq-eqb y.1 row.1 (sym e))) in
      let none : irq_named names row.1 ≡ None = none_numbered row.1 names.irqs below (omega (arith, number)) in
      ap (λ (o : Option (List ℕ × ℕ)). unwrap_or (option_map (λ r. r.0) o) [])
      (named_with row.1 ∙ ap (λ (o : Option (List ℕ × ℕ)). option_or o (find (λ r. r.1 == row.1) new_irqs)) none ∙ here)

  old_name : (k : ℕ) → IsSome (irq_named names k) → irq_name with_words k ≡ irq_name names k
  old_name k some = by (irq_named names k) refl some
    where
      by : (row : Option (List ℕ × ℕ)) → irq_named names k ≡ row → IsSome row → irq_name with_words k ≡ irq_name names k
      by None e some = absurd (cc)
      by (Some row) e some =
          ap (λ (o : Option (List ℕ × ℕ)). unwrap_or (option_map (λ r. r.0) o) [])
          (named_with k ∙ ap (λ (o : Option (List ℕ × ℕ)). option_or o (find (λ r. r.1 == k) new_irqs)) e ∙ sym e)

  -- a name that is read, or unknown, is over the further tables the name that its interrupt's number is written by
  first_read : (w : List ℕ) (irq : ℕ) → is_identifier w ≡ true → irq_of with_words w ≡ Some irq
      → irq_name with_words irq ≡ w → IsOk (first_irq_at with_words w)
  first_read w irq named is first =
      subst IsOk (sym (read w irq named is ∙ chosen_by (bytes_eq (irq_name with_words irq) w)
      ((bytes_eq-Decides (irq_name with_words irq) w).1 first))) tt
    where
      read : (w : List ℕ) (irq : ℕ) → is_identifier w ≡ true → irq_of with_words w ≡ Some irq
          → first_irq_at with_words w ≡ if_first with_words w irq
      read w irq named is = rw (named, is) refl

      chosen_by : (b : Bool) → b ≡ true → (if b then Ok irq else Err wrong.Form) ≡ Ok irq
      chosen_by b e = rw e refl

  first_there : (w : List ℕ) → list_any (bytes_eq w) (map bare names.irqs ++ new_words (map bare names.irqs) ws) ≡ true
      → is_identifier w ≡ true → IsOkOrName (first_irq_at names w) → IsOk (first_irq_at with_words w)
  first_there w e named h =
      let test : List ℕ × ℕ → Bool = λ row. bytes_eq w row.0 in
      by (find test names.irqs) refl (find test new_irqs) refl
    where
      holds : (b : Bool) (irq : ℕ) → IsOkOrName (if b then Ok irq else Err wrong.Form) → b ≡ true
      holds true irq h = refl
      holds false irq h = absurd h

      old_read : (irq : ℕ) → irq_of names w ≡ Some irq → first_irq_at names w ≡ if_first names w irq
      old_read irq is = rw (named, is) refl

      old_first : (irq : ℕ) → irq_of names w ≡ Some irq → irq_name names irq ≡ w
      old_first irq is = (bytes_eq-Decides (irq_name names irq) w).0
          (holds (bytes_eq (irq_name names irq) w) irq (subst IsOkOrName (old_read irq is) h))

      by : (old : Option (List ℕ × ℕ)) → find (λ row. bytes_eq w row.0) names.irqs ≡ old
          → (new : Option (List ℕ × ℕ)) → find (λ row. bytes_eq w row.0) new_irqs ≡ new
          → IsOk (first_irq_at with_words w)
      by (Some row) p new q =
          let irq : irq_of with_words w ≡ Some row.1 =
          ap (option_map (λ (r : List ℕ × ℕ). r.1)) (find-append (λ
          (r : List ℕ × ℕ). bytes_eq w r.0) names.irqs new_irqs
          ∙ ap (λ (o : Option (List ℕ × ℕ)). option_or o (find (λ r. bytes_eq w r.0) new_irqs)) p) in
          let first : irq_name names row.1 ≡ w = old_first row.1 (ap (option_map (λ (r : List ℕ × ℕ). r.1)) p) in
          first_read w row.1 named irq
          (old_name row.1 (has_name names w row.1 (ap is_identifier first ∙ named)) ∙ first)
      by None p (Some row) q =
          let irq : irq_of with_words w ≡ Some row.1 =
          ap (option_map (λ (r : List ℕ × ℕ). r.1)) (find-append (λ
          (r : List ℕ × ℕ). bytes_eq w r.0) names.irqs new_irqs
          ∙ ap (λ (o : Option (List ℕ × ℕ)). option_or o (find (λ r. bytes_eq w r.0) new_irqs)) p ∙ q) in
          let at = found_at (λ (r : List ℕ × ℕ). bytes_eq w r.0) new_irqs row q in
          let same : w ≡ row.0 = (bytes_eq-Decides w row.0).0
          (found_passes (λ (r : List ℕ × ℕ). bytes_eq w r.0) new_irqs row q) in
          first_read w row.1 named irq (new_first row at.0 at.1 ∙ sym same)
      by None p None q =
          let none : irq_of with_words w ≡ None =
          ap (option_map (λ (r : List ℕ × ℕ). r.1)) (find-append (λ
          (r : List ℕ × ℕ). bytes_eq w r.0) names.irqs new_irqs
          ∙ ap (λ (o : Option (List ℕ × ℕ)). option_or o (find (λ r. bytes_eq w r.0) new_irqs)) p ∙ q) in
          absurd (not_none (irq_of with_words w) (hit w e) none)

  -- what could be a name by itself or behind `free.` is in the further tables
  irq_has : (w : List ℕ) → (is_identifier w ≡ true
      → list_any (bytes_eq w) (map bare names.irqs ++ new_words (map bare names.irqs) ws) ≡ true)
      → IsOkOrName (first_irq_at names w) → IsOk (first_irq_at with_words w)
  irq_has w has h = by (is_identifier w) refl h
    where
      chosen : is_identifier w ≡ true
          → first_irq_at names w ≡ and_then (ok_or (irq_of names w) wrong.Name) (if_first names w)
      chosen named = rw named refl

      by : (b : Bool) → is_identifier w ≡ b
          → IsOkOrName (and_then (if b then ok_or (irq_of names w) wrong.Name else Err wrong.Form) (if_first names w))
          → IsOk (first_irq_at with_words w)
      by true named h = first_there w (has named) named (subst IsOkOrName (sym (chosen named)) h)
      by false named h = absurd h

  pub have_names : AllByRecursion (HasNames names with_words) ws
  have_names =
      let i = irqs_grown in
      let t = tasks_grown in
      let s = shared_grown in
      each ws i.has (all_front _ ws (map (drop 5) ws) t.has)
      (all_unmap (drop 5) _ ws (all_behind _ ws (map (drop 5) ws) t.has)) s.has
    where
      each : (vs : List (List ℕ)) → HasAll (map bare names.irqs ++ new_words (map bare names.irqs) ws) vs
          → HasAll (names.tasks ++ new_words names.tasks task_words) vs
          → AllByRecursion (λ w. is_identifier (drop 5 w) ≡ true
          → list_any (bytes_eq (drop 5 w)) (names.tasks ++ new_words names.tasks task_words) ≡ true) vs
          → HasAll (names.shared ++ new_words names.shared ws) vs
          → AllByRecursion (HasNames names with_words) vs
      each [] i t f s = tt
      each (v ∷ vs) i t f s = (
        record {
          irq = λ named. irq_there v (i.0 named) named;
          first_irq = irq_has v i.0;
          task = λ named. position_some v with_words.tasks (t.0 named);
          free = λ named. position_some (drop 5 v) with_words.tasks (f.0 named);
          shared = λ named. position_some v with_words.shared (s.0 named);
        },
        each vs i.1 t.1 f.1 s.1,
      )
