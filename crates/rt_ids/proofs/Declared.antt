-- A name more, where it is not yet declared; and names that are looked up in the maps that keep them.
use Rattle.std.proofs.Common.{◌≡◌, ℕ, zero, suc, ◌<◌, inl, inr, Bool, true, false, cond, ◌||◌, ◌==◌, List, [], ◌∷◌}
use Rattle.std.proofs.Common.{◌++◌, length, map, take, find, position, bytes_eq, slice_get, Option, None, Some, is_some}
use Rattle.std.proofs.Common.{refl, sym, ap, subst, ◌∙◌, arith, get_or-set_same, get_or-set_other}
use Rattle.std.proofs.Common.{slice_index_or, unwrap_or}
use Rattle.std.specs.List.{list_any}
use Rattle.std.specs.Prelude.{Vec}
use Rattle.std.specs.Global.{Global}
use Rattle.indexmap.specs.IndexMap.{insert_entry}
use Rattle.indexmap.specs.IndexSet.{insert_key}
use Rattle.rt_ids.specs.Inside.Kept.{text, kept_names, AreFirsts, with_first}
use Rattle.std.specs.Map.{lookup}
use Rattle.std.specs.Option.{option_map, option_and_then}
use Rattle.std.proofs.lemmas.Bool.{false≢true, eqb-true, eqb-false}
use Rattle.std.proofs.lemmas.List.{length-append, map_push, take-map}
use Rattle.std.proofs.lemmas.Option.{same_Some, none-some, slice_get-map}
use Rattle.std.proofs.lemmas.Slice.Eq.{bytes_eq-Decides}
use Rattle.rt_ids.specs.declared.limits.TheConstants.{IRQS, TASKS, SHARED}
use Rattle.rt_ids.specs.Lists.{AreDifferent}
use Rattle.rt_ids.specs.Names.{Names, AreNames, irq_of, task_index, resource_of, with_irq, with_task, with_resource}
use Rattle.rt_ids.specs.Word.{IsName}
use Rattle.rt_ids.proofs.Lists.{list_any-map, position-map, find_by_position, is_some-position, is_some-find}
use Rattle.rt_ids.proofs.Lists.{none_from_is_some, all_push, index_pushed, index_taken, or_last, position_pushed}

-- a name that no test finds stands at no index
pub nowhere : (names : List (List ℕ)) (name : List ℕ) → list_any (bytes_eq name) names ≡ false → (i : ℕ)
    → slice_get names i
    ≡ Some name → ⊥
nowhere [] name none i at = none-some name at
nowhere (x ∷ xs) name none zero at =
    let here : bytes_eq name x ≡ true = (bytes_eq-Decides name x).1 (sym (same_Some x name at)) in
    false≢true (sym none ∙ ap (λ b. b || list_any (bytes_eq name) xs) here)
nowhere (x ∷ xs) name none (suc i) at = nowhere xs name (behind (bytes_eq name x) none) i at
  where
    behind : (b : Bool) → (b || list_any (bytes_eq name) xs) ≡ false → list_any (bytes_eq name) xs ≡ false
    behind true none = absurd (false≢true (sym none))
    behind false none = none

nowhere_found : (names : List (List ℕ)) (name : List ℕ) → ((i : ℕ) → slice_get names i ≡ Some name → ⊥)
    → list_any (bytes_eq name) names ≡ false
nowhere_found [] name none = refl
nowhere_found (x ∷ xs) name none = by (nowhere_found xs name (λ i at. none (suc i) at)) (bytes_eq name x) refl
  where
    by : list_any (bytes_eq name) xs ≡ false → (b : Bool) → bytes_eq name x ≡ b → (b || list_any (bytes_eq name) xs)
        ≡ false
    by rest true same = absurd (none 0 (ap Some (sym ((bytes_eq-Decides name x).0 same))))
    by rest false other = rest

pub differ_pushed : (names : List (List ℕ)) (name : List ℕ) → list_any (bytes_eq name) names ≡ false
    → AreDifferent names
    → AreDifferent (names ++ name ∷ [])
differ_pushed names name none differ i j x a b =
    elim (index_pushed names name i x a) [
      | inl first ↦ elim (index_pushed names name j x b) [
        | inl second ↦ differ i j x first second
        | inr last ↦ absurd (nowhere names name none i (first ∙ ap Some (sym last.1)))
      ]
      | inr last ↦ elim (index_pushed names name j x b) [
        | inl second ↦ absurd (nowhere names name none j (second ∙ ap Some (sym last.1)))
        | inr also ↦ last.0 ∙ sym also.0
      ]
    ]

-- one of names that differ is not among those before it
new_next : (names : List (List ℕ)) (n : ℕ) (name : List ℕ) → AreDifferent names → slice_get names n ≡ Some name
    → list_any (bytes_eq name) (take n names) ≡ false
new_next names n name differ at =
    nowhere_found (take n names) name (λ i before. let there = index_taken names n i name before in
    let same : i ≡ n = differ i n name there.1 at in let below = there.0 in absurd (omega arith))

module _ (names : Names) (name : List ℕ) where
  new_irq : irq_of names name ≡ None → list_any (bytes_eq name) (map (λ irq. irq.0) names.irqs) ≡ false
  new_irq none = sym (is_some-find (bytes_eq name) names.irqs) ∙ ap is_some none

  new_task : task_index names name ≡ None → list_any (bytes_eq name) names.tasks ≡ false
  new_task none = sym (is_some-position (bytes_eq name) names.tasks) ∙ ap is_some none

  new_resource : resource_of names name ≡ None → list_any (bytes_eq name) names.shared ≡ false
  new_resource none = sym (is_some-position (bytes_eq name) names.shared) ∙ ap is_some none

  pub irq_added : (number : ℕ) → AreNames names → IsName name → irq_of names name ≡ None → length names.irqs < IRQS
      → AreNames (with_irq names name number)
  irq_added number are named none room = record {
    irqs = all_push (λ irq. IsName irq.0) names.irqs (name, number) are.irqs named;
    tasks = are.tasks;
    shared = are.shared;
    irqs_differ = rw map_push (differ_pushed (map (λ irq. irq.0) names.irqs) name (new_irq none) are.irqs_differ);
    tasks_differ = are.tasks_differ;
    shared_differ = are.shared_differ;
    few_irqs = omega (arith, length-append names.irqs ((name, number) ∷ []));
    few_tasks = are.few_tasks;
    few_shared = are.few_shared;
  }

  pub task_added : AreNames names → IsName name → task_index names name ≡ None → length names.tasks < TASKS
      → AreNames (with_task names name)
  task_added are named none room = record {
    irqs = are.irqs;
    tasks = all_push IsName names.tasks name are.tasks named;
    shared = are.shared;
    irqs_differ = are.irqs_differ;
    tasks_differ = differ_pushed names.tasks name (new_task none) are.tasks_differ;
    shared_differ = are.shared_differ;
    few_irqs = are.few_irqs;
    few_tasks = omega (arith, length-append names.tasks (name ∷ []));
    few_shared = are.few_shared;
  }

  pub resource_added : AreNames names → IsName name → resource_of names name ≡ None → length names.shared < SHARED
      → AreNames (with_resource names name)
  resource_added are named none room = record {
    irqs = are.irqs;
    tasks = are.tasks;
    shared = all_push IsName names.shared name are.shared named;
    irqs_differ = are.irqs_differ;
    tasks_differ = are.tasks_differ;
    shared_differ = differ_pushed names.shared name (new_resource none) are.shared_differ;
    few_irqs = are.few_irqs;
    few_tasks = are.few_tasks;
    few_shared = omega (arith, length-append names.shared (name ∷ []));
  }

-- of names that differ the next one is not yet declared, where those before it are
module _ (names : Names) (n : ℕ) (name : List ℕ) where
  pub next_irq : (all : List (List ℕ × ℕ)) (number : ℕ) → names.irqs ≡ take n all
      → AreDifferent (map (λ irq. irq.0) all) → slice_get all n ≡ Some (name, number) → irq_of names name ≡ None
  next_irq all number are differ at =
      let bare : List ℕ × ℕ → List ℕ = λ irq. irq.0 in
      let before : map bare names.irqs ≡ take n (map bare all) = ap (map bare) are ∙ sym (take-map bare n all) in
      let here : slice_get (map bare all) n ≡ Some name = slice_get-map bare all n ∙ ap (option_map bare) at in
      none_from_is_some (irq_of names name) (is_some-find (bytes_eq name) names.irqs
      ∙ ap (list_any (bytes_eq name)) before ∙ new_next (map bare all) n name differ here)

  pub next_task : (all : List (List ℕ)) → names.tasks ≡ take n all → AreDifferent all → slice_get all n ≡ Some name
      → task_index names name ≡ None
  next_task all are differ at =
      none_from_is_some (task_index names name) (is_some-position (bytes_eq name) names.tasks
      ∙ ap (list_any (bytes_eq name)) are ∙ new_next all n name differ at)

  pub next_resource : (all : List (List ℕ)) → names.shared ≡ take n all → AreDifferent all → slice_get all n ≡ Some name
      → resource_of names name ≡ None
  next_resource all are differ at =
      none_from_is_some (resource_of names name) (is_some-position (bytes_eq name) names.shared
      ∙ ap (list_any (bytes_eq name)) are ∙ new_next all n name differ at)

-- what a look-up in a map of kept names finds is what the names say
pub looked_up : (test : List ℕ → Bool) (irqs : List (Vec ℕ Global × ℕ))
    → lookup (λ name. test (text name)) irqs ≡ option_map (λ (irq : List ℕ × ℕ). irq.1)
    (find (λ irq. test irq.0) (map (λ irq. (text irq.0, irq.1)) irqs))
looked_up test [] = refl
looked_up test (irq ∷ irqs) = by (looked_up test irqs) (test (text irq.0))
  where
    seen : List (List ℕ × ℕ)
    seen = map (λ irq. (text irq.0, irq.1)) irqs

    by : lookup (λ name. test (text name)) irqs ≡ option_map (λ (irq : List ℕ × ℕ). irq.1)
        (find (λ irq. test irq.0) seen) → (b : Bool)
        → cond b (Some irq.1) (lookup (λ name. test (text name)) irqs)
        ≡ option_map (λ (e : List ℕ × ℕ). e.1) (cond b (Some (text irq.0, irq.1)) (find (λ e. test e.0) seen))
    by rest true = refl
    by rest false = rest

-- the first interrupt of a number stands at the first index of the number
module _ (irqs : List (Vec ℕ Global × ℕ)) (number : ℕ) where
  abbrev seen_irq : Vec ℕ Global × ℕ → List ℕ × ℕ
  seen_irq irq = (text irq.0, irq.1)

  abbrev first_place : Option ℕ
  first_place = position (λ irq. irq.1 == number) irqs

  abbrev numbered : Option (List ℕ × ℕ)
  numbered = find (λ irq. irq.1 == number) (map seen_irq irqs)

  by_index : numbered ≡ option_and_then (slice_get (map seen_irq irqs)) first_place
  by_index =
      find_by_position (λ irq. irq.1 == number) (map seen_irq irqs)
      ∙ ap (option_and_then (slice_get (map seen_irq irqs))) (position-map seen_irq (λ irq. irq.1 == number) irqs)

  pub irq_found : (index : ℕ) → first_place ≡ Some index → option_map (λ irq. irq.0) numbered
      ≡ option_map (λ irq. text irq.0) (slice_get irqs index)
  irq_found index at =
      ap (option_map (λ irq. irq.0))
      (by_index ∙ ap (option_and_then (slice_get (map seen_irq irqs))) at ∙ slice_get-map seen_irq irqs index)
      ∙ by (slice_get irqs index)
    where
      by : (o : Option (Vec ℕ Global × ℕ)) → option_map (λ (irq : List ℕ × ℕ). irq.0) (option_map seen_irq o)
          ≡ option_map (λ irq. text irq.0) o
      by None = refl
      by (Some irq) = refl

  pub irq_missing : first_place ≡ None → option_map (λ irq. irq.0) numbered ≡ None
  irq_missing none = ap (option_map (λ irq. irq.0)) (by_index ∙ ap (option_and_then (slice_get (map seen_irq irqs)))
      none)

-- a table of first indices stays one where an interrupt goes last
module _ (firsts : List (Option ℕ)) (irqs : List (Vec ℕ Global × ℕ)) (are : AreFirsts firsts irqs) (v : Vec ℕ Global)
    (number : ℕ) (room : number < length firsts) where
  pub firsts_pushed : AreFirsts (with_first firsts number (length irqs)) (irqs ++ (v, number) ∷ [])
  firsts_pushed k =
      by (number == k) refl ∙ sym (position_pushed (λ irq. irq.1 == k) irqs (v, number))
    where
      new : List (Option ℕ)
      new = with_first firsts number (length irqs)

      last : (o : Option ℕ) → Some (unwrap_or o (length irqs)) ≡ or_last o true (length irqs)
      last None = refl
      last (Some i) = refl

      other : (o : Option ℕ) → o ≡ or_last o false (length irqs)
      other None = refl
      other (Some i) = refl

      by : (b : Bool) → (number == k) ≡ b → slice_index_or new k None
          ≡ or_last (position (λ irq. irq.1 == k) irqs) b (length irqs)
      by true same =
          let e : number ≡ k = eqb-true number k same in
          ap (λ n. slice_index_or new n None) (sym e)
          ∙ get_or-set_same firsts number (Some (unwrap_or (slice_index_or firsts number None) (length irqs))) None room
          ∙ last (slice_index_or firsts number None)
          ∙ ap (λ o. or_last o true (length irqs)) (ap (λ n. slice_index_or firsts n None) e ∙ are k)
      by false differ =
          get_or-set_other firsts number k (Some (unwrap_or (slice_index_or firsts number None) (length irqs))) None
          (λ e. eqb-false number k differ (sym e))
          ∙ are k ∙ other (position (λ irq. irq.1 == k) irqs)

abbrev same_text : Vec ℕ Global → Vec ℕ Global → Bool
same_text a b = bytes_eq (text a) (text b)

module _ (v : Vec ℕ Global) where
  -- a new name goes last
  entry_last : (irqs : List (Vec ℕ Global × ℕ)) (number : ℕ) → list_any (bytes_eq (text v))
      (map (λ (irq : List ℕ × ℕ). irq.0) (map (λ irq. (text irq.0, irq.1)) irqs)) ≡ false
      → insert_entry same_text irqs v number ≡ irqs ++ (v, number) ∷ []
  entry_last [] number none = refl
  entry_last (irq ∷ irqs) number none = by (entry_last irqs number) (bytes_eq (text v) (text irq.0)) none
    where
      seen : List (List ℕ)
      seen = map (λ (irq : List ℕ × ℕ). irq.0) (map (λ irq. (text irq.0, irq.1)) irqs)

      by : (list_any (bytes_eq (text v)) seen ≡ false → insert_entry same_text irqs v number ≡ irqs ++ (v, number) ∷ [])
          → (b : Bool) → (b || list_any (bytes_eq (text v)) seen) ≡ false
          → cond b ((irq.0, number) ∷ irqs) (irq ∷ insert_entry same_text irqs v number) ≡ irq
          ∷ (irqs ++ (v, number) ∷ [])
      by rest true none = absurd (false≢true (sym none))
      by rest false none = ap (λ es. irq ∷ es) (rest none)

  key_last : (names : List (Vec ℕ Global)) → list_any (bytes_eq (text v)) (map text names) ≡ false
      → insert_key same_text names v ≡ names ++ v ∷ []
  key_last names none = rw (sym (list_any-map text (bytes_eq (text v)) names), none) refl

module _ (irqs : List (Vec ℕ Global × ℕ)) (tasks shared : List (Vec ℕ Global)) (self : Names)
    (view_is : kept_names irqs tasks shared ≡ self) (are : AreNames (kept_names irqs tasks shared))
    (v : Vec ℕ Global) (name : List ℕ) (is : v.items ≡ name) (named : IsName name) where
  pub irq_last : (number : ℕ) (new : List (Vec ℕ Global × ℕ)) → new ≡ insert_entry same_text irqs v number
      → irq_of self name ≡ None → new ≡ irqs ++ (v, number) ∷ []
  irq_last number new at none =
      let unknown : irq_of (kept_names irqs tasks shared) (text v) ≡ None =
      ap (λ names. irq_of names (text v)) view_is ∙ ap (irq_of self) is ∙ none in
      at ∙ entry_last v irqs number (new_irq (kept_names irqs tasks shared) (text v) unknown)

  pub irq_kept : (number : ℕ) (new : List (Vec ℕ Global × ℕ)) → new ≡ insert_entry same_text irqs v number
      → irq_of self name ≡ None → length self.irqs < IRQS
      → (kept_names new tasks shared ≡ with_irq self name number) × AreNames (kept_names new tasks shared)
  irq_kept number new at none room =
      let view : Vec ℕ Global × ℕ → List ℕ × ℕ = λ irq. (text irq.0, irq.1) in
      let unknown : irq_of (kept_names irqs tasks shared) (text v) ≡ None =
      ap (λ names. irq_of names (text v)) view_is ∙ ap (irq_of self) is ∙ none in
      let fits : length (map view irqs) < IRQS = subst (λ (names : Names). length names.irqs < IRQS) (sym view_is)
      room in
      let grown : map view new ≡ map view irqs ++ (text v, number) ∷ [] = ap (map view) (irq_last number new at none)
      ∙ map_push view irqs (v, number) in
      let whole : kept_names new tasks shared ≡ with_irq (kept_names irqs tasks shared) (text v) number =
      ap (λ es. record { irqs = es; tasks = map text tasks; shared = map text shared }) grown in (
        whole ∙ ap (λ names. with_irq names (text v) number) view_is ∙ ap (λ n. with_irq self n number) is,
        subst AreNames (sym whole) (irq_added (kept_names irqs tasks shared) (text v) number are
            (subst IsName (sym is) named) unknown fits),
      )

  pub task_kept : (new : List (Vec ℕ Global)) → new ≡ insert_key same_text tasks v → task_index self name ≡ None
      → length self.tasks < TASKS
      → (kept_names irqs new shared ≡ with_task self name) × AreNames (kept_names irqs new shared)
  task_kept new at none room =
      let unknown : task_index (kept_names irqs tasks shared) (text v) ≡ None =
      ap (λ names. task_index names (text v)) view_is ∙ ap (task_index self) is ∙ none in
      let fits : length (map text tasks) < TASKS = subst (λ (names : Names). length names.tasks < TASKS) (sym view_is)
      room in
      let last : new ≡ tasks ++ v ∷ [] = at ∙ key_last v tasks
      (new_task (kept_names irqs tasks shared) (text v) unknown) in
      let grown : map text new ≡ map text tasks ++ text v ∷ [] = ap (map text) last ∙ map_push text tasks v in
      let whole : kept_names irqs new shared ≡ with_task (kept_names irqs tasks shared) (text v) =
      ap (λ names. record (kept_names irqs tasks shared) { tasks = names }) grown in (
        whole ∙ ap (λ names. with_task names (text v)) view_is ∙ ap (with_task self) is,
        subst AreNames (sym whole) (task_added (kept_names irqs tasks shared) (text v) are (subst IsName (sym is) named)
            unknown fits),
      )

  pub resource_kept : (new : List (Vec ℕ Global)) → new ≡ insert_key same_text shared v → resource_of self name ≡ None
      → length self.shared < SHARED
      → (kept_names irqs tasks new ≡ with_resource self name) × AreNames (kept_names irqs tasks new)
  resource_kept new at none room =
      let unknown : resource_of (kept_names irqs tasks shared) (text v) ≡ None =
      ap (λ names. resource_of names (text v)) view_is ∙ ap (resource_of self) is ∙ none in
      let fits : length (map text shared) < SHARED = subst (λ (names : Names). length names.shared < SHARED)
      (sym view_is) room in
      let last : new ≡ shared ++ v ∷ [] = at ∙ key_last v shared
      (new_resource (kept_names irqs tasks shared) (text v) unknown) in
      let grown : map text new ≡ map text shared ++ text v ∷ [] = ap (map text) last ∙ map_push text shared v in
      let whole : kept_names irqs tasks new ≡ with_resource (kept_names irqs tasks shared) (text v) =
      ap (λ names. record (kept_names irqs tasks shared) { shared = names }) grown in (
        whole ∙ ap (λ names. with_resource names (text v)) view_is ∙ ap (with_resource self) is,
        subst AreNames (sym whole) (resource_added (kept_names irqs tasks shared) (text v) are
            (subst IsName (sym is) named) unknown fits),
      )
