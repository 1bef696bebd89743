-- What is kept of those who touch cells, with one more point.
use Rattle.std.proofs.Common.{◌≡◌, ◌≢◌, ◌⊎◌, ◌↔◌, ◌≤◌, ◌||◌, ◌==◌, Bool, true, false, not, cond, ℕ, zero, suc, List, []}
use Rattle.std.proofs.Common.{◌∷◌, ◌++◌}
use Rattle.std.proofs.Common.{filter, length, slice_get, slice_set, option_map, Option, Some, None, refl, sym, ap}
use Rattle.std.proofs.Common.{subst, ◌∙◌}
use Rattle.std.proofs.Common.{inl, inr, ⊎_elim, arith, eq-eqb}
use Rattle.std.specs.List.{list_all}
use Rattle.std.proofs.lemmas.Bool.{eqb-true}
use Rattle.std.proofs.lemmas.Option.{same_Some, none-some, slice_get_within}
use Rattle.std.proofs.lemmas.List.Elements.{Contains-append_left, Contains-push_cases, Contains-push}
use Rattle.rt_lemmas.proofs.Bools.{not_true, not_false, and_parts, or_cases, or_left, or_right}
use Rattle.rt_code.proofs.Mine.{same_section}
use Rattle.rt_actions.specs.Location.{is_same_section}
use Rattle.rt_actions.proofs.Sections.{one_section}
use Rattle.rt_points.specs.declared.point.Opened.{Opened}
use Rattle.rt_ids.specs.Choice.{IsIn}
use Rattle.rt_ids.specs.declared.ids.Section.{Section}
use Rattle.rt_code.specs.Access.{Access, Loads, Stores, cell_of}
use Rattle.rt_code.specs.Image.{Image}
use Rattle.rt_code.specs.declared.instr.Instr.{Instr}
use Rattle.rt_code.specs.declared.instr.Note.{Note}
use Rattle.rt_points.specs.Point.{Point, sections}
use Rattle.rt_points.specs.ExecutionPriority.{owner_value}
use Rattle.rt_points.specs.Rules.{touched_cell, IsStore}
use Rattle.rt_points.specs.declared.point.Owner.TheVariants.{Starting}
use Rattle.rt_judge.specs.Inside.Touching.{Toucher, SomeIfTrue, IsTouching, TellsOfTouching, TellsOfCells, is_stored}
use Rattle.rt_judge.specs.Inside.Touching.{is_open}
use Rattle.rt_judge.specs.Inside.Touching.{IsFirst, IsWith, IsNext, IsTouched, is_among}
use Rattle.rt_judge.specs.declared.touching.Touching.{Touching}
use Rattle.rt_judge.specs.declared.touching.Touch.{Touch}
use Rattle.rt_judge.proofs.Seen.{any_inside, inside_any}
use Rattle.rt_judge.proofs.Lines.{instr_in, told_line, no_line}

-- an access that passes, where others pass
some_like : (b : Bool) (P Q : Point → Access → Type 0) → ((q : Point) (a : Access) → P q a → Q q a)
    → ((q : Point) (a : Access) → Q q a → P q a) → SomeIfTrue b P → SomeIfTrue b Q
some_like true P Q on back (q, a, is) = (q, a, on q a is)
some_like false P Q on back none = λ q a is. none q a (back q a is)

some_or : (b c : Bool) (P Q : Point → Access → Type 0) → ((q : Point) (a : Access) → P q a → Q q a)
    → (c ≡ true → (q : Point) × (a : Access) × Q q a) → (c ≡ false → (q : Point) (a : Access) → Q q a → P q a)
    → SomeIfTrue b P → SomeIfTrue (b || c) Q
some_or true c P Q on one back (q, a, is) = (q, a, on q a is)
some_or false true P Q on one back none = one refl
some_or false false P Q on one back none = λ q a is. none q a (back refl q a is)

pub store_test : (a : Access) → is_stored (Some a) ≡ true → IsStore a
store_test (Loads cell) is = absurd cc
store_test (Stores cell) is = tt

pub test_store : (a : Access) → IsStore a → is_stored (Some a) ≡ true
test_store (Loads cell) is = absurd is
test_store (Stores cell) is = refl

-- what a filter leaves
in_filter : (f : Section → Bool) (xs : List Section) (x : Section) → IsIn (filter f xs) x → IsIn xs x × (f x ≡ true)
in_filter f [] x (i, at) = absurd (none-some x at)
in_filter f (y ∷ xs) x is = elim (f y) as (λ b. f y ≡ b → IsIn (cond b (y ∷ filter f xs) (filter f xs)) x
    → IsIn (y ∷ xs) x × (f x ≡ true)) [
      | true ↦ λ passes one. first_or (in_filter f xs x) one passes
      | false ↦ λ passes one. let rest = in_filter f xs x one in ((suc rest.0.0, rest.0.1), rest.1)
    ] refl is
  where
    first_or : (IsIn (filter f xs) x → IsIn xs x × (f x ≡ true)) → IsIn (y ∷ filter f xs) x → f y ≡ true
        → IsIn (y ∷ xs) x × (f x ≡ true)
    first_or more (zero, at) passes = ((0, at), subst (λ z. f z ≡ true) (same_Some y x at) passes)
    first_or more (suc i, at) passes = let rest = more (i, at) in ((suc rest.0.0, rest.0.1), rest.1)

filter_in : (f : Section → Bool) (xs : List Section) (x : Section) → IsIn xs x → f x ≡ true → IsIn (filter f xs) x
filter_in f [] x (i, at) passes = absurd (none-some x at)
filter_in f (y ∷ xs) x (zero, at) passes =
    let first : f y ≡ true = subst (λ z. f z ≡ true) (sym (same_Some y x at)) passes in
    subst (λ b. IsIn (cond b (y ∷ filter f xs) (filter f xs)) x) (sym first) (0, at)
filter_in f (y ∷ xs) x (suc i, at) passes =
    let rest = filter_in f xs x (i, at) passes in
    elim (f y) as (λ b. IsIn (cond b (y ∷ filter f xs) (filter f xs)) x) [
      | true ↦ (suc rest.0, rest.1)
      | false ↦ rest
    ]

get_set : (rows : List (Option Touching)) (n k : ℕ) (v row : Option Touching) → slice_get (slice_set rows n v) k
    ≡ Some row
    → ((k ≡ n) × (v ≡ row)) ⊎ ((k ≢ n) × (slice_get rows k ≡ Some row))
get_set [] n k v row at = absurd (none-some row at)
get_set (x ∷ xs) zero zero v row at = inl (refl, same_Some v row at)
get_set (x ∷ xs) zero (suc k) v row at = inr ((λ e. absurd (omega (arith, e))), at)
get_set (x ∷ xs) (suc n) zero v row at = inr ((λ e. absurd (omega (arith, e))), at)
get_set (x ∷ xs) (suc n) (suc k) v row at = ⊎_elim
    (λ here. inl (ap suc here.0, here.1))
    (λ there. inr ((λ e. there.0 (omega (arith, e))), there.1))
    (get_set xs n k v row at)

module _ (img : Image) (ps : List Point) (p : Point) where
  seen_before : (k : ℕ) (q : Point) (b : Access) → Toucher img ps k q b → Toucher img (ps ++ p ∷ []) k q b
  seen_before k q b t = record {
    seen = Contains-append_left ps (p ∷ []) q t.seen;
    outside = t.outside;
    instr = t.instr;
    told = t.told;
    stands = t.stands;
    by = t.by;
    touches = t.touches;
  }

  -- a cell that the next point does not touch
  row_more : (k : ℕ) → ((q : Point) (b : Access) → Toucher img (ps ++ p ∷ []) k q b → Toucher img ps k q b)
      → (row : Option Touching) → TellsOfTouching img ps k row → TellsOfTouching img (ps ++ p ∷ []) k row
  row_more k before None none = λ q b t. none q b (before q b t)
  row_more k before (Some t) is = record {
    stored = some_like t.stored (λ q b. Toucher img ps k q b × IsStore b)
        (λ q b. Toucher img (ps ++ p ∷ []) k q b × IsStore b)
        (λ q b h. (seen_before k q b h.0, h.1)) (λ q b h. (before q b h.0, h.1)) is.stored;
    first = is.first;
    access = is.access;
    touches = seen_before k is.first is.access is.touches;
    value = is.value;
    differ = some_like t.differ (λ q b. Toucher img ps k q b × (owner_value img q.owner ≢ t.value))
        (λ q b. Toucher img (ps ++ p ∷ []) k q b × (owner_value img q.owner ≢ t.value))
        (λ q b h. (seen_before k q b h.0, h.1)) (λ q b h. (before q b h.0, h.1)) is.differ;
    guards = λ x inside q b h. is.guards x inside q b (before q b h);
    guarding = λ x all. is.guarding x (λ q b h. all q b (seen_before k q b h));
  }

  pub takes_nowhere : (rows : List (Option Touching)) → slice_get img.code p.address ≡ None
      → TellsOfCells img ps rows → TellsOfCells img (ps ++ p ∷ []) rows
  takes_nowhere rows absent tells k line at = row_more k
      (λ q b t. ⊎_elim
      (λ seen. record {
        seen = seen;
        outside = t.outside;
        instr = t.instr;
        told = t.told;
        stands = t.stands;
        by = t.by;
        touches = t.touches;
      })
      (λ same. absurd (
      let none : slice_get img.code p.address ≡ no_line = absent in
      let some : slice_get img.code p.address ≡ told_line t.instr t.told =
      ap (λ (r : Point). slice_get img.code r.address) same ∙ t.stands in
      let both : no_line ≡ told_line t.instr t.told = sym none ∙ some in cc))
      (Contains-push_cases ps p q t.seen))
      line (tells k line at)

module _ (img : Image) (ps : List Point) (p : Point) (i : Instr) (told : Option Note)
    (stands : slice_get img.code p.address ≡ Some (i, told)) where
  -- who touches a cell is one of before, or the next
  by_cases : {G : Type 0} (k : ℕ) (q : Point) (b : Access) → Toucher img (ps ++ p ∷ []) k q b
      → (Toucher img ps k q b → G) → (p ≡ q → p.owner ≢ Starting → touched_cell i ≡ Some b → cell_of b ≡ k → G) → G
  by_cases k q b t before now = ⊎_elim
      (λ seen. before (record {
        seen = seen;
        outside = t.outside;
        instr = t.instr;
        told = t.told;
        stands = t.stands;
        by = t.by;
        touches = t.touches;
      }))
      (λ same.
      let was : slice_get img.code p.address ≡ told_line i told = stands in
      let is : slice_get img.code p.address ≡ told_line t.instr t.told =
      ap (λ (r : Point). slice_get img.code r.address) same ∙ t.stands in
      let one : i ≡ t.instr = ap (instr_in i) (sym was ∙ is) in
      now same (subst (λ (r : Point). r.owner ≢ Starting) (sym same) t.outside) (ap touched_cell one ∙ t.by) t.touches)
      (Contains-push_cases ps p q t.seen)

  pub takes_no_touch : (rows : List (Option Touching)) → (p.owner ≡ Starting) ⊎ (touched_cell i ≡ None)
      → TellsOfCells img ps rows → TellsOfCells img (ps ++ p ∷ []) rows
  takes_no_touch rows none tells k row at = row_more img ps p k
      (λ q b t. by_cases k q b t (λ h. h) (λ same outside by is. absurd (⊎_elim
      (λ starting. outside starting)
      (λ nothing. let both : Some b ≡ None = sym by ∙ nothing in cc) none)))
      row (tells k row at)

  -- the next point touches a cell
  module _ (touch : Touch) (a : Access) (outside : p.owner ≢ Starting) (value : owner_value img p.owner ≡ touch.value)
      (by : touched_cell i ≡ Some a) (at : cell_of a ≡ touch.cell) (stores : is_stored (Some a) ≡ touch.stored) where
    same_access : (b : Access) → touched_cell i ≡ Some b → a ≡ b
    same_access b other = same_Some a b (sym by ∙ other)

    apart : (k : ℕ) → k ≢ touch.cell → (q : Point) (b : Access) → Toucher img (ps ++ p ∷ []) k q b
        → Toucher img ps k q b
    apart k other q b t = by_cases k q b t (λ h. h)
        (λ same _ is cell. absurd (other (sym cell ∙ ap cell_of (sym (same_access b is)) ∙ at)))

    pub takes_outer_touch : (rows : List (Option Touching)) → length rows ≤ touch.cell
        → TellsOfCells img ps rows → TellsOfCells img (ps ++ p ∷ []) rows
    takes_outer_touch rows past tells k row is =
        row_more img ps p k
        (apart k (λ e. absurd (let within = slice_get_within rows k row is in omega (arith, within, e, past)))) row
        (tells k row is)

    here : Toucher img (ps ++ p ∷ []) touch.cell p a
    here = record {
      seen = Contains-push ps p;
      outside = outside;
      instr = i;
      told = told;
      stands = stands;
      by = by;
      touches = at;
    }

    same_value : (q : Point) → p ≡ q → owner_value img q.owner ≡ touch.value
    same_value q same = ap (λ (r : Point). owner_value img r.owner) (sym same) ∙ value

    first : (t : Touching) → IsFirst touch p.inside t → ((q : Point) (b : Access) → ¬ Toucher img ps touch.cell q b)
        → IsTouching img (ps ++ p ∷ []) touch.cell t
    first t is none = record {
      stored = subst (λ c. SomeIfTrue c (λ q b. Toucher img (ps ++ p ∷ []) touch.cell q b × IsStore b))
          (sym (is.stored ∙ sym stores))
          (store_or_none (is_stored (Some a)) refl);
      first = p;
      access = a;
      touches = here;
      value = value ∙ sym is.value;
      differ = subst (λ c. SomeIfTrue c (λ q b. Toucher img (ps ++ p ∷ []) touch.cell q b
          × (owner_value img q.owner ≢ t.value)))
          (sym is.differ)
          (λ q b h. by_cases touch.cell q b h.0 (λ before. none q b before)
          (λ same _ _ _. h.1 (same_value q same ∙ sym is.value)));
      guards = λ x inside q b h. by_cases touch.cell q b h (λ before. absurd (none q b before))
          (λ same _ _ _. subst (λ (r : Point). IsIn (sections r.inside) x) same
          (subst (λ xs. IsIn xs x) is.sections inside));
      guarding = λ x all. subst (λ xs. IsIn xs x) (sym is.sections) (all p a here);
    }
      where
        store_or_none : (c : Bool) → is_stored (Some a) ≡ c
            → SomeIfTrue c (λ q b. Toucher img (ps ++ p ∷ []) touch.cell q b × IsStore b)
        store_or_none true e = (p, a, (here, store_test a e))
        store_or_none false e = λ q b h. by_cases touch.cell q b h.0 (λ before. none q b before)
            (λ _ _ other _. absurd (let yes = test_store a (subst IsStore (sym (same_access b other)) h.1) in cc))

    again : (old t : Touching) → IsWith old touch p.inside t → IsTouching img ps touch.cell old
        → IsTouching img (ps ++ p ∷ []) touch.cell t
    again old t is was = record {
      stored = subst (λ c. SomeIfTrue c (λ q b. Toucher img (ps ++ p ∷ []) touch.cell q b × IsStore b)) (sym is.stored)
          (some_or old.stored touch.stored (λ q b. Toucher img ps touch.cell q b × IsStore b)
          (λ q b. Toucher img (ps ++ p ∷ []) touch.cell q b × IsStore b)
          (λ q b h. (seen_before img ps p touch.cell q b h.0, h.1))
          (λ yes. (p, a, (here, store_test a (stores ∙ yes))))
          (λ no q b h. by_cases touch.cell q b h.0 (λ before. (before, h.1))
          (λ _ _ other _. absurd (let yes = test_store a (subst IsStore (sym (same_access b other)) h.1) in
          let not_so = stores ∙ no in cc)))
          was.stored);
      first = was.first;
      access = was.access;
      touches = seen_before img ps p touch.cell was.first was.access was.touches;
      value = was.value ∙ sym is.value;
      differ = subst (λ v. SomeIfTrue t.differ (λ q b. Toucher img (ps ++ p ∷ []) touch.cell q b
          × (owner_value img q.owner ≢ v))) (sym is.value)
          (subst (λ c. SomeIfTrue c (λ q b. Toucher img (ps ++ p ∷ []) touch.cell q b
          × (owner_value img q.owner ≢ old.value))) (sym is.differ)
          (some_or old.differ (not (touch.value == old.value))
          (λ q b. Toucher img ps touch.cell q b × (owner_value img q.owner ≢ old.value))
          (λ q b. Toucher img (ps ++ p ∷ []) touch.cell q b × (owner_value img q.owner ≢ old.value))
          (λ q b h. (seen_before img ps p touch.cell q b h.0, h.1))
          (λ yes. (
            p,
            a,
            (
              here,
              λ same. absurd (let no = not_true (touch.value == old.value) yes in
                  let eq = eq-eqb touch.value old.value (sym value ∙ same) in cc),
            ),
          ))
          (λ no q b h. by_cases touch.cell q b h.0 (λ before. (before, h.1))
          (λ same _ _ _. absurd (h.1 (same_value q same ∙ eqb-true touch.value old.value
          (not_false (touch.value == old.value) no)))))
          was.differ));
      guards = λ x inside q b h.
          let both = (is.sections x).0 inside in
          by_cases touch.cell q b h (was.guards x both.0 q b)
          (λ same _ _ _. subst (λ (r : Point). IsIn (sections r.inside) x) same (any_inside x p.inside both.1));
      guarding = λ x all. (is.sections x).1 (
        was.guarding x (λ q b h. all q b (seen_before img ps p touch.cell q b h)),
        inside_any x p.inside (all p a here),
      );
    }

    next_row : (row : Option Touching) (t : Touching) → IsNext row touch p.inside t
        → TellsOfTouching img ps touch.cell row
        → IsTouching img (ps ++ p ∷ []) touch.cell t
    next_row None t is none = first t is none
    next_row (Some old) t is was = again old t is was

    pub takes_inner_touch : (old new : List (Option Touching)) → IsTouched old new touch p.inside
        → TellsOfCells img ps old → TellsOfCells img (ps ++ p ∷ []) new
    takes_inner_touch old new done tells k row is = ⊎_elim
        (λ same. subst (λ n. TellsOfTouching img (ps ++ p ∷ []) n row) (sym same.0)
        (subst (TellsOfTouching img (ps ++ p ∷ []) touch.cell) same.1
        (next_row done.row done.next done.is_next (tells touch.cell done.row done.was))))
        (λ there. row_more img ps p k (apart k there.0) row (tells k row there.1))
        (get_set old touch.cell k (Some done.next) row (subst (λ rows. slice_get rows k ≡ Some row) done.is is))

-- what is one of these
among_in : (xs : List Section) (x : Section) → is_among xs x ≡ true → IsIn xs x
among_in [] x is = absurd cc
among_in (y ∷ xs) x is = elim (or_cases (is_same_section y x) (is_among xs x) is) [
  | inl here ↦ (0, ap Some (one_section y x here))
  | inr there ↦ let rest = among_in xs x there in (suc rest.0, rest.1)
]

in_among : (xs : List Section) (x : Section) → IsIn xs x → is_among xs x ≡ true
in_among [] x (i, at) = absurd (none-some x at)
in_among (y ∷ xs) x (zero, at) = or_left (is_same_section y x) (is_among xs x)
    (subst (λ z. is_same_section y z ≡ true) (same_Some y x at) (same_section y))
in_among (y ∷ xs) x (suc i, at) = or_right (is_same_section y x) (is_among xs x) (in_among xs x (i, at))

-- the open ones of these
pub common_ones : (xs ys : List Section) (opened : List Opened) → ys ≡ filter (is_among xs) (sections opened)
    → (x : Section) → IsIn ys x ↔ (IsIn xs x × (is_open opened x ≡ true))
common_ones xs ys opened is x = (
  λ inside.
      let both = in_filter (is_among xs) (sections opened) x (subst (λ zs. IsIn zs x) is inside) in
      (among_in xs x both.1, inside_any x opened both.0),
  λ both. subst (λ zs. IsIn zs x) (sym is)
      (filter_in (is_among xs) (sections opened) x (any_inside x opened both.1) (in_among xs x both.0)),
)

-- all of these are open
all_pass : (f : Section → Bool) (xs : List Section) (x : Section) → list_all f xs ≡ true → IsIn xs x → f x ≡ true
all_pass f [] x all (i, at) = absurd (none-some x at)
all_pass f (y ∷ xs) x all (zero, at) =
    subst (λ z. f z ≡ true) (same_Some y x at) (and_parts (f y) (list_all f xs) all).0
all_pass f (y ∷ xs) x all (suc i, at) = all_pass f xs x (and_parts (f y) (list_all f xs) all).1 (i, at)

pub all_ones : (xs : List Section) (opened : List Opened) → list_all (is_open opened) xs ≡ true
    → (x : Section) → IsIn xs x ↔ (IsIn xs x × (is_open opened x ≡ true))
all_ones xs opened all x = (
  λ inside. (inside, all_pass (is_open opened) xs x all inside),
  λ both. both.0,
)

-- the access of a touch
pub record HasAccess (i : Instr) (touch : Touch) : Type 0 where
  pub access : Access
  pub by : touched_cell i ≡ Some access
  pub at : cell_of access ≡ touch.cell
  pub stores : is_stored (Some access) ≡ touch.stored

pub access_of_touch : (i : Instr) (touch : Touch) → option_map cell_of (touched_cell i) ≡ Some touch.cell
    → is_stored (touched_cell i) ≡ touch.stored → HasAccess i touch
access_of_touch i touch cell stores = elim (touched_cell i) as
    (λ (o : Option Access). touched_cell i ≡ o → option_map cell_of o ≡ Some touch.cell → is_stored o ≡ touch.stored
    → HasAccess i touch) [
      | None ↦ λ e at s. absurd (none-some touch.cell at)
      | Some a ↦ λ e at s. record { access = a; by = e; at = same_Some (cell_of a) touch.cell at; stores = s }
    ] refl cell stores
