-- All owners were looked at: `init`, the thread, and the handlers of all enabled rows.
use Rattle.std.proofs.Common.{◌≡◌, ◌≤◌, ◌<◌, ◌+◌, ◌==◌, ◌||◌, ◌&&◌, ◌^◌, ℕ, zero, suc, Bool, true, false, List}
use Rattle.std.proofs.Common.{[], ◌∷◌, ◌++◌, map, nat_le, length, is_some, if◌then◌else◌, Option}
use Rattle.std.proofs.Common.{Some, None, refl, sym, ap, subst, ◌∙◌, ⊎_elim, arith}
use Rattle.std.specs.List.{AllByRecursion, Contains, list_any}
use Rattle.std.proofs.lemmas.Bool.{cases_eq}
use Rattle.std.proofs.lemmas.List.{map-append}
use Rattle.std.proofs.lemmas.List.Elements.{Contains-append_left, Contains-push}
use Rattle.std.specs.List.{cons_option}
use Rattle.rt_lemmas.proofs.Membership.{all_append, all_weaker, contains_here, contains_none, contains_there}
use Rattle.rt_lemmas.proofs.Bools.{and_parts}
use Rattle.rt_lemmas.proofs.Lists.{all_map}
use Rattle.rt_ids.specs.Lists.{those_below}
use Rattle.rt_ids.proofs.Lists.{those_next}
use Rattle.rt_ids.specs.Priority.{hardware}
use Rattle.rt_code.specs.Image.{Image}
use Rattle.rt_code.specs.declared.image.Handler.{Handler}
use Rattle.rt_code.specs.declared.image.IrqRow.{IrqRow}
use Rattle.rt_points.specs.Leading.{IsPoint, Begins, Enters, Leads, handler_at}
use Rattle.rt_points.specs.Point.{Point}
use Rattle.rt_points.specs.Stack.{handlers}
use Rattle.rt_points.specs.declared.point.Owner.{Owner}
use Rattle.rt_points.specs.declared.point.Owner.TheVariants.{Starting, Thread, Handling}
use Rattle.rt_judge.specs.Inside.Looks.{IsBelow}
use Rattle.rt_judge.proofs.Looking.{serves, owner_below}
use Rattle.rt_judge.proofs.Walking.{contains_map}
use Rattle.rt_bounds.specs.Bounds as bounds
use Rattle.rt_bounds.specs.Bounds.{HoldsOff, IsWait, AreSectionBounds, AreWaits, IsHandlersBound}
use Rattle.rt_bounds.specs.Bounds.{is_enabled, is_used, place}
use Rattle.rt_bounds.specs.Inside.Gathered.{IsSoFar, IsGathered, AreAll, AreEarlier, ArePriorities}
use Rattle.rt_bounds.specs.Inside.Whole.{has_value, has_value_of, AreFirst, AreFirstTo, owners_below, IsGatheredBelow}
use Rattle.rt_bounds.specs.declared.bound.HandlerBound.{HandlerBound}
use Rattle.rt_bounds.specs.declared.bound.WaitBound.{WaitBound}
use Rattle.rt_bounds.specs.declared.gathered.Gathered.{Gathered}
use Rattle.rt_bounds.specs.declared.longest.Longest.{Longest}
use Rattle.rt_bounds.proofs.SoFar.{same_bound}

nothing_more : {X : Type 0} (xs : List X) → xs ++ [] ≡ xs
nothing_more [] = refl
nothing_more (x ∷ xs) = ap (λ ys. x ∷ ys) (nothing_more xs)

none_below : (test : ℕ → Bool) → those_below test 0 ≡ []
unfolding those_below
none_below test = refl

-- a number that passes is among those below a greater one
pub those_have : (test : ℕ → Bool) (n i : ℕ) → i < n → test i ≡ true → Contains (those_below test n) i
those_have test zero i below passes = absurd (omega (arith, below))
those_have test (suc n) i below passes = subst (λ (xs : List ℕ). Contains xs i) (sym (those_next test n)) (⊎_elim
    (λ same. subst (λ k. Contains (those_below test n ++ (if test n then n ∷ [] else [])) k) same
    (subst (λ b. Contains (those_below test n ++ (if b then n ∷ [] else [])) n) (sym (ap test same ∙ passes))
    (Contains-push (those_below test n) n)))
    (λ apart. Contains-append_left (those_below test n) (if test n then n ∷ [] else []) i
    (those_have test n i (omega (arith, below, apart)) passes))
    (cases_eq n i))

-- the owner of a point is `init`, the thread, or the handler of an enabled row
enabled_owner : (img : Image) (index : ℕ) (p : Point) → IsPoint img p → p.owner ≡ Handling index
    → is_enabled img index ≡ true
enabled_owner img index p Begins mine = absurd (let e : Starting ≡ Handling index = mine in cc)
enabled_owner img index p (Enters other h there) mine =
    let same : other ≡ index = let e : Handling other ≡ Handling index = mine in cc in
    ap (λ (o : Option Handler). is_some o) (ap (handler_at img) (sym same) ∙ there)
enabled_owner img index s (Leads p q from to) mine = ⊎_elim
    (λ same. enabled_owner img index p from (sym same ∙ sym to.owner ∙ mine))
    (λ served. absurd (let both : Thread ≡ Handling index = sym served.1 ∙ sym to.owner ∙ mine in cc))
    (serves to.line.0 p.owner)

covered : (img : Image) (n : ℕ) → length img.irqs ≤ n → (p : Point) → IsPoint img p → (o : Owner) → p.owner ≡ o
    → IsBelow (length img.irqs) o → Contains (owners_below img n) o
covered img n all p is Starting mine below =
    contains_here Starting (Thread ∷ map Handling (those_below (is_enabled img) n))
covered img n all p is Thread mine below =
    contains_there Starting (Thread ∷ map Handling (those_below (is_enabled img) n)) Thread
    (contains_here Thread (map Handling (those_below (is_enabled img) n)))
covered img n all p is (Handling index) mine below =
    contains_there Starting (Thread ∷ map Handling (those_below (is_enabled img) n)) (Handling index)
    (contains_there Thread (map Handling (those_below (is_enabled img) n)) (Handling index)
    (contains_map Handling (those_below (is_enabled img) n) index
    (those_have (is_enabled img) n index (omega (arith, below, all)) (enabled_owner img index p is mine))))

pub all_covered : (img : Image) (n : ℕ) → length img.irqs ≤ n → (p : Point) → IsPoint img p
    → Contains (owners_below img n) p.owner
all_covered img n all p is = covered img n all p is p.owner refl (owner_below img p is)

-- the owners below the next row
pub owners_next : (img : Image) (n : ℕ) → owners_below img (suc n)
    ≡ owners_below img n ++ (if is_enabled img n then Handling n ∷ [] else [])
owners_next img n =
    ap (λ (xs : List ℕ). Starting ∷ Thread ∷ map Handling xs) (those_next (is_enabled img) n)
    ∙ ap (λ (xs : List Owner). Starting ∷ Thread ∷ xs)
    (map-append Handling (those_below (is_enabled img) n) (if is_enabled img n then n ∷ [] else [])
    ∙ ap (λ (xs : List Owner). map Handling (those_below (is_enabled img) n) ++ xs) (one (is_enabled img n)))
  where
    one : (b : Bool) → map Handling (if b then n ∷ [] else []) ≡ (if b then Handling n ∷ [] else [])
    one true = refl
    one false = refl

-- one row more
pub row_more : (img : Image) (n : ℕ) (h : Handler) (old new : Gathered) (before : List HandlerBound)
    (longest : Longest) → handler_at img n ≡ Some h → IsGatheredBelow img n old before
    → IsGathered img (owners_below img n ++ Handling n ∷ []) new
    → bounds.IsOwnersBound img h.entry (Handling n) longest
    → IsGatheredBelow img (n + 1) new (before ++ record { index = n; longest = longest } ∷ [])
row_more img n h old new before longest is below gathered bound =
    let next : suc n ≡ n + 1 = omega arith in
    let enabled : is_enabled img n ≡ true = ap (λ (o : Option Handler). is_some o) is in
    subst (λ k. IsGatheredBelow img k new (before ++ record { index = n; longest = longest } ∷ [])) next (record {
      gathered = subst (λ (xs : List Owner). IsGathered img xs new)
          (sym (owners_next img n ∙ ap (λ (b : Bool). owners_below img n ++ (if b then Handling n ∷ [] else []))
          enabled)) gathered;
      each = all_append (IsHandlersBound img) before (record { index = n; longest = longest } ∷ []) below.each
          (record { handler = h; enabled = is; bound = bound }, tt);
      enabled = map-append (λ (row : HandlerBound). row.index) before (record { index = n; longest = longest } ∷ [])
          ∙ ap (λ (xs : List ℕ). xs ++ n ∷ []) below.enabled
          ∙ sym (those_next (is_enabled img) n
          ∙ ap (λ (b : Bool). those_below (is_enabled img) n ++ (if b then n ∷ [] else [])) enabled);
    })

pub row_past : (img : Image) (n : ℕ) (g : Gathered) (before : List HandlerBound) → handler_at img n ≡ None
    → IsGatheredBelow img n g before → IsGatheredBelow img (n + 1) g before
row_past img n g before is below =
    let next : suc n ≡ n + 1 = omega arith in
    let not_enabled : is_enabled img n ≡ false = ap (λ (o : Option Handler). is_some o) is in
    subst (λ k. IsGatheredBelow img k g before) next (record {
      gathered = subst (λ (xs : List Owner). IsGathered img xs g)
          (sym (owners_next img n ∙ ap (λ (b : Bool). owners_below img n ++ (if b then Handling n ∷ [] else []))
          not_enabled ∙ nothing_more (owners_below img n))) below.gathered;
      each = below.each;
      enabled = below.enabled
          ∙ sym (those_next (is_enabled img) n
          ∙ ap (λ (b : Bool). those_below (is_enabled img) n ++ (if b then n ∷ [] else [])) not_enabled
          ∙ nothing_more (those_below (is_enabled img) n));
    })

-- at the end
pub sections_whole : (img : Image) (n : ℕ) (g : Gathered) → length img.irqs ≤ n
    → IsGathered img (owners_below img n) g → AreSectionBounds img g.sections.items
sections_whole img n g all gathered = record {
  each = gathered.sections.each;
  all = λ owner x p enters. gathered.sections.all owner x p
      (subst (Contains (owners_below img n)) enters.mine (all_covered img n all p enters.enters.0)) enters;
  order = gathered.sections.order;
}

wait_whole : (img : Image) (n value : ℕ) → length img.irqs ≤ n → (o : Option Longest)
    → IsSoFar img (λ p. Contains (owners_below img n) p.owner) (HoldsOff img value) o → IsWait img value o
wait_whole img n value all None none = λ p holds. none p (all_covered img n all p holds.enters.0) holds
wait_whole img n value all (Some longest) some =
    same_bound img (λ p. Contains (owners_below img n) p.owner × HoldsOff img value p) (HoldsOff img value)
    (λ p both. both.1) (λ p holds. (all_covered img n all p holds.enters.0, holds)) longest some

pub waits_whole : (img : Image) (n : ℕ) (g : Gathered) → length img.irqs ≤ n
    → IsGathered img (owners_below img n) g
    → map (λ row. row.priority) g.waits.items ≡ those_below (is_used img) (suc (2 ^ img.bits))
    → AreWaits img g.waits.items
waits_whole img n g all gathered used = record {
  each = all_weaker
      (λ row. IsSoFar img (λ p. Contains (owners_below img n) p.owner)
      (HoldsOff img (hardware img.bits row.priority)) row.longest)
      (λ row. IsWait img (hardware img.bits row.priority) row.longest)
      (λ row. wait_whole img n (hardware img.bits row.priority) all row.longest)
      g.waits.items gathered.waits;
  used = used;
}

-- a value is in use where a row has it
pub used_by_row : (value : ℕ) (irqs : List IrqRow) → list_any (has_value value) irqs
    ≡ list_any (λ h. h.value == value) (handlers irqs)
used_by_row value [] = refl
used_by_row value (row ∷ irqs) =
    ap (λ b. has_value value row || b) (used_by_row value irqs) ∙ by_handler row.handler
  where
    by_handler : (o : Option Handler)
        → (has_value_of value o || list_any (λ h. h.value == value) (handlers irqs))
        ≡ list_any (λ h. h.value == value) (cons_option o (handlers irqs))
    by_handler None = refl
    by_handler (Some h) = refl

-- a priority is in use where a row has its value
pub used_priority : (img : Image) (p value : ℕ) (r : Bool) → 1 ≤ p → value ≡ hardware img.bits p
    → r ≡ list_any (has_value value) img.irqs → r ≡ is_used img p
used_priority img p value r least is any =
    let low : nat_le 1 p ≡ true = grind (arith, least) in
    any ∙ used_by_row value img.irqs ∙ ap (λ v. list_any (λ h. h.value == v) (handlers img.irqs)) is
    ∙ ap (λ b. b && list_any (λ h. h.value == hardware img.bits p) (handlers img.irqs)) (sym low)

-- one priority more
pub priority_more : (img : Image) (n : ℕ) (rows : List WaitBound) (row : WaitBound) → row.priority ≡ n
    → row.longest ≡ None → is_used img n ≡ true → AreFirstTo img n rows → AreFirstTo img (n + 1) (rows ++ row ∷ [])
priority_more img n rows row is none used first =
    let next : suc n ≡ n + 1 = omega arith in
    subst (λ k. AreFirstTo img k (rows ++ row ∷ [])) next (record {
      used = map-append (λ (r : WaitBound). r.priority) rows (row ∷ [])
          ∙ ap (λ (xs : List ℕ). xs ++ row.priority ∷ []) first.used
          ∙ ap (λ k. those_below (is_used img) n ++ k ∷ []) is
          ∙ sym (those_next (is_used img) n
          ∙ ap (λ (b : Bool). those_below (is_used img) n ++ (if b then n ∷ [] else [])) used);
      none = all_append (λ (r : WaitBound). r.longest ≡ None) rows (row ∷ []) first.none (none, tt);
    })

pub priority_past : (img : Image) (n : ℕ) (rows : List WaitBound) → is_used img n ≡ false → AreFirstTo img n rows
    → AreFirstTo img (n + 1) rows
priority_past img n rows unused first =
    let next : suc n ≡ n + 1 = omega arith in
    subst (λ k. AreFirstTo img k rows) next (record {
      used = first.used ∙ sym (those_next (is_used img) n
          ∙ ap (λ (b : Bool). those_below (is_used img) n ++ (if b then n ∷ [] else [])) unused
          ∙ nothing_more (those_below (is_used img) n));
      none = first.none;
    })

-- no priority is below 1
pub first_none : (img : Image) → AreFirstTo img 1 []
first_none img = record {
  used = sym (those_next (is_used img) 0 ∙ nothing_more (those_below (is_used img) 0) ∙ none_below (is_used img));
  none = tt;
}

-- the rows that are looked for, before any owner is looked at
pub gathered_first : (img : Image) (g : Gathered) → g.own.items ≡ [] → g.sections.items ≡ []
    → AreFirst img g.waits.items → IsGathered img [] g
gathered_first img g own sections first = record {
  own = own;
  sections = subst (AreAll img []) (sym sections) (record {
    each = tt;
    all = λ owner x p is enters. absurd (contains_none owner is);
    order = tt;
    owners = tt;
  });
  waits = all_weaker (λ (row : WaitBound). row.longest ≡ None)
      (λ row. IsSoFar img (λ p. Contains [] p.owner) (HoldsOff img (hardware img.bits row.priority)) row.longest)
      (λ row none. subst (IsSoFar img (λ p. Contains [] p.owner) (HoldsOff img (hardware img.bits row.priority)))
      (sym none) (λ p is. absurd (contains_none p.owner is)))
      g.waits.items first.none;
}

-- the priorities that are in use are those of tasks
those_range : (test : ℕ → Bool) (P : ℕ → Type 0) (n : ℕ) → ((k : ℕ) → k < n → test k ≡ true → P k)
    → AllByRecursion P (those_below test n)
those_range test P zero each = subst (AllByRecursion P) (sym (none_below test)) tt
those_range test P (suc n) each = subst (AllByRecursion P) (sym (those_next test n)) (all_append P (those_below test n)
    (if test n then n ∷ [] else [])
    (those_range test P n (λ k less. each k (omega (arith, less))))
    (last (test n) refl))
  where
    last : (b : Bool) → test n ≡ b → AllByRecursion P (if b then n ∷ [] else [])
    last true is = (each n (omega arith) is, tt)
    last false is = tt

-- the owners below a row come before its handler
pub below_earlier : (img : Image) (n : ℕ) → AreEarlier (Handling n) (owners_below img n)
below_earlier img n = (
  omega arith,
  (
    omega arith,
    all_map Handling (λ k. k < n) (λ o. place o < suc (suc n))
        (λ k less. omega (arith, less)) (those_below (is_enabled img) n)
        (those_range (is_enabled img) (λ k. k < n) n (λ k less is. less)),
  ),
)

used_least : (img : Image) (p : ℕ) → is_used img p ≡ true → 1 ≤ p
used_least img p used =
    let parts = and_parts (nat_le 1 p) (list_any (λ h. h.value == hardware img.bits p) (handlers img.irqs)) used in
    grind (arith, parts.0)

priorities_in : (bits : ℕ) (rows : List WaitBound)
    → AllByRecursion (λ p. (1 ≤ p) × (p ≤ 2 ^ bits)) (map (λ row. row.priority) rows) → ArePriorities bits rows
priorities_in bits [] all = tt
priorities_in bits (row ∷ rows) all = (all.0, priorities_in bits rows all.1)

pub first_priorities : (img : Image) (rows : List WaitBound) → AreFirst img rows → ArePriorities img.bits rows
first_priorities img rows first =
    priorities_in img.bits rows (subst (AllByRecursion (λ p. (1 ≤ p) × (p ≤ 2 ^ img.bits))) (sym first.used)
    (those_range (is_used img) (λ p. (1 ≤ p) × (p ≤ 2 ^ img.bits)) (suc (2 ^ img.bits))
    (λ k less used. (used_least img k used, omega (arith, less)))))

-- with nobody below the first row, `init` and the thread were looked at
pub below_none : (img : Image) (g : Gathered) → IsGathered img (Starting ∷ Thread ∷ []) g
    → IsGatheredBelow img 0 g []
below_none img g gathered = record {
  gathered = subst (λ (xs : List ℕ). IsGathered img (Starting ∷ Thread ∷ map Handling xs) g)
      (sym (none_below (is_enabled img))) gathered;
  each = tt;
  enabled = sym (none_below (is_enabled img));
}
