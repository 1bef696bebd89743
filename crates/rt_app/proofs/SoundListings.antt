-- In an accepted application a resource that is used without a lock is listed at one priority, and a local one by one
-- body.
use Rattle.std.proofs.Common.{◌≡◌, ℕ, zero, suc, ◌<◌, ◌==◌, Bool, true, false, List, [], ◌∷◌, length, flat_map, Some}
use Rattle.std.proofs.Common.{slice_get, refl, sym, ap, subst, ◌∙◌, arith, if◌then◌else◌}
use Rattle.std.specs.Prelude.{◌&&◌, not}
use Rattle.std.specs.List.{AllByRecursion, list_any}
use Rattle.std.proofs.lemmas.Bool.{eqb-true, eq-eqb}
use Rattle.std.proofs.lemmas.Option.{same_Some, none-some}
use Rattle.rt_lemmas.proofs.Bools.{left_of_none, right_of_none, true_and_false, not_false}
use Rattle.rt_lemmas.proofs.Lists.{all_map, append_none_left, append_none_right, found}
use Rattle.rt_lemmas.proofs.Membership.{all_at, any_one, none_of_each, all_flat_map, all_weaker}
use Rattle.rt_ids.specs.Choice.{IsIn}
use Rattle.rt_ids.specs.declared.rule.Rule.TheVariants as rule
use Rattle.rt_app.specs.Tree.{App}
use Rattle.rt_app.specs.Bodies.{Member, members}
use Rattle.rt_app.specs.Declarations.{is_known, owns, owned_before, owned_twice}
use Rattle.rt_app.specs.Listing.{Listing, listings_of, listings, is_lock_free, is_same, is_shared_and_exclusive}
use Rattle.rt_app.specs.Listing.{is_at_two_priorities, breaks_beside, first_listing, listing_breaks}
use Rattle.rt_app.specs.declared.violation.Violation.{Violation}
use Rattle.rt_app.specs.Violation.{when}
use Rattle.rt_app.specs.Accepted.{IsBodyPlaced, IsAccepted}
use Rattle.rt_app.proofs.Unbroken.{not_broken, known, of_known}
use Rattle.rt_app.proofs.Parts.{Parts}
use Rattle.rt_app.proofs.Members.{has_body, members_all}

same_form : (a b : Bool) → is_same a b ≡ true → a ≡ b
same_form true true is = refl
same_form true false is = absurd (cc)
same_form false true is = absurd (cc)
same_form false false is = refl

module _ (app : App) (accepted : IsAccepted app) (parts : Parts app) where
  all_placed : AllByRecursion (λ m. IsBodyPlaced app m.args m.body) (members app)
  all_placed = members_all app accepted _ (λ id m is. (has_body app accepted id m is).placed)

  listings_placed : AllByRecursion (λ l. l.listed.resource < length app.shared) (listings app)
  listings_placed = all_flat_map _ listings_of (members app)
      (all_weaker _ _ (λ m placed. all_map (λ l. record { listed = l; priority = m.priority }) _ _ (λ l is. is)
      m.body.shared placed.shared) (members app) all_placed)

  -- a listing agrees with the first one of its resource
  record AgreesWith (l f : Listing) : Type 0 where
    pub is_first : first_listing app l.listed.resource ≡ Some f
    pub alike : is_shared_and_exclusive app f l ≡ false
    pub at_one : is_at_two_priorities app f l ≡ false

  agrees : (l : Listing) → IsIn (listings app) l → (f : Listing) × AgreesWith l f
  agrees l is = (first.0, record { is_first = first.1; alike = alike; at_one = at_one })
    where
      first : (f : Listing) × (first_listing app l.listed.resource ≡ Some f)
      first = found (λ k. k.listed.resource == l.listed.resource) (listings app) is.0 l is.1
          (eq-eqb l.listed.resource l.listed.resource refl)

      fine : listing_breaks app l ≡ []
      fine = all_at (λ l. listing_breaks app l ≡ []) (listings app) is.0 l
          (none_of_each (listing_breaks app) (listings app) parts.listed) is.1

      is_there : is_known l.listed.resource ≡ true
      is_there = known l.listed.resource (length app.shared) (all_at _ (listings app) is.0 l listings_placed is.1)
          (let few = accepted.limits.shared in omega arith)

      kept : breaks_beside app l (Some first.0) ≡ []
      kept = subst (λ o. breaks_beside app l o ≡ []) first.1
          (subst (λ b. (if b then breaks_beside app l (first_listing app l.listed.resource) else []) ≡ []) is_there
          fine)

      on_sharing : List Violation
      on_sharing = when (is_shared_and_exclusive app first.0 l) rule.SharedAndExclusive l.listed.at

      on_priority : List Violation
      on_priority = when (is_at_two_priorities app first.0 l) rule.LockFreeAtTwoPriorities l.listed.at

      alike : is_shared_and_exclusive app first.0 l ≡ false
      alike = not_broken (is_shared_and_exclusive app first.0 l) rule.SharedAndExclusive l.listed.at
          (append_none_left on_sharing on_priority kept)

      at_one : is_at_two_priorities app first.0 l ≡ false
      at_one = not_broken (is_at_two_priorities app first.0 l) rule.LockFreeAtTwoPriorities l.listed.at
          (append_none_right on_sharing on_priority kept)

  -- two listings of one resource have one first one
  one_first : (l k f g : Listing) → l.listed.resource ≡ k.listed.resource → AgreesWith l f → AgreesWith k g → f ≡ g
  one_first l k f g same a b = same_Some f g (sym a.is_first ∙ ap (first_listing app) same ∙ b.is_first)

  pub at_one_priority : (l k : Listing) → IsIn (listings app) l → IsIn (listings app) k → l.listed.resource
      ≡ k.listed.resource → is_lock_free app l.listed.resource ≡ true → l.priority ≡ k.priority
  at_one_priority l k is js same free =
      let a = agrees l is in
      let b = agrees k js in
      at_one_of l a.0 free a.1 ∙ ap (λ l. l.priority) (one_first l k a.0 b.0 same a.1 b.1)
      ∙ sym (at_one_of k b.0 (ap (is_lock_free app) (sym same) ∙ free) b.1)
    where
      at_one_of : (l f : Listing) → is_lock_free app l.listed.resource ≡ true → AgreesWith l f → l.priority ≡ f.priority
      at_one_of l f free agreed = eqb-true l.priority f.priority
          (not_false _ (of_known (is_lock_free app l.listed.resource) (not (l.priority == f.priority)) free
          agreed.at_one))

  pub listed_alike : (l k : Listing) → IsIn (listings app) l → IsIn (listings app) k → l.listed.resource
      ≡ k.listed.resource → l.listed.by_ref ≡ k.listed.by_ref
  listed_alike l k is js same =
      let a = agrees l is in
      let b = agrees k js in
      form_of l a.0 a.1 ∙ ap (λ l. l.listed.by_ref) (one_first l k a.0 b.0 same a.1 b.1) ∙ sym (form_of k b.0 b.1)
    where
      form_of : (l f : Listing) → AgreesWith l f → l.listed.by_ref ≡ f.listed.by_ref
      form_of l f agreed =
          same_form l.listed.by_ref f.listed.by_ref (not_false (is_same l.listed.by_ref f.listed.by_ref)
          (left_of_none (not (is_same l.listed.by_ref f.listed.by_ref))
          (l.listed.by_ref && is_lock_free app l.listed.resource) agreed.alike))

  pub read_alone_locked : (l : Listing) → IsIn (listings app) l → l.listed.by_ref ≡ true
      → is_lock_free app l.listed.resource ≡ false
  read_alone_locked l is ref =
      let a = agrees l is in
      of_known l.listed.by_ref (is_lock_free app l.listed.resource) ref
      (right_of_none (not (is_same l.listed.by_ref a.0.listed.by_ref))
      (l.listed.by_ref && is_lock_free app l.listed.resource) a.1.alike)

  -- a local resource that a body owns is there
  owned_known : (n i : ℕ) (m : Member) → slice_get (members app) i ≡ Some m → owns n m ≡ true → is_known n ≡ true
  owned_known n i m at is =
      let one = any_one (λ o. o.local == n) m.body.local is in
      let few = accepted.limits.locals in
      known n (length app.locals) (subst (λ k. k < length app.locals) (eqb-true one.1.local n one.3)
      (all_at _ m.body.local one.0 one.1 (all_at _ (members app) i m all_placed at).local one.2)) (omega arith)

-- where nothing is owned twice, none before owns what one behind owns
fresh : (n : ℕ) → is_known n ≡ true → (before ms : List Member) → owned_twice before ms ≡ [] → (i : ℕ) (m : Member)
    → slice_get ms i ≡ Some m → owns n m ≡ true → list_any (owns n) before ≡ false
fresh n is before [] fine i m at own = absurd (none-some m at)
fresh n is before (k ∷ ms) fine zero m at own =
    let one = any_one (λ o. o.local == n) k.body.local (ap (owns n) (same_Some k m at) ∙ own) in
    let none = append_none_left (flat_map (owned_before before) k.body.local) (owned_twice (k ∷ before) ms) fine in
    let here = all_at (λ o. owned_before before o ≡ []) k.body.local one.0 one.1
    (none_of_each (owned_before before) k.body.local none) one.2 in
    let free = not_broken (is_known one.1.local && list_any (owns one.1.local) before) rule.LocalInTwoTasks one.1.at
    here in
    of_known (is_known n) (list_any (owns n) before) is (subst (λ x. (is_known x && list_any (owns x) before) ≡ false)
    (eqb-true one.1.local n one.3) free)
fresh n is before (k ∷ ms) fine (suc i) m at own =
    right_of_none (owns n k) (list_any (owns n) before) (fresh n is (k ∷ before) ms
    (append_none_right (flat_map (owned_before before) k.body.local) (owned_twice (k ∷ before) ms) fine) i m at own)

-- so none owns what another owns
apart : (n : ℕ) → is_known n ≡ true → (before : List Member) (k : Member) (ms : List Member)
    → owned_twice before (k ∷ ms) ≡ [] → (j : ℕ) (m o : Member) → Some k ≡ Some m → owns n m ≡ true → slice_get ms j
    ≡ Some o → owns n o ≡ true → ⊥
apart n is before k ms fine j m o first own at other =
    let none = fresh n is (k ∷ before) ms (append_none_right (flat_map (owned_before before) k.body.local)
    (owned_twice (k ∷ before) ms) fine) j o at other in
    true_and_false (owns n k) (ap (owns n) (same_Some k m first) ∙ own)
    (left_of_none (owns n k) (list_any (owns n) before) none)

one_owner : (n : ℕ) → is_known n ≡ true → (before ms : List Member) → owned_twice before ms ≡ []
    → (i j : ℕ) (m o : Member) → slice_get ms i ≡ Some m → slice_get ms j ≡ Some o → owns n m ≡ true → owns n o ≡ true
    → i ≡ j
one_owner n is before [] fine i j m o a b own other = absurd (none-some m a)
one_owner n is before (k ∷ ms) fine zero zero m o a b own other = refl
one_owner n is before (k ∷ ms) fine zero (suc j) m o a b own other =
    absurd (apart n is before k ms fine j m o a own b other)
one_owner n is before (k ∷ ms) fine (suc i) zero m o a b own other =
    absurd (apart n is before k ms fine i o m b other a own)
one_owner n is before (k ∷ ms) fine (suc i) (suc j) m o a b own other =
    ap suc (one_owner n is (k ∷ before) ms (append_none_right (flat_map (owned_before before) k.body.local)
    (owned_twice (k ∷ before) ms) fine) i j m o a b own other)

pub owners_differ : (app : App) → IsAccepted app → Parts app → (n i j : ℕ) (m o : Member) → slice_get (members app) i
    ≡ Some m → slice_get (members app) j ≡ Some o → owns n m ≡ true → owns n o ≡ true → i ≡ j
owners_differ app accepted parts n i j m o a b own other = one_owner n (owned_known app accepted parts n i m a own) []
    (members app) parts.owned i j m o a b own other
