-- Who keeps or reads something without a section: it is something of the application, and no two priorities that differ
-- keep
-- and read the same.
use Rattle.std.proofs.Common.{◌≡◌, ℕ, zero, suc, ◌<◌, ◌==◌, ◌||◌, ◌&&◌, inl, inr, Bool, true, not, List, [], ◌∷◌, map}
use Rattle.std.proofs.Common.{length, flat_map, slice_get, Some, sym, ap, subst, ◌∙◌}
use Rattle.std.specs.List.{AllByRecursion}
use Rattle.std.proofs.lemmas.Bool.{eqb-true}
use Rattle.std.proofs.lemmas.Option.{same_Some, none-some}
use Rattle.rt_lemmas.proofs.Bools.{and_parts, or_cases, true_and_false}
use Rattle.rt_lemmas.proofs.Membership.{all_at, any_one}
use Rattle.rt_ids.specs.Choice.{IsIn}
use Rattle.rt_actions.specs.Location.{Location, Guarded, Own}
use Rattle.rt_actions.specs.Storage.{AtPriority}
use Rattle.rt_ids.specs.declared.ids.Section.TheVariants as section
use Rattle.rt_app.specs.Tree.{App}
use Rattle.rt_app.specs.Accepted.{IsAccepted, IsBodyPlaced}
use Rattle.rt_app.specs.Acceptance.{IsSound}
use Rattle.rt_app.specs.Bodies.{Member, members}
use Rattle.rt_app.specs.Ceiling.{lists}
use Rattle.rt_app.specs.Declarations.{owns}
use Rattle.rt_app.specs.Holding.{is_some_at, is_kept, is_constant, IsHeld}
use Rattle.rt_app.specs.Listing.{Listing, listings_of, listings, is_lock_free, is_read_alone}
use Rattle.rt_app.specs.Statements.{is_init}
use Rattle.rt_app.proofs.Members.{in_front, in_back, members_all, has_body}

in_flat : {X Y : Type 0} (f : X → List Y) (xs : List X) (i : ℕ) (x : X) (y : Y) → slice_get xs i ≡ Some x
    → IsIn (f x) y → IsIn (flat_map f xs) y
in_flat f [] i x y at is = absurd (none-some x at)
in_flat f (z ∷ xs) zero x y at is = in_front (f z) (flat_map f xs) y (subst (λ w. IsIn (f w) y)
    (sym (same_Some z x at)) is)
in_flat f (z ∷ xs) (suc i) x y at is = in_back (f z) (flat_map f xs) y (in_flat f xs i x y at is)

mapped_in : {X Y : Type 0} (f : X → Y) (xs : List X) (i : ℕ) (x : X) → slice_get xs i ≡ Some x → IsIn (map f xs) (f x)
mapped_in f [] i x at = absurd (none-some x at)
mapped_in f (z ∷ xs) zero x at = (zero, ap (λ w. Some (f w)) (same_Some z x at))
mapped_in f (z ∷ xs) (suc i) x at = let rest = mapped_in f xs i x at in (suc rest.0, rest.1)

module _ (app : App) (accepted : IsAccepted app) (sound : IsSound app) where
  placed : AllByRecursion (λ m. IsBodyPlaced app m.args m.body) (members app)
  placed = members_all app accepted (λ m. IsBodyPlaced app m.args m.body)
      (λ id m is. (has_body app accepted id m is).placed)

  -- a body at a priority that passes
  pub record IsAtPriority (test : Member → Bool) (p : ℕ) : Type 0 where
    pub index : ℕ
    pub member : Member
    pub there : slice_get (members app) index ≡ Some member
    pub priority : member.priority ≡ p
    pub passes : test member ≡ true

  at_threshold : (test : Member → Bool) (p : ℕ) → is_some_at app test p ≡ true → IsAtPriority test p
  at_threshold test p is =
      let one = any_one (λ m. not (is_init m.id) && ((m.priority == p) && test m)) (members app) is in
      let parts = and_parts (not (is_init one.1.id)) ((one.1.priority == p) && test one.1) one.3 in
      let more = and_parts (one.1.priority == p) (test one.1) parts.1 in
      record {
        index = one.0;
        member = one.1;
        there = one.2;
        priority = eqb-true one.1.priority p more.0;
        passes =
            more.1;
      }

  -- a listing of a resource by a body of a priority
  pub record IsListedAt (r p : ℕ) : Type 0 where
    pub listing : Listing
    pub among : IsIn (listings app) listing
    pub of : listing.listed.resource ≡ r
    pub priority : listing.priority ≡ p

  listed_at : (r p : ℕ) → is_some_at app (lists r) p ≡ true → IsListedAt r p
  listed_at r p is =
      let at = at_threshold (lists r) p is in
      let one = any_one (λ l. l.resource == r) at.member.body.shared at.passes in
      record {
        listing = record { listed = one.1; priority = at.member.priority };
        among = in_flat listings_of (members app) at.index at.member _ at.there
            (mapped_in (λ l. record {
              listed = l;
              priority =
                  at.member.priority;
            }) at.member.body.shared one.0 one.1 one.2);
        of = eqb-true one.1.resource r one.3;
        priority = at.priority;
      }

  -- what a priority keeps no other priority keeps or reads
  pub keepers_apart : (p q : ℕ) → ¬ (p ≡ q) → (h : Location) → is_kept app (AtPriority p) h ≡ true
      → (is_kept app (AtPriority q) h || is_constant app (AtPriority q) h) ≡ true → ⊥
  keepers_apart p q differ (Guarded (section.Res r)) kept other =
      let mine = and_parts (is_lock_free app r) (is_some_at app (lists r) p) kept in
      let l = listed_at r p mine.1 in
      elim (or_cases (is_kept app (AtPriority q) (Guarded (section.Res r)))
      (is_constant app (AtPriority q) (Guarded (section.Res r))) other) [
        | inl keeps ↦
            let theirs = and_parts (is_lock_free app r) (is_some_at app (lists r) q) keeps in
            let k = listed_at r q theirs.1 in
            differ (sym l.priority ∙ sound.lock_free l.listing k.listing l.among k.among (l.of ∙ sym k.of)
            (ap (is_lock_free app) l.of ∙ mine.0) ∙ k.priority)
        | inr reads ↦
            let one = any_one (λ k. (k.listed.resource == r) && k.listed.by_ref) (listings app)
            (and_parts (is_read_alone app r) (is_some_at app (lists r) q) reads).0 in
            let parts = and_parts (one.1.listed.resource == r) one.1.listed.by_ref one.3 in
            true_and_false (is_lock_free app r) mine.0
            (ap (is_lock_free app) (sym (eqb-true one.1.listed.resource r parts.0))
            ∙ sound.read_alone one.1 (one.0, one.2) parts.1)
      ]
  keepers_apart p q differ (Guarded (section.Free n)) kept other = cc (kept)
  keepers_apart p q differ (Guarded (section.Ready n)) kept other = cc (kept)
  keepers_apart p q differ (Guarded section.Timer) kept other = cc (kept)
  keepers_apart p q differ (Own n) kept other =
      elim (or_cases (is_kept app (AtPriority q) (Own n)) (is_constant app (AtPriority q) (Own n)) other) [
        | inl keeps ↦
            let a = at_threshold (owns n) p kept in
            let b = at_threshold (owns n) q keeps in
            let same : a.index ≡ b.index =
            sound.owners n a.index b.index a.member b.member a.there b.there a.passes b.passes in
            let one : a.member ≡ b.member = same_Some a.member b.member (sym a.there ∙ ap (slice_get (members app)) same
            ∙ b.there) in
            differ (sym a.priority ∙ ap (λ (m : Member). m.priority) one ∙ b.priority)
        | inr reads ↦ cc (reads)
      ]

  resource_of : (m : Member) (i r : ℕ) → slice_get (members app) i ≡ Some m → lists r m ≡ true → r < length app.shared
  resource_of m i r at is =
      let one = any_one (λ l. l.resource == r) m.body.shared is in
      subst (λ n. n < length app.shared) (eqb-true one.1.resource r one.3)
      (all_at _ m.body.shared one.0 one.1 (all_at _ (members app) i m placed at).shared one.2)

  pub local_held : (m : Member) (i n : ℕ) → slice_get (members app) i ≡ Some m → owns n m ≡ true → n < length app.locals
  local_held m i n at is =
      let one = any_one (λ o. o.local == n) m.body.local is in
      subst (λ k. k < length app.locals) (eqb-true one.1.local n one.3)
      (all_at _ m.body.local one.0 one.1 (all_at _ (members app) i m placed at).local one.2)

  -- and what a priority keeps or reads so is there
  pub kept_is_held : (p : ℕ) (h : Location) → (is_kept app (AtPriority p) h || is_constant app (AtPriority p) h) ≡ true
      → IsHeld app h
  kept_is_held p (Guarded (section.Res r)) is =
      elim (or_cases (is_kept app (AtPriority p) (Guarded (section.Res r)))
      (is_constant app (AtPriority p) (Guarded (section.Res r))) is) [
        | inl keeps ↦
            let at = at_threshold (lists r) p (and_parts (is_lock_free app r) (is_some_at app (lists r) p) keeps).1 in
            resource_of at.member at.index r at.there at.passes
        | inr reads ↦
            let at = at_threshold (lists r) p (and_parts (is_read_alone app r) (is_some_at app (lists r) p) reads).1 in
            resource_of at.member at.index r at.there at.passes
      ]
  kept_is_held p (Guarded (section.Free n)) is = absurd (cc (is))
  kept_is_held p (Guarded (section.Ready n)) is = absurd (cc (is))
  kept_is_held p (Guarded section.Timer) is = absurd (cc (is))
  kept_is_held p (Own n) is = elim (or_cases (is_kept app (AtPriority p) (Own n))
      (is_constant app (AtPriority p) (Own n)) is) [
        | inl keeps ↦
            let at = at_threshold (owns n) p keeps in
            local_held at.member at.index n at.there at.passes
        | inr reads ↦ absurd (cc (reads))
      ]
