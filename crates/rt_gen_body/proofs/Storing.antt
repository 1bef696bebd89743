-- What a body of an application may do.
use Rattle.rt_gen_queue.proofs.Vocabulary.{App, AtPriority, Bool, Contains, Guarded, OpenSection, IsAccepted}
use Rattle.rt_gen_queue.proofs.Vocabulary.{IsChangeable}
use Rattle.rt_gen_queue.proofs.Vocabulary.{IsIn}
use Rattle.rt_gen_queue.proofs.Vocabulary.{IsSound, List, Member, None, Option, Own, Runner, Some, Starting, []}
use Rattle.rt_gen_queue.proofs.Vocabulary.{and_both, and_left, any_passes, ap, arith, eq-eqb, eqb-true, false}
use Rattle.rt_gen_queue.proofs.Vocabulary.{false_from_ne_true, find, flat_map, get_or-map-range_with_len, guard_of}
use Rattle.rt_gen_queue.proofs.Vocabulary.{if◌then◌else◌, inl, inr, is_constant, is_kept, is_open, is_some_and, length}
use Rattle.rt_gen_queue.proofs.Vocabulary.{list_any, lt-ltb, map, members, not, or_left, or_right}
use Rattle.rt_gen_queue.proofs.Vocabulary.{owns, reads, refl, storage, sym, true, ℕ}
use Rattle.rt_gen_queue.proofs.Vocabulary.{◌&&◌, ◌<◌, ◌==◌, ◌||◌, ◌∙◌, ◌∷◌, ◌≡◌, ◌⊎◌}
use Rattle.std.proofs.lemmas.List.Folds.{list_any-append}
use Rattle.rt_lemmas.proofs.Bools.{and_parts, or_assoc, or_cases}
use Rattle.rt_lemmas.proofs.Membership.{any_contained, any_one}
use Rattle.rt_ids.proofs.Lists.{list_any-map}
use Rattle.rt_ids.specs.declared.ids.Section.TheVariants as section
use Rattle.rt_app.specs.{Ceiling.lists, Declarations.owns as owns_local, Holding.is_some_at, Sound.IsReached}
use Rattle.rt_app.specs.declared.body.Listed.{Listed}
use Rattle.rt_app.specs.Listing.{Listing, is_lock_free, is_read_alone, listings, listings_of}
use Rattle.rt_app.specs.Statements.{is_free, is_init, is_lockable, listing_in}
use Rattle.rt_app.specs.declared.expr.Atom.TheVariants as atom
use Rattle.rt_gen_body.proofs.{Owning.OpenAre, Owning.open_as, Scopes.Facts}
use Rattle.rt_gen_body.specs.{BlockCode.guard_at, ValueCode.Context, BodyCode.context_of}

pub guard_is : (app : App) (m : Member) (r : ℕ) → r < length app.shared → guard_at (context_of app m) r
    ≡ guard_of app (section.Res r)
guard_is app m r within =
    get_or-map-range_with_len (λ k. guard_of app (section.Res k)) 0 (length app.shared) r r
    (record { ceiling = 0; value = 0 }) within (omega arith)

-- where the first that passes a test passes another too, one passes both
any_found : {X : Type 0} (test also : X → Bool) (xs : List X) → is_some_and also (find test xs) ≡ true
    → list_any (λ x. test x && also x) xs ≡ true
any_found test also [] is = absurd cc
any_found test also (x ∷ xs) is = by (test x) (any_found test also xs) is
  where
    by : (b : Bool) → (is_some_and also (find test xs) ≡ true → list_any (λ x. test x && also x) xs ≡ true)
        → is_some_and also (if b then Some x else find test xs) ≡ true
        → ((b && also x) || list_any (λ x. test x && also x) xs) ≡ true
    by true others found = or_left (also x) _ found
    by false others found = others found

any_flat : {X Y : Type 0} (test : Y → Bool) (f : X → List Y) (xs : List X)
    → list_any test (flat_map f xs) ≡ list_any (λ x. list_any test (f x)) xs
any_flat test f [] = refl
any_flat test f (x ∷ xs) =
    list_any-append test (f x) (flat_map f xs) ∙ ap (λ b. list_any test (f x) || b) (any_flat test f xs)

-- a listing that is reached without a lock is to be read alone, or its resource is `lock_free`
ref_or : (b : Bool) (o : Option Listed) → is_some_and (λ l. l.by_ref || b) o ≡ true
    → (is_some_and (λ l. l.by_ref) o ≡ true) ⊎ (b ≡ true)
ref_or b None is = absurd cc
ref_or b (Some l) is = or_cases l.by_ref b is

exclusive : (here ref free : Bool) → (here && (not ref && not free)) ≡ true
    → (here ≡ true) × ((ref ≡ false) × (free ≡ false))
exclusive true false false is = (refl, (refl, refl))
exclusive here ref free is = absurd cc

module _ (app : App) (m : Member) where
  -- a resource that it reaches: its section is open, or it needs none
  open_or : (held : List OpenSection) (locked : List ℕ) (r : ℕ) → OpenAre held locked
      → (is_init m.id ≡ true) ⊎ ((is_free app m r ≡ true) ⊎ ((is_lockable app m r ≡ true) × Contains locked r))
      → (is_open held (section.Res r) ≡ true) ⊎ ((is_init m.id ≡ true) ⊎ (is_free app m r ≡ true))
  open_or held locked r are (inl starts) = inr (inl starts)
  open_or held locked r are (inr (inl free)) = inr (inr free)
  open_or held locked r are (inr (inr lock)) =
      inl (open_as held locked (section.Res r) are ∙ any_contained r locked lock.1)

-- what it may read and change
module _ {app : App} {who : Runner} {m : Member} {c : Context} (facts : Facts app who m c) where
  pub resource_read : (held : List OpenSection) (locked : List ℕ) (r : ℕ) → OpenAre held locked
      → IsReached app m locked (atom.Shared r) → reads (storage app) who held (Guarded (section.Res r)) ≡ true
  unfolding storage
  resource_read held locked r are reached =
      elim (open_or app m held locked r are reached.1) [
        | inl inside ↦ or_left _ _ (or_left _ _ inside)
        | inr other ↦ or_assoc (is_open held (section.Res r)) _ _ ∙ or_right _ _ (facts.free r reached.0 other)
      ]

  pub resource_owned : (held : List OpenSection) (locked fixed : List ℕ) (r : ℕ) → OpenAre held locked
      → IsReached app m locked (atom.Shared r) → IsChangeable app m fixed (atom.Shared r)
      → owns (storage app) who held (Guarded (section.Res r)) ≡ true
  unfolding storage
  resource_owned held locked fixed r are reached changes =
      elim (open_or app m held locked r are reached.1) [
        | inl inside ↦ or_left _ _ inside
        | inr other ↦ or_right (is_open held (section.Res r)) _ (facts.change r reached.0 other changes)
      ]

  pub local_owned : (held : List OpenSection) (locked : List ℕ) (n : ℕ) → IsReached app m locked (atom.Local n)
      → owns (storage app) who held (Own n) ≡ true
  unfolding storage
  local_owned held locked n reached =
      facts.own n (sym (list_any-map (λ o. o.local) (λ y. y == n) m.body.local)
      ∙ any_contained n (map (λ o. o.local) m.body.local) reached.1)

module _ (app : App) (m : Member) (member : IsIn (members app) m) where
  -- a body of its priority that passes
  some_at : (test : Member → Bool) → is_init m.id ≡ false → test m ≡ true → is_some_at app test m.priority ≡ true
  some_at test no_start passes =
      any_passes (λ n. not (is_init n.id) && ((n.priority == m.priority) && test n)) (members app) member.0 m member.1
      (rw (no_start, eq-eqb m.priority m.priority refl, passes) refl)

  -- what it lists, with what more is known of its first listing
  listed_any : (r : ℕ) (also : Listed → Bool) → is_some_and also (listing_in m r) ≡ true
      → list_any (λ l. (l.listed.resource == r) && also l.listed) (listings app) ≡ true
  listed_any r also is =
      let test : Listing → Bool = λ l. (l.listed.resource == r) && also l.listed in
      any_flat test listings_of (members app)
      ∙ any_passes (λ m. list_any test (listings_of m)) (members app) member.0 m member.1
      (list_any-map (λ l. record { listed = l; priority = m.priority }) test m.body.shared
      ∙ any_found (λ l. l.resource == r) also m.body.shared is)

  -- and it is listed at the body's priority
  listed_here : (r : ℕ) (also : Listed → Bool) → is_init m.id ≡ false → is_some_and also (listing_in m r) ≡ true
      → is_some_at app (lists r) m.priority ≡ true
  listed_here r also no_start is =
      let one = any_one _ m.body.shared (any_found (λ l. l.resource == r) also m.body.shared is) in
      some_at (lists r) no_start
      (any_passes (λ l. l.resource == r) m.body.shared one.0 one.1 one.2
      (and_left (one.1.resource == r) (also one.1) one.3))

  kept_free : (r : ℕ) (also : Listed → Bool) → is_init m.id ≡ false → is_some_and also (listing_in m r) ≡ true
      → is_lock_free app r ≡ true → is_kept app (AtPriority m.priority) (Guarded (section.Res r)) ≡ true
  kept_free r also no_start is free = and_both (is_lock_free app r) _ free (listed_here r also no_start is)

  -- without a lock it reaches what it lists to be read alone, and what it keeps
  reached_free : (r : ℕ) → is_init m.id ≡ false → (is_init m.id ≡ true) ⊎ (is_free app m r ≡ true)
      → (is_some_and (λ l. l.by_ref) (listing_in m r) ≡ true)
      ⊎ (is_kept app (AtPriority m.priority) (Guarded (section.Res r)) ≡ true)
  reached_free r no_start (inl starts) = absurd cc
  reached_free r no_start (inr free) =
      elim (ref_or (is_lock_free app r) (listing_in m r) free) [
        | inl ref ↦ inl ref
        | inr lock_free ↦ inr (kept_free r (λ l. l.by_ref || is_lock_free app r) no_start free lock_free)
      ]

module _ (app : App) (accepted : IsAccepted app) (sound : IsSound app) (m : Member)
    (member : IsIn (members app) m) where
  -- a resource that it locks is kept by nobody, and read by nobody without its section
  nobody : (r : ℕ) → is_lockable app m r ≡ true → (q : ℕ)
      → (is_kept app (AtPriority q) (Guarded (section.Res r)) ≡ false)
      × (is_constant app (AtPriority q) (Guarded (section.Res r)) ≡ false)
  nobody r lockable q =
      let one = any_one _ (listings app)
      (listed_any app m member r (λ l. not l.by_ref && not (is_lock_free app r)) lockable) in
      let is = exclusive (one.1.listed.resource == r) one.1.listed.by_ref (is_lock_free app r) one.3 in (
        ap (λ b. b && is_some_at app (lists r) q) is.1.1,
        false_from_ne_true _ (λ constant.
            let other = any_one (λ k. (k.listed.resource == r) && k.listed.by_ref) (listings app)
            (and_parts (is_read_alone app r) (is_some_at app (lists r) q) constant).0 in
            let ref = and_parts (other.1.listed.resource == r) other.1.listed.by_ref other.3 in
            let alike = sound.alike one.1 other.1 (one.0, one.2) (other.0, other.2)
            (eqb-true one.1.listed.resource r is.0 ∙ sym (eqb-true other.1.listed.resource r ref.0)) in
            cc (alike, is.1.0, ref.1)),
      )

  -- what it may do: `init`, and what runs at a priority
  pub facts_for : (starts : Bool) → is_init m.id ≡ starts
      → Facts app (if starts then Starting else AtPriority m.priority) m (context_of app m)
  unfolding storage
  facts_for true starts = record {
    accepted = accepted;
    is = refl;
    own = λ n owns.
        any_passes (λ o. is_init o.id && owns_local n o) (members app) member.0 m member.1
        (and_both (is_init m.id) _ starts owns);
    free = λ r within other. or_left _ _ (lt-ltb r (length app.shared) within);
    change = λ r within other changes. lt-ltb r (length app.shared) within;
    shared = λ locked r lock. absurd (let never = lock.no_init in cc);
    enters = λ x less. tt;
  }
  facts_for false no_start = record {
    accepted = accepted;
    is = refl;
    own = λ n owns. some_at app m member (owns_local n) no_start owns;
    free = λ r within other. elim (reached_free app m member r no_start other) [
      | inl ref ↦ or_right (is_kept app (AtPriority m.priority) (Guarded (section.Res r))) _
          (and_both (is_read_alone app r) _ (listed_any app m member r (λ l. l.by_ref) ref)
          (listed_here app m member r (λ l. l.by_ref) no_start ref))
      | inr kept ↦ or_left _ _ kept
    ];
    change = λ r within other changes. elim (reached_free app m member r no_start other) [
      | inl ref ↦ elim changes [ inl starts ↦ cc (starts, no_start) | inr writable ↦ cc (ref, writable) ]
      | inr kept ↦ kept
    ];
    shared = λ locked r lock. nobody r lock.lockable;
    enters = λ x less. less;
  }
