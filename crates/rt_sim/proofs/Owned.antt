-- What a body may change it owns: the resources of its locks, those that it reaches without one, and its local ones;
-- and the queues that it sends messages to are there.
use Rattle.std.proofs.Common.{◌≡◌, ℕ, zero, suc, ◌^◌, ◌<◌, ◌≤◌, ◌==◌, ◌&&◌, ◌||◌, inl, inr, not, Bool, true, false}
use Rattle.std.proofs.Common.{if◌then◌else◌, List, [], ◌∷◌, ◌++◌, length, map, find, slice_get, Some, Contains, refl}
use Rattle.std.proofs.Common.{ap}
use Rattle.std.proofs.Common.{sym, ◌∙◌, arith, eq-eqb}
use Rattle.std.specs.List.{list_any}
use Rattle.std.proofs.Math.Pow.{pow_mono}
use Rattle.std.proofs.lemmas.Bool.{lt-ltb, eqb-true}
use Rattle.std.proofs.lemmas.Option.{none-some}
use Rattle.rt_lemmas.proofs.Bools.{or_left, or_right, and_both, true_and_false}
use Rattle.rt_lemmas.proofs.Membership.{all_at, any_contained, contained_any, any_passes, any_left, any_right}
use Rattle.rt_ids.specs.Choice.{IsIn}
use Rattle.rt_actions.specs.Location.{Guarded, Own, is_same_section}
use Rattle.rt_ids.specs.Lists.{is_some_and, those_below}
use Rattle.rt_actions.specs.Storage.{Starting, AtPriority}
use Rattle.rt_ids.specs.declared.ids.Section.{Section}
use Rattle.rt_ids.specs.declared.ids.Section.TheVariants as section
use Rattle.rt_ids.proofs.Lists.{list_any-map}
use Rattle.rt_app.specs.declared.body.Listed.{Listed}
use Rattle.rt_app.specs.declared.costs.TheConstants.{PRIORITIES}
use Rattle.rt_app.specs.declared.expr.Atom.TheVariants as atom
use Rattle.rt_app.specs.Tree.{Task, App}
use Rattle.rt_app.specs.Accepted.{IsAccepted}
use Rattle.rt_app.specs.Bodies.{Member, members}
use Rattle.rt_app.specs.Ceiling.{lists}
use Rattle.rt_app.specs.Declarations.{owns}
use Rattle.rt_app.specs.Holding.{is_some_at, is_kept}
use Rattle.rt_app.specs.Level.{is_software, is_of_level, levels}
use Rattle.rt_app.specs.Listing.{is_lock_free}
use Rattle.rt_app.specs.Sound.{IsReached, IsChangeable}
use Rattle.rt_app.specs.Statements.{is_init, listing_in, is_free}
use Rattle.rt_app.proofs.Parts.{parts}
use Rattle.rt_app.proofs.SoundCeilings.{tasks_in_range}
use Rattle.rt_app.proofs.Unbroken.{is_one_that}
use Rattle.rt_sim.specs.Inside.Ownership.{owns_in}

-- the sections of locks of these resources
abbrev pub sections_locked : List ℕ → List Section
sections_locked locked = map section.Res locked

-- a number that passes is among those below
those_has : (test : ℕ → Bool) (n p : ℕ) → p < n → test p ≡ true → list_any (λ q. q == p) (those_below test n) ≡ true
unfolding those_below
those_has test zero p below passes = absurd (omega (arith, below))
those_has test (suc n) p below passes = by (p == n) refl (λ less. those_has test n p less passes)
  where
    less : ¬ (p ≡ n) → p < n
    less differ = omega (arith, below, differ)

    by : (b : Bool) → (p == n) ≡ b → (p < n → list_any (λ q. q == p) (those_below test n) ≡ true)
        → list_any (λ q. q == p) (those_below test n ++ (if test n then n ∷ [] else [])) ≡ true
    by true same rest = any_right (λ q. q == p) (those_below test n) (if test n then n ∷ [] else [])
        (ap (λ b. list_any (λ q. q == p) (if b then n ∷ [] else []))
        (ap test (sym (eqb-true p n same)) ∙ passes)
        ∙ or_left (n == p) false (eq-eqb n p (sym (eqb-true p n same))))
    by false other rest = any_left (λ q. q == p) (those_below test n) (if test n then n ∷ [] else [])
        (rest (less (λ e. true_and_false (p == n) (eq-eqb p n e) other)))

module _ (app : App) (accepted : IsAccepted app) where
  -- the level of a software task has a dispatcher
  pub level_there : (n : ℕ) (t : Task) → slice_get app.tasks n ≡ Some t → is_software t ≡ true
      → Contains (levels app) t.priority
  level_there n t there software =
      let most : t.priority ≤ 2 ^ app.bits =
      (all_at _ app.tasks n t (tasks_in_range app accepted (parts app accepted.rules)) there).1 in
      let small : 2 ^ app.bits ≤ 2 ^ 7 = pow_mono accepted.limits.most_bits in
      contained_any t.priority (levels app)
      (those_has (λ p. list_any (is_of_level p) app.tasks) PRIORITIES t.priority (omega (arith, most, small))
      (any_passes (is_of_level t.priority) app.tasks n t there
      (and_both (is_software t) (t.priority == t.priority) software (eq-eqb t.priority t.priority refl))))

module _ (app : App) (m : Member) (member : IsIn (members app) m) where
  -- inside a lock of a resource the body owns it
  locked_open : (locked : List ℕ) (r : ℕ) → Contains locked r
      → list_any (λ y. is_same_section y (section.Res r)) (sections_locked locked) ≡ true
  locked_open locked r here = list_any-map section.Res (λ y. is_same_section y (section.Res r)) locked
      ∙ any_contained r locked here

  -- it owns the local resources that it lists
  owns_listed : (n : ℕ) → Contains (map (λ o. o.local) m.body.local) n → owns n m ≡ true
  owns_listed n listed = sym (list_any-map (λ o. o.local) (λ y. y == n) m.body.local)
      ∙ any_contained n (map (λ o. o.local) m.body.local) listed

  -- some body that runs at a priority passes
  some_at : (test : Member → Bool) → is_init m.id ≡ false → test m ≡ true → is_some_at app test m.priority ≡ true
  some_at test no_start passes =
      any_passes (λ n. not (is_init n.id) && ((n.priority == m.priority) && test n)) (members app) member.0 m member.1
      (and_both (not (is_init m.id)) _ (ap not no_start)
      (and_both (m.priority == m.priority) (test m) (eq-eqb m.priority m.priority refl) passes))

  -- a listing that is found is a listing of the resource
  found_lists : (r : ℕ) (ls : List Listed) (l : Listed) → find (λ l. l.resource == r) ls ≡ Some l
      → list_any (λ l. l.resource == r) ls ≡ true
  found_lists r [] l is = absurd (none-some l is)
  found_lists r (k ∷ ls) l is = by (k.resource == r) is (found_lists r ls l)
    where
      by : (b : Bool) → (if b then Some k else find (λ l. l.resource == r) ls) ≡ Some l
          → (find (λ l. l.resource == r) ls ≡ Some l → list_any (λ l. l.resource == r) ls ≡ true)
          → (b || list_any (λ l. l.resource == r) ls) ≡ true
      by true is more = refl
      by false is more = more is

  -- what it reaches without a lock, and may change, its priority keeps
  keeps_free : (r : ℕ) → is_init m.id ≡ false → is_free app m r ≡ true
      → is_some_and (λ l. l.by_ref) (listing_in m r) ≡ false
      → is_kept app (AtPriority m.priority) (Guarded (section.Res r)) ≡ true
  keeps_free r no_start free writable =
      let one = is_one_that (λ l. l.by_ref || is_lock_free app r) (listing_in m r) free in
      let l : Listed = one.0 in
      let no_ref : l.by_ref ≡ false = sym (ap (λ o. is_some_and (λ l. l.by_ref) o) one.1) ∙ writable in
      let lock_free : is_lock_free app r ≡ true = sym (ap (λ b. b || is_lock_free app r) no_ref) ∙ one.2 in
      and_both (is_lock_free app r) _ lock_free (some_at (lists r) no_start (found_lists r m.body.shared l one.1))

  module _ (handles : Bool) where
    pub priority_owns_resource : is_init m.id ≡ false → (locked fixed : List ℕ) (r : ℕ)
        → IsReached app m locked (atom.Shared r) → IsChangeable app m fixed (atom.Shared r)
        → owns_in app (AtPriority m.priority) handles (sections_locked locked) (Guarded (section.Res r)) ≡ true
    priority_owns_resource no_start locked fixed r reached changes = elim reached.1 [
      | inl starts ↦ absurd (true_and_false (is_init m.id) starts no_start)
      | inr other ↦ elim other [
        | inl free ↦ or_right (list_any (λ y. is_same_section y (section.Res r)) (sections_locked locked)) _
            (keeps_free r no_start free (elim changes [
              | inl starts ↦ absurd (true_and_false (is_init m.id) starts no_start)
              | inr writable ↦ writable
            ]))
        | inr lockable ↦ or_left _ (is_kept app (AtPriority m.priority) (Guarded (section.Res r)))
            (locked_open locked r lockable.1)
      ]
    ]

    pub priority_owns_local : is_init m.id ≡ false → (locked : List ℕ) (n : ℕ) → IsReached app m locked (atom.Local n)
        → owns_in app (AtPriority m.priority) handles (sections_locked locked) (Own n) ≡ true
    priority_owns_local no_start locked n reached = some_at (owns n) no_start (owns_listed n reached.1)

    pub start_owns_resource : (locked fixed : List ℕ) (r : ℕ)
        → IsReached app m locked (atom.Shared r) → IsChangeable app m fixed (atom.Shared r)
        → owns_in app Starting handles (sections_locked locked) (Guarded (section.Res r)) ≡ true
    start_owns_resource locked fixed r reached changes =
        or_right (list_any (λ y. is_same_section y (section.Res r)) (sections_locked locked)) _
        (lt-ltb r (length app.shared) reached.0)

    pub start_owns_local : is_init m.id ≡ true → (locked : List ℕ) (n : ℕ) → IsReached app m locked (atom.Local n)
        → owns_in app Starting handles (sections_locked locked) (Own n) ≡ true
    start_owns_local starts locked n reached =
        any_passes (λ o. is_init o.id && owns n o) (members app) member.0 m member.1
        (and_both (is_init m.id) (owns n m) starts (owns_listed n reached.1))
