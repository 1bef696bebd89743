-- No two started jobs own one cell: what an observer says that a job owns or may read, it owns or may read by the
-- coupling of both machines, in which jobs are apart.
use Rattle.std.proofs.Common.{◌≡◌, ℕ, zero, suc, ◌+◌, ◌<◌, ◌≤◌, ◌⊎◌, inl, inr, true, List, [], ◌∷◌}
use Rattle.std.proofs.Common.{length, map, drop, refl, sym, ap, subst, ◌∙◌, arith}
use Rattle.std.specs.List.{AllByRecursion}
use Rattle.std.proofs.lemmas.Bool.{cases_lt}
use Rattle.std.proofs.lemmas.Option.{none-some, same_Some}
use Rattle.rt_lemmas.proofs.Bools.{and_both, or_left, or_right, true_and_false}
use Rattle.rt_ids.specs.Choice.{IsIn}
use Rattle.rt_actions.specs.Entry.{Entry, count}
use Rattle.rt_actions.specs.Location.{Location, Guarded, Own, is_same_section}
use Rattle.rt_actions.specs.Storage.{AtPriority, Home, At, In, Nowhere}
use Rattle.rt_ids.specs.declared.ids.Section.{Section}
use Rattle.rt_ids.specs.declared.ids.Section.TheVariants as section
use Rattle.rt_app.specs.Tree.{App}
use Rattle.rt_app.specs.Ceiling.{lists}
use Rattle.rt_app.specs.Declarations.{owns as owns_local}
use Rattle.rt_app.specs.Holding.{storage, is_kept, is_constant, is_some_at}
use Rattle.rt_app.specs.Listing.{is_lock_free, is_read_alone}
use Rattle.rt_code.specs.Image.{Image}
use Rattle.rt_code.specs.Owning.{SectionKind, Marked, Raised, Masked, OpenSection, owns, is_open}
use Rattle.rt_code.proofs.Mine.{owns_reads, same_section}
use Rattle.rt_laws.specs.State.{Role, Init, Idle, Waiting, Serving}
use Rattle.rt_laws.specs.Observer.{Seen, IsInside}
use Rattle.rt_laws.proofs.Well.{StackWell}
use Rattle.rt_sim.specs.Guarded.{IsInit, IsListedAtPriority, MayChange}
use Rattle.rt_sim.specs.Owned.{OwnsLocal, OwnsLocation, ReadsLocation, HasPlace, OwnsToLoad, OwnsToStore}
use Rattle.rt_sim.specs.Owned.{NoneIsShared}
use Rattle.rt_sim.specs.Whereabouts.{Whereabouts, IsOnce}
use Rattle.rt_sim.specs.Inside.Coupling.{Part, Coupling, runner_of, sections_of, job_of, whereabouts_of}
use Rattle.rt_sim.specs.Inside.Counts.{hands}
use Rattle.rt_sim.specs.Inside.Chains.{is_init, mask_by, mask_inside}
use Rattle.rt_sim.specs.Inside.PartInvariant.{who, Owns, PartReads, OwnedIsUnread, AreApart}
use Rattle.rt_sim.specs.Inside.CouplingInvariant.{IsOn, IsStacked, CouplingInvariant}
use Rattle.rt_sim.specs.Inside.States.{state_of}
use Rattle.rt_sim.proofs.OwnedAccess.{not_init_seen}

-- a section that stands among the sections is open
in_open : (held : List OpenSection) (x : Section) → IsIn (sections_of held) x → is_open held x ≡ true
in_open [] x (i, at) = absurd (none-some x at)
in_open (h ∷ held) x (zero, at) =
    or_left (is_same_section h.section x) (is_open held x)
    (subst (λ y. is_same_section h.section y ≡ true) (same_Some h.section x at) (same_section h.section))
in_open (h ∷ held) x (suc i, at) = or_right (is_same_section h.section x) (is_open held x) (in_open held x (i, at))

-- PRIMASK that is set stays so inside sections
mask_stays : (app : App) (held : List OpenSection) → mask_inside app held true ≡ true
mask_stays app [] = refl
mask_stays app (h ∷ held) = ap (mask_by h.kind) (mask_stays app held) ∙ by h.kind
  where
    by : (kind : SectionKind) → mask_by kind true ≡ true
    by Marked = refl
    by (Raised slot) = refl
    by (Masked slot) = refl

runner_is : (role : Role) (p : ℕ) → ¬ (role ≡ Init) → runner_of role p ≡ AtPriority p
runner_is Init p other = absurd (other refl)
runner_is Idle p other = refl
runner_is Waiting p other = refl
runner_is (Serving irq) p other = refl

running_hands : List (List Entry) → List Entry
running_hands [] = []
running_hands (mine ∷ others) = mine

-- the place that is seen in a job's hands is there
has_place : (w : Whereabouts) (places : List Entry) (others : List (List Entry)) (e : Entry)
    → w.in_hands ≡ places ∷ others → HasPlace w e → 0 < count e places
unfolding running_hands
has_place w places others e hands has =
    subst (λ es. 0 < count e es) (sym (ap running_hands has.2) ∙ ap running_hands hands) has.3

module _ (app : App) (img : Image) (thread : ℕ) where
  serves_no_init : (p q : Part) (ps : List Part) → IsOn app img thread p q ps → ¬ (p.role ≡ Init)
  serves_no_init p q ps on is = let one : Serving on.irq ≡ Init = sym on.serves ∙ is in cc (one)

  -- below a handler there is no `init`, which masks all
  none_under : (p q : Part) (ps : List Part) → IsOn app img thread p q ps → IsStacked app img thread q ps
      → ¬ (q.role ≡ Init)
  none_under p q [] on stack is =
      true_and_false (mask_inside app q.held (is_init q.role))
      (subst (λ role. mask_inside app q.held (is_init role) ≡ true) (sym is) (mask_stays app q.held)) on.unmasked
  none_under p q (r ∷ rs) on stack is = serves_no_init q r rs stack.0 is

  -- a started job and those below it, as they are seen, with what they have in their hands
  record Spot (vs : List Seen) (hs : List (List Entry)) : Type 0 where
    part : Part
    below : List Part
    well : StackWell app (job_of part ∷ map job_of below) vs
    stack : IsStacked app img thread part below
    hands_are : hs ≡ part.places ∷ map (λ p. p.places) below
    no_init : ¬ (part.role ≡ Init)

  module _ (vs : List Seen) (hs : List (List Entry)) (s : Spot vs hs) where
    runner : who s.part ≡ AtPriority s.part.priority
    runner = runner_is s.part.role s.part.priority s.no_init

    not_seen : IsInit app vs → ⊥
    not_seen = not_init_seen app img thread s.part s.below vs s.well s.stack s.part.priority runner

    opened : (x : Section) → IsInside vs x → is_open s.part.held x ≡ true
    opened x inside = by vs s.well inside
      where
        by : (seens : List Seen) → StackWell app (job_of s.part ∷ map job_of s.below) seens → IsInside seens x
            → is_open s.part.held x ≡ true
        by [] well inside = absurd inside
        by (seen ∷ seens) well inside =
            in_open s.part.held x (subst (λ xs. IsIn xs x) well.0.inside inside)

    -- what is listed at the priority that is seen
    listed : (r : ℕ) → IsListedAtPriority app vs r → is_some_at app (lists r) s.part.priority ≡ true
    listed r is = by vs s.well is
      where
        by : (seens : List Seen) → StackWell app (job_of s.part ∷ map job_of s.below) seens
            → IsListedAtPriority app seens r → is_some_at app (lists r) s.part.priority ≡ true
        by [] well is = absurd is
        by (seen ∷ seens) well is = subst (λ q. is_some_at app (lists r) q ≡ true) well.0.priority is

    local_listed : (n : ℕ) → OwnsLocal app vs n → is_some_at app (owns_local n) s.part.priority ≡ true
    local_listed n is = by vs s.well not_seen is
      where
        by : (seens : List Seen) → StackWell app (job_of s.part ∷ map job_of s.below) seens
            → (IsInit app seens → ⊥) → OwnsLocal app seens n
            → is_some_at app (owns_local n) s.part.priority ≡ true
        by [] well none is = absurd is
        by (seen ∷ seens) well none is = elim is [
          | inl starts ↦ absurd (none starts.0)
          | inr lists ↦ subst (λ q. is_some_at app (owns_local n) q ≡ true) well.0.priority lists.1
        ]

    changes : (r : ℕ) → MayChange app vs r → Owns app img thread s.part (Guarded (section.Res r)) ≡ true
    unfolding storage
    changes r (inl inside) = or_left (is_open s.part.held (section.Res r)) _ (opened (section.Res r) inside)
    changes r (inr (inl starts)) = absurd (not_seen starts)
    changes r (inr (inr free)) = or_right (is_open s.part.held (section.Res r)) _
        (ap (λ w. is_kept app w (Guarded (section.Res r))) runner
        ∙ and_both (is_lock_free app r) _ free.0 (listed r free.1))

    owns_back : (h : Location) → OwnsLocation app vs h → Owns app img thread s.part h ≡ true
    unfolding storage
    owns_back (Guarded (section.Res r)) is = changes r is
    owns_back (Guarded (section.Free n)) is = or_left (is_open s.part.held (section.Free n)) _
        (opened (section.Free n) is)
    owns_back (Guarded (section.Ready q)) is = or_left (is_open s.part.held (section.Ready q)) _
        (opened (section.Ready q) is)
    owns_back (Guarded section.Timer) is = or_left (is_open s.part.held section.Timer) _ (opened section.Timer is)
    owns_back (Own n) is = ap (λ w. is_kept app w (Own n)) runner ∙ local_listed n is

    also_reads : (h : Location) → Owns app img thread s.part h ≡ true → PartReads app img thread s.part h ≡ true
    also_reads h is = owns_reads (storage app) (who s.part) s.part.held h is

    reads_back : (h : Location) → ReadsLocation app vs h → PartReads app img thread s.part h ≡ true
    unfolding storage
    reads_back (Guarded (section.Res r)) (inl change) = also_reads (Guarded (section.Res r)) (changes r change)
    reads_back (Guarded (section.Res r)) (inr alone) =
        or_right (owns (storage app) (who s.part) s.part.held (Guarded (section.Res r))) _
        (ap (λ w. is_constant app w (Guarded (section.Res r))) runner
        ∙ and_both (is_read_alone app r) _ alone.0 (listed r alone.1))
    reads_back (Guarded (section.Free n)) is =
        also_reads (Guarded (section.Free n)) (owns_back (Guarded (section.Free n)) is)
    reads_back (Guarded (section.Ready q)) is =
        also_reads (Guarded (section.Ready q)) (owns_back (Guarded (section.Ready q)) is)
    reads_back (Guarded section.Timer) is = also_reads (Guarded section.Timer) (owns_back (Guarded section.Timer) is)
    reads_back (Own n) is = also_reads (Own n) (owns_back (Own n) is)

  -- two started jobs that are apart, and whose places are among so many
  record Pair (vs us : List Seen) (hs gs : List (List Entry)) (all : Entry → ℕ) : Type 0 where
    one : Spot vs hs
    other : Spot us gs
    apart : AreApart app img thread one.part other.part
    counted : (e : Entry) → count e one.part.places + count e other.part.places ≤ all e

  module _ (w : Whereabouts) (all : Entry → ℕ) (once : IsOnce w.in_queues all) where
    in_hand : (vs : List Seen) (hs : List (List Entry)) (s : Spot vs hs) (e : Entry)
        → HasPlace (record w { in_hands = hs }) e → 0 < count e s.part.places
    in_hand vs hs s e has = has_place (record w { in_hands = hs }) s.part.places (map (λ p. p.places) s.below) e
        s.hands_are has

    -- what the one may store to the other may not load
    clash : (vs us : List Seen) (hs gs : List (List Entry)) (a : Spot vs hs) (b : Spot us gs)
        → OwnedIsUnread app img thread a.part b.part
        → ((e : Entry) → count e a.part.places + count e b.part.places ≤ all e) → (home : Home)
        → OwnsToStore app vs (record w { in_hands = hs }) home → OwnsToLoad app us (record w { in_hands = gs }) home → ⊥
    clash vs us hs gs a b unread counted (At h) stores loads =
        unread h (owns_back vs hs a h stores) (reads_back us gs b h loads)
    clash vs us hs gs a b unread counted (In e) stores (inl has) =
        let mine = in_hand vs hs a e stores in
        let theirs = in_hand us gs b e has in
        let free = once.one e (Own 0) in
        omega (arith, mine, theirs, counted e, free)
    clash vs us hs gs a b unread counted (In e) stores (inr queue) =
        let mine = in_hand vs hs a e stores in
        let there = once.one e (Guarded queue.0) in
        omega (arith, mine, queue.2, counted e, there)
    clash vs us hs gs a b unread counted Nowhere stores loads = stores

  -- the job at a place below this one
  record Found (p : Part) (us : List Seen) (gs : List (List Entry)) (all : Entry → ℕ) : Type 0 where
    spot : Spot us gs
    apart : AreApart app img thread p spot.part
    counted : (e : Entry) → count e spot.part.places ≤ all e

  -- where one job has started no other has
  alone : (p : Part) (seen : Seen) (seens : List Seen) (k : ℕ) → StackWell app (job_of p ∷ []) (seen ∷ seens)
      → suc k < length (seen ∷ seens) → ⊥
  alone p seen [] k well few = omega (arith, few)
  alone p seen (other ∷ seens) k well few = well.2

  find_below : (p q : Part) (ps : List Part) (vs : List Seen) → StackWell app (job_of q ∷ map job_of ps) vs
      → IsStacked app img thread q ps → ¬ (q.role ≡ Init) → AllByRecursion (AreApart app img thread p) (q ∷ ps)
      → (j : ℕ) → j < length vs
      → Found p (drop j vs) (drop j (q.places ∷ map (λ p. p.places) ps)) (hands (q ∷ ps))
  find_below p q ps vs well stack no_init apart zero few = record {
    spot = record { part = q; below = ps; well = well; stack = stack; hands_are = refl; no_init = no_init };
    apart = apart.0;
    counted = λ e. omega arith;
  }
  find_below p q ps [] well stack no_init apart (suc k) few = absurd well
  find_below p q [] (seen ∷ seens) well stack no_init apart (suc k) few = absurd (alone q seen seens k well few)
  find_below p q (r ∷ rs) (seen ∷ seens) well stack no_init apart (suc k) few =
      let rest = find_below p r rs seens well.2 stack.1 (none_under q r rs stack.0 stack.1) apart.1 k
      (omega (arith, few)) in
      record { spot = rest.spot; apart = rest.apart; counted = λ e. omega (arith, rest.counted e) }

  pair_of : (p : Part) (ps : List Part) (vs : List Seen) → StackWell app (job_of p ∷ map job_of ps) vs
      → IsStacked app img thread p ps → (i j : ℕ) → i < j → j < length vs
      → Pair (drop i vs) (drop j vs) (drop i (p.places ∷ map (λ p. p.places) ps))
      (drop j (p.places ∷ map (λ p. p.places) ps)) (hands (p ∷ ps))
  pair_of p ps vs well stack i zero less few = absurd (omega (arith, less))
  pair_of p ps [] well stack i (suc k) less few = absurd well
  pair_of p [] (seen ∷ seens) well stack i (suc k) less few = absurd (alone p seen seens k well few)
  pair_of p (q ∷ qs) (seen ∷ seens) well stack zero (suc k) less few =
      let found = find_below p q qs seens well.2 stack.1 (none_under p q qs stack.0 stack.1) stack.0.apart k
      (omega (arith, few)) in
      record {
        one = record {
          part = p;
          below = q ∷ qs;
          well = well;
          stack = stack;
          hands_are = refl;
          no_init = serves_no_init p q qs stack.0;
        };
        other = found.spot;
        apart = found.apart;
        counted = λ e. omega (arith, found.counted e);
      }
  pair_of p (q ∷ qs) (seen ∷ seens) well stack (suc h) (suc k) less few =
      let rest = pair_of q qs seens well.2 stack.1 h k (omega (arith, less)) (omega (arith, few)) in
      record { one = rest.one; other = rest.other; apart = rest.apart; counted = λ e. omega (arith, rest.counted e) }

  pub none_is_shared : (m : Coupling) → CouplingInvariant app img thread m → (vs : List Seen)
      → StackWell app (state_of m).jobs vs → NoneIsShared app vs (whereabouts_of m)
  none_is_shared m invariant vs well i j i_there j_there differ home stores loads =
      elim (total i j differ) [
        | inl less ↦
            (let pair = pair_of m.running m.below vs well invariant.stack i j less j_there in
            clash (whereabouts_of m) (hands (m.running ∷ m.below)) invariant.once (drop i vs) (drop j vs) _ _ pair.one
            pair.other pair.apart.0 pair.counted home stores loads)
        | inr more ↦
            (let pair = pair_of m.running m.below vs well invariant.stack j i more i_there in
            clash (whereabouts_of m) (hands (m.running ∷ m.below)) invariant.once (drop i vs) (drop j vs) _ _ pair.other
            pair.one pair.apart.1 (λ e. omega (arith, pair.counted e)) home stores loads)
      ]
    where
      total : (a b : ℕ) → ¬ (a ≡ b) → (a < b) ⊎ (b < a)
      total a b differ = elim (cases_lt a b) [ inl less ↦ inl less | inr more ↦ inr (omega (arith, differ, more)) ]
