-- A step of the running job changes cells and values of its own alone, and so keeps what holds of the other jobs, and
-- of
-- what no job owns.
use Rattle.std.proofs.Common.{◌≡◌, ◌≢◌, ℕ, zero, suc, ◌+◌, ◌<◌, ◌≤◌, ◌==◌, ◌⊎◌, inl, inr, Bool, true, false, List, []}
use Rattle.std.proofs.Common.{◌∷◌, length}
use Rattle.std.proofs.Common.{slice_index, Option, Some, None, refl, sym, subst, ◌∙◌, arith}
use Rattle.std.specs.List.{AllByRecursion}
use Rattle.std.proofs.lemmas.Bool.{eqb-true, eq-eqb}
use Rattle.rt_lemmas.proofs.Bools.{true_and_false, not_so}
use Rattle.rt_actions.specs.Location.{Location, Guarded, Own}
use Rattle.rt_actions.specs.Content.{Content, Values}
use Rattle.rt_actions.specs.Entry.{Entry, count}
use Rattle.rt_actions.specs.Doing.{Doing, over, does}
use Rattle.rt_actions.specs.Storage.{Runner, Home, At, In, Nowhere}
use Rattle.rt_app.specs.Tree.{App}
use Rattle.rt_app.specs.Holding.{storage}
use Rattle.rt_code.specs.Access.{Access, Loads, Stores}
use Rattle.rt_code.specs.Image.{Image}
use Rattle.rt_code.specs.Owning.{OpenSection, Configuration, owns, MayLoad, MayStore, MayAccess}
use Rattle.rt_code.specs.Standing.{Stands}
use Rattle.rt_code.proofs.Mine.{owns_reads, queued}
use Rattle.rt_code.proofs.Others.{stands_others}
use Rattle.rt_code.proofs.Touching.{index_same}
use Rattle.rt_core.specs.Access.{access}
use Rattle.rt_core.specs.Core.{Core}
use Rattle.rt_core.specs.Stepping.{step}
use Rattle.rt_core.proofs.Storing.{changes_its_cell_alone}
use Rattle.rt_gen_body.proofs.Stored.{stored}
use Rattle.rt_laws.specs.State.{Role, Init, Idle, Waiting, Serving}
use Rattle.rt_sim.specs.Inside.Coupling.{Part, configuration_of}
use Rattle.rt_sim.specs.Inside.Counts.{hands, IsOnce}
use Rattle.rt_sim.specs.Inside.PartInvariant.{who, PartInvariant, StandsBy, AgreesWith, Owns, PartReads, AreApart}
use Rattle.rt_sim.proofs.Counting.{queued_in, fewer_once}

-- a cell is as before, or it belongs to what the job owns, or to a place in its hands
abbrev pub IsLeftOrOwned : App → Runner → List OpenSection → List Entry → List ℕ → List ℕ → ℕ → Type 0
IsLeftOrOwned app runner held places before after cell =
    (slice_index after cell ≡ slice_index before cell)
    ⊎ (((h : Location) × ((storage app).home cell ≡ At h) × (owns (storage app) runner held h ≡ true))
    ⊎ ((e : Entry) × ((storage app).home cell ≡ In e) × (0 < count e places)))

-- a step touches what the job may touch
pub touches_its_own : (app : App) (img : Image) (c : Core) (runner : Runner) (s : Configuration)
    → MayAccess (storage app) runner s (access img c) → (cell : ℕ)
    → IsLeftOrOwned app runner s.held s.places c.processor.cells (step img c).0.processor.cells cell
touches_its_own app img c runner s may cell = by (access img c) refl may
  where
    left : (access img c ≢ Some (Stores cell))
        → IsLeftOrOwned app runner s.held s.places c.processor.cells (step img c).0.processor.cells cell
    left differs = inl (index_same _ _ cell (changes_its_cell_alone img c cell differs))

    of_home : (home : Home) → (storage app).home cell ≡ home → MayStore (storage app) runner s home
        → IsLeftOrOwned app runner s.held s.places c.processor.cells (step img c).0.processor.cells cell
    of_home (At h) is may = inr (inl (h, is, may))
    of_home (In e) is may = inr (inr (e, is, may))
    of_home Nowhere is may = absurd may

    stored_at : (k : ℕ) (same : Bool) → (k == cell) ≡ same → access img c ≡ Some (Stores k)
        → MayStore (storage app) runner s ((storage app).home k)
        → IsLeftOrOwned app runner s.held s.places c.processor.cells (step img c).0.processor.cells cell
    stored_at k true same is may =
        of_home ((storage app).home cell) refl (subst (λ n. MayStore (storage app) runner s ((storage app).home n))
        (eqb-true k cell same) may)
    stored_at k false same is may = left (λ e. let one : Some (Stores k) ≡ Some (Stores cell) = sym is ∙ e in
        let number : k ≡ cell = cc (one) in true_and_false (k == cell) (eq-eqb k cell number) same)

    by : (a : Option Access) → access img c ≡ a → MayAccess (storage app) runner s a
        → IsLeftOrOwned app runner s.held s.places c.processor.cells (step img c).0.processor.cells cell
    by None is may = left (λ e. cc (is, e))
    by (Some (Loads k)) is may = left (λ e. cc (is, e))
    by (Some (Stores k)) is may = stored_at k (k == cell) refl is may

module _ (app : App) (img : Image) (thread : ℕ) where
  -- what holds of a job is kept by whoever leaves what it reads, and the queues that it owns
  pub part_kept : (cells after : List ℕ) (queues others : Location → List Entry) (values later : Values) (q : Part)
      → PartInvariant app img thread cells queues values q → length after ≡ length cells
      → ((cell : ℕ) → MayLoad (storage app) (who q) (configuration_of cells queues q) ((storage app).home cell)
      → slice_index after cell ≡ slice_index cells cell)
      → ((h : Location) → Owns app img thread q h ≡ true → others h ≡ queues h)
      → ((h : Location) → PartReads app img thread q h ≡ true → later h ≡ values h)
      → PartInvariant app img thread after others later q
  part_kept cells after queues others values later q invariant long touched queued same = record {
    stands = stands q.role invariant.stands;
    agrees = agrees q.rest invariant.agrees;
    counted = invariant.counted;
    respects = invariant.respects;
    opened = invariant.opened;
    kinds = invariant.kinds;
    once = invariant.once;
    calls = invariant.calls;
    own = invariant.own;
  }
    where
      left : Stands (storage app) img.code q.rows thread (who q) q.steps (configuration_of cells queues q)
          → Stands (storage app) img.code q.rows thread (who q) q.steps (configuration_of after others q)
      left s = stands_others (storage app) q.rows thread (who q) (stored app) img.code q.steps
          (configuration_of cells queues q) after others
          (record { long = long; touched = touched; queued = queued }) s

      stands : (role : Role) → StandsBy app img thread role cells queues q → StandsBy app img thread role after others q
      stands Init s = left s
      stands Idle s = left s
      stands Waiting s = s
      stands (Serving irq) s = left s

      agrees : (rest : Doing Values) → AgreesWith app img thread (who q) q.held values rest
          → AgreesWith app img thread (who q) q.held later rest
      agrees over a = tt
      agrees (does action made next) a = λ h r. same h r ∙ a h r

  -- cells that a job leaves or owns, and queues and values that it leaves or owns
  abbrev pub ChangesItsOwn : Part → List ℕ → List ℕ → Type 0
  ChangesItsOwn p before after = (cell : ℕ) → IsLeftOrOwned app (who p) p.held p.places before after cell

  abbrev pub QueuesItsOwn : Part → (Location → List Entry) → (Location → List Entry) → Type 0
  QueuesItsOwn p before after = (h : Location) → Owns app img thread p h ≡ false → after h ≡ before h

  abbrev pub ValuesItsOwn : Part → Values → Values → Type 0
  ValuesItsOwn p before after = (h : Location) → Owns app img thread p h ≡ false → after h ≡ before h

  -- no place in the hands of the first is the other's own
  abbrev pub IsClear : (Location → List Entry) → Part → Part → Type 0
  IsClear queues p q = (e : Entry) → 0 < count e p.places → 0 < count e q.places + queued queues e q.held → ⊥

  clear_one : (queues : Location → List Entry) (p q : Part) (more : Entry → ℕ)
      → IsOnce queues (λ e. count e p.places + (count e q.places + more e)) → IsClear queues p q
  clear_one queues p q more once e mine theirs = by (count e q.places) refl
    where
      by : (n : ℕ) → count e q.places ≡ n → ⊥
      by zero none =
          let there = queued_in queues e q.held (omega (arith, theirs, none)) in
          omega (arith, mine, there.1, once.one e (Guarded there.0))
      by (suc n) is = omega (arith, mine, is, once.one e (Own 0))

  pub all_clear : (queues : Location → List Entry) (p : Part) (qs : List Part)
      → IsOnce queues (hands (p ∷ qs)) → AllByRecursion (IsClear queues p) qs
  all_clear queues p [] once = tt
  all_clear queues p (q ∷ qs) once = (
    clear_one queues p q (hands qs) once,
    all_clear queues p qs (fewer_once queues (hands (p ∷ q ∷ qs)) (hands (p ∷ qs)) (λ e. omega arith) once),
  )

  home_reads : (q : Part) (cells : List ℕ) (queues : Location → List Entry) (cell : ℕ) (h : Location)
      → (storage app).home cell ≡ At h
      → MayLoad (storage app) (who q) (configuration_of cells queues q) ((storage app).home cell)
      → PartReads app img thread q h ≡ true
  home_reads q cells queues cell h is may =
      subst (λ home. MayLoad (storage app) (who q) (configuration_of cells queues q) home) is may

  home_mine : (q : Part) (cells : List ℕ) (queues : Location → List Entry) (cell : ℕ) (e : Entry)
      → (storage app).home cell ≡ In e
      → MayLoad (storage app) (who q) (configuration_of cells queues q) ((storage app).home cell)
      → 0 < count e q.places + queued queues e q.held
  home_mine q cells queues cell e is may =
      subst (λ home. MayLoad (storage app) (who q) (configuration_of cells queues q) home) is may

  others_kept_one : (p r : Part) (cells after : List ℕ) (queues others : Location → List Entry) (values later : Values)
      (q : Part)
      → AreApart app img thread p q → AreApart app img thread r q → IsClear queues p q → length after ≡ length cells
      → ChangesItsOwn p cells after → QueuesItsOwn p queues others → ValuesItsOwn r values later
      → PartInvariant app img thread cells queues values q → PartInvariant app img thread after others later q
  others_kept_one p r cells after queues others values later q apart other clear long changes moved kept invariant =
      part_kept cells after queues others values later q invariant long
      (λ cell may. elim (changes cell) [
        | inl same ↦ same
        | inr its ↦ elim its [
          | inl owned ↦ absurd (apart.0 owned.0 owned.2 (home_reads q cells queues cell owned.0 owned.1 may))
          | inr held ↦ absurd (clear held.0 held.2 (home_mine q cells queues cell held.0 held.1 may))
        ]
      ])
      (λ h owned. moved h (not_so (Owns app img thread p h) (λ owns. apart.0 h owns
      (owns_reads (storage app) (who q) q.held h owned))))
      (λ h reads. kept h (not_so (Owns app img thread r h) (λ owns. other.0 h owns reads)))

  -- all others are kept by a job that was apart from them with what it had and is with what it has
  pub others_kept : (p r : Part) (cells after : List ℕ) (queues others : Location → List Entry) (values later : Values)
      (qs : List Part)
      → AllByRecursion (AreApart app img thread p) qs → AllByRecursion (AreApart app img thread r) qs
      → AllByRecursion (IsClear queues p) qs
      → length after ≡ length cells → ChangesItsOwn p cells after → QueuesItsOwn p queues others
      → ValuesItsOwn r values later
      → AllByRecursion (PartInvariant app img thread cells queues values) qs
      → AllByRecursion (PartInvariant app img thread after others later) qs
  others_kept p r cells after queues others values later [] apart other clear long changes moved kept holds = tt
  others_kept p r cells after queues others values later (q ∷ qs) apart other clear long changes moved kept holds = (
    others_kept_one p r cells after queues others values later q apart.0 other.0 clear.0 long changes moved kept
        holds.0,
    others_kept p r cells after queues others values later qs apart.1 other.1 clear.1 long changes moved kept
        holds.1,
  )

  -- what a location's cells represent is left by a job that does not own it
  pub representing_left : (p : Part) (cells after : List ℕ) (entries : List Entry) (content : Content) (h : Location)
      → ((e : Entry) → count e entries + count e p.places ≤ 1) → ChangesItsOwn p cells after
      → Owns app img thread p h ≡ false → (storage app).Represents h (slice_index cells) entries content
      → (storage app).Represents h (slice_index after) entries content
  representing_left p cells after entries content h once changes away represents =
      stored app h (slice_index cells) (slice_index after) entries content (λ cell by. elim by [
        | inl at ↦ elim (changes cell) [
          | inl same ↦ same
          | inr its ↦ elim its [
            | inl owned ↦ absurd (let one : At h ≡ At owned.0 = sym at ∙ owned.1 in let same : h ≡ owned.0 = cc (one) in
                true_and_false (Owns app img thread p h)
                (subst (λ x. Owns app img thread p x ≡ true) (sym same) owned.2) away)
            | inr held ↦ absurd (let one : At h ≡ In held.0 = sym at ∙ held.1 in cc (one))
          ]
        ]
        | inr place ↦ elim (changes cell) [
          | inl same ↦ same
          | inr its ↦ elim its [
            | inl owned ↦ absurd (let one : In place.1.0 ≡ At owned.0 = sym place.1.1 ∙ owned.1 in cc (one))
            | inr held ↦ absurd (let one : In place.1.0 ≡ In held.0 = sym place.1.1 ∙ held.1 in
                let same : place.1.0 ≡ held.0 = cc (one) in
                let some : 0 < count place.1.0 p.places =
                subst (λ (e : Entry). 0 < count e p.places) (sym same) held.2 in
                omega (arith, some, place.1.2, once place.1.0))
          ]
        ]
      ]) represents
