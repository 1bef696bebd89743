-- A word that a device puts into the cell of a local resource which no started job may use: both machines take it, and
-- what holds of jobs and of memory is kept.
use Rattle.std.proofs.Common.{◌≡◌, ℕ, ◌==◌, ◌||◌, ◌<◌, Bool, true, false, if◌then◌else◌, List, [], ◌∷◌, map, length}
use Rattle.std.proofs.Common.{slice_set, slice_index, length-set, get_or-set_same, get_or-set_other}
use Rattle.std.proofs.Common.{refl, sym, ap, subst, ◌∙◌, inl, inr, arith}
use Rattle.std.specs.List.{AllByRecursion}
use Rattle.std.proofs.lemmas.Bool.{eqb-true, eq-eqb}
use Rattle.rt_lemmas.proofs.Bools.{true_and_false}
use Rattle.rt_actions.specs.Location.{Location, Guarded, Own}
use Rattle.rt_actions.specs.Content.{Content, Number, Values, values_with}
use Rattle.rt_actions.specs.Entry.{Entry}
use Rattle.rt_actions.specs.Storage.{Runner, Starting, AtPriority, At, In}
use Rattle.rt_app.specs.Tree.{App}
use Rattle.rt_app.specs.Holding.{storage, is_kept}
use Rattle.rt_app.specs.Layout.{local_at}
use Rattle.rt_code.specs.Image.{Image}
use Rattle.rt_code.specs.Owning.{OpenSection, reads, MayLoad}
use Rattle.rt_code.specs.StandingLaws.{IsRepresentedBy}
use Rattle.rt_gen_body.proofs.Owning.{local_cell}
use Rattle.rt_gen_body.proofs.Stored.{stored}
use Rattle.rt_laws.specs.DeviceWords.{IsUnused}
use Rattle.rt_sim.specs.Inside.Coupling.{Part, Coupling, job_of, jobs_of, configuration_of}
use Rattle.rt_sim.specs.Inside.PartInvariant.{who, PartInvariant, PartReads}
use Rattle.rt_sim.specs.Inside.CouplingInvariant.{CouplingInvariant}
use Rattle.rt_sim.proofs.Others.{part_kept}

-- the coupling after a word is put
abbrev pub coupling_after_put : App → ℕ → ℕ → Coupling → Coupling
coupling_after_put app n word m = record m {
  cells = slice_set m.cells (local_at app n) word;
  values = values_with m.values (Own n) (Number word);
}

module _ (app : App) (n word : ℕ) where
  -- who does not keep a local resource does not read it
  unread : (runner : Runner) (held : List OpenSection) → is_kept app runner (Own n) ≡ false
      → reads (storage app) runner held (Own n) ≡ false
  unfolding storage
  unread Starting held away = ap (λ b. b || false) away
  unread (AtPriority p) held away = ap (λ b. b || false) away

module _ (app : App) (img : Image) (thread n word : ℕ) (declared : n < length app.locals) where
  abbrev cells_after : List ℕ → List ℕ
  cells_after cells = slice_set cells (local_at app n) word

  abbrev values_after : Values → Values
  values_after values = values_with values (Own n) (Number word)

  its_home : (storage app).home (local_at app n) ≡ At (Own n)
  its_home = (local_cell app n declared).home

  module _ (cells : List ℕ) (queues : Location → List Entry) (values : Values) where
    -- a cell of another home is as before
    left : (cell : ℕ) → ¬ ((storage app).home cell ≡ At (Own n))
        → slice_index (cells_after cells) cell ≡ slice_index cells cell
    left cell other =
        get_or-set_other cells (local_at app n) cell word 0
        (λ same. other (ap (storage app).home same ∙ its_home))

    values_left : (q : Part) → is_kept app (who q) (Own n) ≡ false → (h : Location)
        → PartReads app img thread q h ≡ true → values_after values h ≡ values h
    values_left q away (Guarded x) read = refl
    values_left q away (Own k) read = by (n == k) refl
      where
        by : (b : Bool) → (n == k) ≡ b → (if b then Number word else values (Own k)) ≡ values (Own k)
        by false other = refl
        by true same = absurd (true_and_false (PartReads app img thread q (Own n))
            (subst (λ j. PartReads app img thread q (Own j) ≡ true) (sym (eqb-true n k same)) read)
            (unread app n word (who q) q.held away))

    -- what holds of a job that may not use the resource
    part_put : (q : Part) → is_kept app (who q) (Own n) ≡ false → PartInvariant app img thread cells queues values q
        → PartInvariant app img thread (cells_after cells) queues (values_after values) q
    part_put q away invariant =
        part_kept app img thread cells (cells_after cells) queues queues values (values_after values) q invariant
        (length-set cells (local_at app n) word)
        (λ cell may. left cell (λ home. true_and_false (PartReads app img thread q (Own n))
        (subst (λ h. MayLoad (storage app) (who q) (configuration_of cells queues q) h) home may)
        (unread app n word (who q) q.held away)))
        (λ h owned. refl) (values_left q away)

    parts_put : (ps : List Part) → IsUnused app (map job_of ps) n
        → AllByRecursion (PartInvariant app img thread cells queues values) ps
        → AllByRecursion (PartInvariant app img thread (cells_after cells) queues (values_after values)) ps
    parts_put [] unused invariant = tt
    parts_put (q ∷ ps) unused invariant =
        (part_put q unused.0 invariant.0, parts_put ps unused.1 invariant.1)

    -- other locations are represented as before
    unkept : (h : Location) → ¬ (h ≡ Own n) → (entries : List Entry) (content : Content)
        → (storage app).Represents h (slice_index cells) entries content
        → (storage app).Represents h (slice_index (cells_after cells)) entries content
    unkept h other entries content represents =
        stored app h (slice_index cells) (slice_index (cells_after cells)) entries content
        (λ cell by. left cell (elsewhere cell by)) represents
      where
        elsewhere : (cell : ℕ) → IsRepresentedBy (storage app) h entries cell
            → ¬ ((storage app).home cell ≡ At (Own n))
        elsewhere cell (inl at) home = let one : At h ≡ At (Own n) = sym at ∙ home in
            let same : h ≡ Own n = cc (one) in other same
        elsewhere cell (inr place) home = let one : In place.1.0 ≡ At (Own n) = sym place.1.1 ∙ home in cc (one)

    -- and the resource by its word
    word_there : local_at app n < length cells → (entries : List Entry)
        → (storage app).Represents (Own n) (slice_index (cells_after cells)) entries (Number word)
    word_there room entries =
        (local_cell app n declared).for (slice_index (cells_after cells)) entries (Number word)
        (ap Number (sym (get_or-set_same cells (local_at app n) word 0 room)))

    represented_put : local_at app n < length cells → (h : Location)
        → (storage app).Represents h (slice_index cells) (queues h) (values h)
        → (storage app).Represents h (slice_index (cells_after cells)) (queues h) (values_after values h)
    represented_put room (Guarded x) represents =
        unkept (Guarded x) (λ same. cc (same)) (queues (Guarded x)) (values (Guarded x)) represents
    represented_put room (Own k) represents = by (n == k) refl
      where
        by : (b : Bool) → (n == k) ≡ b → (storage app).Represents (Own k) (slice_index (cells_after cells))
            (queues (Own k)) (if b then Number word else values (Own k))
        by true same =
            subst (λ j. (storage app).Represents (Own j) (slice_index (cells_after cells)) (queues (Own k))
            (Number word)) (eqb-true n k same) (word_there room (queues (Own k)))
        by false other =
            unkept (Own k) (λ same. let one : n ≡ k = cc (same) in
            true_and_false (n == k) (eq-eqb n k one) other) (queues (Own k)) (values (Own k)) represents

  -- the law
  pub put_invariant : (m : Coupling) → IsUnused app (jobs_of m.running m.below) n
      → CouplingInvariant app img thread m → CouplingInvariant app img thread (coupling_after_put app n word m)
  put_invariant m unused invariant = record {
    stack = invariant.stack;
    parts = parts_put m.cells m.queues m.values (m.running ∷ m.below) unused invariant.parts;
    represented = λ h held away. represented_put m.cells m.queues m.values
        (let there = (local_cell app n declared).there in omega (arith, there, invariant.memory)) h
        (invariant.represented h held away);
    basepri = invariant.basepri;
    primask = invariant.primask;
    memory = length-set m.cells (local_at app n) word ∙ invariant.memory;
    once = invariant.once;
    numbers = invariant.numbers;
    alarmed = invariant.alarmed;
  }
