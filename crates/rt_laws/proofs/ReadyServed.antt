-- That the messages of a level that are ready are served, as jobs come and go.
use Rattle.std.proofs.Common.{length-set, ◌≡◌, ℕ, zero, suc, ◌⊎◌, Bool, true, false, List, [], ◌∷◌, ◌++◌, drop, length}
use Rattle.std.proofs.Common.{slice_set, slice_index_or, refl, sym, ap, subst, ◌∙◌, inl, inr, eq-eqb}
use Rattle.std.proofs.lemmas.Option.{same_Some}
use Rattle.rt_ids.specs.Choice.{IsIn}
use Rattle.rt_actions.specs.Location.{Guarded}
use Rattle.rt_actions.specs.Content.{Message, Values, messages}
use Rattle.rt_actions.specs.Action.{Readies, Starts, effect}
use Rattle.rt_ids.specs.declared.ids.Section.{Section}
use Rattle.rt_ids.specs.declared.ids.Section.TheVariants as section
use Rattle.rt_ids.specs.declared.limits.TheConstants.{IRQ_NUMBERS}
use Rattle.rt_app.specs.Tree.{App}
use Rattle.rt_app.specs.Handlers.{Dispatches}
use Rattle.rt_app.specs.Sending.{dispatcher_number}
use Rattle.rt_laws.specs.State.{Job, State}
use Rattle.rt_laws.specs.Served.{IsOpen, HasAllToDo, IsServed, ServesLevel}
use Rattle.rt_laws.proofs.Pending.{still_set}
use Rattle.rt_laws.proofs.Readying.{Away, Inside, Serves}
use Rattle.rt_laws.proofs.Beginnings.{BeginsWith, dispatcher_begins}

pub no_drop : (xs : List Section) (x : Section) → ¬ IsIn xs x → ¬ IsIn (drop 1 xs) x
no_drop [] x out is = out is
no_drop (y ∷ xs) x out is = out (suc is.0, is.1)

pub no_more : (y x : Section) (xs : List Section) → ¬ (y ≡ x) → ¬ IsIn xs x → ¬ IsIn (y ∷ xs) x
no_more y x xs differs out (zero, at) = differs (same_Some y x at)
no_more y x xs differs out (suc i, at) = out (i, at)

-- what is ready behind a message that is put there or taken
module _ (p : ℕ) (vs : Values) where
  abbrev ready_at : ℕ → List Message
  ready_at r = messages (vs (Guarded (section.Ready r)))

  pub readied : (r : ℕ) (m : Message) → r ≡ p
      → messages (effect (Readies r m) vs (Guarded (section.Ready p))) ≡ ready_at p ++ m ∷ []
  readied r m same = rw (eq-eqb r p same) (ap (λ k. ready_at k ++ m ∷ []) same)

  pub taken : (r : ℕ) (m : Message) → r ≡ p
      → messages (effect (Starts r m) vs (Guarded (section.Ready p))) ≡ drop 1 (ready_at p)
  taken r m same = rw (eq-eqb r p same) (ap (λ k. drop 1 (ready_at k)) same)

module _ (app : App) (p : ℕ) where
  abbrev pub queue : Section
  queue = section.Ready p

  abbrev pub ready : Values → List Message
  ready vs = messages (vs (Guarded queue))

  abbrev pub IsPosted : List Bool → Type 0
  IsPosted pending = slice_index_or pending (dispatcher_number app p) false ≡ true

  -- a job outside the section, or inside it; what it has left to do serves the level
  pub data JobServes (pending : List Bool) (vs : Values) (job : Job) : Type 0 where
    IsOutside : ¬ IsIn job.sections queue → Serves app p Away job.rest → JobServes pending vs job
    IsInside : (posted : Bool) → (outer : List Section) → job.sections ≡ queue ∷ outer → ¬ IsIn outer queue
        → (posted ≡ true → IsPosted pending) → Serves app p (Inside (ready vs) posted) job.rest
        → JobServes pending vs job

  abbrev pub AllServe : List Bool → Values → List Job → Type 0
  AllServe pending vs [] = Unit {0}
  AllServe pending vs (job ∷ others) = JobServes pending vs job × AllServe pending vs others

  pub data LevelServed (pending : List Bool) (vs : Values) (js : List Job) : Type 0 where
    Open : IsOpen js queue → LevelServed pending vs js
    Nothing : ready vs ≡ [] → LevelServed pending vs js
    Posted : IsPosted pending → LevelServed pending vs js
    Begins : HasAllToDo app js (dispatcher_number app p) (Dispatches p) → LevelServed pending vs js

  pub record Keeps (pending : List Bool) (vs : Values) (js : List Job) : Type 0 where
    pub long : length pending ≡ IRQ_NUMBERS
    pub all : AllServe pending vs js
    pub served : LevelServed pending vs js

  abbrev pub KeepsState : State → Type 0
  KeepsState s = Keeps s.pending s.values s.jobs

  -- the law
  pub keeps_level : (s : State) → KeepsState s → ServesLevel app s p
  keeps_level s keeps some closed = go keeps.served
    where
      go : LevelServed s.pending s.values s.jobs → IsServed app s (dispatcher_number app p) (Dispatches p)
      go (Open is) = absurd (closed is)
      go (Nothing none) = absurd (some none)
      go (Posted is) = inl is
      go (Begins is) = inr is

  -- others change nothing of a job that is inside
  job_kept : (pending later : List Bool) (vs ws : Values) (job : Job)
      → (IsIn job.sections queue → (IsPosted pending → IsPosted later) × (ready ws ≡ ready vs))
      → JobServes pending vs job → JobServes later ws job
  job_kept pending later vs ws job same (IsOutside out good) = IsOutside out good
  job_kept pending later vs ws job same (IsInside posted outer is out known good) =
      let inside = same (subst (λ xs. IsIn xs queue) (sym is) (0, refl)) in
      IsInside posted outer is out (λ yet. inside.0 (known yet))
      (subst (λ ms. Serves app p (Inside ms posted) job.rest) (sym inside.1) good)

  pub all_kept : (pending later : List Bool) (vs ws : Values) (js : List Job)
      → (IsOpen js queue → (IsPosted pending → IsPosted later) × (ready ws ≡ ready vs))
      → AllServe pending vs js → AllServe later ws js
  all_kept pending later vs ws [] same all = tt
  all_kept pending later vs ws (job ∷ others) same all = (
    job_kept pending later vs ws job (λ is. same (inl is)) all.0,
    all_kept pending later vs ws others (λ is. same (inr is)) all.1,
  )

  -- more is pending
  pub posts_kept : (pending : List Bool) (vs : Values) (js : List Job) (irq : ℕ) → Keeps pending vs js
      → Keeps (slice_set pending irq true) vs js
  posts_kept pending vs js irq keeps = record {
    long = length-set pending irq true ∙ keeps.long;
    all = all_kept pending (slice_set pending irq true) vs vs js
        (λ is. (still_set pending irq (dispatcher_number app p), refl)) keeps.all;
    served = go keeps.served;
  }
    where
      go : LevelServed pending vs js → LevelServed (slice_set pending irq true) vs js
      go (Open is) = Open is
      go (Nothing none) = Nothing none
      go (Posted is) = Posted (still_set pending irq (dispatcher_number app p) is)
      go (Begins is) = Begins is

  -- a job that is outside goes on outside
  pub goes_outside : (pending : List Bool) → length pending ≡ IRQ_NUMBERS → (vs ws : Values)
      (job after : Job) (others : List Job)
      → ¬ IsIn job.sections queue → ¬ BeginsWith queue job.rest
      → ¬ IsIn after.sections queue → Serves app p Away after.rest → ready ws ≡ ready vs
      → AllServe pending vs others → LevelServed pending vs (job ∷ others)
      → Keeps pending ws (after ∷ others)
  goes_outside pending long vs ws job after others out before still good same all served = record {
    long = long;
    all = (IsOutside still good, all_kept pending pending vs ws others (λ is. ((λ yet. yet), same)) all);
    served = go served;
  }
    where
      go : LevelServed pending vs (job ∷ others) → LevelServed pending ws (after ∷ others)
      go (Open (inl is)) = absurd (out is)
      go (Open (inr is)) = Open (inr is)
      go (Nothing none) = Nothing (same ∙ none)
      go (Posted is) = Posted is
      go (Begins (inl is)) = absurd (before (dispatcher_begins app p job.rest is.1))
      go (Begins (inr is)) = Begins (inr is)

  -- it is inside now
  pub goes_inside : (pending later : List Bool) → length later ≡ IRQ_NUMBERS → (vs ws : Values)
      (after : Job) (others : List Job) (posted : Bool) (outer : List Section)
      → after.sections ≡ queue ∷ outer → ¬ IsIn outer queue → (posted ≡ true → IsPosted later)
      → Serves app p (Inside (ready ws) posted) after.rest
      → (IsOpen others queue → (IsPosted pending → IsPosted later) × (ready ws ≡ ready vs))
      → AllServe pending vs others → Keeps later ws (after ∷ others)
  goes_inside pending later long vs ws after others posted outer is out known good same all = record {
    long = long;
    all = (IsInside posted outer is out known good, all_kept pending later vs ws others same all);
    served = Open (inl (subst (λ xs. IsIn xs queue) (sym is) (0, refl)));
  }

  -- it leaves, where nothing is ready or the dispatcher is pending
  pub goes_out : (pending : List Bool) → length pending ≡ IRQ_NUMBERS → (vs ws : Values)
      (after : Job) (others : List Job) (posted : Bool)
      → ¬ IsIn after.sections queue → Serves app p Away after.rest → ready ws ≡ ready vs
      → (ready vs ≡ []) ⊎ (posted ≡ true) → (posted ≡ true → IsPosted pending)
      → AllServe pending vs others → Keeps pending ws (after ∷ others)
  goes_out pending long vs ws after others posted still good same settled known all = record {
    long = long;
    all = (IsOutside still good, all_kept pending pending vs ws others (λ is. ((λ yet. yet), same)) all);
    served = elim settled [ inl none ↦ Nothing (same ∙ none) | inr yet ↦ Posted (known yet) ];
  }
