-- The system ceiling and the candidate of the state that an auditor keeps are those of the machine's state.
use Rattle.std.proofs.Common.{◌≡◌, ℕ, ◌+◌, ◌<◌, max, nat_lt, Bool, false, ◌&&◌, List, [], ◌∷◌, map, take, length}
use Rattle.std.proofs.Common.{get_or, slice_get, slice_index_or, Option, refl, sym, ap, subst, ◌∙◌, arith}
use Rattle.rt_lemmas.proofs.Lists.{map_next}
use Rattle.rt_ids.specs.Choice.{best}
use Rattle.rt_ids.specs.Lists.{greatest}
use Rattle.rt_ids.specs.declared.ids.Section.{Section}
use Rattle.rt_ids.proofs.Greatest.{greatest_append}
use Rattle.rt_app.specs.Ceiling.{ceiling}
use Rattle.rt_app.specs.Tree.{App}
use Rattle.rt_laws.specs.Preemption.{greatest_ceiling, system_ceiling, goes_before, candidate}
use Rattle.rt_laws.specs.Services.{priority_of}
use Rattle.rt_laws.specs.State as laws
use Rattle.rt_baker_moves.specs.Job.{AuditorJob}
use Rattle.rt_baker_moves.specs.State.{AuditorState, JobsAre, StateIs}
use Rattle.rt_baker_moves.specs.Waiting.{waits, waiting_irqs}
use Rattle.rt_baker_moves.specs.Inside.SystemCeiling.{job_threshold, kept_ceiling}
use Rattle.rt_baker_moves.specs.Inside.Waiting.{if_above}
use Rattle.rt_baker_moves.proofs.Waiting.{first_ordered, over_best}

pub ceiling_is : (app : App) (js : List AuditorJob) (ks : List laws.Job) → JobsAre app js ks → system_ceiling app ks
    ≡ kept_ceiling app js
ceiling_is app [] [] h = refl
ceiling_is app [] (k ∷ ks) h = absurd h
ceiling_is app (j ∷ js) [] h = absurd h
ceiling_is app (j ∷ js) (k ∷ ks) h =
    ap (λ (l : laws.Job). max (max l.priority (greatest_ceiling app l.sections)) (system_ceiling app ks)) h.0.is
    ∙ ap (λ (n : ℕ). max (job_threshold app j) n) (ceiling_is app js ks h.1)

-- the greatest of one more
greatest_next : {X : Type 0} (f : X → ℕ) (xs ys : List X) (i : ℕ) (x : X) → ys ≡ xs → i < length ys
    → x ≡ get_or ys i x → greatest (map f (take (i + 1) xs)) ≡ max (greatest (map f (take i xs))) (f x)
greatest_next f xs ys i x same within is =
    let more : greatest (map f (take (i + 1) ys)) ≡ max (greatest (map f (take i ys))) (max (f x) 0) =
    ap greatest (map_next f ys i x within is) ∙ greatest_append (map f (take i ys)) (f x ∷ []) in
    subst (λ (zs : List _). greatest (map f (take (i + 1) zs)) ≡ max (greatest (map f (take i zs))) (f x)) same
    (omega arith)

pub sections_next : (app : App) (p : ℕ) (xs ys : List Section) (i : ℕ) (x : Section) (most c u new : ℕ) → ys ≡ xs
    → i < length ys → x ≡ get_or ys i x → most ≡ max p (greatest (map (ceiling app) (take i xs)))
    → c ≡ ceiling app x → u ≡ c → new ≡ max most u → new ≡ max p (greatest (map (ceiling app) (take (i + 1) xs)))
sections_next app p xs ys i x most c u new same within is so_far here wide step =
    let more = greatest_next (ceiling app) xs ys i x same within is in omega arith

pub jobs_next : (app : App) (js ks : List AuditorJob) (i : ℕ) (j : AuditorJob) (most here new : ℕ) → ks ≡ js → i
    < length ks
    → j ≡ get_or ks i j → most ≡ kept_ceiling app (take i js) → here ≡ job_threshold app j → new ≡ max most here
    → new ≡ kept_ceiling app (take (i + 1) js)
jobs_next app js ks i j most here new same within is so_far own step =
    let more = greatest_next (job_threshold app) js ks i j same within is in omega arith

-- the first of those that wait, where it is above the system ceiling
pub candidate_is : (app : App) (s : AuditorState) (t : laws.State) (o : Option ℕ) → StateIs app s t
    → o ≡ if_above (priority_of app) (kept_ceiling app s.jobs) (slice_get s.waiting 0) → o ≡ candidate app t
unfolding waiting_irqs
candidate_is app s t o h is =
    is
    ∙ ap (λ (irqs : List ℕ). if_above (priority_of app) (kept_ceiling app s.jobs) (slice_get irqs 0)) h.waiting
    ∙ ap (if_above (priority_of app) (kept_ceiling app s.jobs)) (first_ordered (waits app s.pending) (goes_before app)
    numbers)
    ∙ ap (λ (n : ℕ). if_above (priority_of app) n (best (waits app s.pending) (goes_before app) numbers))
    (sym (ceiling_is
    app s.jobs t.jobs h.jobs))
    ∙ over_best (priority_of app) (λ irq. slice_index_or s.pending irq false) (system_ceiling app t.jobs) numbers
    ∙ ap (λ (ps : List Bool). best (λ irq. slice_index_or ps irq false
    && nat_lt (system_ceiling app t.jobs) (priority_of app
    irq)) (goes_before app) numbers) (sym (ap (λ (u : laws.State). u.pending) h.is))
  where
    numbers : List ℕ
    numbers = map (λ d. d.number) app.irqs
