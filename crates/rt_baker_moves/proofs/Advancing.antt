-- The running job goes on: it reads the clock, or its work has ended.
use Rattle.std.proofs.Common.{◌≡◌, ℕ, List, [], refl, ap, ◌∙◌, sym, subst}
use Rattle.rt_actions.specs.Content.{Values}
use Rattle.rt_actions.specs.Action.{Clocks}
use Rattle.rt_actions.specs.Doing.{Doing}
use Rattle.rt_app.specs.Tree.{App}
use Rattle.rt_laws.specs.State as laws
use Rattle.rt_laws.specs.State.{reached_values}
use Rattle.rt_laws.specs.Acting.{state_after_doing, idle_job}
use Rattle.rt_laws.specs.Allowed.{state_after_item}
use Rattle.rt_baker_work.specs.declared.todo.Todo.{Todo}
use Rattle.rt_baker_work.specs.declared.todo.Todo.TheVariants as todo
use Rattle.rt_baker_work.specs.declared.todo.Reading.{Reading}
use Rattle.rt_baker_work.specs.Store.{Store, contents}
use Rattle.rt_baker_work.specs.Todo.{use_clock, behind}
use Rattle.rt_baker_work.specs.Work.{Work, Becomes}
use Rattle.rt_baker_moves.specs.Job.{AuditorJob, finish, rest_of, with_rest, JobIs}
use Rattle.rt_baker_moves.specs.State.{AuditorState, StateIs}
use Rattle.rt_baker_moves.specs.Inside.Acts.{kept_after_action, held_with_job, with_work, Resumes}
use Rattle.rt_baker_moves.specs.Inside.Moves.{with_next, Advances, IsIdling}
use Rattle.rt_baker_moves.proofs.Acts.{with_first, first_of, is_busy, on_top, Stands, job_stands, moved_stands}

-- what the machine changes as its running job reads the clock, where its work is this from then on
clock_given : (app : App) (r : Reading) (t : laws.State) (job : AuditorJob) (k : laws.Job) (ks : List laws.Job)
    (w : Work)
    (s : Store) → JobIs app (with_next (todo.Clock r) job) k → t.values ≡ contents s
    → Becomes app (use_clock app r t.time) job.work s w s
    → state_after_doing app t k ks k.rest ≡ with_first t
    (with_rest app (kept_after_action Clocks job) (rest_of app (with_work job w)
    t.values)) ks (reached_values (rest_of app (with_work job w) t.values) t.values)
clock_given app r t job k ks w s h held answers =
    let j = with_next (todo.Clock r) job in
    ap (λ (l : laws.Job). state_after_doing app t l ks l.rest) h.is
    ∙ ap (λ (d : Doing Values). state_after_doing app t (with_rest app j (rest_of app j h.values)) ks d)
    (on_top app j job.work
    (todo.Clock r) h.values refl)
    ∙ ap (λ (d : Doing Values). with_first t (with_rest app (kept_after_action Clocks job) d) ks
    (reached_values d t.values))
    (ap (use_clock app r t.time (behind app job.work.todos (finish job.role)) job.work.vars) held
    ∙ answers.same (finish job.role)
    ∙ ap (λ (vs : Values). rest_of app (with_work job w) vs) (sym held))

pub clock_read : (app : App) (r : Reading) (s new : AuditorState) (job mid : AuditorJob) (old w : Work) (time : ℕ)
    → time ≡ s.time → old ≡ job.work → mid ≡ with_work job w
    → ((u : Store) → Becomes app (use_clock app r time) old u w u)
    → Resumes app Clocks mid s new → Advances app (held_with_job s (with_next (todo.Clock r) job) s.store) new
clock_read app r s new job mid old w time now is made answers resumes t h =
    let p : Resumes app Clocks (with_work job w) s new =
    subst (λ (j : AuditorJob). Resumes app Clocks j s new) made resumes in
    let j = with_next (todo.Clock r) job in
    let parts = first_of app j s.jobs t.jobs h.jobs in
    let busy = is_busy app j parts.0 job.work (todo.Clock r) parts.3 refl in
    let values : t.values ≡ contents s.store = ap (λ (u : laws.State). u.values) h.is in
    let alike : time ≡ t.time = now ∙ sym (ap (λ (u : laws.State). u.time) h.is) in
    let st = job_stands app Clocks job p.after w s.store p.store t.values busy values p.performs in
    let told : Becomes app (use_clock app r t.time) job.work s.store w s.store =
    subst (λ (v : Work). Becomes app (use_clock app r t.time) v s.store w s.store) is
    (subst (λ (n : ℕ). Becomes app (use_clock app r n) old s.store w s.store) alike (answers s.store)) in
    let gives = ap (λ (l : List laws.Job). state_after_item app t l) parts.2
    ∙ clock_given app r t job parts.0 parts.1 w s.store parts.3 values told in
    subst (λ (n : AuditorState). StateIs app n (state_after_item app t t.jobs)) (sym p.is)
    (subst (λ (u : laws.State). StateIs app (held_with_job s p.after p.store) u) (sym gives)
    (moved_stands app s t _ parts.1 _ j p.after p.store h.is h.waiting st parts.4))

-- a job that has done all its work stands at its last action
at_end : (app : App) (j : AuditorJob) (k : laws.Job) (h : JobIs app j k) → j.work.todos ≡ []
    → k ≡ with_rest app j (finish j.role j.work.vars h.values)
unfolding behind
at_end app j k h none =
    h.is ∙ ap (λ (ts : List Todo). with_rest app j (behind app ts (finish j.role) j.work.vars h.values)) none

-- what the machine does then
ended : (app : App) (t : laws.State) (j : AuditorJob) (k : laws.Job) (ks : List laws.Job) (r : laws.Role)
    (h : JobIs app j k) → j.work.todos ≡ [] → j.role ≡ r
    → state_after_doing app t k ks k.rest ≡ state_after_doing app t (with_rest app j (finish r j.work.vars h.values)) ks
    (finish r
    j.work.vars h.values)
ended app t j k ks r h none role =
    ap (λ (l : laws.Job). state_after_doing app t l ks l.rest) (at_end app j k h none)
    ∙ ap (λ (q : laws.Role). state_after_doing app t (with_rest app j (finish q j.work.vars h.values)) ks
    (finish q j.work.vars
    h.values)) role

abbrev pub IsThread : laws.Role → Type 0
IsThread laws.Init = Unit {0}
IsThread laws.Idle = Unit {0}
IsThread r = ⊥

thread_acts : (app : App) (t : laws.State) (j : AuditorJob) (ks : List laws.Job) (r : laws.Role) (vs : Values)
    → IsThread r
    → state_after_doing app t (with_rest app j (finish r j.work.vars vs)) ks (finish r j.work.vars vs)
    ≡ with_first t (idle_job app t.values app.idle) ks (reached_values (idle_job app t.values app.idle).rest t.values)
thread_acts app t j ks laws.Init vs thread = refl
thread_acts app t j ks laws.Idle vs thread = refl
thread_acts app t j ks laws.Waiting vs thread = absurd thread
thread_acts app t j ks (laws.Serving irq) vs thread = absurd thread

-- the thread begins `idle`
pub idles : (app : App) (s new : AuditorState) (job : AuditorJob) (r : laws.Role) → IsThread r → job.role ≡ r
    → IsIdling app s new
    → job.work.todos ≡ [] → Advances app (held_with_job s job s.store) new
idles app s new job r thread role begins none t h =
    let parts = first_of app job s.jobs t.jobs h.jobs in
    let values : contents s.store ≡ t.values = sym (ap (λ (u : laws.State). u.values) h.is) in
    let begun = begins.begins in
    let st : Stands app begins.job begins.store (idle_job app t.values app.idle) (reached_values (idle_job app t.values
    app.idle).rest t.values) =
    subst (λ (vs : Values). Stands app begins.job begins.store (idle_job app vs app.idle)
    (reached_values (idle_job app vs
    app.idle).rest vs)) values (record { job = begun.job; values = begun.values }) in
    let gives = ap (λ (l : List laws.Job). state_after_item app t l) parts.2
    ∙ ended app t job parts.0 parts.1 r parts.3 none role
    ∙ thread_acts app t job parts.1 r parts.3.values thread in
    subst (λ (n : AuditorState). StateIs app n (state_after_item app t t.jobs)) (sym begins.is)
    (subst (λ (u : laws.State). StateIs app (held_with_job s begins.job begins.store) u) (sym gives)
    (moved_stands app s t _ parts.1 _ job begins.job begins.store h.is h.waiting st parts.4))

-- the thread that waits has nothing to do
pub still_waits : (app : App) (s new : AuditorState) (job : AuditorJob) → job.role ≡ laws.Waiting → new
    ≡ held_with_job s job s.store
    → job.work.todos ≡ [] → Advances app (held_with_job s job s.store) new
still_waits app s new job role is none t h =
    let parts = first_of app job s.jobs t.jobs h.jobs in
    let gives : state_after_item app t t.jobs ≡ t = ap (λ (l : List laws.Job). state_after_item app t l) parts.2
    ∙ ended app t job parts.0 parts.1 laws.Waiting parts.3 none role in
    subst (λ (n : AuditorState). StateIs app n (state_after_item app t t.jobs)) (sym is)
    (subst (λ (u : laws.State). StateIs app (held_with_job s job s.store) u) (sym gives) h)

-- a handler returns
pub returned : (app : App) (s : AuditorState) (job : AuditorJob) (irq : ℕ) → job.role ≡ laws.Serving irq
    → job.work.todos ≡ []
    → Advances app (held_with_job s job s.store) s
returned app s job irq role none t h =
    let parts = first_of app job s.jobs t.jobs h.jobs in
    let gives : state_after_item app t t.jobs ≡ record t { jobs = parts.1 } =
    ap (λ (l : List laws.Job). state_after_item app t l) parts.2
    ∙ ended app t job parts.0 parts.1 (laws.Serving irq) parts.3 none role in
    subst (λ (u : laws.State). StateIs app s u) (sym gives)
    (record { jobs = parts.4; is = ap (λ (u : laws.State). record u { jobs = parts.1 }) h.is; waiting = h.waiting })
