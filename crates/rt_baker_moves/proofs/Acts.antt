-- What the running job does is what Baker's machine has it do.
use Rattle.std.proofs.Common.{◌≡◌, ◌≢◌, ℕ, Bool, true, false, Option, None, if◌then◌else◌, List, [], ◌∷◌, ◌++◌}
use Rattle.std.proofs.Common.{refl, ap, ◌∙◌, sym, subst}
use Rattle.rt_actions.specs.Location.{Guarded}
use Rattle.rt_actions.specs.Content.{Values, delays, least_instant}
use Rattle.rt_ids.specs.declared.ids.Section.TheVariants as section
use Rattle.rt_actions.specs.Action.{Action, Enters, Leaves, Emits, Posts, Clocks, Places, FindsFull, Readies, Starts}
use Rattle.rt_actions.specs.Action.{Frees, Arms, Fires, Cancels, Moves, SetsAlarm, Ends, Returns, effect}
use Rattle.rt_actions.specs.Doing.{Doing, over}
use Rattle.rt_ids.specs.declared.ids.BodyId.TheVariants as body
use Rattle.rt_app.specs.Tree.{App}
use Rattle.rt_app.specs.Accepted.{IsAccepted}
use Rattle.rt_app.specs.Meaning.{Later}
use Rattle.rt_laws.specs.State as laws
use Rattle.rt_laws.specs.State.{reached_values}
use Rattle.rt_laws.specs.Services.{timer_number}
use Rattle.rt_laws.specs.Giving.{is_due, next_instant}
use Rattle.rt_laws.specs.Acting.{state_after_action, state_after_doing, state_after_pend, alarm_set}
use Rattle.rt_laws.specs.Allowed.{state_after_item}
use Rattle.rt_baker_work.specs.declared.action.Action as code
use Rattle.rt_baker_work.specs.declared.action.Action.TheVariants as act
use Rattle.rt_baker_work.specs.declared.todo.Todo.{Todo}
use Rattle.rt_baker_work.specs.declared.todo.Todo.TheVariants as todo
use Rattle.rt_baker_work.specs.Actions.{action_of}
use Rattle.rt_baker_work.specs.Store.{Store, contents}
use Rattle.rt_baker_work.specs.Todo.{meaning, behind}
use Rattle.rt_baker_work.specs.Work.{Work, is_seen, IsSettled}
use Rattle.rt_baker_work.proofs.Walks.{with_todos, behind_more}
use Rattle.rt_baker_moves.specs.Job.{AuditorJob, finish, rest_of, with_rest, JobIs}
use Rattle.rt_baker_moves.specs.State.{AuditorState, with_jobs, JobsAre, StateIs}
use Rattle.rt_baker_moves.specs.Waiting.{waiting_irqs}
use Rattle.rt_baker_moves.specs.Inside.Acts.{kept_after_action, IsPerformed, held_with_job, with_work, before}
use Rattle.rt_baker_moves.specs.Inside.Acts.{held_after_pend, held_alarm, beyond}
use Rattle.rt_baker_moves.specs.Inside.Acts.{Resumes}
use Rattle.rt_baker_moves.proofs.Pending.{pended_stands}

-- work with a thing on top is at that thing
pub on_top : (app : App) (j : AuditorJob) (w : Work) (t : Todo) (vs : Values) → j.work ≡ with_todos w (t ∷ [])
    → rest_of app j vs ≡ meaning app t (behind app w.todos (finish j.role)) w.vars vs
unfolding behind
on_top app j w t vs is =
    ap (λ (v : Work). behind app v.todos (finish j.role) v.vars vs) is
    ∙ ap (λ (l : Later). l w.vars vs) (behind_more app w.todos (t ∷ []) (finish j.role))

-- settled work has made the values that it stands at
seen_reaches : (app : App) (t : Todo) (later : Later) (vars : List ℕ) (vs us : Values) → is_seen t ≡ true
    → reached_values (meaning app t later vars vs) us ≡ vs
seen_reaches app (todo.Act a) later vars vs us seen = refl
seen_reaches app (todo.Clock r) later vars vs us seen = refl
seen_reaches app (todo.Run stmts) later vars vs us seen = absurd cc
seen_reaches app (todo.Turns x i last stmts) later vars vs us seen = absurd cc
seen_reaches app (todo.Set x n) later vars vs us seen = absurd cc
seen_reaches app (todo.Place x delay m) later vars vs us seen = absurd cc
seen_reaches app (todo.Dispatch p) later vars vs us seen = absurd cc
seen_reaches app (todo.Begin m) later vars vs us seen = absurd cc
seen_reaches app (todo.Handle x) later vars vs us seen = absurd cc
seen_reaches app (todo.Cancel x n h) later vars vs us seen = absurd cc
seen_reaches app (todo.Move x delay n h) later vars vs us seen = absurd cc
seen_reaches app (todo.Due time) later vars vs us seen = absurd cc

pub finish_reaches : (r : laws.Role) (vars : List ℕ) (vs us : Values) → r ≢ laws.Waiting
    → reached_values (finish r vars vs) us ≡ vs
finish_reaches laws.Init vars vs us busy = refl
finish_reaches laws.Idle vars vs us busy = refl
finish_reaches laws.Waiting vars vs us busy = absurd (busy refl)
finish_reaches (laws.Serving irq) vars vs us busy = refl

any_reaches : (app : App) (t : Todo) (ts : List Todo) (later : Later) (vars : List ℕ) (vs us : Values)
    → IsSettled (t ∷ ts) → reached_values (behind app (t ∷ ts) later vars vs) us ≡ vs
unfolding behind
any_reaches app t [] later vars vs us settled = seen_reaches app t later vars vs us settled
any_reaches app t (u ∷ ts) later vars vs us settled = any_reaches app u ts (meaning app t later) vars vs us settled

pub settled_reaches : (app : App) (ts : List Todo) (later : Later) (vars : List ℕ) (vs us : Values) → IsSettled ts
    → reached_values (later vars vs) us ≡ vs → reached_values (behind app ts later vars vs) us ≡ vs
unfolding behind
settled_reaches app [] later vars vs us settled last = last
settled_reaches app (t ∷ ts) later vars vs us settled last = any_reaches app t ts later vars vs us settled

-- the actions that work has: all but the last ones of bodies and handlers
abbrev pub IsPlain : Action → Type 0
IsPlain (Ends body.Init) = ⊥
IsPlain (Ends body.Idle) = ⊥
IsPlain Returns = ⊥
IsPlain action = Unit {0}

abbrev pub with_first : laws.State → laws.Job → List laws.Job → Values → laws.State
with_first t k ks vs = record {
  jobs = k ∷ ks;
  pending = t.pending;
  values = vs;
  time = t.time;
  alarm = t.alarm;
  owing = t.owing;
}

-- what an action changes in the machine beside the running job and the values
abbrev pub machine_beyond : App → Action → Option ℕ → laws.State → laws.State
machine_beyond app (Posts irq) instant t = state_after_pend irq t
machine_beyond app SetsAlarm instant t = alarm_set app instant t
machine_beyond app a instant t = t

plain_changes : (a : Action) → IsPlain a → (app : App) (t : laws.State) (j : AuditorJob) (old : Doing Values) (ks : List
    laws.Job) (vs : Values) (rest : Doing Values)
    → state_after_action app t (with_rest app j old) ks a vs rest ≡ machine_beyond app a (next_instant t) (with_first t
    (with_rest app (kept_after_action a j) rest) ks (reached_values rest vs))
plain_changes (Enters x cost) plain app t j old ks vs rest = refl
plain_changes (Leaves x) plain app t j old ks vs rest = refl
plain_changes (Emits v) plain app t j old ks vs rest = refl
plain_changes (Posts irq) plain app t j old ks vs rest = refl
plain_changes Clocks plain app t j old ks vs rest = refl
plain_changes (Places n) plain app t j old ks vs rest = refl
plain_changes (FindsFull n) plain app t j old ks vs rest = refl
plain_changes (Readies p m) plain app t j old ks vs rest = refl
plain_changes (Starts p m) plain app t j old ks vs rest = refl
plain_changes (Frees n) plain app t j old ks vs rest = refl
plain_changes (Arms i m) plain app t j old ks vs rest = refl
plain_changes (Fires m) plain app t j old ks vs rest = refl
plain_changes (Cancels n h) plain app t j old ks vs rest = refl
plain_changes (Moves n h i) plain app t j old ks vs rest = refl
plain_changes SetsAlarm plain app t j old ks vs rest = refl
plain_changes (Ends body.Init) plain app t j old ks vs rest = absurd plain
plain_changes (Ends body.Idle) plain app t j old ks vs rest = absurd plain
plain_changes (Ends (body.Task n)) plain app t j old ks vs rest = refl
plain_changes Returns plain app t j old ks vs rest = absurd plain

-- the work is no part of what an action tracks
tracks_work : (app : App) (a : Action) (j : AuditorJob) (w : Work) (rest : Doing Values)
    → with_rest app (kept_after_action a j) rest ≡ with_rest app (kept_after_action a (with_work j w)) rest
tracks_work app (Enters x cost) j w rest = refl
tracks_work app (Leaves x) j w rest = refl
tracks_work app _ j w rest = refl

tracks_role : (a : Action) (j : AuditorJob) → (kept_after_action a j).role ≡ j.role
tracks_role (Enters x cost) j = refl
tracks_role (Leaves x) j = refl
tracks_role _ j = refl

no_end : (ts : List Todo) (t : Todo) → ts ++ t ∷ [] ≡ [] → ⊥
no_end [] t e = cc
no_end (u ∷ ts) t e = cc

-- a job with a thing on top does not wait
pub is_busy : (app : App) (j : AuditorJob) (k : laws.Job) (w : Work) (t : Todo) → JobIs app j k
    → j.work ≡ with_todos w (t ∷ []) → j.role ≢ laws.Waiting
is_busy app j k w t h top waiting = no_end w.todos t (sym (ap (λ (v : Work). v.todos) top) ∙ h.waits waiting)

-- the job that stands for the first, and the others
pub first_of : (app : App) (j : AuditorJob) (js : List AuditorJob) (ks : List laws.Job) → JobsAre app (j ∷ js) ks
    → (k : laws.Job) × (others : List laws.Job) × (ks ≡ k ∷ others) × JobIs app j k × JobsAre app js others
first_of app j js [] h = absurd h
first_of app j js (k ∷ ks) h = (k, ks, refl, h.0, h.1)

-- what the machine changes as its running job does a plain action of its work
pub plain_given : (app : App) (a : code.Action) (t : laws.State) (j : AuditorJob) (k : laws.Job) (ks : List laws.Job) (w
    : Work) → IsPlain (action_of a) → JobIs app j k
    → j.work ≡ with_todos w (todo.Act a ∷ [])
    → state_after_doing app t k ks k.rest
    ≡ machine_beyond app (action_of a) (next_instant t)
    (with_first t (with_rest app (kept_after_action (action_of a) j) (rest_of app (with_work j w) (effect (action_of a)
    t.values))) ks
    (reached_values (rest_of app (with_work j w) (effect (action_of a) t.values)) (effect (action_of a) t.values)))
plain_given app a t j k ks w plain h top =
    ap (λ (l : laws.Job). state_after_doing app t l ks l.rest) h.is
    ∙ ap (λ (r : Doing Values). state_after_doing app t (with_rest app j (rest_of app j h.values)) ks r) (on_top app j w
    (todo.Act a) h.values top)
    ∙ plain_changes (action_of a) plain app t j (rest_of app j h.values) ks (effect (action_of a) t.values)
    (rest_of app (with_work j w) (effect (action_of a) t.values))

-- a job that did a plain action is the job that the machine has then, and has made its values
pub record Stands (app : App) (new : AuditorJob) (is : Store) (k : laws.Job) (vs : Values) : Type 0 where
  pub job : JobIs app new k
  pub values : vs ≡ contents is

pub job_stands : (app : App) (a : Action) (j new : AuditorJob) (w : Work) (was is : Store) (vs : Values)
    → j.role ≢ laws.Waiting → vs ≡ contents was → IsPerformed app a (with_work j w) was new is
    → Stands app new is (with_rest app (kept_after_action a j) (rest_of app (with_work j w) (effect a vs)))
    (reached_values (rest_of
    app (with_work j w) (effect a vs)) (effect a vs))
job_stands app a j new w was is vs busy alike p =
    let role : new.role ≡ j.role = ap (λ (l : laws.Job). l.role) (p.tracks over) ∙ tracks_role a (with_work j w) in
    let works : new.role ≢ laws.Waiting = λ waiting. busy (sym role ∙ waiting) in
    let rest : rest_of app (with_work j w) (effect a vs) ≡ rest_of app new (contents is) =
    ap (λ (us : Values). rest_of app (with_work j w) (effect a us)) alike ∙ sym p.rest in
    record {
      job = record {
        values = contents is;
        is =
            tracks_work app a j w (rest_of app (with_work j w) (effect a vs))
            ∙ sym (p.tracks (rest_of app (with_work j w) (effect a vs)))
            ∙ ap (λ (r : Doing Values). with_rest app new r) rest;
        settled = p.settled;
        waits = λ waiting. absurd (works waiting);
      };
      values =
          ap (λ (r : Doing Values). reached_values r (effect a vs)) rest
          ∙ settled_reaches app new.work.todos (finish new.role) new.work.vars (contents is) (effect a vs)
          p.settled (finish_reaches new.role new.work.vars (contents is) (effect a vs) works);
    }

pub moved_stands : (app : App) (s : AuditorState) (t : laws.State) (k : laws.Job) (ks : List laws.Job) (vs : Values)
    (j new
    : AuditorJob) (is : Store)
    → t ≡ with_jobs (held_with_job s j s.store) t.jobs → s.waiting ≡ waiting_irqs app s.pending → Stands app new is k vs
    → JobsAre app s.jobs ks → StateIs app (held_with_job s new is) (with_first t k ks vs)
moved_stands app s t k ks vs j new is held waiting stands others = record {
  jobs = (stands.job, others);
  is = ap (λ (u : laws.State). with_first u k ks vs) held
      ∙ ap (λ (us : Values). with_first (with_jobs s t.jobs) k ks us) stands.values;
  waiting = waiting;
}

-- the alarm is set to another instant
abbrev pub with_alarm : Option ℕ → AuditorState → AuditorState
with_alarm i s = record s { alarm = i }

alarm_stands : (app : App) (i : Option ℕ) (s : AuditorState) (t : laws.State) → StateIs app s t
    → StateIs app (with_alarm i s) (record t { alarm = i })
alarm_stands app i s t h = record {
  jobs = h.jobs;
  is = ap (λ (u : laws.State). record u { alarm = i }) h.is;
  waiting = h.waiting;
}

set_stands : (app : App) → IsAccepted app → (i : Option ℕ) (s : AuditorState) (t : laws.State) → StateIs app s t
    → StateIs app (held_alarm app i s) (alarm_set app i t)
set_stands app accepted i s t h =
    subst (λ (n : ℕ). StateIs app (held_alarm app i s) (if is_due n i then state_after_pend (timer_number app)
    (record t {
      alarm
          = None;
    }) else record t { alarm = i })) (sym (ap (λ (u : laws.State). u.time) h.is)) (go (is_due s.time i))
  where
    go : (due : Bool) → StateIs app (if due then held_after_pend app (timer_number app) (with_alarm None s) else
        with_alarm
        i s) (if due then state_after_pend (timer_number app) (record t { alarm = None }) else record t { alarm = i })
    go true =
        pended_stands app accepted (timer_number app) (with_alarm None s) (record t { alarm = None }) (alarm_stands app
        None s t h)
    go false = alarm_stands app i s t h

pub beyond_stands : (app : App) → IsAccepted app → (a : Action) (i : Option ℕ) (s : AuditorState) (t : laws.State)
    → StateIs app s t → StateIs app (beyond app a i s) (machine_beyond app a i t)
beyond_stands app accepted (Posts irq) i s t h = pended_stands app accepted irq s t h
beyond_stands app accepted SetsAlarm i s t h = set_stands app accepted i s t h
beyond_stands app accepted _ i s t h = h

-- the running job does an action of its work, which stood on top
pub plain_acts : (app : App) → IsAccepted app → (a : code.Action) (i : Option ℕ) (s new : AuditorState) (t : laws.State)
    (job
    : AuditorJob) → IsPlain (action_of a) → Resumes app (action_of a) job s new
    → StateIs app (before a job s) t → i ≡ least_instant (delays (contents s.store (Guarded section.Timer)))
    → StateIs app (beyond app (action_of a) i new) (state_after_item app t t.jobs)
plain_acts app accepted a i s new t job plain r h early =
    let j = with_work job (with_todos job.work (todo.Act a ∷ [])) in
    let parts = first_of app j s.jobs t.jobs h.jobs in
    let busy = is_busy app j parts.0 job.work (todo.Act a) parts.3 refl in
    let st = job_stands app (action_of a) j r.after job.work s.store r.store t.values busy (ap (λ (u : laws.State).
    u.values) h.is) r.performs in
    let rest : Doing Values = rest_of app (with_work j job.work) (effect (action_of a) t.values) in
    let moved_to : laws.State = with_first t (with_rest app (kept_after_action (action_of a) j) rest) parts.1
    (reached_values rest
    (effect (action_of a) t.values)) in
    let same : i ≡ next_instant t = early ∙ ap (λ (u : laws.State). next_instant u) (sym h.is) in
    let gives : state_after_item app t t.jobs ≡ machine_beyond app (action_of a) (next_instant t) moved_to =
    ap (λ (l : List laws.Job). state_after_item app t l) parts.2
    ∙ plain_given app a t j parts.0 parts.1 job.work plain parts.3 refl in
    let after : StateIs app (beyond app (action_of a) (next_instant t) (held_with_job s r.after r.store))
    (machine_beyond
    app (action_of a) (next_instant t) moved_to) =
    beyond_stands app accepted (action_of a) (next_instant t) (held_with_job s r.after r.store) moved_to
    (moved_stands app s t
    _ parts.1 _ j r.after r.store h.is h.waiting st parts.4) in
    subst (λ (u : laws.State). StateIs app (beyond app (action_of a) i new) u) (sym gives)
    (subst (λ (n : AuditorState). StateIs app (beyond app (action_of a) i n) (machine_beyond app (action_of a)
    (next_instant t) moved_to)) (sym r.is)
    (subst (λ (o : Option ℕ). StateIs app (beyond app (action_of a) o (held_with_job s r.after r.store)) (machine_beyond
    app (action_of a) (next_instant t) moved_to)) (sym same) after))

pub is_plain : (a : code.Action) → IsPlain (action_of a)
is_plain (act.Enter x cost) = tt
is_plain (act.Leave x) = tt
is_plain (act.Emit v) = tt
is_plain (act.Post irq) = tt
is_plain (act.Place n) = tt
is_plain (act.Full n) = tt
is_plain (act.Ready p m) = tt
is_plain (act.Start p m) = tt
is_plain (act.Free n) = tt
is_plain (act.Arm i m) = tt
is_plain (act.Fire m) = tt
is_plain (act.Cancel n h) = tt
is_plain (act.Move n h i) = tt
is_plain act.SetAlarm = tt
is_plain (act.End n) = tt

-- an action that makes nothing pending changes nothing else
pub nothing_beyond : (app : App) (a : code.Action) (i : Option ℕ) (s : AuditorState)
    → ((irq : ℕ) → a ≡ act.Post irq → ⊥)
    → (a ≡ act.SetAlarm → ⊥) → s ≡ beyond app (action_of a) i s
nothing_beyond app (act.Enter x cost) i s posts sets = refl
nothing_beyond app (act.Leave x) i s posts sets = refl
nothing_beyond app (act.Emit v) i s posts sets = refl
nothing_beyond app (act.Post irq) i s posts sets = absurd (posts irq refl)
nothing_beyond app (act.Place n) i s posts sets = refl
nothing_beyond app (act.Full n) i s posts sets = refl
nothing_beyond app (act.Ready p m) i s posts sets = refl
nothing_beyond app (act.Start p m) i s posts sets = refl
nothing_beyond app (act.Free n) i s posts sets = refl
nothing_beyond app (act.Arm instant m) i s posts sets = refl
nothing_beyond app (act.Fire m) i s posts sets = refl
nothing_beyond app (act.Cancel n h) i s posts sets = refl
nothing_beyond app (act.Move n h instant) i s posts sets = refl
nothing_beyond app act.SetAlarm i s posts sets = absurd (sets refl)
nothing_beyond app (act.End n) i s posts sets = refl

pub acted_by : (app : App) → IsAccepted app → (a b : code.Action) (i : Option ℕ) (s mid new : AuditorState)
    (t : laws.State)
    (job : AuditorJob) → a ≡ b → Resumes app (action_of b) job s mid
    → new ≡ beyond app (action_of b) i mid → i ≡ least_instant (delays (contents s.store (Guarded section.Timer)))
    → StateIs app (before a job s) t → StateIs app new (state_after_item app t t.jobs)
acted_by app accepted a b i s mid new t job same r is early h =
    subst (λ (n : AuditorState). StateIs app n (state_after_item app t t.jobs)) (sym is)
    (plain_acts app accepted b i s mid t job (is_plain b) r (subst (λ (c : code.Action). StateIs app (before c job s)
    t) same h) early)
