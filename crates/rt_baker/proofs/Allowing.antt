-- An item, and silent steps in front of it, come where they may.
use Rattle.std.proofs.Common.{◌≡◌, ℕ, zero, suc, ◌<◌, ◌≤◌, List, [], ◌∷◌, Bool, true, false, Option, Some}
use Rattle.std.proofs.Common.{None, if◌then◌else◌, refl, ap, ◌∙◌, sym, subst, arith}
use Rattle.std.specs.List.{AllByRecursion}
use Rattle.std.proofs.lemmas.Option.{none-some, same_Some}
use Rattle.rt_trace.specs.Label.{Label, Arrived, Ticked, Rang, Stepped}
use Rattle.rt_trace.specs.declared.item.What.{What}
use Rattle.rt_trace.specs.declared.item.What.TheVariants as what
use Rattle.rt_app.specs.Tree.{App}
use Rattle.rt_laws.specs.State as laws
use Rattle.rt_laws.specs.Services.{is_declared}
use Rattle.rt_laws.specs.Preemption as preemption
use Rattle.rt_laws.specs.Giving.{item_to_come}
use Rattle.rt_laws.specs.Acting.{state_after_pend}
use Rattle.rt_laws.specs.Allowed.{HasStep, MayStep, Turn, May, state_after_item, after}
use Rattle.rt_laws.specs.Run.{RunsOn}
use Rattle.rt_laws.specs.ByItems.{label_of, after_all, silent}
use Rattle.rt_laws.specs.Silent.{HasSteps, MaySpend, jobs_after_steps}
use Rattle.rt_laws.proofs.Silent.{silent_steps_by_cost, lefts_first}
use Rattle.rt_baker_work.specs.Work.{IsSettled}
use Rattle.rt_baker_moves.specs.State.{AuditorState, StateIs, IsEarly}
use Rattle.rt_baker_moves.proofs.Early.{all_settled, early_held}
use Rattle.rt_baker.specs.Judging.{IsTurn, MayGoOn, Came, Judges, Passes}

-- what a state stands for owes an alarm where the one that is kept does
pub owes_as : (app : App) (s : AuditorState) (t : laws.State) (b : Bool) → StateIs app s t → s.owing ≡ b → t.owing ≡ b
owes_as app s t b h owing = ap (λ (u : laws.State). u.owing) h.is ∙ owing

-- silent steps
no_steps : (k : ℕ) → k ≡ 0 → (app : App) (t : laws.State) → after_all app t (silent k) ≡ t
no_steps k none app t = ap (λ (n : ℕ). after_all app t (silent n)) none

none_run : (k : ℕ) → k ≡ 0 → (app : App) (t : laws.State) → RunsOn app t (silent k)
none_run k none app t = subst (λ (n : ℕ). RunsOn app t (silent n)) (sym none) tt

pub pass_none : (app : App) (s : AuditorState) (k : ℕ) → k ≡ 0 → Passes app true s s k
unfolding Passes
pass_none app s k none = λ t h. record {
  runs = none_run k none app t;
  is = subst (λ (u : laws.State). StateIs app s u) (sym (no_steps k none app t)) h;
}

steps_need : (k : ℕ) → 0 < k → (app : App) (t : laws.State) → RunsOn app t (silent k)
    → (t.owing ≡ false) × (preemption.candidate app t ≡ None) × MaySpend k t.jobs
steps_need zero some app t runs = absurd (omega (arith, some))
steps_need (suc k) some app t runs = silent_steps_by_cost.needs app t k runs

pub pass_owing : (app : App) (s new : AuditorState) (k : ℕ) → 0 < k → s.owing ≡ true → Passes app false s new k
unfolding Passes
pass_owing app s new k some owing = λ t h runs.
    let need = steps_need k some app t runs in
    let free : t.owing ≡ false = need.0 in
    let owed : t.owing ≡ true = owes_as app s t true h owing in
    absurd cc

pub pass_stopped : (app : App) (s new : AuditorState) (k : ℕ) → 0 < k
    → ((t : laws.State) → StateIs app s t → preemption.candidate app t ≡ None → MaySpend k t.jobs → ⊥)
    → Passes app false s new k
unfolding Passes
pass_stopped app s new k some stops = λ t h runs.
    let need = steps_need k some app t runs in stops t h need.1 need.2

pub pass_some : (app : App) (s new : AuditorState) (k : ℕ) → s.owing ≡ false
    → ((t : laws.State) → StateIs app s t → (preemption.candidate app t ≡ None) × MaySpend k t.jobs)
    → ((a : App) (t : laws.State) → StateIs a s t → StateIs a new (record t { jobs = jobs_after_steps k t.jobs }))
    → Passes app true s new k
unfolding Passes
pass_some app s new k owing may spends = λ t h. record {
  runs = silent_steps_by_cost.may app t k (owes_as app s t false h owing) (may t h).0 (may t h).1;
  is = subst (λ (u : laws.State). StateIs app new u) (sym (silent_steps_by_cost.leads app t k)) (spends app t h);
}

-- an item whose label is this
came : (app : App) (t : laws.State) (w : What) (new : AuditorState) (l : Label) → label_of t.owing w ≡ l → May app t l
    → StateIs app new (after app t l) → Came app t w new
came app t w new l is may h = record {
  may = subst (λ (m : Label). May app t m) (sym is) may;
  is = subst (λ (m : Label). StateIs app new (after app t m)) (sym is) h;
}

alarm_owed : (b : Bool) (w : What) → b ≡ true → w ≡ what.Alarm → label_of b w ≡ Rang
alarm_owed b w owed is =
    ap (λ (v : What). label_of b v) is ∙ ap (λ (c : Bool). if c then Rang else Stepped (Some what.Alarm)) owed

pub rang : (app : App) (s new : AuditorState) (w : What) → s.owing ≡ true → w ≡ what.Alarm
    → ((t : laws.State) → StateIs app s t → StateIs app new (after app t Rang)) → Judges app true s new w
unfolding Judges
rang app s new w owing is rings = λ t h.
    let owed : t.owing ≡ true = owes_as app s t true h owing in
    came app t w new Rang (alarm_owed t.owing w owed is) owed (rings t h)

only_rings : (app : App) (t : laws.State) (b : Bool) (w : What) → t.owing ≡ true → (w ≡ what.Alarm → ⊥)
    → May app t (label_of b w) → ⊥
only_rings app t b (what.Pend irq) owed other may = let free : t.owing ≡ false = may.0 in cc
only_rings app t b what.Tick owed other may = let free : t.owing ≡ false = may in cc
only_rings app t b what.Alarm owed other may = other refl
only_rings app t b (what.Take irq depth) owed other may = let free : t.owing ≡ false = may.0 in cc
only_rings app t b w owed other may = let free : t.owing ≡ false = may.0.not_owing in cc

pub not_rung : (app : App) (s new : AuditorState) (w : What) → s.owing ≡ true → (w ≡ what.Alarm → ⊥)
    → Judges app false s new w
unfolding Judges
not_rung app s new w owing other = λ t h may. only_rings app t t.owing w (owes_as app s t true h owing) other may

pub arrived : (app : App) (s new : AuditorState) (irq n : ℕ) → s.owing ≡ false → n ≡ irq → is_declared app n ≡ true
    → ((t : laws.State) → StateIs app s t → StateIs app new (state_after_pend n t))
    → Judges app true s new (what.Pend irq)
unfolding Judges
arrived app s new irq n owing same declared arrives = λ t h.
    came app t (what.Pend irq) new (Arrived irq) refl
    (owes_as app s t false h owing, ap (is_declared app) (sym same) ∙ declared)
    (subst (λ (i : ℕ). StateIs app new (state_after_pend i t)) same (arrives t h))

pub not_declared : (app : App) (s new : AuditorState) (irq n : ℕ) → n ≡ irq → is_declared app n ≡ false
    → Judges app false s new (what.Pend irq)
unfolding Judges
not_declared app s new irq n same none = λ t h may.
    let is : is_declared app irq ≡ true = may.1 in
    let is_not : is_declared app irq ≡ false = ap (is_declared app) (sym same) ∙ none in cc

pub ticked : (app : App) (s new : AuditorState) (w : What) → s.owing ≡ false → w ≡ what.Tick
    → ((a : App) (t : laws.State) → StateIs a s t → StateIs a new (after a t Ticked))
    → Judges app true s new w
unfolding Judges
ticked app s new w owing is ticks = λ t h.
    came app t w new Ticked (ap (label_of t.owing) is) (owes_as app s t false h owing) (ticks app t h)

-- what a state is known of that may go on
pub kept_early : (app : App) (s : AuditorState) → MayGoOn app s → IsEarly s
kept_early app s h = early_held app s h.state h.count h.is h.within h.few

pub kept_settled : (app : App) (s : AuditorState) → MayGoOn app s → AllByRecursion (λ j. IsSettled j.work.todos) s.jobs
kept_settled app s h = all_settled app s.jobs h.state.jobs h.is.jobs

pub taken : (app : App) (s new : AuditorState) (irq n : ℕ) (o : Option ℕ) → s.owing ≡ false → n ≡ irq → o ≡ Some n
    → ((t : laws.State) → StateIs app s t → o ≡ preemption.candidate app t)
    → ((depth : ℕ) (t : laws.State) → StateIs app s t → StateIs app new (after app t (Stepped (Some (what.Take n
    depth)))))
    → (depth : ℕ) → Judges app true s new (what.Take irq depth)
unfolding Judges
taken app s new irq n o owing same chosen finds takes depth = λ t h.
    came app t (what.Take irq depth) new (Stepped (Some (what.Take irq depth))) refl
    (owes_as app s t false h owing, sym (finds t h) ∙ chosen ∙ ap (λ (i : ℕ). Some i) same)
    (subst (λ (i : ℕ). StateIs app new (after app t (Stepped (Some (what.Take i depth))))) same (takes depth t h))

pub not_taken : (app : App) (s new : AuditorState) (irq n : ℕ) (o : Option ℕ) → n ≡ irq → (o ≡ Some n → ⊥)
    → ((t : laws.State) → StateIs app s t → o ≡ preemption.candidate app t)
    → (depth : ℕ) → Judges app false s new (what.Take irq depth)
unfolding Judges
not_taken app s new irq n o same other finds depth = λ t h may.
    other (finds t h ∙ may.1 ∙ ap (λ (i : ℕ). Some i) (sym same))

pub none_first : (n : ℕ) (o : Option ℕ) → o ≡ None → o ≡ Some n → ⊥
none_first n o none is = none-some n (sym none ∙ is)

pub other_first : (n m : ℕ) (o : Option ℕ) → o ≡ Some m → (m ≡ n → ⊥) → o ≡ Some n → ⊥
other_first n m o first other is = other (same_Some m n (sym first ∙ is))

-- a step of the running job
turn_label : (b : Bool) (w : What) → b ≡ false → IsTurn w → label_of b w ≡ Stepped (Some w)
turn_label b (what.Pend irq) free is = absurd is
turn_label b what.Tick free is = absurd is
turn_label b what.Alarm free is = ap (λ (c : Bool). if c then Rang else Stepped (Some what.Alarm)) free
turn_label b (what.Take irq depth) free is = absurd is
turn_label b w free is = refl

turn_may : (app : App) (t : laws.State) (w : What) → IsTurn w → Turn app t → item_to_come t ≡ Some w
    → May app t (Stepped (Some w))
turn_may app t (what.Take irq depth) is turn gave = absurd is
turn_may app t w is turn gave = (turn, gave)

turn_needs : (app : App) (t : laws.State) (w : What) → IsTurn w → May app t (Stepped (Some w))
    → Turn app t × (item_to_come t ≡ Some w)
turn_needs app t (what.Take irq depth) is may = absurd is
turn_needs app t w is may = (may.0, may.1)

turn_after : (app : App) (t : laws.State) (w : What) → IsTurn w → state_after_item app t t.jobs
    ≡ after app t (Stepped (Some w))
turn_after app t (what.Take irq depth) is = absurd is
turn_after app t w is = refl

step_of : (role : laws.Role) (left : ℕ) → HasSteps role left 1 → HasStep role left
step_of laws.Init left has = omega (arith, has)
step_of laws.Idle left has = omega (arith, has)
step_of laws.Waiting left has = tt
step_of (laws.Serving irq) left has = omega (arith, has)

steps_of_one : (role : laws.Role) (left : ℕ) → HasStep role left → HasSteps role left 1
steps_of_one laws.Init left has = omega (arith, has)
steps_of_one laws.Idle left has = omega (arith, has)
steps_of_one laws.Waiting left has = tt
steps_of_one (laws.Serving irq) left has = omega (arith, has)

lefts_of : (ns : List ℕ) → AllByRecursion (λ n. 1 ≤ n) ns → AllByRecursion (λ n. 0 < n) ns
lefts_of [] all = tt
lefts_of (n ∷ ns) all = let here = all.0 in (omega arith, lefts_of ns all.1)

may_step : (js : List laws.Job) → MaySpend 1 js → MayStep js
may_step [] may = absurd may
may_step (j ∷ js) may = (step_of j.role j.left may.0, lefts_of j.lefts may.1)

step_needs : (js : List laws.Job) → MayStep js → MaySpend 1 js
step_needs [] may = absurd may
step_needs (j ∷ js) may = (steps_of_one j.role j.left may.0, lefts_first j.lefts may.1)

pub turned : (app : App) (s new : AuditorState) (w : What) → s.owing ≡ false → IsTurn w
    → ((t : laws.State) → StateIs app s t → (preemption.candidate app t ≡ None) × MaySpend 1 t.jobs)
    → ((a : App) (t : laws.State) → StateIs a s t → item_to_come t ≡ Some w)
    → ((t : laws.State) → StateIs app s t → StateIs app new (state_after_item app t t.jobs))
    → Judges app true s new w
unfolding Judges
turned app s new w owing is may gave acts = λ t h.
    let free : t.owing ≡ false = owes_as app s t false h owing in
    came app t w new (Stepped (Some w)) (turn_label t.owing w free is)
    (turn_may app t w is
    (record { not_owing = free; quiet = (may t h).0; step = may_step t.jobs (may t h).1 }) (gave app t h))
    (subst (λ (u : laws.State). StateIs app new u) (turn_after app t w is) (acts t h))

may_turn : (app : App) (s : AuditorState) (w : What) (t : laws.State) → s.owing ≡ false → IsTurn w → StateIs app s t
    → May app t (label_of t.owing w) → Turn app t × (item_to_come t ≡ Some w)
may_turn app s w t owing is h may =
    turn_needs app t w is
    (subst (λ (l : Label). May app t l) (turn_label t.owing w (owes_as app s t false h owing) is) may)

pub turn_stopped : (app : App) (s new : AuditorState) (w : What) → s.owing ≡ false → IsTurn w
    → ((t : laws.State) → StateIs app s t → preemption.candidate app t ≡ None → MaySpend 1 t.jobs → ⊥)
    → Judges app false s new w
unfolding Judges
turn_stopped app s new w owing is stops = λ t h may.
    let turn = may_turn app s w t owing is h may in
    stops t h turn.0.quiet (step_needs t.jobs turn.0.step)

pub turn_other : (app : App) (s new : AuditorState) (w : What) → s.owing ≡ false → IsTurn w
    → ((a : App) (t : laws.State) → StateIs a s t → item_to_come t ≡ Some w → ⊥)
    → Judges app false s new w
unfolding Judges
turn_other app s new w owing is other = λ t h may.
    let turn = may_turn app s w t owing is h may in other app t h turn.1
