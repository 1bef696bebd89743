-- Things to do that come on top, some and then others.
use Rattle.std.proofs.Common.{◌≡◌, ℕ, ◌<◌, ◌≤◌, nat_lt, Bool, true, false, List, [], ◌∷◌, Option, Some}
use Rattle.std.proofs.Common.{None, refl, ap, ◌∙◌, sym, arith, if◌then◌else◌, append_assoc, is_some, set}
use Rattle.std.proofs.lemmas.Bool.Decides.{nat_tests}
use Rattle.rt_actions.specs.Location.{Guarded}
use Rattle.rt_actions.specs.Content.{Message, Values, number, timer_content, delays, message_of_handle}
use Rattle.rt_actions.specs.Action.{Enters, Leaves, Clocks, Cancels, Frees}
use Rattle.rt_actions.specs.Doing.{does}
use Rattle.rt_ids.specs.declared.ids.Section.TheVariants as section
use Rattle.rt_app.specs.declared.costs.TheConstants.{READY_COST, FREE_COST}
use Rattle.rt_app.specs.Tree.{App}
use Rattle.rt_app.specs.Bodies.{task_priority}
use Rattle.rt_app.specs.BodyCost.{timer_section_cost}
use Rattle.rt_app.specs.Sending.{act, act_all, leave_timer, arm_actions, capacity_of, dispatcher_number}
use Rattle.rt_app.specs.Sending.{ready_actions}
use Rattle.rt_app.specs.Meaning.{Later}
use Rattle.rt_baker_work.specs.declared.action.Action.{Action}
use Rattle.rt_baker_work.specs.declared.action.Action.TheVariants as action
use Rattle.rt_baker_work.specs.declared.todo.Todo.{Todo}
use Rattle.rt_baker_work.specs.declared.todo.Todo.TheVariants as todo
use Rattle.rt_baker_work.specs.declared.todo.Reading.TheVariants as reading
use Rattle.rt_baker_work.specs.Actions.{action_of}
use Rattle.rt_baker_work.specs.Store.{Store, contents}
use Rattle.rt_baker_work.specs.Todo.{give_answer, give_handle, send_message, place_message, use_clock, cancel_message}
use Rattle.rt_baker_work.specs.Todo.{move_message, behind}
use Rattle.rt_baker_work.specs.Work.{Work, Becomes}
use Rattle.rt_baker_work.specs.Inside.Pushes.{Pushes}
use Rattle.rt_baker_work.proofs.Walks.{made, with_todos, behind_more, three_more, variable_set}

pub all_pushed : (app : App) (f : Later → Later) (old new : Work) (ts : List Todo) → new ≡ with_todos old ts
    → ((later : Later) (vars : List ℕ) (vs : Values) → f later vars vs ≡ behind app ts later vars vs)
    → Pushes app f old new
all_pushed app f old new ts is means = record {
  vars = ap (λ (w : Work). w.vars) is;
  same = λ later vars vs.
      means (behind app old.todos later) vars vs
      ∙ ap (λ (l : Later). l vars vs) (sym (behind_more app old.todos ts later))
      ∙ ap (λ (w : Work). behind app w.todos later vars vs) (sym is);
}

-- first some things and then others on top of them
pub then_pushed : (app : App) (f g : Later → Later) (old mid new : Work) → Pushes app f old mid
    → Pushes app g mid new → Pushes app (λ later. g (f later)) old new
then_pushed app f g old mid new p q = record {
  vars = q.vars ∙ p.vars;
  same = λ later vars vs. ap (λ (l : Later). g l vars vs) (λ i ws us. p.same later ws us i) ∙ q.same later vars vs;
}

pub as_pushes : (app : App) (f g : Later → Later) (old new : Work)
    → ((later : Later) (vars : List ℕ) (vs : Values) → g later vars vs ≡ f later vars vs)
    → Pushes app f old new → Pushes app g old new
as_pushes app f g old new same p = record {
  vars = p.vars;
  same = λ later vars vs. same (behind app old.todos later) vars vs ∙ p.same later vars vs;
}

pub pushes_become : (app : App) (f first : Later → Later) (old new : Work) (s : Store) → ((later : Later)
    → first later old.vars (contents s) ≡ f later old.vars (contents s))
    → Pushes app f old new → Becomes app first old s new s
pushes_become app f first old new s same p = record {
  same = λ later.
      same (behind app old.todos later) ∙ p.same later old.vars (contents s)
      ∙ ap (λ (vars : List ℕ). behind app new.todos later vars (contents s)) (sym p.vars);
}

pub four_more : (old a b c d : Work) (t u v w : Todo) → a ≡ with_todos old (t ∷ []) → b ≡ with_todos a (u ∷ [])
    → c ≡ with_todos b (v ∷ []) → d ≡ with_todos c (w ∷ [])
    → d ≡ with_todos old (t ∷ u ∷ v ∷ w ∷ [])
four_more old a b c d t u v w e f g h =
    h ∙ ap (λ (k : Work). with_todos k (w ∷ [])) (three_more old a b c t u v e f g)
    ∙ ap (λ (ts : List Todo). made ts old.vars) (append_assoc old.todos (t ∷ u ∷ v ∷ []) (w ∷ []))

-- a variable that is told, or none
pub told_none : (v : Option ℕ) (n : ℕ) (w : Work) → v ≡ None → (app : App) → Pushes app (give_answer v n) w w
told_none v n w is app = record {
  vars = refl;
  same = λ later vars vs. ap (λ (o : Option ℕ). give_answer o n (behind app
      w.todos later) vars vs) is;
}

pub told_some : (v : Option ℕ) (x n : ℕ) (old new : Work) → v ≡ Some x → new ≡ with_todos old (todo.Set x n ∷ [])
    → (app : App) → Pushes app (give_answer v n) old new
unfolding behind
told_some v x n old new is grown app =
    all_pushed app (give_answer v n) old new (todo.Set x n ∷ []) grown
    (λ later vars vs. ap (λ (o : Option ℕ). give_answer o n
    later vars vs) is)

-- a message becomes ready
pub readied : (app : App) (m : Message) (p d : ℕ) (old new : Work) → p ≡ task_priority app m.task
    → d ≡ dispatcher_number app p
    → new ≡ with_todos old (todo.Act (action.Leave (section.Ready p)) ∷ todo.Act (action.Post d) ∷ todo.Act
    (action.Ready p m) ∷ todo.Act (action.Enter (section.Ready p) READY_COST) ∷ [])
    → Pushes app (λ later vars. act_all (ready_actions app (task_priority app m.task) m) (later vars)) old new
unfolding behind
readied app m p d old new level served grown =
    all_pushed app _ old new _ grown
    (λ later vars vs.
    ap (λ (q : ℕ). act_all (ready_actions app q m) (later vars) vs) (sym level)
    ∙ ap (λ (e : ℕ). behind app (todo.Act (action.Leave (section.Ready p)) ∷ todo.Act (action.Post e) ∷ todo.Act
    (action.Ready p m) ∷ todo.Act (action.Enter (section.Ready p) READY_COST) ∷ []) later vars vs)
    (sym served))

-- a variable that is told the handle, or none
pub handed_none : (v : Option ℕ) (w : Work) → v ≡ None → (app : App) → Pushes app (give_handle v) w w
handed_none v w is app = record {
  vars = refl;
  same = λ later vars vs. ap (λ (o : Option ℕ). give_handle o (behind app w.todos later) vars vs) is;
}

pub handed_some : (v : Option ℕ) (x : ℕ) (old new : Work) → v ≡ Some x → new ≡ with_todos old (todo.Handle x ∷ [])
    → (app : App) → Pushes app (give_handle v) old new
unfolding behind
handed_some v x old new is grown app =
    all_pushed app (give_handle v) old new (todo.Handle x ∷ []) grown
    (λ later vars vs. ap (λ (o : Option ℕ). give_handle o later vars vs) is)

-- a message that is sent at once, or behind a delay
pub sent_soon : (app : App) (variable delay : Option ℕ) (m : Message) (old mid new : Work) → delay ≡ None
    → Pushes app (give_answer variable 1) old mid
    → Pushes app (λ later vars. act_all (ready_actions app (task_priority app m.task) m) (later vars)) mid new
    → Pushes app (λ later vars. send_message app delay m (λ value. give_answer variable value later vars)) old new
sent_soon app variable delay m old mid new is told p =
    as_pushes app _ _ old new
    (λ later vars vs. ap (λ (o : Option ℕ). send_message app o m (λ value. give_answer variable value later vars) vs)
    is)
    (then_pushed app (give_answer variable 1)
    (λ later vars. act_all (ready_actions app (task_priority app m.task) m) (later vars)) old mid new told p)

pub armed : (app : App) (variable : Option ℕ) (ticks cost : ℕ) (m : Message) (old a b new : Work)
    → cost ≡ timer_section_cost app
    → a ≡ with_todos old (todo.Act (action.Leave section.Timer) ∷ todo.Act action.SetAlarm ∷ [])
    → Pushes app (give_handle variable) a b
    → new ≡ with_todos b (todo.Clock (reading.Arm ticks m) ∷ todo.Act (action.Enter section.Timer cost) ∷ [])
    → Pushes app (λ later vars. arm_actions app (timer_section_cost app) ticks m
    (λ value. give_answer variable value later
    vars)) old new
unfolding behind
armed app variable ticks cost m old a b new takes closes hands grown =
    let p = all_pushed app leave old a _ closes (λ later vars vs. refl) in
    let q = all_pushed app enter b new _ grown
    (λ later vars vs.
    ap (λ (k : ℕ). behind app (todo.Clock (reading.Arm ticks m) ∷ todo.Act (action.Enter section.Timer k) ∷ []) later
    vars vs) (sym takes)) in
    as_pushes app _ _ old new (same variable)
    (then_pushed app (λ later. give_handle variable (leave later)) enter old b new
    (then_pushed app leave (give_handle variable) old a b p hands) q)
  where
    leave : Later → Later
    leave later vars vs = leave_timer app (later vars) vs

    enter : Later → Later
    enter later vars vs =
        behind app (todo.Clock (reading.Arm ticks m) ∷ todo.Act (action.Enter section.Timer (timer_section_cost app))
        ∷ []) later vars vs

    same : (v : Option ℕ) (later : Later) (vars : List ℕ) (vs : Values)
        → arm_actions app (timer_section_cost app) ticks m (λ value. give_answer v value later vars) vs
        ≡ enter (give_handle v (leave later)) vars vs
    same None later vars vs = refl
    same (Some x) later vars vs = refl

pub sent_after : (app : App) (variable delay : Option ℕ) (ticks : ℕ) (m : Message) (old new : Work)
    → delay ≡ Some ticks
    → Pushes app (λ later vars. arm_actions app (timer_section_cost app) ticks m
    (λ value. give_answer variable value later
    vars)) old new
    → Pushes app (λ later vars. send_message app delay m (λ value. give_answer variable value later vars)) old new
sent_after app variable delay ticks m old new is p =
    as_pushes app _ _ old new
    (λ later vars vs. ap (λ (o : Option ℕ). send_message app o m (λ value. give_answer variable value later vars) vs)
    is) p

-- an action, and the end of the section in which it stands
leaving_pushed : (app : App) (a : Action) (n : ℕ) (old new : Work)
    → new ≡ with_todos old (todo.Act (action.Leave (section.Free n)) ∷ todo.Act a ∷ [])
    → Pushes app (λ later vars vs. act_all (action_of a ∷ action_of (action.Leave (section.Free n)) ∷ []) (later vars)
    vs) old new
unfolding behind
leaving_pushed app a n old new grown =
    all_pushed app (λ later vars vs. act_all (action_of a ∷ action_of (action.Leave (section.Free n)) ∷ []) (later vars)
    vs) old new _ grown (λ later vars vs. refl)

-- a message of this task, of whose places so many are taken
module _ (app : App) (variable delay : Option ℕ) (m : Message) (n : ℕ) (old : Work) (s : Store) (out capacity : ℕ)
    (task : n ≡ m.task) (counted : out ≡ number (contents s (Guarded (section.Free n))))
    (has : capacity ≡ capacity_of app n) where
  -- what comes with a place, and without one
  abbrev chosen : Bool → ℕ → Later → Later
  chosen is_left k later vars vs =
      if is_left
      then act_all (action_of (action.Place k) ∷ action_of (action.Leave (section.Free k)) ∷ [])
      (send_message app delay m (λ value. give_answer variable value later vars)) vs
      else act_all (action_of (action.Full k) ∷ action_of (action.Leave (section.Free k)) ∷ [])
      (give_answer variable 0 later vars) vs

  place_chosen : (is_left : Bool) → nat_lt out capacity ≡ is_left → (later : Later)
      → place_message app variable delay m later old.vars (contents s) ≡ chosen is_left n later old.vars (contents s)
  place_chosen is_left is later =
      let test : nat_lt (number (contents s (Guarded (section.Free n)))) (capacity_of app n) ≡ is_left = rw (
        ← counted,
        ← has,
      ) is in
      ap (λ (k : ℕ). chosen (nat_lt (number (contents s (Guarded (section.Free k)))) (capacity_of app k)) k later
      old.vars (contents s)) (sym task)
      ∙ ap (λ (is_left : Bool). chosen is_left n later old.vars (contents s)) test

  -- a place is taken where one is left
  pub place_taken : (b new : Work) → out < capacity
      → Pushes app (λ later vars. send_message app delay m (λ value. give_answer variable value later vars)) old b
      → new ≡ with_todos b (todo.Act (action.Leave (section.Free n)) ∷ todo.Act (action.Place n) ∷ [])
      → Becomes app (place_message app variable delay m) old s new s
  place_taken b new room sends grown =
      pushes_become app _ (place_message app variable delay m) old new s
      (place_chosen true (grind (arith, nat_tests)))
      (then_pushed app _ _ old b new sends (leaving_pushed app (action.Place n) n b new grown))

  pub place_refused : (a new : Work) → capacity ≤ out → Pushes app (give_answer variable 0) old a
      → new ≡ with_todos a (todo.Act (action.Leave (section.Free n)) ∷ todo.Act (action.Full n) ∷ [])
      → Becomes app (place_message app variable delay m) old s new s
  place_refused a new full told grown =
      pushes_become app _ (place_message app variable delay m) old new s
      (place_chosen false (grind (arith, nat_tests)))
      (then_pushed app _ _ old a new told (leaving_pushed app (action.Full n) n a new grown))

-- a variable holds the handle that was given last
pub handle_told : (app : App) (x h : ℕ) (old new : Work) (s : Store)
    → h ≡ (timer_content (contents s (Guarded section.Timer))).given → new ≡ made old.todos (set old.vars x h)
    → Becomes app (give_handle (Some x)) old s new s
handle_told app x h old new s is written =
    variable_set app (give_handle (Some x)) old new s x h written
    (λ later. ap (λ (k : ℕ). later (set old.vars x k) (contents s)) (sym is))

-- no message has the handle
pub missed : (app : App) (variable : Option ℕ) (old a new : Work) → Pushes app (give_answer variable 1) old a
    → new ≡ with_todos a (todo.Act (action.Leave section.Timer) ∷ [])
    → Pushes app (λ later vars. act (Leaves section.Timer) (give_answer variable 1 later vars)) old new
unfolding behind
missed app variable old a new told grown =
    then_pushed app (give_answer variable 1) (λ later vars. act (Leaves section.Timer) (later vars)) old a new told
    (all_pushed app _ a new _ grown (λ later vars vs. refl))

abbrev armed_in : ℕ → ℕ → Store → Bool
armed_in n h s = is_some (message_of_handle n h (delays (contents s (Guarded section.Timer))))

-- the message of a handle is taken back, where there is one
abbrev chosen_cancel : App → Option ℕ → ℕ → ℕ → Bool → Later → Later
chosen_cancel app variable n h found later vars vs =
    if found then act (Cancels n h) (leave_timer app
    (act_all (Enters (section.Free n) FREE_COST ∷ Frees n ∷ Leaves (section.Free n) ∷ []) (give_answer variable 0 later
    vars))) vs
    else act (Leaves section.Timer) (give_answer variable 1 later vars) vs

pub cancel_missed : (app : App) (variable : Option ℕ) (n h : ℕ) (old new : Work) (s : Store) (test : Bool)
    → test ≡ armed_in n h s → test ≡ false
    → Pushes app (λ later vars. act (Leaves section.Timer) (give_answer variable 1 later vars)) old new
    → Becomes app (cancel_message app variable n h) old s new s
cancel_missed app variable n h old new s test is unknown p =
    pushes_become app _ (cancel_message app variable n h) old new s
    (λ later. ap (λ (b : Bool). chosen_cancel app variable n h b later old.vars (contents s)) (sym is ∙ unknown)) p

pub cancel_found : (app : App) (variable : Option ℕ) (n h : ℕ) (old a b new : Work) (s : Store) (test : Bool)
    → test ≡ armed_in n h s → test ≡ true → Pushes app (give_answer variable 0) old a
    → b ≡ with_todos a (todo.Act (action.Leave (section.Free n)) ∷ todo.Act (action.Free n) ∷ todo.Act (action.Enter
    (section.Free n) FREE_COST) ∷ [])
    → new ≡ with_todos b (todo.Act (action.Leave section.Timer) ∷ todo.Act action.SetAlarm ∷ todo.Act (action.Cancel
    n h) ∷ [])
    → Becomes app (cancel_message app variable n h) old s new s
unfolding behind
cancel_found app variable n h old a b new s test is known told frees grown =
    let p = all_pushed app back a b _ frees (λ later vars vs. refl) in
    let q = all_pushed app out b new _ grown (λ later vars vs. refl) in
    pushes_become app _ (cancel_message app variable n h) old new s
    (λ later. ap (λ (b : Bool). chosen_cancel app variable n h b later old.vars (contents s)) (sym is ∙ known))
    (then_pushed app (λ later. back (give_answer variable 0 later)) out old b new
    (then_pushed app (give_answer variable 0) back old a b told p) q)
  where
    back : Later → Later
    back later vars vs =
        act_all (Enters (section.Free n) FREE_COST ∷ Frees n ∷ Leaves (section.Free n) ∷ []) (later vars) vs

    out : Later → Later
    out later vars vs = act (Cancels n h) (leave_timer app (later vars)) vs

-- it is put off, where there is one
abbrev chosen_move : App → Option ℕ → ℕ → ℕ → ℕ → Bool → Later → Later
chosen_move app variable delay n h found later vars vs =
    if found then does Clocks vs (λ time. use_clock app (reading.Move delay n h) time
    (λ vars. leave_timer app (give_answer variable 0 later vars)) vars)
    else act (Leaves section.Timer) (give_answer variable 1 later vars) vs

pub move_missed : (app : App) (variable : Option ℕ) (delay n h : ℕ) (old new : Work) (s : Store) (test : Bool)
    → test ≡ armed_in n h s → test ≡ false
    → Pushes app (λ later vars. act (Leaves section.Timer) (give_answer variable 1 later vars)) old new
    → Becomes app (move_message app variable delay n h) old s new s
move_missed app variable delay n h old new s test is unknown p =
    pushes_become app _ (move_message app variable delay n h) old new s
    (λ later. ap (λ (b : Bool). chosen_move app variable delay n h b later old.vars (contents s)) (sym is ∙ unknown)) p

pub move_found : (app : App) (variable : Option ℕ) (delay n h : ℕ) (old a new : Work) (s : Store) (test : Bool)
    → test ≡ armed_in n h s → test ≡ true → Pushes app (give_answer variable 0) old a
    → new ≡ with_todos a (todo.Act (action.Leave section.Timer) ∷ todo.Act action.SetAlarm ∷ todo.Clock (reading.Move
    delay n h) ∷ [])
    → Becomes app (move_message app variable delay n h) old s new s
unfolding behind
move_found app variable delay n h old a new s test is known told grown =
    let p = all_pushed app out a new _ grown (λ later vars vs. refl) in
    pushes_become app _ (move_message app variable delay n h) old new s
    (λ later. ap (λ (b : Bool). chosen_move app variable delay n h b later old.vars (contents s)) (sym is ∙ known))
    (then_pushed app (give_answer variable 0) out old a new told p)
  where
    out : Later → Later
    out later vars vs = does Clocks vs (λ time. use_clock app (reading.Move delay n h) time
        (λ vars. leave_timer app (later vars)) vars)
