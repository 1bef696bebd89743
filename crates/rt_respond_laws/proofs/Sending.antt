-- What code releases: a Doing releases at most so much, along each way on which it can go on. What it does next goes by
-- the values, of which each ready queue holds messages of its own level.
use Rattle.std.proofs.Common.{◌≡◌, ℕ, zero, suc, ◌+◌, ◌-◌, ◌*◌, ◌≤◌, ◌<◌, ◌==◌, Bool, true, false, if◌then◌else◌}
use Rattle.std.proofs.Common.{Contains, List, [], ◌∷◌, length, map, slice_set, min, Option, Some, None, refl}
use Rattle.std.proofs.Common.{sym, subst, ◌∙◌, arith, eq-eqb}
use Rattle.std.proofs.lemmas.Bool.{eqb-true}
use Rattle.std.proofs.lemmas.Option.{same_Some, none-some}
use Rattle.rt_lemmas.proofs.Bools.{or_left, or_right}
use Rattle.rt_ids.specs.Lists.{or_zero}
use Rattle.rt_ids.specs.declared.ids.Section.TheVariants as section
use Rattle.rt_actions.specs.Content.{Message, Values}
use Rattle.rt_actions.specs.Action.{Action, Leaves, Posts, Places, FindsFull, Readies, Starts, Frees, Arms}
use Rattle.rt_actions.specs.Action.{Fires, Cancels, SetsAlarm}
use Rattle.rt_actions.specs.Doing.{Doing, over, does}
use Rattle.rt_trace.specs.declared.item.What.{What}
use Rattle.rt_trace.specs.declared.item.What.TheVariants as what
use Rattle.rt_app.specs.declared.expr.Atom.{Atom}
use Rattle.rt_app.specs.declared.expr.Atom.TheVariants as atom
use Rattle.rt_app.specs.Tree.{Expression, Spawn, Soon, After, Cancel, Move, Calc, Now, Call, Statement, Bind, Assign}
use Rattle.rt_app.specs.Tree.{Branch, Repeat, Locked, Emit, Pend, Spawns, Block, Empty, Then, Task, App}
use Rattle.rt_app.specs.Accepted.{IsAccepted}
use Rattle.rt_app.specs.Variables.{variables, variables_in}
use Rattle.rt_app.specs.Bodies.{Member, task_priority}
use Rattle.rt_app.specs.Level.{levels}
use Rattle.rt_app.specs.Handlers.{irq_number}
use Rattle.rt_app.specs.Sending.{Rest, act_all, has_place, place_actions, ready_actions, dispatcher_number}
use Rattle.rt_app.specs.Sending.{spawn_actions}
use Rattle.rt_app.specs.Meaning.{Later, value_in, assign, turns_from, run, run_block}
use Rattle.rt_app.specs.Sound.{IsSoundSpawn, IsSoundStatement, IsSoundBlock}
use Rattle.rt_laws.proofs.Fine.{Queued}
use Rattle.rt_laws.specs.Places.{Hand}
use Rattle.rt_laws.proofs.Hands.{InTransit, Bare, Forwards, GivesBack, hand_of, transit_then}
use Rattle.rt_respond.specs.Form.{is_of_form}
use Rattle.rt_respond.specs.Number.{plus, greater_of, times}
use Rattle.rt_respond.specs.Pends.{statement_pends, block_pends}
use Rattle.rt_respond.specs.Work.{spawn_sends, statement_sends, block_sends}
use Rattle.rt_respond.specs.declared.handler.Release.{Release}
use Rattle.rt_respond.specs.declared.handler.Release.TheVariants as released_by
use Rattle.rt_respond.specs.declared.number.TheConstants.{MOST_WORK}
use Rattle.rt_respond_laws.proofs.Tasks.{software_level, task_priority_is, no_mono}

-- what a post of an interrupt of this number asks for, a message of this task that becomes ready, and a place of it
-- that is asked for
pub record Posting : Type 0 where
  pub irq : ℕ → Option ℕ
  pub task : ℕ → Option ℕ
  pub place : ℕ → ℕ

-- what an action releases: one that asks for a place, whether it is there or all are out, or leaves one in the hands of
-- its job, releases that place; one that sets the alarm has no number, since no code does where there is no monotonic
abbrev pub released : Posting → Action → Option ℕ
released posts (Posts irq) = posts.irq irq
released posts (Readies q m) = posts.task m.task
released posts (Places n) = Some (posts.place n)
released posts (FindsFull n) = Some (posts.place n)
released posts (Starts q m) = Some (posts.place m.task)
released posts (Fires m) = Some (posts.place m.task)
released posts (Cancels n h) = Some (posts.place n)
released posts SetsAlarm = None
released posts action = Some 0

-- what counts of the place that a job has in its hands
abbrev pub place_of : Posting → InTransit → ℕ
place_of posts Bare = 0
place_of posts (Forwards t) = posts.place t
place_of posts (GivesBack t) = posts.place t

abbrev pub in_hand : Posting → Hand → ℕ
in_hand posts None = 0
in_hand posts (Some t) = posts.place t

pub in_hand_is : (posts : Posting) (hand : InTransit) → in_hand posts (hand_of hand) ≡ place_of posts hand
in_hand_is posts Bare = refl
in_hand_is posts (Forwards t) = refl
in_hand_is posts (GivesBack t) = refl

-- of that in the hands of the running job
abbrev pub head_in : Posting → List Hand → ℕ
head_in posts [] = 0
head_in posts (hand ∷ hands) = in_hand posts hand

-- an action puts no more in the hands than it releases
pub held_more : (posts : Posting) (hand : InTransit) (action : Action) (now : ℕ) → released posts action ≡ Some now
    → place_of posts (transit_then hand action) ≤ place_of posts hand + now
held_more posts hand (Places n) now is = let same = same_Some (posts.place n) now is in omega (arith, same)
held_more posts hand (Starts q m) now is = let same = same_Some (posts.place m.task) now is in omega (arith, same)
held_more posts hand (Fires m) now is = let same = same_Some (posts.place m.task) now is in omega (arith, same)
held_more posts hand (Cancels n h) now is = let same = same_Some (posts.place n) now is in omega (arith, same)
held_more posts hand (Readies q m) now is = omega arith
held_more posts hand (Arms k m) now is = omega arith
held_more posts hand (Frees n) now is = omega arith
held_more posts hand action now is = omega arith

-- the place that is asked for where this is shown, which is taken or not
abbrev pub place_taken : Posting → Option What → ℕ
place_taken posts (Some (what.Placed n)) = posts.place n
place_taken posts (Some (what.Full n)) = posts.place n
place_taken posts shown = 0

-- a Doing releases at most so much: its next action a part of it, and all that follows at most another
abbrev pub AtMost : App → Posting → ℕ → Doing Values → Type 0
AtMost app posts n over = Unit {0}
AtMost app posts n (does action made next) =
    (now : ℕ) × (later : ℕ) × (released posts action ≡ Some now) × (now + later ≤ n)
    × ((answer : ℕ) (vs : Values) → Queued app vs → AtMost app posts later (next answer vs))

-- at most more
pub at_most_more : (app : App) (posts : Posting) (n m : ℕ) (d : Doing Values) → AtMost app posts n d → n ≤ m
    → AtMost app posts m d
at_most_more app posts n m over most less = tt
at_most_more app posts n m (does action made next) most less =
    let within = most.3 in (most.0, most.1, most.2, omega (arith, within, less), most.4)

abbrev pub RestAtMost : App → Posting → ℕ → Rest → Type 0
RestAtMost app posts n rest = (vs : Values) → AtMost app posts n (rest vs)

abbrev pub LaterAtMost : App → Posting → ℕ → Later → Type 0
LaterAtMost app posts n later = (vars : List ℕ) → RestAtMost app posts n (later vars)

-- two numbers whose sum is this one
pub record Sums (a b : Option ℕ) (k : ℕ) : Type 0 where
  pub first : ℕ
  pub second : ℕ
  pub first_is : a ≡ Some first
  pub second_is : b ≡ Some second
  pub sum : first + second ≡ k

-- below where sums stop a sum is exact
pub sums : (a b : Option ℕ) (k : ℕ) → plus a b ≡ Some k → k < MOST_WORK → Sums a b k
sums None b k is below = absurd (none-some k is)
sums (Some x) None k is below = absurd (none-some k is)
sums (Some x) (Some y) k is below =
    let same : min (x + y) MOST_WORK ≡ k = same_Some (min (x + y) MOST_WORK) k is in
    record { first = x; second = y; first_is = refl; second_is = refl; sum = omega (arith, same, below) }

-- two numbers, neither of which is greater than this
pub record Within (a b : Option ℕ) (k : ℕ) : Type 0 where
  pub first : ℕ
  pub second : ℕ
  pub first_is : a ≡ Some first
  pub second_is : b ≡ Some second
  pub first_within : first ≤ k
  pub second_within : second ≤ k

pub both_within : (a b : Option ℕ) (k : ℕ) → greater_of a b ≡ Some k → Within a b k
both_within None b k is = absurd (none-some k is)
both_within (Some x) None k is = absurd (none-some k is)
both_within (Some x) (Some y) k is =
    let same = same_Some _ k is in
    record {
      first = x;
      second = y;
      first_is = refl;
      second_is = refl;
      first_within = omega (arith, same);
      second_within = omega (arith, same);
    }

-- so many times this
pub record Multiple (count : ℕ) (w : Option ℕ) (k : ℕ) : Type 0 where
  pub one : ℕ
  pub one_is : w ≡ Some one
  pub all : count * one ≡ k

pub multiple : (count : ℕ) (w : Option ℕ) (k : ℕ) → 1 ≤ count → times count w ≡ Some k → k < MOST_WORK
    → Multiple count w k
multiple count None k some is below = absurd (by (count == 0) refl is)
  where
    by : (b : Bool) → (count == 0) ≡ b → (if b then Some 0 else None) ≡ Some k → ⊥
    by true test same = (let none = eqb-true count 0 test in absurd (omega (arith, none, some)))
    by false test same = none-some k same
multiple count (Some one) k some is below =
    let same : min (count * one) MOST_WORK ≡ k = same_Some (min (count * one) MOST_WORK) k is in
    record { one = one; one_is = refl; all = omega (arith, same, below) }

-- what a message asks for, with its place, where a `spawn` asks for so much
pub record Split (posts : Posting) (n k : ℕ) : Type 0 where
  pub ready : ℕ
  pub is : posts.task n ≡ Some ready
  pub sum : posts.place n + ready ≤ k

-- what posts and messages ask for is what `pend` and `spawn` statements do: of the interrupts that code may pend, and
-- of all tasks; the dispatchers' interrupts, which go with messages, ask for nothing of their own
pub record Agrees (app : App) (asks : Release → Option ℕ) (posts : Posting) (Allowed : ℕ → Type 0) : Type 0 where
  pub pends : (j : ℕ) → j < length app.irqs → Allowed j
      → posts.irq (or_zero (irq_number app j)) ≡ asks (released_by.Request j)
  pub sends : (n k : ℕ) → asks (released_by.Message n) ≡ Some k → Split posts n k
  pub turns : (r : ℕ) → Contains (levels app) r → posts.irq (dispatcher_number app r) ≡ Some 0

-- a block pends such interrupts alone
abbrev pub PendsOnly : (ℕ → Type 0) → Block → Type 0
PendsOnly Allowed b = (j : ℕ) → block_pends j b ≡ true → Allowed j

abbrev pub StatementPendsOnly : (ℕ → Type 0) → Statement → Type 0
StatementPendsOnly Allowed s = (j : ℕ) → statement_pends j s ≡ true → Allowed j

module _ (app : App) (accepted : IsAccepted app) (form : is_of_form app ≡ true) (m : Member)
    (asks : Release → Option ℕ) (posts : Posting) (Allowed : ℕ → Type 0) (agree : Agrees app asks posts Allowed) where
  -- the turns of a loop, of which each releases at most so much
  turns_at_most : (count one n x i : ℕ) (turn : Later → Later) (later : Later)
      → ((k : ℕ) (next : Later) → LaterAtMost app posts k next → LaterAtMost app posts (one + k) (turn next))
      → LaterAtMost app posts n later
      → LaterAtMost app posts (count * one + n) (turns_from count x i turn later)
  turns_at_most zero one n x i turn later each most vars vs =
      at_most_more app posts n (0 * one + n) _ (most (slice_set vars x i) vs) (omega arith)
  turns_at_most (suc count) one n x i turn later each most vars vs =
      at_most_more app posts (one + (count * one + n)) (suc count * one + n) _
      (each (count * one + n) (turns_from count x (suc i) turn later)
      (turns_at_most count one n x (suc i) turn later each most) (slice_set vars x i) vs)
      (omega arith)

  -- a loop whose turn releases so much
  loop_at_most : (w : Option ℕ) (k n count x i : ℕ) (turn : Later → Later) (later : Later)
      → ((one : ℕ) → w ≡ Some one → one < MOST_WORK → (m : ℕ) (next : Later) → LaterAtMost app posts m next
      → LaterAtMost app posts (one + m) (turn next))
      → times count w ≡ Some k → k < MOST_WORK → LaterAtMost app posts n later
      → LaterAtMost app posts (k + n) (turns_from count x i turn later)
  loop_at_most w k n zero x i turn later each is below most vars vs =
      at_most_more app posts n (k + n) _ (most (slice_set vars x i) vs) (omega arith)
  loop_at_most w k n (suc count) x i turn later each is below most vars vs =
      let many = multiple (suc count) w k (omega arith) is below in
      let all = many.all in
      let more = one_within count many.one in
      at_most_more app posts (suc count * many.one + n) (k + n) _
      (turns_at_most (suc count) many.one n x i turn later (each many.one many.one_is (omega (arith, all, below, more)))
      most vars vs)
      (omega (arith, all))
    where
      one_within : (count one : ℕ) → one ≤ suc count * one
      one_within count one = omega arith

  assign_at_most : (n : ℕ) (x : Atom) (v : ℕ) (later : Later) → LaterAtMost app posts n later
      → LaterAtMost app posts n (assign x v later)
  assign_at_most n (atom.Var x) v later most vars vs = most (slice_set vars x v) vs
  assign_at_most n (atom.Shared r) v later most vars vs = most vars _
  assign_at_most n (atom.Local l) v later most vars vs = most vars _

  -- a message becomes ready
  ready_at_most : (r : ℕ) (message : Message) (k n : ℕ) (rest : Rest) → Contains (levels app) r
      → posts.task message.task ≡ Some k → RestAtMost app posts n rest
      → RestAtMost app posts (k + n) (act_all (ready_actions app r message) rest)
  ready_at_most r message k n rest known is later vs = (
    0,
    k + n,
    refl,
    omega arith,
    λ a us good. (
      k,
      n,
      is,
      omega arith,
      λ b ws fine. (
        0,
        n,
        agree.turns r known,
        omega arith,
        λ c xs well. (
          0,
          n,
          refl,
          omega arith,
          λ d ys sound. later ys,
        ),
      ),
    ),
  )

  place_at_most : (t n : ℕ) (granted refused : Rest) → RestAtMost app posts n granted → RestAtMost app posts n refused
      → RestAtMost app posts (posts.place t + n) (place_actions app t granted refused)
  place_at_most t n granted refused first second vs =
      (0, posts.place t + n, refl, omega arith, λ a us good. go (has_place app t us) us)
    where
      go : (b : Bool) (ws : Values) → AtMost app posts (posts.place t + n)
          (if b then act_all (Places t ∷ Leaves (section.Free t) ∷ []) granted ws
          else act_all (FindsFull t ∷ Leaves (section.Free t) ∷ []) refused ws)
      go true ws =
          (posts.place t, n, refl, omega arith, λ b xs good. (0, n, refl, omega arith, λ c ys fine. first ys))
      go false ws =
          (posts.place t, n, refl, omega arith, λ b xs good. (0, n, refl, omega arith, λ c ys fine. second ys))

  -- a spawn releases its message, where it finds a place
  spawn_at_most : (locked : List ℕ) (value : Expression → ℕ) (s : Spawn) (k n : ℕ) (rest : ℕ → Rest)
      → IsSoundSpawn app m locked s → spawn_sends asks s ≡ Some k → ((a : ℕ) → RestAtMost app posts n (rest a))
      → RestAtMost app posts (k + n) (spawn_actions app value s rest)
  spawn_at_most locked value (Soon t args at) k n rest sound is later =
      let task : Task = sound.0 in
      let known : Contains (levels app) (task_priority app t) =
      subst (Contains (levels app)) (sym (task_priority_is app accepted t task sound.1.is_there))
      (software_level app accepted t task sound.1.is_there sound.1.software) in
      let message : Message = record { task = t; args = map value args } in
      let split = agree.sends t k is in
      let sum = split.sum in λ vs.
      at_most_more app posts (posts.place t + (split.ready + n)) (k + n)
      (place_actions app t (act_all (ready_actions app (task_priority app t) message) (rest 1)) (rest 0) vs)
      (place_at_most t (split.ready + n) (act_all (ready_actions app (task_priority app t) message) (rest 1)) (rest 0)
      (ready_at_most (task_priority app t) message split.ready n (rest 1) known split.is (later 1))
      (λ us. at_most_more app posts n (split.ready + n) _ (later 0 us) (omega arith)) vs) (omega (arith, sum))
  spawn_at_most locked value (After word delay t args at) k n rest sound is later =
      absurd (no_mono app accepted form sound.4.0 sound.4.1)
  spawn_at_most locked value (Cancel word t handle at) k n rest sound is later =
      absurd (no_mono app accepted form sound.1.timed.0 sound.1.timed.1)
  spawn_at_most locked value (Move word delay t handle at) k n rest sound is later =
      absurd (no_mono app accepted form sound.1.timed.0 sound.1.timed.1)

  mutual
    -- a statement releases at most what is counted of it
    pub statement_at_most : (s : Statement) (v : ℕ) (locked fixed : List ℕ) (k n : ℕ) (later : Later)
        → IsSoundStatement app m v locked fixed s → StatementPendsOnly Allowed s → statement_sends asks s ≡ Some k
        → k < MOST_WORK → LaterAtMost app posts n later → LaterAtMost app posts (k + n) (run app s later)
    statement_at_most (Bind x (Calc e)) v locked fixed k n later sound only is below most vars vs =
        at_most_more app posts n (k + n) _ (most (slice_set vars x (value_in vars vs e)) vs) (omega arith)
    statement_at_most (Bind x (Now at)) v locked fixed k n later sound only is below most vars vs =
        (0, n, refl, omega arith, λ time ws good. most (slice_set vars x time) ws)
    statement_at_most (Bind x (Call s)) v locked fixed k n later sound only is below most vars vs =
        spawn_at_most locked (value_in vars vs) s k n (λ answer. later (slice_set vars x answer)) sound.1 is
        (λ answer. most (slice_set vars x answer)) vs
    statement_at_most (Assign x e at) v locked fixed k n later sound only is below most vars vs =
        at_most_more app posts n (k + n) _ (assign_at_most n x (value_in vars vs e) later most vars vs) (omega arith)
    statement_at_most (Branch e first second) v locked fixed k n later sound only is below most vars vs =
        let both = both_within (block_sends asks first) (block_sends asks second) k is in
        let few_first = both.first_within in
        let few_second = both.second_within in
        elim (value_in vars vs e == 0) as (λ b. AtMost app posts (k + n)
        (if b then run_block app second later vars vs else run_block app first later vars vs)) [
          | true ↦ at_most_more app posts (both.second + n) (k + n) _
              (block_at_most second (v + variables first) locked fixed both.second n later sound.2
              (λ j there. only j (or_right (block_pends j first) (block_pends j second) there)) both.second_is
              (omega (arith, few_second, below)) most vars vs) (omega (arith, few_second))
          | false ↦ at_most_more app posts (both.first + n) (k + n) _
              (block_at_most first v locked fixed both.first n later sound.1
              (λ j there. only j (or_left (block_pends j first) (block_pends j second) there)) both.first_is
              (omega (arith, few_first, below)) most vars vs) (omega (arith, few_first))
        ]
    statement_at_most (Repeat x first last turn) v locked fixed k n later sound only is below most vars vs =
        loop_at_most (block_sends asks turn) k n (last - first) x first (run_block app turn) later
        (λ one is few more next good. block_at_most turn (v + 1) locked (x ∷ fixed) one more next sound.4 only is few
        good)
        is below most vars vs
    statement_at_most (Locked r inner at) v locked fixed k n later sound only is below most vars vs = (
      0,
      k + n,
      refl,
      omega arith,
      λ answer ws good.
          block_at_most inner v (r ∷ locked) fixed k n _ sound.1 only is below
          (λ vars vs. (0, n, refl, omega arith, λ answer ws good. most vars ws)) vars ws,
    )
    statement_at_most (Emit e) v locked fixed k n later sound only is below most vars vs =
        (0, k + n, refl, omega arith, λ answer ws good. at_most_more app posts n (k + n) _ (most vars ws) (omega arith))
    statement_at_most (Pend i) v locked fixed k n later sound only is below most vars vs =
        (k, n, agree.pends i sound (only i (eq-eqb i i refl)) ∙ is, omega arith, λ answer ws good. most vars ws)
    statement_at_most (Spawns s) v locked fixed k n later sound only is below most vars vs =
        spawn_at_most locked (value_in vars vs) s k n (λ answer. later vars) sound is (λ answer. most vars) vs

    -- and so does a block
    pub block_at_most : (b : Block) (v : ℕ) (locked fixed : List ℕ) (k n : ℕ) (later : Later)
        → IsSoundBlock app m v locked fixed b → PendsOnly Allowed b → block_sends asks b ≡ Some k → k < MOST_WORK
        → LaterAtMost app posts n later → LaterAtMost app posts (k + n) (run_block app b later)
    block_at_most Empty v locked fixed k n later sound only is below most vars vs =
        at_most_more app posts n (k + n) _ (most vars vs) (omega arith)
    block_at_most (Then s rest) v locked fixed k n later sound only is below most vars vs =
        let parts = sums (statement_sends asks s) (block_sends asks rest) k is below in
        let all = parts.sum in
        at_most_more app posts (parts.first + (parts.second + n)) (k + n) _
        (statement_at_most s v locked fixed parts.first (parts.second + n) (run_block app rest later) sound.0
        (λ j there. only j (or_left (statement_pends j s) (block_pends j rest) there)) parts.first_is
        (omega (arith, all, below))
        (block_at_most rest (v + variables_in s) locked fixed parts.second n later sound.1
        (λ j there. only j (or_right (statement_pends j s) (block_pends j rest) there)) parts.second_is
        (omega (arith, all, below)) most) vars vs)
        (omega (arith, all))
