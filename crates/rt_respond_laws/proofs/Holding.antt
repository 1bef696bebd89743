-- A body holds off no more at a time than its block says: along each way on which it can go on, and with a message
-- whose
-- section does not hold the priority off.
use Rattle.std.proofs.Common.{◌≡◌, ℕ, zero, suc, ◌+◌, ◌-◌, ◌*◌, ◌≤◌, ◌<◌, ◌==◌, inl, inr, Bool, true, false}
use Rattle.std.proofs.Common.{nat_le, if◌then◌else◌, Contains}
use Rattle.std.proofs.Common.{List, [], ◌∷◌, map, slice_set, Option, Some, refl, sym, ap, subst, ◌∙◌}
use Rattle.std.proofs.Common.{arith, eq-eqb}
use Rattle.std.proofs.lemmas.Bool.{leb-true, leb-false}
use Rattle.rt_lemmas.proofs.Bools.{or_left, or_right}
use Rattle.rt_ids.specs.declared.ids.Section.{Section}
use Rattle.rt_ids.specs.declared.ids.Section.TheVariants as section
use Rattle.rt_actions.specs.Content.{Message, Values}
use Rattle.rt_actions.specs.Action.{Enters, Leaves, Places, FindsFull}
use Rattle.rt_actions.specs.Doing.{Doing, does}
use Rattle.rt_app.specs.declared.costs.TheConstants.{FREE_COST}
use Rattle.rt_app.specs.declared.expr.Atom.{Atom}
use Rattle.rt_app.specs.declared.expr.Atom.TheVariants as atom
use Rattle.rt_app.specs.Tree.{Expression, Spawn, Soon, After, Cancel, Move, Calc, Now, Call, Statement, Bind}
use Rattle.rt_app.specs.Tree.{Assign, Branch, Repeat, Locked, Emit, Pend, Spawns, Block, Empty, Then, Task, App}
use Rattle.rt_app.specs.Accepted.{IsAccepted}
use Rattle.rt_app.specs.Variables.{variables, variables_in}
use Rattle.rt_app.specs.Bodies.{Member, task_priority}
use Rattle.rt_app.specs.Ceiling.{ceiling}
use Rattle.rt_app.specs.Level.{levels}
use Rattle.rt_app.specs.Sending.{Rest, act, act_all, has_place, place_actions, ready_actions, spawn_actions}
use Rattle.rt_app.specs.Meaning.{Later, value_in, assign, turns_from, run, run_block}
use Rattle.rt_app.specs.Sound.{IsSoundSpawn, IsSoundStatement, IsSoundBlock}
use Rattle.rt_laws.proofs.Hands.{InTransit, Bare, Forwards}
use Rattle.rt_respond.specs.Form.{is_of_form}
use Rattle.rt_respond.specs.Number.{times}
use Rattle.rt_respond.specs.Pends.{statement_pends, block_pends}
use Rattle.rt_respond.specs.Work.{steps_weight, spawn_sends, statement_sends, block_sends}
use Rattle.rt_respond.specs.declared.handler.Quantity.{Quantity}
use Rattle.rt_respond.specs.declared.handler.Release.{Release}
use Rattle.rt_respond.specs.declared.number.TheConstants.{MOST_WORK}
use Rattle.rt_respond_laws.proofs.Weights.{placed}
use Rattle.rt_respond_laws.proofs.Tasks.{software_level, task_priority_is, no_mono}
use Rattle.rt_respond_laws.proofs.Sending.{Posting, place_of, Agrees, PendsOnly, StatementPendsOnly, sums}
use Rattle.rt_respond_laws.proofs.Sending.{both_within}
use Rattle.rt_respond_laws.proofs.Sending.{multiple}
use Rattle.rt_respond_laws.proofs.Modes.{Mode, Outside, Inside, Holds, LaterHolds, more_inside, SectionWithin}
use Rattle.rt_respond_laws.proofs.Modes.{ReadyWithin, SpawnWithin, StatementWithin, BlockWithin, LowAsksNone}

module _ (app : App) (accepted : IsAccepted app) (form : is_of_form app ≡ true) (m : Member) (what : Quantity) (p : ℕ)
    (asks : Release → Option ℕ) (posts : Posting) (most : ℕ) (Allowed : ℕ → Type 0)
    (agree : Agrees app asks posts Allowed) (low : LowAsksNone app what p posts) where
  abbrev In : ℕ → ℕ → Later → Type 0
  In n depth later = LaterHolds app what p most posts (Inside n depth) later

  abbrev Out : Later → Type 0
  Out later = LaterHolds app what p most posts Outside later

  -- the turns of a loop inside a section
  turns_in : (count one n depth x i : ℕ) (turn : Later → Later) (later : Later)
      → ((k : ℕ) (next : Later) → In k depth next → In (one + k) depth (turn next))
      → In n depth later → In (count * one + n) depth (turns_from count x i turn later)
  turns_in zero one n depth x i turn later each holds vars vs =
      more_inside app what p most posts Bare n (0 * one + n) depth _ (holds (slice_set vars x i) vs) (omega arith)
  turns_in (suc count) one n depth x i turn later each holds vars vs =
      more_inside app what p most posts Bare (one + (count * one + n)) (suc count * one + n) depth _
      (each (count * one + n) (turns_from count x (suc i) turn later)
      (turns_in count one n depth x (suc i) turn later each holds) (slice_set vars x i) vs)
      (omega arith)

  loop_in : (w : Option ℕ) (k n depth count x i : ℕ) (turn : Later → Later) (later : Later)
      → ((one : ℕ) → w ≡ Some one → one < MOST_WORK → (m : ℕ) (next : Later) → In m depth next
      → In (one + m) depth (turn next))
      → times count w ≡ Some k → k < MOST_WORK → In n depth later
      → In (k + n) depth (turns_from count x i turn later)
  loop_in w k n depth zero x i turn later each is below holds vars vs =
      more_inside app what p most posts Bare n (k + n) depth _ (holds (slice_set vars x i) vs) (omega arith)
  loop_in w k n depth (suc count) x i turn later each is below holds vars vs =
      let many = multiple (suc count) w k (omega arith) is below in
      let all = many.all in
      let more = one_within count many.one in
      more_inside app what p most posts Bare (suc count * many.one + n) (k + n) depth _
      (turns_in (suc count) many.one n depth x i turn later
      (each many.one many.one_is (omega (arith, all, below, more))) holds vars vs)
      (omega (arith, all))
    where
      one_within : (count one : ℕ) → one ≤ suc count * one
      one_within count one = omega arith

  assign_holds : (mode : Mode) (x : Atom) (v : ℕ) (later : Later) → LaterHolds app what p most posts mode later
      → LaterHolds app what p most posts mode (assign x v later)
  assign_holds mode (atom.Var x) v later holds vars vs = holds (slice_set vars x v) vs
  assign_holds mode (atom.Shared r) v later holds vars vs = holds vars _
  assign_holds mode (atom.Local l) v later holds vars vs = holds vars _

  -- a message becomes ready inside a section
  ready_in : (r : ℕ) (message : Message) (k n depth : ℕ) (rest : Rest) → Contains (levels app) r
      → posts.task message.task ≡ Some k → ((vs : Values) → Holds app what p most posts Bare (Inside n depth) (rest vs))
      → (vs : Values) → Holds app what p most posts (Forwards message.task) (Inside (k + n) depth)
      (act_all (ready_actions app r message) rest vs)
  ready_in r message k n depth rest known is later vs = (
    0,
    Inside (k + n) (suc depth),
    refl,
    (k + n, omega arith, refl),
    λ a us good. (
      k,
      Inside n (suc depth),
      is,
      (n, omega arith, refl),
      λ b ws fine. (
        0,
        Inside n (suc depth),
        agree.turns r known,
        (n, omega arith, refl),
        λ c xs well.
            (0, Inside n depth, refl, (n, omega arith, refl), λ d ys sound. later ys),
      ),
    ),
  )

  place_in : (t n depth : ℕ) (granted refused : Rest)
      → ((vs : Values) → Holds app what p most posts (Forwards t) (Inside n depth) (granted vs))
      → ((vs : Values) → Holds app what p most posts Bare (Inside n depth) (refused vs))
      → (vs : Values) → Holds app what p most posts Bare (Inside (posts.place t + n) depth)
      (place_actions app t granted refused vs)
  place_in t n depth granted refused first second vs = (
    0,
    Inside (posts.place t + n) (suc depth),
    refl,
    (posts.place t + n, omega arith, refl),
    λ a us good. go (has_place app t us) us,
  )
    where
      go : (b : Bool) (ws : Values) → Holds app what p most posts Bare (Inside (posts.place t + n) (suc depth))
          (if b then act_all (Places t ∷ Leaves (section.Free t) ∷ []) granted ws
          else act_all (FindsFull t ∷ Leaves (section.Free t) ∷ []) refused ws)
      go true ws = (
        posts.place t,
        Inside n (suc depth),
        refl,
        (n, omega arith, refl),
        λ b xs good.
            (0, Inside n depth, refl, (n, omega arith, refl), λ c ys fine. first ys),
      )
      go false ws = (
        posts.place t,
        Inside n (suc depth),
        refl,
        (n, omega arith, refl),
        λ b xs good.
            (0, Inside n depth, refl, (n, omega arith, refl), λ c ys fine. second ys),
      )

  spawn_in : (locked : List ℕ) (value : Expression → ℕ) (s : Spawn) (k n depth : ℕ) (rest : ℕ → Rest)
      → IsSoundSpawn app m locked s → spawn_sends asks s ≡ Some k
      → ((a : ℕ) (vs : Values) → Holds app what p most posts Bare (Inside n depth) (rest a vs))
      → (vs : Values) → Holds app what p most posts Bare (Inside (k + n) depth) (spawn_actions app value s rest vs)
  spawn_in locked value (Soon t args at) k n depth rest sound is later =
      let task : Task = sound.0 in
      let known : Contains (levels app) (task_priority app t) =
      subst (Contains (levels app)) (sym (task_priority_is app accepted t task sound.1.is_there))
      (software_level app accepted t task sound.1.is_there sound.1.software) in
      let message : Message = record { task = t; args = map value args } in
      let split = agree.sends t k is in
      let sum = split.sum in λ vs.
      more_inside app what p most posts Bare (posts.place t + (split.ready + n)) (k + n) depth
      (place_actions app t (act_all (ready_actions app (task_priority app t) message) (rest 1)) (rest 0) vs)
      (place_in t (split.ready + n) depth (act_all (ready_actions app (task_priority app t) message) (rest 1)) (rest 0)
      (ready_in (task_priority app t) message split.ready n depth (rest 1) known split.is (later 1))
      (λ us. more_inside app what p most posts Bare n (split.ready + n) depth _ (later 0 us) (omega arith)) vs)
      (omega (arith, sum))
  spawn_in locked value (After word delay t args at) k n depth rest sound is later =
      absurd (no_mono app accepted form sound.4.0 sound.4.1)
  spawn_in locked value (Cancel word t handle at) k n depth rest sound is later =
      absurd (no_mono app accepted form sound.1.timed.0 sound.1.timed.1)
  spawn_in locked value (Move word delay t handle at) k n depth rest sound is later =
      absurd (no_mono app accepted form sound.1.timed.0 sound.1.timed.1)

  mutual
    -- inside a section a statement releases at most what is counted of it
    pub statement_in : (s : Statement) (v : ℕ) (locked fixed : List ℕ) (k n depth : ℕ) (later : Later)
        → IsSoundStatement app m v locked fixed s → StatementPendsOnly Allowed s → statement_sends asks s ≡ Some k
        → k < MOST_WORK → In n depth later → In (k + n) depth (run app s later)
    statement_in (Bind x (Calc e)) v locked fixed k n depth later sound only is below holds vars vs =
        more_inside app what p most posts Bare n (k + n) depth _ (holds (slice_set vars x (value_in vars vs e)) vs)
        (omega arith)
    statement_in (Bind x (Now at)) v locked fixed k n depth later sound only is below holds vars vs =
        (0, Inside n depth, refl, (n, omega arith, refl), λ time ws good. holds (slice_set vars x time) ws)
    statement_in (Bind x (Call s)) v locked fixed k n depth later sound only is below holds vars vs =
        spawn_in locked (value_in vars vs) s k n depth (λ answer. later (slice_set vars x answer)) sound.1 is
        (λ answer. holds (slice_set vars x answer)) vs
    statement_in (Assign x e at) v locked fixed k n depth later sound only is below holds vars vs =
        more_inside app what p most posts Bare n (k + n) depth _
        (assign_holds (Inside n depth) x (value_in vars vs e) later holds vars vs) (omega arith)
    statement_in (Branch e first second) v locked fixed k n depth later sound only is below holds vars vs =
        let both = both_within (block_sends asks first) (block_sends asks second) k is in
        let few_first = both.first_within in
        let few_second = both.second_within in
        elim (value_in vars vs e == 0) as (λ b. Holds app what p most posts Bare (Inside (k + n) depth)
        (if b then run_block app second later vars vs else run_block app first later vars vs)) [
          | true ↦ more_inside app what p most posts Bare (both.second + n) (k + n) depth _
              (block_in second (v + variables first) locked fixed both.second n depth later sound.2
              (λ j there. only j (or_right (block_pends j first) (block_pends j second) there)) both.second_is
              (omega (arith, few_second, below)) holds vars vs) (omega (arith, few_second))
          | false ↦ more_inside app what p most posts Bare (both.first + n) (k + n) depth _
              (block_in first v locked fixed both.first n depth later sound.1
              (λ j there. only j (or_left (block_pends j first) (block_pends j second) there)) both.first_is
              (omega (arith, few_first, below)) holds vars vs) (omega (arith, few_first))
        ]
    statement_in (Repeat x first last turn) v locked fixed k n depth later sound only is below holds vars vs =
        loop_in (block_sends asks turn) k n depth (last - first) x first (run_block app turn) later
        (λ one is few more next good. block_in turn (v + 1) locked (x ∷ fixed) one more depth next sound.4 only is few
        good)
        is below holds vars vs
    statement_in (Locked r inner at) v locked fixed k n depth later sound only is below holds vars vs = (
      0,
      Inside (k + n) (suc depth),
      refl,
      (k + n, omega arith, refl),
      λ answer ws good.
          block_in inner v (r ∷ locked) fixed k n (suc depth) _ sound.1 only is below
          (λ vars vs. (0, Inside n depth, refl, (n, omega arith, refl), λ answer ws good. holds vars ws)) vars ws,
    )
    statement_in (Emit e) v locked fixed k n depth later sound only is below holds vars vs =
        (0, Inside n depth, refl, (n, omega arith, refl), λ answer ws good. holds vars ws)
    statement_in (Pend i) v locked fixed k n depth later sound only is below holds vars vs = (
      k,
      Inside n depth,
      agree.pends i sound (only i (eq-eqb i i refl)) ∙ is,
      (n, omega arith, refl),
      λ answer ws good. holds vars ws,
    )
    statement_in (Spawns s) v locked fixed k n depth later sound only is below holds vars vs =
        spawn_in locked (value_in vars vs) s k n depth (λ answer. later vars) sound is (λ answer. holds vars) vs

    pub block_in : (b : Block) (v : ℕ) (locked fixed : List ℕ) (k n depth : ℕ) (later : Later)
        → IsSoundBlock app m v locked fixed b → PendsOnly Allowed b → block_sends asks b ≡ Some k → k < MOST_WORK
        → In n depth later → In (k + n) depth (run_block app b later)
    block_in Empty v locked fixed k n depth later sound only is below holds vars vs =
        more_inside app what p most posts Bare n (k + n) depth _ (holds vars vs) (omega arith)
    block_in (Then s rest) v locked fixed k n depth later sound only is below holds vars vs =
        let parts = sums (statement_sends asks s) (block_sends asks rest) k is below in
        let all = parts.sum in
        more_inside app what p most posts Bare (parts.first + (parts.second + n)) (k + n) depth _
        (statement_in s v locked fixed parts.first (parts.second + n) depth (run_block app rest later) sound.0
        (λ j there. only j (or_left (statement_pends j s) (block_pends j rest) there)) parts.first_is
        (omega (arith, all, below))
        (block_in rest (v + variables_in s) locked fixed parts.second n depth later sound.1
        (λ j there. only j (or_right (statement_pends j s) (block_pends j rest) there)) parts.second_is
        (omega (arith, all, below)) holds) vars vs)
        (omega (arith, all))

  -- the turns of a loop outside
  turns_out : (count x i : ℕ) (turn : Later → Later) (later : Later)
      → ((next : Later) → Out next → Out (turn next)) → Out later → Out (turns_from count x i turn later)
  turns_out zero x i turn later each holds vars vs = holds (slice_set vars x i) vs
  turns_out (suc count) x i turn later each holds vars vs =
      each (turns_from count x (suc i) turn later) (turns_out count x (suc i) turn later each holds)
      (slice_set vars x i) vs

  -- a lock round a block that counts
  section_out : (r : ℕ) (inner : Block) (v : ℕ) (locked fixed : List ℕ) (later : Later)
      → IsSoundBlock app m v (r ∷ locked) fixed inner → PendsOnly Allowed inner → p ≤ ceiling app (section.Res r)
      → SectionWithin app what p asks most inner → Out later
      → Out (run app (Locked r inner 0) later)
  section_out r inner v locked fixed later sound only high within holds vars vs = (
    0,
    Inside within.releases 0,
    refl,
    (
      omega arith,
      inl (record {
        rest = within.releases;
        holds_off = high;
        within = let few = within.within in omega (arith, few);
        is = refl;
      }),
    ),
    λ answer ws good. more_inside app what p most posts Bare (within.releases + 0) within.releases 0 _
        (block_in inner v (r ∷ locked) fixed within.releases 0 0 _ sound only within.is within.below
        (λ vars vs. (0, Outside, refl, (0, omega arith, refl), λ answer ws good. holds vars ws)) vars ws) (omega arith),
  )

  -- a lock, of which the block is outside where it does not count
  lock_out : (r : ℕ) (inner : Block) (v : ℕ) (locked fixed : List ℕ) (later : Later) (b : Bool)
      → nat_le p (ceiling app (section.Res r)) ≡ b → IsSoundBlock app m v (r ∷ locked) fixed inner
      → PendsOnly Allowed inner
      → (nat_le p (ceiling app (section.Res r)) ≡ true → SectionWithin app what p asks most inner)
      × (nat_le p (ceiling app (section.Res r)) ≡ false → BlockWithin app what p asks most inner)
      → (BlockWithin app what p asks most inner → Out (run_block app inner (λ vars. act (Leaves (section.Res r))
      (later vars))))
      → Out later → Out (run app (Locked r inner 0) later)
  lock_out r inner v locked fixed later true test sound only within block holds vars vs =
      section_out r inner v locked fixed later sound only (leb-true p (ceiling app (section.Res r)) test) (within.0
      test)
      holds vars vs
  lock_out r inner v locked fixed later false test sound only within block holds vars vs = (
    0,
    Outside,
    refl,
    (omega arith, inr (leb-false p (ceiling app (section.Res r)) test, refl)),
    λ answer ws good. block (within.1 test) vars ws,
  )

  -- a section entered from outside, of which nothing but its steps and this is released, and what is behind it
  pub enters_out : (hand : InTransit) (x : Section) (cost released_in : ℕ) (next : ℕ → Values → Doing Values)
      (vs : Values) → place_of posts hand ≤ most
      → (p ≤ ceiling app x → steps_weight what (cost - 1) + released_in + place_of posts hand ≤ most)
      → (p ≤ ceiling app x → (a : ℕ) (ws : Values) → Holds app what p most posts hand (Inside released_in 0)
      (next a ws))
      → (ceiling app x < p → (a : ℕ) (ws : Values) → Holds app what p most posts hand Outside (next a ws))
      → Holds app what p most posts hand Outside (does (Enters x cost) vs next)
  enters_out hand x cost released_in next vs held counts inside outside = by (nat_le p (ceiling app x)) refl
    where
      by : (b : Bool) → nat_le p (ceiling app x) ≡ b
          → Holds app what p most posts hand Outside (does (Enters x cost) vs next)
      by true test =
          let high = leb-true p (ceiling app x) test in (
            0,
            Inside released_in 0,
            refl,
            (
              omega (arith, held),
              inl (record { rest = released_in; holds_off = high; within = counts high; is = refl }),
            ),
            λ a ws good. inside high a ws,
          )
      by false test =
          let under = leb-false p (ceiling app x) test in
          (0, Outside, refl, (omega (arith, held), inr (under, refl)), λ a ws good. outside under a ws)

  ready_out : (t : ℕ) (message : Message) (rest : Rest) → message.task ≡ t → Contains (levels app) (task_priority app t)
      → (p ≤ ceiling app (section.Ready (task_priority app t)) → ReadyWithin app what p asks most t)
      → ((vs : Values) → Holds app what p most posts Bare Outside (rest vs))
      → (vs : Values) → Holds app what p most posts (Forwards message.task) Outside
      (act_all (ready_actions app (task_priority app t) message) rest vs)
  ready_out t message rest same known counts later vs = by (nat_le p (ceiling app (section.Ready (task_priority app
      t)))) refl
    where
      by : (b : Bool) → nat_le p (ceiling app (section.Ready (task_priority app t))) ≡ b
          → Holds app what p most posts (Forwards message.task) Outside
          (act_all (ready_actions app (task_priority app t) message) rest vs)
      by true test =
          let high = leb-true p (ceiling app (section.Ready (task_priority app t))) test in
          let within = counts high in
          let few = within.within in
          let split = agree.sends t within.releases within.is in
          let sum = split.sum in
          let own = ap posts.place same in (
            0,
            Inside split.ready 0,
            refl,
            (
              omega (arith, few, sum, own),
              inl (record { rest = split.ready; holds_off = high; within = omega (arith, few, sum, own); is = refl }),
            ),
            λ a us good. (
              split.ready,
              Inside 0 0,
              subst (λ k. posts.task k ≡ Some split.ready) (sym same) split.is,
              (0, omega arith, refl),
              λ b ws fine. (
                0,
                Inside 0 0,
                agree.turns (task_priority app t) known,
                (0, omega arith, refl),
                λ c xs well.
                    (0, Outside, refl, (0, omega arith, refl), λ d ys sound. later ys),
              ),
            ),
          )
      by false test =
          let under = leb-false p (ceiling app (section.Ready (task_priority app t))) test in
          let least : task_priority app t ≤ ceiling app (section.Ready (task_priority app t)) = omega arith in
          let own = ap posts.place same in
          let none = low.quiet t (omega (arith, under, least)) in (
            0,
            Outside,
            refl,
            (omega (arith, own, none), inr (under, refl)),
            λ a us good. (
              0,
              Outside,
              subst (λ k. posts.task k ≡ Some 0) (sym same) (low.ready t (omega (arith, under, least))),
              (omega (arith, own, none), refl),
              λ b ws fine. (
                0,
                Outside,
                agree.turns (task_priority app t) known,
                (omega arith, refl),
                λ c xs well.
                    (0, Outside, refl, (omega arith, refl), λ d ys sound. later ys),
              ),
            ),
          )

  place_out : (t : ℕ) (granted refused : Rest) → (p ≤ ceiling app (section.Free t)
      → steps_weight what (FREE_COST - 1) + placed what t ≤ most)
      → ((vs : Values) → Holds app what p most posts (Forwards t) Outside (granted vs))
      → ((vs : Values) → Holds app what p most posts Bare Outside (refused vs))
      → (vs : Values) → Holds app what p most posts Bare Outside (place_actions app t granted refused vs)
  place_out t granted refused counts first second vs =
      enters_out Bare (section.Free t) FREE_COST (posts.place t) _ vs (omega arith)
      (λ high. let few = counts high in let same = low.counts t in omega (arith, few, same))
      (λ high a ws. inside (has_place app t ws) ws) (λ under a ws. outside under (has_place app t ws) ws)
    where
      inside : (b : Bool) (ws : Values) → Holds app what p most posts Bare (Inside (posts.place t) 0)
          (if b then act_all (Places t ∷ Leaves (section.Free t) ∷ []) granted ws
          else act_all (FindsFull t ∷ Leaves (section.Free t) ∷ []) refused ws)
      inside true ws = (
        posts.place t,
        Inside 0 0,
        refl,
        (0, omega arith, refl),
        λ b xs good.
            (0, Outside, refl, (0, omega arith, refl), λ c ys fine. first ys),
      )
      inside false ws = (
        posts.place t,
        Inside 0 0,
        refl,
        (0, omega arith, refl),
        λ b xs good.
            (0, Outside, refl, (0, omega arith, refl), λ c ys fine. second ys),
      )

      outside : ceiling app (section.Free t) < p → (b : Bool) (ws : Values) → Holds app what p most posts Bare Outside
          (if b then act_all (Places t ∷ Leaves (section.Free t) ∷ []) granted ws
          else act_all (FindsFull t ∷ Leaves (section.Free t) ∷ []) refused ws)
      outside under true ws = (
        posts.place t,
        Outside,
        refl,
        (let none = low.place t under in omega (arith, none), refl),
        λ b xs good. (
          0,
          Outside,
          refl,
          (let none = low.place t under in omega (arith, none), refl),
          λ c ys fine. first ys,
        ),
      )
      outside under false ws = (
        posts.place t,
        Outside,
        refl,
        (let none = low.place t under in omega (arith, none), refl),
        λ b xs good.
            (0, Outside, refl, (omega arith, refl), λ c ys fine. second ys),
      )

  spawn_out : (locked : List ℕ) (value : Expression → ℕ) (s : Spawn) (rest : ℕ → Rest)
      → IsSoundSpawn app m locked s → SpawnWithin app what p asks most s
      → ((a : ℕ) (vs : Values) → Holds app what p most posts Bare Outside (rest a vs))
      → (vs : Values) → Holds app what p most posts Bare Outside (spawn_actions app value s rest vs)
  spawn_out locked value (Soon t args at) rest sound within later =
      let task : Task = sound.0 in
      let known : Contains (levels app) (task_priority app t) =
      subst (Contains (levels app)) (sym (task_priority_is app accepted t task sound.1.is_there))
      (software_level app accepted t task sound.1.is_there sound.1.software) in
      let message : Message = record { task = t; args = map value args } in
      place_out t (act_all (ready_actions app (task_priority app t) message) (rest 1)) (rest 0) within.0
      (ready_out t message (rest 1) refl known within.1 (later 1)) (later 0)
  spawn_out locked value (After word delay t args at) rest sound within later =
      absurd (no_mono app accepted form sound.4.0 sound.4.1)
  spawn_out locked value (Cancel word t handle at) rest sound within later =
      absurd (no_mono app accepted form sound.1.timed.0 sound.1.timed.1)
  spawn_out locked value (Move word delay t handle at) rest sound within later =
      absurd (no_mono app accepted form sound.1.timed.0 sound.1.timed.1)

  mutual
    -- outside, a statement holds off no more than what is counted
    pub statement_out : (s : Statement) (v : ℕ) (locked fixed : List ℕ) (later : Later)
        → IsSoundStatement app m v locked fixed s → StatementPendsOnly Allowed s
        → StatementWithin app what p asks most s
        → Out later → Out (run app s later)
    statement_out (Bind x (Calc e)) v locked fixed later sound only within holds vars vs =
        holds (slice_set vars x (value_in vars vs e)) vs
    statement_out (Bind x (Now at)) v locked fixed later sound only within holds vars vs =
        (0, Outside, refl, (omega arith, refl), λ time ws good. holds (slice_set vars x time) ws)
    statement_out (Bind x (Call s)) v locked fixed later sound only within holds vars vs =
        spawn_out locked (value_in vars vs) s (λ answer. later (slice_set vars x answer)) sound.1 within
        (λ answer. holds (slice_set vars x answer)) vs
    statement_out (Assign x e at) v locked fixed later sound only within holds vars vs =
        assign_holds Outside x (value_in vars vs e) later holds vars vs
    statement_out (Branch e first second) v locked fixed later sound only within holds vars vs =
        elim (value_in vars vs e == 0) as (λ b. Holds app what p most posts Bare Outside
        (if b then run_block app second later vars vs else run_block app first later vars vs)) [
          | true ↦ block_out second (v + variables first) locked fixed later sound.2
              (λ j there. only j (or_right (block_pends j first) (block_pends j second) there)) within.1 holds vars vs
          | false ↦ block_out first v locked fixed later sound.1
              (λ j there. only j (or_left (block_pends j first) (block_pends j second) there)) within.0 holds vars vs
        ]
    statement_out (Repeat x first last turn) v locked fixed later sound only within holds vars vs =
        turns_out (last - first) x first (run_block app turn) later
        (λ next good. block_out turn (v + 1) locked (x ∷ fixed) next sound.4 only within good) holds vars vs
    statement_out (Locked r inner at) v locked fixed later sound only within holds vars vs =
        lock_out r inner v locked fixed later (nat_le p (ceiling app (section.Res r))) refl sound.1 only within
        (λ good. block_out inner v (r ∷ locked) fixed _ sound.1 only good
        (λ vars vs. (0, Outside, refl, (omega arith, refl), λ answer ws good. holds vars ws))) holds vars vs
    statement_out (Emit e) v locked fixed later sound only within holds vars vs =
        (0, Outside, refl, (omega arith, refl), λ answer ws good. holds vars ws)
    statement_out (Pend i) v locked fixed later sound only within holds vars vs = (
      within.releases,
      Outside,
      agree.pends i sound (only i (eq-eqb i i refl)) ∙ within.is,
      (let few = within.within in omega (arith, few), refl),
      λ answer ws good. holds vars ws,
    )
    statement_out (Spawns s) v locked fixed later sound only within holds vars vs =
        spawn_out locked (value_in vars vs) s (λ answer. later vars) sound within (λ answer. holds vars) vs

    pub block_out : (b : Block) (v : ℕ) (locked fixed : List ℕ) (later : Later)
        → IsSoundBlock app m v locked fixed b → PendsOnly Allowed b → BlockWithin app what p asks most b → Out later
        → Out (run_block app b later)
    block_out Empty v locked fixed later sound only within holds vars vs = holds vars vs
    block_out (Then s rest) v locked fixed later sound only within holds vars vs =
        statement_out s v locked fixed (run_block app rest later) sound.0
        (λ j there. only j (or_left (statement_pends j s) (block_pends j rest) there)) within.0
        (block_out rest (v + variables_in s) locked fixed later sound.1
        (λ j there. only j (or_right (statement_pends j s) (block_pends j rest) there)) within.1 holds) vars vs
