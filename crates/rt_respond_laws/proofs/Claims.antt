-- What each started job may still ask for at a handler: one that is at it the core steps that it has left, and what it
-- releases; one of the same priority behind it, and a lower one that is in a section, no more than what is kept in
-- reserve for it.
use Rattle.std.proofs.Common.{◌≡◌, ℕ, zero, suc, ◌+◌, ◌-◌, ◌≤◌, ◌<◌, ◌⊎◌, inl, inr, Bool, true, false, List, [], ◌∷◌}
use Rattle.std.proofs.Common.{map, drop, slice_set, Option, Some, None, refl, sym, ap, subst, ◌∙◌, arith}
use Rattle.std.specs.List.{AllByRecursion}
use Rattle.std.proofs.lemmas.Option.{same_Some, none-some}
use Rattle.rt_ids.specs.Choice.{IsIn}
use Rattle.rt_ids.specs.declared.ids.BodyId.TheVariants as body
use Rattle.rt_ids.specs.declared.ids.Section.{Section}
use Rattle.rt_ids.specs.declared.ids.Section.TheVariants as section
use Rattle.rt_actions.specs.Location.{Guarded}
use Rattle.rt_actions.specs.Content.{Message, Values, messages}
use Rattle.rt_actions.specs.Action.{Action, Enters, Leaves, Posts, Places, FindsFull, Readies, Starts, SetsAlarm}
use Rattle.rt_actions.specs.Action.{Returns, effect}
use Rattle.rt_actions.specs.Doing.{Doing, over, does}
use Rattle.rt_trace.specs.Label.{Stepped}
use Rattle.rt_trace.specs.declared.item.What.{What}
use Rattle.rt_trace.specs.declared.item.What.TheVariants as item
use Rattle.rt_app.specs.Tree.{Body, App}
use Rattle.rt_app.specs.Ceiling.{ceiling}
use Rattle.rt_laws.specs.Preemption.{system_ceiling, greatest_ceiling}
use Rattle.rt_laws.specs.Allowed.{HasStep}
use Rattle.rt_laws.specs.Giving.{return_item, item_of}
use Rattle.rt_laws.specs.MessagesWaiting.{is_ready_at, is_start_at}
use Rattle.rt_laws.specs.State.{Role, Init, Idle, Waiting, Serving, Job, State}
use Rattle.rt_laws.specs.Unspent.{AreUnspent}
use Rattle.rt_laws.proofs.Fine.{OfLevel}
use Rattle.rt_laws.specs.Places.{Hand, hands_behind}
use Rattle.rt_laws.proofs.Hands.{InTransit, Bare, hand_of, Fits, idle_fits}
use Rattle.rt_laws.specs.Acting.{idle_job}
use Rattle.rt_respond.specs.Handlers.{handlers, is_at}
use Rattle.rt_respond.specs.Work.{steps_weight, release_work}
use Rattle.rt_respond.specs.declared.handler.Quantity.{Quantity}
use Rattle.rt_respond.specs.declared.handler.Handler.{Handler}
use Rattle.rt_respond.specs.declared.handler.Release.{Release}
use Rattle.rt_respond_laws.specs.Moments.{IsRoleAt}
use Rattle.rt_respond_laws.proofs.Sending.{Posting, released, place_taken, AtMost, head_in}
use Rattle.rt_respond_laws.proofs.Modes.{Mode, Outside, Inside, moved, Comes, Holds}
use Rattle.rt_respond_laws.proofs.Weights.{weigh}
use Rattle.rt_respond_laws.proofs.Bodies.{sends_of, InTurn, Waits}
use Rattle.rt_respond_laws.proofs.Passing.{sections_after, lefts_after, pending_after, SetsNone, SameReady, Acted}

module _ (app : App) (what : Quantity) (p : ℕ) where
  -- the section so deep from the innermost is the outermost that holds the priority off, and it has no more left than
  -- this, what is released in it counted
  abbrev pub LiesIn : ℕ → ℕ → ℕ → List Section → List ℕ → Type 0
  LiesIn depth rest most [] ns = ⊥
  LiesIn depth rest most (x ∷ xs) [] = ⊥
  LiesIn zero rest most (x ∷ xs) (n ∷ ns) =
      (p ≤ ceiling app x) × (greatest_ceiling app xs < p) × (steps_weight what n + rest ≤ most)
  LiesIn (suc depth) rest most (x ∷ xs) (n ∷ ns) = LiesIn depth rest most xs ns

  lies_high : (depth rest most : ℕ) (xs : List Section) (ns : List ℕ) → LiesIn depth rest most xs ns
      → p ≤ greatest_ceiling app xs
  lies_high depth rest most [] ns lies = absurd lies
  lies_high depth rest most (x ∷ xs) [] lies = absurd lies
  lies_high zero rest most (x ∷ xs) (n ∷ ns) lies = let high = lies.0 in omega (arith, high)
  lies_high (suc depth) rest most (x ∷ xs) (n ∷ ns) lies =
      let high = lies_high depth rest most xs ns lies in omega (arith, high)

  -- with more in reserve
  lies_more : (depth rest most more : ℕ) (xs : List Section) (ns : List ℕ) → most ≤ more
      → LiesIn depth rest most xs ns → LiesIn depth rest more xs ns
  lies_more depth rest most more [] ns less lies = absurd lies
  lies_more depth rest most more (x ∷ xs) [] less lies = absurd lies
  lies_more zero rest most more (x ∷ xs) (n ∷ ns) less lies =
      let few = lies.2 in (lies.0, lies.1, omega (arith, few, less))
  lies_more (suc depth) rest most more (x ∷ xs) (n ∷ ns) less lies = lies_more depth rest most more xs ns less lies

  -- a step in it, which releases so much
  pub lies_step : (depth rest later now most : ℕ) (xs : List Section) (ns : List ℕ) → AllByRecursion (λ n. 0 < n) ns
      → now + later ≤ rest → LiesIn depth rest most xs ns
      → (steps_weight what 1 + now ≤ most)
      × LiesIn depth later (most - steps_weight what 1 - now) xs (map (λ n. n - 1) ns)
  lies_step depth rest later now most [] ns may sum lies = absurd lies
  lies_step depth rest later now most (x ∷ xs) [] may sum lies = absurd lies
  lies_step zero rest later now most (x ∷ xs) (n ∷ ns) may sum lies =
      let few = lies.2 in
      let less = weigh what n may.0 in (
        omega (arith, few, less, sum),
        (lies.0, lies.1, omega (arith, few, less, sum)),
      )
  lies_step (suc depth) rest later now most (x ∷ xs) (n ∷ ns) may sum lies =
      lies_step depth rest later now most xs ns may.1 sum lies

  -- the innermost is left
  lies_out : (rest most : ℕ) (xs : List Section) (ns : List ℕ) → LiesIn zero rest most xs ns
      → greatest_ceiling app (drop 1 xs) < p
  lies_out rest most [] ns lies = absurd lies
  lies_out rest most (x ∷ xs) [] lies = absurd lies
  lies_out rest most (x ∷ xs) (n ∷ ns) lies = lies.1

  lies_less : (depth rest most : ℕ) (xs : List Section) (ns : List ℕ) → LiesIn (suc depth) rest most xs ns
      → LiesIn depth rest most (drop 1 xs) (drop 1 ns)
  lies_less depth rest most [] ns lies = absurd lies
  lies_less depth rest most (x ∷ xs) [] lies = absurd lies
  lies_less depth rest most (x ∷ xs) (n ∷ ns) lies = lies

  closed_less : (xs : List Section) → greatest_ceiling app xs < p → greatest_ceiling app (drop 1 xs) < p
  closed_less [] closed = closed
  closed_less (x ∷ xs) closed = omega (arith, closed)

-- the thread begins anew with empty hands
pub thread_fits : (app : App) (vs : Values) → Fits Bare (idle_job app vs app.idle).rest
thread_fits app vs = go app.idle
  where
    go : (o : Option Body) → Fits Bare (idle_job app vs o).rest
    go None = tt
    go (Some b) = idle_fits app vs

-- a level whose dispatcher is at a handler
pub record IsLevelAt (app : App) (i : Handler) (q : ℕ) : Type 0 where
  pub handler : Handler
  pub declared : IsIn (handlers app) handler
  pub dispatches : handler.is_dispatcher ≡ true
  pub level : handler.priority ≡ q
  pub at : is_at i handler ≡ true

-- behind a step of a job it has returned, or no more than before is in reserve and in its hands
abbrev pub IsTight : Posting → ℕ → ℕ → List Hand → Option What → List Job → State → Type 0
IsTight posts before reserve hands shown others t =
    (t.jobs ≡ others) ⊎ (reserve + head_in posts (hands_behind hands (Stepped shown)) ≤ before + head_in posts hands)

-- an item that no message becomes ready or starts by
pub record IsElse (app : App) (shown : Option What) : Type 0 where
  pub no_start : (q : ℕ) → is_start_at app q (Stepped shown) ≡ false
  pub no_ready : (q : ℕ) → is_ready_at app q (Stepped shown) ≡ false

module _ (app : App) (what : Quantity) (i : Handler) (posts : Posting) (most : ℕ → ℕ) where
  abbrev p : ℕ
  p = i.priority

  abbrev asks : Release → Option ℕ
  asks = release_work app what i

  -- where a lower job is, with so much in reserve
  abbrev pub StandsIn : ℕ → Mode → List Section → List ℕ → Type 0
  StandsIn reserve Outside xs ns = greatest_ceiling app xs < p
  StandsIn reserve (Inside rest depth) xs ns = LiesIn app what p depth rest reserve xs ns

  -- a job asks for so much, and what is in reserve is enough for it
  pub data Claim (reserve own : ℕ) (hand : InTransit) (job : Job) : Type 0 where
    -- it is at the handler
    Own : (irq : ℕ) → job.role ≡ Serving irq → IsRoleAt app i job.role → p ≤ job.priority → (rest : ℕ)
        → AtMost app posts rest job.rest
        → own ≡ steps_weight what job.left + rest → Claim reserve own hand job
    -- it is a dispatcher at the handler, which has not entered the section of its messages
    Begin : (irq : ℕ) → job.role ≡ Serving irq → IsRoleAt app i job.role → p ≤ job.priority → (q : ℕ)
        → IsLevelAt app i q
        → Waits app asks posts q job.rest → own ≡ steps_weight what job.left → Claim reserve own hand job
    -- it is one inside the section, which has not started a message
    Turn : (irq : ℕ) → job.role ≡ Serving irq → IsRoleAt app i job.role → p ≤ job.priority → (q : ℕ) → IsLevelAt app i q
        → InTurn app asks posts q job.rest → own ≡ steps_weight what job.left → Claim reserve own hand job
    -- it is of the same priority, and behind it
    Equal : ¬ IsRoleAt app i job.role → job.priority ≡ p → (rest : ℕ) → AtMost app posts rest job.rest
        → steps_weight what job.left + rest ≤ reserve → own ≡ 0 → Claim reserve own hand job
    -- it is of a lower priority
    Under : ¬ IsRoleAt app i job.role → job.priority < p → (mode : Mode)
        → Holds app what p (most job.priority) posts hand mode job.rest
        → StandsIn reserve mode job.sections job.lefts → own ≡ 0 → Claim reserve own hand job

  -- with some hands that fit what it is to do
  abbrev pub Claimed : ℕ → ℕ → Job → Type 0
  Claimed reserve own job = (hand : InTransit) × Fits hand job.rest × Claim reserve own hand job

  -- these ask for so much
  abbrev pub Owe : ℕ → ℕ → List Job → Type 0
  Owe reserve all [] = all ≡ 0
  Owe reserve all (job ∷ others) =
      (own : ℕ) × (rest : ℕ) × (all ≡ own + rest) × Claimed reserve own job × Owe reserve rest others

  -- the hands with which they do
  abbrev pub hands_of : (reserve all : ℕ) (js : List Job) → Owe reserve all js → List InTransit
  hands_of reserve all [] owe = []
  hands_of reserve all (job ∷ others) owe = owe.3.0 ∷ hands_of reserve owe.1 others owe.4

  -- with more in reserve
  claim_more : (reserve more own : ℕ) (hand : InTransit) (job : Job) → reserve ≤ more → Claim reserve own hand job
      → Claim more own hand job
  claim_more reserve more own hand job less (Own irq role mine high rest few is) = Own irq role mine high rest few is
  claim_more reserve more own hand job less
      (Begin irq role mine high q at waits is) = Begin irq role mine high q at waits is
  claim_more reserve more own hand job less
      (Turn irq role mine high q at turns is) = Turn irq role mine high q at turns is
  claim_more reserve more own hand job less (Equal off same rest few within is) =
      Equal off same rest few (omega (arith, within, less)) is
  claim_more reserve more own hand job less (Under off lower Outside holds stands is) =
      Under off lower Outside holds stands is
  claim_more reserve more own hand job less (Under off lower (Inside rest depth) holds stands is) =
      Under off lower (Inside rest depth) holds
      (lies_more app what p depth rest reserve more job.sections job.lefts less stands) is

  pub owe_more : (reserve more all : ℕ) (js : List Job) → reserve ≤ more → Owe reserve all js → Owe more all js
  owe_more reserve more all [] less owe = owe
  owe_more reserve more all (job ∷ others) less owe = (
    owe.0,
    owe.1,
    owe.2,
    (owe.3.0, owe.3.1, claim_more reserve more owe.0 owe.3.0 job less owe.3.2),
    owe_more reserve more owe.1 others less owe.4,
  )

  -- where the system ceiling is below the priority nothing needs to be in reserve
  claim_any : (reserve other own : ℕ) (hand : InTransit) (job : Job) → job.priority < p
      → greatest_ceiling app job.sections < p
      → Claim reserve own hand job → Claim other own hand job
  claim_any reserve other own hand job lower closed (Own irq role mine high rest few is) = absurd (omega
      (arith, high, lower))
  claim_any reserve other own hand job lower closed (Begin irq role mine high q at waits is) = absurd (omega
      (arith, high, lower))
  claim_any reserve other own hand job lower closed (Turn irq role mine high q at turns is) = absurd (omega
      (arith, high, lower))
  claim_any reserve other own hand job lower closed (Equal off same rest few within is) =
      absurd (omega (arith, same, lower))
  claim_any reserve other own hand job lower closed (Under off less Outside holds stands is) =
      Under off less Outside holds stands is
  claim_any reserve other own hand job lower closed (Under off less (Inside rest depth) holds stands is) =
      let high = lies_high app what p depth rest reserve job.sections job.lefts stands in
      absurd (omega (arith, high, closed))

  pub owe_any : (reserve other all : ℕ) (js : List Job) → system_ceiling app js < p → Owe reserve all js
      → Owe other all js
  owe_any reserve other all [] below owe = owe
  owe_any reserve other all (job ∷ others) below owe = (
    owe.0,
    owe.1,
    owe.2,
    (
      owe.3.0,
      owe.3.1,
      claim_any reserve other owe.0 owe.3.0 job (omega (arith, below)) (omega (arith, below)) owe.3.2,
    ),
    owe_any reserve other owe.1 others (omega (arith, below)) owe.4,
  )

  pub hands_any : (reserve other all : ℕ) (js : List Job) (below : system_ceiling app js < p) (owe : Owe reserve all js)
      → hands_of other all js (owe_any reserve other all js below owe) ≡ hands_of reserve all js owe
  unfolding owe_any
  hands_any reserve other all [] below owe = refl
  hands_any reserve other all (job ∷ others) below owe =
      ap (λ hs. owe.3.0 ∷ hs) (hands_any reserve other owe.1 others (omega (arith, below)) owe.4)

  pub hands_more : (reserve more all : ℕ) (js : List Job) (less : reserve ≤ more) (owe : Owe reserve all js)
      → hands_of more all js (owe_more reserve more all js less owe) ≡ hands_of reserve all js owe
  unfolding owe_more
  hands_more reserve more all [] less owe = refl
  hands_more reserve more all (job ∷ others) less owe =
      ap (λ hs. owe.3.0 ∷ hs) (hands_more reserve more owe.1 others less owe.4)

  -- where nothing is asked for no job is at the handler
  module _ (steps : (n : ℕ) → 0 < n → 0 < steps_weight what n) where
    off_claim : (reserve own : ℕ) (hand : InTransit) (job : Job) → HasStep job.role job.left → own ≡ 0
        → Claim reserve own hand job
        → ¬ IsRoleAt app i job.role
    off_claim reserve own hand job has none (Own irq role mine high rest few is) =
        let some = steps job.left (subst (λ r. HasStep r job.left) role has) in
        absurd (omega (arith, none, is, some))
    off_claim reserve own hand job has none (Begin irq role mine high q at waits is) =
        let some = steps job.left (subst (λ r. HasStep r job.left) role has) in
        absurd (omega (arith, none, is, some))
    off_claim reserve own hand job has none (Turn irq role mine high q at turns is) =
        let some = steps job.left (subst (λ r. HasStep r job.left) role has) in
        absurd (omega (arith, none, is, some))
    off_claim reserve own hand job has none (Equal off same rest few within is) = off
    off_claim reserve own hand job has none (Under off lower mode holds stands is) = off

    pub owe_nothing : (reserve all : ℕ) (js : List Job) → AreUnspent js → all ≡ 0 → Owe reserve all js
        → AllByRecursion (λ job. ¬ IsRoleAt app i job.role) js
    owe_nothing reserve all [] unspent none owe = tt
    owe_nothing reserve all (job ∷ others) unspent none owe =
        let sum = owe.2 in (
          off_claim reserve owe.0 owe.3.0 job unspent.0 (omega (arith, sum, none)) owe.3.2,
          owe_nothing reserve owe.1 others unspent.1 (omega (arith, sum, none)) owe.4,
        )

  -- where something is, one of them is of the priority or a higher one
  reach_claim : (reserve own : ℕ) (hand : InTransit) (job : Job) → 0 < own → Claim reserve own hand job
      → p ≤ job.priority
  reach_claim reserve own hand job some (Own irq role mine high rest few is) = high
  reach_claim reserve own hand job some (Begin irq role mine high q at waits is) = high
  reach_claim reserve own hand job some (Turn irq role mine high q at turns is) = high
  reach_claim reserve own hand job some (Equal off same rest few within is) = absurd (omega (arith, some, is))
  reach_claim reserve own hand job some (Under off lower mode holds stands is) = absurd (omega (arith, some, is))

  pub zero_or_some : (n : ℕ) → (n ≡ 0) ⊎ (0 < n)
  zero_or_some zero = inl refl
  zero_or_some (suc n) = inr (omega arith)

  pub owe_reach : (reserve all : ℕ) (js : List Job) → 0 < all → Owe reserve all js → p ≤ system_ceiling app js
  owe_reach reserve all [] some owe = absurd (omega (arith, some, owe))
  owe_reach reserve all (job ∷ others) some owe =
      let sum = owe.2 in
      elim (zero_or_some owe.0) [
        | inl none ↦ (let deeper = owe_reach reserve owe.1 others (omega (arith, some, sum, none)) owe.4 in
            omega (arith, deeper))
        | inr more ↦ (let high = reach_claim reserve owe.0 owe.3.0 job more owe.3.2 in omega (arith, high))
      ]

  -- what a step that releases so much does to what is pending and ready, and what a start gives to its job
  pub data Effect (before behind : List Bool) (vs ws : Values) (shown : Option What) (now given : ℕ) : Type 0 where
    Kept : behind ≡ before → SameReady vs ws → IsElse app shown → place_taken posts shown ≤ now → given ≡ 0
        → Effect before behind vs ws shown now given
    Put : (irq : ℕ) → behind ≡ slice_set before irq true → posts.irq irq ≡ Some now → SameReady vs ws
        → IsElse app shown → place_taken posts shown ≡ 0 → given ≡ 0 → Effect before behind vs ws shown now given
    Readied : (q : ℕ) (m : Message) → behind ≡ before → shown ≡ Some (item.Ready m.task) → OfLevel app q m
        → posts.task m.task ≡ Some now → SameReady (effect (Readies q m) vs) ws → given ≡ 0
        → Effect before behind vs ws shown now given
    Started : (q : ℕ) (m : Message) (more : List Message) → behind ≡ before
        → shown ≡ Some (item.Start m.task m.args) → OfLevel app q m
        → messages (vs (Guarded (section.Ready q))) ≡ m ∷ more → SameReady (effect (Starts q m) vs) ws
        → (given ≡ 0) ⊎ (IsLevelAt app i q × (sends_of app asks posts m.task ≡ Some given))
        → Effect before behind vs ws shown now given

  -- a silent step, one that ends a job, and a return take no place
  pub silent_takes : (shown : Option What) → shown ≡ None → place_taken posts shown ≤ 0
  silent_takes shown is = let none = ap (place_taken posts) is in omega (arith, none)

  pub ended_takes : (shown : Option What)
      → (shown ≡ Some (item.End body.Init)) ⊎ (shown ≡ Some (item.End body.Idle)) → place_taken posts shown ≤ 0
  ended_takes shown (inl is) = let none = ap (place_taken posts) is in omega (arith, none)
  ended_takes shown (inr is) = let none = ap (place_taken posts) is in omega (arith, none)

  pub returned_takes : (shown : Option What) (role : Role) → shown ≡ return_item role → place_taken posts shown ≤ 0
  returned_takes shown role is = let none = ap (place_taken posts) is in let nothing = of role in omega
      (arith, none, nothing)
    where
      of : (role : Role) → place_taken posts (return_item role) ≡ 0
      of Init = refl
      of Idle = refl
      of Waiting = refl
      of (Serving irq) = refl

  -- a silent step, and one that ends a job, change nothing there
  pub silent_else : (shown : Option What) → shown ≡ None → IsElse app shown
  silent_else shown is = record {
    no_start = λ q. ap (λ w. is_start_at app q (Stepped w)) is;
    no_ready = λ q. ap (λ w. is_ready_at app q (Stepped w)) is;
  }

  pub ended_else : (shown : Option What) → (shown ≡ Some (item.End body.Init)) ⊎ (shown ≡ Some (item.End body.Idle))
      → IsElse app shown
  ended_else shown (inl is) = record {
    no_start = λ q. ap (λ w. is_start_at app q (Stepped w)) is;
    no_ready = λ q. ap (λ w. is_ready_at app q (Stepped w)) is;
  }
  ended_else shown (inr is) = record {
    no_start = λ q. ap (λ w. is_start_at app q (Stepped w)) is;
    no_ready = λ q. ap (λ w. is_ready_at app q (Stepped w)) is;
  }

  pub returned_else : (shown : Option What) (role : Role) → shown ≡ return_item role → IsElse app shown
  returned_else shown role is = record {
    no_start = λ q. ap (λ w. is_start_at app q (Stepped w)) is ∙ start_none q role;
    no_ready = λ q. ap (λ w. is_ready_at app q (Stepped w)) is ∙ ready_none q role;
  }
    where
      start_none : (q : ℕ) (role : Role) → is_start_at app q (Stepped (return_item role)) ≡ false
      start_none q Init = refl
      start_none q Idle = refl
      start_none q Waiting = refl
      start_none q (Serving irq) = refl

      ready_none : (q : ℕ) (role : Role) → is_ready_at app q (Stepped (return_item role)) ≡ false
      ready_none q Init = refl
      ready_none q Idle = refl
      ready_none q Waiting = refl
      ready_none q (Serving irq) = refl

  -- of an action
  module _ (s : State) (job : Job) (made vs later : Values) (behind : List Bool) where
    action_effect : (action : Action) (now : ℕ) → released posts action ≡ Some now
        → behind ≡ pending_after action s.pending
        → Acted app s job (item_of s job.role action) action made vs later
        → Effect s.pending behind s.values later (item_of s job.role action) now 0
    action_effect (Posts irq) now is pending acted =
        Put irq pending is (λ q. acted.reached q ∙ ap (λ us. messages (us (Guarded (section.Ready q)))) acted.is)
        (record { no_start = λ q. refl; no_ready = λ q. refl }) refl refl
    action_effect (Readies q m) now is pending acted =
        Readied q m pending refl acted.level is
        (λ r. acted.reached r ∙ ap (λ us. messages (us (Guarded (section.Ready r)))) acted.is) refl
    action_effect (Starts q m) now is pending acted =
        Started q m acted.level.1.0 pending refl acted.level.0 acted.level.1.1
        (λ r. acted.reached r ∙ ap (λ us. messages (us (Guarded (section.Ready r)))) acted.is) (inl refl)
    action_effect (Places n) now is pending acted =
        Kept pending (λ q. acted.reached q ∙ ap (λ us. messages (us (Guarded (section.Ready q)))) acted.is)
        (record { no_start = λ q. refl; no_ready = λ q. refl })
        (let same = same_Some (posts.place n) now is in omega (arith, same)) refl
    action_effect (FindsFull n) now is pending acted =
        Kept pending (λ q. acted.reached q ∙ ap (λ us. messages (us (Guarded (section.Ready q)))) acted.is)
        (record { no_start = λ q. refl; no_ready = λ q. refl })
        (let same = same_Some (posts.place n) now is in omega (arith, same)) refl
    action_effect SetsAlarm now is pending acted = absurd acted.goes_on
    action_effect Returns now is pending acted = absurd acted.goes_on
    action_effect action now is pending acted =
        Kept pending (λ q. acted.reached q ∙ ap (λ us. messages (us (Guarded (section.Ready q)))) acted.is)
        (record { no_start = λ q. refl; no_ready = λ q. refl }) (omega arith) refl

    pub effect_of : (action : Action) (now : ℕ) (shown : Option What) → released posts action ≡ Some now
        → behind ≡ pending_after action s.pending → Acted app s job shown action made vs later
        → Effect s.pending behind s.values later shown now 0
    effect_of action now shown is pending acted =
        subst (λ w. Effect s.pending behind s.values later w now 0) acted.shows
        (action_effect action now is pending
        (subst (λ w. Acted app s job w action made vs later) (sym acted.shows) acted))

  -- these ask for so much, with these hands
  abbrev pub OweWith : ℕ → ℕ → List Hand → List Job → Type 0
  OweWith reserve all hands js = (owe : Owe reserve all js) × (map hand_of (hands_of reserve all js owe) ≡ hands)

  -- what is asked for behind a step, where so much was asked for and so much in reserve, of which it spends so many
  -- core steps; these were the hands
  pub record Spends (before full : ℕ) (hands : List Hand) (s : State) (job : Job) (others : List Job)
      (shown : Option What) (spent : ℕ) (t : State) : Type 0 where
    pub reserve : ℕ
    pub all : ℕ
    pub now : ℕ
    pub given : ℕ
    pub owes : OweWith reserve all (hands_behind hands (Stepped shown)) t.jobs
    pub effects : Effect s.pending t.pending s.values t.values shown now given
    pub less : reserve ≤ full
    pub tight : ¬ IsRoleAt app i job.role → IsTight posts full reserve hands shown others t
    pub sum : all + now + reserve + spent ≤ before + full + given
    pub small : now ≤ before + full

  -- a claim sets no alarm
  pub no_alarm : (posts : Posting) (n : ℕ) (rest : Doing Values) → AtMost app posts n rest → SetsNone rest
  no_alarm posts n over few = tt
  no_alarm posts n (does SetsAlarm made next) few = none-some few.0 few.2
  no_alarm posts n (does action made next) few = tt

  no_alarm_yet : (q : ℕ) (rest : Doing Values) → Waits app asks posts q rest → SetsNone rest
  no_alarm_yet q over waits = tt
  no_alarm_yet q (does SetsAlarm made next) waits = waits
  no_alarm_yet q (does action made next) waits = tt

  no_alarm_turn : (q : ℕ) (rest : Doing Values) → InTurn app asks posts q rest → SetsNone rest
  no_alarm_turn q over turns = tt
  no_alarm_turn q (does SetsAlarm made next) turns = none-some turns.0 turns.2
  no_alarm_turn q (does action made next) turns = tt

  no_alarm_in : (bound : ℕ) (hand : InTransit) (mode : Mode) (rest : Doing Values)
      → Holds app what p bound posts hand mode rest → SetsNone rest
  no_alarm_in bound hand mode over holds = tt
  no_alarm_in bound hand mode (does SetsAlarm made next) holds = none-some holds.0 holds.2
  no_alarm_in bound hand mode (does action made next) holds = tt

  pub sets_none : (reserve own : ℕ) (job : Job) → Claimed reserve own job → SetsNone job.rest
  sets_none reserve own job claimed = by claimed.2
    where
      by : Claim reserve own claimed.0 job → SetsNone job.rest
      by (Own irq role mine high rest few is) = no_alarm posts rest job.rest few
      by (Begin irq role mine high q at waits is) = no_alarm_yet q job.rest waits
      by (Turn irq role mine high q at turns is) = no_alarm_turn q job.rest turns
      by (Equal off same rest few within is) = no_alarm posts rest job.rest few
      by (Under off lower mode holds stands is) =
          no_alarm_in (most job.priority) claimed.0 mode job.rest holds

  -- where a lower job is behind an action in a section
  pub stands_moved : (action : Action) (depth later reserve : ℕ) (xs : List Section) (ns : List ℕ)
      → LiesIn app what p depth later reserve xs (map (λ n. n - 1) ns)
      → StandsIn reserve (moved action later depth) (sections_after action xs) (lefts_after action ns)
  stands_moved (Enters x cost) depth later reserve xs ns lies = lies
  stands_moved (Leaves x) zero later reserve xs ns lies =
      lies_out app what p later reserve xs (map (λ n. n - 1) ns) lies
  stands_moved (Leaves x) (suc depth) later reserve xs ns lies =
      lies_less app what p depth later reserve xs (map (λ n. n - 1) ns) lies
  stands_moved action depth later reserve xs ns lies = lies

  -- and outside of those that count
  pub stands_come : (bound left : ℕ) (action : Action) (now held : ℕ) (after : Mode) (xs : List Section) (ns : List ℕ)
      → released posts action ≡ Some now → bound ≤ left + now + held → greatest_ceiling app xs < p
      → Comes app what p bound held action after
      → StandsIn left after (sections_after action xs) (lefts_after action ns)
  stands_come bound left (Enters x cost) now held after xs ns is within closed (inl goes) =
      let none : 0 ≡ now = same_Some 0 now is in
      let fits = goes.within in
      subst (λ mode. StandsIn left mode (x ∷ xs) ((cost - 1) ∷ map (λ n. n - 1) ns)) (sym goes.is)
      (goes.holds_off, closed, omega (arith, none, fits, within))
  stands_come bound left (Enters x cost) now held after xs ns is within closed (inr low) =
      let under = low.0 in
      subst (λ mode. StandsIn left mode (x ∷ xs) ((cost - 1) ∷ map (λ n. n - 1) ns)) (sym low.1)
      (omega (arith, under, closed))
  stands_come bound left (Leaves x) now held after xs ns is within closed comes =
      subst (λ mode. StandsIn left mode (drop 1 xs) (drop 1 (map (λ n. n - 1) ns))) (sym comes)
      (closed_less app what p xs closed)
  stands_come bound left (Posts irq) now held after xs ns is within closed comes =
      subst (λ mode. StandsIn left mode xs (map (λ n. n - 1) ns)) (sym comes) closed
  stands_come bound left action now held after xs ns is within closed comes =
      subst (λ mode. StandsIn left mode (sections_after action xs) (lefts_after action ns)) (sym comes) closed
