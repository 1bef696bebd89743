-- What comes of a request by a chain of jobs is done within the response time of the handler that stands last on the
-- paths between the two.
use Rattle.std.proofs.Common.{◌≡◌, ℕ, ◌-◌, ◌≤◌, ◌<◌, ◌==◌, inl, inr, Bool, true}
use Rattle.std.proofs.Common.{false, not, if◌then◌else◌, List, [], ◌∷◌, ◌++◌, length}
use Rattle.std.proofs.Common.{option_map, Option, Some, None, refl, sym, ap}
use Rattle.std.proofs.Common.{◌∙◌, arith}
use Rattle.std.specs.List.{list_any}
use Rattle.std.proofs.lemmas.Bool.{eqb-true, cases_lt}
use Rattle.std.proofs.lemmas.Option.{none-some, same_Some}
use Rattle.rt_lemmas.proofs.Bools.{true_and_false, both_of_none, not_so, not_true}
use Rattle.rt_lemmas.proofs.Lists.{some_at}
use Rattle.rt_lemmas.proofs.Membership.{all_weaker, any_left, any_right}
use Rattle.rt_ids.specs.Choice.{IsIn}
use Rattle.rt_ids.specs.Lists.{or_zero}
use Rattle.rt_app.specs.Tree.{Spawn, Soon, After, Cancel, Move, Value, Calc, Now, Call, Statement, Bind, Assign, Branch}
use Rattle.rt_app.specs.Tree.{Repeat, Locked, Emit, Pend, Spawns, Block, Empty, Then, App}
use Rattle.rt_app.specs.Accepted.{IsAccepted}
use Rattle.rt_laws.specs.State.{Role, Init, Idle, Waiting, Serving, State}
use Rattle.rt_app.specs.Spawned.{value_spawns, statement_spawns, spawns}
use Rattle.rt_app.specs.Handlers.{irq_number}
use Rattle.rt_app.specs.Sending.{dispatcher_number}
use Rattle.rt_respond.specs.Form.{is_of_form}
use Rattle.rt_respond.specs.Handlers.{handlers, handled_block, stands_before, is_at}
use Rattle.rt_respond.specs.Number.{plus, greater_of, times}
use Rattle.rt_respond.specs.Path.{releases}
use Rattle.rt_respond.specs.Pends.{readies_task, block_spawns, statement_pends, block_pends}
use Rattle.rt_respond.specs.Work.{spawn_sends, value_sends, statement_sends, block_sends}
use Rattle.rt_respond.specs.declared.handler.Handler.{Handler}
use Rattle.rt_respond.specs.declared.handler.Release.{Release}
use Rattle.rt_respond.specs.declared.handler.Release.TheVariants as released_by
use Rattle.rt_respond.proofs.Order.{IsLater, later_if, before_if}
use Rattle.rt_respond_laws.specs.Moments.{IsNumberAt, IsRoleAt, NothingIsLeft}
use Rattle.rt_respond_laws.proofs.Sending.{Posting, Agrees}
use Rattle.rt_respond_laws.proofs.Tasks.{same_irq, not_bound}
use Rattle.rt_respond_laws.proofs.Handled.{handler_of_task, binds_own}
use Rattle.rt_respond_laws.proofs.Asking.{same_test, number_of}
use Rattle.rt_respond_laws.proofs.Tracing.{Any, times_zero}

-- where messages of a task have no number, and all else asks for nothing
abbrev but_message : ℕ → Release → Option ℕ
but_message task (released_by.Request k) = Some 0
but_message task (released_by.Message t) = if t == task then None else Some 0

-- where a `pend` of an interrupt has none
abbrev but_request : ℕ → Release → Option ℕ
but_request irq (released_by.Request k) = if k == irq then None else Some 0
but_request irq (released_by.Message t) = Some 0

-- code that does not spawn the task asks for nothing
module _ (task : ℕ) where
  unspawned_spawn : (s : Spawn) → readies_task task s ≡ false → spawn_sends (but_message task) s ≡ Some 0
  unspawned_spawn (Soon t args at) none = ap (λ b. if b then None else Some 0) none
  unspawned_spawn (After word delay t args at) none = refl
  unspawned_spawn (Cancel word t handle at) none = refl
  unspawned_spawn (Move word delay t handle at) none = refl

  first_none : (xs ys : List Spawn) → list_any (readies_task task) (xs ++ ys) ≡ false
      → list_any (readies_task task) xs ≡ false
  first_none xs ys none =
      not_so (list_any (readies_task task) xs) (λ is.
      true_and_false (list_any (readies_task task) (xs ++ ys)) (any_left (readies_task task) xs ys is) none)

  second_none : (xs ys : List Spawn) → list_any (readies_task task) (xs ++ ys) ≡ false
      → list_any (readies_task task) ys ≡ false
  second_none xs ys none =
      not_so (list_any (readies_task task) ys) (λ is.
      true_and_false (list_any (readies_task task) (xs ++ ys)) (any_right (readies_task task) xs ys is) none)

  unspawned_value : (v : Value) → list_any (readies_task task) (value_spawns v) ≡ false
      → value_sends (but_message task) v ≡ Some 0
  unspawned_value (Calc e) none = refl
  unspawned_value (Now at) none = refl
  unspawned_value (Call s) none = unspawned_spawn s (one s none)
    where
      one : (s : Spawn) → list_any (readies_task task) (s ∷ []) ≡ false → readies_task task s ≡ false
      one s none = (both_of_none (readies_task task s) false none).0

  mutual
    unspawned_statement : (s : Statement) → list_any (readies_task task) (statement_spawns s) ≡ false
        → statement_sends (but_message task) s ≡ Some 0
    unspawned_statement (Bind x v) none = unspawned_value v none
    unspawned_statement (Assign x e at) none = refl
    unspawned_statement (Branch e first second) none =
        ap (λ w. greater_of w (block_sends (but_message task) second))
        (unspawned first (first_none (spawns first) (spawns second) none))
        ∙ ap (greater_of (Some 0)) (unspawned second (second_none (spawns first) (spawns second) none))
    unspawned_statement (Repeat x first last turn) none =
        ap (times (last - first)) (unspawned turn none) ∙ times_zero (last - first)
    unspawned_statement (Locked r inner at) none = unspawned inner none
    unspawned_statement (Emit e) none = refl
    unspawned_statement (Pend k) none = refl
    unspawned_statement (Spawns s) none =
        unspawned_spawn s (both_of_none (readies_task task s) false none).0

    unspawned : (b : Block) → block_spawns task b ≡ false → block_sends (but_message task) b ≡ Some 0
    unspawned Empty none = refl
    unspawned (Then s rest) none =
        ap (λ w. plus w (block_sends (but_message task) rest))
        (unspawned_statement s (first_none (statement_spawns s) (spawns rest) none))
        ∙ ap (plus (Some 0)) (unspawned rest (second_none (statement_spawns s) (spawns rest) none))

-- code that does not pend the interrupt does not either
module _ (irq : ℕ) where
  unpended_spawn : (s : Spawn) → spawn_sends (but_request irq) s ≡ Some 0
  unpended_spawn (Soon t args at) = refl
  unpended_spawn (After word delay t args at) = refl
  unpended_spawn (Cancel word t handle at) = refl
  unpended_spawn (Move word delay t handle at) = refl

  unpended_value : (v : Value) → value_sends (but_request irq) v ≡ Some 0
  unpended_value (Calc e) = refl
  unpended_value (Now at) = refl
  unpended_value (Call s) = unpended_spawn s

  mutual
    unpended_statement : (s : Statement) → statement_pends irq s ≡ false
        → statement_sends (but_request irq) s ≡ Some 0
    unpended_statement (Bind x v) none = unpended_value v
    unpended_statement (Assign x e at) none = refl
    unpended_statement (Branch e first second) none =
        let both = both_of_none (block_pends irq first) (block_pends irq second) none in
        ap (λ w. greater_of w (block_sends (but_request irq) second)) (unpended first both.0)
        ∙ ap (greater_of (Some 0)) (unpended second both.1)
    unpended_statement (Repeat x first last turn) none =
        ap (times (last - first)) (unpended turn none) ∙ times_zero (last - first)
    unpended_statement (Locked r inner at) none = unpended inner none
    unpended_statement (Emit e) none = refl
    unpended_statement (Pend k) none = ap (λ b. if b then None else Some 0) none
    unpended_statement (Spawns s) none = unpended_spawn s

    unpended : (b : Block) → block_pends irq b ≡ false → block_sends (but_request irq) b ≡ Some 0
    unpended Empty none = refl
    unpended (Then s rest) none =
        let both = both_of_none (statement_pends irq s) (block_pends irq rest) none in
        ap (λ w. plus w (block_sends (but_request irq) rest)) (unpended_statement s both.0)
        ∙ ap (plus (Some 0)) (unpended rest both.1)

-- the weights by which a release of this handler has no number
abbrev pub asks_but : Bool → Handler → Release → Option ℕ
asks_but true g = but_message g.task
asks_but false g = but_request g.irq

abbrev pub posts_but : Bool → Handler → Posting
posts_but true g = record { irq = λ n. Some 0; task = λ t. if t == g.task then None else Some 0; place = λ t. 0 }
posts_but false g = record { irq = λ n. if n == g.number then None else Some 0; task = λ t. Some 0; place = λ t. 0 }

module _ (app : App) (accepted : IsAccepted app) (form : is_of_form app ≡ true) (g : Handler)
    (declared : IsIn (handlers app) g) where
  -- a body that does not release it asks for nothing by them
  pub unreleased : (b : Bool) → g.is_dispatcher ≡ b → (h : Handler) → releases app h g ≡ false
      → block_sends (asks_but b g) (handled_block app h) ≡ Some 0
  unreleased true kind h none =
      unspawned g.task (handled_block app h) (sym (ap (λ b. if b then block_spawns g.task (handled_block app h)
      else block_pends g.irq (handled_block app h)) kind) ∙ none)
  unreleased false kind h none =
      unpended g.irq (handled_block app h) (sym (ap (λ b. if b then block_spawns g.task (handled_block app h)
      else block_pends g.irq (handled_block app h)) kind) ∙ none)

  pub agree_but : (b : Bool) → g.is_dispatcher ≡ b → Agrees app (asks_but b g) (posts_but b g) Any
  agree_but true kind = record {
    pends = λ k within allowed. refl;
    sends = λ n k asked. record {
      ready = k;
      is = asked;
      sum = omega arith;
    };
    turns = λ r known. refl;
  }
  agree_but false kind = record {
    pends = λ k within allowed. go k within (irq_number app k) refl;
    sends = λ n k asked. record { ready = k; is = asked; sum = omega arith };
    turns = λ r known.
        ap (λ b. if b then None else Some 0)
        (not_so (dispatcher_number app r == g.number) (λ is.
        let of = handler_of_task app accepted g declared in
        not_bound app accepted form r known g.task of.row g.irq of.at (binds_own app accepted g of kind)
        (of.number ∙ ap Some (sym (eqb-true (dispatcher_number app r) g.number is)))));
  }
    where
      go : (k : ℕ) → k < length app.irqs → (o : Option ℕ) → irq_number app k ≡ o
          → (posts_but false g).irq (or_zero o) ≡ asks_but false g (released_by.Request k)
      go k within None none =
          let row = some_at app.irqs k within in
          absurd (none-some row.0.number (sym none ∙ ap (option_map (λ d. d.number)) row.1))
      go k within (Some n) is =
          ap (λ b. if b then None else Some 0)
          (same_test n g.number k g.irq
          (λ same. same_irq app accepted k g.irq g.number (is ∙ ap Some same) (number_of app accepted form g declared))
          (λ same. same_Some n g.number (sym is ∙ ap (irq_number app) same ∙ number_of app accepted form g declared)))

-- what is at a handler that is at another is at that one
pub at_through : (lowest h g : Handler) → is_at lowest h ≡ true → is_at h g ≡ true → is_at lowest g ≡ true
at_through lowest h g first second =
    ap not (not_so (stands_before lowest g) (λ is.
    later (later_if lowest g is)
    (λ later. true_and_false (stands_before lowest h) (before_if lowest h later) (not_true (stands_before lowest h)
    first))
    (λ later. true_and_false (stands_before h g) (before_if h g later) (not_true (stands_before h g) second))))
  where
    later : IsLater lowest g → ¬ IsLater lowest h → ¬ IsLater h g → ⊥
    later is no_first no_second = elim (cases_lt h.priority lowest.priority) [
      | inl lower ↦ no_first (inl lower)
      | inr high ↦ elim (cases_lt g.priority h.priority) [
        | inl below ↦ no_second (inl below)
        | inr above ↦ equal is high above
      ]
    ]
      where
        equal : IsLater lowest g → lowest.priority ≤ h.priority → h.priority ≤ g.priority → ⊥
        equal (inl lower) high above = omega (arith, lower, high, above)
        equal (inr same) high above =
            let level = same.0 in
            let number = same.1 in
            elim (cases_lt lowest.number h.number) [
              | inl less ↦ no_first (inr (omega (arith, level, high, above), less))
              | inr more ↦ elim (cases_lt h.number g.number) [
                | inl less ↦ no_second (inr (omega (arith, level, high, above), less))
                | inr most ↦ absurd (omega (arith, number, more, most))
              ]
            ]

-- where nothing of a handler is left, nothing of one at it is
pub less_left : (app : App) (lowest h : Handler) → is_at lowest h ≡ true → (s : State) → NothingIsLeft app lowest s
    → NothingIsLeft app h s
less_left app lowest h at s nothing = record {
  jobs = all_weaker (λ job. ¬ IsRoleAt app lowest job.role) (λ job. ¬ IsRoleAt app h job.role)
      (λ job none role. none (deeper job.role role)) s.jobs nothing.jobs;
  pending = λ irq number. nothing.pending irq (number_at irq number);
  ready = λ g there dispatches at_h.
      nothing.ready g there dispatches (at_through lowest h g at at_h);
}
  where
    number_at : (irq : ℕ) → IsNumberAt app h irq → IsNumberAt app lowest irq
    number_at irq number = record {
      handler = number.handler;
      serves = number.serves;
      at = at_through lowest h number.handler at number.at;
    }

    deeper : (role : Role) → IsRoleAt app h role → IsRoleAt app lowest role
    deeper Init is = tt
    deeper Idle is = absurd is
    deeper Waiting is = absurd is
    deeper (Serving irq) is = number_at irq is
