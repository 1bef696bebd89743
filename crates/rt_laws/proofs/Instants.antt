-- An arming and a move put their message last in the timer queue, and of the messages of the least instant the first
-- there is the least.
use Rattle.std.proofs.Common.{◌≡◌, ℕ, ◌<◌, ◌≤◌, ◌==◌, min, Bool, true, false, cond, if◌then◌else◌, find, List}
use Rattle.std.proofs.Common.{[], ◌∷◌, ◌++◌, Option, Some, None, IfSome, refl, sym, ap, subst, ◌∙◌, le_refl, eq-eqb}
use Rattle.std.proofs.Common.{arith, add-one}
use Rattle.std.specs.List.{AllByRecursion}
use Rattle.std.proofs.lemmas.Bool.{eqb-true}
use Rattle.std.proofs.lemmas.Option.{same_Some, none-some}
use Rattle.rt_actions.specs.Location.{Guarded}
use Rattle.rt_actions.specs.Content.{Armed, Content, Values, timer_content, delays, lesser, least_instant, has_instant}
use Rattle.rt_actions.specs.Content.{least, without_handle, postponed_message}
use Rattle.rt_actions.specs.Action.{Action, Arms, Moves, SetsAlarm, Returns, effect}
use Rattle.rt_actions.specs.Doing.{Doing, over, does}
use Rattle.rt_ids.specs.declared.ids.Section.{Section}
use Rattle.rt_ids.specs.declared.ids.Section.TheVariants as section
use Rattle.rt_trace.specs.declared.item.What.{What}
use Rattle.rt_trace.specs.declared.item.What.TheVariants as what
use Rattle.rt_app.specs.Tree.{App}
use Rattle.rt_laws.specs.State.{Role, Init, Idle, Waiting, Serving, Job, State, first, reached_values}
use Rattle.rt_laws.specs.Giving.{next_instant, is_due, return_item, next_item, item_given}
use Rattle.rt_laws.specs.Acting.{answer, state_after_doing}
use Rattle.rt_laws.specs.Allowed.{state_after_item}
use Rattle.rt_laws.specs.ByItems.{after_all}
use Rattle.rt_laws.specs.Observer.{Seen}
use Rattle.rt_laws.specs.Instants.{ArmsLast, MovesLast, FiresFirst, EqualInstantsFireInOrder}
use Rattle.rt_laws.proofs.Fine.{Queued, IsFine, held_after, queued_effect, effect_same, reached_same}
use Rattle.rt_laws.proofs.Well.{NextKept, AllKept, StackWell}
use Rattle.rt_laws.proofs.Keeping.{labels_well}

-- what an item says of the states before and behind it
abbrev GoesLast : State → State → What → Type 0
GoesLast before after (what.Arm t i) = ArmsLast before after t i
GoesLast before after (what.Move t h i) = MovesLast before after t h i
GoesLast before after w = Unit {0}

by_alarm : (before after : State) (due : Bool) → GoesLast before after (if due then what.Alarm else what.AlarmSet)
by_alarm before after true = tt
by_alarm before after false = tt

by_return : (before after : State) (role : Role) (w : What) → return_item role ≡ Some w → GoesLast before after w
by_return before after Init w is = absurd (none-some w is)
by_return before after Idle w is = absurd (none-some w is)
by_return before after Waiting w is = absurd (none-some w is)
by_return before after (Serving irq) w is = subst (GoesLast before after) (same_Some (what.Ret irq) w is) tt

module _ (app : App) (s : State) (queued : Queued app s.values) where
  module _ (role : Role) (q k : ℕ) (held : List Section) (base : Values) (job : Job) (others : List Job) where
    abbrev Asked : Doing Values → Type 0
    Asked rest = IsFine app role q k held base rest × NextKept app s.time s.values held rest

    -- the code changes nothing of the timer queue on its way to its next action
    timer_is : (action : Action) (made : Values) (next : ℕ → Values → Doing Values) → Asked (does action made next)
        → reached_values (next (answer s action) (effect action s.values)) (effect action s.values)
        (Guarded section.Timer)
        ≡ effect action s.values (Guarded section.Timer)
    timer_is action made next asked =
        reached_same app role q (answer s action) (held_after held action) (next (answer s action) vs) vs
        (asked.0.5 (answer s action) vs
        (queued_effect app s.values queued role q held action asked.0.1 s.time asked.1.1)
        (effect_same action held s.values made asked.1.0 asked.1.2)) section.Timer tt
      where
        vs : Values
        vs = effect action s.values

    goes_last : (rest : Doing Values) → Asked rest → (w : What) → next_item s role rest ≡ Some w
        → GoesLast s (state_after_doing app s job others rest) w
    goes_last over asked w is = absurd (none-some w is)
    goes_last (does (Arms i m) made next) asked w is =
        let same = timer_is (Arms i m) made next asked in
        subst (GoesLast s (state_after_doing app s job others (does (Arms i m) made next)))
        (same_Some (what.Arm m.task i) w is)
        (record {
          message = m;
          of_task = refl;
          given = ap (λ (c : Content). (timer_content c).given) same
              ∙ add-one (timer_content (s.values (Guarded section.Timer))).given;
          last = ap delays same
              ∙ ap (λ n. delays (s.values (Guarded section.Timer)) ++ record { instant = i; message = m; handle = n }
              ∷ []) (add-one (timer_content (s.values (Guarded section.Timer))).given);
        })
    goes_last (does (Moves n h i) made next) asked w is =
        let found = asked.1.1 in
        subst (GoesLast s (state_after_doing app s job others (does (Moves n h i) made next)))
        (same_Some (what.Move n h i) w is)
        (record {
          moved = found.0;
          was_armed = found.1;
          last = ap delays (timer_is (Moves n h i) made next asked)
              ∙ ap (λ o. without_handle n h (delays (s.values (Guarded section.Timer))) ++ postponed_message i o)
              found.1;
        })
    goes_last (does SetsAlarm made next) asked w is =
        subst (GoesLast s (state_after_doing app s job others (does SetsAlarm made next)))
        (same_Some (if is_due s.time (next_instant s) then what.Alarm else what.AlarmSet) w is)
        (by_alarm s (state_after_doing app s job others (does SetsAlarm made next)) (is_due s.time (next_instant s)))
    goes_last (does Returns made next) asked w is =
        by_return s (state_after_doing app s job others (does Returns made next)) role w is
    goes_last (does action made next) asked w is =
        subst (GoesLast s (state_after_doing app s job others (does action made next))) (same_Some _ w is) tt

  gives_last : (js : List Job) (vs : List Seen) → StackWell app js vs → AllKept app s.time s.values js
      → (w : What) → item_given s js ≡ Some w → GoesLast s (state_after_item app s js) w
  gives_last [] vs stack order w is = absurd (none-some w is)
  gives_last (job ∷ others) [] stack order w is = absurd stack
  gives_last (job ∷ others) (seen ∷ seens) stack order w is =
      goes_last job.role job.priority stack.0.answered job.sections stack.0.base job others job.rest
      (stack.0.fine, order.0) w is

-- no armed message is before the least instant
not_before : (i : ℕ) (armed : List Armed) → IfSome (least_instant armed) (λ l. i ≤ l)
    → AllByRecursion (λ (a : Armed). i ≤ a.instant) armed
not_before i [] bound = tt
not_before i (a ∷ armed) bound =
    let parts = go (least_instant armed) bound in (parts.0, not_before i armed parts.1)
  where
    go : (o : Option ℕ) → i ≤ lesser a.instant o → (i ≤ a.instant) × IfSome o (λ l. i ≤ l)
    go None bound = (bound, tt)
    go (Some j) bound = (left i a.instant j bound, right i a.instant j bound)
      where
        left : (i x j : ℕ) → i ≤ min x j → i ≤ x
        left i x j bound = omega arith

        right : (i x j : ℕ) → i ≤ min x j → i ≤ j
        right i x j bound = omega arith

-- of a list of armed messages this one is the first of an instant, which is the least
module _ (i : ℕ) (a : Armed) where
  record Splits (all : List Armed) : Type 0 where
    before : List Armed
    behind : List Armed
    parts : all ≡ before ++ a ∷ behind
    here : a.instant ≡ i
    later : AllByRecursion (λ (b : Armed). i < b.instant) before
    no_earlier : AllByRecursion (λ (b : Armed). i ≤ b.instant) behind

  splits : (all : List Armed) → AllByRecursion (λ (b : Armed). i ≤ b.instant) all
      → find (has_instant (Some i)) all ≡ Some a → Splits all
  splits [] bound is = absurd (none-some a is)
  splits (b ∷ all) bound is = go (b.instant == i) refl is (splits all bound.1)
    where
      go : (c : Bool) → (b.instant == i) ≡ c → cond c (Some b) (find (has_instant (Some i)) all) ≡ Some a
          → (find (has_instant (Some i)) all ≡ Some a → Splits all) → Splits (b ∷ all)
      go true test same deeper = record {
        before = [];
        behind = all;
        parts = ap (λ x. x ∷ all) (same_Some b a same);
        here = subst (λ (x : Armed). x.instant ≡ i) (same_Some b a same) (eqb-true b.instant i test);
        later = tt;
        no_earlier = bound.1;
      }
      go false test same deeper =
          let rest = deeper same in record {
            before = b ∷ rest.before;
            behind = rest.behind;
            parts = ap (λ xs. b ∷ xs) rest.parts;
            here = rest.here;
            later = (after b.instant i bound.0 test, rest.later);
            no_earlier = rest.no_earlier;
          }
        where
          after : (n i : ℕ) → i ≤ n → (n == i) ≡ false → i < n
          after n i bound test =
              let differs : ¬ (n ≡ i) = λ same. (let equal = eq-eqb n i same in cc) in omega arith

fires_first : (all : List Armed) (a : Armed) → least all ≡ Some a → FiresFirst all a
fires_first [] a is = absurd (none-some a is)
fires_first (b ∷ all) a is =
    let i : ℕ = lesser b.instant (least_instant all) in
    let s = splits i a (b ∷ all) (not_before i (b ∷ all) (le_refl i)) is in record {
      before = s.before;
      behind = s.behind;
      parts = s.parts;
      later = subst (λ (n : ℕ). AllByRecursion (λ (c : Armed). n < c.instant) s.before) (sym s.here) s.later;
      no_earlier =
          subst (λ (n : ℕ). AllByRecursion (λ (c : Armed). n ≤ c.instant) s.behind) (sym s.here) s.no_earlier;
    }

pub equal_instants_fire_in_order : EqualInstantsFireInOrder
equal_instants_fire_in_order = record {
  arm = λ app accepted labels runs t i may.
      let s : State = after_all app (first app) labels in
      let behind = labels_well app accepted labels runs in
      gives_last app s behind.1.queued s.jobs behind.0.jobs behind.1.stack behind.1.order (what.Arm t i) may.1;
  move = λ app accepted labels runs t h i may.
      let s : State = after_all app (first app) labels in
      let behind = labels_well app accepted labels runs in
      gives_last app s behind.1.queued s.jobs behind.0.jobs behind.1.stack behind.1.order (what.Move t h i) may.1;
  fire = fires_first;
}
