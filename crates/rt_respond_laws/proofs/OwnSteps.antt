-- A step of a job at a handler lowers what is asked for at it by a step.
use Rattle.std.proofs.Common.{◌≡◌, ℕ, ◌+◌, ◌-◌, ◌≤◌, inr, List, Option, Some}
use Rattle.std.proofs.Common.{refl, sym, ap, subst}
use Rattle.std.proofs.Common.{◌∙◌, arith}
use Rattle.std.specs.List.{AllByRecursion}
use Rattle.rt_ids.specs.declared.ids.Section.TheVariants as section
use Rattle.rt_actions.specs.Location.{Guarded}
use Rattle.rt_actions.specs.Content.{Values, messages}
use Rattle.rt_actions.specs.Action.{Action, Enters, Starts}
use Rattle.rt_actions.specs.Doing.{does}
use Rattle.rt_app.specs.Tree.{App}
use Rattle.rt_laws.specs.State.{Serving, Job}
use Rattle.rt_laws.proofs.Fine.{Queued}
use Rattle.rt_laws.proofs.Hands.{Bare, transit_then}
use Rattle.rt_respond.specs.Work.{steps_weight, release_work}
use Rattle.rt_respond.specs.declared.handler.Quantity.{Quantity}
use Rattle.rt_respond.specs.declared.handler.Handler.{Handler}
use Rattle.rt_respond.specs.declared.handler.Release.{Release}
use Rattle.rt_respond_laws.specs.Moments.{IsRoleAt}
use Rattle.rt_respond_laws.proofs.Weights.{weigh}
use Rattle.rt_respond_laws.proofs.Sending.{Posting, released, AtMost}
use Rattle.rt_respond_laws.proofs.Bodies.{InTurn, Waits}
use Rattle.rt_respond_laws.proofs.Passing.{Passes, Silently, Acts, Anew, Returned, sections_after, lefts_after}
use Rattle.rt_respond_laws.proofs.Passing.{pending_after, Acted, thread_end}
use Rattle.rt_respond_laws.proofs.Claims.{Own, Begin, Turn}
use Rattle.rt_respond_laws.proofs.Claims.{thread_fits}
use Rattle.rt_respond_laws.proofs.Claims.{IsLevelAt, Kept, Started, silent_else, ended_else, returned_else}
use Rattle.rt_respond_laws.proofs.Claims.{silent_takes, ended_takes, returned_takes, effect_of}
use Rattle.rt_respond_laws.proofs.Spending.{Asked, IsKnown, Known, SpendsSo, Owes, left_some, told_silent, told_acts}
use Rattle.rt_respond_laws.proofs.Spending.{told_anew, told_returns, fits_then, same_values}

module _ (app : App) (what : Quantity) (i : Handler) (posts : Posting) (most : ℕ → ℕ)
    (c : Asked app what i posts most) where
  open c use {positive, anew, s, job, others, shown, t, reserve, own, rest, hand, fits, owe, has, above}

  abbrev p : ℕ
  p = i.priority

  abbrev asks : Release → Option ℕ
  asks = release_work app what i

  abbrev So : ℕ → Type 0
  So = SpendsSo app what i posts most c

  abbrev OwesThen : ℕ → ℕ → List Job → Type 0
  OwesThen = Owes app what i posts most c

  -- of a job at the handler
  pub own_spends : (irq : ℕ) → job.role ≡ Serving irq → IsRoleAt app i job.role → p ≤ job.priority →
      (r : ℕ) → AtMost app posts r job.rest
      → own ≡ steps_weight what job.left + r → Passes app s job others shown t → So (steps_weight what 1)
  own_spends irq role mine over r few is (Silently js ps silent values) =
      let some = left_some app what i posts most c job.role job.priority job.left above has (omega
      (arith, over, positive)) in
      let less = weigh what job.left some in
      record {
        reserve = reserve;
        all = steps_weight what (job.left - 1) + r + rest;
        now = 0;
        owes = subst (OwesThen reserve (steps_weight what (job.left - 1) + r + rest)) (sym js) (
          (steps_weight what (job.left - 1) + r, rest, refl, (hand, fits, Own irq role mine over r few refl), owe),
          told_silent app what i posts most c silent,
        );
        given = 0;
        effects = Kept ps (same_values app what i posts most c values) (silent_else app what i posts most shown silent)
            (silent_takes app what i posts most shown silent) refl;
        small = omega arith;
        tight = λ off. absurd (off mine);
        less = omega arith;
        sum = omega (arith, less, is);
      }
  own_spends irq role mine over r few is
      (Acts action made next rest_is a vs j js role_is priority_is left_is rest_then
      sections lefts pending no_end acted) =
      let some = left_some app what i posts most c job.role job.priority job.left above has (omega
      (arith, over, positive)) in
      let less = weigh what job.left some in
      let now_left = ap (steps_weight what) left_is in
      let parts = subst (AtMost app posts r) rest_is few in
      let within = parts.3 in
      record {
        reserve = reserve;
        all = steps_weight what j.left + parts.1 + rest;
        now = parts.0;
        owes = subst (OwesThen reserve (steps_weight what j.left + parts.1 + rest)) (sym js) (
          (
            steps_weight what j.left + parts.1,
            rest,
            refl,
            (
              transit_then hand action,
              fits_then app what i posts most c action made next rest_is a vs j.rest rest_then,
              Own irq
                  (role_is ∙ role) (subst (IsRoleAt app i) (sym role_is) mine) (omega
                  (arith, over, priority_is)) parts.1 (subst (AtMost app posts parts.1)
                  (sym rest_then) (parts.4 a vs acted.queued)) refl,
            ),
            owe,
          ),
          told_acts app what i posts most c action acted.goes_on acted.shows,
        );
        given = 0;
        effects = effect_of app what i posts most s job made vs t.values t.pending action parts.0 shown parts.2
            pending acted;
        small = omega (arith, is, within);
        tight = λ off. absurd (off mine);
        less = omega arith;
        sum = omega (arith, less, is, now_left, within);
      }
  own_spends irq role mine over r few is (Anew vs js ps ended b next as_ready) =
      let some = left_some app what i posts most c job.role job.priority job.left above has (omega
      (arith, over, positive)) in
      let less = weigh what job.left some in
      record {
        reserve = reserve;
        all = 0 + rest;
        now = 0;
        owes = subst (OwesThen reserve (0 + rest)) (sym js) (
          (0, rest, refl, (Bare, thread_fits app vs, anew reserve vs), owe),
          told_anew app what i posts most c (thread_end b) next.made next.next next.is ended,
        );
        given = 0;
        effects = Kept ps as_ready (ended_else app what i posts most shown ended)
            (ended_takes app what i posts most shown ended) refl;
        small = omega arith;
        tight = λ off. absurd (off mine);
        less = omega arith;
        sum = omega (arith, less, is);
      }
  own_spends irq role mine over r few is (Returned js ps shows_it returns next values) =
      let some = left_some app what i posts most c job.role job.priority job.left above has (omega
      (arith, over, positive)) in
      let less = weigh what job.left some in
      record {
        reserve = reserve;
        all = rest;
        now = 0;
        owes = subst (OwesThen reserve rest) (sym js) (owe, told_returns app what i posts most c shows_it returns);
        given = 0;
        effects = Kept ps (same_values app what i posts most c values)
            (returned_else app what i posts most shown job.role shows_it)
            (returned_takes app what i posts most shown job.role shows_it) refl;
        small = omega arith;
        tight = λ off. absurd (off mine);
        less = omega arith;
        sum = omega (arith, less, is);
      }

  -- of a dispatcher at it that waits for its section
  pub begin_spends : (irq : ℕ) → job.role ≡ Serving irq → IsRoleAt app i job.role → p ≤ job.priority →
      (q : ℕ) → IsLevelAt app i q
      → Waits app asks posts q job.rest → own ≡ steps_weight what job.left → Passes app s job others shown t
      → So (steps_weight what 1)
  begin_spends irq role mine over q at waits is (Silently js ps silent values) =
      let some = left_some app what i posts most c job.role job.priority job.left above has (omega
      (arith, over, positive)) in
      let less = weigh what job.left some in
      record {
        reserve = reserve;
        all = steps_weight what (job.left - 1) + rest;
        now = 0;
        given = 0;
        owes = subst (OwesThen reserve (steps_weight what (job.left - 1) + rest)) (sym js) (
          (steps_weight what (job.left - 1), rest, refl, (hand, fits, Begin irq role mine over q at waits refl), owe),
          told_silent app what i posts most c silent,
        );
        effects = Kept ps (same_values app what i posts most c values) (silent_else app what i posts most shown silent)
            (silent_takes app what i posts most shown silent) refl;
        tight = λ off. absurd (off mine);
        less = omega arith;
        small = omega arith;
        sum = omega (arith, less, is);
      }
  begin_spends irq role mine over q at waits is (Acts action made next rest_is a vs j js role_is priority_is left_is
      rest_then sections lefts pending no_end acted) =
      let some = left_some app what i posts most c job.role job.priority job.left above has (omega
      (arith, over, positive)) in
      let less = weigh what job.left some in
      let now_left = ap (steps_weight what) left_is in
      let go = enters action (subst (Waits app asks posts q) rest_is waits) in
      record {
        reserve = reserve;
        all = steps_weight what j.left + rest;
        now = 0;
        given = 0;
        owes = subst (OwesThen reserve (steps_weight what j.left + rest)) (sym js) (
          (
            steps_weight what j.left,
            rest,
            refl,
            (
              transit_then hand action,
              fits_then app what i posts most c action made next rest_is a vs j.rest rest_then,
              Turn irq
                  (role_is ∙ role) (subst (IsRoleAt app i) (sym role_is) mine) (omega
                  (arith, over, priority_is)) q at (subst (InTurn app asks posts q)
                  (sym rest_then) (go.1 a vs acted.queued)) refl,
            ),
            owe,
          ),
          told_acts app what i posts most c action acted.goes_on acted.shows,
        );
        effects = effect_of app what i posts most s job made vs t.values t.pending action 0 shown go.0 pending acted;
        tight = λ off. absurd (off mine);
        less = omega arith;
        small = omega arith;
        sum = omega (arith, less, is, now_left);
      }
    where
      enters : (action : Action) → Waits app asks posts q (does action made next)
          → (released posts action ≡ Some 0)
          × ((n : ℕ) (vs : Values) → Queued app vs → InTurn app asks posts q (next n vs))
      enters (Enters (section.Ready r) cost) waits = (refl, waits.1)
      enters action waits = absurd waits
  begin_spends irq role mine over q at waits is (Anew vs js ps ended b next as_ready) =
      absurd (subst (Waits app asks posts q) next.is waits)
  begin_spends irq role mine over q at waits is (Returned js ps shows_it returns next values) =
      absurd (subst (Waits app asks posts q) next.is waits)

  -- of one inside it, which is to start a message
  pub turn_spends : Known app what i posts most s.values → (irq : ℕ) → job.role ≡ Serving irq
      → IsRoleAt app i job.role → p ≤ job.priority → (q : ℕ)
      → IsLevelAt app i q → InTurn app asks posts q job.rest → own ≡ steps_weight what job.left
      → Passes app s job others shown t
      → So (steps_weight what 1)
  turn_spends known irq role mine over q at turns is (Silently js ps silent values) =
      let some = left_some app what i posts most c job.role job.priority job.left above has (omega
      (arith, over, positive)) in
      let less = weigh what job.left some in
      record {
        reserve = reserve;
        all = steps_weight what (job.left - 1) + rest;
        now = 0;
        given = 0;
        owes = subst (OwesThen reserve (steps_weight what (job.left - 1) + rest)) (sym js) (
          (steps_weight what (job.left - 1), rest, refl, (hand, fits, Turn irq role mine over q at turns refl), owe),
          told_silent app what i posts most c silent,
        );
        effects = Kept ps (same_values app what i posts most c values) (silent_else app what i posts most shown silent)
            (silent_takes app what i posts most shown silent) refl;
        tight = λ off. absurd (off mine);
        less = omega arith;
        small = omega arith;
        sum = omega (arith, less, is);
      }
  turn_spends known irq role mine over q at turns is
      (Acts action made next rest_is a vs j js role_is priority_is left_is
      rest_then sections lefts pending no_end acted) =
      acts action rest_is (subst (InTurn app asks posts q) rest_is turns) pending sections lefts acted
    where
      others_act : (action : Action) → (rest_is : job.rest ≡ does action made next)
          → AtMost app posts 0 (does action made next)
          → t.pending ≡ pending_after action s.pending → j.sections ≡ sections_after action job.sections
          → j.lefts ≡ lefts_after action job.lefts
          → Acted app s job shown action made vs t.values → So (steps_weight what 1)
      others_act action rest_is most pending sections lefts acted =
          own_spends irq role mine over 0 (subst (AtMost app posts 0) (sym rest_is) most) (zero_more
          (steps_weight what job.left) is)
          (Acts action made next rest_is a vs j js role_is priority_is left_is rest_then sections lefts pending no_end
          acted)
        where
          zero_more : (n : ℕ) → own ≡ n → own ≡ n + 0
          zero_more n is = omega (arith, is)

      acts : (action : Action) → (rest_is : job.rest ≡ does action made next)
          → InTurn app asks posts q (does action made next)
          → t.pending ≡ pending_after action s.pending → j.sections ≡ sections_after action job.sections
          → j.lefts ≡ lefts_after action job.lefts
          → Acted app s job shown action made vs t.values → So (steps_weight what 1)
      acts (Starts r m) rest_is starts pending sections lefts acted =
          let some = left_some app what i posts most c job.role job.priority job.left above has (omega
          (arith, over, positive)) in
          let less = weigh what job.left some in
          let now_left = ap (steps_weight what) left_is in
          let at_r : IsLevelAt app i r = subst (IsLevelAt app i) (sym starts.0) at in
          let one = (subst (AllByRecursion (IsKnown app what i posts most r)) acted.level.1.1 (known r at_r)).0 in
          record {
            reserve = reserve;
            all = steps_weight what j.left + one.extra + rest;
            now = 0;
            given = one.extra;
            owes = subst (OwesThen reserve (steps_weight what j.left + one.extra + rest)) (sym js) (
              (
                steps_weight what j.left + one.extra,
                rest,
                refl,
                (
                  transit_then hand (Starts r m),
                  fits_then app what i posts most c
                      (Starts r m) made next rest_is a vs j.rest rest_then,
                  Own irq (role_is
                      ∙ role) (subst (IsRoleAt app i) (sym role_is) mine) (omega
                      (arith, over, priority_is)) one.extra (subst (AtMost app posts one.extra)
                      (sym rest_then) (starts.1 one.extra one.is one.small a vs acted.queued)) refl,
                ),
                owe,
              ),
              told_acts app what i posts most c (Starts r m) acted.goes_on acted.shows,
            );
            effects = Started r m acted.level.1.0 pending (sym acted.shows) acted.level.0 acted.level.1.1
                (λ x. acted.reached x ∙ ap (λ us. messages (us (Guarded (section.Ready x)))) acted.is) (inr (
                  at_r,
                  one.is,
                ));
            tight = λ off. absurd (off mine);
            less = omega arith;
            small = omega arith;
            sum = omega (arith, less, is, now_left);
          }
      acts action rest_is most pending sections lefts acted =
          others_act action rest_is most pending sections lefts acted
  turn_spends known irq role mine over q at turns is (Anew vs js ps ended b next as_ready) =
      own_spends irq role mine over 0 (subst (AtMost app posts 0) (sym next.is) (subst
      (InTurn app asks posts q) next.is
      turns)) (zero_more (steps_weight what job.left) is) (Anew vs js ps ended b next as_ready)
    where
      zero_more : (n : ℕ) → own ≡ n → own ≡ n + 0
      zero_more n is = omega (arith, is)
  turn_spends known irq role mine over q at turns is (Returned js ps shows_it returns next values) =
      own_spends irq role mine over 0 (subst (AtMost app posts 0) (sym next.is) (subst
      (InTurn app asks posts q) next.is
      turns)) (zero_more (steps_weight what job.left) is) (Returned js ps shows_it returns next values)
    where
      zero_more : (n : ℕ) → own ≡ n → own ≡ n + 0
      zero_more n is = omega (arith, is)
