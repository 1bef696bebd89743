-- A step of a job that is not at a handler lowers what is in reserve by a step, where it is in a section that counts or
-- of the same priority; elsewhere it takes no step of it.
use Rattle.std.proofs.Common.{◌≡◌, ℕ, ◌+◌, ◌-◌, ◌≤◌, ◌<◌, inl, List, ◌∷◌, None}
use Rattle.std.proofs.Common.{refl, sym, ap, subst}
use Rattle.std.proofs.Common.{◌∙◌, arith}
use Rattle.rt_app.specs.Tree.{App}
use Rattle.rt_laws.specs.Preemption.{greatest_ceiling}
use Rattle.rt_laws.specs.State.{Job}
use Rattle.rt_laws.proofs.Hands.{Bare, hand_of, transit_then}
use Rattle.rt_respond.specs.Work.{steps_weight}
use Rattle.rt_respond.specs.declared.handler.Quantity.{Quantity}
use Rattle.rt_respond.specs.declared.handler.Handler.{Handler}
use Rattle.rt_respond_laws.specs.Moments.{IsRoleAt}
use Rattle.rt_respond_laws.proofs.Weights.{weigh}
use Rattle.rt_respond_laws.proofs.Sending.{Posting, place_of, AtMost}
use Rattle.rt_respond_laws.proofs.Modes.{Outside, Inside, Holds}
use Rattle.rt_respond_laws.proofs.Passing.{Passes, Silently, Acts, Anew, Returned, sections_after, lefts_after}
use Rattle.rt_respond_laws.proofs.Passing.{thread_end}
use Rattle.rt_respond_laws.proofs.Claims.{LiesIn, lies_step, StandsIn, Equal, Under}
use Rattle.rt_respond_laws.proofs.Claims.{thread_fits}
use Rattle.rt_respond_laws.proofs.Claims.{Kept, silent_else, ended_else, returned_else}
use Rattle.rt_respond_laws.proofs.Claims.{silent_takes, ended_takes, returned_takes, effect_of, stands_moved}
use Rattle.rt_respond_laws.proofs.Claims.{stands_come}
use Rattle.rt_respond_laws.proofs.Spending.{Asked, SpendsSo, Owes, left_some, others_at, same_hands, told_silent}
use Rattle.rt_respond_laws.proofs.Spending.{told_acts, told_anew, told_returns, tight_silent, tight_acts, tight_anew}
use Rattle.rt_respond_laws.proofs.Spending.{fits_then, same_values}

module _ (app : App) (what : Quantity) (i : Handler) (posts : Posting) (most : ℕ → ℕ)
    (c : Asked app what i posts most) where
  open c use {positive, anew, s, job, others, shown, t, reserve, own, rest, hand, fits, owe, has, may, above}

  abbrev p : ℕ
  p = i.priority

  abbrev So : ℕ → Type 0
  So = SpendsSo app what i posts most c

  abbrev OwesThen : ℕ → ℕ → List Job → Type 0
  OwesThen = Owes app what i posts most c

  -- of one of the same priority behind it
  pub equal_spends : ¬ IsRoleAt app i job.role → job.priority ≡ p → (r : ℕ) → AtMost app posts r job.rest
      → steps_weight what job.left + r ≤ reserve → own ≡ 0 → Passes app s job others shown t
      → So (steps_weight what 1)
  equal_spends off same r few within is (Silently js ps silent values) =
      let some = left_some app what i posts most c job.role job.priority job.left above has (omega
      (arith, same, positive)) in
      let less = weigh what job.left some in
      record {
        reserve = reserve - steps_weight what 1;
        all = 0 + rest;
        now = 0;
        owes = subst (OwesThen (reserve - steps_weight what 1) (0 + rest)) (sym js) (
          (
            0,
            rest,
            refl,
            (hand, fits, Equal off same r few (omega (arith, less, within)) refl),
            others_at app what i posts most c
                (reserve - steps_weight what 1) (omega (arith, same)),
          ),
          ap (λ hs. hand_of hand ∷ hs) (same_hands app what i posts most c (reserve - steps_weight what 1) (omega
              (arith, same)))
              ∙ told_silent app what i posts most c silent,
        );
        given = 0;
        effects = Kept ps (same_values app what i posts most c values) (silent_else app what i posts most shown silent)
            (silent_takes app what i posts most shown silent) refl;
        small = omega arith;
        tight = λ off. tight_silent app what i posts most c (reserve - steps_weight what 1) (omega arith) silent;
        less = omega arith;
        sum = omega (arith, less, within);
      }
  equal_spends off same r few within is (Acts action made next rest_is a vs j js role_is priority_is left_is rest_then
      sections lefts pending no_end acted) =
      let some = left_some app what i posts most c job.role job.priority job.left above has (omega
      (arith, same, positive)) in
      let less = weigh what job.left some in
      let now_left = ap (steps_weight what) left_is in
      let parts = subst (AtMost app posts r) rest_is few in
      let sum = parts.3 in
      record {
        reserve = reserve - steps_weight what 1 - parts.0;
        all = 0 + rest;
        now = parts.0;
        owes = subst (OwesThen (reserve - steps_weight what 1 - parts.0) (0 + rest)) (sym js) (
          (
            0,
            rest,
            refl,
            (
              transit_then hand action,
              fits_then app what i posts most c action made next rest_is a vs j.rest rest_then,
              Equal (subst (λ r. ¬ IsRoleAt app i r) (sym role_is) off) (priority_is
                  ∙ same) parts.1 (subst (AtMost app posts parts.1) (sym rest_then) (parts.4 a vs acted.queued))
                  (omega (arith, less, within, now_left, sum)) refl,
            ),
            others_at app what i posts most c
                (reserve - steps_weight what 1 - parts.0) (omega (arith, same)),
          ),
          ap (λ hs. hand_of (transit_then hand action) ∷ hs) (same_hands app what i posts most c
              (reserve - steps_weight what 1 - parts.0)
              (omega (arith, same))) ∙ told_acts app what i posts most c action acted.goes_on acted.shows,
        );
        given = 0;
        effects = effect_of app what i posts most s job made vs t.values t.pending action parts.0 shown parts.2
            pending acted;
        small = omega (arith, within, sum);
        tight = λ off. tight_acts app what i posts most c
            (reserve - steps_weight what 1 - parts.0) parts.0 action parts.2 (omega
            (arith, less, within, sum)) acted.goes_on acted.shows;
        less = omega arith;
        sum = omega (arith, less, within, sum);
      }
  equal_spends off same r few within is (Anew vs js ps ended b next as_ready) =
      let some = left_some app what i posts most c job.role job.priority job.left above has (omega
      (arith, same, positive)) in
      let less = weigh what job.left some in
      record {
        reserve = reserve - steps_weight what 1;
        all = 0 + rest;
        now = 0;
        owes = subst (OwesThen (reserve - steps_weight what 1) (0 + rest)) (sym js) (
          (
            0,
            rest,
            refl,
            (Bare, thread_fits app vs, anew (reserve - steps_weight what 1) vs),
            others_at app what i posts most c
                (reserve - steps_weight what 1) (omega (arith, same)),
          ),
          ap (λ hs. None ∷ hs) (same_hands app what i posts most c (reserve - steps_weight what 1) (omega
              (arith, same)))
              ∙ told_anew app what i posts most c (thread_end b) next.made next.next next.is ended,
        );
        given = 0;
        effects = Kept ps as_ready (ended_else app what i posts most shown ended)
            (ended_takes app what i posts most shown ended) refl;
        small = omega arith;
        tight = λ off. tight_anew app what i posts most c (reserve - steps_weight what 1) (omega arith)
            (thread_end b) next.made next.next next.is ended;
        less = omega arith;
        sum = omega (arith, less, within);
      }
  equal_spends off same r few within is (Returned js ps shows_it returns next values) =
      let some = left_some app what i posts most c job.role job.priority job.left above has (omega
      (arith, same, positive)) in
      let less = weigh what job.left some in
      record {
        reserve = reserve - steps_weight what 1;
        all = rest;
        now = 0;
        owes = subst (OwesThen (reserve - steps_weight what 1) rest) (sym js) (
          (others_at app what i posts most c
              (reserve - steps_weight what 1) (omega (arith, same))),
          same_hands app what i posts most c (reserve - steps_weight what 1)
              (omega (arith, same)) ∙ told_returns app what i posts most c shows_it returns,
        );
        given = 0;
        effects = Kept ps (same_values app what i posts most c values)
            (returned_else app what i posts most shown job.role shows_it)
            (returned_takes app what i posts most shown job.role shows_it) refl;
        small = omega arith;
        tight = λ off. inl js;
        less = omega arith;
        sum = omega (arith, less, within);
      }

  -- of a lower one in a section that counts
  pub inside_spends : ¬ IsRoleAt app i job.role → job.priority < p → (r depth : ℕ)
      → Holds app what p (most job.priority) posts hand (Inside r depth) job.rest
      → LiesIn app what p depth r reserve job.sections job.lefts
      → own ≡ 0 → Passes app s job others shown t → So (steps_weight what 1)
  inside_spends off lower r depth holds lies is (Silently js ps silent values) =
      let step = lies_step app what p depth r r 0 reserve job.sections job.lefts may (omega arith) lies in
      let room = step.0 in
      record {
        reserve = reserve - steps_weight what 1 - 0;
        all = 0 + rest;
        now = 0;
        owes = subst (OwesThen (reserve - steps_weight what 1 - 0) (0 + rest)) (sym js) (
          (
            0,
            rest,
            refl,
            (hand, fits, Under off lower (Inside r depth) holds step.1 refl),
            others_at app what i posts most c
                (reserve - steps_weight what 1 - 0) (omega (arith, lower)),
          ),
          ap (λ hs. hand_of hand ∷ hs) (same_hands app what i posts most c (reserve - steps_weight what 1 - 0) (omega
              (arith, lower)))
              ∙ told_silent app what i posts most c silent,
        );
        given = 0;
        effects = Kept ps (same_values app what i posts most c values) (silent_else app what i posts most shown silent)
            (silent_takes app what i posts most shown silent) refl;
        small = omega arith;
        tight = λ off. tight_silent app what i posts most c (reserve - steps_weight what 1 - 0) (omega arith) silent;
        less = omega arith;
        sum = omega (arith, room);
      }
  inside_spends off lower r depth holds lies is (Acts action made next rest_is a vs j js role_is priority_is left_is
      rest_then sections lefts pending no_end acted) =
      let parts = subst (Holds app what p (most job.priority) posts hand (Inside r depth)) rest_is holds in
      let leads = parts.3 in
      let step = lies_step app what p depth r leads.0 parts.0 reserve job.sections job.lefts may leads.1 lies in
      let room = step.0 in
      let left : ℕ = reserve - steps_weight what 1 - parts.0 in
      let stands = stands_moved app what i posts most action depth leads.0 left job.sections job.lefts step.1 in
      record {
        reserve = reserve - steps_weight what 1 - parts.0;
        all = 0 + rest;
        now = parts.0;
        owes = subst (OwesThen left (0 + rest)) (sym js) (
          (
            0,
            rest,
            refl,
            (
              transit_then hand action,
              fits_then app what i posts most c action made next rest_is a vs j.rest rest_then,
              Under (subst (λ r. ¬ IsRoleAt app i r) (sym role_is) off) (omega
                  (arith, lower, priority_is)) parts.1 (subst (λ q. Holds app what p (most q) posts
                  (transit_then hand action) parts.1 j.rest) (sym priority_is) (subst (Holds app what p
                  (most job.priority) posts (transit_then hand action) parts.1) (sym rest_then)
                  (parts.4 a vs acted.queued))) (subst
                  (λ xs. StandsIn app what i posts most left parts.1 xs j.lefts) (sym sections)
                  (subst (λ ns. StandsIn app what i posts most left parts.1
                  (sections_after action job.sections) ns) (sym lefts) (subst
                  (λ m. StandsIn app what i posts most left m
                  (sections_after action job.sections)
                  (lefts_after action job.lefts))
                  (sym leads.2) stands))) refl,
            ),
            others_at app what i posts most c left (omega
                (arith, lower)),
          ),
          ap (λ hs. hand_of (transit_then hand action) ∷ hs) (same_hands app what i posts most c left (omega
              (arith, lower)))
              ∙ told_acts app what i posts most c action acted.goes_on acted.shows,
        );
        given = 0;
        effects = effect_of app what i posts most s job made vs t.values t.pending action parts.0 shown parts.2
            pending acted;
        small = omega (arith, room);
        tight = λ off. tight_acts app what i posts most c left parts.0 action parts.2 (omega
            (arith, room)) acted.goes_on acted.shows;
        less = omega arith;
        sum = omega (arith, room);
      }
  inside_spends off lower r depth holds lies is (Anew vs js ps ended b next as_ready) =
      let step = lies_step app what p depth r r 0 reserve job.sections job.lefts may (omega arith) lies in
      let room = step.0 in
      record {
        reserve = reserve - steps_weight what 1;
        all = 0 + rest;
        now = 0;
        owes = subst (OwesThen (reserve - steps_weight what 1) (0 + rest)) (sym js) (
          (
            0,
            rest,
            refl,
            (Bare, thread_fits app vs, anew (reserve - steps_weight what 1) vs),
            others_at app what i posts most c
                (reserve - steps_weight what 1) (omega (arith, lower)),
          ),
          ap (λ hs. None ∷ hs) (same_hands app what i posts most c (reserve - steps_weight what 1) (omega
              (arith, lower)))
              ∙ told_anew app what i posts most c (thread_end b) next.made next.next next.is ended,
        );
        given = 0;
        effects = Kept ps as_ready (ended_else app what i posts most shown ended)
            (ended_takes app what i posts most shown ended) refl;
        small = omega arith;
        tight = λ off. tight_anew app what i posts most c (reserve - steps_weight what 1) (omega arith)
            (thread_end b) next.made next.next next.is ended;
        less = omega arith;
        sum = omega (arith, room);
      }
  inside_spends off lower r depth holds lies is (Returned js ps shows_it returns next values) =
      let step = lies_step app what p depth r r 0 reserve job.sections job.lefts may (omega arith) lies in
      let room = step.0 in
      record {
        reserve = reserve - steps_weight what 1;
        all = rest;
        now = 0;
        owes = subst (OwesThen (reserve - steps_weight what 1) rest) (sym js) (
          (others_at app what i posts most c
              (reserve - steps_weight what 1) (omega (arith, lower))),
          same_hands app what i posts most c (reserve - steps_weight what 1)
              (omega (arith, lower)) ∙ told_returns app what i posts most c shows_it returns,
        );
        given = 0;
        effects = Kept ps (same_values app what i posts most c values)
            (returned_else app what i posts most shown job.role shows_it)
            (returned_takes app what i posts most shown job.role shows_it) refl;
        small = omega arith;
        tight = λ off. inl js;
        less = omega arith;
        sum = omega (arith, room);
      }

  -- of a lower one outside of them
  pub outside_spends : most job.priority ≤ reserve + place_of posts hand → ¬ IsRoleAt app i job.role → job.priority < p
      → Holds app what p (most job.priority) posts hand Outside job.rest → greatest_ceiling app job.sections < p
      → own ≡ 0
      → Passes app s job others shown t → So 0
  outside_spends full off lower holds closed is (Silently js ps silent values) = record {
    reserve = reserve;
    all = 0 + rest;
    now = 0;
    owes = subst (OwesThen reserve (0 + rest)) (sym js) (
      (0, rest, refl, (hand, fits, Under off lower Outside holds closed refl), owe),
      told_silent app what i posts most c silent,
    );
    given = 0;
    effects = Kept ps (same_values app what i posts most c values) (silent_else app what i posts most shown silent)
        (silent_takes app what i posts most shown silent) refl;
    small = omega arith;
    tight = λ off. tight_silent app what i posts most c reserve (omega arith) silent;
    less = omega arith;
    sum = omega arith;
  }
  outside_spends full off lower holds closed is (Acts action made next rest_is a vs j js role_is priority_is left_is
      rest_then sections lefts pending no_end acted) =
      let parts = subst (Holds app what p (most job.priority) posts hand Outside) rest_is holds in
      let both = parts.3 in
      let few : parts.0 ≤ reserve = (let held = both.0 in omega (arith, held, full)) in
      let left : ℕ = reserve - parts.0 in
      let stands = stands_come app what i posts most (most job.priority) left action parts.0
      (place_of posts hand) parts.1 job.sections job.lefts
      parts.2 (omega (arith, few, full)) closed
      parts.3.1 in
      record {
        reserve = reserve - parts.0;
        all = 0 + rest;
        now = parts.0;
        owes = subst (OwesThen left (0 + rest)) (sym js) (
          (
            0,
            rest,
            refl,
            (
              transit_then hand action,
              fits_then app what i posts most c action made next rest_is a vs j.rest rest_then,
              Under (subst (λ r. ¬ IsRoleAt app i r) (sym role_is) off) (omega
                  (arith, lower, priority_is)) parts.1 (subst (λ q. Holds app what p (most q) posts
                  (transit_then hand action) parts.1 j.rest) (sym priority_is) (subst (Holds app what p
                  (most job.priority) posts (transit_then hand action) parts.1) (sym rest_then)
                  (parts.4 a vs acted.queued))) (subst
                  (λ xs. StandsIn app what i posts most left parts.1 xs j.lefts) (sym sections)
                  (subst (λ ns. StandsIn app what i posts most left parts.1
                  (sections_after action job.sections) ns)
                  (sym lefts) stands)) refl,
            ),
            others_at app what i posts most c left (omega (arith, lower)),
          ),
          ap (λ hs. hand_of (transit_then hand action) ∷ hs) (same_hands app what i posts most c left (omega
              (arith, lower)))
              ∙ told_acts app what i posts most c action acted.goes_on acted.shows,
        );
        given = 0;
        effects = effect_of app what i posts most s job made vs t.values t.pending action parts.0 shown parts.2
            pending acted;
        small = omega (arith, few);
        tight = λ off. tight_acts app what i posts most c left parts.0 action parts.2 (omega
            (arith, few)) acted.goes_on acted.shows;
        less = omega arith;
        sum = omega (arith, few);
      }
  outside_spends full off lower holds closed is (Anew vs js ps ended b next as_ready) = record {
    reserve = reserve;
    all = 0 + rest;
    now = 0;
    owes = subst (OwesThen reserve (0 + rest)) (sym js) (
      (0, rest, refl, (Bare, thread_fits app vs, anew reserve vs), owe),
      told_anew app what i posts most c (thread_end b) next.made next.next next.is ended,
    );
    given = 0;
    effects = Kept ps as_ready (ended_else app what i posts most shown ended)
        (ended_takes app what i posts most shown ended) refl;
    small = omega arith;
    tight = λ off. tight_anew app what i posts most c reserve (omega arith)
        (thread_end b) next.made next.next next.is ended;
    less = omega arith;
    sum = omega arith;
  }
  outside_spends full off lower holds closed is (Returned js ps shows_it returns next values) = record {
    reserve = reserve;
    all = rest;
    now = 0;
    owes = subst (OwesThen reserve rest) (sym js) (owe, told_returns app what i posts most c shows_it returns);
    given = 0;
    effects = Kept ps (same_values app what i posts most c values)
        (returned_else app what i posts most shown job.role shows_it)
        (returned_takes app what i posts most shown job.role shows_it) refl;
    small = omega arith;
    tight = λ off. inl js;
    less = omega arith;
    sum = omega arith;
  }
