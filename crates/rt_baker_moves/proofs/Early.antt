-- Counts that can rise, and things to do that others can see: what the moves require, and what their callers know.
use Rattle.std.proofs.Common.{◌≡◌, ℕ, ◌+◌, ◌-◌, ◌^◌, ◌<◌, ◌≤◌, true, List, [], ◌∷◌, ◌++◌, ap, subst, arith}
use Rattle.std.specs.List.{AllByRecursion}
use Rattle.rt_actions.specs.Location.{Guarded}
use Rattle.rt_actions.specs.Content.{Values, number, timer_content}
use Rattle.rt_actions.specs.Action.{Action, Arms, effect}
use Rattle.rt_ids.specs.declared.ids.Section.TheVariants as section
use Rattle.rt_app.specs.Tree.{App}
use Rattle.rt_laws.specs.State as laws
use Rattle.rt_laws.specs.State.{first_values}
use Rattle.rt_laws.specs.Counts.{AreWithin}
use Rattle.rt_baker_work.specs.declared.todo.Todo.{Todo}
use Rattle.rt_baker_work.specs.Store.{Store, contents, MayTakeOne}
use Rattle.rt_baker_work.specs.Work.{is_seen, IsSettled}
use Rattle.rt_baker_moves.specs.Job.{AuditorJob}
use Rattle.rt_baker_moves.specs.State.{AuditorState, JobsAre, StateIs, IsEarly}
use Rattle.rt_baker_moves.specs.Inside.Moves.{with_next}

-- an action gives one handle at most
given_behind : (a : Action) (vs : Values)
    → (timer_content (effect a vs (Guarded section.Timer))).given ≤ (timer_content (vs (Guarded section.Timer))).given
    + 1
given_behind (Arms i m) vs = omega arith
given_behind a vs = omega arith

pub room_behind : (a : Action) (s t : Store) → MayTakeOne s → contents t ≡ effect a (contents s)
    → t.timed.given < 2 ^ 32
unfolding contents
room_behind a s t room is =
    let e : t.timed.given ≡ (timer_content (effect a (contents s) (Guarded section.Timer))).given =
    ap (λ (vs : Values). (timer_content (vs (Guarded section.Timer))).given) is in
    omega (arith, given_behind a (contents s), room.given)

-- at reset all counts are 0
pub room_at_first : (app : App) (s : Store) → contents s ≡ first_values app → MayTakeOne s
unfolding contents
room_at_first app s is = record {
  out = λ n. omega (arith, ap (λ (vs : Values). number (vs (Guarded (section.Free n)))) is);
  given = omega (arith, ap (λ (vs : Values). (timer_content (vs (Guarded section.Timer))).given) is);
  moved = omega (arith, ap (λ (vs : Values). (timer_content (vs (Guarded section.Timer))).moved) is);
}

-- what a settled job does next is seen
seen_last : (ts : List Todo) (t : Todo) → IsSettled (ts ++ t ∷ []) → is_seen t ≡ true
seen_last [] t settled = settled
seen_last (u ∷ []) t settled = settled
seen_last (u ∷ v ∷ ts) t settled = seen_last (v ∷ ts) t settled

pub seen_next : (old new : AuditorJob) (t : Todo) → old ≡ with_next t new → IsSettled old.work.todos → is_seen t ≡ true
seen_next old new t is settled =
    seen_last new.work.todos t (subst (λ (j : AuditorJob). IsSettled j.work.todos) is settled)

-- what a caller knows of a state that stands for one of the machine
pub all_settled : (app : App) (js : List AuditorJob) (ks : List laws.Job) → JobsAre app js ks
    → AllByRecursion (λ j. IsSettled j.work.todos) js
all_settled app [] [] h = tt
all_settled app [] (k ∷ ks) h = absurd h
all_settled app (j ∷ js) [] h = absurd h
all_settled app (j ∷ js) (k ∷ ks) h = (h.0.settled, all_settled app js ks h.1)

-- and that its counts are few
pub early_held : (app : App) (s : AuditorState) (t : laws.State) (n : ℕ) → StateIs app s t → AreWithin n t → n
    < 2 ^ 32 - 1
    → IsEarly s
unfolding contents
early_held app s t n is within few = record {
  time = omega (arith, ap (λ (u : laws.State). u.time) is.is, within.time);
  store = record {
    out = λ p. omega (
      arith,
      ap (λ (u : laws.State). number (u.values (Guarded (section.Free p)))) is.is,
      within.places p,
    );
    given = omega (
      arith,
      ap (λ (u : laws.State). (timer_content (u.values (Guarded section.Timer))).given) is.is,
      within.given,
    );
    moved = omega (
      arith,
      ap (λ (u : laws.State). (timer_content (u.values (Guarded section.Timer))).moved) is.is,
      within.moved,
    );
  };
}
