-- Where there is no monotonic no message is armed.
use Rattle.std.proofs.Common.{◌≡◌, ℕ, ◌+◌, ◌||◌, Bool, true, false, List, [], ◌∷◌, ◌++◌, Option, Some, None}
use Rattle.std.proofs.Common.{option_map, refl, ap, ◌∙◌}
use Rattle.std.specs.List.{AllByRecursion, list_any}
use Rattle.rt_lemmas.proofs.Bools.{both_of_none, true_and_false}
use Rattle.rt_lemmas.proofs.Lists.{AreFrom, all_from, first_from, rest_from}
use Rattle.rt_ids.specs.declared.ids.BodyId.{BodyId}
use Rattle.rt_ids.specs.declared.ids.BodyId.TheVariants as body
use Rattle.rt_ids.specs.declared.ids.Section.TheVariants as section
use Rattle.rt_actions.specs.Content.{Armed, Values, delays}
use Rattle.rt_actions.specs.Location.{Guarded}
use Rattle.rt_app.specs.Tree.{Spawn, Soon, After, Cancel, Move, Value, Calc, Now, Call, Statement, Bind, Assign, Branch}
use Rattle.rt_app.specs.Tree.{Repeat, Locked, Emit, Pend, Spawns, Block, Empty, Then, Body, Task, App}
use Rattle.rt_app.specs.Accepted.{IsAccepted}
use Rattle.rt_app.specs.Bodies.{Member, thread_members, task_members, member_at}
use Rattle.rt_app.specs.Level.{arms, holds, is_armed}
use Rattle.rt_app.specs.Sound.{IsSoundSpawn, IsSoundValue, IsSoundStatement, IsSoundBlock}
use Rattle.rt_app.specs.Spawned.{value_spawns, statement_spawns, spawns}
use Rattle.rt_app.specs.Variables.{variables, variables_in}
use Rattle.rt_app.proofs.Sound.{accepted_are_sound}
use Rattle.rt_laws.proofs.Fine.{IsTimedOne, Queued}
use Rattle.rt_respond.specs.Form.{is_of_form}
use Rattle.rt_respond_laws.proofs.Tasks.{no_mono}

join_none : {X : Type 0} (test : X → Bool) (xs ys : List X) → list_any test xs ≡ false → list_any test ys ≡ false
    → list_any test (xs ++ ys) ≡ false
join_none test [] ys first second = second
join_none test (x ∷ xs) ys first second =
    let parts = both_of_none (test x) (list_any test xs) first in
    ap (λ b. b || list_any test (xs ++ ys)) parts.0 ∙ join_none test xs ys parts.1 second

module _ (app : App) (accepted : IsAccepted app) (form : is_of_form app ≡ true) (n : ℕ) where
  module _ (m : Member) where
    spawn_unarmed : (locked : List ℕ) (s : Spawn) → IsSoundSpawn app m locked s → arms n s ≡ false
    spawn_unarmed locked (Soon t args at) sound = refl
    spawn_unarmed locked (After word delay t args at) sound =
        absurd (no_mono app accepted form sound.4.0 sound.4.1)
    spawn_unarmed locked (Cancel word t handle at) sound = refl
    spawn_unarmed locked (Move word delay t handle at) sound = refl

    one_unarmed : (locked : List ℕ) (s : Spawn) → IsSoundSpawn app m locked s → list_any (arms n) (s ∷ []) ≡ false
    one_unarmed locked s sound = ap (λ b. b || false) (spawn_unarmed locked s sound)

    value_unarmed : (locked : List ℕ) (v : Value) → IsSoundValue app m locked v
        → list_any (arms n) (value_spawns v) ≡ false
    value_unarmed locked (Calc e) sound = refl
    value_unarmed locked (Now at) sound = refl
    value_unarmed locked (Call s) sound = one_unarmed locked s sound

    mutual
      statement_unarmed : (v : ℕ) (locked fixed : List ℕ) (s : Statement) → IsSoundStatement app m v locked fixed s
          → list_any (arms n) (statement_spawns s) ≡ false
      statement_unarmed v locked fixed (Bind x value) sound = value_unarmed locked value sound.1
      statement_unarmed v locked fixed (Assign x e at) sound = refl
      statement_unarmed v locked fixed (Branch e first second) sound =
          join_none (arms n) (spawns first) (spawns second) (block_unarmed v locked fixed first sound.1)
          (block_unarmed (v + variables first) locked fixed second sound.2)
      statement_unarmed v locked fixed (Repeat x first last turn) sound =
          block_unarmed (v + 1) locked (x ∷ fixed) turn sound.4
      statement_unarmed v locked fixed (Locked r inner at) sound = block_unarmed v (r ∷ locked) fixed inner sound.1
      statement_unarmed v locked fixed (Emit e) sound = refl
      statement_unarmed v locked fixed (Pend i) sound = refl
      statement_unarmed v locked fixed (Spawns s) sound = one_unarmed locked s sound

      block_unarmed : (v : ℕ) (locked fixed : List ℕ) (b : Block) → IsSoundBlock app m v locked fixed b
          → list_any (arms n) (spawns b) ≡ false
      block_unarmed v locked fixed Empty sound = refl
      block_unarmed v locked fixed (Then s rest) sound =
          join_none (arms n) (statement_spawns s) (spawns rest) (statement_unarmed v locked fixed s sound.0)
          (block_unarmed (v + variables_in s) locked fixed rest sound.1)

  member_unarmed : (id : BodyId) (m : Member) → member_at app id ≡ Some m → holds (arms n) m ≡ false
  member_unarmed id m at = block_unarmed m m.args [] [] m.body.block ((accepted_are_sound app accepted).bodies id m at)

  thread_unarmed : (id : BodyId) (o : Option Body)
      → ((b : Body) → o ≡ Some b → member_at app id ≡ Some (record { id = id; priority = 0; args = 0; body = b }))
      → list_any (holds (arms n)) (thread_members id o) ≡ false
  thread_unarmed id None at = refl
  thread_unarmed id (Some b) at =
      ap (λ c. c || false) (member_unarmed id (record { id = id; priority = 0; args = 0; body = b }) (at b refl))

  tasks_unarmed : (k : ℕ) (ts : List Task) → AreFrom app.tasks k ts
      → list_any (holds (arms n)) (task_members k ts) ≡ false
  tasks_unarmed k [] from = refl
  tasks_unarmed k (t ∷ ts) from =
      ap (λ c. c || list_any (holds (arms n)) (task_members (k + 1) ts))
      (member_unarmed (body.Task k) (record { id = body.Task k; priority = t.priority; args = t.args; body = t.body })
      (ap (option_map (λ (t : Task). record { id = body.Task k; priority = t.priority; args = t.args; body = t.body }))
      (first_from app.tasks k t ts from)))
      ∙ tasks_unarmed (k + 1) ts (rest_from app.tasks k t ts from)

  pub unarmed : is_armed app n ≡ false
  unarmed =
      join_none (holds (arms n)) (thread_members body.Init app.init)
      (thread_members body.Idle app.idle ++ task_members 0 app.tasks)
      (thread_unarmed body.Init app.init (λ b is. ap (option_map (λ (b : Body).
      record { id = body.Init; priority = 0; args = 0; body = b })) is))
      (join_none (holds (arms n)) (thread_members body.Idle app.idle) (task_members 0 app.tasks)
      (thread_unarmed body.Idle app.idle (λ b is. ap (option_map (λ (b : Body).
      record { id = body.Idle; priority = 0; args = 0; body = b })) is))
      (tasks_unarmed 0 app.tasks (all_from app.tasks)))

-- no message waits for its instant
pub none_armed : (app : App) → IsAccepted app → is_of_form app ≡ true → (vs : Values) → Queued app vs
    → delays (vs (Guarded section.Timer)) ≡ []
none_armed app accepted form vs queued = go (delays (vs (Guarded section.Timer))) queued.timer
  where
    go : (armed : List Armed) → AllByRecursion (IsTimedOne app) armed → armed ≡ []
    go [] timed = refl
    go (a ∷ more) timed =
        absurd (true_and_false (is_armed app a.message.task) timed.0.0 (unarmed app accepted form a.message.task))
