-- The bodies of an accepted application, one by one.
use Rattle.std.proofs.Common.{◌≡◌, ℕ, zero, suc, ◌+◌, List, [], ◌∷◌, ◌++◌, Option, Some, None, option_map, slice_get}
use Rattle.std.proofs.Common.{refl, sym, ap, subst, ◌∙◌, arith}
use Rattle.std.specs.List.{AllByRecursion}
use Rattle.std.proofs.lemmas.Option.{same_Some, none-some}
use Rattle.rt_lemmas.proofs.Membership.{all_append, all_at, any_passes}
use Rattle.rt_ids.proofs.Greatest.{greatest_has}
use Rattle.rt_ids.specs.Choice.{IsIn}
use Rattle.rt_ids.specs.declared.ids.BodyId.{BodyId}
use Rattle.rt_ids.specs.declared.ids.BodyId.TheVariants as body
use Rattle.rt_app.specs.Tree.{Body, Task, App}
use Rattle.rt_app.specs.Bodies.{Member, thread_members, task_members, members, member_at}
use Rattle.rt_app.specs.Limits.{KeepsBodyLimits, KeepsThreadLimits, KeepsTaskLimits}
use Rattle.rt_app.specs.Accepted.{IsBodyPlaced, IsThreadPlaced, IsInitPlaced, IsAccepted}
use Rattle.rt_app.proofs.SoundExpressions.{IsDeclared}

pub in_front : {X : Type 0} (xs ys : List X) (x : X) → IsIn xs x → IsIn (xs ++ ys) x
in_front [] ys x is = absurd (none-some x is.1)
in_front (y ∷ xs) ys x (zero, at) = (zero, at)
in_front (y ∷ xs) ys x (suc i, at) = let behind = in_front xs ys x (i, at) in (suc behind.0, behind.1)

pub in_back : {X : Type 0} (xs ys : List X) (x : X) → IsIn ys x → IsIn (xs ++ ys) x
in_back [] ys x is = is
in_back (y ∷ xs) ys x is = let behind = in_back xs ys x is in (suc behind.0, behind.1)

-- what is made of a thing that may not be there
pub made_of : {X Y : Type 0} (f : X → Y) (o : Option X) (y : Y) → option_map f o ≡ Some y → (x : X) × (o ≡ Some x)
    × (f x ≡ y)
made_of f None y is = absurd (none-some y is)
made_of f (Some x) y is = (x, refl, same_Some (f x) y is)

abbrev thread_member : BodyId → Body → Member
thread_member id b = record { id = id; priority = 0; args = 0; body = b }

abbrev task_member : ℕ → Task → Member
task_member n t = record { id = body.Task n; priority = t.priority; args = t.args; body = t.body }

thread_in : (id : BodyId) (o : Option Body) (b : Body) → o ≡ Some b → IsIn (thread_members id o) (thread_member id b)
thread_in id o b is = subst (λ p. IsIn (thread_members id p) (thread_member id b)) (sym is) (zero, refl)

task_in : (n : ℕ) (ts : List Task) (k : ℕ) (t : Task) → slice_get ts k ≡ Some t → slice_get (task_members n ts) k
    ≡ Some (task_member (n + k) t)
task_in n [] k t at = absurd (none-some t at)
task_in n (u ∷ ts) zero t at = ap (λ u. Some (task_member n u)) (same_Some u t at)
    ∙ ap (λ k. Some (task_member k t)) (omega arith)
task_in n (u ∷ ts) (suc k) t at =
    let e : n + 1 + k ≡ n + suc k = omega arith in
    task_in (n + 1) ts k t at ∙ ap (λ k. Some (task_member k t)) e

-- what holds of the bodies that are declared
pub record HasBody (app : App) (m : Member) : Type 0 where
  pub is_one : IsIn (members app) m
  pub placed : IsBodyPlaced app m.args m.body
  pub limits : KeepsBodyLimits m.body

module _ (app : App) (accepted : IsAccepted app) where
  init_placed : (o : Option Body) (b : Body) → o ≡ Some b → IsInitPlaced app o → IsBodyPlaced app 0 b
  init_placed None b is placed = absurd (none-some b is)
  init_placed (Some c) b is placed = subst (IsBodyPlaced app 0) (same_Some c b is) placed.0

  idle_placed : (o : Option Body) (b : Body) → o ≡ Some b → IsThreadPlaced app o → IsBodyPlaced app 0 b
  idle_placed None b is placed = absurd (none-some b is)
  idle_placed (Some c) b is placed = subst (IsBodyPlaced app 0) (same_Some c b is) placed

  thread_limits : (o : Option Body) (b : Body) → o ≡ Some b → KeepsThreadLimits o → KeepsBodyLimits b
  thread_limits None b is limits = absurd (none-some b is)
  thread_limits (Some c) b is limits = subst KeepsBodyLimits (same_Some c b is) limits

  abbrev on_tasks : List Member
  on_tasks = task_members 0 app.tasks

  abbrev on_idle : List Member
  on_idle = thread_members body.Idle app.idle

  abbrev on_init : List Member
  on_init = thread_members body.Init app.init

  pub has_body : (id : BodyId) (m : Member) → member_at app id ≡ Some m → HasBody app m
  has_body body.Init m is =
      let b = made_of (thread_member body.Init) app.init m is in
      subst (HasBody app) b.2 (record {
        is_one = in_front on_init (on_idle ++ on_tasks) (thread_member body.Init b.0)
            (thread_in body.Init app.init b.0 b.1);
        placed = init_placed app.init b.0 b.1 accepted.init;
        limits = thread_limits app.init b.0 b.1 accepted.limits.init;
      })
  has_body body.Idle m is =
      let b = made_of (thread_member body.Idle) app.idle m is in
      subst (HasBody app) b.2 (record {
        is_one = in_back on_init (on_idle ++ on_tasks) _
            (in_front on_idle on_tasks (thread_member body.Idle b.0) (thread_in body.Idle app.idle b.0 b.1));
        placed = idle_placed app.idle b.0 b.1 accepted.idle;
        limits = thread_limits app.idle b.0 b.1 accepted.limits.idle;
      })
  has_body (body.Task n) m is =
      let t = made_of (task_member n) (slice_get app.tasks n) m is in
      subst (HasBody app) t.2 (record {
        is_one = in_back on_init (on_idle ++ on_tasks) _
            (in_back on_idle on_tasks (task_member n t.0) (
              n,
              task_in 0 app.tasks n t.0 t.1
                  ∙ ap (λ k. Some (task_member k t.0)) (omega arith),
            ));
        placed = (all_at _ app.tasks n t.0 accepted.tasks t.1).1;
        limits = (all_at KeepsTaskLimits app.tasks n t.0 accepted.limits.tasks t.1).body;
      })

  pub members_all : (P : Member → Type 0) → ((id : BodyId) (m : Member) → member_at app id ≡ Some m → P m)
      → AllByRecursion P (members app)
  members_all P each =
      all_append P on_init (on_idle ++ on_tasks) (thread_all body.Init app.init
      (λ b is. each body.Init _ (ap (option_map (thread_member body.Init)) is)))
      (all_append P on_idle on_tasks (thread_all body.Idle app.idle
      (λ b is. each body.Idle _ (ap (option_map (thread_member body.Idle)) is)))
      (tasks_all 0 app.tasks (λ k t at. each (body.Task (0 + k)) _ (task_at k t at))))
    where
      thread_all : (id : BodyId) (o : Option Body) → ((b : Body) → o ≡ Some b → P (thread_member id b))
          → AllByRecursion P (thread_members id o)
      thread_all id None has = tt
      thread_all id (Some b) has = (has b refl, tt)

      tasks_all : (n : ℕ) (ts : List Task) → ((k : ℕ) (t : Task) → slice_get ts k ≡ Some t → P (task_member (n + k) t))
          → AllByRecursion P (task_members n ts)
      tasks_all n [] has = tt
      tasks_all n (t ∷ ts) has =
          let here : n + 0 ≡ n = omega arith in (
            subst (λ k. P (task_member k t)) here (has 0 t refl),
            tasks_all (n + 1) ts (λ k u at. (let e : n + suc k ≡ n + 1 + k = omega arith in
                subst (λ k. P (task_member k u)) e (has (suc k) u at))),
          )

      task_at : (k : ℕ) (t : Task) → slice_get app.tasks k ≡ Some t → member_at app (body.Task (0 + k))
          ≡ Some (task_member (0 + k) t)
      task_at k t at = let e : 0 + k ≡ k = omega arith in rw e (ap (option_map (task_member k)) at)

pub is_declared : (app : App) → IsAccepted app → (m : Member) → IsIn (members app) m → IsDeclared app m
is_declared app accepted m at =
    let shared = accepted.limits.shared in
    let tasks = accepted.limits.few_tasks in
    record {
      counts = λ test is. greatest_has (λ m. m.priority) test (members app) at.0 m at.1 is;
      stands = λ test is. any_passes test (members app) at.0 m at.1 is;
      few_shared = omega arith;
      few_tasks = omega arith;
    }
