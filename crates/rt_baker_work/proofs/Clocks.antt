-- What is left to do behind a reading of the clock.
use Rattle.std.proofs.Common.{◌≡◌, ℕ, ◌+◌, min, [], ◌∷◌, refl, ap, sym, subst}
use Rattle.rt_actions.specs.Content.{Message}
use Rattle.rt_actions.specs.Action.{Arms, Moves}
use Rattle.rt_ids.specs.declared.limits.TheConstants.{LONGEST_DELAY}
use Rattle.rt_app.specs.Tree.{App}
use Rattle.rt_app.specs.Sending.{act}
use Rattle.rt_baker_work.specs.declared.action.Action.TheVariants as action
use Rattle.rt_baker_work.specs.declared.todo.Todo.TheVariants as todo
use Rattle.rt_baker_work.specs.declared.todo.Reading.{Reading}
use Rattle.rt_baker_work.specs.declared.todo.Reading.TheVariants as reading
use Rattle.rt_baker_work.specs.Store.{Store, contents}
use Rattle.rt_baker_work.specs.Todo.{use_clock, behind}
use Rattle.rt_baker_work.specs.Work.{Work, Becomes}
use Rattle.rt_baker_work.proofs.Walks.{with_todos, pushed}

pub time_armed : (app : App) (delay : ℕ) (m : Message) (i time : ℕ) (old new : Work)
    → i ≡ time + min delay LONGEST_DELAY → new ≡ with_todos old (todo.Act (action.Arm i m) ∷ [])
    → (s : Store) → Becomes app (use_clock app (reading.Arm delay m) time) old s new s
unfolding behind
time_armed app delay m i time old new same is s =
    pushed app (use_clock app (reading.Arm delay m) time) old new s _ is
    (λ later. ap (λ (k : ℕ). act (Arms k m) (later old.vars) (contents s)) (sym same))

pub time_moved : (app : App) (delay n h i time : ℕ) (old new : Work) → i ≡ time + min delay LONGEST_DELAY
    → new ≡ with_todos old (todo.Act (action.Move n h i) ∷ [])
    → (s : Store) → Becomes app (use_clock app (reading.Move delay n h) time) old s new s
unfolding behind
time_moved app delay n h i time old new same is s =
    pushed app (use_clock app (reading.Move delay n h) time) old new s _ is
    (λ later. ap (λ (k : ℕ). act (Moves n h k) (later old.vars) (contents s)) (sym same))

pub time_told : (app : App) (time : ℕ) (old new : Work) → new ≡ with_todos old (todo.Due time ∷ [])
    → (s : Store) → Becomes app (use_clock app reading.Fire time) old s new s
unfolding behind
time_told app time old new is s = pushed app (use_clock app reading.Fire time) old new s _ is (λ later. refl)

pub answered_as : (app : App) (r q : Reading) (time : ℕ) (old new : Work) (s : Store) → r ≡ q
    → Becomes app (use_clock app q time) old s new s → Becomes app (use_clock app r time) old s new s
answered_as app r q time old new s same h =
    subst (λ (p : Reading). Becomes app (use_clock app p time) old s new s) (sym same) h
