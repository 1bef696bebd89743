-- Moments of a run of Baker's machine at which nothing at a handler is left. Between two such moments lies a busy
-- period of the handler (Lehoczky, Fixed Priority Scheduling of Periodic Task Sets with Arbitrary Deadlines, 1990). A
-- handler is at another where it is that one, or stands before it in the order.
use Rattle.std.specs.Prelude.{◌≡◌, ℕ, ◌≤◌, true, false, List, [], ◌∷◌, ◌++◌, slice_index_or}
use Rattle.std.specs.List.{AllByRecursion}
use Rattle.rt_ids.specs.Choice.{IsIn}
use Rattle.rt_ids.specs.declared.ids.Section.TheVariants as section
use Rattle.rt_actions.specs.Location.{Guarded}
use Rattle.rt_actions.specs.Content.{messages}
use Rattle.rt_trace.specs.Label.{Label, steps_of}
use Rattle.rt_app.specs.Tree.{App}
use Rattle.rt_laws.specs.State.{Role, Init, Idle, Waiting, Serving, State, first}
use Rattle.rt_laws.specs.ByItems.{after_all}
use Rattle.rt_rta.specs.Kept.{end_of_init, InitEnds}
use Rattle.rt_rta.specs.declared.limits.Limit.{Limit}
use Rattle.rt_respond.specs.Handlers.{handlers, is_at}
use Rattle.rt_respond.specs.Response.{IsResponse}
use Rattle.rt_respond.specs.declared.handler.Handler.{Handler}
use Rattle.rt_respond.specs.declared.response.Response.TheVariants as response

-- a handler of the interrupt of this number
pub record Serves (app : App) (irq : ℕ) (h : Handler) : Type 0 where
  pub declared : IsIn (handlers app) h
  pub number : h.number ≡ irq

module _ (app : App) (i : Handler) where
  -- the interrupt of this number has a handler at this one
  pub record IsNumberAt (irq : ℕ) : Type 0 where
    pub handler : Handler
    pub serves : Serves app irq handler
    pub at : is_at i handler ≡ true

  -- a job of this role is at the handler; `init` is at each, since it masks all
  abbrev pub IsRoleAt : Role → Type 0
  IsRoleAt Init = Unit {0}
  IsRoleAt Idle = ⊥
  IsRoleAt Waiting = ⊥
  IsRoleAt (Serving irq) = IsNumberAt irq

  -- nothing is left: no started job is at the handler, no interrupt of a handler at it is pending, and no message is
  -- ready whose dispatcher is at it
  pub record NothingIsLeft (s : State) : Type 0 where
    pub jobs : AllByRecursion (λ job. ¬ IsRoleAt job.role) s.jobs
    pub pending : (irq : ℕ) → IsNumberAt irq → slice_index_or s.pending irq false ≡ false
    pub ready : (h : Handler) → IsIn (handlers app) h → h.is_dispatcher ≡ true → is_at i h ≡ true
        → messages (s.values (Guarded (section.Ready h.priority))) ≡ []

  -- within so many core steps of these labels, behind those of a run, comes a moment at which nothing is left
  pub record ComesToNothing (before : List Label) (steps : ℕ) (labels : List Label) : Type 0 where
    pub until : List Label
    pub behind : List Label
    pub parts : labels ≡ until ++ behind
    pub in_time : steps_of until ≤ steps
    pub nothing : NothingIsLeft (after_all app (first app) (before ++ until))

-- from every moment behind the end of `init` nothing is left of each handler within its response time, where the run
-- goes on so long
abbrev pub QuietMoments : App → List Limit → List Label → Type 0
QuietMoments app limits labels =
    (i : Handler) → IsIn (handlers app) i → (steps : ℕ) → IsResponse app limits i (response.Steps steps)
    → (during front behind : List Label) → InitEnds labels during (front ++ behind) → steps ≤ steps_of behind
    → ComesToNothing app i (during ++ end_of_init ∷ front) steps behind
