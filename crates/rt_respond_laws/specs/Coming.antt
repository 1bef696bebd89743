-- Jobs that come of a request: a job posts interrupts and makes messages ready, and each of these asks for a job
-- (Tindell and Clark, Holistic Schedulability Analysis for Distributed Hard Real-Time Systems, 1994, on transactions).
-- A post of an interrupt that is pending already asks for the job of the one before it. All is said of labels alone: a
-- job runs where each job that was taken after it has returned.
use Rattle.std.specs.Prelude.{◌≡◌, ℕ, zero, suc, ◌+◌, ◌≤◌, false, count_by, if◌then◌else◌, List, [], ◌∷◌, ◌++◌}
use Rattle.std.specs.Prelude.{Option, Some, None}
use Rattle.std.specs.List.{AllByRecursion}
use Rattle.rt_ids.specs.Choice.{IsIn}
use Rattle.rt_trace.specs.Label.{Label, Arrived, Stepped, steps_of}
use Rattle.rt_trace.specs.declared.item.What.TheVariants as what
use Rattle.rt_app.specs.Tree.{App}
use Rattle.rt_laws.specs.Waiting.{is_take}
use Rattle.rt_laws.specs.MessagesWaiting.{is_start_at, ready_after}
use Rattle.rt_rta.specs.Served.{ServedIn}
use Rattle.rt_respond.specs.Handlers.{handlers}
use Rattle.rt_respond.specs.Limits.{Limits}
use Rattle.rt_respond.specs.Path.{IsLowest}
use Rattle.rt_respond.specs.Response.{IsResponse}
use Rattle.rt_respond.specs.declared.handler.Handler.{Handler}
use Rattle.rt_respond.specs.declared.response.Response.TheVariants as response
use Rattle.rt_respond_laws.specs.Started.{ready_of, RunIn}
use Rattle.rt_respond_laws.specs.Served.{pend_of}

-- how many jobs were taken after a job and have not returned, behind a label; none where the job has returned itself
abbrev pub depth_behind : Option ℕ → Label → Option ℕ
depth_behind None label = None
depth_behind (Some n) (Stepped (Some (what.Take irq depth))) = Some (suc n)
depth_behind (Some zero) (Stepped (Some (what.Ret irq))) = None
depth_behind (Some (suc n)) (Stepped (Some (what.Ret irq))) = Some n
depth_behind (Some n) label = Some n

abbrev pub depth_from : Option ℕ → List Label → Option ℕ
depth_from depth [] = depth
depth_from depth (label ∷ labels) = depth_from (depth_behind depth label) labels

-- a job runs behind these labels, which come behind its take or behind the start of its message
abbrev pub RunsBehind : List Label → Type 0
RunsBehind labels = depth_from (Some 0) labels ≡ Some 0

-- the step in which a job of a handler is asked for by another: a post, or a message that becomes ready
abbrev pub release_of : Handler → Label
release_of h = if h.is_dispatcher then ready_of h.task else pend_of h.number

module _ (app : App) where
  -- behind a request or release of a handler, the labels up to the beginning of its job: the first take of the
  -- interrupt, or of messages so many starts of its level
  pub data Begins (h : Handler) : ℕ → List Label → Type 0 where
    Taken : (n depth : ℕ) (waiting : List Label) → h.is_dispatcher ≡ false
        → AllByRecursion (λ label. is_take h.number label ≡ false) waiting
        → Begins h n (waiting ++ Stepped (Some (what.Take h.number depth)) ∷ [])
    Started : (waiting : List Label) (args : List ℕ)
        → Begins h (suc (count_by (is_start_at app h.priority) waiting))
        (waiting ++ Stepped (Some (what.Start h.task args)) ∷ [])

  -- Behind the first labels of a run comes a request of a handler, and these labels behind it end where a job of
  -- another is asked for, by a chain of jobs of which each asks for the next.
  pub data IsAskedFor (front : List Label) (from : Handler) : List Label → Handler → Type 0 where
    Itself : IsAskedFor front from [] from
    ByJob : (so_far waiting running : List Label) (h g : Handler) → IsAskedFor front from so_far h
        → Begins h (ready_after app h.priority (front ++ so_far)) waiting → IsIn (handlers app) g → RunsBehind running
        → IsAskedFor front from (so_far ++ (waiting ++ (running ++ release_of g ∷ []))) g

  -- a job that is asked for behind the first labels is done within so many core steps of those behind
  pub data IsDoneIn (g : Handler) (front : List Label) (steps : ℕ) (behind : List Label) : Type 0 where
    Served : g.is_dispatcher ≡ false → ServedIn g.number steps behind → IsDoneIn g front steps behind
    Run : RunIn app g.task (ready_after app g.priority front) steps behind → IsDoneIn g front steps behind

-- what comes of a request from outside is done within the response time of the handler that stands last on the paths
-- between the two, counted from the request, where the run goes on so long
abbrev pub CausesWithin : App → Limits → List Label → Type 0
CausesWithin app limits labels =
    (front so_far behind : List Label) (from to lowest : Handler) (steps : ℕ)
    → labels ≡ front ++ Arrived from.number ∷ (so_far ++ behind) → IsIn (handlers app) from
    → IsAskedFor app (front ++ Arrived from.number ∷ []) from so_far to → IsLowest app from to lowest
    → IsResponse app limits.every lowest (response.Steps steps) → steps ≤ steps_of (so_far ++ behind)
    → (left : ℕ) × (steps_of so_far + left ≤ steps)
    × IsDoneIn app to (front ++ Arrived from.number ∷ so_far) left behind
