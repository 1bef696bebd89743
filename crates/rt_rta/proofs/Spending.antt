-- What a step of the running job spends, where no code makes an interrupt pending.
use Rattle.std.proofs.Common.{◌≡◌, ℕ, ◌-◌, ◌⊎◌, inl, inr, true, List, ◌∷◌, Option, Some, None, refl, sym, subst}
use Rattle.std.specs.Prelude.{IsSome}
use Rattle.std.proofs.lemmas.Option.{none-some}
use Rattle.rt_actions.specs.Content.{Values}
use Rattle.rt_actions.specs.Action.{Action, Enters, Leaves, Emits, Posts, Clocks, Places, FindsFull, Readies, Starts}
use Rattle.rt_actions.specs.Action.{Frees}
use Rattle.rt_actions.specs.Action.{Arms, Fires, Cancels, Moves, SetsAlarm, Ends, Returns, effect}
use Rattle.rt_actions.specs.Doing.{Doing, over, does}
use Rattle.rt_ids.specs.declared.ids.BodyId.TheVariants as body
use Rattle.rt_trace.specs.Label.{Stepped}
use Rattle.rt_trace.specs.declared.item.What.{What}
use Rattle.rt_trace.specs.declared.item.What.TheVariants as what
use Rattle.rt_app.specs.Tree.{Body, App}
use Rattle.rt_app.specs.Accepted.{IsAccepted}
use Rattle.rt_app.specs.Forms.{has_response_times}
use Rattle.rt_laws.specs.State.{Job, State}
use Rattle.rt_laws.specs.Giving.{return_item, item_of, next_item, item_given}
use Rattle.rt_laws.specs.Acting.{job_after_step, idle_job, answer, state_after_action, state_after_doing}
use Rattle.rt_laws.specs.Allowed.{May, state_after_silence, state_after_item, after}
use Rattle.rt_rta.proofs.Quiet.{IsQuiet, idle_quiet}

-- the running job and the others, before a step that shows this and behind it
module _ (job : Job) (others : List Job) (shown : Option What) (jobs : List Job) where
  pub data Spends : Type 0 where
    -- it goes on, and has a step less left
    SpendsOne : (j : Job) → jobs ≡ j ∷ others → j.role ≡ job.role → j.priority ≡ job.priority → j.left ≡ job.left - 1
        → IsQuiet j.rest → ¬ (shown ≡ Some (what.End body.Init)) → Spends
    -- the thread begins anew at the lowest priority
    BeginsAnew : (j : Job) → jobs ≡ j ∷ others → j.priority ≡ 0 → IsQuiet j.rest
        → (shown ≡ Some (what.End body.Init)) ⊎ (shown ≡ Some (what.End body.Idle)) → Spends
    -- it returns
    LeavesStack : jobs ≡ others → IsSome (return_item job.role) → Spends

pub record Spent (s : State) (job : Job) (others : List Job) (shown : Option What) (t : State) : Type 0 where
  pub spends : Spends job others shown t.jobs
  pub pending : t.pending ≡ s.pending
  pub alarm : t.alarm ≡ s.alarm
  pub owing : t.owing ≡ s.owing

module _ (app : App) (accepted : IsAccepted app) (form : has_response_times app ≡ true) (s : State) (job : Job)
    (others : List Job) where
  idling_low : (vs : Values) (o : Option Body) → (idle_job app vs o).priority ≡ 0
  idling_low vs None = refl
  idling_low vs (Some b) = refl

  idling_quiet : (vs : Values) (o : Option Body) → IsQuiet (idle_job app vs o).rest
  idling_quiet vs None = tt
  idling_quiet vs (Some b) = idle_quiet app accepted form vs

  abbrev SpentBy : What → State → Type 0
  SpentBy w t = Spent s job others (Some w) t

  acts : (action : Action) (made : Values) (next : ℕ → Values → Doing Values) → IsQuiet (does action made next)
      → (w : What)
      → item_of s job.role action ≡ Some w
      → SpentBy w (state_after_action app s job others action (effect action s.values)
      (next (answer s action) (effect action s.values)))
  acts (Enters x cost) made next quiet w is = record {
    spends = SpendsOne _ refl refl refl refl (quiet.1 0 _) (λ e. cc);
    pending = refl;
    alarm = refl;
    owing = refl;
  }
  acts (Leaves x) made next quiet w is = record {
    spends = SpendsOne _ refl refl refl refl (quiet.1 0 _) (λ e. cc);
    pending =
        refl;
    alarm = refl;
    owing = refl;
  }
  acts (Emits v) made next quiet w is = record {
    spends = SpendsOne _ refl refl refl refl (quiet.1 0 _) (λ e. cc);
    pending =
        refl;
    alarm = refl;
    owing = refl;
  }
  acts (Posts irq) made next quiet w is = absurd quiet.0
  acts Clocks made next quiet w is = record {
    spends = SpendsOne _ refl refl refl refl (quiet.1 s.time _) (λ e. cc);
    pending = refl;
    alarm = refl;
    owing = refl;
  }
  acts (Places n) made next quiet w is = record {
    spends = SpendsOne _ refl refl refl refl (quiet.1 0 _) (λ e. cc);
    pending =
        refl;
    alarm = refl;
    owing = refl;
  }
  acts (FindsFull n) made next quiet w is = record {
    spends = SpendsOne _ refl refl refl refl (quiet.1 0 _) (λ e. cc);
    pending = refl;
    alarm = refl;
    owing = refl;
  }
  acts (Readies p m) made next quiet w is = record {
    spends = SpendsOne _ refl refl refl refl (quiet.1 0 _) (λ e. cc);
    pending = refl;
    alarm = refl;
    owing = refl;
  }
  acts (Starts p m) made next quiet w is = record {
    spends = SpendsOne _ refl refl refl refl (quiet.1 0 _) (λ e. cc);
    pending = refl;
    alarm = refl;
    owing = refl;
  }
  acts (Frees n) made next quiet w is = record {
    spends = SpendsOne _ refl refl refl refl (quiet.1 0 _) (λ e. cc);
    pending =
        refl;
    alarm = refl;
    owing = refl;
  }
  acts (Arms i m) made next quiet w is = record {
    spends = SpendsOne _ refl refl refl refl (quiet.1 0 _) (λ e. cc);
    pending =
        refl;
    alarm = refl;
    owing = refl;
  }
  acts (Fires m) made next quiet w is = record {
    spends = SpendsOne _ refl refl refl refl (quiet.1 0 _) (λ e. cc);
    pending =
        refl;
    alarm = refl;
    owing = refl;
  }
  acts (Cancels n h) made next quiet w is = record {
    spends = SpendsOne _ refl refl refl refl (quiet.1 0 _) (λ e. cc);
    pending = refl;
    alarm = refl;
    owing = refl;
  }
  acts (Moves n h i) made next quiet w is = record {
    spends = SpendsOne _ refl refl refl refl (quiet.1 0 _) (λ e. cc);
    pending = refl;
    alarm = refl;
    owing = refl;
  }
  acts SetsAlarm made next quiet w is = absurd quiet.0
  acts (Ends body.Init) made next quiet w is = record {
    spends = BeginsAnew _ refl (idling_low s.values app.idle) (idling_quiet s.values app.idle) (inl (sym is));
    pending = refl;
    alarm = refl;
    owing = refl;
  }
  acts (Ends body.Idle) made next quiet w is = record {
    spends = BeginsAnew _ refl (idling_low s.values app.idle) (idling_quiet s.values app.idle) (inr (sym is));
    pending = refl;
    alarm = refl;
    owing = refl;
  }
  acts (Ends (body.Task n)) made next quiet w is = record {
    spends = SpendsOne _ refl refl refl refl (quiet.1 0 _) (λ e. cc);
    pending = refl;
    alarm = refl;
    owing = refl;
  }
  acts Returns made next quiet w is = record {
    spends = LeavesStack refl (subst IsSome (sym is) refl);
    pending = refl;
    alarm = refl;
    owing = refl;
  }

  rest_acts : (rest : Doing Values) → IsQuiet rest → (w : What) → next_item s job.role rest ≡ Some w
      → SpentBy w (state_after_doing app s job others rest)
  rest_acts over quiet w is = absurd (none-some w is)
  rest_acts (does action made next) quiet w is = acts action made next quiet w is

-- a step of the running job
module _ (app : App) (accepted : IsAccepted app) (form : has_response_times app ≡ true) (s : State) (job : Job)
    (others : List Job)
    (jobs_are : s.jobs ≡ job ∷ others) (quiet : IsQuiet job.rest) where
  step_acts : (w : What) → item_given s s.jobs ≡ Some w → Spent s job others (Some w) (state_after_item app s s.jobs)
  step_acts w is =
      subst (λ js. Spent s job others (Some w) (state_after_item app s js)) (sym jobs_are)
      (rest_acts app accepted form s job others job.rest quiet w (subst (λ js. item_given s js ≡ Some w) jobs_are is))

  pub step_spends : (shown : Option What) → May app s (Stepped shown)
      → ((irq depth : ℕ) → ¬ (shown ≡ Some (what.Take irq depth))) → Spent s job others shown
      (after app s (Stepped shown))
  step_spends None may no_take =
      subst (λ js. Spent s job others None (state_after_silence s js)) (sym jobs_are)
      (record {
        spends = SpendsOne (job_after_step job) refl refl refl refl quiet (λ e. none-some _ e);
        pending = refl;
        alarm = refl;
        owing = refl;
      })
  step_spends (Some (what.Take irq depth)) may no_take = absurd (no_take irq depth refl)
  step_spends (Some w) may no_take = step_acts w may.1
