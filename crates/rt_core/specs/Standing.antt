-- What a core step does where code that stands runs: the step of the core, and what the code is correct for after it. A
-- proof that follows a job on the core goes by these cases, and unfolds no instruction. They are read off the
-- definitions of standing code and of a core step; the cases are this project's own.
use Rattle.std.specs.Prelude.{◌≡◌, ℕ, suc, ◌^◌, ◌<◌, true, false, List, ◌∷◌, Option, Some, None}
use Rattle.rt_ids.specs.Lists.{is_empty}
use Rattle.rt_actions.specs.Action.{Action, Emits, Posts, Clocks, Ends, Returns}
use Rattle.rt_actions.specs.Content.{Values}
use Rattle.rt_actions.specs.Doing.{Doing, does}
use Rattle.rt_actions.specs.Storage.{Storage, Runner, Starting, AtPriority}
use Rattle.rt_ids.specs.declared.ids.BodyId.TheVariants as body
use Rattle.rt_ids.specs.declared.ids.Section.{Section}
use Rattle.rt_code.specs.Acting.{Acts, SetsTheAlarm, Noted}
use Rattle.rt_code.specs.Image.{Image}
use Rattle.rt_code.specs.Masking.{EntersSection, LeavesSection}
use Rattle.rt_code.specs.Owning.{Configuration, MayAccess}
use Rattle.rt_code.specs.Processor.{Processor}
use Rattle.rt_code.specs.Standing.{Finishes, Calls, ComesBack, HaveLeft, Stands, configuration_after, spend_step}
use Rattle.rt_code.specs.declared.instr.Instr.{Instr}
use Rattle.rt_code.specs.declared.instr.Note.{Note}
use Rattle.rt_trace.specs.declared.item.What.{What}
use Rattle.rt_trace.specs.declared.item.What.TheVariants as what
use Rattle.rt_core.specs.Access.{access}
use Rattle.rt_core.specs.Core.{Core, Context}
use Rattle.rt_core.specs.Leading.{IsAt, GoesPlainly, with_processor, at_address, core_serving, in_frame, in_context}
use Rattle.rt_core.specs.Leading.{item_of}
use Rattle.rt_core.specs.Masks.{CanPutBack, processor_after_opening, processor_after_closing}
use Rattle.rt_core.specs.Note.{left_value}
use Rattle.rt_core.specs.Outcome.{settle}
use Rattle.rt_core.specs.Priority.{pick}
use Rattle.rt_core.specs.Stepping.{step}
use Rattle.rt_core.specs.Transfer.{core_after_pend, core_after_call, has_room, set_alarm}

module _ (img : Image) (st : Storage) (thread : ℕ) (who : Runner) (c : Core) (s : Configuration) (later : Configuration
    → Type 0) where
  -- a core step leads to this core, and gives this item
  abbrev pub Gives : Core → Option What → Type 0
  Gives after shown = step img c ≡ (after, shown)

  -- the job does its next action by an instruction that leads to this processor
  abbrev pub ActsBehind : Processor → Action → ℕ → Type 0
  ActsBehind p action answer = Acts st img.bodies who action answer (configuration_after (spend_step s) p) later

  -- this action ends the job here, with no section open and nothing in its hands
  abbrev pub EndsHere : Action → Type 0
  EndsHere action = Finishes st img.code img.bodies thread who action (spend_step s)

  -- By what kind of instruction the core steps. A plain one leads the processor to another state, a step nearer to each
  -- end.
  pub data StepsBy : Type 0 where
    -- a silent step
    BySilence : (p : Processor) → GoesPlainly s c.processor p → Gives (with_processor c p) None
        → later (configuration_after (spend_step s) p) → StepsBy
    -- what a note says: a place of a message moves, or none is found
    ByNote : (p : Processor) → GoesPlainly s c.processor p → (told : Note)
        → (noted : Noted st img.bodies who told (configuration_after (spend_step s) p) later)
        → Gives (with_processor c p)
        (Some (item_of st img.bodies who later told (configuration_after (spend_step s) p) noted)) → StepsBy
    ByEmit : (p : Processor) → GoesPlainly s c.processor p → (value : ℕ)
        → Gives (with_processor c p) (Some (what.Emit value)) → ActsBehind p (Emits value) 0 → StepsBy
    ByPost : (p : Processor) → GoesPlainly s c.processor p → (irq : ℕ)
        → Gives (core_after_pend (with_processor c p) irq) (Some (what.Post irq)) → ActsBehind p (Posts irq) 0 → StepsBy
    ByClock : (p : Processor) → GoesPlainly s c.processor p
        → Gives (with_processor c p) (Some (what.Clock c.time)) → ActsBehind p Clocks c.time → StepsBy
    ByAlarm : (p : Processor) → GoesPlainly s c.processor p → (instant irq : ℕ) → st.timer ≡ Some irq
        → step img c ≡ settle (set_alarm (with_processor c p) instant irq)
        → SetsTheAlarm st img.bodies who (Some instant) (configuration_after (spend_step s) p) later → StepsBy
    ByNoAlarm : (p : Processor) → GoesPlainly s c.processor p
        → Gives (record c { processor = p; alarm = None }) (Some what.AlarmSet)
        → SetsTheAlarm st img.bodies who None (configuration_after (spend_step s) p) later → StepsBy
    -- a section opens: its mask is set, and what it was is saved
    ByEnter : (x : Section) (i : Instr) → (goes : EntersSection st who x i (spend_step s) later)
        → Gives (with_processor c (processor_after_opening c.processor (st.value (st.ceiling x)) goes.kind))
        (Some (what.Enter x))
        → StepsBy
    -- a section closes: its mask is put back
    ByLeave : (x : Section) (i : Instr) → (comes : LeavesSection st who x i (spend_step s) later)
        → (CanPutBack comes.kind c.processor.slots
        → Gives (with_processor c (processor_after_closing c.processor comes.kind))
        (Some (what.Leave x (left_value img c x))))
        → StepsBy
    -- a handler calls a body, where the body's frame has room
    ByCall : (row from : ℕ) → (calls : Calls st img.code img.bodies thread who row from (spend_step s) later)
        → (is_empty c.below ≡ false → has_room img c calls.called.frame ≡ true
        → Gives (core_after_call c calls.called from) None)
        → StepsBy
    -- and the body's end leads back to the handler
    ByBack : (t : ℕ) → (back : ComesBack st img.code img.bodies thread who t (spend_step s) later)
        → Gives (in_frame c back.frame) (Some (what.End (body.Task t))) → StepsBy
    -- the thread goes on at its address, at the end of `init` with interrupts served
    ByEndOfInit : who ≡ Starting → EndsHere (Ends body.Init)
        → Gives (core_serving c thread) (Some (what.End body.Init)) → StepsBy
    ByEndOfIdle : who ≡ AtPriority 0 → EndsHere (Ends body.Idle)
        → Gives (at_address c thread) (Some (what.End body.Idle)) → StepsBy
    -- a handler returns, and what it interrupted runs on
    ByReturn : EndsHere Returns
        → ((x : Context) (others : List Context) → c.below ≡ x ∷ others
        → Gives (in_context c x others) (Some (what.Ret x.irq)))
        → StepsBy

  -- No count of steps that are left has run out, the step touches what the job may touch, and it is one of these.
  pub record StepsAsStands : Type 0 where
    pub left : HaveLeft s.lefts
    pub touches : MayAccess st who s (access img c)
    pub by : StepsBy

-- Where the job reads the clock next, the time is below 2 ^ 31, so that it fits a word with every delay added. No other
-- instruction goes by the time.
abbrev pub ClockFits : Core → Configuration → Type 0
ClockFits c s = (made : Values) (next : ℕ → Values → Doing Values) → s.rest ≡ does Clocks made next → c.time < 2 ^ 31

-- Where the core is at a job whose code stands, a step of the core is one of these, and the code stands after it.
abbrev pub StandingLeads : Storage → Type 0
StandingLeads st = (img : Image) (thread : ℕ) (who : Runner) (c : Core) (s : Configuration) (n : ℕ)
    → c.stopped ≡ false → pick img c ≡ None → ClockFits c s → IsAt c s
    → Stands st img.code img.bodies thread who (suc n) s
    → StepsAsStands img st thread who c s (Stands st img.code img.bodies thread who n)
