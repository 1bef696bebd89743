-- A return shows the interrupt of what it leaves: the contexts that were saved have the names of the jobs over them.
use Rattle.std.proofs.Common.{◌≡◌, ◌≢◌, ℕ, suc, nat_le, Bool, true, false, if◌then◌else◌, List, [], ◌∷◌, drop}
use Rattle.std.proofs.Common.{length}
use Rattle.std.proofs.Common.{slice_get, Option, Some, None, refl, sym, ap, subst, ◌∙◌, ◌+◌, arith}
use Rattle.rt_trace.specs.declared.item.What.{What}
use Rattle.rt_trace.specs.declared.item.What.TheVariants as what
use Rattle.rt_code.specs.Effect.{effect}
use Rattle.rt_code.specs.Image.{Image, entry_words}
use Rattle.rt_code.specs.declared.image.Handler.{Handler}
use Rattle.rt_code.specs.Processor.{Effect, Traps, Leads}
use Rattle.rt_code.specs.Stack.{interrupted_context}
use Rattle.rt_code.specs.declared.image.BodyRow.{BodyRow}
use Rattle.rt_code.specs.declared.instr.Instr.{Instr}
use Rattle.rt_code.specs.declared.instr.Note.{Note}
use Rattle.rt_code.specs.declared.processor.Request.{Request}
use Rattle.rt_code.specs.declared.processor.Request.TheVariants as request
use Rattle.rt_code.specs.declared.processor.Trap.TheVariants as trap
use Rattle.rt_core.specs.Core.{Context, Core, depth}
use Rattle.rt_core.specs.Note.{item_of_note}
use Rattle.rt_core.specs.Outcome.{Outcome, Trapped, Done, settle}
use Rattle.rt_core.specs.Priority.{pick}
use Rattle.rt_core.specs.Stepping.{answer, outcome_of_note, with_note, go_on, run, attempt, step}
use Rattle.rt_core.specs.Transfer.{outcome_of_return, may_call, call_fits, call_row, call, back_to, set_alarm}
use Rattle.rt_core.specs.Transfer.{core_after_call, core_after_pend, core_after_entry, exception_entry, has_room}
use Rattle.rt_core.proofs.Happening.{going_steps}
use Rattle.rt_points.specs.Point.{Point}
use Rattle.rt_points.specs.declared.point.Owner.TheVariants as owner
use Rattle.rt_safe.specs.Inside.Moved.{IsSilent, IsTaken, IsBack, Moved, Taken, Gone, Opened_one, Closed_one, Served}
use Rattle.rt_safe.specs.Inside.Moved.{Back}
use Rattle.rt_safe.specs.Inside.RunsAtPoints.{IsStacked, RunsAtPoints}
use Rattle.rt_timely.specs.Watching.{Handler as HandlerOf, SeenJob, Watch, begun, stepped, inside_too, outside_again}
use Rattle.rt_timely.specs.Watching.{on_running, entered, after_step}
use Rattle.rt_timely.proofs.Keeping.{silent_seen}

-- what a line makes of the saved contexts: they stay, or the last is left by a return, which shows its name
pub data Unwinds (c d : Core) (shown : Option What) : Type 0 where
  Level : d.below ≡ c.below → Unwinds c d shown
  Returned : (x : Context) → (below : List Context) → c.below ≡ x ∷ below → d.below ≡ below
      → shown ≡ Some (what.Ret x.irq) → Unwinds c d shown

abbrev Leaves : Core → Outcome → Type 0
Leaves c o = Unwinds c (settle o).0 (settle o).1

noted : (img : Image) (c : Core) (told : Option Note) (o : Outcome) → Leaves c o → Leaves c (with_note img told o)
noted img c None o leaves = leaves
noted img c (Some n) (Trapped d t) leaves = leaves
noted img c (Some n) (Done d (Some w)) leaves = leaves
noted img c (Some n) (Done d None) (Returned x below e f shows) = cc
noted img c (Some n) (Done d None) (Level e) = by (item_of_note img d n)
  where
    by : (o : Option What) → Leaves c (outcome_of_note d o)
    by None = Level e
    by (Some w) = Level e

alarmed : (c : Core) (instant irq : ℕ) → Leaves c (set_alarm c instant irq)
alarmed c instant irq = by (nat_le instant c.time)
  where
    by : (b : Bool)
        → Leaves c (if b then Done (record (core_after_pend c irq) { alarm = None }) (Some what.Alarm)
        else Done (record c { alarm = Some (record { instant = instant; irq = irq }) }) (Some what.AlarmSet))
    by true = Level refl
    by false = Level refl

called : (img : Image) (c : Core) (row from : ℕ) → Leaves c (call img c row from)
called img c row from = by (may_call c)
  where
    fits : (r : BodyRow) (b : Bool)
        → Leaves c (if b then Done (core_after_call c r from) None else Trapped c trap.Stack)
    fits r true = Level refl
    fits r false = Level refl

    rows : (o : Option BodyRow) → Leaves c (call_row img c o from)
    rows None = Level refl
    rows (Some r) = fits r (call_fits img c r from)

    by : (b : Bool) → Leaves c (if b then call_row img c (slice_get img.bodies row) from else Trapped c trap.Stack)
    by true = rows (slice_get img.bodies row)
    by false = Level refl

came_back : (c : Core) (o : Option (List ℕ)) → Leaves c (back_to c o)
came_back c None = Level refl
came_back c (Some slots) = Level refl

returned : (c : Core) (caller : Option (List ℕ)) (below : List Context) → c.below ≡ below
    → Leaves c (outcome_of_return c (interrupted_context caller below))
returned c None [] e = Level refl
returned c None (x ∷ below) e = Returned x below e refl refl
returned c (Some slots) [] e = Level refl
returned c (Some slots) (x ∷ below) e = Level refl

answered : (img : Image) (c : Core) (asked : Request) → Leaves c (answer img c asked)
answered img c request.Nothing = Level refl
answered img c (request.Emit value) = Level refl
answered img c (request.Post irq) = Level refl
answered img c (request.Clock time) = Level refl
answered img c (request.Alarm instant irq) = alarmed c instant irq
answered img c request.NoAlarm = Level refl
answered img c (request.Call row from) = called img c row from
answered img c request.Back = came_back c c.caller
answered img c request.Return = returned c c.caller c.below refl

same_below : (c d e : Core) (shown : Option What) → d.below ≡ c.below → Unwinds d e shown → Unwinds c e shown
same_below c d e shown same (Level f) = Level (f ∙ same)
same_below c d e shown same (Returned x below f g shows) = Returned x below (sym same ∙ f) g shows

gone_on : (img : Image) (c : Core) (told : Option Note) (e : Effect) → Leaves c (go_on img c told e)
gone_on img c told (Traps t) = Level refl
gone_on img c told (Leads p asked) =
    noted img c told (answer img (record c { processor = p }) asked)
    (same_below c (record c { processor = p }) _ _ refl (answered img (record c { processor = p }) asked))

ran : (img : Image) (c : Core) (line : Option (Instr × Option Note)) → Leaves c (run img c line)
ran img c None = Level refl
ran img c (Some line) = gone_on img c line.1 (effect line.0 c.time c.processor)

-- of a step in which nothing is taken
pub unwinds : (img : Image) (c : Core) → c.stopped ≡ false → pick img c ≡ None
    → Unwinds c (step img c).0 (step img c).1
unwinds img c going picked =
    subst (λ (r : Core × Option What). Unwinds c r.0 r.1)
    (sym (going_steps img c going ∙ ap (λ q. settle (attempt img c q)) picked))
    (ran img c (slice_get img.code c.processor.address))

-- an item that tells that a handler returns
abbrev IsReturn : Option What → Type 0
IsReturn (Some (what.Ret irq)) = Unit {0}
IsReturn shown = ⊥

silent_stays : (shown : Option What) → IsSilent shown → IsReturn shown → ⊥
silent_stays None silent return = return
silent_stays (Some (what.Ret irq)) silent return = silent
silent_stays (Some w) silent return = return

-- the jobs over the saved contexts have their names; the last one is the thread's or that of `init`
abbrev pub AreNamed : List SeenJob → List Context → Type 0
AreNamed jobs [] = Unit {0}
AreNamed [] (x ∷ below) = ⊥
AreNamed (job ∷ jobs) (x ∷ below) = (job.whose ≡ HandlerOf x.irq) × AreNamed jobs below

pub named_none : (jobs : List SeenJob) → AreNamed jobs []
named_none [] = tt
named_none (job ∷ jobs) = tt

-- a take saves a context with the name of what is taken
entry_saves : (img : Image) (c : Core) (n : ℕ) (h : Handler) (irq depth_then : ℕ) (b : Bool)
    → (settle (if b then Done (core_after_entry c n h) (Some (what.Take n (depth img (core_after_entry c n h))))
    else Trapped c trap.Stack)).1 ≡ Some (what.Take irq depth_then)
    → (x : Context) × ((settle (if b then Done (core_after_entry c n h)
    (Some (what.Take n (depth img (core_after_entry c n h)))) else Trapped c trap.Stack)).0.below ≡ x ∷ c.below)
    × (x.irq ≡ n)
entry_saves img c n h irq depth_then true shows = (_, refl, refl)
entry_saves img c n h irq depth_then false shows = cc

module _ (img : Image) where
  stacked_long : (p : Point) (qs : List Point) (below : List Context) → IsStacked img p qs below
      → length below ≡ length qs
  stacked_long p [] [] stacked = refl
  stacked_long p [] (x ∷ below) stacked = absurd stacked
  stacked_long p (q ∷ qs) [] stacked = absurd stacked
  stacked_long p (q ∷ qs) (x ∷ below) stacked = ap suc (stacked_long q qs below stacked.1)

  module _ (c : Core) (p : Point) (qs : List Point) (fits : RunsAtPoints img c p qs) (after : Core)
      (shown : Option What) (q : Point) (rest : List Point) (after_fits : RunsAtPoints img after q rest)
      (is : step img c ≡ (after, shown)) where
    here : pick img c ≡ None → Unwinds c after shown
    here picked = subst (λ (r : Core × Option What). Unwinds c r.0 r.1) is (unwinds img c fits.stopped picked)

    -- a handler that returns leaves the last context, and shows its name
    pub left_context : IsBack img c p qs shown q rest
        → (x : Context) × (c.below ≡ x ∷ after.below) × (shown ≡ Some (what.Ret x.irq))
    left_context one = by (here one.none)
      where
        by : Unwinds c after shown
            → (x : Context) × (c.below ≡ x ∷ after.below) × (shown ≡ Some (what.Ret x.irq))
        by (Returned x below e f shows) = (x, e ∙ ap (λ (xs : List Context). x ∷ xs) (sym f), shows)
        by (Level e) =
            let was = stacked_long p qs c.below fits.stack in
            let now = stacked_long q rest after.below after_fits.stack in
            let same = ap (λ (xs : List Context). length xs) e in
            let longer = ap (λ (ps : List Point). length ps) one.back in
            absurd (omega (arith, was, now, same, longer))

    saved : (t : IsTaken img c p qs shown q rest)
        → (x : Context) × (after.below ≡ x ∷ c.below) × (x.irq ≡ t.row.number)
    saved t =
        let entry : settle (exception_entry img c t.row.number (Some t.handler)) ≡ (after, shown) =
        sym (going_steps img c fits.stopped ∙ ap (λ o. settle (attempt img c o)) t.picked
        ∙ ap (λ o. settle (exception_entry img c t.row.number o)) t.enabled) ∙ is in
        let one = entry_saves img c t.row.number t.handler t.row.number t.depth
        (has_room img c (entry_words img + t.handler.frame))
        (ap (λ (r : Core × Option What). r.1) entry ∙ t.shows) in
        (one.0, ap (λ (r : Core × Option What). r.0.below) (sym entry) ∙ one.1, one.2)

    -- where no return is shown the contexts stay
    level : Unwinds c after shown → (IsReturn shown → ⊥) → after.below ≡ c.below
    level (Level e) other = e
    level (Returned x below e f shows) other = absurd (other (subst IsReturn (sym shows) tt))

    module _ (w : Watch) (started : p.owner ≢ owner.Starting) where
      runs : (f : SeenJob → SeenJob) → ((job : SeenJob) → (f job).whose ≡ job.whose) → (jobs : List SeenJob)
          (below : List Context) → AreNamed jobs below → AreNamed (on_running f jobs) below
      runs f keeps jobs [] named = named_none (on_running f jobs)
      runs f keeps [] (x ∷ below) named = absurd named
      runs f keeps (job ∷ jobs) (x ∷ below) named = (keeps job ∙ named.0, named.1)

      less : (jobs : List SeenJob) (x : Context) (below : List Context) → AreNamed jobs (x ∷ below)
          → AreNamed (drop 1 jobs) below
      less [] x below named = absurd named
      less (job ∷ jobs) x below named = named.1

      abbrev Then : Option What → List Context → Type 0
      Then s below = AreNamed (after_step c w (after, s)).jobs below

      -- and it stays so
      pub named_on : Moved img c p qs shown q rest → AreNamed w.jobs c.below → Then shown after.below
      named_on (Taken t) named =
          let one = saved t in
          subst (λ s. Then s after.below) (sym t.shows)
          (subst (AreNamed (begun (HandlerOf t.row.number) after ∷ w.jobs)) (sym one.1)
          (ap HandlerOf (sym one.2), named))
      named_on (Gone one inside silent) named =
          subst (λ (jobs : List SeenJob). AreNamed jobs after.below)
          (sym (ap (λ (v : Watch). v.jobs) (silent_seen c after w shown silent)))
          (subst (AreNamed (on_running stepped w.jobs))
          (sym (level (here one.none) (silent_stays shown silent)))
          (runs stepped (λ job. refl) w.jobs c.below named))
      named_on (Opened_one one) named =
          subst (λ s. Then s after.below) (sym one.shows)
          (subst (Then (Some (what.Enter one.section)))
          (sym (level (here one.goes.none) (subst IsReturn one.shows)))
          (runs (λ job. inside_too (entered c after one.section w.steps) (stepped job)) (λ job. refl) w.jobs c.below
          named))
      named_on (Closed_one one) named =
          subst (λ s. Then s after.below) (sym one.shows)
          (subst (Then (Some (what.Leave one.opened.section one.value)))
          (sym (level (here one.goes.none) (subst IsReturn one.shows)))
          (runs (λ job. outside_again (stepped job)) (λ job. refl) w.jobs c.below named))
      named_on (Served one) named = absurd (started one.before)
      named_on (Back one) named =
          let x = left_context one in
          subst (λ s. Then s after.below) (sym one.shows)
          (less w.jobs x.0 after.below (subst (AreNamed w.jobs) x.1 named))
