-- Images behave well beside devices: each moment is good, and what is shown is a run of Baker's machine beside devices,
-- which put words that have come into cells.
use Rattle.std.proofs.Common.{◌≡◌, ℕ, suc, ◌+◌, ◌^◌, ◌||◌, nat_lt, true}
use Rattle.std.proofs.Common.{inl, inr, is_none, List, [], ◌∷◌}
use Rattle.std.proofs.Common.{refl, sym, ap, subst, ◌∙◌, arith, ◌++◌, ◌≤◌}
use Rattle.std.specs.List.{AllByRecursion}
use Rattle.std.proofs.lemmas.Bool.{false≢true, ltb-true}
use Rattle.rt_lemmas.proofs.Bools.{and_left, and_right, or_cases}
use Rattle.rt_ids.specs.Event.{Arrive, Tick, Step}
use Rattle.rt_ids.specs.Priority.{hardware}
use Rattle.rt_ids.specs.declared.ids.Section.TheVariants as section
use Rattle.rt_app.specs.Accepted.{IsAccepted}
use Rattle.rt_app.specs.Ceiling.{ceiling}
use Rattle.rt_app.specs.Tree.{App}
use Rattle.rt_build.specs.Image.{IsImageOf}
use Rattle.rt_code.specs.Image.{Image}
use Rattle.rt_core.specs.Core.{Core, depth}
use Rattle.rt_core.specs.Stepping.{step}
use Rattle.rt_core.specs.Trace.{happen}
use Rattle.rt_core.proofs.Happening.{happens_by_event}
use Rattle.rt_trace.specs.Label.{Label}
use Rattle.rt_laws.specs.Services.{is_declared}
use Rattle.rt_native.specs.declared.target.Input.{Input}
use Rattle.rt_native_laws.specs.Behaving.{BehavesWell, IsGood}
use Rattle.rt_native_laws.specs.Moments.{AllCanHappen, Comes, Fills, Happening, Loads, Moment}
use Rattle.rt_native_laws.specs.Moments.{Puts, at_reset}
use Rattle.rt_native_laws.specs.Moments.{moment_after, moment_after_all, shown}
use Rattle.rt_native_laws.specs.Moments.{shown_of}
use Rattle.rt_sim.proofs.Armed.{armed, armed-append, arming_in}
use Rattle.rt_sim.proofs.Fitting.{Fits}
use Rattle.rt_native_runs.specs.Laws.{ImagesBehave, WritesLocal, are_declared, counts, fits}
use Rattle.rt_native_runs.specs.Lying.{LiesWell}
use Rattle.rt_native_runs.proofs.Filled.{actual}
use Rattle.rt_native_runs.proofs.Going.{alarm_ceiling, armed_items, good, ticks_counted, ticks_in}
use Rattle.std.proofs.lemmas.List.{append-nil, append_assoc}
use Rattle.rt_app.specs.Stack.{stack_bytes}
use Rattle.rt_laws.specs.DeviceWords.{WithWords, RunsBeside, things}
use Rattle.rt_laws.specs.State.{first}
use Rattle.rt_sim.proofs.Depth.{depth_within}
use Rattle.rt_native_runs.proofs.Lies.{images_lie_well}
use Rattle.rt_ids.specs.Choice.{IsIn}
use Rattle.rt_app.specs.Layout.{local_at}
use Rattle.rt_native_runs.specs.Running.{PutOnly}
use Rattle.rt_native_runs.proofs.Devices.{WellBeside, as_is, beside_arrives, beside_fills, beside_loads, beside_puts}
use Rattle.rt_native_runs.proofs.Devices.{beside_reset}
use Rattle.rt_native_runs.proofs.Devices.{beside_steps, beside_ticks}

module _ (app : App) (img : Image) (inputs : List Input) (accepted : IsAccepted app) (is_image : IsImageOf app img)
    (given : AllByRecursion (WritesLocal app) inputs) (lies : LiesWell img) (all : List Happening) where
  -- with words that have come into cells
  abbrev Stays : List Label → ℕ → Moment → Type 0
  Stays ls n s = WellBeside app img inputs accepted is_image given lies all ls n s

  -- After all that happened it is well still, and Baker's machine has shown the same.
  record Ends (ls : List Label) (happened : List Happening) (s : Moment) : Type 0 where
    count : ℕ
    fit : Fits app count
    well : Stays (ls ++ shown img s happened) count (moment_after_all img s happened)

  -- what is shown of one comes in front
  shown_first : (ls : List Label) (s : Moment) (happening : Happening) (more : List Happening)
      → Ends (ls ++ shown_of img s happening) more (moment_after img s happening) → Ends ls (happening ∷ more) s
  shown_first ls s happening more rest = record {
    count = rest.count;
    fit = rest.fit;
    well = subst (λ ks. Stays ks rest.count (moment_after_all img (moment_after img s happening) more))
        (append_assoc ls (shown_of img s happening) (shown img (moment_after img s happening) more)) rest.well;
  }

  -- these are among all that happens
  abbrev AreAmong : List Happening → Type 0
  AreAmong happened = (h : Happening) → IsIn happened h → IsIn all h

  behind : {first : Happening} (more : List Happening) → AreAmong (first ∷ more) → AreAmong more
  behind more within h there = within h (suc there.0, there.1)

  -- all that happens, from a moment on
  ends_well : (happened : List Happening) → AreAmong happened → (s : Moment)
      (ls : List Label) (n : ℕ) → Stays ls n s
      → are_declared app happened ≡ true → Fits app (n + (ticks_in happened + armed (shown img s happened)))
      → AllCanHappen img inputs s happened → Ends ls happened s
  ends_well [] within s ls n well declared fit can = record {
    count = n;
    fit = λ mono is. let most = fit mono is in omega (arith, most);
    well = subst (λ ks. Stays ks n s) (sym (append-nil ls)) well;
  }
  ends_well (Fills words ∷ more) within s ls n well declared fit can =
      let rest = ends_well more (behind more within) (moment_after img s (Fills words)) ls n
      (beside_fills app img inputs accepted is_image given lies all ls n s words can.0 well) declared
      (λ mono is. let most = fit mono is in omega (arith, most)) can.1 in
      record { count = rest.count; fit = rest.fit; well = rest.well }
  ends_well (Loads input word ∷ more) within s ls n well declared fit can =
      let rest = ends_well more (behind more within) (moment_after img s (Loads input word)) ls n
      (beside_loads app img inputs accepted is_image given lies all ls n s input word can.0 well) declared
      (λ mono is. let most = fit mono is in omega (arith, most)) can.1 in
      record { count = rest.count; fit = rest.fit; well = rest.well }
  ends_well (Puts cell word ∷ more) within s ls n well declared fit can =
      let rest = ends_well more (behind more within) (moment_after img s (Puts cell word)) ls n
      (beside_puts app img inputs accepted is_image given lies all ls n s cell word can.0
      (within (Puts cell word) (0, refl)) well) declared
      (λ mono is. let most = fit mono is in omega (arith, most)) can.1 in
      record { count = rest.count; fit = rest.fit; well = rest.well }
  ends_well (Comes (Arrive irq) ∷ more) within s ls n well declared fit can =
      let counted = armed-append (happen img s.core (Arrive irq)).1
      (shown img (moment_after img s (Comes (Arrive irq))) more) in
      shown_first ls s (Comes (Arrive irq)) more
      (ends_well more (behind more within) (moment_after img s (Comes (Arrive irq)))
      (ls ++ (happen img s.core (Arrive irq)).1) n
      (beside_arrives app img inputs accepted is_image given lies all ls n s irq
      (and_left (is_declared app irq) (are_declared app more) declared) well)
      (and_right (is_declared app irq) (are_declared app more) declared)
      (λ mono is. let most = fit mono is in omega (arith, most, counted)) can.1)
  ends_well (Comes Tick ∷ more) within s ls n well declared fit can =
      let counted = armed-append (happen img s.core Tick).1 (shown img (moment_after img s (Comes Tick)) more) in
      shown_first ls s (Comes Tick) more
      (ends_well more (behind more within) (moment_after img s (Comes Tick)) (ls ++ (happen img s.core Tick).1) (suc n)
      (beside_ticks app img inputs accepted is_image given lies all ls n s well) declared
      (λ mono is. let most = fit mono is in omega (arith, most, counted)) can.1)
  ends_well (Comes Step ∷ more) within s ls n well declared fit can =
      let counted = armed-append (happen img s.core Step).1 (shown img (moment_after img s (Comes Step)) more) in
      let one : armed (happen img s.core Step).1 ≡ arming_in (step img s.core).1 + 0 =
      ap (λ (r : Core × List Label). armed r.1) (happens_by_event.step img s.core) in
      shown_first ls s (Comes Step) more
      (ends_well more (behind more within) (moment_after img s (Comes Step)) (ls ++ (happen img s.core Step).1)
      (n + arming_in (step img s.core).1)
      (beside_steps app img inputs accepted is_image given lies all ls n s well
      (λ mono is. let most = fit mono is in omega (arith, most))) declared
      (λ mono is. let most = fit mono is in omega (arith, most, counted, one)) can.1)

-- where what happens fits, from reset on
module _ (app : App) (img : Image) (inputs : List Input) (accepted : IsAccepted app) (is_image : IsImageOf app img)
    (given : AllByRecursion (WritesLocal app) inputs) (lies : LiesWell img) where
  pub record Reaches (happened : List Happening) : Type 0 where
    pub good : IsGood img (alarm_ceiling app img accepted is_image lies)
        (moment_after_all img (at_reset img) happened)
    pub moves : List (WithWords Label)
    pub runs : RunsBeside app (first app) moves
    pub shows : things moves ≡ shown img (at_reset img) happened
    pub words : PutOnly (λ n word. IsIn happened (Puts (local_at app n) word)) moves
    pub within : depth img (moment_after_all img (at_reset img) happened).core ≤ stack_bytes app

  pub reaches : (happened : List Happening) → AllCanHappen img inputs (at_reset img) happened
      → fits app img happened ≡ true → Reaches happened
  reaches happened can fit =
      let ends = ends_well app img inputs accepted is_image given lies happened happened (λ h there. there)
      (at_reset img) [] 0 (beside_reset app img inputs accepted is_image given lies happened)
      (and_left (are_declared app happened) (is_none app.mono || nat_lt (counts img happened) (2 ^ 31)) fit)
      (few (and_right (are_declared app happened) (is_none app.mono || nat_lt (counts img happened) (2 ^ 31)) fit))
      can in
      let s : Moment = moment_after_all img (at_reset img) happened in
      let its = as_is app img inputs accepted is_image given lies happened (shown img (at_reset img) happened)
      ends.count s ends.well in
      let x = actual app img accepted is_image lies its.state ends.count s its.well in
      record {
        good = good app img accepted is_image lies its.state ends.count s its.well ends.fit;
        moves = its.run.moves;
        runs = its.run.runs;
        shows = its.run.shows;
        words = its.run.words;
        within = subst (λ (c : Core). depth img c ≤ stack_bytes app) (sym x.is)
            (depth_within app img is_image.at.idle is_image.tables.fpu accepted.limits.most_bits x.coupling
            x.invariant);
      }
    where
      few : (is_none app.mono || nat_lt (counts img happened) (2 ^ 31)) ≡ true
          → Fits app (0 + (ticks_in happened + armed (shown img (at_reset img) happened)))
      few fit mono is = elim (or_cases (is_none app.mono) (nat_lt (counts img happened) (2 ^ 31)) fit) [
        | inl none ↦ absurd (false≢true (sym (ap is_none is) ∙ none))
        | inr some ↦
            let less = ltb-true (counts img happened) (2 ^ 31) some in
            let ticks = ticks_counted happened in
            let arms = armed_items 0 (shown img (at_reset img) happened) in
            omega (arith, less, ticks, arms)
      ]

  pub behaves : BehavesWell img inputs (fits app img)
  behaves = record {
    frames = lies.even;
    ceiling = hardware app.bits (ceiling app section.Timer);
    moments = λ happened can fit. (reaches happened can fit).good;
  }

pub images_behave : ImagesBehave
images_behave app img inputs accepted is_image built given =
    behaves app img inputs accepted is_image given (images_lie_well app img accepted built)
