-- A core is coupled with a state of Baker's machine: both are those of a coupling of which rt_sim's invariant holds,
-- where the machine is well, counts are within a bound, and each interrupted job's BASEPRI is the one that was then.
use Rattle.std.proofs.Common.{◌≡◌, ℕ, suc, ◌+◌, ◌≤◌, ◌⊎◌, inl, inr, true}
use Rattle.std.proofs.Common.{List, [], ◌∷◌, length, map, drop, slice_set, Option, refl, sym, ap}
use Rattle.std.proofs.Common.{subst, ◌∙◌, arith, length-set}
use Rattle.std.specs.List.{AllByRecursion}
use Rattle.std.proofs.lemmas.List.{length-map}
use Rattle.rt_lemmas.proofs.Membership.{all_weaker}
use Rattle.rt_ids.specs.Priority.{hardware}
use Rattle.rt_app.specs.Accepted.{IsAccepted}
use Rattle.rt_app.specs.Tree.{App}
use Rattle.rt_build.specs.Image.{IsImageOf}
use Rattle.rt_code.specs.Image.{Image}
use Rattle.rt_core.specs.Core.{Core}
use Rattle.rt_core.specs.Stepping.{step}
use Rattle.rt_core.specs.Trace.{tick}
use Rattle.rt_core.specs.Transfer.{core_after_pend}
use Rattle.rt_trace.specs.Label.{Label, Arrived, Ticked, Rang, Stepped}
use Rattle.rt_trace.specs.declared.item.What.{What}
use Rattle.rt_laws.specs.Allowed.{May, after}
use Rattle.rt_laws.specs.ByItems.{after_all}
use Rattle.rt_laws.specs.Observer.{Observer, sees, sees_all}
use Rattle.rt_laws.specs.Run.{RunsOn}
use Rattle.rt_laws.specs.Services.{is_declared}
use Rattle.rt_laws.specs.State.{Job, State}
use Rattle.rt_laws.specs.DeviceWords.{ones, after_moves}
use Rattle.rt_laws.proofs.Armings.{armings}
use Rattle.rt_laws.proofs.Beside.{things_ones, runs_ones, after_ones}
use Rattle.rt_laws.proofs.Happens.{Happens, Quietly, ByTake, ByStep, happens}
use Rattle.rt_laws.proofs.Keeping.{next_well, well_after}
use Rattle.rt_laws.proofs.Well.{StateWell, Changes, GoesOn, Restarts, ComesBack}
use Rattle.rt_sim.specs.Inside.Coupling.{Part, Coupling, handled_irq, job_of, jobs_of}
use Rattle.rt_sim.specs.Inside.CouplingInvariant.{CouplingInvariant}
use Rattle.rt_sim.specs.Inside.PartInvariant.{who, AreOfKind, PartInvariant}
use Rattle.rt_sim.specs.Inside.States.{contexts, core_of, state_of}
use Rattle.rt_sim.proofs.Acts.{pending_invariant}
use Rattle.rt_sim.proofs.Alarms.{ticks}
use Rattle.rt_sim.proofs.Armed.{armings_shown, arming_in}
use Rattle.rt_sim.proofs.Unspent.{rings}
use Rattle.rt_native_runs.proofs.Bases.{base_under, bases_of, bases_are}

pub contexts_long : (bits : ℕ) (ps : List Part) (irq value : ℕ) → length (contexts bits irq value ps) ≡ length ps
contexts_long bits [] irq value = refl
contexts_long bits (q ∷ ps) irq value =
    ap suc (contexts_long bits ps (handled_irq q.role) (hardware bits q.priority))

module _ (app : App) where
  bases_drop : (jobs : List Job) → bases_of app (drop 1 jobs) ≡ drop 1 (bases_of app jobs)
  bases_drop [] = refl
  bases_drop (job ∷ jobs) = refl

  -- how a label changes the stack of jobs, by how long it is then
  module _ (s : State) (v : Observer) (label : Label) (t : State) (u : Observer) (h : Happens app s v label t u) where
    pub tail_stays : length t.jobs ≡ length s.jobs → drop 1 t.jobs ≡ drop 1 s.jobs
    tail_stays same = by h
      where
        by : Happens app s v label t u → drop 1 t.jobs ≡ drop 1 s.jobs
        by (Quietly good jobs views none take return) = ap (drop 1) jobs
        by (ByTake irq depth job is good jobs views role priority best) =
            absurd (let long = ap length jobs in omega (arith, long, same))
        by (ByStep shown one stepper take return) = moved one.led.moves
          where
            moved : Changes app one.job one.seen one.others one.seens shown t.jobs u.jobs
                → drop 1 t.jobs ≡ drop 1 s.jobs
            moved (GoesOn later seen jobs views role priority nearer) =
                ap (drop 1) jobs ∙ sym (ap (drop 1) one.jobs_are)
            moved (Restarts later seen jobs views thread empty) = ap (drop 1) jobs ∙ sym (ap (drop 1) one.jobs_are)
            moved (ComesBack irq jobs views role given) =
                absurd (let long = ap length jobs in let before = ap length one.jobs_are in
                omega (arith, long, before, same))

    pub tail_falls : suc (length t.jobs) ≡ length s.jobs → t.jobs ≡ drop 1 s.jobs
    tail_falls fewer = by h
      where
        by : Happens app s v label t u → t.jobs ≡ drop 1 s.jobs
        by (Quietly good jobs views none take return) =
            absurd (let long = ap length jobs in omega (arith, long, fewer))
        by (ByTake irq depth job is good jobs views role priority best) =
            absurd (let long = ap length jobs in omega (arith, long, fewer))
        by (ByStep shown one stepper take return) = moved one.led.moves
          where
            moved : Changes app one.job one.seen one.others one.seens shown t.jobs u.jobs → t.jobs ≡ drop 1 s.jobs
            moved (GoesOn later seen jobs views role priority nearer) =
                absurd (let long = ap length jobs in let before = ap length one.jobs_are in
                omega (arith, long, before, fewer))
            moved (Restarts later seen jobs views thread empty) =
                absurd (let long = ap length jobs in let before = ap length one.jobs_are in
                omega (arith, long, before, fewer))
            moved (ComesBack irq jobs views role given) = jobs ∙ sym (ap (drop 1) one.jobs_are)

module _ (app : App) (img : Image) (accepted : IsAccepted app) (is_image : IsImageOf app img) where
  pub record Coupled (s : State) (n : ℕ) (bases : List ℕ) (c : Core) : Type 0 where
    pub coupling : Coupling
    pub seen : Observer
    pub is : c ≡ core_of app.bits coupling
    pub state : s ≡ state_of coupling
    pub invariant : CouplingInvariant app img is_image.at.idle coupling
    pub well : StateWell app (state_of coupling) seen
    pub few : coupling.time + armings coupling.values ≤ n
    pub left : bases ≡ bases_of app (map job_of coupling.below)

  -- the kinds of all open sections
  pub all_kinds : (m : Coupling) → CouplingInvariant app img is_image.at.idle m
      → AllByRecursion (λ q. AreOfKind app img is_image.at.idle (who q) q.held) (m.running ∷ m.below)
  all_kinds m invariant =
      all_weaker (PartInvariant app img is_image.at.idle m.cells m.queues m.values)
      (λ q. AreOfKind app img is_image.at.idle (who q) q.held) (λ q f. f.kinds) (m.running ∷ m.below) invariant.parts

  -- BASEPRI is as the jobs have left it
  pub base_is : (m : Coupling) → CouplingInvariant app img is_image.at.idle m
      → m.basepri ≡ base_under app (jobs_of m.running m.below)
  base_is m invariant =
      invariant.basepri
      ∙ bases_are app img is_image.at.idle accepted.limits.least_bits accepted.limits.most_bits
      (m.running ∷ m.below) (all_kinds m invariant)

  -- a request comes
  pub coupled_arrive : (s : State) (n : ℕ) (bases : List ℕ) (c : Core) (irq : ℕ) → is_declared app irq ≡ true
      → Coupled s n bases c → Coupled (after app s (Arrived irq)) n bases (core_after_pend c irq)
  coupled_arrive s n bases c irq declared x =
      let m : Coupling = x.coupling in record {
        coupling = record m { pending = slice_set m.pending irq true };
        seen = sees app x.seen (Arrived irq);
        is = ap (λ d. core_after_pend d irq) x.is;
        state = ap (λ t. after app t (Arrived irq)) x.state;
        invariant = pending_invariant app img is_image.at.idle m (slice_set m.pending irq true)
            (length-set m.pending irq true) x.invariant;
        well = next_well app accepted (state_of m) x.seen (Arrived irq) x.well (refl, declared);
        few = x.few;
        left = x.left;
      }

  -- a tick does
  pub record TicksCoupled (s : State) (n : ℕ) (bases : List ℕ) (c : Core) : Type 0 where
    pub runs : RunsOn app s (Ticked ∷ (tick c).1)
    pub behind : Coupled (after_all app s (Ticked ∷ (tick c).1)) (suc n) bases (tick c).0

  pub coupled_tick : (s : State) (n : ℕ) (bases : List ℕ) (c : Core) → Coupled s n bases c → TicksCoupled s n bases c
  coupled_tick s n bases c x =
      let m : Coupling = x.coupling in
      let one = ticks app img is_image.at.idle m x.invariant in
      let t : State = after app (state_of m) Ticked in
      let ticked : StateWell app t (sees app x.seen Ticked) =
      next_well app accepted (state_of m) x.seen Ticked x.well refl in
      let rung : StateWell app (after_all app t one.shown) (sees_all app (sees app x.seen Ticked) one.shown) =
      subst (λ u. StateWell app u (sees_all app (sees app x.seen Ticked) one.shown)) (after_ones app one.shown t)
      (subst (λ ls. StateWell app (after_moves app t (ones one.shown))
      (sees_all app (sees app x.seen Ticked) ls)) (things_ones one.shown)
      (well_after app accepted (ones one.shown) t (sees app x.seen Ticked) ticked
      (runs_ones app one.shown t one.runs))) in
      let shown : ((tick (core_of app.bits m)).1 ≡ []) ⊎ ((tick (core_of app.bits m)).1 ≡ Rang ∷ []) =
      rings (record (core_of app.bits m) { time = suc m.time }) m.alarm in
      let given : (tick (core_of app.bits m)).1 ≡ one.shown =
      ap (λ (r : Core × List Label). r.1) one.is in
      let jobs : (after_all app t one.shown).jobs ≡ (state_of m).jobs = elim shown [
        | inl none ↦ ap (λ ls. (after_all app t ls).jobs) (sym given ∙ none)
        | inr rang ↦ ap (λ ls. (after_all app t ls).jobs) (sym given ∙ rang)
      ] in
      let tail : map job_of one.coupling.below ≡ map job_of m.below =
      ap (λ (u : State). drop 1 u.jobs) (sym one.state) ∙ ap (drop 1) jobs in
      let labels : (tick c).1 ≡ one.shown = ap (λ (d : Core). (tick d).1) x.is ∙ given in
      record {
        runs = subst (λ u. RunsOn app u (Ticked ∷ (tick c).1)) (sym x.state)
            (refl, subst (RunsOn app t) (sym labels) one.runs);
        behind = record {
          coupling = one.coupling;
          seen = sees_all app (sees app x.seen Ticked) one.shown;
          is = ap (λ (d : Core). (tick d).0) x.is ∙ ap (λ (r : Core × List Label). r.0) one.is;
          state = ap (λ u. after_all app u (Ticked ∷ (tick c).1)) x.state ∙ ap (after_all app t) labels ∙ one.state;
          invariant = one.invariant;
          well = subst (λ u. StateWell app u (sees_all app (sees app x.seen Ticked) one.shown)) one.state rung;
          few = let values = ap armings one.values in omega (arith, one.time, values, x.few);
          left = x.left ∙ ap (bases_of app) (sym tail);
        };
      }

  -- a step does, to a coupling of which the invariant holds and whose state is that after what was shown
  module _ (s : State) (n : ℕ) (bases : List ℕ) (c : Core) (x : Coupled s n bases c) (core : Core)
      (shown : Option What) (is : step img (core_of app.bits x.coupling) ≡ (core, shown))
      (may : May app (state_of x.coupling) (Stepped shown)) (m : Coupling)
      (invariant : CouplingInvariant app img is_image.at.idle m)
      (state : after app (state_of x.coupling) (Stepped shown) ≡ state_of m)
      (timed : m.time ≡ x.coupling.time) where
    pub happened : Happens app (state_of x.coupling) x.seen (Stepped shown)
        (after app (state_of x.coupling) (Stepped shown)) (sees app x.seen (Stepped shown))
    happened = happens app accepted (state_of x.coupling) x.seen x.well (Stepped shown) may

    shown_is : (step img c).1 ≡ shown
    shown_is = ap (λ (e : Core). (step img e).1) x.is ∙ ap (λ (r : Core × Option What). r.1) is

    jobs_are : (after app (state_of x.coupling) (Stepped shown)).jobs ≡ jobs_of m.running m.below
    jobs_are = ap (λ (t : State). t.jobs) state

    longer : (after app (state_of x.coupling) (Stepped shown)).jobs ≡ jobs_of m.running m.below
        → length (after app (state_of x.coupling) (Stepped shown)).jobs ≡ suc (length m.below)
    longer jobs = ap length jobs ∙ ap suc (length-map m.below job_of)

    before_long : length (state_of x.coupling).jobs ≡ suc (length x.coupling.below)
    before_long = ap suc (length-map x.coupling.below job_of)

    pub coupled_behind : (d : Core) → d ≡ core_of app.bits m → (others : List ℕ)
        → others ≡ bases_of app (map job_of m.below)
        → Coupled (after app s (Stepped (step img c).1)) (n + arming_in (step img c).1) others d
    coupled_behind d core_is others left = record {
      coupling = m;
      seen = sees app x.seen (Stepped shown);
      is = core_is;
      state = ap (λ t. after app t (Stepped (step img c).1)) x.state
          ∙ ap (λ o. after app (state_of x.coupling) (Stepped o)) shown_is ∙ state;
      invariant = invariant;
      well = subst (λ t. StateWell app t (sees app x.seen (Stepped shown))) state
          (next_well app accepted (state_of x.coupling) x.seen (Stepped shown) x.well may);
      few = let given : arming_in (step img c).1 ≡ arming_in shown = ap arming_in shown_is in
          let more = armings_shown app accepted (state_of x.coupling) x.seen x.well (Stepped shown) may in
          let values = ap (λ (t : State). armings t.values) state in
          omega (arith, given, more, values, timed, x.few);
      left = left;
    }

    -- whose contexts are as many, one more or one less
    pub left_stays : length m.below ≡ length x.coupling.below → bases ≡ bases_of app (map job_of m.below)
    left_stays same =
        x.left ∙ ap (bases_of app)
        (sym (ap (drop 1) (sym jobs_are) ∙ tail_stays app (state_of x.coupling) x.seen (Stepped shown)
        (after app (state_of x.coupling) (Stepped shown)) (sees app x.seen (Stepped shown)) happened
        (longer jobs_are ∙ ap suc same ∙ sym before_long)))

    pub left_falls : suc (length m.below) ≡ length x.coupling.below
        → drop 1 bases ≡ bases_of app (map job_of m.below)
    left_falls fewer =
        ap (drop 1) x.left ∙ sym (bases_drop app (map job_of x.coupling.below))
        ∙ ap (λ js. bases_of app (drop 1 js))
        (sym (sym jobs_are ∙ tail_falls app (state_of x.coupling) x.seen (Stepped shown)
        (after app (state_of x.coupling) (Stepped shown)) (sees app x.seen (Stepped shown)) happened
        (let now = longer jobs_are in omega (arith, now, fewer, before_long))))
