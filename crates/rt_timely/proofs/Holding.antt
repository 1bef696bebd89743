-- Of the jobs of a lower priority than that of an interrupt, the one that was taken last: it is free, as the interrupt
-- may be taken where it runs; or it is held in the section that holds the interrupt off.
use Rattle.std.proofs.Common.{◌≡◌, ℕ, zero, suc, ◌<◌, ◌≤◌, ◌⊎◌, inl, inr, List, [], ◌∷◌, slice_get, Option}
use Rattle.std.proofs.Common.{Some, None, refl, sym, ap, subst, ⊎_elim, ◌∙◌, arith}
use Rattle.std.proofs.lemmas.Bool.{cases_lt}
use Rattle.std.proofs.lemmas.Option.{none-some, same_Some}
use Rattle.rt_ids.specs.Choice.{IsIn}
use Rattle.rt_code.specs.Image.{Image}
use Rattle.rt_code.specs.declared.instr.Note.TheVariants as note
use Rattle.rt_points.specs.ExecutionPriority.{owner_value, execution_priority}
use Rattle.rt_points.specs.Leading.{inside_after, kind_of}
use Rattle.rt_points.specs.Point.{Point}
use Rattle.rt_points.specs.declared.point.Opened.{Opened}
use Rattle.rt_bounds.specs.Bounds.{IsWait, HoldsOff as HoldsOffAt, depth_inside}
use Rattle.rt_bounds.specs.CountedWays.{FreshWay, Left}
use Rattle.rt_bounds.specs.declared.longest.Longest.{Longest}
use Rattle.rt_bounds.specs.declared.longest.Longest.TheVariants.{Steps, Loop}
use Rattle.rt_timely.specs.InTime.{IsNoMore}
use Rattle.rt_timely.specs.Waiting.{StayHoldsOff}
use Rattle.rt_timely.specs.Watching.{Stay, SeenJob}
use Rattle.rt_timely.proofs.Came.{came_way}
use Rattle.rt_timely.proofs.Tied.{IsStay, AreStays, IsJobAt, AreJobsAt}

-- a wait is told, and these steps are within it
abbrev pub AreWithin : Option Longest → ℕ → Type 0
AreWithin None steps = ⊥
AreWithin (Some longest) steps = IsNoMore longest steps

-- a job is in the stay of this step that holds a value off, by so many steps
pub record IsStaying (value since steps : ℕ) (job : SeenJob) : Type 0 where
  pub stay : Stay
  pub among : IsIn job.inside stay
  pub began : stay.since ≡ since
  pub long : stay.steps ≡ steps
  pub holds : StayHoldsOff value stay

module _ (img : Image) (value : ℕ) where
  -- the first lower job of these is not held off
  abbrev pub IsFree : List Point → Type 0
  IsFree [] = Unit {0}
  IsFree (p ∷ ps) =
      ((owner_value img p.owner ≤ value) × IsFree ps) ⊎ (value < execution_priority img p.owner p.inside)

  -- the first lower job of these is in a stay that holds the value off
  abbrev pub IsHeld : ℕ → ℕ → List SeenJob → List Point → Type 0
  IsHeld since steps (job ∷ jobs) (p ∷ ps) =
      ((owner_value img p.owner ≤ value) × IsHeld since steps jobs ps)
      ⊎ ((value < owner_value img p.owner) × IsStaying value since steps job)
  IsHeld since steps jobs ps = ⊥

  -- a stay among those of a job, with its open section
  pub record IsAmong (now : Left) (p : Point) (stay : Stay) : Type 0 where
    pub o : Opened
    pub outer : List Opened
    pub is : IsStay img now p stay o outer

  pub stay_at : (now : Left) (p : Point) (stays : List Stay) (opened : List Opened) (i : ℕ) (stay : Stay)
      → AreStays img now p stays opened → slice_get stays i ≡ Some stay → IsAmong now p stay
  stay_at now p [] opened i stay are at = absurd (none-some stay at)
  stay_at now p (s ∷ stays) [] i stay are at = absurd are
  stay_at now p (s ∷ stays) (o ∷ outer) zero stay are at =
      record { o = o; outer = outer; is = subst (λ t. IsStay img now p t o outer) (same_Some s stay at) are.0 }
  stay_at now p (s ∷ stays) (o ∷ outer) (suc i) stay are at = stay_at now p stays outer i stay are.1 at

  -- the section of a stay that holds the value off does so where it was entered
  held_at : (now : Left) (p : Point) (stay : Stay) (o : Opened) (outer : List Opened)
      → (is : IsStay img now p stay o outer)
      → StayHoldsOff value stay → HoldsOffAt img value is.entry
  held_at now p stay o outer is holds =
      let before : stay.outside ≡ execution_priority img is.entry.owner is.entry.inside =
      is.outside ∙ ap (λ who. execution_priority img who outer) is.owner
      ∙ ap (execution_priority img is.entry.owner) (sym is.around) in
      let behind : stay.within
      ≡ execution_priority img is.entry.owner (inside_after is.instr (Some (note.Enter stay.section)) is.entry.inside) =
      is.within ∙ ap (λ who. execution_priority img who (o ∷ outer)) is.owner
      ∙ ap (λ (one : Opened). execution_priority img is.entry.owner (one ∷ outer)) is.opened
      ∙ ap (λ (rest : List Opened). execution_priority img is.entry.owner
      (record { section = stay.section; kind = kind_of is.instr } ∷ rest)) (sym is.around) in
      record {
        instr = is.instr;
        section = stay.section;
        enters = is.enters;
        outside = omega (arith, before, holds.0);
        inside = omega (arith, behind, holds.1);
      }

  -- a way from where it was entered is within what is told of the wait
  wait_within : (longest : Option Longest) (entry : Point) (n : ℕ) → IsWait img value longest
      → HoldsOffAt img value entry → FreshWay img (depth_inside entry) entry n → AreWithin longest n
  wait_within None entry n none holds way = none entry holds
  wait_within (Some (Steps most)) entry n bound holds way = bound.most entry n holds way
  wait_within (Some (Loop address)) entry n bound holds way = tt

  pub staying_within : (longest : Option Longest) → IsWait img value longest → (since steps : ℕ) (job : SeenJob)
      (p : Point) → IsJobAt img job p → IsStaying value since steps job → AreWithin longest (suc steps)
  staying_within longest wait since steps job p at staying =
      let among = stay_at at.now p job.inside p.inside staying.among.0 staying.stay at.stays staying.among.1 in
      let is = among.is in
      subst (λ n. AreWithin longest (suc n)) staying.long
      (wait_within longest is.entry (suc staying.stay.steps) wait
      (held_at at.now p staying.stay among.o among.outer is staying.holds)
      (came_way img (depth_inside is.entry) is.from is.entry staying.stay.steps at.now p is.few is.came))

  staying_some : (since steps : ℕ) (job : SeenJob) (p : Point) → IsJobAt img job p → IsStaying value since steps job
      → 0 < steps
  staying_some since steps job p at staying =
      let among = stay_at at.now p job.inside p.inside staying.among.0 staying.stay at.stays staying.among.1 in
      let some = among.is.some in
      let long = staying.long in
      omega (arith, some, long)

  pub held_within : (longest : Option Longest) → IsWait img value longest → (since steps : ℕ) (jobs : List SeenJob)
      (ps : List Point) → AreJobsAt img jobs ps → IsHeld since steps jobs ps
      → AreWithin longest (suc steps) × (0 < steps)
  held_within longest wait since steps [] ps at held = absurd held
  held_within longest wait since steps (job ∷ jobs) [] at held = absurd held
  held_within longest wait since steps (job ∷ jobs) (p ∷ ps) at held =
      ⊎_elim (λ higher. held_within longest wait since steps jobs ps at.1 higher.1)
      (λ staying. (
        staying_within longest wait since steps job p at.0 staying.1,
        staying_some since steps job p at.0 staying.1,
      ))
      held

  -- where the open sections of a lower job hold the value off, one of them does
  holder : (now : Left) (p : Point) (stays : List Stay) (opened : List Opened) → AreStays img now p stays opened
      → value < owner_value img p.owner → execution_priority img p.owner opened ≤ value
      → (stay : Stay) × IsIn stays stay × StayHoldsOff value stay
  holder now p [] [] are less most = absurd (omega (arith, less, most))
  holder now p [] (o ∷ outer) are less most = absurd are
  holder now p (stay ∷ stays) [] are less most = absurd are
  holder now p (stay ∷ stays) (o ∷ outer) are less most =
      ⊎_elim
      (λ above. let before = are.0.outside in let behind = are.0.within in
      (stay, (zero, refl), (omega (arith, above, before), omega (arith, most, behind))))
      (λ off. let found = holder now p stays outer are.1 less off in
      (found.0, (suc found.1.0, found.1.1), found.2))
      (cases_lt value (execution_priority img p.owner outer))

  -- a moment: the first lower job is free, or held
  abbrev pub IsEither : List SeenJob → List Point → Type 0
  IsEither jobs ps = IsFree ps ⊎ ((since : ℕ) × (steps : ℕ) × IsHeld since steps jobs ps)

  pub either : (jobs : List SeenJob) (ps : List Point) → AreJobsAt img jobs ps → IsEither jobs ps
  either [] [] at = inl tt
  either [] (p ∷ ps) at = absurd at
  either (job ∷ jobs) [] at = absurd at
  either (job ∷ jobs) (p ∷ ps) at =
      ⊎_elim
      (λ low. ⊎_elim (λ above. inl (inr above))
      (λ off.
      let found = holder at.0.now p job.inside p.inside at.0.stays low off in
      inr (
        found.0.since,
        found.0.steps,
        inr (
          low,
          record {
            stay = found.0;
            among = found.1;
            began = refl;
            long = refl;
            holds = found.2;
          },
        ),
      ))
      (cases_lt value (execution_priority img p.owner p.inside)))
      (λ high. ⊎_elim (λ free. inl (inl (high, free)))
      (λ held. inr (held.0, held.1, inl (high, held.2))) (either jobs ps at.1))
      (cases_lt value (owner_value img p.owner))
