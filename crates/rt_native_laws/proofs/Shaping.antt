-- What an instruction leaves of the core: the contexts, how many cells and requests there are, and that no trap came.
use Rattle.std.proofs.Common.{◌≡◌, ◌⊎◌, inl, inr, ℕ, Bool, true, false, not, List, Option, Some, None, refl, length}
use Rattle.std.proofs.lemmas.List.{length-set}
use Rattle.std.specs.Prelude.{if◌then◌else◌, ◌==◌, nat_le, slice_get, slice_index_or, ⊤}
use Rattle.rt_code.specs.Access.{cells_of}
use Rattle.rt_code.specs.Effect as model
use Rattle.rt_code.specs.Image.{Image}
use Rattle.rt_code.specs.Operands.{are_there, slots_of}
use Rattle.rt_code.specs.Processor.{Effect, Leads, Processor, Traps}
use Rattle.rt_code.specs.declared.image.BodyRow.{BodyRow}
use Rattle.rt_code.specs.declared.instr.Instr.{Instr}
use Rattle.rt_code.specs.declared.instr.Instr.TheVariants as instr
use Rattle.rt_code.specs.declared.processor.Request.TheVariants as request
use Rattle.rt_code.specs.declared.processor.Trap.TheVariants as trap
use Rattle.rt_core.specs.Core.{Core}
use Rattle.rt_core.specs.Outcome.{Done, Outcome, Trapped}
use Rattle.rt_core.specs.Stepping.{go_on}
use Rattle.rt_core.specs.Transfer.{back_to, call_fits, call_row, core_after_call, may_call}
use Rattle.rt_trace.specs.Label.{Stepped}
use Rattle.rt_trace.specs.declared.item.What.{What}
use Rattle.rt_native_laws.specs.Alike.{SetsNoAlarm}
use Rattle.rt_native_laws.specs.Doing.{UnlessTrapped, outcome, seen_of}
use Rattle.rt_native_laws.specs.Going.{StepsBy}
use Rattle.rt_native_laws.specs.Simulating.{seen_of_label}
use Rattle.rt_native_laws.proofs.Arriving.{still_there}
use Rattle.rt_native_laws.proofs.Items.{IsShownAsSaid, step_is_shown}
use Rattle.rt_native_laws.proofs.Stepping.{after_step}

pub record KeepsShape (i : Instr) (c d : Core) : Type 0 where
  pub below : d.below ≡ c.below
  pub cells : length d.processor.cells ≡ length c.processor.cells
  pub requests : length d.pending ≡ length c.pending
  pub stopped : d.stopped ≡ c.stopped
  pub time : d.time ≡ c.time
  pub alarm : (d.alarm ≡ c.alarm) ⊎ (d.alarm ≡ None)
  pub untouched : SetsNoAlarm (Some i) → d.alarm ≡ c.alarm
  pub asked : (irq : ℕ) → slice_index_or c.pending irq false ≡ true → slice_index_or d.pending irq false ≡ true

-- all but `ret`, and `alarm`
abbrev pub StaysInContext : Instr → Type 0
StaysInContext (instr.Alarm slot irq) = ⊥
StaysInContext instr.Ret = ⊥
StaysInContext i = ⊤

module _ (img : Image) (c : Core) where
  abbrev Shaped : Instr → Core → Option What → Type 0
  Shaped i d said = KeepsShape i c d × IsShownAsSaid said

  abbrev Outcomes : Instr → Effect → Type 0
  Outcomes i x = UnlessTrapped (go_on img c None x) (Shaped i)

  same : (i : Instr) (q : Processor) → length q.cells ≡ length c.processor.cells
      → KeepsShape i c (record c { processor = q })
  same i q long = record {
    below = refl;
    cells = long;
    requests = refl;
    stopped = refl;
    time = refl;
    alarm = inl refl;
    untouched = λ h. refl;
    asked = λ irq e. e;
  }

  tested : (i : Instr) (a b : Bool) (x : Effect) → Outcomes i x
      → Outcomes i (if a then Traps trap.Address else if b then Traps trap.Stack else x)
  tested i true b x h = tt
  tested i false true x h = tt
  tested i false false x h = h

  unmasked : (i : Instr) (b : Bool) (q : Processor) → Outcomes i (Leads q request.Nothing)
      → Outcomes i (if b then Leads q request.Nothing else Traps trap.Stack)
  unmasked i true q h = h
  unmasked i false q h = tt

  jumped : (b : Bool) (q r : Processor) → length q.cells ≡ length c.processor.cells
      → length r.cells ≡ length c.processor.cells → length (if b then q else r).cells ≡ length c.processor.cells
  jumped true q r h k = h
  jumped false q r h k = k

  comes_back : (i : Instr) (o : Option (List ℕ)) → UnlessTrapped (back_to c o) (Shaped i)
  comes_back i None = tt
  comes_back i (Some slots) = (
    record {
      below = refl;
      cells = refl;
      requests = refl;
      stopped = refl;
      time = refl;
      alarm = inl refl;
      untouched = λ h. refl;
      asked = λ irq e. e;
    },
    refl,
  )

  by_fits : (i : Instr) (b : Bool) (row : BodyRow) (from : ℕ)
      → UnlessTrapped (if b then Done (core_after_call c row from) None else Trapped c trap.Stack) (Shaped i)
  by_fits i true row from = (
    record {
      below = refl;
      cells = refl;
      requests = refl;
      stopped = refl;
      time = refl;
      alarm = inl refl;
      untouched = λ h. refl;
      asked = λ irq e. e;
    },
    refl,
  )
  by_fits i false row from = tt

  by_row : (i : Instr) (o : Option BodyRow) (from : ℕ) → UnlessTrapped (call_row img c o from) (Shaped i)
  by_row i None from = tt
  by_row i (Some row) from = by_fits i (call_fits img c row from) row from

  by_may : (i : Instr) (b : Bool) (o : Option BodyRow) (from : ℕ)
      → UnlessTrapped (if b then call_row img c o from else Trapped c trap.Stack) (Shaped i)
  by_may i true o from = by_row i o from
  by_may i false o from = tt

  by_kind : (i : Instr) → StaysInContext i → Outcomes i (model.unchecked_effect i c.time c.processor)
  by_kind (instr.Store k s) h = (same (instr.Store k s) _ (length-set c.processor.cells k _), refl)
  by_kind (instr.StoreAt k s a) h = (same (instr.StoreAt k s a) _ (length-set c.processor.cells _ _), refl)
  by_kind (instr.JumpZ s l) h =
      (same (instr.JumpZ s l) _ (jumped (model.slot c.processor s == 0) _ _ refl refl), refl)
  by_kind (instr.Post irq) h = (
    record {
      below = refl;
      cells = refl;
      requests = length-set c.pending irq true;
      stopped = refl;
      time = refl;
      alarm = inl refl;
      untouched = λ h. refl;
      asked = still_there c.pending irq;
    },
    refl,
  )
  by_kind (instr.Alarm s irq) h = absurd h
  by_kind instr.NoAlarm h = (
    record {
      below = refl;
      cells = refl;
      requests = refl;
      stopped = refl;
      time = refl;
      alarm = inr refl;
      untouched = λ h. absurd h;
      asked = λ irq e. e;
    },
    refl,
  )
  by_kind (instr.Unmask s) h =
      unmasked (instr.Unmask s) (nat_le (model.slot c.processor s) 1) _ (same (instr.Unmask s) _ refl, refl)
  by_kind (instr.Call row from) h = by_may (instr.Call row from) (may_call c) (slice_get img.bodies row) from
  by_kind instr.Back h = comes_back instr.Back c.caller
  by_kind instr.Ret h = absurd h
  by_kind i h = (same i _ refl, refl)

  pub outcome_is_shaped : (i : Instr) → StaysInContext i → UnlessTrapped (outcome img i c) (Shaped i)
  outcome_is_shaped i stays =
      tested i (not (are_there (cells_of i c.processor) c.processor.cells))
      (not (are_there (slots_of i) c.processor.slots)) (model.unchecked_effect i c.time c.processor) (by_kind i stays)

weaker : (o : Outcome) (H K : Core → Option What → Type 0) → ((k : Core) (w : Option What) → H k w → K k w)
    → UnlessTrapped o H → UnlessTrapped o K
weaker (Trapped c t) H K f h = tt
weaker (Done c w) H K f h = f c w h

pub step_keeps_shape : (img : Image) (i : Instr) (c d : Core) (said : Option What) → StaysInContext i
    → StepsBy img i c d said → KeepsShape i c d
step_keeps_shape img i c d said stays st =
    (after_step img i c d said st (λ k own. KeepsShape i c k × IsShownAsSaid own) (outcome_is_shaped img c i stays)).0

pub step_shows : (img : Image) (i : Instr) (c d : Core) (said : Option What) → StaysInContext i
    → StepsBy img i c d said → seen_of_label (Stepped said) ≡ seen_of said
step_shows img i c d said stays st =
    step_is_shown img i c d said st
    (weaker (outcome img i c) (λ k w. KeepsShape i c k × IsShownAsSaid w) (λ k w. IsShownAsSaid w) (λ k w h. h.1)
    (outcome_is_shaped img c i stays))
