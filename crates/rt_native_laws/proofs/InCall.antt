-- A job calls its function of C, one machine instruction after the other.
use Rattle.std.proofs.Common.{◌≡◌, ◌≢◌, ◌∙◌, ℕ, ◌+◌, ◌-◌, ◌*◌, ◌/◌, ◌^◌, ◌<◌, ◌≤◌}
use Rattle.std.proofs.Common.{List, Option, Some, sym, refl, ap, subst, arith, length, ⊎_elim}
use Rattle.std.specs.List.{filter}
use Rattle.std.specs.Prelude.{if◌then◌else◌, ◌==◌, slice_index}
use Rattle.rt_code.specs.Image.{Image}
use Rattle.rt_code.specs.Stack.{words_of}
use Rattle.rt_core.specs.Core.{Core}
use Rattle.rt_ids.specs.Operation.{wrapped_number as word}
use Rattle.rt_native.specs.Service.{call_offset, keep_return, stub, take_return}
use Rattle.rt_native.specs.declared.outside.Outside.{Outside}
use Rattle.rt_native.specs.declared.target.Region.{Region}
use Rattle.rt_thumb.specs.Exceptions.{external}
use Rattle.rt_thumb.specs.Machine.{Machine, word_at}
use Rattle.rt_thumb.specs.Step.{Program}
use Rattle.rt_thumb.specs.declared.instruction.Instruction.{Instruction}
use Rattle.rt_thumb.specs.declared.instruction.Instruction.TheVariants as instruction
use Rattle.rt_native_laws.specs.Functions.{FlashIsApart, IsOurs, LeavesOurs, OfCells, OfFlash, OfStack, OfSystem}
use Rattle.rt_native_laws.specs.Functions.{OfTime}
use Rattle.rt_native_laws.specs.Going.{HasCode}
use Rattle.rt_native_laws.specs.InCall.{PreservesRegisters, displacement_to, AtBranch, AtFall, AtKeep, AtRise, AtTake}
use Rattle.rt_native_laws.specs.InCall.{IsInCall, IsOwnCode, CallStage, IsAtStage, Within, keeper}
use Rattle.rt_native_laws.specs.Laws.{IsNoReturn}
use Rattle.rt_native_laws.specs.Own.{Executes, Spans}
use Rattle.rt_native_laws.specs.Standing.{HoldsWords, Shows}
use Rattle.rt_native_laws.specs.GoingInCall.{CallGoes, CallGoesOn, CallIsNoFault, GoesOnIn, LeadsOnFrom}
use Rattle.rt_native_laws.proofs.Accesses.{caller_length}
use Rattle.rt_native_laws.proofs.CallKept.{made}
use Rattle.rt_native_laws.proofs.Faultless.{HasNext}
use Rattle.rt_native_laws.proofs.Frames.{shifted}
use Rattle.rt_native_laws.proofs.Functions.{offset}
use Rattle.rt_native_laws.proofs.Inputs.{among, begins, parts_of_stub}
use Rattle.rt_native_laws.proofs.Jumps.{leap_leads}
use Rattle.rt_native_laws.proofs.Keeping.{written as memory_with}
use Rattle.rt_native_laws.proofs.Pieces.{IsMemory, loading_is, moved, other, same, storing_is}
use Rattle.rt_native_laws.proofs.Prefixes.{same_next}
use Rattle.rt_native_laws.proofs.Steady.{words_after}
use Rattle.rt_native_laws.proofs.Unopened.{IsUnopened}

fall_is_no_call : (d : ℕ) → Some (instruction.SubtractStack 8) ≡ Some (instruction.Call d) → ⊥
fall_is_no_call d e = cc

keep_is_no_call : (d : ℕ) → Some (instruction.StoreWide 14 13 0) ≡ Some (instruction.Call d) → ⊥
keep_is_no_call d e = cc

take_is_no_call : (d : ℕ) → Some (instruction.LoadWide 14 13 0) ≡ Some (instruction.Call d) → ⊥
take_is_no_call d e = cc

rise_is_no_call : (d : ℕ) → Some (instruction.AddStack 8) ≡ Some (instruction.Call d) → ⊥
rise_is_no_call d e = cc

module _ (at : Outside) (bottom : ℕ) (img : Image) (places : List ℕ) (p : Program) (c : Core) (top : ℕ) (m : Machine)
    (x : IsInCall at bottom img places p c top m) where
  abbrev link : ℕ
  link = x.registers 14

  -- what is true of a job at a stage
  abbrev There : Machine → Machine → CallStage → Type 0
  There called n stage = IsAtStage x.begins top link x.room called n stage

  -- where EXC_RETURN is kept
  abbrev kept_at : ℕ
  kept_at = top - 8

  kept_in_memory : p.port ≡ at.port → IsMemory p.port kept_at
  kept_in_memory port = record {
    aligned = omega (arith, x.eights, x.for_function);
    no_port = λ e.
        ⊎_elim (λ (y : at.port < bottom). omega (arith, y, e, port, x.for_function))
        (λ (y : at.time + 8 ≤ at.port). omega (arith, y, e, port, x.below_cells, x.laid.time, x.for_function))
        x.laid.port_apart;
    below = omega (arith, x.below_cells, x.laid.time, x.laid.in_memory);
  }

  -- memory above the frames, masks and requests are as they were: the core is shown as before
  shows_still : (n : Machine) → n.base_priority ≡ m.base_priority → n.is_masked ≡ m.is_masked
      → ((k : ℕ) → top ≤ 4 * k → 4 * k < at.time + 8 → n.memory k ≡ m.memory k)
      → ((e : ℕ) → n.is_pending e ≡ m.is_pending e) → Shows at c n
  shows_still n base masked memory requests = record {
    base_priority = base ∙ x.shows.base_priority;
    is_masked = masked ∙ x.shows.is_masked;
    cells = λ k l.
        memory ((at.cells + 4 * k) / 4) (omega (arith, x.laid.aligned, x.below_cells))
        (omega (arith, l, x.laid.aligned, x.laid.time)) ∙ x.shows.cells k l;
    time = memory (at.time / 4) (omega (arith, x.laid.aligned, x.below_cells, x.laid.time)) (omega arith)
        ∙ x.shows.time;
    alarm = memory ((at.time + 4) / 4) (omega (arith, x.laid.aligned, x.below_cells, x.laid.time)) (omega arith)
        ∙ x.shows.alarm;
    pending = λ k l. requests (external k) ∙ x.shows.pending k l;
  }

  -- where an instruction of the call lies
  lies_at : (a b : ℕ) (i : Instruction) → a ≡ b → p.code b ≡ Some i → p.code a ≡ Some i
  lies_at a b i e found = ap p.code e ∙ found

  -- the state behind each instruction of the call
  abbrev fallen : Machine
  fallen = shifted m (λ k. if k == 13 then word (m.register 13 + (2 ^ 32 - 8)) else m.register k) (m.address + 2)

  abbrev stored : Machine
  stored = record m { memory = memory_with m.memory kept_at (m.register 14); address = m.address + 4 }

  abbrev branched : Machine
  branched = record m {
    register = λ k. if k == 14 then m.address + 4 + 1 else m.register k;
    address = word (m.address + 4 + displacement_to x.begins x.function);
  }

  abbrev loaded : Machine
  loaded = moved m (λ k. if k == 14 then word_at m kept_at else m.register k) m.flags (m.address + 4)

  abbrev risen : Machine
  risen = shifted m (λ k. if k == 13 then word (m.register 13 + 8) else m.register k) (m.address + 2)

  falls : There x.called m AtFall → Executes p (instruction.SubtractStack 8) m fallen
  unfolding keep_return
  falls t = record {
    found = lies_at m.address x.begins (instruction.SubtractStack 8) t.0 x.code.0;
    does = refl;
  }

  stores : p.port ≡ at.port → There x.called m AtKeep → Executes p (instruction.StoreWide 14 13 0) m stored
  unfolding keep_return
  stores port t = record {
    found = lies_at m.address (x.begins + 2) (instruction.StoreWide 14 13 0) t.0 x.code.1.0;
    does = storing_is p.port (instruction.StoreWide 14 13 0) 14 (word (m.register 13 + 0)) kept_at m
        (omega (arith, t.1, (kept_in_memory port).below)) (kept_in_memory port);
  }

  branches : There x.called m AtBranch → Executes p (instruction.Call (displacement_to x.begins x.function)) m branched
  unfolding keep_return
  branches t = record {
    found = lies_at m.address (x.begins + 2 + 4) (instruction.Call (displacement_to x.begins x.function))
        (omega (arith, t.0)) x.code.1.1.0;
    does = refl;
  }

  loads : p.port ≡ at.port → There x.called m AtTake → Executes p (instruction.LoadWide 14 13 0) m loaded
  unfolding keep_return take_return
  loads port t = record {
    found = lies_at m.address (x.begins + 2 + 4 + 4) (instruction.LoadWide 14 13 0) (omega (arith, t.0))
        x.code.1.1.1.0;
    does = loading_is (instruction.LoadWide 14 13 0) 14 (word (m.register 13 + 0)) kept_at m
        (omega (arith, t.1, (kept_in_memory port).below)) (kept_in_memory port).aligned;
  }

  rises : There x.called m AtRise → Executes p (instruction.AddStack 8) m risen
  unfolding keep_return take_return
  rises t = record {
    found = lies_at m.address (x.begins + 2 + 4 + 4 + 4) (instruction.AddStack 8) (omega (arith, t.0))
        x.code.1.1.1.1.0;
    does = refl;
  }

  next_by : p.port ≡ at.port → (stage : CallStage) → There x.called m stage → IsOwnCode stage → HasNext p m
  next_by port AtFall t out = (_, _, falls t)
  next_by port AtKeep t out = (_, _, stores port t)
  next_by port AtBranch t out = (_, _, branches t)
  next_by port Within t out = absurd out
  next_by port AtTake t out = (_, _, loads port t)
  next_by port AtRise t out = (_, _, rises t)

  no_branch_by : p.port ≡ at.port → (stage : CallStage) → There x.called m stage → stage ≢ AtBranch → stage ≢ Within
      → (d : ℕ) → p.code m.address ≡ Some (instruction.Call d) → ⊥
  no_branch_by port AtFall t other out d e = fall_is_no_call d (sym (falls t).found ∙ e)
  no_branch_by port AtKeep t other out d e = keep_is_no_call d (sym (stores port t).found ∙ e)
  no_branch_by port AtBranch t other out d e = absurd (other refl)
  no_branch_by port Within t other out d e = absurd (out refl)
  no_branch_by port AtTake t other out d e = take_is_no_call d (sym (loads port t).found ∙ e)
  no_branch_by port AtRise t other out d e = rise_is_no_call d (sym (rises t).found ∙ e)

  -- but for the BL none of the call's instructions is one
  pub is_no_branch : p.port ≡ at.port → x.stage ≢ AtBranch → x.stage ≢ Within → (d : ℕ)
      → p.code m.address ≡ Some (instruction.Call d) → ⊥
  is_no_branch port other out d e = no_branch_by port x.stage x.there other out d e

  -- the BL is next
  pub branch_executes : p.port ≡ at.port → x.stage ≡ AtBranch
      → (d : ℕ) × (n : Machine) × Executes p (instruction.Call d) m n
  branch_executes port e =
      (displacement_to x.begins x.function, branched, branches (subst (There x.called m) e x.there))

pub call_is_no_fault : CallIsNoFault
call_is_no_fault at bottom img places p c top m code x outside =
    next_by at bottom img places p c top m x code.port x.stage x.there outside

module _ (at : Outside) (bottom : ℕ) (img : Image) (places : List ℕ) (p : Program) (flash : Region) (written : List ℕ)
    (c : Core) (top : ℕ) (m n : Machine) (executed : Instruction) (code : HasCode at img places p)
    (apart : FlashIsApart at bottom flash) (x : IsInCall at bottom img places p c top m)
    (exec : Executes p executed m n) where
  abbrev link_of : ℕ
  link_of = x.registers 14

  abbrev at_top : ℕ
  at_top = top - 8

  in_memory : IsMemory p.port at_top
  in_memory = kept_in_memory at bottom img places p c top m x code.port

  abbrev Result : Machine → Type 0
  Result y = CallGoes at bottom img places p flash written c top m y x

  words_then : (i : Instruction) (y : Machine) → Executes p i m y → IsNoReturn i m → HoldsWords y
  words_then i y e plain = words_after at img places p code i m y e plain x.words

  -- the call goes on at a stage
  goes_to : (i : Instruction) (y : Machine) (stage : CallStage) (called : Machine) → Executes p i m y → IsNoReturn i m
      → IsAtStage x.begins top link_of x.room called y stage
      → PreservesRegisters x.registers (keeper x.begins top link_of x.room called y stage)
      → y.exception ≡ m.exception → y.is_unsettled ≡ m.is_unsettled → Shows at c y
      → GoesOnIn at bottom img places p top c c m y x stage called
  goes_to i y stage called does plain there keeps inside settled shows =
      made at bottom img places p c top m x c y stage called refl refl refl refl there keeps inside shows
      (settled ∙ x.settled) (words_then i y does plain)

  -- an instruction leads on from a stage
  leads_from : (i : Instruction) (y : Machine) (stage : CallStage) → Executes p i m y → x.stage ≡ stage
      → LeadsOnFrom at bottom img places p flash written c top m y x stage → LeavesOurs at flash written top m y
      → Result n
  leads_from i y stage does e leads ours =
      subst Result (same_next p i executed m y n does exec) (record {
        leads = subst (LeadsOnFrom at bottom img places p flash written c top m y x) (sym e) leads;
        ours = ours;
      })

  -- of an instruction that leaves memory as it is
  still : (y : Machine) → y.memory ≡ m.memory → y.exception ≡ m.exception → y.active ≡ m.active
      → ((e : ℕ) → y.is_pending e ≡ m.is_pending e) → y.seen ≡ m.seen → LeavesOurs at flash written top m y
  still y memory exception active requests seen = record {
    memory = λ k ours. ap (λ (f : ℕ → ℕ). f k) memory;
    exception = exception;
    active = active;
    requests = requests;
    seen = seen;
  }

  -- the word of EXC_RETURN is none of what waits, nor of what a core has
  not_kept : (k : ℕ) → IsOurs at flash written top k → k ≢ at_top / 4
  not_kept k ours e = by_kind ours
    where
      exact : 4 * k ≡ at_top
      exact = omega (arith, e, in_memory.aligned)

      by_kind : IsOurs at flash written top k → ⊥
      by_kind (OfStack from to) = omega (arith, from, exact, x.for_function)
      by_kind (OfCells from to others) = omega (arith, from, exact, x.for_function, x.below_cells)
      by_kind (OfTime from to) = omega (arith, from, exact, x.for_function, x.below_cells, x.laid.time)
      by_kind (OfFlash from to) =
          ⊎_elim (λ (f : flash.address + flash.size ≤ bottom). omega (arith, to, exact, x.for_function, f))
          (λ (f : at.time + 8 ≤ flash.address).
          omega (arith, from, exact, x.for_function, x.below_cells, f, x.laid.time)) apart.0
      by_kind (OfSystem from to) = omega (arith, from, exact, in_memory.below)

  by_fall : x.stage ≡ AtFall → IsAtStage x.begins top link_of x.room x.called m AtFall
      → PreservesRegisters x.registers m → Result n
  by_fall e (a, sp, l) keeps =
      let y = fallen at bottom img places p c top m x in
      let i = instruction.SubtractStack 8 in
      let does = falls at bottom img places p c top m x (a, sp, l) in
      let falls_to : word (m.register 13 + (2 ^ 32 - 8)) ≡ at_top =
      omega (arith, sp, x.for_function, x.below_cells, x.laid.time, x.laid.in_memory) in
      leads_from i y AtFall does e
      (goes_to i y AtKeep x.called does tt (omega (arith, a), falls_to, l)
      (λ k f g h j. other k 13 _ _ h ∙ keeps k f g h j) refl refl
      (shows_still at bottom img places p c top m x y refl refl (λ k f g. refl) (λ k. refl)))
      (still y refl refl refl (λ k. refl) refl)

  by_keep : x.stage ≡ AtKeep → IsAtStage x.begins top link_of x.room x.called m AtKeep
      → PreservesRegisters x.registers m → Result n
  by_keep e (a, sp, l) keeps =
      let y = stored at bottom img places p c top m x in
      let i = instruction.StoreWide 14 13 0 in
      let does = stores at bottom img places p c top m x code.port (a, sp, l) in
      let shown = shows_still at bottom img places p c top m x y refl refl (λ k f g.
      other k (at_top / 4) (m.register 14) (m.memory k) (λ h. omega (arith, f, h, in_memory.aligned, x.for_function)))
      (λ k. refl) in
      leads_from i y AtKeep does e
      (goes_to i y AtBranch x.called does tt
      (omega (arith, a), sp, same (at_top / 4) (m.register 14) (m.memory (at_top / 4)) ∙ l) keeps refl refl shown)
      (record {
        memory = λ k ours. other k (at_top / 4) (m.register 14) (m.memory k) (not_kept k ours);
        exception = refl;
        active = refl;
        requests = λ k. refl;
        seen = refl;
      })

  by_branch : x.stage ≡ AtBranch → IsAtStage x.begins top link_of x.room x.called m AtBranch
      → PreservesRegisters x.registers m → Result n
  by_branch e (a, sp, w) keeps =
      let y = branched at bottom img places p c top m x in
      let i = instruction.Call (displacement_to x.begins x.function) in
      let does = branches at bottom img places p c top m x (a, sp, w) in
      let low = code.low m.address i does.found in
      let arrives : word (m.address + 4 + displacement_to x.begins x.function) ≡ x.function =
      leap_leads m.address (x.begins + call_offset + 4) x.function (omega (arith, offset, a))
      (omega (arith, offset, a, low)) x.reached in
      leads_from i y AtBranch does e (
        goes_to i y Within y does tt (omega (arith, a), sp, w, omega (arith, sp), omega (arith, sp))
            (λ k f g h j. other k 14 _ _ j ∙ keeps k f g h j) refl refl
            (shows_still at bottom img places p c top m x y refl refl (λ k f g. refl) (λ k. refl)),
        record {
          address = arrives;
          stack = omega (arith, sp, x.eights, x.for_function);
          free = omega (arith, sp, x.for_function);
          link = omega (arith, a, x.halfword);
          settled = x.settled;
          words = words_then i y does tt;
        },
      ) (still y refl refl refl (λ k. refl) refl)

  by_take : x.stage ≡ AtTake → IsAtStage x.begins top link_of x.room x.called m AtTake
      → PreservesRegisters x.registers m → Result n
  by_take e (a, sp, w) keeps =
      let y = loaded at bottom img places p c top m x in
      let i = instruction.LoadWide 14 13 0 in
      let does = loads at bottom img places p c top m x code.port (a, sp, w) in
      leads_from i y AtTake does e
      (goes_to i y AtRise x.called does tt (omega (arith, a), sp, w)
      (λ k f g h j. other k 14 _ _ j ∙ keeps k f g h j) refl refl
      (shows_still at bottom img places p c top m x y refl refl (λ k f g. refl) (λ k. refl)))
      (still y refl refl refl (λ k. refl) refl)

  by_rise : x.stage ≡ AtRise → IsAtStage x.begins top link_of x.room x.called m AtRise
      → PreservesRegisters x.registers m → Result n
  unfolding keep_return take_return
  by_rise e (a, sp, l) keeps =
      let y = risen at bottom img places p c top m x in
      let i = instruction.AddStack 8 in
      let does = rises at bottom img places p c top m x (a, sp, l) in
      let rises_to : word (m.register 13 + 8) ≡ top = omega (
        arith,
        sp,
        x.for_function,
        x.below_cells,
        x.laid.time,
        x.laid.in_memory,
      ) in
      let shown = shows_still at bottom img places p c top m x y refl refl (λ k f g. refl) (λ k. refl) in
      let none : length (words_of c.caller) ≡ 0 = ap (λ (o : Option (List ℕ)). length (words_of o)) x.free in
      let unopened : IsUnopened at bottom img places p x.to x.handler c top y = record {
        low = x.low;
        addresses = code.addresses;
        laid = x.laid;
        entry = x.entry;
        frame = x.frame;
        free = x.free;
        room = omega (arith, rises_to, x.for_frame);
        stands = record {
          address = ap (slice_index places) (sym x.entry);
          base_priority = shown.base_priority;
          is_masked = shown.is_masked;
          aligned = omega (arith, rises_to, x.eights);
          stack = omega (arith, rises_to, x.for_frame);
          frames = omega (arith, rises_to, none, x.below_cells);
          slots = λ k f. absurd (omega (arith, f));
          caller = λ k f. absurd (omega (arith, f, caller_length places c.caller, none));
          cells = shown.cells;
          time = shown.time;
          alarm = shown.alarm;
          pending = shown.pending;
        };
        ends = rises_to;
        settled = x.settled;
        words = words_then i y does tt;
      } in
      let behind : Spans p y.address (stub at x.declared places x.to x.irq (Some x.handler)) x.to =
      subst (λ (k : ℕ). Spans p k (stub at x.declared places x.to x.irq (Some x.handler)) x.to) (omega (arith, a))
      x.code.1.1.1.1.1 in
      leads_from i y AtRise does e (
        begins at bottom img places p x.to x.irq x.handler c top y unopened x.declared x.exception
            (filter (λ j. j.irq == x.irq) x.declared) x.inputs (among x.irq x.declared)
            (subst (λ (zs : List Instruction). Spans p y.address zs x.to)
            (parts_of_stub at x.declared places x.to x.irq x.handler) behind),
        (λ k f g h j. other k 13 _ _ h ∙ keeps k f g h j),
        l,
      ) (still y refl refl refl (λ k. refl) refl)

  by_stage : (stage : CallStage) → x.stage ≡ stage → IsOwnCode stage
      → IsAtStage x.begins top link_of x.room x.called m stage
      → PreservesRegisters x.registers (keeper x.begins top link_of x.room x.called m stage) → Result n
  by_stage AtFall e out t keeps = by_fall e t keeps
  by_stage AtKeep e out t keeps = by_keep e t keeps
  by_stage AtBranch e out t keeps = by_branch e t keeps
  by_stage Within e out t keeps = absurd out
  by_stage AtTake e out t keeps = by_take e t keeps
  by_stage AtRise e out t keeps = by_rise e t keeps

pub call_goes_on : CallGoesOn
call_goes_on at bottom img places p flash written c top m n executed code apart x outside exec =
    by_stage at bottom img places p flash written c top m n executed code apart x exec x.stage refl outside x.there
    x.keeps
