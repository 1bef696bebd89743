-- One event of the processor, beside what happens to the image.
use Rattle.std.proofs.Common.{◌≡◌, ◌∙◌, ℕ, suc, ◌+◌, ◌%◌, ◌^◌, ◌<◌, ◌≤◌, ◌⊎◌, inl, inr, Bool, true, false}
use Rattle.std.proofs.Common.{List, [], ◌∷◌, ◌++◌, Option, Some, None, refl, sym, ap, subst, arith}
use Rattle.std.proofs.Common.{flat_map}
use Rattle.std.proofs.lemmas.Bool.{cases_lt}
use Rattle.std.proofs.lemmas.List.{append-nil}
use Rattle.std.specs.Prelude.{if◌then◌else◌, ◌||◌, nat_lt, option_map, reverse, ⊤, slice_index_or}
use Rattle.rt_ids.specs.Event.{Arrive, Tick}
use Rattle.rt_lemmas.proofs.Bools.{and_parts}
use Rattle.rt_code.specs.Image.{Image}
use Rattle.rt_code.specs.declared.image.Handler.{Handler}
use Rattle.rt_code.specs.declared.image.IrqRow.{IrqRow}
use Rattle.rt_core.specs.Core.{Core, depth}
use Rattle.rt_core.specs.Priority.{execution, pick, value_or_none}
use Rattle.rt_core.specs.Trace.{happen}
use Rattle.rt_core.specs.Transfer.{core_after_pend}
use Rattle.rt_core.proofs.Picking.{picked_row}
use Rattle.rt_native.specs.Layout.{TICK_BYTES, outside, places, stack_top}
use Rattle.rt_native.specs.Service.{timer_irq}
use Rattle.rt_native.specs.Target.{Target}
use Rattle.rt_native.specs.declared.target.Input.{Input}
use Rattle.rt_priorities.proofs.Agreeing.{execution_priorities_agree, they_take_the_same}
use Rattle.rt_thumb.specs.Exceptions.{entered, execution_priority, external, systick, taken}
use Rattle.rt_thumb.specs.Machine.{Entered, Machine, Seen, with_word}
use Rattle.rt_thumb.specs.Step as processor
use Rattle.rt_thumb.specs.Step.{Program, executed, going, pended}
use Rattle.rt_native_laws.specs.Behaving.{HasEvenFrames, IsGood, StaysGood}
use Rattle.rt_native_laws.specs.Devices.{is_devices}
use Rattle.rt_native_laws.specs.Moments.{AllCanHappen, Comes, Happening, Moment}
use Rattle.rt_native_laws.specs.Moments.{moment_after, moment_after_all, shown}
use Rattle.rt_native_laws.specs.Phases.{tail_of}
use Rattle.rt_native_laws.specs.Relating.{CallsNone, IsInPlace, IsOwnInstruction, IsPastMarks, IsWhere, LeadsOn}
use Rattle.rt_native_laws.specs.Relating.{Related}
use Rattle.rt_native_laws.specs.Relating.{call_here, calls_of, lowest}
use Rattle.rt_native_laws.specs.Simulating.{CanCome, IsBeside}
use Rattle.rt_native_laws.specs.Simulating.{arrivals_at, compared}
use Rattle.rt_native_laws.specs.Simulating.{seen_of_label, ticks}
use Rattle.rt_native_laws.specs.Standing.{IsLaidOut}
use Rattle.rt_native_laws.proofs.Changing.{changes_lead_on}
use Rattle.rt_native_laws.proofs.Deep.{stack_is_no_deeper}
use Rattle.rt_native_laws.proofs.Devices.{devices_word}
use Rattle.rt_native_laws.proofs.InTick.{IsInTick, On, Over, TickGoes, TickIsNoFault, change_in_tick, request_in_tick, tick_goes_on}
use Rattle.rt_native_laws.proofs.Instructing.{instructions_lead_on}
use Rattle.rt_native_laws.proofs.Interrupting.{entries_lead_on}
use Rattle.rt_native_laws.proofs.Marking.{marks_are_done}
use Rattle.rt_native_laws.proofs.Owing.{mask_is_small}
use Rattle.rt_native_laws.proofs.Requesting.{late_instructions_lead_on, pending_ticks_lead_on, requests_lead_on}
use Rattle.rt_native_laws.proofs.Tests.{is_less, not_equal}
use Rattle.rt_native_laws.proofs.Ticks.{frame_deep, low_here, once, seen_is, stack_last, tick_last, tick_moment}
use Rattle.rt_native_laws.proofs.Ticks.{tick_shape, tick_shown, time_is}
use Rattle.rt_native_laws.proofs.Ticks.{where_last}
use Rattle.rt_native_laws.specs.Waiting.{others_tail}
use Rattle.rt_native_laws.specs.WithFunctions.{ExecutesAt, LeadsOutNever}
use Rattle.rt_native_laws.proofs.Unpaid.{by_debt, picks_same}
use Rattle.rt_thumb_laws.proofs.Taking.{ticks_come_first}
use Rattle.rt_thumb_laws.proofs.Undisturbed.{none_at_top}

-- what happens in two parts
module _ (img : Image) where
  pub after_both : (s : Moment) (xs ys : List Happening)
      → moment_after_all img s (xs ++ ys) ≡ moment_after_all img (moment_after_all img s xs) ys
  after_both s [] ys = refl
  after_both s (x ∷ xs) ys = after_both (moment_after img s x) xs ys

  pub can_both : (inputs : List Input) (s : Moment) (xs ys : List Happening) → AllCanHappen img inputs s xs
      → AllCanHappen img inputs (moment_after_all img s xs) ys → AllCanHappen img inputs s (xs ++ ys)
  can_both inputs s [] ys h k = k
  can_both inputs s (x ∷ xs) ys h k = (h.0, can_both inputs (moment_after img s x) xs ys h.1 k)

  pub stays_behind : (inputs : List Input) (ceiling : ℕ) (fits : List Happening → Bool) (s : Moment)
      (xs : List Happening)
      → AllCanHappen img inputs s xs → StaysGood img inputs ceiling fits s
      → StaysGood img inputs ceiling (λ more. fits (xs ++ more)) (moment_after_all img s xs)
  stays_behind inputs ceiling fits s xs can stays more ok f =
      subst (IsGood img ceiling) (after_both s xs more) (stays (xs ++ more) (can_both inputs s xs more can ok) f)

-- an interrupt that is picked has a handler
some_handler : (img : Image) (c : Core) (row : IrqRow) → pick img c ≡ Some row
    → (h : Handler) × (row.handler ≡ Some h)
some_handler img c row picked = by_handler row.handler refl
  where
    higher : value_or_none row.handler < execution c
    higher =
        is_less (value_or_none row.handler) (execution c)
        (and_parts (slice_index_or c.pending row.number false) (nat_lt (value_or_none row.handler) (execution c))
        (picked_row img c row picked).1).1

    by_handler : (o : Option Handler) → row.handler ≡ o → (h : Handler) × (row.handler ≡ Some h)
    by_handler (Some h) e = (h, e)
    by_handler None e =
        let none = subst (λ (o : Option Handler). value_or_none o < execution c) e higher in
        absurd (omega (arith, none, mask_is_small c.processor.primask))

-- what is shown of a request
request_shown : (img : Image) (s : Moment) (irq : ℕ)
    → flat_map seen_of_label (shown img s (Comes (Arrive irq) ∷ [])) ≡ []
unfolding happen
request_shown img s irq = refl

arrived : (img : Image) (s : Moment) (irq : ℕ)
    → (moment_after img s (Comes (Arrive irq))).core ≡ core_after_pend s.core irq
unfolding happen
arrived img s irq = refl

abbrev pub one_if : Bool → ℕ
one_if b = if b then 1 else 0

-- none is picked at the highest priority
none_is_picked : (img : Image) (c : Core) → execution c ≡ 0 → pick img c ≡ None
none_is_picked img c e = by_pick (pick img c) refl
  where
    by_pick : (o : Option IrqRow) → pick img c ≡ o → pick img c ≡ None
    by_pick None f = f
    by_pick (Some row) f =
        let higher = is_less (value_or_none row.handler) (execution c)
        (and_parts (slice_index_or c.pending row.number false) (nat_lt (value_or_none row.handler) (execution c))
        (picked_row img c row f).1).1 in
        absurd (omega (arith, higher, e))

pub some_is_no_none : (e : ℕ) → Some e ≡ None → ⊥
some_is_no_none e f = cc

module _ (img : Image) (target : Target) (p : Program) (there : IsInPlace img target p)
    (ceiling : ℕ) (called : ℕ → Option Machine) (even_frames : HasEvenFrames img) where
  abbrev pub Here : (List Happening → Bool) → Moment → Machine → Type 0
  Here fits s m =
      (w : IsWhere img target p ceiling called s m) × (fits [] ≡ true
      → IsPastMarks img target p w.unpaid w.top m w.phase)

  related : (fits : List Happening → Bool) (s : Moment) (m : Machine) → Here fits s m → fits [] ≡ true
      → Related img target p ceiling called s m
  related fits s m here fitting = record { here = here.0; marks = here.1 fitting }

  -- how deep the stack is
  pub deep : (s : Moment) (m : Machine) → IsWhere img target p ceiling called s m
      → stack_top img target ≤ m.register 13 + depth img s.core
  deep s m w =
      let low = stack_is_no_deeper (outside img target) (lowest img target p) (stack_top img target) ceiling
      target.inputs (calls_of target called) img (places img target) p
      (others_tail (tail_of (outside img target) (lowest img target p) img (places img target) p w.unpaid w.top m
      w.phase) w.tail) s.takings w.unpaid w.top m
      (subst (IsLaidOut (outside img target) (lowest img target p)) (sym w.cells) there.laid) there.has.port w.phase
      w.waiting in
      let depth_same : depth img s.core ≡ depth img w.unpaid =
      ap (λ (c : Core). depth img c) w.owed
      ∙ by_debt (λ (f : Core → Core). depth img (f w.unpaid) ≡ depth img w.unpaid) w.tail refl (λ t e. refl) in
      omega (arith, low, depth_same)

  -- a tick may be pending
  abbrev owed : Machine → ℕ
  owed m = one_if (m.is_pending systick)

  -- the stack is no deeper than the image's, with the padding of an entry
  abbrev pub IsLow : Moment → Machine → Type 0
  IsLow s m = stack_top img target + m.register 13 % 8 ≤ m.register 13 + depth img s.core

  -- the processor is where the image is, or in a tick that leads there
  pub data Stands (fits : List Happening → Bool) (s : Moment) (m : Machine) : Type 0 where
    At : Here fits s m → Stands fits s m
    Within : (last : Machine) → Here fits s last → IsInTick img p (is_devices target) m last → IsLow s last → Stands fits s m

  -- the tick that may be pending then
  abbrev pub owed_then : (fits : List Happening → Bool) (s : Moment) (m : Machine) → Stands fits s m → ℕ
  owed_then fits s m (At here) = owed m
  owed_then fits s m (Within last here x low) = owed last

  -- What an event comes to, where the time has room for so many ticks behind it: the processor stands beside the image
  -- again, and no function of C was called.
  pub record Led (left : ℕ) (fits : List Happening → Bool) (s : Moment) (m : Machine) (event : processor.Event)
      : Type 0 where
    pub happened : List Happening
    pub next : Machine
    pub beside : IsBeside img target p s happened m event next
    pub stands : Stands (λ more. fits (happened ++ more)) (moment_after_all img s happened) next
    pub bound : (moment_after_all img s happened).core.time
        + owed_then (λ more. fits (happened ++ more)) (moment_after_all img s happened) next stands + left + 2 < 2 ^ 32
    pub calls_none : ExecutesAt p m event → LeadsOutNever p m next

  -- an instruction that calls none
  stays_in : (m n : Machine) → CallsNone p m → LeadsOutNever p m n
  stays_in m n none d found out = none d found

  module _ (left : ℕ) (fits : List Happening → Bool) (s : Moment) (m : Machine)
      (stays : StaysGood img target.inputs ceiling fits s) where
    -- an event that leads on
    leads_to : (n : Machine) → LeadsOn img target p ceiling called fits s m n
        → s.core.time + owed m + left + 2 < 2 ^ 32
        → (event : processor.Event) → arrivals_at event ≡ [] → processor.step p m event ≡ Some n
        → (ExecutesAt p m event → CallsNone p m) → Led left fits s m event
    leads_to n l bound event silent is none = record {
      happened = l.happened;
      next = n;
      beside = record {
        no_fault = is;
        can = l.can;
        arrivals = l.arrivals ∙ sym silent;
        few = l.few;
        words = l.words;
        seen = l.seen;
        deep = (let low = deep (moment_after_all img s l.happened) n l.here in omega (arith, low));
      };
      stands = At (l.here, λ f. l.marks (ap fits (sym (append-nil l.happened)) ∙ f));
      bound = omega (arith, bound, l.time, ap one_if l.ticks);
      calls_none = λ executes. stays_in m n (none executes);
    }

    -- an event by which nothing happens to the image
    leaves_it : (n : Machine) (stands : Stands fits s n)
        → s.core.time + owed_then fits s n stands + left + 2 < 2 ^ 32
        → (event : processor.Event) → arrivals_at event ≡ [] → processor.step p m event ≡ Some n
        → compared (timer_irq img.code) n.seen ≡ compared (timer_irq img.code) m.seen
        → stack_top img target ≤ n.register 13 + depth img s.core + TICK_BYTES
        → (ExecutesAt p m event → LeadsOutNever p m n) → Led left fits s m event
    leaves_it n stands bound event silent is seen low none = record {
      happened = [];
      next = n;
      beside = record {
        no_fault = is;
        can = tt;
        arrivals = sym silent;
        few = omega arith;
        words = tt;
        seen = seen;
        deep = low;
      };
      stands = stands;
      bound = bound;
      calls_none = none;
    }

    -- a request of a device
    request_comes : (irq : ℕ) → (stands : Stands (λ more. fits (Comes (Arrive irq) ∷ more)) (moment_after img s (Comes
        (Arrive irq)))
        (pended (external irq) m))
        → s.core.time
        + owed_then (λ more. fits (Comes (Arrive irq) ∷ more)) (moment_after img s (Comes (Arrive irq)))
        (pended (external irq) m) stands + left + 2 < 2 ^ 32
        → stack_top img target ≤ m.register 13 + depth img s.core + TICK_BYTES
        → Led left fits s m (processor.Arrives irq)
    request_comes irq stands bound low = record {
      happened = Comes (Arrive irq) ∷ [];
      next = pended (external irq) m;
      beside = record {
        no_fault = refl;
        can = (tt, tt);
        arrivals = refl;
        few = omega arith;
        words = (tt, tt);
        seen = sym (ap (λ (xs : List Seen). compared (timer_irq img.code) (reverse xs ++ m.seen))
            (request_shown img s irq));
        deep = omega (arith, low, ap (λ (c : Core). depth img c) (arrived img s irq));
      };
      stands = stands;
      bound = omega (arith, bound, ap (λ (c : Core). c.time) (arrived img s irq));
      calls_none = λ executes. absurd executes;
    }

    -- behind a tick the stack is as low
    low_then : (last : Machine) (later : Moment) → IsLow s m → last.register 13 ≡ m.register 13
        → depth img later.core ≡ depth img s.core → IsLow later last
    low_then last later low stack same = omega (arith, low, stack, same, ap (λ (a : ℕ). a % 8) stack)

    -- a tick begins
    tick_begins : (here : Here fits s m) → fits [] ≡ true → s.core.time + 1 + left + 2 < 2 ^ 32
        → taken m ≡ Some systick → Led left fits s m processor.Goes
    tick_begins here fitting bound ticks_now =
        let good = stays [] tt fitting in
        let w = here.0 in
        let fits_in : s.core.time + 2 < 2 ^ 32 = omega (arith, bound) in
        let last = tick_last img target p ceiling called fits s m there even_frames good w fits_in
        ticks_now in
        let once_more = once img target p ceiling called fits s m there even_frames good w fits_in
        ticks_now in
        let s1 = moment_after img s (Comes Tick) in
        let there_then : IsWhere img target p ceiling called s1 last =
        subst (λ (z : Moment). IsWhere img target p ceiling called z last) (sym (tick_moment img s))
        (where_last img target p ceiling called fits s m there even_frames good w fits_in ticks_now) in
        let marked = marks_are_done img target p there ceiling called (λ more. fits (Comes Tick ∷ more)) s1 last
        (λ more ok f. stays (Comes Tick ∷ more) (tt, ok) f) there_then in
        let happened = Comes Tick ∷ marked.happened in
        let n = entered systick m in
        let time_then : s1.core.time ≡ suc s.core.time =
        ap (λ (z : Moment). z.core.time) (tick_moment img s)
        ∙ time_is img target p ceiling called fits s m there even_frames good w fits_in ticks_now in
        let in_tick : IsInTick img p (is_devices target) n last = record {
          rest = once_more.executed;
          calm = once_more.calm;
          run = once_more.run;
          seen = seen_is img target p ceiling called fits s m there even_frames good w fits_in ticks_now;
          deep = frame_deep img target p ceiling called fits s m there even_frames good w fits_in ticks_now;
        } in
        let low : IsLow (moment_after_all img s happened) last =
        low_then last (moment_after_all img s happened)
        (low_here img target p ceiling called fits s m there even_frames good w fits_in ticks_now)
        (stack_last img target p ceiling called fits s m there even_frames good w fits_in ticks_now)
        (marked.deep ∙ (ap (λ (z : Moment). depth img z.core) (tick_moment img s)
        ∙ ap (λ (c : Core). depth img c) (tick_shape s.core).core)) in
        record {
          happened = happened;
          next = n;
          beside = record {
            no_fault = ap (going p m) ticks_now;
            can = (tt, marked.can);
            arrivals = marked.arrivals;
            few = omega (arith, marked.few);
            words = (tt, marked.words m);
            seen = sym (ap (λ (xs : List Seen). compared (timer_irq img.code) (reverse xs ++ m.seen))
                (tick_shown img s marked.happened ∙ ap (λ (xs : List Seen). Entered systick ∷ xs) marked.seen));
            deep = omega (arith, low, in_tick.deep);
          };
          stands = Within last (marked.here, λ f. marked.marks (ap fits (sym (append-nil happened)) ∙ f)) in_tick low;
          bound = omega (
            arith,
            bound,
            marked.time,
            time_then,
            ap one_if once_more.has_ticked.is_over,
          );
          calls_none = λ executes. absurd (some_is_no_none systick (sym ticks_now ∙ executes));
        }

    -- the processor goes on, and may take an interrupt or a tick
    module _ (here : Here fits s m) (fitting : fits [] ≡ true)
        (own : taken m ≡ None → IsOwnInstruction (call_here img target p ceiling called s m here.0))
        (bound : s.core.time + owed m + left + 2 < 2 ^ 32) where
      r : Related img target p ceiling called s m
      r = related fits s m here fitting

      instructs : pick img s.core ≡ None → taken m ≡ None → Led left fits s m processor.Goes
      unfolding r related
      instructs none takes =
          let y = instructions_lead_on img target p ceiling called fits s m there stays fitting r
          (own takes) none in
          leads_to y.0 y.2 bound processor.Goes refl (ap (going p m) takes ∙ y.1) (λ executes. y.3)

      picks : pick img s.core ≡ pick img here.0.unpaid
      picks = picks_same img target p ceiling called s m here.0

      by_pick : m.is_pending systick ≡ false → (o : Option IrqRow) → pick img here.0.unpaid ≡ o
          → Led left fits s m processor.Goes
      by_pick quiet None e =
          instructs (picks ∙ e) (they_take_the_same img here.0.unpaid m here.0.agrees quiet
          ∙ ap (option_map (λ row. external row.number)) e)
      by_pick quiet (Some row) e =
          let h = some_handler img here.0.unpaid row e in
          let takes : taken m ≡ Some (external row.number) =
          they_take_the_same img here.0.unpaid m here.0.agrees quiet
          ∙ ap (option_map (λ row. external row.number)) e in
          leads_to (entered (external row.number) m)
          (entries_lead_on img target p ceiling called fits s m row h.0 there even_frames stays fitting r (picks
          ∙ e) h.1)
          bound processor.Goes refl (ap (going p m) takes)
          (λ executes. absurd (some_is_no_none (external row.number) (sym takes ∙ executes)))

      by_priority : m.is_pending systick ≡ true → (0 < execution_priority m) ⊎ (execution_priority m ≤ 0)
          → Led left fits s m processor.Goes
      by_priority waits (inl high) =
          tick_begins here fitting (omega (arith, bound, ap one_if waits))
          (ticks_come_first m here.0.tick waits high)
      by_priority waits (inr low) =
          let zero : execution_priority m ≡ 0 = omega (arith, low) in
          instructs (picks ∙ none_is_picked img here.0.unpaid
          (sym (execution_priorities_agree img here.0.unpaid m here.0.agrees) ∙ zero)) (none_at_top m zero)

      by_pending : (b : Bool) → m.is_pending systick ≡ b → Led left fits s m processor.Goes
      by_pending false e = by_pick e (pick img here.0.unpaid) refl
      by_pending true e = by_priority e (cases_lt 0 (execution_priority m))

      goes_on : Led left fits s m processor.Goes
      goes_on = by_pending (m.is_pending systick) refl

    -- within a tick
    module _ (last : Machine) (here : Here fits s last) (x : IsInTick img p (is_devices target) m last) (low : IsLow s last)
        (bound : s.core.time + owed last + left + 2 < 2 ^ 32) where
      abbrev y : TickIsNoFault img p (is_devices target) m last
      y = tick_goes_on img target p there (is_devices target) m last x

      by_goes : TickGoes img p (is_devices target) m last y.next → (event : processor.Event) → arrivals_at event ≡ []
          → processor.step p m event ≡ Some y.next → Led left fits s m event
      by_goes (On z) event silent is =
          leaves_it y.next (Within last here z low) bound event silent is y.seen (omega (arith, low, z.deep))
          (λ executes d found out. absurd (y.calls_none d found out))
      by_goes (Over e) event silent is =
          leaves_it y.next (At (subst (λ (k : Machine). Here fits s k) (sym e) here))
          (subst (λ (k : Machine). s.core.time + owed k + left + 2 < 2 ^ 32) (sym e) bound) event silent is
          y.seen
          (let high = deep s last here.0 in omega (arith, high, ap (λ (k : Machine). k.register 13) e))
          (λ executes d found out. absurd (y.calls_none d found out))

      ticks_on : (event : processor.Event) → arrivals_at event ≡ [] → processor.step p m event ≡ Some y.next
          → Led left fits s m event
      ticks_on event silent is = by_goes y.goes event silent is

  same_owed : (irq : ℕ) (m : Machine) → (pended (external irq) m).is_pending systick ≡ m.is_pending systick
  same_owed irq m =
      ap (λ (b : Bool). b || m.is_pending systick) (not_equal systick (external irq) (λ e. omega (arith, e)))

  -- the program's own instruction is next, and calls no function
  abbrev pub OwnIsNext : (fits : List Happening → Bool) (s : Moment) (m : Machine) → Stands fits s m → Type 0
  OwnIsNext fits s m (At here) = IsOwnInstruction (call_here img target p ceiling called s m here.0)
  OwnIsNext fits s m (Within last here x low) = ⊤

  -- so it is where an instruction is executed next
  abbrev pub OwnAt : processor.Event → (fits : List Happening → Bool) (s : Moment) (m : Machine) → Stands fits s m
      → Type 0
  OwnAt processor.Goes fits s m stands = taken m ≡ None → OwnIsNext fits s m stands
  OwnAt event fits s m stands = ⊤

  -- each event leads on, where no function is called or runs next
  pub leads : (left : ℕ) (event : processor.Event) (fits : List Happening → Bool) (s : Moment) (m : Machine)
      → StaysGood img target.inputs ceiling fits s → (stands : Stands fits s m) → fits [] ≡ true → CanCome target m event
      → OwnAt event fits s m stands
      → s.core.time + owed_then fits s m stands + ticks (event ∷ []) + left + 2 < 2 ^ 32 → Led left fits s m event
  leads left (processor.Arrives irq) fits s m stays (At here) fitting can_come own bound =
      let r = related fits s m here fitting in
      let joined = requests_lead_on img target p ceiling called s m irq there r can_come in
      request_comes left fits s m stays irq (At (joined.here, λ f. joined.marks))
      (omega (arith, bound, ap one_if (same_owed irq m)))
      (let high = deep s m here.0 in omega (arith, high))
  leads left (processor.Arrives irq) fits s m stays (Within last here x low) fitting can_come own bound =
      let r = related fits s last here fitting in
      let joined = requests_lead_on img target p ceiling called s last irq there r can_come in
      request_comes left fits s m stays irq
      (Within (pended (external irq) last) (joined.here, λ f. joined.marks) (request_in_tick img p (is_devices target) (external irq) m
      last x) (omega (arith, low, ap (λ (c : Core). depth img c) (arrived img s irq))))
      (omega (arith, bound, ap one_if (same_owed irq last))) (omega (arith, low, x.deep))
  leads left processor.Ticks fits s m stays (At here) fitting can_come own bound =
      let joined = pending_ticks_lead_on img target p ceiling called s m there (related fits s m here fitting) in
      leaves_it left fits s m stays (pended systick m) (At (joined.here, λ f. joined.marks))
      (omega (arith, bound)) processor.Ticks refl refl refl
      (let high = deep s (pended systick m) joined.here in omega (arith, high)) (λ executes. absurd executes)
  leads left processor.Ticks fits s m stays (Within last here x low) fitting can_come own bound =
      let joined = pending_ticks_lead_on img target p ceiling called s last there (related fits s last here fitting) in
      leaves_it left fits s m stays (pended systick m)
      (Within (pended systick last) (joined.here, λ f. joined.marks) (request_in_tick img p (is_devices target) systick m last x) low)
      (omega (arith, bound)) processor.Ticks refl refl refl (omega (arith, low, x.deep)) (λ executes. absurd executes)
  leads left (processor.Changes address value) fits s m stays (At here) fitting can_come own bound =
      let n = with_word address value m in
      let joined = changes_lead_on img target p ceiling called s m address value there
      (related fits s m here fitting) can_come in
      leaves_it left fits s m stays n (At (joined.here, λ f. joined.marks))
      (omega (arith, bound)) (processor.Changes address value) refl refl refl
      (let high = deep s n joined.here in omega (arith, high)) (λ executes. absurd executes)
  leads left (processor.Changes address value) fits s m stays (Within last here x low) fitting can_come own bound =
      let n = with_word address value m in
      let joined = changes_lead_on img target p ceiling called s last address value there
      (related fits s last here fitting) can_come in
      leaves_it left fits s m stays n
      (Within (with_word address value last) (joined.here, λ f. joined.marks)
      (change_in_tick img p (is_devices target) address value m last (devices_word target address can_come.0) x) low)
      (omega (arith, bound)) (processor.Changes address value) refl refl refl (omega (arith, low, x.deep))
      (λ executes. absurd executes)
  leads left processor.Goes fits s m stays (At here) fitting can_come own bound =
      goes_on left fits s m stays here fitting own (omega (arith, bound))
  leads left processor.Goes fits s m stays (Within last here x low) fitting can_come own bound =
      let y = tick_goes_on img target p there (is_devices target) m last x in
      ticks_on left fits s m stays last here x low (omega (arith, bound)) processor.Goes refl
      (ap (going p m) y.none ∙ y.no_fault)
  leads left processor.GoesLate fits s m stays (At here) fitting can_come own bound =
      let y = late_instructions_lead_on img target p ceiling called fits s m there stays fitting
      (related fits s m here fitting) can_come in
      leads_to left fits s m stays y.0 y.2 (omega (arith, bound)) processor.GoesLate refl y.1 (λ executes. y.3)
  leads left processor.GoesLate fits s m stays (Within last here x low) fitting can_come own bound =
      let y = tick_goes_on img target p there (is_devices target) m last x in
      ticks_on left fits s m stays last here x low (omega (arith, bound)) processor.GoesLate refl y.no_fault
