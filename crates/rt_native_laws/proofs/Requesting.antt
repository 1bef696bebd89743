-- A request comes to both, and an instruction that is executed late leads on.
use Rattle.std.proofs.Common.{◌≡◌, ◌≢◌, ◌∙◌, ℕ, ◌≤◌, Bool, true, false, List, [], ◌∷◌, Option, Some, None, IfSome}
use Rattle.std.proofs.Common.{inl, refl, sym, ap, subst, arith, length}
use Rattle.std.proofs.lemmas.Bool.{false≢true}
use Rattle.std.proofs.lemmas.List.{length-set}
use Rattle.std.specs.Prelude.{if◌then◌else◌, min, nat_lt, slice_index_or, slice_set}
use Rattle.rt_ids.specs.Choice.{best, better_of}
use Rattle.rt_ids.specs.Event.{Arrive}
use Rattle.rt_lemmas.proofs.Bools.{and_both, and_parts, not_so, true_and_false}
use Rattle.rt_code.specs.Image.{Image}
use Rattle.rt_code.specs.Processor.{Processor}
use Rattle.rt_code.specs.declared.image.IrqRow.{IrqRow}
use Rattle.rt_code.specs.declared.instr.Instr.TheVariants as instr
use Rattle.rt_core.specs.Core.{Context, Core}
use Rattle.rt_core.specs.Priority.{base_value, can_preempt, execution, mask_value, pick, precedes, running_value}
use Rattle.rt_core.specs.Priority.{value_or_none}
use Rattle.rt_core.specs.Trace.{happen}
use Rattle.rt_core.specs.Transfer.{core_after_pend}
use Rattle.rt_native.specs.Layout.{outside, places, stack_top}
use Rattle.rt_native.specs.Service.{is_called}
use Rattle.rt_native.specs.Target.{Target}
use Rattle.rt_native.specs.declared.outside.Outside.{Outside}
use Rattle.rt_native.specs.declared.target.Input.{Input}
use Rattle.rt_thumb.specs.Exceptions.{external, systick}
use Rattle.rt_thumb.specs.Machine.{Machine}
use Rattle.rt_thumb.specs.Step.{Program, pended}
use Rattle.rt_thumb.specs.declared.instruction.Instruction.{Instruction}
use Rattle.rt_native_laws.specs.Arriving.{IsAsFresh, is_done}
use Rattle.rt_native_laws.specs.InTail.{Debt, paid, rung}
use Rattle.rt_native_laws.specs.Moments.{Comes, HasJustRead, Moment, instruction_at, moment_after, settled_words}
use Rattle.rt_native_laws.specs.Moments.{with_core}
use Rattle.rt_native_laws.specs.Phases.{AlreadyDone, Calling, Entering, IsDone, IsToCome, Phase, Reads, Tails, ToCome}
use Rattle.rt_native_laws.specs.Phases.{kept_words, tail_of, Calls, FunctionCall, IsOrdinary, viewed}
use Rattle.rt_native_laws.specs.InCall.{Within}
use Rattle.rt_native_laws.specs.Own.{RunsPrivately}
use Rattle.rt_native_laws.specs.Relating.{calls_of, IsPastMarks, IsInPlace, IsWhere, LateInstructionsLeadOn}
use Rattle.rt_native_laws.specs.Relating.{PendingTicksLeadOn, Related, RequestsLeadOn, lowest}
use Rattle.rt_native_laws.specs.Standing.{HoldsWords, IsLaidOut}
use Rattle.rt_native_laws.specs.Waiting.{IsFresh, KeepsAbove, KeepsTail, others_tail}
use Rattle.rt_native_laws.proofs.Arriving.{arrivals_keep_phases, pending_ticks_keep_phases, still_there}
use Rattle.rt_native_laws.proofs.Faultless.{HasNext, calling_has_next, done_has_next, entering_has_next}
use Rattle.rt_native_laws.proofs.Going.{what_is_late_is_nothing}
use Rattle.rt_native_laws.proofs.Instructing.{executes_so}
use Rattle.rt_native_laws.proofs.Leading.{silence_leads_on}
use Rattle.rt_native_laws.proofs.Phases.{apart_of}
use Rattle.rt_native_laws.proofs.Private.{private_is_unseen}
use Rattle.rt_native_laws.proofs.Owing.{both_asked}
use Rattle.rt_native_laws.proofs.Relating.{alarm_then, is_where_on, related_on}
use Rattle.rt_native_laws.proofs.Tails.{for_some, others_stay, tail_untouched}
use Rattle.rt_native_laws.proofs.Unpaid.{by_debt, owing}
use Rattle.rt_native_laws.proofs.Viewing.{IsAlone, ordinary_alone, views_keep}
use Rattle.rt_native_laws.proofs.Branching.{none_by_link}
use Rattle.rt_native_laws.proofs.EachKind.{link_is_high}

-- where none of more is the best, none of fewer is
better_there : {A : Type 0} (beats : A → A → Bool) (x : A) (o : Option A) → better_of beats x o ≡ None → ⊥
better_there beats x None e = absurd (cc)
better_there beats x (Some y) e = by_test (beats x y) e
  where
    by_test : (b : Bool) → (if b then Some x else Some y) ≡ None → ⊥
    by_test true f = absurd (cc)
    by_test false f = absurd (cc)

fewer : {A : Type 0} (few many : A → Bool) (beats : A → A → Bool) (xs : List A)
    → ((x : A) → few x ≡ true → many x ≡ true) → best many beats xs ≡ None → best few beats xs ≡ None
fewer few many beats [] h e = refl
fewer few many beats (x ∷ xs) h e = by_tests (fewer few many beats xs h) (few x) (many x) refl refl
  where
    by_tests : (best many beats xs ≡ None → best few beats xs ≡ None) → (a b : Bool) → few x ≡ a → many x ≡ b
        → best few beats (x ∷ xs) ≡ None
    by_tests rest a true f g =
        absurd (better_there beats x (best many beats xs)
        (sym (ap (λ (t : Bool). if t then better_of beats x (best many beats xs) else best many beats xs) g) ∙ e))
    by_tests rest true false f g = absurd (false≢true (sym g ∙ h x f))
    by_tests rest false false f g =
        ap (λ (t : Bool). if t then better_of beats x (best few beats xs) else best few beats xs) f
        ∙ rest (sym (ap (λ (t : Bool). if t then better_of beats x (best many beats xs) else best many beats xs) g) ∙ e)

none_before : (img : Image) (c : Core) (irq : ℕ) → pick img (core_after_pend c irq) ≡ None → pick img c ≡ None
none_before img c irq e =
    fewer (can_preempt c) (can_preempt (core_after_pend c irq)) precedes img.irqs
    (λ (row : IrqRow) h.
    let parts = and_parts (slice_index_or c.pending row.number false)
    (nat_lt (value_or_none row.handler) (execution c)) h in
    and_both (slice_index_or (slice_set c.pending irq true) row.number false)
    (nat_lt (value_or_none row.handler) (execution c)) (still_there c.pending irq row.number parts.0) parts.1) e

module _ (img : Image) (target : Target) (p : Program) (ceiling : ℕ)
    (called : ℕ → Option Machine) (there : IsInPlace img target p) (s : Moment)
    (m : Machine) (w : IsWhere img target p ceiling called s m) where
  abbrev at : Outside
  at = outside img target

  abbrev pl : List ℕ
  pl = places img target

  abbrev bottom : ℕ
  bottom = lowest img target p

  abbrev top : ℕ
  top = w.top

  abbrev c : Core
  c = w.unpaid

  -- marks, by whether the job has done all but what is private
  pub past_of : (d : Core) (n : Machine) (phase : Phase at bottom img pl p d top n)
      → (is_done at bottom img pl p d top n phase ≡ true → pick img d ≡ None
      → instruction_at img d ≡ Some instr.Mark → ⊥)
      → IsPastMarks img target p d top n phase
  past_of d n (AlreadyDone x) h = h refl
  past_of d n (ToCome x) h = tt
  past_of d n (Entering x) h = tt
  past_of d n (Calling x) h = tt
  past_of d n (Reads x) h = tt
  past_of d n (Calls x f) h = tt
  past_of d n (Tails core x same) h = tt

  pub of_past : (phase : Phase at bottom img pl p c top m) → IsPastMarks img target p c top m phase
      → is_done at bottom img pl p c top m phase ≡ true → pick img c ≡ None
      → instruction_at img c ≡ Some instr.Mark → ⊥
  of_past (AlreadyDone x) past e = past
  of_past (ToCome x) past e = absurd (false≢true e)
  of_past (Entering x) past e = absurd (false≢true e)
  of_past (Calling x) past e = absurd (false≢true e)
  of_past (Reads x) past e = absurd (false≢true e)
  of_past (Calls x f) past e = absurd (false≢true e)
  of_past (Tails core x same) past e = absurd (false≢true e)

  module _ (d : Core) (e : ℕ) (fresh : IsAsFresh at bottom img pl p c d top m (pended e m) w.phase)
      (below : d.below ≡ c.below) (processor : d.processor ≡ c.processor)
      (requests : length d.pending ≡ length c.pending) (stopped : d.stopped ≡ c.stopped) (time : d.time ≡ c.time)
      (alarm : d.alarm ≡ c.alarm)
      (asked : (irq : ℕ) → slice_index_or c.pending irq false ≡ true → slice_index_or d.pending irq false ≡ true) where
    same_frame : length d.processor.slots ≡ length c.processor.slots
    same_frame = ap (λ x. length x.slots) processor

    kept : settled_words s.last (length c.processor.slots) ≤ kept_words at bottom img pl p c top m w.phase
    kept = w.fresh.0

    abbrev own : Option Debt
    own = tail_of at bottom img pl p c top m w.phase

    same_priority : execution d ≡ execution c
    same_priority =
        ap (λ (q : Processor). min (running_value d.below) (min (base_value q.basepri) (mask_value q.primask)))
        processor
        ∙ ap (λ (b : List Context). min (running_value b) (min (base_value c.processor.basepri)
        (mask_value c.processor.primask))) below

    meanwhile : KeepsTail (others_tail own w.tail)
        (others_tail (tail_of at bottom img pl p d top (pended e m) fresh.0) w.tail) c d
    meanwhile =
        subst (λ (o : Option Debt). KeepsTail (others_tail own w.tail) (others_tail o w.tail) c d) (sym fresh.4)
        (others_stay own w.tail c d
        (tail_untouched w.tail c d (owing img target p ceiling called s m w) time
        (for_some w.tail (λ t. (d.alarm ≡ c.alarm)
        × (slice_index_or c.pending t.irq false ≡ true → slice_index_or d.pending t.irq false ≡ true))
        (λ t f. (alarm, asked t.irq)))))

    still_fresh : IsFresh at bottom (stack_top img target) ceiling target.inputs
        (calls_of target called) img pl p w.tail s.last d top
        (pended e m)
        fresh.0
    still_fresh = (
      subst (λ (k : ℕ). settled_words s.last k ≤ kept_words at bottom img pl p d top (pended e m) fresh.0)
          (sym same_frame) (omega (arith, kept, fresh.1)),
      subst (λ (o : Option (List Input × Option (Input × ℕ))). IfSome o
          (λ reads. HasJustRead reads.1 s.last × (reads.0 ≡ target.inputs)))
          (sym fresh.3) w.fresh.1,
      subst (λ (o : Option Debt). IfSome o (λ t. (w.tail ≡ Some t) × (execution d ≤ ceiling))) (sym fresh.4)
          (subst (λ (k : ℕ). IfSome own (λ t. (w.tail ≡ Some t) × (k ≤ ceiling))) (sym same_priority) w.fresh.2),
      subst (λ (o : Option FunctionCall). IfSome o (λ call. (is_called target.calls call.irq ≡ true)
          × (call.stage ≡ Within → called (external call.irq) ≡ Some call.called))) (sym fresh.5) w.fresh.3,
    )

    still_above : KeepsAbove at top (viewed at bottom img pl p c top m w.phase)
        (viewed at bottom img pl p d top (pended e m) fresh.0)
    still_above =
        views_keep at bottom img pl p c d top top m (pended e m) w.phase fresh.0 top
        (λ k h f g. ap (λ (r : ℕ → ℕ). r k) fresh.6) (λ k h f. refl) refl refl

    still_words : HoldsWords (pended e m)
    still_words =
        record { registers = w.words.registers; memory = w.words.memory; base_priority = w.words.base_priority }

    pub asked_where : IsWhere img target p ceiling called
        (record { core = paid w.tail d; last = s.last; takings = s.takings }) (pended e m)
    asked_where =
        is_where_on img target p there ceiling called called s m (pended e m) w
        (λ jobs. jobs) w.tail w.of_timer d s.last fresh.0 still_fresh
        meanwhile
        still_above (λ k h. refl) still_words w.placed below (ap (λ x. length x.cells) processor) requests stopped
        (alarm_then img c d w.alarm (inl alarm))

    pub asked_related : (before : pick img d ≡ None → pick img c ≡ None)
        → IsPastMarks img target p c top m w.phase
        → Related img target p ceiling called (record { core = paid w.tail d; last = s.last; takings = s.takings })
        (pended e m)
    asked_related before marks =
        related_on img target p there ceiling called called s m (pended e m) w
        (λ jobs. jobs) w.tail w.of_timer d s.last fresh.0 still_fresh
        meanwhile
        still_above (λ k h. refl) still_words w.placed below (ap (λ x. length x.cells) processor) requests stopped
        (alarm_then img c d w.alarm (inl alarm))
        (past_of d (pended e m) fresh.0 (λ f none at_mark.
        of_past w.phase marks (sym fresh.2 ∙ f) (before none)
        (sym (ap (λ x. instruction_at img (record c { processor = x })) processor) ∙ at_mark)))

  -- a request that a device makes
  abbrev asked_core : ℕ → Core
  asked_core irq = core_after_pend c irq

  arrival : (irq : ℕ) → IsAsFresh at bottom img pl p c (asked_core irq) top m (pended (external irq) m) w.phase
  arrival irq = arrivals_keep_phases at bottom img pl p c top irq m w.phase

  pub asked_paid : (irq : ℕ) → core_after_pend s.core irq ≡ paid w.tail (asked_core irq)
  asked_paid irq =
      ap (λ (k : Core). core_after_pend k irq) w.owed
      ∙ by_debt (λ (f : Core → Core). core_after_pend (f c) irq ≡ f (asked_core irq)) w.tail refl
      (λ t e. ap (λ (ps : List Bool). record (rung t.irq c) { pending = ps }) (both_asked c.pending t.irq irq))

  pub arrives : (irq : ℕ) → IsWhere img target p ceiling called (moment_after img s (Comes (Arrive irq)))
      (pended (external irq) m)
  unfolding happen
  arrives irq =
      subst (λ (k : Core). IsWhere img target p ceiling called (with_core s k) (pended (external irq) m))
      (sym (asked_paid irq))
      (asked_where (asked_core irq) (external irq) (arrival irq) refl refl (length-set c.pending irq true) refl refl
      refl
      (still_there c.pending irq))

  pub ticks_come : IsWhere img target p ceiling called s (pended systick m)
  ticks_come =
      subst (λ (k : Core). IsWhere img target p ceiling called (with_core s k) (pended systick m)) (sym w.owed)
      (asked_where c systick (pending_ticks_keep_phases at bottom img pl p c top m w.phase) refl refl refl refl refl
      refl
      (λ irq e. e))

pub requests_lead_on : RequestsLeadOn
unfolding happen
requests_lead_on img target p ceiling called s m irq there r l =
    let w = r.here in
    let c = w.unpaid in
    subst (λ (k : Core). Related img target p ceiling called (with_core s k) (pended (external irq) m))
    (sym (asked_paid img target p ceiling called there s m w irq))
    (asked_related img target p ceiling called there s m w (core_after_pend c irq) (external irq)
    (arrival img target p ceiling called there s m w irq) refl refl (length-set c.pending irq true) refl refl refl
    (still_there c.pending irq) (none_before img c irq) r.marks)

pub pending_ticks_lead_on : PendingTicksLeadOn
pending_ticks_lead_on img target p ceiling called s m there r =
    let w = r.here in
    subst (λ (k : Core). Related img target p ceiling called (with_core s k) (pended systick m)) (sym w.owed)
    (asked_related img target p ceiling called there s m w w.unpaid systick
    (pending_ticks_keep_phases (outside img target) (lowest img target p) img (places img target) p w.unpaid w.top m
    w.phase) refl refl refl refl refl refl (λ irq e. e) (λ e. e) r.marks)

-- what is executed late
module _ (at : Outside) (bottom : ℕ) (img : Image) (places : List ℕ) (p : Program) (c : Core) (top : ℕ) (m : Machine)
    (port : p.port ≡ at.port) where
  to_come_settled : IsToCome at bottom img places p c top m → m.is_unsettled ≡ false
  to_come_settled x =
      let low = x.first.register 13 in
      let begun = x.stands.stands in
      let apart = apart_of at bottom low top (length c.processor.cells) p x.stands.laid port begun.stack
      (omega (arith, x.ends, begun.frames)) in
      let own = private_is_unseen p low top x.passed x.first x.reached apart (omega arith) (omega (arith, x.ends))
      x.prepares in
      ap (λ (y : Machine). y.is_unsettled) x.now.rest
      ∙ not_so x.reached.is_unsettled (λ e. true_and_false x.first.is_unsettled (own.settled e) x.settled)

  left_has_next : (x : IsDone at bottom img places p c top m) → m.is_unsettled ≡ true → (left : List Instruction)
      → RunsPrivately p (x.last.register 13) top left m x.last → HasNext p m
  left_has_next x late [] run =
      absurd (true_and_false m.is_unsettled late (subst (λ (k : Machine). k.is_unsettled ≡ false) run x.settled))
  left_has_next x late (j ∷ js) run = done_has_next p (x.last.register 13) top j js m x.last run

pub late_instructions_lead_on : LateInstructionsLeadOn
late_instructions_lead_on img target p ceiling called fits s m there stays fitting r late =
    let w = r.here in
    let at = outside img target in
    let bottom = lowest img target p in
    let pl = places img target in
    let laid = subst (IsLaidOut at bottom) (sym w.cells) there.laid in
    let y = next_by img target p there m late w.unpaid w.top w.phase in
    let silent = what_is_late_is_nothing at bottom img pl p w.unpaid w.top m y.0.1 y.0.0 there.has laid w.phase late
    y.0.2 in (
      y.0.1,
      executes_so p y.0.0 m y.0.1 y.0.2,
      silence_leads_on img target p there ceiling called fits s m y.0.1 stays w y.0.0 y.0.2 y.1 silent,
      none_by_link p y.0.0 m y.0.1 y.0.2 (there.has.low m.address y.0.0 y.0.2.found)
          (silent.unseen.registers 14 (omega arith) (λ e. omega (arith, e)))
          (subst (λ (v : Machine). v.exception ≢ 0 → 0xF0000000 ≤ v.register 14) y.1.view
          (link_is_high at bottom (stack_top img target) ceiling target.inputs (calls_of target called) img pl p
          (others_tail (tail_of at bottom img pl p w.unpaid w.top m w.phase) w.tail) w.unpaid w.top
          (viewed at bottom img pl p w.unpaid w.top m w.phase) s.takings w.unpaid.below w.waiting)),
    )
  where
    alone : (img : Image) (target : Target) (p : Program) (k : Core) (high : ℕ) (m : Machine)
        → (phase : Phase (outside img target) (lowest img target p) img (places img target) p k high m)
        → IsOrdinary (outside img target) (lowest img target p) img (places img target) p k high m phase
        → IsAlone (outside img target) (lowest img target p) img (places img target) p k high m phase
    alone img target p k high m phase so =
        ordinary_alone (outside img target) (lowest img target p) img (places img target) p k high m phase so

    next_by : (img : Image) (target : Target) (p : Program) → IsInPlace img target p → (m : Machine)
        → m.is_unsettled ≡ true → (k : Core) (high : ℕ)
        → (phase : Phase (outside img target) (lowest img target p) img (places img target) p k high m)
        → HasNext p m × IsAlone (outside img target) (lowest img target p) img (places img target) p k high m phase
    next_by img target p there m late k high (ToCome x) =
        absurd (true_and_false m.is_unsettled late
        (to_come_settled (outside img target) (lowest img target p) img (places img target) p k high m
        there.has.port x))
    next_by img target p there m late k high (AlreadyDone x) = (
      left_has_next (outside img target) (lowest img target p) img (places img target) p k high m there.has.port x
          late x.left x.completes,
      alone img target p k high m (AlreadyDone x) tt,
    )
    next_by img target p there m late k high (Entering x) = (
      entering_has_next (outside img target) (lowest img target p) img (places img target) p there.has k high m x,
      alone img target p k high m (Entering x) tt,
    )
    next_by img target p there m late k high (Reads x) = absurd (true_and_false m.is_unsettled late x.settled)
    next_by img target p there m late k high (Calls x f) = absurd (true_and_false m.is_unsettled late x.settled)
    next_by img target p there m late k high (Tails core x same) =
        absurd (true_and_false m.is_unsettled late x.settled)
    next_by img target p there m late k high (Calling x) = (
      calling_has_next (outside img target) (lowest img target p) img (places img target) p there.has k high m x,
      alone img target p k high m (Calling x) tt,
    )
