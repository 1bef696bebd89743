-- The interrupts that wait are those that the application has wait, as one comes to be pending and as one is taken.
use Rattle.std.proofs.Common.{◌≡◌, ◌≢◌, ℕ, ◌<◌, ◌≤◌, ◌==◌, nat_lt, Bool, true, false, ◌&&◌, if◌then◌else◌}
use Rattle.std.proofs.Common.{List, [], ◌∷◌, map, replicate, Contains, slice_get, slice_set, slice_index_or}
use Rattle.std.proofs.Common.{Option, Some, None, IsSome, is_some, option_map, refl, sym, ap, subst, ◌∙◌, arith}
use Rattle.std.proofs.Common.{◌⊎◌, inl, inr}
use Rattle.std.proofs.lemmas.Bool.{ltb-true, cases_eq, cases_lt}
use Rattle.std.proofs.lemmas.List.{get_or-set_other}
use Rattle.rt_lemmas.proofs.Bools.{true_and_false}
use Rattle.rt_lemmas.proofs.Lists.{mapped_at, found_passes}
use Rattle.rt_lemmas.proofs.Membership.{all_at}
use Rattle.rt_lemmas.proofs.Indices.{now_cleared}
use Rattle.rt_ids.specs.Lists.{AreDifferent, is_some_and, or_zero}
use Rattle.rt_trace.specs.Label.{Rang}
use Rattle.rt_ids.specs.declared.limits.TheConstants.{IRQ_NUMBERS}
use Rattle.rt_app.specs.declared.app.IrqDecl.{IrqDecl}
use Rattle.rt_app.specs.Tree.{App}
use Rattle.rt_app.specs.Accepted.{IsAccepted}
use Rattle.rt_app.specs.Handlers.{Service, services, irq_number}
use Rattle.rt_app.proofs.Sound.{accepted_are_sound}
use Rattle.rt_app.proofs.Different.{contained}
use Rattle.rt_laws.specs.Acting.{state_after_pend}
use Rattle.rt_laws.specs.Allowed.{after}
use Rattle.rt_laws.specs.Preemption.{goes_before}
use Rattle.rt_laws.specs.Services.{service_at, priority_of, timer_number}
use Rattle.rt_laws.specs.State as laws
use Rattle.rt_laws.proofs.Pending.{some_number, made_number}
use Rattle.rt_baker_moves.specs.State.{AuditorState, with_jobs, StateIs}
use Rattle.rt_baker_moves.specs.Waiting.{insert_before, chosen_in_order, waits, waiting_irqs}
use Rattle.rt_baker_moves.specs.Inside.Acts.{held_after_pend}
use Rattle.rt_baker_moves.specs.Inside.Starts.{held_after_take}
use Rattle.rt_baker_moves.specs.Inside.Waiting.{waiting_with, without}
use Rattle.rt_baker_moves.proofs.Resets.{copies_read}
use Rattle.rt_baker_moves.proofs.Waiting.{one_way, some_way, onward, ordered_alike, ordered_more, ordered_less, not_yet}
use Rattle.rt_baker_moves.proofs.Waiting.{now_set, set_already}

module _ (app : App) where
  abbrev pub numbers : List ℕ
  numbers = map (λ d. d.number) app.irqs

  -- what is served is declared
  served_declared : (irq : ℕ) (o : Option Service) → service_at app irq ≡ o
      → nat_lt 0 (or_zero (option_map (λ s. s.priority) o)) ≡ true → (index : ℕ) × (d : IrqDecl) × (slice_get app.irqs
      index ≡ Some d) × (d.number ≡ irq)
  served_declared irq None at above = absurd (let some = ltb-true 0 0 above in omega arith)
  served_declared irq (Some v) at above =
      let passes = found_passes (λ (s : Service). is_some_and (λ n. n == irq) (irq_number app s.irq)) (services app) v
      at in
      let row = made_number (λ d. d.number) (slice_get app.irqs v.irq) irq (some_number (irq_number app v.irq) irq
      passes) in
      (v.irq, row.0, row.1, row.2)

  declared : (irq : ℕ) → nat_lt 0 (priority_of app irq) ≡ true → Contains numbers irq
  declared irq above =
      let row = served_declared irq (service_at app irq) refl above in
      contained numbers row.0 irq (mapped_at (λ d. d.number) app.irqs row.0 row.1 row.2 ∙ ap Some row.3)

  -- nothing serves a number beyond those of interrupts
  pub none_beyond : IsAccepted app → (irq : ℕ) → IRQ_NUMBERS ≤ irq → nat_lt 0 (priority_of app irq) ≡ false
  none_beyond accepted irq beyond = go (nat_lt 0 (priority_of app irq)) refl
    where
      go : (b : Bool) → nat_lt 0 (priority_of app irq) ≡ b → b ≡ false
      go false e = refl
      go true e =
          let row = served_declared irq (service_at app irq) refl e in
          let small : row.1.number < IRQ_NUMBERS =
          all_at (λ (d : IrqDecl). d.number < IRQ_NUMBERS) app.irqs row.0 row.1 accepted.limits.irq_numbers row.2 in
          let same : row.1.number ≡ irq = row.3 in
          absurd (omega arith)

  -- an interrupt of such a number does not wait
  pub unserved : {X : Type 0} → IsAccepted app → (irq : ℕ) (o : Option X) → o ≡ None → (irq < IRQ_NUMBERS → IsSome o)
      → (waiting : List ℕ) → waiting ≡ waiting_with app irq waiting
  unserved accepted irq o none within waiting = go (cases_lt irq IRQ_NUMBERS)
    where
      go : (irq < IRQ_NUMBERS) ⊎ (IRQ_NUMBERS ≤ irq) → waiting ≡ waiting_with app irq waiting
      go (inl small) = absurd (true_and_false (is_some o) (within small) (ap is_some none))
      go (inr beyond) =
          sym (ap (λ (b : Bool). if b then insert_before (goes_before app) irq waiting else waiting)
          (none_beyond accepted
          irq beyond))

  numbers_differ : IsAccepted app → AreDifferent numbers
  numbers_differ accepted = (accepted_are_sound app accepted).numbers_differ

  -- an interrupt that is not pending yet comes to be so
  module _ (accepted : IsAccepted app) (pending : List Bool) (irq : ℕ) where
    queued_waits : slice_index_or pending irq true ≡ false → (b : Bool) → nat_lt 0 (priority_of app irq) ≡ b
        → (if b then insert_before (goes_before app) irq (waiting_irqs app pending) else waiting_irqs app pending)
        ≡ waiting_irqs app (slice_set pending irq true)
    unfolding waiting_irqs
    queued_waits fresh true above =
        sym (ordered_more (goes_before app) (one_way (priority_of app)) (some_way (priority_of app)) (onward
        (priority_of app)) (waits app pending) (waits app (slice_set pending irq true)) irq
        (ap (λ (b : Bool). b && nat_lt 0 (priority_of app irq)) (not_yet pending irq fresh))
        (ap (λ (b : Bool). b && nat_lt 0 (priority_of app irq)) (now_set pending irq fresh) ∙ above)
        (λ x other. ap (λ (b : Bool). b && nat_lt 0 (priority_of app x)) (sym (get_or-set_other pending irq x true false
        other)))
        numbers (numbers_differ accepted) (declared irq above))
    queued_waits fresh false none =
        ordered_alike (goes_before app) (one_way (priority_of app)) (some_way (priority_of app)) (onward (priority_of
        app)) (waits app pending) (waits app (slice_set pending irq true)) numbers
        (λ x is. alike x (cases_eq x irq))
      where
        never : (b : Bool) → (b && nat_lt 0 (priority_of app irq)) ≡ false
        never true = none
        never false = refl

        alike : (x : ℕ) → (x ≡ irq) ⊎ (x ≢ irq) → waits app pending x ≡ waits app (slice_set pending irq true) x
        alike x (inl same) =
            subst (λ (n : ℕ). waits app pending n ≡ waits app (slice_set pending irq true) n) (sym same) (never
            (slice_index_or pending irq false) ∙ sym (never (slice_index_or (slice_set pending irq true) irq false)))
        alike x (inr other) =
            ap (λ (b : Bool). b && nat_lt 0 (priority_of app x)) (sym (get_or-set_other pending irq x true false other))

    pub now_waiting : slice_index_or pending irq true ≡ false
        → waiting_with app irq (waiting_irqs app pending) ≡ waiting_irqs app (slice_set pending irq true)
    now_waiting fresh = queued_waits fresh (nat_lt 0 (priority_of app irq)) refl

    -- an interrupt is pending no longer
    pub still_waiting : without irq (waiting_irqs app pending) ≡ waiting_irqs app (slice_set pending irq false)
    unfolding waiting_irqs
    still_waiting =
        ordered_less (goes_before app) (one_way (priority_of app)) (some_way (priority_of app)) (onward (priority_of
        app)) (waits app pending) (waits app (slice_set pending irq false)) irq
        (ap (λ (b : Bool). b && nat_lt 0 (priority_of app irq)) (now_cleared pending irq))
        (λ x other. ap (λ (b : Bool). b && nat_lt 0 (priority_of app x)) (get_or-set_other pending irq x false false
        other))
        numbers (numbers_differ accepted)

  -- nothing is pending
  none_ordered : (n : ℕ) (irqs : List ℕ) → chosen_in_order (waits app (replicate n false)) (goes_before app) irqs ≡ []
  none_ordered n [] = refl
  none_ordered n (x ∷ xs) =
      ap (λ (b : Bool). if b && nat_lt 0 (priority_of app x) then insert_before (goes_before app) x
      (chosen_in_order (waits app
      (replicate n false)) (goes_before app) xs) else chosen_in_order (waits app (replicate n false)) (goes_before app)
      xs)
      (copies_read false n x)
      ∙ none_ordered n xs

  pub none_waiting : (n : ℕ) → waiting_irqs app (replicate n false) ≡ []
  unfolding waiting_irqs
  none_waiting n = none_ordered n numbers

-- an interrupt comes to be pending in the state that is kept
pub pended_stands : (app : App) → IsAccepted app → (irq : ℕ) (s : AuditorState) (t : laws.State) → StateIs app s t
    → StateIs app (held_after_pend app irq s) (state_after_pend irq t)
pended_stands app accepted irq s t h = go (slice_index_or s.pending irq true) refl
  where
    go : (b : Bool) → slice_index_or s.pending irq true ≡ b → StateIs app (if b then s else record s {
      pending =
          slice_set s.pending irq true;
      waiting = waiting_with app irq s.waiting;
    }) (state_after_pend irq t)
    go true e = record {
      jobs = h.jobs;
      is = ap (state_after_pend irq) h.is
          ∙ ap (λ (ps : List Bool). record (with_jobs s t.jobs) { pending = ps }) (set_already s.pending irq e);
      waiting = h.waiting;
    }
    go false e = record {
      jobs = h.jobs;
      is = ap (state_after_pend irq) h.is;
      waiting = ap (waiting_with app irq) h.waiting ∙ now_waiting app accepted s.pending irq e;
    }

-- the machine's state, where an interrupt is pending no longer
abbrev pub taken_from : ℕ → laws.State → laws.State
taken_from irq t = record t { pending = slice_set t.pending irq false }

pub taken_stands : (app : App) → IsAccepted app → (irq : ℕ) (s : AuditorState) (t : laws.State) → StateIs app s t
    → StateIs app (held_after_take irq s) (taken_from irq t)
taken_stands app accepted irq s t h = record {
  jobs = h.jobs;
  is = ap (taken_from irq) h.is;
  waiting = ap (without irq) h.waiting ∙ still_waiting app accepted s.pending irq;
}

-- the alarm of a tick has come
abbrev pub silenced : AuditorState → AuditorState
silenced s = record s { alarm = None; owing = false }

pub rung : (app : App) → IsAccepted app → (s old new : AuditorState) (n : ℕ) → old ≡ s → n ≡ timer_number app
    → new ≡ held_after_pend app n (silenced old) → (t : laws.State) → StateIs app s t
    → StateIs app new (after app t Rang)
rung app accepted s old new n view timer is t h =
    let silent : StateIs app (silenced s) (record t { alarm = None; owing = false }) = record {
      jobs = h.jobs;
      is = ap (λ (u : laws.State). record u { alarm = None; owing = false }) h.is;
      waiting = h.waiting;
    } in
    subst (λ (k : AuditorState). StateIs app k (after app t Rang))
    (sym (is ∙ ap (λ (k : AuditorState). held_after_pend app n (silenced k))
    view ∙ ap (λ (m : ℕ). held_after_pend app m (silenced s)) timer))
    (pended_stands app accepted (timer_number app) (silenced s) (record t { alarm = None; owing = false }) silent)
