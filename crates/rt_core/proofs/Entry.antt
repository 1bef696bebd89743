-- Exception entry on the code's parts is exception entry on the core.
use Rattle.std.proofs.Common.{◌≡◌, ℕ, suc, ◌+◌, ◌-◌, ◌*◌, ◌%◌, ◌^◌, ◌<◌, ◌≤◌, Bool, true, false, nat_lt, min}
use Rattle.std.proofs.Common.{if◌then◌else◌, List, [], ◌∷◌, length, replicate, Option, Some, None, option_map}
use Rattle.std.proofs.Common.{unwrap_or, slice_index_or, slice_set, refl, sym, ap, subst, ⊎_elim, ◌∙◌, arith}
use Rattle.std.proofs.lemmas.Bool.{cases_lt}
use Rattle.std.proofs.lemmas.Bool.Decides.{nat_tests}
use Rattle.rt_lemmas.proofs.Bools.{and_parts}
use Rattle.rt_ids.specs.declared.limits.TheConstants.{IRQ_NUMBERS}
use Rattle.rt_code.specs.Image.{Image, entry_words}
use Rattle.rt_code.specs.declared.image.IrqRow.{IrqRow}
use Rattle.rt_code.specs.declared.image.Handler.{Handler}
use Rattle.rt_code.specs.declared.processor.Trap.TheVariants as trap
use Rattle.rt_context.specs.Frames.{Saved, Frames}
use Rattle.rt_context.specs.Frames as frame
use Rattle.rt_context.specs.Moves as moves
use Rattle.rt_nvic.specs.Nvic.{Nvic}
use Rattle.rt_code.specs.Tables.{handler_of}
use Rattle.rt_core.specs.Core.{Context, Core, exception_number, frames_of, depth}
use Rattle.rt_core.specs.Priority.{running_value, base_value, mask_value, value_or_none, execution, can_preempt, pick}
use Rattle.rt_trace.specs.declared.item.What.TheVariants as what
use Rattle.rt_core.specs.Outcome.{Outcome, Trapped, Done}
use Rattle.rt_core.specs.Stepping as stepping
use Rattle.rt_core.specs.Transfer as transfer
use Rattle.rt_core.specs.Inside.Execution.{execution_of}
use Rattle.rt_core.specs.Inside.Parts.{contexts, core, IsFalling, IsSound, machine}
use Rattle.rt_core.specs.declared.machine.Core.TheInside.{Inside}
use Rattle.rt_core.specs.Machine.{Machine}
use Rattle.rt_core.proofs.Picking.{IsNext, next_row}
use Rattle.rt_core.proofs.Calls.{room_alike}
use Rattle.rt_core.proofs.Contexts.{depth_is}

-- what is known of the interrupt that is picked, by the value that the parts stand for
pub next_of : (c : Inside) → IsSound c → (m : Machine) → machine c ≡ m → (irq : ℕ)
    → option_map (λ row. row.number) (pick m.image m.core) ≡ Some irq
    → IsNext c.program (core c) irq
next_of c sound m is irq h =
    next_row c.program sound.runnable (core c) irq
    (ap (λ (m : Machine). option_map (λ row. row.number) (pick m.image m.core)) is ∙ h)

-- with at most 7 priority bits the lowest bit of a value is 0
pub even_value : (bits value : ℕ) → 3 ≤ bits → bits ≤ 7 → value % 2 ^ (8 - bits) ≡ 0 → value % 2 ≡ 0
even_value bits value few many h =
    ⊎_elim (λ l. let e : bits ≡ 3 = omega (arith, l, few) in at 3 e (λ k. omega (arith, k)))
    (λ l. ⊎_elim (λ m. let e : bits ≡ 4 = omega (arith, l, m) in at 4 e (λ k. omega (arith, k)))
    (λ m. ⊎_elim (λ n. let e : bits ≡ 5 = omega (arith, m, n) in at 5 e (λ k. omega (arith, k)))
    (λ n. ⊎_elim (λ o. let e : bits ≡ 6 = omega (arith, n, o) in at 6 e (λ k. omega (arith, k)))
    (λ o. let e : bits ≡ 7 = omega (arith, o, many) in at 7 e (λ k. k)) (cases_lt bits 7)) (cases_lt bits 6))
    (cases_lt bits 5)) (cases_lt bits 4)
  where
    at : (b : ℕ) → bits ≡ b → (value % 2 ^ (8 - b) ≡ 0 → value % 2 ≡ 0) → value % 2 ≡ 0
    at b e f = f (subst (λ b. value % 2 ^ (8 - b) ≡ 0) e h)

-- each handler's value is at least 2 less than what it interrupted
pub few_contexts : (below : List Context) → IsFalling below → running_value below + 2 * length below ≤ 256
    × (running_value below % 2 ≡ 0)
few_contexts [] falling = (omega arith, refl)
few_contexts (x ∷ below) falling =
    let before = few_contexts below falling.2 in
    let less = falling.0 in
    let even = falling.1 in
    (omega (arith, before.0, before.1, less, even), even)

pub length_of_contexts : (priorities : List (Option ℕ)) (active : List ℕ) (below : List Saved) → length active
    ≡ length below → length (contexts priorities active below) ≡ length active
length_of_contexts priorities [] below long = refl
length_of_contexts priorities (i ∷ active) [] long = absurd (omega (arith, long))
length_of_contexts priorities (i ∷ active) (s ∷ below) long =
    let rest = length_of_contexts priorities active below (omega (arith, long)) in omega (arith, rest)

-- an interrupt that can preempt is of a higher priority than the handler that runs
pub above_running : (c : Core) (x : IrqRow) (h : Handler) → can_preempt c x ≡ true → x.handler ≡ Some h
    → h.value < running_value c.below
above_running c x h passes handler =
    let parts = and_parts (slice_index_or c.pending x.number false) (nat_lt (value_or_none x.handler) (execution c))
    passes in
    let less : value_or_none x.handler < execution c = let t = parts.1 in grind (arith, nat_tests) in
    let value : value_or_none x.handler ≡ h.value = ap value_or_none handler in
    let low = min_low (running_value c.below) (min (base_value c.processor.basepri) (mask_value c.processor.primask)) in
    omega (arith, less, value, low)
  where
    min_low : (a b : ℕ) → min a b ≤ a
    min_low a b = grind arith

-- what comes of an entry whose frame has room or not
abbrev pub entry_outcome : Image → Core → ℕ → Handler → Bool → Outcome
entry_outcome img c irq h fits = if fits then Done (transfer.core_after_entry c irq h)
    (Some (what.Take irq (depth img (transfer.core_after_entry c irq h)))) else Trapped c trap.Stack

pub enter_is : (c : Inside) → IsSound c → (irq : ℕ) (h : Handler) → transfer.exception_entry c.program (core c) irq
    (Some h) ≡ entry_outcome c.program (core c) irq h (moves.has_room c.frames (c.frames.entry + h.frame))
enter_is c sound irq h =
    ap (entry_outcome c.program (core c) irq h)
    (sym (room_alike c.program (core c) (entry_words c.program + h.frame))
    ∙ ap (λ (f : Frames). moves.has_room f (f.entry + h.frame)) (sym sound.frames))

module _ (c : Inside) (sound : IsSound c) (irq : ℕ) (h : Handler) (handler : handler_of c.program irq ≡ Some h)
    (next : IsNext c.program (core c) irq) where
  handler_is : next.row.handler ≡ Some h
  handler_is = sym next.handler ∙ handler

  pub attempt_is : stepping.attempt c.program (core c) (pick c.program (core c))
      ≡ transfer.exception_entry c.program (core c) irq (Some h)
  attempt_is =
      ap (stepping.attempt c.program (core c)) next.picked
      ∙ ap (λ n. transfer.exception_entry c.program (core c) n next.row.handler) next.number
      ∙ ap (transfer.exception_entry c.program (core c) irq) handler_is

  pub is_above : h.value < running_value (core c).below
  is_above = above_running (core c) next.row h next.passes handler_is

  pub is_even : h.value % 2 ≡ 0
  is_even =
      even_value c.program.bits h.value sound.runnable.sizes.few_bits sound.runnable.sizes.many_bits
      (sound.runnable.rows.values next.is_in.0 next.row h next.is_in.1 handler_is)

  pub few_active : length c.nvic.active < 128
  few_active =
      let few = few_contexts (core c).below sound.falling in
      let above = is_above in
      let even = is_even in
      let long = length_of_contexts c.nvic.priorities c.nvic.active c.frames.below sound.active in
      omega (arith, few.0, few.1, above, even, long)

  pub is_pending_still : slice_index_or c.nvic.pending irq false ≡ true
  is_pending_still =
      subst (λ n. slice_index_or c.nvic.pending n false ≡ true) next.number
      (and_parts (slice_index_or c.nvic.pending next.row.number false)
      (nat_lt (value_or_none next.row.handler) (execution (core c))) next.passes).0

  module _ (n : Nvic) (pending : n.pending ≡ slice_set c.nvic.pending irq false)
      (active : n.active ≡ irq ∷ c.nvic.active) (priorities : n.priorities ≡ c.nvic.priorities)
      (within : irq < IRQ_NUMBERS)
      (kept : ℕ) (renewed : kept ≡ execution_of n c.registers) where
    -- the parts after entry
    abbrev pub after : Inside
    after = record c {
      nvic = n;
      execution = kept;
      frames = moves.frames_after_entry c.frames (exception_number (core c).below) c.registers.address h.frame;
      registers = record c.registers { address = h.entry };
    }

    value_is : unwrap_or (slice_index_or c.nvic.priorities irq None) 256 ≡ h.value
    value_is = ap (λ o. unwrap_or o 256) (sound.priorities irq within ∙ ap (option_map (λ h. h.value)) handler)

    pub core_after : core after ≡ transfer.core_after_entry (core c) irq h
    core_after =
        ap (λ (k : Nvic). core (record after { nvic = k }))
        (λ i. record { priorities = priorities i; pending = pending i; active = active i })
        ∙ ap (λ v. record (transfer.core_after_entry (core c) irq h) {
          below = record {
            irq = irq;
            value = v;
            address = c.registers.address;
            slots = c.frames.slots;
            caller =
                c.frames.caller;
          } ∷ (core c).below;
        }) value_is

    frames_after : after.frames ≡ frames_of c.program (core after)
    frames_after =
        (λ i. record {
          size = (sound.frames i).size;
          entry = (sound.frames i).entry;
          slots = replicate h.frame 0;
          caller = None;
          below = record {
            number = exception_number (core c).below;
            address = c.registers.address;
            slots =
                c.frames.slots;
            caller = c.frames.caller;
          } ∷ (sound.frames i).below;
        })
        ∙ ap (frames_of c.program) (sym core_after)

    pub sound_after : IsSound after
    sound_after = record {
      runnable = sound.runnable;
      frames = frames_after;
      priorities = λ k l. ap (λ ps. slice_index_or ps k None) priorities ∙ sound.priorities k l;
      active = ap length active ∙ ap suc sound.active;
      falling = subst (λ (k : Core). IsFalling k.below) (sym core_after) (is_above, is_even, sound.falling);
      execution = renewed;
    }

    -- with the frames that the code has, which are these
    pub entered_parts : (f : Frames) → f ≡ after.frames → (core (record after { frames = f })
        ≡ transfer.core_after_entry (core c) irq h)
        × (frame.depth f ≡ depth c.program (transfer.core_after_entry (core c) irq h))
    entered_parts f is =
        let here = ap (λ (g : Frames). core (record after { frames = g })) is ∙ core_after in (
          here,
          ap frame.depth is ∙ (ap frame.depth frames_after
              ∙ (depth_is c.program (core after) ∙ ap (depth c.program) core_after)),
        )
