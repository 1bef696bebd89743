-- An `alarm` that is to come, up to the store of its instant.
use Rattle.std.proofs.Common.{◌≡◌, ◌∙◌, ℕ, suc, ◌+◌, ◌/◌, ◌^◌, ◌<◌, ◌⊎◌, inl, inr, Bool, true, false}
use Rattle.std.proofs.Common.{List, [], ◌∷◌, ◌++◌, Option, Some, None, sym, refl, ap, subst, arith, length}
use Rattle.std.specs.Prelude.{if◌then◌else◌, nat_le, nat_lt, slice_get, slice_index}
use Rattle.rt_lemmas.proofs.Bools.{and_parts}
use Rattle.rt_lemmas.proofs.Lists.{all_front}
use Rattle.rt_code.specs.Effect.{next}
use Rattle.rt_code.specs.Image.{Image}
use Rattle.rt_code.specs.declared.instr.Instr.{Instr}
use Rattle.rt_code.specs.declared.instr.Instr.TheVariants as instr
use Rattle.rt_code.specs.declared.instr.Note.{Note}
use Rattle.rt_core.specs.Core.{Core}
use Rattle.rt_core.specs.Outcome.{Done}
use Rattle.rt_ids.specs.Operation.{wrapped_number as word}
use Rattle.rt_native.specs.Pieces.{address, read_slot}
use Rattle.rt_native.specs.Sequences as sequences
use Rattle.rt_native.specs.declared.outside.Outside.{Outside}
use Rattle.rt_thumb.specs.Machine.{Machine}
use Rattle.rt_thumb.specs.Step.{Program}
use Rattle.rt_thumb.specs.declared.instruction.Instruction.{Instruction}
use Rattle.rt_thumb.specs.declared.instruction.Instruction.TheVariants as instruction
use Rattle.rt_trace.specs.Label.{Stepped}
use Rattle.rt_trace.specs.declared.item.What.{What}
use Rattle.rt_trace.specs.declared.item.What.TheVariants as what
use Rattle.rt_native_laws.specs.Doing.{IsAt, UnlessTrapped, machine_code, seen_of}
use Rattle.rt_native_laws.specs.Going.{HasCode, IsNothing, LeavesOthers, StepsBy}
use Rattle.rt_native_laws.specs.Own.{AreSteady, Executes, RunsPrivately, Spans, StepsPrivately, is_steady}
use Rattle.rt_native_laws.specs.Phases.{IsSameAbove, IsToCome}
use Rattle.rt_native_laws.specs.Simulating.{seen_of_label}
use Rattle.rt_native_laws.specs.Standing.{HoldsWords, StandsFor, frames_end}
use Rattle.rt_native_laws.specs.InTail.{AtTime, IsInTail, alarm_tail, rung}
use Rattle.rt_native_laws.specs.Tail.{AlarmIsStored}
use Rattle.rt_native_laws.proofs.Accesses.{Prepared, prepare, runs_within}
use Rattle.rt_native_laws.proofs.Ending.{unless, first_there}
use Rattle.rt_native_laws.proofs.Items.{IsShownAsSaid, step_is_shown}
use Rattle.rt_native_laws.proofs.Keeping.{written}
use Rattle.rt_native_laws.proofs.Pieces.{moved, storing_is, other}
use Rattle.rt_native_laws.proofs.Prefixes.{same_some, same_next, same_run, rest_of, compare, Place, Before}
use Rattle.rt_native_laws.proofs.Prefixes.{There, Past}
use Rattle.rt_native_laws.proofs.Private.{private_is_unseen}
use Rattle.rt_native_laws.proofs.Requests.{alarm_memory, alarm_stands}
use Rattle.rt_native_laws.proofs.Shapes.{slot_with_address}
use Rattle.rt_native_laws.proofs.Silent.{goes_silently, own_apart, same_state}
use Rattle.rt_native_laws.proofs.Steady.{stack_run, words_after, words_run}
use Rattle.rt_native_laws.proofs.Tail.{not_alarm}
use Rattle.rt_native_laws.proofs.Stepping.{after_step, outcome_is}
use Rattle.rt_native_laws.proofs.Tests.{at_most, is_less, not_at_most}

-- an outcome by a test
by_test : (b : Bool) (c d : Core) (v w : Option What) (Holds : Core → Option What → Type 0) → (b ≡ true → Holds c v)
    → (b ≡ false → Holds d w) → UnlessTrapped (if b then Done c v else Done d w) Holds
by_test true c d v w Holds h k = h refl
by_test false c d v w Holds h k = k refl

module _ (at : Outside) (bottom : ℕ) (img : Image) (places : List ℕ) (p : Program) (code : HasCode at img places p)
    (s irq : ℕ) (small : irq < 2 ^ 9) (c : Core) (note : Option Note)
    (line : slice_get img.code c.processor.address ≡ Some (instr.Alarm s irq, note)) (top : ℕ) (first : Machine)
    (here : IsAt at bottom img places p (instr.Alarm s irq) c first) (ends : frames_end c first ≡ top)
    (settled : first.is_unsettled ≡ false) (there : s < length c.processor.slots) where
  abbrev i : Instr
  i = instr.Alarm s irq

  abbrev floor : ℕ
  floor = first.register 13

  abbrev end : ℕ
  end = slice_index places (suc c.processor.address)

  abbrev front : List Instruction
  front = read_slot 0 s ++ address 1 at.time

  abbrev commit : Instruction
  commit = instruction.Store 0 1 4

  abbrev instant : ℕ
  instant = slice_index c.processor.slots s

  text_is : machine_code at bottom img places p i c ≡ front ++ commit ∷ alarm_tail irq
  unfolding sequences.set_alarm
  text_is = refl

  prepared : (ready : Prepared at bottom img places p i c first here at.time s)
      × Spans p ready.middle (commit ∷ alarm_tail irq) end
  prepared =
      prepare at bottom img places p i c first here at.time s (commit ∷ alarm_tail irq) there
      (subst (λ (zs : List Instruction). Spans p first.address zs end) text_is here.code)

  abbrev ready : Machine
  ready = moved first prepared.0.register prepared.0.flags prepared.0.middle

  to_ready : RunsPrivately p floor top front first ready
  to_ready = runs_within p floor (frames_end c first) floor top front first ready refl (sym ends) prepared.0.runs

  -- the store
  abbrev a : ℕ
  a = at.time + 4

  abbrev stored : Machine
  stored = record ready { memory = written first.memory a instant; address = prepared.0.middle + 2 }

  stores : Executes p commit ready stored
  stores =
      let mem = alarm_memory at bottom img places p i c first here in
      record {
        found = prepared.1.0;
        does = storing_is p.port commit 0 (word (prepared.0.register 1 + 4)) a ready
            (omega (arith, prepared.0.address, mem.below)) mem
            ∙ ap (λ (v : ℕ). Some (record stored { memory = written first.memory a v })) prepared.0.slot;
      }

  abbrev unpaid : Core
  unpaid = record c { processor = next c.processor; alarm = Some (record { instant = instant; irq = irq }) }

  stack_there : ready.register 13 ≡ floor
  stack_there = prepared.0.others 13 (omega arith)

  ready_words : HoldsWords ready
  ready_words = words_run at img places p code floor top front first ready to_ready here.words

  -- behind the store the job is in the tail
  abbrev set_for : ℕ → Core
  set_for v = record c { processor = next c.processor; alarm = Some (record { instant = v; irq = irq }) }

  abbrev IsBehind : Core → Machine → Type 0
  IsBehind d y = (x : IsInTail at bottom img places p d top y) × (x.irq ≡ irq) × (x.unpaid ≡ set_for x.instant)

  in_tail : (owes : Bool) (d : Core) → nat_le instant c.time ≡ owes → d ≡ (if owes then rung irq unpaid else unpaid)
      → d.processor.address ≡ suc c.processor.address → IsBehind d stored
  in_tail owes d told debt address =
      let r = prepared.0 in
      let b = alarm_stands at bottom img places p i c first here (Some (record { instant = instant; irq = irq }))
      instant refl r.register (written first.memory a instant) r.flags end refl r.others (λ k. refl) in
      let to : end ≡ slice_index places d.processor.address = ap (slice_index places) (sym address) in (
        record {
          irq = irq;
          small = small;
          instant = instant;
          stage = AtTime;
          code = subst (λ (y : ℕ). Spans p (r.middle + 2) (alarm_tail irq) y) to prepared.1.1;
          unpaid = unpaid;
          owes = owes;
          debt = debt;
          has_come = λ e h. absurd (omega (arith, h, not_at_most instant c.time (told ∙ e)));
          set = inl refl;
          knows = (r.slot, r.address, λ e. at_most instant c.time (told ∙ e));
          laid = here.laid;
          stands = subst (λ (y : ℕ). StandsFor at bottom places unpaid (record stored { address = y })) to b.stands;
          ends = omega (arith, stack_there, ends);
          settled = settled;
          words = words_after at img places p code commit ready stored stores tt ready_words;
        },
        refl,
        refl,
      )

  leaves : LeavesOthers at top None ready stored
  leaves = record {
    registers = λ k h g. refl;
    memory = λ k h. other k (a / 4) instant (first.memory k) (not_alarm at bottom (length c.processor.cells) here.laid
        (ready.register 13) (stored.register 13) top k (omega (arith, stack_there, here.stands.frames)) h);
    exception = refl;
    active = refl;
    tick = refl;
    seen = refl;
  }

  -- the store is not private: it is no word of the job's part of the stack
  not_private : StepsPrivately p floor top commit ready stored → ⊥
  not_private steps =
      let within = (and_parts (nat_le (ready.register 13) (word (prepared.0.register 1 + 4)))
      (nat_lt (word (prepared.0.register 1 + 4)) top) steps.is_private).1 in
      omega (
        arith,
        is_less (word (prepared.0.register 1 + 4)) top within,
        prepared.0.address,
        ends,
        here.stands.frames,
        here.laid.time,
        here.laid.in_memory,
      )

  -- up to it there is a next one
  next_is : (passed : List Instruction) (next : Instruction) (left : List Instruction)
      → machine_code at bottom img places p i c ≡ passed ++ next ∷ left → (reached m : Machine)
      → RunsPrivately p floor top passed first reached → IsSameAbove floor reached m
      → (n : Machine) × Executes p next m n
  next_is passed next left parts reached m prepares now =
      by_place (compare passed next left front commit (alarm_tail irq) (sym parts ∙ text_is))
    where
      same_then : AreSteady passed → m ≡ reached
      same_then steady =
          same_state floor reached m now
          (stack_run at img places p code floor top passed first reached steady prepares) here.stands.aligned

      by_place : Place passed next left front commit (alarm_tail irq) → (n : Machine) × Executes p next m n
      by_place (Before rest f g) =
          let steady = all_front (λ j. is_steady j ≡ true) passed (next ∷ rest)
          (subst AreSteady f (slot_with_address s at.time)) in
          let t = rest_of p floor top passed (next ∷ rest) first reached ready
          (subst (λ (zs : List Instruction). RunsPrivately p floor top zs first ready) f to_ready) prepares in
          (t.0, subst (λ (k : Machine). Executes p next k t.0) (sym (same_then steady)) t.1.executes)
      by_place (There f g h) =
          let e : ready ≡ reached = same_run p floor top passed first ready reached
          (subst (λ (zs : List Instruction). RunsPrivately p floor top zs first ready) (sym f) to_ready) prepares in
          let here_now : m ≡ ready =
          same_then (subst AreSteady (sym f) (slot_with_address s at.time)) ∙ sym e in (
            stored,
            subst (λ (j : Instruction). Executes p j m stored) (sym g)
                (subst (λ (k : Machine). Executes p commit k stored) (sym here_now) stores),
          )
      by_place (Past more f g) =
          let t = rest_of p floor top front (commit ∷ more) first ready reached
          (subst (λ (zs : List Instruction). RunsPrivately p floor top zs first reached) f prepares) to_ready in
          let e = same_next p commit commit ready t.0 stored t.1.executes stores in
          absurd (not_private (subst (λ (k : Machine). StepsPrivately p floor top commit ready k) e t.1))

  module _ (owes : Bool) (d : Core) (told : nat_le instant c.time ≡ owes)
      (debt : d ≡ (if owes then rung irq unpaid else unpaid))
      (address : d.processor.address ≡ suc c.processor.address) (passed : List Instruction) (next : Instruction)
      (left : List Instruction) (parts : machine_code at bottom img places p i c ≡ passed ++ next ∷ left)
      (reached m n : Machine) (prepares : RunsPrivately p floor top passed first reached)
      (now : IsSameAbove floor reached m) (executed : Instruction) (exec : Executes p executed m n) where
    abbrev Silent : Type 0
    Silent = IsNothing at bottom img places p c top m n (length c.processor.slots)

    abbrev Stored : Type 0
    Stored =
        (x : IsInTail at bottom img places p d top n) × (x.irq ≡ irq) × (x.unpaid ≡ set_for x.instant)
        × LeavesOthers at top None m n

    same_there : AreSteady passed → m ≡ reached
    same_there steady =
        same_state floor reached m now (stack_run at img places p code floor top passed first reached steady prepares)
        here.stands.aligned

    -- before the store
    silent : (rest ys : List Instruction) (y : Instruction) → front ≡ passed ++ next ∷ rest → left ≡ y ∷ ys → Silent
    silent rest ys y f g =
        let steady = all_front (λ j. is_steady j ≡ true) passed (next ∷ rest)
        (subst AreSteady f (slot_with_address s at.time)) in
        let e = same_there steady in
        let t = rest_of p floor top passed (next ∷ rest) first reached ready
        (subst (λ (zs : List Instruction). RunsPrivately p floor top zs first ready) f to_ready) prepares in
        let to = same_next p next executed reached t.0 n t.1.executes
        (subst (λ (k : Machine). Executes p executed k n) e exec) in
        let apart = own_apart at bottom img places p i note c line top first here ends settled in
        let own = private_is_unseen p floor top passed first reached apart (omega arith) (omega (arith, ends)) prepares
        in
        subst (λ (k : Machine). IsNothing at bottom img places p c top k n (length c.processor.slots)) (sym e)
        (goes_silently at bottom img places p i note c line top first here ends settled tt passed next y ys
        (parts ∙ ap (λ (zs : List Instruction). passed ++ next ∷ zs) g) reached n prepares own.stack.0 own.stack.1
        (subst (λ (k : Machine). StepsPrivately p floor top next reached k) to t.1))

    before : (rest : List Instruction) → front ≡ passed ++ next ∷ rest → left ≡ rest ++ commit ∷ alarm_tail irq
        → Silent
    before [] f g = silent [] (alarm_tail irq) commit f g
    before (z ∷ zs) f g = silent (z ∷ zs) (zs ++ commit ∷ alarm_tail irq) z f g

    -- the store
    at_store : passed ≡ front → next ≡ commit → Stored
    at_store f g =
        let e : ready ≡ reached = same_run p floor top passed first ready reached
        (subst (λ (zs : List Instruction). RunsPrivately p floor top zs first ready) (sym f) to_ready) prepares in
        let here_now : m ≡ ready =
        same_there (subst AreSteady (sym f) (slot_with_address s at.time)) ∙ sym e in
        let to : stored ≡ n = same_next p commit executed ready stored n stores
        (subst (λ (k : Machine). Executes p executed k n) here_now exec) in
        let x : IsBehind d n = subst (IsBehind d) to (in_tail owes d told debt address) in (
          x.0,
          x.1,
          x.2,
          subst (λ (k : Machine). LeavesOthers at top None k n) (sym here_now)
              (subst (λ (k : Machine). LeavesOthers at top None ready k) to leaves),
        )

    by_place : Place passed next left front commit (alarm_tail irq) → Silent ⊎ Stored
    by_place (Before rest f g) = inl (before rest f g)
    by_place (There f g h) = inr (at_store f g)
    by_place (Past more f g) =
        let t = rest_of p floor top front (commit ∷ more) first ready reached
        (subst (λ (zs : List Instruction). RunsPrivately p floor top zs first reached) f prepares) to_ready in
        let e = same_next p commit commit ready t.0 stored t.1.executes stores in
        absurd (not_private (subst (λ (k : Machine). StepsPrivately p floor top commit ready k) e t.1))

    goes : Silent ⊎ Stored
    goes = by_place (compare passed next left front commit (alarm_tail irq) (sym parts ∙ text_is))

pub alarm_is_stored : AlarmIsStored
alarm_is_stored at bottom img places p s irq c d said top m n executed code small st x exec =
    let i = instr.Alarm s irq in
    let e : x.instruction ≡ i =
    ap (λ (y : Instr × Option Note). y.0) (same_some (x.instruction, x.note) (i, st.note) (sym x.line ∙ st.line)) in
    let here : IsAt at bottom img places p i c x.first =
    subst (λ (j : Instr). IsAt at bottom img places p j c x.first) e x.stands in
    let parts : machine_code at bottom img places p i c ≡ x.passed ++ x.next ∷ x.left =
    ap (λ (j : Instr). machine_code at bottom img places p j c) (sym e) ∙ x.parts in
    let Holds : Core → Option What → Type 0 = λ k own.
    IsNothing at bottom img places p c top m n (length c.processor.slots)
    ⊎ ((x : IsInTail at bottom img places p k top n) × (x.irq ≡ irq) × (x.unpaid ≡ record c {
      processor = next c.processor;
      alarm = Some (record { instant = x.instant; irq = irq });
    }) × LeavesOthers at top None m n) in
    after_step img i c d said st Holds (unless img c i Holds (λ cells slots.
    let there = (first_there s [] c.processor.slots slots).0 in
    let instant = slice_index c.processor.slots s in
    let unpaid = record c { processor = next c.processor; alarm = Some (record { instant = instant; irq = irq }) } in
    by_test (nat_le instant c.time) (rung irq unpaid) unpaid (Some what.Alarm) (Some what.AlarmSet) Holds
    (λ due. goes at bottom img places p code s irq small c st.note st.line top x.first here x.ends x.settled there true
    (rung irq unpaid) due refl refl x.passed x.next x.left parts x.reached m n x.prepares x.now executed exec)
    (λ due. goes at bottom img places p code s irq small c st.note st.line top x.first here x.ends x.settled there false
    unpaid due refl refl x.passed x.next x.left parts x.reached m n x.prepares x.now executed exec)))

-- an alarm that is to come goes on
pub alarm_has_next : (at : Outside) (bottom : ℕ) (img : Image) (places : List ℕ) (p : Program)
    → HasCode at img places p → (s irq : ℕ) → irq < 2 ^ 9 → (c d : Core) (said : Option What)
    → StepsBy img (instr.Alarm s irq) c d said → (top : ℕ) (m : Machine) → IsToCome at bottom img places p c top m
    → (executed : Instruction) × (n : Machine) × Executes p executed m n
alarm_has_next at bottom img places p code s irq small c d said st top m x =
    let i = instr.Alarm s irq in
    let e : x.instruction ≡ i =
    ap (λ (y : Instr × Option Note). y.0) (same_some (x.instruction, x.note) (i, st.note) (sym x.line ∙ st.line)) in
    let here : IsAt at bottom img places p i c x.first =
    subst (λ (j : Instr). IsAt at bottom img places p j c x.first) e x.stands in
    let parts : machine_code at bottom img places p i c ≡ x.passed ++ x.next ∷ x.left =
    ap (λ (j : Instr). machine_code at bottom img places p j c) (sym e) ∙ x.parts in
    let Holds : Core → Option What → Type 0 = λ k own. s < length c.processor.slots in
    let there : s < length c.processor.slots =
    after_step img i c d said st Holds (unless img c i Holds (λ cells slots.
    let there = (first_there s [] c.processor.slots slots).0 in
    by_test (nat_le (slice_index c.processor.slots s) c.time) _ _ _ _ Holds (λ due. there) (λ due. there))) in
    let y = next_is at bottom img places p code s irq small c st.note st.line top x.first here x.ends x.settled there
    x.passed x.next x.left parts x.reached m x.prepares x.now in
    (x.next, y.0, y.1)

-- of an alarm others see nothing at its step
pub alarm_is_unseen : (img : Image) (s irq : ℕ) (c d : Core) (said : Option What)
    → StepsBy img (instr.Alarm s irq) c d said → seen_of_label (Stepped said) ≡ []
alarm_is_unseen img s irq c d said st =
    let i = instr.Alarm s irq in
    let shown : IsShownAsSaid said = step_is_shown img i c d said st
    (unless img c i (λ k w. IsShownAsSaid w) (λ cells slots.
    by_test (nat_le (slice_index c.processor.slots s) c.time) _ _ (Some what.Alarm) (Some what.AlarmSet)
    (λ k w. IsShownAsSaid w) (λ due. refl) (λ due. refl))) in
    let own : seen_of (outcome_is img i c d said st).own ≡ [] =
    after_step img i c d said st (λ k w. seen_of w ≡ []) (unless img c i (λ k w. seen_of w ≡ []) (λ cells slots.
    by_test (nat_le (slice_index c.processor.slots s) c.time) _ _ (Some what.Alarm) (Some what.AlarmSet)
    (λ k w. seen_of w ≡ []) (λ due. refl) (λ due. refl))) in
    shown ∙ (sym (outcome_is img i c d said st).same ∙ own)
