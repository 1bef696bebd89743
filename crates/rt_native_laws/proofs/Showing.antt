-- What runs shows the core's masks, cells, time, alarm and requests.
use Rattle.std.proofs.Common.{◌≡◌, ◌∙◌, ℕ, ◌+◌, ◌*◌, ◌/◌, ◌%◌, ◌≤◌, inr}
use Rattle.std.proofs.Common.{true, List, Option, Some, None, IfSome, refl, sym, ap, subst, arith, length}
use Rattle.std.specs.Prelude.{if◌then◌else◌}
use Rattle.rt_code.specs.Image.{Image}
use Rattle.rt_core.specs.Core.{Core}
use Rattle.rt_core.specs.Priority.{execution}
use Rattle.rt_native.specs.Service.{is_called}
use Rattle.rt_native.specs.declared.outside.Outside.{Outside}
use Rattle.rt_native.specs.declared.target.Input.{Input}
use Rattle.rt_thumb.specs.Exceptions.{external}
use Rattle.rt_thumb.specs.Machine.{Machine, word_at}
use Rattle.rt_thumb.specs.Step.{Program}
use Rattle.rt_native_laws.specs.InTail.{Debt, IsInTail, rung}
use Rattle.rt_native_laws.specs.Moments.{HasJustRead, Last, settled_words}
use Rattle.rt_native_laws.specs.Own.{ChangesItsOwn}
use Rattle.rt_native_laws.specs.Phases.{IsToCome, IsDone, IsEntering, IsCalling, OthersRan, Phase, ToCome, AlreadyDone}
use Rattle.rt_native_laws.specs.InCall.{Within}
use Rattle.rt_native_laws.specs.Phases.{Calling, Calls, Entering, FunctionCall, Reads, Tails, call_of, kept_words}
use Rattle.rt_native_laws.specs.Phases.{reads_from, tail_of, viewed}
use Rattle.rt_native_laws.specs.Reading.{IsReading}
use Rattle.rt_native_laws.specs.Standing.{IsLaidOut, StandsFor, Shows}
use Rattle.rt_native_laws.specs.Tail.{Meanwhile}
use Rattle.rt_native_laws.specs.Waiting.{FunctionCalls, PhasesShow, IsFresh, KeepsTail, others_tail}
use Rattle.rt_native_laws.proofs.CallKept.{call_again, call_is_kept, frame_again}
use Rattle.rt_native_laws.proofs.Kept.{entering_is_kept, calling_is_kept_so}
use Rattle.rt_native_laws.proofs.Meanwhile.{tail_is_kept}
use Rattle.rt_native_laws.proofs.Phases.{apart_of, to_come_is_kept, done_is_kept}
use Rattle.rt_native_laws.proofs.Prefixes.{same_some}
use Rattle.rt_native_laws.proofs.Private.{private_is_unseen}
use Rattle.rt_native_laws.proofs.Reading.{reading_is_kept}
use Rattle.rt_native_laws.proofs.Tails.{debt, debt_is, holds_then, only_tail, others_keep, some_is_none, tail_then}

-- Others leave a job in its phase, whichever it is, and as many words of its frame the core's.
module _ (at : Outside) (bottom : ℕ) (img : Image) (places : List ℕ) (p : Program) (c d : Core) (top : ℕ)
    (m n : Machine) (laid : IsLaidOut at bottom (length c.processor.cells)) (port : p.port ≡ at.port)
    (o : OthersRan at (m.register 13) top c d m n) where
  same_frame : length d.processor.slots ≡ length c.processor.slots
  same_frame = ap (λ (y : Core). length y.processor.slots) o.core

  same_priority : execution d ≡ execution c
  same_priority = ap execution o.core

  same_registers : n.register ≡ m.register
  same_registers = ap (λ (y : Machine). y.register) o.processor.rest

  abbrev Then : Option Debt → (phase : Phase at bottom img places p c top m) → Type 0
  Then now phase =
      (again : Phase at bottom img places p d top n) × (kept_words at bottom img places p c top m phase
      ≤ kept_words at bottom img places p d top n again)
      × (reads_from at bottom img places p d top n again ≡ reads_from at bottom img places p c top m phase)
      × (tail_of at bottom img places p d top n again
      ≡ tail_then (tail_of at bottom img places p c top m phase) now)
      × (call_of at bottom img places p d top n again ≡ call_of at bottom img places p c top m phase)
      × ((viewed at bottom img places p d top n again).register
      ≡ (viewed at bottom img places p c top m phase).register)

  -- a tail
  tail_again : (tail now : Option Debt) → KeepsTail tail now c d → (core : Core)
      → (x : IsInTail at bottom img places p core top m) → (same : x.unpaid ≡ c)
      → tail ≡ Some (debt x.irq x.instant x.owes) → Then now (Tails core x same)
  tail_again None now keeps core x same is = absurd (some_is_none (debt x.irq x.instant x.owes) (sym is))
  tail_again (Some tail) None keeps core x same is = absurd keeps
  tail_again (Some tail) (Some now) keeps core x same is =
      let own : tail ≡ debt x.irq x.instant x.owes = same_some tail (debt x.irq x.instant x.owes) is in
      let meanwhile : Meanwhile x.irq x.instant x.owes now.owes x.unpaid d =
      subst (λ (k : Core). Meanwhile x.irq x.instant x.owes now.owes k d) (sym same)
      (subst (λ (t : Debt). Meanwhile t.irq t.instant t.owes now.owes c d) own keeps.2) in
      let settled : Core = if now.owes then rung x.irq d else d in
      let again = tail_is_kept at bottom img places p core settled d now.owes top m n x
      (subst (λ (k : Core). OthersRan at (m.register 13) top k d m n) (sym same) o) meanwhile refl in (
        Tails settled again.0 again.4,
        omega (arith, same_frame),
        refl,
        ap (λ (t : Debt). Some t) (debt_is (debt again.0.irq again.0.instant again.0.owes) now
            (again.1 ∙ (sym (ap (λ (t : Debt). t.irq) own) ∙ sym keeps.0))
            (again.2 ∙ (sym (ap (λ (t : Debt). t.instant) own) ∙ sym keeps.1)) again.3),
        refl,
        same_registers,
      )

  pub phase_is_kept : (ceiling : ℕ) (tail now : Option Debt) → KeepsTail tail now c d
      → (phase : Phase at bottom img places p c top m)
      → IfSome (tail_of at bottom img places p c top m phase) (λ own. (tail ≡ Some own) × (execution c ≤ ceiling))
      → Then now phase
  phase_is_kept ceiling tail now keeps (ToCome x) own = (
    ToCome (to_come_is_kept at bottom img places p c d top m n x o),
    omega
        (arith, same_frame),
    refl,
    refl,
    refl,
    same_registers,
  )
  phase_is_kept ceiling tail now keeps (AlreadyDone x) own = (
    AlreadyDone (done_is_kept at bottom img places p c d top m n laid port x o),
    omega (arith, same_frame),
    refl,
    refl,
    refl,
    same_registers,
  )
  phase_is_kept ceiling tail now keeps (Entering x) own = (
    Entering (entering_is_kept at bottom img places p c d top m n port x o),
    omega arith,
    refl,
    refl,
    refl,
    same_registers,
  )
  phase_is_kept ceiling tail now keeps (Calling x) own =
      let again = calling_is_kept_so at bottom img places p c d top m n x o in
      (Calling again.0, omega (arith, again.1), refl, refl, refl, same_registers)
  phase_is_kept ceiling tail now keeps (Reads x) own =
      let again = reading_is_kept at bottom img places p c d top m n x o in
      (Reads again.0, omega arith, ap (λ (r : List Input × Option (Input × ℕ)). Some r) again.1, refl, refl, same_registers)
  phase_is_kept ceiling tail now keeps (Calls x f) own =
      let g = call_is_kept at bottom img places p c d top m n x o in
      let again = frame_again at bottom img places p c d top m n x x.stage x.called g f
      (ap (λ (r : ℕ → ℕ). r 13 % 4) same_registers ∙ f.aligned) in (
        Calls g.call again,
        omega arith,
        ap (λ (ds : List Input). Some (ds, None)) g.declared,
        refl,
        ap (λ (k : FunctionCall). Some k) (call_again at bottom img places p c d top m n x x.stage x.called g),
        g.registers,
      )
  phase_is_kept ceiling tail now keeps (Tails core x same) own = tail_again tail now keeps core x same own.0

  -- the job, with its frame as new, and the tail in which others are
  pub job_is_kept : (highest ceiling : ℕ) (inputs : List Input) (calls : FunctionCalls) (tail now : Option Debt)
      (last : Last)
      → KeepsTail tail now c d → (phase : Phase at bottom img places p c top m)
      → IsFresh at bottom highest ceiling inputs calls img places p tail last c top m phase
      → (again : Phase at bottom img places p d top n)
      × IsFresh at bottom highest ceiling inputs calls img places p now last d top n again
      × KeepsTail (others_tail (tail_of at bottom img places p c top m phase) tail)
      (others_tail (tail_of at bottom img places p d top n again) now) c d
      × ((viewed at bottom img places p d top n again).register
      ≡ (viewed at bottom img places p c top m phase).register)
  job_is_kept highest ceiling inputs calls tail now last keeps phase fresh =
      let own = tail_of at bottom img places p c top m phase in
      let job = phase_is_kept ceiling tail now keeps phase fresh.2 in
      let kept = fresh.0 in
      let more = job.1 in (
        job.0,
        (
          subst (λ (w : ℕ). settled_words last w ≤ kept_words at bottom img places p d top n job.0)
              (sym same_frame) (omega (arith, kept, more)),
          subst (λ (r : Option (List Input × Option (Input × ℕ))). IfSome r
              (λ reads. HasJustRead reads.1 last × (reads.0 ≡ inputs)))
              (sym job.2) fresh.1,
          subst (λ (t : Option Debt). IfSome t (λ own. (now ≡ Some own) × (execution d ≤ ceiling))) (sym job.3)
              (holds_then own tail now c d (execution c) (execution d) ceiling same_priority keeps fresh.2),
          subst (λ (o : Option FunctionCall). IfSome o (λ call. (is_called calls.irqs call.irq ≡ true)
              × (call.stage ≡ Within → calls.under_way (external call.irq) ≡ Some call.called))) (sym job.4) fresh.3,
        ),
        subst (λ (t : Option Debt). KeepsTail (others_tail own tail) (others_tail t now) c d) (sym job.3)
            (others_keep own tail now c d (only_tail own tail (execution c) ceiling fresh.2) keeps),
        job.5,
      )

module _ (at : Outside) (bottom : ℕ) (places : List ℕ) (c : Core) where
  stands_shows : (m : Machine) → StandsFor at bottom places c m → Shows at c m
  stands_shows m st = record {
    base_priority = st.base_priority;
    is_masked = st.is_masked;
    cells = st.cells;
    time = st.time;
    alarm = st.alarm;
    pending = st.pending;
  }

  -- before and behind what is private
  module _ (floor top count : ℕ) (m n : Machine) (laid : IsLaidOut at bottom count) (high : top ≤ at.cells)
      (own : ChangesItsOwn floor top m n) where
    same_word : (a : ℕ) → at.cells ≤ a → a % 4 ≡ 0 → word_at n a ≡ word_at m a
    same_word a h z = own.memory (a / 4) (inr (omega (arith, h, z, high)))

    shows_on : Shows at c m → Shows at c n
    shows_on s = record {
      base_priority = ap (λ (x : Machine). x.base_priority) own.rest ∙ s.base_priority;
      is_masked = ap (λ (x : Machine). x.is_masked) own.rest ∙ s.is_masked;
      cells = λ k l. same_word (at.cells + 4 * k) (omega arith) (omega (arith, laid.aligned)) ∙ s.cells k l;
      time = same_word at.time (omega (arith, laid.time)) (omega (arith, laid.aligned, laid.time)) ∙ s.time;
      alarm = same_word (at.time + 4) (omega (arith, laid.time)) (omega (arith, laid.aligned, laid.time)) ∙ s.alarm;
      pending = λ irq l. ap (λ (x : Machine). x.is_pending (external irq)) own.rest ∙ s.pending irq l;
    }

    shows_before : Shows at c n → Shows at c m
    shows_before s = record {
      base_priority = sym (ap (λ (x : Machine). x.base_priority) own.rest) ∙ s.base_priority;
      is_masked = sym (ap (λ (x : Machine). x.is_masked) own.rest) ∙ s.is_masked;
      cells = λ k l. sym (same_word (at.cells + 4 * k) (omega arith) (omega (arith, laid.aligned))) ∙ s.cells k l;
      time = sym (same_word at.time (omega (arith, laid.time)) (omega (arith, laid.aligned, laid.time))) ∙ s.time;
      alarm = sym (same_word (at.time + 4) (omega (arith, laid.time)) (omega (arith, laid.aligned, laid.time)))
          ∙ s.alarm;
      pending = λ irq l. sym (ap (λ (x : Machine). x.is_pending (external irq)) own.rest) ∙ s.pending irq l;
    }

module _ (at : Outside) (bottom : ℕ) (img : Image) (places : List ℕ) (p : Program) (c : Core) (top : ℕ)
    (m : Machine) (port : p.port ≡ at.port) where
  to_come_shows : IsToCome at bottom img places p c top m → Shows at c m
  to_come_shows x =
      let low = x.first.register 13 in
      let laid = x.stands.laid in
      let begun = x.stands.stands in
      let high : top ≤ at.cells = omega (arith, x.ends, begun.frames) in
      let apart = apart_of at bottom low top (length c.processor.cells) p laid port begun.stack high in
      let own = private_is_unseen p low top x.passed x.first x.reached apart (omega arith) (omega (arith, x.ends))
      x.prepares in
      let s = shows_on at bottom places c low top (length c.processor.cells) x.first x.reached laid high own
      (stands_shows at bottom places c x.first begun) in
      let sp : m.register 13 ≡ x.reached.register 13 = ap (λ (y : Machine). y.register 13) x.now.rest in
      let same_word : (a : ℕ) → at.cells ≤ a → a % 4 ≡ 0 → word_at m a ≡ word_at x.reached a =
      λ a h z. x.now.memory (a / 4) (inr (omega (arith, h, z, high, sp, own.stack.1))) in
      record {
        base_priority = ap (λ (y : Machine). y.base_priority) x.now.rest ∙ s.base_priority;
        is_masked = ap (λ (y : Machine). y.is_masked) x.now.rest ∙ s.is_masked;
        cells = λ k l. same_word (at.cells + 4 * k) (omega arith) (omega (arith, laid.aligned)) ∙ s.cells k l;
        time = same_word at.time (omega (arith, laid.time)) (omega (arith, laid.aligned, laid.time)) ∙ s.time;
        alarm = same_word (at.time + 4) (omega (arith, laid.time)) (omega (arith, laid.aligned, laid.time)) ∙ s.alarm;
        pending = λ irq l. ap (λ (y : Machine). y.is_pending (external irq)) x.now.rest ∙ s.pending irq l;
      }

  done_shows : IsLaidOut at bottom (length c.processor.cells) → IsDone at bottom img places p c top m → Shows at c m
  done_shows laid x =
      let low = x.last.register 13 in
      let high : top ≤ at.cells = omega (arith, x.ends, x.stands.frames) in
      let apart = apart_of at bottom low top (length c.processor.cells) p laid port x.stands.stack high in
      let own = private_is_unseen p low top x.left m x.last apart (omega (arith, x.stack))
      (omega (arith, x.stack, x.ends)) x.completes in
      shows_before at bottom places c low top (length c.processor.cells) m x.last laid high own
      (stands_shows at bottom places c x.last x.stands)

  entering_shows : IsEntering at bottom img places p c top m → Shows at c m
  entering_shows x =
      let low = m.register 13 in
      let laid = x.opens.laid in
      let high : top ≤ at.cells = omega (arith, x.ends, x.opens.stands.frames) in
      let apart = apart_of at bottom low top (length c.processor.cells) p laid port
      (omega (arith, x.deep, x.opens.room, x.ends)) high in
      let own = private_is_unseen p low top x.begun.passed x.first m apart x.begun.fallen (omega (arith, x.ends))
      x.begun.prepares in
      let st = x.opens.stands in
      shows_on at bottom places c low top (length c.processor.cells) x.first m laid high own (record {
        base_priority = st.base_priority;
        is_masked = st.is_masked;
        cells = st.cells;
        time = st.time;
        alarm = st.alarm;
        pending = st.pending;
      })

  calling_shows : IsCalling at bottom img places p c top m → Shows at c m
  calling_shows x =
      let low = m.register 13 in
      let laid = x.stands.laid in
      let count = length x.before.processor.cells in
      let high : top ≤ at.cells = omega (arith, x.ends, x.stands.stands.frames) in
      let apart = apart_of at bottom low top count p laid port (omega (arith, x.deep, x.can.room)) high in
      let own = private_is_unseen p low top x.begun.passed x.first m apart x.begun.fallen (omega (arith, x.ends))
      x.begun.prepares in
      let s = shows_on at bottom places x.before low top count x.first m laid high own
      (stands_shows at bottom places x.before x.first x.stands.stands) in
      subst (λ (y : Core). Shows at y m) (sym x.called.core) (record {
        base_priority = s.base_priority;
        is_masked = s.is_masked;
        cells = s.cells;
        time = s.time;
        alarm = s.alarm;
        pending = s.pending;
      })

  reading_shows : IsReading at bottom img places p c top m → Shows at c m
  reading_shows x =
      let st = x.stands in
      record {
        base_priority = st.base_priority;
        is_masked = st.is_masked;
        cells = st.cells;
        time = st.time;
        alarm = st.alarm;
        pending = st.pending;
      }

  tail_shows : (core : Core) (x : IsInTail at bottom img places p core top m) → x.unpaid ≡ c → Shows at c m
  tail_shows core x same =
      let st = x.stands in
      subst (λ (y : Core). Shows at y m) same (record {
        base_priority = st.base_priority;
        is_masked = st.is_masked;
        cells = st.cells;
        time = st.time;
        alarm = st.alarm;
        pending = st.pending;
      })

  shows : IsLaidOut at bottom (length c.processor.cells) → Phase at bottom img places p c top m → Shows at c m
  shows laid (ToCome x) = to_come_shows x
  shows laid (AlreadyDone x) = done_shows laid x
  shows laid (Entering x) = entering_shows x
  shows laid (Calling x) = calling_shows x
  shows laid (Reads x) = reading_shows x
  shows laid (Calls x f) = x.shows
  shows laid (Tails core x same) = tail_shows core x same

pub phases_show : PhasesShow
phases_show at bottom img places p c top m laid port phase = shows at bottom img places p c top m port laid phase
