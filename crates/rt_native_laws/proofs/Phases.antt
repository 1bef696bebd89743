-- What others do leaves each job in its phase.
use Rattle.std.proofs.Common.{◌≡◌, ◌∙◌, ℕ, ◌+◌, ◌*◌, ◌/◌, ◌%◌, ◌^◌, ◌<◌, ◌≤◌, ◌⊎◌, inl, inr, Bool, true, false, ⊎_elim}
use Rattle.std.proofs.Common.{List, Option, sym, refl, ap, subst, arith, length}
use Rattle.std.proofs.lemmas.Bool.Decides.{nat_tests}
use Rattle.std.specs.Prelude.{if◌then◌else◌, ◌&&◌, nat_lt, nat_le, slice_index_or}
use Rattle.rt_lemmas.proofs.Bools.{not_so, true_and_false}
use Rattle.rt_code.specs.Image.{Image}
use Rattle.rt_core.specs.Core.{Core}
use Rattle.rt_core.specs.declared.alarm.Alarm.{Alarm}
use Rattle.rt_native.specs.declared.outside.Outside.{Outside}
use Rattle.rt_thumb.specs.Exceptions.{external}
use Rattle.rt_thumb.specs.Machine.{Machine, Seen, word_at}
use Rattle.rt_thumb.specs.Step.{Program}
use Rattle.rt_native_laws.specs.Laws.{IsApart}
use Rattle.rt_native_laws.specs.Own.{ChangesItsOwn, IsDisturbed, RunsPrivately}
use Rattle.rt_native_laws.specs.Phases.{IsToCome, IsDone, IsSameAbove, OthersRan, ToComeIsKept, DoneIsKept}
use Rattle.rt_priorities.specs.Ticking.{alarm_word}
use Rattle.rt_native_laws.specs.Standing.{IsLaidOut, StandsFor, LieFrom, frames_end}
use Rattle.rt_native_laws.proofs.Accesses.{caller_length, runs_within}
use Rattle.rt_native_laws.proofs.Private.{private_is_unseen}
use Rattle.rt_native_laws.proofs.Tests.{at_most, is_less, not_less, not_at_most}
use Rattle.rt_native_laws.proofs.Undisturbed.{private_is_undisturbed}

-- The state stands for a core that is other in what is not the job's own, with memory and requests that are the core's
-- and frames as they were.
module _ (at : Outside) (bottom : ℕ) (places : List ℕ) (c : Core) (m : Machine) (st : StandsFor at bottom places c m)
    (now : ℕ) (alarm : Option Alarm) (requests : List Bool) (cells : List ℕ) (memory : ℕ → ℕ) (pending : ℕ → Bool)
    (unsettled : Bool) (seen : List Seen)
    (same : (k : ℕ) → m.register 13 ≤ 4 * k → 4 * k < frames_end c m → memory k ≡ m.memory k) where
  abbrev pub other_core : Core
  other_core = record c {
    time = now;
    alarm = alarm;
    pending = requests;
    processor = record c.processor { cells = cells };
  }

  abbrev pub other : Machine
  other = record m { memory = memory; is_pending = pending; is_unsettled = unsettled; seen = seen }

  pub stands_again : LieFrom other at.cells cells → word_at other at.time ≡ now
      → word_at other (at.time + 4) ≡ alarm_word alarm
      → ((irq : ℕ) → irq < length requests → pending (external irq) ≡ slice_index_or requests irq false)
      → StandsFor at bottom places other_core other
  stands_again lie at_time at_alarm pend = record {
    address = st.address;
    base_priority = st.base_priority;
    is_masked = st.is_masked;
    aligned = st.aligned;
    stack = st.stack;
    frames = st.frames;
    slots = λ k l.
        same ((m.register 13 + 4 * k) / 4) (omega (arith, st.aligned)) (omega (arith, st.aligned, l)) ∙ st.slots k l;
    caller = λ k l.
        same ((m.register 13 + 4 * length c.processor.slots + 4 * k) / 4) (omega (arith, st.aligned))
        (omega (arith, st.aligned, l, caller_length places c.caller)) ∙ st.caller k l;
    cells = lie;
    time = at_time;
    alarm = at_alarm;
    pending = pend;
  }

-- a word lies in a part of the stack or outside of it
side_by : (floor top k : ℕ) (b c : Bool) → nat_le floor (4 * k) ≡ b → nat_lt (4 * k) top ≡ c → floor % 4 ≡ 0
    → ((floor ≤ 4 * k) × (4 * k < top)) ⊎ ((4 * k + 4 ≤ floor) ⊎ (top ≤ 4 * k))
side_by floor top k true true h l z = inl (at_most floor (4 * k) h, is_less (4 * k) top l)
side_by floor top k true false h l z = inr (inr (not_less (4 * k) top l))
side_by floor top k false c h l z = inr (inl (omega (arith, not_at_most floor (4 * k) h, z)))

pub either_side : (floor top k : ℕ) → floor % 4 ≡ 0
    → ((floor ≤ 4 * k) × (4 * k < top)) ⊎ ((4 * k + 4 ≤ floor) ⊎ (top ≤ 4 * k))
either_side floor top k z = side_by floor top k (nat_le floor (4 * k)) (nat_lt (4 * k) top) refl refl z

-- a word of one memory in a part of the stack, and of another outside
abbrev pub mixed : ℕ → ℕ → (ℕ → ℕ) → (ℕ → ℕ) → ℕ → ℕ
mixed floor top own others k = if nat_le floor (4 * k) && nat_lt (4 * k) top then own k else others k

pub mixed_inside : (floor top : ℕ) (own others : ℕ → ℕ) (k : ℕ) → floor ≤ 4 * k → 4 * k < top
    → mixed floor top own others k ≡ own k
mixed_inside floor top own others k h l = grind (arith, nat_tests)

pub mixed_outside : (floor top : ℕ) (own others : ℕ → ℕ) (k : ℕ) → (4 * k + 4 ≤ floor) ⊎ (top ≤ 4 * k)
    → mixed floor top own others k ≡ others k
mixed_outside floor top own others k h =
    ⊎_elim (λ (x : 4 * k + 4 ≤ floor). grind (arith, nat_tests)) (λ (x : top ≤ 4 * k). grind (arith, nat_tests)) h

-- the job's part of the stack lies apart from the port
pub apart_of : (at : Outside) (bottom floor top count : ℕ) (p : Program) → IsLaidOut at bottom count → p.port ≡ at.port
    → bottom ≤ floor → top ≤ at.cells → IsApart p floor top
apart_of at bottom floor top count p laid port low high = record {
  memory = omega (arith, laid.time, laid.in_memory, high);
  port = ⊎_elim (λ (x : at.port < bottom). inl (omega (arith, x, port, low)))
      (λ (x : at.time + 8 ≤ at.port). inr (omega (arith, x, port, high, laid.time))) laid.port_apart;
}

-- Done but for what is private.
module _ (at : Outside) (bottom : ℕ) (img : Image) (places : List ℕ) (p : Program) (c d : Core) (top : ℕ)
    (m n : Machine) (laid : IsLaidOut at bottom (length c.processor.cells)) (port : p.port ≡ at.port)
    (x : IsDone at bottom img places p c top m) (o : OthersRan at (m.register 13) top c d m n) where
  abbrev floor : ℕ
  floor = m.register 13

  high : top ≤ at.cells
  high = omega (arith, x.ends, x.stands.frames)

  deep : bottom ≤ floor
  deep = omega (arith, x.stands.stack, x.stack)

  wide : floor ≤ top
  wide = omega (arith, x.ends, x.stack)

  apart : IsApart p floor top
  apart = apart_of at bottom floor top (length c.processor.cells) p laid port deep high

  same_stack : n.register 13 ≡ m.register 13
  same_stack = ap (λ (y : Machine). y.register 13) o.processor.rest

  completes : RunsPrivately p floor top x.left m x.last
  completes = runs_within p (x.last.register 13) top floor top x.left m x.last x.stack refl x.completes

  even_stack : floor % 4 ≡ 0
  even_stack = omega (arith, x.stands.aligned, x.stack)

  -- words that are none of the job's
  beyond : (last : Machine) → ChangesItsOwn floor top n last → (a w : ℕ) → at.cells ≤ a → a % 4 ≡ 0
      → word_at n a ≡ w → word_at last a ≡ w
  beyond last own a w h z e = own.memory (a / 4) (inr (omega (arith, h, z, high))) ∙ e

  done_again : IsDone at bottom img places p
      (record c {
        time = d.time;
        alarm = d.alarm;
        pending = d.pending;
        processor = record c.processor { cells = d.processor.cells };
      }) top n
  done_again =
      let run = private_is_undisturbed p floor top x.left m x.last n apart (omega arith) wide completes o.processor in
      let last = run.0 in
      let own = private_is_unseen p floor top x.left n last apart (omega (arith, same_stack))
      (omega (arith, same_stack, wide)) run.1 in
      let there = run.2 in
      let again = record x.last {
        memory = last.memory;
        is_pending = last.is_pending;
        is_unsettled = last.is_unsettled;
        seen = last.seen;
      } in
      let same_last : again ≡ last = sym there.rest in
      let z : at.cells % 4 ≡ 0 = laid.aligned in
      let stands = stands_again at bottom places c x.last x.stands d.time d.alarm d.pending d.processor.cells
      last.memory last.is_pending last.is_unsettled last.seen
      (λ k f t. there.memory k (omega (arith, f, x.stack)) (omega (arith, t, x.ends)))
      (λ k l. beyond last own (at.cells + 4 * k) _ (omega arith) (omega (arith, z)) (o.cells k l))
      (beyond last own at.time d.time (omega (arith, laid.time)) (omega (arith, z, laid.time)) o.time)
      (beyond last own (at.time + 4) (alarm_word d.alarm) (omega (arith, laid.time)) (omega (arith, z, laid.time))
      o.alarm)
      (λ irq l. ap (λ (y : Machine). y.is_pending (external irq)) own.rest ∙ o.pending irq l) in
      record {
        left = x.left;
        steady = x.steady;
        last = again;
        stack = same_stack ∙ x.stack;
        completes = runs_within p floor top (x.last.register 13) top x.left n again (sym x.stack) refl
            (subst (λ (y : Machine). RunsPrivately p floor top x.left n y) (sym same_last) run.1);
        stands = stands;
        ends = x.ends;
        settled = not_so last.is_unsettled (λ e. true_and_false n.is_unsettled (own.settled e) o.settled);
        words = record {
          registers = x.words.registers;
          memory = λ k. ⊎_elim (λ (y : (floor ≤ 4 * k) × (4 * k < top)).
              subst (λ (w : ℕ). w < 2 ^ 32) (sym (there.memory k y.0 y.1)) (x.words.memory k))
              (λ (y : (4 * k + 4 ≤ floor) ⊎ (top ≤ 4 * k)).
              subst (λ (w : ℕ). w < 2 ^ 32) (sym (own.memory k y)) (o.words.memory k))
              (either_side floor top k even_stack);
          base_priority = x.words.base_priority;
        };
      }

pub done_is_kept : DoneIsKept
done_is_kept at bottom img places p c d top m n laid port x o =
    subst (λ (y : Core). IsDone at bottom img places p y top n) (sym o.core)
    (done_again at bottom img places p c d top m n laid port x o)

-- Still to come.
module _ (at : Outside) (bottom : ℕ) (img : Image) (places : List ℕ) (p : Program) (c d : Core) (top : ℕ)
    (m n : Machine) (x : IsToCome at bottom img places p c top m)
    (o : OthersRan at (m.register 13) top c d m n) where
  abbrev low : ℕ
  low = x.first.register 13

  abbrev begun : StandsFor at bottom places c x.first
  begun = x.stands.stands

  below_cells : top ≤ at.cells
  below_cells = omega (arith, x.ends, begun.frames)

  own_part : low ≤ top
  own_part = omega (arith, x.ends)

  apart_there : IsApart p low top
  apart_there =
      apart_of at bottom low top (length c.processor.cells) p x.stands.laid x.stands.port begun.stack below_cells

  -- the first state, after others have run
  abbrev first_again : Machine
  first_again = record x.first {
    memory = mixed low top x.first.memory n.memory;
    is_pending = n.is_pending;
    is_unsettled = x.first.is_unsettled;
    seen = n.seen;
  }

  disturbed : IsDisturbed low top x.first first_again
  disturbed = record { rest = refl; memory = λ k f t. mixed_inside low top x.first.memory n.memory k f t }

  -- words that are none of the job's
  outside_word : (a w : ℕ) → at.cells ≤ a → a % 4 ≡ 0 → word_at n a ≡ w → word_at first_again a ≡ w
  outside_word a w h z e =
      mixed_outside low top x.first.memory n.memory (a / 4) (inr (omega (arith, h, z, below_cells))) ∙ e

  there_still : n.register 13 ≡ m.register 13
  there_still = ap (λ (y : Machine). y.register 13) o.processor.rest

  -- the state with what others changed
  abbrev told : Machine → Machine
  told y = record y {
    memory = n.memory;
    is_pending = n.is_pending;
    is_unsettled = n.is_unsettled;
    seen = n.seen;
  }

  -- what was executed so far leads to the state now, but for words below the stack pointer
  reaches : (last : Machine) → ChangesItsOwn low top first_again last → IsDisturbed low top x.reached last
      → IsSameAbove low last n
  reaches last own there =
      let requests : last.is_pending ≡ n.is_pending = ap (λ (y : Machine). y.is_pending) own.rest in
      let said : last.seen ≡ n.seen = ap (λ (y : Machine). y.seen) own.rest in
      let unsettled : last.is_unsettled ≡ n.is_unsettled =
      not_so last.is_unsettled (λ e. true_and_false x.first.is_unsettled (own.settled e) x.settled)
      ∙ sym o.settled in
      let same_rest : record last { memory = n.memory } ≡ told last =
      ap (λ (y : ℕ → Bool). record last { memory = n.memory; is_pending = y }) requests
      ∙ (ap (λ (y : Bool). record last { memory = n.memory; is_pending = n.is_pending; is_unsettled = y }) unsettled
      ∙ ap (λ (y : List Seen). record last {
        memory = n.memory;
        is_pending = n.is_pending;
        is_unsettled = n.is_unsettled;
        seen = y;
      }) said) in
      record {
        rest = o.processor.rest ∙ (ap told x.now.rest ∙ (sym (ap told there.rest) ∙ sym same_rest));
        memory = λ k far. ⊎_elim
            (λ (y : (low ≤ 4 * k) × (4 * k < top)). ⊎_elim (λ (z : 4 * k + 4 ≤ low). absurd (omega (arith, z, y.0)))
            (λ (z : n.register 13 ≤ 4 * k).
            let above : m.register 13 ≤ 4 * k = omega (arith, z, there_still) in
            o.processor.memory k above y.1 ∙ (x.now.memory k (inr above) ∙ sym (there.memory k y.0 y.1))) far)
            (λ (y : (4 * k + 4 ≤ low) ⊎ (top ≤ 4 * k)).
            sym (own.memory k y ∙ mixed_outside low top x.first.memory n.memory k y))
            (either_side low top k begun.aligned);
      }

  to_come_again : IsToCome at bottom img places p
      (record c {
        time = d.time;
        alarm = d.alarm;
        pending = d.pending;
        processor = record c.processor { cells = d.processor.cells };
      }) top n
  to_come_again =
      let laid = x.stands.laid in
      let z : at.cells % 4 ≡ 0 = laid.aligned in
      let run = private_is_undisturbed p low top x.passed x.first x.reached first_again apart_there (omega arith)
      own_part
      x.prepares disturbed in
      let own = private_is_unseen p low top x.passed first_again run.0 apart_there (omega arith) own_part run.1 in
      record {
        instruction = x.instruction;
        kind = x.kind;
        note = x.note;
        line = x.line;
        first = first_again;
        stands = record {
          laid = subst (IsLaidOut at bottom) (sym o.as_many) laid;
          port = x.stands.port;
          addresses = x.stands.addresses;
          halfwords = x.stands.halfwords;
          code = x.stands.code;
          stands = stands_again at bottom places c x.first begun d.time d.alarm d.pending d.processor.cells
              (mixed low top x.first.memory n.memory) n.is_pending x.first.is_unsettled n.seen
              (λ k f t. mixed_inside low top x.first.memory n.memory k f (omega (arith, t, x.ends)))
              (λ k l. outside_word (at.cells + 4 * k) _ (omega arith) (omega (arith, z)) (o.cells k l))
              (outside_word at.time d.time (omega (arith, laid.time)) (omega (arith, z, laid.time)) o.time)
              (outside_word (at.time + 4) (alarm_word d.alarm) (omega (arith, laid.time)) (omega (arith, z, laid.time))
              o.alarm)
              o.pending;
          words = record {
            registers = x.stands.words.registers;
            memory = λ k. ⊎_elim (λ (y : (low ≤ 4 * k) × (4 * k < top)).
                subst (λ (w : ℕ). w < 2 ^ 32) (sym (mixed_inside low top x.first.memory n.memory k y.0 y.1))
                (x.stands.words.memory k))
                (λ (y : (4 * k + 4 ≤ low) ⊎ (top ≤ 4 * k)).
                subst (λ (w : ℕ). w < 2 ^ 32) (sym (mixed_outside low top x.first.memory n.memory k y))
                (o.words.memory k))
                (either_side low top k begun.aligned);
            base_priority = x.stands.words.base_priority;
          };
        };
        ends = x.ends;
        settled = x.settled;
        passed = x.passed;
        next = x.next;
        left = x.left;
        parts = x.parts;
        reached = run.0;
        prepares = run.1;
        now = reaches run.0 own run.2;
      }

pub to_come_is_kept : ToComeIsKept
to_come_is_kept at bottom img places p c d top m n x o =
    subst (λ (y : Core). IsToCome at bottom img places p y top n) (sym o.core)
    (to_come_again at bottom img places p c d top m n x o)
