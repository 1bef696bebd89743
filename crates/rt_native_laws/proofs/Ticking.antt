-- The handler of ticks.
use Rattle.std.proofs.Common.{◌≡◌, ◌≢◌, ◌∙◌, ℕ, suc, ◌+◌, ◌-◌, ◌/◌, ◌%◌, ◌^◌, ◌<◌, ◌≤◌, Bool, true, false, not}
use Rattle.std.proofs.Common.{List, [], ◌∷◌, ◌++◌, Option, Some, None, sym, refl, ap, subst, arith, ⊎_elim}
use Rattle.std.proofs.lemmas.Bool.Decides.{nat_tests}
use Rattle.std.proofs.lemmas.List.Sums.{sum_by-cons}
use Rattle.std.specs.Prelude.{if◌then◌else◌, ◌==◌, ◌&&◌, ◌||◌, nat_le}
use Rattle.rt_ids.specs.Operation.{wrapped_number as word}
use Rattle.rt_core.specs.Core.{Core}
use Rattle.rt_core.specs.Trace.{ring}
use Rattle.rt_core.specs.Transfer.{core_after_pend}
use Rattle.rt_core.specs.declared.alarm.Alarm.{Alarm}
use Rattle.rt_trace.specs.Label.{Label, Rang}
use Rattle.rt_native.specs.Pieces.{address, bytes_of}
use Rattle.rt_native.specs.Sequences.{STIR}
use Rattle.rt_native.specs.Service as service
use Rattle.rt_native.specs.Service.{due_at_tick, due_size_at_tick, pend_timer}
use Rattle.rt_native.specs.declared.outside.Outside.{Outside}
use Rattle.rt_thumb.specs.Effect.{behind, branched, exchanged}
use Rattle.rt_thumb.specs.Encoding.{encode, size}
use Rattle.rt_thumb.specs.Exceptions.{external, systick, returned}
use Rattle.rt_thumb.specs.Machine.{Machine, Flags, Posted, word_at}
use Rattle.rt_thumb.specs.Step.{Program}
use Rattle.rt_thumb.specs.declared.instruction.Condition.TheVariants as condition
use Rattle.rt_thumb.specs.declared.instruction.Instruction.{Instruction}
use Rattle.rt_thumb.specs.declared.instruction.Instruction.TheVariants as instruction
use Rattle.rt_thumb.specs.declared.instruction.Operation.TheVariants as operation
use Rattle.rt_native_laws.specs.Own.{Runs, RunsPrivately, Spans}
use Rattle.rt_priorities.specs.Ticking.{alarm_word}
use Rattle.rt_native_laws.specs.Ticking.{IsAtTick, IsFor, Serves, TickIsServed}
use Rattle.rt_native_laws.proofs.Alarm.{later}
use Rattle.rt_native_laws.proofs.Calculating.{next as stepped}
use Rattle.rt_native_laws.proofs.Keeping.{written}
use Rattle.rt_native_laws.proofs.Pieces.{moved, IsMemory, gets_address, loading_is, storing_is, same, other}
use Rattle.rt_native_laws.proofs.Requests.{posting_is, pended_words}
use Rattle.rt_native_laws.proofs.Returns.{returning}
use Rattle.rt_native_laws.proofs.Runs.{parts_of}
use Rattle.rt_native_laws.proofs.Tests.{not_equal}

-- a private run is a run
plain_run : (p : Program) (floor top : ℕ) (code : List Instruction) (m n : Machine)
    → RunsPrivately p floor top code m n → Runs p code m n
plain_run p floor top [] m n r = r
plain_run p floor top (i ∷ is) m n r = (r.0, r.1.executes, plain_run p floor top is r.0 n r.2)

runs_both : (p : Program) (xs ys : List Instruction) (m n o : Machine) → Runs p xs m n → Runs p ys n o
    → Runs p (xs ++ ys) m o
runs_both p [] ys m n o r s = subst (λ (k : Machine). Runs p ys k o) r s
runs_both p (x ∷ xs) ys m n o r s = (r.0, r.1, runs_both p xs ys r.0 n o r.2 s)

-- where code ends
span_ends : (p : Program) (from : ℕ) (code : List Instruction) (to : ℕ) → Spans p from code to
    → to ≡ from + bytes_of code
span_ends p from [] to s = omega (arith, s)
span_ends p from (i ∷ is) to s =
    let rest = span_ends p (from + size (encode i)) is to s.1 in
    let sum : bytes_of (i ∷ is) ≡ size (encode i) + bytes_of is = sum_by-cons (λ j. size (encode j)) i is in
    omega (arith, rest, sum)

wraps : (x : ℕ) → x + 1 < 2 ^ 32 → (x + 1 + 0) % 2 ^ 32 ≡ suc x
wraps x h = omega arith

-- an alarm that is none is later than every time
never : (t : ℕ) → t < 2 ^ 32 - 1 → nat_le (2 ^ 32 - 1) t ≡ false
never t h = grind (arith, nat_tests)

module _ (at : Outside) (bottom : ℕ) (timer : Option ℕ) (p : Program) (to : ℕ) (c : Core) (m : Machine)
    (here : IsAtTick at bottom timer p to c m) where
  abbrev now : ℕ
  now = suc c.time

  abbrev word_of : ℕ
  word_of = alarm_word c.alarm

  abbrev leap : Instruction
  leap = instruction.BranchIf condition.Higher (due_size_at_tick timer)

  abbrev last : Instruction
  last = instruction.BranchExchange 14

  -- the time's word is one of memory, and so is the alarm's
  time_memory : IsMemory p.port at.time
  time_memory =
      let laid = here.laid in
      record {
        aligned = omega (arith, laid.aligned, laid.time);
        no_port = λ e. ⊎_elim (λ (x : at.port < bottom). omega (arith, here.stack, laid.time, here.port))
            (λ (x : at.time + 8 ≤ at.port). omega (arith, here.port)) laid.port_apart;
        below = omega (arith, laid.in_memory);
      }

  alarm_memory : IsMemory p.port (at.time + 4)
  alarm_memory =
      let laid = here.laid in
      record {
        aligned = omega (arith, laid.aligned, laid.time);
        no_port = λ e. ⊎_elim (λ (x : at.port < bottom). omega (arith, here.stack, laid.time, here.port))
            (λ (x : at.time + 8 ≤ at.port). omega (arith, here.port)) laid.port_apart;
        below = omega (arith, laid.in_memory);
      }

  -- memory with the time after the tick
  abbrev timed : ℕ → ℕ
  timed = written m.memory at.time now

  -- the state behind the comparison
  abbrev compared : (ℕ → ℕ) → Flags → ℕ → Machine
  compared register flags from = record (moved m register flags from) { memory = timed }

  apart : (at.time + 4) / 4 ≢ at.time / 4
  apart e = omega arith

  record Compared : Type 0 where
    pub executed : List Instruction
    pub register : ℕ → ℕ
    pub flags : Flags
    pub from : ℕ
    pub runs : Runs p executed m (compared register flags from)
    pub base : register 0 ≡ at.time
    pub others : (k : ℕ) → 4 ≤ k → register k ≡ m.register k
    pub decides : (flags.is_carry && not flags.is_zero) ≡ not (nat_le word_of now)
    pub code : Spans p from (leap ∷ due_at_tick timer ++ last ∷ []) to

  compares : Compared
  unfolding service.tick address
  compares =
      let laid = here.laid in
      let load = instruction.Load 1 0 0 in
      let add = instruction.AddNumber 1 1 in
      let store = instruction.Store 1 0 0 in
      let read = instruction.Load 2 0 4 in
      let compare = instruction.Operate operation.Compare 2 1 in
      let floor = m.register 13 in
      let ps = parts_of p m.address (address 0 at.time)
      (load ∷ add ∷ store ∷ read ∷ compare ∷ leap ∷ due_at_tick timer ++ last ∷ []) to here.code in
      let g = gets_address p floor floor 0 at.time m ps.middle refl ps.first in
      let m1 = moved m g.register g.flags ps.middle in
      let to1 : word (g.register 0 + 0) ≡ at.time = omega (arith, g.gets, laid.in_memory) in
      let m2 = record m1 {
        register = λ k. if k == 1 then c.time else g.register k;
        address = ps.middle + 2;
      } in
      let m3 = stepped p add m2 in
      let r1 : m3.register 1 ≡ now = wraps c.time (omega (arith, here.fits)) in
      let m4 = record m3 { memory = timed; address = ps.middle + 2 + 2 + 2 } in
      let to5 : word (g.register 0 + 4) ≡ at.time + 4 = omega (arith, g.gets, laid.in_memory) in
      let kept : word_at m4 (at.time + 4) ≡ word_of =
      other ((at.time + 4) / 4) (at.time / 4) now (m.memory ((at.time + 4) / 4)) apart ∙ here.alarm in
      let m5 = record m4 {
        register = λ k. if k == 2 then word_of else m3.register k;
        address = ps.middle + 2 + 2 + 2 + 2;
      } in
      let m6 = stepped p compare m5 in
      let low : word_of < 2 ^ 32 =
      subst (λ (x : ℕ). x < 2 ^ 32) here.alarm (here.words.memory ((at.time + 4) / 4)) in
      let fits : m3.register 1 < 2 ^ 32 = omega (arith, r1, here.fits) in
      let s = ps.second in
      record {
        executed = address 0 at.time ++ load ∷ add ∷ store ∷ read ∷ compare ∷ [];
        register = m6.register;
        flags = m6.flags;
        from = m6.address;
        runs = runs_both p (address 0 at.time) (load ∷ add ∷ store ∷ read ∷ compare ∷ []) m m1 m6
            (plain_run p floor floor (address 0 at.time) m m1 g.runs) (
              m2,
              record {
                found = s.0;
                does = loading_is load 1 _ at.time m1 to1 (omega (arith, laid.aligned, laid.time))
                    ∙ ap (λ (x : ℕ). Some (record m2 { register = λ k. if k == 1 then x else g.register k })) here.time;
              },
              (
                m3,
                record { found = s.1.0; does = refl },
                (
                  m4,
                  record {
                    found = s.1.1.0;
                    does = storing_is p.port store 1 _ at.time m3 to1 time_memory
                        ∙ ap (λ (x : ℕ). Some (record m4 { memory = written m.memory at.time x })) r1;
                  },
                  (
                    m5,
                    record {
                      found = s.1.1.1.0;
                      does = loading_is read 2 _ (at.time + 4) m4 to5 alarm_memory.aligned
                          ∙ ap (λ (x : ℕ). Some (record m5 {
                            register = λ k. if k == 2 then x else m3.register k;
                          })) kept;
                    },
                    (m6, record { found = s.1.1.1.1.0; does = refl }, refl),
                  ),
                ),
              ),
            );
        base = g.gets;
        others = λ k h. other k 2 _ _ (λ e. omega arith) ∙ (other k 1 _ _ (λ e. omega arith)
            ∙ (other k 1 _ _ (λ e. omega arith) ∙ g.others k (λ e. omega arith) (λ e. omega arith)));
        decides = later word_of (m3.register 1) low fits ∙ ap (λ (x : ℕ). not (nat_le word_of x)) r1;
        code = s.1.1.1.1.1;
      }

  -- where the handler returns from, by where its last instruction lies
  returns : (ready : Machine) → ((k : ℕ) → 4 ≤ k → ready.register k ≡ m.register k) → ready.exception ≡ m.exception
      → exchanged (ready.register 14) ready ≡ returned (m.register 14) ready
  returns ready others e =
      returning (ready.register 14) (m.register 14) ready (others 14 (omega arith)) here.link
      (λ z. here.exception (sym e ∙ z))

  -- the core after a tick, where no alarm is due
  abbrev ticked : Core
  ticked = record c { time = now }

  -- the branch is taken: no alarm is due
  skips : (x : Compared) → not (nat_le word_of now) ≡ true → Serves at bottom timer p c m ticked
  unfolding due_size_at_tick
  skips x high =
      let there = compared x.register x.flags x.from in
      let end = x.from + 4 + bytes_of (due_at_tick timer) in
      let ps = parts_of p (x.from + 4) (due_at_tick timer) (last ∷ []) to x.code.1 in
      let reached : end ≡ ps.middle = sym (span_ends p (x.from + 4) (due_at_tick timer) ps.middle ps.first) in
      let arrives : word end ≡ ps.middle = omega (arith, reached, here.low, ps.second.1) in
      let ready = compared x.register x.flags ps.middle in
      record {
        executed = x.executed ++ leap ∷ [];
        ready = ready;
        runs = runs_both p x.executed (leap ∷ []) m there ready x.runs (
          ready,
          record {
            found = x.code.0;
            does = ap (λ (t : Bool). if t then branched (bytes_of (due_at_tick timer)) there else behind leap there)
                (x.decides ∙ high)
                ∙ ap (λ (k : ℕ). Some (record there { address = k })) arrives;
          },
          refl,
        );
        found = ps.second.0;
        does = returns ready x.others refl;
        rest = refl;
        registers = x.others;
        time = same (at.time / 4) now (m.memory (at.time / 4));
        alarm = other ((at.time + 4) / 4) (at.time / 4) now (m.memory ((at.time + 4) / 4)) apart ∙ here.alarm;
        memory = λ k g h. other k (at.time / 4) now (m.memory k) g;
        pending = λ h irq l. h irq l;
        tick = refl;
      }

  -- the branch is not taken: the alarm's word becomes none, and its interrupt pending
  falls : (x : Compared) (irq : ℕ) → timer ≡ Some irq → irq < 2 ^ 9 → not (nat_le word_of now) ≡ false
      → Serves at bottom timer p c m (record (core_after_pend ticked irq) { alarm = None })
  unfolding pend_timer due_at_tick address
  falls x irq e small high =
      let laid = here.laid in
      let there = compared x.register x.flags x.from in
      let n = instruction.MoveNot 2 0 in
      let t = instruction.Store 2 0 4 in
      let w = instruction.MoveWide 1 irq in
      let y = instruction.MoveWide 0 (STIR % 2 ^ 16) in
      let z = instruction.MoveTop 0 (STIR / 2 ^ 16) in
      let s = instruction.Store 1 0 0 in
      let code : Spans p x.from (instruction.BranchIf condition.Higher (due_size_at_tick timer)
      ∷ n ∷ t ∷ w ∷ y ∷ z ∷ s ∷ last ∷ []) to =
      subst (λ (o : Option ℕ). Spans p x.from (instruction.BranchIf condition.Higher (due_size_at_tick timer)
      ∷ due_at_tick o ++ last ∷ []) to) e x.code in
      let a = at.time + 4 in
      let m1 = record there { address = x.from + 4 } in
      let m2 = stepped p n m1 in
      let to2 : word (x.register 0 + 4) ≡ a = omega (arith, x.base, laid.in_memory) in
      let m3 = record m2 {
        address = x.from + 4 + 4 + 2;
        memory = written timed a (2 ^ 32 - 1);
      } in
      let m4 = stepped p w m3 in
      let m5 = stepped p y m4 in
      let m6 = stepped p z m5 in
      let value : irq % 2 ^ 9 ≡ irq = omega arith in
      let ready = record m6 {
        address = m6.address + 2;
        is_pending = λ k. (k == external irq) || m.is_pending k;
        is_unsettled = true;
        seen = Posted irq ∷ m.seen;
      } in
      let others : (k : ℕ) → 4 ≤ k → ready.register k ≡ m.register k =
      λ k h. other k 0 _ _ (λ f. omega arith) ∙ (other k 0 _ _ (λ f. omega arith)
      ∙ (other k 1 _ _ (λ f. omega arith) ∙ (other k 2 _ _ (λ f. omega arith) ∙ x.others k h))) in
      let s1 = code.1 in
      let s3 = s1.1.1 in
      let s6 = s3.1.1.1 in
      record {
        executed = x.executed ++ leap ∷ n ∷ t ∷ w ∷ y ∷ z ∷ s ∷ [];
        ready = ready;
        runs = runs_both p x.executed (leap ∷ n ∷ t ∷ w ∷ y ∷ z ∷ s ∷ []) m there ready x.runs (
          m1,
          record {
            found = code.0;
            does = ap (λ (b : Bool). if b then branched (due_size_at_tick timer) there else behind leap there)
                (x.decides ∙ high);
          },
          (
            m2,
            record { found = s1.0; does = refl },
            (
              m3,
              record {
                found = s1.1.0;
                does = storing_is p.port t 2 _ a m2 to2 alarm_memory;
              },
              (
                m4,
                record { found = s3.0; does = refl },
                (
                  m5,
                  record { found = s3.1.0; does = refl },
                  (
                    m6,
                    record { found = s3.1.1.0; does = refl },
                    (
                      ready,
                      record {
                        found = s6.0;
                        does = posting_is p.port s 1 _ m6 refl (λ f. laid.port_is_no_request (sym (f ∙ here.port)))
                            ∙ ap (λ (q : ℕ). Some (record m6 {
                              address = m6.address + 2;
                              is_pending = λ k. (k == external q) || m.is_pending k;
                              is_unsettled = true;
                              seen = Posted q ∷ m.seen;
                            })) value;
                      },
                      refl,
                    ),
                  ),
                ),
              ),
            ),
          ),
        );
        found = s6.1.0;
        does = returns ready others refl;
        rest = refl;
        registers = others;
        time = other (at.time / 4) (a / 4) (2 ^ 32 - 1) (timed (at.time / 4)) (λ f. apart (sym f))
            ∙ same (at.time / 4) now (m.memory (at.time / 4));
        alarm = same (a / 4) (2 ^ 32 - 1) (timed (a / 4));
        memory = λ k g h. other k (a / 4) (2 ^ 32 - 1) (timed k) h ∙ other k (at.time / 4) now (m.memory k) g;
        pending = λ h k l. pended_words m.is_pending c.pending irq k h l;
        tick = ap (λ (b : Bool). b || m.is_pending systick) (not_equal systick (external irq) (λ f. omega arith));
      }

  -- the core by whether the alarm is due
  abbrev chosen : Alarm → Bool → Core × List Label
  chosen alarm b =
      if b then (record (core_after_pend ticked alarm.irq) { alarm = None }, Rang ∷ []) else (ticked, [])

  by_due : (x : Compared) (alarm : Alarm) (b : Bool) → IsFor timer (Some alarm) → nat_le word_of now ≡ b
      → Serves at bottom timer p c m (chosen alarm b).0
  by_due x alarm true for h = falls x alarm.irq for.0 for.1 (ap not h)
  by_due x alarm false for h = skips x (ap not h)

  by_alarm : (o : Option Alarm) → c.alarm ≡ o → IsFor timer o → Serves at bottom timer p c m (ring ticked o).0
  by_alarm None e for =
      skips compares (ap not (ap (λ (a : Option Alarm). nat_le (alarm_word a) now) e
      ∙ never now (omega (arith, here.fits))))
  by_alarm (Some alarm) e for =
      by_due compares alarm (nat_le alarm.instant now) for (ap (λ (a : Option Alarm). nat_le (alarm_word a) now) e)

pub tick_is_served : TickIsServed
tick_is_served at bottom timer p to c m here = by_alarm at bottom timer p to c m here c.alarm refl here.is_for
