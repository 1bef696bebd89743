-- Within a tick: the processor executes its code, whatever comes, and is where the image is as soon as it has returned.
use Rattle.std.proofs.Common.{◌≡◌, ◌∙◌, ℕ, ◌+◌, ◌/◌, ◌≤◌, Bool, true, false, List, [], ◌∷◌, ◌++◌, Option, Some, None}
use Rattle.std.proofs.Common.{refl, ◌%◌}
use Rattle.std.proofs.Common.{sym}
use Rattle.std.proofs.Common.{ap, arith, append_assoc}
use Rattle.std.specs.List.{AllByRecursion, filter}
use Rattle.std.specs.Prelude.{if◌then◌else◌}
use Rattle.rt_code.specs.Image.{Image}
use Rattle.rt_native.specs.Service.{timer_irq}
use Rattle.rt_native.specs.Target.{Target}
use Rattle.rt_priorities.specs.Ticking.{LeavesStack}
use Rattle.rt_thumb.specs.Exceptions.{taken}
use Rattle.rt_thumb.specs.Machine.{Machine, Seen, with_word}
use Rattle.rt_thumb.specs.Step.{Program, executed, executing, pended}
use Rattle.rt_thumb.specs.declared.instruction.Instruction.{Instruction}
use Rattle.rt_thumb.specs.declared.instruction.Instruction.TheVariants as instruction
use Rattle.rt_thumb_laws.specs.Undisturbed.{RunAtTop}
use Rattle.rt_thumb_laws.proofs.Undisturbed.{none_at_top, run_changed, run_with, top_now}
use Rattle.rt_native_laws.specs.Own.{is_steady}
use Rattle.rt_native_laws.specs.Relating.{IsInPlace}
use Rattle.rt_native_laws.specs.Simulating.{compared, is_compared}
use Rattle.rt_native_laws.proofs.Growing.{Grows, adds_to_seen, run_adds}
use Rattle.rt_native_laws.proofs.Leaving.{no_front}
use Rattle.rt_native_laws.proofs.Steady.{stack_stays}

calm_is_steady : (i : Instruction) → LeavesStack i → is_steady i ≡ true
calm_is_steady (instruction.AddStack n) h = absurd h
calm_is_steady (instruction.SubtractStack n) h = absurd h
calm_is_steady (instruction.AddStackWide n) h = absurd h
calm_is_steady (instruction.SubtractStackWide n) h = absurd h
calm_is_steady (instruction.BranchExchange r) h = absurd h
calm_is_steady i h = refl

-- what is kept of two parts
both_kept : (f : Seen → Bool) (xs ys : List Seen) → filter f (xs ++ ys) ≡ filter f xs ++ filter f ys
both_kept f [] ys = refl
both_kept f (x ∷ xs) ys = by_test (both_kept f xs ys) (f x)
  where
    by_test : filter f (xs ++ ys) ≡ filter f xs ++ filter f ys → (b : Bool)
        → (if b then x ∷ filter f (xs ++ ys) else filter f (xs ++ ys))
        ≡ (if b then x ∷ filter f xs else filter f xs) ++ filter f ys
    by_test e true = ap (λ (zs : List Seen). x ∷ zs) e
    by_test e false = e

pub none_behind : (xs ys : List Seen) → xs ++ ys ≡ [] → ys ≡ []
none_behind [] ys e = e
none_behind (x ∷ xs) ys e = absurd (cc)

-- what is seen in between shows no more
between : (f : Seen → Bool) (m n last : Machine) → Grows m n → Grows n last → filter f last.seen ≡ filter f m.seen
    → filter f n.seen ≡ filter f m.seen
between f m n last g h e =
    let all : filter f last.seen ≡ (filter f h.0 ++ filter f g.0) ++ filter f m.seen =
    ap (filter f) (h.1 ∙ ap (λ (xs : List Seen). h.0 ++ xs) g.1)
    ∙ (both_kept f h.0 (g.0 ++ m.seen) ∙ (ap (λ (xs : List Seen). filter f h.0 ++ xs) (both_kept f g.0 m.seen)
    ∙ sym (append_assoc (filter f h.0) (filter f g.0) (filter f m.seen)))) in
    let none : filter f g.0 ≡ [] =
    none_behind (filter f h.0) (filter f g.0) (no_front (filter f h.0 ++ filter f g.0) (filter f m.seen) (sym all ∙
    e)) in
    ap (filter f) g.1 ∙ (both_kept f g.0 m.seen ∙ ap (λ (xs : List Seen). xs ++ filter f m.seen) none)

-- Some of a tick's code is left, before its exception return, which leads to a state; to there others see nothing more
-- that is compared, and the stack pointer is no further down than the tick's frame and its padding.
pub record IsInTick (img : Image) (p : Program) (foreign : ℕ → Bool) (m last : Machine) : Type 0 where
  pub rest : List Instruction
  pub calm : AllByRecursion LeavesStack rest
  pub run : RunAtTop p foreign (rest ++ instruction.BranchExchange 14 ∷ []) m last
  pub seen : compared (timer_irq img.code) last.seen ≡ compared (timer_irq img.code) m.seen
  pub deep : last.register 13 ≤ m.register 13 + 32 + last.register 13 % 8

-- a request that comes is pending then
pub request_in_tick : (img : Image) (p : Program) (foreign : ℕ → Bool) (e : ℕ) (m last : Machine)
    → IsInTick img p foreign m last → IsInTick img p foreign (pended e m) (pended e last)
request_in_tick img p foreign e m last x = record {
  rest = x.rest;
  calm = x.calm;
  run = run_with p foreign e (x.rest ++ instruction.BranchExchange 14 ∷ []) m last x.run;
  seen = x.seen;
  deep = x.deep;
}

-- a foreign word that changes is so then
pub change_in_tick : (img : Image) (p : Program) (foreign : ℕ → Bool) (address value : ℕ) (m last : Machine)
    → foreign (address / 4) ≡ true → IsInTick img p foreign m last
    → IsInTick img p foreign (with_word address value m) (with_word address value last)
change_in_tick img p foreign address value m last is_foreign x = record {
  rest = x.rest;
  calm = x.calm;
  run = run_changed p foreign address value (x.rest ++ instruction.BranchExchange 14 ∷ []) m last is_foreign x.run;
  seen = x.seen;
  deep = x.deep;
}

-- the next instruction is in the tick still, or has returned
pub data TickGoes (img : Image) (p : Program) (foreign : ℕ → Bool) (m last next : Machine) : Type 0 where
  On : IsInTick img p foreign next last → TickGoes img p foreign m last next
  Over : next ≡ last → TickGoes img p foreign m last next

pub record TickIsNoFault (img : Image) (p : Program) (foreign : ℕ → Bool) (m last : Machine) : Type 0 where
  pub next : Machine
  pub none : taken m ≡ None
  pub no_fault : executed p m ≡ Some next
  pub seen : compared (timer_irq img.code) next.seen ≡ compared (timer_irq img.code) m.seen
  pub goes : TickGoes img p foreign m last next
  pub calls_none : (d : ℕ) → p.code m.address ≡ Some (instruction.Call d) → p.code next.address ≡ None → ⊥

exchange_is_no_call : (d : ℕ) → Some (instruction.BranchExchange 14) ≡ Some (instruction.Call d) → ⊥
exchange_is_no_call d e = cc

pub one_is_not_none : (i : Instruction) → Some i ≡ None → ⊥
one_is_not_none i e = cc

-- before its return a tick is within the program
stays_within : (p : Program) (foreign : ℕ → Bool) (is : List Instruction) (m last : Machine)
    → RunAtTop p foreign (is ++ instruction.BranchExchange 14 ∷ []) m last → p.code m.address ≡ None → ⊥
stays_within p foreign [] m last run out = one_is_not_none (instruction.BranchExchange 14) (sym run.1 ∙ out)
stays_within p foreign (i ∷ is) m last run out = one_is_not_none i (sym run.1 ∙ out)

module _ (img : Image) (target : Target) (p : Program) (there : IsInPlace img target p) (foreign : ℕ → Bool)
    (m last : Machine) (x : IsInTick img p foreign m last) where
  abbrev timer : Option ℕ
  timer = timer_irq img.code

  by_rest : (rest : List Instruction) → AllByRecursion LeavesStack rest
      → RunAtTop p foreign (rest ++ instruction.BranchExchange 14 ∷ []) m last → TickIsNoFault img p foreign m last
  by_rest [] calm run = record {
    next = run.2.0;
    none = none_at_top m (top_now foreign _ m run.0);
    no_fault = ap (executing p.port m) run.1 ∙ run.2.1;
    seen = ap (λ (y : Machine). compared timer y.seen) (sym run.2.2) ∙ x.seen;
    goes = Over (sym run.2.2);
    calls_none = λ d found out. exchange_is_no_call d (sym run.1 ∙ found);
  }
  by_rest (i ∷ is) calm run =
      let next = run.2.0 in
      let more = is ++ instruction.BranchExchange 14 ∷ [] in
      let same : next.register 13 ≡ m.register 13 =
      stack_stays p.port m i next (there.has.encodable m.address i run.1) (calm_is_steady i calm.0) run.2.1 in
      let seen_next = between (is_compared timer) m next last (adds_to_seen p.port m next i run.2.1)
      (run_adds p foreign more next last run.2.2) x.seen in
      record {
        next = next;
        none = none_at_top m (top_now foreign _ m run.0);
        no_fault = ap (executing p.port m) run.1 ∙ run.2.1;
        seen = seen_next;
        goes = On (record {
          rest = is;
          calm = calm.1;
          run = run.2.2;
          seen = x.seen ∙ sym seen_next;
          deep = omega (arith, x.deep, same);
        });
        calls_none = λ d found out. stays_within p foreign is next last run.2.2 out;
      }

  pub tick_goes_on : TickIsNoFault img p foreign m last
  tick_goes_on = by_rest x.rest x.calm x.run
