-- Words are copied, with all interrupts masked.
use Rattle.std.proofs.Common.{◌≡◌, ◌∙◌, ℕ, zero, suc, ◌+◌, ◌-◌, ◌*◌, ◌/◌, ◌%◌, ◌^◌, ◌<◌, ◌≤◌, ◌⊎◌, inl, inr}
use Rattle.std.proofs.Common.{Bool, true, false, List, [], ◌∷◌, ◌++◌, Some, refl, sym, ap, subst, arith}
use Rattle.std.proofs.Common.{⊎_elim}
use Rattle.std.specs.Prelude.{if◌then◌else◌, ◌==◌}
use Rattle.rt_code.specs.Image.{Image}
use Rattle.rt_ids.specs.Operation.{wrapped_number as word}
use Rattle.rt_native.specs.declared.outside.Outside.{Outside}
use Rattle.rt_thumb.specs.Arithmetic.{add_with_carry, complement}
use Rattle.rt_thumb.specs.Effect.{effect, behind, branched}
use Rattle.rt_thumb.specs.Machine.{Machine, word_at}
use Rattle.rt_thumb.specs.Step.{Program}
use Rattle.rt_thumb.specs.declared.instruction.Condition.TheVariants as condition
use Rattle.rt_thumb.specs.declared.instruction.Instruction.{Instruction}
use Rattle.rt_thumb.specs.declared.instruction.Instruction.TheVariants as instruction
use Rattle.rt_thumb.specs.declared.instruction.Operation.TheVariants as operation
use Rattle.rt_thumb_laws.specs.Undisturbed.{IsAlone, IsApartFrom, RunAtTop}
use Rattle.rt_priorities.proofs.Plain.{masked_is_top}
use Rattle.rt_native_laws.specs.Going.{HasCode}
use Rattle.rt_native_laws.specs.Laws.{IsApart}
use Rattle.rt_native_laws.specs.Own.{RunsPrivately, Spans}
use Rattle.rt_native_laws.specs.Standing.{HoldsWords}
use Rattle.rt_native_laws.proofs.Calculating.{next as stepped}
use Rattle.rt_native_laws.proofs.Carries.{minus, is_none}
use Rattle.rt_native_laws.proofs.Clear.{IsClear, private_apart}
use Rattle.rt_native_laws.proofs.Keeping.{written}
use Rattle.rt_native_laws.proofs.Pieces.{IsMemory, loading_is, storing_is, same, other}
use Rattle.rt_native_laws.proofs.Private.{private_is_unseen}
use Rattle.rt_native_laws.proofs.Steady.{words_after}
use Rattle.rt_native_laws.proofs.Tests.{not_equal, same_number}

-- the stack pointer is within a part of the stack
abbrev pub IsWithin : ℕ → ℕ → Machine → Type 0
IsWithin floor top m = (floor ≤ m.register 13) × (m.register 13 ≤ top)

-- instructions are executed at that priority, with the stack pointer within a part of the stack before each
abbrev pub RunWithin : Program → (ℕ → Bool) → ℕ → ℕ → List Instruction → Machine → Machine → Type 0
RunWithin p foreign floor top [] m last = last ≡ m
RunWithin p foreign floor top (i ∷ is) m last =
    IsWithin floor top m × IsAlone foreign i m × (p.code m.address ≡ Some i)
    × ((next : Machine) × (effect p.port i m ≡ Some next) × RunWithin p foreign floor top is next last)

-- foreign words lie apart from a part of the stack
abbrev pub AreClear : (ℕ → Bool) → ℕ → ℕ → Type 0
AreClear foreign floor top = (w : ℕ) → foreign w ≡ true → IsClear floor top w

module _ (p : Program) (foreign : ℕ → Bool) (floor top : ℕ) where
  pub at_top : (is : List Instruction) (m last : Machine) → RunWithin p foreign floor top is m last
      → RunAtTop p foreign is m last
  at_top [] m last run = run
  at_top (i ∷ is) m last (within, first, found, rest) =
      (first, found, (rest.0, rest.1, at_top is rest.0 last rest.2))

  -- instructions that lead from a state to another so
  pub record Led (m last : Machine) : Type 0 where
    pub executed : List Instruction
    pub run : RunWithin p foreign floor top executed m last

  pub led_one : (i : Instruction) (m n : Machine) → IsWithin floor top m → m.is_masked ≡ true
      → p.code m.address ≡ Some i → effect p.port i m ≡ Some n
      → ((w : ℕ) → foreign w ≡ true → IsApartFrom w i m) → Led m n
  led_one i m n within masked found does apart = record {
    executed = i ∷ [];
    run = (
      within,
      record { at_top = λ memory same. masked_is_top (record m { memory = memory }) masked; apart = apart },
      found,
      (n, does, refl),
    );
  }

  runs_behind : (xs ys : List Instruction) (m n o : Machine) → RunWithin p foreign floor top xs m n
      → RunWithin p foreign floor top ys n o → RunWithin p foreign floor top (xs ++ ys) m o
  runs_behind [] ys m n o r s = subst (λ (k : Machine). RunWithin p foreign floor top ys k o) r s
  runs_behind (x ∷ xs) ys m n o (within, first, found, rest) s =
      (within, first, found, (rest.0, rest.1, runs_behind xs ys rest.0 n o rest.2 s))

  pub led_on : (m n o : Machine) → Led m n → Led n o → Led m o
  led_on m n o a b =
      record { executed = a.executed ++ b.executed; run = runs_behind a.executed b.executed m n o a.run b.run }

  pub led_privately : IsApart p floor top → AreClear foreign floor top → (is : List Instruction) (m n : Machine)
      → IsWithin floor top m
      → m.is_masked ≡ true → RunsPrivately p floor top is m n → Led m n
  led_privately apart clear [] m n within masked r = record { executed = []; run = r }
  led_privately apart clear (i ∷ is) m n within masked r =
      let own = private_is_unseen p floor top (i ∷ []) m r.0 apart within.0 within.1 (r.0, r.1, refl) in
      let still : r.0.is_masked ≡ true = ap (λ (x : Machine). x.is_masked) own.rest ∙ masked in
      led_on m r.0 n (led_one i m r.0 within masked r.1.executes.found r.1.executes.does
      (λ w f. private_apart floor top w i m (clear w f) within.0 r.1.is_private))
      (led_privately apart clear is r.0 n own.stack still r.2)

-- the loop that copies
abbrev pub loop : List Instruction
loop =
    instruction.Operate operation.Compare 1 2 ∷ instruction.BranchIf condition.Equal 12
    ∷ instruction.Load 3 0 0 ∷ instruction.Store 3 1 0 ∷ instruction.AddNumber 0 4 ∷ instruction.AddNumber 1 4
    ∷ instruction.Branch (2 ^ 32 - 18) ∷ []

-- so many words were copied, from one address on to another
pub record Copied (p : Program) (foreign : ℕ → Bool) (floor top : ℕ) (m : Machine) (from to count : ℕ) : Type 0 where
  pub last : Machine
  pub led : Led p foreign floor top m last
  pub rest : last ≡ record m {
    register = last.register;
    flags = last.flags;
    address = m.address + 18;
    memory = last.memory;
  }
  pub registers : (k : ℕ) → 4 ≤ k → last.register k ≡ m.register k
  pub copied : (j : ℕ) → j < count → word_at last (to + 4 * j) ≡ word_at m (from + 4 * j)
  pub memory : (k : ℕ) → (4 * k + 4 ≤ to) ⊎ (to + 4 * count ≤ 4 * k) → last.memory k ≡ m.memory k
  pub words : HoldsWords last

-- words may be copied: from and to where there is memory, apart from each other, and beside the port
pub record CanCopy (out from to count : ℕ) : Type 0 where
  pub from_aligned : from % 4 ≡ 0
  pub to_aligned : to % 4 ≡ 0
  pub from_space : from + 4 * count < 2 ^ 32
  pub to_memory : to + 4 * count ≤ 0xE0000000
  pub apart : (from + 4 * count ≤ to) ⊎ (to + 4 * count ≤ from)
  pub port : (out < to) ⊎ (to + 4 * count ≤ out)

further : (port from to count : ℕ) → CanCopy port from to (suc count) → CanCopy port (from + 4) (to + 4) count
further port from to count can = record {
  from_aligned = omega (arith, can.from_aligned);
  to_aligned = omega (arith, can.to_aligned);
  from_space = omega (arith, can.from_space);
  to_memory = omega (arith, can.to_memory);
  apart = ⊎_elim (λ (x : from + 4 * suc count ≤ to). inl (omega (arith, x)))
      (λ (x : to + 4 * suc count ≤ from). inr (omega (arith, x))) can.apart;
  port = ⊎_elim (λ (x : port < to). inl (omega (arith, x))) (λ (x : to + 4 * suc count ≤ port). inr (omega (arith, x)))
      can.port;
}

first_memory : (port from to count : ℕ) → CanCopy port from to (suc count) → IsMemory port to
first_memory port from to count can = record {
  aligned = can.to_aligned;
  no_port = λ e.
      ⊎_elim (λ (x : port < to). omega (arith, x, e)) (λ (x : to + 4 * suc count ≤ port). omega (arith, x, e)) can.port;
  below = omega (arith, can.to_memory);
}

-- what a comparison of two registers says
compared : (a b : ℕ) → a < 2 ^ 32 → b < 2 ^ 32
    → ((add_with_carry a (complement b) true).value == 0) ≡ (a == b)
compared a b h k = ap (λ (x : ℕ). x == 0) (minus a b k) ∙ is_none a b h k

-- foreign words lie apart from words that are copied, and from where they go
pub record CopyIsClear (foreign : ℕ → Bool) (from to count : ℕ) : Type 0 where
  pub source : (w : ℕ) → foreign w ≡ true → (4 * w + 4 ≤ from) ⊎ (from + 4 * count ≤ 4 * w)
  pub target : (w : ℕ) → foreign w ≡ true → (4 * w + 4 ≤ to) ⊎ (to + 4 * count ≤ 4 * w)

clear_further : (foreign : ℕ → Bool) (from to count : ℕ) → CopyIsClear foreign from to (suc count)
    → CopyIsClear foreign (from + 4) (to + 4) count
clear_further foreign from to count x = record {
  source = λ w f. ⊎_elim (λ (y : 4 * w + 4 ≤ from). inl (omega (arith, y)))
      (λ (y : from + 4 * suc count ≤ 4 * w). inr (omega (arith, y))) (x.source w f);
  target = λ w f. ⊎_elim (λ (y : 4 * w + 4 ≤ to). inl (omega (arith, y)))
      (λ (y : to + 4 * suc count ≤ 4 * w). inr (omega (arith, y))) (x.target w f);
}

-- the first of such words is none of them
first_clear : (a count r w : ℕ) → a % 4 ≡ 0 → word (r + 0) ≡ a → (4 * w + 4 ≤ a) ⊎ (a + 4 * suc count ≤ 4 * w)
    → w ≡ word (r + 0) / 4 → ⊥
first_clear a count r w aligned is apart e =
    ⊎_elim (λ (y : 4 * w + 4 ≤ a). absurd (omega (arith, y, e, is, aligned)))
    (λ (y : a + 4 * suc count ≤ 4 * w). absurd (omega (arith, y, e, is, aligned))) apart

module _ (at : Outside) (img : Image) (places : List ℕ) (p : Program) (code : HasCode at img places p)
    (foreign : ℕ → Bool) (floor top : ℕ) where
  -- no word more
  ends : (m : Machine) (from to : ℕ) → m.register 1 ≡ to → m.register 2 ≡ to → m.is_masked ≡ true
      → IsWithin floor top m → HoldsWords m → Spans p m.address loop (m.address + 18) → m.address < 0xE0000000
      → Copied p foreign floor top m from to 0
  ends m from to r1 r2 masked within words span low =
      let i = instruction.Operate operation.Compare 1 2 in
      let j = instruction.BranchIf condition.Equal 12 in
      let m1 = stepped p i m in
      let is : m1.flags.is_zero ≡ true =
      compared (m.register 1) (m.register 2) (words.registers 1) (words.registers 2)
      ∙ same_number (m.register 1) (m.register 2) (r1 ∙ sym r2) in
      let arrives : word (m.address + 2 + 4 + 12) ≡ m.address + 18 = omega (arith, low) in
      let m2 = record m1 { address = m.address + 18 } in
      let does : effect p.port j m1 ≡ Some m2 =
      ap (λ (t : Bool). if t then branched 12 m1 else behind j m1) is
      ∙ ap (λ (x : ℕ). Some (record m1 { address = x })) arrives in
      let w1 = words_after at img places p code i m m1 (record { found = span.0; does = refl }) tt words in
      record {
        last = m2;
        led = led_on p foreign floor top m m1 m2 (led_one p foreign floor top i m m1 within masked span.0 refl
            (λ w f. tt))
            (led_one p foreign floor top j m1 m2 within masked span.1.0 does (λ w f. tt));
        rest = refl;
        registers = λ k h. refl;
        copied = λ k l. absurd (omega (arith, l));
        memory = λ k h. refl;
        words = words_after at img places p code j m1 m2 (record { found = span.1.0; does = does }) tt w1;
      }

  -- one word
  pub record One (m : Machine) (from to : ℕ) : Type 0 where
    pub next : Machine
    pub led : Led p foreign floor top m next
    pub rest : next ≡ record m {
      register = next.register;
      flags = next.flags;
      memory = written m.memory to (word_at m from);
    }
    pub source : next.register 0 ≡ from + 4
    pub target : next.register 1 ≡ to + 4
    pub limit : next.register 2 ≡ m.register 2
    pub registers : (k : ℕ) → 4 ≤ k → next.register k ≡ m.register k
    pub words : HoldsWords next

  one : (m : Machine) (from to count : ℕ) → CanCopy p.port from to (suc count)
      → CopyIsClear foreign from to (suc count) → m.register 0 ≡ from
      → m.register 1 ≡ to → m.register 2 ≡ to + 4 * suc count → m.is_masked ≡ true → IsWithin floor top m → HoldsWords m
      → Spans p m.address loop (m.address + 18) → m.address < 0xE0000000 → One m from to
  one m from to count can clear r0 r1 r2 masked within words span low =
      let i1 = instruction.Operate operation.Compare 1 2 in
      let i2 = instruction.BranchIf condition.Equal 12 in
      let i3 = instruction.Load 3 0 0 in
      let i4 = instruction.Store 3 1 0 in
      let i5 = instruction.AddNumber 0 4 in
      let i6 = instruction.AddNumber 1 4 in
      let i7 = instruction.Branch (2 ^ 32 - 18) in
      let v = word_at m from in
      let m1 = stepped p i1 m in
      let is : m1.flags.is_zero ≡ false =
      compared (m.register 1) (m.register 2) (words.registers 1) (words.registers 2)
      ∙ not_equal (m.register 1) (m.register 2) (λ e. omega (arith, e, r1, r2)) in
      let m2 = record m1 { address = m.address + 2 + 4 } in
      let does2 : effect p.port i2 m1 ≡ Some m2 =
      ap (λ (t : Bool). if t then branched 12 m1 else behind i2 m1) is in
      let m3 = record m2 { register = λ k. if k == 3 then v else m.register k; address = m.address + 2 + 4 + 2 } in
      let does3 : effect p.port i3 m2 ≡ Some m3 =
      loading_is i3 3 (word (m.register 0 + 0)) from m2 (omega (arith, r0, can.from_space)) can.from_aligned in
      let memory = first_memory p.port from to count can in
      let m4 = record m3 { memory = written m.memory to v; address = m.address + 2 + 4 + 2 + 2 } in
      let does4 : effect p.port i4 m3 ≡ Some m4 =
      storing_is p.port i4 3 (word (m.register 1 + 0)) to m3 (omega (arith, r1, can.to_memory)) memory in
      let m5 = stepped p i5 m4 in
      let m6 = stepped p i6 m5 in
      let returns : word (m.address + 2 + 4 + 2 + 2 + 2 + 2 + 4 + (2 ^ 32 - 18)) ≡ m.address = omega (arith, low) in
      let m7 = record m6 { address = m.address } in
      let does7 : effect p.port i7 m6 ≡ Some m7 = ap (λ (x : ℕ). Some (record m6 { address = x })) returns in
      let f3 = span.1.1 in
      let f5 = f3.1.1 in
      let f7 = f5.1.1 in
      let w1 = words_after at img places p code i1 m m1 (record { found = span.0; does = refl }) tt words in
      let w2 = words_after at img places p code i2 m1 m2 (record { found = span.1.0; does = does2 }) tt w1 in
      let w3 = words_after at img places p code i3 m2 m3 (record { found = f3.0; does = does3 }) tt w2 in
      let w4 = words_after at img places p code i4 m3 m4 (record { found = f3.1.0; does = does4 }) tt w3 in
      let w5 = words_after at img places p code i5 m4 m5 (record { found = f5.0; does = refl }) tt w4 in
      let w6 = words_after at img places p code i6 m5 m6 (record { found = f5.1.0; does = refl }) tt w5 in
      record {
        next = m7;
        led = led_on p foreign floor top m m1 m7 (led_one p foreign floor top i1 m m1 within masked span.0 refl
            (λ w f. tt))
            (led_on p foreign floor top m1 m2 m7 (led_one p foreign floor top i2 m1 m2 within masked span.1.0 does2
            (λ w f. tt))
            (led_on p foreign floor top m2 m3 m7 (led_one p foreign floor top i3 m2 m3 within masked f3.0 does3
            (λ w f. first_clear from count (m.register 0) w can.from_aligned (omega (arith, r0, can.from_space))
            (clear.source w f)))
            (led_on p foreign floor top m3 m4 m7 (led_one p foreign floor top i4 m3 m4 within masked f3.1.0 does4
            (λ w f. first_clear to count (m.register 1) w can.to_aligned (omega (arith, r1, can.to_memory))
            (clear.target w f)))
            (led_on p foreign floor top m4 m5 m7 (led_one p foreign floor top i5 m4 m5 within masked f5.0 refl
            (λ w f. tt))
            (led_on p foreign floor top m5 m6 m7 (led_one p foreign floor top i6 m5 m6 within masked f5.1.0 refl
            (λ w f. tt))
            (led_one p foreign floor top i7 m6 m7 within masked f7.0 does7 (λ w f. tt)))))));
        rest = refl;
        source = omega (arith, r0, can.from_space);
        target = omega (arith, r1, can.to_memory);
        limit = refl;
        registers = λ k h.
            other k 1 _ _ (λ e. omega (arith, e, h)) ∙ (other k 0 _ _ (λ e. omega (arith, e, h))
            ∙ other k 3 _ _ (λ e. omega (arith, e, h)));
        words = words_after at img places p code i7 m6 m7 (record { found = f7.0; does = does7 }) tt w6;
      }

  pub copies : (count : ℕ) (m : Machine) (from to : ℕ) → CanCopy p.port from to count
      → CopyIsClear foreign from to count → m.register 0 ≡ from
      → m.register 1 ≡ to → m.register 2 ≡ to + 4 * count → m.is_masked ≡ true → IsWithin floor top m → HoldsWords m
      → Spans p m.address loop (m.address + 18) → m.address < 0xE0000000 → Copied p foreign floor top m from to count
  copies zero m from to can clear r0 r1 r2 masked within words span low =
      ends m from to r1 (r2 ∙ omega arith) masked within words span low
  copies (suc count) m from to can clear r0 r1 r2 masked within words span low =
      let o = one m from to count can clear r0 r1 r2 masked within words span low in
      let v = word_at m from in
      let same_address : o.next.address ≡ m.address = ap (λ (x : Machine). x.address) o.rest in
      let still : o.next.is_masked ≡ true = ap (λ (x : Machine). x.is_masked) o.rest ∙ masked in
      let more = copies count o.next (from + 4) (to + 4) (further p.port from to count can)
      (clear_further foreign from to count clear) o.source o.target
      (o.limit ∙ (r2 ∙ omega arith)) still
      (subst (λ (k : ℕ). (floor ≤ k) × (k ≤ top)) (sym (o.registers 13 (omega arith))) within) o.words
      (subst (λ (a : ℕ). Spans p a loop (a + 18)) (sym same_address) span)
      (subst (λ (a : ℕ). a < 0xE0000000) (sym same_address) low) in
      let memory_is : (k : ℕ) → o.next.memory k ≡ written m.memory to v k =
      λ k. ap (λ (x : Machine). x.memory k) o.rest in
      record {
        last = more.last;
        led = led_on p foreign floor top m o.next more.last o.led more.led;
        rest = more.rest ∙ (ap (λ (x : Machine). record x {
          register = more.last.register;
          flags = more.last.flags;
          address = o.next.address + 18;
          memory = more.last.memory;
        }) o.rest ∙ ap (λ (a : ℕ). record m {
          register = more.last.register;
          flags = more.last.flags;
          address = a + 18;
          memory = more.last.memory;
        }) same_address);
        registers = λ k h. more.registers k h ∙ o.registers k h;
        copied = each more memory_is;
        memory = λ k h.
            more.memory k (⊎_elim (λ (x : 4 * k + 4 ≤ to). inl (omega (arith, x)))
            (λ (x : to + 4 * suc count ≤ 4 * k). inr (omega (arith, x))) h)
            ∙ (memory_is k ∙ other k (to / 4) v (m.memory k) (λ e.
            ⊎_elim (λ (x : 4 * k + 4 ≤ to). omega (arith, x, e, can.to_aligned))
            (λ (x : to + 4 * suc count ≤ 4 * k). omega (arith, x, e, can.to_aligned)) h));
        words = more.words;
      }
    where
      each : (more : Copied p foreign floor top (one m from to count can clear r0 r1 r2 masked within words span
          low).next
          (from + 4) (to + 4) count)
          → ((k : ℕ) → (one m from to count can clear r0 r1 r2 masked within words span low).next.memory k
          ≡ written m.memory to (word_at m from) k)
          → (j : ℕ) → j < suc count → word_at more.last (to + 4 * j) ≡ word_at m (from + 4 * j)
      each more memory_is zero l =
          let here : (to + 4 * 0) / 4 ≡ to / 4 = omega arith in
          let there : (from + 4 * 0) / 4 ≡ from / 4 = omega arith in
          ap more.last.memory here
          ∙ (more.memory (to / 4) (inl (omega (arith, can.to_aligned)))
          ∙ (memory_is (to / 4) ∙ (same (to / 4) (word_at m from) (m.memory (to / 4)) ∙ ap m.memory (sym there))))
      each more memory_is (suc j) l =
          let here : to + 4 * suc j ≡ to + 4 + 4 * j = omega arith in
          let there : from + 4 + 4 * j ≡ from + 4 * suc j = omega arith in
          ap (word_at more.last) here
          ∙ (more.copied j (omega (arith, l)) ∙ (memory_is ((from + 4 + 4 * j) / 4)
          ∙ (other ((from + 4 + 4 * j) / 4) (to / 4) (word_at m from) (m.memory ((from + 4 + 4 * j) / 4)) (λ e.
          ⊎_elim (λ (x : from + 4 * suc count ≤ to).
          omega (arith, x, e, l, can.to_aligned, can.from_aligned))
          (λ (x : to + 4 * suc count ≤ from). omega (arith, x, e, l, can.to_aligned, can.from_aligned)) can.apart)
          ∙ ap (word_at m) there)))
