-- The operation in the middle of a calculation: r0 gets what it gives on r0 and r1.
use Rattle.std.proofs.Common.{◌≡◌, ◌∙◌, ℕ, ◌^◌, ◌<◌, ◌≤◌, true}
use Rattle.std.proofs.Common.{List, [], ◌∷◌, Option, Some, None, sym, refl, subst, arith}
use Rattle.rt_ids.specs.Operation.{operate}
use Rattle.rt_ids.specs.declared.op.Op.{Op}
use Rattle.rt_ids.specs.declared.op.Op.TheVariants as op
use Rattle.rt_native.specs.Sequences.{calculation, shifting, comparing}
use Rattle.rt_thumb.specs.Effect.{effect}
use Rattle.rt_thumb.specs.Machine.{Machine, Flags}
use Rattle.rt_thumb.specs.Step.{Program}
use Rattle.rt_thumb.specs.declared.instruction.Instruction.{Instruction}
use Rattle.rt_thumb.specs.declared.instruction.Instruction.TheVariants as instruction
use Rattle.rt_thumb.specs.declared.instruction.Operation.TheVariants as operation
use Rattle.rt_native_laws.specs.Own.{is_private, RunsPrivately, Spans}
use Rattle.rt_native_laws.proofs.Carries.{plus, minus, rest, left, right, equal, different, less, no_less}
use Rattle.rt_native_laws.proofs.Pieces.{moved, steps, other}

-- private code to an address, by which r0 gets a value; of the others r1 to r3 may change
pub record Makes (p : Program) (floor top : ℕ) (code : List Instruction) (value : ℕ) (m : Machine) (to : ℕ)
    : Type 0 where
  pub register : ℕ → ℕ
  pub flags : Flags
  pub runs : RunsPrivately p floor top code m (moved m register flags to)
  pub makes : register 0 ≡ value
  pub others : (k : ℕ) → 4 ≤ k → register k ≡ m.register k

makes_at : (p : Program) (floor top : ℕ) (code : List Instruction) (value : ℕ) (m : Machine) (from to : ℕ)
    → to ≡ from → Makes p floor top code value m from → Makes p floor top code value m to
makes_at p floor top code value m from to e g = subst (λ (k : ℕ). Makes p floor top code value m k) (sym e) g

-- the state after an instruction that is no fault
abbrev sure : Machine → Option Machine → Machine
sure m None = m
sure m (Some n) = n

abbrev pub next : Program → Instruction → Machine → Machine
next p i m = sure m (effect p.port i m)

module _ (p : Program) (floor top : ℕ) (m : Machine) (to : ℕ) where
  by_one : (i : Instruction) (value : ℕ) → Spans p m.address (i ∷ []) to
      → effect p.port i m ≡ Some (moved m (next p i m).register (next p i m).flags (next p i m).address)
      → is_private floor top i m ≡ true → to ≡ (next p i m).address → (next p i m).register 0 ≡ value
      → ((k : ℕ) → 4 ≤ k → (next p i m).register k ≡ m.register k)
      → Makes p floor top (i ∷ []) value m to
  by_one i value s does own e v o =
      makes_at p floor top (i ∷ []) value m (next p i m).address to e (record {
        register = (next p i m).register;
        flags = (next p i m).flags;
        runs = (_, steps p floor top i m _ s.0 does own, refl);
        makes = v;
        others = o;
      })

  pub calculates : (o : Op) → m.register 0 < 2 ^ 32 → m.register 1 < 2 ^ 32 → m.register 2 < 2 ^ 32
      → Spans p m.address (calculation o) to
      → Makes p floor top (calculation o) (operate o (m.register 0) (m.register 1)) m to
  unfolding calculation shifting comparing
  calculates op.Add a b c s = by_one (instruction.Add 0 0 1) _ s refl refl s.1 (plus (m.register 0) (m.register 1))
      (λ k h. other k 0 _ _ (omega arith))
  calculates op.Sub a b c s = by_one (instruction.Subtract 0 0 1) _ s refl refl s.1
      (minus (m.register 0) (m.register 1) b) (λ k h. other k 0 _ _ (omega arith))
  calculates op.Mul a b c s = by_one (instruction.Operate operation.Multiply 0 1) _ s refl refl s.1 refl
      (λ k h. other k 0 _ _ (omega arith))
  calculates op.Div a b c s = by_one (instruction.Divide 0 0 1) _ s refl refl s.1 refl
      (λ k h. other k 0 _ _ (omega arith))
  calculates op.And a b c s = by_one (instruction.Operate operation.And 0 1) _ s refl refl s.1 refl
      (λ k h. other k 0 _ _ (omega arith))
  calculates op.Or a b c s = by_one (instruction.Operate operation.Or 0 1) _ s refl refl s.1 refl
      (λ k h. other k 0 _ _ (omega arith))
  calculates op.Xor a b c s = by_one (instruction.Operate operation.ExclusiveOr 0 1) _ s refl refl s.1 refl
      (λ k h. other k 0 _ _ (omega arith))
  calculates op.Rem a b c s =
      let i = instruction.Divide 2 0 1 in
      let j = instruction.MultiplySubtract 0 2 1 0 in
      let m1 = next p i m in
      let m2 = next p j m1 in
      makes_at p floor top (i ∷ j ∷ []) _ m m2.address to s.1.1 (record {
        register = m2.register;
        flags = m2.flags;
        runs = (m1, steps p floor top i m m1 s.0 refl refl, (m2, steps p floor top j m1 m2 s.1.0 refl refl, refl));
        makes = rest (m.register 0) (m.register 1) a;
        others = λ k h. other k 0 _ _ (omega arith) ∙ other k 2 _ _ (omega arith);
      })
  calculates op.Shl a b c s =
      let h = instruction.CompareNumber 1 32 in
      let i = instruction.Operate operation.SubtractWithCarry 2 2 in
      let j = instruction.Operate operation.ShiftLeft 0 1 in
      let l = instruction.Operate operation.And 0 2 in
      let m1 = next p h m in
      let m2 = next p i m1 in
      let m3 = next p j m2 in
      let m4 = next p l m3 in
      makes_at p floor top (h ∷ i ∷ j ∷ l ∷ []) _ m m4.address to s.1.1.1.1 (record {
        register = m4.register;
        flags = m4.flags;
        runs = (
          m1,
          steps p floor top h m m1 s.0 refl refl,
          (
            m2,
            steps p floor top i m1 m2 s.1.0 refl refl,
            (
              m3,
              steps p floor top j m2 m3 s.1.1.0 refl refl,
              (
                m4,
                steps p floor top l m3 m4 s.1.1.1.0 refl refl,
                refl,
              ),
            ),
          ),
        );
        makes = left (m.register 0) (m.register 1) (m.register 2) m2.flags.is_carry b c;
        others = λ k g. other k 0 _ _ (omega arith) ∙ (other k 0 _ _ (omega arith) ∙ other k 2 _ _ (omega arith));
      })
  calculates op.Shr a b c s =
      let h = instruction.CompareNumber 1 32 in
      let i = instruction.Operate operation.SubtractWithCarry 2 2 in
      let j = instruction.Operate operation.ShiftRight 0 1 in
      let l = instruction.Operate operation.And 0 2 in
      let m1 = next p h m in
      let m2 = next p i m1 in
      let m3 = next p j m2 in
      let m4 = next p l m3 in
      makes_at p floor top (h ∷ i ∷ j ∷ l ∷ []) _ m m4.address to s.1.1.1.1 (record {
        register = m4.register;
        flags = m4.flags;
        runs = (
          m1,
          steps p floor top h m m1 s.0 refl refl,
          (
            m2,
            steps p floor top i m1 m2 s.1.0 refl refl,
            (
              m3,
              steps p floor top j m2 m3 s.1.1.0 refl refl,
              (
                m4,
                steps p floor top l m3 m4 s.1.1.1.0 refl refl,
                refl,
              ),
            ),
          ),
        );
        makes = right (m.register 0) (m.register 1) (m.register 2) m2.flags.is_carry a b c;
        others = λ k g. other k 0 _ _ (omega arith) ∙ (other k 0 _ _ (omega arith) ∙ other k 2 _ _ (omega arith));
      })
  calculates op.Eq a b c s =
      let i = instruction.Subtract 0 0 1 in
      let j = instruction.Operate operation.Negate 1 0 in
      let l = instruction.Operate operation.AddWithCarry 0 1 in
      let m1 = next p i m in
      let m2 = next p j m1 in
      let m3 = next p l m2 in
      makes_at p floor top (i ∷ j ∷ l ∷ []) _ m m3.address to s.1.1.1 (record {
        register = m3.register;
        flags = m3.flags;
        runs = (
          m1,
          steps p floor top i m m1 s.0 refl refl,
          (
            m2,
            steps p floor top j m1 m2 s.1.0 refl refl,
            (m3, steps p floor top l m2 m3 s.1.1.0 refl refl, refl),
          ),
        );
        makes = equal (m.register 0) (m.register 1) a b;
        others = λ k g. other k 0 _ _ (omega arith) ∙ (other k 1 _ _ (omega arith) ∙ other k 0 _ _ (omega arith));
      })
  calculates op.Ne a b c s =
      let i = instruction.Subtract 0 0 1 in
      let j = instruction.SubtractNumber 1 0 1 in
      let l = instruction.Operate operation.SubtractWithCarry 0 1 in
      let m1 = next p i m in
      let m2 = next p j m1 in
      let m3 = next p l m2 in
      makes_at p floor top (i ∷ j ∷ l ∷ []) _ m m3.address to s.1.1.1 (record {
        register = m3.register;
        flags = m3.flags;
        runs = (
          m1,
          steps p floor top i m m1 s.0 refl refl,
          (
            m2,
            steps p floor top j m1 m2 s.1.0 refl refl,
            (m3, steps p floor top l m2 m3 s.1.1.0 refl refl, refl),
          ),
        );
        makes = different (m.register 0) (m.register 1) a b;
        others = λ k g. other k 0 _ _ (omega arith) ∙ (other k 1 _ _ (omega arith) ∙ other k 0 _ _ (omega arith));
      })
  calculates op.Lt a b c s =
      let i = instruction.Operate operation.Compare 0 1 in
      let j = instruction.Operate operation.SubtractWithCarry 0 0 in
      let l = instruction.Operate operation.Negate 0 0 in
      let m1 = next p i m in
      let m2 = next p j m1 in
      let m3 = next p l m2 in
      makes_at p floor top (i ∷ j ∷ l ∷ []) _ m m3.address to s.1.1.1 (record {
        register = m3.register;
        flags = m3.flags;
        runs = (
          m1,
          steps p floor top i m m1 s.0 refl refl,
          (
            m2,
            steps p floor top j m1 m2 s.1.0 refl refl,
            (m3, steps p floor top l m2 m3 s.1.1.0 refl refl, refl),
          ),
        );
        makes = less (m.register 0) (m.register 1) (m.register 0) a b a;
        others = λ k g. other k 0 _ _ (omega arith) ∙ other k 0 _ _ (omega arith);
      })
  calculates op.Le a b c s =
      let i = instruction.Operate operation.Compare 1 0 in
      let j = instruction.Operate operation.SubtractWithCarry 0 0 in
      let l = instruction.AddNumber 0 1 in
      let m1 = next p i m in
      let m2 = next p j m1 in
      let m3 = next p l m2 in
      makes_at p floor top (i ∷ j ∷ l ∷ []) _ m m3.address to s.1.1.1 (record {
        register = m3.register;
        flags = m3.flags;
        runs = (
          m1,
          steps p floor top i m m1 s.0 refl refl,
          (
            m2,
            steps p floor top j m1 m2 s.1.0 refl refl,
            (m3, steps p floor top l m2 m3 s.1.1.0 refl refl, refl),
          ),
        );
        makes = no_less (m.register 1) (m.register 0) (m.register 0) b a a;
        others = λ k g. other k 0 _ _ (omega arith) ∙ other k 0 _ _ (omega arith);
      })
  calculates op.Gt a b c s =
      let i = instruction.Operate operation.Compare 1 0 in
      let j = instruction.Operate operation.SubtractWithCarry 0 0 in
      let l = instruction.Operate operation.Negate 0 0 in
      let m1 = next p i m in
      let m2 = next p j m1 in
      let m3 = next p l m2 in
      makes_at p floor top (i ∷ j ∷ l ∷ []) _ m m3.address to s.1.1.1 (record {
        register = m3.register;
        flags = m3.flags;
        runs = (
          m1,
          steps p floor top i m m1 s.0 refl refl,
          (
            m2,
            steps p floor top j m1 m2 s.1.0 refl refl,
            (m3, steps p floor top l m2 m3 s.1.1.0 refl refl, refl),
          ),
        );
        makes = less (m.register 1) (m.register 0) (m.register 0) b a a;
        others = λ k g. other k 0 _ _ (omega arith) ∙ other k 0 _ _ (omega arith);
      })
  calculates op.Ge a b c s =
      let i = instruction.Operate operation.Compare 0 1 in
      let j = instruction.Operate operation.SubtractWithCarry 0 0 in
      let l = instruction.AddNumber 0 1 in
      let m1 = next p i m in
      let m2 = next p j m1 in
      let m3 = next p l m2 in
      makes_at p floor top (i ∷ j ∷ l ∷ []) _ m m3.address to s.1.1.1 (record {
        register = m3.register;
        flags = m3.flags;
        runs = (
          m1,
          steps p floor top i m m1 s.0 refl refl,
          (
            m2,
            steps p floor top j m1 m2 s.1.0 refl refl,
            (m3, steps p floor top l m2 m3 s.1.1.0 refl refl, refl),
          ),
        );
        makes = no_less (m.register 0) (m.register 1) (m.register 0) a b a;
        others = λ k g. other k 0 _ _ (omega arith) ∙ other k 0 _ _ (omega arith);
      })
