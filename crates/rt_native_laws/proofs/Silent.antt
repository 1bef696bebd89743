-- One machine instruction that is private, of an instruction of the image that has more behind it.
use Rattle.std.proofs.Common.{◌≡◌, ◌∙◌, ℕ, ◌+◌, ◌*◌, ◌≤◌, ◌<◌, false, inl, inr, ⊎_elim}
use Rattle.std.proofs.Common.{List, [], ◌∷◌, ◌++◌, Option, Some, sym, refl, ap, arith, length, append_assoc}
use Rattle.std.proofs.lemmas.Bool.{cases_lt}
use Rattle.std.specs.Prelude.{slice_get, ◌%◌}
use mathlib.Core.Path.{fun_ext}
use Rattle.rt_code.specs.Image.{Image}
use Rattle.rt_code.specs.declared.instr.Instr.{Instr}
use Rattle.rt_code.specs.declared.instr.Note.{Note}
use Rattle.rt_core.specs.Core.{Core}
use Rattle.rt_native.specs.declared.outside.Outside.{Outside}
use Rattle.rt_thumb.specs.Machine.{Machine}
use Rattle.rt_thumb.specs.Step.{Program}
use Rattle.rt_thumb.specs.declared.instruction.Instruction.{Instruction}
use Rattle.rt_native_laws.specs.Doing.{IsAt, machine_code}
use Rattle.rt_native_laws.specs.Going.{IsNothing}
use Rattle.rt_native_laws.specs.Laws.{IsApart}
use Rattle.rt_native_laws.specs.Own.{RunsPrivately, StepsPrivately}
use Rattle.rt_native_laws.specs.Phases.{IsNoCall, IsSameAbove, ToCome}
use Rattle.rt_native_laws.specs.Standing.{frames_end}
use Rattle.rt_native_laws.proofs.Beginning.{same_words}
use Rattle.rt_native_laws.proofs.Phases.{apart_of}
use Rattle.rt_native_laws.proofs.Private.{private_is_unseen}
use Rattle.rt_native_laws.proofs.Runs.{runs_on}

-- a state that differs from another at most below the stack pointer, down to it, is the same
pub same_state : (floor : ℕ) (before after : Machine) → IsSameAbove floor before after → before.register 13 ≡ floor
    → floor % 4 ≡ 0 → after ≡ before
same_state floor before after x e z =
    let sp : after.register 13 ≡ floor = ap (λ (y : Machine). y.register 13) x.rest ∙ e in
    x.rest ∙ ap (λ (f : ℕ → ℕ). record before { memory = f })
    (fun_ext (λ k. x.memory k (⊎_elim (λ (h : floor < 4 * k + 4). inr (omega (arith, h, sp, z)))
    (λ (h : 4 * k + 4 ≤ floor). inl h) (cases_lt floor (4 * k + 4)))))

module _ (at : Outside) (bottom : ℕ) (img : Image) (places : List ℕ) (p : Program) (i : Instr) (note : Option Note)
    (c : Core) (line : slice_get img.code c.processor.address ≡ Some (i, note)) (top : ℕ) (first : Machine)
    (here : IsAt at bottom img places p i c first) (ends : frames_end c first ≡ top)
    (settled : first.is_unsettled ≡ false) where
  abbrev low : ℕ
  low = first.register 13

  pub own_apart : IsApart p low top
  own_apart = apart_of at bottom low top (length c.processor.cells) p here.laid here.port here.stands.stack
      (omega (arith, ends, here.stands.frames))

  pub goes_silently : IsNoCall i → (passed : List Instruction) (next y : Instruction) (ys : List Instruction)
      → machine_code at bottom img places p i c ≡ passed ++ next ∷ y ∷ ys → (reached n : Machine)
      → RunsPrivately p low top passed first reached → low ≤ reached.register 13 → reached.register 13 ≤ top
      → StepsPrivately p low top next reached n
      → IsNothing at bottom img places p c top reached n (length c.processor.slots)
  goes_silently kind passed next y ys parts reached n prepares deep high steps =
      let alone : RunsPrivately p low top (next ∷ []) reached n = (n, steps, refl) in
      record {
        core = c;
        words = same_words (length c.processor.slots) c;
        fresh = omega arith;
        phase = ToCome (record {
          instruction = i;
          kind = kind;
          note = note;
          line = line;
          first = first;
          stands = here;
          ends = ends;
          settled = settled;
          passed = passed ++ next ∷ [];
          next = y;
          left = ys;
          parts = parts ∙ sym (append_assoc passed (next ∷ []) (y ∷ ys));
          reached = n;
          prepares = runs_on p low top passed (next ∷ []) first reached n prepares alone;
          now = record { rest = refl; memory = λ k h. refl };
        });
        floor = low;
        deep = here.stands.stack;
        unseen = private_is_unseen p low top (next ∷ []) reached n own_apart deep high alone;
      }
