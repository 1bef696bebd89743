-- The first machine instruction of a call.
use Rattle.std.proofs.Common.{◌≡◌, ◌∙◌, ℕ, suc, ◌+◌, ◌-◌, ◌/◌, ◌%◌, ◌^◌, ◌<◌, ◌≤◌, inl, inr, true, false}
use Rattle.std.proofs.Common.{List, [], ◌∷◌, ◌++◌, Option, Some, refl, sym, ap, subst, arith, length, ⊎_elim}
use Rattle.std.proofs.lemmas.Bool.{cases_eq}
use Rattle.std.proofs.lemmas.List.{length-set}
use Rattle.std.specs.Prelude.{if◌then◌else◌, ◌==◌, ◌||◌, nat_le, option_map, slice_get, slice_index, unwrap_or}
use Rattle.rt_lemmas.proofs.Bools.{and_parts}
use Rattle.rt_code.specs.Image.{Image}
use Rattle.rt_code.specs.Stack.{arguments_fit, caller_frame, last_slot}
use Rattle.rt_code.specs.declared.image.BodyRow.{BodyRow}
use Rattle.rt_code.specs.declared.instr.Instr.{Instr}
use Rattle.rt_code.specs.declared.instr.Instr.TheVariants as instr
use Rattle.rt_code.specs.declared.instr.Note.{Note}
use Rattle.rt_code.specs.declared.processor.Trap.TheVariants as trap
use Rattle.rt_core.specs.Core.{Core}
use Rattle.rt_core.specs.Outcome.{Trapped}
use Rattle.rt_core.specs.Transfer.{call_fits, call_row, core_after_call, has_room, may_call}
use Rattle.rt_ids.specs.Operation.{wrapped_number as word}
use Rattle.rt_native.specs.Pieces.{address, open_frame, write_slot}
use Rattle.rt_native.specs.Sequences.{RETURN_SLOT, branch, call, read_arguments, write_arguments}
use Rattle.rt_native.specs.declared.outside.Outside.{Outside}
use Rattle.rt_thumb.specs.Machine.{Machine}
use Rattle.rt_thumb.specs.Step.{Program}
use Rattle.rt_thumb.specs.declared.instruction.Instruction.{Instruction}
use Rattle.rt_thumb.specs.declared.instruction.Instruction.TheVariants as instruction
use Rattle.rt_trace.specs.declared.item.What.{What}
use Rattle.rt_native_laws.specs.Doing.{CanCall, UnlessTrapped, machine_code, seen_of}
use Rattle.rt_native_laws.specs.Going.{HasCode, IsOneStepOrNone, Nothing, OneStep, StepsBy}
use Rattle.rt_native_laws.specs.Leaving.{CallBegins}
use Rattle.rt_native_laws.specs.Moments.{WasCalled, last_after, settled_words}
use Rattle.rt_native_laws.specs.Own.{AreSteady, Executes, RunsPrivately, Spans}
use Rattle.rt_native_laws.specs.Phases.{Calling, IsDone}
use Rattle.rt_native_laws.specs.Standing.{HoldsWords, IsLaidOut, StandsFor, frames_end}
use Rattle.rt_native_laws.proofs.Calls.{by_tests, frame_length}
use Rattle.rt_native_laws.proofs.Going.{goes_behind}
use Rattle.rt_native_laws.proofs.Pieces.{moved, other, steps}
use Rattle.rt_native_laws.proofs.Prefixes.{same_next}
use Rattle.rt_native_laws.proofs.Settled.{fewer}
use Rattle.rt_native_laws.proofs.Stepping.{after_step, outcome_is}
use Rattle.rt_native_laws.proofs.Tests.{at_most}

-- how the code of a call begins
pub call_starts : (places : List ℕ) (to s : ℕ) (body : BodyRow)
    → (rest : List Instruction) × (call places to s (Some body)
    ≡ instruction.MoveWide 0 (word (to + 1) % 2 ^ 16) ∷ instruction.MoveTop 0 (word (to + 1) / 2 ^ 16) ∷ rest)
unfolding call address
call_starts places to s body = (
  write_slot 0 RETURN_SLOT ++ read_arguments body.args s ++ open_frame body.frame ++ write_arguments body.args
      ++ branch to (slice_index places body.entry),
  refl,
)

module _ (at : Outside) (bottom : ℕ) (img : Image) (places : List ℕ) (p : Program) (row s : ℕ) (body : BodyRow)
    (c : Core) (said : Option What) (top : ℕ) (m n : Machine) (executed : Instruction) (code : HasCode at img places p)
    (laid : IsLaidOut at bottom (length c.processor.cells)) (found : slice_get img.bodies row ≡ Some body)
    (can : CanCall at bottom img places p body s c m) (exec : Executes p executed m n)
    (line : Spans p (slice_index places c.processor.address)
    (machine_code at bottom img places p (instr.Call row s) c) (slice_index places (suc c.processor.address)))
    (may : may_call c ≡ true) (fits : call_fits img c body s ≡ true) (note : Option Note)
    (at_it : slice_get img.code c.processor.address ≡ Some (instr.Call row s, note)) where
  abbrev d : Core
  d = core_after_call c body s

  abbrev to : ℕ
  to = slice_index places (c.processor.address + 1)

  abbrev first : Instruction
  first = instruction.MoveWide 0 (word (to + 1) % 2 ^ 16)

  text_is : machine_code at bottom img places p (instr.Call row s) c
      ≡ first ∷ instruction.MoveTop 0 (word (to + 1) / 2 ^ 16) ∷ (call_starts places to s body).0
  text_is =
      ap (λ (o : Option BodyRow). call places to s o) found ∙ (call_starts places to s body).1

  frame_is : length d.processor.slots ≡ body.frame
  frame_is =
      let frame = caller_frame c.processor.slots (suc c.processor.address) in
      let keeps : length frame ≡ length c.processor.slots =
      length-set c.processor.slots (last_slot c.processor.slots) (suc c.processor.address) in
      let arguments = (and_parts (arguments_fit c.processor.slots body s) (has_room img c body.frame) fits).0 in
      let few = at_most body.args body.frame
      (and_parts ((body.args == 0) || nat_le (s + body.args) (length c.processor.slots)) (nat_le body.args body.frame)
      arguments).1 in
      frame_length frame body s few (⊎_elim (λ (z : body.args ≡ 0). inl z)
      (λ z. inr (enough frame keeps z)) (cases_eq body.args 0))
    where
      enough : (frame : List ℕ) → length frame ≡ length c.processor.slots → (body.args ≡ 0 → ⊥)
          → s + body.args ≤ length frame
      enough frame keeps z =
          let last : body.args - 1 < body.args = omega (arith, z) in
          omega (arith, z, keeps, can.frame, can.arguments (body.args - 1) last)

  begins : StandsFor at bottom places c m → frames_end c m ≡ top → m.is_unsettled ≡ false → HoldsWords m
      → seen_of said ≡ [] → IsOneStepOrNone at bottom img places p c top m n (length c.processor.slots) d said
  begins st ends settled words silent =
      let span = subst (λ (zs : List Instruction). Spans p (slice_index places c.processor.address) zs
      (slice_index places (suc c.processor.address))) text_is line in
      let there : p.code m.address ≡ Some first = ap p.code st.address ∙ span.0 in
      let y = moved m (λ k. if k == 0 then word (to + 1) % 2 ^ 16 else m.register k) m.flags (m.address + 4) in
      let same : y ≡ n = same_next p first executed m y n (record { found = there; does = refl }) exec in
      subst (λ (z : Machine). IsOneStepOrNone at bottom img places p c top m z (length c.processor.slots) d said) same
      (OneStep (record {
        fresh = subst (λ (o : Option Instr). settled_words (last_after img o) (length d.processor.slots) ≤ body.args)
            (sym (ap (option_map (λ l. l.0)) at_it))
            (subst (λ (o : Option BodyRow). settled_words (WasCalled (unwrap_or (option_map (λ b. b.args) o) 0))
            (length d.processor.slots) ≤ body.args) (sym found) (fewer body.args (length d.processor.slots)));
        phase = Calling (record {
          row = row;
          slot = s;
          body = body;
          found = found;
          before = c;
          may = may;
          fits = fits;
          called = record { core = refl; long = refl; words = λ k l. refl };
          frame = frame_is;
          first = m;
          stands = record {
            laid = laid;
            port = code.port;
            addresses = code.addresses;
            halfwords = code.halfwords;
            code = subst (λ (a : ℕ). Spans p a (machine_code at bottom img places p (instr.Call row s) c)
                (slice_index places (suc c.processor.address))) (sym st.address) line;
            stands = st;
            words = words;
          };
          can = can;
          ends = ends;
          settled = settled;
          begun = record {
            passed = first ∷ [];
            next = instruction.MoveTop 0 (word (to + 1) / 2 ^ 16);
            left = (call_starts places to s body).0;
            parts = text_is;
            fallen = omega arith;
            aligned = st.aligned;
            prepares = (y, steps p (m.register 13) top first m y there refl refl, refl);
          };
          deep = omega arith;
        });
        others = record {
          registers = λ k h g. other k 0 _ _ (λ e. omega (arith, e, h));
          memory = λ k h. refl;
          exception = refl;
          active = refl;
          tick = refl;
          seen = ap (λ zs. zs ++ m.seen) (sym silent);
        };
      }))

module _ (at : Outside) (bottom : ℕ) (img : Image) (places : List ℕ) (p : Program) (row s : ℕ) (body : BodyRow)
    (c d : Core) (said : Option What) (top : ℕ) (m n : Machine) (executed : Instruction)
    (code : HasCode at img places p) (laid : IsLaidOut at bottom (length c.processor.cells))
    (found : slice_get img.bodies row ≡ Some body) (st : StepsBy img (instr.Call row s) c d said)
    (can : CanCall at bottom img places p body s c m) (exec : Executes p executed m n) where
  abbrev Result : Core → Type 0
  Result k = IsOneStepOrNone at bottom img places p c top m n (length c.processor.slots) k said

  by_left : (x : IsDone at bottom img places p c top m) (left : List Instruction) → AreSteady left
      → RunsPrivately p (x.last.register 13) top left m x.last → Result d
  by_left x (j ∷ js) steady run =
      Nothing (goes_behind at bottom img places p code c laid top m n executed exec x j js steady run)
  by_left x [] steady run =
      let stands : StandsFor at bottom places c m = subst (StandsFor at bottom places c) run x.stands in
      let ends : frames_end c m ≡ top = subst (λ (k : Machine). frames_end c k ≡ top) run x.ends in
      let settled : m.is_unsettled ≡ false = subst (λ (k : Machine). k.is_unsettled ≡ false) run x.settled in
      let words : HoldsWords m = subst HoldsWords run x.words in
      let line = code.code c.processor.address (instr.Call row s) st.note st.line in
      let Holds : Core → Option What → Type 0 = λ k own. seen_of own ≡ seen_of said → Result k in
      after_step img (instr.Call row s) c d said st Holds
      (subst
      (λ (o : Option BodyRow). UnlessTrapped (if may_call c then call_row img c o s else Trapped c trap.Stack) Holds)
      (sym found)
      (by_tests img c (may_call c) (call_fits img c body s) (core_after_call c body s) Holds (λ may fits same.
      begins at bottom img places p row s body c said top m n executed code laid found can exec line may fits st.note
      st.line stands ends settled words (sym same))))
      (outcome_is img (instr.Call row s) c d said st).same

pub call_begins : CallBegins
call_begins at bottom img places p row s body c d said top m n executed code laid found st can x exec =
    by_left at bottom img places p row s body c d said top m n executed code laid found st can exec x x.left x.steady
    x.completes
