-- `ret` and `back`, one machine instruction after the other, and the exception return.
use Rattle.std.proofs.Common.{◌≡◌, ◌≢◌, ◌∙◌, ℕ, ◌+◌, ◌*◌, ◌/◌, ◌%◌, ◌≤◌, ◌⊎◌, inl, inr, Bool, true, false}
use Rattle.std.proofs.Common.{List, [], ◌∷◌, ◌++◌, Option, Some, None, refl, sym, ap, subst, arith, length, ⊎_elim}
use Rattle.std.proofs.lemmas.List.{length-append}
use Rattle.std.specs.Prelude.{if◌then◌else◌, ◌==◌, ◌&&◌, nat_eq, not, slice_get}
use mathlib.Core.Path.{fun_ext}
use Rattle.rt_lemmas.proofs.Bools.{not_so, true_and_false}
use Rattle.rt_lemmas.proofs.Lists.{all_append, all_behind}
use Rattle.rt_code.specs.Image.{Image}
use Rattle.rt_code.specs.Stack.{interrupted_context}
use Rattle.rt_code.specs.declared.instr.Instr.{Instr}
use Rattle.rt_code.specs.declared.instr.Instr.TheVariants as instr
use Rattle.rt_code.specs.declared.instr.Note.{Note}
use Rattle.rt_core.specs.Core.{Core, Context}
use Rattle.rt_core.specs.Leading.{in_context}
use Rattle.rt_core.specs.Outcome.{Done}
use Rattle.rt_core.specs.Transfer.{back_to, outcome_of_return}
use Rattle.rt_native.specs.Frames.{body_words, handler_words}
use Rattle.rt_native.specs.Pieces.{close_frame, read_slot}
use Rattle.rt_native.specs.Sequences.{RETURN_SLOT, back}
use Rattle.rt_native.specs.declared.outside.Outside.{Outside}
use Rattle.rt_native.specs.declared.target.Input.{Input}
use Rattle.rt_thumb.specs.Effect.{effect}
use Rattle.rt_thumb.specs.Exceptions.{external, popped, returned, systick, return_to_handler, return_to_thread}
use Rattle.rt_thumb.specs.Machine.{Machine, Seen, with_register, word_at}
use Rattle.rt_thumb.specs.Step.{Program}
use Rattle.rt_thumb.specs.declared.instruction.Instruction.{Instruction}
use Rattle.rt_thumb.specs.declared.instruction.Instruction.TheVariants as instruction
use Rattle.rt_trace.specs.declared.item.What.{What}
use Rattle.rt_native_laws.specs.Doing.{IsAt, IsHandler, LeadsPrivately, Returns, UnlessTrapped, machine_code}
use Rattle.rt_native_laws.specs.Doing.{seen_of, with_slots}
use Rattle.rt_native_laws.specs.Going.{HasCode, IsNothing, IsOneStep, StepsBy}
use Rattle.rt_native_laws.specs.Leaving.{BackGoesOn, RetGoesOn, Resumes, ReturnResumes}
use Rattle.rt_native_laws.specs.Laws.{IsApart}
use Rattle.rt_native_laws.specs.InTail.{Debt}
use Rattle.rt_native_laws.specs.Moments.{Taking, instruction_at, last_after}
use Rattle.rt_native_laws.specs.Own.{ChangesItsOwn, Executes, RunsPrivately, StepsPrivately}
use Rattle.rt_native_laws.specs.Phases.{AlreadyDone, IsSameAbove, IsToCome, Phase, tail_of, viewed}
use Rattle.rt_native_laws.specs.Standing.{HoldsWords, IsBeside, IsLaidOut, StandsFor, caller_words, frame_bytes}
use Rattle.rt_native_laws.specs.Standing.{frames_end}
use Rattle.rt_native_laws.specs.Waiting.{FunctionCalls, IsFresh, Waiting, interrupted_core, others_tail, resumed}
use Rattle.rt_native_laws.proofs.Accesses.{runs_within}
use Rattle.rt_native_laws.proofs.Prefixes.{same_some, same_run, rest_of, compare, Place, Before}
use Rattle.rt_native_laws.proofs.Prefixes.{There, Past}
use Rattle.rt_native_laws.proofs.Private.{equals, private_is_unseen}
use Rattle.rt_native_laws.proofs.Returns.{back_is_done, ret_is_done, returning}
use Rattle.rt_native_laws.proofs.Rising.{AreRising, all_rise, close_rises, frame_apart, goes_rising, own_now}
use Rattle.rt_native_laws.proofs.Rising.{own_so_far}
use Rattle.rt_native_laws.proofs.Rising.{rises_only, run_now, same_above, settled_so_far}
use Rattle.rt_native_laws.proofs.Settled.{settled_within}
use Rattle.rt_native_laws.proofs.Shapes.{reads}
use Rattle.rt_native_laws.proofs.Steady.{private_is_no_return, words_after}
use Rattle.rt_native_laws.proofs.Stepping.{after_step, outcome_is}

no_cons : {A : Type 0} (xs : List A) (y : A) (ys : List A) → [] ≡ xs ++ y ∷ ys → ⊥
no_cons [] y ys e = cc
no_cons (x ∷ xs) y ys e = cc

-- `ret`
module _ (at : Outside) (bottom : ℕ) (img : Image) (places : List ℕ) (p : Program) (c : Core) (top : ℕ) (m n : Machine)
    (executed : Instruction) (code : HasCode at img places p) (x : IsToCome at bottom img places p c top m)
    (e : x.instruction ≡ instr.Ret) (free : c.caller ≡ None)
    (frame : handler_words img.irqs c.processor.address ≡ length c.processor.slots) (inside : m.exception ≢ 0)
    (link : 0xF0000000 ≤ m.register 14) (exec : Executes p executed m n) where
  abbrev first : Machine
  first = x.first

  abbrev words : ℕ
  words = handler_words img.irqs c.processor.address

  abbrev Result : Type 0
  Result =
      IsNothing at bottom img places p c top m n (length c.processor.slots)
      ⊎ ((m.register 13 ≡ top) × (returned (m.register 14) m ≡ Some n))

  line : slice_get img.code c.processor.address ≡ Some (instr.Ret, x.note)
  line = subst (λ (j : Instr). slice_get img.code c.processor.address ≡ Some (j, x.note)) e x.line

  here : IsAt at bottom img places p instr.Ret c first
  here = subst (λ (j : Instr). IsAt at bottom img places p j c first) e x.stands

  parts : machine_code at bottom img places p instr.Ret c ≡ x.passed ++ x.next ∷ x.left
  parts = ap (λ (j : Instr). machine_code at bottom img places p j c) (sym e) ∙ x.parts

  own : ChangesItsOwn (first.register 13) top first x.reached
  own = own_so_far at bottom img places p code instr.Ret x.note c line top first here x.ends x.settled x.passed x.next
      x.left parts x.reached m n x.prepares x.now executed exec

  same_exception : m.exception ≡ first.exception
  same_exception = ap (λ (y : Machine). y.exception) x.now.rest ∙ ap (λ (y : Machine). y.exception) own.rest

  same_link : m.register 14 ≡ first.register 14
  same_link = ap (λ (y : Machine). y.register 14) x.now.rest ∙ own.registers 14 (omega arith) (λ f. omega (arith, f))

  is_handler : IsHandler at bottom img places p c first
  is_handler = record {
    caller = free;
    frame = frame;
    exception = λ f. inside (same_exception ∙ f);
    link = omega (arith, link, same_link);
  }

  returns : Returns at bottom img places p c first
  returns = ret_is_done at bottom img places p c first here is_handler

  closes : RunsPrivately p (first.register 13) top (close_frame words) first returns.ready
  closes =
      runs_within p (first.register 13) (frames_end c first) (first.register 13) top (close_frame words) first
      returns.ready refl (sym x.ends) returns.prepares

  silent : (rest ys : List Instruction) (y : Instruction) → close_frame words ≡ x.passed ++ x.next ∷ rest
      → x.left ≡ y ∷ ys → Result
  silent rest ys y f g =
      let t = rest_of p (first.register 13) top x.passed (x.next ∷ rest) first x.reached returns.ready
      (subst (λ (zs : List Instruction). RunsPrivately p (first.register 13) top zs first returns.ready) f closes)
      x.prepares in
      let rises = all_behind (λ j. rises_only j ≡ true) x.passed (x.next ∷ rest)
      (subst AreRising f (close_rises words)) in
      inl (goes_rising at bottom img places p code instr.Ret x.note c line top first here x.ends x.settled x.passed
      x.next x.left parts x.reached m n x.prepares x.now executed exec tt t.0 t.1 rises.0 y ys g)

  before : (rest : List Instruction) → close_frame words ≡ x.passed ++ x.next ∷ rest
      → x.left ≡ rest ++ instruction.BranchExchange 14 ∷ [] → Result
  before [] f g = silent [] [] (instruction.BranchExchange 14) f g
  before (z ∷ zs) f g = silent (z ∷ zs) (zs ++ instruction.BranchExchange 14 ∷ []) z f g

  at_return : x.passed ≡ close_frame words → Result
  at_return f =
      let there : returns.ready ≡ x.reached = same_run p (first.register 13) top x.passed first returns.ready x.reached
      (subst (λ (zs : List Instruction). RunsPrivately p (first.register 13) top zs first returns.ready) (sym f) closes)
      x.prepares in
      let stack : m.register 13 ≡ top =
      ap (λ (y : Machine). y.register 13) x.now.rest ∙ (ap (λ (y : Machine). y.register 13) (sym there)
      ∙ (returns.stack ∙ x.ends)) in
      let address : m.address ≡ returns.ready.address =
      ap (λ (y : Machine). y.address) x.now.rest ∙ ap (λ (y : Machine). y.address) (sym there) in
      let found : p.code m.address ≡ Some (instruction.BranchExchange 14) = ap p.code address ∙ returns.found in
      let is : executed ≡ instruction.BranchExchange 14 =
      same_some executed (instruction.BranchExchange 14) (sym exec.found ∙ found) in
      inr (
        stack,
        sym (returning (m.register 14) (m.register 14) m refl link inside)
            ∙ (ap (λ (j : Instruction). effect p.port j m) (sym is) ∙ exec.does),
      )

  by_place : Place x.passed x.next x.left (close_frame words) (instruction.BranchExchange 14) [] → Result
  by_place (Before rest f g) = before rest f g
  by_place (There f g h) = at_return f
  by_place (Past more f g) = absurd (no_cons more x.next x.left g)

  ret_result : Result
  ret_result =
      by_place (compare x.passed x.next x.left (close_frame words) (instruction.BranchExchange 14) []
      (sym parts ∙ returns.parts))

pub ret_goes_on : RetGoesOn
ret_goes_on at bottom img places p c top m n executed code x e free frame inside link exec =
    ret_result at bottom img places p c top m n executed code x e free frame inside link exec

-- a state that stands for a core does so with other words below the stack pointer
stands_above : (at : Outside) (bottom : ℕ) (places : List ℕ) (c : Core) (low : ℕ) (before after : Machine)
    → IsLaidOut at bottom (length c.processor.cells) → IsSameAbove low before after
    → StandsFor at bottom places c before → StandsFor at bottom places c after
stands_above at bottom places c low before after laid same st =
    let sp : after.register 13 ≡ before.register 13 = ap (λ (y : Machine). y.register 13) same.rest in
    let word : (a w : ℕ) → before.register 13 ≤ a → a % 4 ≡ 0 → word_at before a ≡ w → word_at after a ≡ w =
    λ a w h z e. same.memory (a / 4) (inr (omega (arith, h, z, sp))) ∙ e in
    record {
      address = ap (λ (y : Machine). y.address) same.rest ∙ st.address;
      base_priority = ap (λ (y : Machine). y.base_priority) same.rest ∙ st.base_priority;
      is_masked = ap (λ (y : Machine). y.is_masked) same.rest ∙ st.is_masked;
      aligned = omega (arith, sp, st.aligned);
      stack = omega (arith, sp, st.stack);
      frames = omega (arith, sp, st.frames);
      slots = λ k l.
          ap (λ (a : ℕ). word_at after (a + 4 * k)) sp
          ∙ word (before.register 13 + 4 * k) _ (omega arith) (omega (arith, st.aligned)) (st.slots k l);
      caller = λ k l.
          ap (λ (a : ℕ). word_at after (a + 4 * length c.processor.slots + 4 * k)) sp
          ∙ word (before.register 13 + 4 * length c.processor.slots + 4 * k) _ (omega arith) (omega (arith, st.aligned))
          (st.caller k l);
      cells = λ k l.
          word (at.cells + 4 * k) _ (omega (arith, st.frames)) (omega (arith, laid.aligned)) (st.cells k l);
      time = word at.time c.time (omega (arith, st.frames, laid.time)) (omega (arith, laid.aligned, laid.time)) st.time;
      alarm = word (at.time + 4) _ (omega (arith, st.frames, laid.time)) (omega (arith, laid.aligned, laid.time))
          st.alarm;
      pending = λ irq l. ap (λ (y : Machine). y.is_pending (external irq)) same.rest ∙ st.pending irq l;
    }

pub no_front : {A : Type 0} (xs ys : List A) → xs ++ ys ≡ ys → xs ≡ []
no_front [] ys e = refl
no_front (x ∷ xs) ys e =
    let long = ap (length {A = _}) e in absurd (omega (arith, long, length-append (x ∷ xs) ys))

-- the code of `back` never moves the stack pointer down
pub back_rises : (words : ℕ) → AreRising (back words)
unfolding back
back_rises words =
    all_append (λ j. rises_only j ≡ true) (close_frame words ++ read_slot 0 RETURN_SLOT)
    (instruction.BranchExchange 0 ∷ [])
    (all_append (λ j. rises_only j ≡ true) (close_frame words) (read_slot 0 RETURN_SLOT) (close_rises words)
    (all_rise (read_slot 0 RETURN_SLOT) (reads 0 RETURN_SLOT)))
    (refl, tt)

-- `back`
module _ (at : Outside) (bottom : ℕ) (img : Image) (places : List ℕ) (p : Program) (c d : Core)
    (said own_item : Option What) (top : ℕ) (m n : Machine) (executed : Instruction) (code : HasCode at img places p)
    (note : Option Note) (line : slice_get img.code c.processor.address ≡ Some (instr.Back, note))
    (words : HoldsWords m)
    (same_item : seen_of own_item ≡ seen_of said) (first : Machine)
    (here : IsAt at bottom img places p instr.Back c first) (ends : frames_end c first ≡ top)
    (settled : first.is_unsettled ≡ false) (passed : List Instruction) (next : Instruction) (left : List Instruction)
    (parts : machine_code at bottom img places p instr.Back c ≡ passed ++ next ∷ left) (reached : Machine)
    (prepares : RunsPrivately p (first.register 13) top passed first reached)
    (now : IsSameAbove (first.register 13) reached m) (exec : Executes p executed m n)
    (leads : LeadsPrivately at bottom img places p (machine_code at bottom img places p instr.Back c) c first
    (with_slots at bottom img places p (caller_words places c.caller) d) own_item)
    (as_many : length d.processor.cells ≡ length c.processor.cells) where
  abbrev floor : ℕ
  floor = first.register 13

  abbrev text : List Instruction
  text = machine_code at bottom img places p instr.Back c

  abbrev later : Core
  later = with_slots at bottom img places p (caller_words places c.caller) d

  rises : rises_only next ≡ true
  rises = (all_behind (λ j. rises_only j ≡ true) passed (next ∷ left)
      (subst AreRising parts (back_rises (body_words img.bodies c.processor.address)))).0

  whole : RunsPrivately p floor top text first leads.0
  whole = runs_within p floor (frames_end c first) floor top text first leads.0 refl (sym ends) leads.1

  apart : IsApart p floor top
  apart = frame_apart at bottom img places p code instr.Back note c line top first here ends settled passed next left
      parts reached m n prepares now executed exec

  own_before : ChangesItsOwn floor top first reached
  own_before = own_so_far at bottom img places p code instr.Back note c line top first here ends settled passed next
      left
      parts reached m n prepares now executed exec

  still : reached.is_unsettled ≡ false
  still = settled_so_far at bottom img places p code instr.Back note c line top first here ends settled passed next left
      parts reached m n prepares now executed exec

  own_whole : ChangesItsOwn floor top first leads.0
  own_whole = private_is_unseen p floor top text first leads.0 apart (omega arith) (omega (arith, ends)) whole

  tail : (after : Machine) × StepsPrivately p floor top next reached after
      × RunsPrivately p floor top left after leads.0
  tail = rest_of p floor top passed (next ∷ left) first reached leads.0
      (subst (λ (zs : List Instruction). RunsPrivately p floor top zs first leads.0) parts whole) prepares

  abbrev BackResult : Type 0
  BackResult =
      IsNothing at bottom img places p c top m n (length c.processor.slots)
      ⊎ IsOneStep at bottom img places p c top m n later said

  over : leads.0 ≡ tail.0 → IsOneStep at bottom img places p c top m n later said
  over e =
      let b = leads.2 in
      let same = same_above at img places p code floor top apart here.stands.aligned reached tail.0 m n now next
      executed
      tail.1 rises own_before.stack.0 own_before.stack.1 still exec in
      let run = run_now at img places p code floor top apart here.stands.aligned reached tail.0 m n now next executed
      tail.1 rises own_before.stack.0 own_before.stack.1 still exec in
      let own = own_now at img places p code floor top apart here.stands.aligned reached tail.0 m n now next executed
      tail.1 rises own_before.stack.0 own_before.stack.1 still exec in
      let is_here = subst (λ (y : Machine). IsSameAbove floor y n) (sym e) same in
      let silent : seen_of said ≡ [] =
      sym same_item ∙ no_front (seen_of own_item) first.seen
      (sym b.seen ∙ ap (λ (y : Machine). y.seen) own_whole.rest) in
      record {
        fresh = settled_within (last_after img (instruction_at img c)) (length later.processor.slots);
        phase = AlreadyDone (record {
          left = [];
          steady = tt;
          last = n;
          stack = refl;
          completes = refl;
          stands = stands_above at bottom places later floor leads.0 n
              (subst (IsLaidOut at bottom) (sym as_many) here.laid) is_here b.stands;
          ends = ap (λ (y : ℕ). y + frame_bytes later) (ap (λ (y : Machine). y.register 13) is_here.rest)
              ∙ (b.ends ∙ ends);
          settled = ap (λ (y : Machine). y.is_unsettled) is_here.rest
              ∙ not_so leads.0.is_unsettled (λ f. true_and_false first.is_unsettled (own_whole.settled f) settled);
          words = subst HoldsWords (sym run.2) (words_after at img places p code next m run.0 run.1.executes
              (private_is_no_return (reached.register 13) top next m run.1.is_private) words);
        });
        others = record {
          registers = own.registers;
          memory = λ k beside. own.memory k (aside k own.stack.0 beside);
          exception = ap (λ (y : Machine). y.exception) own.rest;
          active = ap (λ (y : Machine). y.active) own.rest;
          tick = ap (λ (y : Machine). y.is_pending systick) own.rest;
          seen = ap (λ (y : Machine). y.seen) own.rest ∙ sym (ap (λ (y : List Seen). y ++ m.seen) silent);
        };
      }
    where
      same_sp : m.register 13 ≡ reached.register 13
      same_sp = ap (λ (y : Machine). y.register 13) now.rest

      below : top ≤ at.cells
      below = omega (arith, ends, here.stands.frames)

      aside : (k : ℕ) → reached.register 13 ≤ n.register 13
          → IsBeside at (m.register 13) (n.register 13) top k
          → (4 * k + 4 ≤ reached.register 13) ⊎ (top ≤ 4 * k)
      aside k up beside =
          ⊎_elim (λ (y : (4 * k + 4 ≤ m.register 13) × (4 * k + 4 ≤ n.register 13)). inl (omega (arith, y.0, same_sp)))
          (λ (z : ((top ≤ 4 * k) × (4 * k + 4 ≤ at.cells)) ⊎ (at.time + 8 ≤ 4 * k)).
          inr (⊎_elim (λ (y : (top ≤ 4 * k) × (4 * k + 4 ≤ at.cells)). y.0)
          (λ (y : at.time + 8 ≤ 4 * k). omega (arith, y, below, here.laid.time)) z)) beside

  by_left : (ys : List Instruction) → left ≡ ys → RunsPrivately p floor top ys tail.0 leads.0 → BackResult
  by_left [] e run = inr (over run)
  by_left (y ∷ ys) e run =
      inl (goes_rising at bottom img places p code instr.Back note c line top first here ends settled passed next left
      parts reached m n prepares now executed exec tt tail.0 tail.1 rises y ys e)

  back_result : BackResult
  back_result = by_left left refl tail.2

-- a body's end leaves cells alone
cells_stay : (img : Image) (c d : Core) (said : Option What) → StepsBy img instr.Back c d said
    → length d.processor.cells ≡ length c.processor.cells
cells_stay img c d said st =
    after_step img instr.Back c d said st (λ k own. length k.processor.cells ≡ length c.processor.cells)
    (by_caller c.caller)
  where
    by_caller : (o : Option (List ℕ))
        → UnlessTrapped (back_to c o) (λ k own. length k.processor.cells ≡ length c.processor.cells)
    by_caller None = tt
    by_caller (Some slots) = refl

pub back_goes_on : BackGoesOn
back_goes_on at bottom img places p c d said top m n executed code st body words x exec =
    let i = instr.Back in
    let e : x.instruction ≡ i =
    ap (λ (y : Instr × Option Note). y.0) (same_some (x.instruction, x.note) (i, st.note) (sym x.line ∙ st.line)) in
    let here : IsAt at bottom img places p i c x.first =
    subst (λ (j : Instr). IsAt at bottom img places p j c x.first) e x.stands in
    let parts : machine_code at bottom img places p i c ≡ x.passed ++ x.next ∷ x.left =
    ap (λ (j : Instr). machine_code at bottom img places p j c) (sym e) ∙ x.parts in
    let is = outcome_is img i c d said st in
    let leads = after_step img i c d said st (λ k own. LeadsPrivately at bottom img places p
    (machine_code at bottom img places p i c) c x.first
    (with_slots at bottom img places p (caller_words places c.caller) k) own)
    (back_is_done at bottom img places p c x.first here body) in
    back_result at bottom img places p c d said is.own top m n executed code st.note st.line words is.same x.first here
    x.ends x.settled x.passed x.next x.left parts x.reached x.prepares x.now exec leads
    (cells_stay img c d said st)

-- the exception return
popped_is : (a b : Bool) (x n : Machine) → (if a then Some x else if b then Some x else None) ≡ Some n → x ≡ n
popped_is true b x n e = cc
popped_is false true x n e = cc
popped_is false false x n e = absurd (cc)

pub return_pops : (value : ℕ) (m n : Machine) → returned value m ≡ Some n → popped m ≡ n
return_pops value m n e =
    by_tests (value == return_to_thread) (value == return_to_handler) (popped m).exception e
  where
    by_tests : (a b : Bool) (exception : ℕ) → (if a && (exception == 0) then Some (popped m)
        else if b && not (nat_eq exception 0) then Some (popped m) else None) ≡ Some n → popped m ≡ n
    by_tests a b exception f = popped_is (a && (exception == 0)) (b && not (nat_eq exception 0)) (popped m) n f

pub same_stack : (top : ℕ) (m : Machine) → m.register 13 ≡ top → with_register 13 top m ≡ m
same_stack top m e =
    ap (λ (f : ℕ → ℕ). record m { register = f }) (fun_ext (λ k. by_number k (k == 13) refl))
  where
    by_number : (k : ℕ) (b : Bool) → (k == 13) ≡ b → (if k == 13 then top else m.register k) ≡ m.register k
    by_number k true f =
        let is : k ≡ 13 = equals k 13 f in
        ap (λ (b : Bool). if b then top else m.register k) f ∙ (sym e ∙ ap m.register (sym is))
    by_number k false f = ap (λ (b : Bool). if b then top else m.register k) f

module _ (at : Outside) (bottom highest ceiling : ℕ) (inputs : List Input) (calls : FunctionCalls) (img : Image)
    (places : List ℕ)
    (p : Program) (tail : Option Debt) (taking : Taking) (takings : List Taking) (x : Context) (below : List Context)
    (c d : Core) (said : Option What) (top : ℕ)
    (m n : Machine) (st : StepsBy img instr.Ret c d said) (waits : c.below ≡ x ∷ below) (free : c.caller ≡ None)
    (base : c.processor.basepri ≡ taking.base_priority) (unmasked : c.processor.primask ≡ false)
    (same_base : m.base_priority ≡ taking.base_priority) (same_mask : m.is_masked ≡ false)
    (stack : m.register 13 ≡ top) (goes : returned (m.register 14) m ≡ Some n) where
  abbrev priority : ℕ
  priority = taking.base_priority

  outcome_there : outcome_of_return c (interrupted_context c.caller c.below) ≡ outcome_of_return c (Some (x, below))
  outcome_there =
      ap (λ (o : Option (List ℕ)). outcome_of_return c (interrupted_context o c.below)) free
      ∙ ap (λ (bs : List Context). outcome_of_return c (interrupted_context None bs)) waits

  core_is : d ≡ interrupted_core priority c x below
  core_is =
      let is = outcome_is img instr.Ret c d said st in
      done_core d (in_context c x below) is.own _ (sym is.is ∙ outcome_there)
      ∙ (ap (λ (y : ℕ). record (in_context c x below) {
        processor = record (in_context c x below).processor { basepri = y };
      }) base ∙ ap (λ (y : Bool). record (in_context c x below) {
        processor = record (in_context c x below).processor { basepri = priority; primask = y };
      }) unmasked)
    where
      done_core : (k l : Core) (v w : Option What) → Done k v ≡ Done l w → k ≡ l
      done_core k l v w e = cc

  state_is : resumed priority top m ≡ n
  state_is =
      ap (λ (y : Machine). record (popped y) { base_priority = priority; is_masked = false }) (same_stack top m stack)
      ∙ (ap (λ (y : ℕ). record (popped m) { base_priority = y; is_masked = false }) (sym same_base)
      ∙ (ap (λ (y : Bool). record (popped m) { is_masked = y }) (sym same_mask) ∙ return_pops (m.register 14) m n goes))

  -- a phase of another job, with its frame as new, and those that wait
  abbrev Fresh : Core → ℕ → Machine → Type 0
  Fresh y next z =
      (phase : Phase at bottom img places p y next z)
      × IsFresh at bottom highest ceiling inputs calls img places p tail taking.last y next z phase
      × Waiting at bottom highest ceiling inputs calls img places p
      (others_tail (tail_of at bottom img places p y next z phase) tail) takings below y next
      (viewed at bottom img places p y next z phase)

  resumes : Waiting at bottom highest ceiling inputs calls img places p tail (taking ∷ takings) (x ∷ below) c top m
      → Resumes at bottom highest ceiling inputs calls img places p tail taking.last takings below d n
  resumes (aligned, small, runs, active, link, up, next, within, fits, higher, phase, fresh, more) =
      let there = interrupted_core priority c x below in
      let now : Fresh d next n =
      subst (λ (y : Core). Fresh y next n) (sym core_is)
      (subst (λ (y : Machine). Fresh there next y) state_is (phase, fresh, more)) in
      record { top = next; phase = now.0; fresh = now.1; others = now.2 }

pub return_resumes : ReturnResumes
return_resumes at bottom highest ceiling inputs calls img places p tail taking takings x below c d said top m n st
    waits free
    base unmasked same_base same_mask stack goes jobs =
    resumes at bottom highest ceiling inputs calls img places p tail taking takings x below c d said top m n st waits
    free
    base unmasked same_base same_mask stack goes jobs
