-- The job that runs goes on: its next machine instruction is no fault.
use Rattle.std.proofs.Common.{◌≡◌, ◌≢◌, ◌∙◌, ℕ, suc, ◌+◌, ◌*◌, ◌/◌, ◌%◌, ◌^◌, ◌<◌, ◌≤◌, inl, inr, Bool, true, false}
use Rattle.std.proofs.Common.{List, [], ◌∷◌, ◌++◌, Option, Some, None, refl, sym, ap, subst, arith, length, ⊎_elim}
use Rattle.std.proofs.lemmas.Bool.{false≢true}
use Rattle.std.proofs.lemmas.List.{length-set}
use Rattle.std.specs.Prelude.{if◌then◌else◌, ◌==◌, ◌&&◌, is_none, nat_eq, not, slice_get, slice_index}
use Rattle.rt_lemmas.proofs.Bools.{and_parts, true_and_false}
use Rattle.rt_lemmas.proofs.Lists.{all_behind}
use Rattle.rt_code.specs.Image.{Image}
use Rattle.rt_code.specs.Stack.{words_of, caller_frame, last_slot}
use Rattle.rt_code.specs.declared.image.BodyRow.{BodyRow}
use Rattle.rt_code.specs.declared.instr.Instr.{Instr}
use Rattle.rt_code.specs.declared.instr.Instr.TheVariants as instr
use Rattle.rt_code.specs.declared.instr.Note.{Note}
use Rattle.rt_code.specs.declared.processor.Trap.TheVariants as trap
use Rattle.rt_core.specs.Core.{Core}
use Rattle.rt_core.specs.Outcome.{Outcome, Done, Trapped}
use Rattle.rt_core.specs.Transfer.{call_row, core_after_call}
use Rattle.rt_ids.specs.Operation.{wrapped_number as word}
use Rattle.rt_native.specs.Frames.{body_words, handler_words}
use Rattle.rt_native.specs.Pieces.{close_frame}
use Rattle.rt_native.specs.Sequences.{call}
use Rattle.rt_native.specs.Service.{stub}
use Rattle.rt_native.specs.declared.outside.Outside.{Outside}
use Rattle.rt_thumb.specs.Exceptions.{popped, returned, return_to_handler, return_to_thread}
use Rattle.rt_thumb.specs.Machine.{Machine, Seen}
use Rattle.rt_thumb.specs.Step.{Program}
use Rattle.rt_thumb.specs.declared.instruction.Instruction.{Instruction}
use Rattle.rt_thumb.specs.declared.instruction.Instruction.TheVariants as instruction
use Rattle.rt_trace.specs.declared.item.What.{What}
use Rattle.rt_native_laws.specs.Doing.{Calls, IsAt, IsBody, LeadsPrivately, Returns, UnlessTrapped}
use Rattle.rt_native_laws.specs.Doing.{machine_code, outcome, with_slots}
use Rattle.rt_native_laws.specs.Going.{HasCode, StepsBy}
use Rattle.rt_native_laws.specs.Laws.{IsApart}
use Rattle.rt_native_laws.specs.Opening.{Opens}
use Rattle.rt_native_laws.specs.Own.{ChangesItsOwn, Executes, IsDisturbed, RunsPrivately, Spans, StepsPrivately}
use Rattle.rt_native_laws.specs.Phases.{HasBegun, IsCalling, IsEntering, IsSameAbove, IsToCome}
use Rattle.rt_native_laws.specs.Standing.{StandsFor, caller_words}
use Rattle.rt_native_laws.specs.Waiting.{return_value}
use Rattle.rt_native_laws.proofs.Accesses.{runs_within}
use Rattle.rt_native_laws.proofs.Beginning.{deeper_run}
use Rattle.rt_native_laws.proofs.Calling.{call_starts}
use Rattle.rt_native_laws.proofs.Calls.{call_is_done, is_free}
use Rattle.rt_native_laws.proofs.Leaving.{back_rises}
use Rattle.rt_native_laws.proofs.Opening.{opening_is_done}
use Rattle.rt_native_laws.proofs.Prefixes.{same_run, same_some, rest_of, compare, Place, Before, There, Past}
use Rattle.rt_native_laws.proofs.Private.{private_is_unseen}
use Rattle.rt_native_laws.proofs.Returns.{back_is_done, ret_is_done, returning}
use Rattle.rt_native_laws.proofs.Rising.{AreRising, close_rises, raised, rises_only, stack_rises}
use Rattle.rt_native_laws.proofs.Silent.{own_apart}
use Rattle.rt_native_laws.proofs.Stepping.{after_step}
use Rattle.rt_native_laws.proofs.Undisturbed.{private_is_undisturbed}

-- what is executed next, and where it leads
abbrev pub HasNext : Program → Machine → Type 0
HasNext p m = (executed : Instruction) × (n : Machine) × Executes p executed m n

-- what is private behind a commit
pub done_has_next : (p : Program) (floor top : ℕ) (j : Instruction) (js : List Instruction) (m last : Machine)
    → RunsPrivately p floor top (j ∷ js) m last → HasNext p m
done_has_next p floor top j js m last run = (j, run.0, run.1.executes)

-- code that makes a frame
begun_has_next : (p : Program) (floor top : ℕ) (text : List Instruction) (first last m : Machine)
    → RunsPrivately p floor top text first last → HasBegun p top text first m → floor ≤ m.register 13 → HasNext p m
begun_has_next p floor top text first last m whole begun deep =
    let t = rest_of p floor top begun.passed (begun.next ∷ begun.left) first m last
    (subst (λ (zs : List Instruction). RunsPrivately p floor top zs first last) begun.parts whole)
    (deeper_run p (m.register 13) floor top deep begun.passed first m begun.prepares) in
    (begun.next, t.0, t.1.executes)

module _ (at : Outside) (bottom : ℕ) (img : Image) (places : List ℕ) (p : Program) (code : HasCode at img places p)
    (c : Core) (top : ℕ) (m : Machine) where
  pub entering_has_next : IsEntering at bottom img places p c top m → HasNext p m
  entering_has_next x =
      let opened : Opens at bottom img places p x.to x.irq x.handler c x.first =
      opening_is_done at bottom img places p x.to x.irq x.handler c x.first x.opens in
      let none : length (words_of c.caller) ≡ 0 =
      ap (λ (o : Option (List ℕ)). length (words_of o)) x.opens.free in
      let floor = opened.last.register 13 in
      let text = stub at [] places x.to x.irq (Some x.handler) in
      let there : floor + 4 * x.handler.frame ≡ top =
      omega (arith, opened.becomes.ends, opened.long, none, x.ends) in
      begun_has_next p floor top text x.first opened.last m
      (runs_within p floor (x.first.register 13) floor top text x.first opened.last refl (sym x.ends) opened.runs)
      x.begun (omega (arith, there, x.deep))

  pub calling_has_next : IsCalling at bottom img places p c top m → HasNext p m
  calling_has_next x =
      let after = core_after_call x.before x.body x.slot in
      let text = machine_code at bottom img places p (instr.Call x.row x.slot) x.before in
      let is_called : outcome img (instr.Call x.row x.slot) x.before ≡ Done after None =
      ap (λ (b : Bool). if b then call_row img x.before (slice_get img.bodies x.row) x.slot
      else Trapped x.before trap.Stack) x.may
      ∙ (ap (λ (o : Option BodyRow). call_row img x.before o x.slot) x.found
      ∙ ap (λ (b : Bool). if b then Done after None else Trapped x.before trap.Stack) x.fits) in
      let calls : Calls at bottom img places p x.row x.slot x.body x.before x.first after None =
      subst (λ (o : Outcome). UnlessTrapped o (Calls at bottom img places p x.row x.slot x.body x.before x.first))
      is_called (call_is_done at bottom img places p x.row x.slot x.body x.before x.first x.found x.stands x.can) in
      let free : x.before.caller ≡ None =
      is_free x.before.caller (and_parts (is_none x.before.caller) _ x.may).0 in
      let none : length (words_of x.before.caller) ≡ 0 =
      ap (λ (o : Option (List ℕ)). length (words_of o)) free in
      let long : length (caller_frame x.before.processor.slots (suc x.before.processor.address))
      ≡ length x.before.processor.slots =
      length-set x.before.processor.slots (last_slot x.before.processor.slots) (suc x.before.processor.address) in
      let floor = calls.last.register 13 in
      let there : floor + 4 * x.body.frame ≡ x.first.register 13 =
      omega (arith, calls.becomes.ends, calls.long, x.called.long, x.frame, none, long) in
      begun_has_next p floor top text x.first calls.last m
      (runs_within p floor _ floor top text x.first calls.last refl (sym (calls.becomes.ends ∙ x.ends)) calls.runs)
      x.begun (omega (arith, there, x.deep))

  -- the first machine instruction of a call
  pub call_has_next : (row s : ℕ) (body : BodyRow) (note : Option Note) → slice_get img.bodies row ≡ Some body
      → slice_get img.code c.processor.address ≡ Some (instr.Call row s, note) → StandsFor at bottom places c m
      → HasNext p m
  call_has_next row s body note found line st =
      let to = slice_index places (c.processor.address + 1) in
      let first = instruction.MoveWide 0 (word (to + 1) % 2 ^ 16) in
      let text_is : machine_code at bottom img places p (instr.Call row s) c
      ≡ first ∷ instruction.MoveTop 0 (word (to + 1) / 2 ^ 16) ∷ (call_starts places to s body).0 =
      ap (λ (o : Option BodyRow). call places to s o) found ∙ (call_starts places to s body).1 in
      let span = subst (λ (zs : List Instruction). Spans p (slice_index places c.processor.address) zs
      (slice_index places (suc c.processor.address))) text_is
      (code.code c.processor.address (instr.Call row s) note line) in
      (first, _, record { found = ap p.code st.address ∙ span.0; does = refl })

  -- One private instruction, where words below the stack pointer are other than they were.
  module _ (low : ℕ) (apart : IsApart p low top) (reached after : Machine) (now : IsSameAbove low reached m)
      (next : Instruction) (steps : StepsPrivately p low top next reached after) (rises : rises_only next ≡ true)
      (deep : low ≤ reached.register 13) (high : reached.register 13 ≤ top) where
    abbrev sp : ℕ
    sp = reached.register 13

    abbrev told : (ℕ → ℕ) → (ℕ → Bool) → Bool → List Seen → Machine → Machine
    told memory pending unsettled seen y =
        record y { memory = memory; is_pending = pending; is_unsettled = unsettled; seen = seen }

    same_sp : m.register 13 ≡ sp
    same_sp = ap (λ (y : Machine). y.register 13) now.rest

    disturbed : IsDisturbed sp top reached m
    disturbed = record {
      rest = now.rest ∙ sym (ap (λ (y : ℕ → Bool). told m.memory y m.is_unsettled m.seen reached)
          (ap (λ (y : Machine). y.is_pending) now.rest)
          ∙ (ap (λ (y : Bool). told m.memory reached.is_pending y m.seen reached)
          (ap (λ (y : Machine). y.is_unsettled) now.rest)
          ∙ ap (λ (y : List Seen). told m.memory reached.is_pending reached.is_unsettled y reached)
          (ap (λ (y : Machine). y.seen) now.rest)));
      memory = λ k f t. now.memory k (inr (omega (arith, f, same_sp)));
    }

    apart_now : IsApart p sp top
    apart_now = record {
      memory = apart.memory;
      port = ⊎_elim (λ (y : p.port < low). inl (omega (arith, y, deep))) (λ (y : top ≤ p.port). inr y) apart.port;
    }

    pub above_has_next : HasNext p m
    above_has_next =
        let up = stack_rises p.port low top reached after high apart.memory next
        (code.encodable reached.address next steps.executes.found) rises steps.is_private steps.executes.does in
        let alone : StepsPrivately p sp top next reached after = record {
          executes = steps.executes;
          is_private = raised p.port low top reached after high apart.memory next steps.is_private steps.executes.does
              up;
        } in
        let run = private_is_undisturbed p sp top (next ∷ []) reached after m apart_now (omega arith) high
        (after, alone, refl) disturbed in
        (next, run.1.0, run.1.1.executes)

-- what EXC_RETURN fits returns
fits : (a b : Bool) (x : Machine) → (a ≡ false → b ≡ true) → (if a then Some x else if b then Some x else None) ≡ Some x
fits true b x h = refl
fits false true x h = refl
fits false false x h = absurd (false≢true (h refl))

pub returns_so : (value : ℕ) (m : Machine) → value ≡ return_value (popped m).exception → returned value m ≡ Some
    (popped m)
returns_so value m e =
    subst (λ (v : ℕ). returned v m ≡ Some (popped m)) (sym e) (by_zero ((popped m).exception == 0) refl)
  where
    by_zero : (z : Bool) → ((popped m).exception == 0) ≡ z → returned (return_value (popped m).exception) m
        ≡ Some (popped m)
    by_zero true f =
        subst (λ (v : ℕ). returned v m ≡ Some (popped m))
        (sym (ap (λ (b : Bool). if b then return_to_thread else return_to_handler) f))
        (fits ((return_to_thread == return_to_thread) && ((popped m).exception == 0))
        ((return_to_thread == return_to_handler) && not (nat_eq (popped m).exception 0)) (popped m)
        (λ g. absurd (true_and_false ((return_to_thread == return_to_thread) && ((popped m).exception == 0))
        (ap (λ (b : Bool). (return_to_thread == return_to_thread) && b) f) g)))
    by_zero false f =
        subst (λ (v : ℕ). returned v m ≡ Some (popped m))
        (sym (ap (λ (b : Bool). if b then return_to_thread else return_to_handler) f))
        (fits ((return_to_handler == return_to_thread) && ((popped m).exception == 0))
        ((return_to_handler == return_to_handler) && not (nat_eq (popped m).exception 0)) (popped m)
        (λ g. ap not f))

no_cons : {A : Type 0} (xs : List A) (y : A) (ys : List A) → [] ≡ xs ++ y ∷ ys → ⊥
no_cons [] y ys e = cc
no_cons (x ∷ xs) y ys e = cc

-- `ret` and `back`, whose frame goes word by word
module _ (at : Outside) (bottom : ℕ) (img : Image) (places : List ℕ) (p : Program) (code : HasCode at img places p)
    (c : Core) (top : ℕ) (m : Machine) (x : IsToCome at bottom img places p c top m) where
  abbrev low : ℕ
  low = x.first.register 13

  apart_there : IsApart p low top
  apart_there =
      own_apart at bottom img places p x.instruction x.note c x.line top x.first x.stands x.ends x.settled

  own : ChangesItsOwn low top x.first x.reached
  own =
      private_is_unseen p low top x.passed x.first x.reached apart_there (omega arith) (omega (arith, x.ends))
      x.prepares

  -- the next of some code that runs from the first place
  from_run : (rest : List Instruction) (o : Machine) → RunsPrivately p low top (x.passed ++ x.next ∷ rest) x.first o
      → rises_only x.next ≡ true → HasNext p m
  from_run rest o run rises =
      let t = rest_of p low top x.passed (x.next ∷ rest) x.first x.reached o run x.prepares in
      above_has_next at bottom img places p code c top m low apart_there x.reached t.0 x.now x.next t.1 rises
      own.stack.0
      own.stack.1

  same_exception : m.exception ≡ x.first.exception
  same_exception = ap (λ (y : Machine). y.exception) x.now.rest ∙ ap (λ (y : Machine). y.exception) own.rest

  same_link : m.register 14 ≡ x.first.register 14
  same_link = ap (λ (y : Machine). y.register 14) x.now.rest ∙ own.registers 14 (omega arith) (λ f. omega (arith, f))

  module _ (e : x.instruction ≡ instr.Ret) (free : c.caller ≡ None)
      (frame : handler_words img.irqs c.processor.address ≡ length c.processor.slots) (inside : m.exception ≢ 0)
      (link : 0xF0000000 ≤ m.register 14)
      (link_is : m.register 13 ≡ top → m.register 14 ≡ return_value (popped m).exception) where
    abbrev words : ℕ
    words = handler_words img.irqs c.processor.address

    here : IsAt at bottom img places p instr.Ret c x.first
    here = subst (λ (j : Instr). IsAt at bottom img places p j c x.first) e x.stands

    returns : Returns at bottom img places p c x.first
    returns = ret_is_done at bottom img places p c x.first here (record {
      caller = free;
      frame = frame;
      exception = λ f. inside (same_exception ∙ f);
      link = omega (arith, link, same_link);
    })

    closes : RunsPrivately p low top (close_frame words) x.first returns.ready
    closes = runs_within p low _ low top (close_frame words) x.first returns.ready refl (sym x.ends) returns.prepares

    at_return : x.passed ≡ close_frame words → HasNext p m
    at_return f =
        let there : returns.ready ≡ x.reached = same_run p low top x.passed x.first returns.ready x.reached
        (subst (λ (zs : List Instruction). RunsPrivately p low top zs x.first returns.ready) (sym f) closes) x.prepares
        in
        let address : m.address ≡ returns.ready.address =
        ap (λ (y : Machine). y.address) x.now.rest ∙ ap (λ (y : Machine). y.address) (sym there) in
        let stack : m.register 13 ≡ top =
        ap (λ (y : Machine). y.register 13) x.now.rest ∙ (ap (λ (y : Machine). y.register 13) (sym there)
        ∙ (returns.stack ∙ x.ends)) in (
          instruction.BranchExchange 14,
          popped m,
          record {
            found = ap p.code address ∙ returns.found;
            does = returning (m.register 14) (m.register 14) m refl link inside
                ∙ returns_so (m.register 14) m (link_is stack);
          },
        )

    by_place : Place x.passed x.next x.left (close_frame words) (instruction.BranchExchange 14) [] → HasNext p m
    by_place (Before rest f g) =
        let all = all_behind (λ j. rises_only j ≡ true) x.passed (x.next ∷ rest)
        (subst AreRising f (close_rises words)) in
        from_run rest returns.ready
        (subst (λ (zs : List Instruction). RunsPrivately p low top zs x.first returns.ready) f closes) all.0
    by_place (There f g h) = at_return f
    by_place (Past more f g) = absurd (no_cons more x.next x.left g)

    pub ret_has_next : HasNext p m
    ret_has_next =
        by_place (compare x.passed x.next x.left (close_frame words) (instruction.BranchExchange 14) []
        (sym x.parts ∙ (ap (λ (j : Instr). machine_code at bottom img places p j c) e ∙ returns.parts)))

  module _ (d : Core) (said : Option What) (st : StepsBy img instr.Back c d said)
      (body : IsBody at bottom img places p c) where
    is_back : x.instruction ≡ instr.Back
    is_back = ap (λ (y : Instr × Option Note). y.0)
        (same_some (x.instruction, x.note) (instr.Back, st.note) (sym x.line ∙ st.line))

    pub back_has_next : HasNext p m
    back_has_next =
        let here_back : IsAt at bottom img places p instr.Back c x.first =
        subst (λ (j : Instr). IsAt at bottom img places p j c x.first) is_back x.stands in
        let parts : machine_code at bottom img places p instr.Back c ≡ x.passed ++ x.next ∷ x.left =
        ap (λ (j : Instr). machine_code at bottom img places p j c) (sym is_back) ∙ x.parts in
        let leads = after_step img instr.Back c d said st (λ k item. LeadsPrivately at bottom img places p
        (machine_code at bottom img places p instr.Back c) c x.first
        (with_slots at bottom img places p (caller_words places c.caller) k) item)
        (back_is_done at bottom img places p c x.first here_back body) in
        let run = runs_within p low _ low top (machine_code at bottom img places p instr.Back c) x.first leads.0 refl
        (sym x.ends) leads.1 in
        let all = all_behind (λ j. rises_only j ≡ true) x.passed (x.next ∷ x.left)
        (subst AreRising parts (back_rises (body_words img.bodies c.processor.address))) in
        from_run x.left leads.0 (subst (λ (zs : List Instruction). RunsPrivately p low top zs x.first leads.0) parts
        run)
        all.0
