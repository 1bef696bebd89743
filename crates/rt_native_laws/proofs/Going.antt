-- One machine instruction of the job that runs is nothing to the core, or one step of it.
use Rattle.std.proofs.Common.{◌≡◌, ◌∙◌, ℕ, suc, ◌+◌, ◌*◌, ◌≤◌, ◌⊎◌, inl, inr, true, false}
use Rattle.std.proofs.Common.{List, [], ◌∷◌, ◌++◌, Option, Some, None, sym, refl, ap, subst, arith, length, ⊎_elim}
use Rattle.std.specs.Prelude.{slice_get, slice_index}
use Rattle.rt_lemmas.proofs.Bools.{not_so, true_and_false}
use Rattle.rt_lemmas.proofs.Lists.{all_front, all_behind}
use Rattle.rt_code.specs.Image.{Image}
use Rattle.rt_code.specs.declared.instr.Instr.{Instr}
use Rattle.rt_code.specs.declared.instr.Instr.TheVariants as instr
use Rattle.rt_code.specs.declared.instr.Note.{Note}
use Rattle.rt_core.specs.Core.{Core}
use Rattle.rt_core.specs.Outcome.{Done}
use Rattle.rt_native.specs.Sequences.{sequence}
use Rattle.rt_native.specs.declared.outside.Outside.{Outside}
use Rattle.rt_thumb.specs.Exceptions.{systick}
use Rattle.rt_thumb.specs.Machine.{Machine, Seen}
use Rattle.rt_thumb.specs.Step.{Program}
use Rattle.rt_thumb.specs.declared.instruction.Instruction.{Instruction}
use Rattle.rt_trace.specs.declared.item.What.{What}
use Rattle.rt_native_laws.specs.Doing.{Becomes, DoesInOne, DoesPrivately, IsAt, LeadsInOne, LeadsPrivately, RunsInOne}
use Rattle.rt_native_laws.specs.Doing.{machine_code, seen_of}
use Rattle.rt_native_laws.specs.Going.{HasCode, IsPlain, IsNothing, IsOneStepOrNone, Nothing, OneStep}
use Rattle.rt_native_laws.specs.Going.{StepsBy, OneEventIsOneStepOrNone, WhatIsLateIsNothing}
use Rattle.rt_native_laws.specs.Going.{MarkIsNoEvent}
use Rattle.rt_native_laws.specs.Laws.{IsApart}
use Rattle.rt_native_laws.specs.Moments.{instruction_at, last_after}
use Rattle.rt_native_laws.specs.Own.{AreSteady, ChangesItsOwn, Executes, RunsPrivately, Spans, StepsPrivately}
use Rattle.rt_native_laws.specs.Own.{is_steady}
use Rattle.rt_native_laws.specs.Phases.{IsNoCall, IsOrdinary, IsToCome, IsDone, Phase, ToCome, AlreadyDone, Reads}
use Rattle.rt_native_laws.specs.Phases.{Calls}
use Rattle.rt_native_laws.specs.Phases.{Entering, Calling, Tails, kept_words}
use Rattle.rt_native_laws.proofs.Beginning.{entering_goes, calling_goes, same_words}
use Rattle.rt_native_laws.specs.Standing.{IsLaidOut, StandsFor, HoldsWords, IsBeside, frames_end}
use Rattle.rt_native_laws.proofs.Accesses.{load_is_done, store_is_done, load_at_is_done, store_at_is_done}
use Rattle.rt_native_laws.proofs.Accesses.{emit_is_done, clock_is_done, runs_within}
use Rattle.rt_native_laws.proofs.Jumps.{jump_is_done, jump_if_zero_is_done, wait_is_done}
use Rattle.rt_native_laws.proofs.Masks.{raise_is_done, restore_is_done, mask_is_done, unmask_is_done, serve_is_done}
use Rattle.rt_native_laws.proofs.Moves.{set_is_done, copy_is_done, calculation_is_done}
use Rattle.rt_native_laws.proofs.Phases.{apart_of}
use Rattle.rt_native_laws.proofs.Prefixes.{same_some, same_found, same_next, same_run, rest_of, compare, Place, Before}
use Rattle.rt_native_laws.proofs.Prefixes.{There, Past}
use Rattle.rt_native_laws.proofs.Private.{private_is_unseen}
use Rattle.rt_native_laws.proofs.Requests.{post_is_done, no_alarm_is_done}
use Rattle.rt_native_laws.proofs.Runs.{runs_on}
use Rattle.rt_native_laws.proofs.Settled.{settled_within}
use Rattle.rt_native_laws.proofs.Shapes.{plain_is_steady, plain_has_first}
use Rattle.rt_native_laws.proofs.Silent.{goes_silently, same_state}
use Rattle.rt_native_laws.proofs.Steady.{stack_after, stack_run, words_after, words_run, steady_is_no_return}
use Rattle.rt_native_laws.proofs.Stepping.{outcome_is, after_step}

-- the laws of plain instructions, in two kinds
module _ (at : Outside) (bottom : ℕ) (img : Image) (places : List ℕ) (p : Program) where
  kind_of : (i : Instr) → IsPlain i → DoesPrivately at bottom img places p i ⊎ DoesInOne at bottom img places p i
  kind_of (instr.Set d v) h = inl (set_is_done d v at bottom img places p)
  kind_of (instr.Copy d s) h = inl (copy_is_done d s at bottom img places p)
  kind_of (instr.Calc o d a b) h = inl (calculation_is_done o d a b at bottom img places p)
  kind_of (instr.Load d c) h = inr (load_is_done d c at bottom img places p)
  kind_of (instr.Store c s) h = inr (store_is_done c s at bottom img places p)
  kind_of (instr.LoadAt d c s) h = inr (load_at_is_done d c s at bottom img places p)
  kind_of (instr.StoreAt c s a) h = inr (store_at_is_done c s a at bottom img places p)
  kind_of (instr.Jump l) h = inl (jump_is_done l at bottom img places p)
  kind_of (instr.JumpZ s l) h = inl (jump_if_zero_is_done s l at bottom img places p)
  kind_of (instr.Emit s) h = inr (emit_is_done s at bottom img places p)
  kind_of (instr.Post irq) h = inr (post_is_done irq h at bottom img places p)
  kind_of (instr.Clock d) h = inr (clock_is_done d at bottom img places p)
  kind_of (instr.Alarm s irq) h = absurd h
  kind_of instr.NoAlarm h = inr (no_alarm_is_done at bottom img places p)
  kind_of (instr.Raise d v) h = inr (raise_is_done d v at bottom img places p)
  kind_of (instr.Restore s) h = inr (restore_is_done s at bottom img places p)
  kind_of (instr.Mask d) h = inr (mask_is_done d at bottom img places p)
  kind_of (instr.Unmask s) h = inr (unmask_is_done s at bottom img places p)
  kind_of instr.Mark h = absurd h
  kind_of instr.Serve h = inr (serve_is_done at bottom img places p)
  kind_of instr.Wait h = inl (wait_is_done at bottom img places p)
  kind_of (instr.Call row s) h = absurd h
  kind_of instr.Back h = absurd h
  kind_of instr.Ret h = absurd h

pub no_call : (i : Instr) → IsPlain i → IsNoCall i
no_call (instr.Call row s) h = absurd h
no_call i h = tt

-- A plain instruction, from a state at its first place; the core steps by it.
module _ (at : Outside) (bottom : ℕ) (img : Image) (places : List ℕ) (p : Program) (code : HasCode at img places p)
    (i : Instr) (plain : IsPlain i) (c d : Core) (said : Option What) (s : StepsBy img i c d said) (top : ℕ)
    (first : Machine) (here : IsAt at bottom img places p i c first) (ends : frames_end c first ≡ top)
    (settled : first.is_unsettled ≡ false) where
  abbrev floor : ℕ
  floor = first.register 13

  abbrev text : List Instruction
  text = machine_code at bottom img places p i c

  abbrev all_words : ℕ
  all_words = length c.processor.slots

  abbrev own_item : Option What
  own_item = (outcome_is img i c d said s).own

  steady : AreSteady text
  steady = plain_is_steady at img places c.processor.address i plain

  wide : floor ≤ top
  wide = omega (arith, ends)

  below_cells : top ≤ at.cells
  below_cells = omega (arith, ends, here.stands.frames)

  apart : IsApart p floor top
  apart =
      apart_of at bottom floor top (length c.processor.cells) p here.laid here.port here.stands.stack below_cells

  -- the whole code runs, with its commit or as what is private
  record Whole : Type 0 where
    last : Machine
    run : RunsPrivately p floor top text first last ⊎ RunsInOne p text floor top floor top first last
    becomes : Becomes at bottom img places p c first d own_item last
    stack : last.register 13 ≡ floor
    settled_then : last.is_unsettled ≡ false
    words : HoldsWords last

  privately : LeadsPrivately at bottom img places p text c first d own_item → Whole
  privately x =
      let run = runs_within p floor (frames_end c first) floor top text first x.0 refl (sym ends) x.1 in
      let own = private_is_unseen p floor top text first x.0 apart (omega arith) wide run in
      record {
        last = x.0;
        run = inl run;
        becomes = x.2;
        stack = stack_run at img places p code floor top text first x.0 steady run;
        settled_then = not_so x.0.is_unsettled (λ e. true_and_false first.is_unsettled (own.settled e) settled);
        words = words_run at img places p code floor top text first x.0 run here.words;
      }

  in_one : LeadsInOne at bottom img places p i c first d own_item → Whole
  in_one does =
      let x = does s.base_priority in
      let r = x.1 in
      let last = x.0 in
      let all : AreSteady (r.front ++ r.commit ∷ r.back) = subst AreSteady r.parts steady in
      let front = all_front (λ j. is_steady j ≡ true) r.front (r.commit ∷ r.back) all in
      let behind = all_behind (λ j. is_steady j ≡ true) r.front (r.commit ∷ r.back) all in
      let before = stack_run at img places p code _ _ r.front first r.ready front r.prepares in
      let at_commit = stack_after at img places p code r.commit r.ready r.done behind.0 r.commits in
      let after = stack_run at img places p code _ _ r.back r.done last behind.1 r.completes in
      let stack : last.register 13 ≡ floor = after ∙ (at_commit ∙ before) in
      let top_after : frames_end d last ≡ top = x.2.ends ∙ ends in
      let ready_words = words_run at img places p code _ _ r.front first r.ready r.prepares here.words in
      let done_words = words_after at img places p code r.commit r.ready r.done r.commits
      (steady_is_no_return r.commit r.ready behind.0) ready_words in
      record {
        last = last;
        run = inr (record {
          front = r.front;
          commit = r.commit;
          back = r.back;
          parts = r.parts;
          ready = r.ready;
          done = r.done;
          prepares =
              runs_within p floor (frames_end c first) floor top r.front first r.ready refl (sym ends) r.prepares;
          commits = r.commits;
          completes = runs_within p (last.register 13) (frames_end d last) floor top r.back r.done last (sym stack)
              (sym top_after) r.completes;
        });
        becomes = x.2;
        stack = stack;
        settled_then = x.4 s.raises settled;
        words = words_run at img places p code _ _ r.back r.done last r.completes done_words;
      }

  whole_of : DoesPrivately at bottom img places p i ⊎ DoesInOne at bottom img places p i → Whole
  whole_of k =
      ⊎_elim (λ (x : DoesPrivately at bottom img places p i).
      privately (after_step img i c d said s (LeadsPrivately at bottom img places p text c first) (x c first here)))
      (λ (x : DoesInOne at bottom img places p i).
      in_one (after_step img i c d said s (LeadsInOne at bottom img places p i c first) (x c first here))) k

  -- the next one is no fault, wherever the code has come to
  module _ (w : Whole) (passed : List Instruction) (next : Instruction) (left : List Instruction)
      (parts : text ≡ passed ++ next ∷ left) (reached : Machine)
      (prepares : RunsPrivately p floor top passed first reached) where
    abbrev Next : Type 0
    Next = (n : Machine) × Executes p next reached n

    next_before : (rest : List Instruction) (o : Machine) → RunsPrivately p floor top (passed ++ next ∷ rest) first o
        → Next
    next_before rest o run =
        let t = rest_of p floor top passed (next ∷ rest) first reached o run prepares in (t.0, t.1.executes)

    next_by_commit : (r : RunsInOne p text floor top floor top first w.last)
        → Place passed next left r.front r.commit r.back → Next
    next_by_commit r (Before rest f g) =
        next_before rest r.ready (subst (λ (zs : List Instruction). RunsPrivately p floor top zs first r.ready) f
        r.prepares)
    next_by_commit r (There f g h) =
        let e : r.ready ≡ reached = same_run p floor top passed first r.ready reached
        (subst (λ (zs : List Instruction). RunsPrivately p floor top zs first r.ready) (sym f) r.prepares) prepares in (
          r.done,
          subst (λ (j : Instruction). Executes p j reached r.done) (sym g)
              (subst (λ (k : Machine). Executes p r.commit k r.done) e r.commits),
        )
    next_by_commit r (Past more f g) =
        let t = rest_of p floor top r.front (r.commit ∷ more) first r.ready reached
        (subst (λ (zs : List Instruction). RunsPrivately p floor top zs first reached) f prepares) r.prepares in
        let e : t.0 ≡ r.done = same_next p r.commit r.commit r.ready t.0 r.done t.1.executes r.commits in
        let u = rest_of p floor top more (next ∷ left) r.done reached w.last
        (subst (λ (zs : List Instruction). RunsPrivately p floor top zs r.done w.last) g r.completes)
        (subst (λ (k : Machine). RunsPrivately p floor top more k reached) e t.2) in
        (u.0, u.1.executes)

    next_is : Next
    next_is =
        ⊎_elim (λ (r : RunsPrivately p floor top text first w.last).
        next_before left w.last (subst (λ (zs : List Instruction). RunsPrivately p floor top zs first w.last) parts r))
        (λ (r : RunsInOne p text floor top floor top first w.last).
        next_by_commit r (compare passed next left r.front r.commit r.back (sym parts ∙ r.parts))) w.run

  -- one machine instruction of it
  module _ (w : Whole) (passed : List Instruction) (next : Instruction) (left : List Instruction)
      (parts : text ≡ passed ++ next ∷ left) (reached n : Machine)
      (prepares : RunsPrivately p floor top passed first reached) (executed : Instruction)
      (exec : Executes p executed reached n) where
    steady_parts : AreSteady passed × AreSteady (next ∷ left)
    steady_parts =
        let all : AreSteady (passed ++ next ∷ left) = subst AreSteady parts steady in (
          all_front (λ j. is_steady j ≡ true) passed (next ∷ left) all,
          all_behind (λ j. is_steady j ≡ true) passed (next ∷ left) all,
        )

    there : reached.register 13 ≡ floor
    there = stack_run at img places p code floor top passed first reached steady_parts.0 prepares

    own_before : ChangesItsOwn floor top first reached
    own_before = private_is_unseen p floor top passed first reached apart (omega arith) wide prepares

    -- the commit, or the last of what is private
    is_done : (behind : List Instruction) → AreSteady behind → n.register 13 ≡ floor
        → RunsPrivately p floor top behind n w.last
        → IsOneStepOrNone at bottom img places p c top reached n all_words d said
    is_done behind steady_behind stack completes =
        let last = w.last in
        let b = w.becomes in
        let own = private_is_unseen p floor top behind n last apart (omega (arith, stack)) (omega (arith, stack, wide))
        completes in
        OneStep (record {
          fresh = settled_within (last_after img (instruction_at img c)) (length d.processor.slots);
          phase = AlreadyDone (record {
            left = behind;
            steady = steady_behind;
            last = last;
            stack = stack ∙ sym w.stack;
            completes = runs_within p floor top (last.register 13) top behind n last w.stack refl completes;
            stands = b.stands;
            ends = b.ends ∙ ends;
            settled = w.settled_then;
            words = w.words;
          });
          others = record {
            registers = λ k h g. sym (own.registers k h g) ∙ (b.registers k h g ∙ sym (own_before.registers k h g));
            memory = λ k beside.
                let aside : (4 * k + 4 ≤ floor) ⊎ (top ≤ 4 * k) =
                ⊎_elim (λ (x : (4 * k + 4 ≤ reached.register 13) × (4 * k + 4 ≤ n.register 13)).
                inl (omega (arith, x.0, there)))
                (λ (y : ((top ≤ 4 * k) × (4 * k + 4 ≤ at.cells)) ⊎ (at.time + 8 ≤ 4 * k)).
                inr (⊎_elim (λ (x : (top ≤ 4 * k) × (4 * k + 4 ≤ at.cells)). x.0)
                (λ (x : at.time + 8 ≤ 4 * k). omega (arith, x, below_cells, here.laid.time)) y)) beside in
                let then : IsBeside at floor (last.register 13) (frames_end c first) k =
                ⊎_elim (λ (x : (4 * k + 4 ≤ reached.register 13) × (4 * k + 4 ≤ n.register 13)).
                inl (omega (arith, x.0, there), omega (arith, x.0, there, w.stack)))
                (λ (y : ((top ≤ 4 * k) × (4 * k + 4 ≤ at.cells)) ⊎ (at.time + 8 ≤ 4 * k)).
                inr (⊎_elim (λ (x : (top ≤ 4 * k) × (4 * k + 4 ≤ at.cells)). inl (omega (arith, x.0, ends), x.1))
                (λ (x : at.time + 8 ≤ 4 * k). inr x) y)) beside in
                sym (own.memory k aside) ∙ (b.memory k then ∙ sym (own_before.memory k aside));
            exception = sym (ap (λ (x : Machine). x.exception) own.rest)
                ∙ (b.exception ∙ sym (ap (λ (x : Machine). x.exception) own_before.rest));
            active = sym (ap (λ (x : Machine). x.active) own.rest)
                ∙ (b.active ∙ sym (ap (λ (x : Machine). x.active) own_before.rest));
            tick = sym (ap (λ (x : Machine). x.is_pending systick) own.rest)
                ∙ (b.tick ∙ sym (ap (λ (x : Machine). x.is_pending systick) own_before.rest));
            seen = sym (ap (λ (x : Machine). x.seen) own.rest)
                ∙ (b.seen ∙ (ap (λ (x : List Seen). x ++ first.seen) (outcome_is img i c d said s).same
                ∙ ap (λ (x : List Seen). seen_of said ++ x) (sym (ap (λ (x : Machine). x.seen) own_before.rest))));
          };
        })

    -- one of what is private, with more behind it
    is_silent : (y : Instruction) (ys : List Instruction) → left ≡ y ∷ ys → StepsPrivately p floor top next reached n
        → IsOneStepOrNone at bottom img places p c top reached n all_words d said
    is_silent y ys e steps =
        Nothing (goes_silently at bottom img places p i s.note c s.line top first here ends settled (no_call i plain)
        passed next y ys (parts ∙ ap (λ (zs : List Instruction). passed ++ next ∷ zs) e) reached n prepares (omega
        (arith, there))
        (omega (arith, there, wide)) steps)

    stack_now : executed ≡ next → n.register 13 ≡ floor
    stack_now e =
        stack_after at img places p code executed reached n
        (subst (λ (j : Instruction). is_steady j ≡ true) (sym e) steady_parts.1.0) exec ∙ there

    -- by what is left behind it
    goes_or_ends : (behind : List Instruction) → left ≡ behind → StepsPrivately p floor top next reached n
        → RunsPrivately p floor top behind n w.last
        → IsOneStepOrNone at bottom img places p c top reached n all_words d said
    goes_or_ends [] e steps run =
        is_done [] tt (stack_now (same_found p executed next reached n n exec steps.executes)) run
    goes_or_ends (y ∷ ys) e steps run = is_silent y ys e steps

    -- where all is private
    by_private : RunsPrivately p floor top text first w.last
        → IsOneStepOrNone at bottom img places p c top reached n all_words d said
    by_private run =
        let t = rest_of p floor top passed (next ∷ left) first reached w.last
        (subst (λ (zs : List Instruction). RunsPrivately p floor top zs first w.last) parts run) prepares in
        let e : t.0 ≡ n = same_next p next executed reached t.0 n t.1.executes exec in
        goes_or_ends left refl (subst (λ (k : Machine). StepsPrivately p floor top next reached k) e t.1)
        (subst (λ (k : Machine). RunsPrivately p floor top left k w.last) e t.2)

    -- there is a commit behind what is left in front of it
    before_commit : (rest : List Instruction) (commit : Instruction) (back : List Instruction)
        → left ≡ rest ++ commit ∷ back → StepsPrivately p floor top next reached n
        → IsOneStepOrNone at bottom img places p c top reached n all_words d said
    before_commit [] commit back e steps = is_silent commit back e steps
    before_commit (z ∷ zs) commit back e steps = is_silent z (zs ++ commit ∷ back) e steps

    -- where there is a commit
    by_commit : (r : RunsInOne p text floor top floor top first w.last)
        → Place passed next left r.front r.commit r.back
        → IsOneStepOrNone at bottom img places p c top reached n all_words d said
    by_commit r (Before rest f g) =
        let t = rest_of p floor top passed (next ∷ rest) first reached r.ready
        (subst (λ (zs : List Instruction). RunsPrivately p floor top zs first r.ready) f r.prepares) prepares in
        let e : t.0 ≡ n = same_next p next executed reached t.0 n t.1.executes exec in
        before_commit rest r.commit r.back g (subst (λ (k : Machine). StepsPrivately p floor top next reached k) e t.1)
    by_commit r (There f g h) =
        let e : r.ready ≡ reached = same_run p floor top passed first r.ready reached
        (subst (λ (zs : List Instruction). RunsPrivately p floor top zs first r.ready) (sym f) r.prepares) prepares in
        let commits : Executes p r.commit reached r.done =
        subst (λ (k : Machine). Executes p r.commit k r.done) e r.commits in
        let to : r.done ≡ n = same_next p r.commit executed reached r.done n commits exec in
        is_done r.back (subst AreSteady h steady_parts.1.1)
        (stack_now (same_found p executed r.commit reached n r.done exec commits ∙ sym g))
        (subst (λ (k : Machine). RunsPrivately p floor top r.back k w.last) to r.completes)
    by_commit r (Past more f g) =
        let t = rest_of p floor top r.front (r.commit ∷ more) first r.ready reached
        (subst (λ (zs : List Instruction). RunsPrivately p floor top zs first reached) f prepares) r.prepares in
        let e : t.0 ≡ r.done = same_next p r.commit r.commit r.ready t.0 r.done t.1.executes r.commits in
        let run = runs_on p floor top r.front (r.commit ∷ r.back) first r.ready w.last r.prepares (
          r.done,
          subst (λ (k : Machine). StepsPrivately p floor top r.commit r.ready k) e t.1,
          r.completes,
        ) in
        by_private (subst (λ (zs : List Instruction). RunsPrivately p floor top zs first w.last) (sym r.parts) run)

    goes : IsOneStepOrNone at bottom img places p c top reached n all_words d said
    goes =
        ⊎_elim (λ (r : RunsPrivately p floor top text first w.last). by_private r)
        (λ (r : RunsInOne p text floor top floor top first w.last).
        by_commit r (compare passed next left r.front r.commit r.back (sym parts ∙ r.parts))) w.run

module _ (at : Outside) (bottom : ℕ) (img : Image) (places : List ℕ) (p : Program) (code : HasCode at img places p)
    (i : Instr) (plain : IsPlain i) (c d : Core) (said : Option What) (s : StepsBy img i c d said) (top : ℕ)
    (m n : Machine) (executed : Instruction) (exec : Executes p executed m n) where
  same_line : (j : Instr) (note : Option Note) → slice_get img.code c.processor.address ≡ Some (j, note) → j ≡ i
  same_line j note e = ap (λ (x : Instr × Option Note). x.0) (same_some (j, note) (i, s.note) (sym e ∙ s.line))

  -- an instruction that was still to come
  goes_to_come : IsToCome at bottom img places p c top m
      → IsOneStepOrNone at bottom img places p c top m n (length c.processor.slots) d said
  goes_to_come x =
      let e : x.instruction ≡ i = same_line x.instruction x.note x.line in
      let here : IsAt at bottom img places p i c x.first =
      subst (λ (j : Instr). IsAt at bottom img places p j c x.first) e x.stands in
      let parts : machine_code at bottom img places p i c ≡ x.passed ++ x.next ∷ x.left =
      ap (λ (j : Instr). machine_code at bottom img places p j c) (sym e) ∙ x.parts in
      let front = all_front (λ j. is_steady j ≡ true) x.passed (x.next ∷ x.left)
      (subst AreSteady parts (plain_is_steady at img places c.processor.address i plain)) in
      let stack : x.reached.register 13 ≡ x.first.register 13 =
      stack_run at img places p code (x.first.register 13) top x.passed x.first x.reached front x.prepares in
      let same : m ≡ x.reached =
      same_state (x.first.register 13) x.reached m x.now stack here.stands.aligned in
      let whole = whole_of at bottom img places p code i plain c d said s top x.first here x.ends x.settled
      (kind_of at bottom img places p i plain) in
      subst (λ (k : Machine). IsOneStepOrNone at bottom img places p c top k n (length c.processor.slots) d said)
      (sym same)
      (goes at bottom img places p code i plain c d said s top x.first here x.ends x.settled whole x.passed x.next
      x.left parts x.reached n x.prepares executed (subst (λ (k : Machine). Executes p executed k n) same exec))

-- an instruction that was still to come goes on
pub plain_has_next : (at : Outside) (bottom : ℕ) (img : Image) (places : List ℕ) (p : Program)
    → HasCode at img places p → (i : Instr) → IsPlain i → (c d : Core) (said : Option What) → StepsBy img i c d said
    → (top : ℕ) (m : Machine) → IsToCome at bottom img places p c top m
    → (executed : Instruction) × (n : Machine) × Executes p executed m n
plain_has_next at bottom img places p code i plain c d said s top m x =
    let e : x.instruction ≡ i = ap (λ (y : Instr × Option Note). y.0)
    (same_some (x.instruction, x.note) (i, s.note) (sym x.line ∙ s.line)) in
    let here : IsAt at bottom img places p i c x.first =
    subst (λ (j : Instr). IsAt at bottom img places p j c x.first) e x.stands in
    let parts : machine_code at bottom img places p i c ≡ x.passed ++ x.next ∷ x.left =
    ap (λ (j : Instr). machine_code at bottom img places p j c) (sym e) ∙ x.parts in
    let front = all_front (λ j. is_steady j ≡ true) x.passed (x.next ∷ x.left)
    (subst AreSteady parts (plain_is_steady at img places c.processor.address i plain)) in
    let stack : x.reached.register 13 ≡ x.first.register 13 =
    stack_run at img places p code (x.first.register 13) top x.passed x.first x.reached front x.prepares in
    let same : m ≡ x.reached =
    same_state (x.first.register 13) x.reached m x.now stack here.stands.aligned in
    let whole = whole_of at bottom img places p code i plain c d said s top x.first here x.ends x.settled
    (kind_of at bottom img places p i plain) in
    let y = next_is at bottom img places p code i plain c d said s top x.first here x.ends x.settled whole x.passed
    x.next x.left parts x.reached x.prepares in
    (x.next, y.0, subst (λ (k : Machine). Executes p x.next k y.0) (sym same) y.1)

-- what is private behind a commit
module _ (at : Outside) (bottom : ℕ) (img : Image) (places : List ℕ) (p : Program) (code : HasCode at img places p)
    (c : Core) (laid : IsLaidOut at bottom (length c.processor.cells)) (top : ℕ) (m n : Machine)
    (executed : Instruction) (exec : Executes p executed m n) (x : IsDone at bottom img places p c top m) where
  pub goes_behind : (j : Instruction) (js : List Instruction) → AreSteady (j ∷ js)
      → RunsPrivately p (x.last.register 13) top (j ∷ js) m x.last
      → IsNothing at bottom img places p c top m n (length c.processor.slots)
  goes_behind j js steady run =
      let floor = x.last.register 13 in
      let e : run.0 ≡ n = same_next p j executed m run.0 n run.1.executes exec in
      let steps : StepsPrivately p floor top j m n =
      subst (λ (k : Machine). StepsPrivately p floor top j m k) e run.1 in
      let stack : n.register 13 ≡ m.register 13 = stack_after at img places p code j m n steady.0 steps.executes in
      let apart = apart_of at bottom floor top (length c.processor.cells) p laid code.port x.stands.stack
      (omega (arith, x.ends, x.stands.frames)) in
      let own = private_is_unseen p floor top (j ∷ []) m n apart (omega (arith, x.stack))
      (omega (arith, x.stack, x.ends)) (n, steps, refl) in
      record {
        core = c;
        words = same_words (length c.processor.slots) c;
        fresh = omega arith;
        phase = AlreadyDone (record {
          left = js;
          steady = steady.1;
          last = x.last;
          stack = stack ∙ x.stack;
          completes = subst (λ (k : Machine). RunsPrivately p floor top js k x.last) e run.2;
          stands = x.stands;
          ends = x.ends;
          settled = x.settled;
          words = x.words;
        });
        floor = floor;
        deep = x.stands.stack;
        unseen = own;
      }

-- between two instructions the next one is to come
pub to_come_at : (at : Outside) (bottom : ℕ) (img : Image) (places : List ℕ) (p : Program) (c : Core) (top : ℕ)
    (m : Machine) (i : Instr) (note : Option Note) → HasCode at img places p
    → (x : Instruction) × (xs : List Instruction) × (sequence at img places c.processor.address i ≡ x ∷ xs)
    → IsNoCall i → slice_get img.code c.processor.address ≡ Some (i, note)
    → IsLaidOut at bottom (length c.processor.cells) → StandsFor at bottom places c m → frames_end c m ≡ top
    → m.is_unsettled ≡ false → HoldsWords m
    → (y : IsToCome at bottom img places p c top m) × (y.instruction ≡ i)
to_come_at at bottom img places p c top m i note code f kind line laid stands ends settled words = (
  record {
    instruction = i;
    kind = kind;
    note = note;
    line = line;
    first = m;
    stands = record {
      laid = laid;
      port = code.port;
      addresses = code.addresses;
      halfwords = code.halfwords;
      code = subst (λ (a : ℕ). Spans p a (machine_code at bottom img places p i c)
          (slice_index places (suc c.processor.address))) (sym stands.address)
          (code.code c.processor.address i note line);
      stands = stands;
      words = words;
    };
    ends = ends;
    settled = settled;
    passed = [];
    next = f.0;
    left = f.1;
    parts = f.2;
    reached = m;
    prepares = refl;
    now = record { rest = refl; memory = λ k h. refl };
  },
  refl,
)

module _ (at : Outside) (bottom : ℕ) (img : Image) (places : List ℕ) (p : Program) (i : Instr) (c d : Core)
    (said : Option What) (top : ℕ) (m n : Machine) (executed : Instruction) (code : HasCode at img places p)
    (laid : IsLaidOut at bottom (length c.processor.cells)) (plain : IsPlain i) (s : StepsBy img i c d said)
    (exec : Executes p executed m n) where
  by_left : (x : IsDone at bottom img places p c top m) (left : List Instruction) → AreSteady left
      → RunsPrivately p (x.last.register 13) top left m x.last
      → IsOneStepOrNone at bottom img places p c top m n (length c.processor.slots) d said
  by_left x [] behind run =
      let at_it : StandsFor at bottom places c m = subst (StandsFor at bottom places c) run x.stands in
      goes_to_come at bottom img places p code i plain c d said s top m n executed exec
      (to_come_at at bottom img places p c top m i s.note code
      (plain_has_first at img places c.processor.address i plain) (no_call i plain) s.line laid at_it
      (subst (λ (k : Machine). frames_end c k ≡ top) run x.ends)
      (subst (λ (k : Machine). k.is_unsettled ≡ false) run x.settled) (subst HoldsWords run x.words)).0
  by_left x (j ∷ js) behind run =
      Nothing (goes_behind at bottom img places p code c laid top m n executed exec x j js behind run)

  by_phase : (phase : Phase at bottom img places p c top m) → IsOrdinary at bottom img places p c top m phase
      → IsOneStepOrNone at bottom img places p c top m n (kept_words at bottom img places p c top m phase) d said
  by_phase (ToCome x) unread = goes_to_come at bottom img places p code i plain c d said s top m n executed exec x
  by_phase (AlreadyDone x) unread = by_left x x.left x.steady x.completes
  by_phase (Entering x) unread = Nothing (entering_goes at bottom img places p code c top m n executed exec x)
  by_phase (Calling x) unread = Nothing (calling_goes at bottom img places p code c top m n executed exec x)
  by_phase (Reads x) unread = absurd unread
  by_phase (Calls x f) unread = absurd unread
  by_phase (Tails core x same) unread = absurd unread

pub one_event_is_one_step_or_none : OneEventIsOneStepOrNone
one_event_is_one_step_or_none at bottom img places p i c d said top m n executed code laid plain s phase unread exec =
    by_phase at bottom img places p i c d said top m n executed code laid plain s exec phase unread

-- what is late
module _ (at : Outside) (bottom : ℕ) (img : Image) (places : List ℕ) (p : Program) (c : Core) (top : ℕ)
    (m n : Machine) (executed : Instruction) (code : HasCode at img places p)
    (laid : IsLaidOut at bottom (length c.processor.cells)) (late : m.is_unsettled ≡ true)
    (exec : Executes p executed m n) where
  late_by_left : (x : IsDone at bottom img places p c top m) (left : List Instruction) → AreSteady left
      → RunsPrivately p (x.last.register 13) top left m x.last
      → IsNothing at bottom img places p c top m n (length c.processor.slots)
  late_by_left x [] behind run =
      absurd (true_and_false m.is_unsettled late (subst (λ (k : Machine). k.is_unsettled ≡ false) run x.settled))
  late_by_left x (j ∷ js) behind run =
      goes_behind at bottom img places p code c laid top m n executed exec x j js behind run

  not_to_come : IsToCome at bottom img places p c top m → ⊥
  not_to_come x =
      let low = x.first.register 13 in
      let begun = x.stands.stands in
      let apart = apart_of at bottom low top (length c.processor.cells) p laid code.port begun.stack
      (omega (arith, x.ends, begun.frames)) in
      let own = private_is_unseen p low top x.passed x.first x.reached apart (omega arith) (omega (arith, x.ends))
      x.prepares in
      let there : x.reached.is_unsettled ≡ true =
      sym (ap (λ (y : Machine). y.is_unsettled) x.now.rest) ∙ late in
      true_and_false x.first.is_unsettled (own.settled there) x.settled

  late_by_phase : (phase : Phase at bottom img places p c top m)
      → IsNothing at bottom img places p c top m n (kept_words at bottom img places p c top m phase)
  late_by_phase (ToCome x) = absurd (not_to_come x)
  late_by_phase (AlreadyDone x) = late_by_left x x.left x.steady x.completes
  late_by_phase (Entering x) = entering_goes at bottom img places p code c top m n executed exec x
  late_by_phase (Calling x) = calling_goes at bottom img places p code c top m n executed exec x
  late_by_phase (Reads x) = absurd (true_and_false m.is_unsettled late x.settled)
  late_by_phase (Calls x f) = absurd (true_and_false m.is_unsettled late x.settled)
  late_by_phase (Tails core x same) = absurd (true_and_false m.is_unsettled late x.settled)

pub what_is_late_is_nothing : WhatIsLateIsNothing
what_is_late_is_nothing at bottom img places p c top m n executed code laid phase late exec =
    late_by_phase at bottom img places p c top m n executed code laid late exec phase

-- a mark
pub same_core : (c d : Core) (v w : Option What) → Done c v ≡ Done d w → c ≡ d
same_core c d v w e = cc

same_said : (c d : Core) (v w : Option What) → Done c v ≡ Done d w → v ≡ w
same_said c d v w e = cc

pub mark_is_no_event : MarkIsNoEvent
mark_is_no_event at bottom img places p c d said top m code s x =
    let e = outcome_is img instr.Mark c d said s in
    let after = record c { processor = record c.processor { address = suc c.processor.address } } in
    let done : Done after None ≡ Done d e.own = e.is in
    let next : slice_index places (suc c.processor.address) ≡ slice_index places c.processor.address =
    code.code c.processor.address instr.Mark s.note s.line in
    let st = x.stands in
    let again : IsDone at bottom img places p after top m = record {
      left = x.left;
      steady = x.steady;
      last = x.last;
      stack = x.stack;
      completes = x.completes;
      stands = record {
        address = st.address ∙ sym next;
        base_priority = st.base_priority;
        is_masked = st.is_masked;
        aligned = st.aligned;
        stack = st.stack;
        frames = st.frames;
        slots = st.slots;
        caller = st.caller;
        cells = st.cells;
        time = st.time;
        alarm = st.alarm;
        pending = st.pending;
      };
      ends = x.ends;
      settled = x.settled;
      words = x.words;
    } in (
      subst (λ (y : Core). IsDone at bottom img places p y top m) (same_core after d None e.own done) again,
      sym e.same ∙ ap seen_of (sym (same_said after d None e.own done)),
    )
