-- A dispatcher calls the body of a task, which runs in a frame of its own on the dispatcher's, and the body's end leads
-- back. Baker's machine sees no call: it is a silent step of the job, and the end is the end of the body.
use Rattle.std.proofs.Common.{◌≡◌, ℕ, suc, ◌+◌, ◌-◌, ◌≤◌, ◌==◌, ◌&&◌, ◌||◌, inl, inr, nat_le, true}
use Rattle.std.proofs.Common.{false}
use Rattle.std.proofs.Common.{List, [], ◌∷◌, ◌++◌, length, map, take, drop, replicate, slice_index, Option, Some, None}
use Rattle.std.proofs.Common.{refl, sym, ap, subst, ◌∙◌, arith, length-set, length-append}
use Rattle.std.proofs.lemmas.Bool.{leb-true, eqb-true}
use Rattle.std.proofs.lemmas.List.{length-replicate}
use Rattle.rt_lemmas.proofs.Bools.{and_left, and_right, or_cases}
use Rattle.rt_lemmas.proofs.Lists.{length-take-drop}
use Rattle.rt_ids.specs.Lists.{is_empty}
use Rattle.rt_actions.specs.Content.{Values}
use Rattle.rt_actions.specs.Action.{Ends}
use Rattle.rt_actions.specs.Doing.{Doing}
use Rattle.rt_ids.specs.declared.ids.BodyId.TheVariants as body
use Rattle.rt_app.specs.Tree.{App}
use Rattle.rt_app.specs.Holding.{storage}
use Rattle.rt_app.specs.Stack.{stack_bytes}
use Rattle.rt_code.specs.Image.{Image}
use Rattle.rt_code.specs.Stack.{IsAlikeUpTo, words_of, arguments_fit, caller_frame, body_frame, last_slot, return_address}
use Rattle.rt_code.specs.Standing.{Stands, HaveLeft, Calls, ComesBack, spend_step}
use Rattle.rt_code.specs.declared.image.BodyRow.{BodyRow}
use Rattle.rt_core.specs.Leading.{in_frame}
use Rattle.rt_core.specs.Stepping.{step}
use Rattle.rt_core.specs.Transfer.{core_after_call, has_room}
use Rattle.rt_core.specs.Core.{stack_in_use}
use Rattle.rt_trace.specs.Label.{Stepped}
use Rattle.rt_trace.specs.declared.item.What.TheVariants as what
use Rattle.rt_laws.specs.Allowed.{after}
use Rattle.rt_laws.specs.Preemption.{candidate}
use Rattle.rt_laws.specs.State.{reached_values}
use Rattle.rt_sim.specs.Whereabouts.{IsMoved}
use Rattle.rt_sim.specs.Inside.Coupling.{Part, Coupling, configuration_of, sections_of, whereabouts_of}
use Rattle.rt_sim.specs.Inside.States.{core_of, state_of}
use Rattle.rt_sim.specs.Inside.Chains.{base_of, mask_of, Saves}
use Rattle.rt_sim.specs.Inside.Ownership.{ChangesOwn, RespectsOwnership}
use Rattle.rt_sim.specs.Inside.Calling.{handles, own_slots, IsCallable}
use Rattle.rt_sim.specs.Inside.PartInvariant.{who}
use Rattle.rt_sim.specs.Inside.CouplingInvariant.{IsThread, IsStacked, CouplingInvariant}
use Rattle.rt_sim.specs.Inside.Agrees.{Agrees, StepsBoth}
use Rattle.rt_sim.proofs.Alike.{stands_inside}
use Rattle.rt_sim.proofs.Others.{all_clear, others_kept}
use Rattle.rt_sim.proofs.Plain.{IsWorking, length-passed, apart_of, stands_by, stands_passed, may_turn}
use Rattle.rt_sim.proofs.Acts.{owns_alike, agrees_reached, agreed, respects_next, gives_item, acts_as}
use Rattle.rt_sim.proofs.Depth.{depth_within, used_is, room_of}

-- the frame of a called body is as long as its row says
body_frame_long : (frame : List ℕ) (row : BodyRow) (from : ℕ) → arguments_fit frame row from ≡ true
    → length (body_frame frame row from) ≡ row.frame
body_frame_long frame row from fits =
    let few : row.args ≤ row.frame = leb-true row.args row.frame (and_right _ (nat_le row.args row.frame) fits) in
    let front : length (take row.args (drop from frame)) ≡ row.args = length-take-drop row.args from frame
    (λ some. elim (or_cases (row.args == 0) (nat_le (from + row.args) (length frame))
    (and_left _ (nat_le row.args row.frame) fits)) [
      | inl none ↦ absurd (let e : row.args ≡ 0 = eqb-true row.args 0 none in omega (arith, e, some))
      | inr within ↦ leb-true (from + row.args) (length frame) within
    ]) in
    let zeros : length {A = ℕ} (replicate (row.frame - row.args) 0) ≡ row.frame - row.args
    = length-replicate (row.frame - row.args) 0 in
    length-append (take row.args (drop from frame)) (replicate (row.frame - row.args) 0)
    ∙ omega (arith, few, front, zeros)

module _ (app : App) (img : Image) (thread : ℕ) where
  pub no_handler : (p : Part) → IsThread app img thread p → handles p.role ≡ true → ⊥
  no_handler p is h = elim is.role [
    | inl init ↦ cc (ap handles init, h)
    | inr low ↦ elim low.0 [
      | inl rests ↦ cc (ap handles rests, h)
      | inr waits ↦ cc (ap handles waits, h)
    ]
  ]

  -- the running job in a body that it calls; and behind it
  abbrev pub in_body : Part → BodyRow → List ℕ → ℕ → Part
  in_body p row slots n = record p {
    left = p.left - 1;
    lefts = map (λ n. n - 1) p.lefts;
    address = row.entry;
    slots = slots;
    caller = Some (caller_frame p.slots (suc p.address));
    steps = n;
  }

  abbrev pub out_of_body : Part → List ℕ → List ℕ → ℕ → Doing Values → Part
  out_of_body p frame slots n rest = record p {
    rest = rest;
    left = p.left - 1;
    lefts = map (λ n. n - 1) p.lefts;
    address = return_address frame;
    slots = slots;
    caller = None;
    steps = n;
  }

  frame_long : (p : Part) → length (caller_frame p.slots (suc p.address)) ≡ length p.slots
  frame_long p = length-set p.slots (last_slot p.slots) (suc p.address)

  own_none : (p : Part) → p.caller ≡ None → length (own_slots p.caller p.slots) ≡ p.own → length p.slots ≡ p.own
  own_none p alone own = subst (λ (c : Option (List ℕ)). length (own_slots c p.slots) ≡ p.own) alone own

  stack_called : (p : Part) (ps : List Part) (row : BodyRow) (slots : List ℕ) (k n : ℕ)
      → IsCallable app img p.role p.priority p.own k row → length p.slots ≡ p.own → length slots ≡ row.frame
      → p.held ≡ [] → IsStacked app img thread p ps → IsStacked app img thread (in_body p row slots n) ps
  stack_called p [] row slots k n callable own long closed is = absurd (no_handler p is callable.handler)
  stack_called p (q ∷ ps) row slots k n callable own long closed stack = (
    record {
      irq = stack.0.irq;
      serves = stack.0.serves;
      above = stack.0.above;
      most = stack.0.most;
      apart = stack.0.apart;
      unmasked = stack.0.unmasked;
      handled = stack.0.handled;
      frame = omega (arith, frame_long p, long, own, callable.room);
      saves = subst (λ held. Saves app slots held (base_of app q ps) (mask_of app q ps)) (sym closed) tt;
    },
    stack.1,
  )

  stack_back : (p : Part) (ps : List Part) (frame slots : List ℕ) (n : ℕ) (rest : Doing Values)
      → p.caller ≡ Some frame → length slots ≡ length frame → p.held ≡ [] → IsStacked app img thread p ps
      → IsStacked app img thread (out_of_body p frame slots n rest) ps
  stack_back p [] frame slots n rest caller long closed is =
      absurd (let none : Some frame ≡ None = sym caller ∙ is.own_frame in cc (none))
  stack_back p (q ∷ ps) frame slots n rest caller long closed stack = (
    record {
      irq = stack.0.irq;
      serves = stack.0.serves;
      above = stack.0.above;
      most = stack.0.most;
      apart = stack.0.apart;
      unmasked = stack.0.unmasked;
      handled = stack.0.handled;
      frame = let words : length (words_of p.caller) ≡ length frame = ap (λ c. length (words_of c)) caller in
          omega (arith, words, long, stack.0.frame);
      saves = subst (λ held. Saves app slots held (base_of app q ps) (mask_of app q ps)) (sym closed) tt;
    },
    stack.1,
  )

  -- the running job may call by a row by which it calls: the body's code stands
  pub callable_by : (m : Coupling) → CouplingInvariant app img thread m → (n row from : ℕ)
      → (calls : Calls (storage app) img.code m.running.rows thread (who m.running) row from
      (spend_step (configuration_of m.cells m.queues m.running))
      (λ t. Stands (storage app) img.code m.running.rows thread (who m.running) n t))
      → IsCallable app img m.running.role m.running.priority m.running.own row calls.called
  callable_by m invariant n row from calls = elim (invariant.parts.0.calls.each row calls.called calls.is_there) [
    | inl behind ↦
        absurd (stands_inside (storage app) img.code m.running.rows thread (who m.running) n _
        (calls.on (body_frame (caller_frame m.running.slots (suc m.running.address)) calls.called from) (refl, refl))
        behind)
    | inr one ↦ one
  ]

  module _ (many : app.bits ≤ 7) (fpu : img.fpu ≡ app.fpu) (sized : img.stack_bytes ≡ stack_bytes app) (m : Coupling)
      (invariant : CouplingInvariant app img thread m) (works : IsWorking m.running.role) (n : ℕ)
      (none : candidate app (state_of m) ≡ None)
      (left : HaveLeft (m.running.lefts ++ m.running.left ∷ [])) where
    module _ (row from : ℕ) (calls : Calls (storage app) img.code m.running.rows thread (who m.running) row from
        (spend_step (configuration_of m.cells m.queues m.running))
        (λ t. Stands (storage app) img.code m.running.rows thread (who m.running) n t)) where
      callable : IsCallable app img m.running.role m.running.priority m.running.own row calls.called
      callable = callable_by m invariant n row from calls

      abbrev frame : List ℕ
      frame = caller_frame m.running.slots (suc m.running.address)

      abbrev begun : List ℕ
      begun = body_frame frame calls.called from

      abbrev Called : Part
      Called = in_body m.running calls.called begun n

      pub long_body : length begun ≡ calls.called.frame
      long_body = body_frame_long frame calls.called from
          (ap (λ k. ((calls.called.args == 0) || nat_le (from + calls.called.args) k)
          && nat_le calls.called.args calls.called.frame) (frame_long m.running) ∙ calls.fits)

      own : length m.running.slots ≡ m.running.own
      own = own_none m.running calls.may_call.0 invariant.parts.0.own

      -- whatever the body's frame holds behind the arguments
      pub invariant_called : (slots : List ℕ) → IsAlikeUpTo calls.called.args begun slots
          → CouplingInvariant app img thread (record m { running = in_body m.running calls.called slots n })
      invariant_called slots alike = record {
        stack = stack_called m.running m.below calls.called slots row n callable own (alike.0 ∙ long_body) calls.closed
            invariant.stack;
        parts = (
          record {
            stands = stands_by app img thread m.running.role works m.cells m.queues
                (in_body m.running calls.called slots n)
                (stands_passed app img thread m.running n
                (configuration_of m.cells m.queues (in_body m.running calls.called slots n)) (calls.on slots alike));
            agrees = invariant.parts.0.agrees;
            counted = length-passed m.running.lefts ∙ invariant.parts.0.counted;
            respects = invariant.parts.0.respects;
            opened = invariant.parts.0.opened;
            kinds = invariant.parts.0.kinds;
            once = invariant.parts.0.once;
            calls = invariant.parts.0.calls;
            own = frame_long m.running ∙ own;
          },
          invariant.parts.1,
        );
        represented = invariant.represented;
        basepri = invariant.basepri;
        primask = invariant.primask;
        memory = invariant.memory;
        once = invariant.once;
        numbers = invariant.numbers;
        alarmed = invariant.alarmed;
      }

      pub room_for_body : has_room img (core_of app.bits m) calls.called.frame ≡ true
      room_for_body =
          let deep = depth_within app img thread fpu many (record m { running = Called })
          (invariant_called begun (refl, refl)) in
          let after = used_is app img thread (record m { running = Called }) (invariant_called begun (refl, refl)) in
          let before = used_is app img thread m invariant in
          let alone : length (words_of m.running.caller) ≡ 0 = ap (λ c. length (words_of c)) calls.may_call.0 in
          room_of (stack_in_use img (core_of app.bits m)) calls.called.frame img.stack_bytes
          (omega (arith, deep, after, before, alone, frame_long m.running, long_body, sized))

      pub not_alone : is_empty (core_of app.bits m).below ≡ false
      not_alone = by m.below invariant.stack
        where
          by : (ps : List Part) → IsStacked app img thread m.running ps
              → is_empty (core_of app.bits (record m { below = ps })).below ≡ false
          by [] is = absurd (no_handler m.running is callable.handler)
          by (q ∷ ps) is = refl

      pub calls_body : (is_empty (core_of app.bits m).below ≡ false
          → has_room img (core_of app.bits m) calls.called.frame ≡ true
          → step img (core_of app.bits m) ≡ (core_after_call (core_of app.bits m) calls.called from, None))
          → StepsBoth app img thread (core_of app.bits m) (state_of m) (whereabouts_of m)
      calls_body gives = record {
        core = core_after_call (core_of app.bits m) calls.called from;
        shown = None;
        is = gives not_alone room_for_body;
        may = may_turn app img thread m invariant works none left;
        agrees = record {
          coupling = record m { running = in_body m.running calls.called begun n };
          core = refl;
          state = refl;
          invariant = invariant_called begun (refl, refl);
          places = refl;
        };
      }

    module _ (t : ℕ) (back : ComesBack (storage app) img.code m.running.rows thread (who m.running) t
        (spend_step (configuration_of m.cells m.queues m.running))
        (λ t. Stands (storage app) img.code m.running.rows thread (who m.running) n t)) where
      -- whatever the slot of the return address holds
      module _ (slots : List ℕ) (alike : IsAlikeUpTo (last_slot back.frame) back.frame slots) where
        abbrev rest : Doing Values
        rest = (back.acts slots alike).follows 0 m.values

        abbrev Back : Part
        Back = out_of_body m.running back.frame slots n ((back.acts slots alike).follows 0 m.values)

        abbrev coupling_back : Coupling
        coupling_back = record m {
          running = out_of_body m.running back.frame slots n ((back.acts slots alike).follows 0 m.values);
          values = reached_values ((back.acts slots alike).follows 0 m.values) m.values;
        }

        changes_own : ChangesOwn app (who m.running) (handles m.running.role) (sections_of m.running.held) m.values
            rest
            × RespectsOwnership app (who m.running) (handles m.running.role) (sections_of m.running.held) rest
        changes_own = (respects_next app img thread m invariant works (Ends (body.Task t))
            (back.acts slots alike).values (back.acts slots alike).follows (back.acts slots alike).is).1 0 m.values tt

        invariant_back : CouplingInvariant app img thread coupling_back
        invariant_back = record {
          stack = stack_back m.running m.below back.frame slots n rest back.caller alike.0 back.closed
              invariant.stack;
          parts = (
            record {
              stands = stands_by app img thread m.running.role works m.cells m.queues Back
                  (stands_passed app img thread m.running n (configuration_of m.cells m.queues Back)
                  ((back.acts slots alike).on m.values (agreed app img thread m invariant works (Ends (body.Task t))
                  (back.acts slots alike).values (back.acts slots alike).follows (back.acts slots alike).is)));
              agrees = agrees_reached app img thread (who m.running) m.running.held rest m.values;
              counted = length-passed m.running.lefts ∙ invariant.parts.0.counted;
              respects = changes_own.1;
              opened = invariant.parts.0.opened;
              kinds = invariant.parts.0.kinds;
              once = invariant.parts.0.once;
              calls = invariant.parts.0.calls;
              own = alike.0
                  ∙ subst (λ (c : Option (List ℕ)). length (own_slots c m.running.slots) ≡ m.running.own)
                  back.caller invariant.parts.0.own;
            },
            others_kept app img thread m.running m.running m.cells m.cells m.queues m.queues m.values
                (reached_values rest m.values) m.below
                (apart_of app img thread m.running m.below invariant.stack)
                (apart_of app img thread m.running m.below invariant.stack)
                (all_clear app img thread m.queues m.running m.below invariant.once) refl (λ cell. inl refl)
                (λ h away. refl)
                (λ h away. changes_own.0 h (owns_alike app (who m.running) (handles m.running.role) m.running.held h
                ∙ away))
                invariant.parts.1,
          );
          represented = λ h held away.
              subst (λ content. (storage app).Represents h (slice_index m.cells) (m.queues h) content)
              (sym (changes_own.0 h (owns_alike app (who m.running) (handles m.running.role) m.running.held h
              ∙ away.0)))
              (invariant.represented h held away);
          basepri = invariant.basepri;
          primask = invariant.primask;
          memory = invariant.memory;
          once = invariant.once;
          numbers = invariant.numbers;
          alarmed = invariant.alarmed;
        }

        pub agrees_back : Agrees app img thread (core_of app.bits coupling_back)
            (after app (state_of m) (Stepped (Some (what.End (body.Task t)))))
            (IsMoved (Stepped (Some (what.End (body.Task t)))) (whereabouts_of m))
        agrees_back = record {
          coupling = coupling_back;
          core = refl;
          state = acts_as app img thread m invariant works (Ends (body.Task t)) (back.acts slots alike).values
              (back.acts slots alike).follows (back.acts slots alike).is;
          invariant = invariant_back;
          places = refl;
        }

      pub comes_back : step img (core_of app.bits m) ≡
          (in_frame (core_of app.bits m) back.frame, Some (what.End (body.Task t)))
          → StepsBoth app img thread (core_of app.bits m) (state_of m) (whereabouts_of m)
      comes_back is = record {
        core = in_frame (core_of app.bits m) back.frame;
        shown = Some (what.End (body.Task t));
        is = is;
        may = (
          may_turn app img thread m invariant works none left,
          gives_item app img thread m invariant works (Ends (body.Task t))
              (back.acts back.frame (refl, refl)).values (back.acts back.frame (refl, refl)).follows
              (back.acts back.frame (refl, refl)).is,
        );
        agrees = agrees_back back.frame (refl, refl);
      }
