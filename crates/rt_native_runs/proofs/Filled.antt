-- At a moment the core is coupled, whatever words the frames hold that no code has written yet.
use Rattle.std.proofs.Common.{◌≡◌, ℕ, suc, ◌+◌, ◌%◌, true}
use Rattle.std.proofs.Common.{false, List, [], ◌∷◌, length, map, drop, slice_get}
use Rattle.std.proofs.Common.{Option, Some, None, option_map, unwrap_or}
use Rattle.std.proofs.Common.{min, refl, sym, ap, subst, ◌∙◌, arith}
use Rattle.std.proofs.lemmas.Bool.{false≢true}
use Rattle.std.proofs.lemmas.List.{length-replicate}
use Rattle.std.proofs.lemmas.Option.{same_Some}
use Rattle.rt_lemmas.proofs.Membership.{all_at}
use Rattle.rt_ids.specs.Event.{Arrive, Tick, Step}
use Rattle.rt_app.specs.Accepted.{IsAccepted}
use Rattle.rt_app.specs.Tree.{App}
use Rattle.rt_build.specs.Image.{IsImageOf}
use Rattle.rt_code.specs.Effect.{effect}
use Rattle.rt_code.specs.Image.{Image}
use Rattle.rt_code.specs.Processor.{Effect, Traps, Leads}
use Rattle.rt_code.specs.Stack.{IsAlikeUpTo, last_slot}
use Rattle.rt_code.specs.declared.image.BodyRow.{BodyRow}
use Rattle.rt_code.specs.declared.image.IrqRow.{IrqRow}
use Rattle.rt_code.specs.declared.instr.Instr.{Instr}
use Rattle.rt_code.specs.declared.instr.Instr.TheVariants as instr
use Rattle.rt_code.specs.declared.instr.Note.{Note}
use Rattle.rt_code.proofs.Asking.{done_leads}
use Rattle.rt_core.specs.Core.{Core, Context, depth, reset}
use Rattle.rt_core.specs.Leading.{in_context, in_frame}
use Rattle.rt_core.specs.Priority.{pick}
use Rattle.rt_core.specs.Stepping.{step}
use Rattle.rt_core.specs.Trace.{happen}
use Rattle.rt_core.specs.Transfer.{core_after_call, core_after_entry}
use Rattle.rt_core.proofs.Happening.{happens_by_event, steps_by_cause}
use Rattle.rt_trace.specs.Label.{Label, Arrived, Ticked, Stepped}
use Rattle.rt_trace.specs.declared.item.What.{What}
use Rattle.rt_trace.specs.declared.item.What.TheVariants as what
use Rattle.rt_laws.specs.Allowed.{after}
use Rattle.rt_laws.specs.ByItems.{after_all}
use Rattle.rt_laws.specs.Run.{RunsOn}
use Rattle.rt_laws.specs.Services.{is_declared}
use Rattle.rt_laws.specs.State.{State, first}
use Rattle.rt_native.specs.Frames.{body_words}
use Rattle.rt_native.specs.declared.target.Input.{Input}
use Rattle.rt_native_laws.specs.Moments.{AreFillings, Began, CameBack, Comes, HasBegun, HasRead, Last, Moment}
use Rattle.rt_native_laws.specs.Moments.{Taking, WasCalled, Went, after_instruction, after_return, after_step}
use Rattle.rt_native_laws.specs.Moments.{arguments_of, at_reset, instruction_at, moment_after}
use Rattle.rt_native_laws.specs.Moments.{settled_words, shown, with_core, with_frame}
use Rattle.rt_sim.proofs.Armed.{arming_in}
use Rattle.rt_sim.proofs.Fitting.{Fits}
use Rattle.rt_native_runs.specs.Lying.{CallsFrom, IsPlacedWell, LiesWell}
use Rattle.rt_native_runs.proofs.Beside.{AsksNoReturn, pick_beside, simple_stays, step_beside, with_below}
use Rattle.rt_native_runs.proofs.Coupled.{Coupled, coupled_arrive, coupled_tick}
use Rattle.rt_native_runs.proofs.Frames.{coupled_back, coupled_call, coupled_entry, coupled_reset}
use Rattle.rt_native_runs.proofs.Parts.{AreInParts, GoesTo, LieInParts, goes_to, parts_back}
use Rattle.rt_native_runs.proofs.Parts.{parts_call, parts_entry, parts_fill, parts_go}
use Rattle.rt_native_runs.proofs.Sorts.{IsOther, ItCalls, ItComesBack, ItIsOther, ItReturns, KindOf, asks_simply}
use Rattle.rt_native_runs.proofs.Sorts.{goes_plainly, kind_of}
use Rattle.rt_native_runs.proofs.Steps.{Returned, coupled_plain, coupled_return, goes_on, runs}
use Rattle.rt_native_runs.proofs.Words.{alike_all, alike_further, alike_itself, take_alike}
use Rattle.rt_native_runs.proofs.Refilled.{refill, refilled, AreFills, bases_of_takings, own_fills, refill_own}
use Rattle.rt_native_runs.proofs.Refilled.{alike_refilled, TickIs, tick_is}

-- of the frame of a handler that was just taken no word is settled
none_settled : (irq : ℕ) (below : List Context) (last : Last) (words : ℕ) → HasBegun irq below last
    → settled_words last words ≡ 0
none_settled irq [] last words begun = absurd begun
none_settled irq (x ∷ below) Began words begun = refl
none_settled irq (x ∷ below) (HasRead input word) words begun = refl
none_settled irq (x ∷ below) last words begun = absurd begun

module _ (app : App) (img : Image) (accepted : IsAccepted app) (is_image : IsImageOf app img) (lies : LiesWell img)
  where
    -- At a moment the core is coupled with one state of Baker's machine, whatever words the frames hold that no code
    -- has written yet.
    pub record Well (b : State) (n : ℕ) (s : Moment) : Type 0 where
      pub each : (words : List ℕ) (others : List (List ℕ))
          → IsAlikeUpTo (settled_words s.last (length s.core.processor.slots)) s.core.processor.slots words
          → AreFills s.takings s.core.below others
          → Coupled app img accepted is_image b n (bases_of_takings s.takings) (refilled words others s.core)
      pub paired : length s.takings ≡ length s.core.below
      pub parts : LieInParts img s.core

    -- with the words that there are
    pub actual : (b : State) (n : ℕ) (s : Moment) → Well b n s
        → Coupled app img accepted is_image b n (bases_of_takings s.takings) s.core
    actual b n s well =
        subst (λ bs. Coupled app img accepted is_image b n (bases_of_takings s.takings) (record s.core { below = bs }))
        (refill_own s.core.below)
        (well.each s.core.processor.slots (map (λ x. x.slots) s.core.below)
        (alike_itself (settled_words s.last (length s.core.processor.slots)) s.core.processor.slots)
        (own_fills s.takings s.core.below well.paired))

    -- after reset
    pub well_reset : Well (first app) 0 (at_reset img)
    well_reset = record {
      each = λ words others alike fills. begins others fills words
          (alike.0 ∙ length-replicate img.thread_words 0);
      paired = refl;
      parts = record {
        running = ((ap (λ n. n % 2) (length-replicate img.thread_words 0) ∙ lies.even.thread, refl), tt);
        others = tt;
      };
    }
      where
        begins : (others : List (List ℕ)) → AreFills [] [] others → (words : List ℕ)
            → length words ≡ img.thread_words
            → Coupled app img accepted is_image (first app) 0 [] (refilled words others (reset img))
        begins [] fills words long = coupled_reset app img accepted is_image words long
        begins (w ∷ others) fills words long = absurd fills

    -- the frame gets other words
    pub well_fills : (b : State) (n : ℕ) (s : Moment) (words : List ℕ) → AreFillings s words → Well b n s
        → Well b n (with_core s (with_frame words s.core))
    well_fills b n s words filling well =
        let slots : List ℕ = s.core.processor.slots in
        let same : IsAlikeUpTo (settled_words s.last (length slots)) slots words =
        (filling.long, take_alike (settled_words s.last (length slots)) slots words filling.long filling.settled) in
        record {
          each = λ more others alike fills.
              well.each more others
              (alike_further (settled_words s.last (length slots)) slots words more same
              (subst (λ k. IsAlikeUpTo (settled_words s.last k) words more) filling.long alike)) fills;
          paired = well.paired;
          parts = parts_fill img s.core words filling.long well.parts;
        }

    -- a device's register is read
    pub well_loads : (b : State) (n : ℕ) (s : Moment) (irq : ℕ) (input : Input) (word : ℕ)
        → HasBegun irq s.core.below s.last → Well b n s → Well b n (record s { last = HasRead input word })
    well_loads b n s irq input word begun well = record {
      each = λ words others alike fills.
          well.each words others
          (subst (λ k. IsAlikeUpTo k s.core.processor.slots words)
          (sym (none_settled irq s.core.below s.last (length s.core.processor.slots) begun)) alike) fills;
      paired = well.paired;
      parts = well.parts;
    }

    -- a request comes
    pub well_arrives : (b : State) (n : ℕ) (s : Moment) (irq : ℕ) → is_declared app irq ≡ true → Well b n s
        → Well (after app b (Arrived irq)) n (moment_after img s (Comes (Arrive irq)))
    well_arrives b n s irq declared well =
        subst (λ (r : Core × List Label). Well (after app b (Arrived irq)) n (with_core s r.0))
        (sym (happens_by_event.arrive img s.core irq))
        (record {
          each = λ words others alike fills.
              coupled_arrive app img accepted is_image b n (bases_of_takings s.takings)
              (refilled words others s.core) irq declared (well.each words others alike fills);
          paired = well.paired;
          parts = record { running = well.parts.running; others = well.parts.others };
        })

    -- a tick does
    pub well_ticks : (b : State) (n : ℕ) (s : Moment) → Well b n s
        → Well (after_all app b (happen img s.core Tick).1) (suc n) (moment_after img s (Comes Tick))
    well_ticks b n s well =
        let t : TickIs s.core = tick_is s.core in
        let shown : (happen img s.core Tick).1 ≡ Ticked ∷ t.shown =
        ap (λ (r : Core × List Label). r.1) (happens_by_event.tick img s.core)
        ∙ ap (λ (r : Core × List Label). Ticked ∷ r.1) t.is in
        subst (λ ls. Well (after_all app b ls) (suc n) (moment_after img s (Comes Tick))) (sym shown)
        (subst (λ (d : Core). Well (after_all app b (Ticked ∷ t.shown)) (suc n) (with_core s d))
        (sym (ap (λ (r : Core × List Label). r.0) (happens_by_event.tick img s.core)
        ∙ ap (λ (r : Core × List Label). r.0) t.is))
        (record {
          each = λ words others alike fills.
              subst (λ (r : Core × List Label). Coupled app img accepted is_image (after_all app b (Ticked ∷ r.1))
              (suc n) (bases_of_takings s.takings) r.0)
              (t.beside words others)
              (coupled_tick app img accepted is_image b n (bases_of_takings s.takings) (refilled words others s.core)
              (well.each words others alike fills)).behind;
          paired = well.paired;
          parts = record { running = well.parts.running; others = well.parts.others };
        }))

    -- and Baker's machine may do what is shown of it
    pub tick_runs : (b : State) (n : ℕ) (s : Moment) → Well b n s → RunsOn app b (happen img s.core Tick).1
    tick_runs b n s well =
        subst (RunsOn app b) (sym (ap (λ (r : Core × List Label). r.1) (happens_by_event.tick img s.core)))
        (coupled_tick app img accepted is_image b n (bases_of_takings s.takings) s.core (actual b n s well)).runs

    module _ (b : State) (n : ℕ) (s : Moment) (well : Well b n s) (fit : Fits app n) where
      here : Coupled app img accepted is_image b n (bases_of_takings s.takings) s.core
      here = actual b n s well

      -- coupled behind a step that shows this
      abbrev Behind : Option What → List ℕ → Core → Type 0
      Behind shown bases d =
          Coupled app img accepted is_image (after app b (Stepped shown)) (n + arming_in shown) bases d

      abbrev WellBehind : Moment → Type 0
      WellBehind t = Well (after app b (Stepped (step img s.core).1)) (n + arming_in (step img s.core).1) t

      -- how deep the stack is at a take is nothing to it
      at_depth : (irq p q : ℕ) (bases : List ℕ) (d : Core) → Behind (Some (what.Take irq p)) bases d
          → Behind (Some (what.Take irq q)) bases d
      at_depth irq p q bases d x = x

      running : s.core.stopped ≡ false
      running = runs app img accepted is_image b n (bases_of_takings s.takings) s.core here fit

      -- an interrupt is taken
      well_taken : (row : IrqRow) → pick img s.core ≡ Some row
          → WellBehind (after_step img s (step img s.core).0 (Some row))
      well_taken row picked =
          let took = coupled_entry app img accepted is_image b n
          (bases_of_takings s.takings) s.core here fit row picked in
          let h = took.handler in
          subst (λ d. WellBehind (after_step img s d (Some row))) (sym took.is)
          (record {
            each = λ words others alike fills. by words others alike fills;
            paired = ap suc well.paired;
            parts = parts_entry img lies s.core row took.handler picked took.enabled well.parts;
          })
        where
          by : (words : List ℕ) (others : List (List ℕ))
              → IsAlikeUpTo 0 (core_after_entry s.core row.number (coupled_entry app img accepted is_image b n
              (bases_of_takings s.takings) s.core here fit row picked).handler).processor.slots words
              → AreFills (record { base_priority = s.core.processor.basepri; last = s.last } ∷ s.takings)
              (core_after_entry s.core row.number (coupled_entry app img accepted is_image b n
              (bases_of_takings s.takings) s.core here fit row picked).handler).below others
              → Behind (step img s.core).1
              (s.core.processor.basepri ∷ bases_of_takings s.takings)
              (refilled words others (core_after_entry s.core row.number (coupled_entry app img accepted is_image b n
              (bases_of_takings s.takings) s.core here fit row picked).handler))
          by words [] alike fills = absurd fills
          by words (own ∷ others) alike fills =
              let took = coupled_entry app img accepted is_image b n (bases_of_takings s.takings) s.core here fit row
              picked in
              let d : Core = refilled own others s.core in
              let x = well.each own others fills.0 fills.1 in
              let chosen : pick img d ≡ Some row =
              pick_beside img (refill others s.core.below) (with_frame own s.core)
              (alike_refilled img s.takings s.core.below others fills.1) ∙ picked in
              let other = coupled_entry app img accepted is_image b n (bases_of_takings s.takings) d x fit row chosen in
              let one : other.handler ≡ took.handler =
              same_Some other.handler took.handler (sym other.enabled ∙ took.enabled) in
              let long : length words ≡ other.handler.frame =
              alike.0 ∙ length-replicate took.handler.frame 0 ∙ ap (λ h. h.frame) (sym one) in
              let bases : List ℕ = s.core.processor.basepri ∷ bases_of_takings s.takings in
              let core : Core =
              refilled words (own ∷ others) (core_after_entry s.core row.number took.handler) in
              let behind : Behind (step img d).1 bases core =
              subst (λ h. Behind (step img d).1 bases
              (refilled words (own ∷ others) (core_after_entry s.core row.number h))) one
              (other.behind words long) in
              subst (λ o. Behind o bases core) (sym took.shown)
              (at_depth row.number (depth img (core_after_entry d row.number other.handler))
              (depth img (core_after_entry s.core row.number took.handler)) bases core
              (subst (λ o. Behind o bases core) other.shown behind))

      -- one that is not, where an instruction is next
      module _ (picked : pick img s.core ≡ None) (i : Instr) (told : Option Note)
          (at : slice_get img.code s.core.processor.address ≡ Some (i, told)) where
        at_instruction : instruction_at img s.core ≡ Some i
        at_instruction = ap (λ o. option_map (λ (line : Instr × Option Note). line.0) o) at

        -- the core with words in the frames of what it interrupted
        module _ (others : List (List ℕ)) (fills : AreFills s.takings s.core.below others) where
          x_beside : Coupled app img accepted is_image b n (bases_of_takings s.takings)
              (with_below img (refill others s.core.below) s.core)
          x_beside = well.each s.core.processor.slots others
              (alike_itself (settled_words s.last (length s.core.processor.slots)) s.core.processor.slots) fills

          chosen : pick img (with_below img (refill others s.core.below) s.core) ≡ None
          chosen = pick_beside img (refill others s.core.below) s.core
              (alike_refilled img s.takings s.core.below others fills) ∙ picked

        -- an instruction that asks for no frame
        well_goes : IsOther i
            → WellBehind (record s { core = (step img s.core).0; last = Went })
        well_goes other =
            let goes : GoesTo s.core (step img s.core).0 i =
            goes_to img s.core i told running picked at other
            (goes_on app img accepted is_image b n (bases_of_takings s.takings) s.core here fit) in
            record {
              each = λ words others alike fills.
                  let kept : AreFills s.takings s.core.below others =
                  subst (λ bs. AreFills s.takings bs others) goes.below fills in
                  let same : words ≡ (step img s.core).0.processor.slots =
                  alike_all (step img s.core).0.processor.slots words alike in
                  let moved = step_beside img (refill others s.core.below) s.core
                  (alike_refilled img s.takings s.core.below others kept) running picked (i, told) at
                  (stays other) in
                  let behind = coupled_plain app img accepted is_image b n (bases_of_takings s.takings)
                  (with_below img (refill others s.core.below) s.core) (x_beside others kept) fit i told
                  (chosen others kept) at
                  other in
                  subst (λ ws. Behind (step img s.core).1
                  (bases_of_takings s.takings) (refilled ws others (step img s.core).0)) (sym same)
                  (subst (λ bs. Behind (step img s.core).1
                  (bases_of_takings s.takings)
                  (record (step img s.core).0 { below = refill others bs })) (sym goes.below)
                  (subst (λ (r : Core × Option What). Behind r.1 (bases_of_takings s.takings) r.0) moved behind));
              paired = well.paired ∙ sym (ap length goes.below);
              parts = parts_go img lies s.core (step img s.core).0 i told at goes well.parts;
            }
          where
            stays : IsOther i → AsksNoReturn (effect i s.core.time s.core.processor)
            stays other = asks (effect i s.core.time s.core.processor) refl
              where
                asks : (e : Effect) → effect i s.core.time s.core.processor ≡ e
                    → AsksNoReturn e
                asks (Traps t) is = tt
                asks (Leads p asked) is =
                    simple_stays asked (asks_simply i other s.core.time
                    s.core.processor p asked
                    (done_leads i s.core.time s.core.processor p asked is))

        -- a call
        well_calls : (row from : ℕ) → i ≡ instr.Call row from
            → WellBehind (after_instruction img s (step img s.core).0 (Some i))
        well_calls row from is =
            let line : slice_get img.code s.core.processor.address ≡ Some (instr.Call row from, told) =
            at ∙ ap (λ j. Some (j, told)) is in
            let called = coupled_call app img accepted is_image b n
            (bases_of_takings s.takings) s.core here fit row from
            told picked line in
            let placed : CallsFrom img s.core.processor.address row from =
            subst (λ j. IsPlacedWell img s.core.processor.address j) is
            (lies.placed s.core.processor.address i told at) in
            let arguments : arguments_of img row ≡ called.body.args =
            ap (λ o. unwrap_or (option_map (λ (b : BodyRow). b.args) o) 0) called.there in
            let settled : min (arguments_of img row) (length (core_after_call s.core called.body from).processor.slots)
            ≡ called.body.args =
            let long = called.long in let few = called.few in omega (arith, arguments, long, few) in
            let even = all_at (λ (b : BodyRow). b.frame % 2 ≡ 0) img.bodies row called.body lies.even.bodies
            called.there in
            let frames = all_at (λ (b : BodyRow). body_words img.bodies b.entry ≡ b.frame) img.bodies row called.body
            lies.bodies called.there in
            subst (λ j. WellBehind (after_instruction img s (step img s.core).0 (Some j)))
            (sym is)
            (subst (λ d. WellBehind (record s {
              core = d;
              last = WasCalled (arguments_of img row);
            })) (sym (ap (λ (r : Core × Option What). r.0) called.is))
            (record {
              each = λ words others alike fills.
                  let line_there : slice_get img.code
                  (with_below img (refill others s.core.below) s.core).processor.address
                  ≡ Some (instr.Call row from, told) = line in
                  let other = coupled_call app img accepted is_image b n (bases_of_takings s.takings)
                  (with_below img (refill others s.core.below) s.core) (x_beside others fills) fit row from told
                  (chosen others fills) line_there in
                  let one : other.body ≡ called.body =
                  same_Some other.body called.body (sym other.there ∙ called.there) in
                  let quiet : (step img (with_below img (refill others s.core.below) s.core)).1
                  ≡ (step img s.core).1 =
                  ap (λ (r : Core × Option What). r.1) other.is
                  ∙ sym (ap (λ (r : Core × Option What). r.1) called.is) in
                  subst (λ o. Behind o (bases_of_takings s.takings)
                  (refilled words others (core_after_call s.core called.body from))) quiet
                  (subst (λ (r : BodyRow). IsAlikeUpTo r.args (core_after_call s.core r from).processor.slots words
                  → Behind (step img (with_below img (refill others s.core.below) s.core)).1
                  (bases_of_takings s.takings) (refilled words others (core_after_call s.core r from))) one
                  (other.behind words)
                  (subst (λ k. IsAlikeUpTo k (core_after_call s.core called.body from).processor.slots words) settled
                  alike));
              paired = well.paired;
              parts = parts_call img lies s.core row called.body from called.first called.others called.below
                  called.caller called.there frames even called.long placed.behind placed.frame well.parts;
            }))

        -- the way back
        well_backs : i ≡ instr.Back
            → WellBehind (after_instruction img s (step img s.core).0 (Some i))
        well_backs is =
            let line : slice_get img.code s.core.processor.address ≡ Some (instr.Back, told) =
            at ∙ ap (λ j. Some (j, told)) is in
            let back = coupled_back app img accepted is_image b n
            (bases_of_takings s.takings) s.core here fit told picked
            line in
            subst (λ j. WellBehind (after_instruction img s (step img s.core).0 (Some j)))
            (sym is)
            (subst (λ d. WellBehind (record s { core = d; last = CameBack })) (sym back.is)
            (record {
              each = λ words others alike fills.
                  let other = coupled_back app img accepted is_image b n (bases_of_takings s.takings)
                  (with_below img (refill others s.core.below) s.core) (x_beside others fills) fit told
                  (chosen others fills)
                  line in
                  let one : other.frame ≡ back.frame =
                  same_Some other.frame back.frame (sym other.caller ∙ back.caller) in
                  let quiet : (step img (with_below img (refill others s.core.below) s.core)).1
                  ≡ (step img s.core).1 =
                  ap (λ (r : Core × Option What). r.1)
                  (step_beside img (refill others s.core.below) s.core
                  (alike_refilled img s.takings s.core.below others fills) running picked (i, told) at
                  (subst (λ j. AsksNoReturn (effect j s.core.time s.core.processor)) (sym is) tt)) in
                  subst (λ o. Behind o (bases_of_takings s.takings)
                  (refilled words others (in_frame s.core back.frame))) quiet
                  (subst (λ f. IsAlikeUpTo (last_slot f) f words
                  → Behind (step img (with_below img (refill others s.core.below) s.core)).1
                  (bases_of_takings s.takings) (refilled words others (in_frame s.core f))) one
                  (other.behind words) alike);
              paired = well.paired;
              parts = parts_back img s.core back.frame back.caller well.parts;
            }))

        -- a return
        well_returns : i ≡ instr.Ret
            → WellBehind (after_instruction img s (step img s.core).0 (Some i))
        well_returns is =
            let line : slice_get img.code s.core.processor.address ≡ Some (instr.Ret, told) =
            at ∙ ap (λ j. Some (j, told)) is in
            let back = coupled_return app img accepted is_image b n
            (bases_of_takings s.takings) s.core here fit told picked
            line in
            subst (λ j. WellBehind (after_instruction img s (step img s.core).0 (Some j)))
            (sym is)
            (subst (λ d. WellBehind (after_return d s.takings))
            (sym (ap (λ (r : Core × Option What). r.0) back.is)) (by s.takings refl back line))
          where
            by : (takings : List Taking) → s.takings ≡ takings
                → (back : Returned app img accepted is_image b n (bases_of_takings s.takings) s.core here fit)
                → slice_get img.code s.core.processor.address ≡ Some (instr.Ret, told)
                → WellBehind
                (after_return (in_context s.core back.first back.others) s.takings)
            by [] none back line =
                absurd (let few = ap length none in let some = ap length back.below in
                omega (arith, few, some, well.paired))
            by (t ∷ takings) some back line =
                subst (λ ts. WellBehind
                (after_return (in_context s.core back.first back.others) ts)) (sym some)
                (record {
                  each = λ words others alike fills.
                      let all : AreFills s.takings s.core.below (words ∷ others) =
                      subst (λ ts. AreFills ts s.core.below (words ∷ others)) (sym some)
                      (subst (λ bs. AreFills (t ∷ takings) bs (words ∷ others)) (sym back.below) (alike, fills)) in
                      let d : Core = with_below img (refill (words ∷ others) s.core.below) s.core in
                      let other = coupled_return app img accepted is_image b n (bases_of_takings s.takings) d
                      (x_beside (words ∷ others) all) fit told (chosen (words ∷ others) all) line in
                      let refilled_is : d.below ≡ record back.first { slots = words } ∷ refill others back.others =
                      ap (refill (words ∷ others)) back.below in
                      let same : other.first ∷ other.others
                      ≡ record back.first { slots = words } ∷ refill others back.others =
                      sym other.below ∙ refilled_is in
                      let first : other.first ≡ record back.first { slots = words } = cc (same) in
                      let rest : other.others ≡ refill others back.others = cc (same) in
                      let core : (step img d).0 ≡ refilled words others (in_context s.core back.first back.others) =
                      ap (λ (r : Core × Option What). r.0) other.is
                      ∙ ap (λ y. in_context d y other.others) first
                      ∙ ap (λ bs. in_context d (record back.first { slots = words }) bs) rest in
                      let quiet : (step img d).1 ≡ (step img s.core).1 =
                      ap (λ (r : Core × Option What). r.1) other.is
                      ∙ ap (λ (y : Context). Some (what.Ret y.irq)) first
                      ∙ sym (ap (λ (r : Core × Option What). r.1) back.is) in
                      let fewer : drop 1 (bases_of_takings s.takings) ≡ bases_of_takings takings =
                      ap (λ ts. drop 1 (bases_of_takings ts)) some in
                      subst (λ o. Behind o (bases_of_takings takings)
                      (refilled words others (in_context s.core back.first back.others))) quiet
                      (subst (λ bs. Behind (step img d).1 bs
                      (refilled words others (in_context s.core back.first back.others))) fewer
                      (subst (λ e. Behind (step img d).1 (drop 1 (bases_of_takings s.takings)) e) core
                      other.behind));
                  paired = let now = ap length some in let deep = ap length back.below in
                      omega (arith, now, deep, well.paired);
                  parts = let others : AreInParts img (back.first ∷ back.others) =
                      subst (λ bs. AreInParts img bs) back.below well.parts.others in
                      record { running = others.0; others = others.1 };
                })

        well_instruction : WellBehind
            (after_instruction img s (step img s.core).0 (instruction_at img s.core))
        well_instruction =
            subst (λ o. WellBehind (after_instruction img s (step img s.core).0 o))
            (sym at_instruction) (by (kind_of i))
          where
            by : KindOf i
                → WellBehind (after_instruction img s (step img s.core).0 (Some i))
            by (ItCalls row from is) = well_calls row from is
            by (ItComesBack is) = well_backs is
            by (ItReturns is) = well_returns is
            by (ItIsOther other) =
                subst (λ t. WellBehind t)
                (sym (goes_plainly img s (step img s.core).0 i other)) (well_goes other)

      -- a step
      pub well_steps : WellBehind (moment_after img s (Comes Step))
      well_steps = by (pick img s.core) refl
        where
          line_of : (o : Option (Instr × Option Note)) → slice_get img.code s.core.processor.address ≡ o
              → pick img s.core ≡ None
              → WellBehind (after_step img s (step img s.core).0 None)
          line_of None at picked =
              absurd (false≢true
              (sym (goes_on app img accepted is_image b n (bases_of_takings s.takings) s.core here fit)
              ∙ ap (λ (r : Core × Option What). r.0.stopped) (steps_by_cause.none img s.core running picked at)))
          line_of (Some line) at picked = well_instruction picked line.0 line.1 at

          by : (o : Option IrqRow) → pick img s.core ≡ o
              → WellBehind (after_step img s (step img s.core).0 (pick img s.core))
          by (Some row) picked =
              subst (λ o. WellBehind (after_step img s (step img s.core).0 o)) (sym picked)
              (well_taken row picked)
          by None picked =
              subst (λ o. WellBehind (after_step img s (step img s.core).0 o)) (sym picked)
              (line_of (slice_get img.code s.core.processor.address) refl picked)
