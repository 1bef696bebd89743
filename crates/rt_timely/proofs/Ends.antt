-- The frames on the core where an interrupt is taken, where `init` ends, and where a handler returns.
use Rattle.std.proofs.Common.{◌≡◌, ℕ, suc, ◌==◌, ◌⊎◌, inl, inr, nat_le, Bool, true, false, if◌then◌else◌, List}
use Rattle.std.proofs.Common.{[], ◌∷◌, Option, Some, None, refl, sym, ap, subst, ⊎_elim, ◌∙◌}
use Rattle.rt_ids.specs.Lists.{then_from}
use Rattle.rt_ids.specs.declared.ids.BodyId.TheVariants as body
use Rattle.rt_ids.specs.declared.ids.Section.{Section}
use Rattle.rt_code.specs.Effect.{slot, next, unchecked_effect}
use Rattle.rt_code.specs.Image.{Image}
use Rattle.rt_code.specs.Processor.{Traps, Leads as LeadsTo}
use Rattle.rt_code.specs.Stack.{interrupted_context}
use Rattle.rt_code.specs.declared.image.Handler.{Handler}
use Rattle.rt_code.specs.declared.instr.Instr.{Instr}
use Rattle.rt_code.specs.declared.instr.Instr.TheVariants as instr
use Rattle.rt_code.specs.declared.instr.Note.{Note}
use Rattle.rt_code.specs.declared.instr.Note.TheVariants as note
use Rattle.rt_code.specs.declared.processor.Request.TheVariants as request
use Rattle.rt_code.specs.declared.processor.Trap.TheVariants as trap
use Rattle.rt_trace.specs.declared.item.What.{What}
use Rattle.rt_trace.specs.declared.item.What.TheVariants as what
use Rattle.rt_core.specs.Core.{Context, Core, depth}
use Rattle.rt_core.specs.Leading.{in_context}
use Rattle.rt_core.specs.Outcome.{Trapped, Done, settle}
use Rattle.rt_core.specs.Priority.{pick}
use Rattle.rt_core.specs.Stepping.{go_on, step, with_note}
use Rattle.rt_core.specs.Transfer.{core_after_entry, exception_entry, outcome_of_return}
use Rattle.rt_core.proofs.Happening.{steps_by_cause}
use Rattle.rt_points.specs.Checked.{IsChecked}
use Rattle.rt_points.specs.Leading.{LeadsTo as LeadsToPoint, handler_at, owner_after}
use Rattle.rt_points.specs.Point.{Point}
use Rattle.rt_points.specs.Rules.{closing_instr}
use Rattle.rt_points.specs.declared.point.Owner.TheVariants.{Starting, Handling}
use Rattle.rt_points.specs.declared.point.SectionKind.{SectionKind}
use Rattle.rt_points.specs.declared.point.SectionKind.TheVariants.{Mark, Raise, Mask}
use Rattle.rt_points.specs.declared.rule.Rule.TheVariants as rule
use Rattle.rt_safe.specs.Inside.Lines.{opening_instr, ActsOnSections, Simply, Anew, Opens, Closes, EndsInit, Returns}
use Rattle.rt_safe.specs.Inside.Moved.{IsSilent, IsTaken, IsServing, IsBack}
use Rattle.rt_safe.specs.Inside.RunsAtPoints.{IsStacked, RunsAtPoints}
use Rattle.rt_safe.proofs.Advancing.{Advances, anew, line_steps, simply}
use Rattle.rt_safe.proofs.Apart.{alone_in_init}
use Rattle.rt_safe.proofs.Depth.{room_above}
use Rattle.rt_safe.proofs.Lines.{HasLine, line_at}
use Rattle.rt_safe.proofs.Taking.{handling_differs}
use Rattle.rt_timely.proofs.Frames.{frames_below, frames_of}

-- an item that tells that `init` ends, or that a handler returns
abbrev IsEnd : Option What → Type 0
IsEnd (Some (what.End body.Init)) = Unit {0}
IsEnd (Some (what.Ret irq)) = Unit {0}
IsEnd shown = ⊥

silent_ends : (shown : Option What) → IsSilent shown → IsEnd shown → ⊥
silent_ends None silent end = end
silent_ends (Some (what.Emit value)) silent end = end
silent_ends (Some (what.Post irq)) silent end = end
silent_ends (Some (what.Clock time)) silent end = end
silent_ends (Some (what.End body.Idle)) silent end = end
silent_ends shown silent end = absurd silent

module _ (img : Image) (c : Core) where
  -- what a line shows
  abbrev Shown : Instr × Option Note → Option What
  Shown l = (settle (go_on img c l.1 (unchecked_effect l.0 c.time c.processor))).1

  opening_ends : (x : Section) (kind : SectionKind) → IsEnd (Shown (opening_instr kind, Some (note.Enter x))) → ⊥
  opening_ends x Mark end = end
  opening_ends x (Raise s v) end = end
  opening_ends x (Mask s) end = end

  closing_ends : (x : Section) (kind : SectionKind) → IsEnd (Shown (closing_instr kind, Some (note.Leave x))) → ⊥
  closing_ends x Mark end = end
  closing_ends x (Raise s v) end = end
  closing_ends x (Mask s) end = by (nat_le (slot c.processor s) 1) end
    where
      by : (b : Bool) → IsEnd (settle (go_on img c (Some (note.Leave x)) (if b
          then LeadsTo (record (next c.processor) { primask = slot c.processor s == 1 }) request.Nothing
          else Traps trap.Stack))).1 → ⊥
      by true end = end
      by false end = end

module _ (img : Image) (checked : IsChecked img) (c : Core) (p : Point) (qs : List Point)
    (fits : RunsAtPoints img c p qs) (d : Core) (shown : Option What) (is : step img c ≡ (d, shown)) where
  line : HasLine img p
  line = line_at img checked p fits.running.point

  module _ (picked : pick img c ≡ None) where
    shown_is : Shown img c (line.instr, line.told) ≡ shown
    shown_is = ap (λ (r : Core × Option What). r.1) (sym (line_steps img checked c p qs fits line picked) ∙ is)

    -- no line that opens, closes or does neither ends a job
    advance_ends : Advances img c p.inside line.instr line.told (unchecked_effect line.instr c.time c.processor)
        → IsEnd shown → ⊥
    advance_ends one end =
        silent_ends shown
        (subst IsSilent (sym (ap (λ (r : Core × Option What). r.1) one.is) ∙ shown_is) one.silent) end

    -- what it shows, by the line
    shows_end : (l : Instr × Option Note) → (line.instr, line.told) ≡ l → IsEnd shown → IsEnd (Shown img c l)
    shows_end l same end = subst IsEnd (sym shown_is ∙ ap (Shown img c) same) end

    -- where a job ends, the line is the end of `init`, or a return
    abbrev EndsInitHere : Type 0
    EndsInitHere = (line.instr ≡ instr.Serve) × (line.told ≡ Some (note.End body.Init)) × (p.owner ≡ Starting)
        × (p.inside ≡ [])

    abbrev ReturnsHere : Type 0
    ReturnsHere = (index : ℕ) × (line.instr ≡ instr.Ret) × (line.told ≡ None) × (p.owner ≡ Handling index)

    ending : IsEnd shown → ActsOnSections p line.instr line.told → EndsInitHere ⊎ ReturnsHere
    ending end (Simply simple untold unsaved) =
        absurd (advance_ends
        (subst (λ n. Advances img c p.inside line.instr n (unchecked_effect line.instr c.time c.processor)) (sym untold)
        (simply img c p.inside line.instr simple unsaved)) end)
    ending end (Anew to same tells thread) =
        let line_same : ◌≡◌ {A = Instr × Option Note} (line.instr, line.told) (instr.Jump to, Some (note.End body.Idle))
        = λ k. (same k, tells k) in
        absurd (advance_ends
        (subst (λ (l : Instr × Option Note). Advances img c p.inside l.0 l.1 (unchecked_effect l.0 c.time c.processor))
        (sym line_same)
        (anew img c p.inside to)) end)
    ending end (Opens x kind same tells) =
        let line_same : ◌≡◌ {A = Instr × Option Note} (line.instr, line.told) (opening_instr kind, Some (note.Enter x))
        = λ k. (same k, tells k) in
        absurd (opening_ends img c x kind (shows_end (opening_instr kind, Some (note.Enter x)) line_same end))
    ending end (Closes x kind outer inside same tells) =
        let line_same : ◌≡◌ {A = Instr × Option Note} (line.instr, line.told) (closing_instr kind, Some (note.Leave x))
        = λ k. (same k, tells k) in
        absurd (closing_ends img c x kind (shows_end (closing_instr kind, Some (note.Leave x)) line_same end))
    ending end (EndsInit same tells owner inside) = inl (same, tells, owner, inside)
    ending end (Returns index same untold owner inside) = inr (index, same, untold, owner)

  module _ (q : Point) (rest : List Point) (after : RunsAtPoints img d q rest) where
    -- where an interrupt is taken its handler has a new frame
    pub taken_frames : IsTaken img c p qs shown q rest → (slots : List ℕ) × (frames_of d ≡ slots ∷ frames_of c)
    taken_frames one =
        let h : Handler = one.handler in
        let entered : Core = core_after_entry c one.row.number h in
        let at : handler_at img one.index ≡ Some h =
        ap (λ o. then_from o (λ r. r.handler)) one.at ∙ one.enabled in
        let room = room_above img (checked rule.Numbers).stack_enough c p qs fits one.index h at one.above in
        let steps : step img c ≡ (entered, Some (what.Take one.row.number (depth img entered))) =
        steps_by_cause.entry img c one.row fits.stopped one.picked
        ∙ ap (λ o. settle (exception_entry img c one.row.number o)) one.enabled
        ∙ ap (λ b. settle (if b then Done entered (Some (what.Take one.row.number (depth img entered)))
        else Trapped c trap.Stack)) room in
        let core : d ≡ entered = ap (λ (r : Core × Option What). r.0) (sym is ∙ steps) in
        (entered.processor.slots, ap frames_of core)

    -- who interrupts nobody is alone in its frame
    alone_below : (r : Point) (rs : List Point) (below : List Context) → rs ≡ [] → IsStacked img r rs below → below ≡ []
    alone_below r rs [] none stacked = refl
    alone_below r rs (x ∷ below) none stacked =
        absurd (subst (λ (ps : List Point). IsStacked img r ps (x ∷ below)) none stacked)

    -- where `init` ends the thread has its frame
    pub served_frames : IsServing img c p qs shown q rest → frames_of d ≡ d.processor.slots ∷ frames_below c.below
    served_frames one =
        let alone : qs ≡ [] = alone_in_init img p qs c.below one.before fits.stack in
        let before : c.below ≡ [] = alone_below p qs c.below alone fits.stack in
        let behind : d.below ≡ [] = alone_below q rest d.below (one.below ∙ alone) after.stack in
        ap (λ (below : List Context). d.processor.slots ∷ frames_below below) (behind ∙ sym before)

    -- and it goes on behind that line
    pub served_leads : IsServing img c p qs shown q rest → LeadsToPoint img p q
    served_leads one =
        let end : IsEnd shown = subst IsEnd (sym one.shows) tt in
        ⊎_elim
        (λ here.
        let same : ◌≡◌ {A = Instr × Option Note} (line.instr, line.told) (instr.Serve, Some (note.End body.Init)) =
        λ k. (here.0 k, here.1 k) in
        let core :
        (settle (go_on img c (Some (note.End body.Init)) (unchecked_effect instr.Serve c.time c.processor))).0 ≡ d =
        ap (λ (r : Core × Option What). r.0)
        (ap (λ (l : Instr × Option Note). settle (go_on img c l.1 (unchecked_effect l.0 c.time c.processor))) (sym same)
        ∙ sym (line_steps img checked c p qs fits line one.none) ∙ is) in
        let to : suc c.processor.address ≡ q.address = ap (λ (r : Core). r.processor.address) core ∙ after.address in
        record {
          line = (instr.Serve, Some (note.End body.Init));
          stands = line.stands.1 ∙ ap (λ (l : Instr × Option Note). Some l) same;
          address = sym to ∙ ap suc fits.address;
          owner = one.behind ∙ ap (owner_after instr.Serve) (sym here.2);
          inside = one.empty ∙ sym here.3;
        })
        (λ returns. absurd (handling_differs returns.0 (sym returns.3 ∙ one.before)))
        (ending one.none end line.kind)

    -- where a handler returns what it interrupted has its frame again
    pub back_frames : IsBack img c p qs shown q rest → frames_of d ≡ frames_below c.below
    back_frames one =
        let end : IsEnd shown = subst IsEnd (sym one.shows) tt in
        ⊎_elim
        (λ init. absurd (handling_differs one.index (sym one.handles ∙ init.2)))
        (λ returns. by returns.1 returns.2 c.below refl
        (subst (λ (ps : List Point). IsStacked img p ps c.below) one.back fits.stack))
        (ending one.none end line.kind)
      where
        back_to : line.instr ≡ instr.Ret → line.told ≡ None → (x : Context) (below : List Context)
            → c.below ≡ x ∷ below → step img c ≡ (in_context c x below, Some (what.Ret x.irq))
        back_to same untold x below others =
            line_steps img checked c p qs fits line one.none
            ∙ ap (λ (l : Instr × Option Note). settle (go_on img c l.1 (unchecked_effect l.0 c.time c.processor)))
            (let line_same : ◌≡◌ {A = Instr × Option Note} (line.instr, line.told) (instr.Ret, None) =
            λ k. (same k, untold k) in line_same)
            ∙ ap (λ o. settle (with_note img None (outcome_of_return c o)))
            (ap (λ k. interrupted_context k c.below) fits.caller ∙ ap (interrupted_context None) others)

        by : line.instr ≡ instr.Ret → line.told ≡ None → (below : List Context) → c.below ≡ below
            → IsStacked img p (q ∷ rest) c.below → frames_of d ≡ frames_below c.below
        by same untold [] others stacked = absurd (subst (IsStacked img p (q ∷ rest)) others stacked)
        by same untold (x ∷ below) others stacked =
            let core : d ≡ in_context c x below =
            ap (λ (r : Core × Option What). r.0) (sym is ∙ back_to same untold x below others) in
            ap frames_of core ∙ ap frames_below (sym others)
