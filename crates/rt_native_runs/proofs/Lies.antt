-- Every image that `build` makes lies well: its parts lie one after the other, each is closed, and its tables lead to
-- their first addresses.
use Rattle.std.proofs.Common.{◌≡◌, ◌⊎◌, ℕ, zero, suc, ◌+◌, ◌^◌, ◌<◌, ◌≤◌, ◌==◌, ◌%◌, Bool, true, false, List, []}
use Rattle.std.proofs.Common.{◌∷◌, ◌++◌, length, length-append, find, slice_get, Option, Some, None, IfSome, IsSome}
use Rattle.std.proofs.Common.{refl, sym, ap, subst, ◌∙◌, arith, inl, inr, append_assoc}
use Rattle.std.specs.List.{AllByRecursion}
use Rattle.std.proofs.lemmas.Bool.{eqb-true}
use Rattle.std.proofs.lemmas.Option.{none-some, same_Some, slice_get_within}
use Rattle.rt_lemmas.proofs.Indices.{at_either}
use Rattle.rt_lemmas.proofs.Lists.{all_map, find_has, found_passes}
use Rattle.rt_lemmas.proofs.Membership.{all_at, all_weaker}
use Rattle.rt_ids.specs.Naming.{IsDeclared}
use Rattle.rt_ids.specs.declared.ids.BodyId.TheVariants as body
use Rattle.rt_ids.specs.declared.limits.TheConstants.{IRQ_NUMBERS}
use Rattle.rt_app.specs.Accepted.{IsAccepted}
use Rattle.rt_app.specs.Names.{names_of}
use Rattle.rt_app.specs.Tree.{Task, App}
use Rattle.rt_app.proofs.Sound.{accepted_are_sound}
use Rattle.rt_code.specs.Image.{Image}
use Rattle.rt_code.specs.Listable.{HasInstr}
use Rattle.rt_code.specs.declared.image.BodyRow.{BodyRow}
use Rattle.rt_code.specs.declared.image.Handler.{Handler}
use Rattle.rt_code.specs.declared.image.IrqRow.{IrqRow}
use Rattle.rt_code.specs.declared.instr.Instr.{Instr}
use Rattle.rt_code.specs.declared.instr.Instr.TheVariants as instr
use Rattle.rt_code.specs.declared.instr.Note.{Note}
use Rattle.rt_gen_queue.specs.Line.{Line}
use Rattle.rt_gen_timer.specs.TimerCode.{queue_of}
use Rattle.rt_build.specs.Built.{IsBuilt, IsPartAt, part_code}
use Rattle.rt_app.specs.Frame.{frame_words}
use Rattle.rt_build.specs.Entries.{Entries, handler_row, task_words}
use Rattle.rt_build.specs.Laws.{HasImage}
use Rattle.rt_build.specs.Order.{CodePart, OfBody, OfLevel, begin_of, AreAbutting}
use Rattle.rt_build.proofs.Existing.{images_exist}
use Rattle.rt_build.proofs.ImageRows.{few_arguments}
use Rattle.rt_build.proofs.OneImage.{one_is_built}
use Rattle.rt_native.specs.Frames.{handler_words, body_words}
use Rattle.rt_native.specs.Service.{timer_irq, first_of, alarm_irq}
use Rattle.rt_points.specs.Leading.{LeadsOn}
use Rattle.rt_native_runs.specs.Lying.{CallsFrom, IsPlacedWell, IsSamePart, LiesWell}
use Rattle.rt_native_runs.proofs.Apart.{entered, IsKnown, IsApart, IsRegion, entered_known, begin_behind, regions}
use Rattle.rt_native_runs.proofs.Apart.{each_part, IsOfPart, part_at}
use Rattle.rt_native_runs.proofs.Closed.{is_dispatcher, part_of_lines, part_closed, thread_closed}
use Rattle.rt_native_runs.proofs.Entered.{part_of, frame_of, frame_even, thread_even, entry_is, words_are}
use Rattle.rt_native_runs.proofs.Entered.{services_have, bodies_have, rows_have, level_served_by}
use Rattle.rt_native_runs.proofs.Found.{AreBeside, AreOnly, AreBodiesBeside, AreBodiesOnly, same_handler, handler_found}
use Rattle.rt_native_runs.proofs.Found.{same_body, body_found}
use Rattle.rt_native_runs.proofs.Inside.{Part, IsInside, IsFine, IsCallFrom, IsEnd, IsClosed, all_fine, ends_at}
use Rattle.rt_native_runs.proofs.Inside.{ends_some, stays_inside}

all_by_index : {X : Type 0} (P : X → Type 0) (xs : List X) → ((k : ℕ) (x : X) → slice_get xs k ≡ Some x → P x)
    → AllByRecursion P xs
all_by_index P [] each = tt
all_by_index P (x ∷ xs) each = (each 0 x refl, all_by_index P xs (λ k y there. each (suc k) y there))

-- the alarms of code pend one interrupt
abbrev IsAlarmOf : ℕ → Instr → Type 0
IsAlarmOf timer (instr.Alarm slot irq) = irq ≡ timer
IsAlarmOf timer i = Unit {0}

alarm_is : (timer : ℕ) (code : List Line) → ((k : ℕ) (line : Line) → slice_get code k ≡ Some line
    → IsAlarmOf timer line.0) → (n slot irq : ℕ) (told : Option Note)
    → slice_get code n ≡ Some (instr.Alarm slot irq, told) → timer_irq code ≡ Some irq
alarm_is timer [] each n slot irq told there = absurd (none-some _ there)
alarm_is timer (line ∷ code) each zero slot irq told there =
    let same : line ≡ (instr.Alarm slot irq, told) = same_Some line (instr.Alarm slot irq, told) there in
    ap (λ (l : Line). first_of (alarm_irq l.0) (timer_irq code)) same
alarm_is timer (line ∷ code) each (suc n) slot irq told there =
    go line.0 (each 0 line refl) (alarm_is timer code (λ k line there. each (suc k) line there) n slot irq told there)
  where
    own : irq ≡ timer
    own = each (suc n) (instr.Alarm slot irq, told) there

    go : (i : Instr) → IsAlarmOf timer i → timer_irq code ≡ Some irq
        → first_of (alarm_irq i) (timer_irq code) ≡ Some irq
    go (instr.Alarm other number) is rest = ap Some (is ∙ sym own)
    go i is rest = rest

alarm_of_fine : (p : Part) (i : Instr) → IsFine p i → IsAlarmOf p.timer i
alarm_of_fine p (instr.Alarm slot irq) fine = fine
alarm_of_fine p i fine = tt

-- an interrupt that has a name has a number of those that there are
declared_few : (app : App) (accepted : IsAccepted app) (irq : ℕ) → IsDeclared (names_of app) irq → irq < 2 ^ 9
declared_few app accepted irq declared =
    go (find (λ named. named.1 == irq) (names_of app).irqs) refl declared
  where
    few : AllByRecursion (λ named. named.1 < IRQ_NUMBERS) (names_of app).irqs
    few = all_map (λ d. (d.name, d.number)) (λ d. d.number < IRQ_NUMBERS) (λ named. named.1 < IRQ_NUMBERS)
        (λ d less. less) app.irqs (accepted_are_sound app accepted).numbers

    go : (o : Option (List ℕ × ℕ)) → find (λ named. named.1 == irq) (names_of app).irqs ≡ o → IsSome o → irq < 2 ^ 9
    go None is some = absurd (cc)
    go (Some named) is some =
        let less = find_has (λ named. named.1 < IRQ_NUMBERS) (λ named. named.1 == irq) (names_of app).irqs named few is
        in
        let same = eqb-true named.1 irq (found_passes (λ named. named.1 == irq) (names_of app).irqs named is) in
        omega (arith, less, same)

module _ (app : App) (accepted : IsAccepted app) (img : Image) (built : IsBuilt app img) where
  abbrev at : Entries
  at = built.at

  abbrev T : ℕ
  T = (queue_of app).irq

  -- the lines of `init` and `idle`, and those behind them
  record Split : Type 0 where
    init : List Line
    idle : List Line
    others : List Line
    code : img.code ≡ (init ++ idle) ++ others
    init_is : init ≡ part_code app (OfBody body.Init) 0
    idle_is : idle ≡ part_code app (OfBody body.Idle) (length init)
    rest : AreAbutting (IsPartAt app at) (length (init ++ idle)) (entered app) others

  split : Split
  split = by img.code built.parts refl
    where
      by : (lines : List Line)
          → AreAbutting (IsPartAt app at) 0 (OfBody body.Init ∷ OfBody body.Idle ∷ entered app) lines
          → img.code ≡ lines → Split
      by lines (init, more, is, here, (idle, others, is2, here2, rest)) same =
          let none : 0 + length init ≡ length init = omega arith in
          let long : 0 + length init + length idle ≡ length (init ++ idle) = omega (arith, length-append init idle) in
          record {
            init = init;
            idle = idle;
            others = others;
            code = same ∙ is ∙ ap (λ (ls : List Line). init ++ ls) is2 ∙ sym (append_assoc init idle others);
            init_is = here.are;
            idle_is = here2.are ∙ ap (part_code app (OfBody body.Idle)) none;
            rest = subst (λ n. AreAbutting (IsPartAt app at) n (entered app) others) long rest;
          }

  abbrev thread : List Line
  thread = split.init ++ split.idle

  known : AllByRecursion (IsKnown app) (entered app)
  known = entered_known app

  -- each part that a table leads to, beside the others
  abutting : AreAbutting (IsRegion app at (entered app)) (length thread) (entered app) split.others
  abutting =
      regions app at [] (length thread) (entered app) split.others tt
      (all_weaker (IsKnown app) (λ q. (from : ℕ) (own : List Line) → IsPartAt app at q from own → 1 ≤ length own)
      (λ q is from own here. ends_some own (part_closed app q from own is here.are).ends)
      (entered app) known) split.rest

  -- the first address of a part that a table leads to, with the words of its frame
  record IsEntry (entry frame : ℕ) : Type 0 where
    part : CodePart
    from : ℕ
    own : List Line
    region : IsRegion app at (entered app) part from own
    begins : entry ≡ from
    words : frame ≡ frame_of app part

  entry_of_part : (q : CodePart) → (from : ℕ) × (own : List Line) × IsRegion app at (entered app) q from own
      → (entry frame : ℕ) → entry ≡ begin_of at q → frame ≡ frame_of app q → IsEntry entry frame
  entry_of_part q (from, own, region) entry frame begins words = record {
    part = q;
    from = from;
    own = own;
    region = region;
    begins = begins ∙ region.is.begins;
    words = words;
  }

  abbrev HasRegion : CodePart → Type 0
  HasRegion q = (from : ℕ) × (own : List Line) × IsRegion app at (entered app) q from own

  parts : AllByRecursion HasRegion (entered app)
  parts = each_part (IsRegion app at (entered app)) (length thread) (entered app) split.others abutting

  rows_enter : AllByRecursion (λ row. IfSome row.handler (λ h. IsEntry h.entry h.frame)) img.irqs
  rows_enter =
      subst (λ (rows : List IrqRow). AllByRecursion (λ row. IfSome row.handler (λ h. IsEntry h.entry h.frame)) rows)
      (sym built.tables.irqs)
      (rows_have app at (λ h. IsEntry h.entry h.frame)
      (all_weaker (λ s. HasRegion (part_of s.handler))
      (λ s. IsEntry (handler_row app at s).entry (handler_row app at s).frame)
      (λ s has. entry_of_part (part_of s.handler) has (handler_row app at s).entry (handler_row app at s).frame
      (entry_is at s.handler) (words_are app s.handler)) _ (services_have app HasRegion parts)))

  bodies_enter : AllByRecursion (λ row. IsEntry row.entry row.frame) img.bodies
  bodies_enter =
      subst (λ (rows : List BodyRow). AllByRecursion (λ row. IsEntry row.entry row.frame) rows)
      (sym built.tables.bodies)
      (bodies_have app HasRegion at (λ row. IsEntry row.entry row.frame)
      (λ n t there has. entry_of_part (OfBody (body.Task n)) has (at.task n) _ refl (task_words_are n t there)) parts)
    where
      task_words_are : (n : ℕ) (t : Task) → slice_get app.tasks n ≡ Some t
          → frame_words t.args t.body ≡ frame_of app (OfBody (body.Task n))
      task_words_are n t there = ap task_words (sym there)

  -- an entry beside a part
  abbrev IsOnlyEntry : ℕ → ℕ → ℕ → ℕ → ℕ → Type 0
  IsOnlyEntry from behind words entry frame =
      (entry < from) ⊎ (((entry ≡ from) × (frame ≡ words)) ⊎ (behind ≤ entry))

  module _ (q : CodePart) (from : ℕ) (own : List Line) (region : IsRegion app at (entered app) q from own) where
    abbrev behind : ℕ
    behind = from + length own

    only_entry : (other : CodePart) (entry frame : ℕ) → entry ≡ begin_of at other → frame ≡ frame_of app other
        → IsApart app at q from behind other → IsOnlyEntry from behind (frame_of app q) entry frame
    only_entry other entry frame begins words apart = elim apart [
      | inl before ↦ inl (omega (arith, begins, before))
      | inr more ↦
          elim more [
            | inl same ↦ inr (inl (
              begins ∙ ap (λ r. begin_of at r) same ∙ region.is.begins,
              words ∙ ap (frame_of app) same,
            ))
            | inr past ↦ inr (inr (omega (arith, begins, past)))
          ]
    ]

    rows_only : AreOnly from behind (frame_of app q) img.irqs
    rows_only =
        subst (AreOnly from behind (frame_of app q)) (sym built.tables.irqs)
        (rows_have app at (λ h. IsOnlyEntry from behind (frame_of app q) h.entry h.frame)
        (all_weaker (λ s. IsApart app at q from behind (part_of s.handler))
        (λ s. IsOnlyEntry from behind (frame_of app q) (handler_row app at s).entry (handler_row app at s).frame)
        (λ s apart. only_entry (part_of s.handler) (handler_row app at s).entry (handler_row app at s).frame
        (entry_is at s.handler) (words_are app s.handler) apart) _
        (services_have app (IsApart app at q from behind) region.apart)))

    bodies_only : AreBodiesOnly from behind (frame_of app q) img.bodies
    bodies_only =
        subst (AreBodiesOnly from behind (frame_of app q)) (sym built.tables.bodies)
        (bodies_have app (IsApart app at q from behind) at
        (λ row. IsOnlyEntry from behind (frame_of app q) row.entry row.frame)
        (λ n t there apart. only_entry (OfBody (body.Task n)) (at.task n) _ refl (ap task_words (sym there)) apart)
        region.apart)

    rows_beside : AreBeside from behind img.irqs
    rows_beside = beside img.irqs rows_only
      where
        beside : (rows : List IrqRow) → AreOnly from behind (frame_of app q) rows → AreBeside from behind rows
        beside [] only = tt
        beside (row ∷ rows) (one, others) = (go row.handler one, beside rows others)
          where
            go : (o : Option Handler)
                → IfSome o (λ h. IsOnlyEntry from behind (frame_of app q) h.entry h.frame)
                → IfSome o (λ h. (h.entry ≤ from) ⊎ (behind ≤ h.entry))
            go None is = tt
            go (Some h) is = elim is [
              | inl less ↦ inl (omega (arith, less))
              | inr more ↦ elim more [ inl same ↦ inl (omega (arith, same.0)) | inr past ↦ inr past ]
            ]

    bodies_beside : AreBodiesBeside from behind img.bodies
    bodies_beside =
        all_weaker (λ row. IsOnlyEntry from behind (frame_of app q) row.entry row.frame)
        (λ row. (row.entry ≤ from) ⊎ (behind ≤ row.entry)) (λ row is. elim is [
          | inl less ↦ inl (omega (arith, less))
          | inr more ↦ elim more [ inl same ↦ inl (omega (arith, same.0)) | inr past ↦ inr past ]
        ]) img.bodies bodies_only

  -- the frames at the entries are those of the rows
  handlers_found : AllByRecursion (λ row. IfSome row.handler (λ h. handler_words img.irqs h.entry ≡ h.frame)) img.irqs
  handlers_found = all_by_index _ img.irqs (λ k row there. go k row there row.handler refl
      (all_at (λ row. IfSome row.handler (λ h. IsEntry h.entry h.frame)) img.irqs k row rows_enter there))
    where
      go : (k : ℕ) (row : IrqRow) → slice_get img.irqs k ≡ Some row → (o : Option Handler) → row.handler ≡ o
          → IfSome o (λ h. IsEntry h.entry h.frame) → IfSome o (λ h. handler_words img.irqs h.entry ≡ h.frame)
      go k row there None is has = tt
      go k row there (Some h) is has =
          let some = has.region.some in
          handler_found img.irqs h.entry has.from (has.from + length has.own) (frame_of app has.part)
          (omega (arith, has.begins)) (omega (arith, has.begins, some))
          (rows_only has.part has.from has.own has.region) k row h there is has.begins has.words ∙ sym has.words

  bodies_found : AllByRecursion (λ row. body_words img.bodies row.entry ≡ row.frame) img.bodies
  bodies_found = all_by_index _ img.bodies (λ k row there. go k row there
      (all_at (λ row. IsEntry row.entry row.frame) img.bodies k row bodies_enter there))
    where
      go : (k : ℕ) (row : BodyRow) → slice_get img.bodies k ≡ Some row → IsEntry row.entry row.frame
          → body_words img.bodies row.entry ≡ row.frame
      go k row there has =
          let some = has.region.some in
          body_found img.bodies row.entry has.from (has.from + length has.own) (frame_of app has.part)
          (omega (arith, has.begins)) (omega (arith, has.begins, some))
          (bodies_only has.part has.from has.own has.region) k row there has.begins has.words ∙ sym has.words

  -- what is known of each line
  record IsAtLine (n : ℕ) (line : Line) : Type 0 where
    p : Part
    timer : p.timer ≡ T
    fine : IsFine p line.0
    same : (to : ℕ) → IsInside p to → IsSamePart img n to
    here : IsInside p n
    next : IsEnd line.0 ⊎ IsInside p (suc n)
    frame : p.calls ≡ true → handler_words img.irqs n ≡ 16

  -- a line of some that are closed, where no row is entered but at their beginning
  of_closed : (calls : Bool) (from : ℕ) (own : List Line) → IsClosed (part_of_lines app calls from own) own
      → AreBeside from (from + length own) img.irqs → AreBodiesBeside from (from + length own) img.bodies
      → (n index : ℕ) (line : Line) → n ≡ from + index → slice_get own index ≡ Some line
      → (calls ≡ true → handler_words img.irqs n ≡ 16) → IsAtLine n line
  of_closed calls from own closed handlers bodies n index line is there frame =
      let p : Part = part_of_lines app calls from own in
      let within : index < length own = slice_get_within own index line there in
      record {
        p = p;
        timer = refl;
        fine = all_at (λ line. IsFine p line.0) own index line (all_fine p own closed.fine) there;
        same = λ to inside.
            let low = inside.front in
            let high = inside.back in
            record {
              handler = same_handler img.irqs to n from (from + length own) low (omega (arith, high, within))
                  (omega (arith, is)) (omega (arith, is, within)) handlers;
              body = same_body img.bodies to n from (from + length own) low (omega (arith, high, within))
                  (omega (arith, is)) (omega (arith, is, within)) bodies;
            };
        here = record { front = omega (arith, is); back = omega (arith, is, within) };
        next = elim (ends_at own index line closed.ends there) [
          | inl end ↦ inl end
          | inr less ↦ inr (record { front = omega (arith, is); back = omega (arith, is, less) })
        ];
        frame = frame;
      }

  -- a line of a part that a table leads to
  of_part : (n : ℕ) (line : Line) → IsOfPart (IsKnown app) (IsRegion app at (entered app)) n line → IsAtLine n line
  of_part n line x =
      of_closed (is_dispatcher x.part) x.from x.own (part_closed app x.part x.from x.own x.known x.is.is.are)
      (rows_beside x.part x.from x.own x.is) (bodies_beside x.part x.from x.own x.is) n x.index line x.at x.there
      (frame x.part x.known x.is)
    where
      within : x.index < length x.own
      within = slice_get_within x.own x.index line x.there

      frame : (q : CodePart) → IsKnown app q → IsRegion app at (entered app) q x.from x.own → is_dispatcher q ≡ true
          → handler_words img.irqs n ≡ 16
      frame (OfLevel p) is region calls =
          let by = level_served_by app accepted at p is in
          handler_found img.irqs n x.from (x.from + length x.own) 16 (omega (arith, x.at))
          (omega (arith, x.at, within)) (rows_only (OfLevel p) x.from x.own region) by.index by.row by.handler
          (ap (λ (rows : List IrqRow). slice_get rows by.index) built.tables.irqs ∙ by.there) by.is
          (by.entry ∙ region.is.begins) by.frame
      frame q is region calls = absurd (cc)

  -- all rows are entered behind the thread
  rows_later : AreBeside 0 (0 + length thread) img.irqs
  rows_later = go img.irqs rows_behind
    where
      begin_later : AllByRecursion (λ q. length thread ≤ begin_of at q) (entered app)
      begin_later = begin_behind app at (length thread) (entered app) split.others split.rest

      rows_behind : AllByRecursion (λ row. IfSome row.handler (λ h. length thread ≤ h.entry)) img.irqs
      rows_behind =
          subst (λ (rows : List IrqRow). AllByRecursion (λ row. IfSome row.handler (λ h. length thread ≤ h.entry)) rows)
          (sym built.tables.irqs)
          (rows_have app at (λ h. length thread ≤ h.entry)
          (all_weaker (λ s. length thread ≤ begin_of at (part_of s.handler))
          (λ s. length thread ≤ (handler_row app at s).entry)
          (λ s later. omega (arith, later, entry_is at s.handler)) _
          (services_have app (λ q. length thread ≤ begin_of at q) begin_later)))

      go : (rows : List IrqRow) → AllByRecursion (λ row. IfSome row.handler (λ h. length thread ≤ h.entry)) rows
          → AreBeside 0 (0 + length thread) rows
      go [] all = tt
      go (row ∷ rows) (one, others) = (by row.handler one, go rows others)
        where
          by : (o : Option Handler) → IfSome o (λ h. length thread ≤ h.entry)
              → IfSome o (λ h. (h.entry ≤ 0) ⊎ (0 + length thread ≤ h.entry))
          by None later = tt
          by (Some h) later = inr (omega (arith, later))

  bodies_later : AreBodiesBeside 0 (0 + length thread) img.bodies
  bodies_later =
      subst (AreBodiesBeside 0 (0 + length thread)) (sym built.tables.bodies)
      (bodies_have app (λ q. length thread ≤ begin_of at q) at
      (λ row. (row.entry ≤ 0) ⊎ (0 + length thread ≤ row.entry))
      (λ n t there later. inr (omega (arith, later)))
      (begin_behind app at (length thread) (entered app) split.others split.rest))

  at_line : (n : ℕ) (line : Line) → slice_get img.code n ≡ Some line → IsAtLine n line
  at_line n line there =
      elim (at_either thread split.others n line
      (ap (λ (ls : List Line). slice_get ls n) (sym split.code) ∙ there)) [
        | inl inside ↦
            of_closed false 0 thread (thread_closed app split.init split.idle split.init_is split.idle_is) rows_later
            bodies_later n n line (omega arith) inside.1 (λ calls. absurd (cc))
        | inr past ↦
            (let same : length thread + past.0 ≡ n = sym past.1 in
            subst (λ m. IsAtLine m line) same
            (of_part (length thread + past.0) line
            (part_at (IsKnown app) (IsRegion app at (entered app)) (length thread) (entered app) split.others known
            abutting past.0 line past.2)))
      ]

  flows : (n to : ℕ) (i : Instr) (told : Option Note) → slice_get img.code n ≡ Some (i, told) → LeadsOn i n to
      → IsSamePart img n to
  flows n to i told there leads =
      let x = at_line n (i, told) there in
      x.same to (stays_inside x.p n to i x.fine x.here x.next leads)

  -- the one image has lines that name what is declared
  declared : AllByRecursion (λ line. HasInstr img.names line.0) img.code
  declared =
      let other : HasImage app = images_exist app accepted in
      subst (λ (i : Image). AllByRecursion (λ line. HasInstr i.names line.0) i.code)
      (one_is_built app other.image img other.built built) other.lines.listable.instrs

  few : (row : ℕ) (body : BodyRow) → slice_get img.bodies row ≡ Some body → body.args ≤ 4
  few row body there =
      few_arguments app at accepted row body
      (ap (λ (rows : List BodyRow). slice_get rows row) (sym built.tables.bodies) ∙ there)

  calls_at : (n row from : ℕ) (told : Option Note) → slice_get img.code n ≡ Some (instr.Call row from, told)
      → CallsFrom img n row from
  calls_at n row from told there =
      let x = at_line n (instr.Call row from, told) there in
      let one = called x.p.calls x.fine in
      record {
        behind = elim x.next [ inl end ↦ absurd end | inr inside ↦ x.same (suc n) inside ];
        frame = x.frame one.0;
        few = λ body there. few row body there;
        arguments = λ body there. let less = few row body there in omega (arith, less, one.1);
        slot = omega (arith, one.1);
      }
    where
      called : (calls : Bool) → IsCallFrom calls from → (calls ≡ true) × (from ≡ 0)
      called true is = (refl, is)
      called false is = absurd is

  placed : (n : ℕ) (i : Instr) (told : Option Note) → slice_get img.code n ≡ Some (i, told) → IsPlacedWell img n i
  placed n (instr.Call row from) told there = calls_at n row from told there
  placed n (instr.Post irq) told there =
      declared_few app accepted irq
      (subst (λ names. IsDeclared names irq) built.tables.names
      (all_at (λ line. HasInstr img.names line.0) img.code n (instr.Post irq, told) declared there))
  placed n (instr.Alarm slot irq) told there =
      alarm_is T img.code
      (λ k line there. (let x = at_line k line there in
      subst (λ t. IsAlarmOf t line.0) x.timer (alarm_of_fine x.p line.0 x.fine))) n slot irq told there
  placed n i told there = tt

  lies : LiesWell img
  lies = record {
    even = record {
      thread = ap (λ n. n % 2) built.tables.thread ∙ thread_even app;
      handlers = evens img.irqs rows_enter;
      bodies = all_weaker (λ row. IsEntry row.entry row.frame) (λ row. row.frame % 2 ≡ 0)
          (λ row has. ap (λ n. n % 2) has.words ∙ frame_even app has.part) img.bodies bodies_enter;
    };
    handlers = handlers_found;
    bodies = bodies_found;
    flows = flows;
    placed = placed;
  }
    where
      evens : (rows : List IrqRow) → AllByRecursion (λ row. IfSome row.handler (λ h. IsEntry h.entry h.frame)) rows
          → AllByRecursion (λ row. IfSome row.handler (λ h. h.frame % 2 ≡ 0)) rows
      evens [] all = tt
      evens (row ∷ rows) (one, others) = (go row.handler one, evens rows others)
        where
          go : (o : Option Handler) → IfSome o (λ h. IsEntry h.entry h.frame) → IfSome o (λ h. h.frame % 2 ≡ 0)
          go None has = tt
          go (Some h) has = ap (λ n. n % 2) has.words ∙ frame_even app has.part

-- every image that `build` makes lies well
pub images_lie_well : (app : App) (img : Image) → IsAccepted app → IsBuilt app img → LiesWell img
images_lie_well app img accepted built = lies app accepted img built
