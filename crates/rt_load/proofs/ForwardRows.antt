-- The lines of the interrupts and of the bodies of a loadable image are taken, one after another.
use Rattle.std.proofs.Common.{◌≡◌, ◌<◌, ◌^◌, ℕ, suc, true, ◌&&◌, List, [], ◌∷◌, ◌++◌, length, map, take, decimal, codes}
use Rattle.std.proofs.Common.{Option, Some, None, Result, Ok, Err, if◌then◌else◌, refl, ap, sym, ◌∙◌, subst, arith}
use Rattle.std.proofs.Common.{append_assoc, append-nil, slice_get}
use Rattle.std.specs.List.{AllByRecursion}
use Rattle.std.proofs.lemmas.Option.{slice_get-get_or}
use Rattle.std.proofs.lemmas.List.{map_push, get_or_push}
use Rattle.rt_lemmas.proofs.Bools.{and_both}
use Rattle.rt_lemmas.proofs.Lists.{all_behind}
use Rattle.rt_ids.specs.Names.{Names, irq_of, task_index, with_task}
use Rattle.rt_ids.specs.Naming.{task_name}
use Rattle.rt_ids.specs.Word.{IsName}
use Rattle.rt_ids.specs.declared.limits.TheConstants.{IRQ_NUMBERS, IRQS, TASKS}
use Rattle.rt_ids.proofs.Declared.{next_irq, next_task}
use Rattle.rt_code.specs.Image.{Image}
use Rattle.rt_code.specs.Listable.{IsWord}
use Rattle.rt_code.specs.declared.image.IrqRow.{IrqRow}
use Rattle.rt_code.specs.declared.image.Handler.{Handler}
use Rattle.rt_code.specs.declared.image.BodyRow.{BodyRow}
use Rattle.rt_lines.specs.Answers.{and_then, and_make}
use Rattle.rt_listing.specs.Listing.{irq_line, body_line, handler_words}
use Rattle.rt_listing.proofs.Lines.{irq_row, body_row, numbered}
use Rattle.rt_lines.specs.Table.{spaced_text}
use Rattle.rt_lines.proofs.Numerals.{number_spelled}
use Rattle.rt_lines.specs.Parts.{line_with_feed}
use Rattle.rt_load.specs.Loadable.{IsLoadable, IsIrqWithin, IsHandlerWithin, IsBodyWithin}
use Rattle.rt_load.specs.Inside.Operand.{number_at, word_at}
use Rattle.rt_load.specs.Inside.Rows.{handler_at, irq_row_at, body_row_at}
use Rattle.rt_load.specs.Inside.Taking.{if_line, is_new_irq, is_new_task, may_add_irq, may_add_body, has_cells, and_irq}
use Rattle.rt_load.specs.Inside.Taking.{and_body, take_words, take_line}
use Rattle.rt_load.specs.declared.front.Front.{Front}
use Rattle.rt_load.specs.declared.operand.Wrong.{Wrong}
use Rattle.rt_load.specs.declared.operand.Wrong.TheVariants as wrong
use Rattle.rt_load.proofs.Lines.{irq_text, body_text, irq_spelled, body_spelled, known_names, words_of_spelled}
use Rattle.rt_load.proofs.Read.{number_back}
use Rattle.rt_load.proofs.ForwardParts.{passes, chooses, front_taken, first_behind, new_from_parts, named_here}
use Rattle.rt_load.proofs.ForwardParts.{below_all, same_itself, RowsLead, row_leads}

module _ (img : Image) (l : IsLoadable img) where
  -- interrupts
  abbrev irq_pair : IrqRow → List ℕ × ℕ
  irq_pair row = (row.name, row.number)

  pub told_irqs : map irq_pair img.irqs ≡ img.names.irqs
  told_irqs = ap (λ (n : Names). n.irqs) l.names

  abbrev irqs_names : List IrqRow → Names
  irqs_names done = record { irqs = map irq_pair done; tasks = []; shared = img.names.shared }

  abbrev pub irqs_front : List IrqRow → Front
  irqs_front done = record {
    image = record img { irqs = done; bodies = []; code = []; names = irqs_names done };
    code = length img.code;
    cells = length img.cells;
  }

  irqs_split : (done left : List IrqRow) (row : IrqRow) → img.irqs ≡ done ++ row ∷ left
      → img.names.irqs ≡ map irq_pair done ++ (row.name, row.number) ∷ map irq_pair left
  irqs_split done left row is = sym told_irqs ∙ ap (map irq_pair) is ∙ split done
    where
      split : (xs : List IrqRow) → map irq_pair (xs ++ row ∷ left)
          ≡ map irq_pair xs ++ (row.name, row.number) ∷ map irq_pair left
      split [] = refl
      split (x ∷ xs) = ap (λ (ns : List (List ℕ × ℕ)). (x.name, x.number) ∷ ns) (split xs)

  irq_may : (done left : List IrqRow) (row : IrqRow) → img.irqs ≡ done ++ row ∷ left
      → may_add_irq (irqs_front done) row.name ≡ true
  irq_may done left row is =
      let bare = λ (irq : List ℕ × ℕ). irq.0 in
      let before = map irq_pair done in
      let after = map irq_pair left in
      let split = irqs_split done left row is in
      let named : IsName row.name =
      let behind = all_behind (λ (irq : List ℕ × ℕ). IsName irq.0) before ((row.name, row.number) ∷ after)
      (subst (AllByRecursion (λ (irq : List ℕ × ℕ). IsName irq.0)) split l.fits.names.irqs) in behind.0 in
      let unknown : irq_of (irqs_names done) row.name ≡ None =
      next_irq (irqs_names done) (length before) row.name img.names.irqs row.number
      (sym (ap (take (length before)) split ∙ front_taken before (row.name, row.number) after))
      l.fits.names.irqs_differ
      (ap (λ (all : List (List ℕ × ℕ)). slice_get all (length before)) split
      ∙ first_behind before (row.name, row.number) after) in
      and_both ((has_cells (irqs_front done) && true) && true) (is_new_irq (irqs_names done) row.name)
      (and_both (has_cells (irqs_front done) && true) true
      (and_both (has_cells (irqs_front done)) true (same_itself (length img.cells)) refl) refl)
      (new_from_parts row.name (irq_of (irqs_names done) row.name) (length before) IRQS named unknown
      (below_all img.names.irqs before after (row.name, row.number) IRQS split l.fits.names.few_irqs))

  handler_reads : (h : Option Handler) → IsHandlerWithin h → handler_at (handler_words h) ≡ Ok h
  handler_reads None within = refl
  handler_reads (Some h) within = rw (
    number_spelled (2 ^ 8) h.value within.0 (omega arith),
    number_back h.entry within.1,
    number_back h.frame within.2,
  ) refl

  irq_step : (done left : List IrqRow) (row : IrqRow) → img.irqs ≡ done ++ row ∷ left → IsIrqWithin row
      → IsWord row.name
      → take_line (irqs_front done) (irq_text row) ≡ Ok (irqs_front (done ++ row ∷ []))
  unfolding take_line
  irq_step done left row is within word =
      let front = irqs_front done in
      let line = irq_text row in
      let ws = row.name ∷ decimal row.number ∷ handler_words row.handler in
      let number : number_at IRQ_NUMBERS (decimal row.number) ≡ Ok row.number =
      rw (number_spelled IRQ_NUMBERS row.number within.number (omega arith)) refl in
      let read : irq_row_at ws ≡ Ok row =
      ap (λ (r : Result ℕ Wrong). and_then r (λ n. and_make (handler_at (handler_words row.handler))
      (λ h. record { name = row.name; number = n; handler = h }))) number
      ∙ ap (λ (r : Result (Option Handler) Wrong). and_make r
      (λ h. record { name = row.name; number = row.number; handler = h }))
      (handler_reads row.handler within.handler) in
      ap (take_words front line) (words_of_spelled (irq_row row) (irq_spelled row word))
      ∙ ap (λ (r : Result IrqRow Wrong). and_make
      (and_then r (λ row. if may_add_irq front row.name then if_line (irq_line row) line row else Err wrong.Form))
      (and_irq front)) read
      ∙ ap (λ (r : Result IrqRow Wrong). and_make r (and_irq front))
      (chooses (may_add_irq front row.name) (if_line (irq_line row) line row) (irq_may done left row is)
      ∙ passes (irq_line row) line row refl)
      ∙ ap (λ (irqs : List (List ℕ × ℕ)). Ok (record {
        image = record img {
          irqs = done ++ row ∷ [];
          bodies = [];
          code = [];
          names =
              record { irqs = irqs; tasks = []; shared = img.names.shared };
        };
        code = length img.code;
        cells = length img.cells;
      })) (sym (map_push irq_pair done row))

  pub irqs_lead : (n : ℕ) (done left : List IrqRow) → img.irqs ≡ done ++ left → AllByRecursion IsIrqWithin left
      → AllByRecursion (λ row. IsWord row.name) left
      → RowsLead (irqs_front done) (numbered (λ k. irq_row) n left) (irqs_front img.irqs)
  irqs_lead n done [] is within words = ap (λ rows. Some (irqs_front rows)) (sym (is ∙ append-nil done))
  irqs_lead n done (row ∷ left) is within words =
      row_leads (irqs_front done) (irqs_front (done ++ row ∷ [])) (irqs_front img.irqs) (irq_row row)
      (numbered (λ k. irq_row) (suc n) left) (irq_spelled row words.0) (irq_step done left row is within.0 words.0)
      (irqs_lead (suc n) (done ++ row ∷ []) left (is ∙ sym (append_assoc done (row ∷ []) left)) within.1 words.1)

  -- bodies
  abbrev tasks_of : List BodyRow → List (List ℕ)
  tasks_of rows = map (λ row. task_name img.names row.task) rows

  pub told_tasks : tasks_of img.bodies ≡ img.names.tasks
  told_tasks = ap (λ (n : Names). n.tasks) l.names

  abbrev bodies_names : List BodyRow → Names
  bodies_names done = record { irqs = img.names.irqs; tasks = tasks_of done; shared = img.names.shared }

  abbrev pub bodies_front : List BodyRow → Front
  bodies_front done = record {
    image = record img { bodies = done; code = []; names = bodies_names done };
    code = length img.code;
    cells = length img.cells;
  }

  tasks_split : (done left : List BodyRow) (row : BodyRow) → img.bodies ≡ done ++ row ∷ left
      → img.names.tasks ≡ tasks_of done ++ task_name img.names row.task ∷ tasks_of left
  tasks_split done left row is = sym told_tasks ∙ ap tasks_of is ∙ split done
    where
      split : (xs : List BodyRow) → map (λ row. task_name img.names row.task) (xs ++ row ∷ left)
          ≡ map (λ row. task_name img.names row.task) xs ++ task_name img.names row.task
          ∷ map (λ row. task_name img.names row.task) left
      split [] = refl
      split (x ∷ xs) = ap (λ (ns : List (List ℕ)). task_name img.names x.task ∷ ns) (split xs)

  -- tasks are numbered in order
  task_here : (done left : List BodyRow) (row : BodyRow) → img.bodies ≡ done ++ row ∷ left
      → row.task < length img.names.tasks
      → row.task ≡ length (tasks_of done)
  task_here done left row is has =
      let name = task_name img.names row.task in
      l.fits.names.tasks_differ row.task (length (tasks_of done)) name
      (slice_get-get_or img.names.tasks row.task [] has)
      (ap (λ (all : List (List ℕ)). slice_get all (length (tasks_of done))) (tasks_split done left row is)
      ∙ first_behind (tasks_of done) name (tasks_of left))

  body_may : (done left : List BodyRow) (row : BodyRow) → img.bodies ≡ done ++ row ∷ left
      → may_add_body (bodies_front done) (task_name img.names row.task) ≡ true
  body_may done left row is =
      let name = task_name img.names row.task in
      let split = tasks_split done left row is in
      and_both (has_cells (bodies_front done) && true) (is_new_task (bodies_names done) name)
      (and_both (has_cells (bodies_front done)) true (same_itself (length img.cells)) refl)
      (new_from_parts name (task_index (bodies_names done) name) (length (tasks_of done)) TASKS
      (named_here img.names.tasks (tasks_of done) (tasks_of left) name split l.fits.names.tasks)
      (next_task (bodies_names done) (length (tasks_of done)) name img.names.tasks
      (sym (ap (take (length (tasks_of done))) split ∙ front_taken (tasks_of done) name (tasks_of left)))
      l.fits.names.tasks_differ
      (ap (λ (all : List (List ℕ)). slice_get all (length (tasks_of done))) split
      ∙ first_behind (tasks_of done) name (tasks_of left)))
      (below_all img.names.tasks (tasks_of done) (tasks_of left) name TASKS split l.fits.names.few_tasks))

  body_reads : (task : ℕ) (name : List ℕ) (row : BodyRow) → IsBodyWithin row → task ≡ row.task
      → body_row_at task (name ∷ decimal row.entry ∷ decimal row.frame ∷ decimal row.args ∷ []) ≡ Ok (name, row)
  body_reads task name row within same =
      let few = within.args in
      let args : number_at 5 (decimal row.args) ≡ Ok row.args =
      rw (number_spelled 5 row.args (omega (arith, few)) (omega arith)) refl in
      ap (λ (r : Result ℕ Wrong). and_then r (λ e. and_then (word_at (decimal row.frame)) (λ f.
      and_make (number_at 5 (decimal row.args)) (λ a. (name, record { task = task; entry = e; frame = f; args = a })))))
      (number_back row.entry within.entry)
      ∙ ap (λ (r : Result ℕ Wrong). and_then r (λ f. and_make (number_at 5 (decimal row.args))
      (λ a. (name, record { task = task; entry = row.entry; frame = f; args = a }))))
      (number_back row.frame within.frame)
      ∙ ap (λ (r : Result ℕ Wrong). and_make r
      (λ a. (name, record { task = task; entry = row.entry; frame = row.frame; args = a }))) args
      ∙ ap (λ (t : ℕ). Ok (name, record { task = t; entry = row.entry; frame = row.frame; args = row.args })) same

  body_step : (done left : List BodyRow) (row : BodyRow) → img.bodies ≡ done ++ row ∷ left → IsBodyWithin row
      → row.task < length img.names.tasks
      → take_line (bodies_front done) (body_text img.names row) ≡ Ok (bodies_front (done ++ row ∷ []))
  unfolding take_line
  body_step done left row is within has =
      let front = bodies_front done in
      let line = body_text img.names row in
      let name = task_name img.names row.task in
      let ws = name ∷ decimal row.entry ∷ decimal row.frame ∷ decimal row.args ∷ [] in
      let here = task_here done left row is has in
      let read : body_row_at (length (tasks_of done)) ws ≡ Ok (name, row) =
      body_reads (length (tasks_of done)) name row within (sym here) in
      let own : task_name (with_task (bodies_names done) name) row.task ≡ name =
      get_or_push (tasks_of done) name [] row.task (sym here) in
      let text : body_line (with_task (bodies_names done) name) row ≡ line_with_feed line =
      ap (λ (n : List ℕ). line_with_feed (codes "body"
      ++ spaced_text (n ∷ decimal row.entry ∷ decimal row.frame ∷ decimal row.args ∷ []))) own in
      ap (take_words front line) (words_of_spelled (body_row img.names row)
      (body_spelled img.names row (known_names img.names l.fits.names)))
      ∙ ap (λ (r : Result (List ℕ × BodyRow) Wrong). and_make (and_then r (λ body. if may_add_body front body.0
      then if_line (body_line (with_task front.image.names body.0) body.1) line body else Err wrong.Form))
      (λ body. and_body front body.0 body.1)) read
      ∙ ap (λ (r : Result (List ℕ × BodyRow) Wrong). and_make r (λ body. and_body front body.0 body.1))
      (chooses (may_add_body front name) (if_line (body_line (with_task front.image.names name) row) line (name, row))
      (body_may done left row is)
      ∙ passes (body_line (with_task front.image.names name) row) line (name, row) text)
      ∙ ap (λ (tasks : List (List ℕ)). Ok (record {
        image = record img {
          bodies = done ++ row ∷ [];
          code = [];
          names =
              record { irqs = img.names.irqs; tasks = tasks; shared = img.names.shared };
        };
        code = length img.code;
        cells = length img.cells;
      })) (sym (map_push (λ (row : BodyRow). task_name img.names row.task) done row))

  pub bodies_lead : (n : ℕ) (done left : List BodyRow) → img.bodies ≡ done ++ left → AllByRecursion IsBodyWithin left
      → AllByRecursion (λ row. row.task < length img.names.tasks) left
      → RowsLead (bodies_front done) (numbered (λ k. body_row img.names) n left) (bodies_front img.bodies)
  bodies_lead n done [] is within has = ap (λ rows. Some (bodies_front rows)) (sym (is ∙ append-nil done))
  bodies_lead n done (row ∷ left) is within has =
      row_leads (bodies_front done) (bodies_front (done ++ row ∷ [])) (bodies_front img.bodies) (body_row img.names row)
      (numbered (λ k. body_row img.names) (suc n) left)
      (body_spelled img.names row (known_names img.names l.fits.names)) (body_step done left row is within.0 has.0)
      (bodies_lead (suc n) (done ++ row ∷ []) left (is ∙ sym (append_assoc done (row ∷ []) left)) within.1 has.1)
