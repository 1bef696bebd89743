-- The word of a value is read as the value, and what is read has that word.
use Rattle.std.proofs.Common.{◌≡◌, ◌==◌, ◌<◌, ◌≤◌, ◌^◌, ℕ, Bool, true, false, List, [], ◌++◌, length, map, take, drop}
use Rattle.std.proofs.Common.{get_or, decimal, codes, bytes_eq, nat_eq, find, position, Option, Some, None, IsSome}
use Rattle.std.proofs.Common.{Result, Ok}
use Rattle.std.proofs.Common.{if◌then◌else◌, refl, ap, sym, ◌∙◌, arith, IfSome, option_map}
use Rattle.std.specs.List.{starts_with}
use Rattle.std.specs.Option.{unwrap_or, ok_or}
use Rattle.std.specs.Result.{IfOk}
use Rattle.std.proofs.lemmas.Bool.{false_from_ne_true, false≢true, leb-true, eqb-true, eq-eqb}
use Rattle.std.proofs.lemmas.List.{take-append-drop}
use Rattle.std.proofs.lemmas.List.Quantifiers.{position-Some}
use Rattle.std.proofs.lemmas.Result.{IfOk-weaker}
use Rattle.std.proofs.lemmas.Slice.Eq.{bytes_eq-Decides}
use Rattle.rt_lemmas.proofs.Options.{if_some-map}
use Rattle.rt_lemmas.proofs.Lists.{found_passes}
use Rattle.rt_ids.specs.declared.ids.BodyId.{BodyId}
use Rattle.rt_ids.specs.declared.ids.BodyId.TheVariants as body
use Rattle.rt_ids.specs.declared.ids.Section.{Section}
use Rattle.rt_ids.specs.declared.ids.Section.TheVariants as section
use Rattle.rt_ids.specs.Lists.{AreDifferent}
use Rattle.rt_ids.specs.Names.{Names, AreNames, irq_of}
use Rattle.rt_ids.specs.Naming.{irq_named, irq_name, task_name, section_name, body_name, IsDeclared, IsTask, IsBody}
use Rattle.rt_ids.specs.Word.{IsName, is_word, is_identifier}
use Rattle.rt_lines.specs.Numbers.{number_below}
use Rattle.rt_lines.specs.Operand.{OperandKind, Number, IrqName, FirstIrqName, TaskName, BodyName, LockName, QueueName}
use Rattle.rt_lines.specs.Operand.{SectionName, OperandValue}
use Rattle.rt_lines.specs.Operand.{HasWord, IsLock, IsQueue, IsSection, word, read_at}
use Rattle.rt_lines.specs.Operand.{number_at}
use Rattle.rt_lines.specs.Operand.{index_or_wrong, irq_at, if_first, first_irq_at, task_at, body_at, lock_at, queue_at}
use Rattle.rt_lines.specs.Operand.{section_at}
use Rattle.rt_lines.specs.Table.{is_plain}
use Rattle.rt_lines.specs.declared.operand.Wrong.{Wrong}
use Rattle.rt_lines.specs.declared.operand.Wrong.TheVariants as wrong
use Rattle.rt_lines.proofs.Decoded.{if_some_from, if_ok_or, if_ok_chosen, if_ok_then, if_ok_make}
use Rattle.rt_lines.proofs.Found.{found_at, irq_known, key_found, name_at, resource_found, task_found}
use Rattle.rt_lines.proofs.Numerals.{number_read, number_spelling}

module _ (w : List ℕ) {A : Type 0} (P : A → Type 0) where
  pub equals : (text : List ℕ) (r s : Result A Wrong) → (w ≡ text → IfOk r P) → IfOk s P
      → IfOk (if bytes_eq w text then r else s) P
  equals text r s first other = if_ok_chosen (bytes_eq w text) r s P (λ e. first ((bytes_eq-Decides w text).0 e)) other

  begins : (front : List ℕ) (r s : Result A Wrong) → (w ≡ front ++ drop (length front) w → IfOk r P) → IfOk s P
      → IfOk (if starts_with nat_eq w front then r else s) P
  begins front r s first other = if_ok_chosen (starts_with nat_eq w front) r s P (λ e. first
      (sym (take-append-drop (length front) w) ∙ ap (λ (f : List ℕ). f ++ drop (length front) w)
      (sym ((bytes_eq-Decides front (take (length front) w)).0 e)))) other

module _ (w : List ℕ) where
  number_spelled : (bound : ℕ) → bound ≤ 2 ^ 32 → IfOk (number_at bound w) (λ n. (n < bound) × (w ≡ decimal n))
  number_spelled bound few = if_ok_or (number_below bound w) wrong.Form _ (if_some_from (number_below bound w) _
      (λ n is. let spelled = number_spelling bound n w few is in (spelled.1, spelled.0)))

  known : (index : Option ℕ) (P : ℕ → Type 0) → IfSome index P → IfOk (index_or_wrong w index) P
  known index P h = if_ok_chosen (is_identifier w) _ _ P (λ _. if_ok_or index wrong.Name P h) tt

  named : (texts : List (List ℕ)) → IfOk (index_or_wrong w (position (bytes_eq w) texts))
      (λ i. (i < length texts) × (w ≡ get_or texts i []))
  named texts = known _ _ (if_some_from (position (bytes_eq w) texts) _ (λ i is.
      let there = position-Some (bytes_eq w) texts i [] is in
      (there.0, (bytes_eq-Decides w (get_or texts i [])).0 there.1)))

module _ (names : Names) (w : List ℕ) where
  -- the value has this word
  abbrev pub HasThis : (k : OperandKind) → OperandValue k → Type 0
  HasThis k v = HasWord names k v × (w ≡ word names k v)

  irq_spelled : AreDifferent (map (λ irq. irq.1) names.irqs) → IfOk (irq_at names w) (HasThis IrqName)
  irq_spelled differ =
      let by_name : List ℕ × ℕ → Bool = λ row. bytes_eq w row.0 in
      known w _ (HasThis IrqName) (if_some-map (λ (row : List ℕ × ℕ). row.1) (HasThis IrqName) (find by_name names.irqs)
      (if_some_from (find by_name names.irqs) (λ row. HasThis IrqName row.1) (λ row is.
      let there = found_at by_name names.irqs row is in
      rw (key_found (λ (irq : List ℕ × ℕ). irq.1) (λ irq. irq.1 == row.1) names.irqs there.0 row differ there.1
      (λ y. (λ e. sym (eqb-true y.1 row.1 e), λ e. eq-eqb y.1 row.1 (sym e))))
      (refl, (bytes_eq-Decides w row.0).0 (found_passes by_name names.irqs row is)))))

  -- an interrupt that has a name is declared
  pub has_name : (irq : ℕ) → is_identifier (irq_name names irq) ≡ true → IsDeclared names irq
  has_name irq named = by (irq_named names irq) named
    where
      by : (row : Option (List ℕ × ℕ)) → is_identifier (unwrap_or (option_map (λ r. r.0) row) []) ≡ true → IsSome row
      by None e = absurd (false≢true e)
      by (Some row) e = refl

  first_irq_spelled : IfOk (first_irq_at names w) (HasThis FirstIrqName)
  first_irq_spelled =
      if_ok_then (HasThis FirstIrqName) (irq_at names w) (if_first names w) (λ irq. is_identifier w ≡ true)
      (if_ok_chosen (is_identifier w) (ok_or (irq_of names w) wrong.Name) _ (λ irq. is_identifier w ≡ true)
      (λ e. if_ok_or (irq_of names w) wrong.Name (λ irq. is_identifier w ≡ true)
      (if_some_from (irq_of names w) _ (λ irq is. e))) tt)
      (λ irq e. if_ok_chosen (bytes_eq (irq_name names irq) w) _ _ (HasThis FirstIrqName) (λ same.
      let is : irq_name names irq ≡ w = (bytes_eq-Decides (irq_name names irq) w).0 same in
      (has_name irq (ap is_identifier is ∙ e), sym is)) tt)

  body_spelled : IfOk (body_at names w) (HasThis BodyName)
  body_spelled = equals w (HasThis BodyName) (codes "init") _ _ (λ init. (tt, init))
      (equals w (HasThis BodyName) (codes "idle") _ _ (λ idle. (tt, idle))
      (if_ok_make (HasThis BodyName) (task_at names w) body.Task _ (named w names.tasks) (λ t h. h)))

  lock_spelled : IfOk (lock_at names w) (HasThis LockName)
  lock_spelled = if_ok_make (HasThis LockName) _ section.Res _ (named w names.shared) (λ r h. h)

  queue_spelled : IfOk (queue_at names w) (HasThis QueueName)
  queue_spelled = equals w (HasThis QueueName) (codes "timer.0") _ _ (λ timer. (tt, timer))
      (begins w (HasThis QueueName) (codes "free.") _ _ (λ free.
      if_ok_make (HasThis QueueName) (task_at names (drop 5 w)) section.Free _ (named (drop 5 w) names.tasks)
      (λ t h. (h.0, free ∙ ap (λ d. codes "free." ++ d) h.1)))
      (begins w (HasThis QueueName) (codes "ready.") _ _ (λ ready.
      if_ok_make (HasThis QueueName) (number_at (2 ^ 8) (drop 6 w)) section.Ready _ (number_spelled (drop 6 w) (2 ^ 8)
      (omega arith))
      (λ p h. (h.0, ready ∙ ap (λ d. codes "ready." ++ d) h.1)))
      tt))

  queue_section : (x : Section) → IsQueue names x → IsSection names x
  queue_section (section.Res r) h = absurd h
  queue_section queue h = h

  section_spelled : IfOk (section_at names w) (HasThis SectionName)
  section_spelled = if_ok_chosen (is_identifier w) (lock_at names w) (queue_at names w) (HasThis SectionName)
      (λ _. if_ok_make (HasThis SectionName) _ section.Res _ (named w names.shared) (λ r h. h))
      (IfOk-weaker (queue_at names w) (HasThis QueueName) (HasThis SectionName) (λ x h.
      (queue_section x h.0, h.1)) queue_spelled)

  pub spelled : (own : Bool) (k : OperandKind) → is_plain own k ≡ true
      → (own ≡ true → AreDifferent (map (λ irq. irq.1) names.irqs)) → IfOk (read_at k names w) (HasThis k)
  spelled own (Number bound) plain differ = number_spelled w bound (leb-true bound (2 ^ 32) plain)
  spelled own IrqName plain differ = irq_spelled (differ plain)
  spelled own FirstIrqName plain differ = first_irq_spelled
  spelled own TaskName plain differ = named w names.tasks
  spelled own BodyName plain differ = body_spelled
  spelled own LockName plain differ = lock_spelled
  spelled own QueueName plain differ = queue_spelled
  spelled own SectionName plain differ = section_spelled

-- a name is no word of the language
no_such_word : (text word : List ℕ) → IsName text → is_word word ≡ true → bytes_eq text word ≡ false
no_such_word text word named is =
    false_from_ne_true (bytes_eq text word) (λ e.
    let same : text ≡ word = (bytes_eq-Decides text word).0 e in
    false≢true (sym named.no_word ∙ (ap is_word same ∙ is)))

module _ (names : Names) (are : AreNames names) where
  irq_read : (irq : ℕ) → IsDeclared names irq → irq_at names (irq_name names irq) ≡ Ok irq
  irq_read irq h = let known = irq_known names irq are h in rw (known.0, known.1) refl

  pub first_irq_read : (irq : ℕ) → IsDeclared names irq → first_irq_at names (irq_name names irq) ≡ Ok irq
  first_irq_read irq h = let name = irq_name names irq in
      rw (irq_read irq h, (bytes_eq-Decides name name).1 refl) refl

  task_read : (t : ℕ) → IsTask names t → task_at names (task_name names t) ≡ Ok t
  task_read t h = let named = name_at names.tasks t are.tasks h in rw (named.identifier, task_found names t are h) refl

  body_read : (b : BodyId) → IsBody names b → body_at names (body_name names b) ≡ Ok b
  body_read body.Init h = refl
  body_read body.Idle h = refl
  body_read (body.Task t) h =
      let named = name_at names.tasks t are.tasks h in
      rw (
        no_such_word (task_name names t) (codes "init") named refl,
        no_such_word (task_name names t)
            (codes "idle") named refl,
        task_read t h,
      ) refl

  lock_read : (x : Section) → IsLock names x → lock_at names (section_name names x) ≡ Ok x
  lock_read (section.Res r) h = let named = name_at names.shared r are.shared h in
      rw (named.identifier, resource_found names r are h) refl
  lock_read queue h = absurd h

  queue_read : (x : Section) → IsQueue names x → queue_at names (section_name names x) ≡ Ok x
  queue_read (section.Res r) h = absurd h
  queue_read (section.Free t) h = rw (task_read t h) refl
  queue_read (section.Ready p) h = rw (number_read (2 ^ 8) p h (omega arith)) refl
  queue_read section.Timer h = refl

  section_read : (x : Section) → IsSection names x → section_at names (section_name names x) ≡ Ok x
  section_read (section.Res r) h = let named = name_at names.shared r are.shared h in
      rw (named.identifier, resource_found names r are h) refl
  section_read queue h = queue_read queue h

pub word_is_read : (names : Names) (own : Bool) (k : OperandKind) (v : OperandValue k) → is_plain own k ≡ true
    → AreNames names
    → HasWord names k v
    → read_at k names (word names k v) ≡ Ok v
word_is_read names own (Number bound) n plain are has = number_read bound n has (leb-true bound (2 ^ 32) plain)
word_is_read names own IrqName irq plain are has = irq_read names are irq has
word_is_read names own FirstIrqName irq plain are has = first_irq_read names are irq has
word_is_read names own TaskName t plain are has = task_read names are t has
word_is_read names own BodyName b plain are has = body_read names are b has
word_is_read names own LockName x plain are has = lock_read names are x has
word_is_read names own QueueName x plain are has = queue_read names are x has
word_is_read names own SectionName x plain are has = section_read names are x has
