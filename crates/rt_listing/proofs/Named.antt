-- Interrupts, tasks, sections, bodies and numbers are told apart by their words.
use Rattle.std.proofs.Common.{◌≡◌, ◌≢◌, ℕ, ◌==◌, ◌<◌, Bool, false, cond, eqb, List, [], ◌∷◌, length, map, get_or, drop}
use Rattle.std.proofs.Common.{codes, bytes_eq, decimal, Contains, IsSome, Some, refl, ap, sym, subst, ◌∙◌, arith}
use Rattle.std.specs.List.{AllByRecursion, position_or_len, list_any, find}
use Rattle.std.specs.Str.Parse.{digits_value}
use Rattle.std.proofs.lemmas.Fmt.{decimal_is_IsNumeral}
use Rattle.std.proofs.lemmas.List.{length-map, get_or-map, get_or_default}
use Rattle.std.proofs.lemmas.List.Elements.{All-from_recursion}
use Rattle.std.proofs.lemmas.List.Folds.{find_at}
use Rattle.std.proofs.lemmas.List.Sums.{position_or_len_is, passes_at_first}
use Rattle.std.proofs.lemmas.Option.{slice_get-get_or}
use Rattle.std.proofs.lemmas.Slice.Eq.{bytes_eq-Decides}
use Rattle.std.proofs.lemmas.Bool.{eqb-true, ne_eqb, false_from_ne_true}
use Rattle.rt_lemmas.proofs.Lists.{all_front, is_some_within}
use Rattle.rt_ids.specs.Lists.{AreDifferent}
use Rattle.rt_ids.specs.Names.{Names}
use Rattle.rt_ids.specs.Naming.{irq_name, task_name, section_name, body_name, IsDeclared, IsTask, IsBody}
use Rattle.rt_ids.specs.declared.ids.BodyId.{BodyId}
use Rattle.rt_ids.specs.declared.ids.BodyId.TheVariants as body
use Rattle.rt_ids.specs.declared.ids.Section.{Section}
use Rattle.rt_ids.specs.declared.ids.Section.TheVariants as section
use Rattle.rt_code.specs.Listable.{IsPlain, AreWritable, HasSection, HasInstr, HasNote}
use Rattle.rt_code.specs.declared.instr.Instr.{Instr}
use Rattle.rt_code.specs.declared.instr.Instr.TheVariants as instr
use Rattle.rt_code.specs.declared.instr.Note.{Note}
use Rattle.rt_code.specs.declared.instr.Note.TheVariants as note
use Rattle.rt_lines.specs.Operand.{OperandKind, Number, IrqName, FirstIrqName, TaskName, BodyName, LockName, QueueName}
use Rattle.rt_lines.specs.Operand.{SectionName, OperandValue, word}
use Rattle.rt_lines.specs.Table.{Operand}
use Rattle.rt_listing.specs.Numbers.{IsShort, AreShort, section_numbers, instr_numbers, note_numbers}
use Rattle.rt_listing.specs.Words.{instr_operands, note_operands}

-- numbers of 64 bits are told apart
pub number_back : (n : ℕ) → IsShort n → digits_value 10 (decimal n) ≡ n
number_back n short = let numeral = decimal_is_IsNumeral n short in numeral.1

pub same_number : (n m : ℕ) → IsShort n → IsShort m → decimal n ≡ decimal m → n ≡ m
same_number n m p q e = sym (number_back n p) ∙ ap (digits_value 10) e ∙ number_back m q

-- what is named by a word
abbrev index_of : List (List ℕ) → List ℕ → ℕ
index_of names w = position_or_len (λ name. bytes_eq name w) names

index_back : (names : List (List ℕ)) (i : ℕ) → AreDifferent names → i < length names
    → index_of names (get_or names i []) ≡ i
index_back names i distinct below =
    let other = λ (k : ℕ) (before : k < i). false_from_ne_true (bytes_eq (get_or names k []) (get_or names i [])) (λ e.
    let same : get_or names k [] ≡ get_or names i [] = (bytes_eq-Decides _ _).0 e in
    let there : k ≡ i = distinct k i _ (slice_get-get_or names k [] (omega arith) ∙ ap Some same)
    (slice_get-get_or names i [] below) in
    omega (arith, there, before)) in
    position_or_len_is _ names i [] (omega arith) other (λ h. (bytes_eq-Decides (get_or names i []) _).1 refl)

abbrev irq_names : Names → List (List ℕ)
irq_names names = map (λ irq. irq.0) names.irqs

abbrev irq_of : Names → List ℕ → ℕ
irq_of names w = (get_or names.irqs (index_of (irq_names names) w) ([], 0)).1

-- a section: a resource where there is no dot, and else by the first byte
abbrev has_dot : List ℕ → Bool
has_dot w = list_any (λ b. eqb b 46) w

abbrev section_of : Names → List ℕ → Section
section_of names w =
    cond (has_dot w)
    (cond (eqb (get_or w 0 0) 102) (section.Free (index_of names.tasks (drop 5 w)))
    (cond (eqb (get_or w 0 0) 114) (section.Ready (digits_value 10 (drop 6 w))) section.Timer))
    (section.Res (index_of names.shared w))

no_dot : (w : List ℕ) → AllByRecursion (λ b. b ≢ 46) w → has_dot w ≡ false
no_dot [] h = refl
no_dot (b ∷ w) h = rw (ne_eqb b 46 h.0, no_dot w h.1) refl

-- a body: a task where the word is that of no other
abbrev body_of : Names → List ℕ → BodyId
body_of names w = cond (bytes_eq w (codes "init")) body.Init
    (cond (bytes_eq w (codes "idle")) body.Idle (body.Task (index_of names.tasks w)))

is_other : (names : List (List ℕ)) (i : ℕ) (w : List ℕ) → i < length names → ¬ Contains names w
    → bytes_eq (get_or names i []) w ≡ false
is_other names i w below out = false_from_ne_true _
    (λ e. out (i, below, get_or_default names i w [] below ∙ (bytes_eq-Decides _ w).0 e))

module _ (names : Names) (good : AreWritable names) where
  irq_back : (n : ℕ) → IsDeclared names n → irq_of names (irq_name names n) ≡ n
  irq_back n here =
      let name = λ (irq : List ℕ × ℕ). irq.0 in
      let test = λ (irq : List ℕ × ℕ). irq.1 == n in
      let first = position_or_len test names.irqs in
      let below : first < length names.irqs = is_some_within names.irqs first
      (subst IsSome (find_at test names.irqs) here) in
      let found : find test names.irqs ≡ Some (get_or names.irqs first ([], 0)) =
      find_at test names.irqs ∙ slice_get-get_or names.irqs first ([], 0) below in
      let at_first : get_or (irq_names names) first [] ≡ name (get_or names.irqs first ([], 0)) =
      get_or-map name names.irqs first ([], 0) [] below in
      let named : irq_name names n ≡ get_or (irq_names names) first [] = rw (found, at_first) refl in
      let counted : first < length (irq_names names) = omega (arith, length-map names.irqs name) in
      let index : index_of (irq_names names) (irq_name names n) ≡ first =
      rw named (index_back (irq_names names) first good.irqs_differ counted) in
      ap (λ (k : ℕ). (get_or names.irqs k ([], 0)).1) index
      ∙ (eqb-true _ n (passes_at_first test names.irqs ([], 0) below))

  task_back : (t : ℕ) → IsTask names t → index_of names.tasks (task_name names t) ≡ t
  task_back t here = index_back names.tasks t good.tasks_differ here

  section_back : (s : Section) → HasSection names s → AreShort (section_numbers s)
      → section_of names (section_name names s) ≡ s
  section_back (section.Res r) here short =
      let plain = All-from_recursion IsPlain names.shared good.shared r [] here in
      rw (no_dot _ plain.plain, index_back names.shared r good.shared_differ here) refl
  section_back (section.Free t) here short = ap section.Free (task_back t here)
  section_back (section.Ready p) here short = ap section.Ready (number_back p short.0)
  section_back section.Timer here short = refl

  body_back : (b : BodyId) → IsBody names b → body_of names (body_name names b) ≡ b
  body_back body.Init here = refl
  body_back body.Idle here = refl
  body_back (body.Task t) here =
      rw (
        is_other names.tasks t (codes "init") here good.no_init,
        is_other names.tasks t (codes "idle") here good.no_idle,
      ) (ap body.Task (task_back t here))

  -- a value of a kind that listings have has its name, and numbers of 64 bits
  abbrev HasName : (k : OperandKind) → OperandValue k → Type 0
  HasName (Number bound) n = IsShort n
  HasName FirstIrqName irq = IsDeclared names irq
  HasName TaskName t = IsTask names t
  HasName BodyName b = IsBody names b
  HasName SectionName s = HasSection names s × AreShort (section_numbers s)
  HasName k v = ⊥

  abbrev pub IsNamed : Operand → Type 0
  IsNamed operand = HasName operand.0 operand.1

  pub same_value : (k : OperandKind) (v w : OperandValue k) → IsNamed (k, v) → IsNamed (k, w)
      → word names k v ≡ word names k w
      → v ≡ w
  same_value (Number bound) v w p q e = same_number v w p q e
  same_value IrqName v w p q e = absurd p
  same_value FirstIrqName v w p q e = sym (irq_back v p) ∙ ap (irq_of names) e ∙ irq_back w q
  same_value TaskName v w p q e = sym (task_back v p) ∙ ap (index_of names.tasks) e ∙ task_back w q
  same_value BodyName v w p q e = sym (body_back v p) ∙ ap (body_of names) e ∙ body_back w q
  same_value LockName v w p q e = absurd p
  same_value QueueName v w p q e = absurd p
  same_value SectionName v w p q e =
      sym (section_back v p.0 p.1) ∙ ap (section_of names) e ∙ section_back w q.0 q.1

  pub instr_named : (i : Instr) → HasInstr names i → AreShort (instr_numbers i)
      → AllByRecursion IsNamed (instr_operands i)
  instr_named (instr.Post irq) has short = (has, tt)
  instr_named (instr.Alarm s irq) has short = (short.0, (has, tt))
  instr_named i has short = short

  pub note_named : (n : Note) → HasNote names (Some n) → AreShort (note_numbers (Some n))
      → AllByRecursion IsNamed (note_operands n)
  note_named (note.Enter s) has short = ((has, all_front IsShort (section_numbers s) [] short), tt)
  note_named (note.Leave s) has short = ((has, all_front IsShort (section_numbers s) [] short), tt)
  note_named n has short = (has, short)
