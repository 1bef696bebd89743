-- Words of operands are free of a byte of which the names are free.
use Rattle.std.proofs.Common.{◌≡◌, ◌==◌, ℕ, zero, suc, false, List, [], ◌∷◌, map, codes, decimal, Option, Some, None}
use Rattle.std.proofs.Common.{refl, option_map, slice_index_or}
use Rattle.std.specs.List.{AllByRecursion}
use Rattle.std.specs.Option.{unwrap_or}
use Rattle.rt_lemmas.proofs.Lists.{all_append, find_has}
use Rattle.rt_ids.specs.declared.ids.BodyId.TheVariants as body
use Rattle.rt_ids.specs.declared.ids.Section.{Section}
use Rattle.rt_ids.specs.declared.ids.Section.TheVariants as section
use Rattle.rt_ids.specs.Names.{Names}
use Rattle.rt_ids.specs.Naming.{irq_named, irq_name, task_name, section_name}
use Rattle.rt_lines.specs.Operand.{OperandKind, Number, IrqName, FirstIrqName, TaskName, BodyName, LockName, QueueName}
use Rattle.rt_lines.specs.Operand.{SectionName, OperandValue, word}
use Rattle.rt_lines.specs.Table.{Operand, operand_word}
use Rattle.rt_lines.proofs.Words.{is_word_byte, IsFreeOf, word_free, decimal_bytes}

-- no name has this byte
pub record AreFree (byte : ℕ) (names : Names) : Type 0 where
  pub irqs : AllByRecursion (λ irq. IsFreeOf byte irq.0) names.irqs
  pub tasks : AllByRecursion (IsFreeOf byte) names.tasks
  pub shared : AllByRecursion (IsFreeOf byte) names.shared

free_at : (byte : ℕ) (texts : List (List ℕ)) (i : ℕ) → AllByRecursion (IsFreeOf byte) texts
    → IsFreeOf byte (slice_index_or texts i [])
free_at byte [] i all = tt
free_at byte (x ∷ texts) zero all = all.0
free_at byte (x ∷ texts) (suc i) all = free_at byte texts i all.1

module _ (byte : ℕ) (none : is_word_byte byte ≡ false) (names : Names) (free : AreFree byte names) where
  irq_free : (irq : ℕ) → IsFreeOf byte (irq_name names irq)
  irq_free irq = by (irq_named names irq) refl
    where
      by : (row : Option (List ℕ × ℕ)) → irq_named names irq ≡ row
          → IsFreeOf byte (unwrap_or (option_map (λ r. r.0) row) [])
      by None is = tt
      by (Some row) is = find_has (λ r. IsFreeOf byte r.0) (λ r. r.1 == irq) names.irqs row free.irqs is

  task_free : (t : ℕ) → IsFreeOf byte (task_name names t)
  task_free t = free_at byte names.tasks t free.tasks

  section_free : (x : Section) → IsFreeOf byte (section_name names x)
  section_free (section.Res r) = free_at byte names.shared r free.shared
  section_free (section.Free t) = all_append (λ b. (b == byte) ≡ false) (codes "free.") (task_name names t)
      (word_free byte (codes "free.") none refl) (task_free t)
  section_free (section.Ready p) = all_append (λ b. (b == byte) ≡ false) (codes "ready.") (decimal p)
      (word_free byte (codes "ready.") none refl) (word_free byte (decimal p) none (decimal_bytes p))
  section_free section.Timer = word_free byte (codes "timer.0") none refl

  pub value_free : (k : OperandKind) (v : OperandValue k) → IsFreeOf byte (word names k v)
  value_free (Number bound) n = word_free byte (decimal n) none (decimal_bytes n)
  value_free IrqName irq = irq_free irq
  value_free FirstIrqName irq = irq_free irq
  value_free TaskName t = task_free t
  value_free BodyName body.Init = word_free byte (codes "init") none refl
  value_free BodyName body.Idle = word_free byte (codes "idle") none refl
  value_free BodyName (body.Task t) = task_free t
  value_free LockName x = section_free x
  value_free QueueName x = section_free x
  value_free SectionName x = section_free x

  pub words_free : (os : List Operand) → AllByRecursion (IsFreeOf byte) (map (operand_word names) os)
  words_free [] = tt
  words_free (o ∷ os) = (value_free o.0 o.1, words_free os)
