-- The table of words and what writes items agree.
use Rattle.std.proofs.Common.{◌≡◌, true, inl, inr, Some, None, refl}
use Rattle.rt_lines.specs.Operand.{IrqName, TaskName, BodyName, LockName, QueueName, SectionName}
use Rattle.rt_lines.specs.Table.{Shape, Alone, One, Two, Three, OneOrTwo, AndNumbers, Number32, Number8}
use Rattle.rt_lines.specs.Table.{IsSaid, Agree, shape_of}
use Rattle.rt_trace.specs.Words.{rows, first, operands, HasFewValues}
use Rattle.rt_trace.specs.declared.item.What.{What}
use Rattle.rt_trace.specs.declared.item.What.TheVariants as what

abbrev leave_shape : Shape What
leave_shape = OneOrTwo QueueName (λ x. what.Leave x None) LockName Number32 (λ x v. what.Leave x (Some v))

-- the row of what is shown
abbrev HasRow : What → Type 0
HasRow w = (shape : Shape What) × (shape_of rows (first w) ≡ Some shape) × IsSaid shape w (operands w)

has_row : (w : What) → HasFewValues w → HasRow w
has_row (what.Pend v) few = (One IrqName what.Pend, refl, (v, refl, refl))
has_row what.Tick few = (Alone what.Tick, refl, (refl, refl))
has_row what.Alarm few = (Alone what.Alarm, refl, (refl, refl))
has_row what.AlarmSet few = (Alone what.AlarmSet, refl, (refl, refl))
has_row (what.Take v u) few = (Two IrqName Number32 what.Take, refl, (v, u, refl, refl))
has_row (what.Ret v) few = (One IrqName what.Ret, refl, (v, refl, refl))
has_row (what.Post v) few = (One IrqName what.Post, refl, (v, refl, refl))
has_row (what.Clock v) few = (One Number32 what.Clock, refl, (v, refl, refl))
has_row (what.Trap v) few = (One Number8 what.Trap, refl, (v, refl, refl))
has_row (what.Enter v) few = (One SectionName what.Enter, refl, (v, refl, refl))
has_row (what.Leave x None) few = (leave_shape, refl, inl (x, refl, refl))
has_row (what.Leave x (Some v)) few = (leave_shape, refl, inr (x, v, refl, refl))
has_row (what.Emit v) few = (One Number32 what.Emit, refl, (v, refl, refl))
has_row (what.Placed v) few = (One TaskName what.Placed, refl, (v, refl, refl))
has_row (what.Full v) few = (One TaskName what.Full, refl, (v, refl, refl))
has_row (what.Ready v) few = (One TaskName what.Ready, refl, (v, refl, refl))
has_row (what.Start t args) few = (AndNumbers TaskName 4 what.Start, refl, (t, args, few, refl, refl))
has_row (what.Free v) few = (One TaskName what.Free, refl, (v, refl, refl))
has_row (what.Arm v u) few = (Two TaskName Number32 what.Arm, refl, (v, u, refl, refl))
has_row (what.Fire v) few = (One TaskName what.Fire, refl, (v, refl, refl))
has_row (what.Cancel v u) few = (Two TaskName Number32 what.Cancel, refl, (v, u, refl, refl))
has_row (what.Move t h v) few = (Three TaskName Number32 Number32 what.Move, refl, (t, h, v, refl, refl))
has_row (what.End v) few = (One BodyName what.End, refl, (v, refl, refl))

-- what is seen of a row and of those behind it
and_row : {A B : Type 0} → A → B → A × B
and_row a b = (a, b)

pub words_agree : Agree true rows first operands HasFewValues
words_agree = record {
  plain = refl;
  each = has_row;
  all =
      and_row (λ v. (refl, refl, tt))
      (and_row (refl, refl, tt)
      (and_row (refl, refl, tt)
      (and_row (refl, refl, tt)
      (and_row (λ v u. (refl, refl, tt))
      (and_row (λ v. (refl, refl, tt))
      (and_row (λ v. (refl, refl, tt))
      (and_row (λ v. (refl, refl, tt))
      (and_row (λ v. (refl, refl, tt))
      (and_row (λ v. (refl, refl, tt))
      (and_row ((λ v. (refl, refl, tt)), (λ v u. (refl, refl, tt)))
      (and_row (λ v. (refl, refl, tt))
      (and_row (λ v. (refl, refl, tt))
      (and_row (λ v. (refl, refl, tt))
      (and_row (λ v. (refl, refl, tt))
      (and_row (λ t args few. (refl, refl, few))
      (and_row (λ v. (refl, refl, tt))
      (and_row (λ v u. (refl, refl, tt))
      (and_row (λ v. (refl, refl, tt))
      (and_row (λ v u. (refl, refl, tt))
      (and_row (λ t h v. (refl, refl, tt))
      (and_row (λ v. (refl, refl, tt))
      tt)))))))))))))))))))));
}
