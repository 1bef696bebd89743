-- A worked example of handles: what Baker's machine gives where a message is put to another instant, and another is
-- taken back.
use Rattle.std.proofs.Common.{◌≡◌, ℕ, false, [], ◌∷◌, codes, Some, None, refl}
use Rattle.rt_ids.specs.Lists.{those_below}
use Rattle.rt_ids.specs.declared.op.Op.TheVariants as op
use Rattle.rt_ids.specs.declared.ids.BodyId.TheVariants as body
use Rattle.rt_ids.specs.declared.ids.Section.TheVariants as section
use Rattle.rt_trace.specs.Label.{Arrived}
use Rattle.rt_trace.specs.declared.item.What.TheVariants as what
use Rattle.rt_app.specs.declared.expr.Atom.TheVariants as atom
use Rattle.rt_app.specs.Tree.{Expression, Num, Read, Oper, Bind, Call, Emit, After, Cancel, Move, Then, App}
use Rattle.rt_app.proofs.RowParts.{irq, body_listing, hardware, software, last}
use Rattle.rt_laws.specs.State.{first}
use Rattle.rt_laws.specs.Allowed.{after}
use Rattle.rt_laws.proofs.RowParts.{play}

abbrev var : ℕ → Expression
var x = Read (atom.Var x) 0

abbrev with_times : Expression → ℕ → ℕ → Expression
with_times before x n = Oper op.Add before (Oper op.Mul (var x) (Num n))

abbrev told : Expression
told = with_times (with_times (with_times (with_times (var 2) 3 2) 4 4) 0 10) 1 100

-- app undo(bits = 4, dispatchers = [D])  interrupts { A = 0, D = 1, T = 2 }  monotonic(binds = T, priority = 3)
-- task a(binds = A, priority = 1) {
--     let h = spawn_after(5) t(1); let g = spawn_after(5) t(2); let x = reschedule_after(9) t(h);
--     let y = cancel t(g); let z = cancel t(g); emit x + y * 2 + z * 4 + h * 10 + g * 100;
-- }
-- task t(priority = 2, capacity = 2) with x { emit x; }
unfoldable pub undo : App
undo = record {
  bits = 4;
  fpu = false;
  irqs = irq (codes "A") 0 ∷ irq (codes "D") 1 ∷ irq (codes "T") 2 ∷ [];
  dispatchers = record { irq = 1; at = 0 } ∷ [];
  mono = Some (record { irq = 2; priority = 3; at = 0; priority_at = 0 });
  shared = [];
  locals = [];
  init = None;
  idle = None;
  tasks = hardware (codes "a") 0 1 (body_listing [] (Then (Bind 0 (Call (After 0 (Num 5) 1 (Num 1 ∷ []) 0))) (Then
      (Bind 1 (Call (After 0 (Num 5) 1 (Num 2 ∷ []) 0))) (Then
      (Bind 2 (Call (Move 0 (Num 9) 1 (var 0) 0))) (Then
      (Bind 3 (Call (Cancel 0 1 (var 1) 0))) (Then
      (Bind 4 (Call (Cancel 0 1 (var 1) 0)))
      (last (Emit told))))))))
      ∷ software (codes "t") 2 2 1 (body_listing [] (last (Emit (Read (atom.Var 0) 0))))
      ∷ [];
  name_at = 0;
}

-- The first message goes to the instant 9, the second is taken back and its place is free again; then the handle is
-- nobody's, and the last cancel finds no message.
goes_by_handles : play 60 undo (after undo (first undo) (Arrived 0))
    ≡ what.End body.Init ∷ what.Take 0 0
    ∷ what.Enter (section.Free 1) ∷ what.Placed 1 ∷ what.Leave (section.Free 1) None
    ∷ what.Enter section.Timer ∷ what.Clock 0 ∷ what.Arm 1 5 ∷ what.AlarmSet ∷ what.Leave section.Timer None
    ∷ what.Enter (section.Free 1) ∷ what.Placed 1 ∷ what.Leave (section.Free 1) None
    ∷ what.Enter section.Timer ∷ what.Clock 0 ∷ what.Arm 1 5 ∷ what.AlarmSet ∷ what.Leave section.Timer None
    ∷ what.Enter section.Timer ∷ what.Clock 0 ∷ what.Move 1 1 9 ∷ what.AlarmSet ∷ what.Leave section.Timer None
    ∷ what.Enter section.Timer ∷ what.Cancel 1 2 ∷ what.AlarmSet ∷ what.Leave section.Timer None
    ∷ what.Enter (section.Free 1) ∷ what.Free 1 ∷ what.Leave (section.Free 1) None
    ∷ what.Enter section.Timer ∷ what.Leave section.Timer None
    ∷ what.Emit 214 ∷ what.Ret 0 ∷ []
unfolding undo those_below
goes_by_handles = refl
