-- Worked examples: what the definitions of the core compute is what a person worked out. Handlers with locks.
use Rattle.std.proofs.Common.{◌≡◌, false, [], ◌∷◌, refl, codes, Some}
use Rattle.rt_ids.specs.Event.{Arrive}
use Rattle.rt_ids.specs.declared.op.Op.TheVariants as op
use Rattle.rt_ids.specs.declared.ids.BodyId.TheVariants as body
use Rattle.rt_ids.specs.declared.ids.Section.TheVariants as section
use Rattle.rt_code.specs.Image.{Image}
use Rattle.rt_code.specs.declared.instr.Instr.TheVariants as instr
use Rattle.rt_code.specs.declared.instr.Note.TheVariants as note
use Rattle.rt_trace.specs.declared.item.What.TheVariants as what
use Rattle.rt_core.specs.Stepping.{step}
use Rattle.rt_core.specs.Trace.{happen, labels, trace}
use Rattle.rt_core.proofs.RowParts.{enabled, plain, noted, core_steps, at}

-- A = 0 alone locks s, which is 5 after reset
own : Image
own = record {
  bits = 4;
  fpu = false;
  stack_bytes = 48;
  thread_words = 0;
  cells = record { name = codes "s"; first = 5 } ∷ [];
  irqs = enabled (codes "A") 0 224 2 4 ∷ [];
  bodies = [];
  code = noted instr.Serve (note.End body.Init) ∷ plain instr.Wait
      ∷ noted instr.Mark (note.Enter (section.Res 0)) ∷ plain (instr.Load 0 0) ∷ plain (instr.Set 1 1)
      ∷ plain (instr.Calc op.Add 0 0 1) ∷ plain (instr.Store 0 0)
      ∷ noted instr.Mark (note.Leave (section.Res 0)) ∷ plain instr.Ret ∷ [];
  names = record { irqs = (codes "A", 0) ∷ []; tasks = codes "a" ∷ []; shared = codes "s" ∷ [] };
}

-- a lock whose ceiling is the handler's own priority masks nothing; its leave shows the new value
lock_at_own_priority : trace own (Arrive 0 ∷ core_steps 100)
    ≡ at 0 (what.Pend 0) ∷ at 0 (what.End body.Init) ∷ at 1 (what.Take 0 48)
    ∷ at 2 (what.Enter (section.Res 0)) ∷ at 7 (what.Leave (section.Res 0) (Some 6)) ∷ at 8 (what.Ret 0) ∷ []
unfolding own labels happen step
lock_at_own_priority = refl

-- LO = 0 of the lowest priority and TOP = 1 of the highest, whose priority value is 0, lock s
top : Image
top = record {
  bits = 3;
  fpu = false;
  stack_bytes = 80;
  thread_words = 0;
  cells = record { name = codes "s"; first = 0 } ∷ [];
  irqs = enabled (codes "LO") 0 224 2 2 ∷ enabled (codes "TOP") 1 0 12 2 ∷ [];
  bodies = [];
  code = noted instr.Serve (note.End body.Init) ∷ plain instr.Wait
      ∷ noted (instr.Mask 1) (note.Enter (section.Res 0)) ∷ plain (instr.Set 0 1) ∷ plain (instr.Store 0 0)
      ∷ plain (instr.Post 1) ∷ plain (instr.Set 0 2) ∷ plain (instr.Store 0 0)
      ∷ noted (instr.Unmask 1) (note.Leave (section.Res 0)) ∷ plain (instr.Set 0 9) ∷ plain (instr.Emit 0)
      ∷ plain instr.Ret
      ∷ noted instr.Mark (note.Enter (section.Res 0)) ∷ plain (instr.Load 0 0) ∷ plain (instr.Emit 0)
      ∷ noted instr.Mark (note.Leave (section.Res 0)) ∷ plain instr.Ret ∷ [];
  names = record {
    irqs = (codes "LO", 0) ∷ (codes "TOP", 1) ∷ [];
    tasks = codes "lo" ∷ codes "hi" ∷ [];
    shared =
        codes "s" ∷ [];
  };
}

-- no BASEPRI masks the highest priority, so its ceiling takes PRIMASK: TOP waits for the leave
ceiling_of_the_highest_priority : trace top (Arrive 0 ∷ core_steps 200)
    ≡ at 0 (what.Pend 0) ∷ at 0 (what.End body.Init) ∷ at 1 (what.Take 0 40)
    ∷ at 2 (what.Enter (section.Res 0)) ∷ at 5 (what.Post 1) ∷ at 8 (what.Leave (section.Res 0) (Some 2))
    ∷ at 9 (what.Take 1 80) ∷ at 10 (what.Enter (section.Res 0)) ∷ at 12 (what.Emit 2)
    ∷ at 13 (what.Leave (section.Res 0) (Some 2)) ∷ at 14 (what.Ret 1)
    ∷ at 16 (what.Emit 9) ∷ at 17 (what.Ret 0) ∷ []
unfolding top labels happen step
ceiling_of_the_highest_priority = refl

-- L = 0, M = 1 and H = 2, of three priorities: L locks a, whose ceiling is M's priority, and in it b, whose ceiling is
-- H's
nest : Image
nest = record {
  bits = 4;
  fpu = false;
  stack_bytes = 128;
  thread_words = 0;
  cells = record { name = codes "a"; first = 0 } ∷ record { name = codes "b"; first = 0 } ∷ [];
  irqs = enabled (codes "L") 0 240 2 4 ∷ enabled (codes "M") 1 224 12 2 ∷ enabled (codes "H") 2 208 17 2 ∷ [];
  bodies = [];
  code = noted instr.Serve (note.End body.Init) ∷ plain instr.Wait
      ∷ noted (instr.Raise 1 224) (note.Enter (section.Res 0)) ∷ noted (instr.Raise 2 208) (note.Enter (section.Res 1))
      ∷ plain (instr.Set 0 1) ∷ plain (instr.Store 1 0) ∷ noted (instr.Restore 2) (note.Leave (section.Res 1))
      ∷ plain (instr.Post 2) ∷ plain (instr.Set 0 1) ∷ plain (instr.Store 0 0)
      ∷ noted (instr.Restore 1) (note.Leave (section.Res 0)) ∷ plain instr.Ret
      ∷ noted instr.Mark (note.Enter (section.Res 0)) ∷ plain (instr.Load 0 0) ∷ plain (instr.Emit 0)
      ∷ noted instr.Mark (note.Leave (section.Res 0)) ∷ plain instr.Ret
      ∷ noted instr.Mark (note.Enter (section.Res 1)) ∷ plain (instr.Load 0 1) ∷ plain (instr.Emit 0)
      ∷ noted instr.Mark (note.Leave (section.Res 1)) ∷ plain instr.Ret ∷ [];
  names = record {
    irqs = (codes "L", 0) ∷ (codes "M", 1) ∷ (codes "H", 2) ∷ [];
    tasks = codes "l" ∷ codes "m" ∷ codes "h" ∷ [];
    shared = codes "a" ∷ codes "b" ∷ [];
  };
}

-- the leave of the inner lock gives back the mask of the outer one: H is taken, with a still locked
nested_locks : trace nest (Arrive 0 ∷ core_steps 200)
    ≡ at 0 (what.Pend 0) ∷ at 0 (what.End body.Init) ∷ at 1 (what.Take 0 48)
    ∷ at 2 (what.Enter (section.Res 0)) ∷ at 3 (what.Enter (section.Res 1)) ∷ at 6 (what.Leave (section.Res 1) (Some 1))
    ∷ at 7 (what.Post 2) ∷ at 8 (what.Take 2 88) ∷ at 9 (what.Enter (section.Res 1)) ∷ at 11 (what.Emit 1)
    ∷ at 12 (what.Leave (section.Res 1) (Some 1)) ∷ at 13 (what.Ret 2)
    ∷ at 16 (what.Leave (section.Res 0) (Some 1)) ∷ at 17 (what.Ret 0) ∷ []
unfolding nest labels happen step
nested_locks = refl
