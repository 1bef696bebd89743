-- Worked examples: what the definitions of the core compute is what a person worked out. Calls of bodies, handles of
-- messages, and the alarm.
use Rattle.std.proofs.Common.{◌≡◌, false, [], ◌∷◌, ◌++◌, refl, codes}
use Rattle.rt_ids.specs.Event.{Arrive, Tick}
use Rattle.rt_ids.specs.declared.ids.BodyId.TheVariants as body
use Rattle.rt_code.specs.Image.{Image}
use Rattle.rt_code.specs.declared.instr.Instr.TheVariants as instr
use Rattle.rt_code.specs.declared.instr.Note.TheVariants as note
use Rattle.rt_trace.specs.declared.item.What.TheVariants as what
use Rattle.rt_core.specs.Stepping.{step}
use Rattle.rt_core.specs.Trace.{happen, core_after, labels, trace, depth_after}
use Rattle.rt_core.proofs.RowParts.{enabled, plain, noted, core_steps, at}

-- A = 0 calls a body of two words with its slot 0, which is 7; the region has room for both frames and no more
calling : Image
calling = record {
  bits = 4;
  fpu = false;
  stack_bytes = 56;
  thread_words = 0;
  cells = [];
  irqs = enabled (codes "A") 0 224 2 4 ∷ [];
  bodies = record { task = 0; entry = 6; frame = 2; args = 1 } ∷ [];
  code = noted instr.Serve (note.End body.Init) ∷ plain instr.Wait
      ∷ plain (instr.Set 0 7) ∷ plain (instr.Call 0 0) ∷ plain (instr.Emit 0) ∷ plain instr.Ret
      ∷ plain (instr.Emit 0) ∷ plain (instr.Set 0 9) ∷ plain (instr.Emit 0) ∷ plain instr.Back ∷ [];
  names = record { irqs = (codes "A", 0) ∷ []; tasks = codes "t" ∷ []; shared = [] };
}

-- the body has its argument, what it writes is its own, and the handler goes on behind the call
call_and_return : trace calling (Arrive 0 ∷ core_steps 20)
    ≡ at 0 (what.Pend 0) ∷ at 0 (what.End body.Init) ∷ at 1 (what.Take 0 48)
    ∷ at 4 (what.Emit 7) ∷ at 6 (what.Emit 9) ∷ at 8 (what.Emit 7) ∷ at 9 (what.Ret 0) ∷ []
unfolding calling labels happen step
call_and_return = refl

-- with its frame the stack is full, and its return gives the frame back
depth_of_a_call : depth_after calling (Arrive 0 ∷ core_steps 4) ≡ 56
unfolding calling core_after happen step
depth_of_a_call = refl

depth_after_its_return : depth_after calling (Arrive 0 ∷ core_steps 8) ≡ 48
unfolding calling core_after happen step
depth_after_its_return = refl

-- the thread has two slots, and takes back a message and puts one off by their handle
handling : Image
handling = record {
  bits = 4;
  fpu = false;
  stack_bytes = 8;
  thread_words = 2;
  cells = [];
  irqs = [];
  bodies = [];
  code = plain (instr.Set 0 7) ∷ plain (instr.Set 1 9) ∷ noted instr.Mark (note.Cancel 0 0)
      ∷ noted instr.Mark (note.Move 0 0 1) ∷ noted instr.Mark (note.Move 0 0 2) ∷ [];
  names = record { irqs = []; tasks = codes "t" ∷ []; shared = [] };
}

-- the items show what the slots hold, and a slot that is not in the frame traps
handles_are_shown : trace handling (core_steps 6)
    ≡ at 2 (what.Cancel 0 7) ∷ at 3 (what.Move 0 7 9) ∷ at 4 (what.Trap 2) ∷ []
unfolding handling labels happen step
handles_are_shown = refl

-- the thread sets the alarm to the instant 2 for A = 0
alarmed : Image
alarmed = record {
  bits = 4;
  fpu = false;
  stack_bytes = 48;
  thread_words = 1;
  cells = [];
  irqs = enabled (codes "A") 0 224 4 2 ∷ [];
  bodies = [];
  code = plain (instr.Set 0 2) ∷ plain (instr.Alarm 0 0) ∷ noted instr.Serve (note.End body.Init) ∷ plain instr.Wait
      ∷ plain instr.Ret ∷ [];
  names = record { irqs = (codes "A", 0) ∷ []; tasks = codes "a" ∷ []; shared = [] };
}

-- the tick before its instant does not bring it, the one at it does, and the one after it no more
alarm_comes_at_its_instant : trace alarmed (core_steps 3 ++ Tick ∷ core_steps 1 ++ Tick ∷ core_steps 2 ++ Tick
    ∷ core_steps 3)
    ≡ at 1 what.AlarmSet ∷ at 2 (what.End body.Init) ∷ at 3 what.Tick ∷ at 4 what.Tick ∷ at 4 what.Alarm
    ∷ at 4 (what.Take 0 44) ∷ at 5 (what.Ret 0) ∷ at 6 what.Tick ∷ []
unfolding alarmed labels happen step
alarm_comes_at_its_instant = refl

-- one that is set at its instant, or after it, comes at once
alarm_set_at_its_instant : trace alarmed (Tick ∷ Tick ∷ core_steps 6)
    ≡ at 0 what.Tick ∷ at 0 what.Tick ∷ at 1 what.Alarm ∷ at 2 (what.End body.Init) ∷ at 3 (what.Take 0 44)
    ∷ at 4 (what.Ret 0) ∷ []
unfolding alarmed labels happen step
alarm_set_at_its_instant = refl

alarm_set_after_its_instant : trace alarmed (Tick ∷ Tick ∷ Tick ∷ core_steps 6)
    ≡ at 0 what.Tick ∷ at 0 what.Tick ∷ at 0 what.Tick ∷ at 1 what.Alarm ∷ at 2 (what.End body.Init)
    ∷ at 3 (what.Take 0 44) ∷ at 4 (what.Ret 0) ∷ []
unfolding alarmed labels happen step
alarm_set_after_its_instant = refl
