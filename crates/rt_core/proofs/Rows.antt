-- Worked examples: what the definitions of the core compute is what a person worked out. Handlers without locks.
use Rattle.std.proofs.Common.{◌≡◌, true, false, [], ◌∷◌, ◌++◌, refl, codes}
use Rattle.rt_ids.specs.Event.{Arrive}
use Rattle.rt_ids.specs.declared.ids.BodyId.TheVariants as body
use Rattle.rt_code.specs.Image.{Image}
use Rattle.rt_code.specs.declared.instr.Instr.TheVariants as instr
use Rattle.rt_code.specs.declared.instr.Note.TheVariants as note
use Rattle.rt_trace.specs.declared.item.What.TheVariants as what
use Rattle.rt_core.specs.Stepping.{step}
use Rattle.rt_core.specs.Trace.{happen, labels, trace}
use Rattle.rt_core.proofs.RowParts.{enabled, plain, noted, core_steps, at}

-- A = 3 and B = 7, both of one priority
two : Image
two = record {
  bits = 4;
  fpu = false;
  stack_bytes = 40;
  thread_words = 0;
  cells = [];
  irqs = enabled (codes "A") 3 224 5 2 ∷ enabled (codes "B") 7 224 2 2 ∷ [];
  bodies = [];
  code = noted instr.Serve (note.End body.Init) ∷ plain instr.Wait
      ∷ plain (instr.Set 0 20) ∷ plain (instr.Emit 0) ∷ plain instr.Ret
      ∷ plain (instr.Set 0 10) ∷ plain (instr.Emit 0) ∷ plain instr.Ret ∷ [];
  names = record { irqs = (codes "A", 3) ∷ (codes "B", 7) ∷ []; tasks = codes "b" ∷ codes "a" ∷ []; shared = [] };
}

-- of two pending interrupts of one priority the lower number is taken first, and the other one right after its return
lower_number_first : trace two (Arrive 7 ∷ Arrive 3 ∷ core_steps 20)
    ≡ at 0 (what.Pend 7) ∷ at 0 (what.Pend 3) ∷ at 0 (what.End body.Init)
    ∷ at 1 (what.Take 3 40) ∷ at 3 (what.Emit 10) ∷ at 4 (what.Ret 3)
    ∷ at 5 (what.Take 7 40) ∷ at 7 (what.Emit 20) ∷ at 8 (what.Ret 7) ∷ []
unfolding two labels happen step
lower_number_first = refl

-- with the floating-point extension each entry takes the space of an extended frame
extended : Image
extended = record two { fpu = true; stack_bytes = 112 }

extended_frames : trace extended (Arrive 7 ∷ Arrive 3 ∷ core_steps 20)
    ≡ at 0 (what.Pend 7) ∷ at 0 (what.Pend 3) ∷ at 0 (what.End body.Init)
    ∷ at 1 (what.Take 3 112) ∷ at 3 (what.Emit 10) ∷ at 4 (what.Ret 3)
    ∷ at 5 (what.Take 7 112) ∷ at 7 (what.Emit 20) ∷ at 8 (what.Ret 7) ∷ []
unfolding two extended labels happen step
extended_frames = refl

-- LO = 0, MID = 1 and HI = 2, of three priorities
three : Image
three = record {
  bits = 4;
  fpu = false;
  stack_bytes = 120;
  thread_words = 0;
  cells = [];
  irqs = enabled (codes "LO") 0 240 2 2 ∷ enabled (codes "MID") 1 224 5 2 ∷ enabled (codes "HI") 2 208 8 2 ∷ [];
  bodies = [];
  code = noted instr.Serve (note.End body.Init) ∷ plain instr.Wait
      ∷ plain (instr.Set 0 1) ∷ plain (instr.Emit 0) ∷ plain instr.Ret
      ∷ plain (instr.Set 0 2) ∷ plain (instr.Emit 0) ∷ plain instr.Ret
      ∷ plain (instr.Set 0 3) ∷ plain (instr.Emit 0) ∷ plain instr.Ret ∷ [];
  names = record {
    irqs = (codes "LO", 0) ∷ (codes "MID", 1) ∷ (codes "HI", 2) ∷ [];
    tasks = codes "lo" ∷ codes "mid" ∷ codes "hi" ∷ [];
    shared = [];
  };
}

-- a higher priority preempts at once, and the handlers return in the opposite order
higher_priority_preempts : trace three (core_steps 1 ++ Arrive 0 ∷ core_steps 1 ++ Arrive 1 ∷ core_steps 1 ++ Arrive 2
    ∷ core_steps 20)
    ≡ at 0 (what.End body.Init) ∷ at 1 (what.Pend 0) ∷ at 1 (what.Take 0 40)
    ∷ at 2 (what.Pend 1) ∷ at 2 (what.Take 1 80) ∷ at 3 (what.Pend 2) ∷ at 3 (what.Take 2 120)
    ∷ at 5 (what.Emit 3) ∷ at 6 (what.Ret 2) ∷ at 8 (what.Emit 2) ∷ at 9 (what.Ret 1)
    ∷ at 11 (what.Emit 1) ∷ at 12 (what.Ret 0) ∷ []
unfolding three labels happen step
higher_priority_preempts = refl

-- a pend of the handler that runs is kept, and it is taken again after its return
pend_of_active_is_kept : trace three (core_steps 1 ++ Arrive 0 ∷ core_steps 2 ++ Arrive 0 ∷ core_steps 20)
    ≡ at 0 (what.End body.Init) ∷ at 1 (what.Pend 0) ∷ at 1 (what.Take 0 40) ∷ at 3 (what.Pend 0)
    ∷ at 3 (what.Emit 1) ∷ at 4 (what.Ret 0) ∷ at 5 (what.Take 0 40) ∷ at 7 (what.Emit 1) ∷ at 8 (what.Ret 0) ∷ []
unfolding three labels happen step
pend_of_active_is_kept = refl

-- a pend of what is pending changes nothing: two pends are one entry
two_pends_one_entry : trace three (Arrive 0 ∷ Arrive 0 ∷ core_steps 10)
    ≡ at 0 (what.Pend 0) ∷ at 0 (what.Pend 0) ∷ at 0 (what.End body.Init)
    ∷ at 1 (what.Take 0 40) ∷ at 3 (what.Emit 1) ∷ at 4 (what.Ret 0) ∷ []
unfolding three labels happen step
two_pends_one_entry = refl
