-- Templates and parts of code for a timer queue, as lines.
use Rattle.std.specs.Prelude.{ℕ, ◌+◌, Bool, true, nat_lt, List, [], ◌∷◌, map, flat_map}
use Rattle.std.specs.List.{list_all}
use Rattle.rt_app.specs.declared.costs.TheConstants.{TIMER_QUEUE_WORDS}
use Rattle.rt_code.specs.declared.instr.Instr.{Instr}
use Rattle.rt_code.specs.declared.instr.Instr.TheVariants as instr
use Rattle.rt_gen_queue.specs.Line.{Line, plain, line_with_note}
use Rattle.rt_gen_timer.specs.TimerLines as lines
use Rattle.rt_gen_timer.specs.declared.emitter.Emitter.{Emitter}
use Rattle.rt_gen_timer.specs.declared.queue.TimerQueue.{TimerQueue}
use Rattle.rt_gen_timer.specs.declared.slots.TheConstants.{HAND, HOLE}
use Rattle.rt_gen_timer.specs.declared.template.Column.{Column}
use Rattle.rt_gen_timer.specs.declared.template.Column.TheVariants as column
use Rattle.rt_gen_timer.specs.declared.template.QueuePart.{QueuePart}
use Rattle.rt_gen_timer.specs.declared.template.QueuePart.TheVariants as part
use Rattle.rt_gen_timer.specs.declared.template.Template.{Template}
use Rattle.rt_gen_timer.specs.declared.template.Template.TheVariants as template

-- the first cell of a column
abbrev pub cell_of : TimerQueue → Column → ℕ
cell_of q column.Count = q.at
cell_of q column.Armings = lines.armings_of q
cell_of q column.HandleCount = lines.handle_count_of q
cell_of q column.Instants = lines.instants_of q
cell_of q column.Numbers = lines.numbers_of q
cell_of q column.Handles = lines.handles_of q
cell_of q column.Heap = lines.heap_of q

-- the slots that a template names
abbrev pub slots_of : Template → List ℕ
slots_of (template.Set to value) = to ∷ []
slots_of (template.Copy to from) = to ∷ from ∷ []
slots_of (template.Calc op to left right) = to ∷ left ∷ right ∷ []
slots_of (template.Load to c) = to ∷ []
slots_of (template.Store c from) = from ∷ []
slots_of (template.LoadAt to c index) = to ∷ index ∷ []
slots_of (template.StoreAt c index from) = index ∷ from ∷ []
slots_of (template.Jump to) = []
slots_of template.Again = []
slots_of (template.JumpZero tested to) = tested ∷ []
slots_of (template.Clock to) = to ∷ []
slots_of (template.Alarm instant) = instant ∷ []
slots_of template.NoAlarm = []
slots_of template.Ret = []

-- how far after the address from which jumps count a template jumps, and 0 for one that does not
abbrev pub distance_of : Template → ℕ
distance_of (template.Set to value) = 0
distance_of (template.Copy to from) = 0
distance_of (template.Calc op to left right) = 0
distance_of (template.Load to c) = 0
distance_of (template.Store c from) = 0
distance_of (template.LoadAt to c index) = 0
distance_of (template.StoreAt c index from) = 0
distance_of (template.Jump to) = to
distance_of template.Again = 0
distance_of (template.JumpZero tested to) = to
distance_of (template.Clock to) = 0
distance_of (template.Alarm instant) = 0
distance_of template.NoAlarm = 0
distance_of template.Ret = 0

-- whether these are among the 24
abbrev pub fits : Template → Bool
fits t = list_all (λ d. nat_lt d TIMER_QUEUE_WORDS) (slots_of t)

-- whether those of a part are
abbrev pub part_fits : QueuePart → Bool
part_fits (part.Code templates at) = list_all fits templates.now
part_fits (part.Enter threshold) = true
part_fits (part.Leave threshold) = true
part_fits (part.Settle note) = true
part_fits (part.Lines others) = true

module _ (e : Emitter) where
  -- the instruction of a template, which counts from an address
  abbrev pub instr_of : ℕ → Template → Instr
  instr_of at (template.Set to value) = instr.Set (e.slot + to) value
  instr_of at (template.Copy to from) = instr.Copy (e.slot + to) (e.slot + from)
  instr_of at (template.Calc op to left right) = instr.Calc op (e.slot + to) (e.slot + left) (e.slot + right)
  instr_of at (template.Load to c) = instr.Load (e.slot + to) (cell_of e.queue c)
  instr_of at (template.Store c from) = instr.Store (cell_of e.queue c) (e.slot + from)
  instr_of at (template.LoadAt to c index) = instr.LoadAt (e.slot + to) (cell_of e.queue c) (e.slot + index)
  instr_of at (template.StoreAt c index from) = instr.StoreAt (cell_of e.queue c) (e.slot + index) (e.slot + from)
  instr_of at (template.Jump to) = instr.Jump (at + to)
  instr_of at template.Again = instr.Jump at
  instr_of at (template.JumpZero tested to) = instr.JumpZ (e.slot + tested) (at + to)
  instr_of at (template.Clock to) = instr.Clock (e.slot + to)
  instr_of at (template.Alarm instant) = instr.Alarm (e.slot + instant) e.queue.irq
  instr_of at template.NoAlarm = instr.NoAlarm
  instr_of at template.Ret = instr.Ret

  -- the lines of templates, which count from an address
  abbrev pub code_of : ℕ → List Template → List Line
  code_of at templates = map (λ t. plain (instr_of at t)) templates

  -- the lines of a part
  abbrev pub lines_of : QueuePart → List Line
  lines_of (part.Code templates at) = code_of at templates.now
  lines_of (part.Enter threshold) = lines.enter_timer e.queue e.slot threshold ∷ []
  lines_of (part.Leave threshold) = lines.leave_timer e.queue e.slot threshold ∷ []
  lines_of (part.Settle note) =
      line_with_note (instr.StoreAt (lines.heap_of e.queue) (e.slot + HOLE) (e.slot + HAND)) note ∷ []
  lines_of (part.Lines others) = others.now

  -- the lines of parts, one after the other
  abbrev pub all_lines : List QueuePart → List Line
  all_lines parts = flat_map lines_of parts
