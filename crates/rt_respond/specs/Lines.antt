-- How the answers are printed: a line or two for each hardware task, two lines for each software task, a line for each
-- task whose jobs come of limited requests, the load, and the deadlines. A hardware task is named by the interrupt that
-- it binds.
use Rattle.std.specs.Prelude.{ℕ, List, [], ◌++◌, codes, decimal, flat_map, slice_get, Option, Some, None}
use Rattle.std.specs.Prelude.{if◌then◌else◌}
use Rattle.rt_app.specs.declared.app.IrqDecl.{IrqDecl}
use Rattle.rt_app.specs.Tree.{Task, App}
use Rattle.rt_app.specs.Level.{is_software}
use Rattle.rt_rta.specs.Report.{steps_text}
use Rattle.rt_respond.specs.declared.response.Response.{Response}
use Rattle.rt_respond.specs.declared.response.Response.TheVariants as response
use Rattle.rt_respond.specs.declared.report.Requests.{Requests}
use Rattle.rt_respond.specs.declared.report.Requests.TheVariants as requests
use Rattle.rt_respond.specs.declared.report.Served.{Served}
use Rattle.rt_respond.specs.declared.report.Caused.{Caused}
use Rattle.rt_respond.specs.declared.report.Judged.{Judged}
use Rattle.rt_respond.specs.declared.report.Report.{Report}

-- a response time, or a dash and why there is none
abbrev pub response_text : Response → List ℕ
response_text (response.Steps steps) = decimal steps
response_text response.Cycle = codes "- cycle"
response_text response.Over = codes "- over"

-- the name of a declared interrupt
abbrev pub name_of : Option IrqDecl → List ℕ
name_of None = []
name_of (Some d) = d.name

module _ (app : App) where
  -- the name of the interrupt of this index
  abbrev pub irq_text : ℕ → List ℕ
  irq_text irq = name_of (slice_get app.irqs irq)

  -- the name of a task: that of the interrupt that it binds, or its own
  abbrev pub judged_name : Task → Option ℕ → List ℕ
  judged_name t None = t.name
  judged_name t (Some irq) = irq_text irq

  -- the name of a task, where it is declared
  abbrev pub declared_name : Option Task → List ℕ
  declared_name None = []
  declared_name (Some t) = judged_name t t.binds

  -- the name of the task of this number
  abbrev pub task_text : ℕ → List ℕ
  task_text n = declared_name (slice_get app.tasks n)

  -- a line of a word and a task
  abbrev pub note : List ℕ → ℕ → List ℕ
  note word task = word ++ (task_text task ++ codes "\n")

  -- how requests may come, where that is told
  abbrev pub requests_text : Requests → ℕ → List ℕ
  requests_text requests.Never task = note (codes "never ") task
  requests_text requests.Merge task = note (codes "merge ") task
  requests_text requests.Apart task = []
  requests_text requests.Messages task = []

  -- the word of the line of a task: of a software task, or of an interrupt
  abbrev pub answer_word : Option Task → List ℕ
  answer_word None = codes "irq "
  answer_word (Some t) = if is_software t then codes "task " else codes "irq "

  -- the line of the response time of a task
  abbrev pub answer_text : Served → List ℕ
  answer_text row =
      answer_word (slice_get app.tasks row.task) ++ (task_text row.task ++ (codes " " ++ (decimal row.priority
      ++ (codes " " ++ (response_text row.response ++ codes "\n")))))

  -- the line of the room that a task's messages need, and of its capacity
  unfoldable pub room_text : Served → List ℕ
  room_text row =
      codes "room " ++ (task_text row.task ++ (codes " " ++ (steps_text row.room
      ++ (codes " " ++ (decimal row.capacity ++ codes "\n")))))

  -- the line of the messages of a software task
  abbrev pub messages_text : Requests → Served → List ℕ
  messages_text requests.Messages row = room_text row
  messages_text requests.Never row = []
  messages_text requests.Merge row = []
  messages_text requests.Apart row = []

  -- the lines of a task
  unfoldable pub served_text : Served → List ℕ
  served_text row = answer_text row ++ (requests_text row.requests row.task ++ messages_text row.requests row)

  -- the line of what comes of requests
  unfoldable pub caused_text : Caused → List ℕ
  caused_text row =
      codes "from " ++ (irq_text row.from ++ (codes " " ++ (task_text row.to
      ++ (codes " " ++ (response_text row.response ++ codes "\n")))))

  -- the line of a deadline
  unfoldable pub judged_text : Judged → List ℕ
  judged_text row =
      (if row.is_met then codes "met " else codes "late ")
      ++ (task_text row.task ++ (codes " " ++ (decimal row.deadline ++ codes "\n")))

  -- all lines
  abbrev pub report_text : Report → List ℕ
  report_text report =
      flat_map served_text report.served.items
      ++ (flat_map caused_text report.caused.items
      ++ (codes "load " ++ (steps_text report.load ++ (codes "\n" ++ flat_map judged_text report.judged.items))))
