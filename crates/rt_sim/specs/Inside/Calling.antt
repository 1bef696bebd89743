-- By which rows a job calls bodies, and the frame from which it calls. A dispatcher calls bodies of its level alone,
-- whose frames have room on top of its own; other handlers, and the thread, call none. It is this project's own.
use Rattle.std.specs.Prelude.{◌≡◌, ℕ, ◌+◌, ◌≤◌, ◌⊎◌, Bool, true, false, List, length, slice_get, Option, Some, None}
use Rattle.rt_app.specs.Tree.{App}
use Rattle.rt_app.specs.Stack.{need}
use Rattle.rt_code.specs.Image.{Image}
use Rattle.rt_code.specs.Tables.{arguments_in}
use Rattle.rt_code.specs.declared.image.BodyRow.{BodyRow}
use Rattle.rt_laws.specs.State.{Role, Serving}

-- a handler of an interrupt, which returns
abbrev pub handles : Role → Bool
handles (Serving irq) = true
handles role = false

-- the frame of a job's own code, also while a called body runs
abbrev pub own_slots : Option (List ℕ) → List ℕ → List ℕ
own_slots None slots = slots
own_slots (Some frame) slots = frame

module _ (app : App) (img : Image) where
  -- A job of this role is a handler, and may call by this row of the image: the body's frame has room on top of its
  -- own.
  pub record IsCallable (role : Role) (priority own k : ℕ) (row : BodyRow) : Type 0 where
    pub handler : handles role ≡ true
    pub same : slice_get img.bodies k ≡ Some row
    pub room : own + row.frame ≤ need app priority

  -- the rows of bodies as a job's code sees them: by each it may call, or the row leads past all code
  pub record CallsWithin (role : Role) (priority own : ℕ) (rows : List BodyRow) : Type 0 where
    pub arguments : (t : ℕ) → arguments_in rows t ≡ arguments_in img.bodies t
    pub each : (k : ℕ) (row : BodyRow) → slice_get rows k ≡ Some row
        → (row.entry ≡ length img.code) ⊎ IsCallable role priority own k row
