-- How a core that fits at a point steps to one that fits at another: an interrupt is taken, a line leads on, where a
-- section opens or closes or neither does, `init` ends, or a handler returns.
use Rattle.std.specs.Prelude.{◌≡◌, ℕ, ◌<◌, List, [], ◌∷◌, slice_get, Option, Some, None}
use Rattle.rt_ids.specs.declared.ids.BodyId.TheVariants as body
use Rattle.rt_ids.specs.declared.ids.Section.{Section}
use Rattle.rt_trace.specs.declared.item.What.{What}
use Rattle.rt_trace.specs.declared.item.What.TheVariants as what
use Rattle.rt_code.specs.Image.{Image}
use Rattle.rt_code.specs.declared.image.Handler.{Handler}
use Rattle.rt_code.specs.declared.image.IrqRow.{IrqRow}
use Rattle.rt_code.specs.declared.instr.Instr.{Instr}
use Rattle.rt_core.specs.Core.{Core}
use Rattle.rt_core.specs.Priority.{pick}
use Rattle.rt_points.specs.declared.point.Opened.{Opened}
use Rattle.rt_points.specs.declared.point.Owner.TheVariants.{Starting, Thread, Handling}
use Rattle.rt_points.specs.ExecutionPriority.{execution_priority}
use Rattle.rt_points.specs.Leading.{LeadsTo, kind_of, starts_at}
use Rattle.rt_points.specs.Point.{Point}
use Rattle.rt_points.specs.Rules.{EntersAt}

-- an item that tells of no section, job or trap
abbrev pub IsSilent : Option What → Type 0
IsSilent None = Unit {0}
IsSilent (Some (what.Emit value)) = Unit {0}
IsSilent (Some (what.Post irq)) = Unit {0}
IsSilent (Some (what.Clock time)) = Unit {0}
IsSilent (Some (what.End body.Idle)) = Unit {0}
IsSilent shown = ⊥

module _ (img : Image) (c : Core) (p : Point) (qs : List Point) (shown : Option What) (q : Point)
    (rest : List Point) where
  -- an interrupt is taken
  pub record IsTaken : Type 0 where
    pub row : IrqRow
    pub index : ℕ
    pub handler : Handler
    pub depth : ℕ
    pub picked : pick img c ≡ Some row
    pub at : slice_get img.irqs index ≡ Some row
    pub enabled : row.handler ≡ Some handler
    pub above : handler.value < execution_priority img p.owner p.inside
    pub point : q ≡ starts_at handler.entry (Handling index)
    pub below : rest ≡ p ∷ qs
    pub shows : shown ≡ Some (what.Take row.number depth)

  -- a line leads on, and nobody else is woken or ends
  pub record GoesOn : Type 0 where
    pub none : pick img c ≡ None
    pub leads : LeadsTo img p q
    pub owner : q.owner ≡ p.owner
    pub below : rest ≡ qs

  -- a section opens
  pub record IsOpened : Type 0 where
    pub goes : GoesOn
    pub section : Section
    pub instr : Instr
    pub enters : EntersAt img p instr section
    pub inside : q.inside ≡ record { section = section; kind = kind_of instr } ∷ p.inside
    pub shows : shown ≡ Some (what.Enter section)

  -- the innermost section closes
  pub record IsClosed : Type 0 where
    pub goes : GoesOn
    pub opened : Opened
    pub value : Option ℕ
    pub inside : p.inside ≡ opened ∷ q.inside
    pub shows : shown ≡ Some (what.Leave opened.section value)

  -- `init` ends
  pub record IsServing : Type 0 where
    pub none : pick img c ≡ None
    pub before : p.owner ≡ Starting
    pub behind : q.owner ≡ Thread
    pub empty : q.inside ≡ []
    pub below : rest ≡ qs
    pub shows : shown ≡ Some (what.End body.Init)

  -- a handler returns
  pub record IsBack : Type 0 where
    pub none : pick img c ≡ None
    pub index : ℕ
    pub irq : ℕ
    pub handles : p.owner ≡ Handling index
    pub empty : p.inside ≡ []
    pub back : qs ≡ q ∷ rest
    pub shows : shown ≡ Some (what.Ret irq)

-- what happens in a core step of a core that fits
pub data Moved (img : Image) (c : Core) (p : Point) (qs : List Point) (shown : Option What) (q : Point)
    (rest : List Point) : Type 0 where
  Taken : IsTaken img c p qs shown q rest → Moved img c p qs shown q rest
  -- neither a section opens or closes, nor a job begins or ends
  Gone : GoesOn img c p qs shown q rest → q.inside ≡ p.inside → IsSilent shown → Moved img c p qs shown q rest
  Opened_one : IsOpened img c p qs shown q rest → Moved img c p qs shown q rest
  Closed_one : IsClosed img c p qs shown q rest → Moved img c p qs shown q rest
  Served : IsServing img c p qs shown q rest → Moved img c p qs shown q rest
  Back : IsBack img c p qs shown q rest → Moved img c p qs shown q rest
