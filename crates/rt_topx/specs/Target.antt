-- What a program is made for, from what the text of a board tells of the chip: its memories, the port, the ticks, and
-- for each input with a word the cell that is read as the input's task is taken. The cells of local resources lie
-- behind those of shared ones.
use Rattle.std.specs.Prelude.{ℕ, ◌==◌, Bool, List, filter_map, find, Option, Some, None, option_map}
use Rattle.rt_ids.specs.Lists.{then_from}
use Rattle.rt_app.specs.Layout.{local_at}
use Rattle.rt_app.specs.Tree.{App}
use Rattle.rt_board.specs.Board.{Board}
use Rattle.rt_board.specs.declared.board.Input.{Input as Writes}
use Rattle.rt_given.specs.Given.{input_irq}
use Rattle.rt_native.specs.Target.{Target}
use Rattle.rt_native.specs.declared.target.Input.{Input}
use Rattle.rt_native.specs.declared.target.Region.{Region}
use Rattle.rt_target.specs.Chip.{is_flash, is_ram, is_port, is_tick}
use Rattle.rt_target.specs.Setup.{Setup}
use Rattle.rt_target.specs.declared.fact.Fact.{Fact}
use Rattle.rt_target.specs.declared.fact.Fact.TheVariants.{Flash, Ram, Port, Tick, Word, Call}

-- the memory of a fact that is of one
abbrev pub region_of : Option Fact → Region
region_of (Some (Flash a n)) = record { address = a; size = n }
region_of (Some (Ram a n)) = record { address = a; size = n }
region_of fact = record { address = 0; size = 0 }

-- the address of a port
abbrev pub address_of : Option Fact → ℕ
address_of (Some (Port a)) = a
address_of fact = 0

-- the reload value of a tick, where there is one
abbrev pub reload_of : Option Fact → Option ℕ
reload_of (Some (Tick n)) = Some n
reload_of fact = None

-- an input is this local resource
abbrev pub is_of_local : ℕ → Writes → Bool
is_of_local local input = input.local == local

-- the interrupt of the task of the input that is this local resource
abbrev pub irq_of_local : App → Board → ℕ → Option ℕ
irq_of_local app board local = then_from (find (is_of_local local) board.inputs) (input_irq app)

-- the cell that is read from a device where a fact says so
abbrev pub input_read : App → Board → Fact → Option Input
input_read app board (Word local a) =
    option_map (λ irq. record { irq = irq; cell = local_at app local; address = a }) (irq_of_local app board local)
input_read app board fact = None

abbrev pub inputs_of : App → Board → List Fact → List Input
inputs_of app board facts = filter_map (input_read app board) facts

-- the interrupt as which a function of C is called first, where a fact says so
abbrev pub irq_called : Fact → Option ℕ
irq_called (Call irq) = Some irq
irq_called fact = None

-- what a program is made for
abbrev pub target_of : App → Setup → Target
target_of app setup = record {
  flash = region_of (find is_flash setup.facts);
  ram = region_of (find is_ram setup.facts);
  port = address_of (find is_port setup.facts);
  tick = reload_of (find is_tick setup.facts);
  inputs = inputs_of app setup.board setup.facts;
  calls = filter_map irq_called setup.facts;
}
