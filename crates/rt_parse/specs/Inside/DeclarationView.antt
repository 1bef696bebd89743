-- What the parser of declarations keeps, as the readers' values.
use Rattle.std.specs.Prelude.{List, Option, Some, None}
use Rattle.std.specs.Prelude.{Vec}
use Rattle.rt_grammar.specs.Options as grammar
use Rattle.rt_grammar.specs.Declaration as declaration
use Rattle.rt_parse.specs.declared.declaration.Head.{Head}
use Rattle.rt_parse.specs.declared.body.BodyOptions.{BodyOptions}
use Rattle.rt_parse.specs.declared.body.Declared.{Declared}
use Rattle.rt_parse.specs.Inside.ReadingDeclaration as reading
use Rattle.rt_parse.specs.declared.body.Owner.{Owner}
use Rattle.rt_parse.specs.declared.body.Owner.TheVariants as owner

-- the first declaration
abbrev pub head_view : Head → declaration.Head
head_view h = record { name = h.name; bits = h.bits; dispatchers = h.dispatchers.items; fpu = h.fpu }

-- what is declared before the bodies
abbrev pub declared_view : Declared → reading.Declared
declared_view d = record {
  first = head_view d.first;
  irqs = d.irqs.items;
  mono = d.mono;
  shared = d.shared.items;
  locals = d.locals.items;
}

-- whose body it is
abbrev pub owner_view : Owner → grammar.Owner
owner_view owner.Init = grammar.OfInit
owner_view owner.Idle = grammar.OfIdle
owner_view owner.Task = grammar.OfTask

-- the items of a vector that may not be there
abbrev pub items_of : {A Z : Type 0} → Option (Vec A Z) → Option (List A)
items_of None = None
items_of (Some xs) = Some xs.items

-- the options of a body
abbrev pub options_view : BodyOptions → grammar.Options
options_view o = record {
  binds = o.binds;
  priority = o.priority;
  capacity = o.capacity;
  shared = items_of o.shared;
  local = items_of o.local;
}
