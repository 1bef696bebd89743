-- The front of the code as that of the definitions.
use Rattle.rt_lex.specs.Front as spec
use Rattle.rt_lex.specs.declared.front.Front as code

-- the front that the code's front is
abbrev pub front_view : code.Front → spec.Front
front_view front = record { len = front.len; kind = front.kind }
