-- What statements need of a frame, as one walk over a body finds it.
use Rattle.std.specs.Prelude.{◌+◌, max, false, ◌||◌, map}
use Rattle.rt_app.specs.Tree.{Expression, Spawn, Value, Statement, Block}
use Rattle.rt_ids.specs.Lists.{greatest}
use Rattle.rt_app.specs.Variables.{variables_in, variables}
use Rattle.rt_app.specs.Spawned.{value_spawns, statement_spawns, spawns}
use Rattle.rt_app.specs.Frame.{expression_depth, spawn_depth, value_depth, statement_depth, block_depth, is_loop}
use Rattle.rt_app.specs.Frame.{has_loop}
use Rattle.rt_app.specs.Frame.{statement_locks, locks, spawn_words}
use Rattle.rt_frames.specs.declared.frame.Parts.{Parts}
use Rattle.rt_frames.specs.Inside.Saturated.{saturated_number}

-- what two pieces of a body need together
abbrev pub both : Parts → Parts → Parts
both a b = record {
  variables = saturated_number (a.variables + b.variables);
  depth = max a.depth b.depth;
  has_loop = a.has_loop || b.has_loop;
  locks = max a.locks b.locks;
  spawns = max a.spawns b.spawns;
}

-- what an expression needs
abbrev pub expression_parts : Expression → Parts
expression_parts e = record {
  variables = 0;
  depth = saturated_number (expression_depth e);
  has_loop = false;
  locks = 0;
  spawns = 0;
}

-- what a spawn needs
abbrev pub spawn_parts : Spawn → Parts
spawn_parts s = record {
  variables = 0;
  depth = saturated_number (spawn_depth s);
  has_loop = false;
  locks = 0;
  spawns = spawn_words s;
}

-- what the value of a `let` needs
abbrev pub value_parts : Value → Parts
value_parts v = record {
  variables = 0;
  depth = saturated_number (value_depth v);
  has_loop = false;
  locks = 0;
  spawns = greatest (map spawn_words (value_spawns v));
}

-- what a statement needs
abbrev pub statement_parts : Statement → Parts
statement_parts s = record {
  variables = saturated_number (variables_in s);
  depth = saturated_number (statement_depth s);
  has_loop = is_loop s;
  locks = saturated_number (statement_locks s);
  spawns = greatest (map spawn_words (statement_spawns s));
}

-- what a block needs
abbrev pub block_parts : Block → Parts
block_parts b = record {
  variables = saturated_number (variables b);
  depth = saturated_number (block_depth b);
  has_loop = has_loop b;
  locks = saturated_number (locks b);
  spawns = greatest (map spawn_words (spawns b));
}
