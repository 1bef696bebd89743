-- What the bodies of an application that can be run hold: in one of its bodies, somewhere among its statements, a
-- block, a statement, a value or a spawn keeps the rules.
use Rattle.std.specs.Prelude.{ℕ, List}
use Rattle.rt_app.specs.Tree.{App, Spawn, Value, Statement, Block}
use Rattle.rt_app.specs.Bodies.{Member}
use Rattle.rt_app.specs.Sound.{IsSoundSpawn, IsSoundValue, IsSoundStatement, IsSoundBlock}

module _ (app : App) where
  -- a spawn
  abbrev pub IsSpawnReached : Spawn → Type 0
  IsSpawnReached s = (m : Member) × (locked : List ℕ) × IsSoundSpawn app m locked s

  -- the value of a `let`
  abbrev pub IsValueReached : Value → Type 0
  IsValueReached v = (m : Member) × (locked : List ℕ) × IsSoundValue app m locked v

  -- a statement
  abbrev pub IsStatementReached : Statement → Type 0
  IsStatementReached s =
      (m : Member) × (n : ℕ) × (locked : List ℕ) × (fixed : List ℕ) × IsSoundStatement app m n locked fixed s

  -- a block
  abbrev pub IsBlockReached : Block → Type 0
  IsBlockReached b =
      (m : Member) × (n : ℕ) × (locked : List ℕ) × (fixed : List ℕ) × IsSoundBlock app m n locked fixed b
