-- What the statements of a body do that the rules speak of, in order of the text, with the resources that are locked
-- round it.
use Rattle.std.specs.Prelude.{ℕ, List, [], ◌∷◌, ◌++◌, flat_map}
use Rattle.rt_app.specs.declared.expr.Atom.{Atom}
use Rattle.rt_app.specs.Tree.{Expression, Num, Read, Oper, Spawn, Soon, After, Cancel, Move, Value, Calc, Now, Call}
use Rattle.rt_app.specs.Tree.{Statement, Bind, Assign, Branch, Repeat, Locked, Emit, Pend, Spawns, Block, Empty, Then}

-- a use that the rules speak of: a name is read or assigned, a resource is locked, a message is spawned, cancelled or
-- moved, or the time is asked for
pub data Use : Type 0 where
  Reads : Atom → (at : ℕ) → Use
  Writes : Atom → (at : ℕ) → Use
  Locks : (resource : ℕ) → (at : ℕ) → Use
  MakesSpawn : Spawn → Use
  AsksTime : (at : ℕ) → Use

-- a use, and the resources that are locked round it
pub record Placed : Type 0 where
  pub what : Use
  -- innermost first
  pub locked : List ℕ

module _ (locked : List ℕ) where
  -- a use with these resources locked
  abbrev pub use_with_locks : Use → Placed
  use_with_locks u = record { what = u; locked = locked }

  -- an expression reads its names
  abbrev pub reads : Expression → List Placed
  reads (Num n) = []
  reads (Read atom at) = use_with_locks (Reads atom at) ∷ []
  reads (Oper o left right) = reads left ++ reads right

  -- a spawn reads its delay, and its arguments or its handle
  abbrev pub spawn_uses : Spawn → List Placed
  spawn_uses (Soon task args at) = use_with_locks (MakesSpawn (Soon task args at)) ∷ flat_map reads args
  spawn_uses (After word delay task args at) =
      use_with_locks (MakesSpawn (After word delay task args at)) ∷ (reads delay ++ flat_map reads args)
  spawn_uses (Cancel word task handle at) = use_with_locks (MakesSpawn (Cancel word task handle at)) ∷ reads handle
  spawn_uses (Move word delay task handle at) =
      use_with_locks (MakesSpawn (Move word delay task handle at)) ∷ (reads delay ++ reads handle)

  -- the uses of the value of a `let`
  abbrev pub value_uses : Value → List Placed
  value_uses (Calc e) = reads e
  value_uses (Now at) = use_with_locks (AsksTime at) ∷ []
  value_uses (Call s) = spawn_uses s

abbrev mutual
  -- the uses of a statement and of its inner blocks, with these resources locked round it
  pub statement_uses : List ℕ → Statement → List Placed
  statement_uses locked (Bind x v) = value_uses locked v
  statement_uses locked (Assign x e at) = use_with_locks locked (Writes x at) ∷ reads locked e
  statement_uses locked (Branch e first second) = reads locked e ++ (uses locked first ++ uses locked second)
  statement_uses locked (Repeat x first last turn) = uses locked turn
  statement_uses locked (Locked r inner at) = use_with_locks locked (Locks r at) ∷ uses (r ∷ locked) inner
  statement_uses locked (Emit e) = reads locked e
  statement_uses locked (Pend i) = []
  statement_uses locked (Spawns s) = spawn_uses locked s

  -- the uses of a block in order of the text
  pub uses : List ℕ → Block → List Placed
  uses locked Empty = []
  uses locked (Then s rest) = statement_uses locked s ++ uses locked rest

-- the variables of a `for` and of those in inner blocks
abbrev mutual
  pub statement_loops : Statement → List ℕ
  statement_loops (Bind x v) = []
  statement_loops (Assign x e at) = []
  statement_loops (Branch e first second) = loops first ++ loops second
  statement_loops (Repeat x first last turn) = x ∷ loops turn
  statement_loops (Locked r inner at) = loops inner
  statement_loops (Emit e) = []
  statement_loops (Pend i) = []
  statement_loops (Spawns s) = []

  -- the variables of the `for` statements of a block
  pub loops : Block → List ℕ
  loops Empty = []
  loops (Then s rest) = statement_loops s ++ loops rest
