-- What contracts see of the sides of a mailbox.
use Rattle.std.specs.Prelude.{Bool, false, List, []}
use Rattle.atomic_table.specs.Seated.{TableId}
use Rattle.rt_values.specs.declared.call.Call.{Call}

-- a giver: its mailbox, and its calls with the answers that they got
pub record GiverSide : Type 0 where
  pub mailbox : TableId
  pub calls : List Call

-- the giver of this mailbox before its first call
abbrev pub new_giver : TableId → GiverSide
new_giver mailbox = record { mailbox = mailbox; calls = [] }

-- A taker: its mailbox, its calls with the answers that they got, whether it has taken in the giver, with the giver's
-- calls, and its own calls since then.
pub record TakerSide : Type 0 where
  pub mailbox : TableId
  pub calls : List Call
  pub gathered : Bool
  pub given : List Call
  pub last : List Call

-- the taker of this mailbox before its first call
abbrev pub new_taker : TableId → TakerSide
new_taker mailbox = record { mailbox = mailbox; calls = []; gathered = false; given = []; last = [] }
