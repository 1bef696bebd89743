-- Histories of the calls of both sides of a mailbox.
use Rattle.std.specs.Prelude.{◌≡◌, ℕ, Bool, true, false, List, [], ◌∷◌, ◌++◌, filter, Option, None}
use Rattle.rt_values.specs.declared.call.Call.{Call}
use Rattle.rt_values.specs.declared.call.Call.TheVariants.{Give, Take}
use Rattle.rt_values.specs.Object.{IsAnswered, after}

-- each call got the answer of the word that waited then, from the first on, and the last is left
abbrev pub LeavesWord : Option ℕ → List Call → Option ℕ → Type 0
LeavesWord waits [] last = waits ≡ last
LeavesWord waits (call ∷ calls) last = IsAnswered waits call × LeavesWord (after waits call) calls last

-- the history is legal (Herlihy and Wing, Linearizability, 1990): one thread could have made these calls, from a
-- mailbox on in which no word waits
abbrev pub IsLegal : List Call → Option ℕ → Type 0
IsLegal history last = LeavesWord None history last

-- whether the call is one of the giver's
abbrev pub is_give : Call → Bool
is_give (Give word answer) = true
is_give (Take found) = false

-- whether the call is one of the taker's
abbrev pub is_taker_call : Call → Bool
is_taker_call (Give word answer) = false
is_taker_call (Take found) = true

-- the calls of the giver, in their order
abbrev pub gives : List Call → List Call
gives history = filter is_give history

-- the calls of the taker, in their order
abbrev pub takes : List Call → List Call
takes history = filter is_taker_call history

-- the history ends with these calls
pub record EndsWith (history calls : List Call) : Type 0 where
  pub earlier : List Call
  pub is : history ≡ earlier ++ calls

-- One legal history leaves this word. Its gives are those of the giver and its takes those of the taker: each once, in
-- its order, with the answer that it got. It ends with what the taker has taken since it took in the giver, so all
-- gives come before that. It is the history of one mailbox. Each mailbox has one of its own, and no more is wanted of
-- several: where a thread gives through one mailbox alone, and the core that takes from several has its takes in one
-- order, the histories are parts of one, with each give right before the next take of its mailbox.
pub record OneHistory (given taken last : List Call) (left : Option ℕ) : Type 0 where
  pub history : List Call
  pub legal : IsLegal history left
  pub gives_are : gives history ≡ given
  pub takes_are : takes history ≡ taken
  pub ended : EndsWith history last
