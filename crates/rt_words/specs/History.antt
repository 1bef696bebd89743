-- Histories of the calls of several lines.
use Rattle.std.specs.Prelude.{◌≡◌, ℕ, ◌==◌, List, [], ◌∷◌, ◌++◌, map, filter, replicate}
use Rattle.rt_words.specs.declared.call.Call.{Call}
pub use Rattle.rt_words.specs.declared.call.Entry.{Entry}
use Rattle.rt_words.specs.Object.{IsAnswered, after}

-- each call got the answer of the words that it met, from the first words on, and the last words are left
abbrev pub LeavesWords : List ℕ → List Entry → List ℕ → Type 0
LeavesWords words [] last = words ≡ last
LeavesWords words (e ∷ es) last = IsAnswered words e.call × LeavesWords (after words e.call) es last

-- the history is legal (Herlihy and Wing, Linearizability, 1990): one thread could have made these calls, from 32 words
-- of 0 on
abbrev pub IsLegal : List Entry → List ℕ → Type 0
IsLegal history last = LeavesWords (replicate 32 0) history last

-- these calls, as one line makes them
abbrev pub entries : ℕ → List Call → List Entry
entries line calls = map (λ c. record { line = line; call = c }) calls

-- the history ends with these calls of one line, so that every call of another line comes before them
pub record CallsLast (history : List Entry) (line : ℕ) (calls : List Call) : Type 0 where
  pub earlier : List Entry
  pub is : history ≡ earlier ++ entries line calls

-- the calls of one line, in their order
abbrev pub part : List Entry → ℕ → List Call
part history line = map (λ e. e.call) (filter (λ e. e.line == line) history)
