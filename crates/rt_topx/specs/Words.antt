-- The words after the program's name, by position, and the command that they name.
use Rattle.std.specs.Prelude.{◌≡◌, ℕ, List, [], ◌∷◌, ◌++◌, codes}
use Rattle.rt_topx.specs.declared.command.Command.{Command}
use Rattle.rt_topx.specs.declared.command.Command.TheVariants as command

-- the words name this command
abbrev pub NamesCommand : List (List ℕ) → Command → Type 0
NamesCommand words command.Run = (app board script : List ℕ) × (words ≡ codes "run" ∷ app ∷ board ∷ script ∷ [])
NamesCommand words command.Audit = (app board trace : List ℕ) × (words ≡ codes "audit" ∷ app ∷ board ∷ trace ∷ [])
NamesCommand words command.Live = (app board script : List ℕ) × (words ≡ codes "live" ∷ app ∷ board ∷ script ∷ [])
NamesCommand words command.Native = (app board : List ℕ) × (words ≡ codes "native" ∷ app ∷ board ∷ [])
NamesCommand words command.Why = (image : List ℕ) × (words ≡ codes "why" ∷ image ∷ [])
NamesCommand words command.Cycles = (app : List ℕ) × (words ≡ codes "cycles" ∷ app ∷ [])
NamesCommand words command.Bounds = (image : List ℕ) × (words ≡ codes "bounds" ∷ image ∷ [])
NamesCommand words command.TimedBounds = (image limits : List ℕ) × (words ≡ codes "bounds" ∷ image ∷ limits ∷ [])
NamesCommand words command.Respond = (app limits : List ℕ) × (words ≡ codes "respond" ∷ app ∷ limits ∷ [])

-- the line for all other words
abbrev pub usage_line : List ℕ
usage_line =
    codes "usage: rticx run APP BOARD SCRIPT | audit APP BOARD TRACE | live APP BOARD SCRIPT | native APP BOARD"
    ++ codes " | why IMAGE | cycles APP | bounds IMAGE [LIMITS] | respond APP LIMITS\n"
