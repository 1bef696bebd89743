-- What a command replies of its texts alone, said before anything is written.
use Rattle.std.specs.Prelude.{◌≡◌, ℕ, List, ◌++◌, codes}
use Rattle.rt_ids.specs.declared.status.Status.{Status}
use Rattle.rt_ids.specs.declared.status.Status.TheVariants as status
use Rattle.rt_top.specs.declared.reply.Reply.{Reply}
use Rattle.rt_top.specs.declared.reply.Reply.TheVariants as reply

-- this is so of the reply's status and text, or this of the status with which the program stops
abbrev pub RepliesOrStops : (Status → List ℕ → Type 0) → (Status → Type 0) → Reply → Type 0
RepliesOrStops Said Stopped (reply.Write ended text) = Said ended text.items
RepliesOrStops Said Stopped (reply.Stop ended) = Stopped ended

-- memory was wanted
abbrev pub WantsMemory : Status → Type 0
WantsMemory ended = ended ≡ status.Memory

-- this is so of the reply's status and text, or memory was wanted
abbrev pub Replies : (Status → List ℕ → Type 0) → Reply → Type 0
Replies Said r = RepliesOrStops Said WantsMemory r

-- the reply about a second application that is this one about a first, with a word in front; or memory was wanted
abbrev pub IsOfSecond : Reply → Reply → Type 0
IsOfSecond (reply.Write ended text) r =
    Replies (λ status bytes. (status ≡ ended) × (bytes ≡ codes "second " ++ text.items)) r
IsOfSecond (reply.Stop ended) r = r ≡ reply.Stop ended
