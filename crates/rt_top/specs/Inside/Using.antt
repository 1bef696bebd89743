-- What is done with the sources of a command, one after the other, and how its reading ends.
use Rattle.std.specs.Prelude.{◌≡◌, ◌<◌, ◌⊎◌, ℕ, List, [], ◌∷◌, Option, Some, None, Result, Ok, Err, length, Vec}
use Rattle.std.specs.Global.{Global}
use Rattle.rt_ids.specs.declared.status.Status.{Status}
use Rattle.rt_ids.specs.declared.status.Status.TheVariants as status
use Rattle.rt_outside.specs.Bytes.{Past}
use Rattle.rt_outside.specs.Faults.{Rose}
use Rattle.rt_top.specs.Ends.{IsKept}
use Rattle.rt_top.specs.Reads.{IsReadWithin}
use Rattle.rt_top.specs.Program.{Program}
use Rattle.rt_top.specs.declared.reply.Reply.{Reply}
use Rattle.rt_top.specs.declared.reply.Reply.TheVariants as reply

-- what is done with a source
pub data Use : Type 0 where
  -- nothing: the command did not come to it
  Unread : Use
  -- it was read to its end, or one byte past its limit
  Whole : Use
  -- it failed
  Failed : Use
  -- memory was wanted, before it was read or in between
  Left : Use

-- this was done with the source, of which the command takes so many bytes at most
abbrev pub HasUse : {S : Type 0} → (S → Past) → (S → Option (List ℕ)) → (S → ℕ) → S → S → ℕ → Use → Type 0
HasUse past left faults old new limit Unread = IsKept past left faults old new
HasUse past left faults old new limit Whole = IsReadWithin limit past left old new × (faults new ≡ faults old)
HasUse past left faults old new limit Failed = Rose (faults old) (faults new)
HasUse past left faults old new limit Left = faults new ≡ faults old

-- Sources, one after the other: what each gave, and what was done with it.
pub data Sources : Type 1 where
  No : Sources
  Then : (gave : List ℕ) → (Does : ℕ → Use → Type 0) → Sources → Sources

-- none of them was come to
abbrev pub AreUnread : Sources → Type 0
AreUnread No = Unit {0}
AreUnread (Then gave Does more) = Does 0 Unread × AreUnread more

-- why the program stops while a source is read: memory was wanted, or the source failed
pub data Stops (limit : ℕ) (Does : ℕ → Use → Type 0) : Status → Type 0 where
  for_memory : Does limit Left → Stops limit Does status.Memory
  at_fault : Does limit Failed → Stops limit Does status.Read

-- no text of the kind was read: the one that came is refused, or the program stops
pub data IsNotRead (p : Program) (kind : p.Kind) (over : p.Over) (gave : List ℕ) (Does : ℕ → Use → Type 0)
    : Reply → Type 0 where
  refusal : (ended : Status) (line : Vec ℕ Global) → Does (p.most_bytes kind) Whole
      → p.IsRefusedBy kind over gave ended line.items → IsNotRead p kind over gave Does (reply.Write ended line)
  stop : (ended : Status) → Stops (p.most_bytes kind) Does ended → IsNotRead p kind over gave Does (reply.Stop ended)

-- The sources were read for texts of these kinds: each up to the first from which no text of its kind was read, and
-- with the reply to that, if there is one. Those behind it were not come to, nor any that the command has no text in.
abbrev pub AreRead : (p : Program) → List p.Kind → p.Over → Sources → Option Reply → Type 0
AreRead p [] over sources end = AreUnread sources × (end ≡ None)
AreRead p (kind ∷ kinds) over No end = ⊥
AreRead p (kind ∷ kinds) over (Then gave Does more) end =
    (Does (p.most_bytes kind) Whole × p.IsOfKind kind over gave × AreRead p kinds over more end)
    ⊎ ((r : Reply) × (end ≡ Some r) × IsNotRead p kind over gave Does r × AreUnread more)

-- One text of the kind was read from the source, of which this is so; or none was.
abbrev pub Reads : {T : Type 0} (p : Program) → p.Kind → p.Over → List ℕ → (ℕ → Use → Type 0) → (T → Type 0)
    → Result T Reply → Type 0
Reads p kind over gave Does Is (Ok x) = Does (p.most_bytes kind) Whole × Is x
Reads p kind over gave Does Is (Err r) = IsNotRead p kind over gave Does r

-- All bytes of the source were read, or one more than the limit; or why the program stops.
abbrev pub ReadsBytes : ℕ → List ℕ → (ℕ → Use → Type 0) → Result (Option (Vec ℕ Global)) Status → Type 0
ReadsBytes limit gave Does (Ok (Some text)) = Does limit Whole × (text.items ≡ gave)
ReadsBytes limit gave Does (Ok None) = Does limit Whole × (limit < length gave)
ReadsBytes limit gave Does (Err ended) = Stops limit Does ended
