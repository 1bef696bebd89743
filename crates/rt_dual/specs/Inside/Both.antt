-- What is made for both cores of a pair, and what is known when both have ended.
use Rattle.std.specs.List.{AllByRecursion}
use Rattle.std.specs.Prelude.{List, None, Option, [], codes, length, map, slice_index_or, true, ℕ, ◌++◌, ◌+◌, ◌<◌, ◌^◌}
use Rattle.std.specs.Prelude.{◌∷◌, ◌≡◌, ◌≢◌}
use Rattle.rt_code.specs.Image.{Image}
use Rattle.rt_core.specs.Machine.{IsFresh, Machine}
use Rattle.rt_ids.specs.declared.limits.TheConstants.{IRQ_NUMBERS}
use Rattle.rt_script.specs.{declared.line.Line.Line, Script.count as length_of}
use Rattle.rt_words.specs.Ending.{calls_in}
use Rattle.rt_words.specs.{History.IsLegal, History.part, Lines.Line as Caller, Lines.Row, Lines.word_count}
use Rattle.rt_words.specs.{Lines.new_line}
use Rattle.rt_words.specs.{declared.call.Call.Call, declared.call.Entry.Entry, declared.row.TheConstants.ROW_WORDS}
use Rattle.rt_listing.specs.{Numbers.HasTypedNumbers, Listing.listing}
use Rattle.rt_live.specs.{Able.CanGo, Account.account_of, Account.account_text, Account.declared_irqs}
use Rattle.rt_live.specs.{Account.empty_row, Ready.HasBits, Ready.irqs_of, Shares.HasOwnNames, Shares.own_events}
use Rattle.rt_live.specs.{Written.EndsByLine, declared.account.AccountRow.AccountRow, declared.share.Share.Share}
use Rattle.rt_live.specs.{declared.share.Share.TheVariants.First, declared.share.Share.TheVariants.Second}
use Rattle.rt_dual.specs.{Course.CorePlace, Course.first_place, Course.second_place, Course.turns, Forwarded.forward}
use Rattle.rt_dual.specs.{declared.making.Both.Both, declared.making.Side.Side, declared.routes.RouteTable.RouteTable}

-- the text in front of the trace of a core
abbrev pub front : List ℕ → Image → List ℕ
front head img = head ++ listing img ++ codes "trace\n"

-- where a table leads a post
abbrev pub leads_by : RouteTable → ℕ → Option ℕ
leads_by table irq = slice_index_or table.places.items irq None

-- the line of a core in this place, which has made the lines of these numbers and these calls
abbrev pub placed_line : CorePlace → Row → List ℕ → List Call → Caller
placed_line place row made calls =
    record (new_line row place.line place.here place.there) { made = made; calls = calls }

-- What is made for a core, before its first event. Its line has made these lines and called nothing. Of its bits those
-- of its declared interrupts are set, and the rows of its account count nothing.
pub record IsBefore (place : CorePlace) (made : List ℕ) (share : Share) (head : List ℕ) (row : Row) (img other : Image)
    (side : Side) : Type 0 where
  pub may : HasBits place.here row.may (declared_irqs img.names)
  pub bits : AllByRecursion (λ irq. irq < IRQ_NUMBERS) (declared_irqs img.names)
  pub rows : side.rows.items ≡ map empty_row (declared_irqs img.names)
  pub line : side.line.value ≡ placed_line place row made []
  pub shares : side.role.share ≡ share
  pub routes : (irq : ℕ) → leads_by side.role.routes irq ≡ forward img other.names irq
  pub text : side.text.bytes.items ≡ front head img
  -- the listing in it is of this image alone
  pub numbers : HasTypedNumbers img

-- Both are so, and the first core's line made the second's and no other.
pub record AreBefore (first second : Image) (both : Both) : Type 0 where
  pub one : IsBefore first_place (254 ∷ []) First (codes "core 1\n") both.words first second both.first
  pub two : IsBefore second_place [] Second (codes "core 2\n") both.words second first both.second
  pub many : word_count both.words ≡ ROW_WORDS

-- a core can do its events of a script on its side
pub record CanRun (script : List Line) (m : Machine) (side : Side) (row : Row) : Type 0 where
  pub can : CanGo (length_of script + 1) (leads_by side.role.routes) m side.line.value row
  pub declared : HasOwnNames side.role.share m.image.names script

-- a core has done its events of a script, and of its side its line and its text have changed
pub record HasEnded (script : List Line) (m n : Machine) (old new : Side) : Type 0 where
  pub ends : EndsByLine (leads_by old.role.routes) (turns (own_events old.role.share script)) true old.line.value
      new.line.value m n old.text.bytes.items new.text.bytes.items
  pub rows : new.rows.items ≡ old.rows.items

-- what was made for a core, which has done its events since
pub record HasRun (place : CorePlace) (made : List ℕ) (share : Share) (head : List ℕ) (row : Row) (other : Image)
    (script : List Line)
    (m n : Machine) (side : Side) : Type 0 where
  pub fresh : IsFresh m
  pub old : Side
  pub before : IsBefore place made share head row m.image other old
  pub ended : HasEnded script m n old side

-- both cores have ended
pub record HaveRun (script : List Line) (a a' b b' : Machine) (both : Both) : Type 0 where
  pub one : HasRun first_place (254 ∷ []) First (codes "core 1\n") both.words b.image script a a' both.first
  pub two : HasRun second_place [] Second (codes "core 2\n") both.words a.image script b b' both.second

-- These rows count nothing, and there are their interrupts.
pub record AreEmpty (rows : List AccountRow) : Type 0 where
  pub empty : rows ≡ map empty_row (irqs_of rows)
  pub bits : AllByRecursion (λ irq. irq < IRQ_NUMBERS) (irqs_of rows)

-- The words can be closed, which these lines called, the first of them having made the second alone. Their calls can be
-- counted in these rows.
pub record CanClose (row : Row) (first second : Caller) (one two : List AccountRow) : Type 0 where
  pub first_line : first ≡ placed_line first_place row (254 ∷ []) first.calls
  pub second_line : second ≡ placed_line second_place row [] second.calls
  pub few : length second.calls < 2 ^ 32
  pub one_empty : AreEmpty one
  pub two_empty : AreEmpty two

-- the words of both cores can be closed
abbrev pub CanWrite : Both → Type 0
CanWrite both =
    CanClose both.words both.first.line.value both.second.line.value both.first.rows.items both.second.rows.items

-- One thread could have made these calls of the lines of both cores and no others, and they left some words. The rows
-- are the accounts of the calls.
pub record AreAccounts (near far : List Call) (one_irqs two_irqs : List ℕ) (one two : List AccountRow) : Type 0 where
  pub history : List Entry
  pub left : List ℕ
  pub legal : IsLegal history left
  pub first : part history 255 ≡ near
  pub second : part history 254 ≡ far
  pub others : (number : ℕ) → number ≢ 255 → number ≢ 254 → part history number ≡ []
  pub one_rows : one ≡ account_of 0 one_irqs (calls_in history) left
  pub two_rows : two ≡ account_of 1 two_irqs (calls_in history) left

-- the words are closed, and this is what is written of both cores
pub record IsWritten (first second : Image) (both : Both) (bytes : List ℕ) : Type 0 where
  pub one : List AccountRow
  pub two : List AccountRow
  pub are : AreAccounts both.first.line.value.calls both.second.line.value.calls
      (irqs_of both.first.rows.items) (irqs_of both.second.rows.items) one two
  pub written : bytes
      ≡ (both.first.text.bytes.items ++ account_text first.names one)
      ++ (both.second.text.bytes.items ++ account_text second.names two)
