-- What `live` may write under a script, and what its account tells. It is this project's own.
use Rattle.std.specs.List.{AllByRecursion}
use Rattle.std.specs.Prelude.{List, length, replicate, ℕ, ◌++◌, ◌+◌, ◌≡◌}
use Rattle.rt_code.specs.Image.{Image}
use Rattle.rt_outside.specs.Bytes.{Took, TookPrefix}
use Rattle.rt_script.specs.declared.line.Line.{Line}
use Rattle.rt_words.specs.{Ending.calls_in, declared.call.Entry.Entry}
use Rattle.rt_live.specs.{Account.account_of, Account.account_text, Account.declared_irqs, Going.IsWholeLook}
use Rattle.rt_live.specs.{History.IsHistory, History.device_pends, Interleaving.looks, Interleaving.turns}
use Rattle.rt_live.specs.{Written.live_text, declared.account.AccountRow.AccountRow}

-- The trace of the image under the script's own events with what the looks found, and the account of the calls, for
-- looks and calls that one thread could have made, the devices with all their pends among them, and that left nothing
-- pending.
pub record IsLiveText (image : Image) (script : List Line) (bytes : List ℕ) : Type 0 where
  pub found : List (List ℕ)
  pub many : length found ≡ looks (turns script)
  pub whole : AllByRecursion IsWholeLook found
  pub history : List Entry
  pub is : IsHistory script found history
  pub written : bytes ≡ live_text image script found
      ++ account_text image.names (account_of 0 (declared_irqs image.names) (calls_in history) (replicate 32 0))

-- a beginning of such a text was taken
pub record TookPart (image : Image) (script : List Line) (before after : List ℕ) : Type 0 where
  pub bytes : List ℕ
  pub is : IsLiveText image script bytes
  pub took : TookPrefix before after bytes

-- The trace was taken, and these rows are the account, of looks and calls of which all this is so.
pub record Lives (image : Image) (script : List Line) (before after : List ℕ) (rows : List AccountRow) : Type 0 where
  pub found : List (List ℕ)
  pub many : length found ≡ looks (turns script)
  pub whole : AllByRecursion IsWholeLook found
  pub history : List Entry
  pub is : IsHistory script found history
  pub took : Took before after (live_text image script found)
  pub account : rows ≡ account_of 0 (declared_irqs image.names) (calls_in history) (replicate 32 0)

-- a row of its account counts each pend of a device once, as raised or as merged; what was raised was latched, and
-- nothing is left
pub record IsBalanced (script : List Line) (row : AccountRow) : Type 0 where
  pub counted : row.raised + row.merged ≡ device_pends row.irq script
  pub latched : row.latched ≡ row.raised
  pub none_left : row.left ≡ 0
