-- What an audit says of a trace: that it is judged right, by Baker's machine (Stack-Based Scheduling of Realtime
-- Processes, 1991), and then it keeps the laws that every run keeps; or which item is the first that is wrong. It is
-- said by whole beginnings of the trace; the code follows the machine item by item, and counts silent steps by their
-- costs.
use Rattle.std.specs.Prelude.{◌≡◌, ℕ, suc, ◌<◌, ◌≤◌, ◌⊎◌, length, take, None}
use Rattle.rt_trace.specs.Trace.{Trace}
use Rattle.rt_app.specs.Tree.{App}
use Rattle.rt_laws.specs.Run.{Judged}
use Rattle.rt_laws.specs.Properties.{KeepsLaws}
use Rattle.rt_laws.specs.Messages.{KeepsMessages}
use Rattle.rt_baker.specs.declared.verdict.Verdict.{Verdict}
use Rattle.rt_baker.specs.declared.verdict.Verdict.TheVariants as verdict

-- the first n items, as a trace that states no total
abbrev pub front : ℕ → Trace → Trace
front n trace = record { items = take n trace.items; total = None }

-- It is judged right. Sections were exclusive then, no job found one taken, none waited for more than one section of
-- one lower job, each section that was left was the one entered last, and no job returned, and no body ended, inside a
-- section. At every moment spawns found a task full exactly where all its places were out; messages started first in,
-- first out, and fired in order and not early; a handle was of one message; the places that were out were those in
-- transit, armed and ready; the items showed it by themselves; and messages that were ready or due were served.
pub record IsRight (app : App) (trace : Trace) : Type 0 where
  pub judged : Judged app trace
  pub laws : KeepsLaws app judged.run.labels
  pub messages : KeepsMessages app judged.run.labels

-- With the item after the first n the items are not judged right; or the n items are all that there are.
abbrev pub IsWrongBehind : App → Trace → ℕ → Type 0
IsWrongBehind app trace n =
    ((n < length trace.items) × (Judged app (front (suc n) trace) → ⊥)) ⊎ (n ≡ length trace.items)

-- It is not judged right, and the first item that is wrong has this number, from 1. A wrong total has the number after
-- the last item's.
pub record IsWrongAt (app : App) (trace : Trace) (number : ℕ) : Type 0 where
  pub before : ℕ
  pub number_is : number ≡ suc before
  pub right : (n : ℕ) → n ≤ before → Judged app (front n trace)
  pub wrong : IsWrongBehind app trace before
  pub not_judged : Judged app trace → ⊥

-- the verdict on a trace
abbrev pub IsVerdict : App → Trace → Verdict → Type 0
IsVerdict app trace verdict.Yes = IsRight app trace
IsVerdict app trace (verdict.No number) = IsWrongAt app trace number
