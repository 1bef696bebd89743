-- What blocks release, a statement more, and by one table of works or another.
use Rattle.std.proofs.Common.{◌≡◌, ℕ, suc, ◌+◌, ◌-◌, ◌<◌, Bool, true, false, if◌then◌else◌, List, [], ◌∷◌}
use Rattle.std.proofs.Common.{map, take, get_or, length, replicate, find, Option, Some, None, refl, ap, ◌∙◌, arith}
use Rattle.rt_lemmas.proofs.Lists.{map_alike}
use Rattle.rt_app.specs.Tree.{Statement, Bind, Assign, Branch, Repeat, Locked, Emit, Pend, Spawns, Block, Empty, Then}
use Rattle.rt_app.specs.Tree.{Spawn, Soon, After, Cancel, Move, Value, Calc, Now, Call, App}
use Rattle.rt_app.specs.View.{statement_of, block_of}
use Rattle.rt_app.specs.declared.stmt.Stmt.{Stmt}
use Rattle.rt_frames.proofs.Sums.{block_more}
use Rattle.rt_respond.specs.Number.{plus, greater_of, times}
use Rattle.rt_respond.specs.Handlers.{handlers, handled_block, is_at}
use Rattle.rt_respond.specs.Work.{spawn_sends, value_sends, statement_sends, block_sends, handler_asks, takes}
use Rattle.rt_respond.specs.Work.{weight, work_within}
use Rattle.rt_respond.specs.Inside.Works.{table_asks, next_work, table_within}
use Rattle.rt_respond.specs.declared.handler.Quantity.{Quantity}
use Rattle.rt_respond.specs.declared.handler.Handler.{Handler}
use Rattle.rt_respond.specs.declared.handler.Release.{Release}
use Rattle.rt_respond.specs.declared.handler.Release.TheVariants as released
use Rattle.rt_respond.proofs.Numbers.{plus_regrouped, plus_alone}

pub block_sends_more : (asks : Release → Option ℕ) (xs : List Stmt) (i : ℕ) (x : Stmt) → i < length xs
    → x ≡ get_or xs i x
    → block_sends asks (block_of (take (i + 1) xs)) ≡ plus (block_sends asks (block_of (take i xs)))
    (statement_sends asks (statement_of x))
block_sends_more asks = block_more (block_sends asks) (statement_sends asks) plus (λ s rest. refl) plus_regrouped
    (λ s. plus_alone (statement_sends asks s))

-- two tables that say the same of each release
module _ (f g : Release → Option ℕ) (same : (r : Release) → f r ≡ g r) where
  spawn_alike : (s : Spawn) → spawn_sends f s ≡ spawn_sends g s
  spawn_alike (Soon task args at) = same (released.Message task)
  spawn_alike (After word delay task args at) = refl
  spawn_alike (Cancel word task handle at) = refl
  spawn_alike (Move word delay task handle at) = refl

  value_alike : (v : Value) → value_sends f v ≡ value_sends g v
  value_alike (Calc e) = refl
  value_alike (Now at) = refl
  value_alike (Call s) = spawn_alike s

  mutual
    pub statement_alike : (s : Statement) → statement_sends f s ≡ statement_sends g s
    statement_alike (Bind x v) = value_alike v
    statement_alike (Assign x e at) = refl
    statement_alike (Branch e first second) =
        ap (λ w. greater_of w (block_sends f second)) (block_alike first)
        ∙ ap (greater_of (block_sends g first)) (block_alike second)
    statement_alike (Repeat x first last turn) = ap (times (last - first)) (block_alike turn)
    statement_alike (Locked r inner at) = block_alike inner
    statement_alike (Emit e) = refl
    statement_alike (Pend i) = same (released.Request i)
    statement_alike (Spawns s) = spawn_alike s

    pub block_alike : (b : Block) → block_sends f b ≡ block_sends g b
    block_alike Empty = refl
    block_alike (Then s rest) =
        ap (λ w. plus w (block_sends f rest)) (statement_alike s)
        ∙ ap (plus (statement_sends g s)) (block_alike rest)

-- the table of what all handlers ask for
pub table_is : (works : Handler → Option ℕ) (hs : List Handler) (r : Release)
    → table_asks hs (map works hs) r ≡ handler_asks works (find (takes r) hs)
table_is works [] r = refl
table_is works (h ∷ hs) r = by (takes r h) (table_is works hs r)
  where
    by : (b : Bool) → table_asks hs (map works hs) r ≡ handler_asks works (find (takes r) hs)
        → (if b then works h else table_asks hs (map works hs) r)
        ≡ handler_asks works (if b then Some h else find (takes r) hs)
    by true rest = refl
    by false rest = rest

module _ (app : App) (what : Quantity) (i : Handler) where
  pub next_is : (depth : ℕ) (h : Handler)
      → next_work app what i (table_within app what i depth) h ≡ work_within app what i (suc depth) h
  unfolding work_within
  next_is depth h =
      ap (λ w. if is_at i h then plus (Some (weight what h)) w else Some 0)
      (block_alike _ _ (table_is (work_within app what i depth) (handlers app)) (handled_block app h))

  pub table_next : (depth : ℕ) → map (next_work app what i (table_within app what i depth)) (handlers app)
      ≡ table_within app what i (depth + 1)
  table_next depth =
      let e : suc depth ≡ depth + 1 = omega arith in
      map_alike (next_work app what i (table_within app what i depth)) (work_within app what i (suc depth))
      (next_is depth)
      (handlers app)
      ∙ ap (table_within app what i) e

  none_of : (hs : List Handler) → replicate (length hs) None ≡ map (work_within app what i 0) hs
  unfolding work_within
  none_of [] = refl
  none_of (h ∷ hs) = ap (λ ws. None ∷ ws) (none_of hs)

  pub table_start : replicate (length (handlers app)) None ≡ table_within app what i 0
  table_start = none_of (handlers app)
