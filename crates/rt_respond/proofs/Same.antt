-- Of two handlers of one priority and one number the works are the same.
use Rattle.std.proofs.Common.{◌≡◌, ℕ, zero, suc, ◌==◌, ◌&&◌, ◌||◌, not, nat_lt, if◌then◌else◌}
use Rattle.std.proofs.Common.{find, length, Option, Some, None, refl, ap, ◌∙◌}
use Rattle.rt_app.specs.Tree.{App}
use Rattle.rt_respond.specs.Number.{plus}
use Rattle.rt_respond.specs.Handlers.{handlers, handled_block, is_at}
use Rattle.rt_respond.specs.Work.{weight, block_sends, handler_asks, takes, release_asks, work_within, work}
use Rattle.rt_respond.specs.declared.handler.Quantity.{Quantity}
use Rattle.rt_respond.specs.declared.handler.Handler.{Handler}
use Rattle.rt_respond.proofs.Sends.{block_alike}

module _ (app : App) (what : Quantity) (i j : Handler) (priorities : i.priority ≡ j.priority)
    (numbers : i.number ≡ j.number) where
  at_alike : (h : Handler) → is_at i h ≡ is_at j h
  at_alike h =
      ap (λ p. not (nat_lt h.priority p || ((p == h.priority) && nat_lt i.number h.number))) priorities
      ∙ ap (λ n. not (nat_lt h.priority j.priority || ((j.priority == h.priority) && nat_lt n h.number))) numbers

  asks_alike : (f g : Handler → Option ℕ) → ((h : Handler) → f h ≡ g h) → (o : Option Handler)
      → handler_asks f o ≡ handler_asks g o
  asks_alike f g same None = refl
  asks_alike f g same (Some h) = same h

  pub work_alike : (depth : ℕ) (h : Handler) → work_within app what i depth h ≡ work_within app what j depth h
  unfolding work_within
  work_alike zero h = refl
  work_alike (suc depth) h =
      ap (λ b. if b then plus (Some (weight what h))
      (block_sends (release_asks app (work_within app what i depth)) (handled_block app h)) else Some 0) (at_alike h)
      ∙ ap (λ w. if is_at j h then plus (Some (weight what h)) w else Some 0)
      (block_alike (release_asks app (work_within app what i depth)) (release_asks app (work_within app what j depth))
      (λ r. asks_alike (work_within app what i depth) (work_within app what j depth) (work_alike depth)
      (find (takes r) (handlers app))) (handled_block app h))

  pub works_alike : (h : Handler) → work app what i h ≡ work app what j h
  works_alike h = work_alike (length (handlers app)) h
