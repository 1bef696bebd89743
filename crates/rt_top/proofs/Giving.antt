-- What follows from a reply.
use Rattle.std.proofs.Common.{◌≡◌, List, ℕ, Result, Ok, Err, IfOk, OnErr, Vec, Global, refl, sym, subst}
use Rattle.rt_ids.specs.declared.status.Status.{Status}
use Rattle.rt_ids.specs.declared.status.Status.TheVariants as status
use Rattle.rt_top.specs.Inside.Decides.{Tells}
use Rattle.rt_top.specs.Inside.Replies.{Replies}
use Rattle.rt_top.specs.declared.reply.Reply.{Reply}
use Rattle.rt_top.specs.declared.reply.Reply.TheVariants as reply

-- a reply of which more is known
pub replies_as : {P Q : Status → List ℕ → Type 0} (r : Reply) → Replies P r
    → ((ended : Status) (bytes : List ℕ) → P ended bytes → Q ended bytes) → Replies Q r
replies_as (reply.Write ended text) p means = means ended text.items p
replies_as (reply.Stop ended) is means = is

-- and of one status and text
pub line_tells : (told : Status) (line : List ℕ) (Q : Status → List ℕ → Type 0) → Q told line → (r : Reply)
    → Tells told (λ bytes. bytes ≡ line) r → Replies Q r
line_tells told line Q q (reply.Write ended text) (is, says) =
    subst (λ s. Q s text.items) (sym is) (subst (Q told) (sym says) q)
line_tells told line Q q (reply.Stop ended) is = is

-- the reply of a text that was made
pub made_tells : {E : Type 0} (wanted : Status) (P : List ℕ → Type 0) (made : Result (Vec ℕ Global) E)
    → IfOk made (λ text. P text.items) → (r : Reply) → IfOk made (λ text. r ≡ reply.Write wanted text)
    → OnErr made (r ≡ reply.Stop status.Memory) → Tells wanted P r
made_tells wanted P (Ok text) p r is none = subst (Tells wanted P) (sym is) (refl, p)
made_tells wanted P (Err e) p r none is = subst (Tells wanted P) (sym is) refl
