-- From how a command was conducted to the clauses of the top call.
use Rattle.std.proofs.Common.{◌≡◌, ℕ, zero, suc, ◌<◌, ◌≤◌, ◌⊎◌, List, length, Option, Some, inl, inr, subst, arith}
use Rattle.rt_ids.specs.declared.status.Status.{Status}
use Rattle.rt_ids.specs.declared.status.Status.TheVariants as status
use Rattle.rt_top.specs.Program.{Program, Inputs}
use Rattle.rt_top.specs.Inside.Decides.{Conducts}
use Rattle.rt_top.specs.Inside.Using.{Use, Unread, Failed, Sources, No, Then, AreUnread, AreRead}
use Rattle.rt_top.specs.declared.reply.Reply.{Reply}
use Rattle.rt_top.specs.declared.reply.Reply.TheVariants as reply
use Rattle.rt_top.proofs.Due.{IsLawful}
use Rattle.rt_top.proofs.Using.{failed_at, Did, behind}

-- the words name one command, so this is the one that was conducted
pub conducted : {p : Program} (l : IsLawful p) {t : Inputs} {sources : Sources} {before after : List ℕ} {fb fa : ℕ}
    {result : Status} (words : List (List ℕ)) (c : p.Command) → p.Names words c
    → Conducts p c (p.kinds_of c) t sources before after fb fa result → (e : p.Command) → p.Names words e
    → Conducts p e (p.kinds_of e) t sources before after fb fa result
conducted {p} l {t} {sources} {before} {after} {fb} {fa} {result} words c named k e named_so =
    subst (λ x. Conducts p x (p.kinds_of x) t sources before after fb fa result)
    (l.one_command words c e named named_so) k

-- of three sources one failed, and those behind it were not come to
module _ (p : Program) (kinds : List p.Kind) (over : p.Over) (a b d : List ℕ) (DA DB DD : ℕ → Use → Type 0)
    (end : Option Reply) (read : AreRead p kinds over (Then a DA (Then b DB (Then d DD No))) end)
    (is : end ≡ Some (reply.Stop status.Read))
    (FA FB FD : Type 0) (fa : (limit : ℕ) → DA limit Failed → FA) (fb : (limit : ℕ) → DB limit Failed → FB)
    (fd : (limit : ℕ) → DD limit Failed → FD) where
  pub one_failed : ((1 ≤ length kinds) × FA × DB 0 Unread × DD 0 Unread) ⊎ ((2 ≤ length kinds) × FB × DD 0 Unread)
      ⊎ ((3 ≤ length kinds) × FD)
  one_failed = let (n, limit, within, there, failed, unread) = failed_at p kinds over
      (Then a DA (Then b DB (Then d DD No))) end read is in by n limit within there failed unread
    where
      by : (n limit : ℕ) → n < length kinds → n < 3 → Did n (Then a DA (Then b DB (Then d DD No))) limit Failed
          → AreUnread (behind (suc n) (Then a DA (Then b DB (Then d DD No))))
          → ((1 ≤ length kinds) × FA × DB 0 Unread × DD 0 Unread) ⊎ ((2 ≤ length kinds) × FB × DD 0 Unread)
          ⊎ ((3 ≤ length kinds) × FD)
      by zero limit within there failed unread =
          inl (omega (arith, within), fa limit failed, unread.0, unread.1.0)
      by (suc zero) limit within there failed unread =
          inr (inl (omega (arith, within), fb limit failed, unread.0))
      by (suc (suc zero)) limit within there failed unread =
          inr (inr (omega (arith, within), fd limit failed))
      by (suc (suc (suc n))) limit within there failed unread = absurd (omega (arith, there))

  -- so where none failed this is absurd
  pub none_failed : (FA → ⊥) → (FB → ⊥) → (FD → ⊥) → ⊥
  none_failed no_a no_b no_d = by one_failed
    where
      by : ((1 ≤ length kinds) × FA × DB 0 Unread × DD 0 Unread) ⊎ ((2 ≤ length kinds) × FB × DD 0 Unread)
          ⊎ ((3 ≤ length kinds) × FD) → ⊥
      by (inl f) = no_a f.1
      by (inr (inl f)) = no_b f.1
      by (inr (inr f)) = no_d f.1
