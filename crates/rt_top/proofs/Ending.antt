-- From how a command ends to what the top call says.
use Rattle.std.proofs.Common.{◌≡◌, ℕ, ◌⊎◌, List, [], Option, Some, None, inl, inr, refl, sym, ap, subst, ◌∙◌}
use Rattle.rt_ids.specs.declared.status.Status.{Status}
use Rattle.rt_ids.specs.declared.status.Status.TheVariants as status
use Rattle.rt_outside.specs.Faults.{Rose}
use Rattle.rt_outside.specs.Bytes.{Took}
use Rattle.rt_top.specs.Ends.{Wrote}
use Rattle.rt_top.specs.Program.{Program, Inputs, each_of}
use Rattle.rt_top.specs.Defined.{Defined, refused, output, IsDue, IsAnswer, WroteAll, WrotePart}
use Rattle.rt_top.specs.Inside.Decides.{EndsBy, Conducts}
use Rattle.rt_top.specs.Inside.Using.{Sources, AreRead}
use Rattle.rt_top.specs.declared.reply.Reply.{Reply}
use Rattle.rt_top.specs.declared.reply.Reply.TheVariants as reply
use Rattle.rt_top.proofs.Due.{IsReplied, IsLawful, one_due, replied}
use Rattle.rt_top.proofs.Using.{gaves, EndedBy, ended_by}

-- A command that was conducted, for these texts: what is due was written as far as the sink took it, or nothing was,
-- since memory was wanted or a source failed.
module _ {p : Program} (l : IsLawful p) {c : p.Command} {t : Inputs} {sources : Sources} {before after : List ℕ}
    {fb fa : ℕ} {result : Status} (same : gaves sources ≡ each_of t)
    (k : Conducts p c (p.kinds_of c) t sources before after fb fa result) where
  abbrev Failed : Type 0
  Failed = k.end ≡ Some (reply.Stop status.Read)

  -- in one form, whatever the reading ended with
  abbrev Outcome : Type 0
  Outcome =
      ((ended : Status) × (bytes : List ℕ) × Defined p c t ended bytes × Wrote before after fb fa ended result bytes)
      ⊎ (((result ≡ status.Memory) ⊎ ((result ≡ status.Read) × Failed)) × Took before after [])

  ends_by : (r : Reply) → EndedBy p (p.kinds_of c) (p.over t) (each_of t) r → k.end ≡ Some r
      → EndsBy p c t (Some r) before after fb fa result → Outcome
  ends_by (reply.Write ended text) by is wrote = inl (ended, text.items, refused ended text.items by, wrote)
  ends_by (reply.Stop ended) (inl e) is (told, none) = inr (inl (told ∙ e), none)
  ends_by (reply.Stop ended) (inr e) is (told, none) =
      inr (inr (told ∙ e, is ∙ ap (λ (s : Status). Some (reply.Stop s)) e), none)

  outcome_of : (end : Option Reply) → k.end ≡ end → AreRead p (p.kinds_of c) (p.over t) sources end
      → EndsBy p c t end before after fb fa result → Outcome
  outcome_of None is read (inl (ended, bytes, w, wrote)) = inl (ended, bytes, output ended bytes w, wrote)
  outcome_of None is read (inr (stops, none)) = inr (inl stops, none)
  outcome_of (Some r) is read ends =
      ends_by r (subst (λ (texts : List (List ℕ)). EndedBy p (p.kinds_of c) (p.over t) texts r) same
      (ended_by p (p.kinds_of c) (p.over t) sources r read)) is ends

  outcome : Outcome
  outcome = outcome_of k.end refl k.read k.ends

  pub answered : IsAnswer result → WroteAll p c t result before after
  answered answer = by outcome
    where
      by : Outcome → WroteAll p c t result before after
      by (inl (ended, bytes, d, inl (is, took))) = (bytes, subst (λ s. Defined p c t s bytes) (sym is) d, took)
      by (inl (ended, bytes, d, inr (is, rose, part))) = absurd (subst IsAnswer is answer)
      by (inr (inl is, none)) = absurd (subst IsAnswer is answer)
      by (inr (inr (is, failed), none)) = absurd (subst IsAnswer is answer)

  pub complete : (due : Status) → IsDue p c t due → (Failed → ⊥) → (Rose fb fa → ⊥)
      → (result ≡ due) ⊎ (result ≡ status.Memory)
  complete due (other, x) no_source no_sink = by outcome
    where
      by : Outcome → (result ≡ due) ⊎ (result ≡ status.Memory)
      by (inl (ended, bytes, d, inl (is, took))) = inl (is ∙ one_due l c t ended due bytes other d x)
      by (inl (ended, bytes, d, inr (is, rose, part))) = absurd (no_sink rose)
      by (inr (inl is, none)) = inr is
      by (inr (inr (is, failed), none)) = absurd (no_source failed)

  -- how it ends with another status than that of a reply
  abbrev Stopped : Type 0
  Stopped =
      ((result ≡ status.Write) × Rose fb fa × WrotePart p c t before after)
      ⊎ (((result ≡ status.Memory) ⊎ ((result ≡ status.Read) × Failed)) × Took before after [])

  stopped : (IsReplied result → ⊥) → Stopped
  stopped stops = by outcome
    where
      by : Outcome → Stopped
      by (inl (ended, bytes, d, inl (is, took))) =
          absurd (stops (subst IsReplied (sym is) (replied l c t ended bytes d)))
      by (inl (ended, bytes, d, inr (is, rose, took))) = inl (is, rose, (ended, bytes, d, took))
      by (inr stopped) = inr stopped

  -- no command ends with this status
  pub no_usage : result ≡ status.Usage → ⊥
  no_usage usage = by (stopped (subst IsReplied usage))
    where
      by : Stopped → ⊥
      by (inl (is, rose, part)) = absurd cc
      by (inr (inl is, none)) = absurd cc
      by (inr (inr (is, failed), none)) = absurd cc

  pub failed : result ≡ status.Read → Failed
  failed is_read = by (stopped (subst IsReplied is_read))
    where
      by : Stopped → Failed
      by (inl (is, rose, part)) = absurd cc
      by (inr (inl is, none)) = absurd cc
      by (inr (inr (is, failed), none)) = failed

  -- a source that failed stops the program so
  pub told : Failed → result ≡ status.Read
  told is = (subst (λ end. EndsBy p c t end before after fb fa result) is k.ends).0

  pub silent : (result ≡ status.Read) ⊎ (result ≡ status.Memory) → Took before after []
  silent (inl e) = by (stopped (subst IsReplied e))
    where
      by : Stopped → Took before after []
      by (inl (is, rose, part)) = absurd cc
      by (inr (why, none)) = none
  silent (inr e) = by (stopped (subst IsReplied e))
    where
      by : Stopped → Took before after []
      by (inl (is, rose, part)) = absurd cc
      by (inr (why, none)) = none

  pub write : result ≡ status.Write → Rose fb fa × WrotePart p c t before after
  write is_write = by (stopped (subst IsReplied is_write))
    where
      by : Stopped → Rose fb fa × WrotePart p c t before after
      by (inl (is, rose, part)) = (rose, part)
      by (inr (inl is, none)) = absurd cc
      by (inr (inr (is, failed), none)) = absurd cc

  -- with an answer the program did not stop
  pub alive : IsAnswer result → (ended : Status) → k.end ≡ Some (reply.Stop ended) → ⊥
  alive answer ended is = by (ended_by p (p.kinds_of c) (p.over t) sources (reply.Stop ended)
      (subst (AreRead p (p.kinds_of c) (p.over t) sources) is k.read))
    where
      stops : result ≡ ended
      stops = (subst (λ end. EndsBy p c t end before after fb fa result) is k.ends).0

      by : (ended ≡ status.Memory) ⊎ (ended ≡ status.Read) → ⊥
      by (inl e) = subst IsAnswer (stops ∙ e) answer
      by (inr e) = subst IsAnswer (stops ∙ e) answer
