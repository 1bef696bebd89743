-- How a command is conducted: from one text that was read to the texts behind it, and from a reply to what was written.
use Rattle.std.proofs.Common.{◌≡◌, ℕ, ◌⊎◌, List, [], ◌∷◌, drop, Option, Some, None, inl, inr, refl, sym, subst, ◌∙◌}
use Rattle.rt_ids.specs.declared.status.Status.{Status}
use Rattle.rt_ids.specs.declared.status.Status.TheVariants as status
use Rattle.rt_app.specs.Tree.{App}
use Rattle.rt_build.specs.Accepted.{IsApplication}
use Rattle.rt_outside.specs.Bytes.{Past}
use Rattle.rt_top.specs.Program.{Program, Inputs}
use Rattle.rt_top.specs.Kinds.{Application, kinds_of}
use Rattle.rt_top.specs.Ends.{IsKept}
use Rattle.rt_top.specs.SecondRefusal.{RefusesOver}
use Rattle.rt_top.specs.Inside.Decides.{Tells, EndsAs, Finishes, IsReplyTo, Answers, AnswersOne, EndsBy, Conducts}
use Rattle.rt_top.specs.Inside.Decides.{ConductsOne}
use Rattle.rt_top.specs.Inside.Replies.{Replies}
use Rattle.rt_top.specs.Inside.Using.{Use, Whole, Left, Sources, Then, AreUnread, IsNotRead, refusal}
use Rattle.rt_top.specs.Inside.Using.{stop, Stops, for_memory}
use Rattle.rt_top.specs.Inside.Meant.{command_word}
use Rattle.rt_top.specs.declared.command.Command as code
use Rattle.rt_top.specs.declared.command.Command.TheVariants as command
use Rattle.rt_top.specs.declared.reply.Reply.{Reply}
use Rattle.rt_top.specs.declared.reply.Reply.TheVariants as reply

-- nothing was done to a source
pub kept : {S : Type 0} {past : S → Past} {left : S → Option (List ℕ)} {faults : S → ℕ} {x : S}
    → IsKept past left faults x x
kept = record { gave_none = refl; has_all = refl; no_fault = refl }

-- a text of the kind was read, and is refused
pub refusal_reads : (p : Program) (k : p.Kind) (over : p.Over) (gave : List ℕ) (Does : ℕ → Use → Type 0)
    → Does (p.most_bytes k) Whole → Does (p.most_bytes k) Left → (told : Status) (P : List ℕ → Type 0)
    → ((line : List ℕ) → P line → p.IsRefusedBy k over gave told line) → (r : Reply) → Tells told P r
    → IsNotRead p k over gave Does r
refusal_reads p k over gave Does whole left told P means (reply.Write ended text) (is, q) =
    refusal ended text whole (subst (λ s. p.IsRefusedBy k over gave s text.items) (sym is) (means text.items q))
refusal_reads p k over gave Does whole left told P means (reply.Stop ended) is =
    stop ended (subst (Stops (p.most_bytes k) Does) (sym is) (for_memory left))

-- so is one over the application of the first
pub refused_over : {R : Type 0} {IsRefused : App → List ℕ → R → Type 0} {Says : R → List ℕ → Type 0}
    {text more line : List ℕ} (app : App) → IsApplication text app → (r : R) → IsRefused app more r → Says r line
    → RefusesOver IsRefused Says text more line
refused_over app is r refused says = record { app = app; of_text = is; refusal = r; refused = refused; says = says }

module _ {p : Program} {c : p.Command} {k : p.Kind} {kinds : List p.Kind} {t : Inputs} {gave : List ℕ}
    {Does : ℕ → Use → Type 0} {more : Sources} where
  pub refused_answers : {r : Reply} → AreUnread more → IsNotRead p k (p.over t) gave Does r
      → Answers p c (k ∷ kinds) t (Then gave Does more) r
  refused_answers {r = r} unread is = record { end = Some r; read = inr (r, refl, is, unread); replies = refl }

  -- the texts behind one that was read
  pub conducts_behind : {before after : List ℕ} {fb fa : ℕ} {result : Status} → Does (p.most_bytes k) Whole
      → p.IsOfKind k (p.over t) gave → Conducts p c kinds t more before after fb fa result
      → Conducts p c (k ∷ kinds) t (Then gave Does more) before after fb fa result
  conducts_behind whole is h = record { end = h.end; read = inl (whole, is, h.read); ends = h.ends; heard = h.heard }

module _ {p : Program} {c : p.Command} {t : Inputs} where
  -- all texts were read
  pub replies_answers : {sources : Sources} {r : Reply} → AreUnread sources → Replies (p.IsOutputOf c t) r
      → Answers p c [] t sources r
  replies_answers unread is = record { end = None; read = (unread, refl); replies = is }

  -- one text is left to be read, of the first of these sources
  module _ {k : p.Kind} {gave : List ℕ} {Does : ℕ → Use → Type 0} {more : Sources} where
    pub one_answers : {r : Reply} → AreUnread more → AnswersOne p c k t gave Does r
        → Answers p c (k ∷ []) t (Then gave Does more) r
    one_answers unread (inl (whole, is, replies)) =
        record { end = None; read = inl (whole, is, (unread, refl)); replies = replies }
    one_answers unread (inr none) = refused_answers unread none

    pub one_conducts : {before after : List ℕ} {fb fa : ℕ} {result : Status} → AreUnread more
        → ConductsOne p c k t gave Does before after fb fa result → (fa ≡ fb) ⊎ (result ≡ status.Write)
        → Conducts p c (k ∷ []) t (Then gave Does more) before after fb fa result
    one_conducts unread (inl (whole, is, ends)) heard =
        record { end = None; read = inl (whole, is, (unread, refl)); ends = ends; heard = heard }
    one_conducts unread (inr (r, none, ends)) heard =
        record { end = Some r; read = inr (r, refl, none, unread); ends = ends; heard = heard }

  -- a reply was finished
  pub finished : {kinds : List p.Kind} {sources : Sources} {r : Reply} {before after : List ℕ} {fb fa : ℕ}
      {result : Status} → Answers p c kinds t sources r → Finishes before after fb fa r result
      → (fa ≡ fb) ⊎ (result ≡ status.Write) → Conducts p c kinds t sources before after fb fa result
  finished {r = r} {before = before} {after = after} {fb = fb} {fa = fa} {result = result} a done heard =
      record { end = a.end; read = a.read; ends = ends a.end r a.replies done; heard = heard }
    where
      ends : (end : Option Reply) (r : Reply) → IsReplyTo p c t end r → Finishes before after fb fa r result
          → EndsBy p c t end before after fb fa result
      ends None (reply.Write ended text) w wrote = inl (ended, text.items, w, wrote)
      ends None (reply.Stop ended) is (told, none) = inr (told ∙ is, none)
      ends (Some q) r is done = subst (λ (x : Reply). Finishes before after fb fa x result) is done

-- how a command ended of which more is known
pub ends_as : {P Q : Status → List ℕ → Type 0} (before after : List ℕ) (fb fa : ℕ) (result : Status)
    → EndsAs P before after fb fa result → ((ended : Status) (bytes : List ℕ) → P ended bytes → Q ended bytes)
    → EndsAs Q before after fb fa result
ends_as before after fb fa result (inl (ended, bytes, p, wrote)) means =
    inl (ended, bytes, means ended bytes p, wrote)
ends_as before after fb fa result (inr stops) means = inr stops

-- all commands but these begin with an application
pub of_application : (c : code.Command) → ((n : ℕ) → c ≡ command.Demo n → ⊥) → (c ≡ command.Fmt → ⊥)
    → (c ≡ command.Verify → ⊥)
    → kinds_of (command_word c) ≡ Application ∷ drop 1 (kinds_of (command_word c))
of_application command.Run demo fmt verify = refl
of_application command.Check demo fmt verify = refl
of_application command.Fmt demo fmt verify = absurd (fmt refl)
of_application command.Build demo fmt verify = refl
of_application command.Audit demo fmt verify = refl
of_application command.Live demo fmt verify = refl
of_application (command.Soak number count workers) demo fmt verify = refl
of_application (command.Demo n) demo fmt verify = absurd (demo n refl)
of_application command.Deepest demo fmt verify = refl
of_application command.Times demo fmt verify = refl
of_application command.Verify demo fmt verify = absurd (verify refl)
of_application command.Pair demo fmt verify = refl
