-- A text for a program is read and refused as each text of a board is, and where something is missing at its end.
use Rattle.std.proofs.Common.{◌≡◌, ℕ, suc, List, [], ◌∷◌, length, Some, sym, append-nil}
use Rattle.std.specs.Str.Lines.{lines}
use Rattle.std.proofs.lemmas.Option.{none-some}
use Rattle.rt_lines.specs.Reading.{Lead, IsWrongNext}
use Rattle.rt_lines.specs.Refusal.{too_long, first_wrong, no_memory}
use Rattle.rt_lines.specs.declared.refusal.TextRefused.{TextRefused}
use Rattle.rt_lines.specs.declared.refusal.TextRefused.TheVariants as refused
use Rattle.rt_app.specs.Tree.{App}
use Rattle.rt_target.specs.Reading.{wanting, setup_reader, target_reader, IsSetupOf, IsRefused, IsTargetRefused}
use Rattle.rt_target.specs.Setup.{Setup, no_setup}
use Rattle.rt_target.specs.declared.refusal.Cause.{Cause}

module _ (app : App) where
  -- lines lead both readers alike
  pub to_target : (ls : List (List ℕ)) (s t : Setup) → Lead (setup_reader app) s ls t → Lead (target_reader app) s ls t
  to_target [] s t lead = lead
  to_target (line ∷ ls) s t lead = (lead.0, lead.1, to_target ls lead.0 t lead.2)

  pub from_target : (ls : List (List ℕ)) (s t : Setup) → Lead (target_reader app) s ls t
      → Lead (setup_reader app) s ls t
  from_target [] s t lead = lead
  from_target (line ∷ ls) s t lead = (lead.0, lead.1, from_target ls lead.0 t lead.2)

  next : (s : Setup) (behind : List (List ℕ)) (c : Cause) → IsWrongNext (setup_reader app) s behind c
      → IsWrongNext (target_reader app) s behind c
  next s [] c wrong = absurd (none-some c wrong)
  next s (line ∷ behind) c wrong = wrong

  -- a wrong line is wrong for a program too
  pub refused_too : (text : List ℕ) (r : TextRefused Cause) → IsRefused app text r → IsTargetRefused app text r
  refused_too text r (too_long long) = too_long long
  refused_too text r (first_wrong n c is) =
      first_wrong n c (record {
        short = is.short;
        before = is.before;
        behind = is.behind;
        parts = is.parts;
        number_is = is.number_is;
        reached = is.reached;
        lead = to_target is.before no_setup is.reached is.lead;
        wrong = next is.reached is.behind c is.wrong;
      })
  refused_too text r no_memory = no_memory

  -- where a thing is missing the line behind the last is refused
  pub refused_behind : (text : List ℕ) (s : Setup) (n : ℕ) (c : Cause) → IsSetupOf app text s
      → n ≡ suc (length (lines text)) → Some c ≡ wanting s.facts
      → IsTargetRefused app text (refused.Wrong n c)
  refused_behind text s n c read number missing =
      first_wrong n c (record {
        short = read.short;
        before = lines text;
        behind = [];
        parts = sym (append-nil (lines text));
        number_is = number;
        reached = s;
        lead = to_target (lines text) no_setup s read.lead;
        wrong = sym missing;
      })
