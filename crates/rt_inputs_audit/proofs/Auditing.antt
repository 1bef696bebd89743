-- How an auditor goes on by a line, and how it ends.
use Rattle.std.proofs.Common.{◌≡◌, ℕ, suc, ◌+◌, ◌≤◌, List, [], ◌∷◌, ◌++◌, length, Option, Some, None, Result, Ok, Err}
use Rattle.std.proofs.Common.{sym, ap, subst, ◌∙◌, arith, append_assoc, append-nil, length-append, option_map}
use Rattle.std.proofs.Common.{option_to_list}
use Rattle.std.proofs.lemmas.Option.{same_Some}
use Rattle.rt_ids.specs.Names.{Names}
use Rattle.rt_ids.specs.declared.limits.TheConstants.{TRACE_BYTES}
use Rattle.rt_lines.specs.Answers.{and_make}
use Rattle.rt_lines.specs.Parts.{lines}
use Rattle.rt_lines.specs.Refusal.{refused_at, first_wrong}
use Rattle.rt_lines.specs.declared.refusal.TextRefused.{TextRefused}
use Rattle.rt_lines.proofs.Reading.{lead_more}
use Rattle.rt_app.specs.Names.{names_of}
use Rattle.rt_app.specs.Tree.{App}
use Rattle.rt_app.specs.View.{app_of}
use Rattle.rt_baker.specs.declared.verdict.Verdict.{Verdict}
use Rattle.rt_baker_moves.specs.declared.machine.Machine.{Machine}
use Rattle.rt_board.specs.Board.{Board, AreInputs}
use Rattle.rt_inputs.specs.Shown.{ShownLine}
use Rattle.rt_trace.specs.Reading as traces
use Rattle.rt_trace.specs.declared.reader.Phase.{Phase}
use Rattle.rt_inputs_audit.specs.Audit.{IsVerdictBeside}
use Rattle.rt_inputs_audit.specs.Auditor.{standing, IsJudgedSoFar, Refuses, AuditStands, HasAudited, IsJudgedText}
use Rattle.rt_inputs_audit.specs.Judging.{HasJudged}
use Rattle.rt_inputs_audit.specs.Reading.{Standing, Told, shown_of, cause_of, line_told, inputs_reader}
use Rattle.rt_inputs_audit.specs.Reading.{IsInputsText, IsRefused}
use Rattle.rt_inputs_audit.specs.declared.judge.InputsJudge.{InputsJudge}
use Rattle.rt_inputs_audit.specs.declared.line.TraceLine.{TraceLine}
use Rattle.rt_inputs_audit.specs.declared.reader.InputsReader.{InputsReader}
use Rattle.rt_inputs_audit.specs.declared.refusal.Cause.{Cause}

module _ (app : App) (b : Board) (names : Names) where
  -- what a line tells leads on
  abbrev behind : List ShownLine → Result (Phase × Option TraceLine) Cause → Result Standing Cause
  behind shown r =
      and_make r (λ read. record { phase = read.0; lines = shown ++ option_to_list (option_map shown_of read.1) })

  module _ (ls : List (List ℕ)) (old new : InputsReader) (line : List ℕ) where
    -- a line that shows nothing
    pub goes_silent : (judge : InputsJudge) → line_told names app b old.inner.phase line ≡ Ok (new.inner.phase, None)
        → IsJudgedSoFar app b names ls old judge → IsJudgedSoFar app b names (ls ++ line ∷ []) new judge
    goes_silent judge told g = record {
      shown = g.shown;
      few = omega (arith, g.few, length-append ls (line ∷ []));
      read = lead_more (inputs_reader names app b) _ _ _ ls line g.read
          (ap (behind g.shown) told ∙ ap (λ shown. Ok (standing new shown)) (append-nil g.shown));
      judged = g.judged;
    }

    -- and one that shows something
    pub goes_on : (before after : InputsJudge) (read : TraceLine)
        → line_told names app b old.inner.phase line ≡ Ok (new.inner.phase, Some read)
        → ((shown : List ShownLine) → HasJudged app b shown before
        → HasJudged app b (shown ++ shown_of read ∷ []) after)
        → IsJudgedSoFar app b names ls old before → IsJudgedSoFar app b names (ls ++ line ∷ []) new after
    goes_on before after read told judges g = record {
      shown = g.shown ++ shown_of read ∷ [];
      few = omega (arith, g.few, length-append g.shown (shown_of read ∷ []), length-append ls (line ∷ []));
      read = lead_more (inputs_reader names app b) _ _ _ ls line g.read (ap (behind g.shown) told);
      judged = judges g.shown g.judged;
    }

    -- a line that is wrong
    pub line_refuses : (judge : InputsJudge) (number : ℕ) (cause : Cause) → suc (length ls) ≡ number
        → line_told names app b old.inner.phase line ≡ Err cause
        → IsJudgedSoFar app b names ls old judge → Refuses app b names (ls ++ line ∷ []) (refused_at number cause)
    line_refuses judge number cause counted told g = λ text more short parts.
        first_wrong number cause (record {
          short = short;
          before = ls;
          behind = line ∷ more;
          parts = parts ∙ append_assoc ls (line ∷ []) more;
          number_is = sym counted;
          reached = standing old g.shown;
          lead = g.read;
          wrong = ap (behind g.shown) told;
        })

  -- a line behind a wrong one
  refuses_on : (ls : List (List ℕ)) (line : List ℕ) (refusal : TextRefused Cause)
      → Refuses app b names ls refusal → Refuses app b names (ls ++ line ∷ []) refusal
  refuses_on ls line refusal refuses =
      λ text behind short parts. refuses text (line ∷ behind) short (parts ∙ append_assoc ls (line ∷ []) behind)

  -- and where that is kept
  pub stands_on : (ls : List (List ℕ)) (line : List ℕ) (reader : InputsReader) (judge : InputsJudge)
      (refusing : Option (TextRefused Cause)) (refusal : TextRefused Cause) → refusing ≡ Some refusal
      → AuditStands app b names ls reader judge refusing
      → AuditStands app b names (ls ++ line ∷ []) reader judge refusing
  stands_on ls line reader judge None refusal some h = absurd cc
  stands_on ls line reader judge (Some kept) refusal some h = refuses_on ls line kept h

some_board : (a b : Board) → Some a ≡ Some b → a ≡ b
some_board a b e = cc

-- behind all lines of a text
module _ {chosen : Option App} {on : Option Board} {names : Names} {machine : Machine} {board : Board}
    {reader : InputsReader} {judge : InputsJudge} {refusing : Option (TextRefused Cause)} {app : App} {b : Board}
    (text : List ℕ) (is : chosen ≡ Some app) (stood : on ≡ Some b) (short : length text ≤ TRACE_BYTES)
    (h : HasAudited chosen on names machine board reader judge refusing (lines text)) where
  abbrev own : App
  own = app_of machine.code.now.app.now

  same_app : own ≡ app
  same_app = same_Some own app (sym h.chose ∙ is)

  same_board : board ≡ b
  same_board = some_board board b (sym h.stood ∙ stood)

  same_names : names ≡ names_of app
  same_names = h.named ∙ ap names_of same_app

  refused_there : (refusal : TextRefused Cause) → IsRefused names own board text refusal
      → IsRefused (names_of app) app b text refusal
  refused_there refusal refused =
      subst (λ (d : Board). IsRefused (names_of app) app d text refusal) same_board
      (subst (λ (a : App). IsRefused (names_of app) a board text refusal) same_app
      (subst (λ (n : Names). IsRefused n own board text refusal) same_names refused))

  pub end_wrong : (refusal : TextRefused Cause) → refusing ≡ Some refusal → IsRefused (names_of app) app b text refusal
  end_wrong refusal wrong =
      let refuses = rw wrong at h.stands in
      refused_there refusal (refuses text [] short (sym (append-nil (lines text))))

  goes : refusing ≡ None → IsJudgedSoFar own board names (lines text) reader judge
  goes none = rw none at h.stands

  pub end_unended : refusing ≡ None → (count : ℕ) (cause : Cause) → length (lines text) ≡ count
      → option_map cause_of (traces.missing reader.inner.phase) ≡ Some cause
      → IsRefused (names_of app) app b text (refused_at (count + 1) cause)
  end_unended none count cause counted misses =
      refused_there (refused_at (count + 1) cause) (first_wrong (count + 1) cause (record {
        short = short;
        before = lines text;
        behind = [];
        parts = sym (append-nil (lines text));
        number_is = omega (arith, counted);
        reached = standing reader (goes none).shown;
        lead = (goes none).read;
        wrong = misses;
      }))

  pub end_judged : refusing ≡ None → (total : Option ℕ) (verdict : Verdict) (count : ℕ)
      → (traces.missing reader.inner.phase ≡ None) × (total ≡ traces.total_of reader.inner.phase)
      → ((d : Board) → AreInputs own d.inputs → (shown : List ShownLine) → HasJudged own d shown judge
      → IsVerdictBeside own d shown total verdict)
      → ((a : App) (d : Board) (shown : List ShownLine) → HasJudged a d shown judge → count ≡ length shown)
      → IsJudgedText app b text verdict count
  end_judged none total verdict count whole judges counts =
      let g = goes none in
      let told : Told = record { lines = g.shown; total = total } in
      record {
        told = told;
        read =
            subst (λ (d : Board). IsInputsText (names_of app) app d text told) same_board
            (subst (λ (a : App). IsInputsText (names_of app) a board text told) same_app
            (subst (λ (n : Names). IsInputsText n own board text told) same_names (record {
              reached = standing reader g.shown;
              leads = record { short = short; lead = g.read; whole = ap (option_map cause_of) whole.0 };
              tells = ap (λ t. record { lines = g.shown; total = t }) whole.1;
            })));
        is =
            subst (λ (d : Board). IsVerdictBeside app d g.shown total verdict) same_board
            (subst (λ (a : App). IsVerdictBeside a board g.shown total verdict) same_app
            (judges board h.inputs g.shown g.judged));
        counted = counts own board g.shown g.judged;
      }
