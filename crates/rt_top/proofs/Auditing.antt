-- How an auditor goes on by a line, and how it ends.
use Rattle.std.proofs.Common.{◌≡◌, ℕ, suc, ◌+◌, ◌≤◌, ◌==◌, true, false, if◌then◌else◌, List, [], ◌∷◌}
use Rattle.std.proofs.Common.{◌++◌, length, Option, Some, None, Ok, Err, refl, sym, ap}
use Rattle.std.proofs.Common.{subst, ◌∙◌, arith, append_assoc, append-nil, length-append}
use Rattle.rt_ids.specs.Names.{Names}
use Rattle.rt_ids.specs.declared.limits.TheConstants.{TRACE_BYTES}
use Rattle.std.proofs.lemmas.List.Splits.{length-slice_split}
use Rattle.std.proofs.lemmas.List.Sums.{count_by-le-length}
use Rattle.std.proofs.lemmas.Option.{same_Some}
use Rattle.rt_ids.specs.Lists.{is_empty}
use Rattle.rt_lines.specs.Parts.{parts, lines_of_parts, lines}
use Rattle.rt_lines.proofs.Reading.{lead_more}
use Rattle.rt_app.specs.Names.{names_of}
use Rattle.rt_app.specs.Tree.{App}
use Rattle.rt_app.specs.View.{app_of}
use Rattle.rt_baker.specs.Audit.{IsVerdict}
use Rattle.rt_baker.specs.Judge.{HasJudged}
use Rattle.rt_baker.specs.declared.judge.Judge.{Judge}
use Rattle.rt_baker.specs.declared.verdict.Verdict.{Verdict}
use Rattle.rt_baker_moves.specs.declared.machine.Machine.{Machine}
use Rattle.rt_trace.specs.Reader.{refusal_of, standing}
use Rattle.rt_trace.specs.Reading.{IsTraceRefused, IsTraceText, line_told, missing, total_of, trace_reader}
use Rattle.rt_trace.specs.Trace.{Trace}
use Rattle.rt_trace.specs.declared.item.Item.{Item}
use Rattle.rt_lines.specs.declared.operand.Wrong.{Wrong}
use Rattle.rt_trace.specs.declared.reader.TraceReader.{TraceReader}
use Rattle.rt_trace.specs.declared.refusal.TraceRefused.{TraceRefused}
use Rattle.rt_trace.proofs.Stepping.{line_passed, line_read, line_wrong, refused_so}
use Rattle.rt_top.specs.Inside.Auditor.{IsJudgedSoFar, Refuses, AuditStands, HasAudited, IsJudgedText}

module _ {app : App} {names : Names} {ls : List (List ℕ)} {old : TraceReader} (line : List ℕ) where
  -- a line that tells no item
  pub goes_silent : {new : TraceReader} {judge : Judge} → line_told names old.phase line ≡ Ok (new.phase, None)
      → IsJudgedSoFar app names ls old judge → IsJudgedSoFar app names (ls ++ line ∷ []) new judge
  goes_silent {new = new} reads g = record {
    items = g.items;
    few = omega (arith, g.few, length-append ls (line ∷ []));
    read =
        lead_more (trace_reader names) _ _ _ ls line g.read (line_passed names old.phase new.phase g.items line reads);
    judged = g.judged;
  }

  -- and one that tells an item
  pub goes_on : {new : TraceReader} {before after : Judge} (item : Item)
      → line_told names old.phase line ≡ Ok (new.phase, Some item)
      → ((items : List Item) → HasJudged app items before → HasJudged app (items ++ item ∷ []) after)
      → IsJudgedSoFar app names ls old before → IsJudgedSoFar app names (ls ++ line ∷ []) new after
  goes_on {new = new} item reads judges g = record {
    items = g.items ++ item ∷ [];
    few = omega (arith, g.few, length-append g.items (item ∷ []), length-append ls (line ∷ []));
    read =
        lead_more (trace_reader names) _ _ _ ls line g.read
        (line_read names old.phase new.phase g.items line (Some item) reads);
    judged = judges g.items g.judged;
  }

  -- a line that is wrong
  pub line_refuses : {judge : Judge} (number : ℕ) (refusal : TraceRefused) → suc (length ls) ≡ number
      → (w : Wrong) × (line_told names old.phase line ≡ Err w) × (refusal ≡ refusal_of w number)
      → IsJudgedSoFar app names ls old judge → Refuses names (ls ++ line ∷ []) refusal
  line_refuses number refusal counted (w, told, says) g = λ text behind short parts.
      refused_so names text (suc (length ls)) w refusal (record {
        short = short;
        before = ls;
        behind = line ∷ behind;
        parts = parts ∙ append_assoc ls (line ∷ []) behind;
        number_is = refl;
        reached = standing old g.items;
        lead = g.read;
        wrong = line_wrong names old.phase g.items line w told;
      }) (says ∙ ap (refusal_of w) (sym counted))

-- a line behind a wrong one
pub refuses_on : (names : Names) (ls : List (List ℕ)) (line : List ℕ) (refusal : TraceRefused)
    → Refuses names ls refusal → Refuses names (ls ++ line ∷ []) refusal
refuses_on names ls line refusal refuses =
    λ text behind short parts. refuses text (line ∷ behind) short (parts ∙ append_assoc ls (line ∷ []) behind)

-- and where that is kept
pub stands_on : (app : App) (names : Names) (ls : List (List ℕ)) (line : List ℕ) (reader : TraceReader) (judge : Judge)
    (refusing : Option TraceRefused) (refusal : TraceRefused) → refusing ≡ Some refusal
    → AuditStands app names ls reader judge refusing → AuditStands app names (ls ++ line ∷ []) reader judge refusing
stands_on app names ls line reader judge None refusal some h = absurd cc
stands_on app names ls line reader judge (Some kept) refusal some h = refuses_on names ls line kept h

few_parts : (ps : List (List ℕ)) → length (lines_of_parts ps) ≤ length ps
few_parts [] = omega arith
few_parts (x ∷ []) =
    elim (is_empty x) as (λ b. length (if b then [] else x ∷ []) ≤ 1) [ true ↦ omega arith | false ↦ omega arith ]
few_parts (x ∷ y ∷ more) = omega (arith, few_parts (y ∷ more))

-- a text has one line more than it has bytes at most
pub few_lines : (text : List ℕ) → length (lines text) ≤ length text + 1
few_lines text =
    omega (
      arith,
      few_parts (parts 10 text),
      length-slice_split (λ b. b == 10) text,
      count_by-le-length (λ b. b == 10) text,
    )

-- behind all lines of a text
module _ {chosen : Option App} {names : Names} {machine : Machine} {reader : TraceReader} {judge : Judge}
    {refusing : Option TraceRefused} {app : App} (text : List ℕ) (is : chosen ≡ Some app)
    (short : length text ≤ TRACE_BYTES) (h : HasAudited chosen names machine reader judge refusing (lines text)) where
  same_app : app_of machine.code.now.app.now ≡ app
  same_app = same_Some (app_of machine.code.now.app.now) app (sym h.chose ∙ is)

  same_names : names ≡ names_of app
  same_names = h.named ∙ ap names_of same_app

  pub end_wrong : (refusal : TraceRefused) → refusing ≡ Some refusal → IsTraceRefused (names_of app) text refusal
  end_wrong refusal wrong =
      let refuses = rw wrong at h.stands in
      subst (λ (n : Names). IsTraceRefused n text refusal) same_names
      (refuses text [] short (sym (append-nil (lines text))))

  goes : refusing ≡ None → IsJudgedSoFar (app_of machine.code.now.app.now) names (lines text) reader judge
  goes none = rw none at h.stands

  pub end_unended : refusing ≡ None → (count : ℕ) (refusal : TraceRefused) → length (lines text) ≡ count
      → (w : Wrong) × (missing reader.phase ≡ Some w) × (refusal ≡ refusal_of w (count + 1))
      → IsTraceRefused (names_of app) text refusal
  end_unended none count refusal counted (w, misses, says) =
      subst (λ (n : Names). IsTraceRefused n text refusal) same_names
      (refused_so names text (count + 1) w refusal (record {
        short = short;
        before = lines text;
        behind = [];
        parts = sym (append-nil (lines text));
        number_is = omega (arith, counted);
        reached = standing reader (goes none).items;
        lead = (goes none).read;
        wrong = misses;
      }) says)

  pub end_judged : refusing ≡ None → (total : Option ℕ) (verdict : Verdict) (count : ℕ)
      → (missing reader.phase ≡ None) × (total ≡ total_of reader.phase)
      → ((items : List Item) → HasJudged (app_of machine.code.now.app.now) items judge
      → IsVerdict (app_of machine.code.now.app.now) (record { items = items; total = total }) verdict)
      → ((a : App) (items : List Item) → HasJudged a items judge → count ≡ length items)
      → IsJudgedText app text verdict count
  end_judged none total verdict count whole judges counts =
      let g = goes none in
      let shown : Trace = record { items = g.items; total = total } in
      record {
        trace = shown;
        read = subst (λ (n : Names). IsTraceText n text shown) same_names (record {
          reached = standing reader g.items;
          read = record { short = short; lead = g.read; whole = whole.0 };
          tells = ap (λ t. record { items = g.items; total = t }) whole.1;
        });
        is = subst (λ (a : App). IsVerdict a shown verdict) same_app (judges g.items g.judged);
        counted = counts (app_of machine.code.now.app.now) g.items g.judged;
      }
