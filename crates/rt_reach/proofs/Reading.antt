-- The text of the script that goes deepest is read as that script.
use Rattle.std.proofs.Common.{◌≡◌, ℕ, ◌+◌, ◌-◌, ◌*◌, ◌==◌, ◌<◌, ◌≤◌, ◌^◌, ◌||◌, true, false, List, [], ◌∷◌, ◌++◌}
use Rattle.std.proofs.Common.{length, map, flat_map, codes, decimal, get_or, Some, Ok}
use Rattle.std.proofs.Common.{refl, ap, sym, subst, ◌∙◌, arith, append_assoc, append-nil, length-append}
use Rattle.std.specs.List.{AllByRecursion}
use Rattle.std.specs.Str.Lines.{lines, strip_carriage_return}
use Rattle.std.proofs.lemmas.Bool.{le-leb}
use Rattle.std.proofs.lemmas.List.Sums.{sum_by-append, sum_by-cons}
use Rattle.std.proofs.lemmas.Fmt.{decimal_nonempty}
use Rattle.rt_ids.specs.Lists.{is_empty}
use Rattle.rt_ids.specs.Names.{Names, AreNames, irq_of}
use Rattle.rt_ids.specs.Naming.{irq_name, IsDeclared}
use Rattle.rt_ids.specs.Word.{is_identifier}
use Rattle.rt_ids.specs.declared.limits.TheConstants.{NAME_BYTES, SCRIPT_EVENTS}
use Rattle.rt_lines.specs.Answers.{and_make}
use Rattle.rt_lines.specs.Numbers.{short_number}
use Rattle.rt_lines.specs.Parts.{spaced_words, line_with_feed}
use Rattle.rt_lines.specs.Reading.{Lead}
use Rattle.rt_script.specs.Script.{count, count_of}
use Rattle.rt_script.specs.Text.{IsScriptText, script_reader}
use Rattle.rt_script.specs.Wording.{is_blank, is_comment, is_loose, words_ask, line_of}
use Rattle.rt_script.specs.declared.line.Line.{Line}
use Rattle.rt_script.specs.declared.line.Line.TheVariants.{Steps, Pends}
use Rattle.rt_script.proofs.Lines.{lines_next}
use Rattle.rt_lines.proofs.Found.{irq_known}
use Rattle.rt_reach.specs.Deepest.{priority_lines, script_of}
use Rattle.rt_reach.specs.Spelled.{pend_line, step_line, priority_text, script_text}
use Rattle.rt_reach.proofs.Words.{IsPlain, plain_without, name_plain, decimal_plain, decimal_length, decimal_read}
use Rattle.rt_reach.proofs.Words.{ends_otherwise, two_words, first_part}

-- a word of name bytes that is not empty
pub record IsWordy (w : List ℕ) : Type 0 where
  pub first : ℕ
  pub rest : List ℕ
  pub is : w ≡ first ∷ rest
  pub plain : IsPlain w

wordy_of : (w : List ℕ) → IsPlain w → 1 ≤ length w → IsWordy w
wordy_of [] plain some = absurd (omega arith)
wordy_of (b ∷ w) plain some = record { first = b; rest = w; is = refl; plain = plain }

-- a line of a verb and a word is not loose
tight : (c : ℕ) (front w : List ℕ) → AllByRecursion (λ b. (b == c) ≡ false) w → (is : IsWordy w)
    → (get_or (front ++ w) (length (front ++ w) - 1) 0 == c) ≡ false
tight c front [] all is = absurd (cc (is.is))
tight c front (b ∷ w) all is = ends_otherwise c front b w all

module _ (names : Names) where
  -- a line that is neither blank nor a comment nor loose asks what its words ask
  judged : (line : List ℕ) → (is_blank line || is_comment line) ≡ false → is_loose line ≡ false
      → line_of names line ≡ and_make (words_ask names (spaced_words line)) Some
  judged line skipped loose = rw (skipped, loose) refl

  not_empty : (w : List ℕ) → IsWordy w → is_empty w ≡ false
  not_empty w is = ap is_empty is.is

  step_asks : (w : List ℕ) (n : ℕ) → IsWordy w → short_number w ≡ Some n
      → line_of names (codes "step " ++ w) ≡ Ok (Some (Steps n))
  step_asks w n is reads =
      judged (codes "step " ++ w) refl (tight 32 (codes "step ") w (plain_without 32 refl w is.plain) is)
      ∙ ap (λ ws. and_make (words_ask names ws) Some)
      (two_words (codes "step") w (refl, (refl, (refl, (refl, tt)))) is.plain refl (not_empty w is))
      ∙ rw reads refl

  pend_asks : (w : List ℕ) (irq : ℕ) → IsWordy w → is_identifier w ≡ true → irq_of names w ≡ Some irq
      → line_of names (codes "pend " ++ w) ≡ Ok (Some (Pends irq 1))
  pend_asks w irq is known reads =
      judged (codes "pend " ++ w) refl (tight 32 (codes "pend ") w (plain_without 32 refl w is.plain) is)
      ∙ ap (λ ws. and_make (words_ask names ws) Some)
      (two_words (codes "pend") w (refl, (refl, (refl, (refl, tt)))) is.plain refl (not_empty w is))
      ∙ rw (known, reads) refl

  -- the first line of a text
  first_line : (front w rest : List ℕ) → IsPlain front → IsWordy w
      → lines ((front ++ 32 ∷ w) ++ 10 ∷ rest) ≡ (front ++ 32 ∷ w) ∷ lines rest
  first_line front w rest plain is =
      lines_next (λ b. b == 10) ((front ++ 32 ∷ w) ++ 10 ∷ rest) (front ++ 32 ∷ w) rest
      (first_part (front ++ 32 ∷ w) rest (no_feed front plain))
      ∙ ap (λ x. x ∷ lines rest) (kept front)
    where
      no_feed : (front : List ℕ) → IsPlain front → AllByRecursion (λ b. (b == 10) ≡ false) (front ++ 32 ∷ w)
      no_feed [] plain = (refl, plain_without 10 refl w is.plain)
      no_feed (b ∷ front) plain = ((plain_without 10 refl (b ∷ []) (plain.0, tt)).0, no_feed front plain.1)

      kept : (front : List ℕ) → strip_carriage_return (front ++ 32 ∷ w) ≡ front ++ 32 ∷ w
      kept front =
          let last : (get_or (front ++ 32 ∷ w) (length (front ++ 32 ∷ w) - 1) 0 == 13) ≡ false =
          ends_otherwise 13 front 32 w (refl, plain_without 13 refl w is.plain) in
          rw last refl

  module _ (are : AreNames names) where
    -- the interrupts have names
    abbrev pub AreDeclaredHere : List ℕ → Type 0
    AreDeclaredHere irqs = AllByRecursion (IsDeclared names) irqs

    -- these lines say this script
    abbrev Say : List (List ℕ) → List Line → Type 0
    Say ls script = map (line_of names) ls ≡ map (λ line. Ok (Some line)) script

    -- and lead to it, where its events are not too many
    asks_lead : (ls : List (List ℕ)) (script before : List Line) → Say ls script
        → count (before ++ script) ≤ SCRIPT_EVENTS → Lead (script_reader names) before ls (before ++ script)
    asks_lead [] [] before says few = sym (append-nil before)
    asks_lead [] (asked ∷ script) before says few = absurd cc
    asks_lead (line ∷ ls) [] before says few = absurd cc
    asks_lead (line ∷ ls) (asked ∷ script) before says few =
        let reads : line_of names line ≡ Ok (Some asked) = cc in
        let behind : Say ls script = cc in
        let whole = append_assoc before (asked ∷ []) script in
        let all = sum_by-append count_of before (asked ∷ script) in
        let more = sum_by-cons count_of asked script in
        let room : count before + count_of asked ≤ SCRIPT_EVENTS = omega (arith, few, all, more) in
        let fits = le-leb (count before + count_of asked) SCRIPT_EVENTS room in (
          before ++ asked ∷ [],
          rw (reads, fits) refl,
          subst (Lead (script_reader names) (before ++ asked ∷ []) ls) whole
              (asks_lead ls script (before ++ asked ∷ []) behind
              (subst (λ lines. count lines ≤ SCRIPT_EVENTS) (sym whole) few)),
        )

    -- a priority's lines in front
    priority_says : (steps irq : ℕ) (rest : List ℕ) (script : List Line) → steps < 10 ^ 9 → IsDeclared names irq
        → Say (lines rest) script
        → Say (lines (priority_text names steps irq ++ rest)) (priority_lines steps irq ++ script)
    priority_says steps irq rest script few declared says =
        let known = irq_known names irq are declared in
        let word : IsWordy (irq_name names irq) = wordy_name (irq_name names irq) known.0 in
        let number : IsWordy (decimal steps) =
        wordy_of (decimal steps) (decimal_plain steps (omega arith)) (decimal_nonempty steps (omega arith)) in
        let split : lines (priority_text names steps irq ++ rest) ≡ pend_line names irq ∷ step_line steps ∷ lines rest =
        ap lines (append_assoc (line_with_feed (pend_line names irq)) (line_with_feed (step_line steps)) rest
        ∙ append_assoc (pend_line names irq) (10 ∷ []) (line_with_feed (step_line steps) ++ rest)
        ∙ ap (λ t. pend_line names irq ++ 10 ∷ t) (append_assoc (step_line steps) (10 ∷ []) rest))
        ∙ first_line (codes "pend") (irq_name names irq) (step_line steps ++ 10 ∷ rest)
        (refl, (refl, (refl, (refl, tt)))) word
        ∙ ap (λ ls. pend_line names irq ∷ ls)
        (first_line (codes "step") (decimal steps) rest (refl, (refl, (refl, (refl, tt)))) number) in
        ap (map (line_of names)) split
        ∙ ap (λ r. r ∷ line_of names (step_line steps) ∷ map (line_of names) (lines rest))
        (pend_asks (irq_name names irq) irq word known.0 known.1)
        ∙ ap (λ r. Ok (Some (Pends irq 1)) ∷ r ∷ map (line_of names) (lines rest))
        (step_asks (decimal steps) steps number (decimal_read steps few))
        ∙ ap (λ rs. Ok (Some (Pends irq 1)) ∷ Ok (Some (Steps steps)) ∷ rs) says
      where
        wordy_name : (w : List ℕ) → is_identifier w ≡ true → IsWordy w
        wordy_name [] is = absurd (cc (is))
        wordy_name (b ∷ w) is = record { first = b; rest = w; is = refl; plain = name_plain (b ∷ w) is }

    others_say : (irqs : List ℕ) → AreDeclaredHere irqs
        → Say (lines (flat_map (priority_text names 1) irqs)) (flat_map (priority_lines 1) irqs)
    others_say [] declared = refl
    others_say (irq ∷ irqs) declared =
        priority_says 1 irq (flat_map (priority_text names 1) irqs) (flat_map (priority_lines 1) irqs) (omega arith)
        declared.0
        (others_say irqs declared.1)

    script_says : (steps : ℕ) (irqs : List ℕ) → steps < 10 ^ 9 → AreDeclaredHere irqs
        → Say (lines (script_text names steps irqs)) (script_of steps irqs)
    script_says steps [] few declared = refl
    script_says steps (irq ∷ irqs) few declared =
        priority_says steps irq (flat_map (priority_text names 1) irqs) (flat_map (priority_lines 1) irqs) few
        declared.0
        (others_say irqs declared.1)

    -- how many events they are
    others_count : (irqs : List ℕ) → count (flat_map (priority_lines 1) irqs) ≡ 2 * length irqs
    others_count [] = refl
    others_count (irq ∷ irqs) =
        let more = others_count irqs in
        let here : count (priority_lines 1 irq ++ flat_map (priority_lines 1) irqs)
        ≡ count (priority_lines 1 irq) + count (flat_map (priority_lines 1) irqs) =
        sum_by-append count_of (priority_lines 1 irq) (flat_map (priority_lines 1) irqs) in
        omega (arith, more, here)

    script_count : (steps : ℕ) (irqs : List ℕ) → count (script_of steps irqs) ≤ steps + 2 * length irqs
    script_count steps [] = omega arith
    script_count steps (irq ∷ irqs) =
        let more = others_count irqs in
        let here : count (priority_lines steps irq ++ flat_map (priority_lines 1) irqs)
        ≡ count (priority_lines steps irq) + count (flat_map (priority_lines 1) irqs) =
        sum_by-append count_of (priority_lines steps irq) (flat_map (priority_lines 1) irqs) in
        omega (arith, more, here)

    -- and how many bytes their text has
    priority_short : (steps irq : ℕ) → steps < 10 ^ 9 → length (irq_name names irq) ≤ NAME_BYTES
        → length (priority_text names steps irq) ≤ 64
    priority_short steps irq few name =
        let number = decimal_length steps few in
        let front = length-append (codes "pend ") (irq_name names irq) in
        let behind = length-append (codes "step ") (decimal steps) in
        let inner = length-append (step_line steps) (10 ∷ []) in
        let outer = length-append (pend_line names irq) (10 ∷ []) in
        let whole = length-append (line_with_feed (pend_line names irq)) (line_with_feed (step_line steps)) in
        omega (arith, number, front, behind, inner, outer, whole, name)

    abbrev pub AreShort : List ℕ → Type 0
    AreShort irqs = AllByRecursion (λ irq. length (irq_name names irq) ≤ NAME_BYTES) irqs

    others_short : (irqs : List ℕ) → AreShort irqs → length (flat_map (priority_text names 1) irqs) ≤ 64 * length irqs
    others_short [] short = omega arith
    others_short (irq ∷ irqs) short =
        let more = others_short irqs short.1 in
        let here = priority_short 1 irq (omega arith) short.0 in
        let both = length-append (priority_text names 1 irq) (flat_map (priority_text names 1) irqs) in
        omega (arith, more, here, both)

    script_short : (steps : ℕ) (irqs : List ℕ) → steps < 10 ^ 9 → AreShort irqs
        → length (script_text names steps irqs) ≤ 64 * length irqs
    script_short steps [] few short = omega arith
    script_short steps (irq ∷ irqs) few short =
        let more = others_short irqs short.1 in
        let here = priority_short steps irq few short.0 in
        let both = length-append (priority_text names steps irq) (flat_map (priority_text names 1) irqs) in
        omega (arith, more, here, both)

    pub is_script_text : (steps : ℕ) (irqs : List ℕ) → steps ≤ 900001 → length irqs ≤ 256 → AreDeclaredHere irqs
        → AreShort irqs
        → IsScriptText names (script_text names steps irqs) (script_of steps irqs)
    is_script_text steps irqs few priorities declared short =
        let low : steps < 10 ^ 9 = omega arith in
        let bytes = script_short steps irqs low short in
        let events = script_count steps irqs in
        record {
          short = omega (arith, bytes, priorities);
          lead =
              asks_lead (lines (script_text names steps irqs)) (script_of steps irqs) []
              (script_says steps irqs low declared) (omega (arith, events, few, priorities));
          whole = refl;
        }
