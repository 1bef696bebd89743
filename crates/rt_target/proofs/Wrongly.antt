-- A line that is refused is wrong for the cause that is told.
use Rattle.std.proofs.Common.{◌≡◌, ◌⊎◌, inl, inr, ℕ, suc, true, false, ◌||◌, List, [], ◌∷◌, ◌++◌, codes, length}
use Rattle.std.proofs.Common.{Option, Some, None, Result, Ok, Err, if◌then◌else◌, refl, sym, ap, subst, ◌∙◌, append-nil}
use Rattle.std.specs.List.{list_any}
use Rattle.std.specs.Option.{ok_or}
use Rattle.std.specs.Result.{IfErr}
use Rattle.std.specs.Str.Lines.{lines}
use Rattle.std.proofs.lemmas.Bool.{cond_both}
use Rattle.std.proofs.lemmas.Option.{none-some}
use Rattle.std.proofs.lemmas.Result.{IfOk-at_ok, IfErr-at_err}
use Rattle.rt_lemmas.proofs.Bools.{true_and_false}
use Rattle.rt_ids.specs.Names.{irq_of}
use Rattle.rt_ids.specs.Word.{is_identifier}
use Rattle.rt_lines.specs.Parts.{spaced_words}
use Rattle.rt_lines.specs.Reading.{IsFirstWrong, IsWrongNext, Lead}
use Rattle.rt_script.specs.Wording.{is_blank, is_comment, is_loose}
use Rattle.rt_app.specs.Tree.{App}
use Rattle.rt_app.specs.Names.{names_of}
use Rattle.rt_board.specs.Board.{Board}
use Rattle.rt_board.specs.Wording as board_wording
use Rattle.rt_board.specs.Wrong as inputs
use Rattle.rt_board.specs.declared.refusal.Cause as board
use Rattle.rt_board.specs.declared.refusal.Cause.TheVariants as board_cause
use Rattle.rt_board.proofs.Refused.{if_err_or, if_err_then, if_err_make}
use Rattle.rt_board.proofs.Wrongly.{refused_lines_are_wrong as board_wrong}
use Rattle.rt_given.specs.Wording.{input_named}
use Rattle.rt_target.specs.Chip.{says_same, is_in_range, overlap, has_too_few_bits, calls_for_none}
use Rattle.rt_target.specs.Reading.{wanting, setup_reader, target_reader}
use Rattle.rt_target.specs.Setup.{Setup, no_setup, with_fact}
use Rattle.rt_target.specs.Told.{HasWords, Spells, SaysFact, TellsFact, TellLines}
use Rattle.rt_target.specs.Wording.{name_of, form_of, number_spelled, number_told, one_number, two_numbers, one_irq}
use Rattle.rt_target.specs.Wording.{told_as, input_local, input_word, fact_of, if_apart, if_can_follow}
use Rattle.rt_target.specs.Wording.{board_or_wrong, input_line}
use Rattle.rt_target.specs.Wording.{fact_behind, chip_line, line_of_form, words_say, with_line}
use Rattle.rt_target.specs.Wrong.{AreOf, IsForm, IsFaulty, IsTold, IsWrongLine, IsWanting}
use Rattle.rt_target.specs.Wrong.{RefusedLinesAreWrong}
use Rattle.rt_target.specs.declared.fact.Fact.{Fact}
use Rattle.rt_target.specs.declared.fact.Fact.TheVariants.{Flash, Ram, Port, Tick, Bits, Word, Call}
use Rattle.rt_target.specs.declared.line.Form.{Form}
use Rattle.rt_target.specs.declared.line.Form.TheVariants as form
use Rattle.rt_target.specs.declared.refusal.Cause.{Cause}
use Rattle.rt_target.specs.declared.refusal.Cause.TheVariants as cause
use Rattle.rt_target.proofs.Fine.{lead_fine}
use Rattle.rt_target.proofs.Named.{told_from}
use Rattle.rt_target.proofs.Saying.{named_form, fact_says}
use Rattle.rt_target.proofs.Targets.{from_target}

-- a form is that of its name
form_back : (f : Form) → form_of (name_of f) ≡ Some f
form_back form.Flash = refl
form_back form.Ram = refl
form_back form.Port = refl
form_back form.Tick = refl
form_back form.Bits = refl
form_back form.Word = refl
form_back form.Call = refl

-- forms of one name are one
one_form : (f g : Form) (ws vs : List (List ℕ)) → name_of f ∷ ws ≡ name_of g ∷ vs → (f ≡ g) × (ws ≡ vs)
one_form f g ws vs is =
    let first : name_of f ≡ name_of g = cc in
    let forms : Some f ≡ Some g = sym (form_back f) ∙ ap form_of first ∙ form_back g in
    (cc, cc)

-- a number that is not read is none, and no other cause is told
number_err : (word : List ℕ) → IfErr (number_told word) (λ c. c ≡ cause.BadLine)
number_err word = if_err_or (λ c. c ≡ cause.BadLine) (number_spelled word) cause.BadLine (λ none. refl)

one_err : (words : List (List ℕ)) → IfErr (one_number words) (λ c. c ≡ cause.BadLine)
one_err [] = refl
one_err (a ∷ []) = number_err a
one_err (a ∷ b ∷ words) = refl

two_err : (words : List (List ℕ)) → IfErr (two_numbers words) (λ c. c ≡ cause.BadLine)
two_err [] = refl
two_err (a ∷ []) = refl
two_err (a ∷ b ∷ []) =
    if_err_then (λ c. c ≡ cause.BadLine) (number_told a) _ (number_err a)
    (λ n is. if_err_make (λ c. c ≡ cause.BadLine) (number_told b) (λ m. (n, m)) (number_err b))
two_err (a ∷ b ∷ c ∷ words) = refl

-- why the words behind the first say nothing
data IsErr (app : App) (b : Board) (f : Form) (words : List (List ℕ)) : Cause → Type 0 where
  bad : IsErr app b f words cause.BadLine
  no_irq : (name : List ℕ) → f ≡ form.Call → words ≡ name ∷ [] → is_identifier name ≡ true
      → irq_of (names_of app) name ≡ None → IsErr app b f words cause.UnknownInterrupt
  no_input : (name x : List ℕ) (n : ℕ) → f ≡ form.Word → words ≡ name ∷ x ∷ [] → is_identifier name ≡ true
      → Spells x n → input_named app.locals b name ≡ None → IsErr app b f words cause.UnknownInput

module _ (app : App) (b : Board) where
  abbrev Why : Form → List (List ℕ) → Cause → Type 0
  Why f words c = IsErr app b f words c

  only_bad : (f : Form) (words : List (List ℕ)) {A : Type 0} (r : Result A Cause)
      → IfErr r (λ c. c ≡ cause.BadLine) → IfErr r (Why f words)
  only_bad f words (Ok x) is = tt
  only_bad f words (Err c) is = subst (Why f words) (sym is) bad

  irq_err : (words : List (List ℕ)) → IfErr (one_irq (names_of app) words) (Why form.Call words)
  irq_err [] = bad
  irq_err (i ∷ []) =
      cond_both (is_identifier i) (ok_or (irq_of (names_of app) i) cause.UnknownInterrupt) (Err cause.BadLine)
      (λ r. IfErr r (Why form.Call (i ∷ [])))
      (λ identifier. if_err_or (Why form.Call (i ∷ [])) (irq_of (names_of app) i) cause.UnknownInterrupt
      (λ none. no_irq i refl refl identifier none))
      (λ _. bad)
  irq_err (i ∷ j ∷ words) = bad

  word_err : (words : List (List ℕ)) → IfErr (input_word app b words) (Why form.Word words)
  word_err [] = bad
  word_err (name ∷ []) = bad
  word_err (name ∷ a ∷ []) =
      if_err_then (Why form.Word (name ∷ a ∷ [])) (number_told a) _
      (only_bad form.Word (name ∷ a ∷ []) (number_told a) (number_err a))
      (λ n is. if_err_make (Why form.Word (name ∷ a ∷ [])) (input_local app b name) _
      (cond_both (is_identifier name) (ok_or (input_named app.locals b name) cause.UnknownInput) (Err cause.BadLine)
      (λ r. IfErr r (Why form.Word (name ∷ a ∷ [])))
      (λ identifier. if_err_or (Why form.Word (name ∷ a ∷ [])) (input_named app.locals b name) cause.UnknownInput
      (λ none. no_input name a n refl refl identifier (some_of (number_spelled a) n is) none))
      (λ _. bad)))
    where
      some_of : (o : Option ℕ) (n : ℕ) → ok_or o cause.BadLine ≡ Ok n → o ≡ Some n
      some_of None n is = absurd cc
      some_of (Some m) n is = cc
  word_err (name ∷ a ∷ c ∷ words) = bad

  fact_err : (f : Form) (words : List (List ℕ)) → IfErr (fact_of (names_of app) app b f words) (Why f words)
  fact_err form.Flash words =
      if_err_make (Why form.Flash words) (two_numbers words) _
      (only_bad form.Flash words (two_numbers words) (two_err words))
  fact_err form.Ram words =
      if_err_make (Why form.Ram words) (two_numbers words) _
      (only_bad form.Ram words (two_numbers words) (two_err words))
  fact_err form.Port words =
      if_err_make (Why form.Port words) (one_number words) _
      (only_bad form.Port words (one_number words) (one_err words))
  fact_err form.Tick words =
      if_err_make (Why form.Tick words) (one_number words) _
      (only_bad form.Tick words (one_number words) (one_err words))
  fact_err form.Bits words =
      if_err_make (Why form.Bits words) (one_number words) _
      (only_bad form.Bits words (one_number words) (one_err words))
  fact_err form.Word words = word_err words
  fact_err form.Call words = if_err_make (Why form.Call words) (one_irq (names_of app) words) Call (irq_err words)

  -- words of no form are those that are told to be so
  not_of : (f : Form) (words : List (List ℕ)) → fact_of (names_of app) app b f words ≡ Err cause.BadLine
      → ¬ AreOf f words
  not_of form.Flash words err are =
      let right : fact_of (names_of app) app b form.Flash words ≡ Ok (Flash are.2 are.3) =
      rw (are.4, are.5, are.6) refl in
      absurd cc
  not_of form.Ram words err are =
      let right : fact_of (names_of app) app b form.Ram words ≡ Ok (Ram are.2 are.3) =
      rw (are.4, are.5, are.6) refl in
      absurd cc
  not_of form.Port words err are =
      let right : fact_of (names_of app) app b form.Port words ≡ Ok (Port are.1) = rw (are.2, are.3) refl in absurd cc
  not_of form.Tick words err are =
      let right : fact_of (names_of app) app b form.Tick words ≡ Ok (Tick are.1) = rw (are.2, are.3) refl in absurd cc
  not_of form.Bits words err are =
      let right : fact_of (names_of app) app b form.Bits words ≡ Ok (Bits are.1) = rw (are.2, are.3) refl in absurd cc
  not_of form.Word words err are = by (input_named app.locals b are.0) refl
    where
      by : (o : Option ℕ) → input_named app.locals b are.0 ≡ o → ⊥
      by None is =
          let right : fact_of (names_of app) app b form.Word words ≡ Err cause.UnknownInput =
          rw (are.3, are.4, are.5, is) refl in
          absurd cc
      by (Some local) is =
          let right : fact_of (names_of app) app b form.Word words ≡ Ok (Word local are.2) =
          rw (are.3, are.4, are.5, is) refl in
          absurd cc
  not_of form.Call words err are = by (irq_of (names_of app) are.0) refl
    where
      by : (o : Option ℕ) → irq_of (names_of app) are.0 ≡ o → ⊥
      by None is =
          let right : fact_of (names_of app) app b form.Call words ≡ Err cause.UnknownInterrupt =
          rw (are.1, are.2, is) refl in
          absurd cc
      by (Some number) is =
          let right : fact_of (names_of app) app b form.Call words ≡ Ok (Call number) =
          rw (are.1, are.2, is) refl in
          absurd cc

module _ (app : App) (setup : Setup) (line : List ℕ) where
  abbrev Wrong : Cause → Type 0
  Wrong c = IsFaulty app setup line c

  abbrev HasNoForm : Type 0
  HasNoForm = (words : List (List ℕ)) → HasWords line words → ¬ IsForm words

  -- what is wrong with a line that is of no form of the chip
  of_board : HasNoForm → (c : board.Cause) → inputs.IsWrong app setup.board.inputs line c → Wrong (told_as c)
  of_board none board_cause.BadLine wrong = (wrong, none)
  of_board none board_cause.UnknownTask wrong = wrong
  of_board none board_cause.SoftwareTask wrong = wrong
  of_board none board_cause.UnknownLocal wrong = wrong
  of_board none board_cause.LocalOfAnother wrong = wrong
  of_board none board_cause.NamedTwice wrong = inl wrong

  input_wrong : HasNoForm → IfErr (input_line (names_of app) app setup line) Wrong
  input_wrong none = by (board_wording.with_line (names_of app) app setup.board line) refl
    where
      by : (r : Result Board board.Cause) → board_wording.with_line (names_of app) app setup.board line ≡ r
          → IfErr (board_or_wrong setup r) Wrong
      by (Ok b) is = tt
      by (Err c) is =
          of_board none c (board_wrong app setup.board line c is)

  module _ (said : (is_blank line || is_comment line) ≡ false) (tight : is_loose line ≡ false) where
    module _ (f : Form) (words : List (List ℕ)) (parts : spaced_words line ≡ name_of f ∷ words) where
      has : HasWords line (name_of f ∷ words)
      has = record { words_are = parts; tight = tight; said = said }

      -- a line of the chip names no input
      names_none : (task local : List ℕ) → ¬ inputs.HasForm line task local
      names_none task local is =
          let words : name_of f ∷ words ≡ codes "input" ∷ task ∷ local ∷ [] = sym parts ∙ is.words in
          let first : name_of f ≡ codes "input" = cc in
          let none : form_of (codes "input") ≡ None = refl in
          none-some f (sym none ∙ ap form_of (sym first) ∙ form_back f)

      bad_wrong : ¬ AreOf f words → Wrong cause.BadLine
      bad_wrong not = (
        (said, names_none),
        λ ws is shape. let same = one_form f shape.0 words shape.1 (sym parts ∙ is.words_are ∙ shape.2) in
            not (subst (λ g. AreOf g words) (sym same.0) (subst (AreOf shape.0) (sym same.1) shape.3)),
      )

      err_wrong : (c : Cause) → fact_of (names_of app) app setup.board f words ≡ Err c
          → IsErr app setup.board f words c
          → Wrong c
      err_wrong c is bad = bad_wrong (not_of app setup.board f words is)
      err_wrong c is (no_irq name call words_are identifier none) = (
        name,
        subst (HasWords line) (ap (λ g. name_of g ∷ words) call ∙ ap (λ ws. codes "call" ∷ ws) words_are) has,
        identifier,
        none,
      )
      err_wrong c is (no_input name x n word words_are identifier spells none) = (
        name,
        x,
        n,
        subst (HasWords line) (ap (λ g. name_of g ∷ words) word ∙ ap (λ ws. codes "word" ∷ ws) words_are) has,
        identifier,
        spells,
        none,
      )

      follow_wrong : (e : Fact) → SaysFact app setup.board (name_of f ∷ words) e
          → IfErr (if_can_follow app setup.facts e) Wrong
      follow_wrong e says =
          let told : TellsFact app setup.board line e = (name_of f ∷ words, has, says) in
          let es = setup.facts in
          let bound : Result Fact Cause = if calls_for_none app e then Err cause.UnboundInterrupt else Ok e in
          cond_both (list_any (says_same e) es) (Err cause.NamedTwice)
          (if is_in_range e then if_apart app es e else Err cause.OutOfRange) (λ r. IfErr r Wrong)
          (λ twice. inr (e, told, twice))
          (λ new. cond_both (is_in_range e) (if_apart app es e) (Err cause.OutOfRange) (λ r. IfErr r Wrong)
          (λ range. cond_both (list_any (overlap e) es) (Err cause.Overlap)
          (if has_too_few_bits app.bits e then Err cause.TooFewBits else bound) (λ r. IfErr r Wrong)
          (λ over. (e, told, new, range, over))
          (λ apart. cond_both (has_too_few_bits app.bits e) (Err cause.TooFewBits) bound (λ r. IfErr r Wrong)
          (λ few. (e, told, new, range, apart, few))
          (λ many. cond_both (calls_for_none app e) (Err cause.UnboundInterrupt) (Ok e) (λ r. IfErr r Wrong)
          (λ unbound. (e, told, new, range, apart, many, unbound)) (λ _. tt))))
          (λ out. (e, told, new, out)))

      chip_wrong : IfErr (chip_line (names_of app) app setup f words) Wrong
      chip_wrong =
          if_err_make Wrong (fact_behind (names_of app) app setup f words) (with_fact setup)
          (if_err_then Wrong (fact_of (names_of app) app setup.board f words) (if_can_follow app setup.facts)
          (by (fact_of (names_of app) app setup.board f words) refl)
          (λ e is. follow_wrong e
          (IfOk-at_ok (SaysFact app setup.board (name_of f ∷ words)) is (fact_says app setup.board f words))))
        where
          by : (r : Result Fact Cause) → fact_of (names_of app) app setup.board f words ≡ r → IfErr r Wrong
          by (Ok e) is = tt
          by (Err c) is =
              err_wrong c is (IfErr-at_err (IsErr app setup.board f words) is (fact_err app setup.board f words))

    none_of : (first : List ℕ) (words : List (List ℕ)) → spaced_words line ≡ first ∷ words → form_of first ≡ None
        → HasNoForm
    none_of first words parts none ws is shape =
        let first_is : first ∷ words ≡ name_of shape.0 ∷ shape.1 = sym parts ∙ is.words_are ∙ shape.2 in
        let same : first ≡ name_of shape.0 = cc in
        none-some shape.0 (sym none ∙ ap form_of same ∙ form_back shape.0)

    form_wrong : (first : List ℕ) (words : List (List ℕ)) → spaced_words line ≡ first ∷ words → (o : Option Form)
        → form_of first ≡ o
        → IfErr (line_of_form (names_of app) app setup line words o) Wrong
    form_wrong first words parts None is = input_wrong (none_of first words parts is)
    form_wrong first words parts (Some f) is =
        chip_wrong f words (parts ∙ ap (λ w. w ∷ words) (named_form first f is))

    words_wrong : (words : List (List ℕ)) → spaced_words line ≡ words
        → IfErr (words_say (names_of app) app setup line words) Wrong
    words_wrong [] parts =
        input_wrong (λ ws is shape.
        let same : [] ≡ name_of shape.0 ∷ shape.1 = sym parts ∙ is.words_are ∙ shape.2 in absurd cc)
    words_wrong (first ∷ words) parts = form_wrong first words parts (form_of first) refl

  line_wrong : IfErr (with_line (names_of app) app setup line) Wrong
  line_wrong =
      cond_both (is_blank line || is_comment line) (Ok setup)
      (if is_loose line then Err cause.BadLine
      else words_say (names_of app) app setup line (spaced_words line))
      (λ r. IfErr r Wrong) (λ _. tt)
      (λ said. cond_both (is_loose line) (Err cause.BadLine)
      (words_say (names_of app) app setup line (spaced_words line)) (λ r. IfErr r Wrong)
      (λ loose. (
        (said, λ task local shape. true_and_false (is_loose line) loose shape.tight),
        λ words has shape. true_and_false (is_loose line) loose has.tight,
      ))
      (λ tight. words_wrong said tight (spaced_words line) refl))

module _ (app : App) where
  told_behind : (ls : List (List ℕ)) (setup : Setup) → Lead (setup_reader app) no_setup ls setup → IsTold app ls setup
  told_behind ls setup lead =
      let told = told_from app ls no_setup setup lead in
      let fine = lead_fine app ls setup lead in
      record {
        lines =
            subst (λ inputs. TellLines app no_setup.board ls inputs setup.facts) (sym told.2)
            (subst (λ facts. TellLines app no_setup.board ls told.0 facts) (sym told.3) told.4);
        inputs = fine.inputs;
        facts = fine.facts;
      }

  wrong_behind : (text : List ℕ) (n : ℕ) (c : Cause) (before behind : List (List ℕ)) (line : List ℕ) (setup : Setup)
      → lines text ≡ before ++ line ∷ behind → n ≡ suc (length before) → Lead (setup_reader app) no_setup before setup
      → with_line (names_of app) app setup line ≡ Err c
      → IsWrongLine app text n c
  wrong_behind text n c before behind line setup parts number lead is = record {
    before = before;
    line = line;
    behind = behind;
    parts = parts;
    number_is = number;
    setup = setup;
    told = told_behind before setup lead;
    wrong = IfErr-at_err (IsFaulty app setup line) is (line_wrong app setup line);
  }

  line_next : (text : List ℕ) (n : ℕ) (c : Cause) (is : IsFirstWrong (setup_reader app) text n c)
      (behind : List (List ℕ)) → is.behind ≡ behind
      → IsWrongNext (setup_reader app) is.reached behind c
      → IsWrongLine app text n c
  line_next text n c is [] same wrong = absurd (none-some c wrong)
  line_next text n c is (line ∷ behind) same wrong =
      wrong_behind text n c is.before behind line is.reached (is.parts ∙ ap (λ ls. is.before ++ ls) same) is.number_is
      is.lead wrong

  target_next : (text : List ℕ) (n : ℕ) (c : Cause) (is : IsFirstWrong (target_reader app) text n c)
      (behind : List (List ℕ)) → is.behind ≡ behind
      → IsWrongNext (target_reader app) is.reached behind c
      → IsWrongLine app text n c ⊎ IsWanting app text n c
  target_next text n c is [] same wrong =
      let whole : lines text ≡ is.before = is.parts ∙ ap (λ ls. is.before ++ ls) same ∙ append-nil is.before in
      inr (record {
        number_is = is.number_is ∙ ap (λ ls. suc (length ls)) (sym whole);
        setup = is.reached;
        told =
            subst (λ ls. IsTold app ls is.reached) (sym whole)
            (told_behind is.before is.reached (from_target app is.before no_setup is.reached is.lead));
        wanting = wrong;
      })
  target_next text n c is (line ∷ behind) same wrong =
      inl (wrong_behind text n c is.before behind line is.reached (is.parts ∙ ap (λ ls. is.before ++ ls) same)
      is.number_is (from_target app is.before no_setup is.reached is.lead) wrong)

pub refused_lines_are_wrong : RefusedLinesAreWrong
refused_lines_are_wrong = record {
  line = λ app text n c is. line_next app text n c is is.behind refl is.wrong;
  target = λ app text n c is. target_next app text n c is is.behind refl is.wrong;
}
