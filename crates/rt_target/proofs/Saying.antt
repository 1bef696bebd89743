-- What a line tells: nothing, an input that it names, or something of the chip.
use Rattle.std.proofs.Common.{◌≡◌, inl, inr, ℕ, false, ◌||◌, List, [], ◌∷◌, bytes_eq, codes}
use Rattle.std.proofs.Common.{Option, Some, None, Result, Ok, Err, IfOk, if◌then◌else◌, refl, ap, ◌∙◌}
use Rattle.std.specs.List.{list_any}
use Rattle.std.specs.Option.{ok_or}
use Rattle.std.proofs.lemmas.Bool.{cond_both}
use Rattle.std.proofs.lemmas.Result.{IfOk-at_ok}
use Rattle.std.proofs.lemmas.Slice.Eq.{bytes_eq-Decides}
use Rattle.rt_lemmas.proofs.Lists.{found_passes}
use Rattle.rt_ids.specs.Names.{irq_of}
use Rattle.rt_ids.specs.Word.{is_identifier}
use Rattle.rt_lines.specs.Parts.{spaced_words}
use Rattle.rt_lines.proofs.Decoded.{if_some_from, if_ok_from, if_ok_or, if_ok_chosen, if_ok_then, if_ok_make}
use Rattle.rt_script.specs.Wording.{is_blank, is_comment, is_loose}
use Rattle.rt_app.specs.Tree.{App}
use Rattle.rt_app.specs.Names.{names_of}
use Rattle.rt_board.specs.Board.{Board}
use Rattle.rt_board.specs.Told as boards
use Rattle.rt_board.specs.Wording as board_wording
use Rattle.rt_board.specs.declared.refusal.Cause as board
use Rattle.rt_board.proofs.Telling.{line_follows}
use Rattle.rt_given.specs.Wording.{input_named}
use Rattle.rt_target.specs.Chip.{says_same, is_in_range, overlap, has_too_few_bits, calls_for_none, CanFollow}
use Rattle.rt_target.specs.Setup.{Setup, with_board, with_fact}
use Rattle.rt_target.specs.Told.{Spells, NamesIrq, NamesLocal, SaysFact, ComesBehind}
use Rattle.rt_target.specs.Wording.{name_of, forms, form_of, number_spelled, number_told, one_number, two_numbers}
use Rattle.rt_target.specs.Wording.{one_irq, input_local, input_word, fact_of, if_apart, if_can_follow}
use Rattle.rt_target.specs.Wording.{board_or_wrong, input_line}
use Rattle.rt_target.specs.Wording.{fact_behind, chip_line, line_of_form, words_say, with_line}
use Rattle.rt_target.specs.declared.fact.Fact.{Fact}
use Rattle.rt_target.specs.declared.fact.Fact.TheVariants.{Flash, Ram, Port, Tick, Bits, Word, Call}
use Rattle.rt_target.specs.declared.line.Form.{Form}
use Rattle.rt_target.specs.declared.line.Form.TheVariants as form
use Rattle.rt_target.specs.declared.refusal.Cause.{Cause}
use Rattle.rt_target.specs.declared.refusal.Cause.TheVariants as cause

-- a form that a word names is that of its name
pub named_form : (first : List ℕ) (f : Form) → form_of first ≡ Some f → first ≡ name_of f
named_form first f is =
    (bytes_eq-Decides first (name_of f)).0 (found_passes (λ g. bytes_eq first (name_of g)) forms f is)

spelled : (word : List ℕ) → IfOk (number_told word) (Spells word)
spelled word =
    if_ok_or (number_spelled word) cause.BadLine (Spells word)
    (if_some_from (number_spelled word) (Spells word) (λ n is. is))

-- the only word spells a number
abbrev IsOne : List (List ℕ) → ℕ → Type 0
IsOne words n = (x : List ℕ) × (words ≡ x ∷ []) × Spells x n

one_spelled : (words : List (List ℕ)) → IfOk (one_number words) (IsOne words)
one_spelled [] = tt
one_spelled (a ∷ []) =
    if_ok_from (number_told a) (IsOne (a ∷ [])) (λ n is. (a, refl, IfOk-at_ok (Spells a) is (spelled a)))
one_spelled (a ∷ b ∷ words) = tt

-- the only two words spell numbers
abbrev AreTwo : List (List ℕ) → ℕ × ℕ → Type 0
AreTwo words both = (x y : List ℕ) × (words ≡ x ∷ y ∷ []) × Spells x both.0 × Spells y both.1

two_spelled : (words : List (List ℕ)) → IfOk (two_numbers words) (AreTwo words)
two_spelled [] = tt
two_spelled (a ∷ []) = tt
two_spelled (a ∷ b ∷ []) =
    if_ok_then (AreTwo (a ∷ b ∷ [])) (number_told a) _ (Spells a) (spelled a)
    (λ n first. if_ok_make (AreTwo (a ∷ b ∷ [])) (number_told b) (λ m. (n, m)) (Spells b) (spelled b)
    (λ m second. (a, b, refl, first, second)))
two_spelled (a ∷ b ∷ c ∷ words) = tt

module _ (app : App) where
  abbrev IsIrq : List (List ℕ) → ℕ → Type 0
  IsIrq words irq = (name : List ℕ) × (words ≡ name ∷ []) × NamesIrq app name irq

  irq_named : (words : List (List ℕ)) → IfOk (one_irq (names_of app) words) (IsIrq words)
  irq_named [] = tt
  irq_named (i ∷ []) =
      if_ok_chosen (is_identifier i) (ok_or (irq_of (names_of app) i) cause.UnknownInterrupt) (Err cause.BadLine)
      (IsIrq (i ∷ []))
      (λ identifier. if_ok_or (irq_of (names_of app) i) cause.UnknownInterrupt (IsIrq (i ∷ []))
      (if_some_from (irq_of (names_of app) i) (IsIrq (i ∷ [])) (λ irq is. (i, refl, (identifier, is)))))
      tt
  irq_named (i ∷ j ∷ words) = tt

  module _ (b : Board) where
    input_is : (name : List ℕ) → IfOk (input_local app b name) (NamesLocal app b name)
    input_is name =
        if_ok_chosen (is_identifier name) (ok_or (input_named app.locals b name) cause.UnknownInput)
        (Err cause.BadLine) (NamesLocal app b name)
        (λ identifier. if_ok_or (input_named app.locals b name) cause.UnknownInput (NamesLocal app b name)
        (if_some_from (input_named app.locals b name) (NamesLocal app b name) (λ local is. (identifier, is))))
        tt

    word_says : (words : List (List ℕ))
        → IfOk (input_word app b words) (SaysFact app b (codes "word" ∷ words))
    word_says [] = tt
    word_says (name ∷ []) = tt
    word_says (name ∷ a ∷ []) =
        if_ok_then (SaysFact app b (codes "word" ∷ name ∷ a ∷ [])) (number_told a) _ (Spells a) (spelled a)
        (λ address spells. if_ok_make (SaysFact app b (codes "word" ∷ name ∷ a ∷ [])) (input_local app b name)
        (λ local. Word local address) (NamesLocal app b name) (input_is name)
        (λ local named. (name, a, refl, spells, named)))
    word_says (name ∷ a ∷ c ∷ words) = tt

    -- what the words behind the first say
    pub fact_says : (f : Form) (words : List (List ℕ))
        → IfOk (fact_of (names_of app) app b f words) (SaysFact app b (name_of f ∷ words))
    fact_says form.Flash words =
        if_ok_make (SaysFact app b (codes "flash" ∷ words)) (two_numbers words) (λ both. Flash both.0 both.1)
        (AreTwo words) (two_spelled words)
        (λ both two. (two.0, two.1, ap (λ ws. codes "flash" ∷ ws) two.2, two.3, two.4))
    fact_says form.Ram words =
        if_ok_make (SaysFact app b (codes "ram" ∷ words)) (two_numbers words) (λ both. Ram both.0 both.1)
        (AreTwo words) (two_spelled words)
        (λ both two. (two.0, two.1, ap (λ ws. codes "ram" ∷ ws) two.2, two.3, two.4))
    fact_says form.Port words =
        if_ok_make (SaysFact app b (codes "port" ∷ words)) (one_number words) Port (IsOne words) (one_spelled words)
        (λ n one. (one.0, ap (λ ws. codes "port" ∷ ws) one.1, one.2))
    fact_says form.Tick words =
        if_ok_make (SaysFact app b (codes "tick" ∷ words)) (one_number words) Tick (IsOne words) (one_spelled words)
        (λ n one. (one.0, ap (λ ws. codes "tick" ∷ ws) one.1, one.2))
    fact_says form.Bits words =
        if_ok_make (SaysFact app b (codes "bits" ∷ words)) (one_number words) Bits (IsOne words) (one_spelled words)
        (λ n one. (one.0, ap (λ ws. codes "bits" ∷ ws) one.1, one.2))
    fact_says form.Word words = word_says words
    fact_says form.Call words =
        if_ok_make (SaysFact app b (codes "call" ∷ words)) (one_irq (names_of app) words) Call (IsIrq words)
        (irq_named words)
        (λ irq one. (one.0, ap (λ ws. codes "call" ∷ ws) one.1, one.2))

  -- a fact that may come behind others can
  can_follow : (facts : List Fact) (e : Fact) (P : Fact → Type 0) → P e
      → IfOk (if_can_follow app facts e) (λ f. CanFollow app facts f × P f)
  can_follow facts e P is =
      cond_both (list_any (says_same e) facts) (Err cause.NamedTwice)
      (if is_in_range e then if_apart app facts e else Err cause.OutOfRange) (λ r. IfOk r Can) (λ _. tt)
      (λ new. cond_both (is_in_range e) (if_apart app facts e) (Err cause.OutOfRange) (λ r. IfOk r Can)
      (λ range. cond_both (list_any (overlap e) facts) (Err cause.Overlap)
      (if has_too_few_bits app.bits e then Err cause.TooFewBits else bound) (λ r. IfOk r Can) (λ _. tt)
      (λ apart. cond_both (has_too_few_bits app.bits e) (Err cause.TooFewBits) bound (λ r. IfOk r Can) (λ _. tt)
      (λ bits. cond_both (calls_for_none app e) (Err cause.UnboundInterrupt) (Ok e) (λ r. IfOk r Can) (λ _. tt)
      (λ bound. (record { new = new; range = range; apart = apart; bits = bits; bound = bound }, is)))))
      (λ _. tt))
    where
      Can : Fact → Type 0
      Can f = CanFollow app facts f × P f

      bound : Result Fact Cause
      bound = if calls_for_none app e then Err cause.UnboundInterrupt else Ok e

  module _ (setup : Setup) (line : List ℕ) where
    abbrev Behind : Setup → Type 0
    Behind u = ComesBehind app setup line u

    input_follows : IfOk (input_line (names_of app) app setup line) Behind
    input_follows = by (board_wording.with_line (names_of app) app setup.board line) refl
      where
        told : (b : Board) → boards.ComesBehind app setup.board line b → Behind (with_board setup b)
        told b (inl skipped) = inl (skipped.0, ap (with_board setup) skipped.1)
        told b (inr adds) = inr (inl (b, refl, adds))

        by : (r : Result Board board.Cause) → board_wording.with_line (names_of app) app setup.board line ≡ r
            → IfOk (board_or_wrong setup r) Behind
        by (Ok b) is =
            told b (IfOk-at_ok (boards.ComesBehind app setup.board line) is (line_follows app setup.board line))
        by (Err c) is = tt

    module _ (tight : is_loose line ≡ false) (said : (is_blank line || is_comment line) ≡ false) where
      chip_follows : (f : Form) (words : List (List ℕ)) → spaced_words line ≡ name_of f ∷ words
          → IfOk (chip_line (names_of app) app setup f words) Behind
      chip_follows f words parts =
          if_ok_make Behind (fact_behind (names_of app) app setup f words) (with_fact setup)
          (λ e. CanFollow app setup.facts e × SaysFact app setup.board (name_of f ∷ words) e)
          (if_ok_then (λ e. CanFollow app setup.facts e × SaysFact app setup.board (name_of f ∷ words) e)
          (fact_of (names_of app) app setup.board f words) (if_can_follow app setup.facts)
          (SaysFact app setup.board (name_of f ∷ words)) (fact_says setup.board f words)
          (λ e says. can_follow setup.facts e (SaysFact app setup.board (name_of f ∷ words)) says))
          (λ e both. inr (inr (
            e,
            refl,
            both.0,
            (name_of f ∷ words, record { words_are = parts; tight = tight; said = said }, both.1),
          )))

      form_follows : (first : List ℕ) (words : List (List ℕ)) → spaced_words line ≡ first ∷ words
          → (o : Option Form) → form_of first ≡ o
          → IfOk (line_of_form (names_of app) app setup line words o) Behind
      form_follows first words parts None is = input_follows
      form_follows first words parts (Some f) is =
          chip_follows f words (parts ∙ ap (λ w. w ∷ words) (named_form first f is))

      words_follow : (words : List (List ℕ)) → spaced_words line ≡ words
          → IfOk (words_say (names_of app) app setup line words) Behind
      words_follow [] parts = input_follows
      words_follow (first ∷ words) parts = form_follows first words parts (form_of first) refl

    pub tells : IfOk (with_line (names_of app) app setup line) Behind
    tells =
        cond_both (is_blank line || is_comment line) (Ok setup)
        (if is_loose line then Err cause.BadLine
        else words_say (names_of app) app setup line (spaced_words line))
        (λ r. IfOk r Behind) (λ skipped. inl (skipped, refl))
        (λ said. cond_both (is_loose line) (Err cause.BadLine)
        (words_say (names_of app) app setup line (spaced_words line)) (λ r. IfOk r Behind) (λ _. tt)
        (λ tight. words_follow tight said (spaced_words line) refl))
