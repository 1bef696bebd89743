-- What is read is what the lines tell, and each text whose lines tell something is read.
use Rattle.std.proofs.Common.{◌≡◌, inl, inr, ℕ, ◌==◌, false, List, [], ◌∷◌, ◌++◌, codes, map}
use Rattle.std.proofs.Common.{Some, Result, Ok, Err, if◌then◌else◌, refl, sym, ap, subst, ◌∙◌, append_assoc, append-nil}
use Rattle.std.specs.List.{list_any}
use Rattle.std.specs.Str.Lines.{lines}
use Rattle.std.proofs.lemmas.Bool.{false_from_ne_true}
use Rattle.std.proofs.lemmas.List.{map-append}
use Rattle.std.proofs.lemmas.Result.{IfOk-at_ok}
use Rattle.rt_lemmas.proofs.Lists.{all_behind}
use Rattle.rt_lemmas.proofs.Membership.{contained_any, contains_here}
use Rattle.rt_ids.specs.Lists.{AreDifferent}
use Rattle.rt_ids.proofs.Lists.{list_any-map}
use Rattle.rt_lines.specs.Answers.{and_then, and_make}
use Rattle.rt_lines.specs.Parts.{spaced_words}
use Rattle.rt_lines.specs.Reading.{Lead, IsRead}
use Rattle.rt_script.specs.Wording.{is_loose}
use Rattle.rt_app.specs.Tree.{App}
use Rattle.rt_app.specs.Accepted.{IsAccepted}
use Rattle.rt_app.specs.Names.{names_of}
use Rattle.rt_app.proofs.Different.{different_apart}
use Rattle.rt_board.specs.Board.{Board, with_input, is_written, IsInput, AreInputs}
use Rattle.rt_board.specs.Told as boards
use Rattle.rt_board.specs.declared.board.Input.{Input}
use Rattle.rt_board.proofs.Named.{line_known as board_known}
use Rattle.rt_target.specs.Chip.{CanFollow, CanGoOn}
use Rattle.rt_target.specs.Reading.{setup_reader}
use Rattle.rt_target.specs.Setup.{Setup, no_setup, with_board, with_fact}
use Rattle.rt_target.specs.Told.{HasWords, SaysFact, TellsFact, ComesBehind, TellLines, NamesSetup, SetupsAreNamed}
use Rattle.rt_target.specs.Wording.{name_of, form_of, fact_of, if_can_follow, board_or_wrong, line_of_form, words_say}
use Rattle.rt_target.specs.Wording.{with_line}
use Rattle.rt_target.specs.declared.fact.Fact.{Fact}
use Rattle.rt_target.specs.declared.fact.Fact.TheVariants.{Flash, Ram, Port, Tick, Bits, Word, Call}
use Rattle.rt_target.specs.declared.line.Form.{Form}
use Rattle.rt_target.specs.declared.line.Form.TheVariants as form
use Rattle.rt_target.specs.declared.refusal.Cause.{Cause}
use Rattle.rt_target.specs.declared.refusal.Cause.TheVariants as cause
use Rattle.rt_target.proofs.Fine.{lead_fine}
use Rattle.rt_target.proofs.Saying.{tells}

module _ (app : App) where
  -- what lines tell behind what is told
  abbrev pub Behind : Setup → List (List ℕ) → Setup → Type 0
  Behind s ls t = (more : List Input) × (facts : List Fact) × (t.board.inputs ≡ s.board.inputs ++ more)
      × (t.facts ≡ s.facts ++ facts)
      × TellLines app s.board ls more facts

  told_line : (s u t : Setup) (line : List ℕ) (ls : List (List ℕ)) → Behind u ls t → ComesBehind app s line u
      → Behind s (line ∷ ls) t
  told_line s u t line ls rest (inl skipped) = (
    rest.0,
    rest.1,
    rest.2 ∙ ap (λ (v : Setup). v.board.inputs ++ rest.0) skipped.1,
    rest.3 ∙ ap (λ (v : Setup). v.facts ++ rest.1) skipped.1,
    inl (skipped.0, subst (λ (v : Setup). TellLines app v.board ls rest.0 rest.1) skipped.1 rest.4),
  )
  told_line s u t line ls rest (inr (inl adds)) =
      let input = adds.2.0 in
      let board : u.board ≡ with_input s.board input = ap (λ (v : Setup). v.board) adds.1 ∙ adds.2.1 in (
        input ∷ rest.0,
        rest.1,
        rest.2 ∙ ap (λ (b : Board). b.inputs ++ rest.0) board ∙ append_assoc s.board.inputs (input ∷ []) rest.0,
        rest.3 ∙ ap (λ (v : Setup). v.facts ++ rest.1) adds.1,
        inr (inl (input, rest.0, refl, adds.2.4, subst (λ b. TellLines app b ls rest.0 rest.1) board rest.4)),
      )
  told_line s u t line ls rest (inr (inr adds)) =
      let board : u.board ≡ s.board = ap (λ (v : Setup). v.board) adds.1 in (
        rest.0,
        adds.0 ∷ rest.1,
        rest.2 ∙ ap (λ (b : Board). b.inputs ++ rest.0) board,
        rest.3 ∙ ap (λ (v : Setup). v.facts ++ rest.1) adds.1
            ∙ append_assoc s.facts (adds.0 ∷ []) rest.1,
        inr (inr (
          adds.0,
          rest.1,
          refl,
          adds.3,
          subst (λ b. TellLines app b ls rest.0 rest.1) board rest.4,
        )),
      )

  pub told_from : (ls : List (List ℕ)) (s t : Setup) → Lead (setup_reader app) s ls t → Behind s ls t
  told_from [] s t same = (
    [],
    [],
    ap (λ (v : Setup). v.board.inputs) (sym same) ∙ sym (append-nil s.board.inputs),
    ap (λ (v : Setup). v.facts) (sym same) ∙ sym (append-nil s.facts),
    (refl, refl),
  )
  told_from (line ∷ ls) s t lead =
      told_line s lead.0 t line ls (told_from ls lead.0 t lead.2)
      (IfOk-at_ok (ComesBehind app s line) lead.1 (tells app s line))

  names_setup : (text : List ℕ) (setup : Setup) → IsRead (setup_reader app) text setup → NamesSetup app text setup
  names_setup text setup read =
      let told = told_from (lines text) no_setup setup read.lead in
      let fine = lead_fine app (lines text) setup read.lead in
      record {
        short = read.short;
        lines =
            subst (λ inputs. TellLines app no_setup.board (lines text) inputs setup.facts) (sym told.2)
            (subst (λ facts. TellLines app no_setup.board (lines text) told.0 facts) (sym told.3) told.4);
        inputs = fine.inputs;
        facts = fine.facts;
      }

  -- words that say something of the chip are of a form, and those behind the first are read
  record IsKnown (b : Board) (words : List (List ℕ)) (e : Fact) : Type 0 where
    form_is : Form
    rest : List (List ℕ)
    words_are : words ≡ name_of form_is ∷ rest
    named : form_of (name_of form_is) ≡ Some form_is
    read : fact_of (names_of app) app b form_is rest ≡ Ok e

  fact_known : (b : Board) (words : List (List ℕ)) (e : Fact) → SaysFact app b words e → IsKnown b words e
  fact_known b words (Flash a n) says = record {
    form_is = form.Flash;
    rest = says.0 ∷ says.1 ∷ [];
    words_are = says.2;
    named = refl;
    read = rw (says.3, says.4) refl;
  }
  fact_known b words (Ram a n) says = record {
    form_is = form.Ram;
    rest = says.0 ∷ says.1 ∷ [];
    words_are = says.2;
    named = refl;
    read = rw (says.3, says.4) refl;
  }
  fact_known b words (Port a) says = record {
    form_is = form.Port;
    rest = says.0 ∷ [];
    words_are = says.1;
    named = refl;
    read = rw says.2 refl;
  }
  fact_known b words (Tick n) says = record {
    form_is = form.Tick;
    rest = says.0 ∷ [];
    words_are = says.1;
    named = refl;
    read = rw says.2 refl;
  }
  fact_known b words (Bits n) says = record {
    form_is = form.Bits;
    rest = says.0 ∷ [];
    words_are = says.1;
    named = refl;
    read = rw says.2 refl;
  }
  fact_known b words (Word r a) says = record {
    form_is = form.Word;
    rest = says.0 ∷ says.1 ∷ [];
    words_are = says.2;
    named = refl;
    read = rw (says.3, says.4.0, says.4.1) refl;
  }
  fact_known b words (Call irq) says = record {
    form_is = form.Call;
    rest = says.0 ∷ [];
    words_are = says.1;
    named = refl;
    read = rw (says.2.0, says.2.1) refl;
  }

  -- a line that says something says it by its words
  said_by_words : (s : Setup) (line : List ℕ) (words : List (List ℕ)) → HasWords line words
      → with_line (names_of app) app s line ≡ words_say (names_of app) app s line words
  said_by_words s line words has =
      let say : List (List ℕ) → Result Setup Cause = words_say (names_of app) app s line in
      ap (λ skips. if skips then Ok s
      else if is_loose line then Err cause.BadLine else say (spaced_words line)) has.said
      ∙ ap (λ loose. if loose then Err cause.BadLine else say (spaced_words line)) has.tight
      ∙ ap say has.words_are

  chip_known : (s : Setup) (line : List ℕ) (e : Fact) → TellsFact app s.board line e → CanFollow app s.facts e
      → with_line (names_of app) app s line ≡ Ok (with_fact s e)
  chip_known s line e tells can =
      let known = fact_known s.board tells.0 e tells.2 in
      let follows : if_can_follow app s.facts e ≡ Ok e = rw (can.new, can.range, can.apart, can.bits, can.bound) refl in
      said_by_words s line tells.0 tells.1
      ∙ ap (words_say (names_of app) app s line) known.words_are
      ∙ ap (line_of_form (names_of app) app s line known.rest) known.named
      ∙ ap (λ r. and_make (and_then r (if_can_follow app s.facts)) (with_fact s)) known.read
      ∙ ap (λ r. and_make r (with_fact s)) follows

  module _ (accepted : IsAccepted app) where
    input_known : (s : Setup) (line : List ℕ) (input : Input) → boards.NamesInput app line input → IsInput app input
        → is_written s.board input.local ≡ false
        → with_line (names_of app) app s line ≡ Ok (with_board s (with_input s.board input))
    input_known s line input names is fresh =
        said_by_words s line (codes "input" ∷ names.task.name ∷ names.local.name ∷ [])
        (record { words_are = names.words; tight = names.tight; said = names.said })
        ∙ ap (board_or_wrong s) (board_known app accepted s.board line input names is fresh)

    fresh_behind : (inputs more : List Input) (input : Input) → AreInputs app (inputs ++ input ∷ more)
        → list_any (λ i. i.local == input.local) inputs ≡ false
    fresh_behind inputs more input are =
        let local : Input → ℕ = λ i. i.local in
        false_from_ne_true (list_any (λ i. i.local == input.local) inputs)
        (λ written. different_apart (map local inputs) (map local (input ∷ more))
        (subst AreDifferent (map-append local inputs (input ∷ more)) are.once) input.local
        (contained_any input.local (map local inputs) (list_any-map local (λ n. n == input.local) inputs ∙ written))
        (contains_here input.local (map local more)))

    abbrev made : List Input → List Fact → Setup
    made inputs facts = record { board = record { inputs = inputs }; facts = facts }

    abbrev with_all : Setup → List Input → List Fact → Setup
    with_all s more facts = made (s.board.inputs ++ more) (s.facts ++ facts)

    leads : (ls : List (List ℕ)) (s : Setup) (more : List Input) (facts : List Fact)
        → AreInputs app (s.board.inputs ++ more) → CanGoOn app s.facts facts
        → TellLines app s.board ls more facts
        → Lead (setup_reader app) s ls (with_all s more facts)
    leads [] s more facts are on none =
        sym (ap (λ m. with_all s m facts) none.0 ∙ ap (λ es. with_all s [] es) none.1
        ∙ ap (λ inputs. made inputs (s.facts ++ [])) (append-nil s.board.inputs)
        ∙ ap (λ es. made s.board.inputs es) (append-nil s.facts))
    leads (line ∷ ls) s more facts are on (inl skipped) =
        (s, rw skipped.0 refl, leads ls s more facts are on skipped.1)
    leads (line ∷ ls) s more facts are on (inr (inl named)) =
        let input = named.0 in
        let rest = named.1 in
        let inputs = s.board.inputs in
        let all : AreInputs app (inputs ++ input ∷ rest) = subst (λ m. AreInputs app (inputs ++ m)) named.2 are in
        let parts : (inputs ++ input ∷ []) ++ rest ≡ inputs ++ input ∷ rest = append_assoc inputs (input ∷ []) rest in
        let u = with_board s (with_input s.board input) in
        let known = input_known s line input named.3 (all_behind (IsInput app) inputs (input ∷ rest) all.each).0
        (fresh_behind inputs rest input all) in
        let goes = leads ls u rest facts (subst (AreInputs app) (sym parts) all) on named.4 in (
          u,
          known,
          subst (λ all. Lead (setup_reader app) u ls (made all (s.facts ++ facts)))
              (parts ∙ ap (λ m. inputs ++ m) (sym named.2)) goes,
        )
    leads (line ∷ ls) s more facts are on (inr (inr told)) =
        let e = told.0 in
        let rest = told.1 in
        let on_all : CanGoOn app s.facts (e ∷ rest) = subst (CanGoOn app s.facts) told.2 on in
        let u = with_fact s e in
        let known = chip_known s line e told.3 on_all.0 in
        let goes = leads ls u more rest are on_all.1 told.4 in (
          u,
          known,
          subst (λ all. Lead (setup_reader app) u ls (made (s.board.inputs ++ more) all))
              (append_assoc s.facts (e ∷ []) rest ∙ ap (λ es. s.facts ++ es) (sym told.2)) goes,
        )

pub setups_are_named : SetupsAreNamed
setups_are_named app accepted text setup = (
  names_setup app text setup,
  λ names. record {
    short = names.short;
    lead = leads app accepted (lines text) no_setup setup.board.inputs setup.facts names.inputs names.facts names.lines;
    whole = refl;
  },
)
