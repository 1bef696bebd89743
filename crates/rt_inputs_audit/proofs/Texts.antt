-- The lines of a run with inputs are read as what they show.
use Rattle.std.proofs.Common.{◌≡◌, ◌≤◌, ◌<◌, ◌^◌, ℕ, zero, suc, true, false, if◌then◌else◌, List, [], ◌∷◌, ◌++◌}
use Rattle.std.proofs.Common.{length, map, slice_get, decimal, codes, bytes_eq, Option, Some, None, Ok, Err, Result}
use Rattle.std.proofs.Common.{option_map, option_to_list, unwrap_or, refl, ap, sym, subst, ◌∙◌, arith, append_assoc}
use Rattle.std.proofs.Common.{append-nil}
use Rattle.std.specs.Bool.{Decides}
use Rattle.std.specs.List.{AllByRecursion}
use Rattle.std.proofs.lemmas.Option.{same_Some, none-some}
use Rattle.std.proofs.lemmas.Slice.Eq.{bytes_eq-Decides}
use Rattle.rt_lemmas.proofs.Lists.{mapped_at}
use Rattle.rt_lemmas.proofs.Indices.{there_is}
use Rattle.rt_lemmas.proofs.Membership.{all_at, contains_at}
use Rattle.rt_ids.specs.Lists.{AreDifferent, is_some_and}
use Rattle.rt_ids.specs.Names.{Names, AreNames}
use Rattle.rt_ids.specs.Word.{IsName, is_identifier}
use Rattle.rt_ids.specs.declared.limits.TheConstants.{TRACE_BYTES}
use Rattle.rt_lines.specs.Answers.{and_then, and_make}
use Rattle.rt_lines.specs.Operand as operands
use Rattle.rt_lines.specs.Parts.{lines, words}
use Rattle.rt_lines.specs.Reading.{Lead}
use Rattle.rt_lines.specs.Table.{said_at, one_at, spaced_text, Number32}
use Rattle.rt_lines.specs.declared.operand.Wrong.{Wrong}
use Rattle.rt_lines.specs.declared.operand.Wrong.TheVariants as wrong
use Rattle.rt_lines.proofs.Found.{key_found}
use Rattle.rt_lines.proofs.Numerals.{number_spelled, number_read}
use Rattle.rt_lines.proofs.Reading.{lead_append}
use Rattle.rt_lines.proofs.Words.{word_free, name_bytes, decimal_bytes, words_spaced}
use Rattle.rt_app.specs.Accepted.{IsAccepted}
use Rattle.rt_app.specs.Names.{names_of}
use Rattle.rt_app.specs.Tree.{App}
use Rattle.rt_app.specs.declared.app.Local.{Local}
use Rattle.rt_app.proofs.Different.{different_back}
use Rattle.rt_app.proofs.Sound.{accepted_are_sound}
use Rattle.rt_trace.specs.Reading.{behind_row, ends_listing}
use Rattle.rt_trace.specs.Row.{row_of_line, row_at, item_row}
use Rattle.rt_trace.specs.Text.{item_line}
use Rattle.rt_trace.specs.TraceLines.{IsListing}
use Rattle.rt_trace.specs.Words.{rows}
use Rattle.rt_trace.specs.declared.reader.Phase.{Phase}
use Rattle.rt_trace.specs.declared.reader.Phase.TheVariants as phase
use Rattle.rt_trace.specs.declared.row.TraceRow.TheVariants as row
use Rattle.rt_trace.proofs.LinesRead.{lines_read}
use Rattle.rt_board.specs.Board.{Board, IsInput, AreInputs}
use Rattle.rt_board.specs.Wording.{is_named}
use Rattle.rt_board.specs.declared.board.Input as board
use Rattle.rt_given.specs.Wording.{input_named}
use Rattle.rt_inputs.specs.Shown.{ShownLine, Shows, Input, input_line}
use Rattle.rt_inputs_audit.specs.Laws.{HasOwnLine, shown_line_text, WrittenLinesAreRead}
use Rattle.rt_inputs_audit.specs.Reading.{shown_of, input_at, input_of, maybe_input, unless_input, or_input, line_told}
use Rattle.rt_inputs_audit.specs.Reading.{reader_step}
use Rattle.rt_inputs_audit.specs.Reading.{Standing, inputs_reader, IsInputsText}
use Rattle.rt_inputs_audit.specs.declared.line.TraceLine.{TraceLine}
use Rattle.rt_inputs_audit.specs.declared.line.TraceLine.TheVariants as told
use Rattle.rt_inputs_audit.specs.declared.refusal.Cause.TheVariants as cause

-- what stands where a list is mapped
mapped_there : {X Y : Type 0} (view : X → Y) (xs : List X) (i : ℕ) (y : Y) → slice_get (map view xs) i ≡ Some y
    → (x : X) × (slice_get xs i ≡ Some x) × (view x ≡ y)
mapped_there view [] i y is = absurd (none-some y is)
mapped_there view (x ∷ xs) zero y is = (x, refl, same_Some (view x) y is)
mapped_there view (x ∷ xs) (suc i) y is = mapped_there view xs i y is

-- no row of a trace begins with `input`
no_row : (names : Names) (w a c : List ℕ) (n : ℕ) → operands.number_at (2 ^ 31) w ≡ Ok n
    → row_at names (w ∷ codes "input" ∷ a ∷ c ∷ []) ≡ Err wrong.Form
no_row names w a c n reads =
    elim (bytes_eq w (codes "total"))
    as (λ b. (if b then and_make (one_at (operands.read_at Number32) names (codes "input" ∷ a ∷ c ∷ [])) row.Total
    else and_then (operands.number_at (2 ^ 31) w)
    (λ n. and_make (said_at rows names (codes "input") (a ∷ c ∷ [])) (item_row n))) ≡ Err wrong.Form) [
      | true ↦ refl
      | false ↦
          ap (λ r. and_then r (λ n. and_make (said_at rows names (codes "input") (a ∷ c ∷ [])) (item_row n))) reads
    ]

-- what a line is read as that shows this
abbrev told_of : ShownLine → TraceLine
told_of (Shows item) = told.Shows item
told_of (Input step local word) = told.Input step local word

told_back : (line : ShownLine) → shown_of (told_of line) ≡ line
told_back (Shows item) = refl
told_back (Input step local word) = refl

module _ (app : App) (accepted : IsAccepted app) (b : Board) (are : AreInputs app b.inputs) where
  abbrev names : Names
  names = names_of app

  -- the local resource of the name of an input
  module _ (i : ℕ) (input : board.Input) (at : slice_get b.inputs i ≡ Some input) (r : Local)
      (there : slice_get app.locals input.local ≡ Some r) where
    named : is_identifier r.name ≡ true
    named = (all_at (λ (l : Local). IsName l.name) app.locals input.local r accepted.names.locals there).identifier

    locals_differ : AreDifferent (map (λ (l : Local). l.name) app.locals)
    locals_differ = different_back (map _ app.shared) (map (λ (l : Local). l.name) app.locals)
        accepted.names.resources_differ

    decides : (y : board.Input)
        → Decides (is_some_and (is_named r.name) (slice_get app.locals y.local)) (input.local ≡ y.local)
    decides y = by (slice_get app.locals y.local) refl
      where
        by : (o : Option Local) → slice_get app.locals y.local ≡ o
            → Decides (is_some_and (is_named r.name) o) (input.local ≡ y.local)
        by None none = (
          λ passes. absurd cc,
          λ same. absurd (none-some r (sym none ∙ ap (slice_get app.locals) (sym same) ∙ there)),
        )
        by (Some l) some =
            let names_same = bytes_eq-Decides l.name r.name in (
              λ passes. locals_differ input.local y.local r.name
                  (mapped_at (λ (k : Local). k.name) app.locals input.local r there)
                  (mapped_at (λ (k : Local). k.name) app.locals y.local l some ∙ ap Some (names_same.0 passes)),
              λ same. names_same.1 (ap (λ (k : Local). k.name)
                  (same_Some l r (sym some ∙ ap (slice_get app.locals) (sym same) ∙ there))),
            )

    input_found : input_at app b r.name ≡ Ok input.local
    input_found =
        let found : input_named app.locals b r.name ≡ Some input.local =
        ap (option_map (λ (k : board.Input). k.local))
        (key_found (λ (k : board.Input). k.local)
        (λ (k : board.Input). is_some_and (is_named r.name) (slice_get app.locals k.local)) b.inputs i input are.once at
        decides) in
        rw (named, found) refl

    module _ (step word : ℕ) (early : step < 2 ^ 31) (short : word < 2 ^ 32) where
      input_told : input_of app b (decimal step) r.name (decimal word) ≡ Ok (told.Input step input.local word)
      input_told =
          rw (
            number_spelled (2 ^ 31) step early (omega arith),
            number_spelled (2 ^ 32) word short (omega arith),
            input_found,
          ) refl

      abbrev line : List ℕ
      line = input_line app step input.local word

      words_are : words line ≡ decimal step ∷ codes "input" ∷ r.name ∷ decimal word ∷ []
      words_are =
          ap (λ (o : Option Local). words (decimal step ++ spaced_text (codes "input"
          ∷ unwrap_or (option_map (λ (l : Local). l.name) o) [] ∷ decimal word ∷ []))) there
          ∙ words_spaced (decimal step) (codes "input" ∷ r.name ∷ decimal word ∷ [])
          (word_free 32 (decimal step) refl (decimal_bytes step)) (
            word_free 32 (codes "input") refl refl,
            (
              word_free 32 r.name refl (name_bytes r.name named),
              (
                word_free 32 (decimal word) refl
                    (decimal_bytes word),
                tt,
              ),
            ),
          )

      -- the line of a word is read as the word
      word_read : line_told names app b phase.Items line ≡ Ok (phase.Items, Some (told.Input step input.local word))
      word_read =
          ap (or_input app b phase.Items line)
          (ap (λ ws. and_make (row_at names ws) behind_row) words_are
          ∙ ap (λ r. and_make r behind_row)
          (no_row names (decimal step) r.name (decimal word) step (number_read (2 ^ 31) step early (omega arith))))
          ∙ ap (λ ws. unless_input phase.Items cause.BadLine (maybe_input app b ws)) words_are
          ∙ ap (λ r. and_make r (λ read. (phase.Items, Some read))) input_told

  own_names : AreNames names
  own_names = (accepted_are_sound app accepted).names

  -- each line is read as what it shows
  line_read : (shown : ShownLine) → HasOwnLine app b shown
      → line_told names app b phase.Items (shown_line_text app shown) ≡ Ok (phase.Items, Some (told_of shown))
  line_read (Shows item) has =
      ap (λ r. or_input app b phase.Items (item_line names item) (and_make r behind_row))
      (lines_read names item own_names has)
  line_read (Input step local word) has =
      let one = mapped_there (λ (k : board.Input). k.local) b.inputs (contains_at (map (λ (k : board.Input). k.local)
      b.inputs) local has.1).0 local (contains_at (map (λ (k : board.Input). k.local) b.inputs) local has.1).1 in
      let is : IsInput app one.0 = all_at (IsInput app) b.inputs _ one.0 are.each one.1 in
      let r = there_is app.locals one.0.local is.declared in
      subst (λ (l : ℕ). line_told names app b phase.Items (input_line app step l word)
      ≡ Ok (phase.Items, Some (told.Input step l word))) one.2
      (word_read _ one.0 one.1 r.0 r.1 step word has.0 has.2)

  abbrev Leads : Standing → List (List ℕ) → Standing → Type 0
  Leads = Lead (inputs_reader names app b)

  abbrev at : Phase → List ShownLine → Standing
  at p shown = record { phase = p; lines = shown }

  leads_on : (from to : Phase) (shown : List ShownLine) (line : List ℕ) (read : Option TraceLine)
      → line_told names app b from line ≡ Ok (to, read)
      → reader_step names app b (at from shown) line ≡ Ok (at to (shown ++ option_to_list (option_map shown_of read)))
  leads_on from to shown line read is =
      ap (λ r. and_make r (λ read. at read.0 (shown ++ option_to_list (option_map shown_of read.1)))) is

  -- a listing is passed over
  listing_told : (ls : List (List ℕ)) → AllByRecursion (λ line. ends_listing line ≡ false) ls
      → Leads (at phase.Listing []) ls (at phase.Listing [])
  listing_told [] all = refl
  listing_told (line ∷ ls) all =
      (at phase.Listing [], leads_on phase.Listing phase.Listing [] line None (rw all.0 refl), listing_told ls all.1)

  listing_passed : (heading : List (List ℕ)) → IsListing heading → Leads (at phase.Start []) heading (at phase.Items [])
  listing_passed heading is =
      subst (λ ls. Leads (at phase.Start []) ls (at phase.Items [])) (sym is.parts) (
        at phase.Listing [],
        leads_on phase.Start phase.Listing [] is.first None (rw is.begins refl),
        lead_append (inputs_reader names app b) _ _ _ is.more (codes "trace" ∷ []) (listing_told is.more is.endless)
            (at phase.Items [], leads_on phase.Listing phase.Items [] (codes "trace") None refl, refl),
      )

  rows_read : (so_far shown : List ShownLine) → AllByRecursion (HasOwnLine app b) shown
      → Leads (at phase.Items so_far) (map (shown_line_text app) shown) (at phase.Items (so_far ++ shown))
  rows_read so_far [] all = ap (at phase.Items) (sym (append-nil so_far))
  rows_read so_far (line ∷ shown) all = (
    at phase.Items (so_far ++ line ∷ []),
    leads_on phase.Items phase.Items so_far (shown_line_text app line) (Some (told_of line)) (line_read line all.0)
        ∙ ap (λ l. Ok (at phase.Items (so_far ++ l ∷ []))) (told_back line),
    subst (λ told. Leads (at phase.Items (so_far ++ line ∷ [])) (map (shown_line_text app) shown) (at phase.Items told))
        (append_assoc so_far (line ∷ []) shown) (rows_read (so_far ++ line ∷ []) shown all.1),
  )

  abbrev total_line : ℕ → List ℕ
  total_line total = codes "total " ++ decimal total

  total_read : (total : ℕ) → total < 2 ^ 32 → row_of_line names (total_line total) ≡ Ok (row.Total total)
  total_read total small =
      ap (row_at names) (ap (λ t. words (codes "total " ++ t)) (sym (append-nil (decimal total)))
      ∙ words_spaced (codes "total") (decimal total ∷ []) (word_free 32 (codes "total") refl refl)
      (word_free 32 (decimal total) refl (decimal_bytes total), tt))
      ∙ ap (λ (r : Result ℕ Wrong). and_make r row.Total) (number_read (2 ^ 32) total small (omega arith))

  text_read : (shown : List ShownLine) (total : ℕ) → AllByRecursion (HasOwnLine app b) shown → total < 2 ^ 32
      → (heading : List (List ℕ)) → IsListing heading → (text : List ℕ) → length text ≤ TRACE_BYTES
      → lines text ≡ heading ++ (map (shown_line_text app) shown ++ total_line total ∷ [])
      → IsInputsText names app b text (record { lines = shown; total = Some total })
  text_read shown total all small heading is text short parts = record {
    reached = at (phase.Closed total) shown;
    leads = record {
      short = short;
      lead =
          subst (λ ls. Leads (at phase.Start []) ls (at (phase.Closed total) shown)) (sym parts)
          (lead_append (inputs_reader names app b) _ _ _ heading
          (map (shown_line_text app) shown ++ total_line total ∷ [])
          (listing_passed heading is)
          (lead_append (inputs_reader names app b) _ _ _ (map (shown_line_text app) shown) (total_line total ∷ [])
          (rows_read [] shown all) (
            at (phase.Closed total) shown,
            leads_on phase.Items (phase.Closed total) shown (total_line total) None
                (ap (λ r. or_input app b phase.Items (total_line total) (and_make r behind_row))
                (total_read total small))
                ∙ ap (λ ls. Ok (at (phase.Closed total) ls)) (append-nil shown),
            refl,
          )));
      whole = refl;
    };
    tells = refl;
  }

pub lines_are_read : WrittenLinesAreRead
lines_are_read app accepted b are shown total all small heading is text short parts =
    text_read app accepted b are shown total all small heading is text short parts
