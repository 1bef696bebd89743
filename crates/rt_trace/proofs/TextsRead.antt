-- The lines of a trace are read as that trace; and so is its text, behind a listing and in front of accounts.
use Rattle.std.proofs.Common.{◌≡◌, ◌≤◌, ◌<◌, ◌^◌, ℕ, true, false, List, [], ◌∷◌, ◌++◌, length, map}
use Rattle.std.proofs.Common.{flat_map, decimal, codes, Option, Some, None, Ok, Result, refl, ap}
use Rattle.std.proofs.Common.{ap₂, sym, subst, ◌∙◌, arith, append_assoc, append-nil}
use Rattle.std.specs.List.{AllByRecursion}
use Rattle.std.proofs.lemmas.List.Concat.{flat_map-append}
use Rattle.rt_lemmas.proofs.Lists.{all_append, flat_map-map}
use Rattle.rt_lemmas.proofs.Membership.{all_weaker}
use Rattle.rt_ids.specs.Names.{Names, AreNames}
use Rattle.rt_ids.specs.declared.limits.TheConstants.{TRACE_BYTES}
use Rattle.rt_lines.specs.Answers.{and_make}
use Rattle.rt_lines.specs.Parts.{lines, words}
use Rattle.rt_lines.specs.Reading.{Lead}
use Rattle.rt_lines.proofs.Reading.{lead_append}
use Rattle.rt_trace.specs.Laws.{TraceLinesAreRead}
use Rattle.rt_trace.specs.Lined.{HasLine}
use Rattle.rt_trace.specs.Reading.{IsTraceText, Standing, behind_row, ends_listing, is_account, line_told}
use Rattle.rt_trace.specs.Reading.{missing, trace_of, trace_reader}
use Rattle.rt_trace.specs.Row.{row_of_line, row_at}
use Rattle.rt_trace.specs.Text.{item_line, total_text, trace_text}
use Rattle.rt_trace.specs.Trace.{Trace}
use Rattle.rt_trace.specs.TraceLines.{IsClosing, IsHeading, IsListing, row_of_item}
use Rattle.rt_trace.specs.declared.item.Item.{Item}
use Rattle.rt_lines.specs.declared.operand.Wrong.{Wrong}
use Rattle.rt_trace.specs.declared.reader.Phase.{Phase}
use Rattle.rt_trace.specs.declared.reader.Phase.TheVariants as phase
use Rattle.rt_trace.specs.declared.row.TraceRow.{TraceRow}
use Rattle.rt_trace.specs.declared.row.TraceRow.TheVariants as row
use Rattle.rt_lines.proofs.Numerals.{number_read}
use Rattle.rt_lines.proofs.Unbroken.{IsUnbroken, fed, lines_fed, unbroken_append}
use Rattle.rt_lines.proofs.Words.{word_free, decimal_bytes, words_spaced}
use Rattle.rt_trace.proofs.LinesRead.{lines_read, item_unbroken}
use Rattle.rt_trace.proofs.Stepping.{at, line_read, line_passed}

module _ (names : Names) where
  abbrev Leads : Standing → List (List ℕ) → Standing → Type 0
  Leads = Lead (trace_reader names)

  -- lines that are passed over
  passed : (p : Phase) (items : List Item) (ls : List (List ℕ))
      → AllByRecursion (λ line. line_told names p line ≡ Ok (p, None)) ls → Leads (at p items) ls (at p items)
  passed p items [] all = refl
  passed p items (line ∷ ls) all =
      (at p items, line_passed names p p items line all.0, passed p items ls all.1)

  listing_passed : (heading : List (List ℕ)) → IsListing heading
      → Leads (at phase.Start []) heading (at phase.Items [])
  listing_passed heading is =
      let front = passed phase.Listing [] is.more
      (all_weaker (λ line. ends_listing line ≡ false) _ (λ line no. rw no refl) is.more is.endless) in
      subst (λ ls. Leads (at phase.Start []) ls (at phase.Items [])) (sym is.parts) (
        at phase.Listing [],
        rw is.begins refl,
        lead_append (trace_reader names) _ _ _ is.more (codes "trace" ∷ []) front (at phase.Items [], refl, refl),
      )

  items_read : (so_far items : List Item) (ls : List (List ℕ)) → map (row_of_line names) ls ≡ map row_of_item items
      → Leads (at phase.Items so_far) ls (at phase.Items (so_far ++ items))
  items_read so_far [] [] each = ap (at phase.Items) (sym (append-nil so_far))
  items_read so_far [] (line ∷ ls) each = absurd cc
  items_read so_far (item ∷ items) [] each = absurd cc
  items_read so_far (item ∷ items) (line ∷ ls) each =
      let reads : row_of_line names line ≡ Ok (row.Shown item) = cc each in
      let rest : map (row_of_line names) ls ≡ map row_of_item items = cc each in (
        at phase.Items (so_far ++ item ∷ []),
        line_read names phase.Items phase.Items so_far line (Some item) (ap (λ r. and_make r behind_row) reads),
        subst (λ told. Leads (at phase.Items (so_far ++ item ∷ [])) ls (at phase.Items told))
            (append_assoc so_far (item ∷ []) items) (items_read (so_far ++ item ∷ []) items ls rest),
      )

  -- what lines from here on say
  abbrev Tell : Standing → List (List ℕ) → Trace → Type 0
  Tell from ls trace = (s : Standing) × Leads from ls s × (missing s.phase ≡ None) × (trace ≡ trace_of s)

  closed : (items : List Item) (total : Option ℕ) (ls : List (List ℕ)) → IsClosing names ls total
      → Tell (at phase.Items items) ls (record { items = items; total = total })
  closed items None ls none = (at phase.Items items, rw none refl, refl, refl)
  closed items (Some n) ls (line, accounts, parts, reads, all) =
      let rest = passed (phase.Closed n) items accounts
      (all_weaker (λ line. is_account line ≡ true) _ (λ line is. rw is refl) accounts all) in
      let first = line_passed names phase.Items (phase.Closed n) items line (ap (λ r. and_make r behind_row) reads) in
      (at (phase.Closed n) items, rw parts (at (phase.Closed n) items, first, rest), refl, refl)

  headed : (heading ls : List (List ℕ)) (trace : Trace) → IsHeading heading ls → Tell (at phase.Items []) ls trace
      → Tell (at phase.Start []) (heading ++ ls) trace
  headed [] [] trace none tell = (at phase.Start [], refl, refl, tell.3 ∙ ap trace_of (sym tell.1))
  headed [] (line ∷ ls) trace first tell = (tell.0, (tell.1.0, rw first tell.1.1, tell.1.2), tell.2, tell.3)
  headed (line ∷ heading) ls trace is tell = (
    tell.0,
    lead_append (trace_reader names) (at phase.Start []) _ _ (line ∷ heading) ls (listing_passed
        (line ∷ heading) is) tell.1,
    tell.2,
    tell.3,
  )

pub trace_lines_read : TraceLinesAreRead
trace_lines_read names text trace short is =
    let end = closed names trace.items trace.total is.closing is.closes in
    let told = headed names is.heading (is.items ++ is.closing) trace is.headed (
      end.0,
      lead_append (trace_reader names) _ _ _ is.items is.closing
          (items_read names [] trace.items is.items is.each) end.1,
      end.2,
      end.3,
    ) in
    record {
      reached = told.0;
      read = record { short = short; lead = rw is.parts told.1; whole = told.2 };
      tells = told.3;
    }

-- the line of a total, without its line feed
abbrev pub total_line : ℕ → List ℕ
total_line total = codes "total " ++ decimal total

total_read : (names : Names) (total : ℕ) → total < 2 ^ 32 → row_of_line names (total_line total) ≡ Ok (row.Total total)
total_read names total small =
    ap (row_at names) (ap (λ t. words (codes "total " ++ t)) (sym (append-nil (decimal total)))
    ∙ words_spaced (codes "total") (decimal total ∷ []) (word_free 32 (codes "total") refl refl)
    (word_free 32 (decimal total) refl (decimal_bytes total), tt))
    ∙ ap (λ (r : Result ℕ Wrong). and_make r row.Total) (number_read (2 ^ 32) total small (omega arith))

rows_read : (names : Names) (items : List Item) → AreNames names → AllByRecursion (HasLine names) items
    → map (row_of_line names) (map (item_line names) items) ≡ map row_of_item items
rows_read names [] are all = refl
rows_read names (item ∷ items) are all =
    ap₂ (λ (r : Result TraceRow Wrong) (rs : List (Result TraceRow Wrong)). r ∷ rs) (lines_read names item are all.0)
    (rows_read names items are all.1)

items_unbroken : (names : Names) (items : List Item) → AreNames names → AllByRecursion (HasLine names) items
    → AllByRecursion IsUnbroken (map (item_line names) items)
items_unbroken names [] are all = tt
items_unbroken names (item ∷ items) are all =
    (item_unbroken names item are all.0, items_unbroken names items are all.1)

module _ (names : Names) (items : List Item) (total : ℕ) (are : AreNames names)
    (lined : AllByRecursion (HasLine names) items) (small : total < 2 ^ 32) where
  abbrev rows : List (List ℕ) → List (List ℕ)
  rows accounts = map (item_line names) items ++ total_line total ∷ accounts

  -- what is written is these lines
  pub trace_fed : (accounts : List (List ℕ))
      → trace_text names (record { items = items; total = Some total }) ++ flat_map fed accounts
      ≡ flat_map fed (rows accounts)
  trace_fed accounts =
      ap (λ t. (t ++ (total_text total ++ [])) ++ flat_map fed accounts)
      (sym (flat_map-map fed (item_line names) items))
      ∙ append_assoc (flat_map fed (map (item_line names) items)) (total_text total ++ []) (flat_map fed accounts)
      ∙ ap (λ t. flat_map fed (map (item_line names) items) ++ (t ++ flat_map fed accounts))
      (append-nil (total_text total))
      ∙ sym (flat_map-append fed (map (item_line names) items) (total_line total ∷ accounts))

  pub text_read : (heading accounts : List (List ℕ)) (bytes : List ℕ) → AllByRecursion IsUnbroken heading
      → AllByRecursion IsUnbroken accounts → AllByRecursion (λ line. is_account line ≡ true) accounts
      → IsHeading heading (rows accounts)
      → bytes ≡ flat_map fed heading
      ++ (trace_text names (record { items = items; total = Some total }) ++ flat_map fed accounts)
      → length bytes ≤ TRACE_BYTES → IsTraceText names bytes (record { items = items; total = Some total })
  text_read heading accounts bytes before behind told headed is short =
      trace_lines_read names bytes (record { items = items; total = Some total }) short (record {
        heading = heading;
        items = map (item_line names) items;
        closing = total_line total ∷ accounts;
        parts =
            ap lines (is ∙ ap (λ t. flat_map fed heading ++ t) (trace_fed accounts)
            ∙ sym (flat_map-append fed heading (rows accounts))
            ∙ sym (append-nil (flat_map fed (heading ++ rows accounts))))
            ∙ lines_fed (heading ++ rows accounts) []
            (all_append IsUnbroken heading (rows accounts) before
            (all_append IsUnbroken (map (item_line names) items) (total_line total ∷ accounts)
            (items_unbroken names items are lined) (
              unbroken_append (codes "total" ++ 32 ∷ []) (decimal total)
                  (unbroken_append (codes "total") (32 ∷ []) (word_free 10 (codes "total") refl refl) (refl, tt))
                  (word_free 10 (decimal total) refl (decimal_bytes total)),
              behind,
            )))
            ∙ append-nil (heading ++ rows accounts);
        headed = headed;
        each = rows_read names items are lined;
        closes = (total_line total, accounts, refl, total_read names total small, told);
      })
