-- What `run`, `live` and `pair` write is judged right: it is short, and it is read as the trace of its image, a run.
use Rattle.std.proofs.Common.{◌≡◌, ℕ, ◌+◌, ◌<◌, ◌≤◌, ◌^◌, List, [], ◌++◌, length, flat_map, codes, Option, Some}
use Rattle.std.proofs.Common.{None, refl, ap, sym, subst, ◌∙◌, arith, length-append}
use Rattle.std.specs.List.{AllByRecursion}
use Rattle.rt_lemmas.proofs.Membership.{all_weaker}
use Rattle.rt_ids.specs.Event.{Event, steps}
use Rattle.rt_ids.specs.Names.{Names, AreNames}
use Rattle.rt_ids.specs.declared.cell.CellRow.{CellRow}
use Rattle.rt_app.specs.Acceptance.{IsSound}
use Rattle.rt_app.specs.Names.{names_of}
use Rattle.rt_app.specs.Tree.{App}
use Rattle.rt_app.proofs.Sound.{accepted_are_sound}
use Rattle.rt_baker.specs.Audit.{IsRight}
use Rattle.rt_baker.specs.declared.verdict.Verdict.TheVariants as judged
use Rattle.rt_build.proofs.CellNames.{names_brief}
use Rattle.rt_build.proofs.ImageCells.{few_cells}
use Rattle.rt_build.proofs.ImageCounts.{few_irqs, few_bodies}
use Rattle.rt_build.proofs.ImageSizes.{lines_of_tables}
use Rattle.rt_code.specs.Image.{Image}
use Rattle.rt_code.specs.Lines.{HasLines}
use Rattle.rt_code.specs.declared.instr.Instr.{Instr}
use Rattle.rt_code.specs.declared.instr.Instr.TheVariants as instr
use Rattle.rt_code.specs.declared.instr.Note.{Note}
use Rattle.rt_code.specs.declared.instr.Note.TheVariants as note
use Rattle.rt_core.specs.Core.{reset}
use Rattle.rt_core.specs.Trace.{labels, trace}
use Rattle.rt_listing.specs.Listing.{listing}
use Rattle.rt_listing.specs.Numbers.{HasTypedNumbers, AreWords, instr_numbers, NamesLevel}
use Rattle.rt_live.specs.Account.{account_text}
use Rattle.rt_live.specs.declared.account.AccountRow.{AccountRow}
use Rattle.rt_load.proofs.Headed.{heading_of, heading_fed, heading_unbroken, heading_passed}
use Rattle.rt_load.proofs.Lengths.{listing_few}
use Rattle.rt_run.specs.Ranges.{HasRanges, IsWordInstr, HasLevelNote}
use Rattle.rt_run.proofs.Brief.{items_few, steps_within, all_two}
use Rattle.rt_run.proofs.Items.{IsRightItem, trace_right}
use Rattle.rt_run.proofs.Known.{ticks_below}
use Rattle.rt_run.proofs.Numbered.{IsTakeWithin}
use Rattle.rt_run.proofs.Weighing.{labels_weigh, steps_weigh, length_weighs}
use Rattle.rt_sim.proofs.Judging.{judged_well}
use Rattle.rt_trace.specs.Label.{steps_of}
use Rattle.rt_trace.specs.Lined.{HasLine}
use Rattle.rt_trace.specs.Reading.{IsTraceText}
use Rattle.rt_trace.specs.Text.{text as text_of, total_text, trace_text}
use Rattle.rt_trace.specs.Trace.{Trace}
use Rattle.rt_trace.specs.declared.item.Item.{Item}
use Rattle.rt_trace.proofs.Lengths.{texts_fit, total_short}
use Rattle.rt_trace.proofs.TextsRead.{text_read}
use Rattle.rt_lines.proofs.Unbroken.{fed}
use Rattle.rt_top.specs.Audited.{IsAuditedRight}
use Rattle.rt_top.specs.Outputs.{IsGoodOf}
use Rattle.rt_top.proofs.Accounts.{account_lines, account_fed, account_told, account_unbroken, account_few}
use Rattle.rt_top.proofs.Happening.{Happens, runs_well}
use Rattle.rt_core.proofs.Showing.{steps_are}

-- numbers of the types in which a program holds them are in range
word_instr : (i : Instr) → AreWords (instr_numbers i) → IsWordInstr i
word_instr (instr.Set d v) words = words.1.0
word_instr (instr.Raise d v) words = words.1.0
word_instr i words = tt

level_note : (n : Option Note) → NamesLevel n → HasLevelNote n
level_note None level = tt
level_note (Some (note.Enter s)) level = level
level_note (Some (note.Leave s)) level = level
level_note (Some n) level = tt

in_range : (image : Image) → HasTypedNumbers image → HasRanges image
in_range image numbers = record {
  cells = numbers.cells;
  instrs = all_weaker (λ (line : Instr × Option Note). AreWords (instr_numbers line.0))
      (λ (line : Instr × Option Note). IsWordInstr line.0) (λ line. word_instr line.0) image.code numbers.instrs;
  notes = all_weaker (λ (line : Instr × Option Note). NamesLevel line.1)
      (λ (line : Instr × Option Note). HasLevelNote line.1) (λ line. level_note line.1) image.code numbers.levels;
}

-- The bytes are shorter than a trace's text may be, and an audit of them as a trace of the text's application says yes.
pub record IsTold (text bytes : List ℕ) (items : ℕ) : Type 0 where
  pub few : length bytes ≤ 224000000
  pub right : IsAuditedRight text bytes items

module _ {text : List ℕ} {app : App} {image : Image} {es : List Event} (h : Happens text app image es) where
  good : IsGoodOf app image
  good = h.is.good

  sound : IsSound app
  sound = accepted_are_sound app good.accepted

  own_names : image.names ≡ names_of app
  own_names = good.of_application.tables.names

  are : AreNames image.names
  are = subst AreNames (sym own_names) sound.names

  lines : HasLines image
  lines =
      lines_of_tables app good.of_application.at image good.of_application.tables sound good.accepted good.listable

  listing_short : length (listing image) ≤ 41200000
  listing_short =
      omega (
        arith,
        listing_few image lines (subst (λ (cells : List CellRow). AllByRecursion (λ cell. length cell.name ≤ 168) cells)
            (sym good.of_application.tables.cells) (names_brief app good.accepted.names)),
        ap (λ (cells : List CellRow). length cells) good.of_application.tables.cells,
        few_cells app good.accepted,
        few_irqs app good.of_application.at image good.of_application.tables good.accepted,
        few_bodies app good.of_application.at image good.of_application.tables good.accepted,
        good.of_application.size,
        sound.size,
      )

  abbrev shown : Trace
  shown = record { items = trace image es; total = Some (steps es) }

  steps_few : steps es ≤ 2000000
  steps_few = omega (arith, steps_weigh es, length_weighs es, h.few)

  right : AllByRecursion (IsRightItem image) (trace image es)
  right =
      trace_right image lines good.runnable (in_range image h.is.numbers) es (omega (arith, steps_few))
      (omega (arith, ticks_below es, length_weighs es, h.few)) h.declared

  lined : AllByRecursion (HasLine image.names) (trace image es)
  lined = all_weaker (IsRightItem image) (HasLine image.names) (λ item r. r.0) (trace image es) right

  text_few : length (trace_text image.names shown) ≤ 182000017
  text_few =
      let last : 0 + steps_of (labels image (reset image) es) < 10 ^ 7 =
      omega (arith, steps_are image (reset image) es, steps_few) in
      omega (
        arith,
        items_few 0 (labels image (reset image) es),
        labels_weigh image (reset image) es,
        h.few,
        texts_fit image.names (trace image es) are
            (all_two (HasLine image.names)
            (λ item. item.step ≤ 0 + steps_of (labels image (reset image) es))
            (λ item. HasLine image.names item × (item.step < 10 ^ 7))
            (λ item line at. (line, let here : item.step < 10 ^ 7 = omega (arith, at, last) in here))
            (trace image es) lined (steps_within 0 (labels image (reset image) es))),
        total_short (steps es) (omega (arith, steps_few)),
        length-append (flat_map (text_of image.names) (trace image es)) (total_text (steps es) ++ []),
      )

  is_right : IsRight app shown
  is_right =
      let runs = runs_well text app image es h in
      record {
        judged = judged_well app image es good.good.size runs
            (all_weaker (IsRightItem image) (λ (item : Item). IsTakeWithin image item.what) (λ item r. r.1)
            (trace image es) right);
        laws = runs.laws;
        messages = runs.messages;
      }

  -- the listing, the trace and an account of interrupts
  module _ (rows : List AccountRow) (brief : length rows ≤ length image.names.irqs) (bytes : List ℕ)
      (same : bytes ≡ listing image ++ codes "trace\n"
      ++ (trace_text image.names shown ++ account_text image.names rows)) where
    fed_same : bytes ≡ listing image ++ codes "trace\n"
        ++ (trace_text image.names shown ++ flat_map fed (account_lines image.names rows))
    fed_same =
        same ∙ ap (λ a. listing image ++ codes "trace\n" ++ (trace_text image.names shown ++ a))
        (account_fed image.names rows)

    whole_few : length bytes ≤ 224000000
    whole_few =
        let accounts : List ℕ = flat_map fed (account_lines image.names rows) in
        omega (
          arith,
          account_few image.names rows are,
          brief,
          are.few_irqs,
          ap length fed_same,
          text_few,
          listing_short,
          length-append (listing image) (codes "trace\n"),
          length-append (listing image ++ codes "trace\n") (trace_text image.names shown ++ accounts),
          length-append (trace_text image.names shown) accounts,
        )

    pub told : IsTold text bytes (length (trace image es))
    told = record {
      few = whole_few;
      right = record {
        app = app;
        of_text = h.is.of_text;
        trace = shown;
        read = subst (λ (n : Names). IsTraceText n bytes shown) own_names
            (text_read image.names (trace image es) (steps es) are lined (omega (arith, steps_few)) (heading_of image)
            (account_lines image.names rows) bytes (heading_unbroken image lines)
            (account_unbroken image.names rows are) (account_told image.names rows) (heading_passed image)
            (fed_same ∙ ap (λ t. t ++ (trace_text image.names shown ++ flat_map fed (account_lines image.names rows)))
            (heading_fed image))
            (omega (arith, whole_few)));
        verdict = judged.Yes;
        is = is_right;
        says = (refl, refl);
      };
    }
