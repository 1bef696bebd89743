-- How long lines and whole texts of traces get.
use Rattle.std.proofs.Common.{◌<◌, ◌≤◌, ◌^◌, ◌*◌, ◌+◌, ℕ, List, [], ◌∷◌, ◌++◌, length, flat_map, codes, true}
use Rattle.std.proofs.Common.{decimal, Some, None, arith, length-append}
use Rattle.std.specs.List.{AllByRecursion}
use Rattle.std.proofs.lemmas.Fmt.{length-decimal-le}
use Rattle.rt_ids.specs.Names.{Names, AreNames}
use Rattle.rt_lines.specs.Table.{spaced_text}
use Rattle.rt_lines.proofs.Short.{widths, operands_short, numbers_width}
use Rattle.rt_lines.proofs.Told.{operands_plain}
use Rattle.rt_trace.specs.Laws.{LinesAreShort, RunsAreShort}
use Rattle.rt_trace.specs.Lined.{HasLine, HasOperands}
use Rattle.rt_trace.specs.Text.{operand_words, text, total_text}
use Rattle.rt_trace.specs.Words.{first, operands, rows, HasFewValues}
use Rattle.rt_trace.specs.declared.item.Item.{Item}
use Rattle.rt_trace.specs.declared.item.What.{What}
use Rattle.rt_trace.specs.declared.item.What.TheVariants as what
use Rattle.rt_trace.proofs.Told.{words_agree}

-- the room that the words of what is shown want, with a space in front of each
shown_room : (w : What) → HasFewValues w → length (first w) + widths (operands w) ≤ 82
shown_room (what.Leave x None) few = omega arith
shown_room (what.Leave x (Some v)) few = omega arith
shown_room (what.Start t args) few = let few : length args ≤ 4 = few in omega (arith, numbers_width args, few)
shown_room w few = omega arith

shown_short : (names : Names) (w : What) → AreNames names → HasOperands names w
    → length (spaced_text (first w ∷ operand_words names w)) ≤ 83
shown_short names w are has =
    let plain = operands_plain true rows first operands HasFewValues words_agree w has.few in
    let rest = operands_short names true (operands w) plain are has.written in
    omega (arith, rest, shown_room w has.few, length-append (first w) (spaced_text (operand_words names w)))

pub lines_short : LinesAreShort
lines_short names item are h few =
    let shown = spaced_text (first item.what ∷ operand_words names item.what) in
    let number = length-decimal-le 7 item.step (omega arith) few (omega (arith, few)) in
    let rest = shown_short names item.what are h.operands in
    omega (
      arith,
      number,
      rest,
      length-append (decimal item.step) shown,
      length-append (decimal item.step ++ shown) (10 ∷ []),
    )

pub texts_fit : (names : Names) (items : List Item) → AreNames names → AllByRecursion
    (λ item. HasLine names item × (item.step < 10 ^ 7)) items
    → length (flat_map (text names) items) ≤ 91 * length items
texts_fit names [] are all = omega arith
texts_fit names (item ∷ items) are all =
    let this = lines_short names item are all.0.0 all.0.1 in
    let others = texts_fit names items are all.1 in
    omega (arith, this, others, length-append (text names item) (flat_map (text names) items))

early_all : (names : Names) (items : List Item) → AllByRecursion
    (λ item. HasLine names item × (item.step < 2000000)) items
    → AllByRecursion (λ item. HasLine names item × (item.step < 10 ^ 7)) items
early_all names [] all = tt
early_all names (item ∷ items) all =
    let early : item.step < 2000000 = all.0.1 in
    ((all.0.0, omega (arith, early)), early_all names items all.1)

pub total_short : (total : ℕ) → total < 2 ^ 32 → length (total_text total ++ []) ≤ 17
total_short total few =
    let digits = length-decimal-le 10 total (omega arith) (omega (arith, few)) (omega (arith, few)) in
    omega (
      arith,
      digits,
      length-append (total_text total) [],
      length-append (codes "total " ++ decimal total)
          (10 ∷ []),
      length-append (codes "total ") (decimal total),
    )

pub runs_short : RunsAreShort
runs_short names items total are few all small =
    let lines = texts_fit names items are (early_all names items all) in
    let last = total_short total small in
    omega (arith, few, lines, last, length-append (flat_map (text names) items) (total_text total ++ []))
