-- Code that is made begins as before: where lines were appended, and where it was made in two steps.
use Rattle.rt_gen_queue.proofs.Vocabulary.{Appends, Extends, Line, List, Made, ap, append_assoc, arith, drop, length}
use Rattle.rt_gen_queue.proofs.Vocabulary.{refl, sym, take, take-append-drop, take_all, take_at, ◌++◌, ◌∙◌, ◌≡◌}

-- lines were appended
pub extends_by : (before : Made) {after : Made} (lines : List Line) → Appends before after lines → Extends before after
extends_by before lines is = record {
  entry = ap (λ (m : Made). m.entry) is;
  kept = ap (λ (m : Made). take (length before.lines) m.lines) is
      ∙ take_at before.lines lines (length before.lines) refl;
}

-- nothing was made
pub extends_same : (before : Made) {after : Made} → after ≡ before → Extends before after
extends_same before is = record {
  entry = ap (λ (m : Made). m.entry) is;
  kept = ap (λ (m : Made). take (length before.lines) m.lines) is
      ∙ take_all (length before.lines) before.lines (omega arith);
}

-- more was made
pub extends_then : (before : Made) {mid after : Made} → Extends before mid → Extends mid after → Extends before after
extends_then before {mid = mid} {after = after} first second =
    let own : List Line = drop (length before.lines) mid.lines in
    let more : List Line = drop (length mid.lines) after.lines in
    let there : before.lines ++ own ≡ mid.lines =
    ap (λ (front : List Line). front ++ own) (sym first.kept) ∙ take-append-drop (length before.lines) mid.lines in
    let all : before.lines ++ (own ++ more) ≡ after.lines =
    sym (append_assoc before.lines own more) ∙ ap (λ (front : List Line). front ++ more) there
    ∙ ap (λ (front : List Line). front ++ more) (sym second.kept)
    ∙ take-append-drop (length mid.lines) after.lines in
    record {
      entry = second.entry ∙ first.entry;
      kept = ap (take (length before.lines)) (sym all)
          ∙ take_at before.lines (own ++ more) (length before.lines) refl;
    }

-- lines were appended, and then what was to be made failed and left all as it was
pub extends_left : (before : Made) {mid after : Made} (lines : List Line) → Appends before mid lines → after ≡ mid
    → Extends before after
extends_left before {mid = mid} lines appended same =
    extends_then before (extends_by before lines appended) (extends_same mid same)
