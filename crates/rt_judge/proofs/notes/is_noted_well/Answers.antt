use Rattle.std.proofs.Common.{sym, ◌∙◌}
use Rattle.rt_judge.proofs.notes.is_noted_well.Goals as goal
use Rattle.rt_judge.proofs.notes.is_noted_well.Goals.{then-stands_on, else-stands_on, then-has_its_note}
use Rattle.rt_judge.proofs.notes.is_noted_well.Goals.{else-has_its_note}

pub returns-then-is_unsaved : goal.returns-then-is_unsaved
returns-then-is_unsaved c address = elim c.if-has_its_note.branch [
  | then-has_its_note w ↦ elim c.if-stands_on.branch [
    | then-stands_on v ↦ (
      λ yes. record {
        stands = c.stands_on.ensures.0 v.if-stands_on.true;
        has = v.has_its_note.ensures.0 (sym v.value-is ∙ w.if-has_its_note.true);
        unsaved = w.is_unsaved.ensures.0 (sym w.value-is ∙ c.if-is_unsaved.true);
        masks = (c.masks_well.ensures address).0 yes;
      },
      λ h. (c.masks_well.ensures address).1 h.masks,
    )
    | else-stands_on v ↦ cc
  ]
  | else-has_its_note w ↦ cc
]
