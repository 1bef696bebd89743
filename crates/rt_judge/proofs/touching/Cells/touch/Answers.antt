use Rattle.std.proofs.Common.{Some, slice_set, sym, ap, ◌∙◌}
use Rattle.std.proofs.lemmas.Option.{slice_get-get_or}
use Rattle.rt_lemmas.proofs.Results.{on_ok_weaker}
use Rattle.rt_judge.proofs.touching.Cells.touch.Goals as goal

pub returns-clause-touched : goal.returns-clause-touched
returns-clause-touched c = on_ok_weaker c.touch_row.result _ _ (λ touched.
    let rows = c.args.self.now.rows.items in
    let cell = c.args.touch.now.cell in
    record {
      row = c.index_mut.result.now;
      was = slice_get-get_or rows cell c.index_mut.result.now c.requires ∙ ap Some (sym c.index_mut.ensures.value);
      next = touched.next;
      is_next = touched.is_next;
      is = ap (slice_set rows cell) touched.is;
    }) c.touch_row.ensures
