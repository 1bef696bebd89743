-- The lines of the rows so far.
use Rattle.std.proofs.Common.{◌≡◌, ◌++◌, take, flat_map}
use Rattle.rt_app.specs.View.{app_of}
use Rattle.rt_respond.specs.Lines.{judged_text}
use Rattle.rt_respond.proofs.text.push_all_judged.Given as goal

abbrev pub invariant-loop-row : goal.invariant-loop-row
invariant-loop-row l =
    l.out.items ≡ l.fn.out.items ++ flat_map (judged_text (app_of l.app)) (take l.row-index l.rows)
