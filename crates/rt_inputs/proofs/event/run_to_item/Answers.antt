use Rattle.std.proofs.Common.{◌≡◌, ◌-◌, ◌+◌, replicate, ap, sym, subst, ◌∙◌, arith}
use Rattle.rt_lemmas.proofs.Results.{on_err_from}
use Rattle.rt_ids.specs.Event.{Step}
use Rattle.rt_ids.specs.Names.{Names}
use Rattle.rt_app.specs.View.{app_of}
use Rattle.rt_code.specs.Image.{Image}
use Rattle.rt_core.specs.Machine.{Machine}
use Rattle.rt_run.specs.Inside.Writing.{HasWords}
use Rattle.rt_run.proofs.Known as plain
use Rattle.rt_run.proofs.Reached.{reached_leads, reached_words}
use Rattle.rt_inputs.specs.Inputs.{Comes}
use Rattle.rt_inputs.specs.Inside.Placed.{HavePlaces}
use Rattle.rt_inputs.specs.Inside.Ran.{Ran, moment, held_in}
use Rattle.rt_inputs.proofs.Known.{few_cells, short_names, cells_there}
use Rattle.rt_inputs.proofs.Going.{one_done, none_ran, item_ran, item_cut}
use Rattle.rt_inputs.proofs.event.run_to_item.Goals as goal

pub returns-in_default-clause-ok : goal.returns-in_default-clause-ok
returns-in_default-clause-ok g c =
    none_ran (app_of c.args.app.now) c.args.board.now (held_in c.args.registers.now) c.args.most c.args.core.now
    c.steps_to_item.new.self c.steps_to_item.result _ c.args.held.now.items c.steps_to_item.ensures c.in_default.is

pub put_taken-requires-clause-few : goal.put_taken-requires-clause-few
put_taken-requires-clause-few g c =
    few_cells (app_of c.args.app.now) c.args.board.now c.args.core.now.image c.requires.can.places

pub put_taken-requires-clause-cells : goal.put_taken-requires-clause-cells
put_taken-requires-clause-cells g c =
    let app = app_of c.args.app.now in
    let goes = c.steps_to_item.ensures in
    let there = plain.still_writable (replicate goes.done Step) c.args.core.now c.steps_to_item.new.self
    (reached_leads c.args.most c.args.core.now c.steps_to_item.new.self c.steps_to_item.result goes)
    c.requires.can.writable in
    cells_there app c.args.board.now c.steps_to_item.new.self.image c.steps_to_item.new.self.core
    (subst (HavePlaces app c.args.board.now) (sym goes.image) c.requires.can.places) there.known

pub put_shown-requires-clause-words : goal.put_shown-requires-clause-words
put_shown-requires-clause-words g c =
    let core = c.args.core.now in
    let goes = c.steps_to_item.ensures in
    let named = ap (λ (i : Image). i.names)
    (c.behind-core.view_is ∙ c.image.ensures ∙ ap (λ (m : Machine). m.image) c.put_taken.ensures ∙ goes.image) in
    subst (λ (n : Names). HasWords n c.in-Some.what) (sym named)
    (reached_words c.args.most core c.steps_to_item.new.self c.steps_to_item.result c.in-Some.what goes c.in-Some.is
    c.requires.can.writable.lines c.requires.can.writable.known)

pub put_shown-requires-clause-names : goal.put_shown-requires-clause-names
put_shown-requires-clause-names g c =
    let goes = c.steps_to_item.ensures in
    ap (λ (i : Image). i.names)
    (c.behind-core.view_is ∙ c.image.ensures ∙ ap (λ (m : Machine). m.image) c.put_taken.ensures ∙ goes.image)
    ∙ c.requires.can.names

pub put_shown-requires-clause-places : goal.put_shown-requires-clause-places
put_shown-requires-clause-places g c =
    short_names (app_of c.args.app.now) c.args.board.now c.args.core.now.image c.requires.can.places

pub returns-in_err-put_shown-clause-err : goal.returns-in_err-put_shown-clause-err
returns-in_err-put_shown-clause-err g c =
    let goes = c.steps_to_item.ensures in
    let counted : c.steps-behind.result - 1 + 1 ≡ c.put_taken.new.core.steps =
    omega (
      arith,
      c.steps-behind.ensures,
      ap (λ (m : Machine). m.steps) c.put_taken.ensures,
      goes.steps,
      one_done c.args.most c.args.core.now c.steps_to_item.new.self c.steps_to_item.result c.in-Some.what goes
          c.in-Some.is,
    ) in
    on_err_from c.from_residual.result
    (item_cut (app_of c.args.app.now) c.args.board.now (held_in c.args.registers.now) c.args.most c.args.core.now
    c.steps_to_item.new.self c.put_taken.new.core c.steps_to_item.result c.in-Some.what goes c.in-Some.is
    c.put_taken.ensures (c.steps-behind.result - 1) counted _ _ c.args.held.now.items c.put_shown.ensures.few
    c.in_err-put_shown.ensures.err)

pub returns-clause-ok : goal.returns-clause-ok
returns-clause-ok g c =
    let app = app_of c.args.app.now in
    let goes = c.steps_to_item.ensures in
    let counted : c.steps-behind.result - 1 + 1 ≡ c.put_taken.new.core.steps =
    omega (
      arith,
      c.steps-behind.ensures,
      ap (λ (m : Machine). m.steps) c.put_taken.ensures,
      goes.steps,
      one_done c.args.most c.args.core.now c.steps_to_item.new.self c.steps_to_item.result c.in-Some.what goes
          c.in-Some.is,
    ) in
    let count : goes.done ≡ c.args.most - (c.args.most - (c.steps-behind.result - c.steps-before.result)) =
    omega (arith, c.steps-behind.ensures, c.steps-before.ensures, goes.steps, goes.within) in
    subst (λ n. Ran app c.args.board.now (replicate n (Comes Step)) (moment c.args.core.now c.args.registers.now)
    (moment c.put_taken.new.core c.args.registers.now) (g.K.Sink.taken c.args.out.now)
    (g.K.Sink.taken c.put_shown.new.out) c.args.held.now.items c.put_shown.new.held.items) count
    (item_ran app c.args.board.now (held_in c.args.registers.now) c.args.most c.args.core.now
    c.steps_to_item.new.self c.put_taken.new.core c.steps_to_item.result c.in-Some.what goes c.in-Some.is
    c.put_taken.ensures (c.steps-behind.result - 1) counted _ _ c.args.held.now.items _
    c.in_ok-put_shown.ensures.ok)
