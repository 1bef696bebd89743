use Rattle.std.proofs.Common.{◌≡◌, ◌-◌, replicate, ap, sym, subst, ◌∙◌, arith}
use Rattle.rt_lemmas.proofs.Results.{on_err_from}
use Rattle.rt_ids.specs.Event.{Step}
use Rattle.rt_ids.specs.Names.{Names}
use Rattle.rt_code.specs.Image.{Image}
use Rattle.rt_run.specs.Inside.Writing.{HasWords, Writes}
use Rattle.rt_run.proofs.Advancing.{written, cut_more}
use Rattle.rt_run.proofs.Reached.{reached_leads, reached_words, none_written, item_lines, item_lined, item_stopped}
use Rattle.rt_run.proofs.event.run_to_item.Goals as goal

pub returns-in_default-clause-ok : goal.returns-in_default-clause-ok
returns-in_default-clause-ok g c =
    none_written c.args.most c.args.core.now c.steps_to_item.new.self c.steps_to_item.result _ c.args.held.now
    c.steps_to_item.ensures c.in_default.is

pub put_shown-requires-clause-words : goal.put_shown-requires-clause-words
put_shown-requires-clause-words g c =
    let core = c.args.core.now in
    let named = ap (λ (i : Image). i.names) (c.behind-core.view_is ∙ c.image.ensures ∙ c.steps_to_item.ensures.image) in
    subst (λ (n : Names). HasWords n c.in-Some.what) (sym named)
    (reached_words c.args.most core c.steps_to_item.new.self c.steps_to_item.result c.in-Some.what
    c.steps_to_item.ensures c.in-Some.is
    c.requires.writable.lines c.requires.writable.known)

pub returns-in_err-put_shown-clause-err : goal.returns-in_err-put_shown-clause-err
returns-in_err-put_shown-clause-err g c =
    let core = c.args.core.now in
    let goes = c.steps_to_item.ensures in
    let named = ap (λ (i : Image). i.names) (c.behind-core.view_is ∙ c.image.ensures ∙ goes.image) in
    on_err_from c.from_residual.result
    (cut_more goes.done c.args.most Step core c.steps_to_item.new.self _ _ c.args.held.now goes.within
    (item_stopped c.args.most core c.steps_to_item.new.self c.steps_to_item.result c.in-Some.what goes c.in-Some.is _ _
    named c.steps-behind.ensures _ _ c.args.held.now c.put_shown.ensures.few c.in_err-put_shown.ensures.err))

pub returns-clause-ok : goal.returns-clause-ok
returns-clause-ok g c =
    let core = c.args.core.now in
    let goes = c.steps_to_item.ensures in
    let named = ap (λ (i : Image). i.names) (c.behind-core.view_is ∙ c.image.ensures ∙ goes.image) in
    let count : goes.done ≡ c.args.most - (c.args.most - (c.steps-behind.result - c.steps-before.result)) =
    omega (arith, c.steps-behind.ensures, c.steps-before.ensures, goes.steps, goes.within) in
    subst (λ n. Writes (replicate n Step) core c.steps_to_item.new.self
    (g.K.Sink.taken c.args.out.now) (g.K.Sink.taken c.put_shown.new.out) c.args.held.now c.put_shown.new.held) count
    (written (replicate goes.done Step) core c.steps_to_item.new.self _ _ c.args.held.now _ _
    (reached_leads c.args.most core c.steps_to_item.new.self c.steps_to_item.result goes)
    (item_lined c.args.most core c.steps_to_item.new.self c.steps_to_item.result c.in-Some.what goes c.in-Some.is _ _
    named c.steps-behind.ensures
    c.put_shown.ensures.line)
    (item_lines c.args.most core c.steps_to_item.new.self c.steps_to_item.result c.in-Some.what goes c.in-Some.is _ _
    named c.steps-behind.ensures)
    c.in_ok-put_shown.ensures.ok)
