use Rattle.std.proofs.Common.{rules, tests, ◌==◌, ap, sym, ◌∙◌}
use Rattle.std.specs.Option.{option_map}
use Rattle.std.proofs.lemmas.Iterator.{YieldsList-from_slice}
use Rattle.std.proofs.lemmas.Iterator.Search.{find_from_yields_List}
use Rattle.rt_app.specs.declared.ceilings.ReadyCeiling.{ReadyCeiling}
use Rattle.rt_frames.specs.Inside.Waits.{ceiling_or_zero}
use Rattle.rt_respond.proofs.blocking.ready_in.Goals as goal

pub returns-in-None : goal.returns-in-None
returns-in-None c =
    let test = λ (q : ReadyCeiling). q.level == c.args.level in
    let found = find_from_yields_List test _ _ c.find.result c.find.ensures.ran
    (YieldsList-from_slice c.args.queues.now cc) (λ x b q k. search (rules, tests)) in
    ap ceiling_or_zero (sym (ap (option_map (λ x. x.now)) c.in-None.is) ∙ found)

pub returns-in-Some : goal.returns-in-Some
returns-in-Some c =
    let test = λ (q : ReadyCeiling). q.level == c.args.level in
    let found = find_from_yields_List test _ _ c.find.result c.find.ensures.ran
    (YieldsList-from_slice c.args.queues.now cc) (λ x b q k. search (rules, tests)) in
    ap ceiling_or_zero (sym (ap (option_map (λ x. x.now)) c.in-Some.is) ∙ found)
