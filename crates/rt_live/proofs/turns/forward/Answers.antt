use Rattle.rt_live.proofs.Vocabulary.{None, Some, sym, ◌∙◌}
use Rattle.rt_live.proofs.Looking.{posts_none, posts_one, posts_counted, may_post}
use Rattle.rt_live.proofs.turns.forward.Goals as goal

pub returns-in_default-clause-posts : goal.returns-in_default-clause-posts
returns-in_default-clause-posts g c =
    posts_none (g.T.Routes.leads c.args.role.now.routes) c.args.shown.now c.args.line.now
    (sym c.routed.ensures ∙ c.in_default.is)

pub pend-requires-clause-may : goal.pend-requires-clause-may
pend-requires-clause-may g c =
    may_post (g.T.Routes.leads c.args.role.now.routes) c.args.line.now.there c.in-Some.irq c.args.words.now
    c.requires.may c.args.shown.now (sym c.routed.ensures ∙ c.in-Some.is)

pub returns-clause-posts : goal.returns-clause-posts
returns-clause-posts g c =
    posts_one (g.T.Routes.leads c.args.role.now.routes) c.args.shown.now c.args.line.now c.pend.new.self c.in-Some.irq
    c.pend.result (sym c.routed.ensures ∙ c.in-Some.is) c.pend.ensures.call

pub returns-in_default-clause-counted : goal.returns-in_default-clause-counted
returns-in_default-clause-counted g c =
    posts_counted (g.T.Routes.leads c.args.role.now.routes) c.args.line.now.there c.args.shown.now
    c.args.forwarded.now None (sym c.routed.ensures ∙ c.in_default.is)

pub returns-clause-counted : goal.returns-clause-counted
returns-clause-counted g c =
    c.saturating_add.ensures
    ∙ posts_counted (g.T.Routes.leads c.args.role.now.routes) c.args.line.now.there c.args.shown.now
    c.args.forwarded.now (Some c.in-Some.irq) (sym c.routed.ensures ∙ c.in-Some.is)
