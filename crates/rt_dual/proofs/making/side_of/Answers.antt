use Rattle.rt_live.proofs.Vocabulary.{Image, ap, ◌∙◌}
use Rattle.rt_dual.proofs.Vocabulary.{forward, leads_by}
use Rattle.rt_dual.proofs.Routing.{leads}
use Rattle.rt_dual.proofs.making.side_of.Goals as goal

pub returns-clause-routes : goal.returns-clause-routes
returns-clause-routes c =
    let image = c.args.image.now in
    leads image c.args.other.now.names (leads_by c.in_ok-routes.routes) c.requires
    (λ irq low. c.in_ok-routes.ensures.there irq low
    ∙ ap (λ (i : Image). forward image i.names irq) c.other.view_is) c.in_ok-routes.ensures.above
