use Rattle.std.proofs.Common.{◌+◌, Some, refl, sym, ap, subst, ◌∙◌}
use Rattle.std.specs.Prelude.{Vec}
use Rattle.std.specs.Global.{Global}
use Rattle.std.proofs.lemmas.Option.{slice_get-get_or}
use Rattle.rt_app.specs.View.{app_of}
use Rattle.rt_respond.specs.Inside.Paths.{AreEdgesBefore}
use Rattle.rt_respond.specs.declared.path.Edge.{Edge}
use Rattle.rt_respond.proofs.Paths.{edges_passed, edges_more, edges_all}
use Rattle.rt_respond.proofs.path.push_edges.Goals as goal
use Rattle.rt_respond.proofs.path.push_edges.Goals.{then-releases+in_ok-push, else-releases}

pub loop-to-preserved : goal.loop-to-preserved
loop-to-preserved c =
    let app = app_of c.args.app.now in
    let hs = c.args.handlers.now in
    let h = c.index-handlers-from.result in
    let g = c.index-handlers-to.result in
    let h_at = slice_get-get_or hs c.args.from h c.requires.there ∙ ap Some (sym c.index-handlers-from.is) in
    let g_at = slice_get-get_or hs c.loop-to.to g c.loop-to-test.true ∙ ap Some (sym c.index-handlers-to.is) in
    elim c.if-releases.branch [
      | then-releases+in_ok-push w ↦
          let edge : Edge = record { from = c.args.from; to = c.loop-to.to } in
          subst (λ (v : Vec Edge Global). AreEdgesBefore app hs c.args.from (c.loop-to.to + 1) v.items) (sym w.edges-is)
          (edges_more app hs c.args.from c.loop-to.to c.loop-to.edges.items w.push.new.self.items edge h g
          c.loop-to.invariant refl refl h_at g_at (sym c.releases.ensures ∙ w.if-releases.true)
          w.in_ok-push.ensures.items)
      | else-releases w ↦
          subst (λ (v : Vec Edge Global). AreEdgesBefore app hs c.args.from (c.loop-to.to + 1) v.items) (sym w.edges-is)
          (edges_passed app hs c.args.from c.loop-to.to c.loop-to.edges.items h g c.loop-to.invariant h_at g_at
          (sym c.releases.ensures ∙ w.if-releases.false))
    ]

pub returns : goal.returns
returns c =
    edges_all (app_of c.args.app.now) c.args.handlers.now c.args.from c.loop-to.to c.loop-to.edges.items
    c.loop-to-test.false c.loop-to.invariant
