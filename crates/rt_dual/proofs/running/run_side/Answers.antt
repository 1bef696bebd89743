use Rattle.rt_live.proofs.Vocabulary.{Caller, EndsByLine, is_ok, own_events, refl, subst}
use Rattle.rt_dual.specs.{Course.turns, Inside.Both.leads_by}
use Rattle.rt_dual.proofs.Cutting.{has_begun, if_ended}
use Rattle.rt_dual.proofs.running.run_side.Goals as goal

pub returns-clause-ok : goal.returns-clause-ok
returns-clause-ok g c =
    let side = c.args.side.now in
    if_ended c.run_turns.result
    (subst (λ (l : Caller). EndsByLine (leads_by side.role.routes)
    (turns (own_events side.role.share c.args.script.now))
    (is_ok c.run_turns.result) l c.run_turns.new.line c.args.core.now c.run_turns.new.core side.text.bytes.items
    c.run_turns.new.out.bytes.items) c.deref_mut.ensures.value c.run_turns.ensures.ends)
    (λ ends. record { ends = ends; rows = refl })

pub returns-clause-begun : goal.returns-clause-begun
returns-clause-begun g c = has_begun _ c.run_turns.ensures.ends
