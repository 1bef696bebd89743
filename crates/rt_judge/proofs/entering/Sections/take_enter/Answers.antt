use Rattle.std.proofs.Common.{◌≡◌, ◌&&◌, not, Some, refl, sym, ap, subst, ◌∙◌}
use Rattle.std.specs.List.{list_any}
use Rattle.rt_actions.specs.Location.{is_same_section}
use Rattle.rt_points.specs.Point.{Point}
use Rattle.rt_points.specs.Leading.{kind_of}
use Rattle.rt_points.specs.ExecutionPriority.{lowered_value}
use Rattle.rt_points.specs.Rules.{priority_after}
use Rattle.rt_judge.specs.Inside.Points.{point}
use Rattle.rt_judge.specs.declared.entering.Entering.{Entering}
use Rattle.rt_judge.proofs.Enterings.{takes_enter, value_of_next, IsValueOf}
use Rattle.rt_lemmas.proofs.Results.{on_ok_weaker}
use Rattle.rt_judge.proofs.entering.Sections.take_enter.Goals as goal
use Rattle.rt_judge.proofs.entering.Sections.take_enter.Goals.{then-self, else-self}

pub returns : goal.returns
returns c = on_ok_weaker c.enter.result _ _ (λ rows ps at tells.
    let img = c.args.image.now in
    let i = c.args.line.now.0 in
    let x = c.args.section in
    let inside = c.args.opened.now in
    let p : Point = point c.args.address c.args.owner inside in
    let e : Entering = record { section = x; weakest = c.lowered_value.result; value = c.outside_value.result } in
    let weakest : e.weakest ≡ priority_after img p i x =
    c.lowered_value.ensures ∙ ap (λ k. lowered_value k c.execution_priority-value.result) c.kind_of.ensures
    ∙ ap (lowered_value (kind_of i)) c.execution_priority-value.ensures in
    let stands = at ∙ ap (λ n. Some (i, n)) c.requires in
    let value : IsValueOf img p e.value = subst (IsValueOf img p) (sym c.outside_value.ensures) (value_of_next img p) in
    let here = c.is_inside-is_inside.ensures in
    let free = elim c.if-self.branch as (λ _. c.enter.new.self.free
    ≡ (c.args.self.now.free && not (list_any (λ o. is_same_section o.section x) inside))) [
      | then-self w ↦ c.enter.ensures.free ∙ w.self-is ∙ ap not here
          ∙ sym (ap (λ b. b && not (list_any (λ o. is_same_section o.section x) inside)) w.if-self.true)
      | else-self w ↦ c.enter.ensures.free ∙ w.self-is ∙ w.if-self.false
          ∙ sym (ap (λ b. b && not (list_any (λ o. is_same_section o.section x) inside)) w.if-self.false)
    ] in
    takes_enter img ps p i x stands e refl weakest value
    c.args.self.now c.enter.new.self tells free (rows tells.apart)) c.enter.ensures.rows
