use Rattle.std.proofs.Common.{◌≡◌, ℕ, ◌+◌, refl, sym, subst, ◌∙◌}
use Rattle.std.specs.Prelude.{Vec}
use Rattle.std.specs.Global.{Global}
use Rattle.rt_app.specs.View.{app_of}
use Rattle.rt_ids.specs.Lists.{those_below}
use Rattle.rt_respond.specs.Blocking.{spawns_below}
use Rattle.rt_respond.proofs.Transit.{none_yet, one_more, none_more}
use Rattle.rt_respond.proofs.room.transit_of.Goals as goal
use Rattle.rt_respond.proofs.room.transit_of.Goals.{then-spawns_below+in_ok-push, else-spawns_below}

pub loop-priority-init : goal.loop-priority-init
loop-priority-init c =
    none_yet (spawns_below (app_of c.args.app.now) c.args.this.now c.args.this.now.task) c.new-all.result.items
    c.new-all.ensures.items

pub loop-priority-preserved : goal.loop-priority-preserved
loop-priority-preserved c =
    let test = spawns_below (app_of c.args.app.now) c.args.this.now c.args.this.now.task in
    let n = c.loop-priority.priority in
    let before = c.loop-priority.all.items in
    elim c.if-spawns_below.branch [
      | then-spawns_below+in_ok-push w ↦
          subst (λ (v : Vec ℕ Global). v.items ≡ those_below test (n + 1)) (sym w.all-is)
          (one_more test n before w.push.new.self.items c.loop-priority.invariant
          (sym c.spawns_below.ensures ∙ w.if-spawns_below.true) w.in_ok-push.ensures.items)
      | else-spawns_below w ↦
          subst (λ (v : Vec ℕ Global). v.items ≡ those_below test (n + 1)) (sym w.all-is)
          (none_more test n before before c.loop-priority.invariant
          (sym c.spawns_below.ensures ∙ w.if-spawns_below.false) refl)
    ]
