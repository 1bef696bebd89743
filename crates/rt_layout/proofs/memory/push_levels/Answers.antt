use Rattle.std.proofs.Common.{◌∙◌}
use Rattle.rt_layout.proofs.Laid.{no_levels, level_with_room, level_without, few_so_far}
use Rattle.rt_layout.proofs.memory.push_levels.Goals as goal
use Rattle.rt_layout.proofs.memory.push_levels.Goals.{then-room-gt0+in_ok-push_level, else-room-gt0}

pub loop-level-init : goal.loop-level-init
loop-level-init c = no_levels c.args.rooms.now c.args.layout.now

pub push_level-requires : goal.push_level-requires
push_level-requires c = record {
  room = few_so_far c.args.rooms.now c.args.layout.now c.loop-level.layout
      c.loop-level.level c.loop-level.auto.level-end c.loop-level.invariant c.requires.room;
}

pub loop-level-preserved : goal.loop-level-preserved
loop-level-preserved c =
    elim c.if-room-gt0.branch [
      | then-room-gt0+in_ok-push_level w ↦
          level_with_room c.args.rooms.now c.args.layout.now c.loop-level.layout c.if-room-gt0.layout c.loop-level.level
          c.from.result c.from.ensures w.if-room-gt0.true c.loop-level.invariant
          (w.layout-is ∙ w.in_ok-push_level.ensures)
      | else-room-gt0 w ↦ w.layout-is ∙ level_without c.args.rooms.now c.args.layout.now c.loop-level.layout
          c.loop-level.level c.from.result c.from.ensures w.if-room-gt0.false c.loop-level.invariant
    ]
