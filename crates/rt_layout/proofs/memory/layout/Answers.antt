use Rattle.rt_layout.proofs.Laid.{tasks_fit, levels_fit, timer_fits, all_laid}
use Rattle.rt_layout.proofs.memory.layout.Goals as goal

pub push_tasks-requires : goal.push_tasks-requires
push_tasks-requires c = record {
  room = tasks_fit c.args.app.now c.empty-layout.result c.push_all_resources.new.layout c.deref.result.now
      c.empty-layout.ensures c.in_ok-push_all_resources.ensures c.deref.ensures.value c.requires.limits;
}

pub push_levels-requires : goal.push_levels-requires
push_levels-requires c = record {
  room = levels_fit c.args.app.now c.empty-layout.result c.push_all_resources.new.layout c.deref.result.now
      c.empty-layout.ensures c.in_ok-push_all_resources.ensures c.deref.ensures.value c.requires.limits
      c.push_tasks.new.layout c.deref-2.result.now c.rooms-rooms.result c.in_ok-push_tasks.ensures
      c.deref-2.ensures.value c.rooms-rooms.ensures;
}

pub push_mono-requires : goal.push_mono-requires
push_mono-requires c = record {
  room = timer_fits c.args.app.now c.empty-layout.result c.push_all_resources.new.layout c.deref.result.now
      c.empty-layout.ensures c.in_ok-push_all_resources.ensures c.deref.ensures.value c.requires.limits
      c.push_tasks.new.layout c.deref-2.result.now c.rooms-rooms.result c.in_ok-push_tasks.ensures
      c.deref-2.ensures.value c.rooms-rooms.ensures c.push_levels.new.layout c.in_ok-push_levels.ensures;
}

pub returns : goal.returns
returns c =
    all_laid c.args.app.now c.empty-layout.result c.push_all_resources.new.layout c.deref.result.now
    c.empty-layout.ensures c.in_ok-push_all_resources.ensures c.deref.ensures.value c.requires.limits
    c.push_tasks.new.layout c.deref-2.result.now c.rooms-rooms.result c.in_ok-push_tasks.ensures
    c.deref-2.ensures.value c.rooms-rooms.ensures c.push_levels.new.layout c.in_ok-push_levels.ensures
    c.push_mono.new.layout c.in_ok-push_mono.ensures
