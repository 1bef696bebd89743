use Rattle.std.proofs.{Common.arith, Common.length, Common.◌-◌, Common.◌<◌, Common.◌^◌, Math.Facts.Fits-of_lt}
use Rattle.rt_devices.proofs.Working.{requests_grow, requests_within, room_left, entry_done}
use Rattle.rt_devices.proofs.device.Device.work.Goals as goal

pub pend_often-requires-clause-room : goal.pend_often-requires-clause-room
pend_often-requires-clause-room g c =
    let below : c.loop-entry.entry < length c.args.self.now.script.items = omega (arith, c.args.self.now.script.ok.0) in
    room_left c.args.self.now c.loop-entry.self c.loop-entry.entry c.index.result.now below c.index.ensures
    c.loop-entry.invariant.works (2 ^ 32 - 1) c.requires.room

pub pend_often-requires-clause-first : goal.pend_often-requires-clause-first
pend_often-requires-clause-first g c =
    let below : c.loop-entry.entry < length c.args.self.now.script.items = omega (arith, c.args.self.now.script.ok.0) in
    omega (
      arith,
      requests_within c.args.self.now c.loop-entry.self c.loop-entry.entry c.index.result.now below c.index.ensures
          c.loop-entry.invariant.works,
      c.loop-entry.invariant.first,
      c.requires.room,
    )

pub overflow_add-first : goal.overflow_add-first
overflow_add-first g c =
    let below : c.loop-entry.entry < length c.args.self.now.script.items = omega (arith, c.args.self.now.script.ok.0) in
    Fits-of_lt (omega (
      arith,
      requests_within c.args.self.now c.loop-entry.self c.loop-entry.entry c.index.result.now below c.index.ensures
          c.loop-entry.invariant.works,
      c.loop-entry.invariant.first,
      c.requires.room,
      c.from-first.ensures,
    ))

pub loop-entry-preserved : goal.loop-entry-preserved
loop-entry-preserved g c =
    let below : c.loop-entry.entry < length c.args.self.now.script.items = omega (arith, c.args.self.now.script.ok.0) in
    record {
      works =
          entry_done c.args.self.now c.loop-entry.self c.loop-entry.entry c.index.result.now below c.index.ensures
          c.loop-entry.invariant.works c.pend_often.new.self c.pend_often.ensures;
      first =
          omega (
            arith,
            requests_grow c.args.self.now c.loop-entry.self c.loop-entry.entry c.index.result.now below c.index.ensures
                c.loop-entry.invariant.works,
            c.loop-entry.invariant.first,
            c.from-first.ensures,
          );
    }
