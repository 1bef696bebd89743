use Rattle.std.proofs.Common.{◌<◌, ◌-◌, ◌^◌, length, refl, arith}
use Rattle.std.proofs.Math.Facts.{Fits-of_lt}
use Rattle.rt_live_inputs.proofs.Giving.{gave_none, line_done, room_left, words_grow, words_within}
use Rattle.rt_live_inputs.proofs.device.GivingDevice.work.Goals as goal

pub loop-index-init : goal.loop-index-init
loop-index-init g c = record { gave = gave_none c.args.self.now; first = refl }

pub give_line-first-requires-clause-room : goal.give_line-first-requires-clause-room
give_line-first-requires-clause-room g c =
    let long = c.args.self.now.lines.ok.0 in
    let below : c.loop-index.index < length c.args.self.now.lines.items = omega arith in
    room_left c.args.self.now c.loop-index.self c.loop-index.index c.index.result.now below c.index.ensures
    c.loop-index.invariant.gave (2 ^ 32 - 1) c.requires.room

pub give_line-first-requires-clause-first : goal.give_line-first-requires-clause-first
give_line-first-requires-clause-first g c =
    let long = c.args.self.now.lines.ok.0 in
    let below : c.loop-index.index < length c.args.self.now.lines.items = omega arith in
    omega (
      arith,
      words_within c.args.self.now c.loop-index.self c.loop-index.index c.index.result.now below c.index.ensures
          c.loop-index.invariant.gave,
      c.loop-index.invariant.first,
      c.requires.room,
    )

pub overflow_add-first : goal.overflow_add-first
overflow_add-first g c =
    let long = c.args.self.now.lines.ok.0 in
    let below : c.loop-index.index < length c.args.self.now.lines.items = omega arith in
    Fits-of_lt (omega (
      arith,
      words_within c.args.self.now c.loop-index.self c.loop-index.index c.index.result.now below c.index.ensures
          c.loop-index.invariant.gave,
      c.loop-index.invariant.first,
      c.requires.room,
      c.give_line-first.ensures.many,
    ))

pub loop-index-preserved : goal.loop-index-preserved
loop-index-preserved g c =
    let long = c.args.self.now.lines.ok.0 in
    let below : c.loop-index.index < length c.args.self.now.lines.items = omega arith in
    record {
      gave =
          line_done c.args.self.now c.loop-index.self c.loop-index.index c.index.result.now below c.index.ensures
          c.loop-index.invariant.gave c.give_line-first.new.self c.give_line-first.ensures.gave;
      first =
          omega (
            arith,
            words_grow c.args.self.now c.loop-index.self c.loop-index.index c.index.result.now below c.index.ensures
                c.loop-index.invariant.gave,
            c.loop-index.invariant.first,
            c.give_line-first.ensures.many,
          );
    }
