use Rattle.std.proofs.Common.{◌<◌, length, arith, ◌∙◌}
use Rattle.std.proofs.lemmas.List.{get_or_read}
use Rattle.std.proofs.lemmas.Option.{slice_get_within}
use Rattle.rt_app.specs.Level.{levels}
use Rattle.rt_app.specs.View.{app_of}
use Rattle.rt_build.specs.Inside.Code.{entries_of}
use Rattle.rt_build.proofs.Entries.{dispatcher_entry}
use Rattle.rt_build.proofs.Served.{level_row_is, level_within}
use Rattle.rt_build.proofs.tables.dispatcher.Goals as goal

pub hw-requires-clause-least : goal.hw-requires-clause-least
hw-requires-clause-least c =
    (level_within (app_of c.args.plan.now.app.now) c.requires.plan.accepted c.args.index c.args.level
    c.requires.level).0

pub hw-requires-clause-greatest : goal.hw-requires-clause-greatest
hw-requires-clause-greatest c =
    (level_within (app_of c.args.plan.now.app.now) c.requires.plan.accepted c.args.index c.args.level
    c.requires.level).1

pub index-requires : goal.index-requires
index-requires c =
    let within = slice_get_within (levels (app_of c.args.plan.now.app.now)) c.args.index c.args.level
    c.requires.level in
    omega (arith, c.requires.entries.of_levels, c.args.code.now.dispatchers.ok.0)

pub returns : goal.returns
returns c =
    let app = app_of c.args.plan.now.app.now in
    let within = slice_get_within (levels app) c.args.index c.args.level c.requires.level in
    let long : c.args.index < length c.args.code.now.dispatchers.items = omega (arith, c.requires.entries.of_levels) in
    level_row_is app (entries_of app c.args.code.now) c.args.level c.hw.result c.index.result.now c.hw.ensures
    (get_or_read c.args.code.now.dispatchers.items c.args.index c.index.result.now long c.index.ensures 0
    ∙ dispatcher_entry app c.args.code.now c.args.index c.args.level c.requires.level)
