use Rattle.std.proofs.Common.{◌≡◌, ◌-◌, length, get_or, refl, ap, ◌∙◌, arith}
use Rattle.std.proofs.lemmas.Option.{slice_get_read}
use Rattle.rt_lemmas.proofs.Indices.{there_is}
use Rattle.rt_app.specs.declared.app.Dispatcher.{Dispatcher}
use Rattle.rt_app.specs.Level.{levels}
use Rattle.rt_app.specs.View.{app_of}
use Rattle.rt_app.proofs.Sound.{accepted_are_sound}
use Rattle.rt_build.proofs.Levels.{as_many, dispatcher_there, dispatcher_is}
use Rattle.rt_build.proofs.tables.dispatcher_irq.Goals as goal

pub index-requires : goal.index-requires
index-requires c =
    let app = app_of c.args.plan.now.app.now in
    let one = there_is (levels app) c.args.index c.requires.of_app in
    let there = dispatcher_there app c.args.index one.0 one.1 (accepted_are_sound app c.requires.plan.accepted) in
    omega (
      arith,
      c.len.ensures,
      ap (λ p. length p.ceil.ready) c.plan.view_is,
      ap (λ p. length p.app.now.dispatchers.items) c.plan.view_is,
      as_many c.args.plan.now c.requires.plan.planned c.args.plan.now.ceil.ready refl,
      there,
    )

pub returns : goal.returns
returns c = λ p there.
    let app = app_of c.args.plan.now.app.now in
    let sound = accepted_are_sound app c.requires.plan.accepted in
    let above = length (levels app) - 1 - c.args.index in
    let same : c.len.result - 1 - c.args.index ≡ above = omega (
      arith,
      c.len.ensures,
      ap (λ p. length p.ceil.ready) c.plan.view_is,
      as_many c.args.plan.now c.requires.plan.planned c.args.plan.now.ceil.ready refl,
    ) in
    let d : Dispatcher = c.index.result.now in
    let read : d ≡ get_or app.dispatchers above d = c.index.ensures
    ∙ (ap (λ p. get_or p.app.now.dispatchers.items (c.len.result - 1 - c.args.index) d) c.plan.view_is
    ∙ ap (λ n. get_or app.dispatchers n d) same) in
    dispatcher_is app c.args.index p there sound d
    (slice_get_read app.dispatchers (length app.dispatchers) above d refl
    (dispatcher_there app c.args.index p there sound)
    read)
