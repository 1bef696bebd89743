use Rattle.std.proofs.Common.{◌<◌, length, get_or, None, refl, ap, sym, ◌∙◌, arith}
use Rattle.rt_respond.specs.Handlers.{is_at}
use Rattle.rt_respond.specs.Number.{times}
use Rattle.rt_respond.proofs.Demand.{place_within, asks_nothing, asks_not, asks_so}
use Rattle.rt_respond.proofs.response.limit_demand.Goals as goal

pub returns-in_default : goal.returns-in_default
returns-in_default c = λ app what asked.
    asks_nothing app c.args.asked.now.limits.now what c.args.asked.now.this.now c.args.steps c.args.limit.now
    c.args.asked.now.all.handlers.now c.args.asked.now.all.works.now asked.handlers_are asked.works_are
    c.in_default.ensures

pub bounds-asked-place-then-is_at : goal.bounds-asked-place-then-is_at
bounds-asked-place-then-is_at c =
    let long = c.requires.tables.long in
    let within : c.in-Some.place < length c.args.asked.now.all.handlers.now =
    place_within c.args.limit.now c.args.asked.now.all.handlers.now c.in-Some.place c.in-Some.ensures in
    omega (arith, long, within)

pub returns-then-is_at : goal.returns-then-is_at
returns-then-is_at c = λ app what asked.
    c.times.ensures
    ∙ ap (λ n. times n (get_or c.args.asked.now.all.works.now c.in-Some.place None)) c.most_requests.ensures
    ∙ asks_so app c.args.asked.now.limits.now what c.args.asked.now.this.now c.args.steps c.args.limit.now
    c.args.asked.now.all.handlers.now c.args.asked.now.all.works.now asked.handlers_are asked.works_are
    c.in-Some.place c.index-asked-place.result (get_or c.args.asked.now.all.works.now c.in-Some.place None) None
    c.in-Some.ensures
    (place_within c.args.limit.now c.args.asked.now.all.handlers.now c.in-Some.place c.in-Some.ensures)
    c.index-asked-place.is refl
    (ap (is_at c.args.asked.now.this.now) c.index-asked-place.is ∙ sym c.is_at.ensures ∙ c.if-is_at.true)

pub returns-else-is_at : goal.returns-else-is_at
returns-else-is_at c = λ app what asked.
    asks_not app c.args.asked.now.limits.now what c.args.asked.now.this.now c.args.steps c.args.limit.now
    c.args.asked.now.all.handlers.now c.args.asked.now.all.works.now asked.handlers_are asked.works_are
    c.in-Some.place c.index-asked-place.result c.in-Some.ensures
    (place_within c.args.limit.now c.args.asked.now.all.handlers.now c.in-Some.place c.in-Some.ensures)
    c.index-asked-place.is
    (ap (is_at c.args.asked.now.this.now) c.index-asked-place.is ∙ sym c.is_at.ensures ∙ c.if-is_at.false)
