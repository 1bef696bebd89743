use Rattle.std.proofs.Common.{◌≡◌, ◌*◌, ◌%◌, ◌<◌, ◌≤◌, true, false, get_or, Some, None, IsSome, IfSome, ap, subst, ◌∙◌}
use Rattle.std.proofs.Common.{arith}
use Rattle.rt_nvic.specs.declared.sizes.TheConstants.{LEAVES}
use Rattle.rt_nvic.proofs.Precedence.{pick}
use Rattle.rt_nvic.proofs.Taking.{sizes_of, then_within, then_picked, none_picked}
use Rattle.rt_nvic.proofs.nvic.Nvic.pick.Goals as goal

pub unreachable-requires : goal.unreachable-requires
unreachable-requires c =
    let is = c.self.inside in
    let n = c.args.self.now in
    let low : get_or is.nodes 1 0 < c.args.exec * LEAVES =
    let e = c.from-limit.ensures in let h = c.if-first-limit.false in omega arith in
    let within = then_within is.priorities is.pending is.active is.top is.nodes n c.self.view_is c.self.invariant
    c.args.exec c.ranges.exec.fits low in
    absurd (let some : false ≡ true = subst IsSome c.in_default.is (c.new.ensures.in_range.1 within) in cc)

pub returns-then-first-limit : goal.returns-then-first-limit
returns-then-first-limit c =
    let is = c.self.inside in
    let n = c.args.self.now in
    let sizes = sizes_of is.priorities is.pending is.active is.top is.nodes n c.self.view_is c.self.invariant in
    let low : c.args.exec * LEAVES ≤ get_or is.nodes 1 0 =
    let e = c.from-limit.ensures in let h = c.if-first-limit.true in omega arith in
    let value = none_picked is.priorities is.pending is.active is.top is.nodes n c.self.view_is c.self.invariant
    c.args.exec c.ranges.exec.fits low in
    let taken = pick n c.args.exec None sizes value in
    record { value = value; ready = taken.ready; first = taken.first; none = taken.none; sizes = sizes }

pub returns : goal.returns
returns c =
    let is = c.self.inside in
    let n = c.args.self.now in
    let sizes = sizes_of is.priorities is.pending is.active is.top is.nodes n c.self.view_is c.self.invariant in
    let low : get_or is.nodes 1 0 < c.args.exec * LEAVES =
    let e = c.from-limit.ensures in let h = c.if-first-limit.false in omega arith in
    let picked = then_picked is.priorities is.pending is.active is.top is.nodes n c.self.view_is c.self.invariant
    c.args.exec c.ranges.exec.fits low in
    let number : c.in-Some.irq ≡ get_or is.nodes 1 0 % LEAVES =
    subst (λ found. IfSome found (λ irq. irq ≡ get_or is.nodes 1 0 % LEAVES)) c.in-Some.is c.new.ensures.value in
    let value = ap Some number ∙ picked in
    let taken = pick n c.args.exec (Some c.in-Some.irq) sizes value in
    record { value = value; ready = taken.ready; first = taken.first; none = taken.none; sizes = sizes }
