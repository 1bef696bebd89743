use Rattle.std.proofs.Common.{◌≡◌, ap, arith}
use Rattle.rt_native.specs.Inside.Laid.{Laid}
use Rattle.rt_native.proofs.Ends.{laid_order}
use Rattle.rt_native.proofs.program.text.Goals as goal

pub overflow_sub-count : goal.overflow_sub-count
overflow_sub-count c =
    let order = laid_order c.args.image.now c.args.target.now c.args.layout.now c.requires in
    let end : c.layout.inside.end ≡ c.args.layout.now.end = ap (λ (l : Laid). l.end) c.layout.view_is in
    let load : c.layout.inside.load ≡ c.args.layout.now.load = ap (λ (l : Laid). l.load) c.layout.view_is in
    omega arith
