use Rattle.std.proofs.Common.{◌*◌, ap, ◌∙◌}
use Rattle.rt_context.proofs.Running.{seen, used_is}
use Rattle.rt_context.proofs.frames.Frames.depth.Goals as goal

pub returns-clause-bytes : goal.returns-clause-bytes
returns-clause-bytes c =
    let s = seen c.args.self.now c.self.inside c.self.invariant c.self.view_is in
    ap (λ n. 4 * n) (c.used_words.ensures.words ∙ used_is c.args.self.now c.self.inside s)
