use Rattle.std.proofs.Common.{◌/◌, None, ap, ◌∙◌, refl, arith}
use Rattle.rt_stack.specs.Region.{Region, region_after_push}
use Rattle.rt_context.specs.Moves.{thread}
use Rattle.rt_context.specs.Inside.Parts.{Represents}
use Rattle.rt_context.proofs.Representing.{represented, kept}
use Rattle.rt_context.proofs.Entering.{represents_thread}
use Rattle.rt_context.proofs.frames.Frames.new.Goals as goal
use Rattle.rt_context.proofs.frames.Frames.new.Goals.{After-new-2}

represents : (c : After-new-2) → Represents (thread (c.args.stack_bytes / 4) c.args.entry c.args.thread_words)
    (record {
      region = c.push.new.self;
      entry = c.args.entry;
      frame = c.args.thread_words;
      caller = None;
      callers =
          c.new-2.result;
    })
represents c =
    represents_thread (c.args.stack_bytes / 4) c.args.entry c.args.thread_words _ (omega arith) c.requires.basic
    (c.push.ensures ∙ ap (λ (r : Region). region_after_push r c.args.thread_words) c.in_ok-region.ensures.empty)
    refl refl refl c.new-2.ensures

pub invariant_of-result : goal.invariant_of-result
invariant_of-result c = kept _ _ (represents c)

pub returns : goal.returns
returns c = represented _ _ (represents c)
