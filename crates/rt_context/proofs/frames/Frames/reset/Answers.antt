use Rattle.std.proofs.Common.{◌≡◌, ℕ, ◌-◌, length, take, None, ap, ap₂, ◌∙◌, refl, arith}
use Rattle.rt_stack.specs.Region.{Region, empty, region_after_push}
use Rattle.rt_context.specs.Frames.{Frames}
use Rattle.rt_context.specs.Moves.{thread}
use Rattle.rt_context.specs.Inside.Parts.{Represents}
use Rattle.rt_context.proofs.Representing.{represented, kept}
use Rattle.rt_context.proofs.Entering.{represents_thread}
use Rattle.rt_context.proofs.frames.Frames.reset.Goals as goal
use Rattle.rt_context.proofs.frames.Frames.reset.Goals.{After-clear}

represents : (c : After-clear) → Represents (thread c.self.inside.region.size c.self.inside.entry c.args.thread_words)
    (record {
      region = c.push.new.self;
      entry = c.self.inside.entry;
      frame = c.args.thread_words;
      caller = None;
      callers = c.clear.new.self;
    })
represents c =
    let is = c.self.inside in
    let s = c.self.invariant in
    let none : length is.region.words - c.used_words.result ≡ 0 = omega (arith, c.used_words.ensures.words) in
    let emptied : c.pop.new.self ≡ empty is.region.size =
    c.pop.ensures ∙ ap (λ (k : ℕ). record { words = take k is.region.words; size = is.region.size }) none in
    represents_thread is.region.size is.entry c.args.thread_words _ (omega (arith, s.size, s.small))
    (omega (arith, s.entry, s.basic))
    (c.push.ensures ∙ ap (λ (r : Region). region_after_push r c.args.thread_words) emptied)
    refl refl refl c.clear.ensures

pub invariant_of-self : goal.invariant_of-self
invariant_of-self c = kept _ _ (represents c)

pub returns : goal.returns
returns c =
    let s = c.self.invariant in
    represented _ _ (represents c)
    ∙ ap₂ (λ (size entry : ℕ). thread size entry c.args.thread_words)
    (s.size ∙ ap (λ (f : Frames). f.size) c.self.view_is)
    (s.entry ∙ ap (λ (f : Frames). f.entry) c.self.view_is)
