-- What fields represent after words are written in the running frame.
use Rattle.std.proofs.Common.{◌≡◌, ℕ, List, ◌++◌, length, reverse, sym, ap, ◌∙◌, append_assoc}
use Rattle.rt_stack.specs.Region.{Region, below}
use Rattle.rt_context.specs.declared.frames.Frames.TheInside.{Inside}
use Rattle.rt_code.specs.Stack.{words_of}
use Rattle.rt_context.specs.Frames.{Frames, words_below}
use Rattle.rt_context.specs.Inside.Parts.{Represents}
use Rattle.rt_context.proofs.Running.{below_is}

abbrev pub written : Frames → List ℕ → Frames
written f ws = record f { slots = ws }

pub represents_written : (f : Frames) (c d : Inside) (ws : List ℕ) → Represents f c → length ws ≡ c.frame
    → d.region ≡ record c.region { words = below c.region c.frame ++ ws } → d.entry ≡ c.entry → d.frame ≡ c.frame
    → d.caller ≡ c.caller → d.callers ≡ c.callers → Represents (written f ws) d
represents_written f c d ws s long region entry frame caller callers =
    record {
      represented = ap (λ (r : Region). r.words) region ∙ ap (λ rest. rest ++ ws) (below_is f c s)
          ∙ append_assoc (words_below f.entry f.below) (words_of f.caller) ws;
      size = ap (λ (r : Region). r.size) region ∙ s.size;
      entry = entry ∙ s.entry;
      frame = frame ∙ sym long;
      caller = caller ∙ s.caller;
      callers = ap (λ cs. reverse cs.items) callers ∙ s.callers;
      small = s.small;
      basic = s.basic;
      returns = s.returns;
      below_return = s.below_return;
    }

-- all else of the frames stays
pub rest_is : (f g : Frames) (ws : List ℕ) → g ≡ written f ws → g ≡ written f g.slots
rest_is f g ws is = is ∙ sym (ap (λ (h : Frames). written f h.slots) is)
