-- The running frame of fields that represent frames, and what is below it.
use Rattle.std.proofs.Common.{◌≡◌, ℕ, ◌+◌, ◌-◌, ◌≤◌, ◌↔◌, Bool, IsTrue, nat_le, List, ◌++◌, length, take, drop, refl}
use Rattle.std.proofs.Common.{ap, subst, ◌∙◌, arith, append_assoc}
use Rattle.std.proofs.lemmas.Bool.Decides.{nat_tests}
use Rattle.rt_stack.specs.Region.{HasRoomFor, top, below, region_after_pop}
use Rattle.rt_stack.specs.Region.{used_words}
use Rattle.rt_context.specs.declared.frames.Frames.TheInside.{Inside}
use Rattle.rt_code.specs.Stack.{words_of}
use Rattle.rt_context.specs.Frames.{Frames, words_below, frames_in_use}
use Rattle.rt_context.specs.Moves.{has_room}
use Rattle.rt_context.specs.Inside.Parts.{frames, Represents, IsRepresented}
use Rattle.rt_context.proofs.Representing.{last_of-append, without-append}
use Rattle.rt_context.proofs.Counting.{words_are_counted}

-- the frames of a value represent its fields
pub seen : (f : Frames) (c : Inside) → IsRepresented c → frames c ≡ f → Represents f c
seen f c s is = subst (λ (g : Frames). Represents g c) is s

-- the running frame is on top of the rest
module _ (f : Frames) (c : Inside) (s : Represents f c) where
  rest : List ℕ
  rest = words_below f.entry f.below ++ words_of f.caller

  regrouped : c.region.words ≡ rest ++ f.slots
  unfolding rest
  regrouped = s.represented ∙ simp append_assoc

  pub top_is : top c.region c.frame ≡ f.slots
  unfolding rest
  top_is = (λ i. drop (length (regrouped i) - s.frame i) (regrouped i))
      ∙ last_of-append (length f.slots) rest f.slots refl

  pub below_is : below c.region c.frame ≡ words_below f.entry f.below ++ words_of f.caller
  unfolding rest
  below_is = (λ i. take (length (regrouped i) - s.frame i) (regrouped i))
      ∙ without-append (length f.slots) rest f.slots refl

  pub used_is : used_words c.region ≡ frames_in_use f
  used_is = ap length s.represented ∙ words_are_counted f s.basic

  pub popped_is : region_after_pop c.region c.frame ≡ record {
    words = words_below f.entry f.below ++ words_of f.caller;
    size = f.size;
  }
  popped_is = λ i. record { words = below_is i; size = s.size i }

room_test : (r : Bool) (m n size : ℕ) → (IsTrue r ↔ (m + n ≤ size)) → r ≡ nat_le (m + n) size
room_test r m n size is = grind (arith, nat_tests)

-- the region's test is the frames'
pub has_room_is : (f : Frames) (c : Inside) (n : ℕ) (r : Bool) → Represents f c → (IsTrue r ↔ HasRoomFor c.region n) → r
    ≡ has_room f n
has_room_is f c n r s is =
    room_test r (used_words c.region) n c.region.size is ∙ (λ i. nat_le (used_is f c s i + n) (s.size i))

pub fits_from_room : (f : Frames) (c : Inside) (n : ℕ) → Represents f c → IsTrue (has_room f n) → HasRoomFor c.region n
fits_from_room f c n s is = let e = used_is f c s in let size = s.size in grind (arith, nat_tests)
