-- The nine slots that the code of a spawn works in, as words: the arguments, and what is worked with. A place or a
-- message as a word is after the count and the index in the ring, a number beside these, and what the mask was.
use Rattle.rt_gen_queue.proofs.Vocabulary.{List, [], ℕ, ◌∷◌}

pub record Arguments : Type 0 where
  pub first : ℕ
  pub second : ℕ
  pub third : ℕ
  pub fourth : ℕ

pub record Scratch : Type 0 where
  pub count : ℕ
  pub index : ℕ
  pub word : ℕ
  pub number : ℕ
  pub mask : ℕ

abbrev pub words : Arguments → Scratch → List ℕ
words a s = a.first ∷ a.second ∷ a.third ∷ a.fourth ∷ s.count ∷ s.index ∷ s.word ∷ s.number ∷ s.mask ∷ []

abbrev pub listed : Arguments → List ℕ
listed a = a.first ∷ a.second ∷ a.third ∷ a.fourth ∷ []
