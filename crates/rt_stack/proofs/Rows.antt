-- Worked examples, computed from the definitions alone.
use Rattle.std.proofs.Common.{◌≡◌, [], ◌∷◌, refl}
use Rattle.rt_stack.specs.Region.{Region, empty, region_after_push, region_after_pop, top, below}
use Rattle.rt_stack.specs.Top.{with_top}

-- two words, of which the first is written
abbrev handler : Region
handler = with_top (region_after_push (empty 6) 2) 2 (7 ∷ 0 ∷ [])

-- three words more, all written
abbrev nested : Region
nested = with_top (region_after_push handler 3) 3 (1 ∷ 2 ∷ 3 ∷ [])

pub pushed_words : region_after_push handler 3 ≡ record { words = 7 ∷ 0 ∷ 0 ∷ 0 ∷ 0 ∷ []; size = 6 }
pushed_words = refl

pub written_words : nested ≡ record { words = 7 ∷ 0 ∷ 1 ∷ 2 ∷ 3 ∷ []; size = 6 }
written_words = refl

pub last_words : top nested 4 ≡ 0 ∷ 1 ∷ 2 ∷ 3 ∷ []
last_words = refl

pub words_below : below nested 4 ≡ 7 ∷ []
words_below = refl

pub popped_words : region_after_pop nested 3 ≡ handler
popped_words = refl
