-- A worked history, over the definitions alone.
use Rattle.std.proofs.Common.{◌≡◌, ℕ, List, [], ◌∷◌, replicate, refl}
use Rattle.rt_words.specs.declared.call.Pended.TheVariants.{Raised, Merged}
use Rattle.rt_words.specs.declared.call.Call.TheVariants.{Latch, Pend}
use Rattle.rt_words.specs.Object.{pending_bit}
use Rattle.rt_words.specs.History.{Entry, IsLegal, part}
use Rattle.rt_words.specs.Account.{raised_count, merged_count, latched_count}
use Rattle.rt_words.specs.Ending.{calls_in}
use Rattle.rt_words.proofs.Histories.{entry}

-- line 0 pends interrupt 3 twice, the first line latches word 0, and line 0 pends it again
abbrev history : List Entry
history = entry 0 (Pend 3 Raised) ∷ entry 0 (Pend 3 Merged) ∷ entry 255 (Latch 0 8) ∷ entry 0 (Pend 3 Raised) ∷ []

abbrev left : List ℕ
left = 8 ∷ replicate 31 0

is_legal : IsLegal history left
is_legal = (refl, (refl, (refl, (refl, refl))))

first_part : part history 255 ≡ Latch 0 8 ∷ []
first_part = refl

counts : (raised_count 3 (calls_in history) ≡ 2) × (merged_count 3 (calls_in history) ≡ 1)
    × (latched_count 3 (calls_in history) ≡ 1) × (pending_bit left 3 ≡ 1)
counts = (refl, refl, refl, refl)
