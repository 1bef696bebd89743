-- What a take finds. It is this project's own.
use Rattle.std.specs.Prelude.{◌≡◌, ℕ, ◌⊎◌, List, [], ◌∷◌, ◌++◌, Option, Some, None}
use Rattle.rt_values.specs.declared.call.Given.{Given}
use Rattle.rt_values.specs.declared.call.Call.{Call}
use Rattle.rt_values.specs.declared.call.Call.TheVariants.{Give, Take}
use Rattle.rt_values.specs.History.{IsLegal}

-- these calls end with a give of this word
pub record EndsWithGive (calls : List Call) (word : ℕ) : Type 0 where
  pub earlier : List Call
  pub answer : Given
  pub is : calls ≡ earlier ++ Give word answer ∷ []

-- these calls end with a take
pub record EndsWithTake (calls : List Call) : Type 0 where
  pub earlier : List Call
  pub found : Option ℕ
  pub is : calls ≡ earlier ++ Take found ∷ []

-- In a legal history the call right before a take that finds a word gave that word. So what a take finds was given, it
-- is the latest that was given before the take, and no other take has found it.
abbrev pub TakesFindTheLatest : Type 0
TakesFindTheLatest = (before behind : List Call) (word : ℕ) (last : Option ℕ)
    → IsLegal (before ++ Take (Some word) ∷ behind) last → EndsWithGive before word

-- In a legal history a take that finds no word has a take right before it, or comes first. So no word is lost: each
-- give was found, or another give took its place, or it comes behind.
abbrev pub TakesFindNothingTwice : Type 0
TakesFindNothingTwice = (before behind : List Call) (last : Option ℕ)
    → IsLegal (before ++ Take None ∷ behind) last → (before ≡ []) ⊎ EndsWithTake before
