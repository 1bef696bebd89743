-- The marks of a text of the grammar: its tokens, each with the limit that it passes, if it passes one; and the end
-- of each whole expression, where its depth is judged.
use Rattle.std.specs.Prelude.{◌≡◌, ℕ, Bool, Option, None, Some}
use Rattle.rt_ids.specs.declared.limit.Limit.{Limit}
use Rattle.rt_ids.specs.declared.limit.Limit.TheVariants as limit
use Rattle.rt_lex.specs.Token.{Token}

-- what is marked in a text: a token with the limit that it passes, or the end of a whole expression
pub data Mark : Type 0 where
  Takes : Token → Option Limit → Mark
  -- whether the expression is a comparison, and the offset of its first token where it is too deep
  Ends : Bool → Option ℕ → Mark

-- the limit that is passed here, with the offset that it is refused at: the token's, or the expression's first token's
abbrev pub limit_of : Mark → Option (ℕ × Limit)
limit_of (Takes t None) = None
limit_of (Takes t (Some passed)) = Some (t.at, passed)
limit_of (Ends compares None) = None
limit_of (Ends compares (Some first)) = Some (first, limit.Depth)

-- no limit is passed
abbrev pub IsWithin : Mark → Type 0
IsWithin mark = limit_of mark ≡ None
