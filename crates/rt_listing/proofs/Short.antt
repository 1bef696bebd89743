-- What a loop has shown of the elements so far.
use Rattle.std.proofs.Common.{◌≡◌, ℕ, ◌+◌, ◌<◌, List, All, length, take, get_or, subst}
use Rattle.std.proofs.lemmas.List.Elements.{All-more}

-- what holds of the rows so far and of this one
pub one_more : {X : Type 0} (P : X → Type 0) (xs : List X) (i : ℕ) (x : X) → i < length xs → x ≡ get_or xs i x
    → All P (take i xs) → P x → All P (take (i + 1) xs)
one_more P xs i x below is before here = All-more P xs i x below before (subst P is here)
