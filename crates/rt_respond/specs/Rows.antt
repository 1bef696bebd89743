-- Rows that belong to items, one each and in order.
use Rattle.std.specs.Prelude.{List, [], ◌∷◌}

-- each row of a list belongs to the item of another at the same index
abbrev pub BelongEach : {A B : Type 0} → (A → B → Type 0) → List A → List B → Type 0
BelongEach Belongs [] [] = Unit {0}
BelongEach Belongs [] (row ∷ rows) = ⊥
BelongEach Belongs (x ∷ xs) [] = ⊥
BelongEach Belongs (x ∷ xs) (row ∷ rows) = Belongs x row × BelongEach Belongs xs rows
