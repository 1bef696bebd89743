-- A worked history, over the definitions alone.
use Rattle.std.proofs.Common.{◌≡◌, List, [], ◌∷◌, Some, None, refl, sym}
use Rattle.std.proofs.lemmas.Option.{none-some}
use Rattle.rt_values.specs.declared.call.Given.TheVariants.{Raised, Merged}
use Rattle.rt_values.specs.declared.call.Call.{Call}
use Rattle.rt_values.specs.declared.call.Call.TheVariants.{Give, Take}
use Rattle.rt_values.specs.Account.{found_count, merged_count, raised_count}
use Rattle.rt_values.specs.History.{IsLegal, gives, takes}

-- 65 is given and lost, for 66 takes its place; 66 is found, once; 67 is left
abbrev history : List Call
history = Give 65 Raised ∷ Give 66 Merged ∷ Take (Some 66) ∷ Take None ∷ Give 67 Raised ∷ []

is_legal : IsLegal history (Some 67)
is_legal = (refl, ((λ e. none-some 65 (sym e)), (refl, (refl, (refl, refl)))))

sides : (gives history ≡ Give 65 Raised ∷ Give 66 Merged ∷ Give 67 Raised ∷ [])
    × (takes history ≡ Take (Some 66) ∷ Take None ∷ [])
sides = (refl, refl)

counts : (raised_count history ≡ 2) × (merged_count history ≡ 1) × (found_count history ≡ 1)
counts = (refl, refl, refl)
