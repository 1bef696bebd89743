use Rattle.std.proofs.Common.{◌<◌, ℕ, suc, List, [], ◌∷◌, get_or}
use Rattle.std.specs.List.{AllByRecursion}
use Rattle.rt_trace.proofs.args.words.Goals as goal

all_words : (values : List ℕ) → ((i : ℕ) → get_or values i 0 < 4294967296)
    → AllByRecursion (λ value. value < 4294967296) values
all_words [] each = tt
all_words (v ∷ values) each = (each 0, all_words values (λ i. each (suc i)))

pub returns-clause-words : goal.returns-clause-words
returns-clause-words c = all_words c.args.values.now (λ i. let fits = c.type_inv.values i in fits.fits)
