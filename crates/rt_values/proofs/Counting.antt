-- What was raised was found or waits.
use Rattle.std.proofs.Common.{◌≡◌, ◌≢◌, ℕ, ◌+◌, List, [], ◌∷◌, Option, Some, None, refl, ap, Bool, cond, count_by}
use Rattle.std.proofs.Common.{arith}
use Rattle.std.proofs.lemmas.List.Sums.{sum_by-cons}
use Rattle.rt_values.specs.declared.call.Given.TheVariants.{Raised, Merged}
use Rattle.rt_values.specs.declared.call.Call.{Call}
use Rattle.rt_values.specs.declared.call.Call.TheVariants.{Give, Take}
use Rattle.rt_values.specs.Account.{finds, found_count, raised_count, raises, waiting_count}
use Rattle.rt_values.specs.History.{LeavesWord, OneHistory, gives, takes}

-- the first call, and those behind it
first : (test : Call → Bool) (c : Call) (calls : List Call) → count_by test (c ∷ calls)
    ≡ cond (test c) 1 0 + count_by test calls
first test c calls = sum_by-cons (λ x. cond (test x) 1 0) c calls

one_waits : (waits : Option ℕ) → waits ≢ None → waiting_count waits ≡ 1
one_waits None some = absurd (some refl)
one_waits (Some word) some = refl

balance : (waits last : Option ℕ) (history : List Call) → LeavesWord waits history last
    → raised_count history + waiting_count waits ≡ found_count history + waiting_count last
balance waits last [] h = omega (arith, ap waiting_count h)
balance waits last (Give word Raised ∷ calls) h =
    omega (
      arith,
      first raises (Give word Raised) calls,
      first finds (Give word Raised) calls,
      balance (Some word) last calls h.1,
      ap waiting_count h.0,
    )
balance waits last (Give word Merged ∷ calls) h =
    omega (
      arith,
      first raises (Give word Merged) calls,
      first finds (Give word Merged) calls,
      balance (Some word) last calls h.1,
      one_waits waits h.0,
    )
balance waits last (Take None ∷ calls) h =
    omega (
      arith,
      first raises (Take None) calls,
      first finds (Take None) calls,
      balance None last calls h.1,
      ap waiting_count h.0,
    )
balance waits last (Take (Some word) ∷ calls) h =
    omega (
      arith,
      first raises (Take (Some word)) calls,
      first finds (Take (Some word)) calls,
      balance None last calls h.1,
      ap waiting_count h.0,
    )

-- each side counts its own calls
raised_by_gives : (history : List Call) → raised_count (gives history) ≡ raised_count history
raised_by_gives [] = refl
raised_by_gives (Give word Raised ∷ calls) =
    omega (
      arith,
      raised_by_gives calls,
      first raises (Give word Raised) calls,
      first raises (Give word Raised) (gives calls),
    )
raised_by_gives (Give word Merged ∷ calls) = raised_by_gives calls
raised_by_gives (Take found ∷ calls) = raised_by_gives calls

found_by_takes : (history : List Call) → found_count (takes history) ≡ found_count history
found_by_takes [] = refl
found_by_takes (Give word answer ∷ calls) = found_by_takes calls
found_by_takes (Take None ∷ calls) = found_by_takes calls
found_by_takes (Take (Some word) ∷ calls) =
    omega (
      arith,
      found_by_takes calls,
      first finds (Take (Some word)) calls,
      first finds (Take (Some word)) (takes calls),
    )

pub balanced : (given taken last : List Call) (left : Option ℕ) → OneHistory given taken last left
    → raised_count given ≡ found_count taken + waiting_count left
balanced given taken last left one =
    omega (
      arith,
      balance None left one.history one.legal,
      raised_by_gives one.history,
      found_by_takes one.history,
      ap raised_count one.gives_are,
      ap found_count one.takes_are,
    )
