-- What handlers ask for, with the interrupts that ask for it: the same as what is needed of the loads.
use Rattle.std.proofs.Common.{◌≡◌, ℕ, ◌+◌, ◌*◌, ◌≤◌, true, false, if◌then◌else◌, List, [], ◌∷◌, ◌++◌, map}
use Rattle.std.proofs.Common.{slice_get, Option, Some, None, option_map, option_to_list, refl, sym, ap}
use Rattle.std.proofs.Common.{◌∙◌, arith}
use Rattle.std.specs.List.{AllByRecursion}
use Rattle.rt_ids.specs.Lists.{then_from}
use Rattle.rt_code.specs.Image.{Image}
use Rattle.rt_code.specs.declared.image.IrqRow.{IrqRow}
use Rattle.rt_rta.specs.Limits.{every_of}
use Rattle.rt_rta.specs.Response.{most_requests}
use Rattle.rt_rta.specs.declared.limits.Limit.{Limit}
use Rattle.rt_bounds.specs.declared.bound.HandlerBound.{HandlerBound}
use Rattle.rt_bounds.specs.declared.longest.Longest.{Longest}
use Rattle.rt_bounds.specs.declared.longest.Longest.TheVariants as longest
use Rattle.rt_image_times.specs.Response.{is_at, row_load, load_of, loads, plus, total, held_off, handlings}
use Rattle.rt_image_times.specs.Response.{load_needed, needed}
use Rattle.rt_image_times.specs.declared.load.Load.{Load}
use Rattle.rt_image_times.specs.declared.needed.Needed.{Needed}
use Rattle.rt_image_times.specs.declared.needed.Needed.TheVariants as needs

-- what the handler of an interrupt asks for
pub record Ask : Type 0 where
  pub irq : ℕ
  pub every : ℕ
  pub longest : Longest

abbrev pub load_by : Ask → Load
load_by a = record { every = a.every; longest = a.longest }

-- the steps of a bound that is a number
abbrev pub steps_in : Longest → ℕ
steps_in (longest.Steps n) = n
steps_in (longest.Loop a) = 0

abbrev pub IsNumber : Longest → Type 0
IsNumber (longest.Steps n) = Unit {0}
IsNumber (longest.Loop a) = ⊥

-- one handling, its take counted
abbrev pub handling : Ask → ℕ
handling a = steps_in a.longest + 1

-- what these ask for in so many core steps
abbrev pub demand : ℕ → List Ask → ℕ
demand steps [] = 0
demand steps (a ∷ all) = most_requests steps a.every * handling a + demand steps all

-- a sum that is a number is one of two numbers
pub record BothNumbers (one other : Needed) (sum : ℕ) : Type 0 where
  pub first : ℕ
  pub second : ℕ
  pub is_first : one ≡ needs.Steps first
  pub is_second : other ≡ needs.Steps second
  pub is_sum : sum ≡ first + second

abbrev steps_or_zero : Needed → ℕ
steps_or_zero (needs.Steps n) = n
steps_or_zero (needs.Loop a) = 0

both_numbers : (one other : Needed) (sum : ℕ) → plus one other ≡ needs.Steps sum → BothNumbers one other sum
both_numbers (needs.Loop a) other sum is = absurd (cc)
both_numbers (needs.Steps m) (needs.Loop a) sum is = absurd (cc)
both_numbers (needs.Steps m) (needs.Steps n) sum is = record {
  first = m;
  second = n;
  is_first = refl;
  is_second = refl;
  is_sum = sym (ap steps_or_zero is);
}

handlings_number : (count : ℕ) (own : Longest) (n : ℕ) → handlings count own ≡ needs.Steps n
    → IsNumber own × (n ≡ count * (steps_in own + 1))
handlings_number count (longest.Loop a) n is = absurd (cc)
handlings_number count (longest.Steps own) n is = (tt, sym (ap steps_or_zero is))

-- where a number is needed, each bound is one, and it is what these ask for
pub total_is : (steps : ℕ) (all : List Ask) (n : ℕ) → total (map (load_needed steps) (map load_by all)) ≡ needs.Steps n
    → AllByRecursion (λ a. IsNumber a.longest) all × (n ≡ demand steps all)
total_is steps [] n is = (tt, sym (ap steps_or_zero is))
total_is steps (a ∷ all) n is =
    let both = both_numbers (load_needed steps (load_by a)) (total (map (load_needed steps) (map load_by all))) n is in
    let here = handlings_number (most_requests steps a.every) a.longest both.first both.is_first in
    let rest = total_is steps all both.second both.is_second in (
      (here.0, rest.0),
      both.is_sum ∙ ap (λ k. k + both.second) here.1
          ∙ ap (λ k. most_requests steps a.every * handling a + k) rest.1,
    )

-- how long lower jobs hold off, where it is a number
pub record Covers (wait : Option Longest) (all : List Ask) (steps : ℕ) : Type 0 where
  pub off : ℕ
  pub is_off : held_off wait ≡ needs.Steps off
  pub numbers : AllByRecursion (λ a. IsNumber a.longest) all
  pub covers : off + demand steps all ≤ steps

pub covers_of : (wait : Option Longest) (all : List Ask) (steps need : ℕ)
    → needed (map load_by all) wait steps ≡ needs.Steps need → need ≤ steps → Covers wait all steps
covers_of wait all steps need is within =
    let both = both_numbers (held_off wait) (total (map (load_needed steps) (map load_by all))) need is in
    let rest = total_is steps all both.second both.is_second in
    let sum = both.is_sum in
    let asked = rest.1 in
    record {
      off = both.first;
      is_off = both.is_first;
      numbers = rest.0;
      covers = omega (arith, sum, asked, within);
    }

module _ (img : Image) (limits : List Limit) (value : ℕ) where
  abbrev pub ask_by : IrqRow → Longest → ℕ → Ask
  ask_by row own every = record { irq = row.number; every = every; longest = own }

  -- what the handler of a row asks for, where it counts
  abbrev pub row_ask : Longest → IrqRow → Option Ask
  row_ask own row =
      if is_at value row.handler then option_map (ask_by row own) (every_of limits row.number) else None

  abbrev pub ask_of : HandlerBound → Option Ask
  ask_of bound = then_from (slice_get img.irqs bound.index) (row_ask bound.longest)

  -- what all handlers ask for that count
  abbrev pub asks : List HandlerBound → List Ask
  asks [] = []
  asks (bound ∷ bounds) = option_to_list (ask_of bound) ++ asks bounds

  mapped : (o : Option Ask) (all : List Ask)
      → option_to_list (option_map load_by o) ++ map load_by all ≡ map load_by (option_to_list o ++ all)
  mapped None all = refl
  mapped (Some a) all = refl

  made : (own : Longest) (row : IrqRow) (o : Option ℕ)
      → option_map (λ every. record { every = every; longest = own }) o
      ≡ option_map load_by (option_map (ask_by row own) o)
  made own row None = refl
  made own row (Some every) = refl

  same_row : (own : Longest) (row : IrqRow) → row_load limits value own row ≡ option_map load_by (row_ask own row)
  same_row own row =
      elim (is_at value row.handler) as (λ b.
      (if b then option_map (λ every. record { every = every; longest = own }) (every_of limits row.number) else None)
      ≡ option_map load_by (if b then option_map (ask_by row own) (every_of limits row.number) else None)) [
        | true ↦ made own row (every_of limits row.number)
        | false ↦ refl
      ]

  same_load : (own : Longest) (o : Option IrqRow)
      → then_from o (row_load limits value own) ≡ option_map load_by (then_from o (row_ask own))
  same_load own None = refl
  same_load own (Some row) = same_row own row

  -- they are the loads
  pub loads_are : (bounds : List HandlerBound) → loads img limits value bounds ≡ map load_by (asks bounds)
  loads_are [] = refl
  loads_are (bound ∷ bounds) =
      ap (λ (ls : List Load). option_to_list (load_of img limits value bound) ++ ls) (loads_are bounds)
      ∙ ap (λ (o : Option Load). option_to_list o ++ map load_by (asks bounds))
      (same_load bound.longest (slice_get img.irqs bound.index))
      ∙ mapped (ask_of bound) (asks bounds)
