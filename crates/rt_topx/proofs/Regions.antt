-- The memories of a chip are regions for a program.
use Rattle.std.proofs.Common.{◌≡◌, ℕ, ◌≤◌, ◌&&◌, ◌==◌, ◌%◌, ◌+◌, nat_le, nat_lt, true, Bool, List, [], ◌∷◌, ◌++◌, find}
use Rattle.std.proofs.Common.{Option, Some, None, refl, arith}
use Rattle.std.specs.List.{AllByRecursion}
use Rattle.std.proofs.lemmas.Bool.{leb-true, eqb-true}
use Rattle.rt_lemmas.proofs.Bools.{and_left, and_right}
use Rattle.rt_lemmas.proofs.Membership.{all_at}
use Rattle.rt_lines.proofs.Found.{found_at}
use Rattle.rt_app.specs.Tree.{App}
use Rattle.rt_native.specs.Fitting.{IsRegion}
use Rattle.rt_target.specs.Chip.{TABLE, STACK, SYSTEM, is_memory_at, is_in_range, CanGoOn, AreFacts}
use Rattle.rt_target.specs.declared.fact.Fact.{Fact}
use Rattle.rt_target.specs.declared.fact.Fact.TheVariants.{Flash, Ram, Port, Tick, Bits, Word, Call}
use Rattle.rt_topx.specs.Target.{region_of}

-- facts that can come one behind the other are in range
pub in_ranges : (app : App) (before facts : List Fact) → CanGoOn app before facts
    → AllByRecursion (λ f. is_in_range f ≡ true) facts
in_ranges app before [] on = tt
in_ranges app before (f ∷ facts) on = (on.0.range, in_ranges app (before ++ f ∷ []) facts on.1)

-- memory with an alignment begins at a multiple of it, and ends before the system's addresses
pub memory_at : (alignment a n : ℕ) → is_memory_at alignment a n ≡ true
    → (a % alignment ≡ 0) × (a + n ≤ SYSTEM)
memory_at alignment a n is =
    let front = and_left (a % alignment == 0 && nat_lt 0 n) (nat_le (a + n) SYSTEM) is in (
      eqb-true (a % alignment) 0 (and_left (a % alignment == 0) (nat_lt 0 n) front),
      leb-true (a + n) SYSTEM (and_right (a % alignment == 0 && nat_lt 0 n) (nat_le (a + n) SYSTEM) is),
    )

pub region : (f : Fact) → is_in_range f ≡ true → IsRegion (region_of (Some f))
region (Flash a n) is = let memory = memory_at TABLE a n is in (omega (arith, memory.0), omega (arith, memory.1))
region (Ram a n) is =
    let memory = memory_at STACK a n (and_right (nat_lt 0 a) (is_memory_at STACK a n) is) in
    (memory.0, omega (arith, memory.1))
region (Port a) is = (refl, omega arith)
region (Tick n) is = (refl, omega arith)
region (Bits n) is = (refl, omega arith)
region (Word r a) is = (refl, omega arith)
region (Call irq) is = (refl, omega arith)

-- the memory of the first fact that passes a test is a region
pub is_region : (app : App) (facts : List Fact) → AreFacts app facts → (test : Fact → Bool)
    → IsRegion (region_of (find test facts))
is_region app facts are test = by (find test facts) refl
  where
    by : (o : Option Fact) → find test facts ≡ o → IsRegion (region_of o)
    by None is = (refl, omega arith)
    by (Some f) is =
        let place = found_at test facts f is in
        region f (all_at (λ f. is_in_range f ≡ true) facts place.0 f (in_ranges app [] facts are) place.1)

low : (f : Fact) → is_in_range f ≡ true → (region_of (Some f)).address + (region_of (Some f)).size ≤ SYSTEM
low (Flash a n) is = (memory_at TABLE a n is).1
low (Ram a n) is = (memory_at STACK a n (and_right (nat_lt 0 a) (is_memory_at STACK a n) is)).1
low (Port a) is = omega arith
low (Tick n) is = omega arith
low (Bits n) is = omega arith
low (Word r a) is = omega arith
low (Call irq) is = omega arith

-- and ends before the system's addresses
pub is_low : (app : App) (facts : List Fact) → AreFacts app facts → (test : Fact → Bool)
    → (region_of (find test facts)).address + (region_of (find test facts)).size ≤ SYSTEM
is_low app facts are test = by (find test facts) refl
  where
    by : (o : Option Fact) → find test facts ≡ o → (region_of o).address + (region_of o).size ≤ SYSTEM
    by None is = omega arith
    by (Some f) is =
        let place = found_at test facts f is in
        low f (all_at (λ f. is_in_range f ≡ true) facts place.0 f (in_ranges app [] facts are) place.1)
