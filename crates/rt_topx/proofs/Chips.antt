-- What facts of a chip say of where a program may lie: memories are apart, and the port from RAM and from the core.
use Rattle.std.proofs.Common.{◌≡◌, ℕ, zero, suc, ◌+◌, ◌%◌, ◌<◌, ◌≤◌, ◌^◌, ◌⊎◌, ◌&&◌, ◌||◌, ◌==◌, nat_le, nat_lt, not}
use Rattle.std.proofs.Common.{Bool, true}
use Rattle.std.proofs.Common.{false, List, [], ◌∷◌, ◌++◌, length, find, Option, Some, None, refl, sym, ap}
use Rattle.std.proofs.Common.{subst}
use Rattle.std.proofs.Common.{◌∙◌, inl, inr, ⊎_elim, arith, slice_get}
use Rattle.std.specs.List.{list_any}
use Rattle.std.proofs.lemmas.Bool.{eqb-true, leb-false, ltb-false, ltb-true}
use Rattle.std.proofs.lemmas.Option.{none-some, same_Some}
use Rattle.rt_ids.specs.Lists.{is_some_and}
use Rattle.rt_lemmas.proofs.Bools.{and_left, and_right}
use Rattle.rt_lemmas.proofs.Lists.{found_passes}
use Rattle.rt_lemmas.proofs.Membership.{all_at}
use Rattle.rt_lines.proofs.Found.{found_at}
use Rattle.rt_app.specs.Tree.{App}
use Rattle.rt_native.specs.Target.{Target}
use Rattle.rt_native_runs.specs.Running.{IsChip}
use Rattle.rt_target.specs.Chip.{AreFacts, CanGoOn, begin_of, is_control, is_flash, is_in_range, is_memory}
use Rattle.rt_target.specs.Chip.{is_memory_at, is_port, is_ram}
use Rattle.rt_target.specs.Chip.{is_address, overlap}
use Rattle.rt_target.specs.Chip as chip
use Rattle.rt_target.specs.Reading.{wanting}
use Rattle.rt_target.specs.Setup.{Setup}
use Rattle.rt_target.specs.declared.fact.Fact.{Fact}
use Rattle.rt_target.specs.declared.fact.Fact.TheVariants.{Flash, Ram, Port, Tick, Bits, Word, Call}
use Rattle.rt_topx.specs.Target.{address_of, region_of, target_of}
use Rattle.rt_topx.proofs.Regions.{in_ranges, memory_at, region}
use Rattle.rt_topx.proofs.Saying.{flash_said, port_said, ram_said}

-- what is found of a kind
flash_is : (f : Fact) → is_flash f ≡ true → (a n : ℕ) × (f ≡ Flash a n)
flash_is (Flash a n) is = (a, n, refl)
flash_is (Ram a n) is = absurd cc
flash_is (Port a) is = absurd cc
flash_is (Tick n) is = absurd cc
flash_is (Bits n) is = absurd cc
flash_is (Word r a) is = absurd cc
flash_is (Call irq) is = absurd cc

ram_is : (f : Fact) → is_ram f ≡ true → (a n : ℕ) × (f ≡ Ram a n)
ram_is (Flash a n) is = absurd cc
ram_is (Ram a n) is = (a, n, refl)
ram_is (Port a) is = absurd cc
ram_is (Tick n) is = absurd cc
ram_is (Bits n) is = absurd cc
ram_is (Word r a) is = absurd cc
ram_is (Call irq) is = absurd cc

port_is : (f : Fact) → is_port f ≡ true → (a : ℕ) × (f ≡ Port a)
port_is (Flash a n) is = absurd cc
port_is (Ram a n) is = absurd cc
port_is (Port a) is = (a, refl)
port_is (Tick n) is = absurd cc
port_is (Bits n) is = absurd cc
port_is (Word r a) is = absurd cc
port_is (Call irq) is = absurd cc

some_is : (test : Fact → Bool) (o : Option Fact) → is_some_and test o ≡ true → (f : Fact) × (o ≡ Some f)
some_is test None is = absurd cc
some_is test (Some f) is = (f, refl)

-- none passes a test, so this one does not
none_passes : (test : Fact → Bool) (facts : List Fact) (i : ℕ) (f : Fact) → list_any test facts ≡ false
    → slice_get facts i ≡ Some f → test f ≡ false
none_passes test [] i f none at = absurd (none-some f at)
none_passes test (g ∷ facts) zero f none at =
    ap test (sym (same_Some g f at)) ∙ (either (test g) (list_any test facts) none).0
  where
    either : (a b : Bool) → (a || b) ≡ false → (a ≡ false) × (b ≡ false)
    either true b e = absurd (cc (e))
    either false b e = (refl, e)
none_passes test (g ∷ facts) (suc i) f none at = none_passes test facts i f (behind (test g)
    (list_any test facts) none) at
  where
    behind : (a b : Bool) → (a || b) ≡ false → b ≡ false
    behind true b e = absurd (cc (e))
    behind false b e = e

get_before : (before : List Fact) (f : Fact) (more : List Fact)
    → slice_get (before ++ f ∷ more) (length before) ≡ Some f
get_before [] f more = refl
get_before (x ∷ before) f more = get_before before f more

get_front : (before more : List Fact) (i : ℕ) (f : Fact) → slice_get before i ≡ Some f
    → slice_get (before ++ more) i ≡ Some f
get_front [] more i f at = absurd (none-some f at)
get_front (x ∷ before) more zero f at = at
get_front (x ∷ before) more (suc i) f at = get_front before more i f at

-- two facts, one of which is of memory, that have no byte in common
parts_apart : (e f : Fact) → (is_memory e || is_memory f) ≡ true → overlap e f ≡ false
    → (chip.end_of f ≤ begin_of e) ⊎ (chip.end_of e ≤ begin_of f)
parts_apart e f memory none =
    by (is_memory e || is_memory f) (nat_lt (begin_of e) (chip.end_of f)) (nat_lt (begin_of f) (chip.end_of e)) memory
    refl refl none
  where
    by : (m x y : Bool) → m ≡ true → nat_lt (begin_of e) (chip.end_of f) ≡ x
        → nat_lt (begin_of f) (chip.end_of e) ≡ y → (m && x && y) ≡ false
        → (chip.end_of f ≤ begin_of e) ⊎ (chip.end_of e ≤ begin_of f)
    by false x y is first second none = absurd (cc (is))
    by true false y is first second none = inl (ltb-false (begin_of e) (chip.end_of f) first)
    by true true false is first second none = inr (ltb-false (begin_of f) (chip.end_of e) second)
    by true true true is first second none = absurd (cc (none))

swapped : {A B : Type 0} → A ⊎ B → B ⊎ A
swapped (inl a) = inr a
swapped (inr b) = inl b

module _ (app : App) where
  -- a fact that comes behind others has no byte in common with them
  apart_before : (before facts : List Fact) → CanGoOn app before facts → (i j : ℕ) (e f : Fact)
      → slice_get before i ≡ Some e → slice_get facts j ≡ Some f → overlap f e ≡ false
  apart_before before [] on i j e f here there = absurd (none-some f there)
  apart_before before (g ∷ facts) on i zero e f here there =
      subst (λ h. overlap h e ≡ false) (same_Some g f there) (none_passes (overlap g) before i e on.0.apart here)
  apart_before before (g ∷ facts) on i (suc j) e f here there =
      apart_before (before ++ g ∷ []) facts on.1 i j e f (get_front before (g ∷ []) i e here) there

  apart_two : (before facts : List Fact) → CanGoOn app before facts → (i j : ℕ) (e f : Fact) → i < j
      → slice_get facts i ≡ Some e → slice_get facts j ≡ Some f → overlap f e ≡ false
  apart_two before [] on i j e f less here there = absurd (none-some e here)
  apart_two before (g ∷ facts) on i zero e f less here there = absurd (omega (arith, less))
  apart_two before (g ∷ facts) on zero (suc j) e f less here there =
      apart_before (before ++ g ∷ []) facts on.1 (length before) j e f
      (get_before before g [] ∙ here) there
  apart_two before (g ∷ facts) on (suc i) (suc j) e f less here there =
      apart_two (before ++ g ∷ []) facts on.1 i j e f (omega (arith, less)) here there

  module _ (facts : List Fact) (are : AreFacts app facts) where
    -- two that stand at different places
    apart : (i j : ℕ) (e f : Fact) → slice_get facts i ≡ Some e → slice_get facts j ≡ Some f → (i ≡ j → ⊥)
        → (is_memory e || is_memory f) ≡ true → (chip.end_of f ≤ begin_of e) ⊎ (chip.end_of e ≤ begin_of f)
    apart i j e f here there other memory = by (nat_lt i j) refl (nat_lt j i) refl
      where
        turned : (a b : Bool) → (a || b) ≡ true → (b || a) ≡ true
        turned true true is = refl
        turned true false is = refl
        turned false true is = refl
        turned false false is = absurd (cc (is))

        by : (b : Bool) → nat_lt i j ≡ b → (d : Bool) → nat_lt j i ≡ d
            → (chip.end_of f ≤ begin_of e) ⊎ (chip.end_of e ≤ begin_of f)
        by true less d later =
            swapped (parts_apart f e (turned (is_memory e) (is_memory f) memory)
            (apart_two [] facts are i j e f (ltb-true i j less) here there))
        by false none true later =
            parts_apart e f memory (apart_two [] facts are j i f e (ltb-true j i later) there here)
        by false none false never =
            let low = ltb-false i j none in let high = ltb-false j i never in
            absurd (other (omega (arith, low, high)))

    range_at : (i : ℕ) (f : Fact) → slice_get facts i ≡ Some f → is_in_range f ≡ true
    range_at i f at = all_at (λ g. is_in_range g ≡ true) facts i f (in_ranges app [] facts are) at

-- what the test of an address says
pub address_is : (a : ℕ) → is_address a ≡ true → (a < 2 ^ 32) × (a % 4 ≡ 0)
address_is a is = (
  ltb-true a (2 ^ 32) (and_left (nat_lt a (2 ^ 32)) (a % 4 == 0) is),
  eqb-true (a % 4) 0 (and_right (nat_lt a (2 ^ 32)) (a % 4 == 0) is),
)

-- the port is none of the registers of the core
no_register : (a : ℕ) → is_control a ≡ false → (a < 0xE000E000) ⊎ (0xE000F000 ≤ a)
no_register a is = by (nat_le 0xE000_E000 a) (nat_lt a 0xE000_F000) refl refl is
  where
    by : (x y : Bool) → nat_le 0xE000_E000 a ≡ x → nat_lt a 0xE000_F000 ≡ y → (x && y) ≡ false
        → (a < 0xE000E000) ⊎ (0xE000F000 ≤ a)
    by false y low high none = inl (let e = leb-false 0xE000_E000 a low in omega (arith, e))
    by true false low high none = inr (ltb-false a 0xE000_F000 high)
    by true true low high none = absurd (cc (none))

module _ (app : App) (setup : Setup) (are : AreFacts app setup.facts) (whole : wanting setup.facts ≡ None) where
  abbrev facts : List Fact
  facts = setup.facts

  -- with its memories and its port
  module _ (a n b k q : ℕ) (flash : find is_flash facts ≡ Some (Flash a n)) (ram : find is_ram facts ≡ Some (Ram b k))
      (port : find is_port facts ≡ Some (Port q)) where
    at_flash : (i : ℕ) × (slice_get facts i ≡ Some (Flash a n))
    at_flash = found_at is_flash facts (Flash a n) flash

    at_ram : (i : ℕ) × (slice_get facts i ≡ Some (Ram b k))
    at_ram = found_at is_ram facts (Ram b k) ram

    at_port : (i : ℕ) × (slice_get facts i ≡ Some (Port q))
    at_port = found_at is_port facts (Port q) port

    range : (i : ℕ) (f : Fact) → slice_get facts i ≡ Some f → is_in_range f ≡ true
    range i f at = range_at app facts are i f at

    differ : (i j : ℕ) (e f : Fact) (test : Fact → Bool) → test e ≡ true → test f ≡ false → slice_get facts i ≡ Some e
        → slice_get facts j ≡ Some f → i ≡ j → ⊥
    differ i j e f test passes fails here there same =
        let one : e ≡ f = same_Some e f (sym here ∙ ap (slice_get facts) same ∙ there) in
        let both : true ≡ false = sym passes ∙ ap test one ∙ fails in cc (both)

    abbrev the_target : Target
    the_target = record {
      flash = region_of (Some (Flash a n));
      ram = region_of (Some (Ram b k));
      port = q;
      tick = (target_of app setup).tick;
      inputs = (target_of app setup).inputs;
      calls = (target_of app setup).calls;
    }

    is_the_target : target_of app setup ≡ the_target
    is_the_target =
        ap (λ o. record (target_of app setup) { flash = region_of o }) flash
        ∙ ap (λ o. record (target_of app setup) { flash = region_of (Some (Flash a n)); ram = region_of o }) ram
        ∙ ap (λ o. record (target_of app setup) {
          flash = region_of (Some (Flash a n));
          ram = region_of (Some (Ram b k));
          port = address_of o;
        }) port

    the_chip : IsChip the_target
    the_chip =
        let port_range = range at_port.0 (Port q) at_port.1 in
        let address = and_left (is_address q) (not (is_control q)) port_range in
        let ram_range = range at_ram.0 (Ram b k) at_ram.1 in
        let ram_memory =
        memory_at chip.STACK b k (and_right (nat_lt 0 b) (is_memory_at chip.STACK b k) ram_range) in
        record {
          flash = region (Flash a n) (range at_flash.0 (Flash a n) at_flash.1);
          ram = region (Ram b k) ram_range;
          above_zero =
              let some = ltb-true 0 b (and_left (nat_lt 0 b) (is_memory_at chip.STACK b k) ram_range) in
              omega (arith, some, ram_memory.0);
          ram_low = ram_memory.1;
          apart = swapped (apart app facts are at_flash.0 at_ram.0 (Flash a n) (Ram b k) at_flash.1 at_ram.1
              (differ at_flash.0 at_ram.0 (Flash a n) (Ram b k) is_flash refl refl at_flash.1 at_ram.1) refl);
          port_aligned = (address_is q address).1;
          port_is_word = (address_is q address).0;
          port_apart = ⊎_elim (λ (x : q + 4 ≤ b). inl (omega (arith, x))) (λ (x : b + k ≤ q). inr x)
              (apart app facts are at_ram.0 at_port.0 (Ram b k) (Port q) at_ram.1 at_port.1
              (differ at_ram.0 at_port.0 (Ram b k) (Port q) is_ram refl refl at_ram.1 at_port.1) refl);
          port_is_no_register =
              no_register q (not_so (is_control q) (and_right (is_address q) (not (is_control q)) port_range));
        }
      where
        not_so : (b : Bool) → not b ≡ true → b ≡ false
        not_so true is = absurd (cc (is))
        not_so false is = refl

    chip_then : IsChip (target_of app setup)
    chip_then = subst IsChip (sym is_the_target) the_chip

  -- a board's text tells a chip on which a program may run
  pub is_chip : IsChip (target_of app setup)
  is_chip =
      let f = some_is is_memory (find is_flash facts) (flash_said facts whole) in
      let r = some_is is_memory (find is_ram facts) (ram_said facts whole) in
      let p = some_is is_port (find is_port facts) (port_said facts whole) in
      let flash = flash_is f.0 (found_passes is_flash facts f.0 f.1) in
      let ram = ram_is r.0 (found_passes is_ram facts r.0 r.1) in
      let port = port_is p.0 (found_passes is_port facts p.0 p.1) in
      let ram_found = r.1 ∙ ap Some ram.2 in
      let port_found = p.1 ∙ ap Some port.1 in
      chip_then flash.0 flash.1 ram.0 ram.1 port.0 (f.1 ∙ ap Some flash.2) ram_found port_found
