-- Facts in which nothing is missing say where the memories lie and which word is the port.
use Rattle.std.proofs.Common.{◌≡◌, Bool, true, false, not, ◌||◌, cond, if◌then◌else◌, List, [], ◌∷◌, find, Option, Some}
use Rattle.std.proofs.Common.{None, refl, sym}
use Rattle.std.specs.List.{list_any}
use Rattle.std.proofs.lemmas.Option.{none-some}
use Rattle.rt_ids.specs.Lists.{is_some_and}
use Rattle.rt_target.specs.Chip.{is_flash, is_ram, is_port, is_memory}
use Rattle.rt_target.specs.Reading.{wanting}
use Rattle.rt_target.specs.declared.fact.Fact.{Fact}
use Rattle.rt_target.specs.declared.fact.Fact.TheVariants.{Flash, Ram, Port, Tick, Bits, Word, Call}
use Rattle.rt_target.specs.declared.refusal.Cause.{Cause}

-- the first fact that passes a test is there where one passes, and what follows from the test holds of it
there : (test also : Fact → Bool) → ((f : Fact) → test f ≡ true → also f ≡ true) → (facts : List Fact)
    → list_any test facts ≡ true → is_some_and also (find test facts) ≡ true
there test also on [] any = absurd cc
there test also on (f ∷ facts) any = by (test f) refl any (there test also on facts)
  where
    by : (b : Bool) → test f ≡ b → (b || list_any test facts) ≡ true
        → (list_any test facts ≡ true → is_some_and also (find test facts) ≡ true)
        → is_some_and also (cond b (Some f) (find test facts)) ≡ true
    by true is any rest = on f is
    by false is any rest = rest any

flash_memory : (f : Fact) → is_flash f ≡ true → is_memory f ≡ true
flash_memory (Flash a n) is = refl
flash_memory (Ram a n) is = absurd cc
flash_memory (Port a) is = absurd cc
flash_memory (Tick n) is = absurd cc
flash_memory (Bits n) is = absurd cc
flash_memory (Word r a) is = absurd cc
flash_memory (Call irq) is = absurd cc

ram_memory : (f : Fact) → is_ram f ≡ true → is_memory f ≡ true
ram_memory (Flash a n) is = absurd cc
ram_memory (Ram a n) is = refl
ram_memory (Port a) is = absurd cc
ram_memory (Tick n) is = absurd cc
ram_memory (Bits n) is = absurd cc
ram_memory (Word r a) is = absurd cc
ram_memory (Call irq) is = absurd cc

-- of three things that may be missing, none is
none_missing : (a b c : Bool) (x y z : Cause) (rest : Option Cause)
    → (if not a then Some x else if not b then Some y else if not c then Some z else rest) ≡ None
    → (a ≡ true) × (b ≡ true) × (c ≡ true)
none_missing true true true x y z rest whole = (refl, refl, refl)
none_missing true true false x y z rest whole = absurd (none-some z (sym whole))
none_missing true false c x y z rest whole = absurd (none-some y (sym whole))
none_missing false b c x y z rest whole = absurd (none-some x (sym whole))

module _ (facts : List Fact) (whole : wanting facts ≡ None) where
  pub flash_said : is_some_and is_memory (find is_flash facts) ≡ true
  flash_said =
      there is_flash is_memory flash_memory facts
      (none_missing (list_any is_flash facts) (list_any is_ram facts) (list_any is_port facts) _ _ _ _ whole).0

  pub ram_said : is_some_and is_memory (find is_ram facts) ≡ true
  ram_said =
      there is_ram is_memory ram_memory facts
      (none_missing (list_any is_flash facts) (list_any is_ram facts) (list_any is_port facts) _ _ _ _ whole).1

  pub port_said : is_some_and is_port (find is_port facts) ≡ true
  port_said =
      there is_port is_port (λ f is. is) facts
      (none_missing (list_any is_flash facts) (list_any is_ram facts) (list_any is_port facts) _ _ _ _ whole).2
