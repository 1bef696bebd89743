-- The devices of a script.
use Rattle.std.specs.List.{list_any}
use Rattle.std.specs.Prelude.{Bool, List, [], false, flat_map, if◌then◌else◌, ℕ, ◌==◌, ◌∷◌}
use Rattle.rt_ids.specs.{declared.limits.TheConstants.DEVICES, Lists.those_below}
use Rattle.rt_script.specs.{declared.line.Line.Line, declared.line.Line.TheVariants.Device}

-- the line is one of the device of this number, whose pends may be none
abbrev pub is_of_device : ℕ → Line → Bool
is_of_device number (Device d irq n) = d == number
is_of_device number line = false

-- a script has lines of the device of this number
abbrev pub is_device : List Line → ℕ → Bool
is_device script number = list_any (is_of_device number) script

-- the numbers of the devices that the lines name, rising
abbrev pub devices : List Line → List ℕ
devices script = those_below (is_device script) DEVICES

-- what a line has the device of a number pend, with how often
abbrev pub entries_of : ℕ → Line → List (ℕ × ℕ)
entries_of number (Device d irq n) = if d == number then (irq, n) ∷ [] else []
entries_of number line = []

-- and all lines
abbrev pub device_script : List Line → ℕ → List (ℕ × ℕ)
device_script script number = flat_map (entries_of number) script
