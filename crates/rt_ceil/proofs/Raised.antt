-- A table after a raise or a mark, seen at an index of it.
use Rattle.std.proofs.Common.{◌≡◌, ℕ, ◌<◌, ◌==◌, nat_lt, max, Bool, true, false, ◌&&◌, ◌||◌, if◌then◌else◌, List}
use Rattle.std.proofs.Common.{length, get_or, set, Option, Some, None, refl, arith, get_or-set_other}
use Rattle.std.proofs.lemmas.List.{length-set}
use Rattle.std.proofs.lemmas.Grind.{get_or-set_at}
use Rattle.std.proofs.lemmas.Bool.Decides.{nat_tests}
use Rattle.rt_app.specs.Tree.{Task}
use Rattle.rt_app.specs.Level.{is_software, is_of_level}
use Rattle.rt_ids.specs.Lists.{is_some_and}
use Rattle.rt_ceil.specs.Inside.Tables.{raised_table, raised_level, level_of, level_in}
use Rattle.rt_ceil.specs.Inside.Rows.{served_with}

length_if : {A : Type 0} (b : Bool) (xs ys : List A) → length xs ≡ length ys → length (if b then xs else ys) ≡ length ys
length_if true xs ys h = h
length_if false xs ys h = refl

pub length-raised : (table : List ℕ) (index priority : ℕ) → length (raised_table table index priority) ≡ length table
length-raised table index priority =
    let after = set table index (max (get_or table index 0) priority) in
    length_if (nat_lt index (length table)) after table
    (length-set table index (max (get_or table index 0) priority))

pub length-raised_level : (table : List ℕ) (level : Option ℕ) (priority : ℕ)
    → length (raised_level table level priority) ≡ length table
length-raised_level table None priority = refl
length-raised_level table (Some level) priority = length-raised table level priority

pub length-marked : (served : List Bool) (level : Option ℕ) → length (served_with served level) ≡ length served
length-marked served None = refl
length-marked served (Some level) = length_if (nat_lt level (length served)) (set served level true) served
    (length-set served level true)

pub raised_at : (table : List ℕ) (index priority r : ℕ) → r < length table
    → get_or (raised_table table index priority) r 0 ≡ max (get_or table r 0) (if index == r then priority else 0)
raised_at table index priority r h = grind (arith, nat_tests, get_or-set_at, get_or-set_other)

-- whether it is this level
abbrev pub is_level : ℕ → Option ℕ → Bool
is_level r None = false
is_level r (Some level) = level == r

pub raised_level_at : (table : List ℕ) (level : Option ℕ) (priority r : ℕ) → r < length table
    → get_or (raised_level table level priority) r 0 ≡ max (get_or table r 0) (if is_level r level then priority else 0)
raised_level_at table None priority r h = omega arith
raised_level_at table (Some level) priority r h = raised_at table level priority r h

pub marked_at : (served : List Bool) (level : Option ℕ) (r : ℕ) → r < length served
    → get_or (served_with served level) r false ≡ (get_or served r false || is_level r level)
marked_at served None r h = grind arith
marked_at served (Some level) r h = grind (arith, nat_tests, get_or-set_at, get_or-set_other)

if_software : (b : Bool) (p r : ℕ) → is_level r (if b then Some p else None) ≡ (b && (p == r))
if_software true p r = refl
if_software false p r = refl

pub level_of_is : (r : ℕ) (t : Task) → is_level r (level_of t) ≡ is_of_level r t
level_of_is r t = if_software (is_software t) t.priority r

pub level_in_is : (r : ℕ) (o : Option Task) → is_level r (level_in o) ≡ is_some_and (is_of_level r) o
level_in_is r None = refl
level_in_is r (Some t) = level_of_is r t
