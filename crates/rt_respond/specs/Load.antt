-- The load: of 1,000 core steps, how many are asked for at the handler that stands last, at which all are. It is the
-- utilization of the field (Liu and Layland, Scheduling Algorithms for Multiprogramming in a Hard-Real-Time
-- Environment, 1973), which is the sum of each execution time by its period, in thousandths and rounded up. Here an
-- execution time is the work of a request. The code adds fractions place by place.
use Rattle.std.specs.Prelude.{◌≡◌, ℕ, ◌+◌, ◌*◌, ◌≤◌, Bool, nat_lt, List, [], ◌∷◌, flat_map, Option}
use Rattle.std.specs.Prelude.{Some, None, true, false}
use Rattle.std.specs.List.{list_all}
use Rattle.rt_ids.specs.Choice.{IsIn}
use Rattle.rt_ids.specs.Lists.{is_some_and}
use Rattle.rt_app.specs.Tree.{App}
use Rattle.rt_respond.specs.Limits.{Limits, every_of}
use Rattle.rt_respond.specs.Handlers.{handlers, is_at}
use Rattle.rt_respond.specs.Work.{work}
use Rattle.rt_respond.specs.declared.handler.Quantity.TheVariants as counted
use Rattle.rt_respond.specs.declared.handler.Handler.{Handler}
use Rattle.rt_respond.specs.declared.load.Share.{Share}
use Rattle.rt_respond.specs.declared.number.TheConstants.{MOST_WORK}

-- a sum of shares as a fraction
pub record Fraction : Type 0 where
  pub numerator : ℕ
  pub denominator : ℕ

abbrev pub with_share : Share → Fraction → Fraction
with_share share sum = record {
  numerator = share.steps * sum.denominator + sum.numerator * share.every;
  denominator = share.every * sum.denominator;
}

-- the sum of shares, each so many core steps by a distance
abbrev pub sum_of : List Share → Fraction
sum_of [] = record { numerator = 0; denominator = 1 }
sum_of (share ∷ shares) = with_share share (sum_of shares)

-- a number is a fraction rounded up
pub record IsRoundedUp (fraction : Fraction) (n : ℕ) : Type 0 where
  pub enough : fraction.numerator ≤ n * fraction.denominator
  pub least : (m : ℕ) → fraction.numerator ≤ m * fraction.denominator → n ≤ m

-- a work whose number did not stop
abbrev pub is_exact : Option ℕ → Bool
is_exact work = is_some_and (λ w. nat_lt w MOST_WORK) work

-- what requests of this least distance ask for of 1,000 core steps, where they have one, and their work a number
abbrev pub share_of : Option ℕ → Option ℕ → List Share
share_of (Some every) (Some w) = record { steps = 1000 * w; every = every } ∷ []
share_of every w = []

-- requests of this least distance, where they have one, have a work whose number did not stop
abbrev pub has_number : Option ℕ → Option ℕ → Bool
has_number None work = true
has_number (Some every) work = is_exact work

module _ (app : App) (limits : Limits) (last : Handler) where
  abbrev pub shares : List Share
  shares = flat_map (λ h. share_of (every_of limits h.number) (work app counted.Steps last h)) (handlers app)

  -- the works of handlers that are requested are numbers that did not stop
  abbrev pub has_numbers : Bool
  has_numbers = list_all (λ h. has_number (every_of limits h.number) (work app counted.Steps last h)) (handlers app)

  -- the load at this handler
  abbrev pub IsLoadAt : Option ℕ → Type 0
  IsLoadAt None = has_numbers ≡ false
  IsLoadAt (Some n) = (has_numbers ≡ true) × IsRoundedUp (sum_of shares) n

-- of these handlers this one stands last in the order
pub record IsLast (hs : List Handler) (last : Handler) : Type 0 where
  pub declared : IsIn hs last
  pub behind : (h : Handler) → IsIn hs h → is_at last h ≡ true

-- the load of an application; 0 where there is no handler
abbrev pub IsLoad : App → Limits → Option ℕ → Type 0
IsLoad app limits load =
    (handlers app ≡ [] → load ≡ Some 0)
    × ((last : Handler) → IsLast (handlers app) last → IsLoadAt app limits last load)
