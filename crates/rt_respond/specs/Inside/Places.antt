-- Sums of fractions as the code keeps them: a whole number, and fractions below 1 in places. The first place is worth a
-- part of the first distance, the second a part of the first distance by the second, and so on.
use Rattle.std.specs.Prelude.{◌≡◌, ℕ, ◌+◌, ◌*◌, ◌/◌, ◌^◌, ◌≤◌, Bool, true, false, ◌&&◌, nat_lt, List, [], ◌∷◌, ◌++◌}
use Rattle.std.specs.Prelude.{length}
use Rattle.std.specs.Prelude.{sum_by, Option, Some, None, Vec, if◌then◌else◌}
use Rattle.std.specs.Global.{Global}
use Rattle.std.specs.List.{AllByRecursion}
use Rattle.rt_respond.specs.Limits.{Limits, every_of}
use Rattle.rt_respond.specs.Load.{Fraction, sum_of, share_of, has_number}
use Rattle.rt_respond.specs.declared.handler.Handler.{Handler}
use Rattle.rt_respond.specs.declared.load.Share.{Share}
use Rattle.rt_respond.specs.declared.number.TheConstants.{MOST_WORK}

-- the greatest number of core steps of a share
abbrev pub MOST_SHARE : ℕ
MOST_SHARE = 1000 * MOST_WORK

-- numbers that the sums have room for
pub record IsSmall (share : Share) : Type 0 where
  pub positive : 1 ≤ share.every
  pub few : share.steps ≤ MOST_SHARE

-- no number is greater than this
abbrev pub AreBelow : ℕ → List ℕ → Type 0
AreBelow most places = AllByRecursion (λ place. place ≤ most) places

-- the product of the distances
abbrev pub unit : List Share → ℕ
unit [] = 1
unit (share ∷ shares) = share.every * unit shares

-- what places are worth, in parts of the product of the distances
abbrev pub worth : List ℕ → List Share → ℕ
worth [] shares = 0
worth (place ∷ places) [] = 0
worth (place ∷ places) (share ∷ shares) = place * unit shares + worth places shares

abbrev pub sum_in_places : List ℕ → List Share → Fraction
sum_in_places places shares = record { numerator = worth places shares; denominator = unit shares }

-- the sum of the whole numbers of shares
abbrev pub whole_of : List Share → ℕ
whole_of shares = sum_by (λ share. share.steps / share.every) shares

-- the places of what is left of shares
pub record ArePlaces (shares : List Share) (places : List ℕ) : Type 0 where
  pub long : length places ≡ length shares
  pub small : AreBelow (length shares * 2 ^ 32) places
  pub value : (sum_of shares).numerator ≡ whole_of shares * unit shares + worth places shares

-- so much work by this distance, in thousandths
abbrev pub share_for : ℕ → ℕ → Share
share_for every w = record { steps = 1000 * w; every = every }

-- the share of requests of this distance, where their work is a number that did not stop
abbrev pub exact_share : ℕ → Option ℕ → Option Share
exact_share every None = None
exact_share every (Some w) = if nat_lt w MOST_WORK then Some (share_for every w) else None

-- the shares of these handlers, by a table of their works
abbrev pub table_shares : Limits → List Handler → List (Option ℕ) → List Share
table_shares limits (h ∷ hs) (w ∷ ws) = share_of (every_of limits h.number) w ++ table_shares limits hs ws
table_shares limits hs ws = []

-- the works of those that are requested are numbers that did not stop
abbrev pub table_has_numbers : Limits → List Handler → List (Option ℕ) → Bool
table_has_numbers limits (h ∷ hs) (w ∷ ws) = has_number (every_of limits h.number) w && table_has_numbers limits hs ws
table_has_numbers limits hs ws = true

-- the shares, where all have numbers
abbrev pub AreSharesOf : Limits → List Handler → List (Option ℕ) → Option (Vec Share Global) → Type 0
AreSharesOf limits hs ws None = table_has_numbers limits hs ws ≡ false
AreSharesOf limits hs ws (Some shares) =
    (table_has_numbers limits hs ws ≡ true) × (shares.items ≡ table_shares limits hs ws)
