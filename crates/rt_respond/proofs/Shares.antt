-- What handlers ask for of 1,000 core steps: the code's table says the same as the definitions, at each last handler.
use Rattle.std.proofs.Common.{◌≡◌, ℕ, ◌+◌, ◌≤◌, ◌<◌, ◌==◌, ◌⊎◌, inl, inr, Bool, true, false, ◌&&◌}
use Rattle.std.proofs.Common.{nat_lt, List, [], ◌∷◌, ◌++◌}
use Rattle.std.proofs.Common.{map, flat_map, drop, get_or, find, length, option_map, slice_get, Option, Some, None}
use Rattle.std.proofs.Common.{refl}
use Rattle.std.proofs.Common.{if◌then◌else◌, sym, ap, subst, ◌∙◌, length-append, arith}
use Rattle.std.specs.List.{AllByRecursion, list_all}
use Rattle.std.proofs.lemmas.Bool.{ltb-true}
use Rattle.std.proofs.lemmas.Option.{none-some}
use Rattle.rt_lemmas.proofs.Bools.{and_left, and_right}
use Rattle.rt_lemmas.proofs.Lists.{drop_as_cons, find_has, flat_map_alike}
use Rattle.rt_lemmas.proofs.Membership.{all_append}
use Rattle.rt_app.specs.Tree.{App}
use Rattle.rt_rta.specs.declared.limits.Limit.{Limit}
use Rattle.rt_respond.specs.Limits.{Limits, every_of}
use Rattle.rt_respond.specs.Handlers.{handlers}
use Rattle.rt_respond.specs.Work.{work}
use Rattle.rt_respond.specs.Load.{share_of, is_exact, has_number, has_numbers, sum_of, IsRoundedUp, IsLoadAt}
use Rattle.rt_respond.specs.Load.{IsLast, IsLoad}
use Rattle.rt_respond.specs.Inside.Places.{IsSmall, share_for, exact_share, table_shares, table_has_numbers}
use Rattle.rt_respond.specs.declared.handler.Quantity.TheVariants as counted
use Rattle.rt_respond.specs.declared.handler.Handler.{Handler}
use Rattle.rt_respond.specs.declared.load.Share.{Share}
use Rattle.rt_respond.specs.declared.number.TheConstants.{MOST_WORK}
use Rattle.rt_respond.proofs.Tables.{get_or_self}
use Rattle.rt_respond.proofs.Order.{at_each_other}
use Rattle.rt_respond.proofs.Same.{works_alike}

module _ (limits : Limits) where
  -- of the works of all handlers the table of shares is what they ask for
  pub table_is : (works : Handler → Option ℕ) (hs : List Handler) → table_shares limits hs (map works hs)
      ≡ flat_map (λ h. share_of (every_of limits h.number) (works h)) hs
  table_is works [] = refl
  table_is works (h ∷ hs) = ap (λ ss. share_of (every_of limits h.number) (works h) ++ ss) (table_is works hs)

  pub numbers_are : (works : Handler → Option ℕ) (hs : List Handler) → table_has_numbers limits hs (map works hs)
      ≡ list_all (λ h. has_number (every_of limits h.number) (works h)) hs
  numbers_are works [] = refl
  numbers_are works (h ∷ hs) = ap (λ b. has_number (every_of limits h.number) (works h) && b) (numbers_are works hs)

  share_small : (every work : Option ℕ) → (every ≡ None) ⊎ ((e : ℕ) × (every ≡ Some e) × (1 ≤ e))
      → has_number every work ≡ true → AllByRecursion IsSmall (share_of every work)
  share_small None work some exact = tt
  share_small (Some e) None some exact = tt
  share_small (Some e) (Some w) some exact =
      let less = ltb-true w MOST_WORK exact in
      (record { positive = positive some; few = omega (arith, less) }, tt)
    where
      positive : (Some e ≡ None) ⊎ ((n : ℕ) × (Some e ≡ Some n) × (1 ≤ n)) → 1 ≤ e
      positive (inl none) = absurd cc
      positive (inr (n, same, some)) = let is : e ≡ n = cc in omega (arith, is, some)

  every_some : AllByRecursion (λ (limit : Limit). 1 ≤ limit.every) limits.every → (irq : ℕ)
      → (every_of limits irq ≡ None) ⊎ ((e : ℕ) × (every_of limits irq ≡ Some e) × (1 ≤ e))
  every_some positive irq = by (find (λ (limit : Limit). limit.irq == irq) limits.every) refl
    where
      by : (o : Option Limit) → find (λ (limit : Limit). limit.irq == irq) limits.every ≡ o
          → (every_of limits irq ≡ None) ⊎ ((e : ℕ) × (every_of limits irq ≡ Some e) × (1 ≤ e))
      by None is = inl (ap (option_map (λ (limit : Limit). limit.every)) is)
      by (Some limit) is = inr (
        limit.every,
        ap (option_map (λ (limit : Limit). limit.every)) is,
        find_has (λ (limit : Limit). 1 ≤ limit.every) (λ (limit : Limit). limit.irq == irq) limits.every limit positive
            is,
      )

  pub table_small : AllByRecursion (λ (limit : Limit). 1 ≤ limit.every) limits.every → (hs : List Handler)
      (ws : List (Option ℕ)) → table_has_numbers limits hs ws ≡ true
      → AllByRecursion IsSmall (table_shares limits hs ws)
  table_small positive [] ws exact = tt
  table_small positive (h ∷ hs) [] exact = tt
  table_small positive (h ∷ hs) (w ∷ ws) exact =
      all_append IsSmall (share_of (every_of limits h.number) w) (table_shares limits hs ws)
      (share_small (every_of limits h.number) w (every_some positive h.number)
      (and_left (has_number (every_of limits h.number) w) (table_has_numbers limits hs ws) exact))
      (table_small positive hs ws
      (and_right (has_number (every_of limits h.number) w) (table_has_numbers limits hs ws) exact))

  one_share : (every work : Option ℕ) → length (share_of every work) ≤ 1
  one_share None work = omega arith
  one_share (Some e) None = omega arith
  one_share (Some e) (Some w) = omega arith

  pub table_few : (hs : List Handler) (ws : List (Option ℕ)) → length (table_shares limits hs ws) ≤ length hs
  table_few [] ws = omega arith
  table_few (h ∷ hs) [] = omega arith
  table_few (h ∷ hs) (w ∷ ws) =
      let all = length-append (share_of (every_of limits h.number) w) (table_shares limits hs ws) in
      let one = one_share (every_of limits h.number) w in
      let rest = table_few hs ws in omega (arith, all, one, rest)

  -- the table from an index on, with what is of one handler
  table_step : (hs : List Handler) (ws : List (Option ℕ)) (i : ℕ) (h : Handler) (d : Option ℕ) → i < length hs
      → i < length ws → h ≡ get_or hs i h
      → table_shares limits (drop i hs) (drop i ws)
      ≡ share_of (every_of limits h.number) (get_or ws i d)
      ++ table_shares limits (drop (i + 1) hs) (drop (i + 1) ws)
  table_step hs ws i h d in_hs in_ws h_is =
      ap (λ xs. table_shares limits xs (drop i ws)) (drop_as_cons hs i h in_hs h_is)
      ∙ ap (table_shares limits (h ∷ drop (i + 1) hs))
      (drop_as_cons ws i (get_or ws i d) in_ws (get_or_self ws i d in_ws))

  numbers_step : (hs : List Handler) (ws : List (Option ℕ)) (i : ℕ) (h : Handler) (d : Option ℕ) → i < length hs
      → i < length ws → h ≡ get_or hs i h
      → table_has_numbers limits (drop i hs) (drop i ws)
      ≡ (has_number (every_of limits h.number) (get_or ws i d)
      && table_has_numbers limits (drop (i + 1) hs) (drop (i + 1) ws))
  numbers_step hs ws i h d in_hs in_ws h_is =
      ap (λ xs. table_has_numbers limits xs (drop i ws)) (drop_as_cons hs i h in_hs h_is)
      ∙ ap (table_has_numbers limits (h ∷ drop (i + 1) hs))
      (drop_as_cons ws i (get_or ws i d) in_ws (get_or_self ws i d in_ws))

  -- one handler more, whose requests have no distance
  pub passed : (hs : List Handler) (ws : List (Option ℕ)) (i : ℕ) (h : Handler) → i < length hs
      → i < length ws → h ≡ get_or hs i h → every_of limits h.number ≡ None
      → (table_shares limits (drop i hs) (drop i ws) ≡ table_shares limits (drop (i + 1) hs) (drop (i + 1) ws))
      × (table_has_numbers limits (drop i hs) (drop i ws)
      ≡ table_has_numbers limits (drop (i + 1) hs) (drop (i + 1) ws))
  passed hs ws i h in_hs in_ws h_is none = (
    table_step hs ws i h None in_hs in_ws h_is
        ∙ ap (λ o. share_of o (get_or ws i None) ++ table_shares limits (drop (i + 1) hs) (drop (i + 1) ws)) none,
    numbers_step hs ws i h None in_hs in_ws h_is
        ∙ ap (λ o. has_number o (get_or ws i None) && table_has_numbers limits (drop (i + 1) hs) (drop (i + 1) ws))
        none,
  )

  -- one whose work is a number that did not stop
  pub shared : (hs : List Handler) (ws : List (Option ℕ)) (i : ℕ) (h : Handler) (d : Option ℕ) (every : ℕ)
      (share : Share) → i < length hs → i < length ws → h ≡ get_or hs i h
      → every_of limits h.number ≡ Some every → Some share ≡ exact_share every (get_or ws i d)
      → (table_shares limits (drop i hs) (drop i ws)
      ≡ share ∷ table_shares limits (drop (i + 1) hs) (drop (i + 1) ws))
      × (table_has_numbers limits (drop i hs) (drop i ws)
      ≡ table_has_numbers limits (drop (i + 1) hs) (drop (i + 1) ws))
  shared hs ws i h d every share in_hs in_ws h_is some exact = (
    table_step hs ws i h d in_hs in_ws h_is
        ∙ ap (λ o. share_of o (get_or ws i d) ++ table_shares limits (drop (i + 1) hs) (drop (i + 1) ws)) some
        ∙ ap (λ ss. ss ++ table_shares limits (drop (i + 1) hs) (drop (i + 1) ws)) (one (get_or ws i d) exact),
    numbers_step hs ws i h d in_hs in_ws h_is
        ∙ ap (λ o. has_number o (get_or ws i d) && table_has_numbers limits (drop (i + 1) hs) (drop (i + 1) ws)) some
        ∙ ap (λ b. b && table_has_numbers limits (drop (i + 1) hs) (drop (i + 1) ws)) (is (get_or ws i d) exact),
  )
    where
      by_one : (w : ℕ) (b : Bool) → Some share ≡ (if b then Some (share_for every w) else None)
          → share_of (Some every) (Some w) ≡ share ∷ []
      by_one w true exact = cc
      by_one w false exact = absurd cc

      one : (w : Option ℕ) → Some share ≡ exact_share every w → share_of (Some every) w ≡ share ∷ []
      one None exact = absurd cc
      one (Some w) exact = by_one w (nat_lt w MOST_WORK) exact

      by_is : (w : ℕ) (b : Bool) → Some share ≡ (if b then Some (share_for every w) else None)
          → b ≡ true
      by_is w true exact = refl
      by_is w false exact = absurd cc

      is : (w : Option ℕ) → Some share ≡ exact_share every w → is_exact w ≡ true
      is None exact = absurd cc
      is (Some w) exact = by_is w (nat_lt w MOST_WORK) exact

all_alike : {A : Type 0} (f g : A → Bool) → ((x : A) → f x ≡ g x) → (xs : List A) → list_all f xs ≡ list_all g xs
all_alike f g same [] = refl
all_alike f g same (x ∷ xs) = ap (λ b. b && list_all f xs) (same x) ∙ ap (λ b. g x && b) (all_alike f g same xs)

-- the load at one last handler is the load at each
pub load_is : (app : App) (limits : Limits) (last : Handler) (load : Option ℕ) → IsLast (handlers app) last
    → IsLoadAt app limits last load → IsLoad app limits load
load_is app limits last load is_last at = (
  λ none. absurd (none-some last (sym (ap (λ hs. slice_get hs is_last.declared.0) none) ∙ is_last.declared.1)),
  λ other is_other. same other (at_each_other last other (is_last.behind other is_other.declared)
      (is_other.behind last is_last.declared)) load at,
)
  where
    same : (other : Handler) → (last.priority ≡ other.priority) × (last.number ≡ other.number) → (load : Option ℕ)
        → IsLoadAt app limits last load → IsLoadAt app limits other load
    same other alike None none = sym (numbers other alike) ∙ none
      where
        numbers : (other : Handler) → (last.priority ≡ other.priority) × (last.number ≡ other.number)
            → has_numbers app limits last ≡ has_numbers app limits other
        numbers other alike =
            all_alike (λ h. has_number (every_of limits h.number) (work app counted.Steps last h))
            (λ h. has_number (every_of limits h.number) (work app counted.Steps other h))
            (λ h. ap (has_number (every_of limits h.number))
            (works_alike app counted.Steps last other alike.0 alike.1 h))
            (handlers app)
    same other alike (Some n) at = (
      sym (all_alike (λ h. has_number (every_of limits h.number) (work app counted.Steps last h))
          (λ h. has_number (every_of limits h.number) (work app counted.Steps other h))
          (λ h. ap (has_number (every_of limits h.number)) (works_alike app counted.Steps last other alike.0 alike.1 h))
          (handlers app)) ∙ at.0,
      subst (λ ss. IsRoundedUp (sum_of ss) n)
          (flat_map_alike (λ h. share_of (every_of limits h.number) (work app counted.Steps last h))
          (λ h. share_of (every_of limits h.number) (work app counted.Steps other h))
          (λ h. ap (share_of (every_of limits h.number)) (works_alike app counted.Steps last other alike.0 alike.1 h))
          (handlers app)) at.1,
    )

-- what the code's table of shares says is the load
pub shares_none : (app : App) (limits : Limits) (last : Handler) (ws : List (Option ℕ))
    → ws ≡ map (work app counted.Steps last)
    (handlers app) → table_has_numbers limits (handlers app) ws ≡ false → has_numbers app limits last ≡ false
shares_none app limits last ws are none =
    sym (numbers_are limits (work app counted.Steps last) (handlers app))
    ∙ ap (table_has_numbers limits (handlers app)) (sym are)
    ∙ none

pub shares_some : (app : App) (limits : Limits) (last : Handler) (ws : List (Option ℕ)) (n : ℕ) → ws
    ≡ map (work app counted.Steps last) (handlers app) → table_has_numbers limits (handlers app) ws ≡ true
    → IsRoundedUp (sum_of (table_shares limits (handlers app) ws)) n → IsLoadAt app limits last (Some n)
shares_some app limits last ws n are exact up = (
  sym (numbers_are limits (work app counted.Steps last) (handlers app))
      ∙ ap (table_has_numbers limits (handlers app)) (sym are)
      ∙ exact,
  subst (λ ss. IsRoundedUp (sum_of ss) n)
      (ap (table_shares limits (handlers app)) are ∙ table_is limits (work app counted.Steps last) (handlers app)) up,
)
