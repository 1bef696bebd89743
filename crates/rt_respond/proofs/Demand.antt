-- More core steps ask for no less.
use Rattle.std.proofs.Common.{◌≡◌, ℕ, ◌+◌, ◌-◌, ◌≤◌, ◌<◌, ◌==◌, Bool, true, false, if◌then◌else◌, List, [], ◌∷◌}
use Rattle.std.proofs.Common.{◌++◌, map, take, get_or, length, find, position, slice_get, option_and_then, Option, Some}
use Rattle.std.proofs.Common.{None, IsSome, IfSome, refl, sym, ap, subst, ◌∙◌, arith}
use Rattle.std.proofs.Math.Nat.{mul-le-mul_right}
use Rattle.std.proofs.lemmas.Bool.{eqb-true}
use Rattle.std.proofs.lemmas.Nat.{le-div}
use Rattle.std.proofs.lemmas.List.{map_more, get_or-map}
use Rattle.std.proofs.lemmas.Option.{none-some, slice_get-get_or}
use Rattle.rt_lemmas.proofs.Lists.{position_within}
use Rattle.rt_ids.proofs.Lists.{find_by_position}
use Rattle.rt_app.specs.Tree.{App}
use Rattle.rt_rta.specs.Response.{most_requests}
use Rattle.rt_rta.specs.declared.limits.Limit.{Limit}
use Rattle.rt_rta.proofs.Least.{begun_more}
use Rattle.rt_respond.specs.Number.{plus, times, total_of}
use Rattle.rt_respond.specs.Handlers.{handlers, is_at}
use Rattle.rt_respond.specs.Work.{work}
use Rattle.rt_respond.specs.Response.{requests_ask, limit_demand, demand, backlog, needed}
use Rattle.rt_respond.specs.Inside.Searching.{ArePositive}
use Rattle.rt_respond.specs.declared.handler.Quantity.{Quantity}
use Rattle.rt_respond.specs.declared.handler.Handler.{Handler}
use Rattle.rt_respond.proofs.Numbers.{plus_regrouped, plus_alone}

-- both are missing, or both are there and the first is no greater
abbrev pub Rises : Option ℕ → Option ℕ → Type 0
Rises None None = Unit {0}
Rises None (Some b) = ⊥
Rises (Some a) None = ⊥
Rises (Some a) (Some b) = a ≤ b

pub rises_same : (a : Option ℕ) → Rises a a
rises_same None = tt
rises_same (Some n) = omega arith

pub plus_rises : (a b c d : Option ℕ) → Rises a b → Rises c d → Rises (plus a c) (plus b d)
plus_rises None None c d first second = tt
plus_rises None (Some b) c d first second = absurd first
plus_rises (Some a) None c d first second = absurd first
plus_rises (Some a) (Some b) None None first second = tt
plus_rises (Some a) (Some b) None (Some d) first second = absurd second
plus_rises (Some a) (Some b) (Some c) None first second = absurd second
plus_rises (Some a) (Some b) (Some c) (Some d) first second = omega (arith, first, second)

pub times_rises : (n m : ℕ) (w : Option ℕ) → 1 ≤ n → n ≤ m → Rises (times n w) (times m w)
times_rises n m None some less = by (n == 0) (m == 0) refl refl
  where
    by : (a b : Bool) → (n == 0) ≡ a → (m == 0) ≡ b
        → Rises (if a then Some 0 else None) (if b then Some 0 else None)
    by true b first second = (let none = eqb-true n 0 first in absurd (omega (arith, none, some)))
    by false true first second = (let none = eqb-true m 0 second in absurd (omega (arith, none, some, less)))
    by false false first second = tt
times_rises n m (Some w) some less = let most = mul-le-mul_right w less in omega (arith, most)

-- so many core steps have room for a request at least, and more for no fewer
some_request : (steps every : ℕ) → 1 ≤ every → 1 ≤ steps → 1 ≤ most_requests steps every
some_request steps every some steps_some = le-div 1 (steps + (every - 1)) every some (omega arith)

module _ (app : App) (limits : List Limit) (what : Quantity) (i : Handler) (steps more : ℕ) (some : 1 ≤ steps)
    (less : steps ≤ more) where
  ask_rises : (n m : ℕ) (o : Option Handler) → 1 ≤ n → n ≤ m
      → Rises (requests_ask app limits what i n o) (requests_ask app limits what i m o)
  ask_rises n m None one fewer = omega arith
  ask_rises n m (Some h) one fewer = by (is_at i h)
    where
      by : (b : Bool) → Rises (if b then times n (work app what i h) else Some 0)
          (if b then times m (work app what i h) else Some 0)
      by true = times_rises n m (work app what i h) one fewer
      by false = omega arith

  limit_rises : (limit : Limit) → 1 ≤ limit.every
      → Rises (limit_demand app limits what i steps limit) (limit_demand app limits what i more limit)
  limit_rises limit every =
      ask_rises (most_requests steps limit.every) (most_requests more limit.every)
      (find (λ h. h.number == limit.irq) (handlers app)) (some_request steps limit.every every some)
      (begun_more steps more limit.every every less)

  all_rise : (ls : List Limit) → ArePositive ls
      → Rises (total_of (map (limit_demand app limits what i steps) ls)) (total_of (map
      (limit_demand app limits what i more) ls))
  all_rise [] positive = omega arith
  all_rise (limit ∷ ls) positive =
      plus_rises (limit_demand app limits what i steps limit) (limit_demand app limits what i more limit) _ _
      (limit_rises limit positive.0) (all_rise ls positive.1)

  pub needed_rises : ArePositive limits → Rises (needed app limits what i steps) (needed app limits what i more)
  needed_rises positive =
      plus_rises (backlog app limits what i) (backlog app limits what i) _ _ (rises_same (backlog app limits what i))
      (all_rise limits positive)

-- one more of a list
total_end : (xs : List (Option ℕ)) (x : Option ℕ) → total_of (xs ++ x ∷ []) ≡ plus (total_of xs) x
total_end [] x = plus_alone x
total_end (y ∷ ys) x = ap (plus y) (total_end ys x) ∙ plus_regrouped y (total_of ys) x

pub total_more : {A : Type 0} (f : A → Option ℕ) (xs : List A) (i : ℕ) (x : A) → i < length xs → x ≡ get_or xs i x
    → total_of (map f (take (i + 1) xs)) ≡ plus (total_of (map f (take i xs))) (f x)
total_more f xs i x within is =
    ap total_of (map_more f xs i x within ∙ ap (λ y. map f (take i xs) ++ f y ∷ []) (sym is))
    ∙ total_end (map f (take i xs)) (f x)

-- of two that rise
pub none_before : (a b : Option ℕ) → Rises a b → b ≡ None → a ≡ None
none_before None b rise none = refl
none_before (Some n) None rise none = absurd rise
none_before (Some n) (Some m) rise none = absurd (none-some m (sym none))

pub some_before : (a b : Option ℕ) (m : ℕ) → Rises a b → b ≡ Some m → IsSome a
some_before None None m rise some = absurd (none-some m some)
some_before None (Some k) m rise some = absurd rise
some_before (Some n) b m rise some = refl

pub less_before : (a b : Option ℕ) (n m : ℕ) → Rises a b → a ≡ Some n → b ≡ Some m → n ≤ m
less_before None b n m rise first second = absurd (none-some n first)
less_before (Some k) None n m rise first second = absurd rise
less_before (Some k) (Some j) n m rise first second =
    let one : k ≡ n = cc in let other : j ≡ m = cc in omega (arith, rise, one, other)

-- what a limit asks for, by the tables of the code
module _ (app : App) (limits : List Limit) (what : Quantity) (i : Handler) (steps : ℕ) (limit : Limit)
    (hs : List Handler)
    (ws : List (Option ℕ)) (hs_are : hs ≡ handlers app) (ws_are : ws ≡ map (work app what i) (handlers app)) where
  found : (place : Option ℕ) → place ≡ position (λ h. h.number == limit.irq) hs
      → find (λ h. h.number == limit.irq) (handlers app) ≡ option_and_then (slice_get hs) place
  found place is =
      ap (find (λ h. h.number == limit.irq)) (sym hs_are) ∙ find_by_position (λ h. h.number == limit.irq) hs
      ∙ ap (option_and_then (slice_get hs)) (sym is)

  pub asks_nothing : None ≡ position (λ h. h.number == limit.irq) hs
      → Some 0 ≡ limit_demand app limits what i steps limit
  asks_nothing none =
      sym (ap (requests_ask app limits what i (most_requests steps limit.every)) (found None none))

  at_place : (place : ℕ) (h : Handler) → Some place ≡ position (λ h. h.number == limit.irq) hs → place < length hs
      → h ≡ get_or hs place h → find (λ h. h.number == limit.irq) (handlers app) ≡ Some h
  at_place place h is within h_is =
      found (Some place) is ∙ slice_get-get_or hs place h within ∙ ap Some (sym h_is)

  pub asks_not : (place : ℕ) (h : Handler) → Some place ≡ position (λ h. h.number == limit.irq) hs → place < length hs
      → h ≡ get_or hs place h → is_at i h ≡ false → Some 0 ≡ limit_demand app limits what i steps limit
  asks_not place h is within h_is behind =
      sym (ap (requests_ask app limits what i (most_requests steps limit.every)) (at_place place h is within h_is)
      ∙ ap (λ b. if b then times (most_requests steps limit.every) (work app what i h) else Some 0) behind)

  pub asks_so : (place : ℕ) (h : Handler) (w d : Option ℕ) → Some place ≡ position (λ h. h.number == limit.irq) hs
      → place < length hs → h ≡ get_or hs place h → w ≡ get_or ws place d → is_at i h ≡ true
      → times (most_requests steps limit.every) w ≡ limit_demand app limits what i steps limit
  asks_so place h w d is within h_is w_is at =
      sym (ap (requests_ask app limits what i (most_requests steps limit.every)) (at_place place h is within h_is)
      ∙ ap (λ b. if b then times (most_requests steps limit.every) (work app what i h) else Some 0) at
      ∙ ap (times (most_requests steps limit.every)) (sym work_at))
    where
      work_at : w ≡ work app what i h
      work_at =
          w_is ∙ ap (λ xs. get_or xs place d) (ws_are ∙ ap (map (work app what i)) (sym hs_are))
          ∙ get_or-map (work app what i) hs place h d within ∙ ap (work app what i) (sym h_is)

-- the number that the code finds needed is the definition's
pub needed_is : (app : App) (limits : List Limit) (what : Quantity) (i : Handler) (steps : ℕ)
    (before asked found : Option ℕ)
    → found ≡ plus before asked → before ≡ backlog app limits what i → asked ≡ demand app limits what i steps
    → needed app limits what i steps ≡ found
needed_is app limits what i steps before asked found is before_is asked_is =
    sym (is ∙ ap (λ b. plus b asked) before_is ∙ ap (plus (backlog app limits what i)) asked_is)

pub place_within : (limit : Limit) (hs : List Handler) (place : ℕ) → Some place
    ≡ position (λ h. h.number == limit.irq) hs → place < length hs
place_within limit hs place is =
    subst (λ o. IfSome o (λ k. k < length hs)) (sym is) (position_within (λ h. h.number == limit.irq) hs)
