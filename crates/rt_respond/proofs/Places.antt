-- Sums of fractions in places: one share more, one place changed, and what is carried from the last place to the first.
use Rattle.std.proofs.Common.{◌≡◌, ℕ, zero, suc, ◌+◌, ◌*◌, ◌/◌, ◌%◌, ◌^◌, ◌-◌, ◌≤◌, ◌<◌, inl, inr, Bool, true}
use Rattle.std.proofs.Common.{false}
use Rattle.std.proofs.Common.{List, [], ◌∷◌, ◌++◌, length, take, drop, get_or, set, length-append, refl, sym, ap, subst}
use Rattle.std.proofs.Common.{◌∙◌}
use Rattle.std.proofs.Common.{arith}
use Rattle.std.proofs.Math.Nat.{mul-le-mul_right, mul-le-mul_left, div-le_of_le-mul, div-le_self}
use Rattle.std.proofs.lemmas.Bool.{cases_lt}
use Rattle.std.proofs.lemmas.List.Sums.{sum_by_push}
use Rattle.std.proofs.lemmas.List.{get_or-set_other, take_more, drop_all}
use Rattle.std.specs.Int.{from_bool}
use Rattle.rt_lemmas.proofs.Lists.{drop_as_cons}
use Rattle.std.specs.List.{AllByRecursion}
use Rattle.rt_respond.specs.Load.{Fraction, sum_of, IsRoundedUp}
use Rattle.rt_respond.specs.Inside.Places.{IsSmall, AreBelow, unit, worth, sum_in_places, whole_of, ArePlaces}
use Rattle.rt_respond.specs.declared.load.Share.{Share}
use Rattle.rt_respond.proofs.Tables.{get_or_self, all_get}

pub unit_more : (shares : List Share) (share : Share) → unit (shares ++ share ∷ []) ≡ unit shares * share.every
unit_more [] share = omega arith
unit_more (s ∷ shares) share =
    ap (λ u. s.every * u) (unit_more shares share) ∙ regroup s.every (unit shares) share.every
  where
    regroup : (a b c : ℕ) → a * (b * c) ≡ a * b * c
    regroup a b c = omega arith

pub unit_is : (shares : List Share) → (sum_of shares).denominator ≡ unit shares
unit_is [] = refl
unit_is (s ∷ shares) = ap (λ u. s.every * u) (unit_is shares)

pub unit_some : (shares : List Share) → AllByRecursion IsSmall shares → 1 ≤ unit shares
unit_some [] small = omega arith
unit_some (s ∷ shares) small =
    let rest = unit_some shares small.1 in
    let one = small.0.positive in
    let most = mul-le-mul_left s.every rest in
    omega (arith, one, most)

pub worth_more : (places : List ℕ) (shares : List Share) (place : ℕ) (share : Share) → length places ≡ length shares
    → worth (places ++ place ∷ []) (shares ++ share ∷ []) ≡ worth places shares * share.every + place
worth_more [] [] place share same = omega arith
worth_more [] (s ∷ shares) place share same = absurd (omega (arith, same))
worth_more (p ∷ places) [] place share same = absurd (omega (arith, same))
worth_more (p ∷ places) (s ∷ shares) place share same =
    let rest = worth_more places shares place share (omega (arith, same)) in
    ap (λ u. p * u + worth (places ++ place ∷ []) (shares ++ share ∷ [])) (unit_more shares share)
    ∙ ap (λ w. p * (unit shares * share.every) + w) rest
    ∙ regroup p (unit shares) share.every (worth places shares) place
  where
    regroup : (p u n w x : ℕ) → p * (u * n) + (w * n + x) ≡ (p * u + w) * n + x
    regroup p u n w x = omega arith

pub numerator_more : (shares : List Share) (share : Share)
    → (sum_of (shares ++ share ∷ [])).numerator ≡ (sum_of shares).numerator * share.every + share.steps * unit shares
numerator_more [] share = omega arith
numerator_more (s ∷ shares) share =
    ap (λ d. s.steps * d + (sum_of (shares ++ share ∷ [])).numerator * s.every)
    (unit_is (shares ++ share ∷ []) ∙ unit_more shares share)
    ∙ ap (λ n. s.steps * (unit shares * share.every) + n * s.every) (numerator_more shares share)
    ∙ regroup s.steps (unit shares) share.every (sum_of shares).numerator share.steps s.every
    ∙ ap (λ d. (s.steps * d + (sum_of shares).numerator * s.every) * share.every
    + share.steps * (s.every * unit shares)) (sym (unit_is shares))
  where
    regroup : (x u n m k y : ℕ) → x * (u * n) + (m * n + k * u) * y ≡ (x * u + m * y) * n + k * (y * u)
    regroup x u n m k y = omega arith

-- a place of these has so much more
pub worth_set : (places : List ℕ) (shares : List Share) (k v q : ℕ) → length places ≡ length shares → k < length places
    → v ≡ get_or places k 0 + q → worth (set places k v) shares ≡ worth places shares + q * unit (drop (suc k) shares)
worth_set [] shares k v q same within is = absurd (omega (arith, within))
worth_set (p ∷ places) [] k v q same within is = absurd (omega (arith, same))
worth_set (p ∷ places) (s ∷ shares) zero v q same within is =
    ap (λ n. n * unit shares + worth places shares) is ∙ regroup p q (unit shares) (worth places shares)
  where
    regroup : (p q u w : ℕ) → (p + q) * u + w ≡ p * u + w + q * u
    regroup p q u w = omega arith
worth_set (p ∷ places) (s ∷ shares) (suc k) v q same within is =
    let rest = worth_set places shares k v q (omega (arith, same)) (omega (arith, within)) is in
    omega (arith, rest)

pub below_more : (few most : ℕ) → few ≤ most → (places : List ℕ) → AreBelow few places → AreBelow most places
below_more few most less [] below = tt
below_more few most less (p ∷ places) below =
    let here = below.0 in (omega (arith, here, less), below_more few most less places below.1)

pub below_set : (most : ℕ) (places : List ℕ) (k v : ℕ) → AreBelow most places → v ≤ most
    → AreBelow most (set places k v)
below_set most [] k v below within = tt
below_set most (p ∷ places) zero v below within = (within, below.1)
below_set most (p ∷ places) (suc k) v below within = (below.0, below_set most places k v below.1 within)

-- a part of a fraction below 1 is below the number of parts
pub part_within : (rest every n : ℕ) → rest < every → rest * n / every ≤ n
part_within rest every n below =
    div-le_of_le-mul every (mul-le-mul_right n (let less : rest ≤ every = omega arith in less))

-- one place of a fraction: so much goes into it, and so much is left
pub place_step : (value rest every n unit : ℕ) → 1 ≤ every
    → (value + rest * n / every * unit) * every + rest * n % every * unit ≡ value * every + rest * (n * unit)
place_step value rest every n unit some = go (rest * n / every) (rest * n % every) split
  where
    split : rest * n ≡ every * (rest * n / every) + rest * n % every
    split = omega (arith, some)

    go : (q r : ℕ) → rest * n ≡ every * q + r
        → (value + q * unit) * every + r * unit ≡ value * every + rest * (n * unit)
    go q r is = let all = ap (λ x. x * unit) is in omega (arith, all)

-- from a place on, so much is carried over to the place before it, and so much is left
pub record Carries (places : List ℕ) (shares : List Share) (over : ℕ) (is_broken : Bool) : Type 0 where
  pub rest : ℕ
  pub value : worth places shares ≡ over * unit shares + rest
  pub below : rest < unit shares
  pub whole : is_broken ≡ false → rest ≡ 0
  pub broken : is_broken ≡ true → 1 ≤ rest

-- one place before it, where its parts are divided into so many whole ones and so many that are left
pub carries_next : (place : ℕ) (places : List ℕ) (share : Share) (shares : List Share) (over next parts_left : ℕ)
    (was is : Bool) → 1 ≤ share.every → Carries places shares over was
    → place + over ≡ share.every * next + parts_left → parts_left < share.every
    → (parts_left ≡ 0 → is ≡ was) → (1 ≤ parts_left → is ≡ true) → Carries (place ∷ places) (share ∷ shares) next is
carries_next place places share shares over next parts_left was is some carries split fewer kept broken = record {
  rest = parts_left * unit shares + carries.rest;
  value = ap (λ w. place * unit shares + w) carries.value ∙ sum place over next parts_left share.every (unit shares)
      carries.rest split;
  below = within parts_left share.every (unit shares) carries.rest fewer carries.below;
  whole = λ intact. elim (cases_lt 0 parts_left) [
    | inl more ↦ absurd (true_false (sym (broken more) ∙ intact))
    | inr none ↦ let no_parts : parts_left ≡ 0 = omega (arith, none) in
        ap (λ n. n * unit shares + carries.rest) no_parts
        ∙ nothing (unit shares) carries.rest (carries.whole (sym (kept no_parts) ∙ intact))
  ];
  broken = λ split_up. elim (cases_lt 0 parts_left) [
    | inl more ↦ (let most = mul-le-mul_right (unit shares) more in let units = carries.below in
        omega (arith, most, units))
    | inr none ↦ let no_parts : parts_left ≡ 0 = omega (arith, none) in
        (let left = carries.broken (sym (kept no_parts) ∙ split_up) in omega (arith, left))
  ];
}
  where
    true_false : true ≡ false → ⊥
    true_false is = cc

    nothing : (u rest : ℕ) → rest ≡ 0 → 0 * u + rest ≡ 0
    nothing u rest is = omega (arith, is)

    sum : (place over next left every u rest : ℕ) → place + over ≡ every * next + left
        → place * u + (over * u + rest) ≡ next * (every * u) + (left * u + rest)
    sum place over next left every u rest is = let all = ap (λ n. n * u) is in omega (arith, all)

    within : (left every u rest : ℕ) → left < every → rest < u → left * u + rest < every * u
    within left every u rest fewer below =
        let most : suc left * u ≤ every * u = mul-le-mul_right u fewer in omega (arith, most, below)

-- what is carried over from the first place, and one more where something is left
pub carried_is : (places : List ℕ) (shares : List Share) (over : ℕ) (is_broken : Bool)
    → Carries places shares over is_broken → IsRoundedUp (sum_in_places places shares) (over + from_bool is_broken)
carried_is places shares over true carries = record {
  enough = let value = carries.value in let below = carries.below in omega (arith, value, below);
  least = λ m most. elim (cases_lt m (over + 1)) [
    | inl more ↦ absurd (let less : m ≤ over = omega (arith, more) in
        let all = mul-le-mul_right (unit shares) less in
        let value = carries.value in let left = carries.broken refl in omega (arith, all, value, left, most))
    | inr less ↦ less
  ];
}
carried_is places shares over false carries = record {
  enough = let value = carries.value in let whole = carries.whole refl in omega (arith, value, whole);
  least = λ m most. elim (cases_lt m (over + 0)) [
    | inl more ↦ absurd (let less : suc m ≤ over = omega (arith, more) in
        let all = mul-le-mul_right (unit shares) less in
        let value = carries.value in let below = carries.below in omega (arith, all, value, below, most))
    | inr less ↦ less
  ];
}

-- a fraction is a whole number, and what is rounded up of its places
pub rounded_whole : (fraction : Fraction) (parts : Fraction) (whole n : ℕ) → 1 ≤ parts.denominator
    → fraction.denominator ≡ parts.denominator → fraction.numerator ≡ whole * parts.denominator + parts.numerator
    → IsRoundedUp parts n → IsRoundedUp fraction (whole + n)
rounded_whole fraction parts whole n some same value up = record {
  enough = let enough = up.enough in
      let all = ap (λ d. (whole + n) * d) same in omega (arith, enough, value, all);
  least = λ m most. elim (cases_lt m whole) [
    | inl more ↦ absurd (let less : suc m ≤ whole = omega (arith, more) in
        let all = mul-le-mul_right parts.denominator less in
        let times = ap (λ d. m * d) same in omega (arith, all, times, value, most, some))
    | inr less ↦
        let fits : parts.numerator ≤ (m - whole) * parts.denominator =
        rest m most (omega (arith, less)) in
        let least = up.least (m - whole) fits in omega (arith, least, less)
  ];
}
  where
    rest : (m : ℕ) → fraction.numerator ≤ m * fraction.denominator → whole + (m - whole) ≡ m
        → parts.numerator ≤ (m - whole) * parts.denominator
    rest m most is =
        let times = ap (λ d. m * d) same in
        let all = ap (λ k. k * parts.denominator) is in omega (arith, most, value, times, all)

-- the places of one share more
pub places_next : (shares : List Share) (share : Share) (places more : List ℕ) → 1 ≤ share.every
    → ArePlaces shares places → length more ≡ length shares + 1 → AreBelow ((length shares + 1) * 2 ^ 32) more
    → worth more (shares ++ share ∷ [])
    ≡ worth places shares * share.every + share.steps % share.every * unit shares
    → ArePlaces (shares ++ share ∷ []) more
places_next shares share places more some are long small value = record {
  long = let longer = length-append shares (share ∷ []) in omega (arith, longer, long);
  small = subst (λ n. AreBelow (n * 2 ^ 32) more) (longer shares) small;
  value = numerator_more shares share
      ∙ sum (sum_of shares).numerator share.every share.steps (unit shares) (whole_of shares) (worth places shares)
      some are.value
      ∙ ap (λ w. (whole_of shares + share.steps / share.every) * (unit shares * share.every) + w) (sym value)
      ∙ ap (λ u. (whole_of shares + share.steps / share.every) * u + worth more (shares ++ share ∷ []))
      (sym (unit_more shares share))
      ∙ ap (λ n. n * unit (shares ++ share ∷ []) + worth more (shares ++ share ∷ []))
      (sym (sum_by_push (λ (s : Share). s.steps / s.every) shares share));
}
  where
    longer : (shares : List Share) → length shares + 1 ≡ length (shares ++ share ∷ [])
    longer shares = let more = length-append shares (share ∷ []) in omega (arith, more)

    sum : (n every steps u whole w : ℕ) → 1 ≤ every → n ≡ whole * u + w
        → n * every + steps * u ≡ (whole + steps / every) * (u * every) + (w * every + steps % every * u)
    sum n every steps u whole w some is = go (steps / every) (steps % every) (omega (arith, some))
      where
        go : (q r : ℕ) → steps ≡ every * q + r
            → n * every + steps * u ≡ (whole + q) * (u * every) + (w * every + r * u)
        go q r split =
            let first = ap (λ x. x * every) is in
            let second = ap (λ x. x * u) split in omega (arith, first, second)

-- one place of a share
module _ (places : List ℕ) (before : List Share) (k : ℕ) (d : Share) (n rest every v : ℕ)
    (long : length places ≡ length before) (within : k < length before) (is : n ≡ (get_or before k d).every)
    (put : v ≡ get_or places k 0 + rest * n / every) where
  next_is : unit (drop k before) ≡ n * unit (drop (k + 1) before)
  next_is =
      ap unit (drop_as_cons before k (get_or before k d) within (get_or_self before k d within))
      ∙ ap (λ m. m * unit (drop (k + 1) before)) (sym is)

  pub value_next : 1 ≤ every → worth (set places k v) before * every
      + rest * n % every * unit (drop (k + 1) before)
      ≡ worth places before * every + rest * unit (drop k before)
  value_next some =
      ap (λ m. m * every + rest * n % every * unit (drop (k + 1) before))
      (worth_set places before k v (rest * n / every) long (omega (arith, long, within)) put
      ∙ ap (λ m. worth places before + rest * n / every * unit (drop m before)) (next k))
      ∙ place_step (worth places before) rest every n (unit (drop (k + 1) before)) some
      ∙ ap (λ u. worth places before * every + rest * u) (sym next_is)
    where
      next : (k : ℕ) → suc k ≡ k + 1
      next k = omega arith

  pub small_next : (few most : ℕ) → rest < every → get_or places k 0 ≤ few → few + n ≤ most
      → AreBelow most places → AreBelow most (set places k v)
  small_next few most below here room all =
      let part = part_within rest every n below in
      below_set most places k v all (omega (arith, part, here, put, room))

  pub few_next : (few j : ℕ) → ((j : ℕ) → k ≤ j → get_or places j 0 ≤ few) → k + 1 ≤ j
      → get_or (set places k v) j 0 ≤ few
  few_next few j each past =
      let other : ¬ (j ≡ k) = λ same. (omega (arith, same, past)) in
      let here = each j (omega (arith, past)) in
      omega (arith, get_or-set_other places k j v 0 other, here)

-- the places with one more, which is what is left of the share
pub value_all : (places more old : List ℕ) (before : List Share) (share : Share) (place rest every : ℕ)
    → length places ≡ length before → length before ≤ place → every ≡ share.every
    → worth places before * every + rest * unit (drop place before)
    ≡ worth old before * every + share.steps % every * unit before → more ≡ places ++ rest ∷ []
    → worth more (before ++ share ∷ []) ≡ worth old before * share.every + share.steps % share.every * unit before
value_all places more old before share place rest every long end same value longer =
    ap (λ ps. worth ps (before ++ share ∷ [])) longer ∙ worth_more places before rest share long ∙ last
  where
    last : worth places before * share.every + rest
        ≡ worth old before * share.every + share.steps % share.every * unit before
    last =
        let none : rest * unit (drop place before) ≡ rest * 1 = ap (λ ss. rest * unit ss) (drop_all place before end) in
        let at = subst (λ e. worth places before * e + rest * unit (drop place before)
        ≡ worth old before * e + share.steps % e * unit before) same value in
        omega (arith, none, at)

pub rest_below : (n every : ℕ) → 1 ≤ every → n % every < every
rest_below n every some = omega (arith, some)

pub below_each : (most : ℕ) (places : List ℕ) (k : ℕ) → AreBelow most places → get_or places k 0 ≤ most
below_each most [] k below = omega arith
below_each most (p ∷ places) zero below = below.0
below_each most (p ∷ places) (suc k) below = below_each most places k below.1

-- one place before those that have been carried over
pub carries_step : (places : List ℕ) (shares : List Share) (k place p : ℕ) (share : Share)
    (over next parts_left : ℕ) (was is : Bool) → place + 1 ≡ k → place < length places → place < length shares
    → p ≡ get_or places place p → share ≡ get_or shares place share → 1 ≤ share.every
    → Carries (drop k places) (drop k shares) over was
    → p + over ≡ share.every * next + parts_left → parts_left < share.every
    → (parts_left ≡ 0 → is ≡ was) → (1 ≤ parts_left → is ≡ true)
    → Carries (drop place places) (drop place shares) next is
carries_step places shares k place p share over next parts_left was is before in_places in_shares p_is share_is some
    carries split fewer kept broken =
    subst (λ ps. Carries ps (drop place shares) next is) (sym (drop_as_cons places place p in_places p_is))
    (subst (λ ss. Carries (p ∷ drop (place + 1) places) ss next is)
    (sym (drop_as_cons shares place share in_shares share_is))
    (carries_next p (drop (place + 1) places) share (drop (place + 1) shares) over next parts_left was is some
    (subst (λ n. Carries (drop n places) (drop n shares) over was) (sym before) carries) split fewer kept broken))

-- one place more, from the last to the first, where the parts of it and of what was carried over are divided
pub carries_back : (places : List ℕ) (shares : List Share) (back over every : ℕ) (d : Share) (was is : Bool)
    → length places ≡ length shares → back < length places
    → every ≡ (get_or shares (length places - 1 - back) d).every → AllByRecursion IsSmall shares
    → Carries (drop (length places - back) places) (drop (length places - back) shares) over was
    → ((get_or places (length places - 1 - back) 0 + over) % every ≡ 0 → is ≡ was)
    → (1 ≤ (get_or places (length places - 1 - back) 0 + over) % every → is ≡ true)
    → Carries (drop (length places - (back + 1)) places) (drop (length places - (back + 1)) shares)
    ((get_or places (length places - 1 - back) 0 + over) / every) is
carries_back places shares back over every d was is long within every_is small carries kept broken =
    subst (λ k. Carries (drop k places) (drop k shares) ((get_or places place 0 + over) / every) is) same
    (carries_step places shares (length places - back) place (get_or places place 0) (get_or shares place d) over
    ((get_or places place 0 + over) / every) ((get_or places place 0 + over) % every) was is
    (omega (arith, within)) in_places in_shares (get_or_self places place 0 in_places)
    (get_or_self shares place d in_shares) positive carries
    (split (get_or places place 0 + over) every (get_or shares place d).every every_is positive)
    (fewer (get_or places place 0 + over) every (get_or shares place d).every every_is positive) kept broken)
  where
    place : ℕ
    place = length places - 1 - back

    same : length places - 1 - back ≡ length places - (back + 1)
    same = omega (arith, within)

    in_places : place < length places
    in_places = omega (arith, within)

    in_shares : place < length shares
    in_shares = omega (arith, within, long)

    positive : 1 ≤ (get_or shares place d).every
    positive = (all_get IsSmall shares place d small in_shares).positive

    split : (parts every n : ℕ) → every ≡ n → 1 ≤ n → parts ≡ n * (parts / every) + parts % every
    split parts every n is some =
        subst (λ m. parts ≡ m * (parts / every) + parts % every) is
        (omega (arith, is, some))

    fewer : (parts every n : ℕ) → every ≡ n → 1 ≤ n → parts % every < n
    fewer parts every n is some = subst (λ m. parts % every < m) is (omega (arith, is, some))

pub over_few : (p over every back most : ℕ) → p ≤ most → over ≤ back * most → (p + over) / every ≤ (back + 1) * most
over_few p over every back most here so_far =
    let part = div-le_self (p + over) every in
    let all : (back + 1) * most ≡ back * most + most = omega arith in
    omega (arith, part, here, so_far, all)

pub carries_all : (places : List ℕ) (shares : List Share) (k over : ℕ) (is : Bool) → k ≡ 0
    → Carries (drop k places) (drop k shares) over is → Carries places shares over is
carries_all places shares k over is first carries =
    subst (λ n. Carries (drop n places) (drop n shares) over is) first carries

pub places_more : (shares : List Share) (i : ℕ) (d : Share) (places more : List ℕ) → i < length shares
    → AllByRecursion IsSmall shares → ArePlaces (take i shares) places
    → length more ≡ length (take i shares) + 1 → AreBelow ((length (take i shares) + 1) * 2 ^ 32) more
    → worth more (take i shares ++ get_or shares i d ∷ [])
    ≡ worth places (take i shares) * (get_or shares i d).every
    + (get_or shares i d).steps % (get_or shares i d).every * unit (take i shares)
    → ArePlaces (take (i + 1) shares) more
places_more shares i d places more within all are long small value =
    subst (λ ss. ArePlaces ss more) (sym (take_more shares i d within))
    (places_next (take i shares) (get_or shares i d) places more (all_get IsSmall shares i d all within).positive are
    long small value)

-- the sum of shares is the whole numbers, and what is rounded up of their places
pub sum_is : (shares : List Share) (places : List ℕ) (n : ℕ) → AllByRecursion IsSmall shares → ArePlaces shares places
    → IsRoundedUp (sum_in_places places shares) n → IsRoundedUp (sum_of shares) (whole_of shares + n)
sum_is shares places n small are up =
    rounded_whole (sum_of shares) (sum_in_places places shares) (whole_of shares) n (unit_some shares small)
    (unit_is shares) are.value up
