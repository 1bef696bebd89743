-- What is asked for by pending interrupts at a handler, and by requests.
use Rattle.std.proofs.Common.{◌≡◌, ℕ, zero, suc, ◌+◌, ◌*◌, ◌≤◌, ◌<◌, ◌==◌, Bool, true, false}
use Rattle.std.proofs.Common.{if◌then◌else◌, List, [], ◌∷◌, map, find, slice_get, slice_set, slice_index_or, Option}
use Rattle.std.proofs.Common.{Some}
use Rattle.std.proofs.Common.{None, IsSome, refl, sym, ap, subst, ◌∙◌, arith, eq-eqb}
use Rattle.std.specs.List.{AllByRecursion}
use Rattle.std.proofs.Math.Nat.{mul-le-mul_right}
use Rattle.std.proofs.lemmas.Bool.{eqb-true}
use Rattle.std.proofs.lemmas.Option.{same_Some, none-some}
use Rattle.rt_lemmas.proofs.Bools.{true_and_false}
use Rattle.rt_lemmas.proofs.Indices.{now_cleared}
use Rattle.rt_ids.specs.Choice.{IsIn}
use Rattle.rt_ids.specs.Lists.{or_zero}
use Rattle.rt_app.specs.Tree.{App}
use Rattle.rt_rta.specs.Response.{most_requests}
use Rattle.rt_rta.specs.declared.limits.Limit.{Limit}
use Rattle.rt_rta.proofs.Owing.{Counts, one_more, other_set}
use Rattle.rt_respond.specs.Number.{times, total_of}
use Rattle.rt_respond.specs.Handlers.{handlers, is_at}
use Rattle.rt_respond.specs.Work.{handler_asks, work}
use Rattle.rt_respond.specs.Response.{requests_ask, limit_demand}
use Rattle.rt_respond.specs.declared.handler.Quantity.{Quantity}
use Rattle.rt_respond.specs.declared.handler.Handler.{Handler}
use Rattle.rt_respond.specs.declared.number.TheConstants.{MOST_WORK}
use Rattle.rt_respond_laws.proofs.Sending.{sums, multiple}
use Rattle.rt_respond_laws.proofs.Asking.{Distinct}

module _ (app : App) (what : Quantity) (i : Handler) where
  abbrev asks : Handler → ℕ
  asks h = or_zero (work app what i h)

  -- what these handlers ask for, where their interrupts are pending
  abbrev pub owed_pending : List Bool → List Handler → ℕ
  owed_pending ps [] = 0
  owed_pending ps (h ∷ hs) = (if slice_index_or ps h.number false then asks h else 0) + owed_pending ps hs

  -- what the one of a number among these asks for
  abbrev pub asks_in : ℕ → List Handler → ℕ
  asks_in n [] = 0
  asks_in n (h ∷ hs) = if h.number == n then asks h else asks_in n hs

  pub asks_is : (n : ℕ) (hs : List Handler) → asks_in n hs
      ≡ or_zero (handler_asks (work app what i) (find (λ h. h.number == n) hs))
  asks_is n [] = refl
  asks_is n (h ∷ hs) = by (h.number == n) (asks_is n hs)
    where
      by : (b : Bool) → asks_in n hs ≡ or_zero (handler_asks (work app what i) (find (λ h. h.number == n) hs))
          → (if b then asks h else asks_in n hs)
          ≡ or_zero (handler_asks (work app what i) (if b then Some h else find (λ h. h.number == n) hs))
      by true rest = refl
      by false rest = rest

  untouched : (ps : List Bool) (n : ℕ) (b : Bool) (hs : List Handler) → AllByRecursion (λ g. ¬ (g.number ≡ n)) hs
      → owed_pending (slice_set ps n b) hs ≡ owed_pending ps hs
  untouched ps n b [] others = refl
  untouched ps n b (h ∷ hs) others =
      ap (λ f. (if f then asks h else 0) + owed_pending (slice_set ps n b) hs) (other_set ps n h.number b others.0)
      ∙ ap (λ m. (if slice_index_or ps h.number false then asks h else 0) + m) (untouched ps n b hs others.1)

  -- a request raises it by what its handler asks for at most
  pub pend_raises : (ps : List Bool) (n : ℕ) (hs : List Handler) → Distinct hs
      → owed_pending (slice_set ps n true) hs ≤ owed_pending ps hs + asks_in n hs
  pend_raises ps n [] alone = omega arith
  pend_raises ps n (h ∷ hs) alone = by (h.number == n) refl (pend_raises ps n hs alone.1)
    where
      now : ℕ
      now = if slice_index_or (slice_set ps n true) h.number false then asks h else 0

      was : ℕ
      was = if slice_index_or ps h.number false then asks h else 0

      at_most : (b : Bool) → (if b then asks h else 0) ≤ asks h
      at_most true = omega arith
      at_most false = omega arith

      by : (b : Bool) → (h.number == n) ≡ b
          → owed_pending (slice_set ps n true) hs ≤ owed_pending ps hs + asks_in n hs
          → now + owed_pending (slice_set ps n true) hs
          ≤ was + owed_pending ps hs + (if b then asks h else asks_in n hs)
      by true test rest =
          let most : now ≤ asks h = at_most (slice_index_or (slice_set ps n true) h.number false) in
          let same = untouched ps n true hs
          (subst (λ m. AllByRecursion (λ g. ¬ (g.number ≡ m)) hs) (eqb-true h.number n test) alone.0) in
          omega (arith, most, same)
      by false test rest =
          let same : now ≡ was =
          ap (λ f. if f then asks h else 0)
          (other_set ps n h.number true (λ e. true_and_false (h.number == n) (eq-eqb h.number n e) test)) in
          omega (arith, same, rest)

  -- a take lowers it
  pub take_lowers : (ps : List Bool) (n : ℕ) (hs : List Handler)
      → owed_pending (slice_set ps n false) hs ≤ owed_pending ps hs
  take_lowers ps n [] = omega arith
  take_lowers ps n (h ∷ hs) = by (h.number == n) refl (take_lowers ps n hs)
    where
      now : ℕ
      now = if slice_index_or (slice_set ps n false) h.number false then asks h else 0

      was : ℕ
      was = if slice_index_or ps h.number false then asks h else 0

      by : (b : Bool) → (h.number == n) ≡ b → owed_pending (slice_set ps n false) hs ≤ owed_pending ps hs
          → now + owed_pending (slice_set ps n false) hs ≤ was + owed_pending ps hs
      by true test rest =
          let none : now ≡ 0 =
          ap (λ f. if f then asks h else 0) (ap (λ m. slice_index_or (slice_set ps n false) m false)
          (eqb-true h.number n test) ∙ now_cleared ps n) in
          omega (arith, none, rest)
      by false test rest =
          let same : now ≡ was =
          ap (λ f. if f then asks h else 0)
          (other_set ps n h.number false (λ e. true_and_false (h.number == n) (eq-eqb h.number n e) test)) in
          omega (arith, same, rest)

  -- by what the handler asks for
  clears_at : (ps : List Bool) (hs : List Handler) (k : ℕ) (h : Handler) → slice_get hs k ≡ Some h
      → slice_index_or ps h.number false ≡ true
      → owed_pending (slice_set ps h.number false) hs + asks h ≤ owed_pending ps hs
  clears_at ps [] k h at set = absurd (none-some h at)
  clears_at ps (g ∷ hs) zero h at set =
      let same : g ≡ h = same_Some g h at in
      let before : (if slice_index_or ps g.number false then asks g else 0) ≡ asks h =
      ap (λ (x : Handler). if slice_index_or ps x.number false then asks x else 0) same
      ∙ ap (λ f. if f then asks h else 0) set in
      let behind : (if slice_index_or (slice_set ps h.number false) g.number false then asks g else 0) ≡ 0 =
      ap (λ (x : Handler). if slice_index_or (slice_set ps h.number false) x.number false then asks x else 0) same
      ∙ ap (λ f. if f then asks h else 0) (now_cleared ps h.number) in
      let rest = take_lowers ps h.number hs in
      omega (arith, before, behind, rest)
  clears_at ps (g ∷ hs) (suc k) h at set =
      let rest = clears_at ps hs k h at set in
      let here = take_lowers ps h.number (g ∷ []) in
      omega (arith, rest, here)

  pub take_clears : (ps : List Bool) (hs : List Handler) (h : Handler) → IsIn hs h
      → slice_index_or ps h.number false ≡ true
      → owed_pending (slice_set ps h.number false) hs + asks h ≤ owed_pending ps hs
  take_clears ps hs h there set = clears_at ps hs there.0 h there.1 set

  -- one that is pending and asks for something
  pub record IsAsked (ps : List Bool) (hs : List Handler) : Type 0 where
    pub handler : Handler
    pub there : IsIn hs handler
    pub set : slice_index_or ps handler.number false ≡ true
    pub some : 0 < or_zero (work app what i handler)

  pub one_asks : (ps : List Bool) (hs : List Handler) → 0 < owed_pending ps hs → IsAsked ps hs
  one_asks ps [] some = absurd (omega (arith, some))
  one_asks ps (h ∷ hs) some =
      by (λ more. one_asks ps hs more) (slice_index_or ps h.number false) refl (asks h) refl some
    where
      deeper : IsAsked ps hs → IsAsked ps (h ∷ hs)
      deeper one =
          record { handler = one.handler; there = (suc one.there.0, one.there.1); set = one.set; some = one.some }

      by : (0 < owed_pending ps hs → IsAsked ps hs) → (b : Bool) → slice_index_or ps h.number false ≡ b → (n : ℕ)
          → asks h ≡ n → 0 < (if b then n else 0) + owed_pending ps hs → IsAsked ps (h ∷ hs)
      by next true set zero is more = deeper (next (omega (arith, more)))
      by next true set (suc n) is more =
          record { handler = h; there = (0, refl); set = set; some = omega (arith, is) }
      by next false clear n is more = deeper (next (omega (arith, more)))

  -- among these handlers
  module _ (wires : List Handler) where
    -- what so many requests ask for
    abbrev pub raised : Counts → List Limit → ℕ
    raised counts [] = 0
    raised counts (limit ∷ ls) = counts limit.irq * asks_in limit.irq wires + raised counts ls

    pub raised_none : (ls : List Limit) → raised (λ irq. 0) ls ≡ 0
    raised_none [] = refl
    raised_none (limit ∷ ls) = let rest = raised_none ls in omega (arith, rest)

    counted : (irq n : ℕ) (counts : Counts) → counts n ≤ one_more irq counts n
    counted irq n counts = by (n == irq)
      where
        by : (b : Bool) → counts n ≤ (if b then suc (counts n) else counts n)
        by true = omega arith
        by false = omega arith

    raised_more : (irq : ℕ) (counts : Counts) (ls : List Limit) → raised counts ls ≤ raised (one_more irq counts) ls
    raised_more irq counts [] = omega arith
    raised_more irq counts (limit ∷ ls) =
        let rest = raised_more irq counts ls in
        let here = mul-le-mul_right (asks_in limit.irq wires) (counted irq limit.irq counts) in
        omega (arith, rest, here)

    -- one request more
    pub raised_one : (irq : ℕ) (counts : Counts) (ls : List Limit) (row : Limit)
        → find (λ l. l.irq == irq) ls ≡ Some row
        → raised counts ls + asks_in irq wires ≤ raised (one_more irq counts) ls
    raised_one irq counts [] row is = absurd (none-some row is)
    raised_one irq counts (limit ∷ ls) row is =
        by (λ found. raised_one irq counts ls row found) (limit.irq == irq) refl is
      where
        by : (find (λ l. l.irq == irq) ls ≡ Some row
            → raised counts ls + asks_in irq wires ≤ raised (one_more irq counts) ls)
            → (b : Bool) → (limit.irq == irq) ≡ b → (if b then Some limit else find (λ l. l.irq == irq) ls) ≡ Some row
            → raised counts (limit ∷ ls) + asks_in irq wires ≤ raised (one_more irq counts) (limit ∷ ls)
        by next true test found =
            let rest = raised_more irq counts ls in
            let same : limit.irq ≡ irq = eqb-true limit.irq irq test in
            let more : one_more irq counts limit.irq ≡ suc (counts limit.irq) =
            ap (λ b. if b then suc (counts limit.irq) else counts limit.irq) test in
            let all = ap (λ n. n * asks_in limit.irq wires) more in
            let own = ap (λ n. asks_in n wires) same in
            omega (arith, rest, all, own)
        by next false test found =
            let rest = next found in
            let here = mul-le-mul_right (asks_in limit.irq wires) (counted irq limit.irq counts) in
            omega (arith, rest, here)

    module _ (behind_asks : (h : Handler) → IsIn wires h → is_at i h ≡ false → work app what i h ≡ Some 0)
        (found : (n : ℕ) (h : Handler) → find (λ h. h.number == n) wires ≡ Some h → IsIn wires h)
        (limits : List Limit) (steps : ℕ) where
      -- so many requests of a handler ask for no more than that
      asks_within : (irq count n x : ℕ) (o : Option Handler) → find (λ h. h.number == irq) wires ≡ o
          → 1 ≤ n → count ≤ n → requests_ask app limits what i n o ≡ Some x → x < MOST_WORK
          → (count * or_zero (handler_asks (work app what i) o) ≤ x) × IsSome (handler_asks (work app what i) o)
      asks_within irq count n x None there some few is below = (omega arith, refl)
      asks_within irq count n x (Some h) there some few is below = by (is_at i h) refl is
        where
          by : (b : Bool) → is_at i h ≡ b → (if b then times n (work app what i h) else Some 0) ≡ Some x
              → (count * or_zero (work app what i h) ≤ x) × IsSome (work app what i h)
          by true at all =
              let many = multiple n (work app what i h) x some all below in
              let one = ap or_zero many.one_is in
              let most = mul-le-mul_right many.one few in
              let sum = many.all in
              let own = ap (λ m. count * m) one in (
                omega (arith, own, most, sum),
                subst IsSome (sym many.one_is) refl,
              )
          by false behind all =
              let none = behind_asks h (found irq h there) behind in
              let zero_is : count * or_zero (work app what i h) ≡ count * 0 = ap (λ o. count * or_zero o) none in (
                omega (arith, zero_is),
                subst IsSome (sym none) refl,
              )

      -- no more requests than may begin ask for no more than is counted; and each has a number
      pub raised_within : (counts : Counts) (ls : List Limit) (all : ℕ)
          → AllByRecursion (λ l. (1 ≤ most_requests steps l.every) × (counts l.irq ≤ most_requests steps l.every)
          × (find (λ h. h.number == l.irq) (handlers app) ≡ find (λ h. h.number == l.irq) wires)) ls
          → total_of (map (limit_demand app limits what i steps) ls) ≡ Some all → all < MOST_WORK
          → (raised counts ls ≤ all) × AllByRecursion (λ l. IsSome (handler_asks (work app what i)
          (find (λ h. h.number == l.irq) wires))) ls
      raised_within counts [] all few is below = (omega arith, tt)
      raised_within counts (limit ∷ ls) all few is below =
          let parts = sums (limit_demand app limits what i steps limit) (total_of (map
          (limit_demand app limits what i steps) ls))
          all is below in
          let sum = parts.sum in
          let rest = raised_within counts ls parts.second few.1 parts.second_is (omega (arith, sum, below)) in
          let here = asks_within limit.irq (counts limit.irq) (most_requests steps limit.every) parts.first
          (find (λ h. h.number == limit.irq) wires) refl few.0.0 few.0.1
          (sym (ap (requests_ask app limits what i (most_requests steps limit.every)) few.0.2) ∙ parts.first_is)
          (omega (arith, sum, below)) in
          let own = ap (λ m. counts limit.irq * m) (asks_is limit.irq wires) in
          let first = here.0 in
          let others = rest.0 in (
            omega (arith, own, first, others, sum),
            (here.1, rest.1),
          )
