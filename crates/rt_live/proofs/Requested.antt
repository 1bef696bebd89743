-- How often a history that `live` allows raises, merges and latches an interrupt: as often as the script has its
-- devices pend it.
use Rattle.rt_live.proofs.Vocabulary.{AllByRecursion, Bool, Call, Contains, Device, Entry, HasDeviceInRange, IsHistory}
use Rattle.rt_live.proofs.Vocabulary.{Latch, Line, List, Merged, None, Part, Pend, Pends, Raised, Some, Steps, Ticks}
use Rattle.rt_live.proofs.Vocabulary.{[], accounts, ap, arith, bit_at, bit_at-zero, by_parts, calls_in, cond, count_by}
use Rattle.rt_live.proofs.Vocabulary.{count_first, device_pends, dite, eq-eqb, false, flat_map, interrupt_asked}
use Rattle.rt_live.proofs.Vocabulary.{latched_count, line_asks, line_pends, look_calls, look_calls_from, map}
use Rattle.rt_live.proofs.Vocabulary.{merged_count, merges, ne_eqb, none-some, numbers, one_if, part, pending_bit}
use Rattle.rt_live.proofs.Vocabulary.{pends, raised_count, raises, refl, replicate, same_Some, subst, suc, sum_by}
use Rattle.rt_live.proofs.Vocabulary.{sum_by-cons, sym, true, zero, ℕ, ℕ_discrete, ⊎_elim, ◌%◌, ◌*◌, ◌++◌, ◌+◌, ◌/◌}
use Rattle.rt_live.proofs.Vocabulary.{◌<◌, ◌==◌, ◌∙◌, ◌∷◌, ◌≡◌, ◌≤◌}
use Rattle.std.proofs.{lemmas.List.Sums.sum_by-append, lemmas.List.Folds.sum_by-replicate}
use Rattle.rt_words.specs.Inside.Seats.{Distinct}
use Rattle.rt_words.proofs.Lists.{in_head, in_tail, in_cases, in_none}
use Rattle.rt_live.proofs.Requesting.{none_asked, none_called}
use Rattle.rt_words.proofs.Bits as bits

-- whether a call pends an interrupt of which this is so
abbrev pub asks_that : (ℕ → Bool) → Call → Bool
asks_that test (Pend n answer) = test n
asks_that test (Latch k word) = false

-- each pend raises or merges, and nothing else does
each_pend : (irq : ℕ) (calls : List Call)
    → raised_count irq calls + merged_count irq calls ≡ count_by (asks_that (λ i. i == irq)) calls
each_pend irq [] = refl
each_pend irq (c ∷ cs) = omega (
  arith,
  one c,
  each_pend irq cs,
  count_first (raises irq) c cs,
  count_first (merges irq) c cs,
  count_first (asks_that (λ i. i == irq)) c cs,
)
  where
    one : (c : Call) → one_if (raises irq c) + one_if (merges irq c) ≡ one_if (asks_that (λ i. i == irq) c)
    one (Pend n Raised) = omega arith
    one (Pend n Merged) = omega arith
    one (Latch k word) = refl

module _ (test : ℕ → Bool) where
  pends_count : (calls : List Call) (irqs : List ℕ) → map interrupt_asked calls ≡ map (λ i. Some i) irqs
      → count_by (asks_that test) calls ≡ count_by test irqs
  pends_count [] [] e = refl
  pends_count [] (i ∷ irqs) e = absurd cc
  pends_count (c ∷ cs) [] e = absurd cc
  pends_count (Latch k word ∷ cs) (i ∷ irqs) e = let no_ : None ≡ Some i = cc in absurd (none-some i no_)
  pends_count (Pend n answer ∷ cs) (i ∷ irqs) e =
      let same : n ≡ i = same_Some n i cc in
      let rest = pends_count cs irqs cc in
      let one : one_if (test n) ≡ one_if (test i) = ap (λ k. one_if (test k)) same in
      omega (
        arith,
        rest,
        one,
        count_first (asks_that test) (Pend n answer) cs,
        sum_by-cons (λ x. one_if (test x)) i irqs,
      )

  look_counts_none : (k : ℕ) (words : List ℕ) (calls : List Call) → count_by (asks_that test) calls ≡ 0
      → count_by (asks_that test) (look_calls_from k words ++ calls) ≡ 0
  look_counts_none k [] calls none = none
  look_counts_none k (w ∷ ws) calls none = omega (
    arith,
    look_counts_none (suc k) ws calls none,
    count_first (asks_that test) (Latch k w) (look_calls_from (suc k) ws ++ calls),
  )

  looks_count_none : (found : List (List ℕ)) → count_by (asks_that test) (flat_map look_calls found) ≡ 0
  looks_count_none [] = refl
  looks_count_none (ws ∷ found) = look_counts_none 0 ws (flat_map look_calls found) (looks_count_none found)

-- the parts of the numbers below this one, the highest first
parts_below : List Entry → ℕ → List Part
parts_below history zero = []
parts_below history (suc n) = record { line = n; calls = part history n } ∷ parts_below history n

below_all : (history : List Entry) (n number : ℕ) → Contains (numbers (parts_below history n)) number → number < n
unfolding parts_below
below_all history zero number is = absurd (in_none number is)
below_all history (suc n) number is =
    ⊎_elim (λ e. omega (arith, e)) (λ more. let l = below_all history n number more in omega (arith, l))
    (in_cases n number (numbers (parts_below history n)) is)

below_has : (history : List Entry) (n number : ℕ) → ¬ Contains (numbers (parts_below history n)) number → n ≤ number
unfolding parts_below
below_has history zero number out = omega arith
below_has history (suc n) number out =
    dite (ℕ_discrete n number)
    (λ e. absurd (out (subst (λ k. Contains (k ∷ numbers (parts_below history n)) number) (sym e)
    (in_head number (numbers (parts_below history n)))))) (λ ne.
    let l = below_has history n number
    (λ is. out (in_tail n number (numbers (parts_below history n)) is)) in
    omega (arith, l, ne))

below_apart : (history : List Entry) (n : ℕ) → Distinct (numbers (parts_below history n))
unfolding parts_below
below_apart history zero = tt
below_apart history (suc n) = ((λ is. let l = below_all history n n is in omega (arith, l)), below_apart history n)

below_is : (history : List Entry) (n : ℕ) (q : Part) → Contains (parts_below history n) q → part history q.line
    ≡ q.calls
unfolding parts_below
below_is history zero q is = absurd (in_none q is)
below_is history (suc n) q is =
    ⊎_elim (λ e. ap (λ (p : Part). part history p.line) (sym e) ∙ ap (λ (p : Part). p.calls) e)
    (λ more. below_is history n q more)
    (in_cases (record { line = n; calls = part history n }) q (parts_below history n) is)

-- how often the devices of numbers below this one pend an interrupt
sum_below : (ℕ → ℕ) → ℕ → ℕ
sum_below f zero = 0
sum_below f (suc n) = f n + sum_below f n

sum_two : (f g : ℕ → ℕ) (n : ℕ) → sum_below (λ d. f d + g d) n ≡ sum_below f n + sum_below g n
unfolding sum_below
sum_two f g zero = refl
sum_two f g (suc n) = let rest = sum_two f g n in omega (arith, rest)

sum_same : (f g : ℕ → ℕ) (n : ℕ) → ((d : ℕ) → f d ≡ g d) → sum_below f n ≡ sum_below g n
unfolding sum_below
sum_same f g zero same = refl
sum_same f g (suc n) same = let rest = sum_same f g n same in omega (arith, rest, same n)

sum_none : (n : ℕ) → sum_below (λ _. 0) n ≡ 0
unfolding sum_below
sum_none zero = refl
sum_none (suc n) = let rest = sum_none n in omega (arith, rest)

module _ (test : ℕ → Bool) where
  counted_once : (b : Bool) (n : ℕ) → n * one_if b ≡ cond b n 0
  counted_once true n = omega arith
  counted_once false n = omega arith

  abbrev asked_of : ℕ → ℕ → ℕ → ℕ → ℕ
  asked_of d i n e = count_by test (line_pends e (Device d i n))

  -- a device's line is counted once, at its device
  asked_none : (d i n m : ℕ) → m ≤ d → sum_below (asked_of d i n) m ≡ 0
  unfolding sum_below
  asked_none d i n zero out = refl
  asked_none d i n (suc m) out =
      let none : asked_of d i n m ≡ 0 =
      ap (λ b. count_by test (cond b (replicate n i) [])) (ne_eqb d m (omega (arith, out))) in
      omega (arith, asked_none d i n m (omega (arith, out)), none)

  asked_once : (d i n m : ℕ) → d < m → sum_below (asked_of d i n) m ≡ line_asks test (Device d i n)
  unfolding sum_below
  asked_once d i n zero within = absurd (omega (arith, within))
  asked_once d i n (suc m) within =
      dite (ℕ_discrete d m) (λ e.
      let own : asked_of d i n m ≡ cond (test i) n 0 =
      ap (λ b. count_by test (cond b (replicate n i) [])) (eq-eqb d m e)
      ∙ sum_by-replicate (λ x. one_if (test x)) n i ∙ counted_once (test i) n in
      omega (arith, own, asked_none d i n m (omega (arith, e)))) (λ ne.
      let none : asked_of d i n m ≡ 0 = ap (λ b. count_by test (cond b (replicate n i) [])) (ne_eqb d m ne) in
      omega (arith, none, asked_once d i n m (omega (arith, within, ne))))

  line_asked : (line : Line) → HasDeviceInRange line
      → sum_below (λ d. count_by test (line_pends d line)) 16 ≡ line_asks test line
  line_asked (Steps n) range = sum_none 16
  line_asked (Ticks n) range = sum_none 16
  line_asked (Pends i n) range = sum_none 16
  line_asked (Device d i n) range = asked_once d i n 16 range

  all_asked : (script : List Line) → AllByRecursion HasDeviceInRange script
      → sum_below (λ d. count_by test (pends script d)) 16 ≡ sum_by (line_asks test) script
  all_asked [] ranges = sum_none 16
  all_asked (line ∷ script) ranges =
      let split = sum_same (λ d. count_by test (pends (line ∷ script) d))
      (λ d. count_by test (line_pends d line) + count_by test (pends script d)) 16
      (λ d. sum_by-append (λ x. one_if (test x)) (line_pends d line) (pends script d)) in
      let two = sum_two (λ d. count_by test (line_pends d line)) (λ d. count_by test (pends script d)) 16 in
      omega (
        arith,
        split,
        two,
        line_asked line ranges.0,
        all_asked script ranges.1,
        sum_by-cons (line_asks test) line script,
      )

module _ (script : List Line) (found : List (List ℕ)) (history : List Entry) (is : IsHistory script found history)
    (ranges : AllByRecursion HasDeviceInRange script) where
  counted : (p : Call → Bool) → count_by p (calls_in history)
      ≡ count_by p (flat_map look_calls found) + sum_by (λ (q : Part). count_by p q.calls) (parts_below history 16)
  counted p =
      by_parts p history (flat_map look_calls found) (parts_below history 16) is.core (below_is history 16)
      (λ h. let l = below_all history 16 255 h in omega (arith, l)) (below_apart history 16)
      (λ n ne out. none_called (part history n) (is.devices n ne
      ∙ ap (map (λ (irq : ℕ). Some irq)) (none_asked script n (below_has history 16 n out) ranges)))

  below_counted : (test : ℕ → Bool) (n : ℕ) → n ≤ 16
      → sum_by (λ (q : Part). count_by (asks_that test) q.calls) (parts_below history n)
      ≡ sum_below (λ d. count_by test (pends script d)) n
  unfolding parts_below sum_below
  below_counted test zero few = refl
  below_counted test (suc n) few = omega (
    arith,
    below_counted test n (omega (arith, few)),
    pends_count test (part history n) (pends script n) (is.devices n (omega (arith, few))),
    sum_by-cons (λ (x : Part). count_by (asks_that test) x.calls) (record { line = n; calls = part history n })
        (parts_below history n),
  )

  -- the calls pend what the script has devices pend
  pub all_pended : (test : ℕ → Bool)
      → count_by (asks_that test) (calls_in history) ≡ sum_by (line_asks test) script
  all_pended test = omega (
    arith,
    counted (asks_that test),
    looks_count_none test found,
    below_counted test 16 (omega arith),
    all_asked test script ranges,
  )

  -- raised and merged together are the pends of all devices
  pub all_counted : (irq : ℕ) → raised_count irq (calls_in history) + merged_count irq (calls_in history)
      ≡ device_pends irq script
  all_counted irq = each_pend irq (calls_in history) ∙ all_pended (λ i. i == irq)

  -- nothing is left, and what was raised was latched
  pub nothing_pending : (irq : ℕ) → pending_bit (replicate 32 0) irq ≡ 0
  nothing_pending irq = ap (λ (w : ℕ). bit_at w (irq % 32)) (bits.zeros 32 (irq / 32)) ∙ bit_at-zero (irq % 32)

  pub all_latched : (irq : ℕ) → irq < 512 → latched_count irq (calls_in history) ≡ raised_count irq (calls_in history)
  all_latched irq few =
      omega (arith, accounts (replicate 32 0) history irq is.legal (omega (arith, few)), nothing_pending irq)
