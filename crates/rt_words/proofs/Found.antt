-- What latches find was pended: each bit that they find is that of an interrupt that some call pended, and they find no
-- more bits than there are such calls.
use Rattle.std.proofs.Common.{◌≡◌, ℕ, zero, suc, ◌+◌, ◌*◌, ◌/◌, ◌%◌, ◌<◌, ◌≤◌, ◌==◌, ◌≢◌, Bool, true, false, cond}
use Rattle.std.proofs.Common.{List, [], ◌∷◌, length, map, filter, get_or, set, replicate}
use Rattle.std.proofs.Common.{refl, sym, ap}
use Rattle.std.proofs.Common.{subst, ◌∙◌, arith, eq-eqb, length-append}
use Rattle.std.specs.Int.{bit_at}
use Rattle.std.specs.List.{AllByRecursion}
use Rattle.std.proofs.lemmas.List.{length-map}
use Rattle.std.proofs.lemmas.List.Elements.{filter-append}
use Rattle.std.proofs.lemmas.Nat.Bits.{bit_at-lt, bit_at-zero}
use Rattle.std.proofs.lemmas.Bool.{false≢true}
use native.Mathlib.Decide.{ℕ_discrete, dec_lt}
use Rattle.rt_ids.specs.Arrivals.{arrivals}
use Rattle.rt_ids.specs.Lists.{numbers_below}
use Rattle.rt_words.specs.declared.call.Call.{Call}
use Rattle.rt_words.specs.declared.call.Call.TheVariants.{Latch, Pend}
use Rattle.rt_words.specs.Object.{IsPending, after, IsAnswered, pending_bit}
use Rattle.rt_words.specs.History.{Entry, LeavesWords, IsLegal, part}
use Rattle.rt_words.specs.Ending.{calls_in}
use Rattle.rt_words.proofs.Bits.{with_bit, with_bit_other, pend_other, zero_pending, bit_of_word, zeros}

-- how many of the first bits of a word are set
abbrev pub bits_below : ℕ → ℕ → ℕ
bits_below zero word = 0
bits_below (suc n) word = bits_below n word + bit_at word n

no_bits : (n : ℕ) → bits_below n 0 ≡ 0
no_bits zero = refl
no_bits (suc n) = omega (arith, no_bits n, bit_at-zero n)

same_below : (n word bit : ℕ) → n ≤ bit → bits_below n (with_bit word bit) ≡ bits_below n word
same_below zero word bit below = refl
same_below (suc n) word bit below =
    let ne : n ≢ bit = (λ e. omega (arith, e, below)) in
    omega (arith, same_below n word bit (omega (arith, below)), with_bit_other word bit n ne)

one_more : (n word bit : ℕ) → bits_below n (with_bit word bit) ≤ suc (bits_below n word)
one_more zero word bit = omega arith
one_more (suc n) word bit = by (one_more n word bit) (ℕ_discrete n bit)
  where
    by : bits_below n (with_bit word bit) ≤ suc (bits_below n word) → Dec (n ≡ bit)
        → bits_below (suc n) (with_bit word bit) ≤ suc (bits_below (suc n) word)
    by rest (yes e) =
        omega (arith, same_below n word bit (omega (arith, e)), bit_at-lt (with_bit word bit) n)
    by rest (no ne) = omega (arith, rest, with_bit_other word bit n ne)

-- the arrivals of a word are as many as its bits
one_bit : (bit n : ℕ) → bit < 2 → length (cond (bit == 1) (n ∷ []) []) ≡ bit
one_bit zero n few = refl
one_bit (suc zero) n few = refl
one_bit (suc (suc bit)) n few = absurd (omega (arith, few))

kept_bits : (n word : ℕ) → length (filter (λ bit. bit_at word bit == 1) (numbers_below n)) ≡ bits_below n word
unfolding numbers_below
kept_bits zero word = refl
kept_bits (suc n) word =
    let test : ℕ → Bool = λ bit. bit_at word bit == 1 in
    ap length (filter-append test (numbers_below n) (n ∷ []))
    ∙ length-append (filter test (numbers_below n)) (filter test (n ∷ []))
    ∙ omega (arith, kept_bits n word, one_bit (bit_at word n) n (bit_at-lt word n))

pub as_many : (k word : ℕ) → length (arrivals k word) ≡ bits_below 32 word
as_many k word =
    length-map (filter (λ bit. bit_at word bit == 1) (numbers_below 32)) (λ bit. 32 * k + bit) ∙ kept_bits 32 word

-- a number where it is counted
abbrev pub counted : Bool → ℕ → ℕ
counted true n = n
counted false n = 0

none_counted : (b : Bool) (n : ℕ) → n ≡ 0 → counted b n ≡ 0
none_counted true n none = none
none_counted false n none = refl

more_counted : (b : Bool) (m n : ℕ) → m ≤ suc n → counted b m ≤ counted b n + counted b 1
more_counted true m n few = omega (arith, few)
more_counted false m n few = omega arith

-- how many bits are set in these words, of which some are counted
abbrev total : (ℕ → Bool) → List ℕ → ℕ
total some [] = 0
total some (word ∷ words) = counted (some 0) (bits_below 32 word) + total (λ k. some (suc k)) words

total_set : (some : ℕ → Bool) (words : List ℕ) (k n : ℕ)
    → total some (set words k n) + counted (some k) (bits_below 32 (get_or words k 0))
    ≤ total some words + counted (some k) (bits_below 32 n)
total_set some [] k n = omega (arith, none_counted (some k) (bits_below 32 0) (no_bits 32))
total_set some (word ∷ words) zero n = omega arith
total_set some (word ∷ words) (suc k) n = omega (arith, total_set (λ j. some (suc j)) words k n)

none_set : (some : ℕ → Bool) (n : ℕ) → total some (replicate n 0) ≡ 0
none_set some zero = refl
none_set some (suc n) =
    omega (arith, none_counted (some 0) (bits_below 32 0) (no_bits 32), none_set (λ k. some (suc k)) n)

-- how many bits a call found in words that are counted, and whether it pended one there
module _ (some : ℕ → Bool) where
  abbrev pub found_there : Call → ℕ
  found_there (Pend irq answer) = 0
  found_there (Latch k word) = counted (some k) (bits_below 32 word)

  abbrev pub asked_there : Call → ℕ
  asked_there (Pend irq answer) = counted (some (irq / 32)) 1
  asked_there (Latch k word) = 0

  abbrev pub all_found_there : List Call → ℕ
  all_found_there [] = 0
  all_found_there (c ∷ calls) = found_there c + all_found_there calls

  abbrev pub all_asked_there : List Call → ℕ
  all_asked_there [] = 0
  all_asked_there (c ∷ calls) = asked_there c + all_asked_there calls

  call_counts : (words : List ℕ) (c : Call) → IsAnswered words c
      → found_there c + total some (after words c) ≤ total some words + asked_there c
  call_counts words (Pend irq answer) is =
      let old : ℕ = get_or words (irq / 32) 0 in
      omega (
        arith,
        total_set some words (irq / 32) (with_bit old (irq % 32)),
        more_counted (some (irq / 32)) (bits_below 32 (with_bit old (irq % 32))) (bits_below 32 old)
            (one_more 32 old (irq % 32)),
      )
  call_counts words (Latch k word) is =
      let same : counted (some k) (bits_below 32 word) ≡ counted (some k) (bits_below 32 (get_or words k 0)) =
      ap (λ w. counted (some k) (bits_below 32 w)) is in
      omega (arith, total_set some words k 0, none_counted (some k) (bits_below 32 0) (no_bits 32), same)

  history_counts : (words : List ℕ) (history : List Entry) (last : List ℕ) → LeavesWords words history last
      → all_found_there (calls_in history) + total some last ≤ total some words + all_asked_there (calls_in history)
  history_counts words [] last same =
      let e : total some words ≡ total some last = ap (total some) same in omega (arith, e)
  history_counts words (e ∷ history) last h =
      omega (arith, call_counts words e.call h.0, history_counts (after words e.call) history last h.1)

  -- no more bits are found in these words than there are pends
  pub few_found_there : (history : List Entry) (last : List ℕ) → IsLegal history last
      → all_found_there (calls_in history) ≤ all_asked_there (calls_in history)
  few_found_there history last legal =
      omega (arith, history_counts (replicate 32 0) history last legal, none_set some 32)

-- the same of all words
abbrev every : ℕ → Bool
every k = true

abbrev pub asked_by : Call → ℕ
asked_by c = asked_there every c

abbrev pub found_in : List Call → ℕ
found_in calls = all_found_there every calls

abbrev pub asked_in : List Call → ℕ
asked_in calls = all_asked_there every calls

pub found_few : (history : List Entry) (last : List ℕ) → IsLegal history last
    → found_in (calls_in history) ≤ asked_in (calls_in history)
found_few history last legal = few_found_there every history last legal

-- the calls of one line, and those of some
pub part_counts : (f : Call → ℕ) (g : List Call → ℕ) → (g [] ≡ 0)
    → ((c : Call) (calls : List Call) → g (c ∷ calls) ≡ f c + g calls) → (history : List Entry) (n : ℕ)
    → g (part history n) ≤ g (calls_in history)
part_counts f g none more [] n = omega (arith, none)
part_counts f g none more (e ∷ history) n = by (part_counts f g none more history n) (e.line == n)
  where
    by : g (part history n) ≤ g (calls_in history) → (b : Bool)
        → g (map (λ (x : Entry). x.call) (cond b (e ∷ filter (λ x. x.line == n) history)
        (filter (λ x. x.line == n) history))) ≤ g (e.call ∷ calls_in history)
    by rest true = omega (arith, rest, more e.call (part history n), more e.call (calls_in history))
    by rest false = omega (arith, rest, more e.call (calls_in history))

pub part_found : (history : List Entry) (n : ℕ) → found_in (part history n) ≤ found_in (calls_in history)
part_found history n = part_counts (found_there every) found_in refl (λ c calls. refl) history n

-- what holds of each line's calls holds of each entry
pub all_parts : (Q : ℕ → Call → Type 0) (history : List Entry)
    → ((n : ℕ) → AllByRecursion (Q n) (part history n)) → AllByRecursion (λ (e : Entry). Q e.line e.call) history
all_parts Q [] each = tt
all_parts Q (e ∷ history) each = (
  at (e.line == e.line) (eq-eqb e.line e.line refl) (each e.line),
  all_parts Q history (λ n. rest n (e.line == n) (each n)),
)
  where
    at : (b : Bool) → b ≡ true
        → AllByRecursion (Q e.line) (map (λ (x : Entry). x.call) (cond b (e ∷ filter (λ x. x.line == e.line) history)
        (filter (λ x. x.line == e.line) history))) → Q e.line e.call
    at true is all = all.0
    at false is all = absurd (false≢true is)

    rest : (n : ℕ) (b : Bool)
        → AllByRecursion (Q n) (map (λ (x : Entry). x.call) (cond b (e ∷ filter (λ x. x.line == n) history)
        (filter (λ x. x.line == n) history))) → AllByRecursion (Q n) (part history n)
    rest n true all = all.1
    rest n false all = all

pub part_all : (Q : Call → Type 0) (history : List Entry) (n : ℕ) → AllByRecursion (λ (e : Entry). Q e.call) history
    → AllByRecursion Q (part history n)
part_all Q [] n all = tt
part_all Q (e ∷ history) n all = by (part_all Q history n all.1) (e.line == n)
  where
    by : AllByRecursion Q (part history n) → (b : Bool)
        → AllByRecursion Q (map (λ (x : Entry). x.call) (cond b (e ∷ filter (λ x. x.line == n) history)
        (filter (λ x. x.line == n) history)))
    by rest true = (all.0, rest)
    by rest false = rest

-- what is found was pended
module _ (P : ℕ → Type 0) where
  abbrev pub Asks : Call → Type 0
  Asks (Pend irq answer) = P irq
  Asks (Latch k word) = Unit {0}

  abbrev pub Finds : Call → Type 0
  Finds (Pend irq answer) = Unit {0}
  Finds (Latch k word) = (bit : ℕ) → bit < 32 → bit_at word bit ≡ 1 → P (32 * k + bit)

  set_past : (words : List ℕ) (k n : ℕ) → length words ≤ k → set words k n ≡ words
  set_past [] k n past = refl
  set_past (word ∷ words) zero n past = absurd (omega (arith, past))
  set_past (word ∷ words) (suc k) n past = ap (λ (ws : List ℕ). word ∷ ws) (set_past words k n (omega (arith, past)))

  pub stays : (words : List ℕ) (c : Call) → Asks c → ((irq : ℕ) → IsPending words irq → P irq)
      → (irq : ℕ) → IsPending (after words c) irq → P irq
  stays words (Pend n answer) asks all irq is = by (ℕ_discrete irq n) (dec_lt (n / 32) (length words))
    where
      by : Dec (irq ≡ n) → Dec (n / 32 < length words) → P irq
      by (yes e) within = subst P (sym e) asks
      by (no ne) (yes within) = all irq (sym (pend_other words n irq (λ same. within) ne) ∙ is)
      by (no ne) (no past) =
          all irq (sym (ap (λ ws. pending_bit ws irq)
          (set_past words (n / 32) (with_bit (get_or words (n / 32) 0) (n % 32)) (omega (arith, past)))) ∙ is)
  stays words (Latch k word) asks all irq is = all irq (zero_pending words k irq is)

  finds_now : (words : List ℕ) (c : Call) → IsAnswered words c → ((irq : ℕ) → IsPending words irq → P irq) → Finds c
  finds_now words (Pend irq answer) is all = tt
  finds_now words (Latch k word) is all = λ bit few set.
      all (32 * k + bit) (bit_of_word words k bit few ∙ ap (λ w. bit_at w bit) (sym is) ∙ set)

  all_find : (words : List ℕ) (history : List Entry) (last : List ℕ) → LeavesWords words history last
      → ((irq : ℕ) → IsPending words irq → P irq) → AllByRecursion (λ (e : Entry). Asks e.call) history
      → AllByRecursion (λ (e : Entry). Finds e.call) history
  all_find words [] last same all asks = tt
  all_find words (e ∷ history) last h all asks = (
    finds_now words e.call h.0 all,
    all_find (after words e.call) history last h.1 (stays words e.call asks.0 all) asks.1,
  )

  pub none_pending : (irq : ℕ) → IsPending (replicate 32 0) irq → P irq
  none_pending irq is =
      let none : bit_at (get_or (replicate 32 0) (irq / 32) 0) (irq % 32) ≡ 0 =
      ap (λ w. bit_at w (irq % 32)) (zeros 32 (irq / 32)) ∙ bit_at-zero (irq % 32) in
      absurd (omega (arith, none, is))

  pub found_asked : (history : List Entry) (last : List ℕ) → IsLegal history last
      → AllByRecursion (λ (e : Entry). Asks e.call) history → AllByRecursion (λ (e : Entry). Finds e.call) history
  found_asked history last legal asks =
      all_find (replicate 32 0) history last legal none_pending asks
