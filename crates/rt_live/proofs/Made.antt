-- What is made for a run: bits of interrupts, rows, and devices with their lines.
use Rattle.rt_live.proofs.Vocabulary.{Bool, Contains, DeviceLine, DeviceThread as Device, HasBits, IsPending, Line}
use Rattle.rt_live.proofs.Vocabulary.{List, Pends, Some, Steps, Ticks, [], ap, append-nil, arith, bit_in_row}
use Rattle.rt_live.proofs.Vocabulary.{contains_cases, contains_here, contains_none, device_script, empty_row}
use Rattle.rt_live.proofs.Vocabulary.{entries_of, false, flat_map, flat_map-append, get_or, if◌then◌else◌, inl, inr}
use Rattle.rt_live.proofs.Vocabulary.{length, length-append, line_pends, map, map-append, none_pending, pending_bit}
use Rattle.rt_live.proofs.Vocabulary.{pends, refl, replicate, requests, same_Some, set, slice_get-get_or, subst, suc}
use Rattle.rt_live.proofs.Vocabulary.{sym, take, true, zero, ℕ, ℕ_discrete, ◌%◌, ◌*◌, ◌++◌, ◌+◌, ◌/◌, ◌<◌, ◌==◌, ◌^◌}
use Rattle.rt_live.proofs.Vocabulary.{◌∙◌, ◌∷◌, ◌≡◌, ◌≢◌, ◌≤◌}
use Rattle.std.proofs.lemmas.List.Elements.{Contains-append_cases, Contains-append_left, Contains-append_right}
use Rattle.std.proofs.lemmas.List.Elements.{Contains-push, Contains-push_cases}
use Rattle.std.proofs.{Common.add-one, Common.bit_or, lemmas.List.take_more, lemmas.Nat.one_shl}
use Rattle.std.specs.Prelude.{slice_get, ◌↔◌}
use Rattle.rt_ids.specs.Lists.{those_below}
use Rattle.rt_words.proofs.Bits.{with_bit, pend_same, pend_other}

-- the words with one bit more, as the code sets it
abbrev pub bit_in : List ℕ → ℕ → List ℕ
bit_in words n = set words (n / 32) (bit_or (get_or words (n / 32) 0) (1 * 2 ^ (n % 32) % 2 ^ 32))

module _ (words : List ℕ) (n : ℕ) (fits : n / 32 < length words) where
  as_power : bit_in words n ≡ set words (n / 32) (with_bit (get_or words (n / 32) 0) (n % 32))
  as_power = ap (λ b. set words (n / 32) (bit_or (get_or words (n / 32) 0) b)) (one_shl (n % 32) 32 (omega arith))

  pub other_stays : (bit : ℕ) → bit ≢ n → pending_bit (bit_in words n) bit ≡ pending_bit words bit
  other_stays bit other = ap (λ (ws : List ℕ). pending_bit ws bit) as_power ∙ pend_other words n bit (λ _. fits) other

  pub bits_more : (core irq : ℕ) (irqs : List ℕ) → n ≡ bit_in_row core irq → HasBits core words irqs
      → HasBits core (bit_in words n) (irqs ++ irq ∷ [])
  bits_more core irq irqs is has i low = by (ℕ_discrete i irq)
    where
      by : Dec (i ≡ irq) → IsPending (bit_in words n) (bit_in_row core i) ↔ Contains (irqs ++ irq ∷ []) i
      by (yes same) = (
        λ _. subst (Contains (irqs ++ irq ∷ [])) (sym same) (Contains-push irqs irq),
        λ _. ap (λ j. pending_bit (bit_in words n) (bit_in_row core j)) same
            ∙ ap (pending_bit (bit_in words n)) (sym is)
            ∙ ap (λ (ws : List ℕ). pending_bit ws n) as_power ∙ pend_same words n fits,
      )
      by (no ne) =
          let stays = other_stays (bit_in_row core i) (λ e. ne (omega (arith, e, is))) in (
            λ set. Contains-append_left irqs (irq ∷ []) i ((has i low).0 (sym stays ∙ set)),
            λ there. elim (Contains-push_cases irqs irq i there) [
              | inl before ↦ stays ∙ (has i low).1 before
              | inr last ↦ absurd (ne (sym last))
            ],
          )

-- of words of 0 no bit is set
pub no_bits : (core : ℕ) → HasBits core (replicate 32 0) []
no_bits core irq low = (
  λ is. none_pending (λ _. Contains [] irq) (bit_in_row core irq) is,
  λ is. absurd (contains_none irq is),
)

-- the row of one interrupt more
pub rows_step : (irqs : List (List ℕ × ℕ)) (i : ℕ) (name : List ℕ) (irq : ℕ) → i < length irqs
    → Some (name, irq) ≡ slice_get irqs i
    → map empty_row (map (λ e. e.1) (take i irqs)) ++ empty_row irq ∷ []
    ≡ map empty_row (map (λ e. e.1) (take (i + 1) irqs))
rows_step irqs i name irq below at =
    let e : List ℕ × ℕ = (name, irq) in
    let here : get_or irqs i e ≡ e = same_Some _ _ (sym (slice_get-get_or irqs i e below) ∙ sym at) in
    sym (
    ap (λ (es : List (List ℕ × ℕ)). map empty_row (map (λ e. e.1) es))
    (take_more irqs i e below ∙ ap (λ x. take i irqs ++ x ∷ []) here)
    ∙ ap (map empty_row) (map-append (λ (x : List ℕ × ℕ). x.1) (take i irqs) (e ∷ []))
    ∙ map-append empty_row (map (λ (x : List ℕ × ℕ). x.1) (take i irqs)) (irq ∷ []))

one_entry : (irq n : ℕ) (same : Bool)
    → requests (if same then (irq, n) ∷ [] else []) ≡ (if same then replicate n irq else [])
one_entry irq n true = append-nil (replicate n irq)
one_entry irq n false = refl

line_entries : (number : ℕ) (line : Line) → requests (entries_of number line) ≡ line_pends number line
line_entries number (Steps n) = refl
line_entries number (Ticks n) = refl
line_entries number (Pends irq n) = refl
line_entries number (DeviceLine d irq n) = one_entry irq n (d == number)

-- what a device pends of its entries is what the script has it pend
pub entries_request : (number : ℕ) (lines : List Line)
    → requests (device_script lines number) ≡ pends lines number
entries_request number [] = refl
entries_request number (line ∷ lines) =
    flat_map-append (λ (entry : ℕ × ℕ). replicate entry.1 entry.0) (entries_of number line)
    (flat_map (entries_of number) lines)
    ∙ ap (λ is. is ++ requests (flat_map (entries_of number) lines)) (line_entries number line)
    ∙ ap (λ is. line_pends number line ++ is) (entries_request number lines)

-- one number more, which passes or does not
pub those_next : (test : ℕ → Bool) (n : ℕ) (passes : Bool) → test n ≡ passes
    → those_below test (n + 1) ≡ those_below test n ++ (if passes then n ∷ [] else [])
unfolding those_below
those_next test n passes is =
    ap (those_below test) (add-one n) ∙ ap (λ b. those_below test n ++ (if b then n ∷ [] else [])) is

pub none_below : (test : ℕ → Bool) → those_below test 0 ≡ []
unfolding those_below
none_below test = refl

-- what passes below a number is below it, and all of it is no more than the number
pub below : (test : ℕ → Bool) (n m : ℕ) → Contains (those_below test n) m → m < n
unfolding those_below
below test zero m is = absurd (contains_none m is)
below test (suc n) m is = elim (Contains-append_cases (those_below test n) _ m is) [
  | inl there ↦ omega (arith, below test n m there)
  | inr last ↦ by (test n) last
]
  where
    by : (b : Bool) → Contains (if b then n ∷ [] else []) m → m < suc n
    by true there = elim (contains_cases n [] m there) [
      | inl same ↦ omega (arith, same)
      | inr none ↦ absurd (contains_none m none)
    ]
    by false there = absurd (contains_none m there)

pub few_below : (test : ℕ → Bool) (n : ℕ) → length (those_below test n) ≤ n
unfolding those_below
few_below test zero = omega arith
few_below test (suc n) =
    omega (arith, length-append (those_below test n) (if test n then n ∷ [] else []), few_below test n, by (test n))
  where
    by : (b : Bool) → length (if b then n ∷ [] else []) ≤ 1
    by true = omega arith
    by false = omega arith

-- and a number that passes is among them
pub among_those : (test : ℕ → Bool) (n m : ℕ) → m < n → test m ≡ true → Contains (those_below test n) m
unfolding those_below
among_those test zero m less is = absurd (omega (arith, less))
among_those test (suc n) m less is = by (λ below. among_those test n m below is) (ℕ_discrete n m)
  where
    by : (m < n → Contains (those_below test n) m) → Dec (n ≡ m)
        → Contains (those_below test n ++ (if test n then n ∷ [] else [])) m
    by rest (yes same) = Contains-append_right (those_below test n) _ m (rw (same, is) (contains_here m []))
    by rest (no ne) = Contains-append_left (those_below test n) _ m (rest (omega (arith, less, ne)))

-- those that passed are still among them
pub still_among : (test : ℕ → Bool) (n : ℕ) (passes : Bool) → test n ≡ passes → (m : ℕ)
    → Contains (those_below test n) m → Contains (those_below test (n + 1)) m
still_among test n passes is m there =
    subst (λ (ns : List ℕ). Contains ns m) (sym (those_next test n passes is)) (Contains-append_left _ _ m there)

-- the numbers of devices, with one device more
pub numbers_more : (test : ℕ → Bool) (n : ℕ) (made next : List Device) (d : Device) → next ≡ made ++ d ∷ []
    → d.number ≡ n → test n ≡ true → map (λ (e : Device). e.number) made ≡ those_below test n
    → map (λ (e : Device). e.number) next ≡ those_below test (n + 1)
numbers_more test n made next d pushed number is known =
    ap (map (λ (e : Device). e.number)) pushed ∙ map-append (λ (e : Device). e.number) made (d ∷ [])
    ∙ ap (λ ns. ns ++ d.number ∷ []) known ∙ ap (λ m. those_below test n ++ m ∷ []) number
    ∙ sym (those_next test n true is)
