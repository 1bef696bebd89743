-- One event: where it leads, and the lines of what it shows.
use Rattle.std.proofs.Common.{◌≡◌, ℕ, zero, suc, ◌+◌, ◌-◌, ◌*◌, ◌/◌, ◌%◌, ◌==◌, ◌<◌, ◌≤◌, ◌≢◌, ◌^◌, inl, inr, List, []}
use Rattle.std.proofs.Common.{◌∷◌, ◌++◌, map, filter, flat_map, Option, Some, None, Bool, true, false, if◌then◌else◌}
use Rattle.std.proofs.Common.{length, refl, ap, sym, subst, ◌∙◌, arith}
use Rattle.std.specs.Int.{bit_at}
use Rattle.std.specs.List.{AllByRecursion}
use Rattle.std.proofs.lemmas.Bool.{cases_lt}
use Rattle.std.proofs.lemmas.List.{append-nil}
use Rattle.std.proofs.lemmas.List.Elements.{filter-append}
use Rattle.std.proofs.lemmas.Nat.{one_shl}
use Rattle.std.proofs.lemmas.Nat.Bits.{bit_at-pow_same, bit_at-pow_other}
use Rattle.rt_ids.specs.Arrivals.{arrivals}
use Rattle.rt_ids.specs.Event.{Arrive, Tick, Step}
use Rattle.rt_ids.specs.Lists.{numbers_below}
use Rattle.rt_ids.specs.Names.{Names}
use Rattle.rt_ids.specs.Naming.{IsDeclared}
use Rattle.rt_core.specs.Machine.{Machine}
use Rattle.rt_core.specs.Stepping.{step}
use Rattle.rt_core.specs.Trace.{happen, core_after, labels}
use Rattle.rt_core.specs.Transfer.{core_after_pend}
use Rattle.rt_trace.specs.Label.{Label, Ticked, Rang, Stepped, items_of}
use Rattle.rt_trace.specs.Lined.{HasLine, HasOperands}
use Rattle.rt_trace.specs.Text.{text}
use Rattle.rt_trace.specs.declared.item.Item.{Item}
use Rattle.rt_trace.specs.declared.item.What.{What}
use Rattle.rt_trace.specs.declared.item.What.TheVariants as what
use Rattle.rt_run.specs.Done.{Leads}
use Rattle.rt_run.specs.Sending.{shown_items, lines_of}

abbrev numbered : ℕ → What → Item
numbered n w = record { step = n; what = w }

pub step_leads : (old new : Machine) → new ≡ record old { core = (step old.image old.core).0; steps = suc old.steps }
    → Leads (Step ∷ []) old new
unfolding core_after happen
step_leads old new state =
    subst (λ (m : Machine). Leads (Step ∷ []) old m) (sym state) (record {
      image = refl;
      core = refl;
      steps = let e : suc old.steps ≡ old.steps + 1 = omega arith in e;
    })

-- a silent step shows nothing
pub silent_lines : (m : Machine) (shown : Option What) → shown ≡ (step m.image m.core).1 → shown ≡ None
    → lines_of m (Step ∷ []) ≡ []
unfolding labels happen
silent_lines m shown item none =
    ap (λ w. flat_map (text m.image.names) (items_of m.steps (Stepped w ∷ []))) (sym item ∙ none)

pub silent_lined : (m : Machine) (shown : Option What) → shown ≡ (step m.image m.core).1 → shown ≡ None
    → AllByRecursion (HasLine m.image.names) (shown_items m (Step ∷ []))
unfolding labels happen
silent_lined m shown item none =
    subst (λ w. AllByRecursion (HasLine m.image.names) (items_of m.steps (Stepped w ∷ []))) (sym (sym item ∙ none)) tt

-- another shows its item, which has the number of the steps before it
pub step_lines : (m : Machine) (names : Names) (shown : Option What) (w : What) (k : ℕ) → names ≡ m.image.names
    → shown ≡ (step m.image m.core).1 → shown ≡ Some w → k ≡ suc m.steps
    → lines_of m (Step ∷ []) ≡ text names (numbered (k - 1) w)
unfolding labels happen
step_lines m names shown w k named item some counted =
    ap (λ s. flat_map (text m.image.names) (items_of m.steps (Stepped s ∷ []))) (sym item ∙ some)
    ∙ append-nil (text m.image.names (numbered m.steps w))
    ∙ ap (λ (n : Names). text n (numbered m.steps w)) (sym named)
    ∙ ap (λ n. text names (numbered n w)) (let e : m.steps ≡ k - 1 = omega (arith, counted) in e)

pub step_lined : (m : Machine) (names : Names) (shown : Option What) (w : What) (k : ℕ) → names ≡ m.image.names
    → shown ≡ (step m.image m.core).1 → shown ≡ Some w → k ≡ suc m.steps → HasLine names (numbered (k - 1) w)
    → AllByRecursion (HasLine m.image.names) (shown_items m (Step ∷ []))
unfolding labels happen
step_lined m names shown w k named item some counted line =
    let numbers : k - 1 ≡ m.steps = omega (arith, counted) in
    let here : HasLine m.image.names (numbered m.steps w) =
    subst (λ (n : Names). HasLine n (numbered m.steps w)) named
    (subst (λ n. HasLine names (numbered n w)) numbers line) in
    subst (λ s. AllByRecursion (HasLine m.image.names) (items_of m.steps (Stepped s ∷ []))) (sym (sym item ∙ some))
    (here, tt)

pub tick_shows : (m : Machine) (came : Bool)
    → (happen m.image m.core Tick).1 ≡ Ticked ∷ (if came then Rang ∷ [] else [])
    → 0 < length (shown_items m (Tick ∷ []))
unfolding labels
tick_shows m came shown =
    let rest : List Item = items_of m.steps (if came then Rang ∷ [] else []) in
    let is : items_of m.steps ((happen m.image m.core Tick).1 ++ []) ≡ numbered m.steps what.Tick ∷ rest =
    ap (items_of m.steps) (append-nil (happen m.image m.core Tick).1 ∙ shown) in
    omega (arith, ap length is)

pub pend_shows : (m : Machine) (irq : ℕ) → 0 < length (shown_items m (Arrive irq ∷ []))
unfolding labels happen
pend_shows m irq = let e : 0 < length (numbered m.steps (what.Pend irq) ∷ []) = omega arith in e

pub tick_leads : (old new : Machine) → new ≡ record old { core = (happen old.image old.core Tick).0 }
    → Leads (Tick ∷ []) old new
unfolding core_after
tick_leads old new state =
    subst (λ (m : Machine). Leads (Tick ∷ []) old m) (sym state) (record {
      image = refl;
      core = refl;
      steps = let e : old.steps ≡ old.steps + 0 = omega arith in e;
    })

pub tick_lines : (m : Machine) (names : Names) (came : Bool) (k : ℕ) → names ≡ m.image.names → k ≡ m.steps
    → (happen m.image m.core Tick).1 ≡ Ticked ∷ (if came then Rang ∷ [] else [])
    → lines_of m (Tick ∷ []) ≡ flat_map (text names) (items_of k (Ticked ∷ (if came then Rang ∷ [] else [])))
unfolding labels
tick_lines m names came k named counted shown =
    let all : List Label = Ticked ∷ (if came then Rang ∷ [] else []) in
    ap (λ ls. flat_map (text m.image.names) (items_of m.steps ls)) (append-nil (happen m.image m.core Tick).1 ∙ shown)
    ∙ ap (λ (n : Names). flat_map (text n) (items_of m.steps all)) (sym named)
    ∙ ap (λ n. flat_map (text names) (items_of n all)) (sym counted)

pub tick_lined : (m : Machine) (came : Bool) → m.steps < 2 ^ 31
    → (happen m.image m.core Tick).1 ≡ Ticked ∷ (if came then Rang ∷ [] else [])
    → AllByRecursion (HasLine m.image.names) (shown_items m (Tick ∷ []))
unfolding labels
tick_lined m came few shown =
    subst (λ ls. AllByRecursion (HasLine m.image.names) (items_of m.steps ls))
    (sym (append-nil (happen m.image m.core Tick).1 ∙ shown)) (by came)
  where
    bare : {w : What} → HasOperands m.image.names w → HasLine m.image.names (record { step = m.steps; what = w })
    bare has = record { step = few; operands = has }

    by : (came : Bool)
        → AllByRecursion (HasLine m.image.names) (items_of m.steps (Ticked ∷ (if came then Rang ∷ [] else [])))
    by true = (bare (record { written = tt; few = tt }), (bare (record { written = tt; few = tt }), tt))
    by false = (bare (record { written = tt; few = tt }), tt)

-- of a power of two one bit is set
only_bits : (k n : ℕ) → (k < n → filter (λ bit. bit_at (2 ^ k) bit == 1) (numbers_below n) ≡ k ∷ [])
    × (n ≤ k → filter (λ bit. bit_at (2 ^ k) bit == 1) (numbers_below n) ≡ [])
unfolding numbers_below
only_bits k zero = (λ l. absurd (omega (arith, l)), λ l. refl)
only_bits k (suc n) = (
  λ l. split ∙ elim (cases_lt k n) [
    | inl less ↦ ap (λ bits. bits ++ filter test (n ∷ [])) ((only_bits k n).0 less)
        ∙ ap (λ bits. k ∷ bits) (fails (let e : n ≢ k = (λ same. omega (arith, same, less)) in e))
    | inr more ↦ let same : n ≡ k = omega (arith, l, more) in
        ap (λ bits. bits ++ filter test (n ∷ [])) ((only_bits k n).1 more) ∙ passes same
  ],
  λ l. split ∙ ap (λ bits. bits ++ filter test (n ∷ [])) ((only_bits k n).1 (omega (arith, l)))
      ∙ fails (let e : n ≢ k = (λ same. omega (arith, same, l)) in e),
)
  where
    test : ℕ → Bool
    test bit = bit_at (2 ^ k) bit == 1

    split : filter test (numbers_below n ++ n ∷ []) ≡ filter test (numbers_below n) ++ filter test (n ∷ [])
    split = filter-append test (numbers_below n) (n ∷ [])

    fails : n ≢ k → filter test (n ∷ []) ≡ []
    fails other = ap (λ b. if b then n ∷ [] else []) (ap (λ v. v == 1) (bit_at-pow_other k n other))

    passes : n ≡ k → filter test (n ∷ []) ≡ k ∷ []
    passes same = ap (λ m. filter test (m ∷ [])) same
        ∙ ap (λ b. if b then k ∷ [] else []) (ap (λ v. v == 1) (bit_at-pow_same k))

-- a shifted 1 has one bit
pub only_bit : (k bit : ℕ) → k < 32 → bit_at (1 * 2 ^ k % 2 ^ 32) bit ≡ 1 → bit ≡ k
only_bit k bit within set =
    let power : bit_at (2 ^ k) bit ≡ 1 = ap (λ n. bit_at n bit) (sym (one_shl k 32 within)) ∙ set in
    grind (arith, bit_at-pow_other k bit)

-- the word of one request
pub one_arrival : (irq : ℕ) → arrivals (irq / 32) (1 * 2 ^ (irq % 32) % 2 ^ 32) ≡ irq ∷ []
one_arrival irq =
    let within : irq % 32 < 32 = omega arith in
    ap (λ bits. arrivals (irq / 32) bits) (one_shl (irq % 32) 32 within)
    ∙ ap (map (λ bit. 32 * (irq / 32) + bit)) ((only_bits (irq % 32) 32).0 within)
    ∙ ap (λ n. n ∷ []) (let e : 32 * (irq / 32) + irq % 32 ≡ irq = omega arith in e)

pub pend_leads : (old new : Machine) (irq : ℕ) (irqs : List ℕ) → irqs ≡ irq ∷ []
    → new ≡ record old { core = core_after old.image old.core (map Arrive irqs) } → Leads (Arrive irq ∷ []) old new
unfolding core_after happen
pend_leads old new irq irqs one state =
    let is : new ≡ record old { core = core_after_pend old.core irq } =
    state ∙ ap (λ is. record old { core = core_after old.image old.core (map Arrive is) }) one in
    subst (λ (m : Machine). Leads (Arrive irq ∷ []) old m) (sym is) (record {
      image = refl;
      core = refl;
      steps = let e : old.steps ≡ old.steps + 0 = omega arith in e;
    })

pub pend_lines : (m : Machine) (names : Names) (irq k : ℕ) → names ≡ m.image.names → k ≡ m.steps
    → lines_of m (Arrive irq ∷ []) ≡ text names (numbered k (what.Pend irq))
unfolding labels happen
pend_lines m names irq k named counted =
    append-nil (text m.image.names (numbered m.steps (what.Pend irq)))
    ∙ ap (λ (n : Names). text n (numbered m.steps (what.Pend irq))) (sym named)
    ∙ ap (λ n. text names (numbered n (what.Pend irq))) (sym counted)

pub pend_lined : (m : Machine) (irq : ℕ) → m.steps < 2 ^ 31 → IsDeclared m.image.names irq
    → AllByRecursion (HasLine m.image.names) (shown_items m (Arrive irq ∷ []))
unfolding labels happen
pend_lined m irq few declared = (record { step = few; operands = record { written = (declared, tt); few = tt } }, tt)
