-- More core steps ask for no less.
use Rattle.std.proofs.Common.{◌≡◌, ℕ, ◌+◌, ◌^◌, ◌≤◌, ◌<◌, List, [], ◌∷◌, ◌++◌, map, take, get_or, length, Option}
use Rattle.std.proofs.Common.{refl, sym, ap, ◌∙◌, arith}
use Rattle.std.specs.List.{AllByRecursion}
use Rattle.std.proofs.Math.Nat.{mul-le-mul_right}
use Rattle.std.proofs.lemmas.List.{map_more}
use Rattle.rt_rta.specs.Response.{most_requests}
use Rattle.rt_rta.proofs.Least.{begun_more}
use Rattle.rt_bounds.specs.declared.longest.Longest.{Longest}
use Rattle.rt_bounds.specs.declared.longest.Longest.TheVariants as longest
use Rattle.rt_image_times.specs.Response.{plus, total, held_off, handlings, load_needed, needed}
use Rattle.rt_image_times.specs.Inside.Sums.{IsAtMost, HaveRoom, IsPositive}
use Rattle.rt_image_times.specs.declared.load.Load.{Load}
use Rattle.rt_image_times.specs.declared.needed.Needed.{Needed}
use Rattle.rt_image_times.specs.declared.needed.Needed.TheVariants as needs

-- one loop is met by both, or both are numbers and the first is no greater
abbrev pub Rises : Needed → Needed → Type 0
Rises (needs.Loop a) (needs.Loop b) = a ≡ b
Rises (needs.Loop a) (needs.Steps n) = ⊥
Rises (needs.Steps m) (needs.Loop b) = ⊥
Rises (needs.Steps m) (needs.Steps n) = m ≤ n

rises_same : (a : Needed) → Rises a a
rises_same (needs.Loop a) = refl
rises_same (needs.Steps n) = omega arith

plus_rises : (a b c d : Needed) → Rises a b → Rises c d → Rises (plus a c) (plus b d)
plus_rises (needs.Loop a) (needs.Loop b) c d first second = first
plus_rises (needs.Loop a) (needs.Steps n) c d first second = absurd first
plus_rises (needs.Steps m) (needs.Loop b) c d first second = absurd first
plus_rises (needs.Steps m) (needs.Steps n) (needs.Loop a) (needs.Loop b) first second = second
plus_rises (needs.Steps m) (needs.Steps n) (needs.Loop a) (needs.Steps l) first second = absurd second
plus_rises (needs.Steps m) (needs.Steps n) (needs.Steps k) (needs.Loop b) first second = absurd second
plus_rises (needs.Steps m) (needs.Steps n) (needs.Steps k) (needs.Steps l) first second = omega (arith, first, second)

handlings_rise : (own : Longest) (m n : ℕ) → m ≤ n → Rises (handlings m own) (handlings n own)
handlings_rise (longest.Loop a) m n less = refl
handlings_rise (longest.Steps own) m n less = mul-le-mul_right (own + 1) less

module _ (steps more : ℕ) (less : steps ≤ more) where
  loads_rise : (all : List Load) → AllByRecursion IsPositive all
      → Rises (total (map (load_needed steps) all)) (total (map (load_needed more) all))
  loads_rise [] positive = omega arith
  loads_rise (load ∷ all) positive =
      plus_rises (load_needed steps load) (load_needed more load) _ _
      (handlings_rise load.longest (most_requests steps load.every) (most_requests more load.every)
      (begun_more steps more load.every positive.0 less))
      (loads_rise all positive.1)

  pub needed_rises : (all : List Load) (wait : Option Longest) → AllByRecursion IsPositive all
      → Rises (needed all wait steps) (needed all wait more)
  needed_rises all wait positive =
      plus_rises (held_off wait) (held_off wait) _ _ (rises_same (held_off wait)) (loads_rise all positive)

-- of two that rise
pub loop_before : (x y : Needed) (a : ℕ) → Rises x y → y ≡ needs.Loop a → x ≡ needs.Loop a
loop_before (needs.Loop b) (needs.Loop c) a rise is = ap (λ n. needs.Loop n) rise ∙ is
loop_before (needs.Loop b) (needs.Steps n) a rise is = absurd rise
loop_before (needs.Steps m) (needs.Loop c) a rise is = absurd rise
loop_before (needs.Steps m) (needs.Steps n) a rise is = absurd cc

pub loop_behind : (x y : Needed) (a : ℕ) → Rises x y → x ≡ needs.Loop a → y ≡ needs.Loop a
loop_behind (needs.Loop b) (needs.Loop c) a rise is = ap (λ n. needs.Loop n) (sym rise) ∙ is
loop_behind (needs.Loop b) (needs.Steps n) a rise is = absurd rise
loop_behind (needs.Steps m) (needs.Loop c) a rise is = absurd rise
loop_behind (needs.Steps m) (needs.Steps n) a rise is = absurd cc

pub steps_before : (x y : Needed) (n : ℕ) → Rises x y → y ≡ needs.Steps n → (m : ℕ) × (x ≡ needs.Steps m)
steps_before (needs.Steps m) y n rise is = (m, refl)
steps_before (needs.Loop b) (needs.Loop c) n rise is = absurd cc
steps_before (needs.Loop b) (needs.Steps k) n rise is = absurd rise

pub less_before : (x y : Needed) (m n : ℕ) → Rises x y → x ≡ needs.Steps m → y ≡ needs.Steps n → m ≤ n
less_before (needs.Steps k) (needs.Steps j) m n rise first second =
    let one : k ≡ m = cc in let other : j ≡ n = cc in omega (arith, rise, one, other)
less_before (needs.Steps k) (needs.Loop c) m n rise first second = absurd rise
less_before (needs.Loop b) y m n rise first second = absurd cc

-- sums
plus_regrouped : (a b c : Needed) → plus a (plus b c) ≡ plus (plus a b) c
plus_regrouped (needs.Loop a) b c = refl
plus_regrouped (needs.Steps m) (needs.Loop b) c = refl
plus_regrouped (needs.Steps m) (needs.Steps n) (needs.Loop c) = refl
plus_regrouped (needs.Steps m) (needs.Steps n) (needs.Steps k) = ap (λ s. needs.Steps s) (omega arith)

pub plus_nothing : (a : Needed) → plus a (needs.Steps 0) ≡ a
plus_nothing (needs.Loop a) = refl
plus_nothing (needs.Steps n) = ap (λ s. needs.Steps s) (omega arith)

nothing_plus : (a : Needed) → a ≡ plus (needs.Steps 0) a
nothing_plus (needs.Loop a) = refl
nothing_plus (needs.Steps n) = ap (λ s. needs.Steps s) (omega arith)

total_end : (xs : List Needed) (x : Needed) → total (xs ++ x ∷ []) ≡ plus (total xs) x
total_end [] x = plus_nothing x ∙ nothing_plus x
total_end (y ∷ ys) x = ap (plus y) (total_end ys x) ∙ plus_regrouped y (total ys) x

-- one load more
pub total_more : (f : Load → Needed) (first sum one : Needed) (all : List Load) (i : ℕ) (d : Load) → i < length all
    → first ≡ plus one (total (map f (take i all))) → sum ≡ plus first (f (get_or all i d))
    → sum ≡ plus one (total (map f (take (i + 1) all)))
total_more f first sum one all i d within so_far next =
    next ∙ ap (λ (s : Needed). plus s (f (get_or all i d))) so_far
    ∙ sym (plus_regrouped one (total (map f (take i all))) (f (get_or all i d)))
    ∙ ap (plus one) (sym (ap total (map_more f all i d within)
    ∙ total_end (map f (take i all)) (f (get_or all i d))))

-- no sum is too great
pub most_more : (a b c : ℕ) (x y : Needed) → a + b ≤ c → IsAtMost a x → IsAtMost b y → IsAtMost c (plus x y)
most_more a b c (needs.Loop k) y fit first second = tt
most_more a b c (needs.Steps m) (needs.Loop k) fit first second = tt
most_more a b c (needs.Steps m) (needs.Steps n) fit first second = omega (arith, fit, first, second)

pub has_room : (a b : ℕ) (x y : Needed) → a + b < 2 ^ 64 → IsAtMost a x → IsAtMost b y → HaveRoom x y
has_room a b (needs.Loop k) y fit first second = tt
has_room a b (needs.Steps m) (needs.Loop k) fit first second = tt
has_room a b (needs.Steps m) (needs.Steps n) fit first second = omega (arith, fit, first, second)
