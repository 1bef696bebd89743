-- The choice among the numbers below one, as it grows by that one.
use Rattle.std.proofs.Common.{◌≡◌, ℕ, ◌<◌, ◌⊎◌, inl, inr, ◌&&◌, Bool, true, false, nat_lt, nat_le, if◌then◌else◌, List}
use Rattle.std.proofs.Common.{[], ◌∷◌, ◌++◌, Option, Some, None, unwrap_or, IsTrue, IsSome, refl, ap, ◌∙◌, arith}
use Rattle.std.proofs.lemmas.Bool.Decides.{nat_tests}
use Rattle.rt_ids.specs.Choice.{best, better_of}
use Rattle.rt_ids.specs.declared.limits.TheConstants.{THREAD_VALUE}
use Rattle.rt_nvic.specs.Nvic.{Nvic, priority_value, is_below, is_pending, priority_of, is_ready, beats, IsReady}
use Rattle.rt_nvic.specs.Inside.First.{value_bound}

abbrev pub chosen : Nvic → ℕ → List ℕ → Option ℕ
chosen n exec irqs = best (is_ready n exec) (beats n) irqs

-- what the test tells, part by part
parts_from_test : (p : Bool) (o : Option ℕ) (exec : ℕ) → (p && is_below o exec) ≡ true → IsTrue p × IsSome o
    × (unwrap_or o THREAD_VALUE < exec)
parts_from_test false o exec h = cc
parts_from_test true None exec h = cc
parts_from_test true (Some value) exec h = (refl, refl, grind (arith, nat_tests))

test_from_parts : (p : Bool) (o : Option ℕ) (exec : ℕ) → IsTrue p → IsSome o → unwrap_or o THREAD_VALUE < exec
    → (p && is_below o exec) ≡ true
test_from_parts false o exec h is l = cc
test_from_parts true None exec h is l = cc
test_from_parts true (Some value) exec h is l = grind (arith, nat_tests)

pub ready_from_test : (n : Nvic) (exec irq : ℕ) → is_ready n exec irq ≡ true → IsReady n exec irq
ready_from_test n exec irq h =
    let parts = parts_from_test (is_pending n irq) (priority_of n irq) exec h in
    record { pending = parts.0; enabled = parts.1; higher = parts.2 }

pub test_from_ready : (n : Nvic) (exec irq : ℕ) → IsReady n exec irq → is_ready n exec irq ≡ true
test_from_ready n exec irq is = test_from_parts (is_pending n irq) (priority_of n irq) exec is.pending is.enabled
    is.higher

tells_by : (p : Bool) (o : Option ℕ) → ((limit : ℕ) → (p && is_below o limit) ≡ false)
    ⊎ ((limit : ℕ) → (p && is_below o limit) ≡ nat_lt (unwrap_or o THREAD_VALUE) limit)
tells_by false o = inl (λ limit. refl)
tells_by true None = inl (λ limit. refl)
tells_by true (Some value) = inr (λ limit. refl)

-- an interrupt is never ready, or wherever its value is below
ready_tells : (n : Nvic) (irq : ℕ) → ((limit : ℕ) → is_ready n limit irq ≡ false)
    ⊎ ((limit : ℕ) → is_ready n limit irq ≡ nat_lt (priority_value n irq) limit)
ready_tells n irq = tells_by (is_pending n irq) (priority_of n irq)

-- a number behind y and behind those of which nothing was chosen
next_none : (v : ℕ → ℕ) (exec y x : ℕ) → v y < exec
    → better_of (λ i j. nat_le (v i) (v j)) y (if nat_lt (v x) exec then Some x else None)
    ≡ (if nat_lt (v x) (v y) then Some x else Some y)
next_none v exec y x h = grind (arith, nat_tests)

abbrev higher : (ℕ → ℕ) → ℕ → ℕ → ℕ
higher v y z = if nat_le (v y) (v z) then y else z

-- and behind those of which z was chosen
next_some : (v : ℕ → ℕ) (y x z : ℕ)
    → better_of (λ i j. nat_le (v i) (v j)) y (if nat_lt (v x) (v z) then Some x else Some z)
    ≡ (if nat_lt (v x) (v (higher v y z)) then Some x else Some (higher v y z))
next_some v y x z = grind (arith, nat_tests)

some_higher : (v : ℕ → ℕ) (y z : ℕ) → (if nat_le (v y) (v z) then Some y else Some z) ≡ Some (higher v y z)
some_higher v y z = grind (arith, nat_tests)

next_by : (n : Nvic) (exec y x : ℕ) (b : Option ℕ) → priority_value n y < exec
    → ((limit : ℕ) → is_ready n limit x ≡ false)
    ⊎ ((limit : ℕ) → is_ready n limit x ≡ nat_lt (priority_value n x) limit)
    → better_of (beats n) y (if is_ready n (value_bound n exec b) x then Some x else b)
    ≡ (if is_ready n (value_bound n exec (better_of (beats n) y b)) x then Some x else better_of (beats n) y b)
next_by n exec y x b h (inl never) = rw (never (value_bound n exec b))
    (rw (never (value_bound n exec (better_of (beats n) y b))) refl)
next_by n exec y x None h (inr wherever) = rw (wherever exec)
    (rw (wherever (priority_value n y)) (next_none (priority_value n) exec y x h))
next_by n exec y x (Some z) h (inr wherever) =
    rw (wherever (priority_value n z)) (rw (some_higher (priority_value n) y z)
    (rw (wherever (priority_value n (higher (priority_value n) y z))) (next_some (priority_value n) y x z)))

next_after : (n : Nvic) (exec y x : ℕ) (b : Option ℕ) (passes : Bool) → is_ready n exec y ≡ passes
    → (if passes then better_of (beats n) y (if is_ready n (value_bound n exec b) x then Some x else b) else
    (if is_ready n (value_bound n exec b) x then Some x else b))
    ≡ (if is_ready n (value_bound n exec (if passes then better_of (beats n) y b else b)) x then Some x else
    (if passes then better_of (beats n) y b else b))
next_after n exec y x b true h = next_by n exec y x b (ready_from_test n exec y h).higher (ready_tells n x)
next_after n exec y x b false h = refl

-- one number more, at the end
pub chosen_more : (n : Nvic) (exec x : ℕ) (irqs : List ℕ) → chosen n exec (irqs ++ x ∷ [])
    ≡ (if is_ready n (value_bound n exec (chosen n exec irqs)) x then Some x else chosen n exec irqs)
chosen_more n exec x [] = refl
chosen_more n exec x (y ∷ irqs) =
    ap (λ (o : Option ℕ). if is_ready n exec y then better_of (beats n) y o else o) (chosen_more n exec x irqs)
    ∙ next_after n exec y x (chosen n exec irqs) (is_ready n exec y) refl
