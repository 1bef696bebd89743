-- How many turns the loops take: that upwards in a `spawn_after`, and that downwards in the timer handler. One for each
-- binary digit of the number of messages, or for each message, whichever are fewer: so their sections are within both
-- of their costs.
use Rattle.rt_gen_queue.proofs.Vocabulary.{AllByRecursion, App, Bool, IsAccepted, KeepsTaskLimits, List, Task, []}
use Rattle.rt_gen_queue.proofs.Vocabulary.{arith, armed_count, armed_messages, cases_lt, false, if◌then◌else◌, inl, inr}
use Rattle.rt_gen_queue.proofs.Vocabulary.{is_armed, length, suc, true, zero, ℕ, ◌*◌, ◌+◌, ◌-◌, ◌<◌, ◌^◌, ◌∷◌, ◌≡◌, ◌≤◌}
use Rattle.std.proofs.Math.Nat.{pow-le-pow_right, pow-succ'}
use Rattle.rt_app.specs.Level.{armed_capacities, armed_tasks}
use Rattle.rt_gen_timer.proofs.{Settling.reach_enough, Settling.reach_is, Sifting.rise_reach}
use Rattle.rt_gen_timer.specs.TimerCalls.{IsSectionCost}

-- the steps of the section in which a message is armed, at most, where the loop upwards may take so many turns
abbrev pub arm_steps : ℕ → ℕ
arm_steps turns = 43 + 15 * turns

-- so many turns are enough, and within a cost of the section
pub record AreTurns (app : App) (cost : ℕ) : Type 0 where
  pub turns : ℕ
  pub reach : armed_messages app < rise_reach turns
  pub few : turns ≤ armed_messages app
  pub enough : arm_steps turns ≤ cost

pub turns_for : (app : App) (cost : ℕ) → IsSectionCost app cost → AreTurns app cost
turns_for app cost costs =
    let by_messages : arm_steps (armed_messages app) ≤ cost → AreTurns app cost =
    λ enough. record {
      turns = armed_messages app;
      reach = reach_enough (armed_messages app);
      few = omega arith;
      enough = enough;
    } in
    elim costs [
      | inl is ↦ by_messages (omega (arith, is))
      | inr (digits, below, is) ↦ elim (cases_lt digits (armed_messages app)) [
        | inl less ↦
            record {
              turns = digits;
              reach = omega (arith, below, reach_is digits, pow-succ' 2 digits);
              few = omega (arith, less);
              enough = omega (arith, is);
            }
        | inr most ↦ by_messages (omega (arith, is, most))
      ]
    ]

module _ (app : App) where
  -- a task that may be armed has a place at least
  counts_within : (n : ℕ) (ts : List Task) → AllByRecursion KeepsTaskLimits ts
      → armed_count app n ts ≤ armed_capacities app n ts
  counts_within n [] all = omega arith
  counts_within n (t ∷ ts) all =
      omega (arith, one (is_armed app n) t.capacity all.0.least_capacity, counts_within (n + 1) ts all.1)
    where
      one : (b : Bool) (c : ℕ) → 1 ≤ c → (if b then 1 else 0) ≤ (if b then c else 0)
      one true c least = least
      one false c least = omega arith

  counts_few : (n : ℕ) (ts : List Task) → armed_count app n ts ≤ length ts
  counts_few n [] = omega arith
  counts_few n (t ∷ ts) = omega (arith, one (is_armed app n), counts_few (n + 1) ts)
    where
      one : (b : Bool) → (if b then 1 else 0) ≤ 1
      one true = omega arith
      one false = omega arith

-- the steps of the choices are within those of the digits
few_tries : (digits tasks : ℕ) → 0 < digits → tasks < 2 ^ digits → tasks ≤ 64 → 3 * tasks ≤ 15 + 33 * digits
few_tries digits tasks some less few =
    let most : (n : ℕ) → digits ≤ n → 2 ^ digits ≤ 2 ^ n = λ n within. pow-le-pow_right (omega arith) within in
    elim (cases_lt 3 digits) [
      | inr small ↦ omega (arith, most 3 small)
      | inl larger ↦ elim (cases_lt 5 digits) [ inl large ↦ omega arith | inr middle ↦ omega (arith, most 5 middle) ]
    ]

-- so many turns downwards are enough where a message is armed
pub record AreSinks (app : App) (cost : ℕ) : Type 0 where
  pub turns : ℕ
  pub reach : armed_messages app ≤ rise_reach turns
  pub few : turns < armed_messages app
  pub enough : 80 + 31 * turns + 3 * armed_tasks app ≤ cost

pub sinks_for : (app : App) (cost : ℕ) → IsAccepted app → IsSectionCost app cost → 0 < armed_messages app
    → AreSinks app cost
sinks_for app cost accepted costs some =
    let few : armed_tasks app ≤ 64 =
    omega (arith, counts_few app 0 app.tasks, accepted.limits.few_tasks) in
    let within : armed_tasks app ≤ armed_messages app = counts_within app 0 app.tasks accepted.limits.tasks in
    let n : ℕ = armed_messages app in
    let by_messages : 80 + 31 * (n - 1) + 3 * armed_tasks app ≤ cost → AreSinks app cost =
    λ enough. record {
      turns = n - 1;
      reach = omega (arith, reach_enough (n - 1));
      few = omega arith;
      enough = enough;
    } in
    elim costs [
      | inl is ↦ by_messages (omega (arith, is))
      | inr (digits, below, is) ↦
          elim (cases_lt n digits) [
            | inl less ↦ by_messages (omega (arith, is))
            | inr most ↦ by_digits digits below is few within most
          ]
    ]
  where
    by_digits : (digits : ℕ) → armed_messages app < 2 ^ digits → cost ≡ 64 + 64 * digits → armed_tasks app ≤ 64
        → armed_tasks app ≤ armed_messages app → digits ≤ armed_messages app → AreSinks app cost
    by_digits zero below is few within most = absurd (omega arith)
    by_digits (suc turns) below is few within most = record {
      turns = turns;
      reach = omega (arith, reach_is turns);
      few = omega arith;
      enough = omega (arith, is, few_tries (suc turns) (armed_tasks app) (omega arith) (omega arith) few);
    }

-- where none is due the section is shorter than any cost
pub idle_enough : (app : App) (cost : ℕ) → IsSectionCost app cost → 64 ≤ cost
idle_enough app cost (inl is) = omega (arith, is)
idle_enough app cost (inr (digits, below, is)) = omega (arith, is)
