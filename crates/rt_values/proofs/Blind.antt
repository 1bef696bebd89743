-- A take that finds no word without a look keeps no rule: worked for a mailbox in which a word waits that was given.
use Rattle.std.proofs.Common.{◌≡◌, ℕ, zero, suc, ◌+◌, ◌^◌, true, false, List, [], ◌∷◌, Option, Some, None, refl, sym}
use Rattle.std.proofs.Common.{ap, ◌∙◌}
use Rattle.std.proofs.Common.{subst, arith}
use Rattle.std.proofs.lemmas.Bool.{false≢true}
use Rattle.std.proofs.lemmas.Option.{none-some}
use mathlib.Core.Option.{some, some-injective, some-ne-none}
use lib.ListN.{get_elem?}
use Rattle.atomic_table.specs.Table.{State, Allows}
use Rattle.rt_values.specs.declared.call.Given.TheVariants.{Raised}
use Rattle.rt_values.specs.declared.call.Call.{Call}
use Rattle.rt_values.specs.declared.call.Call.TheVariants.{Give, Take}
use Rattle.rt_values.specs.declared.view.View.{View}
use Rattle.rt_values.specs.History.{LeavesWord, gives, takes}
use Rattle.rt_values.specs.Object.{waiting}
use Rattle.rt_values.specs.Inside.Rule.{HasHistory, Knows, HistoryStands}
use Rattle.rt_values.specs.Inside.Steps.{Seat}
use Rattle.rt_values.proofs.Histories.{prefix_none, prefix_self}

-- the giver has given 65, and has seen that
abbrev give : Call
give = Give 65 Raised

abbrev taker_seat : View
taker_seat = record { gives = false; takes = true; given = []; taken = []; seen = []; last = [] }

abbrev giver_seat : View
giver_seat = record { gives = true; takes = false; given = give ∷ []; taken = []; seen = give ∷ []; last = [] }

abbrev views : List View
views = taker_seat ∷ giver_seat ∷ []

abbrev table : State (Unit {0}) View
table = record { words = (2 ^ 32 + 65) ∷ []; homes = []; views = views }

known : (seat : ℕ) (v : View) → get_elem? views seat ≡ some v → Knows (give ∷ []) v
known zero v at =
    subst (Knows (give ∷ [])) (some-injective taker_seat v at)
    record {
      seen = prefix_none (give ∷ []);
      given = λ m. absurd (false≢true m);
      taken = λ m. refl;
      last = λ m t. absurd (false≢true m);
    }
known (suc zero) v at =
    subst (Knows (give ∷ [])) (some-injective giver_seat v at)
    record {
      seen = prefix_self (give ∷ []);
      given = λ m. refl;
      taken = λ m. absurd (false≢true m);
      last = λ m t. absurd (false≢true t);
    }
known (suc (suc seat)) v at = absurd (some-ne-none v (sym at))

gives_at : (seat : ℕ) (v : View) → get_elem? views seat ≡ some v → v.gives ≡ true → seat ≡ 1
gives_at zero v at m = absurd (false≢true (ap (λ (x : View). x.gives) (some-injective taker_seat v at) ∙ m))
gives_at (suc zero) v at m = refl
gives_at (suc (suc seat)) v at m = absurd (some-ne-none v (sym at))

takes_at : (seat : ℕ) (v : View) → get_elem? views seat ≡ some v → v.takes ≡ true → seat ≡ 0
takes_at zero v at m = refl
takes_at (suc zero) v at m = absurd (false≢true (ap (λ (x : View). x.takes) (some-injective giver_seat v at) ∙ m))
takes_at (suc (suc seat)) v at m = absurd (some-ne-none v (sym at))

standing : HistoryStands ((2 ^ 32 + 65) ∷ []) views (give ∷ []) (2 ^ 32 + 65)
standing = record {
  one = refl;
  small = omega arith;
  legal = (refl, refl);
  known = known;
  one_gives = λ i j v w a b m n. gives_at i v a m ∙ sym (gives_at j w b n);
  one_takes = λ i j v w a b m n. takes_at i v a m ∙ sym (takes_at j w b n);
}

-- behind the give, a take that finds no word is not legal
illegal : (more : List Call) (last : Option ℕ) → LeavesWord (Some 65) more last → gives more ≡ []
    → takes more ≡ Take None ∷ [] → ⊥
illegal [] last leads none one = absurd cc
illegal (Give word answer ∷ calls) last leads none one = absurd cc
illegal (Take found ∷ calls) last leads none one = let same : found ≡ None = cc in none-some 65 (sym same ∙ leads.0)

-- the taker has made one take, which found no word
abbrev pub FindsBlindly : ℕ → Seat → Type 0
FindsBlindly found after = (after.0.takes ≡ true) × (after.0.taken ≡ Take None ∷ [])

-- no step has that, whatever it writes into the word of memory
pub blind_refused : (f : ℕ → ℕ) → Allows HasHistory 0 0 (taker_seat, []) 0 f FindsBlindly → ⊥
blind_refused f allows =
    let step = allows table (give ∷ [], 2 ^ 32 + 65, standing) refl refl (omega arith) in
    let history : List Call = step.3.0 in
    let st = step.3.2 in
    let mine = st.known 0 step.0 refl in
    let other = st.known 1 giver_seat refl in
    let more : List Call = other.seen.0 in
    let goes_on : give ∷ more ≡ history = other.seen.1 in
    let left : Option ℕ = waiting step.3.1 in
    let legal : LeavesWord None (give ∷ more) left =
    subst (λ (h : List Call). LeavesWord None h left) (sym goes_on) st.legal in
    let gave : give ∷ gives more ≡ give ∷ [] = ap gives goes_on ∙ other.given refl in
    let none : gives more ≡ [] = cc in
    illegal more left legal.1 none (ap takes goes_on ∙ mine.taken step.4.0 ∙ step.4.1)
