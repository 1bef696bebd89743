-- What a take finds is what the call right before it gave.
use Rattle.std.proofs.Common.{◌≡◌, ℕ, ◌⊎◌, inl, inr, ⊎_elim, List, [], ◌∷◌, ◌++◌, Option, Some, None, refl, sym, ap}
use Rattle.std.proofs.lemmas.Option.{none-some, same_Some}
use Rattle.rt_values.specs.declared.call.Call.{Call}
use Rattle.rt_values.specs.declared.call.Call.TheVariants.{Give, Take}
use Rattle.rt_values.specs.History.{LeavesWord}
use Rattle.rt_values.specs.Latest.{EndsWithGive, EndsWithTake, TakesFindNothingTwice, TakesFindTheLatest}

module _ (behind : List Call) (last : Option ℕ) where
  finds : (waits : Option ℕ) (before : List Call) (word : ℕ)
      → LeavesWord waits (before ++ Take (Some word) ∷ behind) last
      → ((waits ≡ Some word) × (before ≡ [])) ⊎ EndsWithGive before word
  finds waits [] word h = inl (sym h.0, refl)
  finds waits (Give given answer ∷ calls) word h =
      inr (⊎_elim (λ t. record {
        earlier = [];
        answer = answer;
        is = λ i. Give (same_Some given word t.0 i) answer ∷ t.1 i;
      }) (λ e. record {
        earlier = Give given answer ∷ e.earlier;
        answer = e.answer;
        is = ap (λ (t : List Call). Give given answer ∷ t) e.is;
      }) (finds (Some given) calls word h.1))
  finds waits (Take found ∷ calls) word h =
      inr (⊎_elim (λ t. absurd (none-some word t.0)) (λ e. record {
        earlier = Take found ∷ e.earlier;
        answer = e.answer;
        is = ap (λ (t : List Call). Take found ∷ t) e.is;
      }) (finds None calls word h.1))

  finds_none : (waits : Option ℕ) (before : List Call) → LeavesWord waits (before ++ Take None ∷ behind) last
      → ((waits ≡ None) × (before ≡ [])) ⊎ EndsWithTake before
  finds_none waits [] h = inl (sym h.0, refl)
  finds_none waits (Give given answer ∷ calls) h =
      inr (⊎_elim (λ t. absurd (none-some given (sym t.0))) (λ e. record {
        earlier = Give given answer ∷ e.earlier;
        found = e.found;
        is = ap (λ (t : List Call). Give given answer ∷ t) e.is;
      }) (finds_none (Some given) calls h.1))
  finds_none waits (Take found ∷ calls) h =
      inr (⊎_elim (λ t. record {
        earlier = [];
        found = found;
        is = ap (λ (t' : List Call). Take found ∷ t') t.1;
      }) (λ e. record {
        earlier = Take found ∷ e.earlier;
        found = e.found;
        is = ap (λ (t : List Call). Take found ∷ t) e.is;
      }) (finds_none None calls h.1))

pub find_the_latest : TakesFindTheLatest
find_the_latest before behind word last legal =
    ⊎_elim (λ t. absurd (none-some word t.0)) (λ e. e) (finds behind last None before word legal)

pub find_nothing_twice : TakesFindNothingTwice
find_nothing_twice before behind last legal =
    ⊎_elim (λ t. inl t.1) (λ e. inr e) (finds_none behind last None before legal)
