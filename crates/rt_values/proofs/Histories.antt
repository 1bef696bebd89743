-- A history with one call more, and what waits in a word of memory.
use Rattle.std.proofs.Common.{◌≡◌, ℕ, ◌-◌, ◌^◌, ◌≤◌, nat_le, Bool, true, false, List, [], ◌∷◌, ◌++◌}
use Rattle.std.proofs.Common.{Option, Some, None, if◌then◌else◌, refl, sym, ap, ◌∙◌, subst, append_assoc, append-nil}
use Rattle.std.proofs.lemmas.Bool.{le-leb}
use Rattle.std.proofs.lemmas.List.Elements.{filter-append}
use Rattle.std.proofs.lemmas.Option.{none-some}
use mathlib.Core.List.{IsPrefix}
use Rattle.rt_values.specs.declared.call.Given.{Given}
use Rattle.rt_values.specs.declared.call.Given.TheVariants.{Raised, Merged}
use Rattle.rt_values.specs.declared.call.Call.{Call}
use Rattle.rt_values.specs.declared.call.Call.TheVariants.{Give, Take}
use Rattle.rt_values.specs.Object.{IsAnswered, after, waiting}
use Rattle.rt_values.specs.History.{EndsWith, LeavesWord, gives, takes, is_give, is_taker_call}
use Rattle.rt_values.specs.Inside.Steps.{ExtendsByCall, answer_at}

pub LeavesWord-push : (waits last : Option ℕ) (history : List Call) (c : Call) → LeavesWord waits history last
    → IsAnswered last c → LeavesWord waits (history ++ c ∷ []) (after last c)
LeavesWord-push waits last [] c h a = (
  subst (λ (w : Option ℕ). IsAnswered w c) (sym h) a,
  ap (λ (w : Option ℕ). after w c) h,
)
LeavesWord-push waits last (x ∷ xs) c h a = (h.0, LeavesWord-push (after waits x) last xs c h.1 a)

-- the calls of one side end with its call
pub gives_push : (history : List Call) (word : ℕ) (answer : Given) → gives (history ++ Give word answer ∷ [])
    ≡ gives history ++ Give word answer ∷ []
gives_push history word answer = filter-append is_give history (Give word answer ∷ [])

pub takes_push : (history : List Call) (found : Option ℕ) → takes (history ++ Take found ∷ [])
    ≡ takes history ++ Take found ∷ []
takes_push history found = filter-append is_taker_call history (Take found ∷ [])

-- and those of the other side stay
pub takes_stay : (history : List Call) (word : ℕ) (answer : Given) → takes (history ++ Give word answer ∷ [])
    ≡ takes history
takes_stay history word answer =
    filter-append is_taker_call history (Give word answer ∷ []) ∙ append-nil (takes history)

pub gives_stay : (history : List Call) (found : Option ℕ) → gives (history ++ Take found ∷ []) ≡ gives history
gives_stay history found = filter-append is_give history (Take found ∷ []) ∙ append-nil (gives history)

-- a history that ends with some calls, and goes on
pub ends_push : (history last : List Call) (c : Call) → EndsWith history last
    → EndsWith (history ++ c ∷ []) (last ++ c ∷ [])
ends_push history last c e = record {
  earlier = e.earlier;
  is = ap (λ (t : List Call). t ++ c ∷ []) e.is ∙ append_assoc e.earlier last (c ∷ []);
}

-- a beginning of what goes on
pub prefix_on : (seen history more : List Call) → IsPrefix seen history → IsPrefix seen (history ++ more)
prefix_on seen history more p = (p.0 ++ more, sym (append_assoc seen p.0 more) ∙ ap (λ (t : List Call). t ++ more) p.1)

pub prefix_self : (history : List Call) → IsPrefix history history
prefix_self history = ([], append-nil history)

pub prefix_none : (history : List Call) → IsPrefix [] history
prefix_none history = (history, refl)

-- the history with a call more goes on behind what was seen
pub extends : (seen history : List Call) (c : Call) → IsPrefix seen history → ExtendsByCall seen c (history ++ c ∷ [])
extends seen history c p = (p.0, ap (λ (t : List Call). t ++ c ∷ []) (sym p.1))

-- the answer to a give is that of what waits in the word of memory
pub answered : (found word : ℕ) → IsAnswered (waiting found) (Give word (answer_at found))
answered found word = by (nat_le (2 ^ 32) found)
  where
    by : (b : Bool)
        → IsAnswered (if b then Some (found - 2 ^ 32) else None) (Give word (if b then Merged else Raised))
    by true = λ e. none-some (found - 2 ^ 32) (sym e)
    by false = refl

-- the word that is left by a give waits
pub waits : (n : ℕ) → 2 ^ 32 ≤ n → waiting n ≡ Some (n - 2 ^ 32)
waits n l = ap (λ b. if b then Some (n - 2 ^ 32) else None) (le-leb (2 ^ 32) n l)
