-- A history with one entry more.
use Rattle.std.proofs.Common.{◌≡◌, ℕ, ◌≢◌, Bool, eqb, cond, List, [], ◌∷◌, ◌++◌, map, refl, sym, ap, ◌∙◌, subst, eq-eqb}
use Rattle.std.proofs.Common.{ne_eqb, filter, append-nil}
use Rattle.std.proofs.lemmas.List.Elements.{filter-append}
use mathlib.Core.List.{map-append}
use Rattle.rt_words.specs.declared.call.Call.{Call}
use Rattle.rt_words.specs.Object.{IsAnswered, after}
use Rattle.rt_words.specs.History.{Entry, LeavesWords, part}

abbrev pub entry : ℕ → Call → Entry
entry n c = record { line = n; call = c }

pub LeavesWords-push : (words last : List ℕ) (history : List Entry) (e : Entry) → LeavesWords words history last
    → IsAnswered last e.call → LeavesWords words (history ++ e ∷ []) (after last e.call)
LeavesWords-push words last [] e h a = (
  subst (λ (w : List ℕ). IsAnswered w e.call) (sym h) a,
  ap (λ (w : List ℕ). after w e.call) h,
)
LeavesWords-push words last (x ∷ xs) e h a = (h.0, LeavesWords-push (after words x.call) last xs e h.1 a)

abbrev of_line : ℕ → Entry → Bool
of_line n e = eqb e.line n

part-push : (history : List Entry) (n m : ℕ) (c : Call) → part (history ++ entry n c ∷ []) m ≡ part history m
    ++ part (entry n c ∷ []) m
part-push history n m c = ap (map (λ (e : Entry). e.call)) (filter-append (of_line m) history (entry n c ∷ []))
    ∙ map-append (λ (e : Entry). e.call) (filter (of_line m) history) (filter (of_line m) (entry n c ∷ []))

one_same : (n : ℕ) (c : Call) → part (entry n c ∷ []) n ≡ c ∷ []
one_same n c = ap (λ b. map (λ (e : Entry). e.call) (cond b (entry n c ∷ []) [])) (eq-eqb n n refl)

one_other : (n m : ℕ) (c : Call) → n ≢ m → part (entry n c ∷ []) m ≡ []
one_other n m c ne = ap (λ b. map (λ (e : Entry). e.call) (cond b (entry n c ∷ []) [])) (ne_eqb n m ne)

-- the part of the entry's line ends with the call
pub part-push_same : (history : List Entry) (n : ℕ) (c : Call) → part (history ++ entry n c ∷ []) n ≡ part history n
    ++ c ∷ []
part-push_same history n c = part-push history n n c ∙ ap (λ (t : List Call). part history n ++ t) (one_same n c)

-- each other part stays
pub part-push_other : (history : List Entry) (n m : ℕ) (c : Call) → n ≢ m → part (history ++ entry n c ∷ []) m
    ≡ part history m
part-push_other history n m c ne = part-push history n m c ∙ ap (λ (t : List Call). part history m ++ t)
    (one_other n m c ne) ∙ append-nil (part history m)
