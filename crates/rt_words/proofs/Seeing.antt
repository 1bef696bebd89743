-- What the seats have seen stays a beginning of the history.
use Rattle.std.proofs.Common.{ℕ, List, [], ◌∷◌, ◌++◌, set, sym, ap, subst, ◌∙◌, ⊎_elim, append_assoc, append-nil, refl}
use mathlib.Core.List.{IsPrefix}
use Rattle.atomic_table.proofs.Lists.{at_set}
use Rattle.rt_words.specs.declared.view.View.{View}
use Rattle.rt_words.specs.declared.call.Call.{Call}
use Rattle.rt_words.specs.History.{Entry}
use Rattle.rt_words.specs.Inside.Seats.{HaveSeen}
use Rattle.rt_words.specs.Inside.Steps.{ExtendsByCall}
use Rattle.rt_words.proofs.Lists.{at_push}
use Rattle.rt_words.proofs.Histories.{entry}

pub prefix_self : (history : List Entry) → IsPrefix history history
prefix_self history = ([], append-nil history)

pub prefix_none : (history : List Entry) → IsPrefix [] history
prefix_none history = (history, refl)

-- a beginning of what goes on
pub prefix_on : (seen history more : List Entry) → IsPrefix seen history → IsPrefix seen (history ++ more)
prefix_on seen history more p = (p.0 ++ more, sym (append_assoc seen p.0 more) ∙ ap (λ (t : List Entry). t ++ more) p.1)

-- the view of one seat changes, and the history goes on
pub seen_more : (history more : List Entry) (views : List View) (id : ℕ) (w : View) → HaveSeen history views
    → IsPrefix w.seen (history ++ more) → HaveSeen (history ++ more) (set views id w)
seen_more history more views id w all here seat u at =
    ⊎_elim (λ t. subst (λ (x : View). IsPrefix x.seen (history ++ more)) t.1 here)
    (λ t. prefix_on u.seen history more (all seat u t.1)) (at_set views id seat w u at)

-- and the history stays
pub seen_set : (history : List Entry) (views : List View) (id : ℕ) (w : View) → HaveSeen history views
    → IsPrefix w.seen history → HaveSeen history (set views id w)
seen_set history views id w all here seat u at =
    ⊎_elim (λ t. subst (λ (x : View). IsPrefix x.seen history) t.1 here) (λ t. all seat u t.1)
    (at_set views id seat w u at)

pub seen_push : (history : List Entry) (views : List View) (w : View) → HaveSeen history views → IsPrefix w.seen history
    → HaveSeen history (views ++ w ∷ [])
seen_push history views w all here seat u at =
    ⊎_elim (λ old. all seat u old) (λ t. subst (λ (x : View). IsPrefix x.seen history) t.1 here)
    (at_push views w u seat at)

-- the history with a call more goes on behind what was seen
pub extends : (seen history : List Entry) (line : ℕ) (c : Call) → IsPrefix seen history
    → ExtendsByCall seen line c (history ++ entry line c ∷ [])
extends seen history line c p = (p.0, ap (λ (t : List Entry). t ++ entry line c ∷ []) (sym p.1))
