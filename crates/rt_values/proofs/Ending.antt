-- The rule at the end tells one history of the word that is left.
use Rattle.std.proofs.Common.{◌≡◌, ℕ, true, List, sym, ap, ◌∙◌, subst}
use mathlib.Core.Option.{some, some-injective}
use lib.ListN.{get_elem?}
use Rattle.atomic_table.specs.Table.{Final, Seen}
use Rattle.rt_values.specs.declared.view.View.{View}
use Rattle.rt_values.specs.History.{OneHistory}
use Rattle.rt_values.specs.Inside.Rule.{HasHistory}
use Rattle.rt_values.specs.Object.{waiting}

pub ends : (words : List ℕ) (slots : List (Unit {0})) (id : ℕ) (v : View) (word : ℕ) → v.gives ≡ true → v.takes ≡ true
    → Final (Seen HasHistory id v) words slots → get_elem? words 0 ≡ some word
    → OneHistory v.given v.taken v.last (waiting word)
ends words slots id v word gives takes f read =
    let kept = f.1.0 in
    let st = kept.2 in
    let mine = st.known id v f.1.1 in
    let same : kept.1 ≡ word =
    some-injective kept.1 word (ap (λ (ws : List ℕ). get_elem? ws 0) (sym st.one ∙ f.2) ∙ read) in
    subst (λ (n : ℕ). OneHistory v.given v.taken v.last (waiting n)) same record {
      history = kept.0;
      legal = st.legal;
      gives_are = mine.given gives;
      takes_are = mine.taken takes;
      ended = mine.last gives takes;
    }
