-- The end: the words that are left, and the account.
use Rattle.std.proofs.Common.{◌≡◌, ◌≢◌, ℕ, zero, suc, ◌+◌, ◌-◌, ◌<◌, ◌≤◌, List, [], ◌∷◌, length, get_or, set, sum_by}
use Rattle.std.proofs.Common.{count_by, Bool, Contains, sym, ap, ◌∙◌, subst, arith, length-append, length-set}
use Rattle.std.proofs.Common.{get_or-set_same, get_or-set_other}
use Rattle.std.proofs.lemmas.List.{get_or_past, ext_get_or}
use mathlib.Core.Option.{some, some-injective, some-ne-none}
use mathlib.Core.Logic.{dite}
use native.Mathlib.Decide.{ℕ_discrete, dec_lt}
use lib.ListN.{get_elem?}
use Rattle.atomic_table.specs.Table.{Seen, Final}
use Rattle.rt_words.specs.declared.call.Call.{Call}
use Rattle.rt_words.specs.declared.view.Part.{Part}
use Rattle.rt_words.specs.declared.view.View.{View}
use Rattle.rt_words.specs.History.{Entry}
use Rattle.rt_words.specs.Account.{raises, merges, latches}
use Rattle.rt_words.specs.Lines.{Row, Line, numbers}
use Rattle.rt_words.specs.Inside.Rule.{padded_words, HistoryStands, HasHistory}
use Rattle.rt_words.specs.Ending.{AllGathered, OneHistory, calls_in}
use Rattle.rt_words.proofs.Lists.{of_map}
use Rattle.rt_words.proofs.Bits.{blank, blank_long, get_or_padding, zeros}
use Rattle.rt_words.proofs.Calling.{maker_is}
use Rattle.rt_words.proofs.Accounting.{accounts}
use Rattle.rt_words.proofs.Parting.{by_parts}

-- the first k words stand in the bits, and behind them 0
pub record Copied (words bits : List ℕ) (k : ℕ) : Type 0 where
  pub long : length bits ≡ 32
  pub same : (j : ℕ) → j < k → get_or bits j 0 ≡ get_or words j 0
  pub rest : (j : ℕ) → k ≤ j → get_or bits j 0 ≡ 0

pub copied_none : (words : List ℕ) → Copied words (blank 32) 0
copied_none words = record {
  long = blank_long 32;
  same = λ j none. absurd (omega (arith, none));
  rest = λ j behind. zeros 32 j;
}

pub element : (xs : List ℕ) (k x : ℕ) → get_elem? xs k ≡ some x → get_or xs k 0 ≡ x
element [] k x e = absurd (some-ne-none x (sym e))
element (y ∷ ys) zero x e = some-injective y x e
element (y ∷ ys) (suc k) x e = element ys k x e

pub copied_more : (words bits : List ℕ) (k x : ℕ) → Copied words bits k → k < 32 → get_elem? words k ≡ some x
    → Copied words (set bits k x) (k + 1)
copied_more words bits k x is l e = record {
  long = length-set bits k x ∙ is.long;
  same = λ j m. dite (ℕ_discrete j k)
      (λ here. let long = is.long in ap (λ (i : ℕ). get_or (set bits k x) i 0) here
      ∙ get_or-set_same bits k x 0 (omega arith) ∙ sym (element words k x e)
      ∙ ap (λ (i : ℕ). get_or words i 0) (sym here))
      (λ else_. get_or-set_other bits k j x 0 else_ ∙ is.same j (omega arith));
  rest = λ j m. let far : j ≢ k = omega arith in get_or-set_other bits k j x 0 far ∙ is.rest j (omega arith);
}

pub copied_all : (words bits : List ℕ) (k : ℕ) → Copied words bits k → length words ≡ k → k ≤ 32 → bits
    ≡ padded_words words
copied_all words bits k is whole few =
    let n : ℕ = 32 - length words in
    let long : length (padded_words words) ≡ 32 = let a = length-append words (blank n) in let b = blank_long n in
    omega arith in
    ext_get_or 0 bits (padded_words words) (is.long ∙ sym long) (λ j m. dite (dec_lt j k)
    (λ l. is.same j l ∙ sym (get_or_padding words n j))
    (λ no_. is.rest j (omega arith) ∙ sym (get_or_padding words n j ∙ get_or_past words j 0 (omega arith))))

-- a line as contracts see it
abbrev pub line_of : Row → View → ℕ → ℕ → Line
line_of row v here there =
    record {
      words = row;
      number = v.line;
      here = here;
      there = there;
      calls = v.calls;
      made = v.made;
      gathered = v.gathered;
      since = v.since;
    }

-- what the first line knows at the end
module _ (may words : List ℕ) (views : List View) (history : List Entry) (v : View)
    (st : HistoryStands may words views history v) (whole : AllGathered v.made v.gathered) where
  no_maker : ¬ Contains (numbers v.gathered) 255
  no_maker h = let p = of_map (λ (q : Part). q.line) 255 v.gathered h in (st.seated.parts p.0 p.1.0).other p.1.1

  -- the sums over the history, for any test of calls
  sums : (test : Call → Bool) → count_by test (calls_in history) ≡ count_by test v.calls
      + sum_by (λ (p : Part). count_by test p.calls) v.gathered
  sums test =
      by_parts test history v.calls v.gathered st.seated.own (λ q h. (st.seated.parts q h).same_calls) no_maker
      st.seated.once (λ n ne out. st.seated.unmade n ne (λ m. out (whole n m)))

  one_history : (row : Row) (here there : ℕ) → OneHistory (line_of row v here there) (padded_words words)
  one_history row here there = record {
    history = history;
    legal = st.legal;
    own = st.seated.own;
    gathered = λ p h. (st.seated.parts p h).same_calls;
    unmade = st.seated.unmade;
    last = st.last whole;
    account = λ bit small. accounts (padded_words words) history bit st.legal small;
    raised = λ bit. sums (raises bit);
    merged = λ bit. sums (merges bit);
    latched = λ bit. sums (latches bit);
  }

-- the rule at the end tells one history of what was left
pub ends : (may words bits : List ℕ) (slots : List (Unit {0})) (id : ℕ) (v : View) (row : Row) (here there : ℕ) → id ≡ 0
    → Final (Seen (HasHistory may) id v) words slots → bits ≡ padded_words words → AllGathered v.made v.gathered
    → OneHistory (line_of row v here there) bits
ends may words bits slots id v row here there first f is whole =
    let s = f.0 in
    let at : get_elem? s.views 0 ≡ some v = ap (get_elem? s.views) (sym first) ∙ f.1.1 in
    let kept = f.1.0 in
    let st = maker_is may s.words s.views kept.0 kept.1 v kept.2 at in
    subst (λ (b : List ℕ). OneHistory (line_of row v here there) b) (ap padded_words f.2 ∙ sym is)
    (one_history may s.words s.views kept.0 v st whole row here there)

-- behind the words the bits are 0
pub ends_behind : (words bits : List ℕ) (k : ℕ) → bits ≡ padded_words words → length words ≤ k → get_or bits k 0 ≡ 0
ends_behind words bits k is l = ap (λ (b : List ℕ). get_or b k 0) is ∙ get_or_padding words (32 - length words) k
    ∙ get_or_past words k 0 l
