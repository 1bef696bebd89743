-- The histories of the mailboxes, and the account over them.
use Rattle.std.proofs.Common.{◌≡◌, ℕ, zero, suc, ◌+◌, ◌<◌, List, [], ◌∷◌, ◌++◌, length, map, slice_get, Option, Some}
use Rattle.std.proofs.Common.{None}
use Rattle.std.proofs.Common.{refl, ap, sym, subst, ◌∙◌, arith}
use Rattle.std.proofs.lemmas.Option.{none-some, same_Some}
use Rattle.rt_live.specs.declared.account.AccountRow.{AccountRow}
use Rattle.rt_values.specs.History.{EndsWith, IsLegal, LeavesWord, OneHistory, gives, takes}
use Rattle.rt_values.specs.Object.{after}
use Rattle.rt_values.specs.Sides.{TakerSide}
use Rattle.rt_values.specs.declared.call.Call.{Call}
use Rattle.rt_given.specs.declared.line.GivenLine.{GivenLine}
use Rattle.rt_live_inputs.specs.Account.{with_box, with_boxes}
use Rattle.rt_live_inputs.specs.Boxes.{words_through}
use Rattle.rt_live_inputs.specs.Giving.{word_given}
use Rattle.rt_live_inputs.specs.Histories.{IsBoxHistory, box_calls}
use Rattle.rt_live_inputs.specs.Looking.{Found, last_found}
use Rattle.rt_live_inputs.specs.declared.boxes.BoxKind.{BoxKind as Box}
use Rattle.rt_live_inputs.specs.Inside.Making.{HaveHistories, HaveTaken, with_takers}

-- the history of the mailbox of a place
abbrev pub history_at : (ts : List TakerSide) → HaveHistories ts → ℕ → List Call
history_at [] h k = []
history_at (t ∷ ts) h zero = h.0.1.history
history_at (t ∷ ts) h (suc k) = history_at ts h.1 k

leaves_apart : (w last : Option ℕ) (xs ys : List Call) → LeavesWord w (xs ++ ys) last
    → (v : Option ℕ) × LeavesWord v ys last
leaves_apart w last [] ys leads = (w, leads)
leaves_apart w last (c ∷ xs) ys leads = leaves_apart (after w c) last xs ys leads.1

-- behind a take no word waits
none_waits : (k : ℕ) (one : Found) (found : List Found) (w last : Option ℕ)
    → LeavesWord w (box_calls k (one ∷ found)) last → last ≡ None
none_waits k one [] w last leads = sym leads.1
none_waits k one (two ∷ found) w last leads = none_waits k two found None last leads.1

module _ (script : List GivenLine) (found : List Found) (some : 0 < length (last_found script found)) where
  none_left : (k : ℕ) (history : List Call) (left : Option ℕ) → IsLegal history left
      → EndsWith history (box_calls k (last_found script found)) → left ≡ None
  none_left k history left legal ended = by (last_found script found) some ended
    where
      by : (last : List Found) → 0 < length last → EndsWith history (box_calls k last) → left ≡ None
      by [] more ended = absurd (omega (arith, more))
      by (one ∷ last) more ended =
          let apart = leaves_apart None left ended.earlier (box_calls k (one ∷ last))
          (subst (λ (h : List Call). LeavesWord None h left) ended.is legal) in
          none_waits k one last apart.0 left apart.1

  box_history : (k : ℕ) (box : Box) (t : TakerSide) (left : Option ℕ)
      → (one : OneHistory t.given t.calls t.last left) → t.calls ≡ box_calls k found
      → t.last ≡ box_calls k (last_found script found)
      → map word_given t.given ≡ map Some (words_through script box)
      → IsBoxHistory script found k box one.history
  box_history k box t left one calls last given =
      let ended : EndsWith one.history (box_calls k (last_found script found)) =
      subst (EndsWith one.history) last one.ended in
      record {
        legal = subst (IsLegal one.history) (none_left k one.history left one.legal ended) one.legal;
        given = ap (map word_given) one.gives_are ∙ given;
        taken = one.takes_are ∙ calls;
        ended = ended;
      }

  pub box_histories : (j : ℕ) (boxes : List Box) (ts : List TakerSide) → HaveTaken script found j boxes ts
      → (h : HaveHistories ts) (k : ℕ) (box : Box) → slice_get boxes k ≡ Some box
      → IsBoxHistory script found (j + k) box (history_at ts h k)
  box_histories j [] [] taken h k box at = absurd (none-some box at)
  box_histories j [] (t ∷ ts) taken h k box at = absurd taken
  box_histories j (b ∷ boxes) [] taken h k box at = absurd taken
  box_histories j (b ∷ boxes) (t ∷ ts) taken h zero box at =
      subst (λ n. IsBoxHistory script found n box h.0.1.history) (let e : j ≡ j + zero = omega arith in e)
      (subst (λ (c : Box). IsBoxHistory script found j c h.0.1.history) (same_Some b box at)
      (box_history j b t h.0.0 h.0.1 taken.0.1 taken.0.2 taken.0.3))
  box_histories j (b ∷ boxes) (t ∷ ts) taken h (suc k) box at =
      subst (λ n. IsBoxHistory script found n box (history_at ts h.1 k))
      (let e : suc j + k ≡ j + suc k = omega arith in e)
      (box_histories (suc j) boxes ts taken.1 h.1 k box at)

-- rows with what the takers and the givers called are those with the calls of the histories
pub rows_told : (j : ℕ) (boxes : List Box) (ts : List TakerSide) (h : HaveHistories ts) (calls : ℕ → List Call)
    → ((i : ℕ) → calls (j + i) ≡ history_at ts h i) → length boxes ≡ length ts → (row : AccountRow)
    → with_takers boxes ts row ≡ with_boxes j boxes calls row
rows_told j [] ts h calls same long row = refl
rows_told j (box ∷ boxes) [] h calls same long row = absurd (omega (arith, long))
rows_told j (box ∷ boxes) (t ∷ ts) h calls same long row =
    let one = h.0.1 in
    let here : calls j ≡ one.history = ap calls (let e : j ≡ j + zero = omega arith in e) ∙ same zero in
    let rest = rows_told (suc j) boxes ts h.1 calls
    (λ i. ap calls (let e : suc j + i ≡ j + suc i = omega arith in e) ∙ same (suc i)) (omega (arith, long)) row in
    let given : t.given ≡ gives (calls j) = sym one.gives_are ∙ sym (ap gives here) in
    let taken : t.calls ≡ takes (calls j) = sym one.takes_are ∙ sym (ap takes here) in
    λ i. with_box box (given i) (taken i) (rest i)

pub all_told : (boxes : List Box) (ts : List TakerSide) (h : HaveHistories ts) → length boxes ≡ length ts
    → (rows : List AccountRow) → map (with_takers boxes ts) rows ≡ map (with_boxes 0 boxes (history_at ts h)) rows
all_told boxes ts h long [] = refl
all_told boxes ts h long (row ∷ rows) =
    let first = rows_told 0 boxes ts h (history_at ts h)
    (λ i. ap (history_at ts h) (let e : zero + i ≡ i = omega arith in e)) long row in
    let rest = all_told boxes ts h long rows in
    λ i. first i ∷ rest i
