-- What a look finds in a mailbox is what the call right before its take gave.
use Rattle.std.proofs.Common.{◌≡◌, ℕ, zero, suc, List, [], ◌∷◌, ◌++◌, length, slice_get, Option, Some, None, refl, sym}
use Rattle.std.proofs.Common.{ap}
use Rattle.std.proofs.Common.{◌∙◌, subst, append_assoc}
use Rattle.std.proofs.lemmas.Option.{none-some, same_Some}
use Rattle.rt_lemmas.proofs.Lists.{mapped_at}
use Rattle.rt_values.specs.declared.call.Given.{Given}
use Rattle.rt_values.specs.declared.call.Call.{Call}
use Rattle.rt_values.specs.declared.call.Call.TheVariants.{Give, Take}
use Rattle.rt_values.specs.History.{IsLegal, takes}
use Rattle.rt_values.proofs.Histories.{takes_stay}
use Rattle.rt_values.proofs.Latest.{find_the_latest}
use Rattle.rt_live_inputs.specs.Looking.{Found}
use Rattle.rt_live_inputs.specs.Histories.{waited_in}
use Rattle.rt_live_inputs.specs.Laws.{LooksFindTheLatest}

-- the take of this number, and the calls before and behind it
record TakeAt (history : List Call) (n : ℕ) (call : Call) : Type 0 where
  before : List Call
  behind : List Call
  is : history ≡ before ++ call ∷ behind
  number : length (takes before) ≡ n

take_at : (history : List Call) (n : ℕ) (call : Call) → slice_get (takes history) n ≡ Some call → TakeAt history n call
take_at [] n call at = absurd (none-some call at)
take_at (Give word answer ∷ calls) n call at =
    let rest = take_at calls n call at in
    record {
      before = Give word answer ∷ rest.before;
      behind = rest.behind;
      is = ap (λ (t : List Call). Give word answer ∷ t) rest.is;
      number = rest.number;
    }
take_at (Take found ∷ calls) zero call at =
    record {
      before = [];
      behind = calls;
      is = ap (λ (c : Call). c ∷ calls) (same_Some (Take found) call at);
      number = refl;
    }
take_at (Take found ∷ calls) (suc n) call at =
    let rest = take_at calls n call at in
    record {
      before = Take found ∷ rest.before;
      behind = rest.behind;
      is = ap (λ (t : List Call). Take found ∷ t) rest.is;
      number = ap suc rest.number;
    }

pub find_the_latest_in_boxes : LooksFindTheLatest
find_the_latest_in_boxes script found k box history is look one word at waited =
    let call : slice_get (takes history) look ≡ Some (Take (Some word)) =
    ap (λ (calls : List Call). slice_get calls look) is.taken
    ∙ mapped_at (λ (f : Found). Take (waited_in k f)) found look one at
    ∙ ap (λ (w : Option ℕ). Some (Take w)) waited in
    let place = take_at history look (Take (Some word)) call in
    let gave = find_the_latest place.before place.behind word None
    (subst (λ (h : List Call). IsLegal h None) place.is is.legal) in
    record {
      earlier = gave.earlier;
      answer = gave.answer;
      behind = place.behind;
      is =
          place.is
          ∙ ap (λ (t : List Call). t ++ Take (Some word) ∷ place.behind) gave.is
          ∙ append_assoc gave.earlier (Give word gave.answer ∷ []) (Take (Some word) ∷ place.behind);
      looks =
          sym (takes_length gave.earlier word gave.answer) ∙ sym (ap (λ (t : List Call). length (takes t)) gave.is)
          ∙ place.number;
    }
  where
    takes_length : (earlier : List Call) (w : ℕ) (answer : Given) → length (takes (earlier ++ Give w answer ∷ []))
        ≡ length (takes earlier)
    takes_length earlier w answer = ap length (takes_stay earlier w answer)
