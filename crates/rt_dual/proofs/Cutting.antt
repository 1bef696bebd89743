-- Turns of which the first events were done.
use Rattle.rt_live.proofs.Vocabulary.{AllByRecursion, Bool, Call, Caller, Done, Ended, EndsByLine, Err, Event}
use Rattle.rt_live.proofs.Vocabulary.{FindsDeclared}
use Rattle.rt_live.proofs.Vocabulary.{IsDeclared, IsWholeLook, List, Machine, Names, Ok, OnOk, Option, Result, Turn, []}
use Rattle.rt_live.proofs.Vocabulary.{all_append, ap, append-nil, append_assoc, arith, arrivals_from, false, inl, inr}
use Rattle.rt_live.proofs.Vocabulary.{interleaving, is_ok, length, length-append, length-replicate, look_arrivals}
use Rattle.rt_live.proofs.Vocabulary.{looks, refl, subst, suc, sym, true, zero, ℕ, ◌++◌, ◌+◌, ◌-◌, ◌∙◌, ◌∷◌, ◌≡◌, ◌≤◌}
use Rattle.rt_dual.proofs.Vocabulary.{IsWoven, sends_of, weave}
use Rattle.rt_run.proofs.Sent.{breaks_end}
use Rattle.rt_live.proofs.{Looking.zero_arrives, Woven.found_on, Woven.interleaving_finished, Onward.zeros}
use Rattle.rt_dual.specs.Output.{HasBegun}

-- words of 0 behind those of a look that was cut make it whole
abbrev padded_look : List ℕ → List ℕ
padded_look words = words ++ zeros (16 - length words)

padded_whole : (words : List ℕ) → length words ≤ 16 → IsWholeLook (padded_look words)
padded_whole words short = omega (
  arith,
  short,
  length-append words (zeros (16 - length words)),
  length-replicate {A = ℕ} (16 - length words) 0,
)

pub zeros_arrive : (k n : ℕ) → arrivals_from k (zeros n) ≡ []
zeros_arrive k zero = refl
zeros_arrive k (suc n) =
    ap (λ is. is ++ arrivals_from (suc k) (zeros n)) (zero_arrives k 0 refl) ∙ zeros_arrive (suc k) n

padded_declared : (names : Names) (words : List ℕ) → FindsDeclared names words
    → FindsDeclared names (padded_look words)
padded_declared names words declared =
    subst (AllByRecursion (IsDeclared names)) (sym (found_on 0 words (zeros (16 - length words))
    ∙ ap (λ is. arrivals_from 0 words ++ is) (zeros_arrive (0 + length words) (16 - length words))
    ∙ append-nil (arrivals_from 0 words))) declared

module _ {route : ℕ → Option ℕ} {here there : ℕ} {ts : List Turn} {calls : List Call} {a b : Machine} {x : List ℕ}
  where
    -- all was done
    all_begun : {y : List ℕ} → Done route here there true ts calls a b x y → HasBegun ts a b
    all_begun run =
        let w = weave run in
        record {
          found = w.found;
          few = omega (arith, w.reach.0);
          whole = w.whole;
          declared = w.declared;
          done = record {
            done = interleaving ts w.found;
            rest = [];
            parts = sym (append-nil (interleaving ts w.found));
            leads = (sends_of w).leads;
          };
          stops = inr (refl, w.reach.0);
        }

    module _ {y : List ℕ} (stops : Done route here there false ts calls a b x y) where
      abbrev cut : IsWoven route here there false ts calls a b x y
      cut = weave stops

      -- with these looks behind those that were whole
      begun : (more : List (List ℕ)) (rest : List Event) → length cut.found + length more ≤ looks ts
          → AllByRecursion IsWholeLook more → AllByRecursion (FindsDeclared a.image.names) more
          → interleaving ts (cut.found ++ more) ≡ (interleaving ts cut.found ++ look_arrivals cut.last) ++ rest
          → HasBegun ts a b
      begun more rest few whole declared parts =
          let came : List Event = cut.comes.done ++ cut.comes.last ∷ [] in
          record {
            found = cut.found ++ more;
            few = omega (arith, length-append cut.found more, few);
            whole = all_append IsWholeLook cut.found more cut.whole whole;
            declared = all_append (FindsDeclared a.image.names) cut.found more cut.declared declared;
            done = record {
              done = came;
              rest = cut.comes.rest ++ rest;
              parts =
                  parts
                  ∙ ap (λ es. es ++ rest)
                  (cut.comes.parts ∙ sym (append_assoc cut.comes.done (cut.comes.last ∷ []) cut.comes.rest))
                  ∙ append_assoc came cut.comes.rest rest;
              leads = cut.comes.leads;
            };
            stops = inl (breaks_end (interleaving ts cut.found ++ look_arrivals cut.last) a b x y cut.comes);
          }

      -- a fault came in the turns
      stopped : HasBegun ts a b
      stopped = elim cut.reach [
        | inl less ↦
            let more = interleaving_finished ts cut.found [] cut.last (zeros (16 - length cut.last)) less in
            begun (padded_look cut.last ∷ []) more.0 (omega (arith, less)) (padded_whole cut.last cut.short, tt)
            (padded_declared a.image.names cut.last cut.last_declared, tt) more.1
        | inr most ↦
            begun [] [] (omega (arith, most.1)) tt tt
            (ap (interleaving ts) (append-nil cut.found) ∙ sym (append-nil (interleaving ts cut.found))
            ∙ ap (λ ws. interleaving ts cut.found ++ look_arrivals ws) (sym most.0)
            ∙ sym (append-nil (interleaving ts cut.found ++ look_arrivals cut.last)))
      ]

-- whichever it was
pub has_begun : (all : Bool) {route : ℕ → Option ℕ} {ts : List Turn} {k l : Caller} {a b : Machine} {x y : List ℕ}
    → EndsByLine route ts all k l a b x y → HasBegun ts a b
has_begun all {route} {ts} {k} {a = a} {b = b} {x = x} {y = y} ends = by all ends.ended
  where
    by : (whole : Bool) → Ended route k.here k.there ts whole ends.calls a b x y → HasBegun ts a b
    by true ended = all_begun ended.done
    by false (inl stops) = stopped stops
    by false (inr ended) = all_begun ended.done

-- by an answer
pub if_ended : {T E P : Type 0} {route : ℕ → Option ℕ} {ts : List Turn} {k l : Caller} {a b : Machine} {x y : List ℕ}
    (r : Result T E) → EndsByLine route ts (is_ok r) k l a b x y → (EndsByLine route ts true k l a b x y → P) → OnOk r P
if_ended (Ok value) ended from = from ended
if_ended (Err error) ended from = tt
