-- What turns that were done come to, by what their looks found, all of them or up to the one in which a fault came.
use Rattle.rt_live.proofs.Vocabulary.{AllByRecursion, Bool, Breaks, CORE_WORDS, Call, Comes, Core, Done, Err, Event}
use Rattle.rt_live.proofs.Vocabulary.{FindsDeclared, Happens, Image, IsLook, IsWholeLook, Leads, List, Looks, Machine}
use Rattle.rt_live.proofs.Vocabulary.{None, Ok, OnErr, OnOk, Option, Request, Result, Sends, Some, Turn, What, []}
use Rattle.rt_live.proofs.Vocabulary.{a_turn, ap, append-nil, append_assoc, arith, bit_in_row, breaks_before}
use Rattle.rt_live.proofs.Vocabulary.{breaks_behind, core_after, cut, false, false≢true, flat_map, inl, inr}
use Rattle.rt_live.proofs.Vocabulary.{interleaving, is_ok, length, length-append, length-map, look_arrivals, look_calls}
use Rattle.rt_live.proofs.Vocabulary.{look_calls_from, look_requests, looks, map, map-append, nil_from_length, no_route}
use Rattle.rt_live.proofs.Vocabulary.{no_turn, option_to_list, post_requests, refl, request_of, routed, sends_none}
use Rattle.rt_live.proofs.Vocabulary.{sends_on, step_item, subst, suc, sym, true, turn_requests, word_in_row, ℕ, ◌*◌}
use Rattle.rt_live.proofs.Vocabulary.{◌++◌, ◌+◌, ◌<◌, ◌∙◌, ◌∷◌, ◌≡◌, ◌≤◌, ◌⊎◌}
use Rattle.rt_live.specs.{Going.Latches, Requests.Pends}
use Rattle.rt_live.proofs.Woven.{length-latches, happenings}
use Rattle.rt_trace.specs.declared.item.What.TheVariants as what

-- events, and more behind them
pub comes_on : (all : Bool) (es fs : List Event) (a b c : Machine) (x y z : List ℕ) → Sends es a b x y
    → Comes all fs b c y z → Comes all (es ++ fs) a c x z
comes_on true = sends_on
comes_on false = breaks_behind

-- by an answer
pub comes_by : {T E : Type 0} (es : List Event) (a b : Machine) (x y : List ℕ) (r : Result T E)
    → OnOk r (Sends es a b x y) → OnErr r (Breaks es a b x y) → Comes (is_ok r) es a b x y
comes_by es a b x y (Ok v) ok err = ok
comes_by es a b x y (Err e) ok err = err

-- no post leads to another core
abbrev pub LeadsNowhere : (ℕ → Option ℕ) → Type 0
LeadsNowhere route = (shown : Option What) → routed route shown ≡ None

pub nowhere : LeadsNowhere no_route
nowhere None = refl
nowhere (Some (what.Post irq)) = refl
nowhere (Some shown) = refl

-- so many whole looks were made of those that were to come, and these words were latched behind them
abbrev pub Reaches : Bool → ℕ → ℕ → List ℕ → Type 0
Reaches true n most last = (n ≡ most) × (last ≡ [])
Reaches false n most last = (n < most) ⊎ ((last ≡ []) × (n ≤ most))

-- The turns were done by these calls. Where all were done, the calls ask for what the turns ask for, and the core did
-- the events of the interleaving. Else a fault came, maybe in a look, of which these last words were latched then. The
-- core did the events of the interleaving, with what the last look found behind them, up to the one in whose lines it
-- came.
pub record IsWoven (route : ℕ → Option ℕ) (here there : ℕ) (all : Bool) (ts : List Turn) (calls : List Call)
    (a b : Machine) (x y : List ℕ) : Type 0 where
  pub found : List (List ℕ)
  pub last : List ℕ
  pub reach : Reaches all (length found) (looks ts) last
  pub whole : AllByRecursion IsWholeLook found
  pub short : length last ≤ CORE_WORDS
  pub declared : AllByRecursion (FindsDeclared a.image.names) found
  pub last_declared : FindsDeclared a.image.names last
  pub few : length calls ≤ 16 * looks ts + happenings ts
  pub asked : all ≡ true → map request_of calls ≡ turn_requests route here there a.image a.core ts found
  pub alone : LeadsNowhere route → here ≡ 0 → calls ≡ flat_map look_calls (found ++ last ∷ [])
  pub comes : Comes all (interleaving ts found ++ look_arrivals last) a b x y

-- the first of a few more looks
reach_on : (all : Bool) (n most : ℕ) (last : List ℕ) → Reaches all n most last → Reaches all (suc n) (suc most) last
reach_on true n most last is = (ap suc is.0, is.1)
reach_on false n most last (inl less) = inl (omega (arith, less))
reach_on false n most last (inr done) = inr (done.0, omega (arith, done.1))

-- what an event leads to is one call at most
few_posts : (route : ℕ → Option ℕ) (there : ℕ) (shown : Option What)
    → length (post_requests route there shown) ≤ 1
few_posts route there shown = by (routed route shown)
  where
    by : (o : Option ℕ) → length (map (λ irq. Pends (bit_in_row there irq)) (option_to_list o)) ≤ 1
    by None = omega arith
    by (Some irq) = omega arith

no_calls : (calls : List Call) → map request_of calls ≡ [] → calls ≡ []
no_calls calls none = nil_from_length calls (sym (length-map calls request_of) ∙ ap length none)

-- what is so behind events, from the first event on
module _ {a b : Machine} {es : List Event} (leads : Leads es a b) where
  declared_from : (found : List (List ℕ)) → AllByRecursion (FindsDeclared b.image.names) found
      → AllByRecursion (FindsDeclared a.image.names) found
  declared_from found declared =
      subst (λ (i : Image). AllByRecursion (FindsDeclared i.names) found) leads.image declared

  last_from : (last : List ℕ) → FindsDeclared b.image.names last → FindsDeclared a.image.names last
  last_from last declared = subst (λ (i : Image). FindsDeclared i.names last) leads.image declared

  asked_from : (route : ℕ → Option ℕ) (here there : ℕ) (ts : List Turn) (made more : List Call) (front : List Request)
      (found : List (List ℕ)) → map request_of made ≡ front
      → map request_of more ≡ turn_requests route here there b.image b.core ts found
      → map request_of (made ++ more)
      ≡ front ++ turn_requests route here there a.image (core_after a.image a.core es) ts found
  asked_from route here there ts made more front found first rest =
      map-append request_of made more
      ∙ ap (λ (rs : List Request). rs ++ map request_of more) first
      ∙ ap (λ (rs : List Request). front ++ rs) (rest
      ∙ ap (λ (i : Image). turn_requests route here there i b.core ts found) leads.image
      ∙ ap (λ (c : Core). turn_requests route here there a.image c ts found) leads.core)

module _ {route : ℕ → Option ℕ} {here there : ℕ} {ts : List Turn} {a b : Machine} {x y : List ℕ} (made : List Call)
  where
    module _ {all : Bool} {calls : List Call} {c : Machine} {z : List ℕ}
        (w : IsWoven route here there all ts calls b c y z) where
      -- a look, and turns behind it
      look_woven : Latches here (IsLook true) true made a b x y
          → IsWoven route here there all (Looks ∷ ts) (made ++ calls) a c x z
      look_woven does = record {
        found = does.found ∷ w.found;
        last = w.last;
        reach = reach_on all (length w.found) (looks ts) w.last w.reach;
        whole = (does.many, w.whole);
        short = w.short;
        declared = (does.declared, declared_from does.comes.leads w.found w.declared);
        last_declared = last_from does.comes.leads w.last w.last_declared;
        few = omega (
          arith,
          length-append made calls,
          ap length does.latched,
          length-latches (word_in_row here 0) does.found,
          does.many,
          w.few,
        );
        asked = λ is.
            asked_from does.comes.leads route here there ts made calls (look_requests here does.found) w.found
            (ap (map request_of) does.latched) (w.asked is);
        alone = λ none at.
            ap (λ (cs : List Call). cs ++ calls)
            (does.latched ∙ ap (λ (h : ℕ). look_calls_from (word_in_row h 0) does.found) at)
            ∙ ap (λ (cs : List Call). look_calls does.found ++ cs) (w.alone none at);
        comes =
            subst (λ es. Comes all es a c x z)
            (sym (append_assoc (look_arrivals does.found) (interleaving ts w.found) (look_arrivals w.last)))
            (comes_on all (look_arrivals does.found) (interleaving ts w.found ++ look_arrivals w.last) a b c x y z
            does.comes w.comes);
      }

      -- an event, and turns behind it
      event_woven : (e : Event) → Sends (e ∷ []) a b x y
          → map request_of made ≡ post_requests route there (step_item a.image a.core e)
          → IsWoven route here there all (Happens e ∷ ts) (made ++ calls) a c x z
      event_woven e sends asked = record {
        found = w.found;
        last = w.last;
        reach = w.reach;
        whole = w.whole;
        short = w.short;
        declared = declared_from sends.leads w.found w.declared;
        last_declared = last_from sends.leads w.last w.last_declared;
        few = omega (
          arith,
          length-append made calls,
          length-map made request_of,
          ap length asked,
          few_posts route there (step_item a.image a.core e),
          w.few,
        );
        asked = λ is.
            asked_from sends.leads route here there ts made calls
            (post_requests route there (step_item a.image a.core e)) w.found asked (w.asked is);
        alone = λ none at.
            ap (λ (cs : List Call). cs ++ calls) (no_calls made (asked
            ∙ ap (λ (o : Option ℕ). map (λ irq. Pends (bit_in_row there irq)) (option_to_list o))
            (none (step_item a.image a.core e))))
            ∙ w.alone none at;
        comes = comes_on all (e ∷ []) (interleaving ts w.found ++ look_arrivals w.last) a b c x y z sends w.comes;
      }

    -- a fault in the first look
    look_fails : Latches here (IsLook false) false made a b x y
        → IsWoven route here there false (Looks ∷ ts) made a b x y
    look_fails fails = record {
      found = [];
      last = fails.found;
      reach = inl (omega arith);
      whole = tt;
      short = fails.many;
      declared = tt;
      last_declared = fails.declared;
      few = omega (arith, ap length fails.latched, length-latches (word_in_row here 0) fails.found, fails.many);
      asked = λ is. absurd (false≢true is);
      alone = λ none at.
          fails.latched ∙ ap (λ (h : ℕ). look_calls_from (word_in_row h 0) fails.found) at
          ∙ sym (append-nil (look_calls fails.found));
      comes = fails.comes;
    }

    -- or at the first event
    event_fails : (e : Event) → Breaks (e ∷ []) a b x y → map request_of made ≡ []
        → IsWoven route here there false (Happens e ∷ ts) made a b x y
    event_fails e breaks none = record {
      found = [];
      last = [];
      reach = inr (refl, omega arith);
      whole = tt;
      short = omega arith;
      declared = tt;
      last_declared = tt;
      few = omega (arith, ap length (no_calls made none));
      asked = λ is. absurd (false≢true is);
      alone = λ _ _. no_calls made none;
      comes =
          subst (λ es. Breaks es a b x y) (sym (append-nil (e ∷ interleaving ts [])))
          (breaks_before (e ∷ []) (interleaving ts []) a b x y breaks);
    }

pub weave : {route : ℕ → Option ℕ} {here there : ℕ} {all : Bool} {ts : List Turn} {calls : List Call} {a b : Machine}
    {x y : List ℕ} → Done route here there all ts calls a b x y → IsWoven route here there all ts calls a b x y
weave (no_turn {m = m} {bytes = x}) = record {
  found = [];
  last = [];
  reach = (refl, refl);
  whole = tt;
  short = omega arith;
  declared = tt;
  last_declared = tt;
  few = omega arith;
  asked = λ _. refl;
  alone = λ _ _. refl;
  comes = sends_none m x;
}
weave (a_turn {t = Looks} calls more does rest) = look_woven calls (weave rest) does
weave (a_turn {t = Happens e} calls more does rest) = event_woven calls (weave rest) e does.0 does.1
weave (cut {t = Looks} {calls = calls} fails) = look_fails calls fails
weave (cut {t = Happens e} {calls = calls} fails) = event_fails calls e fails.0 fails.1

-- where all were done
pub sends_of : {route : ℕ → Option ℕ} {here there : ℕ} {ts : List Turn} {calls : List Call} {a b : Machine}
    {x y : List ℕ} (w : IsWoven route here there true ts calls a b x y) → Sends (interleaving ts w.found) a b x y
sends_of {ts = ts} {a = a} {b = b} {x = x} {y = y} w =
    subst (λ es. Sends es a b x y)
    (ap (λ ws. interleaving ts w.found ++ look_arrivals ws) w.reach.1 ∙ append-nil (interleaving ts w.found)) w.comes
