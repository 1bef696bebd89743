-- Turns that go on where others ended, all or up to the one in which a fault came, and the turns of the lines of a
-- script.
use Rattle.rt_live.proofs.Vocabulary.{Asked, Bool, Call, Caller as Line, CanGo, Device, Done, Err, Event, Goes, Image}
use Rattle.rt_live.proofs.Vocabulary.{IsAble, List, Machine, MayRoute, Ok, Option, Pends, Result, Row, Steps, Ticks}
use Rattle.rt_live.proofs.Vocabulary.{Turn, [], a_turn, ap, append_assoc, arith, count, count_of, cut, drop, event_of}
use Rattle.rt_live.proofs.Vocabulary.{event_turns, false, flat_map, flat_map-append, get_or, if◌then◌else◌}
use Rattle.rt_live.proofs.Vocabulary.{interleaving, is_ok, length, length-append, length-replicate, line_events, looks}
use Rattle.rt_live.proofs.Vocabulary.{no_turn, own_events, own_line_events, own_turns, refl, replicate, still_writable}
use Rattle.rt_live.proofs.Vocabulary.{subst, sum_by-cons, sym, take, take-append-drop, take_all, takes, true}
use Rattle.rt_live.proofs.Vocabulary.{with_looks, ℕ, ◌++◌, ◌+◌, ◌<◌, ◌∙◌, ◌∷◌, ◌≡◌, ◌≤◌}
use Rattle.std.proofs.{Common.IsErrAnd, lemmas.List.Sums.sum_by_more_le}
use Rattle.rt_lemmas.proofs.Lists.{flat_map_next}
use Rattle.rt_run.proofs.Known.{time_led, steps_below as few_steps}
use Rattle.rt_live.specs.{Able.MayArrive, declared.share.Share.Share}
use Rattle.rt_live.proofs.{Weaving.weave, Weaving.sends_of, Woven.same_line, Woven.line_on}
use Rattle.rt_live.proofs.{Woven.happenings, Woven.looks_own, Woven.events_own, Woven.steps_woven, Woven.ticks_woven}

-- what a `?` gives up with is no `Ok`
pub gave_up : {T E : Type 0} (Q : E → Type 0) (r : Result T E) → IsErrAnd r Q → is_ok r ≡ false
gave_up Q (Ok value) is = absurd is
gave_up Q (Err error) is = refl

module _ {route : ℕ → Option ℕ} {here there : ℕ} where
  -- turns behind others
  pub done_on : {all : Bool} {ts us : List Turn} {calls more : List Call} {a b c : Machine} {x y z : List ℕ}
      → Done route here there true ts calls a b x y → Done route here there all us more b c y z
      → Done route here there all (ts ++ us) (calls ++ more) a c x z
  done_on no_turn second = second
  done_on {all = all} {us = us} {more = more} {a = a} {c = c} {x = x} {z = z}
      (a_turn {t = t} {ts = ts} calls rest does done) second =
      subst (λ cs. Done route here there all (t ∷ (ts ++ us)) cs a c x z) (sym (append_assoc calls rest more))
      (a_turn calls (rest ++ more) does (done_on done second))

  -- a fault, with more turns to come
  pub done_before : (us : List Turn) {ts : List Turn} {calls : List Call} {a b : Machine} {x y : List ℕ}
      → Done route here there false ts calls a b x y → Done route here there false (ts ++ us) calls a b x y
  done_before us (a_turn calls more does rest) = a_turn calls more does (done_before us rest)
  done_before us (cut fails) = cut fails

module _ {route : ℕ → Option ℕ} {k : Line} {a : Machine} {x : List ℕ} where
  pub goes_none : Goes route [] true k k a a x x
  goes_none = record { calls = []; same = same_line k; done = no_turn }

  pub goes_on : {all : Bool} {ts us : List Turn} {l m : Line} {b c : Machine} {y z : List ℕ}
      → Goes route ts true k l a b x y → Goes route us all l m b c y z → Goes route (ts ++ us) all k m a c x z
  goes_on {all} {ts} {us} {l} {m} {b} {c} {y} {z} first second = record {
    calls = first.calls ++ second.calls;
    same = line_on k l m first.calls second.calls first.same second.same;
    done =
        done_on first.done
        (subst (λ (n : Line). Done route n.here n.there all us second.calls b c y z) first.same second.done);
  }

  pub goes_before : (us : List Turn) {ts : List Turn} {l : Line} {b : Machine} {y : List ℕ}
      → Goes route ts false k l a b x y → Goes route (ts ++ us) false k l a b x y
  goes_before us goes = record { calls = goes.calls; same = goes.same; done = done_before us goes.done }

-- how far turns bring the steps, the time and the calls
module _ {route : ℕ → Option ℕ} {ts : List Turn} {k l : Line} {a b : Machine} {x y : List ℕ}
    (run : Goes route ts true k l a b x y) where
  pub steps_below : b.steps ≤ a.steps + happenings ts
  steps_below =
      let w = weave run.done in omega (arith, (sends_of w).leads.steps, steps_woven ts w.found)

  pub same_image : b.image ≡ a.image
  same_image = (sends_of (weave run.done)).leads.image

  -- what turns leave to be done
  pub can_on : (n : ℕ) {most : ℕ} {row : Row} → CanGo most route a k row → happenings ts + n ≤ most
      → looks ts + n ≤ most
      → CanGo n route b l row
  can_on n {most = most} {row = row} can fits looking =
      let w = weave run.done in
      let leads = (sends_of w).leads in
      record {
        able =
            subst (λ (m : Line). IsAble b m row) (sym run.same) (record {
              writable = still_writable (interleaving ts w.found) a b leads can.able.writable;
              words = can.able.words;
              many = can.able.many;
              may = λ irq low pending.
                  subst (λ (img : Image). MayArrive img.names irq) (sym leads.image) (can.able.may irq low pending);
            });
        routed = subst (λ (m : Line). MayRoute route m.there row) (sym run.same) can.routed;
        few = omega (arith, steps_below, fits, can.few);
        early = omega (arith, time_led (interleaving ts w.found) a b leads, ticks_woven ts w.found, fits, can.early);
        room = omega (
          arith,
          ap (λ (m : Line). length m.calls) run.same,
          length-append k.calls run.calls,
          w.few,
          fits,
          looking,
          can.room,
        );
      }

-- fewer turns can be done too
pub can_fewer : {route : ℕ → Option ℕ} {most : ℕ} {line : Line} {m : Machine} {row : Row} (n : ℕ)
    → CanGo most route m line row → n ≤ most → CanGo n route m line row
can_fewer n can fits =
    record { able = can.able; routed = can.routed; few = omega arith; early = omega arith; room = omega arith }

-- what events leave to be done
pub can_behind : {route : ℕ → Option ℕ} (es : List Event) {k l : Line} {a b : Machine} {x y : List ℕ}
    → Goes route (with_looks es) true k l a b x y → (n : ℕ) {most : ℕ} {row : Row} → CanGo most route a k row
    → length es + n ≤ most → CanGo n route b l row
can_behind es run n can fits =
    can_on run n can (omega (arith, ap length (events_own es), fits)) (omega (arith, looks_own es, few_steps es, fits))

-- the turns of the items of a list, one item behind the other
module _ {X : Type 0} (f : X → List Turn) (xs : List X) (i : ℕ) (item : X) (below : i < length xs)
    (is : item ≡ get_or xs i item) {route : ℕ → Option ℕ} {k l : Line} {a b : Machine} {x y : List ℕ}
    (first : Goes route (flat_map f (take i xs)) true k l a b x y) {all : Bool} {m : Line} {c : Machine} {z : List ℕ}
    (second : Goes route (f item) all l m b c y z) where
  pub each_more : Goes route (flat_map f (take (i + 1) xs)) all k m a c x z
  each_more =
      subst (λ ts. Goes route ts all k m a c x z) (sym (flat_map_next f xs i item below is)) (goes_on first second)

-- a fault at one of them
pub each_cut : {X : Type 0} (f : X → List Turn) (xs : List X) (n : ℕ) {route : ℕ → Option ℕ} {k l : Line}
    {a b : Machine} {x y : List ℕ} → Goes route (flat_map f (take n xs)) false k l a b x y
    → Goes route (flat_map f xs) false k l a b x y
each_cut f xs n {route = route} {k = k} {l = l} {a = a} {b = b} {x = x} {y = y} stopped =
    subst (λ ts. Goes route ts false k l a b x y)
    (sym (flat_map-append f (take n xs) (drop n xs)) ∙ ap (flat_map f) (take-append-drop n xs))
    (goes_before (flat_map f (drop n xs)) stopped)

-- the turns of a line that comes to the core
abbrev pub line_turns : Share → Asked → List Turn
line_turns share line = with_looks (own_line_events share line)

pub own_each : (share : Share) (script : List Asked) → own_turns share script ≡ flat_map (line_turns share) script
own_each share [] = refl
own_each share (line ∷ script) =
    flat_map-append event_turns (own_line_events share line) (own_events share script)
    ∙ ap (λ ts. line_turns share line ++ ts) (own_each share script)

-- of the lines of a script so many, where those are all, or a fault came in them
module _ (share : Share) (script : List Asked) (n : ℕ) {route : ℕ → Option ℕ} {k l : Line} {a b : Machine}
    {x y : List ℕ} where
  pub lines_all : length script ≤ n → Goes route (flat_map (line_turns share) (take n script)) true k l a b x y
      → Goes route (own_turns share script) true k l a b x y
  lines_all all run =
      subst (λ ts. Goes route ts true k l a b x y)
      (ap (flat_map (line_turns share)) (take_all n script all) ∙ sym (own_each share script)) run

  pub lines_cut : Goes route (flat_map (line_turns share) (take n script)) false k l a b x y
      → Goes route (own_turns share script) false k l a b x y
  lines_cut stopped =
      subst (λ ts. Goes route ts false k l a b x y) (sym (own_each share script))
      (each_cut (line_turns share) script n stopped)

line_is : (line : Asked) → line_events line ≡ replicate (count_of line) (event_of line)
line_is (Steps n) = refl
line_is (Ticks n) = refl
line_is (Pends irq n) = refl
line_is (Device d irq n) = refl

own_line_length : (share : Share) (line : Asked) → length (own_line_events share line) ≤ count_of line
own_line_length share line = by (takes share line)
  where
    by : (b : Bool) → length (if b then line_events line else []) ≤ count_of line
    by true = omega (arith, ap length (line_is line), length-replicate (count_of line) (event_of line))
    by false = omega arith

-- the core's own events are no more than the script's
pub own_length : (share : Share) (script : List Asked) → length (own_events share script) ≤ count script
own_length share [] = omega arith
own_length share (line ∷ script) =
    rw sum_by-cons
    (omega (
      arith,
      length-append (own_line_events share line) (own_events share script),
      own_line_length share line,
      own_length share script,
    ))

-- the lines before one of a script, and that line
module _ (share : Share) (script : List Asked) (i : ℕ) (line : Asked) (below : i < length script)
    (is : line ≡ get_or script i line) {route : ℕ → Option ℕ} {k l : Line} {a b : Machine} {x y : List ℕ}
    (first : Goes route (flat_map (line_turns share) (take i script)) true k l a b x y) where
  abbrev before : List Event
  before = own_events share (take i script)

  pub can_line : {n : ℕ} {row : Row} → n ≡ count_of line → CanGo (count script) route a k row → CanGo n route b l row
  can_line {n} same can =
      can_behind before (subst (λ ts. Goes route ts true k l a b x y) (sym (own_each share (take i script))) first) n
      can
      (omega (
        arith,
        own_length share (take i script),
        sum_by_more_le count_of script i line below,
        ap count_of is,
        same,
      ))

  -- the line is not the core's
  pub line_skips : takes share line ≡ false
      → Goes route (flat_map (line_turns share) (take (i + 1) script)) true k l a b x y
  line_skips untaken =
      each_more (line_turns share) script i line below is first
      (subst (λ es. Goes route (with_looks es) true l l b b y y)
      (sym (ap (λ (own : Bool). if own then line_events line else []) untaken)) goes_none)

  -- or it is
  pub line_goes : {all : Bool} {m : Line} {c : Machine} {z : List ℕ} {n : ℕ} → n ≡ count_of line
      → takes share line ≡ true → Goes route (with_looks (replicate n (event_of line))) all l m b c y z
      → Goes route (flat_map (line_turns share) (take (i + 1) script)) all k m a c x z
  line_goes {all} {m} {c} {z} same taken second =
      each_more (line_turns share) script i line below is first
      (subst (λ es. Goes route (with_looks es) all l m b c y z) (ap (λ n. replicate n (event_of line)) same
      ∙ sym (ap (λ (own : Bool). if own then line_events line else []) taken ∙ line_is line)) second)
