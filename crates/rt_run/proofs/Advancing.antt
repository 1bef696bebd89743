-- Runs that go on where others ended, or where a fault came.
use Rattle.std.proofs.Common.{◌≡◌, ℕ, suc, ◌+◌, ◌-◌, ◌<◌, ◌≤◌, List, [], ◌∷◌, ◌++◌, flat_map, replicate, Some}
use Rattle.std.proofs.Common.{None, refl, ap, sym, subst, ◌∙◌, append_assoc}
use Rattle.std.proofs.Common.{length, length-append, arith}
use Rattle.std.specs.List.{AllByRecursion}
use Rattle.std.proofs.lemmas.Grind.{flat_map-append}
use Rattle.std.proofs.lemmas.List.{append-nil, replicate_more, replicate-append-replicate}
use Rattle.rt_lemmas.proofs.Membership.{all_append}
use Rattle.rt_ids.specs.Event.{Event, Arrive, Tick, Step, steps}
use Rattle.rt_code.specs.Image.{Image}
use Rattle.rt_core.specs.Machine.{Machine}
use Rattle.rt_core.specs.Trace.{core_after, labels}
use Rattle.rt_core.specs.Stepping.{step}
use Rattle.rt_core.specs.declared.alarm.Alarm.{Alarm}
use Rattle.rt_core.proofs.Happening.{core_after-append, labels-append}
use Rattle.rt_outside.specs.Bytes.{TookPrefix}
use Rattle.rt_trace.specs.Label.{Label, Arrived, Ticked, Rang, Stepped, items_of, steps_of}
use Rattle.rt_trace.specs.Lined.{HasLine}
use Rattle.rt_trace.specs.Text.{text}
use Rattle.rt_trace.specs.declared.buffer.TheConstants.{BUFFER_BYTES}
use Rattle.rt_trace.specs.declared.item.Item.{Item}
use Rattle.rt_trace.specs.declared.item.What.{What}
use Rattle.rt_trace.specs.declared.item.What.TheVariants as what
use Rattle.rt_run.specs.Done.{Leads}
use Rattle.rt_run.specs.Sending.{shown_items, lines_of, TookButHeld, EndsInItem}
use Rattle.rt_run.specs.Inside.Writing.{Wrote, Writes, Cut}
use Rattle.rt_run.proofs.Taking.{wrote_none, wrote_on, wrote_cut, held_on}
use Rattle.rt_core.proofs.Showing.{steps_are}

abbrev numbered : ℕ → What → Item
numbered n w = record { step = n; what = w }

-- the items of labels and of those behind them
pub items-append : (n : ℕ) (ls ms : List Label) → items_of n (ls ++ ms) ≡ items_of n ls ++ items_of (n + steps_of ls) ms
items-append n [] ms = ap (λ k. items_of k ms) (let e : n ≡ n + 0 = omega arith in e)
items-append n (Arrived irq ∷ ls) ms = ap (λ is. numbered n (what.Pend irq) ∷ is) (items-append n ls ms)
items-append n (Ticked ∷ ls) ms = ap (λ is. numbered n what.Tick ∷ is) (items-append n ls ms)
items-append n (Rang ∷ ls) ms = ap (λ is. numbered n what.Alarm ∷ is) (items-append n ls ms)
items-append n (Stepped None ∷ ls) ms =
    items-append (suc n) ls ms
    ∙ ap (λ k. items_of (suc n) ls ++ items_of k ms)
    (let e : suc n + steps_of ls ≡ n + suc (steps_of ls) = omega arith in e)
items-append n (Stepped (Some w) ∷ ls) ms =
    ap (λ is. numbered n w ∷ is)
    (items-append (suc n) ls ms
    ∙ ap (λ k. items_of (suc n) ls ++ items_of k ms)
    (let e : suc n + steps_of ls ≡ n + suc (steps_of ls) = omega arith in e))

pub steps-append : (es fs : List Event) → steps (es ++ fs) ≡ steps es + steps fs
steps-append [] fs = let e : steps fs ≡ 0 + steps fs = omega arith in e
steps-append (Step ∷ es) fs = let e : suc (steps (es ++ fs)) ≡ suc (steps es) + steps fs =
    omega (arith, steps-append es fs) in e
steps-append (Tick ∷ es) fs = steps-append es fs
steps-append (Arrive irq ∷ es) fs = steps-append es fs

-- no events leave all as it was
pub stands_still : (m : Machine) → Leads [] m m
unfolding core_after
stands_still m = record {
  image = refl;
  core = refl;
  steps = let e : m.steps ≡ m.steps + 0 = omega arith in e;
}

pub leads_on : (es fs : List Event) (a b c : Machine) → Leads es a b → Leads fs b c → Leads (es ++ fs) a c
leads_on es fs a b c first second = record {
  image = second.image ∙ first.image;
  core =
      second.core ∙ ap (λ i. core_after i b.core fs) first.image ∙ ap (λ d. core_after a.image d fs) first.core
      ∙ sym (core_after-append a.image a.core es fs);
  steps = omega (arith, second.steps, first.steps, steps-append es fs);
}

-- what more events show, and the lines of it
pub items_split : (es fs : List Event) (a b : Machine) → Leads es a b
    → shown_items a (es ++ fs) ≡ shown_items a es ++ shown_items b fs
items_split es fs a b run =
    let img : Image = a.image in
    let front : List Label = labels img a.core es in
    let behind : List Label = labels img (core_after img a.core es) fs in
    let split : shown_items a (es ++ fs) ≡ items_of a.steps front ++ items_of (a.steps + steps es) behind =
    ap (items_of a.steps) (labels-append img a.core es fs)
    ∙ items-append a.steps front behind
    ∙ ap (λ n. items_of a.steps front ++ items_of (a.steps + n) behind) (steps_are img a.core es) in
    let there : shown_items b fs ≡ items_of (a.steps + steps es) behind =
    ap (λ (i : Image). items_of b.steps (labels i b.core fs)) run.image
    ∙ ap (λ d. items_of b.steps (labels img d fs)) run.core
    ∙ ap (λ n. items_of n behind) run.steps in
    split ∙ ap (λ t. shown_items a es ++ t) (sym there)

pub lines_split : (es fs : List Event) (a b : Machine) → Leads es a b
    → lines_of a (es ++ fs) ≡ lines_of a es ++ lines_of b fs
lines_split es fs a b run =
    ap (flat_map (text a.image.names)) (items_split es fs a b run)
    ∙ flat_map-append (text a.image.names) (shown_items a es) (shown_items b fs)
    ∙ ap (λ (i : Image). lines_of a es ++ flat_map (text i.names) (shown_items b fs)) (sym run.image)

-- nothing was run and nothing written
pub nothing_yet : (m : Machine) (x held : List ℕ) → Writes [] m m x x held held
unfolding labels
nothing_yet m x held = record { leads = stands_still m; lined = tt; wrote = wrote_none x held }

-- one run and one that goes on are one
pub goes_on : (es fs : List Event) (a b c : Machine) (x y z held mid kept : List ℕ)
    → Writes es a b x y held mid → Writes fs b c y z mid kept → Writes (es ++ fs) a c x z held kept
goes_on es fs a b c x y z held mid kept first second = record {
  leads = leads_on es fs a b c first.leads second.leads;
  lined =
      subst (AllByRecursion (HasLine a.image.names)) (sym (items_split es fs a b first.leads))
      (all_append (HasLine a.image.names) (shown_items a es) (shown_items b fs) first.lined
      (subst (λ (i : Image). AllByRecursion (HasLine i.names) (shown_items b fs)) first.leads.image second.lined));
  wrote =
      subst (Wrote x z held kept) (sym (lines_split es fs a b first.leads))
      (wrote_on x y z held mid kept (lines_of a es) (lines_of b fs) first.wrote second.wrote);
}

-- events, and those behind them, which end in an item
abbrev pub ends_behind : (es fs : List Event) (a b : Machine) → Leads es a b → EndsInItem fs b → EndsInItem (es ++ fs) a
ends_behind es fs a b run ends = record {
  earlier = es ++ ends.earlier;
  last = ends.last;
  parts = ap (λ t. es ++ t) ends.parts ∙ sym (append_assoc es ends.earlier (ends.last ∷ []));
  shows =
      omega (
        arith,
        ends.shows,
        ap length (items_split es ends.earlier a b run),
        ap length (items_split es fs a b run),
        length-append (shown_items a es) (shown_items b ends.earlier),
        length-append (shown_items a es) (shown_items b fs),
      );
}

-- a run, and a fault behind it
pub cut_behind : (es fs : List Event) (a b c : Machine) (x y z held mid : List ℕ)
    → Writes es a b x y held mid → Cut fs b c y z mid → Cut (es ++ fs) a c x z held
cut_behind es fs a b c x y z held mid first cut = record {
  done = es ++ cut.done;
  rest = cut.rest;
  parts = ap (λ t. es ++ t) cut.parts ∙ sym (append_assoc es cut.done cut.rest);
  leads = leads_on es cut.done a b c first.leads cut.leads;
  took =
      subst (λ t. TookPrefix x z (held ++ t)) (sym (lines_split es cut.done a b first.leads))
      (wrote_cut x y z held mid (lines_of a es) (lines_of b cut.done) first.wrote cut.took);
  ends = ends_behind es cut.done a b first.leads cut.ends;
  held_back =
      subst (λ t. TookButHeld x z (held ++ t)) (sym (lines_split es cut.ends.earlier a b first.leads))
      (held_on x y z held mid (lines_of a es) (lines_of b cut.ends.earlier) first.wrote cut.held_back);
}

-- a fault, with more to come
pub cut_before : (es fs : List Event) (a b : Machine) (x y held : List ℕ) → Cut es a b x y held
    → Cut (es ++ fs) a b x y held
cut_before es fs a b x y held cut = record {
  done = cut.done;
  rest = cut.rest ++ fs;
  parts = ap (λ t. t ++ fs) cut.parts ∙ append_assoc cut.done cut.rest fs;
  leads = cut.leads;
  took = cut.took;
  ends = cut.ends;
  held_back = cut.held_back;
}

-- equal events, one more behind some
pub more : (n : ℕ) (e : Event) (a b c : Machine) (x y z held mid kept : List ℕ)
    → Writes (replicate n e) a b x y held mid → Writes (e ∷ []) b c y z mid kept
    → Writes (replicate (n + 1) e) a c x z held kept
more n e a b c x y z held mid kept first second =
    subst (λ es. Writes es a c x z held kept) (replicate_more n e)
    (goes_on (replicate n e) (e ∷ []) a b c x y z held mid kept first second)

-- equal events, and a fault at the next of them
pub more_cut : (n count : ℕ) (e : Event) (a b c : Machine) (x y z held mid : List ℕ) → n < count
    → Writes (replicate n e) a b x y held mid → Cut (e ∷ []) b c y z mid → Cut (replicate count e) a c x z held
more_cut n count e a b c x y z held mid within first cut =
    let rest : ℕ = count - (n + 1) in
    let all : replicate (n + 1) e ++ replicate rest e ≡ replicate count e =
    replicate-append-replicate (n + 1) rest e
    ∙ ap (λ k. replicate k e) (let same : n + 1 + rest ≡ count = omega arith in same) in
    subst (λ es. Cut es a c x z held) all
    (cut_before (replicate (n + 1) e) (replicate rest e) a c x z held
    (subst (λ es. Cut es a c x z held) (replicate_more n e)
    (cut_behind (replicate n e) (e ∷ []) a b c x y z held mid first cut)))

-- equal events, some more of those that are left
pub some_more : (count left now : ℕ) (e : Event) (a b c : Machine) (x y z held mid kept : List ℕ) → left ≤ count
    → now ≤ left → Writes (replicate (count - left) e) a b x y held mid
    → Writes (replicate (left - now) e) b c y z mid kept → Writes (replicate (count - now) e) a c x z held kept
some_more count left now e a b c x y z held mid kept within fewer first second =
    subst (λ es. Writes es a c x z held kept)
    (replicate-append-replicate (count - left) (left - now) e
    ∙ ap (λ n. replicate n e) (let same : count - left + (left - now) ≡ count - now = omega (arith, within, fewer) in
    same))
    (goes_on (replicate (count - left) e) (replicate (left - now) e) a b c x y z held mid kept first second)

-- and a fault among those that are left
pub left_cut : (count left : ℕ) (e : Event) (a b c : Machine) (x y z held mid : List ℕ) → left ≤ count
    → Writes (replicate (count - left) e) a b x y held mid → Cut (replicate left e) b c y z mid
    → Cut (replicate count e) a c x z held
left_cut count left e a b c x y z held mid within first cut =
    subst (λ es. Cut es a c x z held)
    (replicate-append-replicate (count - left) left e
    ∙ ap (λ n. replicate n e) (let same : count - left + left ≡ count = omega (arith, within) in same))
    (cut_behind (replicate (count - left) e) (replicate left e) a b c x y z held mid first cut)

-- a fault among the first of equal events
pub cut_more : (n count : ℕ) (e : Event) (a b : Machine) (x y held : List ℕ) → n ≤ count
    → Cut (replicate n e) a b x y held → Cut (replicate count e) a b x y held
cut_more n count e a b x y held within cut =
    subst (λ es. Cut es a b x y held)
    (replicate-append-replicate n (count - n) e ∙ ap (λ k. replicate k e)
    (let same : n + (count - n) ≡ count = omega (arith, within) in same))
    (cut_before (replicate n e) (replicate (count - n) e) a b x y held cut)

-- events that came, with these lines
pub written : (es : List Event) (a b : Machine) (x y held kept bytes : List ℕ) → Leads es a b
    → AllByRecursion (HasLine a.image.names) (shown_items a es) → lines_of a es ≡ bytes → Wrote x y held kept bytes
    → Writes es a b x y held kept
written es a b x y held kept bytes run lined is wrote =
    record { leads = run; lined = lined; wrote = subst (Wrote x y held kept) (sym is) wrote }

-- events came, the last of which alone shows an item, and then a fault
module _ (earlier : List Event) (last : Event) (a b : Machine) (x y held bytes : List ℕ)
    (silent : shown_items a earlier ≡ []) (shows : 0 < length (shown_items a (earlier ++ last ∷ [])))
    (few : length held ≤ BUFFER_BYTES) where
  pub stopped : Leads (earlier ++ last ∷ []) a b → lines_of a (earlier ++ last ∷ []) ≡ bytes
      → TookPrefix x y (held ++ bytes) → Cut (earlier ++ last ∷ []) a b x y held
  stopped run is part = record {
    done = earlier ++ last ∷ [];
    rest = [];
    parts = sym (append-nil (earlier ++ last ∷ []));
    leads = run;
    took = subst (λ t. TookPrefix x y (held ++ t)) (sym is) part;
    ends =
        record { earlier = earlier; last = last; parts = refl; shows = omega (arith, ap length silent, shows) };
    held_back = record {
      front = [];
      held = held;
      parts = ap (λ t. held ++ flat_map (text a.image.names) t) silent ∙ append-nil held;
      took = (part.0, part.2);
      few = few;
    };
  }

-- no event shows nothing
no_items : (m : Machine) → shown_items m [] ≡ []
unfolding labels
no_items m = refl

-- one event came, and then a fault
pub stopped_at : (e : Event) (a b : Machine) (x y held bytes : List ℕ)
    → 0 < length (shown_items a (e ∷ [])) → length held ≤ BUFFER_BYTES → Leads (e ∷ []) a b
    → lines_of a (e ∷ []) ≡ bytes → TookPrefix x y (held ++ bytes) → Cut (e ∷ []) a b x y held
stopped_at e a b x y held bytes shows few = stopped [] e a b x y held bytes (no_items a) shows few
