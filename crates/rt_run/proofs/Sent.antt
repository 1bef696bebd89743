-- Events whose lines went out at once, runs that go on where others ended, and runs in which a fault came.
use Rattle.std.proofs.Common.{◌≡◌, ◌⊎◌, inl, inr, ℕ, ◌+◌, ◌<◌, List, [], ◌∷◌, ◌++◌, length, flat_map}
use Rattle.std.proofs.Common.{refl, ap, sym, subst, ◌∙◌}
use Rattle.std.proofs.Common.{append_assoc, arith, length-append}
use Rattle.std.proofs.lemmas.List.{append-nil}
use Rattle.rt_ids.specs.Event.{Event, steps}
use Rattle.rt_ids.specs.Names.{Names}
use Rattle.rt_core.specs.Machine.{Machine}
use Rattle.rt_core.specs.Trace.{core_after, labels}
use Rattle.rt_outside.specs.Bytes.{Took, TookAtLeast, TookPrefix}
use Rattle.rt_trace.specs.Text.{text}
use Rattle.rt_trace.specs.declared.item.Item.{Item}
use Rattle.rt_run.specs.Done.{Leads}
use Rattle.rt_run.specs.Sending.{Sends, Breaks, EndsInItem, shown_items, lines_of}
use Rattle.rt_run.specs.Inside.Writing.{Writes, Cut}
use Rattle.rt_run.proofs.Taking.{took_on, part_on, least_on}
use Rattle.rt_run.proofs.Advancing.{nothing_yet, goes_on, leads_on, items_split, lines_split}

module _ (es : List Event) (a b : Machine) (x held : List ℕ) (empty : held ≡ []) where
  behind : (y kept : List ℕ) (run : Writes es a b x y held kept) → run.wrote.front ++ kept ≡ lines_of a es
  behind y kept run = sym run.wrote.parts ∙ ap (λ h. h ++ lines_of a es) empty

  module _ (y z kept : List ℕ) (run : Writes es a b x y held kept) where
    -- events came, and then what was held went out
    pub sent : Took y z kept → Sends es a b x z
    sent took = record {
      leads = run.leads;
      lined = run.lined;
      took = subst (Took x z) (behind y kept run) (took_on x y z run.wrote.front kept run.wrote.took took);
    }

    -- or a beginning of it
    sent_part : TookPrefix y z kept → TookPrefix x z (lines_of a es)
    sent_part part =
        subst (TookPrefix x z) (behind y kept run) (part_on x y z run.wrote.front kept run.wrote.took part)

-- no event has no line
no_lines : (m : Machine) → lines_of m [] ≡ []
unfolding labels
no_lines m = refl

-- a fault in the lines of one event
at_event : (e : Event) (a b : Machine) (x y : List ℕ) → Leads (e ∷ []) a b
    → TookPrefix x y (lines_of a (e ∷ [])) → Breaks (e ∷ []) a b x y
at_event e a b x y run part = record {
  done = [];
  last = e;
  rest = [];
  parts = refl;
  leads = run;
  took = subst (TookAtLeast x y) (sym (no_lines a)) (part.0, part.2);
  cut = part;
}

-- nothing goes on in no bytes
not_in_none : (x y : List ℕ) → TookPrefix x y [] → ⊥
not_in_none x y part = omega (arith, part.1.1, length-append part.0 part.1.0, ap length part.1.2)

-- the first of one event are none or all
first_of_one : (e : Event) (done rest : List Event) → e ∷ [] ≡ done ++ rest → (done ≡ []) ⊎ (done ≡ e ∷ [])
first_of_one e [] rest parts = inl refl
first_of_one e (d ∷ []) rest parts = let same : e ≡ d = cc in inr (ap (λ (f : Event). f ∷ []) (sym same))
first_of_one e (d ∷ f ∷ ds) rest parts = let none : [] ≡ f ∷ (ds ++ rest) = cc in absurd cc

module _ (e : Event) (a b : Machine) (x held : List ℕ) (empty : held ≡ []) where
  -- an event came, and of what was held a beginning went out
  pub sent_cut : (y z kept : List ℕ) → Writes (e ∷ []) a b x y held kept → TookPrefix y z kept → Breaks (e ∷ []) a b x z
  sent_cut y z kept run part = at_event e a b x z run.leads (sent_part (e ∷ []) a b x held empty y z kept run part)

  -- a fault came at the event
  pub broken : (y : List ℕ) → Cut (e ∷ []) a b x y held → Breaks (e ∷ []) a b x y
  broken y cut = elim (first_of_one e cut.done cut.rest cut.parts) [
    | inl none ↦ absurd (not_in_none x y
        (subst (TookPrefix x y) (ap (lines_of a) none ∙ no_lines a) part))
    | inr all ↦ at_event e a b x y (subst (λ es. Leads es a b) all cut.leads)
        (subst (λ es. TookPrefix x y (lines_of a es)) all part)
  ]
    where
      part : TookPrefix x y (lines_of a cut.done)
      part = subst (λ h. TookPrefix x y (h ++ lines_of a cut.done)) empty cut.took

-- the same, with a buffer that is empty
unsent : (es : List Event) (a b : Machine) (x y : List ℕ) → Sends es a b x y → Writes es a b x y [] []
unsent es a b x y run = record {
  leads = run.leads;
  lined = run.lined;
  wrote = record { front = lines_of a es; took = run.took; parts = sym (append-nil (lines_of a es)) };
}

without : (es : List Event) (a b : Machine) (x y : List ℕ) → Writes es a b x y [] [] → Sends es a b x y
without es a b x y run = record {
  leads = run.leads;
  lined = run.lined;
  took = subst (Took x y) (sym (append-nil run.wrote.front) ∙ sym run.wrote.parts) run.wrote.took;
}

-- nothing came, and nothing was written
pub sends_none : (m : Machine) (x : List ℕ) → Sends [] m m x x
sends_none m x = without [] m m x x (nothing_yet m x [])

-- one run and one that goes on are one
pub sends_on : (es fs : List Event) (a b c : Machine) (x y z : List ℕ) → Sends es a b x y → Sends fs b c y z
    → Sends (es ++ fs) a c x z
sends_on es fs a b c x y z first second =
    without (es ++ fs) a c x z
    (goes_on es fs a b c x y z [] [] [] (unsent es a b x y first) (unsent fs b c y z second))

-- a run, and a fault behind it
pub breaks_behind : (es fs : List Event) (a b c : Machine) (x y z : List ℕ) → Sends es a b x y
    → Breaks fs b c y z → Breaks (es ++ fs) a c x z
breaks_behind es fs a b c x y z first cut =
    let came : List Event = cut.done ++ cut.last ∷ [] in
    let all : es ++ came ≡ (es ++ cut.done) ++ cut.last ∷ [] = sym (append_assoc es cut.done (cut.last ∷ [])) in
    record {
      done = es ++ cut.done;
      last = cut.last;
      rest = cut.rest;
      parts = ap (λ t. es ++ t) cut.parts ∙ sym (append_assoc es cut.done (cut.last ∷ cut.rest));
      leads = subst (λ t. Leads t a c) all (leads_on es came a b c first.leads cut.leads);
      took =
          subst (TookAtLeast x z) (sym (lines_split es cut.done a b first.leads))
          (least_on x y z (lines_of a es) (lines_of b cut.done) first.took cut.took);
      cut =
          subst (TookPrefix x z) (sym (lines_split es came a b first.leads) ∙ ap (lines_of a) all)
          (part_on x y z (lines_of a es) (lines_of b came) first.took cut.cut);
    }

-- a fault, with more to come
pub breaks_before : (es fs : List Event) (a b : Machine) (x y : List ℕ) → Breaks es a b x y → Breaks (es ++ fs) a b x y
breaks_before es fs a b x y cut = record {
  done = cut.done;
  last = cut.last;
  rest = cut.rest ++ fs;
  parts = ap (λ t. t ++ fs) cut.parts ∙ append_assoc cut.done (cut.last ∷ cut.rest) fs;
  leads = cut.leads;
  took = cut.took;
  cut = cut.cut;
}

-- lines are of items
some_items : (names : Names) (items : List Item) → 0 < length (flat_map (text names) items) → 0 < length items
some_items names [] some = absurd (omega (arith, some))
some_items names (i ∷ is) some = omega arith

-- the event in whose lines a fault came shows an item
pub breaks_end : (es : List Event) (a b : Machine) (x y : List ℕ) (cut : Breaks es a b x y)
    → EndsInItem (cut.done ++ cut.last ∷ []) a
breaks_end es a b x y cut =
    let mid : Machine =
    record { image = a.image; core = core_after a.image a.core cut.done; steps = a.steps + steps cut.done } in
    let there : Leads cut.done a mid = record { image = refl; core = refl; steps = refl } in
    let last : List Event = cut.last ∷ [] in
    let more : 0 < length (lines_of mid last) =
    omega (
      arith,
      ap length (lines_split cut.done last a mid there),
      length-append (lines_of a cut.done) (lines_of mid last),
      ap length cut.took.1,
      length-append x (lines_of a cut.done ++ cut.took.0),
      length-append (lines_of a cut.done) cut.took.0,
      ap length cut.cut.2,
      length-append x cut.cut.0,
      cut.cut.1.1,
      ap length cut.cut.1.2,
      length-append cut.cut.0 cut.cut.1.0,
    ) in
    record {
      earlier = cut.done;
      last = cut.last;
      parts = refl;
      shows =
          omega (
            arith,
            ap length (items_split cut.done last a mid there),
            length-append (shown_items a cut.done) (shown_items mid last),
            some_items a.image.names (shown_items mid last) more,
          );
    }
