-- The end of a run: the total behind the last turns, the whole text, and the turns behind the gathering of the lines.
use Rattle.rt_live.proofs.Vocabulary.{AllByRecursion, Arrive, Asked, Bool, Call, Caller as Line, Core, Device, Done}
use Rattle.rt_live.proofs.Vocabulary.{Ended, EndsByLine, Err, Event, Goes, IsFresh, IsWholeLook, Leads, List, Machine}
use Rattle.rt_live.proofs.Vocabulary.{Ok}
use Rattle.rt_live.proofs.Vocabulary.{OnErr, OnOk, Option, Part, Pends, Result, Row, Some, Step, Steps, Tick, Ticks}
use Rattle.rt_live.proofs.Vocabulary.{Took, TookPrefix, Turn, [], ap, append-nil, arith, arrivals_from, core_events}
use Rattle.rt_live.proofs.Vocabulary.{core_line_events, false, flat_map, flat_map-append, inl, inr, interleaving, is_ok}
use Rattle.rt_live.proofs.Vocabulary.{items_of, labels, last_turns, length, length-append, lines_of, look_calls, looks}
use Rattle.rt_live.proofs.Vocabulary.{maker_line, no_route, own_events, own_line_events, own_turns, refl, reset, steps}
use Rattle.rt_live.proofs.Vocabulary.{subst, suc, sym, text, total_text, trace, true, turns, with_looks, ℕ, ◌*◌, ◌++◌}
use Rattle.rt_live.proofs.Vocabulary.{◌+◌, ◌∙◌, ◌∷◌, ◌≡◌, ◌≤◌}
use Rattle.rt_trace.specs.Text.{trace_text}
use Rattle.rt_live.specs.{Written.Totals, declared.share.Share.TheVariants.BesideDevices}
use Rattle.rt_live.proofs.Turning.{done_before, done_on}
use Rattle.rt_live.proofs.Weaving.{Reaches, nowhere, sends_of, weave}
use Rattle.rt_live.proofs.Woven.{all_latches, length-latches, line_on, line_with, looks_own, steps_behind}

-- turns, and those behind them to the end
module _ {route : ℕ → Option ℕ} {here there : ℕ} {ts : List Turn} {calls : List Call} {a b : Machine} {x y : List ℕ}
    (first : Done route here there true ts calls a b x y) (us : List Turn) (more : List Call) (c : Machine) (z : List ℕ)
  where
    totals_on : {taken : List ℕ → List ℕ → List ℕ → Type 0} → Totals taken route here there us more b c y z
        → Totals taken route here there (ts ++ us) (calls ++ more) a c x z
    totals_on last = record { shown = last.shown; done = done_on first last.done; total = last.total }

    pub ended_on : (all : Bool) → Ended route here there us all more b c y z
        → Ended route here there (ts ++ us) all (calls ++ more) a c x z
    ended_on true last = totals_on last
    ended_on false (inl stopped) = inl (done_on first stopped)
    ended_on false (inr last) = inr (totals_on last)

module _ {route : ℕ → Option ℕ} {ts : List Turn} {k : Line} {a : Machine} {x : List ℕ} where
  pub ends_on : {all : Bool} {us : List Turn} {l m : Line} {b c : Machine} {y z : List ℕ}
      → Goes route ts true k l a b x y → EndsByLine route us all l m b c y z
      → EndsByLine route (ts ++ us) all k m a c x z
  ends_on {all} {us} {l} {m} {b} {c} {y} {z} first last = record {
    calls = first.calls ++ last.calls;
    same = line_on k l m first.calls last.calls first.same last.same;
    ended =
        ended_on first.done us last.calls c z all
        (subst (λ (n : Line). Ended route n.here n.there us all last.calls b c y z) first.same last.ended);
  }

  pub ends_cut : {l : Line} {b : Machine} {y : List ℕ} → Goes route ts false k l a b x y
      → EndsByLine route ts false k l a b x y
  ends_cut stopped = record { calls = stopped.calls; same = stopped.same; ended = inl stopped.done }

  -- the line of the total behind them
  pub total_ends : {T E : Type 0} {l : Line} {b : Machine} {y z bytes : List ℕ} (r : Result T E)
      → bytes ≡ total_text b.steps → Goes route ts true k l a b x y → OnOk r (Took y z bytes)
      → OnErr r (TookPrefix y z bytes) → EndsByLine route ts (is_ok r) k l a b x z
  total_ends {y = y} {z = z} (Ok value) told run took part = record {
    calls = run.calls;
    same = run.same;
    ended = record { shown = y; done = run.done; total = subst (Took y z) told took };
  }
  total_ends {y = y} {z = z} (Err error) told run took part = record {
    calls = run.calls;
    same = run.same;
    ended = inr record { shown = y; done = run.done; total = subst (TookPrefix y z) told part };
  }

-- the lines of a fresh core, with the total, are the text of the trace of its image
pub fresh_text : (m n : Machine) (es : List Event) → IsFresh m → Leads es m n → lines_of m es ++ total_text n.steps
    ≡ trace_text m.image.names (record { items = trace m.image es; total = Some (steps es) })
fresh_text m n es fresh run =
    let put : ℕ → Core → List ℕ = λ k c. flat_map (text m.image.names) (items_of k (labels m.image c es)) in
    ap (λ k. lines_of m es ++ total_text k) (let e : n.steps ≡ steps es = omega (arith, run.steps, fresh.steps) in e)
    ∙ ap (λ k. put k m.core ++ total_text (steps es)) fresh.steps
    ∙ ap (λ c. put 0 c ++ total_text (steps es)) fresh.core
    ∙ ap (λ t. put 0 (reset m.image) ++ t) (sym (append-nil (total_text (steps es))))

-- a core beside devices gets the events of its own lines
line_beside : (line : Asked) → own_line_events BesideDevices line ≡ core_line_events line
line_beside (Steps n) = refl
line_beside (Ticks n) = refl
line_beside (Pends irq n) = refl
line_beside (Device d irq n) = refl

pub events_beside : (script : List Asked) → own_events BesideDevices script ≡ core_events script
events_beside [] = refl
events_beside (line ∷ script) =
    ap (λ es. es ++ own_events BesideDevices script) (line_beside line)
    ∙ ap (λ es. core_line_events line ++ es) (events_beside script)

-- events are as many steps as they are woven
own_steps : (es : List Event) (found : List (List ℕ)) → length found ≡ looks (with_looks es)
    → steps (interleaving (with_looks es) found) ≡ steps es
own_steps [] found many = refl
own_steps (Tick ∷ es) found many = own_steps es found many
own_steps (Arrive irq ∷ es) found many = own_steps es found many
own_steps (Step ∷ es) [] many = absurd (omega (arith, many))
own_steps (Step ∷ es) (ws ∷ found) many =
    steps_behind (arrivals_from 0 ws) (Step ∷ interleaving (with_looks es) found)
    ∙ ap suc (own_steps es found (omega (arith, many)))

abbrev own : List Asked → List Turn
own script = own_turns BesideDevices script

-- the turns of a script, where its own events were done by a fresh core
all_turns : (script : List Asked) {route : ℕ → Option ℕ} {here there : ℕ} {calls : List Call} {a b : Machine}
    {x y : List ℕ} → IsFresh a → Done route here there true (own script) calls a b x y
    → own script ++ last_turns b.steps ≡ turns script
all_turns script {b = b} fresh run =
    let w = weave run in
    let counted : b.steps ≡ steps (own_events BesideDevices script) =
    omega (
      arith,
      (sends_of w).leads.steps,
      fresh.steps,
      own_steps (own_events BesideDevices script) w.found w.reach.0,
    ) in
    ap (λ n. own script ++ last_turns n) counted
    ∙ ap (λ es. with_looks es ++ last_turns (steps es)) (events_beside script)

-- so many calls are looks of which the last may be cut
looks_length : (found : List (List ℕ)) (last : List ℕ) → AllByRecursion IsWholeLook found
    → length (flat_map look_calls (found ++ last ∷ [])) ≡ 16 * length found + length last
looks_length found last whole = omega (
  arith,
  ap length (flat_map-append look_calls found (last ∷ [])),
  length-append (flat_map look_calls found) (look_calls last ++ []),
  length-append (look_calls last) [],
  all_latches found whole,
  length-latches 0 last,
)

reaches_few : (all : Bool) (n most : ℕ) (last : List ℕ) → Reaches all n most last → length last ≤ 16
    → 16 * n + length last ≤ 16 * most
reaches_few true n most last is short = omega (arith, is.0, ap length is.1)
reaches_few false n most last (inl less) short = omega (arith, less, short)
reaches_few false n most last (inr done) short = omega (arith, ap length done.0, done.1)

-- the core's own turns, which its line did first
module _ (script : List Asked) {all : Bool} {row : Row} {made : List ℕ} {k l : Line} {a b : Machine} {x y : List ℕ}
    (first : k ≡ maker_line row made) (goes : Goes no_route (own script) all k l a b x y) where
  done_here : Done no_route 0 0 all (own script) goes.calls a b x y
  done_here = subst (λ (o : Line). Done no_route o.here o.there all (own script) goes.calls a b x y) first goes.done

  own_calls : l.calls ≡ goes.calls
  own_calls = ap (λ (o : Line). o.calls) (goes.same ∙ ap (λ (o : Line). line_with o goes.calls) first)

  -- so many calls
  pub own_few : length l.calls ≤ 16 * steps (core_events script)
  own_few =
      let w = weave done_here in
      omega (
        arith,
        ap length own_calls,
        ap length (w.alone nowhere refl),
        looks_length w.found w.last w.whole,
        reaches_few all (length w.found) (looks (own script)) w.last w.reach w.short,
        looks_own (own_events BesideDevices script),
        ap steps (events_beside script),
      )

-- Behind them the lines of the devices were gathered.
module _ (script : List Asked) {row : Row} {made : List ℕ} {k l m : Line} {parts : List Part} {a b : Machine}
    {x y : List ℕ} (first : k ≡ maker_line row made) (gathered : m ≡ record l { gathered = parts; since = m.since })
  where
    -- a fault at the core's own turns
    pub own_cut : Goes no_route (own script) false k l a b x y → Ended no_route 0 0 (turns script) false m.calls a b x y
    own_cut stopped =
        inl (subst (λ cs. Done no_route 0 0 false (turns script) cs a b x y)
        (sym (ap (λ (o : Line). o.calls) gathered ∙ own_calls script first stopped))
        (subst (λ es. Done no_route 0 0 false (with_looks es ++ last_turns (steps es)) stopped.calls a b x y)
        (events_beside script)
        (done_before (last_turns (steps (own_events BesideDevices script))) (done_here script first stopped))))

    -- or all of them, and then the end
    pub own_ends : {all : Bool} {n : Line} {c : Machine} {z : List ℕ} {added : ℕ} → IsFresh a
        → Goes no_route (own script) true k l a b x y → added ≡ b.steps
        → EndsByLine no_route (last_turns added) all m n b c y z → Ended no_route 0 0 (turns script) all n.calls a c x z
    own_ends {all} {n} {c} {z} {added} fresh run same last =
        let before = done_here script first run in
        let us : List Turn = last_turns added in
        let placed = gathered
        ∙ ap (λ (o : Line). record o { gathered = parts; since = m.since })
        (run.same ∙ ap (λ (o : Line). line_with o run.calls) first) in
        subst (λ cs. Ended no_route 0 0 (turns script) all cs a c x z)
        (sym (ap (λ (o : Line). o.calls) (last.same ∙ ap (λ (o : Line). line_with o last.calls) placed)))
        (subst (λ ts. Ended no_route 0 0 ts all (run.calls ++ last.calls) a c x z)
        (ap (λ s. own script ++ last_turns s) same ∙ all_turns script fresh before)
        (ended_on before us last.calls c z all
        (subst (λ (o : Line). Ended no_route o.here o.there us all last.calls b c y z) placed last.ended)))

-- by an answer
module _ {T E P : Type 0} {route : ℕ → Option ℕ} {here there : ℕ} {ts : List Turn} {calls : List Call} {a b : Machine}
    {x y : List ℕ} where
  pub if_all : (r : Result T E) → Ended route here there ts (is_ok r) calls a b x y
      → (Ended route here there ts true calls a b x y → P) → OnOk r P
  if_all (Ok value) ended from = from ended
  if_all (Err error) ended from = tt

  pub if_cut : (r : Result T E) → Ended route here there ts (is_ok r) calls a b x y
      → (Ended route here there ts false calls a b x y → P) → OnErr r P
  if_cut (Ok value) ended from = tt
  if_cut (Err error) ended from = from ended
