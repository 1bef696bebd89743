-- From priority to priority up to the highest: the stack takes the whole bound there.
use Rattle.std.proofs.Common.{◌≡◌, ℕ, zero, suc, ◌+◌, ◌*◌, ◌^◌, ◌<◌, ◌≤◌, ◌⊎◌, inl, inr, Bool, true, false}
use Rattle.std.proofs.Common.{if◌then◌else◌, List, [], ◌∷◌, ◌++◌, length, map, take}
use Rattle.std.proofs.Common.{refl, ap, sym, subst, ◌∙◌, arith, append_assoc}
use Rattle.std.proofs.Common.{length-append, length-set}
use Rattle.std.specs.List.{AllByRecursion}
use Rattle.std.proofs.lemmas.List.{length-replicate, length-map}
use Rattle.rt_lemmas.proofs.Membership.{all_append}
use Rattle.rt_ids.specs.Event.{Event, Arrive, Step}
use Rattle.rt_ids.specs.Exception as exception
use Rattle.rt_ids.specs.Lists.{those_below, or_zero}
use Rattle.rt_ids.specs.Names.{Names, AreNames}
use Rattle.rt_ids.specs.Naming.{irq_name, IsDeclared}
use Rattle.rt_ids.specs.declared.limits.TheConstants.{NAME_BYTES, IRQ_NUMBERS}
use Rattle.rt_app.specs.Tree.{App}
use Rattle.rt_app.specs.Accepted.{IsAccepted}
use Rattle.rt_app.specs.Names.{names_of}
use Rattle.rt_app.specs.Stack.{has_handler, need, priority_bytes, bytes_below, thread_words, stack_bytes}
use Rattle.rt_app.specs.declared.costs.TheConstants.{PRIORITIES}
use Rattle.rt_app.proofs.Sound.{accepted_are_sound}
use Rattle.rt_build.specs.Built.{IsBuilt}
use Rattle.rt_build.specs.Image.{IsImageOf}
use Rattle.rt_code.specs.Image.{Image, entry_words}
use Rattle.rt_core.specs.Core.{reset, stack_in_use, depth}
use Rattle.rt_core.specs.Trace.{depth_after}
use Rattle.rt_core.proofs.Happening.{happens_by_event}
use Rattle.rt_laws.specs.Acting as acting
use Rattle.rt_laws.specs.Preemption.{system_ceiling}
use Rattle.rt_laws.specs.State.{State}
use Rattle.rt_script.specs.Script.{events}
use Rattle.rt_sim.specs.Good.{Good, AreDeclared}
use Rattle.rt_sim.proofs.Armed.{counts_of_few}
use Rattle.rt_sim.proofs.Reached.{declared_append}
use Rattle.rt_reach.specs.Deepest.{script_of, IsFirstTake, LeadsToTake}
use Rattle.rt_app.specs.Forms.{has_deepest_script}
use Rattle.rt_reach.specs.Inside.Soon.{TakesWithin}
use Rattle.rt_reach.specs.Priorities.{deepest_irq, deepest_irqs}
use Rattle.rt_reach.specs.Reached.{ReachesTheBound}
use Rattle.rt_reach.specs.Spelled.{script_text}
use Rattle.rt_reach.proofs.Deepening.{events_one, events_next, steps_declared, state_at, core_at}
use Rattle.rt_reach.proofs.Deepening.{Rests, IsServed, deepest_served, Enters, enters, taken}
use Rattle.rt_reach.proofs.Jobs.{requested}
use Rattle.rt_reach.proofs.Pended.{PendsOnly}
use Rattle.rt_reach.proofs.Reading.{is_script_text}
use Rattle.rt_reach.proofs.Rising.{below_few, irqs_below, irqs_yes, irqs_no, handled_deepest}
use Rattle.rt_reach.proofs.Running.{state_request, core_request}
use Rattle.rt_reach.proofs.Served.{IsDeepestAt}
use Rattle.rt_reach.proofs.Takes.{starts, one_first}
use Rattle.rt_frames.proofs.Below.{below_none}
use Rattle.rt_frames.proofs.Handlers.{bytes_none}
use Rattle.rt_lines.proofs.Short.{irq_name_short}

bytes_more : (app : App) (p : ℕ) → bytes_below app (suc p) ≡ bytes_below app p + priority_bytes app p
unfolding bytes_below
bytes_more app p = refl

names_short : (names : Names) (irqs : List ℕ) → AreNames names
    → AllByRecursion (λ irq. length (irq_name names irq) ≤ NAME_BYTES) irqs
names_short names [] are = tt
names_short names (irq ∷ irqs) are = (irq_name_short names irq are, names_short names irqs are)

pub take_all : {X : Type 0} (xs : List X) → take (length xs) xs ≡ xs
take_all [] = refl
take_all (x ∷ xs) = ap (λ ys. x ∷ ys) (take_all xs)

module _ (app : App) (img : Image) (accepted : IsAccepted app) (is_image : IsImageOf app img)
    (form : has_deepest_script app ≡ true) where
  abbrev below : ℕ → List ℕ
  below = irqs_below app accepted form

  abbrev script : ℕ → List ℕ → List Event
  script steps irqs = events (script_of steps irqs)

  -- the priorities below one that have a handler stand on each other
  pub record Up (p : ℕ) : Type 0 where
    pub irq : ℕ
    pub more : List ℕ
    pub are : below p ≡ irq ∷ more
    pub steps : ℕ
    pub few : steps ≤ 900001
    pub first_take : IsFirstTake img irq steps
    pub rests : Rests app img accepted is_image form p (script steps (irq ∷ more))
    pub bytes : 4 * stack_in_use img (core_at app img accepted is_image form (script steps (irq ∷ more)))
        ≡ 4 * thread_words app + bytes_below app p
    pub declared : AreDeclared app (script steps (irq ∷ more))
    pub long : length (script steps (irq ∷ more)) ≤ 900002 + 2 * p
    pub named : AllByRecursion (IsDeclared (names_of app)) (irq ∷ more)

  -- none of them has one
  pub record Flat (p : ℕ) : Type 0 where
    pub none : below p ≡ []
    pub bytes : bytes_below app p ≡ 0

  abbrev pub Climbed : ℕ → Type 0
  Climbed p = Flat p ⊎ Up p

  entry_is : entry_words img ≡ exception.entry_words app.fpu
  entry_is = ap exception.entry_words is_image.tables.fpu

  level_is : (p : ℕ) → has_handler app p ≡ true
      → priority_bytes app p ≡ 4 * (exception.entry_words app.fpu + need app p)
  level_is p has = ap (λ b. if b then 4 * (exception.entry_words app.fpu + need app p) else 0) has

  no_handler : (p : ℕ) → has_handler app p ≡ false → priority_bytes app p ≡ 0
  no_handler p has = ap (λ b. if b then 4 * (exception.entry_words app.fpu + need app p) else 0) has

  -- a priority without a handler
  skips : (p : ℕ) → has_handler app p ≡ false → Climbed p → Climbed (suc p)
  skips p none (inl flat) = inl (record {
    none = irqs_no app accepted form p none ∙ flat.none;
    bytes = bytes_more app p ∙ omega (arith, flat.bytes, no_handler p none);
  })
  skips p none (inr up) = inr (record {
    irq = up.irq;
    more = up.more;
    are = irqs_no app accepted form p none ∙ up.are;
    steps = up.steps;
    few = up.few;
    first_take = up.first_take;
    rests =
        record {
          low = omega (arith, up.rests.low);
          owing = up.rests.owing;
          none = up.rests.none;
          long =
              up.rests.long;
        };
    bytes = omega (arith, up.bytes, bytes_more app p, no_handler p none);
    declared = up.declared;
    long = omega (arith, up.long);
    named = up.named;
  })

  -- the first priority that has one
  begins : (p irq : ℕ) → has_handler app p ≡ true → IsDeepestAt app p irq → Flat p → Up (suc p)
  begins p irq has at flat =
      let is : IsServed app img accepted is_image form p irq = deepest_served app img accepted is_image form p irq at in
      let entered : Enters app img accepted is_image form p irq = enters app img accepted is_image form p irq is in
      let same : script entered.steps (irq ∷ []) ≡ starts irq entered.steps = events_one entered.steps irq in
      let long : length (starts irq entered.steps) ≡ suc entered.steps =
      let all = length-replicate entered.steps Step in omega (arith, all) in
      record {
        irq = irq;
        more = [];
        are = irqs_yes app accepted form p irq at.is ∙ ap (λ ns. ns ++ irq ∷ []) flat.none;
        steps = entered.steps;
        few = entered.few;
        first_take = entered.first_take;
        rests = subst (Rests app img accepted is_image form (suc p)) (sym same) entered.rests;
        bytes =
            ap (λ es. 4 * stack_in_use img (core_at app img accepted is_image form es)) same
            ∙ omega (arith, entered.words, flat.bytes, bytes_more app p, level_is p has, entry_is);
        declared = subst (AreDeclared app) (sym same) (is.declared, steps_declared app entered.steps);
        long = let all = ap length same in omega (arith, all, long, entered.few);
        named = (is.named, tt);
      }

  -- a priority more
  rises : (p irq : ℕ) → p < 256 → has_handler app p ≡ true → IsDeepestAt app p irq → Up p → Up (suc p)
  rises p irq high has at up =
      let is : IsServed app img accepted is_image form p irq = deepest_served app img accepted is_image form p irq at in
      let before : List Event = script up.steps (up.irq ∷ up.more) in
      let asked : List Event = before ++ Arrive irq ∷ [] in
      let whole : asked ++ Step ∷ [] ≡ script up.steps (up.irq ∷ up.more ++ irq ∷ []) =
      append_assoc before (Arrive irq ∷ []) (Step ∷ []) ∙ sym (events_next up.steps up.irq irq up.more) in
      let state_is : state_at app img accepted is_image form asked
      ≡ acting.state_after_pend irq (state_at app img accepted is_image form before) =
      state_request app img accepted is_image before irq in
      let known : AreDeclared app asked = declared_append app before (Arrive irq ∷ []) up.declared (is.declared, tt) in
      let asked_long : length asked ≡ length before + 1 = length-append before (Arrive irq ∷ []) in
      let room : length asked + 1 < 2 ^ 31 = omega (arith, up.long, asked_long, high) in
      let t : State = state_at app img accepted is_image form asked in
      let pends : PendsOnly t.pending irq =
      subst (λ (s : State). PendsOnly s.pending irq) (sym state_is)
      (requested app (accepted_are_sound app accepted) p (state_at app img accepted is_image form before) irq up.rests
      is.low) in
      let over : system_ceiling app t.jobs < p = subst (λ (s : State). system_ceiling app s.jobs < p) (sym state_is)
      up.rests.low in
      let owing : t.owing ≡ false = ap (λ (s : State). s.owing) state_is ∙ up.rests.owing in
      let pending_long : length t.pending ≡ IRQ_NUMBERS =
      ap (λ (s : State). length s.pending) state_is
      ∙ length-set (state_at app img accepted is_image form before).pending irq true ∙ up.rests.long in
      let done = taken app img accepted is_image form asked room known p irq is pends over owing pending_long in
      let words : stack_in_use img (core_at app img accepted is_image form asked)
      ≡ stack_in_use img (core_at app img accepted is_image form before) =
      ap (stack_in_use img) (core_request app img accepted is_image before irq) in
      record {
        irq = up.irq;
        more = up.more ++ irq ∷ [];
        are = irqs_yes app accepted form p irq at.is ∙ ap (λ ns. ns ++ irq ∷ []) up.are;
        steps = up.steps;
        few = up.few;
        first_take = up.first_take;
        rests = subst (Rests app img accepted is_image form (suc p)) whole done.1;
        bytes =
            ap (λ es. 4 * stack_in_use img (core_at app img accepted is_image form es)) (sym whole)
            ∙ omega (arith, done.2, words, up.bytes, bytes_more app p, level_is p has, entry_is);
        declared = subst (AreDeclared app) whole (declared_append app asked (Step ∷ []) known tt);
        long =
            let all = ap length (sym whole) in
            omega (arith, all, length-append asked (Step ∷ []), asked_long, up.long);
        named = (up.named.0, all_append (IsDeclared (names_of app)) up.more (irq ∷ []) up.named.1 (is.named, tt));
      }

  goes_up : (p : ℕ) → p < 256 → has_handler app p ≡ true → Climbed p → Climbed (suc p)
  goes_up p high has before =
      let at = handled_deepest app accepted form p has in
      elim before [ inl flat ↦ inr (begins p at.0 has at.1 flat) | inr up ↦ inr (rises p at.0 high has at.1 up) ]

  climb : (p : ℕ) → p ≤ 256 → Climbed p
  climb zero low = inl (record {
    none = ap (map (λ q. or_zero (deepest_irq app q))) (below_none (has_handler app));
    bytes = bytes_none app;
  })
  climb (suc p) low = by (has_handler app p) refl (climb p (omega (arith, low)))
    where
      by : (b : Bool) → has_handler app p ≡ b → Climbed p → Climbed (suc p)
      by true has before = goes_up p (omega (arith, low)) has before
      by false has before = skips p has before

  pub climbed : Climbed PRIORITIES
  climbed = climb 256 (omega arith)

  -- the first exception entry comes soon
  pub soon : (irq : ℕ) (more : List ℕ) → deepest_irqs app ≡ irq ∷ more → TakesWithin 900001 img irq
  soon irq more is = elim climbed [
    | inl flat ↦ absurd (let none : irq ∷ more ≡ [] = sym is ∙ flat.none in let long = ap length none in
        omega (arith, long))
    | inr up ↦
        let same : up.irq ∷ up.more ≡ irq ∷ more = sym up.are ∙ is in
        let head : up.irq ≡ irq = cc in
        record { steps = up.steps; few = up.few; first = subst (λ i. IsFirstTake img i up.steps) head up.first_take }
  ]

  -- where no priority has a handler, the thread takes all
  reset_words : depth_after img [] ≡ 4 * thread_words app
  reset_words =
      let long = length-replicate {A = ℕ} img.thread_words 0 in
      ap (depth img) (happens_by_event.core_none img (reset img)) ∙ omega (arith, long, is_image.tables.thread)

  pub flat_reaches : Good app img → IsBuilt app img → deepest_irqs app ≡ [] → ReachesTheBound app []
  flat_reaches good built none = record {
    image = img;
    is_image = is_image;
    built = built;
    good = good;
    lines = [];
    says = is_script_text (names_of app) (accepted_are_sound app accepted).names 0 [] (omega arith) (omega arith) tt tt;
    deepest = record {
      steps = 0;
      are = ap (script_of 0) (sym none);
      first = subst (LeadsToTake img 0) (sym none) tt;
    };
    reached = record {
      within = (good.each [] (counts_of_few app img [] (omega arith)) tt).stack_within;
      met = (0, reset_words ∙ flat_bytes);
    };
    spelled = ap (script_text (names_of app) 0) (sym none);
  }
    where
      flat_bytes : 4 * thread_words app ≡ stack_bytes app
      flat_bytes = elim climbed [
        | inl flat ↦ omega (arith, flat.bytes)
        | inr up ↦ absurd (let some : up.irq ∷ up.more ≡ [] = sym up.are ∙ none in let long = ap length some in
            omega (arith, long))
      ]

  pub up_reaches : Good app img → IsBuilt app img → (irq : ℕ) (more : List ℕ) → deepest_irqs app ≡ irq ∷ more
      → (steps : ℕ) → IsFirstTake img irq steps → ReachesTheBound app (script_text (names_of app) steps (irq ∷ more))
  up_reaches good built irq more is steps first_take = by climbed
    where
      by : Climbed PRIORITIES → ReachesTheBound app (script_text (names_of app) steps (irq ∷ more))
      by (inl flat) = absurd (let none : irq ∷ more ≡ [] = sym is ∙ flat.none in let long = ap length none in
          omega (arith, long))
      by (inr up) =
          let same : up.irq ∷ up.more ≡ irq ∷ more = sym up.are ∙ is in
          let head : up.irq ≡ irq = cc in
          let steps_same : up.steps ≡ steps =
          one_first img irq up.steps steps (subst (λ i. IsFirstTake img i up.steps) head up.first_take) first_take in
          let es : List Event = script steps (irq ∷ more) in
          let all : script up.steps (up.irq ∷ up.more) ≡ es =
          ap (script up.steps) same ∙ ap (λ n. script n (irq ∷ more)) steps_same in
          let few : length es < 2 ^ 31 = let long = ap length all in omega (arith, long, up.long) in
          let known : AreDeclared app es = subst (AreDeclared app) all up.declared in
          let end : take (length es) es ≡ es = take_all es in
          let priorities : length (irq ∷ more) ≤ 256 =
          let count = length-map (those_below (has_handler app) PRIORITIES) (λ p. or_zero (deepest_irq app p)) in
          let most = below_few (has_handler app) 256 in
          let long = ap length is in omega (arith, count, most, long) in
          record {
            image = img;
            is_image = is_image;
            built = built;
            good = good;
            lines = script_of steps (irq ∷ more);
            says = is_script_text (names_of app) (accepted_are_sound app accepted).names steps (irq ∷ more)
                (omega (arith, up.few, steps_same)) priorities
                (subst (AllByRecursion (IsDeclared (names_of app))) same up.named)
                (names_short (names_of app) (irq ∷ more) (accepted_are_sound app accepted).names);
            deepest = record {
              steps = steps;
              are = ap (script_of steps) (sym is);
              first = subst (LeadsToTake img steps) (sym is) first_take;
            };
            reached = record {
              within = (good.each es (counts_of_few app img es few) known).stack_within;
              met = (
                length es,
                ap (depth_after img) (end ∙ sym all) ∙ up.bytes,
              );
            };
            spelled = ap (script_text (names_of app) steps) (sym is);
          }
