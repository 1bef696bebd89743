-- A take is opened where it may come, and a line comes where it may.
use Rattle.std.proofs.Common.{◌≡◌, ℕ, suc, ◌-◌, ◌^◌, ◌<◌, ◌≤◌, Bool, true, false, List, [], ◌∷◌, drop, length, Option}
use Rattle.std.proofs.Common.{Some, None, is_some, refl, sym, ap, subst, ◌∙◌, arith}
use Rattle.std.proofs.lemmas.Option.{none-some, same_Some}
use Rattle.rt_trace.specs.declared.item.Item.{Item}
use Rattle.rt_trace.specs.declared.item.What.{What}
use Rattle.rt_trace.specs.declared.item.What.TheVariants as what
use Rattle.rt_app.specs.Stack.{stack_bytes}
use Rattle.rt_app.specs.Tree.{App}
use Rattle.rt_laws.specs.State as laws
use Rattle.rt_laws.specs.Preemption as preemption
use Rattle.rt_laws.specs.Allowed.{May, after}
use Rattle.rt_laws.specs.Run.{RunsOn}
use Rattle.rt_laws.specs.ByItems.{label_of, steps_after, after_all, silent, after_item}
use Rattle.rt_laws.specs.DeviceWords.{state_after_put}
use Rattle.rt_baker_moves.specs.State.{AuditorState, StateIs}
use Rattle.rt_baker.specs.Judge.{steps_done}
use Rattle.rt_baker.specs.Judging.{MayGoOn, Passes, ItemJudged}
use Rattle.rt_baker.specs.Judging as items
use Rattle.rt_baker.specs.declared.done.Done.{Done}
use Rattle.rt_baker.proofs.Allowing.{owes_as}
use Rattle.rt_baker.proofs.Counting.{silent_within}
use Rattle.rt_board.specs.Board.{Board}
use Rattle.rt_board.specs.declared.board.Input as board
use Rattle.rt_inputs.specs.Shown.{ShownLine, Shows, Input}
use Rattle.rt_inputs_audit.specs.Audit.{ShowsWithinStack}
use Rattle.rt_inputs_audit.specs.Following.{Held, Place, take_label, settled, behind_item, LineComes, IsNext}
use Rattle.rt_inputs_audit.specs.Following.{InputComes, EndsAt}
use Rattle.rt_inputs_audit.specs.Given.{inputs_at}
use Rattle.rt_inputs_audit.specs.Judging.{IsNoTake, take_item, Opens, PlaceIs, Went, LineJudged, EndJudged}
use Rattle.rt_inputs_audit.specs.declared.followed.Followed.{Followed}
use Rattle.rt_inputs_audit.proofs.Counting.{put_within}

-- the interrupt that is to be taken
pub owing_stops : (app : App) (s : AuditorState) (b : Bool) → b ≡ s.owing → b ≡ true → (t : laws.State)
    → StateIs app s t
    → (irq depth : ℕ) → May app t (take_label irq depth) → ⊥
owing_stops app s b is holds t h irq depth may =
    let owed : t.owing ≡ true = owes_as app s t true h (sym is ∙ holds) in
    let free : t.owing ≡ false = may.0 in cc

pub other_stops : (app : App) (s : AuditorState) (o : Option ℕ)
    → ((t : laws.State) → StateIs app s t → o ≡ preemption.candidate app t)
    → (irq : ℕ) → (o ≡ Some irq → ⊥) → (t : laws.State) → StateIs app s t → (depth : ℕ)
    → May app t (take_label irq depth) → ⊥
other_stops app s o finds irq other t h depth may = other (finds t h ∙ may.1)

pub may_be_taken : (app : App) (s : AuditorState) (o : Option ℕ) (b : Bool)
    → ((t : laws.State) → StateIs app s t → o ≡ preemption.candidate app t)
    → (irq : ℕ) → o ≡ Some irq → b ≡ s.owing → b ≡ false → (t : laws.State) → StateIs app s t → (depth : ℕ)
    → May app t (take_label irq depth)
may_be_taken app s o b finds irq chosen is free t h depth =
    (owes_as app s t false h (sym is ∙ free), sym (finds t h) ∙ chosen)

pub none_taken : (irq : ℕ) (o : Option ℕ) → o ≡ None → o ≡ Some irq → ⊥
none_taken irq o none is = none-some irq (sym none ∙ is)

pub other_taken : (irq n : ℕ) (o : Option ℕ) → o ≡ Some n → (n ≡ irq → ⊥) → o ≡ Some irq → ⊥
other_taken irq n o chosen other is = other (same_Some n irq (sym chosen ∙ is))

-- a take, with the silent steps in front of it
pub opens_beyond : (app : App) (old new : AuditorState) (n step irq depth : ℕ) (stack : ℕ) → stack ≡ stack_bytes app
    → stack < depth → Opens app false old new n step irq depth
unfolding Opens
opens_beyond app old new n step irq depth stack bound beyond = λ t h within comes. absurd (omega (
  arith,
  bound,
  beyond,
  within,
))

pub opens_disordered : (app : App) (old new : AuditorState) (n step irq depth : ℕ) → step < n
    → Opens app false old new n step irq depth
unfolding Opens
opens_disordered app old new n step irq depth less = λ t h within comes. absurd (omega (arith, less, comes.in_order))

pub opens_stopped : (app : App) (old new : AuditorState) (n k step irq depth : ℕ) → k ≡ step - n
    → Passes app false old new k → Opens app false old new n step irq depth
unfolding Opens Passes
opens_stopped app old new n k step irq depth is stops = λ t h within comes.
    stops t h (subst (λ (m : ℕ). RunsOn app t (silent m)) (sym is) comes.quiet)

pub opens_other : (app : App) (old mid : AuditorState) (n k step irq depth : ℕ) → k ≡ step - n
    → Passes app true old mid k
    → ((t : laws.State) → StateIs app mid t → (depth : ℕ) → May app t (take_label irq depth) → ⊥)
    → Opens app false old mid n step irq depth
unfolding Opens Passes
opens_other app old mid n k step irq depth is passes other = λ t h within comes.
    other (after_all app t (silent k)) (passes t h).is depth
    (subst (λ (m : ℕ). May app (after_all app t (silent m)) (take_label irq depth)) (sym is) comes.allowed)

pub opens_here : (app : App) (old mid : AuditorState) (n k step irq depth stack : ℕ) → stack ≡ stack_bytes app
    → depth ≤ stack → n ≤ step → k ≡ step - n → Passes app true old mid k
    → ((t : laws.State) → StateIs app mid t → (depth : ℕ) → May app t (take_label irq depth))
    → Opens app true old mid n step irq depth
unfolding Opens Passes
opens_here app old mid n k step irq depth stack bound within le is passes may = (
  omega (arith, bound, within),
  λ t h. record {
    comes = record {
      in_order = le;
      quiet = subst (λ (m : ℕ). RunsOn app t (silent m)) is (passes t h).runs;
      allowed =
          subst (λ (m : ℕ). May app (after_all app t (silent m)) (take_label irq depth)) is
          (may (after_all app t (silent k)) (passes t h).is depth);
    };
    is = subst (λ (m : ℕ). StateIs app mid (after_all app t (silent m))) is (passes t h).is;
  },
)

pub opens_by : (app : App) (old mid : AuditorState) (n k step irq depth stack : ℕ) (b : Bool) → stack ≡ stack_bytes app
    → depth ≤ stack → n ≤ step → k ≡ step - n → Passes app true old mid k
    → (b ≡ true → (t : laws.State) → StateIs app mid t → (depth : ℕ) → May app t (take_label irq depth))
    → (b ≡ false → (t : laws.State) → StateIs app mid t → (depth : ℕ) → May app t (take_label irq depth) → ⊥)
    → Opens app b old mid n step irq depth
opens_by app old mid n k step irq depth stack true bound within le is passes may may_not =
    opens_here app old mid n k step irq depth stack bound within le is passes (may refl)
opens_by app old mid n k step irq depth stack false bound within le is passes may may_not =
    opens_other app old mid n k step irq depth is passes (may_not refl)

pub opened_early : (app : App) (old mid : AuditorState) (n step irq depth : ℕ) → MayGoOn app old
    → Opens app true old mid n step irq depth → MayGoOn app mid
unfolding Opens
opened_early app old mid n step irq depth h opens = record {
  state = after_all app h.state (silent (step - n));
  is = (opens.1 h.state h.is).is;
  count = h.count;
  within = silent_within app (step - n) h.count h.state h.within;
  few = h.few;
}

pub put_early : (app : App) (old new : AuditorState) (local word : ℕ) → MayGoOn app old
    → ((t : laws.State) → StateIs app old t → StateIs app new (state_after_put local word t)) → MayGoOn app new
put_early app old new local word h puts = record {
  state = state_after_put local word h.state;
  is = puts h.state h.is;
  count = h.count;
  within = put_within h.count h.state h.within local word;
  few = h.few;
}

-- whether inputs are left
pub none_left : (inputs : List board.Input) → length inputs ≡ 0 → inputs ≡ []
none_left [] none = refl
none_left (input ∷ inputs) none = absurd (omega (arith, none))

pub some_left : (inputs : List board.Input) → (length inputs ≡ 0 → ⊥) → inputs ≡ [] → ⊥
some_left inputs some none = some (ap (λ (is : List board.Input). length is) none)

-- a take that is settled
pub settled_done : (app : App) (new : Followed) (t : laws.State) (n step irq depth : ℕ) (inputs : List board.Input)
    → inputs ≡ [] → StateIs app new.state (after app t (take_label irq depth)) → steps_done new.done ≡ suc step
    → new.held ≡ None → PlaceIs app new (settled app t n step irq depth inputs)
settled_done app new t n step irq depth [] none is steps free = record { is = is; steps = steps; held = free }
settled_done app new t n step irq depth (input ∷ inputs) none is steps free = absurd cc

pub settled_held : (app : App) (new : Followed) (t : laws.State) (n step irq depth : ℕ) (inputs : List board.Input)
    → (inputs ≡ [] → ⊥) → StateIs app new.state t → steps_done new.done ≡ n
    → new.held ≡ Some (record { step = step; irq = irq; depth = depth; inputs = inputs })
    → PlaceIs app new (settled app t n step irq depth inputs)
settled_held app new t n step irq depth [] some is steps held = absurd (some refl)
settled_held app new t n step irq depth (input ∷ inputs) some is steps held =
    record { is = is; steps = steps; held = held }

-- what is kept where nothing is held
abbrev pub free_place : laws.State → ℕ → Place
free_place t n = record { state = t; done = n; held = None }

module _ (app : App) (b : Board) (old new : Followed) where
  -- a line judged where nothing is held
  pub free_came : (line : ShownLine) → old.held ≡ None → ShowsWithinStack app line
      → ((t : laws.State) → StateIs app old.state t → Went app b (free_place t (steps_done old.done)) line new)
      → LineJudged app b true old new line
  unfolding LineJudged
  free_came line free within went = (within, λ p h. at_place p h)
    where
      at_place : (p : Place) → PlaceIs app old p → Went app b p line new
      at_place p h =
          subst (λ (q : Place). Went app b q line new)
          (λ i. record { state = p.state; done = h.steps i; held = (sym free ∙ h.held) i })
          (went p.state h.is)

  pub free_refused : (line : ShownLine) → old.held ≡ None
      → ((t : laws.State) → StateIs app old.state t → ShowsWithinStack app line
      → LineComes app (free_place t (steps_done old.done)) line → ⊥)
      → LineJudged app b false old new line
  unfolding LineJudged
  free_refused line free refuses = λ p h within comes.
      refuses p.state h.is within
      (subst (λ (q : Place). LineComes app q line)
      (λ i. record { state = p.state; done = sym h.steps i; held = (sym h.held ∙ free) i }) comes)

  -- a take
  pub take_refused : (step irq depth : ℕ) (mid : AuditorState) → old.held ≡ None
      → Opens app false old.state mid (steps_done old.done) step irq depth
      → LineJudged app b false old new (Shows (take_item step irq depth))
  unfolding Opens
  take_refused step irq depth mid free opens =
      free_refused (Shows (take_item step irq depth)) free (λ t h within comes. opens t h within comes)

  pub take_came : (step irq depth : ℕ) (mid : AuditorState) (inputs : List board.Input) → old.held ≡ None
      → inputs ≡ inputs_at app b irq → Opens app true old.state mid (steps_done old.done) step irq depth
      → ((t : laws.State) (n : ℕ) → StateIs app mid t → steps_done old.done ≡ n
      → PlaceIs app new (settled app t n step irq depth inputs))
      → LineJudged app b true old new (Shows (take_item step irq depth))
  unfolding Opens
  take_came step irq depth mid inputs free same opens settles =
      free_came (Shows (take_item step irq depth)) free opens.0
      (λ t h. let opened = opens.1 t h in
      record {
        comes = opened.comes;
        is =
            subst (λ (is : List board.Input).
            PlaceIs app new
            (settled app (after_all app t (silent (step - steps_done old.done)))
            (steps_done old.done) step irq depth is))
            same
            (settles (after_all app t (silent (step - steps_done old.done))) (steps_done old.done) opened.is refl);
      })

  -- an item that is no take
  plain_place : (x : Item) (t : laws.State) (n : ℕ) → IsNoTake x.what
      → behind_item app b t n x.step x.what
      ≡ record { state = after_item app t n x; done = steps_after x.step (label_of t.owing x.what); held = None }
  plain_place x t n other = go x.what other
    where
      go : (w : What) → IsNoTake w → behind_item app b t n x.step w
          ≡ record {
            state = after_item app t n (record { step = x.step; what = w });
            done = steps_after x.step (label_of t.owing w);
            held = None;
          }
      go (what.Take irq depth) other = absurd other
      go w other = refl

  pub plain_came : (x : Item) (d : Done) (o : Option Done) → IsNoTake x.what → old.held ≡ None → new.held ≡ None
      → o ≡ Some d → new.done ≡ d → ItemJudged app o old.state new.state (steps_done old.done) x
      → LineJudged app b true old new (Shows x)
  unfolding ItemJudged
  plain_came x d o other free still some done judged =
      let j : ItemJudged app (Some d) old.state new.state (steps_done old.done) x =
      subst (λ (p : Option Done). ItemJudged app p old.state new.state (steps_done old.done) x) some judged in
      free_came (Shows x) free j.0
      (λ t h. let behind = j.1 t h in
      record {
        comes = behind.comes;
        is =
            subst (λ (p : Place). PlaceIs app new p) (sym (plain_place x t (steps_done old.done) other))
            (record { is = behind.is; steps = ap steps_done done ∙ behind.steps; held = still });
      })

  pub plain_refused : (x : Item) (o : Option Done) (mid : AuditorState) → old.held ≡ None → o ≡ None
      → ItemJudged app o old.state mid (steps_done old.done) x → LineJudged app b false old new (Shows x)
  unfolding ItemJudged
  plain_refused x o mid free none judged =
      let j : ItemJudged app None old.state mid (steps_done old.done) x =
      subst (λ (p : Option Done). ItemJudged app p old.state mid (steps_done old.done) x) none judged in
      free_refused (Shows x) free (λ t h within comes. j t h within comes)

  -- an item where a take is held
  pub item_refused : (x : Item) (h : Held) → old.held ≡ Some h → LineJudged app b false old new (Shows x)
  unfolding LineJudged
  item_refused x k holds = λ p h within comes.
      let at : Some k ≡ p.held = sym holds ∙ h.held in
      subst (λ (o : Option Held). LineComes app (record { state = p.state; done = p.done; held = o }) (Shows x))
      (sym at)
      comes

  -- an input where none is held
  pub input_refused : (step local word : ℕ) → old.held ≡ None → LineJudged app b false old new (Input step local word)
  input_refused step local word free = free_refused (Input step local word) free (λ t h within comes. comes)

  -- an input where a take is held
  pub held_refused : (k : Held) (step local word : ℕ) → old.held ≡ Some k
      → (step ≡ k.step → IsNext app local k.inputs → ⊥) → LineJudged app b false old new (Input step local word)
  unfolding LineJudged
  held_refused k step local word holds other = λ p h within comes.
      let at : p.held ≡ Some k = sym h.held ∙ holds in
      let c : InputComes app k step local word =
      subst (λ (o : Option Held).
      LineComes app (record { state = p.state; done = p.done; held = o }) (Input step local word)) at comes in
      other c.at_step c.next

  pub held_came : (k : Held) (step local word : ℕ) (mid : AuditorState) (inputs : List board.Input)
      → old.held ≡ Some k → step ≡ k.step → IsNext app local k.inputs → word < 2 ^ 32 → inputs ≡ drop 1 k.inputs
      → ((t : laws.State) → StateIs app old.state t → StateIs app mid (state_after_put local word t))
      → ((t : laws.State) (n : ℕ) → StateIs app mid t → steps_done old.done ≡ n
      → PlaceIs app new (settled app t n k.step k.irq k.depth inputs))
      → LineJudged app b true old new (Input step local word)
  unfolding LineJudged
  held_came k step local word mid inputs holds here next short same puts settles = (tt, λ p h. at_place p h)
    where
      at_place : (p : Place) → PlaceIs app old p → Went app b p (Input step local word) new
      at_place p h =
          let at : Some k ≡ p.held = sym holds ∙ h.held in
          subst (λ (o : Option Held).
          Went app b (record { state = p.state; done = p.done; held = o }) (Input step local word) new) at
          (record {
            comes = record { at_step = here; next = next; short = short };
            is =
                subst (λ (is : List board.Input).
                PlaceIs app new
                (settled app (state_after_put local word p.state) p.done k.step k.irq k.depth is)) same
                (settles (state_after_put local word p.state) p.done (puts p.state h.is) h.steps);
          })

-- what is held where something is
pub held_there : (o : Option Held) → is_some o ≡ true → (k : Held) × (o ≡ Some k)
held_there None is = absurd cc
held_there (Some k) is = (k, refl)

-- an item that is no take
pub no_take : (w : What) → ((irq depth : ℕ) → w ≡ what.Take irq depth → ⊥) → IsNoTake w
no_take (what.Take irq depth) other = other irq depth refl
no_take w other = tt

-- an item that is a take
pub take_is : (x : Item) (irq depth : ℕ) → x.what ≡ what.Take irq depth → take_item x.step irq depth ≡ x
take_is x irq depth is = λ i. record { step = x.step; what = sym is i }

-- what is kept with its take
pub with_held : (f : Followed) (k : Held) → f.held ≡ Some k → record f { held = Some k } ≡ f
with_held f k holds = λ i. record f { held = sym holds i }

-- the end
pub ends_held : (app : App) (old : Followed) (k : Held) (o : Option ℕ) → old.held ≡ Some k
    → EndJudged app false old o
unfolding EndJudged
ends_held app old k None holds = λ p h ends.
    let at : Some k ≡ p.held = sym holds ∙ h.held in absurd cc
ends_held app old k (Some total) holds = λ p h ends.
    let at : Some k ≡ p.held = sym holds ∙ h.held in
    let free = ends.free in absurd cc

pub ends_here : (app : App) (old : Followed) (b : Bool) (o : Option ℕ) → old.held ≡ None
    → items.TotalJudged app b old.state (steps_done old.done) o → EndJudged app b old o
unfolding EndJudged items.TotalJudged
ends_here app old true None free judged = λ p h. sym h.held ∙ free
ends_here app old true (Some total) free judged = λ p h.
    let ends = judged p.state h.is in
    let all : EndsAt app (record { state = p.state; done = steps_done old.done; held = p.held }) total =
    record { free = sym h.held ∙ free; few = ends.0; quiet = ends.1 } in
    subst (λ (n : ℕ). EndsAt app (record { state = p.state; done = n; held = p.held }) total) h.steps all
ends_here app old false None free judged = λ p h ends. judged p.state h.is tt
ends_here app old false (Some total) free judged = λ p h ends.
    let all : EndsAt app (record { state = p.state; done = steps_done old.done; held = p.held }) total =
    subst (λ (n : ℕ). EndsAt app (record { state = p.state; done = n; held = p.held }) total) (sym h.steps) ends in
    judged p.state h.is (all.few, all.quiet)
