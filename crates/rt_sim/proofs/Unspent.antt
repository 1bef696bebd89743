-- In the traces of images no job's cost is spent: code that stands has a step of its cost left, whichever label one
-- stops at.
use Rattle.std.proofs.Common.{◌≡◌, ℕ, zero, suc, ◌<◌, ◌⊎◌, inl, inr, Bool, true, false, nat_le}
use Rattle.std.proofs.Common.{if◌then◌else◌, List, [], ◌∷◌, ◌++◌}
use Rattle.std.proofs.Common.{map, take, append_assoc, Option, Some, None, refl, sym, ap, subst, ◌∙◌}
use Rattle.std.specs.List.{AllByRecursion}
use Rattle.rt_lemmas.proofs.Lists.{all_behind}
use Rattle.rt_actions.specs.Location.{Location}
use Rattle.rt_actions.specs.Entry.{Entry}
use Rattle.rt_ids.specs.Event.{Event, Arrive, Tick, Step}
use Rattle.rt_actions.specs.Content.{Values}
use Rattle.rt_trace.specs.Label.{Label, Arrived, Ticked, Rang}
use Rattle.rt_app.specs.Tree.{App}
use Rattle.rt_app.specs.Accepted.{IsAccepted}
use Rattle.rt_app.specs.Holding.{storage}
use Rattle.rt_build.specs.Image.{IsImageOf}
use Rattle.rt_code.specs.Image.{Image}
use Rattle.rt_code.specs.Standing.{Stands}
use Rattle.rt_core.specs.declared.alarm.Alarm.{Alarm}
use Rattle.rt_core.specs.Core.{Core, reset}
use Rattle.rt_core.specs.Transfer.{core_after_pend}
use Rattle.rt_core.specs.Trace.{ring, tick, happen}
use Rattle.rt_laws.specs.State.{Role, Init, Idle, Waiting, Serving, State, first}
use Rattle.rt_laws.specs.Allowed.{HasStep}
use Rattle.rt_laws.specs.DeviceWords.{WithWords, One, Puts, ones, things, after_moves, moved_state}
use Rattle.rt_laws.proofs.Beside.{things_ones, moves_append}
use Rattle.rt_sim.specs.Good.{AreDeclared}
use Rattle.rt_sim.specs.Beside.{core_after_put, labels_beside, shown_beside, CountsFitBeside, WordsAreFree}
use Rattle.rt_sim.specs.Inside.Coupling.{Part, job_of, configuration_of}
use Rattle.rt_sim.specs.Inside.PartInvariant.{who, StandsBy, PartInvariant}
use Rattle.rt_sim.specs.Whereabouts.{Whereabouts}
use Rattle.rt_sim.specs.Inside.Agrees.{Agrees}
use Rattle.rt_laws.specs.Unspent.{AreUnspent}
use Rattle.rt_sim.specs.Unspent.{ImagesLeaveSteps}
use Rattle.rt_sim.proofs.Armed.{front_fits, fits_ones}
use Rattle.rt_sim.proofs.Reached.{front_declared, front_free, reached_beside}
use Rattle.rt_sim.proofs.Wordless.{same_moment, none_put}

-- what a tick shows behind it
pub rings : (c : Core) (o : Option Alarm) → ((ring c o).1 ≡ []) ⊎ ((ring c o).1 ≡ Rang ∷ [])
rings c None = inl refl
rings c (Some alarm) = either (nat_le alarm.instant c.time) (
  record (core_after_pend c alarm.irq) { alarm = None },
  Rang ∷ [],
) (c, []) refl refl
  where
    either : (b : Bool) (x y : Core × List Label) → x.1 ≡ Rang ∷ [] → y.1 ≡ []
        → ((if◌then◌else◌ {A = Core × List Label} b x y).1 ≡ [])
        ⊎ ((if◌then◌else◌ {A = Core × List Label} b x y).1 ≡ Rang ∷ [])
    either true x y rang none = inr rang
    either false x y rang none = inl none

-- what a tick shows behind it, among words
ones_rung : (shown : List Label) → (shown ≡ []) ⊎ (shown ≡ Rang ∷ [])
    → (ones shown ≡ []) ⊎ (ones shown ≡ One Rang ∷ [])
ones_rung shown (inl none) = inl (ap ones none)
ones_rung shown (inr rang) = inr (ap ones rang)

module _ (app : App) (img : Image) where
  -- labels and words
  abbrev Labels : Type 0
  Labels = List (WithWords Label)

  -- where one stops among the labels of events, and words: at those of a front of the events and words, or between a
  -- tick and its alarm
  abbrev Front : Core → List (WithWords Event) → Labels → Type 0
  Front c moves ls =
      (k : ℕ) × ((ls ≡ labels_beside app img c (take k moves))
      ⊎ (ls ≡ labels_beside app img c (take k moves) ++ One Ticked ∷ []))

  behind_label : (shown more xs : Labels) → (xs ≡ more) ⊎ (xs ≡ more ++ One Ticked ∷ [])
      → (shown ++ xs ≡ shown ++ more) ⊎ (shown ++ xs ≡ (shown ++ more) ++ One Ticked ∷ [])
  behind_label shown more xs (inl e) = inl (ap (λ ys. shown ++ ys) e)
  behind_label shown more xs (inr e) =
      inr (ap (λ ys. shown ++ ys) e ∙ sym (append_assoc shown more (One Ticked ∷ [])))

  -- a tick and what it shows, in front of what is shown behind it
  abbrev behind_tick : Labels → (ℕ → Labels) → ℕ → Labels
  behind_tick shown more zero = []
  behind_tick shown more (suc k) = One Ticked ∷ (shown ++ more k)

  abbrev Stops : Labels → Labels → (ℕ → Labels) → ℕ → Type 0
  Stops shown all more n =
      (k : ℕ) × ((take (suc n) (One Ticked ∷ (shown ++ all)) ≡ behind_tick shown more k)
      ⊎ (take (suc n) (One Ticked ∷ (shown ++ all)) ≡ behind_tick shown more k ++ One Ticked ∷ []))

  tick_cut : (shown all : Labels) (more : ℕ → Labels) (n : ℕ) → (shown ≡ []) ⊎ (shown ≡ One Rang ∷ [])
      → ((m : ℕ) → (k : ℕ) × ((take m all ≡ more k) ⊎ (take m all ≡ more k ++ One Ticked ∷ [])))
      → Stops shown all more n
  tick_cut shown all more n (inl none) next =
      subst (λ r. Stops r all more n) (sym none)
      (let rest = next n in (suc rest.0, behind_label (One Ticked ∷ []) (more rest.0) (take n all) rest.1))
  tick_cut shown all more zero (inr rang) next = subst (λ r. Stops r all more 0) (sym rang) (0, inr refl)
  tick_cut shown all more (suc n) (inr rang) next =
      subst (λ r. Stops r all more (suc n)) (sym rang)
      (let rest = next n in
      (suc rest.0, behind_label (One Ticked ∷ One Rang ∷ []) (more rest.0) (take n all) rest.1))

  tick_front : (c : Core) (moves : List (WithWords Event)) (n : ℕ)
      → Stops (ones (tick c).1) (labels_beside app img (tick c).0 moves)
      (λ k. labels_beside app img (tick c).0 (take k moves)) n
      → Front c (One Tick ∷ moves) (take (suc n) (labels_beside app img c (One Tick ∷ moves)))
  unfolding happen
  tick_front c moves n (zero, is) = (0, is)
  tick_front c moves n (suc k, is) = (suc k, is)

  cut : (moves : List (WithWords Event)) (c : Core) (n : ℕ) → Front c moves (take n (labels_beside app img c moves))
  unfolding happen
  cut [] c zero = (0, inl refl)
  cut [] c (suc n) = (0, inl refl)
  cut (move ∷ moves) c zero = (0, inl refl)
  cut (Puts local word ∷ moves) c (suc n) =
      let rest = cut moves (core_after_put app local word c) n in
      (suc rest.0, behind_label (Puts local word ∷ []) _ _ rest.1)
  cut (One (Arrive irq) ∷ moves) c (suc n) =
      let rest = cut moves (happen img c (Arrive irq)).0 n in
      (suc rest.0, behind_label (One (Arrived irq) ∷ []) _ _ rest.1)
  cut (One Step ∷ moves) c (suc n) =
      let rest = cut moves (happen img c Step).0 n in
      (suc rest.0, behind_label (ones (happen img c Step).1) _ _ rest.1)
  cut (One Tick ∷ moves) c (suc n) =
      tick_front c moves n
      (tick_cut (ones (tick c).1) (labels_beside app img (tick c).0 moves)
      (λ k. labels_beside app img (tick c).0 (take k moves)) n
      (ones_rung (tick c).1 (rings (record c { time = suc c.time }) c.alarm)) (λ m. cut moves (tick c).0 m))

module _ (app : App) (img : Image) (thread : ℕ) where
  left_some : (p : Part) (cells : List ℕ) (queues : Location → List Entry) (steps : ℕ)
      → Stands (storage app) img.code p.rows thread (who p) steps (configuration_of cells queues p) → 0 < p.left
  unfolding Stands
  left_some p cells queues zero stands = absurd stands
  left_some p cells queues (suc n) stands = (all_behind (λ n. 0 < n) p.lefts (p.left ∷ []) stands.0).0

  has_step : (role : Role) (p : Part) (cells : List ℕ) (queues : Location → List Entry)
      → StandsBy app img thread role cells queues p → HasStep role p.left
  has_step Init p cells queues stands = left_some p cells queues p.steps stands
  has_step Idle p cells queues stands = left_some p cells queues p.steps stands
  has_step Waiting p cells queues stands = tt
  has_step (Serving irq) p cells queues stands = left_some p cells queues p.steps stands

  parts_unspent : (cells : List ℕ) (queues : Location → List Entry) (values : Values) (ps : List Part)
      → AllByRecursion (PartInvariant app img thread cells queues values) ps → AreUnspent (map job_of ps)
  parts_unspent cells queues values [] invariant = tt
  parts_unspent cells queues values (p ∷ ps) invariant =
      (has_step p.role p cells queues invariant.0.stands, parts_unspent cells queues values ps invariant.1)

  pub agreed_unspent : (Are : Whereabouts → Type 0) (c : Core) (s : State) → Agrees app img thread c s Are
      → AreUnspent s.jobs
  agreed_unspent Are c s agrees =
      subst (λ (t : State). AreUnspent t.jobs) (sym agrees.state)
      (parts_unspent agrees.coupling.cells agrees.coupling.queues agrees.coupling.values
      (agrees.coupling.running ∷ agrees.coupling.below) agrees.invariant.parts)

module _ (app : App) (img : Image) (accepted : IsAccepted app) (is_image : IsImageOf app img) where
  pub leaves_steps : (moves : List (WithWords Event)) → CountsFitBeside app img moves → AreDeclared app (things moves)
      → WordsAreFree app img moves → (n : ℕ) → AreUnspent (moved_state app (shown_beside app img moves) n).jobs
  leaves_steps moves fit declared free n = by (cut app img moves (reset img) n)
    where
      there : (k : ℕ) → AreUnspent (after_moves app (first app) (shown_beside app img (take k moves))).jobs
      there k =
          let whole = reached_beside app img accepted is_image (take k moves) (front_fits app img moves k fit)
          (front_declared app moves k declared) (front_free app img moves k free) in
          agreed_unspent app img is_image.at.idle _ _ _ whole.agrees

      by : Front app img (reset img) moves (take n (shown_beside app img moves))
          → AreUnspent (moved_state app (shown_beside app img moves) n).jobs
      by (k, inl is) = subst (λ ls. AreUnspent (after_moves app (first app) ls).jobs) (sym is) (there k)
      by (k, inr is) =
          subst (λ ls. AreUnspent (after_moves app (first app) ls).jobs) (sym is)
          (subst (λ (s : State). AreUnspent s.jobs)
          (sym (moves_append app (shown_beside app img (take k moves)) (One Ticked ∷ []) (first app))) (there k))

pub images_leave_steps : ImagesLeaveSteps
images_leave_steps app img accepted is_image events fit declared n =
    subst (λ (s : State). AreUnspent s.jobs) (same_moment app img events n)
    (leaves_steps app img accepted is_image (ones events) (fits_ones app img events fit)
    (subst (AreDeclared app) (sym (things_ones events)) declared) (none_put app img events) n)
