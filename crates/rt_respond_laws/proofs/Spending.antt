-- A step of the running job, with what is asked for before it: the hands that jobs have behind it, and that no more is
-- in
-- reserve and in them.
use Rattle.std.proofs.Common.{◌≡◌, ℕ, ◌+◌, ◌≤◌, ◌<◌, ◌⊎◌, inl, inr, List, ◌∷◌, map, Option, Some, None}
use Rattle.std.proofs.Common.{IsSome, refl, sym, ap, subst}
use Rattle.std.proofs.Common.{◌∙◌, arith}
use Rattle.std.specs.List.{AllByRecursion}
use Rattle.rt_ids.specs.declared.ids.BodyId.{BodyId}
use Rattle.rt_ids.specs.declared.ids.BodyId.TheVariants as body
use Rattle.rt_ids.specs.declared.ids.Section.TheVariants as section
use Rattle.rt_actions.specs.Location.{Guarded}
use Rattle.rt_actions.specs.Content.{Message, Values, messages}
use Rattle.rt_actions.specs.Action.{Action, SetsAlarm, Ends, Returns}
use Rattle.rt_actions.specs.Doing.{Doing, does}
use Rattle.rt_trace.specs.Label.{Stepped}
use Rattle.rt_trace.specs.declared.item.What.{What}
use Rattle.rt_trace.specs.declared.item.What.TheVariants as item
use Rattle.rt_app.specs.Tree.{App}
use Rattle.rt_laws.specs.Preemption.{system_ceiling}
use Rattle.rt_laws.specs.Allowed.{HasStep}
use Rattle.rt_laws.specs.Giving.{return_item, item_of}
use Rattle.rt_laws.specs.State.{Role, Init, Idle, Waiting, Serving, Job, State}
use Rattle.rt_laws.specs.Acting.{idle_job}
use Rattle.rt_laws.specs.Places.{Hand, hands_behind}
use Rattle.rt_laws.proofs.Hands.{InTransit, Bare, hand_of, transit_then}
use Rattle.rt_laws.proofs.Hands.{Fits as HandFits}
use Rattle.rt_laws.proofs.Well.{IsAbove}
use Rattle.rt_respond.specs.Work.{release_work}
use Rattle.rt_respond.specs.declared.handler.Quantity.{Quantity}
use Rattle.rt_respond.specs.declared.handler.Handler.{Handler}
use Rattle.rt_respond.specs.declared.number.TheConstants.{MOST_WORK}
use Rattle.rt_respond_laws.proofs.Weights.{turn_weight}
use Rattle.rt_respond_laws.proofs.Sending.{Posting, released, in_hand_is, head_in, held_more}
use Rattle.rt_respond_laws.proofs.Bodies.{sends_of}
use Rattle.rt_respond_laws.proofs.Passing.{SameReady, GoesOn}
use Rattle.rt_respond_laws.proofs.Claims.{Claim, Owe}
use Rattle.rt_respond_laws.proofs.Claims.{hands_of, hands_any, IsTight, OweWith}
use Rattle.rt_respond_laws.proofs.Claims.{owe_any, IsLevelAt}
use Rattle.rt_respond_laws.proofs.Claims.{Spends}

module _ (app : App) (what : Quantity) (i : Handler) (posts : Posting) (most : ℕ → ℕ) where
  -- what a ready message of a level asks for, in its parts
  pub record IsKnown (q : ℕ) (m : Message) : Type 0 where
    pub extra : ℕ
    pub is : sends_of app (release_work app what i) posts m.task ≡ Some extra
    pub small : extra < MOST_WORK
    pub work : posts.task m.task ≡ Some (turn_weight app what q + extra)

  -- that is so of all that are ready at a level whose dispatcher is at the handler
  abbrev pub Known : Values → Type 0
  Known vs = (q : ℕ) → IsLevelAt app i q
      → AllByRecursion (IsKnown q) (messages (vs (Guarded (section.Ready q))))

  -- a step of the running job, where it and the others ask for so much before it, with so much in reserve
  pub record Asked : Type 0 where
    pub positive : 0 < i.priority
    pub anew : (reserve : ℕ) (vs : Values)
        → Claim app what i posts most reserve 0 Bare (idle_job app vs app.idle)
    pub s : State
    pub job : Job
    pub others : List Job
    pub shown : Option What
    pub t : State
    pub reserve : ℕ
    pub own : ℕ
    pub rest : ℕ
    pub hand : InTransit
    pub fits : HandFits hand job.rest
    pub owe : Owe app what i posts most reserve rest others
    pub has : HasStep job.role job.left
    pub may : AllByRecursion (λ n. 0 < n) job.lefts
    pub above : IsAbove app job.role job.priority others

module _ (app : App) (what : Quantity) (i : Handler) (posts : Posting) (most : ℕ → ℕ)
    (c : Asked app what i posts most) where
  open c use {positive, s, job, others, shown, t, reserve, own, rest, hand, fits, owe, has, above}

  abbrev p : ℕ
  p = i.priority

  -- the hands of the jobs
  abbrev pub hands : List Hand
  hands = hand_of hand ∷ map hand_of (hands_of app what i posts most reserve rest others owe)

  abbrev pub SpendsSo : ℕ → Type 0
  SpendsSo spent = Spends app what i posts most (own + rest) reserve hands s job others shown spent t

  pub left_some : (role : Role) (q left : ℕ) → IsAbove app role q others → HasStep role left → 0 < q → 0 < left
  left_some Init q left above has some = has
  left_some Idle q left above has some = has
  left_some Waiting q left above has some = let none = above.1 in absurd (omega (arith, none, some))
  left_some (Serving irq) q left above has some = has

  pub below : job.priority ≤ p → system_ceiling app others < p
  below lower = by job.role job.priority lower above
    where
      by : (role : Role) (q : ℕ) → q ≤ p → IsAbove app role q others → system_ceiling app others < p
      by Init q lower above = subst (λ js. system_ceiling app js < p) (sym above) positive
      by Idle q lower above = subst (λ js. system_ceiling app js < p) (sym above.0) positive
      by Waiting q lower above = subst (λ js. system_ceiling app js < p) (sym above.0) positive
      by (Serving irq) q lower above = let under = above.1 in omega (arith, under, lower)

  pub others_at : (other : ℕ) → job.priority ≤ p → Owe app what i posts most other rest others
  others_at other lower = owe_any app what i posts most reserve other rest others (below lower) owe

  abbrev pub Owes : ℕ → ℕ → List Job → Type 0
  Owes reserve all js = OweWith app what i posts most reserve all (hands_behind hands (Stepped shown)) js

  -- the hands of the others, whatever is in reserve
  pub same_hands : (other : ℕ) (lower : job.priority ≤ p)
      → map hand_of (hands_of app what i posts most other rest others (others_at other lower))
      ≡ map hand_of (hands_of app what i posts most reserve rest others owe)
  unfolding others_at
  same_hands other lower =
      ap (map hand_of) (hands_any app what i posts most reserve other rest others (below lower) owe)

  -- behind a silent step, an action, an end and a return
  pub told_silent : shown ≡ None → hands ≡ hands_behind hands (Stepped shown)
  told_silent silent = sym (ap (λ w. hands_behind hands (Stepped w)) silent)

  pub told_acts : (action : Action) → GoesOn action → item_of s job.role action ≡ shown
      → hand_of (transit_then hand action) ∷ map hand_of (hands_of app what i posts most reserve rest others owe)
      ≡ hands_behind hands (Stepped shown)
  told_acts action goes shows = by action goes ∙ ap (λ w. hands_behind hands (Stepped w)) shows
    where
      by : (action : Action) → GoesOn action
          → hand_of (transit_then hand action) ∷ map hand_of (hands_of app what i posts most reserve rest others owe)
          ≡ hands_behind hands (Stepped (item_of s job.role action))
      by SetsAlarm goes = absurd goes
      by Returns goes = absurd goes
      by action goes = refl

  pub told_anew : (b : BodyId) (made : Values) (next : ℕ → Values → Doing Values) → job.rest ≡ does (Ends b) made next
      → (shown ≡ Some (item.End body.Init)) ⊎ (shown ≡ Some (item.End body.Idle))
      → None ∷ map hand_of (hands_of app what i posts most reserve rest others owe)
      ≡ hands_behind hands (Stepped shown)
  told_anew b made next is ended = by ended
    where
      bare : hand ≡ Bare
      bare = (subst (HandFits hand) is fits).0

      emptied : None ∷ map hand_of (hands_of app what i posts most reserve rest others owe) ≡ hands
      emptied = ap (λ h. hand_of h ∷ map hand_of (hands_of app what i posts most reserve rest others owe)) (sym bare)

      by : (shown ≡ Some (item.End body.Init)) ⊎ (shown ≡ Some (item.End body.Idle))
          → None ∷ map hand_of (hands_of app what i posts most reserve rest others owe)
          ≡ hands_behind hands (Stepped shown)
      by (inl is) = emptied ∙ sym (ap (λ w. hands_behind hands (Stepped w)) is)
      by (inr is) = emptied ∙ sym (ap (λ w. hands_behind hands (Stepped w)) is)

  pub told_returns : shown ≡ return_item job.role → IsSome (return_item job.role)
      → map hand_of (hands_of app what i posts most reserve rest others owe) ≡ hands_behind hands (Stepped shown)
  told_returns is some = by job.role is some
    where
      by : (role : Role) → shown ≡ return_item role → IsSome (return_item role)
          → map hand_of (hands_of app what i posts most reserve rest others owe)
          ≡ hands_behind hands (Stepped shown)
      by Init is some = cc
      by Idle is some = cc
      by Waiting is some = cc
      by (Serving irq) is some = sym (ap (λ w. hands_behind hands (Stepped w)) is)

  -- no more is in reserve and in the hands
  abbrev Tight : ℕ → Type 0
  Tight reserve_then = IsTight posts reserve reserve_then hands shown others t

  pub tight_silent : (reserve_then : ℕ) → reserve_then ≤ reserve → shown ≡ None → Tight reserve_then
  tight_silent reserve_then less silent =
      let same = ap (head_in posts) (told_silent silent) in inr (omega (arith, less, same))

  pub tight_acts : (reserve_then now : ℕ) (action : Action) → released posts action ≡ Some now
      → reserve_then + now ≤ reserve → GoesOn action → item_of s job.role action ≡ shown → Tight reserve_then
  tight_acts reserve_then now action is less goes shows =
      let same = ap (head_in posts) (told_acts action goes shows) in
      let before = in_hand_is posts hand in
      let behind = in_hand_is posts (transit_then hand action) in
      let more = held_more posts hand action now is in inr (omega (arith, same, before, behind, more, less))

  pub tight_anew : (reserve_then : ℕ) → reserve_then ≤ reserve → (b : BodyId) (made : Values)
      (next : ℕ → Values → Doing Values) → job.rest ≡ does (Ends b) made next
      → (shown ≡ Some (item.End body.Init)) ⊎ (shown ≡ Some (item.End body.Idle)) → Tight reserve_then
  tight_anew reserve_then less b made next is ended =
      let same = ap (head_in posts) (told_anew b made next is ended) in inr (omega (arith, less, same))

  -- what an action leads to fits
  pub fits_then : (action : Action) (made : Values) (next : ℕ → Values → Doing Values)
      → job.rest ≡ does action made next
      → (a : ℕ) (vs : Values) (rest_then : Doing Values) → rest_then ≡ next a vs
      → HandFits (transit_then hand action) rest_then
  fits_then action made next is a vs rest_then same =
      subst (HandFits (transit_then hand action)) (sym same) ((subst (HandFits hand) is fits).1 a vs)

  pub same_values : t.values ≡ s.values → SameReady s.values t.values
  same_values is q = ap (λ vs. messages (vs (Guarded (section.Ready q)))) is
