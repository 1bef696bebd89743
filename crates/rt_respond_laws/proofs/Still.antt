-- Where nothing is left at a handler, nothing is asked for there, whatever is counted.
use Rattle.std.proofs.Common.{◌≡◌, ℕ, inl, inr, Bool, true, false, if◌then◌else◌, List, [], ◌∷◌}
use Rattle.std.proofs.Common.{slice_index_or, Some, refl, ap, subst, arith}
use Rattle.std.specs.List.{AllByRecursion}
use Rattle.std.proofs.lemmas.Bool.{cases_lt}
use Rattle.rt_lemmas.proofs.Bools.{true_and_false}
use Rattle.rt_ids.specs.Choice.{IsIn}
use Rattle.rt_ids.specs.Lists.{or_zero}
use Rattle.rt_ids.specs.declared.ids.Section.TheVariants as section
use Rattle.rt_actions.specs.Content.{messages}
use Rattle.rt_actions.specs.Location.{Guarded}
use Rattle.rt_app.specs.Tree.{App}
use Rattle.rt_app.specs.Accepted.{IsAccepted}
use Rattle.rt_laws.specs.State.{Job, State}
use Rattle.rt_laws.proofs.FineHandlers.{all_in}
use Rattle.rt_laws.proofs.Hands.{InTransit}
use Rattle.rt_respond.specs.Form.{is_of_form}
use Rattle.rt_respond.specs.Handlers.{handlers, is_at}
use Rattle.rt_respond.specs.Work.{work}
use Rattle.rt_respond.specs.Blocking.{blocking}
use Rattle.rt_respond.specs.declared.handler.Quantity.{Quantity}
use Rattle.rt_respond.specs.declared.handler.Handler.{Handler}
use Rattle.rt_respond_laws.specs.Moments.{IsRoleAt, NothingIsLeft}
use Rattle.rt_respond_laws.proofs.Weights.{Weighs}
use Rattle.rt_respond_laws.proofs.Sending.{Posting}
use Rattle.rt_respond_laws.proofs.Works.{behind_asks}
use Rattle.rt_respond_laws.proofs.Asking.{wired, wired_is}
use Rattle.rt_respond_laws.proofs.Claims.{Claim, Own, Begin, Turn, Equal, Under, Owe, IsLevelAt}
use Rattle.rt_respond_laws.proofs.Owed.{owed_pending}
use Rattle.rt_respond_laws.proofs.Levels.{some_ready}
use Rattle.rt_respond_laws.proofs.Lowering.{load, asked, asked_by, waiting, some_handlers}

module _ (app : App) (what : Quantity) (i : Handler) (posts : Posting) (most : ℕ → ℕ) where
  off_asks : (reserve own : ℕ) (hand : InTransit) (job : Job) → ¬ IsRoleAt app i job.role
      → Claim app what i posts most reserve own hand job → own ≡ 0
  off_asks reserve own hand job off (Own irq role mine high rest few is) = absurd (off mine)
  off_asks reserve own hand job off (Begin irq role mine high q at waits is) = absurd (off mine)
  off_asks reserve own hand job off (Turn irq role mine high q at turns is) = absurd (off mine)
  off_asks reserve own hand job off (Equal none same rest few within is) = is
  off_asks reserve own hand job off (Under none lower mode holds stands is) = is

  -- jobs that are not at it ask for nothing
  pub none_ask : (reserve all : ℕ) (js : List Job) → AllByRecursion (λ job. ¬ IsRoleAt app i job.role) js
      → Owe app what i posts most reserve all js → all ≡ 0
  none_ask reserve all [] off owe = owe
  none_ask reserve all (job ∷ others) off owe =
      let sum = owe.2 in
      let first = off_asks reserve owe.0 owe.3.0 job off.0 owe.3.2 in
      let rest = none_ask reserve owe.1 others off.1 owe.4 in omega (arith, sum, first, rest)

module _ (app : App) (accepted : IsAccepted app) (form : is_of_form app ≡ true) (what : Quantity) (i : Handler)
    (declared : IsIn (handlers app) i) (hold : ℕ) (hold_is : blocking app what i ≡ Some hold)
    (few : Weighs app what i hold) (s : State) (nothing : NothingIsLeft app i s) where
  -- what a handler asks for by its interrupt
  abbrev asks_now : Handler → ℕ
  asks_now h = if slice_index_or s.pending h.number false then or_zero (work app what i h) else 0

  nothing_asked : (h : Handler) → IsIn (wired app accepted form) h → asks_now h ≡ 0
  nothing_asked h there = by (slice_index_or s.pending h.number false) refl (is_at i h) refl
    where
      by : (b : Bool) → slice_index_or s.pending h.number false ≡ b → (c : Bool) → is_at i h ≡ c
          → (if b then or_zero (work app what i h) else 0) ≡ 0
      by false clear c at = refl
      by true set true at =
          let clear = nothing.pending h.number (record {
            handler = h;
            serves = record { declared = (wired_is app accepted form h there).0; number = refl };
            at = at;
          }) in absurd (true_and_false (slice_index_or s.pending h.number false) set clear)
      by true set false behind =
          ap or_zero (behind_asks app what i h
          (some_handlers app accepted form what i declared hold hold_is few) behind)

  none_pending : (hs : List Handler) → AllByRecursion (λ h. asks_now h ≡ 0) hs
      → owed_pending app what i s.pending hs ≡ 0
  none_pending [] none = refl
  none_pending (h ∷ hs) none =
      let first = none.0 in let rest = none_pending hs none.1 in omega (arith, first, rest)

  pub nothing_pending : asked app accepted form what i declared hold hold_is few s.pending ≡ 0
  nothing_pending =
      none_pending (wired app accepted form)
      (all_in (λ h. asks_now h ≡ 0) (wired app accepted form) (λ h there. nothing_asked h there))

  pub nothing_waits : (paid : ℕ → ℕ) → waiting app accepted form what i declared hold hold_is few s.values paid ≡ 0
  nothing_waits paid =
      elim (cases_lt 0 (waiting app accepted form what i declared hold hold_is few s.values paid)) [
        | inl some ↦
            let one = some_ready app what i
            (asked_by app accepted form what i declared hold hold_is few) s.values paid some in
            absurd (one.2 (by one.0 one.1))
        | inr none ↦ omega (arith, none)
      ]
    where
      by : (q : ℕ) → (at : IsLevelAt app i q) → messages (s.values (Guarded (section.Ready q))) ≡ []
      by q at =
          subst (λ r. messages (s.values (Guarded (section.Ready r))) ≡ []) at.level
          (nothing.ready at.handler at.declared at.dispatches at.at)

  pub nothing_loads : (paid : ℕ → ℕ) → load app accepted form what i declared hold hold_is few s paid ≡ 0
  nothing_loads paid =
      let pending = nothing_pending in let ready = nothing_waits paid in omega (arith, pending, ready)
