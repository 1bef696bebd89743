-- How turns of dispatchers are paid from one moment of a run to the next.
use Rattle.std.proofs.Common.{◌≡◌, ℕ, ◌+◌, ◌-◌, true, Contains, List, [], Some, IsSome, ap, arith}
use Rattle.rt_lemmas.proofs.Lists.{find_has}
use Rattle.rt_ids.specs.Choice.{IsIn}
use Rattle.rt_ids.specs.declared.ids.Section.TheVariants as section
use Rattle.rt_actions.specs.Content.{Values, messages}
use Rattle.rt_trace.specs.Label.{Label, Arrived}
use Rattle.rt_app.specs.Tree.{App}
use Rattle.rt_app.specs.Accepted.{IsAccepted}
use Rattle.rt_app.specs.Doings.{handler_doing}
use Rattle.rt_app.specs.Handlers.{Service, services}
use Rattle.rt_app.specs.Level.{levels}
use Rattle.rt_laws.specs.Services.{service_at}
use Rattle.rt_laws.specs.State.{Serving, State, reached_values}
use Rattle.rt_laws.specs.Allowed.{May, after}
use Rattle.rt_laws.specs.Observer.{Observer}
use Rattle.rt_laws.specs.MessagesWaiting.{is_start_at}
use Rattle.rt_laws.specs.Waiting.{is_take}
use Rattle.rt_laws.proofs.Fine.{Queued, IsFine, reached_same}
use Rattle.rt_laws.proofs.FineHandlers.{services_fine}
use Rattle.rt_laws.proofs.ItemCounts.{one_if}
use Rattle.rt_laws.proofs.ReadyRuns.{next_kept}
use Rattle.rt_laws.proofs.Well.{StateWell}
use Rattle.rt_rta.specs.Limits as rta
use Rattle.rt_rta.specs.declared.limits.Limit.{Limit}
use Rattle.rt_respond.specs.Blocking.{blocking}
use Rattle.rt_respond.specs.Form.{is_of_form}
use Rattle.rt_respond.specs.Handlers.{handlers}
use Rattle.rt_respond.specs.declared.handler.Quantity.{Quantity}
use Rattle.rt_respond.specs.declared.handler.Handler.{Handler}
use Rattle.rt_respond_laws.proofs.Weights.{Weighs}
use Rattle.rt_respond_laws.proofs.Passing.{SameReady}
use Rattle.rt_respond_laws.proofs.Turning.{turn}
use Rattle.rt_respond_laws.proofs.Turns.{OneOn, one_label, other_request}
use Rattle.rt_respond_laws.proofs.Lowering.{at_known, Numbered, Knows}
use Rattle.rt_respond_laws.proofs.Waits.{Paid, Pays}

-- the turns that are paid behind a label: one more where one begins, one less where a message starts
abbrev pub paid_behind : App → Label → (ℕ → ℕ) → ℕ → ℕ
paid_behind app label paid q = paid q + one_if (is_take (turn app q) label) - one_if (is_start_at app q label)

-- a take changes no ready messages
pub take_same : (app : App) → IsAccepted app → (s : State) → Queued app s.values → (irq : ℕ) (x : Service)
    → service_at app irq ≡ Some x
    → SameReady s.values (reached_values (handler_doing app x.handler s.values) s.values)
take_same app accepted s queued irq x at q =
    ap messages
    (reached_same app (Serving irq) x.priority 0 [] (handler_doing app x.handler s.values) s.values
    (find_has (λ (x : Service). (n : ℕ) (vs : Values) → Queued app vs
    → IsFine app (Serving irq) x.priority n [] vs (handler_doing app x.handler vs)) _ (services app) x
    (services_fine app accepted irq) at 0 s.values queued) (section.Ready q) tt)

module _ (app : App) (accepted : IsAccepted app) (form : is_of_form app ≡ true) (what : Quantity) (i : Handler)
    (declared : IsIn (handlers app) i) (hold : ℕ) (hold_is : blocking app what i ≡ Some hold)
    (few : Weighs app what i hold)
    (limits : List Limit) (fine : rta.AreLimits app limits) where
  abbrev PaidIn : State → (ℕ → ℕ) → Type 0
  PaidIn = Paid app accepted form what i declared hold hold_is few

  abbrev PaysIn : Label → (ℕ → ℕ) → (ℕ → ℕ) → Type 0
  PaysIn = Pays app accepted form what i declared hold hold_is few

  -- a label's request is of an interrupt with a limit
  abbrev pub IsLimited : Label → Type 0
  IsLimited label = (irq : ℕ) → label ≡ Arrived irq → IsSome (rta.every_of limits irq)

  module _ (s : State) (v : Observer) (well : StateWell app s v) (label : Label) (may : May app s label)
      (limited : IsLimited label) (paid : ℕ → ℕ) (now : PaidIn s paid) where
    one : (q : ℕ) (level : Contains (levels app) q)
        → OneOn app accepted form q level s (now.turned q level) label
    one q level =
        one_label app accepted form q level s v well (now.turned q level) label may
        (λ irq is. other_request app accepted form q level limits fine irq (limited irq is))

    pub pays_on : PaysIn label paid (paid_behind app label paid)
    pays_on q at =
        let level = at_known app accepted form what i declared hold hold_is few q at in
        let count = (one q level).count in
        let same = now.counts q level in
        omega (arith, count, same)

    -- with what is known of the interrupts and messages behind it
    pub paid_on : Numbered app accepted form what i declared hold hold_is few (after app s label).pending
        → Knows app accepted form what i declared hold hold_is few (after app s label).values
        → PaidIn (after app s label) (paid_behind app label paid)
    paid_on numbered known = record {
      numbered = numbered;
      known = known;
      turned = λ q level. (one q level).behind;
      counts = λ q level.
          let count = (one q level).count in let same = now.counts q level in omega (arith, count, same);
      served = λ q level. next_kept app accepted q level s v label well (now.served q level) may;
    }
