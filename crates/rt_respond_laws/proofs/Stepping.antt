-- A step of the running job lowers what is asked for at a handler, or what is in reserve, by a step; a lower job that
-- is in no section that counts takes one only where nothing is asked for.
use Rattle.std.proofs.Common.{ℕ, ◌+◌, ◌≤◌, ◌<◌, List, ◌∷◌, Option}
use Rattle.std.proofs.Common.{arith}
use Rattle.std.specs.List.{AllByRecursion}
use Rattle.rt_actions.specs.Content.{Values}
use Rattle.rt_trace.specs.declared.item.What.{What}
use Rattle.rt_app.specs.Tree.{App}
use Rattle.rt_laws.specs.Preemption.{system_ceiling}
use Rattle.rt_laws.specs.Allowed.{HasStep}
use Rattle.rt_laws.specs.State.{Job, State}
use Rattle.rt_laws.specs.Acting.{idle_job}
use Rattle.rt_laws.proofs.Hands.{InTransit, Bare}
use Rattle.rt_laws.proofs.Hands.{Fits as HandFits}
use Rattle.rt_laws.proofs.Well.{IsAbove}
use Rattle.rt_respond.specs.Work.{steps_weight}
use Rattle.rt_respond.specs.declared.handler.Quantity.{Quantity}
use Rattle.rt_respond.specs.declared.handler.Handler.{Handler}
use Rattle.rt_respond_laws.proofs.Sending.{Posting, place_of}
use Rattle.rt_respond_laws.proofs.Modes.{Outside, Inside}
use Rattle.rt_respond_laws.proofs.Passing.{Passes}
use Rattle.rt_respond_laws.proofs.Claims.{Claim, Own, Begin, Turn, Equal, Under, Owe}
use Rattle.rt_respond_laws.proofs.Spending.{Asked, Known, SpendsSo, below}
use Rattle.rt_respond_laws.proofs.OwnSteps.{own_spends, begin_spends, turn_spends}
use Rattle.rt_respond_laws.proofs.LowerSteps.{equal_spends, inside_spends, outside_spends}

module _ (app : App) (what : Quantity) (i : Handler) (posts : Posting) (most : ℕ → ℕ) (positive : 0 < i.priority)
    (anew : (reserve : ℕ) (vs : Values) → Claim app what i posts most reserve 0 Bare (idle_job app vs app.idle)) where
  abbrev p : ℕ
  p = i.priority

  module _ (s : State) (job : Job) (others : List Job) (shown : Option What) (t : State) (reserve own rest : ℕ)
      (hand : InTransit) (fits : HandFits hand job.rest) (owe : Owe app what i posts most reserve rest others)
      (has : HasStep job.role job.left)
      (may : AllByRecursion (λ n. 0 < n) job.lefts) (above : IsAbove app job.role job.priority others) where
    abbrev step : Asked app what i posts most
    step = record {
      positive = positive;
      anew = anew;
      s = s;
      job = job;
      others = others;
      shown = shown;
      t = t;
      reserve = reserve;
      own = own;
      rest = rest;
      hand = hand;
      fits = fits;
      owe = owe;
      has = has;
      may = may;
      above = above;
    }

    abbrev So : ℕ → Type 0
    So = SpendsSo app what i posts most step

    -- where something is asked for, which the system ceiling reaches
    pub step_spends : Known app what i posts most s.values → p ≤ system_ceiling app (job ∷ others)
        → Claim app what i posts most reserve own hand job → Passes app s job others shown t
        → So (steps_weight what 1)
    step_spends known reach (Own irq role mine over r few is) passes = own_spends app what i posts most step irq role
        mine over r few is passes
    step_spends known reach (Begin irq role mine over q at waits is) passes =
        begin_spends app what i posts most step irq role mine over q at waits is passes
    step_spends known reach (Turn irq role mine over q at turns is) passes =
        turn_spends app what i posts most step known irq role mine over q at turns is passes
    step_spends known reach (Equal off same r few within is) passes = equal_spends app what i posts most step off same
        r few within is passes
    step_spends known reach (Under off lower (Inside r depth) holds lies is) passes =
        inside_spends app what i posts most step off lower r depth holds lies is passes
    step_spends known reach (Under off lower Outside holds closed is) passes =
        let deeper = below app what i posts most step (omega (arith, lower)) in
        absurd (omega (arith, reach, lower, closed, deeper))

    fewer : So (steps_weight what 1) → So 0
    fewer spends = record {
      reserve = spends.reserve;
      all = spends.all;
      now = spends.now;
      given = spends.given;
      owes = spends.owes;
      effects = spends.effects;
      tight = spends.tight;
      less = spends.less;
      small = spends.small;
      sum = let sum = spends.sum in omega (arith, sum);
    }

    -- where nothing is, and all is in reserve
    pub quiet_spends : Known app what i posts most s.values → most job.priority ≤ reserve + place_of posts hand
        → Claim app what i posts most reserve own hand job →
        Passes app s job others shown t
        → So 0
    quiet_spends known full (Own irq role mine over r few is) passes = fewer
        (own_spends app what i posts most step irq role mine over r few is passes)
    quiet_spends known full (Begin irq role mine over q at waits is) passes =
        fewer (begin_spends app what i posts most step irq role mine over q at waits is passes)
    quiet_spends known full (Turn irq role mine over q at turns is) passes =
        fewer (turn_spends app what i posts most step known irq role mine over q at turns is passes)
    quiet_spends known full (Equal off same r few within is) passes =
        fewer (equal_spends app what i posts most step off same r few within is passes)
    quiet_spends known full (Under off lower (Inside r depth) holds lies is) passes =
        fewer (inside_spends app what i posts most step off lower r depth holds lies is passes)
    quiet_spends known full (Under off lower Outside holds closed is) passes =
        outside_spends app what i posts most step full off lower holds closed is passes
