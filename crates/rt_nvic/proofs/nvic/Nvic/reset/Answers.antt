use Rattle.std.proofs.Common.{ℕ, ◌≤◌, Bool, false, List, [], drop, length, replicate, ap, ◌∙◌, arith, drop_of_length-le}
use Rattle.rt_ids.specs.declared.limits.TheConstants.{IRQ_NUMBERS}
use Rattle.rt_nvic.specs.Nvic.{Nvic}
use Rattle.rt_nvic.specs.declared.sizes.TheConstants.{ACTIVE}
use Rattle.rt_nvic.proofs.Flags.{flags_none}
use Rattle.rt_nvic.proofs.Taking.{kept_cleared}
use Rattle.rt_nvic.proofs.nvic.Nvic.reset.Goals as goal

pub invariant_of-self : goal.invariant_of-self
invariant_of-self c =
    let fixed = c.self.invariant.fixed in
    kept_cleared c.self.inside.priorities c.self.inside.active fixed.priorities_long fixed.active_long

pub returns : goal.returns
returns c =
    let is = c.self.inside in
    let all : length is.active ≤ ACTIVE = let long = c.self.invariant.fixed.active_long in omega arith in
    ap (λ (pending : List Bool). record {
      priorities = is.priorities;
      pending = pending;
      active =
          drop ACTIVE is.active;
    }) flags_none
    ∙ ap (λ (active : List ℕ). record {
      priorities = is.priorities;
      pending = replicate IRQ_NUMBERS false;
      active =
          active;
    }) (drop_of_length-le is.active all)
    ∙ ap (λ (n : Nvic). record { priorities = n.priorities; pending = replicate IRQ_NUMBERS false; active = [] })
    c.self.view_is
