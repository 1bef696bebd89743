use Rattle.std.proofs.Common.{List, ℕ, ◌-◌, None, slice_index, ap, refl}
use Rattle.rt_context.specs.Moves.{back}
use Rattle.rt_context.proofs.Running.{seen}
use Rattle.rt_context.proofs.Returning.{Leads, back_leads, leads_kept, leads_view}
use Rattle.rt_context.proofs.frames.Frames.back.Goals as goal
use Rattle.rt_context.proofs.frames.Frames.back.Goals.{After-top_ref}

leads : (c : After-top_ref) → Leads (back c.args.self.now)
    (record {
      region = c.pop.new.self;
      entry = c.self.inside.entry;
      frame = c.in_ok-caller.caller;
      caller = None;
      callers = c.self.inside.callers;
    }) (slice_index c.top_ref.result.now (c.in_ok-caller.caller - 1))
leads c =
    let s = seen c.args.self.now c.self.inside c.self.invariant c.self.view_is in
    let n = c.in_ok-caller.caller in
    back_leads c.args.self.now c.self.inside _ n _ s c.in_ok-caller.was c.pop.ensures refl refl refl refl
    (ap (λ (ws : List ℕ). slice_index ws (n - 1)) c.top_ref.ensures.value)

pub invariant_of-self : goal.invariant_of-self
invariant_of-self c = leads_kept _ _ _ (leads (goal.at.invariant_of-self c).After-top_ref)

pub returns-clause-back : goal.returns-clause-back
returns-clause-back c = leads_view _ _ _ (leads (goal.at.returns-clause-back c).After-top_ref)
