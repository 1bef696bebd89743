use Rattle.std.proofs.Common.{◌≡◌, ◌≤◌, None, reverse, refl, sym, subst, arith}
use Rattle.std.proofs.lemmas.Grind.{common_steps}
use Rattle.rt_ids.specs.declared.exception.TheConstants.{BASIC_FRAME_WORDS}
use Rattle.rt_context.specs.Moves.{frames_after_return}
use Rattle.rt_context.proofs.Running.{seen}
use Rattle.rt_context.proofs.Returning.{Finds, finds, entry_is_there, Leads, left_leads, leads_kept, leads_view}
use Rattle.rt_context.proofs.frames.Frames.leave.Goals as goal
use Rattle.rt_context.proofs.frames.Frames.leave.Goals.{In_ok-caller, After-leave-interrupted}

found : (c : In_ok-caller) → Finds c.args.self.now c.in_ok-caller.caller (reverse c.pop.new.self.items)
found c =
    let s = seen c.args.self.now c.self.inside c.self.invariant c.self.view_is in
    let none : c.self.inside.caller ≡ None = grind (arith, common_steps) in
    finds c.args.self.now c.self.inside c.in_ok-caller.caller c.pop.new.self.items s none c.in_ok-caller.ensures.items

pub leave-interrupted-requires : goal.leave-interrupted-requires
leave-interrupted-requires c =
    let s = seen c.args.self.now c.self.inside c.self.invariant c.self.view_is in
    record {
      basic = subst (λ n. BASIC_FRAME_WORDS ≤ n) (sym s.entry) s.basic;
      there = entry_is_there c.args.self.now c.self.inside c.in_ok-caller.caller (reverse c.pop.new.self.items) s
          (found (goal.at.leave-interrupted-requires c).In_ok-caller);
    }

leads : (c : After-leave-interrupted) → Finds c.args.self.now c.in_ok-caller.caller (reverse c.pop.new.self.items)
    → Leads (frames_after_return c.args.self.now)
    (record {
      region = c.leave-interrupted.new.region;
      entry = c.self.inside.entry;
      frame =
          c.leave-interrupted.result.frame;
      caller = c.in_ok-caller.caller;
      callers = c.pop.new.self;
    })
    c.leave-interrupted.result.address
leads c finds =
    let s = seen c.args.self.now c.self.inside c.self.invariant c.self.view_is in
    left_leads c.args.self.now c.self.inside c.in_ok-caller.caller (reverse c.pop.new.self.items) s finds _
    c.leave-interrupted.result.address c.leave-interrupted.ensures.popped refl c.leave-interrupted.ensures.frame
    refl refl c.leave-interrupted.ensures.address

pub invariant_of-self-2 : goal.invariant_of-self-2
invariant_of-self-2 c =
    leads_kept _ _ _ (leads (goal.at.invariant_of-self-2 c).After-leave-interrupted
    (found (goal.at.invariant_of-self-2 c).In_ok-caller))

pub returns-clause-left : goal.returns-clause-left
returns-clause-left c =
    leads_view _ _ _ (leads (goal.at.returns-clause-left c).After-leave-interrupted
    (found (goal.at.returns-clause-left c).In_ok-caller))
