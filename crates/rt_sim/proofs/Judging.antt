-- What an image shows is judged right, where its takes state no more than its stack region has.
use Rattle.std.proofs.Common.{◌≡◌, ◌≤◌, List, Some, refl, subst}
use Rattle.std.specs.List.{AllByRecursion}
use Rattle.rt_lemmas.proofs.Membership.{all_weaker}
use Rattle.rt_ids.specs.Event.{Event, steps}
use Rattle.rt_app.specs.Stack.{stack_bytes}
use Rattle.rt_app.specs.Tree.{App}
use Rattle.rt_code.specs.Image.{Image}
use Rattle.rt_core.specs.Core.{reset}
use Rattle.rt_core.specs.Trace.{labels, trace}
use Rattle.rt_laws.specs.Run.{IsWithinStack, Judged}
use Rattle.rt_run.proofs.Numbered.{IsTakeWithin}
use Rattle.rt_sim.specs.Good.{RunsWell}
use Rattle.rt_trace.specs.declared.item.Item.{Item}
use Rattle.rt_trace.specs.declared.item.What.{What}
use Rattle.rt_trace.specs.declared.item.What.TheVariants as what

pub within_stack : (app : App) (img : Image) → img.stack_bytes ≡ stack_bytes app → (w : What) → IsTakeWithin img w
    → IsWithinStack app w
within_stack app img size (what.Take irq depth) within = subst (λ n. depth ≤ n) size within
within_stack app img size (what.Pend irq) within = tt
within_stack app img size w within = tt

-- the trace of an image that runs well under these events
abbrev pub judged_well : (app : App) (img : Image) (es : List Event) → img.stack_bytes ≡ stack_bytes app
    → RunsWell app img es → AllByRecursion (λ item. IsTakeWithin img item.what) (trace img es)
    → Judged app (record { items = trace img es; total = Some (steps es) })
judged_well app img es size runs within = record {
  total = steps es;
  stated = refl;
  run = record { labels = labels img (reset img) es; shows = refl; steps = runs.counts; allowed = runs.runs };
  depths = all_weaker (λ (item : Item). IsTakeWithin img item.what) (λ (item : Item). IsWithinStack app item.what)
      (λ item. within_stack app img size item.what) (trace img es) within;
}
