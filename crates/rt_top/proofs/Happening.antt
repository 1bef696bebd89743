-- What happens under a script: each arrival is that of a declared interrupt, and there are few events, so a good image
-- runs well under them.
use Rattle.std.proofs.Common.{◌≡◌, ℕ, ◌≤◌, ◌==◌, ◌||◌, Bool, true, false, cond, List, [], ◌∷◌, map, find, Some}
use Rattle.std.proofs.Common.{IsSome, refl, sym, subst, arith}
use Rattle.std.specs.List.{AllByRecursion, list_any}
use Rattle.std.specs.Str.Lines.{lines}
use Rattle.rt_ids.specs.Event.{Event, Arrive, Tick, Step}
use Rattle.rt_ids.specs.Names.{Names}
use Rattle.rt_app.specs.Names.{names_of}
use Rattle.rt_app.specs.Tree.{App}
use Rattle.rt_code.specs.Image.{Image}
use Rattle.rt_script.specs.Script.{HasNames, events}
use Rattle.rt_script.specs.Text.{IsScriptText}
use Rattle.rt_script.specs.declared.line.Line.{Line}
use Rattle.rt_script.proofs.Declared.{AreRight, lead_right}
use Rattle.rt_run.proofs.Scripted.{events_length}
use Rattle.rt_run.proofs.Weighing.{Arrives, Named, weight, length_weighs, steps_weigh}
use Rattle.rt_live.specs.Interleaving.{turns, interleaving}
use Rattle.rt_live.specs.Output.{IsLiveText}
use Rattle.rt_live.proofs.Found.{named_events, events_named, events_weigh}
use Rattle.rt_dual.specs.Course.{first_events, second_events, course_events}
use Rattle.rt_dual.specs.Output.{IsPairText}
use Rattle.rt_dual.proofs.Found.{first_named, second_named, first_weighs, second_weighs}
use Rattle.rt_sim.specs.Good.{RunsWell, AreDeclared}
use Rattle.rt_sim.proofs.Armed.{counts_of_few}
use Rattle.rt_top.specs.Outputs.{IsGoodImage}

-- what comes to a good image of the application of a text: each arrival is that of a named interrupt, and all is little
pub record Happens (text : List ℕ) (app : App) (image : Image) (es : List Event) : Type 0 where
  pub is : IsGoodImage text app image
  pub declared : AllByRecursion (Arrives (Named image.names)) es
  pub few : weight es ≤ 2000000

-- an interrupt whose number has a name is declared
declared_by : {X : Type 0} (name : X → List ℕ) (number : X → ℕ) (rows : List X) (n : ℕ)
    → IsSome (find (λ (irq : List ℕ × ℕ). irq.1 == n) (map (λ d. (name d, number d)) rows))
    → list_any (λ d. number d == n) rows ≡ true
declared_by name number [] n is = absurd (cc)
declared_by name number (d ∷ rows) n is = by (declared_by name number rows n) (number d == n) is
  where
    by : (IsSome (find (λ (irq : List ℕ × ℕ). irq.1 == n) (map (λ d. (name d, number d)) rows))
        → list_any (λ d. number d == n) rows ≡ true) → (b : Bool)
        → IsSome (cond b (Some (name d, number d))
        (find (λ (irq : List ℕ × ℕ). irq.1 == n) (map (λ d. (name d, number d)) rows)))
        → (b || list_any (λ d. number d == n) rows) ≡ true
    by rest true is = refl
    by rest false is = rest is

are_declared : (app : App) (es : List Event) → AllByRecursion (Arrives (Named (names_of app))) es → AreDeclared app es
are_declared app [] all = tt
are_declared app (Arrive irq ∷ es) all =
    (declared_by (λ d. d.name) (λ d. d.number) app.irqs irq all.0, are_declared app es all.1)
are_declared app (Tick ∷ es) all = are_declared app es all.1
are_declared app (Step ∷ es) all = are_declared app es all.1

-- so it runs well
pub runs_well : (text : List ℕ) (app : App) (image : Image) (es : List Event) → Happens text app image es
    → RunsWell app image es
runs_well text app image es h =
    h.is.good.good.each es (counts_of_few app image es (omega (arith, h.few, length_weighs es)))
    (are_declared app es (subst (λ (n : Names). AllByRecursion (Arrives (Named n)) es)
    h.is.good.of_application.tables.names h.declared))

module _ {text more : List ℕ} {app : App} {image : Image} {script : List Line} (is : IsGoodImage text app image)
    (read : IsScriptText (names_of app) more script) where
  right : AreRight (names_of app) script
  right = lead_right (names_of app) (lines more) script read.lead

  named : HasNames image.names script
  named = subst (λ (n : Names). HasNames n script) (sym is.good.of_application.tables.names) right.named

  -- the events of a script
  pub run_happens : Happens text app image (events script)
  run_happens = record {
    is = is;
    declared = named_events image.names script named;
    few = omega (arith, steps_weigh (events script), events_length script, right.script.few);
  }

  -- its own events with what looks found
  pub live_happens : (shown : List ℕ) (live : IsLiveText image script shown)
      → Happens text app image (interleaving (turns script) live.found)
  live_happens shown live = record {
    is = is;
    declared = events_named image.names script live.found live.history live.is right.script named;
    few = events_weigh image.names script live.found live.history live.is right.script named;
  }

  -- and beside another core, of both
  module _ (beside : List ℕ) (other : App) (second : Image) (bytes : List ℕ)
      (pair : IsPairText image second script bytes) where
    pub first_happens : Happens text app image (course_events (first_events script) pair.one)
    first_happens = record {
      is = is;
      declared = first_named image second script bytes pair right.script named;
      few = first_weighs image second script bytes pair right.script;
    }

    pub second_happens : IsGoodImage beside other second
        → Happens beside other second (course_events (second_events script) pair.two)
    second_happens is_other = record {
      is = is_other;
      declared = second_named image second script bytes pair right.script;
      few = second_weighs image second script bytes pair right.script;
    }
