-- Runs that are counted on where others ended.
use Rattle.std.proofs.Common.{◌≡◌, ℕ, ◌+◌, ◌-◌, ◌<◌, ◌≤◌, List, [], ◌∷◌, ◌++◌, length, take, replicate, Option, Some}
use Rattle.std.proofs.Common.{None}
use Rattle.std.proofs.Common.{Bool, true, false, if◌then◌else◌, get_or, refl, ap, sym, subst, ◌∙◌, append_assoc, arith}
use Rattle.std.proofs.lemmas.Grind.{fold-append}
use Rattle.std.proofs.lemmas.List.{append-nil, replicate_more, replicate-append-replicate}
use Rattle.rt_ids.specs.Event.{Event, Arrive, Tick, Step}
use Rattle.rt_core.specs.Core.{reset}
use Rattle.rt_core.specs.Machine.{Machine, IsFresh}
use Rattle.rt_core.specs.Reaching.{StepsToItem}
use Rattle.rt_core.specs.Trace.{happen, labels, trace}
use Rattle.rt_script.specs.Script.{events, line_events}
use Rattle.rt_script.specs.declared.line.Line.{Line}
use Rattle.rt_trace.specs.Label.{Ticked, Rang, items_of}
use Rattle.rt_trace.specs.declared.item.Item.{Item}
use Rattle.rt_trace.specs.declared.item.What.{What}
use Rattle.rt_run.specs.Done.{Leads}
use Rattle.rt_run.specs.Sending.{shown_items}
use Rattle.rt_run.proofs.Advancing.{stands_still, leads_on, items_split}
use Rattle.rt_run.proofs.Scripted.{events_more}
use Rattle.rt_run.proofs.Reached.{reached_leads, reached_nothing, reached_item}
use Rattle.rt_count.specs.Summary.{summary_of}
use Rattle.rt_count.specs.Joining.{CountsAtMost}
use Rattle.rt_count.specs.Inside.Adding.{summary_with_item, summary_with_items}
use Rattle.rt_count.specs.Inside.Counting.{Counted}
use Rattle.rt_count.specs.declared.summary.Summary.{Summary}
use Rattle.rt_count.proofs.Items.{summary_push}

pub nothing_yet : (m : Machine) (s : Summary) → Counted [] m m s s
unfolding labels
nothing_yet m s = record { leads = stands_still m; counts = refl }

-- one run and one that goes on are one
pub goes_on : (es fs : List Event) (a b c : Machine) (x y z : Summary) → Counted es a b x y → Counted fs b c y z
    → Counted (es ++ fs) a c x z
goes_on es fs a b c x y z first second = record {
  leads = leads_on es fs a b c first.leads second.leads;
  counts =
      second.counts
      ∙ ap (λ (s : Summary). summary_with_items s (shown_items b fs)) first.counts
      ∙ sym (fold-append (λ (before : Summary) (item : Item). summary_with_item before item.what) x
      (shown_items a es) (shown_items b fs))
      ∙ ap (summary_with_items x) (sym (items_split es fs a b first.leads));
}

-- equal events, one more behind some
pub more : (n : ℕ) (e : Event) (a b c : Machine) (x y z : Summary) → Counted (replicate n e) a b x y
    → Counted (e ∷ []) b c y z → Counted (replicate (n + 1) e) a c x z
more n e a b c x y z first second =
    subst (λ es. Counted es a c x z) (replicate_more n e) (goes_on (replicate n e) (e ∷ []) a b c x y z first second)

-- lines, one more behind some
pub line_more : (script : List Line) (i : ℕ) (line : Line) → i < length script → line ≡ get_or script i line
    → (a b c : Machine) (x y z : Summary) → Counted (events (take i script)) a b x y
    → Counted (line_events line) b c y z → Counted (events (take (i + 1) script)) a c x z
line_more script i line below is a b c x y z first second =
    subst (λ es. Counted es a c x z) (sym (events_more script i line below is))
    (goes_on (events (take i script)) (line_events line) a b c x y z first second)

-- equal events, some more of those that are left
pub some_more : (count left now : ℕ) (e : Event) (a b c : Machine) (x y z : Summary) → left ≤ count → now ≤ left
    → Counted (replicate (count - left) e) a b x y
    → Counted (replicate (left - now) e) b c y z → Counted (replicate (count - now) e) a c x z
some_more count left now e a b c x y z within fewer first second =
    subst (λ es. Counted es a c x z)
    (replicate-append-replicate (count - left) (left - now) e
    ∙ ap (λ n. replicate n e) (let same : count - left + (left - now) ≡ count - now = omega (arith, within, fewer) in
    same))
    (goes_on (replicate (count - left) e) (replicate (left - now) e) a b c x y z first second)

-- steps that show nothing
pub steps_silent : (most : ℕ) (a b : Machine) (s : Summary) (shown : Option What) (goes : StepsToItem most a b shown)
    → shown ≡ None
    → Counted (replicate (most - 0) Step) a b s s
steps_silent most a b s shown goes none =
    subst (λ n. Counted (replicate n Step) a b s s) (let all : goes.done ≡ most - 0 = omega (arith, goes.all none) in
    all)
    (record {
      leads = reached_leads most a b shown goes;
      counts = ap (summary_with_items s) (sym (reached_nothing most a b shown goes none));
    })

-- and others, of which the last shows an item
pub steps_shown : (most : ℕ) (a b : Machine) (s t : Summary) (shown : Option What) (w : What)
    (goes : StepsToItem most a b shown) → shown ≡ Some w
    → t ≡ summary_with_item s w → Counted (replicate goes.done Step) a b s t
steps_shown most a b s t shown w goes some more = record {
  leads = reached_leads most a b shown goes;
  counts = more ∙ ap (summary_with_items s) (sym (reached_item most a b shown w goes some));
}

-- a tick, and the alarm where it comes, count as nothing
pub tick_uncounted : (a b : Machine) (s : Summary) (came : Bool) → Leads (Tick ∷ []) a b
    → (happen a.image a.core Tick).1 ≡ Ticked ∷ (if came then Rang ∷ [] else []) → Counted (Tick ∷ []) a b s s
unfolding labels
tick_uncounted a b s came run shown = record {
  leads = run;
  counts =
      by came
      ∙ ap (λ ls. summary_with_items s (items_of a.steps ls))
      (sym (append-nil (happen a.image a.core Tick).1 ∙ shown));
}
  where
    by : (came : Bool)
        → s ≡ summary_with_items s (items_of a.steps (Ticked ∷ (if came then Rang ∷ [] else [])))
    by false = refl
    by true = refl

-- and so does a request
pub pend_uncounted : (a b : Machine) (s : Summary) (irq : ℕ) → Leads (Arrive irq ∷ []) a b
    → Counted (Arrive irq ∷ []) a b s s
unfolding labels happen
pend_uncounted a b s irq run = record { leads = run; counts = refl }

-- a summary of items, with more of them
counted_on : (runs : ℕ) (items more : List Item)
    → summary_with_items (summary_of runs items) more ≡ summary_of runs (items ++ more)
counted_on runs items [] = ap (summary_of runs) (sym (append-nil items))
counted_on runs items (item ∷ more) =
    ap (λ (s : Summary). summary_with_items s more) (summary_push item.step item.what items runs)
    ∙ counted_on runs (items ++ item ∷ []) more
    ∙ ap (summary_of runs) (append_assoc items (item ∷ []) more)

-- a whole run, from a fresh core
pub run_is : (script : List Line) (a b : Machine) (s t : Summary) (runs : ℕ) → IsFresh a → s ≡ summary_of runs []
    → Counted (events script) a b s t → t ≡ summary_of runs (trace a.image (events script))
run_is script a b s t runs fresh is run =
    run.counts
    ∙ ap (λ (before : Summary). summary_with_items before (shown_items a (events script))) is
    ∙ counted_on runs [] (shown_items a (events script))
    ∙ ap (λ c. summary_of runs (items_of a.steps (labels a.image c (events script)))) fresh.core
    ∙ ap (λ k. summary_of runs (items_of k (labels a.image (reset a.image) (events script)))) fresh.steps

-- what is within a bound is within a greater one
pub within_more : (m n : ℕ) (s : Summary) → m ≤ n → CountsAtMost m s → CountsAtMost n s
within_more m n s less within = record {
  takes = omega (arith, less, within.takes);
  emits = omega (arith, less, within.emits);
  full = omega (arith, less, within.full);
}
