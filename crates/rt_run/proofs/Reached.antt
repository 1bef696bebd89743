-- Core steps up to the first that shows an item: where they lead, and what they show.
use Rattle.std.proofs.Common.{◌≡◌, ℕ, zero, suc, ◌+◌, ◌-◌, ◌<◌, ◌≤◌, List, [], ◌∷◌, ◌++◌, flat_map, replicate}
use Rattle.std.proofs.Common.{Option, Some, None, length, refl, ap, sym}
use Rattle.std.proofs.Common.{subst, ◌∙◌, arith}
use Rattle.std.specs.List.{AllByRecursion}
use Rattle.std.proofs.lemmas.List.{append-nil, replicate_more}
use Rattle.rt_ids.specs.Event.{Step, steps}
use Rattle.rt_ids.specs.Names.{Names}
use Rattle.rt_code.specs.Image.{Image}
use Rattle.rt_code.specs.Lines.{HasLines}
use Rattle.rt_core.specs.Core.{Core}
use Rattle.rt_core.specs.Machine.{Machine}
use Rattle.rt_core.specs.Reaching.{StepsToItem, label_of_item, and_the_last}
use Rattle.rt_core.specs.Stepping.{step}
use Rattle.rt_core.specs.Trace.{happen, labels}
use Rattle.rt_trace.specs.Label.{Label, Stepped, items_of}
use Rattle.rt_trace.specs.Lined.{HasLine}
use Rattle.rt_trace.specs.Text.{text}
use Rattle.rt_outside.specs.Bytes.{TookPrefix}
use Rattle.rt_trace.specs.declared.buffer.TheConstants.{BUFFER_BYTES}
use Rattle.rt_trace.specs.declared.item.Item.{Item}
use Rattle.rt_trace.specs.declared.item.What.{What}
use Rattle.rt_run.specs.Done.{Leads}
use Rattle.rt_run.specs.Sending.{shown_items, lines_of}
use Rattle.rt_run.specs.Writable.{IsKnown}
use Rattle.rt_run.specs.Inside.Writing.{HasWords, ShowsWords, Writes, Cut}
use Rattle.rt_run.proofs.Taking.{wrote_none}
use Rattle.rt_run.proofs.Worded.{step_known}
use Rattle.rt_run.proofs.Advancing.{written, stopped}

abbrev numbered : ℕ → What → Item
numbered n w = record { step = n; what = w }

pub steps_are : (n : ℕ) → steps (replicate n Step) ≡ n
steps_are zero = refl
steps_are (suc n) = ap suc (steps_are n)

pub reached_leads : (most : ℕ) (a b : Machine) (shown : Option What) (goes : StepsToItem most a b shown)
    → Leads (replicate goes.done Step) a b
reached_leads most a b shown goes = record {
  image = goes.image;
  core = goes.reaches.core;
  steps = omega (arith, goes.steps, steps_are goes.done);
}

-- silent steps show nothing
silent_items : (n s : ℕ) (ls : List Label) → items_of n (replicate s (Stepped None) ++ ls) ≡ items_of (n + s) ls
silent_items n zero ls = ap (λ k. items_of k ls) (let e : n ≡ n + 0 = omega arith in e)
silent_items n (suc s) ls = silent_items (suc n) s ls ∙ ap (λ k. items_of k ls)
    (let e : suc n + s ≡ n + suc s = omega arith in e)

-- where no step shows an item
pub reached_nothing : (most : ℕ) (a b : Machine) (shown : Option What) (goes : StepsToItem most a b shown) → shown
    ≡ None
    → shown_items a (replicate goes.done Step) ≡ []
reached_nothing most a b shown goes none =
    ap (items_of a.steps) goes.reaches.shows ∙ silent_items a.steps goes.reaches.silent (label_of_item shown)
    ∙ ap (λ w. items_of (a.steps + goes.reaches.silent) (label_of_item w)) none

-- where the last step shows one
pub reached_item : (most : ℕ) (a b : Machine) (shown : Option What) (w : What) (goes : StepsToItem most a b shown)
    → shown ≡ Some w
    → shown_items a (replicate goes.done Step) ≡ numbered (b.steps - 1) w ∷ []
reached_item most a b shown w goes some =
    ap (items_of a.steps) goes.reaches.shows ∙ silent_items a.steps goes.reaches.silent (label_of_item shown)
    ∙ ap (λ o. items_of (a.steps + goes.reaches.silent) (label_of_item o)) some
    ∙ ap (λ n. numbered n w ∷ [])
    (let e : a.steps + goes.reaches.silent ≡ b.steps - 1 =
    omega (arith, goes.steps, goes.reaches.count, ap (λ o. and_the_last goes.reaches.silent o) some) in e)

-- the steps before it show none
silent_front : (img : Image) (c : Core) (n : ℕ) (w : What)
    → labels img c (replicate (suc n) Step) ≡ replicate n (Stepped None) ++ Stepped (Some w) ∷ []
    → labels img c (replicate n Step) ≡ replicate n (Stepped None)
unfolding labels happen
silent_front img c zero w is = refl
silent_front img c (suc n) w is =
    let first : Stepped (step img c).1 ≡ Stepped None = cc in
    let rest : labels img (step img c).0 (replicate (suc n) Step)
    ≡ replicate n (Stepped None) ++ Stepped (Some w) ∷ [] = cc in
    ap (λ l. l ∷ labels img (step img c).0 (replicate n Step)) first
    ∙ ap (λ ls. Stepped None ∷ ls) (silent_front img (step img c).0 n w rest)

-- the names of what a label shows
abbrev HasLabelWords : Names → Label → Type 0
HasLabelWords names (Stepped shown) = ShowsWords names shown
HasLabelWords names l = Unit {0}

labels_known : (img : Image) (c : Core) (n : ℕ) → HasLines img → IsKnown img c
    → AllByRecursion (HasLabelWords img.names) (labels img c (replicate n Step))
unfolding labels happen
labels_known img c zero lines known = tt
labels_known img c (suc n) lines known =
    let next = step_known img lines c known in
    (next.1, labels_known img (step img c).0 n lines next.0)

last_known : (names : Names) (s : ℕ) (w : What) → AllByRecursion (HasLabelWords names)
    (replicate s (Stepped None) ++ Stepped (Some w) ∷ [])
    → HasWords names w
last_known names zero w h = h.0
last_known names (suc s) w h = last_known names s w h.1

-- the names of the item that was reached
pub reached_words : (most : ℕ) (a b : Machine) (shown : Option What) (w : What) (goes : StepsToItem most a b shown)
    → shown ≡ Some w
    → HasLines a.image → IsKnown a.image a.core → HasWords a.image.names w
reached_words most a b shown w goes some lines known =
    last_known a.image.names goes.reaches.silent w
    (subst (λ o. AllByRecursion (HasLabelWords a.image.names) (replicate goes.reaches.silent (Stepped None)
    ++ label_of_item o)) some
    (subst (AllByRecursion (HasLabelWords a.image.names)) goes.reaches.shows
    (labels_known a.image a.core goes.done lines known)))

-- what is written where no step shows an item
pub none_written : (most : ℕ) (a b : Machine) (shown : Option What) (x held : List ℕ)
    (goes : StepsToItem most a b shown)
    → shown ≡ None → Writes (replicate (most - 0) Step) a b x x held held
none_written most a b shown x held goes none =
    let nothing = reached_nothing most a b shown goes none in
    let all : goes.done ≡ most - 0 = omega (arith, goes.all none) in
    subst (λ n. Writes (replicate n Step) a b x x held held) all
    (written (replicate goes.done Step) a b x x held held [] (reached_leads most a b shown goes)
    (subst (AllByRecursion (HasLine a.image.names)) (sym nothing) tt) (ap (flat_map (text a.image.names)) nothing)
    (wrote_none x held))

-- the line of the item that was reached
module _ (most : ℕ) (a b : Machine) (shown : Option What) (w : What) (goes : StepsToItem most a b shown)
    (some : shown ≡ Some w)
    (names : Names) (k : ℕ) (named : names ≡ a.image.names) (counted : k ≡ b.steps) where
  pub item_lines : lines_of a (replicate goes.done Step) ≡ text names (numbered (k - 1) w)
  item_lines =
      ap (flat_map (text a.image.names)) (reached_item most a b shown w goes some)
      ∙ append-nil (text a.image.names (numbered (b.steps - 1) w))
      ∙ ap (λ (n : Names). text n (numbered (b.steps - 1) w)) (sym named)
      ∙ ap (λ n. text names (numbered (n - 1) w)) (sym counted)

  pub item_lined : HasLine names (numbered (k - 1) w) → AllByRecursion (HasLine a.image.names)
      (shown_items a (replicate goes.done Step))
  item_lined line =
      let here : HasLine a.image.names (numbered (b.steps - 1) w) =
      subst (λ n. HasLine a.image.names (numbered (n - 1) w)) counted
      (subst (λ (n : Names). HasLine n (numbered (k - 1) w)) named line) in
      subst (AllByRecursion (HasLine a.image.names)) (sym (reached_item most a b shown w goes some)) (here, tt)

  -- and a fault at it
  pub item_stopped : (x y held : List ℕ) → length held ≤ BUFFER_BYTES
      → TookPrefix x y (held ++ text names (numbered (k - 1) w)) → Cut (replicate goes.done Step) a b x y held
  item_stopped x y held few part =
      let n : ℕ = goes.reaches.silent in
      let count : n + 1 ≡ goes.done = omega (arith, goes.reaches.count, ap (and_the_last n) some) in
      let as_done : replicate n Step ++ Step ∷ [] ≡ replicate goes.done Step =
      replicate_more n Step ∙ ap (λ m. replicate m Step) count in
      let front : labels a.image a.core (replicate n Step) ≡ replicate n (Stepped None) =
      silent_front a.image a.core n w
      (ap (λ m. labels a.image a.core (replicate m Step)) (let e : suc n ≡ goes.done = omega (arith, count) in e)
      ∙ goes.reaches.shows
      ∙ ap (λ o. replicate n (Stepped None) ++ label_of_item o) some) in
      let silent : shown_items a (replicate n Step) ≡ [] =
      ap (items_of a.steps) (front ∙ sym (append-nil (replicate n (Stepped None)))) ∙ silent_items a.steps n [] in
      let shows : 0 < length (shown_items a (replicate n Step ++ Step ∷ [])) =
      omega (arith, ap length (ap (shown_items a) as_done ∙ reached_item most a b shown w goes some)) in
      subst (λ es. Cut es a b x y held) as_done
      (stopped (replicate n Step) Step a b x y held (text names (numbered (k - 1) w)) silent shows few
      (subst (λ es. Leads es a b) (sym as_done) (reached_leads most a b shown goes))
      (ap (lines_of a) as_done ∙ item_lines) part)
