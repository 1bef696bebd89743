-- Where owners begin: `init` and handlers at an address, the thread behind the end of `init`.
use Rattle.std.proofs.Common.{◌≡◌, ◌≢◌, ◌⊎◌, ◌<◌, ◌+◌, ◌-◌, ◌==◌, ℕ, zero, suc, Bool, true, false, if◌then◌else◌}
use Rattle.std.proofs.Common.{List, [], ◌∷◌, ◌++◌, length, slice_get, Option, Some, None, refl, sym, ap, subst, ◌∙◌}
use Rattle.std.proofs.Common.{inl, inr, ⊎_elim, arith, length-append}
use Rattle.std.proofs.lemmas.Bool.{cases_eq, cases_lt}
use Rattle.rt_lemmas.proofs.Indices.{at_back, at_front, get_left}
use Rattle.rt_code.specs.Image.{Image}
use Rattle.rt_code.specs.declared.image.Handler.{Handler}
use Rattle.rt_code.specs.declared.instr.Instr.{Instr}
use Rattle.rt_code.specs.declared.instr.Instr.TheVariants as instr
use Rattle.rt_code.specs.declared.instr.Note.{Note}
use Rattle.rt_points.specs.Checked.{IsChecked}
use Rattle.rt_points.specs.Leading.{IsPoint, Leads, LeadsOn, LeadsTo, handler_at, inside_after, owner_after}
use Rattle.rt_points.specs.Point.{Point}
use Rattle.rt_points.specs.declared.point.Owner.{Owner}
use Rattle.rt_points.specs.declared.point.Owner.TheVariants.{Starting, Thread, Handling}
use Rattle.rt_points.specs.declared.rule.Rule.TheVariants as rule
use Rattle.rt_judge.specs.Inside.Exits.{ends_init}
use Rattle.rt_judge.specs.Inside.Tables.{found}
use Rattle.rt_judge.specs.declared.nesting.Nesting.{Nesting}
use Rattle.rt_judge.specs.declared.walk.Visit.{Visit}
use Rattle.rt_judge.specs.declared.walk.Walk.{Walk}
use Rattle.rt_judge.proofs.ExitLists.{ends}
use Rattle.rt_bounds.specs.Holding.{BeginsAt}
use Rattle.rt_bounds.specs.Inside.Ground.{IsMapped}
use Rattle.rt_bounds.specs.Inside.Sources.{AreStarts, StartsAt, BeginsHere, AreServed, is_served, serves, visit_at}
use Rattle.rt_bounds.specs.declared.shape.Lines.{Lines}
use Rattle.rt_bounds.proofs.Exiting.{came, its_point}
use Rattle.rt_bounds.proofs.Mapped.{has_all}

-- visits with one more
pub starts_more : (xs : List Visit) (v : Visit) (to : ℕ) → StartsAt xs to → StartsAt (xs ++ v ∷ []) to
starts_more xs v to starts =
    let long = length-append xs (v ∷ []) in
    let below = starts.below in
    record {
      index = starts.index;
      below = omega (arith, long, below);
      visit = starts.visit;
      there = get_left xs (v ∷ []) starts.index starts.visit starts.there;
      at = starts.at;
    }

pub starts_last : (xs : List Visit) (v : Visit) (to : ℕ) → v.address ≡ to → StartsAt (xs ++ v ∷ []) to
starts_last xs v to at =
    let long = length-append xs (v ∷ []) in
    record {
      index = length xs;
      below = omega (arith, long);
      visit = v;
      there = at_back xs (v ∷ []) (length xs) 0 (omega arith);
      at = at;
    }

pub starts_either : (xs : List Visit) (v : Visit) (to : ℕ) → StartsAt (xs ++ v ∷ []) to
    → StartsAt xs to ⊎ (v.address ≡ to)
starts_either xs v to starts = ⊎_elim
    (λ less. inl (record {
      index = starts.index;
      below = less;
      visit = starts.visit;
      there = sym (at_front xs (v ∷ []) starts.index less) ∙ starts.there;
      at = starts.at;
    }))
    (λ le.
    let long = length-append xs (v ∷ []) in
    let below = starts.below in
    let last : starts.index ≡ length xs + 0 = omega (arith, long, below, le) in
    let is : Some v ≡ Some starts.visit = sym (at_back xs (v ∷ []) starts.index 0 last) ∙ starts.there in
    let same : v ≡ starts.visit = cc in
    inr (ap (λ (x : Visit). x.address) same ∙ starts.at))
    (cases_lt starts.index (length xs))

pub served_more : (img : Image) (init : Walk) (k : ℕ) (xs : List Visit) (v : Visit) → v.address ≡ k
    → is_served img init k ≡ true → AreServed img init k xs → AreServed img init (k + 1) (xs ++ v ∷ [])
served_more img init k xs v at is before to = (
  (λ less served. ⊎_elim
      (λ same. starts_last xs v to (at ∙ sym same))
      (λ apart. starts_more xs v to ((before to).0 (omega (arith, less, apart)) served))
      (cases_eq to k)),
  (λ starts. ⊎_elim
      (λ old. (before to).1 old)
      (λ here. subst (λ n. is_served img init n ≡ true) (sym at ∙ here) is)
      (starts_either xs v to starts)),
)

pub served_skip : (img : Image) (init : Walk) (k : ℕ) (xs : List Visit) → is_served img init k ≡ false
    → AreServed img init k xs → AreServed img init (k + 1) xs
served_skip img init k xs is before to = (
  (λ less served. ⊎_elim
      (λ same. absurd (let e : is_served img init to ≡ false = ap (is_served img init) same ∙ is in cc))
      (λ apart. (before to).0 (omega (arith, less, apart)) served)
      (cases_eq to k)),
  (before to).1,
)

pub served_none : (img : Image) (init : Walk) (xs : List Visit) → xs ≡ [] → AreServed img init 0 xs
served_none img init xs empty to = (
  (λ less served. absurd (omega (arith, less))),
  (λ starts. absurd (
      let long : length xs ≡ 0 = ap length empty in
      let below = starts.below in
      omega (arith, long, below))),
)

-- who begins as the thread comes from the end of `init`
from_serving : (i : Instr) (before : Owner) → before ≢ Thread → owner_after i before ≡ Thread
    → (i ≡ instr.Serve) × (before ≡ Starting)
from_serving instr.Serve Starting apart is = (refl, refl)
from_serving i before apart is = absurd (apart is)

other_owner : (i : Instr) (before owner : Owner) → owner ≢ Thread → before ≢ owner → owner_after i before ≢ owner
other_owner instr.Serve Starting owner no_thread apart = λ is. no_thread (sym is)
other_owner i before owner no_thread apart = λ is. apart is

leads_next : (i : Instr) (at to : ℕ) → i ≡ instr.Serve → LeadsOn i at to → to ≡ suc at
leads_next i at to is leads = let h : LeadsOn instr.Serve at to = subst (λ (j : Instr). LeadsOn j at to) is leads in h

module _ (img : Image) (init : Walk) (checked : IsChecked img) (mapped : IsMapped img Starting init) where
  abbrev lines : Lines
  lines = record { first = 0; last = 0 }

  -- an address behind the end of `init`
  served_of : (to before : ℕ) → to ≡ suc before → (line : Instr × Option Note)
      → slice_get img.code before ≡ Some line → line.0 ≡ instr.Serve → (nesting : Nesting)
      → found init.table before ≡ Some nesting → is_served img init to ≡ true
  served_of to before next line stands serve nesting there =
      let some : (to == 0) ≡ false = grind (arith, next) in
      let same : to - 1 ≡ before = omega (arith, next) in
      ap (λ (b : Bool). if b then false else serves (slice_get img.code (to - 1)) (found init.table (to - 1))) some
      ∙ ap (λ n. serves (slice_get img.code n) (found init.table n)) same
      ∙ (λ k. serves (stands k) (there k)) ∙ ap (λ (i : Instr). ends_init i Starting) serve

  pub begins_served : (to : ℕ) → BeginsHere img Thread to → is_served img init to ≡ true
  begins_served to (inl begins) = absurd begins
  begins_served to (inr from) = by from.0 from.1 from.2 from.3 from.4 from.5 from.6
    where
      by : (p q : Point) → IsPoint img p → (leads : LeadsTo img p q) → p.owner ≢ Thread → q.owner ≡ Thread
          → q.address ≡ to → is_served img init to ≡ true
      by p q point leads apart mine at =
          let serving = from_serving leads.line.0 p.owner apart (sym leads.owner ∙ mine) in
          let n = came img Starting init lines (has_all img Starting init checked mapped) p point serving.1 in
          served_of to p.address (sym at ∙ leads_next leads.line.0 p.address q.address serving.0 leads.address)
          leads.line leads.stands serving.0 n.0 n.1

  pub begins_within : (to : ℕ) → BeginsHere img Thread to → to < length img.code
  begins_within to (inl begins) = absurd begins
  begins_within to (inr from) =
      subst (λ n. n < length img.code) from.6 (checked rule.Addresses from.1 (Leads from.0 from.1 from.2 from.3))

  served_begins : (to : ℕ) → is_served img init to ≡ true → BeginsHere img Thread to
  served_begins zero is = absurd cc
  served_begins (suc before) is =
      let same : suc before - 1 ≡ before = omega arith in
      let some : (suc before == 0) ≡ false = (let e : suc before ≡ suc before = refl in grind (arith, e)) in
      by (slice_get img.code before) (found init.table before) refl refl
      (sym (ap (λ n. serves (slice_get img.code n) (found init.table n)) same)
      ∙ sym (ap (λ (b : Bool). if b then false
      else serves (slice_get img.code (suc before - 1)) (found init.table (suc before - 1))) some) ∙ is)
    where
      by : (l : Option (Instr × Option Note)) (n : Option Nesting) → slice_get img.code before ≡ l
          → found init.table before ≡ n → serves l n ≡ true → BeginsHere img Thread (suc before)
      by None n stands there serving = absurd cc
      by (Some line) None stands there serving = absurd cc
      by (Some line) (Some nesting) stands there serving =
          let p = its_point img Starting init lines (has_all img Starting init checked mapped) before nesting there in
          let e = ends line.0 Starting serving in
          let serve = e.0 in
          inr (
            p.0,
            record {
              address = suc before;
              owner = Thread;
              inside = inside_after line.0 line.1 p.0.inside;
            },
            p.1,
            record {
              line = line;
              stands = ap (slice_get img.code) p.3 ∙ stands;
              address = subst (λ (j : Instr). LeadsOn j p.0.address (suc before)) (sym serve) (ap suc (sym p.3));
              owner = sym (ap (owner_after line.0) p.2 ∙ ap (λ (j : Instr). owner_after j Starting) serve);
              inside = refl;
            },
            (λ same. let f : Starting ≡ Thread = sym p.2 ∙ same in cc),
            refl,
            refl,
          )

  pub served_starts : (xs : List Visit) → AreServed img init (length img.code) xs → AreStarts img Thread xs
  served_starts xs are to = (
    (λ begins. (are to).0 (begins_within to begins) (begins_served to begins)),
    (λ starts. served_begins to ((are to).1 starts)),
  )

-- an owner but the thread begins at one address
pub one_start : (img : Image) (owner : Owner) (entry : ℕ) (xs : List Visit) → xs ≡ visit_at entry ∷ [] → owner ≢ Thread
    → ((a : ℕ) → BeginsAt img owner a → a ≡ entry) → BeginsAt img owner entry → AreStarts img owner xs
one_start img owner entry xs is no_thread only here to = (
  (λ begins. subst (λ (ys : List Visit). StartsAt ys to) (sym is) (record {
    index = 0;
    below = omega arith;
    visit = visit_at entry;
    there = refl;
    at = sym (entry_is begins);
  })),
  (λ starts. inl (subst (BeginsAt img owner) (at_entry (subst (λ (ys : List Visit). StartsAt ys to) is starts)) here)),
)
  where
    entry_is : BeginsHere img owner to → to ≡ entry
    entry_is (inl begins) = only to begins
    entry_is (inr from) = absurd (other_owner from.3.line.0 from.0.owner owner no_thread from.4
        (sym from.3.owner ∙ from.5))

    at_entry : StartsAt (visit_at entry ∷ []) to → entry ≡ to
    at_entry starts =
        let below = starts.below in
        let first : starts.index ≡ 0 = omega (arith, below) in
        let there : Some (visit_at entry) ≡ Some starts.visit =
        sym (ap (slice_get (visit_at entry ∷ [])) first) ∙ starts.there in
        let is_it : visit_at entry ≡ starts.visit = cc in
        ap (λ (x : Visit). x.address) is_it ∙ starts.at

pub starting_begins : (img : Image) (a : ℕ) → BeginsAt img Starting a → a ≡ 0
starting_begins img a is = is

pub handler_begins : (img : Image) (index : ℕ) (h : Handler) → handler_at img index ≡ Some h → (a : ℕ)
    → BeginsAt img (Handling index) a → a ≡ h.entry
handler_begins img index h is a (other, there, at) =
    let e : Some other ≡ Some h = sym there ∙ is in
    let same : other ≡ h = cc in
    sym at ∙ ap (λ (x : Handler). x.entry) same
