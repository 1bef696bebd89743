-- The parts of an image that `build` makes, apart from one another: each has its addresses, and the others begin before
-- them or behind them.
use Rattle.std.proofs.Common.{◌≡◌, ◌⊎◌, ℕ, ◌+◌, ◌<◌, ◌≤◌, Bool, true, false, not, List, [], ◌∷◌, ◌++◌, length, map}
use Rattle.std.proofs.Common.{slice_get, Contains, Option, Some, None, IsSome, refl, sym, ap, subst, ◌∙◌, arith, inl}
use Rattle.std.proofs.Common.{inr, append_assoc, if◌then◌else◌}
use Rattle.std.specs.List.{AllByRecursion}
use Rattle.std.proofs.lemmas.Option.{none-some}
use Rattle.rt_lemmas.proofs.Indices.{at_either}
use Rattle.rt_lemmas.proofs.Lists.{all_map, all_append}
use Rattle.rt_lemmas.proofs.Membership.{all_weaker, all_from_members}
use Rattle.rt_ids.specs.declared.ids.BodyId.TheVariants as body
use Rattle.rt_app.specs.declared.app.Mono.{Mono}
use Rattle.rt_app.specs.Level.{is_software, levels}
use Rattle.rt_app.specs.Tree.{Task, App}
use Rattle.rt_gen_queue.specs.Line.{Line}
use Rattle.rt_build.specs.Built.{IsPartAt}
use Rattle.rt_build.specs.Entries.{Entries}
use Rattle.rt_build.specs.Order.{CodePart, OfBody, OfLevel, OfTimer, begin_of, task_parts, timer_parts, free_parts}
use Rattle.rt_build.specs.Order.{AreAbutting}

-- the parts that are entered by a table: all but `init` and `idle`
abbrev pub entered : App → List CodePart
entered app = task_parts (λ t. not (is_software t)) 0 app.tasks ++ free_parts app

-- what is known of each of them
abbrev pub IsKnown : App → CodePart → Type 0
IsKnown app (OfBody body.Init) = ⊥
IsKnown app (OfBody body.Idle) = ⊥
IsKnown app (OfBody (body.Task n)) = Unit {0}
IsKnown app (OfLevel p) = Contains (levels app) p
IsKnown app OfTimer = IsSome app.mono

tasks_known : (app : App) (test : Task → Bool) (n : ℕ) (ts : List Task)
    → AllByRecursion (IsKnown app) (task_parts test n ts)
tasks_known app test n [] = tt
tasks_known app test n (t ∷ ts) =
    all_append (IsKnown app) (if test t then OfBody (body.Task n) ∷ [] else []) (task_parts test (n + 1) ts)
    (go (test t)) (tasks_known app test (n + 1) ts)
  where
    go : (b : Bool) → AllByRecursion (IsKnown app) (if b then OfBody (body.Task n) ∷ [] else [])
    go true = (tt, tt)
    go false = tt

timer_known : (app : App) (o : Option Mono) → app.mono ≡ o → AllByRecursion (IsKnown app) (timer_parts o)
timer_known app None is = tt
timer_known app (Some mono) is = (subst (λ m. IsSome m) (sym is) refl, tt)

pub entered_known : (app : App) → AllByRecursion (IsKnown app) (entered app)
entered_known app =
    all_append (IsKnown app) (task_parts (λ t. not (is_software t)) 0 app.tasks) (free_parts app)
    (tasks_known app (λ t. not (is_software t)) 0 app.tasks)
    (all_append (IsKnown app) (task_parts is_software 0 app.tasks) (map OfLevel (levels app) ++ timer_parts app.mono)
    (tasks_known app is_software 0 app.tasks)
    (all_append (IsKnown app) (map OfLevel (levels app)) (timer_parts app.mono)
    (all_map OfLevel (λ p. Contains (levels app) p) (IsKnown app) (λ p is. is) (levels app)
    (all_from_members (λ p. Contains (levels app) p) (levels app) (λ p is. is))) (timer_known app app.mono refl)))

module _ (app : App) (at : Entries) where
  -- where another part begins, beside a part with these addresses
  abbrev pub IsApart : CodePart → ℕ → ℕ → CodePart → Type 0
  IsApart part from behind other =
      (begin_of at other < from) ⊎ ((other ≡ part) ⊎ (behind ≤ begin_of at other))

  -- a part with its lines, from an address on, beside others
  pub record IsRegion (all : List CodePart) (part : CodePart) (from : ℕ) (own : List Line) : Type 0 where
    pub is : IsPartAt app at part from own
    pub some : 1 ≤ length own
    pub apart : AllByRecursion (IsApart part from (from + length own)) all

  -- parts begin behind those before them
  pub begin_behind : (from : ℕ) (parts : List CodePart) (lines : List Line)
      → AreAbutting (IsPartAt app at) from parts lines
      → AllByRecursion (λ q. from ≤ begin_of at q) parts
  begin_behind from [] lines abut = tt
  begin_behind from (part ∷ parts) lines (own, more, is, here, rest) =
      let first = here.begins in (
        omega (arith, first),
        all_weaker (λ q. from + length own ≤ begin_of at q) (λ q. from ≤ begin_of at q)
            (λ q later. omega (arith, later))
            parts (begin_behind (from + length own) parts more rest),
      )

  -- parts that lie one after the other, each of some lines, are apart
  pub regions : (before : List CodePart) (from : ℕ) (parts : List CodePart) (lines : List Line)
      → AllByRecursion (λ q. begin_of at q < from) before
      → AllByRecursion (λ q. (from : ℕ) (own : List Line) → IsPartAt app at q from own → 1 ≤ length own) parts
      → AreAbutting (IsPartAt app at) from parts lines → AreAbutting (IsRegion (before ++ parts)) from parts lines
  regions before from [] lines earlier some abut = abut
  regions before from (part ∷ parts) lines earlier (one, others) (own, more, is, here, rest) =
      let first = here.begins in
      let long = one from own here in
      let behind : ℕ = from + length own in
      let later = begin_behind behind parts more rest in
      let Apart : CodePart → Type 0 = IsApart part from behind in
      let further : AllByRecursion (λ q. begin_of at q < behind) (before ++ part ∷ []) =
      all_append (λ q. begin_of at q < behind) before (part ∷ [])
      (all_weaker (λ q. begin_of at q < from) (λ q. begin_of at q < behind) (λ q less. omega (arith, less)) before
      earlier) (omega (arith, first, long), tt) in (
        own,
        more,
        is,
        record {
          is = here;
          some = long;
          apart = all_append Apart before (part ∷ parts)
              (all_weaker (λ q. begin_of at q < from) Apart (λ q less. inl less) before earlier)
              (inr (inl refl), all_weaker (λ q. behind ≤ begin_of at q) Apart (λ q past. inr (inr past)) parts later);
        },
        subst (λ (all : List CodePart). AreAbutting (IsRegion all) behind parts more)
            (append_assoc before (part ∷ []) parts)
            (regions (before ++ part ∷ []) behind parts more further others rest),
      )

-- each part has its lines
pub each_part : (P : CodePart → ℕ → List Line → Type 0) (from : ℕ) (parts : List CodePart) (lines : List Line)
    → AreAbutting P from parts lines → AllByRecursion (λ q. (from : ℕ) × (own : List Line) × P q from own) parts
each_part P from [] lines abut = tt
each_part P from (part ∷ parts) lines (own, more, is, here, rest) =
    ((from, own, here), each_part P (from + length own) parts more rest)

-- a line is one of a part
pub record IsOfPart (K : CodePart → Type 0) (P : CodePart → ℕ → List Line → Type 0) (n : ℕ) (line : Line) : Type 0 where
  pub part : CodePart
  pub known : K part
  pub from : ℕ
  pub own : List Line
  pub is : P part from own
  pub index : ℕ
  pub at : n ≡ from + index
  pub there : slice_get own index ≡ Some line

pub part_at : (K : CodePart → Type 0) (P : CodePart → ℕ → List Line → Type 0) (from : ℕ) (parts : List CodePart)
    (lines : List Line) → AllByRecursion K parts → AreAbutting P from parts lines → (k : ℕ) (line : Line)
    → slice_get lines k ≡ Some line → IsOfPart K P (from + k) line
part_at K P from [] lines known abut k line there =
    absurd (none-some line (sym (ap (λ (ls : List Line). slice_get ls k) abut) ∙ there))
part_at K P from (part ∷ parts) lines (one, others) (own, more, is, here, rest) k line there =
    elim (at_either own more k line (sym (ap (λ (ls : List Line). slice_get ls k) is) ∙ there)) [
      | inl inside ↦ record {
        part = part;
        known = one;
        from = from;
        own = own;
        is = here;
        index = k;
        at = refl;
        there = inside.1;
      }
      | inr past ↦ by past.0 past.1 (part_at K P (from + length own) parts more others rest past.0 line past.2)
    ]
  where
    by : (j : ℕ) → k ≡ length own + j → IsOfPart K P (from + length own + j) line → IsOfPart K P (from + k) line
    by j same found =
        let e : from + length own + j ≡ from + k = omega (arith, same) in
        subst (λ n. IsOfPart K P n line) e found
