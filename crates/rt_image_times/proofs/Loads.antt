-- What handlers ask for has small numbers.
use Rattle.std.proofs.Common.{◌≡◌, ℕ, zero, suc, ◌+◌, ◌≤◌, ◌<◌, ◌==◌, Bool, true, false, List, []}
use Rattle.std.proofs.Common.{◌∷◌, ◌++◌, map, find, length, get_or, take, option_map, option_to_list, Option}
use Rattle.std.proofs.Common.{Some, None, if◌then◌else◌, slice_get, refl, sym, ap, subst, ◌∙◌, arith}
use Rattle.std.specs.List.{AllByRecursion}
use Rattle.std.proofs.lemmas.List.{length-append, take_more}
use Rattle.rt_lemmas.proofs.Membership.{all_append}
use Rattle.rt_ids.specs.Lists.{then_from, those_below}
use Rattle.rt_ids.proofs.Lists.{those_next}
use Rattle.rt_code.specs.Image.{Image}
use Rattle.rt_code.specs.declared.image.IrqRow.{IrqRow}
use Rattle.rt_frames.proofs.Below.{below_none}
use Rattle.rt_rta.specs.Limits.{every_of}
use Rattle.rt_rta.specs.declared.limits.Limit.{Limit}
use Rattle.rt_bounds.specs.Bounds.{is_enabled, AreWaits, AreHandlersBounds}
use Rattle.rt_bounds.specs.Inside.Gathered.{ArePriorities}
use Rattle.rt_bounds.specs.declared.bound.HandlerBound.{HandlerBound}
use Rattle.rt_bounds.specs.declared.bound.WaitBound.{WaitBound}
use Rattle.rt_bounds.specs.declared.longest.Longest.{Longest}
use Rattle.rt_bounds.proofs.Covering.{first_priorities}
use Rattle.rt_bounds.proofs.Taking.{priorities_stay}
use Rattle.rt_image_times.specs.Limits.{AreImageLimits}
use Rattle.rt_image_times.specs.Response.{is_at, row_load, load_of, bound_loads, loads, IsTimeOf, AreTimesOf}
use Rattle.rt_image_times.specs.Inside.Sums.{IsPositive}
use Rattle.rt_image_times.specs.declared.load.Load.{Load}
use Rattle.rt_image_times.specs.declared.response.TimeBound.{TimeBound}

-- a distance of positive ones is positive
every_positive : (limits : List Limit) (irq : ℕ) → AllByRecursion (λ limit. 1 ≤ limit.every) limits
    → AllByRecursion (λ every. 1 ≤ every) (option_to_list (every_of limits irq))
every_positive [] irq all = tt
every_positive (limit ∷ limits) irq all =
    elim (limit.irq == irq) as (λ b. AllByRecursion (λ every. 1 ≤ every)
    (option_to_list (option_map (λ (l : Limit). l.every)
    (if b then Some limit else find (λ l. l.irq == irq) limits))))
    [ true ↦ (all.0, tt) | false ↦ every_positive limits irq all.1 ]

module _ (img : Image) (limits : List Limit) (value : ℕ) where
  made_positive : (own : Longest) (o : Option ℕ) → AllByRecursion (λ every. 1 ≤ every) (option_to_list o)
      → AllByRecursion IsPositive
      (option_to_list (option_map (λ every. record { every = every; longest = own }) o))
  made_positive own None all = tt
  made_positive own (Some every) all = (all.0, tt)

  row_positive : (fine : AllByRecursion (λ limit. 1 ≤ limit.every) limits) (own : Longest) (o : Option IrqRow)
      → AllByRecursion IsPositive (option_to_list (then_from o (row_load limits value own)))
  row_positive fine own None = tt
  row_positive fine own (Some row) =
      elim (is_at value row.handler) as (λ b. AllByRecursion IsPositive (option_to_list
      (if b then option_map (λ every. record { every = every; longest = own }) (every_of limits row.number)
      else None))) [
        | true ↦ made_positive own (every_of limits row.number) (every_positive limits row.number fine)
        | false ↦ tt
      ]

  all_positive : (fine : AllByRecursion (λ limit. 1 ≤ limit.every) limits) (bounds : List HandlerBound)
      → AllByRecursion IsPositive (loads img limits value bounds)
  all_positive fine [] = tt
  all_positive fine (bound ∷ bounds) =
      all_append IsPositive (bound_loads img limits value bound) (loads img limits value bounds)
      (row_positive fine bound.longest (slice_get img.irqs bound.index)) (all_positive fine bounds)

  pub loads_positive : AreImageLimits img limits → (bounds : List HandlerBound)
      → AllByRecursion IsPositive (loads img limits value bounds)
  loads_positive fine bounds = all_positive fine.positive bounds

  one_at_most : (o : Option Load) → length (option_to_list o) ≤ 1
  one_at_most None = omega arith
  one_at_most (Some load) = omega arith

  pub loads_few : (bounds : List HandlerBound) → length (loads img limits value bounds) ≤ length bounds
  loads_few [] = omega arith
  loads_few (bound ∷ bounds) =
      let both = length-append (bound_loads img limits value bound) (loads img limits value bounds) in
      let here = one_at_most (load_of img limits value bound) in
      let rest = loads_few bounds in
      omega (arith, both, here, rest)

-- those below a number are no more than it, and are below it
those_few : (test : ℕ → Bool) (n : ℕ) → length (those_below test n) ≤ n
those_few test zero = subst (λ ns. length ns ≤ 0) (sym (below_none test)) (omega arith)
those_few test (suc n) = subst (λ ns. length ns ≤ suc n) (sym (those_next test n))
    (let both = length-append (those_below test n) (if test n then n ∷ [] else []) in
    let rest = those_few test n in
    let last = one (test n) in
    omega (arith, both, rest, last))
  where
    one : (b : Bool) → length (if b then n ∷ [] else []) ≤ 1
    one true = omega arith
    one false = omega arith

-- a priority with nothing that holds it off
abbrev blank : WaitBound → WaitBound
blank wait = record { priority = wait.priority; longest = None }

blank_priorities : (waits : List WaitBound)
    → map (λ row. row.priority) (map blank waits) ≡ map (λ row. row.priority) waits
blank_priorities [] = refl
blank_priorities (wait ∷ waits) = ap (λ ps. wait.priority ∷ ps) (blank_priorities waits)

blank_waits : (waits : List WaitBound) → AllByRecursion (λ row. row.longest ≡ None) (map blank waits)
blank_waits [] = tt
blank_waits (wait ∷ waits) = (refl, blank_waits waits)

pub waits_have_priorities : (img : Image) (waits : List WaitBound) → AreWaits img waits → ArePriorities img.bits waits
waits_have_priorities img waits are =
    priorities_stay img.bits (map blank waits) waits (sym (blank_priorities waits))
    (first_priorities img (map blank waits)
    (record { used = blank_priorities waits ∙ are.used; none = blank_waits waits }))

map_long : (rows : List HandlerBound) → length (map (λ row. row.index) rows) ≡ length rows
map_long [] = refl
map_long (row ∷ rows) = ap suc (map_long rows)

pub handlers_few : (img : Image) (rows : List HandlerBound) → AreHandlersBounds img rows
    → length rows ≤ length img.irqs
handlers_few img rows are =
    let same = map_long rows in
    let told = ap (λ (ns : List ℕ). length ns) are.enabled in
    let few = those_few (is_enabled img) (length img.irqs) in
    omega (arith, same, told, few)

-- a row more
module _ (img : Image) (limits : List Limit) (bounds : List HandlerBound) where
  times_more : (waits : List WaitBound) (rows : List TimeBound) (wait : WaitBound) (row : TimeBound)
      → AreTimesOf img limits bounds waits rows → IsTimeOf img limits bounds wait row
      → AreTimesOf img limits bounds (waits ++ wait ∷ []) (rows ++ row ∷ [])
  times_more [] [] wait row so_far here = (here, tt)
  times_more [] (r ∷ rows) wait row so_far here = absurd so_far
  times_more (w ∷ waits) [] wait row so_far here = absurd so_far
  times_more (w ∷ waits) (r ∷ rows) wait row so_far here =
      (so_far.0, times_more waits rows wait row so_far.1 here)

  pub times_next : (waits : List WaitBound) (i : ℕ) (d : WaitBound) (rows after : List TimeBound)
      (row : TimeBound) → i < length waits → AreTimesOf img limits bounds (take i waits) rows
      → IsTimeOf img limits bounds (get_or waits i d) row → after ≡ rows ++ row ∷ []
      → AreTimesOf img limits bounds (take (i + 1) waits) after
  times_next waits i d rows after row within so_far here is =
      subst (AreTimesOf img limits bounds (take (i + 1) waits)) (sym is)
      (subst (λ ws. AreTimesOf img limits bounds ws (rows ++ row ∷ [])) (sym (take_more waits i d within))
      (times_more (take i waits) rows (get_or waits i d) row so_far here))
