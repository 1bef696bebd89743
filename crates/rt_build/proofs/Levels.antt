-- The levels of software tasks by their indices: they rise, so that each stands at one index, and as many are above one
-- as come after it.
use Rattle.std.proofs.Common.{◌≡◌, ℕ, zero, suc, ◌-◌, ◌<◌, ◌==◌, false, List, [], ◌∷◌, length, filter}
use Rattle.std.proofs.Common.{map, Option, Some, None, option_map, IsSome, slice_get, Contains, refl, sym}
use Rattle.std.proofs.Common.{ap, subst, ◌∙◌, arith, if◌then◌else◌}
use Rattle.std.specs.Prelude.{nat_lt, position}
use Rattle.std.specs.List.{AllByRecursion, list_any}
use Rattle.std.proofs.lemmas.Bool.{lt-ltb, le-ltb}
use Rattle.std.proofs.lemmas.List.{length-map}
use Rattle.std.proofs.lemmas.Option.{same_Some, none-some, slice_get-map, slice_get_within}
use Rattle.rt_lemmas.proofs.Lists.{position_of_key, is_some_within}
use Rattle.rt_lemmas.proofs.Membership.{all_at, all_has}
use Rattle.rt_ids.specs.Lists.{AreDifferent}
use Rattle.rt_ids.specs.declared.ids.Section.TheVariants as section
use Rattle.rt_app.specs.declared.app.Dispatcher.{Dispatcher}
use Rattle.rt_app.specs.declared.ceilings.ReadyCeiling.{ReadyCeiling}
use Rattle.rt_app.specs.declared.costs.TheConstants.{PRIORITIES}
use Rattle.rt_app.specs.declared.plan.Plan.{Plan}
use Rattle.rt_app.specs.Tree.{App}
use Rattle.rt_app.specs.Acceptance.{IsSound}
use Rattle.rt_app.specs.Ceiling.{Ceilings, ceiling}
use Rattle.rt_app.specs.Handlers.{dispatcher_of}
use Rattle.rt_app.specs.Level.{is_of_level, levels}
use Rattle.rt_app.specs.Plan.{IsPlan}
use Rattle.rt_app.specs.View.{app_of}
use Rattle.rt_app.proofs.Different.{contained, different_none, different_cons}
use Rattle.rt_app.proofs.Members.{made_of}
use Rattle.rt_app.proofs.Rising.{IsRising, those_rise, above}

rising_differ : (ps : List ℕ) → IsRising ps → AreDifferent ps
rising_differ [] rising = different_none
rising_differ (p ∷ ps) rising =
    different_cons p ps (λ is. absurd (never (all_has (λ q. p < q) ps p rising.0 is))) (rising_differ ps rising.1)
  where
    never : p < p → ⊥
    never less = omega arith

-- all are above a lesser number
all_above : (p : ℕ) (ps : List ℕ) → AllByRecursion (λ q. p < q) ps → above p ps ≡ length ps
all_above p [] all = refl
all_above p (q ∷ ps) all =
    ap (λ b. length (if b then q ∷ filter (nat_lt p) ps else filter (nat_lt p) ps)) (lt-ltb p q all.0)
    ∙ ap suc (all_above p ps all.1)

-- those after one are above it
above_index : (ps : List ℕ) (k p : ℕ) → IsRising ps → slice_get ps k ≡ Some p → above p ps ≡ length ps - 1 - k
above_index [] k p rising at = absurd (none-some p at)
above_index (q ∷ ps) zero p rising at =
    let same : q ≡ p = same_Some q p at in
    let own : nat_lt p q ≡ false = le-ltb p q (omega arith) in
    let rest : above p ps ≡ length ps = all_above p ps (subst (λ r. AllByRecursion (λ s. r < s) ps) same rising.0) in
    ap (λ b. length (if b then q ∷ filter (nat_lt p) ps else filter (nat_lt p) ps)) own ∙ omega (arith, rest)
above_index (q ∷ ps) (suc k) p rising at =
    let less : q < p = all_at (λ s. q < s) ps k p rising.0 at in
    let own : nat_lt p q ≡ false = le-ltb p q (omega arith) in
    let within : k < length ps = slice_get_within ps k p at in
    ap (λ b. length (if b then q ∷ filter (nat_lt p) ps else filter (nat_lt p) ps)) own
    ∙ omega (arith, above_index ps k p rising.1 at)

module _ (app : App) where
  levels_rise : IsRising (levels app)
  levels_rise = those_rise (λ p. list_any (is_of_level p) app.tasks) PRIORITIES

  module _ (k p : ℕ) (there : slice_get (levels app) k ≡ Some p) where
    -- a level at an index is one
    pub is_level : Contains (levels app) p
    is_level = contained (levels app) k p there

    -- and it stands at no other index
    pub index_is : position (λ q. q == p) (levels app) ≡ Some k
    index_is =
        position_of_key (λ q. q) (levels app) k p there
        (λ j q at same. rising_differ (levels app) levels_rise j k p (at ∙ ap Some same) there)

    -- its interrupt is that of the dispatcher that is named after as many as there are higher levels
    module _ (sound : IsSound app) where
      abbrev behind : ℕ
      behind = length (levels app) - 1 - k

      by_index : dispatcher_of app p ≡ option_map (λ d. d.irq) (slice_get app.dispatchers behind)
      by_index =
          ap (λ n. option_map (λ d. d.irq) (slice_get app.dispatchers n))
          (above_index (levels app) k p levels_rise there)

      pub dispatcher_there : behind < length app.dispatchers
      dispatcher_there =
          is_some_within app.dispatchers behind
          (is_some_mapped (slice_get app.dispatchers behind) (subst IsSome by_index (sound.dispatched p is_level)))
        where
          is_some_mapped : (o : Option Dispatcher) → IsSome (option_map (λ d. d.irq) o) → IsSome o
          is_some_mapped None is = is
          is_some_mapped (Some d) is = refl

      pub dispatcher_is : (d : Dispatcher) → slice_get app.dispatchers behind ≡ Some d
          → dispatcher_of app p ≡ Some d.irq
      dispatcher_is d at = by_index ∙ ap (option_map (λ d. d.irq)) at

-- the rows of ready queues are those of the levels
module _ (plan : Plan) (planned : IsPlan plan) (rows : List ReadyCeiling) (are : rows ≡ plan.ceil.ready) where
  abbrev app : App
  app = app_of plan.app.now

  abbrev row_of_level : ℕ → ReadyCeiling
  row_of_level p = record { level = p; ceiling = ceiling app (section.Ready p) }

  rows_are : rows ≡ map row_of_level (levels app)
  rows_are = are ∙ ap (λ (c : Ceilings). c.ready) planned.ceilings

  pub as_many : length rows ≡ length (levels app)
  as_many = ap (λ (rs : List ReadyCeiling). length rs) rows_are ∙ length-map (levels app) row_of_level

  pub level_at : (k : ℕ) (row : ReadyCeiling) → slice_get rows k ≡ Some row → slice_get (levels app) k ≡ Some row.level
  level_at k row at =
      let one = made_of row_of_level (slice_get (levels app) k) row
      (sym (slice_get-map row_of_level (levels app) k) ∙ (ap (λ (rs : List ReadyCeiling). slice_get rs k) (sym rows_are)
      ∙ at)) in
      one.1 ∙ ap (λ (r : ReadyCeiling). Some r.level) one.2
