-- What resources and queues hold at reset.
use Rattle.std.proofs.Common.{◌≡◌, ℕ, zero, suc, List, [], ◌∷◌, ◌++◌, get_or, map, replicate, option_map}
use Rattle.std.proofs.Common.{refl, ap, ◌∙◌}
use Rattle.std.specs.List.{slice_get}
use Rattle.rt_ids.specs.Lists.{or_zero}
use Rattle.rt_actions.specs.Location.{Location, Guarded, Own}
use Rattle.rt_actions.specs.Content.{Message, Number, Messages, Delays, nothing_armed}
use Rattle.rt_ids.specs.declared.ids.Section.TheVariants as section
use Rattle.rt_app.specs.Tree.{App}
use Rattle.rt_laws.specs.State.{first_values}
use Rattle.rt_baker_work.specs.Store.{Store, contents}

-- copies of a thing, read with the same thing for none
pub copies_read : {X : Type 0} (x : X) (n i : ℕ) → get_or (replicate n x) i x ≡ x
copies_read x zero i = refl
copies_read x (suc n) zero = refl
copies_read x (suc n) (suc i) = copies_read x n i

-- numbers of things, with zeros behind them
padded_read : {X : Type 0} (f : X → ℕ) (xs : List X) (n i : ℕ)
    → get_or (map f xs ++ replicate n 0) i 0 ≡ or_zero (option_map f (slice_get xs i))
padded_read f [] n i = copies_read 0 n i
padded_read f (x ∷ xs) n zero = refl
padded_read f (x ∷ xs) n (suc i) = padded_read f xs n i

pub reset_contents : (app : App) (s : Store) (n : ℕ)
    → s.shared ≡ map (λ r. r.first) app.shared ++ replicate n 0
    → s.locals ≡ map (λ r. r.first) app.locals ++ replicate n 0 → s.out ≡ replicate n 0
    → s.ready ≡ replicate n [] → s.timed ≡ nothing_armed → contents s ≡ first_values app
unfolding contents
reset_contents app s n shared locals out ready timed = λ i h. each h i
  where
    each : (h : Location) → contents s h ≡ first_values app h
    each (Guarded (section.Res r)) =
        ap Number (ap (λ (l : List ℕ). get_or l r 0) shared ∙ padded_read (λ r. r.first) app.shared n r)
    each (Guarded (section.Free t)) = ap Number (ap (λ (l : List ℕ). get_or l t 0) out ∙ copies_read 0 n t)
    each (Guarded (section.Ready p)) =
        ap Messages (ap (λ (l : List (List Message)). get_or l p []) ready ∙ copies_read [] n p)
    each (Guarded section.Timer) = ap Delays timed
    each (Own l) =
        ap Number (ap (λ (ns : List ℕ). get_or ns l 0) locals ∙ padded_read (λ r. r.first) app.locals n l)
