-- Code that stands, step by step; it stands before further code, and with more steps than it needs.
use Rattle.std.proofs.Common.{◌≡◌, ℕ, zero, suc, ◌-◌, ◌<◌, ◌≤◌, List, [], ◌∷◌, ◌++◌, map, drop, slice_get, Option, Some}
use Rattle.std.proofs.Common.{None, refl, subst, sym, arith}
use Rattle.std.specs.List.{AllByRecursion}
use Rattle.rt_lemmas.proofs.Indices.{get_left}
use Rattle.rt_actions.specs.Storage.{Storage, Runner}
use Rattle.rt_code.specs.Owning.{Configuration}
use Rattle.rt_code.specs.Standing.{Stands, LineFits, spend_step}
use Rattle.rt_code.specs.StandingLaws.{AreAtLeast, StandsBeforeMore, StandsWithMore}
use Rattle.rt_code.specs.declared.image.BodyRow.{BodyRow}
use Rattle.rt_code.specs.declared.instr.Instr.{Instr}
use Rattle.rt_code.specs.declared.instr.Note.{Note}
use Rattle.rt_code.proofs.Later.{Serves, Carries, line_later}

module _ (st : Storage) (code : List (Instr × Option Note)) (bodies : List BodyRow) (thread : ℕ) (who : Runner) where
  pub stands_step : (n : ℕ) (s : Configuration) → AllByRecursion (λ n. 0 < n) s.lefts
      → LineFits st code bodies thread who (slice_get code s.address) (spend_step s)
      (Stands st code bodies thread who n)
      → Stands st code bodies thread who (suc n) s
  unfolding Stands
  stands_step n s left fits = (left, fits)

  pub stands_left : (n : ℕ) (s : Configuration) → Stands st code bodies thread who (suc n) s
      → AllByRecursion (λ n. 0 < n) s.lefts
  unfolding Stands
  stands_left n s stands = stands.0

  pub stands_fits : (n : ℕ) (s : Configuration) → Stands st code bodies thread who (suc n) s
      → LineFits st code bodies thread who (slice_get code s.address) (spend_step s)
      (Stands st code bodies thread who n)
  unfolding Stands
  stands_fits n s stands = stands.1

  -- no job stands with no step left
  pub stands_none : (s : Configuration) → Stands st code bodies thread who 0 s → ⊥
  unfolding Stands
  stands_none s stands = stands

-- what is at least as great
pub least_more : (n : ℕ) (ls ms : List ℕ) → AreAtLeast ls ms → AreAtLeast (n ∷ ls) (n ∷ ms)
least_more n ls ms h = (omega arith, h)

pub least_fewer : (ls ms : List ℕ) → AreAtLeast ls ms → AreAtLeast (drop 1 ls) (drop 1 ms)
least_fewer [] [] h = h
least_fewer (l ∷ ls) (m ∷ ms) (here, h) = h
least_fewer ls ms h = absurd h

pub least_same : (ls : List ℕ) → AreAtLeast ls ls
least_same [] = tt
least_same (l ∷ ls) = (omega arith, least_same ls)

pub least_passed : (ls ms : List ℕ) → AreAtLeast ls ms → AreAtLeast (map (λ n. n - 1) ls) (map (λ n. n - 1) ms)
least_passed [] [] h = h
least_passed (l ∷ ls) (m ∷ ms) (here, h) = (omega arith, least_passed ls ms h)
least_passed ls ms h = absurd h

pub least_left : (ls ms : List ℕ) → AreAtLeast ls ms → AllByRecursion (λ n. 0 < n) ls → AllByRecursion (λ n. 0 < n) ms
least_left [] [] h left = left
least_left (l ∷ ls) (m ∷ ms) (here, h) (some, left) = (omega arith, least_left ls ms h left)
least_left ls ms h left = absurd h

pub least_serves : Serves AreAtLeast
least_serves = record { more = least_more; fewer = least_fewer }

-- each line of the code stands at its address in other code
pub record HasLines (code other : List (Instr × Option Note)) : Type 0 where
  pub at : (k : ℕ) (line : Instr × Option Note) → slice_get code k ≡ Some line → slice_get other k ≡ Some line

pub has_front : (code more : List (Instr × Option Note)) → HasLines code (code ++ more)
has_front code more = record { at = λ k line h. get_left code more k line h }

module _ (st : Storage) (bodies : List BodyRow) (thread : ℕ) (who : Runner)
    (code more : List (Instr × Option Note)) where
  line_there : (a b : Option (Instr × Option Note)) (s : Configuration) (later : Configuration → Type 0)
      → ((line : Instr × Option Note) → a ≡ Some line → b ≡ Some line)
      → LineFits st more bodies thread who a s later → LineFits st more bodies thread who b s later
  line_there None b s later there fits = absurd fits
  line_there (Some line) b s later there fits = subst (λ l. LineFits st more bodies thread who l s later)
      (sym (there line refl)) fits

  -- code with the same lines and more, more steps and greater `lefts` serve
  pub stands_more : HasLines code more → (n m : ℕ) (s : Configuration) (lefts : List ℕ) → n ≤ m
      → AreAtLeast s.lefts lefts
      → Stands st code bodies thread who n s → Stands st more bodies thread who m (record s { lefts = lefts })
  stands_more has zero m s lefts steps least stands = absurd (stands_none st code bodies thread who s stands)
  stands_more has (suc n) zero s lefts steps least stands = absurd (omega arith)
  stands_more has (suc n) (suc m) s lefts steps least stands =
      let steps : n ≤ m = omega arith in
      let carry : Carries AreAtLeast (Stands st code bodies thread who n) (Stands st more bodies thread who m) =
      λ t ls h. stands_more has n m t ls steps h in
      stands_step st more bodies thread who m (record s { lefts = lefts })
      (least_left s.lefts lefts least (stands_left st code bodies thread who n s stands))
      (line_there (slice_get code s.address) (slice_get more s.address) _ _ (has.at s.address)
      (line_later st bodies who AreAtLeast least_serves _ _ carry code more thread (slice_get code s.address)
      (spend_step s) (map (λ n. n - 1) lefts)
      (least_passed s.lefts lefts least) (stands_fits st code bodies thread who n s stands)))

-- The laws: further code behind it changes nothing of code that stands, and more steps and greater `lefts` serve.
module _ (st : Storage) (bodies : List BodyRow) (thread : ℕ) (who : Runner) where
  pub stands_before_more : StandsBeforeMore st bodies thread who
  stands_before_more code more n s stands =
      let same : n ≤ n = omega arith in
      stands_more st bodies thread who code (code ++ more) (has_front code more) n n s s.lefts same (least_same s.lefts)
      stands

  pub stands_with_more : StandsWithMore st bodies thread who
  stands_with_more code n m s lefts steps least stands =
      stands_more st bodies thread who code code (record { at = λ k line h. h }) n m s lefts steps least stands
