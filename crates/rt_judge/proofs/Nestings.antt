-- Nestings in a list that grows, and the spots of visits that name them.
use Rattle.std.proofs.Common.{◌≡◌, ◌≤◌, ◌<◌, ◌+◌, ◌-◌, ℕ, List, [], ◌∷◌, ◌++◌, length, take, drop}
use Rattle.std.proofs.Common.{slice_range, refl, sym, ap}
use Rattle.std.proofs.Common.{◌∙◌, arith}
use Rattle.std.proofs.Common.{append_assoc, append-nil, length-append, length-drop}
use Rattle.std.proofs.Math.Seq.{drop-append_seam}
use Rattle.std.proofs.lemmas.List.{take-append-le, drop-append-le, take_all, drop-take, drop-drop}
use Rattle.rt_points.specs.declared.point.Opened.{Opened}
use Rattle.rt_judge.specs.Inside.Nestings.{inside_of, Stands, Grows, IsSaid}
use Rattle.rt_judge.specs.Inside.Visits.{Spot, spot_in, spots, AllStand}
use Rattle.rt_judge.specs.declared.nesting.Nesting.{Nesting}
use Rattle.rt_judge.specs.declared.walk.Visit.{Visit}

-- a nesting of a list is the same in one that has grown
module _ (old new : List Opened) (grows : Grows old new) where
  pub stands_on : (n : Nesting) → Stands old n → Stands new n
  stands_on n stands =
      let long : length new ≡ length old + length grows.more = ap length grows.is ∙ length-append old grows.more in
      record { starts = stands.starts; ends = let e = stands.ends in omega (arith, long, e) }

  pub same_inside : (n : Nesting) → Stands old n → inside_of new n ≡ inside_of old n
  same_inside n stands =
      let from : n.start ≤ length old = let s = stands.starts in let e = stands.ends in omega (arith, s, e) in
      let rest : n.end - n.start ≤ length (drop n.start old) =
      let s = stands.starts in let e = stands.ends in let d = length-drop n.start old in omega (arith, s, e, d) in
      ap (λ (xs : List Opened). slice_range xs n.start n.end) grows.is
      ∙ ap (take (n.end - n.start)) (drop-append-le n.start old grows.more from)
      ∙ take-append-le (n.end - n.start) (drop n.start old) grows.more rest

  pub same_spots : (visits : List Visit) → AllStand old visits → spots new visits ≡ spots old visits
  same_spots [] all = refl
  same_spots (visit ∷ visits) all =
      ap (λ (inside : List Opened). record { address = visit.address; inside = inside } ∷ spots new visits)
      (same_inside visit.nesting all.0)
      ∙ ap (λ (ss : List Spot). spot_in old visit ∷ ss) (same_spots visits all.1)

  pub all_stand : (visits : List Visit) → AllStand old visits → AllStand new visits
  all_stand [] all = tt
  all_stand (visit ∷ visits) all = (stands_on visit.nesting all.0, all_stand visits all.1)

pub same_grows : (opened : List Opened) → Grows opened opened
same_grows opened = record { more = []; is = sym (append-nil opened) }

-- what is put behind the others
last_range : (old more : List Opened) → slice_range (old ++ more) (length old) (length (old ++ more)) ≡ more
last_range old more =
    let rest = length (old ++ more) - length old in
    let long : length more ≤ rest = let e = length-append old more in omega (arith, e) in
    ap (take rest) (drop-append_seam old more) ∙ take_all rest more long

-- one more section, and behind it what was open
pub said_enter : (old new : List Opened) (n : Nesting) (o : Opened) → Stands old n
    → new ≡ (old ++ o ∷ []) ++ slice_range (old ++ o ∷ []) n.start n.end
    → IsSaid old new (record { start = length old; end = length new }) (o ∷ inside_of old n)
said_enter old new n o stands is =
    let one : Grows old (old ++ o ∷ []) = record { more = o ∷ []; is = refl } in
    let inside : List Opened = inside_of old n in
    let whole : new ≡ old ++ o ∷ inside =
    is ∙ ap (λ (xs : List Opened). (old ++ o ∷ []) ++ xs) (same_inside old (old ++ o ∷ []) one n stands)
    ∙ append_assoc old (o ∷ []) inside in
    let long : length new ≡ length old + length (o ∷ inside) = ap length whole ∙ length-append old (o ∷ inside) in
    record {
      grows = record { more = o ∷ inside; is = whole };
      stands = record { starts = omega (arith, long); ends = omega arith };
      is = ap (λ (xs : List Opened). slice_range xs (length old) (length xs)) whole ∙ last_range old (o ∷ inside);
    }

pub spots_more : (opened : List Opened) (visits : List Visit) (visit : Visit)
    → spots opened (visits ++ visit ∷ []) ≡ spots opened visits ++ spot_in opened visit ∷ []
spots_more opened [] visit = refl
spots_more opened (first ∷ visits) visit =
    ap (λ (ss : List Spot). spot_in opened first ∷ ss) (spots_more opened visits visit)

-- a nesting without its innermost section
outer_range : (opened : List Opened) (a b : ℕ) → a < b → slice_range opened (a + 1) b ≡ drop 1 (slice_range opened a b)
outer_range opened a b some =
    let rest = b - (a + 1) in
    let one_more : b - a ≡ 1 + rest = omega (arith, some) in
    sym (ap (λ k. drop 1 (take k (drop a opened))) one_more ∙ drop-take 1 rest (drop a opened)
    ∙ ap (take rest) (drop-drop 1 a opened))

no_range : (opened : List Opened) (a b : ℕ) → b ≤ a → slice_range opened a b ≡ drop 1 (slice_range opened a b)
no_range opened a b none = let e : b - a ≡ 0 = omega (arith, none) in rw e refl

pub left_some : (opened : List Opened) (n : Nesting) → n.start < n.end → Stands opened n
    → Stands opened (record { start = n.start + 1; end = n.end })
    × (inside_of opened (record { start = n.start + 1; end = n.end }) ≡ drop 1 (inside_of opened n))
left_some opened n some stands = (
  record { starts = omega (arith, some); ends = stands.ends },
  outer_range opened n.start n.end some,
)

pub left_none : (opened : List Opened) (n : Nesting) → n.end ≤ n.start → Stands opened n
    → Stands opened n × (inside_of opened n ≡ drop 1 (inside_of opened n))
left_none opened n none stands = (stands, no_range opened n.start n.end none)
