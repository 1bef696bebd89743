-- How a walk goes on from one spot to the next.
use Rattle.std.proofs.Common.{◌≡◌, ◌≢◌, ◌⊎◌, ◌<◌, ◌≤◌, ◌+◌, ◌*◌, ℕ, suc, Bool, true, false, not, List, [], ◌∷◌, ◌++◌}
use Rattle.std.proofs.Common.{map, length, refl, sym, ap, subst, inl, inr, ⊎_elim, ◌∙◌, arith, Option, Some, None}
use Rattle.std.proofs.Common.{slice_get}
use Rattle.std.specs.List.{AllByRecursion, Contains}
use Rattle.std.proofs.lemmas.Bool.{cases_eq}
use Rattle.std.proofs.lemmas.List.{length-map}
use Rattle.std.proofs.lemmas.List.Elements.{Contains-append_left, Contains-append_right, Contains-push_cases}
use Rattle.std.proofs.lemmas.List.Elements.{Contains-push}
use Rattle.rt_code.specs.Image.{Image}
use Rattle.rt_code.specs.declared.instr.Instr.{Instr}
use Rattle.rt_code.specs.declared.instr.Instr.TheVariants as instr
use Rattle.rt_code.specs.declared.instr.Note.{Note}
use Rattle.rt_lemmas.proofs.Membership.{contains_here, contains_there, contains_cases, contains_none, all_append}
use Rattle.rt_points.specs.Point.{Point}
use Rattle.rt_points.specs.declared.point.Owner.{Owner}
use Rattle.rt_points.specs.declared.point.Owner.TheVariants.{Thread}
use Rattle.rt_points.specs.declared.point.Opened.{Opened}
use Rattle.rt_points.specs.Leading.{IsPoint, Leads, LeadsTo, LeadsOn, owner_after}
use Rattle.rt_points.specs.declared.rule.TheConstants.{MOST_OPEN}
use Rattle.rt_judge.specs.Inside.Exits.{targets, ends_init}
use Rattle.rt_judge.specs.Inside.Visits.{Spot, point_of, spot_of}
use Rattle.rt_judge.specs.Inside.Walks.{Reached, Has, ArePoints, IsAdded, IsReachedOrWaits, IsWalking, IsWalked, next}
use Rattle.rt_judge.specs.Inside.Walks.{next_spots, waits_by, behind_by, waits, goes_behind, if_so}
use Rattle.rt_judge.proofs.ExitLists.{leads_listed, listed_leads, ends, goes_on, stays, leaves}
use Rattle.rt_judge.proofs.Seen.{all_front, all_last}

abbrev Line : Type 0
Line = Instr × Option Note

-- where a spot leads to stands in the list
pub contains_map : {X Y : Type 0} (f : X → Y) (xs : List X) (x : X) → Contains xs x → Contains (map f xs) (f x)
contains_map f [] x is = absurd (contains_none x is)
contains_map f (y ∷ xs) x is = elim (contains_cases y xs x is) [
  | inl same ↦ subst (λ z. Contains (f y ∷ map f xs) (f z)) same (contains_here (f y) (map f xs))
  | inr behind ↦ contains_there (f y) (map f xs) (f x) (contains_map f xs x behind)
]

leads_next : (img : Image) (owner : Owner) (spot : Spot) (q : Point) (to : LeadsTo img (point_of owner spot) q)
    → Contains (next_spots to.line spot) (spot_of q)
leads_next img owner spot q to =
    let there : Contains (next_spots to.line spot) (next to.line spot.inside q.address) =
    contains_map (next to.line spot.inside) (targets to.line.0 spot.address) q.address
    (leads_listed to.line.0 spot.address q.address to.address) in
    subst (λ (n : List Opened). Contains (next_spots to.line spot) (record { address = q.address; inside = n }))
    (sym to.inside) there

-- and what stands in the list is a point
next_is_point : (img : Image) (owner : Owner) (spot : Spot) (line : Line) → slice_get img.code spot.address
    ≡ Some line
    → IsPoint img (point_of owner spot) → (tos : List ℕ) → AllByRecursion (λ to. LeadsOn line.0 spot.address to) tos
    → ArePoints img (owner_after line.0 owner) (map (next line spot.inside) tos)
next_is_point img owner spot line stands point [] all = tt
next_is_point img owner spot line stands point (to ∷ tos) all = (
  Leads (point_of owner spot) (point_of (owner_after line.0 owner) (next line spot.inside to)) point
      (record { line = line; stands = stands; address = all.0; owner = refl; inside = refl }),
  next_is_point img owner spot line stands point tos all.1,
)

waits_are_points : (img : Image) (owner : Owner) (spot : Spot) (line : Option Line)
    → slice_get img.code spot.address ≡ line → IsPoint img (point_of owner spot)
    → ArePoints img owner (waits_by line owner spot)
waits_are_points img owner spot None stands point = tt
waits_are_points img owner spot (Some line) stands point =
    elim (ends_init line.0 owner) as (λ b. ends_init line.0 owner ≡ b
    → ArePoints img owner (if_so (not b) (next_spots line spot))) [
      | true ↦ λ e. tt
      | false ↦ λ e. subst (λ o. ArePoints img o (next_spots line spot)) (goes_on line.0 owner e)
          (next_is_point img owner spot line stands point (targets line.0 spot.address)
          (listed_leads line.0 spot.address))
    ] refl

thread_behind : (i : Instr) (owner : Owner) → ends_init i owner ≡ true → owner_after i owner ≡ Thread
thread_behind i owner e = let both = ends i owner e in rw (both.0, both.1) refl

behind_are_points : (img : Image) (owner : Owner) (spot : Spot) (line : Option Line)
    → slice_get img.code spot.address ≡ line → IsPoint img (point_of owner spot)
    → ArePoints img Thread (behind_by line owner spot)
behind_are_points img owner spot None stands point = tt
behind_are_points img owner spot (Some line) stands point =
    elim (ends_init line.0 owner) as (λ b. ends_init line.0 owner ≡ b
    → ArePoints img Thread (if_so b (next_spots line spot))) [
      | true ↦ λ e. subst (λ o. ArePoints img o (next_spots line spot)) (thread_behind line.0 owner e)
          (next_is_point img owner spot line stands point (targets line.0 spot.address)
          (listed_leads line.0 spot.address))
      | false ↦ λ e. tt
    ] refl

-- what a spot leads to waits, or goes on behind
leads_waits : (img : Image) (owner : Owner) (spot : Spot) (q : Point) → LeadsTo img (point_of owner spot) q
    → q.owner ≡ owner → Contains (waits img owner spot) (spot_of q)
leads_waits img owner spot q to mine =
    let same = stays to.line.0 owner (sym to.owner ∙ mine) in
    subst (λ (line : Option Line). Contains (waits_by line owner spot) (spot_of q)) (sym to.stands)
    (subst (λ b. Contains (if_so (not b) (next_spots to.line spot)) (spot_of q)) (sym same)
    (leads_next img owner spot q to))

leads_behind : (img : Image) (owner : Owner) (spot : Spot) (q : Point) → LeadsTo img (point_of owner spot) q
    → q.owner ≢ owner → Contains (goes_behind img owner spot) (spot_of q)
leads_behind img owner spot q to other =
    let ended = leaves to.line.0 owner (λ same. other (to.owner ∙ same)) in
    subst (λ (line : Option Line). Contains (behind_by line owner spot) (spot_of q)) (sym to.stands)
    (subst (λ b. Contains (if_so b (next_spots to.line spot)) (spot_of q)) (sym ended)
    (leads_next img owner spot q to))

some_of : {X : Type 0} (x y : X) → Some x ≡ Some y → x ≡ y
some_of x y e = cc

-- what was come to, with a new spot
module _ (old new : Reached) (spot : Spot) (added : IsAdded old new spot) (absent : old spot.address ≡ None) where
  has_new : Has new spot
  has_new = added.here

  keeps_old : (s : Spot) → Has old s → Has new s
  keeps_old s has = ⊎_elim
      (λ same. absurd (let e : Some s.inside ≡ None = sym has ∙ ap old (sym same) ∙ absent in cc))
      (λ apart. added.others s.address apart ∙ has)
      (cases_eq spot.address s.address)

  pub is_one : (s : Spot) → Has new s → (s ≡ spot) ⊎ Has old s
  is_one s has = ⊎_elim
      (λ same. inl (let n : s.inside ≡ spot.inside =
      some_of s.inside spot.inside (sym has ∙ ap new (sym same) ∙ has_new) in
      λ i. record { address = sym same i; inside = n i }))
      (λ apart. inr (sym (added.others s.address apart) ∙ has))
      (cases_eq spot.address s.address)

module _ (img : Image) (owner : Owner) (starts : List Spot) (old new : Reached) (done rest bs : List Spot) (spot : Spot)
    (before : IsWalking img owner starts old done (rest ++ spot ∷ []) bs) where
  pub point_here : IsPoint img (point_of owner spot)
  point_here = all_last (λ s. IsPoint img (point_of owner s)) rest spot before.waiting

  -- a spot that is known already
  pub walks_past : Has old spot → IsWalking img owner starts old done rest bs
  walks_past has =
      let known : (s : Spot) → IsReachedOrWaits old (rest ++ spot ∷ []) s → IsReachedOrWaits old rest s = λ s is. ⊎_elim
      (λ reached. inl reached)
      (λ waits. ⊎_elim (λ front. inr front) (λ same. inl (subst (Has old) same has))
      (Contains-push_cases rest spot s waits))
      is in
      record {
        sound = before.sound;
        points = before.points;
        listed = before.listed;
        waiting = all_front (λ s. IsPoint img (point_of owner s)) rest spot before.waiting;
        behind = before.behind;
        began = λ s is. known s (before.began s is);
        closed = λ s q has_s to mine. known (spot_of q) (before.closed s q has_s to mine);
        left = before.left;
      }

  -- a new spot
  module _ (added : IsAdded old new spot) (absent : old spot.address ≡ None) (shallow : length spot.inside ≤ MOST_OPEN)
    where
      known : (s : Spot) → IsReachedOrWaits old (rest ++ spot ∷ []) s
          → IsReachedOrWaits new (rest ++ waits img owner spot) s
      known s is = ⊎_elim
          (λ reached. inl (keeps_old old new spot added absent s reached))
          (λ waiting. ⊎_elim
          (λ front. inr (Contains-append_left rest (waits img owner spot) s front))
          (λ same. inl (subst (Has new) same (has_new old new spot added absent)))
          (Contains-push_cases rest spot s waiting))
          is

      of_each : (P : Spot → Type 0) → P spot → ((s : Spot) → Has old s → P s) → (s : Spot) → Has new s → P s
      of_each P here there s has = ⊎_elim
          (λ same. subst P (sym same) here)
          (λ in_old. there s in_old)
          (is_one old new spot added absent s has)

      pub walks_in : IsWalking img owner starts new (done ++ spot ∷ []) (rest ++ waits img owner spot)
          (bs ++ goes_behind img owner spot)
      walks_in = record {
        sound = record {
          points = of_each (λ s. IsPoint img (point_of owner s)) point_here before.sound.points;
          few = of_each (λ s. length s.inside ≤ MOST_OPEN) shallow before.sound.few;
        };
        points = all_append (λ s. IsPoint img (point_of owner s)) done (spot ∷ []) before.points (point_here, tt);
        listed = of_each (λ s. Contains (done ++ spot ∷ []) s) (Contains-push done spot)
            (λ s has. Contains-append_left done (spot ∷ []) s (before.listed s has));
        waiting = all_append (λ s. IsPoint img (point_of owner s)) rest (waits img owner spot)
            (all_front (λ s. IsPoint img (point_of owner s)) rest spot before.waiting)
            (waits_are_points img owner spot (slice_get img.code spot.address) refl point_here);
        behind = all_append (λ s. IsPoint img (point_of Thread s)) bs (goes_behind img owner spot) before.behind
            (behind_are_points img owner spot (slice_get img.code spot.address) refl point_here);
        began = λ s is. known s (before.began s is);
        closed = λ s q has to mine. of_each
            (λ t. LeadsTo img (point_of owner t) q → IsReachedOrWaits new (rest ++ waits img owner spot) (spot_of q))
            (λ leads. inr (Contains-append_right rest (waits img owner spot) (spot_of q)
            (leads_waits img owner spot q leads mine)))
            (λ t in_old leads. known (spot_of q) (before.closed t q in_old leads mine))
            s has to;
        left = λ s q has to other. of_each
            (λ t. LeadsTo img (point_of owner t) q → Contains (bs ++ goes_behind img owner spot) (spot_of q))
            (λ leads. Contains-append_right bs (goes_behind img owner spot) (spot_of q)
            (leads_behind img owner spot q leads other))
            (λ t in_old leads. Contains-append_left bs (goes_behind img owner spot) (spot_of q)
            (before.left t q in_old leads other))
            s has to;
      }

pub walked : (img : Image) (owner : Owner) (starts : List Spot) (reached : Reached) (done bs : List Spot)
    → IsWalking img owner starts reached done [] bs → IsWalked img owner starts reached done bs
walked img owner starts reached done bs walking =
    let known : (s : Spot) → IsReachedOrWaits reached [] s → Has reached s =
    λ s is. ⊎_elim (λ has. has) (λ waits. absurd (contains_none s waits)) is in
    record {
      sound = walking.sound;
      points = walking.points;
      listed = walking.listed;
      behind = walking.behind;
      began = λ s is. known s (walking.began s is);
      closed = λ s q has to mine. known (spot_of q) (walking.closed s q has to mine);
      left = walking.left;
    }

-- a walk begins with nothing in its table
pub walks_first : (img : Image) (owner : Owner) (starts : List Spot) (reached : Reached)
    → ((address : ℕ) → reached address ≡ None) → ArePoints img owner starts
    → IsWalking img owner starts reached [] starts []
walks_first img owner starts reached none points =
    let nothing : (s : Spot) → Has reached s → ⊥ =
    λ s has. (let e : Some s.inside ≡ None = sym has ∙ none s.address in cc) in
    record {
      sound = record { points = λ s has. absurd (nothing s has); few = λ s has. absurd (nothing s has) };
      points = tt;
      listed = λ s has. absurd (nothing s has);
      waiting = points;
      behind = tt;
      began = λ s is. inr is;
      closed = λ s q has to mine. absurd (nothing s has);
      left = λ s q has to other. absurd (nothing s has);
    }

-- one step is nearer to the end: a new spot leads to two others at most
if_so_short : (b : Bool) (spots : List Spot) → length spots ≤ 2 → length (if_so b spots) ≤ 2
if_so_short true spots h = h
if_so_short false spots h = omega arith

two_targets : (i : Instr) (at : ℕ) → length (targets i at) ≤ 2
two_targets (instr.Jump l) at = omega arith
two_targets (instr.JumpZ s l) at = omega arith
two_targets instr.Wait at = omega arith
two_targets (instr.Call row s) at = omega arith
two_targets instr.Back at = omega arith
two_targets instr.Ret at = omega arith
two_targets i at = omega arith

waits_short : (line : Option Line) (owner : Owner) (spot : Spot) → length (waits_by line owner spot) ≤ 2
waits_short None owner spot = omega arith
waits_short (Some line) owner spot =
    let long = length-map (targets line.0 spot.address) (next line spot.inside) in
    let two = two_targets line.0 spot.address in
    if_so_short (not (ends_init line.0 owner)) (next_spots line spot) (omega (arith, long, two))

-- a spot in the code makes one row fewer empty, and leads to two others at most
pub nearer_inside : (img : Image) (owner : Owner) (spot : Spot) (old new rest before after : ℕ) → old ≡ suc new
    → before ≡ rest + 1 → after ≡ rest + length (waits img owner spot) → 3 * new + after < 3 * old + before
nearer_inside img owner spot old new rest before after fewer was is =
    let two = waits_short (slice_get img.code spot.address) owner spot in omega (arith, fewer, was, is, two)

-- and one past the code leads to none
pub nearer_outside : (img : Image) (owner : Owner) (spot : Spot) (old new rest before after : ℕ) → new ≡ old
    → slice_get img.code spot.address ≡ None → before ≡ rest + 1 → after ≡ rest + length (waits img owner spot)
    → 3 * new + after < 3 * old + before
nearer_outside img owner spot old new rest before after same none was is =
    let no : length (waits img owner spot) ≡ 0 = ap (λ (line : Option Line). length (waits_by line owner spot)) none in
    omega (arith, same, was, is, no)
