-- A walk through the code of an owner of a checked image, from one visit to the next.
use Rattle.std.proofs.Common.{◌≡◌, ◌<◌, ◌+◌, ◌*◌, List, [], ◌∷◌, ◌++◌, length, Bool, false, MatchBool}
use Rattle.std.proofs.Common.{Some, None, option_map, refl, sym, ap, subst, ◌∙◌, ⊎_elim, arith, length-append}
use Rattle.std.proofs.lemmas.Bool.{cases_lt}
use Rattle.std.proofs.lemmas.List.{length-map}
use Rattle.std.proofs.lemmas.Option.{slice_get_past}
use Rattle.rt_lemmas.proofs.Lists.{none_by_length}
use Rattle.rt_code.specs.Image.{Image}
use Rattle.rt_points.specs.Leading.{IsPoint}
use Rattle.rt_points.specs.Rules.{NestsInOneWay}
use Rattle.rt_points.specs.declared.point.Opened.{Opened}
use Rattle.rt_points.specs.declared.point.Owner.{Owner}
use Rattle.rt_judge.specs.Inside.Nestings.{Stands, inside_of}
use Rattle.rt_judge.specs.Inside.Tables.{empty_rows, found}
use Rattle.rt_judge.specs.Inside.Visits.{Spot, point_of, spot_in, spots, AllStand}
use Rattle.rt_judge.specs.Inside.Walks.{Has, IsWalking, AllNestingsStand, IsTakenIn, reached_in, waits}
use Rattle.rt_judge.specs.Inside.Walks.{reached_by, behind_in}
use Rattle.rt_judge.specs.declared.nesting.Nesting.{Nesting}
use Rattle.rt_judge.specs.declared.table.NestingTable.{NestingTable}
use Rattle.rt_judge.specs.declared.walk.Visit.{Visit}
use Rattle.rt_judge.specs.declared.walk.Walk.{Walk}
use Rattle.rt_judge.proofs.Nestings.{spots_more}
use Rattle.rt_judge.proofs.Seen.{all_front}
use Rattle.rt_judge.proofs.Walking.{walks_past, walks_in, walked, nearer_inside, nearer_outside}
use Rattle.rt_judge.proofs.Walking.{point_here}
use Rattle.rt_bounds.specs.Inside.Ground.{IsOnTheWay, IsGround}

-- what follows where a test fails
pub lost_case : (b : Bool) (P N : Type 0) → b ≡ false → MatchBool b P N → N
lost_case b P N is h = subst (λ c. MatchBool c P N) is h

module _ (img : Image) (owner : Owner) (starts : List Spot) (opened : List Opened)
    (table : NestingTable) (ws rest bs : List Visit) (visit : Visit) (pop : ws ≡ rest ++ visit ∷ [])
    (before : IsOnTheWay img owner starts opened table ws bs) where
  abbrev here : Spot
  here = spot_in opened visit

  walking : IsWalking img owner starts (reached_in opened table) before.done (spots opened rest ++ here ∷ [])
      (spots opened bs)
  walking = subst (λ (ss : List Spot). IsWalking img owner starts (reached_in opened table) before.done ss
      (spots opened bs)) (ap (spots opened) pop ∙ spots_more opened rest visit) before.walking

  stand : AllStand opened (rest ++ visit ∷ [])
  stand = subst (AllStand opened) pop before.sound.waiting

  pub popped_sound : AllNestingsStand opened table rest bs
  popped_sound = record {
    table = before.sound.table;
    waiting = all_front (λ (v : Visit). Stands opened v.nesting) rest visit stand;
    behind = before.sound.behind;
  }

  popped_point : IsPoint img (point_of owner here)
  popped_point = point_here img owner starts (reached_in opened table) (reached_in opened table) before.done
      (spots opened rest) (spots opened bs) here walking

  -- at an address that was come to the same sections are open
  known_same : NestsInOneWay img → (known : Nesting) → found table visit.address ≡ Some known
      → Has (reached_in opened table) here
  known_same nests known there =
      let other : Spot = record { address = visit.address; inside = inside_of opened known } in
      let has : Has (reached_in opened table) other = ap (option_map (inside_of opened)) there in
      let same : inside_of opened known ≡ here.inside =
      nests.one (point_of owner other) (point_of owner here) (before.walking.sound.points other has) popped_point refl
      refl in
      has ∙ ap Some same

  -- past a visit that is known
  pub walk_past : NestsInOneWay img → (known : Nesting) → found table visit.address ≡ Some known
      → IsOnTheWay img owner starts opened table rest bs
  walk_past nests known there = record {
    done = before.done;
    walking = walks_past img owner starts (reached_in opened table) (reached_in opened table) before.done
        (spots opened rest) (spots opened bs) here walking (known_same nests known there);
    sound = popped_sound;
    size = before.size;
  }

  -- over a new visit
  module _ (new : Walk)
      (taken : IsTakenIn img owner (reached_in opened table) table.rows.items (spots opened rest) (spots opened bs) new
      here) where
    pub walk_on : NestsInOneWay img → found table visit.address ≡ None
        → IsOnTheWay img owner starts new.nestings.opened.items new.table new.waiting.items new.behind.items
    walk_on nests none =
        let absent : reached_in opened table visit.address ≡ None = ap (option_map (inside_of opened)) none in
        record {
          done = before.done ++ here ∷ [];
          walking = subst (λ (ss : List Spot). IsWalking img owner starts
              (reached_in new.nestings.opened.items new.table) (before.done ++ here ∷ []) ss
              (spots new.nestings.opened.items new.behind.items)) (sym taken.waiting)
              (subst (λ (ss : List Spot). IsWalking img owner starts (reached_in new.nestings.opened.items new.table)
              (before.done ++ here ∷ []) (spots opened rest ++ waits img owner here) ss) (sym taken.behind)
              (walks_in img owner starts (reached_in opened table) (reached_in new.nestings.opened.items new.table)
              before.done (spots opened rest) (spots opened bs) here walking taken.added absent
              (nests.few (point_of owner here) popped_point)));
          sound = taken.sound;
          size = taken.size ∙ before.size;
        }

    pub walk_nearer : 3 * empty_rows new.table.rows.items + length new.waiting.items
        < 3 * empty_rows table.rows.items + length ws
    walk_nearer =
        let was : length ws ≡ length rest + 1 = ap length pop ∙ length-append rest (visit ∷ []) in
        let is : length new.waiting.items ≡ length rest + length (waits img owner here) =
        sym (length-map new.waiting.items (spot_in new.nestings.opened.items)) ∙ ap length taken.waiting
        ∙ length-append (spots opened rest) (waits img owner here)
        ∙ ap (λ n. n + length (waits img owner here)) (length-map rest (spot_in opened)) in
        ⊎_elim
        (λ within. nearer_inside img owner here (empty_rows table.rows.items) (empty_rows new.table.rows.items)
        (length rest) (length ws) (length new.waiting.items) (taken.fewer within) was is)
        (λ past. nearer_outside img owner here (empty_rows table.rows.items) (empty_rows new.table.rows.items)
        (length rest) (length ws) (length new.waiting.items) (taken.outside past)
        (slice_get_past img.code visit.address (let size = before.size in omega (arith, past, size))) was is)
        (cases_lt visit.address (length table.rows.items))

-- at its end
pub walk_last : (img : Image) (owner : Owner) (starts : List Spot) (walk : Walk) (ws : List Visit) → length ws ≡ 0
    → length walk.waiting.items ≡ 0
    → IsOnTheWay img owner starts walk.nestings.opened.items walk.table ws walk.behind.items
    → IsGround img owner starts walk
walk_last img owner starts walk ws ended none on =
    let opened = walk.nestings.opened.items in
    record {
      done = on.done;
      walked = walked img owner starts (reached_by walk) on.done (behind_in walk)
          (subst (λ (vs : List Visit). IsWalking img owner starts (reached_in opened walk.table) on.done
          (spots opened vs) (behind_in walk)) (none_by_length ws ended) on.walking);
      sound = record {
        table = on.sound.table;
        waiting = subst (AllStand opened) (sym (none_by_length walk.waiting.items none)) tt;
        behind = on.sound.behind;
      };
      size = on.size;
    }
