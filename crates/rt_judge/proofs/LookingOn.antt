-- A walk that finds what there is at each spot, from one visit to the next.
use Rattle.std.proofs.Common.{◌≡◌, ◌≤◌, ◌<◌, ◌+◌, ◌*◌, List, [], ◌∷◌, ◌++◌, map, length, Option}
use Rattle.std.proofs.Common.{Some}
use Rattle.std.proofs.Common.{None, option_map, refl, sym, ap, subst, ◌∙◌, ⊎_elim, arith, append-nil, length-append}
use Rattle.std.proofs.lemmas.Bool.{cases_lt}
use Rattle.std.proofs.lemmas.List.{length-map}
use Rattle.std.proofs.lemmas.Option.{slice_get_past}
use Rattle.rt_lemmas.proofs.Lists.{none_by_length}
use Rattle.rt_code.specs.Image.{Image}
use Rattle.rt_points.specs.Point.{Point}
use Rattle.rt_points.specs.declared.point.Opened.{Opened}
use Rattle.rt_points.specs.declared.point.Owner.{Owner}
use Rattle.rt_points.specs.declared.rule.TheConstants.{MOST_OPEN}
use Rattle.rt_points.specs.Leading.{IsPoint}
use Rattle.rt_judge.specs.Inside.Finds.{Finds}
use Rattle.rt_judge.specs.Inside.Looks.{IsLooking, LooksFrom}
use Rattle.rt_judge.specs.Inside.Nestings.{Stands, inside_of}
use Rattle.rt_judge.specs.Inside.Points.{point}
use Rattle.rt_judge.specs.Inside.Tables.{empty_rows, IsEmptyTable}
use Rattle.rt_judge.specs.Inside.Visits.{Spot, point_of, spot_in, spots, AllStand}
use Rattle.rt_judge.specs.Inside.Walks.{Has, ArePoints, IsWalking, AllNestingsStand, IsTakenIn, reached_in, waits}
use Rattle.rt_judge.specs.declared.findings.Findings.{Findings}
use Rattle.rt_judge.specs.declared.nesting.Nesting.{Nesting}
use Rattle.rt_judge.specs.declared.table.NestingTable.{NestingTable}
use Rattle.rt_judge.specs.declared.walk.Visit.{Visit}
use Rattle.rt_judge.specs.declared.walk.Visits.{Visits}
use Rattle.rt_judge.specs.declared.walk.Walk.{Walk}
use Rattle.rt_judge.proofs.FindingsSoFar.{points_more}
use Rattle.rt_judge.proofs.Following.{none_reached}
use Rattle.rt_judge.proofs.Nestings.{spots_more}
use Rattle.rt_judge.proofs.Seen.{all_front, all_last}
use Rattle.rt_judge.proofs.Walking.{walks_first, walks_past, walks_in, walked, nearer_inside, nearer_outside}
use Rattle.rt_judge.proofs.Walking.{point_here}

-- an address that was not come to is not in the table
pub absent_found : (opened : List Opened) (o : Option Nesting) → option_map (inside_of opened) o ≡ None → o ≡ None
absent_found opened None absent = refl
absent_found opened (Some n) absent = absurd (none_some_inside (inside_of opened n) absent)
  where
    none_some_inside : (inside : List Opened) → Some inside ≡ None → ⊥
    none_some_inside inside e = cc

-- it begins with nothing
pub looks_first : (img : Image) (owner : Owner) (opened : List Opened) (table : NestingTable) (ws : List Visit)
    (found : Findings) → IsEmptyTable (length img.code) table → AllStand opened ws
    → ArePoints img owner (spots opened ws)
    → IsLooking img owner (spots opened ws) opened table ws [] found found
looks_first img owner opened table ws found empty stand points = record {
  done = [];
  walking = walks_first img owner (spots opened ws) (reached_in opened table)
      (none_reached opened (length img.code) table empty) points;
  sound = record {
    table = λ a n at. absurd (let e : Some n ≡ None = sym at ∙ empty.none a in cc);
    waiting = stand;
    behind = tt;
  };
  size = empty.size;
  finds = λ ps found_all. subst (λ (qs : List Point). Finds img qs found) (sym (append-nil ps)) found_all;
}

module _ (img : Image) (owner : Owner) (starts : List Spot) (opened : List Opened) (table : NestingTable)
    (ws rest bs : List Visit) (visit : Visit) (pop : ws ≡ rest ++ visit ∷ []) (old now : Findings)
    (before : IsLooking img owner starts opened table ws bs old now) where
  abbrev here : Spot
  here = spot_in opened visit

  walking : IsWalking img owner starts (reached_in opened table) before.done (spots opened rest ++ here ∷ [])
      (spots opened bs)
  walking = subst (λ (ss : List Spot). IsWalking img owner starts (reached_in opened table) before.done ss
      (spots opened bs)) (ap (spots opened) pop ∙ spots_more opened rest visit) before.walking

  stand : AllStand opened (rest ++ visit ∷ [])
  stand = subst (AllStand opened) pop before.sound.waiting

  pub popped_sound : AllNestingsStand opened table rest bs
  popped_sound = record {
    table = before.sound.table;
    waiting = all_front (λ (v : Visit). Stands opened v.nesting) rest visit stand;
    behind = before.sound.behind;
  }

  pub popped_stands : Stands opened visit.nesting
  popped_stands = all_last (λ (v : Visit). Stands opened v.nesting) rest visit stand

  pub popped_point : IsPoint img (point_of owner here)
  popped_point = point_here img owner starts (reached_in opened table) (reached_in opened table) before.done
      (spots opened rest) (spots opened bs) here walking

  -- past a visit that is known
  pub looks_past : Has (reached_in opened table) here → IsLooking img owner starts opened table rest bs old now
  looks_past has = record {
    done = before.done;
    walking = walks_past img owner starts (reached_in opened table) (reached_in opened table) before.done
        (spots opened rest) (spots opened bs) here walking has;
    sound = popped_sound;
    size = before.size;
    finds = before.finds;
  }

  -- over a new visit
  module _ (new : Walk) (later : Findings)
      (taken : IsTakenIn img owner (reached_in opened table) table.rows.items (spots opened rest) (spots opened bs) new
      here) where
    pub looks_on : reached_in opened table visit.address ≡ None → length here.inside ≤ MOST_OPEN
        → ((ps : List Point) → Finds img ps now → Finds img (ps ++ point visit.address owner here.inside ∷ []) later)
        → IsLooking img owner starts new.nestings.opened.items new.table new.waiting.items new.behind.items old later
    looks_on absent shallow finds = record {
      done = before.done ++ here ∷ [];
      walking = subst (λ (ss : List Spot). IsWalking img owner starts
          (reached_in new.nestings.opened.items new.table) (before.done ++ here ∷ []) ss
          (spots new.nestings.opened.items new.behind.items)) (sym taken.waiting)
          (subst (λ (ss : List Spot). IsWalking img owner starts (reached_in new.nestings.opened.items new.table)
          (before.done ++ here ∷ []) (spots opened rest ++ waits img owner here) ss) (sym taken.behind)
          (walks_in img owner starts (reached_in opened table) (reached_in new.nestings.opened.items new.table)
          before.done (spots opened rest) (spots opened bs) here walking taken.added absent shallow));
      sound = taken.sound;
      size = taken.size ∙ before.size;
      finds = λ ps found. subst (λ (qs : List Point). Finds img qs later) (points_more owner ps before.done here)
          (finds (ps ++ map (point_of owner) before.done) (before.finds ps found));
    }

    pub looks_nearer : 3 * empty_rows new.table.rows.items + length new.waiting.items
        < 3 * empty_rows table.rows.items + length ws
    looks_nearer =
        let was : length ws ≡ length rest + 1 = ap length pop ∙ length-append rest (visit ∷ []) in
        let is : length new.waiting.items ≡ length rest + length (waits img owner here) =
        sym (length-map new.waiting.items (spot_in new.nestings.opened.items)) ∙ ap length taken.waiting
        ∙ length-append (spots opened rest) (waits img owner here)
        ∙ ap (λ n. n + length (waits img owner here)) (length-map rest (spot_in opened)) in
        ⊎_elim
        (λ within. nearer_inside img owner here (empty_rows table.rows.items) (empty_rows new.table.rows.items)
        (length rest) (length ws) (length new.waiting.items) (taken.fewer within) was is)
        (λ past. nearer_outside img owner here (empty_rows table.rows.items) (empty_rows new.table.rows.items)
        (length rest) (length ws) (length new.waiting.items) (taken.outside past)
        (slice_get_past img.code visit.address (let size = before.size in omega (arith, past, size))) was is)
        (cases_lt visit.address (length table.rows.items))

-- at its end
pub looks_last : (img : Image) (owner : Owner) (starts : List Spot) (table : NestingTable) (ws : List Visit)
    (bs : Visits)
    (old now : Findings) → length ws ≡ 0
    → IsLooking img owner starts bs.nestings.opened.items table ws bs.list.items old now
    → LooksFrom img owner starts old now bs
looks_last img owner starts table ws bs old now ended looking =
    let opened = bs.nestings.opened.items in
    record {
      sound = looking.sound.behind;
      reached = reached_in opened table;
      done = looking.done;
      walked = walked img owner starts (reached_in opened table) looking.done (spots opened bs.list.items)
          (subst (λ (vs : List Visit). IsWalking img owner starts (reached_in opened table) looking.done
          (spots opened vs) (spots opened bs.list.items)) (none_by_length ws ended) looking.walking);
      finds = looking.finds;
    }
