-- A walk that looks for a point, from one visit to the next.
use Rattle.std.proofs.Common.{◌≡◌, ◌≢◌, ◌≤◌, ◌<◌, ◌+◌, ◌*◌, List, [], ◌∷◌, ◌++◌, length}
use Rattle.std.proofs.Common.{Some, None, option_map, refl, sym, ap, subst, ◌∙◌, ⊎_elim, arith, length-append}
use Rattle.std.proofs.lemmas.Bool.{cases_lt}
use Rattle.std.proofs.lemmas.List.{length-map}
use Rattle.std.proofs.lemmas.Option.{slice_get_past}
use Rattle.rt_lemmas.proofs.Lists.{none_by_length}
use Rattle.rt_code.specs.Image.{Image}
use Rattle.rt_points.specs.Point.{Point}
use Rattle.rt_points.specs.declared.point.Opened.{Opened}
use Rattle.rt_points.specs.declared.point.Owner.{Owner}
use Rattle.rt_points.specs.declared.rule.TheConstants.{MOST_OPEN}
use Rattle.rt_points.specs.Leading.{IsPoint}
use Rattle.rt_judge.specs.Inside.Nestings.{Stands, inside_of}
use Rattle.rt_judge.specs.Inside.Points.{point}
use Rattle.rt_judge.specs.Inside.Tables.{empty_rows, found, IsEmptyTable}
use Rattle.rt_judge.specs.Inside.Visits.{Spot, point_of, spot_in, spots, spots_of, AllStand}
use Rattle.rt_judge.specs.Inside.Walks.{Has, ArePoints, IsWalking, AllNestingsStand, IsTakenIn, reached_in, waits}
use Rattle.rt_judge.specs.declared.nesting.Nesting.{Nesting}
use Rattle.rt_judge.specs.declared.table.NestingTable.{NestingTable}
use Rattle.rt_judge.specs.declared.walk.Visit.{Visit}
use Rattle.rt_judge.specs.declared.walk.Visits.{Visits}
use Rattle.rt_judge.specs.declared.walk.Walk.{Walk}
use Rattle.rt_judge.proofs.Following.{none_reached}
use Rattle.rt_judge.proofs.Nestings.{spots_more}
use Rattle.rt_judge.proofs.Seen.{all_front, all_last}
use Rattle.rt_judge.proofs.Walking.{walks_first, walks_past, walks_in, walked, nearer_inside, nearer_outside}
use Rattle.rt_judge.proofs.Walking.{point_here, is_one}
use Rattle.rt_why.specs.Inside.Searches.{IsSearching, WalksClean, IsSplit}
use Rattle.rt_why.specs.Inside.Wanted.{IsUnwanted}
use Rattle.rt_why.specs.Witness.{ComesInTwoWays}
use Rattle.rt_why.specs.declared.wanted.Wanted.{Wanted}
use Rattle.rt_why.specs.declared.witness.Witness.{Witness}
use Rattle.rt_why.specs.declared.witness.Witness.TheVariants as witness

-- it begins with nothing
pub searches_first : (img : Image) (owner : Owner) (wanted : Wanted) (opened : List Opened) (table : NestingTable)
    (ws : List Visit) → IsEmptyTable (length img.code) table → AllStand opened ws
    → ArePoints img owner (spots opened ws)
    → IsSearching img owner (spots opened ws) wanted opened table ws []
searches_first img owner wanted opened table ws empty stand points =
    let none = none_reached opened (length img.code) table empty in
    record {
      done = [];
      walking = walks_first img owner (spots opened ws) (reached_in opened table) none points;
      sound = record {
        table = λ a n at. absurd (let e : Some n ≡ None = sym at ∙ empty.none a in cc);
        waiting = stand;
        behind = tt;
      };
      size = empty.size;
      clean = λ s has. absurd (let e : Some s.inside ≡ None = sym has ∙ none s.address in cc);
    }

module _ (img : Image) (owner : Owner) (starts : List Spot) (wanted : Wanted) (opened : List Opened)
    (table : NestingTable) (ws rest bs : List Visit) (visit : Visit) (pop : ws ≡ rest ++ visit ∷ [])
    (before : IsSearching img owner starts wanted opened table ws bs) where
  abbrev here : Spot
  here = spot_in opened visit

  walking : IsWalking img owner starts (reached_in opened table) before.done (spots opened rest ++ here ∷ [])
      (spots opened bs)
  walking = subst (λ (ss : List Spot). IsWalking img owner starts (reached_in opened table) before.done ss
      (spots opened bs)) (ap (spots opened) pop ∙ spots_more opened rest visit) before.walking

  stand : AllStand opened (rest ++ visit ∷ [])
  stand = subst (AllStand opened) pop before.sound.waiting

  pub popped_sound : AllNestingsStand opened table rest bs
  popped_sound = record {
    table = before.sound.table;
    waiting = all_front (λ (v : Visit). Stands opened v.nesting) rest visit stand;
    behind = before.sound.behind;
  }

  pub popped_stands : Stands opened visit.nesting
  popped_stands = all_last (λ (v : Visit). Stands opened v.nesting) rest visit stand

  pub popped_point : IsPoint img (point_of owner here)
  popped_point = point_here img owner starts (reached_in opened table) (reached_in opened table) before.done
      (spots opened rest) (spots opened bs) here walking

  -- at an address with these sections open, which are others
  pub popped_apart : (known : Nesting) → found table visit.address ≡ Some known
      → inside_of opened known ≢ here.inside
      → ComesInTwoWays img (point visit.address owner (inside_of opened known)) (point_of owner here)
  popped_apart known there differ = record {
    one = before.walking.sound.points (record { address = visit.address; inside = inside_of opened known })
        (ap (option_map (inside_of opened)) there);
    other = popped_point;
    owner = refl;
    address = refl;
    differ = differ;
  }

  -- past a visit that is known
  pub searches_past : Has (reached_in opened table) here
      → IsSearching img owner starts wanted opened table rest bs
  searches_past has = record {
    done = before.done;
    walking = walks_past img owner starts (reached_in opened table) (reached_in opened table) before.done
        (spots opened rest) (spots opened bs) here walking has;
    sound = popped_sound;
    size = before.size;
    clean = before.clean;
  }

  -- over a new visit
  module _ (new : Walk)
      (taken : IsTakenIn img owner (reached_in opened table) table.rows.items (spots opened rest) (spots opened bs) new
      here) where
    pub searches_on : reached_in opened table visit.address ≡ None → length here.inside ≤ MOST_OPEN
        → IsUnwanted img wanted (point_of owner here)
        → IsSearching img owner starts wanted new.nestings.opened.items new.table new.waiting.items new.behind.items
    searches_on absent shallow unwanted = record {
      done = before.done ++ here ∷ [];
      walking = subst (λ (ss : List Spot). IsWalking img owner starts
          (reached_in new.nestings.opened.items new.table) (before.done ++ here ∷ []) ss
          (spots new.nestings.opened.items new.behind.items)) (sym taken.waiting)
          (subst (λ (ss : List Spot). IsWalking img owner starts (reached_in new.nestings.opened.items new.table)
          (before.done ++ here ∷ []) (spots opened rest ++ waits img owner here) ss) (sym taken.behind)
          (walks_in img owner starts (reached_in opened table) (reached_in new.nestings.opened.items new.table)
          before.done (spots opened rest) (spots opened bs) here walking taken.added absent shallow));
      sound = taken.sound;
      size = taken.size ∙ before.size;
      clean = λ s has. ⊎_elim
          (λ same. subst (λ (t : Spot). IsUnwanted img wanted (point_of owner t)) (sym same) unwanted)
          (λ old. before.clean s old)
          (is_one (reached_in opened table) (reached_in new.nestings.opened.items new.table) here taken.added absent s
          has);
    }

    pub searches_nearer : 3 * empty_rows new.table.rows.items + length new.waiting.items
        < 3 * empty_rows table.rows.items + length ws
    searches_nearer =
        let was : length ws ≡ length rest + 1 = ap length pop ∙ length-append rest (visit ∷ []) in
        let is : length new.waiting.items ≡ length rest + length (waits img owner here) =
        sym (length-map new.waiting.items (spot_in new.nestings.opened.items)) ∙ ap length taken.waiting
        ∙ length-append (spots opened rest) (waits img owner here)
        ∙ ap (λ n. n + length (waits img owner here)) (length-map rest (spot_in opened)) in
        ⊎_elim
        (λ within. nearer_inside img owner here (empty_rows table.rows.items) (empty_rows new.table.rows.items)
        (length rest) (length ws) (length new.waiting.items) (taken.fewer within) was is)
        (λ past. nearer_outside img owner here (empty_rows table.rows.items) (empty_rows new.table.rows.items)
        (length rest) (length ws) (length new.waiting.items) (taken.outside past)
        (slice_get_past img.code visit.address (let size = before.size in omega (arith, past, size))) was is)
        (cases_lt visit.address (length table.rows.items))

-- at its end
pub searches_last : (img : Image) (owner : Owner) (starts : List Spot) (wanted : Wanted) (table : NestingTable)
    (ws : List Visit) (bs : Visits) → length ws ≡ 0
    → IsSearching img owner starts wanted bs.nestings.opened.items table ws bs.list.items
    → WalksClean img owner starts wanted bs
searches_last img owner starts wanted table ws bs ended searching =
    let opened = bs.nestings.opened.items in
    record {
      sound = searching.sound.behind;
      reached = reached_in opened table;
      done = searching.done;
      walked = walked img owner starts (reached_in opened table) searching.done (spots_of bs)
          (subst (λ (vs : List Visit). IsWalking img owner starts (reached_in opened table) searching.done
          (spots opened vs) (spots_of bs)) (none_by_length ws ended) searching.walking);
      clean = searching.clean;
    }

-- too many sections are open
pub splits_deep : (img : Image) (p made : Point) → made ≡ p → IsPoint img p → MOST_OPEN < length p.inside
    → IsSplit img (witness.Depth made)
splits_deep img p made same is many =
    subst (λ (q : Point). IsSplit img (witness.Depth q)) (sym same) (record { point = is; many = many }, refl)

-- or others are
pub splits_apart : (img : Image) (w : Witness) (p q : Point) → w ≡ witness.Ways p q → ComesInTwoWays img p q
    → IsSplit img w
splits_apart img w p q same two = subst (IsSplit img) (sym same) (two, refl)
