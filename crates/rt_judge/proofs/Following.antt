-- What a walk becomes where it goes on, with the nestings of its visits.
use Rattle.std.proofs.Common.{◌≡◌, ℕ, suc, Bool, true, false, not, List, [], ◌∷◌, ◌++◌, map}
use Rattle.std.proofs.Common.{length}
use Rattle.std.proofs.Common.{option_map, Option, Some, None, refl, sym, ap, subst, ◌∙◌, append-nil}
use Rattle.std.proofs.Common.{append_assoc, ⊎_elim, Result, Ok, Err, OnOk}
use Rattle.std.proofs.lemmas.Bool.{cases_eq}
use Rattle.std.proofs.lemmas.Option.{same_Some}
use Rattle.rt_lemmas.proofs.Membership.{all_append}
use Rattle.rt_code.specs.Image.{Image}
use Rattle.rt_code.specs.declared.instr.Instr.{Instr}
use Rattle.rt_code.specs.declared.instr.Note.{Note}
use Rattle.rt_points.specs.declared.point.Opened.{Opened}
use Rattle.rt_points.specs.declared.point.Owner.{Owner}
use Rattle.rt_points.specs.Leading.{inside_after}
use Rattle.rt_judge.specs.Inside.Nestings.{inside_of, Stands, Grows, IsSaid}
use Rattle.rt_judge.specs.Inside.Tables.{found, empty_rows, IsPut, IsEmptyTable}
use Rattle.rt_judge.specs.Inside.Visits.{Spot, spot_in, spots, AllStand}
use Rattle.rt_judge.specs.Inside.Exits.{targets, ends_init}
use Rattle.rt_judge.specs.Inside.Walks.{more, if_so, next, next_spots, waits, goes_behind, reached_in}
use Rattle.rt_judge.specs.Inside.Walks.{waits_by, behind_by}
use Rattle.rt_judge.specs.Inside.Walks.{reached_by, waiting_in, behind_in, IsSoundWalk, IsFollowed, IsTakenIn}
use Rattle.rt_judge.specs.declared.nesting.Nesting.{Nesting}
use Rattle.rt_judge.specs.declared.table.NestingTable.{NestingTable}
use Rattle.rt_judge.specs.declared.walk.Visit.{Visit}
use Rattle.rt_judge.specs.declared.walk.Walk.{Walk}
use Rattle.rt_judge.proofs.Nestings.{stands_on, same_inside, same_spots, all_stand, same_grows, spots_more}

-- what follows from two facts that hold where there is an answer
pub on_ok_both : {A E : Type 0} (r : Result A E) (P Q S : Type 0) → (P → Q → S) → OnOk r P → OnOk r Q → OnOk r S
on_ok_both (Ok x) P Q S f p q = f p q
on_ok_both (Err e) P Q S f p q = p

-- the spots of visits with one more, or as they were
more_spots : (opened : List Opened) (is : Bool) (visit : Visit) (visits : List Visit)
    → spots opened (more is visit visits) ≡ spots opened visits ++ if_so is (spot_in opened visit ∷ [])
more_spots opened true visit visits = spots_more opened visits visit
more_spots opened false visit visits = sym (append-nil (spots opened visits))

more_stand : (opened : List Opened) (is : Bool) (visit : Visit) (visits : List Visit) → Stands opened visit.nesting
    → AllStand opened visits → AllStand opened (more is visit visits)
more_stand opened true visit visits stands all =
    all_append (λ (v : Visit). Stands opened v.nesting) visits (visit ∷ []) all (stands, tt)
more_stand opened false visit visits stands all = all

-- with one more visit in a list that has grown
if_so_more : (is : Bool) (xs ys : List Spot) → if_so is xs ++ if_so is ys ≡ if_so is (xs ++ ys)
if_so_more true xs ys = refl
if_so_more false xs ys = refl

-- a walk that has gone nowhere
followed_nowhere : (walk : Walk) (is : Bool) → IsSoundWalk walk → IsFollowed walk walk (if_so (not is) []) (if_so is [])
followed_nowhere walk is sound = record {
  grows = same_grows walk.nestings.opened.items;
  table = refl;
  waiting = nothing (waiting_in walk) (not is);
  behind = nothing (behind_in walk) is;
  sound = sound;
}
  where
    nothing : (ss : List Spot) (is : Bool) → ss ≡ ss ++ if_so is []
    nothing ss true = sym (append-nil ss)
    nothing ss false = sym (append-nil ss)

-- a walk whose nestings have grown, and that has gone to one visit
followed_once : (old new : Walk) (is : Bool) (visit : Visit)
    → Grows old.nestings.opened.items new.nestings.opened.items → IsSoundWalk old
    → Stands new.nestings.opened.items visit.nesting
    → new.table ≡ old.table → new.waiting.items ≡ more (not is) visit old.waiting.items
    → new.behind.items ≡ more is visit old.behind.items
    → IsFollowed old new (if_so (not is) (spot_in new.nestings.opened.items visit ∷ []))
    (if_so is (spot_in new.nestings.opened.items visit ∷ []))
followed_once old new is visit grows sound stands table waits goes =
    let now = new.nestings.opened.items in
    let was = old.nestings.opened.items in record {
      grows = grows;
      table = table;
      waiting = ap (spots now) waits ∙ more_spots now (not is) visit old.waiting.items
          ∙ ap (λ (ss : List Spot). ss ++ if_so (not is) (spot_in now visit ∷ []))
          (same_spots was now grows old.waiting.items sound.waiting);
      behind = ap (spots now) goes ∙ more_spots now is visit old.behind.items
          ∙ ap (λ (ss : List Spot). ss ++ if_so is (spot_in now visit ∷ []))
          (same_spots was now grows old.behind.items sound.behind);
      sound = record {
        table = λ a n at. stands_on was now grows n
            (sound.table a n (subst (λ (t : NestingTable). found t a ≡ Some n) table at));
        waiting = subst (AllStand now) (sym waits) (more_stand now (not is) visit old.waiting.items stands
            (all_stand was now grows old.waiting.items sound.waiting));
        behind = subst (AllStand now) (sym goes) (more_stand now is visit old.behind.items stands
            (all_stand was now grows old.behind.items sound.behind));
      };
    }

-- one step, and another that leaves the nestings as they are
followed_twice : (a b c : Walk) (is : Bool) (xs ys : List Spot) → IsFollowed a b (if_so (not is) xs) (if_so is xs)
    → IsFollowed b c (if_so (not is) ys) (if_so is ys) → c.nestings ≡ b.nestings
    → IsFollowed a c (if_so (not is) (xs ++ ys)) (if_so is (xs ++ ys))
followed_twice a b c is xs ys one other same = record {
  grows = record {
    more = one.grows.more;
    is = ap (λ n. n.opened.items) same ∙ one.grows.is;
  };
  table = other.table ∙ one.table;
  waiting = other.waiting ∙ ap (λ (ss : List Spot). ss ++ if_so (not is) ys) one.waiting
      ∙ append_assoc (waiting_in a) (if_so (not is) xs) (if_so (not is) ys)
      ∙ ap (λ (ss : List Spot). waiting_in a ++ ss) (if_so_more (not is) xs ys);
  behind = other.behind ∙ ap (λ (ss : List Spot). ss ++ if_so is ys) one.behind
      ∙ append_assoc (behind_in a) (if_so is xs) (if_so is ys)
      ∙ ap (λ (ss : List Spot). behind_in a ++ ss) (if_so_more is xs ys);
  sound = other.sound;
}

-- the spot that a visit becomes
spot_is : (opened : List Opened) (to : ℕ) (nesting : Nesting) (line : Instr × Option Note) (inside : List Opened)
    → inside_of opened nesting ≡ inside_after line.0 line.1 inside
    → spot_in opened (record { address = to; nesting = nesting }) ≡ next line inside to
spot_is opened to nesting line inside is = λ i. record { address = to; inside = is i }

-- where a line leads, from a visit
module _ (old : Walk) (line : Instr × Option Note) (owner : Owner) (visit : Visit) (is : Bool)
    (sound : IsSoundWalk old) (end : is ≡ ends_init line.0 owner) where
  abbrev opened_then : List Opened
  opened_then = old.nestings.opened.items

  abbrev inside : List Opened
  inside = inside_of opened_then visit.nesting

  by_targets : (new : Walk) (tos : List ℕ) → tos ≡ targets line.0 visit.address
      → IsFollowed old new (if_so (not is) (map (next line inside) tos)) (if_so is (map (next line inside) tos))
      → IsFollowed old new (waits_by (Some line) owner (spot_in opened_then visit))
      (behind_by (Some line) owner (spot_in opened_then visit))
  by_targets new tos all followed =
      subst (λ b. IsFollowed old new (if_so (not b) (next_spots line (spot_in opened_then visit)))
      (if_so b (next_spots line (spot_in opened_then visit)))) end
      (subst (λ (ts : List ℕ). IsFollowed old new (if_so (not is) (map (next line inside) ts))
      (if_so is (map (next line inside) ts))) all followed)

  pub goes_nowhere : [] ≡ targets line.0 visit.address
      → IsFollowed old old (waits_by (Some line) owner (spot_in opened_then visit))
      (behind_by (Some line) owner (spot_in opened_then visit))
  goes_nowhere none = by_targets old [] none (followed_nowhere old is sound)

  module _ (new : Walk) (nesting : Nesting) (opened : List Opened)
      (said : IsSaid opened_then opened nesting (inside_after line.0 line.1 inside)) (to : ℕ)
      (nestings : new.nestings.opened.items ≡ opened) (table : new.table ≡ old.table)
      (waits : new.waiting.items ≡ more (not is) (record { address = to; nesting = nesting }) old.waiting.items)
      (goes : new.behind.items ≡ more is (record { address = to; nesting = nesting }) old.behind.items) where
    said_now : IsSaid opened_then new.nestings.opened.items nesting (inside_after line.0 line.1 inside)
    said_now = subst (λ (xs : List Opened). IsSaid opened_then xs nesting (inside_after line.0 line.1 inside))
        (sym nestings) said

    first_step : IsFollowed old new (if_so (not is) (next line inside to ∷ [])) (if_so is (next line inside to ∷ []))
    first_step = subst (λ (s : Spot). IsFollowed old new (if_so (not is) (s ∷ [])) (if_so is (s ∷ [])))
        (spot_is new.nestings.opened.items to nesting line inside said_now.is)
        (followed_once old new is (record { address = to; nesting = nesting }) said_now.grows sound said_now.stands
        table waits goes)

    pub goes_to_one : to ∷ [] ≡ targets line.0 visit.address
        → IsFollowed old new (waits_by (Some line) owner (spot_in opened_then visit))
        (behind_by (Some line) owner (spot_in opened_then visit))
    goes_to_one all = by_targets new (to ∷ []) all first_step

    module _ (last : Walk) (other : ℕ) (nestings_last : last.nestings ≡ new.nestings)
        (table_last : last.table ≡ new.table)
        (waits_last : last.waiting.items ≡ more (not is) (record { address = other; nesting = nesting })
        new.waiting.items)
        (goes_last : last.behind.items ≡ more is (record { address = other; nesting = nesting }) new.behind.items) where
      opened_last : last.nestings.opened.items ≡ new.nestings.opened.items
      opened_last = ap (λ n. n.opened.items) nestings_last

      said_last : IsSaid opened_then last.nestings.opened.items nesting (inside_after line.0 line.1 inside)
      said_last = subst (λ (xs : List Opened). IsSaid opened_then xs nesting (inside_after line.0 line.1 inside))
          (sym opened_last) said_now

      second_step : IsFollowed new last (if_so (not is) (next line inside other ∷ []))
          (if_so is (next line inside other ∷ []))
      second_step = subst (λ (s : Spot). IsFollowed new last (if_so (not is) (s ∷ [])) (if_so is (s ∷ [])))
          (spot_is last.nestings.opened.items other nesting line inside said_last.is)
          (followed_once new last is (record { address = other; nesting = nesting })
          (subst (Grows new.nestings.opened.items) (sym opened_last) (same_grows new.nestings.opened.items))
          first_step.sound said_last.stands table_last waits_last goes_last)

      pub goes_to_two : to ∷ other ∷ [] ≡ targets line.0 visit.address
          → IsFollowed old last (waits_by (Some line) owner (spot_in opened_then visit))
          (behind_by (Some line) owner (spot_in opened_then visit))
      goes_to_two all = by_targets last (to ∷ other ∷ []) all
          (followed_twice old new last is (next line inside to ∷ []) (next line inside other ∷ []) first_step
          second_step
          nestings_last)

-- what is reached, in a list that has grown
same_reached : (old new : List Opened) (grows : Grows old new) (table : NestingTable)
    → ((a : ℕ) (n : Nesting) → found table a ≡ Some n → Stands old n) → (address : ℕ)
    → reached_in new table address ≡ reached_in old table address
same_reached old new grows table stand address = elim (found table address) as
    (λ (o : Option Nesting). ((n : Nesting) → o ≡ Some n → Stands old n)
    → option_map (inside_of new) o ≡ option_map (inside_of old) o) [
      | None ↦ λ all. refl
      | Some n ↦ λ all. ap Some (same_inside old new grows n (all n refl))
    ] (stand address)

-- a walk that has come to a new visit and gone on
module _ (img : Image) (owner : Owner) (old mid new : Walk) (visit : Visit) (sound : IsSoundWalk old)
    (stands : Stands old.nestings.opened.items visit.nesting)
    (put : IsPut old.table mid.table visit.address visit.nesting) (nestings : mid.nestings ≡ old.nestings)
    (waits_same : mid.waiting ≡ old.waiting) (behind_same : mid.behind ≡ old.behind) where
  abbrev was : List Opened
  was = old.nestings.opened.items

  abbrev spot_then : Spot
  spot_then = spot_in was visit

  opened_same : mid.nestings.opened.items ≡ was
  opened_same = ap (λ n. n.opened.items) nestings

  mid_table : (a : ℕ) (n : Nesting) → found mid.table a ≡ Some n → Stands was n
  mid_table a n at = ⊎_elim
      (λ same. subst (Stands was) (same_Some visit.nesting n (sym put.here ∙ ap (found mid.table) same ∙ at)) stands)
      (λ apart. sound.table a n (sym (put.others a apart) ∙ at))
      (cases_eq visit.address a)

  pub mid_sound : IsSoundWalk mid
  mid_sound = record {
    table = λ a n at. subst (λ (xs : List Opened). Stands xs n) (sym opened_same) (mid_table a n at);
    waiting = subst (λ (xs : List Opened). AllStand xs mid.waiting.items) (sym opened_same)
        (subst (λ w. AllStand was w.items) (sym waits_same) sound.waiting);
    behind = subst (λ (xs : List Opened). AllStand xs mid.behind.items) (sym opened_same)
        (subst (λ w. AllStand was w.items) (sym behind_same) sound.behind);
  }

  module _ (followed : IsFollowed mid new (waits img owner (spot_in mid.nestings.opened.items visit))
      (goes_behind img owner (spot_in mid.nestings.opened.items visit))) where
    same_spot : spot_in mid.nestings.opened.items visit ≡ spot_then
    same_spot = ap (λ (xs : List Opened). spot_in xs visit) opened_same

    grown : Grows was new.nestings.opened.items
    grown = subst (λ (xs : List Opened). Grows xs new.nestings.opened.items) opened_same followed.grows

    now_reached : (address : ℕ) → reached_by new address ≡ reached_in was mid.table address
    now_reached address =
        ap (λ (t : NestingTable). reached_in new.nestings.opened.items t address) followed.table
        ∙ same_reached was new.nestings.opened.items grown mid.table mid_table address

    pub taken_in : IsTakenIn img owner (reached_by old) old.table.rows.items (waiting_in old) (behind_in old) new
        spot_then
    taken_in = record {
      added = record {
        here = now_reached visit.address ∙ ap (option_map (inside_of was)) put.here;
        others = λ a apart. now_reached a ∙ ap (option_map (inside_of was)) (put.others a apart);
      };
      waiting = followed.waiting
          ∙ ap (λ (ss : List Spot). ss ++ waits img owner (spot_in mid.nestings.opened.items visit))
          (ap (λ (xs : List Opened). spots xs mid.waiting.items) opened_same ∙ ap (λ w. spots was w.items) waits_same)
          ∙ ap (λ (s : Spot). waiting_in old ++ waits img owner s) same_spot;
      behind = followed.behind
          ∙ ap (λ (ss : List Spot). ss ++ goes_behind img owner (spot_in mid.nestings.opened.items visit))
          (ap (λ (xs : List Opened). spots xs mid.behind.items) opened_same ∙ ap (λ w. spots was w.items) behind_same)
          ∙ ap (λ (s : Spot). behind_in old ++ goes_behind img owner s) same_spot;
      sound = followed.sound;
      size = ap (λ (t : NestingTable). length t.rows.items) followed.table ∙ put.size;
      fewer =
          λ within. put.fewer within ∙ ap (λ (t : NestingTable). suc (empty_rows t.rows.items)) (sym followed.table);
      outside = λ past. ap (λ (t : NestingTable). empty_rows t.rows.items) followed.table ∙ put.outside past;
    }

-- nothing is reached by a table without anything
pub none_reached : (opened : List Opened) (count : ℕ) (table : NestingTable) → IsEmptyTable count table → (address : ℕ)
    → reached_in opened table address ≡ None
none_reached opened count table empty address = ap (option_map (inside_of opened)) (empty.none address)
