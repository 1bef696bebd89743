-- From the points of one number of open sections to the next, from one owner to the next, and all of them at the end.
use Rattle.std.proofs.Common.{◌≡◌, ◌≤◌, ◌<◌, ◌-◌, ℕ, zero, suc, true, List, [], ◌∷◌}
use Rattle.std.proofs.Common.{◌++◌, length, drop, slice_get, Option, Some, None, option_map, refl}
use Rattle.std.proofs.Common.{sym, ap, subst, ◌∙◌, inl, inr, ⊎_elim, arith, length-drop}
use Rattle.std.specs.List.{AllByRecursion, Contains}
use Rattle.std.proofs.lemmas.Bool.{cases_lt}
use Rattle.std.proofs.lemmas.List.{length-take}
use Rattle.std.proofs.lemmas.List.Elements.{Contains-append_left, Contains-append_right, Contains-push}
use Rattle.std.proofs.lemmas.List.Elements.{Contains-push_cases}
use Rattle.rt_lemmas.proofs.Membership.{all_append, all_weaker, all_at, any_one, contains_here, contains_there}
use Rattle.rt_actions.specs.Location.{is_same_section}
use Rattle.rt_actions.proofs.Sections.{one_section}
use Rattle.rt_ids.specs.Priority.{hardware}
use Rattle.rt_ids.specs.declared.ids.Section.{Section}
use Rattle.rt_code.specs.Image.{Image}
use Rattle.rt_code.specs.declared.instr.Instr.{Instr}
use Rattle.rt_code.specs.declared.instr.Instr.TheVariants as instr
use Rattle.rt_code.specs.declared.instr.Note.TheVariants as note
use Rattle.rt_points.specs.Checked.{IsChecked}
use Rattle.rt_points.specs.Leading.{IsPoint, Leads, LeadsTo, LeadsOn, owner_after, inside_after}
use Rattle.rt_points.specs.Point.{Point}
use Rattle.rt_points.specs.Rules.{opens, StaysInCode}
use Rattle.rt_points.specs.declared.point.Opened.{Opened}
use Rattle.rt_points.specs.declared.point.Owner.{Owner}
use Rattle.rt_points.specs.declared.rule.Rule.TheVariants as rule
use Rattle.rt_judge.specs.Inside.Nestings.{Stands, inside_of}
use Rattle.rt_judge.specs.Inside.Points.{point}
use Rattle.rt_judge.specs.Inside.Tables.{found, found_by}
use Rattle.rt_judge.specs.declared.nesting.Nesting.{Nesting}
use Rattle.rt_judge.specs.declared.walk.Walk.{Walk}
use Rattle.rt_bounds.specs.Bounds.{Enters, HoldsOff, IsSectionBound}
use Rattle.rt_bounds.specs.Inside.Gathered.{IsSoFar, IsBefore, IsSeen, AreOwn, IsGatheredTo}
use Rattle.rt_bounds.specs.Inside.Gathered.{AreAll, AreEarlier, IsGathered}
use Rattle.rt_bounds.specs.Inside.Ground.{IsMapped, IsMostOpen}
use Rattle.rt_bounds.specs.declared.bound.SectionBound.{SectionBound}
use Rattle.rt_bounds.specs.declared.gathered.Gathered.{Gathered}
use Rattle.rt_bounds.proofs.Orders.{order_owners}
use Rattle.rt_bounds.proofs.SoFar.{same_bound, same_so_far}

module _ (img : Image) (owner : Owner) where
  -- before the first address with nothing open there is no point
  nowhere : (p : Point) → IsBefore 0 0 p → ⊥
  nowhere p (inl less) = absurd (omega (arith, less))
  nowhere p (inr both) = let none = both.1 in absurd (omega (arith, none))

  pub begun : (done : List Owner) (g : Gathered) → IsGathered img done g → IsGatheredTo img done owner 0 0 g
  begun done g gathered = record {
    own = subst (AreOwn img owner 0 0) (sym gathered.own) (record {
      each = tt;
      all = λ x p before enters. absurd (nowhere p before);
      order = tt;
    });
    waits = all_weaker
        (λ row. IsSoFar img (λ p. Contains done p.owner) (HoldsOff img (hardware img.bits row.priority)) row.longest)
        (λ row. IsSoFar img (IsSeen done owner 0 0) (HoldsOff img (hardware img.bits row.priority)) row.longest)
        (λ row. same_so_far img (λ p. Contains done p.owner) (IsSeen done owner 0 0)
        (HoldsOff img (hardware img.bits row.priority)) (λ p holds is. inl is)
        (λ p holds is. ⊎_elim (λ was. was) (λ both. absurd (nowhere p both.1)) is) row.longest)
        g.waits.items gathered.waits;
  }

  -- all addresses with so many sections open come before those with more
  module _ (stays : StaysInCode img) (depth : ℕ) where
    abbrev last : ℕ
    last = length img.code

    on : (p : Point) → IsBefore depth last p → IsBefore (suc depth) 0 p
    on p (inl less) = inl (omega (arith, less))
    on p (inr both) = let same = both.0 in inl (omega (arith, same))

    back : (p : Point) → IsPoint img p → IsBefore (suc depth) 0 p → IsBefore depth last p
    back p is (inl less) = ⊎_elim
        (λ lt. inl lt)
        (λ ge. inr ((let e : length p.inside ≡ depth = omega (arith, less, ge) in e), stays p is))
        (cases_lt (length p.inside) depth)
    back p is (inr both) = let none = both.1 in absurd (omega (arith, none))

    pub deeper : (done : List Owner) (g : Gathered) → IsGatheredTo img done owner depth last g
        → IsGatheredTo img done owner (suc depth) 0 g
    deeper done g gathered = record {
      own = record {
        each = all_weaker
            (λ row. (row.owner ≡ owner) × IsSectionBound img (λ p. IsBefore depth last p
            × Enters img owner row.section p) row.longest)
            (λ row. (row.owner ≡ owner) × IsSectionBound img (λ p. IsBefore (suc depth) 0 p
            × Enters img owner row.section p) row.longest)
            (λ row both. (
              both.0,
              same_bound img (λ p. IsBefore depth last p × Enters img owner row.section p)
                  (λ p. IsBefore (suc depth) 0 p × Enters img owner row.section p) (λ p is. (on p is.0, is.1))
                  (λ p is. (back p is.1.enters.0 is.0, is.1)) row.longest both.1,
            ))
            g.own.items gathered.own.each;
        all = λ x p before enters. gathered.own.all x p (back p enters.enters.0 before) enters;
        order = gathered.own.order;
      };
      waits = all_weaker
          (λ row. IsSoFar img (IsSeen done owner depth last) (HoldsOff img (hardware img.bits row.priority))
          row.longest)
          (λ row. IsSoFar img (IsSeen done owner (suc depth) 0) (HoldsOff img (hardware img.bits row.priority))
          row.longest)
          (λ row. same_so_far img (IsSeen done owner depth last) (IsSeen done owner (suc depth) 0)
          (HoldsOff img (hardware img.bits row.priority))
          (λ p holds is. ⊎_elim (λ was. inl was) (λ both. inr (both.0, on p both.1)) is)
          (λ p holds is. ⊎_elim (λ was. inl was) (λ both. inr (both.0, back p holds.enters.0 both.1)) is)
          row.longest)
          g.waits.items gathered.waits;
    }

-- an instruction on which a section is entered goes on to the next address
opens_on : (i : Instr) → opens i ≡ true → (at : ℕ) → LeadsOn i at (suc at)
opens_on instr.Mark is at = refl
opens_on (instr.Raise d v) is at = refl
opens_on (instr.Mask d) is at = refl
opens_on i is at = absurd cc

opens_stays : (i : Instr) (owner : Owner) → opens i ≡ true → owner_after i owner ≡ owner
opens_stays instr.Mark owner is = refl
opens_stays (instr.Raise d v) owner is = refl
opens_stays (instr.Mask d) owner is = refl
opens_stays i owner is = absurd cc

-- how many sections a nesting has
range_length : (opened : List Opened) (n : Nesting) → Stands opened n
    → length (inside_of opened n) ≡ n.end - n.start
range_length opened n stands =
    let starts = stands.starts in
    let ends = stands.ends in
    let front = length-take (n.end - n.start) (drop n.start opened) in
    let behind = length-drop n.start opened in
    omega (arith, starts, ends, front, behind)

row_found : (o : Option (Option Nesting)) (outside : Option Nesting) (row : Option Nesting) → o ≡ Some row
    → found_by o outside ≡ row
row_found None outside row is = absurd cc
row_found (Some other) outside row is = cc

some_there : (A : Type 0) (xs : List A) (i : ℕ) → i < length xs → (x : A) × (slice_get xs i ≡ Some x)
some_there A [] i within = absurd (omega (arith, within))
some_there A (x ∷ xs) zero within = (x, refl)
some_there A (x ∷ xs) (suc i) within = some_there A xs i (omega (arith, within))

-- what is open in a row
module _ (img : Image) (owner : Owner) (walk : Walk) (checked : IsChecked img) (mapped : IsMapped img owner walk)
    (most : ℕ) (open_most : IsMostOpen walk most) where
  abbrev opened : List Opened
  opened = walk.nestings.opened.items

  by_nesting : (q : Point) → q.address < length walk.table.rows.items → (o : Option Nesting)
      → found walk.table q.address ≡ o → option_map (inside_of opened) o ≡ Some q.inside → length q.inside ≤ most
  by_nesting q within None is reached = absurd cc
  by_nesting q within (Some n) is reached =
      let row = some_there (Option Nesting) walk.table.rows.items q.address within in
      let same : row.0 ≡ Some n = sym (row_found _ _ row.0 row.1) ∙ is in
      let got : slice_get walk.table.rows.items q.address ≡ Some (Some n) = row.1 ∙ ap Some same in
      let few = open_most q.address (Some n) within got in
      let long = range_length opened n (mapped.sound.table q.address n is) in
      let alike : inside_of opened n ≡ q.inside = (let e : Some (inside_of opened n) ≡ Some q.inside = reached in cc) in
      let as_long = ap length alike in
      omega (arith, few, long, as_long)

  pub no_deeper : (q : Point) → IsPoint img q → q.owner ≡ owner → length q.inside ≤ most
  no_deeper q is mine =
      let stays = checked rule.Addresses q is in
      let size = mapped.size in
      by_nesting q (omega (arith, stays, size)) (found walk.table q.address) refl (mapped.all q is mine)

  -- a section is entered at fewer
  pub enters_shallow : (x : Section) (p : Point) → Enters img owner x p → length p.inside < most
  enters_shallow x p enters =
      let i = enters.instr in
      let stands = enters.enters.1 in
      let opening : opens i ≡ true = (checked rule.Notes p i (Some (note.Enter x)) enters.enters).stands in
      let q : Point = point (suc p.address) (owner_after i p.owner)
      (inside_after i (Some (note.Enter x)) p.inside) in
      let to : LeadsTo img p q = record {
        line = (i, Some (note.Enter x));
        stands = stands;
        address = opens_on i opening p.address;
        owner = refl;
        inside = refl;
      } in
      let few = no_deeper q (Leads p q enters.enters.0 to) (opens_stays i p.owner opening ∙ enters.mine) in
      omega (arith, few)

  -- all points of the owner at which a section is entered come before those with so many open
  before_most : (x : Section) (p : Point) → Enters img owner x p → IsBefore most 0 p
  before_most x p enters = inl (enters_shallow x p enters)

  abbrev IsMine : SectionBound → Type 0
  IsMine row = (row.owner ≡ owner)
      × IsSectionBound img (λ p. IsBefore most 0 p × Enters img owner row.section p) row.longest

  -- the rows of the owner with those of the owners before
  rows_more : (done : List Owner) (rows own : List SectionBound) → AreEarlier owner done → AreAll img done rows
      → AreOwn img owner most 0 own → AreAll img (done ++ owner ∷ []) (rows ++ own)
  rows_more done rows own earlier all_rows is_own = record {
    each = all_append (λ row. IsSectionBound img (Enters img row.owner row.section) row.longest) rows own all_rows.each
        (all_weaker
        IsMine
        (λ row. IsSectionBound img (Enters img row.owner row.section) row.longest)
        (λ row both. subst (λ o. IsSectionBound img (Enters img o row.section) row.longest) (sym both.0)
        (same_bound img (λ p. IsBefore most 0 p × Enters img owner row.section p) (Enters img owner row.section)
        (λ p is. is.1) (λ p is. (before_most row.section p is, is)) row.longest both.1))
        own is_own.each);
    all = λ o x p is enters. ⊎_elim
        (λ was. let row = all_rows.all o x p was enters in
        (row.0, Contains-append_left rows own row.0 row.1, row.2, row.3))
        (λ same. here o x p enters same)
        (Contains-push_cases done owner o is);
    order = order_owners img done owner rows own earlier all_rows.owners
        (all_weaker IsMine (λ row. row.owner ≡ owner) (λ row both. both.0) own is_own.each) all_rows.order
        is_own.order;
    owners = all_append (λ row. Contains (done ++ owner ∷ []) row.owner) rows own
        (all_weaker (λ row. Contains done row.owner) (λ row. Contains (done ++ owner ∷ []) row.owner)
        (λ row is. Contains-append_left done (owner ∷ []) row.owner is) rows all_rows.owners)
        (all_weaker IsMine (λ row. Contains (done ++ owner ∷ []) row.owner)
        (λ row both. subst (Contains (done ++ owner ∷ [])) (sym both.0) (Contains-push done owner)) own is_own.each);
  }
    where
      at_contains : (xs : List SectionBound) (i : ℕ) (row : SectionBound) → slice_get xs i ≡ Some row → Contains xs row
      at_contains [] i row is = absurd cc
      at_contains (y ∷ xs) zero row is =
          subst (Contains (y ∷ xs)) (let e : Some y ≡ Some row = is in cc) (contains_here y xs)
      at_contains (y ∷ xs) (suc i) row is = contains_there y xs row (at_contains xs i row is)

      here : (o : Owner) (x : Section) (p : Point) → Enters img o x p → owner ≡ o
          → (row : SectionBound) × Contains (rows ++ own) row × (row.owner ≡ o) × (row.section ≡ x)
      here o x p enters same =
          let mine : Enters img owner x p = subst (λ other. Enters img other x p) (sym same) enters in
          let found_row = any_one (λ row. is_same_section row.section x) own
          (is_own.all x p (before_most x p mine) mine) in
          let row = found_row.1 in
          let of_owner = all_at (λ (r : SectionBound). (r.owner ≡ owner)
          × IsSectionBound img (λ q. IsBefore most 0 q × Enters img owner r.section q) r.longest) own found_row.0 row
          is_own.each found_row.2 in (
            row,
            Contains-append_right rows own row (at_contains own found_row.0 row found_row.2),
            of_owner.0 ∙ same,
            one_section row.section x found_row.3,
          )

  pub owner_done : (done : List Owner) (old new : Gathered) (rows : List SectionBound) → AreEarlier owner done
      → AreAll img done rows
      → IsGatheredTo img done owner most 0 old → new.own.items ≡ [] → new.sections.items ≡ rows ++ old.own.items
      → new.waits.items ≡ old.waits.items → IsGathered img (done ++ owner ∷ []) new
  owner_done done old new rows earlier all_rows gathered empty more same = record {
    own = empty;
    sections = subst (AreAll img (done ++ owner ∷ [])) (sym more)
        (rows_more done rows old.own.items earlier all_rows gathered.own);
    waits = subst (AllByRecursion (λ row. IsSoFar img (λ p. Contains (done ++ owner ∷ []) p.owner)
        (HoldsOff img (hardware img.bits row.priority)) row.longest)) (sym same)
        (all_weaker
        (λ row. IsSoFar img (IsSeen done owner most 0) (HoldsOff img (hardware img.bits row.priority)) row.longest)
        (λ row. IsSoFar img (λ p. Contains (done ++ owner ∷ []) p.owner)
        (HoldsOff img (hardware img.bits row.priority)) row.longest)
        (λ row. same_so_far img (IsSeen done owner most 0) (λ p. Contains (done ++ owner ∷ []) p.owner)
        (HoldsOff img (hardware img.bits row.priority)) to from row.longest)
        old.waits.items gathered.waits);
  }
    where
      to : {value : ℕ} (p : Point) → HoldsOff img value p → IsSeen done owner most 0 p
          → Contains (done ++ owner ∷ []) p.owner
      to p holds (inl was) = Contains-append_left done (owner ∷ []) p.owner was
      to p holds (inr both) = subst (Contains (done ++ owner ∷ [])) (sym both.0) (Contains-push done owner)

      from : {value : ℕ} (p : Point) → HoldsOff img value p → Contains (done ++ owner ∷ []) p.owner
          → IsSeen done owner most 0 p
      from p holds is = ⊎_elim
          (λ was. inl was)
          (λ same. inr (
            sym same,
            before_most holds.section p (record {
              mine = sym same;
              instr = holds.instr;
              enters = holds.enters;
            }),
          ))
          (Contains-push_cases done owner p.owner is)
