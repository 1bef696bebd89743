-- The rows of an owner's sections and of priorities, with one point more.
use Rattle.std.proofs.Common.{◌≡◌, ◌⊎◌, ◌≤◌, ◌<◌, ◌+◌, ◌||◌, ℕ, Bool, true, false, nat_le, nat_lt}
use Rattle.std.proofs.Common.{List, [], ◌∷◌, ◌++◌, map, length, slice_get, if◌then◌else◌, Option, Some, None, refl, sym}
use Rattle.std.proofs.Common.{ap, subst, ◌∙◌, inl, inr, ⊎_elim, arith}
use Rattle.std.specs.List.{AllByRecursion, list_any}
use Rattle.std.proofs.lemmas.Bool.{cases_lt}
use Rattle.rt_lemmas.proofs.Bools.{and_parts, and_both, or_left, both_of_none}
use Rattle.rt_lemmas.proofs.Membership.{all_append, all_weaker, any_left, any_right}
use Rattle.rt_actions.specs.Location.{is_same_section}
use Rattle.rt_actions.proofs.Sections.{one_section}
use Rattle.rt_ids.specs.Priority.{hardware}
use Rattle.rt_ids.specs.declared.ids.Section.{Section}
use Rattle.rt_code.specs.Image.{Image}
use Rattle.rt_code.specs.declared.instr.Instr.{Instr}
use Rattle.rt_code.specs.declared.instr.Note.{Note}
use Rattle.rt_code.specs.declared.instr.Note.TheVariants as note
use Rattle.rt_code.proofs.Mine.{same_section}
use Rattle.rt_points.specs.ExecutionPriority.{execution_priority}
use Rattle.rt_points.specs.Leading.{IsPoint, inside_after}
use Rattle.rt_points.specs.Point.{Point}
use Rattle.rt_points.specs.declared.point.Owner.{Owner}
use Rattle.rt_bounds.specs.Bounds.{Enters, HoldsOff, IsBoundFrom, IsSectionBound, StandsBefore, depth_inside}
use Rattle.rt_bounds.specs.Inside.Gathered.{IsEntry, EntersNothing, has_row, widened, rows_with, holds_off, held}
use Rattle.rt_bounds.specs.Inside.Gathered.{IsSoFar, IsBefore, IsSeen, AreOwn, AreWaitsSoFar, worse, worst}
use Rattle.rt_bounds.specs.declared.bound.SectionBound.{SectionBound}
use Rattle.rt_bounds.specs.declared.bound.WaitBound.{WaitBound}
use Rattle.rt_bounds.specs.declared.gathered.Entry.{Entry}
use Rattle.rt_bounds.specs.declared.longest.Longest.{Longest}
use Rattle.rt_bounds.proofs.Orders.{bound_point, before_other, order_push, order_widened}
use Rattle.rt_bounds.proofs.SoFar.{past, more, same_bound, same_so_far}

-- what holds of each holds of each that a function gives
all_map : {X Y : Type 0} (P : X → Type 0) (Q : Y → Type 0) (f : X → Y) → ((x : X) → P x → Q (f x)) → (xs : List X)
    → AllByRecursion P xs → AllByRecursion Q (map f xs)
all_map P Q f step [] all = tt
all_map P Q f step (x ∷ xs) all = (step x all.0, all_map P Q f step xs all.1)

-- the same where each fails a test that the list fails
all_failing : {X : Type 0} (test : X → Bool) (P Q : X → Type 0) → ((x : X) → test x ≡ false → P x → Q x)
    → (xs : List X) → list_any test xs ≡ false → AllByRecursion P xs → AllByRecursion Q xs
all_failing test P Q step [] none all = tt
all_failing test P Q step (x ∷ xs) none all =
    let both = both_of_none (test x) (list_any test xs) none in
    (step x both.0 all.0, all_failing test P Q step xs both.1 all.1)

-- the line at a point enters one section
line_section : (i j : Instr) (x y : Section) (o : Option (Instr × Option Note)) → o ≡ Some (i, Some (note.Enter x))
    → o ≡ Some (j, Some (note.Enter y)) → (i ≡ j) × (x ≡ y)
line_section i j x y o is other =
    let e : Some (i, Some (note.Enter x)) ≡ Some (j, Some (note.Enter y)) = sym is ∙ other in
    (ap (instr_of i) e, ap (section_of x) e)
  where
    instr_of : Instr → Option (Instr × Option Note) → Instr
    instr_of i None = i
    instr_of i (Some line) = line.0

    entered : Section → Option Note → Section
    entered x (Some (note.Enter y)) = y
    entered x told = x

    section_of : Section → Option (Instr × Option Note) → Section
    section_of x None = x
    section_of x (Some line) = entered x line.1

-- who comes before the next address comes before this one, or is at it
before_cases : (depth address : ℕ) (p : Point) → IsBefore depth (address + 1) p
    → IsBefore depth address p ⊎ ((length p.inside ≡ depth) × (p.address ≡ address))
before_cases depth address p (inl less) = inl (inl less)
before_cases depth address p (inr both) = ⊎_elim
    (λ lt. inl (inr (both.0, lt)))
    (λ ge. inr (both.0, (let h = both.1 in omega (arith, h, ge))))
    (cases_lt p.address address)

before_more : (depth address : ℕ) (p : Point) → IsBefore depth address p → IsBefore depth (address + 1) p
before_more depth address p (inl less) = inl less
before_more depth address p (inr both) = inr (both.0, (let h = both.1 in omega (arith, h)))

-- there is a row of a section with one more bound
has_widened : (x y : Section) (longest : Longest) (rows : List SectionBound)
    → has_row (map (widened x longest) rows) y ≡ has_row rows y
has_widened x y longest [] = refl
has_widened x y longest (row ∷ rows) =
    ap (λ b. b || has_row (map (widened x longest) rows) y) (same_row row)
    ∙ ap (λ b. is_same_section row.section y || b) (has_widened x y longest rows)
  where
    by_test : (row : SectionBound) (b : Bool)
        → is_same_section (if b then record row { longest = worse row.longest longest } else row).section y
        ≡ is_same_section row.section y
    by_test row true = refl
    by_test row false = refl

    same_row : (row : SectionBound) → is_same_section (widened x longest row).section y ≡ is_same_section row.section y
    same_row row = by_test row (is_same_section row.section x)

module _ (img : Image) (owner : Owner) (depth address : ℕ) (c : Point) (mine : c.owner ≡ owner)
    (deep : length c.inside ≡ depth) (there : c.address ≡ address) (is : IsPoint img c)
    (one : (p : Point) → IsPoint img p → p.owner ≡ owner → p.address ≡ address → c ≡ p) where
  abbrev Seen : Point → Type 0
  Seen p = IsBefore depth address p

  abbrev New : Point → Type 0
  New p = IsBefore depth (address + 1) p

  now : New c
  now = inr (deep, (let h = there in omega (arith, h)))

  splits : (x : Section) (p : Point) → New p → Enters img owner x p → Seen p ⊎ (c ≡ p)
  splits x p new enters = ⊎_elim
      (λ seen. inl seen)
      (λ at. inr (one p enters.enters.0 enters.mine at.1))
      (before_cases depth address p new)

  -- a section is entered there
  module _ (e : Entry) (entry : IsEntry img c e) (longest : Longest)
      (bound : IsBoundFrom img (depth_inside c) c longest) where
    entered : Enters img owner e.section c
    entered = record { mine = mine; instr = entry.instr; enters = (is, entry.stands) }

    only : (x : Section) → Enters img owner x c → x ≡ e.section
    only x other = (line_section other.instr entry.instr x e.section (slice_get img.code c.address) other.enters.1
        entry.stands).1

    abbrev IsRowOf : (Point → Type 0) → SectionBound → Type 0
    IsRowOf At row =
        (row.owner ≡ owner) × IsSectionBound img (λ p. At p × Enters img owner row.section p) row.longest

    row_past : (row : SectionBound) → is_same_section row.section e.section ≡ false → IsRowOf Seen row
        → IsRowOf New row
    row_past row apart both = (
      both.0,
      past img Seen New (Enters img owner row.section) c (before_more depth address) (splits row.section)
          (Some row.longest)
          (λ other. let same = only row.section other in
          let alike : is_same_section row.section e.section ≡ true = subst
          (λ y. is_same_section row.section y ≡ true) same
          (same_section row.section) in cc)
          both.1,
    )

    row_more : (row : SectionBound) → is_same_section row.section e.section ≡ true → IsRowOf Seen row
        → IsRowOf New (record row { longest = worst (Some row.longest) longest })
    row_more row same both =
        let alike = one_section row.section e.section same in (
          both.0,
          more img Seen New (Enters img owner row.section) c (before_more depth address) (splits row.section)
              now (subst (λ x. Enters img owner x c) (sym alike) entered) (Some row.longest) longest bound both.1,
        )

    row_widened : (row : SectionBound) → IsRowOf Seen row → IsRowOf New (widened e.section longest row)
    row_widened row both =
        elim (is_same_section row.section e.section) as (λ b. is_same_section row.section e.section ≡ b
        → IsRowOf New (if b then record row { longest = worst (Some row.longest) longest } else row)) [
          | true ↦ λ passes. row_more row passes both
          | false ↦ λ fails. row_past row fails both
        ] refl

    new_row : (rows : List SectionBound) → AreOwn img owner depth address rows → has_row rows e.section ≡ false
        → IsRowOf New (record { owner = owner; section = e.section; longest = longest })
    new_row rows own none = (
      refl,
      more img Seen New (Enters img owner e.section) c (before_more depth address) (splits e.section)
          now entered None longest bound
          (λ p seen enters. let had = own.all e.section p seen enters in cc),
    )

    row_before : (rows : List SectionBound) → AreOwn img owner depth address rows → has_row rows e.section ≡ false
        → (row : SectionBound) → IsRowOf Seen row
        → StandsBefore img row (record { owner = owner; section = e.section; longest = longest })
    row_before rows own none row both =
        let at = bound_point img (λ p. Seen p × Enters img owner row.section p) row.longest both.1 in
        inr (
          both.0,
          record {
            point = at.0;
            enters = at.1.1;
            before = λ q other. before_other depth address at.0 q at.1.0
                (λ seen. let had = own.all e.section q seen other in cc);
          },
        )

    has_all_with : (rows : List SectionBound) (b : Bool) → has_row rows e.section ≡ b → (y : Section)
        → (has_row rows y ≡ true) ⊎ (y ≡ e.section)
        → has_row (if b then map (widened e.section longest) rows
        else rows ++ record { owner = owner; section = e.section; longest = longest } ∷ []) y ≡ true
    has_all_with rows true has y (inl was) = has_widened e.section y longest rows ∙ was
    has_all_with rows true has y (inr same) =
        has_widened e.section y longest rows ∙ ap (has_row rows) same ∙ has
    has_all_with rows false has y (inl was) =
        any_left (λ row. is_same_section row.section y) rows _ was
    has_all_with rows false has y (inr same) =
        any_right (λ row. is_same_section row.section y) rows
        (record { owner = owner; section = e.section; longest = longest } ∷ [])
        (or_left (is_same_section e.section y) false
        (subst (λ x. is_same_section x y ≡ true) same (same_section y)))

    pub own_more : (rows : List SectionBound) → AreOwn img owner depth address rows
        → AreOwn img owner depth (address + 1) (rows_with owner e.section longest rows)
    own_more rows own =
        elim (has_row rows e.section) as (λ b. has_row rows e.section ≡ b
        → AreOwn img owner depth (address + 1) (if b then map (widened e.section longest) rows
        else rows ++ record { owner = owner; section = e.section; longest = longest } ∷ [])) [
          | true ↦ λ passes. record {
            each = all_map (IsRowOf Seen) (IsRowOf New) (widened e.section longest) row_widened rows own.each;
            all = λ y p new enters. has_all_with rows true passes y (had y p new enters);
            order = order_widened img e.section longest rows own.order;
          }
          | false ↦ λ fails. record {
            each = all_append (IsRowOf New) rows
                (record { owner = owner; section = e.section; longest = longest } ∷ [])
                (all_failing (λ row. is_same_section row.section e.section) (IsRowOf Seen) (IsRowOf New) row_past rows
                fails own.each)
                (new_row rows own fails, tt);
            all = λ y p new enters. has_all_with rows false fails y (had y p new enters);
            order = order_push img rows (record { owner = owner; section = e.section; longest = longest }) own.order
                (all_weaker (IsRowOf Seen)
                (λ a. StandsBefore img a (record { owner = owner; section = e.section; longest = longest }))
                (row_before rows own fails) rows own.each);
          }
        ] refl
      where
        had : (y : Section) (p : Point) → New p → Enters img owner y p → (has_row rows y ≡ true) ⊎ (y ≡ e.section)
        had y p new enters = ⊎_elim
            (λ seen. inl (own.all y p seen enters))
            (λ same. inr (only y (subst (Enters img owner y) (sym same) enters)))
            (splits y p new enters)

  -- the same of priorities
  module _ (done : List Owner) where
    abbrev SeenBy : Point → Type 0
    SeenBy p = IsSeen done owner depth address p

    abbrev NewBy : Point → Type 0
    NewBy p = IsSeen done owner depth (address + 1) p

    keeps_by : (p : Point) → SeenBy p → NewBy p
    keeps_by p (inl before) = inl before
    keeps_by p (inr both) = inr (both.0, before_more depth address p both.1)

    splits_by : (value : ℕ) (p : Point) → NewBy p → HoldsOff img value p → SeenBy p ⊎ (c ≡ p)
    splits_by value p (inl before) holds = inl (inl before)
    splits_by value p (inr both) holds = ⊎_elim
        (λ seen. inl (inr (both.0, seen)))
        (λ at. inr (one p holds.enters.0 both.0 at.1))
        (before_cases depth address p both.1)

    abbrev IsWaitOf : (Point → Type 0) → WaitBound → Type 0
    IsWaitOf At row = IsSoFar img At (HoldsOff img (hardware img.bits row.priority)) row.longest

    module _ (e : Entry) (entry : IsEntry img c e) (longest : Longest)
        (bound : IsBoundFrom img (depth_inside c) c longest) where
      holds : (value : ℕ) → holds_off value e ≡ true → HoldsOff img value c
      holds value passes =
          let both = and_parts (nat_le e.inside value) (nat_lt value e.outside) passes in
          let low : e.inside ≤ value = grind (arith, both.0) in
          let high : value < e.outside = grind (arith, both.1) in
          let inside = entry.inside in
          let outside = entry.outside in
          record {
            instr = entry.instr;
            section = e.section;
            enters = (is, entry.stands);
            outside = omega (arith, high, outside);
            inside = omega (arith, low, inside);
          }

      held_so : (value : ℕ) → HoldsOff img value c → holds_off value e ≡ true
      held_so value off =
          let same = line_section off.instr entry.instr off.section e.section (slice_get img.code c.address)
          off.enters.1 entry.stands in
          let inside = entry.inside in
          let outside = entry.outside in
          let above = off.outside in
          let below : execution_priority img c.owner
          (inside_after entry.instr (Some (note.Enter e.section)) c.inside) ≤ value =
          subst (λ (i : Instr). execution_priority img c.owner (inside_after i (Some (note.Enter e.section)) c.inside)
          ≤ value) same.0
          (subst (λ (x : Section). execution_priority img c.owner
          (inside_after off.instr (Some (note.Enter x)) c.inside) ≤ value) same.1 off.inside) in
          let low : e.inside ≤ value = omega (arith, below, inside) in
          let high : value < e.outside = omega (arith, above, outside) in
          and_both (nat_le e.inside value) (nat_lt value e.outside) (grind (arith, low)) (grind (arith, high))

      now_by : NewBy c
      now_by = inr (mine, now)

      row_held : (row : WaitBound) → IsWaitOf SeenBy row → IsWaitOf NewBy (held img.bits e longest row)
      row_held row so_far =
          let value = hardware img.bits row.priority in
          elim (holds_off value e) as (λ b. holds_off value e ≡ b
          → IsWaitOf NewBy (if b then record row { longest = Some (worst row.longest longest) } else row)) [
            | true ↦ λ passes. more img SeenBy NewBy (HoldsOff img value) c keeps_by (splits_by value) now_by
                (holds value passes) row.longest longest bound so_far
            | false ↦ λ fails. past img SeenBy NewBy (HoldsOff img value) c keeps_by (splits_by value) row.longest
                (λ off. let passes = held_so value off in cc) so_far
          ] refl

      pub waits_more : (rows : List WaitBound) → AreWaitsSoFar img done owner depth address rows
          → AreWaitsSoFar img done owner depth (address + 1) (map (held img.bits e longest) rows)
      waits_more rows all = all_map (IsWaitOf SeenBy) (IsWaitOf NewBy) (held img.bits e longest) row_held rows all

-- where nothing is entered at an address with so many sections open
module _ (img : Image) (owner : Owner) (depth address : ℕ)
    (none : (p : Point) → IsPoint img p → p.owner ≡ owner → length p.inside ≡ depth → p.address ≡ address
    → EntersNothing img p) where
  before_still : (p : Point) → IsPoint img p → p.owner ≡ owner → (i : Instr) → (x : Section)
      → slice_get img.code p.address ≡ Some (i, Some (note.Enter x)) → IsBefore depth (address + 1) p
      → IsBefore depth address p
  before_still p is mine i x enters before = ⊎_elim
      (λ seen. seen)
      (λ at. absurd (none p is mine at.0 at.1 i x enters))
      (before_cases depth address p before)

  pub own_skip : (rows : List SectionBound) → AreOwn img owner depth address rows
      → AreOwn img owner depth (address + 1) rows
  own_skip rows own = record {
    each = all_weaker
        (λ row. (row.owner ≡ owner) × IsSectionBound img (λ p. IsBefore depth address p
        × Enters img owner row.section p) row.longest)
        (λ row. (row.owner ≡ owner) × IsSectionBound img (λ p. IsBefore depth (address + 1) p
        × Enters img owner row.section p) row.longest)
        (λ row both. (
          both.0,
          same_bound img (λ p. IsBefore depth address p × Enters img owner row.section p)
              (λ p. IsBefore depth (address + 1) p × Enters img owner row.section p)
              (λ p is. (before_more depth address p is.0, is.1))
              (λ p is. (before_still p is.1.enters.0 is.1.mine is.1.instr row.section is.1.enters.1 is.0, is.1))
              row.longest both.1,
        ))
        rows own.each;
    all = λ x p before enters. own.all x p
        (before_still p enters.enters.0 enters.mine enters.instr x enters.enters.1 before) enters;
    order = own.order;
  }

  pub waits_skip : (done : List Owner) (rows : List WaitBound) → AreWaitsSoFar img done owner depth address rows
      → AreWaitsSoFar img done owner depth (address + 1) rows
  waits_skip done rows all =
      all_weaker
      (λ row. IsSoFar img (IsSeen done owner depth address) (HoldsOff img (hardware img.bits row.priority))
      row.longest)
      (λ row. IsSoFar img (IsSeen done owner depth (address + 1)) (HoldsOff img (hardware img.bits row.priority))
      row.longest)
      (λ row. same_so_far img (IsSeen done owner depth address) (IsSeen done owner depth (address + 1))
      (HoldsOff img (hardware img.bits row.priority))
      (λ p holds is. ⊎_elim (λ was. inl was) (λ both. inr (both.0, before_more depth address p both.1)) is)
      (λ p holds is. ⊎_elim (λ was. inl was)
      (λ both. inr (both.0, before_still p holds.enters.0 both.0 holds.instr holds.section holds.enters.1 both.1)) is)
      row.longest)
      rows all
