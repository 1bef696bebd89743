-- What the rules say of an image whose points were all looked at.
use Rattle.std.proofs.Common.{◌≡◌, ◌≢◌, ◌↔◌, ◌≤◌, ◌<◌, ◌&&◌, ◌||◌, ◌==◌, Bool, true, false, not, IsTrue, ℕ, zero, suc}
use Rattle.std.proofs.Common.{List, [], ◌∷◌}
use Rattle.std.proofs.Common.{length, slice_get, Option, Some, None, refl, sym, subst, ◌∙◌, arith}
use Rattle.std.proofs.Common.{nat_le}
use Rattle.std.specs.List.{list_all}
use Rattle.std.proofs.lemmas.Bool.{eqb-true}
use Rattle.std.proofs.lemmas.Option.{none-some, slice_get-get_or}
use Rattle.rt_lemmas.proofs.Bools.{and_left, and_right, not_false}
use Rattle.rt_lemmas.proofs.Membership.{all_has, all_at, all_weaker, any_one}
use Rattle.rt_ids.specs.Choice.{IsIn}
use Rattle.rt_actions.specs.Location.{is_same_section}
use Rattle.rt_actions.proofs.Sections.{one_section}
use Rattle.rt_ids.specs.declared.ids.Section.{Section}
use Rattle.rt_code.specs.Access.{Access}
use Rattle.rt_code.specs.Image.{Image}
use Rattle.rt_code.specs.declared.instr.Instr.{Instr}
use Rattle.rt_points.specs.Checked.{Keeps, IsChecked, rule_number}
use Rattle.rt_points.specs.Leading.{IsPoint}
use Rattle.rt_points.specs.ExecutionPriority.{owner_value}
use Rattle.rt_points.specs.Point.{Point}
use Rattle.rt_points.specs.Rules.{NestsInOneWay, HasRightNumbers, StaysInCode, OperatesWell, NotesWell, EntersWell}
use Rattle.rt_points.specs.Rules.{GuardsCells, priority_after}
use Rattle.rt_points.specs.Rules.{EntersAt, Touches, IsContended, IsGuardedBy}
use Rattle.rt_points.specs.Rules.{IsStore, HasItsCell}
use Rattle.rt_points.specs.declared.point.Owner.TheVariants.{Starting}
use Rattle.rt_points.specs.declared.rule.Rule.{Rule}
use Rattle.rt_points.specs.declared.rule.Rule.TheVariants as rule
use Rattle.rt_judge.specs.Inside.Kept.{HasLine, OperatesAt, NotesAt, FreeAt}
use Rattle.rt_judge.specs.Inside.Entering.{Enterer, IsEntering, IsLeastOrNone, holds_off, none_or}
use Rattle.rt_judge.specs.Inside.Touching.{Toucher, TellsOfTouching, SomeIfTrue, is_row_guarded}
use Rattle.rt_judge.specs.Inside.Looks.{Looked}
use Rattle.rt_judge.specs.declared.entering.Entering.{Entering}
use Rattle.rt_judge.specs.declared.touching.Touching.{Touching}
use Rattle.rt_judge.specs.declared.findings.Findings.{Findings}

-- rules by their numbers
module _ (img : Image) (n : ℕ) (a : 1 < n → NestsInOneWay img) (b : 2 < n → HasRightNumbers img)
    (c : 3 < n → StaysInCode img)
    (d : 4 < n → OperatesWell img) (e : 5 < n → NotesWell img) (f : 6 < n → EntersWell img)
    (g : 7 < n → GuardsCells img) where
  pub keeps_below : (r : Rule) → rule_number r < n → Keeps img r
  keeps_below rule.Nesting lt = a lt
  keeps_below rule.Numbers lt = b lt
  keeps_below rule.Addresses lt = c lt
  keeps_below rule.Operands lt = d lt
  keeps_below rule.Notes lt = e lt
  keeps_below rule.Ceilings lt = f lt
  keeps_below rule.Guards lt = g lt

pub checked : (img : Image) → NestsInOneWay img → HasRightNumbers img → StaysInCode img → OperatesWell img
    → NotesWell img
    → EntersWell img → GuardsCells img → IsChecked img
checked img a b c d e f g rule.Nesting = a
checked img a b c d e f g rule.Numbers = b
checked img a b c d e f g rule.Addresses = c
checked img a b c d e f g rule.Operands = d
checked img a b c d e f g rule.Notes = e
checked img a b c d e f g rule.Ceilings = f
checked img a b c d e f g rule.Guards = g

le_of : (m n : ℕ) → nat_le m n ≡ true → m ≤ n
le_of m n pass = grind (arith, pass)

lt_of : (m n : ℕ) → nat_le m n ≡ false → n < m
lt_of m n fail = grind (arith, fail)

pub is_false : (b : Bool) {P : Type 0} → b ≡ false → IsTrue b ↔ P → ¬ P
is_false b fail tells p = let pass = tells.1 p in cc

-- a test that fails somewhere in a list
record FailsAt {X : Type 0} (test : X → Bool) (xs : List X) : Type 0 where
  index : ℕ
  item : X
  at : slice_get xs index ≡ Some item
  fails : test item ≡ false

fails_at : {X : Type 0} (test : X → Bool) (xs : List X) → list_all test xs ≡ false → FailsAt test xs
fails_at test [] fail = absurd cc
fails_at {X} test (x ∷ xs) fail = elim (test x) as (λ b. test x ≡ b → (b && list_all test xs) ≡ false
    → FailsAt test (x ∷ xs)) [
      | true ↦ λ e rest. let later = fails_at test xs rest in
          record { index = suc later.index; item = later.item; at = later.at; fails = later.fails }
      | false ↦ λ e rest. record { index = 0; item = x; at = refl; fails = e }
    ] refl fail

holds_at : {X : Type 0} (test : X → Bool) (xs : List X) (i : ℕ) (x : X) → list_all test xs ≡ true → slice_get xs i
    ≡ Some x → test x ≡ true
holds_at test [] i x all at = absurd (none-some x at)
holds_at test (y ∷ xs) zero x all at = let e : y ≡ x = cc in subst (λ z. test z ≡ true) e
    (and_left (test y) (list_all test xs) all)
holds_at test (y ∷ xs) (suc i) x all at = holds_at test xs i x (and_right (test y) (list_all test xs) all) at

module _ (img : Image) (f : Findings) (looked : Looked img f) where
  pub stays : f.addresses ≡ true → StaysInCode img
  stays pass p is = all_has (HasLine img) looked.points p (looked.finds.addresses.0 pass) (looked.all p is)

  pub not_stays : f.addresses ≡ false → ¬ StaysInCode img
  not_stays fail all = is_false f.addresses fail looked.finds.addresses
      (all_weaker (IsPoint img) (HasLine img) all looked.points looked.sound)

  pub operates : f.operands ≡ true → OperatesWell img
  operates pass p i told stands =
      all_has (OperatesAt img) looked.points p (looked.finds.operands.0 pass) (looked.all p stands.0) i told stands.1

  pub not_operates : f.operands ≡ false → ¬ OperatesWell img
  not_operates fail all = is_false f.operands fail looked.finds.operands
      (all_weaker (IsPoint img) (OperatesAt img) (λ p is i told at. all p i told (is, at)) looked.points looked.sound)

  pub notes : f.notes ≡ true → NotesWell img
  notes pass p i told stands =
      all_has (NotesAt img) looked.points p (looked.finds.notes.0 pass) (looked.all p stands.0) i told stands.1

  pub not_notes : f.notes ≡ false → ¬ NotesWell img
  not_notes fail all = is_false f.notes fail looked.finds.notes
      (all_weaker (IsPoint img) (NotesAt img) (λ p is i told at. all p i told (is, at)) looked.points looked.sound)

  -- ceilings
  enterer : (p : Point) (i : Instr) (x : Section) → EntersAt img p i x → Enterer img looked.points x p i
  enterer p i x stands = record { seen = looked.all p stands.0; enters = stands.1 }

  enters_at : (p : Point) (i : Instr) (x : Section) → Enterer img looked.points x p i → EntersAt img p i x
  enters_at p i x e = (all_has (IsPoint img) looked.points p looked.sound e.seen, e.enters)

  -- a row that holds off everyone who enters
  row_high : (row : Entering) → IsEntering img looked.points row.section row → holds_off row ≡ true
      → (p q : Point) (i j : Instr)
      → Enterer img looked.points row.section p i → Enterer img looked.points row.section q j → q.owner ≢ Starting
      → priority_after img p i row.section ≤ owner_value img q.owner
  row_high row is pass p q i j enters others outside = by_value row.value is.value pass
    where
      by_value : (v : Option ℕ) → IsLeastOrNone img looked.points row.section v
          → none_or (λ value. nat_le row.weakest value) v ≡ true
          → priority_after img p i row.section ≤ owner_value img q.owner
      by_value None none pass = absurd (outside (none q j others))
      by_value (Some v) l pass =
          let high = is.weakest.all p i enters in
          let low = l.all q j others outside in
          let holds : row.weakest ≤ v = le_of row.weakest v pass in
          omega (arith, high, low, holds)

  pub enters : (f.sections.free && list_all holds_off f.sections.rows.items) ≡ true → EntersWell img
  enters pass p i x stands =
      let free = and_left f.sections.free (list_all holds_off f.sections.rows.items) pass in
      let all = and_right f.sections.free (list_all holds_off f.sections.rows.items) pass in
      record {
        free = all_has (FreeAt img) looked.points p (looked.finds.sections.free.0 free) (looked.all p stands.0) i x
            stands.1;
        others = λ q j outside other.
            let row = any_one (λ (r : Entering). is_same_section r.section x) f.sections.rows.items
            (looked.finds.sections.each x p i (enterer p i x stands)) in
            let same : row.1.section ≡ x = one_section row.1.section x row.3 in
            let is = all_at (λ (r : Entering). IsEntering img looked.points r.section r) f.sections.rows.items row.0
            row.1
            looked.finds.sections.rows row.2 in
            let high = holds_at holds_off f.sections.rows.items row.0 row.1 all row.2 in
            subst (λ y. priority_after img p i y ≤ owner_value img q.owner) same
            (row_high row.1 is high p q i j
            (subst (λ y. Enterer img looked.points y p i) (sym same) (enterer p i x stands))
            (subst (λ y. Enterer img looked.points y q j) (sym same) (enterer q j x other)) outside);
      }

  row_low : (row : Entering) → IsEntering img looked.points row.section row → holds_off row ≡ false → ¬ EntersWell img
  row_low row is fail all = by_value row.value is.value fail
    where
      by_value : (v : Option ℕ) → IsLeastOrNone img looked.points row.section v
          → none_or (λ value. nat_le row.weakest value) v ≡ false → ⊥
      by_value None none fail = absurd cc
      by_value (Some v) l fail =
          let p = is.weakest.point in
          let q = l.point in
          let holds = (all p is.weakest.instr row.section
          (enters_at p is.weakest.instr row.section is.weakest.enterer)).others q l.instr
          l.outside (enters_at q l.instr row.section l.enterer) in
          let weakest : priority_after img p is.weakest.instr row.section ≡ row.weakest = is.weakest.is in
          let value : owner_value img q.owner ≡ v = l.is in
          let above : v < row.weakest = lt_of row.weakest v fail in
          let low : priority_after img p is.weakest.instr row.section ≤ owner_value img q.owner = holds in
          absurd (omega (arith, weakest, value, above, low))

  pub not_enters : (f.sections.free && list_all holds_off f.sections.rows.items) ≡ false → ¬ EntersWell img
  not_enters fail all = elim f.sections.free as (λ b. f.sections.free ≡ b
      → (b && list_all holds_off f.sections.rows.items) ≡ false → ⊥) [
        | true ↦ λ e rest.
            let row = fails_at holds_off f.sections.rows.items rest in
            row_low row.item (all_at (λ (r : Entering). IsEntering img looked.points r.section r) f.sections.rows.items
            row.index row.item
            looked.finds.sections.rows row.at) row.fails all
        | false ↦ λ e rest. is_false f.sections.free e looked.finds.sections.free
            (all_weaker (IsPoint img) (FreeAt img) (λ p is i x at. (all p i x (is, at)).free) looked.points
            looked.sound)
      ] refl fail

  -- cells
  toucher : (cell : ℕ) (p : Point) (t : Touches img cell p) → Toucher img looked.points cell p t.access
  toucher cell p t = record {
    seen = looked.all p t.stands.0;
    outside = t.outside;
    instr = t.instr;
    told = t.told;
    stands = t.stands.1;
    by = t.by;
    touches = t.touches;
  }

  abbrev touches : (cell : ℕ) (p : Point) (a : Access) → Toucher img looked.points cell p a → Touches img cell p
  touches cell p a t = record {
    outside = t.outside;
    instr = t.instr;
    told = t.told;
    stands = (all_has (IsPoint img) looked.points p looked.sound t.seen, t.stands);
    access = a;
    by = t.by;
    touches = t.touches;
  }

  in_memory : OperatesWell img → (cell : ℕ) (p : Point) → Touches img cell p → cell < length img.cells
  in_memory operating cell p t =
      let has = (operating p t.instr t.told t.stands).cell in
      subst (λ n. n < length img.cells) t.touches (subst (HasItsCell (length img.cells)) t.by has)

  -- a guarded row
  row_guards : (cell : ℕ) (row : Option Touching) → TellsOfTouching img looked.points cell row → is_row_guarded row
      ≡ true
      → IsContended img cell → (x : Section) × IsGuardedBy img cell x
  row_guards cell None none pass c = absurd (none c.storer c.stored.access (toucher cell c.storer c.stored))
  row_guards cell (Some t) is pass c = by_stored t.stored is.stored t.differ is.differ pass
    where
      guarded_by : (xs : List Section) → xs ≡ t.sections.items → not (length xs == 0) ≡ true → (x : Section)
          × IsGuardedBy img cell x
      guarded_by [] e fail = absurd cc
      guarded_by (x ∷ xs) e some =
          (x, λ p h. is.guards x (subst (λ ys. IsIn ys x) e (0, refl)) p h.access (toucher cell p h))

      by_stored : (b : Bool) → SomeIfTrue b (λ p a. Toucher img looked.points cell p a × IsStore a) → (d : Bool)
          → SomeIfTrue d (λ p a. Toucher img looked.points cell p a × (owner_value img p.owner ≢ t.value))
          → (not b || (not d || not (length t.sections.items == 0))) ≡ true → (x : Section) × IsGuardedBy img cell x
      by_stored false none d differ pass = absurd (none c.storer c.stored.access
          (toucher cell c.storer c.stored, c.is_store))
      by_stored true some false same pass = absurd (same c.one c.one_touches.access (
        toucher cell c.one c.one_touches,
        λ one. same c.other c.other_touches.access (
          toucher cell c.other c.other_touches,
          λ other. c.differ (one ∙ sym other),
        ),
      ))
      by_stored true some true differ pass = guarded_by t.sections.items refl pass

  pub guards : OperatesWell img → list_all is_row_guarded f.cells.rows.items ≡ true → GuardsCells img
  guards operating pass cell c =
      let within : cell < length f.cells.rows.items =
      let lt = in_memory operating cell c.storer c.stored in let long = looked.finds.rows in omega (arith, lt, long) in
      let at = slice_get-get_or f.cells.rows.items cell None within in
      row_guards cell _ (looked.finds.cells cell _ at) (holds_at is_row_guarded f.cells.rows.items cell _ pass at) c

  row_unguarded : (cell : ℕ) (row : Option Touching) → TellsOfTouching img looked.points cell row → is_row_guarded row
      ≡ false
      → ¬ GuardsCells img
  row_unguarded cell None none fail all = absurd cc
  row_unguarded cell (Some t) is fail all = by_stored t.stored is.stored t.differ is.differ fail
    where
      none_open : (xs : List Section) → xs ≡ t.sections.items → not (length xs == 0) ≡ false → (x : Section)
          → IsIn t.sections.items x → ⊥
      none_open [] e fail x inside = let bad : IsIn [] x = subst (λ ys. IsIn ys x) (sym e) inside in none-some x bad.1
      none_open (y ∷ xs) e fail x inside =
          absurd (let zero : suc (length xs) ≡ 0 = eqb-true (suc (length xs)) 0
          (not_false (suc (length xs) == 0) fail) in omega (arith, zero))

      by_stored : (b : Bool) → SomeIfTrue b (λ p a. Toucher img looked.points cell p a × IsStore a) → (d : Bool)
          → SomeIfTrue d (λ p a. Toucher img looked.points cell p a × (owner_value img p.owner ≢ t.value))
          → (not b || (not d || not (length t.sections.items == 0))) ≡ false → ⊥
      by_stored false none d differ fail = absurd cc
      by_stored true some false same fail = absurd cc
      by_stored true (p, a, stores) true (q, b, differs) fail =
          let contended : IsContended img cell = record {
            storer = p;
            stored = touches cell p a stores.0;
            is_store = stores.1;
            one = q;
            other = is.first;
            one_touches = touches cell q b differs.0;
            other_touches = touches cell is.first is.access is.touches;
            differ = λ same. differs.1 (same ∙ is.value);
          } in
          let guard = all cell contended in
          none_open t.sections.items refl fail guard.0 (is.guarding guard.0 (λ r d h. guard.1 r (touches cell r d h)))

  pub not_guards : list_all is_row_guarded f.cells.rows.items ≡ false → ¬ GuardsCells img
  not_guards fail =
      let row = fails_at is_row_guarded f.cells.rows.items fail in
      row_unguarded row.index row.item (looked.finds.cells row.index row.item row.at) row.fails
