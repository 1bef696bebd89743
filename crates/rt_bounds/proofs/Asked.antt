-- Which lines of a loop write a slot, by the rows of all lines that write slots.
use Rattle.std.proofs.Common.{◌≡◌, ◌≢◌, ℕ, zero, suc, ◌+◌, ◌<◌, ◌≤◌, ◌==◌, ◌&&◌, ◌⊎◌, inl, inr, ⊎_elim, true, false}
use Rattle.std.proofs.Common.{nat_lt, List, length, get_or, Option, Some, None, refl, sym, ap, subst, ◌∙◌, arith}
use Rattle.std.proofs.Common.{is_some}
use Rattle.std.proofs.lemmas.Bool.{cases_eq, cases_lt, ltb-true, ltb-false, lt-ltb, eqb-true, eq-eqb, or_cases, or_parts, or_left}
use Rattle.std.proofs.lemmas.Bool.{or_right, and_parts, and_cases, and_from, both_ways}
use Rattle.std.proofs.lemmas.List.{get_or_default}
use Rattle.std.proofs.lemmas.Option.{slice_get_within}
use Rattle.std.proofs.lemmas.List.Elements.{Contains-get_or}
use Rattle.std.specs.List.Sorted.{IsPartitionedBy, IsPartitionPoint}
use Rattle.rt_code.specs.Image.{Image}
use Rattle.rt_judge.specs.Inside.Tables.{found}
use Rattle.rt_judge.specs.declared.nesting.Nesting.{Nesting}
use Rattle.rt_judge.specs.declared.walk.Walk.{Walk}
use Rattle.rt_bounds.specs.Counting.{Place, IsInside}
use Rattle.rt_bounds.specs.Inside.Countings.{WritesAt, AreWriters}
use Rattle.rt_bounds.specs.Inside.Writtens.{HasWriters, AreInOrder, StandsBefore, is_before, Counts, CountTo}
use Rattle.rt_bounds.specs.declared.counting.Writers.{Writers}
use Rattle.rt_bounds.specs.declared.counting.Writers.TheVariants.{Nobody, One, Several}
use Rattle.rt_bounds.specs.declared.written.Written.{Written}

-- a row behind another stands behind it
behind_both : (a b c : Written) → StandsBefore a b → StandsBefore b c → StandsBefore a c
behind_both a b c (inl x) (inl y) = inl (omega (arith, x, y))
behind_both a b c (inl x) (inr y) = inl (let e = y.0 in omega (arith, x, e))
behind_both a b c (inr x) (inl y) = inl (let e = x.0 in omega (arith, y, e))
behind_both a b c (inr x) (inr y) = inr (x.0 ∙ y.0, (let l = x.1 in let r = y.1 in omega (arith, l, r)))

pub is_some-some : {X : Type 0} (o : Option X) → is_some o ≡ true → (x : X) × (o ≡ Some x)
is_some-some (Some x) is = (x, refl)
is_some-some None is = absurd cc

-- a row of this slot and line
abbrev pub line : ℕ → ℕ → Written
line slot address = record { slot = slot; address = address }

so_is : (slot first : ℕ) (row : Written) → is_before slot first row ≡ true → StandsBefore row (line slot first)
so_is slot first row is = ⊎_elim
    (λ lower. inl (ltb-true row.slot slot lower))
    (λ both. let parts = and_parts (row.slot == slot) (nat_lt row.address first) both in
    inr (eqb-true row.slot slot parts.0, ltb-true row.address first parts.1))
    (or_cases (nat_lt row.slot slot) (row.slot == slot && nat_lt row.address first) is)

is_so : (slot first : ℕ) (row : Written) → StandsBefore row (line slot first) → is_before slot first row ≡ true
is_so slot first row (inl lower) =
    or_left (nat_lt row.slot slot) (row.slot == slot && nat_lt row.address first) (lt-ltb row.slot slot lower)
is_so slot first row (inr both) =
    or_right (nat_lt row.slot slot) (row.slot == slot && nat_lt row.address first)
    (and_from (row.slot == slot) (nat_lt row.address first) (eq-eqb row.slot slot both.0)
    (lt-ltb row.address first both.1))

not_lower : (slot first : ℕ) (row : Written) → is_before slot first row ≡ false → slot ≤ row.slot
not_lower slot first row is =
    ltb-false row.slot slot (or_parts (nat_lt row.slot slot) (row.slot == slot && nat_lt row.address first) is).0

not_before : (slot first : ℕ) (row : Written) → is_before slot first row ≡ false → row.slot ≡ slot
    → first ≤ row.address
not_before slot first row is same = ⊎_elim
    (λ apart. absurd (both_ways (row.slot == slot) apart (eq-eqb row.slot slot same)))
    (λ late. ltb-false row.address first late)
    (and_cases (row.slot == slot) (nat_lt row.address first)
    (or_parts (nat_lt row.slot slot) (row.slot == slot && nat_lt row.address first) is).1)

module _ (rows : List Written) (order : AreInOrder rows) where
  next : (j : ℕ) (d : Written) → suc j < length rows → StandsBefore (get_or rows j d) (get_or rows (suc j) d)
  next j d few =
      let e : j + 1 ≡ suc j = omega arith in
      subst (λ n. StandsBefore (get_or rows j d) (get_or rows n d)) e (order j d (omega (arith, few)))

  far : (i j : ℕ) (d : Written) → i < j → j < length rows → StandsBefore (get_or rows i d) (get_or rows j d)
  far i zero d less few = absurd (omega (arith, less))
  far i (suc j) d less few = elim (cases_eq i j) [
    | inl same ↦ subst (λ n. StandsBefore (get_or rows n d) (get_or rows (suc j) d)) (sym same) (next j d few)
    | inr apart ↦ behind_both (get_or rows i d) (get_or rows j d) (get_or rows (suc j) d)
        (far i j d (omega (arith, less, apart)) (omega (arith, few))) (next j d few)
  ]

  -- of rows of one slot the later one is the later line
  later : (i j : ℕ) (d : Written) → i < j → j < length rows → (get_or rows i d).slot ≡ (get_or rows j d).slot
      → (get_or rows i d).address < (get_or rows j d).address
  later i j d less few same = ⊎_elim (λ lower. absurd (omega (arith, lower, same))) (λ both. both.1) (far i j d less few)

  -- no later row is of a lower slot
  no_lower : (i j : ℕ) (d : Written) → i ≤ j → j < length rows → (get_or rows i d).slot ≤ (get_or rows j d).slot
  no_lower i j d most few = elim (cases_eq i j) [
    | inl same ↦ (let e = ap (λ n. (get_or rows n d).slot) same in omega (arith, e))
    | inr apart ↦ ⊎_elim (λ lower. omega (arith, lower)) (λ both. let e = both.0 in omega (arith, e))
        (far i j d (omega (arith, most, apart)) few)
  ]

  -- rows before a line of a slot come first
  pub parted : (slot first : ℕ) → IsPartitionedBy (is_before slot first) rows
  parted slot first i j d most few is = elim (cases_eq i j) [
    | inl same ↦ ap (λ n. is_before slot first (get_or rows n d)) same ∙ is
    | inr apart ↦ is_so slot first (get_or rows i d)
        (behind_both (get_or rows i d) (get_or rows j d) (line slot first) (far i j d (omega (arith, most, apart)) few)
        (so_is slot first (get_or rows j d) is))
  ]

  module _ (walk : Walk) (c : Place) (slot from : ℕ)
      (point : IsPartitionPoint (λ y. is_before slot c.first y ≡ true) (λ y. is_before slot c.first y ≡ false) rows from)
    where
      abbrev Counted : ℕ → Written → Type 0
      Counted k d = Counts walk c slot (get_or rows k d)

      -- none of the rows before counts
      pub none_yet : CountTo walk c slot rows from Nobody
      none_yet k d less counts =
          let before = so_is slot c.first (get_or rows k d) (point.0 k d (omega arith) less) in
          let is = counts.is in
          let inside = counts.inside.0 in
          ⊎_elim (λ lower. omega (arith, lower, is)) (λ both. let b = both.1 in omega (arith, b, inside)) before

      -- behind a row of another slot, or of a line behind the loop, none counts
      pub none_behind : (k : ℕ) → from ≤ k → k < length rows
          → ((d : Written) → ((get_or rows k d).slot ≢ slot) ⊎ (c.last < (get_or rows k d).address))
          → (j : ℕ) (d : Written) → k ≤ j → j < length rows → ¬ Counted j d
      none_behind k past few other j d most less counts =
          let low = no_lower k j d most less in
          let is = counts.is in
          let inside = counts.inside.1 in
          let least = not_lower slot c.first (get_or rows k d) (point.1 k d past few) in
          let same : (get_or rows k d).slot ≡ slot = omega (arith, low, is, least) in
          ⊎_elim (λ apart. apart same)
          (λ beyond. elim (cases_eq k j) [
            | inl one ↦ (let e = ap (λ n. (get_or rows n d).address) one in omega (arith, e, beyond, inside))
            | inr apart ↦ (let l = later k j d (omega (arith, most, apart)) less (same ∙ sym is) in
                omega (arith, l, beyond, inside))
          ])
          (other d)

      -- a row that counts: from the first line on it is of the slot, up to the last one, and come to
      pub counts_at : (k : ℕ) (d : Written) → from ≤ k → k < length rows → (get_or rows k d).slot ≡ slot
          → (get_or rows k d).address ≤ c.last → (n : Nesting) → found walk.table (get_or rows k d).address ≡ Some n
          → Counted k d
      counts_at k d past few is last n there = record {
        is = is;
        inside = (not_before slot c.first (get_or rows k d) (point.1 k d past few) is, last);
        nesting = n;
        there = there;
      }

      -- what is so of a row is so whatever stands for rows that are not there
      pub at_any : (P : Written → Type 0) (k : ℕ) (e : Written) → k < length rows → P (get_or rows k e) → (d : Written)
          → P (get_or rows k d)
      at_any P k e few so d = subst P (get_or_default rows k e d few) so

      -- a row that does not count
      pub passes : (k : ℕ) → ((d : Written) → ¬ Counted k d) → (w : Writers) → CountTo walk c slot rows k w
          → CountTo walk c slot rows (k + 1) w
      passes k none Nobody so = λ j d less counts. ⊎_elim
          (λ same. none d (subst (λ n. Counted n d) same counts))
          (λ apart. so j d (omega (arith, less, apart)) counts)
          (cases_eq j k)
      passes k none (One at) so = (
        so.0,
        (let l = so.1 in omega (arith, l)),
        so.2,
        so.3,
        λ j d less counts. ⊎_elim
            (λ same. absurd (none d (subst (λ n. Counted n d) same counts)))
            (λ apart. so.4 j d (omega (arith, less, apart)) counts)
            (cases_eq j k),
      )
      passes k none Several so = so

      -- the first that does
      pub is_one : (k at : ℕ) → ((d : Written) → Counted k d) → ((d : Written) → (get_or rows k d).address ≡ at)
          → CountTo walk c slot rows k Nobody → CountTo walk c slot rows (k + 1) (One at)
      is_one k at counts here none = (
        k,
        omega arith,
        counts,
        here,
        λ j d less other. ⊎_elim (λ same. same)
            (λ apart. absurd (none j d (omega (arith, less, apart)) other)) (cases_eq j k),
      )

      module _ (img : Image) (has : HasWriters img rows (length img.code)) where
        -- a row that counts is of a line that writes the slot
        writes_by : (k : ℕ) (d : Written) → k < length rows → Counted k d → WritesAt img walk (get_or rows k d).address slot
        writes_by k d few counts =
            let is = has.only (get_or rows k d) (Contains-get_or rows k d few) in
            record {
              line = is.line;
              stands = is.stands;
              nesting = counts.nesting;
              there = counts.there;
              writes = is.writes ∙ ap Some counts.is;
            }

        -- and each such line of the loop is of one that counts
        counts_by : (a : ℕ) → IsInside c a → (writes : WritesAt img walk a slot) → (k : ℕ) × (k < length rows)
            × (get_or rows k (line slot a) ≡ line slot a) × Counted k (line slot a)
        counts_by a inside writes =
            let few = slice_get_within img.code a writes.line writes.stands in
            let there = has.all (line slot a) few (record {
              line = writes.line;
              stands = writes.stands;
              writes = writes.writes;
            }) in (
              there.0,
              there.1,
              there.2,
              subst (Counts walk c slot) (sym there.2) (record {
                is = refl;
                inside = inside;
                nesting = writes.nesting;
                there = writes.there;
              }),
            )

        -- two that count are of two lines
        pub are_several : (k at : ℕ) (d : Written) → k < length rows → Counted k d → CountTo walk c slot rows k (One at)
            → AreWriters img walk c slot Several
        are_several k at d few counts one =
            let first = one.2 d in
            let less = later one.0 k d one.1 few (first.is ∙ sym counts.is) in (
              (get_or rows one.0 d).address,
              (get_or rows k d).address,
              (λ same. omega (arith, less, same)),
              first.inside,
              counts.inside,
              writes_by one.0 d (let l = one.1 in omega (arith, l, few)) first,
              writes_by k d few counts,
            )

        -- once no later row counts
        pub are_all : (k : ℕ) → k ≤ length rows → ((j : ℕ) (d : Written) → k ≤ j → j < length rows → ¬ Counted j d)
            → (w : Writers) → CountTo walk c slot rows k w → AreWriters img walk c slot w
        are_all k few none Nobody so = λ a inside writes.
            let row = counts_by a inside writes in
            ⊎_elim (λ lower. so row.0 (line slot a) lower row.3) (λ later. none row.0 (line slot a) later row.1 row.3)
            (cases_lt row.0 k)
        are_all k few none (One at) so =
            let d = line slot at in
            let one = so.2 d in
            let place = so.3 d in
            let some : so.0 < length rows = (let l = so.1 in omega (arith, l, few)) in (
              subst (IsInside c) place one.inside,
              subst (λ (a : ℕ). WritesAt img walk a slot) place (writes_by so.0 d some one),
              λ a inside writes.
                  let row = counts_by a inside writes in
                  let e = line slot a in
                  ⊎_elim
                  (λ lower.
                  let same = so.4 row.0 e lower row.3 in
                  sym (ap (λ (r : Written). r.address) row.2) ∙ ap (λ n. (get_or rows n e).address) same ∙ so.3 e)
                  (λ later. absurd (none row.0 e later row.1 row.3))
                  (cases_lt row.0 k),
            )
        are_all k few none Several so = absurd so
