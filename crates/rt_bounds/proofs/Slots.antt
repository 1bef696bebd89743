-- Rows of the lines that write slots: how they are gathered, and how they are put in order.
use Rattle.std.proofs.Common.{◌≡◌, ◌≢◌, ℕ, ◌+◌, ◌-◌, ◌<◌, ◌≤◌, ◌==◌, inl, inr, ⊎_elim, Bool, true, false}
use Rattle.std.proofs.Common.{if◌then◌else◌, List, [], ◌∷◌, ◌++◌, All, Contains, length, get_or, slice_get, Option}
use Rattle.std.proofs.Common.{Some, None, refl, sym, ap, subst, ◌∙◌, arith, eq-eqb, Ordering, Less, Equal, Greater}
use Rattle.std.proofs.lemmas.Bool.{cases_eq, eqb-true}
use Rattle.std.proofs.lemmas.Cmp.{ranked}
use Rattle.std.proofs.lemmas.List.Elements.{All-head, All-push, All-tail, All-weaker, Contains-append_left, Contains-push}
use Rattle.std.proofs.lemmas.List.Elements.{Contains-push_cases}
use Rattle.std.proofs.lemmas.List.Sorted.{Contains-permutation, IsNonDecreasingBy-push, IsPermutation-sym}
use Rattle.std.proofs.lemmas.List.Sorted.{sum_by-IsPermutation, ties_still_rise}
use Rattle.std.proofs.lemmas.List.Sums.{sum_by-cons, sum_by_push, sum_by_more, sum_by-take-le}
use Rattle.std.specs.Ordering.{nat_cmp, is_lt}
use Rattle.std.specs.List.Sorted.{IsNonDecreasingBy, IsPermutation, IsSortedByKey, IsStableByKey}
use Rattle.rt_code.specs.Image.{Image}
use Rattle.rt_code.specs.declared.instr.Instr.{Instr}
use Rattle.rt_code.specs.declared.instr.Note.{Note}
use Rattle.rt_points.specs.Rules.{written_slot}
use Rattle.rt_bounds.specs.Inside.Writtens.{IsWriter, AreWrittenBelow, AreAllWritten, times_in}
use Rattle.rt_bounds.specs.declared.written.Written.{Written}

abbrev one_if : Bool → ℕ
one_if b = if b then 1 else 0

-- one line counts once at most
at_most_one : (b : Bool) → one_if b ≤ 1
at_most_one true = omega arith
at_most_one false = omega arith

unless : (b : Bool) → (b ≡ true → ⊥) → one_if b ≡ 0
unless true never = absurd (never refl)
unless false never = refl

counted : (a b : ℕ) → a ≡ b → one_if (a == b) ≡ 1
counted a b same = ap one_if (eq-eqb a b same)

strictly : (a b : ℕ) → a ≤ b → a ≢ b → a < b
strictly a b most apart = ⊎_elim (λ same. absurd (apart same)) (λ no. omega (arith, most, no)) (cases_eq a b)

not_there : (a b : ℕ) → a ≢ b → one_if (a == b) ≡ 0
not_there a b apart = unless (a == b) (λ e. apart (eqb-true a b e))

-- no row of lines below an address is of that one
none_there : (rows : List Written) (count : ℕ) → All (λ row. row.address < count) rows → (address : ℕ) → count ≤ address
    → times_in rows address ≡ 0
none_there [] count below address past = refl
none_there (row ∷ rows) count below address past =
    let first = All-head (λ (r : Written). r.address < count) row rows below in
    let apart : row.address ≢ address = λ e. omega (arith, first, past, e) in
    let here = not_there row.address address apart in
    let sum = sum_by-cons (λ (r : Written). one_if (r.address == address)) row rows in
    let rest = none_there rows count (All-tail (λ (r : Written). r.address < count) row rows below) address past in
    omega (arith, here, sum, rest)

-- nothing is written where there is no line, or one that writes no slot
pub nothing_at : (img : Image) (at : ℕ) → slice_get img.code at ≡ None → (row : Written) → row.address ≡ at
    → ¬ IsWriter img row
nothing_at img at none row same is =
    let e : Some is.line ≡ None = sym is.stands ∙ ap (slice_get img.code) same ∙ none in absurd cc

pub none_at : (img : Image) (at : ℕ) (line : Instr × Option Note) → slice_get img.code at ≡ Some line
    → written_slot line.0 ≡ None → (row : Written) → row.address ≡ at → ¬ IsWriter img row
none_at img at line stands none row same is =
    let found : Some is.line ≡ Some line = sym is.stands ∙ ap (slice_get img.code) same ∙ stands in
    let alike : is.line ≡ line = cc in
    let e : Some row.slot ≡ None = sym is.writes ∙ ap (λ (l : Instr × Option Note). written_slot l.0) alike ∙ none in
    absurd cc

module _ (img : Image) (at : ℕ) (rows : List Written) (before : AreWrittenBelow img at rows) where
  -- a line that writes no slot
  pub passed : ((row : Written) → row.address ≡ at → ¬ IsWriter img row) → AreWrittenBelow img (at + 1) rows
  passed none = record {
    has = record {
      only = before.has.only;
      all = λ row less is. ⊎_elim (λ same. absurd (none row same is))
          (λ apart. let lower : row.address < at = omega (arith, less, apart) in before.has.all row lower is)
          (cases_eq row.address at);
    };
    below = All-weaker (λ (row : Written). row.address < at) (λ row. row.address < at + 1)
        (λ row less. omega (arith, less)) rows before.below;
    in_order = before.in_order;
    once = before.once;
  }

  module _ (slot : ℕ) (line : Instr × Option Note) (stands : slice_get img.code at ≡ Some line)
      (writes : written_slot line.0 ≡ Some slot) where
    abbrev pub new : Written
    new = record { slot = slot; address = at }

    -- the one row of this line
    it_is : (row : Written) → row.address ≡ at → IsWriter img row → new ≡ row
    it_is row same is =
        let found : Some line ≡ Some is.line = sym stands ∙ sym (ap (slice_get img.code) same) ∙ is.stands in
        let alike : line ≡ is.line = cc in
        let slots : Some slot ≡ Some row.slot = sym writes ∙ ap (λ (l : Instr × Option Note). written_slot l.0) alike
        ∙ is.writes in
        let one : slot ≡ row.slot = cc in
        λ k. record { slot = one k; address = sym same k }

    -- it is not there yet
    absent : (address : ℕ) → address ≡ at → times_in rows address ≡ 0
    absent address same = none_there rows at before.below address (omega (arith, same))

    -- and one that writes a slot
    pub pushed : AreWrittenBelow img (at + 1) (rows ++ new ∷ [])
    pushed = record {
      has = record {
        only = λ row there. ⊎_elim (λ old. before.has.only row old)
            (λ same. subst (IsWriter img) same (record { line = line; stands = stands; writes = writes }))
            (Contains-push_cases rows new row there);
        all = λ row less is. ⊎_elim
            (λ same. subst (Contains (rows ++ new ∷ [])) (it_is row same is) (Contains-push rows new))
            (λ apart. let lower : row.address < at = omega (arith, less, apart) in
            Contains-append_left rows (new ∷ []) row (before.has.all row lower is))
            (cases_eq row.address at);
      };
      below = All-push (λ (row : Written). row.address < at + 1) rows new (All-weaker (λ (row : Written). row.address < at) (λ row. row.address < at + 1)
          (λ row less. omega (arith, less)) rows before.below) (omega arith);
      in_order = IsNonDecreasingBy-push (λ row. row.address) rows new before.in_order
          (λ d some. let less = before.below (length rows - 1) d (omega (arith, some)) in omega (arith, less));
      once = λ address. ⊎_elim
          (λ same. let sum = sum_by_push (λ (row : Written). one_if (row.address == address)) rows new in
          let none = absent address same in
          let one = at_most_one (at == address) in
          omega (arith, sum, none, one))
          (λ apart. let sum = sum_by_push (λ (row : Written). one_if (row.address == address)) rows new in
          let none = not_there at address (λ e. apart (sym e)) in
          let old = before.once address in
          omega (arith, sum, none, old))
          (cases_eq address at);
    }

-- two neighbours of rows that hold each line once are of two lines
apart_by_once : (rows : List Written) → ((address : ℕ) → times_in rows address ≤ 1) → (k : ℕ) (d : Written)
    → k + 1 < length rows → (get_or rows k d).address ≢ (get_or rows (k + 1) d).address
apart_by_once rows once k d few same =
    let count : Written → ℕ = λ row. one_if (row.address == (get_or rows k d).address) in
    let one = sum_by_more count rows k d (omega (arith, few)) in
    let two = sum_by_more count rows (k + 1) d few in
    let most = sum_by-take-le count rows (k + 1 + 1) in
    let all = once (get_or rows k d).address in
    let first : count (get_or rows k d) ≡ 1 = counted (get_or rows k d).address (get_or rows k d).address refl in
    let second : count (get_or rows (k + 1) d) ≡ 1 =
    counted (get_or rows (k + 1) d).address (get_or rows k d).address (sym same) in
    omega (arith, one, two, most, all, first, second)

not_less : (a b : ℕ) → a ≤ b → (o : Ordering) → o ≡ nat_cmp b a → is_lt o ≡ false
not_less a b most Less is = absurd (let less = ranked b a Less is in omega (arith, most, less))
not_less a b most Equal is = refl
not_less a b most Greater is = refl

-- rows that do not fall are sorted
sorted_by_address : (rows : List Written) → IsNonDecreasingBy (λ row. row.address) rows
    → IsSortedByKey (λ (row : Written). row.address) nat_cmp rows
sorted_by_address rows up k d low few =
    not_less _ _ (up k (k + 1) d (omega arith) few) (nat_cmp (get_or rows (k + 1) d).address (get_or rows k d).address) refl

-- rows of all lines that write slots, once they are in order of slots
pub sorted_rows : (img : Image) (xs ys : List Written) → AreWrittenBelow img (length img.code) xs → IsPermutation xs ys
    → IsNonDecreasingBy (λ row. row.slot) ys → IsStableByKey (λ row. row.slot) nat_cmp xs ys → AreAllWritten img ys
sorted_rows img xs ys before moved up stable = record {
  has = record {
    only = λ row there. before.has.only row (Contains-permutation ys xs row (IsPermutation-sym xs ys moved) there);
    all = λ row less is. Contains-permutation xs ys row moved (before.has.all row less is);
  };
  in_order = λ k d few. elim (cases_eq (get_or ys k d).slot (get_or ys (k + 1) d).slot) [
    | inl same ↦ inr (
      same,
      (
          let rises = ties_still_rise (λ (row : Written). row.address) (λ (row : Written). row.slot) xs ys
          (sorted_by_address xs before.in_order) stable k d few same in
          let apart = apart_by_once ys (λ address. once_moved address) k d few in
          strictly _ _ rises apart),
    )
    | inr differ ↦ inl (let rises = up k (k + 1) d (omega arith) few in strictly _ _ rises differ)
  ];
}
  where
    once_moved : (address : ℕ) → times_in ys address ≤ 1
    once_moved address =
        let same = sum_by-IsPermutation (λ (row : Written). one_if (row.address == address)) xs ys moved in
        let once = before.once address in
        omega (arith, same, once)
