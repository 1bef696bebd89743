-- The rows that break the second rule, and that it is kept where there are none.
use Rattle.std.proofs.Common.{◌≡◌, ◌≢◌, ◌<◌, ◌==◌, ℕ, true, false, List, length, slice_get, get_or, position, is_some}
use Rattle.std.proofs.Common.{Some, None, sym, ap, ◌∙◌, eq-eqb}
use Rattle.std.proofs.lemmas.Bool.{eqb-true}
use Rattle.std.proofs.lemmas.List.Quantifiers.{position-Some}
use Rattle.std.proofs.lemmas.Option.{slice_get_within, slice_get-get_or}
use Rattle.rt_ids.proofs.Lists.{is_some-position}
use Rattle.rt_lemmas.proofs.Membership.{any_passes}
use Rattle.rt_code.specs.Runnable.{HaveNumbersApart}
use Rattle.rt_code.specs.declared.image.IrqRow.{IrqRow}
use Rattle.rt_why.specs.Witness.{HaveOneNumber}

-- where a row of this number is, one is found
pub there_found : (irqs : List IrqRow) (index n : ℕ) (row : IrqRow) → slice_get irqs index ≡ Some row
    → row.number ≡ n → position (λ r. r.number == n) irqs ≡ None → ⊥
there_found irqs index n row at is none =
    let some = any_passes (λ (r : IrqRow). r.number == n) irqs index row at (eq-eqb row.number n is) in
    let no : false ≡ is_some (position (λ (r : IrqRow). r.number == n) irqs) = sym (ap is_some none) in
    let found : false ≡ true = no ∙ is_some-position (λ (r : IrqRow). r.number == n) irqs ∙ some in
    cc

-- and where another is found first, two have it
pub one_found : (irqs : List IrqRow) (n first index : ℕ) (row : IrqRow)
    → position (λ r. r.number == n) irqs ≡ Some first → slice_get irqs index ≡ Some row → row.number ≡ n
    → first ≢ index → HaveOneNumber irqs first index
one_found irqs n first index row at there is apart =
    let found = position-Some (λ (r : IrqRow). r.number == n) irqs first row at in
    record {
      one = get_or irqs first row;
      other = row;
      one_there = slice_get-get_or irqs first row found.0;
      other_there = there;
      number = eqb-true (get_or irqs first row).number n found.1 ∙ sym is;
      apart = apart;
    }

-- where each row is the first of its number, no two have one
pub numbers_apart : (irqs : List IrqRow) → ((i : ℕ) → i < length irqs → (row : IrqRow) → slice_get irqs i ≡ Some row
    → position (λ other. other.number == row.number) irqs ≡ Some i) → HaveNumbersApart irqs
numbers_apart irqs first i j row other at there same =
    let one = first i (slice_get_within irqs i row at) row at in
    let two = first j (slice_get_within irqs j other there) other there in
    let both : Some i ≡ Some j = sym one ∙ ap (λ n. position (λ r. r.number == n) irqs) same ∙ two in
    cc
