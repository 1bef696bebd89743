-- What the lines of both cores counted, as the rows of their accounts have it.
use Rattle.rt_live.proofs.Vocabulary.{AllByRecursion, AllGathered, Contains, HasRoom, IRQ_NUMBERS, IsTally, List}
use Rattle.rt_live.proofs.Vocabulary.{OneHistory, Part, Row, Tally, [], account_of, all_weaker, ap, arith, calls_in}
use Rattle.rt_live.proofs.Vocabulary.{contains_cases, contains_here, contains_none, counted_row, inl, inr, irqs_of}
use Rattle.rt_live.proofs.Vocabulary.{length, map, settled_row, subst, sym, with_counts, ℕ, ◌<◌, ◌∙◌, ◌∷◌, ◌≡◌}
use Rattle.rt_dual.proofs.Vocabulary.{AccountRow, AreAccounts, AreEmpty, placed_line}
use Rattle.rt_words.specs.Lines.{Line}
use Rattle.rt_live.proofs.Tallied.{all_counted, counts_fit, rows_settled}
use Rattle.rt_dual.specs.{Course.first_place, Inside.Both.CanClose}

-- rows that count nothing have room for what a line did
pub room_for : (core : ℕ) (rows : List AccountRow) → AreEmpty rows → AllByRecursion HasRoom rows
room_for core rows none =
    subst (AllByRecursion HasRoom) (sym none.empty) (counts_fit core [] tt (omega arith) (irqs_of rows))

low_irqs : (rows : List AccountRow) → AreEmpty rows → AllByRecursion (λ irq. irq < 512) (irqs_of rows)
low_irqs rows none =
    all_weaker (λ irq. irq < IRQ_NUMBERS) (λ irq. irq < 512) (λ irq is. omega (arith, is)) (irqs_of rows) none.bits

-- the rows of both cores, their lines, and what the second counted
module _ {row : Row} {first second : Line} {ones twos : List AccountRow} (closes : CanClose row first second ones twos)
    {near beyond : Line} (is_near : near ≡ first) (is_beyond : beyond ≡ second) (far : Tally)
    (is_far : IsTally beyond.here beyond.there beyond.calls far) where
  can : CanClose row near beyond ones twos
  can =
      subst (λ (l : Line). CanClose row l beyond ones twos) (sym is_near)
      (subst (λ (l : Line). CanClose row first l ones twos) (sym is_beyond) closes)

  abbrev part : Part
  part = record { line = 254; calls = beyond.calls }

  -- rows that counted nothing count what it did, and there is room for more
  module _ (core : ℕ) (rows : List AccountRow) (none : AreEmpty rows) where
    counted : map (with_counts core 1 0 far) rows ≡ map (counted_row core (part ∷ [])) (irqs_of rows)
    counted =
        ap (map (with_counts core 1 0 far)) none.empty
        ∙ all_counted core 1 0 [] part far
        (subst (λ (l : Line). IsTally l.here l.there beyond.calls far) can.second_line is_far) (irqs_of rows)
        (low_irqs rows none)

    pub more : AllByRecursion HasRoom (map (with_counts core 1 0 far) rows)
    more =
        subst (AllByRecursion HasRoom) (sym counted)
        (counts_fit core (part ∷ []) (can.few, tt) (omega arith) (irqs_of rows))

  -- the first line has taken it in
  module _ {then : Line} (is_then : then ≡ record near {
    gathered = record { line = beyond.number; calls = beyond.calls } ∷ near.gathered;
    since = length near.calls;
  }) where
    then_is : then ≡ record (placed_line first_place row (254 ∷ []) near.calls) {
      gathered = part ∷ [];
      since = length near.calls;
    }
    then_is =
        is_then
        ∙ ap (λ (l : Line). record l {
          gathered = record { line = beyond.number; calls = beyond.calls } ∷ l.gathered;
          since = length near.calls;
        }) can.first_line
        ∙ ap (λ n. record (placed_line first_place row (254 ∷ []) near.calls) {
          gathered = record { line = n; calls = beyond.calls } ∷ [];
          since = length near.calls;
        }) (ap (λ (l : Line). l.number) can.second_line)

    pub all_gathered : AllGathered then.made then.gathered
    all_gathered = subst (λ (l : Line). AllGathered l.made l.gathered) (sym then_is) (λ number there. there)

    module _ (bits : List ℕ) (h : OneHistory then bits) (own : Tally)
        (is_own : IsTally then.here then.there then.calls own) where
      settled : (core : ℕ) (rows : List AccountRow) → AreEmpty rows
          → map (settled_row core bits) (map (with_counts core 0 1 own) (map (with_counts core 1 0 far) rows))
          ≡ account_of core (irqs_of rows) (calls_in h.history) bits
      settled core rows none =
          ap (λ rs. map (settled_row core bits) (map (with_counts core 0 1 own) rs)) (counted core rows none
          ∙ ap (λ ps. map (counted_row core ps) (irqs_of rows)) (sym (ap (λ (l : Line). l.gathered) then_is)))
          ∙ rows_settled core 0 1 then bits h own
          (subst (λ (l : Line). IsTally l.here l.there then.calls own) then_is is_own) (irqs_of rows)
          (low_irqs rows none)

      -- so the rows with what both counted and what is left are the accounts
      pub are_accounts : {one two : List AccountRow}
          → one ≡ map (settled_row 0 bits) (map (with_counts 0 0 1 own) (map (with_counts 0 1 0 far) ones))
          → two ≡ map (settled_row 1 bits) (map (with_counts 1 0 1 own) (map (with_counts 1 1 0 far) twos))
          → AreAccounts first.calls second.calls (irqs_of ones) (irqs_of twos) one two
      are_accounts one_is two_is = record {
        history = h.history;
        left = bits;
        legal = h.legal;
        first = h.own ∙ ap (λ (l : Line). l.calls) is_then ∙ ap (λ (l : Line). l.calls) is_near;
        second =
            h.gathered part (subst (λ (l : Line). Contains l.gathered part) (sym then_is) (contains_here part []))
            ∙ ap (λ (l : Line). l.calls) is_beyond;
        others = λ number ne other.
            h.unmade number ne (λ there.
            elim (contains_cases 254 [] number (subst (λ (l : Line). Contains l.made number) then_is there)) [
              | inl same ↦ other (sym same)
              | inr none ↦ contains_none number none
            ]);
        one_rows = one_is ∙ settled 0 ones can.one_empty;
        two_rows = two_is ∙ settled 1 twos can.two_empty;
      }
