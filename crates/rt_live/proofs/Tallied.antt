-- Rows that count what lines did, as these are gathered.
use Rattle.rt_live.proofs.Vocabulary.{AllByRecursion, Bool, Call, Caller as Line, DeviceThread as Device, HasRoom}
use Rattle.rt_live.proofs.Vocabulary.{IsBeside, IsTally, List, OneHistory, Part, Row, Tally, [], account_of, all_at}
use Rattle.rt_live.proofs.Vocabulary.{all_behind, all_map, ap, append_assoc, arith, bit_in_row, calls_in, count_by}
use Rattle.rt_live.proofs.Vocabulary.{counted_row, dite, drop, eq-eqb, get_or, if◌then◌else◌, irqs_of, latched_count}
use Rattle.rt_live.proofs.Vocabulary.{latches, length, length-append, length-map, map, merged_count, merges, ne_eqb}
use Rattle.rt_live.proofs.Vocabulary.{part_of, pending_bit, raised_count, raises, refl, settled_row, slice_get-get_or}
use Rattle.rt_live.proofs.Vocabulary.{subst, suc, sum_by, sum_by-cons, sym, take, with_counts, zero, ℕ, ℕ_discrete, ◌*◌}
use Rattle.rt_live.proofs.Vocabulary.{◌++◌, ◌+◌, ◌/◌, ◌<◌, ◌==◌, ◌^◌, ◌∙◌, ◌∷◌, ◌≡◌, ◌≢◌, ◌≤◌}
use Rattle.std.proofs.lemmas.List.Sums.{count_by-le-length}
use Rattle.rt_live.specs.declared.account.AccountRow.{AccountRow}

pub irqs_counted : (core : ℕ) (parts : List Part) (irqs : List ℕ) → irqs_of (map (counted_row core parts) irqs) ≡ irqs
irqs_counted core parts [] = refl
irqs_counted core parts (irq ∷ irqs) = ap (λ is. irq ∷ is) (irqs_counted core parts irqs)

-- a line made few calls
abbrev pub IsShort : Part → Type 0
IsShort p = length p.calls < 2 ^ 32

-- lines that made few calls did nothing often
sum_few : (test : Call → Bool) (parts : List Part) → AllByRecursion IsShort parts
    → sum_by (λ p. count_by test p.calls) parts ≤ 2 ^ 32 * length parts
sum_few test [] short = omega arith
sum_few test (p ∷ parts) short = omega (
  arith,
  sum_by-cons (λ (q : Part). count_by test q.calls) p parts,
  count_by-le-length test p.calls,
  short.0,
  sum_few test parts short.1,
)

-- so there is room for the counts of one line more
pub counts_fit : (core : ℕ) (parts : List Part) → AllByRecursion IsShort parts → length parts ≤ 16 → (irqs : List ℕ)
    → AllByRecursion HasRoom (map (counted_row core parts) irqs)
counts_fit core parts short few [] = tt
counts_fit core parts short few (irq ∷ irqs) = (
  record {
    raised = omega (arith, sum_few (raises (bit_in_row core irq)) parts short, few);
    merged = omega (arith, sum_few (merges (bit_in_row core irq)) parts short, few);
    latched = omega (arith, sum_few (latches (bit_in_row core irq)) parts short, few);
  },
  counts_fit core parts short few irqs,
)

-- of rows of which the first are changed the next is as it was
unchanged_at : (f : AccountRow → AccountRow) (old : List AccountRow) (i : ℕ) (d : AccountRow) → i < length old
    → get_or (map f (take i old) ++ drop i old) i d ≡ get_or old i d
unchanged_at f [] i d within = absurd (omega (arith, within))
unchanged_at f (row ∷ rows) zero d within = refl
unchanged_at f (row ∷ rows) (suc i) d within = unchanged_at f rows i d (omega (arith, within))

pub next_fits : (f : AccountRow → AccountRow) (rows old : List AccountRow) (i : ℕ) (row : AccountRow) → i < length old
    → rows ≡ map f (take i old) ++ drop i old → AllByRecursion HasRoom old → HasRoom (get_or rows i row)
next_fits f rows old i row within so_far fits =
    subst HasRoom (sym (ap (λ (rs : List AccountRow). get_or rs i row) so_far ∙ unchanged_at f old i row within))
    (all_at HasRoom old i (get_or old i row) fits (slice_get-get_or old i row within))

-- what a count of the core `own` is of an interrupt of this core, where nothing of another core is counted
at_core : (core own irq count : ℕ) (times : ℕ → ℕ) → irq < 512 → count ≡ times (bit_in_row own irq)
    → ((bit : ℕ) → bit / 512 ≢ own → times bit ≡ 0)
    → (if own == core then count else 0) ≡ times (bit_in_row core irq)
at_core core own irq count times low is elsewhere =
    dite (ℕ_discrete own core)
    (λ e. ap (λ b. if b then count else 0) (eq-eqb own core e) ∙ is ∙ ap (λ n. times (bit_in_row n irq)) e) (λ ne.
    let there : bit_in_row core irq / 512 ≡ core = omega (arith, low) in
    ap (λ b. if b then count else 0) (ne_eqb own core ne)
    ∙ sym (elsewhere (bit_in_row core irq) (λ e. ne (sym e ∙ there))))

-- so a count of one line more is added to those of others
one_more : (core own irq count : ℕ) (test : ℕ → Call → Bool) (part : Part) (parts : List Part) → irq < 512
    → count ≡ count_by (test (bit_in_row own irq)) part.calls
    → ((bit : ℕ) → bit / 512 ≢ own → count_by (test bit) part.calls ≡ 0)
    → sum_by (λ (q : Part). count_by (test (bit_in_row core irq)) q.calls) parts + (if own == core then count else 0)
    ≡ sum_by (λ (q : Part). count_by (test (bit_in_row core irq)) q.calls) (part ∷ parts)
one_more core own irq count test part parts low is elsewhere = omega (
  arith,
  at_core core own irq count (λ bit. count_by (test bit) part.calls) low is elsewhere,
  sum_by-cons (λ (q : Part). count_by (test (bit_in_row core irq)) q.calls) part parts,
)

-- the rows count the gathered line too
module _ (core here there : ℕ) (parts : List Part) (part : Part) (tally : Tally)
    (is : IsTally here there part.calls tally) where
  one_counted : (irq : ℕ) → irq < 512
      → with_counts core here there tally (counted_row core parts irq) ≡ counted_row core (part ∷ parts) irq
  one_counted irq low = λ i. record {
    irq = irq;
    raised = one_more core there irq _ raises part parts low (is.raised irq low) is.raised_there i;
    merged = one_more core there irq _ merges part parts low (is.merged irq low) is.merged_there i;
    latched = one_more core here irq _ latches part parts low (is.latched irq low) is.latched_here i;
    left = 0;
  }

  pub all_counted : (irqs : List ℕ) → AllByRecursion (λ irq. irq < 512) irqs
      → map (with_counts core here there tally) (map (counted_row core parts) irqs)
      ≡ map (counted_row core (part ∷ parts)) irqs
  all_counted [] low = refl
  all_counted (irq ∷ irqs) low = λ i. one_counted irq low.0 i ∷ all_counted irqs low.1 i

-- rows with what the first line did, and with what the words ended with, are the account of the history
module _ (core here there : ℕ) (line : Line) (bits : List ℕ) (h : OneHistory line bits) (own : Tally)
    (is : IsTally here there line.calls own) where
  abbrev own_part : Part
  own_part = record { line = 255; calls = line.calls }

  abbrev all_parts : List Part
  all_parts = own_part ∷ line.gathered

  all_settled : (irqs : List ℕ) → map (settled_row core bits) (map (counted_row core all_parts) irqs)
      ≡ account_of core irqs (calls_in h.history) bits
  all_settled [] = refl
  all_settled (irq ∷ irqs) =
      let bit : ℕ = bit_in_row core irq in
      let row : AccountRow = counted_row core all_parts irq in
      let r : row.raised ≡ raised_count bit (calls_in h.history) =
      sum_by-cons (λ (q : Part). raised_count bit q.calls) own_part line.gathered ∙ sym (h.raised bit) in
      let m : row.merged ≡ merged_count bit (calls_in h.history) =
      sum_by-cons (λ (q : Part). merged_count bit q.calls) own_part line.gathered ∙ sym (h.merged bit) in
      let l : row.latched ≡ latched_count bit (calls_in h.history) =
      sum_by-cons (λ (q : Part). latched_count bit q.calls) own_part line.gathered ∙ sym (h.latched bit) in
      λ i.
      record { irq = irq; raised = r i; merged = m i; latched = l i; left = pending_bit bits bit } ∷ all_settled irqs i

  pub rows_settled : (irqs : List ℕ) → AllByRecursion (λ irq. irq < 512) irqs
      → map (settled_row core bits) (map (with_counts core here there own) (map (counted_row core line.gathered) irqs))
      ≡ account_of core irqs (calls_in h.history) bits
  rows_settled irqs low =
      ap (map (settled_row core bits)) (all_counted core here there line.gathered own_part own is irqs low)
      ∙ all_settled irqs

-- the last of these devices were gathered, these are left, and the rows of these interrupts count what was gathered
pub record GathersLast (all left : List Device) (old new : Line) (irqs : List ℕ) (rows : List AccountRow) : Type 0 where
  pub done : List Device
  pub parts : all ≡ left ++ done
  pub line : new ≡ record old { gathered = map part_of done; since = new.since }
  pub since : old.since ≤ length old.calls → new.since ≤ length old.calls
  pub counted : rows ≡ map (counted_row 0 (map part_of done)) irqs

module _ (row : Row) (rest : List Device) (device : Device) {all left : List Device} {old new : Line} {irqs : List ℕ}
    {rows : List AccountRow} (gathers : GathersLast all left old new irqs rows) (popped : left ≡ rest ++ device ∷ [])
    (beside : AllByRecursion (IsBeside row) all) where
  whole : all ≡ rest ++ device ∷ gathers.done
  whole = gathers.parts ∙ ap (λ ds. ds ++ gathers.done) popped ∙ append_assoc rest (device ∷ []) gathers.done

  abbrev from_here : AllByRecursion (IsBeside row) (device ∷ gathers.done)
  from_here = all_behind (IsBeside row) rest (device ∷ gathers.done) (subst (AllByRecursion
      (IsBeside row)) whole beside)

  pub next_beside : IsBeside row device
  next_beside = from_here.0

  pub next_room : length all ≤ 16 → AllByRecursion HasRoom rows
  next_room few =
      subst (AllByRecursion HasRoom) (sym gathers.counted) (counts_fit 0 (map part_of gathers.done)
      (all_map part_of (IsBeside row) IsShort (λ d is. is.few) gathers.done from_here.1)
      (omega (
        arith,
        few,
        ap length whole,
        length-append rest (device ∷ gathers.done),
        length-map gathers.done part_of,
      )) irqs)

  -- one device more
  pub gathers_more : (next : Line) (tally : Tally) (counts : List AccountRow) → AllByRecursion (λ irq. irq < 512) irqs
      → next ≡ record new {
        gathered = record { line = device.line.number; calls = device.line.calls } ∷ new.gathered;
        since = length new.calls;
      }
      → IsTally device.line.here device.line.there device.line.calls tally
      → counts ≡ map (with_counts 0 0 0 tally) rows → GathersLast all rest old next irqs counts
  gathers_more next tally counts low is told added =
      let line = next_beside.line in
      let since : next.since ≡ length old.calls =
      ap (λ (l : Line). l.since) is ∙ ap (λ (l : Line). length l.calls) gathers.line in
      record {
        done = device ∷ gathers.done;
        parts = whole;
        line =
            is
            ∙ ap (λ (l : Line). record l {
              gathered = record { line = device.line.number; calls = device.line.calls } ∷ l.gathered;
              since = length l.calls;
            }) gathers.line
            ∙ ap (λ n. record old {
              gathered = record { line = n; calls = device.line.calls } ∷ map part_of gathers.done;
              since = length old.calls;
            }) (ap (λ (l : Line). l.number) line)
            ∙ ap (λ n. record old { gathered = part_of device ∷ map part_of gathers.done; since = n }) (sym since);
        since = λ _. omega (arith, since);
        counted =
            added ∙ ap (map (with_counts 0 0 0 tally)) gathers.counted
            ∙ all_counted 0 0 0 (map part_of gathers.done) (part_of device) tally
            (subst (λ (l : Line). IsTally l.here l.there device.line.calls tally) line told) irqs low;
      }
