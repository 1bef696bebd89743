-- An entry leads to the code of its exception.
use Rattle.std.proofs.Common.{◌≡◌, ℕ, zero, suc, ◌+◌, ◌*◌, ◌%◌, ◌^◌, ◌<◌, ◌≤◌, true, false, max}
use Rattle.std.proofs.Common.{cond, List, [], ◌∷◌, ◌++◌, map, length, get_or, replicate, fold, position, sum}
use Rattle.std.proofs.Common.{Option, Some, None, refl, sym, ap, subst, ◌∙◌, arith, nat_lt, slice_get}
use Rattle.std.proofs.Common.{slice_index}
use Rattle.std.specs.List.{range_with_len}
use Rattle.std.specs.Option.{option_map_or}
use Rattle.std.proofs.lemmas.Bool.{lt-ltb, eq-eqb, ne_eqb}
use Rattle.std.proofs.lemmas.List.{length-append, length-map, get_or-append-add}
use Rattle.std.proofs.lemmas.List.FromFn.{get_or-map-range_with_len, length-range_with_len}
use Rattle.std.proofs.lemmas.List.Sums.{position_or_len_is, sum_by-cons, sum-map}
use Rattle.std.proofs.lemmas.Option.{slice_get_within, slice_get-get_or, get_or_from_slice_get, same_Some, none-some}
use Rattle.rt_ids.specs.Operation.{wrapped_number as word}
use Rattle.rt_code.specs.Image.{Image}
use Rattle.rt_code.specs.Runnable.{HaveNumbersApart}
use Rattle.rt_code.specs.declared.image.Handler.{Handler}
use Rattle.rt_code.specs.declared.image.IrqRow.{IrqRow}
use Rattle.rt_native.specs.Layout.{outside, places, stub_places, stack_top, fault_at, tick_at, stubs_at, reset_at}
use Rattle.rt_native.specs.Layout.{code_at, code_end, load_at, flash_end, line_count, line_of, places_from}
use Rattle.rt_native.specs.Pieces.{bytes_of}
use Rattle.rt_native.specs.Program.{vectors, line_vectors, served_at, is_line, sequences_from}
use Rattle.rt_native.specs.Service.{fault, tick, entrance, entrance_size, entrances_from, reset, timer_irq}
use Rattle.rt_native.specs.Target.{Target}
use Rattle.rt_native.proofs.Ends.{ends, reset_at_is}
use Rattle.rt_native.proofs.Places.{stubs_have_their_places}
use Rattle.rt_thumb.specs.Encoding.{encode, size}
use Rattle.rt_thumb.specs.Exceptions.{systick, external, even}
use Rattle.rt_thumb.specs.Machine.{Machine, word_at}
use Rattle.rt_thumb.specs.Step.{Program}
use Rattle.rt_thumb.specs.declared.instruction.Halfwords.{Halfwords}
use Rattle.rt_thumb.specs.declared.instruction.Halfwords.TheVariants as halfwords
use Rattle.rt_thumb.specs.declared.instruction.Instruction.{Instruction}
use Rattle.rt_priorities.specs.Lying.{LieFrom}
use Rattle.rt_priorities.specs.Ticking.{ServesTicks}
use Rattle.rt_priorities.specs.Vectors.{IsLoaded, EntersAt, EntriesLead, TicksLead}
use Rattle.rt_priorities.proofs.Lying.{lie_front, lie_behind}

-- instructions take an even number of bytes
size_even : (h : Halfwords) → size h % 2 ≡ 0
size_even (halfwords.Short a) = refl
size_even (halfwords.Wide a b) = refl

pub bytes_even : (is : List Instruction) → bytes_of is % 2 ≡ 0
bytes_even [] = refl
bytes_even (i ∷ is) =
    let one = size_even (encode i) in
    let rest = bytes_even is in
    ap (λ n. n % 2) (sum_by-cons (λ j. size (encode j)) i is) ∙ by (size (encode i)) (bytes_of is) one rest
  where
    by : (a b : ℕ) → a % 2 ≡ 0 → b % 2 ≡ 0 → (a + b) % 2 ≡ 0
    by a b one rest = omega arith

-- an address with bit 0 set, as a vector has it
back : (place : ℕ) → place % 2 ≡ 0 → place + 1 < 2 ^ 32 → even (word (place + 1)) ≡ place
back place whole small = omega arith

-- a place is no further than all sizes go
pub place_within : (from : ℕ) (sizes : List ℕ) (k : ℕ) → slice_index (places_from from sizes) k ≤ from + sum sizes
place_within from [] zero = omega arith
place_within from [] (suc k) = omega arith
place_within from (s ∷ sizes) zero = omega arith
place_within from (s ∷ sizes) (suc k) =
    let rest = place_within (from + s) sizes k in
    let all = sum_by-cons (λ x. x) s sizes in
    omega arith

-- a row is not of a line of another number
other_line : (n irq : ℕ) (o : Option Handler) → (irq ≡ n → ⊥) → is_line n irq o ≡ false
other_line n irq None differs = refl
other_line n irq (Some h) differs = ne_eqb irq n differs

-- the first row that enables an interrupt is the one that has it
row_is_first : (rows : List IrqRow) (k : ℕ) (row : IrqRow) (h : Handler) → HaveNumbersApart rows
    → slice_get rows k ≡ Some row → row.handler ≡ Some h
    → position (λ other. is_line row.number other.number other.handler) rows ≡ Some k
row_is_first rows k row h apart here enabled =
    ap (λ n. cond (nat_lt n (length rows)) (Some n) None)
    (position_or_len_is (λ other. is_line row.number other.number other.handler) rows k row (omega (arith, inside))
    fails (λ within. own))
    ∙ ap (λ b. cond b (Some k) None) (lt-ltb k (length rows) inside)
  where
    inside : k < length rows
    inside = slice_get_within rows k row here

    own : is_line row.number (get_or rows k row).number (get_or rows k row).handler ≡ true
    own =
        ap (λ other. is_line row.number other.number other.handler) (get_or_from_slice_get rows k row row here)
        ∙ (ap (is_line row.number row.number) enabled ∙ eq-eqb row.number row.number refl)

    fails : (j : ℕ) → j < k → is_line row.number (get_or rows j row).number (get_or rows j row).handler ≡ false
    fails j before =
        let end = inside in
        other_line row.number (get_or rows j row).number (get_or rows j row).handler (λ same.
        never (apart j k (get_or rows j row) row (slice_get-get_or rows j row (omega arith)) here same))
      where
        never : j ≡ k → ⊥
        never is = omega arith

-- there is a line for each enabled interrupt
abbrev with_row : ℕ → IrqRow → ℕ
with_row lines row = max lines (line_of row.number row.handler)

lines_above : (rows : List IrqRow) (lines : ℕ) → lines ≤ fold with_row lines rows
lines_above [] lines = omega arith
lines_above (row ∷ rows) lines =
    let more = lines_above rows (with_row lines row) in by (line_of row.number row.handler) more
  where
    by : (x : ℕ) → max lines x ≤ fold with_row (with_row lines row) rows
        → lines ≤ fold with_row (with_row lines row) rows
    by x more = omega arith

line_within : (rows : List IrqRow) (lines k : ℕ) (row : IrqRow) (h : Handler) → slice_get rows k ≡ Some row
    → row.handler ≡ Some h → row.number < fold with_row lines rows
line_within [] lines k row h here enabled = absurd (none-some row here)
line_within (first ∷ rows) lines zero row h here enabled =
    let more = lines_above rows (with_row lines first) in
    let line = ap (λ r. line_of r.number r.handler) (same_Some first row here) ∙ ap (line_of row.number) enabled in
    by (line_of first.number first.handler) line more
  where
    by : (x : ℕ) → x ≡ row.number + 1 → max lines x ≤ fold with_row (with_row lines first) rows
        → row.number < fold with_row (with_row lines first) rows
    by x line more = omega arith
line_within (first ∷ rows) lines (suc k) row h here enabled =
    line_within rows (with_row lines first) k row h here enabled

module _ (img : Image) (target : Target) where
  -- the table before the vectors of SysTick and of interrupts
  abbrev first_vectors : List ℕ
  first_vectors =
      stack_top img target ∷ word (reset_at img target + 1) ∷ replicate 13 (word (fault_at img target + 1))

  abbrev last_vectors : List ℕ
  last_vectors = word (tick_at img target + 1) ∷ line_vectors img target

  tick_vector : slice_index (vectors img target) 15 ≡ word (tick_at img target + 1)
  tick_vector = get_or-append-add first_vectors last_vectors 0 0

  line_vector : (n : ℕ) → n < line_count img.irqs
      → slice_index (vectors img target) (16 + n) ≡ word (served_at img target n + 1)
  line_vector n within =
      ap (λ j. get_or (vectors img target) j 0) (next n)
      ∙ (get_or-append-add first_vectors last_vectors (suc n) 0
      ∙ get_or-map-range_with_len (λ j. word (served_at img target j + 1)) 0 (line_count img.irqs) n n 0 within
      (zero_more n))
    where
      next : (n : ℕ) → 16 + n ≡ 15 + suc n
      next n = omega arith

      zero_more : (n : ℕ) → 0 + n ≡ n
      zero_more n = omega arith

  pub length_vectors : length (vectors img target) ≡ 16 + line_count img.irqs
  length_vectors =
      length-append first_vectors last_vectors
      ∙ (ap (λ n. 15 + suc n)
      (length-map (range_with_len 0 (line_count img.irqs)) (λ j. word (served_at img target j + 1))
      ∙ length-range_with_len 0 (line_count img.irqs)) ∙ next (line_count img.irqs))
    where
      next : (n : ℕ) → 15 + suc n ≡ 16 + n
      next n = omega arith

  module _ (p : Program) (m : Machine) (loaded : IsLoaded img target p m) where
    -- the vector of an exception
    vector_is : (e : ℕ) → e < length (vectors img target)
        → word_at m (word_at m 0xE000ED08 + 4 * e) ≡ slice_index (vectors img target) e
    vector_is e within = ap (λ table. word_at m (table + 4 * e)) loaded.table ∙ loaded.words e within

    fault_even : fault_at img target % 2 ≡ 0
    fault_even = let whole = loaded.region.0 in by target.flash.address (line_count img.irqs) whole
      where
        by : (a n : ℕ) → a % 8 ≡ 0 → (a + 4 * (16 + n)) % 2 ≡ 0
        by a n whole = omega arith

    -- what runs first as interrupts are taken ends in the address space
    ends_within : reset_at img target + 1 < 2 ^ 32
    ends_within =
        let all = ends img target in
        let load = all.load in
        let code = all.code in
        let start = all.start in
        let begins = all.reset in
        let fits = loaded.fits in
        let flash = loaded.region.1 in
        by (reset_at img target) (code_at img target) (code_end img target) (load_at img target)
        (length img.cells) (flash_end img target) (target.flash.address + target.flash.size) begins start code load fits
        flash
      where
        by : (a b d e n f g : ℕ) → a ≤ b → b ≤ d → d ≤ e → e + 4 * (n + 2) ≡ f → f ≤ g → g < 2 ^ 32 → a + 1 < 2 ^ 32
        by a b d e n f g h i j k l o = omega arith

    served_is : (k : ℕ) (row : IrqRow) (h : Handler) → HaveNumbersApart img.irqs → slice_get img.irqs k ≡ Some row
        → row.handler ≡ Some h → served_at img target row.number ≡ slice_index (stub_places img target) k
    served_is k row h apart here enabled =
        ap (λ o. option_map_or (λ j. slice_index (stub_places img target) j) o (fault_at img target))
        (row_is_first img.irqs k row h apart here enabled)

    entries_lead : (k : ℕ) (row : IrqRow) (h : Handler) → HaveNumbersApart img.irqs → slice_get img.irqs k ≡ Some row
        → row.handler ≡ Some h
        → EntersAt p m (external row.number) (slice_index (stub_places img target) k)
        (entrance (outside img target) target (places img target) (slice_index (stub_places img target) (k + 1)) row)
    entries_lead k row h apart here enabled =
        let lies = stubs_have_their_places img target k row here in
        let place = slice_index (stub_places img target) k in
        let piece =
        entrance (outside img target) target (places img target) (slice_index (stub_places img target) (k + 1)) row in
        let line = line_within img.irqs 0 k row h here enabled in
        let within = place_within (stubs_at img target)
        (map (entrance_size (outside img target) target) img.irqs) k in
        let small : place + 1 < 2 ^ 32 =
        no_more place (stubs_at img target) (sum (map (entrance_size (outside img target) target) img.irqs))
        (reset_at img target) within
        (reset_at_is img target
        ∙ ap (λ n. stubs_at img target + n) (sym (sum-map (entrance_size (outside img target) target) img.irqs)))
        ends_within in
        let whole : place % 2 ≡ 0 =
        subst (λ n. n % 2 ≡ 0) lies.begins (both (fault_at img target) (bytes_of lies.before) fault_even
        (bytes_even lies.before)) in
        record {
          address = ap even
              (vector_is (external row.number)
              (subst (λ n. external row.number < n) (sym length_vectors) (omega arith))
              ∙ (line_vector row.number line ∙ ap (λ a. word (a + 1)) (served_is k row h apart here enabled)))
              ∙ back place whole small;
          lies = lie_front p piece lies.after place
              (subst (λ n. LieFrom p n (piece ++ lies.after)) lies.begins
              (lie_behind p lies.before (piece ++ lies.after) (fault_at img target)
              (subst (λ is. LieFrom p (fault_at img target) is) lies.parts loaded.code)));
        }
      where
        no_more : (a b d r : ℕ) → a ≤ b + d → r ≡ b + d → r + 1 < 2 ^ 32 → a + 1 < 2 ^ 32
        no_more a b d r h i j = omega arith

        both : (a b : ℕ) → a % 2 ≡ 0 → b % 2 ≡ 0 → (a + b) % 2 ≡ 0
        both a b h i = omega arith

    ticks_lead : ServesTicks p (outside img target) (timer_irq img.code) m
    ticks_lead =
        let at = outside img target in
        let ticking = tick at (timer_irq img.code) in
        let stubs = entrances_from at target (places img target) (stub_places img target) 0 img.irqs in
        let begun = reset at target.tick img (load_at img target) in
        let stays = (ends img target).stubs in
        let small = ends_within in
        record {
          place = tick_at img target;
          vector = ap even
              (vector_is systick (subst (λ n. systick < n) (sym length_vectors) (omega arith)) ∙ tick_vector)
              ∙ back (tick_at img target)
              (both (fault_at img target) (bytes_of fault) fault_even (bytes_even fault)) (omega arith);
          code = lie_behind p fault ticking (fault_at img target)
              (lie_front p (fault ++ ticking) stubs (fault_at img target)
              (lie_front p (fault ++ ticking ++ stubs) begun (fault_at img target)
              (lie_front p (fault ++ ticking ++ stubs ++ begun) (sequences_from img target 0 img.code)
              (fault_at img target) loaded.code)));
          ends = omega arith;
        }
      where
        both : (a b : ℕ) → a % 2 ≡ 0 → b % 2 ≡ 0 → (a + b) % 2 ≡ 0
        both a b h i = omega arith

pub entries_lead_to_their_code : EntriesLead
entries_lead_to_their_code img target p m loaded apart k row h here enabled =
    entries_lead img target p m loaded k row h apart here enabled

pub ticks_lead_to_theirs : TicksLead
ticks_lead_to_theirs img target p m loaded = ticks_lead img target p m loaded
