-- A run that is made ready, and what it is when its devices have worked and their lines are gathered.
use Rattle.rt_live.proofs.Vocabulary.{All, AllByRecursion, AreGathered, AreReady, Bool, CORE_WORDS, Call, Caller, CanGo}
use Rattle.rt_live.proofs.Vocabulary.{CanWork, Contains, DeviceLine, HasBits, HasLines, HasMade, HasName, IRQ_NUMBERS}
use Rattle.rt_live.proofs.Vocabulary.{IsAble, IsBeside, IsDeclared, IsFresh, IsPending, IsScript, IsWaiting, Line, List}
use Rattle.rt_live.proofs.Vocabulary.{Machine, Names, Part, Pends, Row, Some, Steps, Ticks, [], all_flat_map, all_has}
use Rattle.rt_live.proofs.Vocabulary.{all_map, all_weaker, ap, arith, bit_in_row, contains_cases, contains_here}
use Rattle.rt_live.proofs.Vocabulary.{contains_none, contains_there, core_events, count, count_of, counted_row}
use Rattle.rt_live.proofs.Vocabulary.{declared_irqs, drop, empty_row, entries_of, eq-eqb, false, false≢true, find}
use Rattle.rt_live.proofs.Vocabulary.{if◌then◌else◌, inl, inr, interrupt_asked, irqs_of, is_device, length}
use Rattle.rt_live.proofs.Vocabulary.{length-append, length-map, length-replicate, line_pends, maker_line, map}
use Rattle.rt_live.proofs.Vocabulary.{no_route, none-some, numbers, part_of, pends, refl, replicate, requests}
use Rattle.rt_live.proofs.Vocabulary.{row_count, steps, subst, suc, sum_by-cons, sym, take, take_at, true, word_in_row}
use Rattle.rt_live.proofs.Vocabulary.{ℕ, ◌*◌, ◌++◌, ◌+◌, ◌<◌, ◌==◌, ◌∙◌, ◌∷◌, ◌≡◌, ◌≤◌}
use Rattle.std.proofs.{Common.IsSome, lemmas.Bool.eqb-true, lemmas.List.Elements.All-from_recursion}
use Rattle.rt_lemmas.proofs.Bools.{true_and_false}
use Rattle.rt_ids.specs.declared.limits.TheConstants.{DEVICES}
use Rattle.rt_core.specs.Core.{Core as CoreState}
use Rattle.rt_run.proofs.Known.{fresh_known}
use Rattle.rt_devices.specs.{Work.Works, declared.device.Device.Device}
use Rattle.rt_words.specs.Lines.{new_line}
use Rattle.rt_live.specs.{declared.account.AccountRow.AccountRow, Inside.Working.AllWork}
use Rattle.rt_live.proofs.{Made.entries_request, Made.few_below, Tallied.IsShort, Tallied.irqs_counted, Woven.line_with}

abbrev device_numbers : List Device → List ℕ
device_numbers ds = map (λ d. d.number) ds

-- the bits of core 0 are its interrupts' numbers
pub bit_here : (core irq : ℕ) → core ≡ 0 → bit_in_row core irq ≡ irq
bit_here core irq none = omega (arith, none)

bits_asked : (core : ℕ) → core ≡ 0 → (irqs : List ℕ)
    → map (λ irq. Some (bit_in_row core irq)) irqs ≡ map (λ irq. Some irq) irqs
bits_asked core none [] = refl
bits_asked core none (irq ∷ irqs) =
    ap (λ n. Some n ∷ map (λ i. Some (bit_in_row core i)) irqs) (bit_here core irq none)
    ∙ ap (λ os. Some irq ∷ os) (bits_asked core none irqs)

-- a device pends no more than the script has events
line_pends_few : (number : ℕ) (line : Line) → length (line_pends number line) ≤ count_of line
line_pends_few number (Steps n) = omega arith
line_pends_few number (Ticks n) = omega arith
line_pends_few number (Pends irq n) = omega arith
line_pends_few number (DeviceLine d irq n) = by (d == number)
  where
    by : (same : Bool) → length (if same then replicate n irq else []) ≤ n
    by true = omega (arith, length-replicate n irq)
    by false = omega arith

pends_few : (number : ℕ) (script : List Line) → length (pends script number) ≤ count script
pends_few number [] = omega arith
pends_few number (line ∷ script) = omega (
  arith,
  length-append (line_pends number line) (pends script number),
  line_pends_few number line,
  pends_few number script,
  sum_by-cons count_of line script,
)

-- a line that made its device's pends made few calls
pub made_short : (script : List Line) → IsScript script → (p : Part) → HasMade script p → IsShort p
made_short script scripted p made = omega (
  arith,
  sym (length-map p.calls interrupt_asked) ∙ ap length made ∙ length-map (pends script p.line) (λ irq. Some irq),
  pends_few p.line script,
  scripted.few,
)

-- an interrupt of the table is declared
declared_by : (irqs : List (List ℕ × ℕ)) (irq : ℕ) → Contains (map (λ i. i.1) irqs) irq
    → IsSome (find (λ (i : List ℕ × ℕ). i.1 == irq) irqs)
declared_by [] irq is = absurd (contains_none irq is)
declared_by (i ∷ irqs) irq is = by (declared_by irqs irq) (i.1 == irq) refl
  where
    by : (Contains (map (λ j. j.1) irqs) irq → IsSome (find (λ (j : List ℕ × ℕ). j.1 == irq) irqs)) → (b : Bool)
        → (i.1 == irq) ≡ b → IsSome (if b then Some i else find (λ (j : List ℕ × ℕ). j.1 == irq) irqs)
    by rest true same = refl
    by rest false other = elim (contains_cases i.1 (map (λ j. j.1) irqs) irq is) [
      | inl here ↦ absurd (true_and_false (i.1 == irq) (eq-eqb i.1 irq here) other)
      | inr behind ↦ rest behind
    ]

-- and a declared one stands in the table
table_has : (irqs : List (List ℕ × ℕ)) (irq : ℕ) → IsSome (find (λ (i : List ℕ × ℕ). i.1 == irq) irqs)
    → Contains (map (λ i. i.1) irqs) irq
table_has [] irq is = absurd (false≢true is)
table_has (i ∷ irqs) irq is = by (table_has irqs irq) (i.1 == irq) refl is
  where
    by : (IsSome (find (λ (j : List ℕ × ℕ). j.1 == irq) irqs) → Contains (map (λ j. j.1) irqs) irq) → (b : Bool)
        → (i.1 == irq) ≡ b → IsSome (if b then Some i else find (λ (j : List ℕ × ℕ). j.1 == irq) irqs)
        → Contains (i.1 ∷ map (λ j. j.1) irqs) irq
    by rest true same there =
        subst (λ n. Contains (i.1 ∷ map (λ j. j.1) irqs) n) (eqb-true i.1 irq same)
        (contains_here i.1 (map (λ j. j.1) irqs))
    by rest false other there = contains_there i.1 (map (λ j. j.1) irqs) irq (rest there)

-- a device that has made its pends of the script
pub record HasEnded (row : Row) (script : List Line) (device : Device) : Type 0 where
  pub beside : IsBeside row device
  pub made : HasMade script (part_of device)

module _ (row : Row) (script : List Line) (scripted : IsScript script) where
  one_ended : (old new : Device) → Works (requests old.script.items) old new → IsWaiting row script old
      → HasEnded row script new × (new.number ≡ old.number)
  one_ended old new works waits =
      let number : ℕ = old.number in
      let whole : new ≡ record old { line = record (new_line row number 0 0) { calls = works.calls } } =
      works.same
      ∙ ap (λ (l : Caller). record old { line = record l { calls = l.calls ++ works.calls } }) waits.line in
      let made : HasMade script (record { line = number; calls = works.calls }) =
      works.asked
      ∙ bits_asked old.line.there (ap (λ (l : Caller). l.there) waits.line) (requests old.script.items)
      ∙ ap (map (λ irq. Some irq)) (ap requests waits.asks ∙ entries_request number script) in (
        subst (HasEnded row script) (sym whole) (record {
          beside = record { low = waits.low; line = refl; few = made_short script scripted _ made };
          made = made;
        }),
        ap (λ (d : Device). d.number) whole,
      )

  -- devices that waited and have worked have ended
  pub all_ended : (old new : List Device) → length new ≡ length old → AllWork old new
      → AllByRecursion (IsWaiting row script) old
      → AllByRecursion (HasEnded row script) new × (device_numbers new ≡ device_numbers old)
  all_ended [] [] same work waits = (tt, refl)
  all_ended [] (y ∷ new) same work waits = absurd (omega (arith, same))
  all_ended (x ∷ old) [] same work waits = absurd (omega (arith, same))
  all_ended (x ∷ old) (y ∷ new) same work waits =
      let first = one_ended x y (work 0 x (omega arith)) waits.0 in
      let rest = all_ended old new (omega (arith, same)) (λ i d within. work (suc i) d (omega (arith, within)))
      waits.1 in ((first.0, rest.0), λ i. first.1 i ∷ rest.1 i)

part_numbers : (ds : List Device) → numbers (map part_of ds) ≡ device_numbers ds
part_numbers [] = refl
part_numbers (d ∷ ds) = ap (λ ns. d.number ∷ ns) (part_numbers ds)

pub irqs_empty : (irqs : List ℕ) → irqs_of (map empty_row irqs) ≡ irqs
irqs_empty irqs = irqs_counted 0 [] irqs

-- what is ready for a core whose image has these names
module _ {names : Names} {script : List Line} {row : Row} {line : Caller} {waiting : List Device}
    {rows : List AccountRow} (ready : AreReady names script row line waiting rows) where
  pub declared_low : (irq : ℕ) → IsDeclared names irq → irq < IRQ_NUMBERS
  declared_low irq is =
      all_has (λ n. n < IRQ_NUMBERS) (declared_irqs names) irq ready.in_range (table_has names.irqs irq is)

  -- what a device is to pend may be pended
  abbrev EntryMay : ℕ × ℕ → Type 0
  EntryMay entry = IsPending row.may (bit_in_row 0 entry.0)

  line_may : (number : ℕ) (l : Line) → HasName names l → AllByRecursion EntryMay (entries_of number l)
  line_may number (Steps n) has = tt
  line_may number (Ticks n) has = tt
  line_may number (Pends irq n) has = tt
  line_may number (DeviceLine d irq n) has = by (d == number)
    where
      by : (same : Bool) → AllByRecursion EntryMay (if same then (irq, n) ∷ [] else [])
      by true = ((ready.may irq (omega (arith, declared_low irq has))).1 (table_has names.irqs irq has), tt)
      by false = tt

  one_can_work : (d : Device) → IsWaiting row script d → CanWork row d
  one_can_work d waits = record {
    words = ap (λ (l : Caller). l.words) waits.line;
    may =
        subst (λ (l : Caller). AllByRecursion (λ (e : ℕ × ℕ). IsPending row.may (bit_in_row l.there e.0))
        d.script.items) (sym waits.line) (subst (AllByRecursion EntryMay) (sym waits.asks)
        (all_flat_map EntryMay (entries_of d.number) script
        (all_weaker (HasName names) (λ l. AllByRecursion EntryMay (entries_of d.number l)) (line_may d.number) script
        ready.named)));
    room = omega (
      arith,
      ap (λ (l : Caller). length l.calls) waits.line,
      ap (λ es. length (requests es)) waits.asks,
      ap length (entries_request d.number script),
      pends_few d.number script,
      ready.scripted.few,
    );
  }

  pub can_work : All (CanWork row) waiting
  can_work =
      All-from_recursion (CanWork row) waiting
      (all_weaker (IsWaiting row script) (CanWork row) one_can_work waiting ready.waits)

  pub rows_irqs : irqs_of rows ≡ declared_irqs names
  rows_irqs = ap irqs_of ready.empty ∙ irqs_empty (declared_irqs names)

  pub rows_empty : rows ≡ map empty_row (irqs_of rows)
  rows_empty = ready.empty ∙ ap (map empty_row) (sym rows_irqs)

  -- When the devices have worked, and the core has done its own lines, the lines of the devices are gathered.
  module _ (ended : List Device) (worked : AllWork waiting ended × (length ended ≡ length waiting)) where
    have_ended : AllByRecursion (HasEnded row script) ended × (device_numbers ended ≡ device_numbers waiting)
    have_ended = all_ended row script ready.scripted waiting ended worked.1 worked.0 ready.waits

    pub beside_ended : AllByRecursion (IsBeside row) ended
    beside_ended = all_weaker (HasEnded row script) (IsBeside row) (λ d is. is.beside) ended have_ended.0

    pub few_ended : length ended ≤ DEVICES
    few_ended = omega (
      arith,
      worked.1,
      ap length ready.each,
      length-map waiting (λ (d : Device). d.number),
      few_below (is_device script) DEVICES,
    )

    module _ {next : Caller} (calls : List Call) (same : next ≡ line_with line calls) where
      next_line : next ≡ record (maker_line row line.made) { calls = next.calls }
      next_line =
          same
          ∙ ap (λ (l : Caller). record l { calls = line.calls ++ calls }) ready.first
          ∙ ap (λ cs. record (maker_line row line.made) { calls = cs }) (sym (ap (λ (l : Caller). l.calls) same))

      pub are_gathered : {later : Caller} {counted : List AccountRow}
          → length next.calls ≤ 16 * steps (core_events script)
          → later ≡ record next { gathered = map part_of ended; since = later.since }
          → (next.since ≤ length next.calls → later.since ≤ length next.calls)
          → counted ≡ map (counted_row 0 (map part_of ended)) (irqs_of rows)
          → AreGathered names script row later counted
      are_gathered {later} {counted} early is since told =
          let within : later.since ≤ length next.calls =
          since (omega (arith, ap (λ (l : Caller). l.since) next_line)) in
          subst (λ (l : Caller). AreGathered names script row l counted)
          (sym (is ∙ ap (λ (l : Caller). record l { gathered = map part_of ended; since = later.since }) next_line))
          (record {
            first = refl;
            made = ready.made;
            each = part_numbers ended ∙ have_ended.1 ∙ ready.each;
            asked = all_map part_of (HasEnded row script) (HasMade script) (λ d is. is.made) ended have_ended.0;
            behind = within;
            early = omega (arith, within, early);
            counted = told ∙ ap (map (counted_row 0 (map part_of ended))) rows_irqs;
          })

-- devices that were lent as a slice and worked are written back
pub written_back : (n : ℕ) {waiting lent : List Device} (ended : List Device) → lent ≡ waiting → length lent ≡ n
    → length ended ≡ length lent → AllWork lent ended
    → AllWork waiting (take n (ended ++ drop (length ended) waiting))
    × (length (take n (ended ++ drop (length ended) waiting)) ≡ length waiting)
written_back n {waiting} ended is long many worked =
    subst (λ ds. AllWork waiting ds × (length ds ≡ length waiting))
    (sym (take_at ended (drop (length ended) waiting) n (many ∙ long)))
    (subst (λ ds. AllWork ds ended) is worked, many ∙ ap length is)

-- what is gathered stays so while the line makes calls
pub still_gathered : {names : Names} {script : List Line} {row : Row} {line next : Caller} {rows : List AccountRow}
    → AreGathered names script row line rows → (calls : List Call) → next ≡ line_with line calls
    → AreGathered names script row next rows
still_gathered {names} {script} {row} {line} {next} {rows} gathered calls same =
    subst (λ (l : Caller). AreGathered names script row l rows) (sym same) (record {
      first = ap (λ (l : Caller). record l { calls = line.calls ++ calls }) gathered.first;
      made = gathered.made;
      each = gathered.each;
      asked = gathered.asked;
      behind = omega (arith, gathered.behind, length-append line.calls calls);
      early = gathered.early;
      counted = gathered.counted;
    })

-- a core that has had no event can do turns, where its bits of the words are those of its declared interrupts
pub able_placed : {m : Machine} {line : Caller} {row : Row} → IsFresh m → HasLines m.image → line.words ≡ row
    → word_in_row line.here CORE_WORDS ≤ row_count row → HasBits line.here row.may (declared_irqs m.image.names)
    → AllByRecursion (λ irq. irq < IRQ_NUMBERS) (declared_irqs m.image.names) → IsAble m line row
able_placed {m} fresh lines words many may in_range = record {
  writable = record { lines = lines; known = fresh_known m fresh };
  words = words;
  many = many;
  may = λ irq low pending.
      let names = m.image.names in
      let there : Contains (declared_irqs names) irq = (may irq (omega (arith, low))).0 pending in
      (declared_by names.irqs irq there, all_has (λ i. i < IRQ_NUMBERS) (declared_irqs names) irq in_range there);
}

-- and the whole run, where all is ready
module _ {m : Machine} {script : List Line} {row : Row} {line : Caller} {waiting : List Device} {rows : List AccountRow}
    (fresh : IsFresh m) (lines : HasLines m.image) (ready : AreReady m.image.names script row line waiting rows) where
  pub can_ready : CanGo (2 * count script + 1) no_route m line row
  can_ready = record {
    able =
        able_placed fresh lines (ap (λ (l : Caller). l.words) ready.first)
        (omega (arith, ready.many, ap (λ (l : Caller). l.here) ready.first))
        (subst (λ (l : Caller). HasBits l.here row.may (declared_irqs m.image.names)) (sym ready.first) ready.may)
        ready.in_range;
    routed = λ posted irq e. absurd (none-some irq e);
    few = omega (arith, fresh.steps, ready.scripted.few);
    early = omega (arith, ap (λ (c : CoreState). c.time) fresh.core, ready.scripted.few);
    room = omega (arith, ap (λ (l : Caller). length l.calls) ready.first, ready.scripted.few);
  }

-- gathering leaves the turns that can be done
pub can_gathered : {n : ℕ} {m : Machine} {line next : Caller} {row : Row} (parts : List Part)
    → next ≡ record line { gathered = parts; since = next.since } → CanGo n no_route m line row
    → CanGo n no_route m next row
can_gathered {n} {m} {row = row} parts is can =
    subst (λ (l : Caller). CanGo n no_route m l row) (sym is) (record {
      able = record { writable = can.able.writable; words = can.able.words; many = can.able.many; may = can.able.may };
      routed = can.routed;
      few = can.few;
      early = can.early;
      room = can.room;
    })
