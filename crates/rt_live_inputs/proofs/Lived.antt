-- A run whose turns were all done, and whose words and mailboxes were closed, is one that `live` allows.
use Rattle.std.proofs.Common.{◌≡◌, ℕ, zero, suc, ◌+◌, ◌<◌, ◌≤◌, List, [], ◌∷◌, ◌++◌, length, map, flat_map}
use Rattle.std.proofs.Common.{get_or, replicate, drop, slice_get, Some, refl, ap, sym, subst, ◌∙◌}
use Rattle.std.proofs.Common.{Bool, true, false, cond, ◌==◌, arith}
use Rattle.std.proofs.Common.{length-drop}
use Rattle.std.proofs.lemmas.List.Sums.{sum_by-cons}
use Rattle.std.specs.List.{AllByRecursion}
use Rattle.rt_lemmas.proofs.Membership.{all_weaker}
use Rattle.rt_ids.specs.Names.{Names}
use Rattle.rt_ids.specs.declared.limits.TheConstants.{IRQ_NUMBERS}
use Rattle.rt_script.specs.Script.{IsScript, count, count_of}
use Rattle.rt_script.specs.declared.line.Line.{Line as Asked}
use Rattle.rt_script.specs.declared.line.Line.TheVariants.{Device, Pends, Steps, Ticks}
use Rattle.rt_words.specs.Account.{IsTally}
use Rattle.rt_words.specs.Ending.{OneHistory, calls_in}
use Rattle.rt_words.specs.Lines.{Line, Row}
use Rattle.rt_words.specs.declared.tally.Tally.{Tally}
use Rattle.rt_live.specs.Account.{account_of, declared_irqs, settled_row, with_counts}
use Rattle.rt_live.specs.Going.{IsWholeLook}
use Rattle.rt_live.specs.History.{IsHistory, device_pends, line_asks}
use Rattle.rt_live.specs.Interleaving.{look_calls}
use Rattle.rt_live.specs.Interleaving.{looks as row_looks, turns as row_turns}
use Rattle.rt_live.specs.Output.{IsBalanced}
use Rattle.rt_live.specs.Ready.{AreGathered}
use Rattle.rt_live.specs.declared.account.AccountRow.{AccountRow}
use Rattle.rt_live.proofs.Onward.{all_looks as plain_looks, closes_whole}
use Rattle.rt_live.proofs.Outputs.{all_gathered, balanced}
use Rattle.rt_live.proofs.Requesting.{not_asked}
use Rattle.rt_words.proofs.Lists.{dec_in, of_map}
use Rattle.rt_words.specs.History.{CallsLast, part}
use Rattle.rt_words.specs.Lines.{numbers}
use Rattle.rt_words.specs.declared.call.Call.{Call}
use Rattle.rt_words.specs.declared.view.Part.{Part}
use Rattle.rt_devices.specs.Work.{interrupt_asked}
use Rattle.rt_lemmas.proofs.Membership.{all_has}
use Rattle.rt_live.proofs.Onward.{IsCutHistory}
use Rattle.std.proofs.Common.{Contains, ◌≢◌}
use Rattle.rt_script.specs.Script.{pends}
use Rattle.rt_live.proofs.Tallied.{rows_settled}
use Rattle.rt_live.proofs.Woven.{cut_before}
use Rattle.rt_values.specs.Sides.{TakerSide}
use Rattle.rt_given.specs.declared.line.GivenLine.{GivenLine}
use Rattle.rt_live_inputs.specs.Boxes.{boxes, plain}
use Rattle.rt_live_inputs.specs.Histories.{AreHistories, IsBoxHistory, IsWhole}
use Rattle.rt_live_inputs.specs.Looking.{Found, line_turns, looks, last_found, own_steps, step_turns, turns, Looks}
use Rattle.rt_live_inputs.specs.declared.boxes.BoxKind.{BoxKind as Box}
use Rattle.rt_live_inputs.specs.Inside.Making.{HasRoomFor, HaveHistories, HaveTaken, with_takers}
use Rattle.rt_live_inputs.specs.Account.{rows_of, with_boxes}
use Rattle.rt_live_inputs.specs.Inside.Turning.{IsLook}
use Rattle.rt_live_inputs.proofs.Boxed.{all_told, box_histories, history_at}
use Rattle.rt_live_inputs.proofs.Lines.{repeated, steps_look}
use Rattle.rt_live_inputs.proofs.Steps.{own_looks}
use Rattle.rt_live_inputs.proofs.Turning.{looks_append}

abbrev rows : List Found → List (List ℕ)
rows found = map (λ (one : Found). one.row) found

rows_long : (found : List Found) → length (rows found) ≡ length found
rows_long [] = refl
rows_long (one ∷ found) = ap suc (rows_long found)

-- so many looks there are
pub all_looks : (script : List GivenLine) → looks (turns script) ≡ own_steps script + suc (own_steps script)
all_looks script = omega (
  arith,
  looks_append (flat_map line_turns script) (Looks ∷ repeated (own_steps script) step_turns),
  own_looks script,
  steps_look (own_steps script),
)

-- and so many without words
pub row_many : (script : List GivenLine) → row_looks (row_turns (plain script)) ≡ looks (turns script)
row_many script = omega (arith, plain_looks (plain script), all_looks script)

-- a script's devices request no more than it has events
line_few : (test : ℕ → Bool) (line : Asked) → line_asks test line ≤ count_of line
line_few test (Steps n) = omega arith
line_few test (Ticks n) = omega arith
line_few test (Pends irq n) = omega arith
line_few test (Device d irq n) = by (test irq)
  where
    by : (own : Bool) → cond own n 0 ≤ n
    by true = omega arith
    by false = omega arith

asks_few : (irq : ℕ) (script : List Asked) → device_pends irq script ≤ count script
asks_few irq [] = omega arith
asks_few irq (line ∷ script) = omega (
  arith,
  sum_by-cons (line_asks (λ asked. asked == irq)) line script,
  sum_by-cons count_of line script,
  line_few (λ asked. asked == irq) line,
  asks_few irq script,
)

-- so there is room in the rows for what the mailboxes came to
pub rows_room : (script : List Asked) → IsScript script → (n : ℕ) → n ≤ 8192 → (rows : List AccountRow)
    → AllByRecursion (IsBalanced script) rows → AllByRecursion (HasRoomFor n) rows
rows_room script scripted n few [] are = tt
rows_room script scripted n few (row ∷ rows) are = (
  record {
    raised = omega (arith, are.0.counted, asks_few row.irq script, scripted.few, few);
    merged = omega (arith, are.0.counted, asks_few row.irq script, scripted.few, few);
    latched = omega (arith, are.0.counted, are.0.latched, asks_few row.irq script, scripted.few, few);
  },
  rows_room script scripted n few rows are.1,
)

module _ (names : Names) (script : List GivenLine) (row : Row) (line : Line) (counted : List AccountRow)
    (found : List Found) (kinds : List Box) (takers : List TakerSide) (bits : List ℕ)
    (scripted : IsScript (plain script)) (gathered : AreGathered names (plain script) row line counted)
    (one : OneHistory line bits) (behind : (k : ℕ) → 16 ≤ k → get_or bits k 0 ≡ 0)
    (many : length found ≡ looks (turns script)) (each : AllByRecursion (IsLook names (length kinds)) found)
    (latched : line.calls ≡ flat_map look_calls (rows found)) (kinds_are : kinds ≡ boxes script)
    (taken : HaveTaken script found 0 kinds takers) where
  whole_rows : (fs : List Found) → AllByRecursion (IsLook names (length kinds)) fs
      → AllByRecursion IsWholeLook (rows fs)
  whole_rows [] are = tt
  whole_rows (f ∷ fs) are = (are.0.row, whole_rows fs are.1)

  -- each number of the history but the core's is a device's, with its requests
  asked_of : (number : ℕ) → number ≢ 255
      → map interrupt_asked (part one.history number) ≡ map (λ irq. Some irq) (pends (plain script) number)
  asked_of number ne = elim (dec_in number (numbers line.gathered)) [
    | yes there ↦
        let p = of_map (λ (q : Part). q.line) number line.gathered there in
        subst (λ k. map interrupt_asked (part one.history k) ≡ map (λ irq. Some irq) (pends (plain script) k)) p.1.1
        (ap (map interrupt_asked) (one.gathered p.0 p.1.0) ∙ all_has _ line.gathered p.0 gathered.asked p.1.0)
    | no out ↦
        ap (map interrupt_asked)
        (one.unmade number ne (λ made. out (all_gathered scripted gathered number made)))
        ∙ ap (map (λ (irq : ℕ). Some irq)) (sym (not_asked number (plain script) scripted.devices
        (λ there. out (subst (λ (ns : List ℕ). Contains ns number) (sym gathered.each) there))))
  ]

  row_latched : line.calls ≡ flat_map look_calls (rows found ++ [] ∷ [])
  row_latched = latched ∙ sym (cut_before (rows found))

  row_history : IsCutHistory (plain script) (rows found) [] bits one.history
  row_history = record {
    legal = one.legal;
    core = one.own ∙ row_latched;
    devices = asked_of;
    since = line.since;
    within = omega (arith, gathered.behind, ap length row_latched);
    early = gathered.early;
    ended = subst (λ (cs : List Call). CallsLast one.history 255 (drop line.since cs)) row_latched one.last;
    behind = behind;
  }

  allowed : IsHistory (plain script) (rows found) one.history × (bits ≡ replicate 32 0)
  allowed =
      closes_whole row_history (whole_rows found each)
      (rows_long found ∙ many ∙ sym (row_many script))

  some_last : 0 < length (last_found script found)
  some_last = omega (arith, length-drop (own_steps script) found, many, all_looks script)

  pub are_histories : HaveHistories takers → AreHistories script found
  are_histories histories = record {
    many = many;
    whole =
        all_weaker (IsLook names (length kinds)) (IsWhole script)
        (λ f look. record {
          row = look.row;
          waited = look.waited ∙ ap length kinds_are;
          small = look.small;
        }) found each;
    entries = one.history;
    row = allowed.0;
    calls = history_at takers histories;
    each = λ k box at.
        subst (λ n. IsBoxHistory script found n box (history_at takers histories k))
        (let e : zero + k ≡ k = omega arith in e)
        (box_histories script found some_last 0 kinds takers taken histories k box
        (ap (λ (ks : List Box). slice_get ks k) kinds_are ∙ at));
  }

  -- the rows of the account without words
  module _ (own : Tally) (told : IsTally line.here line.there line.calls own)
      (low : AllByRecursion (λ irq. irq < IRQ_NUMBERS) (declared_irqs names)) where
    small : AllByRecursion (λ irq. irq < 512) (declared_irqs names)
    small =
        all_weaker (λ irq. irq < IRQ_NUMBERS) (λ irq. irq < 512) (λ irq is. omega (arith, is)) (declared_irqs names) low

    pub rows_are : map (settled_row 0 bits) (map (with_counts 0 0 0 own) counted)
        ≡ account_of 0 (declared_irqs names) (calls_in one.history) (replicate 32 0)
    rows_are =
        ap (λ (rs : List AccountRow). map (settled_row 0 bits) (map (with_counts 0 0 0 own) rs)) gathered.counted
        ∙ rows_settled 0 0 0 line bits one own
        (subst (λ (l : Line). IsTally l.here l.there line.calls own) gathered.first told) (declared_irqs names) small
        ∙ ap (account_of 0 (declared_irqs names) (calls_in one.history)) allowed.1

    pub rows_balanced : AllByRecursion (IsBalanced (plain script))
        (map (settled_row 0 bits) (map (with_counts 0 0 0 own) counted))
    rows_balanced =
        subst (AllByRecursion (IsBalanced (plain script))) (sym rows_are)
        (balanced (plain script) (rows found) one.history allowed.0 scripted.devices (declared_irqs names) small)

    -- with what the mailboxes came to they are the account
    pub account_is : (histories : HaveHistories takers) → length kinds ≡ length takers
        → map (with_takers kinds takers) (map (settled_row 0 bits) (map (with_counts 0 0 0 own) counted))
        ≡ rows_of names (boxes script) (are_histories histories).entries (are_histories histories).calls
    unfolding are_histories
    account_is histories long =
        let accounts : List AccountRow =
        account_of 0 (declared_irqs names) (calls_in one.history) (replicate 32 0) in
        ap (map (with_takers kinds takers)) rows_are
        ∙ all_told kinds takers histories long accounts
        ∙ ap (λ (ks : List Box). map (with_boxes 0 ks (history_at takers histories)) accounts) kinds_are
