-- What was written of a run is a text that `live` allows, or a beginning of one, by what the closed words tell.
use Rattle.rt_live.proofs.Vocabulary.{AllByRecursion, AllGathered, AreGathered, AreReady, Breaks, Call, Caller}
use Rattle.rt_live.proofs.Vocabulary.{CallsLast, Contains, DeviceLine, DeviceThread as Device, Done, Ended, Entry}
use Rattle.rt_live.proofs.Vocabulary.{Event, HasDeviceInRange, HasLived, HasMade, HasName, HasRoom, HasWrittenPart}
use Rattle.rt_live.proofs.Vocabulary.{IRQ_NUMBERS, Image, IsBalanced, IsFresh, IsHistory, IsLiveText, IsScript, IsTally}
use Rattle.rt_live.proofs.Vocabulary.{IsWholeLook, Line, List, Machine, Names, OneHistory, Part, Pends, Row, Sends}
use Rattle.rt_live.proofs.Vocabulary.{Some, Steps, Tally, Ticks, Took, TookPrefix, [], account_of, account_text}
use Rattle.rt_live.proofs.Vocabulary.{all_has, all_weaker, ap, append_assoc, arith, bit_in_row, breaks_before, calls_in}
use Rattle.rt_live.proofs.Vocabulary.{core_after, declared_irqs, device_pends, drop, false, flat_map, get_or, inl, inr}
use Rattle.rt_live.proofs.Vocabulary.{interleaving, interrupt_asked, is_device, length, length-map, lines_of}
use Rattle.rt_live.proofs.Vocabulary.{look_arrivals, look_calls, looks, map, merged_count, no_route, numbers, part}
use Rattle.rt_live.proofs.Vocabulary.{part_more, part_on, pends, raised_count, refl, replicate, settled_row, steps}
use Rattle.rt_live.proofs.Vocabulary.{subst, sym, took_on, total_text, true, turns, with_counts, ℕ, ◌++◌, ◌+◌, ◌<◌, ◌∙◌}
use Rattle.rt_live.proofs.Vocabulary.{◌∷◌, ◌≡◌, ◌≢◌, ◌≤◌, ◌⊎◌}
use Rattle.rt_run.proofs.Advancing.{lines_split}
use Rattle.rt_words.proofs.Lists.{dec_in, of_map}
use Rattle.rt_live.specs.{Doing.HasWritten, Written.live_text, declared.account.AccountRow.AccountRow}
use Rattle.rt_live.proofs.{Ended.fresh_text, Made.few_below, Onward.IsCutHistory, Onward.Extends, Onward.extend}
use Rattle.rt_live.proofs.{Onward.all_looks, Onward.closes_whole, Onward.zeros, Readied.bit_here, Readied.declared_low}
use Rattle.rt_live.proofs.{Readied.made_short, Requested.all_counted, Requested.all_latched, Requested.nothing_pending}
use Rattle.rt_live.proofs.{Requesting.IsNumbered, Requesting.devices_first, Requesting.not_asked, Tallied.IsShort}
use Rattle.rt_live.proofs.{Tallied.counts_fit, Tallied.rows_settled, Weaving.IsWoven, Weaving.nowhere, Weaving.sends_of}
use Rattle.rt_live.proofs.{Weaving.weave}

-- the text of looks that go on begins with the lines of the events so far
text_begins : (m : Machine) (script : List Line) (found : List (List ℕ)) (done behind : List Event) → IsFresh m
    → interleaving (turns script) found ≡ done ++ behind
    → (more : List ℕ) × (live_text m.image script found ≡ lines_of m done ++ more)
text_begins m script found done behind fresh parts =
    let after : List Event → Machine = λ es. record {
      image = m.image;
      core = core_after m.image m.core es;
      steps = m.steps + steps es;
    } in
    let all : List Event = interleaving (turns script) found in
    let total : List ℕ = total_text (after all).steps in (
      lines_of (after done) behind ++ total,
      sym (fresh_text m (after all) all fresh record { image = refl; core = refl; steps = refl })
          ∙ ap (λ (t : List ℕ). t ++ total) (ap (lines_of m) parts
          ∙ lines_split done behind m (after done) record { image = refl; core = refl; steps = refl })
          ∙ append_assoc (lines_of m done) (lines_of (after done) behind) total,
    )

-- the account of a history
abbrev pub account_behind : Image → List Entry → List ℕ
account_behind image history =
    account_text image.names (account_of 0 (declared_irqs image.names) (calls_in history) (replicate 32 0))

-- the text of a run whose turns were all done
abbrev pub live_whole : (image : Image) (script : List Line) (found : List (List ℕ)) (history : List Entry)
    → length found ≡ looks (turns script) → AllByRecursion IsWholeLook found → IsHistory script found history
    → IsLiveText image script (live_text image script found ++ account_behind image history)
live_whole image script found history many whole is =
    record { found = found; many = many; whole = whole; history = history; is = is; written = refl }

-- a fault came in the turns
pub part_cut : (m next : Machine) {script : List Line} {found : List (List ℕ)} {last left : List ℕ}
    {history : List Entry} (x y : List ℕ) → IsFresh m → IsCutHistory script found last left history
    → AllByRecursion IsWholeLook found → length last ≤ 16
    → (length found < looks (turns script)) ⊎ ((last ≡ []) × (length found ≤ looks (turns script)))
    → Breaks (interleaving (turns script) found ++ look_arrivals last) m next x y
    → HasWrittenPart script m next x y
part_cut m next {script = script} {found = found} {last = last} x y fresh cut whole short few breaks =
    let e : Extends script found last = extend cut whole short few in
    let of_all : Breaks (interleaving (turns script) e.all) m next x y =
    subst (λ es. Breaks es m next x y) (sym e.interleavings)
    (breaks_before (interleaving (turns script) found ++ look_arrivals last) e.behind m next x y breaks) in
    let came : List Event = of_all.done ++ of_all.last ∷ [] in
    let parts : interleaving (turns script) e.all ≡ came ++ of_all.rest =
    of_all.parts ∙ sym (append_assoc of_all.done (of_all.last ∷ []) of_all.rest) in
    let begins = text_begins m script e.all came of_all.rest fresh parts in
    let account : List ℕ = account_behind m.image e.history in
    record {
      part = record {
        bytes = live_text m.image script e.all ++ account;
        is = live_whole m.image script e.all e.history e.many e.whole e.is;
        took =
            subst (TookPrefix x y) (sym (append_assoc (lines_of m came) begins.0 account)
            ∙ ap (λ (t : List ℕ). t ++ account) (sym begins.1))
            (part_more x y (lines_of m came) (begins.0 ++ account) of_all.cut);
      };
      done = inl of_all;
    }

-- the account of a history that is allowed
pub balanced : (script : List Line) (found : List (List ℕ)) (history : List Entry) → IsHistory script found history
    → AllByRecursion HasDeviceInRange script → (irqs : List ℕ) → AllByRecursion (λ irq. irq < 512) irqs
    → AllByRecursion (IsBalanced script) (account_of 0 irqs (calls_in history) (replicate 32 0))
balanced script found history is ranges [] within = tt
balanced script found history is ranges (irq ∷ irqs) within = (
  record {
    counted =
        subst (λ bit. raised_count bit (calls_in history) + merged_count bit (calls_in history)
        ≡ device_pends irq script) (sym (bit_here 0 irq refl)) (all_counted script found history is ranges irq);
    latched = all_latched script found history is ranges (bit_in_row 0 irq) (omega (arith, within.0));
    none_left = nothing_pending script found history is ranges (bit_in_row 0 irq);
  },
  balanced script found history is ranges irqs within.1,
)

-- the run has ended, and its lines were gathered
module _ {names : Names} {script : List Line} {row : Row} {line : Caller} {rows : List AccountRow}
    (scripted : IsScript script) (gathered : AreGathered names script row line rows) where
  pub all_gathered : AllGathered line.made line.gathered
  all_gathered number made = subst (λ (ns : List ℕ). Contains ns number) (sym gathered.each) (gathered.made number made)

  -- there is room for the counts of the core's own line
  pub rows_fit : AllByRecursion HasRoom rows
  rows_fit =
      subst (AllByRecursion HasRoom) (sym gathered.counted) (counts_fit 0 line.gathered
      (all_weaker (HasMade script) IsShort (made_short script scripted) line.gathered gathered.asked)
      (omega (
        arith,
        sym (length-map line.gathered (λ (p : Part). p.line)) ∙ ap length gathered.each,
        few_below (is_device script) 16,
      )) (declared_irqs names))

  -- the words were closed, and left these bits
  module _ {bits : List ℕ} (h : OneHistory line bits) (behind : (k : ℕ) → 16 ≤ k → get_or bits k 0 ≡ 0) where
    -- each number of the history but the core's is a device's, with its pends
    asked : (number : ℕ) → number ≢ 255
        → map interrupt_asked (part h.history number) ≡ map (λ irq. Some irq) (pends script number)
    asked number ne = elim (dec_in number (numbers line.gathered)) [
      | yes there ↦
          let p = of_map (λ (q : Part). q.line) number line.gathered there in
          subst (λ k. map interrupt_asked (part h.history k) ≡ map (λ irq. Some irq) (pends script k)) p.1.1
          (ap (map interrupt_asked) (h.gathered p.0 p.1.0) ∙ all_has _ line.gathered p.0 gathered.asked p.1.0)
      | no out ↦
          ap (map interrupt_asked) (h.unmade number ne (λ made. out (all_gathered number made)))
          ∙ ap (map (λ (irq : ℕ). Some irq)) (sym (not_asked number script scripted.devices
          (λ there. out (subst (λ (ns : List ℕ). Contains ns number) (sym gathered.each) there))))
    ]

    cut_history : (found : List (List ℕ)) (last : List ℕ) → line.calls ≡ flat_map look_calls (found ++ last ∷ [])
        → IsCutHistory script found last bits h.history
    cut_history found last latched = record {
      legal = h.legal;
      core = h.own ∙ latched;
      devices = asked;
      since = line.since;
      within = omega (arith, gathered.behind, ap length latched);
      early = gathered.early;
      ended = subst (λ (cs : List Call). CallsLast h.history 255 (drop line.since cs)) latched h.last;
      behind = behind;
    }

    module _ {old next : Machine} (fresh : IsFresh old) where
      -- all turns were done
      module _ {x shown : List ℕ} (run : Done no_route 0 0 true (turns script) line.calls old next x shown) where
        abbrev all : IsWoven no_route 0 0 true (turns script) line.calls old next x shown
        all = weave run

        allowed : IsHistory script all.found h.history × (bits ≡ zeros 32)
        allowed =
            closes_whole (subst (λ ws. IsCutHistory script all.found ws bits h.history) all.reach.1
            (cut_history all.found all.last (all.alone nowhere refl))) all.whole all.reach.0

        -- the text of the run, its lines, and the line of the total
        abbrev told : List ℕ
        told = live_text old.image script all.found

        abbrev lines : List ℕ
        lines = lines_of old (interleaving (turns script) all.found)

        abbrev sends : Sends (interleaving (turns script) all.found) old next x shown
        sends = sends_of all

        all_text : lines ++ total_text next.steps ≡ told
        all_text = fresh_text old next (interleaving (turns script) all.found) fresh sends.leads

        -- a fault came in the line of the total
        total_part : (y : List ℕ) → TookPrefix shown y (total_text next.steps) → HasWrittenPart script old next x y
        total_part y part =
            let account : List ℕ = account_behind old.image h.history in
            record {
              part = record {
                bytes = told ++ account;
                is = live_whole old.image script all.found h.history all.reach.0 all.whole allowed.0;
                took =
                    part_more x y told account (subst (TookPrefix x y) all_text
                    (part_on x shown y lines (total_text next.steps) sends.took part));
              };
              done = inr (sends.leads, (part.0, took_on x shown y lines part.0 sends.took part.2));
            }

      pub failed_part : (x y : List ℕ) → Ended no_route 0 0 (turns script) false line.calls old next x y
          → HasWrittenPart script old next x y
      failed_part x y (inl stops) =
          let cut = weave stops in
          part_cut old next x y fresh (cut_history cut.found cut.last (cut.alone nowhere refl)) cut.whole cut.short
          cut.reach cut.comes
      failed_part x y (inr ends) = total_part ends.done y ends.total

      -- the rows with what the core's own line counted, and with what is left, are the account
      module _ (own : Tally) (told : IsTally line.here line.there line.calls own)
          (low : AllByRecursion (λ irq. irq < IRQ_NUMBERS) (declared_irqs names)) (x y : List ℕ)
          (ends : Ended no_route 0 0 (turns script) true line.calls old next x y) where
        abbrev settled : List AccountRow
        settled = map (settled_row 0 bits) (map (with_counts 0 0 0 own) rows)

        small : AllByRecursion (λ irq. irq < 512) (declared_irqs names)
        small =
            all_weaker (λ irq. irq < IRQ_NUMBERS) (λ irq. irq < 512) (λ irq is. omega (arith, is)) (declared_irqs names)
            low

        account_is : settled ≡ account_of 0 (declared_irqs names) (calls_in h.history) (replicate 32 0)
        account_is =
            ap (λ (rs : List AccountRow). map (settled_row 0 bits) (map (with_counts 0 0 0 own) rs)) gathered.counted
            ∙ rows_settled 0 0 0 line bits h own
            (subst (λ (l : Caller). IsTally l.here l.there line.calls own) gathered.first told)
            (declared_irqs names) small
            ∙ ap (account_of 0 (declared_irqs names) (calls_in h.history)) (allowed ends.done).1

        -- each row counts all pends of its interrupt, and nothing is left
        pub rows_balanced : AllByRecursion (IsBalanced script) settled
        rows_balanced =
            subst (AllByRecursion (IsBalanced script)) (sym account_is)
            (balanced script (all ends.done).found h.history (allowed ends.done).0 scripted.devices
            (declared_irqs names) small)

        pub has_lived : names ≡ old.image.names → HasLived script old next x y settled
        has_lived named = record {
          lives = record {
            found = (all ends.done).found;
            many = (all ends.done).reach.0;
            whole = (all ends.done).whole;
            history = h.history;
            is = (allowed ends.done).0;
            took =
                subst (Took x y) (all_text ends.done) (took_on x ends.shown y (lines ends.done) (total_text next.steps)
                (sends ends.done).took ends.total);
            account =
                account_is
                ∙ ap (λ (n : Names). account_of 0 (declared_irqs n) (calls_in h.history) (replicate 32 0)) named;
          };
          leads = (sends ends.done).leads;
        }

-- a run that went whole, and the account behind its trace, or a beginning of it
module _ {script : List Line} {old next : Machine} {x y : List ℕ} {rows : List AccountRow} (fresh : IsFresh old)
    (run : HasLived script old next x y rows) (names : Names) (named : names ≡ old.image.names) (z : List ℕ) where
  abbrev traced : List ℕ
  traced = live_text old.image script run.lives.found

  abbrev account : List ℕ
  account = account_behind old.image run.lives.history

  account_same : account_text names rows ≡ account
  account_same = ap (λ (n : Names). account_text n rows) named ∙ ap (account_text old.image.names) run.lives.account

  abbrev whole_text : IsLiveText old.image script (traced ++ account)
  whole_text = live_whole old.image script run.lives.found run.lives.history run.lives.many run.lives.whole run.lives.is

  pub has_written : Took y z (account_text names rows) → HasWritten script old next x z
  has_written took = record {
    bytes = traced ++ account;
    is = whole_text;
    took = took_on x y z traced account run.lives.took (subst (Took y z) account_same took);
    leads = run.leads;
  }

  pub account_part : TookPrefix y z (account_text names rows) → HasWrittenPart script old next x z
  account_part cut =
      let es : List Event = interleaving (turns script) run.lives.found in
      let total : List ℕ = total_text next.steps in
      record {
        part = record {
          bytes = traced ++ account;
          is = whole_text;
          took = part_on x y z traced account run.lives.took (subst (TookPrefix y z) account_same cut);
        };
        done = inr (
          run.leads,
          (
            total ++ cut.0,
            subst (Took x z) (append_assoc (lines_of old es) total cut.0)
                (took_on x y z (lines_of old es ++ total) cut.0
                (subst (Took x y) (sym (fresh_text old next es fresh run.leads)) run.lives.took) cut.2),
          ),
        );
      }

-- a text is allowed whatever comes: the devices may pend before the first look
pub some_text : (image : Image) {script : List Line} {row : Row} {line : Caller} {waiting : List Device}
    {rows : List AccountRow} → AreReady image.names script row line waiting rows
    → (bytes : List ℕ) × IsLiveText image script bytes
some_text image {script} ready =
    let first = devices_first script ready.scripted.devices
    (all_weaker (HasName image.names) IsNumbered numbered script ready.named) in
    let e : Extends script [] [] = extend first.2 tt (omega arith) (inl (omega (arith, all_looks script))) in (
      live_text image script e.all ++ account_behind image e.history,
      live_whole image script e.all e.history e.many e.whole e.is,
    )
  where
    numbered : (l : Line) → HasName image.names l → IsNumbered l
    numbered (Steps n) has = tt
    numbered (Ticks n) has = tt
    numbered (Pends irq n) has = tt
    numbered (DeviceLine d irq n) has = declared_low ready irq has
