-- The lines of a script's text request declared interrupts, of devices that there are.
use Rattle.std.proofs.Common.{◌≡◌, ◌≤◌, ℕ, ◌+◌, List, [], ◌∷◌, ◌++◌, find, bytes_eq, Option, Some, None}
use Rattle.std.proofs.Common.{Result, Ok, Err, IfOk, IfSome, IsSome, nat_lt, nat_le, option_map, refl, arith}
use Rattle.std.specs.Option.{ok_or}
use Rattle.std.proofs.lemmas.Bool.{cond_both, ltb-true, leb-true}
use Rattle.std.proofs.lemmas.List.Sums.{sum_by_push}
use Rattle.rt_lemmas.proofs.Lists.{find_has}
use Rattle.rt_lemmas.proofs.Membership.{all_append}
use Rattle.rt_ids.specs.Names.{Names}
use Rattle.rt_ids.specs.Naming.{irq_named}
use Rattle.rt_ids.specs.declared.limits.TheConstants.{DEVICES, SCRIPT_EVENTS}
use Rattle.rt_lines.specs.Answers.{and_make}
use Rattle.rt_lines.specs.Numbers.{short_number}
use Rattle.rt_lines.specs.Parts.{spaced_words}
use Rattle.rt_lines.specs.Reading.{Lead}
use Rattle.rt_script.specs.Script.{HasName, HasNames, HasDeviceInRange, IsScript, count, count_of}
use Rattle.rt_script.specs.Text.{with_asked, script_reader}
use Rattle.rt_script.specs.Wording.{only_count, count_or_one, irq_at, pends_of, in_range, device_of, words_ask, line_of}
use Rattle.rt_script.specs.declared.line.Line.{Line}
use Rattle.rt_script.specs.declared.line.Line.TheVariants.{Steps, Ticks, Pends, Device}
use Rattle.rt_script.specs.declared.words.Wrong.{Wrong}
use Rattle.rt_script.specs.declared.words.Wrong.TheVariants as wrong
use Rattle.rt_lines.proofs.Decoded.{if_ok_chosen, if_ok_then, if_ok_make, if_ok_then_any, if_ok_make_any}
use Rattle.rt_lines.proofs.Reading.{kept}
use Rattle.rt_lines.proofs.Found.{irqs_declared}

module _ (names : Names) where
  abbrev IsDeclared : ℕ → Type 0
  IsDeclared irq = IsSome (irq_named names irq)

  by_name : (word : List ℕ) (o : Option (List ℕ × ℕ)) → find (λ irq. bytes_eq word irq.0) names.irqs ≡ o
      → IfOk (ok_or (option_map (λ irq. irq.1) o) wrong.Interrupt) IsDeclared
  by_name word None is = tt
  by_name word (Some irq) is =
      find_has (λ irq. IsDeclared irq.1) (λ irq. bytes_eq word irq.0) names.irqs irq (irqs_declared names) is

  irq_declared : (word : List ℕ) → IfOk (irq_at names word) IsDeclared
  irq_declared word =
      let named = by_name word (find (λ irq. bytes_eq word irq.0) names.irqs) refl in
      search (if_ok_chosen, named)

  pends_declared : (words : List (List ℕ)) → IfOk (pends_of names words) (λ pends. IsDeclared pends.0)
  pends_declared [] = tt
  pends_declared (i ∷ more) =
      if_ok_then_any (λ pends. IsDeclared pends.0) (count_or_one more) _
      (λ n. if_ok_make (λ pends. IsDeclared pends.0) (irq_at names i) _ IsDeclared (irq_declared i) (λ irq is. is))

  -- what is asked for has a name, and a device that there is
  abbrev IsRight : Line → Type 0
  IsRight line = HasName names line × HasDeviceInRange line

  abbrev AllRight : Result Line Wrong → Type 0
  AllRight r = IfOk r IsRight

  in_range_right : (device : ℕ) (pends : ℕ × ℕ) → IsDeclared pends.0 → AllRight (in_range device pends)
  in_range_right device pends is =
      cond_both (nat_lt device DEVICES) (Ok (Device device pends.0 pends.1)) (Err wrong.Device) AllRight
      (λ within. (is, ltb-true device DEVICES within)) (λ _. tt)

  device_right : (words : List (List ℕ)) → AllRight (device_of names words)
  device_right [] = tt
  device_right (d ∷ []) = tt
  device_right (d ∷ verb ∷ words) =
      let asks = if_ok_then_any IsRight (ok_or (short_number d) wrong.Form) _
      (λ device. if_ok_then IsRight (pends_of names words) (in_range device) _ (pends_declared words)
      (in_range_right device)) in
      search (if_ok_chosen, asks)

  counted : (f : ℕ → Line) → ((n : ℕ) → IsRight (f n)) → (words : List (List ℕ))
      → AllRight (and_make (only_count words) f)
  counted f is words = if_ok_make_any IsRight (only_count words) f is

  words_right : (words : List (List ℕ)) → AllRight (words_ask names words)
  words_right [] = tt
  words_right (verb ∷ words) =
      let steps = counted Steps (λ n. (tt, tt)) words in
      let ticks = counted Ticks (λ n. (tt, tt)) words in
      let pends = if_ok_make IsRight (pends_of names words) (λ p. Pends p.0 p.1) _ (pends_declared words)
      (λ p is. (is, tt)) in
      let device = device_right words in
      search (if_ok_chosen, steps, ticks, pends, device)

  pub line_right : (line : List ℕ) → IfOk (line_of names line) (λ asked. IfSome asked IsRight)
  line_right line =
      let asks = if_ok_make (λ asked. IfSome asked IsRight) (words_ask names (spaced_words line)) Some _
      (words_right (spaced_words line)) (λ asked is. is) in
      search (if_ok_chosen, asks)

  -- lines that request declared interrupts, and are a script
  pub record AreRight (lines : List Line) : Type 0 where
    pub named : HasNames names lines
    pub script : IsScript lines

  asked_right : (script : List Line) (asked : Option Line) → AreRight script → IfSome asked IsRight
      → IfOk (with_asked script asked) AreRight
  asked_right script None are is = are
  asked_right script (Some line) are is =
      cond_both (nat_le (count script + count_of line) SCRIPT_EVENTS) (Ok (script ++ line ∷ [])) (Err wrong.Events)
      (λ r. IfOk r AreRight)
      (λ fits. let few : count script + count_of line ≤ SCRIPT_EVENTS = leb-true _ _ fits in
      record {
        named = all_append (HasName names) script (line ∷ []) are.named (is.0, tt);
        script = record {
          devices = all_append HasDeviceInRange script (line ∷ []) are.script.devices (is.1, tt);
          few = omega (arith, sum_by_push count_of script line, few);
        };
      })
      (λ _. tt)

  -- the lines of a text
  pub lead_right : (ls : List (List ℕ)) (script : List Line) → Lead (script_reader names) [] ls script → AreRight script
  lead_right ls script lead =
      kept (script_reader names) AreRight
      (λ s line are. if_ok_then AreRight (line_of names line) (with_asked s) _ (line_right line)
      (λ asked. asked_right s asked are))
      [] script ls lead (record { named = tt; script = record { devices = tt; few = omega arith } })
