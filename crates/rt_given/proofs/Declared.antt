-- The line of a device that gives words requests a declared interrupt, and its device is one that there is.
use Rattle.std.proofs.Common.{◌≡◌, ℕ, List, [], ◌∷◌, find, bytes_eq, Option, Some, None}
use Rattle.std.proofs.Common.{Result, Ok, Err, IfOk, IsSome, nat_lt, option_map, refl}
use Rattle.std.specs.Option.{ok_or}
use Rattle.std.proofs.lemmas.Bool.{cond_both, ltb-true}
use Rattle.rt_lemmas.proofs.Lists.{find_has}
use Rattle.rt_ids.specs.Names.{Names}
use Rattle.rt_ids.specs.Naming.{irq_named}
use Rattle.rt_ids.specs.declared.limits.TheConstants.{DEVICES}
use Rattle.rt_lines.specs.Numbers.{short_number}
use Rattle.rt_lines.proofs.Decoded.{if_ok_chosen, if_ok_then, if_ok_make, if_ok_then_any}
use Rattle.rt_lines.proofs.Found.{irqs_declared}
use Rattle.rt_script.specs.Script.{HasName, HasDeviceInRange}
use Rattle.rt_script.specs.Wording.{count_or_one, irq_at, pends_of, in_range, device_of}
use Rattle.rt_script.specs.declared.line.Line.{Line}
use Rattle.rt_script.specs.declared.line.Line.TheVariants.{Device}
use Rattle.rt_script.specs.declared.words.Wrong.{Wrong}
use Rattle.rt_script.specs.declared.words.Wrong.TheVariants as wrong
use Rattle.rt_given.specs.Wording.{DeviceWords, asked_device, told_here}

module _ (names : Names) where
  abbrev IsDeclared : ℕ → Type 0
  IsDeclared irq = IsSome (irq_named names irq)

  by_name : (word : List ℕ) (o : Option (List ℕ × ℕ)) → find (λ irq. bytes_eq word irq.0) names.irqs ≡ o
      → IfOk (ok_or (option_map (λ irq. irq.1) o) wrong.Interrupt) IsDeclared
  by_name word None is = tt
  by_name word (Some irq) is =
      find_has (λ irq. IsDeclared irq.1) (λ irq. bytes_eq word irq.0) names.irqs irq (irqs_declared names) is

  irq_declared : (word : List ℕ) → IfOk (irq_at names word) IsDeclared
  irq_declared word =
      let named = by_name word (find (λ irq. bytes_eq word irq.0) names.irqs) refl in
      search (if_ok_chosen, named)

  abbrev IsRight : Line → Type 0
  IsRight line = HasName names line × HasDeviceInRange line

  in_range_right : (device : ℕ) (pends : ℕ × ℕ) → IsDeclared pends.0 → IfOk (in_range device pends) IsRight
  in_range_right device pends is =
      cond_both (nat_lt device DEVICES) (Ok (Device device pends.0 pends.1)) (Err wrong.Device) (λ r. IfOk r IsRight)
      (λ within. (is, ltb-true device DEVICES within)) (λ _. tt)

  asked_right : (d verb irq count : List ℕ) → IfOk (device_of names (d ∷ verb ∷ irq ∷ count ∷ [])) IsRight
  asked_right d verb irq count =
      let pends : IfOk (pends_of names (irq ∷ count ∷ [])) (λ p. IsDeclared p.0) =
      if_ok_then_any (λ p. IsDeclared p.0) (count_or_one (count ∷ [])) _
      (λ n. if_ok_make (λ p. IsDeclared p.0) (irq_at names irq) _ IsDeclared (irq_declared irq) (λ i is. is)) in
      let asks = if_ok_then_any IsRight (ok_or (short_number d) wrong.Form) _
      (λ device. if_ok_then IsRight (pends_of names (irq ∷ count ∷ [])) (in_range device) _ pends
      (in_range_right device)) in
      search (if_ok_chosen, asks)

  told : (r : Result Line Wrong) → IfOk r IsRight → IfOk (told_here r) IsRight
  told (Ok line) right = right
  told (Err w) right = tt

  pub device_right : (w : DeviceWords) → IfOk (asked_device names w) IsRight
  device_right w =
      told (device_of names (w.device ∷ w.verb ∷ w.irq ∷ w.count ∷ []))
      (asked_right w.device w.verb w.irq w.count)
