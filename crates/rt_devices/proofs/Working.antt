-- What a device does, part after part.
use Rattle.std.proofs.Common.{◌≡◌, ℕ, ◌+◌, ◌<◌, ◌≤◌, List, [], ◌∷◌, ◌++◌, length, take, drop, map, replicate, get_or}
use Rattle.std.proofs.Common.{Option, Some, refl, ap, sym, subst, ◌∙◌, append_assoc, arith}
use Rattle.std.proofs.lemmas.List.{map-append, length-map, length-append, length-replicate}
use Rattle.std.proofs.lemmas.List.{take-append-drop, replicate-append-replicate}
use Rattle.std.proofs.lemmas.Grind.{flat_map-append}
use Rattle.rt_lemmas.proofs.Lists.{flat_map_next}
use Rattle.rt_words.specs.declared.call.Call.{Call}
use Rattle.rt_words.specs.{declared.call.Call.TheVariants.Pend, declared.call.Pended.Pended, Lines.Line, Row.bit_in_row}
use Rattle.rt_devices.specs.{declared.device.Device.Device, Work.Works, Work.interrupt_asked, Work.requests}

-- one pend
pub works_one : (a : Device) (line : Line) (irq : ℕ) (answer : Pended)
    → line ≡ record a.line { calls = a.line.calls ++ Pend (bit_in_row a.line.there irq) answer ∷ [] }
    → Works (irq ∷ []) a (record a { line = line })
works_one a line irq answer is = record {
  calls = Pend (bit_in_row a.line.there irq) answer ∷ [];
  asked = refl;
  same = ap (λ (l : Line). record a { line = l }) is;
}

-- one part after another
pub works_on : (irqs more : List ℕ) (a b c : Device) → Works irqs a b → Works more b c → Works (irqs ++ more) a c
works_on irqs more a b c p q = record {
  calls = p.calls ++ q.calls;
  asked =
      let asks : ℕ → ℕ → Option ℕ = λ core irq. Some (bit_in_row core irq) in
      map-append interrupt_asked p.calls q.calls
      ∙ (λ i. p.asked i ++ (q.asked ∙ ap (λ (d : Device). map (asks d.line.there) more) p.same) i)
      ∙ sym (map-append (asks a.line.there) irqs more);
  same =
      q.same
      ∙ ap (λ (d : Device). record d { line = record d.line { calls = d.line.calls ++ q.calls } }) p.same
      ∙ ap (λ (cs : List Call). record a { line = record a.line { calls = cs } })
      (append_assoc a.line.calls p.calls q.calls);
}

-- the line has so many calls more
pub calls_length : (irqs : List ℕ) (a b : Device) → Works irqs a b
    → length b.line.calls ≡ length a.line.calls + length irqs
calls_length irqs a b p =
    omega (
      arith,
      ap (λ (d : Device). length d.line.calls) p.same,
      length-append a.line.calls p.calls,
      length-map p.calls interrupt_asked,
      length-map irqs (λ (irq : ℕ). Some (bit_in_row a.line.there irq)),
      ap length p.asked,
    )

pub once_more : (count irq : ℕ) → replicate (count + 1) irq ≡ replicate count irq ++ irq ∷ []
once_more count irq = sym (replicate-append-replicate count 1 irq)

-- the requests of some first entries are no more than all
requests_few : (script : List (ℕ × ℕ)) (i : ℕ) → length (requests (take i script)) ≤ length (requests script)
requests_few script i =
    omega (
      arith,
      ap (λ (s : List (ℕ × ℕ)). length (requests s)) (take-append-drop i script),
      ap length (flat_map-append (λ (e : ℕ × ℕ). replicate e.1 e.0) (take i script) (drop i script)),
      length-append (requests (take i script)) (requests (drop i script)),
    )

-- a device that has done the first entries of its script, and the next entry
module _ (a b : Device) (i : ℕ) (entry : ℕ × ℕ) (below : i < length a.script.items)
    (found : entry ≡ get_or b.script.items i entry)
    (works : Works (requests (take i a.script.items)) a b) where
  abbrev script : List (ℕ × ℕ)
  script = a.script.items

  requests_more : requests (take (i + 1) script) ≡ requests (take i script) ++ replicate entry.1 entry.0
  requests_more =
      flat_map_next (λ (e : ℕ × ℕ). replicate e.1 e.0) script i entry below
      (found ∙ ap (λ (d : Device). get_or d.script.items i entry) works.same)

  pub requests_grow : length (requests (take (i + 1) script)) ≡ length (requests (take i script)) + entry.1
  requests_grow =
      omega (
        arith,
        ap length requests_more,
        length-append (requests (take i script)) (replicate entry.1 entry.0),
        length-replicate entry.1 entry.0,
      )

  -- the requests so far, with the entry's, are no more than all
  pub requests_within : length (requests (take i script)) + entry.1 ≤ length (requests script)
  requests_within = omega (arith, requests_grow, requests_few script (i + 1))

  -- the line has room for the entry
  pub room_left : (most : ℕ) → length a.line.calls + length (requests script) < most
      → length b.line.calls + entry.1 < most
  room_left most room = omega (arith, requests_within, calls_length (requests (take i script)) a b works, room)

  pub entry_done : (c : Device) → Works (replicate entry.1 entry.0) b c → Works (requests (take (i + 1) script)) a c
  entry_done c then =
      subst (λ (irqs : List ℕ). Works irqs a c) (sym requests_more)
      (works_on (requests (take i script)) (replicate entry.1 entry.0) a b c works then)
