-- Counts of places: what moves is counted as before, and a place that is in two lists is not.
use Rattle.std.proofs.Common.{◌≡◌, ℕ, zero, suc, ◌+◌, ◌<◌, ◌≤◌, Bool, true, false, if◌then◌else◌, List, [], ◌∷◌, ◌++◌}
use Rattle.std.proofs.Common.{refl, sym, ap, subst, arith}
use Rattle.std.proofs.lemmas.Bool.{eqb-true}
use Rattle.std.proofs.lemmas.List.Sums.{sum_by-append}
use Rattle.rt_lemmas.proofs.Bools.{true_and_false, left_of_none, right_of_none}
use Rattle.rt_actions.specs.Entry.{Entry, count}
use Rattle.rt_actions.specs.Location.{Location, Guarded, Own, is_same_section, is_same_location}
use Rattle.rt_actions.proofs.Sections.{one_section}
use Rattle.rt_ids.specs.declared.ids.Section.{Section}
use Rattle.rt_code.specs.Acting.{with_queue}
use Rattle.rt_code.specs.Owning.{OpenSection, is_open}
use Rattle.rt_code.proofs.Mine.{queued, queued_more}
use Rattle.rt_code.proofs.Left.{count_more}
use Rattle.rt_sim.specs.Inside.Counts.{IsOnce}
use Rattle.rt_sim.specs.Inside.PartInvariant.{AreOnce}

pub same_location : (g h : Location) → is_same_location g h ≡ true → g ≡ h
same_location (Guarded a) (Guarded b) is = ap (λ x. Guarded x) (one_section a b is)
same_location (Guarded a) (Own n) is = absurd (cc (is))
same_location (Own n) (Guarded b) is = absurd (cc (is))
same_location (Own n) (Own k) is = ap (λ j. Own j) (eqb-true n k is)

-- how the moves of a place count
pub took : (e entry : Entry) (places others queue : List Entry) → queue ≡ entry ∷ others
    → count e (entry ∷ places) + count e others ≡ count e places + count e queue
took e entry places others queue is =
    let one = count_more e entry places in
    let two = count_more e entry others in
    let same = ap (count e) is in omega arith

pub put_behind : (e entry : Entry) (places others queue : List Entry) → places ≡ entry ∷ others
    → count e others + count e (queue ++ entry ∷ []) ≡ count e places + count e queue
put_behind e entry places others queue is =
    let one = count_more e entry others in
    let two : count e (queue ++ entry ∷ []) ≡ count e queue + count e (entry ∷ [])
    = sum_by-append _ queue (entry ∷ []) in
    let same = ap (count e) is in omega arith

pub put_before : (e entry : Entry) (places others queue : List Entry) → places ≡ entry ∷ others
    → count e others + count e (entry ∷ queue) ≡ count e places + count e queue
put_before e entry places others queue is =
    let one = count_more e entry others in
    let two = count_more e entry queue in
    let same = ap (count e) is in omega arith

-- from amid a queue, and from there to its end
pub taken_out : (e entry : Entry) (places before behind queue : List Entry) → queue ≡ before ++ entry ∷ behind
    → count e (entry ∷ places) + count e (before ++ behind) ≡ count e places + count e queue
taken_out e entry places before behind queue is =
    let one = count_more e entry places in
    let two = count_more e entry behind in
    let rest : count e (before ++ behind) ≡ count e before + count e behind = sum_by-append _ before behind in
    let all : count e (before ++ entry ∷ behind) ≡ count e before + count e (entry ∷ behind)
    = sum_by-append _ before (entry ∷ behind) in
    let same = ap (count e) is in omega arith

pub put_last : (e entry : Entry) (places before behind queue : List Entry) → queue ≡ before ++ entry ∷ behind
    → count e places + count e (before ++ (behind ++ entry ∷ [])) ≡ count e places + count e queue
put_last e entry places before behind queue is =
    let one = count_more e entry behind in
    let two : count e (behind ++ entry ∷ []) ≡ count e behind + count e (entry ∷ [])
    = sum_by-append _ behind (entry ∷ []) in
    let rest : count e (before ++ (behind ++ entry ∷ [])) ≡ count e before + count e (behind ++ entry ∷ [])
    = sum_by-append _ before (behind ++ entry ∷ []) in
    let all : count e (before ++ entry ∷ behind) ≡ count e before + count e (entry ∷ behind)
    = sum_by-append _ before (entry ∷ behind) in
    let same = ap (count e) is in omega arith

-- with fewer in hands
pub fewer_once : (queues : Location → List Entry) (before after : Entry → ℕ) → ((e : Entry) → after e ≤ before e)
    → IsOnce queues before → IsOnce queues after
fewer_once queues before after less once = record {
  one = λ e h. omega (arith, less e, once.one e h);
  two = λ e g h differ. omega (arith, less e, once.two e g h differ);
}

-- where the queue of a section is another, with as many of each place in it and in hands
pub moved_once : (queues : Location → List Entry) (x : Section) (entries : List Entry) (before after : Entry → ℕ)
    → ((e : Entry) → after e + count e entries ≡ before e + count e (queues (Guarded x)))
    → IsOnce queues before → IsOnce (with_queue queues x entries) after
moved_once queues x entries before after alike once = record {
  one = λ e h. one e h (is_same_location (Guarded x) h) refl;
  two = λ e g h differ. two e g h differ (is_same_location (Guarded x) g) (is_same_location (Guarded x) h) refl refl;
}
  where
    one : (e : Entry) (h : Location) (b : Bool) → is_same_location (Guarded x) h ≡ b
        → count e (if b then entries else queues h) + after e ≤ 1
    one e h true same = omega (arith, alike e, once.one e (Guarded x))
    one e h false other = omega (arith, alike e, once.two e (Guarded x) h other)

    two : (e : Entry) (g h : Location) → is_same_location g h ≡ false → (b c : Bool) → is_same_location (Guarded x) g
        ≡ b
        → is_same_location (Guarded x) h ≡ c
        → count e (if b then entries else queues g) + count e (if c then entries else queues h) + after e ≤ 1
    two e g h differ true true first second =
        absurd (true_and_false (is_same_location (Guarded x) h) second
        (subst (λ k. is_same_location k h ≡ false) (sym (same_location (Guarded x) g first)) differ))
    two e g h differ true false first second = omega (arith, alike e, once.two e (Guarded x) h second)
    two e g h differ false true first second = omega (arith, alike e, once.two e (Guarded x) g first)
    two e g h differ false false first second =
        omega (arith, alike e, once.two e (Guarded x) g first, once.two e (Guarded x) h second, once.two e g h differ)

module _ (queues : Location → List Entry) (in_hands : Entry → ℕ) (once : IsOnce queues in_hands) where
  -- and in all queues of different sections
  pub open_once : (e : Entry) (x : Section) (held : List OpenSection) → AreOnce held → is_open held x ≡ false
      → count e (queues (Guarded x)) + queued queues e held + in_hands e ≤ 1
  open_once e x [] all closed = omega (arith, once.one e (Guarded x))
  open_once e x (h ∷ outer) all closed =
      let here = left_of_none (is_same_section h.section x) (is_open outer x) closed in
      let rest = right_of_none (is_same_section h.section x) (is_open outer x) closed in
      omega (
        arith,
        queued_more queues e h outer,
        once.two e (Guarded h.section) (Guarded x) here,
        open_once e x outer all.1 rest,
        open_once e h.section outer all.1 all.0,
      )

-- one that is in the queues of open sections is in one of them
pub queued_in : (queues : Location → List Entry) (e : Entry) (held : List OpenSection) → 0 < queued queues e held
    → (x : Section) × (0 < count e (queues (Guarded x)))
queued_in queues e [] some = absurd (omega (arith, some))
queued_in queues e (h ∷ outer) some =
    by (count e (queues (Guarded h.section))) refl (λ more. queued_in queues e outer more)
  where
    by : (n : ℕ) → count e (queues (Guarded h.section)) ≡ n
        → (0 < queued queues e outer → (x : Section) × (0 < count e (queues (Guarded x))))
        → (x : Section) × (0 < count e (queues (Guarded x)))
    by zero none deeper = deeper (omega (arith, some, none, queued_more queues e h outer))
    by (suc n) is deeper = (h.section, omega (arith, is))
