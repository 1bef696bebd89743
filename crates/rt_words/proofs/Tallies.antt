-- A line's counts after one call more.
use Rattle.std.proofs.Common.{◌≡◌, ◌≢◌, ℕ, ◌+◌, ◌-◌, ◌/◌, ◌%◌, ◌^◌, ◌<◌, ◌==◌, ◌&&◌, Bool, false, cond, List, []}
use Rattle.std.proofs.Common.{◌∷◌, ◌++◌, length, get_or, set, count_by, refl, sym, ap, ◌∙◌, subst, arith, eq-eqb}
use Rattle.std.proofs.Common.{ne_eqb, get_or-set_same, get_or-set_other, length-set}
use Rattle.std.specs.Int.{bit_at}
use Rattle.std.proofs.lemmas.List.Sums.{sum_by_push, count_by-le-length}
use Rattle.std.proofs.lemmas.List.{get_or_past}
use native.Mathlib.Decide.{ℕ_discrete, dec_lt}
use Rattle.rt_words.specs.declared.call.Pended.TheVariants.{Raised, Merged}
use Rattle.rt_words.specs.declared.call.Call.{Call}
use Rattle.rt_words.specs.declared.call.Call.TheVariants.{Latch, Pend}
use Rattle.rt_words.specs.declared.tally.Tally.{Tally}
use Rattle.rt_words.specs.declared.view.View.{View}
use Rattle.rt_words.specs.Account.{raises, merges, latches, IsTally}
use Rattle.rt_words.specs.History.{Entry}
use Rattle.rt_words.specs.Row.{bit_in_row, word_in_row}
use Rattle.rt_words.specs.Inside.Fields.{IsSoundLine}
use Rattle.rt_words.specs.Inside.Seats.{Seat, IsLive}
use Rattle.rt_words.specs.Inside.Steps.{view_after_call}
use Rattle.rt_words.proofs.Bits.{blank, blank_long, zeros}
use Rattle.rt_words.proofs.Counting.{one_if}

-- one call more, under any test
more_if : (p : Call → Bool) (calls : List Call) (c : Call) (old new : ℕ) → old ≡ count_by p calls
    → new ≡ old + one_if (p c) → new ≡ count_by p (calls ++ c ∷ [])
more_if p calls c old new before more =
    omega (arith, before, more, sum_by_push (λ x. cond (p x) 1 0) calls c)

none_more : (p : Call → Bool) (calls : List Call) (c : Call) → count_by p calls ≡ 0 → p c ≡ false
    → count_by p (calls ++ c ∷ []) ≡ 0
none_more p calls c none miss = omega (arith, none, ap one_if miss, sum_by_push (λ x. cond (p x) 1 0) calls c)

-- the counts are those before with what one call adds, by interrupt number
abbrev Adds : (ℕ → Bool) → List ℕ → List ℕ → Type 0
Adds test old new = (irq : ℕ) → get_or new irq 0 ≡ get_or old irq 0 + one_if (test irq)

module _ (here there : ℕ) (calls : List Call) (c : Call) (old new : Tally) (is : IsTally here there calls old)
    (raised : Adds (λ irq. raises (bit_in_row there irq) c) old.raised new.raised)
    (merged : Adds (λ irq. merges (bit_in_row there irq) c) old.merged new.merged)
    (latched : (irq : ℕ) → irq < 512
    → get_or new.latched irq 0 ≡ get_or old.latched irq 0 + one_if (latches (bit_in_row here irq) c))
    (raises_there : (bit : ℕ) → bit / 512 ≢ there → raises bit c ≡ false)
    (merges_there : (bit : ℕ) → bit / 512 ≢ there → merges bit c ≡ false)
    (latches_here : (bit : ℕ) → bit / 512 ≢ here → latches bit c ≡ false) where
  tally_after : IsTally here there (calls ++ c ∷ []) new
  tally_after = record {
    raised = λ irq small. more_if (raises (bit_in_row there irq)) calls c _ _ (is.raised irq small) (raised irq);
    merged = λ irq small. more_if (merges (bit_in_row there irq)) calls c _ _ (is.merged irq small) (merged irq);
    latched = λ irq small.
        more_if (latches (bit_in_row here irq)) calls c _ _ (is.latched irq small) (latched irq small);
    raised_there = λ bit far. none_more (raises bit) calls c (is.raised_there bit far) (raises_there bit far);
    merged_there = λ bit far. none_more (merges bit) calls c (is.merged_there bit far) (merges_there bit far);
    latched_here = λ bit far. none_more (latches bit) calls c (is.latched_here bit far) (latches_here bit far);
  }

same_plus_none : (n : ℕ) → n ≡ n + 0
same_plus_none n = omega arith

-- one more at a place
hit : (counts : List ℕ) (n irq : ℕ) → n < length counts
    → get_or (set counts n (get_or counts n 0 + 1)) irq 0 ≡ get_or counts irq 0 + one_if (n == irq)
hit counts n irq inside = by (ℕ_discrete n irq)
  where
    by : Dec (n ≡ irq)
        → get_or (set counts n (get_or counts n 0 + 1)) irq 0 ≡ get_or counts irq 0 + one_if (n == irq)
    by (yes e) =
        ap (λ (i : ℕ). get_or (set counts n (get_or counts n 0 + 1)) i 0) (sym e)
        ∙ get_or-set_same counts n (get_or counts n 0 + 1) 0 inside
        ∙ (λ i. get_or counts (e i) 0 + one_if (sym (eq-eqb n irq e) i))
    by (no ne) =
        get_or-set_other counts n irq (get_or counts n 0 + 1) 0 (λ e. ne (sym e))
        ∙ same_plus_none (get_or counts irq 0)
        ∙ ap (λ b. get_or counts irq 0 + one_if b) (sym (ne_eqb n irq ne))

-- two tests that are equal
both_test : (a b c d : ℕ) → (a ≡ b → c ≡ d) → (c ≡ d → a ≡ b) → (a == b) ≡ (c == d)
both_test a b c d on back = by (ℕ_discrete a b)
  where
    by : Dec (a ≡ b) → (a == b) ≡ (c == d)
    by (yes e) = eq-eqb a b e ∙ sym (eq-eqb c d (on e))
    by (no ne) = ne_eqb a b ne ∙ sym (ne_eqb c d (λ e. ne (back e)))

-- an interrupt of one core, and a bit of another
other_core : (core n bit : ℕ) → n < 512 → bit / 512 ≢ core → (bit_in_row core n == bit) ≡ false
other_core core n bit small far =
    ne_eqb (bit_in_row core n) bit (λ e. far (omega (arith, e, small)))

hit_there : (there : ℕ) (counts : List ℕ) (n : ℕ) → n < length counts
    → Adds (λ irq. bit_in_row there n == bit_in_row there irq) counts (set counts n (get_or counts n 0 + 1))
hit_there there counts n inside irq =
    hit counts n irq inside
    ∙ ap (λ b. get_or counts irq 0 + one_if b)
    (both_test n irq (bit_in_row there n) (bit_in_row there irq) (ap (bit_in_row there)) (λ e. omega (arith, e)))

-- a word of a core has the bits of its interrupts
latches_core : (here k word irq : ℕ) → latches irq (Latch k word)
    ≡ latches (bit_in_row here irq) (Latch (word_in_row here k) word)
latches_core here k word irq =
    let bit : irq % 32 ≡ bit_in_row here irq % 32 = omega arith in
    let test : (k == irq / 32) ≡ (word_in_row here k == bit_in_row here irq / 32) =
    both_test k (irq / 32) (word_in_row here k) (bit_in_row here irq / 32) (λ e. omega (arith, e))
    (λ e. omega (arith, e)) in
    λ i. test i && (bit_at word (bit i) == 1)

latches_else : (here k word bit : ℕ) → k < 16 → bit / 512 ≢ here → latches bit (Latch (word_in_row here k) word) ≡ false
latches_else here k word bit small far =
    ap (λ b. b && (bit_at word (bit % 32) == 1))
    (ne_eqb (word_in_row here k) (bit / 32) (λ e. far (omega (arith, e, small))))

-- a line with the calls that its tally counts
pub sound : (id : ℕ) (me : Seat) (v : View) (here there : ℕ) (tally : Tally) → me ≡ (v, []) → IsLive id v
    → here < 2 → there < 2
    → length tally.raised ≡ 512 → length tally.merged ≡ 512 → length tally.latched ≡ 512
    → IsTally here there v.calls tally → IsSoundLine id me here there tally
sound id me v here there tally e seat near far raised merged latched counted =
    subst (λ (x : Seat). IsSoundLine id x here there tally) (sym e) record {
      slots = refl;
      seat = seat;
      near = near;
      far = far;
      room_raised = raised;
      room_merged = merged;
      room_latched = latched;
      counted = counted;
    }

-- a line's seat after a step of it
module _ (id next : ℕ) (me after : Seat) (here there : ℕ) (old : Tally) (is : IsSoundLine id me here there old)
    (same : next ≡ id) where
  held : (v : View) → after ≡ (v, me.1) → after ≡ (v, [])
  held v e = e ∙ ap (λ (xs : List (ℕ × Unit {0})). (v, xs)) is.slots

  -- that leaves the calls
  pub after_still : (v : View) → after ≡ (v, me.1) → v.line ≡ me.0.line → v.calls ≡ me.0.calls
      → IsSoundLine next after here there old
  after_still v e line calls =
      sound next after v here there old (held v e) (λ f. same ∙ is.seat (sym line ∙ f)) is.near is.far is.room_raised
      is.room_merged is.room_latched
      (subst (λ (cs : List Call). IsTally here there cs old) (sym calls) is.counted)

  after_call : (seen : List Entry) (c : Call) (new : Tally) → after ≡ (view_after_call me.0 seen c, me.1)
      → length new.raised ≡ 512 → length new.merged ≡ 512 → length new.latched ≡ 512
      → IsTally here there (me.0.calls ++ c ∷ []) new → IsSoundLine next after here there new
  after_call seen c new e raised merged latched counted =
      let v : View = view_after_call me.0 seen c in
      sound next after v here there new (held v e) (λ f. same ∙ is.seat f) is.near is.far raised merged latched counted

  pub after_merged : (seen : List Entry) (n : ℕ) → n < 512
      → after ≡ (view_after_call me.0 seen (Pend (bit_in_row there n) Merged), me.1)
      → IsSoundLine next after here there (record old { merged = set old.merged n (get_or old.merged n 0 + 1) })
  after_merged seen n small e =
      let c : Call = Pend (bit_in_row there n) Merged in
      let new : Tally = record old { merged = set old.merged n (get_or old.merged n 0 + 1) } in
      after_call seen c new e is.room_raised (length-set old.merged n (get_or old.merged n 0 + 1) ∙ is.room_merged)
      is.room_latched
      (tally_after here there me.0.calls c old new is.counted (λ irq. same_plus_none (get_or old.raised irq 0))
      (hit_there there old.merged n (omega (arith, small, is.room_merged)))
      (λ irq within. same_plus_none (get_or old.latched irq 0)) (λ bit far. refl)
      (λ bit far. other_core there n bit small far) (λ bit far. refl))

  pub after_raised : (seen : List Entry) (n : ℕ) → n < 512
      → after ≡ (view_after_call me.0 seen (Pend (bit_in_row there n) Raised), me.1)
      → IsSoundLine next after here there (record old { raised = set old.raised n (get_or old.raised n 0 + 1) })
  after_raised seen n small e =
      let c : Call = Pend (bit_in_row there n) Raised in
      let new : Tally = record old { raised = set old.raised n (get_or old.raised n 0 + 1) } in
      after_call seen c new e (length-set old.raised n (get_or old.raised n 0 + 1) ∙ is.room_raised) is.room_merged
      is.room_latched
      (tally_after here there me.0.calls c old new is.counted
      (hit_there there old.raised n (omega (arith, small, is.room_raised)))
      (λ irq. same_plus_none (get_or old.merged irq 0)) (λ irq within. same_plus_none (get_or old.latched irq 0))
      (λ bit far. other_core there n bit small far) (λ bit far. refl) (λ bit far. refl))

  pub after_latched : (seen : List Entry) (k word : ℕ) (counts : List ℕ) → k < 16
      → after ≡ (view_after_call me.0 seen (Latch (word_in_row here k) word), me.1) → length counts ≡ 512
      → Adds (λ irq. latches irq (Latch k word)) old.latched counts
      → IsSoundLine next after here there (record old { latched = counts })
  after_latched seen k word counts small e room grown =
      let c : Call = Latch (word_in_row here k) word in
      let new : Tally = record old { latched = counts } in
      after_call seen c new e is.room_raised is.room_merged room
      (tally_after here there me.0.calls c old new is.counted (λ irq. same_plus_none (get_or old.raised irq 0))
      (λ irq. same_plus_none (get_or old.merged irq 0))
      (λ irq within. grown irq ∙ ap (λ b. get_or old.latched irq 0 + one_if b) (latches_core here k word irq))
      (λ bit far. refl) (λ bit far. refl) (λ bit far. latches_else here k word bit small far))

-- a line before its first call
pub new_sound : (id : ℕ) (me : Seat) (v : View) (here there : ℕ) (tally : Tally) → me ≡ (v, []) → IsLive id v
    → v.calls ≡ [] → here < 2 → there < 2 → tally.raised ≡ blank 512 → tally.merged ≡ blank 512
    → tally.latched ≡ blank 512 → IsSoundLine id me here there tally
new_sound id me v here there tally e seat none near far raised merged latched =
    let empty : (counts : List ℕ) → counts ≡ blank 512 → (irq : ℕ) → get_or counts irq 0 ≡ 0 =
    λ counts is irq. ap (λ (xs : List ℕ). get_or xs irq 0) is ∙ zeros 512 irq in
    let long : (counts : List ℕ) → counts ≡ blank 512 → length counts ≡ 512 =
    λ counts is. ap length is ∙ blank_long 512 in
    sound id me v here there tally e seat near far (long tally.raised raised) (long tally.merged merged)
    (long tally.latched latched)
    (subst (λ (cs : List Call). IsTally here there cs tally) (sym none) record {
      raised = λ irq small. empty tally.raised raised irq;
      merged = λ irq small. empty tally.merged merged irq;
      latched = λ irq small. empty tally.latched latched irq;
      raised_there = λ bit other. refl;
      merged_there = λ bit other. refl;
      latched_here = λ bit other. refl;
    })

-- there is room for a latch more in each count
pub latched_room : (here there : ℕ) (calls : List Call) (tally : Tally) → IsTally here there calls tally
    → length tally.latched ≡ 512 → length calls < 2 ^ 32 - 1 → (irq : ℕ) → get_or tally.latched irq 0 < 2 ^ 32 - 1
latched_room here there calls tally is wide few irq = by (dec_lt irq 512)
  where
    by : Dec (irq < 512) → get_or tally.latched irq 0 < 2 ^ 32 - 1
    by (yes l) = omega (arith, is.latched irq l, count_by-le-length (latches (bit_in_row here irq)) calls, few)
    by (no past) = omega (arith, get_or_past tally.latched irq 0 (omega (arith, past, wide)))
