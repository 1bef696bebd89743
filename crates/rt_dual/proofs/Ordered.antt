-- In the history of a pair a post comes before the look that finds it, and a look before the posts that it leads to.
use Rattle.rt_live.proofs.Vocabulary.{AllByRecursion, Bool, Call, Contains, Entry, Event, Image, IsLegal, Latch, Line}
use Rattle.rt_live.proofs.Vocabulary.{List, Merged, Names, Part, Pend, Raised, Request, Some, [], accounts, all_behind}
use Rattle.rt_live.proofs.Vocabulary.{all_front, all_has, ap, append_assoc, arith, bit_at, by_parts, calls_in, cases_lt}
use Rattle.rt_live.proofs.Vocabulary.{contains_cases, contains_here, contains_none, contains_there, count_by}
use Rattle.rt_live.proofs.Vocabulary.{count_first, declared_irqs, eq-eqb, inl, inr, latched_count, latches, map}
use Rattle.rt_live.proofs.Vocabulary.{map-append, ne_eqb, one_if, part, part_first, raised_count, raises, refl}
use Rattle.rt_live.proofs.Vocabulary.{replicate, request_of, reset, subst, sum_by-cons, sym, turn_requests, ℕ}
use Rattle.rt_live.proofs.Vocabulary.{ℕ_discrete, ◌%◌, ◌*◌, ◌++◌, ◌+◌, ◌/◌, ◌<◌, ◌==◌, ◌∙◌, ◌∷◌, ◌≡◌, ◌≢◌}
use Rattle.rt_dual.proofs.Vocabulary.{IsCourse, IsPairText, CorePlace, forward, turns}
use Rattle.std.proofs.{Common.◌&&◌, lemmas.List.Sums.sum_by_push}
use Rattle.rt_lemmas.proofs.Lists.{all_unmap, append_none_left}
use Rattle.rt_live.proofs.Onward.{part_on, led_apart}
use Rattle.rt_dual.specs.{Laws.IsOrdered, Laws.LooksPrecedePosts}
use Rattle.rt_dual.proofs.{Posted.Within, Posted.asks_within, Posted.posted, Routing.forwards_declared}

-- a call of a line in a history
pub part_there : (before behind : List Entry) (line : ℕ) (call : Call)
    → part (before ++ record { line = line; call = call } ∷ behind) line
    ≡ part before line ++ call ∷ part behind line
part_there before behind line call =
    part_on before (record { line = line; call = call } ∷ behind) line
    ∙ ap (λ (cs : List Call). part before line ++ cs)
    (part_first (record { line = line; call = call }) behind line refl)

-- no line but these two made a call
abbrev pub AreTwo : List Entry → Type 0
AreTwo history = (number : ℕ) → number ≢ 255 → number ≢ 254 → part history number ≡ []

-- so a count over all calls is one over those of the two
pub two_lines : (test : Call → Bool) (history : List Entry) → AreTwo history
    → count_by test (calls_in history) ≡ count_by test (part history 255) + count_by test (part history 254)
two_lines test history two =
    let far : Part = record { line = 254; calls = part history 254 } in
    let one : (q : Part) → Contains (far ∷ []) q → part history q.line ≡ q.calls =
    (λ q is. elim (contains_cases far [] q is) [
      | inl same ↦ subst (λ (r : Part). part history r.line ≡ r.calls) same refl
      | inr none ↦ absurd (contains_none q none)
    ]) in
    let apart : (n : ℕ) → n ≢ 254 → Contains (254 ∷ []) n → ⊥ =
    (λ n ne is. elim (contains_cases 254 [] n is) [
      | inl same ↦ ne (sym same)
      | inr none ↦ contains_none n none
    ]) in
    let all = by_parts test history (part history 255) (far ∷ []) refl one (apart 255 (λ e. absurd (omega (arith, e))))
    (contains_none 254, tt)
    (λ n ne out. two n ne (λ e. out (subst (Contains (254 ∷ [])) (sym e) (contains_here 254 [])))) in
    omega (arith, all, sum_by-cons (λ (q : Part). count_by test q.calls) far [])

-- a bit that was raised by some calls was raised by one of them
raised_in : (bit : ℕ) (calls : List Call) → 0 < raised_count bit calls → Contains calls (Pend bit Raised)
raised_in bit [] some = absurd (omega (arith, some))
raised_in bit (Pend n Raised ∷ calls) some = elim (ℕ_discrete n bit) [
  | yes e ↦
      subst (λ k. Contains (Pend k Raised ∷ calls) (Pend bit Raised)) (sym e) (contains_here (Pend bit Raised) calls)
  | no ne ↦
      contains_there (Pend n Raised) calls (Pend bit Raised) (raised_in bit calls
      (omega (arith, some, count_first (raises bit) (Pend n Raised) calls, ap one_if (ne_eqb n bit ne))))
]
raised_in bit (Pend n Merged ∷ calls) some =
    contains_there (Pend n Merged) calls (Pend bit Raised)
    (raised_in bit calls (omega (arith, some, count_first (raises bit) (Pend n Merged) calls)))
raised_in bit (Latch k word ∷ calls) some =
    contains_there (Latch k word) calls (Pend bit Raised)
    (raised_in bit calls (omega (arith, some, count_first (raises bit) (Latch k word) calls)))

-- what the calls of a core ask for
module _ {place : CorePlace} {img : Image} {other : Names} {events : List Event} {found : List (List ℕ)}
    {history : List Entry} (is : IsCourse place img other events found history) where
  -- a call among what it asks for
  pub asked_at : (before behind : List Entry) (c : Call)
      → history ≡ before ++ record { line = place.line; call = c } ∷ behind
      → map request_of (part before place.line) ++ request_of c ∷ map request_of (part behind place.line)
      ≡ turn_requests (forward img other) place.here place.there img (reset img) (turns events) found
  asked_at before behind c same =
      sym (map-append request_of (part before place.line) (c ∷ part behind place.line))
      ∙ ap (map request_of) (sym (ap (λ (es : List Entry). part es place.line) same
      ∙ part_there before behind place.line c))
      ∙ is.called

  pub precede : LooksPrecedePosts place img other events found history
  precede before behind bit answer same =
      posted (forward img other) place.here place.there img (reset img) (turns events) found
      (map request_of (part before place.line)) (map request_of (part behind place.line)) bit
      (asked_at before behind (Pend bit answer) same)

  module _ (bits : AllByRecursion (λ irq. irq < 496) (declared_irqs other)) where
    abbrev Own : Request → Type 0
    Own = Within place.here place.there

    forwards_low : (post irq : ℕ) → forward img other post ≡ Some irq → irq < 512
    forwards_low post irq leads = omega (
      arith,
      all_has (λ (n : ℕ). n < 496) (declared_irqs other) irq bits (forwards_declared img other post irq leads),
    )

    -- each of its requests is of its own words, or of the other core's bits
    asks_own : AllByRecursion Own (turn_requests (forward img other) place.here place.there img (reset img)
        (turns events) found)
    asks_own =
        asks_within (forward img other) place.here place.there img forwards_low (reset img) (turns events) found
        is.whole

    pub asks_in : AllByRecursion Own (map request_of (part history place.line))
    asks_in = subst (AllByRecursion Own) (sym is.called) asks_own

    -- so is a call in the history, and each of its line before
    at_within : (before behind : List Entry) (c : Call)
        → history ≡ before ++ record { line = place.line; call = c } ∷ behind
        → Own (request_of c) × ((d : Call) → Contains (part before place.line) d → Own (request_of d))
    at_within before behind c same =
        let front : List Request = map request_of (part before place.line) in
        let rest : List Request = request_of c ∷ map request_of (part behind place.line) in
        let all : AllByRecursion Own (front ++ rest) =
        subst (AllByRecursion Own) (sym (asked_at before behind c same)) asks_own in (
          (all_behind Own front rest all).0,
          λ d there. all_has (λ (x : Call). Own (request_of x)) (part before place.line) d
              (all_unmap request_of Own (part before place.line) (all_front Own front rest all)) there,
        )

    module _ (far : ℕ) (left : List ℕ) (legal : IsLegal history left) (low : place.here < 2)
        (apart : place.here ≢ place.there)
        (both : (test : Call → Bool) (before behind : List Entry) → history ≡ before ++ behind
        → count_by test (calls_in before) ≡ count_by test (part before place.line) + count_by test (part before far))
      where
        -- up to a look that finds a bit it was raised as often as latched, so at least once, and not by this core
        finds : (before behind : List Entry) (word last bit : ℕ)
            → history ≡ before ++ record { line = place.line; call = Latch word last } ∷ behind
            → bit < 32 → bit_at last bit ≡ 1 → Contains (part before far) (Pend (32 * word + bit) Raised)
        finds before behind word last bit same few set =
            let latch : Entry = record { line = place.line; call = Latch word last } in
            let now : List Entry = before ++ latch ∷ [] in
            let b : ℕ = 32 * word + bit in
            let w = at_within before behind (Latch word last) same in
            let cut = led_apart (replicate 32 0) left now behind
            (subst (λ (h : List Entry). IsLegal h left) (same ∙ sym (append_assoc before (latch ∷ []) behind)) legal) in
            let calls_are : calls_in now ≡ calls_in before ++ Latch word last ∷ [] =
            map-append (λ (e : Entry). e.call) before (latch ∷ []) in
            let at : b / 32 ≡ word = omega (arith, few) in
            let rest : b % 32 ≡ bit = omega (arith, few) in
            let hit : one_if ((word == b / 32) && (bit_at last (b % 32) == 1)) ≡ 1 =
            ap (λ t. one_if (t && (bit_at last (b % 32) == 1))) (eq-eqb word (b / 32) (sym at))
            ∙ ap one_if (eq-eqb (bit_at last (b % 32)) 1 (ap (bit_at last) rest ∙ set)) in
            let some : 0 < raised_count b (calls_in before) =
            omega (
              arith,
              accounts cut.0 now b cut.1 (omega (arith, w.0.1, few, low)),
              ap (raised_count b) calls_are,
              sum_by_push (λ c. one_if (raises b c)) (calls_in before) (Latch word last),
              ap (latched_count b) calls_are,
              sum_by_push (λ c. one_if (latches b c)) (calls_in before) (Latch word last),
              hit,
            ) in
            elim (cases_lt 0 (raised_count b (part before far))) [
              | inl there ↦ raised_in b (part before far) there
              | inr none ↦ let own = w.1 (Pend b Raised) (raised_in b (part before place.line)
                  (omega (arith, some, none, both (raises b) before (latch ∷ behind) same))) in
                  absurd (omega (arith, own.0, own.1, w.0.0, w.0.1, few, apart))
            ]

module _ (first second : Image) (script : List Line) (bytes : List ℕ) (p : IsPairText first second script bytes) where
  counted : (test : Call → Bool) (before behind : List Entry) → p.history ≡ before ++ behind
      → count_by test (calls_in before) ≡ count_by test (part before 255) + count_by test (part before 254)
  counted test before behind same =
      two_lines test before (λ n ne other. append_none_left (part before n) (part behind n)
      (sym (ap (λ (h : List Entry). part h n) same ∙ part_on before behind n) ∙ p.others n ne other))

  pub ordered : IsOrdered first second script p.one p.two p.history
  ordered = record {
    one_finds = finds p.is_one p.is_two.bits 254 p.left p.legal (omega arith) (λ e. absurd (omega (arith, e))) counted;
    two_finds =
        finds p.is_two p.is_one.bits 255 p.left p.legal (omega arith) (λ e. absurd (omega (arith, e)))
        (λ test before behind same. omega (arith, counted test before behind same));
    one_posts = precede p.is_one;
    two_posts = precede p.is_two;
  }
