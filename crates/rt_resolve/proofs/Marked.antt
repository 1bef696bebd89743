-- A table of the numbers that are listed so far, and the faults of what is listed twice.
use Rattle.std.proofs.Common.{◌≡◌, ℕ, ◌+◌, ◌<◌, ◌==◌, ◌||◌, Bool, true, false, ◌++◌, List, [], ◌∷◌, map, reverse, take}
use Rattle.std.proofs.Common.{drop, get_or, set, length, refl, ap, sym, ◌∙◌, arith, eqb-true, append_assoc}
use Rattle.std.proofs.Common.{get_or-set_same, get_or-set_other}
use Rattle.std.specs.List.{list_any}
use Rattle.std.proofs.lemmas.List.{take_more, drop_more, map-append, reverse-append}
use Rattle.std.proofs.lemmas.Bool.{eqb-false}
use Rattle.rt_ids.specs.declared.rule.Rule.TheVariants as rule
use Rattle.rt_app.specs.declared.violation.Violation.{Violation}
use Rattle.rt_app.specs.Violation.{when}
use Rattle.rt_resolve.specs.declared.listing.Listing.{Listing}
use Rattle.rt_resolve.specs.NameRules.{listed_twice}
use Rattle.rt_resolve.specs.Inside.NamesView.{use_of}

abbrev pub numbers : List Listing → List ℕ
numbers ls = map (λ l. l.number) ls

-- the numbers of one listing more
pub numbers_more : (all : List Listing) (i : ℕ) (d : Listing) → i < length all → reverse (numbers (take (i + 1) all))
    ≡ (get_or all i d).number ∷ reverse (numbers (take i all))
numbers_more all i d h = rw (
  take_more all i d h,
  map-append (λ (l : Listing). l.number) (take i all)
      (get_or all i d ∷ []),
  reverse-append (numbers (take i all)) ((get_or all i d).number ∷ []),
) refl

either : (b c : Bool) → b ≡ true → true ≡ (b || c)
either true c e = refl
either false c e = absurd (cc)

neither : (b c d : Bool) → b ≡ false → d ≡ c → d ≡ (b || c)
neither true c d e f = absurd (cc)
neither false c d e f = f

marks_at : (marks : List Bool) (before : List ℕ) (m k : ℕ) (b : Bool) → (m == k) ≡ b → length marks ≡ 256 → m < 256
    → get_or marks k false ≡ list_any (λ n. n == k) before
    → get_or (set marks m true) k false ≡ list_any (λ n. n == k) (m ∷ before)
marks_at marks before m k true e size h f =
    let same : m ≡ k = eqb-true m k e in
    let lt : m < length marks = omega arith in
    ap (λ x. get_or (set marks m true) x false) (sym same) ∙ get_or-set_same marks m true false lt
    ∙ either (m == k) (list_any (λ n. n == k) before) e
marks_at marks before m k false e size h f =
    get_or-set_other marks m k true false (λ g. eqb-false m k e (sym g))
    ∙ neither (m == k) (list_any (λ n. n == k) before) (get_or marks k false) e f

pub marks_more : (marks : List Bool) (before after : List ℕ) (m : ℕ) → after ≡ m ∷ before → length marks ≡ 256 → m < 256
    → ((k : ℕ) → k < 256 → get_or marks k false ≡ list_any (λ n. n == k) before)
    → (k : ℕ) → k < 256 → get_or (set marks m true) k false ≡ list_any (λ n. n == k) after
marks_more marks before after m a size h f k lt = marks_at marks before m k (m == k) refl size h (f k lt)
    ∙ ap (list_any (λ n. n == k)) (sym a)

-- the faults of one listing more
pub listed_more : (all : List Listing) (i : ℕ) (d : Listing) (before after : List ℕ) (old new whole : List Violation)
    (b : Bool) → i < length all → after ≡ (get_or all i d).number ∷ before
    → b ≡ list_any (λ n. n == (get_or all i d).number) before → new ≡ old
    ++ when b rule.DeclaredTwice (get_or all i d).at
    → old ++ listed_twice before (map use_of (drop i all)) ≡ whole → new
    ++ listed_twice after (map use_of (drop (i + 1) all)) ≡ whole
listed_more all i d before after old new whole b h a m e f =
    rw (e, a, append_assoc, m) (rw (drop_more all i d h) at f)
