-- The tokens of a text lie in it one after the other, and each is the longest that fits.
use Rattle.std.proofs.Common.{◌≡◌, ℕ, zero, suc, ◌+◌, ◌<◌, ◌≤◌, List, [], ◌∷◌, length, take, drop, Option, Some, None}
use Rattle.std.proofs.Common.{refl, ap, arith}
use Rattle.std.specs.Prelude.{pred}
use Rattle.std.specs.List.{AllByRecursion}
use Rattle.std.proofs.lemmas.List.{length-take-le}
use Rattle.rt_lemmas.proofs.Lists.{drop_next, slice_within}
use Rattle.rt_lex.specs.declared.token.Kind.{Kind}
use Rattle.rt_lex.specs.Token.{Token}
use Rattle.rt_lex.specs.Front.{front_of}
use Rattle.rt_lex.specs.Tokens.{tokens, tokens_after, with_front}
use Rattle.rt_lex.specs.Split.{LieIn, IsLongest}
use Rattle.rt_lex.proofs.Lexing.{front_fits}
use Rattle.rt_lex.proofs.Longest.{front_is_longest}
use Rattle.rt_lex.proofs.OfKind.{front_has_kind}

-- the tokens from here on lie after each offset that is not past them
lie_with : (src : List ℕ) (kind : Option Kind) (at len from : ℕ) (text : List ℕ) (more : List Token) → drop at src
    ≡ text → len ≤ length text → 0 < len → from ≤ at
    → ((start : ℕ) → start ≤ at + len → LieIn src start more) → LieIn src from (with_front kind at (take len text) more)
lie_with src None at len from text more here fits some before rest = rest from (omega (arith, before))
lie_with src (Some k) at len from text more here fits some before rest =
    let n : length (take len text) ≡ len = length-take-le len text fits in (
      before,
      record {
        within = omega (arith, n, slice_within src text at len here fits some);
        slice =
            rw (n, here) refl;
      },
      rest (at + length (take len text)) (omega (arith, n)),
    )

lie : (src : List ℕ) (n at : ℕ) (text : List ℕ) → drop at src ≡ text → (from : ℕ) → from ≤ at + n
    → LieIn src from (tokens_after n at text)
lie src n at [] here from before = tt
lie src (suc n) at (b ∷ text) here from before = lie src n (suc at) text (drop_next src at b text here) from
    (omega (arith, before))
lie src zero at (b ∷ text) here from before =
    let front = front_of b (b ∷ text) in
    let fits = front_fits b text in
    lie_with src front.kind at front.len from (b ∷ text) (tokens_after (pred front.len) (suc at) text) here fits.within
    fits.some (omega (arith, before))
    (λ start h. lie src (pred front.len) (suc at) text (drop_next src at b text here) start
    (omega (arith, h, fits.some)))

longest_with : (src : List ℕ) (kind : Option Kind) (at : ℕ) (own : List ℕ) (more : List Token)
    → ((k : Kind) → kind ≡ Some k → IsLongest src (record { at = at; kind = k; text = own }))
    → AllByRecursion (IsLongest src) more → AllByRecursion (IsLongest src) (with_front kind at own more)
longest_with src None at own more here rest = rest
longest_with src (Some k) at own more here rest = (here k refl, rest)

longest_here : (src : List ℕ) (at b : ℕ) (text : List ℕ) → drop at src ≡ b ∷ text → (k : Kind)
    → (front_of b (b ∷ text)).kind ≡ Some k
    → IsLongest src (record { at = at; kind = k; text = take (front_of b (b ∷ text)).len (b ∷ text) })
longest_here src at b text here k e =
    let front = front_of b (b ∷ text) in
    let fits = front_fits b text in
    let len : length (take front.len (b ∷ text)) ≡ front.len = length-take-le front.len (b ∷ text) fits.within in
    record {
      some = omega (arith, len, fits.some);
      kind = front_has_kind b text k e;
      longest = λ n more within. rw here (front_is_longest b text k e n (omega (arith, more, len))
          (omega (arith, within, ap length here)));
    }

longest : (src : List ℕ) (n at : ℕ) (text : List ℕ) → drop at src ≡ text
    → AllByRecursion (IsLongest src) (tokens_after n at text)
longest src n at [] here = tt
longest src (suc n) at (b ∷ text) here = longest src n (suc at) text (drop_next src at b text here)
longest src zero at (b ∷ text) here =
    let front = front_of b (b ∷ text) in
    longest_with src front.kind at (take front.len (b ∷ text)) (tokens_after (pred front.len) (suc at) text)
    (longest_here src at b text here)
    (longest src (pred front.len) (suc at) text (drop_next src at b text here))

pub tokens_lie : (src : List ℕ) → LieIn src 0 (tokens src)
tokens_lie src = lie src 0 0 src refl 0 (omega arith)

pub tokens_longest : (src : List ℕ) → AllByRecursion (IsLongest src) (tokens src)
tokens_longest src = longest src 0 0 src refl

few_with : (kind : Option Kind) (at : ℕ) (own : List ℕ) (more : List Token) (n : ℕ) → length more ≤ n
    → length (with_front kind at own more) ≤ 1 + n
few_with None at own more n h = omega (arith, h)
few_with (Some k) at own more n h = omega (arith, h)

few_behind : (n at : ℕ) (text : List ℕ) → length (tokens_after n at text) ≤ length text
few_behind zero at [] = omega arith
few_behind (suc n) at [] = omega arith
few_behind (suc n) at (b ∷ text) = omega (arith, few_behind n (suc at) text)
few_behind zero at (b ∷ text) =
    let front = front_of b (b ∷ text) in
    omega (
      arith,
      few_with front.kind at (take front.len (b ∷ text)) (tokens_after (pred front.len) (suc at) text)
          (length text) (few_behind (pred front.len) (suc at) text),
    )

-- no more tokens than bytes
pub tokens_are_few : (src : List ℕ) → length (tokens src) ≤ length src
tokens_are_few src = few_behind 0 0 src
