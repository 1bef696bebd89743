-- What forms begin with, and that texts are in them.
use Rattle.std.proofs.Common.{◌≡◌, zero, Bool, true, false, List, [], ◌∷◌, ◌++◌, Option, Some, refl, sym, ap, ◌∙◌}
use Rattle.std.proofs.Common.{subst, inl, inr}
use Rattle.rt_ids.specs.declared.limit.Limit.{Limit}
use Rattle.rt_lex.specs.Token.{Token}
use Rattle.rt_grammar.specs.Mark.{Mark, Takes, Ends}
use Rattle.rt_grammar.specs.Language.{Language, gives, ◌>>=◌, ◌or◌, token, only_if, repeat}
use Rattle.rt_grammar.specs.Reach.{Fits, goes_on, expression_goes_on}
use Rattle.rt_parse.specs.Inside.Reading.{begins_with}
use Rattle.rt_parse.proofs.Exact.{IsInhabited, Avoids, AvoidsMarks, Starts}
use Rattle.rt_parse.proofs.ExactOutcome.{IsBlocked}
use Rattle.rt_parse.proofs.ExactLaws.{IsWithinLanguage, gives_then', or_then', repeat_then'}

-- Texts.

pub some_token : {A : Type 0} {meaning : Token → Option A} {limit : A → Option Limit}
    → ((t : Token) × (x : A) × (meaning t ≡ Some x)) → IsInhabited (token meaning limit)
some_token {limit = limit} (t, x, e) = (Takes t (limit x) ∷ [], x, (t, e, refl))

pub some_gives : {A : Type 0} (x : A) → IsInhabited (gives x)
some_gives x = ([], x, (refl, refl))

pub some_left : {A : Type 0} {L M : Language A} → IsInhabited L → IsInhabited (L or M)
some_left (marks, x, l) = (marks, x, inl l)

pub some_repeat : {S : Type 0} (step : S → Language S) (s : S) → IsInhabited (repeat step s)
some_repeat step s = ([], s, (zero, (refl, refl)))

-- First tokens.

pub starts_token : {A : Type 0} {meaning : Token → Option A} (limit : A → Option Limit) (test : Token → Bool)
    → ((t : Token) (x : A) → meaning t ≡ Some x → test t ≡ true) → Starts test (token meaning limit)
starts_token limit test of_meaning marks x (t, e, em) = (t, limit x, [], em, of_meaning t x e)

pub starts_then : {A B : Type 0} {test : Token → Bool} {L : Language A} (K : A → Language B) → Starts test L
    → Starts test (L >>= K)
starts_then K starts marks y (x, front, back, l, k, e) =
    let s : (t : Token) × (limit : Option Limit) × (more : List Mark) × (front ≡ Takes t limit ∷ more) × _ =
    starts front x l in
    (s.0, s.1, s.2 ++ back, e ∙ ap (λ (ms : List Mark). ms ++ back) s.3, s.4)

pub starts_or : {A : Type 0} {test : Token → Bool} {L M : Language A} → Starts test L → Starts test M
    → Starts test (L or M)
starts_or l m marks x (inl t) = l marks x t
starts_or l m marks x (inr t) = m marks x t

pub starts_only_if : {A : Type 0} {test : Token → Bool} {holds : Bool} {L : Language A} → Starts test L
    → Starts test (only_if holds L)
starts_only_if starts marks x l = starts marks x l.1

pub starts_wider : {A : Type 0} {L : Language A} (test test' : Token → Bool)
    → ((t : Token) → test t ≡ true → test' t ≡ true) → Starts test L → Starts test' L
starts_wider test test' wider starts marks x l =
    let s : (t : Token) × (limit : Option Limit) × (more : List Mark) × (marks ≡ Takes t limit ∷ more)
    × (test t ≡ true) = starts marks x l in
    (s.0, s.1, s.2, s.3, wider s.0 s.4)

pub starts_within : {B : Type 0} {test : Token → Bool} {L M : Language B} → IsWithinLanguage L M → Starts test M
    → Starts test L
starts_within into starts marks y l = starts marks y (into marks y l)

-- Tokens that a form does not begin with.

pub avoids_starts : {A : Type 0} {L : Language A} (test goes : Token → Bool)
    → ((t : Token) → test t ≡ true → goes t ≡ false) → Starts test L → Avoids goes L
avoids_starts test goes apart starts marks x l =
    let s : (t : Token) × (limit : Option Limit) × (more : List Mark) × (marks ≡ Takes t limit ∷ more)
    × (test t ≡ true) = starts marks x l in
    subst (AvoidsMarks goes) (sym s.3) (apart s.0 s.4)

pub avoids_apart : {A B : Type 0} {L : Language A} (test goes : Token → Bool)
    → ((t : Token) → test t ≡ true → goes t ≡ false) → Starts test L → (K : A → Language B) → Avoids goes (L >>= K)
avoids_apart test goes apart starts K = avoids_starts test goes apart (starts_then K starts)

pub avoids_within : {B : Type 0} {L M : Language B} (goes : Token → Bool) → IsWithinLanguage L M → Avoids goes M
    → Avoids goes L
avoids_within goes into avoids marks y l = avoids marks y (into marks y l)

pub avoids_or : {B : Type 0} {L M : Language B} (goes : Token → Bool) → Avoids goes L → Avoids goes M
    → Avoids goes (L or M)
avoids_or goes l m marks y (inl t) = l marks y t
avoids_or goes l m marks y (inr t) = m marks y t

pub avoids_gives_then : {A B : Type 0} (goes : Token → Bool) (x : A) (K : A → Language B) → Avoids goes (K x)
    → Avoids goes (gives x >>= K)
avoids_gives_then goes x K avoids = avoids_within goes (gives_then' x K) avoids

pub avoids_or_then : {A B : Type 0} (goes : Token → Bool) (L M : Language A) (K : A → Language B)
    → Avoids goes (L >>= K) → Avoids goes (M >>= K) → Avoids goes ((L or M) >>= K)
avoids_or_then goes L M K l m = avoids_within goes (or_then' L M K) (avoids_or goes l m)

-- a repetition begins as a step does, or as what follows it
pub avoids_repeat_then : {S B : Type 0} (goes : Token → Bool) (step : S → Language S) (s : S) (K : S → Language B)
    → Avoids goes (K s) → Avoids goes (step s >>= λ x. repeat step x >>= K) → Avoids goes (repeat step s >>= K)
avoids_repeat_then goes step s K k m = avoids_within goes (repeat_then' step s K) (avoids_or goes k m)

-- what begins with tokens of a form that takes one avoids what the form avoids
pub avoids_first : {A B : Type 0} {L : Language A} (test goes : Token → Bool) → Starts test L → Avoids goes L
    → (K : A → Language B) → Avoids goes (L >>= K)
avoids_first test goes starts avoids K marks y (x, front, back, l, k, e) =
    let s : (t : Token) × (limit : Option Limit) × (more : List Mark) × (front ≡ Takes t limit ∷ more)
    × (test t ≡ true) = starts front x l in
    let f : AvoidsMarks goes (Takes s.0 s.1 ∷ s.2) = subst (AvoidsMarks goes) s.3 (avoids front x l) in
    subst (AvoidsMarks goes) (sym (e ∙ ap (λ (ms : List Mark). ms ++ back) s.3)) f

-- Tokens that no text of a language begins with.

pub blocked_starts : {B : Type 0} {L : Language B} (test : Token → Bool) (tokens : List Token) → Starts test L
    → begins_with test tokens ≡ false → IsBlocked L tokens
blocked_starts {B} {L} test tokens starts none = record {
  out = λ m marks y front rest l fits.
      let s : (t : Token) × (limit : Option Limit) × (more : List Mark) × (m ∷ marks ≡ Takes t limit ∷ more)
      × (test t ≡ true) = starts (m ∷ marks) y l in
      let e : m ∷ marks ≡ Takes s.0 s.1 ∷ s.2 = s.3 in
      let em : m ≡ Takes s.0 s.1 = cc in
      let f : (behind : List Token) × (tokens ≡ s.0 ∷ behind) × Fits front behind rest =
      subst (λ (n : Mark). Fits (n ∷ front) tokens rest) em fits in
      let g : test s.0 ≡ false = subst (λ (ts : List Token). begins_with test ts ≡ false) f.1 none in
      let h : test s.0 ≡ true = s.4 in
      absurd cc;
  some = λ y l e.
      let s : (t : Token) × (limit : Option Limit) × (more : List Mark) × ([] ≡ Takes t limit ∷ more)
      × (test t ≡ true) = starts [] y l in
      let e : [] ≡ Takes s.0 s.1 ∷ s.2 = s.3 in
      absurd cc;
}

ends_blocked : (test : Token → Bool) (compares : Bool) (tokens : List Token)
    → ((t : Token) → test t ≡ true → goes_on compares t ≡ true) → begins_with test tokens ≡ true
    → expression_goes_on compares tokens ≡ false → ⊥
ends_blocked test compares [] avoids begins stop = absurd cc
ends_blocked test compares (t ∷ tokens) avoids begins stop = let e : goes_on compares t ≡ true = avoids t begins in
    absurd cc

pub blocked_avoids : {B : Type 0} {L : Language B} (test : Token → Bool) (tokens : List Token) → Avoids test L
    → begins_with test tokens ≡ true → IsBlocked L tokens
blocked_avoids {B} {L} test tokens avoids begins = record {
  out = λ m marks y front rest l fits. go m marks front rest (avoids (m ∷ marks) y l) fits;
  some = λ y l e. let f : false ≡ true = subst (λ (ts : List Token). begins_with test ts ≡ true) e begins in absurd cc;
}
  where
    go : (m : Mark) (marks front : List Mark) (rest : List Token) → AvoidsMarks test (m ∷ marks)
        → Fits (m ∷ front) tokens rest → ⊥
    go (Takes t limit) marks front rest a fits = let f : test t ≡ true =
        subst (λ (ts : List Token). begins_with test ts ≡ true) fits.1 begins in absurd cc
    go (Ends compares deep) marks front rest a fits = ends_blocked test compares tokens a begins fits.0
