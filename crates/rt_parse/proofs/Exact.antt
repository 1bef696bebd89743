-- A reader that is exact for a language: it reads the texts of the language that pass no limit, and stops at the first
-- token with which no text goes on, or at the first limit that is passed.
use Rattle.std.proofs.Common.{◌≡◌, ℕ, suc, ◌≤◌, Bool, true, false, List, [], ◌∷◌, ◌++◌, length, Option, Some, Result}
use Rattle.std.proofs.Common.{Ok, Err}
use Rattle.std.specs.Prelude.{◌⊎◌}
use Rattle.std.specs.List.{AllByRecursion}
use Rattle.rt_ids.specs.declared.limit.Limit.{Limit}
use Rattle.rt_ids.specs.declared.refusal.Refusal.TheVariants as refusal
use Rattle.rt_lex.specs.Token.{Token}
use Rattle.rt_grammar.specs.Mark.{Mark, Takes, Ends, limit_of, IsWithin}
use Rattle.rt_grammar.specs.Language.{Language, ◌>>=◌}
use Rattle.rt_grammar.specs.Reach.{Fits, Reaches, goes_on}
use Rattle.rt_parse.specs.Inside.Reading as reading
use Rattle.rt_parse.specs.Inside.Reading.{Reader, fault_found_at, begins_with}
use Rattle.rt_parse.specs.declared.stop.Found.{Found}

abbrev pub IsFront : List Mark → List Mark → Type 0
IsFront front marks = (more : List Mark) × (marks ≡ front ++ more)

-- the tokens are a text of the language with this meaning, and no limit is passed
pub record IsRead {B : Type 0} (language : Language B) (tokens : List Token) (meaning : B) : Type 0 where
  pub marks : List Mark
  pub means : language marks meaning
  pub fits : Fits marks tokens []
  pub within : AllByRecursion IsWithin marks
  -- whatever else the tokens begin is a front of it
  pub most : (others : List Mark) (left : List Token) → Reaches language tokens others left → IsFront others marks
  pub only : (others : List Mark) (other : B) → language others other → Fits others tokens [] → (others ≡ marks)
      × (other ≡ meaning)

-- the tokens begin some text of the language up to a rest, and with the next token none
pub record IsWrong {B : Type 0} (language : Language B) (tokens : List Token) (found : Found) : Type 0 where
  pub marks : List Mark
  pub rest : List Token
  pub reached : Reaches language tokens marks rest
  pub within : AllByRecursion IsWithin marks
  pub most : (others : List Mark) (left : List Token) → Reaches language tokens others left → IsFront others marks
  pub none : (others : List Mark) (other : B) → language others other → Fits others tokens [] → ⊥
  pub is : found ≡ fault_found_at rest

-- the limit that is passed at a mark, and the offset that it is refused at
abbrev pub Passes : Mark → Option ℕ → Limit → Type 0
Passes mark at what = (offset : ℕ) × (at ≡ Some offset) × (limit_of mark ≡ Some (offset, what))

-- the tokens begin some text of the language, and pass a limit at its last mark
pub record IsLimited {B : Type 0} (language : Language B) (tokens : List Token) (at : Option ℕ) (what : Limit) : Type
    0 where
  pub marks : List Mark
  pub mark : Mark
  pub rest : List Token
  pub reached : Reaches language tokens (marks ++ mark ∷ []) rest
  pub within : AllByRecursion IsWithin marks
  pub passes : Passes mark at what
  pub most : (others : List Mark) (left : List Token) → Reaches language tokens others left
      → IsFront others (marks ++ mark ∷ []) ⊎ IsFront (marks ++ mark ∷ []) others
  pub only : (others : List Mark) (other : B) → language others other → Fits others tokens []
      → IsFront (marks ++ mark ∷ []) others

abbrev pub Outcome : {B : Type 0} → Language B → List Token → Result B Found → Type 0
Outcome language tokens (Ok meaning) = IsRead language tokens meaning
Outcome language tokens (Err found) =
    IsWrong language tokens found ⊎ ((what : Limit) × (found.refusal ≡ refusal.Limit what)
    × IsLimited language tokens found.at what)

-- the reader is exact for the language on lists of at most so many tokens
abbrev pub IsExact : {B : Type 0} → Language B → (List Token → Result B Found) → ℕ → Type 0
IsExact language read most = (tokens : List Token) → length tokens ≤ most → Outcome language tokens (read tokens)

-- some text is in the language
abbrev pub IsInhabited : {B : Type 0} → Language B → Type 0
IsInhabited {B} language = (marks : List Mark) × (meaning : B) × language marks meaning

-- no text begins with such a token; where it begins with the end of an expression, such a token goes on with that
abbrev pub AvoidsMarks : (Token → Bool) → List Mark → Type 0
AvoidsMarks test [] = Unit {0}
AvoidsMarks test (Takes t limit ∷ marks) = test t ≡ false
AvoidsMarks test (Ends compares deep ∷ marks) = (t : Token) → test t ≡ true → goes_on compares t ≡ true

abbrev pub Avoids : {B : Type 0} → (Token → Bool) → Language B → Type 0
Avoids {B} test language = (marks : List Mark) (meaning : B) → language marks meaning → AvoidsMarks test marks

-- each text begins with such a token
abbrev pub Starts : {B : Type 0} → (Token → Bool) → Language B → Type 0
Starts {B} test language =
    (marks : List Mark) (meaning : B) → language marks meaning → (t : Token) × (limit : Option Limit)
    × (more : List Mark) × (marks ≡ Takes t limit ∷ more) × (test t ≡ true)

-- no token
abbrev pub nothing : {A : Type 0} → A → Token → Bool
nothing x t = false

-- the reader is exact on lists of at most so many tokens that do not begin with such a token
abbrev pub IsExactUnless : {B : Type 0} → (Token → Bool) → Language B → (List Token → Result B Found) → ℕ → Type 0
IsExactUnless stops language read most = (tokens : List Token) → length tokens ≤ most → begins_with stops tokens ≡ false
    → Outcome language tokens (read tokens)

-- A reader of a form, which gives the value of what the form means: it is exact for the form with any language after
-- it that some text is in and that does not begin with the tokens that go on with the form. What is read after it
-- never begins with a token that it stops before, so the reader after it may do anything there. It takes enough tokens
-- for a reader after it that is exact on fewer. It is used where such a token does not come next.
pub record ReadsAfter {A C : Type 0} (B : Type 0) (before : Token → Bool) (goes stops : A → Token → Bool)
    (longer : ℕ → ℕ) (value : A → C) (form : Language A) (reader : Reader C) : Type 1 where
  pub exact : (behind : A → Language B) (read : C → List Token → Result B Found) (most : ℕ)
      → ((x : A) → IsInhabited (behind x)) → ((x : A) → Avoids (goes x) (behind x))
      → ((x : A) → IsExactUnless (stops x) (behind x) (read (value x)) most)
      → IsExactUnless before (form >>= behind) (λ tokens. reading.◌>>=◌ (reader tokens) (λ got. read got.0 got.1))
      (longer most)

-- the same, wherever it is used
abbrev pub Reads : {A C : Type 0} (B : Type 0) (goes stops : A → Token → Bool) (longer : ℕ → ℕ) (value : A → C)
    (form : Language A) (reader : Reader C) → Type 1
Reads B goes stops longer value form reader = ReadsAfter B (λ t. false) goes stops longer value form reader

-- a form that is read, or one that no text is in, of which any token is wrong
pub data ReadsOrNone {A C : Type 0} (B : Type 0) (goes : A → Token → Bool) (value : A → C) (form : Language A)
    (reader : Reader C) : Type 1 where
  IsForm : Reads B goes nothing suc value form reader → ReadsOrNone B goes value form reader
  IsNone : ((marks : List Mark) (x : A) → form marks x → ⊥)
      → ((tokens : List Token) → reader tokens ≡ Err (fault_found_at tokens)) → ReadsOrNone B goes value form reader
