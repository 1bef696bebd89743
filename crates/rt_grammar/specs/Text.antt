-- The texts of applications, and the refusal of a text that is none. A text is read from left to right, and what is met
-- first is refused: a byte that no token begins with, a token with which the text is no beginning of an application (or
-- its end, where it ends too early), or a limit that is passed. The first wrong token is that of the viable-prefix
-- property (Aho, Sethi and Ullman, Compilers, 1986). Nothing is said here of how a text is read.
use Rattle.std.specs.Prelude.{◌≡◌, ◌≢◌, ℕ, ◌<◌, ◌≤◌, List, [], ◌∷◌, ◌++◌, length, Some}
use Rattle.std.specs.List.{AllByRecursion}
use Rattle.rt_ids.specs.declared.limit.Limit.{Limit}
use Rattle.rt_ids.specs.declared.limits.TheConstants.{TEXT_BYTES}
use Rattle.rt_ids.specs.declared.refusal.Fault.{Fault}
use Rattle.rt_ids.specs.declared.refusal.Refusal.{Refusal}
use Rattle.rt_ids.specs.declared.refusal.Refusal.TheVariants as refusal
use Rattle.rt_lex.specs.declared.token.Kind.TheVariants as kind
use Rattle.rt_lex.specs.Token.{Token}
use Rattle.rt_lex.specs.Tokens.{tokens}
use Rattle.rt_lex.specs.Place.{place_of}
use Rattle.rt_ast.specs.Tree.{App}
use Rattle.rt_grammar.specs.Mark.{Mark, limit_of, IsWithin}
use Rattle.rt_grammar.specs.Language.{Language}
use Rattle.rt_grammar.specs.Declaration.{application}
use Rattle.rt_grammar.specs.Reach.{Fits, Reaches}

-- the grammar of application texts
abbrev pub text : Language App
text marks app = (most : ℕ) × application most marks app

-- the tokens are a text of the grammar, and mean this tree
abbrev pub IsSpelled : List Token → App → Type 0
IsSpelled ts app = (marks : List Mark) × text marks app × Fits marks ts []

-- these tokens are a viable prefix: some text of the grammar begins with them
abbrev pub IsViablePrefix : List Token → Type 0
IsViablePrefix ts = (marks : List Mark) × Reaches text ts marks []

-- as far as the tokens go with the grammar, they pass no limit
abbrev pub IsUnlimited : List Token → Type 0
IsUnlimited ts = (marks : List Mark) (left : List Token) → Reaches text ts marks left → AllByRecursion IsWithin marks

-- the text is an application's, as this tree, and passes no limit, whatever its length
pub record IsReadAs (src : List ℕ) (app : App) : Type 0 where
  pub marks : List Mark
  pub spelled : text marks app
  pub whole : Fits marks (tokens src) []
  pub within : AllByRecursion IsWithin marks

-- the text is no longer than a text may be, and is read as this tree
pub record IsText (src : List ℕ) (app : App) : Type 0 where
  pub short : length src ≤ TEXT_BYTES
  pub read : IsReadAs src app

-- after tokens that begin a text and pass no limit comes a byte that no token begins with
pub record IsForeignAt (src : List ℕ) (at : ℕ) : Type 0 where
  pub short : length src ≤ TEXT_BYTES
  pub before : List Token
  pub byte : Token
  pub behind : List Token
  pub split : tokens src ≡ before ++ byte ∷ behind
  pub begins : IsViablePrefix before
  pub foreign : byte.kind ≡ kind.Foreign
  pub unlimited : IsUnlimited (tokens src)
  pub offset : at ≡ byte.at

-- With the next token these tokens begin no text, and it is no byte that no token begins with; or there is no next
-- token, and these are no text.
abbrev pub IsDeadEnd : List Token → List Token → Type 0
IsDeadEnd before [] = (app : App) → IsSpelled before app → ⊥
IsDeadEnd before (t ∷ behind) = (IsViablePrefix (before ++ t ∷ []) → ⊥) × (t.kind ≢ kind.Foreign)

-- the offset of the first of these tokens, or the end of the text
abbrev pub offset_of : List ℕ → List Token → ℕ
offset_of src [] = length src
offset_of src (t ∷ ts) = t.at

-- the tokens before it begin a text, and pass no limit; with the token here they begin none, or the text ends too early
pub record IsSyntaxAt (src : List ℕ) (at : ℕ) : Type 0 where
  pub short : length src ≤ TEXT_BYTES
  pub before : List Token
  pub rest : List Token
  pub split : tokens src ≡ before ++ rest
  pub begins : IsViablePrefix before
  pub dead_end : IsDeadEnd before rest
  pub unlimited : IsUnlimited (tokens src)
  pub offset : at ≡ offset_of src rest

-- the tokens go so far with the grammar that this limit is passed, and none before
pub record IsLimitAt (src : List ℕ) (what : Limit) (at : ℕ) : Type 0 where
  pub short : length src ≤ TEXT_BYTES
  pub marks : List Mark
  pub mark : Mark
  pub left : List Token
  pub reached : Reaches text (tokens src) (marks ++ mark ∷ []) left
  pub within : AllByRecursion IsWithin marks
  pub passes : limit_of mark ≡ Some (at, what)

-- what is at the offset where a text is refused so; that it is too long comes before all else, at its first byte
abbrev pub IsRefusedAt : List ℕ → Refusal → ℕ → Type 0
IsRefusedAt src refusal.TooLong at = (TEXT_BYTES < length src) × (at ≡ 0)
IsRefusedAt src refusal.Foreign at = IsForeignAt src at
IsRefusedAt src refusal.Syntax at = IsSyntaxAt src at
IsRefusedAt src (refusal.Limit what) at = IsLimitAt src what at
IsRefusedAt src (refusal.Rule what) at = ⊥

-- the refusal of a text, with its line and column
pub record IsRefused (src : List ℕ) (fault : Fault) : Type 0 where
  pub at : ℕ
  pub stands : IsRefusedAt src fault.refusal at
  pub place : fault.place ≡ place_of src at
