-- How a text is read line by line, for readers of any kind: a reader begins in a state, each line leads it on or is
-- wrong, and where the text ends something may be missing. So a text is read in one way, or has a first wrong line. The
-- form is this project's own; the lines behind the first wrong one say nothing.
use Rattle.std.specs.Prelude.{◌≡◌, ◌⊎◌, ◌≤◌, ◌<◌, ℕ, suc, List, [], ◌∷◌, ◌++◌, length, Option, Some, None}
use Rattle.std.specs.Prelude.{Result, Ok, Err}

-- a reader of texts, whose states are S and whose faults are W
pub record Reader (S W : Type 0) : Type 0 where
  -- the bytes that a text has at most
  pub most : ℕ
  -- the lines of a text
  pub lines : List ℕ → List (List ℕ)
  -- the state in front of the first line
  pub start : S
  -- the state behind a line, or what is wrong with the line
  pub step : S → List ℕ → Result S W
  -- what is wrong where a text ends in this state, if something is missing
  pub missing : S → Option W

-- these lines lead from one state to another, each behind those before it
abbrev pub Lead : {S W : Type 0} → Reader S W → S → List (List ℕ) → S → Type 0
Lead reader s [] t = s ≡ t
Lead reader s (line ∷ ls) t = (u : _) × (reader.step s line ≡ Ok u) × Lead reader u ls t

-- a text of a length that may be, whose lines lead to this state, and in which nothing is missing
pub record IsRead {S W : Type 0} (reader : Reader S W) (text : List ℕ) (s : S) : Type 0 where
  pub short : length text ≤ reader.most
  pub lead : Lead reader reader.start (reader.lines text) s
  pub whole : reader.missing s ≡ None

-- what is wrong in a state with the first of these lines, or with the end of the text where there is none
abbrev pub IsWrongNext : {S W : Type 0} → Reader S W → S → List (List ℕ) → W → Type 0
IsWrongNext reader s [] w = reader.missing s ≡ Some w
IsWrongNext reader s (line ∷ ls) w = reader.step s line ≡ Err w

-- The first wrong line has this number, from 1, and this fault: the lines in front of it are right. Where something is
-- missing, it is the line behind the last.
pub record IsFirstWrong {S W : Type 0} (reader : Reader S W) (text : List ℕ) (number : ℕ) (w : W) : Type 0 where
  pub short : length text ≤ reader.most
  pub before : List (List ℕ)
  pub behind : List (List ℕ)
  pub parts : reader.lines text ≡ before ++ behind
  pub number_is : number ≡ suc (length before)
  pub reached : S
  pub lead : Lead reader reader.start before reached
  pub wrong : IsWrongNext reader reached behind w

-- a text is longer than may be
abbrev pub IsTooLong : {S W : Type 0} → Reader S W → List ℕ → Type 0
IsTooLong reader text = reader.most < length text

-- Each text that is not too long is read, or has a first wrong line, not both, and in one way.
pub record IsReadOneWay {S W : Type 0} (reader : Reader S W) : Type 0 where
  pub one_state : (text : List ℕ) (s t : S) → IsRead reader text s → IsRead reader text t → s ≡ t
  pub not_both : (text : List ℕ) (s : S) (n : ℕ) (w : W) → IsRead reader text s → IsFirstWrong reader text n w → ⊥
  pub one_fault : (text : List ℕ) (n m : ℕ) (v w : W) → IsFirstWrong reader text n v → IsFirstWrong reader text m w
      → (n ≡ m) × (v ≡ w)
  pub either :
      (text : List ℕ) → length text ≤ reader.most
      → ((s : S) × IsRead reader text s) ⊎ ((n : ℕ) × (w : W) × IsFirstWrong reader text n w)
