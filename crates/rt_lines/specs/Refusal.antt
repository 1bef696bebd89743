-- Why a text that is read line by line is refused, and what is printed then: the kind of the text, the number of the
-- line, and the cause by its number and in words. The form is this project's own.
use Rattle.std.specs.Prelude.{ℕ, List, ◌++◌, codes, decimal}
use Rattle.rt_lines.specs.Reading.{Reader, IsFirstWrong, IsTooLong}
use Rattle.rt_lines.specs.declared.refusal.TextRefused.{TextRefused}
use Rattle.rt_lines.specs.declared.refusal.TextRefused.TheVariants as refused

-- the refusal of a text at this line
abbrev pub refused_at : {C : Type 0} → ℕ → C → TextRefused C
refused_at n c = refused.Wrong n c

-- The refusal of a text by a reader; a text that is too long is refused at its first line for the cause that says so.
-- Want of memory has no cause in the text.
pub data IsRefused {S C : Type 0} (reader : Reader S C) (long : C) (text : List ℕ) : TextRefused C → Type 0 where
  too_long : IsTooLong reader text → IsRefused reader long text (refused_at 1 long)
  first_wrong : (n : ℕ) (c : C) → IsFirstWrong reader text n c → IsRefused reader long text (refused_at n c)
  no_memory : IsRefused reader long text refused.NoMemory

-- where a text of this kind is refused
abbrev pub place : List ℕ → ℕ → List ℕ
place kind line = kind ++ (codes ":" ++ (decimal line ++ codes " "))

-- the line that is printed
abbrev pub refusal_text : List ℕ → ℕ → List ℕ → List ℕ
refusal_text kind line cause = place kind line ++ (cause ++ codes "\n")
