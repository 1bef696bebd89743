-- How a grammar is written: a language relates the marks of a text to what the text means. This is an attribute grammar
-- (Knuth, Semantics of Context-Free Languages, 1968). Its forms are these: one token, a form and another after it, a
-- choice, a repetition, a list.
use Rattle.std.specs.Prelude.{◌≡◌, ◌⊎◌, ℕ, zero, suc, Bool, true, List, [], ◌∷◌, ◌++◌, Option, Some}
use Rattle.rt_ids.specs.declared.limit.Limit.{Limit}
use Rattle.rt_lex.specs.Token.{Token}
use Rattle.rt_grammar.specs.Mark.{Mark, Takes}

-- a language relates what is marked in a text to what that means: a grammar's nonterminal with its attribute
abbrev pub Language : Type 0 → Type 1
Language A = List Mark → A → Type 0

-- nothing, which means x
abbrev pub gives : {A : Type 0} → A → Language A
gives x marks y = (marks ≡ []) × (y ≡ x)

-- a form, and after it the one that its meaning asks for
infixl 10 ◌>>=◌
abbrev pub ◌>>=◌ : {A B : Type 0} → Language A → (A → Language B) → Language B
(first >>= next) marks y =
    (x : _) × (front : List Mark) × (back : List Mark) × first front x × next x back y × (marks ≡ front ++ back)

-- a form, and after it another, whose meaning is that of both
infixl 10 ◌>>◌
abbrev pub ◌>>◌ : {A B : Type 0} → Language A → Language B → Language B
first >> next = first >>= λ _. next

-- a choice: one form, or the other
infixr 8 ◌or◌
abbrev pub ◌or◌ : {A : Type 0} → Language A → Language A → Language A
(one or other) marks x = one marks x ⊎ other marks x

-- a form that may come here only where this is so
abbrev pub only_if : {A : Type 0} → Bool → Language A → Language A
only_if holds form marks x = (holds ≡ true) × form marks x

-- no text at all
abbrev pub never : {A : Type 0} → Language A
never marks x = ⊥

-- one token that means something, and the limit that it passes
abbrev pub token : {A : Type 0} → (Token → Option A) → (A → Option Limit) → Language A
token meaning limit marks x = (t : Token) × (meaning t ≡ Some x) × (marks ≡ Takes t (limit x) ∷ [])

-- so many steps from one meaning to another
abbrev pub times : {S : Type 0} → ℕ → (S → Language S) → S → Language S
times zero step s = gives s
times (suc n) step s = step s >>= times n step

-- any number of steps
abbrev pub repeat : {S : Type 0} → (S → Language S) → S → Language S
repeat step s marks end = (n : ℕ) × times n step s marks end

-- it, or nothing, which means x
abbrev pub or_else : {A : Type 0} → A → Language A → Language A
or_else x form = gives x or form
