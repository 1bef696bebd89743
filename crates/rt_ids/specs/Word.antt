-- Names. As in Rust, a name is a letter or `_`, and then letters, digits and `_`, and none of the words that the
-- language keeps for itself. The code reads a text byte by byte; this is a test of a whole text.
use Rattle.std.specs.Prelude.{◌≡◌, ℕ, ◌≤◌, Bool, true, false, ◌&&◌, codes, bytes_eq, List, [], ◌∷◌, length}
use Rattle.std.specs.List.{list_all, list_any}
use Rattle.rt_ids.specs.declared.limits.TheConstants.{NAME_BYTES}
use Rattle.rt_ids.specs.Byte.{is_letter, is_name_byte}

-- the words of the language
abbrev pub language_words : List (List ℕ)
language_words =
    codes "app" ∷ codes "bits" ∷ codes "dispatchers" ∷ codes "interrupts" ∷ codes "monotonic" ∷ codes "binds"
    ∷ codes "priority"
    ∷ codes "capacity" ∷ codes "shared" ∷ codes "local" ∷ codes "lock_free" ∷ codes "init" ∷ codes "idle" ∷ codes "task"
    ∷ codes "with"
    ∷ codes "let" ∷ codes "if" ∷ codes "else" ∷ codes "for" ∷ codes "in" ∷ codes "lock" ∷ codes "emit" ∷ codes "pend"
    ∷ codes "spawn"
    ∷ codes "spawn_after" ∷ codes "now" ∷ codes "cancel" ∷ codes "reschedule_after" ∷ []

-- whether a text is one of the words of the language
abbrev pub is_word : List ℕ → Bool
is_word text = list_any (λ w. bytes_eq text w) language_words

-- a letter or `_`, then letters, digits and `_`; the empty text is none
abbrev pub is_identifier : List ℕ → Bool
is_identifier [] = false
is_identifier (b ∷ rest) = is_letter b && list_all is_name_byte rest

-- a name that can be declared: an identifier of 1 to `NAME_BYTES` bytes that is no word of the language
pub record IsName (text : List ℕ) : Type 0 where
  pub some : 1 ≤ length text
  pub short : length text ≤ NAME_BYTES
  pub identifier : is_identifier text ≡ true
  pub no_word : is_word text ≡ false
