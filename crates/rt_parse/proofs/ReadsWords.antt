-- Readers of forms that are told apart by their first words, and of lists of items that are added.
use Rattle.std.proofs.Common.{◌≡◌, ℕ, suc, Bool, true, false, List, [], ◌∷◌, ◌++◌, length, Result, Ok, Err, refl, ap}
use Rattle.std.proofs.Common.{inl, inr}
use Rattle.std.specs.Prelude.{◌||◌, ◌&&◌, not, codes, bytes_eq, if◌then◌else◌}
use Rattle.rt_lemmas.proofs.Bools.{not_true, or_left, or_right, and_left, and_right}
use Rattle.rt_lex.specs.Token.{Token, is_this_word, is_this_sign}
use Rattle.rt_grammar.specs.Language.{Language, gives, ◌>>=◌, ◌>>◌, ◌or◌}
use Rattle.rt_grammar.specs.Tokens.{free, sign, list, adds}
use Rattle.rt_parse.specs.Inside.Reading as reading
use Rattle.rt_parse.specs.Inside.Reading.{Reader, begins_with, fault_found_at}
use Rattle.rt_parse.specs.Inside.ReadingList.{items_at, adds_at}
use Rattle.rt_parse.specs.declared.stop.Found.{Found}
use Rattle.rt_parse.proofs.Exact.{IsInhabited, Starts, ReadsAfter, Reads, nothing}
use Rattle.rt_parse.proofs.ExactLaws.{IsWithinLanguage}
use Rattle.rt_parse.proofs.ExactThen.{some_then, reads_map, reads_same}
use Rattle.rt_parse.proofs.ExactStarts.{starts_then, starts_or, starts_wider, avoids_apart, some_gives, some_left}
use Rattle.rt_parse.proofs.ExactStarts.{some_repeat}
use Rattle.rt_parse.proofs.ExactChoice.{reads_choice}
use Rattle.rt_parse.proofs.ExactSigns.{some_sign, words_apart, word_no_sign}
use Rattle.rt_parse.proofs.ExactItems.{reads_list}

-- whether a token is one of these words
abbrev pub of_words : List (List ℕ) → Token → Bool
of_words [] t = false
of_words (x ∷ texts) t = is_this_word x t || of_words texts t

-- whether a word is none of these
abbrev pub is_other : List ℕ → List (List ℕ) → Bool
is_other text [] = true
is_other text (x ∷ texts) = not (bytes_eq x text) && is_other text texts

pub no_word : (text : List ℕ) (texts : List (List ℕ)) → is_other text texts ≡ true → (t : Token) → of_words texts t
    ≡ true → is_this_word text t ≡ false
no_word text [] other t e = absurd cc
no_word text (x ∷ texts) other t e = go (no_word text texts (and_right _ _ other) t) (is_this_word x t) refl e
  where
    go : (of_words texts t ≡ true → is_this_word text t ≡ false) → (b : Bool) → is_this_word x t ≡ b
        → (b || of_words texts t) ≡ true → is_this_word text t ≡ false
    go next true f e = words_apart x text (not_true (bytes_eq x text) (and_left _ _ other)) t f
    go next false f e = next e

pub words_no_sign : (texts : List (List ℕ)) (sign : List ℕ) (t : Token) → of_words texts t ≡ true → is_this_sign sign t
    ≡ false
words_no_sign [] sign t e = absurd cc
words_no_sign (x ∷ texts) sign t e = go (words_no_sign texts sign t) (is_this_word x t) refl e
  where
    go : (of_words texts t ≡ true → is_this_sign sign t ≡ false) → (b : Bool) → is_this_word x t ≡ b
        → (b || of_words texts t) ≡ true → is_this_sign sign t ≡ false
    go next true f e = word_no_sign x sign t f
    go next false f e = next e

pub starts_one : {A : Type 0} {L : Language A} (text : List ℕ) → Starts (is_this_word text) L
    → Starts (of_words (text ∷ [])) L
starts_one text starts = starts_wider (is_this_word text) (of_words (text ∷ []))
    (λ t e. or_left (is_this_word text t) false e) starts

pub starts_words : {A : Type 0} {L M : Language A} (text : List ℕ) (texts : List (List ℕ))
    → Starts (is_this_word text) L → Starts (of_words texts) M → Starts (of_words (text ∷ texts)) (L or M)
starts_words text texts l m = starts_or (starts_wider (is_this_word text) (of_words (text ∷ texts))
    (λ t e. or_left (is_this_word text t) (of_words texts t) e) l)
    (starts_wider (of_words texts) (of_words (text ∷ texts))
    (λ t e. or_right (is_this_word text t) (of_words texts t) e) m)

-- a form that begins with a word, or others that begin with other words
pub reads_words : {A B C : Type 0} {before : Token → Bool} {goes stops : A → Token → Bool} {longer : ℕ → ℕ}
    {value : A → C} {L M : Language A} {reader reader' : Reader C} (text : List ℕ) (texts : List (List ℕ))
    → is_other text texts ≡ true → Starts (is_this_word text) L → Starts (of_words texts) M
    → ReadsAfter B before goes stops longer value L reader → ReadsAfter B before goes stops longer value M reader'
    → ReadsAfter B before goes stops longer value (L or M)
    (λ tokens. if begins_with (is_this_word text) tokens then reader tokens else reader' tokens)
reads_words text texts other l m first second =
    reads_choice (is_this_word text) l (λ K avoids. avoids_apart (of_words texts) (is_this_word text)
    (no_word text texts other) m K) first second

-- the second form first
pub or_second : {A : Type 0} (L M N : Language A) → IsWithinLanguage (M or (L or N)) (L or (M or N))
or_second L M N marks x (inl m) = inr (inl m)
or_second L M N marks x (inr (inl l)) = inl l
or_second L M N marks x (inr (inr n)) = inr (inr n)

pub adds_reads : {A B : Type 0} (item : ℕ → Language A) (reader : ℕ → Reader A)
    → ((n : ℕ) → reader n [] ≡ Err (fault_found_at []))
    → ((n : ℕ) → Reads B nothing nothing suc (λ x. x) (item n) (reader n))
    → (xs : List A) → Reads B nothing nothing suc (λ xs. xs) (adds item xs) (adds_at reader xs)
unfolding adds_at
adds_reads {A} item reader none reads xs = reads_same (λ marks y l. l) (λ marks y l. l) same
    (reads_map (λ x. xs ++ x ∷ []) (λ x. xs ++ x ∷ []) (reads (length xs)) (λ x. refl))
  where
    same : (tokens : List Token) → reading.◌>>=◌ (reader (length xs) tokens) (λ x. Ok (xs ++ x.0 ∷ [], x.1))
        ≡ adds_at reader xs tokens
    same [] = ap (λ (r : Result (A × List Token) Found). reading.◌>>=◌ r (λ x. Ok (xs ++ x.0 ∷ [], x.1)))
        (none (length xs))
    same (t ∷ tokens) = refl

-- a list of items that are added, up to a sign
pub adds_list_reads : {A B : Type 0} {before : Token → Bool} (closing : List ℕ) (test : Token → Bool)
    (item : ℕ → Language A) (reader : ℕ → Reader A)
    → bytes_eq (codes ",") closing ≡ false → ((n : ℕ) → Starts test (item n))
    → ((t : Token) → test t ≡ true → is_this_sign closing t ≡ false)
    → ((n : ℕ) → reader n [] ≡ Err (fault_found_at []))
    → ((n : ℕ) → Reads B nothing nothing suc (λ x. x) (item n) (reader n))
    → ReadsAfter B before nothing nothing suc (λ xs. xs) (list closing (adds item) [])
    (λ tokens. items_at closing (adds_at reader) (length tokens) [] tokens)
adds_list_reads closing test item reader no_comma starts apart none reads =
    reads_list {goes = nothing} closing test (adds item) (adds_at reader) no_comma
    (λ xs. starts_then _ (starts (length xs))) apart (λ xs t e. refl) (λ xs t e. refl)
    (adds_reads item reader none reads) []

-- the empty list
pub list_some : {S : Type 0} (closing : List ℕ) (item : S → Language S) (s : S) → IsInhabited (list closing item s)
list_some closing item s =
    some_then (some_repeat (λ s. item s >>= λ x. sign (codes ",") >> gives x) s)
    (λ most. some_then (some_left (some_gives most))
    (λ all. some_then (some_sign closing free) (λ end. some_gives all)))
