-- What holds of the meaning of each text of a language, where its tokens are of their kinds and pass no limit: of each
-- form of the grammar, once it holds of those that it is made of.
use Rattle.std.proofs.Common.{◌≡◌, ℕ, zero, suc, ◌<◌, ◌≤◌, Bool, true, List, [], ◌∷◌, ◌++◌, length, None, Some, refl}
use Rattle.std.proofs.Common.{sym, subst, inl, inr, length-append, arith}
use Rattle.std.specs.List.{AllByRecursion}
use Rattle.rt_lemmas.proofs.Lists.{all_front, all_behind}
use Rattle.rt_ids.proofs.Lists.{all_push}
use Rattle.rt_lex.specs.Token.{Token}
use Rattle.rt_lex.specs.Split.{has_kind, IsLongest}
use Rattle.rt_grammar.specs.Mark.{Mark, Takes, Ends, IsWithin}
use Rattle.rt_grammar.specs.Language.{Language, gives, ◌>>=◌, ◌or◌, or_else, only_if, never, times, repeat}
use Rattle.rt_grammar.specs.Tokens.{adds}
use Rattle.rt_grammar.specs.Reach.{Fits}

-- no limit is passed, at a token of its kind
abbrev pub IsSound : Mark → Type 0
IsSound (Takes t passed) = (passed ≡ None) × (has_kind t.kind t.text ≡ true)
IsSound (Ends compares deep) = deep ≡ None

abbrev pub AllSound : List Mark → Type 0
AllSound marks = AllByRecursion IsSound marks

-- marks that pass no limit are sound where they fit the tokens of a text
pub sound_marks : (src : List ℕ) (marks : List Mark) (ts rest : List Token) → Fits marks ts rest
    → AllByRecursion IsWithin marks → AllByRecursion (IsLongest src) ts → AllSound marks
sound_marks src [] ts rest fits within longest = tt
sound_marks src (Takes t None ∷ marks) ts rest (behind, e, fits) (w, within) longest =
    let all : AllByRecursion (IsLongest src) (t ∷ behind) = subst (AllByRecursion (IsLongest src)) e longest in
    ((refl, all.0.kind), sound_marks src marks behind rest fits within all.1)
sound_marks src (Takes t (Some what) ∷ marks) ts rest fits (w, within) longest = absurd cc
sound_marks src (Ends compares None ∷ marks) ts rest (stops, fits) (w, within) longest =
    (refl, sound_marks src marks ts rest fits within longest)
sound_marks src (Ends compares (Some at) ∷ marks) ts rest fits (w, within) longest = absurd cc

-- this holds of what each sound text of the language means
pub record Keeps {A : Type 0} (L : Language A) (P : A → Type 0) : Type 0 where
  pub kept : (marks : List Mark) (x : A) → L marks x → AllSound marks → P x

pub keeps_gives : {A : Type 0} {x : A} {P : A → Type 0} → P x → Keeps (gives x) P
keeps_gives {P = P} h = record { kept = λ marks y l all. subst P (sym l.1) h }

pub keeps_then : {A B : Type 0} {L : Language A} {M : A → Language B} {P : A → Type 0} {Q : B → Type 0} → Keeps L P
    → ((x : A) → P x → Keeps (M x) Q) → Keeps (L >>= M) Q
keeps_then {A} {B} {L} {M} {P} {Q} first second = record { kept = both }
  where
    both : (marks : List Mark) (y : B) → (L >>= M) marks y → AllSound marks → Q y
    both marks y (x, front, back, l, m, e) all =
        let sound : AllSound (front ++ back) = subst AllSound e all in
        (second x (first.kept front x l (all_front IsSound front back sound))).kept back y m
        (all_behind IsSound front back sound)

pub keeps_or : {A : Type 0} {L M : Language A} {P : A → Type 0} → Keeps L P → Keeps M P → Keeps (L or M) P
keeps_or {A} {L} {M} {P} one other = record { kept = either }
  where
    either : (marks : List Mark) (x : A) → (L or M) marks x → AllSound marks → P x
    either marks x (inl l) all = one.kept marks x l all
    either marks x (inr m) all = other.kept marks x m all

pub keeps_or_else : {A : Type 0} {x : A} {L : Language A} {P : A → Type 0} → P x → Keeps L P → Keeps (or_else x L) P
keeps_or_else h form = keeps_or (keeps_gives h) form

pub keeps_only_if : {A : Type 0} {holds : Bool} {L : Language A} {P : A → Type 0} → (holds ≡ true → Keeps L P)
    → Keeps (only_if holds L) P
keeps_only_if form = record { kept = λ marks x l all. (form l.0).kept marks x l.1 all }

pub keeps_never : {A : Type 0} {P : A → Type 0} → Keeps (never {A = A}) P
keeps_never = record { kept = λ marks x l all. absurd l }

-- what follows from it
pub keeps_as : {A : Type 0} {L : Language A} {P Q : A → Type 0} → Keeps L P → ((x : A) → P x → Q x) → Keeps L Q
keeps_as form follows = record { kept = λ marks x l all. follows x (form.kept marks x l all) }

keeps_times : {S : Type 0} (P : S → Type 0) (n : ℕ) {step : S → Language S} → ((s : S) → P s → Keeps (step s) P)
    → (s : S) → P s → Keeps (times n step s) P
keeps_times P zero steps s h = keeps_gives h
keeps_times P (suc n) steps s h = keeps_then (steps s h) (keeps_times P n steps)

pub keeps_repeat : {S : Type 0} (P : S → Type 0) {step : S → Language S} → ((s : S) → P s → Keeps (step s) P) → (s : S)
    → P s → Keeps (repeat step s) P
keeps_repeat P steps s h = record { kept = λ marks x l all. (keeps_times P l.0 steps s h).kept marks x l.1 all }

-- Items one after the other.

pub keeps_all : {A : Type 0} {P : A → Type 0} {item : ℕ → Language A} → ((n : ℕ) → Keeps (item n) P) → (xs : List A)
    → AllByRecursion P xs → Keeps (adds item xs) (AllByRecursion P)
keeps_all {P = P} items xs all = keeps_then (items (length xs)) (λ x h. keeps_gives (all_push P xs x all h))

-- not more than so many, of which this holds
pub record AreFew {A : Type 0} (P : A → Type 0) (most : ℕ) (xs : List A) : Type 0 where
  pub all : AllByRecursion P xs
  pub few : length xs ≤ most

pub none_are_few : {A : Type 0} (P : A → Type 0) (most : ℕ) → AreFew P most []
none_are_few P most = record { all = tt; few = omega arith }

pub one_more_is_few : {A : Type 0} (P : A → Type 0) (most : ℕ) (xs : List A) (x : A) → AreFew P most xs → P x
    → length xs < most → AreFew P most (xs ++ x ∷ [])
one_more_is_few P most xs x h k below = record {
  all = all_push P xs x h.all k;
  few =
      omega (arith, below, length-append xs (x ∷ []));
}

pub keeps_few : {A : Type 0} {P : A → Type 0} {most : ℕ} {item : ℕ → Language A}
    → ((n : ℕ) → Keeps (item n) (λ x. P x × (n < most))) → (xs : List A) → AreFew P most xs
    → Keeps (adds item xs) (AreFew P most)
keeps_few {P = P} {most = most} items xs h = keeps_then (items (length xs))
    (λ x k. keeps_gives (one_more_is_few P most xs x h k.0 k.1))
