-- The words of a command.
use Rattle.std.proofs.Common.{◌≡◌, ◌+◌, ◌-◌, ◌^◌, ◌<◌, ◌≤◌, ℕ, zero, suc, List, [], ◌∷◌, length, get_or, drop, codes}
use Rattle.std.proofs.Common.{Option, Some, None, Bool, true, false, bytes_eq, IfSome, IfNone, sym, ap, subst, ◌∙◌}
use Rattle.std.proofs.Common.{arith, drop-cons}
use Rattle.std.proofs.lemmas.List.{drop_all}
use Rattle.std.proofs.lemmas.Option.{IfSome_then}
use Rattle.std.specs.Str.Parse.{digits_value}
use Rattle.std.specs.Borrow.{Bor}
use Rattle.rt_top.specs.Words.{texts, Command, Run, Check, Fmt, Build, Audit, Live, Soak, Demo, Deepest, Times, Verify}
use Rattle.rt_top.specs.Words.{Pair, NamesCommand, IsNumber}
use Rattle.rt_top.specs.Defined.{IsCommand}
use Rattle.rt_top.specs.Rtic.{rtic_program}
use Rattle.rt_top.specs.Inside.Meant.{command_word}
use Rattle.rt_top.specs.declared.command.Command as code
use Rattle.rt_top.specs.declared.command.Command.TheVariants as command

-- what stands for a word where there is none
abbrev pub no_word : Bor (List ℕ)
no_word = record { ref_ptr = (0, 0); now = [] }

-- so many words from an index on
abbrev pub words_from : ℕ → ℕ → List (Bor (List ℕ)) → List (List ℕ)
words_from k zero words = []
words_from k (suc n) words = (get_or words k no_word).now ∷ words_from (suc k) n words

spread : (n k : ℕ) (words : List (Bor (List ℕ))) → length words ≡ k + n
    → texts (drop k words) ≡ words_from k n words
spread zero k words same = ap texts (drop_all k words (omega (arith, same)))
spread (suc n) k words same =
    ap texts (drop-cons words k no_word (omega (arith, same)))
    ∙ ap (λ t. (get_or words k no_word).now ∷ t) (spread n (suc k) words (omega (arith, same)))

-- words of which the first is this one, and so many after it
pub with_verb : {verb : List ℕ} (n : ℕ) (words : List (Bor (List ℕ))) → (get_or words 0 no_word).now ≡ verb
    → suc n ≤ length words → length words < suc (suc n) → texts words ≡ verb ∷ words_from 1 n words
with_verb n words is least most =
    spread (suc n) 0 words (omega (arith, least, most)) ∙ ap (λ v. v ∷ words_from 1 n words) is

-- the command, where the test is true, else that of the other tests
abbrev when : Bool → Command → Option Command → Option Command
when true c other = Some c
when false c other = other

-- the number that a word spells
abbrev number_at : ℕ → List (List ℕ) → ℕ
number_at n words = digits_value 10 (get_or words n [])

-- the one command that words can name, by the first
abbrev pub command_named : List (List ℕ) → Option Command
command_named [] = None
command_named (verb ∷ words) =
    when (bytes_eq verb (codes "run")) Run (when (bytes_eq verb (codes "check")) Check
    (when (bytes_eq verb (codes "fmt")) Fmt (when (bytes_eq verb (codes "build")) Build
    (when (bytes_eq verb (codes "audit")) Audit (when (bytes_eq verb (codes "live")) Live
    (when (bytes_eq verb (codes "deepest")) Deepest (when (bytes_eq verb (codes "times")) Times
    (when (bytes_eq verb (codes "verify")) Verify (when (bytes_eq verb (codes "pair")) Pair
    (when (bytes_eq verb (codes "demo")) (Demo (number_at 0 words))
    (Some (Soak (number_at 1 words) (number_at 2 words) (number_at 3 words)))))))))))))

pub names_it : (words : List (List ℕ)) (c : Command) → NamesCommand words c → command_named words ≡ Some c
names_it words Run named = ap command_named named.2
names_it words Check named = ap command_named named.1
names_it words Fmt named = ap command_named named.1
names_it words Build named = ap command_named named.1
names_it words Audit named = ap command_named named.2
names_it words Live named = ap command_named named.2
names_it words (Soak number count workers) named =
    let e = ap command_named named.4 in
    let a = named.5.value in
    let b = named.6.value in
    let c = named.7.value in cc
names_it words Deepest named = ap command_named named.1
names_it words Times named = ap command_named named.2
names_it words Verify named = ap command_named named.1
names_it words Pair named = ap command_named named.3
names_it words (Demo n) named = let e = ap command_named named.1 in let a = named.2.value in cc

-- words name one command at most
pub one_command : (words : List (List ℕ)) (c d : Command) → NamesCommand words c → NamesCommand words d → c ≡ d
one_command words c d named other = let e = names_it words c named in let f = names_it words d other in cc

-- the words of `soak`, with those of its numbers
module _ (words : List (List ℕ)) (app a b c : List ℕ) (is : words ≡ codes "soak" ∷ app ∷ a ∷ b ∷ c ∷ [])
    (r : Option code.Command) where
  pub soak_named : IfSome r (λ x. (n k w : ℕ) × (x ≡ command.Soak n k w) × IsNumber 0 (2 ^ 64 - 1) a n
      × IsNumber 1 10000 b k × IsNumber 1 64 c w) → IfSome r (λ x. NamesCommand words (command_word x))
  soak_named some =
      IfSome_then r some (λ x (n, k, w, so, of_n, of_k, of_w).
      subst (λ y. NamesCommand words (command_word y)) (sym so) (app, a, b, c, is, of_n, of_k, of_w))

  spelled : (n k w : ℕ) → NamesCommand words (Soak n k w)
      → IsNumber 0 (2 ^ 64 - 1) a n × IsNumber 1 10000 b k × IsNumber 1 64 c w
  spelled n k w (app', a', b', c', are, of_n, of_k, of_w) =
      let same = sym is ∙ are in
      let at_a : a' ≡ a = cc in
      let at_b : b' ≡ b = cc in
      let at_c : c' ≡ c = cc in (
        subst (λ x. IsNumber 0 (2 ^ 64 - 1) x n) at_a of_n,
        subst (λ x. IsNumber 1 10000 x k) at_b of_k,
        subst (λ x. IsNumber 1 64 x w) at_c of_w,
      )

  no_other : ((n k w : ℕ) → IsNumber 0 (2 ^ 64 - 1) a n → IsNumber 1 10000 b k → IsNumber 1 64 c w → ⊥)
      → IsCommand rtic_program words → ⊥
  no_other none (e, named) =
      let names = names_it words e named in
      let so = ap command_named is in
      let same : e ≡ Soak (digits_value 10 a) (digits_value 10 b) (digits_value 10 c) = cc in
      let numbers = spelled _ _ _ (subst (NamesCommand words) same named) in
      none _ _ _ numbers.0 numbers.1 numbers.2

  pub soak_none : IfNone r ((n k w : ℕ) → IsNumber 0 (2 ^ 64 - 1) a n → IsNumber 1 10000 b k → IsNumber 1 64 c w
      → ⊥) → IfNone r (IsCommand rtic_program words → ⊥)
  soak_none = by r
    where
      by : (r : Option code.Command) → IfNone r ((n k w : ℕ) → IsNumber 0 (2 ^ 64 - 1) a n → IsNumber 1 10000 b k
          → IsNumber 1 64 c w → ⊥) → IfNone r (IsCommand rtic_program words → ⊥)
      by None none = no_other none
      by (Some x) none = tt
