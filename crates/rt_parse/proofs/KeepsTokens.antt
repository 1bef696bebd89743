-- The tokens of the grammar and its lists: names are names, numbers are of 32 bits, and no limit is passed.
use Rattle.std.proofs.Common.{◌≡◌, ℕ, ◌^◌, ◌<◌, ◌≤◌, Bool, true, false, not, ◌&&◌, List, length, Option, Some, None}
use Rattle.std.proofs.Common.{refl, subst}
use Rattle.std.specs.Prelude.{nat_lt, nat_le}
use Rattle.std.proofs.lemmas.Bool.{ltb-true, ltb-false, leb-true, leb-false}
use Rattle.rt_lemmas.proofs.Bools.{not_false, and_left, and_right}
use Rattle.rt_ids.specs.declared.limit.Limit.{Limit}
use Rattle.rt_ids.specs.declared.limit.Limit.TheVariants as limit
use Rattle.rt_ids.specs.declared.limits.TheConstants.{NAME_BYTES}
use Rattle.rt_lex.specs.declared.token.Kind.{Kind}
use Rattle.rt_lex.specs.declared.token.Kind.TheVariants as kind
use Rattle.rt_lex.specs.Token.{Token}
use Rattle.rt_ids.specs.Word.{is_word, is_identifier}
use Rattle.rt_lex.specs.Split.{has_kind}
use Rattle.rt_ast.specs.declared.ident.Ident.{Ident}
use Rattle.rt_ast.specs.declared.ident.Number.{Number}
use Rattle.rt_ast.specs.PrintableBody.{IsPrintableName, IsPrintableNumber}
use Rattle.rt_grammar.specs.Mark.{Mark}
use Rattle.rt_grammar.specs.Language.{Language, token}
use Rattle.rt_grammar.specs.Tokens.{limit_if, first_of, ident_at, ident_of, number_of_token, name_limit, number_limit}
use Rattle.rt_grammar.specs.Tokens.{limited_word, limited_sign, limited_name, this_name, limited_number, list}
use Rattle.rt_parse.proofs.Keeps.{AllSound, Keeps, keeps_gives, keeps_then, keeps_or, keeps_as, keeps_repeat}

-- Limits that are not passed.

not_passed : (passed : Bool) (what : Limit) → limit_if passed what ≡ None → passed ≡ false
not_passed true what e = absurd cc
not_passed false what e = refl

pub first_free : (one other : Option Limit) → first_of one other ≡ None → one ≡ None
first_free None other e = refl
first_free (Some what) other e = e

pub second_free : (one other : Option Limit) → first_of one other ≡ None → other ≡ None
second_free None other e = e
second_free (Some what) other e = absurd cc

pub not_above : (n greatest : ℕ) (what : Limit) → limit_if (nat_lt greatest n) what ≡ None → n ≤ greatest
not_above n greatest what e = ltb-false greatest n (not_passed (nat_lt greatest n) what e)

pub still_below : (most n : ℕ) (what : Limit) → limit_if (nat_le most n) what ≡ None → n < most
still_below most n what e = leb-false most n (not_passed (nat_le most n) what e)

pub between : (least greatest n : ℕ) (what : Limit) → limit_if (not (nat_le least n && nat_le n greatest)) what ≡ None
    → (least ≤ n) × (n ≤ greatest)
between least greatest n what e =
    let h : (nat_le least n && nat_le n greatest) ≡ true = not_false (nat_le least n && nat_le n greatest)
    (not_passed (not (nat_le least n && nat_le n greatest)) what e) in (
      leb-true least n (and_left (nat_le least n) (nat_le n greatest) h),
      leb-true n greatest (and_right (nat_le least n) (nat_le n greatest) h),
    )

-- Tokens.

-- a token of its kind, which means this and passes no limit
pub record IsTaken {A : Type 0} (meaning : Token → Option A) (limit : A → Option Limit) (x : A) : Type 0 where
  pub token : Token
  pub means : meaning token ≡ Some x
  pub free : limit x ≡ None
  pub kind : has_kind token.kind token.text ≡ true

pub keeps_token : {A : Type 0} {meaning : Token → Option A} {limit : A → Option Limit}
    → Keeps (token meaning limit) (IsTaken meaning limit)
keeps_token {A} {meaning} {limit} = record { kept = taken }
  where
    taken : (marks : List Mark) (x : A) → token meaning limit marks x → AllSound marks → IsTaken meaning limit x
    taken marks x (t, e, is) all =
        let sound = subst AllSound is all in
        record { token = t; means = e; free = sound.0.0; kind = sound.0.1 }

pub keeps_word : {text : List ℕ} {what : Option Limit} → Keeps (limited_word text what) (λ at. what ≡ None)
keeps_word = keeps_as keeps_token (λ x t. t.free)

pub keeps_sign : {text : List ℕ} {what : Option Limit} → Keeps (limited_sign text what) (λ at. what ≡ None)
keeps_sign = keeps_as keeps_token (λ x t. t.free)

pub keeps_this_name : {text : List ℕ} → Keeps (this_name text) (λ at. Unit {0})
keeps_this_name = keeps_as keeps_token (λ x t. tt)

-- a name that is printable, and the further limit that it does not pass
pub record IsNameTaken (what : Option Limit) (x : Ident) : Type 0 where
  pub name : IsPrintableName x
  pub free : what ≡ None

name_text : (k : Kind) (text : List ℕ) (at : ℕ) (x : Ident) → ident_at k text at ≡ Some x → has_kind k text ≡ true
    → (is_identifier x.name ≡ true) × (is_word x.name ≡ false)
name_text kind.Name text at x e h =
    let is : text ≡ x.name = cc in
    subst (λ (s : List ℕ). (is_identifier s ≡ true) × (is_word s ≡ false)) is (
      and_left (is_identifier text) (not (is_word text)) h,
      turned (is_word text)
          (and_right (is_identifier text) (not (is_word text)) h),
    )
  where
    turned : (b : Bool) → not b ≡ true → b ≡ false
    turned true e = absurd cc
    turned false e = refl
name_text other text at x e h = absurd cc

pub keeps_name : {what : Option Limit} → Keeps (limited_name what) (IsNameTaken what)
keeps_name {what} = keeps_as keeps_token named
  where
    named : (x : Ident) → IsTaken ident_of (name_limit what) x → IsNameTaken what x
    named x t =
        let own = limit_if (nat_lt NAME_BYTES (length x.name)) limit.Name in
        let text = name_text t.token.kind t.token.text t.token.at x t.means t.kind in
        record {
          name = record {
            name = text.0;
            no_word = text.1;
            short =
                not_above (length x.name) NAME_BYTES limit.Name (first_free own what t.free);
          };
          free = second_free own what t.free;
        }

-- a number of 32 bits, and the further limit that it does not pass
pub record IsNumberTaken (what : ℕ → Option Limit) (n : Number) : Type 0 where
  pub number : IsPrintableNumber n.value
  pub free : what n.value ≡ None

pub keeps_number : {what : ℕ → Option Limit} → Keeps (limited_number what) (IsNumberTaken what)
keeps_number {what} = keeps_as keeps_token taken
  where
    taken : (n : Number) → IsTaken number_of_token (number_limit what) n → IsNumberTaken what n
    taken n t =
        let own = limit_if (not (nat_lt n.value (2 ^ 32))) limit.Number in
        record {
          number = ltb-true n.value (2 ^ 32) (not_false (nat_lt n.value (2 ^ 32))
              (not_passed (not (nat_lt n.value (2 ^ 32))) limit.Number (first_free own (what n.value) t.free)));
          free = second_free own (what n.value) t.free;
        }

-- Lists.

pub keeps_list : {S : Type 0} (P : S → Type 0) {closing : List ℕ} {item : S → Language S}
    → ((s : S) → P s → Keeps (item s) P) → (s : S) → P s → Keeps (list closing item s) P
keeps_list P items s h =
    keeps_then (keeps_repeat P (λ s h. keeps_then (items s h) (λ x k. keeps_then keeps_sign (λ at free. keeps_gives k)))
    s h)
    (λ most h. keeps_then (keeps_or (keeps_gives h) (items most h))
    (λ all k. keeps_then keeps_sign (λ at free. keeps_gives k)))
