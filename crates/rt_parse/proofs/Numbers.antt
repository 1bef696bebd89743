-- A number that is judged by a further limit.
use Rattle.std.proofs.Common.{◌≡◌, ℕ, ◌^◌, Bool, true, false, not, List, [], ◌∷◌, Option, Result, refl}
use Rattle.std.specs.Prelude.{nat_lt}
use Rattle.rt_ids.specs.declared.limit.Limit.{Limit}
use Rattle.rt_ids.specs.declared.limit.Limit.TheVariants as limit
use Rattle.rt_lex.specs.declared.token.Kind.{Kind}
use Rattle.rt_lex.specs.declared.token.Kind.TheVariants as kind
use Rattle.rt_lex.specs.Token.{Token}
use Rattle.rt_lex.specs.Number.{number_value}
use Rattle.rt_ast.specs.declared.ident.Number.{Number}
use Rattle.rt_grammar.specs.Tokens.{free, first_of, limit_if, number_limit}
use Rattle.rt_grammar.specs.Tokens as grammar
use Rattle.rt_parse.specs.declared.stop.Stop.{Stop}
use Rattle.rt_parse.specs.declared.stop.Stop.TheVariants as stop
use Rattle.rt_parse.specs.Inside.Reading.{◌>>=◌, Stops, token_at, take_meaning, unless_limited, number_at}
use Rattle.rt_parse.specs.Inside.Reading.{limited_number_at}
use Rattle.rt_parse.specs.declared.stop.Found.{Found}

module _ (judge : ℕ → Option Limit) where
  abbrev then_judged : Result (Number × List Token) Found → Result (Number × List Token) Found
  then_judged r = r >>= λ n. unless_limited n.0.at (judge n.0.value) n.0 n.1

  by_size : (b : Bool) (at value : ℕ) (tokens : List Token) →
      unless_limited at (first_of (limit_if b limit.Number) (judge value)) (record { value = value; at = at }) tokens
      ≡ then_judged (unless_limited at (first_of (limit_if b limit.Number) free) (record { value = value; at = at })
      tokens)
  by_size true at value tokens = refl
  by_size false at value tokens = refl

  by_kind : (k : Kind) (text : List ℕ) (at : ℕ) (tokens : List Token) →
      take_meaning (grammar.number_with_offset k text at) (number_limit judge)
      (record { at = at; kind = k; text = text }) tokens
      ≡ then_judged (take_meaning (grammar.number_with_offset k text at) (number_limit (λ _. free))
      (record { at = at; kind = k; text = text }) tokens)
  by_kind kind.Num text at tokens = by_size (not (nat_lt (number_value text) (2 ^ 32))) at (number_value text) tokens
  by_kind kind.Name text at tokens = refl
  by_kind kind.Word text at tokens = refl
  by_kind kind.Sign text at tokens = refl
  by_kind kind.Foreign text at tokens = refl

  pub number_then : (tokens : List Token) → limited_number_at judge tokens ≡ then_judged (number_at tokens)
  unfolding token_at
  number_then [] = refl
  number_then (t ∷ tokens) = by_kind t.kind t.text t.at tokens

-- what stopped a reader stops what follows it
pub still_stops : {A B : Type 0} (why : Stop) (read : Result A Found) (next : A → Result B Found) → Stops why read
    → Stops why (read >>= next)
still_stops stop.Memory read next h = tt
still_stops (stop.At found) read next h = rw h refl
