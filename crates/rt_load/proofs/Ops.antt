-- What a table of operations says is said by the operation of the first word.
use Rattle.std.proofs.Common.{◌≡◌, ℕ, Bool, true, false, cond, List, [], ◌∷◌, map, find, bytes_eq, Some, None, Err}
use Rattle.std.proofs.Common.{if◌then◌else◌, refl, ap}
use Rattle.std.proofs.lemmas.Option.{same_Some}
use Rattle.rt_ids.specs.Names.{Names}
use Rattle.rt_ids.specs.declared.op.Op.{Op}
use Rattle.rt_lines.specs.Table.{said_at, shape_at}
use Rattle.rt_lines.specs.declared.operand.Wrong.TheVariants as wrong
use Rattle.rt_listing.specs.Words.{op_word, op_row}

module _ (names : Names) (first : List ℕ) (ws : List (List ℕ)) where
  pub op_found : (ops : List Op) (o : Op) → find (λ o. bytes_eq first (op_word o)) ops ≡ Some o
      → said_at (map op_row ops) names first ws ≡ shape_at (op_row o).shape names ws
  op_found [] o e = absurd (cc)
  op_found (x ∷ ops) o e = by (bytes_eq first (op_word x)) e (op_found ops o)
    where
      by : (here : Bool) → cond here (Some x) (find (λ o. bytes_eq first (op_word o)) ops) ≡ Some o
          → (find (λ o. bytes_eq first (op_word o)) ops ≡ Some o
          → said_at (map op_row ops) names first ws ≡ shape_at (op_row o).shape names ws)
          → (if here then shape_at (op_row x).shape names ws else said_at (map op_row ops) names first ws)
          ≡ shape_at (op_row o).shape names ws
      by true e rest = ap (λ (y : Op). shape_at (op_row y).shape names ws) (same_Some x o e)
      by false e rest = rest e

  pub op_missed : (ops : List Op) → find (λ o. bytes_eq first (op_word o)) ops ≡ None
      → said_at (map op_row ops) names first ws ≡ Err wrong.Form
  op_missed [] e = refl
  op_missed (x ∷ ops) e = by (bytes_eq first (op_word x)) e (op_missed ops)
    where
      by : (here : Bool) → cond here (Some x) (find (λ o. bytes_eq first (op_word o)) ops) ≡ None
          → (find (λ o. bytes_eq first (op_word o)) ops ≡ None
          → said_at (map op_row ops) names first ws ≡ Err wrong.Form)
          → (if here then shape_at (op_row x).shape names ws else said_at (map op_row ops) names first ws)
          ≡ Err wrong.Form
      by true e rest = absurd (cc)
      by false e rest = rest e
