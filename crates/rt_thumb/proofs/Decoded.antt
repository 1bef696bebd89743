-- What is decoded: exactly what encodes an instruction.
use Rattle.std.proofs.Common.{◌≡◌, ◌∙◌, sym, ap, subst, refl, ◌/◌, ◌^◌, Option, Some, None}
use Rattle.rt_thumb.specs.Encoding.{encode}
use Rattle.rt_thumb.specs.Decoding.{IsDecoding}
use Rattle.rt_thumb.specs.Inside.Reading.{read, AreHalfwords}
use Rattle.rt_thumb.specs.Instruction.{IsEncodable}
use Rattle.rt_thumb.specs.declared.instruction.Instruction.{Instruction}
use Rattle.rt_thumb.specs.declared.instruction.Halfwords.{Halfwords}
use Rattle.rt_thumb.specs.declared.instruction.Halfwords.TheVariants as halfwords
use Rattle.rt_thumb.proofs.BranchesOf.{wide_is}
use Rattle.rt_thumb.proofs.Of.{IsOf}
use Rattle.rt_thumb.proofs.Read.{read_back, same_instruction}
use Rattle.rt_thumb.proofs.ShortOf.{short_is}

read_is : (w : Halfwords) → AreHalfwords w → IsOf w (read w)
read_is (halfwords.Short h) b = short_is (h / 2 ^ 11) h refl
read_is (halfwords.Wide first second) b = wide_is (first / 2 ^ 11) first second refl b.1

-- what encodes an instruction reads as it
reads : (w : Halfwords) (o : Option Instruction) (i : Instruction) → read w ≡ o → IsEncodable i → encode i ≡ w
    → o ≡ Some i
reads w o i e p q = sym e ∙ (ap read (sym q) ∙ read_back i p)

none_is_some : (i : Instruction) → None ≡ Some i → ⊥
none_is_some i e = cc

pub nothing_decoded : (w : Halfwords) → read w ≡ None → IsDecoding w None
nothing_decoded w e i = ((λ f. absurd (none_is_some i f)), (λ both. reads w None i e both.0 both.1))

pub one_decoded : (w : Halfwords) (j : Instruction) → AreHalfwords w → read w ≡ Some j → IsEncodable j
    → IsDecoding w (Some j)
one_decoded w j b e p i =
    let written : encode j ≡ w = subst (IsOf w) e (read_is w b) in (
      (λ f. let k = same_instruction j i f in
          (subst IsEncodable k p, subst (λ (n : Instruction). encode n ≡ w) k written)),
      (λ both. reads w (Some j) i e both.0 both.1),
    )

pub refused_decoded : (w : Halfwords) (j : Instruction) → read w ≡ Some j → (IsEncodable j → ⊥) → IsDecoding w None
refused_decoded w j e unfit i = (
  (λ f. absurd (none_is_some i f)),
  (λ both. absurd (unfit (subst IsEncodable (sym (same_instruction j i (reads w (Some j) i e both.0 both.1))) both.0))),
)
