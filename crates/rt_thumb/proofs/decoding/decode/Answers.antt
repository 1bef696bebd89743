use Rattle.std.proofs.Common.{sym, subst, ◌∙◌, Option}
use Rattle.std.proofs.lemmas.Bool.{both_ways}
use Rattle.rt_thumb.specs.Decoding.{IsDecoding}
use Rattle.rt_thumb.specs.declared.instruction.Instruction.{Instruction}
use Rattle.rt_thumb.proofs.Decoded.{nothing_decoded, one_decoded, refused_decoded}
use Rattle.rt_thumb.proofs.decoding.decode.Goals as goal

pub returns-in_err-instruction : goal.returns-in_err-instruction
returns-in_err-instruction c =
    subst (λ (o : Option Instruction). IsDecoding c.args.halfwords o) (sym c.from_residual.ensures)
    (nothing_decoded c.args.halfwords (sym c.read.ensures.read ∙ c.in_err-instruction.was))

pub returns-then-is_encodable : goal.returns-then-is_encodable
returns-then-is_encodable c =
    one_decoded c.args.halfwords c.in_ok-instruction.instruction c.read.ensures.fits
    (sym c.read.ensures.read ∙ c.in_ok-instruction.was) (c.is_encodable.ensures.0 c.if-is_encodable.true)

pub returns-else-is_encodable : goal.returns-else-is_encodable
returns-else-is_encodable c =
    refused_decoded c.args.halfwords c.in_ok-instruction.instruction
    (sym c.read.ensures.read ∙ c.in_ok-instruction.was)
    (λ encodable. both_ways c.is_encodable.result c.if-is_encodable.false (c.is_encodable.ensures.1 encodable))
