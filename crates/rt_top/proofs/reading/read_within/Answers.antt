use Rattle.std.proofs.Common.{refl, arith}
use Rattle.rt_top.specs.Inside.Using.{for_memory, at_fault}
use Rattle.rt_top.proofs.Texts.{long_within, text_within}
use Rattle.rt_top.proofs.reading.read_within.Goals as goal

pub returns-in-Ok : goal.returns-in-Ok
returns-in-Ok g c = (
  (
    text_within c.args.limit g.S.Source.past g.S.Source.left c.args.source.now c.read_text.new.source c.in-Ok.text
        c.read_text.ensures.given c.in-Ok.ensures.whole c.in-Ok.ensures.ended c.in-Ok.ensures.within,
    c.read_text.ensures.quiet (λ e. absurd cc),
  ),
  c.in-Ok.ensures.whole,
)

pub returns-in-Err-TooLong : goal.returns-in-Err-TooLong
returns-in-Err-TooLong g c =
    let long = (rw c.in-Err-TooLong.field-0-is at c.in-Err-TooLong.ensures.too_long) refl in (
      (
        long_within c.args.limit g.S.Source.past g.S.Source.left c.args.source.now c.read_text.new.source
            c.read_text.ensures.given long,
        (rw c.in-Err-TooLong.field-0-is at c.in-Err-TooLong.ensures.quiet) (λ e. absurd cc),
      ),
      omega (arith, long),
    )

pub returns-in-Err-Fault : goal.returns-in-Err-Fault
returns-in-Err-Fault g c = at_fault ((rw c.in-Err-Fault.field-0-is at c.in-Err-Fault.ensures.fault) refl)

pub returns-in-Err-NoMemory : goal.returns-in-Err-NoMemory
returns-in-Err-NoMemory g c =
    for_memory ((rw c.in-Err-NoMemory.field-0-is at c.in-Err-NoMemory.ensures.quiet) (λ e. absurd cc))
