use Rattle.std.proofs.Common.{inl, inr, refl, rules}
use Rattle.rt_app.specs.View.{app_of}
use Rattle.rt_ids.specs.declared.status.Status.TheVariants as status
use Rattle.rt_top.specs.Outputs.{IsGoodOf}
use Rattle.rt_top.proofs.pair.run_pair.Goals as goal

pub returns-in-Ok-pair-clause-ends : goal.returns-in-Ok-pair-clause-ends
returns-in-Ok-pair-clause-ends g c =
    let good : IsGoodOf (app_of c.args.other.now) c.in-Ok.second.image = search rules in
    let (bytes, is, took) = c.in-Ok-pair.ensures.ok in
    inl (
      status.Done,
      bytes,
      record {
        done = refl;
        second = c.in-Ok.second.image;
        good = good;
        first_numbers = c.in-Ok-pair.ensures.first_numbers (λ e. absurd cc);
        second_numbers = c.in-Ok-pair.ensures.second_numbers (λ e. absurd cc);
        is = is;
      },
      inl (refl, took),
    )

pub returns-in-Err-Fault-clause-ends : goal.returns-in-Err-Fault-clause-ends
returns-in-Err-Fault-clause-ends g c =
    let good : IsGoodOf (app_of c.args.other.now) c.in-Ok.second.image = search rules in
    let part = (rw c.in-Err-Fault.field-0-is at c.in-Err-Fault.ensures.part) refl in
    inl (
      status.Done,
      part.bytes,
      record {
        done = refl;
        second = c.in-Ok.second.image;
        good = good;
        first_numbers = (rw c.in-Err-Fault.field-0-is at c.in-Err-Fault.ensures.first_numbers) (λ e. absurd cc);
        second_numbers = (rw c.in-Err-Fault.field-0-is at c.in-Err-Fault.ensures.second_numbers) (λ e. absurd cc);
        is = part.is;
      },
      inr (refl, (rw c.in-Err-Fault.field-0-is at c.in-Err-Fault.ensures.fault) refl, part.took),
    )
