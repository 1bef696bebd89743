-- On answers that may be refusals.
use Rattle.std.proofs.Common.{Result, Ok, Err, OnOk}
use Rattle.std.specs.Prelude.{OnErr}

-- what follows from what holds where there is an answer
pub on_ok_weaker : {A E : Type 0} (r : Result A E) (P Q : Type 0) → (P → Q) → OnOk r P → OnOk r Q
on_ok_weaker (Ok x) P Q f h = f h
on_ok_weaker (Err e) P Q f h = h

-- what holds, holds on an error
pub on_err_from : {T E P : Type 0} (result : Result T E) → P → OnErr result P
on_err_from (Ok value) h = tt
on_err_from (Err error) h = h
