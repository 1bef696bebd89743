-- What holds of an answer where it is a refusal.
use Rattle.std.proofs.Common.{◌≡◌, Option, Some, None, Result, Ok, Err, refl}
use Rattle.std.specs.Option.{ok_or}
use Rattle.std.specs.Result.{IfErr}
use Rattle.rt_lines.specs.Answers.{and_then, and_make}

module _ {E : Type 0} (P : E → Type 0) where
  pub if_err_or : {A : Type 0} (o : Option A) (w : E) → (o ≡ None → P w) → IfErr (ok_or o w) P
  if_err_or None w none = none refl
  if_err_or (Some x) w none = tt

  pub if_err_then : {A B : Type 0} (r : Result A E) (f : A → Result B E) → IfErr r P
      → ((x : A) → r ≡ Ok x → IfErr (f x) P)
      → IfErr (and_then r f) P
  if_err_then (Ok x) f h each = each x refl
  if_err_then (Err w) f h each = h

  pub if_err_make : {A B : Type 0} (r : Result A E) (f : A → B) → IfErr r P → IfErr (and_make r f) P
  if_err_make (Ok x) f h = tt
  if_err_make (Err w) f h = h
