-- What holds of an answer where it is a value.
use Rattle.std.proofs.Common.{◌≡◌, Bool, true, false, Option, Some, None, Result, Ok, Err, if◌then◌else◌, refl, IfSome}
use Rattle.std.specs.Option.{ok_or}
use Rattle.std.specs.Result.{IfOk}
use Rattle.rt_lines.specs.Answers.{and_then, and_make}

pub if_some_from : {A : Type 0} (o : Option A) (P : A → Type 0) → ((x : A) → o ≡ Some x → P x) → IfSome o P
if_some_from None P each = tt
if_some_from (Some x) P each = each x refl

module _ {A E : Type 0} where
  pub if_ok_from : (r : Result A E) (P : A → Type 0) → ((x : A) → r ≡ Ok x → P x) → IfOk r P
  if_ok_from (Ok x) P each = each x refl
  if_ok_from (Err w) P each = tt

  pub if_ok_or : (o : Option A) (w : E) (P : A → Type 0) → IfSome o P → IfOk (ok_or o w) P
  if_ok_or None w P h = tt
  if_ok_or (Some x) w P h = h

  pub if_ok_chosen : (b : Bool) (r s : Result A E) (P : A → Type 0) → (b ≡ true → IfOk r P) → IfOk s P
      → IfOk (if b then r else s) P
  if_ok_chosen true r s P first other = first refl
  if_ok_chosen false r s P first other = other

module _ {A B E : Type 0} (Q : B → Type 0) where
  pub if_ok_then : (r : Result A E) (f : A → Result B E) (P : A → Type 0) → IfOk r P → ((x : A) → P x → IfOk (f x) Q)
      → IfOk (and_then r f) Q
  if_ok_then (Ok x) f P h each = each x h
  if_ok_then (Err w) f P h each = tt

  pub if_ok_make : (r : Result A E) (f : A → B) (P : A → Type 0) → IfOk r P → ((x : A) → P x → Q (f x))
      → IfOk (and_make r f) Q
  if_ok_make (Ok x) f P h each = each x h
  if_ok_make (Err w) f P h each = tt

  -- where it holds of what comes of every value
  pub if_ok_then_any : (r : Result A E) (f : A → Result B E) → ((x : A) → IfOk (f x) Q) → IfOk (and_then r f) Q
  if_ok_then_any (Ok x) f each = each x
  if_ok_then_any (Err w) f each = tt

  pub if_ok_make_any : (r : Result A E) (f : A → B) → ((x : A) → Q (f x)) → IfOk (and_make r f) Q
  if_ok_make_any (Ok x) f each = each x
  if_ok_make_any (Err w) f each = tt
