-- On what may not be there.
use Rattle.std.proofs.Common.{◌≡◌, Bor, Option, Some, None, IfSome, Bool, true, false, option_map, refl}
use Rattle.std.proofs.Common.{if◌then◌else◌}
use Rattle.std.specs.Option.{option_or, unwrap_or}

pub if_some_weaker : {A : Type 0} {P Q : A → Type 0} (o : Option A) → ((x : A) → P x → Q x) → IfSome o P → IfSome o Q
if_some_weaker None f p = p
if_some_weaker (Some x) f p = f x p

pub if_some_either : {X : Type 0} (P : X → Type 0) (first second : Option X) → IfSome first P → IfSome second P
    → IfSome (option_or first second) P
if_some_either P None second h k = k
if_some_either P (Some x) second h k = h

pub if_some-map : {X Y : Type 0} (f : X → Y) (P : Y → Type 0) (found : Option X) → IfSome found (λ x. P (f x))
    → IfSome (option_map f found) P
if_some-map f P None h = tt
if_some-map f P (Some x) h = h

pub some_when : {A : Type 0} (b : Bool) (x y : A) → (if b then Some x else None) ≡ Some y → b ≡ true
some_when true x y e = refl
some_when false x y e = absurd cc

-- what is read behind a reference that may not be there, and else behind another
pub unwrap_or-now : {X : Type 0} (o : Option (Bor X)) (other : Bor X) → (unwrap_or o other).now
    ≡ unwrap_or (option_map (λ x. x.now) o) other.now
unwrap_or-now None other = refl
unwrap_or-now (Some x) other = refl
