-- Options and arguments.
use Rattle.std.proofs.Common.{◌≡◌, ◌++◌, codes, length, List, [], ◌∷◌, Option, Some, None, Result, Ok, Err, refl}
use Rattle.rt_lex.specs.Token.{Token}
use Rattle.rt_ast.specs.declared.ident.Ident.{Ident}
use Rattle.rt_parse.specs.Inside.Reading.{◌>>=◌, sign_at}
use Rattle.rt_parse.specs.Inside.ReadingBodies.{argument_at, one_argument_at}
use Rattle.std.specs.Prelude.{Vec, is_none}
use Rattle.rt_parse.specs.Inside.DeclarationView.{items_of}

pub is_none_items : {A Z : Type 0} (o : Option (Vec A Z)) → is_none (items_of o) ≡ is_none o
is_none_items None = refl
is_none_items (Some xs) = refl

bind_bind : {A B C E : Type 0} (r : Result A E) (f : A → Result B E) (g : B → Result C E) → (r >>= λ x. f x >>= g)
    ≡ ((r >>= f) >>= g)
bind_bind (Ok x) f g = refl
bind_bind (Err e) f g = refl

pub argument_is : (xs : List Ident) (tokens : List Token) → argument_at xs tokens
    ≡ (one_argument_at (length xs) tokens >>= λ x. Ok (xs ++ x.0 ∷ [], x.1))
unfolding argument_at one_argument_at
argument_is xs tokens = bind_bind (sign_at (codes ",") tokens) _ (λ x. Ok (xs ++ x.0 ∷ [], x.1))
