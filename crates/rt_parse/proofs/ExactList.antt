-- How a list up to the sign that closes it unfolds into an item and the rest.
use Rattle.std.proofs.Common.{◌≡◌, ℕ, List, [], ◌++◌, refl, sym, subst, inl, inr}
use Rattle.std.specs.Prelude.{◌⊎◌, codes}
use Rattle.std.proofs.lemmas.List.{append-nil, append_assoc}
use Rattle.rt_grammar.specs.Language.{Language, gives, ◌>>=◌, ◌or◌, repeat}
use Rattle.rt_grammar.specs.Tokens.{sign, list}
use Rattle.rt_parse.proofs.ExactLaws.{IsWithinLanguage, then_then, then_then', gives_then, gives_then', or_then}
use Rattle.rt_parse.proofs.ExactLaws.{or_then', repeat_then, repeat_then'}

-- a form, and another after it that adds no meaning
through : {A X B : Type 0} (L : Language A) (S : Language X) (M : A → Language B)
    → IsWithinLanguage (L >>= λ x. S >>= λ z. M x) ((L >>= λ x. S >>= λ z. gives x) >>= M)
through L S M marks y (x, front, back, l, (z, f, b, s, m, e'), e) = (
  x,
  front ++ f,
  b,
  (x, front, f, l, (z, f, [], s, (refl, refl), sym (append-nil f)), refl),
  m,
  (let h : (front ++ f) ++ b ≡ front ++ (f ++ b) = append_assoc front f b in cc),
)

through' : {A X B : Type 0} (L : Language A) (S : Language X) (M : A → Language B)
    → IsWithinLanguage ((L >>= λ x. S >>= λ z. gives x) >>= M) (L >>= λ x. S >>= λ z. M x)
through' {A} L S M marks y (w, front, back, (x, f1, b1, l, (z, f2, b2, s, (eb, ew), e2), e1), m, e) = (
  x,
  f1,
  f2 ++ back,
  l,
  (z, f2, back, s, subst (λ (v : A). M v back y) ew m, refl),
  (let h : (f1 ++ f2) ++ back ≡ f1 ++ (f2 ++ back) = append_assoc f1 f2 back in let n : f2 ++ [] ≡ f2 = append-nil f2 in
      cc),
)

then_or : {A B : Type 0} (L : Language A) (M N : A → Language B) → IsWithinLanguage (L >>= λ x. M x or N x)
    ((L >>= M) or (L >>= N))
then_or L M N marks y (x, front, back, l, inl m, e) = inl (x, front, back, l, m, e)
then_or L M N marks y (x, front, back, l, inr n, e) = inr (x, front, back, l, n, e)

then_left : {A B : Type 0} (L : Language A) (M N : A → Language B) → IsWithinLanguage (L >>= M) (L >>= λ x. M x or N x)
then_left L M N marks y (x, front, back, l, m, e) = (x, front, back, l, inl m, e)

then_right : {A B : Type 0} (L : Language A) (M N : A → Language B) → IsWithinLanguage (L >>= N) (L >>= λ x. M x or N x)
then_right L M N marks y (x, front, back, l, n, e) = (x, front, back, l, inr n, e)

-- What follows an item: the sign that closes the list, or a comma and the rest of the list.
module _ {S B : Type 0} (closing : List ℕ) (item : S → Language S) (behind : S → Language B) where
  abbrev pub end_of : S → Language B
  end_of x = sign closing >>= λ z. behind x

  abbrev pub last_of : S → Language B
  last_of s = ((gives s or item s) >>= λ x. sign closing >>= λ z. gives x) >>= behind

  abbrev pub step_of : S → Language S
  step_of s = item s >>= λ x. sign (codes ",") >>= λ z. gives x

  abbrev pub rest_of : S → Language B
  rest_of s = repeat step_of s >>= last_of

  abbrev pub more_of : S → Language B
  more_of x = sign (codes ",") >>= λ z. rest_of x

  abbrev pub next_of : S → Language B
  next_of x = end_of x or more_of x

  pub rest_list : (s : S) → IsWithinLanguage (rest_of s) (list closing item s >>= behind)
  rest_list s = then_then (repeat step_of s) (λ m. (gives m or item m) >>= λ x. sign closing >>= λ z. gives x) behind

  pub list_rest : (s : S) → IsWithinLanguage (list closing item s >>= behind) (rest_of s)
  list_rest s = then_then' (repeat step_of s) (λ m. (gives m or item m) >>= λ x. sign closing >>= λ z. gives x) behind

  end_last : (s : S) → IsWithinLanguage (end_of s) (last_of s)
  end_last s marks y l = through (gives s or item s) (sign closing) behind marks y
      (or_then (gives s) (item s) end_of marks y (inl (gives_then s end_of marks y l)))

  item_last : (s : S) → IsWithinLanguage (item s >>= end_of) (last_of s)
  item_last s marks y l = through (gives s or item s) (sign closing) behind marks y
      (or_then (gives s) (item s) end_of marks y (inr l))

  last_either : (s : S) → IsWithinLanguage (last_of s) (end_of s or (item s >>= end_of))
  last_either s marks y l = go (or_then' (gives s) (item s) end_of marks y
      (through' (gives s or item s) (sign closing) behind marks y l))
    where
      go : (gives s >>= end_of) marks y ⊎ (item s >>= end_of) marks y → end_of s marks y ⊎ (item s >>= end_of) marks y
      go (inl g) = inl (gives_then' s end_of marks y g)
      go (inr i) = inr i

  pub end_rest : (s : S) → IsWithinLanguage (end_of s) (rest_of s)
  end_rest s marks y l = repeat_then step_of s last_of marks y (inl (end_last s marks y l))

  pub next_rest : (s : S) → IsWithinLanguage (item s >>= next_of) (rest_of s)
  next_rest s marks y l = go (then_or (item s) end_of more_of marks y l)
    where
      go : (item s >>= end_of) marks y ⊎ (item s >>= more_of) marks y → rest_of s marks y
      go (inl e) = repeat_then step_of s last_of marks y (inl (item_last s marks y e))
      go (inr m) = repeat_then step_of s last_of marks y (inr (through (item s) (sign (codes ",")) rest_of marks y m))

  pub rest_either : (s : S) → IsWithinLanguage (rest_of s) (end_of s or (item s >>= next_of))
  rest_either s marks y l = go (repeat_then' step_of s last_of marks y l)
    where
      of_last : end_of s marks y ⊎ (item s >>= end_of) marks y → end_of s marks y ⊎ (item s >>= next_of) marks y
      of_last (inl e) = inl e
      of_last (inr i) = inr (then_left (item s) end_of more_of marks y i)

      go : last_of s marks y ⊎ (step_of s >>= rest_of) marks y → end_of s marks y ⊎ (item s >>= next_of) marks y
      go (inl l) = of_last (last_either s marks y l)
      go (inr m) = inr (then_right (item s) end_of more_of marks y
          (through' (item s) (sign (codes ",")) rest_of marks y m))
