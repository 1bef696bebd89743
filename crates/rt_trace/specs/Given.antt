-- The values in front of the zeros give the fields back.
use Rattle.std.proofs.Common.{◌≡◌, ℕ, ◌-◌, List, ◌++◌, length, take, replicate, ap, sym, ◌∙◌, arith, length-take}
use Rattle.std.proofs.lemmas.List.{take-append-drop}
use Rattle.rt_trace.specs.Padded.{IsPadded, padded_values}
use Rattle.rt_trace.specs.declared.args.Args.TheInside.{Inside}

length_of_values : (count : ℕ) (values : List ℕ) → IsPadded count values → length (take count values) ≡ count
length_of_values count values h = omega (arith, length-take count values, h.few, h.long)

padded-take : (count : ℕ) (values : List ℕ) → IsPadded count values → padded_values (take count values) ≡ values
padded-take count values h =
    ap (λ k. take count values ++ replicate (4 - k) 0) (length_of_values count values h)
    ∙ ap (λ rest. take count values ++ rest) (sym h.rest) ∙ take-append-drop count values

-- a fixed array of four with its count is given back by the values in front of the zeros
pub args_given_back : (a : Inside) → IsPadded a.count a.values
    → record { count = length (take a.count a.values); values = padded_values (take a.count a.values) } ≡ a
args_given_back a h = λ i. record {
  count = length_of_values a.count a.values h i;
  values = padded-take a.count a.values h i;
}
