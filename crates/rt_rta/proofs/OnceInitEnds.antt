-- The end of `init` in labels; and what holds of requests at any time says no less than what holds of those behind it.
use Rattle.std.proofs.Common.{◌≡◌, ◌⊎◌, inl, inr, ℕ, Bool, true, false, List, [], ◌∷◌, ◌++◌, Contains, Some, None}
use Rattle.std.proofs.Common.{refl, sym, ap, subst, ◌∙◌, append_assoc}
use Rattle.std.proofs.lemmas.List.Elements.{Contains-append_left}
use Rattle.rt_lemmas.proofs.Bools.{true_and_false}
use Rattle.rt_lemmas.proofs.Membership.{contains_none, contains_cases}
use Rattle.rt_ids.specs.declared.ids.BodyId.TheVariants as body
use Rattle.rt_trace.specs.Label.{Label, Arrived, Ticked, Rang, Stepped}
use Rattle.rt_trace.specs.declared.item.What.TheVariants as what
use Rattle.rt_rta.specs.Kept.{end_of_init, InitEnds}
use Rattle.rt_rta.specs.Laws.{OnceInitEndsSaysMore}

-- a label in front at which `init` does not end
pub ends_on : (label : Label) (labels during behind : List Label) → ¬ (label ≡ end_of_init)
    → InitEnds labels during behind
    → InitEnds (label ∷ labels) (label ∷ during) behind
ends_on label labels during behind other ends = record {
  parts = ap (λ xs. label ∷ xs) ends.parts;
  first_end = λ there. elim (contains_cases label during end_of_init there) [
    | inl same ↦ other same
    | inr deeper ↦ ends.first_end deeper
  ];
}

ends_init : Label → Bool
ends_init (Stepped (Some (what.End body.Init))) = true
ends_init label = false

end_is : (label : Label) → ends_init label ≡ true → label ≡ end_of_init
unfolding ends_init
end_is (Arrived irq) is = cc
end_is Ticked is = cc
end_is Rang is = cc
end_is (Stepped None) is = cc
end_is (Stepped (Some (what.End body.Init))) is = refl
end_is (Stepped (Some w)) is = cc

is_end : ends_init end_of_init ≡ true
unfolding ends_init
is_end = refl

-- labels in which it ends have a first end
first_end_in : (labels : List Label) → Contains labels end_of_init
    → (during : List Label) × (behind : List Label) × InitEnds labels during behind
first_end_in [] there = absurd (contains_none end_of_init there)
first_end_in (label ∷ labels) there = by (λ deeper. first_end_in labels deeper) (ends_init label) refl
  where
    by : (Contains labels end_of_init → (during : List Label) × (behind : List Label) × InitEnds labels during behind)
        → (b : Bool) → ends_init label ≡ b
        → (during : List Label) × (behind : List Label) × InitEnds (label ∷ labels) during behind
    by next true test = (
      [],
      labels,
      record { parts = ap (λ l. l ∷ labels) (end_is label test); first_end = contains_none end_of_init },
    )
    by next false test = behind_it (contains_cases label labels end_of_init there)
      where
        other : ¬ (label ≡ end_of_init)
        other same = true_and_false (ends_init label) (ap ends_init same ∙ is_end) test

        behind_it : (label ≡ end_of_init) ⊎ Contains labels end_of_init
            → (during : List Label) × (behind : List Label) × InitEnds (label ∷ labels) during behind
        behind_it (inl same) = absurd (other same)
        behind_it (inr deeper) =
            let ends = next deeper in
            (label ∷ ends.0, ends.1, ends_on label labels ends.0 ends.1 other ends.2)

-- where a label is among others
pub split_at : (xs : List Label) (x : Label) → Contains xs x
    → (front : List Label) × (behind : List Label) × (xs ≡ front ++ x ∷ behind)
split_at [] x there = absurd (contains_none x there)
split_at (y ∷ xs) x there = by (λ deeper. split_at xs x deeper) (contains_cases y xs x there)
  where
    by : (Contains xs x → (front : List Label) × (behind : List Label) × (xs ≡ front ++ x ∷ behind))
        → (y ≡ x) ⊎ Contains xs x → (front : List Label) × (behind : List Label) × (y ∷ xs ≡ front ++ x ∷ behind)
    by next (inl same) = ([], xs, ap (λ z. z ∷ xs) same)
    by next (inr deeper) = let parts = next deeper in (y ∷ parts.0, parts.1, ap (λ zs. y ∷ zs) parts.2)

-- a request behind an end comes behind the first one
pub ended_before : (labels front behind : List Label) (irq : ℕ) → labels ≡ front ++ Arrived irq ∷ behind
    → Contains front end_of_init
    → (during : List Label) × (between : List Label) × InitEnds labels during (between ++ Arrived irq ∷ behind)
ended_before labels front behind irq is there =
    let ends = first_end_in front there in (
      ends.0,
      ends.1,
      record {
        parts = is ∙ ap (λ xs. xs ++ Arrived irq ∷ behind) ends.2.parts
            ∙ append_assoc ends.0 (end_of_init ∷ ends.1) (Arrived irq ∷ behind);
        first_end = ends.2.first_end;
      },
    )

pub once_init_ends_says_more : OnceInitEndsSaysMore
once_init_ends_says_more = record {
  asks_no_more = λ limits labels kept. record {
    from_end = λ during behind ends. record {
      apart = λ front between rest irq every row is.
          kept.apart (during ++ end_of_init ∷ front) between rest irq every row
          (ends.parts ∙ ap (λ xs. during ++ end_of_init ∷ xs) is
          ∙ sym (append_assoc during (end_of_init ∷ front) (Arrived irq ∷ (between ++ Arrived irq ∷ rest))));
      apart_from_end = λ between rest irq every row there is.
          let parts = split_at during (Arrived irq) there in
          let sooner : Contains parts.0 end_of_init =
          kept.late parts.0 (parts.1 ++ end_of_init ∷ behind) irq
          (ends.parts ∙ ap (λ xs. xs ++ end_of_init ∷ behind) parts.2
          ∙ append_assoc parts.0 (Arrived irq ∷ parts.1) (end_of_init ∷ behind)) in
          absurd (ends.first_end (subst (λ xs. Contains xs end_of_init) (sym parts.2)
          (Contains-append_left parts.0 (Arrived irq ∷ parts.1) end_of_init sooner)));
    };
    limited = kept.limited;
  };
  says_no_less = λ app limits labels kept responds front behind irq service steps is served response enough.
      let ends = ended_before labels front behind irq is (kept.late front behind irq is) in
      (responds ends.0 (ends.1 ++ Arrived irq ∷ behind) ends.2).requests_behind ends.1 behind irq service steps refl
      served response enough;
}
