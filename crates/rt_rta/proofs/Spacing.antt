-- The distances between requests, as one meets them from a moment on: each interrupt has some core steps to wait until
-- it may be requested again.
use Rattle.std.proofs.Common.{◌≡◌, ◌⊎◌, inl, inr, ℕ, zero, suc, ◌-◌, ◌≤◌, ◌==◌, Bool, true, false, if◌then◌else◌}
use Rattle.std.proofs.Common.{List, [], ◌∷◌, ◌++◌, Contains, replicate, slice_index_or, Option, Some, None, refl, sym}
use Rattle.std.proofs.Common.{ap, subst, ◌∙◌, arith}
use Rattle.std.specs.Prelude.{IsSome}
use Rattle.std.proofs.lemmas.Bool.{eqb-true}
use Rattle.rt_lemmas.proofs.Bools.{true_and_false}
use Rattle.rt_lemmas.proofs.Membership.{contains_none, contains_here, contains_there}
use Rattle.rt_ids.specs.Lists.{or_zero}
use Rattle.rt_trace.specs.Label.{Label, Arrived, Ticked, Rang, Stepped, steps_of}
use Rattle.rt_rta.specs.declared.limits.Limit.{Limit}
use Rattle.rt_rta.specs.Limits.{every_of}
use Rattle.rt_rta.specs.Kept.{end_of_init, InitEnds, KeptOnceInitEnds}
use Rattle.rt_rta.proofs.OnceInitEnds.{ends_on}

-- by the number of the interrupt
abbrev pub Waits : Type 0
Waits = ℕ → ℕ

abbrev pub requested : ℕ → ℕ → Waits → Waits
requested irq every waits k = if k == irq then every else waits k

abbrev pub a_step_on : Waits → Waits
a_step_on waits k = waits k - 1

is_there : (o : Option ℕ) → IsSome o → (n : ℕ) × (o ≡ Some n)
is_there (Some n) some = (n, refl)
is_there None some = cc

module _ (limits : List Limit) where
  abbrev pub Spaced : Waits → List Label → Type 0
  Spaced waits [] = Unit {0}
  Spaced waits (Arrived irq ∷ labels) =
      (every : ℕ) × (every_of limits irq ≡ Some every) × (waits irq ≡ 0) × Spaced (requested irq every waits) labels
  Spaced waits (Ticked ∷ labels) = Spaced waits labels
  Spaced waits (Rang ∷ labels) = Spaced waits labels
  Spaced waits (Stepped shown ∷ labels) = Spaced (a_step_on waits) labels

  pub record KeptFrom (waits : Waits) (labels : List Label) : Type 0 where
    pub near : (between behind : List Label) (irq : ℕ) → labels ≡ between ++ Arrived irq ∷ behind
        → waits irq ≤ steps_of between
    pub apart : (front between behind : List Label) (irq every : ℕ) → every_of limits irq ≡ Some every
        → labels ≡ front ++ Arrived irq ∷ (between ++ Arrived irq ∷ behind) → every ≤ steps_of between
    pub limited : (front behind : List Label) (irq : ℕ) → labels ≡ front ++ Arrived irq ∷ behind
        → IsSome (every_of limits irq)

  abbrev behind_it : Label → List Label → List Label
  behind_it label labels = label ∷ labels

  -- behind a label at which nothing is requested
  next : (waits after : Waits) (label : Label) (labels : List Label) → KeptFrom waits (label ∷ labels)
      → ((between : List Label) (irq : ℕ) → waits irq ≤ steps_of (label ∷ between) → after irq ≤ steps_of between)
      → KeptFrom after labels
  next waits after label labels kept nearer = record {
    near = λ between behind irq e.
        nearer between irq (kept.near (label ∷ between) behind irq (ap (behind_it label) e));
    apart = λ front between behind irq every row e.
        kept.apart (label ∷ front) between behind irq every row (ap (behind_it label) e);
    limited = λ front behind irq e. kept.limited (label ∷ front) behind irq (ap (behind_it label) e);
  }

  one_less : (n m : ℕ) → n ≤ suc m → n - 1 ≤ m
  one_less n m h = omega arith

  -- behind a request
  behind_request : (waits : Waits) (i every : ℕ) (labels : List Label) → KeptFrom waits (Arrived i ∷ labels)
      → every_of limits i ≡ Some every → KeptFrom (requested i every waits) labels
  behind_request waits i every labels kept row = record {
    near = λ between behind irq e. by between behind irq e (irq == i) refl;
    apart = λ front between behind irq n row e.
        kept.apart (Arrived i ∷ front) between behind irq n row (ap (behind_it (Arrived i)) e);
    limited = λ front behind irq e. kept.limited (Arrived i ∷ front) behind irq (ap (behind_it (Arrived i)) e);
  }
    where
      by : (between behind : List Label) (irq : ℕ) → labels ≡ between ++ Arrived irq ∷ behind → (b : Bool)
          → (irq == i) ≡ b → (if b then every else waits irq) ≤ steps_of between
      by between behind irq e true test =
          kept.apart [] between behind i every row
          (ap (behind_it (Arrived i)) (e ∙ ap (λ j. between ++ Arrived j ∷ behind) (eqb-true irq i test)))
      by between behind irq e false test =
          kept.near (Arrived i ∷ between) behind irq (ap (behind_it (Arrived i)) e)

  pub spaced : (labels : List Label) (waits : Waits) → KeptFrom waits labels → Spaced waits labels
  spaced [] waits kept = tt
  spaced (Ticked ∷ labels) waits kept =
      spaced labels waits (next waits waits Ticked labels kept (λ between irq h. h))
  spaced (Rang ∷ labels) waits kept =
      spaced labels waits (next waits waits Rang labels kept (λ between irq h. h))
  spaced (Stepped shown ∷ labels) waits kept =
      spaced labels (a_step_on waits)
      (next waits (a_step_on waits) (Stepped shown) labels kept
      (λ between irq h. one_less (waits irq) (steps_of between) h))
  spaced (Arrived i ∷ labels) waits kept =
      let row = is_there (every_of limits i) (kept.limited [] labels i refl) in
      let now : waits i ≤ 0 = kept.near [] labels i refl in (
        row.0,
        row.1,
        omega arith,
        spaced labels (requested i row.0 waits)
            (behind_request waits i row.0 labels kept row.1),
      )

  -- Behind the end of `init` requests keep the limits, and what is pending now counts as requested at the end, like
  -- what will be requested before it.
  pub record KeptSince (pending : List Bool) (during behind : List Label) : Type 0 where
    pub apart : (front between rest : List Label) (irq every : ℕ) → every_of limits irq ≡ Some every
        → behind ≡ front ++ Arrived irq ∷ (between ++ Arrived irq ∷ rest) → every ≤ steps_of between
    pub near : (between rest : List Label) (irq every : ℕ) → every_of limits irq ≡ Some every
        → (slice_index_or pending irq false ≡ true) ⊎ Contains during (Arrived irq)
        → behind ≡ between ++ Arrived irq ∷ rest → every ≤ steps_of between

  -- while `init` runs
  pub record KeptYet (pending : List Bool) (labels : List Label) : Type 0 where
    pub from_end : (during behind : List Label) → InitEnds labels during behind → KeptSince pending during behind
    pub limited : (front behind : List Label) (irq : ℕ) → labels ≡ front ++ Arrived irq ∷ behind
        → IsSome (every_of limits irq)
    pub pending_limited : (irq : ℕ) → slice_index_or pending irq false ≡ true → IsSome (every_of limits irq)

  -- behind a label at which it does not end, and which makes nothing pending but what it requests
  pub yet_on : (pending after : List Bool) (label : Label) (labels : List Label) → ¬ (label ≡ end_of_init)
      → ((irq : ℕ) → slice_index_or after irq false ≡ true
      → (slice_index_or pending irq false ≡ true) ⊎ (label ≡ Arrived irq))
      → KeptYet pending (label ∷ labels) → KeptYet after labels
  yet_on pending after label labels other older kept = record {
    from_end = λ during behind ends.
        let since = kept.from_end (label ∷ during) behind (ends_on label labels during behind other ends) in
        record {
          apart = since.apart;
          near = λ between rest irq every row asked is.
              since.near between rest irq every row (earlier during irq asked) is;
        };
    limited = λ front behind irq e. kept.limited (label ∷ front) behind irq (ap (behind_it label) e);
    pending_limited = λ irq set. has_limit irq (older irq set);
  }
    where
      has_limit : (irq : ℕ) → (slice_index_or pending irq false ≡ true) ⊎ (label ≡ Arrived irq)
          → IsSome (every_of limits irq)
      has_limit irq (inl before) = kept.pending_limited irq before
      has_limit irq (inr is) = kept.limited [] labels irq (ap (λ l. l ∷ labels) is)

      now_or_before : (during : List Label) (irq : ℕ)
          → (slice_index_or pending irq false ≡ true) ⊎ (label ≡ Arrived irq)
          → (slice_index_or pending irq false ≡ true) ⊎ Contains (label ∷ during) (Arrived irq)
      now_or_before during irq (inl before) = inl before
      now_or_before during irq (inr is) =
          inr (subst (λ l. Contains (l ∷ during) (Arrived irq)) (sym is) (contains_here (Arrived irq) during))

      earlier : (during : List Label) (irq : ℕ)
          → (slice_index_or after irq false ≡ true) ⊎ Contains during (Arrived irq)
          → (slice_index_or pending irq false ≡ true) ⊎ Contains (label ∷ during) (Arrived irq)
      earlier during irq (inl set) = now_or_before during irq (older irq set)
      earlier during irq (inr there) = inr (contains_there label during (Arrived irq) there)

  -- what is pending as `init` ends has to wait as if it were requested there
  abbrev pub pending_waits : List Bool → Waits
  pending_waits pending irq = if slice_index_or pending irq false then or_zero (every_of limits irq) else 0

  pub spaced_from_end : (pending : List Bool) (behind : List Label) → KeptYet pending (end_of_init ∷ behind)
      → Spaced (pending_waits pending) behind
  spaced_from_end pending behind kept = spaced behind (pending_waits pending) (record {
    near = λ between rest irq e. by between rest irq e (slice_index_or pending irq false) refl;
    apart = since.apart;
    limited = λ front rest irq e.
        kept.limited (end_of_init ∷ front) rest irq (ap (behind_it end_of_init) e);
  })
    where
      since : KeptSince pending [] behind
      since = kept.from_end [] behind (record { parts = refl; first_end = contains_none end_of_init })

      by : (between rest : List Label) (irq : ℕ) → behind ≡ between ++ Arrived irq ∷ rest → (b : Bool)
          → slice_index_or pending irq false ≡ b
          → (if b then or_zero (every_of limits irq) else 0) ≤ steps_of between
      by between rest irq e false clear = omega arith
      by between rest irq e true set = of (every_of limits irq) refl
        where
          of : (o : Option ℕ) → every_of limits irq ≡ o → or_zero o ≤ steps_of between
          of None row = omega arith
          of (Some every) row = since.near between rest irq every row (inl set) e

pub none_set : (n k : ℕ) → slice_index_or (replicate n false) k false ≡ false
none_set zero k = refl
none_set (suc n) zero = refl
none_set (suc n) (suc k) = none_set n k

-- at reset nothing is pending
pub kept_yet : (limits : List Limit) (n : ℕ) (labels : List Label) → KeptOnceInitEnds limits labels
    → KeptYet limits (replicate n false) labels
kept_yet limits n labels kept = record {
  from_end = λ during behind ends.
      let from = kept.from_end during behind ends in
      record {
        apart = from.apart;
        near = λ between rest irq every row asked is.
            from.apart_from_end between rest irq every row (requested_in during irq asked) is;
      };
  limited = kept.limited;
  pending_limited = λ irq set. absurd (nothing irq set);
}
  where
    nothing : (irq : ℕ) → ¬ (slice_index_or (replicate n false) irq false ≡ true)
    nothing irq set = true_and_false (slice_index_or (replicate n false) irq false) set (none_set n irq)

    requested_in : (during : List Label) (irq : ℕ)
        → (slice_index_or (replicate n false) irq false ≡ true) ⊎ Contains during (Arrived irq)
        → Contains during (Arrived irq)
    requested_in during irq (inl set) = absurd (nothing irq set)
    requested_in during irq (inr there) = there
