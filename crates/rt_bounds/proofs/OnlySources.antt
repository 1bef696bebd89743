-- From the sources of an address, whether it is come to from one alone.
use Rattle.std.proofs.Common.{◌≡◌, ◌≢◌, ◌⊎◌, ◌<◌, ◌==◌, ◌&&◌, ℕ, true, false, List, length, slice_get}
use Rattle.std.proofs.Common.{Option, Some, None, refl, sym, ap, subst, ◌∙◌, inl, inr, ⊎_elim, arith}
use Rattle.rt_lemmas.proofs.Indices.{there_is}
use Rattle.rt_code.specs.Image.{Image}
use Rattle.rt_code.specs.declared.instr.Instr.{Instr}
use Rattle.rt_code.specs.declared.instr.Instr.TheVariants as instr
use Rattle.rt_points.specs.Leading.{Leads, owner_after}
use Rattle.rt_points.specs.declared.point.Owner.{Owner}
use Rattle.rt_points.specs.declared.point.Owner.TheVariants.{Starting, Thread}
use Rattle.rt_bounds.specs.Holding.{ComesFrom, ComesOnlyFrom}
use Rattle.rt_bounds.specs.Inside.Sources.{AreEnds, AreSources, BeginsHere, IsSource, is_only, nowhere}
use Rattle.rt_bounds.specs.declared.sources.Sources.{Sources}

-- whoever runs behind an instruction ran before it, or it was someone else
pub mine_or_not : (i : Instr) (before owner : Owner) → owner ≡ owner_after i before → (before ≡ owner) ⊎ (before ≢ owner)
mine_or_not instr.Serve Starting owner is = inr (λ e. let f : Starting ≡ Thread = e ∙ is in cc)
mine_or_not i before owner is = inl (sym is)

both_true : (a b c : ℕ) → a ≡ c → b ≡ c → (a == c) && (b == c) ≡ true
both_true a b c one other = grind (arith, one, other)

first_true : (a b c : ℕ) → (a == c) && (b == c) ≡ true → a ≡ c
first_true a b c is = grind (arith, is)

second_true : (a b c : ℕ) → (a == c) && (b == c) ≡ true → b ≡ c
second_true a b c is = grind (arith, is)

module _ (img : Image) (owner : Owner) (rows : List Sources) (sources : AreSources img owner rows) where
  -- where an owner begins there are two ends
  no_start : (from to : ℕ) (row : Sources) → AreEnds (λ f. IsSource img owner f to) row → row.lowest ≡ from
      → row.highest ≡ from → BeginsHere img owner to → ⊥
  no_start from to row ends low high begins =
      let one = ends.low 0 (inr (inl refl, begins)) in
      let other = ends.high nowhere (inr (inr refl, begins)) in
      absurd (omega (arith, one, other, low, high))

  by_ends : (from to : ℕ) (row : Sources) → AreEnds (λ f. IsSource img owner f to) row → row.lowest ≡ from
      → row.highest ≡ from → ComesOnlyFrom img owner from to
  by_ends from to row ends low high = record {
    comes = ⊎_elim
        (λ comes. subst (λ (f : ℕ). ComesFrom img owner f to) low comes)
        (λ extreme. absurd (no_start from to row ends low high extreme.1))
        ends.is_low;
    begins = λ begins. no_start from to row ends low high (inl begins);
    alone = λ p q point leads mine here. ⊎_elim
        (λ before.
        let comes : ComesFrom img owner p.address to = record {
          before = p;
          after = q;
          point = point;
          mine = before;
          leads = leads;
          still_mine = mine;
          from_there = refl;
          to_here = here;
        } in
        let one = ends.low p.address (inl comes) in
        let other = ends.high p.address (inl comes) in
        (before, (let e : p.address ≡ from = omega (arith, one, other, low, high) in e)))
        (λ other. absurd (no_start from to row ends low high (inr (p, q, point, leads, other, mine, here))))
        (mine_or_not leads.line.0 p.owner owner (sym mine ∙ leads.owner));
  }

  by_row : (from to : ℕ) (o : Option Sources) → slice_get rows to ≡ o → is_only from o ≡ true
      → ComesOnlyFrom img owner from to
  by_row from to None is only = absurd cc
  by_row from to (Some row) is only =
      let low = first_true row.lowest row.highest from only in
      let high = second_true row.lowest row.highest from only in
      ⊎_elim
      (λ nobody. let a = nobody.1 in let b = nobody.2 in absurd (omega (arith, a, b, low, high)))
      (λ ends. by_ends from to row ends low high)
      (sources.1.each to row is)

  pub only_so : (from to : ℕ) → is_only from (slice_get rows to) ≡ true → ComesOnlyFrom img owner from to
  only_so from to only = by_row from to (slice_get rows to) refl only

  -- a source is the one that there is
  the_one : (from to source : ℕ) → ComesOnlyFrom img owner from to → IsSource img owner source to → source ≡ from
  the_one from to source only (inl comes) =
      let there = only.alone comes.before comes.after comes.point comes.leads comes.still_mine comes.to_here in
      sym comes.from_there ∙ there.1
  the_one from to source only (inr extreme) = ⊎_elim
      (λ begins. absurd (only.begins begins))
      (λ other. absurd (other.4 (only.alone other.0 other.1 other.2 other.3 other.5 other.6).0))
      extreme.1

  from_row : (from to : ℕ) → ComesOnlyFrom img owner from to → (row : Sources) → slice_get rows to ≡ Some row
      → is_only from (slice_get rows to) ≡ true
  from_row from to only row is = ap (is_only from) is ∙ ⊎_elim
      (λ nobody. absurd (nobody.0 from (inl only.comes)))
      (λ ends. both_true row.lowest row.highest from (the_one from to row.lowest only ends.is_low)
      (the_one from to row.highest only ends.is_high))
      (sources.1.each to row is)

  within : (from to : ℕ) → ComesFrom img owner from to → to < length rows
  within from to comes =
      let here = sources.0 comes.after (Leads comes.before comes.after comes.point comes.leads) in
      let same = comes.to_here in
      let size = sources.1.size in
      omega (arith, here, same, size)

  pub so_only : (from to : ℕ) → ComesOnlyFrom img owner from to → is_only from (slice_get rows to) ≡ true
  so_only from to only =
      let row = there_is rows to (within from to only.comes) in
      from_row from to only row.0 row.1

  pub not_only : (from to : ℕ) → is_only from (slice_get rows to) ≡ false → ¬ ComesOnlyFrom img owner from to
  not_only from to is = λ only. let so = so_only from to only in cc
