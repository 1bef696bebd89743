-- Memories that are alike but for some cells, and steps of a core that touch none of these.
use Rattle.std.proofs.Common.{◌≡◌, ◌≢◌, ◌⊎◌, ℕ, zero, suc, ◌==◌, inl, inr, true, false, List, [], ◌∷◌, length}
use Rattle.std.proofs.Common.{slice_get, slice_index, slice_set, length-set, Option, Some, None, refl, sym, ap, subst}
use Rattle.std.proofs.Common.{◌∙◌, arith}
use Rattle.std.proofs.lemmas.Bool.Decides.{eqb_tells}
use Rattle.std.proofs.lemmas.Option.{same_Some, none-some}
use Rattle.rt_code.specs.Access.{Access, Loads, Stores}
use Rattle.rt_code.specs.Image.{Image}
use Rattle.rt_code.proofs.Touching.{index_same, slice_get-set_other}
use Rattle.rt_core.specs.Access.{access}
use Rattle.rt_core.specs.Core.{Core}
use Rattle.rt_core.specs.Stepping.{step}
use Rattle.rt_core.specs.Touching.{with_cells, without_value, StepsAlike}
use Rattle.rt_core.proofs.Loading.{depends_on_its_load_alone}
use Rattle.rt_core.proofs.Storing.{changes_its_cell_alone}

-- memories with the same in each cell
pub same_cells : (cells others : List ℕ) → ((k : ℕ) → slice_get others k ≡ slice_get cells k) → others ≡ cells
same_cells [] [] same = refl
same_cells [] (y ∷ ys) same = absurd (none-some y (sym (same 0)))
same_cells (x ∷ xs) [] same = absurd (none-some x (same 0))
same_cells (x ∷ xs) (y ∷ ys) same =
    ap (λ z. z ∷ ys) (same_Some y x (same 0)) ∙ ap (λ zs. x ∷ zs) (same_cells xs ys (λ k. same (suc k)))

-- a cell that is put back
pub put_back : (cells others : List ℕ) (k : ℕ) → length others ≡ length cells
    → slice_get (slice_set others k (slice_index cells k)) k ≡ slice_get cells k
put_back [] [] k long = refl
put_back [] (y ∷ ys) k long = absurd (omega (arith, long))
put_back (x ∷ xs) [] k long = absurd (omega (arith, long))
put_back (x ∷ xs) (y ∷ ys) zero long = refl
put_back (x ∷ xs) (y ∷ ys) (suc k) long = put_back xs ys k (omega (arith, long))

-- what a cell holds is put there again, behind another word
pub put_again : (cells : List ℕ) (k word : ℕ) → slice_set (slice_set cells k word) k (slice_index cells k) ≡ cells
put_again [] k word = refl
put_again (x ∷ xs) zero word = refl
put_again (x ∷ xs) (suc k) word = ap (λ zs. x ∷ zs) (put_again xs k word)

-- words of some kind, by their cells
module _ (W : ℕ → ℕ → Type 0) where
  -- cells as others are, but for those that are free, which have words of some kind
  pub record AreAlikeBut (IsFree : ℕ → Type 0) (cells others : List ℕ) : Type 0 where
    pub long : length others ≡ length cells
    pub each : (k : ℕ) → (slice_get others k ≡ slice_get cells k) ⊎ (IsFree k × W k (slice_index others k))

  -- what is the same in a cell is of the same kind
  pub same_kind : (cells others : List ℕ) (k : ℕ) → slice_get others k ≡ slice_get cells k
      → W k (slice_index cells k) → W k (slice_index others k)
  same_kind cells others k same is = subst (W k) (sym (index_same others cells k same)) is

  pub themselves : (IsFree : ℕ → Type 0) (cells : List ℕ) → AreAlikeBut IsFree cells cells
  themselves IsFree cells = record { long = refl; each = λ k. inl refl }

  -- where more are free
  pub freer : (IsFree Frees : ℕ → Type 0) → ((k : ℕ) → IsFree k → Frees k) → (cells others : List ℕ)
      → AreAlikeBut IsFree cells others → AreAlikeBut Frees cells others
  freer IsFree Frees more cells others alike = record {
    long = alike.long;
    each = λ k. elim (alike.each k) [ inl same ↦ inl same | inr free ↦ inr (more k free.0, free.1) ];
  }

  -- where the same is free of some that are alike
  pub alike_through : (IsFree : ℕ → Type 0) (cells others last : List ℕ) → AreAlikeBut IsFree cells others
      → AreAlikeBut IsFree others last → AreAlikeBut IsFree cells last
  alike_through IsFree cells others last first second = record {
    long = second.long ∙ first.long;
    each = λ k. elim (second.each k) [
      | inl same ↦ elim (first.each k) [
        | inl before ↦ inl (same ∙ before)
        | inr free ↦ inr (free.0, same_kind others last k same free.1)
      ]
      | inr free ↦ inr free
    ];
  }

  -- where none is free
  pub none_free : (IsFree : ℕ → Type 0) → ((k : ℕ) → IsFree k → ⊥) → (cells others : List ℕ)
      → AreAlikeBut IsFree cells others → others ≡ cells
  none_free IsFree none cells others alike =
      same_cells cells others
      (λ k. elim (alike.each k) [ inl same ↦ same | inr free ↦ absurd (none k free.0) ])

  -- where a cell is put back, and is free no more
  pub put_alike : (IsFree Frees : ℕ → Type 0) (before cells : List ℕ) (k : ℕ)
      → ((j : ℕ) → k ≢ j → IsFree j → Frees j) → AreAlikeBut IsFree before cells
      → AreAlikeBut Frees before (slice_set cells k (slice_index before k))
  put_alike IsFree Frees before cells k others alike = record {
    long = length-set cells k (slice_index before k) ∙ alike.long;
    each = λ j. by j (eqb_tells k j);
  }
    where
      put : List ℕ
      put = slice_set cells k (slice_index before k)

      by : (j : ℕ) → (((k == j) ≡ true) × (k ≡ j)) ⊎ (((k == j) ≡ false) × (k ≢ j))
          → (slice_get put j ≡ slice_get before j) ⊎ (Frees j × (W j (slice_index put j)))
      by j (inl same) =
          inl (subst (λ i. slice_get put i ≡ slice_get before i) same.1 (put_back before cells k alike.long))
      by j (inr other) =
          let left = slice_get-set_other cells k (slice_index before k) j (λ same. other.1 (sym same)) in
          elim (alike.each j) [
            | inl is ↦ inl (left ∙ is)
            | inr free ↦ inr (others j other.1 free.0, same_kind cells put j left free.1)
          ]

  -- a step that touches no free cell
  module _ (img : Image) (c : Core) (IsFree : ℕ → Type 0)
      (unloaded : (k : ℕ) → IsFree k → access img c ≢ Some (Loads k))
      (unstored : (k : ℕ) → IsFree k → access img c ≢ Some (Stores k))
      (kept : length (step img c).0.processor.cells ≡ length c.processor.cells) where
    -- a memory before it, that leads to one behind it
    pub record MemoryBefore (others : List ℕ) : Type 0 where
      pub before : List ℕ
      pub alike : AreAlikeBut IsFree c.processor.cells before
      pub core : (step img (with_cells c before)).0 ≡ with_cells (step img c).0 others
      pub shown : without_value (step img (with_cells c before)).1 ≡ without_value (step img c).1

    module _ (others : List ℕ) (behind : AreAlikeBut IsFree (step img c).0.processor.cells others) where
      comes_by : (before : List ℕ) → AreAlikeBut IsFree c.processor.cells before
          → ((k : ℕ) → (access img c ≡ Some (Stores k)) ⊎ (access img c ≢ Some (Stores k)))
          → ((k : ℕ) → access img c ≢ Some (Stores k) → slice_get before k ≡ slice_get others k) → MemoryBefore others
      comes_by before alike stores same = record {
        before = before;
        alike = alike;
        core = ap (λ (d : Core). with_cells d (step img (with_cells c before)).0.processor.cells) steps.core
            ∙ ap (λ cells. with_cells (step img c).0 cells)
            (same_cells others (step img (with_cells c before)).0.processor.cells
            (λ k. by k (stores k)));
        shown = steps.shown;
      }
        where
          steps : StepsAlike img c before
          steps = depends_on_its_load_alone img c before (record {
            long = alike.long;
            load = λ k loads. elim (alike.each k) [ inl is ↦ is | inr free ↦ absurd (unloaded k free.0 loads) ];
          })

          by : (k : ℕ) → (access img c ≡ Some (Stores k)) ⊎ (access img c ≢ Some (Stores k))
              → slice_get (step img (with_cells c before)).0.processor.cells k ≡ slice_get others k
          by k (inl stored) = steps.stored k stored ∙ elim (behind.each k) [
            | inl is ↦ sym is
            | inr free ↦ absurd (unstored k free.0 stored)
          ]
          by k (inr other) =
              changes_its_cell_alone img (with_cells c before) k (λ e. other (sym steps.touched ∙ e)) ∙ same k other

      -- none is stored
      comes_alike : ((k : ℕ) → access img c ≢ Some (Stores k)) → MemoryBefore others
      comes_alike none =
          comes_by others (record {
            long = behind.long ∙ kept;
            each = λ k. elim (behind.each k) [
              | inl is ↦ inl (is ∙ changes_its_cell_alone img c k (none k))
              | inr free ↦ inr free
            ];
          }) (λ k. inr (none k)) (λ k other. refl)

      -- one is
      comes_storing : (j : ℕ) → access img c ≡ Some (Stores j) → MemoryBefore others
      comes_storing j is = comes_by before (record {
        long = length-set others j (slice_index c.processor.cells j) ∙ behind.long ∙ kept;
        each = λ k. near k (eqb_tells j k);
      }) (λ k. stores k (eqb_tells j k)) (λ k other. slice_get-set_other others j (slice_index c.processor.cells j) k
          (λ same. other (is ∙ ap (λ n. Some (Stores n)) (sym same))))
        where
          before : List ℕ
          before = slice_set others j (slice_index c.processor.cells j)

          stored_elsewhere : (k : ℕ) → j ≢ k → access img c ≢ Some (Stores k)
          stored_elsewhere k other e =
              let one : Some (Stores j) ≡ Some (Stores k) = sym is ∙ e in let same : j ≡ k = cc (one) in other same

          stores : (k : ℕ) → (((j == k) ≡ true) × (j ≡ k)) ⊎ (((j == k) ≡ false) × (j ≢ k))
              → (access img c ≡ Some (Stores k)) ⊎ (access img c ≢ Some (Stores k))
          stores k (inl same) = inl (is ∙ ap (λ n. Some (Stores n)) same.1)
          stores k (inr other) = inr (stored_elsewhere k other.1)

          near : (k : ℕ) → (((j == k) ≡ true) × (j ≡ k)) ⊎ (((j == k) ≡ false) × (j ≢ k))
              → (slice_get before k ≡ slice_get c.processor.cells k)
              ⊎ (IsFree k × (W k (slice_index before k)))
          near k (inl same) =
              inl (subst (λ i. slice_get before i ≡ slice_get c.processor.cells i) same.1
              (put_back c.processor.cells others j (behind.long ∙ kept)))
          near k (inr other) =
              let left = slice_get-set_other others j (slice_index c.processor.cells j) k
              (λ same. other.1 (sym same)) in
              elim (behind.each k) [
                | inl as_behind ↦ inl (left ∙ as_behind ∙ changes_its_cell_alone img c k (stored_elsewhere k other.1))
                | inr free ↦ inr (free.0, same_kind others before k left free.1)
              ]

      -- each memory behind it that is alike but for free cells comes of one before it
      pub memory_before : MemoryBefore others
      memory_before = by (access img c) refl
        where
          by : (a : Option Access) → access img c ≡ a → MemoryBefore others
          by None is = comes_alike (λ k e. let one : None ≡ Some (Stores k) = sym is ∙ e in cc (one))
          by (Some (Loads j)) is =
              comes_alike (λ k e. let one : Some (Loads j) ≡ Some (Stores k) = sym is ∙ e in cc (one))
          by (Some (Stores j)) is = comes_storing j is
