-- An instruction on memory as others may have left it does the same, and leaves the same of what is the job's own.
use Rattle.std.proofs.Common.{◌≡◌, ◌≢◌, ℕ, zero, suc, ◌==◌, ◌⊎◌, inl, inr, Bool, true, false, List, [], ◌∷◌, length}
use Rattle.std.proofs.Common.{slice_get, slice_index, Option, Some, None, refl, sym, ap, subst, ◌∙◌, arith}
use Rattle.std.proofs.lemmas.Bool.Decides.{eqb_tells}
use Rattle.rt_actions.specs.Entry.{Entry}
use Rattle.rt_actions.specs.Location.{Location}
use Rattle.rt_actions.specs.Storage.{Storage, Runner}
use Rattle.rt_code.specs.Access.{Access, Loads, Stores, access_of, access_with}
use Rattle.rt_code.specs.Effect.{effect}
use Rattle.rt_code.specs.Owning.{Configuration, MayLoad, MayAccess, LeavesMine}
use Rattle.rt_code.specs.Processor.{Processor, Effect, Traps, Leads}
use Rattle.rt_code.specs.Standing.{processor_of}
use Rattle.rt_code.specs.declared.instr.Instr.{Instr}
use Rattle.rt_code.proofs.Mine.{may_load}
use Rattle.rt_code.proofs.Left.{mine_left}
use Rattle.rt_code.proofs.Touching.{HaveLoad, with_memory, aside, cells_after, access_masked, access_alike}
use Rattle.rt_code.proofs.Touching.{effect_alike, stores_alike, cells_kept, cells_sized, index_same}

-- whether an access stores at this cell
stores_at : (a : Option Access) (c : ℕ) → (a ≡ Some (Stores c)) ⊎ (a ≢ Some (Stores c))
stores_at None c = inr (λ e. cc)
stores_at (Some (Loads k)) c = inr (λ e. cc)
stores_at (Some (Stores k)) c = two (eqb_tells k c)
  where
    two : (((k == c) ≡ true) × (k ≡ c)) ⊎ (((k == c) ≡ false) × (k ≢ c)) → (Some (Stores k) ≡ Some (Stores c))
        ⊎ (Some (Stores k) ≢ Some (Stores c))
    two (inl (test, same)) = inl (ap (λ n. Some (Stores n)) same)
    two (inr (test, other)) = inr (λ e. other (cc))

get_same : (xs ys : List ℕ) (k : ℕ) → length xs ≡ length ys → slice_index xs k ≡ slice_index ys k → slice_get xs k
    ≡ slice_get ys k
get_same [] [] k long same = refl
get_same [] (y ∷ ys) k long same = absurd (omega (arith, long))
get_same (x ∷ xs) [] k long same = absurd (omega (arith, long))
get_same (x ∷ xs) (y ∷ ys) zero long same = ap (λ v. Some v) same
get_same (x ∷ xs) (y ∷ ys) (suc k) long same = get_same xs ys k (omega (arith, long)) same

-- on as many cells that are the same at what it loads, what an instruction leaves in a cell that was the same is the
-- same
cell_after : (i : Instr) (time : ℕ) (p : Processor) (cells : List ℕ) (c : ℕ) → length cells ≡ length p.cells
    → HaveLoad (access_with (effect i time p) (access_of i p)) cells p.cells
    → slice_get cells c ≡ slice_get p.cells c
    → slice_get (cells_after (effect i time (with_memory p cells)) cells) c
    ≡ slice_get (cells_after (effect i time p) p.cells) c
cell_after i time p cells c long load same = two (stores_at (access_with (effect i time p) (access_of i p)) c)
  where
    two : (access_with (effect i time p) (access_of i p) ≡ Some (Stores c))
        ⊎ (access_with (effect i time p) (access_of i p) ≢ Some (Stores c))
        → slice_get (cells_after (effect i time (with_memory p cells)) cells) c
        ≡ slice_get (cells_after (effect i time p) p.cells) c
    two (inl stores) = stores_alike i time p cells c long stores
    two (inr other) =
        cells_kept i time (with_memory p cells) c (λ e. other (sym (access_alike i time p cells long load) ∙ e)) ∙ same
        ∙ sym (cells_kept i time p c other)

of_access : (e : Effect) (a : Option Access) (k : ℕ) → access_with e a ≡ Some (Loads k) → a ≡ Some (Loads k)
of_access (Traps t) a k h = absurd (cc)
of_access (Leads p asked) a k h = h

module _ (st : Storage) (who : Runner) where
  -- it may touch the same
  pub access_left : (s : Configuration) (cells : List ℕ) (queues : Location → List Entry) (a : Option Access)
      → LeavesMine st who s cells queues
      → MayAccess st who s a → MayAccess st who (record s { cells = cells; queues = queues }) a
  access_left s cells queues None over may = tt
  access_left s cells queues (Some (Loads c)) over may =
      may_load st who s (record s { cells = cells; queues = queues }) (st.home c) (λ h read. read)
      (λ e some. let same = mine_left st who s cells cells queues e over in omega arith) may
  access_left s cells queues (Some (Stores c)) over may = may

  -- what an instruction loads is as it was
  pub load_left : (s : Configuration) (cells : List ℕ) (queues : Location → List Entry) (a : Option Access)
      → LeavesMine st who s cells queues → MayAccess st who s a
      → HaveLoad a cells s.cells
  load_left s cells queues a over may k loads =
      get_same cells s.cells k over.long (over.touched k (subst (λ a. MayAccess st who s a) loads may))

  -- the parts of what an instruction leaves
  pub record SameDone (s : Configuration) (cells : List ℕ) (one other : Effect) : Type 0 where
    pub alike : aside other ≡ aside one
    pub long : length (cells_after other cells) ≡ length (cells_after one s.cells)
    pub touched : (c : ℕ) → MayLoad st who s (st.home c) → slice_index (cells_after other cells) c
        ≡ slice_index (cells_after one s.cells) c

  pub same_done : (i : Instr) (time basepri : ℕ) (primask : Bool) (s : Configuration) (cells : List ℕ)
      (queues : Location → List Entry) → LeavesMine st who s cells queues
      → MayAccess st who s (access_of i (processor_of s 0 false))
      → SameDone s cells (effect i time (processor_of s basepri primask))
      (effect i time (with_memory (processor_of s basepri primask) cells))
  same_done i time basepri primask s cells queues over may =
      let p : Processor = processor_of s basepri primask in
      let at : MayAccess st who s (access_of i p) = subst (λ a. MayAccess st who s a)
      (sym (access_masked i (processor_of s 0 false) basepri primask)) may in
      let load : HaveLoad (access_with (effect i time p) (access_of i p)) cells s.cells =
      λ k loads. load_left s cells queues (access_of i p) over at k
      (of_access (effect i time p) (access_of i p) k loads) in record {
        alike = effect_alike i time p cells over.long load;
        long = cells_sized i time (with_memory p cells) ∙ over.long ∙ sym (cells_sized i time p);
        touched = λ c mine. index_same _ _ c (cell_after i time p cells c over.long load
            (get_same cells s.cells c over.long (over.touched c mine)));
      }
