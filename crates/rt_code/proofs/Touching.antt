-- What an instruction does to the cells and to the size of its frame, and how it depends on the cells.
use Rattle.std.proofs.Common.{◌≡◌, ◌≢◌, ℕ, zero, suc, ◌+◌, ◌&&◌, ◌==◌, Bool, true, false, nat_le, nat_lt, if◌then◌else◌}
use Rattle.std.proofs.Common.{Option, Some, option_map, List, [], ◌∷◌, length, slice_get, slice_index, slice_set, refl}
use Rattle.std.proofs.Common.{sym, ap, ◌∙◌, arith, length-set, None, subst}
use Rattle.std.specs.List.{list_all}
use Rattle.std.specs.Option.{option_to_list}
use Rattle.std.proofs.lemmas.Bool.{ltb-true}
use Rattle.std.proofs.lemmas.Option.{slice_get-get_or, unwrap_or-slice_get}
use Rattle.std.specs.Prelude.{unwrap_or}
use Rattle.rt_ids.specs.Operation.{number_of}
use Rattle.rt_code.specs.Access.{Access, Loads, Stores, cell_of, access_of, access_with, cells_of}
use Rattle.rt_code.specs.Operands.{slots_of, are_there}
use Rattle.rt_code.specs.Effect.{slot, next, next_with_slot, unchecked_effect, effect}
use Rattle.rt_code.specs.Processor.{Processor, Effect, Traps, Leads}
use Rattle.rt_code.specs.declared.instr.Instr.{Instr}
use Rattle.rt_code.specs.declared.instr.Instr.TheVariants as instr
use Rattle.rt_code.specs.declared.processor.Request.TheVariants as request
use Rattle.rt_code.specs.declared.processor.Trap.TheVariants as trap
use Rattle.rt_code.proofs.Done.{tested}
use Rattle.rt_lemmas.proofs.Bools.{and_left}

-- a cell that is not written
pub slice_get-set_other : (xs : List ℕ) (c v k : ℕ) → k ≢ c → slice_get (slice_set xs c v) k ≡ slice_get xs k
slice_get-set_other [] c v k h = refl
slice_get-set_other (x ∷ xs) zero v zero h = absurd (h refl)
slice_get-set_other (x ∷ xs) zero v (suc k) h = refl
slice_get-set_other (x ∷ xs) (suc c) v zero h = refl
slice_get-set_other (x ∷ xs) (suc c) v (suc k) h = slice_get-set_other xs c v k (λ e. h (ap suc e))

-- the same word of two lists
pub index_same : (xs ys : List ℕ) (i : ℕ) → slice_get xs i ≡ slice_get ys i → slice_index xs i ≡ slice_index ys i
index_same xs ys i h = sym (unwrap_or-slice_get xs i 0) ∙ ap (λ o. unwrap_or o 0) h ∙ unwrap_or-slice_get ys i 0

-- the first slot that is named is there
slot_there : (p : Processor) (s : ℕ) (rest : List ℕ) → are_there (s ∷ rest) p.slots ≡ true → slice_get p.slots s
    ≡ Some (slot p s)
slot_there p s rest h =
    slice_get-get_or p.slots s 0 (ltb-true s (length p.slots)
    (and_left (nat_lt s (length p.slots)) (are_there rest p.slots) h))

-- the cells, and the words of the frame, after an effect
abbrev pub cells_after : Effect → List ℕ → List ℕ
cells_after (Traps t) cells = cells
cells_after (Leads p asked) cells = p.cells

abbrev pub slots_after : Effect → List ℕ → List ℕ
slots_after (Traps t) slots = slots
slots_after (Leads p asked) slots = p.slots

kept_if : (b s : Bool) (e : Effect) (a : Option Access) (cells : List ℕ) (k : ℕ)
    → access_with (tested e b s) a ≢ Some (Stores k)
    → (s ≡ true → access_with e a ≢ Some (Stores k) → slice_get (cells_after e cells) k ≡ slice_get cells k)
    → slice_get (cells_after (tested e b s) cells) k ≡ slice_get cells k
kept_if true true e a cells k h f = f refl h
kept_if true false e a cells k h f = refl
kept_if false s e a cells k h f = refl

jump_keeps : (b : Bool) (p : Processor) (l : ℕ) → (if b then record p { address = l } else next p).cells ≡ p.cells
jump_keeps true p l = refl
jump_keeps false p l = refl

unmask_keeps : (b set : Bool) (p : Processor)
    → cells_after (if b then Leads (record (next p) { primask = set }) request.Nothing else Traps trap.Stack) p.cells
    ≡ p.cells
unmask_keeps true set p = refl
unmask_keeps false set p = refl

done_keeps : (i : Instr) (time : ℕ) (p : Processor) (k : ℕ) → are_there (slots_of i) p.slots ≡ true
    → access_with (unchecked_effect i time p) (access_of i p) ≢ Some (Stores k)
    → slice_get (cells_after (unchecked_effect i time p) p.cells) k ≡ slice_get p.cells k
done_keeps (instr.Store c s) time p k there h =
    slice_get-set_other p.cells c (slot p s) k (λ e. h (ap (λ n. Some (Stores n)) (sym e)))
done_keeps (instr.StoreAt c s a) time p k there h =
    slice_get-set_other p.cells (c + slot p s) (slot p a) k
    (λ e. h (ap (option_map (λ n. Stores (c + n))) (slot_there p s (a ∷ []) there) ∙ ap (λ n. Some (Stores n)) (sym e)))
done_keeps (instr.JumpZ s l) time p k there h = ap (λ cells. slice_get cells k) (jump_keeps (slot p s == 0) p l)
done_keeps (instr.Unmask s) time p k there h =
    ap (λ cells. slice_get cells k) (unmask_keeps (nat_le (slot p s) 1) (slot p s == 1) p)
done_keeps i time p k there h = refl

-- an instruction changes no cell but the one that it stores
pub cells_kept : (i : Instr) (time : ℕ) (p : Processor) (k : ℕ) → access_with (effect i time p) (access_of i p) ≢ Some
    (Stores k)
    → slice_get (cells_after (effect i time p) p.cells) k ≡ slice_get p.cells k
cells_kept i time p k h =
    kept_if (are_there (cells_of i p) p.cells) (are_there (slots_of i) p.slots) (unchecked_effect i time p)
    (access_of i p) p.cells k h (done_keeps i time p k)

-- a processor with other cells, and an effect with its cells put aside
abbrev pub with_memory : Processor → List ℕ → Processor
with_memory p cells = record p { cells = cells }

abbrev pub aside : Effect → Effect
aside (Traps t) = Traps t
aside (Leads p asked) = Leads (with_memory p []) asked

pub access_same : (i : Instr) (p : Processor) (cells : List ℕ) → access_of i (with_memory p cells) ≡ access_of i p
access_same (instr.Load d c) p cells = refl
access_same (instr.Store c s) p cells = refl
access_same (instr.LoadAt d c s) p cells = refl
access_same (instr.StoreAt c s a) p cells = refl
access_same i p cells = refl

jump_aside : (b : Bool) (p : Processor) (cells : List ℕ) (l : ℕ)
    → aside (Leads (if b then record (with_memory p cells) { address = l } else next (with_memory p cells))
    request.Nothing) ≡ aside (Leads (if b then record p { address = l } else next p) request.Nothing)
jump_aside true p cells l = refl
jump_aside false p cells l = refl

unmask_aside : (b set : Bool) (p : Processor) (cells : List ℕ)
    → aside (if b then Leads (record (next (with_memory p cells)) { primask = set }) request.Nothing else Traps
    trap.Stack)
    ≡ aside (if b then Leads (record (next p) { primask = set }) request.Nothing else Traps trap.Stack)
unmask_aside true set p cells = refl
unmask_aside false set p cells = refl

-- what cells have where an access loads
abbrev pub HaveLoad : Option Access → List ℕ → List ℕ → Type 0
HaveLoad a cells own = (k : ℕ) → a ≡ Some (Loads k) → slice_get cells k ≡ slice_get own k

done_alike : (i : Instr) (time : ℕ) (p : Processor) (cells : List ℕ) → are_there (slots_of i) p.slots ≡ true
    → HaveLoad (access_with (unchecked_effect i time p) (access_of i p)) cells p.cells
    → aside (unchecked_effect i time (with_memory p cells)) ≡ aside (unchecked_effect i time p)
done_alike (instr.Load d c) time p cells there load =
    ap (λ v. aside (Leads (next_with_slot p d v) request.Nothing)) (index_same cells p.cells c (load c refl))
done_alike (instr.LoadAt d c s) time p cells there load =
    ap (λ v. aside (Leads (next_with_slot p d v) request.Nothing))
    (index_same cells p.cells (c + slot p s) (load (c + slot p s)
    (ap (option_map (λ n. Loads (c + n))) (slot_there' p d s there))))
  where
    second_test : (a b : Bool) → (a && b) ≡ true → b ≡ true
    second_test true b h = h
    second_test false b h = absurd (cc)

    slot_there' : (p : Processor) (d s : ℕ) → are_there (d ∷ s ∷ []) p.slots ≡ true → slice_get p.slots s
        ≡ Some (slot p s)
    slot_there' p d s h = slot_there p s [] (second_test (nat_lt d (length p.slots)) (are_there (s ∷ []) p.slots) h)
done_alike (instr.JumpZ s l) time p cells there load = jump_aside (slot p s == 0) p cells l
done_alike (instr.Unmask s) time p cells there load =
    unmask_aside (nat_le (slot p s) 1) (slot p s == 1) p cells
done_alike i time p cells there load = refl

alike_if : (b s : Bool) (e other : Effect) (a : Option Access) (cells own : List ℕ)
    → HaveLoad (access_with (tested e b s) a) cells own
    → (s ≡ true → HaveLoad (access_with e a) cells own → aside other ≡ aside e)
    → aside (tested other b s) ≡ aside (tested e b s)
alike_if true true e other a cells own load f = f refl load
alike_if true false e other a cells own load f = refl
alike_if false s e other a cells own load f = refl

same_tests : (i : Instr) (p : Processor) (cells : List ℕ) → length cells ≡ length p.cells
    → are_there (cells_of i (with_memory p cells)) cells ≡ are_there (cells_of i p) p.cells
same_tests i p cells long =
    ap (λ a. are_there (option_to_list (option_map cell_of a)) cells) (access_same i p cells)
    ∙ ap (λ n. list_all (λ index. nat_lt index n) (cells_of i p)) long

-- on as many cells that agree at what it loads, an instruction has the same effect but for the cells
pub effect_alike : (i : Instr) (time : ℕ) (p : Processor) (cells : List ℕ) → length cells ≡ length p.cells
    → HaveLoad (access_with (effect i time p) (access_of i p)) cells p.cells
    → aside (effect i time (with_memory p cells)) ≡ aside (effect i time p)
effect_alike i time p cells long load =
    ap (λ b. aside (tested (unchecked_effect i time (with_memory p cells)) b (are_there (slots_of i) p.slots)))
    (same_tests i p cells long)
    ∙ alike_if (are_there (cells_of i p) p.cells) (are_there (slots_of i) p.slots) (unchecked_effect i time p)
    (unchecked_effect i time (with_memory p cells)) (access_of i p) cells p.cells load (done_alike i time p cells)

-- the access does not depend on other cells either
access_aside : (e : Effect) (a : Option Access) → access_with e a ≡ access_with (aside e) a
access_aside (Traps t) a = refl
access_aside (Leads p asked) a = refl

pub access_alike : (i : Instr) (time : ℕ) (p : Processor) (cells : List ℕ) → length cells ≡ length p.cells
    → HaveLoad (access_with (effect i time p) (access_of i p)) cells p.cells
    → access_with (effect i time (with_memory p cells)) (access_of i (with_memory p cells))
    ≡ access_with (effect i time p) (access_of i p)
access_alike i time p cells long load =
    ap (access_with (effect i time (with_memory p cells))) (access_same i p cells)
    ∙ access_aside (effect i time (with_memory p cells)) (access_of i p)
    ∙ ap (λ e. access_with e (access_of i p)) (effect_alike i time p cells long load)
    ∙ sym (access_aside (effect i time p) (access_of i p))

-- the cell that is stored, in as many cells
slice_get-set_alike : (xs ys : List ℕ) (c v : ℕ) → length xs ≡ length ys → slice_get (slice_set xs c v) c
    ≡ slice_get (slice_set ys c v) c
slice_get-set_alike [] [] c v h = refl
slice_get-set_alike [] (y ∷ ys) c v h = absurd (omega (arith, h))
slice_get-set_alike (x ∷ xs) [] c v h = absurd (omega (arith, h))
slice_get-set_alike (x ∷ xs) (y ∷ ys) zero v h = refl
slice_get-set_alike (x ∷ xs) (y ∷ ys) (suc c) v h = slice_get-set_alike xs ys c v (omega (arith, h))

unmask_none : (b set : Bool) (p : Processor)
    → access_with (if b then Leads (record (next p) { primask = set }) request.Nothing else Traps trap.Stack) None
    ≡ None
unmask_none true set p = refl
unmask_none false set p = refl

stored_at : (cells own : List ℕ) (c k v : ℕ) → length cells ≡ length own → c ≡ k → slice_get (slice_set cells c v) k
    ≡ slice_get (slice_set own c v) k
stored_at cells own c k v long e =
    subst (λ n. slice_get (slice_set cells c v) n ≡ slice_get (slice_set own c v) n) e
    (slice_get-set_alike cells own c v long)

done_stores : (i : Instr) (time : ℕ) (p : Processor) (cells : List ℕ) (k : ℕ) → length cells ≡ length p.cells
    → are_there (slots_of i) p.slots ≡ true
    → access_with (unchecked_effect i time p) (access_of i p) ≡ Some (Stores k)
    → slice_get (cells_after (unchecked_effect i time (with_memory p cells)) cells) k
    ≡ slice_get (cells_after (unchecked_effect i time p) p.cells) k
done_stores (instr.Store c s) time p cells k long there h = stored_at cells p.cells c k (slot p s) long (cc)
done_stores (instr.StoreAt c s a) time p cells k long there h =
    let at : Some (Stores (c + slot p s)) ≡ Some (Stores k) =
    sym (ap (option_map (λ n. Stores (c + n))) (slot_there p s (a ∷ []) there)) ∙ h in
    stored_at cells p.cells (c + slot p s) k (slot p a) long (cc)
done_stores (instr.LoadAt d c s) time p cells k long there h = absurd (one (slice_get p.slots s) h)
  where
    one : (o : Option ℕ) → option_map (λ n. Loads (c + n)) o ≡ Some (Stores k) → ⊥
    one None h = cc
    one (Some n) h = cc
done_stores (instr.Unmask s) time p cells k long there h =
    let none = unmask_none (nat_le (slot p s) 1) (slot p s == 1) p in absurd (cc)
done_stores i time p cells k long there h = absurd (cc)

stores_if : (b s : Bool) (e other : Effect) (a : Option Access) (cells own : List ℕ) (k : ℕ)
    → access_with (tested e b s) a ≡ Some (Stores k)
    → (s ≡ true → access_with e a ≡ Some (Stores k) → slice_get (cells_after other cells) k
    ≡ slice_get (cells_after e own) k)
    → slice_get (cells_after (tested other b s) cells) k ≡ slice_get (cells_after (tested e b s) own) k
stores_if true true e other a cells own k h f = f refl h
stores_if true false e other a cells own k h f = absurd (cc)
stores_if false s e other a cells own k h f = absurd (cc)

-- on as many cells, what an instruction stores is the same
pub stores_alike : (i : Instr) (time : ℕ) (p : Processor) (cells : List ℕ) (k : ℕ) → length cells ≡ length p.cells
    → access_with (effect i time p) (access_of i p) ≡ Some (Stores k)
    → slice_get (cells_after (effect i time (with_memory p cells)) cells) k
    ≡ slice_get (cells_after (effect i time p) p.cells) k
stores_alike i time p cells k long h =
    ap (λ b. slice_get (cells_after (tested (unchecked_effect i time (with_memory p cells)) b
    (are_there (slots_of i) p.slots)) cells) k) (same_tests i p cells long)
    ∙ stores_if (are_there (cells_of i p) p.cells) (are_there (slots_of i) p.slots) (unchecked_effect i time p)
    (unchecked_effect i time (with_memory p cells)) (access_of i p) cells p.cells k h
    (done_stores i time p cells k long)

sized_if : (b s : Bool) (e : Effect) (slots : List ℕ) → length (slots_after e slots) ≡ length slots
    → length (slots_after (tested e b s) slots) ≡ length slots
sized_if true true e slots h = h
sized_if true false e slots h = refl
sized_if false s e slots h = refl

jump_sized : (b : Bool) (p : Processor) (l : ℕ) → length (if b then record p { address = l } else next p).slots
    ≡ length p.slots
jump_sized true p l = refl
jump_sized false p l = refl

unmask_sized : (b set : Bool) (p : Processor)
    → length (slots_after (if b then Leads (record (next p) { primask = set }) request.Nothing else Traps trap.Stack)
    p.slots) ≡ length p.slots
unmask_sized true set p = refl
unmask_sized false set p = refl

done_sized : (i : Instr) (time : ℕ) (p : Processor) → length (slots_after (unchecked_effect i time p) p.slots)
    ≡ length p.slots
done_sized (instr.Set d v) time p = length-set p.slots d v
done_sized (instr.Copy d s) time p = length-set p.slots d _
done_sized (instr.Calc op d a b) time p = length-set p.slots d _
done_sized (instr.Load d c) time p = length-set p.slots d _
done_sized (instr.LoadAt d c s) time p = length-set p.slots d _
done_sized (instr.JumpZ s l) time p = jump_sized (slot p s == 0) p l
done_sized (instr.Clock d) time p = length-set p.slots d time
done_sized (instr.Raise d v) time p = length-set p.slots d p.basepri
done_sized (instr.Mask d) time p = length-set p.slots d (number_of p.primask)
done_sized (instr.Unmask s) time p = unmask_sized (nat_le (slot p s) 1) (slot p s == 1) p
done_sized i time p = refl

-- an instruction keeps the size of the frame
pub slots_sized : (i : Instr) (time : ℕ) (p : Processor) → length (slots_after (effect i time p) p.slots)
    ≡ length p.slots
slots_sized i time p =
    sized_if (are_there (cells_of i p) p.cells) (are_there (slots_of i) p.slots) (unchecked_effect i time p) p.slots
    (done_sized i time p)

kept_sized_if : (b s : Bool) (e : Effect) (cells : List ℕ) → length (cells_after e cells) ≡ length cells
    → length (cells_after (tested e b s) cells) ≡ length cells
kept_sized_if true true e cells h = h
kept_sized_if true false e cells h = refl
kept_sized_if false s e cells h = refl

done_kept_sized : (i : Instr) (time : ℕ) (p : Processor) → length (cells_after (unchecked_effect i time p) p.cells)
    ≡ length p.cells
done_kept_sized (instr.Store c s) time p = length-set p.cells c _
done_kept_sized (instr.StoreAt c s a) time p = length-set p.cells _ _
done_kept_sized (instr.JumpZ s l) time p = ap length (jump_keeps (slot p s == 0) p l)
done_kept_sized (instr.Unmask s) time p = ap length (unmask_keeps (nat_le (slot p s) 1) (slot p s == 1) p)
done_kept_sized i time p = refl

-- an instruction keeps the size of memory
pub cells_sized : (i : Instr) (time : ℕ) (p : Processor) → length (cells_after (effect i time p) p.cells)
    ≡ length p.cells
cells_sized i time p =
    kept_sized_if (are_there (cells_of i p) p.cells) (are_there (slots_of i) p.slots) (unchecked_effect i time p)
    p.cells (done_kept_sized i time p)

-- the access goes by the slots alone
pub access_masked : (i : Instr) (p : Processor) (basepri : ℕ) (primask : Bool)
    → access_of i (record p { basepri = basepri; primask = primask }) ≡ access_of i p
access_masked (instr.Load d c) p basepri primask = refl
access_masked (instr.Store c s) p basepri primask = refl
access_masked (instr.LoadAt d c s) p basepri primask = refl
access_masked (instr.StoreAt c s a) p basepri primask = refl
access_masked i p basepri primask = refl
