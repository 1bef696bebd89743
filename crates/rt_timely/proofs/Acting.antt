-- What a line does to the slots of the job that runs it, and where its jump leads. Nobody else writes them.
use Rattle.std.proofs.Common.{◌≡◌, ◌≢◌, ℕ, suc, ◌<◌, ◌==◌, if◌then◌else◌, List, length, slice_index, slice_set}
use Rattle.std.proofs.Common.{Some, refl, sym, ap, subst, ◌∙◌, get_or-set_same, get_or-set_other}
use Rattle.rt_ids.specs.Operation.{operate}
use Rattle.rt_code.specs.declared.instr.Instr.{Instr}
use Rattle.rt_code.specs.declared.instr.Instr.TheVariants as instr
use Rattle.rt_points.specs.Rules.{written_slot}

-- a slot that an instruction does not write holds what it held
abbrev pub Keeps : Instr → List ℕ → List ℕ → Type 0
Keeps i old new = (s : ℕ) → written_slot i ≢ Some s → slice_index new s ≡ slice_index old s

-- one slot is written, which is there
abbrev pub Writes : ℕ → ℕ → List ℕ → List ℕ → Type 0
Writes d value old new = (new ≡ slice_set old d value) × (d < length old)

-- what an instruction at an address makes of the slots, where it leads to another address
abbrev pub Acts : Instr → ℕ → ℕ → List ℕ → List ℕ → Type 0
Acts (instr.Set d v) at to old new = Writes d v old new
Acts (instr.Calc by d a b) at to old new = Writes d (operate by (slice_index old a) (slice_index old b)) old new
Acts (instr.JumpZ s l) at to old new = (new ≡ old) × (to ≡ (if slice_index old s == 0 then l else suc at))
Acts i at to old new = Keeps i old new

-- the slot that is written holds the value
pub written : (d value : ℕ) (old new : List ℕ) → Writes d value old new → slice_index new d ≡ value
written d value old new writes =
    ap (λ (words : List ℕ). slice_index words d) writes.0 ∙ get_or-set_same old d value 0 writes.1

-- and no other changes
others_keep : (d value : ℕ) (old new : List ℕ) → new ≡ slice_set old d value → (s : ℕ) → Some d ≢ Some s
    → slice_index new s ≡ slice_index old s
others_keep d value old new is s other =
    ap (λ (words : List ℕ). slice_index words s) is
    ∙ get_or-set_other old d s value 0 (λ same. other (ap (λ (n : ℕ). Some n) (sym same)))

pub keeps_others : (i : Instr) (d value : ℕ) (old new : List ℕ) → written_slot i ≡ Some d
    → new ≡ slice_set old d value → Keeps i old new
keeps_others i d value old new writes is s other =
    others_keep d value old new is s (λ same. other (writes ∙ same))

pub keeps_all : (i : Instr) (old new : List ℕ) → new ≡ old → Keeps i old new
keeps_all i old new is s other = ap (λ (words : List ℕ). slice_index words s) is

-- so it is of each instruction
pub acts_keep : (i : Instr) (at to : ℕ) (old new : List ℕ) → Acts i at to old new → Keeps i old new
acts_keep (instr.Set d v) at to old new acts = keeps_others (instr.Set d v) d v old new refl acts.0
acts_keep (instr.Calc by d a b) at to old new acts =
    keeps_others (instr.Calc by d a b) d (operate by (slice_index old a) (slice_index old b)) old new refl acts.0
acts_keep (instr.JumpZ s l) at to old new acts = keeps_all (instr.JumpZ s l) old new acts.0
acts_keep i at to old new acts = acts

-- what is set is there
pub acts_set : (i : Instr) (d v at to : ℕ) (old new : List ℕ) → i ≡ instr.Set d v → Acts i at to old new
    → slice_index new d ≡ v
acts_set i d v at to old new is acts =
    written d v old new (subst (λ (j : Instr). Acts j at to old new) is acts)
