-- When control stays within a part of the code, said of its lines: jumps lead to addresses of the part, alarms pend the
-- interrupt of the monotonic, and bodies are called in dispatchers alone, with their arguments from the first slot on.
use Rattle.std.proofs.Common.{◌≡◌, ◌⊎◌, ℕ, zero, suc, ◌+◌, ◌<◌, ◌≤◌, Bool, true, false, List, [], ◌∷◌, ◌++◌, map}
use Rattle.std.proofs.Common.{Option, Some, None, slice_get, if◌then◌else◌, length, sym, subst, arith, inl, inr}
use Rattle.std.specs.List.{AllByRecursion}
use Rattle.std.proofs.lemmas.Option.{none-some, same_Some}
use Rattle.rt_ids.specs.declared.ids.Section.{Section}
use Rattle.rt_code.specs.Masking.{opening_instr, closing_instr}
use Rattle.rt_code.specs.Owning.{SectionKind, Marked, Raised, Masked}
use Rattle.rt_code.specs.declared.instr.Instr.{Instr}
use Rattle.rt_code.specs.declared.instr.Instr.TheVariants as instr
use Rattle.rt_code.specs.declared.instr.Note.{Note}
use Rattle.rt_gen_queue.specs.Line.{Line}
use Rattle.rt_gen_queue.specs.Guards.{kind_of, enter_line, leave_line}
use Rattle.rt_gen_queue.specs.declared.guard.Guard.{Guard}
use Rattle.rt_points.specs.Leading.{LeadsOn}

-- a part of the code, from its first to its last address; the interrupt that alarms pend, and whether bodies are called
pub record Part : Type 0 where
  pub first : ℕ
  pub last : ℕ
  pub timer : ℕ
  pub calls : Bool

-- an address of a part
pub record IsInside (p : Part) (to : ℕ) : Type 0 where
  pub front : p.first ≤ to
  pub back : to ≤ p.last

-- bodies are called with their arguments from the first slot on, if at all
abbrev pub IsCallFrom : Bool → ℕ → Type 0
IsCallFrom true from = from ≡ 0
IsCallFrom false from = ⊥

-- an instruction may stand in a part, if not as its last one
abbrev pub IsFine : Part → Instr → Type 0
IsFine p (instr.Jump to) = IsInside p to
IsFine p (instr.JumpZ slot to) = IsInside p to
IsFine p (instr.Alarm slot irq) = irq ≡ p.timer
IsFine p (instr.Call row from) = IsCallFrom p.calls from
IsFine p i = Unit {0}

-- of a line with a note all, of another what its instruction needs, if anything; and the rest
abbrev Needs : Part → Option Note → Instr → Type 0 → Type 0
Needs p (Some told) i rest = IsFine p i × rest
Needs p None (instr.Jump to) rest = IsInside p to × rest
Needs p None (instr.JumpZ slot to) rest = IsInside p to × rest
Needs p None (instr.Alarm slot irq) rest = (irq ≡ p.timer) × rest
Needs p None (instr.Call row from) rest = IsCallFrom p.calls from × rest
Needs p None i rest = rest

abbrev pub AreClaimed : Part → List Line → Type 0
AreClaimed p [] = Unit {0}
AreClaimed p (line ∷ lines) = Needs p line.1 line.0 (AreClaimed p lines)

-- lines that may stand in a part
pub record Fine (p : Part) (lines : List Line) : Type 0 where
  pub claimed : AreClaimed p lines

module _ (p : Part) where
  by_line : (told : Option Note) (i : Instr) (Rest : Type 0) → Needs p told i Rest → IsFine p i × Rest
  by_line (Some told) i Rest needs = needs
  by_line None (instr.Jump to) Rest needs = needs
  by_line None (instr.JumpZ slot to) Rest needs = needs
  by_line None (instr.Alarm slot irq) Rest needs = needs
  by_line None (instr.Call row from) Rest needs = needs
  by_line None i Rest needs = (tt, needs)

  to_needs : (told : Option Note) (i : Instr) (Rest : Type 0) → IsFine p i → Rest → Needs p told i Rest
  to_needs (Some told) i Rest fine rest = (fine, rest)
  to_needs None (instr.Jump to) Rest fine rest = (fine, rest)
  to_needs None (instr.JumpZ slot to) Rest fine rest = (fine, rest)
  to_needs None (instr.Alarm slot irq) Rest fine rest = (fine, rest)
  to_needs None (instr.Call row from) Rest fine rest = (fine, rest)
  to_needs None i Rest fine rest = rest

  -- each line may
  pub all_fine : (lines : List Line) → Fine p lines → AllByRecursion (λ line. IsFine p line.0) lines
  all_fine [] fine = tt
  all_fine (line ∷ lines) fine =
      let both = by_line line.1 line.0 (AreClaimed p lines) fine.claimed in
      (both.0, all_fine lines (record { claimed = both.1 }))

  pub none : Fine p []
  none = record { claimed = tt }

  -- a line more
  pub line_then : (line : Line) (lines : List Line) → IsFine p line.0 → Fine p lines → Fine p (line ∷ lines)
  line_then line lines here rest = record { claimed = to_needs line.1 line.0 (AreClaimed p lines) here rest.claimed }

  -- lines after lines
  pub both : (xs ys : List Line) → Fine p xs → Fine p ys → Fine p (xs ++ ys)
  both [] ys front back = back
  both (line ∷ xs) ys front back =
      let split = by_line line.1 line.0 (AreClaimed p xs) front.claimed in
      line_then line (xs ++ ys) split.0 (both xs ys (record { claimed = split.1 }) back)

  -- a line for each of some things
  pub each : {X : Type 0} (f : X → Line) (xs : List X) → ((x : X) → IsFine p (f x).0) → Fine p (map f xs)
  each f [] fine = none
  each f (x ∷ xs) fine = line_then (f x) (map f xs) (fine x) (each f xs fine)

  -- lines that stand where a test passes
  pub if_fine : (at : ℕ) (b : Bool) (lines : List Line) → at + length (if b then lines else []) ≤ p.last
      → (at + length lines ≤ p.last → Fine p lines) → Fine p (if b then lines else [])
  if_fine at true lines within fine = fine within
  if_fine at false lines within fine = none

  -- the lines on which sections open and close
  opening_fine : (value : ℕ) (kind : SectionKind) → IsFine p (opening_instr value kind)
  opening_fine value Marked = tt
  opening_fine value (Raised slot) = tt
  opening_fine value (Masked slot) = tt

  closing_fine : (kind : SectionKind) → IsFine p (closing_instr kind)
  closing_fine Marked = tt
  closing_fine (Raised slot) = tt
  closing_fine (Masked slot) = tt

  pub enter_fine : (x : Section) (g : Guard) (threshold slot : ℕ) → IsFine p (enter_line x g threshold slot).0
  enter_fine x g threshold slot = opening_fine g.value (kind_of g threshold slot)

  pub leave_fine : (x : Section) (g : Guard) (threshold slot : ℕ) → IsFine p (leave_line x g threshold slot).0
  leave_fine x g threshold slot = closing_fine (kind_of g threshold slot)

-- control does not go on behind an instruction
abbrev pub IsEnd : Instr → Type 0
IsEnd (instr.Jump to) = Unit {0}
IsEnd instr.Wait = Unit {0}
IsEnd instr.Back = Unit {0}
IsEnd instr.Ret = Unit {0}
IsEnd i = ⊥

-- lines, of which there are some, end so
abbrev pub EndWell : List Line → Type 0
EndWell [] = ⊥
EndWell (line ∷ []) = IsEnd line.0
EndWell (line ∷ next ∷ more) = EndWell (next ∷ more)

pub ends_behind : (xs ys : List Line) → EndWell ys → EndWell (xs ++ ys)
ends_behind [] ys ends = ends
ends_behind (x ∷ []) [] ends = absurd ends
ends_behind (x ∷ []) (y ∷ ys) ends = ends
ends_behind (x ∷ z ∷ xs) ys ends = ends_behind (z ∷ xs) ys ends

pub ends_some : (lines : List Line) → EndWell lines → 1 ≤ length lines
ends_some [] ends = absurd ends
ends_some (line ∷ more) ends = omega arith

-- a line is such an end, or another is behind it
pub ends_at : (lines : List Line) (k : ℕ) (line : Line) → EndWell lines → slice_get lines k ≡ Some line
    → IsEnd line.0 ⊎ (suc k < length lines)
ends_at [] k line ends there = absurd ends
ends_at (x ∷ []) zero line ends there = inl (subst (λ (l : Line). IsEnd l.0) (same_Some x line there) ends)
ends_at (x ∷ []) (suc k) line ends there = absurd (none-some line there)
ends_at (x ∷ y ∷ more) zero line ends there = inr (omega arith)
ends_at (x ∷ y ∷ more) (suc k) line ends there = elim (ends_at (y ∷ more) k line ends there) [
  | inl end ↦ inl end
  | inr less ↦ inr (omega (arith, less))
]

-- lines that are a part
pub record IsClosed (p : Part) (own : List Line) : Type 0 where
  pub fine : Fine p own
  pub ends : EndWell own

-- from an instruction of a part control goes on within it
pub stays_inside : (p : Part) (n to : ℕ) (i : Instr) → IsFine p i → IsInside p n → IsEnd i ⊎ IsInside p (suc n)
    → LeadsOn i n to → IsInside p to
stays_inside p n to (instr.Jump l) fine here next leads = subst (λ k. IsInside p k) (sym leads) fine
stays_inside p n to (instr.JumpZ slot l) fine here next leads = elim leads [
  | inl on ↦ elim next [ inl end ↦ absurd end | inr inside ↦ subst (λ k. IsInside p k) (sym on) inside ]
  | inr there ↦ subst (λ k. IsInside p k) (sym there) fine
]
stays_inside p n to instr.Wait fine here next leads = subst (λ k. IsInside p k) (sym leads) here
stays_inside p n to instr.Back fine here next leads = absurd leads
stays_inside p n to instr.Ret fine here next leads = absurd leads
stays_inside p n to (instr.Call row from) fine here next leads = absurd leads
stays_inside p n to i fine here next leads =
    elim next [ inl end ↦ absurd end | inr inside ↦ subst (λ k. IsInside p k) (sym leads) inside ]
