-- Loops in lines that count, over which a look at the lines may pass.
use Rattle.std.specs.Prelude.{◌≡◌, ◌≢◌, ◌⊎◌, ◌≤◌, ◌<◌, ℕ, List, slice_get, Option, Some}
use Rattle.rt_code.specs.Image.{Image}
use Rattle.rt_code.specs.declared.instr.Instr.{Instr}
use Rattle.rt_code.specs.declared.instr.Note.{Note}
use Rattle.rt_points.specs.Leading.{LeadsOn}
use Rattle.rt_points.specs.declared.point.Owner.{Owner}
use Rattle.rt_judge.specs.Inside.Tables.{found}
use Rattle.rt_judge.specs.declared.nesting.Nesting.{Nesting}
use Rattle.rt_judge.specs.declared.walk.Walk.{Walk}
use Rattle.rt_bounds.specs.Inside.Shapes.{Has, AllClosed, KeepsFrom, LeavesOnce}
use Rattle.rt_bounds.specs.declared.shape.Exit.{Exit}
use Rattle.rt_bounds.specs.declared.shape.Inner.{Inner}
use Rattle.rt_bounds.specs.declared.shape.Lines.{Lines}
use Rattle.rt_bounds.specs.declared.sources.Sources.{Sources}

-- the lines of a loop that begins at an address
abbrev pub lines_from : ℕ → Inner → Lines
lines_from first i = record { first = first; last = i.last }

-- something is so of each loop that is known
abbrev pub All : (ℕ → Inner → Type 0) → List (Option Inner) → Type 0
All P inners = (first : ℕ) (i : Inner) → slice_get inners first ≡ Some (Some i) → P first i

-- a loop is come to at one address alone
abbrev pub IsClosed : Walk → List Sources → ℕ → Inner → Type 0
IsClosed walk rows first i = (head : ℕ) × AllClosed walk (lines_from first i) rows head

-- it is left by its jump alone
abbrev pub IsLeft : Image → Owner → Walk → ℕ → Inner → Type 0
IsLeft img owner walk first i = (e : Exit) × (e.jump ≡ i.jump) × LeavesOnce img owner walk (lines_from first i) e

-- no more sections are open there than elsewhere in it
abbrev pub IsOpenAsAtJump : Walk → ℕ → Inner → Type 0
IsOpenAsAtJump walk first i = KeepsFrom walk (lines_from first i) i.jump

-- its lines lead to one another, but for its jump
abbrev pub IsStaying : Image → Walk → ℕ → Inner → Type 0
IsStaying img walk first i = (a : ℕ) (line : Instr × Option Note) (nesting : Nesting) (t : ℕ) → Has (lines_from first i) a
    → a ≢ i.jump → slice_get img.code a ≡ Some line → found walk.table a ≡ Some nesting → LeadsOn line.0 a t
    → Has (lines_from first i) t

-- loops that are known by the lines where they begin
pub record AreInners (img : Image) (owner : Owner) (walk : Walk) (rows : List Sources) (inners : List (Option Inner))
    : Type 0 where
  pub closed : All (IsClosed walk rows) inners
  pub left : All (IsLeft img owner walk) inners
  pub kept : All (IsOpenAsAtJump walk) inners
  pub staying : All (IsStaying img walk) inners

-- one line stands for those from an address on: for itself alone, or for a loop in the lines that begins there
pub record IsStride (ls : Lines) (inners : List (Option Inner)) (address : ℕ) (s : Inner) : Type 0 where
  pub from : address ≤ s.jump
  pub to : s.jump ≤ s.last
  pub within : s.last ≤ ls.last
  pub is : (s.last ≡ address) ⊎ ((ls.first < address) × (slice_get inners address ≡ Some (Some s)))

-- and a loop that has none of these two lines
pub record IsAside (ls : Lines) (inners : List (Option Inner)) (one other address : ℕ) (s : Inner) : Type 0 where
  pub stride : IsStride ls inners address s
  pub aside : (s.last ≡ address) ⊎ ((¬ Has (lines_from address s) one) × (¬ Has (lines_from address s) other))
