-- What the code finds of a loop that may count.
use Rattle.std.specs.Prelude.{◌≡◌, ◌≢◌, ◌^◌, ℕ, suc, ◌<◌, ◌+◌, ◌==◌, ◌&&◌, nat_le, Bool, true, List, slice_get}
use Rattle.std.specs.Prelude.{Option, Some, MatchOption}
use Rattle.rt_code.specs.Image.{Image}
use Rattle.rt_code.specs.declared.instr.Instr.{Instr}
use Rattle.rt_code.specs.declared.instr.Instr.TheVariants as instr
use Rattle.rt_code.specs.declared.instr.Note.{Note}
use Rattle.rt_points.specs.Leading.{LeadsOn, LeadsTo, StandsAt}
use Rattle.rt_points.specs.Point.{Point}
use Rattle.rt_points.specs.Rules.{written_slot}
use Rattle.rt_points.specs.declared.point.Owner.{Owner}
use Rattle.rt_judge.specs.Inside.Tables.{found}
use Rattle.rt_judge.specs.declared.nesting.Nesting.{Nesting}
use Rattle.rt_judge.specs.declared.walk.Walk.{Walk}
use Rattle.rt_bounds.specs.Counting.{Place, Changes, IsInside, is_changed, is_changed_after, is_comparison}
use Rattle.rt_bounds.specs.Counting.{IsIn, IsConstant, Test, IsTest, CountingLoop, IsCounting}
use Rattle.rt_bounds.specs.Holding.{HoldsAfter}
use Rattle.rt_bounds.specs.Inside.Turns.{AreTurns, IsComparing}
use Rattle.rt_bounds.specs.Inside.Sources.{is_only}
use Rattle.rt_bounds.specs.declared.counting.Change.{Change}
use Rattle.rt_bounds.specs.declared.counting.Comparison.{Comparison}
use Rattle.rt_bounds.specs.declared.counting.Direction.{Direction}
use Rattle.rt_bounds.specs.declared.counting.Writers.{Writers}
use Rattle.rt_bounds.specs.declared.counting.Writers.TheVariants.{Nobody, One, Several}
use Rattle.rt_bounds.specs.declared.shape.Exit.{Exit}
use Rattle.rt_bounds.specs.declared.shape.Lines.{Lines}
use Rattle.rt_bounds.specs.declared.sources.Sources.{Sources}

-- whether an address is in a loop
abbrev pub has_line : Place → ℕ → Bool
has_line c a = nat_le c.first a && nat_le a c.last

-- the lines of a loop
abbrev pub lines_of_place : Place → Lines
lines_of_place c = record { first = c.first; last = c.last }

-- a slot is changed so, by what another holds
abbrev pub IsChange : ℕ → Instr → Change → Type 0
IsChange counter i change = Changes counter change.by i change.direction

-- and by the line at an address
pub record IsChangeAt (img : Image) (at counter : ℕ) (change : Change) : Type 0 where
  pub line : Instr × Option Note
  pub stands : slice_get img.code at ≡ Some line
  pub is : IsChange counter line.0 change

-- the line at an address writes a slot, and the owner comes there
pub record WritesAt (img : Image) (walk : Walk) (at slot : ℕ) : Type 0 where
  pub line : Instr × Option Note
  pub stands : slice_get img.code at ≡ Some line
  pub nesting : Nesting
  pub there : found walk.table at ≡ Some nesting
  pub writes : written_slot line.0 ≡ Some slot

module _ (img : Image) (walk : Walk) (c : Place) where
  -- which lines of a loop write a slot
  abbrev pub AreWriters : ℕ → Writers → Type 0
  AreWriters slot Nobody = (a : ℕ) → IsInside c a → ¬ WritesAt img walk a slot
  AreWriters slot (One at) = IsInside c at × WritesAt img walk at slot
      × ((a : ℕ) → IsInside c a → WritesAt img walk a slot → a ≡ at)
  AreWriters slot Several = (a : ℕ) × (b : ℕ) × (a ≢ b) × IsInside c a × IsInside c b
      × WritesAt img walk a slot × WritesAt img walk b slot

-- the line before the jump of a loop, through which alone it is come to, compares two slots
pub record IsComparison (img : Image) (sources : List Sources) (c : Place) (slot : ℕ) (compared : Comparison)
    : Type 0 where
  pub before : ℕ
  pub next : c.jump ≡ suc before
  pub only : is_only before (slice_get sources c.jump) ≡ true
  pub told : Option Note
  pub stands : slice_get img.code before ≡ Some (instr.Calc compared.op slot compared.one compared.other, told)
  pub comparison : is_comparison compared.op ≡ true

module _ (img : Image) (walk : Walk) (c : Place) (change : ℕ) where
  -- where the line at an address leads to in the loop the counter was changed as it was after that line
  abbrev pub IsOnceAt : ℕ → Type 0
  IsOnceAt a = (line : Instr × Option Note) (nesting : Nesting) (t : ℕ) → slice_get img.code a ≡ Some line
      → found walk.table a ≡ Some nesting → LeadsOn line.0 a t → IsInside c t
      → is_changed c.jump change t ≡ is_changed_after c.jump change a

  -- the counter is changed once in each turn
  abbrev pub IsOnce : Type 0
  IsOnce = ((a : ℕ) → IsInside c a → IsOnceAt a) × (is_changed c.jump change c.head ≡ true)

-- a loop is left once this counter was changed so often, by a jump that looks at it so
pub record CountsBy (img : Image) (owner : Owner) (c : Place) (counter : ℕ) (test : Test) (is_not_0 : Bool)
    (turns : ℕ) : Type 0 where
  pub start : ℕ
  pub small : start < 2 ^ 32
  pub before : ℕ
  pub before_first : c.first ≡ suc before
  pub starts : HoldsAfter img owner counter start before
  pub change : ℕ
  pub changing : Point
  pub changing_in : IsIn img owner c changing
  pub changing_at : changing.address ≡ change
  pub change_line : Instr × Option Note
  pub change_stands : slice_get img.code change ≡ Some change_line
  pub by : ℕ
  pub step : ℕ
  pub direction : Direction
  pub changes : Changes counter by change_line.0 direction
  pub constant : IsConstant img owner c change by step
  pub alone : (p : Point) (i : Instr) (told : Option Note) → IsIn img owner c p → StandsAt img p i told
      → written_slot i ≡ Some counter → p.address ≡ change
  pub enters : is_changed c.jump change c.head ≡ true
  pub once : (p q : Point) → IsIn img owner c p → IsIn img owner c q → LeadsTo img p q
      → is_changed c.jump change q.address ≡ is_changed_after c.jump change p.address
  pub are : AreTurns direction start step test is_not_0 turns

-- it is known how often a loop turns by a counter, or that it does not turn a number of times by it
abbrev pub MatchTurns : Image → Owner → Place → ℕ → Test → Option ℕ → Type 0
MatchTurns img owner c counter test turns = MatchOption turns
    ((n : ℕ) → ¬ (IsComparing test × CountsBy img owner c counter test (c.stay == c.jump + 1) n))
    (λ n. IsComparing test × CountsBy img owner c counter test (c.stay == c.jump + 1) n)

-- a loop turns so often by a counter at which its jump looks, on this slot
pub record CountsOn (img : Image) (owner : Owner) (c : Place) (slot turns : ℕ) : Type 0 where
  pub counter : ℕ
  pub test : Test
  pub tests : IsTest img owner c counter slot test
  pub comparing : IsComparing test
  pub counts : CountsBy img owner c counter test (c.stay == c.jump + 1) turns

-- it is known how often a loop turns by what its jump looks at, or that it does not turn a number of times by it
abbrev pub MatchCounts : Image → Owner → Place → ℕ → Option ℕ → Type 0
MatchCounts img owner c slot turns =
    MatchOption turns ((n : ℕ) → ¬ CountsOn img owner c slot n) (λ n. CountsOn img owner c slot n)

-- the loop that jumps back at an address counts, or it does not
abbrev pub MatchLoop : Image → Owner → ℕ → Option CountingLoop → Type 0
MatchLoop img owner last counting = MatchOption counting
    ((c : CountingLoop) → c.place.last ≡ last → ¬ IsCounting img owner c)
    (λ c. IsCounting img owner c × (c.place.last ≡ last))

-- where a loop is that has these lines, this head, and this way out
abbrev pub place_of : Lines → ℕ → Exit → Place
place_of ls head e =
    record { first = ls.first; last = ls.last; head = head; jump = e.jump; stay = e.stay; out = e.out }
