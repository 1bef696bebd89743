-- What is known of the ways from addresses of one owner, where at least so many sections are open.
use Rattle.std.specs.Prelude.{◌≡◌, ◌≢◌, ◌⊎◌, ◌≤◌, ◌<◌, ◌+◌, ◌-◌, ◌==◌, ℕ, zero, suc, nat_le, max, Bool, true, false}
use Rattle.std.specs.Prelude.{if◌then◌else◌}
use Rattle.std.specs.Prelude.{List, [], ◌∷◌, ◌++◌, length, slice_get, replicate, slice_set, Option, Some, None}
use Rattle.std.specs.Prelude.{unwrap_or}
use Rattle.std.specs.List.{AllByRecursion, Contains}
use Rattle.rt_code.specs.Image.{Image}
use Rattle.rt_code.specs.declared.instr.Instr.{Instr}
use Rattle.rt_code.specs.declared.instr.Note.{Note}
use Rattle.rt_points.specs.Point.{Point}
use Rattle.rt_points.specs.declared.point.Opened.{Opened}
use Rattle.rt_points.specs.declared.point.Owner.{Owner}
use Rattle.rt_judge.specs.Inside.Exits.{targets, ends_init}
use Rattle.rt_judge.specs.Inside.Walks.{Reached, reached_by}
use Rattle.rt_judge.specs.declared.walk.Walk.{Walk}
use Rattle.rt_bounds.specs.CountedWays.{all_left}
use Rattle.rt_bounds.specs.Inside.Aheads.{Ahead, IsMostAhead, IsEndlessAhead, AreFolds, IsFree}
-- the point of an owner at an address
pub use Rattle.rt_bounds.specs.Inside.Aheads.{point_at}
use Rattle.rt_bounds.specs.Ways.{Comes, Goes}
use Rattle.rt_bounds.specs.declared.folds.Fold.{Fold}
use Rattle.rt_bounds.specs.declared.longest.Longest.{Longest}
use Rattle.rt_bounds.specs.declared.longest.Longest.TheVariants as longest
use Rattle.rt_bounds.specs.declared.longest.TheConstants.{MOST_STEPS}
use Rattle.rt_bounds.specs.declared.survey.Mark.{Mark}
use Rattle.rt_bounds.specs.declared.survey.Mark.TheVariants as mark
use Rattle.rt_bounds.specs.declared.survey.Look.{Look}
use Rattle.rt_bounds.specs.declared.survey.Look.TheVariants as look
use Rattle.rt_bounds.specs.declared.survey.Survey.{Survey}

-- something is known to be open or not at an address: it was come to
abbrev pub IsThere : Reached → ℕ → Type 0
IsThere reached address = (inside : List Opened) × (reached address ≡ Some inside)

-- what a mark says of the ways from its address
abbrev pub look_of : Mark → ℕ → Look
look_of mark.Unseen address = look.Unseen address
look_of mark.Open address = look.Loop address
look_of (mark.Steps n) address = look.Steps n
look_of (mark.Loop a) address = look.Loop a

-- what is known of two exits together
abbrev pub both : Look → Look → Look
both (look.Unseen a) other = look.Unseen a
both (look.Loop a) (look.Unseen b) = look.Unseen b
both (look.Loop a) (look.Loop b) = look.Loop a
both (look.Loop a) (look.Steps n) = look.Loop a
both (look.Steps m) (look.Unseen b) = look.Unseen b
both (look.Steps m) (look.Loop b) = look.Loop b
both (look.Steps m) (look.Steps n) = look.Steps (max m n)

-- the mark of an address
abbrev pub mark_at : List Mark → ℕ → Mark
mark_at marks address = unwrap_or (slice_get marks address) mark.Unseen

-- what is known of the ways from an address, by what is open there
abbrev pub look_where : ℕ → List Mark → ℕ → Option (List Opened) → Look
look_where depth marks address None = look.Steps 0
look_where depth marks address (Some inside) =
    if nat_le depth (length inside) then look_of (mark_at marks address) address else look.Steps 0

-- whether ways end at an address
abbrev pub is_goal : Option ℕ → ℕ → Bool
is_goal None address = false
is_goal (Some goal) address = goal == address

abbrev pub look_at : Reached → ℕ → Option ℕ → List Mark → ℕ → Look
look_at reached depth goal marks address =
    if is_goal goal address then look.Steps 0 else look_where depth marks address (reached address)

-- what is known of the ways from these addresses
abbrev pub look_among : Reached → ℕ → Option ℕ → List Mark → List ℕ → Look
look_among reached depth goal marks [] = look.Steps 0
look_among reached depth goal marks (a ∷ []) = look_at reached depth goal marks a
look_among reached depth goal marks (a ∷ b ∷ more) =
    both (look_at reached depth goal marks a) (look_at reached depth goal marks b)

-- what is known of the ways behind a line at an address
abbrev pub look_behind : Reached → ℕ → Option ℕ → List Mark → Owner → Instr × Option Note → ℕ → Look
look_behind reached depth goal marks owner line address =
    if ends_init line.0 owner then look.Steps 0 else look_among reached depth goal marks (targets line.0 address)

-- the same where there is a line
abbrev pub look_by : Reached → ℕ → Option ℕ → List Mark → Owner → ℕ → Option (Instr × Option Note) → Look
look_by reached depth goal marks owner address None = look.Steps 0
look_by reached depth goal marks owner address (Some line) = look_behind reached depth goal marks owner line address

-- so many steps more, which the last one of them is not counted in, or too many
abbrev pub passed : Look → ℕ → ℕ → Look
passed (look.Unseen next) steps address = look.Unseen next
passed (look.Loop a) steps address = look.Loop a
passed (look.Steps behind) steps address =
    if nat_le (behind + steps) MOST_STEPS then look.Steps (behind + steps - 1) else look.Loop address

-- what is known of the ways behind the head of a folded loop
abbrev pub look_over : Reached → ℕ → Option ℕ → List Mark → Fold → Longest → Look
look_over reached depth goal marks fold (longest.Steps n) = passed (look_at reached depth goal marks fold.out) n fold.again
look_over reached depth goal marks fold (longest.Loop a) = look.Loop a

-- the fold of the loop of which an address is the head
abbrev pub fold_by : Option (Option Fold) → Option Fold
fold_by None = None
fold_by (Some fold) = fold

-- what is known of the ways behind an address, by the fold that is there
abbrev pub look_with : Image → Reached → ℕ → Option ℕ → List Mark → Owner → ℕ → Option Fold → Look
look_with img reached depth goal marks owner address None =
    look_by reached depth goal marks owner address (slice_get img.code address)
look_with img reached depth goal marks owner address (Some fold) =
    if nat_le depth fold.depth then look_over reached depth goal marks fold fold.longest
    else look_by reached depth goal marks owner address (slice_get img.code address)

abbrev pub look_from : Image → List (Option Fold) → Reached → ℕ → Option ℕ → List Mark → Owner → ℕ → Look
look_from img folds reached depth goal marks owner address =
    look_with img reached depth goal marks owner address (fold_by (slice_get folds address))

-- what a mark says of a point is so
abbrev pub IsRight : Image → ℕ → Option ℕ → Point → Mark → Type 0
IsRight img depth goal p mark.Unseen = Unit {0}
IsRight img depth goal p mark.Open = Unit {0}
IsRight img depth goal p (mark.Steps n) = IsMostAhead img depth goal p n
IsRight img depth goal p (mark.Loop a) = IsEndlessAhead img depth goal p a

-- a point leads to another, by a step or by a loop that is one step of many
pub record IsHop (img : Image) (depth : ℕ) (goal : Option ℕ) (p q : Point) : Type 0 where
  pub next : Point
  pub goes : Goes img depth p next
  pub comes : Comes img depth next q
  pub longer : (m : ℕ) → Ahead img depth goal true all_left q m → Ahead img depth goal true all_left p (suc m)

-- each address of a trail leads to the next
abbrev pub IsTrail : Image → ℕ → Option ℕ → Owner → Reached → List ℕ → Type 0
IsTrail img depth goal owner reached [] = Unit {0}
IsTrail img depth goal owner reached (a ∷ []) = Unit {0}
IsTrail img depth goal owner reached (a ∷ b ∷ trail) =
    IsHop img depth goal (point_at owner reached a) (point_at owner reached b)
    × IsTrail img depth goal owner reached (b ∷ trail)

-- how many addresses were not looked at
abbrev pub unseen : List Mark → ℕ
unseen [] = zero
unseen (mark.Unseen ∷ marks) = suc (unseen marks)
unseen (other ∷ marks) = unseen marks

-- a number of steps has room: there are as many other addresses that are neither on the trail nor unseen
abbrev pub HasRoom : List Mark → List ℕ → Mark → Type 0
HasRoom marks trail (mark.Steps n) = n + (length trail + unseen marks) ≤ MOST_STEPS + length marks
HasRoom marks trail other = Unit {0}

-- marks and a trail so far
pub record IsSurveying (img : Image) (owner : Owner) (reached : Reached) (depth : ℕ) (goal : Option ℕ)
    (marks : List Mark) (trail : List ℕ) : Type 0 where
  pub size : length marks ≡ length img.code
  pub right : (a : ℕ) (m : Mark) → slice_get marks a ≡ Some m → IsRight img depth goal (point_at owner reached a) m
  pub room : (a : ℕ) (m : Mark) → slice_get marks a ≡ Some m → HasRoom marks trail m
  pub room_left : length trail + unseen marks ≤ length marks
  pub opened : (a : ℕ) → slice_get marks a ≡ Some mark.Open → Contains trail a
  pub leads : IsTrail img depth goal owner reached trail
  pub there : AllByRecursion (IsThere reached) trail
  pub aside : AllByRecursion (λ a. goal ≢ Some a) trail
  pub within : AllByRecursion (λ a. a < length marks) trail

-- the addresses that were looked at are listed
pub record IsListed (marks : List Mark) (seen : List ℕ) : Type 0 where
  pub each : (a : ℕ) (m : Mark) → slice_get marks a ≡ Some m → (m ≡ mark.Unseen) ⊎ Contains seen a
  pub within : AllByRecursion (λ a. a < length marks) seen

-- a survey with nothing on its trail
pub record IsSurveyed (img : Image) (owner : Owner) (walk : Walk) (s : Survey) : Type 0 where
  pub empty : s.trail.items ≡ []
  pub surveying : IsSurveying img owner (reached_by walk) s.depth s.goal s.marks.items []
  pub listed : IsListed s.marks.items s.seen.items

-- a survey of which nothing is known
pub record IsNewSurvey (count least : ℕ) (s : Survey) : Type 0 where
  pub depth : s.depth ≡ least
  pub goal : s.goal ≡ None
  pub marks : s.marks.items ≡ replicate count mark.Unseen
  pub seen : s.seen.items ≡ []
  pub trail : s.trail.items ≡ []

-- one more address on the trail
pub record IsOpened (old new : Survey) (address : ℕ) : Type 0 where
  pub depth : new.depth ≡ old.depth
  pub goal : new.goal ≡ old.goal
  pub marks : new.marks.items ≡ slice_set old.marks.items address mark.Open
  pub seen : new.seen.items ≡ old.seen.items ++ address ∷ []
  pub trail : new.trail.items ≡ old.trail.items ++ address ∷ []

-- an address put back on the trail, and another behind it
pub record IsGoneOn (old new : Survey) (top next : ℕ) : Type 0 where
  pub depth : new.depth ≡ old.depth
  pub goal : new.goal ≡ old.goal
  pub marks : new.marks.items ≡ slice_set old.marks.items next mark.Open
  pub seen : new.seen.items ≡ old.seen.items ++ next ∷ []
  pub trail : new.trail.items ≡ (old.trail.items ++ top ∷ []) ++ next ∷ []

-- an address was looked at
abbrev pub IsSeen : List Mark → ℕ → Type 0
IsSeen marks a = ¬ (mark_at marks a ≡ mark.Unseen)

-- an address was looked at to the end
abbrev pub IsDone : Mark → Type 0
IsDone m = (m ≢ mark.Unseen) × (m ≢ mark.Open)

-- what was found, as a mark
abbrev pub mark_of : Longest → Mark
mark_of (longest.Steps n) = mark.Steps n
mark_of (longest.Loop a) = mark.Loop a

-- ways from an address may be looked at: it is in no loop that may be left from it, and loops are folded
pub record IsOpenTo (img : Image) (owner : Owner) (reached : Reached) (folds : List (Option Fold)) (depth : ℕ)
    (goal : Option ℕ) (start : ℕ) : Type 0 where
  pub last : ℕ
  pub folded : AreFolds img owner reached last folds
  pub free : IsFree img owner reached depth goal last start

-- ways end at an address, and so many sections are open
pub record IsBegun (old new : Survey) (goal depth : ℕ) : Type 0 where
  pub goal_is : new.goal ≡ Some goal
  pub depth_is : new.depth ≡ depth
  pub marks : new.marks ≡ old.marks
  pub seen : new.seen ≡ old.seen
  pub trail : new.trail ≡ old.trail

-- nothing is known of any line
abbrev pub AreUnseen : List Mark → Type 0
AreUnseen marks = (a : ℕ) (m : Mark) → slice_get marks a ≡ Some m → m ≡ mark.Unseen

-- all is forgotten
pub record IsForgotten (old new : Survey) : Type 0 where
  pub trail : new.trail ≡ old.trail
  pub size : length new.marks.items ≡ length old.marks.items
  pub seen : new.seen.items ≡ []
  pub unseen : AreUnseen new.marks.items

-- nothing is known
pub record IsBlank (img : Image) (s : Survey) : Type 0 where
  pub trail : s.trail.items ≡ []
  pub size : length s.marks.items ≡ length img.code
  pub seen : s.seen.items ≡ []
  pub unseen : AreUnseen s.marks.items

-- a survey that has looked at all that a way from an address can come to
pub record IsSurveyedFrom (img : Image) (owner : Owner) (walk : Walk) (old new : Survey) (start : ℕ) : Type 0 where
  pub depth : new.depth ≡ old.depth
  pub goal : new.goal ≡ old.goal
  pub surveyed : IsSurveyed img owner walk new
  pub seen : IsSeen new.marks.items start
