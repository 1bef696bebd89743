-- BASEPRI as jobs have left it, read off Baker's machine: which sections raised it follows from priorities and
-- ceilings.
use Rattle.std.proofs.Common.{◌≡◌, ℕ, ◌^◌, ◌<◌, ◌≤◌, ◌&&◌, nat_lt, max, Bool, true, false}
use Rattle.std.proofs.Common.{if◌then◌else◌, List, [], ◌∷◌, map, refl, sym, ap, subst, ◌∙◌, arith, lt-ltb, le-ltb}
use Rattle.std.specs.List.{AllByRecursion}
use Rattle.std.proofs.lemmas.Bool.{ltb-true}
use Rattle.rt_lemmas.proofs.Bools.{and_left, and_right, and_both}
use Rattle.rt_ids.specs.Priority.{hardware}
use Rattle.rt_ids.specs.declared.ids.Section.{Section}
use Rattle.rt_ids.proofs.Hardware.{hardware_falls, hardware_of_none}
use Rattle.rt_actions.specs.Storage.{Starting, AtPriority}
use Rattle.rt_app.specs.Ceiling.{ceiling}
use Rattle.rt_app.specs.Holding.{storage}
use Rattle.rt_app.specs.Tree.{App}
use Rattle.rt_code.specs.Image.{Image}
use Rattle.rt_code.specs.Masking.{IsMask, IsKindFor}
use Rattle.rt_code.specs.Owning.{SectionKind, Marked, Raised, Masked, OpenSection}
use Rattle.rt_laws.specs.Preemption.{greatest_ceiling}
use Rattle.rt_laws.specs.State.{Role, Init, Idle, Waiting, Serving, Job}
use Rattle.rt_sim.specs.Inside.Coupling.{Part, job_of, runner_of, sections_of}
use Rattle.rt_sim.specs.Inside.Chains.{base_by, base_inside, base_under as base_under_parts}
use Rattle.rt_sim.specs.Inside.PartInvariant.{who, AreOfKind}
use Rattle.rt_sim.proofs.ExecutionPriority.{below_top, ceilings_are}

module _ (app : App) where
  -- a section that a job of a priority opens inside others raises BASEPRI
  abbrev pub is_raised : ℕ → List Section → Section → Bool
  is_raised p outer x =
      nat_lt (max p (greatest_ceiling app outer)) (ceiling app x) && nat_lt 0 (hardware app.bits (ceiling app x))

  -- BASEPRI inside sections of a job of a priority, from what it was before
  abbrev pub base_by_sections : ℕ → List Section → ℕ → ℕ
  base_by_sections p [] before = before
  base_by_sections p (x ∷ outer) before =
      if is_raised p outer x then hardware app.bits (ceiling app x) else base_by_sections p outer before

  -- `init` raises nothing
  abbrev pub base_of_role : Role → ℕ → List Section → ℕ → ℕ
  base_of_role Init p xs before = before
  base_of_role role p xs before = base_by_sections p xs before

  -- BASEPRI as jobs have left it, the last started first
  abbrev pub base_under : List Job → ℕ
  base_under [] = 0
  base_under (job ∷ others) = base_of_role job.role job.priority job.sections (base_under others)

  -- what it was as each of them was interrupted
  abbrev pub bases_of : List Job → List ℕ
  bases_of [] = []
  bases_of (job ∷ others) = base_under (job ∷ others) ∷ bases_of others

  module _ (img : Image) (thread : ℕ) (few : 3 ≤ app.bits) (many : app.bits ≤ 7) where
    -- the kind of a section that a job of a priority has open inside others
    pub kind_here : (p : ℕ) (outer : List OpenSection) (h : OpenSection)
        → IsKindFor (storage app) (AtPriority p) (AtPriority p) outer h.section h.kind
        → IsMask (storage app) (AtPriority p) (ceiling app h.section)
        (max p (greatest_ceiling app (sections_of outer))) h.kind
    unfolding storage
    kind_here p outer h is = subst (λ l. IsMask (storage app) (AtPriority p) (ceiling app h.section) (max p l) h.kind)
        (ceilings_are app img thread few many outer) is

    marked : (held : List OpenSection) → AreOfKind app img thread Starting held → (before : ℕ)
        → base_inside app held before ≡ before
    marked [] kinds before = refl
    marked (h ∷ outer) kinds before =
        ap (λ kind. base_by kind (hardware app.bits (ceiling app h.section)) (base_inside app outer before)) kinds.0
        ∙ marked outer kinds.1 before

    not_raised : (p : ℕ) (outer : List Section) (x : Section) → ceiling app x ≤ max p (greatest_ceiling app outer)
        → is_raised p outer x ≡ false
    not_raised p outer x low =
        ap (λ b. b && nat_lt 0 (hardware app.bits (ceiling app x)))
        (le-ltb (max p (greatest_ceiling app outer)) (ceiling app x) low)

    none_raised : (p : ℕ) (outer : List Section) (x : Section) → hardware app.bits (ceiling app x) ≡ 0
        → is_raised p outer x ≡ false
    none_raised p outer x none =
        ap (λ v. nat_lt (max p (greatest_ceiling app outer)) (ceiling app x) && nat_lt 0 v) none
        ∙ no_end (nat_lt (max p (greatest_ceiling app outer)) (ceiling app x))
      where
        no_end : (b : Bool) → (b && false) ≡ false
        no_end true = refl
        no_end false = refl

    one_section : (p before : ℕ) (x : Section) (outer : List Section) (kind : SectionKind)
        → IsMask (storage app) (AtPriority p) (ceiling app x) (max p (greatest_ceiling app outer)) kind
        → base_by kind (hardware app.bits (ceiling app x)) (base_by_sections p outer before)
        ≡ base_by_sections p (x ∷ outer) before
    unfolding storage
    one_section p before x outer Marked is =
        sym (ap (λ b. if b then hardware app.bits (ceiling app x) else base_by_sections p outer before)
        (not_raised p outer x is))
    one_section p before x outer (Raised slot) is =
        sym (ap (λ b. if b then hardware app.bits (ceiling app x) else base_by_sections p outer before)
        (and_both (nat_lt (max p (greatest_ceiling app outer)) (ceiling app x))
        (nat_lt 0 (hardware app.bits (ceiling app x)))
        (lt-ltb (max p (greatest_ceiling app outer)) (ceiling app x) is.0)
        (lt-ltb 0 (hardware app.bits (ceiling app x)) is.1)))
    one_section p before x outer (Masked slot) is =
        sym (ap (λ b. if b then hardware app.bits (ceiling app x) else base_by_sections p outer before)
        (none_raised p outer x is.1))

    at_priority : (p : ℕ) (held : List OpenSection) → AreOfKind app img thread (AtPriority p) held → (before : ℕ)
        → base_inside app held before ≡ base_by_sections p (sections_of held) before
    at_priority p [] kinds before = refl
    at_priority p (h ∷ outer) kinds before =
        ap (base_by h.kind (hardware app.bits (ceiling app h.section))) (at_priority p outer kinds.1 before)
        ∙ one_section p before h.section (sections_of outer) h.kind
        (kind_here p outer h kinds.0)

    pub job_base : (q : Part) → AreOfKind app img thread (who q) q.held → (before : ℕ)
        → base_inside app q.held before ≡ base_of_role q.role q.priority (sections_of q.held) before
    job_base q kinds before = by q.role kinds
      where
        by : (role : Role) → AreOfKind app img thread (runner_of role q.priority) q.held
            → base_inside app q.held before ≡ base_of_role role q.priority (sections_of q.held) before
        by Init of_kind = marked q.held of_kind before
        by Idle of_kind = at_priority q.priority q.held of_kind before
        by Waiting of_kind = at_priority q.priority q.held of_kind before
        by (Serving irq) of_kind = at_priority q.priority q.held of_kind before

    -- the same as the parts have it
    pub bases_are : (ps : List Part) → AllByRecursion (λ q. AreOfKind app img thread (who q) q.held) ps
        → base_under_parts app ps ≡ base_under (map job_of ps)
    bases_are [] kinds = refl
    bases_are (q ∷ ps) kinds =
        ap (base_inside app q.held) (bases_are ps kinds.1) ∙ job_base q kinds.0 (base_under (map job_of ps))

    -- it has eight bits
    small_sections : (p : ℕ) (xs : List Section) (before : ℕ) → before < 2 ^ 8 → base_by_sections p xs before < 2 ^ 8
    small_sections p [] before small = small
    small_sections p (x ∷ outer) before small =
        by (is_raised p outer x) refl (small_sections p outer before small)
      where
        by : (b : Bool) → is_raised p outer x ≡ b → base_by_sections p outer before < 2 ^ 8
            → (if b then hardware app.bits (ceiling app x) else base_by_sections p outer before) < 2 ^ 8
        by false is rest = rest
        by true is rest =
            let above : max p (greatest_ceiling app outer) < ceiling app x =
            ltb-true (max p (greatest_ceiling app outer)) (ceiling app x)
            (and_left (nat_lt (max p (greatest_ceiling app outer)) (ceiling app x))
            (nat_lt 0 (hardware app.bits (ceiling app x))) is) in
            let some : 0 < hardware app.bits (ceiling app x) =
            ltb-true 0 (hardware app.bits (ceiling app x))
            (and_right (nat_lt (max p (greatest_ceiling app outer)) (ceiling app x))
            (nat_lt 0 (hardware app.bits (ceiling app x))) is) in
            let falls = hardware_falls app.bits 0 (ceiling app x) few many (omega (arith, above))
            (below_top app.bits (ceiling app x) some) in
            let top = hardware_of_none app.bits few many in
            omega (arith, falls, top)

    pub base_small : (jobs : List Job) → base_under jobs < 2 ^ 8
    base_small [] = omega arith
    base_small (job ∷ others) = by job.role (base_small others)
      where
        by : (role : Role) → base_under others < 2 ^ 8
            → base_of_role role job.priority job.sections (base_under others) < 2 ^ 8
        by Init small = small
        by Idle small = small_sections job.priority job.sections (base_under others) small
        by Waiting small = small_sections job.priority job.sections (base_under others) small
        by (Serving irq) small = small_sections job.priority job.sections (base_under others) small
