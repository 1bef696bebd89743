-- A section opens: the masks are set and what they were is kept, what the section guards is taken over from the others,
-- and Baker's machine enters it.
use Rattle.std.proofs.Common.{◌≡◌, ℕ, ◌^◌, ◌<◌, ◌≤◌, ◌||◌, ◌⊎◌, inl, inr, Bool, true, false, List, [], ◌∷◌, refl, sym}
use Rattle.std.proofs.Common.{ap, subst, ◌∙◌, arith}
use Rattle.std.specs.List.{AllByRecursion}
use Rattle.rt_lemmas.proofs.Bools.{or_neither, or_cases, or_left, or_right, not_so}
use Rattle.rt_actions.specs.Location.{Location, Guarded, Own, is_same_section}
use Rattle.rt_actions.specs.Storage.{Runner, AtPriority}
use Rattle.rt_actions.proofs.Sections.{one_section}
use Rattle.rt_ids.specs.declared.ids.Section.{Section}
use Rattle.rt_app.specs.Tree.{App}
use Rattle.rt_app.specs.Ceiling.{ceiling}
use Rattle.rt_app.specs.Holding.{storage}
use Rattle.rt_code.specs.Image.{Image}
use Rattle.rt_code.specs.Masking.{IsWithin, NobodyKeeps}
use Rattle.rt_code.specs.Owning.{OpenSection, owns, reads, is_open}
use Rattle.rt_laws.specs.Preemption.{system_ceiling, greatest_ceiling}
use Rattle.rt_sim.specs.Inside.Coupling.{Part, runner_of, sections_of, jobs_of}
use Rattle.rt_sim.specs.Inside.PartInvariant.{who, PartReads}
use Rattle.rt_sim.specs.Inside.CouplingInvariant.{IsStacked}

-- one more section is owned, and read, by who opens it
pub owns_less : (app : App) (runner : Runner) (h : OpenSection) (outer : List OpenSection) (location : Location)
    → owns (storage app) runner (h ∷ outer) location ≡ true → (location ≡ Guarded h.section)
    ⊎ (owns (storage app) runner outer location ≡ true)
owns_less app runner h outer (Guarded y) is = by (is_same_section h.section y) refl is
  where
    by : (b : Bool) → is_same_section h.section y ≡ b
        → ((b || is_open outer y) || (storage app).is_kept runner (Guarded y)) ≡ true
        → (Guarded y ≡ Guarded h.section) ⊎ (owns (storage app) runner outer (Guarded y) ≡ true)
    by true same is = inl (ap (λ x. Guarded x) (sym (one_section h.section y same)))
    by false same is = inr is
owns_less app runner h outer (Own n) is = inr is

pub reads_less : (app : App) (runner : Runner) (h : OpenSection) (outer : List OpenSection) (location : Location)
    → reads (storage app) runner (h ∷ outer) location ≡ true → (location ≡ Guarded h.section)
    ⊎ (reads (storage app) runner outer location ≡ true)
reads_less app runner h outer location is =
    elim (or_cases (owns (storage app) runner (h ∷ outer) location) ((storage app).is_constant runner location) is) [
      | inl own ↦ elim (owns_less app runner h outer location own) [
        | inl same ↦ inl same
        | inr outside ↦ inr (or_left (owns (storage app) runner outer location)
            ((storage app).is_constant runner location) outside)
      ]
      | inr constant ↦ inr (or_right (owns (storage app) runner outer location)
          ((storage app).is_constant runner location) constant)
    ]

module _ (app : App) (img : Image) (thread : ℕ) where
  -- an open section's ceiling counts for the system ceiling
  pub open_counts : (held : List OpenSection) (x : Section) → is_open held x ≡ true
      → ceiling app x ≤ greatest_ceiling app (sections_of held)
  open_counts [] x is = absurd (cc)
  open_counts (h ∷ held) x is = by (is_same_section h.section x) refl is (open_counts held x)
    where
      by : (b : Bool) → is_same_section h.section x ≡ b → (b || is_open held x) ≡ true
          → (is_open held x ≡ true → ceiling app x ≤ greatest_ceiling app (sections_of held))
          → ceiling app x ≤ greatest_ceiling app (sections_of (h ∷ held))
      by true same is later = let e : ceiling app h.section ≡ ceiling app x =
          ap (ceiling app) (one_section h.section x same) in omega (arith, e)
      by false same is later = let e = later is in omega (arith, e)

  -- below a job of a priority that there is no job is `init`
  pub at_threshold : (p : Part) (ps : List Part) (top : ℕ) → top ≤ 2 ^ app.bits
      → system_ceiling app (jobs_of p ps) < top
      → IsStacked app img thread p ps → who p ≡ AtPriority p.priority
  at_threshold p [] top most above is = elim is.role [
    | inl init ↦ absurd (let e : p.priority ≡ 2 ^ app.bits = is.greatest init in omega (arith, e, above, most))
    | inr low ↦ elim low.0 [
      | inl idle ↦ ap (λ r. runner_of r p.priority) idle
      | inr waits ↦ ap (λ r. runner_of r p.priority) waits
    ]
  ]
  at_threshold p (q ∷ ps) top most above is = ap (λ r. runner_of r p.priority) is.0.serves

  -- a section that a job may enter is read by none that it interrupted
  free_one : (o : Part) (x : Section) (top : ℕ) → who o ≡ AtPriority o.priority
      → greatest_ceiling app (sections_of o.held) < top → top ≤ ceiling app x
      → NobodyKeeps (storage app) (AtPriority top) (AtPriority top) x → PartReads app img thread o (Guarded x) ≡ false
  free_one o x top runner above within nobody =
      or_neither (owns (storage app) (who o) o.held (Guarded x)) ((storage app).is_constant (who o) (Guarded x))
      (or_neither (is_open o.held x) ((storage app).is_kept (who o) (Guarded x))
      (not_so (is_open o.held x) (λ is. let e = open_counts o.held x is in omega (arith, e, above, within)))
      (ap (λ w. (storage app).is_kept w (Guarded x)) runner ∙ (nobody o.priority).0))
      (ap (λ w. (storage app).is_constant w (Guarded x)) runner ∙ (nobody o.priority).1)

  free_all : (p : Part) (ps : List Part) (x : Section) (top : ℕ) → top ≤ 2 ^ app.bits
      → system_ceiling app (jobs_of p ps) < top
      → IsStacked app img thread p ps
      → top ≤ ceiling app x → NobodyKeeps (storage app) (AtPriority top) (AtPriority top) x
      → AllByRecursion (λ o. PartReads app img thread o (Guarded x) ≡ false) (p ∷ ps)
  free_all p [] x top most above is within nobody =
      (free_one p x top (at_threshold p [] top most above is) (omega arith) within nobody, tt)
  free_all p (q ∷ ps) x top most above is within nobody = (
    free_one p x top (at_threshold p (q ∷ ps) top most above is) (omega arith) within nobody,
    free_all q ps x top most (omega arith) is.1 within nobody,
  )

  pub free_below : (p : Part) (ps : List Part) (x : Section) → IsStacked app img thread p ps
      → IsWithin (storage app) (who p) (who p) x → NobodyKeeps (storage app) (who p) (who p) x
      → AllByRecursion (λ o. PartReads app img thread o (Guarded x) ≡ false) ps
  unfolding storage
  free_below p [] x is within nobody = tt
  free_below p (q ∷ ps) x is within nobody =
      let runner : who p ≡ AtPriority p.priority = ap (λ r. runner_of r p.priority) is.0.serves in
      free_all q ps x p.priority is.0.most is.0.above is.1
      (subst (λ w. IsWithin (storage app) w w x) runner within)
      (subst (λ w. NobodyKeeps (storage app) w w x) runner nobody)
