-- The execution priority of the core is the priority value of the system ceiling of Baker's machine.
use Rattle.std.proofs.Common.{◌≡◌, ℕ, ◌*◌, ◌-◌, ◌^◌, ◌<◌, ◌≤◌, ◌==◌, inl, inr, min, max, Bool, true, false}
use Rattle.std.proofs.Common.{if◌then◌else◌, List, [], ◌∷◌, map, refl, sym, ap, subst, ◌∙◌, arith}
use Rattle.std.specs.List.{AllByRecursion}
use Rattle.std.proofs.lemmas.Bool.{cases_lt, eqb-true}
use Rattle.rt_lemmas.proofs.Membership.{all_weaker}
use Rattle.rt_ids.specs.Lists.{greatest}
use Rattle.rt_ids.specs.Priority.{hardware}
use Rattle.rt_actions.specs.Storage.{AtPriority}
use Rattle.rt_ids.specs.declared.limits.TheConstants.{THREAD_VALUE}
use Rattle.rt_ids.proofs.Hardware.{hardware_falls, hardware_of_none}
use Rattle.rt_app.specs.Tree.{App}
use Rattle.rt_app.specs.Ceiling.{ceiling}
use Rattle.rt_app.specs.Holding.{storage}
use Rattle.rt_code.specs.Image.{Image}
use Rattle.rt_code.specs.Masking.{IsMask, IsKindFor}
use Rattle.rt_code.specs.Owning.{SectionKind, Marked, Raised, Masked, OpenSection}
use Rattle.rt_core.specs.Priority.{running_value, base_value, mask_value, execution}
use Rattle.rt_laws.specs.State.{Init}
use Rattle.rt_laws.specs.Preemption.{system_ceiling, greatest_ceiling}
use Rattle.rt_sim.specs.Inside.Coupling.{Part, Coupling, runner_of, sections_of, jobs_of}
use Rattle.rt_sim.specs.Inside.States.{contexts_of, core_of}
use Rattle.rt_sim.specs.Inside.Chains.{is_init, base_by, mask_by, base_inside, mask_inside, base_of, mask_of}
use Rattle.rt_sim.specs.Inside.PartInvariant.{who, AreOfKind, PartInvariant}
use Rattle.rt_sim.specs.Inside.CouplingInvariant.{IsThread, IsOn, IsStacked, CouplingInvariant}

-- a priority that is the greatest, or more, has the value 0
pub value_of_top : (b c : ℕ) → 2 ^ b ≤ c → hardware b c ≡ 0
value_of_top b c high =
    let none : 2 ^ b - c ≡ 0 = omega arith in
    ap (λ k. k * 2 ^ (8 - b)) none ∙ omega arith

-- a ceiling whose value is above 0 is below the greatest priority
pub below_top : (b c : ℕ) → 0 < hardware b c → c ≤ 2 ^ b
below_top b c some = elim (cases_lt (2 ^ b) c) [
  | inl high ↦ absurd (let none : hardware b c ≡ 0 = value_of_top b c (omega arith) in omega (arith, some, none))
  | inr low ↦ low
]

module _ (app : App) (img : Image) (thread : ℕ) (few : 3 ≤ app.bits) (many : app.bits ≤ 7) where
  pub ceilings_are : (held : List OpenSection) → greatest (map (λ h. ceiling app h.section) held) ≡ greatest_ceiling app
      (sections_of held)
  ceilings_are [] = refl
  ceilings_are (h ∷ held) = ap (max (ceiling app h.section)) (ceilings_are held)

  -- the three masks together
  unfoldable pub held_off : ℕ → ℕ → Bool → ℕ
  held_off v base mask = min v (min (base_value base) (mask_value mask))

  pub base_of_some : (v : ℕ) → 0 < v → base_value v ≡ v
  base_of_some v some = go (v == 0) refl
    where
      go : (b : Bool) → (v == 0) ≡ b → (if b then THREAD_VALUE else v) ≡ v
      go true is = absurd (let e : v ≡ 0 = eqb-true v 0 is in omega arith)
      go false is = refl

  pub one_inside : (p c l base : ℕ) (mask : Bool) (kind : SectionKind)
      → IsMask (storage app) (AtPriority p) c (max p l) kind
      → held_off (hardware app.bits p) base mask ≡ hardware app.bits (max p l)
      → held_off (hardware app.bits p) (base_by kind (hardware app.bits c) base)
      (mask_by kind mask) ≡ hardware app.bits (max p (max c l))
  unfolding storage held_off
  one_inside p c l base mask Marked is before =
      let same : max p (max c l) ≡ max p l = omega (arith, is) in before ∙ ap (hardware app.bits) (sym same)
  one_inside p c l base mask (Raised slot) is before =
      let same : max p (max c l) ≡ c = omega (arith, is.0) in
      let less : hardware app.bits c < hardware app.bits (max p l) =
      hardware_falls app.bits (max p l) c few many is.0 (below_top app.bits c is.1) in
      let b : base_value (hardware app.bits c) ≡ hardware app.bits c = base_of_some (hardware app.bits c) is.1 in
      ap (λ v. min (hardware app.bits p) (min v (mask_value mask))) b
      ∙ lowest (hardware app.bits p) (base_value base) (mask_value mask) (hardware app.bits (max p l))
      (hardware app.bits c) before less
      ∙ ap (hardware app.bits) (sym same)
    where
      lowest : (v b m old new : ℕ) → min v (min b m) ≡ old → new < old → min v (min new m) ≡ new
      lowest v b m old new is less = omega arith
  one_inside p c l base mask (Masked slot) is before =
      let same : max p (max c l) ≡ c = omega (arith, is.0) in
      let none : min (hardware app.bits p) (min (base_value base) 0) ≡ 0 = omega arith in
      none ∙ sym is.1 ∙ ap (hardware app.bits) (sym same)

  pub kind_here : (p : ℕ) (outer : List OpenSection) (h : OpenSection)
      → IsKindFor (storage app) (AtPriority p) (AtPriority p) outer h.section h.kind
      → IsMask (storage app) (AtPriority p) (ceiling app h.section)
      (max p (greatest_ceiling app (sections_of outer))) h.kind
  unfolding storage
  kind_here p outer h is = subst (λ l. IsMask (storage app) (AtPriority p) (ceiling app h.section) (max p l) h.kind)
      (ceilings_are outer) is

  -- the sections of a job at a priority, from masks that its priority is above
  pub inside : (p base : ℕ) (mask : Bool) (held : List OpenSection) → AreOfKind app img thread (AtPriority p) held
      → held_off (hardware app.bits p) base mask ≡ hardware app.bits p
      → held_off (hardware app.bits p) (base_inside app held base) (mask_inside app held mask) ≡ hardware app.bits
      (max p (greatest_ceiling app (sections_of held)))
  inside p base mask [] kinds start = let none : max p 0 ≡ p = omega arith in start ∙ ap (hardware app.bits) (sym none)
  inside p base mask (h ∷ outer) kinds start =
      one_inside p (ceiling app h.section) (greatest_ceiling app (sections_of outer)) (base_inside app outer base)
      (mask_inside app outer mask) h.kind
      (kind_here p outer h kinds.0) (inside p base mask outer kinds.1 start)

  -- masks that hold off less leave a job of a higher priority
  pub begins : (v base p l : ℕ) (mask : Bool) → held_off v base mask ≡ hardware app.bits l → l < p → p ≤ 2 ^ app.bits
      → held_off (hardware app.bits p) base mask ≡ hardware app.bits p
  unfolding held_off
  begins v base p l mask before above top =
      lowest v (base_value base) (mask_value mask) (hardware app.bits l) (hardware app.bits p) before
      (hardware_falls app.bits l p few many above top)
    where
      lowest : (v b m old new : ℕ) → min v (min b m) ≡ old → new < old → min new (min b m) ≡ new
      lowest v b m old new is less = omega arith

  masked : (held : List OpenSection) → mask_inside app held true ≡ true
  masked [] = refl
  masked (h ∷ outer) = by h.kind (masked outer)
    where
      by : (kind : SectionKind) → mask_inside app outer true ≡ true → mask_by kind (mask_inside app outer true) ≡ true
      by Marked is = is
      by (Raised slot) is = is
      by (Masked slot) is = refl

  -- of the thread
  of_init : (p : Part) → p.role ≡ Init → p.priority ≡ 2 ^ app.bits
      → held_off THREAD_VALUE (base_of app p []) (mask_of app p []) ≡ hardware app.bits
      (system_ceiling app (jobs_of p []))
  unfolding held_off
  of_init p role top =
      let set : mask_of app p [] ≡ true = ap (λ r. mask_inside app p.held (is_init r)) role ∙ masked p.held in
      let none : min THREAD_VALUE (min (base_value (base_of app p [])) 0) ≡ 0 = omega arith in
      ap (λ m. min THREAD_VALUE (min (base_value (base_of app p [])) (mask_value m))) set ∙ none
      ∙ sym (value_of_top app.bits (system_ceiling app (jobs_of p [])) (omega (arith, top)))

  at_thread : held_off (hardware app.bits 0) 0 false ≡ hardware app.bits 0
  unfolding held_off
  at_thread = let none : hardware app.bits 0 ≡ THREAD_VALUE = hardware_of_none app.bits few many in omega (arith, none)

  of_low : (p : Part) → who p ≡ AtPriority 0 → is_init p.role ≡ false → p.priority ≡ 0
      → AreOfKind app img thread (who p) p.held
      → held_off THREAD_VALUE (base_of app p []) (mask_of app p []) ≡ hardware app.bits
      (system_ceiling app (jobs_of p []))
  of_low p runner role low kinds =
      let none : hardware app.bits 0 ≡ THREAD_VALUE = hardware_of_none app.bits few many in
      let start : held_off (hardware app.bits 0) 0 false ≡ hardware app.bits 0 = at_thread in
      let in_all : held_off (hardware app.bits 0) (base_inside app p.held 0)
      (mask_inside app p.held false) ≡ hardware app.bits (max 0 (greatest_ceiling app (sections_of p.held)))
      = inside 0 0 false p.held (subst (λ w. AreOfKind app img thread w p.held) runner kinds) start in
      let one : max 0 (greatest_ceiling app (sections_of p.held)) ≡ system_ceiling app (jobs_of p []) =
      omega (arith, low) in
      ap (λ v. held_off v (base_of app p []) (mask_of app p [])) (sym none)
      ∙ ap (λ b. held_off (hardware app.bits 0) (base_of app p []) (mask_inside app p.held b)) role ∙ in_all
      ∙ ap (hardware app.bits) one

  of_thread : (p : Part) → IsThread app img thread p → AreOfKind app img thread (who p) p.held
      → held_off THREAD_VALUE (base_of app p []) (mask_of app p []) ≡ hardware app.bits
      (system_ceiling app (jobs_of p []))
  of_thread p is kinds = elim is.role [
    | inl init ↦ of_init p init (is.greatest init)
    | inr low ↦ elim low.0 [
      | inl idle ↦ of_low p (ap (λ r. runner_of r p.priority) idle ∙ ap AtPriority low.1) (ap is_init idle) low.1 kinds
      | inr waits ↦ of_low p (ap (λ r. runner_of r p.priority) waits ∙ ap AtPriority low.1)
          (ap is_init waits) low.1 kinds
    ]
  ]

  -- what the masks hold off is the system ceiling
  pub masks_are : (p : Part) (ps : List Part) → IsStacked app img thread p ps
      → AllByRecursion (λ q. AreOfKind app img thread (who q) q.held) (p ∷ ps)
      → held_off (running_value (contexts_of app.bits p ps)) (base_of app p ps) (mask_of app p ps) ≡ hardware app.bits
      (system_ceiling app (jobs_of p ps))
  masks_are p [] stack kinds = of_thread p stack kinds.0
  masks_are p (q ∷ ps) stack kinds =
      let on : IsOn app img thread p q ps = stack.0 in
      let start : held_off (hardware app.bits p.priority) (base_of app q ps)
      (mask_of app q ps) ≡ hardware app.bits p.priority
      = begins (running_value (contexts_of app.bits q ps)) (base_of app q ps) p.priority
      (system_ceiling app (jobs_of q ps))
      (mask_of app q ps) (masks_are q ps stack.1 kinds.1) on.above on.most in
      let same : max p.priority (greatest_ceiling app (sections_of p.held)) ≡ system_ceiling app (jobs_of p (q ∷ ps)) =
      omega (arith, on.above) in
      inside p.priority (base_of app q ps) (mask_of app q ps) p.held
      (subst (λ w. AreOfKind app img thread w p.held) (ap (λ r. runner_of r p.priority) on.serves) kinds.0) start
      ∙ ap (hardware app.bits) same

  -- the execution priority is the value of the system ceiling
  pub execution_is : (m : Coupling) → CouplingInvariant app img thread m
      → execution (core_of app.bits m) ≡ hardware app.bits (system_ceiling app (jobs_of m.running m.below))
  unfolding held_off
  execution_is m invariant =
      let v : ℕ = running_value (contexts_of app.bits m.running m.below) in
      ap (λ b. min v (min (base_value b) (mask_value m.primask))) invariant.basepri
      ∙ ap (λ k. min v (min (base_value (base_of app m.running m.below)) (mask_value k))) invariant.primask
      ∙ masks_are m.running m.below invariant.stack
      (all_weaker (PartInvariant app img thread m.cells m.queues m.values)
      (λ q. AreOfKind app img thread (who q) q.held)
      (λ q f. f.kinds) (m.running ∷ m.below) invariant.parts)
