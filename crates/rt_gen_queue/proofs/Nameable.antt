-- What has to be known of lines for them to name only what is declared.
use Rattle.rt_gen_queue.proofs.Vocabulary.{AllByRecursion, App, IsDeclared, Instr, IsNameable, IsSome, Line, List}
use Rattle.rt_gen_queue.proofs.Vocabulary.{Names, None, Note, Option, Some, [], ap, drop, drop_at, eq-eqb}
use Rattle.rt_gen_queue.proofs.Vocabulary.{irq_number, length, map, mapped_at, names_of, option_map}
use Rattle.rt_gen_queue.proofs.Vocabulary.{or_zero, refl, subst, sym, ℕ, ◌++◌, ◌<◌, ◌==◌, ◌∙◌, ◌∷◌, ◌≡◌}
use Rattle.rt_lemmas.proofs.Lists.{found, some_at}
use Rattle.rt_app.specs.declared.app.IrqDecl.{IrqDecl}
use Rattle.rt_code.specs.declared.instr.Instr.TheVariants as instr

-- of a line with a note all, of one without that its interrupt is declared, where it has one; and the rest
abbrev Needs : Names → Option Note → Instr → Type 0 → Type 0
Needs names (Some told) i rest = IsNameable names (i, Some told) × rest
Needs names None (instr.Post irq) rest = IsDeclared names irq × rest
Needs names None (instr.Alarm s irq) rest = IsDeclared names irq × rest
Needs names None i rest = rest

abbrev pub AreClaimed : Names → List Line → Type 0
AreClaimed names [] = Unit {0}
AreClaimed names (line ∷ lines) = Needs names line.1 line.0 (AreClaimed names lines)

pub nameable : (names : Names) (lines : List Line) → AreClaimed names lines → AllByRecursion (IsNameable names) lines
nameable names [] claimed = tt
nameable names (line ∷ lines) claimed =
    let both = go line.1 line.0 (AreClaimed names lines) claimed in (both.0, nameable names lines both.1)
  where
    go : (told : Option Note) (i : Instr) (Rest : Type 0) → Needs names told i Rest → IsNameable names (i, told) × Rest
    go (Some told) i Rest needs = needs
    go None (instr.Post irq) Rest needs = (record { instr = needs.0; note = tt }, needs.1)
    go None (instr.Alarm s irq) Rest needs = (record { instr = needs.0; note = tt }, needs.1)
    go None i Rest needs = (record { instr = tt; note = tt }, needs)

-- lines after lines
pub claimed_both : (names : Names) (xs ys : List Line) → AreClaimed names xs → AreClaimed names ys
    → AreClaimed names (xs ++ ys)
claimed_both names [] ys front back = back
claimed_both names (line ∷ xs) ys front back =
    go line.1 line.0 (AreClaimed names xs) (AreClaimed names (xs ++ ys)) (λ rest. claimed_both names xs ys rest back)
    front
  where
    go : (told : Option Note) (i : Instr) (A B : Type 0) → (A → B) → Needs names told i A → Needs names told i B
    go (Some told) i A B on needs = (needs.0, on needs.1)
    go None (instr.Post irq) A B on needs = (needs.0, on needs.1)
    go None (instr.Alarm s irq) A B on needs = (needs.0, on needs.1)
    go None i A B on needs = on needs

-- a line for each of some things
pub claimed_each : {X : Type 0} (names : Names) (f : X → Line) (xs : List X)
    → ((x : X) → AreClaimed names (f x ∷ [])) → AreClaimed names (map f xs)
claimed_each names f [] each = tt
claimed_each names f (x ∷ xs) each = claimed_both names (f x ∷ []) (map f xs) (each x) (claimed_each names f xs each)

-- what was put after other lines
pub named_behind : (names : Names) (front new code : List Line) → new ≡ front ++ code → AreClaimed names code
    → AllByRecursion (IsNameable names) (drop (length front) new)
named_behind names front new code is claimed =
    subst (AllByRecursion (IsNameable names))
    (sym (ap (drop (length front)) is ∙ drop_at front code (length front) refl))
    (nameable names code claimed)

-- the number of a declared interrupt stands in the names
pub irq_declared : (app : App) (i : ℕ) → i < length app.irqs → IsDeclared (names_of app) (or_zero (irq_number app i))
irq_declared app i within =
    let one : (d : IrqDecl) × _ = some_at app.irqs i within in
    let number : ℕ = or_zero (irq_number app i) in
    let is : number ≡ one.0.number = ap (λ o. or_zero (option_map (λ d. d.number) o)) one.1 in
    let there =
    found (λ irq. irq.1 == number) (map (λ d. (d.name, d.number)) app.irqs) i (one.0.name, one.0.number)
    (mapped_at (λ d. (d.name, d.number)) app.irqs i one.0 one.1) (eq-eqb one.0.number number (sym is)) in
    subst IsSome (sym there.1) refl
