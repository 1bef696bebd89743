-- Where posts go on the other core.
use Rattle.rt_live.proofs.Vocabulary.{AllByRecursion, Bool, Contains, IRQ_NUMBERS, Image, List, Names, None, Option}
use Rattle.rt_live.proofs.Vocabulary.{Some, [], ap, arith, cases_lt, cond, declared_irqs, false, find, if◌then◌else◌}
use Rattle.rt_live.proofs.Vocabulary.{inl, inr, irq_named, length, map, ne_eqb, none-some, option_map, refl, same_Some}
use Rattle.rt_live.proofs.Vocabulary.{slice_index_or, subst, sym, true, ℕ, ℕ_discrete, ◌++◌, ◌+◌, ◌<◌, ◌==◌, ◌∙◌, ◌∷◌}
use Rattle.rt_live.proofs.Vocabulary.{◌≡◌, ◌≤◌}
use Rattle.rt_dual.proofs.Vocabulary.{forward}
use Rattle.std.proofs.{Common.bytes_eq, Common.option_and_then, lemmas.List.get_or_append_left, lemmas.List.get_or_push}
use Rattle.rt_lemmas.proofs.{Lists.find_has, Membership.all_from_members}
use Rattle.rt_ids.specs.Names.{irq_of}
use Rattle.rt_words.proofs.Lists.{in_map}
use Rattle.rt_dual.specs.Forwarded.{enables, namesake}

-- an interrupt that the image does not enable goes by its name, if it has one
pub by_name : (img : Image) (other : Names) (irq : ℕ) → enables img irq ≡ false → (name : Option (List ℕ))
    → option_map (λ d. d.0) (irq_named img.names irq) ≡ name
    → forward img other irq ≡ option_and_then (irq_of other) name
by_name img other irq off name is =
    ap (λ b. if b then None else namesake img.names other irq) off ∙ at (irq_named img.names irq)
    ∙ ap (option_and_then (irq_of other)) is
  where
    at : (o : Option (List ℕ × ℕ))
        → option_and_then (λ d. irq_of other d.0) o ≡ option_and_then (irq_of other) (option_map (λ d. d.0) o)
    at None = refl
    at (Some d) = refl

-- the number of a declared interrupt
abbrev IsOneOf : List (List ℕ × ℕ) → List ℕ × ℕ → Type 0
IsOneOf irqs declared = Contains (map (λ (d : List ℕ × ℕ). d.1) irqs) declared.1

-- a number that a name has is declared
declared_of : (irqs : List (List ℕ × ℕ)) (name : List ℕ) (n : ℕ)
    → option_map (λ (d : List ℕ × ℕ). d.1) (find (λ (d : List ℕ × ℕ). bytes_eq name d.0) irqs) ≡ Some n
    → Contains (map (λ d. d.1) irqs) n
declared_of irqs name n is = by (find (λ (d : List ℕ × ℕ). bytes_eq name d.0) irqs) refl is
  where
    by : (o : Option (List ℕ × ℕ)) → find (λ (d : List ℕ × ℕ). bytes_eq name d.0) irqs ≡ o
        → option_map (λ (d : List ℕ × ℕ). d.1) o ≡ Some n → Contains (map (λ (d : List ℕ × ℕ). d.1) irqs) n
    by None found same = absurd (none-some n same)
    by (Some d) found same =
        subst (Contains (map (λ (e : List ℕ × ℕ). e.1) irqs)) (same_Some _ _ same)
        (find_has (IsOneOf irqs) (λ (e : List ℕ × ℕ). bytes_eq name e.0) irqs d
        (all_from_members (IsOneOf irqs) irqs (λ e has. in_map (λ (x : List ℕ × ℕ). x.1) e irqs has)) found)

-- what is forwarded is declared there
pub forwards_declared : (img : Image) (other : Names) (irq n : ℕ) → forward img other irq ≡ Some n
    → Contains (declared_irqs other) n
forwards_declared img other irq n is = by (enables img irq) is
  where
    at : (o : Option (List ℕ × ℕ)) → option_and_then (λ d. irq_of other d.0) o ≡ Some n
        → Contains (declared_irqs other) n
    at None same = absurd (none-some n same)
    at (Some d) same = declared_of other.irqs d.0 n same

    by : (b : Bool) → (if b then None else namesake img.names other irq) ≡ Some n → Contains (declared_irqs other) n
    by true same = absurd (none-some n same)
    by false same = at (irq_named img.names irq) same

-- no interrupt above all declared ones has a name
unnamed_above : (irqs : List (List ℕ × ℕ)) (irq : ℕ)
    → AllByRecursion (λ n. n < IRQ_NUMBERS) (map (λ (d : List ℕ × ℕ). d.1) irqs) → IRQ_NUMBERS ≤ irq
    → find (λ (d : List ℕ × ℕ). d.1 == irq) irqs ≡ None
unnamed_above [] irq low high = refl
unnamed_above (d ∷ irqs) irq low high =
    ap (λ (b : Bool). cond b (Some d) (find (λ (e : List ℕ × ℕ). e.1 == irq) irqs))
    (ne_eqb d.1 irq (λ same. omega (arith, same, low.0, high)))
    ∙ unnamed_above irqs irq low.1 high

-- the table of a core whose declared interrupts are in range
pub leads : (img : Image) (other : Names) (routes : ℕ → Option ℕ)
    → AllByRecursion (λ irq. irq < IRQ_NUMBERS) (declared_irqs img.names)
    → ((irq : ℕ) → irq < IRQ_NUMBERS → routes irq ≡ forward img other irq)
    → ((irq : ℕ) → IRQ_NUMBERS ≤ irq → routes irq ≡ None) → (irq : ℕ) → routes irq ≡ forward img other irq
leads img other routes low there above irq = elim (cases_lt irq IRQ_NUMBERS) [
  | inl less ↦ there irq less
  | inr more ↦ above irq more ∙ sym (none (enables img irq) more)
]
  where
    none : (b : Bool) → IRQ_NUMBERS ≤ irq → (if b then None else namesake img.names other irq) ≡ None
    none true more = refl
    none false more =
        ap (λ (o : Option (List ℕ × ℕ)). option_and_then (λ d. irq_of other d.0) o)
        (unnamed_above img.names.irqs irq low more)

-- a table of places grows by one
pub places_more : (f : ℕ → Option ℕ) (xs : List (Option ℕ)) (x : Option ℕ) (n : ℕ) → length xs ≡ n
    → ((irq : ℕ) → irq < n → slice_index_or xs irq None ≡ f irq) → x ≡ f n
    → (irq : ℕ) → irq < n + 1 → slice_index_or (xs ++ x ∷ []) irq None ≡ f irq
places_more f xs x n long so_far is irq low = elim (ℕ_discrete irq n) [
  | yes e ↦ get_or_push xs x None irq (long ∙ sym e) ∙ is ∙ ap f (sym e)
  | no ne ↦ get_or_append_left xs (x ∷ []) None irq (omega (arith, low, ne, long)) ∙ so_far irq (omega (arith, low, ne))
]
