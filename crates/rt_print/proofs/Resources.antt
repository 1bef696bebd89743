-- The texts of interrupts, of the monotonic and of resources are read as them.
use Rattle.std.proofs.Common.{◌≡◌, ℕ, ◌-◌, ◌<◌, ◌≤◌, Bool, true, false, List, [], ◌∷◌, ◌++◌, map, length, Option, Some}
use Rattle.std.proofs.Common.{None, refl, ap, arith, append_assoc}
use Rattle.std.specs.Prelude.{codes, decimal, option_map}
use Rattle.std.specs.List.{AllByRecursion}
use Rattle.rt_ids.specs.declared.limit.Limit.{Limit}
use Rattle.rt_ids.specs.declared.limit.Limit.TheVariants as limit
use Rattle.rt_ids.specs.declared.limits.TheConstants.{SHARED, LOCALS, IRQS, IRQ_NUMBERS}
use Rattle.rt_ast.specs.declared.ident.Ident.{Ident}
use Rattle.rt_ast.specs.declared.app.IrqTree.{IrqTree}
use Rattle.rt_ast.specs.declared.app.MonoTree.{MonoTree}
use Rattle.rt_ast.specs.declared.app.SharedTree.{SharedTree}
use Rattle.rt_ast.specs.declared.app.LocalTree.{LocalTree}
use Rattle.rt_ast.specs.Bare.{bare_irq, bare_mono, bare_resource, bare_local}
use Rattle.rt_ast.specs.CanonicalExpression.{newline, name_text}
use Rattle.rt_ast.specs.Canonical.{braced_list, irq_text, irqs_text, mono_text, lock_free_text, resource_text}
use Rattle.rt_ast.specs.Canonical.{shared_text, local_text, locals_text}
use Rattle.rt_ast.specs.PrintableBody.{IsPrintableNumber}
use Rattle.rt_ast.specs.Printable.{IfThere, IsPrintableIrq, IsPrintableMono, IsPrintableResource, IsPrintableLocal}
use Rattle.rt_grammar.specs.Language.{gives, ◌or◌}
use Rattle.rt_grammar.specs.Tokens.{free, name, limited_name, number, limited_number, sign, word, limited_word}
use Rattle.rt_grammar.specs.Limits.{within, at_most}
use Rattle.rt_grammar.specs.Resources.{interrupt, interrupts, monotonic, first_value, lock_free, locked_resource}
use Rattle.rt_grammar.specs.Resources.{shared_resources, local, locals}
use Rattle.rt_print.proofs.Reading.{Reads, Any, read_gives, read_then, read_left, read_right, read_space, read_trail}
use Rattle.rt_print.proofs.Reading.{read_same}
use Rattle.rt_print.proofs.Lexemes.{Stops, IsNamed, IsNumber, read_name, read_number, read_word, read_sign}
use Rattle.rt_print.proofs.Lists.{IsEnd}
use Rattle.rt_print.proofs.Declared.{at_most_free, within_free, enclosed_reads}

abbrev pub AreAll : {A : Type 0} → (A → A) → List A → List A → Type 0
AreAll view xs all = map view all ≡ map view xs

-- a name, a sign of equality and a number
assigned_append : (x : Ident) (n : ℕ) (Y : List ℕ) → (name_text x ++ codes " = " ++ decimal n) ++ Y ≡ x.name
    ++ (codes " = " ++ (decimal n ++ Y))
assigned_append x n Y = simp append_assoc refl

irq_reads : (irq : IrqTree) (before : ℕ) (Y : List ℕ) → IsPrintableIrq irq → before < IRQS → IsEnd Y
    → Reads (interrupt before) (λ x. bare_irq x ≡ bare_irq irq) (irq_text irq ++ Y) Y
irq_reads irq before Y h few ends =
    let P : IrqTree → Type 0 = λ x. bare_irq x ≡ bare_irq irq in
    let n = irq.number.value in
    let N = decimal n ++ Y in
    let what : ℕ → Option Limit = within 0 (IRQ_NUMBERS - 1) limit.Interrupt in
    read_same (interrupt before) P (irq.name.name ++ (codes " = " ++ N)) (irq_text irq ++ Y) Y
    (assigned_append irq.name n Y)
    (read_then (limited_name (at_most IRQS limit.Interrupts before)) _ (IsNamed irq.name) P
    (irq.name.name ++ (codes " = " ++ N)) (codes " = " ++ N) Y
    (read_name irq.name (at_most IRQS limit.Interrupts before) (codes " = " ++ N) h.0
    (at_most_free IRQS limit.Interrupts before few) refl) (λ x e.
    read_space _ P (codes "= " ++ N) Y
    (read_then (sign (codes "=")) _ Any P (codes "= " ++ N) (32 ∷ N) Y (read_sign (codes "=") free (32 ∷ N) refl refl)
    (λ c u.
    read_space _ P N Y
    (read_then (limited_number what) _ (IsNumber n) P N Y Y
    (read_number n what Y (omega (arith, h.1)) (within_free 0 (IRQ_NUMBERS - 1) limit.Interrupt n (omega arith)
    (omega (arith, h.1))) ends.stops) (λ m f.
    read_gives P (record { name = x; number = m }) Y (rw (e, f) refl)))))))

pub irqs_read : (irqs : List IrqTree) (Y : List ℕ) → AllByRecursion IsPrintableIrq irqs → length irqs ≤ IRQS
    → Reads interrupts (AreAll bare_irq irqs) (irqs_text irqs ++ Y) Y
irqs_read irqs Y h few =
    let P = AreAll bare_irq irqs in
    let E = braced_list irq_text irqs ++ 10 ∷ Y in
    read_trail interrupts P (irqs_text irqs ++ Y) Y
    (read_same interrupts P (codes "interrupts " ++ E) (irqs_text irqs ++ Y) (10 ∷ Y)
    (ap (λ (t : List ℕ). codes "interrupts " ++ t) (append_assoc (braced_list irq_text irqs) newline Y))
    (read_then (word (codes "interrupts")) _ Any P (codes "interrupts " ++ E) (32 ∷ E) (10 ∷ Y)
    (read_word (codes "interrupts") free (32 ∷ E) refl refl) (λ c u.
    read_space _ P E (10 ∷ Y)
    (enclosed_reads interrupt irq_text bare_irq IsPrintableIrq IRQS irqs (10 ∷ Y) (record { read = irq_reads }) h
    few))))

mono_append : (mono : MonoTree) (Y : List ℕ)
    → mono_text (Some mono) ++ Y ≡ codes "monotonic(binds = "
    ++ (mono.binds.name ++ (codes ", priority = " ++ (decimal mono.priority.value ++ (codes ");" ++ 10 ∷ Y))))
mono_append mono Y = simp append_assoc refl

-- the same, where it is there
abbrev pub IsMaybe : {A : Type 0} → (A → A) → Option A → Option A → Type 0
IsMaybe view x y = option_map view y ≡ option_map view x

pub mono_reads : (mono : Option MonoTree) (Y : List ℕ) → IfThere IsPrintableMono mono
    → Reads monotonic (IsMaybe bare_mono mono) (mono_text mono ++ Y) Y
mono_reads None Y h = read_left (gives None) _ (IsMaybe bare_mono None) Y Y
    (read_gives (IsMaybe bare_mono None) None Y refl)
mono_reads (Some mono) Y h =
    let P = IsMaybe bare_mono (Some mono) in
    let n = mono.priority.value in
    let E = 41 ∷ 59 ∷ 10 ∷ Y in
    let D = decimal n ++ E in
    let C = codes ", priority = " ++ D in
    let N = mono.binds.name ++ C in
    read_trail monotonic P (mono_text (Some mono) ++ Y) Y
    (read_same monotonic P (codes "monotonic(binds = " ++ N) (mono_text (Some mono) ++ Y) (10 ∷ Y) (mono_append mono Y)
    (read_right (gives None) _ P (codes "monotonic(binds = " ++ N) (10 ∷ Y)
    (read_then (word (codes "monotonic")) _ Any P (codes "monotonic(binds = " ++ N)
    (codes "(binds = " ++ N) (10 ∷ Y) (read_word (codes "monotonic") free (codes "(binds = " ++ N) refl refl)
    (λ c1 u1.
    read_then (sign (codes "(")) _ Any P (codes "(binds = " ++ N) (codes "binds = " ++ N) (10 ∷ Y)
    (read_sign (codes "(") free (codes "binds = " ++ N) refl refl) (λ c2 u2.
    read_then (word (codes "binds")) _ Any P (codes "binds = " ++ N) (codes " = " ++ N) (10 ∷ Y)
    (read_word (codes "binds") free (codes " = " ++ N) refl refl) (λ c3 u3.
    read_space _ P (codes "= " ++ N) (10 ∷ Y)
    (read_then (sign (codes "=")) _ Any P (codes "= " ++ N) (32 ∷ N) (10 ∷ Y)
    (read_sign (codes "=") free (32 ∷ N) refl refl) (λ c4 u4.
    read_space _ P N (10 ∷ Y)
    (read_then name _ (IsNamed mono.binds) P N C (10 ∷ Y) (read_name mono.binds free C h.0 refl refl) (λ x e.
    read_then (sign (codes ",")) _ Any P C (codes " priority = " ++ D) (10 ∷ Y)
    (read_sign (codes ",") free (codes " priority = " ++ D) refl refl) (λ c5 u5.
    read_space _ P (codes "priority = " ++ D) (10 ∷ Y)
    (read_then (word (codes "priority")) _ Any P (codes "priority = " ++ D) (codes " = " ++ D) (10 ∷ Y)
    (read_word (codes "priority") free (codes " = " ++ D) refl refl) (λ c6 u6.
    read_space _ P (codes "= " ++ D) (10 ∷ Y)
    (read_then (sign (codes "=")) _ Any P (codes "= " ++ D) (32 ∷ D) (10 ∷ Y)
    (read_sign (codes "=") free (32 ∷ D) refl refl) (λ c7 u7.
    read_space _ P D (10 ∷ Y)
    (read_then number _ (IsNumber n) P D E (10 ∷ Y) (read_number n (λ v. free) E h.1 refl refl) (λ m f.
    read_then (sign (codes ")")) _ Any P E (59 ∷ 10 ∷ Y) (10 ∷ Y) (read_sign (codes ")") free (59 ∷ 10 ∷ Y) refl refl)
    (λ c8 u8.
    read_then (sign (codes ";")) _ Any P (59 ∷ 10 ∷ Y) (10 ∷ Y) (10 ∷ Y) (read_sign (codes ";") free (10 ∷ Y) refl refl)
    (λ c9 u9.
    read_gives P (Some (record { binds = x; priority = m })) (10 ∷ Y) (rw (e, f) refl))))))))))))))))))))

abbrev IsValue : ℕ → ℕ → Type 0
IsValue n m = m ≡ n

first_reads : (n : ℕ) (Y : List ℕ) → IsPrintableNumber n → Stops Y → Reads first_value (IsValue n)
    (codes " = " ++ (decimal n ++ Y)) Y
first_reads n Y h stop =
    let P = IsValue n in
    let N = decimal n ++ Y in
    read_space first_value P (codes "= " ++ N) Y
    (read_then (sign (codes "=")) _ Any P (codes "= " ++ N) (32 ∷ N) Y (read_sign (codes "=") free (32 ∷ N) refl refl)
    (λ c u.
    read_space _ P N Y
    (read_then number _ (IsNumber n) P N Y Y (read_number n (λ v. free) Y h refl stop)
    (λ m e. read_gives P m.value Y e))))

abbrev IsResource : SharedTree → SharedTree → Type 0
IsResource r x = bare_resource x ≡ bare_resource r

resource_reads_by : (r : SharedTree) (here : Bool) (before : ℕ) (Y : List ℕ) → r.lock_free ≡ here
    → IsPrintableResource r → before < SHARED → IsEnd Y
    → Reads (lock_free before or locked_resource before) (IsResource r)
    ((lock_free_text here ++ name_text r.name ++ codes " = " ++ decimal r.first) ++ Y) Y
resource_reads_by r true before Y k h few ends =
    let P = IsResource r in
    let V = codes " = " ++ (decimal r.first ++ Y) in
    let N = r.name.name ++ V in
    read_left (lock_free before) (locked_resource before) P _ Y
    (read_same (lock_free before) P (codes "lock_free " ++ N) _ Y
    (ap (λ (t : List ℕ). codes "lock_free " ++ t) (assigned_append r.name r.first Y))
    (read_then (limited_word (codes "lock_free") (at_most SHARED limit.Shared before)) _ Any P (codes "lock_free " ++ N)
    (32 ∷ N) Y
    (read_word (codes "lock_free") (at_most SHARED limit.Shared before) (32 ∷ N)
    (at_most_free SHARED limit.Shared before few) refl) (λ c u.
    read_space _ P N Y
    (read_then name _ (IsNamed r.name) P N V Y (read_name r.name free V h.0 refl refl) (λ x e.
    read_then first_value _ (IsValue r.first) P V Y Y (first_reads r.first Y h.1 ends.stops) (λ n f.
    read_gives P (record { name = x; first = n; lock_free = true }) Y (rw (e, f, k) refl)))))))
resource_reads_by r false before Y k h few ends =
    let P = IsResource r in
    let V = codes " = " ++ (decimal r.first ++ Y) in
    let N = r.name.name ++ V in
    read_right (lock_free before) (locked_resource before) P _ Y
    (read_same (locked_resource before) P N _ Y (assigned_append r.name r.first Y)
    (read_then (limited_name (at_most SHARED limit.Shared before)) _ (IsNamed r.name) P N V Y
    (read_name r.name (at_most SHARED limit.Shared before) V h.0 (at_most_free SHARED limit.Shared before few) refl)
    (λ x e.
    read_then first_value _ (IsValue r.first) P V Y Y (first_reads r.first Y h.1 ends.stops) (λ n f.
    read_gives P (record { name = x; first = n; lock_free = false }) Y (rw (e, f, k) refl)))))

resource_reads : (r : SharedTree) (before : ℕ) (Y : List ℕ) → IsPrintableResource r → before < SHARED → IsEnd Y
    → Reads (lock_free before or locked_resource before) (IsResource r) (resource_text r ++ Y) Y
resource_reads r before Y h few ends = resource_reads_by r r.lock_free before Y refl h few ends

pub shared_reads : (rs : List SharedTree) (Y : List ℕ) → AllByRecursion IsPrintableResource rs → length rs ≤ SHARED
    → Reads shared_resources (AreAll bare_resource rs) (shared_text rs ++ Y) Y
shared_reads [] Y h few = read_left (gives []) _ (AreAll bare_resource []) Y Y
    (read_gives (AreAll bare_resource []) [] Y refl)
shared_reads (r ∷ rs) Y h few =
    let P = AreAll bare_resource (r ∷ rs) in
    let E = braced_list resource_text (r ∷ rs) ++ 10 ∷ Y in
    read_trail shared_resources P (shared_text (r ∷ rs) ++ Y) Y
    (read_same shared_resources P (codes "shared " ++ E) (shared_text (r ∷ rs) ++ Y) (10 ∷ Y)
    (ap (λ (t : List ℕ). codes "shared " ++ t) (append_assoc (braced_list resource_text (r ∷ rs)) newline Y))
    (read_right (gives []) _ P (codes "shared " ++ E) (10 ∷ Y)
    (read_then (word (codes "shared")) _ Any P (codes "shared " ++ E) (32 ∷ E) (10 ∷ Y)
    (read_word (codes "shared") free (32 ∷ E) refl refl) (λ c u.
    read_space _ P E (10 ∷ Y)
    (enclosed_reads (λ before. lock_free before or locked_resource before) resource_text bare_resource
    IsPrintableResource SHARED (r ∷ rs) (10 ∷ Y) (record { read = resource_reads }) h few)))))

local_reads : (r : LocalTree) (before : ℕ) (Y : List ℕ) → IsPrintableLocal r → before < LOCALS → IsEnd Y
    → Reads (local before) (λ x. bare_local x ≡ bare_local r) (local_text r ++ Y) Y
local_reads r before Y h few ends =
    let P : LocalTree → Type 0 = λ x. bare_local x ≡ bare_local r in
    let V = codes " = " ++ (decimal r.first ++ Y) in
    let N = r.name.name ++ V in
    read_same (local before) P N (local_text r ++ Y) Y (assigned_append r.name r.first Y)
    (read_then (limited_name (at_most LOCALS limit.Locals before)) _ (IsNamed r.name) P N V Y
    (read_name r.name (at_most LOCALS limit.Locals before) V h.0 (at_most_free LOCALS limit.Locals before few) refl)
    (λ x e.
    read_then first_value _ (IsValue r.first) P V Y Y (first_reads r.first Y h.1 ends.stops) (λ n f.
    read_gives P (record { name = x; first = n }) Y (rw (e, f) refl))))

pub locals_read : (rs : List LocalTree) (Y : List ℕ) → AllByRecursion IsPrintableLocal rs → length rs ≤ LOCALS
    → Reads locals (AreAll bare_local rs) (locals_text rs ++ Y) Y
locals_read [] Y h few = read_left (gives []) _ (AreAll bare_local []) Y Y (read_gives (AreAll bare_local []) [] Y refl)
locals_read (r ∷ rs) Y h few =
    let P = AreAll bare_local (r ∷ rs) in
    let E = braced_list local_text (r ∷ rs) ++ 10 ∷ Y in
    read_trail locals P (locals_text (r ∷ rs) ++ Y) Y
    (read_same locals P (codes "local " ++ E) (locals_text (r ∷ rs) ++ Y) (10 ∷ Y)
    (ap (λ (t : List ℕ). codes "local " ++ t) (append_assoc (braced_list local_text (r ∷ rs)) newline Y))
    (read_right (gives []) _ P (codes "local " ++ E) (10 ∷ Y)
    (read_then (word (codes "local")) _ Any P (codes "local " ++ E) (32 ∷ E) (10 ∷ Y)
    (read_word (codes "local") free (32 ∷ E) refl refl) (λ c u.
    read_space _ P E (10 ∷ Y)
    (enclosed_reads local local_text bare_local IsPrintableLocal LOCALS (r ∷ rs) (10 ∷ Y)
    (record { read = local_reads }) h few)))))
