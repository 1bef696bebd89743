-- What is found in a list passes the test and stands there, and names that differ are found where they stand.
use Rattle.std.proofs.Common.{◌≡◌, ◌==◌, ◌<◌, ℕ, Bool, true, List, [], length, map, get_or, find}
use Rattle.std.proofs.Common.{position, bytes_eq, Option, Some, None, IsSome, refl, ap, sym, ◌∙◌, arith}
use Rattle.std.proofs.Common.{slice_index_or, slice_get}
use Rattle.std.specs.Bool.{Decides}
use Rattle.std.specs.List.{AllByRecursion, position_or_len}
use Rattle.std.proofs.lemmas.Bool.{false_from_ne_true, lt-ltb, eqb-true, eq-eqb}
use Rattle.std.proofs.lemmas.List.Folds.{find_at}
use Rattle.std.proofs.lemmas.List.Sums.{position_or_len_is}
use Rattle.std.proofs.lemmas.Option.{slice_get-get_or, slice_get_within, get_or_from_slice_get}
use Rattle.std.proofs.lemmas.Slice.Eq.{bytes_eq-Decides}
use Rattle.std.specs.Prelude.{is_some}
use Rattle.rt_lemmas.proofs.Lists.{find_has, mapped_at, found_passes, found}
use Rattle.rt_lemmas.proofs.Membership.{all_at, all_from_members, contains_at}
use Rattle.rt_ids.specs.Lists.{AreDifferent}
use Rattle.rt_ids.specs.Names.{Names, AreNames, irq_of, task_index, resource_of}
use Rattle.rt_ids.specs.Naming.{irq_named, irq_name, task_name, resource_name, IsDeclared, IsTask}
use Rattle.rt_ids.specs.Word.{IsName, is_identifier}

pub found_at : {X : Type 0} (test : X → Bool) (xs : List X) (y : X) → find test xs ≡ Some y → (i : ℕ)
    × (slice_get xs i ≡ Some y)
found_at test xs y is = (position_or_len test xs, sym (find_at test xs) ∙ is)

-- where no two rows have one key, the first of a row's key is that row
key_first : {X K : Type 0} (key : X → K) (test : X → Bool) (xs : List X) (i : ℕ) (x : X)
    → ((j k : ℕ) (y z : X) → slice_get xs j ≡ Some y → slice_get xs k ≡ Some z → key y ≡ key z → j ≡ k)
    → slice_get xs i ≡ Some x
    → ((y : X) → Decides (test y) (key x ≡ key y)) → position_or_len test xs ≡ i
key_first key test xs i x alone at decides =
    let within : i < length xs = slice_get_within xs i x at in
    position_or_len_is test xs i x (omega (arith, within))
    (λ k below. false_from_ne_true (test (get_or xs k x)) (λ e.
    let same : i ≡ k = alone i k x (get_or xs k x) at (slice_get-get_or xs k x (omega (arith, below, within)))
    ((decides (get_or xs k x)).0 e) in omega (arith, same, below)))
    (λ _. (decides (get_or xs i x)).1 (ap key (sym (get_or_from_slice_get xs i x x at))))

pub key_found : {X K : Type 0} (key : X → K) (test : X → Bool) (xs : List X) (i : ℕ) (x : X)
    → AreDifferent (map key xs) → slice_get xs i ≡ Some x → ((y : X) → Decides (test y) (key x ≡ key y))
    → find test xs ≡ Some x
key_found key test xs i x differ at decides =
    find_at test xs ∙ ap (slice_get xs) (key_first key test xs i x
    (λ j k y z here there same. differ j k (key z) (mapped_at key xs j y here
    ∙ ap Some same) (mapped_at key xs k z there))
    at decides) ∙ at

text_found : (texts : List (List ℕ)) (i : ℕ) → AreDifferent texts → i < length texts
    → position (bytes_eq (get_or texts i [])) texts ≡ Some i
text_found texts i differ within =
    let name = get_or texts i [] in
    let index : position_or_len (bytes_eq name) texts ≡ i = key_first (λ (text : List ℕ). text) (bytes_eq name) texts i
    name (λ j k y z here there same. differ j k z (here ∙ ap Some same) there) (slice_get-get_or texts i [] within)
    (bytes_eq-Decides name) in
    rw (index, lt-ltb i (length texts) within) refl

pub task_found : (names : Names) (task : ℕ) → AreNames names → IsTask names task
    → task_index names (task_name names task) ≡ Some task
task_found names task are within = text_found names.tasks task are.tasks_differ within

pub resource_found : (names : Names) (resource : ℕ) → AreNames names → resource < length names.shared
    → resource_of names (resource_name names resource) ≡ Some resource
resource_found names resource are within = text_found names.shared resource are.shared_differ within

pub declared_row : (names : Names) (irq : ℕ) → IsDeclared names irq
    → (row : List ℕ × ℕ) × (irq_named names irq ≡ Some row)
declared_row names irq declared = is_some_is (irq_named names irq) declared
  where
    is_some_is : {A : Type 0} (o : Option A) → IsSome o → (x : A) × (o ≡ Some x)
    is_some_is None some = absurd (cc)
    is_some_is (Some x) some = (x, refl)

pub irq_known : (names : Names) (irq : ℕ) → AreNames names → IsDeclared names irq
    → (is_identifier (irq_name names irq) ≡ true) × (irq_of names (irq_name names irq) ≡ Some irq)
irq_known names irq are declared =
    let numbered : List ℕ × ℕ → Bool = λ other. other.1 == irq in
    let hit = declared_row names irq declared in
    let row = hit.0 in
    let named : IsName row.0 = find_has (λ
    (other : List ℕ × ℕ). IsName other.0) numbered names.irqs row are.irqs hit.1 in
    let there = found_at numbered names.irqs row hit.1 in
    let known : find (λ other. bytes_eq row.0 other.0) names.irqs ≡ Some row =
    key_found (λ (other : List ℕ × ℕ). other.0)
    (λ other. bytes_eq row.0 other.0) names.irqs there.0 row are.irqs_differ there.1
    (λ y. bytes_eq-Decides row.0 y.0) in
    rw (hit.1, known) (named.identifier, ap Some (eqb-true row.1 irq (found_passes numbered names.irqs row hit.1)))

pub name_at : (texts : List (List ℕ)) (i : ℕ) → AllByRecursion IsName texts → i < length texts
    → IsName (slice_index_or texts i [])
name_at texts i all within = all_at IsName texts i (slice_index_or texts i []) all (slice_get-get_or texts i [] within)

-- a declared interrupt is found by its number
pub irqs_declared : (names : Names) → AllByRecursion (λ irq. IsDeclared names irq.1) names.irqs
irqs_declared names =
    all_from_members (λ irq. IsDeclared names irq.1) names.irqs
    (λ irq there. let at = contains_at names.irqs irq there in
    ap is_some (found (λ other. other.1 == irq.1) names.irqs at.0 irq at.1 (eq-eqb irq.1 irq.1 refl)).1)
