-- Which names may be declared, and which are new.
use Rattle.std.proofs.Common.{◌≡◌, ◌≤◌, ◌<◌, ℕ, true, false, not, ◌&&◌, nat_le, nat_lt, List, [], ◌∷◌, length, Option}
use Rattle.std.proofs.Common.{Some, None, is_none, refl, ap, arith, sym, subst, ◌∙◌, Bool, if◌then◌else◌}
use Rattle.std.specs.Bool.{Decides}
use Rattle.std.proofs.lemmas.Bool.{leb-true, le-leb, ltb-true}
use Rattle.rt_lemmas.proofs.Bools.{and_parts, and_both, not_true}
use Rattle.rt_ids.specs.Lists.{is_empty}
use Rattle.rt_ids.specs.Names.{Names, irq_of, task_index, resource_of}
use Rattle.rt_ids.specs.Word.{IsName, is_identifier, is_word}
use Rattle.rt_ids.specs.declared.limits.TheConstants.{NAME_BYTES, IRQS, TASKS, SHARED}
use Rattle.rt_load.specs.Loadable.{has_dot}
use Rattle.rt_load.specs.Inside.Taking.{may_declare, is_new_irq, is_new_task, is_new_resource, may_name_cell, has_blank}
use Rattle.rt_load.specs.Inside.Taking.{may_add_body, has_cells}
use Rattle.rt_load.specs.declared.front.Front.{Front}

some_byte : (name : List ℕ) → is_identifier name ≡ true → 1 ≤ length name
some_byte [] h = absurd (cc)
some_byte (b ∷ name) h = omega arith

pub named : (name : List ℕ) → may_declare name ≡ true → IsName name
named name h =
    let both = and_parts (nat_le (length name) NAME_BYTES && is_identifier name) (not (is_word name)) h in
    let first = and_parts (nat_le (length name) NAME_BYTES) (is_identifier name) both.0 in
    record {
      some = some_byte name first.1;
      short = leb-true (length name) NAME_BYTES first.0;
      identifier = first.1;
      no_word = not_true (is_word name) both.1;
    }

pub declares : (name : List ℕ) → IsName name → may_declare name ≡ true
declares name is =
    and_both (nat_le (length name) NAME_BYTES && is_identifier name) (not (is_word name))
    (and_both (nat_le (length name) NAME_BYTES) (is_identifier name) (le-leb (length name) NAME_BYTES is.short)
    is.identifier)
    (ap not is.no_word)

pub declarable : (name : List ℕ) → Decides (may_declare name) (IsName name)
declarable name = (λ h. named name h, λ is. declares name is)

none_from : (found : Option ℕ) → is_none found ≡ true → found ≡ None
none_from None h = refl
none_from (Some n) h = absurd (cc)

-- a name that is new: it may be declared, is not found, and there is room for it
pub record IsNew (name : List ℕ) (found : Option ℕ) (count room : ℕ) : Type 0 where
  pub named : IsName name
  pub unknown : found ≡ None
  pub below : count < room

pub new_from : (name : List ℕ) (found : Option ℕ) (count room : ℕ)
    → (may_declare name && is_none found && nat_lt count room) ≡ true
    → IsNew name found count room
new_from name found count room h =
    let both = and_parts (may_declare name && is_none found) (nat_lt count room) h in
    let first = and_parts (may_declare name) (is_none found) both.0 in
    record { named = named name first.0; unknown = none_from found first.1; below = ltb-true count room both.1 }

-- the same of a text that is the name
pub irq_new : (names : Names) (name text : List ℕ) → text ≡ name → is_new_irq names name ≡ true
    → IsNew text (irq_of names text) (length names.irqs) IRQS
irq_new names name text same new = new_from text (irq_of names text) (length names.irqs) IRQS
    (subst (λ (n : List ℕ). is_new_irq names n ≡ true) (sym same) new)

-- where a cell of no dot may be named so
pub resource_new : (names : Names) (name text : List ℕ) → text ≡ name → has_dot name ≡ false → may_name_cell names name
    ≡ true
    → IsNew text (resource_of names text) (length names.shared) SHARED
resource_new names name text same no_dot may =
    let new : is_new_resource names name ≡ true =
    sym (ap (λ (b : Bool). if b then not (has_blank name) else is_new_resource names name) no_dot) ∙ may in
    new_from text (resource_of names text) (length names.shared) SHARED
    (subst (λ (n : List ℕ). is_new_resource names n ≡ true) (sym same) new)

-- where a body of a task of this name may be added
pub task_new : (front : Front) (name : List ℕ) → may_add_body front name ≡ true
    → IsNew name (task_index front.image.names name) (length front.image.names.tasks) TASKS
task_new front name may =
    let both = and_parts (has_cells front && is_empty front.image.code) (is_new_task front.image.names name) may in
    new_from name (task_index front.image.names name) (length front.image.names.tasks) TASKS both.1
