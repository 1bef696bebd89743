-- The declarations and the bodies of texts are printable, and not too many.
use Rattle.std.proofs.Common.{◌≡◌, ℕ, ◌-◌, ◌<◌, ◌≤◌, Bool, true, false, not, ◌&&◌, List, [], ◌∷◌, length, Option, None}
use Rattle.std.proofs.Common.{Some, refl, ap, arith}
use Rattle.std.specs.List.{AllByRecursion}
use Rattle.rt_ids.specs.declared.limit.Limit.TheVariants as limit
use Rattle.rt_ids.specs.declared.limits.TheConstants.{TASKS, SHARED, LOCALS, IRQS, IRQ_NUMBERS, LEAST_BITS, MOST_BITS}
use Rattle.rt_ids.specs.declared.limits.TheConstants.{ARGUMENTS, CAPACITY}
use Rattle.rt_ast.specs.Tree.{Body, Task, Block}
use Rattle.rt_ast.specs.PrintableBody.{IsPrintableName, IsPrintableNumber}
use Rattle.rt_ast.specs.Printable.{IfThere, ArePrintableNames, IsPrintableIrq, IsPrintableMono, IsPrintableResource}
use Rattle.rt_ast.specs.Printable.{IsPrintableLocal, IsPrintableListed, IsPrintableBody, IsPrintablePriority}
use Rattle.rt_ast.specs.Printable.{IsPrintableCapacity, IsPrintableTask}
use Rattle.rt_grammar.specs.Tokens.{free, adds}
use Rattle.rt_grammar.specs.Tokens.{names}
use Rattle.rt_grammar.specs.Declaration.{dispatchers, fpu, Head, head}
use Rattle.rt_grammar.specs.Resources.{interrupt, interrupts, monotonic, first_value, lock_free, locked_resource}
use Rattle.rt_grammar.specs.Resources.{shared_resources, local, locals}
use Rattle.rt_grammar.specs.Options.{Options, no_options, Owner, OfTask, is_init, binds_option, priority_option}
use Rattle.rt_grammar.specs.Options.{capacity_option, listed_resource, shared_option, local_option, option, options}
use Rattle.rt_grammar.specs.Bodies.{or_empty, body_with, thread_body, parameters, task}
use Rattle.rt_parse.proofs.Keeps.{Keeps, AreFew, none_are_few, one_more_is_few, keeps_gives, keeps_then, keeps_or}
use Rattle.rt_parse.proofs.Keeps.{keeps_or_else, keeps_only_if, keeps_as, keeps_repeat, keeps_all, keeps_few}
use Rattle.rt_parse.proofs.KeepsTokens.{still_below, between, keeps_word, keeps_sign, keeps_this_name, keeps_name}
use Rattle.rt_parse.proofs.KeepsTokens.{keeps_number, keeps_list}
use Rattle.rt_parse.proofs.KeepsStatement.{IsBlockKept, keeps_block}

-- Declarations before the bodies.

keeps_names : Keeps names ArePrintableNames
keeps_names = keeps_then keeps_sign (λ at under. keeps_list ArePrintableNames
    (keeps_all (λ n. keeps_as (keeps_name {what = free}) (λ x h. h.name))) [] tt)

keeps_dispatchers : Keeps dispatchers ArePrintableNames
keeps_dispatchers = keeps_or_else tt (keeps_then keeps_sign
    (λ at under. keeps_then keeps_word (λ at under. keeps_then keeps_sign (λ equals under. keeps_names))))

-- nothing is asked of it
keeps_fpu : Keeps fpu (λ on. Unit {0})
keeps_fpu = keeps_or_else tt (keeps_then keeps_sign (λ at under. keeps_then keeps_this_name (λ at under.
    keeps_then keeps_sign (λ equals under. keeps_then keeps_this_name (λ at under. keeps_gives tt)))))

pub record IsHeadKept (h : Head) : Type 0 where
  pub name : IsPrintableName h.name
  pub bits : (LEAST_BITS ≤ h.bits) × (h.bits ≤ MOST_BITS)
  pub dispatchers : ArePrintableNames h.dispatchers

pub keeps_head : Keeps head IsHeadKept
keeps_head =
    keeps_then keeps_word (λ at under. keeps_then keeps_name
    (λ x h. keeps_then keeps_sign (λ opened under. keeps_then keeps_word
    (λ at under. keeps_then keeps_sign (λ equals under.
    keeps_then keeps_number (λ n m. keeps_then keeps_dispatchers
    (λ ds all. keeps_then keeps_fpu (λ on any. keeps_then keeps_sign (λ closed under.
    keeps_then keeps_sign (λ end under.
    keeps_gives (record {
      name = h.name;
      bits = between LEAST_BITS MOST_BITS n.value limit.Bits m.free;
      dispatchers =
          all;
    })))))))))))

keeps_interrupt : (before : ℕ) → Keeps (interrupt before) (λ irq. IsPrintableIrq irq × (before < IRQS))
keeps_interrupt before =
    keeps_then keeps_name (λ x h. keeps_then keeps_sign (λ equals under. keeps_then keeps_number (λ n m.
    let below = between 0 (IRQ_NUMBERS - 1) n.value limit.Interrupt m.free in
    keeps_gives ((h.name, omega (arith, below.1)), still_below IRQS before limit.Interrupts h.free))))

pub keeps_interrupts : Keeps interrupts (AreFew IsPrintableIrq IRQS)
keeps_interrupts = keeps_then keeps_word (λ at under. keeps_then keeps_sign
    (λ opened under. keeps_list (AreFew IsPrintableIrq IRQS) (keeps_few keeps_interrupt) []
    (none_are_few IsPrintableIrq IRQS)))

pub keeps_monotonic : Keeps monotonic (IfThere IsPrintableMono)
keeps_monotonic =
    keeps_or_else tt (keeps_then keeps_word (λ at under. keeps_then keeps_sign
    (λ opened under. keeps_then keeps_word (λ at under. keeps_then keeps_sign (λ equals under.
    keeps_then keeps_name (λ irq h. keeps_then keeps_sign
    (λ comma under. keeps_then keeps_word (λ at under. keeps_then keeps_sign
    (λ equals under. keeps_then keeps_number (λ n m.
    keeps_then keeps_sign (λ closed under. keeps_then keeps_sign
    (λ end under. keeps_gives (h.name, m.number)))))))))))))

keeps_first_value : Keeps first_value IsPrintableNumber
keeps_first_value = keeps_then keeps_sign (λ equals under. keeps_then keeps_number (λ n m. keeps_gives m.number))

keeps_lock_free : (before : ℕ) → Keeps (lock_free before) (λ r. IsPrintableResource r × (before < SHARED))
keeps_lock_free before =
    keeps_then keeps_word (λ at under. keeps_then keeps_name
    (λ x h. keeps_then keeps_first_value (λ n m. keeps_gives (
      (h.name, m),
      still_below SHARED before limit.Shared under,
    ))))

keeps_locked : (before : ℕ) → Keeps (locked_resource before) (λ r. IsPrintableResource r × (before < SHARED))
keeps_locked before = keeps_then keeps_name (λ x h. keeps_then keeps_first_value
    (λ n m. keeps_gives ((h.name, m), still_below SHARED before limit.Shared h.free)))

pub keeps_shared : Keeps shared_resources (AreFew IsPrintableResource SHARED)
keeps_shared =
    keeps_or_else (none_are_few IsPrintableResource SHARED)
    (keeps_then keeps_word (λ at under. keeps_then keeps_sign (λ opened under.
    keeps_list (AreFew IsPrintableResource SHARED)
    (keeps_few (λ before. keeps_or (keeps_lock_free before) (keeps_locked before))) []
    (none_are_few IsPrintableResource SHARED))))

keeps_local : (before : ℕ) → Keeps (local before) (λ r. IsPrintableLocal r × (before < LOCALS))
keeps_local before = keeps_then keeps_name (λ x h. keeps_then keeps_first_value
    (λ n m. keeps_gives ((h.name, m), still_below LOCALS before limit.Locals h.free)))

pub keeps_locals : Keeps locals (AreFew IsPrintableLocal LOCALS)
keeps_locals =
    keeps_or_else (none_are_few IsPrintableLocal LOCALS)
    (keeps_then keeps_word (λ at under. keeps_then keeps_sign (λ opened under.
    keeps_list (AreFew IsPrintableLocal LOCALS) (keeps_few keeps_local) [] (none_are_few IsPrintableLocal LOCALS))))

-- Options.

-- the options of a body so far are printable, and `init` lists nothing shared
record AreOptionsKept (owner : Owner) (o : Options) : Type 0 where
  binds : IfThere IsPrintableName o.binds
  priority : IfThere IsPrintablePriority o.priority
  capacity : IfThere IsPrintableCapacity o.capacity
  shared : IfThere (AllByRecursion IsPrintableListed) o.shared
  local : IfThere ArePrintableNames o.local
  none : is_init owner ≡ true → o.shared ≡ None

keeps_binds : (owner : Owner) (o : Options) → AreOptionsKept owner o
    → Keeps (binds_option owner o) (AreOptionsKept owner)
keeps_binds owner o k =
    keeps_only_if (λ holds. keeps_then keeps_word (λ at under. keeps_then keeps_sign
    (λ equals under. keeps_then keeps_name (λ x h.
    keeps_gives (record {
      binds = h.name;
      priority = k.priority;
      capacity = k.capacity;
      shared = k.shared;
      local =
          k.local;
      none = k.none;
    })))))

keeps_priority : (owner : Owner) (o : Options) → AreOptionsKept owner o
    → Keeps (priority_option owner o) (AreOptionsKept owner)
keeps_priority owner o k =
    keeps_only_if (λ holds. keeps_then keeps_word (λ at under. keeps_then keeps_sign
    (λ equals under. keeps_then keeps_number (λ n m.
    keeps_gives (record {
      binds = k.binds;
      priority = m.number;
      capacity = k.capacity;
      shared = k.shared;
      local =
          k.local;
      none = k.none;
    })))))

keeps_capacity : (owner : Owner) (o : Options) → AreOptionsKept owner o
    → Keeps (capacity_option owner o) (AreOptionsKept owner)
keeps_capacity owner o k =
    keeps_only_if (λ holds. keeps_then keeps_word (λ at under. keeps_then keeps_sign
    (λ equals under. keeps_then keeps_number (λ n m.
    keeps_gives (record {
      binds = k.binds;
      priority = k.priority;
      capacity =
          between 1 CAPACITY n.value limit.Capacity m.free;
      shared = k.shared;
      local = k.local;
      none = k.none;
    })))))

keeps_listed : Keeps listed_resource IsPrintableListed
keeps_listed = keeps_or (keeps_then keeps_sign (λ at under. keeps_then keeps_name (λ x h. keeps_gives h.name)))
    (keeps_then keeps_name (λ x h. keeps_gives h.name))

not_init : (init other : Bool) → (not init && other) ≡ true → init ≡ true → ⊥
not_init true other holds is = absurd cc
not_init false other holds is = absurd cc

keeps_shared_option : (owner : Owner) (o : Options) → AreOptionsKept owner o
    → Keeps (shared_option owner o) (AreOptionsKept owner)
keeps_shared_option owner o k =
    keeps_only_if (λ holds. keeps_then keeps_word (λ at under. keeps_then keeps_sign
    (λ equals under. keeps_then keeps_sign (λ opened under.
    keeps_then (keeps_list (AllByRecursion IsPrintableListed) (keeps_all (λ n. keeps_listed)) [] tt) (λ xs all.
    keeps_gives (record {
      binds = k.binds;
      priority = k.priority;
      capacity = k.capacity;
      shared = all;
      local = k.local;
      none = λ is. absurd (not_init (is_init owner) _ holds is);
    }))))))

keeps_local_option : (owner : Owner) (o : Options) → AreOptionsKept owner o
    → Keeps (local_option owner o) (AreOptionsKept owner)
keeps_local_option owner o k =
    keeps_only_if (λ holds. keeps_then keeps_word (λ at under. keeps_then keeps_sign
    (λ equals under. keeps_then keeps_names (λ xs all.
    keeps_gives (record {
      binds = k.binds;
      priority = k.priority;
      capacity = k.capacity;
      shared = k.shared;
      local = all;
      none = k.none;
    })))))

keeps_option : (owner : Owner) (o : Options) → AreOptionsKept owner o → Keeps (option owner o) (AreOptionsKept owner)
keeps_option owner o k = keeps_or (keeps_binds owner o k)
    (keeps_or (keeps_priority owner o k) (keeps_or (keeps_capacity owner o k)
    (keeps_or (keeps_shared_option owner o k) (keeps_local_option owner o k))))

none_kept : (owner : Owner) → AreOptionsKept owner no_options
none_kept owner = record { binds = tt; priority = tt; capacity = tt; shared = tt; local = tt; none = λ is. refl }

keeps_options : (owner : Owner) → Keeps (options owner) (AreOptionsKept owner)
keeps_options owner = keeps_or_else (none_kept owner) (keeps_then keeps_sign
    (λ opened under. keeps_list (AreOptionsKept owner) (keeps_option owner) no_options (none_kept owner)))

-- Bodies.

all_or_empty : {A : Type 0} (P : A → Type 0) (xs : Option (List A)) → IfThere (AllByRecursion P) xs
    → AllByRecursion P (or_empty xs)
all_or_empty P None h = tt
all_or_empty P (Some xs) h = h

-- a printable body; that of `init` lists nothing shared
pub record IsBodyKept (owner : Owner) (b : Body) : Type 0 where
  pub printable : IsPrintableBody b
  pub none : is_init owner ≡ true → b.shared ≡ []

body_kept : (owner : Owner) (o : Options) (block : Block) (after at : ℕ) → AreOptionsKept owner o
    → IsBlockKept 1 0 (block, after) → IsBodyKept owner (body_with o block at)
body_kept owner o block after at k h = record {
  printable = record {
    shared = all_or_empty IsPrintableListed o.shared k.shared;
    local = all_or_empty IsPrintableName o.local k.local;
    block = record { statements = h.printable; nesting = omega arith; few = omega arith };
  };
  none = λ is. ap or_empty (k.none is);
}

pub keeps_thread_body : (most : ℕ) (owner : Owner) (text : List ℕ) → Keeps (thread_body most owner text)
    (IfThere (IsBodyKept owner))
keeps_thread_body most owner text =
    keeps_or_else tt (keeps_then keeps_word (λ at under. keeps_then (keeps_options owner)
    (λ o k. keeps_then (keeps_block most) (λ b h.
    keeps_gives (body_kept owner o b.0 b.1 at k h)))))

keeps_parameters : Keeps parameters (AreFew IsPrintableName ARGUMENTS)
keeps_parameters =
    keeps_or_else (none_are_few IsPrintableName ARGUMENTS)
    (keeps_then keeps_word (λ at under. keeps_then keeps_name (λ x h.
    keeps_repeat (AreFew IsPrintableName ARGUMENTS)
    (λ xs k. keeps_then keeps_sign (λ comma under. keeps_then keeps_name
    (λ y g. keeps_gives (one_more_is_few IsPrintableName ARGUMENTS xs y k g.name
    (still_below ARGUMENTS (length xs) limit.Arguments g.free)))))
    (x ∷ []) (record { all = (h.name, tt); few = omega arith }))))

keeps_task : (most before : ℕ) → Keeps (task most before) (λ t. IsPrintableTask t × (before < TASKS))
keeps_task most before =
    keeps_then keeps_word (λ at under. keeps_then keeps_name
    (λ x h. keeps_then (keeps_options OfTask) (λ o k. keeps_then keeps_parameters
    (λ args g. keeps_then (keeps_block most) (λ b l.
    keeps_gives (
      record {
        name = h.name;
        binds = k.binds;
        priority = k.priority;
        capacity = k.capacity;
        args = g.all;
        few_args = g.few;
        body = (body_kept OfTask o b.0 b.1 x.at k l).printable;
      },
      still_below TASKS before limit.Tasks under,
    ))))))

pub keeps_tasks : (most : ℕ) (xs : List Task) → AreFew IsPrintableTask TASKS xs
    → Keeps (adds (task most) xs) (AreFew IsPrintableTask TASKS)
keeps_tasks most xs h = keeps_few (keeps_task most) xs h
