-- What holds of every accepted application.
use Rattle.std.specs.Prelude.{◌≡◌, ℕ, ◌+◌, ◌%◌, ◌^◌, ◌<◌, ◌≤◌, true, false, length, Contains, map, sum_by, slice_get}
use Rattle.std.specs.Prelude.{Some, IsSome}
use Rattle.std.specs.List.{AllByRecursion}
use Rattle.rt_ids.specs.Lists.{AreDifferent}
use Rattle.rt_ids.specs.Choice.{IsIn}
use Rattle.rt_ids.specs.Names.{AreNames}
use Rattle.rt_ids.specs.declared.limits.TheConstants.{BODY_COST, CODE_SIZE, IRQ_NUMBERS}
use Rattle.rt_ids.specs.declared.ids.BodyId.{BodyId}
use Rattle.rt_ids.specs.declared.ids.Section.{Section}
use Rattle.rt_ids.specs.declared.ids.Section.TheVariants as section
use Rattle.rt_app.specs.Tree.{App}
use Rattle.rt_app.specs.Bodies.{Member, members, member_at}
use Rattle.rt_app.specs.Names.{names_of}
use Rattle.rt_app.specs.Level.{is_software, levels}
use Rattle.rt_app.specs.Ceiling.{ceiling}
use Rattle.rt_app.specs.Listing.{Listing, listings, is_lock_free}
use Rattle.rt_app.specs.Declarations.{owns}
use Rattle.rt_app.specs.Handlers.{services, dispatcher_of}
use Rattle.rt_app.specs.BodyCost.{cost_measure, size_measure, body_cost, shared_size}
use Rattle.rt_app.specs.Steps.{block_steps}
use Rattle.rt_app.specs.Stack.{stack_bytes, handler_priorities}
use Rattle.rt_app.specs.Accepted.{IsAccepted}
use Rattle.rt_app.specs.Sound.{IsSoundBody}

-- a section of the application: of a declared resource or task, of a level of software tasks, or of the timer queue
-- where there is a monotonic
abbrev pub IsSectionOf : App → Section → Type 0
IsSectionOf app (section.Res r) = r < length app.shared
IsSectionOf app (section.Free n) = n < length app.tasks
IsSectionOf app (section.Ready p) = Contains (levels app) p
IsSectionOf app section.Timer = IsSome app.mono

-- an application that can be run: what code generation and the proofs about runs use of its being accepted
pub record IsSound (app : App) : Type 0 where
  pub bodies : (id : BodyId) (m : Member) → member_at app id ≡ Some m → IsSoundBody app m
  -- a body takes no more steps than a body may, its end counted, and all code no more instructions than code may
  pub steps : AllByRecursion (λ m. block_steps (cost_measure app) m.body.block + 1 ≤ BODY_COST) (members app)
  pub size : shared_size app + sum_by (λ m. body_cost (size_measure app) m.body) (members app) ≤ CODE_SIZE
  -- levels and ceilings are priorities of the application
  pub priorities : AllByRecursion (λ p. (1 ≤ p) × (p ≤ 2 ^ app.bits)) (handler_priorities app)
  pub ceilings : (s : Section) → IsSectionOf app s → ceiling app s ≤ 2 ^ app.bits
  -- a resource that is `lock_free` is listed at one priority; one that is read as `&name` is so by all that list it,
  -- and is not `lock_free`; a local one is listed by one body
  pub lock_free : (l k : Listing) → IsIn (listings app) l → IsIn (listings app) k
      → l.listed.resource ≡ k.listed.resource → is_lock_free app l.listed.resource ≡ true → l.priority ≡ k.priority
  pub alike : (l k : Listing) → IsIn (listings app) l → IsIn (listings app) k → l.listed.resource ≡ k.listed.resource
      → l.listed.by_ref ≡ k.listed.by_ref
  pub read_alone : (l : Listing) → IsIn (listings app) l → l.listed.by_ref ≡ true
      → is_lock_free app l.listed.resource ≡ false
  pub owners : (n i j : ℕ) (m o : Member) → slice_get (members app) i ≡ Some m → slice_get (members app) j ≡ Some o
      → owns n m ≡ true → owns n o ≡ true → i ≡ j
  -- an interrupt that serves something is declared, serves that alone, and has a priority of the application; the
  -- numbers of interrupts are in their range, and differ; each level of software tasks has a dispatcher
  pub served : AllByRecursion (λ s. (s.irq < length app.irqs) × (1 ≤ s.priority) × (s.priority ≤ 2 ^ app.bits))
      (services app)
  pub services_differ : AreDifferent (map (λ s. s.irq) (services app))
  pub numbers : AllByRecursion (λ d. d.number < IRQ_NUMBERS) app.irqs
  pub numbers_differ : AreDifferent (map (λ d. d.number) app.irqs)
  -- a hardware task takes no arguments, since nobody spawns it
  pub hardware : AllByRecursion (λ t. is_software t ≡ false → t.args ≡ 0) app.tasks
  pub dispatched : (p : ℕ) → Contains (levels app) p → IsSome (dispatcher_of app p)
  -- the stack is small, and whole pairs of words
  pub stack_small : stack_bytes app ≤ 2 ^ 20
  pub stack_pairs : stack_bytes app % 8 ≡ 0
  pub names : AreNames (names_of app)

-- every accepted application can be run
abbrev pub AcceptedAreSound : Type 0
AcceptedAreSound = (app : App) → IsAccepted app → IsSound app
