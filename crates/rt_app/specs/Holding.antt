-- How memory represents what resources and queues hold, who keeps what without a section, and all of it as the storage
-- over which code is correct. That a job reaches a resource in its critical section alone is RTIC's (the RTIC 1 book,
-- resources); how queues lie in cells is this project's own.
use Rattle.std.specs.Prelude.{◌≡◌, ℕ, ◌+◌, ◌-◌, ◌*◌, ◌%◌, ◌==◌, ◌<◌, ◌≤◌, nat_lt, Bool, true, false, not, ◌&&◌, List}
use Rattle.std.specs.Prelude.{length, map, slice_get, Some, option_map, Contains, IsSome}
use Rattle.std.specs.List.{AllByRecursion, list_any, range_with_len}
use Rattle.rt_ids.specs.Lists.{is_some_and, or_zero, then_from}
use Rattle.rt_actions.specs.Location.{Location, Guarded, Own}
use Rattle.rt_actions.specs.Content.{Content, Number, Messages, Delays, Message, Armed, Timed}
use Rattle.rt_actions.specs.Entry.{Entry}
use Rattle.rt_ids.specs.Priority.{hardware}
use Rattle.rt_actions.specs.Storage.{Storage, Runner, Starting, AtPriority}
use Rattle.rt_ids.specs.declared.ids.Section.TheVariants as section
use Rattle.rt_app.specs.Tree.{App}
use Rattle.rt_app.specs.Bodies.{Member, members}
use Rattle.rt_app.specs.Level.{is_software, is_of_level, levels, is_armed, armed_messages, capacities_before}
use Rattle.rt_app.specs.Ceiling.{ceiling, lists}
use Rattle.rt_app.specs.Declarations.{owns}
use Rattle.rt_app.specs.Statements.{is_init}
use Rattle.rt_app.specs.Listing.{is_lock_free, is_read_alone}
use Rattle.rt_app.specs.Handlers.{irq_number}
use Rattle.rt_app.specs.Sending.{capacity_of}
use Rattle.rt_app.specs.Layout.{resource_at, local_at, free_at, inputs_at, ready_at, ready_room, home_of}
use Rattle.rt_app.specs.Layout.{timer_at, armings_at, handle_count_at, instants_at, numbers_at, handles_at, heap_at}
use Rattle.rt_app.specs.Handled.{AreHandled}
use Rattle.rt_app.specs.Heap.{IsArranged}

-- a message as one word of a queue's cell: its task, and its place below 16
abbrev pub message_word : Entry → ℕ
message_word e = 16 * e.task + e.place

-- the row of a place in the columns of the timer queue: the places of the tasks that may be armed, numbered through
-- from 0
abbrev pub armed_place : App → Entry → ℕ
armed_place app e = capacities_before app e.task + e.place

-- how many arguments a task takes
abbrev pub arguments_of : App → ℕ → ℕ
arguments_of app n = or_zero (option_map (λ t. t.args) (slice_get app.tasks n))

module _ (app : App) (cells : ℕ → ℕ) where
  -- the message of a place, with the arguments in its cells
  abbrev pub message_at : Entry → Message
  message_at e =
      let first : ℕ = inputs_at app e.task + e.place * arguments_of app e.task in
      record { task = e.task; args = map cells (range_with_len first (arguments_of app e.task)) }

  -- The cells represent the free places of a task, the one that is taken next first; the other places of its capacity
  -- are out.
  pub record RepresentsFree (n : ℕ) (entries : List Entry) (content : Content) : Type 0 where
    pub out : content ≡ Number (capacity_of app n - length entries)
    pub room : length entries ≤ capacity_of app n
    pub places : AllByRecursion (λ e. (e.task ≡ n) × (e.place < capacity_of app n)) entries
    pub count : cells (free_at app n) ≡ length entries
    pub stack : (i : ℕ) (e : Entry) → slice_get entries i ≡ Some e → cells (free_at app n + (length entries - i))
        ≡ e.place

  -- the cells represent the ready messages of a level, the oldest first
  pub record RepresentsReady (p : ℕ) (entries : List Entry) (content : Content) : Type 0 where
    pub messages : content ≡ Messages (map message_at entries)
    pub room : length entries ≤ ready_room app p
    pub places : AllByRecursion
        (λ e. (is_some_and (is_of_level p) (slice_get app.tasks e.task) ≡ true) × (e.place < capacity_of app e.task))
        entries
    pub head : cells (ready_at app p) ≤ ready_room app p - 1
    pub count : cells (ready_at app p + 1) ≡ length entries
    pub ring : (i : ℕ) (e : Entry) → slice_get entries i ≡ Some e
        → cells (ready_at app p + 2 + (cells (ready_at app p) + i) % ready_room app p) ≡ message_word e

  -- the instant of the message of a place, in the timer queue's column of instants
  abbrev pub instant_at : Entry → ℕ
  instant_at e = cells (instants_at app + armed_place app e)

  -- the number of its last arming, in the column of such numbers
  abbrev pub arming_at : Entry → ℕ
  arming_at e = cells (numbers_at app + armed_place app e)

  -- its handle, in the column of handles
  abbrev pub handle_at : Entry → ℕ
  handle_at e = cells (handles_at app + armed_place app e)

  -- the armed message of a place, with its instant and its handle
  abbrev pub arming_of_entry : Entry → Armed
  arming_of_entry e = record { instant = instant_at e; message = message_at e; handle = handle_at e }

  -- The cells represent the armed messages, in order of their last arming. Their rows lie as a heap, by instant and
  -- arming.
  pub record RepresentsTimer (entries : List Entry) (content : Content) : Type 0 where
    pub timed : Timed
    pub is : content ≡ Delays timed
    pub messages : timed.armed ≡ map arming_of_entry entries
    pub handled : AreHandled timed
    pub places : AllByRecursion
        (λ e. (is_armed app e.task ≡ true) × (is_some_and is_software (slice_get app.tasks e.task) ≡ true)
        × (e.place < capacity_of app e.task))
        entries
    pub room : length entries ≤ armed_messages app
    pub count : cells (timer_at app) ≡ length entries
    pub armings : cells (armings_at app) ≡ timed.given + timed.moved
    pub given : cells (handle_count_at app) ≡ timed.given
    pub heap : List Entry
    pub column : (i : ℕ) (e : Entry) → slice_get heap i ≡ Some e → cells (heap_at app + i) ≡ armed_place app e
    pub arranged : IsArranged instant_at arming_at (timed.given + timed.moved) heap entries

  -- the cells represent this content of a location, where the messages of these places are in its queue
  abbrev pub Represents : Location → List Entry → Content → Type 0
  Represents (Guarded (section.Res r)) entries content = content ≡ Number (cells (resource_at app r))
  Represents (Own n) entries content = content ≡ Number (cells (local_at app n))
  Represents (Guarded (section.Free n)) entries content = RepresentsFree n entries content
  Represents (Guarded (section.Ready p)) entries content = RepresentsReady p entries content
  Represents (Guarded section.Timer) entries content = RepresentsTimer entries content

module _ (app : App) where
  -- whether a body that runs at a priority, `init` aside, passes
  abbrev pub is_some_at : (Member → Bool) → ℕ → Bool
  is_some_at test p = list_any (λ m. not (is_init m.id) && ((m.priority == p) && test m)) (members app)

  -- What a runner keeps from its start to its end: `init` every resource and the local ones that it lists, a priority
  -- the local resources and the `lock_free` ones that its bodies list. At most one job of a priority has started at a
  -- time.
  abbrev pub is_kept : Runner → Location → Bool
  is_kept Starting (Guarded (section.Res r)) = nat_lt r (length app.shared)
  is_kept Starting (Own n) = list_any (λ m. is_init m.id && owns n m) (members app)
  is_kept (AtPriority p) (Guarded (section.Res r)) = is_lock_free app r && is_some_at (lists r) p
  is_kept (AtPriority p) (Own n) = is_some_at (owns n) p
  is_kept runner location = false

  -- Once `init` has ended nobody changes a resource that is listed as `&name`. A priority reads those that its bodies
  -- list.
  abbrev pub is_constant : Runner → Location → Bool
  is_constant (AtPriority p) (Guarded (section.Res r)) = is_read_alone app r && is_some_at (lists r) p
  is_constant runner location = false

  -- A location of the application: what it keeps has cells. A hardware task has no places.
  abbrev pub IsHeld : Location → Type 0
  IsHeld (Guarded (section.Res r)) = r < length app.shared
  IsHeld (Guarded (section.Free n)) = is_some_and is_software (slice_get app.tasks n) ≡ true
  IsHeld (Guarded (section.Ready p)) = Contains (levels app) p
  IsHeld (Guarded section.Timer) = IsSome app.mono
  IsHeld (Own n) = n < length app.locals

  -- the storage of an application: its layout, its ceilings, and what is kept
  unfoldable pub storage : Storage
  storage = record {
    home = home_of app;
    Represents = λ location cells entries content. IsHeld location × Represents app cells location entries content;
    ceiling = ceiling app;
    value = hardware app.bits;
    is_kept = is_kept;
    is_constant = is_constant;
    timer = then_from app.mono (λ mono. irq_number app mono.irq);
  }
