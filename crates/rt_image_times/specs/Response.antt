-- The response time of a priority of an image: how many core steps pass at most from a request of one of its interrupts
-- to the return of the handler. It is the least solution of the equation of response-time analysis (Joseph and Pandya,
-- Finding Response Times in a Real-Time System, 1986; Audsley, Burns, Richardson, Tindell and Wellings, 1993), with
-- Baker's bound on blocking (Stack-Based Scheduling of Realtime Processes, 1991), on bounds that are read off the code.
-- What is this project's own: a step of the core takes the interrupt, so each handling counts one more than its bound;
-- handlers of the priority itself count in full, since of one priority the order of requests is not known; and blocking
-- counts to the end. Where a bound that counts has no number, there is a loop, and no response time. The code goes from
-- 1 upwards by the right side of the equation; here it is a least number.
use Rattle.std.specs.Prelude.{◌≡◌, ℕ, ◌+◌, ◌*◌, ◌≤◌, nat_le, Bool, List, [], ◌∷◌, map, flat_map, slice_get, Option}
use Rattle.std.specs.Prelude.{Some, None, option_map, option_to_list, if◌then◌else◌}
use Rattle.rt_ids.specs.Lists.{then_from, is_some_and}
use Rattle.rt_ids.specs.Priority.{hardware}
use Rattle.rt_code.specs.Image.{Image}
use Rattle.rt_code.specs.declared.image.Handler.{Handler}
use Rattle.rt_code.specs.declared.image.IrqRow.{IrqRow}
use Rattle.rt_rta.specs.Limits.{every_of}
use Rattle.rt_rta.specs.Response.{most_requests}
use Rattle.rt_rta.specs.declared.limits.Limit.{Limit}
use Rattle.rt_rta.specs.declared.response.TheConstants.{MOST_STEPS}
use Rattle.rt_bounds.specs.declared.bound.Bounds.{Bounds}
use Rattle.rt_bounds.specs.declared.bound.HandlerBound.{HandlerBound}
use Rattle.rt_bounds.specs.declared.bound.WaitBound.{WaitBound}
use Rattle.rt_bounds.specs.declared.longest.Longest.{Longest}
use Rattle.rt_bounds.specs.declared.longest.Longest.TheVariants as longest
use Rattle.rt_image_times.specs.declared.load.Load.{Load}
use Rattle.rt_image_times.specs.declared.needed.Needed.{Needed}
use Rattle.rt_image_times.specs.declared.needed.Needed.TheVariants as needs
use Rattle.rt_image_times.specs.declared.response.Response.{Response}
use Rattle.rt_image_times.specs.declared.response.Response.TheVariants as response
use Rattle.rt_image_times.specs.declared.response.TimeBound.{TimeBound}

-- whether a handler counts at a priority value: it is of this value, or of a lower one, which is a higher priority
abbrev pub is_at : ℕ → Option Handler → Bool
is_at value handler = is_some_and (λ h. nat_le h.value value) handler

-- what the handler of an interrupt asks for, where it counts and the interrupt has a least distance
abbrev pub row_load : List Limit → ℕ → Longest → IrqRow → Option Load
row_load limits value own row =
    if is_at value row.handler
    then option_map (λ every. record { every = every; longest = own }) (every_of limits row.number)
    else None

module _ (img : Image) (limits : List Limit) (value : ℕ) where
  -- and that of this bound
  abbrev pub load_of : HandlerBound → Option Load
  load_of bound = then_from (slice_get img.irqs bound.index) (row_load limits value bound.longest)

  -- the same as a list
  abbrev pub bound_loads : HandlerBound → List Load
  bound_loads bound = option_to_list (load_of bound)

  -- what all handlers ask for that count: an interrupt without a least distance is never requested
  abbrev pub loads : List HandlerBound → List Load
  loads bounds = flat_map bound_loads bounds

-- what is asked for together: a loop asks for no number, and the first is told
abbrev pub plus : Needed → Needed → Needed
plus (needs.Loop a) more = needs.Loop a
plus (needs.Steps m) (needs.Loop a) = needs.Loop a
plus (needs.Steps m) (needs.Steps n) = needs.Steps (m + n)

-- and by all of these
abbrev pub total : List Needed → Needed
total [] = needs.Steps 0
total (n ∷ ns) = plus n (total ns)

-- how long a priority may be held off: not at all where no section holds it off
abbrev pub held_off : Option Longest → Needed
held_off None = needs.Steps 0
held_off (Some (longest.Steps n)) = needs.Steps n
held_off (Some (longest.Loop a)) = needs.Loop a

-- the core steps of so many handlings, the take of each counted
abbrev pub handlings : ℕ → Longest → Needed
handlings count (longest.Steps n) = needs.Steps (count * (n + 1))
handlings count (longest.Loop a) = needs.Loop a

-- what a handler asks for in so many core steps
abbrev pub load_needed : ℕ → Load → Needed
load_needed steps load = handlings (most_requests steps load.every) load.longest

module _ (all : List Load) (wait : Option Longest) where
  -- all that there is to be room for in so many core steps
  abbrev pub needed : ℕ → Needed
  needed steps = plus (held_off wait) (total (map (load_needed steps) all))

  -- the recurrence of response-time analysis as an inequality: there is room in so many core steps
  pub record Suffices (steps : ℕ) : Type 0 where
    pub some : 1 ≤ steps
    pub need : ℕ
    pub needs : needed steps ≡ needs.Steps need
    pub covers : need ≤ steps

  -- the response time: the least number of core steps that suffices; none where a loop counts, and none where no number
  -- up to a million suffices
  abbrev pub IsResponse : Response → Type 0
  IsResponse (response.Steps least) =
      Suffices least × (least ≤ MOST_STEPS) × ((steps : ℕ) → Suffices steps → least ≤ steps)
  IsResponse (response.Loop a) = needed 1 ≡ needs.Loop a
  IsResponse response.Over =
      ((need : ℕ) × (needed 1 ≡ needs.Steps need)) × ((steps : ℕ) → steps ≤ MOST_STEPS → ¬ Suffices steps)

module _ (img : Image) (limits : List Limit) (handlers : List HandlerBound) where
  -- the row of the priority of this wait
  pub record IsTimeOf (wait : WaitBound) (row : TimeBound) : Type 0 where
    pub priority : row.priority ≡ wait.priority
    pub is : IsResponse (loads img limits (hardware img.bits wait.priority) handlers) wait.longest row.response

  -- a row for each wait, in order
  abbrev pub AreTimesOf : List WaitBound → List TimeBound → Type 0
  AreTimesOf [] [] = Unit {0}
  AreTimesOf [] (row ∷ rows) = ⊥
  AreTimesOf (wait ∷ waits) [] = ⊥
  AreTimesOf (wait ∷ waits) (row ∷ rows) = IsTimeOf wait row × AreTimesOf waits rows

-- the response times of an image with these bounds: a row for each priority of an enabled interrupt, rising
abbrev pub AreTimes : Image → Bounds → List Limit → List TimeBound → Type 0
AreTimes img b limits rows = AreTimesOf img limits b.handlers.items b.waits.items rows
