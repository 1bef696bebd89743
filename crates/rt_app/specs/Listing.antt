-- The rules on the shared resources that bodies list (the RTIC 1 book): a resource is read as `&name` by all that
-- list it or by none, and one that is `lock_free` is listed at one priority. A listing is judged by the first one of
-- its resource.
use Rattle.std.specs.Prelude.{ℕ, ◌==◌, Bool, not, ◌&&◌, ◌||◌, List, [], ◌++◌, map, flat_map, find, slice_get, Option}
use Rattle.std.specs.Prelude.{Some, None, if◌then◌else◌}
use Rattle.std.specs.List.{list_any}
use Rattle.rt_ids.specs.declared.rule.Rule.TheVariants as rule
use Rattle.rt_app.specs.declared.body.Listed.{Listed}
use Rattle.rt_app.specs.declared.violation.Violation.{Violation}
use Rattle.rt_app.specs.Tree.{App}
use Rattle.rt_app.specs.Bodies.{Member, members}
use Rattle.rt_ids.specs.Lists.{is_some_and}
use Rattle.rt_app.specs.Violation.{when}
use Rattle.rt_app.specs.Declarations.{is_known}

-- a listing, by a body of this priority
pub record Listing : Type 0 where
  pub listed : Listed
  pub priority : ℕ

-- the listings of a body
abbrev pub listings_of : Member → List Listing
listings_of m = map (λ l. record { listed = l; priority = m.priority }) m.body.shared

-- all listings in order of the text
abbrev pub listings : App → List Listing
listings app = flat_map listings_of (members app)

-- whether a shared resource is declared as `lock_free`
abbrev pub is_lock_free : App → ℕ → Bool
is_lock_free app r = is_some_and (λ s. s.lock_free) (slice_get app.shared r)

-- whether some body lists a shared resource as `&name`, to be read alone
abbrev pub is_read_alone : App → ℕ → Bool
is_read_alone app r = list_any (λ l. (l.listed.resource == r) && l.listed.by_ref) (listings app)

-- whether two tests have the same answer
abbrev pub is_same : Bool → Bool → Bool
is_same a b = if a then b else not b

-- whether a listing has an `&` where the first has none, or the other way round, or has one though the resource is
-- `lock_free`
abbrev pub is_shared_and_exclusive : App → Listing → Listing → Bool
is_shared_and_exclusive app first l =
    not (is_same l.listed.by_ref first.listed.by_ref) || (l.listed.by_ref && is_lock_free app l.listed.resource)

-- whether a resource is `lock_free` and listed at another priority than first
abbrev pub is_at_two_priorities : App → Listing → Listing → Bool
is_at_two_priorities app first l = is_lock_free app l.listed.resource && not (l.priority == first.priority)

-- the rules that a listing breaks, beside the first of its resource
abbrev pub breaks_beside : App → Listing → Option Listing → List Violation
breaks_beside app l None = []
breaks_beside app l (Some first) =
    when (is_shared_and_exclusive app first l) rule.SharedAndExclusive l.listed.at
    ++ when (is_at_two_priorities app first l) rule.LockFreeAtTwoPriorities l.listed.at

-- the first listing of a resource
abbrev pub first_listing : App → ℕ → Option Listing
first_listing app r = find (λ l. l.listed.resource == r) (listings app)

-- the rules that a listing breaks
abbrev pub listing_breaks : App → Listing → List Violation
listing_breaks app l = if is_known l.listed.resource then breaks_beside app l (first_listing app l.listed.resource) else
    []

-- every rule on listings that is broken
abbrev pub listings_breaks : App → List Violation
listings_breaks app = flat_map (listing_breaks app) (listings app)
