-- What the one history of both cores orders: a post comes before the look that finds it, and a look before the posts
-- that it leads to. So no two posts are each other's only cause.
use Rattle.std.specs.Prelude.{Contains, List, None, Option, Some, length, map, ℕ, ◌*◌, ◌++◌, ◌+◌, ◌<◌, ◌∷◌, ◌≡◌}
use Rattle.std.specs.{Int.bit_at, List.AllByRecursion}
use Rattle.rt_code.specs.Image.{Image}
use Rattle.rt_core.specs.{Core.Core, Core.reset, Stepping.step, Trace.core_after, Trace.trace}
use Rattle.rt_ids.specs.{Event.Event, Event.Step, Names.Names}
use Rattle.rt_script.specs.declared.line.Line.{Line}
use Rattle.rt_words.specs.declared.call.Call.TheVariants.{Latch, Pend}
use Rattle.rt_words.specs.declared.call.Pended.TheVariants.{Raised}
use Rattle.rt_words.specs.{History.part, Row.bit_in_row, declared.call.Entry.Entry, declared.call.Pended.Pended}
use Rattle.rt_live.specs.History.{IsEmptyLook}
use Rattle.rt_live.specs.Interleaving.{Turn, Happens, looks, interleaving}
use Rattle.rt_live.specs.Requests.{Request, request_of, turn_requests, routed}
use Rattle.rt_dual.specs.{Course.CorePlace, Course.first_place, Course.second_place, Course.first_events}
use Rattle.rt_dual.specs.{Course.second_events, Course.turns, Forwarded.forward, Output.IsPairText}
use Rattle.rt_trace.specs.declared.item.What.TheVariants as what

-- each bit that a look of the core in the one place found was raised before in the history, by the core in the other
abbrev pub LooksFindPosts : CorePlace → CorePlace → List Entry → Type 0
LooksFindPosts near far history =
    (before behind : List Entry) (word found bit : ℕ)
    → history ≡ before ++ record { line = near.line; call = Latch word found } ∷ behind
    → bit < 32 → bit_at found bit ≡ 1 → Contains (part before far.line) (Pend (32 * word + bit) Raised)

-- A core with this image is in this state before these turns, its looks find these words, and it has made these
-- requests when it pends this bit. They are those of the turns before a step, the look that belongs to it among them.
-- By what the looks among these found, and by nothing that is found later, the step shows the post that leads to the
-- bit.
pub record IsPosted (route : ℕ → Option ℕ) (here there : ℕ) (img : Image) (c : Core) (ts : List Turn)
    (found : List (List ℕ)) (made : List Request) (bit : ℕ) : Type 0 where
  pub earlier : List Turn
  pub later : List Turn
  pub parts : ts ≡ earlier ++ Happens Step ∷ later
  pub seen : List (List ℕ)
  pub unseen : List (List ℕ)
  pub found_parts : found ≡ seen ++ unseen
  pub many : length seen ≡ looks earlier
  pub made_parts : made ≡ turn_requests route here there img c earlier seen
  pub post : ℕ
  pub irq : ℕ
  pub shows : (step img (core_after img c (interleaving earlier seen))).1 ≡ Some (what.Post post)
  pub leads : route post ≡ Some irq
  pub is : bit ≡ bit_in_row there irq

-- Each pend of the core in this place comes behind the looks by whose bits it was posted: what its line had called
-- before is what the core asked for up to the post.
abbrev pub LooksPrecedePosts : CorePlace → Image → Names → List Event → List (List ℕ) → List Entry → Type 0
LooksPrecedePosts place img other events found history =
    (before behind : List Entry) (bit : ℕ) (answer : Pended)
    → history ≡ before ++ record { line = place.line; call = Pend bit answer } ∷ behind
    → IsPosted (forward img other) place.here place.there img (reset img) (turns events) found
    (map request_of (part before place.line)) bit

-- of both cores
pub record IsOrdered (first second : Image) (script : List Line) (one two : List (List ℕ)) (history : List Entry)
    : Type 0 where
  pub one_finds : LooksFindPosts first_place second_place history
  pub two_finds : LooksFindPosts second_place first_place history
  pub one_posts : LooksPrecedePosts first_place first second.names (first_events script) one history
  pub two_posts : LooksPrecedePosts second_place second first.names (second_events script) two history

-- whatever `pair` writes
abbrev pub PairsAreOrdered : Type 0
PairsAreOrdered =
    (first second : Image) (script : List Line) (bytes : List ℕ) (p : IsPairText first second script bytes)
    → IsOrdered first second script p.one p.two p.history

-- a core shows no post that leads to the other by these events
abbrev pub PostsNothing : Image → Names → List Event → Type 0
PostsNothing img other events =
    AllByRecursion (λ item. routed (forward img other) (Some item.what) ≡ None) (trace img events)

-- Where neither core posts to the other by its own events alone, no look of either finds anything: what each would post
-- only by the other's post is not posted.
abbrev pub NothingComesOfNothing : Type 0
NothingComesOfNothing =
    (first second : Image) (script : List Line) (bytes : List ℕ) (p : IsPairText first second script bytes)
    → PostsNothing first second.names (first_events script) → PostsNothing second first.names (second_events script)
    → AllByRecursion IsEmptyLook p.one × AllByRecursion IsEmptyLook p.two
