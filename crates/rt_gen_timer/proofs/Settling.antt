-- The message in hand goes up from the hole and then down from there, as far as its key leads: with it at the hole that
-- is left the messages are a heap again.
use Rattle.rt_gen_queue.proofs.Vocabulary.{Entry, HasCodeAt, List, arith, refl, slice_set, suc, zero, ℕ, ◌*◌, ◌+◌, ◌<◌}
use Rattle.rt_gen_queue.proofs.Vocabulary.{◌^◌, ◌≡◌, ◌≤◌}
use Rattle.std.proofs.Math.Nat.{pow-succ'}
use Rattle.rt_gen_queue.proofs.Layer.{Here, Now, S, Setting, moved}
use Rattle.rt_gen_timer.proofs.{Acting.Columns, Acting.Runs, Acting.columns_on, Acting.sooner, Comparing.Hand}
use Rattle.rt_gen_timer.proofs.{Comparing.IsOpen, Comparing.LoopEnd, Comparing.key, Hollow.IsBeside, Hollow.beside_more}
use Rattle.rt_gen_timer.proofs.{Moves.HasHole, Moves.HasSettled, Moves.settled_both, Window.Scratch, Window.Slots}
use Rattle.rt_gen_timer.proofs.{Window.Words, Window.words}
use Rattle.rt_gen_timer.proofs.Sifting.{IsReady, MaySink, reach_more, rise_reach, rises_stand, sink_reach, sinking}
use Rattle.rt_gen_timer.proofs.Sifting.{sinks_stand}
use Rattle.rt_gen_timer.specs.TimerLines.{sift_up_lines, sift_down_lines}

-- As many turns lead up to the first position as lead down from it; and how far, as a power of 2.
sink_doubles : (turns i : ℕ) → sink_reach turns (i + i + 1) ≡ sink_reach turns i + sink_reach turns i + 1
sink_doubles zero i = omega arith
sink_doubles (suc turns) i = sink_doubles turns (i + i + 1)

reaches_alike : (turns : ℕ) → sink_reach turns 0 + 1 ≡ rise_reach turns
reaches_alike zero = refl
reaches_alike (suc turns) = omega (arith, sink_doubles turns 0, reaches_alike turns)

pub reach_is : (turns : ℕ) → rise_reach turns ≡ 2 ^ suc turns
reach_is zero = refl
reach_is (suc turns) = omega (arith, reach_is turns, pow-succ' 2 (suc turns))

-- so many turns lead through so many messages
pub reach_enough : (n : ℕ) → n < rise_reach n
reach_enough zero = omega arith
reach_enough (suc n) = omega (arith, reach_enough n)

-- Both loops may begin, the second at an address after the first: so many turns lead up, and so many down.
pub record MaySettle (z : Setting) (f : Slots) (k : Hand) (up down i : ℕ) (h : Here) (xs : List Entry) : Type 0 where
  pub to : ℕ
  pub rise : HasCodeAt z.code h.at (sift_up_lines k.queue f.slot h.at)
  pub sink : HasCodeAt z.code to (sift_down_lines k.queue f.slot to)
  pub next : to ≡ h.at + 15
  pub runs : Runs f (h.done + (15 * up + 31 * down + 40)) h
  pub reach : suc i < rise_reach up
  pub leads : k.size < rise_reach down
  pub few : k.size < 2 ^ 31
  pub small : k.arming k.hand < 2 ^ 32
  pub columns : Columns z k.queue h.held h.cells
  pub hollow : IsOpen k h.cells xs i
  pub hole : HasHole k.size (key k) xs i

-- what is after them
pub record IsSettled (k : Hand) (up down i : ℕ) (h : Here) (xs : List Entry) (b : LoopEnd) : Type 0 where
  pub within : b.done ≤ h.done + (15 * up + 31 * down + 40)
  pub beside : IsBeside k.queue h.cells b.cells
  pub hollow : IsOpen k b.cells b.heap b.hole
  pub settled : HasSettled k.size (key k) k.hand xs i (slice_set b.heap b.hole k.hand)

pub settles_stand : {z : Setting} {f : Slots} {k : Hand} {up down i : ℕ} {h : Here} {xs : List Entry} (w : Words)
    (s : Scratch) → MaySettle z f k up down i h xs
    → ((b : LoopEnd) (t : Scratch) → IsSettled k up down i h xs b
    → S z (Now f (record h { done = b.done; at = h.at + 46; cells = b.cells }) (words (sinking k w t b.hole))))
    → S z (Now f h (words (sinking k w s i)))
settles_stand {z = z} {f = f} {k = k} {up = up} {down = down} {i = i} {h = h} {xs = xs} w s may on =
    let ready : IsReady z f k up i h xs = record {
      code = may.rise;
      runs = sooner may.runs (omega arith);
      reach = may.reach;
      few = omega (arith, may.few);
      small = may.small;
      columns = may.columns;
      hollow = may.hollow;
      hole = may.hole;
    } in
    rises_stand (record w { count = k.size }) s ready
    (λ b t risen.
    let sinks : MaySink z f k down b.hole (record h { done = b.done; at = may.to; cells = b.cells }) b.heap = record {
      code = may.sink;
      runs = sooner may.runs (omega (arith, risen.within));
      reach = omega (arith, may.leads, reaches_alike down, reach_more down 0 b.hole (omega arith));
      few = may.few;
      small = may.small;
      columns = columns_on may.columns risen.beside.long;
      hollow = risen.hollow;
      hole = risen.risen.hole;
    } in
    moved b.done may.to refl may.next
    (sinks_stand w t sinks
    (λ c u sunk.
    moved c.done (h.at + 46) refl (omega (arith, may.next))
    (on c u
    (record {
      within = omega (arith, risen.within, sunk.within);
      beside = beside_more risen.beside sunk.beside;
      hollow = sunk.hollow;
      settled = settled_both risen.risen sunk.sunk;
    })))))
