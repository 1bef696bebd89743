-- The arguments of a message come into the first slots, up to four of them.
use Rattle.rt_gen_queue.proofs.Vocabulary.{Entry, HasCodeAt, Home, In, Line, List, MayLoad, [], ap, append-nil}
use Rattle.rt_gen_queue.proofs.Vocabulary.{append_assoc, arith, get_or-set_other, home_of, inputs_at, length}
use Rattle.rt_gen_queue.proofs.Vocabulary.{length-set, map, memory, mine, plain, range_with_len, refl, slice_index}
use Rattle.rt_gen_queue.proofs.Vocabulary.{slice_set, storage, subst, suc, sym, take, zero, ℕ, ◌++◌, ◌+◌, ◌<◌, ◌∙◌, ◌∷◌}
use Rattle.rt_gen_queue.proofs.Vocabulary.{◌≡◌, ◌≤◌}
use Rattle.std.proofs.Math.Seq.{take-suc-set}
use Rattle.rt_code.specs.declared.instr.Instr.TheVariants as instr
use Rattle.rt_gen_queue.proofs.Layer.{Here, InTime, IsFree, Reads, S, goes, lasts_less, load_at_gives, configuration}
use Rattle.rt_gen_queue.proofs.Owning.{home_as, place_in_memory}
use Rattle.rt_gen_disp.proofs.Dispatchers.{Dispatcher, job}

-- how far the arguments of a place are from its task's first, and how many there are
pub record Spread : Type 0 where
  pub entry : Entry
  pub behind : ℕ
  pub count : ℕ

abbrev pub first_of : Dispatcher → Spread → ℕ
first_of d s = inputs_at d.app s.entry.task + s.behind

-- the job has the place, whose arguments lie in these cells, and so many of them are left from one on
pub record MayLoadAll (d : Dispatcher) (s : Spread) (h : Here) (more from : ℕ) : Type 0 where
  pub few : s.count ≤ 4
  pub homes : (j : ℕ) → j < s.count → home_of d.app (first_of d s + j) ≡ In s.entry
  pub long : length h.cells ≡ length (memory d.app)
  pub own : 0 < mine (configuration (job d) h) s.entry
  pub all : from + more ≡ s.count
  pub free : (k : ℕ) → k < 4 → IsFree h.held k
  pub slots : 7 < length h.slots
  pub behind : slice_index h.slots 7 ≡ s.behind
  pub time : InTime (h.done + more) h

-- slots in which they are, after some that were there before, and which are as before from there on
pub record AreLoaded (d : Dispatcher) (s : Spread) (cells begin before after : List ℕ) (from more : ℕ) : Type 0 where
  pub begins : take s.count after ≡ begin ++ map (slice_index cells) (range_with_len (first_of d s + from) more)
  pub late : (k : ℕ) → s.count ≤ k → slice_index after k ≡ slice_index before k
  pub long : length after ≡ length before

-- the lines for some of them, from the one of a number on
abbrev pub load_lines : Dispatcher → Spread → ℕ → ℕ → List Line
load_lines d s from count =
    map (λ j. plain (instr.LoadAt j (inputs_at d.app s.entry.task + j) 7)) (range_with_len from count)

-- and then it goes on
abbrev pub GoesOn : Dispatcher → Spread → Here → List Line → ℕ → ℕ → Type 0
GoesOn d s h lines from more =
    (done to : ℕ) (after : List ℕ) → done ≡ h.done + more → to ≡ h.at + more → HasCodeAt d.code to lines
    → AreLoaded d s h.cells (take from h.slots) h.slots after from more
    → S (job d) (record h { done = done; at = to; slots = after })

module _ (d : Dispatcher) (s : Spread) where
  read : {h : Here} {more : ℕ} (from : ℕ) → MayLoadAll d s h more from → from < s.count
      → Reads (job d) h (inputs_at d.app s.entry.task + from + s.behind) (slice_index h.cells (first_of d s + from))
  read {h = h} from may less =
      let is : inputs_at d.app s.entry.task + from + s.behind ≡ first_of d s + from = omega arith in
      let there = place_in_memory d.app (first_of d s + from) s.entry (may.homes from less) in
      record {
        may =
            subst (λ (home : Home). MayLoad (storage d.app) (job d).who (configuration (job d) h) home)
            (sym (home_as d.app _ ∙ ap (home_of d.app) is ∙ may.homes from less)) may.own;
        there = omega (arith, may.long);
        is = ap (slice_index h.cells) is;
      }

  pub all_load : (lines : List Line) (more from : ℕ) {h : Here} → MayLoadAll d s h more from
      → HasCodeAt d.code h.at (load_lines d s from more ++ lines) → GoesOn d s h lines from more → S (job d) h
  all_load lines zero from {h = h} may has on =
      let is : s.count ≡ from = omega (arith, may.all) in
      let begins = ap (λ k. take k h.slots) is ∙ sym (append-nil (take from h.slots)) in
      on h.done h.at h.slots (omega arith) (omega arith) has
      (record { begins = begins; late = λ k late. refl; long = refl })
  all_load lines (suc more) from {h = h} may has on =
      let v : ℕ = slice_index h.cells (first_of d s + from) in
      let less : from < s.count = omega (arith, may.all) in
      let small : from < 4 = omega (arith, may.few) in
      let slots = may.slots in
      let same : suc from ≡ from + 1 = omega arith in
      let next : first_of d s + (from + 1) ≡ first_of d s + from + 1 = omega arith in
      let rest : ℕ → List ℕ = λ a. map (slice_index h.cells) (range_with_len a more) in
      let begin : take (from + 1) (slice_set h.slots from v) ≡ take from h.slots ++ v ∷ [] =
      ap (λ k. take k (slice_set h.slots from v)) (sym same) ∙ take-suc-set h.slots from v (omega arith) in
      goes has.0 (lasts_less (suc h.done) (h.done + suc more) (h.until ∷ h.deadlines) (omega arith) may.time)
      (load_at_gives s.behind v (omega arith) slots (may.free from small) may.behind (read from may less))
      (all_load lines more (from + 1)
      (record {
        few = may.few;
        homes = may.homes;
        long = may.long;
        own = may.own;
        all = omega (arith, may.all);
        free = may.free;
        slots = omega (arith, length-set h.slots from v);
        behind = get_or-set_other h.slots from 7 v 0 (omega arith) ∙ may.behind;
        time = lasts_less (suc h.done + more) (h.done + suc more) (h.until ∷ h.deadlines) (omega arith) may.time;
      }) has.1
      (λ done to after done_is to_is behind loaded. on done to after (omega arith) (omega arith) behind (record {
        begins =
            loaded.begins ∙ ap (λ xs. xs ++ rest (first_of d s + (from + 1))) begin
            ∙ append_assoc (take from h.slots) (v ∷ []) (rest (first_of d s + (from + 1)))
            ∙ ap (λ a. take from h.slots ++ (v ∷ rest a)) next;
        late = λ k late. loaded.late k late ∙ get_or-set_other h.slots from k v 0 (omega arith);
        long = loaded.long ∙ length-set h.slots from v;
      })))
