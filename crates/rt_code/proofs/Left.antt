-- What others may have left of memory and queues, seen from one job: what is its own is as it was, once a place moves
-- or a section closes too.
use Rattle.std.proofs.Common.{◌≡◌, ℕ, ◌+◌, ◌<◌, inl, inr, Bool, true, false, List, [], ◌∷◌, ◌++◌, slice_index}
use Rattle.std.proofs.Common.{if◌then◌else◌, refl, sym, ap, subst, ◌∙◌, arith}
use Rattle.std.proofs.lemmas.List.Sums.{sum_by-append}
use Rattle.rt_actions.specs.Content.{Content}
use Rattle.rt_actions.specs.Entry.{Entry, count}
use Rattle.rt_actions.specs.Location.{Location, Guarded, is_same_location}
use Rattle.rt_actions.specs.Storage.{Storage, Runner}
use Rattle.rt_ids.specs.declared.ids.Section.{Section}
use Rattle.rt_code.specs.Acting.{with_queue}
use Rattle.rt_code.specs.Owning.{OpenSection, Configuration, is_open, mine, owns, reads, MayLoad, LeavesMine}
use Rattle.rt_code.specs.StandingLaws.{IsRepresentedBy, RepresentsByItsOwn}
use Rattle.rt_code.proofs.Mine.{queued_more, queues_same, mine_moved, owns_reads, owns_open, owns_more, reads_more}
use Rattle.rt_code.proofs.Mine.{may_load}

module _ (st : Storage) (who : Runner) where
  -- the queue of an open section is as it was
  pub queue_left : (s : Configuration) (cells : List ℕ) (queues : Location → List Entry) (x : Section)
      → LeavesMine st who s cells queues → is_open s.held x ≡ true
      → queues (Guarded x) ≡ s.queues (Guarded x)
  queue_left s cells queues x over inside = over.queued (Guarded x) (owns_open st who s.held x inside)

  -- the same places are its own
  pub mine_left : (s : Configuration) (cells other : List ℕ) (queues : Location → List Entry) (e : Entry)
      → LeavesMine st who s cells queues
      → mine (record s { cells = other; queues = queues }) e ≡ mine s e
  mine_left s cells other queues e over =
      ap (λ n. count e s.places + n) (queues_same s.queues queues e s.held
      (λ x inside. queue_left s cells queues x over inside))

  -- once the queue of an open section and the hands are others, with no place that was not its own before
  pub leaves_moved : (s : Configuration) (cells : List ℕ) (queues : Location → List Entry) (x : Section)
      (places entries : List Entry) → is_open s.held x ≡ true
      → ((e : Entry) → 0 < count e places + count e entries → 0 < count e s.places + count e (s.queues (Guarded x)))
      → LeavesMine st who s cells queues
      → LeavesMine st who (record s { places = places; queues = with_queue s.queues x entries }) cells
      (with_queue queues x entries)
  leaves_moved s cells queues x places entries inside before over = record {
    long = over.long;
    touched = λ cell may. over.touched cell
        (may_load st who (record s { places = places; queues = with_queue s.queues x entries }) s (st.home cell)
        (λ h read. read) (λ e some. mine_moved s x places entries e inside (before e) some) may);
    queued = λ h own. one (is_same_location (Guarded x) h) h (over.queued h own);
  }
    where
      one : (b : Bool) (h : Location) → queues h ≡ s.queues h → (if b then entries else queues h)
          ≡ (if b then entries else s.queues h)
      one true h same = refl
      one false h same = same

  -- what others leave behind what others left
  pub leaves_twice : (s : Configuration) (cells other : List ℕ) (queues others : Location → List Entry)
      → LeavesMine st who s cells queues
      → LeavesMine st who (record s { cells = cells; queues = queues }) other others → LeavesMine st who s other others
  leaves_twice s cells other queues others over again = record {
    long = again.long ∙ over.long;
    touched = λ cell may.
        again.touched cell (may_load st who s (record s { cells = cells; queues = queues }) (st.home cell)
        (λ h read. read) (λ e some. let same = mine_left s cells cells queues e over in omega arith) may)
        ∙ over.touched cell may;
    queued = λ h own. again.queued h own ∙ over.queued h own;
  }

  mine_more : (s : Configuration) (h : OpenSection) (outer : List OpenSection) (e : Entry) → 0
      < mine (record s { held = outer }) e
      → 0 < mine (record s { held = h ∷ outer }) e
  mine_more s h outer e some = let more = queued_more s.queues e h outer in omega arith

  -- once the innermost section is closed
  pub leaves_outer : (s : Configuration) (h : OpenSection) (outer : List OpenSection) (cells : List ℕ)
      (queues : Location → List Entry) → s.held
      ≡ h ∷ outer → LeavesMine st who s cells queues
      → LeavesMine st who (record s { held = outer }) cells queues
  leaves_outer s h outer cells queues innermost over = record {
    long = over.long;
    touched = λ cell may. over.touched cell (may_load st who (record s { held = outer }) s (st.home cell)
        (λ location read. subst (λ hs. reads st who hs location ≡ true) (sym innermost)
        (reads_more st who h outer location read))
        (λ e some. subst (λ hs. 0 < mine (record s { held = hs }) e) (sym innermost) (mine_more s h outer e some)) may);
    queued = λ location own. over.queued location (subst (λ hs. owns st who hs location ≡ true) (sym innermost)
        (owns_more st who h outer location own));
  }

  -- the cells of what it owns represent what they did
  pub represents_left : RepresentsByItsOwn st → (s : Configuration) (cells : List ℕ) (queues : Location → List Entry)
      (h : Location)
      (content : Content) → LeavesMine st who s cells queues
      → owns st who s.held h ≡ true → ((e : Entry) → ((any : Runner) → st.is_kept any h ≡ false)
      → 0 < count e (s.queues h) → 0 < mine s e)
      → st.Represents h (slice_index s.cells) (s.queues h) content
      → st.Represents h (slice_index cells) (queues h) content
  represents_left by_own s cells queues h content over own in_queue represented =
      subst (λ entries. st.Represents h (slice_index cells) entries content) (sym (over.queued h own))
      (by_own h (slice_index s.cells) (slice_index cells) (s.queues h) content (λ c goes. over.touched c (two c goes))
      represented)
    where
      two : (c : ℕ) → IsRepresentedBy st h (s.queues h) c → MayLoad st who s (st.home c)
      two c (inl here) = subst (λ home. MayLoad st who s home) (sym here) (owns_reads st who s.held h own)
      two c (inr (free, (e, there, some))) = subst (λ home. MayLoad st who s home) (sym there) (in_queue e free some)

pub count_more : (e entry : Entry) (entries : List Entry) → count e (entry ∷ entries) ≡ count e (entry ∷ [])
    + count e entries
count_more e entry entries = sum_by-append _ (entry ∷ []) entries

-- no place is the job's own that was not: one is taken from the front of a queue, is put last or first into one, or is
-- taken from the middle
pub taken : (e entry : Entry) (places others queue : List Entry) → queue ≡ entry ∷ others → 0 < count e (entry ∷ places)
    + count e others → 0 < count e places + count e queue
taken e entry places others queue is some =
    let one = count_more e entry places in
    let two = count_more e entry others in
    let same = ap (count e) is in omega arith

pub put_last : (e entry : Entry) (places others queue : List Entry) → places ≡ entry ∷ others → 0 < count e others
    + count e (queue ++ entry ∷ []) → 0 < count e places + count e queue
put_last e entry places others queue is some =
    let one = count_more e entry others in
    let two : count e (queue ++ entry ∷ []) ≡ count e queue + count e (entry ∷ []) =
    sum_by-append _ queue (entry ∷ []) in
    let same = ap (count e) is in omega arith

pub put_first : (e entry : Entry) (places others queue : List Entry) → places ≡ entry ∷ others → 0 < count e others
    + count e (entry ∷ queue) → 0 < count e places + count e queue
put_first e entry places others queue is some =
    let one = count_more e entry others in
    let two = count_more e entry queue in
    let same = ap (count e) is in omega arith

pub taken_out : (e entry : Entry) (places before behind queue : List Entry) → queue ≡ before ++ entry ∷ behind
    → 0 < count e (entry ∷ places) + count e (before ++ behind)
    → 0 < count e places + count e queue
taken_out e entry places before behind queue is some =
    let one = count_more e entry places in
    let two = count_more e entry behind in
    let three : count e (before ++ behind) ≡ count e before + count e behind = sum_by-append _ before behind in
    let four : count e (before ++ entry ∷ behind) ≡ count e before + count e (entry ∷ behind) =
    sum_by-append _ before (entry ∷ behind) in
    let same = ap (count e) is in omega arith

-- or goes from the middle to the end
pub put_behind : (e entry : Entry) (places before behind queue : List Entry) → queue ≡ before ++ entry ∷ behind
    → 0 < count e places + count e (before ++ (behind ++ entry ∷ [])) → 0 < count e places + count e queue
put_behind e entry places before behind queue is some =
    let one = count_more e entry behind in
    let two : count e (behind ++ entry ∷ []) ≡ count e behind + count e (entry ∷ []) =
    sum_by-append _ behind (entry ∷ []) in
    let three : count e (before ++ (behind ++ entry ∷ [])) ≡ count e before + count e (behind ++ entry ∷ []) =
    sum_by-append _ before (behind ++ entry ∷ []) in
    let four : count e (before ++ entry ∷ behind) ≡ count e before + count e (entry ∷ behind) =
    sum_by-append _ before (entry ∷ behind) in
    let same = ap (count e) is in omega arith
