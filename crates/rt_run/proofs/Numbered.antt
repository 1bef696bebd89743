-- Where an image's numbers are in the range of their types, so are those of each item that its core shows, and a take
-- states no more than the stack region has.
use Rattle.std.proofs.Common.{◌≡◌, ℕ, zero, suc, ◌+◌, ◌-◌, ◌*◌, ◌/◌, ◌%◌, ◌^◌, ◌<◌, ◌≤◌, ◌==◌, ◌||◌, Bool, true}
use Rattle.std.proofs.Common.{false, not}
use Rattle.std.proofs.Common.{if◌then◌else◌, nat_le, nat_lt, List, [], ◌∷◌, length, map, take, drop, replicate}
use Rattle.std.proofs.Common.{Option, Some, None, option_map, slice_get, slice_index, slice_set, find}
use Rattle.std.proofs.Common.{unwrap_or}
use Rattle.std.proofs.Common.{refl, sym, subst, arith, length-take}
use Rattle.std.specs.List.{AllByRecursion}
use Rattle.std.proofs.Math.Nat.{div-le_self, mod-le}
use Rattle.std.proofs.lemmas.Bool.{leb-true}
use Rattle.std.proofs.lemmas.List.{length-replicate}
use Rattle.std.proofs.lemmas.List.Sums.{sum_by-cons}
use Rattle.std.proofs.lemmas.Nat.{and_le_l, or_of_32, xor_of_32, shr_le}
use Rattle.std.proofs.lemmas.Option.{slice_get_within}
use Rattle.rt_lemmas.proofs.Membership.{all_at, all_append}
use Rattle.rt_ids.specs.Lists.{then_from}
use Rattle.rt_ids.specs.Operation.{operate, number_of, wrapped_number}
use Rattle.rt_ids.specs.declared.op.Op.{Op}
use Rattle.rt_ids.specs.declared.op.Op.TheVariants as op
use Rattle.rt_ids.specs.declared.ids.Section.{Section}
use Rattle.rt_ids.specs.declared.ids.Section.TheVariants as section
use Rattle.rt_ids.specs.declared.cell.CellRow.{CellRow}
use Rattle.rt_code.specs.Access.{cells_of}
use Rattle.rt_code.specs.Effect.{effect, unchecked_effect, next, slot}
use Rattle.rt_code.specs.Image.{Image, entry_words}
use Rattle.rt_code.specs.Operands.{slots_of, are_there}
use Rattle.rt_code.specs.Processor.{Processor, Effect, Traps, Leads}
use Rattle.rt_code.specs.Runnable.{IsRunnable, TakeFewArguments}
use Rattle.rt_code.specs.Stack.{interrupted_context, words_of, caller_frame, last_slot}
use Rattle.rt_code.specs.Tables.{argument_count}
use Rattle.rt_code.specs.Trap.{trap_number}
use Rattle.rt_code.specs.declared.image.BodyRow.{BodyRow}
use Rattle.rt_code.specs.declared.image.Handler.{Handler}
use Rattle.rt_code.specs.declared.image.IrqRow.{IrqRow}
use Rattle.rt_code.specs.declared.instr.Instr.{Instr}
use Rattle.rt_code.specs.declared.instr.Instr.TheVariants as instr
use Rattle.rt_code.specs.declared.instr.Note.{Note}
use Rattle.rt_code.specs.declared.instr.Note.TheVariants as note
use Rattle.rt_code.specs.declared.processor.Request.{Request}
use Rattle.rt_code.specs.declared.processor.Request.TheVariants as request
use Rattle.rt_code.specs.declared.processor.Trap.{Trap}
use Rattle.rt_code.specs.declared.processor.Trap.TheVariants as trap
use Rattle.rt_code.proofs.Done.{tested}
use Rattle.rt_code.specs.Cells.{resource_cell}
use Rattle.rt_lines.proofs.Found.{found_at}
use Rattle.rt_lines.specs.Numbers.{Is32Bits}
use Rattle.rt_trace.specs.declared.item.What.{What}
use Rattle.rt_trace.specs.declared.item.What.TheVariants as what
use Rattle.rt_core.specs.Core.{Core, Context, depth, stack_in_use, context_words, reset}
use Rattle.rt_core.specs.Note.{item_of_note, left_value}
use Rattle.rt_core.specs.Outcome.{Outcome, Trapped, Done, settle}
use Rattle.rt_core.specs.Priority.{pick}
use Rattle.rt_core.specs.Stepping as stepping
use Rattle.rt_core.specs.Transfer as transfer
use Rattle.rt_core.proofs.Happening.{step_by, step_is}
use Rattle.rt_run.specs.Numbers.{HasNumbers, IsWordIf}
use Rattle.rt_run.specs.Ranges.{AreWords, IsWordInstr, HasLevelNote, HasRanges}

-- what an operation gives on two numbers of 32 bits
wrapped_word : (n : ℕ) → Is32Bits (wrapped_number n)
wrapped_word n = omega arith

test_word : (b : Bool) → Is32Bits (number_of b)
test_word true = omega arith
test_word false = omega arith

either_word : (b : Bool) (x y : ℕ) → Is32Bits x → Is32Bits y → Is32Bits (if b then x else y)
either_word true x y this that = this
either_word false x y this that = that

operate_word : (o : Op) (a b : ℕ) → Is32Bits a → Is32Bits b → Is32Bits (operate o a b)
operate_word op.Add a b x y = wrapped_word (a + b)
operate_word op.Sub a b x y = wrapped_word (a + (2 ^ 32 - b))
operate_word op.Mul a b x y = wrapped_word (a * b)
operate_word op.Div a b x y =
    either_word (b == 0) 0 (a / b) (omega arith) (let less = div-le_self a b in omega (arith, less, x))
operate_word op.Rem a b x y =
    either_word (b == 0) a (a % b) x (let less = mod-le a b in omega (arith, less, x))
operate_word op.And a b x y = let less = and_le_l a b in omega (arith, less, x)
operate_word op.Or a b x y = or_of_32 a b x y
operate_word op.Xor a b x y = xor_of_32 a b x y
operate_word op.Shl a b x y = either_word (nat_lt b 32) (wrapped_number (a * 2 ^ b)) 0 (wrapped_word (a * 2 ^ b))
    (omega arith)
operate_word op.Shr a b x y =
    either_word (nat_lt b 32) (a / 2 ^ b) 0 (let less = shr_le a b in omega (arith, less, x)) (omega arith)
operate_word op.Eq a b x y = test_word (a == b)
operate_word op.Ne a b x y = test_word (not (a == b))
operate_word op.Lt a b x y = test_word (nat_lt a b)
operate_word op.Le a b x y = test_word (nat_le a b)
operate_word op.Gt a b x y = test_word (nat_lt b a)
operate_word op.Ge a b x y = test_word (nat_le b a)

-- words of lists
set_words : (xs : List ℕ) (k v : ℕ) → AreWords xs → Is32Bits v → AreWords (slice_set xs k v)
set_words [] k v all word = tt
set_words (x ∷ xs) zero v all word = (word, all.1)
set_words (x ∷ xs) (suc k) v all word = (all.0, set_words xs k v all.1 word)

index_word : (xs : List ℕ) (k : ℕ) → AreWords xs → Is32Bits (slice_index xs k)
index_word [] k all = omega arith
index_word (x ∷ xs) zero all = all.0
index_word (x ∷ xs) (suc k) all = index_word xs k all.1

get_word : (xs : List ℕ) (k : ℕ) → AreWords xs → IsWordIf (slice_get xs k)
get_word [] k all = tt
get_word (x ∷ xs) zero all = all.0
get_word (x ∷ xs) (suc k) all = get_word xs k all.1

take_words : (n : ℕ) (xs : List ℕ) → AreWords xs → AreWords (take n xs)
take_words zero xs all = tt
take_words (suc n) [] all = tt
take_words (suc n) (x ∷ xs) all = (all.0, take_words n xs all.1)

drop_words : (n : ℕ) (xs : List ℕ) → AreWords xs → AreWords (drop n xs)
drop_words zero xs all = all
drop_words (suc n) [] all = tt
drop_words (suc n) (x ∷ xs) all = drop_words n xs all.1

zero_words : (n : ℕ) → AreWords (replicate n 0)
zero_words zero = tt
zero_words (suc n) = (omega arith, zero_words n)

-- the words of a processor, and of a core
pub record HasWordsNow (p : Processor) : Type 0 where
  pub slots : AreWords p.slots
  pub cells : AreWords p.cells
  pub basepri : Is32Bits p.basepri

abbrev IsWordContext : Context → Type 0
IsWordContext x = AreWords x.slots × AreWords (words_of x.caller)

pub record IsInRange (c : Core) : Type 0 where
  pub now : HasWordsNow c.processor
  pub caller : AreWords (words_of c.caller)
  pub below : AllByRecursion IsWordContext c.below

-- what is asked of the core is in range
abbrev AsksNumbers : Processor → Request → Type 0
AsksNumbers p (request.Emit value) = Is32Bits value
AsksNumbers p (request.Clock time) = Is32Bits time
AsksNumbers p (request.Call row from) = Is32Bits (suc p.address)
AsksNumbers p asked = Unit {0}

abbrev IsEffectInRange : Effect → Type 0
IsEffectInRange (Traps t) = Unit {0}
IsEffectInRange (Leads p asked) = HasWordsNow p × AsksNumbers p asked

tested_in : (b s : Bool) (e : Effect) → IsEffectInRange e → IsEffectInRange (tested e b s)
tested_in true true e h = h
tested_in true false e h = tt
tested_in false s e h = tt

module _ (time : ℕ) (p : Processor) (early : Is32Bits time) (near : Is32Bits (suc p.address)) (h : HasWordsNow p) where
  with_slot : (d v : ℕ) → Is32Bits v → HasWordsNow (record (next p) { slots = slice_set p.slots d v })
  with_slot d v word = record { slots = set_words p.slots d v h.slots word; cells = h.cells; basepri = h.basepri }

  with_cell : (k v : ℕ) → Is32Bits v → HasWordsNow (record (next p) { cells = slice_set p.cells k v })
  with_cell k v word = record { slots = h.slots; cells = set_words p.cells k v h.cells word; basepri = h.basepri }

  on : HasWordsNow (next p)
  on = record { slots = h.slots; cells = h.cells; basepri = h.basepri }

  jump_in : (b : Bool) (l : ℕ) → HasWordsNow (if b then record p { address = l } else next p)
  jump_in true l = record { slots = h.slots; cells = h.cells; basepri = h.basepri }
  jump_in false l = on

  unmask_in : (b s : Bool)
      → IsEffectInRange (if b then Leads (record (next p) { primask = s }) request.Nothing else Traps trap.Stack)
  unmask_in true s = (record { slots = h.slots; cells = h.cells; basepri = h.basepri }, tt)
  unmask_in false s = tt

  done_in : (i : Instr) → IsWordInstr i → IsEffectInRange (unchecked_effect i time p)
  done_in (instr.Set d v) word = (with_slot d v word, tt)
  done_in (instr.Copy d s) word = (with_slot d (slot p s) (index_word p.slots s h.slots), tt)
  done_in (instr.Calc o d a b) word = (
    with_slot d (operate o (slot p a) (slot p b))
        (operate_word o (slot p a) (slot p b) (index_word p.slots a h.slots) (index_word p.slots b h.slots)),
    tt,
  )
  done_in (instr.Load d c) word = (with_slot d (slice_index p.cells c) (index_word p.cells c h.cells), tt)
  done_in (instr.Store c s) word = (with_cell c (slot p s) (index_word p.slots s h.slots), tt)
  done_in (instr.LoadAt d c s) word =
      (with_slot d (slice_index p.cells (c + slot p s)) (index_word p.cells (c + slot p s) h.cells), tt)
  done_in (instr.StoreAt c s a) word = (with_cell (c + slot p s) (slot p a) (index_word p.slots a h.slots), tt)
  done_in (instr.Jump l) word = (record { slots = h.slots; cells = h.cells; basepri = h.basepri }, tt)
  done_in (instr.JumpZ s l) word = (jump_in (slot p s == 0) l, tt)
  done_in (instr.Emit s) word = (on, index_word p.slots s h.slots)
  done_in (instr.Post irq) word = (on, tt)
  done_in (instr.Clock d) word = (with_slot d time early, early)
  done_in (instr.Alarm s irq) word = (on, tt)
  done_in instr.NoAlarm word = (on, tt)
  done_in (instr.Raise d v) word =
      (record { slots = set_words p.slots d p.basepri h.slots h.basepri; cells = h.cells; basepri = word }, tt)
  done_in (instr.Restore s) word =
      (record { slots = h.slots; cells = h.cells; basepri = index_word p.slots s h.slots }, tt)
  done_in (instr.Mask d) word = (
    record {
      slots = set_words p.slots d (number_of p.primask) h.slots (test_word p.primask);
      cells = h.cells;
      basepri = h.basepri;
    },
    tt,
  )
  done_in (instr.Unmask s) word = unmask_in (nat_le (slot p s) 1) (slot p s == 1)
  done_in instr.Mark word = (on, tt)
  done_in instr.Serve word = (record { slots = h.slots; cells = h.cells; basepri = h.basepri }, tt)
  done_in instr.Wait word = (h, tt)
  done_in (instr.Call row s) word = (h, near)
  done_in instr.Back word = (h, tt)
  done_in instr.Ret word = (h, tt)

  effect_in : (i : Instr) → IsWordInstr i → IsEffectInRange (effect i time p)
  effect_in i word =
      tested_in (are_there (cells_of i p) p.cells) (are_there (slots_of i) p.slots) (unchecked_effect i time p)
      (done_in i word)

-- what a step shows is in range
abbrev pub IsShownInRange : Image → Option What → Type 0
IsShownInRange img None = Unit {0}
IsShownInRange img (Some (what.Take irq depth)) = depth ≤ img.stack_bytes
IsShownInRange img (Some w) = HasNumbers w

-- the item is no take, or one within the stack region
abbrev pub IsTakeWithin : Image → What → Type 0
IsTakeWithin img (what.Take irq depth) = depth ≤ img.stack_bytes
IsTakeWithin img w = Unit {0}

abbrev IsAfterInRange : Image → Outcome → Type 0
IsAfterInRange img (Trapped c trap) = IsInRange c
IsAfterInRange img (Done c shown) = IsInRange c × IsShownInRange img shown

if_in : (img : Image) (b : Bool) (x y : Outcome) → (b ≡ true → IsAfterInRange img x) → IsAfterInRange img y
    → IsAfterInRange img (if b then x else y)
if_in img true x y this that = this refl
if_in img false x y this that = that

few_found : (bodies : List BodyRow) (row : Option BodyRow) → TakeFewArguments bodies
    → ((r : BodyRow) → row ≡ Some r → (i : ℕ) × (slice_get bodies i ≡ Some r))
    → unwrap_or (option_map (λ (r : BodyRow). r.args) row) 0 ≤ 4
few_found bodies None few at = omega arith
few_found bodies (Some r) few at = let there = at r refl in few there.0 r there.1

few_arguments : (img : Image) (t : ℕ) → TakeFewArguments img.bodies → argument_count img t ≤ 4
few_arguments img t few =
    few_found img.bodies (find (λ (row : BodyRow). row.task == t) img.bodies) few
    (λ r is. found_at (λ (row : BodyRow). row.task == t) img.bodies r is)

module _ (img : Image) (c : Core) (h : IsInRange c) where
  enter_in : (irq : ℕ) (handler : Option Handler) → IsAfterInRange img (transfer.exception_entry img c irq handler)
  enter_in irq None = (h, tt)
  enter_in irq (Some handler) =
      let x : Context = record {
        irq = irq;
        value = handler.value;
        address = c.processor.address;
        slots = c.processor.slots;
        caller = c.caller;
      } in
      let after : Core = transfer.core_after_entry c irq handler in
      if_in img (transfer.has_room img c (entry_words img + handler.frame))
      (Done after (Some (what.Take irq (depth img after)))) (Trapped c trap.Stack)
      (λ room. (
        record {
          now = record { slots = zero_words handler.frame; cells = h.now.cells; basepri = h.now.basepri };
          caller = tt;
          below = ((h.now.slots, h.caller), h.below);
        },
        omega (
          arith,
          sum_by-cons (context_words (entry_words img)) x c.below,
          length-replicate {A = ℕ} handler.frame 0,
          leb-true (stack_in_use img c + (entry_words img + handler.frame)) (img.stack_bytes / 4) room,
        ),
      )) h

  return_in : (caller : Option (List ℕ)) (below : List Context) → AllByRecursion IsWordContext below
      → IsAfterInRange img (transfer.outcome_of_return c (interrupted_context caller below))
  return_in None [] all = h
  return_in None (x ∷ below) all = (
    record {
      now = record { slots = all.0.0; cells = h.now.cells; basepri = h.now.basepri };
      caller = all.0.1;
      below = all.1;
    },
    tt,
  )
  return_in (Some caller) [] all = h
  return_in (Some caller) (x ∷ below) all = h

  call_row_in : (row : Option BodyRow) (from : ℕ) → Is32Bits (suc c.processor.address)
      → IsAfterInRange img (transfer.call_row img c row from)
  call_row_in None from near = h
  call_row_in (Some row) from near =
      let caller : List ℕ = caller_frame c.processor.slots (suc c.processor.address) in
      let words : AreWords caller =
      set_words c.processor.slots (last_slot c.processor.slots) (suc c.processor.address) h.now.slots near in
      if_in img (transfer.call_fits img c row from) (Done (transfer.core_after_call c row from) None)
      (Trapped c trap.Stack)
      (λ fits. (
        record {
          now = record {
            slots = all_append Is32Bits (take row.args (drop from caller)) (replicate (row.frame - row.args) 0)
                (take_words row.args (drop from caller) (drop_words from caller words))
                (zero_words (row.frame - row.args));
            cells = h.now.cells;
            basepri = h.now.basepri;
          };
          caller = words;
          below = h.below;
        },
        tt,
      )) h

  back_in : (caller : Option (List ℕ)) → AreWords (words_of caller) → IsAfterInRange img (transfer.back_to c caller)
  back_in None all = h
  back_in (Some slots) all = (
    record {
      now = record { slots = all; cells = h.now.cells; basepri = h.now.basepri };
      caller = tt;
      below = h.below;
    },
    tt,
  )

  alarm_in : (instant irq : ℕ) → IsAfterInRange img (transfer.set_alarm c instant irq)
  alarm_in instant irq =
      if_in img (nat_le instant c.time) (Done (record (transfer.core_after_pend c irq) { alarm = None })
      (Some what.Alarm))
      (Done (record c { alarm = Some (record { instant = instant; irq = irq }) }) (Some what.AlarmSet))
      (λ due. (record { now = h.now; caller = h.caller; below = h.below }, tt))
      (record { now = h.now; caller = h.caller; below = h.below }, tt)

  answer_in : (asked : Request) → AsksNumbers c.processor asked → IsAfterInRange img (stepping.answer img c asked)
  answer_in request.Nothing asks = (h, tt)
  answer_in (request.Emit value) asks = (h, asks)
  answer_in (request.Post irq) asks = (record { now = h.now; caller = h.caller; below = h.below }, tt)
  answer_in (request.Clock time) asks = (h, asks)
  answer_in (request.Alarm instant irq) asks = alarm_in instant irq
  answer_in request.NoAlarm asks = (record { now = h.now; caller = h.caller; below = h.below }, tt)
  answer_in (request.Call number from) asks =
      let row : Option BodyRow = slice_get img.bodies number in
      if_in img (transfer.may_call c) (transfer.call_row img c row from) (Trapped c trap.Stack)
      (λ may. call_row_in row from asks) h
  answer_in request.Back asks = back_in c.caller h.caller
  answer_in request.Return asks = return_in c.caller c.below h.below

  module _ (few : TakeFewArguments img.bodies) where
    start_in : (t n : ℕ) (b : Bool) (slots : List ℕ) → AreWords slots → n ≤ 4
        → IsAfterInRange img (stepping.outcome_of_note c
        (option_map (what.Start t) (if◌then◌else◌ {A = Option (List ℕ)} b (Some (take n slots)) None)))
    start_in t n true slots all most = (h, (omega (arith, length-take n slots, most), take_words n slots all))
    start_in t n false slots all most = h

    arm_in : (t : ℕ) (instant : Option ℕ) → IsWordIf instant
        → IsAfterInRange img (stepping.outcome_of_note c (option_map (what.Arm t) instant))
    arm_in t None word = h
    arm_in t (Some instant) word = (h, word)

    cancel_in : (t : ℕ) (handle : Option ℕ) → IsWordIf handle
        → IsAfterInRange img (stepping.outcome_of_note c (option_map (what.Cancel t) handle))
    cancel_in t None word = h
    cancel_in t (Some handle) word = (h, word)

    move_in : (t : ℕ) (handle instant : Option ℕ) → IsWordIf handle → IsWordIf instant
        → IsAfterInRange img
        (stepping.outcome_of_note c (then_from handle (λ n. option_map (what.Move t n) instant)))
    move_in t None instant first second = h
    move_in t (Some handle) None first second = h
    move_in t (Some handle) (Some instant) first second = (h, (first, second))

    value_in : (cell : Option ℕ) → IsWordIf (then_from cell (slice_get c.processor.cells))
    value_in None = tt
    value_in (Some k) = get_word c.processor.cells k h.now.cells

    left_in : (s : Section) → IsWordIf (left_value img c s)
    left_in (section.Res r) = value_in (resource_cell img r)
    left_in (section.Free t) = tt
    left_in (section.Ready p) = tt
    left_in section.Timer = tt

    noted_in : (n : Note) → HasLevelNote (Some n)
        → IsAfterInRange img (stepping.outcome_of_note c (item_of_note img c n))
    noted_in (note.Enter s) level = (h, level)
    noted_in (note.Leave s) level = (h, (level, left_in s))
    noted_in (note.Placed t) level = (h, tt)
    noted_in (note.Full t) level = (h, tt)
    noted_in (note.Ready t) level = (h, tt)
    noted_in (note.Start t from) level =
        let n : ℕ = argument_count img t in
        start_in t n ((n == 0) || nat_le (from + n) (length c.processor.slots)) (drop from c.processor.slots)
        (drop_words from c.processor.slots h.now.slots) (few_arguments img t few)
    noted_in (note.Free t) level = (h, tt)
    noted_in (note.Arm t s) level = arm_in t (slice_get c.processor.slots s) (get_word c.processor.slots s h.now.slots)
    noted_in (note.Fire t) level = (h, tt)
    noted_in (note.Cancel t s) level =
        cancel_in t (slice_get c.processor.slots s) (get_word c.processor.slots s h.now.slots)
    noted_in (note.Move t s a) level =
        move_in t (slice_get c.processor.slots s) (slice_get c.processor.slots a)
        (get_word c.processor.slots s h.now.slots) (get_word c.processor.slots a h.now.slots)
    noted_in (note.End b) level = (h, tt)

with_note_in : (img : Image) (n : Option Note) (o : Outcome) → TakeFewArguments img.bodies → HasLevelNote n
    → IsAfterInRange img o → IsAfterInRange img (stepping.with_note img n o)
with_note_in img None (Trapped c trap) few level h = h
with_note_in img None (Done c shown) few level h = h
with_note_in img (Some n) (Trapped c trap) few level h = h
with_note_in img (Some n) (Done c (Some w)) few level h = h
with_note_in img (Some n) (Done c None) few level h = noted_in img c h.0 few n level

go_on_in : (img : Image) (c : Core) (n : Option Note) (e : Effect) → TakeFewArguments img.bodies → HasLevelNote n
    → IsInRange c → IsEffectInRange e → IsAfterInRange img (stepping.go_on img c n e)
go_on_in img c n (Traps t) few level h e = h
go_on_in img c n (Leads p asked) few level h e =
    let after : Core = record c { processor = p } in
    with_note_in img n (stepping.answer img after asked) few level
    (answer_in img after (record { now = e.0; caller = h.caller; below = h.below }) asked e.1)

trap_small : (t : Trap) → trap_number t < 2 ^ 8
trap_small trap.Address = omega arith
trap_small trap.Stack = omega arith
trap_small trap.Jump = omega arith

module _ (img : Image) (runnable : IsRunnable img) (ranges : HasRanges img) (c : Core) (h : IsInRange c)
    (early : Is32Bits c.time) where
  run_in : (line : Option (Instr × Option Note)) → slice_get img.code c.processor.address ≡ line
      → IsAfterInRange img (stepping.run img c line)
  run_in None at = h
  run_in (Some line) at =
      let address = c.processor.address in
      let within : address < length img.code = slice_get_within img.code address line at in
      go_on_in img c line.1 (effect line.0 c.time c.processor) runnable.rows.arguments
      (all_at (λ l. HasLevelNote l.1) img.code address line ranges.notes at) h
      (effect_in c.time c.processor early (omega (arith, within, runnable.sizes.code_short)) h.now line.0
      (all_at (λ l. IsWordInstr l.0) img.code address line ranges.instrs at))

  attempt_in : (taken : Option IrqRow) → IsAfterInRange img (stepping.attempt img c taken)
  attempt_in None = run_in (slice_get img.code c.processor.address) refl
  attempt_in (Some row) = enter_in img c h row.number row.handler

  settled_in : (o : Outcome) → IsAfterInRange img o → IsInRange (settle o).0 × IsShownInRange img (settle o).1
  settled_in (Trapped d t) k = (record { now = k.now; caller = k.caller; below = k.below }, trap_small t)
  settled_in (Done d shown) k = k

  by_stopped : (stopped : Bool) → IsInRange (step_by img c stopped).0 × IsShownInRange img (step_by img c stopped).1
  by_stopped true = (h, tt)
  by_stopped false = settled_in (stepping.attempt img c (pick img c)) (attempt_in (pick img c))

  -- a step keeps the ranges, and shows an item in range
  pub step_in : IsInRange (stepping.step img c).0 × IsShownInRange img (stepping.step img c).1
  step_in =
      subst (λ (s : Core × Option What). IsInRange s.0 × IsShownInRange img s.1) (sym (step_is img c))
      (by_stopped c.stopped)

first_cells : (cells : List CellRow) → AllByRecursion (λ cell. Is32Bits cell.first) cells
    → AreWords (map (λ cell. cell.first) cells)
first_cells [] all = tt
first_cells (cell ∷ cells) all = (all.0, first_cells cells all.1)

pub reset_in : (img : Image) → HasRanges img → IsInRange (reset img)
reset_in img ranges = record {
  now = record {
    slots = zero_words img.thread_words;
    cells = first_cells img.cells ranges.cells;
    basepri = omega arith;
  };
  caller = tt;
  below = tt;
}
