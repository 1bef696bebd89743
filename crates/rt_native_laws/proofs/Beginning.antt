-- Code that makes room for a frame, or fills it: the stack pointer only falls.
use Rattle.std.proofs.Common.{◌≡◌, ◌∙◌, ℕ, zero, suc, ◌+◌, ◌-◌, ◌*◌, ◌/◌, ◌%◌, ◌^◌, ◌<◌, ◌≤◌}
use Rattle.std.proofs.Common.{Bool, true, false, List, [], ◌∷◌, ◌++◌, Option, Some, None, sym, refl, ap, subst, arith}
use Rattle.std.proofs.Common.{append_assoc, length, replicate, flat_map}
use Rattle.std.proofs.lemmas.Bool.Decides.{nat_tests}
use Rattle.std.proofs.lemmas.List.{length-set}
use Rattle.std.specs.List.{AllByRecursion, range_with_len}
use Rattle.std.specs.Prelude.{if◌then◌else◌, ◌==◌, ◌||◌, nat_le, nat_lt, slice_get, is_none}
use Rattle.rt_lemmas.proofs.Bools.{and_parts, and_both, not_so, true_and_false}
use Rattle.rt_lemmas.proofs.Lists.{all_append}
use Rattle.rt_lemmas.proofs.Membership.{all_weaker}
use Rattle.rt_code.specs.Image.{Image}
use Rattle.rt_code.specs.Stack.{words_of, arguments_fit, caller_frame, last_slot}
use Rattle.rt_code.specs.declared.image.BodyRow.{BodyRow}
use Rattle.rt_code.specs.declared.image.Handler.{Handler}
use Rattle.rt_code.specs.declared.instr.Instr.TheVariants as instr
use Rattle.rt_code.specs.declared.processor.Trap.TheVariants as trap
use Rattle.rt_core.specs.Core.{Core}
use Rattle.rt_core.specs.Outcome.{Outcome, Trapped, Done}
use Rattle.rt_core.specs.Transfer.{core_after_call, call_row, has_room}
use Rattle.rt_ids.specs.Operation.{wrapped_number as word}
use Rattle.rt_native.specs.Pieces.{STEP, open_frame, fall, read_slot, write_slot, address}
use Rattle.rt_native.specs.Sequences.{RETURN_SLOT, branch, call, read_arguments, write_arguments}
use Rattle.rt_native.specs.Service.{opening, stub}
use Rattle.rt_native.specs.declared.outside.Outside.{Outside}
use Rattle.rt_thumb.specs.Effect.{effect}
use Rattle.rt_thumb.specs.Instruction.{IsEncodable}
use Rattle.rt_thumb.specs.Machine.{Machine}
use Rattle.rt_thumb.specs.Step.{Program}
use Rattle.rt_thumb.specs.declared.instruction.Instruction.{Instruction}
use Rattle.rt_thumb.specs.declared.instruction.Instruction.TheVariants as instruction
use Rattle.rt_native_laws.specs.Doing.{Calls, UnlessTrapped, machine_code, outcome, with_slots}
use Rattle.rt_native_laws.specs.Going.{HasCode, IsNothing}
use Rattle.rt_native_laws.specs.Laws.{IsApart}
use Rattle.rt_native_laws.specs.Opening.{Opens}
use Rattle.rt_native_laws.specs.Own.{AreSteady, ChangesItsOwn, Executes, RunsPrivately, StepsPrivately, is_private}
use Rattle.rt_native_laws.specs.Own.{is_steady}
use Rattle.rt_native_laws.specs.Own.{stays_within}
use Rattle.rt_native_laws.specs.Phases.{HasBegun, IsButForWords, IsEntering, IsCalling, AlreadyDone, Entering, Calling}
use Rattle.rt_native_laws.specs.Standing.{frames_end}
use Rattle.rt_native_laws.proofs.Accesses.{runs_within}
use Rattle.rt_native_laws.proofs.Calls.{call_is_done, is_free}
use Rattle.rt_native_laws.proofs.Opening.{opening_is_done}
use Rattle.rt_native_laws.proofs.Phases.{apart_of}
use Rattle.rt_native_laws.proofs.Prefixes.{same_next, rest_of}
use Rattle.rt_native_laws.proofs.Private.{private_is_unseen}
use Rattle.rt_native_laws.proofs.Runs.{runs_on}
use Rattle.rt_native_laws.proofs.Shapes.{reads, writes, address_is}
use Rattle.rt_native_laws.proofs.Steady.{stack_stays, words_run}
use Rattle.rt_native_laws.proofs.Tests.{at_most}

pub same_words : (kept : ℕ) (c : Core) → IsButForWords kept c c
same_words kept c = record { core = refl; long = refl; words = λ k l. refl }

-- an instruction never moves the stack pointer up
abbrev falls_only : Instruction → Bool
falls_only (instruction.SubtractStack n) = true
falls_only (instruction.SubtractStackWide n) = true
falls_only i = is_steady i

abbrev AreFalling : List Instruction → Type 0
AreFalling code = AllByRecursion (λ i. falls_only i ≡ true) code

steady_falls : (i : Instruction) → is_steady i ≡ true → falls_only i ≡ true
steady_falls (instruction.SubtractStack n) h = refl
steady_falls (instruction.SubtractStackWide n) h = refl
steady_falls i h = h

all_fall : (code : List Instruction) → AreSteady code → AreFalling code
all_fall code h = all_weaker (λ i. is_steady i ≡ true) (λ i. falls_only i ≡ true) steady_falls code h

-- the stack pointer, moved down by less than 2 ^ 12 and still within, is no higher
lower : (floor top sp n : ℕ) → n < 2 ^ 12 → sp ≤ top → top ≤ 0xE0000000
    → stays_within floor top (word (sp + (2 ^ 32 - n))) ≡ true → word (sp + (2 ^ 32 - n)) ≤ sp
lower floor top sp n l high memory h =
    let below = at_most (word (sp + (2 ^ 32 - n))) top
    (and_parts (nat_le floor (word (sp + (2 ^ 32 - n)))) (nat_le (word (sp + (2 ^ 32 - n))) top) h).1 in
    omega (arith, below)

module _ (port floor top : ℕ) (m n : Machine) (high : m.register 13 ≤ top) (memory : top ≤ 0xE0000000) where
  by_steady : (i : Instruction) → IsEncodable i → is_steady i ≡ true → effect port i m ≡ Some n
      → n.register 13 ≤ m.register 13
  by_steady i h s e = let same = stack_stays port m i n h s e in omega (arith, same)

  made : (x : Machine) → Some x ≡ Some n → x.register 13 ≤ m.register 13 → n.register 13 ≤ m.register 13
  made x e h = let exact : x ≡ n = cc in subst (λ (k : Machine). k.register 13 ≤ m.register 13) exact h

  stack_falls : (i : Instruction) → IsEncodable i → falls_only i ≡ true → is_private floor top i m ≡ true
      → effect port i m ≡ Some n → n.register 13 ≤ m.register 13
  stack_falls (instruction.SubtractStack v) h f own e =
      made _ e (lower floor top (m.register 13) v (omega (arith, h.1)) high memory own)
  stack_falls (instruction.SubtractStackWide v) h f own e =
      made _ e (lower floor top (m.register 13) v (omega (arith, h.1)) high memory own)
  stack_falls i h f own e = by_steady i h f e

  kept_aligned : (x : Machine) → Some x ≡ Some n → x.register 13 % 4 ≡ 0 → n.register 13 % 4 ≡ 0
  kept_aligned x e h = let exact : x ≡ n = cc in subst (λ (k : Machine). k.register 13 % 4 ≡ 0) exact h

  stack_aligned : (i : Instruction) → IsEncodable i → falls_only i ≡ true → effect port i m ≡ Some n
      → m.register 13 % 4 ≡ 0 → n.register 13 % 4 ≡ 0
  stack_aligned (instruction.SubtractStack v) h f e z = kept_aligned _ e (omega (arith, z, h.0, h.1))
  stack_aligned (instruction.SubtractStackWide v) h f e z = kept_aligned _ e (omega (arith, z, h.0, h.1))
  stack_aligned i h f e z = let same = stack_stays port m i n h f e in omega (arith, same, z)

  -- what is private within a part of the stack is so within the part from the stack pointer behind it on
  within_now : (v : ℕ) (x : Machine) → Some x ≡ Some n → x.register 13 ≡ v → stays_within floor top v ≡ true
      → stays_within (n.register 13) top v ≡ true
  within_now v x e r h =
      let exact : x ≡ n = cc in
      let now : n.register 13 ≡ v = ap (λ (k : Machine). k.register 13) (sym exact) ∙ r in
      and_both (nat_le (n.register 13) v) (nat_le v top) (grind (arith, nat_tests, now))
      (and_parts (nat_le floor v) (nat_le v top) h).1

  tight : (i : Instruction) → is_private floor top i m ≡ true → effect port i m ≡ Some n
      → is_private (n.register 13) top i m ≡ true
  tight (instruction.AddStack v) own e = within_now _ _ e refl own
  tight (instruction.SubtractStack v) own e = within_now _ _ e refl own
  tight (instruction.AddStackWide v) own e = within_now _ _ e refl own
  tight (instruction.SubtractStackWide v) own e = within_now _ _ e refl own
  tight i own e = own

-- what is private within a part of the stack is so within a part that goes deeper
module _ (p : Program) (floor deeper top : ℕ) (below : deeper ≤ floor) where
  deeper_within : (v : ℕ) → stays_within floor top v ≡ true → stays_within deeper top v ≡ true
  deeper_within v h =
      let two = and_parts (nat_le floor v) (nat_le v top) h in
      let least = at_most floor v two.0 in
      and_both (nat_le deeper v) (nat_le v top) (grind (arith, nat_tests)) two.1

  deeper_private : (i : Instruction) (m : Machine) → is_private floor top i m ≡ true
      → is_private deeper top i m ≡ true
  deeper_private (instruction.AddStack v) m h = deeper_within _ h
  deeper_private (instruction.SubtractStack v) m h = deeper_within _ h
  deeper_private (instruction.AddStackWide v) m h = deeper_within _ h
  deeper_private (instruction.SubtractStackWide v) m h = deeper_within _ h
  deeper_private i m h = h

  pub deeper_run : (is : List Instruction) (m n : Machine) → RunsPrivately p floor top is m n
      → RunsPrivately p deeper top is m n
  deeper_run [] m n r = r
  deeper_run (i ∷ is) m n r = (
    r.0,
    record { executes = r.1.executes; is_private = deeper_private i m r.1.is_private },
    deeper_run is r.0 n r.2,
  )

-- One machine instruction of code that makes a frame: it goes on, or was the last.
pub data Goes (p : Program) (top : ℕ) (text : List Instruction) (first last n : Machine) : Type 0 where
  On : HasBegun p top text first n → Goes p top text first last n
  Ends : n ≡ last → Goes p top text first last n

pub record IsOwn (p : Program) (floor top : ℕ) (text : List Instruction) (first last m n : Machine) : Type 0 where
  pub goes : Goes p top text first last n
  pub deep : floor ≤ n.register 13
  pub unseen : ChangesItsOwn floor top m n

-- the code runs from a first state to a last
module _ (at : Outside) (img : Image) (places : List ℕ) (p : Program) (code : HasCode at img places p)
    (floor top : ℕ) (apart : IsApart p floor top) (text : List Instruction) (falling : AreFalling text)
    (first last : Machine) (high : first.register 13 ≤ top) (whole : RunsPrivately p floor top text first last)
    (m n : Machine) (begun : HasBegun p top text first m) (deep : floor ≤ m.register 13) (executed : Instruction)
    (exec : Executes p executed m n) where
  all_front : (xs ys : List Instruction) → AreFalling (xs ++ ys) → AreFalling ys
  all_front [] ys h = h
  all_front (x ∷ xs) ys h = all_front xs ys h.1

  run_so_far : RunsPrivately p floor top begun.passed first m
  run_so_far = deeper_run p (m.register 13) floor top deep begun.passed first m begun.prepares

  left_run : RunsPrivately p floor top (begun.next ∷ begun.left) m last
  left_run =
      rest_of p floor top begun.passed (begun.next ∷ begun.left) first m last
      (subst (λ (zs : List Instruction). RunsPrivately p floor top zs first last) begun.parts whole) run_so_far

  same : left_run.0 ≡ n
  same = same_next p begun.next executed m left_run.0 n left_run.1.executes exec

  steps : StepsPrivately p floor top begun.next m n
  steps = subst (λ (k : Machine). StepsPrivately p floor top begun.next m k) same left_run.1

  behind : RunsPrivately p floor top begun.left n last
  behind = subst (λ (k : Machine). RunsPrivately p floor top begun.left k last) same left_run.2

  below_top : m.register 13 ≤ top
  below_top = omega (arith, begun.fallen, high)

  own : ChangesItsOwn floor top m n
  own = private_is_unseen p floor top (begun.next ∷ []) m n apart deep below_top (n, steps, refl)

  next_falls : falls_only begun.next ≡ true
  next_falls =
      (all_front begun.passed (begun.next ∷ begun.left) (subst AreFalling begun.parts falling)).0

  fallen : n.register 13 ≤ m.register 13
  fallen =
      stack_falls p.port floor top m n below_top apart.memory begun.next
      (code.encodable m.address begun.next steps.executes.found) next_falls steps.is_private steps.executes.does

  by_left : (ys : List Instruction) → begun.left ≡ ys → RunsPrivately p floor top ys n last
      → Goes p top text first last n
  by_left [] e run = Ends (sym run)
  by_left (y ∷ ys) e run =
      let alone : StepsPrivately p (n.register 13) top begun.next m n = record {
        executes = steps.executes;
        is_private = tight p.port floor top m n below_top apart.memory begun.next steps.is_private steps.executes.does;
      } in
      On (record {
        passed = begun.passed ++ begun.next ∷ [];
        next = y;
        left = ys;
        parts = begun.parts ∙ (ap (λ (zs : List Instruction). begun.passed ++ begun.next ∷ zs) e
            ∙ sym (append_assoc begun.passed (begun.next ∷ []) (y ∷ ys)));
        fallen = omega (arith, fallen, begun.fallen);
        aligned = stack_aligned p.port floor top m n below_top apart.memory begun.next
            (code.encodable m.address begun.next steps.executes.found) next_falls steps.executes.does begun.aligned;
        prepares = runs_on p (n.register 13) top begun.passed (begun.next ∷ []) first m n
            (deeper_run p (m.register 13) (n.register 13) top fallen begun.passed first m begun.prepares)
            (n, alone, refl);
      })

  pub is_own : IsOwn p floor top text first last m n
  is_own = record { goes = by_left begun.left refl behind; deep = own.stack.0; unseen = own }

-- The code of an opening and of a call only lets the stack pointer fall.
many : (count : ℕ) (i : Instruction) → falls_only i ≡ true → AreFalling (replicate count i)
many zero i h = tt
many (suc count) i h = (h, many count i h)

joined : (xs ys : List Instruction) → AreFalling xs → AreFalling ys → AreFalling (xs ++ ys)
joined xs ys h k = all_append (λ i. falls_only i ≡ true) xs ys h k

chosen : (b : Bool) (xs ys : List Instruction) → AreFalling xs → AreFalling ys → AreFalling (if b then xs else ys)
chosen true xs ys h k = h
chosen false xs ys h k = k

fall_falls : (n : ℕ) → AreFalling (fall n)
unfolding fall
fall_falls n =
    let one = if nat_lt n (2 ^ 9) then instruction.SubtractStack n ∷ [] else instruction.SubtractStackWide n ∷ [] in
    chosen (n == 0) [] one tt
    (chosen (nat_lt n (2 ^ 9)) (instruction.SubtractStack n ∷ []) (instruction.SubtractStackWide n ∷ []) (refl, tt)
    (refl, tt))

open_falls : (words : ℕ) → AreFalling (open_frame words)
unfolding open_frame
open_falls words =
    joined (replicate (word (4 * words) / STEP) (instruction.SubtractStackWide STEP)) (fall (word (4 * words) % STEP))
    (many (word (4 * words) / STEP) (instruction.SubtractStackWide STEP) refl) (fall_falls (word (4 * words) % STEP))

stub_falls : (at : Outside) (places : List ℕ) (to irq : ℕ) (h : Handler)
    → AreFalling (stub at [] places to irq (Some h))
unfolding stub opening branch
stub_falls at places to irq h = joined (open_frame h.frame) _ (open_falls h.frame) (refl, tt)

each_of : (f : ℕ → List Instruction) (xs : List ℕ) → ((k : ℕ) → AreFalling (f k)) → AreFalling (flat_map f xs)
each_of f [] h = tt
each_of f (x ∷ xs) h = joined (f x) (flat_map f xs) (h x) (each_of f xs h)

reads_fall : (args s : ℕ) → AreFalling (read_arguments args s)
unfolding read_arguments
reads_fall args s =
    each_of (λ k. read_slot k (word (s + k))) (range_with_len 0 args)
    (λ k. all_fall (read_slot k (word (s + k))) (reads k (word (s + k))))

writes_fall : (args : ℕ) → AreFalling (write_arguments args)
unfolding write_arguments
writes_fall args =
    each_of (λ k. write_slot k k) (range_with_len 0 args) (λ k. all_fall (write_slot k k) (writes k k))

call_falls : (places : List ℕ) (from s : ℕ) (o : Option BodyRow) → AreFalling (call places from s o)
unfolding call branch
call_falls places from s None = tt
call_falls places from s (Some row) =
    let link = address 0 (word (from + 1)) in
    let saves = link ++ write_slot 0 RETURN_SLOT in
    let asks = saves ++ read_arguments row.args s in
    let opens = asks ++ open_frame row.frame in
    joined (opens ++ write_arguments row.args) _
    (joined opens (write_arguments row.args)
    (joined asks (open_frame row.frame)
    (joined saves (read_arguments row.args s)
    (joined link (write_slot 0 RETURN_SLOT) (all_fall link (address_is 0 (word (from + 1))))
    (all_fall (write_slot 0 RETURN_SLOT) (writes 0 RETURN_SLOT))) (reads_fall row.args s)) (open_falls row.frame))
    (writes_fall row.args)) (refl, tt)

-- A handler's frame is coming into being.
module _ (at : Outside) (bottom : ℕ) (img : Image) (places : List ℕ) (p : Program) (code : HasCode at img places p)
    (c : Core) (top : ℕ) (m n : Machine) (executed : Instruction) (exec : Executes p executed m n) where
  module _ (x : IsEntering at bottom img places p c top m) where
    abbrev frame : ℕ
    frame = x.handler.frame

    opened : Opens at bottom img places p x.to x.irq x.handler c x.first
    opened = opening_is_done at bottom img places p x.to x.irq x.handler c x.first x.opens

    none : length (words_of c.caller) ≡ 0
    none = ap (λ (o : Option (List ℕ)). length (words_of o)) x.opens.free

    -- the stack pointer in the end
    there : opened.last.register 13 + 4 * frame ≡ top
    there = omega (arith, opened.becomes.ends, opened.long, none, x.ends)

    abbrev text : List Instruction
    text = stub at [] places x.to x.irq (Some x.handler)

    abbrev floor : ℕ
    floor = opened.last.register 13

    whole : RunsPrivately p floor top text x.first opened.last
    whole = runs_within p floor (x.first.register 13) floor top text x.first opened.last refl (sym x.ends) opened.runs

    apart : IsApart p floor top
    apart = apart_of at bottom floor top (length c.processor.cells) p x.opens.laid code.port
        opened.becomes.stands.stack (omega (arith, x.opens.stands.frames, x.ends))

    own_entry : IsOwn p floor top text x.first opened.last m n
    own_entry = is_own at img places p code floor top apart text (stub_falls at places x.to x.irq x.handler) x.first
        opened.last (omega (arith, x.ends)) whole m n x.begun (omega (arith, there, x.deep)) executed exec

    settled_then : opened.last.is_unsettled ≡ false
    settled_then =
        let all = private_is_unseen p floor top text x.first opened.last apart (omega (arith, there, x.ends))
        (omega (arith, x.ends)) whole in
        not_so opened.last.is_unsettled (λ e. true_and_false x.first.is_unsettled (all.settled e) x.settled)

    result : Goes p top text x.first opened.last n → IsNothing at bottom img places p c top m n 0
    result (On again) = record {
      core = c;
      words = same_words 0 c;
      fresh = omega arith;
      phase = Entering (record {
        to = x.to;
        irq = x.irq;
        handler = x.handler;
        first = x.first;
        opens = x.opens;
        ends = x.ends;
        settled = x.settled;
        words = x.words;
        begun = again;
        deep = omega (arith, there, own_entry.deep);
      });
      floor = floor;
      deep = opened.becomes.stands.stack;
      unseen = own_entry.unseen;
    }
    result (Ends e) = record {
      core = with_slots at bottom img places p opened.slots c;
      words = record { core = refl; long = opened.long ∙ sym x.opens.frame; words = λ k l. absurd (omega (arith, l)) };
      fresh = omega arith;
      phase = AlreadyDone (record {
        left = [];
        steady = tt;
        last = opened.last;
        stack = ap (λ (k : Machine). k.register 13) e;
        completes = sym e;
        stands = opened.becomes.stands;
        ends = opened.becomes.ends ∙ omega (arith, none, x.ends);
        settled = settled_then;
        words = words_run at img places p code floor top text x.first opened.last whole x.words;
      });
      floor = floor;
      deep = opened.becomes.stands.stack;
      unseen = own_entry.unseen;
    }

    pub entering_goes : IsNothing at bottom img places p c top m n 0
    entering_goes = result own_entry.goes

  -- A body's frame is coming into being.
  module _ (x : IsCalling at bottom img places p c top m) where
    abbrev after : Core
    after = core_after_call x.before x.body x.slot

    abbrev call_text : List Instruction
    call_text = machine_code at bottom img places p (instr.Call x.row x.slot) x.before

    is_called : outcome img (instr.Call x.row x.slot) x.before ≡ Done after None
    is_called =
        ap (λ (b : Bool). if b then call_row img x.before (slice_get img.bodies x.row) x.slot
        else Trapped x.before trap.Stack) x.may
        ∙ (ap (λ (o : Option BodyRow). call_row img x.before o x.slot) x.found
        ∙ ap (λ (b : Bool). if b then Done after None else Trapped x.before trap.Stack) x.fits)

    calls : Calls at bottom img places p x.row x.slot x.body x.before x.first after None
    calls =
        subst (λ (o : Outcome). UnlessTrapped o (Calls at bottom img places p x.row x.slot x.body x.before x.first))
        is_called (call_is_done at bottom img places p x.row x.slot x.body x.before x.first x.found x.stands x.can)

    abbrev called_last : Machine
    called_last = calls.last

    few_called : x.body.args ≤ x.body.frame
    few_called =
        let arguments = (and_parts (arguments_fit x.before.processor.slots x.body x.slot)
        (has_room img x.before x.body.frame) x.fits).0 in
        at_most x.body.args x.body.frame
        (and_parts ((x.body.args == 0) || nat_le (x.slot + x.body.args) (length x.before.processor.slots))
        (nat_le x.body.args x.body.frame) arguments).1

    free : x.before.caller ≡ None
    free = is_free x.before.caller (and_parts (is_none x.before.caller) _ x.may).0

    none_before : length (words_of x.before.caller) ≡ 0
    none_before = ap (λ (o : Option (List ℕ)). length (words_of o)) free

    caller_long : length (caller_frame x.before.processor.slots (suc x.before.processor.address))
        ≡ length x.before.processor.slots
    caller_long =
        length-set x.before.processor.slots (last_slot x.before.processor.slots) (suc x.before.processor.address)

    there_called : called_last.register 13 + 4 * x.body.frame ≡ x.first.register 13
    there_called = omega (arith, calls.becomes.ends, calls.long, x.called.long, x.frame, none_before, caller_long)

    abbrev call_floor : ℕ
    call_floor = called_last.register 13

    ends_called : frames_end (with_slots at bottom img places p calls.slots after) called_last ≡ top
    ends_called = calls.becomes.ends ∙ x.ends

    whole_call : RunsPrivately p call_floor top call_text x.first called_last
    whole_call =
        runs_within p call_floor _ call_floor top call_text x.first called_last refl (sym ends_called) calls.runs

    apart_call : IsApart p call_floor top
    apart_call = apart_of at bottom call_floor top (length x.before.processor.cells) p x.stands.laid code.port
        calls.becomes.stands.stack (omega (arith, x.stands.stands.frames, x.ends))

    below : x.first.register 13 ≤ top
    below = omega (arith, x.ends)

    own_call : IsOwn p call_floor top call_text x.first called_last m n
    own_call = is_own at img places p code call_floor top apart_call call_text
        (call_falls places _ x.slot (slice_get img.bodies x.row)) x.first called_last below whole_call m n x.begun
        (omega (arith, there_called, x.deep)) executed exec

    settled_called : called_last.is_unsettled ≡ false
    settled_called =
        let all = private_is_unseen p call_floor top call_text x.first called_last apart_call
        (omega (arith, there_called)) below whole_call in
        not_so called_last.is_unsettled (λ e. true_and_false x.first.is_unsettled (all.settled e) x.settled)

    call_result : Goes p top call_text x.first called_last n → IsNothing at bottom img places p c top m n x.body.args
    call_result (On again) = record {
      core = c;
      words = same_words x.body.args c;
      fresh = omega arith;
      phase = Calling (record {
        row = x.row;
        slot = x.slot;
        body = x.body;
        found = x.found;
        before = x.before;
        may = x.may;
        fits = x.fits;
        called = x.called;
        frame = x.frame;
        first = x.first;
        stands = x.stands;
        can = x.can;
        ends = x.ends;
        settled = x.settled;
        begun = again;
        deep = omega (arith, there_called, own_call.deep);
      });
      floor = call_floor;
      deep = calls.becomes.stands.stack;
      unseen = own_call.unseen;
    }
    call_result (Ends e) = record {
      core = with_slots at bottom img places p calls.slots after;
      words = record {
        core = sym (ap (λ (y : Core). record y { processor = record y.processor { slots = calls.slots } })
            x.called.core);
        long = calls.long ∙ sym x.called.long;
        words = λ k l. calls.arguments k l ∙ sym (x.called.words k l);
      };
      fresh = omega (arith, few_called, calls.long, x.called.long, x.frame);
      phase = AlreadyDone (record {
        left = [];
        steady = tt;
        last = called_last;
        stack = ap (λ (k : Machine). k.register 13) e;
        completes = sym e;
        stands = calls.becomes.stands;
        ends = ends_called;
        settled = settled_called;
        words = words_run at img places p code call_floor top call_text x.first called_last whole_call x.stands.words;
      });
      floor = call_floor;
      deep = calls.becomes.stands.stack;
      unseen = own_call.unseen;
    }

    pub calling_goes : IsNothing at bottom img places p c top m n x.body.args
    calling_goes = call_result own_call.goes
