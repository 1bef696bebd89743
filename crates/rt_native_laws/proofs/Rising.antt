-- Code that gives up a frame: the stack pointer only rises, and below it others have what they want.
use Rattle.std.proofs.Common.{◌≡◌, ◌∙◌, ℕ, zero, suc, ◌+◌, ◌*◌, ◌/◌, ◌%◌, ◌^◌, ◌<◌, ◌≤◌, ◌⊎◌, inl, inr}
use Rattle.std.proofs.Common.{Bool, true, false, not, List, [], ◌∷◌, ◌++◌, Option, Some, None, refl, sym, ap, subst}
use Rattle.std.proofs.Common.{arith}
use Rattle.std.proofs.Common.{append_assoc, length, replicate, ⊎_elim}
use Rattle.std.proofs.lemmas.Bool.{cases_lt}
use Rattle.std.proofs.lemmas.Bool.Decides.{nat_tests}
use Rattle.std.specs.List.{AllByRecursion}
use Rattle.std.specs.Prelude.{if◌then◌else◌, ◌==◌, ◌&&◌, nat_le, nat_lt, slice_get}
use Rattle.rt_lemmas.proofs.Bools.{and_parts, and_both, not_so, true_and_false}
use Rattle.rt_lemmas.proofs.Lists.{all_append}
use Rattle.rt_lemmas.proofs.Membership.{all_weaker}
use Rattle.rt_code.specs.Image.{Image}
use Rattle.rt_code.specs.declared.instr.Instr.{Instr}
use Rattle.rt_code.specs.declared.instr.Note.{Note}
use Rattle.rt_core.specs.Core.{Core}
use Rattle.rt_ids.specs.Operation.{wrapped_number as word}
use Rattle.rt_native.specs.Pieces.{STEP, close_frame, rise}
use Rattle.rt_native.specs.declared.outside.Outside.{Outside}
use Rattle.rt_thumb.specs.Effect.{effect, exchanged}
use Rattle.rt_thumb.specs.Exceptions.{even, returned}
use Rattle.rt_thumb.specs.Instruction.{IsEncodable}
use Rattle.rt_thumb.specs.Machine.{Machine, Seen}
use Rattle.rt_thumb.specs.Step.{Program}
use Rattle.rt_thumb.specs.declared.instruction.Instruction.{Instruction}
use Rattle.rt_thumb.specs.declared.instruction.Instruction.TheVariants as instruction
use Rattle.rt_native_laws.specs.Doing.{IsAt, machine_code}
use Rattle.rt_native_laws.specs.Going.{HasCode, IsNothing}
use Rattle.rt_native_laws.specs.Laws.{IsApart}
use Rattle.rt_native_laws.specs.Own.{AreSteady, ChangesItsOwn, Executes, IsDisturbed, RunsPrivately, StepsPrivately}
use Rattle.rt_native_laws.specs.Own.{is_private, is_steady, stays_within}
use Rattle.rt_native_laws.specs.Phases.{IsNoCall, IsSameAbove, ToCome}
use Rattle.rt_native_laws.specs.Standing.{frames_end}
use Rattle.rt_native_laws.proofs.Beginning.{same_words}
use Rattle.rt_native_laws.proofs.Prefixes.{same_next}
use Rattle.rt_native_laws.proofs.Private.{no_return, private_is_unseen}
use Rattle.rt_native_laws.proofs.Runs.{runs_on}
use Rattle.rt_native_laws.proofs.Silent.{own_apart}
use Rattle.rt_native_laws.proofs.Steady.{stack_stays}
use Rattle.rt_native_laws.proofs.Undisturbed.{private_is_undisturbed}

-- an instruction never moves the stack pointer down, where it is private
abbrev pub rises_only : Instruction → Bool
rises_only (instruction.AddStack n) = true
rises_only (instruction.AddStackWide n) = true
rises_only (instruction.BranchExchange r) = true
rises_only i = is_steady i

abbrev pub AreRising : List Instruction → Type 0
AreRising code = AllByRecursion (λ i. rises_only i ≡ true) code

-- the stack pointer, moved up by less than 2 ^ 12 and still within, is no lower
higher : (floor top sp n : ℕ) → n < 2 ^ 12 → sp ≤ top → top ≤ 0xE0000000 → sp ≤ word (sp + n)
higher floor top sp n l high memory = omega arith

module _ (port floor top : ℕ) (m n : Machine) (high : m.register 13 ≤ top) (memory : top ≤ 0xE0000000) where
  made : (x : Machine) → Some x ≡ Some n → m.register 13 ≤ x.register 13 → m.register 13 ≤ n.register 13
  made x e h = let exact : x ≡ n = cc in subst (λ (k : Machine). m.register 13 ≤ k.register 13) exact h

  by_steady : (i : Instruction) → IsEncodable i → is_steady i ≡ true → effect port i m ≡ Some n
      → m.register 13 ≤ n.register 13
  by_steady i h s e = let same = stack_stays port m i n h s e in omega (arith, same)

  by_test : (b : Bool) (x : Machine) → (if b then Some x else None) ≡ Some n → m.register 13 ≤ x.register 13
      → m.register 13 ≤ n.register 13
  by_test true x e h = made x e h
  by_test false x e h = absurd (cc)

  exchanges : (v : ℕ) → nat_lt v 0xF0000000 ≡ true → exchanged v m ≡ Some n → m.register 13 ≤ n.register 13
  exchanges v h e =
      let plain : exchanged v m ≡ (if v % 2 == 1 then Some (record m { address = even v }) else None) =
      ap (λ (b : Bool). if b && not (m.exception == 0) then returned v m
      else if v % 2 == 1 then Some (record m { address = even v }) else None) (no_return v h) in
      by_test (v % 2 == 1) (record m { address = even v }) (sym plain ∙ e) (omega arith)

  pub stack_rises : (i : Instruction) → IsEncodable i → rises_only i ≡ true → is_private floor top i m ≡ true
      → effect port i m ≡ Some n → m.register 13 ≤ n.register 13
  stack_rises (instruction.AddStack v) h f own e =
      made _ e (higher floor top (m.register 13) v (omega (arith, h.1)) high memory)
  stack_rises (instruction.AddStackWide v) h f own e =
      made _ e (higher floor top (m.register 13) v (omega (arith, h.1)) high memory)
  stack_rises (instruction.BranchExchange r) h f own e = exchanges (m.register r) own e
  stack_rises i h f own e = by_steady i h f e

  -- what is private within a part of the stack is so from the stack pointer on
  within_now : (v : ℕ) (x : Machine) → Some x ≡ Some n → x.register 13 ≡ v → m.register 13 ≤ n.register 13
      → stays_within floor top v ≡ true → stays_within (m.register 13) top v ≡ true
  within_now v x e r up h =
      let exact : x ≡ n = cc in
      let now : n.register 13 ≡ v = ap (λ (k : Machine). k.register 13) (sym exact) ∙ r in
      and_both (nat_le (m.register 13) v) (nat_le v top) (grind (arith, nat_tests, now, up))
      (and_parts (nat_le floor v) (nat_le v top) h).1

  pub raised : (i : Instruction) → is_private floor top i m ≡ true → effect port i m ≡ Some n
      → m.register 13 ≤ n.register 13 → is_private (m.register 13) top i m ≡ true
  raised (instruction.AddStack v) own e up = within_now _ _ e refl up own
  raised (instruction.SubtractStack v) own e up = within_now _ _ e refl up own
  raised (instruction.AddStackWide v) own e up = within_now _ _ e refl up own
  raised (instruction.SubtractStackWide v) own e up = within_now _ _ e refl up own
  raised i own e up = own

-- One private instruction, where words below the stack pointer are other than they were.
module _ (at : Outside) (img : Image) (places : List ℕ) (p : Program) (code : HasCode at img places p) (low top : ℕ)
    (apart : IsApart p low top) (aligned : low % 4 ≡ 0) (reached after m n : Machine) (now : IsSameAbove low reached m)
    (next executed : Instruction) (steps : StepsPrivately p low top next reached after)
    (rises : rises_only next ≡ true) (deep : low ≤ reached.register 13) (high : reached.register 13 ≤ top)
    (settled : reached.is_unsettled ≡ false) (exec : Executes p executed m n) where
  abbrev sp : ℕ
  sp = reached.register 13

  up : sp ≤ after.register 13
  up = stack_rises p.port low top reached after high apart.memory next
      (code.encodable reached.address next steps.executes.found) rises steps.is_private steps.executes.does

  steps_now : StepsPrivately p sp top next reached after
  steps_now = record {
    executes = steps.executes;
    is_private = raised p.port low top reached after high apart.memory next steps.is_private steps.executes.does up;
  }

  apart_now : IsApart p sp top
  apart_now = record {
    memory = apart.memory;
    port = ⊎_elim (λ (y : p.port < low). inl (omega (arith, y, deep))) (λ (y : top ≤ p.port). inr y) apart.port;
  }

  abbrev told : (ℕ → ℕ) → (ℕ → Bool) → Bool → List Seen → Machine → Machine
  told memory pending unsettled seen y =
      record y { memory = memory; is_pending = pending; is_unsettled = unsettled; seen = seen }

  same_pending : m.is_pending ≡ reached.is_pending
  same_pending = ap (λ (y : Machine). y.is_pending) now.rest

  same_unsettled : m.is_unsettled ≡ reached.is_unsettled
  same_unsettled = ap (λ (y : Machine). y.is_unsettled) now.rest

  same_seen : m.seen ≡ reached.seen
  same_seen = ap (λ (y : Machine). y.seen) now.rest

  same_sp : m.register 13 ≡ sp
  same_sp = ap (λ (y : Machine). y.register 13) now.rest

  disturbed : IsDisturbed sp top reached m
  disturbed = record {
    rest = now.rest ∙ sym (ap (λ (y : ℕ → Bool). told m.memory y m.is_unsettled m.seen reached) same_pending
        ∙ (ap (λ (y : Bool). told m.memory reached.is_pending y m.seen reached) same_unsettled
        ∙ ap (λ (y : List Seen). told m.memory reached.is_pending reached.is_unsettled y reached) same_seen));
    memory = λ k f t. now.memory k (inr (omega (arith, f, same_sp)));
  }

  run : (last : Machine) × RunsPrivately p sp top (next ∷ []) m last × IsDisturbed sp top after last
  run = private_is_undisturbed p sp top (next ∷ []) reached after m apart_now (omega arith) high
      (after, steps_now, refl) disturbed

  same_last : run.0 ≡ n
  same_last = run.1.2 ∙ same_next p next executed m run.1.0 n run.1.1.executes exec

  pub run_now : RunsPrivately p sp top (next ∷ []) m n
  run_now = subst (λ (y : Machine). RunsPrivately p sp top (next ∷ []) m y) same_last run.1

  there : IsDisturbed sp top after n
  there = subst (λ (y : Machine). IsDisturbed sp top after y) same_last run.2

  pub own_now : ChangesItsOwn sp top m n
  own_now = private_is_unseen p sp top (next ∷ []) m n apart_now (omega (arith, same_sp)) (omega (arith, same_sp, high))
      run_now

  own_there : ChangesItsOwn sp top reached after
  own_there = private_is_unseen p sp top (next ∷ []) reached after apart_now (omega arith) high (after, steps_now, refl)

  pending_there : n.is_pending ≡ after.is_pending
  pending_there =
      ap (λ (y : Machine). y.is_pending) own_now.rest
      ∙ (same_pending ∙ sym (ap (λ (y : Machine). y.is_pending) own_there.rest))

  seen_there : n.seen ≡ after.seen
  seen_there =
      ap (λ (y : Machine). y.seen) own_now.rest
      ∙ (same_seen ∙ sym (ap (λ (y : Machine). y.seen) own_there.rest))

  unsettled_there : n.is_unsettled ≡ after.is_unsettled
  unsettled_there =
      not_so n.is_unsettled (λ e. true_and_false m.is_unsettled (own_now.settled e) (same_unsettled ∙ settled))
      ∙ sym (not_so after.is_unsettled (λ e. true_and_false reached.is_unsettled (own_there.settled e) settled))

  stack_now : n.register 13 ≡ after.register 13
  stack_now = ap (λ (y : Machine). y.register 13) there.rest

  by_side : (k : ℕ) → (4 * k + 4 ≤ low) ⊎ (n.register 13 ≤ 4 * k) → n.memory k ≡ after.memory k
  by_side k far =
      ⊎_elim
      (λ (y : 4 * k < sp).
      ⊎_elim (λ (z : 4 * k + 4 ≤ low).
      let outside : (4 * k + 4 ≤ sp) ⊎ (top ≤ 4 * k) = inl (omega (arith, z, deep)) in
      own_now.memory k outside ∙ (now.memory k (inl z) ∙ sym (own_there.memory k outside)))
      (λ (z : n.register 13 ≤ 4 * k). absurd (omega (arith, y, z, up, stack_now))) far)
      (λ (y : sp ≤ 4 * k).
      ⊎_elim (λ (z : 4 * k < top). there.memory k y z)
      (λ (z : top ≤ 4 * k).
      own_now.memory k (inr z)
      ∙ (now.memory k (inr (omega (arith, y, same_sp))) ∙ sym (own_there.memory k (inr z))))
      (cases_lt (4 * k) top)) (cases_lt (4 * k) sp)

  pub same_above : IsSameAbove low after n
  same_above = record {
    rest = there.rest ∙ (ap (λ (y : ℕ → Bool). told n.memory y n.is_unsettled n.seen after) pending_there
        ∙ (ap (λ (y : Bool). told n.memory after.is_pending y n.seen after) unsettled_there
        ∙ ap (λ (y : List Seen). told n.memory after.is_pending after.is_unsettled y after) seen_there));
    memory = by_side;
  }

-- The code of a frame that goes only lets the stack pointer rise.
rising_steady : (i : Instruction) → is_steady i ≡ true → rises_only i ≡ true
rising_steady (instruction.AddStack n) h = refl
rising_steady (instruction.AddStackWide n) h = refl
rising_steady (instruction.BranchExchange r) h = refl
rising_steady i h = h

pub all_rise : (code : List Instruction) → AreSteady code → AreRising code
all_rise code h = all_weaker (λ i. is_steady i ≡ true) (λ i. rises_only i ≡ true) rising_steady code h

many : (count : ℕ) (i : Instruction) → rises_only i ≡ true → AreRising (replicate count i)
many zero i h = tt
many (suc count) i h = (h, many count i h)

chosen : (b : Bool) (xs ys : List Instruction) → AreRising xs → AreRising ys → AreRising (if b then xs else ys)
chosen true xs ys h k = h
chosen false xs ys h k = k

rise_rises : (n : ℕ) → AreRising (rise n)
unfolding rise
rise_rises n =
    let one = if nat_lt n (2 ^ 9) then instruction.AddStack n ∷ [] else instruction.AddStackWide n ∷ [] in
    chosen (n == 0) [] one tt
    (chosen (nat_lt n (2 ^ 9)) (instruction.AddStack n ∷ []) (instruction.AddStackWide n ∷ []) (refl, tt) (refl, tt))

pub close_rises : (words : ℕ) → AreRising (close_frame words)
unfolding close_frame
close_rises words =
    all_append (λ i. rises_only i ≡ true)
    (replicate (word (4 * words) / STEP) (instruction.AddStackWide STEP)) (rise (word (4 * words) % STEP))
    (many (word (4 * words) / STEP) (instruction.AddStackWide STEP) refl) (rise_rises (word (4 * words) % STEP))

-- One machine instruction of such code, with more behind it.
module _ (at : Outside) (bottom : ℕ) (img : Image) (places : List ℕ) (p : Program) (code : HasCode at img places p)
    (i : Instr) (note : Option Note) (c : Core) (line : slice_get img.code c.processor.address ≡ Some (i, note))
    (top : ℕ) (first : Machine) (here : IsAt at bottom img places p i c first) (ends : frames_end c first ≡ top)
    (settled : first.is_unsettled ≡ false) (passed : List Instruction) (next : Instruction) (left : List Instruction)
    (parts : machine_code at bottom img places p i c ≡ passed ++ next ∷ left) (reached m n : Machine)
    (prepares : RunsPrivately p (first.register 13) top passed first reached)
    (now : IsSameAbove (first.register 13) reached m) (executed : Instruction) (exec : Executes p executed m n) where
  abbrev floor : ℕ
  floor = first.register 13

  pub frame_apart : IsApart p floor top
  frame_apart = own_apart at bottom img places p i note c line top first here ends settled

  pub own_so_far : ChangesItsOwn floor top first reached
  own_so_far =
      private_is_unseen p floor top passed first reached frame_apart (omega arith) (omega (arith, ends)) prepares

  pub settled_so_far : reached.is_unsettled ≡ false
  settled_so_far =
      not_so reached.is_unsettled (λ e. true_and_false first.is_unsettled (own_so_far.settled e) settled)

  pub goes_rising : IsNoCall i → (after : Machine) → StepsPrivately p floor top next reached after
      → rises_only next ≡ true
      → (y : Instruction) (ys : List Instruction) → left ≡ y ∷ ys
      → IsNothing at bottom img places p c top m n (length c.processor.slots)
  goes_rising kind after steps rises y ys e = record {
    core = c;
    words = same_words (length c.processor.slots) c;
    fresh = omega arith;
    phase = ToCome (record {
      instruction = i;
      kind = kind;
      note = note;
      line = line;
      first = first;
      stands = here;
      ends = ends;
      settled = settled;
      passed = passed ++ next ∷ [];
      next = y;
      left = ys;
      parts = parts ∙ (ap (λ (zs : List Instruction). passed ++ next ∷ zs) e
          ∙ sym (append_assoc passed (next ∷ []) (y ∷ ys)));
      reached = after;
      prepares = runs_on p floor top passed (next ∷ []) first reached after prepares (after, steps, refl);
      now = same_above at img places p code floor top frame_apart here.stands.aligned reached after m n now next
          executed
          steps rises own_so_far.stack.0 own_so_far.stack.1 settled_so_far exec;
    });
    floor = reached.register 13;
    deep = omega (arith, here.stands.stack, own_so_far.stack.0);
    unseen = own_now at img places p code floor top frame_apart here.stands.aligned reached after m n now next executed
        steps rises own_so_far.stack.0 own_so_far.stack.1 settled_so_far exec;
  }
