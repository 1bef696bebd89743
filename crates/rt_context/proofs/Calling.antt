-- The frame of a called body, above that of its caller.
use Rattle.std.proofs.Common.{◌≡◌, ℕ, ◌+◌, ◌-◌, ◌<◌, ◌≤◌, ◌==◌, ◌&&◌, ◌||◌, not, IsTrue, nat_le, Option, Some, None}
use Rattle.std.proofs.Common.{is_none, List, [], ◌∷◌, ◌++◌, length, take, drop, set, replicate, reverse, refl, sym, ap}
use Rattle.std.proofs.Common.{◌∙◌, arith, append_assoc, append-nil, length-append, length-set, length-drop}
use Rattle.std.proofs.lemmas.Bool.{leb-true}
use Rattle.std.proofs.lemmas.Bool.Decides.{nat_tests}
use Rattle.std.proofs.lemmas.List.{length-replicate, take-append-drop, take_at, drop_at, drop-drop, drop-replicate}
use Rattle.std.proofs.lemmas.List.{set-append_left}
use Rattle.rt_lemmas.proofs.Lists.{take-drop-front, length-take-drop}
use Rattle.rt_lemmas.proofs.Bools.{both_true}
use Rattle.rt_stack.specs.Region.{Region, used_words, top, below, region_after_push}
use Rattle.rt_stack.specs.Top.{with_top}
use Rattle.rt_code.specs.declared.image.BodyRow.{BodyRow}
use Rattle.rt_stack.proofs.Frames.{top-behind, below-behind, with_top-same}
use Rattle.rt_context.specs.declared.frames.Frames.TheInside.{Inside}
use Rattle.rt_code.specs.Stack.{words_of, last_slot, arguments_fit}
use Rattle.rt_context.specs.Frames.{Frames, words_below}
use Rattle.rt_context.specs.Moves.{has_room, may_call, call_fits, frames_after_call}
use Rattle.rt_ids.specs.Lists.{is_empty}
use Rattle.rt_context.specs.Inside.Parts.{Represents}
use Rattle.rt_context.proofs.Running.{top_is, below_is}

-- the slots of a caller and of a body above it, with the arguments copied
abbrev pub copied : ℕ → ℕ → ℕ → List ℕ → List ℕ
copied caller from args slots =
    take caller slots ++ (take args (drop from slots) ++ drop (caller + args) slots)

-- the same, where the body's are 0
abbrev called_with : ℕ → ℕ → ℕ → List ℕ → List ℕ
called_with from args frame xs = xs ++ (take args (drop from xs) ++ replicate (frame - args) 0)

module _ (caller from args frame : ℕ) (xs : List ℕ) (long : length xs ≡ caller)
    (there : 0 < args → from + args ≤ caller) where
  copied-append : copied caller from args (xs ++ replicate frame 0) ≡ called_with from args frame xs
  copied-append =
      let zs : List ℕ = replicate frame 0 in
      let rest : drop (caller + args) (xs ++ zs) ≡ replicate (frame - args) 0 =
      sym (drop-drop args caller (xs ++ zs)) ∙ ap (drop args) (drop_at xs zs caller long)
      ∙ drop-replicate args frame 0 in
      λ i. take_at xs zs caller long i ++ (take-drop-front args from xs zs (λ some. omega (arith, there some)) i
      ++ rest i)

  length-called_with : args ≤ frame → length (called_with from args frame xs) ≡ caller + frame
  length-called_with taken =
      let arguments : List ℕ = take args (drop from xs) in
      let rest : List ℕ = replicate (frame - args) 0 in
      let count : length arguments ≡ args = length-take-drop args from xs (λ some. omega (arith, there some)) in
      omega (
        arith,
        length-append xs (arguments ++ rest),
        length-append arguments rest,
        length-replicate {A = ℕ} (frame - args) 0,
      )

-- A body's frame is pushed, the return address put into the caller's last slot, and the arguments copied.
pub body_pushed : (r : Region) (caller frame from args address : ℕ) → 0 < caller → caller ≤ used_words r
    → (0 < args → from + args ≤ caller) → args ≤ frame
    → with_top (region_after_push r frame) (caller + frame)
    (copied caller from args (set (top (region_after_push r frame) (caller + frame)) (caller - 1) address))
    ≡ record r { words = below r caller ++ called_with from args frame (set (top r caller) (caller - 1) address) }
body_pushed r caller frame from args address slot within there taken =
    let xs : List ℕ = below r caller in
    let ys : List ℕ = top r caller in
    let zs : List ℕ = replicate frame 0 in
    let n : ℕ = caller + frame in
    let slots : List ℕ = set ys (caller - 1) address in
    let q : Region = record r { words = xs ++ (ys ++ zs) } in
    let result : List ℕ = called_with from args frame slots in
    let long : length ys ≡ caller = omega (arith, length-drop (used_words r - caller) r.words) in
    let both : length (ys ++ zs) ≡ n = omega (arith, length-append ys zs, length-replicate {A = ℕ} frame 0) in
    let split : r.words ++ zs ≡ xs ++ (ys ++ zs) =
    ap (λ ws. ws ++ zs) (sym (take-append-drop (used_words r - caller) r.words)) ∙ append_assoc xs ys zs in
    let whole : region_after_push r frame ≡ q = λ i. record r { words = split i } in
    let same : length slots ≡ caller = length-set ys (caller - 1) address ∙ long in
    let written : copied caller from args (set (top q n) (caller - 1) address) ≡ result =
    ap (λ ws. copied caller from args (set ws (caller - 1) address)) (top-behind r xs (ys ++ zs) n both)
    ∙ ap (copied caller from args) (set-append_left ys zs (caller - 1) address (omega arith))
    ∙ copied-append caller from args frame slots same there in
    ap (λ p. with_top p n (copied caller from args (set (top p n) (caller - 1) address))) whole
    ∙ ap (with_top q n) written
    ∙ with_top-same q n result (omega (arith, length-append xs (ys ++ zs)))
    (length-called_with caller from args frame slots same there taken)
    ∙ (λ i. record r { words = below-behind r xs (ys ++ zs) n both i ++ result })

none_from_test : (caller : Option (List ℕ)) → IsTrue (is_none caller) → caller ≡ None
none_from_test None h = refl
none_from_test (Some slots) h = cc

some_slot : (slots : List ℕ) → IsTrue (not (is_empty slots)) → 0 < length slots
some_slot [] h = cc
some_slot (slot ∷ slots) h = omega arith

arguments_from_test : (args from n : ℕ) → IsTrue ((args == 0) || nat_le (from + args) n) → 0 < args → from + args ≤ n
arguments_from_test args from n h some = grind (arith, nat_tests)

-- what the tests of a call say
pub record MayCall (f : Frames) (row : BodyRow) (from : ℕ) : Type 0 where
  pub handler : f.caller ≡ None
  pub slot : 0 < length f.slots
  pub there : 0 < row.args → from + row.args ≤ length f.slots
  pub taken : row.args ≤ row.frame
  pub room : IsTrue (has_room f row.frame)

pub tested : (f : Frames) (row : BodyRow) (from : ℕ) → IsTrue (may_call f) → IsTrue (call_fits f row from)
    → MayCall f row from
tested f row from may fits =
    let handler = both_true (is_none f.caller) (not (is_empty f.below) && not (is_empty f.slots)) may in
    let slot = both_true (not (is_empty f.below)) (not (is_empty f.slots)) handler.1 in
    let parts = both_true (arguments_fit f.slots row from) (has_room f row.frame) fits in
    let there = both_true ((row.args == 0) || nat_le (from + row.args) (length f.slots)) (nat_le row.args row.frame)
    parts.0 in record {
      handler = none_from_test f.caller handler.0;
      slot = some_slot f.slots slot.1;
      there = arguments_from_test row.args from (length f.slots) there.0;
      taken = leb-true row.args row.frame there.1;
      room = parts.1;
    }

pub represents_called : (f : Frames) (c d : Inside) (row : BodyRow) (from args address : ℕ) → Represents f c
    → MayCall f row from → args ≡ row.args
    → d.region ≡ record c.region {
      words = below c.region c.frame ++ called_with from args row.frame
          (set (top c.region c.frame) (c.frame - 1) address);
    }
    → d.entry ≡ c.entry → d.frame ≡ row.frame → d.caller ≡ Some c.frame → d.callers ≡ c.callers
    → Represents (frames_after_call f row from address) d
represents_called f c d row from args address s may args_are region entry frame caller callers =
    let slots : List ℕ = set f.slots (last_slot f.slots) address in
    let long : length slots ≡ length f.slots = length-set f.slots (last_slot f.slots) address in
    let body : List ℕ = take row.args (drop from slots) ++ replicate (row.frame - row.args) 0 in
    let both : length (called_with from row.args row.frame slots) ≡ length f.slots + row.frame =
    length-called_with (length f.slots) from row.args row.frame slots long may.there may.taken in
    let under : below c.region c.frame ≡ words_below f.entry f.below =
    below_is f c s ∙ ap (λ o. words_below f.entry f.below ++ words_of o) may.handler
    ∙ append-nil (words_below f.entry f.below) in
    let all : d.region.words ≡ words_below f.entry f.below ++ called_with from row.args row.frame slots =
    ap (λ (r : Region). r.words) region
    ∙ (λ i. under i ++ called_with from (args_are i) row.frame (set (top_is f c s i) (s.frame i - 1) address)) in
    record {
      represented = all;
      size = ap (λ (r : Region). r.size) region ∙ s.size;
      entry = entry ∙ s.entry;
      frame = frame ∙ omega (arith, both, long, length-append slots body);
      caller = caller ∙ ap Some (s.frame ∙ sym long);
      callers = ap (λ cs. reverse cs.items) callers ∙ s.callers;
      small = s.small;
      basic = s.basic;
      returns = omega (arith, long, may.slot);
      below_return = s.below_return;
    }
