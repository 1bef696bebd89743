-- What fields represent after a return.
use Rattle.std.proofs.Common.{◌≡◌, ℕ, ◌+◌, ◌-◌, ◌≤◌, List, [], ◌∷◌, ◌++◌, slice_index, length, reverse, Option, Some}
use Rattle.std.proofs.Common.{None, option_map, refl, sym, ap, subst, ◌∙◌, arith, append_assoc, append-nil}
use Rattle.std.proofs.Common.{length-append, length-take}
use Rattle.std.specs.List.{AllByRecursion}
use Rattle.std.proofs.lemmas.List.{reverse-append}
use Rattle.rt_stack.specs.Region.{Region, top, region_after_pop}
use Rattle.rt_stack.specs.Region.{used_words, below as below_top}
use Rattle.rt_context.specs.declared.exception.TheConstants.{LINK, RETURN_ADDRESS}
use Rattle.rt_context.specs.declared.frames.Frames.TheInside.{Inside}
use Rattle.rt_code.specs.Stack.{words_of, interrupted_context}
use Rattle.rt_context.specs.Frames.{Saved, Frames, exception_frame, words_below, words}
use Rattle.rt_context.specs.Moves.{frames_after_resuming, frames_after_return, back}
use Rattle.rt_context.specs.Inside.Parts.{frames, caller_size, HasReturn, Represents, IsRepresented}
use Rattle.rt_context.proofs.Representing.{last_of-append, without-append, length-exception_frame, sizes_of}
use Rattle.rt_context.proofs.Representing.{represented, kept}
use Rattle.rt_context.proofs.Running.{below_is, used_is, popped_is}

-- A return, by its definition, leads to frames that the fields represent.
pub record Leads (returned : Option (Frames × ℕ)) (d : Inside) (address : ℕ) : Type 0 where
  pub after : Frames
  pub is : returned ≡ Some (after, address)
  pub represents : Represents after d

pub leads_kept : (o : Option (Frames × ℕ)) (d : Inside) (address : ℕ) → Leads o d address → IsRepresented d
leads_kept o d address l = kept l.after d l.represents

-- as the contract says it, of the number that the code answers
pub leads_view : (o : Option (Frames × ℕ)) (d : Inside) (address : ℕ) → Leads o d address → (a : ℕ) → Some address
    ≡ Some a → o ≡ Some (frames d, a)
leads_view o d address l a same =
    let e : address ≡ a = cc in
    l.is ∙ (λ i. Some (sym (represented l.after d l.represents) i, e i))

-- A body's return.
back_by : (size entry : ℕ) (slots : List ℕ) (handler : Option (List ℕ)) (saved : List Saved) (c d : Inside)
    (n address : ℕ)
    → Represents (record { size = size; entry = entry; slots = slots; caller = handler; below = saved }) c → c.caller
    ≡ Some n
    → d.region ≡ region_after_pop c.region c.frame → d.entry ≡ c.entry → d.frame ≡ n → d.caller ≡ None → d.callers
    ≡ c.callers → address ≡ slice_index (top d.region n) (n - 1)
    → Leads (back (record { size = size; entry = entry; slots = slots; caller = handler; below = saved })) d address
back_by size entry slots None saved c d n address s calls region entry_is frame caller callers read = let is =
    s.caller in cc
back_by size entry slots (Some own) saved c d n address s calls region entry_is frame caller callers read =
    let is = s.caller in
    let same : n ≡ length own = cc in
    let under = region ∙ popped_is (record {
      size = size;
      entry = entry;
      slots = slots;
      caller = Some own;
      below =
          saved;
    }) c s in
    let on_top : top d.region n ≡ own =
    (λ i. top (under i) (same i)) ∙ last_of-append (length own) (words_below entry saved) own refl in
    let after : Frames = record { size = size; entry = entry; slots = own; caller = None; below = saved } in
    let answer : address ≡ slice_index own (length own - 1) =
    read ∙ (λ i. slice_index (on_top i) (same i - 1)) in record {
      after = after;
      is = ap (λ a. Some (after, a)) (sym answer);
      represents = record {
        represented = ap (λ (r : Region). r.words) under;
        size = ap (λ (r : Region). r.size) under;
        entry = entry_is ∙ s.entry;
        frame = frame ∙ same;
        caller = caller;
        callers = ap (λ cs. reverse cs.items) callers ∙ s.callers;
        small = s.small;
        basic = s.basic;
        returns = tt;
        below_return = s.below_return;
      };
    }

pub back_leads : (f : Frames) (c d : Inside) (n address : ℕ) → Represents f c → c.caller ≡ Some n
    → d.region ≡ region_after_pop c.region c.frame → d.entry ≡ c.entry → d.frame ≡ n → d.caller ≡ None → d.callers
    ≡ c.callers → address ≡ slice_index (top d.region n) (n - 1)
    → Leads (back f) d address
back_leads f = back_by f.size f.entry f.slots f.caller f.below

-- What an exception return finds below the running frame: a last context, its caller's size and those of the others.
pub record Finds (f : Frames) (caller : Option ℕ) (callers : List (Option ℕ)) : Type 0 where
  pub last : Saved
  pub others : List Saved
  pub handler : f.caller ≡ None
  pub below : f.below ≡ last ∷ others
  pub caller_is : caller ≡ caller_size last.caller
  pub callers_are : callers ≡ sizes_of others

finds_by : (f : Frames) (handler : Option (List ℕ)) (saved : List Saved) (caller : Option ℕ) (callers : List (Option ℕ))
    → f.caller ≡ handler → f.below ≡ saved → None ≡ caller_size handler → caller ∷ callers ≡ sizes_of saved
    → Finds f caller callers
finds_by f (Some own) saved caller callers is below none sizes = cc
finds_by f None [] caller callers is below none sizes = cc
finds_by f None (last ∷ others) caller callers is below none sizes =
    record { last = last; others = others; handler = is; below = below; caller_is = cc; callers_are = cc }

-- where the fields say that no called body runs, and what the last of the sizes is
pub finds : (f : Frames) (c : Inside) (caller : Option ℕ) (callers : List (Option ℕ))
    → Represents f c → c.caller ≡ None → c.callers.items ≡ callers ++ caller ∷ [] → Finds f caller (reverse callers)
finds f c caller callers s none items =
    let sizes : caller ∷ reverse callers ≡ sizes_of f.below =
    sym (ap reverse items ∙ reverse-append callers (caller ∷ [])) ∙ s.callers in
    finds_by f f.caller f.below caller (reverse callers) refl refl (sym none ∙ s.caller) sizes

abbrev after : Frames → Saved → List Saved → Frames
after f last others = record f { slots = last.slots; caller = last.caller; below = others }

-- An exception return.
module _ (f : Frames) (c : Inside) (caller : Option ℕ) (callers : List (Option ℕ)) (s : Represents f c)
    (found : Finds f caller callers) where
  -- below the running frame are the words of the frames to come, and the architecture's frame
  under_words : words_below f.entry f.below ++ words_of f.caller ≡ words (after f found.last found.others)
      ++ exception_frame f.entry found.last
  under_words =
      (λ i. words_below f.entry (found.below i) ++ words_of (found.handler i)) ∙ simp (append-nil, append_assoc)

  pub entry_is_there : c.frame + c.entry ≤ used_words c.region
  entry_is_there =
      let count = ap length (below_is f c s ∙ under_words) in
      let kept = length-take (used_words c.region - c.frame) c.region.words in
      let all = length-append (words (after f found.last found.others)) (exception_frame f.entry found.last) in
      let pushed = length-exception_frame f.entry s.basic found.last in
      omega (arith, count, used_is f c s, s.frame, s.entry, kept, all, pushed)

  pub left_leads : (d : Inside) (address : ℕ) → d.region ≡ region_after_pop (region_after_pop c.region c.frame) c.entry
      → d.entry ≡ c.entry → d.frame ≡ slice_index (top (region_after_pop c.region c.frame) c.entry) LINK → d.caller
      ≡ caller → reverse d.callers.items ≡ callers
      → address ≡ slice_index (top (region_after_pop c.region c.frame) c.entry) RETURN_ADDRESS
      → Leads (frames_after_return f) d address
  left_leads d address region entry_is frame caller_is callers_are read =
      let pushed : List ℕ = exception_frame f.entry found.last in
      let rest : List ℕ = words (after f found.last found.others) in
      let whole : region_after_pop c.region c.frame ≡ record { words = rest ++ pushed; size = f.size } =
      popped_is f c s ∙ (λ i. record { words = under_words i; size = f.size }) in
      let long : length pushed ≡ f.entry = length-exception_frame f.entry s.basic found.last in
      let on_top : top (region_after_pop c.region c.frame) c.entry ≡ pushed =
      (λ i. top (whole i) (s.entry i)) ∙ last_of-append f.entry rest pushed long in
      let left_words : d.region.words ≡ rest =
      ap (λ (r : Region). r.words) region
      ∙ (λ i. below_top (whole i) (s.entry i)) ∙ without-append f.entry rest pushed long in
      let returns = subst (AllByRecursion (λ (x : Saved). HasReturn x.caller)) found.below s.below_return in
      let answer : address ≡ found.last.address = read ∙ ap (λ ws. slice_index ws RETURN_ADDRESS) on_top in record {
        after = after f found.last found.others;
        is =
            (λ i. option_map (frames_after_resuming f) (interrupted_context (found.handler i) (found.below i)))
            ∙ ap (λ a. Some (after f found.last found.others, a)) (sym answer);
        represents = record {
          represented = left_words;
          size = ap (λ (r : Region). r.size) region ∙ s.size;
          entry = entry_is ∙ s.entry;
          frame = frame ∙ ap (λ ws. slice_index ws LINK) on_top;
          caller = caller_is ∙ found.caller_is;
          callers = callers_are ∙ found.callers_are;
          small = s.small;
          basic = s.basic;
          returns = returns.0;
          below_return = returns.1;
        };
      }
