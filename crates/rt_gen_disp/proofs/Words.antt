-- The sixteen slots of a dispatcher's frame, each by the name of what it is for: a write into one of them computes.
use Rattle.rt_gen_queue.proofs.Vocabulary.{AllByRecursion, BodyRow, List, [], all_append, all_weaker, and_both, arith}
use Rattle.rt_gen_queue.proofs.Vocabulary.{body_frame, caller_frame, drop, kind_of, le-leb, length, length-append}
use Rattle.rt_gen_queue.proofs.Vocabulary.{length-replicate, length-take-le, nat_le, operate, or_right, refl, replicate}
use Rattle.rt_gen_queue.proofs.Vocabulary.{saved_slot, slice_index, subst, sym, take, take-append-le, take_at, true, ℕ}
use Rattle.rt_gen_queue.proofs.Vocabulary.{◌*◌, ◌++◌, ◌+◌, ◌-◌, ◌<◌, ◌==◌, ◌||◌, ◌∙◌, ◌∷◌, ◌≡◌, ◌≤◌}
use Rattle.std.proofs.{Math.Nat.mul-le-mul_left, lemmas.List.FromFn.fill_by_all}
use Rattle.rt_ids.specs.declared.op.Op.TheVariants as op
use Rattle.rt_code.specs.Stack.{arguments_fit}
use Rattle.rt_gen_queue.proofs.{Layer.Frame, Masks.saves_in, Numbers.multiplied}
use Rattle.rt_gen_queue.specs.declared.guard.Guard.{Guard}

pub record Words : Type 0 where
  -- the arguments of the message
  pub first : ℕ
  pub second : ℕ
  pub third : ℕ
  pub fourth : ℕ
  -- its word, as the ring has it
  pub word : ℕ
  -- how many messages are left
  pub left : ℕ
  -- where the ring's oldest message is, and then how many places of the task are free
  pub index : ℕ
  -- a number beside another one
  pub other : ℕ
  pub one : ℕ
  pub place : ℕ
  pub task : ℕ
  -- three that are not used
  pub eleventh : ℕ
  pub twelfth : ℕ
  pub thirteenth : ℕ
  -- what the mask was, while a section is open
  pub mask : ℕ
  -- where the body goes back to
  pub last : ℕ

-- the slots of the arguments
abbrev pub firsts : Words → List ℕ
firsts w = w.first ∷ w.second ∷ w.third ∷ w.fourth ∷ []

-- all of them as a list
abbrev pub words : Words → List ℕ
words w =
    firsts w ++ (w.word ∷ w.left ∷ w.index ∷ w.other ∷ w.one ∷ w.place ∷ w.task ∷ w.eleventh ∷ w.twelfth
    ∷ w.thirteenth ∷ w.mask ∷ w.last ∷ [])

-- any sixteen numbers are such words
abbrev pub words_of : List ℕ → Words
words_of ws = record {
  first = slice_index ws 0;
  second = slice_index ws 1;
  third = slice_index ws 2;
  fourth = slice_index ws 3;
  word = slice_index ws 4;
  left = slice_index ws 5;
  index = slice_index ws 6;
  other = slice_index ws 7;
  one = slice_index ws 8;
  place = slice_index ws 9;
  task = slice_index ws 10;
  eleventh = slice_index ws 11;
  twelfth = slice_index ws 12;
  thirteenth = slice_index ws 13;
  mask = slice_index ws 14;
  last = slice_index ws 15;
}

pub words_are : (ws : List ℕ) → length ws ≡ 16 → words (words_of ws) ≡ ws
words_are ws long = sym (fill_by_all (slice_index ws) ws 16 0 long (λ k less. refl))

-- the window of a dispatcher's code is the whole frame
abbrev pub own : Frame 16 14
own = record { slot = 0; front = []; back = []; begins = refl }

-- a section that is open alone keeps what the mask was in its slot
pub only_mask : (P : ℕ → Type 0) (g : Guard) (level : ℕ) → P 14
    → AllByRecursion P (saved_slot (kind_of g level 14) ++ [])
only_mask P g level there =
    all_append P (saved_slot (kind_of g level 14)) []
    (all_weaker (λ e. e ≡ 14) P (λ e is. subst P (sym is) there) _ (saves_in g level 14)) tt

-- a body whose frame has room for its arguments, of which there are up to four
module _ (w : Words) (row : BodyRow) (few : row.args ≤ 4) (fits : row.args ≤ row.frame) where
  pub frame_fits : arguments_fit (words w) row 0 ≡ true
  frame_fits =
      let within : 0 + row.args ≤ 16 = omega arith in
      and_both ((row.args == 0) || nat_le (0 + row.args) 16) (nat_le row.args row.frame)
      (or_right (row.args == 0) (nat_le (0 + row.args) 16) (le-leb (0 + row.args) 16 within))
      (le-leb row.args row.frame fits)

  own_arguments : (back : ℕ) → length (take row.args (caller_frame (words w) back)) ≡ row.args
  own_arguments back = length-take-le row.args (caller_frame (words w) back) (omega arith)

  pub frame_long : (back : ℕ) → length (body_frame (caller_frame (words w) back) row 0) ≡ row.frame
  frame_long back = simp (length-append, length-replicate) (omega (arith, own_arguments back))

  pub frame_begins : (back : ℕ) → take row.args (body_frame (caller_frame (words w) back) row 0)
      ≡ take row.args (firsts w)
  frame_begins back =
      take_at (take row.args (caller_frame (words w) back)) (replicate (row.frame - row.args) 0) row.args
      (own_arguments back) ∙ take-append-le row.args (firsts w) (drop 4 (caller_frame (words w) back)) few

-- what operations give on small numbers
pub task_in : (task place : ℕ) → place < 16 → operate op.Div (16 * task + place) 16 ≡ task
task_in task place less = omega arith

pub place_in : (task place : ℕ) → place < 16 → operate op.Rem (16 * task + place) 16 ≡ place
place_in task place less = omega arith

pub times : (place args : ℕ) → place < 16 → args ≤ 4 → operate op.Mul place args ≡ place * args
times place args less few = multiplied place args (place * args) refl (omega (arith, mul-le-mul_left place few))
