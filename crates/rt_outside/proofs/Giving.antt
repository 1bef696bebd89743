-- What a source has given, from one read to the next.
use Rattle.std.proofs.Common.{◌≡◌, ℕ, List, ◌++◌, take, Option, Some, None, ap, ◌∙◌, arith, append_assoc}
use Rattle.std.proofs.Math.Seq.{drop-append_seam}
use Rattle.std.proofs.lemmas.Grind.{common_steps}
use Rattle.rt_outside.specs.Bytes.{Past, after_read, given_since, Moves, Gave, HasGiven}

-- what was given since is what came behind
given_behind : (old new : Past) (text : List ℕ) → new.bytes ≡ old.bytes ++ text → given_since old new ≡ text
given_behind old new text grew = rw grew (drop-append_seam old.bytes text)

-- what was given grows by the piece of the next read
pub given_since-read : (old mid new : Past) (piece : List ℕ) (room : ℕ) → mid.bytes ≡ old.bytes ++ given_since old mid
    → new ≡ after_read mid piece room → given_since old new ≡ given_since old mid ++ piece
given_since-read old mid new piece room grew read =
    given_behind old new (given_since old mid ++ piece)
    (ap (λ (p : Past). p.bytes) read ∙ ap (λ (bytes : List ℕ). bytes ++ piece) grew
    ∙ append_assoc old.bytes (given_since old mid) piece)

-- what went grows by the bytes that a read moved
Gave-more : (before mid after : Option (List ℕ)) (text buffer : List ℕ) (n : ℕ) → Gave before mid text
    → Moves mid after buffer n → Gave before after (text ++ take n buffer)
Gave-more None None None text buffer n first then = tt
Gave-more (Some before) (Some mid) (Some after) text buffer n first then = let moved = then.moved in
    grind (arith, common_steps, append_assoc)
Gave-more None None (Some after) text buffer n first then = then
Gave-more None (Some mid) after text buffer n first then = absurd first
Gave-more (Some before) None after text buffer n first then = absurd first
Gave-more (Some before) (Some mid) None text buffer n first then = absurd then

module _ {S : Type 0} (past : S → Past) (left : S → Option (List ℕ)) where
  -- one more read
  pub has_given_more : (old mid new : S) (buffer : List ℕ) (n room : ℕ) → HasGiven past left old mid
      → past new ≡ after_read (past mid) (take n buffer) room → Moves (left mid) (left new) buffer n
      → HasGiven past left old new
  has_given_more old mid new buffer n room given read moved =
      let more = given_since-read (past old) (past mid) (past new) (take n buffer) room given.grew read in
      record {
        grew = rw more
            (ap (λ (p : Past). p.bytes) read ∙ ap (λ (bytes : List ℕ). bytes ++ take n buffer) given.grew
            ∙ append_assoc (past old).bytes (given_since (past old) (past mid)) (take n buffer));
        went = rw more (Gave-more (left old) (left mid) (left new) _ buffer n given.went moved);
      }
