-- How what was taken grows from one call to the next, and what one read moves.
use Rattle.std.proofs.Common.{◌≡◌, ℕ, ◌+◌, ◌-◌, ◌≤◌, ◌&&◌, Bool, nat_lt, List, ◌++◌, length, min, take, drop, refl}
use Rattle.std.proofs.Common.{arith, append_assoc, length-append, length-drop, length-take-le, sym, ap, ◌∙◌}
use Rattle.std.proofs.Math.Seq.{take-add}
use Rattle.std.proofs.lemmas.List.{take-take, take-append-le, take-append-drop, drop-drop, take_rest, nil_from_length}
use Rattle.rt_ids.specs.Lists.{is_empty}
use Rattle.rt_outside.specs.Bytes.{Past, after_read, MovesTold, Took}

-- what was taken grows by the first bytes of the next piece
pub Took-more : (before mid after bytes : List ℕ) (done n : ℕ) → Took before mid (take done bytes)
    → Took mid after (take n (take (length bytes - done) (drop done bytes))) → Took before after (take (done + n) bytes)
Took-more before mid after bytes done n first then =
    let rest = take_rest bytes done in
    rw (take-add done n bytes, then, first, append_assoc, rest) refl

-- how long a text is with the bytes that a read moved
pub length-moved : (text buffer : List ℕ) (n : ℕ) → n ≤ length buffer → length (text ++ take n buffer) ≡ length text + n
length-moved text buffer n fits = simp (length-append, length-take-le n buffer fits) refl

-- what lies at the front of a buffer, seen through the buffer
pub take-front : (n size : ℕ) (seen front middle end : List ℕ) → seen ≡ take size ((front ++ middle) ++ end)
    → n ≤ length front → n ≤ size → take n seen ≡ take n front
take-front n size seen front middle end is fits within =
    let wide : n ≤ length (front ++ middle) = omega (arith, length-append front middle) in
    rw (
      is,
      take-take n size ((front ++ middle) ++ end) within,
      take-append-le n (front ++ middle) end wide,
      take-append-le n front middle fits,
    )

-- what lies at the front of a buffer that a read from the middle of some bytes wrote to
copied-front : (before seen copied buffer : List ℕ) (start n : ℕ) → drop start seen ≡ before
    → copied ≡ take n (take (length seen - start) (drop start seen))
    → n ≡ min (length buffer) (length (take (length seen - start) (drop start seen)))
    → take n (copied ++ drop n buffer) ≡ take n before
copied-front before seen copied buffer start n shows is count =
    let rest : take (length seen - start) (drop start seen) ≡ before = rw (take_rest seen start) shows in
    let counted : n ≡ min (length buffer) (length before) = rw rest at count in
    let front : copied ≡ take n before = rw rest at is in
    let small : n ≤ length before = omega (arith, counted) in
    let long : length copied ≡ n = rw front (length-take-le n before small) in
    let whole : n ≤ length copied = omega arith in
    rw (take-append-le n copied (drop n buffer) whole, front, take-take n n before (omega arith))

-- a read from the middle of some bytes moved what follows there
pub moved-from : (before bytes seen copied buffer : List ℕ) (start n : ℕ) → drop start bytes ≡ before → seen ≡ bytes
    → copied ≡ take n (take (length seen - start) (drop start seen)) → n
    ≡ min (length buffer) (length (take (length seen - start) (drop start seen)))
    → MovesTold before (drop (start + n) bytes) (copied ++ drop n buffer) n
moved-from before bytes seen copied buffer start n shows same is count =
    let here : drop start seen ≡ before = rw same shows in
    let rest : take (length seen - start) (drop start seen) ≡ before = rw (take_rest seen start) here in
    let counted : n ≡ min (length buffer) (length before) = rw rest at count in
    let behind : drop (start + n) bytes ≡ drop n before = sym (drop-drop n start bytes) ∙ ap (drop n) shows in
    record {
      moved = rw (behind, copied-front before seen copied buffer start n here is count)
          (sym (take-append-drop n before));
      end = λ none room.
          let buffered = length-append copied (drop n buffer) in
          let gone = length-drop n buffer in
          let front = ap length is in
          let cut = length-take-le n (take (length seen - start) (drop start seen)) in
          let nothing : length before ≡ 0 = omega arith in
          nil_from_length before nothing;
    }

-- a read from the middle of some bytes gave what follows there
pub given-from : (past : Past) (bytes seen copied buffer : List ℕ) (start n : ℕ) (at_end : Bool)
    → take start bytes ≡ past.bytes → seen ≡ bytes → copied ≡ take n (take (length seen - start) (drop start seen))
    → n ≡ min (length buffer) (length (take (length seen - start) (drop start seen)))
    → at_end ≡ (is_empty (take n (copied ++ drop n buffer)) && nat_lt 0 (length buffer))
    → record { bytes = take (start + n) bytes; at_end = at_end }
    ≡ after_read past (take n (copied ++ drop n buffer)) (length buffer)
given-from past bytes seen copied buffer start n at_end shows same is count ends =
    let here : drop start seen ≡ drop start bytes = ap (drop start) same in
    let grew : take (start + n) bytes ≡ past.bytes ++ take n (copied ++ drop n buffer) =
    rw (take-add start n bytes, shows, copied-front (drop start bytes) seen copied buffer start n here is count) in
    rw (grew, ends)
