use Rattle.std.proofs.Common.{◌≡◌, ◌≢◌, ◌==◌, ◌∙◌, ◌≤◌, ◌<◌, ◌+◌, ◌&&◌, Bool, true, false, [], ◌∷◌, List, ℕ, length}
use Rattle.std.proofs.Common.{Option, Some, None, Ok, Err, if◌then◌else◌, refl, ap, sym, subst, arith}
use Rattle.std.proofs.lemmas.Bool.{eqb-true}
use Rattle.rt_lines.specs.Inside.Progress.{Progress}
use Rattle.rt_lines.specs.Parts.{parts, line_with_feed}
use Rattle.rt_lines.proofs.Reading.{line_more, wrong_line, wrong_end, read_whole}
use Rattle.rt_load.specs.Reading.{IsListingText, IsFirstWrongLine, IsListingRefused, IsOneLine, Form}
use Rattle.rt_load.specs.Inside.Reader.{fed_lines, fault_of, take, told, is_whole, refusal_of, listing_reader}
use Rattle.rt_load.specs.Inside.Taking.{is_complete}
use Rattle.rt_load.specs.declared.front.Front.{Front}
use Rattle.rt_load.specs.declared.operand.Wrong.{Wrong}
use Rattle.rt_load.specs.declared.operand.Wrong.TheVariants as wrong
use Rattle.rt_load.specs.declared.refusal.TheConstants.{IMAGE_BYTES}
use Rattle.rt_load.proofs.Fed.{cut_is, last_is, fed_first, fed_last, step_fed, step_last}
use Rattle.rt_load.proofs.OneWay.{from_read, from_wrong}
use Rattle.rt_load.proofs.Verdict.{one_missing}
use Rattle.rt_load.proofs.loading.load.Goals as goal
use Rattle.rt_load.proofs.loading.load.Goals.{in_default-front-via-in-Some-front+then-is_empty+else-is_complete}
use Rattle.rt_load.proofs.loading.load.Goals.{in_default-front-via-in-Some-front+else-is_empty}
use Rattle.rt_load.proofs.loading.load.Goals.{in_default-front-via-in_default-front}

-- the line at which the rest of a text is cut
next_line : (rest line behind : List ℕ) → parts 10 rest ≡ line ∷ parts 10 behind
    → IsOneLine line × (fed_lines rest ≡ line_with_feed line ∷ fed_lines behind)
next_line rest line behind e =
    let cut = cut_is rest line behind e in (cut.0, ap fed_lines cut.1 ∙ fed_first line behind cut.0)

module _ (text : List ℕ) (short : length text ≤ IMAGE_BYTES) (number : ℕ) where
  line_read : (rest line behind : List ℕ) (s t : Option Front) → Progress listing_reader text rest number s
      → parts 10 rest ≡ line ∷ parts 10 behind → length behind < length rest → told (take s line) ≡ Ok t
      → Progress listing_reader text behind (number + 1) t
  line_read rest line behind s t at cut shorter e =
      let here = next_line rest line behind cut in
      line_more listing_reader text rest behind (line_with_feed line) number s t at here.1 shorter
      (step_fed s line here.0 ∙ e)

  line_wrong : (rest line behind : List ℕ) (s : Option Front) (w : Wrong) → Progress listing_reader text rest number s
      → parts 10 rest ≡ line ∷ parts 10 behind → take s line ≡ Err w → IsFirstWrongLine text (number + 1) (fault_of w)
  line_wrong rest line behind s w at cut e =
      let here = next_line rest line behind cut in
      from_wrong text (number + 1) (fault_of w)
      (wrong_line listing_reader text rest behind (line_with_feed line) number s (fault_of w) at here.1 short
      (step_fed s line here.0 ∙ ap told e))

  line_refused : (rest line behind : List ℕ) (s : Option Front) (w : Wrong)
      → Progress listing_reader text rest number s → parts 10 rest ≡ line ∷ parts 10 behind
      → (w ≢ wrong.NoMemory → take s line ≡ Err w) → IsListingRefused text (refusal_of (number + 1) w)
  line_refused rest line behind s wrong.Form at cut e =
      line_wrong rest line behind s wrong.Form at cut (e (λ same. absurd cc))
  line_refused rest line behind s wrong.Name at cut e =
      line_wrong rest line behind s wrong.Name at cut (e (λ same. absurd cc))
  line_refused rest line behind s wrong.NoMemory at cut e = tt

  end_refused : (rest : List ℕ) (s : Option Front) → Progress listing_reader text rest number s
      → parts 10 rest ≡ rest ∷ [] → (length rest == 0 && is_whole s) ≡ false → IsFirstWrongLine text (number + 1) Form
  end_refused [] s at none missing =
      from_wrong text (number + 1) Form
      (wrong_end listing_reader text [] number s Form at refl short (one_missing s missing))
  end_refused (b ∷ rest) s at none missing =
      let own = last_is (b ∷ rest) (b ∷ rest) none in
      from_wrong text (number + 1) Form
      (wrong_line listing_reader text (b ∷ rest) [] (b ∷ rest) number s Form at (fed_last b rest own) short
      (step_last s (b ∷ rest) own))

  whole_read : (rest : List ℕ) (front : Front) → Progress listing_reader text rest number (Some front)
      → (length rest == 0) ≡ true → is_complete front ≡ true → IsListingText text front.image
  whole_read [] front at none whole =
      from_read text front (read_whole listing_reader text [] number (Some front) at refl short
      (ap (λ b. if b then None else Some Form) whole))
  whole_read (b ∷ rest) front at none whole =
      let long : length (b ∷ rest) ≡ 0 = eqb-true (length (b ∷ rest)) 0 none in absurd (omega (arith, long))

-- no line is read
and_none : (none : Bool) (s : Option Front) → s ≡ None → (none && is_whole s) ≡ false
and_none true s is = ap is_whole is
and_none false s is = refl

-- a line is missing
one_lacks : (none : Bool) (s : Option Front) (front : Front) → s ≡ Some front → is_complete front ≡ false
    → (none && is_whole s) ≡ false
one_lacks true s front is lacks = ap is_whole is ∙ lacks
one_lacks false s front is lacks = refl

pub loop-line-preserved : goal.loop-line-preserved
loop-line-preserved c =
    line_read c.args.bytes.now (omega (arith, c.if-bytes.false)) c.loop-line.number c.loop-line.rest.now
    c.in-Some.line.now c.in-Some.behind.now c.loop-line.front c.take.new.front c.loop-line.invariant
    (rw c.in-Some.is at c.next_line.ensures.parts) (rw c.in-Some.is at c.next_line.ensures.shorter)
    (rw c.in-Ok.is at c.take.ensures.taken)

pub returns-in-Err-clause-refused : goal.returns-in-Err-clause-refused
returns-in-Err-clause-refused c =
    rw c.refusal.ensures
    (line_refused c.args.bytes.now (omega (arith, c.if-bytes.false)) c.loop-line.number c.loop-line.rest.now
    c.in-Some.line.now c.in-Some.behind.now c.loop-line.front c.in-Err.wrong c.loop-line.invariant
    (rw c.in-Some.is at c.next_line.ensures.parts) c.in-Err.ensures.refused)

pub returns-in-Some-front-clause-read : goal.returns-in-Some-front-clause-read
returns-in-Some-front-clause-read c =
    subst (IsListingText c.args.bytes.now) (sym c.image_of.ensures)
    (whole_read c.args.bytes.now (omega (arith, c.if-bytes.false)) c.loop-line.number c.loop-line.rest.now
    c.in-Some-front.front
    (subst (Progress listing_reader c.args.bytes.now c.loop-line.rest.now c.loop-line.number) c.in-Some-front.is
    c.loop-line.invariant)
    (sym c.is_empty.ensures ∙ c.if-is_empty.true) (sym c.is_complete.ensures ∙ c.if-is_complete.true))

pub returns-in_default-front-clause-refused : goal.returns-in_default-front-clause-refused
returns-in_default-front-clause-refused c =
    end_refused c.args.bytes.now (omega (arith, c.if-bytes.false)) c.loop-line.number c.loop-line.rest.now
    c.loop-line.front c.loop-line.invariant (rw c.in_default.is at c.next_line.ensures.parts) (
    elim c.in_default-front.branch [
      | in_default-front-via-in-Some-front+then-is_empty+else-is_complete w ↦ one_lacks
          (length c.loop-line.rest.now == 0) c.loop-line.front w.in-Some-front.front w.in-Some-front.is
          (sym w.is_complete.ensures ∙ w.if-is_complete.false)
      | in_default-front-via-in-Some-front+else-is_empty w ↦ ap (λ b. b && is_whole c.loop-line.front)
          (sym w.is_empty.ensures ∙ w.if-is_empty.false)
      | in_default-front-via-in_default-front w ↦ and_none (length c.loop-line.rest.now == 0) c.loop-line.front
          w.in_default-front.is
    ]
    )
