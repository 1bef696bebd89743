-- Which frame ends at an address, by the parts that begin before it: within the addresses of a part that has a row it
-- is the frame of that row, and where no part begins between two addresses it is the same at both.
use Rattle.std.proofs.Common.{◌≡◌, ◌⊎◌, ℕ, zero, suc, ◌<◌, ◌≤◌, ◌&&◌, nat_le, Bool, true, false, List, [], ◌∷◌, fold}
use Rattle.std.proofs.Common.{slice_get, Option, Some, None, IfSome, refl, sym, ap, subst, ◌∙◌, arith, inl, inr}
use Rattle.std.proofs.Common.{if◌then◌else◌}
use Rattle.std.specs.List.{AllByRecursion}
use Rattle.std.proofs.lemmas.Bool.{leb-true, leb-false}
use Rattle.std.proofs.lemmas.Option.{none-some, same_Some}
use Rattle.rt_code.specs.declared.image.BodyRow.{BodyRow}
use Rattle.rt_code.specs.declared.image.Handler.{Handler}
use Rattle.rt_code.specs.declared.image.IrqRow.{IrqRow}
use Rattle.rt_native.specs.Frames as native
use Rattle.rt_native.specs.Frames.{handler_words, body_words}

-- a frame, of so many words, of a part that begins at an entry
record Frame : Type 0 where
  entry : ℕ
  words : ℕ

-- of two frames the one whose part begins later, where that is at or before an address
abbrev later : ℕ → Frame → Frame → Frame
later n found frame = if nat_le found.entry frame.entry && nat_le frame.entry n then frame else found

abbrev no_frame : Frame
no_frame = record { entry = 0; words = 0 }

-- the later frame of one that is found and one that may be there
abbrev later_of : ℕ → Frame → Option Frame → Frame
later_of n found None = found
later_of n found (Some frame) = later n found frame

-- a part with a frame does not begin between two addresses
abbrev IsBeside : ℕ → ℕ → Frame → Type 0
IsBeside from behind frame = (frame.entry ≤ from) ⊎ (behind ≤ frame.entry)

-- a part with a frame begins before an address, or there, with so many words, or at or behind another address
abbrev IsOnly : ℕ → ℕ → ℕ → Frame → Type 0
IsOnly from behind words frame =
    (frame.entry < from) ⊎ (((frame.entry ≡ from) × (frame.words ≡ words)) ⊎ (behind ≤ frame.entry))

-- a part with a frame that begins at an address no greater than two takes the place of what is found at both or at none
later_same : (n m from behind : ℕ) (found frame : Frame) → from ≤ n → n < behind → from ≤ m → m < behind
    → IsBeside from behind frame → later n found frame ≡ later m found frame
later_same n m from behind found frame low high low2 high2 beside =
    ap (λ b. if nat_le found.entry frame.entry && b then frame else found) (alike (nat_le frame.entry n) refl
    (nat_le frame.entry m) refl)
  where
    alike : (a : Bool) → nat_le frame.entry n ≡ a → (b : Bool) → nat_le frame.entry m ≡ b
        → nat_le frame.entry n ≡ nat_le frame.entry m
    alike true is true also = is ∙ sym also
    alike false is false also = is ∙ sym also
    alike true is false also =
        let less = leb-true frame.entry n is in
        let more = leb-false frame.entry m also in
        elim beside [ inl front ↦ absurd (omega arith) | inr back ↦ absurd (omega arith) ]
    alike false is true also =
        let more = leb-false frame.entry n is in
        let less = leb-true frame.entry m also in
        elim beside [ inl front ↦ absurd (omega arith) | inr back ↦ absurd (omega arith) ]

-- of two frames the later one, where the second begins at the first address of a part
later_first : (n from : ℕ) (found frame : Frame) → from ≤ n → found.entry ≤ from → frame.entry ≡ from
    → later n found frame ≡ frame
later_first n from found frame low less same = go (nat_le found.entry frame.entry) refl (nat_le frame.entry n) refl
  where
    go : (a : Bool) → nat_le found.entry frame.entry ≡ a → (b : Bool) → nat_le frame.entry n ≡ b
        → (if a && b then frame else found) ≡ frame
    go true is true also = refl
    go true is false also = let more = leb-false frame.entry n also in absurd (omega arith)
    go false is b also = let more = leb-false found.entry frame.entry is in absurd (omega arith)

-- what is found at or before the first address of a part stays, or is at or before it
later_before : (n from behind words : ℕ) (found frame : Frame) → n < behind → found.entry ≤ from
    → IsOnly from behind words frame → (later n found frame).entry ≤ from
later_before n from behind words found frame high less only =
    go (nat_le found.entry frame.entry) (nat_le frame.entry n) refl
  where
    go : (a b : Bool) → nat_le frame.entry n ≡ b → (if a && b then frame else found).entry ≤ from
    go true true is =
        let below = leb-true frame.entry n is in
        elim only [
          | inl before ↦ omega (arith, before)
          | inr other ↦ elim other [ inl here ↦ omega (arith, here.0) | inr past ↦ absurd (omega (arith, past, below)) ]
        ]
    go true false is = less
    go false b is = less

-- and what is found there keeps its words
later_stays : (n from behind words : ℕ) (found frame : Frame) → n < behind
    → (found.entry ≡ from) × (found.words ≡ words) → IsOnly from behind words frame
    → ((later n found frame).entry ≡ from) × ((later n found frame).words ≡ words)
later_stays n from behind words found frame high found_is only =
    go (nat_le found.entry frame.entry) refl (nat_le frame.entry n) refl
  where
    go : (a : Bool) → nat_le found.entry frame.entry ≡ a → (b : Bool) → nat_le frame.entry n ≡ b
        → ((if a && b then frame else found).entry ≡ from) × ((if a && b then frame else found).words ≡ words)
    go true is true also =
        let above = leb-true found.entry frame.entry is in
        let below = leb-true frame.entry n also in
        elim only [
          | inl before ↦ absurd (omega (arith, above, before, found_is.0))
          | inr other ↦ elim other [ inl here ↦ here | inr past ↦ absurd (omega (arith, past, below)) ]
        ]
    go true is false also = found_is
    go false is b also = found_is

-- a table whose rows may have frames
module _ {X : Type 0} (see : X → Option Frame) where
  abbrev step : ℕ → Frame → X → Frame
  step n found x = later_of n found (see x)

  same_fold : (n m from behind : ℕ) → from ≤ n → n < behind → from ≤ m → m < behind → (xs : List X)
      → AllByRecursion (λ x. IfSome (see x) (IsBeside from behind)) xs → (found : Frame)
      → fold (step n) found xs ≡ fold (step m) found xs
  same_fold n m from behind low high low2 high2 [] beside found = refl
  same_fold n m from behind low high low2 high2 (x ∷ xs) (one, others) found =
      ap (λ f. fold (step n) f xs) (by (see x) one)
      ∙ same_fold n m from behind low high low2 high2 xs others (step m found x)
    where
      by : (o : Option Frame) → IfSome o (IsBeside from behind) → later_of n found o ≡ later_of m found o
      by None beside = refl
      by (Some frame) beside = later_same n m from behind found frame low high low2 high2 beside

  module _ (n from behind words : ℕ) (low : from ≤ n) (high : n < behind) where
    stays_fold : (xs : List X) → AllByRecursion (λ x. IfSome (see x) (IsOnly from behind words)) xs → (found : Frame)
        → (found.entry ≡ from) × (found.words ≡ words) → (fold (step n) found xs).words ≡ words
    stays_fold [] only found is = is.1
    stays_fold (x ∷ xs) (one, others) found is = stays_fold xs others (step n found x) (by (see x) one)
      where
        by : (o : Option Frame) → IfSome o (IsOnly from behind words)
            → ((later_of n found o).entry ≡ from) × ((later_of n found o).words ≡ words)
        by None only = is
        by (Some frame) only = later_stays n from behind words found frame high is only

    found_fold : (xs : List X) → AllByRecursion (λ x. IfSome (see x) (IsOnly from behind words)) xs → (found : Frame)
        → found.entry ≤ from → (k : ℕ) (x : X) (frame : Frame) → slice_get xs k ≡ Some x → see x ≡ Some frame
        → frame.entry ≡ from → frame.words ≡ words → (fold (step n) found xs).words ≡ words
    found_fold [] only found less k x frame there is begins has = absurd (none-some x there)
    found_fold (y ∷ xs) (one, others) found less zero x frame there is begins has =
        let same : y ≡ x = same_Some y x there in
        let now : step n found y ≡ frame =
        ap (later_of n found) (ap see same ∙ is) ∙ later_first n from found frame low less begins in
        stays_fold xs others (step n found y)
        (subst (λ (f : Frame). (f.entry ≡ from) × (f.words ≡ words)) (sym now) (begins, has))
    found_fold (y ∷ xs) (one, others) found less (suc k) x frame there is begins has =
        found_fold xs others (step n found y) (by (see y) one) k x frame there is begins has
      where
        by : (o : Option Frame) → IfSome o (IsOnly from behind words) → (later_of n found o).entry ≤ from
        by None only = less
        by (Some frame) only = later_before n from behind words found frame high less only

-- of handlers
abbrev frame_of_handler : Option Handler → Option Frame
frame_of_handler None = None
frame_of_handler (Some h) = Some (record { entry = h.entry; words = h.frame })

abbrev frame_of_row : BodyRow → Option Frame
frame_of_row row = Some (record { entry = row.entry; words = row.frame })

-- a translator's frames are these
handlers_fold : (n : ℕ) (rows : List IrqRow) (entry words : ℕ)
    → (fold (λ found row. native.later_handler n found row.handler) (record { entry = entry; words = words })
    rows).words
    ≡ (fold (step (λ (row : IrqRow). frame_of_handler row.handler) n) (record { entry = entry; words = words })
    rows).words
handlers_fold n [] entry words = refl
handlers_fold n (row ∷ rows) entry words = go row.handler (λ entry words. handlers_fold n rows entry words)
  where
    by : (b : Bool) (one other : ℕ)
        → ((entry words : ℕ)
        → (fold (λ found row. native.later_handler n found row.handler) (record { entry = entry; words = words })
        rows).words
        ≡ (fold (step (λ (row : IrqRow). frame_of_handler row.handler) n) (record { entry = entry; words = words })
        rows).words)
        → (fold (λ found row. native.later_handler n found row.handler)
        (if b then record { entry = one; words = other } else record { entry = entry; words = words }) rows).words
        ≡ (fold (step (λ (row : IrqRow). frame_of_handler row.handler) n)
        (if b then record { entry = one; words = other } else record { entry = entry; words = words }) rows).words
    by true one other rest = rest one other
    by false one other rest = rest entry words

    go : (o : Option Handler)
        → ((entry words : ℕ)
        → (fold (λ found row. native.later_handler n found row.handler) (record { entry = entry; words = words })
        rows).words
        ≡ (fold (step (λ (row : IrqRow). frame_of_handler row.handler) n) (record { entry = entry; words = words })
        rows).words)
        → (fold (λ found row. native.later_handler n found row.handler)
        (native.later_handler n (record { entry = entry; words = words }) o) rows).words
        ≡ (fold (step (λ (row : IrqRow). frame_of_handler row.handler) n)
        (later_of n (record { entry = entry; words = words }) (frame_of_handler o)) rows).words
    go None rest = rest entry words
    go (Some h) rest = by (nat_le entry h.entry && nat_le h.entry n) h.entry h.frame rest

bodies_fold : (n : ℕ) (rows : List BodyRow) (entry words : ℕ)
    → (fold (λ found row. native.later n found (record { entry = row.entry; words = row.frame }))
    (record { entry = entry; words = words }) rows).words
    ≡ (fold (step frame_of_row n) (record { entry = entry; words = words }) rows).words
bodies_fold n [] entry words = refl
bodies_fold n (row ∷ rows) entry words =
    by (nat_le entry row.entry && nat_le row.entry n) (bodies_fold n rows row.entry row.frame)
    (bodies_fold n rows entry words)
  where
    by : (b : Bool)
        → (fold (λ found row. native.later n found (record { entry = row.entry; words = row.frame }))
        (record { entry = row.entry; words = row.frame }) rows).words
        ≡ (fold (step frame_of_row n) (record { entry = row.entry; words = row.frame }) rows).words
        → (fold (λ found row. native.later n found (record { entry = row.entry; words = row.frame }))
        (record { entry = entry; words = words }) rows).words
        ≡ (fold (step frame_of_row n) (record { entry = entry; words = words }) rows).words
        → (fold (λ found row. native.later n found (record { entry = row.entry; words = row.frame }))
        (if b then record { entry = row.entry; words = row.frame } else record { entry = entry; words = words })
        rows).words
        ≡ (fold (step frame_of_row n)
        (if b then record { entry = row.entry; words = row.frame } else record { entry = entry; words = words })
        rows).words
    by true taken left = taken
    by false taken left = left

-- of no enabled row the entry lies between two addresses
abbrev pub AreBeside : ℕ → ℕ → List IrqRow → Type 0
AreBeside from behind rows =
    AllByRecursion (λ row. IfSome row.handler (λ h. (h.entry ≤ from) ⊎ (behind ≤ h.entry))) rows

-- an enabled row that is entered at an address has a frame of so many words, and none is entered behind that address
-- and before another
abbrev pub AreOnly : ℕ → ℕ → ℕ → List IrqRow → Type 0
AreOnly from behind words rows =
    AllByRecursion
    (λ row. IfSome row.handler
    (λ h. (h.entry < from) ⊎ (((h.entry ≡ from) × (h.frame ≡ words)) ⊎ (behind ≤ h.entry)))) rows

-- the same of the rows of bodies
abbrev pub AreBodiesBeside : ℕ → ℕ → List BodyRow → Type 0
AreBodiesBeside from behind rows = AllByRecursion (λ row. (row.entry ≤ from) ⊎ (behind ≤ row.entry)) rows

abbrev pub AreBodiesOnly : ℕ → ℕ → ℕ → List BodyRow → Type 0
AreBodiesOnly from behind words rows =
    AllByRecursion
    (λ row. (row.entry < from) ⊎ (((row.entry ≡ from) × (row.frame ≡ words)) ⊎ (behind ≤ row.entry))) rows

module _ (rows : List IrqRow) where
  seen : (P : Frame → Type 0) (Q : Handler → Type 0)
      → ((h : Handler) → Q h → P (record { entry = h.entry; words = h.frame }))
      → (xs : List IrqRow) → AllByRecursion (λ row. IfSome row.handler Q) xs
      → AllByRecursion (λ row. IfSome (frame_of_handler row.handler) P) xs
  seen P Q on [] all = tt
  seen P Q on (row ∷ xs) (one, others) = (by row.handler one, seen P Q on xs others)
    where
      by : (o : Option Handler) → IfSome o Q → IfSome (frame_of_handler o) P
      by None has = tt
      by (Some h) has = on h has

  pub same_handler : (n m from behind : ℕ) → from ≤ n → n < behind → from ≤ m → m < behind
      → AreBeside from behind rows → handler_words rows n ≡ handler_words rows m
  same_handler n m from behind low high low2 high2 beside =
      handlers_fold n rows 0 0
      ∙ (ap (λ (f : Frame). f.words)
      (same_fold (λ (row : IrqRow). frame_of_handler row.handler) n m from behind low high low2 high2 rows
      (seen (IsBeside from behind) (λ h. (h.entry ≤ from) ⊎ (behind ≤ h.entry)) (λ h has. has) rows beside) no_frame)
      ∙ sym (handlers_fold m rows 0 0))

  pub handler_found : (n from behind words : ℕ) → from ≤ n → n < behind → AreOnly from behind words rows
      → (k : ℕ) (row : IrqRow) (h : Handler) → slice_get rows k ≡ Some row → row.handler ≡ Some h → h.entry ≡ from
      → h.frame ≡ words → handler_words rows n ≡ words
  handler_found n from behind words low high only k row h there is begins has =
      handlers_fold n rows 0 0
      ∙ found_fold (λ (row : IrqRow). frame_of_handler row.handler) n from behind words low high rows
      (seen (IsOnly from behind words)
      (λ h. (h.entry < from) ⊎ (((h.entry ≡ from) × (h.frame ≡ words)) ⊎ (behind ≤ h.entry))) (λ h has. has) rows only)
      no_frame (omega arith) k row (record { entry = h.entry; words = h.frame }) there (ap frame_of_handler is)
      begins has

module _ (rows : List BodyRow) where
  pub same_body : (n m from behind : ℕ) → from ≤ n → n < behind → from ≤ m → m < behind
      → AreBodiesBeside from behind rows → body_words rows n ≡ body_words rows m
  same_body n m from behind low high low2 high2 beside =
      bodies_fold n rows 0 0
      ∙ (ap (λ (f : Frame). f.words)
      (same_fold frame_of_row n m from behind low high low2 high2 rows beside no_frame)
      ∙ sym (bodies_fold m rows 0 0))

  pub body_found : (n from behind words : ℕ) → from ≤ n → n < behind → AreBodiesOnly from behind words rows
      → (k : ℕ) (row : BodyRow) → slice_get rows k ≡ Some row → row.entry ≡ from → row.frame ≡ words
      → body_words rows n ≡ words
  body_found n from behind words low high only k row there begins has =
      bodies_fold n rows 0 0
      ∙ found_fold frame_of_row n from behind words low high rows only no_frame (omega arith) k row
      (record { entry = row.entry; words = row.frame }) there refl begins has
