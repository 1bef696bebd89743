-- What is a job's own, where others have changed memory and queues, where the place of a message moves, and where a
-- section closes.
use Rattle.std.proofs.Common.{◌≡◌, ℕ, zero, suc, ◌+◌, ◌<◌, ◌≤◌, ◌⊎◌, inl, inr, Bool, true, false, if◌then◌else◌, List}
use Rattle.std.proofs.Common.{[], ◌∷◌, sum_by, refl, ap, arith}
use Rattle.std.proofs.lemmas.Bool.{eq-eqb, or_left, or_right, or_cases}
use Rattle.std.proofs.lemmas.List.Sums.{sum_by-cons}
use Rattle.rt_actions.specs.Entry.{Entry, count}
use Rattle.rt_actions.specs.Location.{Location, Guarded, Own, is_same_section}
use Rattle.rt_actions.specs.Storage.{Storage, Runner, Home, At, In, Nowhere}
use Rattle.rt_actions.proofs.Sections.{one_section}
use Rattle.rt_ids.specs.declared.ids.Section.{Section}
use Rattle.rt_ids.specs.declared.ids.Section.TheVariants as section
use Rattle.rt_code.specs.Acting.{with_queue}
use Rattle.rt_code.specs.Owning.{OpenSection, Configuration, is_open, mine, owns, reads, MayLoad}

-- the places in the queues of open sections
abbrev pub queued : (Location → List Entry) → Entry → List OpenSection → ℕ
queued queues e held = sum_by (λ h. count e (queues (Guarded h.section))) held

pub queued_more : (queues : Location → List Entry) (e : Entry) (h : OpenSection) (held : List OpenSection)
    → queued queues e (h ∷ held) ≡ count e (queues (Guarded h.section)) + queued queues e held
queued_more queues e h held = sum_by-cons (λ h. count e (queues (Guarded h.section))) h held

-- an open section's queue is among them
pub queue_counts : (queues : Location → List Entry) (e : Entry) (x : Section) (held : List OpenSection) → is_open held x
    ≡ true
    → count e (queues (Guarded x)) ≤ queued queues e held
queue_counts queues e x [] inside = absurd (cc)
queue_counts queues e x (h ∷ held) inside =
    two (λ there. queue_counts queues e x held there) (or_cases (is_same_section h.section x) (is_open held x) inside)
  where
    two : (is_open held x ≡ true → count e (queues (Guarded x)) ≤ queued queues e held)
        → (is_same_section h.section x ≡ true) ⊎ (is_open held x ≡ true)
        → count e (queues (Guarded x)) ≤ queued queues e (h ∷ held)
    two rest (inl here) =
        let same : count e (queues (Guarded h.section)) ≡ count e (queues (Guarded x)) =
        ap (λ y. count e (queues (Guarded y))) (one_section h.section x here) in
        let more = queued_more queues e h held in omega arith
    two rest (inr there) = let more = queued_more queues e h held in let least = rest there in omega arith

-- a section that is the same as itself
pub same_section : (x : Section) → is_same_section x x ≡ true
same_section (section.Res n) = eq-eqb n n refl
same_section (section.Free n) = eq-eqb n n refl
same_section (section.Ready n) = eq-eqb n n refl
same_section section.Timer = refl

-- the queues of open sections as they were
pub queues_same : (one other : Location → List Entry) (e : Entry) (held : List OpenSection)
    → ((x : Section) → is_open held x ≡ true → other (Guarded x) ≡ one (Guarded x)) → queued other e held
    ≡ queued one e held
queues_same one other e [] same = refl
queues_same one other e (h ∷ held) same =
    let here : count e (other (Guarded h.section)) ≡ count e (one (Guarded h.section)) =
    ap (count e) (same h.section (or_left (is_same_section h.section h.section) (is_open held h.section)
    (same_section h.section))) in
    let rest = queues_same one other e held (λ x inside. same x
    (or_right (is_same_section h.section x) (is_open held x) inside)) in
    let left = queued_more one e h held in
    let right = queued_more other e h held in omega arith

some_of : (a b : ℕ) → 0 < a + b → (0 < a) ⊎ (0 < b)
some_of zero b some = inr (omega arith)
some_of (suc a) b some = inl (omega arith)

one_of : (b : Bool) (e : Entry) (entries others : List Entry) → 0 < count e (if b then entries else others)
    → (0 < count e entries) ⊎ (0 < count e others)
one_of true e entries others some = inl some
one_of false e entries others some = inr some

-- where the queue of a section is another, a place in the queues of open sections is in that one, or was in one of them
pub queued_with : (queues : Location → List Entry) (x : Section) (entries : List Entry) (e : Entry)
    (held : List OpenSection)
    → 0 < queued (with_queue queues x entries) e held → (0 < count e entries) ⊎ (0 < queued queues e held)
queued_with queues x entries e [] some = absurd (omega arith)
queued_with queues x entries e (h ∷ held) some =
    let more = queued_more (with_queue queues x entries) e h held in
    let either : 0 < count e (with_queue queues x entries (Guarded h.section))
    + queued (with_queue queues x entries) e held = omega arith in
    two (λ here. one_of (is_same_section x h.section) e entries (queues (Guarded h.section)) here)
    (λ rest. queued_with queues x entries e held rest)
    (some_of (count e (with_queue queues x entries (Guarded h.section))) (queued (with_queue queues x entries) e held)
    either)
  where
    wider : {n : ℕ} → (0 < count e entries) ⊎ (0 < n) → n ≤ queued queues e (h ∷ held) → (0 < count e entries)
        ⊎ (0 < queued queues e (h ∷ held))
    wider (inl a) least = inl a
    wider (inr b) least = inr (omega arith)

    two : (0 < count e (with_queue queues x entries (Guarded h.section)) → (0 < count e entries)
        ⊎ (0 < count e (queues (Guarded h.section))))
        → (0 < queued (with_queue queues x entries) e held → (0 < count e entries) ⊎ (0 < queued queues e held))
        → (0 < count e (with_queue queues x entries (Guarded h.section)))
        ⊎ (0 < queued (with_queue queues x entries) e held)
        → (0 < count e entries) ⊎ (0 < queued queues e (h ∷ held))
    two first rest (inl here) = wider (first here) (omega (arith, queued_more queues e h held))
    two first rest (inr there) = wider (rest there) (omega (arith, queued_more queues e h held))

-- a place that is a job's own, once a queue of an open section and its hands are others, was so before
pub mine_moved : (s : Configuration) (x : Section) (places entries : List Entry) (e : Entry) → is_open s.held x ≡ true
    → (0 < count e places + count e entries → 0 < count e s.places + count e (s.queues (Guarded x)))
    → 0 < mine (record s { places = places; queues = with_queue s.queues x entries }) e → 0 < mine s e
mine_moved s x places entries e inside before some =
    three (some_of (count e places) (queued (with_queue s.queues x entries) e s.held) some)
  where
    was : 0 < count e places + count e entries → 0 < mine s e
    was some = let first = before some in let least = queue_counts s.queues e x s.held inside in omega arith

    two : (0 < count e entries) ⊎ (0 < queued s.queues e s.held) → 0 < mine s e
    two (inl in_it) = was (omega arith)
    two (inr in_one) = omega arith

    three : (0 < count e places) ⊎ (0 < queued (with_queue s.queues x entries) e s.held) → 0 < mine s e
    three (inl in_hands) = was (omega arith)
    three (inr in_queues) = two (queued_with s.queues x entries e s.held in_queues)

module _ (st : Storage) (who : Runner) where
  -- what it owns it reads
  pub owns_reads : (held : List OpenSection) (h : Location) → owns st who held h ≡ true → reads st who held h ≡ true
  owns_reads held h own = or_left (owns st who held h) (st.is_constant who h) own

  pub owns_open : (held : List OpenSection) (x : Section) → is_open held x ≡ true → owns st who held (Guarded x) ≡ true
  owns_open held x inside = or_left (is_open held x) (st.is_kept who (Guarded x)) inside

  pub owns_kept : (held : List OpenSection) (h : Location) → st.is_kept who h ≡ true → owns st who held h ≡ true
  owns_kept held (Guarded x) kept = or_right (is_open held x) (st.is_kept who (Guarded x)) kept
  owns_kept held (Own n) kept = kept

  -- with one more section open it owns and reads no less
  pub owns_more : (h : OpenSection) (outer : List OpenSection) (location : Location) → owns st who outer location ≡ true
      → owns st who (h ∷ outer) location ≡ true
  owns_more h outer (Guarded x) own = two (or_cases (is_open outer x) (st.is_kept who (Guarded x)) own)
    where
      two : (is_open outer x ≡ true) ⊎ (st.is_kept who (Guarded x) ≡ true) → owns st who (h ∷ outer) (Guarded x) ≡ true
      two (inl inside) = owns_open (h ∷ outer) x (or_right (is_same_section h.section x) (is_open outer x) inside)
      two (inr kept) = owns_kept (h ∷ outer) (Guarded x) kept
  owns_more h outer (Own n) own = own

  pub reads_more : (h : OpenSection) (outer : List OpenSection) (location : Location) → reads st who outer location
      ≡ true
      → reads st who (h ∷ outer) location ≡ true
  reads_more h outer location may = two (or_cases (owns st who outer location) (st.is_constant who location) may)
    where
      two : (owns st who outer location ≡ true) ⊎ (st.is_constant who location ≡ true)
          → reads st who (h ∷ outer) location
          ≡ true
      two (inl own) = owns_reads (h ∷ outer) location (owns_more h outer location own)
      two (inr constant) = or_right (owns st who (h ∷ outer) location) (st.is_constant who location) constant

  -- what it may load goes by the sections that are open and by what is its own
  pub may_load : (s t : Configuration) (home : Home)
      → ((h : Location) → reads st who s.held h ≡ true → reads st who t.held h
      ≡ true)
      → ((e : Entry) → 0 < mine s e → 0 < mine t e) → MayLoad st who s home → MayLoad st who t home
  may_load s t (At h) read own may = read h may
  may_load s t (In e) read own may = own e may
  may_load s t Nowhere read own may = absurd may
