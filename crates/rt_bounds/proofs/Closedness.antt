-- Lines with one way in: what the sources say is what is so of points.
use Rattle.std.proofs.Common.{◌≡◌, ◌≢◌, ◌⊎◌, ◌≤◌, ◌<◌, ◌-◌, ◌==◌, ℕ, suc, true}
use Rattle.std.proofs.Common.{if◌then◌else◌, List, slice_get, Some}
use Rattle.std.proofs.Common.{refl, sym, ap, subst, ◌∙◌, inl, inr, ⊎_elim, arith}
use Rattle.std.proofs.lemmas.Bool.{cases_eq, cases_lt}
use Rattle.rt_lemmas.proofs.Indices.{there_is}
use Rattle.rt_code.specs.Image.{Image}
use Rattle.rt_points.specs.Leading.{IsPoint, Begins, Enters, Leads, LeadsTo, starts_at}
use Rattle.rt_points.specs.Point.{Point}
use Rattle.rt_points.specs.declared.point.Owner.{Owner}
use Rattle.rt_points.specs.declared.point.Owner.TheVariants.{Starting, Thread, Handling}
use Rattle.rt_judge.specs.Inside.Tables.{found}
use Rattle.rt_judge.specs.Inside.Walks.{reached_by}
use Rattle.rt_judge.specs.declared.nesting.Nesting.{Nesting}
use Rattle.rt_judge.specs.declared.walk.Walk.{Walk}
use Rattle.rt_bounds.specs.Holding.{BeginsAt, ComesFrom}
use Rattle.rt_bounds.specs.Inside.Shapes.{Has, is_closed_by, AllClosed, AreClosed, IsAmong}
use Rattle.rt_bounds.specs.Inside.Sources.{IsSpan, AreSources, BeginsHere, IsSource, nowhere}
use Rattle.rt_bounds.specs.declared.shape.Lines.{Lines}
use Rattle.rt_bounds.specs.declared.sources.Sources.{Sources}
use Rattle.rt_bounds.proofs.Exiting.{came, its_point}
use Rattle.rt_bounds.proofs.Grounds.{HasAll}
use Rattle.rt_bounds.proofs.OnlySources.{mine_or_not}

-- the lowest that a source may be
abbrev pub least : Lines → ℕ → ℕ → ℕ
least ls head a = if a == head then ls.first - 1 else ls.first

pub closed_row : (ls : Lines) (head a : ℕ) (row : Sources) → is_closed_by ls head a (Some row) ≡ true
    → (least ls head a ≤ row.lowest) × (row.highest ≤ ls.last)
closed_row ls head a row is = (
  (let h : least ls head a ≤ row.lowest = grind (arith, is) in h),
  (let h : row.highest ≤ ls.last = grind (arith, is) in h),
)

pub row_closed : (ls : Lines) (head a : ℕ) (row : Sources) → least ls head a ≤ row.lowest → row.highest ≤ ls.last
    → is_closed_by ls head a (Some row) ≡ true
row_closed ls head a row low high = grind (arith, low, high)

pub least_head : (ls : Lines) (head a : ℕ) → a ≡ head → least ls head a ≡ ls.first - 1
least_head ls head a same = grind (arith, same)

pub least_other : (ls : Lines) (head a : ℕ) → a ≢ head → least ls head a ≡ ls.first
least_other ls head a apart = grind (arith, apart)

module _ (img : Image) (owner : Owner) (walk : Walk) (ls : Lines) (mapped : HasAll img owner (reached_by walk))
    (rows : List Sources) (sources : AreSources img owner rows) (head : ℕ) (some : 0 < ls.first)
    (last : ls.last < nowhere) where
  row_of : (a : ℕ) (nesting : Nesting) → found walk.table a ≡ Some nesting → (row : Sources)
      × (slice_get rows a ≡ Some row)
  row_of a nesting there =
      let p = its_point img owner walk ls mapped a nesting there in
      let within = mapped.stays p.0 p.1 in
      let same = p.3 in
      let size = sources.1.size in
      there_is rows a (omega (arith, within, same, size))

  module _ (all : AllClosed walk ls rows head) where
    -- the sources of a point of the lines
    closed_at : (q : Point) → IsAmong img owner ls q → (row : Sources)
        × IsSpan (λ f. IsSource img owner f q.address) row × (least ls head q.address ≤ row.lowest)
        × (row.highest ≤ ls.last)
    closed_at q among =
        let n = came img owner walk ls mapped q among.point among.mine in
        let row = row_of q.address n.0 n.1 in
        let closed = closed_row ls head q.address row.0
        (ap (is_closed_by ls head q.address) (sym row.1) ∙ all q.address n.0 among.inside n.1) in
        (row.0, sources.1.each q.address row.0 row.1, closed.0, closed.1)

    source_at : (q : Point) → IsAmong img owner ls q → (f : ℕ) → IsSource img owner f q.address
        → (least ls head q.address ≤ f) × (f ≤ ls.last)
    source_at q among f is =
        let row = closed_at q among in
        ⊎_elim
        (λ nobody. absurd (nobody.0 f is))
        (λ ends.
        let low = ends.low f is in
        let high = ends.high f is in
        let least_low = row.2 in
        let most = row.3 in (
          (let h : least ls head q.address ≤ f = omega (arith, low, least_low) in h),
          (let h : f ≤ ls.last = omega (arith, high, most) in h),
        ))
        row.1

    no_start : (q : Point) → IsAmong img owner ls q → BeginsHere img owner q.address → ⊥
    no_start q among begins =
        let high = (source_at q among nowhere (inr (inr refl, begins))).1 in
        absurd (omega (arith, high, last))

    begun : (o : Owner) → o ≡ owner → (a : ℕ) → BeginsAt img o a → Has ls a → ⊥
    begun Starting same a begins inside =
        let q : Point = starts_at 0 Starting in
        no_start q (record { point = Begins; mine = same; inside = subst (Has ls) begins inside })
        (inl (subst (λ (w : Owner). BeginsAt img w 0) same refl))
    begun Thread same a begins inside = absurd begins
    begun (Handling index) same a begins inside =
        let q : Point = starts_at begins.0.entry (Handling index) in
        no_start q (record {
          point = Enters index begins.0 begins.1;
          mine = same;
          inside = subst (Has ls) (sym begins.2) inside;
        })
        (inl (subst (λ (w : Owner). BeginsAt img w begins.0.entry) same (begins.0, begins.1, refl)))

    come_in : (p q : Point) → IsPoint img p → LeadsTo img p q → IsAmong img owner ls q
        → (p.owner ≡ owner) × (Has ls p.address ⊎ ((suc p.address ≡ ls.first) × (q.address ≡ head)))
    come_in p q point leads among = ⊎_elim
        (λ mine.
        let comes : ComesFrom img owner p.address q.address = record {
          before = p;
          after = q;
          point = point;
          mine = mine;
          leads = leads;
          still_mine = among.mine;
          from_there = refl;
          to_here = refl;
        } in
        let ends = source_at q among p.address (inl comes) in
        let low = ends.0 in
        let high = ends.1 in (
          mine,
          ⊎_elim
              (λ at_head.
              let by_head = least_head ls head q.address at_head in
              ⊎_elim
              (λ below.
              let h : suc p.address ≡ ls.first = omega (arith, low, by_head, below, some) in
              inr (h, at_head))
              (λ inside. inl (inside, high))
              (cases_lt p.address ls.first))
              (λ apart.
              let other = least_other ls head q.address apart in
              inl ((let h : ls.first ≤ p.address = omega (arith, low, other) in h), high))
              (cases_eq q.address head),
        ))
        (λ other. absurd (no_start q among (inr (p, q, point, leads, other, among.mine, refl))))
        (mine_or_not leads.line.0 p.owner owner (sym among.mine ∙ leads.owner))

    pub all_are : AreClosed img owner ls head
    all_are = record { begins = λ a begins inside. begun owner refl a begins inside; entered = come_in }

  -- and back
  module _ (closed : AreClosed img owner ls head) where
    source_ends : (a : ℕ) → Has ls a → (f : ℕ) → IsSource img owner f a
        → (least ls head a ≤ f) × (f ≤ ls.last)
    source_ends a inside f (inl comes) =
        let q : Point = comes.after in
        let among : IsAmong img owner ls q = record {
          point = Leads comes.before comes.after comes.point comes.leads;
          mine = comes.still_mine;
          inside = subst (Has ls) (sym comes.to_here) inside;
        } in
        let from = comes.from_there in
        let up = inside.0 in
        let down = inside.1 in
        ⊎_elim
        (λ here.
        let one = here.0 in
        let other = here.1 in (
          ⊎_elim
              (λ same. let by_head = least_head ls head a same in
              let h : least ls head a ≤ f = omega (arith, by_head, one, from) in h)
              (λ apart. let by_other = least_other ls head a apart in
              let h : least ls head a ≤ f = omega (arith, by_other, one, from) in h)
              (cases_eq a head),
          (let h : f ≤ ls.last = omega (arith, other, from) in h),
        ))
        (λ before.
        let next = before.0 in
        let by_head = least_head ls head a (sym comes.to_here ∙ before.1) in (
          (let h : least ls head a ≤ f = omega (arith, by_head, next, from) in h),
          (let h : f ≤ ls.last = omega (arith, next, from, up, down) in h),
        ))
        (closed.entered comes.before comes.after comes.point comes.leads among).1
    source_ends a inside f (inr extreme) = absurd (⊎_elim
        (λ begins. closed.begins a begins inside)
        (λ other.
        let among : IsAmong img owner ls other.1 = record {
          point = Leads other.0 other.1 other.2 other.3;
          mine = other.5;
          inside = subst (Has ls) (sym other.6) inside;
        } in
        other.4 (closed.entered other.0 other.1 other.2 other.3 among).0)
        extreme.1)

    least_small : (a : ℕ) → Has ls a → least ls head a ≤ nowhere
    least_small a inside = ⊎_elim
        (λ same. let by_head = least_head ls head a same in
        let up = inside.0 in
        let down = inside.1 in
        omega (arith, by_head, up, down, last))
        (λ apart. let by_other = least_other ls head a apart in
        let up = inside.0 in
        let down = inside.1 in
        omega (arith, by_other, up, down, last))
        (cases_eq a head)

    by_row : (a : ℕ) → Has ls a → (row : Sources) → slice_get rows a ≡ Some row
        → is_closed_by ls head a (Some row) ≡ true
    by_row a inside row is = ⊎_elim
        (λ nobody.
        let low = nobody.1 in
        let high = nobody.2 in
        let small = least_small a inside in
        row_closed ls head a row (omega (arith, low, small)) (omega (arith, high)))
        (λ ends. row_closed ls head a row (source_ends a inside row.lowest ends.is_low).0
        (source_ends a inside row.highest ends.is_high).1)
        (sources.1.each a row is)

    pub are_all : AllClosed walk ls rows head
    are_all a nesting inside there =
        let row = row_of a nesting there in
        ap (is_closed_by ls head a) row.1 ∙ by_row a inside row.0 row.1
