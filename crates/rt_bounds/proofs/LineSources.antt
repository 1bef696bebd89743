-- Sources of addresses, line by line.
use Rattle.std.proofs.Common.{◌≡◌, ◌≢◌, ◌⊎◌, ◌<◌, ◌+◌, ℕ, zero, suc, Bool, true, false}
use Rattle.std.proofs.Common.{if◌then◌else◌, List, [], ◌∷◌, length, slice_get, Option, Some, None, option_map}
use Rattle.std.proofs.Common.{refl, sym, ap, subst, ◌∙◌, inl, inr, ⊎_elim, arith, replicate, get_or, take, drop, ◌++◌}
use Rattle.std.proofs.lemmas.List.{length-replicate}
use Rattle.std.specs.List.{Contains}
use Rattle.std.proofs.lemmas.Bool.{cases_eq}
use Rattle.rt_lemmas.proofs.Membership.{all_has}
use Rattle.rt_code.specs.Image.{Image}
use Rattle.rt_code.specs.declared.instr.Instr.{Instr}
use Rattle.rt_code.specs.declared.instr.Note.{Note}
use Rattle.rt_points.specs.Leading.{LeadsOn, owner_after, inside_after}
use Rattle.rt_points.specs.Point.{Point}
use Rattle.rt_points.specs.declared.point.Owner.{Owner}
use Rattle.rt_judge.specs.Inside.Exits.{targets, ends_init}
use Rattle.rt_judge.specs.Inside.Nestings.{inside_of}
use Rattle.rt_judge.specs.Inside.Points.{point}
use Rattle.rt_judge.specs.Inside.Tables.{found}
use Rattle.rt_judge.specs.Inside.Walks.{reached_by}
use Rattle.rt_judge.specs.declared.nesting.Nesting.{Nesting}
use Rattle.rt_judge.specs.declared.walk.Visit.{Visit}
use Rattle.rt_judge.specs.declared.walk.Walk.{Walk}
use Rattle.rt_judge.proofs.ExitLists.{leads_listed, listed_leads, stays, goes_on}
use Rattle.rt_bounds.specs.Holding.{ComesFrom}
use Rattle.rt_bounds.specs.Inside.Sources.{AreSpans, IsSpan, AreSourcesBelow, AreSources, AreStarts, IsExtreme}
use Rattle.rt_bounds.specs.Inside.Sources.{IsSource, StartsBelow, Begun, nobody, added_all, with_address, with_start, nowhere}
use Rattle.rt_bounds.specs.Inside.Sources.{added}
use Rattle.rt_bounds.specs.declared.sources.Sources.{Sources}
use Rattle.rt_bounds.proofs.AddedSources.{same_spans, added_spans, added_all_spans}
use Rattle.rt_bounds.proofs.Grounds.{HasAll}

abbrev Line : Type 0
Line = Instr × Option Note

module _ (img : Image) (owner : Owner) (walk : Walk) (mapped : HasAll img owner (reached_by walk)) (k : ℕ)
    (small : k < nowhere) (rows : List Sources) (below : AreSourcesBelow img owner k rows) where
  abbrev Below : ℕ → ℕ → ℕ → Type 0
  Below count f t = (ComesFrom img owner f t × (f < count)) ⊎ IsExtreme img owner f t

  -- the address leads nowhere
  nothing : ((t : ℕ) → ComesFrom img owner k t → ⊥) → AreSourcesBelow img owner (suc k) rows
  nothing none = same_spans (Below k) (Below (suc k))
      (λ f t is. ⊎_elim (λ both. let less = both.1 in inl (both.0, omega (arith, less))) (λ e. inr e) is)
      (λ f t is. ⊎_elim
      (λ both. ⊎_elim
      (λ same. absurd (none t (subst (λ (n : ℕ). ComesFrom img owner n t) same both.0)))
      (λ apart. let less = both.1 in
      let other : f < k = omega (arith, less, apart) in
      inl (both.0, other))
      (cases_eq f k))
      (λ e. inr e) is)
      (length img.code) rows below

  its_line : (t : ℕ) → (comes : ComesFrom img owner k t) → (line : Line) → slice_get img.code k ≡ Some line
      → comes.leads.line ≡ line
  its_line t comes line is =
      let e : Some comes.leads.line ≡ Some line =
      sym comes.leads.stands ∙ ap (slice_get img.code) comes.from_there ∙ is in
      cc

  goes : (t : ℕ) → (comes : ComesFrom img owner k t) → (line : Line) → slice_get img.code k ≡ Some line
      → (LeadsOn line.0 k t) × (owner_after line.0 owner ≡ owner)
  goes t comes line is =
      let same = its_line t comes line is in
      let on : LeadsOn line.0 comes.before.address comes.after.address =
      subst (λ (l : Line). LeadsOn l.0 comes.before.address comes.after.address) same comes.leads.address in
      let here : LeadsOn line.0 k comes.after.address =
      subst (λ (n : ℕ). LeadsOn line.0 n comes.after.address) comes.from_there on in (
        subst (λ (n : ℕ). LeadsOn line.0 k n) comes.to_here here,
        (let after : comes.after.owner ≡ owner_after line.0 comes.before.owner =
            subst (λ (l : Line). comes.after.owner ≡ owner_after l.0 comes.before.owner) same comes.leads.owner in
            ap (owner_after line.0) (sym comes.mine) ∙ sym after ∙ comes.still_mine),
      )

  -- where a line at a point of the owner leads to
  comes_to : (line : Line) → slice_get img.code k ≡ Some line → ends_init line.0 owner ≡ false → (t : ℕ)
      → LeadsOn line.0 k t → (nesting : Nesting) → found walk.table k ≡ Some nesting → ComesFrom img owner k t
  comes_to line is on t leads nesting there =
      let inside = inside_of walk.nestings.opened.items nesting in
      let has : reached_by walk k ≡ Some inside = ap (option_map (inside_of walk.nestings.opened.items)) there in
      let p : Point = point k owner inside in
      let q : Point = point t (owner_after line.0 owner) (inside_after line.0 line.1 inside) in
      record {
        before = p;
        after = q;
        point = mapped.points (record { address = k; inside = inside }) has;
        mine = refl;
        leads = record { line = line; stands = is; address = leads; owner = refl; inside = refl };
        still_mine = goes_on line.0 owner on;
        from_there = refl;
        to_here = refl;
      }

  by_end : (line : Line) → slice_get img.code k ≡ Some line → (nesting : Nesting) → found walk.table k ≡ Some nesting
      → (b : Bool) → ends_init line.0 owner ≡ b
      → AreSourcesBelow img owner (suc k) (if b then rows else added_all rows k (targets line.0 k))
  by_end line is nesting there true ends = nothing (λ t comes.
      let f = stays line.0 owner (goes t comes line is).1 in absurd cc)
  by_end line is nesting there false on = same_spans
      (λ f t. Below k f t ⊎ ((f ≡ k) × Contains (targets line.0 k) t)) (Below (suc k))
      (λ f t o. ⊎_elim
      (λ was. ⊎_elim (λ both. let less = both.1 in inl (both.0, omega (arith, less))) (λ e. inr e) was)
      (λ new. let same = new.0 in
      inl (
        subst (λ (n : ℕ). ComesFrom img owner n t) (sym same)
            (comes_to line is on t (all_has (λ n. LeadsOn line.0 k n) (targets line.0 k) t (listed_leads line.0 k) new.1)
            nesting there),
        omega (arith, same),
      )) o)
      (λ f t o. ⊎_elim
      (λ both. ⊎_elim
      (λ same. inr (
        same,
        leads_listed line.0 k t
            (goes t (subst (λ (n : ℕ). ComesFrom img owner n t) same both.0) line is).0,
      ))
      (λ apart. let less = both.1 in
      let other : f < k = omega (arith, less, apart) in
      inl (inl (both.0, other)))
      (cases_eq f k))
      (λ e. inl (inr e)) o)
      (length img.code) (added_all rows k (targets line.0 k))
      (added_all_spans (Below k) (length img.code) k (targets line.0 k) rows (omega (arith, small)) below)

  by_parts : (l : Option Line) → slice_get img.code k ≡ l → (n : Option Nesting) → found walk.table k ≡ n
      → AreSourcesBelow img owner (suc k) (with_address owner k rows l n)
  by_parts None is n there = nothing (λ t comes.
      let e : Some comes.leads.line ≡ None = sym comes.leads.stands ∙ ap (slice_get img.code) comes.from_there ∙ is in
      absurd cc)
  by_parts (Some line) is None there = nothing (λ t comes.
      let has = mapped.all comes.before comes.point comes.mine in
      let none : reached_by walk k ≡ None = ap (option_map (inside_of walk.nestings.opened.items)) there in
      let e : Some comes.before.inside ≡ None = sym has ∙ ap (reached_by walk) comes.from_there ∙ none in
      absurd cc)
  by_parts (Some line) is (Some nesting) there = by_end line is nesting there (ends_init line.0 owner) refl

  pub line_more : AreSourcesBelow img owner (k + 1) (with_address owner k rows (slice_get img.code k)
      (found walk.table k))
  line_more =
      let one : suc k ≡ k + 1 = omega arith in
      subst (λ (n : ℕ). AreSourcesBelow img owner n (with_address owner k rows (slice_get img.code k)
      (found walk.table k))) one (by_parts (slice_get img.code k) refl (found walk.table k) refl)

-- once all lines are in
pub all_lines : (img : Image) (owner : Owner) (walk : Walk) → HasAll img owner (reached_by walk) → (rows : List Sources)
    → AreSourcesBelow img owner (length img.code) rows → AreSources img owner rows
all_lines img owner walk mapped rows below = (
  mapped.stays,
  same_spans (λ f t. (ComesFrom img owner f t × (f < length img.code)) ⊎ IsExtreme img owner f t) (IsSource img owner)
      (λ f t is. ⊎_elim (λ both. inl both.0) (λ e. inr e) is)
      (λ f t is. ⊎_elim
      (λ comes.
      let in_code = mapped.stays comes.before comes.point in
      let same = comes.from_there in
      let within : f < length img.code = omega (arith, in_code, same) in
      inl (comes, within))
      (λ e. inr e) is)
      (length img.code) rows below,
)

-- the rows of starts
module _ (starts : List Visit) where
  abbrev Begin : ℕ → ℕ → ℕ → Type 0
  Begin count f t = Begun starts count f t

  pub one_start : (k count : ℕ) (visit : Visit) (rows : List Sources) → slice_get starts k ≡ Some visit
      → AreSpans (Begin k) count rows → AreSpans (Begin (k + 1)) count (with_start rows visit.address)
  one_start k count visit rows is spans =
      same_spans (λ f t. (Begin k f t ⊎ ((f ≡ 0) × (t ≡ visit.address))) ⊎ ((f ≡ nowhere) × (t ≡ visit.address)))
      (Begin (k + 1))
      (λ f t o. ⊎_elim
      (λ first. ⊎_elim (λ was. (was.0, further t was.1)) (λ low. (inl low.0, here t low.1)) first)
      (λ high. (inr high.0, here t high.1)) o)
      (λ f t o. ⊎_elim
      (λ same. ⊎_elim (λ low. inl (inr (low, at_it t o.1 same))) (λ high. inr (high, at_it t o.1 same)) o.0)
      (λ apart. inl (inl (o.0, before t o.1 apart)))
      (cases_eq o.1.index k))
      count (with_start rows visit.address)
      (added_spans (λ f t. Begin k f t ⊎ ((f ≡ 0) × (t ≡ visit.address))) count (added rows 0 visit.address) nowhere
      visit.address (omega arith) (added_spans (Begin k) count rows 0 visit.address (omega arith) spans))
    where
      further : (t : ℕ) → StartsBelow k starts t → StartsBelow (k + 1) starts t
      further t was = record {
        index = was.index;
        below = (let less = was.below in omega (arith, less));
        visit = was.visit;
        there = was.there;
        at = was.at;
      }

      here : (t : ℕ) → t ≡ visit.address → StartsBelow (k + 1) starts t
      here t same = record { index = k; below = omega arith; visit = visit; there = is; at = sym same }

      at_it : (t : ℕ) → (s : StartsBelow (k + 1) starts t) → s.index ≡ k → t ≡ visit.address
      at_it t s same =
          let e : Some s.visit ≡ Some visit = sym s.there ∙ ap (slice_get starts) same ∙ is in
          let v : s.visit ≡ visit = cc in
          sym s.at ∙ ap (λ (w : Visit). w.address) v

      before : (t : ℕ) → (s : StartsBelow (k + 1) starts t) → s.index ≢ k → StartsBelow k starts t
      before t s apart = record {
        index = s.index;
        below = (let less = s.below in omega (arith, less, apart));
        visit = s.visit;
        there = s.there;
        at = s.at;
      }

  -- at first
  pub none_begun : (count : ℕ) (row : Sources) → row.lowest ≡ nowhere → row.highest ≡ 0
      → AreSpans (Begin 0) count (replicate count row)
  none_begun count row low high = record {
    size = length-replicate count row;
    each = λ to other there.
        let same : other ≡ row = replicated count row to other there in
        subst (IsSpan (λ f. Begin 0 f to)) (sym same)
        (inl ((λ f is. let less = is.1.below in absurd (omega (arith, less))), low, high));
  }
    where
      replicated : (count : ℕ) (row : Sources) (to : ℕ) (other : Sources)
          → slice_get (replicate count row) to ≡ Some other → other ≡ row
      replicated zero row to other there = absurd cc
      replicated (suc count) row zero other there = cc
      replicated (suc count) row (suc to) other there = replicated count row to other there

  pub begun_all : (img : Image) (owner : Owner) (count : ℕ) (rows : List Sources) → AreStarts img owner starts
      → AreSpans (Begin (length starts)) count rows → count ≡ length img.code → AreSourcesBelow img owner 0 rows
  begun_all img owner count rows are spans size =
      subst (λ (n : ℕ). AreSpans (λ f t. (ComesFrom img owner f t × (f < 0)) ⊎ IsExtreme img owner f t) n rows) size
      (same_spans (Begin (length starts)) (λ f t. (ComesFrom img owner f t × (f < 0)) ⊎ IsExtreme img owner f t)
      (λ f t o. inr (o.0, (are t).1 o.1))
      (λ f t o. ⊎_elim (λ none. let less = none.1 in absurd (omega (arith, less))) (λ e. (e.0, (are t).0 e.1)) o)
      count rows spans)

pub got : (starts : List Visit) (i : ℕ) (none : Visit) → i < length starts
    → slice_get starts i ≡ Some (get_or starts i none)
got [] i none within = absurd (omega (arith, within))
got (visit ∷ starts) zero none within = refl
got (visit ∷ starts) (suc i) none within = got starts i none (omega (arith, within))

front : (xs ys : List Sources) → take (length xs) (xs ++ ys) ≡ xs
front [] ys = refl
front (x ∷ xs) ys = ap (λ (zs : List Sources). x ∷ zs) (front xs ys)

-- all rows, where nobody came to an address before
pub begun_first : (starts : List Visit) (count : ℕ) (rows : List Sources) → rows ≡ replicate count nobody
    → AreSpans (Begun starts 0) (length rows) rows
begun_first starts count rows is =
    let long : length rows ≡ count = ap length is ∙ length-replicate count nobody in
    subst (λ (rs : List Sources). AreSpans (Begun starts 0) (length rows) rs) (sym is)
    (subst (λ (n : ℕ). AreSpans (Begun starts 0) n (replicate count nobody)) (sym long)
    (none_begun starts count nobody refl refl))

pub begun_whole : (starts : List Visit) (img : Image) (owner : Owner) (count len : ℕ) (new old : List Sources)
    → AreStarts img owner starts → AreSpans (Begun starts (length starts)) count new → count ≡ length img.code
    → len ≡ count
    → AreSourcesBelow img owner 0 (take len (new ++ drop (length new) old))
begun_whole starts img owner count len new old are spans size long =
    let same : len ≡ length new = long ∙ sym spans.size in
    subst (AreSourcesBelow img owner 0)
    (sym (ap (λ n. take n (new ++ drop (length new) old)) same ∙ front new (drop (length new) old)))
    (begun_all starts img owner count new are spans size)
