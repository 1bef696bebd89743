-- Lines in lines: where a walk over the lines of a loop may pass over those of a loop inside.
use Rattle.std.proofs.Common.{◌≡◌, ◌≢◌, ◌≤◌, ◌<◌, ◌+◌, ℕ, suc, true}
use Rattle.std.proofs.Common.{List, length, slice_get, Option, Some, None}
use Rattle.std.proofs.Common.{◌⊎◌, refl, sym, ap, subst, ◌∙◌, inl, inr, ⊎_elim, arith}
use Rattle.std.proofs.lemmas.Bool.{cases_eq, cases_lt}
use Rattle.rt_code.specs.Image.{Image}
use Rattle.rt_code.specs.declared.instr.Instr.{Instr}
use Rattle.rt_code.specs.declared.instr.Note.{Note}
use Rattle.rt_points.specs.Leading.{LeadsOn}
use Rattle.rt_points.specs.declared.point.Owner.{Owner}
use Rattle.rt_points.specs.declared.point.Opened.{Opened}
use Rattle.rt_judge.specs.Inside.Tables.{found}
use Rattle.rt_judge.specs.Inside.Walks.{reached_by}
use Rattle.rt_judge.specs.declared.nesting.Nesting.{Nesting}
use Rattle.rt_judge.specs.declared.walk.Walk.{Walk}
use Rattle.rt_bounds.specs.Counting.{Place, is_changed, is_changed_after}
use Rattle.rt_bounds.specs.Inside.Countings.{IsOnceAt}
use Rattle.rt_bounds.specs.Inside.Inners.{All, IsClosed, IsLeft, IsOpenAsAtJump, IsStaying, IsStride, lines_from}
use Rattle.rt_bounds.specs.Inside.Shapes.{Has, is_closed_by, AllClosed, LeavesOnce, KeepsFrom, leaving, leaving_at}
use Rattle.rt_bounds.specs.declared.shape.Exit.{Exit}
use Rattle.rt_bounds.specs.declared.shape.Inner.{Inner}
use Rattle.rt_bounds.specs.declared.shape.Lines.{Lines}
use Rattle.rt_bounds.specs.declared.shape.Leaving.TheVariants.{Stays, Parts}
use Rattle.rt_bounds.specs.declared.sources.Sources.{Sources}
use Rattle.rt_bounds.proofs.Closedness.{least, closed_row, row_closed, least_head, least_other}
use Rattle.rt_bounds.proofs.Exiting.{IsFoundTo, parts_here, stays_here, here_stays}

-- lines are among others, and do not begin where these begin
pub record IsInner (inner ls : Lines) : Type 0 where
  pub later : ls.first < inner.first
  pub within : inner.last ≤ ls.last

pub inner_has : (inner ls : Lines) → IsInner inner ls → (a : ℕ) → Has inner a → Has ls a
inner_has inner ls is a here =
    let later = is.later in
    let within = is.within in
    let up = here.0 in
    let down = here.1 in (
      (let h : ls.first ≤ a = omega (arith, later, up) in h),
      (let h : a ≤ ls.last = omega (arith, within, down) in h),
    )

-- the lowest that a source may be
least_most : (ls : Lines) (head a : ℕ) → least ls head a ≤ ls.first
least_most ls head a = ⊎_elim
    (λ same. let by_head = least_head ls head a same in
    let h : least ls head a ≤ ls.first = omega (arith, by_head) in h)
    (λ apart. let by_other = least_other ls head a apart in
    let h : least ls head a ≤ ls.first = omega (arith, by_other) in h)
    (cases_eq a head)

least_more : (ls : Lines) (head a : ℕ) → ls.first ≤ suc (least ls head a)
least_more ls head a = ⊎_elim
    (λ same. let by_head = least_head ls head a same in
    let h : ls.first ≤ suc (least ls head a) = omega (arith, by_head) in h)
    (λ apart. let by_other = least_other ls head a apart in
    let h : ls.first ≤ suc (least ls head a) = omega (arith, by_other) in h)
    (cases_eq a head)

-- what is closed in itself is closed
pub inner_closed : (walk : Walk) (rows : List Sources) (inner ls : Lines) → IsInner inner ls → (inner_head head : ℕ)
    → AllClosed walk inner rows inner_head → (a : ℕ) (nesting : Nesting) → Has inner a
    → found walk.table a ≡ Some nesting → is_closed_by ls head a (slice_get rows a) ≡ true
inner_closed walk rows inner ls is inner_head head closed a nesting here there =
    by (slice_get rows a) (closed a nesting here there)
  where
    by : (o : Option Sources) → is_closed_by inner inner_head a o ≡ true → is_closed_by ls head a o ≡ true
    by None all = absurd cc
    by (Some row) all =
        let ends = closed_row inner inner_head a row all in
        let low = ends.0 in
        let high = ends.1 in
        let later = is.later in
        let within = is.within in
        let most = least_most ls head a in
        let more = least_more inner inner_head a in
        row_closed ls head a row (omega (arith, low, later, most, more)) (omega (arith, high, within))

-- what stays in them stays
pub inner_stays : (img : Image) (owner : Owner) (walk : Walk) (inner ls : Lines) → IsInner inner ls → (e : Exit)
    → LeavesOnce img owner walk inner e → (a : ℕ) → Has inner a → a ≢ e.jump → leaving img owner walk ls a ≡ Stays
inner_stays img owner walk inner ls is e once a here apart = ⊎_elim
    (λ same. absurd (apart same))
    (λ stays. by (slice_get img.code a) (found walk.table a) stays)
    (once.others a here)
  where
    by : (l : Option (Instr × Option Note)) (n : Option Nesting) → leaving_at inner owner a l n ≡ Stays
        → leaving_at ls owner a l n ≡ Stays
    by None n stays = refl
    by (Some line) None stays = refl
    by (Some line) (Some nesting) stays =
        let all = stays_here inner owner a line nesting stays in
        here_stays ls owner a line nesting (record {
          on = all.on;
          to = all.to;
          leads = all.leads;
          all = λ t leads. inner_has inner ls is t (all.all t leads);
        })

-- as many sections are open as at their jump
pub inner_open : (walk : Walk) (inner : Lines) (jump : ℕ) → KeepsFrom walk inner jump → (at_jump : List Opened)
    → reached_by walk jump ≡ Some at_jump → (least : ℕ) → least ≤ length at_jump → (a : ℕ) (inside : List Opened)
    → Has inner a → reached_by walk a ≡ Some inside → least ≤ length inside
inner_open walk inner jump keeps at_jump there least enough a inside here reached =
    let same : keeps.inside ≡ at_jump = (let e : Some keeps.inside ≡ Some at_jump = sym keeps.there ∙ there in cc) in
    let long = ap length same in
    let all = keeps.all a inside here reached in
    omega (arith, long, all, enough)

-- among lines that have neither the change nor the jump it does not matter where one is
level : (inner : Lines) (jump change a t : ℕ) → ¬ Has inner change → ¬ Has inner jump → Has inner a → Has inner t
    → is_changed jump change t ≡ is_changed_after jump change a
level inner jump change a t no_change no_jump here there =
    let up = here.0 in
    let down = here.1 in
    let low = there.0 in
    let high = there.1 in
    ⊎_elim
    (λ before. ⊎_elim
    (λ below. grind (arith, up, down, low, high, before, below))
    (λ above. grind (arith, up, down, low, high, before, above))
    (aside jump no_jump))
    (λ behind. ⊎_elim
    (λ below. grind (arith, up, down, low, high, behind, below))
    (λ above. grind (arith, up, down, low, high, behind, above))
    (aside jump no_jump))
    (aside change no_change)
  where
    aside : (b : ℕ) → ¬ Has inner b → (b < inner.first) ⊎ (inner.last < b)
    aside b none = ⊎_elim
        (λ less. inl less)
        (λ from. ⊎_elim
        (λ less. inr less)
        (λ to. absurd (none (from, to)))
        (cases_lt inner.last b))
        (cases_lt b inner.first)

-- all but the jump stay in them
pub all_stay : (img : Image) (owner : Owner) (walk : Walk) (inner : Lines) (e : Exit) → LeavesOnce img owner walk inner e
    → (a : ℕ) (line : Instr × Option Note) (nesting : Nesting) (t : ℕ) → Has inner a → a ≢ e.jump
    → slice_get img.code a ≡ Some line → found walk.table a ≡ Some nesting → LeadsOn line.0 a t → Has inner t
all_stay img owner walk inner e once a line nesting t here apart stands there leads = ⊎_elim
    (λ same. absurd (apart same))
    (λ stays.
    let all = stays_here inner owner a line nesting (sym (λ k. leaving_at inner owner a (stands k) (there k)) ∙ stays) in
    all.all t leads)
    (once.others a here)

-- lines from an address on for which one stands
module _ (ls : Lines) (inners : List (Option Inner)) (k : ℕ) (s : Inner) (stride : IsStride ls inners k s) where
  abbrev its_lines : Lines
  its_lines = lines_from k s

  -- before the address, that line itself, or in a loop that begins there
  data Where (a : ℕ) : Type 0 where
    Before : a < k → Where a
    Itself : a ≡ s.jump → Where a
    Among : IsInner its_lines ls → slice_get inners k ≡ Some (Some s) → Has its_lines a → a ≢ s.jump → Where a

  place : (a : ℕ) → a < s.last + 1 → Where a
  place a less = ⊎_elim
      (λ before. Before before)
      (λ from. ⊎_elim
      (λ same. Itself same)
      (λ apart. ⊎_elim
      (λ alone.
      let one = stride.from in
      let other = stride.to in
      absurd (apart (let h : a ≡ s.jump = omega (arith, less, from, alone, one, other) in h)))
      (λ known.
      let within = stride.within in
      let low = known.0 in
      Among (record { later = low; within = within }) known.1
      (from, (let h : a ≤ s.last = omega (arith, less) in h)) apart)
      stride.is)
      (cases_eq a s.jump))
      (cases_lt a k)

  pub closed_more : (walk : Walk) (rows : List Sources) (head : ℕ) → All (IsClosed walk rows) inners
      → ((nesting : Nesting) → found walk.table s.jump ≡ Some nesting
      → is_closed_by ls head s.jump (slice_get rows s.jump) ≡ true)
      → ((a : ℕ) (nesting : Nesting) → a < k → Has ls a → found walk.table a ≡ Some nesting
      → is_closed_by ls head a (slice_get rows a) ≡ true)
      → (a : ℕ) (nesting : Nesting) → a < s.last + 1 → Has ls a → found walk.table a ≡ Some nesting
      → is_closed_by ls head a (slice_get rows a) ≡ true
  closed_more walk rows head all here before a nesting less inside there = by (place a less)
    where
      by : Where a → is_closed_by ls head a (slice_get rows a) ≡ true
      by (Before low) = before a nesting low inside there
      by (Itself same) =
          subst (λ n. is_closed_by ls head n (slice_get rows n) ≡ true) (sym same)
          (here nesting (ap (found walk.table) (sym same) ∙ there))
      by (Among is known has apart) =
          let closed = all k s known in
          inner_closed walk rows its_lines ls is closed.0 head closed.1 a nesting has there

  pub open_more : (walk : Walk) (least : ℕ) → All (IsOpenAsAtJump walk) inners
      → ((inside : List Opened) → reached_by walk s.jump ≡ Some inside → least ≤ length inside)
      → ((a : ℕ) (inside : List Opened) → a < k → Has ls a → reached_by walk a ≡ Some inside → least ≤ length inside)
      → (a : ℕ) (inside : List Opened) → a < s.last + 1 → Has ls a → reached_by walk a ≡ Some inside
      → least ≤ length inside
  open_more walk least all here before a inside less within there = by (place a less)
    where
      by : Where a → least ≤ length inside
      by (Before low) = before a inside low within there
      by (Itself same) = here inside (ap (reached_by walk) (sym same) ∙ there)
      by (Among is known has apart) =
          let kept = all k s known in
          inner_open walk its_lines s.jump kept kept.inside kept.there least (here kept.inside kept.there) a inside has there

  pub stride_has : ls.first ≤ k → Has ls s.jump
  stride_has from =
      let one = stride.from in
      let other = stride.to in
      let within = stride.within in (
        (let h : ls.first ≤ s.jump = omega (arith, from, one) in h),
        (let h : s.jump ≤ ls.last = omega (arith, other, within) in h),
      )

  -- the counter was changed as often
  pub once_on : (img : Image) (walk : Walk) (c : Place) (change : ℕ) → All (IsStaying img walk) inners
      → (s.last ≡ k) ⊎ ((¬ Has its_lines change) × (¬ Has its_lines c.jump)) → IsOnceAt img walk c change s.jump
      → ((a : ℕ) → a < k → Has ls a → IsOnceAt img walk c change a)
      → (a : ℕ) → a < s.last + 1 → Has ls a → IsOnceAt img walk c change a
  once_on img walk c change all aside here before a less inside = by (place a less)
    where
      by : Where a → IsOnceAt img walk c change a
      by (Before low) = before a low inside
      by (Itself same) = subst (IsOnceAt img walk c change) (sym same) here
      by (Among is known has apart) = ⊎_elim
          (λ alone.
          let one = stride.from in
          let other = stride.to in
          let up = has.0 in
          let down = has.1 in
          absurd (apart (let h : a ≡ s.jump = omega (arith, alone, one, other, up, down) in h)))
          (λ none. λ line nesting t stands there leads within.
          level its_lines c.jump change a t none.0 none.1 has
          (all k s known a line nesting t has apart stands there leads))
          aside

  module _ (img : Image) (owner : Owner) (walk : Walk) (all : All (IsLeft img owner walk) inners) where
    among_stays : (a : ℕ) → IsInner its_lines ls → slice_get inners k ≡ Some (Some s) → Has its_lines a → a ≢ s.jump
        → leaving img owner walk ls a ≡ Stays
    among_stays a is known has apart =
        let left = all k s known in
        inner_stays img owner walk its_lines ls is left.0 left.2 a has (λ same. apart (same ∙ left.1))

    pub stays_on : (f : Option Exit) → IsFoundTo img owner walk ls k f → leaving img owner walk ls s.jump ≡ Stays
        → IsFoundTo img owner walk ls (s.last + 1) f
    stays_on None before here = λ a less inside. by a inside (place a less)
      where
        by : (a : ℕ) → Has ls a → Where a → leaving img owner walk ls a ≡ Stays
        by a inside (Before low) = before a low inside
        by a inside (Itself same) = ap (leaving img owner walk ls) same ∙ here
        by a inside (Among is known has apart) = among_stays a is known has apart
    stays_on (Some e) before here = (
      before.0,
      (let less = before.1 in
          let one = stride.from in
          let other = stride.to in
          omega (arith, less, one, other)),
      before.2,
      λ a less inside. by a inside (place a less),
    )
      where
        by : (a : ℕ) → Has ls a → Where a → (a ≡ e.jump) ⊎ (leaving img owner walk ls a ≡ Stays)
        by a inside (Before low) = before.3 a low inside
        by a inside (Itself same) = inr (ap (leaving img owner walk ls) same ∙ here)
        by a inside (Among is known has apart) = inr (among_stays a is known has apart)

    pub parts_on : (e : Exit) → IsFoundTo img owner walk ls k None → Has ls s.jump
        → leaving img owner walk ls s.jump ≡ Parts e → IsFoundTo img owner walk ls (s.last + 1) (Some e)
    parts_on e before inside here =
        let at : e.jump ≡ s.jump =
        (parts_here ls owner s.jump (slice_get img.code s.jump) (found walk.table s.jump) e here).parts.parting.here in (
          subst (Has ls) (sym at) inside,
          (let to = stride.to in omega (arith, at, to)),
          ap (leaving img owner walk ls) at ∙ here,
          λ a less within. by at a within (place a less),
        )
      where
        by : e.jump ≡ s.jump → (a : ℕ) → Has ls a → Where a → (a ≡ e.jump) ⊎ (leaving img owner walk ls a ≡ Stays)
        by at a within (Before low) = inr (before a low within)
        by at a within (Itself same) = inl (same ∙ sym at)
        by at a within (Among is known has apart) = inr (among_stays a is known has apart)
