-- Flags of the handlers that are reached: one is set, walks go on by one edge, and closed flags hold each walk.
use Rattle.std.proofs.Common.{◌≡◌, ℕ, zero, suc, ◌+◌, ◌<◌, ◌≤◌, ◌⊎◌, inl, inr, Bool, true, false, not, cond, List, []}
use Rattle.std.proofs.Common.{◌∷◌}
use Rattle.std.proofs.Common.{◌++◌, take, get_or, set, length, slice_get, Some, refl, sym, ap, subst, ◌∙◌}
use Rattle.std.proofs.Common.{Contains, length-set, arith}
use Rattle.std.specs.Prelude.{count_by, Vec}
use Rattle.std.specs.Global.{Global}
use Rattle.std.proofs.lemmas.Bool.{cases_lt}
use Rattle.std.proofs.lemmas.List.{take_more}
use Rattle.std.proofs.lemmas.List.Elements.{Contains-push, Contains-append_left, Contains-get_or}
use Rattle.std.proofs.lemmas.List.Sums.{sum_by-set}
use Rattle.std.proofs.lemmas.Option.{slice_get_within}
use Rattle.rt_lemmas.proofs.Bools.{true_and_false}
use Rattle.rt_lemmas.proofs.Membership.{all_has, all_append}
use Rattle.rt_app.specs.Tree.{App}
use Rattle.rt_respond.specs.Handlers.{stands_before, is_at}
use Rattle.rt_respond.specs.Path.{releases}
use Rattle.rt_respond.specs.Inside.Paths.{IsEdge, AreEdgesBefore, Walks, Stays, Onward, is_flagged}
use Rattle.rt_respond.specs.Inside.Paths.{AreOnWalks, AreClosed, IsOnly, AreReached, is_marked}
use Rattle.rt_respond.specs.Inside.Paths.{IsLowestBefore}
use Rattle.rt_respond.specs.declared.handler.Handler.{Handler}
use Rattle.rt_respond.specs.declared.path.Edge.{Edge}
use Rattle.rt_respond.proofs.Order.{at_itself, at_later}
use Rattle.rt_respond.proofs.Tables.{get_or_other}

pub flag_kept : (flags : List Bool) (k n : ℕ) → is_flagged flags n ≡ true → is_flagged (set flags k true) n ≡ true
flag_kept [] k n is = is
flag_kept (b ∷ flags) zero zero is = refl
flag_kept (b ∷ flags) zero (suc n) is = is
flag_kept (b ∷ flags) (suc k) zero is = is
flag_kept (b ∷ flags) (suc k) (suc n) is = flag_kept flags k n is

pub flag_cases : (flags : List Bool) (k n : ℕ) → is_flagged (set flags k true) n ≡ true
    → (n ≡ k) ⊎ (is_flagged flags n ≡ true)
flag_cases [] k n is = inr is
flag_cases (b ∷ flags) zero zero is = inl refl
flag_cases (b ∷ flags) zero (suc n) is = inr is
flag_cases (b ∷ flags) (suc k) zero is = inr is
flag_cases (b ∷ flags) (suc k) (suc n) is = elim (flag_cases flags k n is) [
  | inl same ↦ inl (ap suc same)
  | inr there ↦ inr there
]

one_thing : (a b : Handler) → Some a ≡ Some b → a ≡ b
one_thing a b same = cc

-- one flag set leaves fewer that are not
pub fewer_left : (flags : List Bool) (k : ℕ) → k < length flags → is_flagged flags k ≡ false
    → count_by not (set flags k true) < count_by not flags
fewer_left flags k within is =
    let all = sum_by-set (λ b. cond (not b) 1 0) flags k true false within in
    let one = ap {B = ℕ} (λ b. cond (not b) 1 0) is in omega (arith, all, one)

pub walk_on : (edges : List Edge) (edge : Edge) (from : ℕ) → Contains edges edge → Walks edges from edge.from
    → Walks edges from edge.to
walk_on edges edge from there walk = go from edge.from walk refl
  where
    go : (a b : ℕ) → Walks edges a b → b ≡ edge.from → Walks edges a edge.to
    go a b (Stays n) same = subst (λ m. Walks edges m edge.to) (sym same) (Onward edge edge.to there (Stays edge.to))
    go a b (Onward e n is rest) same = Onward e edge.to is (go e.to n rest same)

-- what is flagged more is reached by one edge more
pub walks_more : (edges : List Edge) (edge : Edge) (flags : List Bool) → Contains edges edge
    → is_flagged flags edge.from ≡ true → (root : ℕ) → AreOnWalks edges root flags
    → AreOnWalks edges root (set flags edge.to true)
walks_more edges edge flags there from root on n is = elim (flag_cases flags edge.to n is) [
  | inl same ↦ subst (Walks edges root) (sym same) (walk_on edges edge root there (on edge.from from))
  | inr before ↦ on n before
]

pub closed_more : (edges : List Edge) (i : ℕ) (edge : Edge) (flags : List Bool) → i < length edges
    → edge ≡ get_or edges i edge → AreClosed (take i edges) flags
    → (is_flagged flags edge.from ≡ true → is_flagged flags edge.to ≡ true) → AreClosed (take (i + 1) edges) flags
closed_more edges i edge flags within is closed here =
    subst (λ es. AreClosed es flags) (sym (take_more edges i edge within ∙ ap (λ e. take i edges ++ e ∷ []) (sym is)))
    (all_append (λ (e : Edge). is_flagged flags e.from ≡ true → is_flagged flags e.to ≡ true) (take i edges) (edge ∷ [])
    closed (here, tt))

-- closed flags hold all that is reached from one of them
pub closed_hold : (edges : List Edge) (flags : List Bool) (a b : ℕ) → AreClosed edges flags → Walks edges a b
    → is_flagged flags a ≡ true → is_flagged flags b ≡ true
closed_hold edges flags a b closed (Stays n) is = is
closed_hold edges flags a b closed (Onward edge n there rest) is =
    closed_hold edges flags edge.to n closed rest
    (all_has (λ (e : Edge). is_flagged flags e.from ≡ true → is_flagged flags e.to ≡ true) edges edge closed there is)

pub only_sound : (edges : List Edge) (count root : ℕ) (flags : List Bool) → IsOnly count root flags
    → AreOnWalks edges root flags
only_sound edges count root flags only n is = subst (Walks edges root) (sym (only.alone n is)) (Stays root)

pub reached_are : (edges : List Edge) (count root : ℕ) (flags : List Bool) → length flags ≡ count
    → AreOnWalks edges root flags → is_flagged flags root ≡ true → AreClosed edges flags
    → AreReached edges count root flags
reached_are edges count root flags long sound kept closed = record {
  long = long;
  sound = sound;
  complete = λ n walk. closed_hold edges flags root n closed walk kept;
}

-- a flag that is read is that of its place
pub flag_is : (flags : List Bool) (n : ℕ) (b d : Bool) → n < length flags → b ≡ get_or flags n d
    → is_flagged flags n ≡ b
flag_is flags n b d within is = get_or_other flags n false d within ∙ sym is

-- what one round has flagged so far: more only where an edge leads on from what was flagged; where it is nothing, the
-- edges so far are closed
pub record IsWidened (edges : List Edge) (i : ℕ) (before flags : List Bool) (is_wider : Bool) : Type 0 where
  pub long : length flags ≡ length before
  pub sound : (root : ℕ) → AreOnWalks edges root before → AreOnWalks edges root flags
  pub kept : (n : ℕ) → is_flagged before n ≡ true → is_flagged flags n ≡ true
  pub closed : is_wider ≡ false → AreClosed (take i edges) flags
  pub same : is_wider ≡ false → flags ≡ before
  pub wider : is_wider ≡ true → count_by not flags < count_by not before

module _ (edges : List Edge) (i : ℕ) (edge : Edge) (before flags : List Bool) (was : Bool) (within : i < length edges)
    (is : edge ≡ get_or edges i edge) (so_far : IsWidened edges i before flags was) where
  fewer : (b : Bool) → was ≡ b → count_by not flags ≤ count_by not before
  fewer true wider = let less = so_far.wider wider in omega (arith, less)
  fewer false none = let same = ap (count_by not) (so_far.same none) in omega (arith, same)

  -- the edge leads on
  pub widened_on : (now : List Bool) (wide : Bool) → edge.to < length flags → is_flagged flags edge.from ≡ true
      → is_flagged flags edge.to ≡ false → now ≡ set flags edge.to true → wide ≡ true
      → IsWidened edges (i + 1) before now wide
  widened_on now wide fits from to set_is wide_is = subst (λ fs. IsWidened edges (i + 1) before fs wide) (sym set_is)
      (record {
        long = length-set flags edge.to true ∙ so_far.long;
        sound = λ root on. walks_more edges edge flags
            (subst (Contains edges) (sym is) (Contains-get_or edges i edge within)) from root (so_far.sound root on);
        kept = λ n flagged. flag_kept flags edge.to n (so_far.kept n flagged);
        closed = λ none. absurd (true_and_false wide wide_is none);
        same = λ none. absurd (true_and_false wide wide_is none);
        wider = λ _. let one = fewer_left flags edge.to fits to in
            let rest = fewer was refl in omega (arith, one, rest);
      })

  -- it does not
  pub widened_off : (now : List Bool) (wide : Bool) → (is_flagged flags edge.from ≡ true
      → is_flagged flags edge.to ≡ true) → now ≡ flags → wide ≡ was → IsWidened edges (i + 1) before now wide
  widened_off now wide here same wide_is = subst (λ fs. IsWidened edges (i + 1) before fs wide) (sym same)
      (subst (IsWidened edges (i + 1) before flags) (sym wide_is) (record {
        long = so_far.long;
        sound = so_far.sound;
        kept = so_far.kept;
        closed = λ none. closed_more edges i edge flags within is (so_far.closed none) here;
        same = so_far.same;
        wider = so_far.wider;
      }))

-- the edges of an application, one after another
module _ (app : App) (hs : List Handler) where
  -- one handler more that is not pended
  pub edges_passed : (from to : ℕ) (edges : List Edge) (h g : Handler) → AreEdgesBefore app hs from to edges
      → slice_get hs from ≡ Some h → slice_get hs to ≡ Some g → releases app h g ≡ false
      → AreEdgesBefore app hs from (to + 1) edges
  edges_passed from to edges h g are h_at g_at none = record {
    sound = are.sound;
    complete = are.complete;
    begun = λ edge is same before. elim (cases_lt edge.to to) [
      | inl sooner ↦ are.begun edge is same sooner
      | inr past ↦ (let last : edge.to ≡ to = omega (arith, past, before) in
          absurd (not_there edge is same last))
    ];
  }
    where
      not_there : (edge : Edge) → IsEdge app hs edge → edge.from ≡ from → edge.to ≡ to → ⊥
      not_there edge is from_same to_same =
          let first : Some is.from ≡ Some h = sym is.from_at ∙ ap (slice_get hs) from_same ∙ h_at in
          let second : Some is.to ≡ Some g = sym is.to_at ∙ ap (slice_get hs) to_same ∙ g_at in
          let one : is.from ≡ h = cc in
          let other : is.to ≡ g = cc in
          let released = is.releases in
          true_false (sym (sym (ap (λ x. releases app x is.to) one ∙ ap (releases app h) other) ∙ released) ∙ none)
        where
          true_false : true ≡ false → ⊥
          true_false is = cc

  -- one that is
  pub edges_more : (from to : ℕ) (edges more : List Edge) (edge : Edge) (h g : Handler)
      → AreEdgesBefore app hs from to edges → edge.from ≡ from → edge.to ≡ to → slice_get hs from ≡ Some h
      → slice_get hs to ≡ Some g → releases app h g ≡ true → more ≡ edges ++ edge ∷ []
      → AreEdgesBefore app hs from (to + 1) more
  edges_more from to edges more edge h g are from_is to_is h_at g_at holds longer =
      subst (AreEdgesBefore app hs from (to + 1)) (sym longer) (record {
        sound = all_append (IsEdge app hs) edges (edge ∷ []) are.sound (
          record {
            from = h;
            to = g;
            from_at = ap (slice_get hs) from_is ∙ h_at;
            to_at = ap (slice_get hs) to_is ∙ g_at;
            releases = holds;
          },
          tt,
        );
        complete = λ e is before. Contains-append_left edges (edge ∷ []) e (are.complete e is before);
        begun = λ e is same before. elim (cases_lt e.to to) [
          | inl sooner ↦ Contains-append_left edges (edge ∷ []) e (are.begun e is same sooner)
          | inr past ↦ (let last : e.to ≡ to = omega (arith, past, before) in
              subst (Contains (edges ++ edge ∷ [])) (alike edge e (from_is ∙ sym same) (to_is ∙ sym last))
              (Contains-push edges edge))
        ];
      })
    where
      alike : (a b : Edge) → a.from ≡ b.from → a.to ≡ b.to → a ≡ b
      alike a b from to =
          let make : ℕ → ℕ → Edge = λ f t. record { from = f; to = t } in
          ap (λ f. make f a.to) from ∙ ap (make b.from) to

  -- all of one handler
  pub edges_all : (from to : ℕ) (edges : List Edge) → length hs ≤ to → AreEdgesBefore app hs from to edges
      → AreEdgesBefore app hs (from + 1) 0 edges
  edges_all from to edges end are = record {
    sound = are.sound;
    complete = λ edge is before. elim (cases_lt edge.from from) [
      | inl sooner ↦ are.complete edge is sooner
      | inr past ↦ (let last : edge.from ≡ from = omega (arith, past, before) in
          let within = slice_get_within hs edge.to is.to is.to_at in
          are.begun edge is last (omega (arith, within, end)))
    ];
    begun = λ edge is same before. absurd (omega (arith, before));
  }

-- the lowest so far, and one place more
module _ (hs : List Handler) (all : List (Vec Bool Global)) (from to place lowest : ℕ)
    (is : IsLowestBefore hs all from to place lowest) where
  pub lowest_new : (low h : Handler) → place < length hs → slice_get hs lowest ≡ Some low → slice_get hs place ≡ Some h
      → is_marked all from place ≡ true → is_marked all place to ≡ true → stands_before low h ≡ true
      → IsLowestBefore hs all from to (place + 1) place
  lowest_new low h within low_at h_at first second before = record {
    there = within;
    before = first;
    behind = second;
    last = λ n l g below l_at g_at one two. subst (λ x. is_at x g ≡ true) (one_thing h l (sym h_at ∙ l_at))
        (elim (cases_lt n place) [
          | inl sooner ↦ at_later low h g before (is.last n low g sooner low_at g_at one two)
          | inr past ↦ (let same : n ≡ place = omega (arith, past, below) in
              subst (λ x. is_at h x ≡ true) (one_thing h g (sym h_at ∙ ap (slice_get hs) (sym same) ∙ g_at))
              (at_itself h))
        ]);
  }

  pub lowest_old : ((low h : Handler) → slice_get hs lowest ≡ Some low → slice_get hs place ≡ Some h
      → is_marked all from place ≡ true → is_marked all place to ≡ true → is_at low h ≡ true)
      → IsLowestBefore hs all from to (place + 1) lowest
  lowest_old spared = record {
    there = is.there;
    before = is.before;
    behind = is.behind;
    last = λ n l g below l_at g_at one two. elim (cases_lt n place) [
      | inl sooner ↦ is.last n l g sooner l_at g_at one two
      | inr past ↦ (let same : n ≡ place = omega (arith, past, below) in
          spared l g l_at (ap (slice_get hs) (sym same) ∙ g_at) (ap (is_marked all from) (sym same) ∙ one)
          (ap (λ m. is_marked all m to) (sym same) ∙ two))
    ];
  }
