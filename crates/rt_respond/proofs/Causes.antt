-- What comes of requests: the flags of the code are the paths of the definition, and the rows belong to its pairs.
use Rattle.std.proofs.Common.{◌≡◌, ℕ, ◌+◌, ◌<◌, ◌≤◌, ◌==◌, ◌⊎◌, inl, inr, Bool, true, false, not, cond, List, []}
use Rattle.std.proofs.Common.{◌∷◌}
use Rattle.std.proofs.Common.{◌++◌, map, filter, take, get_or, length, slice_get, Option, Some, None, refl, sym, ap}
use Rattle.std.proofs.Common.{subst, find, flat_map, position, option_and_then}
use Rattle.std.proofs.Common.{◌∙◌, append_assoc, append-nil, eq-eqb}
use Rattle.std.specs.Prelude.{Vec}
use Rattle.std.specs.Global.{Global}
use Rattle.std.proofs.lemmas.List.{take_more, take_all, map-append}
use Rattle.std.proofs.lemmas.List.Elements.{filter-append}
use Rattle.std.proofs.lemmas.Bool.{eqb-true}
use Rattle.std.proofs.lemmas.Option.{slice_get_within, get_or_from_slice_get}
use Rattle.rt_lemmas.proofs.Bools.{true_and_false, not_so}
use Rattle.rt_lemmas.proofs.Lists.{some_at, flat_map_next}
use Rattle.rt_lemmas.proofs.Membership.{all_has}
use Rattle.rt_ids.proofs.Lists.{find_by_position}
use Rattle.rt_app.specs.Tree.{App}
use Rattle.rt_respond.specs.Limits.{Limits}
use Rattle.rt_respond.specs.Handlers.{handlers, is_at}
use Rattle.rt_respond.specs.Path.{releases, Leads, Here, Next, IsLowest}
use Rattle.rt_rta.specs.declared.limits.Limit.{Limit}
use Rattle.rt_respond.specs.Report.{IsCaused, pairs_from, AreCaused}
use Rattle.rt_respond.specs.Response.{IsResponse}
use Rattle.rt_respond.specs.Inside.Paths.{IsEdge, AreEdges, Walks, Stays, Onward, is_marked, AreAllReached}
use Rattle.rt_respond.specs.Inside.Paths.{IsLowestBefore}
use Rattle.rt_respond.specs.Inside.Causing.{HasRows, IsGraph}
use Rattle.rt_respond.specs.declared.handler.Handler.{Handler}
use Rattle.rt_respond.specs.declared.path.Edge.{Edge}
use Rattle.rt_respond.specs.declared.report.Caused.{Caused}
use Rattle.rt_respond.specs.declared.response.Response.{Response}
use Rattle.rt_respond.proofs.Rows.{belong_at}

module _ (app : App) (hs : List Handler) (hs_are : hs ≡ handlers app) (edges : List Edge)
    (edges_are : AreEdges app hs edges) where
  walk_leads : (a b : ℕ) (h g : Handler) → Walks edges a b → slice_get hs a ≡ Some h → slice_get hs b ≡ Some g
      → Leads app h g
  walk_leads a b h g (Stays n) h_at g_at =
      let same : Some h ≡ Some g = sym h_at ∙ g_at in
      let is : h ≡ g = cc in subst (Leads app h) is (Here h)
  walk_leads a b h g (Onward edge n there rest) h_at g_at =
      let is = all_has (IsEdge app hs) edges edge edges_are.sound there in
      let same : Some is.from ≡ Some h = sym is.from_at ∙ h_at in
      let from_is : is.from ≡ h = cc in
      Next h is.to g (edge.to, ap (λ xs. slice_get xs edge.to) (sym hs_are) ∙ is.to_at)
      (ap (λ x. releases app x is.to) (sym from_is) ∙ is.releases) (walk_leads edge.to b is.to g rest is.to_at g_at)

  an_edge : (a b : ℕ) (h g : Handler) → slice_get hs a ≡ Some h → slice_get hs b ≡ Some g → releases app h g ≡ true
      → Walks edges a b
  an_edge a b h g h_at g_at is =
      let edge : Edge = record { from = a; to = b } in
      Onward edge b (edges_are.complete edge (record {
        from = h;
        to = g;
        from_at = h_at;
        to_at = g_at;
        releases = is;
      })) (Stays b)

  leads_walk : (a b : ℕ) (h g : Handler) → Leads app h g → slice_get hs a ≡ Some h → slice_get hs b ≡ Some g
      → (h ≡ g) ⊎ Walks edges a b
  leads_walk a b h g (Here k) h_at g_at = inl refl
  leads_walk a b h g (Next k m n there holds rest) h_at g_at =
      let m_at = ap (λ xs. slice_get xs there.0) hs_are ∙ there.1 in
      elim (leads_walk there.0 b m g rest m_at g_at) [
        | inl same ↦ inr (an_edge a b h g h_at g_at (ap (releases app h) (sym same) ∙ holds))
        | inr walk ↦ inr (first a there.0 b h m h_at m_at holds walk)
      ]
    where
      first : (a j b : ℕ) (h m : Handler) → slice_get hs a ≡ Some h → slice_get hs j ≡ Some m → releases app h m ≡ true
          → Walks edges j b → Walks edges a b
      first a j b h m h_at m_at holds walk =
          let edge : Edge = record { from = a; to = j } in
          Onward edge b (edges_are.complete edge (record {
            from = h;
            to = m;
            from_at = h_at;
            to_at = m_at;
            releases = holds;
          })) walk

  module _ (all : List (Vec Bool Global)) (reached : AreAllReached edges (length hs) all) (f t : ℕ)
      (from to : Handler) (from_at : slice_get hs f ≡ Some from) (to_at : slice_get hs t ≡ Some to) where
    marked : (a b : ℕ) → a < length hs → Walks edges a b → is_marked all a b ≡ true
    marked a b within walk = (reached.rows a within).complete b walk

    walked : (a b : ℕ) → a < length hs → is_marked all a b ≡ true → Walks edges a b
    walked a b within is = (reached.rows a within).sound b is

    -- where the other is not flagged no path leads to it
    pub apart : ¬ (from.irq ≡ to.irq) → is_marked all f t ≡ false → ¬ Leads app from to
    apart differ none leads = elim (leads_walk f t from to leads from_at to_at) [
      | inl same ↦ differ (ap (λ (h : Handler). h.irq) same)
      | inr walk ↦ true_and_false (is_marked all f t) (marked f t (slice_get_within hs f from from_at) walk) none
    ]

    -- the place that was found is the last on a path
    pub lowest_is : (place : ℕ) (low : Handler) → slice_get hs place ≡ Some low → is_marked all f t ≡ true
        → IsLowestBefore hs all f t (length hs) place → IsLowest app from to low
    lowest_is place low low_at joined is = record {
      on = record {
        declared = (place, ap (λ xs. slice_get xs place) (sym hs_are) ∙ low_at);
        before = walk_leads f place from low (walked f place (slice_get_within hs f from from_at) is.before) from_at
            low_at;
        behind = walk_leads place t low to (walked place t (slice_get_within hs place low low_at) is.behind) low_at
            to_at;
      };
      last = λ h on. by h on.declared.0 (ap (λ xs. slice_get xs on.declared.0) hs_are ∙ on.declared.1)
          (leads_walk f on.declared.0 from h on.before from_at
          (ap (λ xs. slice_get xs on.declared.0) hs_are ∙ on.declared.1))
          (leads_walk on.declared.0 t h to on.behind
          (ap (λ xs. slice_get xs on.declared.0) hs_are ∙ on.declared.1) to_at);
    }
      where
        by : (h : Handler) (n : ℕ) → slice_get hs n ≡ Some h → (from ≡ h) ⊎ Walks edges f n → (h ≡ to) ⊎ Walks edges n t
            → is_at low h ≡ true
        by h n h_at (inl first) second =
            subst (λ x. is_at low x ≡ true) first
            (is.last f low from (slice_get_within hs f from from_at) low_at from_at
            (marked f f (slice_get_within hs f from from_at) (Stays f)) joined)
        by h n h_at (inr walk) (inl second) =
            subst (λ x. is_at low x ≡ true) (sym second)
            (is.last t low to (slice_get_within hs t to to_at) low_at to_at joined
            (marked t t (slice_get_within hs t to to_at) (Stays t)))
        by h n h_at (inr walk) (inr rest) =
            is.last n low h (slice_get_within hs n h h_at) low_at h_at
            (marked f n (slice_get_within hs f from from_at) walk) (marked n t (slice_get_within hs n h h_at) rest)

-- each handler is flagged in its own row
pub rows_itself : (edges : List Edge) (count answered : ℕ) (all : List (Vec Bool Global)) → answered ≡ count
    → AreAllReached edges count all → HasRows count answered all
rows_itself edges count answered all long reached = record {
  answers = long;
  itself = λ n within. (reached.rows n within).complete n (Stays n);
}

-- rows of pairs, one after another
module _ (app : App) (limits : Limits) where
  pub caused_append : (ps qs : List (Handler × Handler)) (rows more : List Caused) → AreCaused app limits ps rows
      → AreCaused app limits qs more → AreCaused app limits (ps ++ qs) (rows ++ more)
  caused_append [] qs rows more is next = subst (λ rs. AreCaused app limits qs (rs ++ more)) (sym is) next
  caused_append (p ∷ ps) qs rows more (inl none) next = inl (none.0, caused_append ps qs rows more none.1 next)
  caused_append (p ∷ ps) qs rows more (inr some) next = inr (
    some.0,
    some.1 ++ more,
    ap (λ rs. rs ++ more) some.2,
    some.3,
    caused_append ps qs some.1 more some.4 next,
  )

  -- the pairs of a handler and of those of a list that pass
  abbrev pairs_of : Handler → (Handler → Bool) → List Handler → List (Handler × Handler)
  pairs_of from test hs = map (λ to. (from, to)) (filter test hs)

  pairs_append : (from : Handler) (test : Handler → Bool) (xs ys : List Handler)
      → pairs_of from test (xs ++ ys) ≡ pairs_of from test xs ++ pairs_of from test ys
  pairs_append from test xs ys =
      ap (map (λ to. (from, to))) (filter-append test xs ys)
      ∙ map-append (λ to. (from, to)) (filter test xs) (filter test ys)

  module _ (before : List (Handler × Handler)) (from : Handler) (test : Handler → Bool) (hs : List Handler) (i : ℕ)
      (to : Handler) (within : i < length hs) (is : to ≡ get_or hs i to) (rows : List Caused)
      (so_far : AreCaused app limits (before ++ pairs_of from test (take i hs)) rows) where
    pairs_more : before ++ pairs_of from test (take (i + 1) hs)
        ≡ (before ++ pairs_of from test (take i hs)) ++ pairs_of from test (to ∷ [])
    pairs_more =
        ap (λ xs. before ++ pairs_of from test xs)
        (take_more hs i to within ∙ ap (λ x. take i hs ++ x ∷ []) (sym is))
        ∙ ap (λ ps. before ++ ps) (pairs_append from test (take i hs) (to ∷ []))
        ∙ sym (append_assoc before (pairs_of from test (take i hs)) (pairs_of from test (to ∷ [])))

    -- one that does not pass
    pub caused_passed : test to ≡ false → AreCaused app limits (before ++ pairs_of from test (take (i + 1) hs)) rows
    caused_passed none =
        subst (λ ps. AreCaused app limits ps rows)
        (sym (pairs_more ∙ ap (λ b. (before ++ pairs_of from test (take i hs)) ++ map (λ to. (from, to))
        (cond b (to ∷ []) [])) none ∙ append-nil (before ++ pairs_of from test (take i hs)))) so_far

    -- one that nothing comes to
    pub caused_apart : test to ≡ true → ¬ Leads app from to
        → AreCaused app limits (before ++ pairs_of from test (take (i + 1) hs)) rows
    caused_apart one none =
        subst (λ ps. AreCaused app limits ps rows)
        (sym (pairs_more ∙ ap (λ b. (before ++ pairs_of from test (take i hs)) ++ map (λ to. (from, to))
        (cond b (to ∷ []) [])) one))
        (subst (AreCaused app limits ((before ++ pairs_of from test (take i hs)) ++ (from, to) ∷ [])) (append-nil rows)
        (caused_append (before ++ pairs_of from test (take i hs)) ((from, to) ∷ []) rows [] so_far
        (inl (none, refl))))

    -- one that a row belongs to
    pub caused_more : test to ≡ true → (row : Caused) (more : List Caused) → IsCaused app limits from to row
        → more ≡ rows ++ row ∷ [] → AreCaused app limits (before ++ pairs_of from test (take (i + 1) hs)) more
    caused_more one row more caused longer =
        subst (λ ps. AreCaused app limits ps more)
        (sym (pairs_more ∙ ap (λ b. (before ++ pairs_of from test (take i hs)) ++ map (λ to. (from, to))
        (cond b (to ∷ []) [])) one))
        (subst (AreCaused app limits ((before ++ pairs_of from test (take i hs)) ++ (from, to) ∷ [])) (sym longer)
        (caused_append (before ++ pairs_of from test (take i hs)) ((from, to) ∷ []) rows (row ∷ []) so_far
        (inr (row, [], refl, caused, refl))))

-- the rows of a handler, by the tables of the code: one more of the handlers that may come of it
module _ (app : App) (limits : Limits) (hs : List Handler) (responses : List Response) (all : List (Vec Bool Global))
    (graph : IsGraph app limits hs responses all) (before : List (Handler × Handler)) (f i : ℕ) (from to : Handler)
    (from_at : slice_get hs f ≡ Some from) (to_at : slice_get hs i ≡ Some to) (rows : List Caused)
    (so_far : AreCaused app limits (before ++ pairs_of app limits from (λ h. not (h.irq == from.irq)) (take i hs))
    rows) where
  abbrev RowsThen : List Caused → Type 0
  RowsThen more = AreCaused app limits
      (before ++ pairs_of app limits from (λ h. not (h.irq == from.irq)) (take (i + 1) hs))
      more

  within : i < length hs
  within = slice_get_within hs i to to_at

  itself : to ≡ get_or hs i to
  itself = sym (get_or_from_slice_get hs i to to to_at)

  passes : ¬ (to.irq ≡ from.irq) → not (to.irq == from.irq) ≡ true
  passes differ = ap not (not_so (to.irq == from.irq) (λ is. differ (eqb-true to.irq from.irq is)))

  -- the handler itself
  pub next_same : to.irq ≡ from.irq → RowsThen rows
  next_same same =
      caused_passed app limits before from (λ h. not (h.irq == from.irq)) hs i to within itself rows so_far
      (ap not (eq-eqb to.irq from.irq same))

  -- one that no path leads to
  pub next_apart : ¬ (to.irq ≡ from.irq) → is_marked all f i ≡ false → RowsThen rows
  next_apart differ none =
      caused_apart app limits before from (λ h. not (h.irq == from.irq)) hs i to within itself rows so_far
      (passes differ)
      (apart app hs graph.handlers_are graph.edges graph.edges_are all graph.reached_are f i from to from_at to_at
      (λ same. differ (sym same)) none)

  -- one that a path leads to
  pub next_more : ¬ (to.irq ≡ from.irq) → is_marked all f i ≡ true → (lowest : ℕ)
      → IsLowestBefore hs all f i (length hs) lowest → (row : Caused) (d : Response) (more : List Caused)
      → row.from ≡ from.irq → row.to ≡ to.task → row.response ≡ get_or responses lowest d → more ≡ rows ++ row ∷ []
      → RowsThen more
  next_more differ joined lowest is row d more from_is to_is answer longer =
      let low = some_at hs lowest is.there in
      caused_more app limits before from (λ h. not (h.irq == from.irq)) hs i to within itself rows so_far
      (passes differ) row more
      (record {
        from_irq = from_is;
        to_task = to_is;
        lowest = low.0;
        is_lowest = lowest_is app hs graph.handlers_are graph.edges graph.edges_are all graph.reached_are f i from to
            from_at to_at lowest low.0 low.1 joined is;
        response = subst (IsResponse app limits.every low.0) (sym answer)
            (subst (λ h. IsResponse app limits.every h (get_or responses lowest d))
            (get_or_from_slice_get hs lowest low.0 low.0 low.1)
            (belong_at (IsResponse app limits.every) hs responses lowest low.0 d graph.responses_are is.there));
      })
      longer

-- the pairs of one limit more
module _ (app : App) (limits : Limits) (i : ℕ) (limit : Limit) (within : i < length limits.every)
    (is : limit ≡ get_or limits.every i limit) (rows : List Caused) where
  abbrev pairs_under : Limit → List (Handler × Handler)
  pairs_under l = pairs_from app limits (find (λ h. h.number == l.irq) (handlers app))

  pub limit_more : (o : Option Handler) → find (λ h. h.number == limit.irq) (handlers app) ≡ o
      → AreCaused app limits (flat_map pairs_under (take i limits.every) ++ pairs_from app limits o) rows
      → AreCaused app limits (flat_map pairs_under (take (i + 1) limits.every)) rows
  limit_more o there =
      subst (λ ps. AreCaused app limits ps rows)
      (sym (flat_map_next pairs_under limits.every i limit within is
      ∙ ap (λ o. flat_map pairs_under (take i limits.every) ++ pairs_from app limits o) there))

  pub limit_none : find (λ h. h.number == limit.irq) (handlers app) ≡ None
      → AreCaused app limits (flat_map pairs_under (take i limits.every)) rows
      → AreCaused app limits (flat_map pairs_under (take (i + 1) limits.every)) rows
  limit_none none so_far =
      limit_more None none
      (subst (λ ps. AreCaused app limits ps rows) (sym (append-nil (flat_map pairs_under (take i limits.every))))
      so_far)

-- the handler of a limit, by its place
pub handler_at : (app : App) (hs : List Handler) (limit : Limit) (place : Option ℕ) → hs ≡ handlers app
    → place ≡ position (λ h. h.number == limit.irq) hs
    → find (λ h. h.number == limit.irq) (handlers app) ≡ option_and_then (slice_get hs) place
handler_at app hs limit place hs_are is =
    ap (find (λ h. h.number == limit.irq)) (sym hs_are) ∙ find_by_position (λ h. h.number == limit.irq) hs
    ∙ ap (option_and_then (slice_get hs)) (sym is)

-- all rows of a handler
pub pairs_all : (app : App) (limits : Limits) (hs : List Handler) (before : List (Handler × Handler)) (f i : ℕ)
    (from : Handler) (rows : List Caused) → hs ≡ handlers app → slice_get hs f ≡ Some from → length hs ≤ i
    → AreCaused app limits (before ++ pairs_of app limits from (λ h. not (h.irq == from.irq)) (take i hs)) rows
    → AreCaused app limits (before ++ pairs_from app limits (slice_get hs f)) rows
pairs_all app limits hs before f i from rows hs_are from_at end all =
    subst (λ o. AreCaused app limits (before ++ pairs_from app limits o) rows) (sym from_at)
    (subst (λ xs. AreCaused app limits (before ++ pairs_of app limits from (λ h. not (h.irq == from.irq)) xs) rows)
    (take_all i hs end ∙ hs_are) all)
