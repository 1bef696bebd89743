-- The points of an owner, from a walk through its code; and those of all owners.
use Rattle.std.proofs.Common.{◌≡◌, ◌⊎◌, ◌≤◌, ◌<◌, ◌+◌, ℕ, List, [], ◌∷◌, ◌++◌, map, length, slice_get, Option}
use Rattle.std.proofs.Common.{Some, None}
use Rattle.std.proofs.Common.{refl, sym, ap, subst, ◌∙◌, inl, inr, ⊎_elim, arith, append_assoc, append-nil, Result, Ok}
use Rattle.std.proofs.Common.{Err, IfOk, Bool, true, false, MatchBool, MatchOption}
use Rattle.std.specs.List.{AllByRecursion, Contains}
use Rattle.std.proofs.lemmas.Bool.{cases_eq}
use Rattle.std.proofs.lemmas.List.Elements.{Contains-append_left, Contains-append_right}
use Rattle.std.proofs.lemmas.Option.{none-some, slice_get_within}
use Rattle.rt_lemmas.proofs.Membership.{contains_here, all_append}
use Rattle.rt_ids.specs.Lists.{then_from}
use Rattle.rt_code.specs.Image.{Image}
use Rattle.rt_code.specs.declared.image.Handler.{Handler}
use Rattle.rt_code.specs.declared.instr.Instr.{Instr}
use Rattle.rt_code.specs.declared.instr.Instr.TheVariants as instr
use Rattle.rt_points.specs.Point.{Point}
use Rattle.rt_points.specs.declared.point.Owner.{Owner}
use Rattle.rt_points.specs.declared.point.Owner.TheVariants.{Starting, Thread, Handling}
use Rattle.rt_points.specs.declared.point.Opened.{Opened}
use Rattle.rt_points.specs.Leading.{IsPoint, Begins, Enters, Leads, LeadsTo, owner_after, handler_at}
use Rattle.rt_judge.specs.Inside.Points.{point}
use Rattle.rt_judge.specs.Inside.Visits.{Spot, point_of, spot_of, spots_of}
use Rattle.rt_judge.specs.Inside.Walks.{Reached, Has, ArePoints, IsWalked}
use Rattle.rt_judge.specs.Inside.Finds.{Finds}
use Rattle.rt_judge.specs.Inside.Looks.{LooksFrom, LooksBehind, LooksFromEntry, Looks, Looked, LookedBelow, IsThread}
use Rattle.rt_judge.specs.Inside.Looks.{IsOf, IsBelow}
use Rattle.rt_judge.specs.declared.findings.Findings.{Findings}
use Rattle.rt_judge.specs.declared.walk.Visits.{Visits}
use Rattle.rt_judge.proofs.Walking.{contains_map}

-- spots of points, as points
points_of_spots : (img : Image) (owner : Owner) (done : List Spot) → ArePoints img owner done
    → AllByRecursion (IsPoint img) (map (point_of owner) done)
points_of_spots img owner [] all = tt
points_of_spots img owner (spot ∷ done) all = (all.0, points_of_spots img owner done all.1)

-- a walk from where an owner begins has all its points
module _ (img : Image) (owner : Owner) (starts : List Spot) (old new : Findings) (bs : Visits)
    (looked : LooksFrom img owner starts old new bs) (complete : (p : Point) → IsPoint img p → p.owner ≡ owner
    → Has looked.reached (spot_of p)) where
  of_owner : (p : Point) → p.owner ≡ owner → point_of owner (spot_of p) ≡ p
  of_owner p same = λ i. record { address = p.address; owner = sym same i; inside = p.inside }

  pub looks_of : Looks img (λ o. o ≡ owner) old new
  looks_of = record {
    points = map (point_of owner) looked.done;
    sound = points_of_spots img owner looked.done looked.walked.points;
    all = λ p is mine. subst (Contains (map (point_of owner) looked.done)) (of_owner p mine)
        (contains_map (point_of owner) looked.done (spot_of p) (looked.walked.listed (spot_of p) (complete p is mine)));
    one = λ p q is_p is_q mine same at.
        let first : looked.reached p.address ≡ Some p.inside = complete p is_p mine in
        let second : looked.reached q.address ≡ Some q.inside = complete q is_q (sym same ∙ mine) in
        let both : Some p.inside ≡ Some q.inside = sym first ∙ ap looked.reached at ∙ second in
        some_of p.inside q.inside both;
    few = λ p is mine. looked.walked.sound.few (spot_of p) (complete p is mine);
    finds = looked.finds;
  }
    where
      some_of : (x y : List Opened) → Some x ≡ Some y → x ≡ y
      some_of x y e = cc

-- who runs behind an instruction is who ran, or the thread behind `init`
pub serves : (i : Instr) (owner : Owner) → (owner_after i owner ≡ owner)
    ⊎ ((owner ≡ Starting) × (owner_after i owner ≡ Thread))
serves instr.Serve Starting = inr (refl, refl)
serves i owner = inl refl

not_starting : (i : Instr) (owner : Owner) → owner_after i owner ≡ Starting → owner ≡ Starting
not_starting i owner e = ⊎_elim (λ same. sym same ∙ e) (λ both. both.0) (serves i owner)

-- all points of `init`
module _ (img : Image) (t : Reached) (done bs : List Spot) (start : Spot)
    (begins : start ≡ record { address = 0; inside = [] })
    (walked : IsWalked img Starting (start ∷ []) t done bs) where
  pub starting_has : (p : Point) → IsPoint img p → p.owner ≡ Starting → Has t (spot_of p)
  starting_has p Begins mine = subst (Has t) begins (walked.began start (contains_here start []))
  starting_has p (Enters index h is) mine = absurd (let e : Handling index ≡ Starting = mine in cc)
  starting_has s (Leads p q is to) mine =
      let was : p.owner ≡ Starting = not_starting to.line.0 p.owner (sym to.owner ∙ mine) in
      walked.closed (spot_of p) q (starting_has p is was)
      (subst (λ o. LeadsTo img (point p.address o p.inside) q) was to) mine

  -- and those behind it are where the thread begins
  pub thread_starts : (p q : Point) → IsPoint img p → LeadsTo img p q → p.owner ≡ Starting → q.owner ≡ Thread
      → Contains bs (spot_of q)
  thread_starts p q is to was now =
      walked.left (spot_of p) q (starting_has p is was)
      (subst (λ o. LeadsTo img (point p.address o p.inside) q) was to)
      (λ e. absurd (let both : Thread ≡ Starting = sym now ∙ e in cc))

  module _ (u : Reached) (more cs : List Spot) (behind : IsWalked img Thread bs u more cs) where
    pub thread_has : (p : Point) → IsPoint img p → p.owner ≡ Thread → Has u (spot_of p)
    thread_has p Begins mine = absurd (let e : Starting ≡ Thread = mine in cc)
    thread_has p (Enters index h is) mine = absurd (let e : Handling index ≡ Thread = mine in cc)
    thread_has s (Leads p q is to) mine = ⊎_elim
        (λ same.
        let was : p.owner ≡ Thread = sym same ∙ sym to.owner ∙ mine in
        behind.closed (spot_of p) q (thread_has p is was)
        (subst (λ o. LeadsTo img (point p.address o p.inside) q) was to) mine)
        (λ served. behind.began (spot_of q) (thread_starts p q is to served.0 mine))
        (serves to.line.0 p.owner)

-- all points of a handler
module _ (img : Image) (index : ℕ) (h : Handler) (is : handler_at img index ≡ Some h) (t : Reached)
    (done bs : List Spot) (start : Spot)
    (begins : start ≡ record { address = h.entry; inside = [] })
    (walked : IsWalked img (Handling index) (start ∷ []) t done bs) where
  pub handler_has : (p : Point) → IsPoint img p → p.owner ≡ Handling index → Has t (spot_of p)
  handler_has p Begins mine = absurd (let e : Starting ≡ Handling index = mine in cc)
  handler_has p (Enters other g there) mine =
      let same : other ≡ index = let e : Handling other ≡ Handling index = mine in cc in
      let one : h ≡ g = let e : Some h ≡ Some g = sym is ∙ ap (handler_at img) (sym same) ∙ there in cc in
      subst (λ (k : Handler). Has t (record { address = k.entry; inside = [] })) one
      (subst (Has t) begins (walked.began start (contains_here start [])))
  handler_has s (Leads p q from to) mine = ⊎_elim
      (λ same.
      let was : p.owner ≡ Handling index = sym same ∙ sym to.owner ∙ mine in
      walked.closed (spot_of p) q (handler_has p from was)
      (subst (λ o. LeadsTo img (point p.address o p.inside) q) was to) mine)
      (λ served. absurd (let both : Thread ≡ Handling index = sym served.1 ∙ sym to.owner ∙ mine in cc))
      (serves to.line.0 p.owner)

-- one after another
pub looks_then : (img : Image) (M N O : Owner → Type 0) (a b c : Findings) → ((o : Owner) → O o → M o ⊎ N o)
    → Looks img M a b
    → Looks img N b c → Looks img O a c
looks_then img M N O a b c split first second = record {
  points = first.points ++ second.points;
  sound = all_append (IsPoint img) first.points second.points first.sound second.sound;
  all = λ p is mine. ⊎_elim
      (λ m. Contains-append_left first.points second.points p (first.all p is m))
      (λ n. Contains-append_right first.points second.points p (second.all p is n)) (split p.owner mine);
  one = λ p q is_p is_q mine same at. ⊎_elim
      (λ m. first.one p q is_p is_q m same at) (λ n. second.one p q is_p is_q n same at) (split p.owner mine);
  few = λ p is mine. ⊎_elim (λ m. first.few p is m) (λ n. second.few p is n) (split p.owner mine);
  finds = λ ps found. subst (λ (qs : List Point). Finds img qs c) (append_assoc ps first.points second.points)
      (second.finds (ps ++ first.points) (first.finds ps found));
}

-- a handler that is not enabled has no points
pub none_of : (img : Image) (index : ℕ) (f : Findings) → handler_at img index ≡ None → (p : Point) → IsPoint img p
    → p.owner ≡ Handling index → ⊥
none_of img index f none p Begins mine = absurd (let e : Starting ≡ Handling index = mine in cc)
none_of img index f none p (Enters other g there) mine =
    let same : other ≡ index = let e : Handling other ≡ Handling index = mine in cc in
    let e : None ≡ Some g = sym none ∙ ap (handler_at img) (sym same) ∙ there in absurd (none-some g e)
none_of img index f none s (Leads p q from to) mine = ⊎_elim
    (λ same. none_of img index f none p from (sym same ∙ sym to.owner ∙ mine))
    (λ served. absurd (let both : Thread ≡ Handling index = sym served.1 ∙ sym to.owner ∙ mine in cc))
    (serves to.line.0 p.owner)

pub owner_below : (img : Image) (p : Point) → IsPoint img p → IsBelow (length img.irqs) p.owner
owner_below img p Begins = tt
owner_below img p (Enters index h is) = elim (slice_get img.irqs index) as
    (λ row. slice_get img.irqs index ≡ row → then_from row (λ r. r.handler) ≡ Some h → index < length img.irqs) [
      | None ↦ λ e bad. absurd (none-some h bad)
      | Some row ↦ λ e good. slice_get_within img.irqs index row e
    ] refl is
owner_below img s (Leads p q from to) = ⊎_elim
    (λ same. subst (IsBelow (length img.irqs)) (sym same ∙ sym to.owner) (owner_below img p from))
    (λ served. subst (IsBelow (length img.irqs)) (sym (to.owner ∙ served.1)) tt)
    (serves to.line.0 p.owner)

pub looks_weaker : (img : Image) (M O : Owner → Type 0) (a b : Findings) → ((o : Owner) → O o → M o) → Looks img M a b
    → Looks img O a b
looks_weaker img M O a b wider looks = record {
  points = looks.points;
  sound = looks.sound;
  all = λ p is mine. looks.all p is (wider p.owner mine);
  one = λ p q is_p is_q mine same at. looks.one p q is_p is_q (wider p.owner mine) same at;
  few = λ p is mine. looks.few p is (wider p.owner mine);
  finds = looks.finds;
}

pub looks_thread : (img : Image) (a b c : Findings) (starts : List Spot) (bs : Visits) → starts
    ≡ record { address = 0; inside = [] } ∷ []
    → LooksFrom img Starting starts a b bs → LooksBehind img (spots_of bs) b c → Looks img IsThread a c
looks_thread img a b c starts bs begins first behind =
    let start : Spot = record { address = 0; inside = [] } in
    let from : LooksFrom img Starting (start ∷ []) a b bs = subst (λ (s : List Spot). LooksFrom img Starting s a b bs)
    begins first in
    let next = behind.1 in
    looks_then img (λ o. o ≡ Starting) (λ o. o ≡ Thread) IsThread a b c (λ o is. is)
    (looks_of img Starting (start ∷ []) a b bs from
    (starting_has img from.reached from.done (spots_of bs) start refl from.walked))
    (looks_of img Thread (spots_of bs) b c behind.0 next
    (thread_has img from.reached from.done (spots_of bs) start refl from.walked next.reached next.done
    (spots_of behind.0) next.walked))

pub looks_handler : (img : Image) (index : ℕ) (h : Handler) (a b : Findings) → handler_at img index ≡ Some h
    → LooksFromEntry img index h.entry a b → Looks img (IsOf index) a b
looks_handler img index h a b is looks =
    let start : Spot = record { address = h.entry; inside = [] } in
    let from = looks.1 in
    looks_of img (Handling index) (start ∷ []) a b looks.0 from
    (handler_has img index h is from.reached from.done (spots_of looks.0) start refl from.walked)

pub looks_nowhere : (img : Image) (index : ℕ) (f : Findings) → handler_at img index ≡ None → Looks img (IsOf index) f f
looks_nowhere img index f none = record {
  points = [];
  sound = tt;
  all = λ p is mine. absurd (none_of img index f none p is mine);
  one = λ p q is_p is_q mine same at. absurd (none_of img index f none p is_p mine);
  few = λ p is mine. absurd (none_of img index f none p is mine);
  finds = λ ps found. subst (λ (qs : List Point). Finds img qs f) (sym (append-nil ps)) found;
}

pub thread_only : (o : Owner) → IsBelow 0 o → IsThread o
thread_only Starting is = inl refl
thread_only Thread is = inr refl
thread_only (Handling index) is = absurd (omega (arith, is))

pub looked_none : (img : Image) (a b : Findings) → Finds img [] a → Looks img IsThread a b → LookedBelow img 0 b
looked_none img a b found looks = (a, found, looks_weaker img IsThread (IsBelow 0) a b thread_only looks)

pub one_more : (n : ℕ) (o : Owner) → IsBelow (n + 1) o → IsBelow n o ⊎ IsOf n o
one_more n Starting is = inl tt
one_more n Thread is = inl tt
one_more n (Handling index) is = ⊎_elim (λ same. inr (ap Handling same)) (λ apart. inl (omega (arith, is, apart)))
    (cases_eq index n)

pub looked_more : (img : Image) (n : ℕ) (a b : Findings) → LookedBelow img n a → Looks img (IsOf n) a b
    → LookedBelow img (n + 1) b
looked_more img n a b looked looks =
    (looked.0, looked.1, looks_then img (IsBelow n) (IsOf n) (IsBelow (n + 1)) looked.0 a b (one_more n) looked.2 looks)

pub below_more : (n m : ℕ) (o : Owner) → n ≤ m → IsBelow n o → IsBelow m o
below_more n m Starting le is = tt
below_more n m Thread le is = tt
below_more n m (Handling index) le is = omega (arith, le, is)

pub looked_all : (img : Image) (n : ℕ) (f : Findings) → length img.irqs ≤ n → LookedBelow img n f → Looked img f
looked_all img n f all looked =
    let mine : (p : Point) → IsPoint img p → IsBelow n p.owner =
    λ p is. below_more (length img.irqs) n p.owner all (owner_below img p is) in
    let looks = looked.2 in
    record {
      points = looks.points;
      sound = looks.sound;
      all = λ p is. looks.all p is (mine p is);
      nests = record {
        one = λ p q is_p is_q same at. looks.one p q is_p is_q (mine p is_p) same at;
        few = λ p is. looks.few p is (mine p is);
      };
      finds = looks.finds [] looked.1;
    }

-- what follows from an answer
pub if_ok_weaker : {T E : Type 0} (r : Result T E) (P Q : T → Type 0) → ((x : T) → P x → Q x) → IfOk r P → IfOk r Q
if_ok_weaker (Ok x) P Q f h = f x h
if_ok_weaker (Err e) P Q f h = h

-- what is known where an answer is known
pub ok_true : {E : Type 0} (r : Result Bool E) (P N : Type 0) → r ≡ Ok true → P → IfOk r (λ kept. MatchBool kept P N)
ok_true r P N is h = subst (λ v. IfOk v (λ kept. MatchBool kept P N)) (sym is) h

pub ok_false : {E : Type 0} (r : Result Bool E) (P N : Type 0) → r ≡ Ok false → N
    → IfOk r (λ kept. MatchBool kept P N)
ok_false r P N is h = subst (λ v. IfOk v (λ kept. MatchBool kept P N)) (sym is) h

pub kept_weaker : (b : Bool) (P Q N : Type 0) → (P → Q) → MatchBool b P N → MatchBool b Q N
kept_weaker true P Q N f h = f h
kept_weaker false P Q N f h = h

pub some_case : {X : Type 0} (o : Option X) (x : X) (N : Type 0) (P : X → Type 0) → o ≡ Some x → MatchOption o N P → P x
some_case o x N P is h = subst (λ v. MatchOption v N P) is h

pub kept_case : (b : Bool) (P N : Type 0) → b ≡ true → MatchBool b P N → P
kept_case true P N is h = h
kept_case false P N is h = absurd cc

pub none_case : {X : Type 0} (o : Option X) (N : Type 0) (P : X → Type 0) → o ≡ None → MatchOption o N P → N
none_case o N P is h = subst (λ v. MatchOption v N P) is h
