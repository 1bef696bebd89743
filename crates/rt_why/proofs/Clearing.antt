-- That none of the points of an owner is looked for, from a walk through its code; and none of those of all owners.
use Rattle.std.proofs.Common.{◌≡◌, ◌⊎◌, ◌≤◌, ℕ, List, [], ◌∷◌, length, Some, None}
use Rattle.std.proofs.Common.{refl, sym, ap, subst, ◌∙◌, ⊎_elim}
use Rattle.std.proofs.lemmas.Option.{none-some}
use Rattle.rt_code.specs.Image.{Image}
use Rattle.rt_code.specs.declared.image.Handler.{Handler}
use Rattle.rt_points.specs.Point.{Point}
use Rattle.rt_points.specs.declared.point.Owner.{Owner}
use Rattle.rt_points.specs.declared.point.Owner.TheVariants.{Starting, Thread, Handling}
use Rattle.rt_points.specs.declared.point.Opened.{Opened}
use Rattle.rt_points.specs.Leading.{IsPoint, Begins, Enters, Leads, handler_at}
use Rattle.rt_judge.specs.Inside.Looks.{IsThread, IsOf, IsBelow}
use Rattle.rt_judge.specs.Inside.Visits.{Spot, point_of, spot_of, spots_of}
use Rattle.rt_judge.specs.Inside.Walks.{Has}
use Rattle.rt_judge.specs.declared.walk.Visits.{Visits}
use Rattle.rt_judge.proofs.Looking.{starting_has, thread_has, handler_has, serves, owner_below}
use Rattle.rt_judge.proofs.Looking.{below_more}
use Rattle.rt_why.specs.Inside.Searches.{WalksClean, IsCleared, IsClear, Finds}
use Rattle.rt_why.specs.Inside.Wanted.{IsUnwanted}
use Rattle.rt_why.specs.declared.search.Outcome.{Outcome}
use Rattle.rt_why.specs.declared.search.Outcome.TheVariants as search
use Rattle.rt_why.specs.declared.wanted.Wanted.{Wanted}

-- a walk from where an owner begins has all its points
module _ (img : Image) (owner : Owner) (starts : List Spot) (wanted : Wanted) (bs : Visits)
    (clean : WalksClean img owner starts wanted bs) (complete : (p : Point) → IsPoint img p → p.owner ≡ owner
    → Has clean.reached (spot_of p)) where
  of_owner : (p : Point) → p.owner ≡ owner → point_of owner (spot_of p) ≡ p
  of_owner p same = λ i. record { address = p.address; owner = sym same i; inside = p.inside }

  pub cleared_of : IsCleared img (λ o. o ≡ owner) wanted
  cleared_of = record {
    clean = λ p is mine. subst (IsUnwanted img wanted) (of_owner p mine)
        (clean.clean (spot_of p) (complete p is mine));
    one = λ p q is_p is_q mine same at.
        let first : clean.reached p.address ≡ Some p.inside = complete p is_p mine in
        let second : clean.reached q.address ≡ Some q.inside = complete q is_q (sym same ∙ mine) in
        let both : Some p.inside ≡ Some q.inside = sym first ∙ ap clean.reached at ∙ second in
        some_of p.inside q.inside both;
    few = λ p is mine. clean.walked.sound.few (spot_of p) (complete p is mine);
  }
    where
      some_of : (x y : List Opened) → Some x ≡ Some y → x ≡ y
      some_of x y e = cc

-- one after another
pub cleared_then : (img : Image) (M N O : Owner → Type 0) (wanted : Wanted) → ((o : Owner) → O o → M o ⊎ N o)
    → IsCleared img M wanted → IsCleared img N wanted → IsCleared img O wanted
cleared_then img M N O wanted split first second = record {
  clean = λ p is mine. ⊎_elim (λ m. first.clean p is m) (λ n. second.clean p is n) (split p.owner mine);
  one = λ p q is_p is_q mine same at. ⊎_elim
      (λ m. first.one p q is_p is_q m same at) (λ n. second.one p q is_p is_q n same at) (split p.owner mine);
  few = λ p is mine. ⊎_elim (λ m. first.few p is m) (λ n. second.few p is n) (split p.owner mine);
}

pub cleared_thread : (img : Image) (wanted : Wanted) (starts : List Spot) (bs : Visits) → starts
    ≡ record { address = 0; inside = [] } ∷ []
    → WalksClean img Starting starts wanted bs
    → (cs : Visits) × WalksClean img Thread (spots_of bs) wanted cs → IsCleared img IsThread wanted
cleared_thread img wanted starts bs begins first behind =
    let start : Spot = record { address = 0; inside = [] } in
    let from : WalksClean img Starting (start ∷ []) wanted bs = subst (λ (s : List Spot). WalksClean img Starting s
    wanted bs) begins first in
    let next = behind.1 in
    cleared_then img (λ o. o ≡ Starting) (λ o. o ≡ Thread) IsThread wanted (λ o is. is)
    (cleared_of img Starting (start ∷ []) wanted bs from
    (starting_has img from.reached from.done (spots_of bs) start refl from.walked))
    (cleared_of img Thread (spots_of bs) wanted behind.0 next
    (thread_has img from.reached from.done (spots_of bs) start refl from.walked next.reached next.done
    (spots_of behind.0) next.walked))

pub cleared_handler : (img : Image) (index : ℕ) (h : Handler) (wanted : Wanted) → handler_at img index ≡ Some h
    → (bs : Visits) × WalksClean img (Handling index) (record { address = h.entry; inside = [] } ∷ []) wanted bs
    → IsCleared img (IsOf index) wanted
cleared_handler img index h wanted is cleans =
    let start : Spot = record { address = h.entry; inside = [] } in
    let from = cleans.1 in
    cleared_of img (Handling index) (start ∷ []) wanted cleans.0 from
    (handler_has img index h is from.reached from.done (spots_of cleans.0) start refl from.walked)

-- a handler that is not enabled has no points
nobody : (img : Image) (index : ℕ) → handler_at img index ≡ None → (p : Point) → IsPoint img p
    → p.owner ≡ Handling index → ⊥
nobody img index none p Begins mine = absurd (let e : Starting ≡ Handling index = mine in cc)
nobody img index none p (Enters other g there) mine =
    let same : other ≡ index = let e : Handling other ≡ Handling index = mine in cc in
    let e : None ≡ Some g = sym none ∙ ap (handler_at img) (sym same) ∙ there in absurd (none-some g e)
nobody img index none s (Leads p q from to) mine = ⊎_elim
    (λ same. nobody img index none p from (sym same ∙ sym to.owner ∙ mine))
    (λ served. absurd (let both : Thread ≡ Handling index = sym served.1 ∙ sym to.owner ∙ mine in cc))
    (serves to.line.0 p.owner)

pub cleared_nowhere : (img : Image) (index : ℕ) (wanted : Wanted) → handler_at img index ≡ None
    → IsCleared img (IsOf index) wanted
cleared_nowhere img index wanted none = record {
  clean = λ p is mine. absurd (nobody img index none p is mine);
  one = λ p q is_p is_q mine same at. absurd (nobody img index none p is_p mine);
  few = λ p is mine. absurd (nobody img index none p is mine);
}

pub cleared_all : (img : Image) (n : ℕ) (wanted : Wanted) → length img.irqs ≤ n → IsCleared img (IsBelow n) wanted
    → IsClear img wanted
cleared_all img n wanted all cleared =
    let mine : (p : Point) → IsPoint img p → IsBelow n p.owner =
    λ p is. below_more (length img.irqs) n p.owner all (owner_below img p is) in
    record {
      clean = λ p is. cleared.clean p is (mine p is);
      nests = record {
        one = λ p q is_p is_q same at. cleared.one p q is_p is_q (mine p is_p) same at;
        few = λ p is. cleared.few p is (mine p is);
      };
    }

-- and what follows where it finds nothing
pub finds_weaker : (img : Image) (wanted : Wanted) (P Q : Type 0) (s : Outcome) → (P → Q) → Finds img wanted P s
    → Finds img wanted Q s
finds_weaker img wanted P Q search.Nothing f finds = f finds
finds_weaker img wanted P Q (search.Found p) f finds = finds
finds_weaker img wanted P Q (search.Split w) f finds = finds
