-- One more in a loop whose definition takes the list from its front.
use Rattle.std.proofs.Common.{◌≡◌, ℕ, ◌+◌, ◌<◌, ◌==◌, ◌&&◌, ◌||◌, Bool, true, false, List, [], ◌∷◌, ◌++◌, length}
use Rattle.std.proofs.Common.{get_or, take, drop, map, flat_map, find, Option, Some, None, if◌then◌else◌, refl, ap, sym}
use Rattle.std.proofs.Common.{◌∙◌, arith, replicate, inl, inr}
use Rattle.std.specs.List.{list_any}
use Rattle.std.specs.Option.{option_map}
use Rattle.std.proofs.lemmas.List.{take_more, get_or_past, get_or-replicate, length-replicate}
use Rattle.std.proofs.lemmas.Bool.{cases_lt}
use Rattle.rt_lemmas.proofs.Lists.{drop_as_cons, flat_map_alike}
use Rattle.rt_ids.specs.declared.rule.Rule.TheVariants as rule
use Rattle.rt_app.specs.declared.body.Listed.{Listed}
use Rattle.rt_app.specs.declared.body.Owned.{Owned}
use Rattle.rt_app.specs.declared.violation.Violation.{Violation}
use Rattle.rt_app.specs.Bodies.{Member}
use Rattle.rt_app.specs.Tree.{App}
use Rattle.rt_app.specs.Violation.{when}
use Rattle.rt_app.specs.Listing.{Listing, first_listing, breaks_beside, listing_breaks}
use Rattle.rt_app.specs.Declarations.{Used, used_twice, is_known, owns, owned_before, owned_twice}
use Rattle.rt_rules.specs.Inside.First.{first_of}
use Rattle.rt_rules.specs.Inside.Tables.{or_else}
use Rattle.rt_rules.proofs.Fold.{first_of_append}

-- the violation of one more use
pub used_more : (before : List ℕ) (us : List Used) (i : ℕ) (x : Used) (o p v : Option Violation)
    → i < length us → x ≡ get_or us i x → first_of o (used_twice before (drop i us)) ≡ v
    → p ≡ first_of o (when (list_any (λ n. n == x.number) before) rule.InterruptUsedTwice x.at)
    → first_of p (used_twice (x.number ∷ before) (drop (i + 1) us)) ≡ v
used_more before us i x o p v h e was here =
    ap (λ (w : Option Violation). first_of w (used_twice (x.number ∷ before) (drop (i + 1) us))) here
    ∙ sym (first_of_append o (when (list_any (λ n. n == x.number) before) rule.InterruptUsedTwice x.at)
    (used_twice (x.number ∷ before) (drop (i + 1) us)))
    ∙ ap (λ us. first_of o (used_twice before us)) (sym (drop_as_cons us i x h e))
    ∙ was

-- an item that is read through its view
pub seen_at : {A : Type 0} (xs : List A) (i : ℕ) (x r : A) → x ≡ r → r ≡ get_or xs i r → x ≡ get_or xs i x
seen_at xs i x r same is = same ∙ is ∙ ap (get_or xs i) (sym same)

-- the numbers that are in, and one more
pub used_table : (before : List ℕ) (n : ℕ) (old new : ℕ → Bool) → ((k : ℕ) → old k ≡ list_any (λ n. n == k) before)
    → ((k : ℕ) → new k ≡ (n == k || old k)) → (k : ℕ) → new k ≡ list_any (λ n. n == k) (n ∷ before)
used_table before n old new were are k = are k ∙ ap (λ b. n == k || b) (were k)

-- the numbers of the bodies that are in, and those of one more
pub owned_table : (before : List Member) (m : Member) (ls : List Owned) (old new : ℕ → Bool) → ls ≡ m.body.local
    → ((k : ℕ) → old k ≡ list_any (owns k) before) → ((k : ℕ) → new k ≡ (list_any (λ o. o.local == k) ls || old k))
    → (k : ℕ) → new k ≡ list_any (owns k) (m ∷ before)
owned_table before m ls old new e were are k = are k ∙ ap (λ b. list_any (λ o. o.local == k) ls || b) (were k)
    ∙ ap (λ (ls : List Owned). list_any (λ o. o.local == k) ls || list_any (owns k) before) e

-- the violations of the listings of one more body
pub owned_more : {A : Type 0} (seen : A → Member) (test : ℕ → Bool) (before : List Member) (ms : List A) (i : ℕ) (x : A)
    (ls : List Owned) (o p v : Option Violation)
    → i < length ms → x ≡ get_or ms i x → ls ≡ (seen x).body.local → ((k : ℕ) → test k ≡ list_any (owns k) before)
    → first_of o (owned_twice before (map seen (drop i ms))) ≡ v
    → p ≡ first_of o (flat_map (λ (l : Owned). when (is_known l.local && test l.local) rule.LocalInTwoTasks l.at) ls)
    → first_of p (owned_twice (seen x ∷ before) (map seen (drop (i + 1) ms))) ≡ v
owned_more seen test before ms i x ls o p v h e locals table was here =
    let m = seen x in
    let rest = owned_twice (m ∷ before) (map seen (drop (i + 1) ms)) in
    let same : flat_map (λ (l : Owned). when (is_known l.local && test l.local) rule.LocalInTwoTasks l.at) m.body.local
    ≡ flat_map (owned_before before) m.body.local =
    flat_map_alike (λ (l : Owned). when (is_known l.local && test l.local) rule.LocalInTwoTasks l.at)
    (owned_before before)
    (λ l. ap (λ b. when (is_known l.local && b) rule.LocalInTwoTasks l.at) (table l.local)) m.body.local in
    ap (λ (w : Option Violation). first_of w rest)
    (here
    ∙ ap (λ ls. first_of o (flat_map (λ (l : Owned). when (is_known l.local && test l.local) rule.LocalInTwoTasks
    l.at) ls)) locals ∙ ap (first_of o) same)
    ∙ sym (first_of_append o (flat_map (owned_before before) m.body.local) rest)
    ∙ ap (λ ms. first_of o (owned_twice before (map seen ms))) (sym (drop_as_cons ms i x h e))
    ∙ was

find_push : {A : Type 0} (test : A → Bool) (xs : List A) (x : A) → find test (xs ++ x ∷ [])
    ≡ or_else (find test xs) (if test x then Some x else None)
find_push test [] x = refl
find_push test (y ∷ xs) x = elim (test y) as (λ b. (if b then Some y else find test (xs ++ x ∷ []))
    ≡ or_else (if b then Some y else find test xs) (if test x then Some x else None))
    [ true ↦ refl | false ↦ find_push test xs x ]

-- the first that passes, in a loop
pub find_more : {A : Type 0} (test : A → Bool) (xs : List A) (i : ℕ) (x : A) (o p : Option A)
    → i < length xs → x ≡ get_or xs i x → o ≡ find test (take i xs) → p ≡ or_else o (if test x then Some x else None)
    → p ≡ find test (take (i + 1) xs)
find_more test xs i x o p h e was here =
    here ∙ ap (λ w. or_else w (if test x then Some x else None)) was ∙ sym (find_push test (take i xs) x)
    ∙ ap (λ y. find test (take i xs ++ y ∷ [])) e ∙ ap (find test) (sym (take_more xs i x h))

-- a table of what was found first, with nothing in it
pub none_at : {A : Type 0} (n r : ℕ) → let no : Option A = None in get_or (replicate n no) r no ≡ no
none_at {A} n r =
    let no : Option A = None in
    elim (cases_lt r n) [
      | inl below ↦ get_or-replicate n r no no below
      | inr past ↦ get_or_past (replicate n no) r no (omega (arith, length-replicate n no))
    ]

-- what a listing breaks, by the first one of its resource
pub judged_by_first : (app : App) (l : Listing) (o : Option Listing) → o ≡ first_listing app l.listed.resource
    → (if is_known l.listed.resource then breaks_beside app l o else []) ≡ listing_breaks app l
judged_by_first app l o e = ap (λ o. if is_known l.listed.resource then breaks_beside app l o else []) e

listed_or_else : (o : Option Listing) (b : Bool) (l : Listing) → option_map (λ l. l.listed)
    (or_else o (if b then Some l else None)) ≡ or_else (option_map (λ l. l.listed) o)
    (if b then Some l.listed else None)
listed_or_else None true l = refl
listed_or_else None false l = refl
listed_or_else (Some m) b l = refl

-- the first listing of a resource by a body, in a loop over its listings
pub listed_more : (priority r : ℕ) (xs : List Listed) (i : ℕ) (x : Listed) (o p : Option Listing)
    → i < length xs → x ≡ get_or xs i x → option_map (λ l. l.listed) o ≡ find (λ y. y.resource == r) (take i xs)
    → p ≡ or_else o (if x.resource == r then Some (record { listed = x; priority = priority }) else None)
    → option_map (λ l. l.listed) p ≡ find (λ y. y.resource == r) (take (i + 1) xs)
listed_more priority r xs i x o p h e was here =
    let l : Listing = record { listed = x; priority = priority } in
    find_more (λ (y : Listed). y.resource == r) xs i x (option_map (λ l. l.listed) o) (option_map (λ l. l.listed) p) h e
    was (ap (option_map (λ l. l.listed)) here ∙ listed_or_else o (x.resource == r) l)
