-- An item of an auditor's lists that changes is a content that changes.
use Rattle.std.proofs.Common.{◌≡◌, ◌≢◌, ℕ, zero, suc, ◌+◌, ◌-◌, ◌<◌, ◌≤◌, ◌==◌, nat_lt, Bool, true, false, cond}
use Rattle.std.proofs.Common.{Option, Some, None, List, [], ◌∷◌, ◌++◌, length, drop, map, get_or, set, refl, sym}
use Rattle.std.proofs.Common.{ap, ◌∙◌, subst, append-nil, arith, position, find, is_some, if◌then◌else◌}
use Rattle.std.proofs.lemmas.Bool.Decides.{nat_tests}
use Rattle.std.proofs.lemmas.List.{get_or-set_other}
use Rattle.std.proofs.lemmas.Grind.{get_or-set_at}
use Rattle.std.proofs.lemmas.Option.{get_or_from_slice_get, slice_get_read, same_Some, none-some}
use Rattle.std.specs.List.{position_or_len, remove, slice_get}
use Rattle.std.specs.Option.{option_and_then}
use Rattle.rt_ids.proofs.Lists.{find_by_position}
use Rattle.rt_lemmas.proofs.Lists.{mapped_read}
use Rattle.rt_actions.specs.Location.{Location, Guarded, Own}
use Rattle.rt_actions.specs.Content.{Message, Armed, Timed, Content, Number, Messages, Delays, Values, values_with}
use Rattle.rt_actions.specs.Content.{timer_content}
use Rattle.rt_actions.specs.Content.{without_least, has_handle, without_handle, postponed_message, message_of_handle}
use Rattle.rt_actions.specs.Action.{effect, Places, Frees, Readies, Starts, Arms, Fires, Cancels, Moves}
use Rattle.rt_ids.specs.declared.ids.Section.TheVariants as section
use Rattle.rt_baker_work.specs.Store.{Store, contents}

-- a list of which one item is changed, read at an index
at_index : {X : Type 0} (f : X → Content) (xs : List X) (r a : ℕ) (n d : X) → r < length xs
    → f (get_or (set xs r n) a d) ≡ (if r == a then f n else f (get_or xs a d))
at_index f xs r a n d within = go (r == a) refl
  where
    go : (b : Bool) → (r == a) ≡ b → f (get_or (set xs r n) a d) ≡ (if b then f n else f (get_or xs a d))
    go true e = let h : a ≡ r = grind (arith, nat_tests) in ap f (get_or-set_at xs r a n d h within)
    go false e = let h : a ≢ r = grind (arith, nat_tests) in ap f (get_or-set_other xs r a n d h)

pub set_shared : (s : Store) (r n : ℕ) → r < length s.shared
    → contents (record s { shared = set s.shared r n }) ≡ values_with (contents s) (Guarded (section.Res r)) (Number n)
unfolding contents
set_shared s r n within = λ i h. each h i
  where
    each : (h : Location) → contents (record s { shared = set s.shared r n }) h ≡ values_with (contents s) (Guarded
        (section.Res r)) (Number n) h
    each (Guarded (section.Res a)) = at_index Number s.shared r a n 0 within
    each (Guarded (section.Free a)) = refl
    each (Guarded (section.Ready a)) = refl
    each (Guarded section.Timer) = refl
    each (Own a) = refl

pub set_local : (s : Store) (r n : ℕ) → r < length s.locals
    → contents (record s { locals = set s.locals r n }) ≡ values_with (contents s) (Own r) (Number n)
unfolding contents
set_local s r n within = λ i h. each h i
  where
    each : (h : Location) → contents (record s { locals = set s.locals r n }) h
        ≡ values_with (contents s) (Own r) (Number
        n) h
    each (Guarded (section.Res a)) = refl
    each (Guarded (section.Free a)) = refl
    each (Guarded (section.Ready a)) = refl
    each (Guarded section.Timer) = refl
    each (Own a) = at_index Number s.locals r a n 0 within

-- the same, where a store is seen as another and an index told otherwise
pub shared_is_set : (s t : Store) (i r n : ℕ) → s ≡ t → i ≡ r → i < length s.shared
    → contents (record s { shared = set s.shared i n }) ≡ values_with (contents t) (Guarded (section.Res r)) (Number n)
shared_is_set s t i r n e f within =
    set_shared s i n within ∙ ap (λ (k : ℕ). values_with (contents s) (Guarded (section.Res k)) (Number n)) f
    ∙ ap (λ (u : Store). values_with (contents u) (Guarded (section.Res r)) (Number n)) e

pub local_is_set : (s t : Store) (i r n : ℕ) → s ≡ t → i ≡ r → i < length s.locals
    → contents (record s { locals = set s.locals i n }) ≡ values_with (contents t) (Own r) (Number n)
local_is_set s t i r n e f within =
    set_local s i n within ∙ ap (λ (k : ℕ). values_with (contents s) (Own k) (Number n)) f
    ∙ ap (λ (u : Store). values_with (contents u) (Own r) (Number n)) e

-- a list that stands at an index of lists
pub list_read : {X Y : Type 0} (f : X → List Y) (xs : List X) (ys : List (List Y)) (i p : ℕ) (x : X) (r : List Y)
    → map f xs ≡ ys → i ≡ p → i < length xs → x ≡ get_or xs i x → r ≡ f x → r ≡ get_or ys p []
list_read f xs ys i p x r view same within at is =
    is ∙ sym (get_or_from_slice_get (map f xs) i (f x) [] (mapped_read f xs i x within at))
    ∙ ap (λ (j : ℕ). get_or (map f xs) j []) same ∙ ap (λ (l : _). get_or l p []) view

pub set_out : (s : Store) (r n : ℕ) → r < length s.out
    → contents (record s { out = set s.out r n }) ≡ values_with (contents s) (Guarded (section.Free r)) (Number n)
unfolding contents
set_out s r n within = λ i h. each h i
  where
    each : (h : Location) → contents (record s { out = set s.out r n }) h ≡ values_with (contents s) (Guarded
        (section.Free r)) (Number n) h
    each (Guarded (section.Res a)) = refl
    each (Guarded (section.Free a)) = at_index Number s.out r a n 0 within
    each (Guarded (section.Ready a)) = refl
    each (Guarded section.Timer) = refl
    each (Own a) = refl

pub set_ready : (s : Store) (p : ℕ) (ms : List Message) → p < length s.ready
    → contents (record s { ready = set s.ready p ms }) ≡ values_with (contents s) (Guarded (section.Ready p)) (Messages
    ms)
unfolding contents
set_ready s p ms within = λ i h. each h i
  where
    each : (h : Location) → contents (record s { ready = set s.ready p ms }) h ≡ values_with (contents s) (Guarded
        (section.Ready p)) (Messages ms) h
    each (Guarded (section.Res a)) = refl
    each (Guarded (section.Free a)) = refl
    each (Guarded (section.Ready a)) = at_index Messages s.ready p a ms [] within
    each (Guarded section.Timer) = refl
    each (Own a) = refl

pub set_timed : (s : Store) (t : Timed)
    → contents (record s { timed = t }) ≡ values_with (contents s) (Guarded section.Timer) (Delays t)
unfolding contents
set_timed s t = λ i h. each h i
  where
    each : (h : Location) → contents (record s { timed = t }) h ≡ values_with (contents s) (Guarded section.Timer)
        (Delays t) h
    each (Guarded (section.Res a)) = refl
    each (Guarded (section.Free a)) = refl
    each (Guarded (section.Ready a)) = refl
    each (Guarded section.Timer) = refl
    each (Own a) = refl

-- the timer queue is as it was where a resource changes
pub timed_beside_shared : (s t : Store) (r n : ℕ)
    → contents t ≡ values_with (contents s) (Guarded (section.Res r)) (Number n) → t.timed ≡ s.timed
unfolding contents
timed_beside_shared s t r n put = ap (λ (vs : Values). timer_content (vs (Guarded section.Timer))) put

pub timed_beside_local : (s t : Store) (l n : ℕ) → contents t ≡ values_with (contents s) (Own l) (Number n)
    → t.timed ≡ s.timed
unfolding contents
timed_beside_local s t l n put = ap (λ (vs : Values). timer_content (vs (Guarded section.Timer))) put

-- what actions change, by the lists
pub place_taken : (s t : Store) (i r n : ℕ) → s ≡ t → i ≡ r → i < length s.out → n ≡ get_or s.out i 0 + 1
    → contents (record s { out = set s.out i n }) ≡ effect (Places r) (contents t)
unfolding contents
place_taken s t i r n e f within is =
    set_out s i n within ∙ ap (λ (k : ℕ). values_with (contents s) (Guarded (section.Free i)) (Number k)) is
    ∙ ap (λ (k : ℕ). effect (Places k) (contents s)) f ∙ ap (λ (u : Store). effect (Places r) (contents u)) e

pub place_given : (s t : Store) (i r n : ℕ) → s ≡ t → i ≡ r → i < length s.out → n ≡ get_or s.out i 0 - 1
    → contents (record s { out = set s.out i n }) ≡ effect (Frees r) (contents t)
unfolding contents
place_given s t i r n e f within is =
    set_out s i n within ∙ ap (λ (k : ℕ). values_with (contents s) (Guarded (section.Free i)) (Number k)) is
    ∙ ap (λ (k : ℕ). effect (Frees k) (contents s)) f ∙ ap (λ (u : Store). effect (Frees r) (contents u)) e

pub made_ready : (s t : Store) (i p : ℕ) (m : Message) (ms ns : List Message) → s ≡ t → i ≡ p
    → i < length s.ready → ms ≡ get_or s.ready i [] → ns ≡ ms ++ m ∷ []
    → contents (record s { ready = set s.ready i ns }) ≡ effect (Readies p m) (contents t)
unfolding contents
made_ready s t i p m ms ns e f within were is =
    set_ready s i ns within ∙ ap (λ (ks : List Message). values_with (contents s) (Guarded (section.Ready i)) (Messages
    ks)) (is ∙ ap (λ (ks : List Message). ks ++ m ∷ []) were)
    ∙ ap (λ (k : ℕ). effect (Readies k m) (contents s)) f ∙ ap (λ (u : Store). effect (Readies p m) (contents u)) e

pub started : (s t : Store) (i p : ℕ) (m : Message) (ms ns : List Message) → s ≡ t → i ≡ p → i < length s.ready
    → ms ≡ get_or s.ready i [] → ns ≡ drop 1 ms
    → contents (record s { ready = set s.ready i ns }) ≡ effect (Starts p m) (contents t)
unfolding contents
started s t i p m ms ns e f within were is =
    set_ready s i ns within ∙ ap (λ (ks : List Message). values_with (contents s) (Guarded (section.Ready i)) (Messages
    ks)) (is ∙ ap (λ (ks : List Message). drop 1 ks) were)
    ∙ ap (λ (k : ℕ). effect (Starts k m) (contents s)) f ∙ ap (λ (u : Store). effect (Starts p m) (contents u)) e

-- the timer queue with these
abbrev pub timed_as : ℕ → ℕ → List Armed → Timed
timed_as given moved list = record { given = given; moved = moved; armed = list }

pub armed : (s t : Store) (i n : ℕ) (m : Message) (list : List Armed) → s ≡ t → n ≡ s.timed.given + 1
    → list ≡ s.timed.armed ++ record { instant = i; message = m; handle = n } ∷ []
    → contents (record s { timed = timed_as n s.timed.moved list }) ≡ effect (Arms i m) (contents t)
unfolding contents
armed s t i n m list e next is =
    set_timed s (timed_as n s.timed.moved list)
    ∙ ap (λ (ks : List Armed). values_with (contents s) (Guarded section.Timer) (Delays (timed_as n s.timed.moved ks)))
    is
    ∙ ap (λ (k : ℕ). values_with (contents s) (Guarded section.Timer) (Delays (timed_as k s.timed.moved (s.timed.armed
    ++ record { instant = i; message = m; handle = k } ∷ [])))) next
    ∙ ap (λ (u : Store). effect (Arms i m) (contents u)) e

pub fired : (s t : Store) (m : Message) (list : List Armed) → s ≡ t → list ≡ without_least s.timed.armed
    → contents (record s { timed = timed_as s.timed.given s.timed.moved list }) ≡ effect (Fires m) (contents t)
unfolding contents
fired s t m list e is =
    set_timed s (timed_as s.timed.given s.timed.moved list)
    ∙ ap (λ (ks : List Armed). values_with (contents s) (Guarded section.Timer) (Delays (timed_as s.timed.given
    s.timed.moved ks))) is
    ∙ ap (λ (u : Store). effect (Fires m) (contents u)) e

pub taken_back : (s t : Store) (n h : ℕ) (list : List Armed) → s ≡ t → list ≡ without_handle n h s.timed.armed
    → contents (record s { timed = timed_as s.timed.given s.timed.moved list }) ≡ effect (Cancels n h) (contents t)
unfolding contents
taken_back s t n h list e is =
    set_timed s (timed_as s.timed.given s.timed.moved list)
    ∙ ap (λ (ks : List Armed). values_with (contents s) (Guarded section.Timer) (Delays (timed_as s.timed.given
    s.timed.moved ks))) is
    ∙ ap (λ (u : Store). effect (Cancels n h) (contents u)) e

pub put_off : (s t : Store) (n h i k : ℕ) (list : List Armed) → s ≡ t → k ≡ s.timed.moved + 1
    → list ≡ without_handle n h s.timed.armed ++ postponed_message i (message_of_handle n h s.timed.armed)
    → contents (record s { timed = timed_as s.timed.given k list }) ≡ effect (Moves n h i) (contents t)
unfolding contents
put_off s t n h i k list e next is =
    set_timed s (timed_as s.timed.given k list)
    ∙ ap (λ (ks : List Armed). values_with (contents s) (Guarded section.Timer) (Delays (timed_as s.timed.given k ks)))
    is
    ∙ ap (λ (j : ℕ). values_with (contents s) (Guarded section.Timer)
    (Delays (timed_as s.timed.given j (without_handle n
    h s.timed.armed ++ postponed_message i (message_of_handle n h s.timed.armed))))) next
    ∙ ap (λ (u : Store). effect (Moves n h i) (contents u)) e

map_set : {X Y : Type 0} (f : X → Y) (xs : List X) (i : ℕ) (x : X) → map f (set xs i x) ≡ set (map f xs) i (f x)
map_set f [] i x = refl
map_set f (y ∷ ys) zero x = refl
map_set {X} {Y} f (y ∷ ys) (suc i) x = ap (λ (zs : List Y). f y ∷ zs) (map_set f ys i x)

mapped_length : {X Y : Type 0} (f : X → Y) (xs : List X) → length (map f xs) ≡ length xs
mapped_length f [] = refl
mapped_length f (x ∷ xs) = ap suc (mapped_length f xs)

mapped_within : {X Y : Type 0} (f : X → Y) (xs : List X) (i : ℕ) → i < length xs → i < length (map f xs)
mapped_within f xs i within = subst (λ (n : ℕ). i < n) (sym (mapped_length f xs)) within

pub ready_grown : {X : Type 0} (f : X → List Message) (xs : List X) (s t : Store) (i p : ℕ) (m : Message) (x y : X)
    → map f xs ≡ s.ready → s ≡ t → i ≡ p → i < length xs
    → x ≡ get_or xs i x → f y ≡ f x ++ m ∷ [] → contents (record s { ready = map f (set xs i y) }) ≡ effect
    (Readies p m) (contents t)
ready_grown f xs s t i p m x y view e same within reads grows =
    ap (λ (rs : List (List Message)). contents (record s { ready = rs })) (map_set f xs i y
    ∙ ap (λ (l : List (List Message)). set l i (f y)) view)
    ∙ made_ready s t i p m (f x) (f y) e same (subst (λ (l : List (List Message)). i < length l) view
    (mapped_within f xs i within))
    (list_read f xs s.ready i i x (f x) view refl within reads refl) grows

pub ready_taken : {X : Type 0} (f : X → List Message) (xs : List X) (s t : Store) (i p : ℕ) (m : Message) (x y : X)
    → map f xs ≡ s.ready → s ≡ t → i ≡ p → i < length xs
    → x ≡ get_or xs i x → f y ≡ drop 1 (f x) → contents (record s { ready = map f (set xs i y) }) ≡ effect (Starts
    p m) (contents t)
ready_taken f xs s t i p m x y view e same within reads drops =
    ap (λ (rs : List (List Message)). contents (record s { ready = rs })) (map_set f xs i y
    ∙ ap (λ (l : List (List Message)). set l i (f y)) view)
    ∙ started s t i p m (f x) (f y) e same (subst (λ (l : List (List Message)). i < length l) view (mapped_within f
    xs i within))
    (list_read f xs s.ready i i x (f x) view refl within reads refl) drops

-- the least armed message, by the index that was found
index_found : (n k : ℕ) (b : Bool) → cond b (Some n) None ≡ Some k → n ≡ k
index_found n k true is = same_Some n k is
index_found n k false is = absurd (none-some k is)

pub one_removed : (P : Armed → Bool) (xs ys : List Armed) (o : Option ℕ) (k : ℕ) → o ≡ position P xs → o ≡ Some k
    → ys ≡ remove xs k → ys ≡ remove xs (position_or_len P xs)
one_removed P xs ys o k found at is =
    is ∙ ap (remove xs)
    (sym (index_found (position_or_len P xs) k (nat_lt (position_or_len P xs) (length xs)) (sym found ∙ at)))

past_of : (n k : ℕ) → cond (nat_lt n k) (Some n) None ≡ None → k ≤ n
past_of n k is = go (nat_lt n k) refl is
  where
    go : (b : Bool) → nat_lt n k ≡ b → cond b (Some n) None ≡ None → k ≤ n
    go true test is = absurd (none-some n (sym is))
    go false test is = grind (arith, nat_tests)

removed_past : (xs : List Armed) (n : ℕ) → length xs ≤ n → remove xs n ≡ xs
removed_past [] zero past = refl
removed_past [] (suc n) past = refl
removed_past (x ∷ xs) zero past = absurd (omega (arith, past))
removed_past (x ∷ xs) (suc n) past = ap (λ (ys : List Armed). x ∷ ys) (removed_past xs n (omega (arith, past)))

pub none_removed : (P : Armed → Bool) (xs : List Armed) (o : Option ℕ) → o ≡ position P xs → o ≡ None
    → xs ≡ remove xs (position_or_len P xs)
none_removed P xs o found none =
    sym (removed_past xs (position_or_len P xs) (past_of (position_or_len P xs) (length xs) (sym found ∙ none)))

-- whether there is one, and which, by the index that was found
within_of : (n k len : ℕ) → cond (nat_lt n len) (Some n) None ≡ Some k → k < len
within_of n k len is = go (nat_lt n len) refl is
  where
    go : (b : Bool) → nat_lt n len ≡ b → cond b (Some n) None ≡ Some k → k < len
    go true test is = let same : n ≡ k = same_Some n k is in grind (arith, nat_tests)
    go false test is = absurd (none-some k is)

there : (xs : List Armed) (k : ℕ) → k < length xs → is_some (slice_get xs k) ≡ true
there [] k within = absurd (omega (arith, within))
there (x ∷ xs) zero within = refl
there (x ∷ xs) (suc k) within = there xs k (omega (arith, within))

pub found_as : (P : Armed → Bool) (xs : List Armed) (o : Option ℕ) → o ≡ position P xs
    → is_some o ≡ is_some (find P xs)
found_as P xs None found =
    sym (ap is_some (find_by_position P xs ∙ ap (option_and_then (slice_get xs)) (sym found)))
found_as P xs (Some k) found =
    sym (ap is_some (find_by_position P xs ∙ ap (option_and_then (slice_get xs)) (sym found))
    ∙ there xs k (within_of (position_or_len P xs) k (length xs) (sym found)))

pub none_found : (P : Armed → Bool) (xs : List Armed) (o : Option ℕ) → o ≡ position P xs → o ≡ None
    → find P xs ≡ None
none_found P xs o found none =
    find_by_position P xs ∙ ap (option_and_then (slice_get xs)) (sym found ∙ none)

pub one_found : (P : Armed → Bool) (xs : List Armed) (o : Option ℕ) (k : ℕ) (a : Armed) → o ≡ position P xs
    → o ≡ Some k → k < length xs → a ≡ get_or xs k a → find P xs ≡ Some a
one_found P xs o k a found at within reads =
    find_by_position P xs ∙ ap (option_and_then (slice_get xs)) (sym found ∙ at)
    ∙ slice_get_read xs (length xs) k a refl within reads

-- one that goes last, or none
pub gone_last : (n h i : ℕ) (xs mid ys : List Armed) (o : Option ℕ) (k : ℕ) (a : Armed)
    → o ≡ position (has_handle n h) xs → o ≡ Some k → a ≡ get_or xs k a → mid ≡ remove xs k
    → ys ≡ mid ++ record { instant = i; message = a.message; handle = a.handle } ∷ []
    → ys ≡ without_handle n h xs ++ postponed_message i (message_of_handle n h xs)
gone_last n h i xs mid ys o k a found at reads less is =
    let within = within_of (position_or_len (has_handle n h) xs) k (length xs) (sym found ∙ at) in
    is
    ∙ ap (λ (l : List Armed). l ++ record { instant = i; message = a.message; handle = a.handle } ∷ [])
    (one_removed (has_handle n h) xs mid o k found at less)
    ∙ ap (λ (p : Option Armed). without_handle n h xs ++ postponed_message i p)
    (sym (one_found (has_handle n h) xs o k a found at within reads))

pub none_last : (n h i : ℕ) (xs : List Armed) (o : Option ℕ) → o ≡ position (has_handle n h) xs → o ≡ None
    → xs ≡ without_handle n h xs ++ postponed_message i (message_of_handle n h xs)
none_last n h i xs o found none =
    none_removed (has_handle n h) xs o found none
    ∙ sym (append-nil (without_handle n h xs))
    ∙ ap (λ (p : Option Armed). without_handle n h xs ++ postponed_message i p)
    (sym (none_found (has_handle n h) xs o found none))
