-- What is read over tables of names is read over tables that name more; and where a name alone is unknown, it is read
-- over tables that have the name.
use Rattle.std.proofs.Common.{◌≡◌, ◌==◌, ◌<◌, ◌≤◌, ◌+◌, ◌^◌, ℕ, zero, suc, Bool, true, false, List, [], ◌∷◌, ◌++◌}
use Rattle.std.proofs.Common.{length}
use Rattle.std.proofs.Common.{map, drop, codes, decimal, bytes_eq, nat_eq, find, slice_get, slice_index_or, Option}
use Rattle.std.proofs.Common.{Some}
use Rattle.std.proofs.Common.{None, IsSome, option_map, Result, Ok, Err, if◌then◌else◌, refl, ap, sym, ◌∙◌, subst}
use Rattle.std.proofs.Common.{arith}
use Rattle.std.specs.List.{AllByRecursion, starts_with}
use Rattle.std.specs.Option.{ok_or, option_or, unwrap_or}
use Rattle.std.proofs.lemmas.Bool.{leb-true}
use Rattle.std.proofs.lemmas.List.Folds.{find-append}
use Rattle.std.proofs.lemmas.Option.{slice_get-get_or, slice_get_within}
use Rattle.std.proofs.lemmas.Slice.Eq.{bytes_eq-Decides}
use Rattle.rt_lemmas.proofs.Lists.{find_has, mapped_at, found_passes}
use Rattle.rt_lemmas.proofs.Membership.{all_at}
use Rattle.rt_lemmas.proofs.Indices.{get_left}
use Rattle.rt_ids.specs.Lists.{AreDifferent}
use Rattle.rt_ids.specs.Names.{Names, AreNames, irq_of, task_index, resource_of}
use Rattle.rt_ids.specs.Naming.{irq_named, irq_name, task_name, resource_name, section_name, IsDeclared}
use Rattle.rt_ids.specs.Word.{is_identifier}
use Rattle.rt_ids.specs.declared.ids.BodyId.TheVariants as body
use Rattle.rt_ids.specs.declared.ids.Section.{Section}
use Rattle.rt_ids.specs.declared.ids.Section.TheVariants as section
use Rattle.rt_lines.specs.Answers.{and_then, and_make}
use Rattle.rt_lines.specs.Numbers.{number_below}
use Rattle.rt_lines.specs.Operand.{OperandKind, Number, IrqName, FirstIrqName, TaskName, BodyName, LockName, QueueName}
use Rattle.rt_lines.specs.Operand.{SectionName, OperandValue, HasWord, IsQueue, IsSection, word, read_at}
use Rattle.rt_lines.specs.Operand.{number_at}
use Rattle.rt_lines.specs.Operand.{index_or_wrong, section_at}
use Rattle.rt_lines.specs.Operand.{irq_at, first_irq_at, task_at, lock_at, queue_at}
use Rattle.rt_lines.specs.Table.{Shape, Alone, One, Two, Three, OneOrTwo, AndNumbers, Row, Operand, Number32, both}
use Rattle.rt_lines.specs.Table.{one_at}
use Rattle.rt_lines.specs.Table.{two_at, numbers_at, shape_at, said_at, operand_word, EachSaid, Agree, IsWritten}
use Rattle.rt_lines.specs.Table.{is_plain}
use Rattle.rt_lines.specs.declared.operand.Wrong.{Wrong}
use Rattle.rt_lines.specs.declared.operand.Wrong.TheVariants as wrong
use Rattle.rt_lines.proofs.Found.{found_at}
use Rattle.rt_lines.proofs.Numerals.{number_read}
use Rattle.rt_lines.proofs.Spelled.{first_irq_read}
use Rattle.rt_lines.proofs.Told.{said_by, said_each, IsPlain, operands_plain}

-- there is a value
abbrev pub IsOk : {A : Type 0} → Result A Wrong → Type 0
IsOk (Ok x) = Unit {0}
IsOk (Err w) = ⊥

-- there is a value, or all that is wrong is that a name is unknown
abbrev pub IsOkOrName : {A : Type 0} → Result A Wrong → Type 0
IsOkOrName (Ok x) = Unit {0}
IsOkOrName (Err wrong.Name) = Unit {0}
IsOkOrName (Err wrong.Form) = ⊥

module _ {A B : Type 0} where
  pub made_ok : (r : Result A Wrong) (f : A → B) → IsOk r → IsOk (and_make r f)
  made_ok (Ok x) f h = tt
  made_ok (Err w) f h = absurd h

  pub made_name : (r : Result A Wrong) (f : A → B) → IsOkOrName r → IsOkOrName (and_make r f)
  made_name (Ok x) f h = tt
  made_name (Err wrong.Name) f h = tt
  made_name (Err wrong.Form) f h = absurd h

  pub from_made : (r : Result A Wrong) (f : A → B) → IsOkOrName (and_make r f) → IsOkOrName r
  from_made (Ok x) f h = tt
  from_made (Err wrong.Name) f h = tt
  from_made (Err wrong.Form) f h = absurd h

  pub both_ok : (r : Result A Wrong) (s : Result B Wrong) → IsOk r → IsOk s → IsOk (both r s)
  both_ok (Ok a) (Ok b) p q = tt
  both_ok (Ok a) (Err w) p q = absurd q
  both_ok (Err w) s p q = absurd p

  pub both_name : (r : Result A Wrong) (s : Result B Wrong) → IsOkOrName r → IsOkOrName s → IsOkOrName (both r s)
  both_name (Ok a) (Ok b) p q = tt
  both_name (Ok a) (Err w) p q = q
  both_name (Err w) (Ok b) p q = p
  both_name (Err wrong.Name) (Err w) p q = q
  both_name (Err wrong.Form) (Err w) p q = absurd p

  pub from_both : (r : Result A Wrong) (s : Result B Wrong) → IsOkOrName (both r s) → IsOkOrName r × IsOkOrName s
  from_both (Ok a) (Ok b) h = (tt, tt)
  from_both (Ok a) (Err w) h = (tt, h)
  from_both (Err w) (Ok b) h = (h, tt)
  from_both (Err wrong.Name) (Err w) h = (tt, h)
  from_both (Err wrong.Form) (Err w) h = absurd h

-- a number names nothing
pub number_ok : (bound : ℕ) (w : List ℕ) → IsOkOrName (number_at bound w) → IsOk (number_at bound w)
number_ok bound w h = by (number_below bound w) h
  where
    by : (n : Option ℕ) → IsOkOrName (ok_or n wrong.Form) → IsOk (ok_or n wrong.Form)
    by None h = absurd h
    by (Some n) h = tt

numbers_ok : (most : ℕ) (ws : List (List ℕ)) → IsOkOrName (numbers_at most ws) → IsOk (numbers_at most ws)
numbers_ok most [] h = tt
numbers_ok zero (w ∷ ws) h = absurd h
numbers_ok (suc most) (w ∷ ws) h =
    by (number_at (2 ^ 32) w) (numbers_at most ws) (number_ok (2 ^ 32) w) (numbers_ok most ws) h
  where
    by : (r : Result ℕ Wrong) (s : Result (List ℕ) Wrong) → (IsOkOrName r → IsOk r) → (IsOkOrName s → IsOk s)
        → IsOkOrName (and_then r (λ n. and_make s (λ ns. n ∷ ns))) → IsOk (and_then r (λ n. and_make s (λ ns. n ∷ ns)))
    by (Ok n) s p q h = made_ok s (λ ns. n ∷ ns) (q (from_made s (λ ns. n ∷ ns) h))
    by (Err wrong.Name) s p q h = p tt
    by (Err wrong.Form) s p q h = absurd h

-- each kind of word, where nothing else is wrong, is read of the word over the other names
abbrev pub IsKnown : Names → Names → List ℕ → Type 0
IsKnown names more w = (k : OperandKind) → IsOkOrName (read_at k names w) → IsOk (read_at k more w)

module _ (names more : Names) where
  one_known : (k : OperandKind) (ws : List (List ℕ)) → AllByRecursion (IsKnown names more) ws
      → IsOkOrName (one_at (read_at k) names ws) → IsOk (one_at (read_at k) more ws)
  one_known k [] all h = absurd h
  one_known k (a ∷ []) all h = all.0 k h
  one_known k (a ∷ b ∷ ws) all h = absurd h

  then_known : {B : Type 0} (k : OperandKind) (a : List ℕ) (r s : Result B Wrong) → IsKnown names more a
      → (IsOkOrName r → IsOk s) → IsOkOrName (both (read_at k names a) r) → IsOk (both (read_at k more a) s)
  then_known k a r s known rest h =
      let parts = from_both (read_at k names a) r h in
      both_ok (read_at k more a) s (known k parts.0) (rest parts.1)

  two_known : (k l : OperandKind) (ws : List (List ℕ)) → AllByRecursion (IsKnown names more) ws
      → IsOkOrName (two_at (read_at k) (read_at l) names ws) → IsOk (two_at (read_at k) (read_at l) more ws)
  two_known k l [] all h = absurd h
  two_known k l (a ∷ ws) all h =
      then_known k a (one_at (read_at l) names ws) (one_at (read_at l) more ws) all.0 (one_known l ws all.1) h

  -- what is made of what is known
  make_known : {A B : Type 0} (r s : Result A Wrong) (f : A → B) → (IsOkOrName r → IsOk s)
      → IsOkOrName (and_make r f) → IsOk (and_make s f)
  make_known r s f known h = made_ok s f (known (from_made r f h))

  shape_known : {T : Type 0} (shape : Shape T) (ws : List (List ℕ)) → AllByRecursion (IsKnown names more) ws
      → IsOkOrName (shape_at shape names ws) → IsOk (shape_at shape more ws)
  shape_known (Alone x) [] all h = tt
  shape_known (Alone x) (a ∷ ws) all h = absurd h
  shape_known (One k says) ws all h = make_known (one_at (read_at k) names ws) (one_at (read_at k) more ws) says
      (one_known k ws all) h
  shape_known (Two k l says) ws all h =
      make_known (two_at (read_at k) (read_at l) names ws) (two_at (read_at k) (read_at l) more ws) (λ v. says v.0 v.1)
      (two_known k l ws all) h
  shape_known (Three k l m says) [] all h = absurd h
  shape_known (Three k l m says) (a ∷ ws) all h =
      make_known (both (read_at k names a) (two_at (read_at l) (read_at m) names ws))
      (both (read_at k more a) (two_at (read_at l) (read_at m) more ws)) (λ v. says v.0 v.1.0 v.1.1)
      (then_known k a (two_at (read_at l) (read_at m) names ws) (two_at (read_at l) (read_at m) more ws) all.0
      (two_known l m ws all.1)) h
  shape_known (OneOrTwo k one l m two) [] all h = absurd h
  shape_known (OneOrTwo k one l m two) (a ∷ []) all h =
      make_known (read_at k names a) (read_at k more a) one (all.0 k) h
  shape_known (OneOrTwo k one l m two) (a ∷ b ∷ ws) all h =
      make_known (two_at (read_at l) (read_at m) names (a ∷ b ∷ ws)) (two_at (read_at l) (read_at m) more (a ∷ b ∷ ws))
      (λ v. two v.0 v.1) (two_known l m (a ∷ b ∷ ws) all) h
  shape_known (AndNumbers k most says) [] all h = absurd h
  shape_known (AndNumbers k most says) (a ∷ ws) all h =
      make_known (both (read_at k names a) (numbers_at most ws)) (both (read_at k more a) (numbers_at most ws))
      (λ v. says v.0 v.1)
      (then_known k a (numbers_at most ws) (numbers_at most ws) all.0 (numbers_ok most ws)) h

  -- where the words are known, what is said over the names is said over the others
  pub said_known : {T : Type 0} (table : List (Row T)) (first : List ℕ) (ws : List (List ℕ))
      → AllByRecursion (IsKnown names more) ws → IsOkOrName (said_at table names first ws)
      → IsOk (said_at table more first ws)
  said_known [] first ws all h = absurd h
  said_known (row ∷ rows) first ws all h = by (bytes_eq first row.first) (said_known rows first ws all) h
    where
      by : (here : Bool) → (IsOkOrName (said_at rows names first ws) → IsOk (said_at rows more first ws))
          → IsOkOrName (if here then shape_at row.shape names ws else said_at rows names first ws)
          → IsOk (if here then shape_at row.shape more ws else said_at rows more first ws)
      by true rest h = shape_known row.shape ws all h
      by false rest h = rest h

-- tables that have the names which a word can be
pub record HasNames (names more : Names) (w : List ℕ) : Type 0 where
  pub irq : is_identifier w ≡ true → IsOk (irq_at more w)
  pub first_irq : IsOkOrName (first_irq_at names w) → IsOk (first_irq_at more w)
  pub task : is_identifier w ≡ true → IsSome (task_index more w)
  pub free : is_identifier (drop 5 w) ≡ true → IsSome (task_index more (drop 5 w))
  pub shared : is_identifier w ≡ true → IsSome (resource_of more w)

module _ (names more : Names) (w : List ℕ) (has : HasNames names more w) where
  index_known : (text : List ℕ) (old new : Option ℕ) → (is_identifier text ≡ true → IsSome new)
      → IsOkOrName (index_or_wrong text old) → IsOk (index_or_wrong text new)
  index_known text old new some h = by (is_identifier text) new some h
    where
      by : (named : Bool) (new : Option ℕ) → (named ≡ true → IsSome new)
          → IsOkOrName (if named then ok_or old wrong.Name else Err wrong.Form)
          → IsOk (if named then ok_or new wrong.Name else Err wrong.Form)
      by true None some h = let no = some refl in absurd (cc)
      by true (Some n) some h = tt
      by false new some h = absurd h

  irq_known : IsOkOrName (irq_at names w) → IsOk (irq_at more w)
  irq_known h = by (is_identifier w) refl h
    where
      by : (named : Bool) → is_identifier w ≡ named
          → IsOkOrName (if named then ok_or (irq_of names w) wrong.Name else Err wrong.Form) → IsOk (irq_at more w)
      by true e h = has.irq e
      by false e h = absurd h

  task_known : IsOkOrName (task_at names w) → IsOk (task_at more w)
  task_known = index_known w (task_index names w) (task_index more w) has.task

  lock_known : IsOkOrName (lock_at names w) → IsOk (lock_at more w)
  lock_known = make_known names more (index_or_wrong w (resource_of names w)) (index_or_wrong w (resource_of more w))
      section.Res (index_known w (resource_of names w) (resource_of more w) has.shared)

  -- a test chooses alike over both
  choose_known : {A : Type 0} (b : Bool) (r s t u : Result A Wrong) → (IsOkOrName r → IsOk s) → (IsOkOrName t → IsOk u)
      → IsOkOrName (if b then r else t) → IsOk (if b then s else u)
  choose_known true r s t u p q h = p h
  choose_known false r s t u p q h = q h

  queue_known : IsOkOrName (queue_at names w) → IsOk (queue_at more w)
  queue_known =
      choose_known (bytes_eq w (codes "timer.0")) _ _ _ _ (λ h. tt)
      (choose_known (starts_with nat_eq w (codes "free.")) _ _ _ _
      (make_known names more (task_at names (drop 5 w)) (task_at more (drop 5 w)) section.Free
      (index_known (drop 5 w) (task_index names (drop 5 w)) (task_index more (drop 5 w)) has.free))
      (choose_known (starts_with nat_eq w (codes "ready.")) _ _ _ _
      (make_known names more (number_at (2 ^ 8) (drop 6 w)) (number_at (2 ^ 8) (drop 6 w)) section.Ready
      (number_ok (2 ^ 8) (drop 6 w))) (λ h. absurd h)))

  pub word_known : IsKnown names more w
  word_known (Number bound) = number_ok bound w
  word_known IrqName = irq_known
  word_known FirstIrqName = has.first_irq
  word_known TaskName = task_known
  word_known BodyName =
      choose_known (bytes_eq w (codes "init")) _ _ _ _ (λ h. tt)
      (choose_known (bytes_eq w (codes "idle")) _ _ _ _ (λ h. tt)
      (make_known names more (task_at names w) (task_at more w) body.Task task_known))
  word_known LockName = lock_known
  word_known QueueName = queue_known
  word_known SectionName = choose_known (is_identifier w) _ _ _ _ lock_known queue_known

-- tables of names of the form of a name
pub record AreKnown (names : Names) : Type 0 where
  pub irqs : AllByRecursion (λ irq. is_identifier irq.0 ≡ true) names.irqs
  pub tasks : AllByRecursion (λ name. is_identifier name ≡ true) names.tasks
  pub shared : AllByRecursion (λ name. is_identifier name ≡ true) names.shared

name_identifier : (texts : List (List ℕ)) (i : ℕ) → AllByRecursion (λ name. is_identifier name ≡ true) texts
    → i < length texts → is_identifier (slice_index_or texts i []) ≡ true
name_identifier texts i all within = all_at (λ name. is_identifier name ≡ true) texts i (slice_index_or texts i []) all
    (slice_get-get_or texts i [] within)

index_name : (w : List ℕ) (index : Option ℕ) → is_identifier w ≡ true → IsOkOrName (index_or_wrong w index)
index_name w None named = rw named tt
index_name w (Some n) named = rw named tt

get_right : {X : Type 0} (xs ys : List X) (j : ℕ) (x : X) → slice_get ys j ≡ Some x
    → slice_get (xs ++ ys) (length xs + j) ≡ Some x
get_right [] ys j x at = let e : 0 + j ≡ j = omega arith in ap (slice_get ys) e ∙ at
get_right (z ∷ xs) ys j x at = let e : suc (length xs) + j ≡ suc (length xs + j) = omega arith in
    ap (slice_get (z ∷ (xs ++ ys))) e ∙ get_right xs ys j x at

abbrev bare : List ℕ × ℕ → List ℕ
bare irq = irq.0

-- tables that go on where these end, in which no interrupt's name stands twice
module _ (names more : Names) (new : List (List ℕ × ℕ)) (are : AreNames names) (known : AreKnown more)
    (goes_on : more.irqs ≡ names.irqs ++ new) (differ : AreDifferent (map (λ irq. irq.0) more.irqs)) where
  abbrev has_number : ℕ → List ℕ × ℕ → Bool
  has_number irq row = row.1 == irq

  named_more : (irq : ℕ) → irq_named more irq ≡ option_or (irq_named names irq) (find (has_number irq) new)
  named_more irq = ap (find (has_number irq)) goes_on ∙ find-append (has_number irq) names.irqs new

  irq_identifier : (irq : ℕ) → IsDeclared more irq → is_identifier (irq_name more irq) ≡ true
  irq_identifier irq has = by (irq_named more irq) refl has
    where
      by : (row : Option (List ℕ × ℕ)) → irq_named more irq ≡ row → IsSome row
          → is_identifier (unwrap_or (option_map (λ r. r.0) row) []) ≡ true
      by None is some = absurd (cc)
      by (Some row) is some = find_has (λ irq. is_identifier irq.0 ≡ true) (has_number irq) more.irqs row known.irqs is

  -- a name of the further rows stands in no table
  further_unknown : (row : List ℕ × ℕ) (j : ℕ) → slice_get new j ≡ Some row → irq_of names row.0 ≡ None
  further_unknown row j at = by (find (λ irq. bytes_eq row.0 irq.0) names.irqs) refl
    where
      by : (hit : Option (List ℕ × ℕ)) → find (λ irq. bytes_eq row.0 irq.0) names.irqs ≡ hit
          → option_map (λ irq. irq.1) hit ≡ None
      by None e = refl
      by (Some other) e =
          let test : List ℕ × ℕ → Bool = λ irq. bytes_eq row.0 irq.0 in
          let there = found_at test names.irqs other e in
          let same : row.0 ≡ other.0 = (bytes_eq-Decides row.0 other.0).0 (found_passes test names.irqs other e) in
          let all = λ (i : ℕ). ap (λ (irqs : List (List ℕ × ℕ)). slice_get irqs i) goes_on in
          let first : slice_get (map bare more.irqs) there.0 ≡ Some row.0 =
          mapped_at bare more.irqs there.0 other (all there.0 ∙ get_left names.irqs new there.0 other there.1)
          ∙ ap Some (sym same) in
          let second : slice_get (map bare more.irqs) (length names.irqs + j) ≡ Some row.0 =
          mapped_at bare more.irqs (length names.irqs + j) row
          (all (length names.irqs + j) ∙ get_right names.irqs new j row at) in
          let one : there.0 ≡ length names.irqs + j = differ there.0 (length names.irqs + j) row.0 first second in
          let within : there.0 < length names.irqs = slice_get_within names.irqs there.0 other there.1 in
          absurd (omega (arith, one, within))

  first_irq_over : (irq : ℕ) → IsDeclared more irq → IsOkOrName (first_irq_at names (irq_name more irq))
  first_irq_over irq has = by (irq_named names irq) refl
    where
      by : (row : Option (List ℕ × ℕ)) → irq_named names irq ≡ row
          → IsOkOrName (first_irq_at names (irq_name more irq))
      by (Some row) e =
          let there : irq_named more irq ≡ Some row = named_more irq
          ∙ ap (λ (o : Option (List ℕ × ℕ)). option_or o (find (has_number irq) new)) e in
          let same : irq_name names irq ≡ irq_name more irq =
          ap (λ (o : Option (List ℕ × ℕ)). unwrap_or (option_map (λ r. r.0) o) []) (e ∙ sym there) in
          let declared : IsDeclared names irq = subst IsSome (sym e) refl in
          subst (λ (w : List ℕ). IsOkOrName (first_irq_at names w)) same
          (subst IsOkOrName (sym (first_irq_read names are irq declared)) tt)
      by None e =
          let there : irq_named more irq ≡ find (has_number irq) new =
          named_more irq ∙ ap (λ (o : Option (List ℕ × ℕ)). option_or o (find (has_number irq) new)) e in
          further (find (has_number irq) new) refl there (subst IsSome there has)
        where
          further : (hit : Option (List ℕ × ℕ)) → find (has_number irq) new ≡ hit
              → irq_named more irq ≡ find (has_number irq) new → IsSome hit
              → IsOkOrName (first_irq_at names (irq_name more irq))
          further None f there some = absurd (cc)
          further (Some row) f there some =
              let at = found_at (has_number irq) new row f in
              let word : irq_name more irq ≡ row.0 =
              ap (λ (o : Option (List ℕ × ℕ)). unwrap_or (option_map (λ r. r.0) o) []) (there ∙ f) in
              let named : is_identifier row.0 ≡ true = ap is_identifier (sym word) ∙ irq_identifier irq has in
              subst (λ (w : List ℕ). IsOkOrName (first_irq_at names w)) (sym word)
              (subst IsOkOrName (sym (unknown_read row.0 named (further_unknown row at.0 at.1))) tt)
            where
              unknown_read : (w : List ℕ) → is_identifier w ≡ true → irq_of names w ≡ None
                  → first_irq_at names w ≡ Err wrong.Name
              unknown_read w named unknown = rw (named, unknown) refl

  task_over : (t : ℕ) → t < length more.tasks → IsOkOrName (task_at names (task_name more t))
  task_over t has = index_name (task_name more t) (task_index names (task_name more t))
      (name_identifier more.tasks t known.tasks has)

  choose_name : {A : Type 0} (b : Bool) (r s : Result A Wrong) → IsOkOrName r → IsOkOrName s
      → IsOkOrName (if b then r else s)
  choose_name true r s p q = p
  choose_name false r s p q = q

  lock_over : (r : ℕ) → r < length more.shared → IsOkOrName (lock_at names (resource_name more r))
  lock_over r has = made_name _ section.Res
      (index_name (resource_name more r) (resource_of names (resource_name more r))
      (name_identifier more.shared r known.shared has))

  queue_over : (x : Section) → IsQueue more x → IsOkOrName (queue_at names (section_name more x))
  queue_over (section.Res r) has = absurd has
  queue_over (section.Free t) has = made_name (task_at names (task_name more t)) section.Free (task_over t has)
  queue_over (section.Ready p) has =
      made_name (number_at (2 ^ 8) (decimal p)) section.Ready
      (subst IsOkOrName (sym (number_read (2 ^ 8) p has (omega arith))) tt)
  queue_over section.Timer has = tt

  section_over : (x : Section) → IsSection more x → IsOkOrName (section_at names (section_name more x))
  section_over (section.Res r) has =
      let name = resource_name more r in
      choose_known_true (is_identifier name) (lock_at names name) (queue_at names name)
      (name_identifier more.shared r known.shared has) (lock_over r has)
    where
      choose_known_true : (b : Bool) (r s : Result Section Wrong) → b ≡ true → IsOkOrName r
          → IsOkOrName (if b then r else s)
      choose_known_true b r s is h = rw is h
  section_over queue has = queue_over queue has

  -- the word of a value that the further tables have is read, or names something unknown
  pub value_over : (own : Bool) (k : OperandKind) (v : OperandValue k) → is_plain own k ≡ true → HasWord more k v
      → IsOkOrName (read_at k names (word more k v))
  value_over own (Number bound) n plain has =
      subst IsOkOrName (sym (number_read bound n has (leb-true bound (2 ^ 32) plain))) tt
  value_over own IrqName irq plain has =
      index_name (irq_name more irq) (irq_of names (irq_name more irq)) (irq_identifier irq has)
  value_over own FirstIrqName irq plain has = first_irq_over irq has
  value_over own TaskName t plain has = task_over t has
  value_over own BodyName body.Init plain has = tt
  value_over own BodyName body.Idle plain has = tt
  value_over own BodyName (body.Task t) plain has =
      choose_name (bytes_eq (task_name more t) (codes "init")) _ _ tt
      (choose_name (bytes_eq (task_name more t) (codes "idle")) _ _ tt
      (made_name (task_at names (task_name more t)) body.Task (task_over t has)))
  value_over own LockName (section.Res r) plain has = lock_over r has
  value_over own LockName queue plain has = absurd has
  value_over own QueueName x plain has = queue_over x has
  value_over own SectionName x plain has = section_over x has

  -- so are the words of what is said by operands that they have
  abbrev AreOver : List Operand → Type 0
  AreOver os = AllByRecursion (λ o. IsOkOrName (read_at o.0 names (operand_word more o))) os

  operands_over : (own : Bool) (os : List Operand) → AllByRecursion (IsPlain own) os
      → AllByRecursion (IsWritten more) os → AreOver os
  operands_over own [] plain all = tt
  operands_over own (o ∷ os) plain all =
      (value_over own o.0 o.1 plain.0 all.0, operands_over own os plain.1 all.1)

  numbers_over : (most : ℕ) (ns : List ℕ) → length ns ≤ most → AreOver (map (λ n. (Number32, n)) ns)
      → IsOkOrName (numbers_at most (map (operand_word more) (map (λ n. (Number32, n)) ns)))
  numbers_over most [] few all = tt
  numbers_over zero (n ∷ ns) few all = absurd (omega (arith, few))
  numbers_over (suc most) (n ∷ ns) few all =
      let words = map (operand_word more) (map (λ n. (Number32, n)) ns) in
      by (number_at (2 ^ 32) (decimal n)) (numbers_at most words) all.0
      (numbers_over most ns (omega (arith, few)) all.1)
    where
      by : (r : Result ℕ Wrong) (s : Result (List ℕ) Wrong) → IsOkOrName r → IsOkOrName s
          → IsOkOrName (and_then r (λ n. and_make s (λ ns. n ∷ ns)))
      by (Ok n) s p q = made_name s (λ ns. n ∷ ns) q
      by (Err wrong.Name) s p q = tt
      by (Err wrong.Form) s p q = absurd p

  shape_over : {T : Type 0} (shape : Shape T)
      → EachSaid (λ x os. AreOver os → IsOkOrName (shape_at shape names (map (operand_word more) os))) shape
  shape_over (Alone x) = λ all. tt
  shape_over (One k says) = λ v all. made_name (read_at k names (word more k v)) says all.0
  shape_over (Two k l says) = λ v w all.
      made_name (both (read_at k names (word more k v)) (read_at l names (word more l w))) (λ p. says p.0 p.1)
      (both_name _ _ all.0 all.1.0)
  shape_over (Three k l m says) = λ v w u all.
      made_name (both (read_at k names (word more k v)) (both (read_at l names (word more l w))
      (read_at m names (word more m u)))) (λ p. says p.0 p.1.0 p.1.1)
      (both_name _ _ all.0 (both_name _ _ all.1.0 all.1.1.0))
  shape_over (OneOrTwo k one l m two) = (
    (λ v all. made_name (read_at k names (word more k v)) one all.0),
    (λ v w all. made_name (both (read_at l names (word more l v)) (read_at m names (word more m w))) (λ p. two p.0 p.1)
        (both_name _ _ all.0 all.1.0)),
  )
  shape_over (AndNumbers k most says) = λ v ns few all.
      made_name (both (read_at k names (word more k v)) (numbers_at most _)) (λ p. says p.0 p.1)
      (both_name _ _ all.0 (numbers_over most ns few all.1))

  -- what is written over the further tables is said over these, or a name is unknown
  pub said_over : {T : Type 0} (own : Bool) (table : List (Row T)) (first : T → List ℕ) (operands : T → List Operand)
      (CanBeSaid : T → Type 0) → Agree own table first operands CanBeSaid → (x : T) → CanBeSaid x
      → AllByRecursion (IsWritten more) (operands x)
      → IsOkOrName (said_at table names (first x) (map (operand_word more) (operands x)))
  said_over own table first operands CanBeSaid agree x can written =
      let each = agree.each x can in
      let over = operands_over own (operands x)
      (operands_plain own table first operands CanBeSaid agree x can) written in
      subst IsOkOrName (sym (said_by (first x) each.0 table each.1 names (map (operand_word more) (operands x))))
      (said_each (λ x os. AreOver os → IsOkOrName (shape_at each.0 names (map (operand_word more) os))) each.0
      (shape_over each.0) x (operands x) each.2 over)
