-- The texts of options are read as them.
use Rattle.std.proofs.Common.{◌≡◌, ℕ, ◌<◌, Bool, true, false, not, ◌&&◌, List, [], ◌∷◌, ◌++◌, map, length, Option, Some}
use Rattle.std.proofs.Common.{None, is_none, refl, ap, arith, append_assoc, inl, inr}
use Rattle.std.specs.Prelude.{◌⊎◌, codes, decimal, option_map}
use Rattle.std.specs.List.{AllByRecursion}
use Rattle.rt_ids.specs.declared.limit.Limit.TheVariants as limit
use Rattle.rt_ids.specs.declared.limits.TheConstants.{CAPACITY}
use Rattle.rt_ast.specs.declared.ident.Ident.{Ident}
use Rattle.rt_ast.specs.declared.ident.Number.{Number}
use Rattle.rt_ast.specs.declared.app.ListedTree.{ListedTree}
use Rattle.rt_ast.specs.Bare.{bare_name, bare_number, bare_listed}
use Rattle.rt_ast.specs.CanonicalExpression.{separated_list, name_text}
use Rattle.rt_ast.specs.CanonicalOptions.{bracketed_list, by_ref_text, listed_text, binds_option_text}
use Rattle.rt_ast.specs.CanonicalOptions.{priority_option_text, capacity_option_text, shared_option_text}
use Rattle.rt_ast.specs.CanonicalOptions.{local_option_text, options_text}
use Rattle.rt_ast.specs.PrintableBody.{IsPrintableName}
use Rattle.rt_ast.specs.Printable.{IfThere, ArePrintableNames, IsPrintableListed, IsPrintablePriority}
use Rattle.rt_ast.specs.Printable.{IsPrintableCapacity}
use Rattle.rt_lex.specs.declared.token.Kind.TheVariants as kind
use Rattle.rt_grammar.specs.Language.{Language, gives, ◌>>◌}
use Rattle.rt_grammar.specs.Tokens.{free, name, number, limited_number, sign, word, list, adds, names}
use Rattle.rt_grammar.specs.Options as grammar
use Rattle.rt_grammar.specs.Limits.{within}
use Rattle.rt_grammar.specs.Options.{Options, no_options, Owner, OfTask, is_task, is_init, listed_resource, option}
use Rattle.rt_grammar.specs.Options.{options}
use Rattle.rt_print.proofs.Reading.{Reads, Any, read_gives, read_then, read_left, read_right, read_space, read_same}
use Rattle.rt_print.proofs.Reading.{read_only_if}
use Rattle.rt_print.proofs.Lexemes.{IsFront, IsNamed, IsNumber, read_name, read_number, read_word, read_sign}
use Rattle.rt_print.proofs.Lists.{IsEnd, Items, comma_ends, list_reads, list_step, list_last}
use Rattle.rt_print.proofs.Spawns.{closing_ends}
use Rattle.rt_print.proofs.Declared.{within_free, AreNames, bracket_ends, names_read}

-- a list, where it is not empty
abbrev pub listed_once : {A : Type 0} → (A → A) → List A → Option (List A)
listed_once view [] = None
listed_once view (x ∷ xs) = Some (map view (x ∷ xs))

-- these options were read, and no others
pub record AreRead (b : Option Ident) (p : Option Number) (c : Option ℕ) (s : List ListedTree) (l : List Ident)
    (o : Options) : Type 0 where
  pub binds : option_map bare_name o.binds ≡ option_map bare_name b
  pub priority : option_map bare_number o.priority ≡ option_map bare_number p
  pub capacity : o.capacity ≡ c
  pub shared : option_map (map bare_listed) o.shared ≡ listed_once bare_listed s
  pub local : option_map (map bare_name) o.local ≡ listed_once bare_name l

none_is : {A B : Type 0} (f : A → B) (x : Option A) → option_map f x ≡ None → is_none x ≡ true
none_is f None e = refl
none_is f (Some x) e = absurd cc

-- what is left of the options between parentheses, of which the first comes next
abbrev pub Left : Owner → (Options → Type 0) → List ℕ → List (List ℕ) → Options → Type 0
Left owner Q Y [] o = Q o
Left owner Q Y (x ∷ xs) o = Reads (list (codes ")") (option owner) o) Q
    (separated_list (λ text. text) (x ∷ xs) ++ 41 ∷ Y) Y

one_option : (owner : Owner) (P Q : Options → Type 0) (o : Options) (x Y : List ℕ) (xs : List (List ℕ))
    → ((Z : List ℕ) → IsEnd Z → Reads (option owner o) P (x ++ Z) Z) → ((t : Options) → P t → Left owner Q Y xs t)
    → Left owner Q Y (x ∷ xs) o
one_option owner P Q o x Y [] h k =
    read_same (list (codes ")") (option owner) o) Q (x ++ 41 ∷ Y) _ Y (append_assoc x [] (41 ∷ Y))
    (list_last (codes ")") (option owner) P Q o (x ++ 41 ∷ Y) (41 ∷ Y) Y (h (41 ∷ Y) (closing_ends Y)) k
    (read_sign (codes ")") free Y refl refl))
one_option owner P Q o x Y (y ∷ xs) h k =
    let Z = separated_list (λ text. text) (y ∷ xs) ++ 41 ∷ Y in
    read_same (list (codes ")") (option owner) o) Q (x ++ 44 ∷ 32 ∷ Z) _ Y
    (append_assoc x (44 ∷ 32 ∷ separated_list (λ text. text) (y ∷ xs)) (41 ∷ Y))
    (list_step (codes ")") (option owner) P Q o (x ++ 44 ∷ 32 ∷ Z) Z Y (h (44 ∷ 32 ∷ Z) (comma_ends (32 ∷ Z))) k)

-- options in parentheses, where there are any
pub options_reads : (owner : Owner) (Q : Options → Type 0) (os : List (List ℕ)) (Y : List ℕ)
    → Left owner Q Y os no_options → Reads (options owner) Q (options_text os ++ Y) Y
options_reads owner Q [] Y h = read_left (gives no_options) _ Q Y Y (read_gives Q no_options Y h)
options_reads owner Q (x ∷ xs) Y h =
    let S = separated_list (λ text. text) (x ∷ xs) in
    read_same (options owner) Q (40 ∷ (S ++ 41 ∷ Y)) _ Y (ap (λ (t : List ℕ). 40 ∷ t) (append_assoc S (codes ")") Y))
    (read_right (gives no_options) _ Q (40 ∷ (S ++ 41 ∷ Y)) Y
    (read_then (sign (codes "(")) (λ c. list (codes ")") (option owner) no_options) Any Q (40 ∷ (S ++ 41 ∷ Y))
    (S ++ 41 ∷ Y) Y (read_sign (codes "(") free (S ++ 41 ∷ Y) refl refl) (λ c u. h)))

-- an option's word and the sign after it
read_word_is : {A : Type 0} (w : List ℕ) (L : Language A) (P : A → Type 0) (Z Y : List ℕ)
    → IsFront w kind.Word (codes " = " ++ Z) → Reads L P Z Y
    → Reads (word w >> (sign (codes "=") >> L)) P (w ++ (codes " = " ++ Z)) Y
read_word_is w L P Z Y front h =
    read_then (word w) (λ c. sign (codes "=") >> L) Any P (w ++ (codes " = " ++ Z)) (codes " = " ++ Z) Y
    (read_word w free (codes " = " ++ Z) refl front) (λ c u.
    read_space (sign (codes "=") >> L) P (codes "= " ++ Z) Y
    (read_then (sign (codes "=")) (λ d. L) Any P (codes "= " ++ Z) (32 ∷ Z) Y
    (read_sign (codes "=") free (32 ∷ Z) refl refl) (λ d v. read_space L P Z Y h)))

binds_read : (owner : Owner) (x : Ident) (o : Options) (Z : List ℕ) → is_task owner ≡ true → IsPrintableName x
    → AreRead None None None [] [] o → IsEnd Z
    → Reads (option owner o) (AreRead (Some x) None None [] []) ((codes "binds = " ++ name_text x) ++ Z) Z
binds_read owner x o Z t h a ends =
    let P = AreRead (Some x) None None [] [] in
    let test : (is_task owner && is_none o.binds) ≡ true = rw (t, none_is bare_name o.binds a.binds) refl in
    read_left (grammar.binds_option owner o) _ P _ Z
    (read_only_if (is_task owner && is_none o.binds) _ P _ Z test
    (read_word_is (codes "binds") _ P (x.name ++ Z) Z refl
    (read_then name _ (IsNamed x) P (x.name ++ Z) Z Z (read_name x free Z h refl ends.stops) (λ y e.
    read_gives P (record o { binds = Some y }) Z
    (record {
      binds = rw e refl;
      priority = a.priority;
      capacity = a.capacity;
      shared = a.shared;
      local =
          a.local;
    })))))

priority_read : (owner : Owner) (b : Option Ident) (n : Number) (o : Options) (Z : List ℕ) → is_task owner ≡ true
    → IsPrintablePriority n → AreRead b None None [] [] o → IsEnd Z
    → Reads (option owner o) (AreRead b (Some n) None [] []) ((codes "priority = " ++ decimal n.value) ++ Z) Z
priority_read owner b n o Z t h a ends =
    let P = AreRead b (Some n) None [] [] in
    let test : (is_task owner && is_none o.priority) ≡ true = rw (t, none_is bare_number o.priority a.priority) refl in
    read_right (grammar.binds_option owner o) _ P _ Z (read_left (grammar.priority_option owner o) _ P _ Z
    (read_only_if (is_task owner && is_none o.priority) _ P _ Z test
    (read_word_is (codes "priority") _ P (decimal n.value ++ Z) Z refl
    (read_then number _ (IsNumber n.value) P (decimal n.value ++ Z) Z Z
    (read_number n.value (λ v. free) Z h refl ends.stops) (λ m e.
    read_gives P (record o { priority = Some m }) Z
    (record {
      binds = a.binds;
      priority = rw e refl;
      capacity = a.capacity;
      shared = a.shared;
      local =
          a.local;
    }))))))

capacity_read : (owner : Owner) (b : Option Ident) (p : Option Number) (n : ℕ) (o : Options) (Z : List ℕ)
    → is_task owner ≡ true → IsPrintableCapacity n → AreRead b p None [] [] o → IsEnd Z
    → Reads (option owner o) (AreRead b p (Some n) [] []) ((codes "capacity = " ++ decimal n) ++ Z) Z
capacity_read owner b p n o Z t h a ends =
    let P = AreRead b p (Some n) [] [] in
    let test : (is_task owner && is_none o.capacity) ≡ true = rw (t, ap is_none a.capacity) refl in
    read_right (grammar.binds_option owner o) _ P _ Z (read_right (grammar.priority_option owner o) _ P _ Z
    (read_left (grammar.capacity_option owner o) _ P _ Z
    (read_only_if (is_task owner && is_none o.capacity) _ P _ Z test
    (read_word_is (codes "capacity") _ P (decimal n ++ Z) Z refl
    (read_then (limited_number (within 1 CAPACITY limit.Capacity)) _ (IsNumber n) P (decimal n ++ Z) Z Z
    (read_number n (within 1 CAPACITY limit.Capacity) Z (omega (arith, h.1))
    (within_free 1 CAPACITY limit.Capacity n h.0 h.1) ends.stops) (λ m e.
    read_gives P (record o { capacity = Some m.value }) Z
    (record {
      binds = a.binds;
      priority = a.priority;
      capacity = ap Some e;
      shared = a.shared;
      local =
          a.local;
    })))))))

abbrev IsListed : ListedTree → ListedTree → Type 0
IsListed r x = bare_listed x ≡ bare_listed r

listed_reads_by : (r : ListedTree) (here : Bool) (Y : List ℕ) → r.by_ref ≡ here → IsPrintableListed r → IsEnd Y
    → Reads listed_resource (IsListed r) ((by_ref_text here ++ name_text r.name) ++ Y) Y
listed_reads_by r true Y k h ends =
    let P = IsListed r in
    let N = r.name.name ++ Y in
    read_left _ _ P (38 ∷ N) Y
    (read_then (sign (codes "&")) _ Any P (38 ∷ N) N Y (read_sign (codes "&") free N refl refl) (λ at u.
    read_then name _ (IsNamed r.name) P N Y Y (read_name r.name free Y h refl ends.stops) (λ x e.
    read_gives P (record { name = x; by_ref = true; at = at }) Y (rw (e, k) refl))))
listed_reads_by r false Y k h ends =
    let P = IsListed r in
    let N = r.name.name ++ Y in
    read_right _ _ P N Y
    (read_then name _ (IsNamed r.name) P N Y Y (read_name r.name free Y h refl ends.stops) (λ x e.
    read_gives P (record { name = x; by_ref = false; at = x.at }) Y (rw (e, k) refl)))

listed_reads : (r : ListedTree) (before most : ℕ) (Y : List ℕ) → IsPrintableListed r → before < most → IsEnd Y
    → Reads listed_resource (IsListed r) (listed_text r ++ Y) Y
listed_reads r before most Y h few ends = listed_reads_by r r.by_ref Y refl h ends

shared_read : (owner : Owner) (b : Option Ident) (p : Option Number) (c : Option ℕ) (r : ListedTree)
    (rs : List ListedTree) (o : Options) (Z : List ℕ) → is_init owner ≡ false
    → AllByRecursion IsPrintableListed (r ∷ rs) → AreRead b p c [] [] o → IsEnd Z
    → Reads (option owner o) (AreRead b p c (r ∷ rs) []) ((codes "shared = " ++ bracketed_list listed_text (r ∷ rs))
    ++ Z) Z
shared_read owner b p c r rs o Z t h a ends =
    let P = AreRead b p c (r ∷ rs) [] in
    let S = separated_list listed_text (r ∷ rs) in
    let B = S ++ 93 ∷ Z in
    let All : List ListedTree → Type 0 = λ all. map bare_listed all ≡ map bare_listed (r ∷ rs) in
    let test : (not (is_init owner) && is_none o.shared) ≡ true = rw (t, none_is (map bare_listed) o.shared a.shared)
    refl in
    let items : Items (λ before. listed_resource) listed_text bare_listed IsPrintableListed (length (r ∷ rs)) =
    record { read = λ x before Y g few e. listed_reads x before (length (r ∷ rs)) Y g few e } in
    read_right (grammar.binds_option owner o) _ P _ Z (read_right (grammar.priority_option owner o) _ P _ Z
    (read_right (grammar.capacity_option owner o) _ P _ Z (read_left (grammar.shared_option owner o) _ P _ Z
    (read_only_if (not (is_init owner) && is_none o.shared) _ P _ Z test
    (read_same _ P (codes "shared = " ++ 91 ∷ B) _ Z (ap (λ (u : List ℕ). codes "shared = " ++ 91 ∷ u)
    (append_assoc S (codes "]") Z))
    (read_word_is (codes "shared") _ P (91 ∷ B) Z refl
    (read_then (sign (codes "[")) _ Any P (91 ∷ B) B Z (read_sign (codes "[") free B refl refl) (λ d u.
    read_then (list (codes "]") (adds (λ before. listed_resource)) []) _ All P B Z Z
    (list_reads (codes "]") (λ before. listed_resource) listed_text bare_listed IsPrintableListed (length (r ∷ rs))
    (r ∷ rs) (93 ∷ Z) Z items h (omega arith) (bracket_ends Z) (read_sign (codes "]") free Z refl refl)) (λ xs e.
    read_gives P (record o { shared = Some xs }) Z
    (record {
      binds = a.binds;
      priority = a.priority;
      capacity = a.capacity;
      shared = ap Some e;
      local =
          a.local;
    }))))))))))

local_read : (owner : Owner) (b : Option Ident) (p : Option Number) (c : Option ℕ) (s : List ListedTree) (x : Ident)
    (xs : List Ident) (o : Options) (Z : List ℕ)
    → ArePrintableNames (x ∷ xs) → AreRead b p c s [] o → IsEnd Z → Reads (option owner o) (AreRead b p c s (x ∷ xs))
    ((codes "local = " ++ bracketed_list name_text (x ∷ xs)) ++ Z) Z
local_read owner b p c s x xs o Z h a ends =
    let P = AreRead b p c s (x ∷ xs) in
    let B = bracketed_list name_text (x ∷ xs) ++ Z in
    let test : is_none o.local ≡ true = none_is (map bare_name) o.local a.local in
    read_right (grammar.binds_option owner o) _ P _ Z (read_right (grammar.priority_option owner o) _ P _ Z
    (read_right (grammar.capacity_option owner o) _ P _ Z (read_right (grammar.shared_option owner o) _ P _ Z
    (read_only_if (is_none o.local) _ P _ Z test
    (read_word_is (codes "local") _ P B Z refl
    (read_then names _ (AreNames (x ∷ xs)) P B Z Z (names_read (x ∷ xs) Z h) (λ all e.
    read_gives P (record o { local = Some all }) Z
    (record {
      binds = a.binds;
      priority = a.priority;
      capacity = a.capacity;
      shared = a.shared;
      local =
          ap Some e;
    }))))))))

-- the options from `local` on, from `shared` on, and so on
local_left : (owner : Owner) (b : Option Ident) (p : Option Number) (c : Option ℕ) (s : List ListedTree)
    (l : List Ident) (o : Options) (Y : List ℕ) → ArePrintableNames l → AreRead b p c s [] o
    → Left owner (AreRead b p c s l) Y (local_option_text l) o
local_left owner b p c s [] o Y h a = a
local_left owner b p c s (x ∷ xs) o Y h a =
    let Q = AreRead b p c s (x ∷ xs) in
    one_option owner Q Q o (codes "local = " ++ bracketed_list name_text (x ∷ xs)) Y []
    (λ Z ends. local_read owner b p c s x xs o Z h a ends) (λ t q. q)

pub shared_left : (owner : Owner) (b : Option Ident) (p : Option Number) (c : Option ℕ) (s : List ListedTree)
    (l : List Ident) (o : Options) (Y : List ℕ) → (is_init owner ≡ false) ⊎ (s ≡ [])
    → AllByRecursion IsPrintableListed s → ArePrintableNames l → AreRead b p c [] [] o
    → Left owner (AreRead b p c s l) Y (shared_option_text s ++ local_option_text l) o
shared_left owner b p c [] l o Y t g h a = local_left owner b p c [] l o Y h a
shared_left owner b p c (r ∷ rs) l o Y (inr t) g h a = absurd cc
shared_left owner b p c (r ∷ rs) l o Y (inl t) g h a =
    one_option owner (AreRead b p c (r ∷ rs) []) (AreRead b p c (r ∷ rs) l) o
    (codes "shared = " ++ bracketed_list listed_text (r ∷ rs)) Y (local_option_text l)
    (λ Z ends. shared_read owner b p c r rs o Z t g a ends) (λ u q. local_left owner b p c (r ∷ rs) l u Y h q)

-- the options of a task
pub record TaskOptions (b : Option Ident) (p : Option Number) (c : Option ℕ) (s : List ListedTree)
    (l : List Ident) : Type 0 where
  pub binds : IfThere IsPrintableName b
  pub priority : IfThere IsPrintablePriority p
  pub capacity : IfThere IsPrintableCapacity c
  pub shared : AllByRecursion IsPrintableListed s
  pub local : ArePrintableNames l

capacity_left : (b : Option Ident) (p : Option Number) (c : Option ℕ) (s : List ListedTree) (l : List Ident)
    (o : Options) (Y : List ℕ) → TaskOptions b p c s l → AreRead b p None [] [] o
    → Left OfTask (AreRead b p c s l) Y (capacity_option_text c ++ (shared_option_text s ++ local_option_text l)) o
capacity_left b p None s l o Y h a = shared_left OfTask b p None s l o Y (inl refl) h.shared h.local a
capacity_left b p (Some n) s l o Y h a =
    one_option OfTask (AreRead b p (Some n) [] []) (AreRead b p (Some n) s l) o (codes "capacity = " ++ decimal n) Y
    (shared_option_text s ++ local_option_text l)
    (λ Z ends. capacity_read OfTask b p n o Z refl h.capacity a ends)
    (λ u q. shared_left OfTask b p (Some n) s l u Y (inl refl) h.shared h.local q)

priority_left : (b : Option Ident) (p : Option Number) (c : Option ℕ) (s : List ListedTree) (l : List Ident)
    (o : Options) (Y : List ℕ) → TaskOptions b p c s l → AreRead b None None [] [] o
    → Left OfTask (AreRead b p c s l) Y ((priority_option_text p ++ capacity_option_text c)
    ++ (shared_option_text s ++ local_option_text l)) o
priority_left b None c s l o Y h a = capacity_left b None c s l o Y h a
priority_left b (Some n) c s l o Y h a =
    one_option OfTask (AreRead b (Some n) None [] []) (AreRead b (Some n) c s l) o
    (codes "priority = " ++ decimal n.value) Y (capacity_option_text c ++ (shared_option_text s ++ local_option_text l))
    (λ Z ends. priority_read OfTask b n o Z refl h.priority a ends) (λ u q. capacity_left b (Some n) c s l u Y h q)

pub binds_left : (b : Option Ident) (p : Option Number) (c : Option ℕ) (s : List ListedTree) (l : List Ident)
    (o : Options) (Y : List ℕ) → TaskOptions b p c s l → AreRead None None None [] [] o
    → Left OfTask (AreRead b p c s l) Y (((binds_option_text b ++ priority_option_text p) ++ capacity_option_text c)
    ++ (shared_option_text s ++ local_option_text l)) o
binds_left None p c s l o Y h a = priority_left None p c s l o Y h a
binds_left (Some x) p c s l o Y h a =
    one_option OfTask (AreRead (Some x) None None [] []) (AreRead (Some x) p c s l) o (codes "binds = " ++ name_text x)
    Y ((priority_option_text p ++ capacity_option_text c) ++ (shared_option_text s ++ local_option_text l))
    (λ Z ends. binds_read OfTask x o Z refl h.binds a ends) (λ u q. priority_left (Some x) p c s l u Y h q)

pub none_read : AreRead None None None [] [] no_options
none_read = record { binds = refl; priority = refl; capacity = refl; shared = refl; local = refl }
