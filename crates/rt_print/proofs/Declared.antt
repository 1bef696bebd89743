-- The texts of an application's first declarations are read as them: the head, interrupts, the monotonic and resources.
use Rattle.std.proofs.Common.{◌≡◌, ℕ, ◌<◌, ◌≤◌, Bool, true, false, List, [], ◌∷◌, ◌++◌, map, length, None, refl, ap}
use Rattle.std.proofs.Common.{arith, append_assoc}
use Rattle.std.specs.Prelude.{codes, decimal}
use Rattle.std.specs.List.{AllByRecursion}
use Rattle.std.proofs.lemmas.Bool.{le-leb, lt-leb}
use Rattle.rt_ids.specs.declared.limit.Limit.{Limit}
use Rattle.rt_ids.specs.declared.limit.Limit.TheVariants as limit
use Rattle.rt_ids.specs.declared.limits.TheConstants.{LEAST_BITS, MOST_BITS}
use Rattle.rt_ast.specs.declared.ident.Ident.{Ident}
use Rattle.rt_ast.specs.Tree.{App}
use Rattle.rt_ast.specs.Bare.{bare_name}
use Rattle.rt_ast.specs.CanonicalExpression.{separated_list, name_text}
use Rattle.rt_ast.specs.CanonicalOptions.{bracketed_list}
use Rattle.rt_ast.specs.Canonical.{braced_list, dispatchers_text, fpu_text, head_text}
use Rattle.rt_ast.specs.PrintableBody.{IsPrintableName}
use Rattle.rt_ast.specs.Printable.{ArePrintableNames}
use Rattle.rt_grammar.specs.Language.{Language, gives, ◌>>◌}
use Rattle.rt_grammar.specs.Tokens.{free, name, this_name, limited_number, sign, word, list, adds, names}
use Rattle.rt_grammar.specs.Limits.{within, at_most}
use Rattle.rt_grammar.specs.Declaration.{dispatchers, fpu, Head, head}
use Rattle.rt_print.proofs.Reading.{Reads, Any, read_gives, read_then, read_holds, read_left, read_right, read_space}
use Rattle.rt_print.proofs.Reading.{read_trail, read_same}
use Rattle.rt_print.proofs.Lexemes.{Stops, IsNamed, IsNumber, read_name, read_this_name, read_number, read_word}
use Rattle.rt_print.proofs.Lexemes.{read_sign}
use Rattle.rt_print.proofs.Expressions.{Plain}
use Rattle.rt_print.proofs.Lists.{IsEnd, Items, list_reads}

pub same_name : (x y : Ident) → IsNamed x y → bare_name y ≡ bare_name x
same_name x y e = rw e refl

pub at_most_free : (most : ℕ) (what : Limit) (before : ℕ) → before < most → at_most most what before ≡ None
at_most_free most what before h = rw (lt-leb most before h) refl

pub within_free : (least greatest : ℕ) (what : Limit) (n : ℕ) → least ≤ n → n ≤ greatest → within least greatest what n
    ≡ None
within_free least greatest what n h k = rw (le-leb least n h, le-leb n greatest k) refl

-- a list of these
abbrev pub AreNames : List Ident → List Ident → Type 0
AreNames xs all = map bare_name all ≡ map bare_name xs

plain_bracket : (Y : List ℕ) → Plain (93 ∷ Y)
plain_bracket Y at true = refl
plain_bracket Y at false = refl

plain_brace : (Y : List ℕ) → Plain (32 ∷ 125 ∷ Y)
plain_brace Y at true = refl
plain_brace Y at false = refl

pub bracket_ends : (Y : List ℕ) → IsEnd (93 ∷ Y)
bracket_ends Y = record { stops = refl; plain = plain_bracket Y }

name_items : (most : ℕ) → Items (λ before. name) name_text bare_name IsPrintableName most
name_items most = record {
  read = λ x before Y h fits ends. read_holds name (IsNamed x) (λ y. bare_name y ≡ bare_name x)
      (x.name ++ Y) Y (same_name x) (read_name x free Y h refl ends.stops);
}

-- a list in brackets
pub bracketed_reads : {A : Type 0} (item : ℕ → Language A) (text : A → List ℕ) (view : A → A) (Good : A → Type 0)
    (xs : List A) (Y : List ℕ) → Items item text view Good (length xs) → AllByRecursion Good xs
    → Reads (sign (codes "[") >> list (codes "]") (adds item) []) (λ all. map view all ≡ map view xs)
    (bracketed_list text xs ++ Y) Y
bracketed_reads item text view Good xs Y items g =
    let P : List _ → Type 0 = λ all. map view all ≡ map view xs in
    let X = separated_list text xs ++ 93 ∷ Y in
    read_same _ P (91 ∷ X) _ Y (ap (λ (t : List ℕ). 91 ∷ t) (append_assoc (separated_list text xs) (codes "]") Y))
    (read_then (sign (codes "[")) (λ c. list (codes "]") (adds item) []) Any P (91 ∷ X) X Y
    (read_sign (codes "[") free X refl refl) (λ c u.
    list_reads (codes "]") item text view Good (length xs) xs (93 ∷ Y) Y items g (omega arith) (bracket_ends Y)
    (read_sign (codes "]") free Y refl refl)))

pub names_read : (xs : List Ident) (Y : List ℕ) → ArePrintableNames xs
    → Reads names (AreNames xs) (bracketed_list name_text xs ++ Y) Y
names_read xs Y h = bracketed_reads (λ before. name) name_text bare_name IsPrintableName xs Y (name_items (length xs)) h

-- a list in braces
pub enclosed_reads : {A : Type 0} (item : ℕ → Language A) (text : A → List ℕ) (view : A → A) (Good : A → Type 0)
    (most : ℕ) (xs : List A) (Y : List ℕ) → Items item text view Good most → AllByRecursion Good xs
    → length xs ≤ most → Reads (sign (codes "{") >> list (codes "}") (adds item) []) (λ all. map view all ≡ map view xs)
    (braced_list text xs ++ Y) Y
enclosed_reads item text view Good most [] Y items g few =
    let P : List _ → Type 0 = λ all. map view all ≡ [] in
    let k = read_sign (codes "}") free Y refl refl in
    read_then (sign (codes "{")) (λ c. list (codes "}") (adds item) []) Any P (123 ∷ 125 ∷ Y) (125 ∷ Y) Y
    (read_sign (codes "{") free (125 ∷ Y) refl refl) (λ c u.
    list_reads (codes "}") item text view Good most [] (125 ∷ Y) Y items g few
    (record { stops = refl; plain = plain_close Y }) k)
  where
    plain_close : (Y : List ℕ) → Plain (125 ∷ Y)
    plain_close Y at true = refl
    plain_close Y at false = refl
enclosed_reads item text view Good most (x ∷ xs) Y items g few =
    let P : List _ → Type 0 = λ all. map view all ≡ map view (x ∷ xs) in
    let T = 32 ∷ 125 ∷ Y in
    let X = separated_list text (x ∷ xs) ++ T in
    read_same _ P (123 ∷ 32 ∷ X) _ Y (ap (λ (t : List ℕ). 123 ∷ 32 ∷ t)
    (append_assoc (separated_list text (x ∷ xs)) (codes " }") Y))
    (read_then (sign (codes "{")) (λ c. list (codes "}") (adds item) []) Any P (123 ∷ 32 ∷ X) (32 ∷ X) Y
    (read_sign (codes "{") free (32 ∷ X) refl refl) (λ c u.
    read_space (list (codes "}") (adds item) []) P X Y
    (list_reads (codes "}") item text view Good most (x ∷ xs) T Y items g few
    (record { stops = refl; plain = plain_brace Y })
    (read_space (sign (codes "}")) Any (125 ∷ Y) Y (read_sign (codes "}") free Y refl refl)))))

dispatchers_read : (xs : List Ident) (Y : List ℕ) → ArePrintableNames xs
    → Reads dispatchers (AreNames xs) (dispatchers_text xs ++ Y) Y
dispatchers_read [] Y h = read_left (gives []) _ (AreNames []) Y Y (read_gives (AreNames []) [] Y refl)
dispatchers_read (x ∷ xs) Y h =
    let P = AreNames (x ∷ xs) in
    let B = bracketed_list name_text (x ∷ xs) ++ Y in
    read_right (gives []) _ P (codes ", dispatchers = " ++ B) Y
    (read_then (sign (codes ",")) _ Any P (codes ", dispatchers = " ++ B) (codes " dispatchers = " ++ B) Y
    (read_sign (codes ",") free (codes " dispatchers = " ++ B) refl refl) (λ a u.
    read_space _ P (codes "dispatchers = " ++ B) Y
    (read_then (word (codes "dispatchers")) _ Any P (codes "dispatchers = " ++ B) (codes " = " ++ B) Y
    (read_word (codes "dispatchers") free (codes " = " ++ B) refl refl) (λ b v.
    read_space _ P (codes "= " ++ B) Y
    (read_then (sign (codes "=")) _ Any P (codes "= " ++ B) (32 ∷ B) Y (read_sign (codes "=") free (32 ∷ B) refl refl)
    (λ c w.
    read_space names P B Y (names_read (x ∷ xs) Y h)))))))

abbrev IsOn : Bool → Bool → Type 0
IsOn on read = read ≡ on

-- the extension, and the parenthesis after it
fpu_reads : (on : Bool) (Y : List ℕ) → Reads fpu (IsOn on) (fpu_text on ++ 41 ∷ Y) (41 ∷ Y)
fpu_reads false Y =
    read_left (gives false) _ (IsOn false) (41 ∷ Y) (41 ∷ Y) (read_gives (IsOn false) false (41 ∷ Y) refl)
fpu_reads true Y =
    let P = IsOn true in
    let E = 41 ∷ Y in
    let N = codes "on" ++ E in
    let F = codes "fpu = on" ++ E in
    read_right (gives false) _ P (codes ", " ++ F) E
    (read_then (sign (codes ",")) _ Any P (codes ", " ++ F) (32 ∷ F) E
    (read_sign (codes ",") free (32 ∷ F) refl refl) (λ a u.
    read_space _ P F E
    (read_then (this_name (codes "fpu")) _ Any P F (codes " = " ++ N) E
    (read_this_name (codes "fpu") (codes " = " ++ N) refl) (λ b v.
    read_space _ P (codes "= " ++ N) E
    (read_then (sign (codes "=")) _ Any P (codes "= " ++ N) (32 ∷ N) E
    (read_sign (codes "=") free (32 ∷ N) refl refl) (λ c w.
    read_space _ P N E
    (read_then (this_name (codes "on")) _ Any P N E E (read_this_name (codes "on") E refl) (λ d x.
    read_gives P true E refl))))))))

-- the head of this application
pub record IsHead (a : App) (h : Head) : Type 0 where
  pub name : IsNamed a.name h.name
  pub bits : h.bits ≡ a.bits
  pub dispatchers : AreNames a.dispatchers h.dispatchers
  pub fpu : IsOn a.fpu h.fpu

stops_features : (xs : List Ident) (on : Bool) (Y : List ℕ) → Stops (dispatchers_text xs ++ (fpu_text on ++ 41 ∷ Y))
stops_features [] false Y = refl
stops_features [] true Y = refl
stops_features (x ∷ xs) on Y = refl

head_append : (a : App) (Y : List ℕ) → head_text a ++ Y ≡ codes "app "
    ++ (a.name.name
    ++ (codes "(bits = " ++ (decimal a.bits ++ (dispatchers_text a.dispatchers
    ++ (fpu_text a.fpu ++ (codes ");" ++ 10 ∷ Y))))))
head_append a Y = simp append_assoc refl

pub head_reads : (a : App) (Y : List ℕ) → IsPrintableName a.name → LEAST_BITS ≤ a.bits → a.bits ≤ MOST_BITS
    → ArePrintableNames a.dispatchers → Reads head (IsHead a) (head_text a ++ Y) Y
head_reads a Y n least greatest ds =
    let P = IsHead a in
    let E = 41 ∷ 59 ∷ 10 ∷ Y in
    let F = fpu_text a.fpu ++ E in
    let D = dispatchers_text a.dispatchers ++ F in
    let B = decimal a.bits ++ D in
    let N = a.name.name ++ (codes "(bits = " ++ B) in
    read_trail head P (head_text a ++ Y) Y
    (read_same head P (codes "app " ++ N) (head_text a ++ Y) (10 ∷ Y) (head_append a Y)
    (read_then (word (codes "app")) _ Any P (codes "app " ++ N) (32 ∷ N) (10 ∷ Y)
    (read_word (codes "app") free (32 ∷ N) refl refl) (λ c u.
    read_space _ P N (10 ∷ Y)
    (read_then name _ (IsNamed a.name) P N (codes "(bits = " ++ B) (10 ∷ Y)
    (read_name a.name free (codes "(bits = " ++ B) n refl refl) (λ x e.
    read_then (sign (codes "(")) _ Any P (codes "(bits = " ++ B) (codes "bits = " ++ B) (10 ∷ Y)
    (read_sign (codes "(") free (codes "bits = " ++ B) refl refl) (λ c1 u1.
    read_then (word (codes "bits")) _ Any P (codes "bits = " ++ B) (codes " = " ++ B) (10 ∷ Y)
    (read_word (codes "bits") free (codes " = " ++ B) refl refl) (λ c2 u2.
    read_space _ P (codes "= " ++ B) (10 ∷ Y)
    (read_then (sign (codes "=")) _ Any P (codes "= " ++ B) (32 ∷ B) (10 ∷ Y)
    (read_sign (codes "=") free (32 ∷ B) refl refl) (λ c3 u3.
    read_space _ P B (10 ∷ Y)
    (read_then (limited_number (within LEAST_BITS MOST_BITS limit.Bits)) _ (IsNumber a.bits) P B D (10 ∷ Y)
    (read_number a.bits (within LEAST_BITS MOST_BITS limit.Bits) D (omega (arith, greatest))
    (within_free LEAST_BITS MOST_BITS limit.Bits a.bits least greatest)
    (stops_features a.dispatchers a.fpu (59 ∷ 10 ∷ Y))) (λ bits b.
    read_then dispatchers _ (AreNames a.dispatchers) P D F (10 ∷ Y) (dispatchers_read a.dispatchers F ds) (λ xs d.
    read_then fpu _ (IsOn a.fpu) P F E (10 ∷ Y) (fpu_reads a.fpu (59 ∷ 10 ∷ Y)) (λ on f.
    read_then (sign (codes ")")) _ Any P E (59 ∷ 10 ∷ Y) (10 ∷ Y) (read_sign (codes ")") free (59 ∷ 10 ∷ Y) refl refl)
    (λ c4 u4.
    read_then (sign (codes ";")) _ Any P (59 ∷ 10 ∷ Y) (10 ∷ Y) (10 ∷ Y) (read_sign (codes ";") free (10 ∷ Y) refl refl)
    (λ c5 u5.
    read_gives P (record { name = x; bits = bits.value; dispatchers = xs; fpu = on }) (10 ∷ Y)
    (record { name = e; bits = b; dispatchers = d; fpu = f }))))))))))))))))
