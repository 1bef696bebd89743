-- The texts of statements and blocks are read as them.
use Rattle.std.proofs.Common.{◌≡◌, ℕ, zero, suc, ◌+◌, ◌-◌, ◌<◌, ◌≤◌, true, false, List, [], ◌∷◌, ◌++◌, None, refl, sym}
use Rattle.std.proofs.Common.{ap, ◌∙◌, lit≤, arith, append_assoc, append-nil}
use Rattle.std.specs.Prelude.{codes, decimal}
use Rattle.std.proofs.lemmas.Bool.{le-ltb, lt-leb}
use Rattle.rt_ast.specs.declared.ident.Ident.{Ident}
use Rattle.rt_ast.specs.declared.ident.Number.{Number}
use Rattle.rt_ast.specs.Tree.{Expression, Spawn, Value, Statement, Block, Bind, Assign, Branch, Repeat, Locked, Emit}
use Rattle.rt_ast.specs.Tree.{Pend, Spawns, Empty, Then}
use Rattle.rt_ast.specs.Bare.{bare_statement, bare_block}
use Rattle.rt_ast.specs.CanonicalExpression.{expression_text}
use Rattle.rt_ast.specs.CanonicalBlock.{deeper, value_text, spawn_text, statement_text, block_text, else_text}
use Rattle.rt_ast.specs.CanonicalBlock.{lines_text}
use Rattle.rt_ast.specs.PrintableBody.{IsPrintableStatement, ArePrintable, inner_blocks, blocks_of, statements_in}
use Rattle.rt_ast.specs.PrintableBody.{statements_of}
use Rattle.rt_grammar.specs.Language.{Language, gives, ◌>>◌, or_else, repeat}
use Rattle.rt_grammar.specs.Tokens.{free, name, limited_name, number, limited_number, sign, limited_sign, word}
use Rattle.rt_grammar.specs.Tokens.{limited_word}
use Rattle.rt_grammar.specs.Expression.{expression}
use Rattle.rt_grammar.specs.Limits.{statement_limit, nesting_limit, turn_limit}
use Rattle.rt_grammar.specs.Spawn.{value, spawn}
use Rattle.rt_grammar.specs.Simple.{Counted, bind, assign, emit, pend, call}
use Rattle.rt_grammar.specs.Statement.{branch, loop, further, lock, statement, joined_block, one_more, braced_block}
use Rattle.rt_grammar.specs.Statement.{block}
use Rattle.rt_grammar.specs.Statement.{inside}
use Rattle.rt_print.proofs.Reading.{Reads, Any, IsMargin, read_gives, read_then, read_holds, read_left, read_right}
use Rattle.rt_print.proofs.Reading.{read_none, read_step, read_space, read_newline, read_margin, read_same}
use Rattle.rt_print.proofs.Lexemes.{IsNamed, IsNumber, read_name, read_number, read_word, read_sign}
use Rattle.rt_print.proofs.Expressions.{IsTree, expression_reads, Plain, plain_semicolon, plain_block}
use Rattle.rt_print.proofs.Spawns.{IsSpawn, IsValue, spawn_reads, value_reads}

-- what is read of a statement after so many, and of a block
pub record IsStatement (s : Statement) (before : ℕ) (c : Counted Statement) : Type 0 where
  pub same : bare_statement c.0 ≡ bare_statement s
  pub count : c.1 ≡ before + statements_in s

pub record IsBlock (b : Block) (before : ℕ) (c : Counted Block) : Type 0 where
  pub same : bare_block c.0 ≡ bare_block b
  pub count : c.1 ≡ before + statements_of b

counted_free : (before : ℕ) → before < 1000 → statement_limit before ≡ None
counted_free before h = rw (lt-leb 1000 before h) refl

nested_free : (nesting : ℕ) → nesting ≤ 16 → nesting_limit nesting ≡ None
nested_free nesting h = rw (le-ltb 16 nesting h) refl

turned_free : (first last : ℕ) → last - first ≤ 1000 → turn_limit first last ≡ None
turned_free first last h = rw (le-ltb 1000 (last - first) h) refl

-- a semicolon, and a statement's meaning after it
read_done : {A : Type 0} (P : A → Type 0) (x : A) (Y : List ℕ) → P x → Reads (sign (codes ";") >> gives x) P (59 ∷ Y) Y
read_done P x Y p = read_then (sign (codes ";")) (λ c. gives x) Any P (59 ∷ Y) Y Y
    (read_sign (codes ";") free Y refl refl) (λ c u. read_gives P x Y p)

one_count : (before : ℕ) → suc before ≡ before + 1
one_count before = omega arith

bind_reads : (x : Ident) (v : Value) (most before : ℕ) (Y : List ℕ) → IsPrintableStatement (Bind x v) → 16 ≤ most
    → before < 1000
    → Reads (bind most before) (IsStatement (Bind x v) before) (codes "let "
    ++ (x.name ++ (32 ∷ 61 ∷ 32 ∷ (value_text v ++ 59 ∷ Y)))) Y
bind_reads x v most before Y h m few =
    let P = IsStatement (Bind x v) before in
    let V = value_text v ++ 59 ∷ Y in
    let N = x.name ++ (32 ∷ 61 ∷ 32 ∷ V) in
    read_then (limited_word (codes "let") (statement_limit before)) _ Any P (codes "let " ++ N) (32 ∷ N) Y
    (read_word (codes "let") (statement_limit before) (32 ∷ N) (counted_free before few) refl) (λ c u.
    read_space _ P N Y
    (read_then name _ (IsNamed x) P N (32 ∷ 61 ∷ 32 ∷ V) Y (read_name x free (32 ∷ 61 ∷ 32 ∷ V) h.0 refl refl) (λ y e.
    read_space _ P (61 ∷ 32 ∷ V) Y
    (read_then (sign (codes "=")) _ Any P (61 ∷ 32 ∷ V) (32 ∷ V) Y (read_sign (codes "=") free (32 ∷ V) refl refl)
    (λ d w.
    read_space _ P V Y
    (read_then (value most) _ (IsValue v) P V (59 ∷ Y) Y (value_reads v most Y h.1 m) (λ t f.
    read_done P (Bind y t, suc before) Y (record { same = rw (e, f) refl; count = one_count before }))))))))

assign_reads : (x : Ident) (e : Expression) (most before : ℕ) (Y : List ℕ) → IsPrintableStatement (Assign x e)
    → 16 ≤ most → before < 1000
    → Reads (assign most before) (IsStatement (Assign x e) before)
    (x.name ++ (32 ∷ 61 ∷ 32 ∷ (expression_text e ++ 59 ∷ Y))) Y
assign_reads x e most before Y h m few =
    let P = IsStatement (Assign x e) before in
    let V = expression_text e ++ 59 ∷ Y in
    read_then (limited_name (statement_limit before)) _ (IsNamed x) P (x.name ++ (32 ∷ 61 ∷ 32 ∷ V)) (32 ∷ 61 ∷ 32 ∷ V)
    Y (read_name x (statement_limit before) (32 ∷ 61 ∷ 32 ∷ V) h.0 (counted_free before few) refl) (λ y n.
    read_space _ P (61 ∷ 32 ∷ V) Y
    (read_then (sign (codes "=")) _ Any P (61 ∷ 32 ∷ V) (32 ∷ V) Y (read_sign (codes "=") free (32 ∷ V) refl refl)
    (λ d w.
    read_space _ P V Y
    (read_then (expression most) _ (IsTree e) P V (59 ∷ Y) Y
    (expression_reads e most (59 ∷ Y) h.1 m refl (plain_semicolon Y)) (λ t f.
    read_done P (Assign y t, suc before) Y (record { same = rw (n, f) refl; count = one_count before }))))))

emit_reads : (e : Expression) (most before : ℕ) (Y : List ℕ) → IsPrintableStatement (Emit e) → 16 ≤ most → before < 1000
    → Reads (emit most before) (IsStatement (Emit e) before) (codes "emit " ++ (expression_text e ++ 59 ∷ Y)) Y
emit_reads e most before Y h m few =
    let P = IsStatement (Emit e) before in
    let V = expression_text e ++ 59 ∷ Y in
    read_then (limited_word (codes "emit") (statement_limit before)) _ Any P (codes "emit " ++ V) (32 ∷ V) Y
    (read_word (codes "emit") (statement_limit before) (32 ∷ V) (counted_free before few) refl) (λ c u.
    read_space _ P V Y
    (read_then (expression most) _ (IsTree e) P V (59 ∷ Y) Y
    (expression_reads e most (59 ∷ Y) h m refl (plain_semicolon Y)) (λ t f.
    read_done P (Emit t, suc before) Y (record { same = rw f refl; count = one_count before }))))

pend_reads : (x : Ident) (before : ℕ) (Y : List ℕ) → IsPrintableStatement (Pend x) → before < 1000
    → Reads (pend before) (IsStatement (Pend x) before) (codes "pend " ++ (x.name ++ 59 ∷ Y)) Y
pend_reads x before Y h few =
    let P = IsStatement (Pend x) before in
    let N = x.name ++ 59 ∷ Y in
    read_then (limited_word (codes "pend") (statement_limit before)) _ Any P (codes "pend " ++ N) (32 ∷ N) Y
    (read_word (codes "pend") (statement_limit before) (32 ∷ N) (counted_free before few) refl) (λ c u.
    read_space _ P N Y
    (read_then name _ (IsNamed x) P N (59 ∷ Y) Y (read_name x free (59 ∷ Y) h refl refl) (λ y e.
    read_done P (Pend y, suc before) Y (record { same = rw e refl; count = one_count before }))))

call_reads : (s : Spawn) (most before : ℕ) (Y : List ℕ) → IsPrintableStatement (Spawns s) → 16 ≤ most → before < 1000
    → Reads (call most before) (IsStatement (Spawns s) before) (spawn_text s ++ 59 ∷ Y) Y
call_reads s most before Y h m few =
    let P = IsStatement (Spawns s) before in
    read_then (spawn most (statement_limit before)) _ (IsSpawn s) P (spawn_text s ++ 59 ∷ Y) (59 ∷ Y) Y
    (spawn_reads s most (statement_limit before) (59 ∷ Y) h m (counted_free before few)) (λ t f.
    read_done P (Spawns t, suc before) Y (record { same = ap Spawns f; count = one_count before }))

-- the statements read after others
pub record AreStatements (b : Block) (before : ℕ) (others : List Statement) (c : Counted (List Statement)) : Type
    0 where
  pub own : List Statement
  pub all : c.0 ≡ others ++ own
  pub same : bare_block (joined_block own) ≡ bare_block b
  pub count : c.1 ≡ before + statements_of b

-- the lines of a block are read as its statements
abbrev LinesRead : Block → Type 0
LinesRead b =
    (margin : List ℕ) (most deep nesting : ℕ) (others : List Statement) (before : ℕ) (Y : List ℕ) → ArePrintable b
    → IsMargin margin → 16 ≤ most → blocks_of b ≤ suc deep → nesting + blocks_of b ≤ 17
    → before + statements_of b ≤ 1000 → Reads (repeat (one_more most (block most deep) (inside most deep) nesting)
    (others, before)) (AreStatements b before others) (lines_text margin b ++ Y) Y

is_deeper : (margin : List ℕ) → IsMargin margin → IsMargin (deeper margin)
is_deeper [] h = (refl, (refl, (refl, (refl, tt))))
is_deeper (b ∷ margin) h = (h.0, is_deeper margin h.1)

whole_block : (b : Block) (before : ℕ) (c : Counted (List Statement)) → AreStatements b before [] c
    → IsBlock b before (joined_block c.0, c.1)
whole_block b before c h = record {
  same = ap (λ (xs : List Statement). bare_block (joined_block xs)) h.all ∙ h.same;
  count = h.count;
}

abbrev statements_at : ℕ → ℕ → ℕ → ℕ → Language (Counted (List Statement))
statements_at most deep nesting before = repeat (one_more most (block most deep) (inside most deep) nesting)
    ([], before)

braces_read : (b : Block) (most deep nesting before : ℕ) (X Z Y : List ℕ) → nesting ≤ 16
    → Reads (statements_at most deep nesting before) (AreStatements b before []) X Z → Reads (sign (codes "}")) Any Z Y
    → Reads (braced_block most (block most deep) (inside most deep) nesting before) (IsBlock b before) (123 ∷ X) Y
braces_read b most deep nesting before X Z Y n h k =
    let P = IsBlock b before in
    read_then (limited_sign (codes "{") (nesting_limit nesting)) _ Any P (123 ∷ X) X Y
    (read_sign (codes "{") (nesting_limit nesting) X (nested_free nesting n) refl) (λ c u.
    read_then (statements_at most deep nesting before) _ (AreStatements b before []) P X Z Y h (λ all p.
    read_then (sign (codes "}")) _ Any P Z Y Y k (λ d v. read_gives P (joined_block all.0, all.1) Y
    (whole_block b before all p))))

blocks_some : (b : Block) → 1 ≤ blocks_of b
blocks_some Empty = omega arith
blocks_some (Then s rest) = omega arith

braced_from_lines : (b : Block) → LinesRead b → (margin : List ℕ) (most deep nesting before : ℕ) (Y : List ℕ)
    → ArePrintable b → IsMargin margin → 16 ≤ most → blocks_of b ≤ suc deep → nesting + blocks_of b ≤ 17
    → before + statements_of b ≤ 1000 → Reads (braced_block most (block most deep) (inside most deep) nesting before)
    (IsBlock b before) (block_text margin b ++ Y) Y
braced_from_lines Empty lines margin most deep nesting before Y h i m d n few =
    braces_read Empty most deep nesting before (125 ∷ Y) (125 ∷ Y) Y (omega (arith, n))
    (read_none (one_more most (block most deep) (inside most deep) nesting) (AreStatements Empty before []) ([], before)
    (125 ∷ Y) (record { own = []; all = refl; same = refl; count = omega arith }))
    (read_sign (codes "}") free Y refl refl)
braced_from_lines (Then s rest) lines margin most deep nesting before Y h i m d n few =
    let b = Then s rest in
    let L = lines_text (deeper margin) b in
    let Z = margin ++ 125 ∷ Y in
    let e : block_text margin b ++ Y ≡ 123 ∷ 10 ∷ (L ++ Z) = ap (λ (t : List ℕ). 123 ∷ 10 ∷ t)
    (append_assoc (L ++ margin) (codes "}") Y ∙ append_assoc L margin (125 ∷ Y)) in
    read_same (braced_block most (block most deep) (inside most deep) nesting before) (IsBlock b before)
    (123 ∷ 10 ∷ (L ++ Z)) _ Y e
    (braces_read b most deep nesting before (10 ∷ (L ++ Z)) Z Y (omega (arith, n, blocks_some b))
    (read_newline (statements_at most deep nesting before) (AreStatements b before []) (L ++ Z) Z
    (lines (deeper margin) most deep nesting [] before Z h (is_deeper margin i) m d n few))
    (read_margin (sign (codes "}")) Any margin (125 ∷ Y) Y i (read_sign (codes "}") free Y refl refl)))

block_from_lines : (b : Block) → LinesRead b → (margin : List ℕ) (most deep nesting before : ℕ) (Y : List ℕ)
    → ArePrintable b → IsMargin margin → 16 ≤ most → blocks_of b ≤ deep → nesting + blocks_of b ≤ 17
    → before + statements_of b ≤ 1000 → Reads (block most deep nesting before) (IsBlock b before)
    (block_text margin b ++ Y) Y
block_from_lines b lines margin most zero nesting before Y h i m d n few = absurd (omega (arith, d, blocks_some b))
block_from_lines b lines margin most (suc deep) nesting before Y h i m d n few =
    braced_from_lines b lines margin most deep nesting before Y h i m d n few

inside_from_lines : (b : Block) → LinesRead b → (margin : List ℕ) (most deep nesting before : ℕ) (Y : List ℕ)
    → ArePrintable b → IsMargin margin → 16 ≤ most → blocks_of b ≤ deep → nesting + blocks_of b ≤ 17
    → before + statements_of b ≤ 1000 → Reads (inside most deep nesting before) (IsBlock b before)
    (block_text margin b ++ Y) Y
inside_from_lines b lines margin most zero nesting before Y h i m d n few = absurd (omega (arith, d, blocks_some b))
inside_from_lines b lines margin most (suc deep) nesting before Y h i m d n few =
    read_left (braced_block most (block most deep) (inside most deep) nesting before)
    (further (inside most deep) nesting before) (IsBlock b before) (block_text margin b ++ Y) Y
    (braced_from_lines b lines margin most deep nesting before Y h i m d n few)

plain_before_block : (margin : List ℕ) (b : Block) (E : List ℕ) → Plain (32 ∷ (block_text margin b ++ E))
plain_before_block margin Empty E at compares = plain_block (125 ∷ E) at compares
plain_before_block margin (Then s rest) E at true = refl
plain_before_block margin (Then s rest) E at false = refl

else_reads : (b : Block) → LinesRead b → (margin : List ℕ) (most deep nesting before : ℕ) (Y : List ℕ) → ArePrintable b
    → IsMargin margin → 16 ≤ most → blocks_of b ≤ deep → nesting + blocks_of b ≤ 17
    → before + statements_of b ≤ 1000 → Reads (or_else (Empty, before)
    (word (codes "else") >> block most deep nesting before)) (IsBlock b before) (else_text margin b ++ Y) Y
else_reads Empty lines margin most deep nesting before Y h i m d n few =
    read_left _ (word (codes "else") >> block most deep nesting before) (IsBlock Empty before) Y Y
    (read_gives (IsBlock Empty before) (Empty, before) Y (record { same = refl; count = omega arith }))
else_reads (Then s rest) lines margin most deep nesting before Y h i m d n few =
    let b = Then s rest in
    let B = block_text margin b ++ Y in
    read_right (gives (Empty, before)) _ (IsBlock b before) (32 ∷ (codes "else" ++ 32 ∷ B)) Y
    (read_space _ (IsBlock b before) (codes "else" ++ 32 ∷ B) Y
    (read_then (word (codes "else")) (λ c. block most deep nesting before) Any (IsBlock b before)
    (codes "else" ++ 32 ∷ B) (32 ∷ B) Y (read_word (codes "else") free (32 ∷ B) refl refl) (λ c u.
    read_space (block most deep nesting before) (IsBlock b before) B Y
    (block_from_lines b lines margin most deep nesting before Y h i m d n few))))

abbrev StatementRead : Statement → Type 0
StatementRead s =
    (margin : List ℕ) (most deep nesting before : ℕ) (Y : List ℕ) → IsPrintableStatement s → IsMargin margin → 16 ≤ most
    → inner_blocks s ≤ deep → nesting + inner_blocks s ≤ 16
    → before + statements_in s ≤ 1000 → Reads (statement most (block most deep) (inside most deep) nesting before)
    (IsStatement s before) (statement_text margin s ++ Y) Y

branch_append : (margin : List ℕ) (e : Expression) (a b : Block) (Y : List ℕ)
    → statement_text margin (Branch e a b) ++ Y ≡ codes "if "
    ++ (expression_text e ++ 32 ∷ (block_text margin a ++ (else_text margin b ++ Y)))
branch_append margin e a b Y = simp append_assoc refl

branch_reads : (e : Expression) (a b : Block) → LinesRead a → LinesRead b → StatementRead (Branch e a b)
branch_reads e a b first second margin most deep nesting before Y h i m d n few =
    let P = IsStatement (Branch e a b) before in
    let E = else_text margin b ++ Y in
    let B = block_text margin a ++ E in
    let V = expression_text e ++ 32 ∷ B in
    read_same (statement most (block most deep) (inside most deep) nesting before) P (codes "if " ++ V) _ Y
    (branch_append margin e a b Y)
    (read_right _ _ P (codes "if " ++ V) Y (read_right _ _ P (codes "if " ++ V) Y
    (read_left (branch most (block most deep) nesting before) _ P (codes "if " ++ V) Y
    (read_then (limited_word (codes "if") (statement_limit before)) _ Any P (codes "if " ++ V) (32 ∷ V) Y
    (read_word (codes "if") (statement_limit before) (32 ∷ V) (counted_free before (omega (arith, few))) refl)
    (λ c u.
    read_space _ P V Y
    (read_then (expression most) _ (IsTree e) P V (32 ∷ B) Y
    (expression_reads e most (32 ∷ B) h.0 m refl (plain_before_block margin a E)) (λ t f.
    read_space _ P B Y
    (read_then (block most deep (suc nesting) (suc before)) _ (IsBlock a (suc before)) P B E Y
    (block_from_lines a first margin most deep (suc nesting) (suc before) E h.1 i m (omega (arith, d))
    (omega (arith, n)) (omega (arith, few))) (λ x p.
    read_then (or_else (Empty, x.1) (word (codes "else") >> block most deep (suc nesting) x.1)) _ (IsBlock b x.1) P E Y
    Y
    (else_reads b second margin most deep (suc nesting) x.1 Y h.2 i m (omega (arith, d)) (omega (arith, n))
    (omega (arith, few, p.count))) (λ y q.
    read_gives P (Branch t x.0 y.0, y.1) Y (record {
      same = rw (f, p.same, q.same) refl;
      count =
          omega (arith, p.count, q.count);
    })))))))))))

loop_append : (margin : List ℕ) (x : Ident) (first last : ℕ) (a : Block) (Y : List ℕ)
    → statement_text margin (Repeat x first last a) ++ Y ≡ codes "for "
    ++ (x.name
    ++ (codes " in " ++ (decimal first ++ (codes ".." ++ (decimal last ++ 32 ∷ (block_text margin a ++ Y))))))
loop_append margin x first last a Y = simp append_assoc refl

loop_reads : (x : Ident) (first last : ℕ) (a : Block) → LinesRead a → StatementRead (Repeat x first last a)
loop_reads x first last a lines margin most deep nesting before Y h i m d n few =
    let P = IsStatement (Repeat x first last a) before in
    let B = block_text margin a ++ Y in
    let L = decimal last ++ 32 ∷ B in
    let F = decimal first ++ (46 ∷ 46 ∷ L) in
    let I = codes "in " ++ F in
    let N = x.name ++ 32 ∷ I in
    let limit : (k : Number) → IsNumber first k → turn_limit k.value last ≡ None =
    λ k e. ap (λ (f : ℕ). turn_limit f last) e ∙ turned_free first last h.3 in
    read_same (statement most (block most deep) (inside most deep) nesting before) P (codes "for " ++ N) _ Y
    (loop_append margin x first last a Y)
    (read_right _ _ P (codes "for " ++ N) Y (read_right _ _ P (codes "for " ++ N) Y
    (read_right _ _ P (codes "for " ++ N) Y (read_left (loop (block most deep) nesting before) _ P
    (codes "for " ++ N) Y
    (read_then (limited_word (codes "for") (statement_limit before)) _ Any P (codes "for " ++ N) (32 ∷ N) Y
    (read_word (codes "for") (statement_limit before) (32 ∷ N) (counted_free before (omega (arith, few))) refl)
    (λ c u.
    read_space _ P N Y
    (read_then name _ (IsNamed x) P N (32 ∷ I) Y (read_name x free (32 ∷ I) h.0 refl refl) (λ y e.
    read_space _ P I Y
    (read_then (word (codes "in")) _ Any P I (32 ∷ F) Y (read_word (codes "in") free (32 ∷ F) refl refl) (λ c' u'.
    read_space _ P F Y
    (read_then number _ (IsNumber first) P F (46 ∷ 46 ∷ L) Y (read_number first (λ v. free) (46 ∷ 46 ∷ L) h.1 refl refl)
    (λ f p.
    read_then (sign (codes "..")) _ Any P (46 ∷ 46 ∷ L) L Y (read_sign (codes "..") free L refl refl) (λ c2 u2.
    read_then (limited_number (turn_limit f.value)) _ (IsNumber last) P L (32 ∷ B) Y
    (read_number last (turn_limit f.value) (32 ∷ B) h.2 (limit f p) refl) (λ l q.
    read_space _ P B Y
    (read_then (block most deep (suc nesting) (suc before)) _ (IsBlock a (suc before)) P B Y Y
    (block_from_lines a lines margin most deep (suc nesting) (suc before) Y h.4 i m d (omega (arith, n))
    (omega (arith, few))) (λ z r.
    read_gives P (Repeat y f.value l.value z.0, z.1) Y
    (record { same = rw (e, p, q, r.same) refl; count = omega (arith, r.count) })))))))))))))))))

lock_append : (margin : List ℕ) (x : Ident) (a : Block) (Y : List ℕ) → statement_text margin (Locked x a) ++ Y
    ≡ codes "lock " ++ (x.name ++ 32 ∷ (block_text margin a ++ Y))
lock_append margin x a Y = simp append_assoc refl

lock_reads : (x : Ident) (a : Block) → LinesRead a → StatementRead (Locked x a)
lock_reads x a lines margin most deep nesting before Y h i m d n few =
    let P = IsStatement (Locked x a) before in
    let B = block_text margin a ++ Y in
    let N = x.name ++ 32 ∷ B in
    read_same (statement most (block most deep) (inside most deep) nesting before) P (codes "lock " ++ N) _ Y
    (lock_append margin x a Y)
    (read_right _ _ P (codes "lock " ++ N) Y (read_right _ _ P (codes "lock " ++ N) Y
    (read_right _ _ P (codes "lock " ++ N) Y (read_right _ _ P (codes "lock " ++ N) Y
    (read_left (lock (inside most deep) nesting before) _ P (codes "lock " ++ N) Y
    (read_then (limited_word (codes "lock") (statement_limit before)) _ Any P (codes "lock " ++ N) (32 ∷ N) Y
    (read_word (codes "lock") (statement_limit before) (32 ∷ N) (counted_free before (omega (arith, few))) refl)
    (λ c u.
    read_space _ P N Y
    (read_then name _ (IsNamed x) P N (32 ∷ B) Y (read_name x free (32 ∷ B) h.0 refl refl) (λ y e.
    read_space _ P B Y
    (read_then (inside most deep (suc nesting) (suc before)) _ (IsBlock a (suc before)) P B Y Y
    (inside_from_lines a lines margin most deep (suc nesting) (suc before) Y h.1 i m d (omega (arith, n))
    (omega (arith, few))) (λ z r.
    read_gives P (Locked y z.0, z.1) Y (record {
      same = rw (e, r.same) refl;
      count =
          omega (arith, r.count);
    }))))))))))))

bind_statement : (x : Ident) (v : Value) → StatementRead (Bind x v)
bind_statement x v margin most deep nesting before Y h i m d n few =
    let P = IsStatement (Bind x v) before in
    let e : statement_text margin (Bind x v) ++ Y ≡ codes "let "
    ++ (x.name ++ (32 ∷ 61 ∷ 32 ∷ (value_text v ++ 59 ∷ Y))) = simp append_assoc refl in
    read_same (statement most (block most deep) (inside most deep) nesting before) P _ _ Y e
    (read_left (bind most before) _ P _ Y (bind_reads x v most before Y h m (omega (arith, few))))

assign_statement : (x : Ident) (e : Expression) → StatementRead (Assign x e)
assign_statement x t margin most deep nesting before Y h i m d n few =
    let P = IsStatement (Assign x t) before in
    let e : statement_text margin (Assign x t) ++ Y ≡ x.name ++ (32 ∷ 61 ∷ 32 ∷ (expression_text t ++ 59 ∷ Y)) =
    simp append_assoc refl in
    read_same (statement most (block most deep) (inside most deep) nesting before) P _ _ Y e
    (read_right _ _ P _ Y (read_left (assign most before) _ P _ Y
    (assign_reads x t most before Y h m (omega (arith, few)))))

emit_statement : (e : Expression) → StatementRead (Emit e)
emit_statement t margin most deep nesting before Y h i m d n few =
    let P = IsStatement (Emit t) before in
    let e : statement_text margin (Emit t) ++ Y ≡ codes "emit " ++ (expression_text t ++ 59 ∷ Y) =
    simp append_assoc refl in
    read_same (statement most (block most deep) (inside most deep) nesting before) P _ _ Y e
    (read_right _ _ P _ Y (read_right _ _ P _ Y (read_right _ _ P _ Y
    (read_right _ _ P _ Y (read_right _ _ P _ Y (read_left (emit most before) _ P _ Y
    (emit_reads t most before Y h m (omega (arith, few)))))))))

pend_statement : (x : Ident) → StatementRead (Pend x)
pend_statement x margin most deep nesting before Y h i m d n few =
    let P = IsStatement (Pend x) before in
    let e : statement_text margin (Pend x) ++ Y ≡ codes "pend " ++ (x.name ++ 59 ∷ Y) = simp append_assoc refl in
    read_same (statement most (block most deep) (inside most deep) nesting before) P _ _ Y e
    (read_right _ _ P _ Y (read_right _ _ P _ Y (read_right _ _ P _ Y
    (read_right _ _ P _ Y (read_right _ _ P _ Y (read_right _ _ P _ Y
    (read_left (pend before) _ P _ Y (pend_reads x before Y h (omega (arith, few))))))))))

call_statement : (s : Spawn) → StatementRead (Spawns s)
call_statement s margin most deep nesting before Y h i m d n few =
    let P = IsStatement (Spawns s) before in
    read_same (statement most (block most deep) (inside most deep) nesting before) P _ _ Y
    (append_assoc (spawn_text s) (codes ";") Y)
    (read_right _ _ P _ Y (read_right _ _ P _ Y (read_right _ _ P _ Y
    (read_right _ _ P _ Y (read_right _ _ P _ Y (read_right _ _ P _ Y
    (read_right _ (call most before) P _ Y (call_reads s most before Y h m (omega (arith, few))))))))))

-- one more statement after others
record IsAdded (s : Statement) (before : ℕ) (others : List Statement) (c : Counted (List Statement)) : Type 0 where
  own : Statement
  all : c.0 ≡ others ++ own ∷ []
  is : IsStatement s before (own, c.1)

more_are : (s : Statement) (rest : Block) (before : ℕ) (others : List Statement) (c t : Counted (List Statement))
    → IsAdded s before others t → AreStatements rest t.1 t.0 c → AreStatements (Then s rest) before others c
more_are s rest before others c t a h = record {
  own = a.own ∷ h.own;
  all = h.all ∙ ap (λ (xs : List Statement). xs ++ h.own) a.all ∙ append_assoc others (a.own ∷ []) h.own;
  same = rw (a.is.same, h.same) refl;
  count = omega (arith, h.count, a.is.count);
}

lines_append : (margin : List ℕ) (s : Statement) (rest : Block) (Y : List ℕ) → lines_text margin (Then s rest) ++ Y
    ≡ margin ++ (statement_text margin s ++ 10 ∷ (lines_text margin rest ++ Y))
lines_append margin s rest Y = simp append_assoc refl

then_reads : (s : Statement) (rest : Block) → StatementRead s → LinesRead rest → LinesRead (Then s rest)
then_reads s rest first lines margin most deep nesting others before Y h i m d n few =
    let step = one_more most (block most deep) (inside most deep) nesting in
    let P = IsAdded s before others in
    let Q = AreStatements (Then s rest) before others in
    let R = lines_text margin rest ++ Y in
    let T = statement_text margin s ++ 10 ∷ R in
    read_same (repeat step (others, before)) Q (margin ++ T) _ Y (lines_append margin s rest Y)
    (read_step step P Q (others, before) (margin ++ T) (10 ∷ R) Y
    (read_margin (step (others, before)) P margin T (10 ∷ R) i
    (read_then (statement most (block most deep) (inside most deep) nesting before) _ (IsStatement s before) P T
    (10 ∷ R) (10 ∷ R)
    (first margin most deep nesting before (10 ∷ R) h.0 i m (omega (arith, d)) (omega (arith, n)) (omega (arith, few)))
    (λ c p.
    read_gives P (others ++ c.0 ∷ [], c.1) (10 ∷ R) (record { own = c.0; all = refl; is = p }))))
    (λ t a. read_newline (repeat step t) Q R Y
    (read_holds (repeat step t) (AreStatements rest t.1 t.0) Q R Y (λ c q. more_are s rest before others c t a q)
    (lines margin most deep nesting t.0 t.1 Y h.1 i m (omega (arith, d)) (omega (arith, n))
    (omega (arith, few, a.is.count))))))

empty_reads : LinesRead Empty
empty_reads margin most deep nesting others before Y h i m d n few =
    read_none (one_more most (block most deep) (inside most deep) nesting) (AreStatements Empty before others)
    (others, before) Y (record { own = []; all = sym (append-nil others); same = refl; count = omega arith })

mutual
  statement_reads : (s : Statement) → StatementRead s
  statement_reads (Bind x v) = bind_statement x v
  statement_reads (Assign x e) = assign_statement x e
  statement_reads (Branch e a b) = branch_reads e a b (lines_read a) (lines_read b)
  statement_reads (Repeat x first last a) = loop_reads x first last a (lines_read a)
  statement_reads (Locked x a) = lock_reads x a (lines_read a)
  statement_reads (Emit e) = emit_statement e
  statement_reads (Pend x) = pend_statement x
  statement_reads (Spawns s) = call_statement s

  lines_read : (b : Block) → LinesRead b
  lines_read Empty = empty_reads
  lines_read (Then s rest) = then_reads s rest (statement_reads s) (lines_read rest)

-- a body's block
pub body_block_reads : (b : Block) (Y : List ℕ) → ArePrintable b → blocks_of b ≤ 16 → statements_of b ≤ 1000
    → Reads (block 16 16 1 0) (IsBlock b 0) (block_text [] b ++ Y) Y
body_block_reads b Y h d few = block_from_lines b (lines_read b) [] 16 16 1 0 Y h tt (lit≤ tt) d (omega (arith, d))
    (omega (arith, few))
