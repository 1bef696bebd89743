-- Entries of symbols, behind those of others.
use Rattle.std.proofs.Common.{◌≡◌, ◌∙◌, ℕ, ◌+◌, ◌*◌, List, [], ◌∷◌, ◌++◌, ap, sym, refl, sum_by, length, arith}
use Rattle.std.proofs.Common.{add-zero, add_assoc, append_assoc, length-append}
use Rattle.std.proofs.lemmas.List.Sums.{sum_by-append, sum_by-cons}
use Rattle.rt_elf.specs.Executable.{Executable, all_symbols}
use Rattle.rt_elf.specs.Linking.{object_size}
use Rattle.rt_elf.specs.Object.{Object, object_symbols}
use Rattle.rt_elf.specs.Offsets.{file_size}
use Rattle.rt_elf.specs.Symbols.{symbol_entries, symbol_entry, symbol_table, string_bytes, symbol_bytes}
use Rattle.rt_elf.specs.Word.{words}
use Rattle.rt_elf.specs.declared.executable.Symbol.{Symbol}

-- the name of the first of those behind begins where the names of those before end
pub symbol_entries_append : (name : ℕ) (xs ys : List Symbol)
    → symbol_entries name (xs ++ ys)
    ≡ symbol_entries name xs ++ symbol_entries (name + sum_by string_bytes xs) ys
symbol_entries_append name [] ys = ap (λ n. symbol_entries n ys) (sym (add-zero name))
symbol_entries_append name (x ∷ xs) ys =
    let next = name + string_bytes x in
    let front = symbol_entry name x in
    let behind : next + sum_by string_bytes xs ≡ name + sum_by string_bytes (x ∷ xs) =
    add_assoc name (string_bytes x) (sum_by string_bytes xs)
    ∙ ap (λ n. name + n) (sym (sum_by-cons string_bytes x xs)) in
    ap (λ text. front ++ text) (symbol_entries_append next xs ys)
    ∙ (sym (append_assoc front (symbol_entries next xs) (symbol_entries (next + sum_by string_bytes xs) ys))
    ∙ ap (λ n. (front ++ symbol_entries next xs) ++ symbol_entries n ys) behind)

-- the names of all take the bytes of both
pub sizes_append : (xs ys : List Symbol)
    → sum_by string_bytes (xs ++ ys) ≡ sum_by string_bytes xs + sum_by string_bytes ys
sizes_append xs ys = sum_by-append string_bytes xs ys

-- an entry of no symbol, those of some symbols, and those of others behind them
table_of : (start none : List ℕ) (marks symbols : List Symbol) (next : ℕ) → next ≡ 1 + sum_by string_bytes marks
    → ((start ++ none) ++ symbol_entries 1 marks) ++ symbol_entries next symbols
    ≡ start ++ (none ++ symbol_entries 1 (marks ++ symbols))
table_of start none marks symbols next next_is =
    ap (λ n. ((start ++ none) ++ symbol_entries 1 marks) ++ symbol_entries n symbols) next_is
    ∙ (append_assoc (start ++ none) (symbol_entries 1 marks) (symbol_entries (1 + sum_by string_bytes marks) symbols)
    ∙ (ap (λ text. (start ++ none) ++ text) (sym (symbol_entries_append 1 marks symbols))
    ∙ append_assoc start none (symbol_entries 1 (marks ++ symbols))))

-- the symbol table, from what is appended in three steps
pub table_parts : (e : Executable) (start first second third : List ℕ) (marks symbols : List Symbol) (next : ℕ)
    → marks ≡ e.marks → symbols ≡ e.symbols → first ≡ start ++ words (0 ∷ 0 ∷ 0 ∷ 0 ∷ [])
    → second ≡ first ++ symbol_entries 1 marks → next ≡ 1 + sum_by string_bytes marks
    → third ≡ second ++ symbol_entries next symbols → third ≡ start ++ symbol_table (all_symbols e)
unfolding symbol_table
table_parts e start first second third marks symbols next marks_is symbols_is first_is second_is next_is third_is =
    let none = words (0 ∷ 0 ∷ 0 ∷ 0 ∷ []) in
    third_is
    ∙ (ap (λ text. text ++ symbol_entries next symbols)
    (second_is ∙ ap (λ text. text ++ symbol_entries 1 marks) first_is)
    ∙ (table_of start none marks symbols next next_is
    ∙ (ap (λ own. start ++ (none ++ symbol_entries 1 (own ++ symbols))) marks_is
    ∙ ap (λ own. start ++ (none ++ symbol_entries 1 (e.marks ++ own))) symbols_is)))

-- what symbols take, in the table and among the strings
both_sums : (xs : List Symbol) → 16 * length xs + sum_by string_bytes xs ≡ sum_by symbol_bytes xs
both_sums [] = refl
both_sums (x ∷ xs) =
    let rest = both_sums xs in
    let names = sum_by-cons string_bytes x xs in
    let all = sum_by-cons symbol_bytes x xs in
    omega arith

-- the bytes of a file
pub file_bytes : (e : Executable) → file_size e
    ≡ 459 + length e.text + length e.values + sum_by symbol_bytes e.marks + sum_by symbol_bytes e.symbols
file_bytes e =
    let of_marks = both_sums e.marks in
    let of_symbols = both_sums e.symbols in
    let names = sizes_append e.marks e.symbols in
    let count = length-append e.marks e.symbols in
    omega arith

-- the bytes of an object's file
pub object_bytes : (o : Object) → object_size o
    ≡ 346 + length o.bytes + 8 * length o.calls + sum_by symbol_bytes o.marks + sum_by symbol_bytes o.symbols
    + sum_by symbol_bytes o.wanted
object_bytes o =
    let of_marks = both_sums o.marks in
    let of_symbols = both_sums o.symbols in
    let of_wanted = both_sums o.wanted in
    let names = sizes_append o.marks (o.symbols ++ o.wanted) in
    let other_names = sizes_append o.symbols o.wanted in
    let count = length-append o.marks (o.symbols ++ o.wanted) in
    let other_count = length-append o.symbols o.wanted in
    omega arith

-- the entries of some symbols, and those of others behind them
entries_of_both : (text first second : List ℕ) (name next : ℕ) (xs ys : List Symbol)
    → first ≡ text ++ symbol_entries name xs → next ≡ name + sum_by string_bytes xs
    → second ≡ first ++ symbol_entries next ys → second ≡ text ++ symbol_entries name (xs ++ ys)
entries_of_both text first second name next xs ys first_is next_is second_is =
    second_is
    ∙ (ap (λ front. front ++ symbol_entries next ys) first_is
    ∙ (append_assoc text (symbol_entries name xs) (symbol_entries next ys)
    ∙ ap (λ more. text ++ more)
    (ap (λ n. symbol_entries name xs ++ symbol_entries n ys) next_is ∙ sym (symbol_entries_append name xs ys))))

-- the symbol table of an object, from what is appended in four steps
pub object_table_parts : (o : Object) (start first second third fourth : List ℕ) (marks symbols wanted : List Symbol)
    (next behind : ℕ) → marks ≡ o.marks → symbols ≡ o.symbols → wanted ≡ o.wanted
    → first ≡ start ++ words (0 ∷ 0 ∷ 0 ∷ 0 ∷ []) → second ≡ first ++ symbol_entries 1 marks
    → next ≡ 1 + sum_by string_bytes marks → third ≡ second ++ symbol_entries next symbols
    → behind ≡ next + sum_by string_bytes symbols → fourth ≡ third ++ symbol_entries behind wanted
    → fourth ≡ start ++ symbol_table (object_symbols o)
unfolding symbol_table
object_table_parts o start first second third fourth marks symbols wanted next behind of_m of_s of_w a b c d e f =
    let none = words (0 ∷ 0 ∷ 0 ∷ 0 ∷ []) in
    let others = symbols ++ wanted in
    let two = entries_of_both second third fourth next behind symbols wanted d e f in
    let three = entries_of_both first second fourth 1 next marks others b c two in
    let same : marks ++ others ≡ object_symbols o =
    ap (λ xs. xs ++ others) of_m
    ∙ ap (λ xs. o.marks ++ xs) (ap (λ xs. xs ++ wanted) of_s ∙ ap (λ xs. o.symbols ++ xs) of_w) in
    three
    ∙ (ap (λ front. front ++ symbol_entries 1 (marks ++ others)) a
    ∙ (append_assoc start none (symbol_entries 1 (marks ++ others))
    ∙ ap (λ all. start ++ (none ++ symbol_entries 1 all)) same))
