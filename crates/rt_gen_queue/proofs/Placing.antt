-- Where lines stand in code, and how many there are.
use Rattle.rt_gen_queue.proofs.Vocabulary.{App, HasCodeAt, Line, List, [], append_assoc, arguments_of, arith, fill_code}
use Rattle.rt_gen_queue.proofs.Vocabulary.{length, length-append, length-map-range_with_len, plain, refl, spawn_code}
use Rattle.rt_gen_queue.proofs.Vocabulary.{store_code, subst, suc, ℕ, ◌++◌, ◌+◌, ◌∷◌, ◌≡◌}
use Rattle.std.proofs.lemmas.List.FromFn.{map-range_with_len_more}
use Rattle.rt_code.specs.declared.instr.Instr.TheVariants as instr

pub code_front : (code : List Line) (at : ℕ) (front behind : List Line) → HasCodeAt code at (front ++ behind)
    → HasCodeAt code at front
code_front code at [] behind has = tt
code_front code at (line ∷ front) behind (first, rest) = (first, code_front code (suc at) front behind rest)

pub code_behind : (code : List Line) (at to : ℕ) (front behind : List Line) → to ≡ at + length front
    → HasCodeAt code at (front ++ behind) → HasCodeAt code to behind
code_behind code at to [] behind e has =
    let same : at ≡ to = omega arith in
    subst (λ (a : ℕ). HasCodeAt code a behind) same has
code_behind code at to (line ∷ front) behind e (first, rest) =
    let next : to ≡ suc at + length front = omega arith in
    code_behind code (suc at) to front behind next rest

-- code after a line
code_later : (line : Line) (code : List Line) (at : ℕ) (lines : List Line) → HasCodeAt code at lines
    → HasCodeAt (line ∷ code) (suc at) lines
code_later line code at [] has = tt
code_later line code at (first ∷ lines) has = (has.0, code_later line code (suc at) lines has.1)

-- code between other code
code_first : (lines behind : List Line) → HasCodeAt (lines ++ behind) 0 lines
code_first [] behind = tt
code_first (line ∷ lines) behind = (refl, code_later line (lines ++ behind) 0 lines (code_first lines behind))

pub code_there : (front lines behind : List Line) → HasCodeAt (front ++ (lines ++ behind)) (length front) lines
code_there [] lines behind = code_first lines behind
code_there (line ∷ front) lines behind =
    code_later line (front ++ (lines ++ behind)) (length front) lines (code_there front lines behind)

pub fill_long : (app : App) (task slot : ℕ) → length (fill_code app task slot) ≡ 4 + arguments_of app task
fill_long app task slot = simp (length-append, length-map-range_with_len) (omega arith)

pub spawn_long : (app : App) (task threshold slot at : ℕ)
    → length (spawn_code app task threshold slot at) ≡ 28 + arguments_of app task
spawn_long app task threshold slot at = simp (length-append, length-map-range_with_len) (omega arith)

-- a line that stores an argument, and one more of them
abbrev pub store_line : ℕ → ℕ → ℕ → Line
store_line cell slot j = plain (instr.StoreAt (cell + j) (slot + 7) (slot + j))

pub stored_more : (k cell slot : ℕ)
    → store_code (k + 1) cell slot 0 ≡ store_code k cell slot 0 ++ store_line cell slot k ∷ []
stored_more k cell slot = map-range_with_len_more (store_line cell slot) 0 k k (omega arith)

-- four parts, one after the other
pub four_appended : (o a b c d : List Line) → (((o ++ a) ++ b) ++ c) ++ d ≡ o ++ (a ++ (b ++ (c ++ d)))
four_appended o a b c d = simp append_assoc
