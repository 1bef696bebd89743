-- The lines of all kinds, part by part.
use Rattle.std.proofs.Common.{◌≡◌, ℕ, List, [], ◌∷◌, ◌++◌, codes, flat_map, map, Result, Ok, Err, OnOk}
use Rattle.std.proofs.Common.{ap, append_assoc, sym, ◌∙◌}
use Rattle.std.proofs.lemmas.List.Concat.{flat_map-append}
use Rattle.rt_code.specs.Image.{Image}
use Rattle.rt_listing.specs.Words.{ops, op_word}
use Rattle.rt_cycles.specs.Report.{kind_line, kinds}

-- parts of the first words of instructions; operations come last
abbrev pub words : List (List ℕ)
words =
    codes "set" ∷ codes "copy" ∷ codes "load" ∷ codes "store" ∷ codes "loadat" ∷ codes "storeat" ∷ []

abbrev pub ways : List (List ℕ)
ways =
    codes "jump" ∷ codes "jumpz" ∷ codes "call" ∷ codes "back" ∷ codes "ret" ∷ []

abbrev pub outers : List (List ℕ)
outers =
    codes "emit" ∷ codes "post" ∷ codes "clock" ∷ codes "alarm" ∷ codes "noalarm" ∷ codes "raise" ∷ []

abbrev pub masks : List (List ℕ)
masks =
    codes "restore" ∷ codes "mask" ∷ codes "unmask" ∷ codes "mark" ∷ codes "serve" ∷ codes "wait" ∷ []

-- what is said of each kind, part by part
of_all : (said : List ℕ → List ℕ) → flat_map said kinds
    ≡ flat_map said words ++ (flat_map said ways ++ (flat_map said outers ++ (flat_map said masks
    ++ flat_map (λ o. said (op_word o)) ops)))
of_all said =
    let last = map op_word ops in
    flat_map-append said words (ways ++ (outers ++ (masks ++ last)))
    ∙ ap (λ rest. flat_map said words ++ rest) (flat_map-append said ways (outers ++ (masks ++ last))
    ∙ ap (λ rest. flat_map said ways ++ rest) (flat_map-append said outers (masks ++ last)
    ∙ ap (λ rest. flat_map said outers ++ rest) (flat_map-append said masks last)))

-- six texts, one behind the other
regroup : (o w y u m p : List ℕ) → ((((o ++ w) ++ y) ++ u) ++ m) ++ p ≡ o ++ (w ++ (y ++ (u ++ (m ++ p))))
regroup o w y u m p =
    append_assoc (((o ++ w) ++ y) ++ u) m p ∙ append_assoc ((o ++ w) ++ y) u (m ++ p)
    ∙ append_assoc (o ++ w) y (u ++ (m ++ p)) ∙ append_assoc o w (y ++ (u ++ (m ++ p)))

-- the parts were appended one after the other
pub kinds_by : {T E : Type 0} (img : Image) (r : Result T E) (old a b c d new : List ℕ)
    → a ≡ old ++ flat_map (kind_line img) words → b ≡ a ++ flat_map (kind_line img) ways
    → c ≡ b ++ flat_map (kind_line img) outers → d ≡ c ++ flat_map (kind_line img) masks
    → OnOk r (new ≡ d ++ flat_map (λ o. kind_line img (op_word o)) ops)
    → OnOk r (new ≡ old ++ flat_map (kind_line img) kinds)
kinds_by img (Ok x) old a b c d new ea eb ec ed e =
    let w = flat_map (kind_line img) words in
    let y = flat_map (kind_line img) ways in
    let u = flat_map (kind_line img) outers in
    let m = flat_map (kind_line img) masks in
    let p = flat_map (λ o. kind_line img (op_word o)) ops in
    e ∙ ap (λ l. l ++ p) (ed ∙ ap (λ l. l ++ m) (ec ∙ ap (λ l. l ++ u) (eb ∙ ap (λ l. l ++ y) ea)))
    ∙ regroup old w y u m p ∙ ap (λ l. old ++ l) (sym (of_all (kind_line img)))
kinds_by img (Err x) old a b c d new ea eb ec ed e = tt
