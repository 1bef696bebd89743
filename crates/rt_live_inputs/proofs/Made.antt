-- What a run is made of: the lines that ask for no words, the mailboxes, and what is at their sides.
use Rattle.std.proofs.Common.{◌≡◌, ℕ, zero, suc, ◌+◌, ◌<◌, ◌≤◌, Bool, true, false, List, [], ◌∷◌, ◌++◌}
use Rattle.std.proofs.Common.{map, flat_map, fold, length, take, drop, get_or, if◌then◌else◌, Some, None, refl, ap, sym}
use Rattle.std.proofs.Common.{subst, ◌∙◌, append-nil, arith}
use Rattle.std.proofs.lemmas.List.{length-append, take-append-drop}
use Rattle.std.specs.List.{AllByRecursion, list_any}
use Rattle.std.proofs.Common.{option_to_list}
use Rattle.std.proofs.lemmas.List.Concat.{flat_map-append}
use Rattle.rt_lemmas.proofs.Lists.{flat_map_next}
use Rattle.rt_lemmas.proofs.Membership.{all_append}
use Rattle.atomic_table.specs.Seated.{TableId}
use Rattle.rt_script.specs.Generated.{generator_of}
use Rattle.rt_script.specs.Script.{HasDeviceInRange, IsScript, count}
use Rattle.rt_script.specs.Script.{count_of as line_events}
use Rattle.rt_script.specs.declared.line.Line.{Line}
use Rattle.rt_inputs.proofs.Words.{behind_all, front_all}
use Rattle.rt_given.specs.Given.{asked_line}
use Rattle.std.proofs.lemmas.List.Sums.{sum_by-append, sum_by-cons}
use Rattle.rt_values.specs.Sides.{GiverSide, TakerSide, new_giver, new_taker}
use Rattle.rt_given.specs.Given.{asked, count_of}
use Rattle.rt_given.specs.Words.{words_asked}
use Rattle.rt_given.specs.declared.line.GivenLine.{GivenLine}
use Rattle.rt_given.specs.declared.line.GivenLine.TheVariants as given
use Rattle.rt_given.specs.declared.source.Source.TheVariants.{Counting, Drawing}
use Rattle.rt_given.proofs.Sources.{words_long}
use Rattle.rt_inputs.proofs.Scripted.{line_count}
use Rattle.rt_live_inputs.specs.Boxes.{box_of, boxes, is_same, line_words, plain, plain_line, with_box, words_through}
use Rattle.rt_live_inputs.specs.Giving.{words_in}
use Rattle.rt_live_inputs.specs.declared.boxes.BoxKind.{BoxKind as Box}
use Rattle.rt_live_inputs.specs.declared.device.GivingDevice.{GivingDevice}
use Rattle.rt_live_inputs.specs.Inside.Able.{AllCanGive, CanGive}
use Rattle.rt_live_inputs.specs.Inside.Making.{AreGivers}

-- one device more
pub givers_more : (script : List GivenLine) (kinds : List Box) (ms : List TableId) (ds : List GivingDevice) (kind : Box)
    (m : TableId) (d : GivingDevice) → AreGivers script kinds ms ds → d.giver ≡ new_giver m
    → words_in d.lines.items ≡ words_through script kind
    → AreGivers script (kinds ++ kind ∷ []) (ms ++ m ∷ []) (ds ++ d ∷ [])
givers_more script [] [] [] kind m d are giver words = ((giver, words), tt)
givers_more script [] [] (e ∷ ds) kind m d are giver words = absurd are
givers_more script [] (n ∷ ms) ds kind m d are giver words = absurd are
givers_more script (k ∷ kinds) [] ds kind m d are giver words = absurd are
givers_more script (k ∷ kinds) (n ∷ ms) [] kind m d are giver words = absurd are
givers_more script (k ∷ kinds) (n ∷ ms) (e ∷ ds) kind m d are giver words =
    (are.0, givers_more script kinds ms ds kind m d are.1 giver words)

-- as many mailboxes and devices as kinds
pub givers_long : (script : List GivenLine) (kinds : List Box) (ms : List TableId) (ds : List GivingDevice)
    → AreGivers script kinds ms ds → (length ms ≡ length kinds) × (length ds ≡ length kinds)
givers_long script [] [] [] are = (refl, refl)
givers_long script [] [] (e ∷ ds) are = absurd are
givers_long script [] (n ∷ ms) ds are = absurd are
givers_long script (k ∷ kinds) [] ds are = absurd are
givers_long script (k ∷ kinds) (n ∷ ms) [] are = absurd are
givers_long script (k ∷ kinds) (n ∷ ms) (e ∷ ds) are =
    let rest = givers_long script kinds ms ds are.1 in (ap suc rest.0, ap suc rest.1)

-- the mailboxes of the devices
pub givers_boxes : (script : List GivenLine) (kinds : List Box) (ms : List TableId) (ds : List GivingDevice)
    → AreGivers script kinds ms ds → map (λ (d : GivingDevice). d.giver.mailbox) ds ≡ ms
givers_boxes script [] [] [] are = refl
givers_boxes script [] [] (e ∷ ds) are = absurd are
givers_boxes script [] (n ∷ ms) ds are = absurd are
givers_boxes script (k ∷ kinds) [] ds are = absurd are
givers_boxes script (k ∷ kinds) (n ∷ ms) [] are = absurd are
givers_boxes script (k ∷ kinds) (n ∷ ms) (e ∷ ds) are =
    let rest = givers_boxes script kinds ms ds are.1 in
    let here = are.0.0 in λ i. (here i).mailbox ∷ rest i

-- a line's words are no more than its events
words_few : (line : GivenLine) → length (words_asked line) ≤ count_of line
words_few (given.Steps n) = omega arith
words_few (given.Ticks n) = omega arith
words_few (given.Pends irq n) = omega arith
words_few (given.Device d irq n) = omega arith
words_few (given.Counts d irq n local first) = omega (arith, words_long n (Counting first))
words_few (given.Draws d irq n local seed) = omega (arith, words_long n (Drawing (generator_of seed d)))
words_few (given.Gives local word) = omega arith

line_few : (box : Box) (line : GivenLine) → length (line_words box line) ≤ count_of line
line_few box line = by (list_any (is_same box) (box_of line))
  where
    by : (own : Bool) → length (if own then words_asked line else []) ≤ count_of line
    by true = words_few line
    by false = omega arith

-- the words through a mailbox are no more than the script has events
pub through_few : (script : List GivenLine) (box : Box) → length (words_through script box) ≤ count (asked script)
through_few [] box = omega arith
through_few (line ∷ script) box = omega (
  arith,
  length-append (line_words box line) (words_through script box),
  line_few box line,
  through_few script box,
  line_count line script,
)

-- the devices can give their words
pub can_give : (script : List GivenLine) → count (asked script) ≤ 1000000 → (kinds : List Box) (ms : List TableId)
    (ds : List GivingDevice) → AreGivers script kinds ms ds → (k : ℕ) (m : TableId) (d : GivingDevice) → k < length ds
    → CanGive (get_or ms k m) (get_or ds k d)
can_give script few [] [] [] are k m d within = absurd (omega (arith, within))
can_give script few [] [] (e ∷ ds) are k m d within = absurd are
can_give script few [] (n ∷ ms) ds are k m d within = absurd are
can_give script few (b ∷ kinds) [] ds are k m d within = absurd are
can_give script few (b ∷ kinds) (n ∷ ms) [] are k m d within = absurd are
can_give script few (b ∷ kinds) (n ∷ ms) (e ∷ ds) are zero m d within = record {
  mailbox_is = ap (λ (g : GiverSide). g.mailbox) are.0.0;
  room = omega (
    arith,
    ap (λ (g : GiverSide). length g.calls) are.0.0,
    ap length are.0.1,
    through_few script b,
    few,
  );
}
can_give script few (b ∷ kinds) (n ∷ ms) (e ∷ ds) are (suc k) m d within =
    can_give script few kinds ms ds are.1 k m d (omega (arith, within))

pub all_can_give : (script : List GivenLine) → count (asked script) ≤ 1000000 → (kinds : List Box) (ms : List TableId)
    (ds : List GivingDevice) → AreGivers script kinds ms ds → AllCanGive ms ds
all_can_give script few kinds ms ds are =
    let long = givers_long script kinds ms ds are in
    (long.1 ∙ sym long.0, can_give script few kinds ms ds are)

pub takers_boxes : (ms : List TableId) → map (λ (t : TakerSide). t.mailbox) (map new_taker ms) ≡ ms
takers_boxes [] = refl
takers_boxes (m ∷ ms) = ap (λ (ns : List TableId). m ∷ ns) (takers_boxes ms)

-- one line more
fold_on : {A B : Type 0} (f : A → B → A) (a : A) (xs ys : List B) → fold f a (xs ++ ys) ≡ fold f (fold f a xs) ys
fold_on f a [] ys = refl
fold_on f a (x ∷ xs) ys = fold_on f (f a x) xs ys

module _ (script : List GivenLine) (i : ℕ) (line : GivenLine) (below : i < length script)
    (is : line ≡ get_or script i line) where
  boxes_next : boxes (take (i + 1) script) ≡ fold with_box (boxes (take i script)) (box_of line)
  boxes_next =
      ap (fold with_box []) (flat_map_next box_of script i line below is)
      ∙ fold_on with_box [] (flat_map box_of (take i script)) (box_of line)

  -- it has no mailbox
  pub boxes_same : option_to_list None ≡ box_of line → boxes (take (i + 1) script) ≡ boxes (take i script)
  boxes_same none = boxes_next ∙ ap (fold with_box (boxes (take i script))) (sym none)

  -- or it has one
  pub boxes_with : (kind : Box) → option_to_list (Some kind) ≡ box_of line
      → boxes (take (i + 1) script) ≡ with_box (boxes (take i script)) kind
  boxes_with kind one = boxes_next ∙ ap (fold with_box (boxes (take i script))) (sym one)

  words_next : (kind : Box)
      → words_through (take (i + 1) script) kind ≡ words_through (take i script) kind ++ line_words kind line
  words_next kind = flat_map_next (line_words kind) script i line below is

  -- a line whose words do not go through a mailbox
  pub words_same : (kind : Box) → list_any (is_same kind) (box_of line) ≡ false
      → words_through (take (i + 1) script) kind ≡ words_through (take i script) kind
  words_same kind other =
      words_next kind
      ∙ ap (λ b. words_through (take i script) kind ++ (if b then words_asked line else [])) other
      ∙ append-nil (words_through (take i script) kind)

  -- or do
  pub words_more : (kind : Box) → list_any (is_same kind) (box_of line) ≡ true → (lines : List GivenLine)
      → words_in lines ≡ words_through (take i script) kind
      → words_in (lines ++ line ∷ []) ≡ words_through (take (i + 1) script) kind
  words_more kind own lines so_far =
      flat_map-append words_asked lines (line ∷ [])
      ∙ ap (λ (t : List ℕ). words_in lines ++ t) (append-nil (words_asked line))
      ∙ ap (λ (t : List ℕ). t ++ words_asked line) so_far
      ∙ sym (words_next kind ∙ ap (λ b. words_through (take i script) kind ++ (if b then words_asked line else [])) own)

-- what is so of all lines that ask for something is so of one that asks for no words
plain_all : (P : Line → Type 0) (line : GivenLine) → AllByRecursion P (asked_line line)
    → AllByRecursion P (plain_line line)
plain_all P (given.Steps n) all = all
plain_all P (given.Ticks n) all = all
plain_all P (given.Pends irq n) all = all
plain_all P (given.Device d irq n) all = all
plain_all P (given.Counts d irq n local first) all = tt
plain_all P (given.Draws d irq n local seed) all = tt
plain_all P (given.Gives local word) all = tt

asked_at : (P : Line → Type 0) (script : List GivenLine) (i : ℕ) (line : GivenLine) → i < length script
    → line ≡ get_or script i line → AllByRecursion P (asked script) → AllByRecursion P (asked_line line)
asked_at P [] i line below is all = absurd (omega (arith, below))
asked_at P (l ∷ script) zero line below is all =
    subst (λ (k : GivenLine). AllByRecursion P (asked_line k)) (sym is) (front_all P (asked_line l) (asked script) all)
asked_at P (l ∷ script) (suc i) line below is all =
    asked_at P script i line (omega (arith, below)) is (behind_all P (asked_line l) (asked script) all)

-- a line that asks for no words, as a script's line
module _ (script : List GivenLine) (scripted : IsScript (asked script)) (i : ℕ) (line : GivenLine)
    (below : i < length script) (is : line ≡ get_or script i line) (one : Line)
    (own : option_to_list (Some one) ≡ plain_line line) where
  pub plain_device : HasDeviceInRange one
  plain_device =
      (subst (AllByRecursion HasDeviceInRange) (sym own)
      (plain_all HasDeviceInRange line (asked_at HasDeviceInRange script i line below is scripted.devices))).0

  pub plain_next : plain (take (i + 1) script) ≡ plain (take i script) ++ one ∷ []
  plain_next =
      flat_map_next plain_line script i line below is
      ∙ ap (λ (ls : List Line). plain (take i script) ++ ls) (sym own)

both_counts : (xs ys : List Line) → count (xs ++ ys) ≡ count xs + count ys
both_counts xs ys = sum_by-append line_events xs ys

line_plain : (line : GivenLine) → count (plain_line line) ≤ count (asked_line line)
line_plain (given.Steps n) = omega arith
line_plain (given.Ticks n) = omega arith
line_plain (given.Pends irq n) = omega arith
line_plain (given.Device d irq n) = omega arith
line_plain (given.Counts d irq n local first) = omega arith
line_plain (given.Draws d irq n local seed) = omega arith
line_plain (given.Gives local word) = omega arith

plain_few : (script : List GivenLine) → count (plain script) ≤ count (asked script)
plain_few [] = omega arith
plain_few (line ∷ script) = omega (
  arith,
  both_counts (plain_line line) (plain script),
  both_counts (asked_line line) (asked script),
  line_plain line,
  plain_few script,
)

-- with the line they are no more events than all
pub plain_fits : (script : List GivenLine) (i : ℕ) (line : GivenLine) → i < length script → line ≡ get_or script i line
    → (one : Line) → option_to_list (Some one) ≡ plain_line line
    → count (plain (take i script)) + line_events one ≤ count (asked script)
plain_fits script i line below is one own =
    let next : plain (take (i + 1) script) ≡ plain (take i script) ++ one ∷ [] =
    flat_map_next plain_line script i line below is
    ∙ ap (λ (ls : List Line). plain (take i script) ++ ls) (sym own) in
    omega (
      arith,
      ap count next,
      both_counts (plain (take i script)) (one ∷ []),
      sum_by-cons line_events one [],
      plain_few (take (i + 1) script),
      ap (λ (s : List GivenLine). count (asked s)) (take-append-drop (i + 1) script),
      ap count (flat_map-append asked_line (take (i + 1) script) (drop (i + 1) script)),
      both_counts (asked (take (i + 1) script)) (asked (drop (i + 1) script)),
    )

-- what is so of all lines of a script is so of those that ask for no words
pub plain_whole : (P : Line → Type 0) (script : List GivenLine) → AllByRecursion P (asked script)
    → AllByRecursion P (plain script)
plain_whole P [] all = tt
plain_whole P (l ∷ script) all =
    all_append P (plain_line l) (plain script) (plain_all P l (front_all P (asked_line l) (asked script) all))
    (plain_whole P script (behind_all P (asked_line l) (asked script) all))
