-- What the lines of a text tell: lines of a script, and words for inputs of the board.
use Rattle.std.proofs.Common.{◌≡◌, ◌<◌, ◌^◌, ◌+◌, ◌||◌, ◌&&◌, ℕ, Bool, Contains, List, [], ◌∷◌, ◌++◌, map, find, filter}
use Rattle.std.proofs.Common.{bytes_eq, codes, nat_le, nat_lt, slice_get, Option, Some, None}
use Rattle.std.proofs.Common.{Result, Ok, Err, IfOk, IfSome, sym, ap, subst, ◌∙◌, append-nil}
use Rattle.std.specs.List.{AllByRecursion}
use Rattle.std.specs.Option.{ok_or}
use Rattle.std.specs.Str.Parse.{digits_value}
use Rattle.std.proofs.lemmas.Bool.{cond_both, ltb-true}
use Rattle.std.proofs.lemmas.Grind.{flat_map-append}
use Rattle.rt_lemmas.proofs.Bools.{and_right}
use Rattle.rt_lemmas.proofs.Lists.{mapped_at}
use Rattle.rt_lemmas.proofs.Membership.{all_append, all_from_members, contains_at}
use Rattle.rt_lemmas.proofs.Options.{if_some-map}
use Rattle.rt_ids.specs.Lists.{is_some_and}
use Rattle.rt_ids.specs.Names.{Names}
use Rattle.rt_ids.specs.Word.{is_identifier}
use Rattle.rt_ids.specs.declared.limits.TheConstants.{SCRIPT_EVENTS}
use Rattle.rt_lines.specs.Answers.{and_make}
use Rattle.rt_lines.specs.Numbers.{are_digits, has_no_leading_zero, number_below}
use Rattle.rt_lines.specs.Parts.{spaced_words}
use Rattle.rt_lines.specs.Reading.{Lead}
use Rattle.rt_lines.proofs.Decoded.{if_some_from, if_ok_chosen, if_ok_or, if_ok_then, if_ok_make}
use Rattle.rt_lines.proofs.Found.{found_at}
use Rattle.rt_lines.proofs.Reading.{kept}
use Rattle.rt_script.specs.Script as scripts_lines
use Rattle.rt_script.specs.Script.{HasName, HasNames, count}
use Rattle.rt_script.specs.Wording as scripts
use Rattle.rt_script.specs.declared.line.Line.{Line}
use Rattle.rt_script.specs.declared.line.Line.TheVariants.{Steps, Ticks, Pends, Device}
use Rattle.rt_script.specs.declared.words.Wrong.{Wrong}
use Rattle.rt_script.proofs.Declared.{line_right}
use Rattle.rt_app.specs.Tree.{App}
use Rattle.rt_app.proofs.Different.{contained}
use Rattle.rt_board.specs.Board.{Board}
use Rattle.rt_board.specs.Wording.{is_named}
use Rattle.rt_board.specs.declared.board.Input.{Input}
use Rattle.rt_given.specs.Given.{asks, asked, asked_line, count_of, is_for, HasDeviceInRange, GivesInput, GiveInputs}
use Rattle.rt_given.specs.Wording.{asked_or_wrong, asked_of, word_of, input_named, input_at, given, give_of, words_ask}
use Rattle.rt_given.specs.Wording.{line_of, only_local, only_input, giving, device_line, device_words, DeviceWords}
use Rattle.rt_given.specs.Wording.{asked_device}
use Rattle.rt_given.proofs.Declared.{device_right}
use Rattle.rt_given.specs.Reading.{with_said, given_reader}
use Rattle.rt_given.specs.declared.line.GivenLine.{GivenLine}
use Rattle.rt_given.specs.declared.line.GivenLine.TheVariants.{Counts, Draws, Gives}
use Rattle.rt_given.specs.declared.refusal.Cause.TheVariants as cause

-- a number that is read is below its bound
below_bound : (bound : ℕ) (word : List ℕ) → IfSome (number_below bound word) (λ n. n < bound)
below_bound bound word =
    cond_both (are_digits 10 word && has_no_leading_zero word && nat_lt (digits_value 10 word) bound)
    (Some (digits_value 10 word)) None (λ o. IfSome o (λ n. n < bound))
    (λ is. ltb-true (digits_value 10 word) bound
    (and_right (are_digits 10 word && has_no_leading_zero word) (nat_lt (digits_value 10 word) bound) is))
    (λ _. tt)

-- what holds of all holds of those that pass a test
all_filtered : {X : Type 0} (P : X → Type 0) (test : X → Bool) (xs : List X) → AllByRecursion P xs
    → AllByRecursion P (filter test xs)
all_filtered P test [] all = tt
all_filtered P test (x ∷ xs) all =
    cond_both (test x) (x ∷ filter test xs) (filter test xs) (AllByRecursion P)
    (λ _. (all.0, all_filtered P test xs all.1)) (λ _. all_filtered P test xs all.1)

module _ (names : Names) (app : App) (board : Board) where
  -- the script's line, where it is one, requests a declared interrupt; its device is one that there is; and a word is
  -- for an input
  pub record IsRight (said : GivenLine) : Type 0 where
    pub named : HasNames names (asked_line said)
    pub device : HasDeviceInRange said
    pub gives : GivesInput board said

  abbrev IsInputLocal : ℕ → Type 0
  IsInputLocal n = Contains (map (λ input. input.local) board.inputs) n

  input_of_name : (name : List ℕ) → IfSome (input_named app.locals board name) IsInputLocal
  input_of_name name =
      let test : Input → Bool = λ input. is_some_and (is_named name) (slice_get app.locals input.local) in
      if_some-map (λ (input : Input). input.local) IsInputLocal (find test board.inputs)
      (if_some_from (find test board.inputs) (λ input. IsInputLocal input.local)
      (λ input is. let place = found_at test board.inputs input is in
      contained (map (λ (input : Input). input.local) board.inputs) place.0 input.local
      (mapped_at (λ (input : Input). input.local) board.inputs place.0 input place.1)))

  input_right : (name : List ℕ) → IfOk (input_at app board name) IsInputLocal
  input_right name =
      if_ok_chosen (is_identifier name) (ok_or (input_named app.locals board name) cause.UnknownInput)
      (Err cause.BadLine) IsInputLocal
      (λ _. if_ok_or (input_named app.locals board name) cause.UnknownInput IsInputLocal (input_of_name name)) tt

  -- nothing is said, or something right
  abbrev pub AllRight : Option GivenLine → Type 0
  AllRight said = IfSome said IsRight

  given_right : (name number : List ℕ) → IfOk (given app board name number) AllRight
  given_right name number =
      if_ok_then AllRight (word_of number)
      (λ word. and_make (input_at app board name) (λ local. Some (Gives local word)))
      (λ word. word < 2 ^ 32)
      (if_ok_or (number_below (2 ^ 32) number) cause.BadLine (λ word. word < 2 ^ 32) (below_bound (2 ^ 32) number))
      (λ word short. if_ok_make AllRight (input_at app board name) (λ local. Some (Gives local word)) IsInputLocal
      (input_right name) (λ local is. record { named = tt; device = tt; gives = (is, short) }))

  give_right : (words : List (List ℕ)) → IfOk (give_of app board words) AllRight
  give_right [] = tt
  give_right (name ∷ []) = tt
  give_right (name ∷ number ∷ []) = given_right name number
  give_right (name ∷ number ∷ more ∷ words) = tt

  asks_right : (line : Line) → HasName names line × scripts_lines.HasDeviceInRange line → IsRight (asks line)
  asks_right (Steps n) right = record { named = (right.0, tt); device = tt; gives = tt }
  asks_right (Ticks n) right = record { named = (right.0, tt); device = tt; gives = tt }
  asks_right (Pends irq n) right = record { named = (right.0, tt); device = tt; gives = tt }
  asks_right (Device d irq n) right = record { named = (right.0, tt); device = right.1; gives = tt }

  asked_right : (line : List ℕ) → IfOk (asked_of names line) AllRight
  asked_right line = by (scripts.line_of names line) (line_right names line)
    where
      by : (r : Result (Option Line) Wrong)
          → IfOk r (λ asked. IfSome asked (λ line. HasName names line × scripts_lines.HasDeviceInRange line))
          → IfOk (asked_or_wrong r) AllRight
      by (Ok None) right = tt
      by (Ok (Some line)) right = asks_right line right
      by (Err w) right = tt

  only_right : (inputs : List Input) → AllByRecursion (λ input. IsInputLocal input.local) inputs
      → IfOk (only_local inputs) IsInputLocal
  only_right [] all = tt
  only_right (input ∷ []) all = all.0
  only_right (input ∷ other ∷ more) all = tt

  input_of_irq : (irq : ℕ) → IfOk (only_local (filter (is_for app irq) board.inputs)) IsInputLocal
  input_of_irq irq =
      only_right (filter (is_for app irq) board.inputs)
      (all_filtered (λ (input : Input). IsInputLocal input.local) (is_for app irq) board.inputs
      (all_from_members (λ (input : Input). IsInputLocal input.local) board.inputs
      (λ input there. let place = contains_at board.inputs input there in
      contained (map (λ (i : Input). i.local) board.inputs) place.0 input.local
      (mapped_at (λ (i : Input). i.local) board.inputs place.0 input place.1))))

  giving_right : (how : List ℕ) (number : ℕ) (asked : Line) → number < 2 ^ 32
      → HasName names asked × scripts_lines.HasDeviceInRange asked
      → IfOk (and_make (only_input names app board asked) (λ local. Some (giving how number local asked))) AllRight
  giving_right how number (Steps n) short right = tt
  giving_right how number (Ticks n) short right = tt
  giving_right how number (Pends irq n) short right = tt
  giving_right how number (Device d irq n) short right =
      if_ok_make AllRight (only_local (filter (is_for app irq) board.inputs))
      (λ local. Some (giving how number local (Device d irq n))) IsInputLocal (input_of_irq irq)
      (λ local is. cond_both (bytes_eq how (codes "from")) (Counts d irq n local number) (Draws d irq n local number)
      IsRight (λ _. record { named = (right.0, tt); device = right.1; gives = (is, short) })
      (λ _. record { named = (right.0, tt); device = right.1; gives = (is, short) }))

  device_line_right : (line : List ℕ) (told : Option DeviceWords)
      → IfOk (device_line names app board line told) AllRight
  device_line_right line None = asked_right line
  device_line_right line (Some w) =
      if_ok_then AllRight (word_of w.number) _ (λ word. word < 2 ^ 32)
      (if_ok_or (number_below (2 ^ 32) w.number) cause.BadLine (λ word. word < 2 ^ 32) (below_bound (2 ^ 32) w.number))
      (λ number short. if_ok_then AllRight (asked_device names w) _
      (λ asked. HasName names asked × scripts_lines.HasDeviceInRange asked) (device_right names w)
      (λ asked right. giving_right w.how number asked short right))

  words_right : (line : List ℕ) (words : List (List ℕ))
      → IfOk (words_ask names app board line words) AllRight
  words_right line [] = asked_right line
  words_right line (first ∷ words) =
      if_ok_chosen (bytes_eq first (codes "give")) (give_of app board words) _ AllRight
      (λ _. give_right words)
      (if_ok_chosen (bytes_eq first (codes "device")) (device_line names app board line (device_words words))
      (asked_of names line) AllRight (λ _. device_line_right line (device_words words)) (asked_right line))

  pub said_right : (line : List ℕ) → IfOk (line_of names app board line) AllRight
  said_right line =
      if_ok_chosen (scripts.is_blank line || scripts.is_comment line) (Ok None) _ AllRight
      (λ _. tt)
      (if_ok_chosen (scripts.is_loose line) (Err cause.BadLine)
      (words_ask names app board line (spaced_words line)) AllRight (λ _. tt)
      (words_right line (spaced_words line)))

  -- lines whose interrupts are declared, and whose words are for inputs
  pub record AreRight (lines : List GivenLine) : Type 0 where
    pub named : HasNames names (asked lines)
    pub inputs : GiveInputs board lines

  asked_push : (lines : List GivenLine) (line : GivenLine)
      → asked (lines ++ line ∷ []) ≡ asked lines ++ asked_line line
  asked_push lines line =
      flat_map-append asked_line lines (line ∷ [])
      ∙ ap (λ more. asked lines ++ more) (append-nil (asked_line line))

  one_more : (lines : List GivenLine) (line : GivenLine) → AreRight lines → IsRight line
      → AreRight (lines ++ line ∷ [])
  one_more lines line are is = record {
    named =
        subst (HasNames names) (sym (asked_push lines line))
        (all_append (HasName names) (asked lines) (asked_line line) are.named is.named);
    inputs = all_append (GivesInput board) lines (line ∷ []) are.inputs (is.gives, tt);
  }

  behind_said : (lines : List GivenLine) (said : Option GivenLine) → AreRight lines → IfSome said IsRight
      → IfOk (with_said lines said) AreRight
  behind_said lines None are is = are
  behind_said lines (Some line) are is =
      if_ok_chosen (nat_le (count (asked lines) + count_of line) SCRIPT_EVENTS) (Ok (lines ++ line ∷ []))
      (Err cause.TooManyEvents) AreRight (λ _. one_more lines line are is) tt

  -- the lines of a text
  pub lead_right : (ls : List (List ℕ)) (lines : List GivenLine) → Lead (given_reader names app board) [] ls lines
      → AreRight lines
  lead_right ls lines lead =
      kept (given_reader names app board) AreRight
      (λ s line are. if_ok_then AreRight (line_of names app board line) (with_said s)
      AllRight (said_right line) (λ said. behind_said s said are))
      [] lines ls lead (record { named = tt; inputs = tt })
