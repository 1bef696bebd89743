-- The history in which the devices pend one after another, and the core does not look; what a script asks of no device.
use Rattle.rt_live.proofs.Vocabulary.{AllByRecursion, Bool, Call, Contains, Device, Entry, HasDeviceInRange}
use Rattle.rt_live.proofs.Vocabulary.{IRQ_NUMBERS, IsAnswered, LeavesWords, Line, List, Merged, Pend, Pended, Pends}
use Rattle.rt_live.proofs.Vocabulary.{Raised, Some, Steps, Ticks, [], after, all_flat_map, all_weaker, ap, append-nil}
use Rattle.rt_live.proofs.Vocabulary.{arith, cond, dec_lt, dite, false, filter, filter-append, flat_map, get_or}
use Rattle.rt_live.proofs.Vocabulary.{interrupt_asked, is_device, line_pends, map, map-append, ne_eqb, part}
use Rattle.rt_live.proofs.Vocabulary.{pending_bit, pends, refl, replicate, suc, sym, true, zero, zeros_at, ℕ}
use Rattle.rt_live.proofs.Vocabulary.{ℕ_discrete, ◌%◌, ◌++◌, ◌/◌, ◌<◌, ◌==◌, ◌∙◌, ◌∷◌, ◌≡◌, ◌≤◌}
use Rattle.std.proofs.{Common.◌||◌, lemmas.List.get_or-set_other, lemmas.Nat.Bits.bit_at-lt}
use Rattle.std.specs.List.{list_any}
use Rattle.rt_live.proofs.{Onward.zeros, Onward.IsCutHistory, Made.among_those}
use Rattle.rt_live.specs.Devices.{devices, is_of_device}

pub all_replicate : {X : Type 0} (P : X → Type 0) (n : ℕ) (x : X) → P x → AllByRecursion P (replicate n x)
all_replicate P zero x is = tt
all_replicate P (suc n) x is = (is, all_replicate P n x is)

-- calls that ask for nothing are none
pub none_called : (calls : List Call) → map interrupt_asked calls ≡ [] → calls ≡ []
none_called [] none = refl
none_called (c ∷ calls) none = absurd cc

-- a number of which there is no device has no pend
pub none_asked : (script : List Line) (number : ℕ) → 16 ≤ number → AllByRecursion HasDeviceInRange script
    → pends script number ≡ []
none_asked [] number out all = refl
none_asked (Steps n ∷ ls) number out all = none_asked ls number out all.1
none_asked (Ticks n ∷ ls) number out all = none_asked ls number out all.1
none_asked (Pends irq n ∷ ls) number out all = none_asked ls number out all.1
none_asked (Device d irq n ∷ ls) number out all =
    ap (λ b. cond b (replicate n irq) [] ++ pends ls number) (ne_eqb d number (omega (arith, out, all.0)))
    ∙ none_asked ls number out all.1

-- what a line has devices pend, each pend with the device's number
abbrev asks : Line → List (ℕ × ℕ)
asks (Device d irq n) = replicate n (d, irq)
asks line = []

-- the interrupts of those with this number
abbrev of_number : ℕ → List (ℕ × ℕ) → List ℕ
of_number number asked = map (λ (a : ℕ × ℕ). a.1) (filter (λ (a : ℕ × ℕ). a.0 == number) asked)

asked_again : (n d irq number : ℕ) (b : Bool) → (d == number) ≡ b
    → of_number number (replicate n (d, irq)) ≡ cond b (replicate n irq) []
asked_again zero d irq number true is = refl
asked_again zero d irq number false is = refl
asked_again (suc n) d irq number true is = rw is (ap (λ (is : List ℕ). irq ∷ is) (asked_again n d irq number true is))
asked_again (suc n) d irq number false is = rw is (asked_again n d irq number false is)

line_asked : (number : ℕ) (line : Line) → of_number number (asks line) ≡ line_pends number line
line_asked number (Device d irq n) = asked_again n d irq number (d == number) refl
line_asked number (Steps n) = refl
line_asked number (Ticks n) = refl
line_asked number (Pends irq n) = refl

all_asked : (number : ℕ) (script : List Line) → of_number number (flat_map asks script) ≡ pends script number
all_asked number [] = refl
all_asked number (line ∷ script) =
    ap (map (λ (a : ℕ × ℕ). a.1)) (filter-append (λ (a : ℕ × ℕ). a.0 == number) (asks line) (flat_map asks script))
    ∙ map-append (λ (a : ℕ × ℕ). a.1) (filter (λ (a : ℕ × ℕ). a.0 == number) (asks line))
    (filter (λ (a : ℕ × ℕ). a.0 == number) (flat_map asks script))
    ∙ ap (λ (is : List ℕ). is ++ of_number number (flat_map asks script)) (line_asked number line)
    ∙ ap (λ (is : List ℕ). line_pends number line ++ is) (all_asked number script)

-- A history of these pends, with their answers, from these words on. It sets no word behind the core's.
pub record Answers (words : List ℕ) (asked : List (ℕ × ℕ)) : Type 0 where
  pub history : List Entry
  pub left : List ℕ
  pub leads : LeavesWords words history left
  pub devices : (number : ℕ)
      → map interrupt_asked (part history number) ≡ map (λ irq. Some irq) (of_number number asked)
  pub behind : (k : ℕ) → 16 ≤ k → get_or words k 0 ≡ 0 → get_or left k 0 ≡ 0

one_part : (a : ℕ × ℕ) (answer : Pended) (history : List Entry) (asked : List (ℕ × ℕ)) (number : ℕ)
    → map interrupt_asked (part history number) ≡ map (λ irq. Some irq) (of_number number asked) → (b : Bool)
    → map interrupt_asked (map (λ (e : Entry). e.call)
    (cond b (record { line = a.0; call = Pend a.1 answer } ∷ filter (λ (e : Entry). e.line == number) history)
    (filter (λ (e : Entry). e.line == number) history)))
    ≡ map (λ irq. Some irq) (map (λ (p : ℕ × ℕ). p.1) (cond b (a ∷ filter (λ (p : ℕ × ℕ). p.0 == number) asked)
    (filter (λ (p : ℕ × ℕ). p.0 == number) asked)))
one_part a answer history asked number rest true = ap (λ t. Some a.1 ∷ t) rest
one_part a answer history asked number rest false = rest

answer_all : (asked : List (ℕ × ℕ)) (words : List ℕ) → AllByRecursion (λ (a : ℕ × ℕ). a.1 < IRQ_NUMBERS) asked
    → Answers words asked
answer_all [] words low =
    record { history = []; left = words; leads = refl; devices = λ number. refl; behind = λ k far none. none }
answer_all (a ∷ asked) words low =
    by (λ (ws : List ℕ). answer_all asked ws low.1) (ℕ_discrete (pending_bit words a.1) 1)
  where
    with_answer : ((ws : List ℕ) → Answers ws asked) → (answer : Pended) → IsAnswered words (Pend a.1 answer)
        → Answers words (a ∷ asked)
    with_answer more answer is =
        let rest : Answers (after words (Pend a.1 answer)) asked = more (after words (Pend a.1 answer)) in
        record {
          history = record { line = a.0; call = Pend a.1 answer } ∷ rest.history;
          left = rest.left;
          leads = (is, rest.leads);
          devices = λ number.
              one_part a answer rest.history asked number (rest.devices number) (a.0 == number);
          behind = λ k far none.
              rest.behind k far (get_or-set_other words (a.1 / 32) k _ 0 (omega (arith, low.0, far)) ∙ none);
        }

    by : ((ws : List ℕ) → Answers ws asked) → Dec (pending_bit words a.1 ≡ 1) → Answers words (a ∷ asked)
    by more (yes set) = with_answer more Merged set
    by more (no clear) =
        with_answer more Raised (omega (arith, clear, bit_at-lt (get_or words (a.1 / 32) 0) (a.1 % 32)))

-- the interrupt that a line has a device pend, if it has, is one of those that there are
abbrev pub IsNumbered : Line → Type 0
IsNumbered (Device d irq n) = irq < IRQ_NUMBERS
IsNumbered line = Unit {0}

line_numbered : (line : Line) → IsNumbered line → AllByRecursion (λ (a : ℕ × ℕ). a.1 < IRQ_NUMBERS) (asks line)
line_numbered (Device d irq n) low = all_replicate (λ (a : ℕ × ℕ). a.1 < IRQ_NUMBERS) n (d, irq) low
line_numbered (Steps n) low = tt
line_numbered (Ticks n) low = tt
line_numbered (Pends irq n) low = tt

-- all have pended, and there was no look
pub devices_first : (script : List Line) → AllByRecursion HasDeviceInRange script → AllByRecursion IsNumbered script
    → (left : List ℕ) × (history : List Entry) × IsCutHistory script [] [] left history
devices_first script ranges low =
    let all : Answers (zeros 32) (flat_map asks script) =
    answer_all (flat_map asks script) (zeros 32) (all_flat_map (λ (a : ℕ × ℕ). a.1 < IRQ_NUMBERS) asks script
    (all_weaker IsNumbered (λ line. AllByRecursion (λ (a : ℕ × ℕ). a.1 < IRQ_NUMBERS) (asks line)) line_numbered script
    low)) in (
      all.left,
      all.history,
      record {
        legal = all.leads;
        core =
            none_called (part all.history 255) (all.devices 255
            ∙ ap (map (λ (irq : ℕ). Some irq)) (all_asked 255 script ∙ none_asked script 255 (omega arith) ranges));
        devices = λ number ne. all.devices number ∙ ap (map (λ (irq : ℕ). Some irq)) (all_asked number script);
        since = 0;
        within = omega arith;
        early = omega arith;
        ended = record { earlier = all.history; is = sym (append-nil all.history) };
        behind = λ k far. all.behind k far (zeros_at 32 k);
      },
    )

-- no line is one of the device
none_pends : (number : ℕ) (script : List Line) → list_any (is_of_device number) script ≡ false → pends script number
    ≡ []
none_pends number [] none = refl
none_pends number (Steps n ∷ script) none = none_pends number script none
none_pends number (Ticks n ∷ script) none = none_pends number script none
none_pends number (Pends irq n ∷ script) none = none_pends number script none
none_pends number (Device d irq n ∷ script) none = by (λ rest. none_pends number script rest) (d == number) refl
  where
    by : (list_any (is_of_device number) script ≡ false → pends script number ≡ []) → (b : Bool) → d == number ≡ b
        → pends (Device d irq n ∷ script) number ≡ []
    by others true is = let no_ : true ≡ false = sym (ap (λ c. c || list_any (is_of_device number) script) is) ∙ none in
        absurd cc
    by others false is =
        ap (λ c. cond c (replicate n irq) [] ++ pends script number) is
        ∙ others (sym (ap (λ c. c || list_any (is_of_device number) script) is) ∙ none)

-- the script has no device of a number that is none of its devices'
pub not_asked : (number : ℕ) (script : List Line) → AllByRecursion HasDeviceInRange script
    → ¬ Contains (devices script) number → pends script number ≡ []
not_asked number script ranges out =
    dite (dec_lt number 16) (λ within. by (is_device script number) refl within)
    (λ far. none_asked script number (omega (arith, far)) ranges)
  where
    by : (b : Bool) → is_device script number ≡ b → number < 16 → pends script number ≡ []
    by true is within = absurd (out (among_those (is_device script) 16 number within is))
    by false is within = none_pends number script is
