-- Histories that go on: looks in them, the last looks of a run, and how a run that was cut goes on.
use Rattle.rt_live.proofs.Vocabulary.{AllByRecursion, Call, CallsLast, Entry, Event, IsEmptyLook, IsHistory, IsLegal}
use Rattle.rt_live.proofs.Vocabulary.{IsWholeLook, Latch, LeavesWords, Line, List, Pend, Some, Step, [], after}
use Rattle.rt_live.proofs.Vocabulary.{all_append, ap, append-nil, append_assoc, arith, core_events, dec_lt, dite, drop}
use Rattle.rt_live.proofs.Vocabulary.{filter, filter-append, flat_map, flat_map-append, get_or, inl, inr, interleaving}
use Rattle.rt_live.proofs.Vocabulary.{interrupt_asked, last_turns, length, length-append, length-set, look_arrivals}
use Rattle.rt_live.proofs.Vocabulary.{look_calls, look_calls_from, looks, map, map-append, nil_from_length, part}
use Rattle.rt_live.proofs.Vocabulary.{part_first, pends, refl, replicate, set, steps, subst, suc, sym, take}
use Rattle.rt_live.proofs.Vocabulary.{take-append-drop, turns, with_looks, zero, zeros_at, ℕ, ℕ_discrete, ⊎_elim, ◌*◌}
use Rattle.rt_live.proofs.Vocabulary.{◌++◌, ◌+◌, ◌-◌, ◌<◌, ◌∙◌, ◌∷◌, ◌≡◌, ◌≢◌, ◌≤◌, ◌⊎◌}
use Rattle.rt_live.proofs.Woven.{looks-append, looks_own, repeated_steps, length-latches, cut_before}
use Rattle.rt_live.proofs.Woven.{interleaving_finished, latches_on}
use Rattle.std.proofs.{Common.eqb, Common.length-drop, lemmas.List.drop-append-le, lemmas.List.ext_get_or}
use Rattle.rt_words.specs.History.{entries}
use Rattle.rt_words.proofs.{Bits.zero_here, Bits.zero_below, Parting.part_rest}
use Rattle.rt_live.specs.Interleaving.{last_looks}

-- a history, and one that goes on
pub leads_on : (a b c : List ℕ) (front behind : List Entry) → LeavesWords a front b → LeavesWords b behind c
    → LeavesWords a (front ++ behind) c
leads_on a b c [] behind first then = subst (λ (w : List ℕ). LeavesWords w behind c) (sym first) then
leads_on a b c (e ∷ es) behind first then = (first.0, leads_on (after a e.call) b c es behind first.1 then)

-- a history is cut in two
pub led_apart : (a c : List ℕ) (front behind : List Entry) → LeavesWords a (front ++ behind) c
    → (b : List ℕ) × LeavesWords a front b × LeavesWords b behind c
led_apart a c [] behind leads = (a, refl, leads)
led_apart a c (e ∷ es) behind leads =
    let rest = led_apart (after a e.call) c es behind leads.1 in (rest.0, (leads.0, rest.1), rest.2)

-- what a call leaves is as many words
pub as_many : (words : List ℕ) (c : Call) → length (after words c) ≡ length words
as_many words (Pend n a) = length-set words _ _
as_many words (Latch k word) = length-set words _ _

pub led_as_many : (a b : List ℕ) (history : List Entry) → LeavesWords a history b → length b ≡ length a
led_as_many a b [] leads = ap length (sym leads)
led_as_many a b (e ∷ es) leads = led_as_many (after a e.call) b es leads.1 ∙ as_many a e.call

pub part_on : (front behind : List Entry) (n : ℕ) → part (front ++ behind) n ≡ part front n ++ part behind n
part_on front behind n =
    ap (map (λ (e : Entry). e.call)) (filter-append (λ (e : Entry). eqb e.line n) front behind)
    ∙ map-append (λ (e : Entry). e.call) (filter (λ (e : Entry). eqb e.line n) front)
    (filter (λ (e : Entry). eqb e.line n) behind)

pub part_own : (n : ℕ) (calls : List Call) → part (entries n calls) n ≡ calls
part_own n [] = refl
part_own n (c ∷ cs) =
    part_first (record { line = n; call = c }) (entries n cs) n refl ∙ ap (λ (t : List Call). c ∷ t) (part_own n cs)

pub part_other : (n m : ℕ) (calls : List Call) → n ≢ m → part (entries n calls) m ≡ []
part_other n m [] ne = refl
part_other n m (c ∷ cs) ne = part_rest (record { line = n; call = c }) (entries n cs) m ne ∙ part_other n m cs ne

-- words of 0
abbrev pub zeros : ℕ → List ℕ
zeros n = replicate n 0

-- a word of 0 stays so where a word is latched
still_zero : (words : List ℕ) (k j : ℕ) → get_or words j 0 ≡ 0 → get_or (set words k 0) j 0 ≡ 0
still_zero words k j none = omega (arith, zero_below words k j, none)

-- So many words latched one behind the other, from the word of this number on, as they stand: no other word is set.
pub record Looked (k n : ℕ) (words : List ℕ) : Type 0 where
  pub found : List ℕ
  pub many : length found ≡ n
  pub left : List ℕ
  pub leads : LeavesWords words (entries 255 (look_calls_from k found)) left
  pub kept : (j : ℕ) → get_or words j 0 ≡ 0 → get_or left j 0 ≡ 0

pub look_from : (k n : ℕ) (words : List ℕ) → Looked k n words
look_from k zero words = record { found = []; many = refl; left = words; leads = refl; kept = λ j none. none }
look_from k (suc n) words =
    let rest : Looked (suc k) n (set words k 0) = look_from (suc k) n (set words k 0) in
    record {
      found = get_or words k 0 ∷ rest.found;
      many = ap suc rest.many;
      left = rest.left;
      leads = (refl, rest.leads);
      kept = λ j none. rest.kept j (still_zero words k j none);
    }

-- a look leaves words of 0, and no other word is set
pub look_leaves : (k : ℕ) (ws words left : List ℕ) → LeavesWords words (entries 255 (look_calls_from k ws)) left
    → (j : ℕ) → ((k ≤ j) × (j < k + length ws)) ⊎ (get_or words j 0 ≡ 0) → get_or left j 0 ≡ 0
look_leaves k [] words left leads j (inl within) = absurd (omega (arith, within.0, within.1))
look_leaves k [] words left leads j (inr none) = ap (λ (vs : List ℕ). get_or vs j 0) (sym leads) ∙ none
look_leaves k (w ∷ ws) words left leads j (inr none) =
    look_leaves (suc k) ws (set words k 0) left leads.1 j (inr (still_zero words k j none))
look_leaves k (w ∷ ws) words left leads j (inl within) =
    dite (ℕ_discrete k j) (λ e. look_leaves (suc k) ws (set words k 0) left leads.1 j
    (inr (subst (λ i. get_or (set words k 0) i 0 ≡ 0) e (zero_here words k))))
    (λ ne. look_leaves (suc k) ws (set words k 0) left leads.1 j
    (inl (omega (arith, within.0, ne), omega (arith, within.1))))

-- and finds nothing where they were 0
pub look_empty : (k : ℕ) (ws words left : List ℕ) → LeavesWords words (entries 255 (look_calls_from k ws)) left
    → ((j : ℕ) → k ≤ j → j < k + length ws → get_or words j 0 ≡ 0) → ws ≡ zeros (length ws)
look_empty k [] words left leads none = refl
look_empty k (w ∷ ws) words left leads none =
    ap (λ (v : ℕ). v ∷ ws) (leads.0 ∙ none k (omega arith) (omega arith))
    ∙ ap (λ (vs : List ℕ). 0 ∷ vs) (look_empty (suc k) ws (set words k 0) left leads.1
    (λ j from below. still_zero words k j (none j (omega (arith, from)) (omega (arith, below)))))

abbrev entry_of_core : Call → Entry
entry_of_core call = record { line = 255; call = call }

pub all_looks : (script : List Line) → looks (turns script) ≡ suc (2 * steps (core_events script))
all_looks script =
    let es : List Event = core_events script in
    omega (
      arith,
      looks-append (with_looks es) (last_turns (steps es)),
      looks_own es,
      looks_own (replicate (steps es) Step),
      repeated_steps (steps es),
    )

pub whole_behind : (n : ℕ) (found : List (List ℕ)) → AllByRecursion IsWholeLook found
    → AllByRecursion IsWholeLook (drop n found)
whole_behind zero found whole = whole
whole_behind (suc n) [] whole = tt
whole_behind (suc n) (ws ∷ found) whole = whole_behind n found whole.1

-- so many whole looks are so many calls
whole_latches : (n : ℕ) (found : List (List ℕ)) → AllByRecursion IsWholeLook found → n ≤ length found
    → 16 * n ≤ length (flat_map look_calls (take n found))
whole_latches zero found whole within = omega arith
whole_latches (suc n) [] whole within = absurd (omega (arith, within))
whole_latches (suc n) (ws ∷ found) whole within =
    let e : 16 * suc n ≤ length (look_calls ws ++ flat_map look_calls (take n found)) =
    omega (
      arith,
      length-append (look_calls ws) (flat_map look_calls (take n found)),
      length-latches 0 ws,
      whole.0,
      whole_latches n found whole.1 (omega (arith, within)),
    ) in e

-- more calls come last
pub last_more : (history : List Entry) (calls more : List Call) → CallsLast history 255 calls
    → CallsLast (history ++ entries 255 more) 255 (calls ++ more)
last_more history calls more last = record {
  earlier = last.earlier;
  is =
      ap (λ (h : List Entry). h ++ entries 255 more) last.is
      ∙ append_assoc last.earlier (entries 255 calls) (entries 255 more)
      ∙ ap (λ (t : List Entry). last.earlier ++ t) (sym (map-append entry_of_core calls more));
}

-- and the last of the last calls
last_of_last : (history : List Entry) (front calls : List Call) → CallsLast history 255 (front ++ calls)
    → CallsLast history 255 calls
last_of_last history front calls last = record {
  earlier = last.earlier ++ entries 255 front;
  is =
      last.is
      ∙ ap (λ (t : List Entry). last.earlier ++ t) (map-append entry_of_core front calls)
      ∙ sym (append_assoc last.earlier (entries 255 front) (entries 255 calls));
}

-- where the last calls begin no later than the looks behind the core's own lines, these come last
pub ends_looking : (script : List Line) (found : List (List ℕ)) (history : List Entry) (since : ℕ)
    → AllByRecursion IsWholeLook found → steps (core_events script) ≤ length found
    → since ≤ 16 * steps (core_events script) → CallsLast history 255 (drop since (flat_map look_calls found))
    → CallsLast history 255 (flat_map look_calls (last_looks script found))
ends_looking script found history since whole many early last =
    let n : ℕ = steps (core_events script) in
    let front : List Call = flat_map look_calls (take n found) in
    let behind : List Call = flat_map look_calls (drop n found) in
    let split : drop since (flat_map look_calls found) ≡ drop since front ++ behind =
    ap (λ (f : List (List ℕ)). drop since (flat_map look_calls f)) (sym (take-append-drop n found))
    ∙ ap (drop since) (flat_map-append look_calls (take n found) (drop n found))
    ∙ drop-append-le since front behind (omega (arith, early, whole_latches n found whole many)) in
    last_of_last history (drop since front) behind (subst (CallsLast history 255) split last)

calls_apart : (a c : List ℕ) (front behind : List Call) → LeavesWords a (entries 255 (front ++ behind)) c
    → (b : List ℕ) × LeavesWords a (entries 255 front) b × LeavesWords b (entries 255 behind) c
calls_apart a c front behind leads =
    led_apart a c (entries 255 front) (entries 255 behind)
    (subst (λ (es : List Entry). LeavesWords a es c) (map-append entry_of_core front behind) leads)

-- looks at words of 0 find nothing, and leave them so
empty_looks : (found : List (List ℕ)) (words left : List ℕ) → AllByRecursion IsWholeLook found
    → ((j : ℕ) → j < 16 → get_or words j 0 ≡ 0) → LeavesWords words (entries 255 (flat_map look_calls found)) left
    → AllByRecursion IsEmptyLook found × ((j : ℕ) → j < 16 → get_or left j 0 ≡ 0)
empty_looks [] words left whole none leads =
    (tt, λ j below. ap (λ (vs : List ℕ). get_or vs j 0) (sym leads) ∙ none j below)
empty_looks (ws ∷ found) words left whole none leads =
    let cut = calls_apart words left (look_calls ws) (flat_map look_calls found) leads in
    let empty : ws ≡ zeros (length ws) =
    look_empty 0 ws words cut.0 cut.1 (λ j from below. none j (omega (arith, below, whole.0))) in
    let rest = empty_looks found cut.0 left whole.1
    (λ j below. look_leaves 0 ws words cut.0 cut.1 j (inr (none j below))) cut.2 in
    ((empty ∙ ap zeros whole.0, rest.0), rest.1)

-- The looks that come last in a legal history find nothing behind the first of them, and leave nothing of the core.
pub later_empty : (history : List Entry) (found : List (List ℕ)) (left : List ℕ) → IsLegal history left
    → CallsLast history 255 (flat_map look_calls found) → AllByRecursion IsWholeLook found → 0 < length found
    → AllByRecursion IsEmptyLook (drop 1 found) × ((j : ℕ) → j < 16 → get_or left j 0 ≡ 0)
later_empty history [] left legal last whole some = absurd (omega (arith, some))
later_empty history (ws ∷ found) left legal last whole some =
    let all = led_apart (zeros 32) left last.earlier (entries 255 (look_calls ws ++ flat_map look_calls found))
    (subst (λ (h : List Entry). LeavesWords (zeros 32) h left) last.is legal) in
    let cut = calls_apart all.0 left (look_calls ws) (flat_map look_calls found) all.2 in
    empty_looks found cut.0 left whole.1
    (λ j below. look_leaves 0 ws all.0 cut.0 cut.1 j (inl (omega arith, omega (arith, below, whole.0)))) cut.2

-- The calls that these looks took, the last of which may be cut, and all pends of the devices, left these words, and
-- none behind the core's is set. What the core called since some time comes last; that was no later than the end of its
-- own lines.
pub record IsCutHistory (script : List Line) (found : List (List ℕ)) (last left : List ℕ) (history : List Entry)
    : Type 0 where
  pub legal : IsLegal history left
  pub core : part history 255 ≡ flat_map look_calls (found ++ last ∷ [])
  pub devices : (number : ℕ) → number ≢ 255
      → map interrupt_asked (part history number) ≡ map (λ irq. Some irq) (pends script number)
  pub since : ℕ
  pub within : since ≤ length (flat_map look_calls (found ++ last ∷ []))
  pub early : since ≤ 16 * steps (core_events script)
  pub ended : CallsLast history 255 (drop since (flat_map look_calls (found ++ last ∷ [])))
  pub behind : (k : ℕ) → 16 ≤ k → get_or left k 0 ≡ 0

-- looks of a history that `live` allows, which begin with these
pub record Extends (script : List Line) (found : List (List ℕ)) (last : List ℕ) : Type 0 where
  pub all : List (List ℕ)
  pub many : length all ≡ looks (turns script)
  pub whole : AllByRecursion IsWholeLook all
  pub history : List Entry
  pub is : IsHistory script all history
  pub behind : List Event
  pub interleavings : interleaving (turns script) all
      ≡ (interleaving (turns script) found ++ look_arrivals last) ++ behind

-- where all looks were whole the history is one that `live` allows, and nothing is left
pub closes_whole : {script : List Line} {found : List (List ℕ)} {left : List ℕ} {history : List Entry}
    → IsCutHistory script found [] left history → AllByRecursion IsWholeLook found → length found ≡ looks (turns script)
    → IsHistory script found history × (left ≡ zeros 32)
closes_whole {script = script} {found = found} {left = left} {history = history} cut whole many =
    let n : ℕ = steps (core_events script) in
    let ended = ends_looking script found history cut.since whole (omega (arith, many, all_looks script)) cut.early
    (subst (λ (cs : List Call). CallsLast history 255 (drop cut.since cs)) (cut_before found) cut.ended) in
    let empty = later_empty history (last_looks script found) left cut.legal ended (whole_behind n found whole)
    (omega (arith, many, all_looks script, length-drop n found)) in
    let none : left ≡ zeros 32 =
    ext_get_or 0 left (zeros 32) (led_as_many (zeros 32) left history cut.legal)
    (λ k below. dite (dec_lt k 16) (λ own. empty.1 k own) (λ far. cut.behind k (omega (arith, far)))
    ∙ sym (zeros_at 32 k)) in (
      record {
        legal = subst (IsLegal history) none cut.legal;
        core = cut.core ∙ cut_before found;
        devices = cut.devices;
        ended = ended;
        quiet = empty.0;
      },
      none,
    )

-- A cut history goes on: a look is finished, or made where none is begun.
module _ {script : List Line} {found : List (List ℕ)} {last left : List ℕ} {history : List Entry}
    (cut : IsCutHistory script found last left history) where
  latched_on : (rest : List ℕ)
      → flat_map look_calls (found ++ last ∷ []) ++ look_calls_from (length last) rest
      ≡ flat_map look_calls ((found ++ (last ++ rest) ∷ []) ++ [] ∷ [])
  latched_on rest =
      let front : List Call = flat_map look_calls found in
      ap (λ (t : List Call). t ++ look_calls_from (length last) rest) (flat_map-append look_calls found (last ∷ [])
      ∙ ap (λ (t : List Call). front ++ t) (append-nil (look_calls last)))
      ∙ append_assoc front (look_calls last) (look_calls_from (length last) rest)
      ∙ ap (λ (t : List Call). front ++ t) (ap (λ k. look_calls last ++ look_calls_from k rest)
      (let e : length last ≡ 0 + length last = omega arith in e)
      ∙ sym (latches_on 0 last rest) ∙ sym (append-nil (look_calls (last ++ rest))))
      ∙ sym (flat_map-append look_calls found ((last ++ rest) ∷ []))
      ∙ sym (cut_before (found ++ (last ++ rest) ∷ []))

  look_on : (n : ℕ) (look : Looked (length last) n left)
      → IsCutHistory script (found ++ (last ++ look.found) ∷ []) [] look.left
      (history ++ entries 255 (look_calls_from (length last) look.found))
  look_on n look =
      let calls : List Call = look_calls_from (length last) look.found in
      let before : List Call = flat_map look_calls (found ++ last ∷ []) in
      record {
        legal = leads_on (zeros 32) left look.left history (entries 255 calls) cut.legal look.leads;
        core =
            part_on history (entries 255 calls) 255
            ∙ ap (λ (t : List Call). part history 255 ++ t) (part_own 255 calls)
            ∙ ap (λ (t : List Call). t ++ calls) cut.core
            ∙ latched_on look.found;
        devices = λ number ne.
            ap (map interrupt_asked) (part_on history (entries 255 calls) number
            ∙ ap (λ (t : List Call). part history number ++ t) (part_other 255 number calls (λ e. ne (sym e)))
            ∙ append-nil (part history number))
            ∙ cut.devices number ne;
        since = cut.since;
        within = omega (arith, cut.within, ap length (latched_on look.found), length-append before calls);
        early = cut.early;
        ended =
            subst (CallsLast (history ++ entries 255 calls) 255)
            (sym (drop-append-le cut.since before calls cut.within) ∙ ap (drop cut.since) (latched_on look.found))
            (last_more history (drop cut.since before) calls cut.ended);
        behind = λ k far. look.kept k (cut.behind k far);
      }

-- a cut history that went on: the begun look is finished, and so many are made behind it
pub record GoesOn (script : List Line) (found : List (List ℕ)) (last : List ℕ) (count : ℕ) : Type 0 where
  pub rest : List ℕ
  pub others : List (List ℕ)
  pub many : length others ≡ count
  pub whole : AllByRecursion IsWholeLook (found ++ (last ++ rest) ∷ others)
  pub left : List ℕ
  pub history : List Entry
  pub cut : IsCutHistory script (found ++ (last ++ rest) ∷ others) [] left history

one_look : {script : List Line} {found : List (List ℕ)} {last left : List ℕ} {history : List Entry}
    → IsCutHistory script found last left history → AllByRecursion IsWholeLook found → length last ≤ 16
    → GoesOn script found last 0
one_look {found = found} {last = last} {left = left} {history = history} cut whole short =
    let look : Looked (length last) (16 - length last) left = look_from (length last) (16 - length last) left in
    record {
      rest = look.found;
      others = [];
      many = refl;
      whole =
          all_append IsWholeLook found ((last ++ look.found) ∷ []) whole
          (omega (arith, length-append last look.found, look.many, short), tt);
      left = look.left;
      history = history ++ entries 255 (look_calls_from (length last) look.found);
      cut = look_on cut (16 - length last) look;
    }

looks_on : {script : List Line} (n : ℕ) {found : List (List ℕ)} {last left : List ℕ} {history : List Entry}
    → IsCutHistory script found last left history → AllByRecursion IsWholeLook found → length last ≤ 16
    → GoesOn script found last n
looks_on zero cut whole short = one_look cut whole short
looks_on {script = script} (suc n) {found = found} {last = last} cut whole short =
    let one : GoesOn script found last 0 = one_look cut whole short in
    let look : List ℕ = last ++ one.rest in
    let more : GoesOn script (found ++ look ∷ one.others) [] n = looks_on n one.cut one.whole (omega arith) in
    let joined : (found ++ look ∷ one.others) ++ more.rest ∷ more.others ≡ found ++ look ∷ more.rest ∷ more.others =
    ap (λ (os : List (List ℕ)). (found ++ look ∷ os) ++ more.rest ∷ more.others) (nil_from_length one.others one.many)
    ∙ append_assoc found (look ∷ []) (more.rest ∷ more.others) in
    record {
      rest = one.rest;
      others = more.rest ∷ more.others;
      many = ap suc more.many;
      whole = subst (AllByRecursion IsWholeLook) joined more.whole;
      left = more.left;
      history = more.history;
      cut = subst (λ (f : List (List ℕ)). IsCutHistory script f [] more.left more.history) joined more.cut;
    }

module _ {script : List Line} {found : List (List ℕ)} {last left : List ℕ} {history : List Entry}
    (cut : IsCutHistory script found last left history) (whole : AllByRecursion IsWholeLook found) where
  -- a look is begun, or to come
  extend_look : length last ≤ 16 → length found < looks (turns script) → Extends script found last
  extend_look short few =
      let n : ℕ = looks (turns script) - suc (length found) in
      let more : GoesOn script found last n = looks_on n cut whole short in
      let woven = interleaving_finished (turns script) found more.others last more.rest few in
      let many : length (found ++ (last ++ more.rest) ∷ more.others) ≡ looks (turns script) =
      omega (arith, few, more.many, length-append found ((last ++ more.rest) ∷ more.others)) in
      record {
        all = found ++ (last ++ more.rest) ∷ more.others;
        many = many;
        whole = more.whole;
        history = more.history;
        is = (closes_whole more.cut more.whole many).0;
        behind = woven.0;
        interleavings = woven.1;
      }

  -- all looks are done
  extend_none : last ≡ [] → length found ≡ looks (turns script) → Extends script found last
  extend_none none many = record {
    all = found;
    many = many;
    whole = whole;
    history = history;
    is = (closes_whole (subst (λ (l : List ℕ). IsCutHistory script found l left history) none cut) whole many).0;
    behind = [];
    interleavings =
        sym (append-nil (interleaving (turns script) found))
        ∙ ap (λ (l : List ℕ). interleaving (turns script) found ++ look_arrivals l) (sym none)
        ∙ sym (append-nil (interleaving (turns script) found ++ look_arrivals last));
  }

  pub extend : length last ≤ 16
      → (length found < looks (turns script)) ⊎ ((last ≡ []) × (length found ≤ looks (turns script)))
      → Extends script found last
  extend short few =
      dite (dec_lt (length found) (looks (turns script))) (λ more. extend_look short more)
      (λ all. ⊎_elim (λ more. absurd (all more)) (λ done. extend_none done.0 (omega (arith, all, done.1))) few)
