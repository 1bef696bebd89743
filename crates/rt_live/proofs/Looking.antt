-- A look, bit by bit and word by word, and what is posted behind an event.
use Rattle.rt_live.proofs.Vocabulary.{AllByRecursion, Arrive, Asks as Pends, BitsMayArrive, Bool, Breaks, Call}
use Rattle.rt_live.proofs.Vocabulary.{Caller as Line, Comes, Event, Goes, Happens, IsAble, IsDeclared, IsLook}
use Rattle.rt_live.proofs.Vocabulary.{IsPending, Latch, List, Looks, Machine, MayRoute, None, Option, Pend, Pended}
use Rattle.rt_live.proofs.Vocabulary.{Posts, Row, Sends, Some, Turn, What, [], a_turn, all_append, ap, append-nil}
use Rattle.rt_live.proofs.Vocabulary.{append_assoc, arith, arrivals, arrivals_below, arrivals_from, bit_at, bit_at-zero}
use Rattle.rt_live.proofs.Vocabulary.{bit_in_row, breaks_before, breaks_behind, cut, dite, eq-eqb, false, filter}
use Rattle.rt_live.proofs.Vocabulary.{filter-append, if◌then◌else◌, length, length-append, length-map, look_arrivals}
use Rattle.rt_live.proofs.Vocabulary.{look_calls_from, map, map-append, ne_eqb, no_turn, none-some, option_to_list}
use Rattle.rt_live.proofs.Vocabulary.{pending_bit, post_requests, refl, routed, sends_none, sends_on, step_item, subst}
use Rattle.rt_live.proofs.Vocabulary.{suc, sym, true, word_in_row, zero, ℕ, ℕ_discrete, ◌*◌, ◌++◌, ◌+◌, ◌-◌, ◌<◌, ◌==◌}
use Rattle.rt_live.proofs.Vocabulary.{◌∙◌, ◌∷◌, ◌≡◌, ◌≢◌, ◌≤◌}
use Rattle.rt_ids.specs.Lists.{numbers_below}
use Rattle.rt_live.specs.{Going.Latches, Requests.saturating_count}
use Rattle.rt_live.proofs.Weaving.{comes_on}
use Rattle.rt_live.proofs.Woven.{line_with, same_line, line_on, length-latches, latches_on, found_on}
use Rattle.rt_trace.specs.declared.item.What.TheVariants as what

abbrev test : ℕ → ℕ → Bool
test word bit = bit_at word bit == 1

one : (k word bit : ℕ) (set : Bool)
    → map (λ n. 32 * k + n) (if set then bit ∷ [] else []) ≡ (if set then (32 * k + bit) ∷ [] else [])
one k word bit true = refl
one k word bit false = refl

-- one bit more
pub arrivals_more : (k word bit : ℕ)
    → arrivals_below k word (suc bit)
    ≡ arrivals_below k word bit ++ (if bit_at word bit == 1 then (32 * k + bit) ∷ [] else [])
unfolding numbers_below
arrivals_more k word bit =
    ap (map (λ n. 32 * k + n)) (filter-append (test word) (numbers_below bit) (bit ∷ []))
    ∙ map-append (λ n. 32 * k + n) (filter (test word) (numbers_below bit)) (filter (test word) (bit ∷ []))
    ∙ ap (λ is. arrivals_below k word bit ++ is) (one k word bit (test word bit))

-- the rest of the bits
arrivals_split : (k word bit rest : ℕ)
    → (behind : List ℕ) × (arrivals_below k word (rest + bit) ≡ arrivals_below k word bit ++ behind)
arrivals_split k word bit zero =
    ([], ap (arrivals_below k word) (let e : 0 + bit ≡ bit = omega arith in e) ∙ sym (append-nil _))
arrivals_split k word bit (suc rest) =
    let before = arrivals_split k word bit rest in
    let last : List ℕ = if bit_at word (rest + bit) == 1 then (32 * k + (rest + bit)) ∷ [] else [] in (
      before.0 ++ last,
      ap (arrivals_below k word) (let e : suc rest + bit ≡ suc (rest + bit) = omega arith in e)
          ∙ arrivals_more k word (rest + bit) ∙ ap (λ is. is ++ last) before.1
          ∙ append_assoc (arrivals_below k word bit) before.0 last,
    )

-- a bit that does not stand
pub bit_skips : (k word bit : ℕ) → bit_at word bit ≢ 1 → arrivals_below k word (bit + 1) ≡ arrivals_below k word bit
bit_skips k word bit other =
    ap (arrivals_below k word) (let e : bit + 1 ≡ suc bit = omega arith in e) ∙ arrivals_more k word bit
    ∙ ap (λ b. arrivals_below k word bit ++ (if b then (32 * k + bit) ∷ [] else [])) (ne_eqb (bit_at word bit) 1 other)
    ∙ append-nil (arrivals_below k word bit)

module _ (k word bit irq : ℕ) (set : bit_at word bit ≡ 1) (is : irq ≡ 32 * k + bit) (a b c : Machine) (x y z : List ℕ)
    (first : Sends (map Arrive (arrivals_below k word bit)) a b x y) where
  abbrev front : List Event
  front = map Arrive (arrivals_below k word bit)

  bit_comes : map Arrive (arrivals_below k word (bit + 1)) ≡ front ++ Arrive irq ∷ []
  bit_comes =
      ap (λ n. map Arrive (arrivals_below k word n)) (let e : bit + 1 ≡ suc bit = omega arith in e)
      ∙ ap (map Arrive) (arrivals_more k word bit)
      ∙ ap (λ b. map Arrive (arrivals_below k word bit ++ (if b then (32 * k + bit) ∷ [] else [])))
      (eq-eqb (bit_at word bit) 1 set)
      ∙ map-append Arrive (arrivals_below k word bit) ((32 * k + bit) ∷ []) ∙ ap (λ n. front ++ Arrive n ∷ []) (sym is)

  -- a bit more arrived
  pub bit_more : Sends (Arrive irq ∷ []) b c y z → Sends (map Arrive (arrivals_below k word (bit + 1))) a c x z
  bit_more second =
      subst (λ es. Sends es a c x z) (sym bit_comes) (sends_on front (Arrive irq ∷ []) a b c x y z first second)

  -- a fault came at the bit
  pub bit_cut : bit < 32 → Breaks (Arrive irq ∷ []) b c y z → Breaks (map Arrive (arrivals k word)) a c x z
  bit_cut within breaks =
      let rest = arrivals_split k word (bit + 1) (31 - bit) in
      let all : map Arrive (arrivals k word) ≡ map Arrive (arrivals_below k word (bit + 1)) ++ map Arrive rest.0 =
      ap (λ n. map Arrive (arrivals_below k word n)) (let e : 32 ≡ 31 - bit + (bit + 1) = omega arith in e)
      ∙ ap (map Arrive) rest.1 ∙ map-append Arrive (arrivals_below k word (bit + 1)) rest.0 in
      subst (λ es. Breaks es a c x z) (sym all)
      (breaks_before (map Arrive (arrivals_below k word (bit + 1))) (map Arrive rest.0) a c x z
      (subst (λ es. Breaks es a c x z) (sym bit_comes)
      (breaks_behind front (Arrive irq ∷ []) a b c x y z first breaks)))

-- what holds of each bit that stands holds of what arrives
below_all : (P : ℕ → Type 0) (k word n : ℕ) → n ≤ 32
    → ((bit : ℕ) → bit < 32 → bit_at word bit ≡ 1 → P (32 * k + bit)) → AllByRecursion P (arrivals_below k word n)
unfolding numbers_below
below_all P k word zero within each = tt
below_all P k word (suc n) within each =
    subst (AllByRecursion P) (sym (arrivals_more k word n))
    (all_append P (arrivals_below k word n) (if bit_at word n == 1 then (32 * k + n) ∷ [] else [])
    (below_all P k word n (omega (arith, within)) each) (dite (ℕ_discrete (bit_at word n) 1)
    (λ set. subst (λ (b : Bool). AllByRecursion P (if b then (32 * k + n) ∷ [] else []))
    (sym (eq-eqb (bit_at word n) 1 set)) (each n (omega (arith, within)) set, tt))
    (λ clear. subst (λ (b : Bool). AllByRecursion P (if b then (32 * k + n) ∷ [] else []))
    (sym (ne_eqb (bit_at word n) 1 clear)) tt)))

pub arriving_all : (P : ℕ → Type 0) (k word : ℕ) → ((bit : ℕ) → bit < 32 → bit_at word bit ≡ 1 → P (32 * k + bit))
    → AllByRecursion P (arrivals k word)
arriving_all P k word each = below_all P k word 32 (omega arith) each

none_below : (k word : ℕ) → arrivals_below k word 0 ≡ []
unfolding numbers_below
none_below k word = refl

-- of a word of 0 nothing arrives
zero_below : (k count : ℕ) → arrivals_below k 0 count ≡ []
zero_below k zero = none_below k 0
zero_below k (suc n) =
    arrivals_more k 0 n
    ∙ ap (λ v. arrivals_below k 0 n ++ (if v == 1 then (32 * k + n) ∷ [] else [])) (bit_at-zero n)
    ∙ append-nil (arrivals_below k 0 n) ∙ zero_below k n

pub zero_arrives : (k word : ℕ) → word ≡ 0 → arrivals k word ≡ []
zero_arrives k word none = ap (arrivals k) none ∙ zero_below k 32

-- before the first bit nothing arrived
pub bit_none : (k word : ℕ) (m : Machine) (x : List ℕ) → Sends (map Arrive (arrivals_below k word 0)) m m x x
bit_none k word m x = subst (λ is. Sends (map Arrive is) m m x x) (sym (none_below k word)) (sends_none m x)

-- one word more
found_more : (words : List ℕ) (word k : ℕ) → length words ≡ k
    → arrivals_from 0 (words ++ word ∷ []) ≡ arrivals_from 0 words ++ arrivals k word
found_more words word k many =
    found_on 0 words (word ∷ [])
    ∙ ap (λ is. arrivals_from 0 words ++ is) (append-nil (arrivals (0 + length words) word)
    ∙ ap (λ n. arrivals n word) (let e : 0 + length words ≡ k = omega (arith, many) in e))

arrived_more : (words : List ℕ) (word k : ℕ) → length words ≡ k
    → look_arrivals (words ++ word ∷ []) ≡ look_arrivals words ++ map Arrive (arrivals k word)
arrived_more words word k many =
    ap (map Arrive) (found_more words word k many)
    ∙ map-append Arrive (arrivals_from 0 words) (arrivals k word)

latches_more : (first : ℕ) (words : List ℕ) (word k : ℕ) → first + length words ≡ k
    → look_calls_from first (words ++ word ∷ []) ≡ look_calls_from first words ++ Latch k word ∷ []
latches_more first words word k many =
    latches_on first words (word ∷ []) ∙ ap (λ n. look_calls_from first words ++ Latch n word ∷ []) many

-- so many words of a look were latched, by calls of this line, and what they hold arrived
pub record Looked (k : ℕ) (line l : Line) (a b : Machine) (x y : List ℕ) : Type 0 where
  pub calls : List Call
  pub same : l ≡ line_with line calls
  pub look : Latches line.here (λ n. n ≡ k) true calls a b x y

pub looked_none : (line : Line) (m : Machine) (x : List ℕ) → Looked 0 line line m m x x
looked_none line m x = record {
  calls = [];
  same = same_line line;
  look = record { found = []; many = refl; declared = tt; latched = refl; comes = sends_none m x };
}

-- the words of a look so far
module _ {line l : Line} {a b : Machine} {x y : List ℕ} {k : ℕ} (looked : Looked k line l a b x y) where
  pub looked_calls : length l.calls ≡ length line.calls + k
  looked_calls =
      let first : ℕ = word_in_row line.here 0 in
      omega (
        arith,
        ap (λ (n : Line). length n.calls) looked.same,
        length-append line.calls looked.calls,
        ap length looked.look.latched,
        length-latches first looked.look.found,
        looked.look.many,
      )

  -- all of them
  pub looked_all : k ≡ 16 → {route : ℕ → Option ℕ} → Goes route (Looks ∷ []) true line l a b x y
  looked_all all {route} =
      let look : Latches line.here (IsLook true) true looked.calls a b x y =
      subst (λ n. Latches line.here (λ m. m ≡ n) true looked.calls a b x y) all looked.look in
      record {
        calls = looked.calls ++ [];
        same = looked.same ∙ ap (line_with line) (sym (append-nil looked.calls));
        done = a_turn looked.calls [] look no_turn;
      }

  -- and one word more
  module _ {row : Row} (able : IsAble a line row) (within : k < 16) (word : ℕ) (there : (bit : ℕ) → bit < 32
      → bit_at word bit ≡ 1 → IsPending row.may (32 * word_in_row l.here k + bit)) where
    here : l.here ≡ line.here
    here = ap (λ (n : Line). n.here) looked.same

    -- what a latch of the core's word found may arrive there
    pub arrives : BitsMayArrive a.image.names k word
    arrives bit low set =
        able.may (32 * k + bit) (omega (arith, within, low)) (ap (pending_bit row.may)
        (let e : bit_in_row line.here (32 * k + bit) ≡ 32 * word_in_row l.here k + bit = omega (arith, here) in e)
        ∙ there bit low set)

    module _ (m : Line) (call : m ≡ line_with l (Latch (word_in_row l.here k) word ∷ [])) where
      abbrev more : List Call
      more = looked.calls ++ Latch (word_in_row l.here k) word ∷ []

      same_more : m ≡ line_with line more
      same_more = line_on line l m looked.calls (Latch (word_in_row l.here k) word ∷ []) looked.same call

      look_more : (all : Bool) (so_many : ℕ → Type 0) → so_many (suc k) → {c : Machine} {z : List ℕ}
          → Comes all (map Arrive (arrivals k word)) b c y z → Latches line.here so_many all more a c x z
      look_more all so_many many {c} {z} comes = record {
        found = looked.look.found ++ word ∷ [];
        many =
            subst so_many (let e : suc k ≡ length (looked.look.found ++ word ∷ []) =
            omega (arith, length-append looked.look.found (word ∷ []), looked.look.many) in e) many;
        declared =
            subst (AllByRecursion (IsDeclared a.image.names))
            (sym (found_more looked.look.found word k looked.look.many))
            (all_append (IsDeclared a.image.names) (arrivals_from 0 looked.look.found) (arrivals k word)
            looked.look.declared
            (arriving_all (IsDeclared a.image.names) k word (λ bit low set. (arrives bit low set).0)));
        latched =
            ap (λ cs. cs ++ Latch (word_in_row l.here k) word ∷ []) looked.look.latched
            ∙ ap (λ h. look_calls_from (word_in_row line.here 0) looked.look.found
            ++ Latch (word_in_row h k) word ∷ []) here
            ∙ sym (latches_more (word_in_row line.here 0) looked.look.found word (word_in_row line.here k)
            (let e : word_in_row line.here 0 + length looked.look.found ≡ word_in_row line.here k = omega
            (arith, looked.look.many) in e));
        comes =
            subst (λ es. Comes all es a c x z) (sym (arrived_more looked.look.found word k looked.look.many))
            (comes_on all (look_arrivals looked.look.found) (map Arrive (arrivals k word)) a b c x y z looked.look.comes
            comes);
      }

      -- it arrived
      pub find_more : {c : Machine} {z : List ℕ} → Sends (map Arrive (arrivals k word)) b c y z
          → Looked (k + 1) line m a c x z
      find_more sends = record {
        calls = more;
        same = same_more;
        look = look_more true (λ n. n ≡ k + 1) (let e : suc k ≡ k + 1 = omega arith in e) sends;
      }

      pub find_none : word ≡ 0 → Looked (k + 1) line m a b x y
      find_none none =
          find_more (subst (λ is. Sends (map Arrive is) b b y y) (sym (zero_arrives k word none)) (sends_none b y))

      -- or a fault came at it
      pub find_cut : {route : ℕ → Option ℕ} {c : Machine} {z : List ℕ} → Breaks (map Arrive (arrivals k word)) b c y z
          → Goes route (Looks ∷ []) false line m a c x z
      find_cut breaks = record {
        calls = more;
        same = same_more;
        done = cut (look_more false (IsLook false) (omega (arith, within)) breaks);
      }

-- an item that leads nowhere
pub posts_none : (route : ℕ → Option ℕ) (shown : Option What) (line : Line) → routed route shown ≡ None
    → Posts route shown line line
posts_none route shown line none = record {
  calls = [];
  asked = sym (ap (λ o. map (λ irq. Pends (bit_in_row line.there irq)) (option_to_list o)) none);
  same = same_line line;
}

-- and one that leads to an interrupt, which may be pended
pub posts_one : (route : ℕ → Option ℕ) (shown : Option What) (line l : Line) (irq : ℕ) (answer : Pended)
    → routed route shown ≡ Some irq → l ≡ line_with line (Pend (bit_in_row line.there irq) answer ∷ [])
    → Posts route shown line l
posts_one route shown line l irq answer some call = record {
  calls = Pend (bit_in_row line.there irq) answer ∷ [];
  asked = sym (ap (λ o. map (λ irq. Pends (bit_in_row line.there irq)) (option_to_list o)) some);
  same = call;
}

pub may_post : (route : ℕ → Option ℕ) (there irq : ℕ) (row : Row) → MayRoute route there row → (shown : Option What)
    → routed route shown ≡ Some irq → IsPending row.may (bit_in_row there irq)
may_post route there irq row may None is = absurd (none-some irq is)
may_post route there irq row may (Some (what.Post posted)) is = may posted irq is
may_post route there irq row may (Some w) is = absurd (none-some irq is)

-- an item is forwarded as often as it leads somewhere
pub posts_counted : (route : ℕ → Option ℕ) (there : ℕ) (shown : Option What) (n : ℕ) (to : Option ℕ)
    → routed route shown ≡ to
    → saturating_count n (length (option_to_list to)) ≡ saturating_count n (length (post_requests route there shown))
posts_counted route there shown n to is =
    ap (saturating_count n) (sym (length-map (option_to_list (routed route shown)) (λ irq. Pends (bit_in_row there irq))
    ∙ ap (λ (o : Option ℕ). length (option_to_list o)) is))

-- an event that comes without a look
pub event_goes : {route : ℕ → Option ℕ} {ts : List Turn} {a b : Machine} {x y : List ℕ} (line : Line) (all : Bool)
    (e : Event) → ts ≡ Happens e ∷ [] → step_item a.image a.core e ≡ None → Comes all (e ∷ []) a b x y
    → Goes route ts all line line a b x y
event_goes {route} {ts} {a} {b} {x} {y} line all e is none comes =
    subst (λ us. Goes route us all line line a b x y) (sym is) (by all comes)
  where
    by : (whole : Bool) → Comes whole (e ∷ []) a b x y → Goes route (Happens e ∷ []) whole line line a b x y
    by true sends = record {
      calls = [];
      same = same_line line;
      done = a_turn [] [] (sends, ap (post_requests route line.there) (sym none)) no_turn;
    }
    by false breaks = record { calls = []; same = same_line line; done = cut (breaks, refl) }

-- an event behind which the line posts
pub posted : {route : ℕ → Option ℕ} {line l : Line} {e : Event} {a b : Machine} {x y : List ℕ} → Sends (e ∷ []) a b x y
    → Posts route (step_item a.image a.core e) line l → Goes route (Happens e ∷ []) true line l a b x y
posted {line = line} sends posts = record {
  calls = posts.calls ++ [];
  same = posts.same ∙ ap (line_with line) (sym (append-nil posts.calls));
  done = a_turn posts.calls [] (sends, posts.asked) no_turn;
}
