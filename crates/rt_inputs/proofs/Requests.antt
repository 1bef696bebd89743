-- Requests with words: the events that they are, and a run or a fault behind the word of one.
use Rattle.std.proofs.Common.{◌≡◌, ℕ, zero, suc, ◌+◌, ◌-◌, ◌<◌, ◌^◌, List, [], ◌∷◌, ◌++◌, length, replicate}
use Rattle.std.proofs.Common.{refl, ap, sym, subst, ◌∙◌, arith}
use Rattle.std.specs.List.{AllByRecursion}
use Rattle.std.proofs.lemmas.Grind.{flat_map-append}
use Rattle.rt_ids.specs.Event.{Event, Arrive, steps}
use Rattle.rt_app.specs.Tree.{App}
use Rattle.rt_core.specs.Machine.{Machine}
use Rattle.rt_board.specs.Board.{Board}
use Rattle.rt_given.specs.Words.{given_words, next_word}
use Rattle.rt_given.specs.declared.source.Source.{Source}
use Rattle.rt_given.proofs.Sources.{IsShort, no_word, one_word_more, source_after, words_long, words_split}
use Rattle.rt_inputs.specs.Inputs.{AreWords, Gives, Happening, Registers, events_of, with_word}
use Rattle.rt_inputs.specs.Script.{given_request, given_requests}
use Rattle.rt_inputs.specs.Going.{Leads, Moment}
use Rattle.rt_inputs.specs.Inside.Ran.{Cut, Ran}
use Rattle.rt_inputs.proofs.Advancing.{cut_before, cut_behind, goes_on, nothing_yet}
use Rattle.rt_inputs.proofs.Known.{steps_led}
use Rattle.rt_inputs.proofs.Moved.{happened_more}

-- a machine and what registers hold
abbrev pub at_moment : Machine → Registers → Moment
at_moment m registers = record { machine = m; registers = registers }

module _ (app : App) (board : Board) (local word : ℕ) (m : Machine) (registers : Registers) (hs : List Happening) where
  ran_first : (b : Moment) (x y held kept : List ℕ)
      → Ran app board hs (at_moment m (with_word registers local word)) b x y held kept
      → Ran app board (Gives local word ∷ hs) (at_moment m registers) b x y held kept
  ran_first b x y held kept run = record {
    leads = record { machine = run.leads.machine; registers = run.leads.registers };
    wrote = run.wrote;
  }

  cut_first : (b : Moment) (x y held : List ℕ)
      → Cut app board hs (at_moment m (with_word registers local word)) b x y held
      → Cut app board (Gives local word ∷ hs) (at_moment m registers) b x y held
  cut_first b x y held cut = record {
    done = Gives local word ∷ cut.done;
    rest = cut.rest;
    parts = ap (λ (t : List Happening). Gives local word ∷ t) cut.parts;
    leads = record { machine = cut.leads.machine; registers = cut.leads.registers };
    took = cut.took;
    ends = record {
      earlier = Gives local word ∷ cut.ends.earlier;
      last = cut.ends.last;
      parts = ap (λ (t : List Happening). Gives local word ∷ t) cut.ends.parts;
      shows = cut.ends.shows;
    };
    held_back = cut.held_back;
  }

  -- the register takes the word first, and then this happens
  pub gives_first : (given : Registers) → given ≡ with_word registers local word
      → (b : Moment) (x y held kept : List ℕ) → Ran app board hs (at_moment m given) b x y held kept
      → Ran app board (Gives local word ∷ hs) (at_moment m registers) b x y held kept
  gives_first given same b x y held kept run =
      ran_first b x y held kept
      (subst (λ (r : Registers). Ran app board hs (at_moment m r) b x y held kept) same run)

  pub gives_cut : (given : Registers) → given ≡ with_word registers local word
      → (b : Moment) (x y held : List ℕ) → Cut app board hs (at_moment m given) b x y held
      → Cut app board (Gives local word ∷ hs) (at_moment m registers) b x y held
  gives_cut given same b x y held cut =
      cut_first b x y held (subst (λ (r : Registers). Cut app board hs (at_moment m r) b x y held) same cut)

module _ (irq local : ℕ) where
  request_events : (words : List ℕ) (n : ℕ) → length words ≡ n
      → events_of (given_requests irq local words) ≡ replicate n (Arrive irq)
  request_events [] zero long = refl
  request_events [] (suc n) long = absurd (omega (arith, long))
  request_events (word ∷ words) zero long = absurd (omega (arith, long))
  request_events (word ∷ words) (suc n) long =
      ap (λ (es : List Event). Arrive irq ∷ es) (request_events words n (omega (arith, long)))

  -- the events of requests with words are the requests
  pub requests_many : (n : ℕ) (s : Source)
      → events_of (given_requests irq local (given_words n s)) ≡ replicate n (Arrive irq)
  requests_many n s = request_events (given_words n s) n (words_long n s)

  pub requests_behind : (n : ℕ) (s : Source) (more : List Happening)
      → events_of (given_requests irq local (given_words n s) ++ more) ≡ replicate n (Arrive irq) ++ events_of more
  requests_behind n s more =
      happened_more (given_requests irq local (given_words n s)) more
      ∙ ap (λ (es : List Event). es ++ events_of more) (requests_many n s)

  -- they are no core steps
  no_steps : (words : List ℕ) → steps (events_of (given_requests irq local words)) ≡ 0
  no_steps [] = refl
  no_steps (word ∷ words) = no_steps words

  pub request_words : (words : List ℕ) (more : List Happening) → AllByRecursion IsShort words → AreWords more
      → AreWords (given_requests irq local words ++ more)
  request_words [] more short are = are
  request_words (word ∷ words) more short are = (short.0, request_words words more short.1 are)

  one_more : (n : ℕ) (s : Source) (word : ℕ) → word ≡ next_word (source_after n s)
      → given_requests irq local (given_words (n + 1) s)
      ≡ given_requests irq local (given_words n s) ++ given_request irq local word
  one_more n s word is =
      let step : n + 1 ≡ suc n = omega arith in
      ap (λ k. given_requests irq local (given_words k s)) step
      ∙ ap (given_requests irq local) (one_word_more n s)
      ∙ ap (λ w. given_requests irq local (given_words n s ++ w ∷ [])) (sym is)
      ∙ flat_map-append (given_request irq local) (given_words n s) (word ∷ [])

  all_parts : (n count : ℕ) (s : Source) → n < count → given_requests irq local (given_words count s)
      ≡ given_requests irq local (given_words (n + 1) s)
      ++ given_requests irq local (given_words (count - (n + 1)) (source_after (n + 1) s))
  all_parts n count s within =
      let parts : count ≡ n + 1 + (count - (n + 1)) = omega (arith, within) in
      ap (λ k. given_requests irq local (given_words k s)) parts
      ∙ ap (given_requests irq local) (words_split (n + 1) (count - (n + 1)) s)
      ∙ flat_map-append (given_request irq local) (given_words (n + 1) s)
      (given_words (count - (n + 1)) (source_after (n + 1) s))

  module _ (app : App) (board : Board) where
    -- no request has come
    pub none_yet : (s : Source) (a : Moment) (x held : List ℕ)
        → Ran app board (given_requests irq local (given_words 0 s)) a a x x held held
    none_yet s a x held =
        subst (λ (words : List ℕ). Ran app board (given_requests irq local words) a a x x held held) (sym (no_word s))
        (nothing_yet app board a x held)

    -- the steps stay few
    pub few_still : (n : ℕ) (s : Source) (count : ℕ) (a b : Moment)
        → Leads app board (given_requests irq local (given_words n s)) a b → n < count
        → a.machine.steps + count < 2 ^ 31 → b.machine.steps + 1 < 2 ^ 31
    few_still n s count a b run within few =
        omega (
          arith,
          steps_led app board (given_requests irq local (given_words n s)) a b run,
          no_steps (given_words n s),
          within,
          few,
        )

    -- one request more
    pub request_more : (n : ℕ) (s : Source) (word : ℕ) → word ≡ next_word (source_after n s)
        → (a b c : Moment) (x y z held mid kept : List ℕ)
        → Ran app board (given_requests irq local (given_words n s)) a b x y held mid
        → Ran app board (given_request irq local word) b c y z mid kept
        → Ran app board (given_requests irq local (given_words (n + 1) s)) a c x z held kept
    request_more n s word is a b c x y z held mid kept first second =
        subst (λ (hs : List Happening). Ran app board hs a c x z held kept) (sym (one_more n s word is))
        (goes_on app board (given_requests irq local (given_words n s)) (given_request irq local word) a b c x y z held
        mid kept first second)

    -- a fault at one of the requests
    pub request_cut : (n count : ℕ) (s : Source) (word : ℕ) → n < count → word ≡ next_word (source_after n s)
        → (a b c : Moment) (x y z held mid : List ℕ)
        → Ran app board (given_requests irq local (given_words n s)) a b x y held mid
        → Cut app board (given_request irq local word) b c y z mid
        → Cut app board (given_requests irq local (given_words count s)) a c x z held
    request_cut n count s word within is a b c x y z held mid first cut =
        subst (λ (hs : List Happening). Cut app board hs a c x z held) (sym (all_parts n count s within))
        (cut_before app board (given_requests irq local (given_words (n + 1) s))
        (given_requests irq local (given_words (count - (n + 1)) (source_after (n + 1) s))) a c x z held
        (subst (λ (hs : List Happening). Cut app board hs a c x z held) (sym (one_more n s word is))
        (cut_behind app board (given_requests irq local (given_words n s)) (given_request irq local word) a b c x y z
        held mid first cut)))
