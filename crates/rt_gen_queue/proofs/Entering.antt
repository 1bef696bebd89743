-- Sections of queues: how they open and close, by their ceilings, at any preemption threshold, on any window.
use Rattle.rt_gen_queue.proofs.Vocabulary.{Agree, AllByRecursion, App, At, AtPriority, Bool, Contains, Content, Doing}
use Rattle.rt_gen_queue.proofs.Vocabulary.{Enters, Entry, Guarded, HasCodeAt, OpenSection, Location, HoldsOff}
use Rattle.rt_gen_queue.proofs.Vocabulary.{IsKindFor, IsMask}
use Rattle.rt_gen_queue.proofs.Vocabulary.{IsWithin, Leaves, LeavesMine, Line, List, Marked, Masked, NobodyKeeps}
use Rattle.rt_gen_queue.proofs.Vocabulary.{Raised, Runner, Section, Some, Starting, TakesOver, Values, [], all_append}
use Rattle.rt_gen_queue.proofs.Vocabulary.{all_behind, all_has, all_weaker, and_both, and_left, and_right, ap, arith}
use Rattle.rt_gen_queue.proofs.Vocabulary.{ceiling, closing_instr, does, enter, enter_line, false, guard_of, home_of}
use Rattle.rt_gen_queue.proofs.Vocabulary.{if◌then◌else◌, inl, inr, is_open, kind_at, kind_of, le-leb, leave}
use Rattle.rt_gen_queue.proofs.Vocabulary.{leave_line, length, length-set, map, map-append, nat_le, line_with_note}
use Rattle.rt_gen_queue.proofs.Vocabulary.{opening_instr}
use Rattle.rt_gen_queue.proofs.Vocabulary.{spend_step, values_with, reads, refl, saved_slot, saved_slots}
use Rattle.rt_gen_queue.proofs.Vocabulary.{slots_with_mask, slice_index}
use Rattle.rt_gen_queue.proofs.Vocabulary.{slice_set, storage, subst, suc, sym, true, with_queue, ℕ, ◌++◌, ◌+◌, ◌<◌}
use Rattle.rt_gen_queue.proofs.Vocabulary.{◌==◌, ◌^◌, ◌∙◌, ◌∷◌, ◌≡◌, ◌≤◌, ◌⊎◌}
use Rattle.std.proofs.lemmas.List.{set-get_or}
use Rattle.rt_code.specs.declared.instr.Note.TheVariants as note
use Rattle.rt_gen_queue.proofs.Layer.{Frame, Here, InTime, Now, S, Saves, Setting, Straight, all_fit, enters_here, fits}
use Rattle.rt_gen_queue.proofs.Layer.{lasts_less, leaves_here, next_in_time, placed, configuration, window, window_set}
use Rattle.rt_gen_queue.proofs.Layer.{window_there}
use Rattle.rt_gen_queue.proofs.Masks.{mask_of, of_kinds, saves_in}
use Rattle.rt_gen_queue.proofs.Owning.{IsQueue, agree_out, leaves_out, reads_inside, unread}
use Rattle.rt_gen_queue.specs.{Guards.ceiling_value, declared.guard.Guard.Guard}

pub kind_fits : (app : App) (who : Runner) (held : List OpenSection) (x : Section) (threshold slot : ℕ)
    → HoldsOff app who who held threshold → ceiling app x ≤ 2 ^ app.bits
    → IsKindFor (storage app) who who held x (kind_at app x threshold slot)
unfolding storage
kind_fits app Starting held x threshold slot off top =
    let low : nat_le (ceiling app x) threshold ≡ true = le-leb (ceiling app x) threshold (omega arith) in
    ap (λ (b : Bool). if b then Marked else if ceiling_value app x == 0 then Masked slot else Raised slot) low
kind_fits app (AtPriority p) held x threshold slot off top =
    subst (λ (l : ℕ). IsMask (storage app) (AtPriority p) (ceiling app x) l (kind_at app x threshold slot)) off
    (mask_of (storage app) (AtPriority p) (guard_of app x) threshold slot refl)

-- the lines of a section where a window's slots are numbered from another one on, and that they fit any window
module _ (x : Section) (g : Guard) (threshold mask : ℕ) where
  pub enter_placed : (s : ℕ) → placed s (enter_line x g threshold mask) ≡ enter_line x g threshold (s + mask)
  enter_placed s =
      of_kinds g threshold (λ kind. placed s (line_with_note (opening_instr g.value (kind mask)) (note.Enter x))
      ≡ line_with_note (opening_instr g.value (kind (s + mask))) (note.Enter x)) refl refl refl

  pub leave_placed : (s : ℕ) → placed s (leave_line x g threshold mask) ≡ leave_line x g threshold (s + mask)
  leave_placed s =
      of_kinds g threshold (λ kind. placed s (line_with_note (closing_instr (kind mask)) (note.Leave x))
      ≡ line_with_note (closing_instr (kind (s + mask))) (note.Leave x)) refl refl refl

  pub enter_fits : (size free : ℕ) → fits size free (enter_line x g threshold mask).0 ≡ true
  enter_fits size free = of_kinds g threshold (λ kind. fits size free (opening_instr g.value (kind mask)) ≡ true) refl
      refl refl

  pub leave_fits : (size free : ℕ) → fits size free (leave_line x g threshold mask).0 ≡ true
  leave_fits size free = of_kinds g threshold (λ kind. fits size free (closing_instr (kind mask)) ≡ true) refl refl refl

not_kept : (saved : List ℕ) (slot mask : ℕ) → AllByRecursion (λ d. d < slot) saved → ¬ Contains saved (slot + mask)
not_kept saved slot mask below has =
    let less : slot + mask < slot = all_has (λ d. d < slot) saved (slot + mask) below has in omega arith

-- a section after the line that opens it, whose own deadline is its cost from there
abbrev pub within : Here → OpenSection → (cost : ℕ) → List ℕ → (Location → List Entry) → Doing Values → Here
within h o cost cells queues rest = record h {
  held = o ∷ h.held;
  done = suc h.done;
  deadlines = (h.done + cost) ∷ h.deadlines;
  at = suc h.at;
  cells = cells;
  queues = queues;
  rest = rest;
}

module _ {size mask : ℕ} where
  -- what a section saves is in the slot for a mask, and all else is as before
  saves_mask : (f : Frame size mask) (g : Guard) (threshold saved : ℕ) (ws : List ℕ) → mask < length ws
      → (m : ℕ) × (slots_with_mask (kind_of g threshold (f.slot + mask)) saved (window f ws)
      ≡ window f (slice_set ws mask m))
  saves_mask f g threshold saved ws there =
      of_kinds g threshold
      (λ kind. (m : ℕ) × (slots_with_mask (kind (f.slot + mask)) saved (window f ws) ≡ window f (slice_set ws mask m)))
      (slice_index ws mask, ap (window f) (sym (set-get_or ws mask 0))) (saved, window_set f ws mask saved there)
      (saved, window_set f ws mask saved there)

  abbrev pub opened : Setting → Frame size mask → Section → ℕ → OpenSection
  opened z f x threshold = record { section = x; kind = kind_at z.app x threshold (f.slot + mask) }

  -- what is asked for to enter the section of a queue
  pub record MayEnter (z : Setting) (f : Frame size mask) (h : Here) (x : Section) (threshold : ℕ) : Type 0 where
    pub room : mask < size
    pub masks : AllByRecursion (λ d. d < f.slot) (saved_slots h.held)
    pub off : HoldsOff z.app z.who z.who h.held threshold
    pub top : ceiling z.app x ≤ 2 ^ z.app.bits
    pub within : IsWithin (storage z.app) z.who z.who x
    pub closed : is_open h.held x ≡ false
    pub nobody : NobodyKeeps (storage z.app) z.who z.who x

  -- masks that are kept below a window are none that it works with
  pub saves_below : (f : Frame size mask) (held : List OpenSection)
      → AllByRecursion (λ d. d < f.slot) (saved_slots held)
      → Saves f held
  saves_below f held masks =
      all_weaker (λ e. e < f.slot) (λ e. (e < f.slot) ⊎ (e ≡ f.slot + mask)) (λ e less. inl less) _ masks

  pub saves_inside : {z : Setting} {f : Frame size mask} {h : Here} {x : Section} {threshold : ℕ}
      → MayEnter z f h x threshold
      → Saves f (opened z f x threshold ∷ h.held)
  saves_inside {z = z} {f = f} {h = h} {x = x} {threshold = threshold} may =
      all_append (λ e. (e < f.slot) ⊎ (e ≡ f.slot + mask)) (saved_slot (kind_at z.app x threshold (f.slot + mask)))
      (saved_slots h.held)
      (all_weaker (λ e. e ≡ f.slot + mask) (λ e. (e < f.slot) ⊎ (e ≡ f.slot + mask)) (λ e is. inr is) _
      (saves_in (guard_of z.app x) threshold (f.slot + mask))) (saves_below f h.held may.masks)

  module _ {z : Setting} {f : Frame size mask} {lines : List Line} {h : Here} {ws : List ℕ} {x : Section} where
    pub enters : {threshold cost : ℕ} {values : Values} {rest : Values → Doing Values} → MayEnter z f h x threshold
        → length lines < cost → h.rest ≡ does (Enters x cost) values (λ answer. rest)
        → ((m : ℕ) (vs : Values) (cells : List ℕ) (queues : Location → List Entry)
        → TakesOver (storage z.app) z.who x (spend_step (configuration z h)) values vs cells queues
        → Straight z f lines (within h (opened z f x threshold) cost cells queues (rest vs)) (slice_set ws mask m))
        → Straight z f (enter z.app x threshold mask ∷ lines) h ws
    unfolding storage
    enters {threshold = threshold} {cost = cost} {rest = rest} may short is on = record {
      runs = λ run has.
          let there : mask < length ws = omega (arith, run.long, may.room) in
          enters_here (kind_at z.app x threshold (f.slot + mask)) cost
          (has.0 ∙ ap Some (enter_placed x (guard_of z.app x) threshold mask f.slot)) refl (next_in_time run)
          (record {
            mask = kind_fits z.app z.who h.held x threshold (f.slot + mask) may.off may.top;
            slot =
                all_weaker (λ d. d ≡ f.slot + mask)
                (λ d. (d < length (window f ws)) × (¬ Contains (saved_slots h.held) d))
                (λ d d_is.
                subst (λ (k : ℕ). (k < length (window f ws)) × (¬ Contains (saved_slots h.held) k)) (sym d_is)
                (window_there f ws mask there, not_kept (saved_slots h.held) f.slot mask may.masks))
                (saved_slot (kind_at z.app x threshold (f.slot + mask)))
                (saves_in (guard_of z.app x) threshold (f.slot + mask));
            within = may.within;
            closed = may.closed;
            nobody = may.nobody;
          }) is
          (λ saved vs cells queues taken.
          let kept = saves_mask f (guard_of z.app x) threshold saved ws there in
          let around =
          lasts_less (suc h.done + length lines) (h.done + suc (length lines)) h.deadlines (omega arith) run.time.1 in
          subst (λ slots. S z (record (within h (opened z f x threshold) cost cells queues (rest vs))
          { slots = slots }))
          (sym kept.1)
          ((on kept.0 vs cells queues
          (record {
            agree = taken.agree;
            same = record { long = taken.same.long; touched = taken.same.touched; queued = taken.same.queued };
            represented = taken.represented;
            once = taken.once;
            few = taken.few;
          })).runs
          (record {
            time = (omega (arith, run.time.0), (omega arith, around));
            saves = saves_inside may;
            long = length-set ws mask kept.0 ∙ run.long;
            fit = and_right (fits size mask (enter z.app x threshold mask).0) (all_fit size mask lines) run.fit;
          }) has.1));
    }

    -- out of it: the deadlines are those around it
    pub leaves : {outer : List OpenSection} {deadline : ℕ} {around : List ℕ} {values : Values} {rest : Values
        → Doing Values}
        (threshold : ℕ) → h.held ≡ opened z f x threshold ∷ outer → h.deadlines ≡ deadline ∷ around
        → h.rest ≡ does (Leaves x) values (λ answer. rest)
        → (storage z.app).Represents (Guarded x) (slice_index h.cells) (h.queues (Guarded x)) (values (Guarded x))
        → ((vs : Values) → Agree (storage z.app) z.who outer vs values
        → Straight z f lines
        (record h { held = outer; done = suc h.done; deadlines = around; at = suc h.at; rest = rest vs }) ws)
        → Straight z f (leave z.app x threshold mask ∷ lines) h ws
    leaves {outer = outer} {deadline = deadline} {around = around} threshold innermost last is represented on = record {
      runs = λ run has.
          leaves_here (kind_at z.app x threshold (f.slot + mask))
          (record { outer = outer; deadline = deadline; around = around; innermost = innermost; last = last })
          (has.0 ∙ ap Some (leave_placed x (guard_of z.app x) threshold mask f.slot)) refl
          (next_in_time run) is represented
          (λ vs agree.
          let inside = rw last at run.time.1 in
          let masks = rw innermost at run.saves in
          let behind =
          lasts_less (suc h.done + length lines) (h.done + suc (length lines)) around (omega arith) inside.1 in
          (on vs agree).runs
          (record {
            time = (omega (arith, run.time.0), behind);
            saves = all_behind (λ e. (e < f.slot) ⊎ (e ≡ f.slot + mask))
                (saved_slot (kind_at z.app x threshold (f.slot + mask))) (saved_slots outer) masks;
            long = run.long;
            fit = and_right (fits size mask (leave z.app x threshold mask).0) (all_fit size mask lines) run.fit;
          }) has.1);
    }

pub fits_append : (size free : ℕ) (lines more : List Line) → all_fit size free lines ≡ true
    → all_fit size free more ≡ true → all_fit size free (lines ++ more) ≡ true
fits_append size free [] more fit others = others
fits_append size free (line ∷ lines) more fit others =
    and_both _ _ (and_left _ _ fit) (fits_append size free lines more (and_right _ _ fit) others)

-- the lines of a whole section, likewise
module _ (x : Section) (g : Guard) (threshold mask : ℕ) where
  abbrev pub section_lines : List Line → List Line
  section_lines lines = enter_line x g threshold mask ∷ (lines ++ leave_line x g threshold mask ∷ [])

  pub section_placed : (s : ℕ) (lines : List Line)
      → enter_line x g threshold (s + mask) ∷ (map (placed s) lines ++ leave_line x g threshold (s + mask) ∷ [])
      ≡ map (placed s) (section_lines lines)
  section_placed s lines =
      let both = map-append (placed s) lines (leave_line x g threshold mask ∷ []) in
      rw (enter_placed x g threshold mask s, both, leave_placed x g threshold mask s) refl

  pub section_fits : (size free : ℕ) (lines : List Line) → all_fit size free lines ≡ true
      → all_fit size free (section_lines lines) ≡ true
  section_fits size free lines fit =
      rw (enter_fits x g threshold mask size free)
      (fits_append size free lines (leave_line x g threshold mask ∷ []) fit
      (rw (leave_fits x g threshold mask size free) refl))

-- the code of a whole section
pub section_stands : {size mask : ℕ} {z : Setting} {f : Frame size mask} {h : Here} {x : Section}
    {threshold : ℕ} (ws : List ℕ) (lines : List Line) → MayEnter z f h x threshold → length ws ≡ size
    → all_fit size mask lines ≡ true → InTime
    (h.done + length (section_lines x (guard_of z.app x) threshold mask lines)) h
    → HasCodeAt z.code h.at (enter z.app x threshold (f.slot + mask)
    ∷ (map (placed f.slot) lines ++ leave z.app x threshold (f.slot + mask) ∷ []))
    → Straight z f (section_lines x (guard_of z.app x) threshold mask lines) h ws → S z (Now f h ws)
section_stands {size = size} {mask = mask} {z = z} {f = f} {h = h} {x = x} {threshold = threshold} ws lines may long fit
    time
    has run =
    let fits = section_fits x (guard_of z.app x) threshold mask size mask lines fit in
    run.runs
    (record { time = time; saves = saves_below f h.held may.masks; long = long; fit = fits })
    (subst (HasCodeAt z.code h.at) (section_placed x (guard_of z.app x) threshold mask f.slot lines) has)

-- what is so after the section of a queue, from what was taken over in it
module _ {size mask : ℕ} {z : Setting} {f : Frame size mask} {h : Here} {x : Section} {threshold : ℕ} {vs ws : Values}
    {cells : List ℕ} {queues : Location → List Entry} (queue : IsQueue x) (may : MayEnter z f h x threshold)
    (taken : TakesOver (storage z.app) z.who x (spend_step (configuration z h)) vs ws cells queues) where
  pub reads_it : reads (storage z.app) z.who (opened z f x threshold ∷ h.held) (Guarded x) ≡ true
  reads_it = reads_inside z.app z.who h.held (opened z f x threshold) x refl

  pub own_left : (entries : List Entry) (left : List ℕ) → length left ≡ length cells
      → ((c : ℕ) → ¬ (home_of z.app c ≡ At (Guarded x)) → slice_index left c ≡ slice_index cells c)
      → LeavesMine (storage z.app) z.who (configuration z h) left (with_queue queues x entries)
  own_left entries left long kept =
      leaves_out z (configuration z h) x entries (unread z.app z.who h.held x queue may.closed)
      (record { long = taken.same.long; touched = taken.same.touched; queued = taken.same.queued }) long kept

  pub agree_left : {us after : Values} (content : Content)
      → Agree (storage z.app) z.who h.held after (values_with us (Guarded x) content)
      → Agree (storage z.app) z.who (opened z f x threshold ∷ h.held) us ws
      → Agree (storage z.app) z.who h.held after vs
  agree_left content last inner location may_read =
      agree_out z h.held (opened z f x threshold) x content (unread z.app z.who h.held x queue may.closed) last inner
      location
      may_read ∙ taken.agree location may_read
