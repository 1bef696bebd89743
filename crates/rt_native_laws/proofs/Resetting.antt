-- The rest of reset leads to the core after reset.
use Rattle.std.proofs.Common.{◌≡◌, ◌≢◌, ◌∙◌, ℕ, zero, suc, ◌+◌, ◌-◌, ◌*◌, ◌/◌, ◌%◌, ◌^◌, ◌<◌, ◌≤◌, ◌⊎◌, inl, inr}
use Rattle.std.proofs.Common.{Bool, true, false, List, [], ◌∷◌, ◌++◌, map, length, Option, Some, None, refl}
use Rattle.std.proofs.Common.{sym, ap, subst, arith, append_assoc, ⊎_elim}
use Rattle.std.proofs.lemmas.Bool.Decides.{nat_tests}
use Rattle.std.proofs.lemmas.List.{get_or-replicate, length-map, length-replicate}
use Rattle.std.specs.Prelude.{if◌then◌else◌, ◌==◌, ◌&&◌, ◌||◌, bit_or, nat_le, nat_lt, flat_map, slice_index}
use Rattle.rt_code.specs.Image.{Image}
use Rattle.rt_core.specs.Core.{reset as model_reset}
use Rattle.rt_ids.specs.Operation.{wrapped_number as word}
use Rattle.rt_ids.specs.declared.cell.CellRow.{CellRow}
use Rattle.rt_ids.specs.declared.limits.TheConstants.{IRQ_NUMBERS}
use Rattle.rt_native.specs.Pieces.{address, number, open_frame}
use Rattle.rt_native.specs.Program.{first_values}
use Rattle.rt_native.specs.Service.{SYSTICK, copy_words, enable, reset, start_tick}
use Rattle.rt_native.specs.declared.outside.Outside.{Outside}
use Rattle.rt_priorities.specs.Setting.{IsOutsideSystem}
use Rattle.rt_thumb.specs.Effect.{behind, effect, stored, storing}
use Rattle.rt_thumb.specs.Exceptions.{external}
use Rattle.rt_thumb.specs.Machine.{Machine, Emitted, Posted, word_at, with_word}
use Rattle.rt_thumb.specs.Step.{Program}
use Rattle.rt_thumb.specs.declared.instruction.Instruction.{Instruction}
use Rattle.rt_thumb.specs.declared.instruction.Instruction.TheVariants as instruction
use Rattle.rt_thumb.specs.declared.instruction.Operation.TheVariants as operation
use Rattle.rt_thumb_laws.proofs.Undisturbed.{nothing_disturbs}
use Rattle.rt_native_laws.specs.Doing.{with_slots}
use Rattle.rt_native_laws.specs.Going.{HasCode}
use Rattle.rt_native_laws.specs.Laws.{IsApart}
use Rattle.rt_native_laws.specs.Own.{Spans}
use Rattle.rt_native_laws.specs.Resetting.{IsAtSecondPart, LeadsToReset, ResetHasTwoParts, ResetLeads}
use Rattle.rt_native_laws.specs.Standing.{StandsFor, HoldsWords}
use Rattle.rt_native_laws.proofs.Accesses.{otherwise}
use Rattle.rt_native_laws.proofs.Calculating.{next as stepped}
use Rattle.rt_native_laws.proofs.Calls.{words_from, long_words, word_of}
use Rattle.rt_native_laws.proofs.Copying.{AreClear, CanCopy, CopyIsClear, IsWithin, Led, at_top, copies, led_on}
use Rattle.rt_native_laws.proofs.Copying.{led_one, led_privately, loop}
use Rattle.rt_native_laws.proofs.Frames.{opens, shifted}
use Rattle.rt_native_laws.proofs.Keeping.{written}
use Rattle.rt_native_laws.proofs.Phases.{apart_of}
use Rattle.rt_native_laws.proofs.Pieces.{moved, gets_address, gets_number, other}
use Rattle.rt_native_laws.proofs.Runs.{parts_of}
use Rattle.rt_native_laws.proofs.Steady.{words_after, words_run}
use Rattle.rt_native_laws.proofs.Tests.{not_equal}

pub reset_has_two_parts : ResetHasTwoParts
unfolding reset
reset_has_two_parts at reload img load =
    let first = instruction.DisableInterrupts ∷ flat_map (λ row. enable row.number row.handler) img.irqs in
    let c = copy_words load at.cells (word (at.time + 8)) in
    let s = start_tick reload in
    let o = open_frame img.thread_words in
    let d = instruction.SynchronizeData ∷ instruction.SynchronizeInstructions ∷ [] in
    ap (λ (zs : List Instruction). (zs ++ o) ++ d) (append_assoc first c s)
    ∙ (ap (λ (zs : List Instruction). zs ++ d) (append_assoc first (c ++ s) o) ∙ append_assoc first (c ++ s ++ o) d)

-- a store to a register of the system that is neither STIR nor one of NVIC_ISER is as one to memory
early : (a : ℕ) → a < 0xE000E100 → (nat_le 0xE000E100 a && nat_lt a 0xE000E140) ≡ false
early a h = grind (arith, nat_tests)

-- what a store to STIR does, and one to NVIC_ISER
abbrev as_request : ℕ → ℕ → Machine → Machine
as_request a v m =
    let irq = v % 2 ^ 9 in
    record m {
      is_pending = λ k. (k == external irq) || m.is_pending k;
      is_unsettled = true;
      seen = Posted irq ∷ m.seen;
    }

abbrev as_enabling : ℕ → ℕ → Machine → Machine
as_enabling a v m = record (with_word a (bit_or (word_at m a) v) m) { is_unsettled = true }

system_store : (port : ℕ) (i : Instruction) (t computed a : ℕ) (m : Machine) → computed ≡ a → a % 4 ≡ 0 → a ≢ port
    → a < 0xE000E100 → storing port i t computed m ≡ behind i (with_word a (m.register t) m)
system_store port i t computed a m e z apart low =
    let v = m.register t in
    ap (λ (x : ℕ). storing port i t x m) e
    ∙ (ap (λ (x : ℕ). if x == 0 then behind i (stored port a v m) else None) z
    ∙ (ap (λ (b : Bool). behind i (if b then record m { seen = Emitted v ∷ m.seen } else otherwise a v m))
    (not_equal a port apart)
    ∙ (ap (λ (b : Bool). behind i (if b then as_request a v m
    else if nat_le 0xE000E100 a && nat_lt a 0xE000E140 then as_enabling a v m else with_word a v m))
    (not_equal a 0xE000EF00 (λ f. omega (arith, f, low)))
    ∙ ap (λ (b : Bool). behind i (if b then as_enabling a v m else with_word a v m)) (early a low))))

-- what a store changes of the system's three registers of SysTick, and nothing else
pub record Started (p : Program) (foreign : ℕ → Bool) (floor top : ℕ) (m : Machine) (to : ℕ) : Type 0 where
  pub last : Machine
  pub led : Led p foreign floor top m last
  pub rest : last ≡ record m { register = last.register; flags = last.flags; address = to; memory = last.memory }
  pub registers : (k : ℕ) → 4 ≤ k → last.register k ≡ m.register k
  pub memory : (k : ℕ) → (4 * k < 0xE000E010) ⊎ (0xE000E01C ≤ 4 * k) → last.memory k ≡ m.memory k
  pub words : HoldsWords last

module _ (at : Outside) (img : Image) (places : List ℕ) (p : Program) (code : HasCode at img places p)
    (port : (p.port < 0xE000E000) ⊎ (0xE000F000 ≤ p.port)) (foreign : ℕ → Bool) (system : IsOutsideSystem foreign)
    (floor top : ℕ) (apart : IsApart p floor top) (clear : AreClear foreign floor top) where
  -- a register of SysTick is not foreign
  of_systick : (r n a w : ℕ) → foreign w ≡ true → word (r + n) ≡ a → 0xE000E000 ≤ a → a < 0xE000F000
      → w ≡ word (r + n) / 4 → ⊥
  of_systick r n a w f is above below e =
      ⊎_elim (λ (y : 4 * w + 4 ≤ 0xE000E000). absurd (omega (arith, y, e, is, above)))
      (λ (y : 0xE000F000 ≤ 4 * w). absurd (omega (arith, y, e, is, below))) (system w f)

  is_no_register : (a : ℕ) → 0xE000E000 ≤ a → a < 0xE000F000 → a ≢ p.port
  is_no_register a low high e =
      ⊎_elim (λ (x : p.port < 0xE000E000). omega (arith, e, x, low)) (λ (x : 0xE000F000 ≤ p.port).
      omega (arith, e, x, high)) port

  starts : (reload : Option ℕ) (m : Machine) (to : ℕ) → floor ≤ m.register 13 → m.register 13 ≤ top
      → m.is_masked ≡ true → HoldsWords m → Spans p m.address (start_tick reload) to → Started p foreign floor top m to
  unfolding start_tick
  starts None m to low high masked words span = record {
    last = m;
    led = record { executed = []; run = refl };
    rest = ap (λ (a : ℕ). record m { address = a }) (sym span);
    registers = λ k h. refl;
    memory = λ k h. refl;
    words = words;
  }
  starts (Some reload) m to low high masked words span =
      let i1 = instruction.Store 0 1 4 in
      let i2 = instruction.Store 0 1 8 in
      let i3 = instruction.Move 0 7 in
      let i4 = instruction.Store 0 1 0 in
      let outer = parts_of p m.address (address 1 SYSTICK ++ number 0 reload) (i1 ∷ i2 ∷ i3 ∷ i4 ∷ []) to span in
      let inner = parts_of p m.address (address 1 SYSTICK) (number 0 reload) outer.middle outer.first in
      let g = gets_address p floor top 1 SYSTICK m inner.middle refl inner.first in
      let m1 = moved m g.register g.flags inner.middle in
      let h = gets_number p floor top 0 reload m1 outer.middle refl inner.second in
      let m2 = moved m h.register h.flags outer.middle in
      let s1 : g.register 13 ≡ m.register 13 = g.others 13 (λ e. omega (arith, e)) (λ e. omega (arith, e)) in
      let s2 : h.register 13 ≡ g.register 13 = h.others 13 (λ e. omega (arith, e)) (λ e. omega (arith, e)) in
      let within1 : IsWithin floor top m1 = (omega (arith, low, s1), omega (arith, high, s1)) in
      let within2 : IsWithin floor top m2 = (omega (arith, within1.0, s2), omega (arith, within1.1, s2)) in
      let w1 = words_run at img places p code floor top (address 1 SYSTICK) m m1 g.runs words in
      let w2 = words_run at img places p code floor top (number 0 reload) m1 m2 h.runs w1 in
      let r1 : h.register 1 ≡ SYSTICK = h.others 1 (λ e. omega (arith, e)) (λ e. omega (arith, e)) ∙ g.gets in
      let v = h.register 0 in
      let m3 = record m2 { memory = written m.memory 0xE000E014 v; address = outer.middle + 2 } in
      let d3 : effect p.port i1 m2 ≡ Some m3 =
      system_store p.port i1 0 (word (h.register 1 + 4)) 0xE000E014 m2 (ap (λ (x : ℕ). word (x + 4)) r1) refl
      (is_no_register 0xE000E014 (omega arith) (omega arith)) (omega arith) in
      let m4 = record m3 { memory = written m3.memory 0xE000E018 v; address = outer.middle + 2 + 2 } in
      let d4 : effect p.port i2 m3 ≡ Some m4 =
      system_store p.port i2 0 (word (h.register 1 + 8)) 0xE000E018 m3 (ap (λ (x : ℕ). word (x + 8)) r1) refl
      (is_no_register 0xE000E018 (omega arith) (omega arith)) (omega arith) in
      let m5 = stepped p i3 m4 in
      let m6 = record m5 { memory = written m4.memory 0xE000E010 7; address = to } in
      let arrives : outer.middle + 2 + 2 + 2 + 2 ≡ to = sym outer.second.1.1.1.1 in
      let d6 : effect p.port i4 m5 ≡ Some m6 =
      system_store p.port i4 0 (word (m5.register 1 + 0)) 0xE000E010 m5 (ap (λ (x : ℕ). word (x + 0)) r1) refl
      (is_no_register 0xE000E010 (omega arith) (omega arith)) (omega arith)
      ∙ ap (λ (a : ℕ). Some (record m6 { address = a })) arrives in
      let f = outer.second in
      let w3 = words_after at img places p code i1 m2 m3 (record { found = f.0; does = d3 }) tt w2 in
      let w4 = words_after at img places p code i2 m3 m4 (record { found = f.1.0; does = d4 }) tt w3 in
      let w5 = words_after at img places p code i3 m4 m5 (record { found = f.1.1.0; does = refl }) tt w4 in
      record {
        last = m6;
        led = led_on p foreign floor top m m1 m6 (led_privately p foreign floor top apart clear
            (address 1 SYSTICK) m m1 (low, high) masked
            g.runs)
            (led_on p foreign floor top m1 m2 m6 (led_privately p foreign floor top apart clear
            (number 0 reload) m1 m2 within1 masked h.runs)
            (led_on p foreign floor top m2 m3 m6 (led_one p foreign floor top i1 m2 m3 within2 masked f.0 d3
            (λ w g. of_systick (h.register 1) 4 0xE000E014 w g (ap (λ (x : ℕ). word (x + 4)) r1) (omega arith)
            (omega arith)))
            (led_on p foreign floor top m3 m4 m6 (led_one p foreign floor top i2 m3 m4 within2 masked f.1.0 d4
            (λ w g. of_systick (h.register 1) 8 0xE000E018 w g (ap (λ (x : ℕ). word (x + 8)) r1) (omega arith)
            (omega arith)))
            (led_on p foreign floor top m4 m5 m6 (led_one p foreign floor top i3 m4 m5 within2 masked f.1.1.0 refl
            (λ w g. tt))
            (led_one p foreign floor top i4 m5 m6 within2 masked f.1.1.1.0 d6
            (λ w g. of_systick (m5.register 1) 0 0xE000E010 w g (ap (λ (x : ℕ). word (x + 0)) r1) (omega arith)
            (omega arith)))))));
        rest = refl;
        registers = λ k l.
            other k 0 _ _ (λ e. omega (arith, e, l)) ∙ (h.others k (λ e. omega (arith, e, l)) (λ e. omega (arith, e, l))
            ∙ g.others k (λ e. omega (arith, e, l)) (λ e. omega (arith, e, l)));
        memory = λ k l.
            other k (0xE000E010 / 4) 7 (m4.memory k) (unlike k 0xE000E010 (omega arith) (omega arith) refl l)
            ∙ (other k (0xE000E018 / 4) v (m3.memory k) (unlike k 0xE000E018 (omega arith) (omega arith) refl l)
            ∙ other k (0xE000E014 / 4) v (m.memory k) (unlike k 0xE000E014 (omega arith) (omega arith) refl l));
        words = words_after at img places p code i4 m5 m6 (record { found = f.1.1.1.0; does = d6 }) tt w5;
      }
    where
      unlike : (k a : ℕ) → 0xE000E010 ≤ a → a < 0xE000E01C → a % 4 ≡ 0
          → (4 * k < 0xE000E010) ⊎ (0xE000E01C ≤ 4 * k) → k ≢ a / 4
      unlike k a above below z h e =
          ⊎_elim (λ (x : 4 * k < 0xE000E010). omega (arith, x, e, above, z))
          (λ (x : 0xE000E01C ≤ 4 * k). omega (arith, x, e, below, z)) h

-- the words that cells, the time and the alarm have at first
first_cells : (cells : List CellRow) (k : ℕ) → k < length cells
    → slice_index (map (λ cell. cell.first) cells ++ 0 ∷ (2 ^ 32 - 1) ∷ []) k
    ≡ slice_index (map (λ cell. cell.first) cells) k
first_cells [] k l = absurd (omega (arith, l))
first_cells (c ∷ cells) zero l = refl
first_cells (c ∷ cells) (suc k) l = first_cells cells k (omega (arith, l))

behind_cells : (cells : List CellRow) (k : ℕ)
    → slice_index (map (λ cell. cell.first) cells ++ 0 ∷ (2 ^ 32 - 1) ∷ []) (length cells + k)
    ≡ slice_index (0 ∷ (2 ^ 32 - 1) ∷ []) k
behind_cells [] k = ap (slice_index (0 ∷ (2 ^ 32 - 1) ∷ [])) (omega arith)
behind_cells (c ∷ cells) k =
    let same : length (c ∷ cells) + k ≡ suc (length cells + k) = omega arith in
    ap (slice_index (map (λ cell. cell.first) (c ∷ cells) ++ 0 ∷ (2 ^ 32 - 1) ∷ [])) same ∙ behind_cells cells k

pub longer : (cells : List CellRow)
    → length (map (λ cell. cell.first) cells ++ 0 ∷ (2 ^ 32 - 1) ∷ []) ≡ length cells + 2
longer [] = refl
longer (c ∷ cells) = let rest = longer cells in omega (arith, rest)

module _ (at : Outside) (bottom : ℕ) (reload : Option ℕ) (img : Image) (load : ℕ) (places : List ℕ) (p : Program)
    (foreign : ℕ → Bool) (m : Machine) (x : IsAtSecondPart at bottom reload img load places p foreign m) where
  abbrev low : ℕ
  low = at.cells - 4 * img.thread_words

  abbrev top : ℕ
  top = at.cells

  abbrev count : ℕ
  count = length img.cells + 2

  sum : low + 4 * img.thread_words ≡ top
  sum = omega (arith, x.room)

  apart : IsApart p low top
  apart = apart_of at bottom low top (length img.cells) p x.laid x.has.port (omega (arith, x.room)) (omega arith)

  -- foreign words lie apart from the stack, from first values, and from where they go
  clear : AreClear foreign low top
  clear w f =
      ⊎_elim (λ (y : 4 * w + 4 ≤ bottom). inl (omega (arith, y, sum, x.room)))
      (λ (y : at.time + 8 ≤ 4 * w). inr (omega (arith, y, x.laid.time))) (x.stack_apart w f)

  copy_clear : CopyIsClear foreign load at.cells count
  copy_clear = record {
    source = x.values_apart;
    target = λ w f. ⊎_elim (λ (y : 4 * w + 4 ≤ bottom). inl (omega (arith, y, x.room)))
        (λ (y : at.time + 8 ≤ 4 * w). inr (omega (arith, y, x.laid.time))) (x.stack_apart w f);
  }

  limit_is : word (at.time + 8) ≡ at.cells + 4 * count
  limit_is = omega (arith, x.laid.time, x.laid.in_memory)

  can : CanCopy p.port load at.cells count
  can = record {
    from_aligned = x.aligned;
    to_aligned = x.laid.aligned;
    from_space = x.in_space;
    to_memory = omega (arith, x.laid.time, x.laid.in_memory);
    apart = ⊎_elim (λ (y : load + 4 * (length img.cells + 2) ≤ at.cells). inl (omega (arith, y)))
        (λ (y : at.time + 8 ≤ load). inr (omega (arith, y, x.laid.time))) x.apart;
    port = ⊎_elim (λ (y : at.port < bottom). inl (omega (arith, y, x.has.port, x.room)))
        (λ (y : at.time + 8 ≤ at.port). inr (omega (arith, y, x.has.port, x.laid.time))) x.laid.port_apart;
  }

  within : (sp : ℕ) → sp ≡ top → (low ≤ sp) × (sp ≤ top)
  within sp e = (omega (arith, e), omega (arith, e))

  -- the first values are copied
  pub record IsCopied : Type 0 where
    pub last : Machine
    pub led : Led p foreign low top m last
    pub rest : last ≡ record m {
      register = last.register;
      flags = last.flags;
      address = last.address;
      memory = last.memory;
    }
    pub stack : last.register 13 ≡ top
    pub registers : (k : ℕ) → 4 ≤ k → last.register k ≡ m.register k
    pub copied : (j : ℕ) → j < count → word_at last (at.cells + 4 * j) ≡ word_at m (load + 4 * j)
    pub memory : (k : ℕ) → (4 * k + 4 ≤ at.cells) ⊎ (at.cells + 4 * count ≤ 4 * k) → last.memory k ≡ m.memory k
    pub words : HoldsWords last

  values_copied : (to : ℕ) → Spans p m.address (copy_words load at.cells (word (at.time + 8))) to
      → (done : IsCopied) × (done.last.address ≡ to)
  unfolding copy_words
  values_copied to span =
      let limit = word (at.time + 8) in
      let a0 = address 0 load in
      let a1 = address 1 at.cells in
      let a2 = address 2 limit in
      let p3 = parts_of p m.address (a0 ++ a1 ++ a2) loop to span in
      let p2 = parts_of p m.address (a0 ++ a1) a2 p3.middle p3.first in
      let p1 = parts_of p m.address a0 a1 p2.middle p2.first in
      let g0 = gets_address p low top 0 load m p1.middle refl p1.first in
      let m0 = moved m g0.register g0.flags p1.middle in
      let g1 = gets_address p low top 1 at.cells m0 p2.middle refl p1.second in
      let m1 = moved m g1.register g1.flags p2.middle in
      let g2 = gets_address p low top 2 limit m1 p3.middle refl p2.second in
      let m2 = moved m g2.register g2.flags p3.middle in
      let s0 : g0.register 13 ≡ top = g0.others 13 (λ e. omega (arith, e)) (λ e. omega (arith, e)) ∙ x.stack in
      let s1 : g1.register 13 ≡ top = g1.others 13 (λ e. omega (arith, e)) (λ e. omega (arith, e)) ∙ s0 in
      let s2 : g2.register 13 ≡ top = g2.others 13 (λ e. omega (arith, e)) (λ e. omega (arith, e)) ∙ s1 in
      let w0 = words_run at img places p x.has low top a0 m m0 g0.runs x.words in
      let w1 = words_run at img places p x.has low top a1 m0 m1 g1.runs w0 in
      let w2 = words_run at img places p x.has low top a2 m1 m2 g2.runs w1 in
      let r0 : g2.register 0 ≡ load =
      g2.others 0 (λ e. omega (arith, e)) (λ e. omega (arith, e))
      ∙ (g1.others 0 (λ e. omega (arith, e)) (λ e. omega (arith, e)) ∙ g0.gets) in
      let r1 : g2.register 1 ≡ at.cells = g2.others 1 (λ e. omega (arith, e)) (λ e. omega (arith, e)) ∙ g1.gets in
      let ends : to ≡ p3.middle + 18 = p3.second.1.1.1.1.1.1.1 ∙ omega arith in
      let c = copies at img places p x.has foreign low top count m2 load at.cells can copy_clear r0 r1 (g2.gets
      ∙ limit_is) x.is_masked
      (within (g2.register 13) s2) w2
      (subst (λ (a : ℕ). Spans p p3.middle loop a) ends p3.second)
      (x.has.low p3.middle (instruction.Operate operation.Compare 1 2) p3.second.0) in
      let front = led_on p foreign low top m m0 c.last (led_privately p foreign low top apart clear a0 m m0
      (within (m.register 13) x.stack)
      x.is_masked g0.runs)
      (led_on p foreign low top m0 m1 c.last (led_privately p foreign low top apart clear a1 m0 m1 (within
      (g0.register 13) s0)
      x.is_masked g1.runs)
      (led_on p foreign low top m1 m2 c.last (led_privately p foreign low top apart clear a2 m1 m2 (within
      (g1.register 13) s1)
      x.is_masked g2.runs) c.led)) in
      let address_is : c.last.address ≡ p3.middle + 18 = ap (λ (y : Machine). y.address) c.rest in (
        record {
          last = c.last;
          led = front;
          rest = c.rest ∙ ap (λ (a : ℕ). record m {
            register = c.last.register;
            flags = c.last.flags;
            address = a;
            memory = c.last.memory;
          }) (sym address_is);
          stack = c.registers 13 (omega arith) ∙ s2;
          registers = λ k l. c.registers k l ∙ (g2.others k (λ e. omega (arith, e, l)) (λ e. omega (arith, e, l))
              ∙ (g1.others k (λ e. omega (arith, e, l)) (λ e. omega (arith, e, l))
              ∙ g0.others k (λ e. omega (arith, e, l)) (λ e. omega (arith, e, l))));
          copied = c.copied;
          memory = c.memory;
          words = c.words;
        },
        address_is ∙ sym ends,
      )

  in_cells : (k : ℕ) → k < count → 4 * ((at.cells + 4 * k) / 4) < 0xE000E010
  in_cells k l = omega (arith, l, x.laid.time, x.laid.in_memory)

  is_value : (k : ℕ) → k < count → k < length (first_values img)
  is_value k l = omega (arith, l, longer img.cells)

  far_above : (a : ℕ) → 0xE0000000 ≤ a → at.cells + 4 * count ≤ 4 * (a / 4)
  far_above a h = omega (arith, h, x.laid.time, x.laid.in_memory)

  besides : (a : ℕ) → (a < 0xE000E010) ⊎ (0xE000E01C ≤ a) → (4 * (a / 4) < 0xE000E010) ⊎ (0xE000E01C ≤ 4 * (a / 4))
  besides a far =
      ⊎_elim (λ (y : a < 0xE000E010). inl (omega (arith, y))) (λ (y : 0xE000E01C ≤ a). inr (omega (arith, y))) far

  no_register : (p.port < 0xE000E000) ⊎ (0xE000F000 ≤ p.port)
  no_register = subst (λ (a : ℕ). (a < 0xE000E000) ⊎ (0xE000F000 ≤ a)) (sym x.has.port) x.port

  -- all of this part is done
  pub record IsBehind : Type 0 where
    pub last : Machine
    pub led : Led p foreign low top m last
    pub rest : last ≡ record m {
      register = last.register;
      flags = last.flags;
      address = slice_index places 0;
      memory = last.memory;
      is_unsettled = false;
    }
    pub stack : last.register 13 ≡ low
    pub values : (k : ℕ) → k < count → word_at last (at.cells + 4 * k) ≡ slice_index (first_values img) k
    pub memory : (k : ℕ) → (4 * k + 4 ≤ at.cells) ⊎ (at.time + 8 ≤ 4 * k) → 4 * k < 0xE0000000
        → last.memory k ≡ m.memory k
    pub system : (a : ℕ) → 0xE0000000 ≤ a → (a < 0xE000E010) ⊎ (0xE000E01C ≤ a) → word_at last a ≡ word_at m a
    pub words : HoldsWords last

  beside_values : (k : ℕ) → (4 * k + 4 ≤ at.cells) ⊎ (at.time + 8 ≤ 4 * k)
      → (4 * k + 4 ≤ at.cells) ⊎ (at.cells + 4 * count ≤ 4 * k)
  beside_values k h =
      ⊎_elim (λ (y : 4 * k + 4 ≤ at.cells). inl y) (λ (y : at.time + 8 ≤ 4 * k). inr (omega (arith, y, x.laid.time))) h

  pub behind_it : IsBehind
  behind_it =
      let d = instruction.SynchronizeData in
      let j = instruction.SynchronizeInstructions in
      let c = copy_words load at.cells (word (at.time + 8)) in
      let s = start_tick reload in
      let o = open_frame img.thread_words in
      let end = slice_index places 0 in
      let p3 = parts_of p m.address (c ++ s ++ o) (d ∷ j ∷ []) end x.code in
      let p2 = parts_of p m.address (c ++ s) o p3.middle p3.first in
      let p1 = parts_of p m.address c s p2.middle p2.first in
      let done = values_copied p1.middle p1.first in
      let k1 = done.0 in
      let m1 = k1.last in
      let masked1 : m1.is_masked ≡ true = ap (λ (y : Machine). y.is_masked) k1.rest ∙ x.is_masked in
      let in1 = within (m1.register 13) k1.stack in
      let k2 = starts at img places p x.has no_register foreign x.system_apart low top apart clear reload m1 p2.middle
      in1.0 in1.1 masked1 k1.words
      (subst (λ (a : ℕ). Spans p a s p2.middle) (sym done.1) p1.second) in
      let m2 = k2.last in
      let masked2 : m2.is_masked ≡ true = ap (λ (y : Machine). y.is_masked) k2.rest ∙ masked1 in
      let at2 : m2.address ≡ p2.middle = ap (λ (y : Machine). y.address) k2.rest in
      let stack2 : m2.register 13 ≡ top = k2.registers 13 far_register ∙ k1.stack in
      let in2 = within (m2.register 13) stack2 in
      let g = opens p low top img.thread_words m2 low p3.middle (sum ∙ sym stack2) least in2.1 apart.memory
      (subst (λ (a : ℕ). Spans p a o p3.middle) (sym at2) p2.second) in
      let m3 = shifted m2 g.register p3.middle in
      let in3 : IsWithin low top m3 = (omega (arith, g.sp), omega (arith, g.sp)) in
      let m4 = stepped p d m3 in
      let m5 = record m4 { is_unsettled = false; address = end } in
      let arrives : p3.middle + 4 + 4 ≡ end = sym p3.second.1.1 in
      let d5 : effect p.port j m4 ≡ Some m5 = ap (λ (a : ℕ). Some (record m5 { address = a })) arrives in
      let w3 = words_run at img places p x.has low top o m2 m3 g.runs k2.words in
      let w4 = words_after at img places p x.has d m3 m4 (record { found = p3.second.0; does = refl }) tt w3 in
      let w5 = words_after at img places p x.has j m4 m5 (record { found = p3.second.1.0; does = d5 }) tt w4 in
      record {
        last = m5;
        led = led_on p foreign low top m m1 m5 k1.led (led_on p foreign low top m1 m2 m5 k2.led
            (led_on p foreign low top m2 m3 m5 (led_privately p foreign low top apart clear o m2 m3 in2 masked2 g.runs)
            (led_on p foreign low top m3 m4 m5 (led_one p foreign low top d m3 m4 in3 masked2 p3.second.0 refl
            (λ w f. tt))
            (led_one p foreign low top j m4 m5 in3 masked2 p3.second.1.0 d5 (λ w f. tt)))));
        rest = ap (λ (y : Machine). record y {
          register = g.register;
          address = end;
          is_unsettled = false;
        }) k2.rest ∙ ap (λ (y : Machine). record y {
          register = g.register;
          flags = m2.flags;
          address = end;
          memory = m2.memory;
          is_unsettled = false;
        }) k1.rest;
        stack = g.sp;
        values = λ k l.
            k2.memory ((at.cells + 4 * k) / 4) (inl (in_cells k l)) ∙ (k1.copied k l ∙ x.values k (is_value k l));
        memory = λ k beside below.
            k2.memory k (inl (omega (arith, below))) ∙ k1.memory k (beside_values k beside);
        system = λ a h far. k2.memory (a / 4) (besides a far) ∙ k1.memory (a / 4) (inr (far_above a h));
        words = w5;
      }
    where
      far_register : 4 ≤ 13
      far_register = omega arith

      least : low ≤ low
      least = omega arith

  module _ (b : IsBehind) where
    abbrev slots : List ℕ
    slots = words_from b.last low img.thread_words

    long : length slots ≡ img.thread_words
    long = long_words b.last low img.thread_words

    as_many : length (map (λ cell. cell.first) img.cells) ≡ length img.cells
    as_many = length-map img.cells (λ cell. cell.first)

    alarm_at : at.time + 4 ≡ at.cells + 4 * (length img.cells + 1)
    alarm_at = omega (arith, x.laid.time)

    stands : StandsFor at bottom places (with_slots at bottom img places p slots (model_reset img)) b.last
    stands = record {
      address = ap (λ (y : Machine). y.address) b.rest;
      base_priority = ap (λ (y : Machine). y.base_priority) b.rest ∙ x.base_priority;
      is_masked = ap (λ (y : Machine). y.is_masked) b.rest ∙ x.is_masked;
      aligned = omega (arith, b.stack, sum, x.laid.aligned);
      stack = omega (arith, b.stack, sum, x.room);
      frames = omega (arith, b.stack, sum, long);
      slots = λ k l.
          ap (λ (a : ℕ). word_at b.last (a + 4 * k)) b.stack
          ∙ sym (word_of b.last low img.thread_words k (omega (arith, l, long)));
      caller = λ k l. absurd (omega (arith, l));
      cells = λ k l.
          b.values k (omega (arith, l, as_many)) ∙ first_cells img.cells k (omega (arith, l, as_many));
      time = ap (word_at b.last) x.laid.time
          ∙ (b.values (length img.cells) (omega arith) ∙ (ap (slice_index (first_values img)) (omega arith)
          ∙ behind_cells img.cells 0));
      alarm = ap (word_at b.last) alarm_at
          ∙ (b.values (length img.cells + 1) (omega arith) ∙ behind_cells img.cells 1);
      pending = λ irq l.
          let small : irq < IRQ_NUMBERS = omega (arith, l, length-replicate IRQ_NUMBERS false) in
          ap (λ (y : Machine). y.is_pending (external irq)) b.rest ∙ (x.pending irq small
          ∙ sym (get_or-replicate IRQ_NUMBERS irq false false small));
    }

    pub result : LeadsToReset at bottom reload img load places p foreign m
    result = record {
      executed = b.led.executed;
      last = b.last;
      leads = λ events only e. nothing_disturbs p foreign b.led.executed events m b.last only
          (at_top p foreign low top b.led.executed m b.last b.led.run) e;
      slots = slots;
      long = long;
      thread = record {
        left = [];
        steady = tt;
        last = b.last;
        stack = refl;
        completes = refl;
        stands = stands;
        ends = omega (arith, b.stack, sum, long);
        settled = ap (λ (y : Machine). y.is_unsettled) b.rest;
        words = b.words;
      };
      address = ap (λ (y : Machine). y.address) b.rest;
      words = b.words;
      memory = b.memory;
      system = b.system;
      exception = ap (λ (y : Machine). y.exception) b.rest;
      active = ap (λ (y : Machine). y.active) b.rest;
      is_pending = ap (λ (y : Machine). y.is_pending) b.rest;
      seen = ap (λ (y : Machine). y.seen) b.rest;
    }

    pub result_last : result.last ≡ b.last
    unfolding result
    result_last = refl

pub reset_leads : ResetLeads
reset_leads at bottom reload img load places p foreign m x =
    result at bottom reload img load places p foreign m x (behind_it at bottom reload img load places p foreign m x)
