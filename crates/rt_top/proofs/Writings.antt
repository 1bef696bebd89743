-- What each of `run`, `live` and `pair` writes is short, and is audited as a run.
use Rattle.std.proofs.Common.{◌≡◌, ℕ, ◌<◌, ◌≤◌, List, [], ◌++◌, length, map, codes, refl, ap, sym, ◌∙◌, arith}
use Rattle.std.proofs.Common.{append_assoc, append-nil, length-append}
use Rattle.std.proofs.lemmas.List.{length-map}
use Rattle.rt_ids.specs.Event.{Event}
use Rattle.rt_ids.specs.declared.limits.TheConstants.{TRACE_BYTES}
use Rattle.rt_app.specs.Names.{names_of}
use Rattle.rt_app.specs.Tree.{App}
use Rattle.rt_code.specs.Image.{Image}
use Rattle.rt_core.specs.Trace.{trace}
use Rattle.rt_dual.specs.Course.{first_events, second_events, course_events}
use Rattle.rt_dual.specs.Output.{IsPairText, core_text, course_text, account}
use Rattle.rt_dual.proofs.Found.{pair_row}
use Rattle.rt_listing.specs.Listing.{listing}
use Rattle.rt_live.specs.Account.{declared_irqs}
use Rattle.rt_live.specs.Interleaving.{turns, interleaving}
use Rattle.rt_live.specs.Output.{IsLiveText}
use Rattle.rt_live.specs.declared.account.AccountRow.{AccountRow}
use Rattle.rt_live.proofs.Found.{live_row}
use Rattle.rt_run.specs.Written.{text_of}
use Rattle.rt_script.specs.Script.{events}
use Rattle.rt_script.specs.Text.{IsScriptText}
use Rattle.rt_script.specs.declared.line.Line.{Line}
use Rattle.rt_top.specs.Inside.Started.{run_text}
use Rattle.rt_top.specs.Outputs.{IsGoodImage}
use Rattle.rt_top.proofs.Audits.{IsTold, told}
use Rattle.rt_top.proofs.Happening.{run_happens, live_happens, first_happens, second_happens}

-- an account has a row for each declared interrupt
rows_few : (image : Image) (f : ℕ → AccountRow) → length (map f (declared_irqs image.names)) ≤ length image.names.irqs
rows_few image f =
    omega (
      arith,
      length-map (declared_irqs image.names) f,
      length-map image.names.irqs (λ (irq : List ℕ × ℕ). irq.1),
    )

-- what is told is shorter than a trace's text may be, also behind a short line
pub told_short : (text bytes : List ℕ) (items : ℕ) → IsTold text bytes items → length bytes < TRACE_BYTES
told_short text bytes items told = omega (arith, told.few)

-- what `pair` writes of a core behind its own line
abbrev pub core_part : ℕ → (first second : Image) (script : List Line) (bytes : List ℕ)
    → IsPairText first second script bytes → Image → List Event → List (List ℕ) → List ℕ
core_part core first second script bytes pair img es found =
    listing img ++ codes "trace\n" ++ (course_text img es found ++ account core img pair.history pair.left)

headed : (head : List ℕ) (img : Image) (es : List Event) (found : List (List ℕ)) (told : List ℕ)
    → core_text head img es found told ≡ head ++ (listing img ++ codes "trace\n" ++ (course_text img es found ++ told))
headed head img es found told =
    let l = listing img in
    let t = course_text img es found in
    ap (λ x. (x ++ t) ++ told) (append_assoc head l (codes "trace\n"))
    ∙ ap (λ x. x ++ told) (append_assoc head (l ++ codes "trace\n") t)
    ∙ append_assoc head ((l ++ codes "trace\n") ++ t) told
    ∙ ap (λ x. head ++ x) (append_assoc (l ++ codes "trace\n") t told)

module _ {text more : List ℕ} {app : App} {image : Image} {script : List Line} (is : IsGoodImage text app image)
    (read : IsScriptText (names_of app) more script) (bytes : List ℕ) where
  -- what `run` writes
  pub run_told : bytes ≡ run_text image script → IsTold text bytes (length (trace image (events script)))
  run_told same =
      told (run_happens is read) [] (omega arith) bytes
      (same ∙ ap (λ t. listing image ++ codes "trace\n" ++ t) (sym (append-nil (text_of image script))))

  -- what `live` writes
  pub live_told : (shown : List ℕ) (live : IsLiveText image script shown)
      → bytes ≡ listing image ++ codes "trace\n" ++ shown
      → IsTold text bytes (length (trace image (interleaving (turns script) live.found)))
  live_told shown live same =
      told (live_happens is read shown live) (map (live_row live) (declared_irqs image.names))
      (rows_few image (live_row live)) bytes (same ∙ ap (λ t. listing image ++ codes "trace\n" ++ t) live.written)

  -- what `pair` writes of each core
  module _ (beside : List ℕ) (other : App) (second : Image) (pair : IsPairText image second script bytes) where
    abbrev pub first_part : List ℕ
    first_part = core_part 0 image second script bytes pair image (first_events script) pair.one

    abbrev pub second_part : List ℕ
    second_part = core_part 1 image second script bytes pair second (second_events script) pair.two

    pub first_told : IsTold text first_part (length (trace image (course_events (first_events script) pair.one)))
    first_told =
        told (first_happens is read beside other second bytes pair) (map (pair_row pair 0) (declared_irqs image.names))
        (rows_few image (pair_row pair 0)) first_part refl

    pub second_told : IsGoodImage beside other second
        → IsTold beside second_part (length (trace second (course_events (second_events script) pair.two)))
    second_told is_other =
        told (second_happens is read beside other second bytes pair is_other)
        (map (pair_row pair 1) (declared_irqs second.names)) (rows_few second (pair_row pair 1)) second_part refl

    pub first_short : length (core_text (codes "core 1\n") image (first_events script) pair.one
        (account 0 image pair.history pair.left)) < TRACE_BYTES
    first_short =
        let told : IsTold text first_part (length (trace image (course_events (first_events script) pair.one))) =
        first_told in
        omega (
          arith,
          told.few,
          ap length (headed (codes "core 1\n") image (first_events script) pair.one
              (account 0 image pair.history pair.left)),
          length-append (codes "core 1\n") first_part,
        )

    pub second_short : IsGoodImage beside other second
        → length (core_text (codes "core 2\n") second (second_events script) pair.two
        (account 1 second pair.history pair.left)) < TRACE_BYTES
    second_short is_other =
        let told : IsTold beside second_part (length (trace second (course_events (second_events script) pair.two))) =
        second_told is_other in
        omega (
          arith,
          told.few,
          ap length (headed (codes "core 2\n") second (second_events script) pair.two
              (account 1 second pair.history pair.left)),
          length-append (codes "core 2\n") second_part,
        )

joined : (a b c d : List ℕ) → a ≡ c → b ≡ d → a ++ b ≡ c ++ d
joined a b c d e f = cc

-- the text of both
pub pair_parts : (image second : Image) (script : List Line) (bytes : List ℕ)
    (pair : IsPairText image second script bytes) → bytes
    ≡ (codes "core 1\n" ++ core_part 0 image second script bytes pair image (first_events script) pair.one)
    ++ (codes "core 2\n" ++ core_part 1 image second script bytes pair second (second_events script) pair.two)
pair_parts image second script bytes pair =
    pair.written ∙ joined _ _ _ _
    (headed (codes "core 1\n") image (first_events script) pair.one (account 0 image pair.history pair.left))
    (headed (codes "core 2\n") second (second_events script) pair.two (account 1 second pair.history pair.left))
