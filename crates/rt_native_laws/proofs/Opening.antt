-- What runs first as an interrupt is taken.
use Rattle.std.proofs.Common.{◌≡◌, ℕ, ◌+◌, ◌-◌, ◌*◌, ◌≤◌, List, [], ◌∷◌, ◌++◌, Option, Some}
use Rattle.std.proofs.Common.{sym, refl, ap, subst, arith, length}
use Rattle.std.specs.Prelude.{slice_index}
use Rattle.rt_ids.specs.Operation.{wrapped_number as word}
use Rattle.rt_code.specs.Stack.{words_of}
use Rattle.rt_native.specs.Pieces.{open_frame, leap}
use Rattle.rt_native.specs.Sequences.{branch}
use Rattle.rt_native.specs.Service.{stub, opening}
use Rattle.rt_thumb.specs.declared.instruction.Instruction.TheVariants as instruction
use Rattle.rt_native_laws.specs.Doing.{with_slots}
use Rattle.rt_native_laws.specs.Opening.{OpeningIsDone}
use Rattle.rt_native_laws.specs.Standing.{LieFrom, caller_words}
use Rattle.rt_native_laws.proofs.Accesses.{runs_within}
use Rattle.rt_native_laws.proofs.Calls.{words_from, long_words, word_of}
use Rattle.rt_native_laws.proofs.Frames.{opens, shifted}
use Rattle.rt_native_laws.proofs.Jumps.{leap_leads}
use Rattle.rt_native_laws.proofs.Pieces.{steps}
use Rattle.rt_native_laws.proofs.Runs.{parts_of, runs_on}

pub opening_is_done : OpeningIsDone
unfolding stub opening branch
opening_is_done at bottom img places p to irq h c m here =
    let st = here.stands in
    let laid = here.laid in
    let top = m.register 13 in
    let floor = top - 4 * h.frame in
    let sum : floor + 4 * h.frame ≡ top = omega (arith, here.room) in
    let none : length (words_of c.caller) ≡ 0 = ap (λ (o : Option (List ℕ)). length (words_of o)) here.free in
    let memory : top ≤ 0xE0000000 = omega (arith, st.frames, laid.time, laid.in_memory) in
    let place = slice_index places h.entry in
    let j = instruction.Branch (leap to place) in
    let ps = parts_of p m.address (open_frame h.frame) (j ∷ []) to here.code in
    let g = opens p floor top h.frame m floor ps.middle sum (omega arith) (omega arith) memory ps.first in
    let m1 = shifted m g.register ps.middle in
    let last = shifted m g.register place in
    let arrives : word (ps.middle + 4 + leap to place) ≡ place =
    leap_leads ps.middle to place ps.second.1 (omega (arith, here.low)) (omega (arith, here.addresses h.entry)) in
    let words = words_from last (g.register 13) h.frame in
    let long : length words ≡ h.frame = long_words last (g.register 13) h.frame in
    let after = with_slots at bottom img places p words c in
    let ends : g.register 13 + (4 * length words + 4 * length (words_of c.caller)) ≡ top = omega (arith, g.sp, sum) in
    record {
      slots = words;
      last = last;
      long = long;
      runs = runs_within p floor top (g.register 13) top (open_frame h.frame ++ j ∷ []) m last g.sp refl
          (runs_on p floor top (open_frame h.frame) (j ∷ []) m m1 last g.runs (
            last,
            steps p floor top j m1 last ps.second.0
                (ap (λ (x : ℕ). Some (record m1 { address = x })) arrives) refl,
            refl,
          ));
      becomes = record {
        stands = record {
          address = ap (slice_index places) (sym here.entry);
          base_priority = st.base_priority;
          is_masked = st.is_masked;
          aligned = omega (arith, st.aligned, g.sp, sum);
          stack = omega (arith, here.room, g.sp, sum);
          frames = omega (arith, ends, st.frames);
          slots = λ k l. sym (word_of last (g.register 13) h.frame k (omega (arith, long, l)));
          caller = subst
              (λ (o : Option (List ℕ)). LieFrom last (g.register 13 + 4 * length words) (caller_words places o))
              (sym here.free) (λ k l. absurd (omega (arith, l)));
          cells = st.cells;
          time = st.time;
          alarm = st.alarm;
          pending = st.pending;
        };
        registers = λ k f n. g.others k n;
        ends = omega (arith, ends, none);
        memory = λ k apart. refl;
        exception = refl;
        active = refl;
        tick = refl;
        seen = refl;
      };
    }
