-- Worked examples: what the definition computes is what a person worked out.
use Rattle.std.proofs.Common.{◌≡◌, true, false, [], ◌∷◌, ◌++◌, refl, Some, None, codes}
use Rattle.std.specs.Fmt.{digits}
use Rattle.rt_ids.specs.declared.ids.BodyId.TheVariants as body
use Rattle.rt_code.specs.Image.{Image}
use Rattle.rt_code.specs.declared.instr.Instr.TheVariants as instr
use Rattle.rt_code.specs.declared.instr.Note.TheVariants as note
use Rattle.rt_listing.specs.Listing.{listing}

-- two tasks of one priority that emit a number each
two_image : Image
two_image = record {
  bits = 4;
  fpu = false;
  stack_bytes = 40;
  thread_words = 0;
  cells = [];
  irqs = record { name = codes "A"; number = 3; handler = Some (record { value = 224; entry = 5; frame = 2 }) }
      ∷ record { name = codes "B"; number = 7; handler = Some (record { value = 224; entry = 2; frame = 2 }) } ∷ [];
  bodies = [];
  code = (instr.Serve, Some (note.End body.Init)) ∷ (instr.Wait, None)
      ∷ (instr.Set 0 20, None) ∷ (instr.Emit 0, None) ∷ (instr.Ret, None)
      ∷ (instr.Set 0 10, None) ∷ (instr.Emit 0, None) ∷ (instr.Ret, None) ∷ [];
  names = record { irqs = (codes "A", 3) ∷ (codes "B", 7) ∷ []; tasks = codes "b" ∷ codes "a" ∷ []; shared = [] };
}

two_listing : listing two_image
    ≡ codes
    "image 1 4 40 0 8 0\nirq A 3 224 5 2\nirq B 7 224 2 2\ncode 0 serve ; end init\ncode 1 wait\n"
    ++ codes "code 2 set 0 20\ncode 3 emit 0\ncode 4 ret\ncode 5 set 0 10\ncode 6 emit 0\ncode 7 ret\n"
unfolding two_image digits
two_listing = refl

-- the same with the floating-point extension, and without its interrupts and code
extended_image : Image
extended_image = record two_image { fpu = true; stack_bytes = 112; irqs = []; code = [] }

extended_listing : listing extended_image ≡ codes "image 2 4 112 0 0 0\n"
unfolding two_image extended_image digits
extended_listing = refl
