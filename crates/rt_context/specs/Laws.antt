-- What holds of all frames with room for what the architecture pushes.
use Rattle.std.specs.Prelude.{◌≡◌, ◌≤◌, ◌*◌, length}
use Rattle.rt_ids.specs.declared.exception.TheConstants.{BASIC_FRAME_WORDS}
use Rattle.rt_context.specs.Frames.{Frames, words, depth}

-- the depth counts the words, four bytes each
abbrev pub DepthCountsTheWords : Type 0
DepthCountsTheWords = (f : Frames) → BASIC_FRAME_WORDS ≤ f.entry → depth f ≡ 4 * length (words f)
