-- What exception entry and return, and a call of a body and its return, do to the frames.
use Rattle.std.specs.Prelude.{ℕ, Bool, ◌&&◌, List, [], ◌∷◌, replicate, Option, Some, None, option_map}
use Rattle.rt_code.specs.declared.image.BodyRow.{BodyRow}
use Rattle.rt_code.specs.Stack as stack
use Rattle.rt_context.specs.Frames.{Saved, Frames, frames_in_use}

-- the thread's frame of so many words alone
abbrev pub thread : ℕ → ℕ → ℕ → Frames
thread size entry words = record { size = size; entry = entry; slots = replicate words 0; caller = None; below = [] }

-- whether so many words more have room
abbrev pub has_room : Frames → ℕ → Bool
has_room f n = stack.has_room f.size (frames_in_use f) n

-- exception entry, from the exception of a number at an address: a frame of so many words is on top
abbrev pub frames_after_entry : Frames → ℕ → ℕ → ℕ → Frames
frames_after_entry f number address n = record f {
  slots = replicate n 0;
  caller = None;
  below = record { number = number; address = address; slots = f.slots; caller = f.caller } ∷ f.below;
}

-- exception return: what was interrupted runs on, from its address
abbrev pub frames_after_resuming : Frames → Saved × List Saved → Frames × ℕ
frames_after_resuming f found = (
  record f { slots = found.0.slots; caller = found.0.caller; below = found.1 },
  found.0.address,
)

-- exception return, where a handler runs that interrupted something
abbrev pub frames_after_return : Frames → Option (Frames × ℕ)
frames_after_return f = option_map (frames_after_resuming f) (stack.interrupted_context f.caller f.below)

-- whether what runs may call a body: it is a handler's own code, whose frame has a slot for the return address
abbrev pub may_call : Frames → Bool
may_call f = stack.may_call f.caller f.slots f.below

-- whether the arguments of a body are in the running frame, from this slot on, and fit into the body's own, for which
-- there is room
abbrev pub call_fits : Frames → BodyRow → ℕ → Bool
call_fits f row from = stack.arguments_fit f.slots row from && has_room f row.frame

-- a call, which will return to an address
abbrev pub frames_after_call : Frames → BodyRow → ℕ → ℕ → Frames
frames_after_call f row from address =
    let caller = stack.caller_frame f.slots address in
    record f { slots = stack.body_frame caller row from; caller = Some caller }

-- a body's return: the handler runs on, from the return address
abbrev pub back : Frames → Option (Frames × ℕ)
back f = option_map (λ slots. (record f { slots = slots; caller = None }, stack.return_address slots)) f.caller
