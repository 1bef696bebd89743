-- The layer on which all generated code is proved: where a job is, what it means that code is correct from there, each
-- instruction once, and runs of lines on a window of the frame.
pub mod Jobs
pub mod Correct
pub mod Instructions
pub mod Window
pub mod Runs
pub mod Requests
pub mod Sections
pub mod Noted
pub mod Skips
pub use Jobs.{Here, InTime, Lasts, Setting, ahead, lasts_left, lasts_less, left_at}
pub use Jobs.{configuration}
pub use Correct.{Gives, S, begins, begun, by_line, does, goes, moved}
pub use Instructions.{IsFree, Reads, Writes, Wrote, calc_gives, copy_gives, jump_by_gives, jump_gives}
pub use Instructions.{load_at_gives, load_gives, mark_gives, set_gives, shows, store_at_gives}
pub use Instructions.{store_gives, wrote}
pub use Window.{Frame, Now, Saves, frame_at, framed, inner, inner_window, is_free, is_there, read_behind}
pub use Window.{window, window_free, window_long, window_outside, window_read, window_set, window_there}
pub use Runs.{MayRun, Opens, Straight, all_fit, calculates, copies, ends, first_fits, fits, jumps}
pub use Runs.{jumps_off, loads, loads_at, next_in_time, placed, reads_open, sets}
pub use Runs.{slot_free, slot_of, stays, stores, stores_at, word_of, writes_open}
pub use Requests.{calls_here, clocks_here, emits_here}
pub use Requests.{posts_here, returns_here}
pub use Sections.{MayOpen, enters_here, leaves_here}
pub use Noted.{acts_later, alarms, behind_line, by_noted, clocks, in_window}
pub use Noted.{no_alarm, posts}
pub use Skips.{skips, skips_off}
