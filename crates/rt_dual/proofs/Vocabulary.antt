-- The words that the proofs of this crate share beside those of rt_live: this file declares nothing, and hands on what
-- is declared below.
pub use Rattle.rt_dual.specs.Course.{IsCourse, CorePlace, course_events, first_events, second_events, turns}
pub use Rattle.rt_dual.specs.Inside.Both.{AreAccounts, AreEmpty, HasRun, HaveRun, IsWritten, leads_by, placed_line}
pub use Rattle.rt_dual.specs.{Forwarded.forward, Output.IsPairText, declared.making.Both.Both}
pub use Rattle.rt_dual.specs.{declared.making.Side.Side}
pub use Rattle.rt_live.proofs.{Readied.irqs_empty, Turning.own_length, Weaving.IsWoven, Weaving.sends_of, Weaving.weave}
pub use Rattle.rt_live.proofs.{Woven.events_of, Woven.events_of-append}
pub use Rattle.rt_live.specs.{declared.account.AccountRow.AccountRow, declared.share.Share.Share}
pub use Rattle.rt_live.specs.{declared.share.Share.TheVariants.First, declared.share.Share.TheVariants.Second}
