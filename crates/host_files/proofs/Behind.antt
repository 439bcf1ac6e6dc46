-- What is written at the end of a file stands behind what it held.
pub use Rattle.dasd_jobs.proofs.Drafts.{written_behind}
