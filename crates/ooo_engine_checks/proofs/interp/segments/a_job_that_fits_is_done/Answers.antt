-- The small job fits.
use Rattle.ooo_engine_checks.proofs.SmallJob.{small_fits}
use Rattle.ooo_engine_checks.proofs.interp.segments.a_job_that_fits_is_done.Goals as goal

pub run_segment-requires : goal.run_segment-requires
run_segment-requires g c = small_fits _ _ c.in_ok-job.ensures
