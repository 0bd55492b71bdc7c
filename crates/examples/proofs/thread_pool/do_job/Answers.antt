use Rattle.std.proofs.Common.{refl}
use Rattle.std.proofs.lemmas.Option.{slice_get_read}
use Rattle.examples.proofs.thread_pool.do_job.Goals as goal

pub returns : goal.returns
returns g c =
    let found = c.in_ok-job.ensures.lookup in
    record {
      job = c.in_ok-job.job.now;
      job_is = slice_get_read _ _ _ _ refl found.3.0 found.1;
      gave = record { shown = c.in_ok-job.job; shows = refl; says = record { met = c.work-output.ensures } };
    }
