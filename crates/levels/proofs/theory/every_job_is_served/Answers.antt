use Rattle.levels.proofs.Service.{every_job_is_served}
use Rattle.levels.proofs.theory.every_job_is_served.Goals as goal

pub returns : goal.returns
returns c = every_job_is_served
