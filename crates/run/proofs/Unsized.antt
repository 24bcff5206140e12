-- What every run carries, but for how many levels it has and how large they are. Assumes nothing.
use Rattle.std.proofs.Common.{◌≡◌, ℕ, ◌*◌, ◌≤◌, length}
use Rattle.run.specs.declared.state.State.{State}
use Rattle.run.specs.Keeping.{Phased, DeadlinesWithin, FewJobs, FewPreemptions, UnfinishedTasks, CoresRecorded, Kept}
use Rattle.run.specs.Turns.{servers_at}

pub record KeptUnsized (s : State) : Type 0 where
  pub table : length s.tasks ≡ 80
  pub in_time : s.tick ≤ s.unit * s.frames
  pub phased : Phased s
  pub within : DeadlinesWithin s
  pub jobs : FewJobs s
  pub preemptions : FewPreemptions s
  pub unfinished : UnfinishedTasks s
  pub recorded : CoresRecorded s

pub unsized : (s : State) → Kept s → KeptUnsized s
unsized s kept = record {
  table = kept.table;
  in_time = kept.in_time;
  phased = kept.phased;
  within = kept.within;
  jobs = kept.jobs;
  preemptions = kept.preemptions;
  unfinished = kept.unfinished;
  recorded = kept.recorded;
}

-- with few levels that are not large, it is all
pub kept_sized : (s : State) → KeptUnsized s → length s.levels.items ≤ 5 → ((k : ℕ) → length (servers_at s k) ≤ 31) → Kept s
kept_sized s kept few_levels few_servers = record {
  table = kept.table;
  in_time = kept.in_time;
  phased = kept.phased;
  within = kept.within;
  jobs = kept.jobs;
  preemptions = kept.preemptions;
  unfinished = kept.unfinished;
  recorded = kept.recorded;
  few_levels = few_levels;
  few_servers = few_servers;
}
