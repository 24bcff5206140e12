-- The scheduler and the ledger agree; then their figures are the same, and the laws are kept. Assumes nothing.
use Rattle.std.proofs.Common.{◌≡◌, ℕ, ◌+◌, ◌-◌, ◌*◌, ◌<◌, ◌≤◌, true, length, Some, None, Option, sym, ap, subst, inl, inr, arith}
use Rattle.std.proofs.lemmas.List.{get_or_past}
use Rattle.std.proofs.lemmas.Bool.{cases_lt}
use Rattle.choosing.specs.declared.share.Share.{Share}
use Rattle.choosing.specs.Choosing.{Lawful}
use Rattle.levels.specs.Items.{no_item}
use Rattle.levels.specs.Running.{State, task}
use Rattle.levels.specs.Reaching.{Reached}
use Rattle.levels.specs.Soundness.{Sound}
use Rattle.levels.specs.Counting.{Counted}
use Rattle.levels.proofs.Preemptions.{preemptions_are_few, forget}
use Rattle.levels.proofs.States.{every_state_is_sound}
use Rattle.levels.proofs.Tick.{left_in_time}
use Rattle.cores.specs.Naming.{member, Different}
use Rattle.ledger.specs.Openings.{Opening, rates, rate, reductions}
use Rattle.ledger.specs.Ledger.{Job, Ledger, last_job, job_deadline, length_of, job_left, figures, Kept}
use Rattle.ledger.specs.Scheduler.{setting, Run, run_figures}
use Rattle.ledger.proofs.Jobs.{AllFine, all_served}

-- A task's share and its last job: the same deadline, and what is left and what was held make the length of the job.
abbrev pub LastIs : Opening → Share → Option Job → Type 0
LastIs o c None = (c.left ≡ 0) × (c.deadline ≡ 0)
LastIs o c (Some job) = (job.deadline ≡ c.deadline) × (length job.held + c.left ≡ length_of o job)

pub record Agrees (o : Opening) (r : Run) (l : Ledger) : Type 0 where
  -- the run is one of those that `levels` speaks of
  pub counted : Counted o.choose (setting o).machine r.state r.before r.jobs r.preemptions
  pub time : l.time ≡ r.state.tick
  pub jobs : length l.jobs ≡ r.jobs
  pub preemptions : l.preemptions ≡ r.preemptions
  -- of every number, also past the last task
  pub lasts : (i : ℕ) → LastIs o (task r.state i) (last_job i l.jobs)
  pub fine : AllFine o l.time l.jobs
  pub different : Different l.unfinished
  pub before : (i : ℕ) → member i l.unfinished ≡ r.before i
  pub below : (i : ℕ) → r.before i ≡ true → i < length r.state.tasks
  pub size : length r.state.tasks ≡ length (rates o)
  pub rate_is : (i : ℕ) → (task r.state i).rate ≡ rate o i
  pub levels : length r.state.levels ≡ length o.plan

-- ---- the figures are the same

last_deadline : (o : Opening) (c : Share) (x : Option Job) → LastIs o c x → job_deadline x ≡ c.deadline
last_deadline o c None h = sym h.1
last_deadline o c (Some job) h = h.0

pub last_left : (o : Opening) (c : Share) (x : Option Job) → LastIs o c x → job_left o x ≡ c.left
last_left o c None h = sym h.0
last_left o c (Some job) h = omega (arith, h.1)

pub same_figures : (o : Opening) (r : Run) (l : Ledger) → Agrees o r l → figures o l ≡ run_figures (setting o) r
same_figures o r l a = λ p. record {
  cores = o.cores;
  unit = o.unit;
  frames = o.frames;
  tasks = length o.sheet;
  reductions = sym a.levels p - 1;
  time = a.time p;
  deadline = λ i. last_deadline o (task r.state i) (last_job i l.jobs) (a.lasts i) p;
  left = λ i. last_left o (task r.state i) (last_job i l.jobs) (a.lasts i) p;
  jobs = a.jobs p;
  preemptions = a.preemptions p;
}

module _ (o : Opening) (law : Lawful o.choose) (r : Run) (l : Ledger) (a : Agrees o r l) where
  abbrev st : State
  st = r.state

  pub reached : Reached (setting o).machine st
  reached = forget law a.counted

  -- no task's deadline is in the past, and none has more left than the time up to it
  pub in_window : (i : ℕ) → i < length st.tasks → (task st i).left + st.tick ≤ o.unit * (task st i).deadline
  in_window i h =
      let sound : Sound (setting o).machine st = every_state_is_sound (setting o).machine st reached in
      let (home, is) = sound.housed i h in
      left_in_time o.unit o.frames st.tick st.tasks st.levels sound.levels i home is

  -- a last job whose deadline has come was held for its length
  full : (i : ℕ) (job : Job) → LastIs o (task st i) (Some job) → o.unit * job.deadline ≤ l.time → length job.held ≡ length_of o job
  full i job h d = elim (cases_lt i (length st.tasks)) [
    | inl b ↦ omega (arith, h.1, in_window i b, ap (λ n. o.unit * n) h.0, a.time)
    | inr b ↦ omega (arith, h.1, ap (λ x. x.share.left) (get_or_past st.tasks i no_item b))
  ]

  -- the laws are kept
  pub kept : reductions o ≤ 4 → Kept o l
  kept few = record {
    served = all_served o l.time l.jobs a.fine (λ i job e h. full i job (subst (LastIs o (task st i)) e (a.lasts i)) h);
    few_reductions = few;
    few_preemptions = λ goes_on. omega (
      arith,
      a.preemptions,
      preemptions_are_few o.choose law goes_on (setting o).machine st r.before r.jobs r.preemptions a.counted,
      ap (λ n. (2 * (n - 1) + 1) * r.jobs) a.levels,
      ap (λ n. (2 * reductions o + 1) * n) a.jobs,
    );
  }
