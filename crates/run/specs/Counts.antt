-- What a tick leaves unfinished; only contracts of private functions cite this.
use Rattle.std.specs.Prelude.{ℕ, Bool, List, nat_lt, slice_index_or}
use Rattle.run.specs.declared.task.Task.{Task}
use Rattle.run.specs.Views.{blank_task}

-- The test that task i of a table has left.
abbrev pub has_left : List Task → ℕ → Bool
has_left tasks i = nat_lt 0 (slice_index_or tasks i blank_task).share.left
