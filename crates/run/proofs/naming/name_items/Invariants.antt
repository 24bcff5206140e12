use Rattle.levels.specs.Ticking.{picks}
use Rattle.run.specs.Levels.{items_of, servers_of}
use Rattle.run.specs.Views.{flags}
use Rattle.run.proofs.Marking.{Marking}
use Rattle.run.proofs.naming.name_items.Given as goal

abbrev pub invariant-loop-j : goal.invariant-loop-j
invariant-loop-j g l = Marking (picks (λ _. g.C.Choosing.chosen l.rule) (items_of l.level) (servers_of l.level) (flags l.dual_named)) (items_of l.level) l.named l.j
