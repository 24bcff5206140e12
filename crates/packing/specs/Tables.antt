-- How packings and plans lie in the fixed tables. A reader of the contracts has to believe this file.
use Rattle.std.specs.Prelude.{ℕ, List, ◌++◌, map, length, take, drop, replicate, None}
use Rattle.packing.specs.declared.level.Level.{Level}
use Rattle.packing.specs.declared.plan.Plan.{Plan}
use Rattle.packing.specs.Packing.{Packing}

-- A table that held `old`, with the list `front` written over its front.
abbrev pub over : {X : Type 0} → List X → List X → List X
over front old = front ++ drop (length front) old

abbrev pub blank_level : Level
blank_level = record { homes = replicate 80 None; items = 0; rates = replicate 31 0; servers = 0 }

-- A packing in its table: behind the homes stands none, behind the rates 0.
abbrev pub level_table : Packing → Level
level_table p = record {
  homes = over p.homes (replicate 80 None);
  items = length p.homes;
  rates = over p.rates (replicate 31 0);
  servers = length p.rates;
}

-- The levels over tasks of these rates in the tables of a plan: behind the tasks stands 0, behind the levels blank ones.
abbrev pub plan_table : ℕ → List ℕ → List Packing → Plan
plan_table unit tasks levels = record {
  unit = unit;
  rates = over tasks (replicate 80 0);
  tasks = length tasks;
  levels = over (map level_table levels) (replicate 5 blank_level);
  depth = length levels;
}

-- The packing and the levels that any tables stand for.
abbrev pub packing_in : Level → Packing
packing_in l = record { homes = take l.items l.homes; rates = take l.servers l.rates }

abbrev pub levels_in : Plan → List Packing
levels_in p = map packing_in (take p.depth p.levels)
