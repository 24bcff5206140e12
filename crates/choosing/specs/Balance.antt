-- Demand and supply of a server and its clients, and what it means that they balance. A reader of the contracts has to believe this file.
use Rattle.std.specs.Prelude.{◌≡◌, ℕ, ◌+◌, ◌-◌, ◌*◌, ◌<◌, ◌≤◌, max, cond, List, [], ◌∷◌, length, nat_le, slice_index_or, slice_set}
use Rattle.std.specs.List.{AllByRecursion}
use Rattle.choosing.specs.declared.share.Share.{Share}

-- The share at place k of a list; past its end stands a share of nothing.
abbrev pub nothing : Share
nothing = record { left = 0; rate = 0; deadline = 0 }

abbrev pub at : List Share → ℕ → Share
at cs k = slice_index_or cs k nothing

-- What one client needs up to frame D: nothing before its deadline; from there on what is left, and its rate for each frame
-- past the deadline.
abbrev pub client_demand : Share → ℕ → ℕ
client_demand c D = cond (nat_le c.deadline D) (c.left + c.rate * (D - c.deadline)) 0

-- What all clients need up to frame D.
abbrev pub demand : List Share → ℕ → ℕ
demand [] D = 0
demand (c ∷ cs) D = client_demand c D + demand cs D

-- What the server brings up to frame D.
abbrev pub supply : Share → ℕ → ℕ
supply s D = s.left + s.rate * (D - s.deadline)

-- The sum of the clients' rates.
abbrev pub rates : List Share → ℕ
rates [] = 0
rates (c ∷ cs) = c.rate + rates cs

-- The latest deadline of the clients.
abbrev pub latest : List Share → ℕ
latest [] = 0
latest (c ∷ cs) = max c.deadline (latest cs)

-- No client has a deadline before frame d; some client has its deadline at frame d.
abbrev pub NoneBefore : ℕ → List Share → Type 0
NoneBefore d cs = AllByRecursion (λ c. d ≤ c.deadline) cs

abbrev pub SomeAt : ℕ → List Share → Type 0
SomeAt d cs = (k : ℕ) × (k < length cs) × ((at cs k).deadline ≡ d)

-- A server brings what its clients need, and no deadline of theirs is before its own: up to no frame they need more than it
-- brings, and at the latest deadline just as much.
pub record Loosely (s : Share) (cs : List Share) : Type 0 where
  pub rated : rates cs ≡ s.rate
  pub none_before : NoneBefore s.deadline cs
  pub covered : (D : ℕ) → s.deadline ≤ D → demand cs D ≤ supply s D
  pub even : demand cs (latest cs) ≡ supply s (latest cs)

-- A server is balanced: the same, and the least deadline of its clients is its own.
pub record Balanced (s : Share) (cs : List Share) : Type 0 where
  pub loosely : Loosely s cs
  pub some_at : SomeAt s.deadline cs

-- One tick is taken from a share, and from the client at place k.
abbrev pub spent : Share → Share
spent c = record { left = c.left - 1; rate = c.rate; deadline = c.deadline }

abbrev pub spent_at : List Share → ℕ → List Share
spent_at cs k = slice_set cs k (spent (at cs k))
