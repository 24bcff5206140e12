-- What a level has: items, the servers that they are placed in, and the servers' duals. A reader of the contracts has to believe this file.
use Rattle.std.specs.Prelude.{◌≡◌, ℕ, zero, suc, ◌+◌, ◌-◌, ◌<◌, cond, List, [], ◌∷◌, map, Some, None, Option, slice_index_or}
use Rattle.packing.specs.Packing.{at_home}
use Rattle.choosing.specs.declared.share.Share.{Share}
use Rattle.choosing.specs.Balance.{nothing}
use Rattle.levels.specs.declared.item.Item.{Item}
use Rattle.levels.specs.declared.server.Server.{Server}

-- The item and the server at a place of a list; past its end stands one of nothing, without a home.
abbrev pub no_item : Item
no_item = record { share = nothing; home = None }

abbrev pub no_server : Server
no_server = record { share = nothing; dual = 0; home = None }

abbrev pub item_at : List Item → ℕ → Item
item_at items i = slice_index_or items i no_item

abbrev pub server_at : List Server → ℕ → Server
server_at ss j = slice_index_or ss j no_server

-- The clients of server j: the shares of the items whose home it is, in placing order.
abbrev pub clients : List Item → ℕ → List Share
clients [] j = []
clients (x ∷ xs) j = cond (at_home x.home j) (x.share ∷ clients xs j) (clients xs j)

-- The dual of a server is an item of the next level. Its rate is the rest of the unit; that of a root is 0, and has no home.
abbrev pub dual_of : ℕ → Server → Item
dual_of unit s = record { share = record { left = s.dual; rate = unit - s.share.rate; deadline = s.share.deadline }; home = s.home }

-- The dual of server j stands at place j.
abbrev pub duals : ℕ → List Server → List Item
duals unit ss = map (dual_of unit) ss

-- The servers of level k.
abbrev pub level_at : List (List Server) → ℕ → List Server
level_at levels k = slice_index_or levels k []

-- The items of level k: those of level 0 are the tasks, those of any other level the duals of the servers below.
abbrev pub packed : ℕ → List Item → List (List Server) → ℕ → List Item
packed unit tasks levels zero = tasks
packed unit tasks levels (suc k) = duals unit (level_at levels k)

-- Every home of an item is one of n servers.
abbrev pub Homed : ℕ → List Item → Type 0
Homed n items = (i h : ℕ) → (item_at items i).home ≡ Some h → h < n

-- The sum of the rates of the items that have a home.
abbrev pub if_homed : Option ℕ → ℕ → ℕ
if_homed None n = 0
if_homed (Some h) n = n

abbrev pub item_rates : List Item → ℕ
item_rates [] = 0
item_rates (x ∷ xs) = if_homed x.home x.share.rate + item_rates xs
