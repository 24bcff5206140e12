-- A level of the tables, as it is lent out; only contracts of private functions cite this.
use Rattle.std.specs.Prelude.{ℕ, List, map}
use Rattle.levels.specs.declared.item.Item.{Item}
use Rattle.levels.specs.declared.server.Server.{Server}
use Rattle.run.specs.declared.level.Level.{Level}
use Rattle.run.specs.Turns.{items_at, servers_at}

-- Its servers, and the items that it packs.
abbrev pub servers_of : Level → List Server
servers_of l = servers_at l.state.now l.number

abbrev pub items_of : Level → List Item
items_of l = items_at l.state.now l.number

-- What a level packs as items, where a whole core has so many parts.
abbrev pub items_in : {T : Type 0} → (T → ℕ → Item) → ℕ → List T → List Item
items_in item unit packed = map (λ x. item x unit) packed
