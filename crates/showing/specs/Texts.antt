-- How a level of a plan is printed. A reader of the contracts has to believe this file.
use Rattle.std.specs.Prelude.{ℕ, ◌+◌, ◌==◌, Bool, true, false, cond, List, [], ◌∷◌, ◌++◌, Option, codes, decimal}
use Rattle.packing.specs.Packing.{at_home}

-- An item of level 0 is a task, called by its name; any other is the dual of a server of the level below.
abbrev pub item_text : (ℕ → List ℕ) → ℕ → ℕ → List ℕ
item_text name depth item = cond (depth == 0) (name item) (codes "dual of server " ++ decimal item)

-- A client behind a colon, or where it is not the first, behind a comma.
abbrev pub client_text : (ℕ → List ℕ) → Bool → ℕ → List ℕ
client_text text first item = cond first (codes ": ") (codes ", ") ++ text item

-- The clients of server j among items from i on.
abbrev pub clients_from : (ℕ → List ℕ) → ℕ → Bool → ℕ → List (Option ℕ) → List ℕ
clients_from text j first i [] = []
clients_from text j first i (h ∷ hs) =
    cond (at_home h j) (client_text text first i ++ clients_from text j false (i + 1) hs) (clients_from text j first (i + 1) hs)

abbrev pub clients_text : (ℕ → List ℕ) → ℕ → List (Option ℕ) → List ℕ
clients_text text j homes = clients_from text j true 0 homes

-- A line for a server: its number, its rate, whether it is a root, its clients.
abbrev pub server_text : (ℕ → List ℕ) → ℕ → List (Option ℕ) → ℕ → ℕ → List ℕ
server_text text unit homes j rate =
    codes "  server " ++ (decimal j ++ (codes ", rate " ++ (decimal rate ++ (cond (rate == unit) (codes ", a root") [] ++ (clients_text text j homes ++ codes "\n")))))

-- The lines of the servers from j on, which have these rates.
abbrev pub servers_text : (ℕ → List ℕ) → ℕ → List (Option ℕ) → ℕ → List ℕ → List ℕ
servers_text text unit homes j [] = []
servers_text text unit homes j (rate ∷ rates) = server_text text unit homes j rate ++ servers_text text unit homes (j + 1) rates

abbrev pub level_text : (ℕ → List ℕ) → ℕ → ℕ → List (Option ℕ) → List ℕ → List ℕ
level_text name depth unit homes rates = codes "level " ++ (decimal depth ++ (codes "\n" ++ servers_text (item_text name depth) unit homes 0 rates))
