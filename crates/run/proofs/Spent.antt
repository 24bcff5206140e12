-- What a tick takes, place by place. Assumes nothing.
use Rattle.std.proofs.Common.{◌≡◌, ℕ, zero, suc, ◌<◌, Bool, List, [], ◌∷◌, length, refl, ap, arith}
use Rattle.levels.specs.Items.{server_at}
use Rattle.levels.specs.Ticking.{spend_server, spend_servers}
use Rattle.levels.specs.declared.server.Server.{Server}

pub server_spent : (dual_named : ℕ → Bool) (ss : List Server) (j : ℕ) → j < length ss → server_at (spend_servers dual_named ss) j ≡ spend_server (dual_named j) (server_at ss j)
server_spent dual_named [] j h = absurd (omega arith)
server_spent dual_named (s ∷ ss) zero h = refl
server_spent dual_named (s ∷ ss) (suc j) h = server_spent (λ k. dual_named (suc k)) ss j (omega arith)

pub length_servers_spent : (dual_named : ℕ → Bool) (ss : List Server) → length (spend_servers dual_named ss) ≡ length ss
length_servers_spent dual_named [] = refl
length_servers_spent dual_named (s ∷ ss) = ap suc (length_servers_spent (λ j. dual_named (suc j)) ss)
