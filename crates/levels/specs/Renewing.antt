-- What a frame start does to the servers. A reader of the contracts has to believe this file.
use Rattle.std.specs.Prelude.{ℕ, suc, ◌-◌, ◌*◌, min, cond, List, [], ◌∷◌, ◌==◌}
use Rattle.choosing.specs.declared.share.Share.{Share}
use Rattle.levels.specs.declared.item.Item.{Item}
use Rattle.levels.specs.declared.server.Server.{Server}
use Rattle.levels.specs.Items.{clients, duals}

-- The least deadline of the clients, or the end of the run where that comes before: in a run no deadline is past its end.
abbrev pub least_deadline : ℕ → List Share → ℕ
least_deadline frames [] = frames
least_deadline frames (c ∷ cs) = min c.deadline (least_deadline frames cs)

-- A job at this rate from frame f to frame d.
abbrev pub job : ℕ → ℕ → ℕ → Share
job rate f d = record { left = rate * (d - f); rate = rate; deadline = d }

-- A server with its next job and that of its dual, from frame f to frame d.
abbrev pub server_with_job : ℕ → ℕ → ℕ → Server → Server
server_with_job unit f d s = record { share = job s.share.rate f d; dual = (unit - s.share.rate) * (d - f); home = s.home }

-- At the start of frame f a server whose deadline it is takes the least deadline of its clients. Any other stays as it is.
abbrev pub renew_server : ℕ → ℕ → ℕ → List Share → Server → Server
renew_server unit frames f cs s = cond (s.share.deadline == f) (server_with_job unit f (least_deadline frames cs) s) s

-- The servers from place j on.
abbrev pub renew_servers : ℕ → ℕ → ℕ → List Item → ℕ → List Server → List Server
renew_servers unit frames f items j [] = []
renew_servers unit frames f items j (s ∷ ss) =
    renew_server unit frames f (clients items j) s ∷ renew_servers unit frames f items (suc j) ss

-- All levels, the lowest first: the next has the new duals for its items.
abbrev pub renew_levels : ℕ → ℕ → ℕ → List Item → List (List Server) → List (List Server)
renew_levels unit frames f items [] = []
renew_levels unit frames f items (ss ∷ above) =
    let new : List Server = renew_servers unit frames f items 0 ss in
    new ∷ renew_levels unit frames f (duals unit new) above
