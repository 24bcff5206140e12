-- What each server of a level names. Assumes nothing.
use Rattle.std.proofs.Common.{◌≡◌, ℕ, ◌<◌, ◌≤◌, Bool, true, false, cond, not, ltb, List, length, None, sym, refl, ap}
use Rattle.std.proofs.lemmas.Bool.{and_from, and_left, and_right, le-ltb, lt-ltb}
use Rattle.choosing.specs.Choosing.{Rule}
use Rattle.levels.specs.Items.{clients, server_at}
use Rattle.levels.specs.Ticking.{picks, server_runs}
use Rattle.levels.specs.declared.item.Item.{Item}
use Rattle.levels.specs.declared.server.Server.{Server}

module _ (rule : Rule) (items : List Item) (ss : List Server) (dual_named : ℕ → Bool) (j : ℕ) where
  by_test : (b : Bool) → server_runs ss dual_named j ≡ b → picks (λ _. rule) items ss dual_named j ≡ cond b (rule (server_at ss j).share (clients items j)) None
  by_test b e = ap (λ t. cond t (rule (server_at ss j).share (clients items j)) None) e

  -- None where the dual is named, and none past the servers.
  picks_dual : dual_named j ≡ true → None ≡ picks (λ _. rule) items ss dual_named j
  picks_dual e = sym (by_test false (and_right (ltb j (length ss)) (not (dual_named j)) (ap not e)))

  pub picks_past : length ss ≤ j → None ≡ picks (λ _. rule) items ss dual_named j
  picks_past h = sym (by_test false (and_left (ltb j (length ss)) (not (dual_named j)) (le-ltb j (length ss) h)))

  picks_runs : j < length ss → dual_named j ≡ false → rule (server_at ss j).share (clients items j) ≡ picks (λ _. rule) items ss dual_named j
  picks_runs h e = sym (by_test true (and_from (ltb j (length ss)) (not (dual_named j)) (lt-ltb j (length ss) h) (ap not e)))

  at_test : (b : Bool) → j < length ss → dual_named j ≡ b → cond b None (rule (server_at ss j).share (clients items j)) ≡ picks (λ _. rule) items ss dual_named j
  at_test true h d = picks_dual d
  at_test false h d = picks_runs h d

  -- What server j names.
  pub picks_at : j < length ss → cond (dual_named j) None (rule (server_at ss j).share (clients items j)) ≡ picks (λ _. rule) items ss dual_named j
  picks_at h = at_test (dual_named j) h refl
