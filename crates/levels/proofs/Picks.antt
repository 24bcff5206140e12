-- Which servers run, and what they pick. Assumes nothing.
use Rattle.std.proofs.Common.{◌≡◌, ℕ, ◌<◌, Bool, true, false, cond, not, ◌&&◌, ltb, List, [], ◌∷◌, length, Some, None, sym, refl, ap, ◌∙◌, ap₂}
use Rattle.std.proofs.lemmas.Bool.{cond-true, cond-false, lt-ltb, ltb-true, and_parts, not-true}
use Rattle.choosing.specs.Choosing.{Rule}
use Rattle.levels.specs.declared.item.Item.{Item}
use Rattle.levels.specs.declared.server.Server.{Server}
use Rattle.levels.specs.Items.{item_at, server_at, clients, duals}
use Rattle.levels.specs.Ticking.{Rules, next_level, server_runs, picks, named, duals_named}
use Rattle.levels.specs.Theorems.{EveryRootRuns}
use Rattle.levels.proofs.Never.{never_true, never_some}
use Rattle.levels.proofs.Clients.{is_pick, dual_home}

module _ (ss : List Server) (dual_named : ℕ → Bool) (j : ℕ) where
  pub server_runs_from : j < length ss → dual_named j ≡ false → server_runs ss dual_named j ≡ true
  server_runs_from l e = ap₂ (λ a b. a && not b) (lt-ltb j (length ss) l) e

  pub server_rests : dual_named j ≡ true → server_runs ss dual_named j ≡ false
  server_rests e = ap (λ b. ltb j (length ss) && not b) e ∙ never (ltb j (length ss))
    where
      never : (b : Bool) → (b && false) ≡ false
      never true = refl
      never false = refl

  pub server_runs_parts : server_runs ss dual_named j ≡ true → (j < length ss) × (dual_named j ≡ false)
  server_runs_parts e =
      let (l, d) = and_parts (ltb j (length ss)) (not (dual_named j)) e in
      (ltb-true j (length ss) l, not-true (dual_named j) d)

module _ (rule : ℕ → Rule) (items : List Item) (ss : List Server) (dual_named : ℕ → Bool) (j : ℕ) where
  pub picks_run : j < length ss → dual_named j ≡ false → picks rule items ss dual_named j ≡ rule j (server_at ss j).share (clients items j)
  picks_run l e = cond-true _ _ _ (server_runs_from ss dual_named j l e)

  pub picks_rest : dual_named j ≡ true → picks rule items ss dual_named j ≡ None
  picks_rest e = cond-false _ _ _ (server_rests ss dual_named j e)

  -- A server that picks runs.
  pub picks_parts : (k : ℕ) → picks rule items ss dual_named j ≡ Some k
      → (j < length ss) × (dual_named j ≡ false) × (rule j (server_at ss j).share (clients items j) ≡ Some k)
  picks_parts k e = go (server_runs ss dual_named j) refl e
    where
      go : (b : Bool) → server_runs ss dual_named j ≡ b → cond b (rule j (server_at ss j).share (clients items j)) None ≡ Some k
          → (j < length ss) × (dual_named j ≡ false) × (rule j (server_at ss j).share (clients items j) ≡ Some k)
      go true r e = let (l, d) = server_runs_parts ss dual_named j r in (l, d, e)
      go false r e = never_some k e

-- What is named has a home.
pub named_home : (rules : Rules) (unit : ℕ) (items : List Item) (levels : List (List Server)) (i : ℕ) → named rules unit items levels i ≡ true
    → (h : ℕ) × ((item_at items i).home ≡ Some h)
named_home rules unit items [] i e = never_true e
named_home rules unit items (ss ∷ above) i e =
    let p = is_pick (picks (rules 0) items ss (duals_named rules unit ss above)) items i e in
    (p.server, p.home_is)

pub every_root_runs : EveryRootRuns
every_root_runs rules unit ss above j l root = server_runs_from ss (duals_named rules unit ss above) j l (go (duals_named rules unit ss above j) refl)
  where
    go : (b : Bool) → duals_named rules unit ss above j ≡ b → b ≡ false
    go true e = let (h, home) = named_home (next_level rules) unit (duals unit ss) above j e in never_some h (sym root ∙ sym (dual_home unit ss j) ∙ home)
    go false e = refl
