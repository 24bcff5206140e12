-- The way of a task, level by level. Assumes nothing.
use Rattle.std.proofs.Common.{◌≡◌, ℕ, ◌+◌, ◌<◌, List, [], ◌∷◌, ◌++◌, map, length, get_or, drop, set, replicate, Some, None, Option, sym, ap, ◌∙◌}
use Rattle.std.proofs.lemmas.List.{append_assoc, append-nil, at_drop_more, get_or-map, length-map, length_push, map_push}
use Rattle.packing.specs.declared.level.Level.{Level}
use Rattle.packing.specs.Packing.{Packing}
use Rattle.packing.specs.Plan.{onward, climb}
use Rattle.packing.specs.Tables.{over, packing_in}
use Rattle.packing.proofs.Over.{over_push}

-- after k levels: the servers so far stand in the table, and the way goes on from this item
pub record Climbed (levels : List Packing) (task k : ℕ) (path : List (Option ℕ)) (item : ℕ) : Type 0 where
  pub way : List ℕ
  pub count : length way ≡ k
  pub written : path ≡ over (map Some way) (replicate 5 None)
  pub rest : climb levels task ≡ way ++ climb (drop k levels) item

-- past the last level
abbrev pub no_level : Level
no_level = record { homes = []; items = 0; rates = []; servers = 0 }

module _ (table : List Level) (task k : ℕ) (path : List (Option ℕ)) (item : ℕ) (before : Climbed (map packing_in table) task k path item) where
  -- nothing follows
  climbed_end : climb (drop k (map packing_in table)) item ≡ [] → path ≡ over (map Some (climb (map packing_in table) task)) (replicate 5 None)
  climbed_end none =
      before.written ∙ ap (λ way. over (map Some way) (replicate 5 None)) (sym (before.rest ∙ ap (λ ys. before.way ++ ys) none ∙ append-nil before.way))

  module _ (below : k < length table) (o : Option ℕ) (home : o ≡ get_or (packing_in (get_or table k no_level)).homes item None) where
    here : climb (drop k (map packing_in table)) item ≡ onward o (climb (drop (k + 1) (map packing_in table)))
    here =
        at_drop_more (λ ls. climb ls item) (map packing_in table) k (packing_in no_level) (simp length-map below)
        ∙ ap (λ h. onward h (climb (drop (k + 1) (map packing_in table))))
        (ap (λ p. get_or p.homes item None) (get_or-map packing_in table k no_level (packing_in no_level) below) ∙ sym home)

    pub climbed_root : o ≡ None → path ≡ over (map Some (climb (map packing_in table) task)) (replicate 5 None)
    climbed_root none = climbed_end (here ∙ ap (λ h. onward h (climb (drop (k + 1) (map packing_in table)))) none)

    pub climbed_more : (j : ℕ) → o ≡ Some j → k < 5 → Climbed (map packing_in table) task (k + 1) (set path k (Some j)) j
    climbed_more j some room = record {
      way = before.way ++ j ∷ [];
      count = length_push before.way j ∙ ap (λ n. n + 1) before.count;
      written =
          over_push (map Some before.way) (replicate 5 None) path k (Some j) (length-map before.way Some ∙ before.count) room before.written
          ∙ ap (λ xs. over xs (replicate 5 None)) (sym (map_push Some before.way j));
      rest =
          before.rest
          ∙ ap (λ ys. before.way ++ ys) (here ∙ ap (λ h. onward h (climb (drop (k + 1) (map packing_in table)))) some)
          ∙ sym (append_assoc before.way (j ∷ []) (climb (drop (k + 1) (map packing_in table)) j));
    }
