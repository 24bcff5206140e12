-- The levels of a table as lists: one level read, one level written, and the items of a level. Assumes nothing.
use Rattle.std.proofs.Common.{◌≡◌, ℕ, zero, suc, ◌-◌, ◌<◌, List, [], ◌∷◌, ◌++◌, map, length, get_or, take, drop, set, sym, refl, ap, ◌∙◌, arith, get_or-take}
use Rattle.std.proofs.lemmas.List.{get_or-map, length-map, length-take-le}
use Rattle.arrayvec.specs.ArrayVec.{ArrayVec}
use Rattle.levels.specs.Items.{duals, item_at, no_item, packed}
use Rattle.levels.specs.declared.item.Item.{Item}
use Rattle.levels.specs.declared.server.Server.{Server}
use Rattle.run.specs.Turns.{items_at, servers_at}
use Rattle.run.specs.Views.{item_of, level_servers, no_level, blank_task, task_at}
use Rattle.run.specs.declared.state.State.{State}

abbrev Levels : Type 0
Levels = List (ArrayVec Server)

abbrev pub views : Levels → List (List Server)
views ls = map level_servers ls

pub view_drop : (ls : Levels) (k : ℕ) → k < length ls → drop k (views ls) ≡ level_servers (get_or ls k no_level) ∷ drop (suc k) (views ls)
view_drop [] k l = absurd (omega arith)
view_drop (x ∷ ls) zero l = refl
view_drop (x ∷ ls) (suc k) l = view_drop ls k (omega arith)

pub view_set_drop : (ls : Levels) (k : ℕ) (l : ArrayVec Server) → drop (suc k) (views (set ls k l)) ≡ drop (suc k) (views ls)
view_set_drop [] k l = refl
view_set_drop (x ∷ ls) zero l = refl
view_set_drop (x ∷ ls) (suc k) l = view_set_drop ls k l

pub view_set_take : (ls : Levels) (k : ℕ) (l : ArrayVec Server) → k < length ls → take (suc k) (views (set ls k l)) ≡ take k (views ls) ++ (level_servers l ∷ [])
view_set_take [] k l m = absurd (omega arith)
view_set_take (x ∷ ls) zero l m = refl
view_set_take (x ∷ ls) (suc k) l m = ap (λ r. level_servers x ∷ r) (view_set_take ls k l (omega arith))

-- What a level above the lowest packs.
pub packed_above : (unit : ℕ) (tasks : List Item) (ls : Levels) (k : ℕ) → k < length ls → packed unit tasks (views ls) (suc k) ≡ duals unit (level_servers (get_or ls k no_level))
packed_above unit tasks ls k l = ap (duals unit) (get_or-map level_servers ls k no_level [] l)

packed_less : (unit : ℕ) (tasks : List Item) (ls : Levels) (k : ℕ) → 0 < k → k - 1 < length ls → packed unit tasks (views ls) k ≡ duals unit (level_servers (get_or ls (k - 1) no_level))
packed_less unit tasks ls zero p l = absurd (omega arith)
packed_less unit tasks ls (suc k) p l =
    let e : suc k - 1 ≡ k = omega arith in
    packed_above unit tasks ls k (omega arith) ∙ ap (λ m. duals unit (level_servers (get_or ls m no_level))) (sym e)

-- Tables that agree below a level pack the same into it.
pub packed_same : (unit : ℕ) (tasks : List Item) (ls ls' : Levels) (k : ℕ) → k < length ls → length ls ≡ length ls' →
    ((j : ℕ) → j < k → get_or ls j no_level ≡ get_or ls' j no_level) → packed unit tasks (views ls) k ≡ packed unit tasks (views ls') k
packed_same unit tasks ls ls' zero h l e = refl
packed_same unit tasks ls ls' (suc k) h l e =
    packed_above unit tasks ls k (omega arith) ∙ ap (λ x. duals unit (level_servers x)) (e k (omega arith)) ∙ sym (packed_above unit tasks ls' k (omega arith))

-- ---- the items of a level of the tables

module _ (s : State) (table : length s.tasks ≡ 80) (k : ℕ) where
  pub count_tasks : length (items_at s 0) ≡ s.count
  count_tasks = length-map (take s.count s.tasks) item_of ∙ length-take-le s.count s.tasks (omega (arith, s.few_tasks, table))

  pub count_low : k ≡ 0 → length (items_at s k) ≡ s.count
  count_low e = ap (λ n. length (items_at s n)) e ∙ count_tasks

  pub item_low : (i : ℕ) → k ≡ 0 → i < s.count → item_of (task_at s i) ≡ item_at (items_at s k) i
  item_low i e h =
      sym (
      ap (λ n. item_at (items_at s n) i) e ∙
      get_or-map item_of (take s.count s.tasks) i blank_task no_item (omega (arith, length-take-le s.count s.tasks (omega (arith, s.few_tasks, table)))) ∙
      ap item_of (get_or-take s.count s.tasks i blank_task h)
      )

module _ (s : State) (k : ℕ) where
  pub items_high : 0 < k → k < length s.levels.items → items_at s k ≡ duals s.unit (servers_at s (k - 1))
  items_high p h = packed_less s.unit (items_at s 0) s.levels.items k p (omega arith)

  pub count_high : 0 < k → k < length s.levels.items → length (items_at s k) ≡ length (servers_at s (k - 1))
  count_high p h = ap length (items_high p h) ∙ length-map (servers_at s (k - 1)) _
