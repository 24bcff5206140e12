-- The levels as they run from the top down, level by level. Assumes nothing.
use Rattle.std.proofs.Common.{◌≡◌, ℕ, suc, ◌<◌, Bool, false, ◌≢◌, List, ◌∷◌, length, get_or, drop, set, replicate, sym, refl, ap, ◌∙◌, subst, arith, get_or-set_other, get_or-set_same}
use Rattle.std.proofs.lemmas.List.{drop_all, length-map, length-set}
use Rattle.arrayvec.specs.ArrayVec.{ArrayVec}
use Rattle.choosing.specs.Choosing.{Rule}
use Rattle.levels.specs.Items.{duals}
use Rattle.levels.specs.Ticking.{always, named, picked, picks, spend_levels, spend_servers}
use Rattle.levels.specs.declared.item.Item.{Item}
use Rattle.levels.specs.declared.server.Server.{Server}
use Rattle.run.specs.Changing.{with_level, with_levels}
use Rattle.run.specs.Turns.{Ran, items_at, names, names_at, servers_at}
use Rattle.run.specs.Views.{flags, level_at, level_servers, levels_of, no_level, tasks_of}
use Rattle.run.specs.declared.state.State.{State}
use Rattle.run.proofs.Levelled.{packed_above, packed_same, view_drop, view_set_drop, views}
use Rattle.run.proofs.Tables.{get_or_blank}

-- The levels from k on have run, and those below are as they were. `marks` are the items of level k that are named.
pub record Falling (rule : Rule) (e s : State) (k : ℕ) (marks : List Bool) : Type 0 where
  pub kept : s ≡ with_levels e s.levels
  pub size : length s.levels.items ≡ length e.levels.items
  pub low : (j : ℕ) → j < k → level_at s j ≡ level_at e j
  pub high : drop k (levels_of s) ≡ spend_levels (always rule) e.unit (drop k (levels_of e))
  pub marked : (i : ℕ) → flags marks i ≡ named (always rule) e.unit (items_at e k) (drop k (levels_of e)) i

module _ (rule : Rule) (e : State) where
  pub falling_none : Falling rule e e (length e.levels.items) (replicate 80 false)
  falling_none =
      let depth = length e.levels.items in
      let none = drop_all depth (levels_of e) (simp length-map (omega arith)) in
      record {
        kept = refl;
        size = refl;
        low = λ j h. refl;
        high = none ∙ ap (spend_levels (always rule) e.unit) (sym none);
        marked = λ i. get_or_blank false 80 i ∙ ap (λ ls. named (always rule) e.unit (items_at e depth) ls i) (sym none);
      }

  module _ (s : State) (k : ℕ) (marks : List Bool) (within : k < length e.levels.items) (so : Falling rule e s (suc k) marks) where
    ss : List Server
    ss = servers_at e k

    items : List Item
    items = items_at e k

    above : List (List Server)
    above = drop (suc k) (levels_of e)

    here : drop k (levels_of e) ≡ ss ∷ above
    unfolding ss above
    here = view_drop e.levels.items k within

    marks_are : flags marks ≡ named (always rule) e.unit (duals e.unit ss) above
    unfolding ss above
    marks_are = (λ t i. so.marked i t) ∙ ap (λ xs. named (always rule) e.unit xs (drop (suc k) (levels_of e))) (packed_above e.unit (tasks_of e) e.levels.items k within)

    servers_same : servers_at s k ≡ ss
    unfolding ss
    servers_same = ap level_servers (so.low k (omega arith))

    items_same : items_at s k ≡ items
    unfolding items
    items_same =
        ap (λ x. items_at (with_levels x s.levels) k) so.kept ∙
        packed_same e.unit (tasks_of e) s.levels.items e.levels.items k (omega (arith, so.size)) so.size (λ j h. so.low j (omega arith))

    module _ (s' : State) (new : List Bool) (names_here : (i : ℕ) → flags new i ≡ names_at rule s k (flags marks) i) (ran : Ran s s' k marks) where
      written : List (ArrayVec Server)
      written = set s.levels.items k (level_at s' k)

      levels_are : s'.levels.items ≡ written
      unfolding written
      levels_are = ap (λ x. x.levels.items) ran.alone

      levels_next : levels_of s' ≡ views written
      unfolding written
      levels_next = ap levels_of ran.alone

      new_here : drop k (levels_of s') ≡ servers_at s' k ∷ drop (suc k) (levels_of s)
      unfolding written
      new_here =
          ap (drop k) levels_next ∙
          view_drop (set s.levels.items k (level_at s' k)) k (simp length-set (omega (arith, so.size))) ∙
          ap (λ l. level_servers l ∷ drop (suc k) (views (set s.levels.items k (level_at s' k)))) (get_or-set_same s.levels.items k (level_at s' k) no_level (omega (arith, so.size))) ∙
          ap (λ r. servers_at s' k ∷ r) (view_set_drop s.levels.items k (level_at s' k))

      spends_here : servers_at s' k ≡ spend_servers (named (always rule) e.unit (duals e.unit ss) above) ss
      spends_here =
          ran.spends ∙
          ap (λ h. spend_servers h (servers_at s k)) marks_are ∙
          ap (spend_servers (named (always rule) e.unit (duals e.unit ss) above)) servers_same

      high_next : drop k (levels_of s') ≡ spend_levels (always rule) e.unit (drop k (levels_of e))
      unfolding above
      high_next =
          new_here ∙
          ap (λ x. x ∷ drop (suc k) (levels_of s)) spends_here ∙
          ap (λ r. spend_servers (named (always rule) e.unit (duals e.unit ss) above) ss ∷ r) so.high ∙
          sym (ap (spend_levels (always rule) e.unit) here)

      marked_next : (i : ℕ) → flags new i ≡ named (always rule) e.unit (items_at e k) (drop k (levels_of e)) i
      unfolding items
      marked_next i =
          names_here i ∙
          ap (λ xs. picked (picks (λ _. rule) xs (servers_at s k) (flags marks)) xs i) items_same ∙
          ap (λ l. picked (picks (λ _. rule) items l (flags marks)) items i) servers_same ∙
          ap (λ h. picked (picks (λ _. rule) items ss h) items i) marks_are ∙
          sym (ap (λ ls. named (always rule) e.unit items ls i) here)

      low_next : (j : ℕ) → j < k → level_at s' j ≡ level_at e j
      unfolding written
      low_next j h =
          let ne : j ≢ k = omega arith in
          ap (λ ls. get_or ls j no_level) levels_are ∙ get_or-set_other s.levels.items k j (level_at s' k) no_level ne ∙ so.low j (omega arith)

      kept_next : s' ≡ with_levels e s'.levels
      unfolding written
      kept_next = ran.alone ∙ ap (λ x. with_levels x (with_level s k (level_at s' k)).levels) so.kept ∙ ap (with_levels e) (sym (ap (λ x. x.levels) ran.alone))

      pub falling_more : Falling rule e s' k new
      unfolding written
      falling_more = record {
        kept = kept_next;
        size = ap length levels_are ∙ length-set s.levels.items k (level_at s' k) ∙ so.size;
        low = low_next;
        high = high_next;
        marked = marked_next;
      }

-- All levels have run.
module _ (rule : Rule) (e s : State) (k : ℕ) (marks : List Bool) (so : Falling rule e s k marks) (all : k ≡ 0) where
  lowest : Falling rule e s 0 marks
  lowest = subst (λ n. Falling rule e s n marks) all so

  pub falling_levels : levels_of s ≡ spend_levels (always rule) e.unit (levels_of e)
  falling_levels = lowest.high

  pub falling_names : flags marks ≡ names rule e
  falling_names = λ t i. lowest.marked i t
