-- The levels as they are renewed from the lowest up, level by level. Assumes nothing.
use Rattle.std.proofs.Common.{◌≡◌, ℕ, suc, ◌+◌, ◌<◌, ◌≤◌, List, [], ◌∷◌, ◌++◌, length, take, drop, set, sym, refl, ap, ◌∙◌, add-one, get_or-set_same}
use Rattle.std.proofs.lemmas.List.{append_assoc, append-nil, drop_all, length-map, length-set, take_all}
use Rattle.levels.specs.Items.{duals, packed}
use Rattle.levels.specs.Renewing.{renew_levels, renew_servers}
use Rattle.levels.specs.declared.item.Item.{Item}
use Rattle.levels.specs.declared.server.Server.{Server}
use Rattle.run.specs.Changing.{with_level, with_levels}
use Rattle.run.specs.Turns.{Renewed, servers_at}
use Rattle.run.specs.Views.{level_at, level_servers, levels_of, no_level, tasks_of}
use Rattle.run.specs.declared.state.State.{State}
use Rattle.run.proofs.Levelled.{packed_above, view_drop, view_set_drop, view_set_take, views}

-- The first k levels are renewed, and what is left to renew ends as the whole does.
pub record Rising (e s : State) (f k : ℕ) : Type 0 where
  pub kept : s ≡ with_levels e s.levels
  pub size : length s.levels.items ≡ length e.levels.items
  pub goes : take k (levels_of s) ++ renew_levels e.unit e.frames f (packed e.unit (tasks_of e) (levels_of s) k) (drop k (levels_of s)) ≡ renew_levels e.unit e.frames f (tasks_of e) (levels_of e)

module _ (e : State) (f : ℕ) where
  pub rising_none : Rising e e f 0
  rising_none = record { kept = refl; size = refl; goes = refl }

  pub rising_all : (s : State) (k : ℕ) → length s.levels.items ≤ k → Rising e s f k → levels_of s ≡ renew_levels e.unit e.frames f (tasks_of e) (levels_of e)
  rising_all s k all so =
      let end : length (levels_of s) ≤ k = simp length-map all in
      sym (
      ap (λ r. take k (levels_of s) ++ renew_levels e.unit e.frames f (packed e.unit (tasks_of e) (levels_of s) k) r) (drop_all k (levels_of s) end) ∙
      append-nil (take k (levels_of s)) ∙
      take_all k (levels_of s) end
      ) ∙
      so.goes

  module _ (s s' : State) (k : ℕ) (within : k < length s.levels.items) (so : Rising e s f k) (turn : Renewed s s' k f) where
    new : List Server
    new = servers_at s' k

    ss : List Server
    ss = servers_at s k

    items : List Item
    items = packed e.unit (tasks_of e) (levels_of s) k

    -- What is left to renew, from a level that packs these items.
    rest : List Item → List (List Server) → List (List Server)
    rest xs ls = renew_levels e.unit e.frames f xs ls

    levels_next : levels_of s' ≡ views (set s.levels.items k (level_at s' k))
    levels_next = ap levels_of turn.alone

    new_is : new ≡ renew_servers e.unit e.frames f items 0 ss
    unfolding new ss items
    new_is = turn.renews ∙ ap (λ x. renew_servers x.unit x.frames f (packed x.unit (tasks_of x) (levels_of s) k) 0 (servers_at s k)) so.kept

    taken : take (suc k) (levels_of s') ≡ take k (levels_of s) ++ (new ∷ [])
    unfolding new
    taken = ap (take (suc k)) levels_next ∙ view_set_take s.levels.items k (level_at s' k) within

    dropped : drop (suc k) (levels_of s') ≡ drop (suc k) (levels_of s)
    dropped = ap (drop (suc k)) levels_next ∙ view_set_drop s.levels.items k (level_at s' k)

    packs : packed e.unit (tasks_of e) (levels_of s') (suc k) ≡ duals e.unit new
    unfolding new
    packs =
        ap (λ ls. packed e.unit (tasks_of e) ls (suc k)) levels_next ∙
        packed_above e.unit (tasks_of e) (set s.levels.items k (level_at s' k)) k (simp length-set within) ∙
        ap (λ l. duals e.unit (level_servers l)) (get_or-set_same s.levels.items k (level_at s' k) no_level within)

    one_on : new ∷ rest (duals e.unit new) (drop (suc k) (levels_of s)) ≡ rest items (drop k (levels_of s))
    unfolding rest ss
    one_on =
        ap (λ n. n ∷ renew_levels e.unit e.frames f (duals e.unit n) (drop (suc k) (levels_of s))) new_is ∙
        sym (ap (renew_levels e.unit e.frames f items) (view_drop s.levels.items k within))

    goes_next : take (suc k) (levels_of s') ++ rest (packed e.unit (tasks_of e) (levels_of s') (suc k)) (drop (suc k) (levels_of s')) ≡ renew_levels e.unit e.frames f (tasks_of e) (levels_of e)
    unfolding rest items
    goes_next =
        ap (λ l. l ++ rest (packed e.unit (tasks_of e) (levels_of s') (suc k)) (drop (suc k) (levels_of s'))) taken ∙
        ap (λ xs. (take k (levels_of s) ++ (new ∷ [])) ++ rest xs (drop (suc k) (levels_of s'))) packs ∙
        ap (λ ls. (take k (levels_of s) ++ (new ∷ [])) ++ rest (duals e.unit new) ls) dropped ∙
        append_assoc (take k (levels_of s)) (new ∷ []) (rest (duals e.unit new) (drop (suc k) (levels_of s))) ∙
        ap (λ r. take k (levels_of s) ++ r) one_on ∙
        so.goes

    pub rising_more : Rising e s' f (k + 1)
    unfolding rest
    rising_more = rw add-one (record {
      kept = turn.alone ∙ ap (λ x. with_levels x (with_level s k (level_at s' k)).levels) so.kept ∙ ap (with_levels e) (sym (ap (λ x. x.levels) turn.alone));
      size = ap (λ x. length x.levels.items) turn.alone ∙ length-set s.levels.items k (level_at s' k) ∙ so.size;
      goes = goes_next;
    })
