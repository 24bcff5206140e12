-- A scan for the clients of a server, one item on. Assumes nothing.
use Rattle.std.proofs.Common.{◌≡◌, ℕ, zero, suc, ◌+◌, ◌<◌, Bool, true, false, cond, List, [], ◌∷◌, ◌++◌, length, take, sym, refl, ap, ◌∙◌, zero-add, add-one, arith}
use Rattle.std.proofs.lemmas.List.{append-nil}
use Rattle.packing.specs.Packing.{at_home}
use Rattle.levels.specs.Items.{clients, item_at}
use Rattle.levels.specs.declared.item.Item.{Item}
use Rattle.run.specs.Turns.{places_from}

pub lift : {X : Type 0} (b : Bool) (x : X) (ps qs rs : List X) → ps ≡ qs ++ rs → cond b (x ∷ ps) ps ≡ cond b (x ∷ qs) qs ++ rs
lift true x ps qs rs e = ap (λ l. x ∷ l) e
lift false x ps qs rs e = e

clients_suc : (xs : List Item) (i j : ℕ) → i < length xs →
    clients (take (suc i) xs) j ≡ clients (take i xs) j ++ cond (at_home (item_at xs i).home j) ((item_at xs i).share ∷ []) []
clients_suc [] i j h = absurd (omega arith)
clients_suc (x ∷ xs) zero j h = refl
clients_suc (x ∷ xs) (suc i) j h = lift (at_home x.home j) x.share _ _ _ (clients_suc xs i j (omega arith))

places_suc : (b : ℕ) (xs : List Item) (i j : ℕ) → i < length xs →
    places_from b (take (suc i) xs) j ≡ places_from b (take i xs) j ++ cond (at_home (item_at xs i).home j) ((b + i) ∷ []) []
places_suc b [] i j h = absurd (omega arith)
places_suc b (x ∷ xs) zero j h = let e : b ≡ b + 0 = omega arith in ap (λ n. cond (at_home x.home j) (n ∷ []) []) e
places_suc b (x ∷ xs) (suc i) j h =
    let e : suc b + i ≡ b + suc i = omega arith in
    lift (at_home x.home j) b _ _ _ (places_suc (suc b) xs i j (omega arith) ∙ ap (λ n. places_from (suc b) (take i xs) j ++ cond (at_home (item_at xs i).home j) (n ∷ []) []) e)

-- The last of a list, by a test.
pub last_yes : {X : Type 0} (all front : List X) (x : X) (b : Bool) → all ≡ front ++ cond b (x ∷ []) [] → b ≡ true → all ≡ front ++ (x ∷ [])
last_yes all front x b more e = more ∙ ap (λ t. front ++ cond t (x ∷ []) []) e

pub last_no : {X : Type 0} (all front : List X) (x : X) (b : Bool) → all ≡ front ++ cond b (x ∷ []) [] → b ≡ false → all ≡ front
last_no all front x b more e = more ∙ ap (λ t. front ++ cond t (x ∷ []) []) e ∙ append-nil front

module _ (xs : List Item) (i j : ℕ) (x : Item) (within : i < length xs) (is : x ≡ item_at xs i) where
  more_clients : clients (take (i + 1) xs) j ≡ clients (take i xs) j ++ cond (at_home x.home j) (x.share ∷ []) []
  more_clients = rw add-one (clients_suc xs i j within ∙ ap (λ y. clients (take i xs) j ++ cond (at_home y.home j) (y.share ∷ []) []) (sym is))

  more_places : places_from 0 (take (i + 1) xs) j ≡ places_from 0 (take i xs) j ++ cond (at_home x.home j) (i ∷ []) []
  more_places =
      rw add-one (
      places_suc 0 xs i j within ∙
      ap (λ n. places_from 0 (take i xs) j ++ cond (at_home (item_at xs i).home j) (n ∷ []) []) (zero-add i) ∙
      ap (λ y. places_from 0 (take i xs) j ++ cond (at_home y.home j) (i ∷ []) []) (sym is))

  pub clients_yes : at_home x.home j ≡ true → clients (take (i + 1) xs) j ≡ clients (take i xs) j ++ (x.share ∷ [])
  clients_yes = last_yes _ _ _ _ more_clients

  pub clients_no : at_home x.home j ≡ false → clients (take (i + 1) xs) j ≡ clients (take i xs) j
  clients_no = last_no _ _ _ _ more_clients

  pub places_yes : at_home x.home j ≡ true → places_from 0 (take (i + 1) xs) j ≡ places_from 0 (take i xs) j ++ (i ∷ [])
  places_yes = last_yes _ _ _ _ more_places

  pub places_no : at_home x.home j ≡ false → places_from 0 (take (i + 1) xs) j ≡ places_from 0 (take i xs) j
  places_no = last_no _ _ _ _ more_places
