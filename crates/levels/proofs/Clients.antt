-- The clients of each server: who they are, and what a tick takes from them. Assumes nothing.
use Rattle.std.proofs.Common.{◌≡◌, ℕ, zero, suc, ◌<◌, Bool, true, false, cond, eqb, List, [], ◌∷◌, length, Some, None, Option, refl, ap, ◌∙◌, arith}
use lib.ListN.{length-map}
use Rattle.std.proofs.lemmas.List.{get_or-map}
use Rattle.std.proofs.lemmas.Bool.{eq-eqb, eqb-true}
use Rattle.packing.specs.Packing.{at_home}
use Rattle.choosing.specs.declared.share.Share.{Share}
use Rattle.choosing.specs.Balance.{at, spent, spent_at}
use Rattle.levels.specs.declared.item.Item.{Item}
use Rattle.levels.specs.declared.server.Server.{Server}
use Rattle.levels.specs.Items.{no_item, no_server, item_at, server_at, clients, dual_of, duals}
use Rattle.levels.specs.Ticking.{is_first, takes, nearer, past, picked, named, spend_if, spend_item, spend_items, spend_server, spend_servers}
use Rattle.levels.proofs.Never.{never_true, never_some}
use Rattle.levels.proofs.Members.{Among, here, there}

-- ---- an item is among the clients of its home

here_at_home : (s : Share) (cs : List Share) (h : Option ℕ) (j : ℕ) → h ≡ Some j → Among s (cond (at_home h j) (s ∷ cs) cs)
here_at_home s cs h j e = rw (e, eq-eqb j j refl) here

passed : (b : Bool) (c s : Share) (cs : List Share) → Among c cs → Among c (cond b (s ∷ cs) cs)
passed true c s cs m = there m
passed false c s cs m = m

pub among_clients : (xs : List Item) (i j : ℕ) → (item_at xs i).home ≡ Some j → Among (item_at xs i).share (clients xs j)
among_clients [] i j e = never_some j e
among_clients (x ∷ xs) zero j e = here_at_home x.share (clients xs j) x.home j e
among_clients (x ∷ xs) (suc i) j e = passed (at_home x.home j) _ x.share (clients xs j) (among_clients xs i j e)

-- ---- a tick takes from the clients of each server just what the server picked

abbrev pub spent_by : Option ℕ → List Share → List Share
spent_by None cs = cs
spent_by (Some k) cs = spent_at cs k

same_home : (o : Option ℕ) (s : Share) (cs cs' : List Share) → cs' ≡ spent_by (nearer o) cs → spend_if (is_first o) s ∷ cs' ≡ spent_by o (s ∷ cs)
same_home None s cs cs' e = ap (λ r. s ∷ r) e
same_home (Some zero) s cs cs' e = ap (λ r. spent s ∷ r) e
same_home (Some (suc k)) s cs cs' e = ap (λ r. s ∷ r) e

one_home : (pick : ℕ → Option ℕ) (h j : ℕ) (b : Bool) → eqb h j ≡ b → (s : Share) (cs cs' : List Share)
    → cs' ≡ spent_by (cond b (nearer (pick j)) (pick j)) cs
    → cond b (spend_if (is_first (pick h)) s ∷ cs') cs' ≡ spent_by (pick j) (cond b (s ∷ cs) cs)
one_home pick h j true t s cs cs' e = rw (eqb-true h j t) (same_home (pick j) s cs cs' e)
one_home pick h j false t s cs cs' e = e

any_home : (pick : ℕ → Option ℕ) (h : Option ℕ) (j : ℕ) (s : Share) (cs cs' : List Share) → cs' ≡ spent_by (past pick h j) cs
    → cond (at_home h j) (spend_if (takes pick h) s ∷ cs') cs' ≡ spent_by (pick j) (cond (at_home h j) (s ∷ cs) cs)
any_home pick None j s cs cs' e = e
any_home pick (Some h) j s cs cs' e = one_home pick h j (eqb h j) refl s cs cs' e

none_left : (o : Option ℕ) → [] ≡ spent_by o []
none_left None = refl
none_left (Some k) = refl

pub spend_clients : (pick : ℕ → Option ℕ) (xs : List Item) (j : ℕ) → clients (spend_items (picked pick xs) xs) j ≡ spent_by (pick j) (clients xs j)
spend_clients pick [] j = none_left (pick j)
spend_clients pick (x ∷ xs) j = any_home pick x.home j x.share (clients xs j) _ (spend_clients (past pick x.home) xs j)

-- ---- an item that is picked is the client that its home picked

pub record IsPick (pick : ℕ → Option ℕ) (x : Item) (of : ℕ → List Share) : Type 0 where
  pub server : ℕ
  pub place : ℕ
  pub home_is : x.home ≡ Some server
  pub pick_is : pick server ≡ Some place
  pub client_is : at (of server) place ≡ x.share

first_is : (o : Option ℕ) → is_first o ≡ true → o ≡ Some 0
first_is None e = never_true e
first_is (Some zero) e = refl
first_is (Some (suc k)) e = never_true e

pick_here : (pick : ℕ → Option ℕ) (s : Share) (h : Option ℕ) (of : ℕ → List Share) → takes pick h ≡ true → IsPick pick (record { share = s; home = h }) (λ j. cond (at_home h j) (s ∷ of j) (of j))
pick_here pick s None of e = never_true e
pick_here pick s (Some h) of e = record { server = h; place = 0; home_is = refl; pick_is = first_is (pick h) e; client_is = rw (eq-eqb h h refl) refl }

pick_later : (b : Bool) (o : Option ℕ) (k : ℕ) (s c : Share) (cs : List Share) → cond b (nearer o) o ≡ Some k → at cs k ≡ c
    → (k' : ℕ) × (o ≡ Some k') × (at (cond b (s ∷ cs) cs) k' ≡ c)
pick_later true None k s c cs e g = never_some k e
pick_later true (Some zero) k s c cs e g = never_some k e
pick_later true (Some (suc m)) k s c cs e g = let z : m ≡ k = cc in (suc m, refl, ap (λ n. at cs n) z ∙ g)
pick_later false o k s c cs e g = (k, e, g)

pub is_pick : (pick : ℕ → Option ℕ) (xs : List Item) (i : ℕ) → picked pick xs i ≡ true → IsPick pick (item_at xs i) (clients xs)
is_pick pick [] i e = never_true e
is_pick pick (x ∷ xs) zero e = pick_here pick x.share x.home (clients xs) e
is_pick pick (x ∷ xs) (suc i) e =
    let p : IsPick (past pick x.home) (item_at xs i) (clients xs) = is_pick (past pick x.home) xs i e in
    let (k, f, g) = pick_later (at_home x.home p.server) (pick p.server) p.place x.share _ (clients xs p.server) p.pick_is p.client_is in
    record { server = p.server; place = k; home_is = p.home_is; pick_is = f; client_is = g }

-- ---- a tick leaves the homes, and takes from the items that are named

pub length_spent : (named : ℕ → Bool) (xs : List Item) → length (spend_items named xs) ≡ length xs
length_spent named [] = refl
length_spent named (x ∷ xs) = ap suc (length_spent (λ i. named (suc i)) xs)

pub item_spent : (named : ℕ → Bool) (xs : List Item) (i : ℕ) → i < length xs → item_at (spend_items named xs) i ≡ spend_item (named i) (item_at xs i)
item_spent named [] i h = absurd (omega arith)
item_spent named (x ∷ xs) zero h = refl
item_spent named (x ∷ xs) (suc i) h = item_spent (λ k. named (suc k)) xs i (omega arith)

pub home_spent : (named : ℕ → Bool) (xs : List Item) (i : ℕ) → (item_at (spend_items named xs) i).home ≡ (item_at xs i).home
home_spent named [] i = refl
home_spent named (x ∷ xs) zero = refl
home_spent named (x ∷ xs) (suc i) = home_spent (λ k. named (suc k)) xs i

pub server_spent : (dual_named : ℕ → Bool) (ss : List Server) (j : ℕ) → j < length ss
    → server_at (spend_servers dual_named ss) j ≡ spend_server (dual_named j) (server_at ss j)
server_spent dual_named [] j h = absurd (omega arith)
server_spent dual_named (s ∷ ss) zero h = refl
server_spent dual_named (s ∷ ss) (suc j) h = server_spent (λ k. dual_named (suc k)) ss j (omega arith)

pub length_servers_spent : (dual_named : ℕ → Bool) (ss : List Server) → length (spend_servers dual_named ss) ≡ length ss
length_servers_spent dual_named [] = refl
length_servers_spent dual_named (s ∷ ss) = ap suc (length_servers_spent (λ j. dual_named (suc j)) ss)

dual_spent : (unit : ℕ) (b : Bool) (s : Server) → dual_of unit (spend_server b s) ≡ spend_item b (dual_of unit s)
dual_spent unit true s = refl
dual_spent unit false s = refl

pub duals_spent : (unit : ℕ) (dual_named : ℕ → Bool) (ss : List Server)
    → duals unit (spend_servers dual_named ss) ≡ spend_items dual_named (duals unit ss)
duals_spent unit dual_named [] = refl
duals_spent unit dual_named (s ∷ ss) = λ i. dual_spent unit (dual_named 0) s i ∷ duals_spent unit (λ j. dual_named (suc j)) ss i

pub dual_at : (unit : ℕ) (ss : List Server) (j : ℕ) → j < length ss → item_at (duals unit ss) j ≡ dual_of unit (server_at ss j)
dual_at unit ss j h = get_or-map (dual_of unit) ss j no_server no_item h

pub length_duals : (unit : ℕ) (ss : List Server) → length (duals unit ss) ≡ length ss
length_duals unit ss = length-map ss (dual_of unit)

pub dual_home : (unit : ℕ) (ss : List Server) (j : ℕ) → (item_at (duals unit ss) j).home ≡ (server_at ss j).home
dual_home unit [] j = refl
dual_home unit (s ∷ ss) zero = refl
dual_home unit (s ∷ ss) (suc j) = dual_home unit ss j
