-- Tables written place by place from a plan. Assumes nothing.
use Rattle.std.proofs.Common.{◌≡◌, ℕ, zero, suc, ◌+◌, ◌-◌, ◌<◌, ◌≤◌, List, [], ◌∷◌, ◌++◌, map, length, get_or, take, drop, set, None, Option, sym, refl, ap, ◌∙◌, add-one, arith}
use Rattle.std.proofs.lemmas.List.{append_assoc, at_drop_all, at_drop_more, drop-drop, get_or-drop, get_or-map, get_or_past, length-append, length-drop, length-map, length-take-le, map_push, take_more}
use Rattle.std.proofs.lemmas.Slice.{between_is}
use Rattle.packing.specs.Packing.{Packing}
use Rattle.packing.specs.Tables.{over, levels_in, packing_in}
use Rattle.packing.specs.declared.level.Level.{Level as PlanLevel}
use Rattle.packing.specs.declared.plan.Plan.{Plan}
use Rattle.packing.proofs.Climbing.{no_level}
use Rattle.packing.proofs.Over.{over_push}
use Rattle.levels.specs.declared.server.Server.{Server}
use Rattle.levels.specs.Opening.{homes_in, servers_in, servers_of}
use Rattle.run.specs.Opened.{each, unbegun_server}
use Rattle.run.specs.Views.{level_servers}
use Rattle.arrayvec.specs.ArrayVec.{ArrayVec}

-- ---- one of each rate

pub length_each : {X : Type 0} (make : ℕ → Option ℕ → X) (rates : List ℕ) (homes : List (Option ℕ)) → length (each make rates homes) ≡ length rates
length_each make [] homes = refl
length_each make (rate ∷ rest) homes = ap suc (length_each make rest (drop 1 homes))

each_append : {X : Type 0} (make : ℕ → Option ℕ → X) (xs ys : List ℕ) (homes : List (Option ℕ))
    → each make (xs ++ ys) homes ≡ each make xs homes ++ each make ys (drop (length xs) homes)
each_append make [] ys homes = refl
each_append make (x ∷ xs) ys homes =
    let count : 1 + length xs ≡ suc (length xs) = omega arith in
    ap (λ zs. make x (get_or homes 0 None) ∷ zs)
    (each_append make xs ys (drop 1 homes) ∙ ap (λ hs. each make xs (drop 1 homes) ++ each make ys hs) (drop-drop (length xs) 1 homes ∙ ap (λ n. drop n homes) count))

pub each_at : {X : Type 0} (make : ℕ → Option ℕ → X) (rates : List ℕ) (homes : List (Option ℕ)) (i : ℕ) (d : X) → i < length rates
    → get_or (each make rates homes) i d ≡ make (get_or rates i 0) (get_or homes i None)
each_at make [] homes i d h = absurd (omega arith)
each_at make (rate ∷ rest) homes zero d h = refl
each_at make (rate ∷ rest) homes (suc i) d h =
    let next : 1 + i ≡ suc i = omega arith in
    each_at make rest (drop 1 homes) i d (omega arith) ∙ ap (make (get_or rest i 0)) (get_or-drop 1 homes i None ∙ ap (λ n. get_or homes n None) next)

-- one more of each rate
pub each_push : {X : Type 0} (make : ℕ → Option ℕ → X) (rates : List ℕ) (homes : List (Option ℕ)) (i : ℕ) (y : X)
    → y ≡ make (get_or rates i 0) (get_or homes i None) → i < length rates → each make (take i rates) homes ++ y ∷ [] ≡ each make (take (i + 1) rates) homes
each_push make rates homes i y made below =
    let count : length (take i rates) ≡ i = length-take-le i rates (omega arith) in
    let none : i + 0 ≡ i = omega arith in
    let home : get_or (drop (length (take i rates)) homes) 0 None ≡ get_or homes i None =
    ap (λ n. get_or (drop n homes) 0 None) count ∙ get_or-drop i homes 0 None ∙ ap (λ n. get_or homes n None) none in
    ap (λ x. each make (take i rates) homes ++ x ∷ []) (made ∙ ap (make (get_or rates i 0)) (sym home))
    ∙ sym (ap (λ xs. each make xs homes) (take_more rates i 0 below) ∙ each_append make (take i rates) (get_or rates i 0 ∷ []) homes)

-- one place more of a table that is written over by one of each rate
pub each_more : {X : Type 0} (make : ℕ → Option ℕ → X) (rates : List ℕ) (homes : List (Option ℕ)) (old new : List X) (i : ℕ) (y : X)
    → y ≡ make (get_or rates i 0) (get_or homes i None) → i < length rates → i < length old
    → new ≡ over (each make (take i rates) homes) old → set new i y ≡ over (each make (take (i + 1) rates) homes) old
each_more make rates homes old new i y made below room was =
    let count : length (take i rates) ≡ i = length-take-le i rates (omega arith) in
    over_push (each make (take i rates) homes) old new i y (length_each make (take i rates) homes ∙ count) room was
    ∙ ap (λ xs. over xs old) (each_push make rates homes i y made below)

pub each_server : (rates : List ℕ) (homes : List (Option ℕ)) → each unbegun_server rates homes ≡ servers_of rates homes
each_server [] homes = refl
each_server (rate ∷ rest) homes = ap (λ ss. unbegun_server rate (get_or homes 0 None) ∷ ss) (each_server rest (drop 1 homes))

-- ---- a part of a table changed

-- the places from n on, below m, are changed
pub over_changed : {X : Type 0} (f : X → X) (old ys : List X) (n m : ℕ) → n ≤ m → m ≤ length old → ys ≡ map f (take (m - n) (drop n old))
    → take n old ++ (ys ++ drop (m - n) (drop n old)) ≡ over (take n old ++ map f (drop n (take m old))) old
over_changed f old ys n m low high is =
    let part : ys ≡ map f (drop n (take m old)) = is ∙ ap (map f) (between_is old n m) in
    let end : n + (m - n) ≡ m = omega arith in
    let count : length (take n old ++ map f (drop n (take m old))) ≡ m =
    length-append (take n old) (map f (drop n (take m old)))
    ∙ omega (arith, length-take-le n old (omega arith), length-map (drop n (take m old)) f, length-drop n (take m old), length-take-le m old high) in
    let rest : drop (m - n) (drop n old) ≡ drop (length (take n old ++ map f (drop n (take m old)))) old =
    drop-drop (m - n) n old ∙ ap (λ k. drop k old) (end ∙ sym count) in
    sym (append_assoc (take n old) ys (drop (m - n) (drop n old)))
    ∙ ap (λ l. (take n old ++ l) ++ drop (m - n) (drop n old)) part
    ∙ ap (λ l. (take n old ++ map f (drop n (take m old))) ++ l) rest

-- ---- the levels of a plan

abbrev no_packing : Packing
no_packing = record { homes = []; rates = [] }

-- those that count
abbrev pub packed : Plan → List PlanLevel
packed p = take p.depth p.levels

pub length_levels_in : (p : Plan) → length (levels_in p) ≡ length (packed p)
length_levels_in p = length-map (packed p) packing_in

-- level k, whatever stands past the last
level_at : (p : Plan) (k : ℕ) (past : PlanLevel) → k < length (packed p) → get_or (levels_in p) k no_packing ≡ packing_in (get_or (packed p) k past)
level_at p k past deep = get_or-map packing_in (packed p) k past no_packing deep

pub homes_at : (p : Plan) (k i : ℕ) (l : PlanLevel) → k < length (packed p) → l ≡ get_or (packed p) k l
    → get_or (packing_in l).homes i None ≡ get_or (homes_in (drop k (levels_in p))) i None
homes_at p k i l deep is =
    sym
    (ap (λ hs. get_or hs i None) (at_drop_more homes_in (levels_in p) k no_packing (omega (arith, length_levels_in p)))
    ∙ ap (λ t. get_or t.homes i None) (level_at p k l deep ∙ ap packing_in (sym is)))

pub homes_past : (p : Plan) (k i : ℕ) → length (packed p) ≤ k → None ≡ get_or (homes_in (drop k (levels_in p))) i None
homes_past p k i past =
    sym (ap (λ hs. get_or hs i None) (at_drop_all homes_in (levels_in p) k (omega (arith, length_levels_in p))) ∙ get_or_past [] i None (omega arith))

pub length_servers_in : (ps : List Packing) → length (servers_in ps) ≡ length ps
length_servers_in [] = refl
length_servers_in (l ∷ above) = ap suc (length_servers_in above)

servers_at : (ps : List Packing) (k : ℕ) → k < length ps → get_or (servers_in ps) k [] ≡ servers_of (get_or ps k no_packing).rates (homes_in (drop (suc k) ps))
servers_at [] k h = absurd (omega arith)
servers_at (l ∷ above) zero h = refl
servers_at (l ∷ above) (suc k) h = servers_at above k (omega arith)

-- one level more
pub levels_more : (p : Plan) (ls : List (ArrayVec Server)) (new : ArrayVec Server) (k : ℕ) → k < length (packed p)
    → new.items ≡ servers_of (packing_in (get_or (packed p) k no_level)).rates (homes_in (drop (k + 1) (levels_in p)))
    → map level_servers ls ≡ take k (servers_in (levels_in p)) → map level_servers (ls ++ new ∷ []) ≡ take (k + 1) (servers_in (levels_in p))
levels_more p ls new k deep made was =
    let all = servers_in (levels_in p) in
    let rates = (packing_in (get_or (packed p) k no_level)).rates in
    let here : get_or all k [] ≡ new.items =
    servers_at (levels_in p) k (omega (arith, length_levels_in p))
    ∙ ap (λ t. servers_of t.rates (homes_in (drop (suc k) (levels_in p)))) (level_at p k no_level deep)
    ∙ ap (λ n. servers_of rates (homes_in (drop n (levels_in p)))) (sym (add-one k))
    ∙ sym made in
    map_push level_servers ls new
    ∙ ap (λ ss. ss ++ level_servers new ∷ []) was
    ∙ ap (λ ss. take k all ++ ss ∷ []) (sym here)
    ∙ sym (take_more all k [] (omega (arith, length_servers_in (levels_in p), length_levels_in p)))
