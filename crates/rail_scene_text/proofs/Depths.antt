-- How deep the tables of a scene nest.
use Rattle.std.proofs.Common.{ℕ, suc, ◌+◌, ◌≤◌, max, List, [], ◌∷◌, map, Option, Some, None, arith}
use Rattle.toml.specs.Data.{Data, string, depth, items_depth, members_depth}
use Rattle.toml.specs.View.{items_of}
use Rattle.rail_base.specs.declared.plant.TrainKind.{TrainKind}
use Rattle.rail_track.specs.declared.section.Section.{Section}
use Rattle.rail_routes.specs.declared.items.Post.{Post}
use Rattle.rail_routes.specs.declared.items.PostRole.{PostRole}
use Rattle.rail_routes.specs.declared.items.PostRole.TheVariants.{Portal, Signal, Board}
use Rattle.rail_routes.specs.declared.items.Route.{Route}
use Rattle.rail_routes.specs.declared.items.Turn.{Turn}
use Rattle.rail_scene.specs.declared.scene.Scene.{Scene}
use Rattle.rail_scene.specs.declared.scene.SceneTrain.{SceneTrain}
use Rattle.rail_scene_text.specs.Tables.{section_data, post_data, post_members, with_ahead, turn_data, route_data, path_of, overlap_of, kind_data, train_data, scene_members}

deeper : (n a b : ℕ) → a ≤ n → b ≤ n → max a b ≤ n
deeper n a b h k = omega arith

least : (n : ℕ) → 0 ≤ n
least n = omega arith

items_flat : {X : Type 0} (f : X → Data) (n : ℕ) → ((x : X) → depth (f x) ≤ n) → (xs : List X) → items_depth (items_of (map f xs)) ≤ n
items_flat f n each [] = least n
items_flat f n each (x ∷ xs) = deeper n (depth (f x)) (items_depth (items_of (map f xs))) (each x) (items_flat f n each xs)

array_flat : {X : Type 0} (f : X → Data) (n : ℕ) → ((x : X) → depth (f x) ≤ n) → (xs : List X) → suc (items_depth (items_of (map f xs))) ≤ n + 1
array_flat f n each xs = let flat = items_flat f n each xs in omega arith

names_flat : (names : List (List ℕ)) → suc (items_depth (items_of (map string names))) ≤ 1
names_flat names = array_flat string 0 (λ name. least 0) names

table_flat : (n m : ℕ) → m ≤ n → suc m ≤ n + 1
table_flat n m h = omega arith

section_flat : (s : Section) → depth (section_data s) ≤ 2
section_flat s = table_flat 1 _ (deeper 1 _ _ (names_flat s.joints) (least 1))

post_flat : (post : Post) → depth (post_data post) ≤ 2
post_flat post = table_flat 1 _ (by post.ahead post.role)
  where
    by : (ahead : Option (List ℕ)) (role : PostRole) → members_depth (with_ahead ahead (post_members role post)) ≤ 1
    by None Portal = least 1
    by None Signal = least 1
    by None Board = least 1
    by (Some a) Portal = least 1
    by (Some a) Signal = least 1
    by (Some a) Board = least 1

turn_flat : (turn : Turn) → depth (turn_data turn) ≤ 2
turn_flat turn = table_flat 1 0 (least 1)

route_flat : (route : Route) → depth (route_data route) ≤ 2
route_flat route = table_flat 1 _ (deeper 1 _ _ (least 1) (deeper 1 _ _ (least 1) (deeper 1 _ _ (names_flat (overlap_of route.overlap)) (deeper 1 _ _ (names_flat (path_of route.steps)) (least 1)))))

kind_flat : (kind : TrainKind) → depth (kind_data kind) ≤ 2
kind_flat kind = table_flat 1 0 (least 1)

train_flat : (train : SceneTrain) → depth (train_data train) ≤ 2
train_flat train =
    table_flat 1 _
    (deeper 1 _ _ (least 1) (deeper 1 _ _ (least 1) (deeper 1 _ _ (least 1) (deeper 1 _ _ (least 1) (deeper 1 _ _ (names_flat train.routes) (least 1))))))

-- the tables of a scene nest no deeper than a reader reads
pub shallow : (scene : Scene) → members_depth (scene_members scene) ≤ 80
shallow scene =
    let net = scene.network in
    let boards = array_flat post_data 2 post_flat net.boards in
    let kinds = array_flat kind_data 2 kind_flat scene.kinds in
    let portals = array_flat post_data 2 post_flat net.portals in
    let routes = array_flat route_data 2 route_flat net.routes in
    let sections = array_flat section_data 2 section_flat net.sections in
    let signals = array_flat post_data 2 post_flat net.signals in
    let trains = array_flat train_data 2 train_flat scene.trains in
    let turns = array_flat turn_data 2 turn_flat net.turns in
    let flat : members_depth (scene_members scene) ≤ 3 =
    deeper 3 _ _ boards (deeper 3 _ _ (least 3) (deeper 3 _ _ kinds (deeper 3 _ _ (least 3) (deeper 3 _ _ (least 3) (deeper 3 _ _ portals (deeper 3 _ _ (least 3)
    (deeper 3 _ _ routes (deeper 3 _ _ sections (deeper 3 _ _ signals (deeper 3 _ _ trains (deeper 3 _ _ turns (least 3)))))))))))) in
    omega arith
