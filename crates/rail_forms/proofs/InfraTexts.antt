-- The lines of the counts and of a route, put together part by part.
use Rattle.std.proofs.Common.{◌≡◌, ℕ, ◌+◌, ◌<◌, List, [], ◌∷◌, ◌++◌, length, take, drop, get_or, decimal, codes, refl, sym, ap, ◌∙◌, subst, append_assoc}
use Rattle.std.proofs.lemmas.List.{append-nil, take_more, take-append-drop}
use Rattle.rail_track.specs.declared.section.Section.{Section}
use Rattle.rail_routes.specs.declared.items.Route.{Route}
use Rattle.rail_scene.specs.declared.scene.Scene.{Scene}
use Rattle.rail_rules.specs.Texts.{behind}
use Rattle.rail_forms.specs.Infra.{counts_line, route_line, route_lines, route_length, infra_text, section_and_post_counts, turn_and_route_counts, train_counts}

pub counts_from : (scene : Scene) {whole l6 l5 l4 l3 l2 l1 : List ℕ} →
    whole ≡ l6 → l6 ≡ l5 ++ 10 ∷ [] → l5 ≡ l4 ++ behind (train_counts scene) →
    l4 ≡ l3 ++ behind (turn_and_route_counts scene.network) →
    l3 ≡ l2 ++ behind (section_and_post_counts scene.network) → l2 ≡ l1 ++ codes "infra" → l1 ≡ [] → whole ≡ counts_line scene
unfolding counts_line
counts_from scene a b c d e f g = rw (a, b, c, d, e, f, g) refl

-- a word behind a space, and what is behind it
shift : (front word rest : List ℕ) → (front ++ 32 ∷ word) ++ rest ≡ front ++ 32 ∷ (word ++ rest)
shift front word rest = append_assoc front (32 ∷ word) rest

joined : (a n f t m c : List ℕ) → (((((a ++ 32 ∷ n) ++ 32 ∷ f) ++ 32 ∷ t) ++ 32 ∷ m) ++ 32 ∷ c) ++ 10 ∷ [] ≡ (a ++ behind (n ∷ f ∷ t ∷ m ∷ c ∷ [])) ++ 10 ∷ []
joined a n f t m c =
    let P : List ℕ → Type 0 = λ x. x ++ 10 ∷ [] ≡ (a ++ behind (n ∷ f ∷ t ∷ m ∷ c ∷ [])) ++ 10 ∷ [] in
    subst P (sym (
    shift (((a ++ 32 ∷ n) ++ 32 ∷ f) ++ 32 ∷ t) m (32 ∷ c)
    ∙ shift ((a ++ 32 ∷ n) ++ 32 ∷ f) t (32 ∷ (m ++ 32 ∷ c))
    ∙ shift (a ++ 32 ∷ n) f (32 ∷ (t ++ 32 ∷ (m ++ 32 ∷ c)))
    ∙ shift a n (32 ∷ (f ++ 32 ∷ (t ++ 32 ∷ (m ++ 32 ∷ c))))
    ∙ ap (λ x. a ++ 32 ∷ (n ++ 32 ∷ (f ++ 32 ∷ (t ++ 32 ∷ (m ++ 32 ∷ x))))) (sym (append-nil c))
    )) refl

pub route_from : (sections : List Section) (route : Route) {whole l8 l7 l6 l5 l4 l3 l2 l1 : List ℕ} {metres count : ℕ} →
    whole ≡ l8 → l8 ≡ l7 ++ 10 ∷ [] → l7 ≡ l6 ++ 32 ∷ decimal count → l6 ≡ l5 ++ 32 ∷ decimal metres →
    l5 ≡ l4 ++ 32 ∷ route.to → l4 ≡ l3 ++ 32 ∷ route.from → l3 ≡ l2 ++ 32 ∷ route.name → l2 ≡ l1 ++ codes "route" → l1 ≡ [] →
    metres ≡ route_length sections route → count ≡ length route.steps → whole ≡ route_line sections route
unfolding route_line
route_from sections route a b c d e f g h i j k =
    rw (a, b, c, d, e, f, g, h, i, j, k) (joined (codes "route") route.name route.from route.to (decimal (route_length sections route)) (decimal (length route.steps)))

append_lines : (sections : List Section) (xs ys : List Route) → route_lines sections (xs ++ ys) ≡ route_lines sections xs ++ route_lines sections ys
append_lines sections [] ys = refl
append_lines sections (x ∷ xs) ys = ap (λ t. route_line sections x ++ t) (append_lines sections xs ys) ∙ sym (append_assoc (route_line sections x) (route_lines sections xs) (route_lines sections ys))

-- the lines of one route more
pub line_more : (sections : List Section) (routes : List Route) (i : ℕ) (route : Route) → i < length routes → route ≡ get_or routes i route → route_lines sections (take (i + 1) routes) ≡ route_lines sections (take i routes) ++ route_line sections route
line_more sections routes i route lt is =
    ap (route_lines sections) (take_more routes i route lt) ∙ append_lines sections (take i routes) (get_or routes i route ∷ [])
    ∙ ap (λ t. route_lines sections (take i routes) ++ t) (append-nil (route_line sections (get_or routes i route)))
    ∙ ap (λ r. route_lines sections (take i routes) ++ route_line sections r) (sym is)

-- the lines of the first routes, that of the next one and those of the others are all lines
pub lines_whole : (sections : List Section) (routes : List Route) (i : ℕ) (route : Route) → i < length routes → route ≡ get_or routes i route → route_lines sections routes ≡ (route_lines sections (take i routes) ++ route_line sections route) ++ route_lines sections (drop (i + 1) routes)
lines_whole sections routes i route lt is =
    ap (route_lines sections) (sym (take-append-drop (i + 1) routes)) ∙ append_lines sections (take (i + 1) routes) (drop (i + 1) routes)
    ∙ ap (λ t. t ++ route_lines sections (drop (i + 1) routes)) (line_more sections routes i route lt is)

-- the counts and the lines of the routes
pub infra_is : (scene : Scene) → infra_text scene ≡ counts_line scene ++ route_lines scene.network.sections scene.network.routes
unfolding infra_text
infra_is scene = refl
