-- What a line of an edit file asks for.
use Rattle.std.specs.Prelude.{ℕ, ◌==◌, ◌&&◌, Bool, true, cond, nat_le, List, [], ◌∷◌, codes, length, Option, Some, None, option_map, option_and_then}
use Rattle.std.specs.List.{list_all}
use Rattle.rail_base.specs.NameForms.{is_name}
use Rattle.rail_rules.specs.Numbers.{same_numbers}
use Rattle.rail_track.specs.declared.section.Section.{Section}
use Rattle.rail_routes.specs.declared.items.Post.{Post}
use Rattle.rail_routes.specs.declared.items.PostRole.TheVariants.{Portal, Signal, Board}
use Rattle.rail_routes.specs.declared.items.Route.{Route}
use Rattle.rail_routes.specs.declared.items.Step.{Step}
use Rattle.rail_routes.specs.declared.items.Turn.{Turn}
use Rattle.rail_scene.specs.Fields.{kind_named}
use Rattle.rail_text.specs.Decimals.{is_decimal, value_of}
use Rattle.rail_edit.specs.declared.edit.Edit.{Edit}
use Rattle.rail_edit.specs.declared.edit.Edit.TheVariants.{AddSection, AddPost, AddTurn, AddRoute, RemoveSection, RemovePost, RemoveTurn, RemoveRoute}
use Rattle.rail_edit.specs.Edits.{is_formed_edit}
use Rattle.rail_edit_file.specs.declared.lists.Way.{Way}
use Rattle.rail_edit_file.specs.declared.spelling.EditLine.{EditLine}
use Rattle.rail_edit_file.specs.declared.spelling.PostTimes.{PostTimes}
use Rattle.rail_edit_file.specs.declared.spelling.EditLine.TheVariants.{Change, Undo, Redo}

-- a number from 0 to 4,294,967,295, in decimal digits without leading zeros
abbrev pub is_number : List ℕ → Bool
is_number word = is_decimal word && nat_le (value_of word) 4294967295

-- two to four names
abbrev pub are_joints : List (List ℕ) → Bool
are_joints joints = list_all is_name joints && nat_le 2 (length joints) && nat_le (length joints) 4

-- a section: NAME KIND LENGTH SPEED JOINT JOINT [JOINT [JOINT]]
abbrev pub section_in : List (List ℕ) → Option Section
section_in (name ∷ kind ∷ long ∷ fast ∷ joints) =
    cond (is_name name && is_number long && is_number fast && are_joints joints)
    (option_map (λ k. record { name = name; kind = k; length = value_of long; speed = value_of fast; joints = joints }) (kind_named kind)) None
section_in _ = None

-- the times of a post: SETTING WATCHING APPROACH
abbrev pub times_in : List (List ℕ) → Option PostTimes
times_in (setting ∷ watching ∷ approach ∷ []) =
    cond (is_number setting && is_number watching && is_number approach)
    (Some record { setting = value_of setting; watching = value_of watching; approach = value_of approach }) None
times_in _ = None

-- a portal: NAME JOINT SETTING WATCHING APPROACH
abbrev pub portal_in : List (List ℕ) → Option Post
portal_in (name ∷ joint ∷ times) =
    cond (is_name name && is_name joint)
    (option_map (λ t. record { name = name; role = Portal; joint = joint; ahead = None; setting = t.setting; watching = t.watching; approach = t.approach }) (times_in times)) None
portal_in _ = None

-- a signal: NAME JOINT AHEAD SETTING WATCHING APPROACH
abbrev pub signal_in : List (List ℕ) → Option Post
signal_in (name ∷ joint ∷ ahead ∷ times) =
    cond (is_name name && is_name joint && is_name ahead)
    (option_map (λ t. record { name = name; role = Signal; joint = joint; ahead = Some ahead; setting = t.setting; watching = t.watching; approach = t.approach }) (times_in times)) None
signal_in _ = None

-- a board: NAME JOINT
abbrev pub board_in : List (List ℕ) → Option Post
board_in (name ∷ joint ∷ []) =
    cond (is_name name && is_name joint) (Some record { name = name; role = Board; joint = joint; ahead = None; setting = 0; watching = 0; approach = 0 }) None
board_in _ = None

-- a turn: ARRIVING LEAVING TIME
abbrev pub turn_in : List (List ℕ) → Option Turn
turn_in (arriving ∷ leaving ∷ time ∷ []) =
    cond (is_name arriving && is_name leaving && is_number time) (Some record { arriving = arriving; leaving = leaving; time = value_of time }) None
turn_in _ = None

-- the steps from a joint on, each a section and the joint at which it is left: [SECTION JOINT ..]
abbrev pub steps_from : List ℕ → List (List ℕ) → Option (List Step)
steps_from joint [] = Some []
steps_from joint (section ∷ []) = None
steps_from joint (section ∷ to ∷ rest) =
    cond (is_name section && is_name to) (option_map (λ steps. record { section = section; from = joint; to = to } ∷ steps) (steps_from to rest)) None

-- the word behind which an overlap stands
abbrev pub is_slash : List ℕ → Bool
is_slash word = same_numbers word (codes "/")

-- the steps of an overlap from a joint on, at least one: SECTION JOINT [SECTION JOINT ..]
abbrev pub overlap_from : List ℕ → List (List ℕ) → Option (List Step)
overlap_from joint [] = None
overlap_from joint (word ∷ rest) = steps_from joint (word ∷ rest)

-- the steps of a path from a joint on, and behind a `/` those of its overlap: [SECTION JOINT ..] [/ SECTION JOINT ..]
abbrev pub way_from : List ℕ → List (List ℕ) → Option Way
way_from joint [] = Some record { steps = []; overlap = [] }
way_from joint (word ∷ []) = None
way_from joint (word ∷ to ∷ rest) =
    cond (is_slash word) (option_map (λ overlap. record { steps = []; overlap = overlap }) (overlap_from joint (to ∷ rest)))
    (cond (is_name word && is_name to)
    (option_map (λ (way : Way). record way { steps = record { section = word; from = joint; to = to } ∷ way.steps }) (way_from to rest)) None)

-- a route of this name between these posts, over at least one step
abbrev pub route_over : List ℕ → List ℕ → List ℕ → Way → Option Route
route_over name from to way =
    cond (length way.steps == 0) None (Some record { name = name; from = from; to = to; steps = way.steps; overlap = way.overlap })

-- a route: NAME FROM TO JOINT SECTION JOINT [SECTION JOINT ..] [/ SECTION JOINT [SECTION JOINT ..]]
abbrev pub route_in : List (List ℕ) → Option Route
route_in (name ∷ from ∷ to ∷ joint ∷ rest) =
    cond (is_name name && is_name from && is_name to && is_name joint) (option_and_then (route_over name from to) (way_from joint rest)) None
route_in _ = None

-- an item that is added: its part, and its words
abbrev pub added : List ℕ → List (List ℕ) → Option Edit
added part args =
    cond (same_numbers part (codes "section")) (option_map AddSection (section_in args))
    (cond (same_numbers part (codes "portal")) (option_map AddPost (portal_in args))
    (cond (same_numbers part (codes "signal")) (option_map AddPost (signal_in args))
    (cond (same_numbers part (codes "board")) (option_map AddPost (board_in args))
    (cond (same_numbers part (codes "turn")) (option_map AddTurn (turn_in args))
    (cond (same_numbers part (codes "route")) (option_map AddRoute (route_in args)) None)))))

-- an item of this part and name that is taken out; a post is of any role
abbrev pub removed_named : List ℕ → List ℕ → Option Edit
removed_named part name =
    cond (same_numbers part (codes "section")) (Some (RemoveSection name))
    (cond (same_numbers part (codes "post")) (Some (RemovePost name))
    (cond (same_numbers part (codes "route")) (Some (RemoveRoute name)) None))

-- a turn between two posts that is taken out
abbrev pub removed_between : List ℕ → List ℕ → List ℕ → Option Edit
removed_between part arriving leaving =
    cond (same_numbers part (codes "turn") && is_name leaving) (Some (RemoveTurn arriving leaving)) None

-- an item that is taken out: by its name, or a turn by its posts
abbrev pub removed : List ℕ → List (List ℕ) → Option Edit
removed part (name ∷ []) = cond (is_name name) (removed_named part name) None
removed part (arriving ∷ leaving ∷ []) = cond (is_name arriving) (removed_between part arriving leaving) None
removed part _ = None

-- a change of the network
abbrev pub changed : List ℕ → List ℕ → List (List ℕ) → Option Edit
changed verb part args = cond (same_numbers verb (codes "add")) (added part args) (cond (same_numbers verb (codes "remove")) (removed part args) None)

-- what a word alone asks for
abbrev pub asked_alone : List ℕ → Option EditLine
asked_alone verb = cond (same_numbers verb (codes "undo")) (Some Undo) (cond (same_numbers verb (codes "redo")) (Some Redo) None)

-- what the words of a line ask for; none where they are not of an edit's form
abbrev pub edit_line : List (List ℕ) → Option EditLine
edit_line [] = None
edit_line (verb ∷ []) = asked_alone verb
edit_line (verb ∷ part ∷ args) = option_map Change (changed verb part args)

-- a post that the line adds is formed as its role asks
abbrev pub is_formed_line : EditLine → Bool
is_formed_line (Change edit) = is_formed_edit edit
is_formed_line asked = true
