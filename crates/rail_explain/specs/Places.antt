-- Where a refusal lies, in words: the item, and in it the key, joint, step or place.
use Rattle.std.specs.Prelude.{ℕ, ◌==◌, cond, List, [], ◌∷◌, ◌++◌, length, drop, map, codes, decimal, Option, Some, None}
use Rattle.rail_base.specs.declared.refusals.Part.{Part}
use Rattle.rail_base.specs.declared.refusals.Part.TheVariants as part
use Rattle.rail_base.specs.declared.refusals.Reason.{Reason}
use Rattle.rail_base.specs.declared.refusals.Reason.TheVariants.{KeyMissing, WrongKind, BadName, Unknown, Range, UnknownPolicy, JointCrowded, RouteBroken, RouteRepeat, ItineraryBroken, TooLong, SelfBlocked}
use Rattle.rail_base.specs.declared.refusals.Refusal.{Refusal}
use Rattle.rail_rules.specs.Texts.{behind}
use Rattle.rail_scene.specs.declared.keys.Key.{Key}
use Rattle.rail_scene.specs.declared.versions.Version.TheVariants.{One}
use Rattle.rail_scene.specs.ItemNames.{item_at}
use Rattle.rail_scene.specs.Keys.{keys_in, text_of}
use Rattle.rail_scene.specs.Versions.{newest}

-- the word for what a part has items of
abbrev pub part_text : Part → List ℕ
part_text part.Bytes = codes "the file"
part_text part.File = codes "the file"
part_text part.Root = codes "the root"
part_text part.Section = codes "section"
part_text part.Portal = codes "portal"
part_text part.Signal = codes "signal"
part_text part.Board = codes "board"
part_text part.Turn = codes "turn"
part_text part.Route = codes "route"
part_text part.Kind = codes "kind"
part_text part.Train = codes "train"
part_text part.Row = codes "record"
part_text part.Line = codes "line"
part_text part.Word = codes "word"

-- the word, and the number of the item; a file and its root have none
abbrev pub numbered_part : Part → ℕ → List ℕ
numbered_part part.Bytes item = part_text part.Bytes
numbered_part part.File item = part_text part.File
numbered_part part.Root item = part_text part.Root
numbered_part part item = part_text part ++ 32 ∷ decimal item

-- a space and the name, where the item has one
abbrev pub name_text : Option (List ℕ) → List ℕ
name_text None = []
name_text (Some name) = 32 ∷ name

-- the item in which a refusal lies
abbrev pub item_text : Refusal → Option (List ℕ) → List ℕ
item_text refusal name = numbered_part refusal.part refusal.item ++ name_text name

-- the key of a scene file in which a refusal lies, by its number in the newest version
abbrev pub key_at : Refusal → Option Key
key_at refusal = item_at refusal.step (keys_in refusal.part newest)

-- a colon, a word, and the number of the step
abbrev pub step_text : List ℕ → ℕ → List ℕ
step_text word step = 58 ∷ 32 ∷ word ++ 32 ∷ decimal step

-- a key's name between quotation marks
abbrev pub quoted : Key → List ℕ
quoted key = 32 ∷ 34 ∷ text_of key.name ++ 34 ∷ []

-- the number of a value where no key is known: of a piece of a word, or of a value of a line; 0 stands for the item itself
abbrev pub value_text : Part → ℕ → List ℕ
value_text part.Word step = step_text (codes "piece") step
value_text part step = step_text (codes "value") step

-- the number of the key and its name; a value of a line has a number alone
abbrev pub key_text : Refusal → Option Key → List ℕ
key_text refusal (Some key) = step_text (codes "key") refusal.step ++ quoted key
key_text refusal None = cond (refusal.step == 0) [] (value_text refusal.part refusal.step)

-- the names of keys, each behind a space
abbrev pub key_words : List Key → List ℕ
key_words keys = behind (map (λ (key : Key). text_of key.name) keys)

-- the keys that the newest version has beyond those of the first
abbrev pub added_words : List Key → List ℕ
added_words [] = []
added_words (key ∷ keys) = codes ", in version 2" ++ key_words (key ∷ keys)

-- the keys that a table of the part may have
abbrev pub keys_text : Part → List ℕ
keys_text part = 58 ∷ key_words (keys_in part One) ++ added_words (drop (length (keys_in part One)) (keys_in part newest))

-- where in its item a refusal for this reason lies; of the other reasons the item is told alone
abbrev pub place_text : Reason → Refusal → List ℕ
place_text KeyMissing refusal = key_text refusal (key_at refusal)
place_text WrongKind refusal = key_text refusal (key_at refusal)
place_text BadName refusal = key_text refusal (key_at refusal)
place_text Unknown refusal = key_text refusal (key_at refusal)
place_text Range refusal = key_text refusal (key_at refusal)
place_text UnknownPolicy refusal = key_text refusal (key_at refusal)
place_text JointCrowded refusal = step_text (codes "joint") refusal.step
place_text RouteBroken refusal = step_text (codes "step") refusal.step
place_text RouteRepeat refusal = step_text (codes "step") refusal.step
place_text ItineraryBroken refusal = step_text (codes "place") refusal.step
place_text TooLong refusal = step_text (codes "place") refusal.step
place_text SelfBlocked refusal = step_text (codes "place") refusal.step
place_text reason refusal = []
