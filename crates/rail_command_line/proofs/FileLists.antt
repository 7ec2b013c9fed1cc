-- The name of the file of a role stands at the place of the role.
use Prim.Native.Nat.{zero}
use Rattle.std.proofs.Common.{◌≡◌, ◌<◌, ◌+◌, ◌++◌, ℕ, suc, List, [], ◌∷◌, Option, Some, None, refl, sym, ap, ◌∙◌, arith, length, map, slice_get, get_or}
use Rattle.std.specs.Prelude.{Bool, true, false, cond, nat_lt, option_and_then, not, position}
use Rattle.std.specs.List.{position_or_len}
use Rattle.std.specs.Option.{option_copied}
use Rattle.std.proofs.lemmas.Bool.{ltb-true, ltb-false}
use Rattle.std.proofs.lemmas.List.{length-map}
use Rattle.std.proofs.lemmas.List.Folds.{find_at}
use Rattle.std.proofs.lemmas.Option.{slice_get_past}
use Rattle.rail_command_line.specs.declared.files.FileRole.{FileRole}
use Rattle.rail_command_line.specs.declared.files.RequestFiles.{RequestFiles}
use Rattle.rail_command_line.specs.Files.{AreFiles, File, file_with, names_of, roles_of, same_role}

-- the first role that passes stands where the first file does whose role passes
same_place : (test : FileRole → Bool) (files : List File)
    → position_or_len test (roles_of files) ≡ position_or_len (λ (file : File). test file.role) files
same_place test [] = refl
same_place test (file ∷ files) = ap (λ place. cond (not (test file.role)) (1 + place) 0) (same_place test files)

-- the name of a file stands at its place
name_at : {X : Type 0} (view : X → Option (List ℕ)) (files : List File) (names : List X) (rest : List (Option (List ℕ))) (place : ℕ)
    → map view names ≡ names_of files ++ rest → place < length files
    → option_and_then view (slice_get names place) ≡ option_and_then (λ (file : File). file.name) (slice_get files place)
name_at view [] names rest place h lt = absurd (omega (arith, lt))
name_at view (file ∷ files) [] rest place h lt = absurd (cc h)
name_at view (file ∷ files) (name ∷ names) rest zero h lt = ap (λ (all : List (Option (List ℕ))). get_or all 0 None) h
name_at view (file ∷ files) (name ∷ names) rest (suc place) h lt = name_at view files names rest place (cc h) (omega (arith, lt))

-- so the name of the file of a role is the one at the place of the role
pub name_of_role : (role : FileRole) (told : RequestFiles) (files : List File) → AreFiles told files → (place : Option ℕ) → place ≡ position (same_role role) told.roles.now
    → option_and_then (λ at. option_and_then option_copied (slice_get told.names at)) place ≡ file_with role files
name_of_role role told files are place is =
    ap (option_and_then name) (is ∙ ap (position (same_role role)) are.roles) ∙ at (nat_lt first (length roles)) refl
    ∙ ap (λ n. option_and_then (λ (file : File). file.name) (slice_get files n)) (same_place (same_role role) files)
    ∙ ap (option_and_then (λ (file : File). file.name)) (sym (find_at (λ (file : File). same_role role file.role) files))
  where
    name : ℕ → Option (List ℕ)
    name at = option_and_then option_copied (slice_get told.names at)

    roles : List FileRole
    roles = roles_of files

    first : ℕ
    first = position_or_len (same_role role) roles

    many : length roles ≡ length files
    many = length-map files (λ (file : File). file.role)

    at : (b : Bool) → nat_lt first (length roles) ≡ b
        → option_and_then name (cond b (Some first) None) ≡ option_and_then (λ (file : File). file.name) (slice_get files first)
    at true within = name_at option_copied files told.names _ first are.names (let lt = ltb-true first (length roles) within in omega (arith, lt, many))
    at false past = ap (option_and_then (λ (file : File). file.name)) (sym (slice_get_past files first (let le = ltb-false first (length roles) past in omega (arith, le, many))))
