-- The paths of the interface (this project's profile), with their named segments.
use Rattle.std.specs.Prelude.{◌==◌, ℕ, Bool, nat_eq, List, [], ◌∷◌, length, take, drop, position, codes, if◌then◌else◌}
use Rattle.std.specs.Prelude.{Option, Some, None, option_map, option_and_then}
use Rattle.std.specs.Option.{option_or, unwrap_or}
use Rattle.std.specs.List.{starts_with}
use Rattle.std.specs.Str.{bytes_eq}
use Rattle.api_routes.specs.declared.paths.ApiPath.{ApiPath}
use Rattle.api_routes.specs.declared.paths.ApiPath.TheVariants as path
use Rattle.api_routes.specs.declared.paths.Place.{Place}

-- a path, with its named segments as they were sent: the repository, the second and the third; empty where there is none
pub record PlaceValue : Type 0 where
  pub path : ApiPath
  pub repo : List ℕ
  pub second : List ℕ
  pub third : List ℕ

-- a place as contracts see it
abbrev pub seen_place : Place → PlaceValue
seen_place p = record { path = p.path; repo = p.repo.now; second = p.second.now; third = p.third.now }

-- what follows a word at the front of a path
abbrev pub after_word : (word path : List ℕ) → Option (List ℕ)
after_word word path = if starts_with nat_eq path word then Some (drop (length word) path) else None

-- how many bytes stand before the first slash
abbrev pub front_len : List ℕ → ℕ
front_len path = unwrap_or (position (λ byte. byte == 47) path) (length path)

-- the bytes before the first slash, where there are any, and the others
abbrev pub named_front : List ℕ → Option (List ℕ × List ℕ)
named_front path = if front_len path == 0 then None else Some (take (front_len path) path, drop (front_len path) path)

-- a named segment at the front of a path: a slash, and then bytes up to the next slash, at least one; and what follows it
abbrev pub after_name : List ℕ → Option (List ℕ × List ℕ)
after_name [] = None
after_name (byte ∷ path) = if byte == 47 then named_front path else None

-- a word and a named segment behind it
abbrev pub after_named : (word path : List ℕ) → Option (List ℕ × List ℕ)
after_named word path = option_and_then after_name (after_word word path)

-- the first of these ends of a path that is the one
abbrev pub path_at : List (List ℕ × ApiPath) → List ℕ → Option ApiPath
path_at [] rest = None
path_at (row ∷ rows) rest = if bytes_eq rest row.0 then Some row.1 else path_at rows rest

-- what follows a branch
abbrev pub branch_paths : List (List ℕ × ApiPath)
branch_paths =
    ([], path.Branch)
    ∷ (codes "/commits", path.BranchCommits)
    ∷ (codes "/objects", path.BranchObjects)
    ∷ (codes "/objects/copy", path.BranchCopy)
    ∷ (codes "/revert", path.BranchRevert)
    ∷ (codes "/cherry-pick", path.BranchCherryPick)
    ∷ []

-- what follows an expression
abbrev pub ref_paths : List (List ℕ × ApiPath)
ref_paths =
    (codes "/commits", path.RefCommits)
    ∷ (codes "/objects", path.RefObjects)
    ∷ (codes "/objects/stat", path.RefStat)
    ∷ (codes "/objects/ls", path.RefList)
    ∷ []

-- what follows a repository and has no named segment
abbrev pub repository_paths : List (List ℕ × ApiPath)
repository_paths =
    (codes "/branches", path.Branches)
    ∷ (codes "/tags", path.Tags)
    ∷ (codes "/settings/branch_protection", path.Protection)
    ∷ (codes "/settings/hooks", path.Hooks)
    ∷ []

-- the place where nothing is left of a path
abbrev pub end_place : ApiPath → (repo second third rest : List ℕ) → Option PlaceValue
end_place at repo second third rest =
    if length rest == 0 then Some (record { path = at; repo = repo; second = second; third = third }) else None

-- a path with these named segments
abbrev pub place_at : (repo second : List ℕ) → ApiPath → PlaceValue
place_at repo second at = record { path = at; repo = repo; second = second; third = [] }

-- the first way that leads on decides; where none does, the other
abbrev pub led : {X : Type 0} → Option (List ℕ × List ℕ) → (List ℕ → List ℕ → Option X) → Option X → Option X
led None next other = other
led (Some front) next other = next front.0 front.1

-- `/branches/{b}`, and what follows it
abbrev pub branch_place : (repo branch rest : List ℕ) → Option PlaceValue
branch_place repo branch rest = option_map (place_at repo branch) (path_at branch_paths rest)

-- `/refs/{ref}`, and what follows it: `/merge/{dst}`, or one of the others
abbrev pub ref_place : (repo at rest : List ℕ) → Option PlaceValue
ref_place repo at rest =
    led (after_named (codes "/merge") rest) (λ branch left. end_place path.Merge repo at branch left)
    (option_map (place_at repo at) (path_at ref_paths rest))

-- `/commits/{id}`, `/tags/{t}`, or one of the others
abbrev pub other_place : (repo rest : List ℕ) → Option PlaceValue
other_place repo rest =
    led (after_named (codes "/commits") rest) (λ id left. end_place path.Commit repo id [] left)
    (led (after_named (codes "/tags") rest) (λ tag left. end_place path.Tag repo tag [] left)
    (option_map (place_at repo []) (path_at repository_paths rest)))

-- what a repository has
abbrev pub below_repository : (repo rest : List ℕ) → Option PlaceValue
below_repository repo rest =
    led (after_named (codes "/branches") rest) (λ branch left. branch_place repo branch left)
    (led (after_named (codes "/refs") rest) (λ at left. ref_place repo at left) (other_place repo rest))

-- below `/repositories`: nothing, or a repository `/{r}` and what it has
abbrev pub below_repositories : List ℕ → Option PlaceValue
below_repositories rest =
    if length rest == 0 then Some (place_at [] [] path.Repositories)
    else option_and_then (λ front. below_repository front.0 front.1) (after_name rest)

-- every path of the interface
abbrev pub place_of : List ℕ → Option PlaceValue
place_of whole = option_and_then below_repositories (after_word (codes "/api/v1/repositories") whole)
