-- The lines of the generator.
use Rattle.std.specs.Prelude.{ℕ, zero, suc, ◌+◌, ◌*◌, ◌/◌, ◌%◌, ◌^◌, ◌==◌, ◌||◌, nat_lt, if◌then◌else◌, List, [], ◌∷◌, ◌++◌, drop, codes}
use Rattle.std.specs.Fmt.{decimal}
use Rattle.std.specs.Int.{w32, w64, to_be_bytes}
use Rattle.hex.specs.Hex.{encode_lower}

-- the numbers of the generator: each is made of the one before
unfoldable pub number_at : (first i : ℕ) → ℕ
number_at first zero = first
number_at first (suc i) = (number_at first i * 6364136223846793005 + 1442695040888963407) % 2 ^ 64

-- the branch of a number: main where it is below 2^63, else dev
abbrev pub branch_of : ℕ → List ℕ
branch_of x = if nat_lt x (2 ^ 63) then codes "main" else codes "dev"

-- its path: 6 lower-case hex digits of the 8 of a number that is below 16777216
abbrev pub path_of : ℕ → List ℕ
path_of x = codes "p/" ++ drop 2 (encode_lower (to_be_bytes w32 (x / 65536 % 16777216)))

-- the line that uploads it, as 16 lower-case hex digits
abbrev pub upload_line : ℕ → List ℕ
upload_line x =
    codes "fs upload lakefs://quickstart/" ++ branch_of x ++ codes "/" ++ path_of x ++ codes " --text " ++ encode_lower (to_be_bytes w64 x)

-- the line that commits a branch behind the i-th upload
abbrev pub commit_line : (branch : List ℕ) → (i : ℕ) → List ℕ
commit_line branch i = codes "commit lakefs://quickstart/" ++ branch ++ codes " -m g" ++ decimal i

-- both branches are committed behind each thousandth upload, and behind the last
abbrev pub commits_at : (i : ℕ) → List (List ℕ)
commits_at i = commit_line (codes "main") i ∷ commit_line (codes "dev") i ∷ []

abbrev pub commit_lines : (objects i : ℕ) → List (List ℕ)
commit_lines objects i = if i % 1000 == 0 || i == objects then commits_at i else []

-- dev is made, and at the end it goes into main
abbrev pub begin_line : List ℕ
begin_line = codes "branch create lakefs://quickstart/dev --source lakefs://quickstart/main"

abbrev pub merge_line : List ℕ
merge_line = codes "merge lakefs://quickstart/dev lakefs://quickstart/main --strategy source-wins"

-- the first lines: dev is made, and then the first of the objects are uploaded, so many
unfoldable pub lines_to : (first objects i : ℕ) → List (List ℕ)
lines_to first objects zero = begin_line ∷ []
lines_to first objects (suc i) =
    lines_to first objects i ++ (upload_line (number_at first (suc i)) ∷ commit_lines objects (suc i))

-- THE LINES: so many objects, of the numbers behind the first
abbrev pub generated_lines : (first objects : ℕ) → List (List ℕ)
generated_lines first objects = lines_to first objects objects ++ merge_line ∷ []
