-- THE OBJECTS OF REPLIES (this project's profile): the keys that each must have, and what is shown of it.
use Rattle.std.specs.Prelude.{ℕ, List, [], ◌∷◌, codes}
use Rattle.lakectl_shown.specs.declared.form.Content.{Content}
use Rattle.lakectl_shown.specs.declared.form.Content.TheVariants.{Text, Whole, Truth, Object, List as ListOf, ObjectWord, PrefixWord}
use Rattle.lakectl_shown.specs.declared.form.Form.{Form}
use Rattle.lakectl_shown.specs.declared.form.Form.TheVariants as form
use Rattle.lakectl_shown.specs.ShownForms.{PieceForm, words, text_of, number_of}

abbrev pub repository_keys : List (List ℕ × Content)
repository_keys = (codes "creation_date", Whole) ∷ (codes "default_branch", Text) ∷ (codes "id", Text) ∷ []

abbrev pub reference_keys : List (List ℕ × Content)
reference_keys = (codes "commit_id", Text) ∷ (codes "id", Text) ∷ []

abbrev pub commit_keys : List (List ℕ × Content)
commit_keys =
    (codes "committer", Text)
    ∷ (codes "creation_date", Whole)
    ∷ (codes "generation", Whole)
    ∷ (codes "id", Text)
    ∷ (codes "message", Text)
    ∷ (codes "meta_range_id", Text)
    ∷ (codes "metadata", Object)
    ∷ (codes "parents", ListOf) ∷ []

abbrev pub merge_keys : List (List ℕ × Content)
merge_keys = (codes "reference", Text) ∷ []

abbrev pub statistics_keys : List (List ℕ × Content)
statistics_keys =
    (codes "checksum", Text)
    ∷ (codes "content_type", Text)
    ∷ (codes "metadata", Object)
    ∷ (codes "mtime", Whole)
    ∷ (codes "path", Text)
    ∷ (codes "path_type", ObjectWord)
    ∷ (codes "physical_address", Text)
    ∷ (codes "size_bytes", Whole) ∷ []

abbrev pub common_prefix_keys : List (List ℕ × Content)
common_prefix_keys = (codes "path", Text) ∷ (codes "path_type", PrefixWord) ∷ []

abbrev pub pagination_keys : List (List ℕ × Content)
pagination_keys = (codes "has_more", Truth) ∷ (codes "max_per_page", Whole) ∷ (codes "next_offset", Text) ∷ (codes "results", Whole) ∷ []

abbrev pub fault_keys : List (List ℕ × Content)
fault_keys = (codes "message", Text) ∷ []

-- the keys that an object of this form must have; others are passed over
abbrev pub keys_of : Form → List (List ℕ × Content)
keys_of form.RepositoryMade = repository_keys
keys_of form.RepositoryLine = repository_keys
keys_of form.ReferenceLine = reference_keys
keys_of form.TagMade = reference_keys
keys_of form.CommitMade = commit_keys
keys_of form.CommitLines = commit_keys
keys_of form.MergeMade = merge_keys
keys_of form.ObjectMade = statistics_keys
keys_of form.ObjectLines = statistics_keys
keys_of form.ObjectLine = statistics_keys
keys_of form.PrefixLine = common_prefix_keys
keys_of form.Page = pagination_keys
keys_of form.Fault = fault_keys

-- what is shown of it
abbrev pub pieces_of : Form → List PieceForm
pieces_of form.RepositoryMade = words (codes "Repository '") ∷ text_of (codes "id") ∷ words (codes "' created\n") ∷ []
pieces_of form.RepositoryLine =
    text_of (codes "id")
    ∷ words (codes "\t")
    ∷ number_of (codes "creation_date")
    ∷ words (codes "\t")
    ∷ text_of (codes "default_branch")
    ∷ words (codes "\n") ∷ []
pieces_of form.ReferenceLine = text_of (codes "id") ∷ words (codes "\t") ∷ text_of (codes "commit_id") ∷ words (codes "\n") ∷ []
pieces_of form.TagMade =
    words (codes "Created tag '")
    ∷ text_of (codes "id")
    ∷ words (codes "' ")
    ∷ text_of (codes "commit_id")
    ∷ words (codes "\n") ∷ []
pieces_of form.CommitMade = words (codes "Commit: ") ∷ text_of (codes "id") ∷ words (codes "\n") ∷ []
pieces_of form.CommitLines =
    words (codes "ID: ")
    ∷ text_of (codes "id")
    ∷ words (codes "\nAuthor: ")
    ∷ text_of (codes "committer")
    ∷ words (codes "\nDate: ")
    ∷ number_of (codes "creation_date")
    ∷ words (codes "\nMessage: ")
    ∷ text_of (codes "message")
    ∷ words (codes "\n\n") ∷ []
pieces_of form.MergeMade = words (codes "Merged: ") ∷ text_of (codes "reference") ∷ words (codes "\n") ∷ []
pieces_of form.ObjectMade =
    words (codes "Path: ")
    ∷ text_of (codes "path")
    ∷ words (codes "\nSize: ")
    ∷ number_of (codes "size_bytes")
    ∷ words (codes "\nChecksum: ")
    ∷ text_of (codes "checksum")
    ∷ words (codes "\n") ∷ []
pieces_of form.ObjectLines =
    words (codes "Path: ")
    ∷ text_of (codes "path")
    ∷ words (codes "\nModified Time: ")
    ∷ number_of (codes "mtime")
    ∷ words (codes "\nSize: ")
    ∷ number_of (codes "size_bytes")
    ∷ words (codes "\nChecksum: ")
    ∷ text_of (codes "checksum")
    ∷ words (codes "\nPhysical Address: ")
    ∷ text_of (codes "physical_address")
    ∷ words (codes "\nContent-Type: ")
    ∷ text_of (codes "content_type")
    ∷ words (codes "\n") ∷ []
pieces_of form.ObjectLine =
    words (codes "object\t")
    ∷ number_of (codes "size_bytes")
    ∷ words (codes "\t")
    ∷ text_of (codes "path")
    ∷ words (codes "\n") ∷ []
pieces_of form.PrefixLine = words (codes "prefix\t") ∷ text_of (codes "path") ∷ words (codes "\n") ∷ []
pieces_of form.Page = words (codes "More after: ") ∷ text_of (codes "next_offset") ∷ words (codes "\n") ∷ []
pieces_of form.Fault = text_of (codes "message") ∷ []
