-- WHAT IS SHOWN OF A REPLY: a function of the layout, the status and the body (this project's profile).
use Rattle.std.specs.Prelude.{ℕ, ◌==◌, ◌&&◌, ◌||◌, Bool, true, false, nat_le, if◌then◌else◌, List}
use Rattle.std.specs.Prelude.{[], ◌++◌, length, codes, Option, Some, None, option_map, option_and_then, unwrap_or}
use Rattle.std.specs.List.{list_all, flat_map}
use Rattle.std.specs.Fmt.{decimal}
use Rattle.serde_json.specs.Data.{Data, Items, no_items, item}
use Rattle.serde_json.specs.Find.{get, as_array, as_bool}
use Rattle.lakectl_shown.specs.declared.form.Form.{Form}
use Rattle.lakectl_shown.specs.declared.form.Form.TheVariants as form
use Rattle.lakectl_shown.specs.declared.layout.Layout.{Layout}
use Rattle.lakectl_shown.specs.declared.layout.Layout.TheVariants as layout
use Rattle.lakectl_shown.specs.declared.pages.Lines.{Lines}
use Rattle.lakectl_shown.specs.declared.pages.Lines.TheVariants.{Repositories, References, Commits, Objects}
use Rattle.lakectl_shown.specs.declared.showing.Shown.{Shown}
use Rattle.lakectl_shown.specs.ShownForms.{json_of, has_key, piece_bytes}
use Rattle.lakectl_shown.specs.FormTables.{keys_of, pieces_of}

-- ---- objects

-- the object has all keys of the form
abbrev pub is_of : Form → Data → Bool
is_of form value = list_all (has_key value) (keys_of form)

-- what is shown of it
abbrev pub text_as : Form → Data → List ℕ
text_as form value = flat_map (piece_bytes value) (pieces_of form)

-- the same, where it is of the form
abbrev pub shown_as : Form → Data → Option (List ℕ)
shown_as form value = if is_of form value then Some (text_as form value) else None

-- the same of a body
abbrev pub object_text : Form → (body : List ℕ) → Option (List ℕ)
object_text form body = option_and_then (shown_as form) (json_of body)

-- ---- lists

-- the line of an item of a list: objects and prefixes may stand in one list
abbrev pub line_of : Lines → Data → Option (List ℕ)
line_of Repositories value = shown_as form.RepositoryLine value
line_of References value = shown_as form.ReferenceLine value
line_of Commits value = shown_as form.CommitLines value
line_of Objects value = if is_of form.ObjectLine value then Some (text_as form.ObjectLine value) else shown_as form.PrefixLine value

-- the lines of all items, where each has one
abbrev pub lines_of : Lines → Items → Option (List ℕ)
lines_of lines no_items = Some []
lines_of lines (item value items) = option_and_then (λ line. option_map (λ rest. line ++ rest) (lines_of lines items)) (line_of lines value)

-- a key that is there and true
abbrev pub is_true_at : (name : List ℕ) → Data → Bool
is_true_at name value = unwrap_or (option_and_then as_bool (get name value)) false

-- the line behind a page: where more is left, the last name that is listed
abbrev pub more_of : (pagination : Data) → Option (List ℕ)
more_of pagination =
    if is_of form.Page pagination then Some (if is_true_at (codes "has_more") pagination then text_as form.Page pagination else []) else None

-- the items of a page, and the line behind them
abbrev pub page_of : Lines → Data → Option (List ℕ)
page_of lines page =
    option_and_then (λ more. option_map (λ rows. rows ++ more) (option_and_then (lines_of lines) (option_and_then as_array (get (codes "results") page))))
    (option_and_then more_of (get (codes "pagination") page))

-- the same of a body
abbrev pub page_text : Lines → (body : List ℕ) → Option (List ℕ)
page_text lines body = option_and_then (page_of lines) (json_of body)

-- ---- other bodies

-- a hex digit of lower case
abbrev pub is_hex : ℕ → Bool
is_hex byte = (nat_le 48 byte && nat_le byte 57) || (nat_le 97 byte && nat_le byte 102)

-- a commit's id as text
abbrev pub is_id : List ℕ → Bool
is_id body = (length body == 64) && list_all is_hex body

-- a branch that was made, with its commit's id
abbrev pub branch_text : (name body : List ℕ) → Option (List ℕ)
branch_text name body = if is_id body then Some (codes "Created branch '" ++ name ++ codes "' " ++ body ++ codes "\n") else None

-- nothing is shown of an empty body
abbrev pub nothing_of : List ℕ → Option (List ℕ)
nothing_of body = if length body == 0 then Some [] else None

-- ---- commands

-- the status that the command's route answers where all went well
abbrev pub due_status : Layout → ℕ
due_status layout.RepoCreate = 201
due_status layout.RepoList = 200
due_status (layout.BranchCreate name) = 201
due_status layout.BranchList = 200
due_status layout.BranchShow = 200
due_status layout.BranchDelete = 204
due_status layout.BranchReset = 204
due_status layout.BranchRevert = 201
due_status layout.TagCreate = 201
due_status layout.TagList = 200
due_status layout.TagShow = 200
due_status layout.TagDelete = 204
due_status layout.Commit = 201
due_status layout.Log = 200
due_status layout.Merge = 200
due_status layout.CherryPick = 201
due_status layout.FsLs = 200
due_status layout.FsStat = 200
due_status layout.FsCat = 200
due_status layout.FsUpload = 201
due_status layout.FsDownload = 200
due_status layout.FsRm = 204
due_status layout.FsStage = 201

-- what is shown of the body then, where it is of the command's form
abbrev pub out_of : Layout → (body : List ℕ) → Option (List ℕ)
out_of layout.RepoCreate body = object_text form.RepositoryMade body
out_of layout.RepoList body = page_text Repositories body
out_of (layout.BranchCreate name) body = branch_text name body
out_of layout.BranchList body = page_text References body
out_of layout.BranchShow body = object_text form.ReferenceLine body
out_of layout.BranchDelete body = nothing_of body
out_of layout.BranchReset body = nothing_of body
out_of layout.BranchRevert body = object_text form.CommitMade body
out_of layout.TagCreate body = object_text form.TagMade body
out_of layout.TagList body = page_text References body
out_of layout.TagShow body = object_text form.ReferenceLine body
out_of layout.TagDelete body = nothing_of body
out_of layout.Commit body = object_text form.CommitMade body
out_of layout.Log body = page_text Commits body
out_of layout.Merge body = object_text form.MergeMade body
out_of layout.CherryPick body = object_text form.CommitMade body
out_of layout.FsLs body = page_text Objects body
out_of layout.FsStat body = object_text form.ObjectLines body
out_of layout.FsCat body = Some body
out_of layout.FsUpload body = object_text form.ObjectMade body
out_of layout.FsDownload body = Some []
out_of layout.FsRm body = nothing_of body
out_of layout.FsStage body = object_text form.ObjectMade body

-- ---- replies

-- nothing is shown: it is no reply to the command
abbrev pub no_reply : Shown
no_reply = record { out = []; err = []; status = 8 }

-- the text is shown
abbrev pub shown_text : Option (List ℕ) → Shown
shown_text None = no_reply
shown_text (Some text) = record { out = text; err = []; status = 0 }

-- the status of the program after a refusal: want of memory has its own
abbrev pub fault_status : (status : ℕ) → ℕ
fault_status status = if status == 507 then 7 else 1

-- a refusal is shown with its message
abbrev pub fault_shown : (status : ℕ) → Option (List ℕ) → Shown
fault_shown status None = no_reply
fault_shown status (Some message) = record {
  out = [];
  err = codes "Error: " ++ message ++ codes " [" ++ decimal status ++ codes "]\n";
  status = fault_status status;
}

-- WHAT IS SHOWN OF A REPLY
abbrev pub shown_of : Layout → (status : ℕ) → (body : List ℕ) → Shown
shown_of layout status body =
    if nat_le 400 status then fault_shown status (object_text form.Fault body)
    else if status == due_status layout then shown_text (out_of layout body)
    else no_reply
