-- What each call that reads is answered in a state.
use Rattle.std.specs.Prelude.{ℕ, Bool, true, false, List, map, Option, Some, None, Result, Ok, Err}
use Rattle.std.specs.Option.{option_map_or}
use Rattle.lake_base.specs.declared.digest.Digest.{Digest}
use Rattle.lake_values.specs.Ancestry.{commit_of}
use Rattle.lake_values.specs.Commit.{CommitRecordValue}
use Rattle.lake_values.specs.Entry.{EntryValue}
use Rattle.lake_model.specs.declared.fault.Reference.TheVariants as reference
use Rattle.lake_model.specs.declared.fault.StepFault.{StepFault}
use Rattle.lake_model.specs.declared.fault.StepFault.TheVariants.{NoRef, NoPath, NoNote}
use Rattle.lake_model.specs.declared.reply.Seen.{Seen}
use Rattle.lake_model.specs.State.{State}
use Rattle.lake_model.specs.Readings.{find_reply, log_reply, look_reply, names_above, page_reply, repositories_reply, first_values, ◌then◌}
use Rattle.lake_model.specs.Resolving.{in_repository_of}
use Rattle.lake_calls.specs.declared.call.Call.{Call}
use Rattle.lake_calls.specs.declared.call.Call.TheVariants.{Names, Objects, Heads, Settings}
use Rattle.lake_calls.specs.declared.call.SettingCall.{SettingCall}
use Rattle.lake_calls.specs.declared.call.SettingCall.TheVariants.{GetProtection, GetHooks}
use Rattle.lake_calls.specs.declared.heads.HeadCall.{HeadCall}
use Rattle.lake_calls.specs.declared.heads.HeadCall.TheVariants as head
use Rattle.lake_calls.specs.declared.heads.LogCall.{LogCall}
use Rattle.lake_calls.specs.declared.names.NameCall.{NameCall}
use Rattle.lake_calls.specs.declared.names.NamesCall.{NamesCall}
use Rattle.lake_calls.specs.declared.names.NamingCall.{NamingCall}
use Rattle.lake_calls.specs.declared.names.NamingCall.TheVariants as naming
use Rattle.lake_calls.specs.declared.objects.ListCall.{ListCall}
use Rattle.lake_calls.specs.declared.objects.ObjectCall.{ObjectCall}
use Rattle.lake_calls.specs.declared.objects.ObjectCall.TheVariants as object
use Rattle.lake_calls.specs.declared.objects.ReadCall.{ReadCall}
use Rattle.lake_calls.specs.declared.reply.Done.{Done}
use Rattle.lake_calls.specs.declared.reply.Done.TheVariants as done
use Rattle.lake_calls.specs.declared.reply.KnownCommit.{KnownCommit}
use Rattle.lake_calls.specs.declared.reply.NamedCommit.{NamedCommit}

-- ---- objects

-- the entry that was found
abbrev pub found_entry : Seen → Result EntryValue StepFault
found_entry seen = option_map_or Ok seen.found (Err NoPath)

-- what is known of the object at a path
abbrev pub stat_reading : ReadCall → State → Result Done StepFault
stat_reading c state = look_reply state c.repo c.at.e c.path then λ seen. found_entry seen then λ entry.
    Ok (done.Statistics (record { path = c.path; entry = entry }))

-- a page of what an expression leads to
abbrev pub list_objects : ListCall → State → Result Done StepFault
list_objects c state = page_reply state c.repo c.at.e c.query then λ page.
    Ok (done.Listing (record { items = page.items; has_more = page.more }))

-- ---- repositories, branches and tags

abbrev pub list_repositories : (after : List ℕ) (amount : ℕ) → State → Result Done StepFault
list_repositories after amount state = repositories_reply state after amount then λ list.
    Ok (done.Repositories list.values list.more)

-- a name, and the commit that it leads to
abbrev pub named_commit : List ℕ × Digest → NamedCommit
named_commit one = record { name = one.0; commit = one.1 }

-- the branches of a repository, or its tags, above some bytes: at most so many, and whether one is left
abbrev pub list_names : Bool → (List NamedCommit → Bool → Done) → NamesCall → State → Result Done StepFault
list_names tags told c state = in_repository_of state c.repo (λ r.
    let list = first_values state c.amount (names_above r tags c.after) in
    Ok (told (map named_commit list.values) list.more))

abbrev pub list_branches : NamesCall → State → Result Done StepFault
list_branches = list_names false done.Branches

abbrev pub list_tags : NamesCall → State → Result Done StepFault
list_tags = list_names true done.Tags

abbrev pub find_branch : NameCall → State → Result Done StepFault
find_branch c state = find_reply state c.repo false c.name then λ found.
    Ok (done.Branch (record { name = c.name; commit = found.1 }))

abbrev pub find_tag : NameCall → State → Result Done StepFault
find_tag c state = find_reply state c.repo true c.name then λ found.
    Ok (done.Tag (record { name = c.name; commit = found.1 }))

-- ---- commits

-- an id, and the commit that it stands for
abbrev pub known_commit : Digest × CommitRecordValue → KnownCommit
known_commit one = record { id = one.0; «record» = one.1 }

abbrev pub log_reading : LogCall → State → Result Done StepFault
log_reading c state = log_reply state c.repo c.at.e c.after c.since c.amount then λ log.
    Ok (done.Log (map known_commit log.commits) log.more)

-- the commit of an id
abbrev pub commit_reading : (repo : List ℕ) → Digest → State → Result Done StepFault
commit_reading repo id state = in_repository_of state repo (λ r.
    option_map_or (λ commit. Ok (done.Commit (known_commit (id, commit)))) (commit_of r.commits id) (Err (NoRef reference.Expression)))

-- ---- settings

abbrev pub protection_reading : (repo : List ℕ) → State → Result Done StepFault
protection_reading repo state = in_repository_of state repo (λ r.
    option_map_or (λ protection. Ok (done.Protection protection)) r.notes.protection (Err NoNote))

abbrev pub hooks_reading : (repo : List ℕ) → State → Result Done StepFault
hooks_reading repo state = in_repository_of state repo (λ r. option_map_or (λ hooks. Ok (done.Hooks hooks)) r.notes.hooks (Err NoNote))

-- ---- every call

abbrev pub naming_reading : NamingCall → State → Option (Result Done StepFault)
naming_reading (naming.ListRepositories after amount) state = Some (list_repositories after amount state)
naming_reading (naming.ListBranches c) state = Some (list_branches c state)
naming_reading (naming.ListTags c) state = Some (list_tags c state)
naming_reading (naming.GetBranch c) state = Some (find_branch c state)
naming_reading (naming.GetTag c) state = Some (find_tag c state)
naming_reading call state = None

abbrev pub object_reading : ObjectCall → State → Option (Result Done StepFault)
object_reading (object.Stat c) state = Some (stat_reading c state)
object_reading (object.List c) state = Some (list_objects c state)
object_reading call state = None

abbrev pub head_reading : HeadCall → State → Option (Result Done StepFault)
head_reading (head.Log c) state = Some (log_reading c state)
head_reading (head.GetCommit repo id) state = Some (commit_reading repo id state)
head_reading call state = None

abbrev pub setting_reading : SettingCall → State → Option (Result Done StepFault)
setting_reading (GetProtection repo) state = Some (protection_reading repo state)
setting_reading (GetHooks repo) state = Some (hooks_reading repo state)
setting_reading call state = None

-- WHAT A READING ANSWERS A CALL in a state; no other call is answered by a reading
abbrev pub reading_of : Call → State → Option (Result Done StepFault)
reading_of (Names call) state = naming_reading call state
reading_of (Objects call) state = object_reading call state
reading_of (Heads call) state = head_reading call state
reading_of (Settings call) state = setting_reading call state
