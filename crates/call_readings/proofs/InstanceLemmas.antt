-- Each call that reads, with the reading that answers it.
use Rattle.std.proofs.Common.{ℕ, Bool, true, false, List, [], None, Result, Ok, Err, refl, ap, subst, ◌∙◌}
use Rattle.std.specs.Prelude.{map}
use Rattle.std.specs.FinMap.{get}
use Rattle.std.specs.Option.{option_map_or}
use Rattle.lake_base.specs.declared.digest.Digest.{Digest}
use Rattle.lake_format.specs.Spelling.{IsDigest}
use Rattle.lake_values.specs.Ancestry.{commit_of}
use Rattle.lake_values.specs.declared.settings.NoteName.TheVariants as name
use Rattle.lake_values.specs.declared.settings.Note.TheVariants as note
use Rattle.lake_model.specs.declared.fault.Reference.TheVariants as reference
use Rattle.lake_model.specs.declared.fault.StepFault.{StepFault}
use Rattle.lake_model.specs.declared.fault.StepFault.TheVariants as step
use Rattle.lake_model.specs.State.{Repository, State}
use Rattle.lake_model.specs.Readings.{LogReply, NoteReply, ListReply, expression_map, find_reply, first_values, known_commit, log_reply, look_reply, name_in}
use Rattle.lake_model.specs.Readings.{names_above, names_reply, note_reply, ◌then◌}
use Rattle.lake_model.specs.Refusals.{Gives}
use Rattle.lake_model.specs.Resolving.{by_id, expression_target}
use Rattle.lake_model.specs.Soundness.{IsSound}
use Rattle.lake_model.specs.Versions.{VersionsGiven, settings_version}
use Rattle.lake_calls.specs.CallReadings as reading
use Rattle.lake_calls.specs.declared.call.Call.TheVariants.{Names, Objects, Heads, Settings}
use Rattle.lake_calls.specs.declared.call.SettingCall.TheVariants.{GetProtection, GetHooks}
use Rattle.lake_calls.specs.declared.heads.HeadCall.TheVariants as head
use Rattle.lake_calls.specs.declared.heads.LogCall.{LogCall}
use Rattle.lake_calls.specs.declared.names.NameCall.{NameCall}
use Rattle.lake_calls.specs.declared.names.NamesCall.{NamesCall}
use Rattle.lake_calls.specs.declared.names.NamingCall.TheVariants as naming
use Rattle.lake_calls.specs.declared.objects.ListCall.{ListCall}
use Rattle.lake_calls.specs.declared.objects.ObjectCall.TheVariants as object
use Rattle.lake_calls.specs.declared.objects.ReadCall.{ReadCall}
use Rattle.lake_calls.specs.declared.reply.Done.{Done}
use Rattle.lake_calls.specs.declared.reply.NamedCommit.{NamedCommit}
use Rattle.call_readings.specs.StepOutcomes.{first_commit, hooks_in, protection_in}
use Rattle.call_readings.proofs.IdLogLemmas.{commit_by_log}
use Rattle.call_readings.proofs.OutcomeLemmas.{gives_then, in_then, note_then}
use Rattle.call_readings.proofs.ToldLemmas.{Reads, TellsFault, tells_in, tells_known, tells_map, tells_some, tells_target, tells_then}

-- ---- repositories, branches and tags

pub reads_repositories : (after : List ℕ) (amount : ℕ) → Reads (Names (naming.ListRepositories after amount)) (reading.list_repositories after amount)
reads_repositories after amount = record { course = λ m. refl; says = λ s. refl; done = λ m met s told is. is; tells = λ s. tt }

pub reads_branches : (c : NamesCall) → Reads (Names (naming.ListBranches c)) (reading.list_branches c)
reads_branches c = record {
  course = λ m. refl;
  says = λ s. refl;
  done = λ m met s told is. is;
  tells = λ s. tells_in {X = Done} s c.repo _ (λ r. tt);
}

pub reads_tags : (c : NamesCall) → Reads (Names (naming.ListTags c)) (reading.list_tags c)
reads_tags c = record {
  course = λ m. refl;
  says = λ s. refl;
  done = λ m met s told is. is;
  tells = λ s. tells_in {X = Done} s c.repo _ (λ r. tt);
}

tells_found : (s : State) (repo : List ℕ) (tags : Bool) (name : List ℕ) → TellsFault (find_reply s repo tags name)
tells_found s repo tags name = tells_in s repo _ (λ r. tells_some _ (name_in r tags name) (step.NoRef reference.Named) tt (λ id. tt))

pub reads_branch : (c : NameCall) → Reads (Names (naming.GetBranch c)) (reading.find_branch c)
reads_branch c = record {
  course = λ m. refl;
  says = λ s. refl;
  done = λ m met s told is. is;
  tells = λ s. tells_then (find_reply s c.repo false c.name) _ (tells_found s c.repo false c.name) (λ x. tt);
}

pub reads_tag : (c : NameCall) → Reads (Names (naming.GetTag c)) (reading.find_tag c)
reads_tag c = record {
  course = λ m. refl;
  says = λ s. refl;
  done = λ m met s told is. is;
  tells = λ s. tells_then (find_reply s c.repo true c.name) _ (tells_found s c.repo true c.name) (λ x. tt);
}

-- what a list of names told
pub gives_names : (tags : Bool) (telling : List NamedCommit → Bool → Done) (c : NamesCall) (s : State) (answer : Result (ListReply (List ℕ × Digest)) StepFault)
    (out : Result Done StepFault) → Gives answer (names_reply s c.repo tags c.after c.amount)
    → Gives out (answer then λ list. Ok (telling (map reading.named_commit list.values) list.more)) → Gives out (reading.list_names tags telling c s)
gives_names tags telling c s answer out is so =
    subst (Gives out)
    (in_then s c.repo (λ r. Ok (first_values s c.amount (names_above r tags c.after)))
    (λ (list : ListReply (List ℕ × Digest)). Ok (telling (map reading.named_commit list.values) list.more)))
    (gives_then answer (names_reply s c.repo tags c.after c.amount) (λ list. Ok (telling (map reading.named_commit list.values) list.more)) out is so)

-- ---- objects

tells_look : (s : State) (c : ReadCall) → TellsFault (look_reply s c.repo c.at.e c.path)
tells_look s c = tells_in s c.repo _ (λ r. tells_then (expression_map r c.at.e) _ (tells_map r c.at.e) (λ map. tt))

pub reads_stat : (c : ReadCall) → Reads (Objects (object.Stat c)) (reading.stat_reading c)
reads_stat c = record {
  course = λ m. refl;
  says = λ s. refl;
  done = λ m met s told is. is;
  tells = λ s. tells_then (look_reply s c.repo c.at.e c.path) _ (tells_look s c)
      (λ seen. tells_then (reading.found_entry seen) _ (tells_some Ok seen.found step.NoPath tt (λ entry. tt)) (λ entry. tt));
}

pub reads_page : (c : ListCall) → Reads (Objects (object.List c)) (reading.list_objects c)
reads_page c = record {
  course = λ m. refl;
  says = λ s. refl;
  done = λ m met s told is. is;
  tells = λ s. tells_then _ _ (tells_in s c.repo _ (λ r. tells_then (expression_map r c.at.e) _ (tells_map r c.at.e) (λ map. tt))) (λ page. tt);
}

-- ---- commits

pub reads_log : (c : LogCall) → Reads (Heads (head.Log c)) (reading.log_reading c)
reads_log c = record {
  course = λ m. refl;
  says = λ s. refl;
  done = λ m met s told is. is;
  tells = λ s. tells_then _ _
      (tells_in s c.repo _ (λ r. tells_then (expression_target r (record c.at.e { moves = [] })) _ (tells_target r (record c.at.e { moves = [] }))
      (λ name. tells_then (known_commit r c.after) _ (tells_known r c.after)
      (λ other. tells_then (expression_target r c.at.e) _ (tells_target r c.at.e) (λ id. tt)))))
      (λ log. tt);
}

pub reads_commit : (repo : List ℕ) (id : Digest) → Reads (Heads (head.GetCommit repo id)) (reading.commit_reading repo id)
reads_commit repo id = record {
  course = λ m. refl;
  says = λ s. refl;
  done = λ m met s told is. is;
  tells = λ s. tells_in s repo _ (λ r. tells_some _ (commit_of r.commits id) (step.NoRef reference.Expression) tt (λ commit. tt));
}

-- what the log of a commit's id told
pub gives_commit : (repo : List ℕ) (id : Digest) → IsDigest id.0 → (s : State) → IsSound s → (answer : Result LogReply StepFault) (out : Result Done StepFault)
    → Gives answer (log_reply s repo (by_id id false) None None 1) → Gives out (answer then λ log. first_commit log.commits)
    → Gives out (reading.commit_reading repo id s)
gives_commit repo id digest s sound answer out is so =
    subst (Gives out) (commit_by_log s repo id digest sound)
    (gives_then answer (log_reply s repo (by_id id false) None None 1) (λ log. first_commit log.commits) out is so)

-- ---- settings

pub reads_protection : (repo : List ℕ) → Reads (Settings (GetProtection repo)) (reading.protection_reading repo)
reads_protection repo = record {
  course = λ m. refl;
  says = λ s. refl;
  done = λ m met s told is. is;
  tells = λ s. tells_in s repo _ (λ r. tells_some _ r.notes.protection step.NoNote tt (λ protection. tt));
}

pub reads_hooks : (repo : List ℕ) → Reads (Settings (GetHooks repo)) (reading.hooks_reading repo)
reads_hooks repo = record {
  course = λ m. refl;
  says = λ s. refl;
  done = λ m met s told is. is;
  tells = λ s. tells_in s repo _ (λ r. tells_some _ r.notes.hooks step.NoNote tt (λ hooks. tt));
}

-- what a setting told
pub gives_protection : (repo : List ℕ) (s : State) (given : VersionsGiven) (answer : Result NoteReply StepFault) (out : Result Done StepFault)
    → Gives answer (note_reply s given repo name.Protection) → Gives out (answer then λ reply. protection_in reply.note)
    → Gives out (reading.protection_reading repo s)
gives_protection repo s given answer out is so =
    subst (Gives out)
    (in_then s repo _ (λ (reply : NoteReply). protection_in reply.note)
    ∙ ap (λ f. option_map_or f (get s.repositories repo) (Err step.NoRepo))
    (λ i (r : Repository). note_then note.Protection r.notes.protection s.entries (settings_version given repo) protection_in i))
    (gives_then answer (note_reply s given repo name.Protection) (λ reply. protection_in reply.note) out is so)

pub gives_hooks : (repo : List ℕ) (s : State) (given : VersionsGiven) (answer : Result NoteReply StepFault) (out : Result Done StepFault)
    → Gives answer (note_reply s given repo name.Hooks) → Gives out (answer then λ reply. hooks_in reply.note)
    → Gives out (reading.hooks_reading repo s)
gives_hooks repo s given answer out is so =
    subst (Gives out)
    (in_then s repo _ (λ (reply : NoteReply). hooks_in reply.note)
    ∙ ap (λ f. option_map_or f (get s.repositories repo) (Err step.NoRepo))
    (λ i (r : Repository). note_then note.Hooks r.notes.hooks s.entries (settings_version given repo) hooks_in i))
    (gives_then answer (note_reply s given repo name.Hooks) (λ reply. hooks_in reply.note) out is so)
