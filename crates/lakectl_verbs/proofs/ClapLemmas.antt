-- What `clap` says of the table's commands.
use Rattle.std.proofs.Common.{◌≡◌, ◌⊎◌, ℕ, Bool, true, false, List, [], ◌∷◌, map, length, ◌==◌}
use Rattle.std.proofs.Common.{Option, Some, None, refl, sym, ap, subst, ◌∙◌, inl, inr, Bor, arith}
use Rattle.std.proofs.lemmas.Bool.Decides.{nat_tests}
use Rattle.clap.specs.Words.{App, Row, first_value, first_of, found_of, rows_of, fault_of, is_simple}
use Rattle.clap.specs.Words.{is_simple_and_free, HasMatchesOf, FailsBy, HasKind, Kinds, kind_of, IsAmong, matches_of}
use Rattle.clap.proofs.WalkLemmas.{first_value-rows}
use Rattle.clap.specs.declared.parser.matches.ArgMatches.{ArgMatches}
use Rattle.clap.specs.declared.error.Error.{Error}
use Rattle.clap.specs.declared.error.kind.ErrorKind.{ErrorKind}
use Rattle.clap.specs.declared.error.kind.ErrorKind.TheVariants.{OutOfMemory}
use Rattle.lakectl_verbs.specs.declared.verb.Verb.{Verb}
use Rattle.lakectl_verbs.specs.declared.verb.Verb.TheVariants as verb
use Rattle.lakectl_verbs.specs.declared.fault.UsageFault.{UsageFault}
use Rattle.lakectl_verbs.specs.declared.fault.UsageFault.TheVariants.{NoMemory, Words}
use Rattle.lakectl_verbs.specs.VerbCommands.{command_for, is_taken, value_given}

-- each command of the table is one of those whose parses `clap` defines
pub is_defined : (v : Verb) → is_simple_and_free (command_for v) ≡ true
is_defined verb.RepoCreate = refl
is_defined verb.RepoList = refl
is_defined verb.BranchCreate = refl
is_defined verb.BranchList = refl
is_defined verb.BranchShow = refl
is_defined verb.BranchDelete = refl
is_defined verb.BranchReset = refl
is_defined verb.BranchRevert = refl
is_defined verb.TagCreate = refl
is_defined verb.TagList = refl
is_defined verb.TagShow = refl
is_defined verb.TagDelete = refl
is_defined verb.Commit = refl
is_defined verb.Log = refl
is_defined verb.Merge = refl
is_defined verb.CherryPick = refl
is_defined verb.FsLs = refl
is_defined verb.FsStat = refl
is_defined verb.FsCat = refl
is_defined verb.FsUpload = refl
is_defined verb.FsDownload = refl
is_defined verb.FsRm = refl
is_defined verb.FsStage = refl

pub is_plain : (v : Verb) → is_simple (command_for v) ≡ true
is_plain verb.RepoCreate = refl
is_plain verb.RepoList = refl
is_plain verb.BranchCreate = refl
is_plain verb.BranchList = refl
is_plain verb.BranchShow = refl
is_plain verb.BranchDelete = refl
is_plain verb.BranchReset = refl
is_plain verb.BranchRevert = refl
is_plain verb.TagCreate = refl
is_plain verb.TagList = refl
is_plain verb.TagShow = refl
is_plain verb.TagDelete = refl
is_plain verb.Commit = refl
is_plain verb.Log = refl
is_plain verb.Merge = refl
is_plain verb.CherryPick = refl
is_plain verb.FsLs = refl
is_plain verb.FsStat = refl
is_plain verb.FsCat = refl
is_plain verb.FsUpload = refl
is_plain verb.FsDownload = refl
is_plain verb.FsRm = refl
is_plain verb.FsStage = refl

-- a parse that succeeds: the words are taken, and these are the values
pub taken : (v : Verb) (words : List (List ℕ)) (app : App) (m : ArgMatches) → app ≡ command_for v
    → HasMatchesOf app words m → fault_of app words ≡ []
    → (is_taken v words ≡ true) × ((name : List ℕ) → first_value (found_of m) name ≡ value_given v words name)
taken v words app m same found none = (
  ap (λ (kinds : Kinds). length kinds == 0) (ap (λ (a : App). fault_of a words) (sym same) ∙ none),
  λ name. first_value-rows (found_of m) name
      ∙ ap (first_of name) ((found (ap is_simple same ∙ is_plain v)).0 ∙ ap (λ (a : App). matches_of a words) same),
)

not_none : (kinds : Kinds) (kind : ErrorKind) → IsAmong kind kinds → (length kinds == 0) ≡ false
not_none [] kind among = absurd among
not_none (k ∷ kinds) kind among = grind (arith, nat_tests)

-- a parse that fails: memory ran out, or the words aren't taken
pub refused : (v : Verb) (words : List (List ℕ)) (app : App) (e : Error) (fault : UsageFault) → app ≡ command_for v
    → HasKind (fault_of app words) e → (kind_of e ≡ OutOfMemory → fault ≡ NoMemory) → ((fault ≡ NoMemory) ⊎ (fault ≡ Words))
    → (fault ≡ NoMemory) ⊎ ((fault ≡ Words) × (is_taken v words ≡ false))
refused v words app e fault same (inl memory) is other = inl (is memory)
refused v words app e fault same (inr among) is (inl memory) = inl memory
refused v words app e fault same (inr among) is (inr bad) = inr (
  bad,
  ap (λ (a : App). length (fault_of a words) == 0) (sym same) ∙ not_none (fault_of app words) (kind_of e) among,
)
