-- After each change the maps and the settings of a lake can be read.
use Rattle.std.proofs.Common.{◌≡◌, ℕ, List, [], Option, Some, None, IfSome, arith, refl, sym, ap, subst, ◌∙◌}
use Rattle.std.specs.Prelude.{codes}
use Rattle.std.specs.List.{AllByRecursion}
use Rattle.std.specs.Option.{option_map_or}
use Rattle.std.specs.FinMap.{empty, entries, entries-from_sorted, get, len-empty}
use Rattle.lake_base.specs.Maps.{ByteMap, byte_order}
use Rattle.lake_base.proofs.MapsLemmas.{map_none}
use Rattle.lake_values.specs.Entry.{EntryValue}
use Rattle.lake_values.specs.NoteNames.{note_name}
use Rattle.lake_values.specs.declared.entry.Change.{Change}
use Rattle.lake_values.specs.declared.settings.Note.{Note}
use Rattle.lake_values.specs.declared.settings.Note.TheVariants as setting
use Rattle.lake_values.specs.declared.settings.NoteName.{NoteName}
use Rattle.lake_values.specs.declared.settings.NoteName.TheVariants as kind
use Rattle.lake_format.specs.Spelling.{IsRow}
use Rattle.lake_format.specs.declared.cut.Cut.{Cut}
use Rattle.meta_range.specs.Files.{FitsTree}
use Rattle.meta_range.specs.Ranges.{TreeValue}
use Rattle.byte_map.proofs.ByteMapLemmas.{get_empty}
use Rattle.lake_model.specs.NoteChanges.{note_at, notes_after}
use Rattle.lake_model.specs.Parts.{changed_at}
use Rattle.lake_model.specs.State.{Notes}
use Rattle.pair_trees.specs.SettingTexts.{IsTextOf}
use Rattle.core_state.specs.FirstStates.{first_id, first_tree, founded_repository, fresh_lake}
use Rattle.core_state.specs.NewCommits.{NewCommit, with_new_commit}
use Rattle.core_state.specs.RepositoryStates.{RepositoryStateValue}
use Rattle.core_state.specs.LakeStates.{LakeStateValue}
use Rattle.core_changes.specs.declared.branch.BranchChange.TheVariants as branch
use Rattle.core_changes.specs.BranchChanges.{branch_after}
use Rattle.core_changes.specs.LakeChanges.{after_new_head, after_note_set, after_repository_create, in_branch, with_entry, without_ticket}
use Rattle.core_changes.proofs.ChangedLemmas.{all_changed, all_inserted}
use Rattle.core_puts.specs.Puts.{note_text}
use Rattle.reading_again.specs.ReadableLakes.{HasReadableParts}

nothing : {X : Type 0} {x : X} → None ≡ Some x → ⊥
nothing e = cc

some_is : {X : Type 0} {x y : X} → Some x ≡ Some y → x ≡ y
some_is e = cc

-- ---- a repository

abbrev HasFits : RepositoryStateValue → Type 0
HasFits r = (id : List ℕ) (tree : TreeValue) → get r.trees id ≡ Some tree → FitsTree tree.map

abbrev HasNoteTexts : Notes → Type 0
HasNoteTexts notes = (which : NoteName) (note : Note) → note_at which notes ≡ Some note → IsTextOf which (note_text note) note

-- the maps and the settings of a repository can be read
record IsReadable (r : RepositoryStateValue) : Type 0 where
  fits : HasFits r
  texts : HasNoteTexts r.notes

-- the empty map
empty_fits : FitsTree empty
empty_fits =
    let none : entries {X = EntryValue} (empty {R = byte_order}) ≡ [] = ap entries (sym map_none) ∙ entries-from_sorted byte_order [] tt in
    record { each = subst (AllByRecursion IsRow) (sym none) tt; few = omega (arith, len-empty byte_order EntryValue) }

-- no settings
unset : (which : NoteName) (note : Note) → note_at which (record { retention = None; protection = None; hooks = None }) ≡ Some note → ⊥
unset kind.Retention note e = nothing e
unset kind.Protection note e = nothing e
unset kind.Hooks note e = nothing e

founded : (cut : Cut) (date : ℕ) (branch : List ℕ) (version token : ℕ) → IsReadable (founded_repository cut date branch version token)
founded cut date branch version token = record {
  fits = all_inserted (λ id (tree : TreeValue). FitsTree tree.map) empty (first_id cut date).0 (first_tree cut) (λ id tie. empty_fits)
      (λ id tree tie at. absurd (nothing (sym (get_empty id) ∙ at)));
  texts = λ which note at. absurd (unset which note at);
}

-- a new commit
committed : (branch : List ℕ) (new : NewCommit) (version : ℕ) → FitsTree new.tree.map → (r : RepositoryStateValue) → IsReadable r
    → IsReadable (with_new_commit version branch new r)
committed branch new version fits r is = record {
  fits = all_inserted (λ id (tree : TreeValue). FitsTree tree.map) r.trees new.id.0 new.tree (λ id tie. fits) (λ id tree tie at. is.fits id tree at);
  texts = is.texts;
}

-- ---- settings

module _ (notes : Notes) (texts : HasNoteTexts notes) where
  -- one is deleted
  deleted : (gone : NoteName) → HasNoteTexts (notes_after gone None notes)
  deleted kind.Retention kind.Retention note at = absurd (nothing at)
  deleted kind.Retention kind.Protection note at = texts kind.Protection note at
  deleted kind.Retention kind.Hooks note at = texts kind.Hooks note at
  deleted kind.Protection kind.Retention note at = texts kind.Retention note at
  deleted kind.Protection kind.Protection note at = absurd (nothing at)
  deleted kind.Protection kind.Hooks note at = texts kind.Hooks note at
  deleted kind.Hooks kind.Retention note at = texts kind.Retention note at
  deleted kind.Hooks kind.Protection note at = texts kind.Protection note at
  deleted kind.Hooks kind.Hooks note at = absurd (nothing at)

  -- one is set
  set : (which : NoteName) (new : Note) → IsTextOf (note_name new) (note_text new) new → HasNoteTexts (notes_after which (Some new) notes)
  set which (setting.Retention rules) text kind.Retention note at =
      subst (λ n. IsTextOf kind.Retention (note_text n) n) (some_is at) text
  set which (setting.Retention rules) text kind.Protection note at = texts kind.Protection note at
  set which (setting.Retention rules) text kind.Hooks note at = texts kind.Hooks note at
  set which (setting.Protection patterns) text kind.Retention note at = texts kind.Retention note at
  set which (setting.Protection patterns) text kind.Protection note at =
      subst (λ n. IsTextOf kind.Protection (note_text n) n) (some_is at) text
  set which (setting.Protection patterns) text kind.Hooks note at = texts kind.Hooks note at
  set which (setting.Hooks rules) text kind.Retention note at = texts kind.Retention note at
  set which (setting.Hooks rules) text kind.Protection note at = texts kind.Protection note at
  set which (setting.Hooks rules) text kind.Hooks note at = subst (λ n. IsTextOf kind.Hooks (note_text n) n) (some_is at) text

-- ---- lakes

abbrev AreReadable : LakeStateValue → Type 0
AreReadable l = (repo : List ℕ) (r : RepositoryStateValue) → get l.repositories repo ≡ Some r → IsReadable r

each_of : (l : LakeStateValue) → HasReadableParts l → AreReadable l
each_of l parts repo r at = record { fits = λ id tree there. parts.fits repo r id tree at there; texts = λ which note there. parts.texts repo r which note at there }

of_each : (l : LakeStateValue) → AreReadable l → HasReadableParts l
of_each l each = record {
  fits = λ repo r id tree at there. (each repo r at).fits id tree there;
  texts = λ repo r which note at there. (each repo r at).texts which note there;
}

-- the same repositories
pub same_parts : (l m : LakeStateValue) → m.repositories ≡ l.repositories → HasReadableParts l → HasReadableParts m
same_parts l m is parts =
    of_each m (λ repo r at. each_of l parts repo r (subst (λ (all : ByteMap RepositoryStateValue). get all repo ≡ Some r) is at))

changed_parts : (l m : LakeStateValue) (q : List ℕ) (change : RepositoryStateValue → RepositoryStateValue)
    → m.repositories ≡ changed_at q change l.repositories → ((r : RepositoryStateValue) → IsReadable r → IsReadable (change r)) → HasReadableParts l
    → HasReadableParts m
changed_parts l m q change is then parts =
    of_each m (λ repo r at.
    all_changed (λ repo r. IsReadable r) l.repositories q change (λ repo r tie there. then r (each_of l parts repo r there))
    (λ repo r tie there. each_of l parts repo r there) repo r
    (subst (λ (all : ByteMap RepositoryStateValue). get all repo ≡ Some r) is at))

-- neither trees nor settings are changed
pub others_parts : (l m : LakeStateValue) (q : List ℕ) (change : RepositoryStateValue → RepositoryStateValue)
    → m.repositories ≡ changed_at q change l.repositories → ((r : RepositoryStateValue) → (change r).trees ≡ r.trees)
    → ((r : RepositoryStateValue) → (change r).notes ≡ r.notes) → HasReadableParts l → HasReadableParts m
others_parts l m q change is trees notes parts =
    changed_parts l m q change is
    (λ r readable. record {
      fits = λ id tree at. readable.fits id tree (subst (λ (all : ByteMap TreeValue). get all id ≡ Some tree) (trees r) at);
      texts = subst HasNoteTexts (sym (notes r)) readable.texts;
    }) parts

-- a change is staged, and a ticket goes, or none
pub stage_parts : (l : LakeStateValue) (q name path : List ℕ) (change : Change) (o : Option ℕ) → HasReadableParts l
    → HasReadableParts (with_entry (in_branch q name (branch_after (branch.Stage path change)) (option_map_or (λ number. without_ticket number l) o l)))
stage_parts l q name path change None =
    others_parts l (with_entry (in_branch q name (branch_after (branch.Stage path change)) l)) q
    (λ r. record r { branches = changed_at name (branch_after (branch.Stage path change)) r.branches }) refl (λ r. refl) (λ r. refl)
stage_parts l q name path change (Some number) =
    others_parts l (with_entry (in_branch q name (branch_after (branch.Stage path change)) (without_ticket number l))) q
    (λ r. record r { branches = changed_at name (branch_after (branch.Stage path change)) r.branches }) refl (λ r. refl) (λ r. refl)

pub head_parts : (l : LakeStateValue) (q branch : List ℕ) (new : NewCommit) → FitsTree new.tree.map → HasReadableParts l
    → HasReadableParts (after_new_head q branch new l)
head_parts l q branch new fits parts =
    changed_parts l (after_new_head q branch new l) q (with_new_commit l.next_version branch new) refl (committed branch new l.next_version fits) parts

pub note_parts : (l : LakeStateValue) (q : List ℕ) (which : NoteName) (note : Option Note) → IfSome note (λ n. IsTextOf (note_name n) (note_text n) n)
    → HasReadableParts l → HasReadableParts (after_note_set q which note l)
note_parts l q which note text parts =
    changed_parts l (after_note_set q which note l) q (λ r. record r { settings = l.next_version; notes = notes_after which note r.notes }) refl
    (λ r readable. record { fits = readable.fits; texts = by note text r.notes readable.texts }) parts
  where
    by : (note : Option Note) → IfSome note (λ n. IsTextOf (note_name n) (note_text n) n) → (notes : Notes) → HasNoteTexts notes
        → HasNoteTexts (notes_after which note notes)
    by None text notes texts = deleted notes texts which
    by (Some new) text notes texts = set notes texts which new text

pub found_parts : (l : LakeStateValue) (q branch : List ℕ) (date : ℕ) → HasReadableParts l → HasReadableParts (after_repository_create q branch date l)
found_parts l q branch date parts =
    of_each (after_repository_create q branch date l)
    (all_inserted (λ repo r. IsReadable r) l.repositories q (founded_repository l.cut date branch l.next_version l.next_token)
    (λ repo tie. founded l.cut date branch l.next_version l.next_token) (λ repo r tie there. each_of l parts repo r there))

-- the fresh lake
pub fresh_parts : (cut : Cut) → HasReadableParts (fresh_lake cut)
fresh_parts cut =
    of_each (fresh_lake cut)
    (all_inserted (λ repo r. IsReadable r) empty (codes "quickstart") (founded_repository cut 0 (codes "main") 1 0)
    (λ repo tie. founded cut 0 (codes "main") 1 0) (λ repo r tie there. absurd (nothing (sym (get_empty repo) ∙ there))))
