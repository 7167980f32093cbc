-- What stands in the key of a pair, and its first byte.
use Rattle.std.specs.Prelude.{◌==◌, ℕ, Option, Some, None, if◌then◌else◌}
use Rattle.pair_format.specs.declared.kind.Kind.{Kind}
use Rattle.pair_format.specs.declared.kind.Kind.TheVariants as kind
use Rattle.pair_format.specs.declared.key.StoredKey.{StoredKey}
use Rattle.pair_format.specs.declared.key.StoredKey.TheVariants as stored
use Rattle.pair_format.specs.declared.key.OwnedKey.{OwnedKey}
use Rattle.pair_format.specs.declared.key.OwnedKey.TheVariants.{Repository, Branch, Tag, Commit, MetaRange, Range, Staged, Note, Gone, Counts}
use Rattle.lake_values.specs.declared.settings.NoteName.{NoteName}
use Rattle.lake_values.specs.declared.settings.NoteName.TheVariants.{Retention, Protection, Hooks}

-- a key as contracts see it, its names no longer borrowed
abbrev pub key_value : StoredKey → OwnedKey
key_value (stored.Repository repo) = Repository repo.now
key_value (stored.Branch repo branch) = Branch repo.now branch.now
key_value (stored.Tag repo tag) = Tag repo.now tag.now
key_value (stored.Commit repo id) = Commit repo.now id
key_value (stored.MetaRange name) = MetaRange name
key_value (stored.Range name) = Range name
key_value (stored.Staged token path) = Staged token path.now
key_value (stored.Note repo name) = Note repo.now name
key_value (stored.Gone number) = Gone number
key_value stored.Counts = Counts

-- the kind of which this is the first byte: R, B, T, C, M, G, S, N, X or Z
abbrev pub kind_of : ℕ → Option Kind
kind_of letter =
    if letter == 82 then Some kind.Repository
    else if letter == 66 then Some kind.Branch
    else if letter == 84 then Some kind.Tag
    else if letter == 67 then Some kind.Commit
    else if letter == 77 then Some kind.MetaRange
    else if letter == 71 then Some kind.Range
    else if letter == 83 then Some kind.Staged
    else if letter == 78 then Some kind.Note
    else if letter == 88 then Some kind.Gone
    else if letter == 90 then Some kind.Counts
    else None

-- the byte of a setting's name
abbrev pub note_number : NoteName → ℕ
note_number Retention = 1
note_number Protection = 2
note_number Hooks = 3

-- the setting whose name has this byte
abbrev pub note_of : ℕ → Option NoteName
note_of number =
    if number == 1 then Some Retention
    else if number == 2 then Some Protection
    else if number == 3 then Some Hooks
    else None
