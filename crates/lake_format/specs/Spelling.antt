-- The one spelling of each value as bytes: the project's own formats, numbers with their high byte first.
use Rattle.std.specs.Prelude.{◌≡◌, ◌<◌, ◌≤◌, ◌-◌, ◌^◌, ℕ, false, true, List, [], ◌∷◌, ◌++◌, length, slice_get, slice_index, codes, option_map, None}
use Rattle.std.specs.Option.{unwrap_or}
use Rattle.std.specs.List.{flat_map, AllByRecursion}
use Rattle.std.specs.Int.{w16, w32, w64, to_be_bytes}
use Rattle.std.specs.Ordering.{is_gt}
use Rattle.std.specs.Str.{is_utf8}
use Rattle.std.specs.declared.cmp.Ordering.TheVariants.{Less}
use Rattle.hex.specs.Hex.{encode_lower}
use Rattle.lake_values.specs.Commit.{CommitRecordValue, IsCommit}
use Rattle.lake_base.specs.Digest.{sha256}
use Rattle.lake_values.specs.Entry.{EntryValue, IsOutside}
use Rattle.lake_base.specs.Maps.{byte_order, HasAscendingKeys}
use Rattle.lake_base.specs.Names.{path_fault}
use Rattle.lake_values.specs.Pairs.{ArePairs}
use Rattle.lake_base.specs.declared.digest.Digest.{Digest}
use Rattle.lake_values.specs.declared.entry.Place.{Place}
use Rattle.lake_values.specs.declared.entry.Place.TheVariants.{Own, External}
use Rattle.lake_format.specs.declared.range_line.RangeLine.{RangeLine}

-- two bytes of length, and that many bytes
abbrev pub short_text : List ℕ → List ℕ
short_text text = to_be_bytes w16 (length text) ++ text

-- 0, the number and the digest; or 1, the address and the checksum
abbrev pub place_spelling : Place → List ℕ
place_spelling (Own number digest) = 0 ∷ (to_be_bytes w64 number ++ digest.0)
place_spelling (External at checksum) = 1 ∷ (short_text at ++ short_text checksum)

-- how the address of an own object is printed: behind `lake://objects/`, its number as 16 lower-case hex digits
unfoldable pub own_address : ℕ → List ℕ
own_address number = codes "lake://objects/" ++ encode_lower (to_be_bytes w64 number)

-- a key and its value, each behind two bytes of length
abbrev pub pair_spelling : List ℕ × List ℕ → List ℕ
pair_spelling pair = short_text pair.0 ++ short_text pair.1

-- two bytes of count, and the pairs
abbrev pub pairs_spelling : List (List ℕ × List ℕ) → List ℕ
pairs_spelling pairs = to_be_bytes w16 (length pairs) ++ flat_map pair_spelling pairs

-- the place, the size, the time, the content type and the metadata
abbrev pub entry_spelling : EntryValue → List ℕ
entry_spelling e =
    place_spelling e.place ++ (to_be_bytes w64 e.size ++ (to_be_bytes w64 e.mtime ++ (short_text e.content_type ++ pairs_spelling e.metadata)))

-- a row of a range: its path, and its entry
abbrev pub row_spelling : List ℕ × EntryValue → List ℕ
row_spelling row = short_text row.0 ++ entry_spelling row.1

-- a range, version 1: the count in four bytes, and the rows
unfoldable pub range_spelling : List (List ℕ × EntryValue) → List ℕ
range_spelling rows = 1 ∷ (to_be_bytes w32 (length rows) ++ flat_map row_spelling rows)

-- the path of the row at a place
abbrev pub path_at : List (List ℕ × EntryValue) → ℕ → List ℕ
path_at rows at = unwrap_or (option_map (λ row. row.0) (slice_get rows at)) []

-- the SHA-256 of a file's bytes, by which it is known
abbrev pub file_name : List ℕ → Digest
file_name bytes = record { 0 = sha256 bytes }

-- what is said of a range of these rows: its file's name, its count of rows, its first path and its last
unfoldable pub line_of : List (List ℕ × EntryValue) → RangeLine
line_of rows = record { name = file_name (range_spelling rows); rows = length rows; first = path_at rows 0; last = path_at rows (length rows - 1) }

-- what is said of a range: its name, its count of rows in four bytes, its first path and its last
unfoldable pub line_spelling : RangeLine → List ℕ
line_spelling line = line.name.0 ++ (to_be_bytes w32 line.rows ++ (short_text line.first ++ short_text line.last))

-- a metarange, version 1: the count of ranges in four bytes, and what is said of each
unfoldable pub metarange_spelling : List RangeLine → List ℕ
metarange_spelling lines = 1 ∷ (to_be_bytes w32 (length lines) ++ flat_map line_spelling lines)

-- a text behind four bytes of length
abbrev pub long_text : List ℕ → List ℕ
long_text text = to_be_bytes w32 (length text) ++ text

-- a commit, version 1: the metarange's id, the generation, the date, the parents behind two bytes of count, the
-- committer, the message and the metadata
unfoldable pub commit_spelling : CommitRecordValue → List ℕ
commit_spelling c =
    1 ∷ (c.meta_range.0 ++ (to_be_bytes w64 c.generation ++ (to_be_bytes w64 c.date
    ++ (to_be_bytes w16 (length c.parents) ++ (flat_map (λ parent. parent.0) c.parents
    ++ (short_text c.committer ++ (long_text c.message ++ pairs_spelling c.metadata)))))))

-- a commit is known by the SHA-256 of its bytes
abbrev pub commit_id : CommitRecordValue → Digest
commit_id c = file_name (commit_spelling c)

-- each is below 256
abbrev pub AreBytes : List ℕ → Type 0
AreBytes bytes = (i : ℕ) → slice_index bytes i < 256

-- UTF-8 of a length within limits
pub record IsText (least most : ℕ) (text : List ℕ) : Type 0 where
  pub long : least ≤ length text
  pub short : length text ≤ most
  pub utf8 : is_utf8 text ≡ true

-- a digest of 32 bytes
pub record IsDigest (digest : List ℕ) : Type 0 where
  pub long : length digest ≡ 32
  pub bytes : AreBytes digest

-- a number of 64 bits and a digest of 32 bytes
pub record IsOwn (number : ℕ) (digest : List ℕ) : Type 0 where
  pub wide : number < 2 ^ 64
  pub sum : IsDigest digest

-- an address outside and its checksum, within their limits, both UTF-8
pub record IsSpelledOutside (at checksum : List ℕ) : Type 0 where
  pub limits : IsOutside at checksum
  pub address : is_utf8 at ≡ true
  pub sum : is_utf8 checksum ≡ true

-- a place within its limits, all of it UTF-8
abbrev pub IsSpelledPlace : Place → Type 0
IsSpelledPlace (Own number digest) = IsOwn number digest.0
IsSpelledPlace (External at checksum) = IsSpelledOutside at checksum

-- metadata within its limits, all of it UTF-8
pub record IsMetadata (pairs : List (List ℕ × List ℕ)) : Type 0 where
  pub limits : ArePairs pairs
  pub utf8 : AllByRecursion (λ pair. (is_utf8 pair.0 ≡ true) × (is_utf8 pair.1 ≡ true)) pairs

-- an entry within its limits
pub record IsEntry (e : EntryValue) : Type 0 where
  pub place : IsSpelledPlace e.place
  pub size : e.size < 2 ^ 64
  pub mtime : e.mtime < 2 ^ 64
  pub content_type : IsText 0 255 e.content_type
  pub metadata : IsMetadata e.metadata

-- a row within its limits
abbrev pub IsRow : List ℕ × EntryValue → Type 0
IsRow row = (path_fault row.0 ≡ None) × IsEntry row.1

-- the rows of a range within their limits: at least one, fewer than 2^32, paths strictly ascending
pub record IsRange (rows : List (List ℕ × EntryValue)) : Type 0 where
  pub some : 1 ≤ length rows
  pub few : length rows < 2 ^ 32
  pub ascend : HasAscendingKeys rows
  pub each : AllByRecursion IsRow rows

-- what is said of a range that has rows: at least one row, and a first path that is at most its last
pub record IsSpan (line : RangeLine) : Type 0 where
  pub some : 1 ≤ line.rows
  pub order : is_gt (byte_order line.first line.last) ≡ false

-- the path is below the first path of the first of these lines, where there is one
abbrev pub IsBelowNext : List ℕ → List RangeLine → Type 0
IsBelowNext path [] = Unit {0}
IsBelowNext path (line ∷ lines) = byte_order path line.first ≡ Less

-- each first path is above the last path of the line before
abbrev pub FollowOn : List RangeLine → Type 0
FollowOn [] = Unit {0}
FollowOn (line ∷ lines) = IsBelowNext line.last lines × FollowOn lines

-- what is said of ranges with rows, one after the other
pub record AreInOrder (lines : List RangeLine) : Type 0 where
  pub spans : AllByRecursion IsSpan lines
  pub follow : FollowOn lines

-- what is said of a range, within its limits: at least one row and fewer than 2^32, a first path that is at most
-- its last, both of them paths, and a name of 32 bytes
pub record IsLine (line : RangeLine) : Type 0 where
  pub span : IsSpan line
  pub name : IsDigest line.name.0
  pub wide : line.rows < 2 ^ 32
  pub first : path_fault line.first ≡ None
  pub last : path_fault line.last ≡ None

-- what is said of ranges, within its limits: fewer than 2^32, one after the other
pub record IsMetarange (lines : List RangeLine) : Type 0 where
  pub few : length lines < 2 ^ 32
  pub each : AllByRecursion IsLine lines
  pub follow : FollowOn lines

-- a commit within its limits, its texts UTF-8, and the ids that it names of 32 bytes
pub record IsSpelledCommit (c : CommitRecordValue) : Type 0 where
  pub commit : IsCommit c.generation c.parents c.committer c.message
  pub meta_range : IsDigest c.meta_range.0
  pub parents : AllByRecursion (λ parent. IsDigest parent.0) c.parents
  pub generation : c.generation < 2 ^ 64
  pub date : c.date < 2 ^ 64
  pub committer : is_utf8 c.committer ≡ true
  pub message : is_utf8 c.message ≡ true
  pub metadata : IsMetadata c.metadata
