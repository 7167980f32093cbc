-- Reading values from bytes, from the left, with the first fault that is met and its place.
use Rattle.std.specs.Prelude.{◌≡◌, ◌-◌, ◌||◌, ℕ, zero, suc, Bool, true, List, [], ◌∷◌, length, take, drop, Option, Some, None, option_map, slice_get, Result}
use Rattle.std.specs.Prelude.{Ok, Err, nat_eq, nat_lt, codes, if◌then◌else◌}
use Rattle.std.specs.Int.{Width, w16, w32, w64, byte_len, from_be_bytes}
use Rattle.std.specs.List.{starts_with}
use Rattle.std.specs.Ordering.{is_lt}
use Rattle.std.specs.Str.{is_utf8}
use Rattle.lake_values.specs.Entry.{EntryValue}
use Rattle.lake_base.specs.Maps.{byte_order}
use Rattle.lake_values.specs.declared.entry.Place.{Place}
use Rattle.lake_values.specs.declared.entry.Place.TheVariants.{Own, External}
use Rattle.lake_format.specs.declared.fields.EntryFault.{EntryFault}
use Rattle.lake_format.specs.declared.fields.EntryFault.TheVariants.{Short as EntryShort, Bad as EntryBad, NoMemory as EntryNoMemory}
use Rattle.lake_format.specs.declared.fields.FieldFault.{FieldFault}
use Rattle.lake_format.specs.declared.fields.FieldFault.TheVariants.{Short, Bad, NoMemory}

-- a field, and then what follows it; the first fault ends the reading
infixl 10 ◌>>=◌
abbrev pub ◌>>=◌ : {A B : Type 0} → Result A FieldFault → (A → Result B FieldFault) → Result B FieldFault
(Ok x) >>= f = f x
(Err e) >>= f = Err e

-- reading meets the fault that a reader answered, unless memory ran out
abbrev pub Fails : {Y : Type 0} → FieldFault → Result Y FieldFault → Type 0
Fails NoMemory read = Unit {0}
Fails (Short left) read = read ≡ Err (Short left)
Fails (Bad left) read = read ≡ Err (Bad left)

-- What a reader answered, seen by view, is what reading gives, unless memory ran out.
abbrev pub ReadsAs : {X Y : Type 0} → (X → Y) → Result X FieldFault → Result Y FieldFault → Type 0
ReadsAs view (Ok x) read = read ≡ Ok (view x)
ReadsAs view (Err e) read = Fails e read

-- the place, in an input of so many bytes, of the field that is short or bad
abbrev pub fault_place : ℕ → FieldFault → Option ℕ
fault_place n (Short left) = Some (n - left)
fault_place n (Bad left) = Some (n - left)
fault_place n NoMemory = None

-- A field is a value and the bytes after it. A number of this width:
abbrev pub read_number : Width → List ℕ → Result (ℕ × List ℕ) FieldFault
read_number w bytes =
    if nat_lt (length bytes) (byte_len w) then Err (Short (length bytes))
    else Ok (from_be_bytes w (take (byte_len w) bytes), drop (byte_len w) bytes)

-- so many bytes
abbrev pub read_bytes : ℕ → List ℕ → Result (List ℕ × List ℕ) FieldFault
read_bytes n bytes =
    if nat_lt (length bytes) n then Err (Short (length bytes)) else Ok (take n bytes, drop n bytes)

-- the n bytes of a text, which has to be UTF-8, in a field that begins where `left` bytes are left
abbrev pub read_utf8 : ℕ → ℕ → List ℕ → Result (List ℕ × List ℕ) FieldFault
read_utf8 left n bytes =
    if nat_lt (length bytes) n then Err (Short left)
    else if is_utf8 (take n bytes) then Ok (take n bytes, drop n bytes)
    else Err (Bad left)

-- a text behind a length of this width, which is bad as soon as it is read outside its limits
abbrev pub text_behind : Width → ℕ → ℕ → List ℕ → Result (List ℕ × List ℕ) FieldFault
text_behind w least most bytes = do
  n ← read_number w bytes
  if nat_lt n.0 least || nat_lt most n.0 then Err (Bad (length bytes))
      else read_utf8 (length bytes) n.0 n.1

-- a text behind two bytes of length
unfoldable pub read_text : ℕ → ℕ → List ℕ → Result (List ℕ × List ℕ) FieldFault
read_text least most bytes = text_behind w16 least most bytes

-- a text behind four bytes of length
unfoldable pub read_long_text : ℕ → List ℕ → Result (List ℕ × List ℕ) FieldFault
read_long_text most bytes = text_behind w32 0 most bytes

-- a path behind two bytes of length
abbrev pub read_path : List ℕ → Result (List ℕ × List ℕ) FieldFault
read_path bytes = read_text 1 1024 bytes

-- an address, which doesn't begin with `lake://`
unfoldable pub read_address : List ℕ → Result (List ℕ × List ℕ) FieldFault
read_address bytes = do
  at ← read_text 1 2048 bytes
  if starts_with nat_eq at.0 (codes "lake://") then Err (Bad (length bytes)) else Ok at

-- a number and a digest
unfoldable pub read_own : List ℕ → Result (Place × List ℕ) FieldFault
read_own bytes = do
  number ← read_number w64 bytes
  digest ← read_bytes 32 number.1
  Ok (Own number.0 (record { 0 = digest.0 }), digest.1)

-- an address and a checksum
unfoldable pub read_external : List ℕ → Result (Place × List ℕ) FieldFault
read_external bytes = do
  at ← read_address bytes
  checksum ← read_text 0 128 at.1
  Ok (External at.0 checksum.0, checksum.1)

-- 0 and an own place, or 1 and one outside; any other first byte is bad
unfoldable pub read_place : List ℕ → Result (Place × List ℕ) FieldFault
read_place [] = Err (Short 0)
read_place (zero ∷ rest) = read_own rest
read_place (suc zero ∷ rest) = read_external rest
read_place (suc (suc b) ∷ rest) = Err (Bad (suc (length rest)))

-- whether a key is above the one before it
abbrev pub is_next : Option (List ℕ) → List ℕ → Bool
is_next None key = true
is_next (Some last) key = is_lt (byte_order last key)

-- a key above the one before it
unfoldable pub read_key : Option (List ℕ) → List ℕ → Result (List ℕ × List ℕ) FieldFault
read_key last bytes = do
  key ← read_text 1 128 bytes
  if is_next last key.0 then Ok key else Err (Bad (length bytes))

-- a key above the one before it, and its value
unfoldable pub read_pair : Option (List ℕ) → List ℕ → Result ((List ℕ × List ℕ) × List ℕ) FieldFault
read_pair last bytes = do
  key ← read_key last bytes
  value ← read_text 0 1024 key.1
  Ok ((key.0, value.0), value.1)

-- the key of the last pair so far
abbrev pub last_key : List (List ℕ × List ℕ) → Option (List ℕ)
last_key pairs = option_map (λ pair. pair.0) (slice_get pairs (length pairs - 1))

-- so many pairs
unfoldable pub read_pairs : ℕ → Option (List ℕ) → List ℕ → Result (List (List ℕ × List ℕ) × List ℕ) FieldFault
read_pairs zero last bytes = Ok ([], bytes)
read_pairs (suc n) last bytes = do
  pair ← read_pair last bytes
  more ← read_pairs n (Some pair.0.0) pair.1
  Ok (pair.0 ∷ more.0, more.1)

-- at most 64 pairs behind their count
unfoldable pub read_metadata : List ℕ → Result (List (List ℕ × List ℕ) × List ℕ) FieldFault
read_metadata bytes = do
  count ← read_number w16 bytes
  if nat_lt 64 count.0 then Err (Bad (length bytes)) else read_pairs count.0 None count.1

-- the fields of an entry, one after the other
unfoldable pub read_entry : List ℕ → Result (EntryValue × List ℕ) FieldFault
read_entry bytes = do
  place ← read_place bytes
  size ← read_number w64 place.1
  mtime ← read_number w64 size.1
  content_type ← read_text 0 255 mtime.1
  metadata ← read_metadata content_type.1
  Ok (record { place = place.0; size = size.0; mtime = mtime.0; content_type = content_type.0; metadata = metadata.0 }, metadata.1)

-- the entry that starts at a place, and its end
unfoldable pub entry_from : List ℕ → ℕ → Result (EntryValue × ℕ) FieldFault
entry_from bytes from = do
  entry ← read_entry (drop from bytes)
  Ok (entry.0, length bytes - length entry.1)

-- a fault without its place
abbrev pub entry_fault : FieldFault → EntryFault
entry_fault (Short left) = EntryShort
entry_fault (Bad left) = EntryBad
entry_fault NoMemory = EntryNoMemory

-- What was answered is the entry and the end that reading gives, or its fault without the place, unless memory
-- ran out.
abbrev pub ReadsEntry : Result (EntryValue × ℕ) EntryFault → Result (EntryValue × ℕ) FieldFault → Type 0
ReadsEntry (Ok x) read = read ≡ Ok x
ReadsEntry (Err EntryShort) read = (left : ℕ) × (read ≡ Err (Short left))
ReadsEntry (Err EntryBad) read = (left : ℕ) × (read ≡ Err (Bad left))
ReadsEntry (Err EntryNoMemory) read = Unit {0}
