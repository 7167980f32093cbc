-- Reading fields, as it is defined, never runs out of memory.
use Rattle.std.proofs.Common.{ℕ, zero, suc, Bool, true, false, cond, ltb, ◌||◌, List, [], ◌∷◌, length, take, drop, Option, Some, None, Result, Ok, Err, nat_eq}
use Rattle.std.proofs.Common.{codes}
use Rattle.std.specs.Int.{Width, w16, w64, byte_len, from_be_bytes}
use Rattle.std.specs.List.{starts_with}
use Rattle.std.specs.Str.{is_utf8}
use Rattle.lake_format.specs.declared.fields.FieldFault.{FieldFault}
use Rattle.lake_format.specs.declared.fields.FieldFault.TheVariants.{Short, Bad, NoMemory}
use Rattle.lake_format.specs.Reading.{◌>>=◌, read_number, read_bytes, read_utf8, read_text, read_path, read_address, read_own, read_external, read_place}
use Rattle.lake_format.specs.Reading.{is_next, read_key, read_pair, read_pairs, read_metadata, read_entry}

-- a value, or a fault of the bytes
abbrev pub Tells : {A : Type 0} → Result A FieldFault → Type 0
Tells (Err NoMemory) = ⊥
Tells read = Unit {0}

in_turn : {A B : Type 0} (read : Result A FieldFault) (next : A → Result B FieldFault) → Tells read → ((x : A) → Tells (next x)) → Tells (read >>= next)
in_turn (Ok x) next h k = k x
in_turn (Err (Short left)) next h k = tt
in_turn (Err (Bad left)) next h k = tt
in_turn (Err NoMemory) next h k = h

either : {A : Type 0} (b : Bool) (read other : Result A FieldFault) → Tells read → Tells other → Tells (cond b read other)
either true read other h k = h
either false read other h k = k

pub number_tells : (w : Width) (bytes : List ℕ) → Tells (read_number w bytes)
number_tells w bytes =
    either (ltb (length bytes) (byte_len w)) (Err (Short (length bytes))) (Ok (from_be_bytes w (take (byte_len w) bytes), drop (byte_len w) bytes)) tt tt

bytes_tell : (n : ℕ) (bytes : List ℕ) → Tells (read_bytes n bytes)
bytes_tell n bytes = either (ltb (length bytes) n) (Err (Short (length bytes))) (Ok (take n bytes, drop n bytes)) tt tt

utf8_tells : (left n : ℕ) (bytes : List ℕ) → Tells (read_utf8 left n bytes)
utf8_tells left n bytes =
    either (ltb (length bytes) n) (Err (Short left)) (cond (is_utf8 (take n bytes)) (Ok (take n bytes, drop n bytes)) (Err (Bad left))) tt
    (either (is_utf8 (take n bytes)) (Ok (take n bytes, drop n bytes)) (Err (Bad left)) tt tt)

text_tells : (least most : ℕ) (bytes : List ℕ) → Tells (read_text least most bytes)
unfolding read_text
text_tells least most bytes =
    in_turn (read_number w16 bytes) (λ n. cond (ltb n.0 least || ltb most n.0) (Err (Bad (length bytes))) (read_utf8 (length bytes) n.0 n.1))
    (number_tells w16 bytes)
    (λ n. either (ltb n.0 least || ltb most n.0) (Err (Bad (length bytes))) (read_utf8 (length bytes) n.0 n.1) tt (utf8_tells (length bytes) n.0 n.1))

pub path_tells : (bytes : List ℕ) → Tells (read_path bytes)
path_tells bytes = text_tells 1 1024 bytes

address_tells : (bytes : List ℕ) → Tells (read_address bytes)
unfolding read_address
address_tells bytes =
    in_turn (read_text 1 2048 bytes) _ (text_tells 1 2048 bytes)
    (λ at. either (starts_with nat_eq at.0 (codes "lake://")) (Err (Bad (length bytes))) (Ok at) tt tt)

place_tells : (bytes : List ℕ) → Tells (read_place bytes)
unfolding read_place read_own read_external
place_tells [] = tt
place_tells (zero ∷ bytes) =
    in_turn (read_number w64 bytes) _ (number_tells w64 bytes) (λ number. in_turn (read_bytes 32 number.1) _ (bytes_tell 32 number.1) (λ digest. tt))
place_tells (suc zero ∷ bytes) =
    in_turn (read_address bytes) _ (address_tells bytes) (λ at. in_turn (read_text 0 128 at.1) _ (text_tells 0 128 at.1) (λ checksum. tt))
place_tells (suc (suc b) ∷ bytes) = tt

pair_tells : (last : Option (List ℕ)) (bytes : List ℕ) → Tells (read_pair last bytes)
unfolding read_pair read_key
pair_tells last bytes =
    in_turn (read_key last bytes) _
    (in_turn (read_text 1 128 bytes) _ (text_tells 1 128 bytes) (λ key. either (is_next last key.0) (Ok key) (Err (Bad (length bytes))) tt tt))
    (λ key. in_turn (read_text 0 1024 key.1) _ (text_tells 0 1024 key.1) (λ value. tt))

pairs_tell : (n : ℕ) (last : Option (List ℕ)) (bytes : List ℕ) → Tells (read_pairs n last bytes)
unfolding read_pairs
pairs_tell zero last bytes = tt
pairs_tell (suc n) last bytes = in_turn (read_pair last bytes) _ (pair_tells last bytes)
    (λ pair. in_turn (read_pairs n (Some pair.0.0) pair.1) _ (pairs_tell n (Some pair.0.0) pair.1) (λ more. tt))

metadata_tells : (bytes : List ℕ) → Tells (read_metadata bytes)
unfolding read_metadata
metadata_tells bytes =
    in_turn (read_number w16 bytes) _ (number_tells w16 bytes)
    (λ count. either (ltb 64 count.0) (Err (Bad (length bytes))) (read_pairs count.0 None count.1) tt (pairs_tell count.0 None count.1))

pub entry_tells : (bytes : List ℕ) → Tells (read_entry bytes)
unfolding read_entry
entry_tells bytes =
    in_turn (read_place bytes) _ (place_tells bytes)
    (λ place. in_turn (read_number w64 place.1) _ (number_tells w64 place.1)
    (λ size. in_turn (read_number w64 size.1) _ (number_tells w64 size.1)
    (λ mtime. in_turn (read_text 0 255 mtime.1) _ (text_tells 0 255 mtime.1)
    (λ content_type. in_turn (read_metadata content_type.1) _ (metadata_tells content_type.1) (λ metadata. tt)))))
