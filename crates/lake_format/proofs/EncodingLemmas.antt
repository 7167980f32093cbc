-- An entry that is read is the entry that was written, and what was written is read again.
use Rattle.std.proofs.Common.{◌≡◌, ℕ, zero, suc, ◌+◌, ◌-◌, ◌^◌, ◌≤◌, Bool, true, false, T, cond, ltb, List, [], ◌∷◌, ◌++◌, length, take, drop, Option, Some}
use Rattle.std.proofs.Common.{None, Result, Ok, Err, refl, sym, ap, subst, ◌∙◌, append_assoc, arith, lit<, codes, nat_eq}
use Rattle.std.specs.Int.{w16, w64, to_be_bytes}
use Rattle.std.specs.List.{flat_map, starts_with, AllByRecursion}
use Rattle.std.specs.Str.{is_utf8}
use Rattle.std.proofs.lemmas.Bool.{ltb-false, le-ltb}
use Rattle.std.proofs.lemmas.List.{get_or-drop, length-append, length-drop, take-append-drop, drop_at}
use Rattle.std.proofs.lemmas.List.Concat.{flat_map-cons}
use Rattle.std.proofs.lemmas.List.Elements.{recursion_from_All}
use Rattle.lake_values.specs.Entry.{EntryValue, IsPlace}
use Rattle.lake_base.specs.Maps.{HasAscendingKeys}
use Rattle.lake_values.specs.Pairs.{IsPair}
use Rattle.lake_values.specs.declared.entry.Place.{Place}
use Rattle.lake_values.specs.declared.entry.Place.TheVariants.{Own, External}
use Rattle.lake_format.specs.declared.fields.FieldFault.{FieldFault}
use Rattle.lake_format.specs.declared.fields.FieldFault.TheVariants.{Short, Bad, NoMemory}
use Rattle.lake_format.specs.declared.fields.EntryFault.{EntryFault}
use Rattle.lake_format.specs.Spelling.{short_text, place_spelling, pair_spelling, pairs_spelling, entry_spelling, AreBytes, IsSpelledPlace, IsMetadata, IsEntry}
use Rattle.lake_format.specs.Reading.{◌>>=◌, read_number, read_bytes, read_text, read_address, read_own, read_external, read_place, is_next, read_key}
use Rattle.lake_format.specs.Reading.{read_pair, read_pairs, read_metadata, read_entry, entry_from, Fails, entry_fault, ReadsEntry}
use Rattle.lake_base.proofs.MapsLemmas.{first, head_below, tail_ascends}
use Rattle.lake_values.proofs.PairsLemmas.{ascend_from}
use Rattle.lake_format.proofs.FieldsLemmas.{bind_ok, guard_ok, ok_is, Takes, takes_then, wide16, wide64, number_takes, number_again, bytes_take, bytes_takes}
use Rattle.lake_format.proofs.FieldsLemmas.{bytes_again, text_limits, text_takes, text_again}
use Rattle.lake_format.proofs.MetadataLemmas.{pair_parts, pairs_read, are_pairs, Follow}

-- ---- places

rest_bytes : (b : ℕ) (bytes : List ℕ) → AreBytes (b ∷ bytes) → AreBytes bytes
rest_bytes b bytes h i = h (suc i)

record OwnParts (bytes : List ℕ) (place : Place) (rest : List ℕ) : Type 0 where
  pub number : ℕ
  pub middle : List ℕ
  pub digest : List ℕ
  pub is : place ≡ Own number (record { 0 = digest })
  pub number_read : read_number w64 bytes ≡ Ok (number, middle)
  pub digest_read : read_bytes 32 middle ≡ Ok (digest, rest)

own_parts : (bytes : List ℕ) (place : Place) (rest : List ℕ) → read_own bytes ≡ Ok (place, rest) → OwnParts bytes place rest
unfolding read_own
own_parts bytes place rest e =
    let a =
    bind_ok (read_number w64 bytes) (λ number. read_bytes 32 number.1 >>= λ digest. Ok (Own number.0 (record { 0 = digest.0 }), digest.1)) (place, rest) e in
    let b = bind_ok (read_bytes 32 a.0.1) (λ digest. Ok (Own a.0.0 (record { 0 = digest.0 }), digest.1)) (place, rest) a.2 in
    let made = ok_is (Own a.0.0 (record { 0 = b.0.0 }), b.0.1) (place, rest) b.2 in
    record {
      number = a.0.0;
      middle = a.0.1;
      digest = b.0.0;
      is = sym (ap (λ (p : Place × List ℕ). p.0) made);
      number_read = a.1;
      digest_read = b.1 ∙ ap (λ (r : List ℕ). Ok (b.0.0, r)) (ap (λ (p : Place × List ℕ). p.1) made);
    }

record ExternalParts (bytes : List ℕ) (place : Place) (rest : List ℕ) : Type 0 where
  pub at : List ℕ
  pub middle : List ℕ
  pub checksum : List ℕ
  pub is : place ≡ External at checksum
  pub at_read : read_text 1 2048 bytes ≡ Ok (at, middle)
  pub foreign : starts_with nat_eq at (codes "lake://") ≡ false
  pub checksum_read : read_text 0 128 middle ≡ Ok (checksum, rest)

external_parts : (bytes : List ℕ) (place : Place) (rest : List ℕ) → read_external bytes ≡ Ok (place, rest) → ExternalParts bytes place rest
unfolding read_external read_address
external_parts bytes place rest e =
    let a = bind_ok (read_address bytes) (λ at. read_text 0 128 at.1 >>= λ checksum. Ok (External at.0 checksum.0, checksum.1)) (place, rest) e in
    let t = bind_ok (read_text 1 2048 bytes) (λ at. cond (starts_with nat_eq at.0 (codes "lake://")) (Err (Bad (length bytes))) (Ok at)) a.0 a.1 in
    let g = guard_ok (starts_with nat_eq t.0.0 (codes "lake://")) (Bad (length bytes)) (Ok t.0) a.0 t.2 in
    let same = ok_is t.0 a.0 g.1 in
    let b = bind_ok (read_text 0 128 a.0.1) (λ checksum. Ok (External a.0.0 checksum.0, checksum.1)) (place, rest) a.2 in
    let made = ok_is (External a.0.0 b.0.0, b.0.1) (place, rest) b.2 in
    record {
      at = a.0.0;
      middle = a.0.1;
      checksum = b.0.0;
      is = sym (ap (λ (p : Place × List ℕ). p.0) made);
      at_read = t.1 ∙ ap (λ (p : List ℕ × List ℕ). Ok p) same;
      foreign = subst (λ (p : List ℕ × List ℕ). starts_with nat_eq p.0 (codes "lake://") ≡ false) same g.0;
      checksum_read = b.1 ∙ ap (λ (r : List ℕ). Ok (b.0.0, r)) (ap (λ (p : Place × List ℕ). p.1) made);
    }

-- a place that is read keeps the limits of a place
pub place_limits : (bytes : List ℕ) (place : Place) (rest : List ℕ) → read_place bytes ≡ Ok (place, rest) → IsPlace place
unfolding read_place
place_limits [] place rest e = absurd cc
place_limits (zero ∷ bytes) place rest e = let p = own_parts bytes place rest e in subst IsPlace (sym p.is) tt
place_limits (suc zero ∷ bytes) place rest e =
    let p = external_parts bytes place rest e in
    let at = text_limits 1 2048 bytes p.at p.middle p.at_read in
    let sum = text_limits 0 128 p.middle p.checksum rest p.checksum_read in
    subst IsPlace (sym p.is) (record { some = at.long; short = at.short; foreign = p.foreign; short_checksum = sum.short })
place_limits (suc (suc b) ∷ bytes) place rest e = absurd cc

pub place_takes : (bytes : List ℕ) (place : Place) (rest : List ℕ) → AreBytes bytes → read_place bytes ≡ Ok (place, rest)
    → Takes bytes (place_spelling place) rest × IsSpelledPlace place
unfolding read_place
place_takes [] place rest fits e = absurd cc
place_takes (zero ∷ bytes) place rest fits e =
    let p = own_parts bytes place rest e in
    let n = number_takes w64 (2 ^ 64) wide64 bytes p.number p.middle (rest_bytes 0 bytes fits) p.number_read in
    let d = bytes_takes 32 p.middle p.digest rest n.0.rest_fits p.digest_read in
    let both = takes_then bytes (to_be_bytes w64 p.number) p.middle p.digest rest n.0 d.0 in
    subst (λ (q : Place). Takes (0 ∷ bytes) (place_spelling q) rest × IsSpelledPlace q) (sym p.is) (
      record { parts = ap (λ (l : List ℕ). 0 ∷ l) both.parts; rest_fits = both.rest_fits },
      record { wide = n.1; sum = record { long = (bytes_take 32 p.middle p.digest rest p.digest_read).2; bytes = d.1 } },
    )
place_takes (suc zero ∷ bytes) place rest fits e =
    let p = external_parts bytes place rest e in
    let at = text_takes 1 2048 bytes p.at p.middle (rest_bytes 1 bytes fits) p.at_read in
    let sum = text_takes 0 128 p.middle p.checksum rest at.rest_fits p.checksum_read in
    let both = takes_then bytes (short_text p.at) p.middle (short_text p.checksum) rest at sum in
    subst (λ (q : Place). Takes (1 ∷ bytes) (place_spelling q) rest × IsSpelledPlace q) (sym p.is) (
      record { parts = ap (λ (l : List ℕ). 1 ∷ l) both.parts; rest_fits = both.rest_fits },
      (let at = text_limits 1 2048 bytes p.at p.middle p.at_read in
          let sum = text_limits 0 128 p.middle p.checksum rest p.checksum_read in
          record { limits = record { some = at.long; short = at.short; foreign = p.foreign; short_checksum = sum.short }; address = at.utf8; sum = sum.utf8 }),
    )
place_takes (suc (suc b) ∷ bytes) place rest fits e = absurd cc

pub place_again : (place : Place) (rest : List ℕ) → IsSpelledPlace place → read_place (place_spelling place ++ rest) ≡ Ok (place, rest)
unfolding read_place read_own read_external read_address
place_again (Own number digest) rest is =
    let regrouped : (to_be_bytes w64 number ++ digest.0) ++ rest ≡ to_be_bytes w64 number ++ (digest.0 ++ rest) =
    append_assoc (to_be_bytes w64 number) digest.0 rest in
    ap read_own regrouped ∙ rw (number_again w64 (2 ^ 64) wide64 number (digest.0 ++ rest) is.wide, bytes_again 32 digest.0 rest is.sum.long) refl
place_again (External at checksum) rest is =
    let regrouped : (short_text at ++ short_text checksum) ++ rest ≡ short_text at ++ (short_text checksum ++ rest) =
    append_assoc (short_text at) (short_text checksum) rest in
    ap read_external regrouped ∙ rw (
      text_again 1 2048 at (short_text checksum ++ rest) (lit< tt) (record { long = is.limits.some; short = is.limits.short; utf8 = is.address }),
      is.limits.foreign,
      text_again 0 128 checksum rest (lit< tt) (record { long = omega arith; short = is.limits.short_checksum; utf8 = is.sum }),
    ) refl

-- ---- metadata

pair_takes : (last : Option (List ℕ)) (bytes : List ℕ) (pair : List ℕ × List ℕ) (rest : List ℕ) → AreBytes bytes → read_pair last bytes ≡ Ok (pair, rest)
    → Takes bytes (pair_spelling pair) rest
pair_takes last bytes pair rest fits e =
    let p = pair_parts last bytes pair rest e in
    let key = text_takes 1 128 bytes pair.0 p.middle fits p.key_read in
    takes_then bytes (short_text pair.0) p.middle (short_text pair.1) rest key (text_takes 0 1024 p.middle pair.1 rest key.rest_fits p.value_read)

pairs_take : (n : ℕ) (last : Option (List ℕ)) (bytes : List ℕ) (x : List (List ℕ × List ℕ) × List ℕ) → AreBytes bytes → read_pairs n last bytes ≡ Ok x
    → Takes bytes (flat_map pair_spelling x.0) x.1
unfolding read_pairs
pairs_take zero last bytes x fits e =
    subst (λ (y : List (List ℕ × List ℕ) × List ℕ). Takes bytes (flat_map pair_spelling y.0) y.1) (ok_is ([], bytes) x e)
    (record { parts = refl; rest_fits = fits })
pairs_take (suc n) last bytes x fits e =
    let a = bind_ok (read_pair last bytes) (λ pair. read_pairs n (Some pair.0.0) pair.1 >>= λ more. Ok (pair.0 ∷ more.0, more.1)) x e in
    let b = bind_ok (read_pairs n (Some a.0.0.0) a.0.1) (λ more. Ok (a.0.0 ∷ more.0, more.1)) x a.2 in
    let one = pair_takes last bytes a.0.0 a.0.1 fits a.1 in
    let more = pairs_take n (Some a.0.0.0) a.0.1 b.0 one.rest_fits b.1 in
    let both = takes_then bytes (pair_spelling a.0.0) a.0.1 (flat_map pair_spelling b.0.0) b.0.1 one more in
    subst (λ (y : List (List ℕ × List ℕ) × List ℕ). Takes bytes (flat_map pair_spelling y.0) y.1) (ok_is (a.0.0 ∷ b.0.0, b.0.1) x b.2) (rw flat_map-cons both)

pair_again : (last : Option (List ℕ)) (pair : List ℕ × List ℕ) (rest : List ℕ) → IsPair pair → is_utf8 pair.0 ≡ true → is_utf8 pair.1 ≡ true
    → is_next last pair.0 ≡ true → read_pair last (pair_spelling pair ++ rest) ≡ Ok (pair, rest)
unfolding read_pair read_key
pair_again last pair rest is key_utf8 value_utf8 next =
    let regrouped : pair_spelling pair ++ rest ≡ short_text pair.0 ++ (short_text pair.1 ++ rest) = append_assoc (short_text pair.0) (short_text pair.1) rest in
    ap (read_pair last) regrouped ∙ rw (
      text_again 1 128 pair.0 (short_text pair.1 ++ rest) (omega arith) (record { long = is.key; short = is.short_key; utf8 = key_utf8 }),
      next,
      text_again 0 1024 pair.1 rest (omega arith) (record { long = omega arith; short = is.short_value; utf8 = value_utf8 }),
    ) refl

from_T : (b : Bool) → T b → b ≡ true
from_T true h = refl
from_T false h = absurd h

next_of : (last : Option (List ℕ)) (p : List ℕ × List ℕ) (pairs : List (List ℕ × List ℕ)) → Follow last (p ∷ pairs) → is_next last p.0 ≡ true
next_of None p pairs h = refl
next_of (Some k) p pairs h = from_T _ (first _ _ h)

pairs_again : (last : Option (List ℕ)) (pairs : List (List ℕ × List ℕ)) (rest : List ℕ) → AllByRecursion IsPair pairs
    → AllByRecursion (λ pair. (is_utf8 pair.0 ≡ true) × (is_utf8 pair.1 ≡ true)) pairs → Follow last pairs → HasAscendingKeys pairs
    → read_pairs (length pairs) last (flat_map pair_spelling pairs ++ rest) ≡ Ok (pairs, rest)
unfolding read_pairs
pairs_again last [] rest each utf8 follow ascend = refl
pairs_again last (p ∷ pairs) rest each utf8 follow ascend =
    let tail = flat_map pair_spelling pairs ++ rest in
    let regrouped : flat_map pair_spelling (p ∷ pairs) ++ rest ≡ pair_spelling p ++ tail =
    ap (λ (x : List ℕ). x ++ rest) (flat_map-cons pair_spelling p pairs) ∙ append_assoc (pair_spelling p) (flat_map pair_spelling pairs) rest in
    let one : read_pair last (pair_spelling p ++ tail) ≡ Ok (p, tail) = pair_again last p tail each.0 utf8.0.0 utf8.0.1 (next_of last p pairs follow) in
    let more : read_pairs (length pairs) (Some p.0) tail ≡ Ok (pairs, rest) =
    pairs_again (Some p.0) pairs rest each.1 utf8.1 (head_below p pairs ascend) (tail_ascends p pairs ascend) in
    ap (read_pairs (suc (length pairs)) last) regrouped
    ∙ ap (λ r. r >>= λ pair. read_pairs (length pairs) (Some pair.0.0) pair.1 >>= λ more. Ok (pair.0 ∷ more.0, more.1)) one
    ∙ ap (λ r. r >>= λ more. Ok (p ∷ more.0, more.1)) more

pub metadata_takes : (bytes : List ℕ) (pairs : List (List ℕ × List ℕ)) (rest : List ℕ) → AreBytes bytes → read_metadata bytes ≡ Ok (pairs, rest)
    → Takes bytes (pairs_spelling pairs) rest × IsMetadata pairs
unfolding read_metadata
metadata_takes bytes pairs rest fits e =
    let a = bind_ok (read_number w16 bytes) (λ count. cond (ltb 64 count.0) (Err (Bad (length bytes))) (read_pairs count.0 None count.1)) (pairs, rest) e in
    let g = guard_ok (ltb 64 a.0.0) (Bad (length bytes)) (read_pairs a.0.0 None a.0.1) (pairs, rest) a.2 in
    let few : a.0.0 ≤ 64 = ltb-false _ _ g.0 in
    let n = number_takes w16 (2 ^ 16) wide16 bytes a.0.0 a.0.1 fits a.1 in
    let r = pairs_read a.0.0 None a.0.1 (pairs, rest) g.1 in
    let both =
    takes_then bytes (to_be_bytes w16 a.0.0) a.0.1 (flat_map pair_spelling pairs) rest n.0 (pairs_take a.0.0 None a.0.1 (pairs, rest) n.0.rest_fits g.1) in (
      subst (λ (k : ℕ). Takes bytes (to_be_bytes w16 k ++ flat_map pair_spelling pairs) rest) (sym r.count) both,
      record { limits = are_pairs a.0.0 a.0.1 pairs rest few g.1; utf8 = r.utf8 },
    )

pub metadata_again : (pairs : List (List ℕ × List ℕ)) (rest : List ℕ) → IsMetadata pairs → read_metadata (pairs_spelling pairs ++ rest) ≡ Ok (pairs, rest)
unfolding read_metadata
metadata_again pairs rest is =
    let regrouped : pairs_spelling pairs ++ rest ≡ to_be_bytes w16 (length pairs) ++ (flat_map pair_spelling pairs ++ rest) =
    append_assoc (to_be_bytes w16 (length pairs)) (flat_map pair_spelling pairs) rest in
    let few : ltb 64 (length pairs) ≡ false = le-ltb _ _ is.limits.few in
    ap read_metadata regrouped ∙ rw (
      number_again w16 (2 ^ 16) wide16 (length pairs) (flat_map pair_spelling pairs ++ rest) (omega (arith, is.limits.few)),
      few,
      pairs_again None pairs rest (recursion_from_All IsPair pairs is.limits.each) is.utf8 tt (ascend_from pairs is.limits.ascending),
    ) refl

-- ---- entries

pub record EntryParts (bytes : List ℕ) (e : EntryValue) (rest : List ℕ) : Type 0 where
  pub after_place : List ℕ
  pub after_size : List ℕ
  pub after_mtime : List ℕ
  pub after_type : List ℕ
  pub place_read : read_place bytes ≡ Ok (e.place, after_place)
  pub size_read : read_number w64 after_place ≡ Ok (e.size, after_size)
  pub mtime_read : read_number w64 after_size ≡ Ok (e.mtime, after_mtime)
  pub type_read : read_text 0 255 after_mtime ≡ Ok (e.content_type, after_type)
  pub metadata_read : read_metadata after_type ≡ Ok (e.metadata, rest)

pub entry_parts : (bytes : List ℕ) (e : EntryValue) (rest : List ℕ) → read_entry bytes ≡ Ok (e, rest) → EntryParts bytes e rest
unfolding read_entry
entry_parts bytes e rest h =
    let x1 = bind_ok (read_place bytes) (λ place. read_number w64 place.1 >>= λ size.
    read_number w64 size.1 >>= λ mtime. read_text 0 255 mtime.1 >>= λ content_type. read_metadata content_type.1 >>= λ metadata.
    Ok (record { place = place.0; size = size.0; mtime = mtime.0; content_type = content_type.0; metadata = metadata.0 }, metadata.1)) (e, rest) h in
    let x2 = bind_ok (read_number w64 x1.0.1)
    (λ size. read_number w64 size.1 >>= λ mtime. read_text 0 255 mtime.1 >>= λ content_type. read_metadata content_type.1 >>= λ metadata.
    Ok (record { place = x1.0.0; size = size.0; mtime = mtime.0; content_type = content_type.0; metadata = metadata.0 }, metadata.1)) (e, rest) x1.2 in
    let x3 = bind_ok (read_number w64 x2.0.1) (λ mtime. read_text 0 255 mtime.1 >>= λ content_type. read_metadata content_type.1 >>= λ metadata.
    Ok (record { place = x1.0.0; size = x2.0.0; mtime = mtime.0; content_type = content_type.0; metadata = metadata.0 }, metadata.1)) (e, rest) x2.2 in
    let x4 = bind_ok (read_text 0 255 x3.0.1) (λ content_type. read_metadata content_type.1 >>= λ metadata.
    Ok (record { place = x1.0.0; size = x2.0.0; mtime = x3.0.0; content_type = content_type.0; metadata = metadata.0 }, metadata.1)) (e, rest) x3.2 in
    let x5 = bind_ok (read_metadata x4.0.1)
    (λ metadata. Ok (record { place = x1.0.0; size = x2.0.0; mtime = x3.0.0; content_type = x4.0.0; metadata = metadata.0 }, metadata.1)) (e, rest) x4.2 in
    let made : EntryValue × List ℕ = (record { place = x1.0.0; size = x2.0.0; mtime = x3.0.0; content_type = x4.0.0; metadata = x5.0.0 }, x5.0.1) in
    let parts : EntryParts bytes made.0 made.1 = record {
      after_place = x1.0.1;
      after_size = x2.0.1;
      after_mtime = x3.0.1;
      after_type = x4.0.1;
      place_read = x1.1;
      size_read = x2.1;
      mtime_read = x3.1;
      type_read = x4.1;
      metadata_read = x5.1;
    } in
    subst (λ (y : EntryValue × List ℕ). EntryParts bytes y.0 y.1) {x = made} (ok_is made (e, rest) x5.2) parts

pub entry_takes : (bytes : List ℕ) (e : EntryValue) (rest : List ℕ) → AreBytes bytes → read_entry bytes ≡ Ok (e, rest)
    → Takes bytes (entry_spelling e) rest × IsEntry e
entry_takes bytes e rest fits h =
    let p = entry_parts bytes e rest h in
    let t1 = place_takes bytes e.place p.after_place fits p.place_read in
    let t2 = number_takes w64 (2 ^ 64) wide64 p.after_place e.size p.after_size t1.0.rest_fits p.size_read in
    let t3 = number_takes w64 (2 ^ 64) wide64 p.after_size e.mtime p.after_mtime t2.0.rest_fits p.mtime_read in
    let t4 = text_takes 0 255 p.after_mtime e.content_type p.after_type t3.0.rest_fits p.type_read in
    let t5 = metadata_takes p.after_type e.metadata rest t4.rest_fits p.metadata_read in
    let b4 = takes_then p.after_mtime (short_text e.content_type) p.after_type (pairs_spelling e.metadata) rest t4 t5.0 in
    let b3 = takes_then p.after_size (to_be_bytes w64 e.mtime) p.after_mtime _ rest t3.0 b4 in
    let b2 = takes_then p.after_place (to_be_bytes w64 e.size) p.after_size _ rest t2.0 b3 in
    let b1 = takes_then bytes (place_spelling e.place) p.after_place _ rest t1.0 b2 in (
      b1,
      record {
        place = t1.1;
        size = t2.1;
        mtime = t3.1;
        content_type = text_limits 0 255 p.after_mtime e.content_type p.after_type p.type_read;
        metadata = t5.1;
      },
    )

pub entry_again : (e : EntryValue) (rest : List ℕ) → IsEntry e → read_entry (entry_spelling e ++ rest) ≡ Ok (e, rest)
unfolding read_entry
entry_again e rest is =
    let d = pairs_spelling e.metadata in
    let c = short_text e.content_type in
    let m = to_be_bytes w64 e.mtime in
    let s = to_be_bytes w64 e.size in
    let regrouped : entry_spelling e ++ rest ≡ place_spelling e.place ++ (s ++ (m ++ (c ++ (d ++ rest)))) =
    append_assoc (place_spelling e.place) (s ++ (m ++ (c ++ d))) rest
    ∙ ap (λ (l : List ℕ). place_spelling e.place ++ l) (append_assoc s (m ++ (c ++ d)) rest
    ∙ ap (λ (l : List ℕ). s ++ l) (append_assoc m (c ++ d) rest
    ∙ ap (λ (l : List ℕ). m ++ l) (append_assoc c d rest))) in
    ap read_entry regrouped ∙ rw (
      place_again e.place (s ++ (m ++ (c ++ (d ++ rest)))) is.place,
      number_again w64 (2 ^ 64) wide64 e.size (m ++ (c ++ (d ++ rest))) is.size,
      number_again w64 (2 ^ 64) wide64 e.mtime (c ++ (d ++ rest)) is.mtime,
      text_again 0 255 e.content_type (d ++ rest) (lit< tt) is.content_type,
      metadata_again e.metadata rest is.metadata,
    ) refl

abbrev done : EntryValue × List ℕ → Result (EntryValue × List ℕ) FieldFault
done x = Ok x

pub apart : (a b : EntryValue) (x y : List ℕ) → IsEntry a → IsEntry b → entry_spelling a ++ x ≡ entry_spelling b ++ y → (a ≡ b) × (x ≡ y)
apart a b x y ha hb e =
    let same : done (a, x) ≡ done (b, y) = sym (entry_again a x ha) ∙ ap read_entry e ∙ entry_again b y hb in
    let pairs = ok_is (a, x) (b, y) same in
    (ap (λ (p : EntryValue × List ℕ). p.0) pairs, ap (λ (p : EntryValue × List ℕ). p.1) pairs)

pub found : (bytes : List ℕ) (e : EntryValue) (rest : List ℕ) → AreBytes bytes → read_entry bytes ≡ Ok (e, rest)
    → IsEntry e × (bytes ≡ entry_spelling e ++ rest)
found bytes e rest fits h = let t = entry_takes bytes e rest fits h in (t.1, t.0.parts)

-- the end of what is left
pub shorter : (bytes : List ℕ) (from : ℕ) (e : EntryValue) (rest : List ℕ) → AreBytes bytes → read_entry (drop from bytes) ≡ Ok (e, rest)
    → length rest ≤ length bytes
shorter bytes from e rest fits h =
    let t = (entry_takes (drop from bytes) e rest (λ i. rw get_or-drop (fits (from + i))) h).0.parts in
    let len : length (drop from bytes) ≡ length (entry_spelling e) + length rest = ap length t ∙ length-append (entry_spelling e) rest in
    omega (arith, length-drop from bytes, len)

-- the rest stands at the end
rest_at : (bytes front rest : List ℕ) → bytes ≡ front ++ rest → drop (length bytes - length rest) bytes ≡ rest
rest_at bytes front rest e =
    let len : length bytes ≡ length front + length rest = ap length e ∙ length-append front rest in
    let n : length front ≡ length bytes - length rest = omega (arith, len) in
    ap (drop (length bytes - length rest)) e ∙ drop_at front rest (length bytes - length rest) n

pub found_from : (bytes : List ℕ) (from : ℕ) (e : EntryValue) (end : ℕ) → AreBytes bytes → entry_from bytes from ≡ Ok (e, end)
    → IsEntry e × (drop from bytes ≡ entry_spelling e ++ drop end bytes)
unfolding entry_from
found_from bytes from e end fits h =
    let a = bind_ok (read_entry (drop from bytes)) (λ x. Ok (x.0, length bytes - length x.1)) (e, end) h in
    let t = entry_takes (drop from bytes) a.0.0 a.0.1 (λ i. rw get_or-drop (fits (from + i))) a.1 in
    let made = ok_is (a.0.0, length bytes - length a.0.1) (e, end) a.2 in
    let whole : bytes ≡ (take from bytes ++ entry_spelling a.0.0) ++ a.0.1 = sym (take-append-drop from bytes)
    ∙ ap (λ (l : List ℕ). take from bytes ++ l) t.0.parts ∙ sym (append_assoc (take from bytes) (entry_spelling a.0.0) a.0.1) in
    let rest : drop (length bytes - length a.0.1) bytes ≡ a.0.1 = rest_at bytes (take from bytes ++ entry_spelling a.0.0) a.0.1 whole in
    subst (λ (y : EntryValue × ℕ). IsEntry y.0 × (drop from bytes ≡ entry_spelling y.0 ++ drop y.1 bytes))
    {x = (a.0.0, length bytes - length a.0.1)} made (t.1, t.0.parts ∙ ap (λ (l : List ℕ). entry_spelling a.0.0 ++ l) (sym rest))

pub again_from : (bytes : List ℕ) (from : ℕ) (e : EntryValue) (rest : List ℕ) → IsEntry e → drop from bytes ≡ entry_spelling e ++ rest
    → entry_from bytes from ≡ Ok (e, length bytes - length rest)
unfolding entry_from
again_from bytes from e rest is h =
    ap (λ (r : Result (EntryValue × List ℕ) FieldFault). r >>= λ x. Ok (x.0, length bytes - length x.1)) (ap read_entry h ∙ entry_again e rest is)

-- ---- what is answered without a place

-- a fault that forgot its place
pub forgets : (fault : FieldFault) (answer : EntryFault) (read : Result (EntryValue × ℕ) FieldFault) → answer ≡ entry_fault fault → Fails fault read
    → ReadsEntry (Err answer) read
forgets fault answer read is fails = subst (λ (e : EntryFault). ReadsEntry (Err e) read) (sym is) (at fault fails)
  where
    at : (fault : FieldFault) → Fails fault read → ReadsEntry (Err (entry_fault fault)) read
    at (Short left) fails = (left, fails)
    at (Bad left) fails = (left, fails)
    at NoMemory fails = tt
