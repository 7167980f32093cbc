-- A commit that is read is the commit that was written, and what was written is read again.
use Rattle.std.proofs.Common.{◌≡◌, ℕ, zero, suc, ◌-◌, ◌+◌, ◌^◌, ◌<◌, ◌≤◌, Bool, true, false, cond, eqb, ltb, List, [], ◌∷◌, ◌++◌, length, Result, Ok, Err, refl}
use Rattle.std.proofs.Common.{sym, ap, subst, ◌∙◌, append_assoc, arith}
use Rattle.std.proofs.lemmas.Bool.{eqb-true, eqb-false, ne_eqb, ltb-false, le-ltb}
use Rattle.std.proofs.lemmas.List.{append-nil, length-append, nil_from_length}
use Rattle.std.proofs.lemmas.List.Concat.{flat_map-cons, flat_map-append}
use Rattle.std.specs.Int.{w16, w64, to_be_bytes}
use Rattle.std.specs.List.{flat_map, AllByRecursion}
use Rattle.lake_base.specs.declared.digest.Digest.{Digest}
use Rattle.lake_values.specs.Commit.{CommitRecordValue}
use Rattle.lake_format.specs.Reading.{◌>>=◌, Fails, read_number, read_bytes, read_text, read_long_text, read_metadata}
use Rattle.lake_format.specs.Spelling.{short_text, long_text, pairs_spelling, commit_spelling, AreBytes, IsDigest, IsSpelledCommit}
use Rattle.lake_format.specs.declared.fields.FieldFault.{FieldFault}
use Rattle.lake_format.specs.declared.fields.FieldFault.TheVariants.{Short, Bad, NoMemory}
use Rattle.lake_format.proofs.FieldsLemmas.{bind_ok, guard_ok, ok_is, Takes, takes_then, wide16, wide64, number_takes, number_again, bytes_take, bytes_takes}
use Rattle.lake_format.proofs.FieldsLemmas.{bytes_again, text_limits, text_takes, text_again, long_text_limits, long_text_takes, long_text_again}
use Rattle.lake_format.proofs.EncodingLemmas.{metadata_takes, metadata_again}
use Rattle.commit_graph.specs.CommitReading.{read_generation, read_ids, read_parents, read_commit, whole, commit_from}
use Rattle.commit_graph.specs.declared.fault.CommitFault.{CommitFault}
use Rattle.commit_graph.specs.declared.fault.CommitFault.TheVariants.{Version, Trailing}

abbrev id_of : List ℕ → Digest
id_of bytes = record { 0 = bytes }

abbrev ids_spelling : List Digest → List ℕ
ids_spelling ids = flat_map (λ id. id.0) ids

-- ---- a loop that reads ids

pub goes_on : (count i : ℕ) (before : List Digest) (bytes : List ℕ) (id after : List ℕ) (all : Result (List Digest × List ℕ) FieldFault) → i < count
    → read_bytes 32 bytes ≡ Ok (id, after)
    → read_ids (count - i) before bytes ≡ all → read_ids (count - (i + 1)) (before ++ id_of id ∷ []) after ≡ all
unfolding read_ids
goes_on count i before bytes id after all lt here so_far =
    let k : count - i ≡ suc (count - (i + 1)) = omega arith in
    sym (ap (λ (r : Result (List ℕ × List ℕ) FieldFault). r >>= λ id. read_ids (count - (i + 1)) (before ++ id_of id.0 ∷ []) id.1) here)
    ∙ ap (λ m. read_ids m before bytes) (sym k) ∙ so_far

failed : {A B : Type 0} (e : FieldFault) (r : Result A FieldFault) (f : A → Result B FieldFault) → Fails e r → Fails e (r >>= f)
failed NoMemory r f h = tt
failed (Short left) r f h = ap (λ x. x >>= f) h
failed (Bad left) r f h = ap (λ x. x >>= f) h

pub ends : (e : FieldFault) (count i : ℕ) (before : List Digest) (bytes : List ℕ) (all : Result (List Digest × List ℕ) FieldFault) → i < count
    → Fails e (read_bytes 32 bytes)
    → read_ids (count - i) before bytes ≡ all → Fails e all
unfolding read_ids
ends e count i before bytes all lt fails so_far =
    let k : count - i ≡ suc (count - (i + 1)) = omega arith in
    subst (Fails e) (ap (λ m. read_ids m before bytes) (sym k) ∙ so_far)
    (failed e (read_bytes 32 bytes) (λ id. read_ids (count - (i + 1)) (before ++ id_of id.0 ∷ []) id.1) fails)

pub is_done : (count i : ℕ) (before : List Digest) (bytes : List ℕ) (all : Result (List Digest × List ℕ) FieldFault) → count ≤ i
    → read_ids (count - i) before bytes ≡ all → all ≡ Ok (before, bytes)
unfolding read_ids
is_done count i before bytes all le so_far =
    let k : count - i ≡ 0 = omega arith in
    sym so_far ∙ ap (λ m. read_ids m before bytes) k

-- ---- what is read is spelled so

abbrev AreDigests : List Digest → Type 0
AreDigests ids = AllByRecursion (λ id. IsDigest id.0) ids

record IdsRead (more : ℕ) (before : List Digest) (bytes : List ℕ) (ids : List Digest) (rest : List ℕ) : Type 0 where
  pub spelled : ids_spelling before ++ bytes ≡ ids_spelling ids ++ rest
  pub rest_fits : AreBytes rest
  pub count : length ids ≡ length before + more
  pub each : AreDigests before → AreDigests ids

all_end : (before : List Digest) (id : Digest) → AreDigests before → IsDigest id.0 → AreDigests (before ++ id ∷ [])
all_end [] id each is = (is, tt)
all_end (d ∷ before) id each is = (each.0, all_end before id each.1 is)

ids_read : (count : ℕ) (before : List Digest) (bytes : List ℕ) (x : List Digest × List ℕ) → AreBytes bytes → read_ids count before bytes ≡ Ok x
    → IdsRead count before bytes x.0 x.1
unfolding read_ids
ids_read zero before bytes x fits h =
    subst (λ (y : List Digest × List ℕ). IdsRead 0 before bytes y.0 y.1) (ok_is (before, bytes) x h)
    (record { spelled = refl; rest_fits = fits; count = omega arith; each = λ a. a })
ids_read (suc count) before bytes x fits h =
    let a = bind_ok (read_bytes 32 bytes) (λ id. read_ids count (before ++ id_of id.0 ∷ []) id.1) x h in
    let id = id_of a.0.0 in
    let one = bytes_takes 32 bytes a.0.0 a.0.1 fits a.1 in
    let len = (bytes_take 32 bytes a.0.0 a.0.1 a.1).2 in
    let more = ids_read count (before ++ id ∷ []) a.0.1 x one.0.rest_fits a.2 in
    let here : ids_spelling (before ++ id ∷ []) ≡ ids_spelling before ++ a.0.0 =
    flat_map-append (λ (d : Digest). d.0) before (id ∷ []) ∙ ap (λ l. ids_spelling before ++ l) (append-nil a.0.0) in
    record {
      spelled = ap (λ l. ids_spelling before ++ l) one.0.parts ∙ sym (append_assoc (ids_spelling before) a.0.0 a.0.1) ∙ ap (λ l. l ++ a.0.1) (sym here)
          ∙ more.spelled;
      rest_fits = more.rest_fits;
      count = omega (arith, more.count, length-append before (id ∷ []));
      each = λ h. more.each (all_end before id h (record { long = len; bytes = one.1 }));
    }

-- there are as many as their count says
ids_count : (count : ℕ) (before : List Digest) (bytes : List ℕ) (x : List Digest × List ℕ) → read_ids count before bytes ≡ Ok x
    → length x.0 ≡ length before + count
unfolding read_ids
ids_count zero before bytes x h = omega (arith, ap (λ (y : List Digest × List ℕ). length y.0) (ok_is (before, bytes) x h))
ids_count (suc count) before bytes x h =
    let a = bind_ok (read_bytes 32 bytes) (λ id. read_ids count (before ++ id_of id.0 ∷ []) id.1) x h in
    omega (arith, ids_count count (before ++ id_of a.0.0 ∷ []) a.0.1 x a.2, length-append before (id_of a.0.0 ∷ []))

pub parents_few : (bytes : List ℕ) (ids : List Digest) (rest : List ℕ) → read_parents bytes ≡ Ok (ids, rest) → length ids ≤ 2
unfolding read_parents
parents_few bytes ids rest h =
    let a = bind_ok (read_number w16 bytes) (λ count. cond (ltb 2 count.0) (Err (Bad (length bytes))) (read_ids count.0 [] count.1)) (ids, rest) h in
    let g = guard_ok (ltb 2 a.0.0) (Bad (length bytes)) (read_ids a.0.0 [] a.0.1) (ids, rest) a.2 in
    let few : a.0.0 ≤ 2 = ltb-false _ _ g.0 in
    omega (arith, ids_count a.0.0 [] a.0.1 (ids, rest) g.1)

record ParentsRead (bytes : List ℕ) (ids : List Digest) (rest : List ℕ) : Type 0 where
  pub takes : Takes bytes (to_be_bytes w16 (length ids) ++ ids_spelling ids) rest
  pub each : AreDigests ids

parents_read : (bytes : List ℕ) (ids : List Digest) (rest : List ℕ) → AreBytes bytes → read_parents bytes ≡ Ok (ids, rest) → ParentsRead bytes ids rest
unfolding read_parents
parents_read bytes ids rest fits h =
    let a = bind_ok (read_number w16 bytes) (λ count. cond (ltb 2 count.0) (Err (Bad (length bytes))) (read_ids count.0 [] count.1)) (ids, rest) h in
    let g = guard_ok (ltb 2 a.0.0) (Bad (length bytes)) (read_ids a.0.0 [] a.0.1) (ids, rest) a.2 in
    let n = number_takes w16 (2 ^ 16) wide16 bytes a.0.0 a.0.1 fits a.1 in
    let r = ids_read a.0.0 [] a.0.1 (ids, rest) n.0.rest_fits g.1 in
    let count : length ids ≡ a.0.0 = omega (arith, r.count) in
    let both = takes_then bytes (to_be_bytes w16 a.0.0) a.0.1 (ids_spelling ids) rest n.0 (record { parts = r.spelled; rest_fits = r.rest_fits }) in
    record {
      takes = subst (λ (k : ℕ). Takes bytes (to_be_bytes w16 k ++ ids_spelling ids) rest) (sym count) both;
      each = r.each tt;
    }

pub generation_is : (bytes : List ℕ) (n : ℕ) (rest : List ℕ) → read_generation bytes ≡ Ok (n, rest) → (read_number w64 bytes ≡ Ok (n, rest)) × (1 ≤ n)
unfolding read_generation
generation_is bytes n rest h =
    let a = bind_ok (read_number w64 bytes) (λ g. cond (eqb g.0 0) (Err (Bad (length bytes))) (Ok g)) (n, rest) h in
    let g = guard_ok (eqb a.0.0 0) (Bad (length bytes)) (Ok a.0) (n, rest) a.2 in
    let same = ok_is a.0 (n, rest) g.1 in
    let some : eqb n 0 ≡ false = subst (λ (x : ℕ × List ℕ). eqb x.0 0 ≡ false) same g.0 in
    (a.1 ∙ ap (λ (x : ℕ × List ℕ). Ok x) same, omega (arith, eqb-false n 0 some))

-- the fields, one after the other
pub record CommitParts (bytes : List ℕ) (c : CommitRecordValue) (rest : List ℕ) : Type 0 where
  pub after_root : List ℕ
  pub after_generation : List ℕ
  pub after_date : List ℕ
  pub after_parents : List ℕ
  pub after_committer : List ℕ
  pub after_message : List ℕ
  pub root_read : read_bytes 32 bytes ≡ Ok (c.meta_range.0, after_root)
  pub generation_read : read_generation after_root ≡ Ok (c.generation, after_generation)
  pub date_read : read_number w64 after_generation ≡ Ok (c.date, after_date)
  pub parents_read : read_parents after_date ≡ Ok (c.parents, after_parents)
  pub committer_read : read_text 1 128 after_parents ≡ Ok (c.committer, after_committer)
  pub message_read : read_long_text 65536 after_committer ≡ Ok (c.message, after_message)
  pub metadata_read : read_metadata after_message ≡ Ok (c.metadata, rest)

abbrev Made : Type 0
Made = Result (CommitRecordValue × List ℕ) FieldFault

abbrev from_metadata : Digest → ℕ → ℕ → List Digest → List ℕ → List ℕ → List ℕ → Made
from_metadata root generation date parents committer message bytes =
    read_metadata bytes >>= λ metadata. Ok (
      record {
        meta_range = root;
        generation = generation;
        date = date;
        parents = parents;
        committer = committer;
        message = message;
        metadata = metadata.0;
      },
      metadata.1,
    )

abbrev from_message : Digest → ℕ → ℕ → List Digest → List ℕ → List ℕ → Made
from_message root generation date parents committer bytes =
    read_long_text 65536 bytes >>= λ message. from_metadata root generation date parents committer message.0 message.1

abbrev from_committer : Digest → ℕ → ℕ → List Digest → List ℕ → Made
from_committer root generation date parents bytes = read_text 1 128 bytes >>= λ committer. from_message root generation date parents committer.0 committer.1

abbrev from_parents : Digest → ℕ → ℕ → List ℕ → Made
from_parents root generation date bytes = read_parents bytes >>= λ parents. from_committer root generation date parents.0 parents.1

abbrev from_date : Digest → ℕ → List ℕ → Made
from_date root generation bytes = read_number w64 bytes >>= λ date. from_parents root generation date.0 date.1

abbrev from_generation : Digest → List ℕ → Made
from_generation root bytes = read_generation bytes >>= λ generation. from_date root generation.0 generation.1

pub commit_parts : (bytes : List ℕ) (c : CommitRecordValue) (rest : List ℕ) → read_commit bytes ≡ Ok (c, rest) → CommitParts bytes c rest
unfolding read_commit
commit_parts bytes c rest h =
    let x1 = bind_ok (read_bytes 32 bytes) (λ root. from_generation (id_of root.0) root.1) (c, rest) h in
    let root = id_of x1.0.0 in
    let x2 = bind_ok (read_generation x1.0.1) (λ generation. from_date root generation.0 generation.1) (c, rest) x1.2 in
    let x3 = bind_ok (read_number w64 x2.0.1) (λ date. from_parents root x2.0.0 date.0 date.1) (c, rest) x2.2 in
    let x4 = bind_ok (read_parents x3.0.1) (λ parents. from_committer root x2.0.0 x3.0.0 parents.0 parents.1) (c, rest) x3.2 in
    let x5 = bind_ok (read_text 1 128 x4.0.1) (λ committer. from_message root x2.0.0 x3.0.0 x4.0.0 committer.0 committer.1) (c, rest) x4.2 in
    let x6 = bind_ok (read_long_text 65536 x5.0.1) (λ message. from_metadata root x2.0.0 x3.0.0 x4.0.0 x5.0.0 message.0 message.1) (c, rest) x5.2 in
    let made : List (List ℕ × List ℕ) → CommitRecordValue =
    λ metadata. record { meta_range = root; generation = x2.0.0; date = x3.0.0; parents = x4.0.0; committer = x5.0.0; message = x6.0.0; metadata = metadata } in
    let x7 = bind_ok (read_metadata x6.0.1) (λ metadata. Ok (made metadata.0, metadata.1)) (c, rest) x6.2 in
    let parts : CommitParts bytes (made x7.0.0) x7.0.1 = record {
      after_root = x1.0.1;
      after_generation = x2.0.1;
      after_date = x3.0.1;
      after_parents = x4.0.1;
      after_committer = x5.0.1;
      after_message = x6.0.1;
      root_read = x1.1;
      generation_read = x2.1;
      date_read = x3.1;
      parents_read = x4.1;
      committer_read = x5.1;
      message_read = x6.1;
      metadata_read = x7.1;
    } in
    subst (λ (y : CommitRecordValue × List ℕ). CommitParts bytes y.0 y.1) {x = (made x7.0.0, x7.0.1)} (ok_is (made x7.0.0, x7.0.1) (c, rest) x7.2) parts

-- the fields behind the version
abbrev fields_spelling : CommitRecordValue → List ℕ
fields_spelling c =
    c.meta_range.0 ++ (to_be_bytes w64 c.generation ++ (to_be_bytes w64 c.date
    ++ (to_be_bytes w16 (length c.parents) ++ (ids_spelling c.parents
    ++ (short_text c.committer ++ (long_text c.message ++ pairs_spelling c.metadata))))))

commit_takes : (bytes : List ℕ) (c : CommitRecordValue) (rest : List ℕ) → AreBytes bytes → read_commit bytes ≡ Ok (c, rest)
    → Takes bytes (fields_spelling c) rest × IsSpelledCommit c
commit_takes bytes c rest fits h =
    let p = commit_parts bytes c rest h in
    let t1 = bytes_takes 32 bytes c.meta_range.0 p.after_root fits p.root_read in
    let len = (bytes_take 32 bytes c.meta_range.0 p.after_root p.root_read).2 in
    let g = generation_is p.after_root c.generation p.after_generation p.generation_read in
    let t2 = number_takes w64 (2 ^ 64) wide64 p.after_root c.generation p.after_generation t1.0.rest_fits g.0 in
    let t3 = number_takes w64 (2 ^ 64) wide64 p.after_generation c.date p.after_date t2.0.rest_fits p.date_read in
    let t4 = parents_read p.after_date c.parents p.after_parents t3.0.rest_fits p.parents_read in
    let t5 = text_takes 1 128 p.after_parents c.committer p.after_committer t4.takes.rest_fits p.committer_read in
    let t6 = long_text_takes 65536 p.after_committer c.message p.after_message t5.rest_fits p.message_read in
    let t7 = metadata_takes p.after_message c.metadata rest t6.rest_fits p.metadata_read in
    let committer = text_limits 1 128 p.after_parents c.committer p.after_committer p.committer_read in
    let message = long_text_limits 65536 p.after_committer c.message p.after_message p.message_read in
    let b6 = takes_then p.after_committer (long_text c.message) p.after_message (pairs_spelling c.metadata) rest t6 t7.0 in
    let b5 = takes_then p.after_parents (short_text c.committer) p.after_committer _ rest t5 b6 in
    let count = to_be_bytes w16 (length c.parents) in
    let tail = short_text c.committer ++ (long_text c.message ++ pairs_spelling c.metadata) in
    let b4 = subst (λ l. Takes p.after_date l rest) (append_assoc count (ids_spelling c.parents) tail)
    (takes_then p.after_date (count ++ ids_spelling c.parents) p.after_parents tail rest t4.takes b5) in
    let b3 = takes_then p.after_generation (to_be_bytes w64 c.date) p.after_date _ rest t3.0 b4 in
    let b2 = takes_then p.after_root (to_be_bytes w64 c.generation) p.after_generation _ rest t2.0 b3 in
    let b1 = takes_then bytes c.meta_range.0 p.after_root _ rest t1.0 b2 in (
      b1,
      record {
        commit = record {
          remark = record { some = committer.long; short = committer.short; short_message = message.short };
          counted = g.1;
          few = parents_few p.after_date c.parents p.after_parents p.parents_read;
        };
        meta_range = record { long = len; bytes = t1.1 };
        parents = t4.each;
        generation = t2.1;
        date = t3.1;
        committer = committer.utf8;
        message = message.utf8;
        metadata = t7.1;
      },
    )

abbrev done : CommitRecordValue → Result CommitRecordValue CommitFault
done c = Ok c

same : (a b : CommitRecordValue) → done a ≡ done b → a ≡ b
same a b e = cc

-- a test of the whole that did not fail
whole_ok : (n : ℕ) (r : Made) (c : CommitRecordValue) → whole n r ≡ Ok c → r ≡ Ok (c, [])
whole_ok n (Ok x) c h =
    let t = nothing_left (eqb (length x.1) 0) h in
    let none : x.1 ≡ [] = nil_from_length x.1 (eqb-true (length x.1) 0 t.0) in
    ap (λ (d : CommitRecordValue). Ok (d, x.1)) t.1 ∙ ap (λ (l : List ℕ). Ok (c, l)) none
  where
    nothing_left : (b : Bool) → cond b (Ok x.0) (Err (Trailing (length x.1))) ≡ Ok c → (b ≡ true) × (x.0 ≡ c)
    nothing_left true e = (refl, same x.0 c e)
    nothing_left false e = absurd cc
whole_ok n (Err fault) c h = absurd cc

pub found : (bytes : List ℕ) (c : CommitRecordValue) → AreBytes bytes → commit_from bytes ≡ Ok c → IsSpelledCommit c × (bytes ≡ commit_spelling c)
unfolding commit_from commit_spelling
found [] c fits h = absurd cc
found (version ∷ fields) c fits h =
    let v = version_ok (eqb version 1) h in
    let t = commit_takes fields c [] (λ i. fits (suc i)) (whole_ok (length (version ∷ fields)) (read_commit fields) c v.1) in
    (t.1, ap (λ n. n ∷ fields) (eqb-true version 1 v.0) ∙ ap (λ l. 1 ∷ l) (t.0.parts ∙ append-nil (fields_spelling c)))
  where
    version_ok : (b : Bool) → cond b (whole (length (version ∷ fields)) (read_commit fields)) (Err (Version version)) ≡ Ok c
        → (b ≡ true) × (whole (length (version ∷ fields)) (read_commit fields) ≡ Ok c)
    version_ok true e = (refl, e)
    version_ok false e = absurd cc

-- ---- what was written is read again

ids_again : (before ids : List Digest) (rest : List ℕ) → AreDigests ids → read_ids (length ids) before (ids_spelling ids ++ rest) ≡ Ok (before ++ ids, rest)
unfolding read_ids
ids_again before [] rest each = ap (λ (l : List Digest). Ok (l, rest)) (sym (append-nil before))
ids_again before (id ∷ ids) rest each =
    let tail = ids_spelling ids ++ rest in
    let regrouped : ids_spelling (id ∷ ids) ++ rest ≡ id.0 ++ tail =
    ap (λ l. l ++ rest) (flat_map-cons (λ (d : Digest). d.0) id ids) ∙ append_assoc id.0 (ids_spelling ids) rest in
    ap (read_ids (suc (length ids)) before) regrouped
    ∙ ap (λ (r : Result (List ℕ × List ℕ) FieldFault). r >>= λ d. read_ids (length ids) (before ++ id_of d.0 ∷ []) d.1) (bytes_again 32 id.0 tail each.0.long)
    ∙ ids_again (before ++ id ∷ []) ids rest each.1
    ∙ ap (λ (l : List Digest). Ok (l, rest)) (append_assoc before (id ∷ []) ids)

parents_again : (ids : List Digest) (rest : List ℕ) → length ids ≤ 2 → AreDigests ids
    → read_parents (to_be_bytes w16 (length ids) ++ (ids_spelling ids ++ rest)) ≡ Ok (ids, rest)
unfolding read_parents
parents_again ids rest le each =
    let few : ltb 2 (length ids) ≡ false = le-ltb _ _ le in
    rw (number_again w16 (2 ^ 16) wide16 (length ids) (ids_spelling ids ++ rest) (omega arith), few) (ids_again [] ids rest each)

generation_again : (n : ℕ) (rest : List ℕ) → 1 ≤ n → n < 2 ^ 64 → read_generation (to_be_bytes w64 n ++ rest) ≡ Ok (n, rest)
unfolding read_generation
generation_again n rest some lt =
    let not_zero : eqb n 0 ≡ false = ne_eqb n 0 (λ none. omega arith) in
    rw (number_again w64 (2 ^ 64) wide64 n rest lt, not_zero) refl

commit_again : (c : CommitRecordValue) → IsSpelledCommit c → read_commit (fields_spelling c) ≡ Ok (c, [])
unfolding read_commit
commit_again c is =
    let d = pairs_spelling c.metadata in
    let m = long_text c.message in
    let t = short_text c.committer in
    let p = ids_spelling c.parents in
    let n = to_be_bytes w16 (length c.parents) in
    let w = to_be_bytes w64 c.date in
    let g = to_be_bytes w64 c.generation in
    let end : read_metadata d ≡ Ok (c.metadata, []) = ap read_metadata (sym (append-nil d)) ∙ metadata_again c.metadata [] is.metadata in
    rw (
      bytes_again 32 c.meta_range.0 (g ++ (w ++ (n ++ (p ++ (t ++ (m ++ d)))))) is.meta_range.long,
      generation_again c.generation (w ++ (n ++ (p ++ (t ++ (m ++ d))))) is.commit.counted is.generation,
      number_again w64 (2 ^ 64) wide64 c.date (n ++ (p ++ (t ++ (m ++ d)))) is.date,
      parents_again c.parents (t ++ (m ++ d)) is.commit.few is.parents,
      text_again 1 128 c.committer (m ++ d) (omega arith) (record { long = is.commit.remark.some; short = is.commit.remark.short; utf8 = is.committer }),
      long_text_again 65536 c.message d (omega arith) (record { long = omega arith; short = is.commit.remark.short_message; utf8 = is.message }),
      end,
    ) refl

pub again : (c : CommitRecordValue) → IsSpelledCommit c → commit_from (commit_spelling c) ≡ Ok c
unfolding commit_from commit_spelling
again c is = ap (whole (length (commit_spelling c))) (commit_again c is)

pub apart : (a b : CommitRecordValue) → IsSpelledCommit a → IsSpelledCommit b → commit_spelling a ≡ commit_spelling b → a ≡ b
apart a b ha hb e = same a b (sym (again a ha) ∙ ap commit_from e ∙ again b hb)

-- ---- what one call after another appends

pub eight : (head root generation date count parents committer message metadata all o1 o2 o3 o4 o5 o6 o7 : List ℕ)
    → o1 ≡ head → o2 ≡ o1 ++ root → o3 ≡ o2 ++ generation → o4 ≡ o3 ++ date → o5 ≡ o4 ++ (count ++ parents)
    → o6 ≡ o5 ++ committer → o7 ≡ o6 ++ message → all ≡ o7 ++ metadata
    → all ≡ head ++ (root ++ (generation ++ (date ++ (count ++ (parents ++ (committer ++ (message ++ metadata)))))))
eight head root generation date count parents committer message metadata all o1 o2 o3 o4 o5 o6 o7 e1 e2 e3 e4 e5 e6 e7 e8 =
    rw (e8, e7, e6, e5, e4, e3, e2, e1) (simp append_assoc)
