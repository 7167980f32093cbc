-- Reading pairs one after the other, as a loop does, and what is read so.
use Rattle.std.proofs.Common.{◌≡◌, ℕ, zero, suc, ◌-◌, ◌+◌, ◌≤◌, ◌<◌, T, true, cond, List, [], ◌∷◌, ◌++◌, length, Option, Some, None, Result, Ok, Err, refl, sym}
use Rattle.std.proofs.Common.{ap, subst, ◌∙◌, append_assoc, arith}
use Rattle.std.proofs.lemmas.List.{append-nil, length-append}
use Rattle.std.specs.Option.{option_map}
use Rattle.std.specs.List.{slice_get, AllByRecursion}
use Rattle.std.specs.Ordering.{is_lt}
use Rattle.std.specs.Str.{is_utf8}
use Rattle.std.proofs.lemmas.List.Elements.{All-from_recursion}
use Rattle.std.specs.FinMap.Entries.{below_all}
use Rattle.lake_base.specs.Maps.{byte_order, HasAscendingKeys}
use Rattle.lake_values.specs.Pairs.{IsPair, ArePairs}
use Rattle.lake_format.specs.declared.fields.FieldFault.{FieldFault}
use Rattle.lake_format.specs.declared.fields.FieldFault.TheVariants.{Short, Bad, NoMemory}
use Rattle.lake_format.specs.Reading.{◌>>=◌, Fails, read_text, is_next, last_key, read_key, read_pair, read_pairs}
use Rattle.lake_base.proofs.MapsLemmas.{both, less}
use Rattle.lake_values.proofs.KeyMapLemmas.{less_more}
use Rattle.lake_values.proofs.PairsLemmas.{ascend_to}
use Rattle.lake_format.proofs.FieldsLemmas.{bind_ok, test_ok, ok_is, text_limits}

abbrev Read : Type 0
Read = Result (List (List ℕ × List ℕ) × List ℕ) FieldFault

-- what was read before, and what is still read
abbrev pub with_front : List (List ℕ × List ℕ) → Read → Read
with_front front read = read >>= λ x. Ok (front ++ x.0, x.1)

regroup : (front : List (List ℕ × List ℕ)) (p : List ℕ × List ℕ) (read : Read)
    → with_front front (read >>= λ x. Ok (p ∷ x.0, x.1)) ≡ with_front (front ++ p ∷ []) read
regroup front p (Ok x) = ap (λ (ps : List (List ℕ × List ℕ)). Ok (ps, x.1)) (sym (append_assoc front (p ∷ []) x.0))
regroup front p (Err f) = refl

got_at : {X : Type 0} (front : List X) (p : X) → slice_get (front ++ p ∷ []) (length front) ≡ Some p
got_at [] p = refl
got_at (x ∷ front) p = got_at front p

got_last : {X : Type 0} (front : List X) (p : X) → slice_get (front ++ p ∷ []) (length (front ++ p ∷ []) - 1) ≡ Some p
got_last front p =
    let end : length (front ++ p ∷ []) - 1 ≡ length front = omega (arith, length-append front (p ∷ [])) in
    ap (slice_get (front ++ p ∷ [])) end ∙ got_at front p

last_push : (front : List (List ℕ × List ℕ)) (p : List ℕ × List ℕ) → last_key (front ++ p ∷ []) ≡ Some p.0
last_push front p = ap (option_map (λ (pair : List ℕ × List ℕ). pair.0)) (got_last front p)

pub goes_on : (front : List (List ℕ × List ℕ)) (count i : ℕ) (bytes : List ℕ) (p : List ℕ × List ℕ) (after : List ℕ) (total : Read) → i < count
    → read_pair (last_key front) bytes ≡ Ok (p, after)
    → with_front front (read_pairs (count - i) (last_key front) bytes) ≡ total
    → with_front (front ++ p ∷ []) (read_pairs (count - (i + 1)) (last_key (front ++ p ∷ [])) after) ≡ total
unfolding read_pairs
goes_on front count i bytes p after total lt h so_far =
    let k : count - i ≡ suc (count - (i + 1)) = omega arith in
    let one : with_front front (read_pairs (count - i) (last_key front) bytes) ≡ with_front (front ++ p ∷ []) (read_pairs (count - (i + 1)) (Some p.0) after) =
    rw (k, h) (regroup front p (read_pairs (count - (i + 1)) (Some p.0) after)) in
    ap (λ l. with_front (front ++ p ∷ []) (read_pairs (count - (i + 1)) l after)) (last_push front p) ∙ sym one ∙ so_far

pub ends : (e : FieldFault) (front : List (List ℕ × List ℕ)) (count i : ℕ) (bytes : List ℕ) (total : Read) → i < count
    → Fails e (read_pair (last_key front) bytes)
    → with_front front (read_pairs (count - i) (last_key front) bytes) ≡ total → Fails e total
unfolding read_pairs
ends NoMemory front count i bytes total lt h so_far = tt
ends (Short left) front count i bytes total lt h so_far =
    let k : count - i ≡ suc (count - (i + 1)) = omega arith in
    let one : with_front front (read_pairs (count - i) (last_key front) bytes) ≡ Err (Short left) = rw (k, h) refl in
    sym so_far ∙ one
ends (Bad left) front count i bytes total lt h so_far =
    let k : count - i ≡ suc (count - (i + 1)) = omega arith in
    let one : with_front front (read_pairs (count - i) (last_key front) bytes) ≡ Err (Bad left) = rw (k, h) refl in
    sym so_far ∙ one

pub is_done : (front : List (List ℕ × List ℕ)) (count i : ℕ) (bytes : List ℕ) (total : Read) → count ≤ i
    → with_front front (read_pairs (count - i) (last_key front) bytes) ≡ total → total ≡ Ok (front, bytes)
unfolding read_pairs
is_done front count i bytes total le so_far =
    let k : count - i ≡ 0 = omega arith in
    let one : with_front front (read_pairs (count - i) (last_key front) bytes) ≡ Ok (front, bytes) =
    rw k (ap (λ (ps : List (List ℕ × List ℕ)). Ok (ps, bytes)) (append-nil front)) in
    sym so_far ∙ one

-- ---- the limits of what is read

-- the keys are above the one before them
abbrev pub Follow : Option (List ℕ) → List (List ℕ × List ℕ) → Type 0
Follow None pairs = Unit {0}
Follow (Some last) pairs = T (below_all byte_order last pairs)

pub record PairParts (last : Option (List ℕ)) (bytes : List ℕ) (pair : List ℕ × List ℕ) (rest : List ℕ) : Type 0 where
  pub middle : List ℕ
  pub key_read : read_text 1 128 bytes ≡ Ok (pair.0, middle)
  pub next : is_next last pair.0 ≡ true
  pub value_read : read_text 0 1024 middle ≡ Ok (pair.1, rest)

pub pair_parts : (last : Option (List ℕ)) (bytes : List ℕ) (pair : List ℕ × List ℕ) (rest : List ℕ) → read_pair last bytes ≡ Ok (pair, rest)
    → PairParts last bytes pair rest
unfolding read_pair read_key
pair_parts last bytes pair rest e =
    let k = bind_ok (read_key last bytes) (λ key. read_text 0 1024 key.1 >>= λ value. Ok ((key.0, value.0), value.1)) (pair, rest) e in
    let v = bind_ok (read_text 0 1024 k.0.1) (λ value. Ok ((k.0.0, value.0), value.1)) (pair, rest) k.2 in
    let t = bind_ok (read_text 1 128 bytes) (λ key. cond (is_next last key.0) (Ok key) (Err (Bad (length bytes)))) k.0 k.1 in
    let g = test_ok (is_next last t.0.0) (Bad (length bytes)) (Ok t.0) k.0 t.2 in
    let same = ok_is t.0 k.0 g.1 in
    let made = ok_is ((k.0.0, v.0.0), v.0.1) (pair, rest) v.2 in
    subst (λ (y : (List ℕ × List ℕ) × List ℕ). PairParts last bytes y.0 y.1) {x = ((k.0.0, v.0.0), v.0.1)} made (record {
      middle = k.0.1;
      key_read = t.1 ∙ ap (λ (p : List ℕ × List ℕ). Ok p) same;
      next = subst (λ (p : List ℕ × List ℕ). is_next last p.0 ≡ true) same g.0;
      value_read = v.1;
    })

pub record PairsRead (n : ℕ) (last : Option (List ℕ)) (pairs : List (List ℕ × List ℕ)) : Type 0 where
  pub count : length pairs ≡ n
  pub each : AllByRecursion IsPair pairs
  pub utf8 : AllByRecursion (λ pair. (is_utf8 pair.0 ≡ true) × (is_utf8 pair.1 ≡ true)) pairs
  pub follow : Follow last pairs
  pub ascend : HasAscendingKeys pairs

follows : (last : Option (List ℕ)) (pair : List ℕ × List ℕ) (pairs : List (List ℕ × List ℕ)) → is_next last pair.0 ≡ true
    → T (below_all byte_order pair.0 pairs) → Follow last (pair ∷ pairs)
follows None pair pairs next h = tt
follows (Some last) pair pairs next h =
    let lt : T (is_lt (byte_order last pair.0)) = subst T (sym next) tt in
    both _ _ lt (less_more last pair.0 pairs (less _ lt) h)

pub pairs_read : (n : ℕ) (last : Option (List ℕ)) (bytes : List ℕ) (x : List (List ℕ × List ℕ) × List ℕ) → read_pairs n last bytes ≡ Ok x → PairsRead n last x.0
unfolding read_pairs
pairs_read zero last bytes x e =
    subst (λ (y : List (List ℕ × List ℕ) × List ℕ). PairsRead 0 last y.0) (ok_is ([], bytes) x e)
    (record { count = refl; each = tt; utf8 = tt; follow = none last; ascend = tt })
  where
    none : (last : Option (List ℕ)) → Follow last []
    none None = tt
    none (Some k) = tt
pairs_read (suc n) last bytes x e =
    let a = bind_ok (read_pair last bytes) (λ pair. read_pairs n (Some pair.0.0) pair.1 >>= λ more. Ok (pair.0 ∷ more.0, more.1)) x e in
    let b = bind_ok (read_pairs n (Some a.0.0.0) a.0.1) (λ more. Ok (a.0.0 ∷ more.0, more.1)) x a.2 in
    let p = pair_parts last bytes a.0.0 a.0.1 a.1 in
    let key = text_limits 1 128 bytes a.0.0.0 p.middle p.key_read in
    let value = text_limits 0 1024 p.middle a.0.0.1 a.0.1 p.value_read in
    let more = pairs_read n (Some a.0.0.0) a.0.1 b.0 b.1 in
    subst (λ (y : List (List ℕ × List ℕ) × List ℕ). PairsRead (suc n) last y.0) (ok_is (a.0.0 ∷ b.0.0, b.0.1) x b.2) (record {
      count = ap suc more.count;
      each = (record { key = key.long; short_key = key.short; short_value = value.short }, more.each);
      utf8 = ((key.utf8, value.utf8), more.utf8);
      follow = follows last a.0.0 b.0.0 p.next more.follow;
      ascend = both _ _ more.follow more.ascend;
    })

pub are_pairs : (n : ℕ) (bytes : List ℕ) (pairs : List (List ℕ × List ℕ)) (rest : List ℕ) → n ≤ 64 → read_pairs n None bytes ≡ Ok (pairs, rest) → ArePairs pairs
are_pairs n bytes pairs rest le e =
    let r = pairs_read n None bytes (pairs, rest) e in
    record { few = omega (arith, r.count); each = All-from_recursion IsPair pairs r.each; ascending = ascend_to pairs r.ascend }
