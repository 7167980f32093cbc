-- One appended field after the other, and the room that is left.
use Rattle.std.proofs.Common.{◌≡◌, ℕ, ◌+◌, ◌<◌, List, ◌∷◌, ◌++◌, length, get_or, take, drop, Vec, sym, ap, subst, ◌∙◌, append_assoc, add-one, drop-cons, refl}
use Rattle.std.proofs.Common.{arith}
use Rattle.std.specs.List.{flat_map}
use Rattle.std.proofs.lemmas.List.{length-append}
use Rattle.std.proofs.lemmas.List.Concat.{flat_map-cons}
use Rattle.lake_format.specs.Spelling.{short_text, pair_spelling}
use Rattle.lake_format.specs.Writing.{HasRoom, Appends}
use Rattle.lake_base.proofs.ListLemmas.{flat_take}

-- the pairs from a place on
pairs_from : (pairs : List (List ℕ × List ℕ)) (i : ℕ) (pair : List ℕ × List ℕ) → i < length pairs → pair ≡ get_or pairs i pair
    → length (flat_map pair_spelling (drop i pairs)) ≡ (2 + length pair.0) + ((2 + length pair.1) + length (flat_map pair_spelling (drop (i + 1) pairs)))
pairs_from pairs i pair lt is =
    let front : drop i pairs ≡ pair ∷ drop (i + 1) pairs = rw (add-one, drop-cons pairs i pair, ← is) refl in
    let here : flat_map pair_spelling (drop i pairs) ≡ pair_spelling pair ++ flat_map pair_spelling (drop (i + 1) pairs) =
    ap (flat_map pair_spelling) front ∙ flat_map-cons pair_spelling pair (drop (i + 1) pairs) in
    omega (arith, ap length here, length-append (pair_spelling pair) (flat_map pair_spelling (drop (i + 1) pairs)), length-append pair.0 (short_text pair.1))

module _ {A : Type 0} where
  -- one after the other
  pub appends_then : (a b c : Vec ℕ A) (x y : List ℕ) → Appends a b x → Appends b c y → Appends a c (x ++ y)
  appends_then a b c x y p q = record {
    items = q.items ∙ ap (λ l. l ++ y) p.items ∙ append_assoc a.items x y;
    len = omega (arith, p.len, q.len, length-append x y);
    capacity = omega (arith, p.capacity, q.capacity);
  }

  -- the same bytes
  pub appends_as : (a b : Vec ℕ A) (x y : List ℕ) → x ≡ y → Appends a b x → Appends a b y
  appends_as a b x y same p = subst (Appends a b) same p

  -- what is left of the room
  pub room_after : (a b : Vec ℕ A) (x : List ℕ) (n : ℕ) → Appends a b x → HasRoom a (length x + n) → HasRoom b n
  room_after a b x n p room = omega (arith, p.len, p.capacity)

  -- there is room for a pair, and then for the others
  pub record PairRoom (a b c : Vec ℕ A) (pairs : List (List ℕ × List ℕ)) (i : ℕ) (key value : List ℕ) : Type 0 where
    pub for_key : HasRoom a (2 + length key)
    pub for_value : Appends a b (short_text key) → HasRoom b (2 + length value)
    pub for_others : Appends a b (short_text key) → Appends b c (short_text value) → HasRoom c (length (flat_map pair_spelling (drop (i + 1) pairs)))

  pub pair_room : (a b c : Vec ℕ A) (pairs : List (List ℕ × List ℕ)) (i : ℕ) (pair : List ℕ × List ℕ) (key value : List ℕ) → i < length pairs
      → pair ≡ get_or pairs i pair → key ≡ pair.0 → value ≡ pair.1
      → HasRoom a (length (flat_map pair_spelling (drop i pairs))) → PairRoom a b c pairs i key value
  pair_room a b c pairs i pair key value lt is key-is value-is room =
      let all = pairs_from pairs i pair lt is in
      let k = ap length key-is in
      let v = ap length value-is in
      record {
        for_key = omega arith;
        for_value = λ p. omega (arith, p.len, p.capacity);
        for_others = λ p q. omega (arith, p.len, p.capacity, q.len, q.capacity);
      }

  -- one more pair
  pub pair_more : (a b c d : Vec ℕ A) (head : List ℕ) (pairs : List (List ℕ × List ℕ)) (i : ℕ) (pair : List ℕ × List ℕ) (key value : List ℕ) → i < length pairs
      → pair ≡ get_or pairs i pair → key ≡ pair.0 → value ≡ pair.1
      → Appends a b (head ++ flat_map pair_spelling (take i pairs)) → Appends b c (short_text key) → Appends c d (short_text value)
      → Appends a d (head ++ flat_map pair_spelling (take (i + 1) pairs))
  pair_more a b c d head pairs i pair key value lt is key-is value-is so_far p q =
      let one = appends_then b c d (short_text key) (short_text value) p q in
      let all = appends_then a b d (head ++ flat_map pair_spelling (take i pairs)) (short_text key ++ short_text value) so_far one in
      appends_as a d _ _ (
      append_assoc head (flat_map pair_spelling (take i pairs)) (short_text key ++ short_text value)
      ∙ ap (λ l. head ++ l) (ap (λ k. flat_map pair_spelling (take i pairs) ++ (short_text k ++ short_text value)) key-is
      ∙ ap (λ v. flat_map pair_spelling (take i pairs) ++ (short_text pair.0 ++ short_text v)) value-is
      ∙ sym (flat_take pair_spelling pairs i pair lt is))
      ) all
