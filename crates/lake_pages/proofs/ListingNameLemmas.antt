-- The least bytes above a name, and above all that begin with it.
use Rattle.std.proofs.Common.{◌≡◌, ℕ, ◌+◌, ◌-◌, ◌/◌, ◌%◌, ◌<◌, ◌&&◌, ◌⊎◌, inl, inr, Bool, true, false, cond, not, eqb, ltb, List, [], ◌∷◌, ◌++◌, length, get_or}
use Rattle.std.proofs.Common.{set, nat_eq, refl, sym, ap, subst, ◌∙◌, eq-eqb, arith}
use Rattle.std.specs.List.{starts_with}
use Rattle.std.specs.Ordering.{nat_cmp, is_gt, is_lt, ordering_then}
use Rattle.std.specs.declared.cmp.Ordering.TheVariants.{Less, Equal, Greater}
use Rattle.std.specs.Str.{is_utf8, IsUtf8}
use Rattle.std.proofs.lemmas.Bool.{cases_lt, cases_eq, lt-ltb, le-ltb, ne_eqb, ltb-true}
use Rattle.std.proofs.lemmas.List.{length-append, append-nil}
use Rattle.std.proofs.lemmas.Str.{IsUtf8-from_is_utf8}
use Rattle.std.proofs.Math.Utf8.{encode, encodes}
use Rattle.lake_pages.specs.ListingSteps.{last_byte_plus_one, name_end}
use Rattle.lake_base.specs.Maps.{byte_order}
use Rattle.lake_pages.proofs.ListingPrefixLemmas.{same_number}

-- ---- bytes

cases_order : (x y : ℕ) → (x < y) ⊎ ((x ≡ y) ⊎ (y < x))
cases_order x y =
    elim (cases_lt x y) [
      | inl lt ↦ inl lt
      | inr le ↦ elim (cases_eq x y) [ inl e ↦ inr (inl e) | inr ne ↦ inr (inr (omega arith)) ]
    ]

cmp_less : (x y : ℕ) → x < y → nat_cmp x y ≡ Less
cmp_less x y lt = ap (λ c. cond c Less (cond (eqb x y) Equal Greater)) (lt-ltb x y lt)

cmp_greater : (x y : ℕ) → y < x → nat_cmp x y ≡ Greater
cmp_greater x y lt =
    ap (λ c. cond c Less (cond (eqb x y) Equal Greater)) (le-ltb x y (omega arith)) ∙ ap (λ c. cond c Equal Greater) (ne_eqb x y (λ e. omega arith))

apart : (x y : ℕ) → x < y → nat_eq x y ≡ false
apart x y lt = ne_eqb x y (λ e. omega arith)

not_low : (x y : ℕ) (xs ys : List ℕ) → y < x → is_gt (byte_order (x ∷ xs) (y ∷ ys)) ≡ false → ⊥
not_low x y xs ys lt le = cc (sym (ap (λ o. is_gt (ordering_then o (byte_order xs ys))) (cmp_greater x y lt)) ∙ le)

never_below_none : (k : List ℕ) → is_lt (byte_order k []) ≡ false
never_below_none [] = refl
never_below_none (y ∷ k) = refl

-- ---- the end of a name

-- a byte against the one above another
one_more : (x y : ℕ) (k : List ℕ) → x < y → is_lt (ordering_then (nat_cmp y (x + 1)) (byte_order k [])) ≡ false
one_more x y k lt =
    elim (cases_eq y (x + 1)) [
      | inl e ↦ ap (λ n. is_lt (ordering_then (nat_cmp n (x + 1)) (byte_order k []))) e
          ∙ ap (λ o. is_lt (ordering_then o (byte_order k []))) (same_number (x + 1)) ∙ never_below_none k
      | inr ne ↦ ap (λ o. is_lt (ordering_then o (byte_order k []))) (cmp_greater y (x + 1) (omega arith))
    ]

raised_end : (x : ℕ) (xs k : List ℕ) → is_gt (byte_order (x ∷ xs) k) ≡ false → is_lt (byte_order k (last_byte_plus_one x xs)) ≡ starts_with nat_eq k (x ∷ xs)
raised_end x xs [] le = absurd cc
raised_end x [] (y ∷ k) le =
    elim (cases_order x y) [
      | inl lt ↦ one_more x y k lt ∙ sym (ap (λ b. b && true) (apart x y lt))
      | inr (inl e) ↦
          ap (λ o. is_lt (ordering_then o (byte_order k []))) (cmp_less y (x + 1) (omega arith)) ∙ sym (ap (λ b. b && true) (eq-eqb x y e))
      | inr (inr lt) ↦ absurd (not_low x y [] k lt le)
    ]
raised_end x (z ∷ xs) (y ∷ k) le =
    elim (cases_order x y) [
      | inl lt ↦
          ap (λ o. is_lt (ordering_then o (byte_order k (last_byte_plus_one z xs)))) (cmp_greater y x lt)
          ∙ sym (ap (λ b. b && starts_with nat_eq k (z ∷ xs)) (apart x y lt))
      | inr (inl e) ↦
          let one : nat_cmp y x ≡ Equal = ap (nat_cmp y) e ∙ same_number y in
          let other : nat_cmp x y ≡ Equal = ap (nat_cmp x) (sym e) ∙ same_number x in
          ap (λ o. is_lt (ordering_then o (byte_order k (last_byte_plus_one z xs)))) one
          ∙ raised_end z xs k (sym (ap (λ o. is_gt (ordering_then o (byte_order (z ∷ xs) k))) other) ∙ le)
          ∙ sym (ap (λ b. b && starts_with nat_eq k (z ∷ xs)) (eq-eqb x y e))
      | inr (inr lt) ↦ absurd (not_low x y (z ∷ xs) k lt le)
    ]

-- of the keys not below a name, those below its end begin with it
pub below_end : (name k : List ℕ) → 0 < length name → is_gt (byte_order name k) ≡ false → is_lt (byte_order k (name_end name)) ≡ starts_with nat_eq k name
below_end [] k some le = absurd (omega arith)
below_end (x ∷ xs) k some le = raised_end x xs k le

-- the keys below a name with a zero after it aren't above the name
pub below_zero : (name k : List ℕ) → is_lt (byte_order k (name ++ 0 ∷ [])) ≡ not (is_lt (byte_order name k))
below_zero [] [] = refl
below_zero [] (y ∷ k) =
    elim (cases_eq y 0) [
      | inl e ↦ ap (λ n. is_lt (ordering_then (nat_cmp n 0) (byte_order k []))) e ∙ never_below_none k
      | inr ne ↦ ap (λ o. is_lt (ordering_then o (byte_order k []))) (cmp_greater y 0 (omega arith))
    ]
below_zero (x ∷ name) [] = refl
below_zero (x ∷ name) (y ∷ k) =
    elim (cases_order x y) [
      | inl lt ↦
          ap (λ o. is_lt (ordering_then o (byte_order k (name ++ 0 ∷ [])))) (cmp_greater y x lt)
          ∙ sym (ap (λ o. not (is_lt (ordering_then o (byte_order name k)))) (cmp_less x y lt))
      | inr (inl e) ↦
          let one : nat_cmp y x ≡ Equal = ap (nat_cmp y) e ∙ same_number y in
          let other : nat_cmp x y ≡ Equal = ap (nat_cmp x) (sym e) ∙ same_number x in
          ap (λ o. is_lt (ordering_then o (byte_order k (name ++ 0 ∷ [])))) one ∙ below_zero name k
          ∙ sym (ap (λ o. not (is_lt (ordering_then o (byte_order name k)))) other)
      | inr (inr lt) ↦
          ap (λ o. is_lt (ordering_then o (byte_order k (name ++ 0 ∷ [])))) (cmp_less y x lt)
          ∙ sym (ap (λ o. not (is_lt (ordering_then o (byte_order name k)))) (cmp_greater x y lt))
    ]

-- ---- the last byte of a text

-- a last byte that can be raised
record HasLowEnd (bytes : List ℕ) : Type 0 where
  pub front : List ℕ
  pub last : ℕ
  pub whole : bytes ≡ front ++ last ∷ []
  pub low : last < 255

one_byte : (c : ℕ) → c < 255 → HasLowEnd (c ∷ [])
one_byte c lt = record { front = []; last = c; whole = refl; low = lt }

longer : (x : ℕ) (bytes : List ℕ) → HasLowEnd bytes → HasLowEnd (x ∷ bytes)
longer x bytes h = record { front = x ∷ h.front; last = h.last; whole = ap (λ l. x ∷ l) h.whole; low = h.low }

char_end : (c : ℕ) → HasLowEnd (encode c)
unfolding encode
char_end c = by (ltb c 128) (ltb c 2048) (ltb c 65536) refl
  where
    by : (p q r : Bool) → ltb c 128 ≡ p → HasLowEnd (cond p (c ∷ []) (cond q ((192 + c / 64) ∷ (128 + c % 64) ∷ []) (cond r ((224 + c / 4096)
        ∷ (128 + (c / 64) % 64) ∷ (128 + c % 64) ∷ []) ((240 + c / 262144) ∷ (128 + (c / 4096) % 64) ∷ (128 + (c / 64) % 64) ∷ (128 + c % 64) ∷ []))))
    by true q r e = one_byte c (omega (arith, ltb-true c 128 e))
    by false true r e = longer _ _ (one_byte _ (omega arith))
    by false false true e = longer _ _ (longer _ _ (one_byte _ (omega arith)))
    by false false false e = longer _ _ (longer _ _ (longer _ _ (one_byte _ (omega arith))))

behind : (front bytes : List ℕ) → HasLowEnd bytes → HasLowEnd (front ++ bytes)
behind [] bytes h = h
behind (x ∷ front) bytes h = longer x (front ++ bytes) (behind front bytes h)

chars_end : (cs : List ℕ) → 0 < length (encodes cs) → HasLowEnd (encodes cs)
chars_end [] some = absurd (omega arith)
chars_end (c ∷ cs) some = by (encodes cs) (chars_end cs)
  where
    by : (rest : List ℕ) → (0 < length rest → HasLowEnd rest) → HasLowEnd (encode c ++ rest)
    by [] h = subst HasLowEnd (sym (append-nil (encode c))) (char_end c)
    by (x ∷ rest) h = behind (encode c) (x ∷ rest) (h (omega arith))

text_end : (bytes : List ℕ) → is_utf8 bytes ≡ true → 0 < length bytes → HasLowEnd bytes
text_end bytes utf8 some =
    let u : IsUtf8 bytes = IsUtf8-from_is_utf8 bytes utf8 in
    subst HasLowEnd u.1.1 (chars_end u.0 (subst (λ l. 0 < length l) (sym u.1.1) some))

at_end : (front : List ℕ) (last : ℕ) → get_or (front ++ last ∷ []) (length front) 0 ≡ last
at_end [] last = refl
at_end (x ∷ front) last = at_end front last

-- the last byte of a text can be raised
pub low_end : (bytes : List ℕ) → is_utf8 bytes ≡ true → 0 < length bytes → get_or bytes (length bytes - 1) 0 < 255
low_end bytes utf8 some =
    let h = text_end bytes utf8 some in
    let place : length bytes - 1 ≡ length h.front = omega (arith, ap length h.whole, length-append h.front (h.last ∷ [])) in
    let is : get_or bytes (length bytes - 1) 0 ≡ h.last =
    ap (λ i. get_or bytes i 0) place ∙ ap (λ l. get_or l (length h.front) 0) h.whole ∙ at_end h.front h.last in
    subst (λ n. n < 255) (sym is) h.low

raised_set : (x : ℕ) (xs : List ℕ) → set (x ∷ xs) (length xs) (get_or (x ∷ xs) (length xs) 0 + 1) ≡ last_byte_plus_one x xs
raised_set x [] = refl
raised_set x (y ∷ xs) = ap (λ l. x ∷ l) (raised_set y xs)

-- a name with its last byte raised by one
pub end_is : (name : List ℕ) → set name (length name - 1) (get_or name (length name - 1) 0 + 1) ≡ name_end name
end_is [] = refl
end_is (x ∷ xs) =
    let last : length (x ∷ xs) - 1 ≡ length xs = omega arith in
    ap (λ i. set (x ∷ xs) i (get_or (x ∷ xs) i 0 + 1)) last ∙ raised_set x xs
