-- Numbers and moves of expressions: what is scanned is the longest, and nothing else could be meant.
use Rattle.std.proofs.Common.{◌≡◌, get_or, take, drop, drop-cons, add-one, ℕ, zero, suc, ◌-◌, ◌+◌, ◌*◌, ◌^◌, ◌<◌, ◌≤◌, Bool, true, false, cond, eqb, ltb, ◌&&◌}
use Rattle.std.proofs.Common.{List, [], ◌∷◌, ◌++◌, length, Option, Some, None, refl, sym, ap, subst, ◌∙◌, append_assoc, inl, inr, arith}
use Rattle.std.proofs.lemmas.Bool.{cases_Bool, eqb-true, ltb-true, lt-ltb}
use Rattle.std.proofs.lemmas.Bool.Decides.{nat_tests}
use Rattle.std.proofs.lemmas.List.{append-nil, length-append, length-drop, drop_all, take_all}
use Rattle.std.specs.List.{AllByRecursion}
use Rattle.lake_base.specs.Names.{is_digit, continues_ref}
use Rattle.commit_graph.specs.declared.expression.Move.{Move}
use Rattle.commit_graph.specs.declared.expression.Move.TheVariants.{Back, Parent}
use Rattle.commit_graph.specs.Expressions.{decimal, IsNumber, sign, number_of, AreMoves}
use Rattle.commit_graph.specs.Scanning.{takes_digit, number_from, read_number, read_move, BeginsLike, IsScanned, tail_len}

both_true : (a b : Bool) → (a && b) ≡ true → (a ≡ true) × (b ≡ true)
both_true true b e = (refl, e)
both_true false b e = absurd cc

-- no digit stands at the front
abbrev pub NoDigit : List ℕ → Type 0
NoDigit [] = Unit {0}
NoDigit (byte ∷ bytes) = is_digit byte ≡ false

-- digits and what follows them, as a number is scanned
record IsTaken (more before : ℕ) (bytes : List ℕ) (number : ℕ) (rest : List ℕ) : Type 0 where
  pub digits : List ℕ
  pub parts : bytes ≡ digits ++ rest
  pub each : AllByRecursion (λ digit. is_digit digit ≡ true) digits
  pub few : length digits ≤ more
  pub value : decimal before digits ≡ number
  pub wide : before < 2 ^ 32 → number < 2 ^ 32
  pub local : (y : List ℕ) → BeginsLike rest y → number_from more before (digits ++ y) ≡ (number, y)

abbrev pair : ℕ → List ℕ → ℕ × List ℕ
pair n rest = (n, rest)

number_taken : (more before : ℕ) (bytes : List ℕ) → IsTaken more before bytes (number_from more before bytes).0 (number_from more before bytes).1
unfolding number_from
number_taken zero before bytes = record { digits = []; parts = refl; each = tt; few = omega arith; value = refl; wide = λ h. h; local = λ y like. refl }
number_taken (suc more) before [] = record {
  digits = [];
  parts = refl;
  each = tt;
  few = omega arith;
  value = refl;
  wide = λ h. h;
  local = λ y like. ap (number_from (suc more) before) like ∙ ap (pair before) (sym like);
}
number_taken (suc more) before (byte ∷ bytes) =
    elim (cases_Bool (takes_digit before byte)) [
      | inl so ↦
          let next = before * 10 + (byte - 48) in
          let t = number_taken more next bytes in
          let digit = both_true (is_digit byte) (ltb next 4294967296) so in
          let small : next < 2 ^ 32 = ltb-true _ _ digit.1 in
          subst (λ (x : ℕ × List ℕ). IsTaken (suc more) before (byte ∷ bytes) x.0 x.1)
          (sym (ap (λ b. cond b (number_from more next bytes) (before, byte ∷ bytes)) so)) (record {
            digits = byte ∷ t.digits;
            parts = ap (λ l. byte ∷ l) t.parts;
            each = (digit.0, t.each);
            few = omega (arith, t.few);
            value = t.value;
            wide = λ h. t.wide small;
            local = λ y like. ap (λ b. cond b (number_from more next (t.digits ++ y)) (before, byte ∷ (t.digits ++ y))) so ∙ t.local y like;
          })
      | inr nay ↦
          let next = before * 10 + (byte - 48) in
          subst (λ (x : ℕ × List ℕ). IsTaken (suc more) before (byte ∷ bytes) x.0 x.1)
          (sym (ap (λ b. cond b (number_from more next bytes) (before, byte ∷ bytes)) nay)) (record {
            digits = [];
            parts = refl;
            each = tt;
            few = omega arith;
            value = refl;
            wide = λ h. h;
            local = λ y like. ap (number_from (suc more) before) like.1 ∙ ap (λ b. cond b (number_from more next like.0) (before, byte ∷ like.0)) nay
                ∙ ap (pair before) (sym like.1);
          })
    ]

-- digits only make a number greater
at_least : (before : ℕ) (digits : List ℕ) → before ≤ decimal before digits
at_least before [] = omega arith
at_least before (digit ∷ digits) = omega (arith, at_least (before * 10 + (digit - 48)) digits)

number_stops : (more before : ℕ) (y : List ℕ) → NoDigit y → number_from more before y ≡ (before, y)
unfolding number_from
number_stops zero before y nay = refl
number_stops (suc more) before [] nay = refl
number_stops (suc more) before (byte ∷ bytes) nay =
    ap (λ b. cond (b && ltb (before * 10 + (byte - 48)) 4294967296) (number_from more (before * 10 + (byte - 48)) bytes) (before, byte ∷ bytes)) nay

number_whole : (more before : ℕ) (digits y : List ℕ) → AllByRecursion (λ digit. is_digit digit ≡ true) digits → length digits ≤ more
    → decimal before digits < 2 ^ 32 → NoDigit y
    → number_from more before (digits ++ y) ≡ (decimal before digits, y)
unfolding number_from
number_whole more before [] y each few wide nay = number_stops more before y nay
number_whole zero before (digit ∷ digits) y each few wide nay = absurd (omega arith)
number_whole (suc more) before (digit ∷ digits) y each few wide nay =
    let next = before * 10 + (digit - 48) in
    let small : ltb next 4294967296 ≡ true = lt-ltb _ _ (omega (arith, at_least next digits)) in
    ap (λ b. cond (b && ltb next 4294967296) (number_from more next (digits ++ y)) (before, digit ∷ (digits ++ y))) each.0
    ∙ ap (λ b. cond b (number_from more next (digits ++ y)) (before, digit ∷ (digits ++ y))) small
    ∙ number_whole more next digits y each.1 (omega arith) wide nay

-- the number of a move, and what follows it
pub record NumberRead (bytes : List ℕ) (number : ℕ) (rest : List ℕ) : Type 0 where
  pub digits : List ℕ
  pub parts : bytes ≡ digits ++ rest
  pub spelled : IsNumber number digits
  pub local : (y : List ℕ) → BeginsLike rest y → read_number (digits ++ y) ≡ (number, y)

digit_small : (byte : ℕ) → is_digit byte ≡ true → byte ≤ 57
digit_small byte h = grind (arith, nat_tests, h)

-- the first digit is taken
first_digit : (byte : ℕ) (bytes : List ℕ) → is_digit byte ≡ true → number_from 10 0 (byte ∷ bytes) ≡ number_from 9 (0 * 10 + (byte - 48)) bytes
unfolding number_from
first_digit byte bytes so =
    let next = 0 * 10 + (byte - 48) in
    let small : ltb next 4294967296 ≡ true = lt-ltb _ _ (omega (arith, digit_small byte so)) in
    ap (λ b. cond (b && ltb next 4294967296) (number_from 9 next bytes) (0, byte ∷ bytes)) so
    ∙ ap (λ b. cond b (number_from 9 next bytes) (0, byte ∷ bytes)) small

pub number_read : (bytes : List ℕ) → NumberRead bytes (read_number bytes).0 (read_number bytes).1
unfolding read_number
number_read [] = record { digits = []; parts = refl; spelled = refl; local = λ y like. ap read_number like ∙ ap (pair 1) (sym like) }
number_read (byte ∷ bytes) =
    elim (cases_Bool (is_digit byte)) [
      | inl so ↦
          let next = 0 * 10 + (byte - 48) in
          let t = number_taken 9 next bytes in
          let here : read_number (byte ∷ bytes) ≡ number_from 9 next bytes =
          ap (λ b. cond b (number_from 10 0 (byte ∷ bytes)) (1, byte ∷ bytes)) so ∙ first_digit byte bytes so in
          subst (λ (x : ℕ × List ℕ). NumberRead (byte ∷ bytes) x.0 x.1) (sym here) (record {
            digits = byte ∷ t.digits;
            parts = ap (λ l. byte ∷ l) t.parts;
            spelled = record { each = (so, t.each); few = omega (arith, t.few); value = t.value; wide = t.wide (omega (arith, digit_small byte so)) };
            local = λ y like. ap (λ b. cond b (number_from 10 0 (byte ∷ (t.digits ++ y))) (1, byte ∷ (t.digits ++ y))) so ∙ first_digit byte (t.digits ++ y) so
                ∙ t.local y like;
          })
      | inr nay ↦
          subst (λ (x : ℕ × List ℕ). NumberRead (byte ∷ bytes) x.0 x.1)
          (sym (ap (λ b. cond b (number_from 10 0 (byte ∷ bytes)) (1, byte ∷ bytes)) nay)) (record {
            digits = [];
            parts = refl;
            spelled = refl;
            local = λ y like. ap read_number like.1 ∙ ap (λ b. cond b (number_from 10 0 (byte ∷ like.0)) (1, byte ∷ like.0)) nay ∙ ap (pair 1) (sym like.1);
          })
    ]

-- a number that was written is the one that is read
number_again : (number : ℕ) (digits y : List ℕ) → IsNumber number digits → NoDigit y → read_number (digits ++ y) ≡ (number, y)
unfolding read_number
number_again number [] [] is nay = ap (λ n. pair n []) (sym is)
number_again number [] (byte ∷ y) is nay = ap (λ b. cond b (number_from 10 0 (byte ∷ y)) (1, byte ∷ y)) nay ∙ ap (λ n. pair n (byte ∷ y)) (sym is)
number_again number (digit ∷ digits) y is nay =
    let wide : decimal 0 (digit ∷ digits) < 2 ^ 32 = omega (arith, is.value, is.wide) in
    ap (λ b. cond b (number_from 10 0 (digit ∷ (digits ++ y))) (1, digit ∷ (digits ++ y))) is.each.0
    ∙ number_whole 10 0 (digit ∷ digits) y is.each is.few wide nay ∙ ap (λ n. pair n y) is.value

-- ---- moves

-- no digit stands where moves begin
no_digit : (moves : List Move) (text : List ℕ) → AreMoves moves text → NoDigit text
no_digit [] text is = subst NoDigit (sym is) tt
no_digit (Back n ∷ moves) text is = subst NoDigit (sym is.2) refl
no_digit (Parent n ∷ moves) text is = subst NoDigit (sym is.2) refl

-- the move of a sign
made : Bool → ℕ → Move
made true n = Back n
made false n = Parent n

same_pair : (n m : ℕ) (x y : List ℕ) → pair n x ≡ pair m y → (n ≡ m) × (x ≡ y)
same_pair n m x y e = (ap (λ (p : ℕ × List ℕ). p.0) e, ap (λ (p : ℕ × List ℕ). p.1) e)

-- two moves of one sign and one number
same_move : (a b : Move) → sign a ≡ sign b → number_of a ≡ number_of b → a ≡ b
same_move (Back n) (Back m) s e = ap (λ k. Back k) e
same_move (Parent n) (Parent m) s e = ap (λ k. Parent k) e
same_move (Back n) (Parent m) s e = absurd (omega arith)
same_move (Parent n) (Back m) s e = absurd (omega arith)

-- the move that was read, and what follows it
pub record MoveRead (bytes : List ℕ) (one : Move) (rest : List ℕ) : Type 0 where
  pub after : List ℕ
  pub starts : bytes ≡ sign one ∷ after
  pub number : NumberRead after (number_of one) rest

pub heads : (a b : ℕ) (x y : List ℕ) → a ∷ x ≡ b ∷ y → (a ≡ b) × (x ≡ y)
heads a b x y e = (cc, cc)

-- one move more
pub scanned_more : (bytes : List ℕ) (moves : List Move) (rest after : List ℕ) (one : Move) → IsScanned bytes moves rest → MoveRead rest one after
    → IsScanned bytes (moves ++ one ∷ []) after
scanned_more bytes moves rest after one s r =
    let d = r.number.digits in
    let here : rest ≡ (sign one ∷ d) ++ after = r.starts ∙ ap (λ l. sign one ∷ l) r.number.parts in
    record {
      front = s.front ++ (sign one ∷ d);
      parts = s.parts ∙ ap (λ l. s.front ++ l) here ∙ sym (append_assoc s.front (sign one ∷ d) after);
      spelled = moves_end moves s.front s.spelled;
      forced = λ others y like are.
          let whole = subst (AreMoves others) (append_assoc s.front (sign one ∷ d) y) are in
          let f = s.forced others (sign one ∷ (d ++ y)) (like_rest (d ++ y)) whole in
          let g = next f.0 y like f.2 in
          (g.0, f.1 ∙ ap (λ l. moves ++ l) g.1 ∙ sym (append_assoc moves (one ∷ []) g.0), g.2);
    }
  where
    like_rest : (z : List ℕ) → BeginsLike rest (sign one ∷ z)
    like_rest z = subst (λ (r : List ℕ). BeginsLike r (sign one ∷ z)) (sym r.starts) (z, refl)

    moves_end : (moves : List Move) (front : List ℕ) → AreMoves moves front → AreMoves (moves ++ one ∷ []) (front ++ (sign one ∷ r.number.digits))
    moves_end [] front is = (
      r.number.digits,
      [],
      ap (λ l. l ++ (sign one ∷ r.number.digits)) is ∙ ap (λ l. sign one ∷ l) (sym (append-nil r.number.digits)),
      r.number.spelled,
      refl,
    )
    moves_end (m ∷ moves) front is = (
      is.0,
      is.1 ++ (sign one ∷ r.number.digits),
      ap (λ l. l ++ (sign one ∷ r.number.digits)) is.2
          ∙ ap (λ l. sign m ∷ l) (append_assoc is.0 is.1 (sign one ∷ r.number.digits)),
      is.3,
      moves_end moves is.1 is.4,
    )

    next : (later : List Move) (y : List ℕ) → BeginsLike after y → AreMoves later (sign one ∷ (r.number.digits ++ y))
        → (more : List Move) × (later ≡ one ∷ more) × AreMoves more y
    next [] y like is = absurd cc
    next (m ∷ later) y like is =
        let h = heads (sign one) (sign m) (r.number.digits ++ y) (is.0 ++ is.1) is.2 in
        let e = sym (r.number.local y like) ∙ ap read_number h.1 ∙ number_again (number_of m) is.0 is.1 is.3 (no_digit later is.1 is.4) in
        let p = same_pair (number_of one) (number_of m) y is.1 e in
        (later, ap (λ (k : Move). k ∷ later) (sym (same_move one m h.0 p.0)), subst (AreMoves later) (sym p.1) is.4)

pub scanned_none : (bytes : List ℕ) → IsScanned bytes [] bytes
scanned_none bytes = record { front = []; parts = refl; spelled = refl; forced = λ others y like are. (others, refl, are) }

-- ---- a loop over digits, and one over the bytes of a name

module _ (bytes : List ℕ) (i : ℕ) where
  front_is : i < length bytes → drop i bytes ≡ get_or bytes i 0 ∷ drop (i + 1) bytes
  front_is lt = rw (add-one, drop-cons bytes i 0) refl

  pub number_step : (before : ℕ) (all : ℕ × List ℕ) → i < length bytes → i < 10 → takes_digit before (get_or bytes i 0) ≡ true
      → number_from (10 - i) before (drop i bytes) ≡ all → number_from (10 - (i + 1)) (before * 10 + (get_or bytes i 0 - 48)) (drop (i + 1) bytes) ≡ all
  unfolding number_from
  number_step before all lt few so so_far =
      let k : 10 - i ≡ suc (10 - (i + 1)) = omega arith in
      let byte = get_or bytes i 0 in
      sym (ap (λ b. cond b (number_from (10 - (i + 1)) (before * 10 + (byte - 48)) (drop (i + 1) bytes)) (before, byte ∷ drop (i + 1) bytes)) so)
      ∙ sym (ap (λ m. number_from m before (byte ∷ drop (i + 1) bytes)) k) ∙ sym (ap (number_from (10 - i) before) (front_is lt)) ∙ so_far

  pub number_ends : (before : ℕ) (all : ℕ × List ℕ) → i < length bytes → i < 10 → takes_digit before (get_or bytes i 0) ≡ false
      → number_from (10 - i) before (drop i bytes) ≡ all → (before, drop i bytes) ≡ all
  unfolding number_from
  number_ends before all lt few nay so_far =
      let k : 10 - i ≡ suc (10 - (i + 1)) = omega arith in
      let byte = get_or bytes i 0 in
      ap (pair before) (front_is lt)
      ∙ sym (ap (λ b. cond b (number_from (10 - (i + 1)) (before * 10 + (byte - 48)) (drop (i + 1) bytes)) (before, byte ∷ drop (i + 1) bytes)) nay)
      ∙ sym (ap (λ m. number_from m before (byte ∷ drop (i + 1) bytes)) k) ∙ sym (ap (number_from (10 - i) before) (front_is lt)) ∙ so_far

  pub number_full : (before : ℕ) (all : ℕ × List ℕ) → 10 ≤ i → number_from (10 - i) before (drop i bytes) ≡ all → (before, drop i bytes) ≡ all
  unfolding number_from
  number_full before all full so_far = let k : 10 - i ≡ 0 = omega arith in sym (ap (λ m. number_from m before (drop i bytes)) k) ∙ so_far

  pub number_past : (before : ℕ) (all : ℕ × List ℕ) → length bytes ≤ i → number_from (10 - i) before (drop i bytes) ≡ all → (before, []) ≡ all
  number_past before all past so_far =
      let none : drop i bytes ≡ [] = drop_all i bytes past in
      sym (number_stops (10 - i) before [] tt) ∙ sym (ap (number_from (10 - i) before) none) ∙ so_far

  pub tail_step : (all : ℕ) → i < length bytes → i < 254 → continues_ref (get_or bytes i 0) ≡ true → i + tail_len (254 - i) (drop i bytes) ≡ all
      → (i + 1) + tail_len (254 - (i + 1)) (drop (i + 1) bytes) ≡ all
  unfolding tail_len
  tail_step all lt few so so_far =
      let k : 254 - i ≡ suc (254 - (i + 1)) = omega arith in
      let byte = get_or bytes i 0 in
      let here : tail_len (254 - i) (drop i bytes) ≡ suc (tail_len (254 - (i + 1)) (drop (i + 1) bytes)) =
      ap (tail_len (254 - i)) (front_is lt) ∙ ap (λ m. tail_len m (byte ∷ drop (i + 1) bytes)) k
      ∙ ap (λ b. cond b (suc (tail_len (254 - (i + 1)) (drop (i + 1) bytes))) 0) so in
      omega (arith, here, so_far)

  pub tail_ends : (all : ℕ) → i < length bytes → i < 254 → continues_ref (get_or bytes i 0) ≡ false → i + tail_len (254 - i) (drop i bytes) ≡ all → i ≡ all
  unfolding tail_len
  tail_ends all lt few nay so_far =
      let k : 254 - i ≡ suc (254 - (i + 1)) = omega arith in
      let byte = get_or bytes i 0 in
      let here : tail_len (254 - i) (drop i bytes) ≡ 0 =
      ap (tail_len (254 - i)) (front_is lt) ∙ ap (λ m. tail_len m (byte ∷ drop (i + 1) bytes)) k
      ∙ ap (λ b. cond b (suc (tail_len (254 - (i + 1)) (drop (i + 1) bytes))) 0) nay in
      omega (arith, here, so_far)

  pub tail_full : (all : ℕ) → 254 ≤ i → i + tail_len (254 - i) (drop i bytes) ≡ all → i ≡ all
  unfolding tail_len
  tail_full all full so_far =
      let k : 254 - i ≡ 0 = omega arith in
      let here : tail_len (254 - i) (drop i bytes) ≡ 0 = ap (λ m. tail_len m (drop i bytes)) k in
      omega (arith, here, so_far)

  tail_nil : (more : ℕ) → tail_len more [] ≡ 0
  unfolding tail_len
  tail_nil zero = refl
  tail_nil (suc more) = refl

  pub tail_past : (all : ℕ) → length bytes ≤ i → i + tail_len (254 - i) (drop i bytes) ≡ all → i ≡ all
  tail_past all past so_far =
      let here : tail_len (254 - i) (drop i bytes) ≡ 0 = ap (tail_len (254 - i)) (drop_all i bytes past) ∙ tail_nil (254 - i) in
      omega (arith, here, so_far)

-- what stands from a place on, as a slice gives it
pub slice_end : (bytes : List ℕ) (i : ℕ) → take (length bytes - i) (drop i bytes) ≡ drop i bytes
slice_end bytes i = take_all (length bytes - i) (drop i bytes) (omega (arith, length-drop i bytes))

-- ---- the move at the front

some_is : (x y : Move × List ℕ) → Some x ≡ Some y → x ≡ y
some_is x y e = cc

of_sign : (byte : ℕ) (bytes : List ℕ) (one : Move) → byte ≡ sign one → number_of one ≡ (read_number bytes).0 → MoveRead (byte ∷ bytes) one (read_number bytes).1
of_sign byte bytes one is same =
    record { after = bytes; starts = ap (λ b. b ∷ bytes) is; number = subst (λ n. NumberRead bytes n (read_number bytes).1) (sym same) (number_read bytes) }

pub move_read : (bytes : List ℕ) (one : Move) (after : List ℕ) → read_move bytes ≡ Some (one, after) → MoveRead bytes one after
unfolding read_move
move_read [] one after e = absurd cc
move_read (byte ∷ bytes) one after e =
    let n = read_number bytes in
    elim (cases_Bool (eqb byte 126)) [
      | inl tilde ↦
          let here = some_is (Back n.0, n.1) (one, after)
          (sym (ap (λ b. cond b (Some (Back n.0, n.1)) (cond (eqb byte 94) (Some (Parent n.0, n.1)) None)) tilde) ∙ e) in
          subst (λ (x : Move × List ℕ). MoveRead (byte ∷ bytes) x.0 x.1)
          {x = (Back n.0, n.1)} here (of_sign byte bytes (Back n.0) (eqb-true byte 126 tilde) refl)
      | inr other ↦
          let left = sym (ap (λ b. cond b (Some (Back n.0, n.1)) (cond (eqb byte 94) (Some (Parent n.0, n.1)) None)) other) ∙ e in
          elim (cases_Bool (eqb byte 94)) [
            | inl caret ↦
                let here = some_is (Parent n.0, n.1) (one, after) (sym (ap (λ b. cond b (Some (Parent n.0, n.1)) None) caret) ∙ left) in
                subst (λ (x : Move × List ℕ). MoveRead (byte ∷ bytes) x.0 x.1)
                {x = (Parent n.0, n.1)} here (of_sign byte bytes (Parent n.0) (eqb-true byte 94 caret) refl)
            | inr neither ↦ absurd (none_is (sym (ap (λ b. cond b (Some (Parent n.0, n.1)) None) neither) ∙ left))
          ]
    ]
  where
    none_is : ◌≡◌ {A = Option (Move × List ℕ)} None (Some (one, after)) → ⊥
    none_is e = cc

-- what follows a move is shorter
pub shorter : (bytes : List ℕ) (one : Move) (after : List ℕ) → MoveRead bytes one after → length after < length bytes
shorter bytes one after r =
    omega (arith, ap length r.starts, ap length r.number.parts, length-append r.number.digits after)
