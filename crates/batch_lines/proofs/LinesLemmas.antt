-- How the lines of some bytes go on with one byte more, and how they end.
use Rattle.std.proofs.Common.{◌≡◌, ◌<◌, ◌-◌, ◌==◌, ℕ, suc, Bool, true, false, cond, List, [], ◌∷◌, ◌++◌, length, map, take, get_or, refl, sym, ◌∙◌, ap, arith}
use Rattle.std.proofs.Common.{append_assoc}
use Rattle.std.proofs.lemmas.Bool.Decides.{nat_tests}
use Rattle.std.proofs.lemmas.List.{append-nil, map-append}
use Rattle.std.proofs.lemmas.List.Splits.{length-slice_split}
use Rattle.std.specs.List.{onto_first}
use Rattle.std.specs.Str.Lines.{lines, lines_of_parts, strip_carriage_return}
use Rattle.batch_lines.specs.Lines.{parts, ended_lines, last_part}

-- all parts but the last
front_parts : List (List ℕ) → List (List ℕ)
front_parts [] = []
front_parts (x ∷ []) = []
front_parts (x ∷ y ∷ more) = x ∷ front_parts (y ∷ more)

-- the last part
final_part : List (List ℕ) → List ℕ
final_part [] = []
final_part (x ∷ []) = x
final_part (x ∷ y ∷ more) = final_part (y ∷ more)

-- the last part with one byte more
onto_last : ℕ → List (List ℕ) → List (List ℕ)
onto_last byte [] = (byte ∷ []) ∷ []
onto_last byte (x ∷ []) = (x ++ byte ∷ []) ∷ []
onto_last byte (x ∷ y ∷ more) = x ∷ onto_last byte (y ∷ more)

front_is : (xs : List (List ℕ)) → take (length xs - 1) xs ≡ front_parts xs
unfolding front_parts
front_is [] = refl
front_is (x ∷ []) = refl
front_is (x ∷ y ∷ more) =
    let counted : length (x ∷ y ∷ more) - 1 ≡ suc (length (y ∷ more) - 1) = omega arith in
    ap (λ n. take n (x ∷ y ∷ more)) counted ∙ ap (λ (l : List (List ℕ)). x ∷ l) (front_is (y ∷ more))

final_is : (xs : List (List ℕ)) → get_or xs (length xs - 1) [] ≡ final_part xs
unfolding final_part
final_is [] = refl
final_is (x ∷ []) = refl
final_is (x ∷ y ∷ more) =
    let counted : length (x ∷ y ∷ more) - 1 ≡ suc (length (y ∷ more) - 1) = omega arith in
    ap (λ n. get_or (x ∷ y ∷ more) n []) counted ∙ final_is (y ∷ more)

some_part : (bytes : List ℕ) → 0 < length (parts bytes)
some_part bytes = omega (arith, length-slice_split (λ b. b == 10) bytes)

onto_last_step : (b : Bool) (byte x : ℕ) (S : List (List ℕ)) → 0 < length S
    → cond b ([] ∷ onto_last byte S) (onto_first x (onto_last byte S)) ≡ onto_last byte (cond b ([] ∷ S) (onto_first x S))
unfolding onto_last
onto_last_step b byte x [] some = absurd (omega arith)
onto_last_step true byte x (s ∷ []) some = refl
onto_last_step true byte x (s ∷ t ∷ more) some = refl
onto_last_step false byte x (s ∷ []) some = refl
onto_last_step false byte x (s ∷ t ∷ more) some = refl

-- a byte that is no line feed joins the last part
parts_in_line : (bytes : List ℕ) (byte : ℕ) → (byte == 10) ≡ false → parts (bytes ++ byte ∷ []) ≡ onto_last byte (parts bytes)
unfolding onto_last
parts_in_line [] byte here = ap (λ b. cond b ([] ∷ [] ∷ []) ((byte ∷ []) ∷ [])) here
parts_in_line (x ∷ bytes) byte here =
    ap (λ (l : List (List ℕ)). cond (x == 10) ([] ∷ l) (onto_first x l)) (parts_in_line bytes byte here)
    ∙ onto_last_step (x == 10) byte x (parts bytes) (some_part bytes)

ended_step : (b : Bool) (x : ℕ) (S : List (List ℕ)) → 0 < length S
    → cond b ([] ∷ (S ++ [] ∷ [])) (onto_first x (S ++ [] ∷ [])) ≡ cond b ([] ∷ S) (onto_first x S) ++ [] ∷ []
ended_step b x [] some = absurd (omega arith)
ended_step true x (s ∷ more) some = refl
ended_step false x (s ∷ more) some = refl

-- a line feed ends the last part
parts_ended : (bytes : List ℕ) → parts (bytes ++ 10 ∷ []) ≡ parts bytes ++ [] ∷ []
parts_ended [] = refl
parts_ended (x ∷ bytes) =
    ap (λ (l : List (List ℕ)). cond (x == 10) ([] ∷ l) (onto_first x l)) (parts_ended bytes) ∙ ended_step (x == 10) x (parts bytes) (some_part bytes)

front_of_onto : (byte : ℕ) (xs : List (List ℕ)) → front_parts (onto_last byte xs) ≡ front_parts xs
unfolding front_parts onto_last
front_of_onto byte [] = refl
front_of_onto byte (x ∷ []) = refl
front_of_onto byte (x ∷ y ∷ []) = refl
front_of_onto byte (x ∷ y ∷ z ∷ more) = ap (λ (l : List (List ℕ)). x ∷ l) (front_of_onto byte (y ∷ z ∷ more))

final_of_onto : (byte : ℕ) (xs : List (List ℕ)) → final_part (onto_last byte xs) ≡ final_part xs ++ byte ∷ []
unfolding final_part onto_last
final_of_onto byte [] = refl
final_of_onto byte (x ∷ []) = refl
final_of_onto byte (x ∷ y ∷ []) = refl
final_of_onto byte (x ∷ y ∷ z ∷ more) = final_of_onto byte (y ∷ z ∷ more)

front_of_ended : (xs : List (List ℕ)) → 0 < length xs → front_parts (xs ++ [] ∷ []) ≡ front_parts xs ++ final_part xs ∷ []
unfolding front_parts final_part
front_of_ended [] some = absurd (omega arith)
front_of_ended (x ∷ []) some = refl
front_of_ended (x ∷ y ∷ more) some = ap (λ (l : List (List ℕ)). x ∷ l) (front_of_ended (y ∷ more) (omega arith))

final_of_ended : (xs : List (List ℕ)) → final_part (xs ++ [] ∷ []) ≡ []
unfolding final_part
final_of_ended [] = refl
final_of_ended (x ∷ []) = refl
final_of_ended (x ∷ y ∷ more) = final_of_ended (y ∷ more)

ended_is : (bytes : List ℕ) → ended_lines bytes ≡ map strip_carriage_return (front_parts (parts bytes))
ended_is bytes = ap (map strip_carriage_return) (front_is (parts bytes))

-- a byte that is no line feed ends no line, and joins the line under way
pub ended_in_line : (bytes : List ℕ) (byte : ℕ) → (byte == 10) ≡ false → ended_lines (bytes ++ byte ∷ []) ≡ ended_lines bytes
ended_in_line bytes byte here =
    ended_is (bytes ++ byte ∷ []) ∙ ap (λ xs. map strip_carriage_return (front_parts xs)) (parts_in_line bytes byte here)
    ∙ ap (map strip_carriage_return) (front_of_onto byte (parts bytes)) ∙ sym (ended_is bytes)

pub last_in_line : (bytes : List ℕ) (byte : ℕ) → (byte == 10) ≡ false → last_part (bytes ++ byte ∷ []) ≡ last_part bytes ++ byte ∷ []
last_in_line bytes byte here =
    final_is (parts (bytes ++ byte ∷ [])) ∙ ap final_part (parts_in_line bytes byte here) ∙ final_of_onto byte (parts bytes)
    ∙ ap (λ (l : List ℕ). l ++ byte ∷ []) (sym (final_is (parts bytes)))

-- a line feed ends the line under way
pub ended_by_feed : (bytes : List ℕ) → ended_lines (bytes ++ 10 ∷ []) ≡ ended_lines bytes ++ strip_carriage_return (last_part bytes) ∷ []
ended_by_feed bytes =
    ended_is (bytes ++ 10 ∷ []) ∙ ap (λ xs. map strip_carriage_return (front_parts xs)) (parts_ended bytes)
    ∙ ap (map strip_carriage_return) (front_of_ended (parts bytes) (some_part bytes))
    ∙ map-append strip_carriage_return (front_parts (parts bytes)) (final_part (parts bytes) ∷ [])
    ∙ ap (λ (l : List (List ℕ)). l ++ strip_carriage_return (final_part (parts bytes)) ∷ []) (sym (ended_is bytes))
    ∙ ap (λ x. ended_lines bytes ++ strip_carriage_return x ∷ []) (sym (final_is (parts bytes)))

pub last_by_feed : (bytes : List ℕ) → last_part (bytes ++ 10 ∷ []) ≡ []
last_by_feed bytes = final_is (parts (bytes ++ 10 ∷ [])) ∙ ap final_part (parts_ended bytes) ∙ final_of_ended (parts bytes)

-- the line that nothing ends, where there is one
pub last_line : List ℕ → List (List ℕ)
last_line [] = []
last_line (byte ∷ bytes) = (byte ∷ bytes) ∷ []

some_line : (byte : ℕ) (x : List ℕ) → lines_of_parts ((byte ∷ x) ∷ []) ≡ (byte ∷ x) ∷ []
some_line byte x = grind (arith, nat_tests)

lines_of_parts_is : (xs : List (List ℕ)) → lines_of_parts xs ≡ map strip_carriage_return (front_parts xs) ++ last_line (final_part xs)
unfolding front_parts final_part last_line
lines_of_parts_is [] = refl
lines_of_parts_is ([] ∷ []) = refl
lines_of_parts_is ((byte ∷ x) ∷ []) = some_line byte x
lines_of_parts_is (x ∷ y ∷ more) = ap (λ (l : List (List ℕ)). strip_carriage_return x ∷ l) (lines_of_parts_is (y ∷ more))

-- all lines are those that ended, and the last, where it isn't empty
pub lines_is : (bytes : List ℕ) → lines bytes ≡ ended_lines bytes ++ last_line (last_part bytes)
lines_is bytes =
    lines_of_parts_is (parts bytes) ∙ ap (λ (l : List (List ℕ)). l ++ last_line (final_part (parts bytes))) (sym (ended_is bytes))
    ∙ ap (λ x. ended_lines bytes ++ last_line x) (sym (final_is (parts bytes)))

pub last_line-none : (bytes : List ℕ) → bytes ≡ [] → last_line bytes ≡ []
unfolding last_line
last_line-none [] is = refl
last_line-none (byte ∷ bytes) is = absurd cc

pub last_line-some : (bytes : List ℕ) → 0 < length bytes → last_line bytes ≡ bytes ∷ []
unfolding last_line
last_line-some [] some = absurd (omega arith)
last_line-some (byte ∷ bytes) some = refl

-- more lines may end in more bytes
module _ (byte : ℕ) where
  one_more : (b : Bool) → (byte == 10) ≡ b → (bytes : List ℕ) → (rest : List (List ℕ)) × (ended_lines bytes ++ rest ≡ ended_lines (bytes ++ byte ∷ []))
  one_more true is bytes =
      let feed : byte ≡ 10 = grind (arith, nat_tests) in
      (strip_carriage_return (last_part bytes) ∷ [], sym (ap (λ b. ended_lines (bytes ++ b ∷ [])) feed ∙ ended_by_feed bytes))
  one_more false is bytes = ([], append-nil (ended_lines bytes) ∙ sym (ended_in_line bytes byte is))

-- the lines that ended in some bytes are the first of those that end in more
pub ended_of_part : (bytes more : List ℕ) → (rest : List (List ℕ)) × (ended_lines bytes ++ rest ≡ ended_lines (bytes ++ more))
ended_of_part bytes [] = ([], append-nil (ended_lines bytes) ∙ ap ended_lines (sym (append-nil bytes)))
ended_of_part bytes (byte ∷ more) =
    let one = one_more byte (byte == 10) refl bytes in
    let all = ended_of_part (bytes ++ byte ∷ []) more in (
      one.0 ++ all.0,
      sym (append_assoc (ended_lines bytes) one.0 all.0) ∙ ap (λ (l : List (List ℕ)). l ++ all.0) one.1 ∙ all.1
          ∙ ap ended_lines (append_assoc bytes (byte ∷ []) more),
    )

-- and of all lines
pub lines_of_part : (bytes more : List ℕ) → (rest : List (List ℕ)) × (ended_lines bytes ++ rest ≡ lines (bytes ++ more))
lines_of_part bytes more =
    let ended = ended_of_part bytes more in (
      ended.0 ++ last_line (last_part (bytes ++ more)),
      sym (append_assoc (ended_lines bytes) ended.0 (last_line (last_part (bytes ++ more))))
          ∙ ap (λ (l : List (List ℕ)). l ++ last_line (last_part (bytes ++ more))) ended.1 ∙ sym (lines_is (bytes ++ more)),
    )
