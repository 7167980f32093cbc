-- The pieces of metadata, one after the other.
use Rattle.std.proofs.Common.{◌≡◌, ◌<◌, ◌≤◌, ◌+◌, ◌-◌, ◌==◌, ℕ, Bool, true, false, nat_lt, List, []}
use Rattle.std.proofs.Common.{◌∷◌, length, drop, get_or, Option, Some, None, refl, sym, ap, ◌∙◌, if◌then◌else◌, arith, Bor}
use Rattle.std.specs.List.{slice_split, position_or_len}
use Rattle.std.specs.Option.{option_and_then}
use Rattle.std.proofs.lemmas.Bool.Decides.{nat_tests}
use Rattle.std.proofs.lemmas.List.{length-drop}
use Rattle.std.proofs.lemmas.List.Splits.{slice_split_first, slice_split_none}
use Rattle.std.proofs.lemmas.List.Sums.{fails_before_first}
use Rattle.serde_json.specs.Data.{Members}
use Rattle.serde_json.specs.View.{view}
use Rattle.serde_json.specs.declared.value.Value.{Value}
use Rattle.std.specs.Prelude.{is_some, option_map}
use Rattle.lakectl_verbs.specs.Cuts.{front, behind, cut}
use Rattle.lakectl_sent.specs.OptionValues.{with_piece, with_pieces}

abbrev cut_if : Bool → List ℕ → Option (List ℕ × List ℕ)
cut_if there text = if there then Some (front 44 text, behind 44 text) else None

-- what a cut tells of where the mark stands
cut_some : (text : List ℕ) (there : Bool) (parts : List ℕ × List ℕ) → cut_if there text ≡ Some parts
    → (there ≡ true) × (front 44 text ≡ parts.0) × (behind 44 text ≡ parts.1)
cut_some text true parts is = (refl, cc, cc)
cut_some text false parts is = cc

cut_none : (text : List ℕ) (there : Bool) → cut_if there text ≡ None → there ≡ false
cut_none text true is = cc
cut_none text false is = refl

lt_of : (a b : ℕ) → nat_lt a b ≡ true → a < b
lt_of a b is = grind (arith, nat_tests)

ge_of : (a b : ℕ) → nat_lt a b ≡ false → b ≤ a
ge_of a b is = grind (arith, nat_tests)

-- the first piece of a text with a comma
pub split_some : (text piece rest : List ℕ) → cut 44 text ≡ Some (piece, rest)
    → (slice_split (λ byte. byte == 44) text ≡ piece ∷ slice_split (λ byte. byte == 44) rest) × (length rest < length text)
split_some text piece rest is =
    let told = cut_some text (nat_lt (position_or_len (λ byte. byte == 44) text) (length text)) (piece, rest) is in
    let within : position_or_len (λ byte. byte == 44) text < length text = lt_of _ _ told.0 in (
      slice_split_first (λ byte. byte == 44) text 0 within
          ∙ ap (λ (p : List ℕ). p ∷ slice_split (λ byte. byte == 44) (behind 44 text)) told.1
          ∙ ap (λ (r : List ℕ). piece ∷ slice_split (λ byte. byte == 44) r) told.2,
      omega (arith, within, ap length told.2, length-drop (position_or_len (λ byte. byte == 44) text + 1) text),
    )

-- a text without a comma is one piece
pub split_none : (text : List ℕ) → cut 44 text ≡ None → slice_split (λ byte. byte == 44) text ≡ text ∷ []
split_none text is =
    let end : length text ≤ position_or_len (λ byte. byte == 44) text = ge_of _ _ (cut_none text _ is) in
    slice_split_none (λ byte. byte == 44) text (λ k d h. fails_before_first (λ byte. byte == 44) text k d (omega (arith, end, h)))

-- a piece that is taken
pub piece_step : (found next : Members) (text piece rest : List ℕ) (all : Option Members) → cut 44 text ≡ Some (piece, rest)
    → with_piece found piece ≡ Some next → with_pieces found (slice_split (λ byte. byte == 44) text) ≡ all
    → with_pieces next (slice_split (λ byte. byte == 44) rest) ≡ all
piece_step found next text piece rest all is taken left =
    sym (ap (with_pieces found) (split_some text piece rest is).0
    ∙ ap (option_and_then (λ n. with_pieces n (slice_split (λ byte. byte == 44) rest))) taken) ∙ left

-- a piece that isn't
pub piece_bad : (found : Members) (text piece rest : List ℕ) (all : Option Members) → cut 44 text ≡ Some (piece, rest)
    → with_piece found piece ≡ None → with_pieces found (slice_split (λ byte. byte == 44) text) ≡ all → None ≡ all
piece_bad found text piece rest all is bad left =
    sym (ap (with_pieces found) (split_some text piece rest is).0
    ∙ ap (option_and_then (λ n. with_pieces n (slice_split (λ byte. byte == 44) rest))) bad) ∙ left

last_is : (o : Option Members) → option_and_then (λ n. with_pieces n []) o ≡ o
last_is None = refl
last_is (Some n) = refl

-- the last piece
pub piece_last : (found : Members) (text : List ℕ) (all : Option Members) → cut 44 text ≡ None
    → with_pieces found (slice_split (λ byte. byte == 44) text) ≡ all → with_piece found text ≡ all
piece_last found text all is left =
    sym (ap (with_pieces found) (split_none text is) ∙ last_is (with_piece found text)) ∙ left

-- a value is there as it is seen
pub some_seen : (o : Option (Bor Value)) → is_some o ≡ is_some (option_map (λ x. view x.now) o)
some_seen None = refl
some_seen (Some x) = refl
