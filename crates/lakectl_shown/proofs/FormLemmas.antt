-- Steps of the loops over keys, pieces and items.
use Rattle.std.proofs.Common.{◌≡◌, ◌<◌, ◌≤◌, ◌+◌, ◌&&◌, ℕ, Bool, true, false, List, [], ◌∷◌, ◌++◌}
use Rattle.std.proofs.Common.{length, drop, map, get_or, Option, Some, None, refl, sym, ap, ◌∙◌, append_assoc, arith}
use Rattle.std.specs.List.{list_all, flat_map}
use Rattle.std.specs.Option.{option_map, option_and_then}
use Rattle.std.proofs.lemmas.List.{append-nil}
use Rattle.serde_json.specs.Data.{Data, Items, item}
use Rattle.serde_json.specs.View.{view, items_view}
use Rattle.serde_json.specs.declared.value.Value.{Value}
use Rattle.lakectl_shown.specs.declared.form.Content.{Content}
use Rattle.lakectl_shown.specs.declared.form.Key.{Key}
use Rattle.lakectl_shown.specs.declared.form.Piece.{Piece}
use Rattle.lakectl_shown.specs.declared.pages.Lines.{Lines}
use Rattle.lakectl_shown.specs.ShownForms.{PieceForm, has_key, piece_bytes, key_seen, piece_seen}
use Rattle.lakectl_shown.specs.ShownReplies.{line_of, lines_of}
use Rattle.lakectl_shown.proofs.LeftLemmas.{left_is, left_none}

module _ (value : Data) (keys : List Key) where
  abbrev all_from : ℕ → Bool
  all_from i = list_all (has_key value) (map key_seen (drop i keys))

  -- the key at this place is there
  pub key_there : (i : ℕ) (d : Key) (has all : Bool) → i < length keys → has ≡ has_key value (key_seen (get_or keys i d)) → has ≡ true
      → list_all (has_key value) (map key_seen (drop i keys)) ≡ all → list_all (has_key value) (map key_seen (drop (i + 1) keys)) ≡ all
  key_there i d has all lt is there left =
      let e : has_key value (key_seen (get_or keys i d)) ≡ true = sym is ∙ there in
      let step : all_from i ≡ all_from (i + 1) = ap (λ (l : List Key). list_all (has_key value) (map key_seen l)) (left_is keys i d lt) ∙ rw e refl in
      sym step ∙ left

  -- it isn't
  pub key_missing : (i : ℕ) (d : Key) (has all : Bool) → i < length keys → has ≡ has_key value (key_seen (get_or keys i d)) → has ≡ false
      → list_all (has_key value) (map key_seen (drop i keys)) ≡ all → false ≡ all
  key_missing i d has all lt is gone left =
      let e : has_key value (key_seen (get_or keys i d)) ≡ false = sym is ∙ gone in
      let step : all_from i ≡ false = ap (λ (l : List Key). list_all (has_key value) (map key_seen l)) (left_is keys i d lt) ∙ rw e refl in
      sym step ∙ left

  -- none is left
  pub keys_done : (i : ℕ) (all : Bool) → length keys ≤ i → list_all (has_key value) (map key_seen (drop i keys)) ≡ all → true ≡ all
  keys_done i all end left = sym (ap (λ (l : List Key). list_all (has_key value) (map key_seen l)) (left_none keys i end)) ∙ left

module _ (value : Data) (pieces : List Piece) where
  -- one more piece
  pub piece_step : (i : ℕ) (d : Piece) (out after all : List ℕ) → i < length pieces → after ≡ out ++ piece_bytes value (piece_seen (get_or pieces i d))
      → out ++ flat_map (piece_bytes value) (map piece_seen (drop i pieces)) ≡ all
      → after ++ flat_map (piece_bytes value) (map piece_seen (drop (i + 1) pieces)) ≡ all
  piece_step i d out after all lt more left =
      let rest : List ℕ = flat_map (piece_bytes value) (map piece_seen (drop (i + 1) pieces)) in
      let bytes : List ℕ = piece_bytes value (piece_seen (get_or pieces i d)) in
      ap (λ (l : List ℕ). l ++ rest) more ∙ append_assoc out bytes rest
      ∙ ap (λ (l : List ℕ). out ++ l) (sym (ap (λ (l : List Piece). flat_map (piece_bytes value) (map piece_seen l)) (left_is pieces i d lt))) ∙ left

  -- none is left
  pub pieces_done : (i : ℕ) (out all : List ℕ) → length pieces ≤ i → out ++ flat_map (piece_bytes value) (map piece_seen (drop i pieces)) ≡ all → out ≡ all
  pieces_done i out all end left =
      sym (append-nil out)
      ∙ ap (λ (l : List ℕ). out ++ l) (sym (ap (λ (l : List Piece). flat_map (piece_bytes value) (map piece_seen l)) (left_none pieces i end))) ∙ left

module _ (lines : Lines) (items : List Value) where
  -- behind these bytes the lines of the items from a place on
  abbrev behind : List ℕ → ℕ → Option (List ℕ)
  behind out i = option_map (λ rest. out ++ rest) (lines_of lines (items_view (drop i items)))

  joined : (out line : List ℕ) (rest : Option (List ℕ))
      → option_map (λ l. out ++ l) (option_map (λ r. line ++ r) rest) ≡ option_map (λ r. (out ++ line) ++ r) rest
  joined out line None = refl
  joined out line (Some r) = ap (λ (l : List ℕ). Some l) (sym (append_assoc out line r))

  -- the item at this place has a line
  pub line_step : (i : ℕ) (d : Value) (out after line : List ℕ) (all : Option (List ℕ)) → i < length items
      → Some line ≡ line_of lines (view (get_or items i d)) → after ≡ out ++ line
      → option_map (λ rest. out ++ rest) (lines_of lines (items_view (drop i items))) ≡ all
      → option_map (λ rest. after ++ rest) (lines_of lines (items_view (drop (i + 1) items))) ≡ all
  line_step i d out after line all lt is more left =
      let rest : Option (List ℕ) = lines_of lines (items_view (drop (i + 1) items)) in
      let step : lines_of lines (items_view (drop i items)) ≡ option_map (λ r. line ++ r) rest =
      ap (λ (l : List Value). lines_of lines (items_view l)) (left_is items i d lt)
      ∙ ap (λ (o : Option (List ℕ)). option_and_then (λ l. option_map (λ r. l ++ r) rest) o) (sym is) in
      ap (λ (l : List ℕ). option_map (λ r. l ++ r) rest) more ∙ sym (joined out line rest)
      ∙ ap (option_map (λ l. out ++ l)) (sym step) ∙ left

  -- it has none
  pub line_missing : (i : ℕ) (d : Value) (out : List ℕ) (all : Option (List ℕ)) → i < length items
      → None ≡ line_of lines (view (get_or items i d))
      → option_map (λ rest. out ++ rest) (lines_of lines (items_view (drop i items))) ≡ all → None ≡ all
  line_missing i d out all lt is left =
      let rest : Option (List ℕ) = lines_of lines (items_view (drop (i + 1) items)) in
      let step : lines_of lines (items_view (drop i items)) ≡ None =
      ap (λ (l : List Value). lines_of lines (items_view l)) (left_is items i d lt)
      ∙ ap (λ (o : Option (List ℕ)). option_and_then (λ l. option_map (λ r. l ++ r) rest) o) (sym is) in
      sym (ap (option_map (λ l. out ++ l)) step) ∙ left

  -- none is left
  pub lines_done : (i : ℕ) (out : List ℕ) (all : Option (List ℕ)) → length items ≤ i
      → option_map (λ rest. out ++ rest) (lines_of lines (items_view (drop i items))) ≡ all → Some out ≡ all
  lines_done i out all end left =
      sym (ap (λ (l : List Value). option_map (λ rest. out ++ rest) (lines_of lines (items_view l))) (left_none items i end)
      ∙ ap (λ (l : List ℕ). Some l) (append-nil out))
      ∙ left
