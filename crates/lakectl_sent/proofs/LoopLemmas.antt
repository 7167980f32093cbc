-- Steps of the loops over bytes, segments and values.
use Rattle.std.proofs.Common.{◌≡◌, ◌<◌, ◌≤◌, ◌+◌, ℕ, zero, suc, Bool, true, false, not, List, [], ◌∷◌, ◌++◌}
use Rattle.std.proofs.Common.{length, drop, map, get_or, Option, Some, None, refl, sym, ap, ◌∙◌, append_assoc, drop-cons, add-one, arith, Bor}
use Rattle.std.specs.List.{flat_map, find}
use Rattle.std.specs.Option.{option_map, option_and_then}
use Rattle.std.proofs.lemmas.List.{append-nil, map-append}
use Rattle.lakectl_verbs.specs.declared.argument.Kind.{Kind}
use Rattle.lakectl_verbs.specs.declared.argument.Kind.TheVariants.{Any, Number, Meta, Uri as UriOf}
use Rattle.lakectl_verbs.specs.declared.argument.UriParts.{UriParts}
use Rattle.lakectl_verbs.specs.declared.read.Value.{Value}
use Rattle.lakectl_verbs.specs.VerbCommands.{GivenValue}
use Rattle.lakectl_verbs.specs.ReadWords.{value_seen}
use Rattle.lakectl_sent.specs.declared.place.Place.{Place}
use Rattle.lakectl_sent.specs.UriPlaces.{PlaceValue, before, place_of, places_of, place_seen}
use Rattle.lakectl_sent.specs.OptionValues.{fits, first_bad}

pub behind_is : {X : Type 0} (xs : List X) (i : ℕ) (d : X) → i < length xs → drop i xs ≡ get_or xs i d ∷ drop (i + 1) xs
behind_is xs i d h = rw add-one (drop-cons xs i d h)

pub behind_none : {X : Type 0} (xs : List X) (i : ℕ) → length xs ≤ i → drop i xs ≡ []
behind_none [] zero h = refl
behind_none [] (suc i) h = refl
behind_none (x ∷ xs) zero h = absurd (omega (arith, h))
behind_none (x ∷ xs) (suc i) h = behind_none xs i (omega (arith, h))

-- what stands so far, and what the items from a place on make
module _ {X : Type 0} (f : X → List ℕ) (xs : List X) where
  pub flat_step : (i : ℕ) (d : X) (out after all : List ℕ) → i < length xs → after ≡ out ++ f (get_or xs i d)
      → out ++ flat_map f (drop i xs) ≡ all → after ++ flat_map f (drop (i + 1) xs) ≡ all
  flat_step i d out after all lt more left =
      ap (λ (l : List ℕ). l ++ flat_map f (drop (i + 1) xs)) more
      ∙ append_assoc out (f (get_or xs i d)) (flat_map f (drop (i + 1) xs))
      ∙ ap (λ (l : List ℕ). out ++ l) (sym (ap (flat_map f) (behind_is xs i d lt))) ∙ left

  pub flat_done : (i : ℕ) (out all : List ℕ) → length xs ≤ i → out ++ flat_map f (drop i xs) ≡ all → out ≡ all
  flat_done i out all end left =
      sym (append-nil out) ∙ ap (λ (l : List ℕ). out ++ l) (sym (ap (flat_map f) (behind_none xs i end))) ∙ left

-- the same, where the items are seen as others
module _ {X Y : Type 0} (g : X → Y) (f : Y → List ℕ) (xs : List X) where
  pub seen_step : (i : ℕ) (d : X) (out after all : List ℕ) → i < length xs → after ≡ out ++ f (g (get_or xs i d))
      → out ++ flat_map f (map g (drop i xs)) ≡ all → after ++ flat_map f (map g (drop (i + 1) xs)) ≡ all
  seen_step i d out after all lt more left =
      ap (λ (l : List ℕ). l ++ flat_map f (map g (drop (i + 1) xs))) more
      ∙ append_assoc out (f (g (get_or xs i d))) (flat_map f (map g (drop (i + 1) xs)))
      ∙ ap (λ (l : List ℕ). out ++ l) (sym (ap (λ (l : List X). flat_map f (map g l)) (behind_is xs i d lt))) ∙ left

  pub seen_done : (i : ℕ) (out all : List ℕ) → length xs ≤ i → out ++ flat_map f (map g (drop i xs)) ≡ all → out ≡ all
  seen_done i out all end left =
      sym (append-nil out) ∙ ap (λ (l : List ℕ). out ++ l) (sym (ap (λ (l : List X). flat_map f (map g l)) (behind_none xs i end))) ∙ left

module _ (values : List Value) where
  -- the places so far, and those of the values from a place on
  abbrev joined : List Place → Option (List PlaceValue) → Option (List PlaceValue)
  joined places more = option_map (λ l. map place_seen places ++ l) more

  pub places_step : (i : ℕ) (d : Value) (places : List Place) (kind : Kind) (all : Option (List PlaceValue)) → i < length values
      → joined places (places_of (map value_seen (drop i values))) ≡ all → kind ≡ (get_or values i d).argument.now.kind
      → joined places (before kind (get_or values i d).text.now (places_of (map value_seen (drop (i + 1) values)))) ≡ all
  places_step i d places kind all lt left is =
      ap (λ (k : Kind). joined places (before k (get_or values i d).text.now (places_of (map value_seen (drop (i + 1) values))))) is
      ∙ sym (ap (λ (l : List Value). joined places (places_of (map value_seen l))) (behind_is values i d lt)) ∙ left

  pub places_done : (i : ℕ) (places : List Place) (all : Option (List PlaceValue)) → length values ≤ i
      → joined places (places_of (map value_seen (drop i values))) ≡ all → Some (map place_seen places) ≡ all
  places_done i places all end left =
      sym (ap (λ (l : List Value). joined places (places_of (map value_seen l))) (behind_none values i end)
      ∙ ap (λ (l : List PlaceValue). Some l) (append-nil (map place_seen places)))
      ∙ left

  -- the value at this place is of its kind
  pub fits_step : (i : ℕ) (d : Value) (fit : Bool) → i < length values → fit ≡ fits (value_seen (get_or values i d)) → fit ≡ true
      → first_bad (map value_seen (drop (i + 1) values)) ≡ first_bad (map value_seen (drop i values))
  fits_step i d fit lt is fine =
      let e : fits (value_seen (get_or values i d)) ≡ true = sym is ∙ fine in
      sym (ap (λ (l : List Value). first_bad (map value_seen l)) (behind_is values i d lt) ∙ rw e refl)

  -- it isn't
  pub bad_here : (i : ℕ) (d : Value) (fit : Bool) → i < length values → fit ≡ fits (value_seen (get_or values i d)) → fit ≡ false
      → first_bad (map value_seen (drop i values)) ≡ Some (get_or values i d).argument.now.name.now
  bad_here i d fit lt is bad =
      let e : fits (value_seen (get_or values i d)) ≡ false = sym is ∙ bad in
      ap (λ (l : List Value). first_bad (map value_seen l)) (behind_is values i d lt) ∙ rw e refl

  pub none_bad : (i : ℕ) → length values ≤ i → first_bad (map value_seen (drop i values)) ≡ None
  none_bad i end = ap (λ (l : List Value). first_bad (map value_seen l)) (behind_none values i end)

-- a place more behind the places so far
pub one_place : (places : List Place) (place : Place) (more : Option (List PlaceValue))
    → option_map (λ l. map place_seen places ++ l) (option_map (λ l. place_seen place ∷ l) more)
    ≡ option_map (λ l. map place_seen (places ++ place ∷ []) ++ l) more
one_place places place None = refl
one_place places place (Some more) =
    ap (λ (l : List PlaceValue). Some l)
    (sym (append_assoc (map place_seen places) (place_seen place ∷ []) more)
    ∙ ap (λ (l : List PlaceValue). l ++ more) (sym (map-append place_seen places (place ∷ []))))

other_kind : (kind : Kind) (text : List ℕ) (more : Option (List PlaceValue)) → ((parts : UriParts) → kind ≡ UriOf parts → ⊥) → before kind text more ≡ more
other_kind Any text more other = refl
other_kind Number text more other = refl
other_kind Meta text more other = refl
other_kind (UriOf parts) text more other = absurd (other parts refl)

module _ (values : List Value) (i : ℕ) (d : Value) (places : List Place) (all : Option (List PlaceValue)) (lt : i < length values)
    (left : option_map (λ l. map place_seen places ++ l) (places_of (map value_seen (drop i values))) ≡ all) where
  abbrev rest : Option (List PlaceValue)
  rest = places_of (map value_seen (drop (i + 1) values))

  abbrev onto : Option (List PlaceValue) → Option (List PlaceValue)
  onto more = option_map (λ l. map place_seen places ++ l) more

  -- a value that is no URI
  pub other_step : ((parts : UriParts) → (get_or values i d).argument.now.kind ≡ UriOf parts → ⊥)
      → option_map (λ l. map place_seen places ++ l) (places_of (map value_seen (drop (i + 1) values))) ≡ all
  other_step other =
      ap onto (sym (other_kind (get_or values i d).argument.now.kind (get_or values i d).text.now rest other))
      ∙ places_step values i d places _ all lt left refl

  -- a URI that has its parts
  pub uri_step : (parts : UriParts) (place : Place) (after : List Place) → (get_or values i d).argument.now.kind ≡ UriOf parts
      → place_of parts (get_or values i d).text.now ≡ Some (place_seen place) → after ≡ places ++ place ∷ []
      → option_map (λ l. map place_seen after ++ l) (places_of (map value_seen (drop (i + 1) values))) ≡ all
  uri_step parts place after is found more =
      ap (λ (l : List Place). option_map (λ m. map place_seen l ++ m) rest) more ∙ sym (one_place places place rest)
      ∙ ap (λ (o : Option PlaceValue). onto (option_and_then (λ p. option_map (λ m. p ∷ m) rest) o)) (sym found)
      ∙ places_step values i d places (UriOf parts) all lt left (sym is)

  -- a URI that hasn't
  pub uri_bad : (parts : UriParts) → (get_or values i d).argument.now.kind ≡ UriOf parts → place_of parts (get_or values i d).text.now ≡ None → None ≡ all
  uri_bad parts is none =
      ap (λ (o : Option PlaceValue). onto (option_and_then (λ p. option_map (λ m. p ∷ m) rest) o)) (sym none)
      ∙ places_step values i d places (UriOf parts) all lt left (sym is)
