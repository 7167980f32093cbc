-- Maps between which nothing changes.
use Rattle.std.proofs.Common.{◌≡◌, ap, sym, ◌∙◌}
use Rattle.std.specs.FinMap.{empty, get, get-empty, len, len-empty, empty_of_len}
use Rattle.lake_base.specs.Maps.{byte_order}
use Rattle.lake_values.specs.declared.entry.Change.{Change}
use Rattle.lake_values.specs.KeyMap.{KeyMapValue, differences}
use Rattle.lake_values.proofs.KeyMapLemmas.{same, no_difference}

module _ (new old : KeyMapValue) where
  -- where there are no changes, the maps are one
  pub no_differences : len (differences new old) ≡ 0 → new ≡ old
  no_differences none =
      same new old (λ q. (no_difference new old q).0 (ap (λ changes. get changes q) (empty_of_len (differences new old) none) ∙ get-empty byte_order q))

  -- and the other way round
  pub differences_none : new ≡ old → len (differences new old) ≡ 0
  differences_none is =
      let none : differences new old ≡ empty =
      same (differences new old) empty (λ q. (no_difference new old q).1 (ap (λ m. get m q) is) ∙ sym (get-empty byte_order q)) in
      ap len none ∙ len-empty byte_order Change
