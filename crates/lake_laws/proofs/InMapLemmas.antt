-- Numbers in the maps and the changes that operations make.
use Rattle.std.proofs.Common.{◌≡◌, ℕ, List, sym, ap, ◌∙◌, ◌⊎◌, inl, inr}
use Rattle.std.specs.Prelude.{Option, Some, None}
use Rattle.std.specs.Option.{option_or}
use Rattle.std.specs.FinMap.{empty, get, insert}
use Rattle.lake_values.specs.Entry.{EntryValue}
use Rattle.lake_values.specs.KeyMap.{KeyMapValue, ChangesValue, apply, over, value_after}
use Rattle.lake_values.specs.Merging.{merged_map, side_of, side_value}
use Rattle.lake_values.specs.Reset.{changes_after_reset, drops_path}
use Rattle.lake_values.specs.declared.commit.ResetWhat.{ResetWhat}
use Rattle.lake_values.specs.declared.commit.Strategy.{Strategy}
use Rattle.lake_values.specs.declared.commit.Strategy.TheVariants.{Refuse, SourceWins, DestWins}
use Rattle.lake_values.specs.declared.entry.Change.{Change}
use Rattle.lake_values.specs.declared.entry.Change.TheVariants.{Put, Delete}
use Rattle.lake_values.specs.declared.merge.Side.{Side}
use Rattle.lake_values.specs.declared.merge.Side.TheVariants.{Source, Destination, Neither}
use Rattle.lake_values.proofs.KeyMapLemmas.{get_apply, get_over}
use Rattle.lake_values.proofs.MergingLemmas.{get_merged}
use Rattle.lake_values.proofs.ResetLemmas.{get_reset}
use Rattle.lake_model.specs.Naming.{IsInMap, IsPut}
use Rattle.lake_model.specs.Uncommitted.{put_number}
use Rattle.lake_laws.proofs.ChangeLemmas.{insert_cases, nothing_stands, stood}

module _ (number : ℕ) where
  -- what changes with one more put is that change's, or was put
  pub put_inserted : (changes : ChangesValue) (path : List ℕ) (change : Change) → IsPut (insert changes path change) number
      → (put_number change ≡ Some number) ⊎ IsPut changes number
  put_inserted changes path change put =
      elim (insert_cases changes path change put.path put.change put.stands) [
        | inl new ↦ inl (ap put_number (sym new.1) ∙ put.names)
        | inr old ↦ inr (record { path = put.path; change = put.change; stands = old; names = put.names })
      ]

  one_of : (new old : Option Change) (c : Change) → option_or new old ≡ Some c → (new ≡ Some c) ⊎ (old ≡ Some c)
  one_of None old c h = inr h
  one_of (Some x) old c h = inl h

  -- what changes over others put, one of both puts
  pub put_over : (new old : ChangesValue) → IsPut (over new old) number → IsPut new number ⊎ IsPut old number
  put_over new old put =
      elim (one_of (get new put.path) (get old put.path) put.change (sym (get_over new old put.path) ∙ put.stands)) [
        | inl here ↦ inl (record { path = put.path; change = put.change; stands = here; names = put.names })
        | inr here ↦ inr (record { path = put.path; change = put.change; stands = here; names = put.names })
      ]

  -- what changes put after a reset they put before
  pub put_reset : (what : ResetWhat) (changes : ChangesValue) → IsPut (changes_after_reset what changes) number → IsPut changes number
  put_reset what changes put = record {
    path = put.path;
    change = put.change;
    stands = stood (drops_path what put.path) (get changes put.path) put.change (sym (get_reset what changes put.path) ∙ put.stands);
    names = put.names;
  }

  pub put_nothing : IsPut empty number → ⊥
  put_nothing put = nothing_stands put.path put.change put.stands

  pub in_nothing : IsInMap empty number → ⊥
  in_nothing within = nothing_stands within.path within.entry within.stands

  said : (change : Option Change) (had : Option EntryValue) (e : EntryValue) → value_after change had ≡ Some e → (change ≡ Some (Put e)) ⊎ (had ≡ Some e)
  said None had e h = inr h
  said (Some (Put entry)) had e h = let same : entry ≡ e = cc in inl (ap (λ x. Some (Put x)) same)
  said (Some Delete) had e h = absurd cc

  -- what a map has after changes they put, or it had it
  pub in_applied : (changes : ChangesValue) (map : KeyMapValue) → IsInMap (apply changes map) number → IsPut changes number ⊎ IsInMap map number
  in_applied changes map within =
      elim (said (get changes within.path) (get map within.path) within.entry (sym (get_apply changes map within.path) ∙ within.stands)) [
        | inl put ↦ inl (record { path = within.path; change = Put within.entry; stands = put; names = within.names })
        | inr had ↦ inr (record { path = within.path; entry = within.entry; stands = had; names = within.names })
      ]

  of_side : (strategy : Strategy) (source dest : Option EntryValue) (side : Side) (e : EntryValue) → side_value strategy source dest side ≡ Some e
      → (source ≡ Some e) ⊎ (dest ≡ Some e)
  of_side strategy source dest Source e h = inl h
  of_side strategy source dest Destination e h = inr h
  of_side Refuse source dest Neither e h = inr h
  of_side SourceWins source dest Neither e h = inl h
  of_side DestWins source dest Neither e h = inr h

  -- what a merged map has the source has, or the destination: nothing comes of the base alone
  pub in_merged : (strategy : Strategy) (base source dest : KeyMapValue) → IsInMap (merged_map strategy base source dest) number
      → IsInMap source number ⊎ IsInMap dest number
  in_merged strategy base source dest within =
      let path = within.path in
      elim (of_side strategy (get source path) (get dest path)
      (side_of (get base path) (get source path) (get dest path)) within.entry (sym (get_merged strategy base source dest path) ∙ within.stands)) [
        | inl here ↦ inl (record { path = path; entry = within.entry; stands = here; names = within.names })
        | inr here ↦ inr (record { path = path; entry = within.entry; stands = here; names = within.names })
      ]
