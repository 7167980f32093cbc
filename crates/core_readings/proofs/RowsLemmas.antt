-- What is told of rows above some bytes, and the names of a state.
use Rattle.std.proofs.Common.{◌≡◌, ℕ, Bool, true, false, cond, List, [], ◌∷◌, map, Some, None, Option, refl, sym, ap, subst, ◌∙◌}
use Rattle.std.specs.Prelude.{IfSome}
use Rattle.std.specs.Option.{option_map, option_map_or}
use Rattle.std.specs.Ordering.{is_lt}
use Rattle.std.specs.List.{cons_option, filter}
use Rattle.std.specs.FinMap.{entries}
use Rattle.std.proofs.lemmas.List.{map-id}
use Rattle.lake_base.specs.Maps.{byte_order, ByteMap}
use Rattle.byte_map.specs.MapRows.{entries_above}
use Rattle.byte_map.specs.Values.{map_rows, map_values, some_rows, some_values}
use Rattle.byte_map.proofs.ValuesLemmas.{entries_map_values, entries_some_values}
use Rattle.lake_model.specs.Readings.{above, names_above, repository_info}
use Rattle.core_state.specs.declared.lake.LakeState.{LakeState}
use Rattle.core_state.specs.declared.repository.RepositoryState.{RepositoryState}
use Rattle.core_state.specs.BranchStates.{branch_of, branch_value}
use Rattle.core_state.specs.LakeStates.{lake_value, state_of}
use Rattle.core_state.specs.RepositoryStates.{repository_of, repository_value}
use Rattle.core_readings.proofs.PlacesLemmas.{repository_at}
use Rattle.core_readings.specs.NamedRows.{rows_above}

-- ---- where the search starts
module _ {X Y : Type 0} (told : List ℕ → X → Y) (after : List ℕ) where
  kept : (name : List ℕ) (o : Option X) (rows : List (List ℕ × Option X)) (b : Bool) → is_lt (byte_order after name) ≡ b
      → rows_above told after (filter (λ row. is_lt (byte_order after row.0)) rows) ≡ rows_above told after rows
      → rows_above told after (cond b ((name, o) ∷ filter (λ row. is_lt (byte_order after row.0)) rows) (filter (λ row. is_lt (byte_order after row.0)) rows))
      ≡ rows_above told after ((name, o) ∷ rows)
  kept name None rows true is rest = rest
  kept name None rows false is rest = rest
  kept name (Some x) rows true is rest = λ i. cond (is_lt (byte_order after name)) (told name x ∷ rest i) (rest i)
  kept name (Some x) rows false is rest = rest ∙ sym (ap (λ b. cond b (told name x ∷ rows_above told after rows) (rows_above told after rows)) is)

  -- rows that aren't above the bytes tell nothing
  above_alone : (rows : List (List ℕ × Option X)) → rows_above told after (filter (λ row. is_lt (byte_order after row.0)) rows) ≡ rows_above told after rows
  above_alone [] = refl
  above_alone (row ∷ rows) = kept row.0 row.1 rows (is_lt (byte_order after row.0)) refl (above_alone rows)

  from_start : {K : Type 0} (bytes : K → List ℕ) (m : ByteMap (Option X)) (start : Option K) → IfSome start (λ name. bytes name ≡ after)
      → rows_above told after (option_map_or (λ name. entries_above (bytes name) m) start (entries m)) ≡ rows_above told after (entries m)
  from_start bytes m None is = refl
  from_start bytes m (Some name) is = ap (λ key. rows_above told after (entries_above key m)) is ∙ above_alone (entries m)

  -- so the search may start there
  pub all_above : {K : Type 0} (bytes : K → List ℕ) (m : ByteMap (Option X)) (start : Option K) (rows : List (List ℕ × Option X)) (given : List ℕ)
      → given ≡ after
      → rows ≡ option_map_or (λ name. entries_above (bytes name) m) start (entries m) → IfSome start (λ name. bytes name ≡ given)
      → rows_above told given rows ≡ rows_above told after (entries m)
  all_above bytes m start rows given same found is =
      (λ i. rows_above told (same i) (found i)) ∙ from_start bytes m start (subst (λ text. IfSome start (λ name. bytes name ≡ text)) same is)

-- ---- the names of a state

-- what is told of rows with other values
mapped : {X Y Z : Type 0} (p : List ℕ → Bool) (f : X → Y) (told : List ℕ × Y → Z) (rows : List (List ℕ × X))
    → map told (filter (λ e. p e.0) (map_rows f rows)) ≡ map (λ e. told (e.0, f e.1)) (filter (λ e. p e.0) rows)
mapped p f told [] = refl
mapped p f told (row ∷ rows) =
    elim (p row.0) as (λ b.
    map told (cond b ((row.0, f row.1) ∷ filter (λ e. p e.0) (map_rows f rows)) (filter (λ e. p e.0) (map_rows f rows)))
    ≡ map (λ e. told (e.0, f e.1)) (cond b (row ∷ filter (λ e. p e.0) rows) (filter (λ e. p e.0) rows))) [
      | true ↦ ap (λ later. told (row.0, f row.1) ∷ later) (mapped p f told rows)
      | false ↦ mapped p f told rows
    ]

module _ {X Y Z : Type 0} (after : List ℕ) (f : Option X → Option Y) (g : X → Y) (none : f None ≡ None) (some : (x : X) → f (Some x) ≡ Some (g x))
    (told : List ℕ × Y → Z) where
  from_row : (name : List ℕ) (later : List (List ℕ × Y)) → Option Y → List Z
  from_row name later o = map told (filter (λ e. is_lt (byte_order after e.0)) (cons_option (option_map (λ y. (name, y)) o) later))

  one_told : (name : List ℕ) (x : X) (b : Bool) (later : List (List ℕ × Y)) (rest : List Z) → map told later ≡ rest
      → map told (cond b ((name, g x) ∷ later) later) ≡ cond b (told (name, g x) ∷ rest) rest
  one_told name x true later rest is = ap (λ l. told (name, g x) ∷ l) is
  one_told name x false later rest is = is

  -- what is told of the values that are there
  there_told : (rows : List (List ℕ × Option X))
      → map told (filter (λ e. is_lt (byte_order after e.0)) (some_rows f rows)) ≡ rows_above (λ name x. told (name, g x)) after rows
  unfolding from_row
  there_told [] = refl
  there_told ((name, None) ∷ rows) = ap (from_row name (some_rows f rows)) none ∙ there_told rows
  there_told ((name, Some x) ∷ rows) =
      ap (from_row name (some_rows f rows)) (some x)
      ∙ one_told name x (is_lt (byte_order after name)) (filter (λ e. is_lt (byte_order after e.0)) (some_rows f rows)) _ (there_told rows)

  pub values_told : (m : ByteMap (Option X)) → map told (above after (some_values f m)) ≡ rows_above (λ name x. told (name, g x)) after (entries m)
  values_told m = ap (λ rows. map told (filter (λ e. is_lt (byte_order after e.0)) rows)) (entries_some_values f m) ∙ there_told (entries m)

-- what is told of the values that stand for those that are there
pub changed_told : {X Y W Z : Type 0} (after : List ℕ) (g : X → Y) (h : Y → W) (told : List ℕ × W → Z) (m : ByteMap (Option X))
    → map told (above after (map_values h (some_values (option_map g) m))) ≡ rows_above (λ name x. told (name, h (g x))) after (entries m)
changed_told after g h told m =
    ap (λ rows. map told (filter (λ e. is_lt (byte_order after e.0)) rows)) (entries_map_values h (some_values (option_map g) m))
    ∙ mapped (λ name. is_lt (byte_order after name)) h told (entries (some_values (option_map g) m))
    ∙ values_told after (option_map g) g refl (λ x. refl) (λ e. told (e.0, h e.1)) m

pub tags_told : (r : RepositoryState) (after : List ℕ) → rows_above (λ name id. (name, id)) after (entries r.tags) ≡ names_above (repository_at r) true after
tags_told r after =
    sym (values_told after (λ tag. tag) (λ id. id) refl (λ id. refl) (λ e. e) r.tags) ∙ map-id (above after (some_values (λ tag. tag) r.tags))

pub heads_told : (r : RepositoryState) (after : List ℕ)
    → rows_above (λ name b. (name, b.record.head)) after (entries r.branches) ≡ names_above (repository_at r) false after
heads_told r after = sym (changed_told after branch_value branch_of (λ b. (b.0, b.1.head)) r.branches)

pub infos_told : (l : LakeState) (after : List ℕ) → rows_above (λ name r. repository_info (name, repository_at r)) after (entries l.repositories)
    ≡ map repository_info (above after (state_of (lake_value l)).repositories)
unfolding lake_value
infos_told l after = sym (changed_told after repository_value repository_of repository_info l.repositories)
