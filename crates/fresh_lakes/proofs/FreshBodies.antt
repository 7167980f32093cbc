-- A fresh lake names no object, so that a store which holds none fits it.
use Rattle.std.proofs.Common.{◌≡◌, ◌⊎◌, ⊎_elim, ℕ, Bool, true, false, cond, List, Option, Some, None, refl, sym, ap, ◌∙◌}
use Rattle.std.proofs.lemmas.Cmp.{nat_list_cmp_total}
use Rattle.std.specs.Prelude.{codes}
use Rattle.std.specs.FinMap.{empty, get, insert, get-insert, get-empty}
use Rattle.std.specs.Option.{unwrap_or}
use Rattle.std.specs.Ordering.{eq_by_cmp}
use Rattle.lake_base.specs.Maps.{byte_order}
use Rattle.lake_base.specs.declared.digest.Digest.{Digest}
use Rattle.lake_format.specs.declared.cut.Cut.{Cut}
use Rattle.lake_format.specs.Spelling.{commit_id}
use Rattle.lake_values.specs.Entry.{EntryValue}
use Rattle.lake_values.specs.declared.entry.Change.{Change}
use Rattle.lake_values.specs.declared.entry.Change.TheVariants.{Put}
use Rattle.lake_values.specs.KeyMap.{KeyMapValue}
use Rattle.lake_model.specs.Branches.{clean_branch}
use Rattle.lake_model.specs.Commits.{first_draft, new_repository, record_of}
use Rattle.lake_model.specs.Soundness.{fresh}
use Rattle.lake_model.specs.State.{Branch, Repository, map_of}
use Rattle.lake_calls.specs.HeldBodies.{FitsState}

module _ {X : Type 0} (name : List ℕ) (x : X) where
  -- what one name leads to in a map of that name alone
  of_tie : (tie : Bool) (other : List ℕ) (y : X) → cond tie (Some x) (get (empty {X = X} {R = byte_order}) other) ≡ Some y → y ≡ x
  of_tie true other y is = cc
  of_tie false other y is =
      let none : get (empty {X = X} {R = byte_order}) other ≡ None = get-empty byte_order other in absurd cc

  pub only_there : (other : List ℕ) (y : X) → get (insert (empty {X = X} {R = byte_order}) name x) other ≡ Some y → y ≡ x
  only_there other y is =
      of_tie (eq_by_cmp byte_order other name) other y (sym (get-insert nat_list_cmp_total empty name x other) ∙ is)

-- a map in which each name leads to a map of nothing
no_entry : (maps : Option KeyMapValue) (path : List ℕ) (entry : EntryValue) → ((m : KeyMapValue) → maps ≡ Some m → m ≡ empty)
    → get (unwrap_or maps empty) path ≡ Some entry → ⊥
no_entry None path entry each is =
    let none : get (empty {X = EntryValue} {R = byte_order}) path ≡ None = get-empty byte_order path in absurd cc
no_entry (Some m) path entry each is =
    let none : get m path ≡ None = ap (λ (map : KeyMapValue). get map path) (each m refl) ∙ get-empty byte_order path in absurd cc

module _ (cut : Cut) where
  abbrev first_id : Digest
  first_id = commit_id (record_of cut empty (first_draft 0))

  abbrev quickstart : Repository
  quickstart = new_repository cut 0 (codes "main")

  first_maps : (r : Repository) (id : Digest) (path : List ℕ) (entry : EntryValue) → r ≡ quickstart → get (map_of r id) path ≡ Some entry → ⊥
  first_maps r id path entry is there =
      no_entry (get r.maps id.0) path entry
      (λ m found. only_there first_id.0 empty id.0 m (ap (λ (r : Repository). get r.maps id.0) (sym is) ∙ found)) there

  no_change : (r : Repository) (branch : List ℕ) (b : Branch) (path : List ℕ) (entry : EntryValue) → r ≡ quickstart → get r.branches branch ≡ Some b
      → (get b.sealed path ≡ Some (Put entry)) ⊎ (get b.staged path ≡ Some (Put entry)) → ⊥
  no_change r branch b path entry is there changes =
      let clean : b ≡ clean_branch first_id = only_there (codes "main") (clean_branch first_id) branch b
      (ap (λ (r : Repository). get r.branches branch) (sym is) ∙ there) in
      let none : get (empty {X = Change} {R = byte_order}) path ≡ None = get-empty byte_order path in
      ⊎_elim (λ sealed. let same : get b.sealed path ≡ None = ap (λ (b : Branch). get b.sealed path) clean ∙ none in absurd cc)
      (λ staged. let same : get b.staged path ≡ None = ap (λ (b : Branch). get b.staged path) clean ∙ none in absurd cc) changes

  pub fresh_fits : (held : ℕ → Option (List ℕ)) → FitsState (fresh cut) held
  fresh_fits held = record {
    committed = λ repo r id path entry there live is. absurd (first_maps r id path entry (only_there (codes "quickstart") quickstart repo r there) is);
    uncommitted = λ repo r branch b path entry there on change.
        absurd (no_change r branch b path entry (only_there (codes "quickstart") quickstart repo r there) on change);
  }
