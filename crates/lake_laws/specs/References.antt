-- What references lead to.
use Rattle.std.specs.Prelude.{◌≡◌, List, ℕ, Option, Some, None, option_map}
use Rattle.std.specs.FinMap.{get}
use Rattle.lake_model.specs.State.{Repository, State}

-- two repositories have the same heads, tags, commits, expired commits and settings
pub record HaveSameReferences (old new : Repository) : Type 0 where
  pub heads : (name : List ℕ) → option_map (λ b. b.head) (get new.branches name) ≡ option_map (λ b. b.head) (get old.branches name)
  pub tags : new.tags ≡ old.tags
  pub commits : new.commits ≡ old.commits
  pub maps : new.maps ≡ old.maps
  pub expired : new.expired ≡ old.expired
  pub notes : new.notes ≡ old.notes

-- so do two repositories of one name, or there is none
abbrev pub SameRepository : Option Repository → Option Repository → Type 0
SameRepository None None = Unit {0}
SameRepository (Some old) (Some new) = HaveSameReferences old new
SameRepository None (Some new) = ⊥
SameRepository (Some old) None = ⊥

-- each name of two lakes has the same references
abbrev pub SameReferences : State → State → Type 0
SameReferences old new = (name : List ℕ) → SameRepository (get old.repositories name) (get new.repositories name)
