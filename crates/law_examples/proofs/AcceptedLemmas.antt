-- Merges and picks ask nothing of protection.
use Rattle.std.proofs.Common.{List, ℕ}
use Rattle.std.specs.Prelude.{Some}
use Rattle.lake_base.specs.declared.digest.Digest.{Digest}
use Rattle.lake_values.specs.Commit.{AboutValue}
use Rattle.lake_values.specs.declared.commit.Strategy.{Strategy}
use Rattle.lake_model.specs.State.{Branch, Repository, State}
use Rattle.lake_model.specs.Commits.{Draft, IsMerge, IsMergeable, IsPick, MayBecomeHead, MergeSides}

-- a repository with these protected patterns
abbrev protecting : List (List ℕ) → Repository → Repository
protecting patterns r = record r { notes = record r.notes { protection = Some patterns } }

head_still : (state : State) (branch : List ℕ) (r : Repository) (b : Branch) (draft : Draft) (patterns : List (List ℕ)) → MayBecomeHead state branch r b draft
    → MayBecomeHead state branch (protecting patterns r) b draft
head_still state branch r b draft patterns may = record {
  allowed = may.allowed;
  admissible = record {
    live = may.admissible.live;
    same_record = may.admissible.same_record;
    same_map = may.admissible.same_map;
    apart = may.admissible.apart;
    files_apart = may.admissible.files_apart;
  };
}

sides_still : (r : Repository) (b : Branch) (sides : MergeSides) (patterns : List (List ℕ)) → IsMergeable r b sides
    → IsMergeable (protecting patterns r) b sides
sides_still r b sides patterns may = record { clean = may.clean; changed = may.changed; settled = may.settled }

pub merge_still :
    (state : State) (branch : List ℕ) (id : Digest) (strategy : Strategy) (about : AboutValue) (r : Repository) (b : Branch) (patterns : List (List ℕ))
    → IsMerge state branch id strategy about r b → IsMerge state branch id strategy about (protecting patterns r) b
merge_still state branch id strategy about r b patterns may =
    record { live = may.live; sides = sides_still r b _ patterns may.sides; head = head_still state branch r b _ patterns may.head }

pub pick_still :
    (state : State) (branch : List ℕ) (base id : Digest) (strategy : Strategy) (about : AboutValue) (r : Repository) (b : Branch) (patterns : List (List ℕ))
    → IsPick state branch base id strategy about r b → IsPick state branch base id strategy about (protecting patterns r) b
pick_still state branch base id strategy about r b patterns may =
    record { there = may.there; live = may.live; sides = sides_still r b _ patterns may.sides; head = head_still state branch r b _ patterns may.head }
