-- The entries by which the branches diverge are legal.
use Rattle.std.proofs.Common.{◌≡◌, ◌∷◌, [], ℕ, List, refl, ap, subst, ◌∙◌, arith}
use Rattle.std.specs.Prelude.{None, is_some}
use Rattle.std.specs.FinMap.{get, empty, get-empty}
use Rattle.lake_base.specs.Maps.{byte_order}
use Rattle.lake_values.specs.Entry.{EntryValue}
use Rattle.lake_values.specs.KeyMap.{KeyMapValue}
use Rattle.lake_model.specs.State.{HasLiveCommit, State}
use Rattle.lake_model.specs.Branches.{clean_branch}
use Rattle.lake_model.specs.Commits.{first_draft, record_of}
use Rattle.lake_model.specs.History.{Allows, IsLegal}
use Rattle.lake_model.specs.Removal.{AreDistinct}
use Rattle.lake_model.specs.Soundness.{fresh}
use Rattle.lake_model.specs.Uncommitted.{own_number}
use Rattle.law_examples.specs.HistoryWords.{main, first, outside, a, b}
use Rattle.law_examples.specs.Picks.{larger_object}
use Rattle.law_examples.specs.Merges.{AreChangesAdmissible, Fork, IsChangeAdmissible, branch_entry, change_entries, dev, diverged_lake, fork_entries}
use Rattle.law_examples.specs.Merges.{rival_lake, three_commits}
use Rattle.law_examples.proofs.BranchesLemmas.{get_one, repo_there, spread}
use Rattle.law_examples.proofs.EntriesLemmas.{first_branch}
use Rattle.law_examples.proofs.MapsLemmas.{first_map, get_put, no_entry}
use Rattle.law_examples.proofs.SceneLemmas.{Leads, leads_on, leads_one}
use Rattle.law_examples.proofs.ChangesLemmas.{legal_change}
use Rattle.law_examples.proofs.DivergedLemmas.{ahead, base_ahead, branched, bs1, bs2, bs3, differ_of, main_ahead, one, r0, r1, r2, s1, s2, s3}

module _ (path : List ℕ) (entry : EntryValue) (outer : own_number entry.place ≡ None) (fork : Fork) where
  -- the lakes on the way
  abbrev beginning : State
  beginning = spread (s1 path entry outer fork) (r0 path entry outer fork) (bs1 path entry outer fork)

  abbrev advanced : State
  advanced = spread (s2 path entry outer fork) (r1 path entry outer fork) (bs2 path entry outer fork)

  abbrev end : State
  end = spread (s3 path entry outer fork) (r2 path entry outer fork) (bs3 path entry outer fork)

  root_live : HasLiveCommit (r0 path entry outer fork) (first fork.cut)
  root_live = (ap is_some (get_put empty (first fork.cut).0 (record_of fork.cut empty (first_draft 0))), ap is_some (get-empty byte_order (first fork.cut).0))

  may_branch : Allows (fresh fork.cut) (branch_entry fork.cut)
  may_branch = record {
    running = refl;
    room = omega arith;
    possible = (
      r0 path entry outer fork,
      repo_there (r0 path entry outer fork),
      record { fresh = get_one main (first_branch fork.cut) dev; plain = refl; live = root_live },
    );
  }

  begins : Leads (fresh fork.cut) (branch_entry fork.cut ∷ []) beginning
  begins = leads_one may_branch (branched path entry outer fork)

  module _ (early : first fork.cut ≡ one path entry outer fork → ⊥) (admissible : AreChangesAdmissible path entry fork) where
    advances : Leads beginning (change_entries dev path entry fork.of_dev) advanced
    advances = legal_change (s1 path entry outer fork) (r0 path entry outer fork) (bs1 path entry outer fork) dev (first fork.cut)
        (get_put _ dev (clean_branch (first fork.cut))) path entry outer fork.of_dev refl (omega arith) refl refl
        (ap (λ (m : KeyMapValue). get m path) (first_map fork.cut (first fork.cut)) ∙ no_entry path)
        (subst (λ (l : State). IsChangeAdmissible l dev path entry fork.of_dev) (branched path entry outer fork) admissible.0)

    diverges : Leads advanced (change_entries main a outside fork.of_main) end
    diverges = legal_change (s2 path entry outer fork) (r1 path entry outer fork) (bs2 path entry outer fork) main (first fork.cut)
        (main_ahead path entry outer fork) a outside refl fork.of_main refl (omega arith) refl refl
        (ap (λ (m : KeyMapValue). get m a) (base_ahead path entry outer fork early) ∙ no_entry a)
        (subst (λ (l : State). IsChangeAdmissible l main a outside fork.of_main) (ahead path entry outer fork) admissible.1)

    legal_fork : IsLegal (fresh fork.cut) (fork_entries path entry fork)
    legal_fork = (leads_on begins (leads_on advances diverges)).legal

pub legal_diverged : (fork : Fork) → AreDistinct (three_commits fork.cut (diverged_lake fork)) → AreChangesAdmissible b outside fork
    → IsLegal (fresh fork.cut) (fork_entries b outside fork)
unfolding diverged_lake
legal_diverged fork distinct = legal_fork b outside refl fork (differ_of b outside refl fork distinct).early

pub legal_rival : (fork : Fork) → AreDistinct (three_commits fork.cut (rival_lake fork)) → AreChangesAdmissible a larger_object fork
    → IsLegal (fresh fork.cut) (fork_entries a larger_object fork)
unfolding rival_lake
legal_rival fork distinct = legal_fork a larger_object refl fork (differ_of a larger_object refl fork distinct).early
