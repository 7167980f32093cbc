-- A change of a branch, put and sealed and committed, in a lake of one repository with any branches.
use Rattle.std.proofs.Common.{◌≡◌, ◌<◌, ◌∷◌, [], ◌+◌, false, ℕ, List, sym, ap, subst, ◌∙◌, arith}
use Rattle.std.specs.Prelude.{Option, Some, None, IfSome}
use Rattle.std.specs.FinMap.{get, insert, empty}
use Rattle.lake_base.specs.Maps.{ByteMap}
use Rattle.lake_base.specs.declared.digest.Digest.{Digest}
use Rattle.lake_values.specs.Commit.{AboutValue}
use Rattle.lake_values.specs.Entry.{EntryValue}
use Rattle.lake_values.specs.KeyMap.{ChangesValue, apply, value_after}
use Rattle.lake_values.specs.declared.entry.Change.{Change}
use Rattle.lake_values.specs.declared.entry.Change.TheVariants.{Put}
use Rattle.lake_values.specs.declared.settings.HookRule.{HookRule}
use Rattle.lake_values.proofs.KeyMapLemmas.{get_apply, over_one}
use Rattle.lake_model.specs.declared.history.Operation.TheVariants.{Stage, Seal, Commit}
use Rattle.lake_model.specs.declared.history.SealFor.TheVariants as seal
use Rattle.lake_model.specs.State.{Branch, HasBranch, Repository, State, map_of, sealed_map}
use Rattle.lake_model.specs.Parts.{in_branch}
use Rattle.lake_model.specs.Branches.{IsUnprotected, clean_branch, protected_by}
use Rattle.lake_model.specs.Commits.{Draft, IsAdmissible, IsCommittable, commit_draft, denied_by}
use Rattle.lake_model.specs.Uncommitted.{HasTicket, own_number, sealed_branch, with_staged, without_ticket}
use Rattle.lake_model.specs.History.{Allows, after, replay}
use Rattle.law_examples.specs.HistoryWords.{quickstart, entry_of}
use Rattle.law_examples.specs.Merges.{IsChangeAdmissible, change_entries, sealing_entries}
use Rattle.law_examples.proofs.BranchesLemmas.{drafted_id, in_draft, in_named, on_branch, put_again, spread, the_branch, with_drafted}
use Rattle.law_examples.proofs.SceneLemmas.{Leads, counted, leads_on, leads_one}
use Rattle.law_examples.proofs.CommitsLemmas.{apart_at}
use Rattle.law_examples.proofs.MapsLemmas.{get_put}

module _ (s : State) (r : Repository) (bs : ByteMap Branch) (name : List ℕ) (b : Branch) (there : get bs name ≡ Some b) where
  -- an entry that has no number is staged, and the branch is sealed
  pub after_put : (path : List ℕ) (entry : EntryValue) → own_number entry.place ≡ None
      → after (spread s r bs) (entry_of (Stage quickstart name path (Put entry))) ≡ spread (counted s) r (insert bs name (with_staged path (Put entry) b))
  after_put path entry outside =
      ap (λ (o : Option ℕ). record (in_branch quickstart name (with_staged path (Put entry)) (without_ticket o (spread s r bs))) { entries = s.entries + 1 })
      outside
      ∙ ap counted (in_named s r bs name b there (with_staged path (Put entry)))

  pub after_seal : after (spread s r bs) (entry_of (Seal quickstart name seal.Commit)) ≡ spread (counted s) r (insert bs name (sealed_branch b))
  after_seal = ap counted (in_named s r bs name b there sealed_branch)

-- the commit of one put at a path, after a head
abbrev pub change_draft : Repository → Digest → List ℕ → EntryValue → AboutValue → Draft
change_draft r head path entry about = record { parents = head ∷ []; objects = apply (insert empty path (Put entry)) (map_of r head); about = about }

-- a clean branch after a change that is committed
module _ (s : State) (r : Repository) (bs : ByteMap Branch) (name : List ℕ) (head : Digest) (there : get bs name ≡ Some (clean_branch head)) (path : List ℕ)
    (entry : EntryValue) where
  abbrev put : Branch
  put = with_staged path (Put entry) (clean_branch head)

  abbrev pub ready : Branch
  ready = record (clean_branch head) { sealed = insert empty path (Put entry) }

  sealing : sealed_branch put ≡ ready
  sealing = ap (λ (c : ChangesValue). record (clean_branch head) { sealed = c }) (over_one path (Put entry) empty)

  abbrev pub changed : AboutValue → State
  changed about = spread (counted (counted (counted s))) (with_drafted s r (change_draft r head path entry about))
      (insert bs name (clean_branch (drafted_id s r (change_draft r head path entry about))))

  put_is : own_number entry.place ≡ None → after (spread s r bs) (entry_of (Stage quickstart name path (Put entry))) ≡ spread (counted s) r (insert bs name put)
  put_is outside = after_put s r bs name (clean_branch head) there path entry outside

  seal_is :
      after (spread (counted s) r (insert bs name put)) (entry_of (Seal quickstart name seal.Commit)) ≡ spread (counted (counted s)) r (insert bs name ready)
  seal_is =
      after_seal (counted s) r (insert bs name put) name put (get_put bs name put)
      ∙ ap (λ (m : ByteMap Branch). spread (counted (counted s)) r m) (put_again bs name put (sealed_branch put) ∙ ap (insert bs name) sealing)

  pub to_seal : own_number entry.place ≡ None → replay (spread s r bs) (sealing_entries name path entry) ≡ spread (counted (counted s)) r (insert bs name ready)
  to_seal outside = ap (λ (l : State). after l (entry_of (Seal quickstart name seal.Commit))) (put_is outside) ∙ seal_is

  commit_is : (about : AboutValue) → after (spread (counted (counted s)) r (insert bs name ready)) (entry_of (Commit quickstart name about)) ≡ changed about
  commit_is about =
      ap counted (in_draft (counted (counted s)) r (insert bs name ready) name ready (get_put bs name ready) (λ x y. commit_draft x y about))
      ∙ ap (λ (m : ByteMap Branch). spread (counted (counted (counted s))) (with_drafted s r (change_draft r head path entry about)) m)
      (put_again bs name ready (clean_branch (drafted_id s r (change_draft r head path entry about))))

  pub after_change : own_number entry.place ≡ None → (about : AboutValue) → replay (spread s r bs) (change_entries name path entry about) ≡ changed about
  after_change outside about = ap (λ (l : State). after l (entry_of (Commit quickstart name about))) (to_seal outside) ∙ commit_is about

  -- it is legal where the lake runs, nothing protects the branch and no hook is set, the path was free, and the commit is admissible
  module _ (outside : own_number entry.place ≡ None) (about : AboutValue) (running : s.stopped ≡ false) (room : s.entries < 4194000)
      (unprotected : r.notes.protection ≡ None) (free : r.notes.hooks ≡ None) where
    unguarded : IsUnprotected r name
    unguarded = ap (λ (x : Option (List (List ℕ))). protected_by x name) unprotected

    may_put : Allows (spread s r bs) (entry_of (Stage quickstart name path (Put entry)))
    may_put = record {
      running = running;
      room = omega (arith, room);
      possible = (
        on_branch s r bs name (clean_branch head) there (λ x y. IsUnprotected x name) unguarded,
        subst (λ (o : Option ℕ). IfSome o (HasTicket (spread s r bs) 1)) (sym outside) tt,
      );
    }

    may_seal : Allows (spread (counted s) r (insert bs name put)) (entry_of (Seal quickstart name seal.Commit))
    may_seal = record {
      running = running;
      room = omega (arith, room);
      possible = on_branch (counted s) r (insert bs name put) name put (get_put bs name put) (λ x y. IsUnprotected x name) unguarded;
    }

    sealed_has : get (sealed_map r ready) path ≡ Some entry
    sealed_has = get_apply (insert empty path (Put entry)) (map_of r head) path
        ∙ ap (λ (o : Option Change). value_after o (get (map_of r head) path)) (get_put empty path (Put entry))

    may_commit : get (map_of r head) path ≡ None → HasBranch (spread (counted (counted s)) r (insert bs name ready)) quickstart name
        (λ x y. IsAdmissible (spread (counted (counted s)) r (insert bs name ready)) x (commit_draft x y about))
        → Allows (spread (counted (counted s)) r (insert bs name ready)) (entry_of (Commit quickstart name about))
    may_commit lacks admissible = record {
      running = running;
      room = omega (arith, room);
      possible = on_branch (counted (counted s)) r (insert bs name ready) name ready (get_put bs name ready)
          (IsCommittable (spread (counted (counted s)) r (insert bs name ready)) name about) (record {
            unprotected = unguarded;
            changed = apart_at (sealed_map r ready) (map_of r head) path entry sealed_has lacks;
            head = record {
              allowed = ap (λ (x : Option (List HookRule)). denied_by x name (map_of r head) (commit_draft r ready about)) free;
              admissible = the_branch (counted (counted s)) r (insert bs name ready) name ready (get_put bs name ready)
                  (λ x y. IsAdmissible (spread (counted (counted s)) r (insert bs name ready)) x (commit_draft x y about)) admissible;
            };
          });
    }

    pub legal_change : get (map_of r head) path ≡ None → IsChangeAdmissible (spread s r bs) name path entry about
        → Leads (spread s r bs) (change_entries name path entry about) (changed about)
    legal_change lacks admissible = leads_on (leads_on (leads_one may_put (put_is outside)) (leads_one may_seal seal_is))
        (leads_one (may_commit lacks (subst (λ (l : State). HasBranch l quickstart name (λ x y. IsAdmissible l x (commit_draft x y about)))
        (to_seal outside) admissible)) (commit_is about))
