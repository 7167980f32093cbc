-- The facts of a branch's changes that are carried along: one isn't committed, one is sealed, and nothing is over it.
use Rattle.std.proofs.Common.{◌≡◌, ℕ, false, cond, List, refl, sym, ap, ◌∙◌, ◌⊎◌, inl, inr}
use Rattle.std.specs.Prelude.{Option, Some, None}
use Rattle.std.specs.Option.{option_or}
use Rattle.std.specs.FinMap.{empty, get, insert, get-empty}
use Rattle.lake_base.specs.Maps.{byte_order}
use Rattle.lake_values.specs.KeyMap.{ChangesValue, over}
use Rattle.lake_values.specs.Reset.{drops_path, changes_after_reset}
use Rattle.lake_values.specs.declared.commit.ResetWhat.{ResetWhat}
use Rattle.lake_values.specs.declared.entry.Change.{Change}
use Rattle.lake_values.proofs.KeyMapLemmas.{get_over}
use Rattle.lake_values.proofs.ResetLemmas.{get_reset}
use Rattle.lake_model.specs.declared.history.Operation.{Operation}
use Rattle.lake_model.specs.State.{Branch}
use Rattle.lake_laws.specs.SealedPaths.{uncommitted_change, WritesPath, SealsBranch}
use Rattle.lake_laws.proofs.LookupLemmas.{insert_either}
use Rattle.lake_laws.proofs.SealedStepLemmas.{IsCarried}
use Rattle.lake_laws.proofs.SealedPathLemmas.{IsSealedWith}

-- a reset leaves the change of a path that it doesn't drop
left : (what : ResetWhat) (path : List ℕ) → drops_path what path ≡ false → (changes : ChangesValue)
    → get (changes_after_reset what changes) path ≡ get changes path
left what path leaves changes = get_reset what changes path ∙ ap (λ test. cond test None (get changes path)) leaves

-- a seal leaves what isn't committed
pub resealed : (b : Branch) (path : List ℕ) → get (over empty (over b.staged b.sealed)) path ≡ uncommitted_change b path
resealed b path =
    get_over empty (over b.staged b.sealed) path ∙ ap (λ o. option_or o (get (over b.staged b.sealed) path)) (get-empty byte_order path)

module _ (repo branch path : List ℕ) (P : Change → Type 0) (Spares : Operation → Type 0) where
  -- a change that has P isn't committed
  abbrev pub IsUncommittedWith : Branch → Type 0
  IsUncommittedWith b = (change : Change) × (uncommitted_change b path ≡ Some change) × P change

  commit_uncommitted : (b : Branch) (staged : Option Change) → get b.staged path ≡ staged → IsUncommittedWith b
      → ((change : Change) × (get (over b.staged empty) path ≡ Some change) × P change) ⊎ IsSealedWith repo branch path P b
  commit_uncommitted b None none has =
      inr (has.0, sym (get_over b.staged b.sealed path ∙ ap (λ o. option_or o (get b.sealed path)) none) ∙ has.1, has.2)
  commit_uncommitted b (Some change) some has =
      let is : uncommitted_change b path ≡ Some change = get_over b.staged b.sealed path ∙ ap (λ o. option_or o (get b.sealed path)) some in
      inl (
        has.0,
        get_over b.staged empty path ∙ ap (λ o. option_or o (get {R = byte_order} empty path)) some ∙ sym is ∙ has.1,
        has.2,
      )

  module _ (writes : (operation : Operation) → Spares operation → WritesPath repo branch path operation → (change : Change) → P change) where
    staged_uncommitted : (operation : Operation) (b : Branch) (q : List ℕ) (change : Change) → Spares operation
        → (q ≡ path → WritesPath repo branch path operation) → IsUncommittedWith b
        → (c : Change) × (get (over (insert b.staged q change) b.sealed) path ≡ Some c) × P c
    staged_uncommitted operation b q change spares at has =
        let says = get_over (insert b.staged q change) b.sealed path in
        elim (insert_either b.staged q change path) [
          | inl put ↦ (
            change,
            says ∙ ap (λ o. option_or o (get b.sealed path)) put.1,
            writes operation spares (at (sym put.0)) change,
          )
          | inr stood ↦ (
            has.0,
            says ∙ ap (λ o. option_or o (get b.sealed path)) stood ∙ sym (get_over b.staged b.sealed path) ∙ has.1,
            has.2,
          )
        ]

    pub uncommitted_carried : IsCarried repo branch path Spares IsUncommittedWith (IsSealedWith repo branch path P)
    uncommitted_carried = record {
      staged = staged_uncommitted;
      reset = λ b what leaves has. (
        has.0,
        get_over (changes_after_reset what b.staged) (changes_after_reset what b.sealed) path
            ∙ (λ i. option_or (left what path leaves b.staged i) (left what path leaves b.sealed i))
            ∙ sym (get_over b.staged b.sealed path)
            ∙ has.1,
        has.2,
      );
      sealed = λ operation b spares seals has. (has.0, resealed b path ∙ has.1, has.2);
      head = λ b id has. commit_uncommitted b (get b.staged path) refl has;
    }

  module _ (seals : (operation : Operation) → Spares operation → SealsBranch repo branch operation → (change : Change) → P change) where
    sealed_again : (operation : Operation) (b : Branch) (staged : Option Change) → get b.staged path ≡ staged → Spares operation
        → SealsBranch repo branch operation → IsSealedWith repo branch path P b
        → (change : Change) × (get (over b.staged b.sealed) path ≡ Some change) × P change
    sealed_again operation b None none spares by has =
        (has.0, get_over b.staged b.sealed path ∙ ap (λ o. option_or o (get b.sealed path)) none ∙ has.1, has.2)
    sealed_again operation b (Some change) some spares by has =
        (change, get_over b.staged b.sealed path ∙ ap (λ o. option_or o (get b.sealed path)) some, seals operation spares by change)

    pub sealed_carried : IsCarried repo branch path Spares (IsSealedWith repo branch path P) (IsSealedWith repo branch path P)
    sealed_carried = record {
      staged = λ operation b q change spares at has. has;
      reset = λ b what leaves has. (has.0, left what path leaves b.sealed ∙ has.1, has.2);
      sealed = λ operation b spares by has. sealed_again operation b (get b.staged path) refl spares by has;
      head = λ b id has. inr has;
    }

module _ (repo branch path : List ℕ) (change : Change) where
  -- it is the change
  abbrev pub IsThis : Change → Type 0
  IsThis c = c ≡ change

  -- an operation doesn't stage anything at the path
  abbrev pub WritesNot : Operation → Type 0
  WritesNot operation = WritesPath repo branch path operation → ⊥

  -- the change is sealed, and nothing else is staged at the path
  abbrev pub IsSealedOver : Branch → Type 0
  IsSealedOver b = (get b.sealed path ≡ Some change) × (uncommitted_change b path ≡ Some change)

  alone : IsCarried repo branch path WritesNot (IsUncommittedWith repo branch path IsThis WritesNot) (IsSealedWith repo branch path IsThis)
  alone = uncommitted_carried repo branch path IsThis WritesNot (λ operation spares writes c. absurd (spares writes))

  pub this : (o : Option Change) → (c : Change) × (o ≡ Some c) × (c ≡ change) → o ≡ Some change
  this o is = is.1 ∙ ap Some is.2

  pub over_carried : IsCarried repo branch path WritesNot IsSealedOver (IsSealedWith repo branch path IsThis)
  over_carried = record {
    staged = λ operation b q put spares at has.
        (has.0, this _ (alone.staged operation b q put spares at (change, has.1, refl)));
    reset = λ b what leaves has.
        (left what path leaves b.sealed ∙ has.0, this _ (alone.reset b what leaves (change, has.1, refl)));
    sealed = λ operation b spares by has.
        (has.1, this _ (alone.sealed operation b spares by (change, has.1, refl)));
    head = λ b id has. inr (change, has.0, refl);
  }

module _ (repo branch path : List ℕ) where
  -- an operation neither stages anything at the path nor seals the branch
  abbrev pub WritesNorSeals : Operation → Type 0
  WritesNorSeals operation = (WritesPath repo branch path operation → ⊥) × (SealsBranch repo branch operation → ⊥)

module _ (repo branch path : List ℕ) (change : Change) where
  -- the change is staged at the path
  abbrev pub IsStaged : Branch → Type 0
  IsStaged b = get b.staged path ≡ Some change

  staged_at : (operation : Operation) (b : Branch) (q : List ℕ) (put : Change) → WritesNorSeals repo branch path operation
      → (q ≡ path → WritesPath repo branch path operation) → IsStaged b → get (insert b.staged q put) path ≡ Some change
  staged_at operation b q put spares at has = elim (insert_either b.staged q put path) [
    | inl same ↦ absurd (spares.0 (at (sym same.0)))
    | inr stood ↦ stood ∙ has
  ]

  -- it is carried along, and no new head takes it
  pub staged_carried : IsCarried repo branch path (WritesNorSeals repo branch path) IsStaged (IsSealedWith repo branch path (λ c. ⊥))
  staged_carried = record {
    staged = staged_at;
    reset = λ b what leaves has. left what path leaves b.staged ∙ has;
    sealed = λ operation b spares seals has. absurd (spares.1 seals);
    head = λ b id has. inl has;
  }
