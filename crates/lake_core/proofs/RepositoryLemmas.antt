-- What the step of a new repository answers, and what it leaves where it is refused.
use Rattle.std.proofs.Common.{◌≡◌, ◌+◌, ◌<◌, ◌^◌, ℕ, List, ◌⊎◌, inl, inr, sym, ap, subst, ◌∙◌}
use Rattle.std.specs.Prelude.{true, Option, Some, None, Result, Ok, Err, IsErrAnd}
use Rattle.lake_base.specs.Maps.{ByteMap}
use Rattle.lake_base.specs.Names.{repo_fault}
use Rattle.pair_format.specs.PairSpelling.{IsRefName}
use Rattle.keeper.specs.declared.put.Put.{Put}
use Rattle.lake_base.specs.declared.digest.Digest.{Digest}
use Rattle.lake_model.specs.declared.fault.StepFault.{StepFault}
use Rattle.lake_model.specs.declared.fault.StepFault.TheVariants.{NoMemory}
use Rattle.lake_model.specs.declared.history.By.{By}
use Rattle.lake_model.specs.declared.history.Operation.{Operation}
use Rattle.lake_model.specs.State.{State}
use Rattle.lake_model.specs.Commits.{bare_repository, first_draft}
use Rattle.lake_model.specs.Refusals.{Clash, IsClashOrNone, IsRefusal, first_cause}
use Rattle.lake_model.specs.Steps.{IsCreateRepositoryReply, create_repository_causes, next_place}
use Rattle.core_causes.specs.Clashing.{AsksToCreate}
use Rattle.core_changes.specs.LakeChanges.{after_repository_create}
use Rattle.core_changes.specs.LakeRoom.{HasRepositoryRoom}
use Rattle.core_changes.specs.NewPlaces.{AreNamedPlaces, HasNewPlaces, HaveSamePlaces}
use Rattle.core_changes.specs.NewRepositories.{IsNew}
use Rattle.core_commits.proofs.PlacesLeftLemmas.{places_since}
use Rattle.core_state.specs.FirstStates.{first_tree}
use Rattle.core_state.specs.declared.file_place.FilePlace.{FilePlace}
use Rattle.core_state.specs.LakeStates.{LakeStateValue}
use Rattle.core_state.specs.declared.lake.LakeState.{LakeState}
use Rattle.core_puts.specs.KeptChanges.{Keeps, Parts, unmade}
use Rattle.core_puts.specs.KeeperViews.{KeeperView}
use Rattle.lake_core.specs.ReadyChanges.{IsReadyRepository}
use Rattle.lake_core.specs.declared.ready.ReadyRepository.{ReadyRepository}
use Rattle.lake_core.proofs.StepLemmas.{accepted, refused_reply, same_err, starved_reply, unkept_reply}

module _ (s : State) (repo branch : List ℕ) (date : ℕ) where
  -- no memory was there for a first commit, which clashes or doesn't
  pub unmade_asks : {X : Type 0} (clash : Option Clash) → IsClashOrNone s (bare_repository date branch) (first_draft date) clash
      → (answer : Result X StepFault) → IsErrAnd answer (λ e. e ≡ NoMemory) → AsksToCreate s repo branch date answer
  unmade_asks clash there (Err e) is = record { clash = clash; there = there; tells = inl is }
  unmade_asks clash there (Ok x) is = absurd is

  -- what a test told is told again
  pub asked_again : {X Y : Type 0} (fault : StepFault) → AsksToCreate {X = Y} s repo branch date (Err fault)
      → (answer : Result X StepFault) → IsErrAnd answer (λ e. e ≡ fault) → AsksToCreate s repo branch date answer
  asked_again fault asks (Err e) same = record {
    clash = asks.clash;
    there = asks.there;
    tells = elim asks.tells [ inl memory ↦ inl (same ∙ memory) | inr first ↦ inr (first ∙ ap Some (sym same)) ];
  }
  asked_again fault asks (Ok x) same = absurd same

  -- it passed, and memory ran out later
  pub unready_asks : {X Y : Type 0} (y : Y) → AsksToCreate {X = Y} s repo branch date (Ok y)
      → (answer : Result X StepFault) → IsErrAnd answer (λ e. e ≡ NoMemory) → AsksToCreate s repo branch date answer
  unready_asks y asks (Err e) is = record { clash = asks.clash; there = asks.there; tells = inl is }
  unready_asks y asks (Ok x) is = absurd is

  -- nothing refuses it
  pub asked_well : {X Y : Type 0} (y : Y) → AsksToCreate {X = Y} s repo branch date (Ok y) → (x : X) → AsksToCreate s repo branch date (Ok x)
  asked_well y asks x = record { clash = asks.clash; there = asks.there; tells = asks.tells }

  -- the test refused it
  pub refused_creation : {X : Type 0} (fault : StepFault) → AsksToCreate {X = X} s repo branch date (Err fault)
      → ((clash : Option Clash) (fault : StepFault) → first_cause (create_repository_causes s repo clash) ≡ Some fault → IsRefusal fault)
      → (answer : Result ℕ StepFault) → IsErrAnd answer (λ e. e ≡ fault) → IsCreateRepositoryReply s repo branch date answer
  refused_creation fault asks each answer same = (
    asks.clash,
    asks.there,
    elim asks.tells [
      | inl memory ↦ starved_reply answer (next_place s (create_repository_causes s repo asks.clash)) (same_err answer fault NoMemory same memory)
      | inr first ↦ refused_reply (first_cause (create_repository_causes s repo asks.clash)) (s.entries + 1) (each asks.clash) answer fault same first
    ],
  )

  -- so the fault is a refusal, or memory ran out
  pub creation_fault : {X : Type 0} (fault : StepFault) → AsksToCreate {X = X} s repo branch date (Err fault)
      → ((clash : Option Clash) (fault : StepFault) → first_cause (create_repository_causes s repo clash) ≡ Some fault → IsRefusal fault)
      → (fault ≡ NoMemory) ⊎ IsRefusal fault
  creation_fault fault asks each = elim asks.tells [ inl memory ↦ inl memory | inr first ↦ inr (each asks.clash fault first) ]

  -- or the keeper refused it
  pub unkept_creation : {K X : Type 0} (view : KeeperView K) (by : By) (made : Operation) (puts : List Put) (before after : Parts K)
      (x : X) → AsksToCreate {X = X} s repo branch date (Ok x) → (answer : Result ℕ StepFault) (fault : StepFault)
      → IsErrAnd answer (λ e. e ≡ fault) → Keeps {X = Unit {0}} view by (unmade made puts) (Err fault) before after
      → IsCreateRepositoryReply s repo branch date answer
  unkept_creation view by made puts before after x asks answer fault same keeps = (
    asks.clash,
    asks.there,
    unkept_reply view by made puts before after (first_cause (create_repository_causes s repo asks.clash)) (s.entries + 1) asks.tells answer fault same keeps,
  )

  -- or it was made
  pub made_creation : {X : Type 0} (x : X) → AsksToCreate {X = X} s repo branch date (Ok x) → (place : ℕ) → place ≡ s.entries + 1
      → IsCreateRepositoryReply s repo branch date (Ok place)
  made_creation x asks place is = (asks.clash, asks.there, accepted asks.tells is)

-- ---- what is made ready

-- there is room under the names that a new repository bears
pub room_again : (repo : List ℕ) (commit file id name : Digest) (l : LakeState) → HasRepositoryRoom repo commit file l → id ≡ commit → name ≡ file
    → HasRepositoryRoom repo id name l
room_again repo commit file id name l room same_commit same_file =
    subst (λ i. HasRepositoryRoom repo i name l) (sym same_commit) (subst (λ n. HasRepositoryRoom repo commit n l) (sym same_file) room)

-- it is put in a lake that says what it said before
pub repository_made : (repo branch : List ℕ) (date : ℕ) (l m n : LakeStateValue) (ready : ReadyRepository) → m ≡ l
    → IsReadyRepository repo branch date l ready
    → ((branch : List ℕ) (date : ℕ) → IsNew ready.name branch date m ready.new → n ≡ after_repository_create ready.name branch date m)
    → n ≡ after_repository_create repo branch date l
repository_made repo branch date l m n ready same is made =
    subst (λ name. IsNew name branch date m ready.new → n ≡ after_repository_create name branch date m) is.name (made branch date)
    (subst (λ x. IsNew repo branch date x ready.new) (sym same) is.new)
    ∙ ap (after_repository_create repo branch date) same

-- and places of the files of its first tree come to the index
pub new_places : (repo branch : List ℕ) (date : ℕ) (l m : LakeStateValue) (ready : ReadyRepository) (before middle after : ByteMap (Option FilePlace)) → m ≡ l
    → IsReadyRepository repo branch date l ready → ready.new.place.is_metarange ≡ true → AreNamedPlaces middle → HaveSamePlaces before middle
    → ((branch : List ℕ) (date : ℕ) → IsNew ready.name branch date m ready.new → ready.new.place.is_metarange ≡ true → AreNamedPlaces middle
    → HasNewPlaces middle after (first_tree m.cut))
    → HasNewPlaces before after (first_tree l.cut)
new_places repo branch date l m ready before middle after same is kind named places made =
    places_since before middle after (first_tree l.cut) places
    (subst (λ (x : LakeStateValue). HasNewPlaces middle after (first_tree x.cut)) same
    (made branch date (subst (λ name. IsNew name branch date m ready.new) (sym is.name) (subst (λ x. IsNew repo branch date x ready.new) (sym same) is.new))
    kind named))

-- what is ready is that of the date
pub ready_at : (repo branch : List ℕ) (given date : ℕ) (l : LakeStateValue) (ready : ReadyRepository) → given ≡ date
    → IsReadyRepository repo branch given l ready → IsReadyRepository repo branch date l ready
ready_at repo branch given date l ready dated is = subst (λ d. IsReadyRepository repo branch d l ready) dated is

pub spelled_at : (repo branch : List ℕ) (given date : ℕ) → given ≡ date → (repo_fault repo ≡ None) × (IsRefName branch × (given < 2 ^ 64))
    → (repo_fault repo ≡ None) × (IsRefName branch × (date < 2 ^ 64))
spelled_at repo branch given date dated is = subst (λ d. (repo_fault repo ≡ None) × (IsRefName branch × (d < 2 ^ 64))) dated is
