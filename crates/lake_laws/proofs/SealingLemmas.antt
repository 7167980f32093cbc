-- What is read of a lake after a branch was sealed.
use Rattle.std.proofs.Common.{◌≡◌, ℕ, Bool, true, false, List, map, refl, ap}
use Rattle.std.specs.Prelude.{option_map, is_some, ◌&&◌, not, if◌then◌else◌, Result, Ok, Err}
use Rattle.std.specs.Option.{option_map_or, option_or}
use Rattle.std.specs.FinMap.{get}
use Rattle.std.specs.Ordering.{is_lt}
use Rattle.lake_base.specs.Maps.{byte_order}
use Rattle.lake_values.specs.KeyMap.{KeyMapValue}
use Rattle.commit_graph.specs.Expressions.{RefExprValue}
use Rattle.lake_model.specs.declared.fault.StepFault.{StepFault}
use Rattle.lake_model.specs.declared.fault.StepFault.TheVariants.{NoRepo}
use Rattle.lake_model.specs.State.{Repository, State, now_map, map_of}
use Rattle.lake_model.specs.Parts.{changed_at}
use Rattle.lake_model.specs.Uncommitted.{sealed_branch}
use Rattle.lake_model.specs.Resolving.{commit_named, expression_target, in_repository_of, is_plain_branch, is_unmoved, moved_target}
use Rattle.lake_model.specs.Readings.{◌then◌, expression_map, name_in, names_above, point_of, repository_info, above}
use Rattle.lake_laws.specs.Sealing.{SealValue, sealed_state}
use Rattle.lake_laws.proofs.ReadingLemmas.{sealed_reads}
use Rattle.lake_laws.proofs.UnreadLemmas.{told_again, told_list_again}

-- a repository with a sealed branch
abbrev pub with_sealed : List ℕ → Repository → Repository
with_sealed branch r = record r { branches = changed_at branch sealed_branch r.branches }

-- ---- one repository
module _ (branch : List ℕ) (r : Repository) where
  -- a name has the same head, is there as before, and has the same map
  sealed_head : (name : List ℕ) → option_map (λ b. b.head) (get (with_sealed branch r).branches name) ≡ option_map (λ b. b.head) (get r.branches name)
  sealed_head name = told_again (option_map (λ b. b.head)) sealed_branch (λ b. refl) branch r.branches name

  sealed_there : (name : List ℕ) → is_some (get (with_sealed branch r).branches name) ≡ is_some (get r.branches name)
  sealed_there name = told_again is_some sealed_branch (λ b. refl) branch r.branches name

  sealed_map_at : (map : KeyMapValue) (name : List ℕ)
      → option_map_or (now_map r) (get (with_sealed branch r).branches name) map ≡ option_map_or (now_map r) (get r.branches name) map
  sealed_map_at map name = told_again (λ found. option_map_or (now_map r) found map) sealed_branch (sealed_reads r) branch r.branches name

  -- an expression leads to the same commit and to the same map, and is a plain branch as before
  pub sealed_target : (e : RefExprValue) → expression_target (with_sealed branch r) e ≡ expression_target r e
  sealed_target e = ap (λ head. moved_target r e (option_or head (option_or (get r.tags e.name) (commit_named r e.name)))) (sealed_head e.name)

  sealed_plain : (e : RefExprValue) → is_plain_branch (with_sealed branch r) e ≡ is_plain_branch r e
  sealed_plain e = ap (λ there. not e.at && (is_unmoved e.moves && there)) (sealed_there e.name)

  pub sealed_map_of : (e : RefExprValue) → expression_map (with_sealed branch r) e ≡ expression_map r e
  sealed_map_of e = λ i. sealed_target e i then λ id. Ok (if sealed_plain e i then sealed_map_at (map_of r id) e.name i else map_of r id)

  pub sealed_point : (state : State) (e : RefExprValue)
      → (expression_target (with_sealed branch r) e then λ id. Ok (point_of state (with_sealed branch r) e id))
      ≡ (expression_target r e then λ id. Ok (point_of state r e id))
  sealed_point state e = λ i. sealed_target e i then λ id. Ok (record (point_of state r e id) { plain_branch = sealed_plain e i })

  pub sealed_name : (tags : Bool) (name : List ℕ) → name_in (with_sealed branch r) tags name ≡ name_in r tags name
  sealed_name true name = refl
  sealed_name false name = sealed_head name

  pub sealed_names : (tags : Bool) (after : List ℕ) → names_above (with_sealed branch r) tags after ≡ names_above r tags after
  sealed_names true after = refl
  sealed_names false after = told_list_again (λ b. (b.0, b.1.head)) (λ key. is_lt (byte_order after key)) sealed_branch (λ q b. refl) branch r.branches

-- ---- the repositories
module _ (state : State) (seal : SealValue) where
  -- what a repository with a sealed branch answers as before is answered as before
  pub sealed_reply : {X : Type 0} (repo : List ℕ) (answer : Repository → Result X StepFault)
      → ((r : Repository) → answer (with_sealed seal.branch r) ≡ answer r)
      → in_repository_of (sealed_state state seal) repo answer ≡ in_repository_of state repo answer
  sealed_reply repo answer again =
      told_again (λ found. option_map_or answer found (Err NoRepo)) (with_sealed seal.branch) again seal.repo state.repositories repo

  pub sealed_repositories : (after : List ℕ)
      → map repository_info (above after (sealed_state state seal).repositories) ≡ map repository_info (above after state.repositories)
  sealed_repositories after =
      told_list_again repository_info (λ key. is_lt (byte_order after key)) (with_sealed seal.branch) (λ q r. refl) seal.repo state.repositories
