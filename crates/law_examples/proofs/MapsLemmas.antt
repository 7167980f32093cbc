-- What maps have after changes, and what is read on `main`.
use Rattle.std.proofs.Common.{◌≡◌, ℕ, Bool, true, false, cond, List, refl, sym, ap, ◌∙◌}
use Rattle.std.specs.Prelude.{Option, Some, None, option_map, option_and_then}
use Rattle.std.specs.Option.{unwrap_or}
use Rattle.std.specs.FinMap.{get, insert, empty, get-insert, get-empty}
use Rattle.std.specs.Ordering.{eq_by_cmp}
use Rattle.std.specs.Cmp.{eq_by_cmp_equiv}
use Rattle.std.specs.Cmp.Lexicographic.{nat_list_cmp_total}
use Rattle.lake_base.specs.Maps.{ByteMap, byte_order}
use Rattle.lake_base.specs.declared.digest.Digest.{Digest}
use Rattle.lake_values.specs.Commit.{AboutValue}
use Rattle.lake_values.specs.Entry.{EntryValue}
use Rattle.lake_values.specs.KeyMap.{KeyMapValue, ChangesValue, apply, value_after}
use Rattle.lake_values.specs.declared.entry.Change.{Change}
use Rattle.lake_values.specs.declared.entry.Change.TheVariants.{Delete}
use Rattle.lake_values.proofs.KeyMapLemmas.{get_apply, same}
use Rattle.lake_format.specs.declared.cut.Cut.{Cut}
use Rattle.lake_model.specs.State.{Branch, Repository, State, HasBranch, head_map, map_of, now_map, sealed_map}
use Rattle.lake_model.specs.Commits.{IsCommittable, MayCommit}
use Rattle.lake_model.specs.Now.{now_in}
use Rattle.law_examples.specs.HistoryWords.{quickstart, main, first, head_of, read_at}
use Rattle.law_examples.proofs.BranchesLemmas.{head_in}
use Rattle.law_examples.proofs.SceneLemmas.{scene, of_main, get_one, repo_there, main_there, never_both}
use Rattle.law_examples.proofs.EntriesLemmas.{first_repository}

pub ties_itself : (name : List ℕ) → eq_by_cmp byte_order name name ≡ true
ties_itself = (eq_by_cmp_equiv nat_list_cmp_total).refl

-- what was put last under a name stands there
pub get_put : {X : Type 0} (map : ByteMap X) (name : List ℕ) (x : X) → get (insert map name x) name ≡ Some x
get_put map name x = get-insert nat_list_cmp_total map name x name ∙ ap (λ b. cond b (Some x) (get map name)) (ties_itself name)

-- no changes say nothing, and nothing is in the empty map
pub no_change : (q : List ℕ) → get {R = byte_order} (empty {X = Change}) q ≡ None
no_change q = get-empty byte_order q

pub no_entry : (q : List ℕ) → get {R = byte_order} (empty {X = EntryValue}) q ≡ None
no_entry q = get-empty byte_order q

-- all commits of a fresh lake have the empty map
pub first_map : (cut : Cut) (id : Digest) → map_of (first_repository cut) id ≡ empty
first_map cut id = ap (λ (o : Option KeyMapValue). unwrap_or o empty) (get_one (first cut).0 empty id.0) ∙ either (eq_by_cmp byte_order id.0 (first cut).0)
  where
    either : (b : Bool) → unwrap_or {T = KeyMapValue} (cond b (Some empty) None) empty ≡ empty
    either true = refl
    either false = refl

-- what stands at a path after sealed changes, and after staged ones too
pub get_now : (staged sealed : ChangesValue) (map : KeyMapValue) (q : List ℕ)
    → get (apply staged (apply sealed map)) q ≡ value_after (get staged q) (value_after (get sealed q) (get map q))
get_now staged sealed map q = get_apply staged (apply sealed map) q ∙ ap (value_after (get staged q)) (get_apply sealed map q)

pub read_scene : (s : State) (r : Repository) (b : Branch) (path : List ℕ)
    → read_at (scene s r b) path ≡ value_after (get b.staged path) (value_after (get b.sealed path) (get (head_map r b) path))
read_scene s r b path =
    ap (λ (o : Option Repository). option_and_then (λ (map : KeyMapValue). get map path) (option_and_then (now_in main) o)) (repo_there (of_main r b))
    ∙ ap (λ (o : Option Branch). option_and_then (λ (map : KeyMapValue). get map path) (option_map (now_map r) o)) (main_there b)
    ∙ get_now b.staged b.sealed (head_map r b) path

-- the head of a scene
pub head_scene : (s : State) (r : Repository) (b : Branch) → head_of (scene s r b) ≡ b.head
head_scene s r b = head_in s r (insert empty main b) main b (main_there b)

-- a deletion from the empty map leaves it
pub delete_nothing : (path : List ℕ) → apply (insert empty path Delete) empty ≡ empty
delete_nothing path = same _ _ (λ q.
    get_apply (insert empty path Delete) empty q
    ∙ ap (λ (o : Option Change). value_after o (get {R = byte_order} empty q)) (get_one path Delete q)
    ∙ ap (value_after (cond (eq_by_cmp byte_order q path) (Some Delete) None)) (get-empty byte_order q)
    ∙ either (eq_by_cmp byte_order q path)
    ∙ sym (get-empty byte_order q))
  where
    either : (b : Bool) → value_after (cond b (Some Delete) None) None ≡ None
    either true = refl
    either false = refl

-- where what is sealed leaves the head's map, nothing is committed
pub nothing_to_commit : (state : State) (about : AboutValue) → HasBranch state quickstart main (λ r b. sealed_map r b ≡ head_map r b)
    → MayCommit state quickstart main about → ⊥
nothing_to_commit state about same may =
    never_both (λ r b. sealed_map r b ≡ head_map r b) (IsCommittable state main about) state quickstart main (λ r b is possible. possible.changed is) same may
