-- Numbers that are gone stay so, and what branches and commits that aren't expired have is never gone.
use Rattle.std.proofs.Common.{◌≡◌, ℕ, Bool, true, false, cond, List, [], ◌∷◌, refl, sym, ap, subst, ◌∙◌, ◌⊎◌, inl, inr}
use Rattle.std.proofs.lemmas.Bool.{and_parts, cases_Bool, false_from_ne_true}
use Rattle.std.specs.Prelude.{◌&&◌, not, if◌then◌else◌, Option, Some, None, IsSome, is_some, Result, Ok, Err}
use Rattle.std.specs.Option.{option_map_or, unwrap_or}
use Rattle.std.specs.FinMap.{FinMap, contains_key, empty, get, insert, get-insert}
use Rattle.std.specs.Ordering.{nat_cmp, eq_by_cmp}
use Rattle.std.specs.Cmp.{nat_cmp_total}
use Rattle.lake_base.specs.declared.digest.Digest.{Digest}
use Rattle.lake_values.specs.Entry.{EntryValue}
use Rattle.lake_values.specs.KeyMap.{KeyMapValue}
use Rattle.commit_graph.specs.Expressions.{RefExprValue}
use Rattle.lake_model.specs.declared.fault.StepFault.{StepFault}
use Rattle.lake_model.specs.declared.fault.StepFault.TheVariants.{NoRepo}
use Rattle.lake_model.specs.declared.history.EntryKind.{EntryKind}
use Rattle.lake_model.specs.declared.history.EntryKind.TheVariants.{Accepted, Faulted}
use Rattle.lake_model.specs.declared.history.HistoryEntry.{HistoryEntry}
use Rattle.lake_model.specs.declared.history.Operation.{Operation}
use Rattle.lake_model.specs.declared.history.Operation.TheVariants.{Stage, Expire, Condemn}
use Rattle.lake_model.specs.declared.reply.Seen.{Seen}
use Rattle.lake_model.specs.State.{Branch, Repository, State, is_expired, map_of, head_map, sealed_map, now_map}
use Rattle.lake_model.specs.Uncommitted.{own_number, put_number}
use Rattle.lake_model.specs.Removal.{with_gone}
use Rattle.lake_model.specs.History.{after, after_kind, after_operation, replay}
use Rattle.lake_model.specs.Naming.{IsInMap, IsPut, IsNamed}
use Rattle.lake_model.specs.Resolving.{expression_target, is_plain_branch, is_unmoved}
use Rattle.lake_model.specs.Readings.{◌then◌, expression_map, is_gone, look_reply, map_at, seen_in}
use Rattle.lake_model.specs.Soundness.{IsSound}
use Rattle.lake_laws.proofs.LookupLemmas.{of_some}
use Rattle.lake_laws.proofs.InMapLemmas.{in_applied, in_nothing}
use Rattle.lake_laws.proofs.NamingLemmas.{left_without, left_expire}

-- ---- what is gone stays gone

some_kept : {X : Type 0} (b : Bool) (x : X) (o : Option X) → IsSome o → IsSome (cond b (Some x) o)
some_kept true x o there = refl
some_kept false x o there = there

-- a number that joins the gone ones leaves them there
gone_kept : (gone : FinMap nat_cmp (Unit {0})) (first number : ℕ) → IsSome (get gone number) → IsSome (get (insert gone first tt) number)
gone_kept gone first number is =
    ap is_some (get-insert nat_cmp_total gone first tt number) ∙ some_kept (eq_by_cmp nat_cmp number first) tt (get gone number) is

gone_with_more : (numbers : List ℕ) (gone : FinMap nat_cmp (Unit {0})) (number : ℕ) → IsSome (get gone number) → IsSome (get (with_gone numbers gone) number)
gone_with_more [] gone number is = is
gone_with_more (first ∷ numbers) gone number is = gone_with_more numbers (insert gone first tt) number (gone_kept gone first number is)

module _ (number : ℕ) where
  -- it is gone in a state
  abbrev pub IsGone : State → Type 0
  IsGone state = IsSome (get state.gone number)

  gone-operation : (state : State) (seat : ℕ) (operation : Operation) → IsGone state → IsGone (after_operation seat operation state)
  gone-operation state seat (Condemn numbers) is = gone_with_more numbers state.gone number is
  gone-operation state seat (Stage repo branch path change) is = subst (λ gone. IsSome (get gone number)) (sym (left_without (put_number change) state).1) is
  gone-operation state seat (Expire now commits) is = subst (λ gone. IsSome (get gone number)) (sym (left_expire commits state).1) is
  gone-operation state seat _ is = is

  gone-kind : (state : State) (seat : ℕ) (kind : EntryKind) → IsGone state → IsGone (after_kind seat kind state)
  gone-kind state seat (Accepted operation) is = gone-operation state seat operation is
  gone-kind state seat (Faulted operation) is = is

  -- a number that is gone is gone after entries
  pub gone-replay : (state : State) (entries : List HistoryEntry) → IsGone state → IsGone (replay state entries)
  gone-replay state [] is = is
  gone-replay state (entry ∷ entries) is = gone-replay (after state entry) entries (gone-kind state entry.by.seat entry.kind is)

-- ---- what is named isn't gone

-- each number of a map is named
abbrev pub AreNamed : State → KeyMapValue → Type 0
AreNamed state map = (number : ℕ) → IsInMap map number → IsNamed state number

-- in a map whose numbers are named nothing is gone
named_not_gone : (state : State) (map : KeyMapValue) (path : List ℕ) → IsSound state → AreNamed state map → is_gone state (get map path) ≡ false
named_not_gone state map path sound named = by (get map path) refl
  where
    of : (entry : EntryValue) → get map path ≡ Some entry → (o : Option ℕ) → own_number entry.place ≡ o
        → option_map_or (contains_key state.gone) o false ≡ false
    of entry stands None none = refl
    of entry stands (Some number) names =
        false_from_ne_true (contains_key state.gone number)
        (λ gone. sound.apart number gone (named number (record { path = path; entry = entry; stands = stands; names = names })))

    by : (o : Option EntryValue) → get map path ≡ o → is_gone state o ≡ false
    by None none = refl
    by (Some entry) stands = of entry stands (own_number entry.place) refl

-- a commit in whose map something is has a map
map_there : (r : Repository) (id : Digest) (number : ℕ) → IsInMap (map_of r id) number → IsSome (get r.maps id.0)
map_there r id number = by (get r.maps id.0)
  where
    by : (o : Option KeyMapValue) → IsInMap (unwrap_or o empty) number → IsSome o
    by None within = absurd (in_nothing number within)
    by (Some map) within = refl

-- ---- what is read

then_parts : {X Y : Type 0} (result : Result X StepFault) (f : X → Result Y StepFault) (y : Y) → (result then f) ≡ Ok y
    → (x : X) × (result ≡ Ok x) × (f x ≡ Ok y)
then_parts (Ok x) f y is = (x, refl, is)
then_parts (Err fault) f y is = absurd cc

one_answer : {X : Type 0} (result : Result X StepFault) (x y : X) → result ≡ Ok x → result ≡ Ok y → x ≡ y
one_answer result x y is also = let both : Ok x ≡ Ok y = sym is ∙ also in cc

module _ (state : State) (repo : List ℕ) (r : Repository) (sound : IsSound state) (stands : get state.repositories repo ≡ Some r) where
  -- what a commit that isn't expired has is named
  live_named : (id : Digest) → is_expired r id ≡ false → AreNamed state (map_of r id)
  live_named id live number within =
      let there = (sound.repositories repo r stands).maps id (map_there r id number within) in
      inl (record { name = repo; repository = r; stands = stands; names = inl (record { id = id; live = (there, live); names = within }) })

  -- and what is read on a branch
  branch_named : (name : List ℕ) (b : Branch) → get r.branches name ≡ Some b → AreNamed state (now_map r b)
  branch_named name b is number within =
      let put : IsPut b.sealed number ⊎ IsPut b.staged number → IsNamed state number =
      λ here. inl (record { name = repo; repository = r; stands = stands; names = inr (record { name = name; branch = b; stands = is; names = here }) }) in
      elim (in_applied number b.staged (sealed_map r b) within) [
        | inl staged ↦ put (inr staged)
        | inr before ↦ elim (in_applied number b.sealed (head_map r b) before) [
          | inl sealed ↦ put (inl sealed)
          | inr head ↦ live_named b.head ((sound.repositories repo r stands).heads name b is).1 number head
        ]
      ]

  module _ (e : RefExprValue) (path : List ℕ) (seen : Seen) (reply : look_reply state repo e path ≡ Ok seen) where
    -- what is seen stands in the map that the expression leads to
    looked : (id : Digest) × (expression_target r e ≡ Ok id) × (seen ≡ seen_in state (map_at r e id) path)
    looked =
        let look : Repository → Result Seen StepFault = λ r. expression_map r e then λ map. Ok (seen_in state map path) in
        let map = then_parts (expression_map r e) (λ map. Ok (seen_in state map path)) seen
        (ap (λ found. option_map_or look found (Err NoRepo)) (sym stands) ∙ reply) in
        let id = then_parts (expression_target r e) (λ id. Ok (map_at r e id)) map.0 map.1 in
        let same : map.0 ≡ map_at r e id.0 = one_answer (Ok map.0) map.0 (map_at r e id.0) refl (sym id.2) in
        (id.0, id.1, one_answer (Ok seen) seen (seen_in state map.0 path) refl (sym map.2) ∙ ap (λ m. seen_in state m path) same)

    -- where it is a map whose numbers are named, it isn't gone
    seen_there : (map : KeyMapValue) → map_at r e looked.0 ≡ map → AreNamed state map → seen.gone ≡ false
    seen_there map is named =
        ap (λ (s : Seen). s.gone) looked.2 ∙ ap (λ m. is_gone state (get m path)) is ∙ named_not_gone state map path sound named

    -- on a plain branch it isn't gone
    pub seen_on_branch : is_plain_branch r e ≡ true → seen.gone ≡ false
    seen_on_branch plain =
        let parts = and_parts (not e.at) (is_unmoved e.moves && is_some (get r.branches e.name)) plain in
        let b = of_some (get r.branches e.name) (and_parts (is_unmoved e.moves) (is_some (get r.branches e.name)) parts.1).1 in
        let id = looked.0 in
        seen_there (now_map r b.0)
        (ap (λ test. if test then option_map_or (now_map r) (get r.branches e.name) (map_of r id) else map_of r id) plain
        ∙ ap (λ o. option_map_or (now_map r) o (map_of r id)) b.1)
        (branch_named e.name b.0 b.1)

    -- nor at a commit that isn't expired
    pub seen_at_commit : (id : Digest) → expression_target r e ≡ Ok id → is_expired r id ≡ false → seen.gone ≡ false
    seen_at_commit id target live = elim (cases_Bool (is_plain_branch r e)) [
      | inl plain ↦ seen_on_branch plain
      | inr other ↦
          let same : looked.0 ≡ id = one_answer (expression_target r e) looked.0 id looked.1 target in
          seen_there (map_of r id)
          (ap (λ test. if test then option_map_or (now_map r) (get r.branches e.name) (map_of r looked.0) else map_of r looked.0) other
          ∙ ap (map_of r) same)
          (live_named id live)
    ]
