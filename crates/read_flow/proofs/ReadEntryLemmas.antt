-- What holds of each entry that a lake names holds of what is read of it, unless a commit that is expired is read.
use Rattle.std.proofs.Common.{◌≡◌, ℕ, Bool, true, false, not, ◌&&◌, List, refl, ap, ◌∙◌, ◌⊎◌, inl, inr}
use Rattle.std.proofs.lemmas.Bool.{and_parts}
use Rattle.std.specs.Prelude.{Option, Some, None, IsSome, is_some, Result, Ok, Err, if◌then◌else◌}
use Rattle.std.specs.FinMap.{empty, get}
use Rattle.std.specs.Option.{option_map_or, unwrap_or}
use Rattle.lake_base.specs.declared.digest.Digest.{Digest}
use Rattle.lake_values.specs.Entry.{EntryValue}
use Rattle.lake_values.specs.KeyMap.{KeyMapValue}
use Rattle.commit_graph.specs.Expressions.{RefExprValue}
use Rattle.lake_model.specs.declared.fault.StepFault.{StepFault}
use Rattle.lake_model.specs.declared.fault.StepFault.TheVariants as step
use Rattle.lake_model.specs.declared.reply.Seen.{Seen}
use Rattle.lake_model.specs.State.{Branch, Repository, State, HasLiveCommit, is_expired, map_of, now_map}
use Rattle.lake_model.specs.Readings.{expression_map, look_reply, map_at, seen_in, ◌then◌}
use Rattle.lake_model.specs.Resolving.{expression_target, is_plain_branch, is_unmoved}
use Rattle.lake_model.specs.Soundness.{IsSound}
use Rattle.lake_laws.proofs.ChangeLemmas.{nothing_stands}
use Rattle.lake_laws.proofs.NamingLemmas.{live_heads}
use Rattle.read_flow.specs.ExpiredReads.{ReadsExpired}
use Rattle.body_laws.proofs.KeptEntryLemmas.{AllLive, in_now}

abbrev seen_ok : Seen → Result Seen StepFault
seen_ok seen = Ok seen

module _ (P : EntryValue → Type 0) (state : State) (sound : IsSound state) (all : AllLive P state) (repo : List ℕ) (e : RefExprValue) (path : List ℕ)
    (entry : EntryValue) where
  abbrev Either : Type 0
  Either = P entry ⊎ ReadsExpired state repo e

  module _ (r : Repository) (there : get state.repositories repo ≡ Some r) where
    -- a commit in whose map something stands is there
    has_commit : (id : Digest) → get (map_of r id) path ≡ Some entry → is_expired r id ≡ false → HasLiveCommit r id
    has_commit id stands live = ((sound.repositories repo r there).maps id (by (get r.maps id.0) stands), live)
      where
        by : (o : Option KeyMapValue) → get (unwrap_or o empty) path ≡ Some entry → IsSome o
        by None is = absurd (nothing_stands path entry is)
        by (Some map) is = refl

    of_commit : (id : Digest) → expression_target r e ≡ Ok id → is_plain_branch r e ≡ false → (expired : Bool) → is_expired r id ≡ expired
        → get (map_of r id) path ≡ Some entry → Either
    of_commit id leads other true is stands =
        inr (record { repository = r; stands = there; id = id; leads = leads; not_plain = other; expired = is })
    of_commit id leads other false is stands = inl ((all repo r there).committed id (has_commit id stands is) path entry stands)

    of_branch : (id : Digest) (found : Option Branch) → get r.branches e.name ≡ found → is_some found ≡ true
        → get (option_map_or (now_map r) found (map_of r id)) path ≡ Some entry → P entry
    of_branch id None at some stands = absurd cc
    of_branch id (Some b) at some stands = in_now P state (live_heads state sound) all repo r there e.name b at path entry stands

    of_target : (id : Digest) → expression_target r e ≡ Ok id → (plain : Bool) → is_plain_branch r e ≡ plain
        → get (if plain then option_map_or (now_map r) (get r.branches e.name) (map_of r id) else map_of r id) path ≡ Some entry → Either
    of_target id leads true is stands =
        let parts = and_parts (not e.at) (is_unmoved e.moves && is_some (get r.branches e.name)) is in
        let some = (and_parts (is_unmoved e.moves) (is_some (get r.branches e.name)) parts.1).1 in
        inl (of_branch id (get r.branches e.name) refl some stands)
    of_target id leads false is stands = of_commit id leads is (is_expired r id) refl stands

    of_map : (target : Result Digest StepFault) → expression_target r e ≡ target → (seen : Seen)
        → ((target then λ id. Ok (map_at r e id)) then λ map. Ok (seen_in state map path)) ≡ seen_ok seen → seen.found ≡ Some entry → Either
    of_map (Ok id) leads seen is found =
        let same : seen_in state (map_at r e id) path ≡ seen = cc (is) in
        of_target id leads (is_plain_branch r e) refl (ap (λ (s : Seen). s.found) same ∙ found)
    of_map (Err fault) leads seen is found = absurd cc

  of_repository : (found : Option Repository) → get state.repositories repo ≡ found → (seen : Seen)
      → option_map_or (λ (r : Repository). expression_map r e then λ map. Ok (seen_in state map path)) found (Err step.NoRepo) ≡ seen_ok seen
      → seen.found ≡ Some entry → Either
  of_repository None there seen is found = absurd cc
  of_repository (Some r) there seen is found = of_map r there (expression_target r e) refl seen is found

  -- so it holds of what a look sees
  pub of_look : (seen : Seen) → look_reply state repo e path ≡ seen_ok seen → seen.found ≡ Some entry → Either
  of_look seen is found = of_repository (get state.repositories repo) refl seen is found
