use Rattle.std.proofs.Common.{◌≡◌, ◌∷◌, [], length, refl, sym, ap, subst, ◌∙◌, arith}
use Rattle.std.specs.Prelude.{max}
use mathlib.Core.Logic.{inl}
use Rattle.call_placement.specs.Sessions.{AreServed, caller}
use Rattle.call_placement.proofs.PlacedLemmas.{max_is, served_within}
use Rattle.lake_calls.specs.LakeRules.{lake_rules}
use Rattle.law_examples.specs.UploadSteps.{asked, item_of, unreadable_item, upload_call, uploaded}
use Rattle.law_examples.proofs.uploads.session_of_upload.Goals as goal

pub returns-clause-served : goal.returns-clause-served
returns-clause-served c opened seat position edge start after u moment later number met refused served adds =
    let first = item_of (asked (upload_call u) moment) met (uploaded u moment number) position in
    let second = unreadable_item refused later edge in
    let within = served_within lake_rules c.law_of_rules.ensures.lawful opened (caller seat 1) (length start) after first edge start served (omega arith) in
    let here : max (length start) edge ≡ edge = max_is (length start) edge within.0 in
    let last : max (max (length start) edge) edge ≡ edge = ap (λ e. max e edge) here ∙ max_is edge edge (omega arith) in
    let one : AreServed lake_rules opened seat 1 (length start) start (first ∷ []) after (max (length start) edge) =
    c.law_of_one_more.ensures opened seat 1 (length start) (length start) edge start start after [] first (refl, refl) (served, adds) in
    subst (λ e. AreServed lake_rules opened seat 1 (length start) start (first ∷ second ∷ []) after e) last
    (c.law_of_one_more.ensures opened seat 1 (length start) (max (length start) edge) edge start after after (first ∷ []) second one
    (inl (refl, sym here), refl, refl))

pub returns-clause-placed : goal.returns-clause-placed
returns-clause-placed c opened seat position edge start after u moment later number met refused served adds =
    c.law_of_placement.ensures.placed c.law_of_rules.ensures.lawful opened seat 1 edge start after
    (item_of (asked (upload_call u) moment) met (uploaded u moment number) position ∷ unreadable_item refused later edge ∷ [])
    (returns-clause-served c opened seat position edge start after u moment later number met refused served adds)
