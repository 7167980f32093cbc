-- What became of a server on a fresh lake.
use native.Mathlib.Omega.{arith}
use Rattle.std.proofs.Common.{◌≡◌, ◌<◌, ◌⊎◌, ◌+◌, ◌++◌, ⊎_elim, inl, inr, ℕ, zero, suc, All, List, [], ◌∷◌, length, map, replicate, true, Some}
use Rattle.std.proofs.Common.{refl, sym, ◌∙◌, ap, subst}
use Rattle.std.proofs.lemmas.List.{replicate_more}
use Rattle.std.proofs.lemmas.List.Elements.{All-cons, All-nil}
use Rattle.keeper.specs.Keepers.{KeptPairs}
use Rattle.lake_model.specs.History.{IsLegal}
use Rattle.lake_model.specs.Soundness.{fresh}
use Rattle.lake_core.specs.Lakes.{Holds, LakeValue}
use Rattle.shared_lake.specs.SeatSteps.{LakeSeat, origin_of}
use Rattle.flow_steps.specs.FlowSeats.{opened_state}
use Rattle.fresh_lakes.specs.FreshLakes.{AreFreshSeats, sure_view, usual_cut}
use Rattle.folder_server.specs.HostWords.{HasNotBegun, HasServedAll}
use Rattle.folder_server.specs.HostWords.{HostView}
use Rattle.folder_server.specs.HostWords.{StoreView}
use Rattle.folder_server.specs.HostWords.{ServerEnd}
use Rattle.batch_lines.specs.declared.status.ExitStatus.{ExitStatus}
use Rattle.program_words.specs.ProgramWords.{Serving}
use Rattle.lake_program.specs.Servers.{IsServed, IsUnserved, empty_store, status_of}

-- the lake that stands at fresh seats' origin has a history that is legal of the fresh lake
legal_of : (lake : LakeValue KeptPairs) (seats : List LakeSeat) → 0 < length seats → AreFreshSeats seats
    → All (λ (seat : LakeSeat). seat.origin ≡ Some (origin_of sure_view lake)) seats → Holds sure_view lake
    → IsLegal (fresh usual_cut) lake.history
legal_of lake [] some begun origins holds = absurd (omega (arith, some))
legal_of lake (seat ∷ seats) some begun origins holds =
    let first = begun 0 seat (omega arith) in
    let from : Some first.origin ≡ Some (origin_of sure_view lake) = sym first.from ∙ origins 0 seat (omega arith) in
    let same : first.origin ≡ origin_of sure_view lake = cc in
    subst (λ state. IsLegal state lake.history) (ap opened_state (sym same) ∙ first.fresh) holds.stands.legal

-- one more that is like the others
pub alike_more : {X : Type 0} (none : X) (n : ℕ) (made more : List X) (one : X) → made ≡ replicate n none → one ≡ none → more ≡ made ++ one ∷ []
    → more ≡ replicate (n + 1) none
alike_more none n made more one alike is pushed =
    pushed ∙ ap (λ l. l ++ one ∷ []) alike ∙ ap (λ x. replicate n none ++ x ∷ []) is ∙ replicate_more n none

-- what so many stores show that are alike
shown_alike : {X Y : Type 0} (f : X → Y) (n : ℕ) (x : X) → map f (replicate n x) ≡ replicate n (f x)
shown_alike f zero x = refl
shown_alike f (suc n) x = ap (λ shown. f x ∷ shown) (shown_alike f n x)

-- stores that count no failure show none
all_calm : {B : Type 0} (show : B → StoreView) → ((blocks : B) → (show blocks).faults ≡ 0) → (stores : List B)
    → All (λ (store : StoreView). store.faults ≡ 0) (map show stores)
all_calm show calm [] = All-nil (λ (store : StoreView). store.faults ≡ 0)
all_calm show calm (one ∷ others) =
    All-cons (λ (store : StoreView). store.faults ≡ 0) (show one) (map show others) (calm one) (all_calm show calm others)

module _ {B : Type 0} (show : B → StoreView) (serving : Serving) (before after : HostView) (seats : List LakeSeat) (stores left : List B) (none : B)
    (lake : LakeValue KeptPairs) (how : ServerEnd) (status : ExitStatus) where
  pub served_so : ((blocks : B) → (show blocks).faults ≡ 0) → show none ≡ empty_store → stores ≡ replicate serving.service.workers none
      → 0 < serving.service.workers → AreFreshSeats seats → length seats ≡ serving.service.workers
      → (serving.service.workers ≡ 1 → All (λ (seat : LakeSeat). seat.alone ≡ true) seats)
      → All (λ (seat : LakeSeat). seat.origin ≡ Some (origin_of sure_view lake)) seats → Holds sure_view lake
      → HasServedAll sure_view seats (map show stores) serving.at serving.service.connections before after how lake (map show left)
      ⊎ HasNotBegun sure_view seats stores before after how lake left
      → status ≡ status_of how → IsServed serving before after status ⊎ IsUnserved before after status
  served_so calm empty made some begun many alone origins holds outcome told =
      ⊎_elim
      (λ served. inl (record {
        seats = seats;
        begun = begun;
        count = many;
        alone = alone;
        lake = lake;
        end = how;
        left = map show left;
        served = subst
            (λ (shown : List StoreView). HasServedAll sure_view seats shown serving.at serving.service.connections before after how lake (map show left))
            (ap (map show) made ∙ shown_alike show serving.service.workers none ∙ ap (replicate serving.service.workers) empty) served;
        calm = all_calm show calm left;
        legal = legal_of lake seats (omega (arith, some, many)) begun origins holds;
        holds = holds;
        tells = told;
      }))
      (λ none. inr (record {
        opened = none.opened;
        returned = none.returned;
        why = ⊎_elim (λ starved. inl (told ∙ ap status_of starved)) (λ failed. inr (told ∙ ap status_of failed.0, failed.1)) none.why;
      }))
      outcome
