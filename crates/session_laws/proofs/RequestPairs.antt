-- Two lists of requests that are the first messages of the same bytes.
use Rattle.std.proofs.Common.{◌≡◌, ℕ, List, [], ◌∷◌, ◌++◌, Ok, refl, sym, ap, subst, ◌∙◌}
use Rattle.http_wire.proofs.LongerBytes.{longer_request}
use Rattle.http_wire.proofs.UniqueLemmas.{one_request}
use Rattle.http_wire.specs.Messages.{ReadsRequestAt}
use Rattle.http_wire.specs.declared.message.Request.{Request}
use Rattle.lake_session.specs.SessionItems.{AreFirst, SessionItem}
use Rattle.session_laws.specs.LikeSessions.{requests}

-- they are so in bytes that go on
pub first_longer : (items : List SessionItem) (given rest more : List ℕ) → AreFirst items given rest → AreFirst items (given ++ more) (rest ++ more)
first_longer [] given rest more first = ap (λ (l : List ℕ). l ++ more) first
first_longer (item ∷ items) given rest more (behind, reads, later) =
    (behind ++ more, longer_request given more item.request behind reads, first_longer items behind rest more later)

-- They are the same, and so is what stands behind them; or one of the lists goes on with a request that stands behind the other.
pub data Compared (items others : List SessionItem) (rest other_rest : List ℕ) : Type 0 where
  Level : requests items ≡ requests others → rest ≡ other_rest → Compared items others rest other_rest
  Ahead : (request : Request) (behind : List ℕ) (more : List Request) → requests others ≡ requests items ++ request ∷ more
      → ReadsRequestAt rest (Ok (request, behind)) → Compared items others rest other_rest
  Back : (request : Request) (behind : List ℕ) (more : List Request) → requests items ≡ requests others ++ request ∷ more
      → ReadsRequestAt other_rest (Ok (request, behind)) → Compared items others rest other_rest

-- one request further
further : (item other : SessionItem) (items others : List SessionItem) (rest other_rest : List ℕ) → item.request ≡ other.request
    → Compared items others rest other_rest → Compared (item ∷ items) (other ∷ others) rest other_rest
further item other items others rest other_rest same (Level asked behind) = Level (λ i. same i ∷ asked i) behind
further item other items others rest other_rest same (Ahead request behind more is reads) = Ahead request behind more (λ i. sym same i ∷ is i) reads
further item other items others rest other_rest same (Back request behind more is reads) = Back request behind more (λ i. same i ∷ is i) reads

pub compare : (items others : List SessionItem) (bytes rest other_rest : List ℕ) → AreFirst items bytes rest → AreFirst others bytes other_rest
    → Compared items others rest other_rest
compare [] [] bytes rest other_rest one two = Level refl (one ∙ sym two)
compare [] (other ∷ others) bytes rest other_rest one (behind, reads, later) =
    Ahead other.request behind (requests others) refl (subst (λ (l : List ℕ). ReadsRequestAt l (Ok (other.request, behind))) (sym one) reads)
compare (item ∷ items) [] bytes rest other_rest (behind, reads, later) two =
    Back item.request behind (requests items) refl (subst (λ (l : List ℕ). ReadsRequestAt l (Ok (item.request, behind))) (sym two) reads)
compare (item ∷ items) (other ∷ others) bytes rest other_rest (behind, reads, later) (other_behind, other_reads, other_later) =
    let same = one_request bytes (Ok (item.request, behind)) (Ok (other.request, other_behind)) reads other_reads in
    let pair : (item.request, behind) ≡ (other.request, other_behind) = cc (same) in
    let asked : item.request ≡ other.request = ap (λ (p : Request × List ℕ). p.0) pair in
    let behinds : behind ≡ other_behind = ap (λ (p : Request × List ℕ). p.1) pair in
    further item other items others rest other_rest asked
    (compare items others behind rest other_rest later (subst (λ (l : List ℕ). AreFirst others l other_rest) (sym behinds) other_later))
