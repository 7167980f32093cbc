-- How far a call came that makes a new head, and what stands behind its own seal.
use Rattle.std.proofs.Common.{◌≡◌, ◌≢◌, ℕ, false, List, [], ◌∷◌, ◌++◌, length, refl, sym, ap, ◌∙◌, subst, append_assoc}
use Rattle.std.proofs.lemmas.List.{append-nil}
use Rattle.std.specs.Prelude.{All, None}
use Rattle.std.proofs.lemmas.List.Elements.{All-append}
use Rattle.lake_model.specs.declared.history.HistoryEntry.{HistoryEntry}
use Rattle.lake_model.specs.State.{State}
use Rattle.call_placement.specs.Rules.{Caller}
use Rattle.call_placement.specs.Points.{AreOfOtherCalls, Came, HasPassed, HavePassed, is_own, made}
use Rattle.call_placement.proofs.WalkLemmas.{came_on, nothing_came, others_apart}
use Rattle.lake_calls.specs.Courses.{Answers, CallPoint, Finds, Looks, Makes, Prepares, ResolvesParent, ResolvesSource, head_points, made_by}
use Rattle.lake_calls.specs.DoneReplies.{owed_behind}
use Rattle.lake_calls.specs.LakeRules.{lake_rules}
use Rattle.lake_calls.specs.Requests.{CallRequest}
use Rattle.commit_laws.specs.OwnSeals.{HasNotSealed, HasOwnSeal, AskedHead, head_operation, seal_entry, seal_operation, up_to_seal}

-- points that make nothing
abbrev pub AllRead : List CallPoint → Type 0
AllRead [] = Unit {0}
AllRead (point ∷ points) = (made_by point ≡ None) × AllRead points

module _ (head : AskedHead) where
  abbrev pub seal_point : CallPoint
  seal_point = Makes (seal_operation head)

  abbrev pub ready_point : CallPoint
  ready_point = Prepares head.repo head.branch head.kind head.about

  abbrev pub head_point : CallPoint
  head_point = Makes (head_operation head)

  -- its course, behind readings
  abbrev pub points_of : List CallPoint
  points_of = head_points head.repo head.branch head.why head.kind head.about

  -- of a course of readings and these points, how many passed: none of these, the seal, all but the last, or all
  pub data Far (passed left : List CallPoint) : Type 0 where
    Unsealed : AllRead passed → (reads : List CallPoint) → AllRead reads → left ≡ reads ++ points_of → Far passed left
    Sealed : (reads : List CallPoint) → AllRead reads → passed ≡ reads ++ seal_point ∷ [] → left ≡ ready_point ∷ head_point ∷ [] → Far passed left
    Ready : (reads : List CallPoint) → AllRead reads → passed ≡ reads ++ seal_point ∷ ready_point ∷ [] → left ≡ head_point ∷ [] → Far passed left
    Whole : (reads : List CallPoint) → AllRead reads → passed ≡ reads ++ seal_point ∷ ready_point ∷ head_point ∷ [] → left ≡ [] → Far passed left

  far_points : (passed left : List CallPoint) → points_of ≡ passed ++ left → Far passed left
  far_points [] left is = Unsealed tt [] tt (sym is)
  far_points (a ∷ []) left is = Sealed [] tt (let same : a ∷ [] ≡ seal_point ∷ [] = cc in same) (let same : left ≡ ready_point ∷ head_point ∷ [] = cc in same)
  far_points (a ∷ b ∷ []) left is =
      Ready [] tt (let same : a ∷ b ∷ [] ≡ seal_point ∷ ready_point ∷ [] = cc in same) (let same : left ≡ head_point ∷ [] = cc in same)
  far_points (a ∷ b ∷ c ∷ []) left is = Whole [] tt (let same : a ∷ b ∷ c ∷ [] ≡ points_of = cc in same) (let same : left ≡ [] = cc in same)
  far_points (a ∷ b ∷ c ∷ d ∷ passed) left is = absurd cc

  far_on : (read : CallPoint) (passed left : List CallPoint) → made_by read ≡ None → Far passed left → Far (read ∷ passed) left
  far_on read passed left reads (Unsealed all more these is) = Unsealed (reads, all) more these is
  far_on read passed left reads (Sealed front all is left_is) = Sealed (read ∷ front) (reads, all) (ap (λ ps. read ∷ ps) is) left_is
  far_on read passed left reads (Ready front all is left_is) = Ready (read ∷ front) (reads, all) (ap (λ ps. read ∷ ps) is) left_is
  far_on read passed left reads (Whole front all is left_is) = Whole (read ∷ front) (reads, all) (ap (λ ps. read ∷ ps) is) left_is

  pub how_far : (reads passed left : List CallPoint) → AllRead reads → reads ++ points_of ≡ passed ++ left → Far passed left
  how_far [] passed left all is = far_points passed left is
  how_far (read ∷ reads) [] left all is = Unsealed tt (read ∷ reads) all (sym is)
  how_far (read ∷ reads) (point ∷ passed) left all is =
      let same : read ≡ point = cc in
      let rest : reads ++ points_of ≡ passed ++ left = cc in
      subst (λ p. Far (p ∷ passed) left) same (far_on read passed left all.0 (how_far reads passed left all.1 rest))

  -- ---- nothing is owed

  owed_reading : (point : CallPoint) (points : List CallPoint) → made_by point ≡ None → owed_behind (point ∷ points) ≡ None
  owed_reading Answers points none = refl
  owed_reading (Finds c) points none = refl
  owed_reading (ResolvesSource commit) points none = refl
  owed_reading (ResolvesParent commit parent message) points none = refl
  owed_reading (Looks repo branch) points none = refl
  owed_reading (Prepares repo branch kind about) points none = refl
  owed_reading (Makes operation) points none = absurd cc

  owed_read : (reads : List CallPoint) → AllRead reads → owed_behind reads ≡ None
  owed_read [] all = refl
  owed_read (read ∷ reads) all = owed_reading read reads all.0

  owed_sealed : (reads more : List CallPoint) → AllRead reads → owed_behind (reads ++ seal_point ∷ more) ≡ None
  owed_sealed [] more all = owed_seal more
    where
      owed_seal : (points : List CallPoint) → owed_behind (seal_point ∷ points) ≡ None
      owed_seal points = refl
  owed_sealed (read ∷ reads) more all = owed_reading read (reads ++ seal_point ∷ more) all.0

  pub owes_nothing : (passed left : List CallPoint) → Far passed left → owed_behind passed ≡ None
  owes_nothing passed left (Unsealed all reads these is) = owed_read passed all
  owes_nothing passed left (Sealed reads all is left_is) = ap owed_behind is ∙ owed_sealed reads [] all
  owes_nothing passed left (Ready reads all is left_is) = ap owed_behind is ∙ owed_sealed reads (ready_point ∷ []) all
  owes_nothing passed left (Whole reads all is left_is) = ap owed_behind is ∙ owed_sealed reads (ready_point ∷ head_point ∷ []) all

module _ (opened : State) (by : Caller) (request : CallRequest) where
  -- a reading passed: only others' entries came
  came_reading : (point : CallPoint) (seen next : List HistoryEntry) → made_by point ≡ None
      → HasPassed lake_rules opened by request point seen next → Came lake_rules by seen next
  came_reading point seen next none passed =
      subst (Came lake_rules by seen)
      (sym (passed.3 ∙ ap (λ o. passed.0 ++ made lake_rules by o) none ∙ append-nil passed.0)) passed.1

  -- so it is of readings
  pub came_readings : (reads : List CallPoint) (seen next : List HistoryEntry) → AllRead reads
      → HavePassed lake_rules opened by request reads seen next → Came lake_rules by seen next
  came_readings [] seen next all is = subst (Came lake_rules by seen) (sym is) (nothing_came lake_rules by seen)
  came_readings (read ∷ reads) seen next all walked =
      came_on lake_rules by seen walked.0 next (came_reading read seen walked.0 all.0 walked.1)
      (came_readings reads walked.0 next all.1 walked.2)

  module _ (head : AskedHead) where
    -- behind a call's own seal only others' entries came
    pub record StandsBehind (before seen : List HistoryEntry) : Type 0 where
      pub between : List HistoryEntry
      pub others_between : All (λ (entry : HistoryEntry). entry.by.seat ≢ by.seat) between
      pub came : Came lake_rules by (before ++ up_to_seal by head between) seen

    -- it stands behind readings, and before further ones
    pub stands_behind : (reads later : List CallPoint) (before start seen : List HistoryEntry) → AllRead reads → AllRead later
        → Came lake_rules by before start
        → HavePassed lake_rules opened by request (reads ++ seal_point head ∷ later) start seen → StandsBehind before seen
    stands_behind [] later before start seen all none came walked =
        let found = walked.1.0 in
        let here = came_on lake_rules by before start found came walked.1.1 in
        let on = came_readings later walked.0 seen none walked.2 in
        record {
          between = here.0;
          others_between = here.1;
          came = subst (λ w. Came lake_rules by w seen)
              (walked.1.3 ∙ ap (λ w. w ++ seal_entry by head ∷ []) here.2 ∙ append_assoc before here.0 (seal_entry by head ∷ [])) on;
        }
    stands_behind (read ∷ reads) later before start seen all none came walked =
        stands_behind reads later before walked.0 seen all.1 none
        (came_on lake_rules by before start walked.0 came (came_reading read start walked.0 all.0 walked.1)) walked.2

    -- ---- the lists

    regrouped : (before between meanwhile last : List HistoryEntry) (seal : HistoryEntry)
        → ((before ++ (between ++ seal ∷ [])) ++ meanwhile) ++ last ≡ before ++ (between ++ seal ∷ (meanwhile ++ last))
    regrouped before between meanwhile last seal =
        append_assoc (before ++ (between ++ seal ∷ [])) meanwhile last
        ∙ append_assoc before (between ++ seal ∷ []) (meanwhile ++ last)
        ∙ ap (λ w. before ++ w) (append_assoc between (seal ∷ []) (meanwhile ++ last))

    -- what came of others isn't of this call, and what comes later neither
    pub apart_both : (xs ys : List HistoryEntry) → All (λ (entry : HistoryEntry). entry.by.seat ≢ by.seat) xs → AreOfOtherCalls lake_rules by ys
        → AreOfOtherCalls lake_rules by (xs ++ ys)
    apart_both xs ys others apart =
        All-append (λ entry. is_own lake_rules by entry ≡ false) xs ys (others_apart lake_rules by xs others) apart

    module _ (before after seen found last next later : List HistoryEntry) (position next_edge : ℕ)
        (next_is : next ≡ found ++ last) (place : position ≡ length next) (edge : next_edge ≡ position)
        (apart : AreOfOtherCalls lake_rules by later) (whole : after ≡ next ++ later) where
      -- so a call that ends behind its seal has sealed
      pub has_sealed : StandsBehind before seen → Came lake_rules by seen found → HasOwnSeal by before after head last position next_edge
      has_sealed stands came =
          let on = came_on lake_rules by (before ++ up_to_seal by head stands.between) seen found stands.came came in
          let is = next_is ∙ ap (λ w. w ++ last) on.2 ∙ regrouped before stands.between on.0 last (seal_entry by head) in
          record {
            between = stands.between;
            others_between = stands.others_between;
            meanwhile = on.0;
            others_meanwhile = on.1;
            later = later;
            apart = apart;
            whole = whole ∙ ap (λ w. w ++ later) is
                ∙ append_assoc before (stands.between ++ seal_entry by head ∷ (on.0 ++ last)) later;
            place = place ∙ ap length is;
            edge = edge;
          }

      -- and one that ends before it hasn't
      pub has_not_sealed : Came lake_rules by before seen → Came lake_rules by seen found → HasNotSealed by before after last position next_edge
      has_not_sealed first came =
          let on = came_on lake_rules by before seen found first came in
          let is = next_is ∙ ap (λ w. w ++ last) on.2 ∙ append_assoc before on.0 last in
          record {
            others = on.0;
            are_others = on.1;
            later = later;
            apart = apart;
            whole = whole ∙ ap (λ w. w ++ later) is ∙ append_assoc before (on.0 ++ last) later;
            place = place ∙ ap length is;
            edge = edge;
          }
