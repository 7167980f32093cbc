-- Answers that no placed or served upload of the toy gives.
use Rattle.std.proofs.Common.{◌≡◌, ◌≢◌, ℕ, ◌<◌, List, [], ◌∷◌, ◌++◌, length, refl, ap, sym, ◌∙◌, arith, subst}
use Rattle.std.specs.Prelude.{◌⊎◌, Some, None}
use mathlib.Core.Logic.{inl, inr}
use Rattle.std.proofs.lemmas.List.{append-nil}
use Rattle.std.proofs.lemmas.List.Elements.{All-nil}
use Rattle.call_placement.specs.Rules.{Caller}
use Rattle.call_placement.specs.Points.{entries_of}
use Rattle.call_placement.specs.Served.{IsServed}
use Rattle.call_placement.specs.Sessions.{Item}
use Rattle.call_placement.specs.Placed.{own_entries, IsPlaced, IsOneMore, LacksLast}
use Rattle.call_placement.specs.Examples.{ToyOperation, TakesNumber, PutsBody, GivesBack, ToyEntry, ToyState, ToyRequest, Upload, ToyPoint, Takes, Looks}
use Rattle.call_placement.specs.Examples.{ToyReply, TooManyTries, NoMemory, upload_course, toy_rules, upload_item, toy_entry}
use Rattle.call_placement.proofs.PlacedLemmas.{placed}
use Rattle.call_placement.proofs.EntryLemmas.{one_more, refused_lacks}
use Rattle.call_placement.proofs.ToyLemmas.{tells_done}
use Rattle.call_placement.proofs.ExampleLemmas.{toy_lawful}

-- the fronts of a course
abbrev Front : ℕ → List ToyPoint → List ToyPoint → Type 0
Front n passed left =
    (passed ≡ []) ⊎ (passed ≡ Takes n ∷ []) ⊎ (passed ≡ Takes n ∷ Looks ∷ []) ⊎ ((passed ≡ upload_course n) × (left ≡ []))

front_of : (n : ℕ) (passed left : List ToyPoint) → upload_course n ≡ passed ++ left → Front n passed left
front_of n [] left is = inl refl
front_of n (a ∷ []) left is = inr (inl (cc (is)))
front_of n (a ∷ b ∷ []) left is = inr (inr (inl (cc (is))))
front_of n (a ∷ b ∷ c ∷ []) left is = inr (inr (inr (cc (is), cc (is))))
front_of n (a ∷ b ∷ c ∷ d ∷ rest) left is = absurd (cc (is))

module _ (by : Caller) (request : ToyRequest) where
  abbrev More : List ToyPoint → List ToyEntry → Type 0
  More passed added = IsOneMore toy_rules by request passed added

  -- one more entry is one, and no accepted body
  at_most_one : (passed : List ToyPoint) (added : List ToyEntry) (x y : ToyEntry) (rest : List ToyEntry) → More passed added → added ≡ x ∷ (y ∷ rest) → ⊥
  at_most_one passed added x y rest (inl none) is = absurd (cc (none, is))
  at_most_one passed added x y rest (inr (inl gave)) is = absurd (cc (gave.2, is))
  at_most_one passed added x y rest (inr (inr note)) is = absurd (cc (note.1, is))

  no_body : (passed : List ToyPoint) (added : List ToyEntry) (number : ℕ)
      → ((operation : ToyOperation) → toy_rules.owed request passed ≡ Some operation → operation ≡ PutsBody number → ⊥)
      → More passed added → added ≡ toy_entry by (PutsBody number) ∷ [] → ⊥
  no_body passed added number other (inl none) is = absurd (cc (none, is))
  no_body passed added number other (inr (inl gave)) is =
      let same : toy_entry by gave.0 ≡ toy_entry by (PutsBody number) = cc (gave.2, is) in
      other gave.0 gave.1 (ap (λ entry. entry.operation) same)
  no_body passed added number other (inr (inr note)) is =
      let same : toy_rules.faulted by note.0 ≡ toy_entry by (PutsBody number) = cc (note.1, is) in
      absurd (cc (ap (λ entry. entry.fault) same))

  -- what is behind the first of two entries
  behind : (x y : ToyEntry) (xs ys : List ToyEntry) → x ∷ xs ≡ y ∷ ys → xs ≡ ys
  behind x y xs ys is = cc (is)

  owes_no_body : (n number : ℕ) (operation : ToyOperation) → Some (GivesBack n) ≡ Some operation → operation ≡ PutsBody number → ⊥
  owes_no_body n number operation owes is = absurd (cc (owes, is))

  owes_none : (number : ℕ) (operation : ToyOperation) → None ≡ Some operation → operation ≡ PutsBody number → ⊥
  owes_none number operation owes is = absurd (cc (owes))

  abbrev takes : ℕ → ToyEntry
  takes number = toy_entry by (TakesNumber number)

  abbrev puts : ℕ → ToyEntry
  puts number = toy_entry by (PutsBody number)

  -- the own entries of a call whose points are these
  at_front : (passed front : List ToyPoint) (added own : List ToyEntry) → passed ≡ front → own ≡ entries_of toy_rules by passed ++ added
      → own ≡ entries_of toy_rules by front ++ added
  at_front passed front added own same is = subst (λ w. own ≡ entries_of toy_rules by w ++ added) same is

  not_two : (n number other : ℕ) (passed left : List ToyPoint) (added : List ToyEntry) → Front n passed left → More passed added
      → takes number ∷ puts number ∷ puts other ∷ [] ≡ entries_of toy_rules by passed ++ added → ⊥
  not_two n number other passed left added (inl front) more is =
      at_most_one passed added (takes number) (puts number) (puts other ∷ []) more
      (sym (at_front passed [] added (takes number ∷ puts number ∷ puts other ∷ []) front is))
  not_two n number other passed left added (inr (inl front)) more is =
      at_most_one passed added (puts number) (puts other) [] more
      (sym (behind (takes number) (takes n) (puts number ∷ puts other ∷ []) added
      (at_front passed (Takes n ∷ []) added (takes number ∷ puts number ∷ puts other ∷ []) front is)))
  not_two n number other passed left added (inr (inr (inl front))) more is =
      at_most_one passed added (puts number) (puts other) [] more
      (sym (behind (takes number) (takes n) (puts number ∷ puts other ∷ []) added
      (at_front passed (Takes n ∷ Looks ∷ []) added (takes number ∷ puts number ∷ puts other ∷ []) front is)))
  not_two n number other passed left added (inr (inr (inr whole))) more is =
      no_body (upload_course n) added other (owes_none other) (subst (λ w. More w added) whole.0 more)
      (sym (behind (puts number) (puts n) (puts other ∷ []) added
      (behind (takes number) (takes n) (puts number ∷ puts other ∷ []) (puts n ∷ added)
      (at_front passed (upload_course n) added (takes number ∷ puts number ∷ puts other ∷ []) whole.0 is))))

  not_put : (n number : ℕ) (passed left : List ToyPoint) (added : List ToyEntry) → Front n passed left → left ≢ [] → More passed added
      → takes number ∷ puts number ∷ [] ≡ entries_of toy_rules by passed ++ added → ⊥
  not_put n number passed left added (inl front) some more is =
      at_most_one passed added (takes number) (puts number) [] more (sym (at_front passed [] added (takes number ∷ puts number ∷ []) front is))
  not_put n number passed left added (inr (inl front)) some more is =
      no_body (Takes n ∷ []) added number (owes_no_body n number) (subst (λ w. More w added) front more)
      (sym (behind (takes number) (takes n) (puts number ∷ []) added
      (at_front passed (Takes n ∷ []) added (takes number ∷ puts number ∷ []) front is)))
  not_put n number passed left added (inr (inr (inl front))) some more is =
      no_body (Takes n ∷ Looks ∷ []) added number (owes_no_body n number) (subst (λ w. More w added) front more)
      (sym (behind (takes number) (takes n) (puts number ∷ []) added
      (at_front passed (Takes n ∷ Looks ∷ []) added (takes number ∷ puts number ∷ []) front is)))
  not_put n number passed left added (inr (inr (inr whole))) some more is = absurd (some whole.1)

pub two_puts : (opened : ToyState) (by : Caller) (edge next_edge number other : ℕ) (start entries : List ToyEntry) (item : Item ToyRequest ℕ ToyReply)
    → own_entries toy_rules by start entries
    ≡ toy_entry by (TakesNumber number) ∷ toy_entry by (PutsBody number) ∷ toy_entry by (PutsBody other) ∷ []
    → IsPlaced toy_rules opened by edge next_edge start entries item → ⊥
two_puts opened by edge next_edge number other start entries item own p =
    not_two by item.request p.fixed number other p.passed p.left p.added (front_of p.fixed p.passed p.left p.course)
    (one_more toy_rules opened by edge entries item p.passed p.left p.reached p.added p.decided) (sym own ∙ p.own)

pub put_before : (opened : ToyState) (by : Caller) (edge next_edge number position : ℕ) (start entries : List ToyEntry)
    → own_entries toy_rules by start entries ≡ toy_entry by (TakesNumber number) ∷ toy_entry by (PutsBody number) ∷ []
    → IsPlaced toy_rules opened by edge next_edge start entries (upload_item TooManyTries position) → ⊥
put_before opened by edge next_edge number position start entries own p =
    pick (refused_lacks toy_rules tells_done opened by edge entries (upload_item TooManyTries position) next_edge start p refl)
  where
    pick : LacksLast toy_rules by Upload (upload_course p.fixed) (own_entries toy_rules by start entries) ⊎ (TooManyTries ≡ NoMemory) ⊎ ⊥ → ⊥
    pick (inl l) = not_put by Upload p.fixed number l.passed l.left l.added (front_of p.fixed l.passed l.left l.parts) l.some_left l.one_more
        (sym own ∙ l.own_is)
    pick (inr (inl want)) = absurd (cc (want))
    pick (inr (inr none)) = none

pub early : (opened : ToyState) (by : Caller) (position next_edge : ℕ) (before after : List ToyEntry) (reply : ToyReply)
    → position < length before → IsServed toy_rules opened by before after Upload 0 reply position next_edge → ⊥
early opened by position next_edge before after reply less served =
    let is = placed toy_rules toy_lawful opened by (length before) after (upload_item reply position) next_edge before [] before served
    (sym (append-nil before)) (All-nil _) (omega arith) (omega arith) in
    absurd (omega (arith, less, is.begins))
