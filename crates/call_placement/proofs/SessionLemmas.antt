-- The calls of a session, served one after the other, are placed.
use Rattle.std.proofs.Common.{◌≡◌, ◌≢◌, ℕ, ◌+◌, ◌≤◌, ◌<◌, eqb, ne_eqb, eqb-true, List, [], ◌∷◌, ◌++◌, length, Bool, true, false, refl, ap, sym, ◌∙◌, arith}
use Rattle.std.proofs.Common.{subst}
use Rattle.std.specs.Prelude.{◌⊎◌, ◌&&◌, max, filter, All, Option, Some, None}
use mathlib.Core.Logic.{inl, inr}
use Rattle.std.proofs.lemmas.List.{append-nil}
use Rattle.std.proofs.lemmas.List.Elements.{All-nil, All-append}
use Rattle.call_placement.specs.Rules.{Caller, Rules}
use Rattle.call_placement.specs.Points.{is_own, AreOfOtherCalls}
use Rattle.call_placement.specs.Served.{IsServed}
use Rattle.call_placement.specs.Sessions.{Item, caller, AddsOnly, AddsNumbered, IsItemServed, AreServed}
use Rattle.call_placement.specs.Placed.{IsItemPlaced, ArePlaced, Lawful}
use Rattle.call_placement.proofs.ServedLemmas.{goes_on}
use Rattle.call_placement.proofs.WalkLemmas.{length_front, further, drop_front, filter_none}
use Rattle.call_placement.proofs.PlacedLemmas.{max_is, served_within, placed}

-- two numbers that differ wherever two others are equal
differ : (a b c d : ℕ) → (a ≡ b → c ≢ d) → (eqb a b && eqb c d) ≡ false
differ a b c d h = pick (eqb a b) refl
  where
    pick : (x : Bool) → eqb a b ≡ x → (x && eqb c d) ≡ false
    pick true is = ne_eqb c d (h (eqb-true a b is))
    pick false is = refl

module _ {Entry State Operation Request Fixed Point Met Reply : Type 0} (rules : Rules Entry State Operation Request Fixed Point Met Reply) where
  -- of these entries the seat's are of calls before this number, or from it on
  abbrev Before : (seat number : ℕ) → List Entry → Type 0
  Before seat number entries = All (λ entry. (rules.maker entry).seat ≡ seat → (rules.maker entry).call < number) entries

  abbrev FromOn : (seat number : ℕ) → List Entry → Type 0
  FromOn seat number entries = All (λ entry. (rules.maker entry).seat ≡ seat → number ≤ (rules.maker entry).call) entries

  before_apart : (seat number : ℕ) (xs : List Entry) → Before seat number xs → AreOfOtherCalls rules (caller seat number) xs
  before_apart seat number xs h k d lt =
      differ _ seat _ number (λ same is. let less = h k d lt same in absurd (omega (arith, less, is)))

  after_apart : (seat number : ℕ) (xs : List Entry) → FromOn seat (number + 1) xs → AreOfOtherCalls rules (caller seat number) xs
  after_apart seat number xs h k d lt =
      differ _ seat _ number (λ same is. let more = h k d lt same in absurd (omega (arith, more, is)))

  taken_adds : (opened : State) (by : Caller) (edge : ℕ) (before after : List Entry) (item : Item Request Met Reply) (next : ℕ) (o : Option Reply)
      → IsItemServed rules opened by edge before after item next o → AddsOnly rules by before after
  taken_adds opened by edge before after item next None taken = taken.1
  taken_adds opened by edge before after item next (Some refusal) taken =
      ([], taken.1 ∙ sym (append-nil before), All-nil (λ entry. (rules.maker entry).seat ≡ by.seat → (rules.maker entry).call ≡ by.call))

  abbrev Numbered : (seat number count : ℕ) → List Entry → Type 0
  Numbered seat number count entries =
      All (λ entry. (rules.maker entry).seat ≡ seat → (number ≤ (rules.maker entry).call) × ((rules.maker entry).call < number + count)) entries

  -- what a list of calls adds is, of the seat's, of these calls alone
  pub adds_numbered : (opened : State) (seat number edge last : ℕ) (before after : List Entry) (items : List (Item Request Met Reply))
      → AreServed rules opened seat number edge before items after last → AddsNumbered rules seat number (length items) before after
  adds_numbered opened seat number edge last before after [] served = (
    [],
    served.0 ∙ sym (append-nil before),
    All-nil (λ entry. (rules.maker entry).seat ≡ seat
        → (number ≤ (rules.maker entry).call) × ((rules.maker entry).call < number + 0)),
  )
  adds_numbered opened seat number edge last before after (item ∷ items) served =
      let count = length (item ∷ items) in
      let here = taken_adds opened (caller seat number) edge before served.0 item served.1 (rules.form item.request) served.2 in
      let rest = adds_numbered opened seat (number + 1) (max edge served.1) last served.0 after items served.3 in
      let one : Numbered seat number count here.0 =
      (λ k d lt same. let is = here.2 k d lt same in (omega (arith, is), omega (arith, is))) in
      let more : Numbered seat number count rest.0 =
      (λ k d lt same. let is = rest.2 k d lt same in (omega (arith, is.0), omega (arith, is.1))) in (
        here.0 ++ rest.0,
        further before served.0 here.0 rest.0 after rest.1 here.1,
        All-append (λ entry. (rules.maker entry).seat ≡ seat → (number ≤ (rules.maker entry).call) × ((rules.maker entry).call < number + count))
            here.0 rest.0 one more,
      )

  form_position : (edge : ℕ) (before : List Entry) (item : Item Request Met Reply) (refusal : Reply) → edge ≤ length before
      → ((item.reply ≡ refusal) × (item.position ≡ edge)) ⊎ (rules.is_no_memory item.reply × (item.position ≡ length before))
      → (edge ≤ item.position) × (item.position ≤ length before)
  form_position edge before item refusal le (inl formed) = (omega (arith, formed.1), omega (arith, formed.1))
  form_position edge before item refusal le (inr want) = (omega (arith, want.1), omega (arith, want.1))

  form_reply : (edge : ℕ) (before : List Entry) (item : Item Request Met Reply) (refusal : Reply)
      → ((item.reply ≡ refusal) × (item.position ≡ edge)) ⊎ (rules.is_no_memory item.reply × (item.position ≡ length before))
      → ((item.reply ≡ refusal) × (item.position ≡ edge)) ⊎ rules.is_no_memory item.reply
  form_reply edge before item refusal (inl formed) = inl formed
  form_reply edge before item refusal (inr want) = inr want.0

  taken_within : Lawful rules → (opened : State) (by : Caller) (edge : ℕ) (before after : List Entry) (item : Item Request Met Reply) (next : ℕ)
      (o : Option Reply)
      → IsItemServed rules opened by edge before after item next o → edge ≤ length before → (edge ≤ next) × (next ≤ length after)
  taken_within law opened by edge before after item next None taken le = served_within rules law opened by edge after item next before taken.0 le
  taken_within law opened by edge before after item next (Some refusal) taken le =
      let at = form_position edge before item refusal le taken.0 in
      let same = ap length taken.1 in
      (omega (arith, at.0, taken.2), omega (arith, at.1, taken.2, same))

  item_placed : Lawful rules → (opened : State) (seat number edge next : ℕ) (start done more before between after : List Entry)
      (item : Item Request Met Reply) (o : Option Reply)
      → IsItemServed rules opened (caller seat number) edge before between item next o
      → before ≡ start ++ done → after ≡ between ++ more → AreOfOtherCalls rules (caller seat number) done → AreOfOtherCalls rules (caller seat number) more
      → length start ≤ edge → edge ≤ length before
      → IsItemPlaced rules opened (caller seat number) edge next start after item o
  item_placed law opened seat number edge next start done more before between after item None taken before_is after_is apart later from to =
      let by = caller seat number in
      let on = goes_on rules opened by before between more item.request item.met item.reply item.position next taken.0 later in
      placed rules law opened by edge after item next start done before
      (subst (λ w. IsServed rules opened by before w item.request item.met item.reply item.position next) (sym after_is) on)
      before_is apart from to
  item_placed law opened seat number edge next start done more before between after item (Some refusal) taken before_is after_is apart later from to =
      let by = caller seat number in
      let at = form_position edge before item refusal to taken.0 in
      let all : after ≡ start ++ (done ++ more) = further start between done more after after_is (taken.1 ∙ before_is) in
      let long : length before ≤ length after = length_front before more after (after_is ∙ ap (λ w. w ++ more) taken.1) in
      record {
        none = ap (filter (is_own rules by)) (drop_front start (done ++ more) after all)
            ∙ filter_none (is_own rules by) (done ++ more) (All-append (λ entry. is_own rules by entry ≡ false) done more apart later);
        reply = form_reply edge before item refusal taken.0;
        begins = at.0;
        ends = omega (arith, at.1, long);
        edge_is = taken.2;
      }

  -- and so are the calls that follow
  list_placed : Lawful rules → (opened : State) (seat number edge last : ℕ) (start done before after : List Entry) (items : List (Item Request Met Reply))
      → AreServed rules opened seat number edge before items after last
      → before ≡ start ++ done → Before seat number done → length start ≤ edge → edge ≤ length before
      → ArePlaced rules opened seat number edge start after items
  list_placed law opened seat number edge last start done before after [] served before_is earlier from to = tt
  list_placed law opened seat number edge last start done before after (item ∷ items) served before_is earlier from to =
      let between = served.0 in
      let next = served.1 in
      let form = rules.form item.request in
      let here = taken_adds opened (caller seat number) edge before between item next form served.2 in
      let rest = adds_numbered opened seat (number + 1) (max edge next) last between after items served.3 in
      let within = taken_within law opened (caller seat number) edge before between item next form served.2 to in
      let edge_is : max edge next ≡ next = max_is edge next within.0 in (
        next,
        item_placed law opened seat number edge next start done rest.0 before between after item form served.2 before_is rest.1
            (before_apart seat number done earlier) (after_apart seat number rest.0 (λ k d lt same. (rest.2 k d lt same).0)) from to,
        list_placed law opened seat (number + 1) next last start (done ++ here.0) between after items
            (subst (λ e. AreServed rules opened seat (number + 1) e between items after last) edge_is served.3)
            (further start before done here.0 between here.1 before_is)
            (All-append (λ entry. (rules.maker entry).seat ≡ seat → (rules.maker entry).call < number + 1) done here.0
            (λ k d lt same. let less = earlier k d lt same in omega (arith, less))
            (λ k d lt same. let is = here.2 k d lt same in omega (arith, is)))
            (omega (arith, within.0)) within.1,
      )

  -- the last edge
  pub edge_within : Lawful rules → (opened : State) (seat number edge last : ℕ) (before after : List Entry) (items : List (Item Request Met Reply))
      → AreServed rules opened seat number edge before items after last → edge ≤ length before → (edge ≤ last) × (last ≤ length after)
  edge_within law opened seat number edge last before after [] served le =
      let same = ap length served.0 in (omega (arith, served.1), omega (arith, served.1, le, same))
  edge_within law opened seat number edge last before after (item ∷ items) served le =
      let within = taken_within law opened (caller seat number) edge before served.0 item served.1 (rules.form item.request) served.2 le in
      let edge_is : max edge served.1 ≡ served.1 = max_is edge served.1 within.0 in
      let rest = edge_within law opened seat (number + 1) served.1 last served.0 after items
      (subst (λ e. AreServed rules opened seat (number + 1) e served.0 items after last) edge_is served.3) within.1 in
      (omega (arith, within.0, rest.0), rest.1)

  -- THE CALLS OF A SESSION ARE PLACED
  pub are_placed : Lawful rules → (opened : State) (seat number last : ℕ) (start after : List Entry) (items : List (Item Request Met Reply))
      → AreServed rules opened seat number (length start) start items after last
      → ArePlaced rules opened seat number (length start) start after items
  are_placed law opened seat number last start after items served =
      list_placed law opened seat number (length start) last start [] start after items served (sym (append-nil start))
      (All-nil (λ entry. (rules.maker entry).seat ≡ seat → (rules.maker entry).call < number)) (omega arith) (omega arith)
