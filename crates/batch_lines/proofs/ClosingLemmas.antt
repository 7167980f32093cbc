-- What comes last in a batch, and what is shown of it.
use Rattle.std.proofs.Common.{◌≡◌, ◌<◌, ◌≤◌, lit<, ℕ, zero, suc, Bool, true, false, cond, nat_le}
use Rattle.std.proofs.Common.{List, [], ◌∷◌, ◌++◌, length, take, Option, Result, Ok}
use Rattle.std.proofs.Common.{refl, sym, ◌∙◌, ap, subst, arith}
use Rattle.std.proofs.lemmas.Bool.Decides.{nat_tests}
use Rattle.std.proofs.lemmas.List.{append-nil, take_all}
use Rattle.std.specs.Str.Lines.{lines}
use Rattle.batch_lines.specs.declared.stop.Stop.{Stop}
use Rattle.batch_lines.specs.ServedLines.{LineReply, LineEffect, IsLineServed, AreToldByFronts}
use Rattle.batch_lines.specs.Lines.{ended_lines, last_part, batch_lines, end_text, too_long_text}
use Rattle.batch_lines.specs.Outcome.{Trace}
use Rattle.batch_lines.specs.Progress.{BatchState}
use Rattle.batch_lines.specs.Serving.{ServesLine}
use Rattle.batch_lines.specs.Feeding.{line_room, HasShown, ShowsLines, HasServed}
use Rattle.batch_lines.specs.SourceReading.{IsFed}
use Rattle.batch_lines.proofs.FeedingLemmas.{line_shown}
use Rattle.batch_lines.proofs.LineBufferLemmas.{served_last}
use Rattle.batch_lines.proofs.LinesLemmas.{last_line-none, last_line-some, lines_is}

pub within_test : {m n : ℕ} → m ≤ n → nat_le m n ≡ true
within_test {m = m} {n = n} le = grind (arith, nat_tests)

pub beyond_test : {m n : ℕ} → n < m → nat_le m n ≡ false
beyond_test {m = m} {n = n} lt = grind (arith, nat_tests)

pub tested_within : {m n : ℕ} → nat_le m n ≡ true → m ≤ n
tested_within {m = m} {n = n} is = grind (arith, nat_tests)

-- a batch within its limit was served whole
pub fed_whole : {L : Type 0} {serves : List ℕ → L → L → LineReply → Type 0} {before : Trace L} {limit most : ℕ}
    {input : List ℕ} {source : Option (List ℕ)} {now : BatchState L} {kept : List ℕ} → length input ≤ limit
    → IsFed serves before most input source limit input now kept
    → IsFed serves before most input source limit (take limit input) now kept
fed_whole {serves = serves} {before = before} {limit = limit} {input = input} {now = now} {kept = kept} within fed = record {
  out = fed.out;
  first = fed.first;
  read = fed.read;
  served = subst (λ (l : List ℕ). HasServed serves before fed.first l now kept) (sym (take_all limit input within))
      fed.served;
}

nothing_kept : (n : ℕ) (xs : List ℕ) → 0 < n → take n xs ≡ [] → xs ≡ []
nothing_kept n [] some is = refl
nothing_kept zero (x ∷ xs) some is = absurd (omega arith)
nothing_kept (suc n) (x ∷ xs) some is = absurd cc

something_kept : (n : ℕ) (xs : List ℕ) → 0 < length (take n xs) → 0 < length xs
something_kept zero [] some = some
something_kept (suc n) [] some = some
something_kept zero (x ∷ xs) some = omega arith
something_kept (suc n) (x ∷ xs) some = omega arith

-- what comes last of a batch whose lines that ended were served
module _ {L : Type 0} (serves : List ℕ → L → L → LineReply → Type 0) (limit : ℕ) (input : List ℕ) (before : Trace L)
    (first : List LineEffect) where
  -- the lines of a batch and the text at its end, by whether it is within its limit
  by_test : (now : BatchState L) (result : Result (Unit {0}) Stop) (within : Bool) → nat_le (length input) limit ≡ within
      → ShowsLines serves before first (cond within (lines input) (ended_lines (take limit input)))
      (cond within [] too_long_text) now result
      → ShowsLines serves before first (batch_lines limit input) (end_text limit input []) now result
  by_test now result within test shows =
      subst (λ b. ShowsLines serves before first (cond b (lines input) (ended_lines (take limit input)))
      (cond b [] too_long_text) now result) (sym test) shows

  -- it is too long
  pub shows_too_long : (now : BatchState L) (result : Result (Unit {0}) Stop) → nat_le (length input) limit ≡ false
      → ShowsLines serves before first (ended_lines (take limit input)) too_long_text now result
      → ShowsLines serves before first (batch_lines limit input) (end_text limit input []) now result
  shows_too_long now result beyond shows = by_test now result false beyond shows

  module _ {old : BatchState L} {kept : List ℕ} (served : HasServed serves before first (take limit input) old kept)
      (within : nat_le (length input) limit ≡ true) where
    abbrev given : List ℕ
    given = take limit input

    whole : given ≡ input
    whole = take_all limit input (tested_within within)

    -- no line is under way
    pub shows_nothing : kept ≡ []
        → ShowsLines serves before first (batch_lines limit input) (end_text limit input []) old (Ok tt)
    shows_nothing none =
        let empty : last_part given ≡ [] =
        nothing_kept line_room (last_part given) (lit< tt) (sym served.under_way ∙ none) in
        let all : ended_lines given ≡ lines input =
        sym (append-nil (ended_lines given))
        ∙ ap (λ (l : List (List ℕ)). ended_lines given ++ l) (sym (last_line-none (last_part given) empty))
        ∙ sym (lines_is given) ∙ ap lines whole in
        by_test old (Ok tt) true within
        (subst (λ (l : List (List ℕ)). HasShown serves before first l [] old) all served.ended)

    -- one is, and it was served
    pub shows_line : (told : AreToldByFronts serves) {now : BatchState L} {line : List ℕ} {result : Result (Unit {0}) Stop}
        → line ≡ kept → 0 < length kept → ServesLine serves old now line result
        → ShowsLines serves before first (batch_lines limit input) (end_text limit input []) now result
    shows_line told {now = now} {line = line} {result = result} is some one =
        let more : 0 < length (last_part given) = something_kept line_room (last_part given)
        (subst (λ (l : List ℕ). 0 < length l) served.under_way some) in
        let all : ended_lines given ++ last_part given ∷ [] ≡ lines input =
        ap (λ (l : List (List ℕ)). ended_lines given ++ l) (sym (last_line-some (last_part given) more))
        ∙ sym (lines_is given) ∙ ap lines whole in
        let last : IsLineServed serves (last_part given) old.server one.effect now.server =
        served_last serves told (last_part given) old.server one.effect now.server
        (subst (λ (l : List ℕ). IsLineServed serves l old.server one.effect now.server) (is ∙ served.under_way)
        one.served) in
        by_test now result true within
        (subst (λ (l : List (List ℕ)). ShowsLines serves before first l [] now result) all
        (line_shown serves before first (ended_lines given) old now line (last_part given) served.ended result one last))
