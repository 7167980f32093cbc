-- Lines of the generator that were served, and one more.
use Rattle.std.proofs.Common.{◌≡◌, ◌≤◌, ◌+◌, ◌-◌, ◌*◌, ◌%◌, ◌^◌, suc, zero, ◌&&◌, ◌||◌, ℕ, Bool, true, false, List, [], ◌∷◌, ◌++◌, Ok, Err, refl, sym, ap, subst, ◌∙◌, arith, append_assoc, append-nil}
use Rattle.std.specs.Prelude.{if◌then◌else◌}
use Rattle.std.proofs.lemmas.List.Recursion.{or_push}
use Rattle.batch_lines.specs.ServedLines.{AreServed, LineEffect, LineReply}
use Rattle.batch_lines.specs.declared.status.ExitStatus.{ExitStatus}
use Rattle.batch_lines.proofs.EffectsLemmas.{served_more}
use Rattle.lake_generator.specs.GeneratedLines.{commit_lines, generated_lines, lines_to, merge_line, number_at, upload_line}
use Rattle.lake_generator.specs.Counting.{any_failure, done_of, is_failure, is_head, is_upload}
use Rattle.lake_generator.specs.Serving.{HasServed, HasStopped, ServesOne}
use Rattle.lake_generator.specs.declared.serving.Counts.{Counts}

-- one, where a test passes
abbrev pub one_if : Bool → ℕ
one_if test = if test then 1 else 0

pub none_more : (n : ℕ) (test done : Bool) → test ≡ false → n ≡ n + one_if (test && done)
none_more n true done is = absurd cc
none_more n false done is = omega arith

pub some_more : (n : ℕ) (test done : Bool) → test ≡ true → n + one_if done ≡ n + one_if (test && done)
some_more n true done is = refl
some_more n false done is = absurd cc

failure_more : (effects : List LineEffect) (effect : LineEffect) → any_failure (effects ++ effect ∷ []) ≡ (any_failure effects || is_failure effect)
failure_more effects effect = or_push any_failure is_failure refl (λ _ _. refl) effects effect

none_fails : (a b : Bool) → a ≡ false → b ≡ false → (a || b) ≡ false
none_fails true b is also = absurd cc
none_fails false b is also = also

module _ {L : Type 0} (serves : List ℕ → L → L → LineReply → Type 0) where
  done_more : (test : List ℕ → Bool) (lines : List (List ℕ)) (first : L) (effects : List LineEffect) (now : L) (line : List ℕ)
      (effect : LineEffect) → AreServed serves lines first effects now
      → done_of test (lines ++ line ∷ []) (effects ++ effect ∷ []) ≡ done_of test lines effects + one_if (test line && effect.done)
  done_more test [] first [] now line effect each = omega arith
  done_more test [] first (one ∷ effects) now line effect each = absurd each
  done_more test (one ∷ lines) first [] now line effect each = absurd each
  done_more test (one ∷ lines) first (before ∷ effects) now line effect each =
      let more = done_more test lines each.0 effects now line effect each.2 in omega (arith, more)

  module _ (first : L) where
    -- a line more, which was done or found no changes
    pub served_then : (lines : List (List ℕ)) (counts : Counts) (now : L) (line : List ℕ) (next : L) (done : Bool) (after : Counts)
        → HasServed serves first lines counts now → ServesOne serves line now next (Ok done)
        → after.uploads ≡ counts.uploads + one_if (is_upload line && done) → after.heads ≡ counts.heads + one_if (is_head line && done)
        → HasServed serves first (lines ++ line ∷ []) after next
    served_then lines counts now line next done after s one uploads heads = record {
      effects = s.effects ++ one.effect ∷ [];
      each = served_more serves lines first s.effects now line one.effect next s.each one.served;
      fine = failure_more s.effects one.effect ∙ none_fails (any_failure s.effects) (is_failure one.effect) s.fine one.tells.0;
      uploads =
          let more = done_more is_upload lines first s.effects now line one.effect s.each in
          uploads ∙ ap (λ n. n + one_if (is_upload line && done)) s.uploads
          ∙ ap (λ d. done_of is_upload lines s.effects + one_if (is_upload line && d)) (sym one.tells.1) ∙ sym more;
      heads =
          let more = done_more is_head lines first s.effects now line one.effect s.each in
          heads ∙ ap (λ n. n + one_if (is_head line && done)) s.heads
          ∙ ap (λ d. done_of is_head lines s.effects + one_if (is_head line && d)) (sym one.tells.1) ∙ sym more;
    }

    -- a line more, which failed
    pub stopped_then : (lines : List (List ℕ)) (counts : Counts) (now : L) (line : List ℕ) (next : L) (status : ExitStatus)
        → HasServed serves first lines counts now → ServesOne serves line now next (Err status)
        → HasStopped serves first (lines ++ line ∷ []) status next
    stopped_then lines counts now line next status s one = record {
      served = lines ++ line ∷ [];
      unserved = [];
      whole = append-nil (lines ++ line ∷ []);
      effects = s.effects;
      last = one.effect;
      each = served_more serves lines first s.effects now line one.effect next s.each one.served;
      fine = s.fine;
      failed = one.tells.0;
      tells = one.tells.1;
    }

    -- lines behind one that failed
    pub stopped_further : (lines more : List (List ℕ)) (status : ExitStatus) (now : L) → HasStopped serves first lines status now
        → HasStopped serves first (lines ++ more) status now
    stopped_further lines more status now s = record {
      served = s.served;
      unserved = s.unserved ++ more;
      whole = sym (append_assoc s.served s.unserved more) ∙ ap (λ l. l ++ more) s.whole;
      effects = s.effects;
      last = s.last;
      each = s.each;
      fine = s.fine;
      failed = s.failed;
      tells = s.tells;
    }

    -- nothing was served yet
    pub none_served : HasServed serves first [] (record { uploads = 0; heads = 0 }) first
    none_served = record { effects = []; each = refl; fine = refl; uploads = refl; heads = refl }

-- ---- the first lines are the front of all

-- those of one object more
pub lines_next : (number objects i : ℕ)
    → lines_to number objects (i + 1) ≡ lines_to number objects i ++ upload_line (number_at number (i + 1)) ∷ commit_lines objects (i + 1)
unfolding lines_to
lines_next number objects i =
    let e : i + 1 ≡ suc i = omega arith in
    subst (λ n. lines_to number objects n ≡ lines_to number objects i ++ upload_line (number_at number n) ∷ commit_lines objects n) (sym e) refl

pub lines_on : (first objects i number : ℕ) → number ≡ number_at first (i + 1)
    → lines_to first objects i ++ upload_line number ∷ commit_lines objects (i + 1) ≡ lines_to first objects (i + 1)
lines_on first objects i number is =
    ap (λ x. lines_to first objects i ++ upload_line x ∷ commit_lines objects (i + 1)) is ∙ sym (lines_next first objects i)

-- the number behind one
pub number_next : (first i : ℕ) → number_at first (i + 1) ≡ (number_at first i * 6364136223846793005 + 1442695040888963407) % 2 ^ 64
unfolding number_at
number_next first i =
    let e : i + 1 ≡ suc i = omega arith in
    subst (λ n. number_at first n ≡ (number_at first i * 6364136223846793005 + 1442695040888963407) % 2 ^ 64) (sym e) refl

front_of : (number objects i more : ℕ) → (rest : List (List ℕ)) × (lines_to number objects (i + more) ≡ lines_to number objects i ++ rest)
front_of number objects i zero =
    let e : i + 0 ≡ i = omega arith in ([], ap (lines_to number objects) e ∙ sym (append-nil (lines_to number objects i)))
front_of number objects i (suc more) =
    let before = front_of number objects i more in
    let e : i + suc more ≡ (i + more) + 1 = omega arith in
    let last = upload_line (number_at number (i + more + 1)) ∷ commit_lines objects (i + more + 1) in (
      before.0 ++ last,
      ap (lines_to number objects) e ∙ lines_next number objects (i + more) ∙ ap (λ l. l ++ last) before.1
          ∙ append_assoc (lines_to number objects i) before.0 last,
    )

module _ {L : Type 0} (serves : List ℕ → L → L → LineReply → Type 0) (first : L) where
  -- what failed among the first lines failed among all
  pub stopped_within : (number objects i : ℕ) (status : ExitStatus) (now : L) → i ≤ objects
      → HasStopped serves first (lines_to number objects i) status now → HasStopped serves first (generated_lines number objects) status now
  stopped_within number objects i status now within s =
      let e : i + (objects - i) ≡ objects = omega (arith, within) in
      let front = front_of number objects i (objects - i) in
      let whole : lines_to number objects objects ≡ lines_to number objects i ++ front.0 = ap (lines_to number objects) (sym e) ∙ front.1 in
      subst (λ lines. HasStopped serves first lines status now)
      (sym (append_assoc (lines_to number objects i) front.0 (merge_line ∷ [])) ∙ ap (λ l. l ++ merge_line ∷ []) (sym whole))
      (stopped_further serves first (lines_to number objects i) (front.0 ++ merge_line ∷ []) status now s)
