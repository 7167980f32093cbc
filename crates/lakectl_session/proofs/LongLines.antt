-- A line that is too long is told by its front.
use Rattle.std.proofs.Common.{◌≡◌, ◌<◌, ℕ, Bool, List, [], ◌∷◌, ◌++◌, length, Result, Ok, Err}
use Rattle.std.proofs.Common.{refl, sym, ap, subst, ◌∙◌, arith, if◌then◌else◌, length-append, lt-ltb}
use Rattle.std.specs.Str.{is_utf8}
use Rattle.lake_base.specs.declared.outside.Trouble.{Trouble}
use Rattle.http_wire.specs.SinkFronts.{IsPrefix}
use Rattle.lakectl_shown.specs.declared.showing.Shown.{Shown}
use Rattle.lakectl_verbs.specs.declared.line.LineWords.{LineWords}
use Rattle.lakectl_verbs.specs.declared.line.LineWords.TheVariants.{Bad, Skipped, Words}
use Rattle.lakectl_verbs.specs.LineForms.{is_skipped, line_in, line_of, words_of}
use Rattle.lakectl_session.specs.ServedCommands.{CommandView, LineEnds, LineShows, LineStops}

skipped_front : (front rest : List ℕ) → 0 < length front → is_skipped (front ++ rest) ≡ is_skipped front
skipped_front [] rest some = let never : 0 < 0 = some in absurd (omega (arith, never))
skipped_front (b ∷ front) rest some = refl

long_in : (line : List ℕ) → 65536 < length line → line_in line ≡ Bad
long_in line long =
    ap (λ (b : Bool). if b then Bad else if is_utf8 line then Words (words_of line) else Bad) (lt-ltb 65536 (length line) long)

long_of : (front rest : List ℕ) → 65536 < length front → line_of (front ++ rest) ≡ line_of front
long_of front rest long =
    let longer : 65536 < length (front ++ rest) = omega (arith, long, length-append front rest) in
    ap (λ (skipped : Bool). if skipped then Skipped else line_in (front ++ rest)) (skipped_front front rest (omega (arith, long)))
    ∙ ap (λ (words : LineWords). if is_skipped front then Skipped else words) (long_in (front ++ rest) longer ∙ sym (long_in front long))

-- So a line of more than 65,536 bytes is served as any such front of it is.
pub told_by_fronts : (front line : List ℕ) (old now : CommandView) (reply : Result Shown Trouble) → 65536 < length front → IsPrefix front line
    → LineEnds front old now reply → LineEnds line old now reply
told_by_fronts front line old now reply long (rest, whole) ends =
    subst (λ (bytes : List ℕ). LineEnds bytes old now reply) whole (of_rest reply ends)
  where
    same : line_of front ≡ line_of (front ++ rest)
    same = sym (long_of front rest long)

    of_rest : (answer : Result Shown Trouble) → LineEnds front old now answer → LineEnds (front ++ rest) old now answer
    of_rest (Ok shown) is = subst (λ (words : LineWords). LineShows words old now shown) same is
    of_rest (Err trouble) is = subst (λ (words : LineWords). LineStops words old now trouble) same is
