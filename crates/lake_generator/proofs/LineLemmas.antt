-- What lines of the generator show, and how they begin.
use Rattle.std.proofs.Common.{◌≡◌, ◌≢◌, ◌++◌, ℕ, List, Bool, true, false, refl, sym, ap, ◌∙◌}
use Rattle.std.specs.Bool.{Decides}
use Rattle.std.proofs.lemmas.Bool.{false_from_ne_true}
use Rattle.std.proofs.lemmas.List.{append_cancel_left}
use Rattle.std.specs.Str.{bytes_eq}
use Rattle.std.proofs.lemmas.Slice.Eq.{bytes_eq-Decides}
use Rattle.lake_generator.specs.Counting.{is_head, is_upload, no_changes_text}
use Rattle.lake_generator.specs.GeneratedLines.{commit_line, merge_line, upload_line}
use Rattle.lake_generator.specs.Serving.{MakesHead}

-- whether two texts, one behind the other, are what a commit or a merge shows that found no changes
pub found_there : (out err rest : List ℕ) → no_changes_text ≡ out ++ rest → bytes_eq rest err ≡ bytes_eq (out ++ err) no_changes_text
found_there out err rest is = by (bytes_eq rest err) (bytes_eq-Decides rest err)
  where
    by : (same : Bool) → Decides same (rest ≡ err) → same ≡ bytes_eq (out ++ err) no_changes_text
    by true decides = sym ((bytes_eq-Decides (out ++ err) no_changes_text).1 (ap (λ l. out ++ l) (sym (decides.0 refl)) ∙ sym is))
    by false decides = sym (false_from_ne_true (bytes_eq (out ++ err) no_changes_text) (λ told.
        let joined : out ++ rest ≡ out ++ err = sym is ∙ sym ((bytes_eq-Decides (out ++ err) no_changes_text).0 told) in
        let same : false ≡ true = decides.1 (append_cancel_left out rest err joined) in absurd cc))

pub found_nowhere : (out err : List ℕ) → ((rest : List ℕ) → no_changes_text ≢ out ++ rest) → false ≡ bytes_eq (out ++ err) no_changes_text
found_nowhere out err apart =
    sym (false_from_ne_true (bytes_eq (out ++ err) no_changes_text)
    (λ told. apart err (sym ((bytes_eq-Decides (out ++ err) no_changes_text).0 told))))

pub upload_is : (x : ℕ) → (is_upload (upload_line x) ≡ true) × (is_head (upload_line x) ≡ false)
upload_is x = (refl, refl)

pub commit_is : (branch : List ℕ) (i : ℕ) → MakesHead (commit_line branch i)
commit_is branch i = (refl, refl)

pub merge_is : MakesHead merge_line
merge_is = (refl, refl)
