-- What a write that failed leaves of the files.
use Rattle.std.proofs.Common.{◌≡◌, inr, ℕ, List, Option, Some, None, IfSome, Result, Ok, Err, OnErr, is_some, refl, true≢false, sym}
use Rattle.lakectl_commands.specs.HeldFiles.{HeldFiles, KeepsOthers}
use Rattle.lakectl_commands.specs.SavedReplies.{MayHaveSaved}

-- of files that are still told where they were, no other changed
pub saved_in_part : (name : List ℕ) (before now : Option HeldFiles) → IfSome before (λ files. IfSome now (KeepsOthers name files))
    → is_some now ≡ is_some before → MayHaveSaved (Some name) before now
saved_in_part name None now failed told = inr tt
saved_in_part name (Some files) None failed told = absurd (true≢false (sym told))
saved_in_part name (Some files) (Some left) failed told = inr (left, refl, failed)

-- what follows of what holds where a call failed
pub on_error : {T E : Type 0} (result : Result T E) (P Q : Type 0) → (P → Q) → OnErr result P → OnErr result Q
on_error (Ok value) P Q f p = tt
on_error (Err error) P Q f p = f p
