-- A page of values without floats has none.
use Rattle.std.proofs.Common.{◌≡◌, ℕ, Bool, false, List}
use Rattle.serde_json.specs.Data.{Data}
use Rattle.serde_json.specs.View.{items_of}
use Rattle.serde_json.specs.Written.{has_float, items_have_float}
use Rattle.api_replies.specs.ReplyForms.{page_form}

pub page_no_float : (offset : List ℕ) (has_more : Bool) (results : List Data) → items_have_float (items_of results) ≡ false
    → has_float (page_form offset has_more results) ≡ false
page_no_float offset has_more results none = rw none
