-- What the named segments of a path are: percent-decoded (URL Standard, section 1.3), and then read.
use Rattle.std.specs.Prelude.{ℕ, List, Result}
use Rattle.std.specs.Str.{is_utf8}
use Rattle.percent_encoding.specs.Percent.{percent_decode}
use Rattle.lake_calls.specs.Calls.{ExpressionValue}
use Rattle.lake_calls.specs.declared.reply.FormRefusal.{FormRefusal}
use Rattle.api_routes.specs.ExpressionTexts.{expression_at}
use Rattle.api_routes.specs.FormNames.{checked, repo_of, ref_name_of, digest_of}
use Rattle.api_routes.specs.FormSteps.{in_turn}
use Rattle.lake_base.specs.declared.digest.Digest.{Digest}

-- a repository's name
abbrev pub repo_segment : (name segment : List ℕ) → Result (List ℕ) FormRefusal
repo_segment name segment = repo_of name (percent_decode segment)

-- a branch's or a tag's name
abbrev pub ref_name_segment : (name segment : List ℕ) → Result (List ℕ) FormRefusal
ref_name_segment name segment = ref_name_of name (percent_decode segment)

-- a commit's id
abbrev pub digest_segment : (name segment : List ℕ) → Result Digest FormRefusal
digest_segment name segment = digest_of name (percent_decode segment)

-- an expression: a text
abbrev pub expression_segment : (name segment : List ℕ) → Result ExpressionValue FormRefusal
expression_segment name segment =
    in_turn (checked (is_utf8 (percent_decode segment)) name (percent_decode segment)) (expression_at name)
