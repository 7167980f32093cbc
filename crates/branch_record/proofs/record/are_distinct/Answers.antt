use Rattle.std.proofs.Common.{◌≡◌, true, false, sym, ◌∙◌}
use Rattle.std.proofs.lemmas.Bool.{eqb-true, eq-eqb}
use Rattle.branch_record.proofs.TokensLemmas.{first_apart, rest_distinct, distinct_more, distinct_from_len, len_from_distinct}
use Rattle.branch_record.proofs.record.are_distinct.Goals as goal

pub returns-then-contains : goal.returns-then-contains
returns-then-contains c = (
  λ no. absurd cc,
  λ h.
      let wrong : true ≡ false = sym c.if-contains.true ∙ c.contains.ensures.value ∙ first_apart c.args.staging c.args.sealed.now h in
      absurd cc,
)

pub returns : goal.returns
returns c =
    let sealed = c.args.sealed.now in
    let set = c.in_ok-tokens.tokens in
    let made = c.in_ok-tokens.ensures in (
      λ same. distinct_more c.args.staging sealed (sym c.contains.ensures.value ∙ c.if-contains.false)
          (distinct_from_len sealed set made (sym c.len.ensures.len ∙ eqb-true _ _ same)),
      λ h. eq-eqb _ _ (c.len.ensures.len ∙ len_from_distinct sealed set made (rest_distinct c.args.staging sealed h)),
    )
