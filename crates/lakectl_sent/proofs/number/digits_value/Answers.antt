use Rattle.std.proofs.Common.{arith, get_or}
use Rattle.std.proofs.lemmas.Int.Digits.{digits_value_more}
use Rattle.lakectl_sent.proofs.DigitLemmas.{digit_at, digit_is, number_fits}
use Rattle.lakectl_sent.proofs.number.digits_value.Goals as goal

pub overflow_sub-digit : goal.overflow_sub-digit
overflow_sub-digit c = (digit_is (get_or c.args.digits.now c.loop-digit.digit-index 0)
    (digit_at c.args.digits.now c.loop-digit.digit-index c.requires c.loop-digit-test.true)).1

pub overflow_mul-number : goal.overflow_mul-number
overflow_mul-number c = omega (arith, c.loop-digit.invariant, number_fits c.args.digits.now c.loop-digit.digit-index c.requires c.loop-digit-test.true)

pub overflow_add-number : goal.overflow_add-number
overflow_add-number c =
    let digit = digit_is (get_or c.args.digits.now c.loop-digit.digit-index 0)
    (digit_at c.args.digits.now c.loop-digit.digit-index c.requires c.loop-digit-test.true) in
    omega (arith, c.loop-digit.invariant, digit.0, c.from.ensures, number_fits c.args.digits.now c.loop-digit.digit-index c.requires c.loop-digit-test.true)

pub loop-digit-preserved : goal.loop-digit-preserved
loop-digit-preserved c =
    let digit = digit_is (get_or c.args.digits.now c.loop-digit.digit-index 0)
    (digit_at c.args.digits.now c.loop-digit.digit-index c.requires c.loop-digit-test.true) in
    omega (arith, c.loop-digit.invariant, digit.0, c.from.ensures, digits_value_more 10 c.args.digits.now c.loop-digit.digit-index c.loop-digit-test.true)
