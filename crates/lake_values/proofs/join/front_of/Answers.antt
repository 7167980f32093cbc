use Rattle.std.proofs.Common.{sym, arith}
use Rattle.std.specs.declared.cmp.Ordering.TheVariants.{Greater}
use Rattle.lake_base.proofs.MapsLemmas.{turned}
use Rattle.lake_values.proofs.JoinLemmas.{front_less, front_equal, front_greater, rest_is}
use Rattle.lake_values.proofs.join.front_of.Goals as goal

pub returns-in-Less : goal.returns-in-Less
returns-in-Less g c =
    rw (rest_is c.args.left.now) (front_less c.args.left.now c.args.right.now c.item-item-2.result c.other-item.result c.requires.left c.requires.right
    (grind arith) (grind arith) c.item-item-2.is c.other-item.is (sym c.in-Less.ensures))

pub returns-in-Equal : goal.returns-in-Equal
returns-in-Equal g c =
    rw (rest_is c.args.left.now, rest_is c.args.right.now)
    (front_equal c.args.left.now c.args.right.now c.item-item-2.result c.other-item.result c.requires.left c.requires.right
    (grind arith) (grind arith) c.item-item-2.is c.other-item.is (sym c.in-Equal.ensures))

pub returns-in-Greater : goal.returns-in-Greater
returns-in-Greater g c =
    rw (rest_is c.args.right.now) (front_greater c.args.left.now c.args.right.now c.item-item-2.result c.other-item.result c.requires.left c.requires.right
    (grind arith) (grind arith) c.item-item-2.is c.other-item.is (turned c.item-item-2.result.0 c.other-item.result.0 Greater (sym c.in-Greater.ensures)))
