use Rattle.std.proofs.Common.{mul-le-mul_left, arith}
use Rattle.basis.proofs.factor.Factor.scaled.Goals as goal

pub overflow_mul-units : goal.overflow_mul-units
overflow_mul-units c = omega (arith, mul-le-mul_left c.from.result c.args.self.bounded)

pub overflow_add-units : goal.overflow_add-units
overflow_add-units c = omega (arith, mul-le-mul_left c.from.result c.args.self.bounded)
