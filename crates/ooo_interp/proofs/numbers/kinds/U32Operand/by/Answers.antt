-- Bits of two unsigned values are no longer than theirs.
use Rattle.std.proofs.Common.{◌<◌, ◌^◌, arith, bit_or, bit_xor}
use Rattle.std.proofs.lemmas.Nat.{or_lt, xor_lt}
use Rattle.ooo_interp.proofs.Bitwise.{uints}
use Rattle.ooo_interp.proofs.numbers.kinds.U32Operand.by.Goals as goal

pub returns-in-BitOr : goal.returns-in-BitOr
returns-in-BitOr c =
    let left : c.args.x < 2 ^ 32 = omega arith in
    let right : c.args.y < 2 ^ 32 = omega arith in
    rw c.in-BitOr.is (uints bit_or c.args.x c.args.y left right (or_lt 32 c.args.x c.args.y left right))

pub returns-in-BitXor : goal.returns-in-BitXor
returns-in-BitXor c =
    let left : c.args.x < 2 ^ 32 = omega arith in
    let right : c.args.y < 2 ^ 32 = omega arith in
    rw c.in-BitXor.is (uints bit_xor c.args.x c.args.y left right (xor_lt 32 c.args.x c.args.y left right))
