-- Bits of two unsigned values are no longer than theirs.
use Rattle.std.proofs.Common.{◌<◌, ◌^◌, arith, bit_or, bit_xor}
use Rattle.std.proofs.lemmas.Nat.{or_lt, xor_lt}
use Rattle.ooo_interp.proofs.Bitwise.{ulongs}
use Rattle.ooo_interp.proofs.numbers.kinds.U64Operand.by.Goals as goal

pub returns-in-BitOr : goal.returns-in-BitOr
returns-in-BitOr c =
    let left : c.args.x < 2 ^ 64 = omega arith in
    let right : c.args.y < 2 ^ 64 = omega arith in
    rw c.in-BitOr.is (ulongs bit_or c.args.x c.args.y left right (or_lt 64 c.args.x c.args.y left right))

pub returns-in-BitXor : goal.returns-in-BitXor
returns-in-BitXor c =
    let left : c.args.x < 2 ^ 64 = omega arith in
    let right : c.args.y < 2 ^ 64 = omega arith in
    rw c.in-BitXor.is (ulongs bit_xor c.args.x c.args.y left right (xor_lt 64 c.args.x c.args.y left right))
