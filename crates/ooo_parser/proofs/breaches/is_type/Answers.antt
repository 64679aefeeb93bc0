use Rattle.ooo_parser.proofs.Types.{rest_tells, no_type, deep_type}
use Rattle.ooo_parser.proofs.breaches.is_type.Goals as goal

pub returns-in-Ok : goal.returns-in-Ok
returns-in-Ok c = rest_tells c.types.ensures c.args.symbols.now c.in-Ok.field-0-0 c.in-Ok.rest.now c.is_empty.result c.in-Ok.ensures c.is_empty.ensures

pub returns-in-Err-Syntax : goal.returns-in-Err-Syntax
returns-in-Err-Syntax c = no_type c.types.ensures c.args.symbols.now c.in-Err-Syntax.field-0-0 (rw c.in-Err-Syntax.field-0-is at c.in-Err-Syntax.ensures)

pub returns-in-Err-TooDeep : goal.returns-in-Err-TooDeep
returns-in-Err-TooDeep c = deep_type c.types.ensures c.args.symbols.now c.in-Err-TooDeep.field-0-0 (rw c.in-Err-TooDeep.field-0-is at c.in-Err-TooDeep.ensures)
