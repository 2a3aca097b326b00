use Rattle.std.proofs.Common.{◌∙◌, sym, ap, take, drop, ◌+◌, ◌<◌, length, arith}
use Rattle.il_ast.specs.Prelude.{plain_bytes}
use Rattle.il_mem.proofs.Reading.{byte_there, bytes_then, bytes_go_on, bytes_stop, bytes_begin, bytes_end}
use Rattle.il_mem.proofs.read.read_bytes.Goals as goal

pub loop-k-init : goal.loop-k-init
loop-k-init c =
    bytes_begin (plain_bytes (take c.args.count (drop c.args.from c.args.block.now)))
    ∙ ap (λ xs. bytes_then xs (plain_bytes (take c.args.count (drop c.args.from c.args.block.now)))) (sym c.new-bytes.ensures.items)

pub loop-k-preserved : goal.loop-k-preserved
loop-k-preserved c =
    let inside : c.args.from + c.loop-k.k < length c.args.block.now = omega (arith, c.loop-k-test.true) in
    let cell = byte_there c.args.block.now (c.args.from + c.loop-k.k) c.byte.result inside c.byte.ensures.byte in
    bytes_go_on c.args.block.now c.args.from c.args.count c.loop-k.k cell.0 c.in-Some.byte c.loop-k.bytes.items
    (plain_bytes (take c.args.count (drop c.args.from c.args.block.now))) c.loop-k-test.true cell.1 (cell.2 ∙ c.in-Some.is) c.loop-k.invariant
    ∙ ap (λ xs. bytes_then xs (plain_bytes (drop (c.loop-k.k + 1) (take c.args.count (drop c.args.from c.args.block.now))))) (sym c.in_ok-push-in-Some.ensures.items)

pub returns-in-None : goal.returns-in-None
returns-in-None c =
    let inside : c.args.from + c.loop-k.k < length c.args.block.now = omega (arith, c.loop-k-test.true) in
    let cell = byte_there c.args.block.now (c.args.from + c.loop-k.k) c.byte.result inside c.byte.ensures.byte in
    bytes_stop c.args.block.now c.args.from c.args.count c.loop-k.k cell.0 c.loop-k.bytes.items
    (plain_bytes (take c.args.count (drop c.args.from c.args.block.now))) c.loop-k-test.true cell.1 (cell.2 ∙ c.in-None.is) c.loop-k.invariant

pub returns : goal.returns
returns c =
    bytes_end (drop c.args.from c.args.block.now) c.args.count c.loop-k.k c.loop-k.bytes.items
    (plain_bytes (take c.args.count (drop c.args.from c.args.block.now))) c.loop-k-test.false c.loop-k.invariant
