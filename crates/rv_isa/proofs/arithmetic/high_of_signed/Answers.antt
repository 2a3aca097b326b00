use Rattle.std.proofs.Common.{◌≡◌, FitsSigned, ◌∙◌, arith}
use Rattle.std.proofs.lemmas.Grind.{common_steps}
use Rattle.std.specs.Int.{w64, w128}
use Rattle.std.proofs.lemmas.Int.{to_z-of_z}
use Rattle.rv_isa.proofs.HighHalf.{high_half, signed_by_signed, wide_signed}
use Rattle.rv_isa.proofs.arithmetic.high_of_signed.Goals as goal

pub returns : goal.returns
returns c =
    let fa : FitsSigned w64 c.args.a = c.ranges.a in
    let fb : FitsSigned w64 c.args.b = c.ranges.b in
    let ea : c.from.result ≡ c.args.a = c.from.ensures ∙ to_z-of_z w64 c.args.a fa in
    let eb : c.from-2.result ≡ c.args.b = c.from-2.ensures ∙ to_z-of_z w64 c.args.b fb in
    high_half c.args.a c.args.b c.cast_unsigned.result (wide_signed c.args.a fa) (wide_signed c.args.b fb) (signed_by_signed c.args.a c.args.b fa fb)
    (rw (ea, eb) at c.cast_unsigned.ensures)

pub overflow_mul-from : goal.overflow_mul-from
overflow_mul-from c =
    let ea : c.from.result ≡ c.args.a = c.from.ensures ∙ to_z-of_z w64 c.args.a c.ranges.a in
    let eb : c.from-2.result ≡ c.args.b = c.from-2.ensures ∙ to_z-of_z w64 c.args.b c.ranges.b in
    rw (ea, eb, to_z-of_z w128 c.args.a (wide_signed c.args.a c.ranges.a), to_z-of_z w128 c.args.b (wide_signed c.args.b c.ranges.b)) (signed_by_signed c.args.a c.args.b c.ranges.a c.ranges.b)

pub overflow_cast-from : goal.overflow_cast-from
overflow_cast-from c = grind (arith, common_steps)
