use Rattle.std.proofs.Common.{◌≡◌, ◌∙◌, sym, ◌<◌, ◌+◌, ◌*◌, ◌-◌, ◌^◌, ℕ, suc, length, arith, ap, subst, Some}
use Rattle.il_mem.proofs.Reading.{byte_there, number_goes_on, number_stops, more_bytes, fits_long}
use Rattle.il_mem.proofs.read.read_number.Goals as goal

pub returns-in-None : goal.returns-in-None
returns-in-None c =
    let inside : c.args.from + (c.loop-left.left - 1) < length c.args.block.now = omega arith in
    let cell = byte_there c.args.block.now (c.args.from + (c.loop-left.left - 1)) c.byte.result inside c.byte.ensures.byte in
    sym (number_stops c.args.block.now c.args.from c.args.count (c.loop-left.left - 1) cell.0 (omega arith) cell.1 (cell.2 ∙ c.in-None.is))

pub overflow_mul-number : goal.overflow_mul-number
overflow_mul-number c =
    let more : c.loop-left.number * 256 + c.in-Some.byte < 256 ^ suc (c.args.count - c.loop-left.left) =
    more_bytes c.loop-left.number c.in-Some.byte (c.args.count - c.loop-left.left) c.loop-left.invariant.1 c.in-Some.ensures.small in
    let fits : c.loop-left.number * 256 + c.in-Some.byte < 2 ^ 64 =
    fits_long (c.loop-left.number * 256 + c.in-Some.byte) (suc (c.args.count - c.loop-left.left)) more (omega arith) in
    omega arith

pub overflow_add-number : goal.overflow_add-number
overflow_add-number c =
    let more : c.loop-left.number * 256 + c.in-Some.byte < 256 ^ suc (c.args.count - c.loop-left.left) =
    more_bytes c.loop-left.number c.in-Some.byte (c.args.count - c.loop-left.left) c.loop-left.invariant.1 c.in-Some.ensures.small in
    let fits : c.loop-left.number * 256 + c.in-Some.byte < 2 ^ 64 =
    fits_long (c.loop-left.number * 256 + c.in-Some.byte) (suc (c.args.count - c.loop-left.left)) more (omega arith) in
    omega arith

pub loop-left-preserved : goal.loop-left-preserved
loop-left-preserved c =
    let inside : c.args.from + (c.loop-left.left - 1) < length c.args.block.now = omega arith in
    let cell = byte_there c.args.block.now (c.args.from + (c.loop-left.left - 1)) c.byte.result inside c.byte.ensures.byte in
    let same : c.loop-left.number * 256 + c.in-Some.byte ≡ c.loop-left.number * 256 + c.from.result = omega arith in
    let more : c.loop-left.number * 256 + c.in-Some.byte < 256 ^ suc (c.args.count - c.loop-left.left) =
    more_bytes c.loop-left.number c.in-Some.byte (c.args.count - c.loop-left.left) c.loop-left.invariant.1 c.in-Some.ensures.small in
    let length : suc (c.args.count - c.loop-left.left) ≡ c.args.count - (c.loop-left.left - 1) = omega arith in (
      number_goes_on c.args.block.now c.args.from c.args.count (c.loop-left.left - 1) c.loop-left.left c.loop-left.number c.in-Some.byte
          cell.0 (omega arith) (omega arith) cell.1 (cell.2 ∙ c.in-Some.is) c.loop-left.invariant.0
          ∙ ap (λ (n : ℕ). Some n) same,
      (let P : ℕ → Type 0 = λ j. c.loop-left.number * 256 + c.from.result < 256 ^ j in subst P length (omega arith)),
      omega arith,
    )
