use Rattle.std.proofs.Common.{◌≡◌, ◌∙◌, ◌&&◌, Bool, true, false, refl, sym, ap, nat_lt}
use Rattle.std.specs.List.{list_all}
use Rattle.std.proofs.lemmas.Bool.{and_parts, and_from}
use Rattle.vcode.specs.Prelude.{is_paid}
use Rattle.constant_placement.specs.Held.{with_blocks, is_safe}
use Rattle.constant_placement.proofs.hoisting.hold.with_constant.Goals as goal

not_fit : (a b p : Bool) → (a && b) ≡ false → (a && (b && p)) ≡ false
not_fit false b p e = refl
not_fit true false p e = refl
not_fit true true p e = cc

unpaid : (a b p : Bool) → p ≡ false → (a && (b && p)) ≡ false
unpaid false b p e = refl
unpaid true false p e = refl
unpaid true true p e = e

pub returns-then-not-fits-clause-none : goal.returns-then-not-fits-clause-none
returns-then-not-fits-clause-none c =
    let p = c.args.plan.now in
    let f = c.args.function.now in
    not_fit (nat_lt p.register f.registers) (is_safe p f.code) (list_all is_paid (with_blocks p 0 f.code.blocks)) (sym c.fits.ensures ∙ c.if-not-fits.true)

pub returns-then-not-are_paid-clause-none : goal.returns-then-not-are_paid-clause-none
returns-then-not-are_paid-clause-none c =
    let p = c.args.plan.now in
    let f = c.args.function.now in
    let made = c.as_slice-2.ensures.value ∙ c.in_ok-blocks.ensures ∙ ap (with_blocks p 0) c.as_slice.ensures in
    unpaid (nat_lt p.register f.registers) (is_safe p f.code) (list_all is_paid (with_blocks p 0 f.code.blocks))
    (sym (c.are_paid.ensures ∙ ap (list_all is_paid) made) ∙ c.if-not-are_paid.true)

pub returns-clause-right : goal.returns-clause-right
returns-clause-right c =
    let p = c.args.plan.now in
    let f = c.args.function.now in
    let fits = and_parts (nat_lt p.register f.registers) (is_safe p f.code) (sym c.fits.ensures ∙ c.if-not-fits.false) in
    let made = c.as_slice-2.ensures.value ∙ c.in_ok-blocks.ensures ∙ ap (with_blocks p 0) c.as_slice.ensures in
    let paid : list_all is_paid (with_blocks p 0 f.code.blocks) ≡ true =
    sym (c.are_paid.ensures ∙ ap (list_all is_paid) made) ∙ c.if-not-are_paid.false in
    and_from (nat_lt p.register f.registers) (is_safe p f.code && list_all is_paid (with_blocks p 0 f.code.blocks)) fits.0
    (and_from (is_safe p f.code) (list_all is_paid (with_blocks p 0 f.code.blocks)) fits.1 paid)
