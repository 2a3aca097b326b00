use Rattle.std.proofs.Common.{◌+◌, drop, refl, sym, ap, ◌∙◌, arith}
use Rattle.std.proofs.lemmas.Grind.{common_steps}
use Rattle.std.proofs.lemmas.List.{take_rest}
use Rattle.il_lex.specs.Next.{IsAhead}
use Rattle.il_lex.specs.declared.scan.Ahead.TheVariants.{Found}
use Rattle.il_lex.proofs.Passing.{passes}
use Rattle.il_lex.proofs.tokens.Tokens.next.Goals as goal

pub invariant_of-self : goal.invariant_of-self
invariant_of-self c =
    let text = c.self.inside.text.now in
    let at = c.self.inside.at in
    let ahead : IsAhead (drop at text) (Found c.in-Found.kind c.in-Found.gap c.in-Found.len) = rw (take_rest text at) at c.in-Found.ensures.meaning in
    let p = passes text at c.in-Found.gap c.in-Found.len c.in-Found.kind c.self.invariant.0 ahead in
    (p.within, ap (λ n. c.self.inside.line + n) c.line_ends.ensures ∙ omega (arith, c.self.invariant.1, p.line_after))

pub returns-in-Found : goal.returns-in-Found
returns-in-Found c =
    let text = c.self.inside.text.now in
    let at = c.self.inside.at in
    let ahead : IsAhead (drop at text) (Found c.in-Found.kind c.in-Found.gap c.in-Found.len) = rw (take_rest text at) at c.in-Found.ensures.meaning in
    let p = passes text at c.in-Found.gap c.in-Found.len c.in-Found.kind c.self.invariant.0 ahead in
    rw (← c.self.view_is) (record {
      next = p.next;
      order = omega arith;
      some = omega (arith, p.some);
      within = p.within;
      text = refl;
      line = c.self.invariant.1 ∙ sym p.line;
      after = refl;
    })

pub overflow_add-start : goal.overflow_add-start
overflow_add-start c = grind (arith, common_steps)

pub slice_bounds-rest-count : goal.slice_bounds-rest-count
slice_bounds-rest-count c = grind (arith, common_steps)
