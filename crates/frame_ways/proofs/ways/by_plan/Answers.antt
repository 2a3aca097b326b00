use Rattle.std.proofs.Common.{◌≡◌, true, List, ◌∙◌, sym, subst}
use Rattle.vcode.specs.declared.place.Location.{Location}
use Rattle.vcode.specs.declared.code.Code.{Code}
use Rattle.frame_ways.specs.declared.mark.Mark.{Mark}
use Rattle.frame_ways.specs.Plans.{planned, is_plan}
use Rattle.frame_ways.specs.Keeping.{IsMarkedOf}
use Rattle.frame_ways.proofs.Keeping.{plan_keeps}
use Rattle.frame_ways.proofs.ways.by_plan.Goals as goal

pub returns-in_ok-marked : goal.returns-in_ok-marked
returns-in_ok-marked c =
    let l = c.args.function.now.located in
    let plan = c.args.plan.now in
    let right : is_plan l.code plan ≡ true = sym c.is_plan.ensures ∙ c.if-is_plan.true in
    subst (λ (g : Code Location). IsMarkedOf l.code l.slots g c.in_ok-marked.field-0.marks.items) (sym c.in_ok-marked.ensures.code)
    (subst (λ (marks : List Mark). IsMarkedOf l.code l.slots (planned l.code plan) marks) (sym c.in_ok-marked.ensures.marks) (plan_keeps l plan right))
