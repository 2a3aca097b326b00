-- The code of a plan that is right is what it is promised to be.
use Rattle.std.proofs.Common.{◌≡◌, true, refl}
use Rattle.vcode.specs.declared.function.LFunc.{LFunc}
use Rattle.frame_ways.specs.declared.plan.Plan.{Plan}
use Rattle.frame_ways.specs.Plans.{planned, marks_of, is_plan}
use Rattle.frame_ways.specs.Keeping.{IsMarkedOf}
use Rattle.frame_ways.proofs.Parts.{plan_right}
use Rattle.frame_ways.proofs.Suiting.{is_marked, same_area}
use Rattle.frame_ways.proofs.Running.{runs_as}

pub plan_keeps : (l : LFunc) (plan : Plan) → is_plan l.code plan ≡ true → IsMarkedOf l.code l.slots (planned l.code plan) (marks_of plan)
plan_keeps l plan h =
    let right = plan_right l.code plan h in
    let area = same_area l plan right in
    record {
      marked = is_marked l plan right;
      params = refl;
      result = refl;
      area = area;
      keeps = λ addresses base j log o fine n logged. runs_as l.code plan right area addresses base j log o fine n logged;
    }
