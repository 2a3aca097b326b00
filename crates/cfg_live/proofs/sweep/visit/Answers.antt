use Rattle.std.proofs.Common.{◌∙◌}
use Rattle.bitset.specs.Bits.{is_member}
use Rattle.cfg_live.proofs.Marks.{visit_went, visit_changed, visit_takes, visit_spares}
use Rattle.cfg_live.proofs.sweep.visit.Goals as goal

pub returns-clause-went : goal.returns-clause-went
returns-clause-went c =
    visit_went c.args.graph.now c.args.set.now.length c.args.rows.now c.grow.new.rows (λ r. is_member c.flow.new.set r) c.args.point c.requires.sized c.flow.ensures.members
    (record { as_many = c.grow.ensures.as_many; members = c.grow.ensures.members })
    (λ p s h. c.grow.ensures.lengths p s h ∙ c.flow.ensures.length)

pub returns-clause-changed : goal.returns-clause-changed
returns-clause-changed c =
    visit_changed c.args.graph.now c.args.set.now.length c.args.rows.now c.grow.new.rows c.args.point c.requires.inside (returns-clause-went c) c.grow.result c.grow.ensures.grew

pub returns-clause-taken : goal.returns-clause-taken
returns-clause-taken c =
    visit_takes c.args.graph.now c.args.set.now.length c.args.rows.now c.grow.new.rows (λ r. is_member c.flow.new.set r) c.args.point c.flow.ensures.members
    (record { as_many = c.grow.ensures.as_many; members = c.grow.ensures.members })

pub returns-clause-others : goal.returns-clause-others
returns-clause-others c =
    visit_spares c.args.rows.now c.grow.new.rows (λ r. is_member c.flow.new.set r) c.args.point (record { as_many = c.grow.ensures.as_many; members = c.grow.ensures.members })
