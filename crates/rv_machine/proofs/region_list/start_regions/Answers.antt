use Rattle.rv_machine.proofs.RegionLemmas.{permission-start, byte-start, full-both, shows-same}
use Rattle.rv_machine.proofs.region_list.start_regions.Goals as goal

pub returns-clause-permissions : goal.returns-clause-permissions
returns-clause-permissions c =
    permission-start c.args.file.now c.args.arguments c.in_ok-regions.regions.items c.push.new.self.items c.in_ok-stack.stack (shows-same _ _ _ c.segments.ensures.value c.in_ok-regions.ensures.shows) c.in_ok-stack.ensures.shows c.in_ok-push.ensures.items

pub returns-clause-bytes : goal.returns-clause-bytes
returns-clause-bytes c =
    byte-start c.args.file.now c.args.arguments c.in_ok-regions.regions.items c.push.new.self.items c.in_ok-stack.stack (shows-same _ _ _ c.segments.ensures.value c.in_ok-regions.ensures.shows) c.in_ok-stack.ensures.shows c.in_ok-push.ensures.items

pub returns-clause-full : goal.returns-clause-full
returns-clause-full c =
    full-both c.in_ok-regions.regions.items c.push.new.self.items c.in_ok-stack.stack c.args.whole c.in_ok-push.ensures.items c.in_ok-regions.ensures.full c.in_ok-stack.ensures.full
