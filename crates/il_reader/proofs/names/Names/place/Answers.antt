use Rattle.std.proofs.Common.{ap, ◌∙◌, map}
use Rattle.il_reader.specs.Prelude.{place, with_name, key_bytes}
use Rattle.il_reader.proofs.Interning.{place_is, with_name_is, found_stays}
use Rattle.il_reader.proofs.names.Names.place.Goals as goal

pub returns-clause-value : goal.returns-clause-value
returns-clause-value c =
    c.in_ok-place.ensures.index ∙ place_is c.args.name.now c.self.inside.names.keys ∙ ap (place c.args.name.now) c.self.view_is

pub returns-clause-names : goal.returns-clause-names
returns-clause-names c =
    ap (map key_bytes) c.in_ok-place.ensures.keys ∙ with_name_is (record { bytes = c.args.name }) c.self.inside.names.keys ∙ ap (with_name c.args.name.now) c.self.view_is

pub returns-in-Some-clause-names : goal.returns-in-Some-clause-names
returns-in-Some-clause-names c =
    found_stays c.args.name.now c.as_slice.result.now c.self.inside.names.keys c.args.self.now c.in-Some.place c.as_slice.ensures.keys c.self.view_is c.in-Some.ensures.within c.in-Some.ensures.place
