use Rattle.std.proofs.Common.{◌++◌, [], ◌∷◌, Option, sym, ap, ◌∙◌, append-nil}
use Rattle.std.specs.Option.{option_map_or}
use Rattle.std.proofs.lemmas.Option.{slice_get_past}
use Rattle.vcode.specs.declared.place.Location.{Location}
use Rattle.certificates.proofs.list.push_param.Goals as goal

pub returns-in-None : goal.returns-in-None
returns-in-None c =
    sym (append-nil c.args.params.now)
    ∙ ap (λ (o : Option Location). c.args.params.now ++ option_map_or (λ (q : Location). q ∷ []) o [])
    (sym (slice_get_past c.args.list.now c.args.register c.in-None.ensures.lookup.3))
