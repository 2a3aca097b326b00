use Rattle.std.proofs.Common.{◌++◌, [], ◌∷◌, Option, sym, ap, ◌∙◌, append-nil}
use Rattle.std.specs.Option.{option_map_or}
use Rattle.std.proofs.lemmas.Option.{slice_get_past}
use Rattle.vcode.specs.declared.place.Location.{Location}
use Rattle.certificates.proofs.list.push_place.Goals as goal

pub returns-in-None : goal.returns-in-None
returns-in-None c =
    let r = c.args.register in
    sym (append-nil c.args.equalities.now)
    ∙ ap (λ (o : Option Location). c.args.equalities.now ++ option_map_or (λ (q : Location). record { register = r; place = q } ∷ []) o [])
    (sym (slice_get_past c.args.list.now r c.in-None.ensures.lookup.3))
