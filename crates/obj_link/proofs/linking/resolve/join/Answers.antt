use Rattle.std.proofs.Common.{sym, ◌∙◌, ap, codes, Some}
use Rattle.std.specs.Option.{option_or}
use Rattle.obj_link.specs.Prelude.{own, seen, meaning_in, meaning_by}
use Rattle.obj_link.proofs.ProgramLemmas.{targets_same}
use Rattle.obj_link.proofs.linking.resolve.join.Goals as goal

pub returns-in-Ok-targets : goal.returns-in-Ok-targets
returns-in-Ok-targets c =
    record {
      found = sym (targets_same (meaning_in c.in_ok-owned.owned c.in-Ok.exports) (meaning_by c.args.texts.now c.args.names.now)
          (λ t s x. ap (λ o. option_or o (seen c.in-Ok.exports x)) (c.in_ok-owned.ensures t s) ∙ ap (option_or (own c.args.names.now t s)) (c.in-Ok.ensures.seen x)) 0 c.args.texts.now)
          ∙ (c.in-Ok-targets.ensures ∙ ap Some (sym c.from_vec.ensures));
      once = c.in-Ok.ensures.once;
      main_is = let e = c.in-Ok.ensures.seen (codes "main") in let v = c.get.ensures.value in let k = c.copied-main.ensures in cc;
    }
