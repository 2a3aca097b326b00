use Rattle.std.proofs.Common.{◌∙◌, ap, refl}
use Rattle.std.proofs.lemmas.Option.{IfSome_then}
use Rattle.il_ast.specs.declared.value.Value.TheVariants.{Pointer}
use Rattle.il_ast.specs.Prelude.{byte_count, operate_one}
use Rattle.il_interp.proofs.AccessLemmas.{loads, loads_long}
use Rattle.il_interp.proofs.accesses.loaded.Goals as goal

pub returns-in-LoadLong-clause-value : goal.returns-in-LoadLong-clause-value
returns-in-LoadLong-clause-value c =
    IfSome_then c.load_number.result c.load_number.ensures
    (λ number h. ap (λ x. operate_one c.args.memory.now x c.args.class (Pointer c.args.block c.args.offset)) c.in-LoadLong.is
    ∙ loads_long c.args.memory.now c.args.class c.args.block c.args.offset number 8 refl h)

pub returns-in_ok-number-in-Load-clause-value : goal.returns-in_ok-number-in-Load-clause-value
returns-in_ok-number-in-Load-clause-value c =
    ap (λ x. operate_one c.args.memory.now x c.args.class (Pointer c.args.block c.args.offset)) c.in-Load.is
    ∙ loads c.args.memory.now c.in-Load.extension c.args.class c.args.block c.args.offset c.in_ok-number-in-Load.number (byte_count c.extension_size.result) c.extended.result
    c.extension_size.ensures c.in_ok-number-in-Load.ensures c.extended.ensures
