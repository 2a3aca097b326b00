use Rattle.std.proofs.Common.{◌∙◌, sym, ap, option_and_then}
use Rattle.il_ast.specs.Prelude.{cells_at, value_of}
use Rattle.il_mem.proofs.Accesses.{load_at, load_nowhere}
use Rattle.il_mem.proofs.memory.BlockMemory.load.Goals as goal

pub returns-in-Some : goal.returns-in-Some
returns-in-Some c =
    c.load_place.ensures
    ∙ (ap (λ n. option_and_then value_of (cells_at c.args.self.now c.in-Some.place.block c.in-Some.place.offset n)) c.bytes_in.ensures
    ∙ sym (load_at c.args.self.now _ c.args.at c.in-Some.place (sym c.pointed.ensures ∙ c.in-Some.is)))

pub returns-in-None : goal.returns-in-None
returns-in-None c = sym (load_nowhere c.args.self.now _ c.args.at (sym c.pointed.ensures ∙ c.in-None.is))
