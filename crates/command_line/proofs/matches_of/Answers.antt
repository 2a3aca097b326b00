use Rattle.std.proofs.Common.{map, ℕ, List, Bor}
use Rattle.command_line.proofs.Faulting.{clean, faulty, found, says}
use Rattle.command_line.proofs.matches_of.Goals as goal

pub returns-in-Ok-clause-clean : goal.returns-in-Ok-clause-clean
returns-in-Ok-clause-clean c = clean _ (map (λ (w : Bor (List ℕ)). w.now) c.args.words.now) c.in_ok-grammar.ensures.0 c.in-Ok.ensures.kinds

pub returns-in-Ok-clause-found : goal.returns-in-Ok-clause-found
returns-in-Ok-clause-found c = found _ (map (λ (w : Bor (List ℕ)). w.now) c.args.words.now) c.in-Ok.matches c.in_ok-grammar.ensures.0 c.in-Ok.ensures.matches

pub returns-in-Err-clause-says : goal.returns-in-Err-clause-says
returns-in-Err-clause-says c =
    let words = map (λ (w : Bor (List ℕ)). w.now) c.args.words.now in
    says words c.in-Err.error c.from.result (faulty _ words c.in-Err.error c.in_ok-grammar.ensures.0 c.in-Err.ensures.kinds) c.from.ensures
