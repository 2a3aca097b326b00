use Rattle.std.proofs.Common.{map, List, ℕ, Bor, rules}
use Rattle.commands.proofs.Ending.{file_refused, run_broke_off}
use Rattle.commands.proofs.runs.run_file.Goals as goal

pub returns-in-Err-clause-fails : goal.returns-in-Err-clause-fails
returns-in-Err-clause-fails g c =
    file_refused c.args.bytes.now (map (λ (w : Bor (List ℕ)). w.now) c.args.words.now) c.args.limit (g.O.Sink.told c.args.out.now) c.from.result (search rules)

pub returns-in-Err-start-clause-fails : goal.returns-in-Err-start-clause-fails
returns-in-Err-start-clause-fails g c =
    file_refused c.args.bytes.now (map (λ (w : Bor (List ℕ)). w.now) c.args.words.now) c.args.limit (g.O.Sink.told c.args.out.now) c.from-in-Err-start.result (search rules)

pub returns-clause-fails : goal.returns-clause-fails
returns-clause-fails g c =
    run_broke_off c.run_machine.result c.args.bytes.now (map (λ (w : Bor (List ℕ)). w.now) c.args.words.now) c.args.limit c.in-Ok.file _ (g.O.Sink.told c.args.out.now) (g.O.Sink.told c.run_machine.new.out)
    c.in-Ok.ensures.loads c.in-Ok-start.ensures.fit c.in-Ok-start.ensures.starts c.run_machine.ensures.fault c.run_machine.ensures.broke
