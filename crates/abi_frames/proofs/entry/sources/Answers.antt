use Rattle.std.proofs.Common.{rules, ◌≡◌, ◌<◌, ◌++◌, ◌-◌, ◌+◌, [], ◌∷◌, ap, sym, ◌∙◌, append_assoc}
use Rattle.abi_frames.specs.Functions.{source_in, sources}
use Rattle.abi_frames.proofs.Sources.{source, next_source}
use Rattle.abi_frames.proofs.entry.sources.Goals as goal

pub loop-number-preserved : goal.loop-number-preserved
loop-number-preserved c =
    let n = c.loop-number.number in
    let ds = c.args.params.now in
    let few : n < 8 = c.loop-number-test.true in
    let pushed : c.push.new.self.items ≡ c.loop-number.all.items ++ (source (source_in n 0 ds) ∷ []) = search rules in
    ap (λ l. l ++ sources (8 - (n + 1)) (n + 1) ds) pushed
    ∙ (append_assoc c.loop-number.all.items (source (source_in n 0 ds) ∷ []) (sources (8 - (n + 1)) (n + 1) ds)
    ∙ (ap (λ l. c.loop-number.all.items ++ l) (sym (next_source n ds few)) ∙ c.loop-number.invariant))
