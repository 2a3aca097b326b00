use Rattle.std.proofs.Common.{◌≡◌, ◌++◌, ◌∙◌, ap, map, [], ◌∷◌, string_bytes}
use Rattle.std.proofs.lemmas.List.{map-append}
use Rattle.shell.specs.Lines.{line}
use Rattle.shell.proofs.LineLemmas.{lines_on, room_on}
use Rattle.shell.proofs.dis_lines.push_lines.Goals as goal

pub loop-rest-preserved : goal.loop-rest-preserved
loop-rest-preserved c =
    let pushed : map string_bytes c.push.new.self.items ≡ map string_bytes c.loop-rest.lines.items ++ string_bytes c.in_ok-next.next ∷ [] = ap (map string_bytes) c.in_ok-push.ensures.items ∙ map-append string_bytes _ _ in
    record {
      lines = lines_on _ _ _ c.loop-rest.address c.loop-rest.rest.now _ c.in-len4-up.len_at_least (c.in_ok-next.ensures ∙ ap (line c.loop-rest.address) c.from_le_bytes.ensures) pushed c.loop-rest.invariant.lines;
      room = room_on _ _ _ c.in-len4-up.len_at_least c.loop-rest.invariant.room;
    }
