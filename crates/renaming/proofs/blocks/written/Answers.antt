use Rattle.std.proofs.Common.{◌≡◌, ℕ, true, Option, ap, sym, ◌∙◌, rules}
use Rattle.std.specs.Option.{option_map_or}
use Rattle.renaming.specs.Renamed.{is_name, behind, with_destination, owners_of, names_of}
use Rattle.renaming.proofs.blocks.written.Goals as goal

pub returns-then-is_called-clause-line : goal.returns-then-is_called-clause-line
returns-then-is_called-clause-line c =
    let names = c.args.names.now in
    let fits : is_name (owners_of names) c.args.register c.args.name ≡ true = search rules in
    record {
      named = c.requires.named;
      name = c.args.name;
      fits = ap (λ (w : Option ℕ). option_map_or (λ r. is_name (owners_of names) r c.args.name) w true) c.requires.writes ∙ fits;
      line = c.put_destination.ensures ∙ ap (with_destination c.args.name) c.in_ok-put.ensures;
      behind_it = c.in_ok-is_called.ensures.names c.if-is_called.true ∙ sym (ap (λ (w : Option ℕ). behind (names_of names) w c.args.name) c.requires.writes);
    }
