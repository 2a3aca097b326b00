use Rattle.std.proofs.Common.{List, ◌∙◌, ap, subst}
use Rattle.rv_isa.specs.Prelude.{Words}
use Rattle.obj_link.specs.Prelude.{contents_of, program}
use Rattle.elf_file.specs.Conditions.{Loads}
use Rattle.elf_file.specs.File.{executable_of}
use Rattle.qbec.specs.Symbols.{listing_of}
use Rattle.qbec.proofs.symbols.listing.listed.Goals as goal

pub returns : goal.returns
returns g c =
    record {
      codes = c.in_ok-codes.codes.items;
      words = c.in_ok-codes.ensures.words;
      is = c.in_ok-file.ensures.file;
      loads =
          subst (λ (ws : List Words). Loads c.in_ok-file.file.items (executable_of (contents_of (program c.args.linked.now) ws))) c.as_slice-words.ensures.value
          c.in_ok-file.ensures.loads;
      lists = c.in_ok-listing.ensures ∙ ap (listing_of c.args.linked.now.texts.now (program c.args.linked.now)) c.as_slice-words.ensures.value;
    }
