use Rattle.std.proofs.Common.{◌≡◌, ◌++◌, take}
use Rattle.elf_file.specs.File.{code_bytes}
use Rattle.elf_file.proofs.push.push_words.Given as goal

abbrev pub invariant-loop-word : goal.invariant-loop-word
invariant-loop-word l = l.file.items ≡ l.fn.file.items ++ code_bytes (take l.word-index l.words)
