-- The names in a set.
use Rattle.std.specs.Prelude.{ℕ, List}
use Rattle.il_reader.specs.declared.names.Key.{Key}

abbrev pub key_bytes : Key → List ℕ
key_bytes key = key.bytes.now
