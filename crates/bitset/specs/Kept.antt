-- The words that a set keeps, wherever they stand. No public clause cites this module.
use Rattle.std.specs.Prelude.{ℕ, List}
use Rattle.bitset.specs.declared.kept.Kept.{Kept}
use Rattle.bitset.specs.declared.kept.Kept.TheVariants.{One, Many}

abbrev pub kept_words : Kept → List ℕ
kept_words (One words) = words
kept_words (Many words) = words.items
