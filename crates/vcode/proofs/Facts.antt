-- Claims of passes whose code is in the same state as the code before: facts on registers and memory,
-- known at the start of each block.
use Rattle.std.specs.Prelude.{ℕ, List, ◌≡◌}
use Rattle.il_ast.specs.declared.value.Value.{Value}
use Rattle.il_ast.specs.Prelude.{Memory}
use Rattle.vcode.specs.Places.{Values}
use Rattle.vcode.specs.Rewrites.{Claims}

pub record Facts : Type 1 where
  pub Known : Type 0
  pub hold : Known → List Value → Memory → Values ℕ → Type 0
  pub at_start : (block : ℕ) → Known

-- registers hold the same, and what is known is true
abbrev pub claimed : Facts → Claims
claimed f =
    record {
      Claim = f.Known;
      holds = λ q globals memory before after. (after ≡ before) × f.hold q globals memory before;
      arrives = λ q k n. (n ≡ k) × (q ≡ f.at_start k);
    }
