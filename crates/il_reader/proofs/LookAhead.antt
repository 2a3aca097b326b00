-- The token at the front lies within the bytes that are left.
use Rattle.std.proofs.Common.{◌≡◌, ℕ, ◌+◌, ◌<◌, ◌≤◌, List, length, sym, subst, arith}
use Rattle.il_lex.specs.Next.{line_ends, IsAhead}
use Rattle.il_lex.specs.Scan.{scan}
use Rattle.il_lex.specs.declared.kind.Kind.{Kind}
use Rattle.il_lex.specs.declared.kind.Kind.TheVariants.{Symbol, Newline, Word, Global, Temp, Label, Natural, Negative, Quoted}
use Rattle.il_lex.specs.declared.scan.Ahead.{Ahead}
use Rattle.il_lex.specs.declared.scan.Ahead.TheVariants.{Found}
use Rattle.il_lex.proofs.Exact.{scan_meaning}

pub record IsWithin (bytes : List ℕ) (gap len : ℕ) : Type 0 where
  pub some : 0 < len
  pub within : gap + len ≤ length bytes

pub found_within : (bytes : List ℕ) (kind : Kind) (gap len : ℕ) → Found kind gap len ≡ scan bytes → IsWithin bytes gap len
found_within bytes kind gap len e =
    let P : Ahead → Type 0 = IsAhead bytes in
    let ahead = subst P (sym e) (scan_meaning bytes) in
    record { some = ahead.1; within = ahead.2 }

-- a token ends a line at most
pub line_ends-bound : (kind : Kind) → line_ends kind ≤ 1
line_ends-bound (Symbol s) = omega arith
line_ends-bound Newline = omega arith
line_ends-bound Word = omega arith
line_ends-bound Global = omega arith
line_ends-bound Temp = omega arith
line_ends-bound Label = omega arith
line_ends-bound (Natural n) = omega arith
line_ends-bound (Negative n) = omega arith
line_ends-bound Quoted = omega arith
