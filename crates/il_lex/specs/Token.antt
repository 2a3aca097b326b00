-- Tokens one after another in a text.
use Rattle.std.specs.Prelude.{◌≡◌, ◌<◌, ◌≤◌, length, Option, Some, None, Result, Ok, Err, slice_range}
use Rattle.il_lex.specs.Next.{line_at, IsNext, IsEnd, IsBad}
use Rattle.il_lex.specs.Place.{Place, left}
use Rattle.il_lex.specs.declared.tokens.Token.{Token}
use Rattle.il_lex.specs.declared.tokens.LexError.{LexError}

-- The token is the next one behind a place. `new` is the place behind it. Its text is the slice of
-- its span, nothing but its gap lies between the place and the span, and its line is that of its
-- first byte.
pub record IsTokenAt (old : Place) (token : Token) (new : Place) : Type 0 where
  pub next : IsNext (left old) token.kind (slice_range old.text old.at token.span.start)
      token.text.now (left new)
  pub order : old.at ≤ token.span.start
  pub some : token.span.start < token.span.end
  pub within : token.span.end ≤ length old.text
  pub text : token.text.now ≡ slice_range old.text token.span.start token.span.end
  pub line : token.line ≡ line_at old.text token.span.start
  pub after : new ≡ record { text = old.text; at = token.span.end }

-- What a call answers at a place, and the place afterwards: the next token; nothing at the end; an
-- error of the line where no token stands. Only a token is passed.
abbrev pub Answers : Place → Option (Result Token LexError) → Place → Type 0
Answers old None new = IsEnd (left old) × (new ≡ old)
Answers old (Some (Ok token)) new = IsTokenAt old token new
Answers old (Some (Err e)) new = IsBad (left old) × (e.line ≡ line_at old.text old.at) × (new ≡ old)
