-- A text that is read up to its end.
use Rattle.std.proofs.Common.{◌≡◌, ℕ, ◌+◌, Bool, true, false, cond, List, length, Option, Some, None, refl, ap, option_and_then}
use Rattle.std.proofs.lemmas.Option.{same_Some}
use Rattle.il_lex.specs.Scan.{scan}
use Rattle.il_lex.specs.Next.{lines_in}
use Rattle.il_reader.specs.Prelude.{State, start, DefinitionParts, TextParts, definitions, is_end, whole, text_step, to_the_end, whole_text}

abbrev Read : Type 0
Read = List DefinitionParts × State

abbrev parts : List ℕ → Read → TextParts
parts bytes x = record { definitions = x.0; symbols = x.1.symbols; lines = lines_in bytes + 1; bytes = length bytes }

refused_at : (bytes : List ℕ) (x : Read) (b : Bool) → cond b (Some x) None ≡ None → cond b (Some (parts bytes x)) None ≡ None
refused_at bytes x true e = let h : Some x ≡ None = e in cc
refused_at bytes x false e = refl

refused : (bytes : List ℕ) (o : Option Read) → option_and_then (λ (x : Read). to_the_end x.0 x.1) o ≡ None → option_and_then (whole bytes) o ≡ None
refused bytes None e = refl
refused bytes (Some x) e = refused_at bytes x (is_end (scan x.1.rest)) e

pub text_refused : (bytes : List ℕ) → whole_text (start bytes) ≡ None → text_step bytes ≡ None
text_refused bytes e = refused bytes (definitions (start bytes)) e

same_at : (x y : Read) (b : Bool) → cond b (Some x) None ≡ Some y → x ≡ y
same_at x y true e = same_Some x y e
same_at x y false e = let h : None ≡ Some y = e in cc

same : (o : Option Read) (y : Read) → option_and_then (λ (x : Read). to_the_end x.0 x.1) o ≡ Some y → o ≡ Some y
same None y e = e
same (Some x) y e = ap Some (same_at x y (is_end (scan x.1.rest)) e)

pub definitions_read : (bytes : List ℕ) (ds : List DefinitionParts) (s : State) → whole_text (start bytes) ≡ Some (ds, s) → definitions (start bytes) ≡ Some (ds, s)
definitions_read bytes ds s e = same (definitions (start bytes)) (ds, s) e

read_at : (bytes : List ℕ) (x y : Read) (b : Bool) → cond b (Some x) None ≡ Some y → cond b (Some (parts bytes x)) None ≡ Some (parts bytes y)
read_at bytes x y true e = ap (λ (z : Read). Some (parts bytes z)) (same_Some x y e)
read_at bytes x y false e = let h : None ≡ Some y = e in cc

taken : (bytes : List ℕ) (o : Option Read) (y : Read) → option_and_then (λ (x : Read). to_the_end x.0 x.1) o ≡ Some y → option_and_then (whole bytes) o ≡ Some (parts bytes y)
taken bytes None y e = let h : None ≡ Some y = e in cc
taken bytes (Some x) y e = read_at bytes x y (is_end (scan x.1.rest)) e

pub text_read : (bytes : List ℕ) (ds : List DefinitionParts) (s : State) → whole_text (start bytes) ≡ Some (ds, s)
    → text_step bytes ≡ Some (record { definitions = ds; symbols = s.symbols; lines = lines_in bytes + 1; bytes = length bytes })
text_read bytes ds s e = taken bytes (definitions (start bytes)) (ds, s) e
