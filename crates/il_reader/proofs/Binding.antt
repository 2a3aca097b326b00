-- Steps one after another, of which it is known what the first reads.
use Rattle.std.proofs.Common.{◌≡◌, List, Option, Some, None, refl, ap, option_and_then}
use Rattle.il_reader.specs.Prelude.{State, Step, ◌>>=◌, ◌>>◌, on_line, line_ends}

pub bind_some : {A B : Type 0} (p : Step A) (f : A → Step B) (s m : State) (x : A) → p s ≡ Some (x, m) → ◌>>=◌ p f s ≡ f x m
bind_some p f s m x e = ap (option_and_then (λ x. f x.0 x.1)) e

pub bind_none : {A B : Type 0} (p : Step A) (f : A → Step B) (s : State) → p s ≡ None → ◌>>=◌ p f s ≡ None
bind_none p f s e = ap (option_and_then (λ x. f x.0 x.1)) e

abbrev next_of : {A B : Type 0} → (A → Step B) → A × State → Option (B × State)
next_of f x = f x.0 x.1

-- with the end of the line read
abbrev ended : {A : Type 0} → A → List (Unit {0}) × State → Option (A × State)
ended x y = Some (x, y.1)

abbrev line_of : {A : Type 0} → A × State → Option (A × State)
line_of x = option_and_then (ended x.0) (line_ends x.1)

abbrev behind_line : {A B : Type 0} → (A → Step B) → A × State → Option (B × State)
behind_line f x = option_and_then (λ (y : List (Unit {0}) × State). f x.0 y.1) (line_ends x.1)

ends : {A B : Type 0} (x : A) (f : A → Step B) (o : Option (List (Unit {0}) × State))
    → option_and_then (λ (y : List (Unit {0}) × State). f x y.1) o ≡ option_and_then (next_of f) (option_and_then (ended x) o)
ends x f None = refl
ends x f (Some y) = refl

line_read : {A B : Type 0} (f : A → Step B) (o : Option (A × State))
    → option_and_then (behind_line f) o ≡ option_and_then (next_of f) (option_and_then line_of o)
line_read f None = refl
line_read f (Some x) = ends x.0 f (line_ends x.1)

-- the end of a line may count to what stands before it
pub on_line_then : {A B : Type 0} (p : Step A) (f : A → Step B) (s : State) → ◌>>=◌ p (λ x. line_ends >> f x) s ≡ ◌>>=◌ (on_line p) f s
on_line_then p f s = line_read f (p s)
